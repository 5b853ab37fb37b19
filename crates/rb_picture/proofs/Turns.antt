-- a turn of each loop over lines, and its end
use Rattle.std.proofs.{Common.{◌≡◌, ◌∙◌, ℕ, true, false, ◌+◌, ◌<◌, ◌≤◌, ◌==◌, if◌then◌else◌, List, [], ◌∷◌, ◌++◌, length, get_or, drop, refl, sym, ap, subst, add-one}, lemmas.List.{at_drop_all, at_drop_more, drop_more}}
use Rattle.rb_base.specs.{Nodes.has, declared.values.Heard.Heard}
use Rattle.rb_picture.specs.{declared.line.Line.Line, declared.drawn.Stand.Stand, declared.sheet.Sheet.Sheet, declared.extent.Extent.Extent, declared.extent.Facts.Facts, declared.extent.Newest.Newest, Extents.{extent_after, extent_from, facts_after, facts_from, mark_of, newest_after, top_below}, Markup.each_below, Columns.{all_bring, brings, line_mark}, Picture.{Piece, pieces_at, pieces_from, stand_with, with_piece, with_pieces}}

pub extent_turn : (extent : Extent) (newest : Newest) (ls : List Line) (i : ℕ) (d : Line) → i < length ls
    → extent_from extent newest (drop i ls)
    ≡ extent_from (extent_after extent (newest_after newest (get_or ls i d)).facts (get_or ls i d)) (newest_after newest (get_or ls i d)) (drop (i + 1) ls)
extent_turn extent newest ls i d below = at_drop_more (extent_from extent newest) ls i d below

pub extent_end : (extent : Extent) (newest : Newest) (ls : List Line) (i : ℕ) → length ls ≤ i → extent_from extent newest (drop i ls) ≡ extent
extent_end extent newest ls i end = at_drop_all (extent_from extent newest) ls i end

pub facts_turn : (mark : ℕ) (facts : Facts) (ls : List Line) (i : ℕ) (d : Line) → i < length ls
    → facts_from mark facts (drop i ls)
    ≡ (if mark_of 0 (get_or ls i d) == mark then facts_from mark (facts_after facts (get_or ls i d)) (drop (i + 1) ls) else facts)
facts_turn mark facts ls i d below = at_drop_more (facts_from mark facts) ls i d below

pub facts_end : (mark : ℕ) (facts : Facts) (ls : List Line) (i : ℕ) → length ls ≤ i → facts_from mark facts (drop i ls) ≡ facts
facts_end mark facts ls i end = at_drop_all (facts_from mark facts) ls i end

pub bring_turn : (mark : ℕ) (value : Heard) (ls : List Line) (i : ℕ) (d : Line) → i < length ls
    → all_bring mark value (drop i ls)
    ≡ (if line_mark (get_or ls i d) == mark then (if brings value (get_or ls i d) then all_bring mark value (drop (i + 1) ls) else false) else true)
bring_turn mark value ls i d below = at_drop_more (all_bring mark value) ls i d below

pub bring_end : (mark : ℕ) (value : Heard) (ls : List Line) (i : ℕ) → length ls ≤ i → all_bring mark value (drop i ls) ≡ true
bring_end mark value ls i end = at_drop_all (all_bring mark value) ls i end

pub with_pieces-append : (sheet : Sheet) (text : List ℕ) (ps qs : List Piece) → with_pieces sheet text (ps ++ qs) ≡ with_pieces sheet (with_pieces sheet text ps) qs
with_pieces-append sheet text [] qs = refl
with_pieces-append sheet text (p ∷ ps) qs = with_pieces-append sheet (with_piece sheet text p) ps qs

-- what line `x` shows with `lines` behind it
abbrev next_pieces : Stand → Line → List Line → List Piece
next_pieces stand x lines = pieces_at stand (stand_with stand x lines) x

pieces_first : (sheet : Sheet) (text : List ℕ) (stand : Stand) (x : Line) (xs lines : List Line) → lines ≡ x ∷ xs
    → with_pieces sheet text (pieces_from stand lines) ≡ with_pieces sheet (with_pieces sheet text (next_pieces stand x lines)) (pieces_from (stand_with stand x lines) xs)
pieces_first sheet text stand x xs lines is =
    subst (λ ls. with_pieces sheet text (pieces_from stand ls) ≡ with_pieces sheet (with_pieces sheet text (next_pieces stand x ls)) (pieces_from (stand_with stand x ls) xs))
    (sym is)
    (with_pieces-append sheet text (next_pieces stand x (x ∷ xs)) (pieces_from (stand_with stand x (x ∷ xs)) xs))

pub pieces_turn : (sheet : Sheet) (text : List ℕ) (stand : Stand) (ls : List Line) (i : ℕ) (d : Line) → i < length ls
    → with_pieces sheet text (pieces_from stand (drop i ls))
    ≡ with_pieces sheet (with_pieces sheet text (pieces_at stand (stand_with stand (get_or ls i d) (drop i ls)) (get_or ls i d)))
    (pieces_from (stand_with stand (get_or ls i d) (drop i ls)) (drop (i + 1) ls))
pieces_turn sheet text stand ls i d below = pieces_first sheet text stand (get_or ls i d) (drop (i + 1) ls) (drop i ls) (drop_more ls i d below)

-- if what line `i` shows was written, what the lines behind it show is still to be written
pub line_turn : (sheet : Sheet) (text next : List ℕ) (stand after : Stand) (ls rest : List Line) (i : ℕ) (d : Line) → i < length ls → rest ≡ drop i ls
    → after ≡ stand_with stand (get_or ls i d) rest → next ≡ with_pieces sheet text (pieces_at stand after (get_or ls i d))
    → with_pieces sheet next (pieces_from after (drop (i + 1) ls)) ≡ with_pieces sheet text (pieces_from stand (drop i ls))
line_turn sheet text next stand after ls rest i d below rest_is is written =
    ap (λ t. with_pieces sheet t (pieces_from after (drop (i + 1) ls))) written
    ∙ subst (λ a. with_pieces sheet (with_pieces sheet text (pieces_at stand a (get_or ls i d))) (pieces_from a (drop (i + 1) ls)) ≡ with_pieces sheet text (pieces_from stand (drop i ls)))
    (sym (is ∙ ap (λ r. stand_with stand (get_or ls i d) r) rest_is)) (sym (pieces_turn sheet text stand ls i d below))

pub pieces_end : (sheet : Sheet) (text : List ℕ) (stand : Stand) (ls : List Line) (i : ℕ) → length ls ≤ i → with_pieces sheet text (pieces_from stand (drop i ls)) ≡ text
pieces_end sheet text stand ls i end = at_drop_all (λ lines. with_pieces sheet text (pieces_from stand lines)) ls i end

pub each_next : (with_one : List ℕ → ℕ → List ℕ) (n : ℕ) (text : List ℕ) → each_below with_one (n + 1) text ≡ with_one (each_below with_one n text) n
unfolding each_below
each_next with_one n text = ap (λ m. each_below with_one m text) (add-one n)

pub each_none : (with_one : List ℕ → ℕ → List ℕ) (text : List ℕ) → each_below with_one 0 text ≡ text
unfolding each_below
each_none with_one text = refl

pub top_none : (set : ℕ) → top_below 0 set ≡ 0
unfolding top_below
top_none set = refl

pub top_next : (n set : ℕ) → top_below (n + 1) set ≡ (if has set n then n + 1 else top_below n set)
unfolding top_below
top_next n set = ap (λ m. top_below m set) (add-one n) ∙ ap (λ m. if has set n then m else top_below n set) (sym (add-one n))

pub ruleset each_turns = (each_none, each_next)

pub ruleset top_turns = (top_none, top_next)

pub ruleset line_turns = (extent_turn, extent_end, facts_turn, facts_end)

pub ruleset bring_turns = (bring_turn, bring_end)

pub ruleset piece_turns = (pieces_turn, pieces_end, with_pieces-append)
