-- The numbers with one turn more.
use Rattle.std.proofs.{Common.{◌≡◌, ℕ, ◌+◌, max, List, [], ◌∷◌, ◌++◌, Option, Some, None, length, refl, ap, ◌∙◌, arith, length-append}, lemmas.Grind.flat_map-append, lemmas.List.append-nil, lemmas.List.Elements.filter_map-append}
use Rattle.std.specs.{List.{flat_map, last_or}, Option.option_to_list}
use Rattle.rb_base.proofs.Plain.{last_or-append}
use Rattle.rb_rules.specs.{Book.Record, Book.Record.{Frame, Slot, Ended, Breach}}
use Rattle.rb_world_book.specs.{Records.record_of, declared.turn.Turn.Turn}
use Rattle.rb_run.specs.{declared.totals.Totals.Totals, Tallies.{Block, block_in, blocks_of, convicted_in, counted, differences_in, frames_in, greatest, lines_in, tally_of, totals_of}, Turns.records_in}
use Rattle.rb_run.proofs.Texts.{records-more}

pub greatest-append : (xs ys : List ℕ) → greatest (xs ++ ys) ≡ max (greatest xs) (greatest ys)
greatest-append [] ys = omega arith
greatest-append (x ∷ xs) ys = let rest = greatest-append xs ys in omega (arith, rest)

abbrev made_of : ℕ → ℕ → ℕ → ℕ → Totals
made_of f d c s = record { frames = f; deliveries = d; convicted = c; spread = s }

same-totals : (a b : Totals) → a.frames ≡ b.frames → a.deliveries ≡ b.deliveries → a.convicted ≡ b.convicted → a.spread ≡ b.spread → a ≡ b
same-totals a b f d c s =
    ap (λ x. made_of x a.deliveries a.convicted a.spread) f
    ∙ ap (λ x. made_of b.frames x a.convicted a.spread) d
    ∙ ap (λ x. made_of b.frames b.deliveries x a.spread) c
    ∙ ap (λ x. made_of b.frames b.deliveries b.convicted x) s

-- one more record adds its block, if it has one
blocks-more : (rs : List Record) (r : Record) → blocks_of (rs ++ r ∷ []) ≡ blocks_of rs ++ option_to_list (block_in r)
blocks-more rs (Frame frame nodes ports) = filter_map-append block_in rs (Frame frame nodes ports ∷ [])
blocks-more rs (Slot frame slot lines) = filter_map-append block_in rs (Slot frame slot lines ∷ [])
blocks-more rs Ended = filter_map-append block_in rs (Ended ∷ [])
blocks-more rs (Breach place cause) = filter_map-append block_in rs (Breach place cause ∷ [])

last-block : (rs : List Record) (r : Record) (b : Block) → block_in r ≡ Some b → last_or None (blocks_of (rs ++ r ∷ [])) ≡ Some b
last-block rs r b is = ap (last_or None) (blocks-more rs r ∙ ap (λ o. blocks_of rs ++ option_to_list o) is) ∙ last_or-append None (blocks_of rs) b

same-blocks : (rs : List Record) (r : Record) → block_in r ≡ None → blocks_of (rs ++ r ∷ []) ≡ blocks_of rs
same-blocks rs r none = blocks-more rs r ∙ ap (λ o. blocks_of rs ++ option_to_list o) none ∙ append-nil (blocks_of rs)

lines-more : (rs : List Record) (r : Record) → length (flat_map lines_in (rs ++ r ∷ [])) ≡ length (flat_map lines_in rs) + length (lines_in r)
lines-more rs r =
    ap length (flat_map-append lines_in rs (r ∷ []) ∙ ap (λ ls. flat_map lines_in rs ++ ls) (append-nil (lines_in r)))
    ∙ length-append (flat_map lines_in rs) (lines_in r)

spread-more : (rs : List Record) (r : Record) (b : Block) → block_in r ≡ Some b
    → greatest (flat_map (λ b. differences_in b.nodes) (blocks_of (rs ++ r ∷ []))) ≡ max (greatest (flat_map (λ b. differences_in b.nodes) (blocks_of rs))) (greatest (differences_in b.nodes))
spread-more rs r b is =
    let spreads : Block → List ℕ = λ b. differences_in b.nodes in
    ap (λ bs. greatest (flat_map spreads bs)) (blocks-more rs r ∙ ap (λ o. blocks_of rs ++ option_to_list o) is)
    ∙ ap greatest (flat_map-append spreads (blocks_of rs) (b ∷ []) ∙ ap (λ ns. flat_map spreads (blocks_of rs) ++ ns) (append-nil (spreads b)))
    ∙ greatest-append (flat_map spreads (blocks_of rs)) (spreads b)

-- a record without a block changes the count of deliveries alone
no-block : (rs : List Record) (r : Record) → block_in r ≡ None → tally_of (rs ++ r ∷ []) ≡ record (tally_of rs) { deliveries = (tally_of rs).deliveries + length (lines_in r) }
no-block rs r none =
    let same = same-blocks rs r none in
    same-totals (tally_of (rs ++ r ∷ [])) (record (tally_of rs) { deliveries = (tally_of rs).deliveries + length (lines_in r) })
    (ap (λ bs. frames_in (last_or None bs)) same)
    (lines-more rs r)
    (ap (λ bs. convicted_in (last_or None bs)) same)
    (ap (λ bs. greatest (flat_map (λ b. differences_in b.nodes) bs)) same)

nothing-more : (rs : List Record) (r : Record) → block_in r ≡ None → lines_in r ≡ [] → tally_of (rs ++ r ∷ []) ≡ tally_of rs
nothing-more rs r none empty =
    no-block rs r none
    ∙ ap (λ n. record (tally_of rs) { deliveries = n })
    (let e : (tally_of rs).deliveries + length (lines_in r) ≡ (tally_of rs).deliveries + 0 = ap (λ ls. (tally_of rs).deliveries + length ls) empty in omega (arith, e))

tally-with : (rs : List Record) (o : Option Record) → tally_of (rs ++ option_to_list o) ≡ counted (tally_of rs) o
tally-with rs None = ap tally_of (append-nil rs)
tally-with rs (Some (Frame frame nodes ports)) =
    let r : Record = Frame frame nodes ports in
    let b : Block = record { frame = frame; nodes = nodes } in
    let last = last-block rs r b refl in
    let lines : length (flat_map lines_in (rs ++ r ∷ [])) ≡ length (flat_map lines_in rs) + 0 = lines-more rs r in
    same-totals (tally_of (rs ++ r ∷ [])) (counted (tally_of rs) (Some r)) (ap frames_in last) (omega (arith, lines)) (ap convicted_in last) (spread-more rs r b refl)
tally-with rs (Some (Slot frame slot lines)) = no-block rs (Slot frame slot lines) refl
tally-with rs (Some Ended) = nothing-more rs Ended refl refl
tally-with rs (Some (Breach place cause)) = nothing-more rs (Breach place cause) refl refl

-- the numbers with one more turn are those before with its record counted
pub totals-more : (turns : List Turn) (t : Turn) → totals_of (turns ++ t ∷ []) ≡ counted (totals_of turns) (record_of t)
totals-more turns t = ap tally_of (records-more turns t) ∙ tally-with (records_in turns) (record_of t)
