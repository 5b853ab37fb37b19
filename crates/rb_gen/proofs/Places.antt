-- Which line stands where in the text of a generated scenario.
use Rattle.std.proofs.{Common.{◌≡◌, ℕ, zero, suc, ◌+◌, ◌-◌, ◌*◌, ◌/◌, ◌%◌, ◌<◌, ◌≤◌, List, [], ◌∷◌, ◌++◌, length, get_or, slice_get, Some, None, append_assoc, refl, sym, ap, ◌∙◌, zero-add, arith}, lemmas.List.{get_or_append_left, get_or-append-add, length-append}, lemmas.List.FromFn.{get_or-range_with_len, length-map-range_with_len, length-range_with_len}, lemmas.Option.{get_or_from_slice_get, slice_get-get_or, slice_get_past}}
use Rattle.std.specs.List.{flat_map}
use Rattle.rb_base.specs.{Counting.numbers, declared.node.NodeName.TheVariants.{Biu, Rmu}}
use Rattle.rb_rules.specs.{declared.link.Rule.Rule, declared.say.Say.Say, Goodness.Scenario}
use Rattle.rb_gen.specs.{Generated.{IsGenerated, clock_of, drawn_from, rule_of, say_to, scenario_of}, Text.{clock_entry, fault_lines, lines_of, root_lines, rule_lines, say_lines}}

-- ---- pieces of one length

pieces_length : {X A : Type 0} (f : X → List A) (w : ℕ) → ((x : X) → length (f x) ≡ w) → (xs : List X) → length (flat_map f xs) ≡ w * length xs
pieces_length f w each [] = omega arith
pieces_length f w each (x ∷ xs) =
    let rest = pieces_length f w each xs in
    let here = each x in
    length-append (f x) (flat_map f xs) ∙ ap (λ n. n + length (flat_map f xs)) here ∙ ap (λ n. w + n) rest ∙ omega arith

-- line `j` of piece `i` is line w * i + j of all pieces, if each has `w` lines
piece : {X A : Type 0} (f : X → List A) (w : ℕ) → ((x : X) → length (f x) ≡ w) → (xs : List X) (i j : ℕ) (e : X) (d : A) → i < length xs → j < w
    → get_or (flat_map f xs) (w * i + j) d ≡ get_or (f (get_or xs i e)) j d
piece f w each [] i j e d lt inside = absurd (omega (arith, lt))
piece f w each (x ∷ xs) zero j e d lt inside =
    let at : w * 0 + j ≡ j = omega arith in
    ap (λ n. get_or (f x ++ flat_map f xs) n d) at ∙ get_or_append_left (f x) (flat_map f xs) d j (omega (arith, each x, inside))
piece f w each (x ∷ xs) (suc i) j e d lt inside =
    let at : w * suc i + j ≡ w + (w * i + j) = omega arith in
    ap (λ n. get_or (f x ++ flat_map f xs) n d) (at ∙ ap (λ n. n + (w * i + j)) (sym (each x))) ∙ get_or-append-add (f x) (flat_map f xs) (w * i + j) d
    ∙ piece f w each xs i j e d (omega (arith, lt)) inside

-- an item behind the first list
after : {X : Type 0} (xs ys : List X) (n m : ℕ) (d : X) → n ≡ length xs + m → get_or (xs ++ ys) n d ≡ get_or ys m d
after xs ys n m d e = ap (λ k. get_or (xs ++ ys) k d) e ∙ get_or-append-add xs ys m d

-- ---- the parts of the text

-- how many entries there are
pub record Counts (sc : Scenario) : Type 0 where
  pub clocks : length sc.clocks ≡ 13
  pub rules : length sc.delays.rules ≡ 80
  pub says : length sc.says ≡ 4

pub counts : (sc : Scenario) → IsGenerated sc → Counts sc
unfolding scenario_of
counts sc is = record {
  clocks = ap (λ (s : Scenario). length s.clocks) is.scenario ∙ length-map-range_with_len (clock_of (drawn_from is.seed)) 0 13;
  rules = ap (λ (s : Scenario). length s.delays.rules) is.scenario ∙ length-map-range_with_len (rule_of (drawn_from is.seed) is.frames) 0 80;
  says = ap (λ (s : Scenario). length s.says) is.scenario ∙ length-map-range_with_len (say_to is.frames) 0 4;
}

abbrev clocks_in : Scenario → List (List ℕ)
clocks_in sc = flat_map (clock_entry sc.clocks) (numbers 13)

abbrev links_in : Scenario → List (List ℕ)
links_in sc = flat_map rule_lines sc.delays.rules

abbrev biu_fault_in : Scenario → List (List ℕ)
biu_fault_in sc = fault_lines (Biu 7) (get_or sc.biu_onsets 7 None)

abbrev rmu_fault_in : Scenario → List (List ℕ)
rmu_fault_in sc = fault_lines (Rmu 4) (get_or sc.rmu_onsets 4 None)

abbrev says_in : Scenario → List (List ℕ)
says_in sc = flat_map say_lines sc.says

abbrev behind_biu_fault : Scenario → List (List ℕ)
behind_biu_fault sc = rmu_fault_in sc ++ says_in sc

abbrev behind_links : Scenario → List (List ℕ)
behind_links sc = biu_fault_in sc ++ behind_biu_fault sc

abbrev behind_clocks : Scenario → List (List ℕ)
behind_clocks sc = links_in sc ++ behind_links sc

regrouped : {X : Type 0} (a b c d e f : List X) → a ++ b ++ c ++ d ++ e ++ f ≡ a ++ (b ++ (c ++ (d ++ (e ++ f))))
regrouped a b c d e f =
    append_assoc (a ++ b ++ c ++ d) e f ∙ append_assoc (a ++ b ++ c) d (e ++ f) ∙ append_assoc (a ++ b) c (d ++ (e ++ f))
    ∙ append_assoc a b (c ++ (d ++ (e ++ f)))

lines_are : (sc : Scenario) → lines_of sc ≡ root_lines sc.frames ++ (clocks_in sc ++ behind_clocks sc)
unfolding lines_of
lines_are sc = regrouped (root_lines sc.frames) (clocks_in sc) (links_in sc) (biu_fault_in sc) (rmu_fault_in sc) (says_in sc)

-- how long the parts are
record Lengths (sc : Scenario) : Type 0 where
  pub clocks : length (clocks_in sc) ≡ 52
  pub links : length (links_in sc) ≡ 320
  pub says : length (says_in sc) ≡ 28

lengths : (sc : Scenario) → IsGenerated sc → Lengths sc
lengths sc is =
    let count = counts sc is in
    record {
      clocks = omega (arith, pieces_length (clock_entry sc.clocks) 4 (λ x. refl) (numbers 13), length-range_with_len 0 13);
      links = omega (arith, pieces_length rule_lines 4 (λ x. refl) sc.delays.rules, count.rules);
      says = omega (arith, pieces_length say_lines 7 (λ x. refl) sc.says, count.says);
    }

pub lines_length : (sc : Scenario) → IsGenerated sc → length (lines_of sc) ≡ 414
lines_length sc is =
    let l = lengths sc is in
    let links = length-append (links_in sc) (behind_links sc) in
    let clocks = length-append (clocks_in sc) (behind_clocks sc) in
    ap length (lines_are sc) ∙ omega (arith, links, clocks, l.clocks, l.links, l.says)

-- ---- which line it is

pub at_root : (sc : Scenario) (n : ℕ) → n < 6 → get_or (root_lines sc.frames) n [] ≡ get_or (lines_of sc) n []
at_root sc n lt =
    sym (ap (λ lines. get_or lines n []) (lines_are sc) ∙ get_or_append_left (root_lines sc.frames) (clocks_in sc ++ behind_clocks sc) [] n (omega (arith, lt)))

-- from line 6 on the lines are those of the clocks and of what follows them
after_root : (sc : Scenario) (n : ℕ) → 6 ≤ n → get_or (lines_of sc) n [] ≡ get_or (clocks_in sc ++ behind_clocks sc) (n - 6) []
after_root sc n ge =
    ap (λ lines. get_or lines n []) (lines_are sc) ∙ after (root_lines sc.frames) (clocks_in sc ++ behind_clocks sc) n (n - 6) [] (omega (arith, ge))

pub at_clock : (sc : Scenario) → IsGenerated sc → (n : ℕ) → 6 ≤ n → n < 58
    → get_or (clock_entry sc.clocks ((n - 6) / 4)) ((n - 6) % 4) [] ≡ get_or (lines_of sc) n []
at_clock sc is n ge lt =
    let i = (n - 6) / 4 in
    let j = (n - 6) % 4 in
    let l = lengths sc is in
    let at : n - 6 ≡ 4 * i + j = omega arith in
    let inside : i < 13 = omega (arith, lt) in
    sym (after_root sc n ge
    ∙ get_or_append_left (clocks_in sc) (behind_clocks sc) [] (n - 6) (omega (arith, l.clocks, lt))
    ∙ ap (λ k. get_or (clocks_in sc) k []) at
    ∙ piece (clock_entry sc.clocks) 4 (λ x. refl) (numbers 13) i j 0 [] (omega (arith, length-range_with_len 0 13, inside)) (omega arith)
    ∙ ap (λ k. get_or (clock_entry sc.clocks k) j []) (get_or-range_with_len 0 13 i 0 inside ∙ zero-add i))

-- from line 58 on the lines are those behind the clocks
after_clocks : (sc : Scenario) → IsGenerated sc → (n : ℕ) → 58 ≤ n
    → get_or (lines_of sc) n [] ≡ get_or (behind_clocks sc) (n - 58) []
after_clocks sc is n ge =
    let l = lengths sc is in
    after_root sc n (omega (arith, ge)) ∙ after (clocks_in sc) (behind_clocks sc) (n - 6) (n - 58) [] (omega (arith, ge, l.clocks))

pub at_link : (sc : Scenario) → IsGenerated sc → (n : ℕ) (other : Rule) → 58 ≤ n → n < 378
    → get_or (rule_lines (get_or sc.delays.rules ((n - 58) / 4) other)) ((n - 58) % 4) [] ≡ get_or (lines_of sc) n []
at_link sc is n other ge lt =
    let i = (n - 58) / 4 in
    let j = (n - 58) % 4 in
    let l = lengths sc is in
    let count = counts sc is in
    let at : n - 58 ≡ 4 * i + j = omega arith in
    let inside : i < 80 = omega (arith, lt) in
    sym (after_clocks sc is n ge
    ∙ get_or_append_left (links_in sc) (behind_links sc) [] (n - 58) (omega (arith, l.links, lt))
    ∙ ap (λ k. get_or (links_in sc) k []) at
    ∙ piece rule_lines 4 (λ x. refl) sc.delays.rules i j other [] (omega (arith, count.rules, inside)) (omega arith))

-- from line 378 on the lines are those behind the links
after_links : (sc : Scenario) → IsGenerated sc → (n : ℕ) → 378 ≤ n → get_or (lines_of sc) n [] ≡ get_or (behind_links sc) (n - 378) []
after_links sc is n ge =
    let l = lengths sc is in
    after_clocks sc is n (omega (arith, ge))
    ∙ after (links_in sc) (behind_links sc) (n - 58) (n - 378) [] (omega (arith, ge, l.links))

pub at_biu_fault : (sc : Scenario) → IsGenerated sc → (n : ℕ) → 378 ≤ n → n < 382
    → get_or (fault_lines (Biu 7) (get_or sc.biu_onsets 7 None)) (n - 378) [] ≡ get_or (lines_of sc) n []
at_biu_fault sc is n ge lt =
    sym (after_links sc is n ge ∙ get_or_append_left (biu_fault_in sc) (behind_biu_fault sc) [] (n - 378) (omega (arith, lt)))

-- from line 382 on the lines are those behind BIU 7's fault
after_biu_fault : (sc : Scenario) → IsGenerated sc → (n : ℕ) → 382 ≤ n → get_or (lines_of sc) n [] ≡ get_or (behind_biu_fault sc) (n - 382) []
after_biu_fault sc is n ge =
    after_links sc is n (omega (arith, ge)) ∙ after (biu_fault_in sc) (behind_biu_fault sc) (n - 378) (n - 382) [] (omega (arith, ge))

pub at_rmu_fault : (sc : Scenario) → IsGenerated sc → (n : ℕ) → 382 ≤ n → n < 386
    → get_or (fault_lines (Rmu 4) (get_or sc.rmu_onsets 4 None)) (n - 382) [] ≡ get_or (lines_of sc) n []
at_rmu_fault sc is n ge lt =
    sym (after_biu_fault sc is n ge ∙ get_or_append_left (rmu_fault_in sc) (says_in sc) [] (n - 382) (omega (arith, lt)))

pub at_say : (sc : Scenario) → IsGenerated sc → (n : ℕ) (say : Say) → 386 ≤ n → n < 414 → slice_get sc.says ((n - 386) / 7) ≡ Some say
    → get_or (say_lines say) ((n - 386) % 7) [] ≡ get_or (lines_of sc) n []
at_say sc is n say ge lt found =
    let i = (n - 386) / 7 in
    let j = (n - 386) % 7 in
    let count = counts sc is in
    let at : n - 386 ≡ 7 * i + j = omega arith in
    let inside : i < 4 = omega (arith, lt) in
    sym (after_biu_fault sc is n (omega (arith, ge))
    ∙ after (rmu_fault_in sc) (says_in sc) (n - 382) (n - 386) [] (omega (arith, ge))
    ∙ ap (λ k. get_or (says_in sc) k []) at
    ∙ piece say_lines 7 (λ x. refl) sc.says i j say [] (omega (arith, count.says, inside)) (omega arith)
    ∙ ap (λ s. get_or (say_lines s) j []) (get_or_from_slice_get sc.says i say say found))

-- ---- the answer

pub found_line : (sc : Scenario) → IsGenerated sc → (n : ℕ) (bytes : List ℕ) → n < 414 → bytes ≡ get_or (lines_of sc) n [] → Some bytes ≡ slice_get (lines_of sc) n
found_line sc is n bytes lt e = ap Some e ∙ sym (slice_get-get_or (lines_of sc) n [] (omega (arith, lines_length sc is, lt)))

pub no_line : (sc : Scenario) → IsGenerated sc → (n : ℕ) → 414 ≤ n → None ≡ slice_get (lines_of sc) n
no_line sc is n ge = sym (slice_get_past (lines_of sc) n (omega (arith, lines_length sc is, ge)))
