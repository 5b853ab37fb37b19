-- For the law that events are rounds: a close needs only how many messages came of each source, and
-- the sole one. So a node closes on its inbox as the rounds do on what is heard, if as many came
-- from each source, and each of them is one of those.
use Rattle.std.proofs.{Common.{◌≡◌, ℕ, ◌==◌, Bool, true, false, List, [], ◌∷◌, map, filter, length, refl, ◌∙◌, ap, arith, ◌⊎◌, inl, inr, cond, get_or}, lemmas.List.Elements.{All-head, All-tail}}
use Rattle.std.specs.Prelude.{All}
use Rattle.rb_base.specs.{Nodes.Side, Sizes.Sizes, declared.values.See.See, declared.values.See.TheVariants.Nothing}
use Rattle.rb_rules.specs.{declared.closing.Closed.Closed, declared.plan.Plan.Plan, declared.plan.Window.Window, declared.sense.Expect.Expect, Book.Row, Clock.Timeline, Core.of_source, ExactStage.each_node, Hearing.{Coming, arrival_of, close_window, sole_time, judged_see, row_of}, NodeState.NodeState, NodeSteps.{expect_of, close}, Sense.{Arrival, sense_of}, WorldStep.coming_from}
use mathlib.Core.Path.{fun_ext}

-- the entry is one of the list
abbrev pub IsOneOf : Coming → List Coming → Type 0
IsOneOf x [] = ⊥
IsOneOf x (y ∷ ys) = (x ≡ y) ⊎ IsOneOf x ys

-- `P` holds for each item of the list
abbrev pub Every : {X : Type 0} → (X → Type 0) → List X → Type 0
Every P [] = Unit {0}
Every P (x ∷ xs) = P x × Every P xs

pub all-every : {X : Type 0} (P : X → Type 0) (xs : List X) → All P xs → Every P xs
all-every P [] a = tt
all-every P (x ∷ xs) a = (All-head P x xs a, all-every P xs (All-tail P x xs a))

-- `xs` has as many entries as `ys`, and all of them are entries of `ys`
pub record AllOf (xs ys : List Coming) : Type 0 where
  pub as_many : length xs ≡ length ys
  pub entries : Every (λ x. IsOneOf x ys) xs

pub same-sense : (e : Expect) (c : Timeline) (xs ys : List Coming) → AllOf xs ys
    → sense_of e (map (arrival_of c) xs) ≡ sense_of e (map (arrival_of c) ys)
same-sense e c [] [] a = refl
same-sense e c [] (y ∷ ys) a = absurd (omega (arith, a.as_many))
same-sense e c (x ∷ xs) [] a = absurd (omega (arith, a.as_many))
same-sense e c (x ∷ []) (y ∷ []) a =
    elim a.entries.0 [ inl same ↦ ap (λ z. sense_of e (map (arrival_of c) (z ∷ []))) same | inr none ↦ absurd none ]
same-sense e c (x ∷ []) (y ∷ (z ∷ ys)) a = absurd (omega (arith, a.as_many))
same-sense e c (x ∷ (z ∷ xs)) (y ∷ []) a = absurd (omega (arith, a.as_many))
same-sense e c (x ∷ (z ∷ xs)) (y ∷ (v ∷ ys)) a = refl

pub same-time : (xs ys : List Coming) → AllOf xs ys → sole_time xs ≡ sole_time ys
same-time [] [] a = refl
same-time [] (y ∷ ys) a = absurd (omega (arith, a.as_many))
same-time (x ∷ xs) [] a = absurd (omega (arith, a.as_many))
same-time (x ∷ []) (y ∷ []) a = elim a.entries.0 [ inl same ↦ ap (λ z. z.time) same | inr none ↦ absurd none ]
same-time (x ∷ []) (y ∷ (z ∷ ys)) a = absurd (omega (arith, a.as_many))
same-time (x ∷ (z ∷ xs)) (y ∷ []) a = absurd (omega (arith, a.as_many))
same-time (x ∷ (z ∷ xs)) (y ∷ (v ∷ ys)) a = refl

-- an arrival as the core keeps it
abbrev pub kept_as : Timeline → Coming → ℕ × Arrival
kept_as clock c = (c.from, arrival_of clock c)

-- what the inbox has from source `j` is what came from it
pub from-came : (clock : Timeline) (j : ℕ) (got : List Coming) → of_source (map (kept_as clock) got) j ≡ map (arrival_of clock) (coming_from got j)
from-came clock j [] = refl
from-came clock j (c ∷ cs) = one (from-came clock j cs) (c.from == j)
  where
    one : of_source (map (kept_as clock) cs) j ≡ map (arrival_of clock) (coming_from cs j) → (b : Bool)
        → map (λ (a : ℕ × Arrival). a.1) (cond b (kept_as clock c ∷ filter (λ a. a.0 == j) (map (kept_as clock) cs)) (filter (λ a. a.0 == j) (map (kept_as clock) cs)))
        ≡ map (arrival_of clock) (cond b (c ∷ coming_from cs j) (coming_from cs j))
    one more true = ap (λ l. arrival_of clock c ∷ l) more
    one more false = more

-- closes with the same senses are the same
pub same-close : (sizes : Sizes) (plan : Plan) (me : Side) (i : ℕ) (st : NodeState) (w : Window) (f g : ℕ → List Arrival)
    → ((j : ℕ) → sense_of (expect_of sizes plan.version st w.slot w.stage) (f j) ≡ sense_of (expect_of sizes plan.version st w.slot w.stage) (g j))
    → close_window sizes plan me i st w f ≡ close_window sizes plan me i st w g
same-close sizes plan me i st w f g same = ap (close sizes me i st w.slot w.stage w.first) (fun_ext same)

-- a close on the inbox is a close on what is heard
pub close-is : (sizes : Sizes) (plan : Plan) (me : Side) (i : ℕ) (st : NodeState) (w : Window) (clock : Timeline) {inbox : _} (got : List Coming) (heard : ℕ → List Coming) → inbox ≡ map (kept_as clock) got → ((j : ℕ) → AllOf (coming_from got j) (heard j))
    → close_window sizes plan me i st w (of_source inbox) ≡ close_window sizes plan me i st w (λ j. map (arrival_of clock) (heard j))
close-is sizes plan me i st w clock got heard is all =
    let e : Expect = expect_of sizes plan.version st w.slot w.stage in
    ap (λ x. close_window sizes plan me i st w (of_source x)) is
    ∙ same-close sizes plan me i st w (of_source (map (kept_as clock) got)) (λ j. map (arrival_of clock) (heard j))
    (λ j. ap (sense_of e) (from-came clock j got) ∙ same-sense e clock (coming_from got j) (heard j) (all j))

-- a node tells the same row with what came as with what is heard
pub row-is : (me : Side) (i : ℕ) (st : NodeState) (got : List Coming) (heard : ℕ → List Coming) (c : Closed) → ((j : ℕ) → AllOf (coming_from got j) (heard j))
    → row_of me i st (coming_from got) c ≡ row_of me i st heard c
unfolding row_of
row-is me i st got heard c all =
    ap (λ (sees : ℕ → See). let r : Row = record (row_of me i st heard c) { sees = each_node sees } in r)
    (fun_ext (λ j. ap (λ t. judged_see t (get_or c.sees j Nothing)) (same-time (coming_from got j) (heard j) (all j))))
