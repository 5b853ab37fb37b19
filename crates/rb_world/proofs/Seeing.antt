-- A node sees nothing of nodes that are not there.
use Rattle.std.proofs.{Common.{◌≡◌, ℕ, ◌+◌, ◌<◌, ◌≤◌, ◌==◌, ◌&&◌, Bool, true, false, Some, None, Option, All, List, [], ◌∷◌, cond, filter, length, map, get_or, refl, ap, ◌∙◌, subst, arith, inl, inr, if◌then◌else◌}, lemmas.Bool.cases_lt, lemmas.Bool.Decides.nat_tests, lemmas.List.FromFn.{get_or-map-range_with_len, length-range_with_len}, lemmas.List.{get_or_past, length-map}, lemmas.List.Elements.{All-head, All-tail}, lemmas.Option.same_Some}
use Rattle.rb_base.specs.{Counting.numbers, Nodes.Side, Sizes.{Sizes, sync_slot_of}, declared.values.See.See, declared.values.See.TheVariants.Nothing}
use Rattle.rb_rules.specs.{declared.closing.Closed.Closed, declared.message.Message.Message, declared.plan.Plan.Plan, declared.plan.Window.Window, declared.sense.Sense.Sense, Core.{Act, Core, act_at, act_on, epoch_at, is_last, is_spent, of_source, tick, window_here}, ExactStage.{Outcome, close_exact, each_node, outcome_of, see_value}, Hearing.{Coming, close_window}, NodeState.{NodeState, sender_at}, NodeSteps.expect_of, Sense.{Arrival, sense_of, stamp_in, value_in}, Slots.{expects, role_of}, Standing.{Standing, is_eligible, taken_of}, SyncStage.{close_sync, expects_call, see_time, sync_outcome_of}}
use Rattle.rb_world.specs.Sites.{ComeTogether}

-- Nothing is accepted from a source from which nothing came.

map-twice : {X Y Z : Type 0} (f : X → Y) (g : Y → Z) (xs : List X) → map g (map f xs) ≡ map (λ x. g (f x)) xs
map-twice f g [] = refl
map-twice f g (x ∷ xs) = ap (λ l. g (f x) ∷ l) (map-twice f g xs)

of-node : {X : Type 0} (f : ℕ → X) (see : X → See) (j : ℕ) → see (f j) ≡ Nothing → get_or (map see (each_node f)) j Nothing ≡ Nothing
of-node f see j e =
    ap (λ l. get_or l j Nothing) (map-twice f see (numbers 16)) ∙ (elim (cases_lt j 16) [
      | inl lt ↦ get_or-map-range_with_len (λ n. see (f n)) 0 16 j j Nothing lt (omega arith) ∙ e
      | inr ge ↦
          let long : length (map (λ n. see (f n)) (numbers 16)) ≡ 16 = length-map (numbers 16) (λ n. see (f n)) ∙ length-range_with_len 0 16 in
          get_or_past (map (λ n. see (f n)) (numbers 16)) j Nothing (omega (arith, long, ge))
    ])

none-taken : {X : Type 0} (part : Sense → Option X) (s : Standing) (expected : ℕ → Bool) (sense : ℕ → Sense) (j : ℕ) → part (sense j) ≡ None
    → taken_of part s expected sense j ≡ None
none-taken part s expected sense j e = by (expected j && is_eligible s j)
  where
    by : (b : Bool) → (if b then part (sense j) else None) ≡ None
    by true = e
    by false = refl

exact-sees : (sizes : Sizes) (me : Side) (i : ℕ) (st : NodeState) (slot stage : ℕ) (sense : ℕ → Sense) (j : ℕ) → value_in (sense j) ≡ None
    → get_or (close_exact sizes me i st slot stage sense).closed.sees j Nothing ≡ Nothing
unfolding close_exact outcome_of
exact-sees sizes me i st slot stage sense j e =
    let expected : ℕ → Bool = expects me (role_of sizes slot) (sender_at sizes me st slot) st.far.trusted stage in
    of-node (taken_of value_in st.far expected sense) see_value j (ap see_value (none-taken value_in st.far expected sense j e))

sync-sees : (sizes : Sizes) (me : Side) (st : NodeState) (stage first : ℕ) (sense : ℕ → Sense) (j : ℕ) → stamp_in (sense j) ≡ None
    → get_or (close_sync sizes me st stage first sense).closed.sees j Nothing ≡ Nothing
unfolding close_sync sync_outcome_of
sync-sees sizes me st stage first sense j e =
    of-node (taken_of stamp_in st.far (expects_call me st stage) sense) see_time j (ap see_time (none-taken stamp_in st.far (expects_call me st stage) sense j e))

window-sees : (sizes : Sizes) (plan : Plan) (me : Side) (i : ℕ) (st : NodeState) (w : Window) (arrivals : ℕ → List Arrival) (j : ℕ) → arrivals j ≡ []
    → get_or (close_window sizes plan me i st w arrivals).closed.sees j Nothing ≡ Nothing
window-sees sizes plan me i st w arrivals j none = by (w.slot == sync_slot_of sizes)
  where
    sense : ℕ → Sense
    sense n = sense_of (expect_of sizes plan.version st w.slot w.stage) (arrivals n)

    by : (b : Bool) → get_or (elim b as (λ _. Outcome) [ true ↦ close_sync sizes me st w.stage (st.epoch + w.first) sense | false ↦ close_exact sizes me i st w.slot w.stage sense ]).closed.sees j Nothing
        ≡ Nothing
    by true = sync-sees sizes me st w.stage (st.epoch + w.first) sense j (ap (λ l. stamp_in (sense_of (expect_of sizes plan.version st w.slot w.stage) l)) none)
    by false = exact-sees sizes me i st w.slot w.stage sense j (ap (λ l. value_in (sense_of (expect_of sizes plan.version st w.slot w.stage) l)) none)

-- A tick.

none-some : (x : Closed) → None ≡ Some x → ⊥
none-some x e = cc

on-sees : (sizes : Sizes) (plan : Plan) (me : Side) (i : ℕ) (c : Core) (st : NodeState) (m : Option Message) (kept : NodeState) (j : ℕ) (shown : Closed) → of_source c.inbox j ≡ []
    → (act_on sizes plan me i c st m kept).closed ≡ Some shown → get_or shown.sees j Nothing ≡ Nothing
unfolding act_on
on-sees sizes plan me i c st m kept j shown none = by (is_last sizes plan me st c.had)
  where
    closing : Outcome
    closing = close_window sizes plan me i kept (window_here sizes plan me st c.had) (of_source c.inbox)

    by : (b : Bool) → (elim b as (λ _. Act) [
      | true ↦ record { core = record { state = closing.state; had = c.had + 1; inbox = [] }; epoch = epoch_at sizes me st c.had; message = m; closed = Some closing.closed }
      | false ↦ record { core = record { state = kept; had = c.had + 1; inbox = c.inbox }; epoch = epoch_at sizes me st c.had; message = m; closed = None }
    ]).closed ≡ Some shown → get_or shown.sees j Nothing ≡ Nothing
    by true e =
        subst (λ (x : Closed). get_or x.sees j Nothing ≡ Nothing) (same_Some closing.closed shown e)
        (window-sees sizes plan me i kept (window_here sizes plan me st c.had) (of_source c.inbox) j none)
    by false e = absurd (none-some shown e)

at-sees : (sizes : Sizes) (plan : Plan) (me : Side) (i : ℕ) (c : Core) (word j : ℕ) (shown : Closed) → of_source c.inbox j ≡ []
    → (act_at sizes plan me i c word).closed ≡ Some shown → get_or shown.sees j Nothing ≡ Nothing
unfolding act_at
at-sees sizes plan me i c word j shown none e = on-sees sizes plan me i c _ _ _ j shown none e

pub tick-sees : (sizes : Sizes) (plan : Plan) (me : Side) (i : ℕ) (c : Core) (word j : ℕ) (shown : Closed) → of_source c.inbox j ≡ []
    → (tick sizes plan me i c word).closed ≡ Some shown → get_or shown.sees j Nothing ≡ Nothing
unfolding tick
tick-sees sizes plan me i c word j shown none = by (is_spent c)
  where
    by : (b : Bool) → (elim b as (λ _. Act) [ true ↦ record { core = c; epoch = None; message = None; closed = None } | false ↦ act_at sizes plan me i c word ]).closed ≡ Some shown
        → get_or shown.sees j Nothing ≡ Nothing
    by true e = absurd (none-some shown e)
    by false e = at-sees sizes plan me i c word j shown none e

-- What came, came of nodes that are there.

apart : (a j n : ℕ) → a < n → n ≤ j → (a == j) ≡ false
apart a j n h k = grind (arith, nat_tests, h, k)

cons-first : (a b : ℕ) (xs ys : List ℕ) → a ∷ xs ≡ b ∷ ys → a ≡ b
cons-first a b xs ys e = cc

cons-rest : (a b : ℕ) (xs ys : List ℕ) → a ∷ xs ≡ b ∷ ys → xs ≡ ys
cons-rest a b xs ys e = cc

pub none-came : (inbox : List (ℕ × Arrival)) (got : List Coming) (n j : ℕ) → ComeTogether inbox got → All (λ (c : Coming). c.from < n) got → n ≤ j → of_source inbox j ≡ []
none-came [] got n j together all h = refl
none-came (a ∷ inbox) [] n j together all h = absurd (let never : a.0 ∷ map (λ (a : ℕ × Arrival). a.0) inbox ≡ [] = together in cc)
none-came (a ∷ inbox) (c ∷ got) n j together all h =
    let first : a.0 ≡ c.from = cons-first a.0 c.from _ _ together in
    let below : c.from < n = All-head (λ (c : Coming). c.from < n) c got all in
    let not_here : (a.0 == j) ≡ false = apart a.0 j n (omega (arith, first, below)) h in
    ap (λ b. map (λ (a : ℕ × Arrival). a.1) (cond b (a ∷ filter (λ (a : ℕ × Arrival). a.0 == j) inbox) (filter (λ (a : ℕ × Arrival). a.0 == j) inbox))) not_here
    ∙ none-came inbox got n j (cons-rest a.0 c.from _ _ together) (All-tail (λ (c : Coming). c.from < n) c got all) h
