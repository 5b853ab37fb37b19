-- For the law that stamps make no difference: what a close below the sync slot makes of what came
-- needs only the bytes of each source.
use Rattle.std.proofs.{Common.{◌≡◌, ℕ, ◌+◌, ◌^◌, ◌<◌, ◌≤◌, ◌==◌, ◌&&◌, max, nat_le, Bool, true, false, if◌then◌else◌, List, [], ◌∷◌, map, filter, cond, refl, ap, sym, ◌∙◌, arith, Option, Some, None}, lemmas.Bool.Decides.nat_tests, Math.Path.fun_ext}
use Rattle.rb_base.specs.{Nodes.{Side, has}, Sizes.{Sizes, sync_slot_of}, declared.values.Heard.Heard}
use Rattle.rb_rules.specs.{declared.closing.Closing.Closing, declared.message.Message.Message, declared.plan.Plan.Plan, declared.plan.Window.Window, declared.role.Role.Role, declared.sense.Expect.Expect, declared.sense.Sense.Sense, declared.sense.Sense.TheVariants.{Silent, One, Bad}, Core.{Act, Core, act_at, act_on, epoch_at, is_last, is_spent, of_source, pass_to, said_at, slot_wanted, state_at, state_kept, tick, wants, window_here}, ExactStage.{Outcome, close_exact, closing_of, compare_with, each_node, outcome_of, present, reference_value}, Goodness.Scenario, Hearing.close_window, Majority.majority_of, NodeState.{NodeState, sender_at}, NodeSteps.expect_of, Ports.PortState, Sense.{Arrival, sense_of, sense_of_one, suits, value_in}, Slots.{Sender, expects, role_of}, Spelling.message_in, Standing.{does_wrong, has_evidence, is_eligible, with_evidence}, SyncStage.close_sync, WorldStep.{pass_and_tick, wants_in, word_of}}
use Rattle.rb_laws_sweeps.specs.Stamps.{StampsMakeNoDifference, restamped, stamped_anew}

-- Senses.

-- a sense without its stamp
abbrev unstamped : Sense → Sense
unstamped Silent = Silent
unstamped (One stamp m) = One 0 m
unstamped Bad = Bad

value-unstamped : (s : Sense) → value_in (unstamped s) ≡ value_in s
value-unstamped Silent = refl
value-unstamped (One stamp m) = refl
value-unstamped Bad = refl

wrong-unstamped : (expected : Bool) (s : Sense) → does_wrong expected (unstamped s) ≡ does_wrong expected s
wrong-unstamped true Silent = refl
wrong-unstamped true (One stamp m) = refl
wrong-unstamped true Bad = refl
wrong-unstamped false Silent = refl
wrong-unstamped false (One stamp m) = refl
wrong-unstamped false Bad = refl

-- from each source both sense the same, apart from stamps
abbrev SenseAlike : (ℕ → Sense) → (ℕ → Sense) → Type 0
SenseAlike f g = (j : ℕ) → unstamped (f j) ≡ unstamped (g j)

value-alike : (f g : ℕ → Sense) → SenseAlike f g → (j : ℕ) → value_in (f j) ≡ value_in (g j)
value-alike f g same j = sym (value-unstamped (f j)) ∙ ap value_in (same j) ∙ value-unstamped (g j)

wrong-alike : (f g : ℕ → Sense) → SenseAlike f g → (expected : Bool) (j : ℕ) → does_wrong expected (f j) ≡ does_wrong expected (g j)
wrong-alike f g same expected j = sym (wrong-unstamped expected (f j)) ∙ ap (does_wrong expected) (same j) ∙ wrong-unstamped expected (g j)

-- the close of a stage below the sync slot
exact-alike : (sizes : Sizes) (me : Side) (i : ℕ) (st : NodeState) (slot stage : ℕ) (f g : ℕ → Sense) → SenseAlike f g
    → close_exact sizes me i st slot stage f ≡ close_exact sizes me i st slot stage g
unfolding close_exact outcome_of
exact-alike sizes me i st slot stage f g same =
    let role : Role = role_of sizes slot in
    let sender : Sender = sender_at sizes me st slot in
    let expected : ℕ → Bool = expects me role sender st.far.trusted stage in
    let taken : closing_of st.far expected f ≡ closing_of st.far expected g =
    ap (λ (taken : ℕ → Option Heard). let c : Closing = record { taken = each_node taken; voted = majority_of (present (each_node taken)) } in c)
    (fun_ext (λ j. ap (λ v. if expected j && is_eligible st.far j then v else None) (value-alike f g same j))) in
    let evidence : has_evidence st.far expected f ≡ has_evidence st.far expected g =
    fun_ext (λ j. ap (λ b. has st.far.trusted j && b) (wrong-alike f g same (expected j) j)) in
    let c : Closing = closing_of st.far expected g in
    let o : Outcome = outcome_of sizes me i st slot stage role sender g c in
    ap (outcome_of sizes me i st slot stage role sender f) taken
    ∙ ap (λ (e : ℕ → Bool). record o {
      state = record o.state { far = compare_with (reference_value me i st role sender stage c) c (with_evidence e st.far) };
    }) evidence

-- What came.

-- the sense of what came from a source, by the bytes alone
abbrev sense_by : Expect → List (List ℕ) → Sense
sense_by e [] = Silent
sense_by e (bytes ∷ []) = sense_of_one e 0 (message_in e.version bytes)
sense_by e (bytes ∷ (more ∷ others)) = Bad

one-unstamped : (e : Expect) (stamp : ℕ) (o : Option Message) → unstamped (sense_of_one e stamp o) ≡ sense_of_one e 0 o
one-unstamped e stamp None = refl
one-unstamped e stamp (Some m) = by (suits e m)
  where
    by : (b : Bool) → unstamped (if b then One stamp m else Bad) ≡ (if b then One 0 m else Bad)
    by true = refl
    by false = refl

sense-is-by : (e : Expect) (xs : List Arrival) → unstamped (sense_of e xs) ≡ sense_by e (map (λ a. a.bytes) xs)
sense-is-by e [] = refl
sense-is-by e (a ∷ []) = one-unstamped e a.stamp (message_in e.version a.bytes)
sense-is-by e (a ∷ (b ∷ others)) = refl

-- the bytes of each arrival from source `j`
abbrev pub bytes_from : List (ℕ × Arrival) → ℕ → List (List ℕ)
bytes_from inbox j = map (λ a. a.bytes) (of_source inbox j)

-- both inboxes have the same bytes from each source
abbrev pub BytesAlike : List (ℕ × Arrival) → List (ℕ × Arrival) → Type 0
BytesAlike inbox other = (j : ℕ) → bytes_from inbox j ≡ bytes_from other j

window-alike : (sizes : Sizes) (plan : Plan) (me : Side) (i : ℕ) (st : NodeState) (w : Window) (inbox other : List (ℕ × Arrival)) → w.slot < sync_slot_of sizes → BytesAlike inbox other
    → close_window sizes plan me i st w (of_source inbox) ≡ close_window sizes plan me i st w (of_source other)
window-alike sizes plan me i st w inbox other below same = by (w.slot == sync_slot_of sizes) (grind (arith, nat_tests))
  where
    e : Expect
    e = expect_of sizes plan.version st w.slot w.stage

    f : ℕ → Sense
    f j = sense_of e (of_source inbox j)

    g : ℕ → Sense
    g j = sense_of e (of_source other j)

    alike : SenseAlike f g
    alike j = sense-is-by e (of_source inbox j) ∙ ap (sense_by e) (same j) ∙ sym (sense-is-by e (of_source other j))

    by : (b : Bool) → b ≡ false
        → (elim b as (λ _. Outcome) [ true ↦ close_sync sizes me st w.stage (st.epoch + w.first) f | false ↦ close_exact sizes me i st w.slot w.stage f ])
        ≡ (elim b as (λ _. Outcome) [ true ↦ close_sync sizes me st w.stage (st.epoch + w.first) g | false ↦ close_exact sizes me i st w.slot w.stage g ])
    by true h = cc
    by false h = exact-alike sizes me i st w.slot w.stage f g alike

-- other stamps leave the bytes of each source
restamped-alike : (stamps : ℕ → ℕ) (inbox : List (ℕ × Arrival)) → BytesAlike (restamped stamps inbox) inbox
restamped-alike stamps [] j = refl
restamped-alike stamps (a ∷ inbox) j = one (restamped-alike stamps inbox j) (a.0 == j)
  where
    new : ℕ × Arrival
    new = (a.0, record { stamp = stamps a.0; bytes = a.1.bytes })

    others : List (ℕ × Arrival)
    others = restamped stamps inbox

    shown : List (ℕ × Arrival) → List (List ℕ)
    shown xs = map (λ (a : Arrival). a.bytes) (map (λ (a : ℕ × Arrival). a.1) xs)

    one : bytes_from others j ≡ bytes_from inbox j → (b : Bool)
        → shown (cond b (new ∷ filter (λ a. a.0 == j) others) (filter (λ a. a.0 == j) others))
        ≡ shown (cond b (a ∷ filter (λ a. a.0 == j) inbox) (filter (λ a. a.0 == j) inbox))
    one more true = ap (λ l. a.1.bytes ∷ l) more
    one more false = more

-- Ticks.

abbrev act_by : Sizes → Side → NodeState → ℕ → List (ℕ × Arrival) → Option Message → NodeState → Outcome → Bool → Act
act_by sizes me st k inbox m kept o b = elim b [
  | true ↦ record { core = record { state = o.state; had = k + 1; inbox = [] }; epoch = epoch_at sizes me st k; message = m; closed = Some o.closed }
  | false ↦ record { core = record { state = kept; had = k + 1; inbox = inbox }; epoch = epoch_at sizes me st k; message = m; closed = None }
]

-- a tick says the same whatever came
message-is : (sizes : Sizes) (plan : Plan) (me : Side) (i word : ℕ) (c : Core)
    → (tick sizes plan me i c word).message
    ≡ (elim (is_spent c) as (λ _. Option Message) [ true ↦ None | false ↦ said_at sizes plan me i (state_at sizes plan me c.state c.had) word c.had ])
unfolding tick act_at act_on
message-is sizes plan me i word c = by (is_spent c)
  where
    st : NodeState
    st = state_at sizes plan me c.state c.had

    m : Option Message
    m = said_at sizes plan me i st word c.had

    kept : NodeState
    kept = state_kept sizes me i st word m

    o : Outcome
    o = close_window sizes plan me i kept (window_here sizes plan me st c.had) (of_source c.inbox)

    acts : (b : Bool) → (act_by sizes me st c.had c.inbox m kept o b).message ≡ m
    acts true = refl
    acts false = refl

    by : (b : Bool) → (elim b as (λ _. Act) [
      | true ↦ record { core = c; epoch = None; message = None; closed = None }
      | false ↦ act_at sizes plan me i c word
    ]).message ≡ (elim b as (λ _. Option Message) [ true ↦ None | false ↦ m ])
    by true = refl
    by false = acts (is_last sizes plan me st c.had)

word-alike : (sc : Scenario) (ports : List PortState) (me : Side) (i : ℕ) (st : NodeState) (k : ℕ) (inbox other : List (ℕ × Arrival))
    → word_of sc ports i (wants_in sc me i (record { state = st; had = k; inbox = inbox }))
    ≡ word_of sc ports i (wants_in sc me i (record { state = st; had = k; inbox = other }))
unfolding wants
word-alike sc ports me i st k inbox other =
    ap (λ m. word_of sc ports i (slot_wanted sc.sizes m))
    (message-is sc.sizes sc.plan me i 0 (record { state = st; had = k; inbox = inbox })
    ∙ sym (message-is sc.sizes sc.plan me i 0 (record { state = st; had = k; inbox = other })))

-- a tick that ends a window of a slot before the sync slot needs only the bytes that came of each
-- source
tick-alike : (sizes : Sizes) (plan : Plan) (me : Side) (i word : ℕ) (st : NodeState) (k : ℕ) (inbox other : List (ℕ × Arrival))
    → is_last sizes plan me (state_at sizes plan me st k) k ≡ true → (window_here sizes plan me (state_at sizes plan me st k) k).slot < sync_slot_of sizes → k < 2 ^ 31
    → BytesAlike inbox other
    → tick sizes plan me i (record { state = st; had = k; inbox = inbox }) word ≡ tick sizes plan me i (record { state = st; had = k; inbox = other }) word
unfolding tick act_at act_on
tick-alike sizes plan me i word st k inbox other last below small same = by (nat_le (2 ^ 31) k) (grind (arith, nat_tests))
  where
    now : NodeState
    now = state_at sizes plan me st k

    m : Option Message
    m = said_at sizes plan me i now word k

    kept : NodeState
    kept = state_kept sizes me i now word m

    w : Window
    w = window_here sizes plan me now k

    closing : List (ℕ × Arrival) → Outcome
    closing xs = close_window sizes plan me i kept w (of_source xs)

    at : List (ℕ × Arrival) → Core
    at xs = record { state = st; had = k; inbox = xs }

    acts : (b : Bool) → b ≡ true → act_by sizes me now k inbox m kept (closing inbox) b ≡ act_by sizes me now k other m kept (closing other) b
    acts true h = ap (λ o. act_by sizes me now k [] m kept o true) (window-alike sizes plan me i kept w inbox other below same)
    acts false h = cc

    by : (b : Bool) → b ≡ false
        → (elim b as (λ _. Act) [ true ↦ record { core = at inbox; epoch = None; message = None; closed = None } | false ↦ act_at sizes plan me i (at inbox) word ])
        ≡ (elim b as (λ _. Act) [ true ↦ record { core = at other; epoch = None; message = None; closed = None } | false ↦ act_at sizes plan me i (at other) word ])
    by true h = cc
    by false h = acts (is_last sizes plan me now k) last

-- the quiet ticks before a tick pass
passed : (k : ℕ) (c : Core) → c.had ≤ k → pass_to k c ≡ record c { had = k }
passed k c le = let e : max c.had k ≡ k = omega arith in ap (λ n. record c { had = n }) e

pub ticks-alike : (sc : Scenario) (ports : List PortState) (me : Side) (i k : ℕ) (c d : Core)
    → is_last sc.sizes sc.plan me (state_at sc.sizes sc.plan me c.state k) k ≡ true
    → (window_here sc.sizes sc.plan me (state_at sc.sizes sc.plan me c.state k) k).slot < sync_slot_of sc.sizes
    → k < 2 ^ 31 → d.state ≡ c.state → d.had ≤ k → c.had ≤ k → BytesAlike d.inbox c.inbox
    → pass_and_tick sc ports me i k d ≡ pass_and_tick sc ports me i k c
unfolding pass_and_tick
ticks-alike sc ports me i k c d last below small state few le same =
    ap ticked (passed k d few) ∙ ap (λ st. ticked (at st d.inbox)) state
    ∙ ap (tick sc.sizes sc.plan me i (at c.state d.inbox)) (word-alike sc ports me i c.state k d.inbox c.inbox)
    ∙ tick-alike sc.sizes sc.plan me i (word_of sc ports i (wants_in sc me i (at c.state c.inbox))) c.state k d.inbox c.inbox last below small same
    ∙ sym (ap ticked (passed k c le))
  where
    at : NodeState → List (ℕ × Arrival) → Core
    at st xs = record { state = st; had = k; inbox = xs }

    ticked : Core → Act
    ticked ready = tick sc.sizes sc.plan me i ready (word_of sc ports i (wants_in sc me i ready))

pub stamps-make-no-difference : StampsMakeNoDifference
stamps-make-no-difference sc ports me i k had stamps c last below small few le =
    ticks-alike sc ports me i k c (stamped_anew had stamps c) last below small refl few le (restamped-alike stamps c.inbox)
