-- For the laws of runs: what the rounds keep of each node: its frame, its epoch, whom it trusts,
-- and which middles it knows.
use Rattle.std.proofs.{Common.{◌≡◌, ℕ, zero, suc, ◌+◌, ◌-◌, ◌*◌, ◌/◌, ◌<◌, ◌≤◌, ◌==◌, ◌&&◌, nat_lt, nat_le, Bool, true, false, List, map, refl, subst, inl, inr, ◌%◌, sym, ◌∙◌, ap, arith, Option, Some, None, slice_get, option_map, is_some, if◌then◌else◌}, lemmas.Bool.cases_lt, lemmas.Bool.Decides.nat_tests}
use Rattle.rb_base.specs.{Nodes.Side, Nodes.Side.{Biu, Rmu}, Sizes.{Sizes, sync_slot_of}, declared.values.Heard.Heard}
use Rattle.rb_base.proofs.Plain.{eq_self, less-differs}
use Rattle.rb_rules.specs.{declared.closing.Closing.Closing, declared.plan.Plan.Plan, declared.plan.Window.Window, declared.role.Role.TheVariants.Sync, declared.sense.Sense.Sense, Book.{Each, of_kind, map_each}, ExactStage.{Outcome, keep_sent, says, compare_with, close_exact, outcome_of}, Goodness.{Scenario, is_good, clock_of}, Hearing.{Coming, Sending, window_numbered, arrival_of, tail_at}, NodeState.NodeState, NodeSteps.{expect_of, close, turn_if_known}, Ports.HandIn, Rounds.{Moment, Result, window_in, word_for_window, sent_in, heard_at, close_on, go_through, results_of, after_window, begin_frame, next_frame, windows_in}, Sense.sense_of, Slots.listens, Standing.Standing, SyncStage.{close_sync, sync_outcome_of}, Plan.tail_start_of, Windows.{window_of, exact_window}}
use Rattle.rb_rules.proofs.WindowNumbers.{get-each, exact-numbered, exact-slot, sync-numbered}

-- after a window a node is in the state in which it has gone through it
pub state-after : (sc : Scenario) (m : Moment) (me : Side) (i : ℕ) (st : NodeState) → slice_get (of_kind me m.nodes) i ≡ Some st
    → slice_get (of_kind me (after_window sc m (results_of sc m)).nodes) i
    ≡ Some (go_through sc m (sent_in sc m) me i st (window_in sc m me st)).state
unfolding after_window results_of
state-after sc m me i st h =
    let go : Side → ℕ → NodeState → Result = λ me i st. go_through sc m (sent_in sc m) me i st (window_in sc m me st) in
    get-each (λ me i r. r.state) (map_each go m.nodes) me i
    ∙ ap (option_map (λ r. r.state)) (get-each go m.nodes me i ∙ ap (option_map (go me i)) h)

pub state-turned : (sc : Scenario) (hands : List HandIn) (m : Moment) (me : Side) (i : ℕ) (st : NodeState) → slice_get (of_kind me m.nodes) i ≡ Some st
    → slice_get (of_kind me (next_frame sc hands m).nodes) i ≡ Some (turn_if_known sc.sizes sc.plan me st)
unfolding begin_frame
state-turned sc hands m me i st h =
    get-each (λ me i st. turn_if_known sc.sizes sc.plan me st) m.nodes me i ∙ ap (option_map (λ st. turn_if_known sc.sizes sc.plan me st)) h

-- the frame, the epoch and the trusted nodes are the same in both states
pub record Stays (a b : NodeState) : Type 0 where
  pub frame : b.frame ≡ a.frame
  pub epoch : b.epoch ≡ a.epoch
  pub near : b.near ≡ a.near
  pub trusted : b.far.trusted ≡ a.far.trusted

pub stays-refl : (a : NodeState) → Stays a a
stays-refl a = record { frame = refl; epoch = refl; near = refl; trusted = refl }

pub stays-trans : (a b c : NodeState) → Stays a b → Stays b c → Stays a c
stays-trans a b c x y =
    record { frame = y.frame ∙ x.frame; epoch = y.epoch ∙ x.epoch; near = y.near ∙ x.near; trusted = y.trusted ∙ x.trusted }

kept-stays : (st : NodeState) (sent : Option Heard) (b : Bool) → Stays st (if b then record st { sent = sent } else st)
kept-stays st sent true = record { frame = refl; epoch = refl; near = refl; trusted = refl }
kept-stays st sent false = stays-refl st

pub keeping-stays : (sizes : Sizes) (me : Side) (i : ℕ) (st : NodeState) (slot stage word : ℕ) → Stays st (keep_sent sizes me i st slot stage word)
keeping-stays sizes me i st slot stage word =
    kept-stays st (says sizes me i st slot stage word) ((stage == 1) && is_some (says sizes me i st slot stage word))

compared-trusted : (value : Option Heard) (c : Closing) (s : Standing) → (compare_with value c s).trusted ≡ s.trusted
compared-trusted None c s = refl
compared-trusted (Some value) c s = refl

exact-stays : (sizes : Sizes) (me : Side) (i : ℕ) (st : NodeState) (slot stage : ℕ) (sense : ℕ → Sense) → Stays st (close_exact sizes me i st slot stage sense).state
unfolding close_exact outcome_of
exact-stays sizes me i st slot stage sense = record { frame = refl; epoch = refl; near = refl; trusted = compared-trusted _ _ _ }

sync-stays : (sizes : Sizes) (me : Side) (st : NodeState) (stage first : ℕ) (sense : ℕ → Sense) → Stays st (close_sync sizes me st stage first sense).state
unfolding close_sync sync_outcome_of
sync-stays sizes me st stage first sense = record { frame = refl; epoch = refl; near = refl; trusted = refl }

closes-stay : (sizes : Sizes) (me : Side) (i : ℕ) (st : NodeState) (slot stage first : ℕ) (sense : ℕ → Sense) (b : Bool)
    → Stays st (elim b as (λ _. Outcome) [ true ↦ close_sync sizes me st stage (st.epoch + first) sense | false ↦ close_exact sizes me i st slot stage sense ]).state
closes-stay sizes me i st slot stage first sense true = sync-stays sizes me st stage (st.epoch + first) sense
closes-stay sizes me i st slot stage first sense false = exact-stays sizes me i st slot stage sense

pub close-stays : (sizes : Sizes) (me : Side) (i : ℕ) (st : NodeState) (slot stage first : ℕ) (sense : ℕ → Sense) → Stays st (close sizes me i st slot stage first sense).state
close-stays sizes me i st slot stage first sense = closes-stay sizes me i st slot stage first sense (slot == sync_slot_of sizes)

-- The middles of the sync slot.

-- whether a node of kind me knows the middle of a stage before window n of a frame
abbrev pub knows : Sizes → Side → ℕ → ℕ → Bool
knows sizes me stage n = listens me Sync stage && nat_lt (3 * sync_slot_of sizes + stage - 1) n

-- the node knows the middles of the windows before window `n`, and no others
pub record Knows (sizes : Sizes) (me : Side) (n : ℕ) (st : NodeState) : Type 0 where
  pub k1 : is_some st.k1 ≡ knows sizes me 1 n
  pub k2 : is_some st.k2 ≡ knows sizes me 2 n
  pub k3 : is_some st.k3 ≡ knows sizes me 3 n

lt-both : (a b c : ℕ) → a < b → a < c → nat_lt a b ≡ nat_lt a c
lt-both a b c h k = grind (arith, nat_tests)

lt-neither : (a b c : ℕ) → b ≤ a → c ≤ a → nat_lt a b ≡ nat_lt a c
lt-neither a b c h k = grind (arith, nat_tests)

lt-true : (a b : ℕ) → a < b → true ≡ nat_lt a b
lt-true a b h = grind (arith, nat_tests)

-- no middle is known before its stage has been closed
early : (sizes : Sizes) (me : Side) (stage n : ℕ) → n + 1 ≤ 3 * sync_slot_of sizes + stage - 1 → knows sizes me stage n ≡ knows sizes me stage (n + 1)
early sizes me stage n h =
    ap (λ b. listens me Sync stage && b) (lt-neither (3 * sync_slot_of sizes + stage - 1) n (n + 1) (omega arith) h)

late : (sizes : Sizes) (me : Side) (stage n : ℕ) → 3 * sync_slot_of sizes + stage - 1 < n → knows sizes me stage n ≡ knows sizes me stage (n + 1)
late sizes me stage n h = ap (λ b. listens me Sync stage && b) (lt-both (3 * sync_slot_of sizes + stage - 1) n (n + 1) h (omega arith))

-- a stage in which a node does not listen gives the node no middle
deaf : (sizes : Sizes) (me : Side) (stage n : ℕ) → listens me Sync stage ≡ false → knows sizes me stage n ≡ knows sizes me stage (n + 1)
deaf sizes me stage n h = ap (λ b. b && nat_lt (3 * sync_slot_of sizes + stage - 1) n) h ∙ sym (ap (λ b. b && nat_lt (3 * sync_slot_of sizes + stage - 1) (n + 1)) h)

and-none : (a : Bool) (x : ℕ) → (a && nat_lt x 0) ≡ false
and-none true x = grind (arith, nat_tests)
and-none false x = refl

-- at the start of a frame no middle is known
pub knows-none : (sizes : Sizes) (me : Side) (stage : ℕ) → knows sizes me stage 0 ≡ false
knows-none sizes me stage = and-none (listens me Sync stage) (3 * sync_slot_of sizes + stage - 1)

-- a state with the same middles knows the same after a window that adds none
same-knows : (sizes : Sizes) (me : Side) (n : ℕ) (a b : NodeState) → b.k1 ≡ a.k1 → b.k2 ≡ a.k2 → b.k3 ≡ a.k3
    → ((stage : ℕ) → 1 ≤ stage → stage ≤ 3 → knows sizes me stage n ≡ knows sizes me stage (n + 1)) → Knows sizes me n a → Knows sizes me (n + 1) b
same-knows sizes me n a b e1 e2 e3 same h = record {
  k1 = ap is_some e1 ∙ h.k1 ∙ same 1 (omega arith) (omega arith);
  k2 = ap is_some e2 ∙ h.k2 ∙ same 2 (omega arith) (omega arith);
  k3 = ap is_some e3 ∙ h.k3 ∙ same 3 (omega arith) (omega arith);
}

-- `Knows` goes on through the stages of the sync slot
sync-1 : (sizes : Sizes) (me : Side) (st : NodeState) (first : ℕ) (sense : ℕ → Sense) → Knows sizes me (3 * sync_slot_of sizes + 0) st
    → Knows sizes me (3 * sync_slot_of sizes + 0 + 1) (close_sync sizes me st 1 first sense).state
unfolding close_sync sync_outcome_of
sync-1 sizes Biu st first sense h = record {
  k1 = h.k1 ∙ deaf sizes Biu 1 (3 * sync_slot_of sizes + 0) refl;
  k2 = h.k2 ∙ early sizes Biu 2 (3 * sync_slot_of sizes + 0) (omega arith);
  k3 = h.k3 ∙ deaf sizes Biu 3 (3 * sync_slot_of sizes + 0) refl;
}
sync-1 sizes Rmu st first sense h = record {
  k1 = lt-true (3 * sync_slot_of sizes + 1 - 1) (3 * sync_slot_of sizes + 0 + 1) (omega arith);
  k2 = h.k2 ∙ deaf sizes Rmu 2 (3 * sync_slot_of sizes + 0) refl;
  k3 = h.k3 ∙ early sizes Rmu 3 (3 * sync_slot_of sizes + 0) (omega arith);
}

sync-2 : (sizes : Sizes) (me : Side) (st : NodeState) (first : ℕ) (sense : ℕ → Sense) → Knows sizes me (3 * sync_slot_of sizes + 1) st
    → Knows sizes me (3 * sync_slot_of sizes + 1 + 1) (close_sync sizes me st 2 first sense).state
unfolding close_sync sync_outcome_of
sync-2 sizes Biu st first sense h = record {
  k1 = h.k1 ∙ deaf sizes Biu 1 (3 * sync_slot_of sizes + 1) refl;
  k2 = lt-true (3 * sync_slot_of sizes + 2 - 1) (3 * sync_slot_of sizes + 1 + 1) (omega arith);
  k3 = h.k3 ∙ deaf sizes Biu 3 (3 * sync_slot_of sizes + 1) refl;
}
sync-2 sizes Rmu st first sense h = record {
  k1 = h.k1 ∙ late sizes Rmu 1 (3 * sync_slot_of sizes + 1) (omega arith);
  k2 = h.k2 ∙ deaf sizes Rmu 2 (3 * sync_slot_of sizes + 1) refl;
  k3 = h.k3 ∙ early sizes Rmu 3 (3 * sync_slot_of sizes + 1) (omega arith);
}

sync-3 : (sizes : Sizes) (me : Side) (st : NodeState) (first : ℕ) (sense : ℕ → Sense) → Knows sizes me (3 * sync_slot_of sizes + 2) st
    → Knows sizes me (3 * sync_slot_of sizes + 2 + 1) (close_sync sizes me st 3 first sense).state
unfolding close_sync sync_outcome_of
sync-3 sizes Biu st first sense h = record {
  k1 = h.k1 ∙ deaf sizes Biu 1 (3 * sync_slot_of sizes + 2) refl;
  k2 = h.k2 ∙ late sizes Biu 2 (3 * sync_slot_of sizes + 2) (omega arith);
  k3 = h.k3 ∙ deaf sizes Biu 3 (3 * sync_slot_of sizes + 2) refl;
}
sync-3 sizes Rmu st first sense h = record {
  k1 = h.k1 ∙ late sizes Rmu 1 (3 * sync_slot_of sizes + 2) (omega arith);
  k2 = h.k2 ∙ deaf sizes Rmu 2 (3 * sync_slot_of sizes + 2) refl;
  k3 = lt-true (3 * sync_slot_of sizes + 3 - 1) (3 * sync_slot_of sizes + 2 + 1) (omega arith);
}

-- `Knows` goes on through the tail
tail-knows : (sizes : Sizes) (me : Side) (st : NodeState) (first : ℕ) (sense : ℕ → Sense) → Knows sizes me (3 * sync_slot_of sizes + 3) st
    → Knows sizes me (3 * sync_slot_of sizes + 3 + 1) (close_sync sizes me st 4 first sense).state
unfolding close_sync sync_outcome_of
tail-knows sizes Biu st first sense h =
    same-knows sizes Biu (3 * sync_slot_of sizes + 3) st _ refl refl refl (λ stage lo hi. late sizes Biu stage (3 * sync_slot_of sizes + 3) (omega arith)) h
tail-knows sizes Rmu st first sense h =
    same-knows sizes Rmu (3 * sync_slot_of sizes + 3) st _ refl refl refl (λ stage lo hi. late sizes Rmu stage (3 * sync_slot_of sizes + 3) (omega arith)) h

-- `Knows` goes on through each window below the sync slot
exact-knows : (sizes : Sizes) (me : Side) (i : ℕ) (st : NodeState) (slot stage n : ℕ) (sense : ℕ → Sense) → n < 3 * sync_slot_of sizes → Knows sizes me n st
    → Knows sizes me (n + 1) (close_exact sizes me i st slot stage sense).state
unfolding close_exact outcome_of
exact-knows sizes me i st slot stage n sense below h =
    same-knows sizes me n st _ refl refl refl (λ stage lo hi. early sizes me stage n (omega arith)) h

-- One window of the rounds.

kept-knows : (sizes : Sizes) (me : Side) (n : ℕ) (st : NodeState) (sent : Option Heard) (b : Bool) → Knows sizes me n st
    → Knows sizes me n (if b then record st { sent = sent } else st)
kept-knows sizes me n st sent true h = record { k1 = h.k1; k2 = h.k2; k3 = h.k3 }
kept-knows sizes me n st sent false h = h

keeping-knows : (sizes : Sizes) (me : Side) (i : ℕ) (n : ℕ) (st : NodeState) (slot stage word : ℕ) → Knows sizes me n st
    → Knows sizes me n (keep_sent sizes me i st slot stage word)
keeping-knows sizes me i n st slot stage word =
    kept-knows sizes me n st (says sizes me i st slot stage word) ((stage == 1) && is_some (says sizes me i st slot stage word))

-- the result of a node that closes a window if `b` holds, and else passes it over
gone : Bool → NodeState → Result → Result
gone b st x = elim b [ true ↦ x | false ↦ record { state = st; row = None } ]

gone-is : (sc : Scenario) (m : Moment) (sent : Each (Option Sending)) (me : Side) (i : ℕ) (st : NodeState) (w : Window)
    → go_through sc m sent me i st w
    ≡ gone (is_good sc me i m.frame w.slot && nat_le w.first w.last) st (close_on sc me i (keep_sent sc.sizes me i st w.slot w.stage (word_for_window sc m i w)) w (heard_at sc me i st w sent))
unfolding go_through gone
gone-is sc m sent me i st w = refl

gone-stays : (b : Bool) (st : NodeState) (x : Result) → Stays st x.state → Stays st (gone b st x).state
unfolding gone
gone-stays true st x h = h
gone-stays false st x h = stays-refl st

on-stays : (sc : Scenario) (me : Side) (i : ℕ) (st : NodeState) (w : Window) (heard : ℕ → List Coming) → Stays st (close_on sc me i st w heard).state
unfolding close_on
on-stays sc me i st w heard = close-stays sc.sizes me i st w.slot w.stage w.first _

-- a window changes neither frame nor epoch nor trusted nodes
pub through-stays : (sc : Scenario) (m : Moment) (sent : Each (Option Sending)) (me : Side) (i : ℕ) (st : NodeState) (w : Window)
    → Stays st (go_through sc m sent me i st w).state
through-stays sc m sent me i st w =
    let kept : NodeState = keep_sent sc.sizes me i st w.slot w.stage (word_for_window sc m i w) in
    let x : Result = close_on sc me i kept w (heard_at sc me i st w sent) in
    rw (gone-is sc m sent me i st w)
    (gone-stays (is_good sc me i m.frame w.slot && nat_le w.first w.last) st x
    (stays-trans st kept x.state (keeping-stays sc.sizes me i st w.slot w.stage (word_for_window sc m i w)) (on-stays sc me i kept w (heard_at sc me i st w sent))))

-- the close of a window, which is one of the sync slot if `in_sync` holds
closed : Sizes → Side → ℕ → NodeState → ℕ → ℕ → ℕ → (ℕ → Sense) → Bool → Outcome
closed sizes me i st slot stage first sense in_sync =
    elim in_sync [ true ↦ close_sync sizes me st stage (st.epoch + first) sense | false ↦ close_exact sizes me i st slot stage sense ]

on-knows : (sc : Scenario) (me : Side) (i n : ℕ) (st : NodeState) (w : Window) (heard : ℕ → List Coming) (in_sync : Bool) → (w.slot == sync_slot_of sc.sizes) ≡ in_sync
    → ((sense : ℕ → Sense) → Knows sc.sizes me n (closed sc.sizes me i st w.slot w.stage w.first sense in_sync).state) → Knows sc.sizes me n (close_on sc me i st w heard).state
unfolding close_on closed
on-knows sc me i n st w heard in_sync e h =
    let sense : ℕ → Sense = λ j. sense_of (expect_of sc.sizes sc.plan.version st w.slot w.stage) (map (arrival_of (clock_of sc me i)) (heard j)) in
    subst (λ b. Knows sc.sizes me n (closed sc.sizes me i st w.slot w.stage w.first sense b).state) (sym e) (h sense)

-- a node that is good closes its window, if it has one
gone-knows : (sc : Scenario) (me : Side) (n : ℕ) (good tick : Bool) (st : NodeState) (x : Result) → good ≡ true
    → (tick ≡ true → Knows sc.sizes me n x.state) → (tick ≡ false → Knows sc.sizes me n st) → Knows sc.sizes me n (gone (good && tick) st x).state
unfolding gone
gone-knows sc me n true true st x e closing over = closing refl
gone-knows sc me n true false st x e closing over = over refl
gone-knows sc me n false tick st x e closing over = cc

-- `Knows` goes on through the window of a node that is good in it
through-knows : (sc : Scenario) (m : Moment) (sent : Each (Option Sending)) (me : Side) (i n : ℕ) (st : NodeState) (w : Window) (in_sync : Bool)
    → (w.slot == sync_slot_of sc.sizes) ≡ in_sync → is_good sc me i m.frame w.slot ≡ true → Knows sc.sizes me n st
    → ((kept : NodeState) (sense : ℕ → Sense) → Knows sc.sizes me n kept → Knows sc.sizes me (n + 1) (closed sc.sizes me i kept w.slot w.stage w.first sense in_sync).state)
    → (nat_le w.first w.last ≡ false → Knows sc.sizes me (n + 1) st) → Knows sc.sizes me (n + 1) (go_through sc m sent me i st w).state
through-knows sc m sent me i n st w in_sync e good h closing over =
    let kept : NodeState = keep_sent sc.sizes me i st w.slot w.stage (word_for_window sc m i w) in
    let before : Knows sc.sizes me n kept = keeping-knows sc.sizes me i n st w.slot w.stage (word_for_window sc m i w) h in
    rw (gone-is sc m sent me i st w)
    (gone-knows sc me (n + 1) (is_good sc me i m.frame w.slot) (nat_le w.first w.last) st (close_on sc me i kept w (heard_at sc me i st w sent)) good
    (λ t. on-knows sc me i (n + 1) kept w (heard_at sc me i st w sent) in_sync e (λ sense. closing kept sense before)) over)

le-not : (a b : ℕ) → a ≤ b → nat_le a b ≡ false → nat_le a b ≡ true
le-not a b h e = grind (arith, nat_tests)

-- a window with a tick is not passed over
never : {P : Type 0} (a b : ℕ) → a ≤ b → nat_le a b ≡ false → P
never a b h e = absurd (grind (arith, nat_tests))

-- the plan has ticks in each window
pub record HasTicks (plan : Plan) : Type 0 where
  pub l : 1 ≤ plan.l
  pub v : 1 ≤ plan.v
  pub z : 1 ≤ plan.z

exact-case : (sc : Scenario) (m : Moment) (sent : Each (Option Sending)) (me : Side) (i n : ℕ) (st : NodeState) → HasTicks sc.plan
    → n < 3 * sync_slot_of sc.sizes → is_good sc me i m.frame (window_numbered sc.sizes sc.plan me st n).slot ≡ true → Knows sc.sizes me n st
    → Knows sc.sizes me (n + 1) (go_through sc m sent me i st (window_numbered sc.sizes sc.plan me st n)).state
unfolding closed
exact-case sc m sent me i n st ticks lt =
    let e : window_numbered sc.sizes sc.plan me st n ≡ exact_window sc.plan n = exact-numbered sc.sizes sc.plan me st n lt in
    let some : 1 ≤ sc.plan.l = ticks.l in
    subst (λ w. is_good sc me i m.frame w.slot ≡ true → Knows sc.sizes me n st → Knows sc.sizes me (n + 1) (go_through sc m sent me i st w).state) (sym e)
    (λ good h. through-knows sc m sent me i n st (exact_window sc.plan n) false (less-differs (n / 3) (sync_slot_of sc.sizes) (exact-slot sc.sizes n lt)) good h
    (λ kept sense before. exact-knows sc.sizes me i kept (n / 3) (n % 3 + 1) n sense lt before)
    (never (n * sc.plan.l) (n * sc.plan.l + sc.plan.l - 1) (omega arith)))

-- in a window of the sync slot `Knows` goes on as its stage makes it
stage-knows : (sc : Scenario) (m : Moment) (sent : Each (Option Sending)) (me : Side) (i n stage first ticks : ℕ) (st : NodeState) → 1 ≤ ticks
    → ((kept : NodeState) (first : ℕ) (sense : ℕ → Sense) → Knows sc.sizes me n kept → Knows sc.sizes me (n + 1) (close_sync sc.sizes me kept stage first sense).state)
    → is_good sc me i m.frame (sync_slot_of sc.sizes) ≡ true → Knows sc.sizes me n st
    → Knows sc.sizes me (n + 1) (go_through sc m sent me i st (window_of (sync_slot_of sc.sizes) stage first ticks)).state
unfolding closed
stage-knows sc m sent me i n stage first ticks st some closing good h =
    through-knows sc m sent me i n st (window_of (sync_slot_of sc.sizes) stage first ticks) true (eq_self (sync_slot_of sc.sizes)) good h
    (λ kept sense before. closing kept (kept.epoch + first) sense before) (never first (first + ticks - 1) (omega arith))

-- `Knows` goes on through the tail, empty or not
rest-knows : (sc : Scenario) (m : Moment) (sent : Each (Option Sending)) (me : Side) (i : ℕ) (st : NodeState)
    → is_good sc me i m.frame (sync_slot_of sc.sizes) ≡ true → Knows sc.sizes me (3 * sync_slot_of sc.sizes + 3) st
    → Knows sc.sizes me (3 * sync_slot_of sc.sizes + 3 + 1) (go_through sc m sent me i st (tail_at sc.sizes sc.plan me st)).state
unfolding closed
rest-knows sc m sent me i st good h =
    through-knows sc m sent me i (3 * sync_slot_of sc.sizes + 3) st (tail_at sc.sizes sc.plan me st) true (eq_self (sync_slot_of sc.sizes)) good h
    (λ kept sense before. tail-knows sc.sizes me kept (kept.epoch + tail_start_of sc.sizes sc.plan) sense before)
    (λ t. same-knows sc.sizes me (3 * sync_slot_of sc.sizes + 3) st st refl refl refl
    (λ stage lo hi. late sc.sizes me stage (3 * sync_slot_of sc.sizes + 3) (omega arith)) h)

-- `Knows` goes on through a window from the sync slot on
GoesOn : Scenario → Moment → Each (Option Sending) → Side → ℕ → NodeState → ℕ → Type 0
GoesOn sc m sent me i st n =
    is_good sc me i m.frame (window_numbered sc.sizes sc.plan me st n).slot ≡ true → Knows sc.sizes me n st
    → Knows sc.sizes me (n + 1) (go_through sc m sent me i st (window_numbered sc.sizes sc.plan me st n)).state

sync-case : (sc : Scenario) (m : Moment) (sent : Each (Option Sending)) (me : Side) (i : ℕ) (st : NodeState) → HasTicks sc.plan
    → (r : ℕ) → r < 4 → GoesOn sc m sent me i st (3 * sync_slot_of sc.sizes + r)
unfolding GoesOn
sync-case sc m sent me i st ticks zero below =
    subst (λ w. is_good sc me i m.frame w.slot ≡ true → Knows sc.sizes me (3 * sync_slot_of sc.sizes + 0) st
    → Knows sc.sizes me (3 * sync_slot_of sc.sizes + 0 + 1) (go_through sc m sent me i st w).state) (sym (sync-numbered sc.sizes sc.plan me st 0))
    (stage-knows sc m sent me i (3 * sync_slot_of sc.sizes + 0) 1 _ sc.plan.l st ticks.l (sync-1 sc.sizes me))
sync-case sc m sent me i st ticks (suc zero) below =
    subst (λ w. is_good sc me i m.frame w.slot ≡ true → Knows sc.sizes me (3 * sync_slot_of sc.sizes + 1) st
    → Knows sc.sizes me (3 * sync_slot_of sc.sizes + 1 + 1) (go_through sc m sent me i st w).state) (sym (sync-numbered sc.sizes sc.plan me st 1))
    (stage-knows sc m sent me i (3 * sync_slot_of sc.sizes + 1) 2 _ sc.plan.v st ticks.v (sync-2 sc.sizes me))
sync-case sc m sent me i st ticks (suc (suc zero)) below =
    subst (λ w. is_good sc me i m.frame w.slot ≡ true → Knows sc.sizes me (3 * sync_slot_of sc.sizes + 2) st
    → Knows sc.sizes me (3 * sync_slot_of sc.sizes + 2 + 1) (go_through sc m sent me i st w).state) (sym (sync-numbered sc.sizes sc.plan me st 2))
    (stage-knows sc m sent me i (3 * sync_slot_of sc.sizes + 2) 3 _ sc.plan.z st ticks.z (sync-3 sc.sizes me))
sync-case sc m sent me i st ticks (suc (suc (suc zero))) below =
    subst (λ w. is_good sc me i m.frame w.slot ≡ true → Knows sc.sizes me (3 * sync_slot_of sc.sizes + 3) st
    → Knows sc.sizes me (3 * sync_slot_of sc.sizes + 3 + 1) (go_through sc m sent me i st w).state) (sym (sync-numbered sc.sizes sc.plan me st 3))
    (rest-knows sc m sent me i st)
sync-case sc m sent me i st ticks (suc (suc (suc (suc r)))) below = absurd (omega arith)

-- each window below the tail, and the tail, at a node that is good there
pub numbered-knows : (sc : Scenario) (m : Moment) (sent : Each (Option Sending)) (me : Side) (i n : ℕ) (st : NodeState) → HasTicks sc.plan
    → n < windows_in sc.sizes → is_good sc me i m.frame (window_numbered sc.sizes sc.plan me st n).slot ≡ true → Knows sc.sizes me n st
    → Knows sc.sizes me (n + 1) (go_through sc m sent me i st (window_numbered sc.sizes sc.plan me st n)).state
unfolding GoesOn
numbered-knows sc m sent me i n st ticks below good h =
    elim (cases_lt n (3 * sync_slot_of sc.sizes)) [
      | inl lt ↦ exact-case sc m sent me i n st ticks lt good h
      | inr ge ↦
          let r : ℕ = n - 3 * sync_slot_of sc.sizes in
          let e : 3 * sync_slot_of sc.sizes + r ≡ n = omega arith in
          subst (GoesOn sc m sent me i st) e (sync-case sc m sent me i st ticks r (omega arith)) good h
    ]
