-- What a tick leaves of what came, and of which sources it shows times.
use Rattle.std.proofs.{Common.{◌≡◌, ℕ, zero, suc, ◌+◌, ◌<◌, ◌≤◌, ◌==◌, ◌&&◌, Bool, true, false, Option, Some, None, List, [], ◌∷◌, map, get_or, refl, sym, ◌∙◌, subst, arith, if◌then◌else◌}, lemmas.List.FromFn.get_or-map-range_with_len, lemmas.Option.same_Some}
use Rattle.rb_base.specs.{Nodes.Side, Sizes.{Sizes, sync_slot_of}, declared.values.Heard.Heard, declared.values.See.TheVariants.{Nothing, Time}}
use Rattle.rb_rules.specs.{declared.closing.Closed.Closed, declared.closing.Closing.Closing, declared.closing.SyncClosing.SyncClosing, declared.message.Message.Message, declared.plan.Plan.Plan, declared.plan.Window.Window, declared.role.Role.Role, declared.sense.Expect.Expect, declared.sense.Sense.Sense, Core.{Act, Core, act_at, act_on, epoch_at, is_last, is_spent, of_source, tick, window_here}, ExactStage.{Outcome, close_exact, each_node, outcome_of, see_value}, Hearing.close_window, NodeState.NodeState, NodeSteps.{close, expect_of}, Sense.{Arrival, sense_of, stamp_in}, Slots.Sender, Standing.{is_eligible, taken_of}, SyncStage.{close_sync, expects_call, see_time, sync_closing_of, sync_outcome_of}}

-- the close shows this time of source `j`
abbrev pub ShowsTime : Closed → ℕ → ℕ → Type 0
ShowsTime c j stamp = get_or c.sees j Nothing ≡ Time stamp

-- Below the sync slot no time is shown.

no-time : (taken : List (Option Heard)) (j stamp : ℕ) → get_or (map see_value taken) j Nothing ≡ Time stamp → ⊥
no-time [] j stamp e = cc
no-time (None ∷ taken) zero stamp e = cc
no-time (Some v ∷ taken) zero stamp e = cc
no-time (t ∷ taken) (suc j) stamp e = no-time taken j stamp e

exact-none : (sizes : Sizes) (me : Side) (index : ℕ) (st : NodeState) (slot stage : ℕ) (role : Role) (sender : Sender) (sense : ℕ → Sense) (c : Closing)
    (j stamp : ℕ) → ShowsTime (outcome_of sizes me index st slot stage role sender sense c).closed j stamp → ⊥
unfolding outcome_of
exact-none sizes me index st slot stage role sender sense c j stamp e = no-time c.taken j stamp e

below-none : (sizes : Sizes) (me : Side) (index : ℕ) (st : NodeState) (slot stage : ℕ) (sense : ℕ → Sense) (j stamp : ℕ)
    → ShowsTime (close_exact sizes me index st slot stage sense).closed j stamp → ⊥
unfolding close_exact
below-none sizes me index st slot stage sense j stamp e = exact-none sizes me index st slot stage _ _ sense _ j stamp e

-- In the sync slot it is the stamp of what came.

time-taken : (taken : List (Option ℕ)) (j stamp : ℕ) → get_or (map see_time taken) j Nothing ≡ Time stamp → get_or taken j None ≡ Some stamp
time-taken [] j stamp e = absurd (cc)
time-taken (None ∷ taken) zero stamp e = absurd (cc)
time-taken (Some t ∷ taken) zero stamp e = cc
time-taken (t ∷ taken) (suc j) stamp e = time-taken taken j stamp e

get-node : (f : ℕ → Option ℕ) (j : ℕ) → j < 16 → get_or (each_node f) j None ≡ f j
get-node f j h = get_or-map-range_with_len f 0 16 j j None h (let e : 0 + j ≡ j = omega arith in e)

stamp-taken : (b : Bool) (o : Option ℕ) (stamp : ℕ) → (if b then o else None) ≡ Some stamp → o ≡ Some stamp
stamp-taken true o stamp e = e
stamp-taken false o stamp e = absurd (cc)

sync-time : (sizes : Sizes) (me : Side) (st : NodeState) (stage : ℕ) (sense : ℕ → Sense) (c : SyncClosing) (j stamp : ℕ)
    → ShowsTime (sync_outcome_of sizes me st stage sense c).closed j stamp → get_or c.taken j None ≡ Some stamp
unfolding sync_outcome_of
sync-time sizes me st stage sense c j stamp e = time-taken c.taken j stamp e

call-time : (sizes : Sizes) (me : Side) (st : NodeState) (stage first : ℕ) (sense : ℕ → Sense) (j stamp : ℕ) → j < 16
    → ShowsTime (close_sync sizes me st stage first sense).closed j stamp → stamp_in (sense j) ≡ Some stamp
unfolding close_sync
call-time sizes me st stage first sense j stamp h e =
    let taken : get_or (each_node (taken_of stamp_in st.far (expects_call me st stage) sense)) j None ≡ Some stamp =
    sync-time sizes me st stage sense (sync_closing_of st.far (expects_call me st stage) sense first) j stamp e in
    stamp-taken (expects_call me st stage j && is_eligible st.far j) (stamp_in (sense j)) stamp
    (sym (get-node (taken_of stamp_in st.far (expects_call me st stage) sense) j h) ∙ taken)

close-time : (sizes : Sizes) (me : Side) (index : ℕ) (st : NodeState) (slot stage first : ℕ) (sense : ℕ → Sense) (j stamp : ℕ) → j < 16
    → ShowsTime (close sizes me index st slot stage first sense).closed j stamp → stamp_in (sense j) ≡ Some stamp
close-time sizes me index st slot stage first sense j stamp h e = by (slot == sync_slot_of sizes) e
  where
    by : (b : Bool)
        → ShowsTime (elim b as (λ _. Outcome) [ true ↦ close_sync sizes me st stage (st.epoch + first) sense | false ↦ close_exact sizes me index st slot stage sense ]).closed j stamp
        → stamp_in (sense j) ≡ Some stamp
    by true e = call-time sizes me st stage (st.epoch + first) sense j stamp h e
    by false e = absurd (below-none sizes me index st slot stage sense j stamp e)

-- a sense with a stamp comes from a sole arrival
sole-sense : (x : Expect) (arrivals : List Arrival) (stamp : ℕ) → stamp_in (sense_of x arrivals) ≡ Some stamp → (a : Arrival) × (arrivals ≡ a ∷ [])
sole-sense x [] stamp e = absurd (cc)
sole-sense x (a ∷ []) stamp e = (a, refl)
sole-sense x (a ∷ (b ∷ others)) stamp e = absurd (cc)

window-sole : (sizes : Sizes) (plan : Plan) (me : Side) (index : ℕ) (st : NodeState) (w : Window) (arrivals : ℕ → List Arrival) (j stamp : ℕ) → j < 16
    → ShowsTime (close_window sizes plan me index st w arrivals).closed j stamp → (a : Arrival) × (arrivals j ≡ a ∷ [])
window-sole sizes plan me index st w arrivals j stamp h e =
    let x : Expect = expect_of sizes plan.version st w.slot w.stage in
    sole-sense x (arrivals j) stamp (close-time sizes me index st w.slot w.stage w.first (λ j. sense_of x (arrivals j)) j stamp h e)

-- A tick.

-- a close leaves an empty inbox, and shows times only of sources with a sole arrival
pub record Leaves (c : Core) (x : Act) : Type 0 where
  pub later : c.had ≤ x.core.had
  pub kept : x.closed ≡ None → x.core.inbox ≡ c.inbox
  pub cleared : (shown : Closed) → x.closed ≡ Some shown → x.core.inbox ≡ []
  pub sole : (shown : Closed) → x.closed ≡ Some shown → (j stamp : ℕ) → j < 16 → ShowsTime shown j stamp → (a : Arrival) × (of_source c.inbox j ≡ a ∷ [])

on-leaves : (sizes : Sizes) (plan : Plan) (me : Side) (index : ℕ) (c : Core) (st : NodeState) (message : Option Message) (kept : NodeState)
    → Leaves c (act_on sizes plan me index c st message kept)
unfolding act_on
on-leaves sizes plan me index c st message kept = by (is_last sizes plan me st c.had)
  where
    closing : Outcome
    closing = close_window sizes plan me index kept (window_here sizes plan me st c.had) (of_source c.inbox)

    by : (b : Bool) → Leaves c (elim b as (λ _. Act) [
      | true ↦ record { core = record { state = closing.state; had = c.had + 1; inbox = [] }; epoch = epoch_at sizes me st c.had; message = message; closed = Some closing.closed }
      | false ↦ record { core = record { state = kept; had = c.had + 1; inbox = c.inbox }; epoch = epoch_at sizes me st c.had; message = message; closed = None }
    ])
    by true = record {
      later = omega arith;
      kept = λ e. absurd (cc);
      cleared = λ shown e. refl;
      sole = λ shown e j stamp h t.
          window-sole sizes plan me index kept (window_here sizes plan me st c.had) (of_source c.inbox) j stamp h
          (subst (λ (x : Closed). ShowsTime x j stamp) (sym (same_Some closing.closed shown e)) t);
    }
    by false = record { later = omega arith; kept = λ e. refl; cleared = λ shown e. absurd (cc); sole = λ shown e j stamp h t. absurd (cc) }

at-leaves : (sizes : Sizes) (plan : Plan) (me : Side) (index : ℕ) (c : Core) (word : ℕ) → Leaves c (act_at sizes plan me index c word)
unfolding act_at
at-leaves sizes plan me index c word = on-leaves sizes plan me index c _ _ _

pub tick-leaves : (sizes : Sizes) (plan : Plan) (me : Side) (index : ℕ) (c : Core) (word : ℕ) → Leaves c (tick sizes plan me index c word)
unfolding tick
tick-leaves sizes plan me index c word = by (is_spent c)
  where
    by : (b : Bool) → Leaves c (elim b as (λ _. Act) [ true ↦ record { core = c; epoch = None; message = None; closed = None } | false ↦ act_at sizes plan me index c word ])
    by true = record { later = omega arith; kept = λ e. refl; cleared = λ shown e. absurd (cc); sole = λ shown e j stamp h t. absurd (cc) }
    by false = at-leaves sizes plan me index c word
