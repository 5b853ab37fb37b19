use Rattle.std.proofs.{Common.{◌≡◌, ℕ, ◌==◌, ◌&&◌, Bool, true, false, Option, Some, None, is_some, slice_get, List, [], lit≤, inl, refl, sym, ◌∙◌, ap, subst, arith}, lemmas.Bool.{and_parts, eqb-true, false≢true}}
use Rattle.rb_base.specs.{Nodes.{Side, set_of, set_below, size}, Nodes.Side.{Biu, Rmu}}
use Rattle.rb_rules.specs.{Book.{Milestone, of_kind, with_stage, with_frame}, Book.Milestone.{Begin, Stage, End}, Conviction.{turn, convicted_by}, Core.{state_at, said_at, act_on, act_at, tick, arrive, wants, is_busy}, ExactStage.{close_exact, outcome_of}, Hearing.{sending, heard_from, row_of}, Judging.{classes_of, verdict_of}, Links.delay_of, Moments.{IsComplete, IsRunning, before_stage}, Ports.HandIn, Rounds.{sent_in, close_on, go_through, results_of, after_window, begin_frame, step}, Spelling.message_in, SyncStage.{close_sync, sync_outcome_of}, WorldStep.{Site, Timed, World, ready_at, due_of, says_in, proceed, after_act, after_arrival, with_act, pass_and_tick, happens, take, go_on, first_world}}
use Rattle.rb_laws_agreement.specs.Histories.{AreAlike}
use Rattle.rb_laws_events.specs.OwnMoments.{IsBeforeTheBreak, RunningNode, open_window, ready_state}
use Rattle.rb_test_rules.specs.{Ordinary.one_state, Premises.{RunsAfterSlot, RunsInSlot, third_stage}}
use Rattle.rb_test_rules.proofs.premises.running_nodes.Goals as goal

-- the node runs, has a tick to come, and is in the third stage of slot 2
abbrev is_found : Side → Option Site → Bool
is_found me None = false
is_found me (Some s) =
    s.runs && (is_some s.ahead && (((ready_state one_state me s.core).frame == 0) && (((open_window one_state me s.core).slot == 2) && ((open_window one_state me s.core).stage == 3))))

-- node `i` runs, and is in the third stage of slot 2 of frame 0
record Found (w : World) (me : Side) (i : ℕ) : Type 0 where
  node : RunningNode w me
  index : node.index ≡ i
  frame : (ready_state one_state me node.site.core).frame ≡ 0
  slot : (open_window one_state me node.site.core).slot ≡ 2
  stage : (open_window one_state me node.site.core).stage ≡ 3

found_by : (w : World) (me : Side) (i : ℕ) → is_found me (slice_get (of_kind me w.sites) i) ≡ true → Found w me i
found_by w me i test = at_site (slice_get (of_kind me w.sites) i) refl test
  where
    at_tick : (s : Site) (ahead : Option Timed) → slice_get (of_kind me w.sites) i ≡ Some s → s.ahead ≡ ahead → is_found me (Some s) ≡ true → Found w me i
    at_tick s ahead there pends test =
        let one = and_parts s.runs _ test in
        let two = and_parts (is_some s.ahead) _ one.1 in
        let three = and_parts ((ready_state one_state me s.core).frame == 0) _ two.1 in
        let four = and_parts ((open_window one_state me s.core).slot == 2) ((open_window one_state me s.core).stage == 3) three.1 in
        go ahead pends (sym (ap is_some pends) ∙ two.0) one.0 (eqb-true _ _ three.0) (eqb-true _ _ four.0) (eqb-true _ _ four.1)
      where
        go : (ahead : Option Timed) → s.ahead ≡ ahead → is_some ahead ≡ true → s.runs ≡ true → (ready_state one_state me s.core).frame ≡ 0
            → (open_window one_state me s.core).slot ≡ 2 → (open_window one_state me s.core).stage ≡ 3 → Found w me i
        go None pends some runs frame slot stage = absurd (false≢true some)
        go (Some a) pends some runs frame slot stage = record {
          node = record { index = i; site = s; there = there; runs = runs; ahead = a; pends = pends };
          index = refl;
          frame = frame;
          slot = slot;
          stage = stage;
        }

    at_site : (found : Option Site) → slice_get (of_kind me w.sites) i ≡ found → is_found me found ≡ true → Found w me i
    at_site None there test = absurd (false≢true test)
    at_site (Some s) there test = at_tick s s.ahead there refl test

-- the slot of a stage
abbrev slot_of : Milestone → ℕ
slot_of (Stage place) = place.slot
slot_of (Begin frame) = 0
slot_of End = 0

-- The run.

upcoming : slot_of third_stage.book.upcoming ≡ 2
unfolding set_of set_below size message_in close_exact outcome_of close_sync sync_outcome_of turn convicted_by classes_of verdict_of delay_of with_stage with_frame sending row_of state_at said_at act_on act_at tick arrive wants is_busy ready_at due_of says_in proceed after_act after_arrival with_act pass_and_tick happens take go_on first_world third_stage
upcoming = refl

no-hands : third_stage.hands ≡ []
unfolding set_of set_below size message_in close_exact outcome_of close_sync sync_outcome_of turn convicted_by classes_of verdict_of delay_of with_stage with_frame sending row_of state_at said_at act_on act_at tick arrive wants is_busy ready_at due_of says_in proceed after_act after_arrival with_act pass_and_tick happens take go_on first_world third_stage
no-hands = refl

first-found : is_found Biu (slice_get (of_kind Biu third_stage.sites) 0) ≡ true
unfolding set_of set_below size message_in close_exact outcome_of close_sync sync_outcome_of turn convicted_by classes_of verdict_of delay_of with_stage with_frame sending row_of state_at said_at act_on act_at tick arrive wants is_busy ready_at due_of says_in proceed after_act after_arrival with_act pass_and_tick happens take go_on first_world third_stage
first-found = refl

second-found : is_found Biu (slice_get (of_kind Biu third_stage.sites) 1) ≡ true
unfolding set_of set_below size message_in close_exact outcome_of close_sync sync_outcome_of turn convicted_by classes_of verdict_of delay_of with_stage with_frame sending row_of state_at said_at act_on act_at tick arrive wants is_busy ready_at due_of says_in proceed after_act after_arrival with_act pass_and_tick happens take go_on first_world third_stage
second-found = refl

rmu-found : is_found Rmu (slice_get (of_kind Rmu third_stage.sites) 0) ≡ true
unfolding set_of set_below size message_in close_exact outcome_of close_sync sync_outcome_of turn convicted_by classes_of verdict_of delay_of with_stage with_frame sending row_of state_at said_at act_on act_at tick arrive wants is_busy ready_at due_of says_in proceed after_act after_arrival with_act pass_and_tick happens take go_on first_world third_stage
rmu-found = refl

complete : IsComplete one_state [] 0 2
unfolding set_of set_below message_in close_exact outcome_of close_sync sync_outcome_of turn convicted_by classes_of verdict_of size delay_of with_stage with_frame sending heard_from row_of sent_in close_on go_through results_of after_window begin_frame step
complete = refl

running : IsRunning (before_stage one_state [] 0 2 3)
unfolding set_of set_below message_in close_exact outcome_of close_sync sync_outcome_of turn convicted_by classes_of verdict_of size delay_of with_stage with_frame sending heard_from row_of sent_in close_on go_through results_of after_window begin_frame step
running = refl

-- The premises.

is-complete : IsComplete one_state third_stage.hands 0 2
is-complete = subst (λ hands. IsComplete one_state hands 0 2) (sym no-hands) complete

before-the-break : IsBeforeTheBreak one_state third_stage
before-the-break place is in_sync =
    let two : place.slot ≡ 2 = sym (ap slot_of is) ∙ upcoming in
    let seven : place.slot ≡ 7 = in_sync in
    absurd (omega arith)

goes-on : (hands : List HandIn) (frame slot stage : ℕ) → hands ≡ [] → frame ≡ 0 → slot ≡ 2 → stage ≡ 3 → IsRunning (before_stage one_state hands frame slot stage)
goes-on hands frame slot stage no_hands first second third = rw (no_hands, first, second, third) running

in-slot : (me : Side) (i : ℕ) → Found third_stage me i → RunsInSlot me i
in-slot me i f = record {
  node = f.node;
  index = f.index;
  stands = record { frame_is = f.frame; slot_is = f.slot; stage = rw f.stage (lit≤ tt); settled = inl is-complete };
  goes_on = goes-on third_stage.hands _ _ _ no-hands f.frame f.slot f.stage;
}

after-slot : (i : ℕ) → Found third_stage Biu i → RunsAfterSlot i
after-slot i f = record {
  node = f.node;
  index = f.index;
  stands = record {
    frame_is = f.frame;
    place = inl (f.slot, (rw f.stage (lit≤ tt), rw f.stage (lit≤ tt)));
    within = lit≤ tt;
    complete = is-complete;
    goes_on = inl before-the-break;
  };
}

pub returns-clause-before_the_break : goal.returns-clause-before_the_break
returns-clause-before_the_break c = before-the-break

pub returns-clause-needs : goal.returns-clause-needs
unfolding set_of set_below size message_in close_exact outcome_of close_sync sync_outcome_of turn convicted_by classes_of verdict_of delay_of with_stage with_frame sending row_of state_at said_at act_on act_at tick arrive wants is_busy ready_at due_of says_in proceed after_act after_arrival with_act pass_and_tick happens take go_on first_world third_stage
returns-clause-needs c = record { going = refl; needs = refl }

pub returns-clause-biu : goal.returns-clause-biu
returns-clause-biu c = in-slot Biu 0 (found_by third_stage Biu 0 first-found)

pub returns-clause-rmu : goal.returns-clause-rmu
returns-clause-rmu c = in-slot Rmu 0 (found_by third_stage Rmu 0 rmu-found)

pub returns-clause-first : goal.returns-clause-first
returns-clause-first c = after-slot 0 (found_by third_stage Biu 0 first-found)

pub returns-clause-second : goal.returns-clause-second
returns-clause-second c = after-slot 1 (found_by third_stage Biu 1 second-found)

pub returns-clause-alike : goal.returns-clause-alike
returns-clause-alike c = subst (λ hands. AreAlike one_state hands 0 1) (sym no-hands) (record { app = refl; word = refl; hand_ins = λ frame. refl })
