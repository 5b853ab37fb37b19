-- A listener goes through the first window of its first frame. What comes with the stamp of the
-- frame's first tick it does not keep.
use Rattle.std.proofs.{Common.{◌≡◌, ℕ, zero, suc, ◌+◌, ◌-◌, ◌*◌, ◌^◌, ◌<◌, ◌≤◌, ◌==◌, ◌&&◌, not, Bool, true, false, List, [], Option, Some, None, option_and_then, option_map, refl, sym, ◌∙◌, ap, subst, arith}, lemmas.Bool.lt-ltb, lemmas.Bool.Decides.nat_tests}
use Rattle.rb_base.specs.{Nodes.Side.{Biu, Rmu}, Sizes.{Sizes, sync_slot_of}, declared.values.Heard.Heard, declared.values.See.See}
use Rattle.rb_rules.specs.{declared.plan.Plan.Plan, declared.plan.Window.Window, declared.role.Role.TheVariants.Schedule, declared.sense.Sense.Sense, Core.{Act, Core, act_on, epoch_at, is_last, is_spent, of_source, state_at, window_here}, ExactStage.{Outcome, close_exact, message_of, says, says_of}, Goodness.{Scenario, is_good}, Hearing.{close_window, sending}, Judging.JudgedStage, Moments.IsRunning, NodeState.{NodeState, sender_at}, NodeSteps.{close, expect_of, message_said}, Ports.HandIn, Rounds.{after_window, moment}, Sense.sense_of, Slots.{Sender, listens, role_of}, Slots.Sender.{EachTrusted, Node, Nobody}, SyncStage.{close_sync, new_epoch_of, send_tick_of}}
use Rattle.rb_rules.proofs.RoundStates.{close-stays}
use Rattle.rb_laws_agreement.proofs.{Agreement.{IsAgreed, agreement}, ExactAgrees.has_ticks, ExactWindows.IsSenseOf, Invariant.{IsGoodNode, Shared, slot_numbered}, NodeWindows.{Windows, exact_windows, word_at}, Settings.{Setting, stages_with}, SlotRuns.next-window}
use Rattle.rb_laws_synchrony.proofs.{StageCalls.{IsAt, exact_at}, SyncSteps.near_exact, Synchronous.Synchronous, Times.{lawful_fits, plan_fits}}
use Rattle.rb_laws_events.proofs.{StageOrder.{last-same, last_of}, TickWindows.{first-same, first_of}, TurnTicks.no-next}
use Rattle.rb_listen.specs.{Following.follow, Listening.{followed, heed}}
use Rattle.rb_laws_listener_learns.specs.Ears.{Ear, SendsIn, hears, listening_at}
use Rattle.rb_laws_listener_learns.proofs.CallsSent.{sends-at}
use Rattle.rb_laws_listener_near.specs.Judged.{verdict_with}
use Rattle.rb_laws_listener_near.proofs.{Tracking.{Tracks, stays_good}, WindowSteps.{IsWatched, closed_by, tracks_after}}
use Rattle.rb_laws_listener_follows.proofs.{Arrivals.{none_collected, none_with_stamp}, ExactRuns.{GoesOn, goes_on, setting_at}, ExactSteps.{Abides, exact_keeps}, FollowerRuns.{ClosesWindow, IsWindow, Stands, closes_window, closing, collected, state_before}, FollowerWindows.{closes_there, is_window}, HeardExact.{Beside, IsOwn, only_own}, SeenPremise.{most_stay, place_closed}, SeenWindows.{NoneSeen, sees_window}}
use Rattle.rb_listen.specs.Listening as now

-- with its first tick the listener has turned to following, and stands beside the run before the
-- first window of the frame
pub record BeginsFirst (sc : Scenario) (hands : List HandIn) (ear : Ear) (n epoch low : ℕ) (s : Shared) (st : NodeState) : Type 0 where
  pub beside : Beside sc hands ear n epoch low s
  pub window : (moment sc hands n).window ≡ 0
  pub begins : epoch < ear.ticks → heed sc.sizes sc.plan (listening_at sc ear epoch) ≡ followed (follow sc.sizes sc.plan (record { state = st; had = epoch; inbox = [] }))
  pub epoch_is : st.epoch ≡ epoch
  pub unknown : new_epoch_of sc.plan Biu st ≡ None
  pub tracks : Tracks sc (moment sc hands n) st

-- what the listener senses in the first window of its first frame
abbrev pub sense_first : Scenario → Ear → ℕ → NodeState → ℕ → Sense
sense_first sc ear epoch st j = sense_of (expect_of sc.sizes sc.plan.version st 0 1) (of_source (collected sc.sizes ear.heard (suc epoch) (sc.plan.l - 1)) j)

abbrev pub outcome_first : Scenario → Ear → ℕ → NodeState → Outcome
outcome_first sc ear epoch st = closed_by sc 0 1 0 st (sense_first sc ear epoch st)

-- with the last tick of a window the listener closes it, and stands before the next one
pub record PassesWindow (sc : Scenario) (hands : List HandIn) (ear : Ear) (n epoch low : ℕ) (st : NodeState) (seen : ℕ → JudgedStage → Option (ℕ → See)) : Type 0 where
  pub core : Core
  pub here : listening_at sc ear (epoch + (sc.plan.l - 1)) ≡ now.Following core
  pub closed : (follow sc.sizes sc.plan core).closed ≡ Some (outcome_first sc ear epoch st).closed
  pub state : core.state ≡ st
  pub shared : Shared
  pub abides : Abides sc hands ear (suc n) epoch low shared (outcome_first sc ear epoch st).state (outcome_first sc ear epoch st).state
  pub none : (frame : ℕ) → st.frame ≡ frame → NoneSeen sc ear frame 0 (suc epoch) → NoneSeen sc ear frame 1 (epoch + 1 * sc.plan.l)
  pub watched : IsWatched sc (moment sc hands n) 0 0 st (sense_first sc ear epoch st) seen

-- The first tick of the window.

goes_on_first : (sizes : Sizes) (plan : Plan) (c : Core) → c.had < 2 ^ 31 → state_at sizes plan Biu c.state c.had ≡ c.state → is_last sizes plan Biu c.state c.had ≡ false
    → (follow sizes plan c).core ≡ record { state = c.state; had = c.had + 1; inbox = c.inbox }
unfolding follow act_on
goes_on_first sizes plan c below same quiet =
    by (is_spent c) (grind (arith, nat_tests)) (state_at sizes plan Biu c.state c.had) same
  where
    acts : (b : Bool) → b ≡ false
        → (elim b as (λ _. Act) [
          | true ↦ record {
            core = record { state = (close_window sizes plan Biu 16 c.state (window_here sizes plan Biu c.state c.had) (of_source c.inbox)).state; had = c.had + 1; inbox = [] };
            epoch = epoch_at sizes Biu c.state c.had;
            message = None;
            closed = Some (close_window sizes plan Biu 16 c.state (window_here sizes plan Biu c.state c.had) (of_source c.inbox)).closed;
          }
          | false ↦ record { core = record { state = c.state; had = c.had + 1; inbox = c.inbox }; epoch = epoch_at sizes Biu c.state c.had; message = None; closed = None }
        ]).core ≡ record { state = c.state; had = c.had + 1; inbox = c.inbox }
    acts true h = cc
    acts false h = refl

    by : (b : Bool) → b ≡ false → (x : NodeState) → x ≡ c.state
        → (elim b as (λ _. Act) [
          | true ↦ record { core = c; epoch = None; message = None; closed = None }
          | false ↦ act_on sizes plan Biu 16 c x None x
        ]).core ≡ record { state = c.state; had = c.had + 1; inbox = c.inbox }
    by true h x e = cc
    by false h x e =
        subst (λ y. (act_on sizes plan Biu 16 c y None y).core ≡ record { state = c.state; had = c.had + 1; inbox = c.inbox }) (sym e) (acts (is_last sizes plan Biu c.state c.had) quiet)

-- The other ticks of the window.

-- a window without its first tick is a window of one tick less
later_window : {sizes plan st first n : _} → 1 ≤ n → IsWindow sizes plan st st first n → IsWindow sizes plan st st (suc first) (n - 1)
later_window {sizes} {plan} {st} {first} {n} some w = record {
  turns = w.stays (suc first) (omega arith) (omega (arith, some));
  stays = λ k from to. w.stays k (omega (arith, from)) (omega (arith, to, some));
  quiet = λ k from to. w.quiet k (omega (arith, from)) (omega (arith, to, some));
  last = let e : first + n ≡ suc first + (n - 1) = omega (arith, some) in subst (λ k. is_last sizes plan Biu st k ≡ true) e w.last;
  in_time = omega (arith, w.in_time, some);
}

-- No RMU speaks in the first window.

first-role : (sizes : Sizes) → 1 ≤ sizes.bius → role_of sizes 0 ≡ Schedule 0
first-role sizes some = rw (lt-ltb 0 sizes.bius (omega (arith, some))) refl

none-said : (j : ℕ) (source : NodeState) (sender : Sender) (word : ℕ) → says_of Rmu j source 0 (Schedule 0) sender 1 word ≡ None
none-said j source Nobody word = refl
none-said j source (Node i) word = refl
none-said j source EachTrusted word = refl

says-none : (sizes : Sizes) → 1 ≤ sizes.bius → (j : ℕ) (source : NodeState) (word : ℕ) → says sizes Rmu j source 0 1 word ≡ None
says-none sizes some j source word = ap (λ r. says_of Rmu j source 0 r (sender_at sizes Rmu source 0) 1 word) (first-role sizes some) ∙ none-said j source (sender_at sizes Rmu source 0) word

not-first : (sync : ℕ) → 0 < sync → (0 == sync) ≡ false
not-first sync some = grind (arith, nat_tests)

sending-none : (sizes : Sizes) (plan : Plan) → 1 ≤ sizes.bius → (j : ℕ) (source : NodeState) (word : ℕ) → sending sizes plan Rmu j source 0 1 word ≡ None
unfolding sending
sending-none sizes plan some j source word =
    let away : (0 == sync_slot_of sizes) ≡ false = not-first (sync_slot_of sizes) (omega (arith, some)) in
    let silent : message_said sizes Rmu j source 0 1 word ≡ None = rw away (ap (option_map (message_of source 0 1)) (says-none sizes some j source word)) in
    ap (option_and_then (λ m. option_map (λ tick. record { tick = tick; message = m }) (send_tick_of sizes plan source 0 1))) silent

votes-none : (b : Bool) → (b && not (1 == 1)) ≡ true → ⊥
votes-none true h = cc
votes-none false h = cc

keeps_middle : (sizes : Sizes) (plan : Plan) (st : NodeState) (first : ℕ) (sense : ℕ → Sense) → 0 < sync_slot_of sizes
    → new_epoch_of plan Biu (close sizes Biu 16 st 0 1 first sense).state ≡ new_epoch_of plan Biu st
keeps_middle sizes plan st first sense below =
    ap (λ x. new_epoch_of plan Biu x.state) (go (0 == sync_slot_of sizes) (not-first (sync_slot_of sizes) below)) ∙ exact_keeps sizes plan st 0 1 sense
  where
    go : (b : Bool) → b ≡ false
        → (elim b as (λ _. Outcome) [ true ↦ close_sync sizes Biu st 1 (st.epoch + first) sense | false ↦ close_exact sizes Biu 16 st 0 1 sense ])
        ≡ close_exact sizes Biu 16 st 0 1 sense
    go true h = cc
    go false h = refl

-- The window.

pub passes_window : {sc hands ear n epoch low s st : _} → BeginsFirst sc hands ear n epoch low s st
    → IsRunning (moment sc hands (suc n)) → (seen : ℕ → JudgedStage → Option (ℕ → See)) → verdict_with seen (stages_with sc (moment sc hands n) 0 1) ≡ None → epoch + sc.plan.l ≤ ear.ticks
    → PassesWindow sc hands ear n epoch low st seen
unfolding after_window
passes_window {sc} {hands} {ear} {n} {epoch} {low} {s} {st} x running seen none in_time = record {
  core = closes.core;
  here = subst (λ k. listening_at sc ear k ≡ now.Following closes.core) end closes.here;
  closed = closes.closed ∙ ap (λ o. Some o.closed) is;
  state = closes.state ∙ same-before (sc.plan.l - 1 - 1);
  shared = agreed.shared;
  abides = record {
    beside = record {
      law = x.beside.law;
      is = x.beside.is;
      run = x.beside.run;
      running = running;
      agree = agreed.agree;
      near = subst (λ m. Synchronous sc m agreed.shared low) on.next_is
          (near_exact agreed.shared x.beside.agree x.beside.near.begun (omega (arith, x.window, some_slot)));
      began = x.beside.began;
      past = x.beside.past;
    };
    stands = subst (λ k. Stands sc ear (outcome_first sc ear epoch st).state k) tick (subst (λ o. Stands sc ear o.state (suc (suc epoch + (sc.plan.l - 1 - 1)))) is closes.stands);
    turns = no-next sc.sizes sc.plan Biu (outcome_first sc ear epoch st).state (epoch + (moment sc hands (suc n)).window * sc.plan.l) unknown;
    epoch_is = (close-stays sc.sizes Biu 16 st 0 1 0 (sense_first sc ear epoch st)).epoch ∙ x.epoch_is;
    unknown = unknown;
    tracks = subst (λ m. Tracks sc m (outcome_first sc ear epoch st).state) on.next_is
        (tracks_after 0 c watched);
  };
  none = λ frame frame_is none.
      subst (NoneSeen sc ear frame 1) later_tick
      (sees_window later stands closes none
      (ap (λ o. o.closed.place) is ∙ place_closed sc.sizes st 0 1 0 (sense_first sc ear epoch st) some_slot ∙ ap (λ f. record { frame = f; slot = 0; stage = 1 }) frame_is)).later;
  watched = watched;
}
  where
    w : ℕ
    w = (moment sc hands n).window

    some_slot : 0 < sync_slot_of sc.sizes
    some_slot = omega (arith, x.beside.law.sizes.some_biu)

    fit : plan_fits sc
    fit = lawful_fits x.beside.law

    two : 2 ≤ sc.plan.l
    two = omega (arith, fit.in_l, x.beside.law.plan.h.0)

    on : GoesOn sc hands n
    on = goes_on sc hands n (omega (arith, x.window)) running

    agreed : IsAgreed sc hands (suc n)
    agreed = agreement hands x.beside.law (suc n) running

    c : Setting sc hands n (moment sc hands n) s 0 0
    c = setting_at 0 0 x.beside some_slot (omega arith) (omega (arith, x.window)) running

    below : (moment sc hands n).window < 3 * sync_slot_of sc.sizes
    below = omega (arith, x.window, some_slot)

    unknown : new_epoch_of sc.plan Biu (outcome_first sc ear epoch st).state ≡ None
    unknown = keeps_middle sc.sizes sc.plan st 0 (sense_first sc ear epoch st) some_slot ∙ x.unknown

    zero_ticks : (moment sc hands n).window * sc.plan.l ≡ 0
    zero_ticks = let e : 0 * sc.plan.l ≡ 0 = omega arith in ap (λ k. k * sc.plan.l) x.window ∙ e

    first_is : first_of sc.sizes sc.plan Biu st (moment sc hands n).window ≡ 0
    first_is = first-same sc.sizes sc.plan Biu st w (omega (arith, below)) ∙ zero_ticks

    last_is : last_of sc.sizes sc.plan Biu st (moment sc hands n).window ≡ sc.plan.l - 1
    last_is = last-same sc.sizes sc.plan Biu st w (omega (arith, below)) ∙ (let e : (moment sc hands n).window * sc.plan.l + sc.plan.l - 1 ≡ sc.plan.l - 1 = omega (arith, zero_ticks) in e)

    some : first_of sc.sizes sc.plan Biu st (moment sc hands n).window ≤ last_of sc.sizes sc.plan Biu st (moment sc hands n).window
    some = omega (arith, first_is, last_is)

    begin : st.epoch + first_of sc.sizes sc.plan Biu st (moment sc hands n).window ≡ epoch
    begin = omega (arith, first_is, x.epoch_is)

    many : last_of sc.sizes sc.plan Biu st (moment sc hands n).window - first_of sc.sizes sc.plan Biu st (moment sc hands n).window ≡ sc.plan.l - 1
    many = omega (arith, first_is, last_is)

    whole : IsWindow sc.sizes sc.plan st st epoch (sc.plan.l - 1)
    whole =
        subst (λ f. IsWindow sc.sizes sc.plan st st f (sc.plan.l - 1)) begin
        (subst (λ k. IsWindow sc.sizes sc.plan st st (st.epoch + first_of sc.sizes sc.plan Biu st (moment sc hands n).window) k) many
        (is_window sc.sizes st w (has_ticks x.beside.law) (omega (arith, below)) some
        (no-next sc.sizes sc.plan Biu st (st.epoch + first_of sc.sizes sc.plan Biu st (moment sc hands n).window) x.unknown)
        (λ k known. let both : None ≡ Some k = sym x.unknown ∙ known in cc) (omega (arith, x.epoch_is, last_is, in_time, x.beside.is.ticks, two))))

    begin_in_time : epoch < ear.ticks
    begin_in_time = omega (arith, in_time, two)

    first_core : (follow sc.sizes sc.plan (record { state = st; had = epoch; inbox = [] })).core ≡ record { state = st; had = suc epoch; inbox = [] }
    first_core =
        goes_on_first sc.sizes sc.plan (record { state = st; had = epoch; inbox = [] }) (omega (arith, begin_in_time, x.beside.is.ticks)) (no-next sc.sizes sc.plan Biu st epoch x.unknown)
        (whole.quiet epoch (omega arith) (omega (arith, two)))
        ∙ ap (λ h. record { state = st; had = h; inbox = [] }) (let e : epoch + 1 ≡ suc epoch = omega arith in e)

    stands : Stands sc ear st (suc epoch)
    stands = record {
      here = ap (λ y. hears sc (ear.heard (suc epoch)) y.listening) (x.begins begin_in_time) ∙ ap (λ d. hears sc (ear.heard (suc epoch)) (now.Following d)) first_core;
    }

    later : IsWindow sc.sizes sc.plan st st (suc epoch) (sc.plan.l - 1 - 1)
    later = later_window (omega (arith, two)) whole

    closes : ClosesWindow sc ear st st (suc epoch) (sc.plan.l - 1 - 1)
    closes = closes_window later stands

    later_tick : suc (suc epoch + (sc.plan.l - 1 - 1)) ≡ epoch + 1 * sc.plan.l
    later_tick = omega (arith, two)

    end : suc epoch + (sc.plan.l - 1 - 1) ≡ epoch + (sc.plan.l - 1)
    end = omega (arith, two)

    same-before : (i : ℕ) → state_before st st i ≡ st
    same-before zero = refl
    same-before (suc i) = refl

    window : (moment sc hands (suc n)).window ≡ (moment sc hands n).window + 1
    window = ap (λ m. m.window) (sym on.next_is) ∙ next-window sc (moment sc hands n)

    one_window : (moment sc hands (suc n)).window * sc.plan.l ≡ sc.plan.l
    one_window = let e : (0 + 1) * sc.plan.l ≡ sc.plan.l = omega arith in ap (λ k. k * sc.plan.l) (window ∙ ap (λ k. k + 1) x.window) ∙ e

    tick : suc (suc epoch + (sc.plan.l - 1 - 1)) ≡ epoch + (moment sc hands (suc n)).window * sc.plan.l
    tick = omega (arith, one_window, two)

    ws : Windows sc (moment sc hands n) 0 1
    ws = exact_windows sc (moment sc hands n) 0 0 c.below c.small c.at

    at : IsAt sc (moment sc hands n) 0 1 (exact_windows sc (moment sc hands n) 0 0 c.below c.small c.at) ((moment sc hands n).window * sc.plan.l) sc.plan.l
    at = exact_at 0 ws c.below c.small c.at

    own : Window
    own = record { slot = 0; stage = 1; first = ws.first Biu st; last = ws.last Biu st }

    place : st.epoch + first_of sc.sizes sc.plan Biu st (moment sc hands n).window
        + (last_of sc.sizes sc.plan Biu st (moment sc hands n).window - first_of sc.sizes sc.plan Biu st (moment sc hands n).window)
        ≡ suc epoch + (sc.plan.l - 1 - 1)
    place = omega (arith, first_is, last_is, x.epoch_is, two)

    here : window_here sc.sizes sc.plan Biu st (suc epoch + (sc.plan.l - 1 - 1)) ≡ own
    here =
        ap (window_here sc.sizes sc.plan Biu st) (sym place) ∙ closes_there sc.sizes st w (has_ticks x.beside.law) (omega (arith, below)) some ∙ ws.are Biu st

    is : closing sc ear st (suc epoch) (sc.plan.l - 1 - 1) ≡ outcome_first sc ear epoch st
    is =
        ap (λ y. close_window sc.sizes sc.plan Biu 16 st y (of_source (collected sc.sizes ear.heard (suc epoch) (sc.plan.l - 1 - 1 + 1)))) here
        ∙ ap (λ k. close_window sc.sizes sc.plan Biu 16 st own (of_source (collected sc.sizes ear.heard (suc epoch) k))) (let e : sc.plan.l - 1 - 1 + 1 ≡ sc.plan.l - 1 = omega (arith, two) in e)
        ∙ ap (λ f. close sc.sizes Biu 16 st 0 1 f (sense_first sc ear epoch st)) (at.first_is Biu st ∙ zero_ticks)

    nothing : (j : ℕ) (source : NodeState) → IsGoodNode sc (moment sc hands n) Rmu j source → stays_good sc (moment sc hands n) j ≡ true
        → of_source (collected sc.sizes ear.heard (suc epoch) (sc.plan.l - 1)) j ≡ []
    nothing j source there stays =
        none_collected sc.sizes ear.heard (suc epoch) (sc.plan.l - 1) j (λ i lt.
        none_with_stamp sc.sizes (suc epoch + i) (ear.heard (suc epoch + i)) j (λ nth d is from.
        let o : IsOwn sc hands ear n d =
        only_own x.beside below (subst (λ k. IsGoodNode sc (moment sc hands n) Rmu k source) (sym from) there)
        (subst (λ k. is_good sc Rmu k (moment sc hands n).frame (slot_numbered sc.sizes ((moment sc hands n).window + 1)) ≡ true) (sym from) stays) (omega (arith, lt, in_time)) (record { nth = nth; there = is }) (omega (arith, zero_ticks), omega (arith, lt, zero_ticks)) in
        let sent : SendsIn sc hands n j o.good.sending = subst (λ k. SendsIn sc hands n k o.good.sending) from (subst (λ k. SendsIn sc hands k d.from o.good.sending) o.here o.good.sent) in
        let both : None ≡ Some o.good.sending =
        sym (sending-none sc.sizes sc.plan x.beside.law.sizes.some_biu j sent.state (word_at sc (moment sc hands n) 0 j)) ∙ sends-at sent ws in
        cc))

    watched : IsWatched sc (moment sc hands n) 0 0 st (sense_first sc ear epoch st) seen
    watched = record {
      most = most_stay x.beside.law x.beside.run n (omega (arith, x.window)) running;
      tracks = x.tracks;
      senses = λ j source there stays. silent j source there stays (says sc.sizes Rmu j source 0 1 (word_at sc (moment sc hands n) 0 j))
          (says-none sc.sizes x.beside.law.sizes.some_biu j source (word_at sc (moment sc hands n) 0 j));
      none = none;
      saw = λ votes. absurd (votes-none (listens Biu (role_of sc.sizes 0) 1) votes);
    }
      where
        silent : (j : ℕ) (source : NodeState) → IsGoodNode sc (moment sc hands n) Rmu j source → stays_good sc (moment sc hands n) j ≡ true → (said : Option Heard) → said ≡ None
            → IsSenseOf (sense_first sc ear epoch st j) source 0 1 said
        silent j source there stays None e = ap (sense_of (expect_of sc.sizes sc.plan.version st 0 1)) (nothing j source there stays)
        silent j source there stays (Some v) e = cc
