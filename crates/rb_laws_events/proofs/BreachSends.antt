-- For the law that events are rounds if the premise on faults is broken in a sync slot: what good
-- nodes send in a stage of the sync slot has come everywhere before any of them closes it, whatever
-- the verdict on it.
use Rattle.std.proofs.Common.{◌≡◌, ℕ, zero, suc, ◌+◌, ◌*◌, ◌<◌, ◌≤◌, true, false, List, refl, ap, sym, ◌∙◌, subst, arith, Some, slice_get, lit<}
use Rattle.rb_base.specs.{Nodes.{Side, other}, Nodes.Side.{Biu, Rmu}, Sizes.sync_slot_of}
use Rattle.rb_rules.specs.{declared.role.Role.TheVariants.Sync, declared.plan.Window.Window, Book.of_kind, Clock.time_of, Goodness.{Scenario, clock_of}, Hearing.{Sending, sending}, Lawful.IsLawful, Moments.IsRunning, NodeState.NodeState, Ports.HandIn, Rounds.{Moment, moment}, Slots.listens}
use Rattle.rb_laws_agreement.proofs.{Invariant.IsGoodNode, NodeWindows.sync_windows_are}
use Rattle.rb_laws_synchrony.proofs.{StageCalls.{CallWell, first_about, first_calls, second_about, second_calls, third_about, third_calls}, Synchrony.{IsSynchronous, synchrony}, TakenCalls.{IsStage, call_sent, is_set}, TimelyWindows.{IsSet, LieAbout}}
use Rattle.rb_laws_events.proofs.{FrameTimes.good-node, Invariant.{is_good_at, last_tick, sending_of, word_at}, NodeSends.sending_at, SentChanges.sending-of-is, StageOrder.last_of}

-- what a node sends has come everywhere by the time of the last tick of another node
abbrev pub HasComeBy : Scenario → Moment → Side → ℕ → NodeState → Side → ℕ → Type 0
HasComeBy sc m me i st kind j =
    (s : Sending) → sending_of sc m kind j ≡ Some s → time_of (clock_of sc kind j) s.tick + sc.plan.dmax ≤ time_of (clock_of sc me i) (last_tick sc m me st)

-- only one kind sends in a stage
only : (kind me : Side) (stage : ℕ) → listens (other me) Sync stage ≡ true → listens (other (other kind)) Sync stage ≡ false → me ≡ kind
only Biu Biu stage h k = refl
only Biu Rmu stage h k = let both : true ≡ false = sym h ∙ k in absurd (cc)
only Rmu Biu stage h k = let both : true ≡ false = sym h ∙ k in absurd (cc)
only Rmu Rmu stage h k = refl

-- if the calls of a kind are sent in time for the windows of the stage, what a good node sends has
-- come to each good node
by-calls : {sc m : _} (q : ℕ) (c : IsSet sc m (sync_slot_of sc.sizes) (q + 1)) → q < 3 → m.window ≡ 3 * sync_slot_of sc.sizes + q → {kind first last from to : _}
    → listens (other (other kind)) Sync (q + 1) ≡ false → CallWell sc m kind (q + 1) first last from to → LieAbout sc m (sync_slot_of sc.sizes) (q + 1) c.ws from to
    → {me i st : _} → IsGoodNode sc m me i st → {sender j source : _} → IsGoodNode sc m sender j source → HasComeBy sc m me i st sender j
by-calls {sc} {m} q c small at {kind} {first} {last} {from} {to} deaf calls about {me} {i} {st} here {sender} {j} {source} there s e =
    let word : ℕ = word_at sc m sender j source in
    let is : sending_of sc m sender j ≡ sending_at sc.sizes sc.plan sender j source m.window word = sending-of-is sc m sender j there.there in
    let window : sending_at sc.sizes sc.plan sender j source m.window word ≡ sending sc.sizes sc.plan sender j source (sync_slot_of sc.sizes) (q + 1) word =
    ap (λ (w : Window). sending sc.sizes sc.plan sender j source w.slot w.stage word) ((sync_windows_are sc m q small at).are sender source) in
    let sends = call_sent sc.sizes sc.plan sender j source (q + 1) word (sym window ∙ sym is ∙ e) in
    let same : kind ≡ sender = sym (only kind sender (q + 1) sends.1 deaf) in
    let own : CallWell sc m sender (q + 1) first last from to = subst (λ k. CallWell sc m k (q + 1) first last from to) same calls in
    let between = own.between j source s.tick there sends.0 in
    let its_last : c.ws.last me st ≡ last_of sc.sizes sc.plan me st m.window = sym (ap (λ (w : Window). w.last) (c.ws.are me st)) in
    let end : time_of (clock_of sc me i) (st.epoch + c.ws.last me st) ≡ time_of (clock_of sc me i) (last_tick sc m me st) = ap (λ o. time_of (clock_of sc me i) (st.epoch + o)) its_last in
    omega (arith, between.most, about.late me i st here, end)

pub sent-before : {sc : _} (hands : List HandIn) → IsLawful sc → (p q : ℕ) → IsRunning (moment sc hands p) → q < 3 → (moment sc hands p).window ≡ 3 * sync_slot_of sc.sizes + q
    → (me : Side) (i : ℕ) {st : _} → slice_get (of_kind me (moment sc hands p).nodes) i ≡ Some st → is_good_at sc (moment sc hands p) me i ≡ true
    → (kind : Side) (j : ℕ) {source : _} → slice_get (of_kind kind (moment sc hands p).nodes) j ≡ Some source → is_good_at sc (moment sc hands p) kind j ≡ true
    → HasComeBy sc (moment sc hands p) me i st kind j
sent-before {sc} hands lawful p q running small at me i {st} there good kind j {source} there2 good2 =
    by q small at
  where
    m : Moment
    m = moment sc hands p

    s : IsSynchronous sc hands p
    s = synchrony hands lawful p running

    here : IsGoodNode sc m me i st
    here = good-node sc m me i there good

    source_here : IsGoodNode sc m kind j source
    source_here = good-node sc m kind j there2 good2

    stage : (q : ℕ) → q < 3 → m.window ≡ 3 * sync_slot_of sc.sizes + q → IsStage sc hands p m s.shared q
    stage q small at = record { law = lawful; agree = s.agree; small = small; at = at }

    by : (q : ℕ) → q < 3 → m.window ≡ 3 * sync_slot_of sc.sizes + q → HasComeBy sc m me i st kind j
    by zero small at =
        let c : IsSet sc m (sync_slot_of sc.sizes) 1 = is_set (stage 0 (lit< tt) at) in
        by-calls 0 c (lit< tt) at refl
        (first_calls lawful s.near.begun) (first_about c at s.near.begun) here source_here
    by (suc zero) small at =
        let c : IsSet sc m (sync_slot_of sc.sizes) 2 = is_set (stage 1 (lit< tt) at) in
        by-calls 1 c (lit< tt) at refl
        (second_calls lawful s.near at) (second_about c at s.near.begun) here source_here
    by (suc (suc zero)) small at =
        let c : IsSet sc m (sync_slot_of sc.sizes) 3 = is_set (stage 2 (lit< tt) at) in
        by-calls 2 c (lit< tt) at refl
        (third_calls lawful s.near at) (third_about c at s.near.begun) here source_here
    by (suc (suc (suc q))) small at = absurd (omega arith)
