-- When a window is timely: if what good nodes send in it is sent at their own ticks of it, and
-- between two times about which the windows of all good nodes lie.
use Rattle.std.proofs.{Common.{◌≡◌, ℕ, ◌+◌, ◌≤◌, true, [], Option, Some, None, slice_get, option_map, option_and_then, refl, sym, ◌∙◌, ap, subst, arith}, lemmas.List.Elements.{All-cons, All-nil}}
use Rattle.std.specs.Prelude.{All, IfSome, option_to_list}
use Rattle.rb_base.specs.{Nodes.{Side, other}, Sizes.Sizes, declared.values.Place.Place}
use Rattle.rb_rules.specs.{declared.message.Message.Message, declared.plan.Plan.Plan, Book.of_kind, Clock.{stamp_of, time_of}, Goodness.{Scenario, clock_of, is_good}, Hearing.{Coming, Sending, coming_of, sending, span_of}, Lawful.{IsDelay, IsLawful}, Links.{delay_of, name_of}, NodeState.NodeState, NodeSteps.message_said, Plan.shortest_of, Rounds.{IsGoodIn, IsTickOf, IsTimely, Moment, heard_at, sending_in, sent_in}, SyncStage.send_tick_of}
use Rattle.rb_rules.proofs.Middles.{IsBetween}
use Rattle.rb_laws_agreement.proofs.{Invariant.{IsGoodNode, slot_numbered}, NodeWindows.{Windows, from-good, heard_in, own_window, sent-at, word_at}}
use Rattle.rb_laws_synchrony.proofs.{PlanNumbers.drift_of, Times.{Steady, delay_within, stamp_from, stamp_to, steady}}

-- What a node sends.

-- the tick and the message of what is sent
pub record IsSent (sizes : Sizes) (plan : Plan) (me : Side) (i : ℕ) (st : NodeState) (slot stage word : ℕ) (s : Sending) : Type 0 where
  pub tick : send_tick_of sizes plan st slot stage ≡ Some s.tick
  pub message : message_said sizes me i st slot stage word ≡ Some s.message

pub sent_parts : (sizes : Sizes) (plan : Plan) (me : Side) (i : ℕ) (st : NodeState) (slot stage word : ℕ) {s : _}
    → sending sizes plan me i st slot stage word ≡ Some s → IsSent sizes plan me i st slot stage word s
unfolding sending
sent_parts sizes plan me i st slot stage word {s} h =
    go (message_said sizes me i st slot stage word) (send_tick_of sizes plan st slot stage) refl refl h
  where
    go : (said : Option Message) (at : Option ℕ) → message_said sizes me i st slot stage word ≡ said → send_tick_of sizes plan st slot stage ≡ at
        → option_and_then (λ (m : Message). option_map (λ tick. let s : Sending = record { tick = tick; message = m } in s) at) said ≡ Some s
        → IsSent sizes plan me i st slot stage word s
    go None at p q e = cc
    go (Some m) None p q e = cc
    go (Some m) (Some tick) p q e =
        let same : (let s : Sending = record { tick = tick; message = m } in s) ≡ s = cc in
        record { tick = q ∙ ap (λ (x : Sending). Some x.tick) same; message = p ∙ ap (λ (x : Sending). Some x.message) same }

-- What a good node hears of a good one.

-- what good source j sent, if anything, comes to node i
pub heard_good : {sc m slot stage : _} (ws : Windows sc m slot stage) (me : Side) (i j : ℕ) (st : NodeState) {source : _}
    → st.frame ≡ m.frame → slice_get (of_kind (other me) m.nodes) j ≡ Some source → is_good sc (other me) j m.frame slot ≡ true
    → heard_in ws me i st j
    ≡ option_to_list (option_map (coming_of sc me i j st.frame) (sending sc.sizes sc.plan (other me) j source slot stage (word_at sc m slot j)))
heard_good {sc} {m} {slot} ws me i j st frame is good =
    from-good sc me i (span_of st (own_window ws me st)) (of_kind (other me) (sent_in sc m)) j (ap (λ f. is_good sc (other me) j f slot) frame ∙ good)
    ∙ ap (λ o. option_to_list (option_map (coming_of sc me i j st.frame) o)) (sent-at ws (other me) j is)

-- a message comes between the least and the greatest delay after it was sent
pub coming_between : {sc : _} → IsLawful sc → (me : Side) (i j frame : ℕ) (s : Sending) {low high : ℕ}
    → IsBetween low high (time_of (clock_of sc (other me) j) s.tick)
    → IsBetween (low + sc.plan.dmin) (high + sc.plan.dmax) (coming_of sc me i j frame s).time
coming_between {sc} law me i j frame s between =
    let place : Place = record { frame = frame; slot = s.message.slot; stage = s.message.stage } in
    let delay : IsDelay sc.plan (delay_of sc.delays (name_of (other me) j) (name_of me i) place) =
    delay_within law (name_of (other me) j) (name_of me i) place in
    record { least = omega (arith, between.least, delay.least); most = omega (arith, between.most, delay.greatest) }

-- A window.

-- the window of a moment, in which all good nodes are in the moment's frame
pub record IsSet (sc : Scenario) (m : Moment) (slot stage : ℕ) : Type 0 where
  pub law : IsLawful sc
  pub ws : Windows sc m slot stage
  pub slot_is : slot_numbered sc.sizes m.window ≡ slot
  pub frames : (me : Side) (i : ℕ) (st : NodeState) → IsGoodNode sc m me i st → st.frame ≡ m.frame

-- what good nodes send in the window is sent at their own ticks of it, and between two times
pub record IsSentBetween (sc : Scenario) (m : Moment) (slot stage : ℕ) (ws : Windows sc m slot stage) (low high : ℕ) : Type 0 where
  pub own : (me : Side) (i : ℕ) (st : NodeState) → IsGoodNode sc m me i st → (s : Sending)
      → sending sc.sizes sc.plan me i st slot stage (word_at sc m slot i) ≡ Some s → IsTickOf (span_of st (own_window ws me st)) s.tick
  pub between : (me : Side) (i : ℕ) (st : NodeState) → IsGoodNode sc m me i st → (s : Sending)
      → sending sc.sizes sc.plan me i st slot stage (word_at sc m slot i) ≡ Some s → IsBetween low high (time_of (clock_of sc me i) s.tick)

-- the windows of all good nodes lie about the times from `low` to `high` with the delays
pub record LieAbout (sc : Scenario) (m : Moment) (slot stage : ℕ) (ws : Windows sc m slot stage) (low high : ℕ) : Type 0 where
  pub early : (me : Side) (i : ℕ) (st : NodeState) → IsGoodNode sc m me i st → time_of (clock_of sc me i) (st.epoch + ws.first me st) ≤ low + sc.plan.dmin
  pub late : (me : Side) (i : ℕ) (st : NodeState) → IsGoodNode sc m me i st → high + sc.plan.dmax ≤ time_of (clock_of sc me i) (st.epoch + ws.last me st)

if_some : {X : Type 0} (P : X → Type 0) (o : Option X) → ((x : X) → o ≡ Some x → P x) → IfSome o P
if_some P None h = tt
if_some P (Some x) h = h x refl

all_option : {X Y : Type 0} (f : X → Y) (P : Y → Type 0) (o : Option X) → ((x : X) → o ≡ Some x → P (f x)) → All P (option_to_list (option_map f o))
all_option f P None h = All-nil P
all_option f P (Some x) h = All-cons P (f x) [] (h x refl) (All-nil P)

-- a node that is good in the window is a good node of the moment
pub good_in : {sc m slot stage : _} → IsSet sc m slot stage → {me i st : _} → IsGoodIn sc m me i st → IsGoodNode sc m me i st
good_in {sc} {m} c {me} {i} {st} h =
    record { there = h.0; good = ap (is_good sc me i m.frame) (c.slot_is ∙ sym (ap (λ w. w.slot) (c.ws.are me st))) ∙ h.1 }

pub good_here : {sc m slot stage : _} → IsSet sc m slot stage → {me i st : _} → IsGoodNode sc m me i st
    → is_good sc me i m.frame slot ≡ true
good_here {sc} {m} c {me} {i} h = ap (is_good sc me i m.frame) (sym c.slot_is) ∙ h.good

pub timely : {sc m slot stage : _} (c : IsSet sc m slot stage) {low high : ℕ} → IsSentBetween sc m slot stage c.ws low high
    → LieAbout sc m slot stage c.ws low high → IsTimely sc m
timely {sc} {m} {slot} {stage} c {low} {high} sent about = record {
  sent = λ me i st h.
      subst (λ w. IfSome (sending_in sc m me i st w) (λ s. IsTickOf (span_of st w) s.tick)) (sym (c.ws.are me st))
      (if_some (λ s. IsTickOf (span_of st (own_window c.ws me st)) s.tick) (sending sc.sizes sc.plan me i st slot stage (word_at sc m slot i))
      (sent.own me i st (good_in c h)));
  heard = λ me i j st source h k.
      let here : IsGoodNode sc m me i st = good_in c h in
      let there : IsGoodNode sc m (other me) j source = good_in c k in
      let good : is_good sc (other me) j m.frame slot ≡ true = good_here c there in
      let clock : Steady (shortest_of sc.plan) (drift_of sc.plan) (clock_of sc me i) =
      steady c.law me i m.frame slot (good_here c here) in
      let IsIn : Coming → Type 0 = λ x. IsTickOf (span_of st (own_window c.ws me st)) (stamp_of (clock_of sc me i) x.time) in
      subst (λ w. All (λ x. IsTickOf (span_of st w) (stamp_of (clock_of sc me i) x.time)) (heard_at sc me i st w (sent_in sc m) j)) (sym (c.ws.are me st))
      (subst (All IsIn) (sym (heard_good c.ws me i j st (c.frames me i st here) there.there good))
      (all_option (coming_of sc me i j st.frame) IsIn (sending sc.sizes sc.plan (other me) j source slot stage (word_at sc m slot j)) (λ s is.
      let time : ℕ = (coming_of sc me i j st.frame s).time in
      let comes : IsBetween (low + sc.plan.dmin) (high + sc.plan.dmax) time =
      coming_between c.law me i j st.frame s (sent.between (other me) j source there s is) in (
        stamp_from (clock_of sc me i) clock.moves time (st.epoch + c.ws.first me st) (omega (arith, comes.least, about.early me i st here)),
        stamp_to (clock_of sc me i) clock.moves time (st.epoch + c.ws.last me st) (omega (arith, comes.most, about.late me i st here)),
      ))));
}

-- a window in which no good node sends anything is timely
pub timely_silent : {sc m slot stage : _} (c : IsSet sc m slot stage)
    → ((me : Side) (i : ℕ) (st : NodeState) → IsGoodNode sc m me i st → (s : Sending) → sending sc.sizes sc.plan me i st slot stage (word_at sc m slot i) ≡ Some s → ⊥)
    → IsTimely sc m
timely_silent {sc} {m} {slot} {stage} c silent = record {
  sent = λ me i st h.
      subst (λ w. IfSome (sending_in sc m me i st w) (λ s. IsTickOf (span_of st w) s.tick)) (sym (c.ws.are me st))
      (if_some (λ s. IsTickOf (span_of st (own_window c.ws me st)) s.tick) (sending sc.sizes sc.plan me i st slot stage (word_at sc m slot i))
      (λ s is. absurd (silent me i st (good_in c h) s is)));
  heard = λ me i j st source h k.
      let here : IsGoodNode sc m me i st = good_in c h in
      let there : IsGoodNode sc m (other me) j source = good_in c k in
      let good : is_good sc (other me) j m.frame slot ≡ true = good_here c there in
      let IsIn : Coming → Type 0 = λ x. IsTickOf (span_of st (own_window c.ws me st)) (stamp_of (clock_of sc me i) x.time) in
      subst (λ w. All (λ x. IsTickOf (span_of st w) (stamp_of (clock_of sc me i) x.time)) (heard_at sc me i st w (sent_in sc m) j)) (sym (c.ws.are me st))
      (subst (All IsIn) (sym (heard_good c.ws me i j st (c.frames me i st here) there.there good))
      (all_option (coming_of sc me i j st.frame) IsIn (sending sc.sizes sc.plan (other me) j source slot stage (word_at sc m slot j))
      (λ s is. absurd (silent (other me) j source there s is))));
}
