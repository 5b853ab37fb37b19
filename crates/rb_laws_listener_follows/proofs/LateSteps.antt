-- A listener goes through stage 3 of the sync slot and the tail, in which no RMU speaks.
use Rattle.std.proofs.{Common.{◌≡◌, ℕ, suc, ◌+◌, ◌-◌, ◌*◌, ◌≤◌, true, false, List, [], Some, slice_get, sym, ◌∙◌, ap, subst, arith}, lemmas.Option.same_Some}
use Rattle.rb_base.specs.{Nodes.has, Nodes.Side.{Biu, Rmu}, Sizes.sync_slot_of}
use Rattle.rb_rules.specs.{declared.sense.Sense.Sense, declared.sense.Sense.TheVariants.Silent, Book.of_kind, Clock.IsStamp, Core.of_source, Goodness.{Scenario, is_good}, Hearing.Sending, NodeState.NodeState, NodeSteps.expect_of, Plan.f0_of, Ports.HandIn, Rounds.moment, Sense.sense_of, Standing.does_wrong, SyncStage.{close_sync, expects_call, new_epoch_of}}
use Rattle.rb_laws_agreement.proofs.{Tests.Present, ExactAgrees.has_ticks, Goodnesses.{good_before, good_below_16}, Invariant.{IsGoodNode, Shared, is_good_now, slot_numbered}, NextMoments.next, Settings.good_state, SyncAgrees.SyncSetting}
use Rattle.rb_laws_events.proofs.TurnTicks.{not-yet}
use Rattle.rb_laws_listener_learns.specs.Ears.{Ear, SendsIn, coming_to}
use Rattle.rb_laws_listener_near.proofs.SyncTracks.{IsLike, like_sync, spares_sync}
use Rattle.rb_laws_listener_follows.proofs.{Arrivals.{none_collected, none_with_stamp}, FirstCalls.{IsSpan, keeps_epoch, sense_span, span_closing, span_window}, FollowerRuns.{ClosesWindow, IsWindow, Stands, closes_window, closing, collected}, HeardExact.Beside, HeardLast.{NextBegins, nothing_late}}

-- the listener directly accuses no RMU that is good in the next frame
abbrev pub SparesNext : Scenario → ℕ → NodeState → Type 0
SparesNext sc frame st = (j : ℕ) → is_good sc Rmu j (frame + 1) 0 ≡ true → has st.far.direct j ≡ false

-- the calls of stage 2 of this frame have come before the tick after its window
abbrev pub CallsAreOver : Scenario → List HandIn → Ear → ℕ → ℕ → Type 0
CallsAreOver sc hands ear n epoch =
    (j q : ℕ) (x : Sending) → SendsIn sc hands q j x → (moment sc hands q).frame ≡ (moment sc hands n).frame → (moment sc hands q).window ≡ 3 * sync_slot_of sc.sizes + 1
    → (k : ℕ) → IsStamp ear.clock (coming_to sc ear j (moment sc hands q).frame x).time k → k + 1 ≤ epoch + f0_of sc.sizes sc.plan + sc.plan.l + sc.plan.v

-- the listener stands with offset a before a window after stage 2, and knows when its next frame
-- begins
pub record StandsLate (sc : Scenario) (hands : List HandIn) (ear : Ear) (n epoch low : ℕ) (s : Shared) (st : NodeState) (a next_epoch later : ℕ) : Type 0 where
  pub beside : Beside sc hands ear n epoch low s
  pub next : NextBegins sc hands ear (moment sc hands n).frame next_epoch later
  pub over : CallsAreOver sc hands ear n epoch
  pub stands : Stands sc ear st (epoch + a)
  pub like : IsLike sc (moment sc hands n) st
  pub spares : SparesNext sc (moment sc hands n).frame st
  pub epoch_is : st.epoch ≡ epoch
  pub known : new_epoch_of sc.plan Biu st ≡ Some next_epoch

-- the listener expects nobody with these ticks, and they leave its middle
pub record IsDeaf (sc : Scenario) (hands : List HandIn) (ear : Ear) (n epoch : ℕ) (st : NodeState) (stage a ticks next_epoch : ℕ) : Type 0 where
  pub window : 3 * sync_slot_of sc.sizes + 2 ≤ (moment sc hands n).window
  pub span : IsSpan sc st (moment sc hands n).window (sync_slot_of sc.sizes) stage a ticks
  pub expects : (j : ℕ) → expects_call Biu st stage j ≡ false
  pub keeps : (first : ℕ) (sense : ℕ → Sense) → new_epoch_of sc.plan Biu (close_sync sc.sizes Biu st stage first sense).state ≡ new_epoch_of sc.plan Biu st
  pub after : f0_of sc.sizes sc.plan + sc.plan.l + sc.plan.v ≤ a
  pub before : epoch + a + ticks ≤ next_epoch
  pub in_time : epoch + a + ticks ≤ ear.ticks

-- with the last of these ticks the listener stands before the tick after it
pub record PassesLate (sc : Scenario) (hands : List HandIn) (ear : Ear) (n epoch : ℕ) (st : NodeState) (a ticks next_epoch : ℕ) : Type 0 where
  pub closes : ClosesWindow sc ear st st (epoch + a) (ticks - 1)
  pub now : NodeState
  pub is : (closing sc ear st (epoch + a) (ticks - 1)).state ≡ now
  pub stands : Stands sc ear now (epoch + a + ticks)
  pub like : IsLike sc (next sc (moment sc hands n)) now
  pub spares : SparesNext sc (moment sc hands n).frame now
  pub epoch_is : now.epoch ≡ epoch
  pub known : new_epoch_of sc.plan Biu now ≡ Some next_epoch

pub passes_late : {sc hands ear n epoch low s q ws st a ticks next_epoch later : _}
    → StandsLate sc hands ear n epoch low s st a next_epoch later → SyncSetting sc hands n (moment sc hands n) s q ws → IsDeaf sc hands ear n epoch st (q + 1) a ticks next_epoch
    → PassesLate sc hands ear n epoch st a ticks next_epoch
passes_late {sc} {hands} {ear} {n} {epoch} {q} {st} {a} {ticks} {next_epoch} x set d = record {
  closes = c;
  now = now;
  is = ap (λ o. o.state) is;
  stands = subst (λ k. Stands sc ear now k) tick (subst (λ o. Stands sc ear o.state (suc (epoch + a + (ticks - 1)))) is c.stands);
  like = like_sync set x.like (st.epoch + a) sense;
  spares = λ j good.
      spares_sync sc.sizes st (q + 1) (st.epoch + a) sense j (good_below_16 sc x.beside.law.sizes Rmu j ((moment sc hands n).frame + 1) 0 good)
      (ap (λ b. does_wrong b (sense j)) (d.expects j) ∙ ap (does_wrong false) (silent j good)) (x.spares j good);
  epoch_is = keeps_epoch sc.sizes st (q + 1) (st.epoch + a) sense ∙ x.epoch_is;
  known = d.keeps (st.epoch + a) sense ∙ x.known;
}
  where
    sense : ℕ → Sense
    sense = sense_span sc ear (epoch + a) ticks st (sync_slot_of sc.sizes) (q + 1)

    now : NodeState
    now = (close_sync sc.sizes Biu st (q + 1) (st.epoch + a) (sense_span sc ear (epoch + a) ticks st (sync_slot_of sc.sizes) (q + 1))).state

    is : closing sc ear st (epoch + a) (ticks - 1) ≡ close_sync sc.sizes Biu st (q + 1) (st.epoch + a) (sense_span sc ear (epoch + a) ticks st (sync_slot_of sc.sizes) (q + 1))
    is = span_closing ear d.span (has_ticks x.beside.law) x.epoch_is

    here : IsWindow sc.sizes sc.plan st st (epoch + a) (ticks - 1)
    here =
        span_window st d.span (has_ticks x.beside.law) x.epoch_is
        (not-yet sc.sizes sc.plan Biu st (epoch + a) x.known (omega (arith, d.before, d.span.some)))
        (λ y known. let same : next_epoch ≡ y = same_Some next_epoch y (sym x.known ∙ known) in omega (arith, same, d.before)) (omega (arith, d.in_time, x.beside.is.ticks))

    c : ClosesWindow sc ear st st (epoch + a) (ticks - 1)
    c = closes_window here x.stands

    tick : suc (epoch + a + (ticks - 1)) ≡ epoch + a + ticks
    tick = omega (arith, d.span.some)

    silent : (j : ℕ) → is_good sc Rmu j ((moment sc hands n).frame + 1) 0 ≡ true → sense_span sc ear (epoch + a) ticks st (sync_slot_of sc.sizes) (q + 1) j ≡ Silent
    silent j good =
        let was : is_good_now sc (moment sc hands n) Rmu j ≡ true =
        good_before sc Rmu j (moment sc hands n).frame ((moment sc hands n).frame + 1) (slot_numbered sc.sizes (moment sc hands n).window) 0 (omega arith) good in
        let there : Present (slice_get (of_kind Rmu (moment sc hands n).nodes) j) = good_state x.beside.agree Rmu j was in
        let none : of_source (collected sc.sizes ear.heard (epoch + a) ticks) j ≡ [] =
        none_collected sc.sizes ear.heard (epoch + a) ticks j (λ i lt.
        none_with_stamp sc.sizes (epoch + a + i) (ear.heard (epoch + a + i)) j (λ nth m is from.
        nothing_late x.beside d.window x.next x.over
        (subst (λ k. IsGoodNode sc (moment sc hands n) Rmu k there.value) (sym from) (record { there = there.is; good = was }))
        (subst (λ k. is_good sc Rmu k ((moment sc hands n).frame + 1) 0 ≡ true) (sym from) good) (omega (arith, lt, d.in_time)) (record { nth = nth; there = is })
        (record { from = omega (arith, d.after); before = omega (arith, lt, d.before) }))) in
        ap (sense_of (expect_of sc.sizes sc.plan.version st (sync_slot_of sc.sizes) (q + 1))) none
