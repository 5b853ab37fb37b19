-- What a good RMU says in a stage that is recorded, and what is recorded of it.
use Rattle.std.proofs.Common.{◌≡◌, ℕ, ◌+◌, ◌<◌, ◌==◌, true, false, Some, List, refl, sym, ◌∙◌, ap, subst, arith}
use Rattle.rb_base.specs.{Nodes.Side.Rmu, Sizes.{Sizes, sync_slot_of}, declared.values.Heard.Heard, declared.values.Heard.TheVariants.{Word, Fault}}
use Rattle.rb_base.proofs.Plain.{less-differs}
use Rattle.rb_rules.specs.{declared.plan.Plan.Plan, declared.sense.Sense.Sense, declared.sense.Sense.TheVariants.One, ExactStage.{message_of, says}, Goodness.is_good, Hearing.sending, Moments.IsRunning, NodeState.NodeState, Rounds.{moment, sending_in}, Sense.{is_one, value_in}, Slots.role_of, Windows.send_offset_of}
use Rattle.rb_rules.proofs.Senses.{value_is_in}
use Rattle.rb_laws_agreement.proofs.{Goodnesses.slot_here, Invariant.IsGoodNode, NodeWindows.{Windows, exact_windows, word_at}}
use Rattle.rb_listen.specs.Lessons.{record_of, stage_recorded}
use Rattle.rb_laws_listener_learns.specs.{Ears.SendsIn, Records.{IsRecorded, RecordsAreWhole}}
use Rattle.rb_laws_listener_learns.proofs.Within.{IsExactAt}

said-sending : (sizes : Sizes) (plan : Plan) (j : ℕ) (st : NodeState) (slot stage word : ℕ) {v : _} → slot < sync_slot_of sizes → says sizes Rmu j st slot stage word ≡ Some v
    → sending sizes plan Rmu j st slot stage word ≡ Some (record { tick = st.epoch + send_offset_of plan slot stage; message = message_of st slot stage v })
unfolding sending
said-sending sizes plan j st slot stage word below said =
    let away : (slot == sync_slot_of sizes) ≡ false = less-differs slot (sync_slot_of sizes) below in rw (away, said) refl

place-back : (st : NodeState) (slot stage : ℕ) (v : Heard) → ((message_of st slot stage v).slot ≡ slot) × ((message_of st slot stage v).stage ≡ stage)
place-back st slot stage (Word w) = (refl, refl)
place-back st slot stage Fault = (refl, refl)

pub sends-said : {sc hands m j slot q st v : _} → IsExactAt sc hands m slot q → IsRunning (moment sc hands m) → IsGoodNode sc (moment sc hands m) Rmu j st
    → says sc.sizes Rmu j st slot (q + 1) (word_at sc (moment sc hands m) slot j) ≡ Some v
    → SendsIn sc hands m j (record { tick = st.epoch + send_offset_of sc.plan slot (q + 1); message = message_of st slot (q + 1) v })
sends-said {sc} {hands} {m} {j} {slot} {q} {st} {v} e running node said =
    let ws : Windows sc (moment sc hands m) slot (q + 1) = exact_windows sc (moment sc hands m) slot q e.below e.small e.at in
    record {
      running = running;
      in_frame = omega (arith, e.at, e.below, e.small);
      state = st;
      good = (node.there, ap (is_good sc Rmu j (moment sc hands m).frame) (ap (λ w. w.slot) (ws.are Rmu st) ∙ sym (slot_here sc.sizes slot q e.below e.small e.at)) ∙ node.good);
      sends =
          subst (λ w. sending_in sc (moment sc hands m) Rmu j st w ≡ Some (record { tick = st.epoch + send_offset_of sc.plan slot (q + 1); message = message_of st slot (q + 1) v })) (sym (ws.are Rmu st))
          (said-sending sc.sizes sc.plan j st slot (q + 1) (word_at sc (moment sc hands m) slot j) e.below said);
    }

-- the value `v` is recorded of RMU `j` in the slot
pub record IsValued (records : List Sense) (slot j : ℕ) (v : Heard) : Type 0 where
  pub value : value_in (record_of records slot j) ≡ Some v
  pub one : is_one (record_of records slot j) ≡ true

pub recorded-value : {sc hands ear learned records : _} → RecordsAreWhole sc hands ear learned records
    → {m j slot q st v : _} → IsExactAt sc hands m slot q → IsRunning (moment sc hands m) → (moment sc hands m).frame ≡ learned → IsGoodNode sc (moment sc hands m) Rmu j st
    → is_good sc Rmu j learned (sync_slot_of sc.sizes) ≡ true → stage_recorded (role_of sc.sizes slot) ≡ q + 1
    → says sc.sizes Rmu j st slot (q + 1) (word_at sc (moment sc hands m) slot j) ≡ Some v → IsValued records slot j v
recorded-value {sc} {hands} {ear} {records} whole {m} {j} {slot} {q} {st} {v} e running frame node good staged said =
    let place : ((message_of st slot (q + 1) v).slot ≡ slot) × ((message_of st slot (q + 1) v).stage ≡ q + 1) = place-back st slot (q + 1) v in
    let r : IsRecorded sc hands ear records m j (record { tick = st.epoch + send_offset_of sc.plan slot (q + 1); message = message_of st slot (q + 1) v }) =
    whole j good m (record { tick = st.epoch + send_offset_of sc.plan slot (q + 1); message = message_of st slot (q + 1) v }) (sends-said e running node said) frame
    (place.1 ∙ sym staged ∙ ap (λ t. stage_recorded (role_of sc.sizes t)) (sym place.0)) in
    let is : record_of records slot j ≡ One r.stamp (message_of st slot (q + 1) v) = ap (λ t. record_of records t j) (sym place.0) ∙ r.is in
    record { value = ap value_in is ∙ value_is_in st slot (q + 1) r.stamp v; one = ap is_one is }
