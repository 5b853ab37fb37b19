-- For the law that events are rounds if the premise on faults is broken in a sync slot: good nodes
-- are in time in each window that the run reaches, whatever the verdict on it.
use Rattle.std.proofs.{Common.{◌≡◌, ℕ, suc, ◌+◌, ◌*◌, ◌<◌, List, sym, ◌∙◌, subst, arith, inl, inr}, lemmas.Bool.cases_lt}
use Rattle.rb_base.specs.Sizes.{sync_slot_of}
use Rattle.rb_rules.specs.{Lawful.IsLawful, Moments.IsRunning, Ports.HandIn, Rounds.{Moment, moment}}
use Rattle.rb_laws_events.specs.Closing.{stages_in}
use Rattle.rb_laws_events.proofs.{BreachEpochs.begins-after, FrameTimes.{BegunWell, begun-well}, Invariant.{InTime, next_stage}, MomentSteps.{next-inner, next-outer}, RunTimes.{heard-running, in-exact}, StageTimes.{keeps-running, stage-room}, TimelyMoments.{order-inner, order-outer}}

-- in each stage that the run reaches good nodes are in time
pub in-reached : {sc : _} (hands : List HandIn) → IsLawful sc → (p : ℕ) → IsRunning (moment sc hands p) → (moment sc hands p).window < stages_in sc.sizes
    → InTime sc (moment sc hands p) (moment sc hands (next_stage sc.sizes (moment sc hands p) p))
in-reached {sc} hands lawful p running stage =
    let m : Moment = moment sc hands p in
    let well : BegunWell sc m = begun-well hands lawful p running in
    elim (cases_lt (3 * sync_slot_of sc.sizes) m.window) [
      | inr exact ↦ in-exact hands lawful p well exact
      | inl sync ↦ elim (cases_lt (m.window + 1) (stages_in sc.sizes)) [
        | inl inner ↦
            let is : next_stage sc.sizes m p ≡ suc p = next-inner sc.sizes m p inner in
            subst (λ q. InTime sc m (moment sc hands q)) (sym is) (record {
              keeps = keeps-running hands lawful p running;
              room = stage-room hands lawful p well stage;
              heard = heard-running hands lawful p running (omega arith);
              order = order-inner hands lawful p well.together inner;
            })
        | inr outer ↦
            let is : next_stage sc.sizes m p ≡ suc (suc (suc p)) = next-outer sc.sizes m p outer ∙ omega arith in
            subst (λ q. InTime sc m (moment sc hands q)) (sym is) (record {
              keeps = keeps-running hands lawful p running;
              room = stage-room hands lawful p well stage;
              heard = heard-running hands lawful p running (omega arith);
              order = order-outer hands lawful p well.together (omega arith) (begins-after hands lawful p running (omega arith));
            })
      ]
    ]
