use Rattle.std.proofs.Common.{ap, subst, sym}
use Rattle.rb_base.specs.Nodes.Side.{Biu, Rmu}
use Rattle.rb_laws_logs.specs.{Given.index_of, Replays.replay_text}
use Rattle.rb_plan.specs.Timetable.{Timetable}
use Rattle.rb_rules.specs.Lawful.{kind_of}
use Rattle.rb_replay.specs.Replaying.{IsDue}
use Rattle.rb_replay.proofs.ActsDue.{all-due}
use Rattle.rb_replay.proofs.replaying.replay.Goals as goal

pub replay_at-requires : goal.replay_at-requires
replay_at-requires g c =
    subst (λ (t : Timetable). IsDue Biu c.new.result c.args.log.node 0 c.args.log.events (replay_text t.sizes t.plan c.args.log.node c.args.log.events)) c.plan.ensures
    (all-due c.plan.result.now.sizes c.plan.result.now.plan Biu c.in-Biu.number c.new.result c.args.log.node c.args.log.events
    (ap kind_of (sym c.in-Biu.ensures.value)) (ap index_of (sym c.in-Biu.ensures.value)) c.new.ensures.seat c.new.ensures.core)

pub replay_at-requires-in-Rmu : goal.replay_at-requires-in-Rmu
replay_at-requires-in-Rmu g c =
    subst (λ (t : Timetable). IsDue Rmu c.new-in-Rmu.result c.args.log.node 0 c.args.log.events (replay_text t.sizes t.plan c.args.log.node c.args.log.events)) c.plan-in-Rmu.ensures
    (all-due c.plan-in-Rmu.result.now.sizes c.plan-in-Rmu.result.now.plan Rmu c.in-Rmu.number c.new-in-Rmu.result c.args.log.node c.args.log.events
    (ap kind_of (sym c.in-Rmu.ensures.value)) (ap index_of (sym c.in-Rmu.ensures.value)) c.new-in-Rmu.ensures.seat c.new-in-Rmu.ensures.core)
