use Rattle.std.proofs.Common.{ℕ, nat_lt, ◌∙◌, ap, subst}
use Rattle.rb_base.specs.{Nodes.set_of, Sizes.{IsShape, Sizes}}
use Rattle.rb_rules.specs.Book.{each_of}
use Rattle.rb_queue.specs.Waiting.{empty_lane}
use Rattle.rb_world.proofs.FirstStands.{before-surrounds}
use Rattle.rb_world.specs.Buses.{scenario_of}
use Rattle.rb_world.proofs.opening.open_scene.Goals as goal

pub returns : goal.returns
returns c =
    before-surrounds (scenario_of c.args.bus.now) _ c.room.result (subst IsShape c.shape-2.ensures c.biu.ensures.shape)
    (c.in_ok-agenda.ensures ∙ ap (λ (s : Sizes). each_of s (λ side i. empty_lane c.room.result)) c.shape.ensures) c.room.ensures.biu c.room.ensures.rmu c.book.ensures c.in_ok-ports.ensures
    (c.first.ensures ∙ ap (λ (n : ℕ). set_of (λ i. nat_lt i n)) (c.biu.ensures.value ∙ ap (λ (s : Sizes). s.bius) c.shape-2.ensures))
    (c.first-2.ensures ∙ ap (λ (n : ℕ). set_of (λ i. nat_lt i n)) (c.rmu.ensures.value ∙ ap (λ (s : Sizes). s.rmus) c.shape-3.ensures))
