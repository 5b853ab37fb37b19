use Rattle.std.proofs.Common.{◌≡◌, ◌∙◌, [], ap, drop, filter, nat_le, subst, sym}
use Rattle.rb_queue.specs.Waiting.{Held}
use Rattle.rb_rules.specs.Hearing.{Coming}
use Rattle.rb_queue.proofs.Later.{lane_left, none_left}
use Rattle.rb_queue.proofs.lane.Lane.drop_before.Goals as goal

pub invariant_of-self : goal.invariant_of-self
invariant_of-self c =
    lane_left (λ (r : Coming). nat_le c.args.until r.time) c.self.inside.kept.items c.keep_later.new.kept.items c.self.inside.start c.self.inside.room _ _ c.self.inside.latest
    c.self.invariant c.keep_later.ensures.left c.keep_later.ensures.capacity

pub returns-then-self-until : goal.returns-then-self-until
returns-then-self-until c =
    let none : filter (λ (r : Coming). nat_le c.args.until r.time) c.args.self.now.arrivals ≡ [] =
    subst (λ (h : Held). filter (λ (r : Coming). nat_le c.args.until r.time) h.arrivals ≡ []) c.self.view_is
    (none_left c.args.until c.self.inside.latest (drop c.self.inside.start c.self.inside.kept.items) c.self.invariant.by c.if-self-until.true) in
    c.drop_waiting.ensures ∙ ap (λ l. record c.args.self.now { arrivals = l }) (sym none)
