-- Events in a row, in parts.
use Rattle.std.proofs.Common.{◌≡◌, ℕ, zero, suc, replicate, List, [], ◌∷◌, ◌++◌, refl, ap}
use Rattle.rb_base.specs.{Nodes.Side, Sizes.Sizes}
use Rattle.rb_rules.specs.{declared.plan.Plan.Plan, Core.{Core, CoreEvent, arrive, tick, ticks, acts_of}, Core.CoreEvent.{Tick, Arrive}}
use Rattle.rb_node.specs.Events.{core_after}

pub cores-append : (sizes : Sizes) (plan : Plan) (me : Side) (index : ℕ) (c : Core) (before after : List CoreEvent)
    → core_after sizes plan me index c (before ++ after) ≡ core_after sizes plan me index (core_after sizes plan me index c before) after
cores-append sizes plan me index c [] after = refl
cores-append sizes plan me index c (Tick word ∷ before) after = cores-append sizes plan me index (tick sizes plan me index c word).core before after
cores-append sizes plan me index c (Arrive from bytes ∷ before) after = cores-append sizes plan me index (arrive sizes me c from bytes) before after

pub acts-append : (sizes : Sizes) (plan : Plan) (me : Side) (index : ℕ) (c : Core) (before after : List CoreEvent)
    → acts_of sizes plan me index c (before ++ after)
    ≡ acts_of sizes plan me index c before ++ acts_of sizes plan me index (core_after sizes plan me index c before) after
acts-append sizes plan me index c [] after = refl
acts-append sizes plan me index c (Tick word ∷ before) after =
    ap (λ xs. tick sizes plan me index c word ∷ xs) (acts-append sizes plan me index (tick sizes plan me index c word).core before after)
acts-append sizes plan me index c (Arrive from bytes ∷ before) after = acts-append sizes plan me index (arrive sizes me c from bytes) before after

pub ticks-pass : (sizes : Sizes) (plan : Plan) (me : Side) (index : ℕ) (c : Core) (count : ℕ)
    → ticks sizes plan me index count c ≡ core_after sizes plan me index c (replicate count (Tick 0))
ticks-pass sizes plan me index c zero = refl
ticks-pass sizes plan me index c (suc count) = ticks-pass sizes plan me index (tick sizes plan me index c 0).core count
