use Rattle.std.proofs.Common.{◌≡◌, ℕ, suc, ◌+◌, ◌<◌, List, subst, arith}
use Rattle.rb_rules.specs.{Goodness.Scenario, Lawful.IsLawful, Ports.HandIn, Rounds.moment}
use Rattle.rb_laws_events.specs.Closing.{stages_in, HaveBegunAFrame, HaveBegunTogether, CloseInOrder}
use Rattle.rb_laws_events.proofs.CloseOrder.{next-in-order, turn-in-order}
use Rattle.rb_laws_events.proofs.close_order.Goals as goal

pub returns : goal.returns
returns c = λ sc hands lawful n together. (next sc hands lawful n together, over sc hands lawful n together)
  where
    next : (sc : Scenario) (hands : List HandIn) → IsLawful sc → (n : ℕ) → HaveBegunTogether sc (moment sc hands n)
        → (moment sc hands n).window + 1 < stages_in sc.sizes → CloseInOrder sc (moment sc hands n) (moment sc hands (n + 1))
    next sc hands lawful n together below =
        let e : suc n ≡ n + 1 = omega arith in
        subst (λ k. CloseInOrder sc (moment sc hands n) (moment sc hands k)) e (next-in-order hands lawful n together below)

    over : (sc : Scenario) (hands : List HandIn) → IsLawful sc → (n : ℕ) → HaveBegunTogether sc (moment sc hands n)
        → (moment sc hands n).window + 1 ≡ stages_in sc.sizes → HaveBegunAFrame sc (moment sc hands n) (moment sc hands (n + 3))
        → CloseInOrder sc (moment sc hands n) (moment sc hands (n + 3))
    over sc hands lawful n together last =
        let e : suc (suc (suc n)) ≡ n + 3 = omega arith in
        subst (λ k. HaveBegunAFrame sc (moment sc hands n) (moment sc hands k) → CloseInOrder sc (moment sc hands n) (moment sc hands k)) e
        (turn-in-order hands lawful n together last)
