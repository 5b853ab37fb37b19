-- A bridge that was read, as its sides are opened.
use Rattle.std.proofs.Common.{◌≡◌, ◌==◌, ℕ, List, sym, ◌∙◌, ap, subst}
use Rattle.std.specs.List.{list_any}
use Rattle.rb_base.specs.Nodes.{set_of}
use Rattle.rb_bridge_document.specs.{declared.bridge.Bridge.Bridge as Kept, Acceptance.as_bridge}
use Rattle.rb_rules_bridge.specs.{declared.bank.Bank.TheVariants.{Left, Right}, declared.bank.Pair.Pair, Bridges.biu_on}
use Rattle.rb_run.specs.declared.ending.Ending.{Ending}
use Rattle.rb_scenario.specs.Acceptance.{as_scenario}
use Rattle.rb_bridge.specs.{declared.side.Side.Side, Crossing.HaveOpened, Sides.HasOpened}
use Rattle.rb_program.specs.{declared.status.Status.Status, declared.status.Status.TheVariants.{OutOfMemory, WriteFault}, Statuses.{HasEnded, IsOfRun, status_of}}
use Rattle.rb_program.proofs.Statuses.{run_ends}

-- both sides are open, each with the BIUs of its pairs
pub both-opened : (kept : Kept) (ps qs : List Pair) (m n : ℕ) (l r : Side) → ps ≡ kept.pairs.items → qs ≡ kept.pairs.items
    → m ≡ set_of (λ i. list_any (λ pair. biu_on Left pair == i) ps) → n ≡ set_of (λ i. list_any (λ pair. biu_on Right pair == i) qs)
    → HasOpened (as_scenario kept.left) m kept.left_slot l → HasOpened (as_scenario kept.right) n kept.right_slot r → HaveOpened (as_bridge kept) l r
both-opened kept ps qs m n l r of_left of_right m_is n_is is_l is_r = record {
  left = subst (λ k. HasOpened (as_scenario kept.left) k kept.left_slot l) (m_is ∙ ap (λ ps. set_of (λ i. list_any (λ pair. biu_on Left pair == i) ps)) of_left) is_l;
  right = subst (λ k. HasOpened (as_scenario kept.right) k kept.right_slot r) (n_is ∙ ap (λ ps. set_of (λ i. list_any (λ pair. biu_on Right pair == i) ps)) of_right) is_r;
}

-- The answer to an end.

pub end-runs : (e : Ending) (status : Status) → status ≡ status_of e → IsOfRun status
end-runs e status is = subst IsOfRun (sym is) (run_ends e).0

pub end-written : (e : Ending) (status : Status) → status ≡ status_of e → ¬ (status ≡ WriteFault)
end-written e status is failed = subst HasEnded (sym is ∙ failed) (run_ends e).1

pub end-opened : (e : Ending) (status : Status) → status ≡ status_of e → ¬ (status ≡ OutOfMemory)
end-opened e status is failed = subst HasEnded (sym is ∙ failed) (run_ends e).1
