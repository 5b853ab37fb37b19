use Rattle.std.proofs.Common.{List, slice_set, sym, ◌∙◌, subst}
use Rattle.rb_laws_agreement.proofs.Tests.{get-some}
use Rattle.rb_port.specs.Keeping.{HoldsPort, KeptPort}
use Rattle.rb_rules.specs.Ports.{with_state}
use Rattle.rb_world.specs.Worlds.{HoldsPorts}
use Rattle.rb_world.proofs.Handed.{ports-handed}
use Rattle.rb_world.proofs.handing.set_state.Goals as goal

pub returns : goal.returns
returns c = λ sc states is.
    let kept : List KeptPort = c.args.ports.now.items in
    subst (λ i. HoldsPorts sc (slice_set kept c.from.result c.set.new.self) (with_state i c.args.state states)) c.from.ensures
    (ports-handed sc c.from.result c.args.state kept states c.set.new.self is (λ k port there held.
    c.set.ensures port (subst (λ x. HoldsPort x port) (sym (c.index_mut.ensures.value ∙ get-some kept c.from.result c.index_mut.result.now there)) held)))
