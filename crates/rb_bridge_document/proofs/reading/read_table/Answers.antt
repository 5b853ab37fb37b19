use Rattle.std.proofs.Common.{◌≡◌, ◌⊎◌, true, sym, ◌∙◌, subst, inr, refl}
use Rattle.toml.specs.{View.table_view, Data.Members}
use Rattle.rb_scenario.specs.Acceptance.{as_scenario}
use Rattle.rb_rules_bridge.specs.Bridges.{IsBridge}
use Rattle.rb_bridge_document.specs.{declared.refusal.BridgeRefusal.TheVariants.OutOfMemory, Acceptance.{AreListed, IsFirstBroken}, Documents.has_bridge_form}
use Rattle.rb_bridge_document.proofs.{Fitting.{are-listed, few-pairs, says-bridge}, Refused.right-broken}
use Rattle.rb_bridge_document.proofs.reading.read_table.Goals as goal

pub returns-in-Some-clause-bridge : goal.returns-in-Some-clause-bridge
returns-in-Some-clause-bridge c =
    let t : Members = table_view c.args.table.now in
    let form : has_bridge_form t ≡ true = sym c.has_bridge_form.ensures ∙ c.if-not-has_bridge_form.false in
    let few = few-pairs t form in
    subst IsBridge (sym c.in-Some.ensures.fits.1)
    (says-bridge (as_scenario c.in-Ok.left) (as_scenario c.in-Ok-bus_at.right) t c.in-Ok.ensures.lawful c.in-Ok-bus_at.ensures.lawful few.0 few.1 c.in-Some.ensures.fits.0)

pub returns-in-Some-clause-listed : goal.returns-in-Some-clause-listed
returns-in-Some-clause-listed c =
    subst AreListed (sym c.in-Some.ensures.fits.1)
    (are-listed (as_scenario c.in-Ok.left) (as_scenario c.in-Ok-bus_at.right) (table_view c.args.table.now) c.in-Ok.ensures.listed c.in-Ok-bus_at.ensures.listed)

pub returns-in-None-clause-refused : goal.returns-in-None-clause-refused
returns-in-None-clause-refused c =
    inr (
      c.in-Ok.left,
      (
        c.in-Ok-bus_at.right,
        (
          record {
            form = sym c.has_bridge_form.ensures ∙ c.if-not-has_bridge_form.false;
            left_text = c.in-Ok.ensures.accepted;
            right_text = c.in-Ok-bus_at.ensures.accepted;
          },
          c.in-None.ensures.none refl,
        ),
      ),
    )

pub returns-in-Err-bus_at-clause-refused : goal.returns-in-Err-bus_at-clause-refused
returns-in-Err-bus_at-clause-refused c =
    let t : Members = table_view c.args.table.now in
    subst (λ e. (e ≡ OutOfMemory) ⊎ IsFirstBroken t e) (sym c.right_refused.ensures)
    (right-broken t c.in-Ok.left c.in-Err-bus_at.why (sym c.has_bridge_form.ensures ∙ c.if-not-has_bridge_form.false) c.in-Ok.ensures.accepted c.in-Err-bus_at.ensures.refused)
