use Rattle.std.proofs.{Common.rules, lemmas.Result.on_ok_weaker}
use Rattle.rb_outside.proofs.Known.{appends_join}
use Rattle.rb_run.proofs.Texts.{part-last}
use Rattle.rb_run.proofs.report.write_block.Goals as goal

pub returns : goal.returns
returns g c = record {
  all =
      on_ok_weaker c.write_ports.result (λ now. appends_join _ _ _ _ _ (appends_join _ _ _ _ _ (rw c.as_slice.ensures.value at c.in_ok-write_epochs.ensures.all) (rw c.as_slice-2.ensures.value at c.in_ok-write_convicted.ensures.all)) now)
      (rw c.as_slice-3.ensures.value at c.write_ports.ensures.all);
  part =
      part-last _ _ _ _ _ _ (appends_join _ _ _ _ _ (rw c.as_slice.ensures.value at c.in_ok-write_epochs.ensures.all) (rw c.as_slice-2.ensures.value at c.in_ok-write_convicted.ensures.all))
      (rw c.as_slice-3.ensures.value at c.write_ports.ensures.part);
  cause = search rules;
}
