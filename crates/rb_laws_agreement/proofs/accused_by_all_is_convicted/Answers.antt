use Rattle.rb_laws_agreement.proofs.WidelyAccused.{accused_by_all}
use Rattle.rb_laws_agreement.proofs.accused_by_all_is_convicted.Goals as goal

pub returns : goal.returns
returns c = accused_by_all
