use Rattle.rb_laws_promise.proofs.Shares.{shares-kept}
use Rattle.rb_laws_promise.proofs.good_bius_get_their_share.Goals as goal

pub returns : goal.returns
returns c = shares-kept
