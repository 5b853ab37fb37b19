use Rattle.rb_listen.proofs.Searches.{first-stays, stays-ahead, stays-search}
use Rattle.rb_listen.proofs.listener.Listener.new.Goals as goal

pub invariant_of-result : goal.invariant_of-result
invariant_of-result c = record {
  search = stays-search 0 c.first_search.result (first-stays c.first_search.result c.first_search.ensures);
  inside = stays-ahead 0 c.first_search.result (first-stays c.first_search.result c.first_search.ensures);
}
