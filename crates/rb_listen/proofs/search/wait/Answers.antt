use Rattle.rb_listen.proofs.Searches.{not-after}
use Rattle.rb_listen.proofs.search.wait.Goals as goal

pub returns-else-search-first : goal.returns-else-search-first
returns-else-search-first c = not-after c.args.search.now c.learn_next.new.search c.args.first c.if-search-first.false c.learn_next.ensures
