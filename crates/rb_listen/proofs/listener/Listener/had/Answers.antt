use Rattle.rb_listen.proofs.Stages.{some-following, some-searching, some-waiting}
use Rattle.rb_listen.proofs.listener.Listener.had.Goals as goal

pub returns-in-Searching-clause-stands : goal.returns-in-Searching-clause-stands
returns-in-Searching-clause-stands c = rw (← c.self.view_is) (some-searching c.self.inside.stage c.self.inside.search c.self.inside.follower c.in-Searching.is)

pub returns-in-Waiting-clause-stands : goal.returns-in-Waiting-clause-stands
returns-in-Waiting-clause-stands c = rw (← c.self.view_is) (some-waiting c.self.inside.stage c.self.inside.search c.self.inside.follower _ c.in-Waiting.is)

pub returns-in-Following-clause-stands : goal.returns-in-Following-clause-stands
returns-in-Following-clause-stands c =
    rw (← c.self.view_is) (some-following c.self.inside.stage c.self.inside.search c.self.inside.follower c.in-Following.is c.had-followed.ensures.stands)
