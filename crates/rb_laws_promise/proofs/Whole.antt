-- The whole promise, from its parts.
use Rattle.rb_laws_events.proofs.{NodesAreTheBus.stands-for, NodesPromise.keep-the-promise}
use Rattle.rb_laws_groups.proofs.Rightness.{records-right}
use Rattle.rb_laws_promise.specs.Promise.{RunsKeepThePromise}
use Rattle.rb_laws_promise.proofs.{Promise.promise, Shares.shares-kept}

pub kept : RunsKeepThePromise
kept sc hands law = record {
  headline = promise sc hands law;
  machine = stands-for sc hands law;
  shares = shares-kept sc hands law;
  records = records-right sc hands law;
  nodes = keep-the-promise sc law;
}
