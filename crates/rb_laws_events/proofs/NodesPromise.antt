-- What is promised of running nodes holds in each lawful scenario.
use Rattle.std.proofs.Common.{List}
use Rattle.rb_rules.specs.{Lawful.IsLawful, Ports.HandIn, WorldStep.world_after}
use Rattle.rb_laws_agreement.proofs.{Convicting.unheard, PortHistories.{ports_alike, ports_follow}, WidelyAccused.accused_by_all}
use Rattle.rb_laws_synchrony.proofs.SyncLaws.{all_timely}
use Rattle.rb_laws_events.specs.Promise.{RoundsKeepThePromise, RunningNodesKeepThePromiseInLawful}
use Rattle.rb_laws_events.proofs.{CoresHold.cores-hold, CoresPast.cores-follow, NodesAlike.{nodes-agree, nodes-convict}, NodesAreTheBus.nodes-are-the-bus, PortsAlike.{ports-agree, ports-follow-the-bus}}

rounds-keep : {sc : _} → IsLawful sc → (hands : List HandIn) → RoundsKeepThePromise sc hands
rounds-keep {sc} lawful hands = record {
  timely = all_timely sc hands lawful;
  accused = accused_by_all sc hands lawful;
  unheard = unheard sc hands lawful;
  follow = ports_follow sc hands lawful;
  ports = ports_alike sc hands lawful;
}

pub keep-the-promise : RunningNodesKeepThePromiseInLawful
keep-the-promise sc lawful = record {
  nodes = λ choices. record {
    cores = cores-hold sc lawful choices;
    follow = cores-follow sc lawful choices;
    agree = nodes-agree sc lawful choices;
    machine = nodes-are-the-bus lawful choices;
    ports = ports-agree sc lawful choices;
    bus = ports-follow-the-bus lawful choices;
    accused = nodes-convict lawful choices;
    rounds = rounds-keep lawful (world_after sc choices).hands;
  };
  rounds = rounds-keep lawful;
}
