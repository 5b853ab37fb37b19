use Rattle.std.proofs.Common.{Some, refl, sym, subst}
use Rattle.rb_base.specs.Nodes.Side.{Biu}
use Rattle.rb_rules.specs.Slots.{count_of}
use Rattle.rb_world.specs.{Observing.{WasTold, left_for}, Runs.nodes_of, Trailing.{HasLater, Trails, swept_first, until_from}, Buses.scenario_of}
use Rattle.rb_world.proofs.{CaughtUp.{all-caught, may-all, may-others, none-caught}, LeftTold.{left-none, told-all}}
use Rattle.rb_world.proofs.sweeping.catch_up.Goals as goal

pub catch_up_all-requires : goal.catch_up_all-requires
catch_up_all-requires g c =
    let w = c.requires.trails.0 in
    let v = c.requires.trails.1 in
    let until = until_from (Some c.in-Some.tick) in
    let trails : Trails (scenario_of c.args.setup.now.bus.now) (nodes_of c.args.run.now) c.args.run.now.scene until w v =
    subst (λ t. Trails (scenario_of c.args.setup.now.bus.now) (nodes_of c.args.run.now) c.args.run.now.scene (until_from t) w v) c.in-Some.is c.requires.trails.2 in
    (subst HasLater c.in-Some.is c.requires.small, v.sites, may-all (scenario_of c.args.setup.now.bus.now) (nodes_of c.args.run.now) c.args.run.now.scene until w v Biu trails)

pub catch_up_all-requires-in-Some : goal.catch_up_all-requires-in-Some
catch_up_all-requires-in-Some g c =
    let sc = scenario_of c.args.setup.now.bus.now in
    let w = c.requires.trails.0 in
    let v = c.requires.trails.1 in
    let until = until_from (Some c.in-Some.tick) in
    let trails : Trails sc (nodes_of c.args.run.now) c.args.run.now.scene until w v = subst (λ t. Trails sc (nodes_of c.args.run.now) c.args.run.now.scene (until_from t) w v) c.in-Some.is c.requires.trails.2 in
    let one = c.catch_up_all.ensures.caught v.sites (may-all sc (nodes_of c.args.run.now) c.args.run.now.scene until w v Biu trails) in (
      subst HasLater c.in-Some.is c.requires.small,
      swept_first sc until Biu (count_of Biu sc.sizes) v.sites,
      may-others sc (nodes_of c.args.run.now) c.args.run.now.scene until w v (count_of Biu sc.sizes) c.catch_up_all.new.sites.items c.catch_up_all.new.agenda trails one,
    )

pub returns-in-Some-clause-caught : goal.returns-in-Some-clause-caught
returns-in-Some-clause-caught g c = λ w v given.
    let sc = scenario_of c.args.setup.now.bus.now in
    let until = until_from (Some c.in-Some.tick) in
    let trails : Trails sc (nodes_of c.args.run.now) c.args.run.now.scene until w v = subst (λ t. Trails sc (nodes_of c.args.run.now) c.args.run.now.scene (until_from t) w v) c.in-Some.is given in
    let one = c.catch_up_all.ensures.caught v.sites (may-all sc (nodes_of c.args.run.now) c.args.run.now.scene until w v Biu trails) in
    let two = c.catch_up_all-in-Some.ensures.caught (swept_first sc until Biu (count_of Biu sc.sizes) v.sites)
    (may-others sc (nodes_of c.args.run.now) c.args.run.now.scene until w v (count_of Biu sc.sizes) c.catch_up_all.new.sites.items c.catch_up_all.new.agenda trails one) in
    all-caught sc (nodes_of c.args.run.now) c.args.run.now.scene until w v c.catch_up_all.new.sites.items c.catch_up_all-in-Some.new.sites.items c.catch_up_all.new.agenda c.catch_up_all-in-Some.new.agenda trails one two

pub returns-in_default-clause-caught : goal.returns-in_default-clause-caught
returns-in_default-clause-caught g c = λ w v given.
    none-caught (scenario_of c.args.setup.now.bus.now) (nodes_of c.args.run.now) c.args.run.now.scene w v (subst (λ t. Trails (scenario_of c.args.setup.now.bus.now) (nodes_of c.args.run.now) c.args.run.now.scene (until_from t) w v) c.in_default.is given)

pub returns-in-Some-clause-told : goal.returns-in-Some-clause-told
returns-in-Some-clause-told g c = λ name is node w v given.
    let sc = scenario_of c.args.setup.now.bus.now in
    let until = until_from (Some c.in-Some.tick) in
    let trails : Trails sc (nodes_of c.args.run.now) c.args.run.now.scene until w v = subst (λ t. Trails sc (nodes_of c.args.run.now) c.args.run.now.scene (until_from t) w v) c.in-Some.is given in
    let may = may-all sc (nodes_of c.args.run.now) c.args.run.now.scene until w v Biu trails in
    let one = c.catch_up_all.ensures.caught v.sites may in
    let others = may-others sc (nodes_of c.args.run.now) c.args.run.now.scene until w v (count_of Biu sc.sizes) c.catch_up_all.new.sites.items c.catch_up_all.new.agenda trails one in
    subst (λ t. WasTold _ g.T.Observer.observes c.args.observer.now (left_for sc (until_from t) v.sites name) c.catch_up_all-in-Some.new.observer) (sym c.in-Some.is)
    (told-all _ g.T.Observer.observes c.args.observer.now c.catch_up_all.new.observer c.catch_up_all-in-Some.new.observer sc until v.sites name node (c.catch_up_all.ensures.told name is v.sites may)
    (c.catch_up_all-in-Some.ensures.told name is (swept_first sc until Biu (count_of Biu sc.sizes) v.sites) others))

pub returns-in_default-clause-told : goal.returns-in_default-clause-told
returns-in_default-clause-told g c = λ name is node w v given.
    subst (λ t. WasTold _ g.T.Observer.observes c.args.observer.now (left_for (scenario_of c.args.setup.now.bus.now) (until_from t) v.sites name) c.args.observer.now) (sym c.in_default.is)
    (subst (λ l. WasTold _ g.T.Observer.observes c.args.observer.now l c.args.observer.now) (sym (left-none (scenario_of c.args.setup.now.bus.now) v.sites name)) refl)
