use Rattle.std.proofs.Common.{◌≡◌, ◌+◌, Some, false, [], ◌∷◌, ◌++◌, get_or, slice_get, refl, sym, ap, subst, ◌∙◌, arith, if◌then◌else◌}
use Rattle.std.specs.Prelude.{slice_set}
use Rattle.rb_base.specs.Nodes.{other, side_of}
use Rattle.rb_rules.specs.{Book.of_kind, Links.{name_of, same_node}, WorldStep.Pending.Tick}
use Rattle.rb_world_agenda.specs.Holding.{without_waiting}
use Rattle.rb_world.specs.{Sites.number_of, Observing.{WasTold, alone_for}, Showing.MayShowTick, Steps.{MayTick, Ticks, act_at, moved}, Trailing.{MaySweep, Sweeps, TakesFirst, alone, bare}, Unstamped.MayTakeExactly, Buses.scenario_of}
use Rattle.rb_laws_sweeps.specs.Told.{heard, telling}
use Rattle.rb_world.proofs.{Behind.{indexed, may-take, may-then, own-small, own-within, takes-first}, Observed.was-both, ToldOn.{alone-told, tick-shown}}
use Rattle.rb_world.proofs.trailing.take_tick.Goals as goal

pub overflow_add-time : goal.overflow_add-time
overflow_add-time g c = let small = own-small c.requires.may.5 in omega (arith, small)

pub take_exact_tick-requires-clause-small : goal.take_exact_tick-requires-clause-small
take_exact_tick-requires-clause-small g c = own-small c.requires.may.5

pub take_exact_tick-requires-clause-may : goal.take_exact_tick-requires-clause-may
take_exact_tick-requires-clause-may g c =
    let m = c.requires.may in
    let sites = c.args.sites.now.items in
    let site = c.index_mut-site.result.now in
    let there : slice_get sites c.args.i ≡ Some site = indexed sites c.args.i site (own-within m.5) (c.index_mut-site.ensures.value ∙ ap (λ n. get_or sites n site) c.from.ensures) in
    (m.0, m.1, m.2, m.3, m.4, sites, record { first = m.5; there = there; ends = c.if-needs_no_stamps.ensures.ends refl })

pub sweep_for-requires : goal.sweep_for-requires
sweep_for-requires g c =
    let sc = scenario_of c.args.setup.now.bus.now in
    let me = side_of g.K.Kind.CODE in
    let sites = c.args.sites.now.items in
    let site = c.index_mut-site.result.now in
    let there : slice_get sites c.args.i ≡ Some site = indexed sites c.args.i site (own-within c.requires.may.5) (c.index_mut-site.ensures.value ∙ ap (λ n. get_or sites n site) c.from.ensures) in
    let both = may-take sc c.requires.may.0 c.args.scene.now c.requires.may.1 c.requires.may.2 c.requires.may.3 me c.args.i c.requires.may.4 c.args.time sites site c.requires.may.5 there in
    record {
      may = (
        c.name_of-node.ensures ∙ ap (name_of me) (sym both.0),
        c.requires.may.3.sites,
        c.requires.may.5.at.first.node,
        subst (λ n. MaySweep sc me n (c.args.time + 1) site c.args.scene.now.agenda c.requires.may.3.sites c.requires.may.5.at.first.node) (sym both.0) both.1,
      );
    }

pub tick_at-requires-clause-number : goal.tick_at-requires-clause-number
tick_at-requires-clause-number g c =
    let sc = scenario_of c.args.setup.now.bus.now in
    let me = side_of g.K.Kind.CODE in
    let sites = c.args.sites.now.items in
    let site = c.index_mut-site.result.now in
    let there : slice_get sites c.args.i ≡ Some site = indexed sites c.args.i site (own-within c.requires.may.5) (c.index_mut-site.ensures.value ∙ ap (λ n. get_or sites n site) c.from.ensures) in
    let both = may-take sc c.requires.may.0 c.args.scene.now c.requires.may.1 c.requires.may.2 c.requires.may.3 me c.args.i c.requires.may.4 c.args.time sites site c.requires.may.5 there in
    let s = c.requires.may.5.at.first.node in
    let sites_are = c.requires.may.3.sites in
    sym ((c.sweep_for.ensures.swept sites_are s (subst (λ n. MaySweep sc me n (c.args.time + 1) site c.args.scene.now.agenda sites_are s) (sym both.0) both.1)).node.number ∙ both.0)

pub tick_at-requires-clause-may : goal.tick_at-requires-clause-may
tick_at-requires-clause-may g c =
    let sc = scenario_of c.args.setup.now.bus.now in
    let me = side_of g.K.Kind.CODE in
    let sites = c.args.sites.now.items in
    let site = c.index_mut-site.result.now in
    let there : slice_get sites c.args.i ≡ Some site = indexed sites c.args.i site (own-within c.requires.may.5) (c.index_mut-site.ensures.value ∙ ap (λ n. get_or sites n site) c.from.ensures) in
    let both = may-take sc c.requires.may.0 c.args.scene.now c.requires.may.1 c.requires.may.2 c.requires.may.3 me c.args.i c.requires.may.4 c.args.time sites site c.requires.may.5 there in
    let sweeps : Sweeps sc me c.args.i (c.args.time + 1) c.sweep_for.new.site c.sweep_for.new.agenda c.requires.may.3.sites c.requires.may.5.at.first.node =
    subst (λ n. Sweeps sc me n (c.args.time + 1) c.sweep_for.new.site c.sweep_for.new.agenda c.requires.may.3.sites c.requires.may.5.at.first.node) both.0
    (c.sweep_for.ensures.swept c.requires.may.3.sites c.requires.may.5.at.first.node (subst (λ n. MaySweep sc me n (c.args.time + 1) site c.args.scene.now.agenda c.requires.may.3.sites c.requires.may.5.at.first.node) (sym both.0) both.1)) in
    let x = moved me c.args.i (without_waiting (Tick c.requires.may.4.tick)) (alone sc me c.args.i c.requires.may.4 c.requires.may.3) in
    let s = bare sc me c.args.i c.requires.may.4 c.requires.may.5.at.first.node in (
      c.requires.may.4.tick,
      x,
      s,
      subst (λ n. MayTick sc me n c.requires.may.4.tick c.sweep_for.new.site (record c.args.scene.now { agenda = c.sweep_for.new.agenda }) x s) (sym sweeps.node.number)
          (may-then sc c.requires.may.0 c.args.scene.now c.requires.may.1 c.requires.may.2 c.requires.may.3 me c.args.i c.requires.may.4 c.args.time sites c.sweep_for.new.site c.sweep_for.new.agenda c.requires.may.5 sweeps),
    )

pub returns-clause-takes : goal.returns-clause-takes
returns-clause-takes g c = λ kept until w v a m.
    let sc = scenario_of c.args.setup.now.bus.now in
    let me = side_of g.K.Kind.CODE in
    let sites = c.args.sites.now.items in
    let site = c.index_mut-site.result.now in
    let there : slice_get sites c.args.i ≡ Some site = indexed sites c.args.i site (own-within m) (c.index_mut-site.ensures.value ∙ ap (λ n. get_or sites n site) c.from.ensures) in
    let both = may-take sc kept c.args.scene.now until w v me c.args.i a c.args.time sites site m there in
    let sweeps : Sweeps sc me c.args.i (c.args.time + 1) c.sweep_for.new.site c.sweep_for.new.agenda v.sites m.at.first.node =
    subst (λ n. Sweeps sc me n (c.args.time + 1) c.sweep_for.new.site c.sweep_for.new.agenda v.sites m.at.first.node) both.0
    (c.sweep_for.ensures.swept v.sites m.at.first.node (subst (λ n. MaySweep sc me n (c.args.time + 1) site c.args.scene.now.agenda v.sites m.at.first.node) (sym both.0) both.1)) in
    let x = moved me c.args.i (without_waiting (Tick a.tick)) (alone sc me c.args.i a v) in
    let s = bare sc me c.args.i a m.at.first.node in
    let number : number_of c.sweep_for.new.site ≡ c.args.i = sweeps.node.number in
    let may : MayTick sc me c.args.i a.tick c.sweep_for.new.site (record c.args.scene.now { agenda = c.sweep_for.new.agenda }) x s =
    may-then sc kept c.args.scene.now until w v me c.args.i a c.args.time sites c.sweep_for.new.site c.sweep_for.new.agenda m sweeps in
    let ticks : Ticks sc me c.args.i a.tick c.tick_at.new.site c.tick_at.new.scene x s (act_at sc x me c.args.i a.tick s) =
    subst (λ n. Ticks sc me n a.tick c.tick_at.new.site c.tick_at.new.scene x s (act_at sc x me n a.tick s)) number
    (c.tick_at.ensures a.tick x s (subst (λ n. MayTick sc me n a.tick c.sweep_for.new.site (record c.args.scene.now { agenda = c.sweep_for.new.agenda }) x s) (sym number) may)) in
    let takes = takes-first sc kept c.args.scene.now c.tick_at.new.scene until w v me c.args.i a c.args.time sites c.sweep_for.new.site c.tick_at.new.site c.sweep_for.new.agenda m sweeps ticks in
    subst (λ n. TakesFirst sc v me c.args.i a (slice_set sites n c.tick_at.new.site) (of_kind (other me) kept) c.tick_at.new.scene) (sym c.from.ensures) takes

pub tell_tick_for-requires : goal.tell_tick_for-requires
tell_tick_for-requires g c =
    let sc = scenario_of c.args.setup.now.bus.now in
    let me = side_of g.K.Kind.CODE in
    let sites = c.args.sites.now.items in
    let site = c.index_mut-site.result.now in
    let there : slice_get sites c.args.i ≡ Some site = indexed sites c.args.i site (own-within c.requires.may.5) (c.index_mut-site.ensures.value ∙ ap (λ n. get_or sites n site) c.from.ensures) in
    let v = c.requires.may.3 in
    let a = c.requires.may.4 in
    let m = c.requires.may.5 in
    let both = may-take sc c.requires.may.0 c.args.scene.now c.requires.may.1 c.requires.may.2 v me c.args.i a c.args.time sites site m there in
    let sweeps : Sweeps sc me c.args.i (c.args.time + 1) c.sweep_for.new.site c.sweep_for.new.agenda v.sites m.at.first.node =
    subst (λ n. Sweeps sc me n (c.args.time + 1) c.sweep_for.new.site c.sweep_for.new.agenda v.sites m.at.first.node) both.0
    (c.sweep_for.ensures.swept v.sites m.at.first.node (subst (λ n. MaySweep sc me n (c.args.time + 1) site c.args.scene.now.agenda v.sites m.at.first.node) (sym both.0) both.1)) in
    let x = moved me c.args.i (without_waiting (Tick a.tick)) (alone sc me c.args.i a v) in
    let s = bare sc me c.args.i a m.at.first.node in
    let may : MayTick sc me c.args.i a.tick c.sweep_for.new.site (record c.args.scene.now { agenda = c.sweep_for.new.agenda }) x s =
    may-then sc c.requires.may.0 c.args.scene.now c.requires.may.1 c.requires.may.2 v me c.args.i a c.args.time sites c.sweep_for.new.site c.sweep_for.new.agenda m sweeps in
    record {
      may = (
        a.tick,
        x.ports,
        s,
        subst (λ ps. MayShowTick sc me (number_of c.sweep_for.new.site) a.tick c.sweep_for.new.site ps c.name_of-node.result x.ports s) (sym c.deref.ensures.value)
            (tick-shown sc me c.args.i a.tick c.sweep_for.new.site (record c.args.scene.now { agenda = c.sweep_for.new.agenda }) x s c.name_of-node.result may c.name_of-node.ensures),
      );
    }

pub returns-clause-told : goal.returns-clause-told
returns-clause-told g c = λ name is kept until w v a m.
    let sc = scenario_of c.args.setup.now.bus.now in
    let me = side_of g.K.Kind.CODE in
    let sites = c.args.sites.now.items in
    let site = c.index_mut-site.result.now in
    let there : slice_get sites c.args.i ≡ Some site = indexed sites c.args.i site (own-within m) (c.index_mut-site.ensures.value ∙ ap (λ n. get_or sites n site) c.from.ensures) in
    let both = may-take sc kept c.args.scene.now until w v me c.args.i a c.args.time sites site m there in
    let may_sweep : MaySweep sc me (number_of site) (c.args.time + 1) site c.args.scene.now.agenda v.sites m.at.first.node =
    subst (λ n. MaySweep sc me n (c.args.time + 1) site c.args.scene.now.agenda v.sites m.at.first.node) (sym both.0) both.1 in
    let sweeps : Sweeps sc me c.args.i (c.args.time + 1) c.sweep_for.new.site c.sweep_for.new.agenda v.sites m.at.first.node =
    subst (λ n. Sweeps sc me n (c.args.time + 1) c.sweep_for.new.site c.sweep_for.new.agenda v.sites m.at.first.node) both.0 (c.sweep_for.ensures.swept v.sites m.at.first.node may_sweep) in
    let x = moved me c.args.i (without_waiting (Tick a.tick)) (alone sc me c.args.i a v) in
    let s = bare sc me c.args.i a m.at.first.node in
    let may : MayTick sc me c.args.i a.tick c.sweep_for.new.site (record c.args.scene.now { agenda = c.sweep_for.new.agenda }) x s =
    may-then sc kept c.args.scene.now until w v me c.args.i a c.args.time sites c.sweep_for.new.site c.sweep_for.new.agenda m sweeps in
    let number : number_of c.sweep_for.new.site ≡ c.args.i = sweeps.node.number in
    let heard_it : WasTold _ g.T.Observer.observes c.args.observer.now (if same_node c.name_of-node.result name then heard sc me c.args.i (a.time + 1) m.at.first.node else []) c.sweep_for.new.observer =
    subst (λ t. WasTold _ g.T.Observer.observes c.args.observer.now (if same_node c.name_of-node.result name then heard sc me c.args.i (t + 1) m.at.first.node else []) c.sweep_for.new.observer) m.time_is
    (subst (λ n. WasTold _ g.T.Observer.observes c.args.observer.now (if same_node c.name_of-node.result name then heard sc me n (c.args.time + 1) m.at.first.node else []) c.sweep_for.new.observer) both.0
    (c.sweep_for.ensures.told name is v.sites m.at.first.node may_sweep)) in
    let ticked : WasTold _ g.T.Observer.observes c.sweep_for.new.observer (if same_node c.name_of-node.result name then telling sc v.ports me c.args.i s (Tick a.tick) ∷ [] else []) c.tell_tick_for.new.observer =
    subst (λ n. WasTold _ g.T.Observer.observes c.sweep_for.new.observer (if same_node c.name_of-node.result name then telling sc v.ports me n s (Tick a.tick) ∷ [] else []) c.tell_tick_for.new.observer) number
    (c.tell_tick_for.ensures name is a.tick x.ports s
    (subst (λ ps. MayShowTick sc me (number_of c.sweep_for.new.site) a.tick c.sweep_for.new.site ps c.name_of-node.result x.ports s) (sym c.deref.ensures.value)
    (tick-shown sc me c.args.i a.tick c.sweep_for.new.site (record c.args.scene.now { agenda = c.sweep_for.new.agenda }) x s c.name_of-node.result may c.name_of-node.ensures))) in
    subst (λ l. WasTold _ g.T.Observer.observes c.args.observer.now l c.tell_tick_for.new.observer)
    (alone-told sc v me c.args.i a m.at.first.node c.name_of-node.result name c.name_of-node.ensures m.at.first.there)
    (was-both _ g.T.Observer.observes c.args.observer.now c.sweep_for.new.observer c.tell_tick_for.new.observer _ _ heard_it ticked)

pub returns-then-needs_no_stamps-clause-takes : goal.returns-then-needs_no_stamps-clause-takes
returns-then-needs_no_stamps-clause-takes g c = λ kept until w v a m.
    let sc = scenario_of c.args.setup.now.bus.now in
    let me = side_of g.K.Kind.CODE in
    let sites = c.args.sites.now.items in
    let site = c.index_mut-site.result.now in
    let there : slice_get sites c.args.i ≡ Some site = indexed sites c.args.i site (own-within m) (c.index_mut-site.ensures.value ∙ ap (λ n. get_or sites n site) c.from.ensures) in
    let may : MayTakeExactly sc kept c.args.scene.now until w v me c.args.i a c.args.time sites site = record { first = m; there = there; ends = c.if-needs_no_stamps.ensures.ends refl } in
    subst (λ n. TakesFirst sc v me c.args.i a (slice_set sites n c.take_exact_tick.new.site) (of_kind (other me) kept) c.take_exact_tick.new.scene) (sym c.from.ensures)
    (c.take_exact_tick.ensures.takes kept until w v a sites may)

pub returns-then-needs_no_stamps-clause-told : goal.returns-then-needs_no_stamps-clause-told
returns-then-needs_no_stamps-clause-told g c = λ name is kept until w v a m.
    let sc = scenario_of c.args.setup.now.bus.now in
    let me = side_of g.K.Kind.CODE in
    let s = m.at.first.node in
    let apart : same_node c.name_of-node.result name ≡ false = c.if-needs_no_stamps.ensures.other refl name is in
    let nothing : alone_for sc v me c.args.i a name ≡ [] =
    sym (alone-told sc v me c.args.i a s c.name_of-node.result name c.name_of-node.ensures m.at.first.there)
    ∙ ap (λ b. (if b then heard sc me c.args.i (a.time + 1) s else []) ++ (if b then telling sc v.ports me c.args.i (bare sc me c.args.i a s) (Tick a.tick) ∷ [] else [])) apart in
    subst (λ l. WasTold _ g.T.Observer.observes c.args.observer.now l c.args.observer.now) (sym nothing) refl
