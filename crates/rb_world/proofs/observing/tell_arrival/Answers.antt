use Rattle.std.proofs.Common.{◌≡◌, sym, ap, ◌∙◌, []}
use Rattle.rb_base.specs.Nodes.{side_of}
use Rattle.rb_rules.specs.{Hearing.Coming, WorldStep.event_of, WorldStep.Pending.Arrival}
use Rattle.rb_world.specs.{Sites.number_of, Buses.scenario_of}
use Rattle.rb_world.proofs.{Observed.{arrival-shown, arrival-there, told-as}, OneTaken.coming-is}
use Rattle.rb_world.proofs.observing.tell_arrival.Goals as goal

pub show_arrival-event-requires : goal.show_arrival-event-requires
show_arrival-event-requires g c =
    let sc = scenario_of c.args.bus.now in
    let me = side_of g.K.Kind.CODE in
    let site = c.args.site.now in
    let x = c.requires.may.0 in
    let same : x ≡ c.arrival-arrival.result.now = arrival-there sc me (number_of site) c.args.place c.args.node site c.args.agenda.now x c.arrival-arrival.result.now c.requires.may.1 c.arrival-arrival.ensures.value in
    record {
      may = (
        c.requires.stands.0,
        arrival-shown sc me c.args.place c.time-time.result c.args.node site c.args.agenda.now x c.requires.stands.0 c.requires.name c.requires.may.1 c.requires.stands.1
            (c.time-time.ensures ∙ ap (λ (y : Coming). y.time) (sym same)),
      );
    }

pub returns : goal.returns
returns g c = λ x at s can stands.
    let sc = scenario_of c.args.bus.now in
    let me = side_of g.K.Kind.CODE in
    let site = c.args.site.now in
    let p : Coming = c.arrival-arrival.result.now in
    let same : x ≡ p = arrival-there sc me (number_of site) c.args.place c.args.node site c.args.agenda.now x p can c.arrival-arrival.ensures.value in
    told-as _ g.T.Observer.observes c.args.observer.now c.observe.new.self sc [] me (number_of site) c.frame_of.result s (Arrival at x) c.show_arrival-event.result
    c.observe.ensures (c.frame_of.ensures sc s stands)
    (c.show_arrival-event.ensures [] at s
    (arrival-shown sc me c.args.place c.time-time.result c.args.node site c.args.agenda.now x s c.requires.name can stands (c.time-time.ensures ∙ ap (λ (y : Coming). y.time) (sym same)))
    ∙ ap (λ y. event_of sc [] me (number_of site) s.core (Arrival at y)) (coming-is p c.time-time.result c.from-from.result c.held-bytes.result.items c.time-time.ensures c.from-from.ensures c.held-bytes.ensures ∙ sym same))
