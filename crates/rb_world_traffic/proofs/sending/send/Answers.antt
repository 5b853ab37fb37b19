use Rattle.std.proofs.Common.{◌≡◌, sym, ap, subst, ◌∙◌}
use Rattle.rb_base.specs.Nodes.{has, other}
use Rattle.rb_rules.specs.{Clock.time_of, Lawful.kind_of}
use Rattle.rb_world_agenda.specs.Holding.{HoldsSites}
use Rattle.rb_world_traffic.specs.{Arriving.{coming_to, lanes_with}, Departing.{place_of, with_departure, with_sent}}
use Rattle.rb_world_traffic.proofs.Sent.{sent-holds}
use Rattle.rb_world_traffic.proofs.sending.send.Goals as goal

pub returns : goal.returns
returns c =
    let d = c.args.departure.now in
    let side = other (kind_of d.from) in
    let delays = c.args.delays.now in
    let after : c.spread.new.agenda ≡ with_departure c.args.clock.now delays c.args.version d c.args.running c.args.agenda.now =
    c.spread.ensures
    ∙ ap (λ t. lanes_with side (coming_to delays (record { from = d.from; time = t; place = place_of d }) c.of_message-bytes.result) (has c.args.running) c.args.agenda.now) c.at-time.ensures.time
    ∙ ap (λ bs. lanes_with side (coming_to delays (record { from = d.from; time = time_of c.args.clock.now d.tick; place = place_of d }) bs) (has c.args.running) c.args.agenda.now)
    c.of_message-bytes.ensures.value in
    record {
      lanes = after;
      world = λ sc sites is runs holds.
          subst (λ x. HoldsSites sc.sizes x (with_sent sc d sites)) (sym after)
          (sent-holds sc c.args.clock.now delays c.args.version d c.args.running c.args.agenda.now sites is runs holds);
    }
