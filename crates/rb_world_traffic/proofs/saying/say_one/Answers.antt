use Rattle.std.proofs.Common.{◌+◌, ◌-◌, false, true, ap, sym, ◌∙◌}
use Rattle.rb_queue.specs.Waiting.{Held, lane_of, with_arrival, with_lane}
use Rattle.rb_rules.specs.{Book.Each, Clock.time_of, Hearing.Coming}
use Rattle.rb_world_traffic.specs.{Arriving.number_of, Saying.{KeptSayings, brought, with_arrivals}, Spans.span_of}
use Rattle.rb_world_traffic.proofs.Arrivals.{one-brought, one-place, with-nothing}
use Rattle.rb_world_traffic.proofs.saying.say_one.Goals as goal

pub returns-else-is_said_in-clause-lanes : goal.returns-else-is_said_in-clause-lanes
returns-else-is_said_in-clause-lanes c =
    let lanes = c.args.agenda.now in
    let to = c.args.to in
    λ sc is.
    let not_said = sym (c.is_said_in.ensures sc (ap (λ (k : KeptSayings). k.faults) is)) ∙ c.if-is_said_in.false in
    sym (ap (λ cs. with_lane to (with_arrivals cs (lane_of lanes to)) lanes) (one-brought sc c.args.clock.now (span_of c.args.span.now) c.args.say.now false not_said)
    ∙ with-nothing lanes to c.requires.lane)

pub returns-then-is_said_in-clause-lanes : goal.returns-then-is_said_in-clause-lanes
returns-then-is_said_in-clause-lanes c =
    let lanes = c.args.agenda.now in
    let to = c.args.to in
    let clock = c.args.clock.now in
    let span = span_of c.args.span.now in
    let say = c.args.say.now in
    let with_this : Coming → Each Held = λ p. with_lane to (with_arrival p (lane_of lanes to)) lanes in
    λ sc is.
    let said = sym (c.is_said_in.ensures sc (ap (λ (k : KeptSayings). k.faults) is)) ∙ c.if-is_said_in.true in
    c.push_arrival.ensures.after
    ∙ ap (λ t. with_this (record { time = t; from = c.number_of-from.result; bytes = c.bytes_said-bytes.result.items })) c.time_said-time.ensures
    ∙ ap (λ j. with_this (record { time = time_of clock (span.first + say.offset) - say.early; from = j; bytes = c.bytes_said-bytes.result.items })) c.number_of-from.ensures
    ∙ ap (λ bs. with_this (record { time = time_of clock (span.first + say.offset) - say.early; from = number_of say.from; bytes = bs })) c.bytes_said-bytes.ensures
    ∙ ap (λ (k : KeptSayings). with_this (brought k.version clock span say)) is
    ∙ ap (λ cs. with_lane to (with_arrivals cs (lane_of lanes to)) lanes) (sym (one-brought sc clock span say true said))

pub returns-then-is_said_in-clause-lane : goal.returns-then-is_said_in-clause-lane
returns-then-is_said_in-clause-lane c = (one-place c.args.agenda.now c.push_arrival.new.self c.args.to _ c.requires.lane c.push_arrival.ensures.after).0

pub returns-then-is_said_in-clause-spare : goal.returns-then-is_said_in-clause-spare
returns-then-is_said_in-clause-spare c = (one-place c.args.agenda.now c.push_arrival.new.self c.args.to _ c.requires.lane c.push_arrival.ensures.after).1
