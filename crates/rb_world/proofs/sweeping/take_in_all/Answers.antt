use Rattle.std.proofs.{Common.{◌≡◌, ◌<◌, List, get_or, length, take, refl, sym, ap, subst, ◌∙◌, arith}, lemmas.List.take_all}
use Rattle.rb_base.specs.{Nodes.{other, side_of}, Sizes.Sizes}
use Rattle.rb_rules.specs.{Hearing.Coming, Slots.count_of}
use Rattle.rb_queue.specs.Waiting.{lane_of, with_lane, without_before, without_tick}
use Rattle.rb_world_agenda.proofs.Keeping.{lane-with}
use Rattle.rb_slot.specs.Engines.{Seated}
use Rattle.rb_world.specs.{Sites.Stands as StandsFor, Unstamped.{due_before, taken_all}}
use Rattle.rb_laws_sweeps.proofs.Sweeps.{all-every}
use Rattle.rb_world_traffic.proofs.Arrivals.{lane-again}
use Rattle.rb_world.proofs.TakenIn.{every-at, taken-more}
use Rattle.rb_world.proofs.sweeping.take_in_all.Goals as goal

pub loop-arrival-init : goal.loop-arrival-init
loop-arrival-init g c = record { stands = λ sc s is. is; seat = refl }

pub take_in_before-requires : goal.take_in_before-requires
take_in_before-requires g c =
    let me = side_of g.K.Kind.CODE in
    let cs = (lane_of c.args.agenda.now c.args.node).arrivals in
    let n = c.loop-arrival.arrival-index in
    let x : Coming = c.arrival-item.result in
    let within : n < length cs = subst (λ (cs : List Coming). n < length cs) c.waiting-arrival-items.ensures.value c.loop-arrival-test.true in
    let is : x ≡ get_or cs n x = c.arrival-item.is ∙ ap (λ (cs : List Coming). get_or cs n x) c.waiting-arrival-items.ensures.value in
    record {
      sender = subst (λ (sizes : Sizes). x.from < count_of (other me) sizes) (sym (ap (λ (z : Seated). z.sizes) c.loop-arrival.invariant.seat))
          (subst (λ (c0 : Coming). c0.from < count_of (other me) c.args.site.now.node.seat.sizes) (sym is)
          (every-at (λ c0. c0.from < count_of (other me) c.args.site.now.node.seat.sizes) cs n x within (all-every (λ c0. c0.from < count_of (other me) c.args.site.now.node.seat.sizes) cs c.requires.senders)));
    }

pub loop-arrival-preserved : goal.loop-arrival-preserved
loop-arrival-preserved g c =
    let me = side_of g.K.Kind.CODE in
    let cs = (lane_of c.args.agenda.now c.args.node).arrivals in
    let n = c.loop-arrival.arrival-index in
    let x : Coming = c.arrival-item.result in
    let within : n < length cs = subst (λ (cs : List Coming). n < length cs) c.waiting-arrival-items.ensures.value c.loop-arrival-test.true in
    let is : x ≡ get_or cs n x = c.arrival-item.is ∙ ap (λ (cs : List Coming). get_or cs n x) c.waiting-arrival-items.ensures.value in
    record {
      stands = λ sc s stands.
          subst (StandsFor sc me c.take_in_before.new.site) (sym (taken-more sc me c.args.until cs n x s within is))
          (c.take_in_before.ensures.stands sc (taken_all sc me (due_before c.args.until (take n cs)) s) (c.loop-arrival.invariant.stands sc s stands));
      seat = c.take_in_before.ensures.seat ∙ c.loop-arrival.invariant.seat;
    }

pub returns-clause-stands : goal.returns-clause-stands
returns-clause-stands g c = λ sc s stands.
    let me = side_of g.K.Kind.CODE in
    let cs = (lane_of c.args.agenda.now c.args.node).arrivals in
    let n = c.loop-arrival.arrival-index in
    let many = ap length c.waiting-arrival-items.ensures.value in
    let test = c.loop-arrival-test.false in
    let all : take n cs ≡ cs = take_all n cs (omega (arith, many, test)) in
    subst (λ (ds : List Coming). StandsFor sc me c.loop-arrival.site (taken_all sc me (due_before c.args.until ds) s)) all (c.loop-arrival.invariant.stands sc s stands)

pub returns-clause-seat : goal.returns-clause-seat
returns-clause-seat g c = c.loop-arrival.invariant.seat

pub returns-clause-lanes : goal.returns-clause-lanes
returns-clause-lanes g c =
    let lane = without_before c.args.until (lane_of c.args.agenda.now c.args.node) in
    c.take_tick.ensures.after
    ∙ ap (λ ls. with_lane c.args.node (without_tick (lane_of ls c.args.node)) ls) c.drop_before.ensures.after
    ∙ ap (λ l. with_lane c.args.node (without_tick l) (with_lane c.args.node lane c.args.agenda.now)) (lane-with c.args.agenda.now c.args.node lane c.requires.lane)
    ∙ lane-again c.args.agenda.now c.args.node lane (without_tick lane)
