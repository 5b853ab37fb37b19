use Rattle.std.proofs.Common.{◌≡◌, ◌<◌, length, subst, sym, ap, ◌∙◌}
use Rattle.std.specs.Prelude.{unwrap_or}
use Rattle.rb_base.specs.Counting.{count_if}
use Rattle.rb_queue.specs.{Waiting.{Held, arrivals_at, head_of}, Scanning.{StandsAt, is_between}}
use Rattle.rb_queue.proofs.Readiness.{arrival_below, comes_at_place, tick_at_place}
use Rattle.rb_queue.proofs.lane.Lane.place_among.Goals as goal

pub returns-then-count-eq0 : goal.returns-then-count-eq0
returns-then-count-eq0 c =
    let lane : Held = c.args.self.now in
    let time : c.unwrap_or-time.result ≡ unwrap_or (head_of lane) 0 = c.unwrap_or-time.ensures ∙ ap (λ o. unwrap_or o 0) c.head.ensures.value in
    tick_at_place (head_of lane) lane c.args.i c.requires
    (ap (λ n. count_if (is_between n 0 256) lane.arrivals) (sym time) ∙ ap (count_if (is_between c.unwrap_or-time.result 0 256)) (sym c.waiting.ensures)
    ∙ sym c.count.ensures.value ∙ c.if-count-eq0.true)

pub place_of-requires : goal.place_of-requires
place_of-requires c =
    let lane : Held = c.args.self.now in
    let time : c.unwrap_or-time.result ≡ unwrap_or (head_of lane) 0 = c.unwrap_or-time.ensures ∙ ap (λ o. unwrap_or o 0) c.head.ensures.value in
    let so_many : c.count.result ≡ count_if (is_between (unwrap_or (head_of lane) 0) 0 256) lane.arrivals =
    c.count.ensures.value ∙ ap (count_if (is_between c.unwrap_or-time.result 0 256)) c.waiting.ensures ∙ ap (λ n. count_if (is_between n 0 256) lane.arrivals) time in
    let below : c.args.i < length (arrivals_at (unwrap_or (head_of lane) 0) lane.arrivals) =
    arrival_below (head_of lane) lane c.args.i c.requires (λ none. c.if-count-eq0.false (so_many ∙ none)) in
    subst (λ l. c.args.i < length (arrivals_at c.unwrap_or-time.result l)) (sym c.waiting-2.ensures)
    (subst (λ n. c.args.i < length (arrivals_at n lane.arrivals)) (sym time) below)

pub returns : goal.returns
returns c =
    let lane : Held = c.args.self.now in
    let time : c.unwrap_or-time.result ≡ unwrap_or (head_of lane) 0 = c.unwrap_or-time.ensures ∙ ap (λ o. unwrap_or o 0) c.head.ensures.value in
    let stands : StandsAt (arrivals_at c.unwrap_or-time.result lane.arrivals) c.args.i lane.arrivals c.place_of.result =
    subst (λ l. StandsAt (arrivals_at c.unwrap_or-time.result l) c.args.i l c.place_of.result) c.waiting-2.ensures c.place_of.ensures in
    let at : StandsAt (arrivals_at (unwrap_or (head_of lane) 0) lane.arrivals) c.args.i lane.arrivals c.place_of.result =
    subst (λ n. StandsAt (arrivals_at n lane.arrivals) c.args.i lane.arrivals c.place_of.result) time stands in
    record { coming = at.coming; found = comes_at_place (head_of lane) lane c.args.i c.place_of.result c.requires at; stands = at.stands }
