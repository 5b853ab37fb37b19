-- If nothing is kept beside, what is pending at a node is what its lane holds.
use Rattle.std.proofs.{Common.{◌≡◌, ℕ, Option, Some, None, slice_get, List, [], ◌∷◌, ◌++◌, length, map, refl, sym, ap, ◌∙◌, subst}, lemmas.List.{append-nil, length-map, map-append}, lemmas.Simd.map-map, lemmas.Option.slice_get-map}
use Rattle.std.specs.{List.flat_map, Prelude.{◌↔◌, true, false, is_some, IsNone, option_map, option_to_list}}
use Rattle.rb_base.specs.{Counting.numbers, declared.node.NodeName.NodeName}
use Rattle.rb_rules.specs.{Hearing.Coming, WorldStep.least}
use Rattle.rb_queue.specs.{declared.pending.Pending.Pending, Waiting.{Held, Ready, arrivals_at, coming_at, event_with, head_of, ready_at, ready_event, ready_from, ready_of, tick_at, unless_any, without_found, without_ready}, Waiting.Ready.Comes, Queued.{IsEmpty, Queued, as_event, least_time_of, senders_at, sent_at, takeable_at, takeable_event, takeable_from, takeable_of, ticks_at, unless_some, with_held, without_any, without_takeable}, Queued.Takeable.InLane}
use Rattle.rb_queue.proofs.Sources.{no_items}

pub least_bare : (q : Queued) → q.more ≡ [] → least_time_of q ≡ head_of q.lane
least_bare q none =
    let times : List ℕ = option_to_list q.lane.tick ++ map (λ c. c.time) q.lane.arrivals in
    ap (λ (ms : List Pending). least (times ++ map (λ p. p.time) ms)) none ∙ ap least (append-nil times)

of_sources : (time : ℕ) (lane : Held) (sources : List ℕ)
    → flat_map (sent_at time lane []) sources ≡ map (λ c. InLane (Comes c.0 c.1)) (flat_map (coming_at time lane.arrivals) sources)
of_sources time lane [] = refl
of_sources time lane (s ∷ ss) =
    ap (λ l. l ++ flat_map (sent_at time lane []) ss) (append-nil (map (λ c. InLane (Comes c.0 c.1)) (coming_at time lane.arrivals s)))
    ∙ ap (λ l. map (λ c. InLane (Comes c.0 c.1)) (coming_at time lane.arrivals s) ++ l) (of_sources time lane ss)
    ∙ sym (map-append (λ (c : ℕ × Coming). InLane (Comes c.0 c.1)) (coming_at time lane.arrivals s) (flat_map (coming_at time lane.arrivals) ss))

senders_bare : (time : ℕ) (lane : Held) → senders_at time lane [] ≡ map (λ c. InLane (Comes c.0 c.1)) (arrivals_at time lane.arrivals)
unfolding senders_at arrivals_at
senders_bare time lane = of_sources time lane (numbers 256)

both_bare : (cs : List (ℕ × Coming)) (ticks : List Ready)
    → unless_some (map (λ c. InLane (Comes c.0 c.1)) cs) (map (λ r. InLane r) ticks) ≡ map (λ r. InLane r) (unless_any cs ticks)
both_bare [] ticks = refl
both_bare (c ∷ cs) ticks = ap (λ l. InLane (Comes c.0 c.1) ∷ l) (sym (map-map (λ r. InLane r) (λ (c : ℕ × Coming). Comes c.0 c.1) cs))

at_bare : (time : ℕ) (lane : Held) → takeable_at time lane [] ≡ map (λ r. InLane r) (ready_at time lane)
at_bare time lane =
    let cs : List (ℕ × Coming) = arrivals_at time lane.arrivals in
    let ticks : List Ready = tick_at time lane.tick in
    ap (λ l. unless_some l (ticks_at time lane [])) (senders_bare time lane)
    ∙ ap (λ l. unless_some (map (λ c. InLane (Comes c.0 c.1)) cs) l) (append-nil (map (λ r. InLane r) ticks)) ∙ both_bare cs ticks

from_bare : (q : Queued) → q.more ≡ [] → (o : Option ℕ) → takeable_from o q ≡ map (λ r. InLane r) (ready_from o q.lane)
from_bare q none None = refl
from_bare q none (Some time) = ap (λ ms. takeable_at time q.lane ms) none ∙ at_bare time q.lane

-- what may be taken is what is ready in the lane
pub takeable_bare : (q : Queued) → q.more ≡ [] → takeable_of q ≡ map (λ r. InLane r) (ready_of q.lane)
takeable_bare q none = ap (λ o. takeable_from o q) (least_bare q none) ∙ from_bare q none (head_of q.lane)

pub length_bare : (q : Queued) → q.more ≡ [] → length (takeable_of q) ≡ length (ready_of q.lane)
length_bare q none = ap length (takeable_bare q none) ∙ length-map (ready_of q.lane) (λ r. InLane r)

found_bare : (q : Queued) (i : ℕ) → q.more ≡ [] → slice_get (takeable_of q) i ≡ option_map (λ r. InLane r) (slice_get (ready_of q.lane) i)
found_bare q i none = ap (λ l. slice_get l i) (takeable_bare q none) ∙ slice_get-map (λ r. InLane r) (ready_of q.lane) i

pub event_bare : (name : NodeName) (i : ℕ) (q : Queued) → q.more ≡ [] → takeable_event name i q ≡ ready_event name i q.lane
event_bare name i q none = ap (option_map (as_event name)) (found_bare q i none) ∙ shown (slice_get (ready_of q.lane) i)
  where
    shown : (o : Option Ready) → option_map (as_event name) (option_map (λ r. InLane r) o) ≡ option_map (event_with name) o
    shown None = refl
    shown (Some r) = refl

pub without_bare : (i : ℕ) (q : Queued) → q.more ≡ [] → without_takeable i q ≡ with_held (without_ready i q.lane) q
without_bare i q none = ap (λ o. without_any o q) (found_bare q i none) ∙ left (slice_get (ready_of q.lane) i)
  where
    left : (o : Option Ready) → without_any (option_map (λ r. InLane r) o) q ≡ with_held (without_found o q.lane) q
    left None = refl
    left (Some r) = refl

-- ---- as it is kept

pub length_inside : (lane : Held) (more : List Pending) (q : Queued) → record { lane = lane; more = more } ≡ q → length more ≡ 0
    → length (takeable_of q) ≡ length (ready_of lane)
length_inside lane more q is none =
    subst (λ q. length (takeable_of q) ≡ length (ready_of lane)) is (length_bare (record { lane = lane; more = more }) (no_items more none))

pub event_inside : (name : NodeName) (i : ℕ) (lane : Held) (more : List Pending) (q : Queued) → record { lane = lane; more = more } ≡ q → length more ≡ 0
    → takeable_event name i q ≡ ready_event name i lane
event_inside name i lane more q is none =
    subst (λ q. takeable_event name i q ≡ ready_event name i lane) is (event_bare name i (record { lane = lane; more = more }) (no_items more none))

pub without_inside : (i : ℕ) (lane : Held) (more : List Pending) (q : Queued) → record { lane = lane; more = more } ≡ q → length more ≡ 0
    → record { lane = without_ready i lane; more = more } ≡ without_takeable i q
without_inside i lane more q is none =
    subst (λ q. record { lane = without_ready i lane; more = more } ≡ without_takeable i q) is
    (sym (without_bare i (record { lane = lane; more = more }) (no_items more none)))

-- ---- there is no least time if and only if nothing is pending

none_of : (tick : Option ℕ) (arrivals : List Coming) (more : List Pending) (o : Option ℕ)
    → o ≡ least ((option_to_list tick ++ map (λ c. c.time) arrivals) ++ map (λ p. p.time) more)
    → IsNone o ↔ (((arrivals ≡ []) × (tick ≡ None)) × (more ≡ []))
none_of None [] [] o is = let none : o ≡ None = is in (λ h. ((refl, refl), refl), λ h. ap is_some none)
none_of None [] (m ∷ ms) o is =
    let some : is_some o ≡ true = ap is_some is in
    (λ h. let never : true ≡ false = sym some ∙ h in cc, λ h. let empty : m ∷ ms ≡ [] = h.1 in cc)
none_of None (c ∷ cs) more o is =
    let some : is_some o ≡ true = ap is_some is in
    (λ h. let never : true ≡ false = sym some ∙ h in cc, λ h. let empty : c ∷ cs ≡ [] = h.0.0 in cc)
none_of (Some t) arrivals more o is =
    let some : is_some o ≡ true = ap is_some is in
    (λ h. let never : true ≡ false = sym some ∙ h in cc, λ h. let empty : Some t ≡ None = h.0.1 in cc)

pub none_at_all : (q : Queued) (o : Option ℕ) → o ≡ least_time_of q → IsNone o ↔ IsEmpty q
none_at_all q o is = none_of q.lane.tick q.lane.arrivals q.more o is
