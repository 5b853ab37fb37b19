-- The first ticks of all nodes, kept beside the lanes.
use Rattle.std.proofs.{Common.{◌≡◌, ℕ, suc, ◌+◌, ◌-◌, ◌<◌, ◌≤◌, nat_lt, true, false, if◌then◌else◌, Option, Some, None, List, [], ◌∷◌, ◌++◌, length, map, slice_get, get_or, refl, sym, ap, ◌∙◌, subst, arith, inl, inr, length-append}, Math.ListN.replicate, lemmas.Bool.cases_lt, lemmas.Bool.Decides.nat_tests, lemmas.List.{get_or-map, get_or_append_left, length-map, length-replicate, map-append, map-set, replicate-append-replicate, set-get_or}, lemmas.List.FromFn.length-range_with_len, lemmas.Option.{same_Some, slice_get_within, unwrap_or-slice_get}}
use Rattle.std.specs.Prelude.{option_map, slice_set, unwrap_or}
use Rattle.rb_base.specs.{Counting.numbers, Nodes.Side, Nodes.Side.{Biu, Rmu}, Sizes.Sizes, declared.event.Event.Event, declared.node.NodeName.NodeName}
use Rattle.rb_base.proofs.Plain.{slice_get-back, slice_get-front}
use Rattle.rb_rules.specs.{Book.{Each, each_of, in_order, of_kind}, Links.name_of, WorldStep.{Site, Timed}}
use Rattle.rb_queue.specs.{Waiting.{HasLane, Held, Ready, empty_lane, event_with, kind_with, lane_of, ready_event, ready_of, tick_time_of, with_lane, without_events, without_found, without_ready}, Waiting.Ready.{Comes, Ticks}}
use Rattle.rb_world_agenda.specs.{declared.scan.Front.Front, Agenda.{AreFew, AreTicks, IsFirstAhead, filled, mark_of, marks_from, node_at, position_of, tick_times, ticks_after}, Fronts.IsFront, Holding.{HoldsAll, HoldsSite, HoldsSites}}
use Rattle.rb_world_agenda.proofs.{Fronts.least-low, Keeping.{map-const, with-in-order}, Marks.{fill-set, length-marks, mark-at, marks-none, set-mark}, Scans.{few-here, many-few}, Which.has-item}
use Rattle.rb_base.specs.declared.node.NodeName.TheVariants as node

-- A lane changes.

-- the lane at the position of a node is the node's lane
name-lane : (lanes : Each Held) (name : NodeName) → HasLane lanes name
    → (position_of (length lanes.bius) name < length (in_order lanes)) × (get_or (in_order lanes) (position_of (length lanes.bius) name) (empty_lane 0) ≡ lane_of lanes name)
name-lane lanes (node.Biu i) h =
    let all : length (in_order lanes) ≡ length lanes.bius + length lanes.rmus = length-append lanes.bius lanes.rmus in (
      omega (arith, h, all),
      sym (unwrap_or-slice_get (in_order lanes) i (empty_lane 0)) ∙ ap (λ o. unwrap_or o (empty_lane 0)) (slice_get-front lanes.bius lanes.rmus i h),
    )
name-lane lanes (node.Rmu i) h =
    let all : length (in_order lanes) ≡ length lanes.bius + length lanes.rmus = length-append lanes.bius lanes.rmus in (
      omega (arith, h, all),
      sym (unwrap_or-slice_get (in_order lanes) (length lanes.bius + i) (empty_lane 0)) ∙ ap (λ o. unwrap_or o (empty_lane 0)) (slice_get-back lanes.bius lanes.rmus i),
    )

pub ticks-with : (lanes new : Each Held) (ticks : List ℕ) (bius place : ℕ) (name : NodeName) (lane : Held) (tick : ℕ) → bius ≡ length lanes.bius → place ≡ position_of bius name
    → AreTicks lanes ticks → HasLane lanes name → new ≡ with_lane name lane lanes → tick ≡ tick_time_of lane
    → AreTicks new (slice_set ticks place (mark_of place tick))
ticks-with lanes new ticks bius place name lane tick split at kept h after is =
    let order : in_order new ≡ slice_set (in_order lanes) place lane =
    ap in_order after ∙ with-in-order lanes name lane h ∙ ap (λ b. slice_set (in_order lanes) (position_of b name) lane) (sym split)
    ∙ ap (λ p. slice_set (in_order lanes) p lane) (sym at) in
    let ms : List ℕ = marks_from 0 (tick_times lanes) in
    let within : place < length ms =
    omega (arith, (name-lane lanes name h).0, ap (λ b. position_of b name) split, at, length-marks 0 (tick_times lanes), length-map (in_order lanes) tick_time_of) in
    ap (λ t. slice_set ticks place (mark_of place t)) is ∙ ap (λ ts. slice_set ts place (mark_of place (tick_time_of lane))) kept
    ∙ sym (fill-set ms place (mark_of place (tick_time_of lane)) within)
    ∙ ap filled
    (sym (set-mark (tick_times lanes) place (tick_time_of lane)) ∙ ap (marks_from 0) (sym (map-set tick_time_of (in_order lanes) place lane) ∙ ap (map tick_time_of) (sym order)))

tick-place : (lanes : Each Held) (ticks : List ℕ) (bius : ℕ) (name : NodeName) → bius ≡ length lanes.bius → AreTicks lanes ticks → HasLane lanes name
    → get_or ticks (position_of bius name) 0 ≡ mark_of (position_of bius name) (tick_time_of (lane_of lanes name))
tick-place lanes ticks bius name split kept h =
    let here = name-lane lanes name h in
    let p : ℕ = position_of (length lanes.bius) name in
    let place : ℕ = position_of bius name in
    let same : place ≡ p = ap (λ b. position_of b name) split in
    let ms : List ℕ = marks_from 0 (tick_times lanes) in
    let rest : List ℕ = replicate (32 - length ms) 18446744073709551615 in
    let marks : length ms ≡ length (tick_times lanes) = length-marks 0 (tick_times lanes) in
    let long : length (tick_times lanes) ≡ length (in_order lanes) = length-map (in_order lanes) tick_time_of in
    let within = here.0 in
    let time : get_or (tick_times lanes) place 0 ≡ tick_time_of (lane_of lanes name) =
    ap (λ k. get_or (tick_times lanes) k 0) same ∙ get_or-map tick_time_of (in_order lanes) p (empty_lane 0) 0 within ∙ ap tick_time_of here.1 in
    ap (λ ts. get_or ts place 0) kept ∙ get_or_append_left ms rest 0 place (omega (arith, within, marks, long, same))
    ∙ mark-at (tick_times lanes) place (omega (arith, within, long, same)) ∙ ap (mark_of place) time

-- if the tick of a lane stays, all ticks stay
pub ticks-same : (lanes new : Each Held) (ticks : List ℕ) (bius : ℕ) (name : NodeName) (lane : Held) → bius ≡ length lanes.bius → AreTicks lanes ticks → HasLane lanes name
    → new ≡ with_lane name lane lanes → tick_time_of lane ≡ tick_time_of (lane_of lanes name) → AreTicks new ticks
ticks-same lanes new ticks bius name lane split kept h after same =
    let place : ℕ = position_of bius name in
    subst (AreTicks new) (set-get_or ticks place 0)
    (subst (λ m. AreTicks new (slice_set ticks place m))
    (ap (mark_of place) same ∙ sym (tick-place lanes ticks bius name split kept h))
    (ticks-with lanes new ticks bius place name lane (tick_time_of lane) split refl kept h after refl))

-- a ready event is taken out of its lane
pub ticks-taken : (lanes new : Each Held) (ticks : List ℕ) (bius place : ℕ) (name : NodeName) (i : ℕ) (event : Event) → bius ≡ length lanes.bius → place ≡ position_of bius name
    → AreTicks lanes ticks → HasLane lanes name → ready_event name i (lane_of lanes name) ≡ Some event → new ≡ with_lane name (without_ready i (lane_of lanes name)) lanes
    → AreTicks new (ticks_after event.kind place ticks)
ticks-taken lanes new ticks bius place name i event split at kept h shown after = by (slice_get (ready_of (lane_of lanes name)) i) refl
  where
    lane : Held
    lane = lane_of lanes name

    kinds : (r : Ready) → new ≡ with_lane name (without_found (Some r) lane) lanes → AreTicks new (ticks_after (kind_with r) place ticks)
    kinds (Comes n c) gone = ticks-same lanes new ticks bius name (without_found (Some (Comes n c)) lane) split kept h gone refl
    kinds Ticks gone = ticks-with lanes new ticks bius place name (without_found (Some Ticks) lane) 18446744073709551615 split at kept h gone refl

    by : (o : Option Ready) → slice_get (ready_of lane) i ≡ o → AreTicks new (ticks_after event.kind place ticks)
    by None e = absurd (let never : ◌≡◌ {A = Option Event} None (Some event) = sym (ap (option_map (event_with name)) e) ∙ shown in cc)
    by (Some r) e =
        let same : event_with name r ≡ event = same_Some (event_with name r) event (sym (ap (option_map (event_with name)) e) ∙ shown) in
        subst (λ (x : Event). AreTicks new (ticks_after x.kind place ticks)) same
        (kinds r (after ∙ ap (λ o. with_lane name (without_found o lane) lanes) e))

-- a node whose events are dropped has no tick
pub ticks-dropped : (lanes new : Each Held) (ticks : List ℕ) (bius place : ℕ) (name : NodeName) → bius ≡ length lanes.bius → place ≡ position_of bius name
    → AreTicks lanes ticks → HasLane lanes name → new ≡ with_lane name (without_events (lane_of lanes name)) lanes → AreTicks new (slice_set ticks place 18446744073709551615)
ticks-dropped lanes new ticks bius place name split at kept h after =
    ticks-with lanes new ticks bius place name (without_events (lane_of lanes name)) 18446744073709551615 split at kept h after refl

-- at first no lane has a tick
pub ticks-empty : (sizes : Sizes) (lanes : Each Held) (room bius n : ℕ) → bius ≡ sizes.bius → n ≡ bius + sizes.rmus → n ≤ 32
    → lanes ≡ each_of sizes (λ side i. empty_lane room) → AreTicks lanes (replicate 32 18446744073709551615)
ticks-empty sizes lanes room bius n split all few is =
    let l : Held = empty_lane room in
    let ns : List ℕ = numbers sizes.bius ++ numbers sizes.rmus in
    let order : in_order lanes ≡ map (λ _. l) ns = ap in_order is ∙ sym (map-append (λ _. l) (numbers sizes.bius) (numbers sizes.rmus)) in
    let long : length ns ≡ n =
    length-append (numbers sizes.bius) (numbers sizes.rmus) ∙ omega (arith, length-range_with_len 0 sizes.bius, length-range_with_len 0 sizes.rmus, split, all) in
    ap (λ k. replicate k 18446744073709551615) (let e : 32 ≡ n + (32 - n) = omega (arith, few) in e)
    ∙ sym (replicate-append-replicate {A = ℕ} n (32 - n) 18446744073709551615)
    ∙ ap (λ k. replicate n 18446744073709551615 ++ replicate (32 - k) 18446744073709551615) (sym (length-replicate {A = ℕ} n 18446744073709551615))
    ∙ ap filled (sym (marks-none n 0)
    ∙ ap (marks_from 0) (ap (λ n. replicate n 18446744073709551615) (sym long) ∙ sym (map-const tick_time_of l 18446744073709551615 ns refl) ∙ ap (map tick_time_of) (sym order)))

-- Which is the first.

-- the time of the pending tick, or the greatest number if none is pending
abbrev ahead_key : Option Timed → ℕ
ahead_key None = 18446744073709551615
ahead_key (Some a) = a.time

tick-site : (sizes : Sizes) (me : Side) (lane : Held) (s : Site) → HoldsSite sizes me lane s → tick_time_of lane ≡ ahead_key s.ahead
tick-site sizes me lane s holds = ap (λ o. unwrap_or o 18446744073709551615) holds.ahead ∙ by s.ahead
  where
    by : (o : Option Timed) → unwrap_or (option_map (λ (a : Timed). a.time) o) 18446744073709551615 ≡ ahead_key o
    by None = refl
    by (Some a) = refl

ticks-sites : (sizes : Sizes) (me : Side) (ls : List Held) (ss : List Site) → HoldsAll sizes me ls ss
    → (length ls ≡ length ss) × (map tick_time_of ls ≡ map (λ (s : Site). ahead_key s.ahead) ss)
ticks-sites sizes me [] [] h = (refl, refl)
ticks-sites sizes me [] (s ∷ ss) h = absurd h
ticks-sites sizes me (l ∷ ls) [] h = absurd h
ticks-sites sizes me (l ∷ ls) (s ∷ ss) h =
    let rest = ticks-sites sizes me ls ss h.1 in (
      ap suc rest.0,
      ap (λ t. t ∷ map tick_time_of ls) (tick-site sizes me l s h.0) ∙ ap (λ ts. ahead_key s.ahead ∷ ts) rest.1,
    )

pub first-is : (sizes : Sizes) (lanes : Each Held) (sites : Each Site) (ticks : List ℕ) (bius : ℕ) (front : Front) → HoldsSites sizes lanes sites → ticks ≡ tick_times lanes → bius ≡ length lanes.bius
    → IsFront ticks front → (me : Side) (i time : ℕ) → IsFirstAhead sites me i time
    → (front.first < length ticks) × ((front.first ≡ position_of bius (name_of me i)) × (front.least ≡ time))
first-is sizes lanes sites ticks bius front holds kept split is me i time first =
    let here = there in
    let within = here.0 in
    let value = here.1 in
    let low = least-low ticks p within in
    let least = is.least_is in
    let small = first.small in
    let at = is.there (omega (arith, low, value, least, small)) in
    let inside = at.0 in
    let stands = at.1 in
    let above = (bound front.first inside).0 in
    let time_is : front.least ≡ time = omega (arith, above, stands, low, value, least) in
    (inside, (place_is inside stands time_is, time_is))
  where
    many : length lanes.bius ≡ length sites.bius
    many = (ticks-sites sizes Biu lanes.bius sites.bius holds.bius).0

    zs : List Site
    zs = in_order sites

    n : ℕ
    n = length sites.bius

    p : ℕ
    p = position_of n (name_of me i)

    key : Site → ℕ
    key s = ahead_key s.ahead

    all : ticks ≡ map key zs
    all =
        kept ∙ map-append tick_time_of lanes.bius lanes.rmus ∙ ap (λ ts. ts ++ map tick_time_of lanes.rmus) (ticks-sites sizes Biu lanes.bius sites.bius holds.bius).1
        ∙ ap (λ ts. map key sites.bius ++ ts) (ticks-sites sizes Rmu lanes.rmus sites.rmus holds.rmus).1 ∙ sym (map-append key sites.bius sites.rmus)

    at-item : (k : ℕ) (z : Site) → slice_get zs k ≡ Some z → (k < length ticks) × (get_or ticks k 0 ≡ key z)
    at-item k z e =
        let within = slice_get_within zs k z e in
        let long : length ticks ≡ length zs = ap length all ∙ length-map zs key in (
          omega (arith, within, long),
          ap (λ ts. get_or ts k 0) all ∙ get_or-map key zs k z 0 within ∙ ap key (sym (unwrap_or-slice_get zs k z) ∙ ap (λ o. unwrap_or o z) e),
        )

    place : (me : Side) (s : Site) → slice_get (of_kind me sites) i ≡ Some s → slice_get zs (position_of n (name_of me i)) ≡ Some s
    place Biu s e = slice_get-front sites.bius sites.rmus i (slice_get_within sites.bius i s e) ∙ e
    place Rmu s e = slice_get-back sites.bius sites.rmus i ∙ e

    there : (p < length ticks) × (get_or ticks p 0 ≡ time)
    there =
        let here = at-item p first.site (place me first.site first.there) in
        (here.0, here.1 ∙ by first.site.ahead first.pends)
      where
        by : (o : Option Timed) → option_map (λ (a : Timed). a.time) o ≡ Some time → ahead_key o ≡ time
        by None e = absurd (let never : ◌≡◌ {A = Option ℕ} None (Some time) = e in cc)
        by (Some a) e = let same : a.time ≡ time = same_Some a.time time e in let small = first.small in omega (arith, same, small)

    one : (side : Side) (j : ℕ) (z : Site) → slice_get (of_kind side sites) j ≡ Some z
        → (time ≤ key z) × (position_of n (name_of side j) < p → time < key z)
    one side j z e = by z.ahead refl
      where
        by : (o : Option Timed) → z.ahead ≡ o → (time ≤ ahead_key o) × (position_of n (name_of side j) < p → time < ahead_key o)
        by None f = let small = first.small in (omega (arith, small), λ less. omega (arith, small))
        by (Some b) f =
            let small = first.small in
            let least = first.least side j z b e f in (
              omega (arith, least, small),
              λ less. let later = first.first side j z b e f less in omega (arith, later, small),
            )

    bound : (k : ℕ) → k < length ticks → (time ≤ get_or ticks k 0) × (k < p → time < get_or ticks k 0)
    bound k within =
        let long : length ticks ≡ length zs = ap length all ∙ length-map zs key in
        let c = has-item zs k (omega (arith, within, long)) in
        let value = (at-item k c.item c.is).1 in
        elim (cases_lt k n) [
          | inl less ↦
              let its = one Biu k c.item (sym (slice_get-front sites.bius sites.rmus k less) ∙ c.is) in
              let low = its.0 in
              (omega (arith, low, value), λ before. let later = its.1 before in omega (arith, later, value))
          | inr ge ↦
              let same : n + (k - n) ≡ k = omega (arith, ge) in
              let its = one Rmu (k - n) c.item (sym (slice_get-back sites.bius sites.rmus (k - n)) ∙ ap (slice_get zs) same ∙ c.is) in
              let low = its.0 in
              (omega (arith, low, value), λ before. let later = its.1 (omega (arith, before, same)) in omega (arith, later, value))
        ]

    place_is : front.first < length ticks → get_or ticks front.first 0 ≡ front.least → front.least ≡ time → front.first ≡ position_of bius (name_of me i)
    place_is inside stands time_is =
        let value = there.1 in
        elim (cases_lt front.first p) [
          | inl less ↦ absurd (let more = (bound front.first inside).1 less in omega (arith, more, stands, time_is))
          | inr ge ↦ elim (cases_lt p front.first) [
            | inl more ↦ absurd (let lower = is.before p more in omega (arith, lower, value, time_is))
            | inr le ↦ let same : front.first ≡ p = omega (arith, ge, le) in same ∙ ap (λ b. position_of b (name_of me i)) (sym many ∙ sym split)
          ]
        ]

-- the node at the position has a lane, and this is the time of its tick
pub record IsTimeHere (lanes : Each Held) (bius position : ℕ) : Type 0 where
  pub lane : HasLane lanes (node_at bius position)
  pub time : get_or (tick_times lanes) position 0 ≡ tick_time_of (lane_of lanes (node_at bius position))
  pub few : position < 32

pub time-here : (lanes : Each Held) (bius position : ℕ) → AreFew lanes bius → position < length (tick_times lanes) → IsTimeHere lanes bius position
time-here lanes bius position few h =
    let many = many-few lanes bius few in
    let long : length (tick_times lanes) ≡ length (in_order lanes) = length-map (in_order lanes) tick_time_of in
    let here = few-here lanes bius position few (omega (arith, h, long, many.0)) in
    let there : get_or (in_order lanes) position (empty_lane 0) ≡ lane_of lanes (node_at bius position) =
    sym (unwrap_or-slice_get (in_order lanes) position (empty_lane 0)) ∙ ap (λ o. unwrap_or o (empty_lane 0)) here.at in
    record {
      lane = here.lane;
      time = get_or-map tick_time_of (in_order lanes) position (empty_lane 0) 0 here.within ∙ ap tick_time_of there;
      few = here.few;
    }

-- Names.

pub few-times : (lanes : Each Held) (bius : ℕ) → AreFew lanes bius → length (tick_times lanes) ≤ 32
few-times lanes bius few =
    let many = many-few lanes bius few in
    let long : length (tick_times lanes) ≡ length (in_order lanes) = length-map (in_order lanes) tick_time_of in
    omega (arith, many.0, many.1, long)

pub place-few : (lanes : Each Held) (bius place : ℕ) (name : NodeName) → AreFew lanes bius → place ≡ position_of bius name → HasLane lanes name → place < 32
place-few lanes bius place name few at h =
    let within = (name-lane lanes name h).0 in
    let many = many-few lanes bius few in
    omega (arith, within, many.0, many.1, at, ap (λ b. position_of b name) few.split)

-- the node at the position of a node is that node
pub name-there : (sizes : Sizes) (lanes : Each Held) (sites : Each Site) (bius position : ℕ) → HoldsSites sizes lanes sites → bius ≡ length lanes.bius → (me : Side) (i time : ℕ)
    → IsFirstAhead sites me i time → position ≡ position_of bius (name_of me i) → node_at bius position ≡ name_of me i
name-there sizes lanes sites bius position holds split Biu i time first at =
    let many = (ticks-sites sizes Biu lanes.bius sites.bius holds.bius).0 in
    let within = slice_get_within sites.bius i first.site first.there in
    let low : nat_lt position bius ≡ true = (let less : position < bius = omega (arith, at, within, many, split) in grind (arith, nat_tests)) in
    ap (λ b. if b then node.Biu position else node.Rmu (position - bius)) low ∙ ap (λ n. node.Biu n) at
name-there sizes lanes sites bius position holds split Rmu i time first at =
    let high : nat_lt position bius ≡ false = (let le : bius ≤ position = omega (arith, at) in grind (arith, nat_tests)) in
    let same : position - bius ≡ i = omega (arith, at) in
    ap (λ b. if b then node.Biu position else node.Rmu (position - bius)) high ∙ ap (λ n. node.Rmu n) same
