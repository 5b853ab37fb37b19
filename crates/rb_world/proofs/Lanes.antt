-- Room in the lanes.
use Rattle.std.proofs.{Common.{◌≡◌, ℕ, zero, suc, ◌+◌, ◌<◌, ◌≤◌, Bool, true, false, Some, All, List, [], ◌∷◌, length, map, slice_get, refl, ap, subst, arith, length-append}, lemmas.List.length-map, lemmas.List.Elements.{All-cons, All-head, All-nil, All-set, All-tail}, lemmas.Option.none-some}
use Rattle.std.specs.Prelude.{option_map, option_to_list, unwrap_or}
use Rattle.rb_base.specs.{Nodes.Side, Nodes.Side.{Biu, Rmu}, Sizes.Sizes, declared.node.NodeName.NodeName}
use Rattle.rb_rules.specs.{Book.{Each, map_from, of_kind}, Goodness.Scenario, Hearing.Coming, Lawful.{IsNodeOf, kind_of}, Links.name_of, Slots.count_of, WorldStep.{Site, World, times_of}}
use Rattle.rb_laws_events.specs.PendingEvents.{most_pending}
use Rattle.rb_queue.specs.Waiting.{HasLane, Held, empty_lane, lane_of, spare_of, with_arrival, with_lane}
use Rattle.rb_world_agenda.specs.Holding.{HoldsAll, HoldsSite, HoldsSites}
use Rattle.rb_world_traffic.specs.Arriving.{lane_with, lanes_with}
use Rattle.rb_world.specs.{declared.scene.Scene.Scene, Buses.{HasRoom, HaveRooms}, Worlds.Surrounds}
use Rattle.rb_base.specs.declared.node.NodeName.TheVariants as node

-- Names.

pub kind-named : (me : Side) (i : ℕ) → kind_of (name_of me i) ≡ me
kind-named Biu i = refl
kind-named Rmu i = refl

-- each node has a lane
lanes-many : (sizes : Sizes) (me : Side) (ls : List Held) (ss : List Site) → HoldsAll sizes me ls ss → length ls ≡ length ss
lanes-many sizes me [] [] h = refl
lanes-many sizes me [] (s ∷ ss) h = absurd h
lanes-many sizes me (l ∷ ls) [] h = absurd h
lanes-many sizes me (l ∷ ls) (s ∷ ss) h = ap suc (lanes-many sizes me ls ss h.1)

pub has-lane : (sc : Scenario) (scene : Scene) (w : World) (name : NodeName) → Surrounds sc scene w → IsNodeOf sc.sizes name → HasLane scene.agenda name
has-lane sc scene w (node.Biu i) is h =
    let many : length scene.agenda.bius ≡ length w.sites.bius = lanes-many sc.sizes Biu scene.agenda.bius w.sites.bius is.lanes.bius in
    let all : length w.sites.bius ≡ sc.sizes.bius = is.counts Biu in
    omega arith
has-lane sc scene w (node.Rmu i) is h =
    let many : length scene.agenda.rmus ≡ length w.sites.rmus = lanes-many sc.sizes Rmu scene.agenda.rmus w.sites.rmus is.lanes.rmus in
    let all : length w.sites.rmus ≡ sc.sizes.rmus = is.counts Rmu in
    omega arith

-- Rooms.

room-get : (sc : Scenario) (me : Side) (ls : List Held) (i : ℕ) → All (HasRoom sc me) ls → i < length ls → HasRoom sc me (unwrap_or (slice_get ls i) (empty_lane 0))
room-get sc me [] i all h = absurd (omega arith)
room-get sc me (l ∷ ls) zero all h = All-head (HasRoom sc me) l ls all
room-get sc me (l ∷ ls) (suc i) all h = room-get sc me ls i (All-tail (HasRoom sc me) l ls all) (omega arith)

pub rooms-at : (sc : Scenario) (lanes : Each Held) (name : NodeName) → HaveRooms sc lanes → HasLane lanes name → HasRoom sc (kind_of name) (lane_of lanes name)
rooms-at sc lanes (node.Biu i) rooms h = room-get sc Biu lanes.bius i rooms.bius h
rooms-at sc lanes (node.Rmu i) rooms h = room-get sc Rmu lanes.rmus i rooms.rmus h

pub rooms-with : (sc : Scenario) (lanes : Each Held) (name : NodeName) (lane : Held) → HaveRooms sc lanes → HasLane lanes name → lane.room ≡ (lane_of lanes name).room
    → HaveRooms sc (with_lane name lane lanes)
rooms-with sc lanes (node.Biu i) lane rooms h same =
    let own : HasRoom sc Biu lane = let room = rooms-at sc lanes (node.Biu i) rooms h in omega arith in
    record { bius = All-set (HasRoom sc Biu) lanes.bius i lane own rooms.bius; rmus = rooms.rmus }
rooms-with sc lanes (node.Rmu i) lane rooms h same =
    let own : HasRoom sc Rmu lane = let room = rooms-at sc lanes (node.Rmu i) rooms h in omega arith in
    record { bius = rooms.bius; rmus = All-set (HasRoom sc Rmu) lanes.rmus i lane own rooms.rmus }

rooms-list : (sc : Scenario) (me side : Side) (coming : ℕ → Coming) (p : ℕ → Bool) (k : ℕ) (ls : List Held) → All (HasRoom sc me) ls
    → All (HasRoom sc me) (map_from k (lane_with side coming p) ls)
rooms-list sc me side coming p k [] all = All-nil (HasRoom sc me)
rooms-list sc me side coming p k (l ∷ ls) all =
    All-cons (HasRoom sc me) (lane_with side coming p k l) (map_from (k + 1) (lane_with side coming p) ls) (by (p k))
    (rooms-list sc me side coming p (k + 1) ls (All-tail (HasRoom sc me) l ls all))
  where
    by : (b : Bool) → HasRoom sc me (elim b as (λ _. Held) [ true ↦ with_arrival (coming k) l | false ↦ l ])
    by true = All-head (HasRoom sc me) l ls all
    by false = All-head (HasRoom sc me) l ls all

pub rooms-spread : (sc : Scenario) (lanes : Each Held) (side : Side) (coming : ℕ → Coming) (p : ℕ → Bool) → HaveRooms sc lanes → HaveRooms sc (lanes_with side coming p lanes)
rooms-spread sc lanes Biu coming p rooms = record { bius = rooms-list sc Biu Biu coming p 0 lanes.bius rooms.bius; rmus = rooms.rmus }
rooms-spread sc lanes Rmu coming p rooms = record { bius = rooms.bius; rmus = rooms-list sc Rmu Rmu coming p 0 lanes.rmus rooms.rmus }

-- How much is pending.

pub events-count : (sizes : Sizes) (me : Side) (lane : Held) (s : Site) → HoldsSite sizes me lane s
    → length lane.arrivals + length (option_to_list lane.tick) ≡ length (times_of s)
events-count sizes me lane s h =
    let ticks : List ℕ = option_to_list (option_map (λ a. a.time) s.ahead) in
    let long : length (times_of s) ≡ length ticks + length (map (λ c. c.time) s.coming) = length-append ticks (map (λ c. c.time) s.coming) in
    let many : length (map (λ c. c.time) s.coming) ≡ length s.coming = length-map s.coming (λ c. c.time) in
    let arrived : length lane.arrivals ≡ length s.coming = ap length h.coming in
    let ahead : length (option_to_list lane.tick) ≡ length ticks = ap (λ o. length (option_to_list o)) h.ahead in
    omega (arith, long, many, arrived, ahead)

lane-held : (sizes : Sizes) (me : Side) (ls : List Held) (ss : List Site) (i : ℕ) (s : Site) → HoldsAll sizes me ls ss → slice_get ss i ≡ Some s
    → HoldsSite sizes me (unwrap_or (slice_get ls i) (empty_lane 0)) s
lane-held sizes me [] [] i s h e = absurd (none-some s e)
lane-held sizes me [] (x ∷ ss) i s h e = absurd h
lane-held sizes me (l ∷ ls) [] i s h e = absurd h
lane-held sizes me (l ∷ ls) (x ∷ ss) zero s h e = subst (HoldsSite sizes me l) (ap (λ o. unwrap_or o x) e) h.0
lane-held sizes me (l ∷ ls) (x ∷ ss) (suc i) s h e = lane-held sizes me ls ss i s h.1 e

pub lane-holds : (sizes : Sizes) (lanes : Each Held) (sites : Each Site) (me : Side) (i : ℕ) (s : Site) → HoldsSites sizes lanes sites → slice_get (of_kind me sites) i ≡ Some s
    → HoldsSite sizes me (lane_of lanes (name_of me i)) s
lane-holds sizes lanes sites Biu i s h e = lane-held sizes Biu lanes.bius sites.bius i s h.bius e
lane-holds sizes lanes sites Rmu i s h e = lane-held sizes Rmu lanes.rmus sites.rmus i s h.rmus e

-- if at most so much is pending as may be, the lane has room for what may come at once
pub spare-at : (sc : Scenario) (lanes : Each Held) (sites : Each Site) (me : Side) (i : ℕ) (s : Site) → HaveRooms sc lanes → HasLane lanes (name_of me i) → HoldsSites sc.sizes lanes sites
    → slice_get (of_kind me sites) i ≡ Some s → length (times_of s) ≤ most_pending sc me → length sc.says + 1 ≤ spare_of (lane_of lanes (name_of me i))
spare-at sc lanes sites me i s rooms there holds at few =
    let many = events-count sc.sizes me (lane_of lanes (name_of me i)) s (lane-holds sc.sizes lanes sites me i s holds at) in
    let room : HasRoom sc me (lane_of lanes (name_of me i)) = subst (λ k. HasRoom sc k (lane_of lanes (name_of me i))) (kind-named me i) (rooms-at sc lanes (name_of me i) rooms there) in
    omega (arith, many, room, few)

pub node-named : (sc : Scenario) (me : Side) (i : ℕ) → i < count_of me sc.sizes → IsNodeOf sc.sizes (name_of me i)
node-named sc Biu i h = h
node-named sc Rmu i h = h
