-- How the least times are kept beside the lanes.
use Rattle.std.proofs.{Common.{◌≡◌, ℕ, zero, suc, ◌+◌, ◌-◌, ◌<◌, ◌≤◌, nat_lt, Bool, true, false, Option, Some, None, List, [], ◌∷◌, ◌++◌, All, length, map, slice_get, if◌then◌else◌, refl, sym, ap, ◌∙◌, subst, arith, length-append}, Math.ListN.replicate, lemmas.Bool.Decides.nat_tests, lemmas.List.{length-map, length-set, map-append, set-append_left, set-append_right}, lemmas.List.Elements.{All-cons, All-nil, All-set, All-head, All-tail}, lemmas.List.FromFn.length-range_with_len}
use Rattle.std.specs.Prelude.{unwrap_or, slice_set}
use Rattle.rb_base.specs.{Counting.numbers, Sizes.{IsShape, Sizes}, declared.node.NodeName.NodeName}
use Rattle.rb_rules.specs.Book.{Each, each_of, in_order}
use Rattle.rb_queue.specs.{Waiting.{HasLane, Held, Ready, empty_lane, head_of, lane_of, ready_of, with_lane, without_found, without_ready}, Waiting.Ready.{Comes, Ticks}}
use Rattle.rb_world_agenda.specs.Agenda.{AreFew, key_of, keys_of, node_at, position_of}
use Rattle.rb_world_agenda.proofs.Heads.{AreTimes, IsTime}
use Rattle.rb_base.specs.declared.node.NodeName.TheVariants as node

-- A lane changes.
get-set : {X : Type 0} (xs : List X) (i : ℕ) (x : X) → i < length xs → slice_get (slice_set xs i x) i ≡ Some x
get-set [] i x h = absurd (omega arith)
get-set (y ∷ xs) zero x h = refl
get-set (y ∷ xs) (suc i) x h = get-set xs i x (omega arith)

pub lane-with : (lanes : Each Held) (name : NodeName) (lane : Held) → HasLane lanes name → lane_of (with_lane name lane lanes) name ≡ lane
lane-with lanes (node.Biu i) lane h = ap (λ o. unwrap_or o (empty_lane 0)) (get-set lanes.bius i lane h)
lane-with lanes (node.Rmu i) lane h = ap (λ o. unwrap_or o (empty_lane 0)) (get-set lanes.rmus i lane h)

pub has-with : (lanes : Each Held) (name other : NodeName) (lane : Held) → HasLane lanes name → HasLane (with_lane other lane lanes) name
has-with lanes (node.Biu i) (node.Biu j) lane h = let e : length (slice_set lanes.bius j lane) ≡ length lanes.bius = length-set lanes.bius j lane in omega arith
has-with lanes (node.Biu i) (node.Rmu j) lane h = h
has-with lanes (node.Rmu i) (node.Biu j) lane h = h
has-with lanes (node.Rmu i) (node.Rmu j) lane h = let e : length (slice_set lanes.rmus j lane) ≡ length lanes.rmus = length-set lanes.rmus j lane in omega arith

-- in the order of nodes the new lane is at the position of its node
pub with-in-order : (lanes : Each Held) (name : NodeName) (lane : Held) → HasLane lanes name
    → in_order (with_lane name lane lanes) ≡ slice_set (in_order lanes) (position_of (length lanes.bius) name) lane
with-in-order lanes (node.Biu i) lane h = sym (set-append_left lanes.bius lanes.rmus i lane h)
with-in-order lanes (node.Rmu i) lane h =
    let e : (length lanes.bius + i) - length lanes.bius ≡ i = omega arith in
    sym (set-append_right lanes.bius lanes.rmus (length lanes.bius) (length lanes.bius + i) lane refl (omega arith) ∙ ap (λ i. lanes.bius ++ slice_set lanes.rmus i lane) e)

-- Least times.

pub order-with : (lanes new : Each Held) (bius : ℕ) (name : NodeName) (lane : Held) → bius ≡ length lanes.bius → HasLane lanes name → new ≡ with_lane name lane lanes
    → in_order new ≡ slice_set (in_order lanes) (position_of bius name) lane
order-with lanes new bius name lane split h after =
    ap in_order after ∙ with-in-order lanes name lane h ∙ ap (λ b. slice_set (in_order lanes) (position_of b name) lane) (sym split)

-- a changed lane leaves as many keys as there were
pub many-with : (lanes new : Each Held) (bius : ℕ) (name : NodeName) (lane : Held) → bius ≡ length lanes.bius → HasLane lanes name → new ≡ with_lane name lane lanes
    → length (keys_of lanes) ≡ length (keys_of new)
many-with lanes new bius name lane split h after =
    length-map (in_order lanes) key_of ∙ sym (length-set (in_order lanes) (position_of bius name) lane)
    ∙ ap length (sym (order-with lanes new bius name lane split h after)) ∙ sym (length-map (in_order new) key_of)

pub few-with : (lanes new : Each Held) (bius : ℕ) (name : NodeName) (lane : Held) → AreFew lanes bius → HasLane lanes name
    → new ≡ with_lane name lane lanes → lane.room ≤ 65536 → AreFew new bius
few-with lanes new bius name lane few h after room =
    let order = order-with lanes new bius name lane few.split h after in
    let as_many = many name in
    record {
      split = few.split ∙ sym (ap (λ x. length x.bius) after ∙ as_many.0);
      few_bius = subst (λ n. n ≤ 16) (sym (ap (λ x. length x.bius) after ∙ as_many.0)) few.few_bius;
      few_rmus = subst (λ n. n ≤ 16) (sym (ap (λ x. length x.rmus) after ∙ as_many.1)) few.few_rmus;
      short = subst (All (λ l. l.room ≤ 65536)) (sym order) (All-set (λ l. l.room ≤ 65536) (in_order lanes) (position_of bius name) lane room few.short);
    }
  where
    many : (name : NodeName) → (length (with_lane name lane lanes).bius ≡ length lanes.bius) × (length (with_lane name lane lanes).rmus ≡ length lanes.rmus)
    many (node.Biu i) = (length-set lanes.bius i lane, refl)
    many (node.Rmu i) = (refl, length-set lanes.rmus i lane)

-- the lane at a position is that of the node there
pub lane-at : (lanes : Each Held) (bius position : ℕ) → bius ≡ length lanes.bius → position < length (in_order lanes)
    → HasLane lanes (node_at bius position) × (slice_get (in_order lanes) position ≡ Some (lane_of lanes (node_at bius position)))
lane-at lanes bius position split h = go (nat_lt position bius) refl
  where
    left : (xs ys : List Held) (i : ℕ) → i < length xs → slice_get (xs ++ ys) i ≡ Some (unwrap_or (slice_get xs i) (empty_lane 0))
    left [] ys i h = absurd (omega arith)
    left (x ∷ xs) ys zero h = refl
    left (x ∷ xs) ys (suc i) h = left xs ys i (omega arith)

    right : (xs ys : List Held) (i : ℕ) → i < length ys → slice_get (xs ++ ys) (length xs + i) ≡ Some (unwrap_or (slice_get ys i) (empty_lane 0))
    right [] [] i h = absurd (omega arith)
    right [] (y ∷ ys) zero h = refl
    right [] (y ∷ ys) (suc i) h = let e : 0 + suc i ≡ suc (0 + i) = omega arith in ap (slice_get (y ∷ ys)) e ∙ right [] ys i (omega arith)
    right (x ∷ xs) ys i h = let e : length (x ∷ xs) + i ≡ suc (length xs + i) = omega arith in ap (slice_get (x ∷ (xs ++ ys))) e ∙ right xs ys i h

    go : (b : Bool) → nat_lt position bius ≡ b
        → HasLane lanes (if b then node.Biu position else node.Rmu (position - bius)) × (slice_get (in_order lanes) position ≡ Some (lane_of lanes (if b then node.Biu position else node.Rmu (position - bius))))
    go true e =
        let low : position < bius = grind (arith, nat_tests) in
        let within : position < length lanes.bius = omega arith in
        (within, left lanes.bius lanes.rmus position within)
    go false e =
        let all : length (in_order lanes) ≡ length lanes.bius + length lanes.rmus = length-append lanes.bius lanes.rmus in
        let high : bius ≤ position = grind (arith, nat_tests) in
        let within : position - bius < length lanes.rmus = omega arith in
        let at : position ≡ length lanes.bius + (position - bius) = omega arith in
        (within, ap (slice_get (in_order lanes)) at ∙ right lanes.bius lanes.rmus (position - bius) within)

-- what holds of all lanes holds of the lane of a node
pub holds-of : (P : Held → Type 0) (lanes : Each Held) (name : NodeName) → All P (in_order lanes) → HasLane lanes name → P (lane_of lanes name)
holds-of P lanes name all h = go name h
  where
    at : (xs : List Held) (i : ℕ) → All P xs → i < length xs → P (unwrap_or (slice_get xs i) (empty_lane 0))
    at [] i all h = absurd (omega arith)
    at (x ∷ xs) zero all h = All-head P x xs all
    at (x ∷ xs) (suc i) all h = at xs i (All-tail P x xs all) (omega arith)

    front : (xs ys : List Held) → All P (xs ++ ys) → All P ys
    front [] ys all = all
    front (x ∷ xs) ys all = front xs ys (All-tail P x (xs ++ ys) all)

    back : (xs ys : List Held) (i : ℕ) → All P (xs ++ ys) → i < length xs → P (unwrap_or (slice_get xs i) (empty_lane 0))
    back [] ys i all h = absurd (omega arith)
    back (x ∷ xs) ys zero all h = All-head P x (xs ++ ys) all
    back (x ∷ xs) ys (suc i) all h = back xs ys i (All-tail P x (xs ++ ys) all) (omega arith)

    go : (name : NodeName) → HasLane lanes name → P (lane_of lanes name)
    go (node.Biu i) h = back lanes.bius lanes.rmus i all h
    go (node.Rmu i) h = at lanes.rmus i (front lanes.bius lanes.rmus all) h

pub room-of : (lanes : Each Held) (bius : ℕ) (name : NodeName) → AreFew lanes bius → HasLane lanes name → (lane_of lanes name).room ≤ 65536
room-of lanes bius name few h = holds-of (λ l. l.room ≤ 65536) lanes name few.short h

-- the keys of all lanes are times
pub times-of : (lanes : Each Held) → All (λ k. k ≤ 18446744073709551615) (keys_of lanes) → AreTimes (in_order lanes)
times-of lanes all = go (in_order lanes) all
  where
    one : (o : Option ℕ) → unwrap_or o 18446744073709551615 ≤ 18446744073709551615 → IsTime o
    one None h = tt
    one (Some t) h = h

    go : (ls : List Held) → All (λ k. k ≤ 18446744073709551615) (map key_of ls) → AreTimes ls
    go [] all = tt
    go (l ∷ ls) all =
        (one (head_of l) (All-head (λ k. k ≤ 18446744073709551615) (key_of l) (map key_of ls) all), go ls (All-tail (λ k. k ≤ 18446744073709551615) (key_of l) (map key_of ls) all))

-- At first.
pub map-const : {X Y : Type 0} (f : Y → ℕ) (y : Y) (k : ℕ) (xs : List X) → f y ≡ k → map f (map (λ _. y) xs) ≡ replicate (length xs) k
map-const f y k [] e = refl
map-const f y k (x ∷ xs) e = ap (λ a. a ∷ map f (map (λ _. y) xs)) e ∙ ap (λ l. k ∷ l) (map-const f y k xs e)

pub few-empty : (sizes : Sizes) (lanes : Each Held) (room bius n : ℕ) → IsShape sizes → room ≤ 65536 → bius ≡ sizes.bius → n ≡ bius + sizes.rmus
    → lanes ≡ each_of sizes (λ side i. empty_lane room) → AreFew lanes bius × (n ≡ length (keys_of lanes))
few-empty sizes lanes room bius n shape small split all is =
    let l : Held = empty_lane room in
    let b : List Held = map (λ _. l) (numbers sizes.bius) in
    let r : List Held = map (λ _. l) (numbers sizes.rmus) in
    let lb : length b ≡ sizes.bius = length-map (numbers sizes.bius) (λ _. l) ∙ length-range_with_len 0 sizes.bius in
    let lr : length r ≡ sizes.rmus = length-map (numbers sizes.rmus) (λ _. l) ∙ length-range_with_len 0 sizes.rmus in
    let both : b ++ r ≡ map (λ _. l) (numbers sizes.bius ++ numbers sizes.rmus) = sym (map-append (λ _. l) (numbers sizes.bius) (numbers sizes.rmus)) in
    let order : in_order lanes ≡ map (λ _. l) (numbers sizes.bius ++ numbers sizes.rmus) = ap in_order is ∙ both in
    let most_bius : sizes.bius ≤ 16 = shape.most_bius in
    let most_rmus : sizes.rmus ≤ 16 = shape.most_rmus in
    let bius_are : length lanes.bius ≡ length b = ap (λ x. length x.bius) is in
    let rmus_are : length lanes.rmus ≡ length r = ap (λ x. length x.rmus) is in
    let keys : length (keys_of lanes) ≡ length (in_order lanes) = length-map (in_order lanes) key_of in
    let long : length (in_order lanes) ≡ length lanes.bius + length lanes.rmus = length-append lanes.bius lanes.rmus in (
      record {
        split = split ∙ omega arith;
        few_bius = omega arith;
        few_rmus = omega arith;
        short = subst (All (λ l. l.room ≤ 65536)) (sym order) (all-const (numbers sizes.bius ++ numbers sizes.rmus));
      },
      omega (arith, keys, long, lb, lr, bius_are, rmus_are, split, all),
    )
  where
    all-const : (xs : List ℕ) → All (λ l. l.room ≤ 65536) (map (λ _. empty_lane room) xs)
    all-const [] = All-nil (λ l. l.room ≤ 65536)
    all-const (x ∷ xs) = All-cons (λ l. l.room ≤ 65536) (empty_lane room) (map (λ _. empty_lane room) xs) small (all-const xs)

-- a lane keeps its room
pub room-without : (place : ℕ) (lane : Held) → lane.room ≤ 65536 → (without_ready place lane).room ≤ 65536
room-without place lane h = go (slice_get (ready_of lane) place)
  where
    go : (o : Option Ready) → (without_found o lane).room ≤ 65536
    go None = h
    go (Some (Comes n c)) = h
    go (Some Ticks) = h
