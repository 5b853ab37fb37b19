-- Lanes that get one arrival each.
use Rattle.std.proofs.{Common.{◌≡◌, ◌≢◌, ℕ, zero, suc, ◌+◌, ◌<◌, ◌≤◌, ◌^◌, ◌⊎◌, ◌&&◌, ◌==◌, not, Bool, true, false, Some, List, [], ◌∷◌, length, slice_get, refl, sym, ap, ◌∙◌, subst, arith, inl, inr}, lemmas.Bool.{cases_lt, cases_order}}
use Rattle.std.specs.Prelude.{unwrap_or, slice_set}
use Rattle.rb_base.specs.{Nodes.{Side, TakesFirst, has}, Nodes.Side.{Biu, Rmu}}
use Rattle.rb_base.proofs.{Plain.{and-false, and-true}, Sets.{eq_other, first_gone, has-is, has_above, has_none}}
use Rattle.rb_rules.specs.{Book.{Each, map_from}, Hearing.Coming, Links.name_of}
use Rattle.rb_queue.specs.Waiting.{HasLane, Held, empty_lane, lane_of, spare_of, with_arrival, with_lane}
use Rattle.rb_world_traffic.specs.Arriving.{HaveRoom, lane_with, lanes_with}

-- Lists.
same-list : (side : Side) (coming : ℕ → Coming) (p q : ℕ → Bool) (ls : List Held) (i : ℕ) → ((k : ℕ) → i ≤ k → k < i + length ls → p k ≡ q k)
    → map_from i (lane_with side coming p) ls ≡ map_from i (lane_with side coming q) ls
same-list side coming p q [] i same = refl
same-list side coming p q (l ∷ ls) i same =
    ap (λ b. elim b as (λ _. Held) [ true ↦ with_arrival (coming i) l | false ↦ l ] ∷ map_from (i + 1) (lane_with side coming p) ls)
    (same i (omega arith) (omega arith))
    ∙ ap (λ r. lane_with side coming q i l ∷ r) (same-list side coming p q ls (i + 1) (λ k low high. same k (omega arith) (omega arith)))

none-list : (side : Side) (coming : ℕ → Coming) (p : ℕ → Bool) (ls : List Held) (i : ℕ) → ((k : ℕ) → p k ≡ false) → map_from i (lane_with side coming p) ls ≡ ls
none-list side coming p [] i none = refl
none-list side coming p (l ∷ ls) i none =
    ap (λ b. elim b as (λ _. Held) [ true ↦ with_arrival (coming i) l | false ↦ l ] ∷ map_from (i + 1) (lane_with side coming p) ls) (none i)
    ∙ ap (λ r. l ∷ r) (none-list side coming p ls (i + 1) none)

length-list : (side : Side) (coming : ℕ → Coming) (p : ℕ → Bool) (ls : List Held) (i : ℕ) → length (map_from i (lane_with side coming p) ls) ≡ length ls
length-list side coming p [] i = refl
length-list side coming p (l ∷ ls) i = ap suc (length-list side coming p ls (i + 1))

-- a lane whose node does not pass stays as it is
get-list : (side : Side) (coming : ℕ → Coming) (p : ℕ → Bool) (ls : List Held) (i n k : ℕ) → k ≡ i + n → p k ≡ false
    → slice_get (map_from i (lane_with side coming p) ls) n ≡ slice_get ls n
get-list side coming p [] i n k at out = refl
get-list side coming p (l ∷ ls) i zero k at out =
    let e : i ≡ k = omega arith in
    ap (λ b. Some (elim b as (λ _. Held) [ true ↦ with_arrival (coming i) l | false ↦ l ])) (ap p e ∙ out)
get-list side coming p (l ∷ ls) i (suc n) k at out = get-list side coming p ls (i + 1) n k (omega arith) out

set-list : (side : Side) (coming : ℕ → Coming) (p q : ℕ → Bool) (ls : List Held) (i n k : ℕ) (new : Held) → k ≡ i + n → n < length ls → q k ≡ true
    → ((m : ℕ) → m ≢ k → p m ≡ q m) → new ≡ with_arrival (coming k) (unwrap_or (slice_get ls n) (empty_lane 0))
    → slice_set (map_from i (lane_with side coming p) ls) n new ≡ map_from i (lane_with side coming q) ls
set-list side coming p q [] i n k new at h inside same is = absurd (omega arith)
set-list side coming p q (l ∷ ls) i zero k new at h inside same is =
    let e : k ≡ i = omega arith in
    let one : lane_with side coming q k l ≡ with_arrival (coming k) l =
    ap (λ b. elim b as (λ _. Held) [ true ↦ with_arrival (coming k) l | false ↦ l ]) inside in
    ap (λ x. x ∷ map_from (i + 1) (lane_with side coming p) ls) (is ∙ sym one ∙ ap (λ m. lane_with side coming q m l) e)
    ∙ ap (λ r. lane_with side coming q i l ∷ r) (same-list side coming p q ls (i + 1) (λ m low high. same m (omega arith)))
set-list side coming p q (l ∷ ls) i (suc n) k new at h inside same is =
    ap (λ b. elim b as (λ _. Held) [ true ↦ with_arrival (coming i) l | false ↦ l ] ∷ slice_set (map_from (i + 1) (lane_with side coming p) ls) n new) (same i (omega arith))
    ∙ ap (λ r. lane_with side coming q i l ∷ r) (set-list side coming p q ls (i + 1) n k new (omega arith) (omega arith) inside same is)

-- All lanes.
pub with-none : (side : Side) (coming : ℕ → Coming) (p : ℕ → Bool) (lanes : Each Held) → ((k : ℕ) → p k ≡ false) → lanes_with side coming p lanes ≡ lanes
with-none Biu coming p lanes none = ap (λ ls. record lanes { bius = ls }) (none-list Biu coming p lanes.bius 0 none)
with-none Rmu coming p lanes none = ap (λ ls. record lanes { rmus = ls }) (none-list Rmu coming p lanes.rmus 0 none)

pub with-same : (side : Side) (coming : ℕ → Coming) (p q : ℕ → Bool) (lanes : Each Held) → ((k : ℕ) → p k ≡ q k) → lanes_with side coming p lanes ≡ lanes_with side coming q lanes
with-same Biu coming p q lanes same = ap (λ ls. record lanes { bius = ls }) (same-list Biu coming p q lanes.bius 0 (λ k low high. same k))
with-same Rmu coming p q lanes same = ap (λ ls. record lanes { rmus = ls }) (same-list Rmu coming p q lanes.rmus 0 (λ k low high. same k))

-- a node still has its lane after others got arrivals
pub has-still : (side : Side) (coming : ℕ → Coming) (p : ℕ → Bool) (lanes : Each Held) (k : ℕ) → HasLane lanes (name_of side k) → HasLane (lanes_with side coming p lanes) (name_of side k)
has-still Biu coming p lanes k h = let e : length (map_from 0 (lane_with Biu coming p) lanes.bius) ≡ length lanes.bius = length-list Biu coming p lanes.bius 0 in omega arith
has-still Rmu coming p lanes k h = let e : length (map_from 0 (lane_with Rmu coming p) lanes.rmus) ≡ length lanes.rmus = length-list Rmu coming p lanes.rmus 0 in omega arith

pub lane-still : (side : Side) (coming : ℕ → Coming) (p : ℕ → Bool) (lanes : Each Held) (k : ℕ) → p k ≡ false → lane_of (lanes_with side coming p lanes) (name_of side k) ≡ lane_of lanes (name_of side k)
lane-still Biu coming p lanes k out = ap (λ o. unwrap_or o (empty_lane 0)) (get-list Biu coming p lanes.bius 0 k k (omega arith) out)
lane-still Rmu coming p lanes k out = ap (λ o. unwrap_or o (empty_lane 0)) (get-list Rmu coming p lanes.rmus 0 k k (omega arith) out)

-- one more node gets its arrival
with-more : (side : Side) (coming : ℕ → Coming) (p q : ℕ → Bool) (lanes : Each Held) (k : ℕ) → HasLane lanes (name_of side k) → q k ≡ true → ((m : ℕ) → m ≢ k → p m ≡ q m)
    → with_lane (name_of side k) (with_arrival (coming k) (lane_of lanes (name_of side k))) (lanes_with side coming p lanes) ≡ lanes_with side coming q lanes
with-more Biu coming p q lanes k h inside same =
    ap (λ ls. record lanes { bius = ls }) (set-list Biu coming p q lanes.bius 0 k k (with_arrival (coming k) (lane_of lanes (name_of Biu k))) (omega arith) h inside same refl)
with-more Rmu coming p q lanes k h inside same =
    ap (λ ls. record lanes { rmus = ls }) (set-list Rmu coming p q lanes.rmus 0 k k (with_arrival (coming k) (lane_of lanes (name_of Rmu k))) (omega arith) h inside same refl)

-- Node after node.

-- the running nodes that are no longer left
abbrev pub those_gone : ℕ → ℕ → ℕ → Bool
those_gone running left i = has running i && not (has left i)

in-and-left : (b : Bool) → (b && not b) ≡ false
in-and-left true = refl
in-and-left false = refl

-- to take out the first node leaves all others
gone-others : (before after k m : ℕ) → before < 2 ^ 16 → TakesFirst before after k → m ≢ k → has before m ≡ has after m
gone-others before after k m fits takes apart = elim (cases_lt m 16) [
  | inl less ↦
      sym (has-is after m (λ i. has before i && not (i == k)) takes.rest less ∙ ap (λ b. has before m && not b) (eq_other m k apart) ∙ and-true (has before m))
  | inr more ↦ has_above before m fits more ∙ sym (has_above after m (omega (arith, takes.less)) more)
]

-- a node that is left after a step was left before it
pub left-before : (before after k m : ℕ) → before < 2 ^ 16 → TakesFirst before after k → k < 16 → has after m ≡ true → has before m ≡ true
left-before before after k m fits takes within is = elim (cases_same m k) [
  | inl e ↦ let never : true ≡ false = sym is ∙ ap (has after) e ∙ first_gone before after k within takes in absurd cc
  | inr apart ↦ gone-others before after k m fits takes apart ∙ is
]
  where
    cases_same : (m k : ℕ) → (m ≡ k) ⊎ (m ≢ k)
    cases_same m k = elim (cases_order m k) [
      | inl e ↦ inl e
      | inr order ↦ inr (elim order as (λ _. m ≢ k) [ inl less ↦ omega arith | inr more ↦ omega arith ])
    ]

pub gone-none : (side : Side) (coming : ℕ → Coming) (running : ℕ) (lanes : Each Held) → lanes_with side coming (those_gone running running) lanes ≡ lanes
gone-none side coming running lanes = with-none side coming (those_gone running running) lanes (λ k. in-and-left (has running k))

still-out : (running left k : ℕ) → has left k ≡ true → those_gone running left k ≡ false
still-out running left k is = ap (λ b. has running k && not b) is ∙ and-false (has running k)

-- one more node gets what comes to it
pub gone-more : (side : Side) (coming : ℕ → Coming) (running before after k : ℕ) (lanes now : Each Held) → now ≡ lanes_with side coming (those_gone running before) lanes
    → before < 2 ^ 16 → TakesFirst before after k → k < 16 → has running k ≡ true → HasLane lanes (name_of side k)
    → with_lane (name_of side k) (with_arrival (coming k) (lane_of now (name_of side k))) now ≡ lanes_with side coming (those_gone running after) lanes
gone-more side coming running before after k lanes now so_far fits takes within inside h =
    let same : lane_of now (name_of side k) ≡ lane_of lanes (name_of side k) =
    ap (λ x. lane_of x (name_of side k)) so_far ∙ lane-still side coming (those_gone running before) lanes k (still-out running before k takes.inside) in
    let gone : those_gone running after k ≡ true = ap (λ b. b && not (has after k)) inside ∙ ap not (first_gone before after k within takes) in
    ap (λ l. with_lane (name_of side k) (with_arrival (coming k) l) now) same
    ∙ ap (with_lane (name_of side k) (with_arrival (coming k) (lane_of lanes (name_of side k)))) so_far
    ∙ with-more side coming (those_gone running before) (those_gone running after) lanes k h gone
    (λ m apart. ap (λ b. has running m && not b) (gone-others before after k m fits takes apart))

-- once no node is left, all running nodes have got what comes to them
pub gone-all : (side : Side) (coming : ℕ → Coming) (running left : ℕ) (lanes : Each Held) → left ≡ 0
    → lanes_with side coming (those_gone running left) lanes ≡ lanes_with side coming (has running) lanes
gone-all side coming running left lanes none =
    with-same side coming (those_gone running left) (has running) lanes
    (λ m. ap (λ b. has running m && not b) (ap (λ s. has s m) none ∙ has_none m) ∙ and-true (has running m))

-- a node that is left has room yet
pub room-left : (side : Side) (coming : ℕ → Coming) (running left k : ℕ) (lanes now : Each Held) → now ≡ lanes_with side coming (those_gone running left) lanes → HaveRoom side running lanes
    → has running k ≡ true → has left k ≡ true → HasLane now (name_of side k) × (1 ≤ spare_of (lane_of now (name_of side k)))
room-left side coming running left k lanes now so_far room inside is =
    let both = room k inside in
    let same : lane_of now (name_of side k) ≡ lane_of lanes (name_of side k) =
    ap (λ x. lane_of x (name_of side k)) so_far ∙ lane-still side coming (those_gone running left) lanes k (still-out running left k is) in
    (subst (λ x. HasLane x (name_of side k)) (sym so_far) (has-still side coming (those_gone running left) lanes k both.0), subst (λ l. 1 ≤ spare_of l) (sym same) both.1)
