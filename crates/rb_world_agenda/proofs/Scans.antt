-- The least times are looked through, one node after the other.
use Rattle.std.proofs.{Common.{◌≡◌, ℕ, ◌+◌, ◌<◌, ◌≤◌, ◌==◌, min, Bool, true, false, Some, List, [], ◌∷◌, ◌++◌, length, take, get_or, slice_get, refl, sym, ap, ◌∙◌, arith, length-append}, lemmas.List.{length-map, get_or-map, take_all, take_more}, lemmas.Option.unwrap_or-slice_get}
use Rattle.std.specs.Prelude.{unwrap_or}
use Rattle.rb_base.specs.declared.node.NodeName.{NodeName}
use Rattle.rb_rules.specs.Book.{Each, in_order}
use Rattle.rb_queue.specs.Waiting.{HasLane, Held, Ready, empty_lane, lane_of, ready_of}
use Rattle.rb_world_agenda.specs.Agenda.{AreFew, StandsAt, due_count, due_in, key_of, keys_of, least_key, node_at}
use Rattle.rb_world_agenda.proofs.{Dues.count-append, Keeping.{lane-at, room-of}}

-- The least.
least-push : (ks : List ℕ) (k : ℕ) → least_key (ks ++ k ∷ []) ≡ min (least_key ks) k
unfolding least_key
least-push [] k = omega arith
least-push (x ∷ ks) k = ap (min x) (least-push ks k) ∙ omega arith

pub least-more : (keys : List ℕ) (i : ℕ) → i < length keys → least_key (take (i + 1) keys) ≡ min (least_key (take i keys)) (get_or keys i 0)
least-more keys i h = ap least_key (take_more keys i 0 h) ∙ least-push (take i keys) (get_or keys i 0)

-- Counts.

-- the node at the position has a lane with this key
pub record IsHere (lanes : Each Held) (bius position time : ℕ) : Type 0 where
  pub lane : HasLane lanes (node_at bius position)
  pub at : slice_get (in_order lanes) position ≡ Some (lane_of lanes (node_at bius position))
  pub key : time ≡ key_of (lane_of lanes (node_at bius position))
  pub short : (lane_of lanes (node_at bius position)).room ≤ 65536
  pub within : position < length (in_order lanes)
  pub few : position < 32

pub many-few : (lanes : Each Held) (bius : ℕ) → AreFew lanes bius → (length (keys_of lanes) ≡ length (in_order lanes)) × (length (keys_of lanes) ≤ 32)
many-few lanes bius few =
    let many : length (keys_of lanes) ≡ length (in_order lanes) = length-map (in_order lanes) key_of in
    let all : length (in_order lanes) ≡ length lanes.bius + length lanes.rmus = length-append lanes.bius lanes.rmus in
    let b : length lanes.bius ≤ 16 = few.few_bius in
    let r : length lanes.rmus ≤ 16 = few.few_rmus in
    (many, omega (arith, many, all, b, r))

pub few-here : (lanes : Each Held) (bius position : ℕ) → AreFew lanes bius → position < length (keys_of lanes) → IsHere lanes bius position (get_or (keys_of lanes) position 0)
few-here lanes bius position few h =
    let many = many-few lanes bius few in
    let within : position < length (in_order lanes) = omega (arith, h, many.0) in
    let lane = lane-at lanes bius position few.split within in
    let name : NodeName = node_at bius position in
    let there : get_or (in_order lanes) position (empty_lane 0) ≡ lane_of lanes name =
    sym (unwrap_or-slice_get (in_order lanes) position (empty_lane 0)) ∙ ap (λ o. unwrap_or o (empty_lane 0)) lane.1 in
    record {
      lane = lane.0;
      at = lane.1;
      key = get_or-map key_of (in_order lanes) position (empty_lane 0) 0 within ∙ ap key_of there;
      short = room-of lanes bius name few lane.0;
      within = within;
      few = omega (arith, h, many.1);
    }

one : (t : ℕ) (l : Held) → due_count t (l ∷ []) ≡ length (due_in t l)
unfolding due_count
one t l = omega arith

-- one more node adds what is due in its lane
pub count-more : (lanes : Each Held) (bius position key t : ℕ) → IsHere lanes bius position key
    → due_count t (take (position + 1) (in_order lanes)) ≡ due_count t (take position (in_order lanes)) + length (due_in t (lane_of lanes (node_at bius position)))
count-more lanes bius position key t here =
    let name : NodeName = node_at bius position in
    let there : get_or (in_order lanes) position (empty_lane 0) ≡ lane_of lanes name =
    sym (unwrap_or-slice_get (in_order lanes) position (empty_lane 0)) ∙ ap (λ o. unwrap_or o (empty_lane 0)) here.at in
    ap (due_count t) (take_more (in_order lanes) position (empty_lane 0) here.within)
    ∙ ap (λ l. due_count t (take position (in_order lanes) ++ l ∷ [])) there
    ∙ count-append t (take position (in_order lanes)) (lane_of lanes name ∷ [])
    ∙ ap (λ n. due_count t (take position (in_order lanes)) + n) (one t (lane_of lanes name))

-- after the last node all that is due is counted
pub count-all : (lanes : Each Held) (bius position t : ℕ) → AreFew lanes bius → length (keys_of lanes) ≤ position
    → due_count t (take position (in_order lanes)) ≡ due_count t (in_order lanes)
count-all lanes bius position t few last =
    let many = (many-few lanes bius few).0 in
    ap (due_count t) (take_all position (in_order lanes) (omega (arith, last, many)))

in-due : (t : ℕ) (l : Held) (n : ℕ) → n < length (due_in t l) → ((key_of l == t) ≡ true) × (n < length (ready_of l))
in-due t l n h = go (key_of l == t) refl h
  where
    go : (b : Bool) → (key_of l == t) ≡ b → n < length (elim b as (λ _. List Ready) [ true ↦ ready_of l | false ↦ [] ])
        → ((key_of l == t) ≡ true) × (n < length (ready_of l))
    go true e h = (e, h)
    go false e h = absurd (omega arith)

-- the event that is looked for is one of the node at this position
pub stands-here : (lanes : Each Held) (bius position key t i left due : ℕ) → bius ≡ length lanes.bius → IsHere lanes bius position key
    → i ≡ due_count t (take position (in_order lanes)) + left → due ≡ length (due_in t (lane_of lanes (node_at bius position))) → left < due
    → StandsAt lanes t i (node_at bius position) left
stands-here lanes bius position key t i left due split here before many less =
    let name : NodeName = node_at bius position in
    let l : Held = lane_of lanes name in
    let both = in-due t l left (omega arith) in
    record {
      position = position;
      within = here.within;
      node = ap (λ b. node_at b position) split;
      lane = here.lane;
      first = both.0;
      ready = both.1;
      before = before;
    }
