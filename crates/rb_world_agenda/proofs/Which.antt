-- Which event is the i-th that is due.
use Rattle.std.proofs.{Common.{◌≡◌, ℕ, zero, suc, ◌+◌, ◌-◌, ◌<◌, ◌≤◌, ◌==◌, nat_lt, Bool, true, false, Option, Some, None, List, [], ◌∷◌, ◌++◌, length, map, take, slice_get, if◌then◌else◌, refl, sym, ap, ◌∙◌, subst, arith, length-append}, lemmas.Bool.Decides.nat_tests, Math.Seq.take-append-add, lemmas.List.{length-map, take-append-le}, lemmas.Option.{same_Some, slice_get-map, slice_get_within}}
use Rattle.std.specs.Prelude.{option_map, unwrap_or}
use Rattle.rb_base.specs.{Nodes.Side, Nodes.Side.{Biu, Rmu}, Sizes.Sizes, declared.node.NodeName.NodeName}
use Rattle.rb_base.proofs.Plain.{slice_get-back, slice_get-front}
use Rattle.rb_rules.specs.{Book.{Each, in_order}, Goodness.Scenario, WorldStep.{Due, Site, World}}
use Rattle.rb_queue.specs.Waiting.{Held, Ready, empty_lane, lane_of, ready_of}
use Rattle.rb_world_agenda.specs.{Agenda.{IsDue, StandsAt, due_count, due_in, first_time, key_of}, Holding.{HoldsAll, HoldsSites, due_with}}
use Rattle.rb_world_agenda.proofs.{Dues.{count-append, due-lanes, dues_from, length-dues}, Heads.AreTimes}
use Rattle.rb_base.specs.declared.node.NodeName.TheVariants as node

-- Lists.
pub record HasItem {X : Type 0} (xs : List X) (i : ℕ) : Type 0 where
  pub item : X
  pub is : slice_get xs i ≡ Some item

pub has-item : {X : Type 0} (xs : List X) (i : ℕ) → i < length xs → HasItem xs i
has-item [] i h = absurd (omega arith)
has-item (x ∷ xs) zero h = record { item = x; is = refl }
has-item (x ∷ xs) (suc i) h = let more = has-item xs i (omega arith) in record { item = more.item; is = more.is }

-- the event at this place among the ready events of the lane at position p of a kind
pub record IsDueIn (t : ℕ) (me : Side) (i : ℕ) (ls : List Held) (ss : List Site) (n p : ℕ) (l : Held) (place : ℕ) : Type 0 where
  pub site : Site
  pub there : slice_get ss p ≡ Some site
  pub event : Ready
  pub ready : slice_get (ready_of l) place ≡ Some event
  pub due : slice_get (dues_from t me i ls ss) n ≡ Some (due_with me (i + p) site event)

here-due : (t : ℕ) (me : Side) (i : ℕ) (l : Held) (s : Site) (rest : List Due) (n place : ℕ) → (key_of l == t) ≡ true → n ≡ place → place < length (ready_of l)
    → (c : HasItem (ready_of l) place)
    → slice_get (map (due_with me i s) (due_in t l) ++ rest) n ≡ Some (due_with me i s c.item)
here-due t me i l s rest n place is at h c =
    let all : due_in t l ≡ ready_of l = ap (λ b. elim b [ true ↦ ready_of l | false ↦ [] ]) is in
    let got : slice_get (map (due_with me i s) (ready_of l)) place ≡ Some (due_with me i s c.item) =
    slice_get-map (due_with me i s) (ready_of l) place ∙ ap (option_map (due_with me i s)) c.is in
    ap (λ d. slice_get (map (due_with me i s) d ++ rest) n) all ∙ ap (slice_get (map (due_with me i s) (ready_of l) ++ rest)) at
    ∙ slice_get-front (map (due_with me i s) (ready_of l)) rest place (slice_get_within (map (due_with me i s) (ready_of l)) place _ got) ∙ got

due-in : (sizes : Sizes) (t : ℕ) (me : Side) (i : ℕ) (ls : List Held) (ss : List Site) → HoldsAll sizes me ls ss → (n p : ℕ) (l : Held) (place : ℕ)
    → slice_get ls p ≡ Some l → (key_of l == t) ≡ true → n ≡ due_count t (take p ls) + place → place < length (ready_of l) → IsDueIn t me i ls ss n p l place
unfolding dues_from due_count
due-in sizes t me i [] ss holds n p l place at is before h = let never : ◌≡◌ {A = Option Held} None (Some l) = at in cc
due-in sizes t me i (k ∷ ls) [] holds n p l place at is before h = absurd holds
due-in sizes t me i (k ∷ ls) (s ∷ ss) holds n zero l place at is before h =
    let same : k ≡ l = same_Some k l at in
    let c = has-item (ready_of l) place h in
    let e : i + 0 ≡ i = omega arith in
    let f : n ≡ place = omega arith in
    record {
      site = s;
      there = refl;
      event = c.item;
      ready = c.is;
      due = ap (λ k. slice_get (map (due_with me i s) (due_in t k) ++ dues_from t me (i + 1) ls ss) n) same
          ∙ here-due t me i l s (dues_from t me (i + 1) ls ss) n place is f h c ∙ ap (λ m. Some (due_with me m s c.item)) (sym e);
    }
due-in sizes t me i (k ∷ ls) (s ∷ ss) holds n (suc p) l place at is before h =
    let front : List Due = map (due_with me i s) (due_in t k) in
    let m : ℕ = due_count t (take p ls) + place in
    let long : length front ≡ length (due_in t k) = length-map (due_in t k) (due_with me i s) in
    let f : n ≡ length front + m = omega arith in
    let more = due-in sizes t me (i + 1) ls ss holds.1 m p l place at is refl h in
    let e : i + 1 + p ≡ i + suc p = omega arith in
    record {
      site = more.site;
      there = more.there;
      event = more.event;
      ready = more.ready;
      due = ap (slice_get (front ++ dues_from t me (i + 1) ls ss)) f ∙ slice_get-back front (dues_from t me (i + 1) ls ss) m ∙ more.due
          ∙ ap (λ m. Some (due_with me m more.site more.event)) e;
    }

-- All lanes.

the-lane : (ls : List Held) (p : ℕ) → p < length ls → slice_get ls p ≡ Some (unwrap_or (slice_get ls p) (empty_lane 0))
the-lane ls p h = let c = has-item ls p h in c.is ∙ ap (λ o. Some (unwrap_or o (empty_lane 0))) (sym c.is)

of-biu : (sc : Scenario) (w : World) (lanes : Each Held) (i p place : ℕ) → HoldsSites sc.sizes lanes w.sites → AreTimes (in_order lanes) → p < length lanes.bius
    → (key_of (lane_of lanes (node.Biu p)) == first_time lanes) ≡ true → place < length (ready_of (lane_of lanes (node.Biu p)))
    → i ≡ due_count (first_time lanes) (take p (in_order lanes)) + place → IsDue sc w lanes i (node.Biu p) place
of-biu sc w lanes i p place holds times h is ready before =
    let t : ℕ = first_time lanes in
    let l : Held = lane_of lanes (node.Biu p) in
    let front : List Due = dues_from t Biu 0 lanes.bius w.sites.bius in
    let e : take p (in_order lanes) ≡ take p lanes.bius = take-append-le p lanes.bius lanes.rmus (omega arith) in
    let at : i ≡ due_count t (take p lanes.bius) + place = before ∙ ap (λ ls. due_count t ls + place) e in
    let got = due-in sc.sizes t Biu 0 lanes.bius w.sites.bius holds.bius i p l place (the-lane lanes.bius p h) is at ready in
    let f : 0 + p ≡ p = omega arith in
    record {
      side = Biu;
      number = p;
      named = refl;
      site = got.site;
      there = got.there;
      event = got.event;
      ready = got.ready;
      due = ap (λ d. slice_get d i) (due-lanes sc w lanes holds times)
          ∙ slice_get-front front (dues_from t Rmu 0 lanes.rmus w.sites.rmus) i (slice_get_within front i _ got.due) ∙ got.due
          ∙ ap (λ m. Some (due_with Biu m got.site got.event)) f;
    }

of-rmu : (sc : Scenario) (w : World) (lanes : Each Held) (i p place : ℕ) → HoldsSites sc.sizes lanes w.sites → AreTimes (in_order lanes) → p < length lanes.rmus
    → (key_of (lane_of lanes (node.Rmu p)) == first_time lanes) ≡ true → place < length (ready_of (lane_of lanes (node.Rmu p)))
    → i ≡ due_count (first_time lanes) (take (length lanes.bius + p) (in_order lanes)) + place → IsDue sc w lanes i (node.Rmu p) place
of-rmu sc w lanes i p place holds times h is ready before =
    let t : ℕ = first_time lanes in
    let l : Held = lane_of lanes (node.Rmu p) in
    let front : List Due = dues_from t Biu 0 lanes.bius w.sites.bius in
    let back : List Due = dues_from t Rmu 0 lanes.rmus w.sites.rmus in
    let m : ℕ = due_count t (take p lanes.rmus) + place in
    let e : take (length lanes.bius + p) (in_order lanes) ≡ lanes.bius ++ take p lanes.rmus = take-append-add lanes.bius lanes.rmus p in
    let long : length front ≡ due_count t lanes.bius = length-dues sc.sizes t Biu 0 lanes.bius w.sites.bius holds.bius in
    let at : i ≡ length front + m =
    before ∙ ap (λ ls. due_count t ls + place) e ∙ omega (arith, count-append t lanes.bius (take p lanes.rmus), long) in
    let got = due-in sc.sizes t Rmu 0 lanes.rmus w.sites.rmus holds.rmus m p l place (the-lane lanes.rmus p h) is refl ready in
    let f : 0 + p ≡ p = omega arith in
    record {
      side = Rmu;
      number = p;
      named = refl;
      site = got.site;
      there = got.there;
      event = got.event;
      ready = got.ready;
      due = ap (λ d. slice_get d i) (due-lanes sc w lanes holds times) ∙ ap (slice_get (front ++ back)) at ∙ slice_get-back front back m ∙ got.due
          ∙ ap (λ m. Some (due_with Rmu m got.site got.event)) f;
    }

-- an event that is due by the lanes is due in the world
pub is-due : (sc : Scenario) (w : World) (lanes : Each Held) (i : ℕ) (name : NodeName) (place : ℕ) → HoldsSites sc.sizes lanes w.sites → AreTimes (in_order lanes)
    → StandsAt lanes (first_time lanes) i name place → IsDue sc w lanes i name place
is-due sc w lanes i name place holds times at =
    go (nat_lt at.position (length lanes.bius)) refl
  where
    go : (b : Bool) → nat_lt at.position (length lanes.bius) ≡ b → IsDue sc w lanes i name place
    go true e =
        let h : at.position < length lanes.bius = grind (arith, nat_tests) in
        let named : name ≡ node.Biu at.position = at.node ∙ ap (λ b. if b then node.Biu at.position else node.Rmu (at.position - length lanes.bius)) e in
        subst (λ n. IsDue sc w lanes i n place) (sym named)
        (of-biu sc w lanes i at.position place holds times h (ap (λ n. key_of (lane_of lanes n) == first_time lanes) (sym named) ∙ at.first)
        (subst (λ n. place < length (ready_of (lane_of lanes n))) named at.ready) at.before)
    go false e =
        let p : ℕ = at.position - length lanes.bius in
        let long : length (in_order lanes) ≡ length lanes.bius + length lanes.rmus = length-append lanes.bius lanes.rmus in
        let within : at.position < length (in_order lanes) = at.within in
        let f : length lanes.bius ≤ at.position = grind (arith, nat_tests) in
        let h : p < length lanes.rmus = omega arith in
        let g : at.position ≡ length lanes.bius + p = omega arith in
        let named : name ≡ node.Rmu p = at.node ∙ ap (λ b. if b then node.Biu at.position else node.Rmu p) e in
        subst (λ n. IsDue sc w lanes i n place) (sym named)
        (of-rmu sc w lanes i p place holds times h (ap (λ n. key_of (lane_of lanes n) == first_time lanes) (sym named) ∙ at.first)
        (subst (λ n. place < length (ready_of (lane_of lanes n))) named at.ready)
        (at.before ∙ ap (λ q. due_count (first_time lanes) (take q (in_order lanes)) + place) g))
