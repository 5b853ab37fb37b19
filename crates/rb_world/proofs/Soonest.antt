-- What comes first at a node, by its lane.
use Rattle.std.proofs.{Common.{◌≡◌, ℕ, ◌+◌, ◌<◌, ◌≤◌, ◌==◌, ◌⊎◌, min, Bool, true, false, Some, None, Option, All, List, [], ◌∷◌, ◌++◌, length, map, slice_get, refl, sym, ap, ◌∙◌, subst, arith, inl, inr}, lemmas.Bool.{cases_lt, eq-eqb, eqb-true}, lemmas.Option.{same_Some, slice_get-map}}
use Rattle.std.specs.Prelude.{option_map, option_to_list, unwrap_or}
use Rattle.rb_base.specs.{Nodes.{Side, other}, Sizes.Sizes, declared.event.Event.Event, declared.event.EventKind.EventKind, declared.node.NodeName.NodeName}
use Rattle.rb_rules.specs.{Hearing.Coming, Slots.count_of, WorldStep.{Due, Pending as Waits, Site, Timed, least, ready_at, tick_at, times_of}, WorldStep.Pending.{Tick, Arrival}}
use Rattle.rb_queue.specs.{Waiting.{Held, Ready, event_with, head_of, kind_with, ready_event, ready_from, ready_of, without_ready}, Waiting.Ready.{Comes, Ticks}}
use Rattle.rb_world_agenda.specs.{Agenda.key_of, Holding.{HoldsSite, coming_with, due_with, waits_with, without_waiting}}
use Rattle.rb_world_agenda.proofs.{Heads.head-is, OneNode.ready-is, Places.{IsAtHead, IsOf, holds-without, ready-at}}
use Rattle.rb_laws_events.proofs.{DueEvents.{least-none, least-of}, NodeEvents.{all-after, tick-after}, SameHeard.Every}
use Rattle.rb_laws_sweeps.specs.Sweeping.{Placed, first_of}
use Rattle.rb_world.specs.Trailing.{NoneBefore}
use Rattle.rb_laws_sweeps.proofs.{ReadyFirst.{Begins, ReadyFirst, ready-first}, Sweeps.{all-every, every-all}}

-- Times.

from-times : (until : ℕ) (s : Site) → Every (λ u. until ≤ u) (times_of s) → NoneBefore until s
from-times until s all = record {
  coming = every-all (λ c. until ≤ c.time) s.coming (all-after until s.ahead s.coming all);
  tick = λ a e. tick-after until s.ahead s.coming e all;
}

every-later : (t until : ℕ) (us : List ℕ) → until ≤ t → Every (λ u. t ≤ u) us → Every (λ u. until ≤ u) us
every-later t until [] le all = tt
every-later t until (u ∷ us) le all = let here = all.0 in (omega (arith, le, here), every-later t until us le all.1)

-- if the least time of the lane is not before `until`, nothing is pending before `until`
pub none-before : (sizes : Sizes) (me : Side) (lane : Held) (s : Site) (until : ℕ) → HoldsSite sizes me lane s → until ≤ key_of lane → NoneBefore until s
none-before sizes me lane s until holds le = by (least (times_of s)) refl
  where
    by : (o : Option ℕ) → least (times_of s) ≡ o → NoneBefore until s
    by None e = from-times until s (least-none (λ u. until ≤ u) (times_of s) e)
    by (Some t) e =
        let key : key_of lane ≡ t = ap (λ o. unwrap_or o 18446744073709551615) (sym (head-is sizes me lane s holds) ∙ e) in
        from-times until s (every-later t until (times_of s) (omega (arith, le, key)) (least-of (times_of s) t e))

-- The first.

-- the next event is the first arrival
pub record ArrivalNext (sizes : Sizes) (me : Side) (lane : Held) (s : Site) (time : ℕ) (k : EventKind) : Type 0 where
  pub first : Placed
  pub is : first_of s.coming ≡ Some first
  pub at : first.coming.time ≡ time
  pub shown : coming_with time k ≡ Some first.coming
  pub left : HoldsSite sizes me (without_ready 0 lane) (without_waiting (Arrival first.place first.coming) s)

pub record TickNext (sizes : Sizes) (me : Side) (lane : Held) (s : Site) (time : ℕ) (k : EventKind) : Type 0 where
  pub tick : Timed
  pub pends : s.ahead ≡ Some tick
  pub at : tick.time ≡ time
  pub shown : coming_with time k ≡ None
  pub later : All (λ c. time + 1 ≤ c.time) s.coming
  pub left : HoldsSite sizes me (without_ready 0 lane) (record s { ahead = None })

-- a due arrival is the one that waits, and is shown with its time
due-arrival : (me : Side) (i : ℕ) (lane : Held) (s : Site) (t n : ℕ) (x : Coming) (r : Ready) → IsOf t lane r
    → record { side = me; node = i; pending = Arrival n x } ≡ due_with me i s r → (Arrival n x ≡ waits_with s.ahead r) × (coming_with t (kind_with r) ≡ Some x)
due-arrival me i lane s t n x (Comes m y) is e =
    let same : Arrival n x ≡ Arrival m y = ap (λ (d : Due). d.pending) e in
    let own : Some y ≡ Some x = ap (λ (w : Waits). elim w as (λ _. Option Coming) [ Tick m ↦ None | Arrival m y ↦ Some y ]) (sym same) in
    (same, ap (λ t. coming_with t (kind_with (Comes m y))) (sym is.0) ∙ own)
due-arrival me i lane s t n x Ticks is e =
    absurd (let same : Arrival n x ≡ Tick (unwrap_or (option_map (λ a. a.tick) s.ahead) 0) = ap (λ (d : Due). d.pending) e in cc)

due-tick : (me : Side) (i : ℕ) (s : Site) (t k : ℕ) (r : Ready) → record { side = me; node = i; pending = Tick k } ≡ due_with me i s r
    → (Tick k ≡ waits_with s.ahead r) × (coming_with t (kind_with r) ≡ None)
due-tick me i s t k (Comes m y) e = absurd (let same : Tick k ≡ Arrival m y = ap (λ (d : Due). d.pending) e in cc)
due-tick me i s t k Ticks e = (ap (λ (d : Due). d.pending) e, refl)

head-begins : {X : Type 0} (d : X) (xs : List X) → Begins d xs → slice_get xs 0 ≡ Some d
head-begins d xs is = ap (λ l. slice_get l 0) is.1

-- what is ready in the lane is what may be taken at the site at the lane's least time
ready-there : (sizes : Sizes) (me : Side) (i : ℕ) (lane : Held) (s : Site) (t : ℕ) → count_of (other me) sizes ≤ 256 → HoldsSite sizes me lane s → head_of lane ≡ Some t
    → ready_at sizes t me i s ≡ map (due_with me i s) (ready_of lane)
ready-there sizes me i lane s t few holds head = ready-is sizes me i t lane s few holds ∙ ap (λ o. map (due_with me i s) (ready_from o lane)) (sym head)

-- if no arrival is due, the due event is the tick
tick-ready : (me : Side) (i t : ℕ) (o : Option Timed) → Every (λ u. t ≤ u) (option_to_list (option_map (λ (a : Timed). a.time) o))
    → (d : Due) → slice_get (tick_at me i t o) 0 ≡ Some d → (a : Timed) × ((o ≡ Some a) × ((a.time ≡ t) × (record { side = me; node = i; pending = Tick a.tick } ≡ d)))
tick-ready me i t None all d e = absurd (let never : ◌≡◌ {A = Option Due} None (Some d) = e in cc)
tick-ready me i t (Some a) all d e = by (a.time == t) refl e
  where
    by : (b : Bool) → (a.time == t) ≡ b → slice_get (elim b as (λ _. List Due) [ true ↦ record { side = me; node = i; pending = Tick a.tick } ∷ [] | false ↦ [] ]) 0 ≡ Some d
        → (x : Timed) × ((Some a ≡ Some x) × ((x.time ≡ t) × (record { side = me; node = i; pending = Tick x.tick } ≡ d)))
    by true h e = (a, (refl, (eqb-true a.time t h, same_Some (record { side = me; node = i; pending = Tick a.tick }) d e)))
    by false h e = absurd (let never : ◌≡◌ {A = Option Due} None (Some d) = e in cc)

front-of : (us vs : List ℕ) (t : ℕ) → Every (λ u. t ≤ u) (us ++ vs) → Every (λ u. t ≤ u) us
front-of [] vs t all = tt
front-of (u ∷ us) vs t all = (all.0, front-of us vs t all.1)

-- the next event is the first arrival or the tick
pub what-next : (sizes : Sizes) (me : Side) (i : ℕ) (lane : Held) (s : Site) (t : ℕ) (name : NodeName) (event : Event) → count_of (other me) sizes ≤ 256 → HoldsSite sizes me lane s → head_of lane ≡ Some t
    → ready_event name 0 lane ≡ Some event → ArrivalNext sizes me lane s t event.kind ⊎ TickNext sizes me lane s t event.kind
what-next sizes me i lane s t name event few holds head shown = by (slice_get (ready_of lane) 0) refl
  where
    all : Every (λ u. t ≤ u) (times_of s)
    all = least-of (times_of s) t (head-is sizes me lane s holds ∙ head)

    found : (c : Ready) → slice_get (ready_of lane) 0 ≡ Some c → slice_get (ready_at sizes t me i s) 0 ≡ Some (due_with me i s c)
    found c e =
        ap (λ ds. slice_get ds 0) (ready-there sizes me i lane s t few holds head) ∙ slice_get-map (due_with me i s) (ready_of lane) 0
        ∙ ap (option_map (due_with me i s)) e

    arrival : (c : Ready) → slice_get (ready_of lane) 0 ≡ Some c → event_with name c ≡ event → (p : Placed) → first_of s.coming ≡ Some p → p.coming.time ≡ t
        → slice_get (ready_at sizes t me i s) 0 ≡ Some (record { side = me; node = i; pending = Arrival p.place p.coming }) → ArrivalNext sizes me lane s t event.kind
    arrival c e same p is at due =
        let first : IsAtHead lane c = ready-at lane 0 c e in
        let own : IsOf t lane c = subst (λ u. IsOf u lane c) (same_Some first.time t (sym first.head ∙ head)) first.is in
        let d : Due = record { side = me; node = i; pending = Arrival p.place p.coming } in
        let both = due-arrival me i lane s t p.place p.coming c own (same_Some d (due_with me i s c) (sym due ∙ found c e)) in
        record {
          first = p;
          is = is;
          at = at;
          shown = ap (λ (e : Event). coming_with t e.kind) (sym same) ∙ both.1;
          left = subst (λ (w : Waits). HoldsSite sizes me (without_ready 0 lane) (without_waiting w s)) (sym both.0) (holds-without sizes me lane s 0 c holds e);
        }

    tick : (c : Ready) → slice_get (ready_of lane) 0 ≡ Some c → event_with name c ≡ event → Every (λ x. t + 1 ≤ x.time) s.coming → ready_at sizes t me i s ≡ tick_at me i t s.ahead
        → TickNext sizes me lane s t event.kind
    tick c e same later is =
        let its = tick-ready me i t s.ahead (front-of (option_to_list (option_map (λ (a : Timed). a.time) s.ahead)) (map (λ (c : Coming). c.time) s.coming) t all) (due_with me i s c)
        (ap (λ ds. slice_get ds 0) (sym is) ∙ found c e) in
        let both = due-tick me i s t its.0.tick c its.1.1.1 in
        record {
          tick = its.0;
          pends = its.1.0;
          at = its.1.1.0;
          shown = ap (λ (e : Event). coming_with t e.kind) (sym same) ∙ both.1;
          later = every-all (λ x. t + 1 ≤ x.time) s.coming later;
          left = subst (λ (w : Waits). HoldsSite sizes me (without_ready 0 lane) (without_waiting w s)) (sym both.0) (holds-without sizes me lane s 0 c holds e);
        }

    which : (c : Ready) → slice_get (ready_of lane) 0 ≡ Some c → event_with name c ≡ event → ReadyFirst sizes t me i s → ArrivalNext sizes me lane s t event.kind ⊎ TickNext sizes me lane s t event.kind
    which c e same (inl one) =
        inl (arrival c e same one.0 one.1.0 one.1.1.0 (head-begins (record { side = me; node = i; pending = Arrival one.0.place one.0.coming }) (ready_at sizes t me i s) one.1.1.1))
    which c e same (inr none) = inr (tick c e same none.0 none.1)

    by : (o : Option Ready) → slice_get (ready_of lane) 0 ≡ o → ArrivalNext sizes me lane s t event.kind ⊎ TickNext sizes me lane s t event.kind
    by None e = absurd (let never : ◌≡◌ {A = Option Event} None (Some event) = sym (ap (option_map (event_with name)) e) ∙ shown in cc)
    by (Some c) e =
        which c e (same_Some (event_with name c) event (sym (ap (option_map (event_with name)) e) ∙ shown))
        (ready-first sizes t i s (all-every (λ c. c.from < count_of (other me) sizes) s.coming holds.senders) (all-after t s.ahead s.coming all))

-- Something is ready if a time is the least.

least-above : (m : ℕ) (us : List ℕ) (t : ℕ) → Every (λ u. m ≤ u) us → least us ≡ Some t → m ≤ t
least-above m [] t all e = absurd (let never : ◌≡◌ {A = Option ℕ} None (Some t) = e in cc)
least-above m (u ∷ us) t all e = by (least us) refl (least-above m us) e
  where
    by : (o : Option ℕ) → least us ≡ o → ((v : ℕ) → Every (λ u. m ≤ u) us → least us ≡ Some v → m ≤ v)
        → ◌≡◌ {A = Option ℕ} (Some (elim o as (λ _. ℕ) [ None ↦ u | Some v ↦ min u v ])) (Some t) → m ≤ t
    by None h rest e = let same : u ≡ t = same_Some u t e in let here = all.0 in omega (arith, same, here)
    by (Some v) h rest e = let same : min u v ≡ t = same_Some (min u v) t e in let here = all.0 in let more = rest v all.1 h in omega (arith, same, here, more)

every-mapped : (m : ℕ) (cs : List Coming) → Every (λ (c : Coming). m ≤ c.time) cs → Every (λ u. m ≤ u) (map (λ (c : Coming). c.time) cs)
every-mapped m [] all = tt
every-mapped m (c ∷ cs) all = (all.0, every-mapped m cs all.1)

-- the tick comes at the least time if no arrival does
tick-then : (me : Side) (i t : ℕ) (o : Option Timed) (cs : List Coming) → least (option_to_list (option_map (λ (a : Timed). a.time) o) ++ map (λ (c : Coming). c.time) cs) ≡ Some t
    → Every (λ (c : Coming). t + 1 ≤ c.time) cs → tick_at me i t o ≡ [] → ⊥
tick-then me i t None cs least_is later none = let up = least-above (t + 1) (map (λ (c : Coming). c.time) cs) t (every-mapped (t + 1) cs later) least_is in omega (arith, up)
tick-then me i t (Some a) cs least_is later none = by (a.time == t) refl none
  where
    by : (b : Bool) → (a.time == t) ≡ b → ◌≡◌ {A = List Due} (elim b as (λ _. List Due) [ true ↦ record { side = me; node = i; pending = Tick a.tick } ∷ [] | false ↦ [] ]) [] → ⊥
    by true h e = cc
    by false h e =
        let low = (least-of (a.time ∷ map (λ (c : Coming). c.time) cs) t least_is).0 in
        let apart : a.time ≡ t → ⊥ = λ same. (let yes : (a.time == t) ≡ true = eq-eqb a.time t same in let never : true ≡ false = sym yes ∙ h in cc) in
        elim (cases_lt t a.time) [
          | inl lt ↦ let up = least-above (t + 1) (a.time ∷ map (λ (c : Coming). c.time) cs) t (omega (arith, lt), every-mapped (t + 1) cs later) least_is in omega (arith, up)
          | inr ge ↦ apart (omega (arith, low, ge))
        ]

pub some-ready : (sizes : Sizes) (me : Side) (i : ℕ) (lane : Held) (s : Site) (t : ℕ) → count_of (other me) sizes ≤ 256 → HoldsSite sizes me lane s → head_of lane ≡ Some t → 0 < length (ready_of lane)
some-ready sizes me i lane s t few holds head = by (ready_of lane) refl
  where
    all : Every (λ u. t ≤ u) (times_of s)
    all = least-of (times_of s) t (head-is sizes me lane s holds ∙ head)

    none : ready_at sizes t me i s ≡ [] → ReadyFirst sizes t me i s → ⊥
    none nothing (inl one) = begun one.1.1.1.0 (sym nothing ∙ one.1.1.1.1)
      where
        begun : (rest : List Due) → [] ≡ record { side = me; node = i; pending = Arrival one.0.place one.0.coming } ∷ rest → ⊥
        begun rest e = cc
    none nothing (inr late) = tick-then me i t s.ahead s.coming (head-is sizes me lane s holds ∙ head) late.0 (sym late.1 ∙ nothing)

    by : (cs : List Ready) → ready_of lane ≡ cs → 0 < length cs
    by (c ∷ cs) e = omega arith
    by [] e =
        absurd (none (ready-there sizes me i lane s t few holds head ∙ ap (map (due_with me i s)) e)
        (ready-first sizes t i s (all-every (λ c. c.from < count_of (other me) sizes) s.coming holds.senders) (all-after t s.ahead s.coming all)))
