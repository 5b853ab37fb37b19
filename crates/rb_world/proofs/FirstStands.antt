-- When all nodes have begun, it is the first world.
use Rattle.std.proofs.{Common.{◌≡◌, ℕ, zero, suc, ◌+◌, ◌<◌, ◌≤◌, nat_lt, Bool, true, false, Some, None, Option, All, List, [], ◌∷◌, length, map, slice_get, refl, sym, ap, ◌∙◌, subst, arith, inl, inr}, lemmas.Bool.{cases_lt, ltb-true}, lemmas.Bool.Decides.nat_tests, lemmas.Option.{same_Some, slice_get_past, slice_get_within}, lemmas.List.Elements.{All-cons, All-nil}}
use Rattle.std.specs.Prelude.{option_map}
use Rattle.rb_base.specs.{Counting.numbers, Nodes.{Side, has, other, set_of}, Nodes.Side.{Biu, Rmu}, Sizes.{IsShape, Sizes}}
use Rattle.rb_base.proofs.{Plain.none_not_some, Sets.{has-set_of, has_above, set_of-lt}}
use Rattle.rb_rules.specs.{Book.{each_of, of_kind}, Entries.IsListed, Goodness.Scenario, Hearing.{Coming, Span, port_at}, Lawful.IsLawful, Slots.count_of, WorldStep.{Site, World, at_node, await, enter, first_world, fresh_site, proceed, says_in, span_from, stop}, Goodness.is_good}
use Rattle.rb_rules.proofs.WindowNumbers.{get-made}
use Rattle.rb_world_agenda.specs.Holding.{HoldsAll, HoldsSites}
use Rattle.rb_world_book.proofs.Noting.{same-shown}
use Rattle.rb_world_book.specs.Holding.{Holds}
use Rattle.rb_laws_events.proofs.{WorldNodes.first-counts, WorldStands.{get-at, node-itself, not-other}}
use Rattle.rb_laws_events.specs.PendingEvents.{most_pending}
use Rattle.rb_queue.specs.Waiting.{empty_lane}
use Rattle.rb_world.specs.{Sites.KeptSite, Buses.{HasRoom, HaveRooms, listed_by}, declared.scene.Scene.Scene, declared.ties.Seeding.Seeding, Openings.{HaveBegun, MayBegin, before_all, with_begun}, Worlds.{AreNodes, HoldsPorts, IsNode, Stands, Surrounds, running_of}}
use Rattle.rb_world_traffic.specs.Arriving.{AreRunning}
use Rattle.rb_world.proofs.{Beginning.apart, Going.few-nodes, Sites.counts-one}
use Rattle.rb_world.specs.declared.last.Last.TheVariants as last

-- What surrounds the nodes before they begin.

holds-empty : (sizes : Sizes) (me : Side) (room : ℕ) (xs : List ℕ) → HoldsAll sizes me (map (λ _. empty_lane room) xs) (map (λ _. fresh_site sizes me) xs)
holds-empty sizes me room [] = tt
holds-empty sizes me room (x ∷ xs) =
    (record { coming = refl; ahead = refl; senders = All-nil (λ (c : Coming). c.from < count_of (other me) sizes) }, holds-empty sizes me room xs)

rooms-empty : (sc : Scenario) (me : Side) (room : ℕ) (xs : List ℕ) → most_pending sc me + length sc.says + 1 ≤ room → All (HasRoom sc me) (map (λ _. empty_lane room) xs)
rooms-empty sc me room [] enough = All-nil (HasRoom sc me)
rooms-empty sc me room (x ∷ xs) enough = All-cons (HasRoom sc me) (empty_lane room) (map (λ _. empty_lane room) xs) enough (rooms-empty sc me room xs enough)

-- a node that goes on shows the same
goes-same : {Y : Type 0} (h : Site → Y) → ((sc : Scenario) (me : Side) (i : ℕ) (more : List Coming) (s : Site) → h (await sc me i more s) ≡ h s) → ((s : Site) → h (stop s) ≡ h s)
    → (sc : Scenario) (me : Side) (i : ℕ) (s : Site) → h (proceed sc me i s) ≡ h s
unfolding proceed
goes-same h awaits stops sc me i s = by (span_from sc.sizes sc.plan me s.core.state s.core.had)
  where
    inner : (span : Span) (b : Bool) → h (elim b as (λ _. Site) [ true ↦ await sc me i (says_in sc me i span) s | false ↦ stop s ]) ≡ h s
    inner span true = awaits sc me i (says_in sc me i span) s
    inner span false = stops s

    by : (o : Option Span) → h (enter sc me i o s) ≡ h s
    by None = awaits sc me i [] s
    by (Some span) = inner span (is_good sc me i span.place.frame span.place.slot)

shows-list : {Y : Type 0} (h : Site → Y) (f g : ℕ → Site) → ((i : ℕ) → h (f i) ≡ h (g i)) → (xs : List ℕ) → map h (map f xs) ≡ map h (map g xs)
shows-list h f g same [] = refl
shows-list h f g same (x ∷ xs) = ap (λ y. y ∷ map h (map f xs)) (same x) ∙ ap (λ ys. h (g x) ∷ ys) (shows-list h f g same xs)

shows-first : {Y : Type 0} (h : Site → Y) → ((sc : Scenario) (me : Side) (i : ℕ) (more : List Coming) (s : Site) → h (await sc me i more s) ≡ h s) → ((s : Site) → h (stop s) ≡ h s)
    → (sc : Scenario) (me : Side) → map h (of_kind me (before_all sc).sites) ≡ map h (of_kind me (first_world sc).sites)
unfolding first_world
shows-first h awaits stops sc Biu =
    shows-list h (λ i. fresh_site sc.sizes Biu) (λ i. proceed sc Biu i (fresh_site sc.sizes Biu)) (λ i. sym (goes-same h awaits stops sc Biu i (fresh_site sc.sizes Biu))) (numbers sc.sizes.bius)
shows-first h awaits stops sc Rmu =
    shows-list h (λ i. fresh_site sc.sizes Rmu) (λ i. proceed sc Rmu i (fresh_site sc.sizes Rmu)) (λ i. sym (goes-same h awaits stops sc Rmu i (fresh_site sc.sizes Rmu))) (numbers sc.sizes.rmus)

is-fresh : (sc : Scenario) (me : Side) (i : ℕ) (s : Site) → slice_get (of_kind me (before_all sc).sites) i ≡ Some s → (i < count_of me sc.sizes) × (fresh_site sc.sizes me ≡ s)
is-fresh sc me i s e =
    let lt = slice_get_within (of_kind me (before_all sc).sites) i s e in
    let many : length (of_kind me (before_all sc).sites) ≡ count_of me sc.sizes = first-counts sc.sizes (λ me i. fresh_site sc.sizes me) me in
    let within : i < count_of me sc.sizes = omega (arith, lt, many) in
    (within, same_Some (fresh_site sc.sizes me) s (sym (get-made sc.sizes (λ me i. fresh_site sc.sizes me) me i within) ∙ e))

all-run : (sc : Scenario) (me : Side) (r : ℕ) → IsShape sc.sizes → r ≡ set_of (λ i. nat_lt i (count_of me sc.sizes)) → AreRunning me r (before_all sc).sites
all-run sc me r shape is i s e =
    let its = is-fresh sc me i s e in
    let within = its.0 in
    let few = few-nodes sc me shape in
    let low : i < 16 = omega (arith, within, few) in
    let inside : nat_lt i (count_of me sc.sizes) ≡ true = grind (arith, nat_tests, within) in
    ap (λ r. has r i) is ∙ has-set_of i (λ i. nat_lt i (count_of me sc.sizes)) low ∙ inside ∙ ap (λ (s : Site). s.runs) its.1

no-more : (sc : Scenario) (me : Side) (r i : ℕ) → r ≡ set_of (λ i. nat_lt i (count_of me sc.sizes)) → has r i ≡ true → i < count_of me sc.sizes
no-more sc me r i is inside =
    let e : has (set_of (λ i. nat_lt i (count_of me sc.sizes))) i ≡ true = ap (λ r. has r i) (sym is) ∙ inside in
    elim (cases_lt i 16) [
      | inl low ↦ ltb-true i (count_of me sc.sizes) (sym (has-set_of i (λ i. nat_lt i (count_of me sc.sizes)) low) ∙ e)
      | inr ge ↦ absurd (let never : false ≡ true = sym (has_above (set_of (λ i. nat_lt i (count_of me sc.sizes))) i (set_of-lt (λ i. nat_lt i (count_of me sc.sizes))) ge) ∙ e in cc)
    ]

pub before-surrounds : (sc : Scenario) (scene : Scene) (room : ℕ) → IsShape sc.sizes → scene.agenda ≡ each_of sc.sizes (λ side i. empty_lane room)
    → most_pending sc Biu + length sc.says + 1 ≤ room → most_pending sc Rmu + length sc.says + 1 ≤ room → Holds sc scene.book (first_world sc)
    → HoldsPorts sc scene.ports.items (map (port_at sc []) (numbers sc.sizes.bius)) → scene.running_biu ≡ set_of (λ i. nat_lt i sc.sizes.bius)
    → scene.running_rmu ≡ set_of (λ i. nat_lt i sc.sizes.rmus) → Surrounds sc scene (before_all sc)
unfolding first_world
before-surrounds sc scene room shape agenda bius rmus book ports biu rmu = record {
  counts = first-counts sc.sizes (λ me i. fresh_site sc.sizes me);
  lanes = subst (λ ls. HoldsSites sc.sizes ls (before_all sc).sites) (sym agenda)
      (record { shape = shape; bius = holds-empty sc.sizes Biu room (numbers sc.sizes.bius); rmus = holds-empty sc.sizes Rmu room (numbers sc.sizes.rmus) });
  rooms = subst (HaveRooms sc) (sym agenda)
      (record { bius = rooms-empty sc Biu room (numbers sc.sizes.bius) bius; rmus = rooms-empty sc Rmu room (numbers sc.sizes.rmus) rmus });
  book = same-shown sc scene.book (first_world sc) (before_all sc) book refl
      (shows-first (λ s. s.row) (λ sc me i more s. refl) (λ s. refl) sc) (shows-first (λ s. s.begun) (λ sc me i more s. refl) (λ s. refl) sc);
  ports = ports;
  running = runs;
  within = within;
}
  where
    runs : (side : Side) → AreRunning side (running_of side scene) (before_all sc).sites
    runs Biu = all-run sc Biu scene.running_biu shape biu
    runs Rmu = all-run sc Rmu scene.running_rmu shape rmu

    within : (side : Side) (n : ℕ) → has (running_of side scene) n ≡ true → n < count_of side sc.sizes
    within Biu n = no-more sc Biu scene.running_biu n biu
    within Rmu n = no-more sc Rmu scene.running_rmu n rmu

-- All nodes have begun.

begun-rest : (sc : Scenario) (me : Side) (n : ℕ) (w : World) → with_begun sc me n w ≡ record w { sites = (with_begun sc me n w).sites }
unfolding with_begun
begun-rest sc me zero w = refl
begun-rest sc me (suc n) w = ap (λ (x : World). record x { sites = at_node me n (proceed sc me n) (with_begun sc me n w).sites }) (begun-rest sc me n w)

pub kept-none : (o : Option Site) → option_map (λ s. s) o ≡ o
kept-none None = refl
kept-none (Some s) = refl

begun-other : (sc : Scenario) (me : Side) (n i : ℕ) (w : World) → slice_get (of_kind (other me) (with_begun sc me n w).sites) i ≡ slice_get (of_kind (other me) w.sites) i
unfolding with_begun
begun-other sc me zero i w = refl
begun-other sc me (suc n) i w =
    get-at me (other me) n i (proceed sc me n) (with_begun sc me n w).sites
    ∙ ap (λ (b : Bool). option_map (λ s. elim b as (λ _. Site) [ true ↦ proceed sc me n s | false ↦ s ]) (slice_get (of_kind (other me) (with_begun sc me n w).sites) i)) (not-other me n i)
    ∙ kept-none (slice_get (of_kind (other me) (with_begun sc me n w).sites) i) ∙ begun-other sc me n i w

begun-count : (sc : Scenario) (me side : Side) (n : ℕ) (w : World) → length (of_kind side (with_begun sc me n w).sites) ≡ length (of_kind side w.sites)
unfolding with_begun
begun-count sc me side zero w = refl
begun-count sc me side (suc n) w = counts-one me side n (proceed sc me n) (with_begun sc me n w).sites ∙ begun-count sc me side n w

-- node n is as before until it begins, and afterwards it has begun
begun-later : (sc : Scenario) (me : Side) (n i : ℕ) (w : World) → n ≤ i → slice_get (of_kind me (with_begun sc me n w).sites) i ≡ slice_get (of_kind me w.sites) i
unfolding with_begun
begun-later sc me zero i w le = refl
begun-later sc me (suc n) i w le =
    get-at me me n i (proceed sc me n) (with_begun sc me n w).sites
    ∙ ap (λ (b : Bool). option_map (λ s. elim b as (λ _. Site) [ true ↦ proceed sc me n s | false ↦ s ]) (slice_get (of_kind me (with_begun sc me n w).sites) i))
    (apart me n i (λ same. omega (arith, le, same)))
    ∙ kept-none (slice_get (of_kind me (with_begun sc me n w).sites) i) ∙ begun-later sc me n i w (omega (arith, le))

begun-there : (sc : Scenario) (me : Side) (n i : ℕ) (w : World) → i < n → slice_get (of_kind me (with_begun sc me n w).sites) i ≡ option_map (proceed sc me i) (slice_get (of_kind me w.sites) i)
unfolding with_begun
begun-there sc me zero i w below = absurd (omega (arith, below))
begun-there sc me (suc n) i w below = elim (cases_lt i n) [
  | inl lt ↦ get-at me me n i (proceed sc me n) (with_begun sc me n w).sites
      ∙ ap (λ (b : Bool). option_map (λ s. elim b as (λ _. Site) [ true ↦ proceed sc me n s | false ↦ s ]) (slice_get (of_kind me (with_begun sc me n w).sites) i))
      (apart me n i (λ same. omega (arith, lt, same)))
      ∙ kept-none (slice_get (of_kind me (with_begun sc me n w).sites) i) ∙ begun-there sc me n i w lt
  | inr ge ↦
      let same : n ≡ i = omega (arith, below, ge) in
      subst (λ i. slice_get (of_kind me (at_node me n (proceed sc me n) (with_begun sc me n w).sites)) i ≡ option_map (proceed sc me i) (slice_get (of_kind me w.sites) i)) same
      (get-at me me n n (proceed sc me n) (with_begun sc me n w).sites
      ∙ ap (λ (b : Bool). option_map (λ s. elim b as (λ _. Site) [ true ↦ proceed sc me n s | false ↦ s ]) (slice_get (of_kind me (with_begun sc me n w).sites) n)) (node-itself me n)
      ∙ ap (option_map (proceed sc me n)) (begun-later sc me n n w (omega arith)))
]

pub same-lists : (xs ys : List Site) → ((i : ℕ) → slice_get xs i ≡ slice_get ys i) → xs ≡ ys
same-lists [] [] h = refl
same-lists [] (y ∷ ys) h = none_not_some y (h 0)
same-lists (x ∷ xs) [] h = none_not_some x (sym (h 0))
same-lists (x ∷ xs) (y ∷ ys) h = ap (λ z. z ∷ xs) (same_Some x y (h 0)) ∙ ap (λ zs. y ∷ zs) (same-lists xs ys (λ i. h (suc i)))

-- if all nodes of a kind have begun, their sites are those of the first world
all-begun : (sc : Scenario) (me : Side) (w : World) → of_kind me w.sites ≡ of_kind me (before_all sc).sites
    → of_kind me (with_begun sc me (count_of me sc.sizes) w).sites ≡ of_kind me (first_world sc).sites
unfolding first_world
all-begun sc me w fresh = same-lists (of_kind me (with_begun sc me (count_of me sc.sizes) w).sites) (of_kind me (each_of sc.sizes (λ me i. proceed sc me i (fresh_site sc.sizes me)))) at
  where
    at : (i : ℕ) → slice_get (of_kind me (with_begun sc me (count_of me sc.sizes) w).sites) i ≡ slice_get (of_kind me (each_of sc.sizes (λ me i. proceed sc me i (fresh_site sc.sizes me)))) i
    at i = elim (cases_lt i (count_of me sc.sizes)) [
      | inl lt ↦ begun-there sc me (count_of me sc.sizes) i w lt ∙ ap (λ xs. option_map (proceed sc me i) (slice_get xs i)) fresh
          ∙ ap (option_map (proceed sc me i)) (get-made sc.sizes (λ me i. fresh_site sc.sizes me) me i lt) ∙ sym (get-made sc.sizes (λ me i. proceed sc me i (fresh_site sc.sizes me)) me i lt)
      | inr ge ↦
          let many = begun-count sc me me (count_of me sc.sizes) w ∙ ap length fresh ∙ first-counts sc.sizes (λ me i. fresh_site sc.sizes me) me in
          let all : length (of_kind me (each_of sc.sizes (λ me i. proceed sc me i (fresh_site sc.sizes me)))) ≡ count_of me sc.sizes = first-counts sc.sizes (λ me i. proceed sc me i (fresh_site sc.sizes me)) me in
          slice_get_past (of_kind me (with_begun sc me (count_of me sc.sizes) w).sites) i (omega (arith, ge, many))
          ∙ sym (slice_get_past (of_kind me (each_of sc.sizes (λ me i. proceed sc me i (fresh_site sc.sizes me)))) i (omega (arith, ge, all)))
    ]

-- the BIUs begin first, and then the RMUs
pub both-begun : (sc : Scenario) → with_begun sc Rmu sc.sizes.rmus (with_begun sc Biu sc.sizes.bius (before_all sc)) ≡ first_world sc
both-begun sc =
    let one : World = with_begun sc Biu sc.sizes.bius (before_all sc) in
    let two : World = with_begun sc Rmu sc.sizes.rmus one in
    let bius : two.sites.bius ≡ (first_world sc).sites.bius =
    same-lists two.sites.bius one.sites.bius (λ i. begun-other sc Rmu sc.sizes.rmus i one) ∙ all-begun sc Biu (before_all sc) refl in
    let rmus : two.sites.rmus ≡ (first_world sc).sites.rmus =
    all-begun sc Rmu one (same-lists one.sites.rmus (before_all sc).sites.rmus (λ i. begun-other sc Biu sc.sizes.bius i (before_all sc))) in
    begun-rest sc Rmu sc.sizes.rmus one ∙ ap (λ (x : World). record x { sites = two.sites }) (begun-rest sc Biu sc.sizes.bius (before_all sc))
    ∙ ap (λ (bs : List Site). record (first_world sc) { sites = record { bius = bs; rmus = two.sites.rmus } }) bius
    ∙ ap (λ (rs : List Site). record (first_world sc) { sites = record { bius = (first_world sc).sites.bius; rmus = rs } }) rmus

-- the BIUs may begin
pub bius-may : (sc : Scenario) (scene : Scene) → IsLawful sc → IsListed sc → Surrounds sc scene (before_all sc) → MayBegin sc Biu scene (before_all sc)
bius-may sc scene lawful listed is = record { lawful = lawful; listed = listed; surrounds = is; fresh = get-made sc.sizes (λ me i. fresh_site sc.sizes me) Biu }

pub rmus-may : (sc : Scenario) (kept : List KeptSite) (scene : Scene) (n : ℕ) → IsLawful sc → IsListed sc → HaveBegun sc Biu n kept scene (before_all sc) → MayBegin sc Rmu scene (with_begun sc Biu n (before_all sc))
rmus-may sc kept scene n lawful listed is =
    record { lawful = lawful; listed = listed; surrounds = is.surrounds; fresh = λ i below. begun-other sc Biu n i (before_all sc) ∙ get-made sc.sizes (λ me i. fresh_site sc.sizes me) Rmu i below }

begun-nodes : (sc : Scenario) (me : Side) (kept : List KeptSite) (scene : Scene) (w : World) → HaveBegun sc me (count_of me sc.sizes) kept scene w → AreNodes sc me kept (of_kind me (first_world sc).sites)
unfolding first_world
begun-nodes sc me kept scene w is = record {
  many = is.many;
  each = λ i k s here there.
      let many = is.many in
      let lt = slice_get_within kept i k here in
      let within : i < count_of me sc.sizes = omega (arith, lt, many) in
      subst (IsNode sc me i k) (same_Some (proceed sc me i (fresh_site sc.sizes me)) s (sym (get-made sc.sizes (λ me i. proceed sc me i (fresh_site sc.sizes me)) me i within) ∙ there)) (is.begun i k within here);
}

pub first-stands : (sc : Scenario) (lists : listed_by sc ≡ sc.behavior) (bius rmus : List KeptSite) (between scene : Scene) (draws : Seeding) → IsLawful sc → IsListed sc → HaveBegun sc Biu sc.sizes.bius bius between (before_all sc)
    → HaveBegun sc Rmu sc.sizes.rmus rmus scene (with_begun sc Biu sc.sizes.bius (before_all sc))
    → Stands (record { bus = sc; lists = lists; nodes = record { bius = bius; rmus = rmus }; scene = scene; seeding = draws; last = last.Quiet }) (first_world sc)
unfolding first_world
first-stands sc lists bius rmus between scene draws lawful listed one two = record {
  lawful = lawful;
  listed = listed;
  reached = record { choices = []; is = refl };
  nodes = nodes;
  scene = subst (Surrounds sc scene) (both-begun sc) two.surrounds;
  last = refl;
}
  where
    nodes : (me : Side) → AreNodes sc me (of_kind me (record { bius = bius; rmus = rmus })) (of_kind me (first_world sc).sites)
    nodes Biu = begun-nodes sc Biu bius between (before_all sc) one
    nodes Rmu = begun-nodes sc Rmu rmus scene (with_begun sc Biu sc.sizes.bius (before_all sc)) two

-- The steps, as they are taken.

pub rmus-next : (sc : Scenario) (kept : List KeptSite) (scene : Scene) (n : ℕ) → IsLawful sc → IsListed sc → HaveBegun sc Biu n kept scene (before_all sc) → (w : World) × MayBegin sc Rmu scene w
rmus-next sc kept scene n lawful listed is = (with_begun sc Biu n (before_all sc), rmus-may sc kept scene n lawful listed is)

pub opened : (sc : Scenario) (lists : listed_by sc ≡ sc.behavior) (bius rmus : List KeptSite) (between scene : Scene) (draws : Seeding) (n m : ℕ) → IsLawful sc → IsListed sc → n ≡ sc.sizes.bius → m ≡ sc.sizes.rmus
    → HaveBegun sc Biu n bius between (before_all sc) → ((w : World) → MayBegin sc Rmu between w → HaveBegun sc Rmu m rmus scene w)
    → Stands (record { bus = sc; lists = lists; nodes = record { bius = bius; rmus = rmus }; scene = scene; seeding = draws; last = last.Quiet }) (first_world sc)
opened sc lists bius rmus between scene draws n m lawful listed all_bius all_rmus one two =
    let first : HaveBegun sc Biu sc.sizes.bius bius between (before_all sc) = subst (λ n. HaveBegun sc Biu n bius between (before_all sc)) all_bius one in
    let w : World = with_begun sc Biu sc.sizes.bius (before_all sc) in
    first-stands sc lists bius rmus between scene draws lawful listed first
    (subst (λ m. HaveBegun sc Rmu m rmus scene w) all_rmus (two w (rmus-may sc bius between sc.sizes.bius lawful listed first)))
