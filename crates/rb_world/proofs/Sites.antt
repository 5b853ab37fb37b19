-- One site of a world changes, and what then stays.
use Rattle.std.proofs.Common.{◌≡◌, ℕ, suc, ◌+◌, ◌<◌, ◌==◌, ◌&&◌, Bool, true, false, Some, None, Option, All, List, [], ◌∷◌, length, map, slice_get, refl, sym, ap, ◌∙◌, subst, arith}
use Rattle.std.specs.Prelude.{option_map}
use Rattle.rb_base.specs.{Nodes.{Side, other}, Nodes.Side.{Biu, Rmu}, Sizes.Sizes}
use Rattle.rb_rules.specs.{Book.{Each, map_each, map_from, of_kind}, Hearing.Coming, Slots.{count_of, same_side}, WorldStep.{Site, Timed, at_node}}
use Rattle.rb_rules.proofs.WindowNumbers.{length-each}
use Rattle.rb_queue.specs.Waiting.{Held}
use Rattle.rb_world_agenda.specs.Holding.{HoldsAll, HoldsSite, HoldsSites}
use Rattle.rb_laws_events.proofs.WorldStands.{get-at, is_node, node-is}
use Rattle.rb_world_traffic.specs.Arriving.{AreRunning}

-- All sites change.

-- a change that leaves what each site shows leaves what all sites show
shows-list : {Y : Type 0} (h : Site → Y) (k : ℕ) (f : ℕ → Site → Site) (xs : List Site) → ((n : ℕ) (s : Site) → h (f n s) ≡ h s)
    → map h (map_from k f xs) ≡ map h xs
shows-list h k f [] same = refl
shows-list h k f (x ∷ xs) same = ap (λ y. y ∷ map h (map_from (k + 1) f xs)) (same k x) ∙ ap (λ l. h x ∷ l) (shows-list h (k + 1) f xs same)

pub shows-each : {Y : Type 0} (h : Site → Y) (f : Side → ℕ → Site → Site) (sites : Each Site) → ((side : Side) (n : ℕ) (s : Site) → h (f side n s) ≡ h s)
    → (kind : Side) → map h (of_kind kind (map_each f sites)) ≡ map h (of_kind kind sites)
shows-each h f sites same Biu = shows-list h 0 (f Biu) sites.bius (same Biu)
shows-each h f sites same Rmu = shows-list h 0 (f Rmu) sites.rmus (same Rmu)

-- lanes that hold the sites hold them after a change that leaves what each lane holds
holds-list : (sizes : Sizes) (me : Side) (k : ℕ) (f : ℕ → Site → Site) (ls : List Held) (xs : List Site)
    → ((n : ℕ) (s : Site) (l : Held) → HoldsSite sizes me l s → HoldsSite sizes me l (f n s)) → HoldsAll sizes me ls xs → HoldsAll sizes me ls (map_from k f xs)
holds-list sizes me k f [] [] same h = h
holds-list sizes me k f [] (x ∷ xs) same h = absurd h
holds-list sizes me k f (l ∷ ls) [] same h = absurd h
holds-list sizes me k f (l ∷ ls) (x ∷ xs) same h = (same k x l h.0, holds-list sizes me (k + 1) f ls xs same h.1)

abbrev HeldTick : Held → Option Timed → Type 0
HeldTick l a = l.tick ≡ option_map (λ t. t.time) a

abbrev AreSenders : Sizes → Side → List Coming → Type 0
AreSenders sizes me coming = All (λ c. c.from < count_of (other me) sizes) coming

pub holds-site : (sizes : Sizes) (me : Side) (l : Held) (s z : Site) → z.coming ≡ s.coming → z.ahead ≡ s.ahead → HoldsSite sizes me l s → HoldsSite sizes me l z
holds-site sizes me l s z coming ahead h = record {
  coming = h.coming ∙ sym coming;
  ahead = subst (HeldTick l) (sym ahead) h.ahead;
  senders = subst (AreSenders sizes me) (sym coming) h.senders;
}

-- One site changes.

-- the site of node `n` after the change at node `i` of kind `me`
abbrev pub at_one : Side → ℕ → (Site → Site) → Side → ℕ → Site → Site
at_one me i change side n s = elim (same_side side me && (n == i)) [ true ↦ change s | false ↦ s ]

pub one-keeps : {Y : Type 0} (h : Site → Y) (me : Side) (i : ℕ) (change : Site → Site) → ((s : Site) → h (change s) ≡ h s) → (side : Side) (n : ℕ) (s : Site)
    → h (at_one me i change side n s) ≡ h s
one-keeps h me i change same side n s = go (same_side side me && (n == i))
  where
    go : (b : Bool) → h (elim b as (λ _. Site) [ true ↦ change s | false ↦ s ]) ≡ h s
    go true = same s
    go false = refl

pub shows-one : {Y : Type 0} (h : Site → Y) (me : Side) (i : ℕ) (change : Site → Site) (sites : Each Site) → ((s : Site) → h (change s) ≡ h s)
    → (kind : Side) → map h (of_kind kind (at_node me i change sites)) ≡ map h (of_kind kind sites)
shows-one h me i change sites same = shows-each h (at_one me i change) sites (one-keeps h me i change same)

pub holds-one : (sizes : Sizes) (lanes : Each Held) (sites : Each Site) (me : Side) (i : ℕ) (change : Site → Site) → ((s : Site) → (change s).coming ≡ s.coming)
    → ((s : Site) → (change s).ahead ≡ s.ahead) → HoldsSites sizes lanes sites → HoldsSites sizes lanes (at_node me i change sites)
holds-one sizes lanes sites me i change coming ahead h = record {
  shape = h.shape;
  bius = holds-list sizes Biu 0 (at_one me i change Biu) lanes.bius sites.bius (keeps Biu) h.bius;
  rmus = holds-list sizes Rmu 0 (at_one me i change Rmu) lanes.rmus sites.rmus (keeps Rmu) h.rmus;
}
  where
    keeps : (side : Side) (n : ℕ) (s : Site) (l : Held) → HoldsSite sizes side l s → HoldsSite sizes side l (at_one me i change side n s)
    keeps side n s l = holds-site sizes side l s (at_one me i change side n s) (one-keeps (λ s. s.coming) me i change coming side n s)
        (one-keeps (λ s. s.ahead) me i change ahead side n s)

pub counts-one : (me side : Side) (i : ℕ) (change : Site → Site) (sites : Each Site) → length (of_kind side (at_node me i change sites)) ≡ length (of_kind side sites)
counts-one me side i change sites = length-each (at_one me i change) sites side

-- A site afterwards.

pub from-map : {X Y : Type 0} (f : X → Y) (o : Option X) (y : Y) → option_map f o ≡ Some y → (x : X) × (o ≡ Some x) × (f x ≡ y)
from-map f None y e = absurd (cc)
from-map f (Some x) y e = (x, refl, let same : f x ≡ y = cc in same)

-- the site was there before, and it has changed if it is that of node `i`
pub record WasThere (me : Side) (i : ℕ) (change : Site → Site) (sites : Each Site) (side : Side) (n : ℕ) (z : Site) : Type 0 where
  pub site : Site
  pub there : slice_get (of_kind side sites) n ≡ Some site
  pub is : at_one me i change side n site ≡ z

pub was-there : (me : Side) (i : ℕ) (change : Site → Site) (sites : Each Site) (side : Side) (n : ℕ) (z : Site) → slice_get (of_kind side (at_node me i change sites)) n ≡ Some z
    → WasThere me i change sites side n z
was-there me i change sites side n z e =
    let found = from-map (at_one me i change side n) (slice_get (of_kind side sites) n) z (sym (get-at me side i n change sites) ∙ e) in
    record { site = found.0; there = found.1; is = found.2 }

pub running-one : (side : Side) (running : ℕ) (sites : Each Site) (me : Side) (i : ℕ) (change : Site → Site) → ((s : Site) → (change s).runs ≡ s.runs)
    → AreRunning side running sites → AreRunning side running (at_node me i change sites)
running-one side running sites me i change same runs n z e =
    let was = was-there me i change sites side n z e in
    runs n was.site was.there ∙ sym (one-keeps (λ s. s.runs) me i change same side n was.site) ∙ ap (λ (s : Site). s.runs) was.is

-- Changes in a row.

twice-list : (b : ℕ → Bool) (f g : Site → Site) (k : ℕ) (xs : List Site)
    → map_from k (λ n s. elim (b n) as (λ _. Site) [ true ↦ f s | false ↦ s ]) (map_from k (λ n s. elim (b n) as (λ _. Site) [ true ↦ g s | false ↦ s ]) xs)
    ≡ map_from k (λ n s. elim (b n) as (λ _. Site) [ true ↦ f (g s) | false ↦ s ]) xs
twice-list b f g k [] = refl
twice-list b f g k (x ∷ xs) =
    ap (λ y. y ∷ map_from (k + 1) (λ n s. elim (b n) as (λ _. Site) [ true ↦ f s | false ↦ s ]) (map_from (k + 1) (λ n s. elim (b n) as (λ _. Site) [ true ↦ g s | false ↦ s ]) xs)) (go (b k))
    ∙ ap (λ l. (elim (b k) as (λ _. Site) [ true ↦ f (g x) | false ↦ x ]) ∷ l) (twice-list b f g (k + 1) xs)
  where
    go : (c : Bool) → ◌≡◌ {A = Site} (elim c as (λ _. Site) [ true ↦ f (elim c as (λ _. Site) [ true ↦ g x | false ↦ x ]) | false ↦ elim c as (λ _. Site) [ true ↦ g x | false ↦ x ] ])
        (elim c as (λ _. Site) [ true ↦ f (g x) | false ↦ x ])
    go true = refl
    go false = refl

pub at-twice : (me : Side) (i : ℕ) (f g : Site → Site) (sites : Each Site) → at_node me i f (at_node me i g sites) ≡ at_node me i (λ s. f (g s)) sites
at-twice me i f g sites =
    let b : List Site = map_from 0 (at_one me i (λ s. f (g s)) Biu) sites.bius in
    let r : List Site = map_from 0 (at_one me i f Rmu) (map_from 0 (at_one me i g Rmu) sites.rmus) in
    ap (λ (xs : List Site). record { bius = xs; rmus = r }) (twice-list (λ n. same_side Biu me && (n == i)) f g 0 sites.bius)
    ∙ ap (λ (xs : List Site). record { bius = b; rmus = xs }) (twice-list (λ n. same_side Rmu me && (n == i)) f g 0 sites.rmus)

-- a change that changes nothing leaves the list
id-list : (b : ℕ → Bool) (k : ℕ) (xs : List Site) → map_from k (λ n s. elim (b n) as (λ _. Site) [ true ↦ s | false ↦ s ]) xs ≡ xs
id-list b k [] = refl
id-list b k (x ∷ xs) =
    ap (λ y. y ∷ map_from (k + 1) (λ n s. elim (b n) as (λ _. Site) [ true ↦ s | false ↦ s ]) xs) (go (b k)) ∙ ap (λ l. x ∷ l) (id-list b (k + 1) xs)
  where
    go : (c : Bool) → ◌≡◌ {A = Site} (elim c as (λ _. Site) [ true ↦ x | false ↦ x ]) x
    go true = refl
    go false = refl

pub at-id : (me : Side) (i : ℕ) (sites : Each Site) → at_node me i (λ s. s) sites ≡ sites
at-id me i sites =
    let r : List Site = map_from 0 (at_one me i (λ s. s) Rmu) sites.rmus in
    ap (λ (xs : List Site). record { bius = xs; rmus = r }) (id-list (λ n. same_side Biu me && (n == i)) 0 sites.bius)
    ∙ ap (λ (xs : List Site). record { bius = sites.bius; rmus = xs }) (id-list (λ n. same_side Rmu me && (n == i)) 0 sites.rmus)

same-list : (f g : ℕ → Site → Site) (k : ℕ) (xs : List Site) → ((n : ℕ) (s : Site) → slice_get xs n ≡ Some s → f (k + n) s ≡ g (k + n) s) → map_from k f xs ≡ map_from k g xs
same-list f g k [] same = refl
same-list f g k (x ∷ xs) same =
    let start : k + 0 ≡ k = omega arith in
    ap (λ y. y ∷ map_from (k + 1) f xs) (subst (λ m. f m x ≡ g m x) start (same 0 x refl))
    ∙ ap (λ l. g k x ∷ l) (same-list f g (k + 1) xs (λ n s e. let next : k + suc n ≡ k + 1 + n = omega arith in subst (λ m. f m s ≡ g m s) next (same (suc n) s e)))

-- changes that agree at the node's site give the same sites
pub at-same : (me : Side) (i : ℕ) (f g : Site → Site) (sites : Each Site) → ((s : Site) → slice_get (of_kind me sites) i ≡ Some s → f s ≡ g s)
    → at_node me i f sites ≡ at_node me i g sites
at-same me i f g sites same =
    ap (λ (xs : List Site). record { bius = xs; rmus = map_from 0 (at_one me i f Rmu) sites.rmus }) (same-list (at_one me i f Biu) (at_one me i g Biu) 0 sites.bius (each Biu))
    ∙ ap (λ (xs : List Site). record { bius = map_from 0 (at_one me i g Biu) sites.bius; rmus = xs }) (same-list (at_one me i f Rmu) (at_one me i g Rmu) 0 sites.rmus (each Rmu))
  where
    pick : (side : Side) (n : ℕ) (s : Site) → slice_get (of_kind side sites) n ≡ Some s → (b : Bool) → is_node me i side n ≡ b
        → ◌≡◌ {A = Site} (elim b as (λ _. Site) [ true ↦ f s | false ↦ s ]) (elim b as (λ _. Site) [ true ↦ g s | false ↦ s ])
    pick side n s there true e =
        let its = node-is me side i n e in
        same s (subst (λ m. slice_get (of_kind me sites) m ≡ Some s) its.1 (subst (λ k. slice_get (of_kind k sites) n ≡ Some s) its.0 there))
    pick side n s there false e = refl

    each : (side : Side) (n : ℕ) (s : Site) → slice_get (of_kind side sites) n ≡ Some s → at_one me i f side (0 + n) s ≡ at_one me i g side (0 + n) s
    each side n s there =
        let e : 0 + n ≡ n = omega arith in
        subst (λ m. at_one me i f side m s ≡ at_one me i g side m s) (sym e) (pick side n s there (is_node me i side n) refl)
