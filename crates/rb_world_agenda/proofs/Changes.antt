-- One node's lane and site change, and those of no other.
use Rattle.std.proofs.{Common.{◌≡◌, ℕ, zero, suc, ◌+◌, ◌<◌, ◌==◌, ◌&&◌, Bool, true, false, Some, None, List, [], ◌∷◌, ◌++◌, All, length, slice_get, refl, sym, ap, ◌∙◌, subst, arith}, lemmas.Bool.Decides.nat_tests, lemmas.List.Elements.{All-append, All-cons, All-nil}}
use Rattle.std.specs.Prelude.{option_map, unwrap_or, slice_set}
use Rattle.rb_base.specs.{Nodes.{Side, other}, Nodes.Side.{Biu, Rmu}, Sizes.Sizes}
use Rattle.rb_base.proofs.Plain.{eq_self, more-differs}
use Rattle.rb_rules.specs.{Book.{Each, map_from, of_kind}, Links.name_of, WorldStep.{Site, Timed, at_node}, Hearing.Coming, Slots.count_of}
use Rattle.rb_queue.specs.Waiting.{HasLane, Held, empty_lane, lane_of, with_arrival, with_lane, with_tick, without_events}
use Rattle.rb_world_agenda.specs.Holding.{HoldsAll, HoldsSite, HoldsSites}

-- the site with number `n` after the change, if it is of this kind
abbrev changed : Bool → ℕ → (Site → Site) → ℕ → Site → Site
changed kind n change m s = elim (kind && (m == n)) [ true ↦ change s | false ↦ s ]

other-kind : (n i : ℕ) (change : Site → Site) (ss : List Site) → map_from i (changed false n change) ss ≡ ss
other-kind n i change [] = refl
other-kind n i change (s ∷ ss) = ap (λ l. s ∷ l) (other-kind n (i + 1) change ss)

others : (n i : ℕ) (change : Site → Site) (ss : List Site) → n < i → map_from i (changed true n change) ss ≡ ss
others n i change [] h = refl
others n i change (s ∷ ss) h =
    ap (λ b. elim b as (λ _. Site) [ true ↦ change s | false ↦ s ] ∷ map_from (i + 1) (changed true n change) ss) (more-differs i n h)
    ∙ ap (λ l. s ∷ l) (others n (i + 1) change ss (omega arith))

-- each lane of a list holds its site after the change
holds-list : (sizes : Sizes) (me : Side) (new : Held) (change : Site → Site) (ls : List Held) (ss : List Site) (i n m : ℕ) → m ≡ i + n → HoldsAll sizes me ls ss
    → n < length ls
    → ((s : Site) → slice_get ss n ≡ Some s → HoldsSite sizes me (unwrap_or (slice_get ls n) (empty_lane 0)) s → HoldsSite sizes me new (change s))
    → HoldsAll sizes me (slice_set ls n new) (map_from i (changed true m change) ss)
holds-list sizes me new change [] ss i n m at holds h step = absurd (omega arith)
holds-list sizes me new change (l ∷ ls) [] i n m at holds h step = absurd holds
holds-list sizes me new change (l ∷ ls) (s ∷ ss) i zero m at holds h step =
    let same : i ≡ m = omega arith in
    let head : ◌≡◌ {A = Site} (elim (i == m) as (λ _. Site) [ true ↦ change s | false ↦ s ]) (change s) =
    ap (λ j. elim (j == m) as (λ _. Site) [ true ↦ change s | false ↦ s ]) same ∙ ap (λ b. elim b as (λ _. Site) [ true ↦ change s | false ↦ s ]) (eq_self m) in
    (subst (HoldsSite sizes me new) (sym head) (step s refl holds.0), subst (HoldsAll sizes me ls) (sym (others m (i + 1) change ss (omega arith))) holds.1)
holds-list sizes me new change (l ∷ ls) (s ∷ ss) i (suc n) m at holds h step =
    let apart : (i == m) ≡ false = grind (arith, nat_tests) in
    let head : ◌≡◌ {A = Site} (elim (i == m) as (λ _. Site) [ true ↦ change s | false ↦ s ]) s =
    ap (λ b. elim b as (λ _. Site) [ true ↦ change s | false ↦ s ]) apart in
    (subst (HoldsSite sizes me l) (sym head) holds.0, holds-list sizes me new change ls ss (i + 1) n m (omega arith) holds.1 (omega arith) step)

-- if the lane and the site of a node change together, the lanes still hold the sites
pub holds-at : (sizes : Sizes) (lanes : Each Held) (sites : Each Site) (me : Side) (n : ℕ) (new : Held) (change : Site → Site) → HoldsSites sizes lanes sites
    → HasLane lanes (name_of me n)
    → ((s : Site) → slice_get (of_kind me sites) n ≡ Some s → HoldsSite sizes me (lane_of lanes (name_of me n)) s → HoldsSite sizes me new (change s))
    → HoldsSites sizes (with_lane (name_of me n) new lanes) (at_node me n change sites)
holds-at sizes lanes sites Biu n new change holds h step = record {
  shape = holds.shape;
  bius = holds-list sizes Biu new change lanes.bius sites.bius 0 n n (omega arith) holds.bius h step;
  rmus = subst (HoldsAll sizes Rmu lanes.rmus) (sym (other-kind n 0 change sites.rmus)) holds.rmus;
}
holds-at sizes lanes sites Rmu n new change holds h step = record {
  shape = holds.shape;
  bius = subst (HoldsAll sizes Biu lanes.bius) (sym (other-kind n 0 change sites.bius)) holds.bius;
  rmus = holds-list sizes Rmu new change lanes.rmus sites.rmus 0 n n (omega arith) holds.rmus h step;
}

-- One more, or none.

-- the lane holds the site after an arrival is pushed
pub holds-arrival : (sizes : Sizes) (me : Side) (lane : Held) (s : Site) (c : Coming) → HoldsSite sizes me lane s → c.from < count_of (other me) sizes
    → HoldsSite sizes me (with_arrival c lane) (record s { coming = s.coming ++ c ∷ [] })
holds-arrival sizes me lane s c holds small = record {
  coming = ap (λ cs. cs ++ c ∷ []) holds.coming;
  ahead = holds.ahead;
  senders = All-append (λ c. c.from < count_of (other me) sizes) s.coming (c ∷ []) holds.senders
      (All-cons (λ c. c.from < count_of (other me) sizes) c [] small (All-nil (λ c. c.from < count_of (other me) sizes)));
}

-- the lane holds the site after a tick becomes pending
pub holds-tick : (sizes : Sizes) (me : Side) (lane : Held) (s : Site) (a : Timed) → HoldsSite sizes me lane s
    → HoldsSite sizes me (with_tick a.time lane) (record s { ahead = Some a })
holds-tick sizes me lane s a holds = record { coming = holds.coming; ahead = refl; senders = holds.senders }

-- a lane without events holds a site at which nothing is pending
pub holds-nothing : (sizes : Sizes) (me : Side) (lane : Held) (s : Site) → s.ahead ≡ None → s.coming ≡ [] → HoldsSite sizes me (without_events lane) s
holds-nothing sizes me lane s no_tick nothing = record {
  coming = sym nothing;
  ahead = sym (ap (λ o. option_map (λ a. a.time) o) no_tick);
  senders = subst (All (λ c. c.from < count_of (other me) sizes)) (sym nothing) (All-nil (λ c. c.from < count_of (other me) sizes));
}
