-- What is due in all lanes is what is due in the world.
use Rattle.std.proofs.{Common.{◌≡◌, ℕ, ◌+◌, ◌≤◌, Option, Some, None, List, [], ◌∷◌, ◌++◌, length, map, refl, sym, ap, ◌∙◌, arith, length-append}, lemmas.Grind.flat_map-append, lemmas.List.length-map}
use Rattle.std.specs.{Prelude.unwrap_or, List.flat_map}
use Rattle.rb_base.specs.{Nodes.{Side, other}, Nodes.Side.{Biu, Rmu}, Sizes.Sizes}
use Rattle.rb_rules.specs.{Book.{Each, in_order, map_from}, Goodness.Scenario, Slots.count_of, WorldStep.{Due, Site, World, due_at, ready_at}}
use Rattle.rb_queue.specs.Waiting.{Held, head_of}
use Rattle.rb_world_agenda.specs.{Agenda.{due_count, due_in, due_now, first_time, how_many}, Holding.{HoldsAll, HoldsSite, HoldsSites, due_with}}
use Rattle.rb_world_agenda.proofs.{OneNode.ready-is, Heads.{AreLow, AreTimes, IsLow, IsTime, all-low, due-by, first-is, first-time, first_head, key-is, low-itself}}

-- One kind.

-- what may be taken at a site at a time, if there is such a time
abbrev site_due : Sizes → Option ℕ → Side → ℕ → Site → List Due
site_due sizes None me i s = []
site_due sizes (Some t) me i s = ready_at sizes t me i s

-- what is due at the sites of a kind from number `i` on
abbrev sites_due : Sizes → Option ℕ → Side → ℕ → List Site → List Due
sites_due sizes o me i [] = []
sites_due sizes o me i (s ∷ ss) = site_due sizes o me i s ++ sites_due sizes o me (i + 1) ss

-- what is due in the lanes of a kind from number `i` on
unfoldable pub dues_from : ℕ → Side → ℕ → List Held → List Site → List Due
dues_from time me i [] ss = []
dues_from time me i (l ∷ ls) [] = []
dues_from time me i (l ∷ ls) (s ∷ ss) = map (due_with me i s) (due_in time l) ++ dues_from time me (i + 1) ls ss

one-due : (sizes : Sizes) (o : Option ℕ) (me : Side) (i : ℕ) (l : Held) (s : Site) → count_of (other me) sizes ≤ 256 → HoldsSite sizes me l s → IsLow o (head_of l) → IsTime o
    → site_due sizes o me i s ≡ map (due_with me i s) (due_in (unwrap_or o 18446744073709551615) l)
one-due sizes None me i l s few holds low time = ap (map (due_with me i s)) (sym (due-by None (head_of l) l refl low time))
one-due sizes (Some t) me i l s few holds low time =
    ready-is sizes me i t l s few holds ∙ ap (map (due_with me i s)) (sym (due-by (Some t) (head_of l) l refl low time))

all-due : (sizes : Sizes) (o : Option ℕ) (me : Side) (i : ℕ) (ls : List Held) (ss : List Site) → count_of (other me) sizes ≤ 256 → HoldsAll sizes me ls ss → AreLow o ls → IsTime o
    → sites_due sizes o me i ss ≡ dues_from (unwrap_or o 18446744073709551615) me i ls ss
unfolding dues_from
all-due sizes o me i [] [] few holds low time = refl
all-due sizes o me i [] (s ∷ ss) few holds low time = absurd holds
all-due sizes o me i (l ∷ ls) [] few holds low time = absurd holds
all-due sizes o me i (l ∷ ls) (s ∷ ss) few holds low time =
    ap (λ d. d ++ sites_due sizes o me (i + 1) ss) (one-due sizes o me i l s few holds.0 low.0 time)
    ∙ ap (λ d. map (due_with me i s) (due_in (unwrap_or o 18446744073709551615) l) ++ d) (all-due sizes o me (i + 1) ls ss few holds.1 low.1 time)

due-none : (sizes : Sizes) (me : Side) (i : ℕ) (ss : List Site) → sites_due sizes None me i ss ≡ []
due-none sizes me i [] = refl
due-none sizes me i (s ∷ ss) = due-none sizes me (i + 1) ss

due-some : (sizes : Sizes) (t : ℕ) (me : Side) (i : ℕ) (ss : List Site) → flat_map (λ due. due) (map_from i (ready_at sizes t me) ss) ≡ sites_due sizes (Some t) me i ss
due-some sizes t me i [] = refl
due-some sizes t me i (s ∷ ss) = ap (λ d. ready_at sizes t me i s ++ d) (due-some sizes t me (i + 1) ss)

-- Both kinds.
due-sites : (sc : Scenario) (w : World) (o : Option ℕ) → due_at sc w o ≡ sites_due sc.sizes o Biu 0 w.sites.bius ++ sites_due sc.sizes o Rmu 0 w.sites.rmus
due-sites sc w None = sym (ap (λ d. d ++ sites_due sc.sizes None Rmu 0 w.sites.rmus) (due-none sc.sizes Biu 0 w.sites.bius) ∙ due-none sc.sizes Rmu 0 w.sites.rmus)
due-sites sc w (Some t) =
    flat_map-append (λ due. due) (map_from 0 (ready_at sc.sizes t Biu) w.sites.bius) (map_from 0 (ready_at sc.sizes t Rmu) w.sites.rmus)
    ∙ ap (λ d. d ++ flat_map (λ due. due) (map_from 0 (ready_at sc.sizes t Rmu) w.sites.rmus)) (due-some sc.sizes t Biu 0 w.sites.bius)
    ∙ ap (λ d. sites_due sc.sizes (Some t) Biu 0 w.sites.bius ++ d) (due-some sc.sizes t Rmu 0 w.sites.rmus)

low-append : (o : Option ℕ) (ls ms : List Held) → AreLow o (ls ++ ms) → AreLow o ls × AreLow o ms
low-append o [] ms h = (tt, h)
low-append o (l ∷ ls) ms h = let more = low-append o ls ms h.1 in ((h.0, more.0), more.1)

few : {n : ℕ} → n ≤ 16 → n ≤ 256
few h = omega arith

pub due-lanes : (sc : Scenario) (w : World) (lanes : Each Held) → HoldsSites sc.sizes lanes w.sites → AreTimes (in_order lanes)
    → due_now sc w ≡ dues_from (first_time lanes) Biu 0 lanes.bius w.sites.bius ++ dues_from (first_time lanes) Rmu 0 lanes.rmus w.sites.rmus
due-lanes sc w lanes holds times =
    let o : Option ℕ = first_head (in_order lanes) in
    let key : first_time lanes ≡ unwrap_or o 18446744073709551615 = key-is (in_order lanes) times in
    let low = low-append o lanes.bius lanes.rmus (all-low o (in_order lanes) (low-itself o)) in
    let time : IsTime o = first-time (in_order lanes) times in
    ap (due_at sc w) (first-is sc.sizes lanes w.sites holds) ∙ due-sites sc w o
    ∙ ap (λ d. d ++ sites_due sc.sizes o Rmu 0 w.sites.rmus) (all-due sc.sizes o Biu 0 lanes.bius w.sites.bius (few holds.shape.most_rmus) holds.bius low.0 time)
    ∙ ap (λ d. dues_from (unwrap_or o 18446744073709551615) Biu 0 lanes.bius w.sites.bius ++ d) (all-due sc.sizes o Rmu 0 lanes.rmus w.sites.rmus (few holds.shape.most_bius) holds.rmus low.1 time)
    ∙ ap (λ k. dues_from k Biu 0 lanes.bius w.sites.bius ++ dues_from k Rmu 0 lanes.rmus w.sites.rmus) (sym key)

-- How many.
pub count-append : (t : ℕ) (ls ms : List Held) → due_count t (ls ++ ms) ≡ due_count t ls + due_count t ms
unfolding due_count
count-append t [] ms = omega arith
count-append t (l ∷ ls) ms = omega (arith, count-append t ls ms)

pub length-dues : (sizes : Sizes) (t : ℕ) (me : Side) (i : ℕ) (ls : List Held) (ss : List Site) → HoldsAll sizes me ls ss → length (dues_from t me i ls ss) ≡ due_count t ls
unfolding dues_from due_count
length-dues sizes t me i [] ss holds = refl
length-dues sizes t me i (l ∷ ls) [] holds = absurd holds
length-dues sizes t me i (l ∷ ls) (s ∷ ss) holds =
    length-append (map (due_with me i s) (due_in t l)) (dues_from t me (i + 1) ls ss)
    ∙ omega (arith, length-map (due_in t l) (due_with me i s), length-dues sizes t me (i + 1) ls ss holds.1)

pub many-due : (sc : Scenario) (w : World) (lanes : Each Held) → HoldsSites sc.sizes lanes w.sites → AreTimes (in_order lanes) → length (due_now sc w) ≡ how_many lanes
many-due sc w lanes holds times =
    let t : ℕ = first_time lanes in
    ap length (due-lanes sc w lanes holds times) ∙ length-append (dues_from t Biu 0 lanes.bius w.sites.bius) (dues_from t Rmu 0 lanes.rmus w.sites.rmus)
    ∙ omega (
      arith,
      length-dues sc.sizes t Biu 0 lanes.bius w.sites.bius holds.bius,
      length-dues sc.sizes t Rmu 0 lanes.rmus w.sites.rmus holds.rmus,
      count-append t lanes.bius lanes.rmus,
    )
