-- For the law that events are rounds: all nodes of a world, each in its own moment of the rounds.
-- One arrival, and one tick of a node that goes on or stops, keep it.
use Rattle.std.proofs.{Common.{◌≡◌, ℕ, ◌≤◌, ◌==◌, ◌&&◌, Bool, true, false, List, [], length, refl, ap, sym, ◌∙◌, subst, Option, Some, None, slice_get, option_and_then, option_map}, lemmas.Bool.{and_parts, eqb-true}, lemmas.Option.same_Some, Math.Path.fun_ext}
use Rattle.rb_base.specs.Nodes.{Side, other}
use Rattle.rb_base.proofs.Plain.{eq_self, option_map-back, true-false}
use Rattle.rb_rules.specs.{Book.{Each, of_kind}, Goodness.{Scenario, clock_of}, Hearing.Coming, NodeState.NodeState, Ports.HandIn, Rounds.moment, Slots.{count_of, same_side}, WorldStep.{Timed, Site, after_arrival, at_node, times_of}}
use Rattle.rb_rules.proofs.{Slots.{same_side-is, same_side_other, same_side_self}, Stamps.Moves, WindowNumbers.{get-each, length-each}}
use Rattle.rb_laws_events.specs.OwnMoments.{StandsWhereNotGood}
use Rattle.rb_laws_events.proofs.{Invariant.{NodeStands, has_sent, is_good_at, sending_of}, NodeEvents.{stands-arrival, stands-on}, Receiving.ArrivesNow, SameHeard.Every}

-- the pending tick of node `j` of the sites
abbrev pub ahead_in : List Site → ℕ → Option Timed
ahead_in sites j = option_and_then (λ (s : Site). s.ahead) (slice_get sites j)

-- node j of a kind has sent what it sends in moment p. `at` gives the moments in which the nodes
-- stand
abbrev pub sent_by : Scenario → List HandIn → (Side → ℕ → ℕ) → Each Site → Side → ℕ → ℕ → Bool
sent_by sc hands at sites side j p = has_sent (sending_of sc (moment sc hands p) side j) (at side j) (ahead_in (of_kind side sites) j) p

-- the node runs and stands in moment `p`
pub record IsUp (sc : Scenario) (hands : List HandIn) (sent : Side → ℕ → ℕ → Bool) (now : ℕ) (me : Side) (i p : ℕ) (s : Site) : Type 0 where
  pub st : NodeState
  pub a : Timed
  pub stands : NodeStands sc hands sent now me i p s st a

-- the node has stopped in moment `p`, in which it is not good, and nothing is pending at it
pub record IsDown (sc : Scenario) (hands : List HandIn) (me : Side) (i p : ℕ) (s : Site) : Type 0 where
  pub not_good : is_good_at sc (moment sc hands p) me i ≡ false
  pub stopped : StandsWhereNotGood sc me i s.core
  pub ahead : s.ahead ≡ None
  pub coming : s.coming ≡ []

pub record SitesStand (sc : Scenario) (hands : List HandIn) (now : ℕ) (at : Side → ℕ → ℕ) (sites : Each Site) : Type 0 where
  pub up : (me : Side) (i : ℕ) (s : Site) → slice_get (of_kind me sites) i ≡ Some s → s.runs ≡ true
      → IsUp sc hands (sent_by sc hands at sites) now me i (at me i) s
  pub down : (me : Side) (i : ℕ) (s : Site) → slice_get (of_kind me sites) i ≡ Some s → s.runs ≡ false → IsDown sc hands me i (at me i) s
  pub counts : (me : Side) → length (of_kind me sites) ≡ count_of me sc.sizes

-- One node changes.

-- node `n` of kind `side` is node `i` of kind `me`
abbrev pub is_node : Side → ℕ → Side → ℕ → Bool
is_node me i side n = same_side side me && (n == i)

pub node-is : (me side : Side) (i n : ℕ) → is_node me i side n ≡ true → (side ≡ me) × (n ≡ i)
node-is me side i n e =
    let parts = and_parts (same_side side me) (n == i) e in
    (same_side-is side me parts.0, eqb-true n i parts.1)

pub node-itself : (me : Side) (i : ℕ) → is_node me i me i ≡ true
node-itself me i = ap (λ b. b && (i == i)) (same_side_self me) ∙ eq_self i

pub not-other : (me : Side) (i n : ℕ) → is_node me i (other me) n ≡ false
not-other me i n = ap (λ b. b && (n == i)) (same_side_other me)

-- a site after a change of one node
pub get-at : (me side : Side) (i n : ℕ) (change : Site → Site) (sites : Each Site)
    → slice_get (of_kind side (at_node me i change sites)) n
    ≡ option_map (λ s. elim (is_node me i side n) as (λ _. Site) [ true ↦ change s | false ↦ s ]) (slice_get (of_kind side sites) n)
get-at me side i n change sites = get-each (λ side n s. elim (is_node me i side n) as (λ _. Site) [ true ↦ change s | false ↦ s ]) sites side n

-- An arrival.

-- a change of one node that keeps its pending tick keeps those of all nodes
ahead-kept : (me side : Side) (i n : ℕ) (change : Site → Site) (sites : Each Site) → ((s : Site) → (change s).ahead ≡ s.ahead)
    → ahead_in (of_kind side (at_node me i change sites)) n ≡ ahead_in (of_kind side sites) n
ahead-kept me side i n change sites keeps =
    ap (option_and_then (λ (s : Site). s.ahead)) (get-at me side i n change sites) ∙ by (slice_get (of_kind side sites) n)
  where
    inner : (s : Site) (b : Bool) → (elim b as (λ _. Site) [ true ↦ change s | false ↦ s ]).ahead ≡ s.ahead
    inner s true = keeps s
    inner s false = refl

    by : (o : Option Site) → option_and_then (λ (s : Site). s.ahead) (option_map (λ s. elim (is_node me i side n) as (λ _. Site) [ true ↦ change s | false ↦ s ]) o)
        ≡ option_and_then (λ (s : Site). s.ahead) o
    by None = refl
    by (Some s) = inner s (is_node me i side n)

pub same-sent : (f g : Side → ℕ → ℕ → Bool) → ((side : Side) (j p : ℕ) → f side j p ≡ g side j p) → f ≡ g
same-sent f g same = fun_ext (λ side. fun_ext (λ j. fun_ext (λ p. same side j p)))

arrival-ahead : (sc : Scenario) (me : Side) (i n : ℕ) (c : Coming) (s : Site) → (after_arrival sc me i n c s).ahead ≡ s.ahead
unfolding after_arrival
arrival-ahead sc me i n c s = refl

arrival-runs : (sc : Scenario) (me : Side) (i n : ℕ) (c : Coming) (s : Site) → (after_arrival sc me i n c s).runs ≡ s.runs
unfolding after_arrival
arrival-runs sc me i n c s = refl

-- all that pends comes no earlier than the event
unfoldable pub AllPend : ℕ → Each Site → Type 0
AllPend t sites = (me : Side) (i : ℕ) (s : Site) → slice_get (of_kind me sites) i ≡ Some s → Every (λ u. t ≤ u) (times_of s)

pub arrival-keeps-world : {sc : Scenario} {hands : List HandIn} {now : ℕ} {at : Side → ℕ → ℕ} {sites : Each Site} (me : Side) (i n : ℕ) (c : Coming) {s : Site}
    → Moves (clock_of sc me i) → slice_get (of_kind me sites) i ≡ Some s → s.runs ≡ true → now ≤ c.time → AllPend c.time sites
    → ((a : Timed) → s.ahead ≡ Some a → ArrivesNow n c s a)
    → SitesStand sc hands now at sites → SitesStand sc hands c.time at (at_node me i (after_arrival sc me i n c) sites)
unfolding AllPend
arrival-keeps-world {sc} {hands} {now} {at} {sites} me i n c {s} moves there runs later pend due h =
    let change : Site → Site = after_arrival sc me i n c in
    let new : Each Site = at_node me i change sites in
    let same : sent_by sc hands at sites ≡ sent_by sc hands at new =
    same-sent (sent_by sc hands at sites) (sent_by sc hands at new)
    (λ side j p. ap (λ o. has_sent (sending_of sc (moment sc hands p) side j) (at side j) o p) (sym (ahead-kept me side i j change sites (arrival-ahead sc me i n c)))) in
    let up_by : (side : Side) (j : ℕ) (old : Site) (b : Bool) → is_node me i side j ≡ b → slice_get (of_kind side sites) j ≡ Some old
    → (elim b as (λ _. Site) [ true ↦ change old | false ↦ old ]).runs ≡ true
    → IsUp sc hands (sent_by sc hands at sites) c.time side j (at side j) (elim b as (λ _. Site) [ true ↦ change old | false ↦ old ]) =
    λ side j old b. elim b as (λ b. is_node me i side j ≡ b → slice_get (of_kind side sites) j ≡ Some old
    → (elim b as (λ _. Site) [ true ↦ change old | false ↦ old ]).runs ≡ true
    → IsUp sc hands (sent_by sc hands at sites) c.time side j (at side j) (elim b as (λ _. Site) [ true ↦ change old | false ↦ old ])) [
      | true ↦ λ e was up.
          let is = node-is me side i j e in
          let its : slice_get (of_kind me sites) i ≡ Some old = sym (ap (λ k. slice_get (of_kind k sites) j) is.0 ∙ ap (slice_get (of_kind me sites)) is.1) ∙ was in
          let old_is : s ≡ old = same_Some s old (sym there ∙ its) in
          let node : IsUp sc hands (sent_by sc hands at sites) now me i (at me i) s = h.up me i s there runs in
          let new_up : IsUp sc hands (sent_by sc hands at sites) c.time me i (at me i) (change s) = record {
            st = node.st;
            a = node.a;
            stands = stands-arrival moves (due node.a node.stands.receives.pends) node.stands;
          } in
          subst (λ z. IsUp sc hands (sent_by sc hands at sites) c.time side j (at side j) (change z)) old_is
          (subst (λ k. IsUp sc hands (sent_by sc hands at sites) c.time k j (at k j) (change s)) (sym is.0)
          (subst (λ k. IsUp sc hands (sent_by sc hands at sites) c.time me k (at me k) (change s)) (sym is.1) new_up))
      | false ↦ λ e was up.
          let node : IsUp sc hands (sent_by sc hands at sites) now side j (at side j) old = h.up side j old was up in
          record { st = node.st; a = node.a; stands = stands-on c.time later (pend side j old was) node.stands }
    ] in
    record {
      up = λ side j z e up.
          let was = option_map-back (λ s. elim (is_node me i side j) as (λ _. Site) [ true ↦ change s | false ↦ s ]) (slice_get (of_kind side sites) j) z (sym (get-at me side i j change sites) ∙ e) in
          subst (λ f. IsUp sc hands f c.time side j (at side j) z) same
          (subst (λ z. IsUp sc hands (sent_by sc hands at sites) c.time side j (at side j) z) was.1.1
          (up_by side j was.0 (is_node me i side j) refl was.1.0 (ap (λ (s : Site). s.runs) was.1.1 ∙ up)));
      down = λ side j z e stopped.
          let was = option_map-back (λ s. elim (is_node me i side j) as (λ _. Site) [ true ↦ change s | false ↦ s ]) (slice_get (of_kind side sites) j) z (sym (get-at me side i j change sites) ∙ e) in
          let go : (b : Bool) → is_node me i side j ≡ b → (elim b as (λ _. Site) [ true ↦ change was.0 | false ↦ was.0 ]) ≡ z → IsDown sc hands side j (at side j) z =
          λ b. elim b as (λ b. is_node me i side j ≡ b → (elim b as (λ _. Site) [ true ↦ change was.0 | false ↦ was.0 ]) ≡ z → IsDown sc hands side j (at side j) z) [
            | true ↦ λ f g.
                let is = node-is me side i j f in
                let its : slice_get (of_kind me sites) i ≡ Some was.0 = sym (ap (λ k. slice_get (of_kind k sites) j) is.0 ∙ ap (slice_get (of_kind me sites)) is.1) ∙ was.1.0 in
                let old_is : s ≡ was.0 = same_Some s was.0 (sym there ∙ its) in
                let on : z.runs ≡ true = ap (λ (s : Site). s.runs) (sym g) ∙ arrival-runs sc me i n c was.0 ∙ ap (λ (s : Site). s.runs) (sym old_is) ∙ runs in
                absurd (true-false (sym on ∙ stopped))
            | false ↦ λ f g. subst (IsDown sc hands side j (at side j)) g (h.down side j was.0 was.1.0 (ap (λ (s : Site). s.runs) g ∙ stopped))
          ] in
          go (is_node me i side j) refl was.1.1;
      counts = λ side. length-each (λ side n s. elim (is_node me i side n) as (λ _. Site) [ true ↦ change s | false ↦ s ]) sites side ∙ h.counts side;
    }
