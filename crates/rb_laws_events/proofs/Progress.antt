-- For the law that something is due: as long as something is pending, some event is due.
use Rattle.std.proofs.Common.{◌≡◌, ℕ, ◌≤◌, ◌||◌, false, List, [], ◌∷◌, ◌++◌, flat_map, length, map, refl, ap, ◌∙◌, subst, arith, Option, Some, None, option_map, option_to_list, slice_get}
use Rattle.rb_base.specs.{Nodes.Side, Nodes.Side.{Biu, Rmu}}
use Rattle.rb_rules.specs.{Book.{in_order, of_kind}, Goodness.Scenario, Hearing.Coming, WorldStep.{Choice, Due, Site, Timed, World, due_of, least, needs_no_event, times_of, world_after}}
use Rattle.rb_laws_events.specs.Laws.{SomethingIsDue}
use Rattle.rb_laws_events.proofs.{DueEvents.{every-at, every-back, every-front, every-unflat, least-none, some-due}, SameHeard.Every, WorldNodes.worlds-known}

-- some node has a pending tick
pub record SomePends (w : World) : Type 0 where
  pub me : Side
  pub i : ℕ
  pub s : Site
  pub a : Timed
  pub there : slice_get (of_kind me w.sites) i ≡ Some s
  pub pends : s.ahead ≡ Some a

-- if a tick is pending, what is pending has a least time
pub some-time : (w : World) (me : Side) (i : ℕ) {s a : _} → slice_get (of_kind me w.sites) i ≡ Some s → s.ahead ≡ Some a
    → (t : ℕ) × (least (flat_map times_of (in_order w.sites)) ≡ Some t)
some-time w me i {s} {a} there pend = by (least (flat_map times_of (in_order w.sites))) refl
  where
    own : Every (λ u. ⊥) (times_of s) → ⊥
    own all = (subst (λ o. Every (λ (u : ℕ). ⊥) (option_to_list (option_map (λ (a : Timed). a.time) o) ++ map (λ (c : Coming). c.time) s.coming)) pend all).0

    at : (me : Side) → slice_get (of_kind me w.sites) i ≡ Some s → Every (λ s. Every (λ u. ⊥) (times_of s)) (w.sites.bius ++ w.sites.rmus) → Every (λ u. ⊥) (times_of s)
    at Biu e all = every-at (λ s. Every (λ u. ⊥) (times_of s)) w.sites.bius i e (every-front (λ s. Every (λ u. ⊥) (times_of s)) w.sites.bius w.sites.rmus all)
    at Rmu e all = every-at (λ s. Every (λ u. ⊥) (times_of s)) w.sites.rmus i e (every-back (λ s. Every (λ u. ⊥) (times_of s)) w.sites.bius w.sites.rmus all)

    by : (o : Option ℕ) → least (flat_map times_of (in_order w.sites)) ≡ o → (t : ℕ) × (least (flat_map times_of (in_order w.sites)) ≡ Some t)
    by (Some t) e = (t, e)
    by None e =
        let none : Every (λ u. ⊥) (flat_map times_of (in_order w.sites)) = least-none (λ u. ⊥) (flat_map times_of (in_order w.sites)) e in
        absurd (own (at me there (every-unflat (λ u. ⊥) times_of (in_order w.sites) none)))

-- if a tick is pending, some event is due
due-where-pends : (sc : Scenario) (choices : List Choice) → SomePends (world_after sc choices)
    → (world_after sc choices).book.ended ≡ false → needs_no_event sc (world_after sc choices).book.upcoming ≡ false → 1 ≤ length (due_of sc (world_after sc choices))
due-where-pends sc choices node going needs =
    let w : World = world_after sc choices in
    let pending = some-time w node.me node.i node.there node.pends in
    let goes : (w.book.ended || needs_no_event sc w.book.upcoming) ≡ false = ap (λ b. b || needs_no_event sc w.book.upcoming) going ∙ needs in
    some-item (due_of sc w) (some-due (record { known = (worlds-known sc choices).known }) goes pending.1)
  where
    some-item : (ds : List Due) → (ds ≡ [] → ⊥) → 1 ≤ length ds
    some-item [] never = absurd (never refl)
    some-item (d ∷ ds) never = omega arith

-- the law holds if some tick is pending in each world whose next record needs an event
pub something-is-due : (sc : Scenario)
    → ((choices : List Choice) → (world_after sc choices).book.ended ≡ false → needs_no_event sc (world_after sc choices).book.upcoming ≡ false → SomePends (world_after sc choices))
    → SomethingIsDue sc
something-is-due sc pends choices going needs = due-where-pends sc choices (pends choices going needs) going needs
