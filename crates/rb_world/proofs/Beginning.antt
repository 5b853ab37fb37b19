-- Nodes begin one after another.
use Rattle.std.proofs.{Common.{◌≡◌, ℕ, zero, suc, ◌+◌, ◌*◌, ◌<◌, ◌≤◌, ◌==◌, ◌⊎◌, Bool, true, false, Some, None, Option, List, [], ◌∷◌, length, slice_get, refl, sym, ap, ◌∙◌, subst, arith, inl, inr}, lemmas.Bool.cases_lt, lemmas.Bool.Decides.nat_tests, lemmas.List.Elements.All-nil, lemmas.Option.{same_Some, slice_get_read}}
use Rattle.std.specs.Prelude.{get_or, option_map, slice_set}
use Rattle.rb_base.specs.{Nodes.{Side, other}, Nodes.Side.{Biu, Rmu}}
use Rattle.rb_base.proofs.Plain.{none_not_some}
use Rattle.rb_rules.specs.{Core.{state_at, window_here}, Entries.IsListed, Goodness.Scenario, Hearing.{Coming, Span, span_of}, Lawful.IsLawful, Links.name_of, NodeState.{NodeState, first_state}, Slots.count_of, Windows.exact_window, WorldStep.{Site, World, fresh_site, proceed}}
use Rattle.rb_rules.proofs.WindowNumbers.{exact-numbered}
use Rattle.rb_laws_events.proofs.{TickRooms.has-room, TickWindows.{IsTickIn, first-same, first_of, here-is}, WorldStands.{get-at, is_node}, FirstWorld.not-turned}
use Rattle.rb_world.specs.{Sites.{KeptSite, number_of}, declared.scene.Scene.Scene, Openings.{AreFresh, HaveBegun, MayBegin, with_begun}, Steps.{MayProceed, Proceeds, SpanFits, SpansFit}, Worlds.IsNode}
use Rattle.rb_world.proofs.Lanes.{has-lane, node-named, spare-at}

-- The first window.

if-some : (b : Bool) (x y : Span) → (elim b as (λ _. Option Span) [ true ↦ Some x | false ↦ None ]) ≡ Some y → x ≡ y
if-some true x y e = same_Some x y e
if-some false x y e = none_not_some y e

first-here : (sc : Scenario) → IsLawful sc → (me : Side) → window_here sc.sizes sc.plan me (first_state sc.sizes me) 0 ≡ exact_window sc.plan 0
first-here sc lawful me =
    let st : NodeState = first_state sc.sizes me in
    let zero_first : first_of sc.sizes sc.plan me st 0 ≡ 0 * sc.plan.l = first-same sc.sizes sc.plan me st 0 (omega arith) in
    let at : IsTickIn sc.sizes sc.plan me st 0 0 = record { from = omega arith; to = omega arith } in
    here-is me st (has-room lawful).ticks (omega arith) at ∙ exact-numbered sc.sizes sc.plan me st 0 (omega arith)

first-fits : (sc : Scenario) → IsLawful sc → (me : Side) → SpanFits (span_of (first_state sc.sizes me) (exact_window sc.plan 0))
first-fits sc lawful me = record { stage = omega arith; first = omega arith }

first-spans : (sc : Scenario) → IsLawful sc → (me : Side) → SpansFit sc me (fresh_site sc.sizes me).core
first-spans sc lawful me span e =
    let st : NodeState = first_state sc.sizes me in
    let now : NodeState = state_at sc.sizes sc.plan me st 0 in
    let here : Span = span_of now (window_here sc.sizes sc.plan me now 0) in
    let is : here ≡ span = if-some (here.first == 0) here span e in
    let same : here ≡ span_of st (exact_window sc.plan 0) =
    ap (λ (n : NodeState). span_of n (window_here sc.sizes sc.plan me n 0)) (not-turned sc.sizes sc.plan me 0) ∙ ap (span_of st) (first-here sc lawful me) in
    subst SpanFits (sym same ∙ is) (first-fits sc lawful me)

-- One node begins.

set-found : {X : Type 0} (xs : List X) (n i : ℕ) (y x : X) → slice_get (slice_set xs n y) i ≡ Some x → ((i ≡ n) × (x ≡ y)) ⊎ ((slice_get xs i ≡ Some x) × (i ≡ n → ⊥))
set-found [] n i y x e = none_not_some x e
set-found (z ∷ zs) zero zero y x e = inl (refl, same_Some x y (sym e))
set-found (z ∷ zs) zero (suc i) y x e = inr (e, λ same. omega (arith, same))
set-found (z ∷ zs) (suc n) zero y x e = inr (e, λ same. omega (arith, same))
set-found (z ∷ zs) (suc n) (suc i) y x e = elim (set-found zs n i y x e) [
  | inl is ↦ inl (ap suc is.0, is.1)
  | inr is ↦ inr (is.0, λ same. is.1 (omega (arith, same)))
]

set-long : {X : Type 0} (xs : List X) (n : ℕ) (y : X) → length (slice_set xs n y) ≡ length xs
set-long [] n y = refl
set-long (x ∷ xs) zero y = refl
set-long (x ∷ xs) (suc n) y = ap suc (set-long xs n y)

pub apart : (me : Side) (n i : ℕ) → (i ≡ n → ⊥) → is_node me n me i ≡ false
apart Biu n i ne = grind (arith, nat_tests, ne)
apart Rmu n i ne = grind (arith, nat_tests, ne)

pub may-proceed : (sc : Scenario) (me : Side) (n : ℕ) (kept : List KeptSite) (k : KeptSite) (scene : Scene) (w : World) → IsLawful sc → IsListed sc → n < count_of me sc.sizes
    → slice_get kept n ≡ Some k → HaveBegun sc me n kept scene w → MayProceed sc me n k scene (with_begun sc me n w) (fresh_site sc.sizes me)
may-proceed sc me n kept k scene w lawful listed below found is =
    let fresh = is.fresh n k (omega arith) found in
    let there = is.rest n (omega arith) below in
    record {
      at = record {
        lawful = lawful;
        listed = listed;
        within = below;
        there = there;
        number = fresh.number;
        stands = fresh.stands;
        none_ahead = refl;
        runs = refl;
        senders = All-nil (λ (c : Coming). c.from < count_of (other me) sc.sizes);
        surrounds = is.surrounds;
        spare = spare-at sc scene.agenda (with_begun sc me n w).sites me n (fresh_site sc.sizes me) is.surrounds.rooms
            (has-lane sc scene (with_begun sc me n w) (name_of me n) is.surrounds (node-named sc me n below)) is.surrounds.lanes there (omega arith);
      };
      spans = first-spans sc lawful me;
    }

pub one-more : (sc : Scenario) (me : Side) (n : ℕ) (kept new : List KeptSite) (k : KeptSite) (scene after : Scene) (w : World) → HaveBegun sc me n kept scene w
    → new ≡ slice_set kept n k → Proceeds sc me n k scene after (with_begun sc me n w) (fresh_site sc.sizes me) → HaveBegun sc me (n + 1) new after w
unfolding with_begun
one-more sc me n kept new k scene after w is set goes =
    let next : suc n ≡ n + 1 = omega arith in
    subst (λ m. HaveBegun sc me m new after w) next (subst (λ ks. HaveBegun sc me (suc n) ks after w) (sym set) (record {
      many = set-long kept n k ∙ is.many;
      surrounds = goes.surrounds;
      begun = λ i z below found. elim (set-found kept n i k z found) [
        | inl same ↦ subst (λ m. IsNode sc me m z (proceed sc me m (fresh_site sc.sizes me))) (sym same.0) (subst (λ z. IsNode sc me n z (proceed sc me n (fresh_site sc.sizes me))) (sym same.1) goes.node)
        | inr old ↦ is.begun i z (below-other i n below old.1) old.0
      ];
      fresh = λ i z from found. elim (set-found kept n i k z found) [
        | inl same ↦ absurd (let is = same.0 in omega (arith, from, is))
        | inr old ↦ is.fresh i z (omega (arith, from)) old.0
      ];
      rest = λ i from below.
          let stays : is_node me n me i ≡ false = apart me n i (λ same. omega (arith, from, same)) in
          get-at me me n i (proceed sc me n) (with_begun sc me n w).sites ∙ ap (option_map (λ s. elim (is_node me n me i) as (λ _. Site) [ true ↦ proceed sc me n s | false ↦ s ])) (is.rest i (omega (arith, from)) below)
          ∙ ap (λ b. Some (elim b as (λ _. Site) [ true ↦ proceed sc me n (fresh_site sc.sizes me) | false ↦ fresh_site sc.sizes me ])) stays;
    }))
  where
    below-other : (i n : ℕ) → i < suc n → (i ≡ n → ⊥) → i < n
    below-other i n below ne = elim (cases_lt i n) [
      | inl lt ↦ lt
      | inr ge ↦ absurd (ne (omega (arith, below, ge)))
    ]

-- before the first node none has begun
pub none-yet : (sc : Scenario) (me : Side) (kept : List KeptSite) (scene : Scene) (w : World) → AreFresh sc me kept → MayBegin sc me scene w → HaveBegun sc me 0 kept scene w
unfolding with_begun
none-yet sc me kept scene w fresh may = record {
  many = fresh.many;
  surrounds = may.surrounds;
  begun = λ i z below. absurd (omega (arith, below));
  fresh = λ i z from. fresh.each i z;
  rest = λ i from. may.fresh i;
}

-- In a list of sites.

at-place : (sc : Scenario) (me : Side) (n from : ℕ) (kept : List KeptSite) (k : KeptSite) (scene : Scene) (w : World) → n < count_of me sc.sizes → from ≡ n
    → k ≡ get_or kept from k → HaveBegun sc me n kept scene w → slice_get kept n ≡ Some k
at-place sc me n from kept k scene w below same value is =
    let many = is.many in
    slice_get_read kept (length kept) n k refl (omega (arith, many, below)) (value ∙ ap (λ i. get_or kept i k) same)

by-number : (sc : Scenario) (me : Side) (n : ℕ) (kept : List KeptSite) (k : KeptSite) (scene : Scene) (w : World) → IsLawful sc → IsListed sc → n < count_of me sc.sizes
    → slice_get kept n ≡ Some k → HaveBegun sc me n kept scene w → MayProceed sc me (number_of k) k scene (with_begun sc me n w) (fresh_site sc.sizes me)
by-number sc me n kept k scene w lawful listed below found is =
    subst (λ i. MayProceed sc me i k scene (with_begun sc me n w) (fresh_site sc.sizes me)) (sym (is.fresh n k (omega arith) found).number)
    (may-proceed sc me n kept k scene w lawful listed below found is)

pub ready : (sc : Scenario) (me : Side) (n from : ℕ) (kept : List KeptSite) (k : KeptSite) (scene : Scene) → IsLawful sc → IsListed sc → n < count_of me sc.sizes → from ≡ n
    → k ≡ get_or kept from k → ((w : World) × HaveBegun sc me n kept scene w) → (w : World) × (s : Site) × MayProceed sc me (number_of k) k scene w s
ready sc me n from kept k scene lawful listed below same value some =
    (with_begun sc me n some.0, fresh_site sc.sizes me, by-number sc me n kept k scene some.0 lawful listed below (at-place sc me n from kept k scene some.0 below same value some.1) some.1)

pub begun-next : (sc : Scenario) (me : Side) (n from : ℕ) (kept : List KeptSite) (k new : KeptSite) (scene after : Scene) → IsLawful sc → IsListed sc → n < count_of me sc.sizes → from ≡ n
    → k ≡ get_or kept from k → ((w : World) (s : Site) → MayProceed sc me (number_of k) k scene w s → Proceeds sc me (number_of k) new scene after w s)
    → (w : World) → HaveBegun sc me n kept scene w → HaveBegun sc me (n + 1) (slice_set kept from new) after w
begun-next sc me n from kept k new scene after lawful listed below same value goes w is =
    let found = at-place sc me n from kept k scene w below same value is in
    let number : number_of k ≡ n = (is.fresh n k (omega arith) found).number in
    one-more sc me n kept (slice_set kept from new) new scene after w is (ap (λ i. slice_set kept i new) same)
    (subst (λ i. Proceeds sc me i new scene after (with_begun sc me n w) (fresh_site sc.sizes me)) number
    (goes (with_begun sc me n w) (fresh_site sc.sizes me) (by-number sc me n kept k scene w lawful listed below found is)))

pub at-end : (sc : Scenario) (me : Side) (n count : ℕ) (kept : List KeptSite) (scene : Scene) (w : World) → count ≤ n → n ≤ count → HaveBegun sc me n kept scene w
    → HaveBegun sc me count kept scene w
at-end sc me n count kept scene w ge le is = let same : n ≡ count = omega (arith, ge, le) in subst (λ m. HaveBegun sc me m kept scene w) same is
