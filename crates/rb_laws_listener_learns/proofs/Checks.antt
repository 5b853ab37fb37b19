-- What holds of a search `reach_of` ticks after the last call of good RMUs in a frame: it decides
-- by what it learned of the frame, or learns the frame after.
use Rattle.std.proofs.{Common.{◌≡◌, ◌⊎◌, ℕ, suc, ◌+◌, ◌%◌, ◌<◌, ◌≤◌, ◌&&◌, Bool, true, false, Option, Some, None, is_some, slice_get, inl, inr, refl, sym, ◌∙◌, ap, subst, arith}, lemmas.Bool.{and_from, eq-eqb}, lemmas.Bool.Decides.nat_tests}
use Rattle.rb_rules.specs.{Core.is_tick, Lawful.IsLawful}
use Rattle.rb_listen.specs.{Lessons.frame_after, Listeners.IsAhead, Listening.{first_search, is_deciding}, Passes.{pass_of, reach_of}, declared.search.Search.Search}
use Rattle.rb_listen.proofs.{Searches.{Stays, arrive-stays, first-stays}, Soon.none-soon}
use Rattle.rb_laws_listener_learns.specs.Ears.{HearsTheRun, IsEar}
use Rattle.rb_laws_listener_learns.proofs.{Deciding.IsHeardCall, Fresh.well-known, LastCalls.{IsLastCall, no-later}, Latest.{not-yet, whole-earlier}, Learning.{IsFixed, IsFresh}, NewestCalls.{HasCome, all-called}, Walks.IsKept}

abbrev pub StaysAt : ℕ → ℕ → Search → Type 0
StaysAt k n s = Stays k s

-- a tick at which the search does not decide comes before that of the decision
still-ahead : (k : ℕ) (learns : Bool) (d : Option ℕ) → (learns && is_tick d k) ≡ false → IsAhead k (elim learns as (λ _. Option ℕ) [ true ↦ d | false ↦ None ])
    → IsAhead (suc k) (elim learns as (λ _. Option ℕ) [ true ↦ d | false ↦ None ])
still-ahead k false d e h = tt
still-ahead k true None e h = tt
still-ahead k true (Some tick) e h = grind (arith, nat_tests)

pub kept-stays : {sc ear : _} → IsEar sc ear → IsKept sc ear StaysAt
kept-stays {sc} is = record {
  first = first-stays first_search refl;
  heard = λ k n c in_time there s h. arrive-stays k sc.sizes sc.plan c.from c.bytes s h;
  decided = λ k n s in_time whole h deciding. record { had = omega (arith, h.had); most = omega (arith, in_time, is.ticks); soon = none-soon; ahead = tt };
  later = λ k n s in_time whole h on. record {
    had = omega (arith, h.had);
    most = omega (arith, in_time, is.ticks);
    soon = h.soon;
    ahead = still-ahead k s.learns s.lesson.decides (ap (λ t. s.learns && is_tick s.lesson.decides t) (sym h.had) ∙ on) h.ahead;
  };
  lasts = λ k n s in_time h. not-yet is in_time h.had;
}

ahead-by : (k tick : ℕ) (learns : Bool) (d : Option ℕ) → learns ≡ true → d ≡ Some tick → IsAhead k (elim learns as (λ _. Option ℕ) [ true ↦ d | false ↦ None ]) → k ≤ tick
ahead-by k tick true d l e h = subst (IsAhead k) e h
ahead-by k tick false d l e h = let both : false ≡ true = l in absurd (cc)

-- at this tick the search decides by the frame, or it learns the frame after
pub decides-or-next : {sc hands : _} → IsLawful sc → {ear : _} → IsEar sc ear → HearsTheRun sc hands ear → {frame last : ℕ} → IsLastCall sc hands ear frame last
    → {k n s : _} → k ≡ last + reach_of sc.plan → k < ear.ticks → slice_get (ear.heard k) n ≡ None → IsFresh sc hands ear k n s → Stays k s
    → ((is_deciding s ≡ true) × (s.lesson.frame ≡ frame % 65536)) ⊎ ((s.learns ≡ true) × (s.lesson.frame ≡ frame_after (frame % 65536)))
decides-or-next {sc} {hands} law {ear} is run {frame} {last} l {k} {n} {s} at in_time whole h stays = by known.1
  where
    come : HasCome ear last k n
    come = λ t i c le there. whole-earlier ear t i k n there whole (omega (arith, le, at))

    made : pass_of sc.sizes sc.plan s.newest ≡ Some (frame % 65536)
    made =
        all-called law is run l (omega (arith, at, in_time)) (well-known h.well) h.latest.latest come (omega (arith, at))

    known : (s.learns ≡ true) × (((s.lesson.frame ≡ frame % 65536) × (is_some s.lesson.decides ≡ true)) ⊎ (s.lesson.frame ≡ frame_after (frame % 65536)))
    known = h.learns.pass (frame % 65536) made

    decides : s.lesson.frame ≡ frame % 65536 → (d : Option ℕ) → s.lesson.decides ≡ d → is_some d ≡ true → is_deciding s ≡ true
    decides frame_is None e some = let both : false ≡ true = some in absurd (cc)
    decides frame_is (Some tick) e some =
        let fixed : IsFixed sc hands ear s.lesson.frame tick = (h.learns.lesson known.0).fixed tick e in
        let early : fixed.call.at ≤ last =
        no-later law l fixed.call.call.good
        (subst (λ f. IsHeardCall sc hands ear fixed.call.call.j f fixed.call.at) frame_is fixed.call.call.call) in
        let ahead : k ≤ tick = ahead-by k tick s.learns s.lesson.decides known.0 e stays.ahead in
        let same : tick ≡ s.had = omega (arith, fixed.tick_is, fixed.call.late, early, ahead, at, h.well.had) in
        and_from s.learns (is_tick s.lesson.decides s.had) known.0 (ap (λ d. is_tick d s.had) e ∙ eq-eqb tick s.had same)

    by : ((s.lesson.frame ≡ frame % 65536) × (is_some s.lesson.decides ≡ true)) ⊎ (s.lesson.frame ≡ frame_after (frame % 65536))
        → ((is_deciding s ≡ true) × (s.lesson.frame ≡ frame % 65536)) ⊎ ((s.learns ≡ true) × (s.lesson.frame ≡ frame_after (frame % 65536)))
    by (inl both) = inl (decides both.0 s.lesson.decides refl both.1, both.0)
    by (inr next) = inr (known.0, next)
