-- For the law that events are rounds: the book of any moment is that of one within all steps.
use Rattle.std.proofs.{Common.{◌≡◌, ℕ, ◌+◌, ◌*◌, ◌-◌, ◌<◌, ◌≤◌, Bool, true, false, List, refl, ap, sym, ◌∙◌, arith, inl, inr}, lemmas.Bool.cases_lt, lemmas.Nat.mul-le}
use Rattle.rb_rules.specs.{Goodness.Scenario, Ports.HandIn, Rounds.{Moment, moment, steps_of, windows_in}, WorldStep.World}
use Rattle.rb_rules.proofs.Books.{GoesOn, moments-on}
use Rattle.rb_laws_events.proofs.{EventsLaw.IsBookOfRounds, MomentBooks.number-of, SettlingFrames.{IsOfMoment, RunsIn, runs-in}}

-- a run that has not ended has steps left
runs-within : (sc : Scenario) (hands : List HandIn) (p : ℕ) → (moment sc hands p).book.ended ≡ false → p < steps_of sc
runs-within sc hands p going =
    let m : Moment = moment sc hands p in
    let n : ℕ = windows_in sc.sizes + 1 in
    let at = number-of sc hands p in
    let runs : RunsIn sc m = runs-in sc hands p going in
    elim (cases_lt m.frame sc.frames) [
      | inl lt ↦
          let up : (m.frame + 1) * n ≤ sc.frames * n = mul-le (m.frame + 1) n sc.frames n (omega arith) (omega arith) in
          let more : (m.frame + 1) * n ≡ m.frame * n + n = one-more m.frame n in
          omega (arith, at.0, at.1, up, more)
      | inr ge ↦
          let same : m.frame ≡ sc.frames = let le : m.frame ≤ sc.frames = runs.bound in omega arith in
          let first : m.window ≡ 0 = runs.at_first same in
          let f : m.frame * n ≡ sc.frames * n = ap (λ f. f * n) same in
          omega (arith, at.0, first, f)
    ]
  where
    one-more : (a n : ℕ) → (a + 1) * n ≡ a * n + n
    one-more a n = omega arith

-- the book of any moment is that of one within all steps
pub within-steps : (sc : Scenario) (hands : List HandIn) (g : ℕ) → (n : ℕ) × ((n ≤ steps_of sc) × ((moment sc hands g).book ≡ (moment sc hands n).book))
within-steps sc hands g =
    let s : ℕ = steps_of sc in
    elim (cases_lt s g) [
      | inr le ↦ (g, (le, refl))
      | inl past ↦
          let k : s + (g - s) ≡ g = omega arith in
          let on : GoesOn (moment sc hands s).book (moment sc hands (s + (g - s))).book = moments-on sc hands s (g - s) in
          let go : (b : Bool) → (moment sc hands s).book.ended ≡ b → (moment sc hands (s + (g - s))).book ≡ (moment sc hands s).book =
          λ b. elim b as (λ b. (moment sc hands s).book.ended ≡ b → (moment sc hands (s + (g - s))).book ≡ (moment sc hands s).book) [
            | true ↦ λ e. on.over e
            | false ↦ λ e. let lt : s < steps_of sc = runs-within sc hands s e in absurd (omega arith)
          ] in
          (s, (omega arith, sym (ap (λ n. (moment sc hands n).book) k) ∙ go (moment sc hands s).book.ended refl))
    ]

pub of-rounds : (sc : Scenario) (w : World) → IsOfMoment sc w.hands w.book → IsBookOfRounds sc w
of-rounds sc w (inl fresh) = inl fresh
of-rounds sc w (inr at) = let n = within-steps sc w.hands at.0 in inr (n.0, (n.1.0, at.1 ∙ n.1.1))
