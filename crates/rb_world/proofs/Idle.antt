-- When nothing may be taken.
use Rattle.std.proofs.{Common.{◌≡◌, ℕ, ◌<◌, ◌||◌, Bool, true, false, List, [], length, refl, sym, ap, ◌∙◌, arith, inl, inr, IsTrue, ◌↔◌}, lemmas.Bool.cases_lt}
use Rattle.rb_base.proofs.Plain.{or-true}
use Rattle.rb_rules.specs.WorldStep.{Due, World, due_of, needs_no_event}
use Rattle.rb_world_agenda.specs.Agenda.{due_now, how_many}
use Rattle.rb_world_book.specs.Settling.{is_free}
use Rattle.rb_world_book.proofs.Due.{free-is}
use Rattle.rb_world.specs.Worlds.{KeptWorld, Stands, due_in}
use Rattle.rb_world.proofs.Turns.{due-is-now}

-- the world is idle if and only if what is kept is
idle-is : (k : KeptWorld) (w : World) → Stands k w → (w.book.ended || needs_no_event k.bus w.book.upcoming) ≡ (k.scene.book.ended || is_free k.scene.book)
idle-is k w is =
    ap (λ b. b || needs_no_event k.bus w.book.upcoming) is.scene.book.ended ∙ ap (λ b. k.scene.book.ended || b) (free-is k.bus k.scene.book w is.scene.book)

pub ended-idle : (k : KeptWorld) (w : World) → Stands k w → w.book.ended ≡ true → (w.book.ended || needs_no_event k.bus w.book.upcoming) ≡ true
ended-idle k w is e = ap (λ b. b || needs_no_event k.bus w.book.upcoming) e

pub free-idle : (k : KeptWorld) (w : World) → Stands k w → needs_no_event k.bus w.book.upcoming ≡ true → (w.book.ended || needs_no_event k.bus w.book.upcoming) ≡ true
free-idle k w is e = ap (λ b. w.book.ended || b) e ∙ or-true w.book.ended

pub busy : (k : KeptWorld) (w : World) → w.book.ended ≡ false → needs_no_event k.bus w.book.upcoming ≡ false → (w.book.ended || needs_no_event k.bus w.book.upcoming) ≡ false
busy k w e f = ap (λ b. b || needs_no_event k.bus w.book.upcoming) e ∙ f

-- if the run has ended or its next record needs no event, nothing is due
pub none-due : (k : KeptWorld) (w : World) → Stands k w → (w.book.ended || needs_no_event k.bus w.book.upcoming) ≡ true → due_in k ≡ 0
none-due k w is e = ap (λ b. elim b as (λ _. ℕ) [ true ↦ 0 | false ↦ how_many k.scene.agenda ]) (sym (idle-is k w is) ∙ e)

pub none-due-then : (k : KeptWorld) (w : World) → Stands k w → (w.book.ended || needs_no_event k.bus w.book.upcoming) ≡ true → length (due_of k.bus w) ≡ 0
unfolding due_of
none-due-then k w is e = ap (λ b. length (elim b as (λ _. List Due) [ true ↦ [] | false ↦ due_now k.bus w ])) e

-- as many events are due as are pending at the least time
pub length-due : (k : KeptWorld) (w : World) (n : ℕ) → (w.book.ended || needs_no_event k.bus w.book.upcoming) ≡ false → n ≡ length (due_now k.bus w) → n ≡ length (due_of k.bus w)
length-due k w n e all = all ∙ sym (ap length (due-is-now k.bus w e))

pub all-due : (k : KeptWorld) (w : World) (n : ℕ) → Stands k w → (w.book.ended || needs_no_event k.bus w.book.upcoming) ≡ false → n ≡ how_many k.scene.agenda → n ≡ due_in k
all-due k w n is e all = all ∙ sym (ap (λ b. elim b as (λ _. ℕ) [ true ↦ 0 | false ↦ how_many k.scene.agenda ]) (sym (idle-is k w is) ∙ e))

pub none-some : {n : ℕ} → n ≡ 0 → IsTrue false ↔ 0 < n
none-some none = (λ yes. absurd (cc), λ some. absurd (omega (arith, none, some)))

pub no-more : {n : ℕ} {b : Bool} → b ≡ false → (0 < n → IsTrue b) → n ≡ 0
no-more {n} {b} none some =
    elim (cases_lt 0 n) [
      | inl more ↦ let yes : b ≡ true = some more in absurd (cc)
      | inr zero_at ↦ omega (arith, zero_at)
    ]

-- if an event is due by what is kept, the world is not idle
pub due-busy : (k : KeptWorld) (w : World) (i : ℕ) → Stands k w → i < due_in k → (w.book.ended || needs_no_event k.bus w.book.upcoming) ≡ false
due-busy k w i is lt = by (w.book.ended || needs_no_event k.bus w.book.upcoming) refl
  where
    by : (b : Bool) → (w.book.ended || needs_no_event k.bus w.book.upcoming) ≡ b → b ≡ false
    by true e = absurd (let none = none-due k w is e in omega (arith, none, lt))
    by false e = refl
