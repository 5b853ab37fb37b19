-- What is handed in for later frames changes nothing that is told of a frame.
use Rattle.std.specs.Prelude.{⊤}
use Rattle.std.proofs.{Common.{◌≡◌, ℕ, zero, suc, ◌+◌, ◌-◌, ◌*◌, ◌<◌, ◌≤◌, ◌==◌, All, Bool, true, false, inl, inr, List, [], ◌∷◌, ◌++◌, append_assoc, if◌then◌else◌, refl, sym, ◌∙◌, ap, arith}, Math.Nat.add-sub_of_le, lemmas.Bool.{cases_lt, eqb-true}, lemmas.List.append-nil, lemmas.List.Elements.{All-head, All-tail}}
use Rattle.rb_base.specs.Sizes.{sync_slot_of}
use Rattle.rb_rules.specs.{Goodness.Scenario, Ports.HandIn, Rounds.{Moment, moment, records_of, steps_of, windows_in}}
use Rattle.rb_rules.proofs.{Books.records-are, HandIns.moments-more}
use Rattle.rb_laws_events.proofs.{HandedMoments.before-frame, MomentBooks.number-of}
use Rattle.rb_group.specs.Portions.{deliveries_in, port_deliveries}
use Rattle.rb_laws_groups.proofs.Added.{step-tells, told-more, told_in}

-- Moments of the run.

-- each hand-in is for a later frame
abbrev pub AreLater : ℕ → List HandIn → Type 0
AreLater frame [] = ⊤
AreLater frame (h ∷ hs) = (frame < h.frame) × AreLater frame hs

pub are-later : (frame : ℕ) (hs : List HandIn) → All (λ h. frame < h.frame) hs → AreLater frame hs
are-later frame [] all = tt
are-later frame (h ∷ hs) all = (All-head (λ h. frame < h.frame) h hs all, are-later frame hs (All-tail (λ h. frame < h.frame) h hs all))

-- the number of the moment with which the next frame begins
abbrev pub past_frame : Scenario → ℕ → ℕ
past_frame sc frame = (frame + 1) * (windows_in sc.sizes + 1)

-- hand-ins of later frames change no moment up to the end of a frame
pub moments-alike : (sc : Scenario) (more hands : List HandIn) (frame : ℕ) → AreLater frame more → (n : ℕ) → n < past_frame sc frame
    → moment sc (hands ++ more) n ≡ moment sc hands n
moments-alike sc [] hands frame late n early = ap (λ hs. moment sc hs n) (append-nil hands)
moments-alike sc (h ∷ more) hands frame late n early =
    let here : (moment sc hands n).frame < frame + 1 = before-frame sc hands n (frame + 1) early in
    ap (λ hs. moment sc hs n) (sym (append_assoc hands (h ∷ []) more))
    ∙ moments-alike sc more (hands ++ h ∷ []) frame late.1 n early
    ∙ moments-more sc hands h n (below (moment sc hands n).frame frame h.frame here late.0)
  where
    below : (a frame b : ℕ) → a < frame + 1 → frame < b → a < b
    below a frame b x y = omega (arith, x, y)

-- What ports deliver.

-- once the frame has ended nothing more is told of it
told-still : (sc : Scenario) (hands : List HandIn) (frame i p : ℕ) → past_frame sc frame ≤ p + 1
    → told_in frame i (moment sc hands (suc p)).book ≡ told_in frame i (moment sc hands p).book
told-still sc hands frame i p past =
    elim (step-tells sc hands (moment sc hands p) frame) [
      | inl none ↦ none i
      | inr adds ↦
          let size : ℕ = windows_in sc.sizes + 1 in
          let m : Moment = moment sc hands p in
          let number = number-of sc hands p in
          let other : (m.frame == frame) ≡ false =
          not-here (m.frame == frame) (λ e.
          let same : m.frame * size ≡ frame * size = ap (λ f. f * size) (eqb-true m.frame frame e) in
          let next : past_frame sc frame ≡ frame * size + size = one-more frame size in
          let at : m.window ≡ 3 * adds.slot + 2 = adds.at in
          let below : adds.slot < sync_slot_of sc.sizes = adds.below in
          omega (arith, number.0, same, next, past, at, below)) in
          ap (port_deliveries frame i) adds.given ∙ told-more frame i m.book.given _
          ∙ ap (λ b. told_in frame i m.book ++ (if b then deliveries_in frame adds.slot i m.book.lines else [])) other
          ∙ append-nil (told_in frame i m.book)
    ]
  where
    one-more : (a n : ℕ) → (a + 1) * n ≡ a * n + n
    one-more a n = omega arith

    not-here : (b : Bool) → (b ≡ true → ⊥) → b ≡ false
    not-here true h = absurd (h refl)
    not-here false h = refl

pub told-after : (sc : Scenario) (hands : List HandIn) (frame i p k : ℕ) → past_frame sc frame ≤ p + 1
    → told_in frame i (moment sc hands (p + k)).book ≡ told_in frame i (moment sc hands p).book
told-after sc hands frame i p zero past = ap (λ n. told_in frame i (moment sc hands n).book) (same p)
  where
    same : (p : ℕ) → p + 0 ≡ p
    same p = omega arith
told-after sc hands frame i p (suc k) past =
    ap (λ n. told_in frame i (moment sc hands n).book) (same p k)
    ∙ told-still sc hands frame i (p + k) (omega (arith, past)) ∙ told-after sc hands frame i p k past
  where
    same : (p k : ℕ) → p + suc k ≡ suc (p + k)
    same p k = omega arith

-- a frame is told alike
pub deliveries-alike : (sc : Scenario) (hands more : List HandIn) (frame : ℕ) → AreLater frame more → (i : ℕ)
    → port_deliveries frame i (records_of sc (hands ++ more)) ≡ port_deliveries frame i (records_of sc hands)
deliveries-alike sc hands more frame late i =
    ap (port_deliveries frame i) (records-are sc (hands ++ more))
    ∙ elim (cases_lt (steps_of sc) (past_frame sc frame)) [
      | inl early ↦ ap (λ m. told_in frame i m.book) (moments-alike sc more hands frame late (steps_of sc) early)
      | inr past ↦
          let last : ℕ = past_frame sc frame - 1 in
          let some : 1 ≤ past_frame sc frame = positive frame (windows_in sc.sizes) in
          let is : last + (steps_of sc - last) ≡ steps_of sc = add-sub_of_le (omega (arith, past)) in
          ap (λ n. told_in frame i (moment sc (hands ++ more) n).book) (sym is)
          ∙ told-after sc (hands ++ more) frame i last (steps_of sc - last) (omega arith)
          ∙ ap (λ m. told_in frame i m.book) (moments-alike sc more hands frame late last (omega (arith, some)))
          ∙ sym (told-after sc hands frame i last (steps_of sc - last) (omega arith))
          ∙ ap (λ n. told_in frame i (moment sc hands n).book) is
    ]
    ∙ ap (port_deliveries frame i) (sym (records-are sc hands))
  where
    positive : (a n : ℕ) → 1 ≤ (a + 1) * (n + 1)
    positive a n = omega arith
