-- The first records of a run, up to a frame, stay the first, whatever is handed in for later
-- frames.
use Rattle.std.proofs.{Common.{◌≡◌, ℕ, zero, suc, ◌+◌, ◌-◌, ◌*◌, ◌<◌, ◌≤◌, ◌⊎◌, true, inl, inr, List, [], ◌∷◌, ◌++◌, append_assoc, refl, sym, ◌∙◌, ap, subst, arith}, Math.Nat.add-sub_of_le, lemmas.Bool.cases_lt}
use Rattle.rb_base.proofs.Plain.{times-more}
use Rattle.rb_rules.specs.{Book.Record, Goodness.Scenario, Ports.HandIn, Rounds.{Moment, moment, records_of, steps_of, windows_in}, WorldStep.IsPrefix}
use Rattle.rb_rules.proofs.Books.{all-given, given-are, records-are}
use Rattle.rb_laws_events.proofs.MomentBooks.{number-of}
use Rattle.rb_rules_bridge.specs.{declared.bank.Bank.Bank, Bridges.{Bridge, bus_on}, Crossings.{hands_of, hands_on, hands_up_to, records_on}}
use Rattle.rb_laws_bridge.specs.Laws.{AreFirstOf, AreUpTo, EarlierRecordsStay, ends_run, frame_told}
use Rattle.rb_laws_bridge.proofs.{Handed.{MoreLater, more-later}, Later.{AreLater, are-later, moments-alike, past_frame}, Ordered.{IsGivenAt, given-at}}

-- a list is empty, or has a last item
last-of : {X : Type 0} (xs : List X) → (xs ≡ []) ⊎ ((before : List X) × ((x : X) × (xs ≡ before ++ x ∷ [])))
last-of [] = inl refl
last-of (x ∷ xs) = elim (last-of xs) [
  | inl none ↦ inr ([], (x, ap (λ l. x ∷ l) none))
  | inr some ↦ inr (x ∷ some.0, (some.1.0, ap (λ l. x ∷ l) some.1.1))
]

no-item : {X : Type 0} (before : List X) (x : X) → [] ≡ before ++ x ∷ [] → ⊥
no-item [] x e = cc
no-item (y ∷ ys) x e = cc

same-last : {X : Type 0} (xs ys : List X) (x y : X) → xs ++ x ∷ [] ≡ ys ++ y ∷ [] → x ≡ y
same-last [] [] x y e = cc
same-last [] (b ∷ ys) x y e = absurd (no-item ys y (let t : [] ≡ ys ++ y ∷ [] = cc in t))
same-last (a ∷ xs) [] x y e = absurd (no-item xs x (sym (let t : xs ++ x ∷ [] ≡ [] = cc in t)))
same-last (a ∷ xs) (b ∷ ys) x y e = same-last xs ys x y (let t : xs ++ x ∷ [] ≡ ys ++ y ∷ [] = cc in t)

times : (a b c : ℕ) → a ≤ b → a * c ≤ b * c
times zero b c le = omega arith
times (suc a) zero c le = absurd (omega (arith, le))
times (suc a) (suc b) c le = let h : a * c ≤ b * c = times a b c (omega (arith, le)) in omega (arith, h)

-- the moments of a frame come before the next one begins
in-frame : (sc : Scenario) (hands : List HandIn) (n frame : ℕ) → (moment sc hands n).frame ≤ frame → n < past_frame sc frame
in-frame sc hands n frame le = elim (cases_lt n (past_frame sc frame)) [ inl lt ↦ lt | inr past ↦ absurd (never past) ]
  where
    size : ℕ
    size = windows_in sc.sizes + 1

    m : Moment
    m = moment sc hands n

    never : past_frame sc frame ≤ n → ⊥
    never past =
        let number = number-of sc hands n in
        let most : m.frame * size ≤ frame * size = times m.frame frame size le in
        let next : past_frame sc frame ≡ frame * size + size = times-more frame size in
        omega (arith, number.0, number.1, most, next, past)

-- all steps of a run come before its last frame has ended
all-steps : (sc : Scenario) (frame n : ℕ) → sc.frames ≤ frame → n ≤ steps_of sc → n < past_frame sc frame
all-steps sc frame n late few =
    let le : (sc.frames + 1) * (windows_in sc.sizes + 1) ≤ past_frame sc frame = times (sc.frames + 1) (frame + 1) (windows_in sc.sizes + 1) (omega (arith, late)) in
    let next : (sc.frames + 1) * (windows_in sc.sizes + 1) ≡ sc.frames * (windows_in sc.sizes + 1) + (windows_in sc.sizes + 1) = times-more sc.frames (windows_in sc.sizes + 1) in
    let some : 1 ≤ windows_in sc.sizes = omega arith in
    omega (arith, next, le, few, some)

-- The moment of the last record is one of both runs.

last-stays : {sc hands : _} (more : List HandIn) {before r frame : _} → AreLater frame more
    → IsGivenAt sc hands before r (steps_of sc) → frame_told sc.frames r ≤ frame → AreFirstOf (before ++ r ∷ []) (records_of sc (hands ++ more))
last-stays {sc} {hands} more {before} {r} {frame} late g upto = record {
  first = subst (λ records. IsPrefix records (records_of sc (hands ++ more))) given (given-are sc (hands ++ more) g.at x.book refl g.early);
  whole = λ others s are ends.
      let last : ends_run r ≡ true = ap ends_run (same-last before others r s are) ∙ ends in
      sym (all-given sc (hands ++ more) g.at (ap (λ (m : Moment). m.book.ended) same ∙ g.ends last) g.early) ∙ given;
}
  where
    x : Moment
    x = moment sc (hands ++ more) g.at

    early : g.at < past_frame sc frame
    early =
        elim (cases_lt frame sc.frames) [
          | inr past ↦ all-steps sc frame g.at past g.early
          | inl below ↦ elim (cases_lt frame (moment sc hands g.at).frame) [
            | inr le ↦ in-frame sc hands g.at frame le
            | inl lt ↦ let after : frame < frame_told sc.frames r = g.lower frame lt below in absurd (omega (arith, after, upto))
          ]
        ]

    same : x ≡ moment sc hands g.at
    same = moments-alike sc more hands frame late g.at early

    given : x.book.given ≡ before ++ r ∷ []
    given = ap (λ (m : Moment). m.book.given) same ∙ g.given

pub records-stay : (sc : Scenario) (hands more : List HandIn) {records frame : _} → AreLater frame more
    → IsPrefix records (records_of sc hands) → AreUpTo sc.frames frame records → AreFirstOf records (records_of sc (hands ++ more))
records-stay sc hands more {records} late first upto =
    elim (last-of records) [
      | inl none ↦ record {
        first = subst (λ rs. IsPrefix rs (records_of sc (hands ++ more))) (sym none) (records_of sc (hands ++ more), refl);
        whole = λ before r are ends. absurd (no-item before r (sym none ∙ are));
      }
      | inr some ↦
          let before : List Record = some.0 in
          let r : Record = some.1.0 in
          let are : records_of sc hands ≡ before ++ r ∷ first.0 = first.1 ∙ ap (λ l. l ++ first.0) some.1.1 ∙ append_assoc before (r ∷ []) first.0 in
          subst (λ rs. AreFirstOf rs (records_of sc (hands ++ more))) (sym some.1.1)
          (last-stays more late (given-at sc hands before first.0 r (steps_of sc) (sym (records-are sc hands) ∙ are)) (upto before [] r some.1.1))
    ]

pub earlier-stay : EarlierRecordsStay
earlier-stay sc hands more records frame late first upto = records-stay sc hands more (are-later frame more late) first upto

-- The first records of a bus of a bridge, up to a frame, are those with what was handed in up to
-- its start.
pub first-crossed : (b : Bridge) (bank : Bank) {frame records : _} → frame ≤ b.left.frames → IsPrefix records (records_on b (hands_up_to b frame) bank)
    → AreUpTo (bus_on b bank).frames frame records → AreFirstOf records (records_on b (hands_of b) bank)
first-crossed b bank {frame} {records} le first upto =
    let all : frame + (b.left.frames - frame) ≡ b.left.frames = add-sub_of_le le in
    let m : MoreLater b bank frame (b.left.frames - frame) = more-later b bank frame (b.left.frames - frame) in
    let before : List HandIn = hands_on bank (hands_up_to b frame) in
    let are : hands_on bank (hands_of b) ≡ before ++ m.more = ap (λ n. hands_on bank (hands_up_to b n)) (sym all) ∙ m.is in
    subst (λ hands. AreFirstOf records (records_of (bus_on b bank) hands)) (sym are) (records-stay (bus_on b bank) before m.more m.late first upto)
