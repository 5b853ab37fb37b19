-- The turns of a plain drive are the records of the rounds.
use Rattle.std.proofs.{Common.{◌≡◌, true, List, [], ◌∷◌, ◌++◌, length, map, refl, sym, ap, ◌∙◌, arith, length-append}, lemmas.List.{append-nil, length-map}}
use Rattle.rb_rules.specs.{Book.Record, Book.Record.{Frame, Slot, Ended, Breach}, Goodness.Scenario, Rounds.records_of}
use Rattle.rb_world_book.specs.declared.turn.Turn.{Turn}
use Rattle.rb_run.specs.{Seen.SeenDrive, Turns.{AreAll, AreGiven, records_in, turn_of}}

-- the records of the turns of some records are these records
pub records-back : (rs : List Record) → records_in (map turn_of rs) ≡ rs
records-back [] = refl
records-back (Frame frame nodes ports ∷ rs) = ap (λ xs. Frame frame nodes ports ∷ xs) (records-back rs)
records-back (Slot frame slot lines ∷ rs) = ap (λ xs. Slot frame slot lines ∷ xs) (records-back rs)
records-back (Ended ∷ rs) = ap (λ xs. Ended ∷ xs) (records-back rs)
records-back (Breach place cause ∷ rs) = ap (λ xs. Breach place cause ∷ xs) (records-back rs)

no-rest : (xs : List Record) → length xs ≡ 0 → xs ≡ []
no-rest [] e = refl
no-rest (x ∷ xs) e = absurd (omega (arith, e))

-- the records of all turns
pub plain-records : (sc : Scenario) (drive : SeenDrive) (turns : List Turn) → drive.is_plain ≡ true → AreGiven sc drive turns → AreAll sc turns → records_in turns ≡ records_of sc []
plain-records sc drive turns plain given all =
    let many = ap length (given.plain plain) ∙ length-map given.records turn_of in
    let sum = ap length given.first.1 ∙ length-append given.records given.first.0 in
    let rest : given.first.0 ≡ [] = no-rest given.first.0 (omega (arith, many, sum, all)) in
    ap records_in (given.plain plain) ∙ records-back given.records ∙ sym (given.first.1 ∙ ap (λ xs. given.records ++ xs) rest ∙ append-nil given.records)
