-- What the turns of a plain drive tell of a frame that is over is all that the run tells of it.
use Rattle.std.proofs.{Common.{◌≡◌, ℕ, ◌<◌, ◌≤◌, ◌==◌, ◌||◌, max, nat_lt, Bool, true, false, inl, inr, if◌then◌else◌, Option, Some, None, List, [], ◌∷◌, ◌++◌, append_assoc, refl, sym, ◌∙◌, ap, subst, arith}, lemmas.Bool.{cases_lt, ltb-true}, lemmas.Bool.Decides.nat_tests, lemmas.Grind.flat_map-append, lemmas.List.append-nil}
use Rattle.std.specs.Option.{option_or, option_to_list}
use Rattle.rb_base.specs.declared.values.Place.{Place}
use Rattle.rb_base.proofs.Plain.{option_or-none}
use Rattle.rb_rules.specs.{declared.cause.Cause.Cause, Book.Record, Book.Record.{Frame, Slot, Ended, Breach}, Goodness.Scenario, Ports.HandIn, Rounds.records_of}
use Rattle.rb_world_book.specs.{Records.record_of, declared.turn.Turn.Turn}
use Rattle.rb_group.specs.Portions.{deliveries_in, port_deliveries, told_of}
use Rattle.rb_run.specs.Turns.{records_in}
use Rattle.rb_run.proofs.{Plain.records-back, Texts.records-more}
use Rattle.rb_world.specs.{Nexts.is_last, Worlds.KeptWorld}
use Rattle.rb_group_run.specs.Replies.{frame_of, reached}
use Rattle.rb_rules_bridge.specs.{declared.bank.Bank.Bank, declared.bank.Bank.TheVariants.Left, Texts.{Break, break_in, break_told}}
use Rattle.rb_laws_bridge.specs.Laws.{TellAll, frame_told}
use Rattle.rb_laws_bridge.proofs.{Breaks.break_in-append, Ordered.told-in-order}
use Rattle.rb_bridge.specs.{Passing.is_over, Running.{AreNotLast, IsUnderWay}}
use Rattle.rb_bridge.proofs.UnderWay.{first-given, whole-given}
use Rattle.rb_world_book.specs.declared.turn.Turn.TheVariants as shown

-- turns that end nothing tell no breach
pub no-break : (bank : Bank) (frame : ℕ) (turns : List Turn) → AreNotLast turns → break_in bank frame (records_in turns) ≡ None
no-break bank frame [] all = refl
no-break bank frame (shown.Quiet ∷ ts) all = no-break bank frame ts all.1
no-break bank frame (shown.Frame f ∷ ts) all = no-break bank frame ts all.1
no-break bank frame (shown.Slot s ∷ ts) all = no-break bank frame ts all.1
no-break bank frame (shown.Ended ∷ ts) all = absurd (let e : true ≡ false = all.0 in cc)
no-break bank frame (shown.Breach place cause ∷ ts) all = absurd (let e : true ≡ false = all.0 in cc)

break_in-more : (bank : Bank) (frame : ℕ) (rs : List Record) (r : Record) → break_in bank frame rs ≡ None → break_in bank frame (rs ++ r ∷ []) ≡ break_told bank frame r
break_in-more bank frame [] r none = option_or-none (break_told bank frame r)
break_in-more bank frame (x ∷ xs) r none = by (break_told bank frame x) refl none (break_in-more bank frame xs r)
  where
    by : (o : Option Break) → break_told bank frame x ≡ o → option_or o (break_in bank frame xs) ≡ None
        → (break_in bank frame xs ≡ None → break_in bank frame (xs ++ r ∷ []) ≡ break_told bank frame r)
        → option_or (break_told bank frame x) (break_in bank frame (xs ++ r ∷ [])) ≡ break_told bank frame r
    by None e none rest = ap (λ o. option_or o (break_in bank frame (xs ++ r ∷ []))) e ∙ rest none
    by (Some b) e none rest = cc

pub one-frame : (frames : ℕ) (r : Record) → frame_told frames r ≡ frame_of frames r
one-frame frames (Frame frame nodes ports) = refl
one-frame frames (Slot frame slot lines) = refl
one-frame frames Ended = refl
one-frame frames (Breach place cause) = refl

-- a record of a later frame tells no delivery
none-told : (frames frame i : ℕ) (r : Record) → frame < frame_told frames r → told_of frame i r ≡ []
none-told frames frame i (Frame f nodes ports) later = refl
none-told frames frame i (Slot f slot lines) later = let other : (f == frame) ≡ false = grind (arith, nat_tests) in ap (λ b. if b then deliveries_in frame slot i lines else []) other
none-told frames frame i Ended later = refl
none-told frames frame i (Breach place cause) later = refl

-- a record that ends a run tells no delivery
none-last : (frame i : ℕ) (r : Record) → is_last (Some r) ≡ true → told_of frame i r ≡ []
none-last frame i (Frame f nodes ports) last = absurd (cc)
none-last frame i (Slot f slot lines) last = absurd (cc)
none-last frame i Ended last = refl
none-last frame i (Breach place cause) last = refl

-- the frame is over with record `r`: the records before `r` tell all that ports deliver in the
-- frame, and a breach in the frame is `r` itself
pub record TellsFrame (sc : Scenario) (handed : List HandIn) (frame : ℕ) (bank : Bank) (records : List Record) (r : Record) : Type 0 where
  pub deliveries : (receiver : ℕ) → port_deliveries frame receiver records ≡ port_deliveries frame receiver (records_of sc handed)
  pub breach : break_in bank frame (records_of sc handed) ≡ break_told bank frame r

-- the records that the turns of a plain drive are
pub records-are-given : (sc : Scenario) (handed : List HandIn) (told since : Option (List Turn)) (k : KeptWorld) (turns : List Turn) (t : Turn) (r : Record) (over : Bool)
    → record_of t ≡ Some r → (is : IsUnderWay sc handed true told since k (turns ++ t ∷ []) over) → is.world.book.given ≡ records_in turns ++ r ∷ []
records-are-given sc handed told since k turns t r over is-r is =
    sym (records-back is.world.book.given) ∙ ap records_in (sym (is.plain refl)) ∙ records-more turns t ∙ ap (λ o. records_in turns ++ option_to_list o) is-r

-- the records of the turns are the first records of the run
pub records-are-first : (sc : Scenario) (handed : List HandIn) (told since : Option (List Turn)) (k : KeptWorld) (turns : List Turn) (t : Turn) (r : Record) (over : Bool)
    → record_of t ≡ Some r → IsUnderWay sc handed true told since k (turns ++ t ∷ []) over → (rest : List Record) × (records_of sc handed ≡ records_in turns ++ r ∷ rest)
records-are-first sc handed told since k turns t r over is-r is =
    let first = first-given sc handed true told since k (turns ++ t ∷ []) over is in
    (first.0, first.1 ∙ ap (λ l. l ++ first.0) (records-are-given sc handed told since k turns t r over is-r is) ∙ append_assoc (records_in turns) (r ∷ []) first.0)

pub passed-tells : (sc : Scenario) (handed : List HandIn) (told since : Option (List Turn)) (k : KeptWorld) (turns : List Turn) (frames frame : ℕ) (t : Turn) (r : Record)
    → record_of t ≡ Some r → IsUnderWay sc handed true told since k (turns ++ t ∷ []) (is_last (record_of t)) → AreNotLast turns
    → is_over frames frame (record_of t) ≡ true → frames ≡ sc.frames → (bank : Bank) → TellsFrame sc handed frame bank (records_in turns) r
passed-tells sc handed told since k turns frames frame t r is-r given going over same bank =
    record { deliveries = λ receiver. told-by receiver (is_last (record_of t)) refl; breach = by (is_last (record_of t)) refl }
  where
    records : List Record
    records = records_in turns

    none : break_in bank frame records ≡ None
    none = no-break bank frame turns going

    whole : is_last (record_of t) ≡ true → records_of sc handed ≡ records ++ r ∷ []
    whole e =
        let now : IsUnderWay sc handed true told since k (turns ++ t ∷ []) true = subst (λ over. IsUnderWay sc handed true told since k (turns ++ t ∷ []) over) e given in
        sym (whole-given sc handed true told since k (turns ++ t ∷ []) now) ∙ records-are-given sc handed told since k turns t r true is-r now

    all : frame < frame_told sc.frames r → TellAll sc handed frame (records ++ r ∷ [])
    all now =
        let first = records-are-first sc handed told since k turns t r (is_last (record_of t)) is-r given in
        told-in-order sc handed records first.0 r frame first.1 now

    later-one : (l : Bool) → (nat_lt frame (frame_of frames r) || l) ≡ true → l ≡ false → frame < frame_of frames r
    later-one l h e = from (nat_lt frame (frame_of frames r)) l refl h e
      where
        from : (b l : Bool) → nat_lt frame (frame_of frames r) ≡ b → (b || l) ≡ true → l ≡ false → frame < frame_of frames r
        from true l f h e = ltb-true frame (frame_of frames r) f
        from false l f h e = cc

    later : is_last (record_of t) ≡ false → frame < frame_told sc.frames r
    later e =
        let is : is_over frames frame (Some r) ≡ true = ap (is_over frames frame) (sym is-r) ∙ over in
        let late : frame < frame_of frames r = later-one (is_last (Some r)) is (ap is_last (sym is-r) ∙ e) in
        subst (λ n. frame < n) (ap (λ f. frame_of f r) same ∙ sym (one-frame sc.frames r)) late

    with-none : (receiver : ℕ) → told_of frame receiver r ≡ [] → port_deliveries frame receiver records ≡ port_deliveries frame receiver (records ++ r ∷ [])
    with-none receiver e =
        sym (flat_map-append (told_of frame receiver) records (r ∷ [])
        ∙ ap (λ ds. port_deliveries frame receiver records ++ (ds ++ [])) e
        ∙ append-nil (port_deliveries frame receiver records))

    told-by : (receiver : ℕ) (l : Bool) → is_last (record_of t) ≡ l → port_deliveries frame receiver records ≡ port_deliveries frame receiver (records_of sc handed)
    told-by receiver true e =
        with-none receiver (none-last frame receiver r (ap is_last (sym is-r) ∙ e)) ∙ ap (port_deliveries frame receiver) (sym (whole e))
    told-by receiver false e = with-none receiver (none-told sc.frames frame receiver r (later e)) ∙ (all (later e)).deliveries receiver

    by : (l : Bool) → is_last (record_of t) ≡ l → break_in bank frame (records_of sc handed) ≡ break_told bank frame r
    by true e = ap (break_in bank frame) (whole e) ∙ break_in-more bank frame records r none
    by false e = sym ((all (later e)).breach bank) ∙ break_in-more bank frame records r none

-- No breach comes of an earlier frame.

or-first : {X : Type 0} (a b : Option X) → option_or a b ≡ None → a ≡ None
or-first None b e = refl
or-first (Some x) b e = cc

-- a record of a frame that the records have reached
record HasReached (frames frame : ℕ) (records : List Record) : Type 0 where
  pub before : List Record
  pub after : List Record
  pub there : Record
  pub are : records ≡ before ++ there ∷ after
  pub later : frame < frame_of frames there

has-reached : (frames frame : ℕ) (records : List Record) → frame < reached frames records → HasReached frames frame records
has-reached frames frame [] lt = absurd (omega (arith, lt))
has-reached frames frame (r ∷ rs) lt =
    elim (cases_lt frame (frame_of frames r)) [
      | inl this ↦ record { before = []; after = rs; there = r; are = refl; later = this }
      | inr none ↦
          let h : HasReached frames frame rs = has-reached frames frame rs (rest frame (frame_of frames r) (reached frames rs) lt none) in
          record { before = r ∷ h.before; after = h.after; there = h.there; are = ap (λ l. r ∷ l) h.are; later = h.later }
    ]
  where
    rest : (frame a b : ℕ) → frame < max a b → a ≤ frame → frame < b
    rest frame a b x y = omega (arith, x, y)

none-some : {X : Type 0} (o : Option X) (x : X) → o ≡ None → o ≡ Some x → ⊥
none-some o x none some = cc

pub breaks-late : (sc : Scenario) (handed : List HandIn) (records rest : List Record) (place : Place) (cause : Cause) → records_of sc handed ≡ records ++ Breach place cause ∷ rest
    → ((bank : Bank) (frame : ℕ) → break_in bank frame records ≡ None) → reached sc.frames records ≤ place.frame
breaks-late sc handed records rest place cause are none =
    elim (cases_lt place.frame (reached sc.frames records)) [
      | inr le ↦ le
      | inl lt ↦ absurd (never (has-reached sc.frames place.frame records lt))
    ]
  where
    never : HasReached sc.frames place.frame records → ⊥
    never h =
        let whole : records_of sc handed ≡ h.before ++ h.there ∷ (h.after ++ Breach place cause ∷ rest) =
        are ∙ ap (λ l. l ++ Breach place cause ∷ rest) h.are ∙ append_assoc h.before (h.there ∷ h.after) (Breach place cause ∷ rest) in
        let all : TellAll sc handed place.frame (h.before ++ h.there ∷ []) =
        told-in-order sc handed h.before (h.after ++ Breach place cause ∷ rest) h.there place.frame whole (subst (λ n. place.frame < n) (sym (one-frame sc.frames h.there)) h.later) in
        let early : break_in Left place.frame (h.before ++ h.there ∷ []) ≡ None =
        or-first (break_in Left place.frame (h.before ++ h.there ∷ [])) (break_in Left place.frame h.after)
        (sym (break_in-append Left place.frame (h.before ++ h.there ∷ []) h.after)
        ∙ ap (break_in Left place.frame) (append_assoc h.before (h.there ∷ []) h.after ∙ sym h.are) ∙ none Left place.frame) in
        let told : break_in Left place.frame (records_of sc handed) ≡ option_or (break_told Left place.frame (Breach place cause)) (break_in Left place.frame rest) =
        ap (break_in Left place.frame) are ∙ break_in-append Left place.frame records (Breach place cause ∷ rest)
        ∙ ap (λ o. option_or o (option_or (break_told Left place.frame (Breach place cause)) (break_in Left place.frame rest))) (none Left place.frame) in
        let this : (place.frame == place.frame) ≡ true = grind (arith, nat_tests) in
        let some : break_in Left place.frame (records_of sc handed) ≡ Some (record { bank = Left; place = place; cause = cause }) =
        told ∙ ap (λ b. option_or (if b then Some (record { bank = Left; place = place; cause = cause }) else None) (break_in Left place.frame rest)) this in
        none-some (break_in Left place.frame (records_of sc handed)) (record { bank = Left; place = place; cause = cause }) (sym (all.breach Left) ∙ early) some
