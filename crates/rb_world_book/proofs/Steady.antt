-- A stage follows another, and the same nodes are good.
use Rattle.std.proofs.{Common.{◌≡◌, ◌≢◌, ℕ, ◌+◌, ◌<◌, ◌≤◌, ◌^◌, ◌==◌, ◌&&◌, ◌||◌, not, nat_lt, Bool, true, false, List, Option, Some, None, get_or, refl, sym, ◌∙◌, ap, subst, arith, if◌then◌else◌}, lemmas.Bool.Decides.nat_tests}
use Rattle.std.specs.Prelude.{min}
use Rattle.rb_base.specs.{Nodes.{Side, has}, Nodes.Side.{Biu, Rmu}, Sizes.{Sizes, sync_slot_of}, declared.values.Place.Place}
use Rattle.rb_base.proofs.Sets.{eq_other, has-is, is_set_of, same_set_of, set_of-lt}
use Rattle.rb_rules.specs.{Book.Milestone, Goodness.{Scenario, good_at, is_before, is_good, onsets_of}, Slots.count_of}
use Rattle.rb_world_onset.specs.Faults.{Faults}
use Rattle.rb_world_book.specs.{declared.group.Group.Group, declared.book.Book.Book as KeptBook, declared.milestone.Milestone.TheVariants.Stage, declared.told.Told.Told, Grouping.AwaitsGood, Holding.{AllStay, GoodNext, IsSteady}, Settling.GoesKind, Telling.{has_told, told_at}, Waiting.waiting_for}
use Rattle.rb_world_book.proofs.Sources.{has-told, told-there}

-- a node that has told of one stage last has not told of another
not-both : (place next : Place) (t : Told) → (place.stage == next.stage) ≡ false → has_told (Stage place) t ≡ true → has_told (Stage next) t ≡ false
not-both place next t other told = by (has_told (Stage next) t) refl
  where
    last : (a b c : Bool) → (a && b && c) ≡ true → c ≡ true
    last a b true e = refl
    last true true false e = absurd (cc)
    last true false false e = absurd (cc)
    last false b false e = absurd (cc)

    stage-of : (p : Place) → has_told (Stage p) t ≡ true → (t.place.stage == p.stage) ≡ true
    stage-of p e = last (t.place.frame == p.frame) (t.place.slot == p.slot) (t.place.stage == p.stage) (told-there p t e)

    differ : (a b c : ℕ) → (b == c) ≡ false → (a == b) ≡ true → (a == c) ≡ true → true ≡ false
    differ a b c h e f = absurd (grind (arith, nat_tests))

    by : (b : Bool) → has_told (Stage next) t ≡ b → has_told (Stage next) t ≡ false
    by false e = e
    by true e = e ∙ differ t.place.stage place.stage next.stage other (stage-of place told) (stage-of next e)

-- if all good nodes have told of one stage last, all are awaited at another
all-wait : (sc : Scenario) (kind : Side) (place next : Place) (good n : ℕ) (told : List Told) → n ≡ count_of kind sc.sizes → (place.stage == next.stage) ≡ false
    → good ≡ good_at sc kind place.frame place.slot → waiting_for n good (Stage place) told ≡ 0 → good ≡ waiting_for n good (Stage next) told
unfolding waiting_for
all-wait sc kind place next good n told same other is none =
    is_set_of good _ (subst (λ s. s < 2 ^ 16) (sym is) (set_of-lt (λ i. is_good sc kind i place.frame place.slot))) (λ i h. by i h (has good i) refl)
  where
    front : (a b : Bool) → (a && b) ≡ true → a ≡ true
    front true b e = refl
    front false b e = absurd (cc)

    within : (i : ℕ) → i < 16 → has good i ≡ true → nat_lt i n ≡ true
    within i h e =
        ap (nat_lt i) same
        ∙ front (nat_lt i (count_of kind sc.sizes)) (is_before (get_or (onsets_of kind sc) i None) place.frame place.slot)
        (sym (has-is good i (λ i. is_good sc kind i place.frame place.slot) is h) ∙ e)

    out : (a : Bool) → false ≡ (a && false)
    out true = refl
    out false = refl

    by : (i : ℕ) → i < 16 → (b : Bool) → has good i ≡ b → has good i ≡ (nat_lt i n && (has good i && not (has_told (Stage next) (told_at told i))))
    by i h false e = e ∙ out (nat_lt i n) ∙ ap (λ b. nat_lt i n && (b && not (has_told (Stage next) (told_at told i)))) (sym e)
    by i h true e =
        let not_yet : has_told (Stage next) (told_at told i) ≡ false =
        not-both place next (told_at told i) other (has-told n good place told i none h (within i h e) e) in
        e ∙ ap (λ b. b && (true && true)) (sym (within i h e)) ∙ ap (λ b. nat_lt i n && (b && true)) (sym e)
        ∙ ap (λ b. nat_lt i n && (has good i && not b)) (sym not_yet)

-- if a node is good at two slots, or at neither, the same holds at those between
between : (onset : Option (ℕ × ℕ)) (frame a b c : ℕ) → a ≤ b → b ≤ c → is_before onset frame a ≡ is_before onset frame c → is_before onset frame a ≡ is_before onset frame b
between None frame a b c low high same = refl
between (Some at) frame a b c low high same = by (nat_lt frame at.0) (frame == at.0) (nat_lt a at.1) (nat_lt b at.1) (nat_lt c at.1) refl refl refl same
  where
    down : (nat_lt b at.1) ≡ true → nat_lt a at.1 ≡ true
    down e = grind (arith, nat_tests)

    down-2 : (nat_lt c at.1) ≡ true → nat_lt b at.1 ≡ true
    down-2 e = grind (arith, nat_tests)

    by : (x y p q r : Bool) → nat_lt a at.1 ≡ p → nat_lt b at.1 ≡ q → nat_lt c at.1 ≡ r → (x || (y && p)) ≡ (x || (y && r)) → (x || (y && p)) ≡ (x || (y && q))
    by true y p q r ep eq er e = refl
    by false false p q r ep eq er e = refl
    by false true true true r ep eq er e = refl
    by false true false false r ep eq er e = refl
    by false true true false true ep eq er e = let h : false ≡ true = sym eq ∙ down-2 er in absurd (cc)
    by false true true false false ep eq er e = absurd (cc)
    by false true false true r ep eq er e = let h : false ≡ true = sym ep ∙ down eq in absurd (cc)

pub stays-good : (kind : Side) (sizes : Sizes) (good lasting sync : ℕ) (place next : Place) → good ≡ lasting → sync ≡ sync_slot_of sizes → place.slot ≢ sync
    → next.frame ≡ place.frame → (place.slot < sync → next.slot ≡ place.slot + 1) → GoodNext kind sizes good lasting place next
stays-good kind sizes good lasting sync place next same sync_is before frame slot = λ sc is within now last.
    let end : sync ≡ sync_slot_of sc.sizes = sync_is ∙ ap (λ (s : Sizes). sync_slot_of s) is in
    let below : place.slot < sync = less place.slot sync (subst (λ n. place.slot ≤ n) (sym end) within) before in
    let then_is : next.slot ≡ place.slot + 1 = slot below in
    let not_past : next.slot ≤ sync_slot_of sc.sizes = subst (λ n. next.slot ≤ n) end (omega (arith, then_is, below)) in
    now ∙ same_set_of _ _ (λ i h.
    ap (λ b. nat_lt i (count_of kind sc.sizes) && b) refl ∙ at sc i now last (omega (arith, then_is)) not_past h
    ∙ ap (λ f. is_good sc kind i f next.slot) (sym frame))
  where
    less : (a b : ℕ) → a ≤ b → a ≢ b → a < b
    less a b h e = grind (arith, nat_tests)

    both : (a x y z : Bool) → (a && x) ≡ (a && z) → (x ≡ z → x ≡ y) → (a && x) ≡ (a && y)
    both true x y z e f = f e
    both false x y z e f = refl

    at : (sc : Scenario) (i : ℕ) → good ≡ good_at sc kind place.frame place.slot → lasting ≡ good_at sc kind place.frame (sync_slot_of sc.sizes)
        → place.slot ≤ next.slot → next.slot ≤ sync_slot_of sc.sizes → i < 16 → is_good sc kind i place.frame place.slot ≡ is_good sc kind i place.frame next.slot
    at sc i now last low high h =
        both (nat_lt i (count_of kind sc.sizes)) (is_before (get_or (onsets_of kind sc) i None) place.frame place.slot)
        (is_before (get_or (onsets_of kind sc) i None) place.frame next.slot) (is_before (get_or (onsets_of kind sc) i None) place.frame (sync_slot_of sc.sizes))
        (sym (has-is good i (λ i. is_good sc kind i place.frame place.slot) now h) ∙ ap (λ s. has s i) same
        ∙ has-is lasting i (λ i. is_good sc kind i place.frame (sync_slot_of sc.sizes)) last h)
        (between (get_or (onsets_of kind sc) i None) place.frame place.slot next.slot (sync_slot_of sc.sizes) low high)

-- if all good nodes stay good to the end of the frame, the stage after the last of a slot is steady
pub next-slot : (l : KeptBook) (place : Place) (sync slot : ℕ) → 3 ≤ place.stage → sync ≡ sync_slot_of l.shape → sync < 65536 → (place.slot ≡ sync → ⊥)
    → AllStay l.bius l.rmus → slot ≡ min (place.slot + 1) 65535 → IsSteady l place (record { frame = place.frame; slot = slot; stage = 1 })
next-slot l place sync slot late sync_is few before stay slot_is = record {
  after = λ fits. sym (ap (λ b. if b then Milestone.Stage (record place { stage = place.stage + 1 })
      else (if place.slot == sync_slot_of l.shape then Milestone.Begin (place.frame + 1) else Milestone.Stage (record { frame = place.frame; slot = place.slot + 1; stage = 1 }))) (not-less place.stage late)
      ∙ ap (λ b. if b then Milestone.Begin (place.frame + 1) else Milestone.Stage (record { frame = place.frame; slot = place.slot + 1; stage = 1 })) (not-same place.slot sync before sync_is)
      ∙ ap (λ n. Milestone.Stage (record { frame = place.frame; slot = n; stage = 1 })) (sym (slot_is ∙ least (place.slot + 1) fits)));
  other = not-one place.stage late;
  bius = stays-good Biu l.shape l.bius.good l.bius.lasting sync place (record { frame = place.frame; slot = slot; stage = 1 }) stay.bius sync_is before refl (λ h. slot_is ∙ least (place.slot + 1) (omega (arith, h, few)));
  rmus = stays-good Rmu l.shape l.rmus.good l.rmus.lasting sync place (record { frame = place.frame; slot = slot; stage = 1 }) stay.rmus sync_is before refl (λ h. slot_is ∙ least (place.slot + 1) (omega (arith, h, few)));
}
  where
    not-less : (a : ℕ) → 3 ≤ a → nat_lt a 3 ≡ false
    not-less a h = grind (arith, nat_tests)

    not-one : (a : ℕ) → 3 ≤ a → (a == 1) ≡ false
    not-one a h = grind (arith, nat_tests)

    not-same : (a b : ℕ) → (a ≡ b → ⊥) → b ≡ sync_slot_of l.shape → (a == sync_slot_of l.shape) ≡ false
    not-same a b h e = eq_other a (sync_slot_of l.shape) (λ same. h (same ∙ sym e))

    least : (a : ℕ) → a < 65536 → min a 65535 ≡ a
    least a h = grind (arith, nat_tests)

-- What the nodes of a kind told if the next stage is the upcoming one.

pub goes-on : {K : Type 0} (kind : Side) (sizes : Sizes) (onsets : Faults) (place next : Place) (before after : Group K) → (place.stage == next.stage) ≡ false
    → GoodNext kind sizes before.good before.lasting place next → AwaitsGood before after → GoesKind kind sizes onsets place before after (Stage next)
goes-on kind sizes onsets place next before after other good awaits = record {
  turns = λ sc is now none. record {
    told = awaits.told;
    lasting = awaits.lasting;
    counted = awaits.counted;
    waiting = awaits.waiting
        ∙ all-wait sc kind place next before.good (count_of kind sizes) before.told (ap (λ (s : Sizes). count_of kind s) is) other now none
        ∙ ap (λ g. waiting_for (count_of kind sizes) g (Stage next) before.told) (sym awaits.good);
  };
  good = λ sc is faults within now last. awaits.good ∙ good sc is within now last;
}
