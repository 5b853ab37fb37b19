-- When the calls came that are recorded.
use Rattle.std.proofs.{Common.{◌≡◌, ◌⊎◌, ℕ, zero, suc, ◌%◌, ◌<◌, ◌≤◌, ◌==◌, ◌&&◌, Bool, true, false, Option, Some, None, cond, List, [], ◌∷◌, filter, slice_get, inl, inr, refl, sym, ◌∙◌, ap, subst, arith}, lemmas.Bool.{and_from, eq-eqb, eqb-true}, lemmas.Option.same_Some}
use Rattle.rb_base.specs.{Nodes.Side.Rmu, Sizes.sync_slot_of}
use Rattle.rb_base.proofs.Plain.{and_first, and_second}
use Rattle.rb_rules.specs.{declared.message.Message.Message, declared.message.Tag.Tag, declared.message.Tag.TheVariants.{Word, Fault, Sync as Call}, declared.sense.Sense.Sense, declared.sense.Sense.TheVariants.{Silent, One, Bad}, Clock.IsStamp, Goodness.{Scenario, is_good}, Hearing.Coming, Lawful.IsLawful, Ports.HandIn, Sense.{stamp_in, tag_suits}, Slots.role_of, Spelling.message_in}
use Rattle.rb_rules.proofs.Slots.{sync_role}
use Rattle.rb_listen.specs.{Lessons.stage_recorded, Passes.{is_call, is_sync}}
use Rattle.rb_laws_listener_learns.specs.{Ears.{Ear, HearsTheRun, IsEar, IsHeard, IsOfGood}, Receivers.{call_time, is_call_of, last_time}, Records.IsOfPlace}
use Rattle.rb_laws_listener_learns.proofs.{Ahead.call-place, Deciding.some-stamp, Latest.earlier-le, Noting.{IsNotedBy, IsPlacedAt}, Recorded.placed, Whole.{HasLesson, all-good, has-place, same-place-of}}

-- The last that passes.

pub record LastIs (p : Coming → Bool) (xs : List Coming) : Type 0 where
  pub at : ℕ
  pub coming : Coming
  pub there : slice_get xs at ≡ Some coming
  pub passes : p coming ≡ true
  pub first : Coming
  pub others : List Coming
  pub is : filter p xs ≡ first ∷ others
  pub time : last_time (filter p xs) ≡ coming.time

last-cases : (p : Coming → Bool) (xs : List Coming) → (filter p xs ≡ []) ⊎ LastIs p xs
last-cases p [] = inl refl
last-cases p (y ∷ ys) = by (p y) refl (last-cases p ys)
  where
    by : (b : Bool) → p y ≡ b → (filter p ys ≡ []) ⊎ LastIs p ys → (filter p (y ∷ ys) ≡ []) ⊎ LastIs p (y ∷ ys)
    by false e (inl none) = inl (ap (λ b. cond b (y ∷ filter p ys) (filter p ys)) e ∙ none)
    by false e (inr l) =
        let same : filter p (y ∷ ys) ≡ filter p ys = ap (λ b. cond b (y ∷ filter p ys) (filter p ys)) e in
        inr (record { at = suc l.at; coming = l.coming; there = l.there; passes = l.passes; first = l.first; others = l.others; is = same ∙ l.is; time = ap last_time same ∙ l.time })
    by true e (inl none) =
        let same : filter p (y ∷ ys) ≡ y ∷ [] = ap (λ b. cond b (y ∷ filter p ys) (filter p ys)) e ∙ ap (λ l. y ∷ l) none in
        inr (record { at = zero; coming = y; there = refl; passes = e; first = y; others = []; is = same; time = ap last_time same })
    by true e (inr l) =
        let same : filter p (y ∷ ys) ≡ y ∷ (l.first ∷ l.others) = ap (λ b. cond b (y ∷ filter p ys) (filter p ys)) e ∙ ap (λ l. y ∷ l) l.is in
        inr (record {
          at = suc l.at;
          coming = l.coming;
          there = l.there;
          passes = l.passes;
          first = y;
          others = l.first ∷ l.others;
          is = same;
          time = ap last_time same ∙ ap last_time (sym l.is) ∙ l.time;
        })

none-passes : (p : Coming → Bool) (xs : List Coming) (i : ℕ) {x : _} → filter p xs ≡ [] → slice_get xs i ≡ Some x → p x ≡ true → ⊥
none-passes p [] i none there pass = cc
none-passes p (y ∷ ys) i {x} none there pass = by (p y) refl (λ rest o is. none-passes p ys o rest is pass) i there
  where
    by : (b : Bool) → p y ≡ b → (filter p ys ≡ [] → (o : ℕ) → slice_get ys o ≡ Some x → ⊥) → (i : ℕ) → slice_get (y ∷ ys) i ≡ Some x → ⊥
    by true e again i is = let some : y ∷ filter p ys ≡ [] = sym (ap (λ b. cond b (y ∷ filter p ys) (filter p ys)) e) ∙ none in cc
    by false e again zero is = let same : y ≡ x = same_Some y x is in let both : true ≡ false = sym pass ∙ ap p (sym same) ∙ e in cc
    by false e again (suc i) is = again (sym (ap (λ b. cond b (y ∷ filter p ys) (filter p ys)) e) ∙ none) i is

pub last-is : (p : Coming → Bool) (xs : List Coming) (i : ℕ) {x : _} → slice_get xs i ≡ Some x → p x ≡ true → LastIs p xs
last-is p xs i there pass = elim (last-cases p xs) [ inl none ↦ absurd (none-passes p xs i none there pass) | inr l ↦ l ]

-- Calls.

-- the test by which calls are found
abbrev pub finds-call : Scenario → ℕ → ℕ → Coming → Bool
finds-call sc frame j c = is_call_of sc frame j (message_in sc.plan.version c.bytes) c

pub tag-sync : (t : Tag) → tag_suits true t ≡ true → is_sync t ≡ true
tag-sync Word h = cc
tag-sync Fault h = cc
tag-sync Call h = refl

-- what has a place in the sync slot, with a tag that suits, is a call
place-call : {sc ear : _} (frame : ℕ) {j at i m : _} → (p : IsPlacedAt sc ear (frame % 65536) (sync_slot_of sc.sizes) j at i m) → tag_suits (m.slot == sync_slot_of sc.sizes) m.tag ≡ true
    → finds-call sc frame j p.coming ≡ true
place-call {sc} frame {j} {m} p suits =
    ap (λ o. is_call_of sc frame j o p.coming) p.reads
    ∙ and_from ((p.coming.from == j) && is_call sc.sizes m) (m.frame == frame % 65536) (and_from (p.coming.from == j) (is_call sc.sizes m) (eq-eqb p.coming.from j p.from) call) (eq-eqb m.frame (frame % 65536) here.frame_is)
  where
    here : IsOfPlace sc (frame % 65536) m.slot m
    here = placed sc (frame % 65536) m p.place

    in_sync : (m.slot == sync_slot_of sc.sizes) ≡ true
    in_sync = eq-eqb m.slot (sync_slot_of sc.sizes) p.slot_is

    stage : m.stage ≡ 2
    stage = here.stage_is ∙ ap (λ t. stage_recorded (role_of sc.sizes t)) p.slot_is ∙ ap stage_recorded (sync_role sc.sizes)

    call : is_call sc.sizes m ≡ true
    call =
        and_from (is_sync m.tag && (m.slot == sync_slot_of sc.sizes)) (m.stage == 2)
        (and_from (is_sync m.tag) (m.slot == sync_slot_of sc.sizes) (tag-sync m.tag (ap (λ b. tag_suits b m.tag) (sym in_sync) ∙ suits)) in_sync) (eq-eqb m.stage 2 stage)

-- `c` is a call with its place in the sync slot
pub record CallFound (sc : Scenario) (ear : Ear) (frame j at i : ℕ) (c : Coming) : Type 0 where
  pub message : Message
  pub placed_at : IsPlacedAt sc ear (frame % 65536) (sync_slot_of sc.sizes) j at i message
  pub is : placed_at.coming ≡ c

call-found : (sc : Scenario) (ear : Ear) (frame j at i : ℕ) {c : _} → slice_get (ear.heard at) i ≡ Some c → (o : Option Message) → message_in sc.plan.version c.bytes ≡ o → is_call_of sc frame j o c ≡ true
    → CallFound sc ear frame j at i c
call-found sc ear frame j at i there None reads h = cc
call-found sc ear frame j at i {c} there (Some m) reads h =
    let front : ((c.from == j) && is_call sc.sizes m) ≡ true = and_first ((c.from == j) && is_call sc.sizes m) (m.frame == frame % 65536) h in
    let parts : (m.slot ≡ sync_slot_of sc.sizes) × (m.stage ≡ 2) = call-place sc.sizes m (and_second (c.from == j) (is_call sc.sizes m) front) in
    record {
      message = m;
      placed_at = record {
        coming = c;
        there = there;
        from = eqb-true c.from j (and_first (c.from == j) (is_call sc.sizes m) front);
        reads = reads;
        place = has-place sc m (eqb-true m.frame (frame % 65536) (and_second ((c.from == j) && is_call sc.sizes m) (m.frame == frame % 65536) h)) (omega (arith, parts.0))
            (parts.1 ∙ sym (ap (λ t. stage_recorded (role_of sc.sizes t)) parts.0 ∙ ap stage_recorded (sync_role sc.sizes)));
        slot_is = parts.0;
      };
      is = refl;
    }

-- the time of a recorded call has its stamp
pub stamped-call : {sc : _} (hands : List HandIn) {ear : _} → IsEar sc ear → (learned : ℕ) {k : ℕ} (n since j : ℕ) {stamp : ℕ} → k < ear.ticks → (r : Sense) → IsNotedBy sc ear since k n (learned % 65536) (sync_slot_of sc.sizes) j r
    → stamp_in r ≡ Some stamp → (1 ≤ stamp) × IsStamp ear.clock (call_time sc ear learned j stamp) stamp
stamped-call hands is learned n since j {stamp} in_time Silent h e = let none : None ≡ Some stamp = e in absurd (no-stamp stamp none)
  where
    no-stamp : (t : ℕ) → (let o : Option ℕ = None in o) ≡ Some t → ⊥
    no-stamp t x = cc
stamped-call {sc} hands {ear} is learned {k} n since j {stamp} in_time (One at m) h e =
    let same : at ≡ stamp = same_Some at stamp e in
    let before : at < ear.ticks = omega (arith, in_time, earlier-le at h.i k n h.earlier) in
    let l : LastIs (finds-call sc learned j) (ear.heard at) =
    last-is (finds-call sc learned j) (ear.heard at) h.i h.placed.there (place-call learned h.placed h.suits) in
    let heard : IsHeard ear at l.coming = record { nth = l.at; there = l.there } in
    subst (λ t. (1 ≤ t) × IsStamp ear.clock (call_time sc ear learned j t) t) same
    (some-stamp is at heard, subst (λ t. IsStamp ear.clock t at) (sym l.time) (is.stamps at l.coming before heard))
stamped-call hands is learned n since j {stamp} in_time Bad h e = absurd (no-stamp stamp e)
  where
    no-stamp : (t : ℕ) → (let o : Option ℕ = None in o) ≡ Some t → ⊥
    no-stamp t x = cc

-- the time of a good RMU's call is found
pub found-call : {sc hands : _} → IsLawful sc → {ear : _} → IsEar sc ear → HearsTheRun sc hands ear → {learned k n s : _} → k < ear.ticks
    → HasLesson sc hands ear learned k n s → (j : ℕ) → is_good sc Rmu j learned (sync_slot_of sc.sizes) ≡ true → (at i : ℕ) {c : _} → at ≤ k → slice_get (ear.heard at) i ≡ Some c
    → finds-call sc learned j c ≡ true → call_time sc ear learned j at ≡ c.time
found-call {sc} {hands} law {ear} is run {learned} in_time lesson j good at i {c} le there pass =
    l.time ∙ ap (λ (x : Coming). x.time) same
  where
    l : LastIs (finds-call sc learned j) (ear.heard at)
    l = last-is (finds-call sc learned j) (ear.heard at) i there pass

    mine : CallFound sc ear learned j at i c
    mine = call-found sc ear learned j at i there (message_in sc.plan.version c.bytes) refl pass

    last : CallFound sc ear learned j at l.at l.coming
    last = call-found sc ear learned j at l.at l.there (message_in sc.plan.version l.coming.bytes) refl l.passes

    of_good : (o : ℕ) (x : Coming) (f : CallFound sc ear learned j at o x) → IsOfGood sc hands ear f.placed_at.coming
    of_good o x f = all-good law is run in_time lesson good at f.placed_at.coming le f.placed_at.from (record { nth = o; there = f.placed_at.there })

    places : (at ≡ at) × (i ≡ l.at)
    places =
        same-place-of law is run mine.placed_at last.placed_at (omega (arith, le, in_time)) (omega (arith, le, in_time))
        (of_good i c mine) (of_good l.at l.coming last)

    same : l.coming ≡ c
    same = same_Some l.coming c (sym l.there ∙ ap (slice_get (ear.heard at)) (sym places.1) ∙ there)
