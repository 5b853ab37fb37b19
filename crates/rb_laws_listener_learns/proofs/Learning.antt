-- What holds of a search at each tick: what it has recorded it has since soon after calls of good
-- RMUs, and when it decides.
use Rattle.std.proofs.{Common.{◌≡◌, ◌⊎◌, ℕ, suc, ◌+◌, ◌*◌, ◌<◌, ◌≤◌, ◌==◌, ◌&&◌, Bool, true, false, Option, Some, None, is_some, List, length, get_or, replicate, slice_get, if◌then◌else◌, inl, inr, refl, sym, ◌∙◌, ap, subst, arith}, lemmas.Bool.{eq-eqb, eqb-true}, lemmas.List.{length-replicate, length-set}, lemmas.Option.same_Some}
use Rattle.rb_base.specs.Sizes.{IsShape, Sizes, sync_slot_of}
use Rattle.rb_base.proofs.Plain.{and_first, and_second}
use Rattle.rb_rules.specs.{declared.message.Message.Message, declared.sense.Sense.TheVariants.Silent, Core.is_tick, Goodness.Scenario, Hearing.Coming, Lawful.IsLawful, Ports.HandIn, Rounds.moment, Spelling.message_in}
use Rattle.rb_listen.specs.{Lessons.{frame_after, has_place, lesson_on, noted, nothing_recorded, record_of, with_message, with_record}, Listening.{first_search, if_pass, is_deciding, later, learning, recorded, searching, timed}, Passes.{is_call, pass_of, reach_of}, declared.lesson.Lesson.Lesson, declared.passes.Call.Call, declared.search.Search.Search}
use Rattle.rb_laws_listener_learns.specs.Ears.{Ear, HearsTheRun, IsEar, is_always_good, listening_at}
use Rattle.rb_laws_listener_learns.proofs.{Apart.come-apart, Deciding.{IsAfterCall, IsHeardCall, IsWell, heard-call, kept-well, newest-well, recorded-well}, Fresh.{CallsToo, GoodInPass, IsGoodCall, IsSoon, IsStillToCome, as-call, call-at, call-there, calls-together, good-in-pass, next-frame-number, pass-is-soon, same-frame-number, still-to-come, well-known}, Latest.{IsCallAt, IsLate, IsLatest, earlier-by, earlier-le, going, kept-latest, not-yet, recorded-latest, whole-earlier}, Noting.{AreNotedBy, HasRoom, begun-noted, none-noted, noted-noted, tick-noted}, PassSets.{BeginsAt, pass-at}, Recorded.IsEarlier, Searchings.{RecordsOnly, pass-by, recorded-only, search-by, with_call}, Seeks.{always-counts, no-onset, none-there, timed-frame}, Walks.{HoldsAt, IsKept, always-at}}

-- What holds.

-- the tick of the decision comes `reach_of` ticks after one at which not all good calls of the
-- frame had come
pub record IsFixed (sc : Scenario) (hands : List HandIn) (ear : Ear) (number tick : ℕ) : Type 0 where
  pub first : ℕ
  pub tick_is : tick ≡ first + reach_of sc.plan
  pub call : IsStillToCome sc hands ear number first

-- a lesson that has all that came since soon after good calls of the frame before
pub record LearnsFrom (sc : Scenario) (hands : List HandIn) (ear : Ear) (k n : ℕ) (lesson : Lesson) : Type 0 where
  pub number : ℕ
  pub next : lesson.frame ≡ frame_after number
  pub at : ℕ
  pub call : IsGoodCall sc hands ear number at
  pub since : ℕ
  pub soon : since ≤ at + reach_of sc.plan
  pub long : length lesson.records ≡ 1808
  pub noted : AreNotedBy sc ear since k n lesson
  pub fixed : (tick : ℕ) → lesson.decides ≡ Some tick → IsFixed sc hands ear lesson.frame tick

-- if there is a pass, the search learns its frame and has fixed when it decides, or it learns the
-- frame after
abbrev pub IsPassKnown : Scenario → Search → Type 0
IsPassKnown sc s =
    (q : ℕ) → pass_of sc.sizes sc.plan s.newest ≡ Some q
    → (s.learns ≡ true) × (((s.lesson.frame ≡ q) × (is_some s.lesson.decides ≡ true)) ⊎ (s.lesson.frame ≡ frame_after q))

pub record LearnsWell (sc : Scenario) (hands : List HandIn) (ear : Ear) (k n : ℕ) (s : Search) : Type 0 where
  pub pass : IsPassKnown sc s
  pub lesson : s.learns ≡ true → LearnsFrom sc hands ear k n s.lesson

pub record IsFresh (sc : Scenario) (hands : List HandIn) (ear : Ear) (k n : ℕ) (s : Search) : Type 0 where
  pub well : IsWell sc hands ear k n s
  pub latest : IsLatest sc ear k n s
  pub learns : LearnsWell sc hands ear k n s

-- At first.

first-learns : (sc : Scenario) (hands : List HandIn) (ear : Ear) → LearnsWell sc hands ear 0 0 first_search
unfolding first_search
first-learns sc hands ear = record {
  pass = λ q is.
      let b : BeginsAt sc.sizes sc.plan (replicate 16 (let none : Option Call = None in none)) q = pass-at sc.sizes sc.plan (replicate 16 (let none : Option Call = None in none)) is in
      let both : None ≡ Some b.call = sym (none-there 16 b.i) ∙ b.there in absurd (cc);
  lesson = λ learns. let e : false ≡ true = learns in cc;
}

-- A lesson begins.

nothing-long : length nothing_recorded ≡ 1808
unfolding nothing_recorded
nothing-long = length-replicate 1808 Silent

begun : {sc hands ear : _} (k n : ℕ) {number : ℕ} (since : ℕ) {at : ℕ} → IsGoodCall sc hands ear number at → since ≤ at + reach_of sc.plan
    → ((b o : ℕ) → IsEarlier b o k n → b ≤ since) → LearnsFrom sc hands ear k n (lesson_on (frame_after number))
begun {sc} {ear} k n {number} since {at} call soon before = record {
  number = number;
  next = refl;
  at = at;
  call = call;
  since = since;
  soon = soon;
  long = nothing-long;
  noted = begun-noted sc ear since k n (lesson_on (frame_after number)) refl before;
  fixed = λ tick is. let none : None ≡ Some tick = is in cc;
}

-- A lesson goes on.

-- `LearnsFrom` holds with the records of later messages too
with-noted : {sc : Scenario} {hands : List HandIn} {ear : Ear} {k n l o : ℕ} {a b : Lesson} → (h : LearnsFrom sc hands ear k n a) → b.frame ≡ a.frame → b.decides ≡ a.decides
    → length b.records ≡ length a.records → AreNotedBy sc ear h.since l o b → LearnsFrom sc hands ear l o b
with-noted {sc} {hands} {ear} h frame decides long noted = record {
  number = h.number;
  next = frame ∙ h.next;
  at = h.at;
  call = h.call;
  since = h.since;
  soon = h.soon;
  long = long ∙ h.long;
  noted = noted;
  fixed = λ tick is. subst (λ f. IsFixed sc hands ear f tick) (sym frame) (h.fixed tick (sym decides ∙ is));
}

pub record NotedParts (a b : Lesson) : Type 0 where
  pub frame : b.frame ≡ a.frame
  pub decides : b.decides ≡ a.decides
  pub long : length b.records ≡ length a.records

noted-parts : (sizes : Sizes) (j at : ℕ) (m : Message) (lesson : Lesson) → NotedParts lesson (noted sizes j at m lesson)
noted-parts sizes j at m lesson = by (has_place sizes lesson.frame m)
  where
    by : (b : Bool) → NotedParts lesson (if b then record lesson { records = with_record sizes j at m lesson.records } else lesson)
    by true = record { frame = refl; decides = refl; long = length-set lesson.records (16 * m.slot + j) (with_message (m.slot == sync_slot_of sizes) at m (record_of lesson.records m.slot j)) }
    by false = record { frame = refl; decides = refl; long = refl }

room : (sc : Scenario) → IsShape sc.sizes → (lesson : Lesson) → length lesson.records ≡ 1808 → HasRoom sc.sizes lesson
room sc shape lesson long = omega (arith, long, shape.most_bius, shape.most_rmus, shape.most_slots)

-- message n is of no RMU, or no message
not-there : {sc : Scenario} {hands : List HandIn} {ear : Ear} {k n : ℕ} {c : Coming} {s : Search} → slice_get (ear.heard k) n ≡ Some c
    → (c.from < sc.sizes.rmus → (m : Message) → message_in sc.plan.version c.bytes ≡ Some m → ⊥) → LearnsWell sc hands ear k n s → LearnsWell sc hands ear k (suc n) s
not-there {sc} {hands} {ear} {k} {n} {c} {s} there none h = record {
  pass = h.pass;
  lesson = λ learns.
      let l : LearnsFrom sc hands ear k n s.lesson = h.lesson learns in
      with-noted l refl refl refl
      (none-noted l.since s.lesson (λ slot j m within placed.
      let same : placed.coming ≡ c = same_Some placed.coming c (sym placed.there ∙ there) in
      let from : j ≡ c.from = sym placed.from ∙ ap (λ (x : Coming). x.from) same in
      none (omega (arith, within, from)) m (ap (λ (x : Coming). message_in sc.plan.version x.bytes) (sym same) ∙ placed.reads)) l.noted);
}

recorded-learns : {sc : Scenario} {hands : List HandIn} {ear : Ear} → IsShape sc.sizes → {k n : ℕ} {c : Coming} {m : Message} {s : Search} → slice_get (ear.heard k) n ≡ Some c
    → c.from < sc.sizes.rmus → message_in sc.plan.version c.bytes ≡ Some m → s.had ≡ k → LearnsWell sc hands ear k n s → LearnsWell sc hands ear k (suc n) (recorded sc.sizes c.from m s)
recorded-learns {sc} {hands} {ear} shape {k} {n} {c} {m} {s} there within reads had h = record {
  pass = λ q is.
      let known = h.pass q (ap (pass_of sc.sizes sc.plan) (sym only.newest) ∙ is) in
      (only.learns ∙ known.0, elim known.1 [ inl both ↦ inl (only.frame ∙ both.0, ap is_some only.decides ∙ both.1) | inr after ↦ inr (only.frame ∙ after) ]);
  lesson = λ learns. by s.learns refl (sym only.learns ∙ learns);
}
  where
    only : RecordsOnly s (recorded sc.sizes c.from m s)
    only = recorded-only sc.sizes c.from m s

    with-it : LearnsFrom sc hands ear k n s.lesson → LearnsFrom sc hands ear k (suc n) (noted sc.sizes c.from s.had m s.lesson)
    with-it l =
        let parts : NotedParts s.lesson (noted sc.sizes c.from s.had m s.lesson) = noted-parts sc.sizes c.from s.had m s.lesson in
        with-noted l parts.frame parts.decides parts.long
        (subst (λ t. AreNotedBy sc ear l.since k (suc n) (noted sc.sizes c.from t m s.lesson)) (sym had)
        (noted-noted sc ear l.since k n s.lesson shape within (room sc shape s.lesson l.long) there refl reads l.noted))

    by : (b : Bool) → s.learns ≡ b → b ≡ true → LearnsFrom sc hands ear k (suc n) (elim b as (λ _. Search) [ true ↦ record s { lesson = noted sc.sizes c.from s.had m s.lesson } | false ↦ s ]).lesson
    by true e learns = with-it (h.lesson e)
    by false e learns = let both : false ≡ true = learns in absurd (cc)

-- A pass.

timed-some : (tick : ℕ) (lesson : Lesson) → is_some (timed tick lesson).decides ≡ true
timed-some tick lesson = by (is_some lesson.decides) refl
  where
    by : (b : Bool) → is_some lesson.decides ≡ b → is_some (elim b as (λ _. Lesson) [ true ↦ lesson | false ↦ record lesson { decides = Some tick } ]).decides ≡ true
    by true e = e
    by false e = refl

timed-learns : {sc : Scenario} {hands : List HandIn} {ear : Ear} {k n : ℕ} (tick : ℕ) {lesson : Lesson} → (is_some lesson.decides ≡ false → IsFixed sc hands ear lesson.frame tick)
    → LearnsFrom sc hands ear k n lesson → LearnsFrom sc hands ear k n (timed tick lesson)
timed-learns {sc} {hands} {ear} {k} {n} tick {lesson} fixed h = by (is_some lesson.decides) refl
  where
    by : (b : Bool) → is_some lesson.decides ≡ b → LearnsFrom sc hands ear k n (elim b as (λ _. Lesson) [ true ↦ lesson | false ↦ record lesson { decides = Some tick } ])
    by true e = h
    by false e = record {
      number = h.number;
      next = h.next;
      at = h.at;
      call = h.call;
      since = h.since;
      soon = h.soon;
      long = h.long;
      noted = h.noted;
      fixed = λ t is. subst (IsFixed sc hands ear lesson.frame) (same_Some tick t is) (fixed e);
    }

not-after : {q : ℕ} → q ≡ frame_after q → ⊥
not-after e = omega (arith, e)

both-false : (a b : Bool) → (a && b) ≡ false → a ≡ true → b ≡ true → ⊥
both-false true true h p q = cc
both-false true false h p q = cc
both-false false b h p q = cc

-- a call, and the pass that it may make
pass-learns : {sc hands : _} → IsLawful sc → {ear : _} → IsEar sc ear → HearsTheRun sc hands ear → {k n : ℕ} (from : ℕ) {q : ℕ} (m : Message) (s : Search) → k < ear.ticks
    → from < sc.sizes.rmus → IsWell sc hands ear k n (recorded sc.sizes from m s) → IsWell sc hands ear k n (with_call sc.sizes from m s) → IsLatest sc ear k n (recorded sc.sizes from m s)
    → LearnsWell sc hands ear k (suc n) (recorded sc.sizes from m s) → pass_of sc.sizes sc.plan (with_call sc.sizes from m s).newest ≡ Some q
    → LearnsWell sc hands ear k (suc n) (if_pass sc.plan (Some q) (with_call sc.sizes from m s))
pass-learns {sc} {hands} law {ear} is run {k} {n} from {q} m s in_time within before after latest h made =
    pass-by sc.plan q w (LearnsWell sc hands ear k (suc n)) (record { fixes = fixes; stays = stays; begins = begins })
  where
    w : Search
    w = with_call sc.sizes from m s

    call : Call
    call = record { frame = m.frame; at = (recorded sc.sizes from m s).had }

    soon : (pass_of sc.sizes sc.plan (recorded sc.sizes from m s).newest ≡ Some q → ⊥) → IsSoon sc hands ear q k
    soon none =
        pass-is-soon law.sizes run.most_good from call (recorded sc.sizes from m s).newest (omega (arith, latest.long, within, law.sizes.most_rmus)) before.had before.inside
        (well-known after) none made

    same-pass : (p : ℕ) → pass_of sc.sizes sc.plan (with_call sc.sizes from m s).newest ≡ Some p → q ≡ p
    same-pass p is_p = same_Some q p (sym made ∙ is_p)

    fixes : (with_call sc.sizes from m s).learns ≡ true → q ≡ (with_call sc.sizes from m s).lesson.frame
        → LearnsWell sc hands ear k (suc n) (record (with_call sc.sizes from m s) { lesson = timed ((with_call sc.sizes from m s).had + reach_of sc.plan) (with_call sc.sizes from m s).lesson })
    fixes learns frame = record {
      pass = λ p is_p. (
        learns,
        inl (
          timed-frame ((with_call sc.sizes from m s).had + reach_of sc.plan) (with_call sc.sizes from m s).lesson ∙ sym frame ∙ same-pass p is_p,
          timed-some ((with_call sc.sizes from m s).had + reach_of sc.plan) (with_call sc.sizes from m s).lesson,
        ),
      );
      lesson = λ again.
          timed-learns ((with_call sc.sizes from m s).had + reach_of sc.plan) (fixed (h.lesson learns)) (h.lesson learns);
    }
      where
        fixed : LearnsFrom sc hands ear k (suc n) (recorded sc.sizes from m s).lesson → is_some (with_call sc.sizes from m s).lesson.decides ≡ false
            → IsFixed sc hands ear (with_call sc.sizes from m s).lesson.frame ((with_call sc.sizes from m s).had + reach_of sc.plan)
        fixed l none =
            let no_pass : pass_of sc.sizes sc.plan (recorded sc.sizes from m s).newest ≡ Some q → ⊥ =
            λ was. elim (h.pass q was).1 [
              | inl both ↦ let clash : false ≡ true = sym none ∙ both.1 in cc
              | inr next ↦ not-after (frame ∙ next)
            ] in
            record {
              first = k;
              tick_is = ap (λ t. t + reach_of sc.plan) before.had;
              call = subst (λ f. IsStillToCome sc hands ear f k) frame
                  (still-to-come law is run in_time (well-known before) latest.latest l.call
                  (frame ∙ l.next) (soon no_pass) no_pass);
            }

    stays : (with_call sc.sizes from m s).learns ≡ true → frame_after q ≡ (with_call sc.sizes from m s).lesson.frame → LearnsWell sc hands ear k (suc n) (with_call sc.sizes from m s)
    stays learns frame = record {
      pass = λ p is_p. (learns, inr (sym frame ∙ ap frame_after (same-pass p is_p)));
      lesson = h.lesson;
    }

    begins : ((with_call sc.sizes from m s).learns && (q == (with_call sc.sizes from m s).lesson.frame)) ≡ false
        → ((with_call sc.sizes from m s).learns && (frame_after q == (with_call sc.sizes from m s).lesson.frame)) ≡ false
        → LearnsWell sc hands ear k (suc n) (learning (frame_after q) (with_call sc.sizes from m s))
    begins a b =
        let no_pass : pass_of sc.sizes sc.plan (recorded sc.sizes from m s).newest ≡ Some q → ⊥ =
        λ was.
        let known = h.pass q was in
        elim known.1 [
          | inl both ↦
              both-false (recorded sc.sizes from m s).learns (q == (recorded sc.sizes from m s).lesson.frame) a known.0 (eq-eqb q (recorded sc.sizes from m s).lesson.frame (sym both.0))
          | inr next ↦
              both-false (recorded sc.sizes from m s).learns (frame_after q == (recorded sc.sizes from m s).lesson.frame) b known.0
              (eq-eqb (frame_after q) (recorded sc.sizes from m s).lesson.frame (sym next))
        ] in
        let s1 : IsSoon sc hands ear q k = soon no_pass in
        record {
          pass = λ p is_p. (refl, inr (ap frame_after (same-pass p is_p)));
          lesson = λ learns. begun k (suc n) k s1.call s1.high (λ t o e. earlier-le t o k (suc n) e);
        }

call-learns : {sc hands : _} → IsLawful sc → {ear : _} → IsEar sc ear → HearsTheRun sc hands ear → {k n : ℕ} (from : ℕ) (m : Message) (s : Search) → k < ear.ticks
    → from < sc.sizes.rmus → IsWell sc hands ear k n (recorded sc.sizes from m s) → IsWell sc hands ear k n (with_call sc.sizes from m s) → IsLatest sc ear k n (recorded sc.sizes from m s)
    → LearnsWell sc hands ear k (suc n) (recorded sc.sizes from m s) → (o : Option ℕ) → pass_of sc.sizes sc.plan (with_call sc.sizes from m s).newest ≡ o
    → LearnsWell sc hands ear k (suc n) (if_pass sc.plan o (with_call sc.sizes from m s))
call-learns law is run from m s in_time within before after latest h None made =
    record { pass = λ q is_q. let both : None ≡ Some q = sym made ∙ is_q in absurd (cc); lesson = h.lesson }
call-learns law is run from m s in_time within before after latest h (Some q) made =
    pass-learns law is run from m s in_time within before after latest h made

heard-learns : {sc hands : _} → IsLawful sc → {ear : _} → IsEar sc ear → HearsTheRun sc hands ear → {k n c : _} → k < ear.ticks
    → slice_get (ear.heard k) n ≡ Some c → {s : _} → IsFresh sc hands ear k n s → LearnsWell sc hands ear k (suc n) (searching sc.sizes sc.plan c.from c.bytes s)
heard-learns {sc} {hands} law {ear} is run {k} {n} {c} in_time there {s} h =
    search-by c.bytes (LearnsWell sc hands ear k (suc n)) (going is in_time h.well.had) (record {
      nothing = λ none. not-there there none h.learns;
      message = λ within m reads other. recorded-learns law.sizes there within reads h.well.had h.learns;
      call = λ within m reads calls o made.
          let before : IsWell sc hands ear k n (recorded sc.sizes c.from m s) = recorded-well c.from m h.well in
          call-learns law is run c.from m s in_time within before
          (newest-well c.from m.frame within (λ good. known within m reads calls good) before)
          (recorded-latest c.from m h.latest) (recorded-learns law.sizes there within reads h.well.had h.learns) o made;
    })
  where
    known : c.from < sc.sizes.rmus → (m : Message) → message_in sc.plan.version c.bytes ≡ Some m → is_call sc.sizes m ≡ true → is_always_good sc hands c.from ≡ true
        → IsHeardCall sc hands ear c.from m.frame k
    known within m reads calls good =
        elim (run.only k c in_time (record { nth = n; there = there }) within) [
          | inl of_good ↦ heard-call law is in_time (record { nth = n; there = there }) of_good reads calls
          | inr faulty ↦ absurd (no-onset good faulty)
        ]

-- Ticks.

pub ticked : (o : Option ℕ) (k : ℕ) → is_tick o k ≡ true → o ≡ Some k
ticked None k h = cc
ticked (Some t) k h = ap (λ x. Some x) (eqb-true t k h)

-- if the search decides, there is no pass of the frame before
decides-late : {sc hands : _} → IsLawful sc → {ear : _} → IsEar sc ear → HearsTheRun sc hands ear → {k n s : _} → k < ear.ticks
    → slice_get (ear.heard k) n ≡ None → IsWell sc hands ear k n s → IsLatest sc ear k n s → s.lesson.decides ≡ Some k → {q : ℕ} → pass_of sc.sizes sc.plan s.newest ≡ Some q
    → s.lesson.frame ≡ frame_after q → ⊥
decides-late {sc} {hands} law {ear} is run {k} {n} {s} in_time whole well latest decides {q} made next =
    late (latest.latest g.j at.0 there.0 (always-counts sc hands g.j g.good) there.1 (whole-earlier ear at.0 there.0 k n there.1.there whole by_now))
  where
    b : BeginsAt sc.sizes sc.plan s.newest q
    b = pass-at sc.sizes sc.plan s.newest made

    g : GoodInPass sc hands s.newest b.call.frame b.call.at
    g = good-in-pass sc hands law.sizes run.most_good well.inside b

    old : IsHeardCall sc hands ear g.j g.there.call.frame g.there.call.at × (g.there.call.at ≤ k)
    old = well.newest g.j g.there.call g.good g.there.is

    after : IsAfterCall sc hands ear s.lesson.frame k
    after = well.decides k decides

    at : (t : ℕ) × CallsToo sc hands ear after.call.n g.j t
    at = call-at law is run after.call g.j g.good

    of_q : g.there.call.frame ≡ q
    of_q = g.there.falls.frame_is ∙ b.frame_is

    frames : (moment sc hands after.call.n).frame ≡ (moment sc hands old.0.n).frame + 1
    frames =
        next-frame-number law old.0 after.call (next ∙ ap frame_after (sym of_q))

    gap : g.there.call.at + reach_of sc.plan < at.0
    gap =
        come-apart sc hands law ear is old.0.n after.call.n g.j g.j old.0.sending at.1.calls.sending old.0.window_is after.call.window_is (omega (arith, frames)) old.0.sent at.1.calls.sent
        g.there.call.at at.0 old.0.some old.0.stamped at.1.stamped

    mine : IsHeardCall sc hands ear g.j s.lesson.frame at.0
    mine = as-call after.call at.1 (omega (arith, gap))

    by_now : at.0 ≤ k
    by_now =
        omega (
          arith,
          after.late,
          calls-together law is after.call mine
              (same-frame-number law after.call mine refl),
        )

    there : (i : ℕ) × IsCallAt sc ear at.0 i g.j
    there = call-there law at.1 (omega (arith, gap)) (omega (arith, by_now, in_time))

    late : IsLate at.0 (get_or s.newest g.j None) → ⊥
    late l = let now : IsLate at.0 (Some g.there.call) = subst (IsLate at.0) g.there.is l in let le : at.0 ≤ g.there.call.at = now in omega (arith, le, gap)

decided-learns : {sc hands : _} → IsLawful sc → {ear : _} → IsEar sc ear → HearsTheRun sc hands ear → {k n s : _} → k < ear.ticks
    → slice_get (ear.heard k) n ≡ None → IsFresh sc hands ear k n s → is_deciding s ≡ true → LearnsWell sc hands ear (suc k) 0 (learning (frame_after s.lesson.frame) (later s))
decided-learns {sc} {hands} law {ear} is run {k} {s} in_time whole h deciding = record {
  pass = λ q made. (
    refl,
    inr (elim (h.learns.pass q made).1 [
      | inl both ↦ ap frame_after both.0
      | inr next ↦ absurd (decides-late law is run in_time whole h.well h.latest at_k made next)
    ]),
  );
  lesson = λ again.
      begun (suc k) 0 k fixed.call.call (omega (arith, fixed.tick_is, fixed.call.late)) (λ t o e. earlier-by t o k e);
}
  where
    learns : s.learns ≡ true
    learns = and_first s.learns (is_tick s.lesson.decides s.had) deciding

    at_k : s.lesson.decides ≡ Some k
    at_k = ticked s.lesson.decides s.had (and_second s.learns (is_tick s.lesson.decides s.had) deciding) ∙ ap (λ t. Some t) h.well.had

    fixed : IsFixed sc hands ear s.lesson.frame k
    fixed = (h.learns.lesson learns).fixed k at_k

later-learns : {sc : Scenario} {hands : List HandIn} {ear : Ear} {k n : ℕ} {s : Search} → slice_get (ear.heard k) n ≡ None → LearnsWell sc hands ear k n s → LearnsWell sc hands ear (suc k) 0 (later s)
later-learns {sc} {hands} {ear} {k} {n} {s} whole h = record {
  pass = h.pass;
  lesson = λ learns.
      let l : LearnsFrom sc hands ear k n s.lesson = h.lesson learns in
      with-noted l refl refl refl (tick-noted sc ear l.since k n s.lesson whole l.noted);
}

pub kept-fresh : {sc hands : _} → IsLawful sc → {ear : _} → IsEar sc ear → HearsTheRun sc hands ear → IsKept sc ear (IsFresh sc hands ear)
kept-fresh {sc} {hands} law {ear} is run = record {
  first = record { well = wells.first; latest = latests.first; learns = first-learns sc hands ear };
  heard = λ k n c in_time there s h. record {
    well = wells.heard k n c in_time there s h.well;
    latest = latests.heard k n c in_time there s h.latest;
    learns = heard-learns law is run in_time there h;
  };
  decided = λ k n s in_time whole h deciding. record {
    well = wells.decided k n s in_time whole h.well deciding;
    latest = latests.decided k n s in_time whole h.latest deciding;
    learns = decided-learns law is run in_time whole h deciding;
  };
  later = λ k n s in_time whole h on. record {
    well = wells.later k n s in_time whole h.well on;
    latest = latests.later k n s in_time whole h.latest on;
    learns = later-learns whole h.learns;
  };
  lasts = λ k n s in_time h. not-yet is in_time h.well.had;
}
  where
    wells : IsKept sc ear (IsWell sc hands ear)
    wells = kept-well law is run

    latests : IsKept sc ear (IsLatest sc ear)
    latests = kept-latest law.sizes is

pub fresh-at : {sc hands : _} → IsLawful sc → {ear : _} → IsEar sc ear → HearsTheRun sc hands ear → (k : ℕ) → k < ear.ticks → HoldsAt ear (IsFresh sc hands ear) k (listening_at sc ear k)
fresh-at {sc} {hands} law {ear} is run k in_time = always-at (IsFresh sc hands ear) (kept-fresh law is run) k in_time
