-- A decision comes as many ticks after a pass as calls of good RMUs may lie apart, and in a pass
-- there is such a call.
use Rattle.std.proofs.{Common.{◌≡◌, ℕ, zero, suc, ◌+◌, ◌*◌, ◌%◌, ◌^◌, ◌<◌, ◌≤◌, ◌==◌, ◌&&◌, nat_lt, Bool, true, false, Option, Some, None, is_some, List, get_or, slice_get, if◌then◌else◌, inl, inr, refl, sym, ◌∙◌, ap, subst, arith}, lemmas.Bool.{cases_lt, eqb-true, ltb-true}, lemmas.Option.same_Some}
use Rattle.rb_base.specs.{Nodes.{has, set_of}, Sizes.{IsShape, Sizes, sync_slot_of}}
use Rattle.rb_base.proofs.{Plain.{and_first, and_second}, Sets.has-set_of}
use Rattle.rb_rules.specs.{declared.message.Message.Message, Clock.IsStamp, Goodness.Scenario, Hearing.{Coming, Sending}, Lawful.IsLawful, Ports.HandIn, Rounds.moment, Spelling.message_in}
use Rattle.rb_laws_agreement.proofs.Tests.{Passing}
use Rattle.rb_listen.specs.{Lessons.{frame_after, has_place, noted, with_record}, Listening.{first_search, if_message, if_pass, later, learning, newest_with, passing, recorded, searching, timed, with_message, with_pass}, Passes.{are_most, calling, falls_in, is_call, is_sync, pass_of, reach_of}, declared.lesson.Lesson.Lesson, declared.passes.Call.Call, declared.search.Search.Search}
use Rattle.rb_laws_listener_learns.specs.{Deciding.{CallsHaveCome, DecidesAfterTheCalls}, Ears.{Ear, HearsTheRun, IsEar, IsHeard, IsOfGood, SendsIn, coming_to, is_always_good, listening_at}}
use Rattle.rb_laws_listener_learns.proofs.{Latest.not-yet, Meeting.meet, Recorded.reads-sent, Seeks.{Begins, falls, good-inside, good-rmus, good-set, no-onset, none-there, pass-begins, set-case, set-other}, Sendings.{IsInPlace, in-place}, Together.come-together, Walks.{HoldsIn, IsKept, always}}

-- RMU j called in a frame of this number, and the call came with this stamp
pub record IsHeardCall (sc : Scenario) (hands : List HandIn) (ear : Ear) (j number at : ℕ) : Type 0 where
  pub n : ℕ
  pub sending : Sending
  pub sent : SendsIn sc hands n j sending
  pub window_is : (moment sc hands n).window ≡ 3 * sync_slot_of sc.sizes + 1
  pub number_is : number ≡ (moment sc hands n).frame % 65536
  pub stamped : IsStamp ear.clock (coming_to sc ear j (moment sc hands n).frame sending).time at
  pub some : 1 ≤ at

-- the tick comes that much after such a call
pub record IsAfterCall (sc : Scenario) (hands : List HandIn) (ear : Ear) (number tick : ℕ) : Type 0 where
  pub j : ℕ
  pub at : ℕ
  pub call : IsHeardCall sc hands ear j number at
  pub late : at + reach_of sc.plan ≤ tick

pub record IsWell (sc : Scenario) (hands : List HandIn) (ear : Ear) (k n : ℕ) (s : Search) : Type 0 where
  pub had : s.had ≡ k
  pub newest : (j : ℕ) (c : Call) → is_always_good sc hands j ≡ true → get_or s.newest j None ≡ Some c → IsHeardCall sc hands ear j c.frame c.at × (c.at ≤ k)
  pub inside : (j : ℕ) → sc.sizes.rmus ≤ j → get_or s.newest j None ≡ None
  pub decides : (tick : ℕ) → s.lesson.decides ≡ Some tick → IsAfterCall sc hands ear s.lesson.frame tick

first-well : (sc : Scenario) (hands : List HandIn) (ear : Ear) → IsWell sc hands ear 0 0 first_search
unfolding first_search
first-well sc hands ear = record {
  had = refl;
  newest = λ j c good is. let both : None ≡ Some c = sym (none-there 16 j) ∙ is in cc;
  inside = λ j out. none-there 16 j;
  decides = λ tick is. let e : None ≡ Some tick = is in cc;
}

learning-well : {sc hands ear k n : _} (frame : ℕ) {s : _} → IsWell sc hands ear k n s → IsWell sc hands ear k n (learning frame s)
learning-well frame h =
    record { had = h.had; newest = h.newest; inside = h.inside; decides = λ tick is. let e : None ≡ Some tick = is in cc }

-- A pass has a good RMU's call in it.

called-inside : {sc hands ear k n s : _} → IsWell sc hands ear k n s → (c : Call) (j : ℕ) → j < 16
    → has (calling (reach_of sc.plan) c.frame c.at s.newest) j ≡ true → j < sc.sizes.rmus
called-inside {sc} {s} h c j below is =
    elim (cases_lt j sc.sizes.rmus) [
      | inl within ↦ within
      | inr out ↦
          let none : falls_in (reach_of sc.plan) c.frame c.at (get_or s.newest j None) ≡ false = ap (falls_in (reach_of sc.plan) c.frame c.at) (h.inside j out) in
          let some : falls_in (reach_of sc.plan) c.frame c.at (get_or s.newest j None) ≡ true =
          sym (has-set_of j (λ i. falls_in (reach_of sc.plan) c.frame c.at (get_or s.newest i None)) below) ∙ is in
          let both : false ≡ true = sym none ∙ some in absurd (cc)
    ]

pass-after : {sc : Scenario} {hands : List HandIn} {ear : Ear} → IsShape sc.sizes → are_most sc.sizes (set_of (is_always_good sc hands)) ≡ true → {k n : ℕ} {s : Search}
    → IsWell sc hands ear k n s → {frame : ℕ} → pass_of sc.sizes sc.plan s.newest ≡ Some frame → IsAfterCall sc hands ear frame (s.had + reach_of sc.plan)
unfolding pass_of good-set
pass-after {sc} {hands} {ear} shape most {s} h {frame} is = go (pass-begins sc.sizes sc.plan s.newest s.newest is)
  where
    called : (b : Begins sc.sizes sc.plan s.newest frame) (j : ℕ) → j < 16 → has (good-set sc hands) j ≡ true
        → has (calling (reach_of sc.plan) b.call.frame b.call.at s.newest) j ≡ true → IsAfterCall sc hands ear frame (s.had + reach_of sc.plan)
    called b j below good in_set =
        let calls = falls (reach_of sc.plan) b.call.frame b.call.at (get_or s.newest j None)
        (sym (has-set_of j (λ i. falls_in (reach_of sc.plan) b.call.frame b.call.at (get_or s.newest i None)) below) ∙ in_set) in
        let known = h.newest j calls.0 (good-rmus sc hands j below good) calls.1.0 in
        record {
          j = j;
          at = calls.0.at;
          call = subst (λ f. IsHeardCall sc hands ear j f calls.0.at) (calls.1.1 ∙ b.frame_is) known.0;
          late = omega (arith, known.1, h.had);
        }

    go : Begins sc.sizes sc.plan s.newest frame → IsAfterCall sc hands ear frame (s.had + reach_of sc.plan)
    go b =
        let c : Passing (λ j. has (good-set sc hands) j && has (calling (reach_of sc.plan) b.call.frame b.call.at s.newest) j) 0 16 =
        meet sc.sizes (good-set sc hands) (calling (reach_of sc.plan) b.call.frame b.call.at s.newest) shape.most_rmus (good-inside sc hands) (called-inside h b.call) most b.most in
        called b c.at (omega (arith, c.high)) (and_first (has (good-set sc hands) c.at) (has (calling (reach_of sc.plan) b.call.frame b.call.at s.newest) c.at) c.passes)
        (and_second (has (good-set sc hands) c.at) (has (calling (reach_of sc.plan) b.call.frame b.call.at s.newest) c.at) c.passes)

pass-well : {sc : Scenario} {hands : List HandIn} {ear : Ear} {k n frame : ℕ} {s : Search} → IsAfterCall sc hands ear frame (s.had + reach_of sc.plan) → IsWell sc hands ear k n s
    → IsWell sc hands ear k n (with_pass sc.plan frame s)
pass-well {sc} {hands} {ear} {k} {n} {frame} {s} after h = by (s.learns && (frame == s.lesson.frame)) refl (s.learns && (frame_after frame == s.lesson.frame))
  where
    fixed : frame ≡ s.lesson.frame → (b : Bool) → IsWell sc hands ear k n (record s { lesson = elim b as (λ _. Lesson) [ true ↦ s.lesson | false ↦ record s.lesson { decides = Some (s.had + reach_of sc.plan) } ] })
    fixed same true = record { had = h.had; newest = h.newest; inside = h.inside; decides = h.decides }
    fixed same false = record {
      had = h.had;
      newest = h.newest;
      inside = h.inside;
      decides = λ tick is.
          subst (λ f. IsAfterCall sc hands ear f tick) same (subst (IsAfterCall sc hands ear frame) (same_Some (s.had + reach_of sc.plan) tick is) after);
    }

    by : (a : Bool) → (s.learns && (frame == s.lesson.frame)) ≡ a → (b : Bool)
        → IsWell sc hands ear k n (elim a as (λ _. Search) [
          | true ↦ record s { lesson = timed (s.had + reach_of sc.plan) s.lesson }
          | false ↦ elim b as (λ _. Search) [ true ↦ s | false ↦ learning (frame_after frame) s ]
        ])
    by true e b = fixed (eqb-true frame s.lesson.frame (and_second s.learns (frame == s.lesson.frame) e)) (is_some s.lesson.decides)
    by false e true = h
    by false e false = learning-well (frame_after frame) h

may-pass-well : {sc : Scenario} {hands : List HandIn} {ear : Ear} → IsShape sc.sizes → are_most sc.sizes (set_of (is_always_good sc hands)) ≡ true → {k n : ℕ} {s : Search}
    → IsWell sc hands ear k n s → (o : Option ℕ) → pass_of sc.sizes sc.plan s.newest ≡ o → IsWell sc hands ear k n (if_pass sc.plan o s)
may-pass-well shape most h None e = h
may-pass-well shape most h (Some frame) e = pass-well (pass-after shape most h e) h

-- Messages.

pub newest-well : {sc : Scenario} {hands : List HandIn} {ear : Ear} {k n : ℕ} (j frame : ℕ) {s : Search} → j < sc.sizes.rmus → (is_always_good sc hands j ≡ true → IsHeardCall sc hands ear j frame k)
    → IsWell sc hands ear k n s → IsWell sc hands ear k n (newest_with j frame s)
newest-well {sc} {hands} {ear} {k} j frame {s} within calls h = record {
  had = h.had;
  newest = λ i c good is.
      elim (set-case s.newest j i (Some call) is) [
        | inl both ↦ (mine i c both.0 (some-call c both.1) (calls (subst (λ x. is_always_good sc hands x ≡ true) both.0 good)), omega (arith, h.had, ap (λ (x : Call). x.at) (some-call c both.1)))
        | inr there ↦ h.newest i c good there
      ];
  inside = λ i out. set-other s.newest j i (Some call) (λ same. omega (arith, out, within, same)) ∙ h.inside i out;
  decides = h.decides;
}
  where
    call : Call
    call = record { frame = frame; at = s.had }

    some-call : (c : Call) → (let o : Option Call = Some (record { frame = frame; at = s.had }) in o) ≡ Some c
        → (let x : Call = record { frame = frame; at = s.had } in x) ≡ c
    some-call c e = cc

    mine : (i : ℕ) (c : Call) → i ≡ j → (let x : Call = record { frame = frame; at = s.had } in x) ≡ c → IsHeardCall sc hands ear j frame k → IsHeardCall sc hands ear i c.frame c.at
    mine i c same is heard =
        subst (λ x. IsHeardCall sc hands ear x c.frame c.at) (sym same)
        (subst (λ (x : Call). IsHeardCall sc hands ear j x.frame x.at) is (subst (IsHeardCall sc hands ear j frame) (sym h.had) heard))

noted-frame : (sizes : Sizes) (j at : ℕ) (m : Message) (lesson : Lesson) → ((noted sizes j at m lesson).frame ≡ lesson.frame) × ((noted sizes j at m lesson).decides ≡ lesson.decides)
noted-frame sizes j at m lesson = by (has_place sizes lesson.frame m)
  where
    by : (b : Bool) → ((if b then record lesson { records = with_record sizes j at m lesson.records } else lesson).frame ≡ lesson.frame)
        × ((if b then record lesson { records = with_record sizes j at m lesson.records } else lesson).decides ≡ lesson.decides)
    by true = (refl, refl)
    by false = (refl, refl)

pub recorded-well : {sc hands ear k n : _} (j : ℕ) (m : Message) {s : _} → IsWell sc hands ear k n s → IsWell sc hands ear k n (recorded sc.sizes j m s)
recorded-well {sc} {hands} {ear} {k} {n} j m {s} h = by s.learns
  where
    by : (b : Bool) → IsWell sc hands ear k n (elim b as (λ _. Search) [ true ↦ record s { lesson = noted sc.sizes j s.had m s.lesson } | false ↦ s ])
    by true = record {
      had = h.had;
      newest = h.newest;
      inside = h.inside;
      decides = λ tick is.
          let parts = noted-frame sc.sizes j s.had m s.lesson in
          subst (λ f. IsAfterCall sc hands ear f tick) (sym parts.0) (h.decides tick (sym parts.1 ∙ is));
    }
    by false = h

message-well : {sc : Scenario} {hands : List HandIn} {ear : Ear} → IsShape sc.sizes → are_most sc.sizes (set_of (is_always_good sc hands)) ≡ true → {k n : ℕ} (j : ℕ) (o : Option Message) {s : Search}
    → j < sc.sizes.rmus → ((m : Message) → o ≡ Some m → is_always_good sc hands j ≡ true → is_call sc.sizes m ≡ true → IsHeardCall sc hands ear j m.frame k)
    → IsWell sc hands ear k n s → IsWell sc hands ear k n (if_message sc.sizes sc.plan j o s)
unfolding with_message
message-well shape most j None within calls h = h
message-well {sc} {hands} {ear} shape most {k} {n} j (Some m) {s} within calls h = by (is_call sc.sizes m) refl (recorded-well j m h)
  where
    by : (b : Bool) → is_call sc.sizes m ≡ b → IsWell sc hands ear k n (recorded sc.sizes j m s)
        → IsWell sc hands ear k n (elim b as (λ _. Search) [ true ↦ passing sc.sizes sc.plan (newest_with j m.frame (recorded sc.sizes j m s)) | false ↦ recorded sc.sizes j m s ])
    by true e r =
        may-pass-well shape most
        (newest-well j m.frame within (λ good. calls m refl good e) r)
        (pass_of sc.sizes sc.plan (newest_with j m.frame (recorded sc.sizes j m s)).newest) refl
    by false e r = r

pub some-stamp : {sc ear : _} → IsEar sc ear → (k : ℕ) {c : _} → IsHeard ear k c → 1 ≤ k
some-stamp is zero {c} h = absurd (is.after_start c h)
some-stamp is (suc k) h = omega arith

pub heard-call : {sc hands : _} → IsLawful sc → {ear : _} → IsEar sc ear → {k c : _} → k < ear.ticks → IsHeard ear k c → IsOfGood sc hands ear c → {m : _}
    → message_in sc.plan.version c.bytes ≡ Some m → is_call sc.sizes m ≡ true → IsHeardCall sc hands ear c.from m.frame k
heard-call {sc} {hands} law {ear} is {k} {c} in_time heard good {m} reads call = record {
  n = good.n;
  sending = good.sending;
  sent = good.sent;
  window_is = omega (arith, put.window, ap (λ x. x.slot) same, ap (λ x. x.stage) same, slot, stage);
  number_is = ap (λ x. x.frame) (sym same) ∙ put.frame;
  stamped = subst (λ (x : Coming). IsStamp ear.clock x.time k) good.is (is.stamps k c in_time heard);
  some = some-stamp is k heard;
}
  where
    same : good.sending.message ≡ m
    same = reads-sent law good reads

    put : IsInPlace sc (moment sc hands good.n) good.sending.message
    put = in-place law good.sent

    slot : m.slot ≡ sync_slot_of sc.sizes
    slot = eqb-true m.slot (sync_slot_of sc.sizes) (and_second (is_sync m.tag) (m.slot == sync_slot_of sc.sizes) (and_first (is_sync m.tag && (m.slot == sync_slot_of sc.sizes)) (m.stage == 2) call))

    stage : m.stage ≡ 2
    stage = eqb-true m.stage 2 (and_second (is_sync m.tag && (m.slot == sync_slot_of sc.sizes)) (m.stage == 2) call)

heard-well : {sc hands : _} → IsLawful sc → {ear : _} → IsEar sc ear → HearsTheRun sc hands ear → (k n : ℕ) (c : Coming) → k < ear.ticks
    → slice_get (ear.heard k) n ≡ Some c → (s : Search) → IsWell sc hands ear k n s → IsWell sc hands ear k (suc n) (searching sc.sizes sc.plan c.from c.bytes s)
unfolding searching
heard-well {sc} {hands} law {ear} is run k n c in_time there s h = by (nat_lt c.from sc.sizes.rmus) refl (nat_lt s.had (2 ^ 31))
  where
    onward : (t : Search) → IsWell sc hands ear k n t → IsWell sc hands ear k (suc n) t
    onward t w = record { had = w.had; newest = w.newest; inside = w.inside; decides = w.decides }

    calls : c.from < sc.sizes.rmus → (m : Message) → message_in sc.plan.version c.bytes ≡ Some m → is_always_good sc hands c.from ≡ true → is_call sc.sizes m ≡ true
        → IsHeardCall sc hands ear c.from m.frame k
    calls within m reads good call =
        elim (run.only k c in_time (record { nth = n; there = there }) within) [
          | inl of_good ↦ heard-call law is in_time (record { nth = n; there = there }) of_good reads call
          | inr faulty ↦ absurd (no-onset good faulty)
        ]

    by : (a : Bool) → nat_lt c.from sc.sizes.rmus ≡ a → (b : Bool)
        → IsWell sc hands ear k (suc n) (elim (a && b) as (λ _. Search) [ true ↦ if_message sc.sizes sc.plan c.from (message_in sc.plan.version c.bytes) s | false ↦ s ])
    by true e true =
        let within : c.from < sc.sizes.rmus = ltb-true c.from sc.sizes.rmus e in
        onward (if_message sc.sizes sc.plan c.from (message_in sc.plan.version c.bytes) s)
        (message-well law.sizes run.most_good c.from (message_in sc.plan.version c.bytes) within (calls within) h)
    by true e false = onward s h
    by false e b = onward s h

pub kept-well : {sc hands : _} → IsLawful sc → {ear : _} → IsEar sc ear → HearsTheRun sc hands ear → IsKept sc ear (IsWell sc hands ear)
kept-well {sc} {hands} law {ear} is run = record {
  first = first-well sc hands ear;
  heard = heard-well law is run;
  decided = λ k n s in_time whole h deciding. learning-well (frame_after s.lesson.frame) (on k n s h);
  later = λ k n s in_time whole h going. on k n s h;
  lasts = λ k n s in_time h. not-yet is in_time h.had;
}
  where
    on : (k n : ℕ) (s : Search) → IsWell sc hands ear k n s → IsWell sc hands ear (suc k) 0 (later s)
    on k n s h = record {
      had = omega (arith, h.had);
      newest = λ j c good at. let known = h.newest j c good at in (known.0, omega (arith, known.1));
      inside = h.inside;
      decides = h.decides;
    }

pub decides-after : (sc : Scenario) (hands : List HandIn) → IsLawful sc → (ear : Ear) → IsEar sc ear → HearsTheRun sc hands ear → (k : ℕ) → k < ear.ticks
    → DecidesAfterTheCalls sc hands ear k
decides-after sc hands law ear is run k in_time s at learns tick fixed = by (here.decides tick fixed)
  where
    all : (n : ℕ) × HoldsIn (IsWell sc hands ear k n) (listening_at sc ear k)
    all = always (IsWell sc hands ear) (kept-well law is run) k in_time

    here : IsWell sc hands ear k all.0 s
    here = subst (HoldsIn (IsWell sc hands ear k all.0)) at all.1

    by : IsAfterCall sc hands ear s.lesson.frame tick → CallsHaveCome sc hands ear s.lesson.frame tick
    by a = record {
      n = a.call.n;
      window_is = a.call.window_is;
      number_is = a.call.number_is;
      come = λ j t sends stamp stamped.
          let together : stamp ≤ a.at + reach_of sc.plan =
          come-together sc hands law ear is a.call.n a.j j a.call.sending t a.call.window_is a.call.sent sends a.at stamp a.call.some a.call.stamped stamped in
          omega (arith, together, a.late);
    }
