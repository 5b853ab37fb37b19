-- What a listener learns is the frame after one in which the RMUs called: most of all RMUs are
-- good, so one of them is in each pass.
use Rattle.std.proofs.{Common.{◌≡◌, ◌⊎◌, ℕ, zero, suc, ◌+◌, ◌-◌, ◌^◌, ◌<◌, ◌≤◌, ◌==◌, ◌&&◌, not, nat_lt, nat_le, Bool, true, false, Option, Some, None, is_some, List, [], ◌∷◌, get_or, slice_get, slice_set, replicate, if◌then◌else◌, inl, inr, refl, sym, ◌∙◌, ap, subst, arith}, lemmas.Bool.{cases_lt, eqb-true, ltb-true, not-true}}
use Rattle.rb_base.specs.{Nodes.{has, set_of}, Sizes.{IsShape, Sizes}}
use Rattle.rb_base.proofs.{Plain.{and_first, and_second}, Sets.has-set_of}
use Rattle.rb_rules.specs.{declared.message.Message.Message, declared.plan.Plan.Plan, Core.is_tick, Goodness.Scenario, Hearing.Coming, Lawful.IsLawful, Moments.before_slot, Ports.HandIn, Spelling.message_in}
use Rattle.rb_laws_agreement.proofs.Tests.{Passing}
use Rattle.rb_listen.specs.{Lessons.{first_of, frame_after, has_place, noted, with_record}, Listening.{Heeding, Listening, decided, first_search, hear, heed, if_after, if_call, if_message, if_pass, is_deciding, is_over, later, learning, newest_with, passing, recorded, search_on, searching, timed, untold, wait_on, with_message, with_pass}, Passes.{begins_pass, calling, falls_in, frame_in, is_call, pass_among, pass_of, reach_of, are_most}, declared.lesson.First.First, declared.lesson.Lesson.Lesson, declared.passes.Call.Call, declared.search.Search.Search}
use Rattle.rb_listen.proofs.Searches.{noted-decides}
use Rattle.rb_laws_listener_learns.specs.{Ears.{Ear, HearsTheRun, IsHeard, IsOfFaulty, comes_to, hears, is_always_good, listening_at}, Seeking.SeeksAFrame}
use Rattle.rb_laws_listener_learns.proofs.{CallsSent.{IsCalled, called}, Meeting.meet}
use Rattle.rb_listen.specs.Listening as now

-- Lists.

pub none-there : (n j : ℕ) → get_or (replicate n (let none : Option Call = None in none)) j None ≡ None
none-there zero j = refl
none-there (suc n) zero = refl
none-there (suc n) (suc j) = none-there n j

pub set-other : (xs : List (Option Call)) (j i : ℕ) (x : Option Call) → (i ≡ j → ⊥) → get_or (slice_set xs j x) i None ≡ get_or xs i None
set-other [] j i x apart = refl
set-other (y ∷ ys) zero zero x apart = absurd (apart refl)
set-other (y ∷ ys) zero (suc i) x apart = refl
set-other (y ∷ ys) (suc j) zero x apart = refl
set-other (y ∷ ys) (suc j) (suc i) x apart = set-other ys j i x (λ e. apart (ap suc e))

pub set-case : (xs : List (Option Call)) (j i : ℕ) (x : Option Call) {c : _} → get_or (slice_set xs j x) i None ≡ Some c
    → ((i ≡ j) × (x ≡ Some c)) ⊎ (get_or xs i None ≡ Some c)
set-case [] j i x h = inr h
set-case (y ∷ ys) zero zero x h = inl (refl, h)
set-case (y ∷ ys) zero (suc i) x h = inr h
set-case (y ∷ ys) (suc j) zero x h = inr h
set-case (y ∷ ys) (suc j) (suc i) x h = elim (set-case ys j i x h) [ inl both ↦ inl (ap suc both.0, both.1) | inr there ↦ inr there ]

-- What holds of a search.

pub record Finds (sc : Scenario) (hands : List HandIn) (s : Search) : Type 0 where
  pub newest : (j : ℕ) (c : Call) → is_always_good sc hands j ≡ true → get_or s.newest j None ≡ Some c → IsCalled sc hands c.frame
  pub inside : (j : ℕ) → sc.sizes.rmus ≤ j → get_or s.newest j None ≡ None
  pub learned : s.learns ≡ true → (number : ℕ) × (IsCalled sc hands number × (s.lesson.frame ≡ frame_after number))
  pub decides : s.learns ≡ true → is_some s.lesson.decides ≡ true → IsCalled sc hands s.lesson.frame

pub first-finds : (sc : Scenario) (hands : List HandIn) → Finds sc hands first_search
unfolding first_search
first-finds sc hands = record {
  newest = λ j c good is. let both : None ≡ Some c = sym (none-there 16 j) ∙ is in cc;
  inside = λ j out. none-there 16 j;
  learned = λ learns. let e : false ≡ true = learns in cc;
  decides = λ learns some. let e : false ≡ true = learns in cc;
}

-- A pass has a good RMU in it.

pub record Begins (sizes : Sizes) (plan : Plan) (newest : List (Option Call)) (frame : ℕ) : Type 0 where
  pub call : Call
  pub most : are_most sizes (calling (reach_of plan) call.frame call.at newest) ≡ true
  pub frame_is : call.frame ≡ frame

pub pass-begins : (sizes : Sizes) (plan : Plan) (newest calls : List (Option Call)) {frame : ℕ} → pass_among sizes plan newest calls ≡ Some frame → Begins sizes plan newest frame
pass-begins sizes plan newest [] h = cc
pass-begins sizes plan newest (call ∷ others) {frame} h = by (pass-begins sizes plan newest others) (begins_pass sizes plan newest call) refl h
  where
    here : (o : Option Call) → begins_pass sizes plan newest o ≡ true → frame_in o ≡ Some frame → Begins sizes plan newest frame
    here None b e = cc
    here (Some c) b e = record { call = c; most = b; frame_is = cc }

    by : (pass_among sizes plan newest others ≡ Some frame → Begins sizes plan newest frame) → (b : Bool) → begins_pass sizes plan newest call ≡ b
        → (elim b as (λ _. Option ℕ) [ true ↦ frame_in call | false ↦ pass_among sizes plan newest others ]) ≡ Some frame → Begins sizes plan newest frame
    by rest true is e = here call is e
    by rest false is e = rest e

pub falls : (reach frame from : ℕ) (o : Option Call) → falls_in reach frame from o ≡ true → (c : Call) × ((o ≡ Some c) × (c.frame ≡ frame))
falls reach frame from None h = cc
falls reach frame from (Some c) h =
    (c, (refl, eqb-true c.frame frame (and_first (c.frame == frame) (nat_le from c.at) (and_first ((c.frame == frame) && nat_le from c.at) (nat_le (c.at - from) reach) h))))

-- an RMU that is good in the whole run is one of the bus
pub always-counts : (sc : Scenario) (hands : List HandIn) (j : ℕ) → is_always_good sc hands j ≡ true → j < sc.sizes.rmus
always-counts sc hands j good = ltb-true j sc.sizes.rmus (and_first (nat_lt j sc.sizes.rmus) (not (comes_to sc hands (get_or sc.rmu_onsets j None))) good)

pub good-rmus : (sc : Scenario) (hands : List HandIn) (j : ℕ) → j < 16 → has (set_of (is_always_good sc hands)) j ≡ true → is_always_good sc hands j ≡ true
good-rmus sc hands j below h = sym (has-set_of j (is_always_good sc hands) below) ∙ h

unfoldable pub good-set : Scenario → List HandIn → ℕ
good-set sc hands = set_of (is_always_good sc hands)

call-set : Scenario → Search → Call → ℕ
call-set sc s c = calling (reach_of sc.plan) c.frame c.at s.newest

in-call-set : (sc : Scenario) (s : Search) (c : Call) (j : ℕ) → j < 16 → has (call-set sc s c) j ≡ true
    → falls_in (reach_of sc.plan) c.frame c.at (get_or s.newest j None) ≡ true
unfolding call-set
in-call-set sc s c j below h = sym (has-set_of j (λ i. falls_in (reach_of sc.plan) c.frame c.at (get_or s.newest i None)) below) ∙ h

call-set-inside : {sc hands s : _} → Finds sc hands s → (c : Call) (j : ℕ) → j < 16 → has (call-set sc s c) j ≡ true → j < sc.sizes.rmus
call-set-inside {sc} {s} finds c j below is =
    elim (cases_lt j sc.sizes.rmus) [
      | inl within ↦ within
      | inr out ↦
          let none : falls_in (reach_of sc.plan) c.frame c.at (get_or s.newest j None) ≡ false = ap (falls_in (reach_of sc.plan) c.frame c.at) (finds.inside j out) in
          let some : falls_in (reach_of sc.plan) c.frame c.at (get_or s.newest j None) ≡ true = in-call-set sc s c j below is in
          let both : false ≡ true = sym none ∙ some in absurd (cc)
    ]

pub good-inside : (sc : Scenario) (hands : List HandIn) (j : ℕ) → j < 16 → has (good-set sc hands) j ≡ true → j < sc.sizes.rmus
unfolding good-set
good-inside sc hands j below is = always-counts sc hands j (good-rmus sc hands j below is)

called-by : {sc hands s : _} → Finds sc hands s → (c : Call) (j : ℕ) → j < 16 → has (good-set sc hands) j ≡ true → has (call-set sc s c) j ≡ true
    → IsCalled sc hands c.frame
unfolding good-set
called-by {sc} {hands} {s} finds c j below good in_set =
    let calls = falls (reach_of sc.plan) c.frame c.at (get_or s.newest j None) (in-call-set sc s c j below in_set) in
    subst (IsCalled sc hands) calls.1.1 (finds.newest j calls.0 (good-rmus sc hands j below good) calls.1.0)

pub pass-called : {sc : Scenario} {hands : List HandIn} → IsShape sc.sizes → are_most sc.sizes (set_of (is_always_good sc hands)) ≡ true → {s : Search} → Finds sc hands s
    → {frame : ℕ} → pass_of sc.sizes sc.plan s.newest ≡ Some frame → IsCalled sc hands frame
unfolding pass_of good-set call-set
pass-called {sc} {hands} shape most {s} finds {frame} h = go (pass-begins sc.sizes sc.plan s.newest s.newest h)
  where
    at : (b : Begins sc.sizes sc.plan s.newest frame) → Passing (λ j. has (good-set sc hands) j && has (call-set sc s b.call) j) 0 16 → IsCalled sc hands frame
    at b common =
        subst (IsCalled sc hands) b.frame_is
        (called-by finds b.call common.at (omega (arith, common.high))
        (and_first (has (good-set sc hands) common.at) (has (call-set sc s b.call) common.at) common.passes)
        (and_second (has (good-set sc hands) common.at) (has (call-set sc s b.call) common.at) common.passes))

    go : Begins sc.sizes sc.plan s.newest frame → IsCalled sc hands frame
    go b = at b (meet sc.sizes (good-set sc hands) (call-set sc s b.call) shape.most_rmus (good-inside sc hands) (call-set-inside finds b.call) most b.most)

-- What is heard.

learning-finds : {sc hands number : _} (s : Search) → IsCalled sc hands number → Finds sc hands s → Finds sc hands (learning (frame_after number) s)
learning-finds {number} s is finds = record {
  newest = finds.newest;
  inside = finds.inside;
  learned = λ learns. (number, (is, refl));
  decides = λ learns some. let e : false ≡ true = some in cc;
}

pub timed-frame : (tick : ℕ) (lesson : Lesson) → (timed tick lesson).frame ≡ lesson.frame
timed-frame tick lesson = by (is_some lesson.decides)
  where
    by : (b : Bool) → (elim b as (λ _. Lesson) [ true ↦ lesson | false ↦ record lesson { decides = Some tick } ]).frame ≡ lesson.frame
    by true = refl
    by false = refl

timed-finds : {sc : Scenario} {hands : List HandIn} (tick : ℕ) {s : Search} → IsCalled sc hands s.lesson.frame → Finds sc hands s
    → Finds sc hands (record s { lesson = timed tick s.lesson })
timed-finds {sc} {hands} tick {s} is finds = record {
  newest = finds.newest;
  inside = finds.inside;
  learned = λ learns. let l = finds.learned learns in (l.0, (l.1.0, timed-frame tick s.lesson ∙ l.1.1));
  decides = λ learns some. subst (IsCalled sc hands) (sym (timed-frame tick s.lesson)) is;
}

pass-finds : {sc hands frame s : _} → IsCalled sc hands frame → Finds sc hands s → Finds sc hands (with_pass sc.plan frame s)
pass-finds {sc} {hands} {frame} {s} is finds = by (s.learns && (frame == s.lesson.frame)) refl (s.learns && (frame_after frame == s.lesson.frame))
  where
    by : (a : Bool) → (s.learns && (frame == s.lesson.frame)) ≡ a → (b : Bool)
        → Finds sc hands (elim a as (λ _. Search) [
          | true ↦ record s { lesson = timed (s.had + reach_of sc.plan) s.lesson }
          | false ↦ elim b as (λ _. Search) [ true ↦ s | false ↦ learning (frame_after frame) s ]
        ])
    by true e b =
        timed-finds (s.had + reach_of sc.plan)
        (subst (IsCalled sc hands) (eqb-true frame s.lesson.frame (and_second s.learns (frame == s.lesson.frame) e)) is) finds
    by false e true = finds
    by false e false = learning-finds s is finds

may-pass-finds : {sc : Scenario} {hands : List HandIn} → IsShape sc.sizes → are_most sc.sizes (set_of (is_always_good sc hands)) ≡ true → {s : Search} → Finds sc hands s
    → (o : Option ℕ) → pass_of sc.sizes sc.plan s.newest ≡ o → Finds sc hands (if_pass sc.plan o s)
may-pass-finds shape most finds None e = finds
may-pass-finds shape most finds (Some frame) e = pass-finds (pass-called shape most finds e) finds

newest-finds : {sc : Scenario} {hands : List HandIn} (j frame : ℕ) {s : Search} → j < sc.sizes.rmus → (is_always_good sc hands j ≡ true → IsCalled sc hands frame)
    → Finds sc hands s → Finds sc hands (newest_with j frame s)
newest-finds {sc} {hands} j frame {s} within calls finds = record {
  newest = λ i c good is.
      elim (set-case s.newest j i (Some call) is) [
        | inl both ↦ subst (IsCalled sc hands) (ap (λ (x : Call). x.frame) (some-call c both.1)) (calls (subst (λ k. is_always_good sc hands k ≡ true) both.0 good))
        | inr there ↦ finds.newest i c good there
      ];
  inside = λ i out. set-other s.newest j i (Some call) (λ same. omega (arith, out, within, same)) ∙ finds.inside i out;
  learned = finds.learned;
  decides = finds.decides;
}
  where
    call : Call
    call = record { frame = frame; at = s.had }

    some-call : (c : Call) → (let o : Option Call = Some (record { frame = frame; at = s.had }) in o) ≡ Some c
        → (let x : Call = record { frame = frame; at = s.had } in x) ≡ c
    some-call c e = cc

noted-frame : (sizes : Sizes) (j at : ℕ) (m : Message) (lesson : Lesson) → (noted sizes j at m lesson).frame ≡ lesson.frame
noted-frame sizes j at m lesson = by (has_place sizes lesson.frame m)
  where
    by : (b : Bool) → (if b then record lesson { records = with_record sizes j at m lesson.records } else lesson).frame ≡ lesson.frame
    by true = refl
    by false = refl

recorded-finds : {sc hands : _} (j : ℕ) (m : Message) {s : _} → Finds sc hands s → Finds sc hands (recorded sc.sizes j m s)
recorded-finds {sc} {hands} j m {s} finds = by s.learns
  where
    by : (b : Bool) → Finds sc hands (elim b as (λ _. Search) [ true ↦ record s { lesson = noted sc.sizes j s.had m s.lesson } | false ↦ s ])
    by true = record {
      newest = finds.newest;
      inside = finds.inside;
      learned = λ learns. let l = finds.learned learns in (l.0, (l.1.0, noted-frame sc.sizes j s.had m s.lesson ∙ l.1.1));
      decides = λ learns some.
          subst (IsCalled sc hands) (sym (noted-frame sc.sizes j s.had m s.lesson))
          (finds.decides learns (ap is_some (sym (noted-decides sc.sizes j s.had m s.lesson)) ∙ some));
    }
    by false = finds

message-finds : {sc : Scenario} {hands : List HandIn} → IsShape sc.sizes → are_most sc.sizes (set_of (is_always_good sc hands)) ≡ true → (j : ℕ) (m : Message) {s : Search}
    → j < sc.sizes.rmus → (is_always_good sc hands j ≡ true → is_call sc.sizes m ≡ true → IsCalled sc hands m.frame) → Finds sc hands s
    → Finds sc hands (with_message sc.sizes sc.plan j m s)
unfolding with_message
message-finds {sc} {hands} shape most j m {s} within calls finds = by (is_call sc.sizes m) refl
  where
    now : Search
    now = recorded sc.sizes j m s

    by : (b : Bool) → is_call sc.sizes m ≡ b
        → Finds sc hands (elim b as (λ _. Search) [ true ↦ passing sc.sizes sc.plan (newest_with j m.frame (recorded sc.sizes j m s)) | false ↦ recorded sc.sizes j m s ])
    by true e =
        let newer : Finds sc hands (newest_with j m.frame (recorded sc.sizes j m s)) =
        newest-finds j m.frame within (λ good. calls good e) (recorded-finds j m finds) in
        may-pass-finds shape most newer
        (pass_of sc.sizes sc.plan (newest_with j m.frame (recorded sc.sizes j m s)).newest) refl
    by false e = recorded-finds j m finds

may-message-finds : {sc : Scenario} {hands : List HandIn} → IsShape sc.sizes → are_most sc.sizes (set_of (is_always_good sc hands)) ≡ true → (j : ℕ) (o : Option Message) {s : Search}
    → j < sc.sizes.rmus → ((m : Message) → o ≡ Some m → is_always_good sc hands j ≡ true → is_call sc.sizes m ≡ true → IsCalled sc hands m.frame) → Finds sc hands s
    → Finds sc hands (if_message sc.sizes sc.plan j o s)
may-message-finds shape most j None within calls finds = finds
may-message-finds shape most j (Some m) within calls finds = message-finds shape most j m within (calls m refl) finds

pub no-onset : {sc : Scenario} {hands : List HandIn} {c : Coming} → is_always_good sc hands c.from ≡ true → IsOfFaulty sc hands c → ⊥
no-onset {sc} {hands} {c} good faulty =
    let never : comes_to sc hands (get_or sc.rmu_onsets c.from None) ≡ false =
    not-true (comes_to sc hands (get_or sc.rmu_onsets c.from None)) (and_second (nat_lt c.from sc.sizes.rmus) (not (comes_to sc hands (get_or sc.rmu_onsets c.from None))) good) in
    let ended : not (before_slot sc hands faulty.frame faulty.slot).book.ended ≡ false = sym (ap (comes_to sc hands) faulty.onset) ∙ never in
    let both : true ≡ false = sym (ap not faulty.running) ∙ ended in cc

pub heard-finds : {sc hands : _} → IsLawful sc → {ear : _} → HearsTheRun sc hands ear → {k c : _} → k < ear.ticks → IsHeard ear k c
    → {s : _} → Finds sc hands s → Finds sc hands (searching sc.sizes sc.plan c.from c.bytes s)
unfolding searching
heard-finds {sc} {hands} law run {k} {c} in_time heard {s} finds = by (nat_lt c.from sc.sizes.rmus) refl (nat_lt s.had (2 ^ 31))
  where
    calls : c.from < sc.sizes.rmus → (m : Message) → message_in sc.plan.version c.bytes ≡ Some m → is_always_good sc hands c.from ≡ true → is_call sc.sizes m ≡ true → IsCalled sc hands m.frame
    calls within m read good call =
        elim (run.only k c in_time heard within) [
          | inl of_good ↦ called law of_good read call
          | inr faulty ↦ absurd (no-onset good faulty)
        ]

    by : (a : Bool) → nat_lt c.from sc.sizes.rmus ≡ a → (b : Bool)
        → Finds sc hands (elim (a && b) as (λ _. Search) [ true ↦ if_message sc.sizes sc.plan c.from (message_in sc.plan.version c.bytes) s | false ↦ s ])
    by true e true =
        let within : c.from < sc.sizes.rmus = ltb-true c.from sc.sizes.rmus e in
        may-message-finds law.sizes run.most_good c.from (message_in sc.plan.version c.bytes) within (calls within) finds
    by true e false = finds
    by false e b = finds

-- Ticks, and all that comes.

abbrev pub FindsIn : Scenario → List HandIn → Listening → Type 0
FindsIn sc hands (now.Searching s) = Finds sc hands s
FindsIn sc hands (now.Waiting had first) = Unit {0}
FindsIn sc hands (now.Following c) = Unit {0}

hear-finds : {sc hands : _} → IsLawful sc → {ear : _} → HearsTheRun sc hands ear → {k c : _} → k < ear.ticks → IsHeard ear k c
    → (l : Listening) → FindsIn sc hands l → FindsIn sc hands (hear sc.sizes sc.plan c.from c.bytes l)
unfolding hear
hear-finds law run in_time heard (now.Searching s) finds = heard-finds law run in_time heard finds
hear-finds law run in_time heard (now.Waiting had first) finds = tt
hear-finds law run in_time heard (now.Following core) finds = tt

hears-finds : {sc hands : _} → IsLawful sc → {ear : _} → HearsTheRun sc hands ear → (k : ℕ) → k < ear.ticks → (cs : List Coming)
    → ((n : ℕ) (c : Coming) → slice_get cs n ≡ Some c → IsHeard ear k c) → (l : Listening) → FindsIn sc hands l → FindsIn sc hands (hears sc cs l)
hears-finds law run k in_time [] are l finds = finds
hears-finds {sc} law run k in_time (c ∷ cs) are l finds =
    hears-finds law run k in_time cs (λ n d is. are (suc n) d is) (hear sc.sizes sc.plan c.from c.bytes l)
    (hear-finds law run in_time (are zero c refl) l finds)

is-ticked : (o : Option ℕ) (k : ℕ) → is_tick o k ≡ true → is_some o ≡ true
is-ticked None k h = cc
is-ticked (Some t) k h = refl

decided-finds : {sc hands s : _} → is_deciding s ≡ true → Finds sc hands s → (o : Option First) → FindsIn sc hands (decided s o)
decided-finds {sc} {hands} {s} is finds o = by o
  where
    again : Finds sc hands (learning (frame_after s.lesson.frame) (later s))
    again =
        learning-finds (later s)
        (finds.decides (and_first s.learns (is_tick s.lesson.decides s.had) is)
        (is-ticked s.lesson.decides s.had (and_second s.learns (is_tick s.lesson.decides s.had) is)))
        (record { newest = finds.newest; inside = finds.inside; learned = finds.learned; decides = finds.decides })

    after : (first : First) (b : Bool) → FindsIn sc hands (if_after s first b)
    after first true = tt
    after first false = again

    by : (o : Option First) → FindsIn sc hands (decided s o)
    by None = again
    by (Some first) = after first (nat_lt s.had first.epoch)

search-on-finds : (sc : Scenario) (hands : List HandIn) (s : Search) (o : Option First) → Finds sc hands s → (b : Bool) → is_deciding s ≡ b
    → FindsIn sc hands (elim b as (λ _. Listening) [ true ↦ decided s o | false ↦ now.Searching (later s) ])
search-on-finds sc hands s o finds true is = decided-finds is finds o
search-on-finds sc hands s o finds false is = record { newest = finds.newest; inside = finds.inside; learned = finds.learned; decides = finds.decides }

over-finds : {sc hands s : _} → Finds sc hands s → (l : Listening) → FindsIn sc hands l → (b : Bool)
    → FindsIn sc hands (elim b as (λ _. Heeding) [ true ↦ untold (now.Searching s) | false ↦ untold l ]).listening
over-finds finds l so true = finds
over-finds finds l so false = so

waits : (sc : Scenario) (hands : List HandIn) (had : ℕ) (first : First) (begins over : Bool)
    → FindsIn sc hands (elim over as (λ _. Heeding) [ true ↦ untold (now.Waiting had first) | false ↦ wait_on sc.sizes sc.plan had first begins ]).listening
waits sc hands had first begins true = tt
waits sc hands had first true false = tt
waits sc hands had first false false = tt

heed-finds : (sc : Scenario) (hands : List HandIn) (l : Listening) → FindsIn sc hands l → FindsIn sc hands (heed sc.sizes sc.plan l).listening
unfolding heed search_on
heed-finds sc hands (now.Searching s) finds =
    over-finds finds (search_on sc.sizes sc.plan s)
    (search-on-finds sc hands s (first_of sc.sizes sc.plan s.lesson) finds (is_deciding s) refl) (is_over s.had)
heed-finds sc hands (now.Waiting had first) finds = waits sc hands had first (first.epoch == had) (is_over had)
heed-finds sc hands (now.Following c) finds = tt

pub all-finds : {sc hands : _} → IsLawful sc → {ear : _} → HearsTheRun sc hands ear → (k : ℕ) → k < ear.ticks
    → FindsIn sc hands (listening_at sc ear k)
all-finds {sc} {hands} law {ear} run zero in_time =
    hears-finds law run zero in_time (ear.heard zero) (λ n c is. record { nth = n; there = is }) (now.Searching first_search) (first-finds sc hands)
all-finds {sc} {hands} law {ear} run (suc k) in_time =
    hears-finds law run (suc k) in_time (ear.heard (suc k)) (λ n c is. record { nth = n; there = is })
    (heed sc.sizes sc.plan (listening_at sc ear k)).listening
    (heed-finds sc hands (listening_at sc ear k) (all-finds law run k (omega (arith, in_time))))

pub seeks-a-frame : (sc : Scenario) (hands : List HandIn) → IsLawful sc → (ear : Ear) → HearsTheRun sc hands ear
    → (k : ℕ) → k < ear.ticks → SeeksAFrame sc hands ear k
seeks-a-frame sc hands law ear run k in_time s at learns =
    let finds : Finds sc hands s = subst (FindsIn sc hands) at (all-finds law run k in_time) in
    let l = finds.learned learns in
    (l.1.0.frame, (l.1.0.has_calls, l.1.1 ∙ ap frame_after l.1.0.number_is))
