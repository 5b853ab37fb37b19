-- What holds of a search between two calls, and what a tick makes of it.
use Rattle.std.proofs.{Common.{◌≡◌, ℕ, ◌+◌, ◌%◌, ◌<◌, ◌≤◌, ◌^◌, ◌==◌, ◌&&◌, nat_lt, Bool, true, false, refl, ap, sym, ◌∙◌, subst, arith, Option, Some, None, is_some, option_map, List, mod-lt, if◌then◌else◌}, lemmas.Bool.{le-ltb, lt-ltb}, lemmas.Bool.Decides.nat_tests}
use Rattle.rb_base.specs.Sizes.{Sizes}
use Rattle.rb_base.proofs.Plain.{and-false}
use Rattle.rb_rules.specs.{declared.message.Message.Message, declared.plan.Plan.Plan, Core.is_tick, Spelling.message_in}
use Rattle.rb_listen.specs.{Lessons.{first_by, first_of, frame_after, has_place, noted, with_record}, Listeners.{ComesTo, IsAhead, IsSearching}, Listening.{Listening, decided, decision_of, first_search, if_after, if_call, if_message, if_pass, in_time, is_deciding, later, learning, newest_with, passing, recorded, search_on, searching, timed, with_message, with_pass}, Passes.{is_call, pass_of, reach_of}, Stamps.AreSoon, declared.lesson.First.First, declared.lesson.Lesson.Lesson, declared.listener.Stage.Stage, declared.listener.Stage.TheVariants.{Searching, Waiting}, declared.search.Search.Search}
use Rattle.rb_listen.proofs.Soon.{none-soon, noted-soon}
use Rattle.rb_listen.specs.Listening as now

-- A search that has had k ticks.

pub record Stays (k : ℕ) (s : Search) : Type 0 where
  pub had : s.had ≡ k
  pub most : k ≤ 2 ^ 31
  pub soon : AreSoon s.lesson.records
  pub ahead : IsAhead k (decision_of s)

pub first-stays : (s : Search) → s ≡ first_search → Stays 0 s
unfolding first_search
first-stays s is = subst (Stays 0) (sym is) (record { had = refl; most = omega arith; soon = none-soon; ahead = tt })

learning-stays : (k frame : ℕ) (s : Search) → Stays k s → Stays k (learning frame s)
learning-stays k frame s h = record { had = h.had; most = h.most; soon = none-soon; ahead = tt }

ahead-at : (b : Bool) (k t : ℕ) → k ≤ t → IsAhead k (elim b as (λ _. Option ℕ) [ true ↦ Some t | false ↦ None ])
ahead-at true k t h = h
ahead-at false k t h = tt

timed-stays : (k reach : ℕ) (s : Search) → Stays k s → Stays k (record s { lesson = timed (s.had + reach) s.lesson })
timed-stays k reach s h = by s.lesson.decides refl
  where
    by : (o : Option ℕ) → s.lesson.decides ≡ o
        → Stays k (record s { lesson = elim (is_some o) as (λ _. Lesson) [ true ↦ s.lesson | false ↦ record s.lesson { decides = Some (s.had + reach) } ] })
    by (Some x) e = record { had = h.had; most = h.most; soon = h.soon; ahead = h.ahead }
    by None e =
        let had : s.had ≡ k = h.had in
        record { had = h.had; most = h.most; soon = h.soon; ahead = ahead-at s.learns k (s.had + reach) (omega arith) }

pass-stays : (k : ℕ) (plan : Plan) (frame : ℕ) (s : Search) → Stays k s → Stays k (with_pass plan frame s)
pass-stays k plan frame s h = by (s.learns && (frame == s.lesson.frame)) (s.learns && (frame_after frame == s.lesson.frame))
  where
    by : (a b : Bool)
        → Stays k (elim a as (λ _. Search) [
          | true ↦ record s { lesson = timed (s.had + reach_of plan) s.lesson }
          | false ↦ elim b as (λ _. Search) [ true ↦ s | false ↦ learning (frame_after frame) s ]
        ])
    by true b = timed-stays k (reach_of plan) s h
    by false true = h
    by false false = learning-stays k (frame_after frame) s h

may-pass-stays : (k : ℕ) (plan : Plan) (frame : Option ℕ) (s : Search) → Stays k s → Stays k (if_pass plan frame s)
may-pass-stays k plan None s h = h
may-pass-stays k plan (Some frame) s h = pass-stays k plan frame s h

pub noted-decides : (sizes : Sizes) (j at : ℕ) (m : Message) (lesson : Lesson) → (noted sizes j at m lesson).decides ≡ lesson.decides
noted-decides sizes j at m lesson = by (has_place sizes lesson.frame m)
  where
    by : (b : Bool) → (if b then record lesson { records = with_record sizes j at m lesson.records } else lesson).decides ≡ lesson.decides
    by true = refl
    by false = refl

recorded-stays : (k : ℕ) (sizes : Sizes) (j : ℕ) (m : Message) (s : Search) → Stays k s → Stays k (recorded sizes j m s)
recorded-stays k sizes j m s h = by s.learns refl
  where
    by : (b : Bool) → s.learns ≡ b → Stays k (elim b as (λ _. Search) [ true ↦ record s { lesson = noted sizes j s.had m s.lesson } | false ↦ s ])
    by true e =
        let had : s.had ≡ k = h.had in
        let most : k ≤ 2 ^ 31 = h.most in
        record {
          had = h.had;
          most = h.most;
          soon = noted-soon sizes j s.had m s.lesson (omega arith) h.soon;
          ahead = subst (λ d. IsAhead k (elim s.learns as (λ _. Option ℕ) [ true ↦ d | false ↦ None ])) (sym (noted-decides sizes j s.had m s.lesson)) h.ahead;
        }
    by false e = h

call-stays : (k : ℕ) (sizes : Sizes) (plan : Plan) (j : ℕ) (m : Message) (s : Search) → Stays k s → Stays k (if_call sizes plan j m s)
call-stays k sizes plan j m s h = by (is_call sizes m)
  where
    newest : Search
    newest = newest_with j m.frame s

    by : (b : Bool) → Stays k (elim b as (λ _. Search) [ true ↦ passing sizes plan (newest_with j m.frame s) | false ↦ s ])
    by true = may-pass-stays k plan (pass_of sizes plan newest.newest) newest (record { had = h.had; most = h.most; soon = h.soon; ahead = h.ahead })
    by false = h

message-stays : (k : ℕ) (sizes : Sizes) (plan : Plan) (j : ℕ) (m : Message) (s : Search) → Stays k s → Stays k (with_message sizes plan j m s)
unfolding with_message
message-stays k sizes plan j m s h = call-stays k sizes plan j m (recorded sizes j m s) (recorded-stays k sizes j m s h)

may-be-stays : (k : ℕ) (sizes : Sizes) (plan : Plan) (j : ℕ) (m : Option Message) (s : Search) → Stays k s → Stays k (if_message sizes plan j m s)
may-be-stays k sizes plan j None s h = h
may-be-stays k sizes plan j (Some m) s h = message-stays k sizes plan j m s h

pub arrive-stays : (k : ℕ) (sizes : Sizes) (plan : Plan) (from : ℕ) (bytes : List ℕ) (s : Search) → Stays k s → Stays k (searching sizes plan from bytes s)
unfolding searching
arrive-stays k sizes plan from bytes s h = by (nat_lt from sizes.rmus && nat_lt s.had (2 ^ 31))
  where
    by : (b : Bool) → Stays k (elim b as (λ _. Search) [ true ↦ if_message sizes plan from (message_in plan.version bytes) s | false ↦ s ])
    by true = may-be-stays k sizes plan from (message_in plan.version bytes) s h
    by false = h

-- Arrivals, by what is tested.

arrived : Sizes → Plan → ℕ → List ℕ → Search → Bool → Search
arrived sizes plan from bytes s b = elim b [ true ↦ if_message sizes plan from (message_in plan.version bytes) s | false ↦ s ]

pub arrive-nobody : (sizes : Sizes) (plan : Plan) (from : ℕ) (bytes : List ℕ) (s : Search) → sizes.rmus ≤ from → s ≡ searching sizes plan from bytes s
unfolding searching arrived
arrive-nobody sizes plan from bytes s h = sym (ap (λ b. arrived sizes plan from bytes s (b && nat_lt s.had (2 ^ 31))) (le-ltb from sizes.rmus h))

pub arrive-spent : (sizes : Sizes) (plan : Plan) (from : ℕ) (bytes : List ℕ) (s : Search) → 2 ^ 31 ≤ s.had → s ≡ searching sizes plan from bytes s
unfolding searching arrived
arrive-spent sizes plan from bytes s h =
    sym (ap (λ b. arrived sizes plan from bytes s (nat_lt from sizes.rmus && b)) (le-ltb s.had (2 ^ 31) h)
    ∙ ap (arrived sizes plan from bytes s) (and-false (nat_lt from sizes.rmus)))

pub arrive-some : (sizes : Sizes) (plan : Plan) (from : ℕ) (bytes : List ℕ) (s : Search) → from < sizes.rmus → s.had < 2 ^ 31
    → searching sizes plan from bytes s ≡ if_message sizes plan from (message_in plan.version bytes) s
unfolding searching arrived
arrive-some sizes plan from bytes s there below =
    ap (λ b. arrived sizes plan from bytes s (b && nat_lt s.had (2 ^ 31))) (lt-ltb from sizes.rmus there)
    ∙ ap (arrived sizes plan from bytes s) (lt-ltb s.had (2 ^ 31) below)

-- Ticks.

pub later-comes : (s t : Search) (l : Listening) → AreSoon s.lesson.records → is_deciding s ≡ false → IsAhead s.had (decision_of s) → t ≡ later s
    → l ≡ now.Searching (later s) → ComesTo s l Searching t
later-comes s t l soon not_now ahead is at = subst (ComesTo s l Searching) (sym is) (record {
  stands = λ n. at;
  had = refl;
  soon = soon;
  inside = λ sizes plan n. by s.learns s.lesson.decides not_now ahead;
})
  where
    by : (b : Bool) (d : Option ℕ) → (b && is_tick d s.had) ≡ false → IsAhead s.had (elim b as (λ _. Option ℕ) [ true ↦ d | false ↦ None ])
        → IsAhead (s.had + 1) (elim b as (λ _. Option ℕ) [ true ↦ d | false ↦ None ])
    by false d e h = tt
    by true None e h = tt
    by true (Some tick) e h = grind (arith, nat_tests)

pub learns-next : (s t : Search) (l : Listening) → t ≡ learning (frame_after s.lesson.frame) (later s)
    → l ≡ now.Searching (learning (frame_after s.lesson.frame) (later s)) → ComesTo s l Searching t
learns-next s t l is at = subst (ComesTo s l Searching) (sym is) (record {
  stands = λ n. at;
  had = refl;
  soon = none-soon;
  inside = λ sizes plan n. tt;
})

pub waits : (s t : Search) (first : First) → AreSoon s.lesson.records → first.frame < 65536 → s.had < first.epoch → t ≡ later s
    → ComesTo s (if_after s first (nat_lt s.had first.epoch)) (Waiting first) t
waits s t first soon few after is =
    subst (ComesTo s (if_after s first (nat_lt s.had first.epoch)) (Waiting first)) (sym is) (record {
      stands = λ n. ap (if_after s first) (lt-ltb s.had first.epoch after);
      had = refl;
      soon = soon;
      inside = λ sizes plan n. record { frame = few; ahead = omega arith };
    })

pub not-after : (s t : Search) (first : First) → first.epoch ≤ s.had → t ≡ learning (frame_after s.lesson.frame) (later s)
    → ComesTo s (if_after s first (nat_lt s.had first.epoch)) Searching t
not-after s t first before is =
    learns-next s t (if_after s first (nat_lt s.had first.epoch)) is (ap (if_after s first) (le-ltb s.had first.epoch before))

pub comes-by : (s t : Search) (stage : Stage) (found expected : Option First) (l : Listening) → found ≡ expected → ComesTo s l stage t → l ≡ decided s found
    → ComesTo s (decided s expected) stage t
comes-by s t stage found expected l is comes at = subst (λ x. ComesTo s x stage t) (at ∙ ap (decided s) is) comes

pub decides-now : (sizes : Sizes) (plan : Plan) (s t : Search) (stage : Stage) → is_deciding s ≡ true
    → ComesTo s (decided s (first_of sizes plan s.lesson)) stage t → ComesTo s (search_on sizes plan s) stage t
unfolding search_on
decides-now sizes plan s t stage is comes =
    subst (λ b. ComesTo s (elim b as (λ _. Listening) [ true ↦ decided s (first_of sizes plan s.lesson) | false ↦ now.Searching (later s) ]) stage t) (sym is) comes

pub goes-on : (sizes : Sizes) (plan : Plan) (s t : Search) → is_deciding s ≡ false → AreSoon s.lesson.records → IsAhead s.had (decision_of s) → t ≡ later s
    → ComesTo s (search_on sizes plan s) Searching t
unfolding search_on
goes-on sizes plan s t is soon ahead later_is =
    later-comes s t _ soon is ahead later_is
    (ap (λ b. elim b as (λ _. Listening) [ true ↦ decided s (first_of sizes plan s.lesson) | false ↦ now.Searching (later s) ]) is)

-- the first frame's number is one of two bytes
below : (n : ℕ) → n % 65536 < 65536
below n = mod-lt n (omega arith)

first-below : (sizes : Sizes) (plan : Plan) (lesson : Lesson) (bius rmus : ℕ) (k2 : Option ℕ) (first : First)
    → Some first ≡ option_map (first_by sizes plan lesson bius rmus) k2 → first.frame < 65536
first-below sizes plan lesson bius rmus None first e = cc
first-below sizes plan lesson bius rmus (Some x) first e =
    let is : first ≡ first_by sizes plan lesson bius rmus x = cc in
    subst (λ (f : First). f.frame < 65536) (sym is) (below (lesson.frame + 1))

pub first-frame : (sizes : Sizes) (plan : Plan) (lesson : Lesson) (first : First) → Some first ≡ first_of sizes plan lesson → first.frame < 65536
unfolding first_of
first-frame sizes plan lesson first e = first-below sizes plan lesson _ _ _ first e

-- Facts about the parts of a search that has had k ticks.

pub stays-search : (k : ℕ) (s : Search) → Stays k s → IsSearching s
stays-search k s h = record { most = subst (λ n. n ≤ 2 ^ 31) (sym h.had) h.most; soon = h.soon }

pub stays-ahead : (k : ℕ) (s : Search) → Stays k s → IsAhead s.had (decision_of s)
stays-ahead k s h = subst (λ n. IsAhead n (decision_of s)) (sym h.had) h.ahead

-- a search has had as many ticks as it says
pub stays-now : (s : Search) → IsSearching s → IsAhead s.had (decision_of s) → Stays s.had s
stays-now s is ahead = record { had = refl; most = is.most; soon = is.soon; ahead = ahead }
