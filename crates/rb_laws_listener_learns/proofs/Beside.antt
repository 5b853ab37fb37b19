-- A listener beside a run, computed: it hears what the RMU sends, and no more.
use Rattle.std.proofs.{Common.{◌≡◌, ℕ, zero, suc, ◌+◌, ◌-◌, ◌*◌, ◌<◌, ◌≤◌, ◌==◌, ◌&&◌, ◌||◌, not, nat_lt, nat_le, Bool, true, false, List, [], ◌∷◌, Option, Some, None, get_or, slice_get, if◌then◌else◌, inl, inr, lit<, lit≤, refl, sym, ◌∙◌, ap, subst, arith, zero-add}, lemmas.Bool.{cases_lt, eqb-true, le-leb, leb-true, lt-ltb, ltb-true, not-false, or_from}, lemmas.Bool.Decides.nat_tests, lemmas.List.Elements.{All-cons, All-nil}, lemmas.List.FromFn.get_or-range_with_len, lemmas.List.Sums.AllPass-from_list_all, lemmas.Option.same_Some}
use Rattle.std.specs.{Prelude.{All, is_none, ◌^◌}, List.list_all}
use Rattle.rb_base.specs.{Counting.numbers, Nodes.{set_of, set_below, size}}
use Rattle.rb_base.proofs.Plain.{and_first, and_second}
use Rattle.rb_rules.specs.{declared.cause.Cause.Cause, declared.sense.Sense.Sense, Book.{with_stage, with_frame}, Clock.{IsClock, IsStamp, tick_length, time_of}, Conviction.{turn, convicted_by}, ExactStage.{close_exact, outcome_of}, Goodness.is_before, Hearing.{Coming, Sending, sending, heard_from, row_of}, Judging.{classes_of, verdict_of}, Lawful.{IsLawful, IsOnsetOf, IsRuleOf}, Links.delay_of, Moments.IsComplete, NodeState.NodeState, Plan.{longest_of, shortest_of}, Rounds.{Moment, moment, windows_in, sent_in, close_on, go_through, results_of, after_window, begin_frame, step}, Spelling.message_in, SyncStage.{close_sync, sync_outcome_of}}
use Rattle.rb_listen.specs.{Lessons.{first_of, nothing_recorded}, Listening.{Listening, first_search, hear, heed, is_deciding, search_on, searching, with_message}, Passes.pass_of}
use Rattle.rb_laws_listener_near.specs.Judged.{verdict_with}
use Rattle.rb_rules.proofs.{Feasibility.feasible_exactly, Books.{GoesOn, moments-on}}
use Rattle.rb_laws_agreement.proofs.Tests.{or_neither_first, or_neither_second}
use Rattle.rb_laws_listener_learns.specs.{Beside.{comes, decided, ear, found_by, heard_with, if_stamped, is_offset, plan, search_in, sends_at, sends_by, steady, two_frames, window_of}, Deciding.{CallsComeAfter, CallsComeBy, DecidesBy}, Receivers.{HoldsTo, IsCalm, seen_in}, Seeking.HasCalls, Ears.{HearsTheRun, IsEar, IsHeard, IsOfGood, SendsIn, coming_to, listening_at}}
use Rattle.rb_listen.specs.Listening as now

-- The clock.

time-is : (k : ℕ) → time_of steady k ≡ 10000 * k
time-is zero = refl
time-is (suc k) =
    let e : tick_length steady k ≡ 10000 = rw (le-leb 0 k (omega arith)) refl in
    omega (arith, time-is k, e)

stamp-is : {time : ℕ} (k : ℕ) → time ≡ 10000 * k → IsStamp steady time k
stamp-is k e = record { reached = omega (arith, time-is k); least = λ tick lt. omega (arith, time-is tick) }

one-stamp : {time : ℕ} (a : ℕ) {k : ℕ} → time ≡ 10000 * a → IsStamp steady time k → k ≡ a
one-stamp a {k} e is =
    elim (cases_lt a k) [
      | inl less ↦ absurd (omega (arith, is.least a less, time-is a))
      | inr ge ↦ omega (arith, is.reached, time-is k)
    ]

come-time : (s : Sending) → (comes s).time ≡ 10000 * suc s.tick
come-time s = omega (arith, time-is s.tick)

-- What is heard is sent.

-- what comes with stamp `k` was sent in its window, at the tick before
record Came (k : ℕ) (c : Coming) (nth : ℕ) : Type 0 where
  pub s : Sending
  pub sent : sends_at (window_of k) ≡ Some s
  pub is : c ≡ comes s
  pub tick : suc s.tick ≡ k
  pub first : nth ≡ 0

came-if : (k : ℕ) (o : Option Sending) (nth : ℕ) {c : _} → sends_at (window_of k) ≡ o → slice_get (if_stamped k o) nth ≡ Some c → Came k c nth
came-if k None nth e h = absurd (cc)
came-if k (Some s) nth {c} e h = go (suc s.tick == k) refl nth h
  where
    go : (b : Bool) → (suc s.tick == k) ≡ b → (nth : ℕ) → slice_get (if b then comes s ∷ [] else []) nth ≡ Some c → Came k c nth
    go true is zero h = record { s = s; sent = e; is = sym (same_Some (comes s) c h); tick = eqb-true (suc s.tick) k is; first = refl }
    go true is (suc nth) h = absurd (cc)
    go false is nth h = absurd (cc)

came : (k nth : ℕ) {c : _} → slice_get (heard_with k) nth ≡ Some c → Came k c nth
unfolding heard_with
came k nth {c} h = go (is_offset k) h
  where
    go : (b : Bool) → slice_get (elim b as (λ _. List Coming) [ true ↦ if_stamped k (sends_at (window_of k)) | false ↦ [] ]) nth ≡ Some c → Came k c nth
    go true h = came-if k (sends_at (window_of k)) nth refl h
    go false h = absurd (cc)

-- What is sent.

sends-in : (n : ℕ) {s : _} → sends_at n ≡ Some s → SendsIn two_frames [] n 0 s
unfolding sends_at
sends-in n {s} h = go (m.book.ended || not (nat_lt m.window (windows_in two_frames.sizes))) refl h
  where
    m : Moment
    m = moment two_frames [] n

    by : (o : Option NodeState) → slice_get m.nodes.rmus 0 ≡ o → m.book.ended ≡ false → m.window < windows_in two_frames.sizes → sends_by m o ≡ Some s → SendsIn two_frames [] n 0 s
    by None there running inside h = absurd (cc)
    by (Some st) there running inside h = record { running = running; in_frame = inside; state = st; good = (there, refl); sends = h }

    go : (b : Bool) → (m.book.ended || not (nat_lt m.window (windows_in two_frames.sizes))) ≡ b
        → (elim b as (λ _. Option Sending) [ true ↦ None | false ↦ sends_by m (slice_get m.nodes.rmus 0) ]) ≡ Some s → SendsIn two_frames [] n 0 s
    go true e h = absurd (cc)
    go false e h =
        by (slice_get m.nodes.rmus 0) refl (or_neither_first m.book.ended (not (nat_lt m.window (windows_in two_frames.sizes))) e)
        (ltb-true m.window (windows_in two_frames.sizes) (not-false (nat_lt m.window (windows_in two_frames.sizes)) (or_neither_second m.book.ended (not (nat_lt m.window (windows_in two_frames.sizes))) e))) h

-- only RMU 0 sends
first-rmu : {n j s : _} → SendsIn two_frames [] n j s → j ≡ 0
first-rmu {n} {j} sent =
    let less : j < 1 = ltb-true j 1 (and_first (nat_lt j 1) (is_before (get_or two_frames.rmu_onsets j None) (moment two_frames [] n).frame _) sent.good.1) in omega arith

sends-so : {n s : _} → SendsIn two_frames [] n 0 s → sends_at n ≡ Some s
unfolding sends_at
sends-so {n} sent =
    let m : Moment = moment two_frames [] n in
    let inside : not (nat_lt m.window (windows_in two_frames.sizes)) ≡ false = ap not (lt-ltb m.window (windows_in two_frames.sizes) sent.in_frame) in
    let on : (m.book.ended || not (nat_lt m.window (windows_in two_frames.sizes))) ≡ false = or_from m.book.ended (not (nat_lt m.window (windows_in two_frames.sizes))) sent.running inside in
    ap (λ (b : Bool). elim b as (λ _. Option Sending) [ true ↦ None | false ↦ sends_by m (slice_get m.nodes.rmus 0) ]) on
    ∙ ap (sends_by m) sent.good.0 ∙ sent.sends

-- The run ends.

ended : (moment two_frames [] 35).book.ended ≡ true
unfolding set_of set_below message_in close_exact outcome_of close_sync sync_outcome_of turn convicted_by classes_of verdict_of size delay_of with_stage with_frame sending heard_from row_of sent_in close_on go_through results_of after_window begin_frame step
ended = refl

before-end : (n : ℕ) → (moment two_frames [] n).book.ended ≡ false → n < 35
before-end n running =
    elim (cases_lt n 35) [
      | inl less ↦ less
      | inr ge ↦
          let on : GoesOn (moment two_frames [] 35).book (moment two_frames [] (35 + (n - 35))).book = moments-on two_frames [] 35 (n - 35) in
          let e : 35 + (n - 35) ≡ n = omega arith in
          let over : (moment two_frames [] n).book.ended ≡ true =
          ap (λ k. (moment two_frames [] k).book.ended) (sym e) ∙ ap (λ b. b.ended) (on.over ended) ∙ ended in
          let both : true ≡ false = sym over ∙ running in absurd (cc)
    ]

-- what is sent in a window comes with a stamp from which the window is found, and which is at most
-- that of the last call
abbrev is_placed : ℕ → Option Sending → Bool
is_placed n None = true
is_placed n (Some s) = (is_offset (suc s.tick) && (window_of (suc s.tick) == n)) && nat_le (suc s.tick) 445

all-placed : list_all (λ n. is_placed n (sends_at n)) (numbers 35) ≡ true
unfolding sends_at set_of set_below message_in close_exact outcome_of close_sync sync_outcome_of turn convicted_by classes_of verdict_of size delay_of with_stage with_frame sending heard_from row_of sent_in close_on go_through results_of after_window begin_frame step
all-placed = refl

placed : (n : ℕ) → n < 35 → is_placed n (sends_at n) ≡ true
placed n less =
    let at : get_or (numbers 35) n 0 ≡ n = get_or-range_with_len 0 35 n 0 less ∙ zero-add n in
    ap (λ k. is_placed k (sends_at k)) (sym at) ∙ AllPass-from_list_all (λ n. is_placed n (sends_at n)) (numbers 35) all-placed n 0 less

heard-so : (n : ℕ) {s : _} → n < 35 → sends_at n ≡ Some s → slice_get (heard_with (suc s.tick)) 0 ≡ Some (comes s)
unfolding heard_with
heard-so n {s} less sent =
    let both : (is_offset (suc s.tick) && (window_of (suc s.tick) == n)) ≡ true =
    and_first (is_offset (suc s.tick) && (window_of (suc s.tick) == n)) (nat_le (suc s.tick) 445) (ap (is_placed n) (sym sent) ∙ placed n less) in
    let offset : is_offset (suc s.tick) ≡ true = and_first (is_offset (suc s.tick)) (window_of (suc s.tick) == n) both in
    let window : window_of (suc s.tick) ≡ n = eqb-true (window_of (suc s.tick)) n (and_second (is_offset (suc s.tick)) (window_of (suc s.tick) == n) both) in
    let self : (suc s.tick == suc s.tick) ≡ true = grind (arith, nat_tests) in
    ap (λ (b : Bool). slice_get (elim b as (λ _. List Coming) [ true ↦ if_stamped (suc s.tick) (sends_at (window_of (suc s.tick))) | false ↦ [] ]) 0) offset
    ∙ ap (λ o. slice_get (if_stamped (suc s.tick) o) 0) (ap sends_at window ∙ sent)
    ∙ ap (λ (b : Bool). slice_get (if b then comes s ∷ [] else []) 0) self

-- The listener.

pub is-ear : IsEar two_frames ear
is-ear = record {
  clock = record { start = lit≤ tt; rising = refl; within = refl };
  delays = λ j place. record { least = lit≤ tt; greatest = lit≤ tt };
  stamps = λ k c less heard.
      let x : Came k c heard.nth = came k heard.nth heard.there in
      stamp-is k (ap (λ c. c.time) x.is ∙ come-time x.s ∙ ap (λ k. 10000 * k) x.tick);
  after_start = λ c heard. let x : Came 0 c heard.nth = came 0 heard.nth heard.there in let e : suc x.s.tick ≡ 0 = x.tick in absurd (omega arith);
  ticks = lit≤ tt;
}

pub hears-the-run : HearsTheRun two_frames [] ear
unfolding set_of set_below size
hears-the-run = record {
  most_good = refl;
  each = λ n j s sent k some less stamp.
      let zero_is : 0 ≡ j = sym (first-rmu sent) in
      subst (λ j. SendsIn two_frames [] n j s → IsStamp ear.clock (coming_to two_frames ear j (moment two_frames [] n).frame s).time k → IsHeard ear k (coming_to two_frames ear j (moment two_frames [] n).frame s)) zero_is
      (λ sent stamp.
      let same : k ≡ suc s.tick = one-stamp (suc s.tick) (come-time s) stamp in
      record {
        nth = 0;
        there = ap (λ k. slice_get (heard_with k) 0) same ∙ heard-so n (before-end n sent.running) (sends-so sent);
      }) sent stamp;
  once = λ k a b c less good first second. (came k a first).first ∙ sym (came k b second).first;
  only = λ k c less heard inside.
      let x : Came k c heard.nth = came k heard.nth heard.there in
      inl (subst (IsOfGood two_frames [] ear) (sym x.is)
      (record { n = window_of k; sending = x.s; sent = sends-in (window_of k) x.sent; is = refl }));
}

-- The calls.

pub starts : CallsComeAfter two_frames [] ear 0 0
starts n j s frame window sent = omega (arith, time-is 0)

pub come : CallsComeBy two_frames [] ear 1 445
come n j s frame window sent =
    let zero_is : 0 ≡ j = sym (first-rmu sent) in
    subst (λ j. SendsIn two_frames [] n j s → (coming_to two_frames ear j (moment two_frames [] n).frame s).time ≤ time_of ear.clock 445) zero_is
    (λ sent.
    let test : nat_le (suc s.tick) 445 ≡ true =
    and_second (is_offset (suc s.tick) && (window_of (suc s.tick) == n)) (nat_le (suc s.tick) 445) (ap (is_placed n) (sym (sends-so sent)) ∙ placed n (before-end n sent.running)) in
    let by : suc s.tick ≤ 445 = leb-true (suc s.tick) 445 test in
    let late : (comes s).time ≤ time_of steady 445 = omega (arith, come-time s, time-is 445, by) in late) sent

-- The scenario.

one : {X : Type 0} (P : X → Type 0) (x : X) → P x → All P (x ∷ [])
one P x h = All-cons P x [] h (All-nil P)

two : {X : Type 0} (P : X → Type 0) (x y : X) → P x → P y → All P (x ∷ y ∷ [])
two P x y g h = All-cons P x (y ∷ []) g (one P y h)

is-clock : IsClock (shortest_of plan) (longest_of plan) steady
is-clock = record { start = lit≤ tt; rising = refl; within = refl }

near-starts : All (λ b. steady.start ≤ b.start + plan.p) (steady ∷ steady ∷ [])
near-starts = two (λ b. steady.start ≤ b.start + plan.p) steady steady (lit≤ tt) (lit≤ tt)

pub is-lawful : IsLawful two_frames
is-lawful = record {
  sizes = record { some_biu = lit≤ tt; most_bius = lit≤ tt; some_rmu = lit≤ tt; most_rmus = lit≤ tt; some_slot = lit≤ tt; most_slots = lit≤ tt };
  plan = record {
    u = (lit≤ tt, lit≤ tt);
    r = lit< tt;
    dmin = (lit≤ tt, lit≤ tt);
    dmax = lit≤ tt;
    l = (lit≤ tt, lit≤ tt);
    h = (lit≤ tt, lit≤ tt);
    v = (lit≤ tt, lit≤ tt);
    z = (lit≤ tt, lit≤ tt);
    c = lit≤ tt;
    p = lit≤ tt;
    probation = lit≤ tt;
  };
  version = tt;
  feasible = (feasible_exactly two_frames.sizes plan).0 refl;
  frames = (lit≤ tt, lit≤ tt);
  requests = record { enough = lit≤ tt; each = one (λ n. n ≤ 64) 1 (lit≤ tt) };
  words = record { enough = lit≤ tt; each = one (λ w. w < 2 ^ 32) 7 (lit< tt) };
  apps = record { enough = lit≤ tt; each = one (λ app. app < 3) 0 (lit< tt) };
  one_clock_each = refl;
  clocks = two (IsClock (shortest_of plan) (longest_of plan)) steady steady is-clock is-clock;
  starts = two (λ a. All (λ b. a.start ≤ b.start + plan.p) (steady ∷ steady ∷ [])) steady steady near-starts near-starts;
  base_delay = record { least = lit≤ tt; greatest = lit≤ tt };
  rules = All-nil (IsRuleOf two_frames);
  biu_onsets = record { enough = lit≤ tt; each = one (IsOnsetOf two_frames) None tt };
  rmu_onsets = record { enough = lit≤ tt; each = one (IsOnsetOf two_frames) None tt };
  few_rules = lit≤ tt;
  few_segments = lit≤ tt;
}

-- The decision.

abbrev is_searching : Listening → Bool
is_searching (now.Searching s) = true
is_searching (now.Waiting had first) = false
is_searching (now.Following core) = false

searching-so : (l : Listening) → is_searching l ≡ true → l ≡ now.Searching (search_in l)
searching-so (now.Searching s) h = refl
searching-so (now.Waiting had first) h = cc
searching-so (now.Following core) h = cc

found-so : (k : ℕ) → is_searching (listening_at two_frames ear k) ≡ true → listening_at two_frames ear k ≡ now.Searching (found_by k)
unfolding found_by
found-so k h = searching-so (listening_at two_frames ear k) h

searches : is_searching (listening_at two_frames ear 463) ≡ true
unfolding sends_at heard_with set_of set_below message_in close_exact outcome_of close_sync sync_outcome_of turn convicted_by classes_of verdict_of size delay_of with_stage with_frame sending heard_from row_of sent_in close_on go_through results_of after_window begin_frame step nothing_recorded first_of first_search with_message searching hear search_on heed pass_of
searches = refl

deciding : is_deciding decided ≡ true
unfolding found_by sends_at heard_with set_of set_below message_in close_exact outcome_of close_sync sync_outcome_of turn convicted_by classes_of verdict_of size delay_of with_stage with_frame sending heard_from row_of sent_in close_on go_through results_of after_window begin_frame step nothing_recorded first_of first_search with_message searching hear search_on heed pass_of
deciding = refl

learned : decided.lesson.frame ≡ 1
unfolding found_by sends_at heard_with set_of set_below message_in close_exact outcome_of close_sync sync_outcome_of turn convicted_by classes_of verdict_of size delay_of with_stage with_frame sending heard_from row_of sent_in close_on go_through results_of after_window begin_frame step nothing_recorded first_of first_search with_message searching hear search_on heed pass_of
learned = refl

called : HasCalls two_frames [] 1
unfolding set_of set_below message_in close_exact outcome_of close_sync sync_outcome_of turn convicted_by classes_of verdict_of size delay_of with_stage with_frame sending heard_from row_of sent_in close_on go_through results_of after_window begin_frame step
called = refl

pub decides : DecidesBy two_frames [] ear 1 463 decided
decides = record { in_time = lit< tt; searching = found-so 463 searches; deciding = deciding; called = called; lesson = learned }

-- The premise.

-- the verdict with the listener finds no breach in moment `m`
abbrev is_calm : List Sense → Moment → Bool
is_calm records m =
    not (nat_le 1 m.frame) || (not (nat_le 1 m.window) || is_none (verdict_with (seen_in two_frames ear 1 records m.frame) m.book.stages))

abbrev are_calm : List Sense → Bool
are_calm records = list_all (λ n. is_calm records (moment two_frames [] n)) (numbers 35)

all-calm : are_calm decided.lesson.records ≡ true
unfolding found_by sends_at heard_with set_of set_below message_in close_exact outcome_of close_sync sync_outcome_of turn convicted_by classes_of verdict_of size delay_of with_stage with_frame sending heard_from row_of sent_in close_on go_through results_of after_window begin_frame step nothing_recorded first_of first_search with_message searching hear search_on heed pass_of verdict_with
all-calm = refl

calm-at : (n : ℕ) → n ≤ 34 → is_calm decided.lesson.records (moment two_frames [] n) ≡ true
calm-at n le =
    let less : n < 35 = omega arith in
    let at : get_or (numbers 35) n 0 ≡ n = get_or-range_with_len 0 35 n 0 less ∙ zero-add n in
    ap (λ k. is_calm decided.lesson.records (moment two_frames [] k)) (sym at)
    ∙ AllPass-from_list_all (λ n. is_calm decided.lesson.records (moment two_frames [] n)) (numbers 35) all-calm n 0 less

by-tests : (a b : ℕ) (o : Option Cause) → 1 ≤ a → 1 ≤ b → (not (nat_le 1 a) || (not (nat_le 1 b) || is_none o)) ≡ true → o ≡ None
by-tests a b o h k e =
    let first : nat_le 1 a ≡ true = le-leb 1 a h in
    let second : nat_le 1 b ≡ true = le-leb 1 b k in
    go o (ap (λ (c : Bool). not c || (not (nat_le 1 b) || is_none o)) (sym first) ∙ e) second
  where
    last : (o : Option Cause) → is_none o ≡ true → o ≡ None
    last None h = refl
    last (Some x) h = let no_it : false ≡ true = h in cc

    go : (o : Option Cause) → (not true || (not (nat_le 1 b) || is_none o)) ≡ true → nat_le 1 b ≡ true → o ≡ None
    go o e second = last o (ap (λ (c : Bool). not c || is_none o) (sym second) ∙ e)

-- the premise with the listener holds up to the start of frame 2
pub holds-on : HoldsTo two_frames [] ear 1 decided.lesson.records 34
holds-on n le frame window =
    by-tests (moment two_frames [] n).frame (moment two_frames [] n).window
    (verdict_with (seen_in two_frames ear 1 decided.lesson.records (moment two_frames [] n).frame) (moment two_frames [] n).book.stages) frame window (calm-at n le)

pub complete : IsComplete two_frames [] 1 4
unfolding set_of set_below message_in close_exact outcome_of close_sync sync_outcome_of turn convicted_by classes_of verdict_of size delay_of with_stage with_frame sending heard_from row_of sent_in close_on go_through results_of after_window begin_frame step
complete = refl

pub calm : IsCalm two_frames [] ear 1 decided.lesson.records 1 4
calm = record { complete = complete; holds = λ n le. holds-on n (omega arith) }
