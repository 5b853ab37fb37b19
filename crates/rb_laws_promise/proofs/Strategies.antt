-- The promise is kept whatever faulty nodes do: by any function, and against every strategy.
use Rattle.std.proofs.{Common.{◌≡◌, ℕ, zero, suc, ◌+◌, ◌-◌, ◌*◌, ◌<◌, ◌==◌, ◌&&◌, nat_le, nat_lt, Bool, true, false, List, ◌∷◌, filter, map, Option, Some, None, option_map, option_to_list, get_or, slice_get, refl, sym, ◌∙◌, ap, subst, arith}, lemmas.Bool.{and_parts, ltb-true}}
use Rattle.rb_base.specs.{Nodes.{Side, other}, Nodes.Side.{Biu, Rmu}, Sizes.Sizes, declared.values.Place.Place}
use Rattle.rb_rules.specs.{declared.plan.Window.Window, declared.role.Role.Role, declared.role.Role.TheVariants.{Schedule, Data, DiagBiu, DiagRmu, Sync}, Behavior.{Behavior, Said}, Book.{Book, Each, Row, after_verdict, of_kind, map_each, trusted_by, see_in, in_order, with_end, with_frame, with_stage}, ExactStage.{at_source, keep_sent, present}, Goodness.{Scenario, good_at, is_good}, Hearing.{Coming, Sending, Span, coming_of, heard_from, is_heard, said_by, sending, span_of, word_for}, Judging.{JudgedStage, verdict_of}, Lawful.{IsLawful, IsOnsetOf}, NodeState.NodeState, Ports.{HandIn, PortState}, Rounds.{Moment, Result, after_window, begin_frame, book_after, close_on, go_through, heard_at, move_on, moment, next_frame, ports_after, results_of, sending_in, sent_in, step, window_in, windows_in, word_for_window}, Slots.role_of, Windows.windows_of_frame}
use Rattle.rb_laws_agreement.proofs.ExactAgrees.{has_ticks}
use Rattle.rb_laws_events.proofs.{CoreStates.window-place, EachAlike.each-alike, MomentBooks.number-of, RoundNodes.{AllStand, moments-stand, slot-is, slot_numbered}}
use Rattle.rb_laws_promise.specs.{Promise.{AnyBehaviorKeepsThePromise, behaving}, Strategies.{Strategy, StrategiesGainNothing, moment_against}}
use Rattle.rb_laws_promise.proofs.Whole.{kept}
use mathlib.Core.Path.{fun_ext}

-- Any function.

-- nothing that is lawful speaks of what faulty nodes do
lawful-behaving : {sc : _} (b : Behavior) → IsLawful sc → IsLawful (behaving sc b)
lawful-behaving {sc} b l = record {
  sizes = l.sizes;
  plan = l.plan;
  version = l.version;
  feasible = l.feasible;
  frames = l.frames;
  requests = l.requests;
  words = l.words;
  apps = l.apps;
  one_clock_each = l.one_clock_each;
  clocks = l.clocks;
  starts = l.starts;
  base_delay = l.base_delay;
  rules = λ k d lt.
      let r = l.rules k d lt in
      record { from = r.from; to = r.to; unlike_kinds = r.unlike_kinds; frames = r.frames; slots = r.slots; stages = r.stages; delay = r.delay };
  biu_onsets = record { enough = l.biu_onsets.enough; each = λ k d lt. onset (get_or sc.biu_onsets k d) (l.biu_onsets.each k d lt) };
  rmu_onsets = record { enough = l.rmu_onsets.enough; each = λ k d lt. onset (get_or sc.rmu_onsets k d) (l.rmu_onsets.each k d lt) };
  few_rules = l.few_rules;
  few_segments = l.few_segments;
}
  where
    onset : (o : Option (ℕ × ℕ)) → IsOnsetOf sc o → IsOnsetOf (behaving sc b) o
    onset None is = tt
    onset (Some at) is = is

pub any-behavior : AnyBehaviorKeepsThePromise
any-behavior sc hands law b = kept (behaving sc b) hands (lawful-behaving b law)

-- A step with one behavior and with another.

good-is : (sc : Scenario) (b : Behavior) (me : Side) (i frame slot : ℕ) → is_good (behaving sc b) me i frame slot ≡ is_good sc me i frame slot
good-is sc b Biu i frame slot = refl
good-is sc b Rmu i frame slot = refl

word-is : (sc : Scenario) (b : Behavior) (ports : List PortState) (i slot : ℕ) (role : Role) → word_for (behaving sc b) ports i slot role ≡ word_for sc ports i slot role
word-is sc b ports i slot (Schedule n) = refl
word-is sc b ports i slot (Data n) = refl
word-is sc b ports i slot (DiagBiu n) = refl
word-is sc b ports i slot (DiagRmu n) = refl
word-is sc b ports i slot Sync = refl

sent-is : (sc : Scenario) (b : Behavior) (m : Moment) → sent_in (behaving sc b) m ≡ sent_in sc m
unfolding sent_in
sent-is sc b m =
    each-alike (λ me i st. sending_in (behaving sc b) m me i st (window_in sc m me st)) (λ me i st. sending_in sc m me i st (window_in sc m me st)) m.nodes
    (λ me i st there.
    let w : Window = window_in sc m me st in
    ap (sending sc.sizes sc.plan me i st w.slot w.stage) (word-is sc b m.ports i w.slot (role_of sc.sizes w.slot)))

-- what is heard, if what faulty nodes do in the window is alike
heard-alike : (sc : Scenario) (b c : Behavior) (me : Side) (i : ℕ) (span : Span) (sent : List (Option Sending)) (j : ℕ) → b me i span j ≡ c me i span j
    → heard_from (behaving sc b) me i span sent j ≡ heard_from (behaving sc c) me i span sent j
unfolding heard_from
heard-alike sc b c me i span sent j same =
    ap (heard b) (good-is sc b (other me) j span.place.frame span.place.slot)
    ∙ by (is_good sc (other me) j span.place.frame span.place.slot)
    ∙ sym (ap (heard c) (good-is sc c (other me) j span.place.frame span.place.slot))
  where
    heard : Behavior → Bool → List Coming
    heard x good = elim good [
      | true ↦ option_to_list (option_map (coming_of sc me i j span.place.frame) (at_source sent j))
      | false ↦ said_by (behaving sc x) me i span j
    ]

    said : List Said → List Coming
    said all = map (λ s. record { time = s.time; from = j; bytes = s.bytes }) (filter (is_heard sc me i span j) all)

    by : (good : Bool) → heard b good ≡ heard c good
    by true = refl
    by false = ap said same

-- a node goes through its window alike
through-alike : (sc : Scenario) (b c : Behavior) (m : Moment) (sent : Each (Option Sending)) (me : Side) (i : ℕ) (st : NodeState) (w : Window)
    → (is_good sc me i m.frame w.slot ≡ true → (j : ℕ) → b me i (span_of st w) j ≡ c me i (span_of st w) j)
    → go_through (behaving sc b) m sent me i st w ≡ go_through (behaving sc c) m sent me i st w
unfolding go_through close_on
through-alike sc b c m sent me i st w same =
    ap (λ good. through b (good && nat_le w.first w.last) (word b)) (good-is sc b me i m.frame w.slot)
    ∙ ap (through b passes) (word-is sc b m.ports i w.slot (role_of sc.sizes w.slot))
    ∙ by passes refl
    ∙ sym (ap (through c passes) (word-is sc c m.ports i w.slot (role_of sc.sizes w.slot)))
    ∙ sym (ap (λ good. through c (good && nat_le w.first w.last) (word c)) (good-is sc c me i m.frame w.slot))
  where
    passes : Bool
    passes = is_good sc me i m.frame w.slot && nat_le w.first w.last

    word : Behavior → ℕ
    word x = word_for_window (behaving sc x) m i w

    through : Behavior → Bool → ℕ → Result
    through x goes given = elim goes [
      | true ↦ close_on sc me i (keep_sent sc.sizes me i st w.slot w.stage given) w (heard_at (behaving sc x) me i st w sent)
      | false ↦ record { state = st; row = None }
    ]

    by : (goes : Bool) → passes ≡ goes → through b goes (word_for_window sc m i w) ≡ through c goes (word_for_window sc m i w)
    by true e =
        let good : is_good sc me i m.frame w.slot ≡ true = (and_parts (is_good sc me i m.frame w.slot) (nat_le w.first w.last) e).0 in
        ap (close_on sc me i (keep_sent sc.sizes me i st w.slot w.stage (word_for_window sc m i w)) w)
        (fun_ext (λ j. heard-alike sc b c me i (span_of st w) (of_kind (other me) sent) j (same good j)))
    by false e = refl

-- what two behaviors do in a window of a moment is alike
abbrev AreAlikeIn : Scenario → Behavior → Behavior → Moment → Type 0
AreAlikeIn sc b c m =
    (me : Side) (i : ℕ) (st : NodeState) → slice_get (of_kind me m.nodes) i ≡ Some st → is_good sc me i m.frame (window_in sc m me st).slot ≡ true
    → (j : ℕ) → b me i (span_of st (window_in sc m me st)) j ≡ c me i (span_of st (window_in sc m me st)) j

results-alike : (sc : Scenario) (b c : Behavior) (m : Moment) → AreAlikeIn sc b c m → results_of (behaving sc b) m ≡ results_of (behaving sc c) m
unfolding results_of
results-alike sc b c m same =
    ap (results b) (sent-is sc b m)
    ∙ each-alike (λ me i st. go_through (behaving sc b) m (sent_in sc m) me i st (window_in sc m me st)) (λ me i st. go_through (behaving sc c) m (sent_in sc m) me i st (window_in sc m me st)) m.nodes
    (λ me i st there. through-alike sc b c m (sent_in sc m) me i st (window_in sc m me st) (same me i st there))
    ∙ sym (ap (results c) (sent-is sc c m))
  where
    results : Behavior → Each (Option Sending) → Each Result
    results x sent = map_each (λ me i st. go_through (behaving sc x) m sent me i st (window_in sc m me st)) m.nodes

-- on equal rows a stage is settled alike, whatever faulty nodes do
stage-is : (sc : Scenario) (b : Behavior) (place : Place) (rows : Each (Option Row)) (k : Book) → with_stage (behaving sc b) place rows k ≡ with_stage sc place rows k
unfolding with_stage
stage-is sc b place rows k = ap judged (fun_ext (λ kind. good kind))
  where
    good : (kind : Side) → good_at (behaving sc b) kind place.frame place.slot ≡ good_at sc kind place.frame place.slot
    good Biu = refl
    good Rmu = refl

    judged : (Side → ℕ) → Book
    judged good =
        let stage : JudgedStage =
        record { good = good; trusted = λ kind. trusted_by kind (present (in_order rows)); eps = sc.plan.dmax - sc.plan.dmin; sight = λ kind i j. see_in (get_or (of_kind kind rows) i None) j } in
        elim k.ended [ true ↦ k | false ↦ after_verdict sc.sizes place rows (stage ∷ k.stages) k (verdict_of (stage ∷ k.stages)) ]

book-is : (sc : Scenario) (b : Behavior) (frame : ℕ) (o : Option Window) (rows : Each (Option Row)) (k : Book) → book_after (behaving sc b) frame o rows k ≡ book_after sc frame o rows k
book-is sc b frame None rows k = refl
book-is sc b frame (Some w) rows k = stage-is sc b (record { frame = frame; slot = w.slot; stage = w.stage }) rows k

after-is : (sc : Scenario) (b : Behavior) (m : Moment) (results : Each Result) → after_window (behaving sc b) m results ≡ after_window sc m results
unfolding after_window
after-is sc b m results =
    let rows : Each (Option Row) = map_each (λ me i (r : Result). r.row) results in
    ap (λ (k : Book). record { frame = m.frame; window = m.window + 1; nodes = map_each (λ me i (r : Result). r.state) results; ports = ports_after rows.bius m.ports; book = k })
    (book-is sc b m.frame (slice_get (windows_of_frame sc.sizes sc.plan) m.window) rows m.book)

next-alike : (sc : Scenario) (hands : List HandIn) (b c : Behavior) (m : Moment) → next_frame (behaving sc b) hands m ≡ next_frame (behaving sc c) hands m
unfolding begin_frame with_frame
next-alike sc hands b c m = refl

move-alike : (sc : Scenario) (hands : List HandIn) (b c : Behavior) (m : Moment) → (m.window < windows_in sc.sizes → AreAlikeIn sc b c m)
    → move_on (behaving sc b) hands m ≡ move_on (behaving sc c) hands m
move-alike sc hands b c m same = by (nat_lt m.window (windows_in sc.sizes)) refl
  where
    moved : Behavior → Bool → Moment
    moved x in_frame = elim in_frame [ true ↦ after_window (behaving sc x) m (results_of (behaving sc x) m) | false ↦ next_frame (behaving sc x) hands m ]

    by : (in_frame : Bool) → nat_lt m.window (windows_in sc.sizes) ≡ in_frame → moved b in_frame ≡ moved c in_frame
    by true e =
        after-is sc b m (results_of (behaving sc b) m) ∙ ap (after_window sc m) (results-alike sc b c m (same (ltb-true m.window (windows_in sc.sizes) e)))
        ∙ sym (after-is sc c m (results_of (behaving sc c) m))
    by false e = next-alike sc hands b c m

step-alike : (sc : Scenario) (hands : List HandIn) (b c : Behavior) (m : Moment) → (m.window < windows_in sc.sizes → AreAlikeIn sc b c m)
    → step (behaving sc b) hands m ≡ step (behaving sc c) hands m
unfolding step
step-alike sc hands b c m same =
    ap (λ (next : Moment). record next { book = elim (m.frame == sc.frames) as (λ _. Book) [ true ↦ with_end m.book | false ↦ next.book ] }) (move-alike sc hands b c m same)

-- Strategies.

-- the number of the moment before a place
abbrev number_of : Sizes → Place → ℕ
number_of sizes place = place.frame * (windows_in sizes + 1) + 3 * place.slot + place.stage - 1

-- what the strategy chooses at the moment before each window, as one behavior
abbrev chosen_by : Scenario → Strategy → List HandIn → Behavior
chosen_by sc plays hands me i span j = plays (moment_against sc plays hands (number_of sc.sizes span.place)) me i span j

-- a good node knows which window of which frame it is in
chosen-alike : {sc : _} (plays : Strategy) (hands : List HandIn) (n : ℕ) {m : _} → IsLawful sc → moment (behaving sc (chosen_by sc plays hands)) hands n ≡ m → moment_against sc plays hands n ≡ m
    → m.window < windows_in sc.sizes → AreAlikeIn sc (chosen_by sc plays hands) (plays m) m
chosen-alike {sc} plays hands n {m} law is against inside me i st there good j =
    let b : Behavior = chosen_by sc plays hands in
    let w : Window = window_in sc m me st in
    let stand : AllStand (behaving sc b) m = subst (AllStand (behaving sc b)) is (moments-stand (behaving sc b) hands n (has_ticks law)) in
    let here : is_good (behaving sc b) me i m.frame (slot_numbered sc.sizes m.window) ≡ true =
    good-is sc b me i m.frame (slot_numbered sc.sizes m.window) ∙ ap (is_good sc me i m.frame) (sym (slot-is sc.sizes sc.plan me st m.window)) ∙ good in
    let frame : st.frame ≡ m.frame = (stand.stands me i st there here).frame in
    let number : n ≡ m.frame * (windows_in sc.sizes + 1) + m.window = subst (λ (m : Moment). n ≡ m.frame * (windows_in sc.sizes + 1) + m.window) is (number-of (behaving sc b) hands n).0 in
    let place : 3 * w.slot + w.stage ≡ m.window + 1 = window-place sc.sizes sc.plan me st m.window (omega (arith, inside)) in
    let same : number_of sc.sizes (span_of st w).place ≡ n =
    at (windows_in sc.sizes + 1) w.slot w.stage m.window st.frame m.frame frame number place in
    ap (λ k. plays (moment_against sc plays hands k) me i (span_of st w) j) same ∙ ap (λ (m : Moment). plays m me i (span_of st w) j) against
  where
    at : (all slot stage window f g : ℕ) → f ≡ g → n ≡ g * all + window → 3 * slot + stage ≡ window + 1 → f * all + 3 * slot + stage - 1 ≡ n
    at all slot stage window f g same number place = let e : f * all ≡ g * all = ap (λ k. k * all) same in omega (arith, e, number, place)

moments-same : {sc : _} (plays : Strategy) (hands : List HandIn) → IsLawful sc → (n : ℕ) → moment (behaving sc (chosen_by sc plays hands)) hands n ≡ moment_against sc plays hands n
unfolding begin_frame with_frame
moments-same plays hands law zero = refl
moments-same {sc} plays hands law (suc n) =
    let b : Behavior = chosen_by sc plays hands in
    let m : Moment = moment_against sc plays hands n in
    ap (step (behaving sc b) hands) (moments-same plays hands law n)
    ∙ step-alike sc hands b (plays m) m (chosen-alike plays hands n law (moments-same plays hands law n) refl)

pub no-gain : StrategiesGainNothing
no-gain sc hands law plays = record {
  chosen = chosen_by sc plays hands;
  same = moments-same plays hands law;
  kept = any-behavior sc hands law (chosen_by sc plays hands);
}
