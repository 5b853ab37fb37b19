-- In each moment of a run the standing of each good node follows the evidence that it found.
use Rattle.std.proofs.{Common.{◌≡◌, ℕ, zero, suc, ◌+◌, ◌<◌, ◌≤◌, ◌==◌, ◌&&◌, ◌⊎◌, inl, inr, nat_le, Bool, true, false, if◌then◌else◌, List, length, map, Option, Some, None, is_some, slice_get, refl, sym, ◌∙◌, ap, subst, arith}, lemmas.Bool.{and_parts, cases_lt, eqb-true, le-leb, leb-true}, lemmas.Option.same_Some}
use Rattle.rb_base.specs.{Nodes.{Side, has, other}, Nodes.Side.{Biu, Rmu}, Sizes.{Sizes, sync_slot_of}, declared.values.Heard.Heard}
use Rattle.rb_rules.specs.{declared.closing.Closing.Closing, declared.plan.Window.Window, declared.role.Role.Role, declared.role.Role.TheVariants.Sync, declared.sense.Sense.Sense, Book.{each_of, of_kind}, Conviction.{convicted_at, turn}, ExactStage.{Outcome, close_exact, compare_with, keep_sent, outcome_of, says, with_unlike}, Goodness.{Scenario, clock_of, is_good}, Hearing.{Coming, arrival_of}, Lawful.IsLawful, NodeState.{NodeState, first_state, trusted_of}, NodeSteps.{close, expect_of, turn_if_known}, Ports.HandIn, Rounds.{Moment, Result, IsGoodIn, begin_frame, close_on, go_through, heard_at, moment, sent_in, window_in, windows_in, word_for_window}, Sense.sense_of, Slots.{count_of, expects, role_of, sender_in}, Standing.{Standing, has_evidence, standing_at_end, with_evidence, without}, SyncStage.{close_sync, new_epoch_of, sync_outcome_of}}
use Rattle.rb_rules.proofs.{RoundStates.{Knows, state-after, state-turned}, Slots.sync_role, WindowNumbers.get-made}
use Rattle.rb_laws_agreement.proofs.{ExactAgrees.has_ticks, FrameAgrees.epoch-known, Goodnesses.{good_before, good_counts, good_earlier}}
use Rattle.rb_laws_events.proofs.{CloseOrder.{IsFrameLater, IsWindowLater, frame-later, window-later}, RoundNodes.{AllStand, item-at, moments-stand, slot-is, slot_numbered}}
use Rattle.rb_laws_promise.specs.Evidence.{AccusationsFollowEvidence, Evidence, FindsEvidence, expects_in, sense_in}
use Rattle.rb_laws_promise.proofs.Following.{Adds, Keeps, first-keeps, follows, same-keeps, turn-keeps, window-keeps}

-- A close.

-- after a close there is the evidence of it, and perhaps more mismatch accusations
abbrev IsWith : (ℕ → Bool) → Standing → Standing → Type 0
IsWith evidence before after = (mismatch : ℕ) × (after ≡ record (with_evidence evidence before) { mismatch = mismatch })

-- the evidence of a close, by what the slot is for, and by the slot
abbrev evidence_for : Sizes → Side → NodeState → Role → ℕ → (ℕ → Sense) → ℕ → Bool
evidence_for sizes me st role stage sense =
    has_evidence st.far (expects me role (sender_in (trusted_of me Biu st) (trusted_of me Rmu st) st.owners role) st.far.trusted stage) sense

abbrev evidence_at : Sizes → Side → NodeState → ℕ → ℕ → (ℕ → Sense) → ℕ → Bool
evidence_at sizes me st slot stage sense = evidence_for sizes me st (role_of sizes slot) stage sense

compared : (value : Option Heard) (c : Closing) (s : Standing) → (mismatch : ℕ) × (compare_with value c s ≡ record s { mismatch = mismatch })
compared None c s = (s.mismatch, refl)
compared (Some value) c s = ((with_unlike value c.taken s).mismatch, refl)

exact-adds : (sizes : Sizes) (me : Side) (i : ℕ) (st : NodeState) (slot stage : ℕ) (sense : ℕ → Sense)
    → IsWith (evidence_at sizes me st slot stage sense) st.far (close_exact sizes me i st slot stage sense).state.far
unfolding close_exact outcome_of
exact-adds sizes me i st slot stage sense = compared _ _ (with_evidence (evidence_at sizes me st slot stage sense) st.far)

sync-adds : (sizes : Sizes) (me : Side) (st : NodeState) {slot : ℕ} (stage first : ℕ) (sense : ℕ → Sense) → slot ≡ sync_slot_of sizes
    → IsWith (evidence_at sizes me st slot stage sense) st.far (close_sync sizes me st stage first sense).state.far
unfolding close_sync sync_outcome_of
sync-adds sizes me st {slot} stage first sense is =
    let role : role_of sizes slot ≡ Sync = ap (role_of sizes) is ∙ sync_role sizes in
    subst (λ role. IsWith (evidence_for sizes me st role stage sense) st.far (close_sync sizes me st stage first sense).state.far) (sym role)
    (st.far.mismatch, refl)

close-adds : (sizes : Sizes) (me : Side) (i : ℕ) (st : NodeState) (slot stage first : ℕ) (sense : ℕ → Sense)
    → IsWith (evidence_at sizes me st slot stage sense) st.far (close sizes me i st slot stage first sense).state.far
close-adds sizes me i st slot stage first sense = by (slot == sync_slot_of sizes) refl
  where
    by : (b : Bool) → (slot == sync_slot_of sizes) ≡ b
        → IsWith (evidence_at sizes me st slot stage sense) st.far
        (elim b as (λ _. Outcome) [ true ↦ close_sync sizes me st stage (st.epoch + first) sense | false ↦ close_exact sizes me i st slot stage sense ]).state.far
    by true e = sync-adds sizes me st stage (st.epoch + first) sense (eqb-true slot (sync_slot_of sizes) e)
    by false e = exact-adds sizes me i st slot stage sense

-- the evidence of a window in which this is heard
abbrev evidence_of : Scenario → Side → ℕ → NodeState → Window → (ℕ → List Coming) → ℕ → Bool
evidence_of sc me i st w heard =
    evidence_at sc.sizes me st w.slot w.stage (λ j. sense_of (expect_of sc.sizes sc.plan.version st w.slot w.stage) (map (arrival_of (clock_of sc me i)) (heard j)))

on-adds : (sc : Scenario) (me : Side) (i : ℕ) (st : NodeState) (w : Window) (heard : ℕ → List Coming)
    → IsWith (evidence_of sc me i st w heard) st.far (close_on sc me i st w heard).state.far
unfolding close_on
on-adds sc me i st w heard = close-adds sc.sizes me i st w.slot w.stage w.first _

-- what it sends itself plays no part in it
kept-adds : (sc : Scenario) (me : Side) (i : ℕ) (st : NodeState) (w : Window) (heard : ℕ → List Coming) (said : Option Heard) (keeps : Bool)
    → IsWith (evidence_of sc me i st w heard) st.far (close_on sc me i (if keeps then record st { sent = said } else st) w heard).state.far
kept-adds sc Biu i st w heard said true = on-adds sc Biu i (record st { sent = said }) w heard
kept-adds sc Rmu i st w heard said true = on-adds sc Rmu i (record st { sent = said }) w heard
kept-adds sc me i st w heard said false = on-adds sc me i st w heard

-- A window of the rounds.

-- a node that goes through a window closes it, or stays as it was
abbrev gone : Bool → NodeState → Result → Result
gone closes st x = elim closes [ true ↦ x | false ↦ record { state = st; row = None } ]

through-is : (sc : Scenario) (m : Moment) (me : Side) (i : ℕ) (st : NodeState) (w : Window) {closes : _} → is_good sc me i m.frame w.slot ≡ true → nat_le w.first w.last ≡ closes
    → (go_through sc m (sent_in sc m) me i st w).state
    ≡ (gone closes st (close_on sc me i (keep_sent sc.sizes me i st w.slot w.stage (word_for_window sc m i w)) w (heard_at sc me i st w (sent_in sc m)))).state
unfolding go_through
through-is sc m me i st w {closes} good e =
    let both : (is_good sc me i m.frame w.slot && nat_le w.first w.last) ≡ closes = ap (λ b. b && nat_le w.first w.last) good ∙ e in
    ap (λ (b : Bool). (gone b st (close_on sc me i (keep_sent sc.sizes me i st w.slot w.stage (word_for_window sc m i w)) w (heard_at sc me i st w (sent_in sc m)))).state) both

-- what is found in the first n + 1 steps was found in the first n, or is found in the next
split : {sc hands : _} (n : ℕ) {me i j f st : _} → slice_get (of_kind me (moment sc hands n).nodes) i ≡ Some st
    → Evidence sc hands (suc n) me i j f → Evidence sc hands n me i j f ⊎ (((moment sc hands n).frame ≡ f) × FindsEvidence sc (moment sc hands n) me i st j)
split {sc} {hands} n {me} {i} {j} {st} there e =
    elim (cases_lt e.k n) [
      | inl lt ↦ inl (record { k = e.k; earlier = lt; frame_is = e.frame_is; st = e.st; found = e.found })
      | inr ge ↦
          let last : e.k < suc n = e.earlier in
          let at : e.k ≡ n = omega arith in
          let found : FindsEvidence sc (moment sc hands n) me i e.st j = subst (λ k. FindsEvidence sc (moment sc hands k) me i e.st j) at e.found in
          let same : e.st ≡ st = same_Some e.st st (sym found.good.0 ∙ there) in
          inr (sym (ap (λ k. (moment sc hands k).frame) at) ∙ e.frame_is, subst (λ st. FindsEvidence sc (moment sc hands n) me i st j) same found)
    ]

longer : {sc hands n me i : _} (j f : ℕ) → Evidence sc hands n me i j f → Evidence sc hands (suc n) me i j f
longer {n} j f e = let before : e.k < n = e.earlier in record { k = e.k; earlier = omega arith; frame_is = e.frame_is; st = e.st; found = e.found }

-- if the next step finds nothing, the evidence is the same
nothing-found : (sc : Scenario) (hands : List HandIn) (n : ℕ) (me : Side) (i : ℕ) {st s : _} → slice_get (of_kind me (moment sc hands n).nodes) i ≡ Some st
    → ((j : ℕ) → FindsEvidence sc (moment sc hands n) me i st j → ⊥) → Keeps sc.plan.probation (moment sc hands n).frame s (Evidence sc hands n me i)
    → Keeps sc.plan.probation (moment sc hands n).frame s (Evidence sc hands (suc n) me i)
nothing-found sc hands n me i there none k =
    same-keeps (Evidence sc hands n me i) (Evidence sc hands (suc n) me i) longer
    (λ j f e. elim (split n there e) [ inl old ↦ old | inr new ↦ absurd (none j new.1) ]) k

through-keeps : {sc : _} (hands : List HandIn) (n : ℕ) {me i st : _} → (moment sc hands n).window < windows_in sc.sizes
    → IsGoodIn sc (moment sc hands n) me i st → Keeps sc.plan.probation (moment sc hands n).frame st.far (Evidence sc hands n me i)
    → Keeps sc.plan.probation (moment sc hands n).frame
    (go_through sc (moment sc hands n) (sent_in sc (moment sc hands n)) me i st (window_in sc (moment sc hands n) me st)).state.far (Evidence sc hands (suc n) me i)
through-keeps {sc} hands n {me} {i} {st} inside good k = by (nat_le w.first w.last) refl
  where
    m : Moment
    m = moment sc hands n

    w : Window
    w = window_in sc m me st

    found : ℕ → Bool
    found = has_evidence st.far (expects_in sc m me st) (sense_in sc m me i st)

    adds : w.first ≤ w.last → Adds found m.frame (Evidence sc hands n me i) (Evidence sc hands (suc n) me i)
    adds closes = record {
      kept = longer;
      added = λ j e.
          record { k = n; earlier = omega arith; frame_is = refl; st = st; found = record { good = good; in_frame = inside; closes = closes; evidence = e } };
      only = λ j f e.
          elim (split n good.0 e) [
            | inl old ↦ inl old
            | inr new ↦ let there : FindsEvidence sc m me i st j = new.1 in inr (sym new.0, there.evidence)
          ];
    }

    Kept : Standing → Type 0
    Kept s = Keeps sc.plan.probation m.frame s (Evidence sc hands (suc n) me i)

    by : (closes : Bool) → nat_le w.first w.last ≡ closes → Kept (go_through sc m (sent_in sc m) me i st w).state.far
    by true e =
        let said : Option Heard = says sc.sizes me i st w.slot w.stage (word_for_window sc m i w) in
        let closed : IsWith found st.far (close_on sc me i (keep_sent sc.sizes me i st w.slot w.stage (word_for_window sc m i w)) w (heard_at sc me i st w (sent_in sc m))).state.far =
        kept-adds sc me i st w (heard_at sc me i st w (sent_in sc m)) said ((w.stage == 1) && is_some said) in
        subst Kept (sym (ap (λ (st : NodeState). st.far) (through-is sc m me i st w good.1 e) ∙ closed.1))
        (window-keeps closed.0 (Evidence sc hands n me i) (Evidence sc hands (suc n) me i)
        (λ j h. (and_parts (has st.far.trusted j) _ h).0) (adds (leb-true w.first w.last e)) k)
    by false e =
        subst Kept (sym (ap (λ (st : NodeState). st.far) (through-is sc m me i st w good.1 e)))
        (nothing-found sc hands n me i good.0
        (λ j there. let no : true ≡ false = sym (le-leb w.first w.last there.closes) ∙ e in cc) k)

-- The turn.

turned-far : (sc : Scenario) (me : Side) (st : NodeState) → is_some (new_epoch_of sc.plan me st) ≡ true
    → (turn_if_known sc.sizes sc.plan me st).far
    ≡ standing_at_end sc.plan.probation (record st.far { trusted = without st.far.trusted (convicted_at sc.sizes me st (other me)) })
unfolding turn
turned-far sc me st known = by (new_epoch_of sc.plan me st) known
  where
    by : (next : Option ℕ) → is_some next ≡ true
        → (elim next as (λ _. NodeState) [ None ↦ st | Some epoch ↦ turn sc.sizes sc.plan.probation me epoch st ]).far
        ≡ standing_at_end sc.plan.probation (record st.far { trusted = without st.far.trusted (convicted_at sc.sizes me st (other me)) })
    by None h = let no : false ≡ true = h in cc
    by (Some epoch) h = refl

-- The run.

-- each node that is good in a moment of the run keeps to the evidence
abbrev AllKeep : Scenario → List HandIn → ℕ → Type 0
AllKeep sc hands n =
    (me : Side) (i : ℕ) (st : NodeState) → slice_get (of_kind me (moment sc hands n).nodes) i ≡ Some st
    → is_good sc me i (moment sc hands n).frame (slot_numbered sc.sizes (moment sc hands n).window) ≡ true
    → Keeps sc.plan.probation (moment sc hands n).frame st.far (Evidence sc hands n me i)

first-keep : (sc : Scenario) (hands : List HandIn) → AllKeep sc hands 0
unfolding begin_frame
first-keep sc hands me i st there good =
    let made : slice_get (of_kind me (each_of sc.sizes (λ me i. first_state sc.sizes me))) i ≡ Some (first_state sc.sizes me) =
    get-made sc.sizes (λ me i. first_state sc.sizes me) me i (good_counts sc me i 0 (slot_numbered sc.sizes 0) good) in
    let same : first_state sc.sizes me ≡ st = same_Some (first_state sc.sizes me) st (sym made ∙ there) in
    subst (λ (st : NodeState). Keeps sc.plan.probation 0 st.far (Evidence sc hands 0 me i)) same
    (first-keeps sc.plan.probation (count_of (other me) sc.sizes) (Evidence sc hands 0 me i) (λ j f e. let none : e.k < 0 = e.earlier in omega arith))

-- a node that is there after a step was there before it
was-there : {sc : _} (hands : List HandIn) (n : ℕ) (me : Side) (i frame slot : ℕ) → IsLawful sc → is_good sc me i frame slot ≡ true
    → (old : NodeState) × (slice_get (of_kind me (moment sc hands n).nodes) i ≡ Some old)
was-there {sc} hands n me i frame slot law good =
    let stand : AllStand sc (moment sc hands n) = moments-stand sc hands n (has_ticks law) in
    let long : length (of_kind me (moment sc hands n).nodes) ≡ count_of me sc.sizes = stand.counts me in
    let counted : i < count_of me sc.sizes = good_counts sc me i frame slot good in
    item-at (of_kind me (moment sc hands n).nodes) i (omega arith)

window-keep : {sc hands n : _} → IsLawful sc → (moment sc hands n).window < windows_in sc.sizes → AllKeep sc hands n → AllKeep sc hands (suc n)
window-keep {sc} {hands} {n} law inside keep me i st there good =
    let m : Moment = moment sc hands n in
    let next : IsWindowLater sc m (moment sc hands (suc n)) = window-later sc hands m inside in
    let old = was-there hands n me i (moment sc hands (suc n)).frame (slot_numbered sc.sizes (moment sc hands (suc n)).window) law good in
    let here : is_good sc me i m.frame (slot_numbered sc.sizes (m.window + 1)) ≡ true =
    ap (λ w. is_good sc me i m.frame (slot_numbered sc.sizes w)) (sym next.window)
    ∙ ap (λ f. is_good sc me i f (slot_numbered sc.sizes (moment sc hands (suc n)).window)) (sym next.frame) ∙ good in
    let before : is_good sc me i m.frame (slot_numbered sc.sizes m.window) ≡ true =
    good_earlier sc me i m.frame (slot_numbered sc.sizes m.window) (slot_numbered sc.sizes (m.window + 1)) (omega arith) here in
    let was : IsGoodIn sc m me i old.0 = (old.1, ap (is_good sc me i m.frame) (slot-is sc.sizes sc.plan me old.0 m.window) ∙ before) in
    let now : NodeState = (go_through sc m (sent_in sc m) me i old.0 (window_in sc m me old.0)).state in
    let same : now ≡ st = same_Some now st (sym (state-after sc m me i old.0 old.1) ∙ ap (λ nodes. slice_get (of_kind me nodes) i) (sym next.nodes) ∙ there) in
    subst (λ f. Keeps sc.plan.probation f st.far (Evidence sc hands (suc n) me i)) (sym next.frame)
    (subst (λ (st : NodeState). Keeps sc.plan.probation m.frame st.far (Evidence sc hands (suc n) me i)) same
    (through-keeps hands n inside was (keep me i old.0 old.1 before)))

frame-keep : {sc hands n : _} → IsLawful sc → windows_in sc.sizes ≤ (moment sc hands n).window → AllKeep sc hands n → AllKeep sc hands (suc n)
frame-keep {sc} {hands} {n} law over keep me i st there good =
    let m : Moment = moment sc hands n in
    let next : IsFrameLater sc hands m (moment sc hands (suc n)) = frame-later sc hands m over in
    let old = was-there hands n me i (moment sc hands (suc n)).frame (slot_numbered sc.sizes (moment sc hands (suc n)).window) law good in
    let frame_is : (moment sc hands (suc n)).frame ≡ m.frame + 1 = next.frame in
    let before : is_good sc me i m.frame (slot_numbered sc.sizes m.window) ≡ true =
    good_before sc me i m.frame (moment sc hands (suc n)).frame (slot_numbered sc.sizes m.window) (slot_numbered sc.sizes (moment sc hands (suc n)).window)
    (omega arith) good in
    let stand : AllStand sc m = moments-stand sc hands n (has_ticks law) in
    let bound : m.window ≤ windows_in sc.sizes = stand.window in
    let full : m.window ≡ windows_in sc.sizes = omega arith in
    let known : is_some (new_epoch_of sc.plan me old.0) ≡ true =
    epoch-known sc.plan me (subst (λ n. Knows sc.sizes me n old.0) full (stand.stands me i old.0 old.1 before).knows) in
    let now : NodeState = turn_if_known sc.sizes sc.plan me old.0 in
    let same : now ≡ st = same_Some now st (sym (state-turned sc hands m me i old.0 old.1) ∙ ap (λ nodes. slice_get (of_kind me nodes) i) (sym next.nodes) ∙ there) in
    subst (λ f. Keeps sc.plan.probation f st.far (Evidence sc hands (suc n) me i)) (sym frame_is)
    (subst (λ s. Keeps sc.plan.probation (m.frame + 1) s (Evidence sc hands (suc n) me i)) (sym (turned-far sc me old.0 known) ∙ ap (λ (st : NodeState). st.far) same)
    (turn-keeps (without old.0.far.trusted (convicted_at sc.sizes me old.0 (other me))) (Evidence sc hands (suc n) me i) law.plan.probation
    (nothing-found sc hands n me i old.1 (λ j found. let below : m.window < windows_in sc.sizes = found.in_frame in omega arith)
    (keep me i old.0 old.1 before))))

all-keep : {sc : _} (hands : List HandIn) → IsLawful sc → (n : ℕ) → AllKeep sc hands n
all-keep {sc} hands law zero = first-keep sc hands
all-keep {sc} hands law (suc n) =
    elim (cases_lt (moment sc hands n).window (windows_in sc.sizes)) [
      | inl inside ↦ window-keep law inside (all-keep hands law n)
      | inr over ↦ frame-keep law over (all-keep hands law n)
    ]

pub accusations-follow : AccusationsFollowEvidence
accusations-follow sc hands law n me i st good =
    follows (Evidence sc hands n me i)
    (all-keep hands law n me i st good.0 (ap (is_good sc me i (moment sc hands n).frame) (sym (slot-is sc.sizes sc.plan me st (moment sc hands n).window)) ∙ good.1))
