-- The votes of a listener on the vectors of the learned frame are those of the bus.
use Rattle.std.proofs.{Common.{◌≡◌, ℕ, suc, ◌+◌, ◌-◌, ◌*◌, ◌<◌, ◌≤◌, nat_lt, Bool, true, false, Option, Some, None, is_some, if◌then◌else◌, List, refl, sym, ◌∙◌, ap, subst, arith}, lemmas.Bool.ltb-true}
use Rattle.rb_base.specs.{Counting.numbers, Nodes.{Side, has, set_of, size}, Nodes.Side.{Biu, Rmu}, Sizes.sync_slot_of, declared.values.Heard.Heard}
use Rattle.rb_base.proofs.{Plain.and_first, Sets.has-set_of}
use Rattle.rb_rules.specs.{declared.role.Role.TheVariants.DiagRmu, declared.sense.Sense.Sense, ExactStage.says, Goodness.{Scenario, is_good}, Lawful.IsLawful, Moments.{IsComplete, IsRunning}, NodeState.{NodeState, sender_at, trusted_of}, Ports.HandIn, Rounds.{Moment, moment, windows_in}, Sense.value_in, Slots.{count_of, listens, role_of, sender_in, sender_kind}, Slots.Sender.Node}
use Rattle.rb_rules.proofs.Votes.{vote_is}
use Rattle.rb_laws_agreement.proofs.{Agreement.{IsAgreed, agreement, exact-setting}, Convicting.vector-votes, Exchanges.sender-held, FrameTurns.role-sender, Invariant.{HasVoted, IsFinished, IsGoodNode, Shared, kind_in}, NextMoments.{CameFrom, came_from}, NodeWindows.word_at, Numbers.how_many-is, Places.running_earlier, SlotRuns.{next-frame, next-window}, Settings.Setting, Speaking.vote_is_said, ThirdStages.{held_3, voted}, Vectors.{vector_slot, vector_slot-lt, vector_slot-role}}
use Rattle.rb_listen.specs.{Lessons.{ones_in, record_of, recorded_of, stage_recorded, trusted_rmus, trusts_rmu, vote_on}, Passes.are_most}
use Rattle.rb_laws_listener_near.specs.Judged.{verdict_with}
use Rattle.rb_laws_listener_near.proofs.ListenerMiddles.{others_fewer}
use Rattle.rb_laws_listener_learns.specs.{Ears.{Ear, is_always_good}, Receivers.seen_learned, Records.RecordsAreWhole}
use Rattle.rb_laws_listener_learns.proofs.{Fresh.always-good-in, FrameStages.{IsAtWindow, IsStepped, at-window, first_of_frame, stepped}, Lasting.{LastsFrom, lasts-to}, Seeks.always-counts, Spoken.recorded-value, TrustedSets.{GoodThere, IsIn, all-trust, good-there, same-trust}, Turning.EndOf, Within.IsExactAt}

-- What a listener knows when it decides by a frame after the first, and what the premise with it
-- says when that frame is over.
pub record Learner (sc : Scenario) (hands : List HandIn) (ear : Ear) (f : ℕ) (records : List Sense) : Type 0 where
  pub law : IsLawful sc
  pub most_good : are_most sc.sizes (set_of (is_always_good sc hands)) ≡ true
  pub before : IsComplete sc hands f (sync_slot_of sc.sizes)
  pub whole : RecordsAreWhole sc hands ear (suc f) records
  pub g : ℕ
  pub good : is_always_good sc hands g ≡ true
  pub rmus : (n : ℕ) → IsIn sc hands (suc f) n → (me : Side) (i : ℕ) (st : NodeState) → IsGoodNode sc (moment sc hands n) me i st → trusted_of Rmu me st ≡ trusted_rmus sc.sizes records
  pub end : EndOf sc hands (suc f)
  pub verdict : verdict_with (seen_learned sc ear (suc f) records) (moment sc hands (3 * sync_slot_of sc.sizes + 3 + first_of_frame sc (suc f))).book.stages ≡ None

-- Windows of the frame.

-- the window of stage q + 1 of a slot below the sync slot, with all that is known of it
pub record AtStage (sc : Scenario) (hands : List HandIn) (f slot q : ℕ) : Type 0 where
  pub window : IsAtWindow sc hands (suc f) (3 * slot + q)
  pub inside : IsIn sc hands (suc f) (3 * slot + q + first_of_frame sc (suc f))
  pub exact : IsExactAt sc hands (3 * slot + q + first_of_frame sc (suc f)) slot q
  pub step : IsStepped sc hands (3 * slot + q + first_of_frame sc (suc f))
  pub shared : Shared
  pub setting : Setting sc hands (3 * slot + q + first_of_frame sc (suc f)) (moment sc hands (3 * slot + q + first_of_frame sc (suc f))) shared slot q

pub before-end : {sc hands : _} (f : ℕ) (e : EndOf sc hands (suc f)) (k : ℕ) → k ≤ 3 * sync_slot_of sc.sizes + 4 + first_of_frame sc (suc f) → IsRunning (moment sc hands k)
before-end {sc} {hands} f e k le = running_earlier sc hands k e.n (omega (arith, le, e.place)) e.running

pub at-stage : {sc hands ear f records : _} → Learner sc hands ear f records → (slot q : ℕ) → slot < sync_slot_of sc.sizes → q < 3 → AtStage sc hands f slot q
at-stage {sc} {hands} {f} c slot q below small = record {
  window = at;
  inside = record { running = running; frame_is = at.frame_is };
  exact = record { below = below; small = small; at = at.window_is };
  step = step;
  shared = a.shared;
  setting =
      exact-setting slot q c.law a.agree below small at.window_is
      (ap (λ m. m.book.ended) (sym step.is) ∙ on);
}
  where
    running : IsRunning (moment sc hands (3 * slot + q + first_of_frame sc (suc f)))
    running = before-end f c.end (3 * slot + q + first_of_frame sc (suc f)) (omega (arith, below, small))

    on : IsRunning (moment sc hands (suc (3 * slot + q + first_of_frame sc (suc f))))
    on = before-end f c.end (suc (3 * slot + q + first_of_frame sc (suc f))) (omega (arith, below, small))

    at : IsAtWindow sc hands (suc f) (3 * slot + q)
    at = at-window c.law c.before (3 * slot + q) (omega (arith, below, small)) running

    step : IsStepped sc hands (3 * slot + q + first_of_frame sc (suc f))
    step = stepped sc hands (3 * slot + q + first_of_frame sc (suc f)) (omega (arith, at.window_is, below, small)) on

    a : IsAgreed sc hands (3 * slot + q + first_of_frame sc (suc f))
    a = agreement hands c.law (3 * slot + q + first_of_frame sc (suc f)) running

-- an RMU that is good in the whole run is so in the frame's last slot
pub good-in-sync : {sc hands ear f records : _} → Learner sc hands ear f records → (j : ℕ) → is_always_good sc hands j ≡ true
    → is_good sc Rmu j (suc f) (sync_slot_of sc.sizes) ≡ true
good-in-sync {sc} {hands} {f} c j good =
    always-good-in hands c.law j (suc f) (sync_slot_of sc.sizes) (before-end f c.end (suc f * (windows_in sc.sizes + 1) + 3 * sync_slot_of sc.sizes + 1 - 1) (omega arith)) good

-- Votes on what is recorded.

if-none : (b : Bool) (o : Option Heard) → is_some (if b then o else None) ≡ true → b ≡ true
if-none true o h = refl
if-none false o h = cc

-- if the RMUs that are good in the whole run are recorded with one value, the listener votes for it
pub votes-for : {sc : _} (hands : List HandIn) → IsLawful sc → are_most sc.sizes (set_of (is_always_good sc hands)) ≡ true → (records : List Sense) (slot : ℕ) (value : Heard)
    → ((j : ℕ) → is_always_good sc hands j ≡ true → has (trusted_rmus sc.sizes records) j ≡ true) → ((j : ℕ) → is_always_good sc hands j ≡ true → value_in (record_of records slot j) ≡ Some value)
    → vote_on records (trusted_rmus sc.sizes records) slot ≡ value
votes-for {sc} hands law most records slot value trusted said =
    vote_is (recorded_of value_in records (trusted_rmus sc.sizes records) slot) (is_always_good sc hands) value
    (λ j good. ap (λ b. if b then value_in (record_of records slot j) else None) (trusted j good) ∙ said j good) (numbers 16)
    (others_fewer sc.sizes.rmus (is_always_good sc hands) (λ j. is_some (recorded_of value_in records (trusted_rmus sc.sizes records) slot j)) law.sizes.most_rmus
    (λ j below good. always-counts sc hands j good)
    (λ j below some.
    let in_set : has (trusted_rmus sc.sizes records) j ≡ true = if-none (has (trusted_rmus sc.sizes records) j) (value_in (record_of records slot j)) some in
    ltb-true j sc.sizes.rmus
    (and_first (nat_lt j sc.sizes.rmus) (are_most sc.sizes (ones_in records (2 * sc.sizes.bius + sc.sizes.data_slots + j))) (sym (has-set_of j (trusts_rmu sc.sizes records) below) ∙ in_set)))
    (omega (arith, ltb-true sc.sizes.rmus (2 * size (set_of (is_always_good sc hands))) most, how_many-is (is_always_good sc hands))))

pub good-trusted : {sc hands ear f records : _} (c : Learner sc hands ear f records) (slot q : ℕ) → slot < sync_slot_of sc.sizes → q < 3 → (j : ℕ)
    → is_always_good sc hands j ≡ true → has (trusted_rmus sc.sizes records) j ≡ true
good-trusted {sc} {hands} {f} c slot q below small j good =
    let s : AtStage sc hands f slot q = at-stage c slot q below small in
    let k : ℕ = 3 * slot + q + first_of_frame sc (suc f) in
    let mine : GoodThere sc hands k j = good-there hands c.law k j s.inside.running good in
    ap (λ x. has x j) (sym (c.rmus k s.inside Rmu j mine.st mine.node) ∙ (s.setting.agree.nodes Rmu j mine.st mine.node).trusted Rmu)
    ∙ s.setting.agree.trusted Rmu j mine.node.good

-- The values that the bus ends with.

pub value-at-end : {sc hands ear f records : _} (c : Learner sc hands ear f records) (kind : Side) (i : ℕ) → i < count_of kind sc.sizes
    → (s : AtStage sc hands f (vector_slot sc.sizes kind i) 2)
    → c.end.shared.values (vector_slot sc.sizes kind i)
    ≡ (voted sc hands (3 * vector_slot sc.sizes kind i + 2 + first_of_frame sc (suc f)) (moment sc hands (3 * vector_slot sc.sizes kind i + 2 + first_of_frame sc (suc f))) s.shared (vector_slot sc.sizes kind i) s.setting).value
value-at-end {sc} {hands} {f} c kind i count s =
    sym (finished.held Rmu c.g last.st last.node (vector-votes sc.sizes kind i Rmu count))
    ∙ l.votes (vector_slot sc.sizes kind i) below (omega (arith, window))
    ∙ held_3 s.setting from.was from.is (vector-votes sc.sizes kind i Rmu count)
  where
    slot : ℕ
    slot = vector_slot sc.sizes kind i

    k : ℕ
    k = 3 * vector_slot sc.sizes kind i + 2 + first_of_frame sc (suc f)

    m : Moment
    m = moment sc hands (3 * vector_slot sc.sizes kind i + 2 + first_of_frame sc (suc f))

    below : slot < sync_slot_of sc.sizes
    below = vector_slot-lt sc.sizes kind i count

    last : GoodThere sc hands c.end.n c.g
    last = good-there hands c.law c.end.n c.g c.end.running c.good

    finished : IsFinished sc hands (moment sc hands c.end.n) c.end.shared slot (c.end.shared.values slot)
    finished = c.end.end.agree.finished slot below (omega (arith, c.end.end.at, below))

    frame : (moment sc hands (suc k)).frame ≡ suc f
    frame = ap (λ m. m.frame) s.step.is ∙ next-frame sc m ∙ s.window.frame_is

    window : (moment sc hands (suc k)).window ≡ 3 * slot + 3
    window = omega (arith, ap (λ m. m.window) s.step.is, next-window sc m, s.window.window_is)

    l : LastsFrom sc hands (suc k) Rmu c.g last.st
    l =
        (lasts-to hands c.law (suc k) c.end.n (omega (arith, below, c.end.place)) c.end.running (c.end.frame_is ∙ sym frame)).last
        Rmu c.g last.st last.node

    from : CameFrom sc m Rmu c.g l.st
    from =
        came_from s.setting.agree (subst (λ m. IsGoodNode sc m Rmu c.g l.st) s.step.is l.was)

-- all good nodes trust the nodes that they trust at the frame's end
pub trust-end : {sc hands ear f records : _} (c : Learner sc hands ear f records) {k : ℕ} → IsIn sc hands (suc f) k
    → {me i st : _} → IsGoodNode sc (moment sc hands k) me i st → (kind : Side) → trusted_of kind me st ≡ c.end.shared.trusted kind
trust-end {sc} {hands} c {k} here node kind =
    let mine : GoodThere sc hands k c.g = good-there hands c.law k c.g here.running c.good in
    let last : GoodThere sc hands c.end.n c.g = good-there hands c.law c.end.n c.g c.end.running c.good in
    all-trust hands c.law k here.running node mine.node kind
    ∙ same-trust c.law here (record { running = c.end.running; frame_is = c.end.frame_is }) mine.node last.node kind
    ∙ (c.end.end.agree.nodes Rmu c.g last.st last.node).trusted kind

pub same-shared : {sc hands ear f records : _} (c : Learner sc hands ear f records) {slot q : ℕ} (s : AtStage sc hands f slot q) (kind : Side)
    → s.shared.trusted kind ≡ c.end.shared.trusted kind
same-shared {sc} {hands} {f} c {slot} {q} s kind =
    let mine : GoodThere sc hands (3 * slot + q + first_of_frame sc (suc f)) c.g = good-there hands c.law (3 * slot + q + first_of_frame sc (suc f)) c.g s.inside.running c.good in
    sym ((s.setting.agree.nodes Rmu c.g mine.st mine.node).trusted kind)
    ∙ trust-end c s.inside mine.node kind

-- The vectors of RMUs: the RMUs tell their votes in stage 3.

pub rmu-vote : {sc hands ear f records : _} (c : Learner sc hands ear f records) (i : ℕ) → i < sc.sizes.rmus
    → has (c.end.shared.trusted Rmu) i ≡ true → vote_on records (trusted_rmus sc.sizes records) (vector_slot sc.sizes Rmu i) ≡ c.end.shared.values (vector_slot sc.sizes Rmu i)
rmu-vote {sc} {hands} {f} {records} c i count t =
    votes-for hands c.law c.most_good records (vector_slot sc.sizes Rmu i) v.value (good-trusted c (vector_slot sc.sizes Rmu i) 2 below (omega arith)) said
    ∙ sym (value-at-end c Rmu i count s)
  where
    slot : ℕ
    slot = vector_slot sc.sizes Rmu i

    k : ℕ
    k = 3 * vector_slot sc.sizes Rmu i + 2 + first_of_frame sc (suc f)

    m : Moment
    m = moment sc hands (3 * vector_slot sc.sizes Rmu i + 2 + first_of_frame sc (suc f))

    below : slot < sync_slot_of sc.sizes
    below = vector_slot-lt sc.sizes Rmu i count

    role : role_of sc.sizes slot ≡ DiagRmu i
    role = vector_slot-role sc.sizes Rmu i count

    s : AtStage sc hands f slot 2
    s = at-stage c slot 2 below (omega arith)

    v : HasVoted sc hands m s.shared slot
    v = voted sc hands k m s.shared slot s.setting

    trusted : has (s.shared.trusted Rmu) i ≡ true
    trusted = ap (λ x. has x i) (same-shared c s Rmu) ∙ t

    said : (j : ℕ) → is_always_good sc hands j ≡ true → value_in (record_of records slot j) ≡ Some v.value
    said j good =
        let mine : GoodThere sc hands k j = good-there hands c.law k j s.inside.running good in
        let sender : sender_at sc.sizes Rmu mine.st slot ≡ Node i =
        sender-held slot (s.setting.agree.nodes Rmu j mine.st mine.node)
        ∙ ap (sender_in (s.shared.trusted Biu) (s.shared.trusted Rmu) s.shared.owners) role ∙ role-sender s.shared.trusted s.shared.owners Rmu i trusted in
        let own : IsGoodNode sc m (kind_in sc.sizes slot) j mine.st =
        subst (λ x. IsGoodNode sc m x j mine.st) (sym (ap sender_kind role)) mine.node in
        let is : says sc.sizes Rmu j mine.st slot (2 + 1) (word_at sc m slot j) ≡ Some v.value =
        vote_is_said sc.sizes Rmu j i mine.st slot (word_at sc m slot j) sender
        (ap (λ r. listens Biu r 3) role) ∙ ap (λ x. Some x) (v.held j mine.st own) in
        (recorded-value c.whole s.exact s.inside.running s.inside.frame_is mine.node
        (good-in-sync c j good) (ap stage_recorded role) is).value
