-- For the law that running nodes agree: what the rounds hold in common at a slot, the nodes hold
-- that stand there.
use Rattle.std.proofs.{Common.{◌≡◌, ℕ, zero, suc, ◌+◌, ◌*◌, ◌-◌, ◌==◌, ◌&&◌, ◌<◌, ◌≤◌, ◌⊎◌, nat_lt, not, Bool, true, false, refl, ap, sym, ◌∙◌, subst, arith, inl, inr, List, Option, Some, get_or, slice_get, is_some, if◌then◌else◌}, lemmas.Bool.{and_right, cases_lt}}
use Rattle.rb_base.specs.{Nodes.{Side, has, set_of}, Nodes.Side.{Biu, Rmu}, Sizes.{Sizes, sync_slot_of}, declared.values.Heard.Heard, declared.values.Heard.TheVariants.Fault}
use Rattle.rb_base.proofs.Sets.{has-set_of}
use Rattle.rb_rules.specs.{declared.plan.Plan.Plan, declared.plan.Window.Window, Book.of_kind, Clock.time_of, ExactStage.{keep_sent, says}, Goodness.{Scenario, clock_of, is_good}, Headline.stated_skew, Lawful.IsLawful, Moments.{BeginsFrame, IsComplete, IsGoodBefore, IsRunning, IsSettled, before_slot, before_stage, time_in_frame}, NodeState.{NodeState, trusted_of}, NodeSteps.convicted_of, Ports.HandIn, Rounds.{IsGoodIn, Moment, step, windows_in}, Slots.count_of, StandsFor.votes_on, SyncStage.new_epoch_of, WorldStep.{Choice, World, world_after}}
use Rattle.rb_laws_agreement.specs.Values.{vote_on}
use Rattle.rb_laws_agreement.proofs.{Agreement.running_before, ExactAgrees.has_ticks, Exchanges.trusted-either, FrameBegins.settled_before, Goodnesses.good_below_16, Invariant.{Agree, Holds, IsGoodNode, Shared, is_good_now, slot_numbered}, Places.{IsPlaced, complete_before, good_before_slot, placed}, Promises.convict-alike, SlotLaws.none_convicted, SlotRuns.stage_next, WidelyAccused.accused_by_all}
use Rattle.rb_laws_synchrony.proofs.SyncLaws.{slots_near}
use Rattle.rb_laws_events.specs.{Closing.stages_in, OwnMoments.{FollowsTheRounds, HoldsTheState, IsStateOf, RunningNode, moment_of}, RunningNodes.{NodesBeginSlotsNear, NodesConvictAlike, NodesConvictNoGoodNode, NodesConvictWhomAllAccused, NodesHoldOneSchedule, NodesVoteAlike, RunningNodesAgreeInLawful, StandsInSlot, begin_of_slot, convicted_by, state_of, window_of}}
use Rattle.rb_laws_events.proofs.{CloseOrder.{WasGood, was-good}, CoreStates.window-place, CoresPast.cores-follow, MomentBooks.number-of, RoundNodes.{moments-stand, slot-is}, SlotShared.{SharedAt, SharedIn, shared-in}}

-- What a sender keeps of its own value is no part of its schedule, nor of whom it trusts.

kept-same : {X : Type 0} (f : NodeState → X) → ((st : NodeState) (o : Option Heard) → f (record st { sent = o }) ≡ f st)
    → (sizes : Sizes) (me : Side) (i : ℕ) (st : NodeState) (slot stage word : ℕ) → f (keep_sent sizes me i st slot stage word) ≡ f st
kept-same f same sizes me i st slot stage word = by ((stage == 1) && is_some (says sizes me i st slot stage word))
  where
    by : (b : Bool) → f (if b then record st { sent = says sizes me i st slot stage word } else st) ≡ f st
    by true = same st (says sizes me i st slot stage word)
    by false = refl

pub of-state : {X : Type 0} (f : NodeState → X) → ((st : NodeState) (o : Option Heard) → f (record st { sent = o }) ≡ f st)
    → (sc : Scenario) (m : Moment) (me : Side) (i : ℕ) {st now : _} → IsStateOf sc m me i st now → f now ≡ f st
of-state f same sc m me i (inl is) = ap f is
of-state f same sc m me i {st} (inr kept) = ap f kept ∙ kept-same f same sc.sizes me i st _ _ _

trusted-same : (kind me : Side) (st : NodeState) (o : Option Heard) → trusted_of kind me (record st { sent = o }) ≡ trusted_of kind me st
trusted-same Biu Biu st o = refl
trusted-same Biu Rmu st o = refl
trusted-same Rmu Biu st o = refl
trusted-same Rmu Rmu st o = refl

next-epoch-same : (plan : Plan) (me : Side) (st : NodeState) (o : Option Heard) → new_epoch_of plan me (record st { sent = o }) ≡ new_epoch_of plan me st
next-epoch-same plan Biu st o = refl
next-epoch-same plan Rmu st o = refl

-- One node in a slot.

-- the node is good in the rounds before its stage, where its state has the epoch, the schedule, the
-- votes, the trusted nodes and the next epoch of its core
pub record IsIn {w : World} {me : Side} (sc : Scenario) (frame slot : ℕ) (node : RunningNode w me) : Type 0 where
  pub st : NodeState
  pub there : IsGoodIn sc (before_stage sc w.hands frame slot (window_of sc node).stage) me node.index st
  pub now : is_good_now sc (before_stage sc w.hands frame slot (window_of sc node).stage) me node.index ≡ true
  pub good : is_good sc me node.index frame slot ≡ true
  pub within : slot ≤ sync_slot_of sc.sizes
  pub some : 1 ≤ (window_of sc node).stage
  pub last : (window_of sc node).stage ≡ 4 → slot ≡ sync_slot_of sc.sizes
  pub epoch : (state_of sc node).epoch ≡ st.epoch
  pub owners : (state_of sc node).owners ≡ st.owners
  pub votes : (state_of sc node).votes ≡ st.votes
  pub trusted : (kind : Side) → trusted_of kind me (state_of sc node) ≡ trusted_of kind me st
  pub next_epoch : new_epoch_of sc.plan me (state_of sc node) ≡ new_epoch_of sc.plan me st

-- the nodes convicted, by those that are trusted
abbrev convicted_by_trusted : Sizes → Side → ℕ → ℕ
convicted_by_trusted sizes kind trusted = set_of (λ j. nat_lt j (count_of kind sizes) && not (has trusted j))

convicts-others : (sizes : Sizes) (kind me : Side) (st : NodeState) → convicted_of sizes kind me st ≡ convicted_by_trusted sizes kind (trusted_of kind me st)
convicts-others sizes kind me st = ap (convicted_by_trusted sizes kind) (trusted-either me kind st)

convicts-in : {w : World} {me : Side} {sc : Scenario} {frame slot : ℕ} {node : RunningNode w me} (a : IsIn sc frame slot node) (kind : Side)
    → convicted_by sc kind node ≡ convicted_of sc.sizes kind me a.st
convicts-in {w} {me} {sc} {node} a kind =
    convicts-others sc.sizes kind me (state_of sc node) ∙ ap (convicted_by_trusted sc.sizes kind) (a.trusted kind) ∙ sym (convicts-others sc.sizes kind me a.st)

own-is : {w : World} {me : Side} {sc : Scenario} {frame slot : ℕ} {node : RunningNode w me} → StandsInSlot sc frame slot node
    → moment_of sc node ≡ before_stage sc w.hands frame slot (window_of sc node).stage
own-is {w} {me} {sc} {frame} {node} at =
    ap (λ f. before_stage sc w.hands f (window_of sc node).slot (window_of sc node).stage) at.frame_is
    ∙ ap (λ s. before_stage sc w.hands frame s (window_of sc node).stage) at.slot_is

-- no window is in a slot after the sync slot
at-most-sync : (sizes : Sizes) (n : ℕ) → slot_numbered sizes n ≤ sync_slot_of sizes
at-most-sync sizes n = omega arith

some-stage : (sizes : Sizes) (n : ℕ) {slot : ℕ} (stage : ℕ) → slot ≡ slot_numbered sizes n → 3 * slot + stage ≡ n + 1 → 1 ≤ stage
some-stage sizes n stage e h = omega (arith, e, h)

last-stage : (sizes : Sizes) (n : ℕ) {slot stage : ℕ} → n ≤ stages_in sizes → slot ≡ slot_numbered sizes n → 3 * slot + stage ≡ n + 1 → stage ≡ 4 → slot ≡ sync_slot_of sizes
last-stage sizes n le e h four = omega (arith, le, e, h, four)

inside-of : {f g : ℕ} (w slot stage window sync : ℕ) → f * w + 3 * slot + stage - 1 ≡ g * w + window → f ≡ g → slot ≤ sync → stage ≤ 4 → window ≤ 3 * sync + 3
inside-of {f} {g} w slot stage window sync h e le most =
    let same : f * w ≡ g * w = ap (λ f. f * w) e in
    omega (arith, h, same, le, most)

-- the node's window is in the slot if its own moment is of the run
is-in : {w : World} {me : Side} {sc : Scenario} → IsLawful sc → {frame slot : ℕ} {node : RunningNode w me} → FollowsTheRounds sc w → StandsInSlot sc frame slot node
    → IsRunning (before_stage sc w.hands frame slot (window_of sc node).stage) → IsIn sc frame slot node
is-in {w} {me} {sc} lawful {frame} {slot} {node} follow at running =
    record {
      st = h.st;
      there = subst (λ (m : Moment). IsGoodIn sc m me node.index h.st) own_is here;
      now = ap (λ (m : Moment). is_good_now sc m me node.index) (sym own_is) ∙ ap (is_good sc me node.index own.frame) (sym numbered) ∙ h.good;
      good = ap (λ f. is_good sc me node.index f slot) (sym at.frame_is ∙ h.frame) ∙ ap (is_good sc me node.index own.frame) (sym at.slot_is) ∙ h.good;
      within = let most : slot_numbered sc.sizes own.window ≤ sync_slot_of sc.sizes = at-most-sync sc.sizes own.window in omega (arith, slot_here, most);
      some = some-stage sc.sizes own.window (window_of sc node).stage slot_here place;
      last = last-stage sc.sizes own.window inside slot_here place;
      epoch = of-state (λ (st : NodeState). st.epoch) (λ st o. refl) sc own me node.index h.state;
      owners = of-state (λ (st : NodeState). st.owners) (λ st o. refl) sc own me node.index h.state;
      votes = of-state (λ (st : NodeState). st.votes) (λ st o. refl) sc own me node.index h.state;
      trusted = λ kind. of-state (trusted_of kind me) (trusted-same kind me) sc own me node.index h.state;
      next_epoch = of-state (new_epoch_of sc.plan me) (next-epoch-same sc.plan me) sc own me node.index h.state;
    }
  where
    own : Moment
    own = moment_of sc node

    own_is : own ≡ before_stage sc w.hands frame slot (window_of sc node).stage
    own_is = own-is at

    h : HoldsTheState sc own me node.index node.site.core
    h = follow.cores me node (ap (λ (m : Moment). m.book.ended) own_is ∙ running)

    numbered : (window_of sc node).slot ≡ slot_numbered sc.sizes own.window
    numbered = ap (λ (w : Window). w.slot) h.window ∙ slot-is sc.sizes sc.plan me h.st own.window

    slot_here : slot ≡ slot_numbered sc.sizes own.window
    slot_here = sym at.slot_is ∙ numbered

    here : IsGoodIn sc own me node.index h.st
    here = (h.there, ap (λ (w : Window). is_good sc me node.index own.frame w.slot) (sym h.window) ∙ h.good)

    inside : own.window ≤ stages_in sc.sizes
    inside =
        inside-of (windows_in sc.sizes + 1) (window_of sc node).slot (window_of sc node).stage own.window (sync_slot_of sc.sizes)
        ((number-of sc w.hands ((state_of sc node).frame * (windows_in sc.sizes + 1) + 3 * (window_of sc node).slot + (window_of sc node).stage - 1)).0) h.frame
        (subst (λ n. n ≤ sync_slot_of sc.sizes) (sym numbered) (at-most-sync sc.sizes own.window)) at.stage

    place : 3 * slot + (window_of sc node).stage ≡ own.window + 1
    place =
        ap (λ s. 3 * s + (window_of sc node).stage) (sym at.slot_is) ∙ ap (λ (w : Window). 3 * w.slot + w.stage) h.window
        ∙ window-place sc.sizes sc.plan me h.st own.window inside

-- the run goes on before its stage
runs-there : {w : World} {me : Side} {sc : Scenario} → IsLawful sc → {frame slot : ℕ} {node : RunningNode w me} → StandsInSlot sc frame slot node
    → IsRunning (before_stage sc w.hands frame slot (window_of sc node).stage)
runs-there {w} {me} {sc} lawful {frame} {slot} {node} at = by at.settled
  where
    by : IsComplete sc w.hands frame slot ⊎ (BeginsFrame sc w.hands frame slot × ((window_of sc node).stage ≡ 1)) → IsRunning (before_stage sc w.hands frame slot (window_of sc node).stage)
    by (inl complete) = complete_before sc w.hands frame slot (window_of sc node).stage at.stage complete
    by (inr begin) = ap (λ stage. (before_stage sc w.hands frame slot stage).book.ended) begin.1 ∙ settled_before w.hands lawful frame slot (inr begin.0)

pub in-slot : {w : World} {me : Side} {sc : Scenario} → IsLawful sc → {frame slot : ℕ} {node : RunningNode w me} → FollowsTheRounds sc w → StandsInSlot sc frame slot node
    → IsIn sc frame slot node
in-slot lawful follow at = is-in lawful follow at (runs-there lawful at)

pub settled-slot : {w : World} {me : Side} {sc : Scenario} {frame slot : ℕ} {node : RunningNode w me} → StandsInSlot sc frame slot node → IsSettled sc w.hands frame slot
settled-slot {w} {me} {sc} {frame} {slot} {node} at = by at.settled
  where
    by : IsComplete sc w.hands frame slot ⊎ (BeginsFrame sc w.hands frame slot × ((window_of sc node).stage ≡ 1)) → IsSettled sc w.hands frame slot
    by (inl complete) = inl complete
    by (inr begin) = inr begin.0

-- At the start of the slot.

-- a node with this epoch was there before the slot
record WasThere (sc : Scenario) (hands : List HandIn) (frame slot : ℕ) (me : Side) (i epoch : ℕ) : Type 0 where
  st : NodeState
  there : slice_get (of_kind me (before_slot sc hands frame slot).nodes) i ≡ Some st
  epoch_is : epoch ≡ st.epoch

was-there : {sc : _} (hands : List HandIn) → IsLawful sc → (frame slot : ℕ) → slot ≤ sync_slot_of sc.sizes → {me i : _} (k : ℕ) {stage : ℕ} → stage ≡ k + 1 → k ≤ 3
    → IsRunning (before_stage sc hands frame slot stage) → {st : _} → IsGoodIn sc (before_stage sc hands frame slot stage) me i st
    → WasThere sc hands frame slot me i st.epoch
was-there {sc} hands lawful frame slot le {me} {i} zero {stage} e small running {st} good = record {
  st = st;
  there = ap (λ stage. slice_get (of_kind me (before_stage sc hands frame slot stage).nodes) i) (sym e) ∙ good.0;
  epoch_is = refl;
}
was-there {sc} hands lawful frame slot le {me} {i} (suc k) {stage} e small running {st} good =
    let m : Moment = before_stage sc hands frame slot (k + 1) in
    let on : step sc hands m ≡ before_stage sc hands frame slot stage =
    stage_next sc hands frame slot (k + 1) (omega arith) ∙ ap (before_stage sc hands frame slot) (omega (arith, e)) in
    let runs : IsRunning m = running_before sc hands m (ap (λ (m : Moment). m.book.ended) on ∙ running) in
    let p : IsPlaced sc hands frame slot (k + 1) = placed hands lawful frame slot (k + 1) le (omega arith) (omega (arith, small)) runs in
    let at : m.window ≡ 3 * slot + (k + 1 - 1) = p.window_is in
    let before : WasGood sc m me i st.epoch =
    was-good hands (omega (arith, at, le, small)) (moments-stand sc hands (frame * (windows_in sc.sizes + 1) + 3 * slot + (k + 1) - 1) (has_ticks lawful))
    (subst (λ (m : Moment). IsGoodIn sc m me i st) (sym on) good) in
    let first : WasThere sc hands frame slot me i before.st.epoch =
    was-there hands lawful frame slot le k refl (omega (arith, small)) runs before.good in
    record { st = first.st; there = first.there; epoch_is = before.epoch_is ∙ first.epoch_is }

-- the node was good before the slot, with the epoch of its core
pub record HasBegun {w : World} {me : Side} (sc : Scenario) (frame slot : ℕ) (node : RunningNode w me) : Type 0 where
  pub st : NodeState
  pub is : IsGoodBefore sc w.hands frame slot me node.index st
  pub epoch : (state_of sc node).epoch ≡ st.epoch

pub has-begun : {w : World} {me : Side} {sc : Scenario} → IsLawful sc → {frame slot : ℕ} {node : RunningNode w me} → StandsInSlot sc frame slot node → IsIn sc frame slot node
    → HasBegun sc frame slot node
has-begun {w} {me} {sc} lawful {frame} {slot} {node} at a =
    let stage : ℕ = (window_of sc node).stage in
    let some = a.some in
    let most = at.stage in
    let was : WasThere sc w.hands frame slot me node.index a.st.epoch =
    was-there w.hands lawful frame slot a.within (stage - 1) (omega (arith, some)) (omega (arith, most)) (runs-there lawful at) a.there in
    record { st = was.st; is = record { good = a.good; state = was.there }; epoch = a.epoch ∙ was.epoch_is }

-- two nodes begin the slot near each other
begin-near : {w sc : _} → IsLawful sc → FollowsTheRounds sc w → NodesBeginSlotsNear sc w
begin-near {w} {sc} lawful follow frame slot me you mine yours at there =
    let a : IsIn sc frame slot mine = in-slot lawful follow at in
    let x : HasBegun sc frame slot mine = has-begun lawful at a in
    let y : HasBegun sc frame slot yours = has-begun lawful there (in-slot lawful follow there) in
    let offset : ℕ = 3 * slot * sc.plan.l in
    let skew : ℕ = stated_skew sc.plan offset in
    let near : time_in_frame sc me mine.index x.st offset ≤ time_in_frame sc you yours.index y.st offset + skew =
    slots_near sc w.hands lawful frame slot a.within (settled-slot at) me you mine.index yours.index x.st y.st x.is y.is in
    subst (λ e. time_of (clock_of sc me mine.index) (e + offset) ≤ begin_of_slot sc slot yours + skew) (sym x.epoch)
    (subst (λ e. time_in_frame sc me mine.index x.st offset ≤ time_of (clock_of sc you yours.index) (e + offset) + skew) (sym y.epoch) near)

-- In a slot that is complete.

-- the node holds what all good nodes hold before its stage
pub record HoldsShared {w : World} {me : Side} (sc : Scenario) (frame slot : ℕ) (s : Shared) (node : RunningNode w me) : Type 0 where
  pub steps : ℕ
  pub m : Moment
  pub agree : Agree sc w.hands steps m s
  pub window : 3 * slot ≤ m.window
  pub holder : NodeState
  pub good : IsGoodNode sc m me node.index holder
  pub holds : Holds sc m s me holder
  pub owners : (state_of sc node).owners ≡ holder.owners
  pub votes : (state_of sc node).votes ≡ holder.votes
  pub trusted : (kind : Side) → trusted_of kind me (state_of sc node) ≡ trusted_of kind me holder

pub holds-shared : {w : World} {me : Side} {sc : Scenario} → IsLawful sc → {frame slot : ℕ} {node : RunningNode w me} → FollowsTheRounds sc w → StandsInSlot sc frame slot node
    → (r : SharedIn sc w.hands frame slot) → HoldsShared sc frame slot r.shared node
holds-shared {w} {me} {sc} lawful {frame} {slot} {node} follow at r =
    record {
      steps = here.steps;
      m = m;
      agree = here.agree;
      window = let window = p.window_is in omega (arith, window);
      holder = a.st;
      good = good;
      holds = here.agree.nodes me node.index a.st good;
      owners = a.owners;
      votes = a.votes;
      trusted = a.trusted;
    }
  where
    stage : ℕ
    stage = (window_of sc node).stage

    m : Moment
    m = before_stage sc w.hands frame slot stage

    a : IsIn sc frame slot node
    a = in-slot lawful follow at

    some : 1 ≤ stage
    some = a.some

    most : stage ≤ 4
    most = at.stage

    good : IsGoodNode sc m me node.index a.st
    good = record { there = a.there.0; good = a.now }

    p : IsPlaced sc w.hands frame slot stage
    p = placed w.hands lawful frame slot stage a.within some most (runs-there lawful at)

    here : SharedAt sc w.hands frame slot r.shared stage
    here = elim (cases_lt stage 4) [
      | inl lt ↦ r.at stage some (omega (arith, lt))
      | inr ge ↦
          let four : stage ≡ 4 = omega (arith, ge, most) in
          subst (SharedAt sc w.hands frame slot r.shared) (sym four) (r.tail (a.last four))
    ]

-- a node at the start of the slot has the state of the rounds there
pub before-is : {w : World} {me : Side} {sc : Scenario} {frame slot : ℕ} {node : RunningNode w me} → (window_of sc node).stage ≡ 1 → (a : IsIn sc frame slot node)
    → IsGoodBefore sc w.hands frame slot me node.index a.st
before-is {w} {me} {sc} {frame} {slot} {node} first a = record {
  good = a.good;
  state = ap (λ stage. slice_get (of_kind me (before_stage sc w.hands frame slot stage).nodes) node.index) (sym first) ∙ a.there.0;
}

-- the slot is complete, or both stand at the start of its frame
record BothBegin {w : World} {me you : Side} (sc : Scenario) (frame slot : ℕ) (mine : RunningNode w me) (yours : RunningNode w you) : Type 0 where
  begins : BeginsFrame sc w.hands frame slot
  mine_first : (window_of sc mine).stage ≡ 1
  yours_first : (window_of sc yours).stage ≡ 1

complete-or-begins : {w : World} {me you : Side} {sc : Scenario} {frame slot : ℕ} {mine : RunningNode w me} {yours : RunningNode w you}
    → StandsInSlot sc frame slot mine → StandsInSlot sc frame slot yours → IsComplete sc w.hands frame slot ⊎ BothBegin sc frame slot mine yours
complete-or-begins {w} {sc} {frame} {slot} {mine} {yours} at there = by at.settled there.settled
  where
    by : IsComplete sc w.hands frame slot ⊎ (BeginsFrame sc w.hands frame slot × ((window_of sc mine).stage ≡ 1))
        → IsComplete sc w.hands frame slot ⊎ (BeginsFrame sc w.hands frame slot × ((window_of sc yours).stage ≡ 1))
        → IsComplete sc w.hands frame slot ⊎ BothBegin sc frame slot mine yours
    by (inl complete) other = inl complete
    by (inr begin) (inl complete) = inl complete
    by (inr begin) (inr too) = inr (record { begins = begin.0; mine_first = begin.1; yours_first = too.1 })

pub begins-first : (sc : Scenario) (hands : List HandIn) (frame slot : ℕ) → BeginsFrame sc hands frame slot → slot ≡ 0
begins-first sc hands frame zero begin = refl
begins-first sc hands frame (suc slot) begin = absurd begin

convicts-shared : {w : World} {me : Side} {sc : Scenario} {frame slot : ℕ} {s : Shared} {node : RunningNode w me} → HoldsShared sc frame slot s node → (kind : Side)
    → convicted_by sc kind node ≡ convicted_by_trusted sc.sizes kind (s.trusted kind)
convicts-shared {w} {me} {sc} {node} h kind = convicts-others sc.sizes kind me (state_of sc node) ∙ ap (convicted_by_trusted sc.sizes kind) (h.trusted kind ∙ h.holds.trusted kind)

pub votes-shared : {w : World} {me : Side} {sc : Scenario} {frame slot : ℕ} {s : Shared} {node : RunningNode w me} → HoldsShared sc frame slot s node → slot ≤ sync_slot_of sc.sizes
    → (voted : ℕ) → voted < slot → votes_on sc.sizes voted me ≡ true → vote_on (state_of sc node) voted ≡ s.values voted
votes-shared {w} {me} {node} h le voted before votes =
    let window = h.window in
    ap (λ votes. get_or votes voted Fault) h.votes
    ∙ (h.agree.finished voted (omega (arith, before, le)) (omega (arith, before, window))).held me node.index h.holder h.good votes

-- Two nodes.

one-schedule : {w sc : _} → IsLawful sc → FollowsTheRounds sc w → NodesHoldOneSchedule sc w
one-schedule {w} {sc} lawful follow frame slot me you mine yours at there late =
    elim (complete-or-begins at there) [
      | inl complete ↦
          let a : IsIn sc frame slot mine = in-slot lawful follow at in
          let r : SharedIn sc w.hands frame slot = shared-in lawful a.within complete in
          let h : HoldsShared sc frame slot r.shared mine = holds-shared lawful follow at r in
          let k : HoldsShared sc frame slot r.shared yours = holds-shared lawful follow there r in
          h.owners ∙ h.holds.owners ∙ sym (k.owners ∙ k.holds.owners)
      | inr begin ↦
          let first : slot ≡ 0 = begins-first sc w.hands frame slot begin.begins in
          let some = lawful.sizes.some_biu in
          absurd (omega (arith, first, late, some))
    ]

convict-the-same : {w sc : _} → IsLawful sc → FollowsTheRounds sc w → NodesConvictAlike sc w
convict-the-same {w} {sc} lawful follow frame slot me you mine yours at there kind =
    let a : IsIn sc frame slot mine = in-slot lawful follow at in
    elim (complete-or-begins at there) [
      | inl complete ↦
          let r : SharedIn sc w.hands frame slot = shared-in lawful a.within complete in
          convicts-shared (holds-shared lawful follow at r) kind
          ∙ sym (convicts-shared (holds-shared lawful follow there r) kind)
      | inr begin ↦
          let b : IsIn sc frame slot yours = in-slot lawful follow there in
          convicts-in a kind
          ∙ convict-alike w.hands lawful frame slot a.within (inr begin.begins) me you mine.index yours.index a.st b.st
          (before-is begin.mine_first a) (before-is begin.yours_first b) kind
          ∙ sym (convicts-in b kind)
    ]

trusted-stays : {sc : _} → IsLawful sc → (kind : Side) (j frame slot trusted : ℕ) → is_good sc kind j frame slot ≡ true → has trusted j ≡ true
    → has (convicted_by_trusted sc.sizes kind trusted) j ≡ false
trusted-stays {sc} law kind j frame slot trusted good trusts =
    has-set_of j (λ j. nat_lt j (count_of kind sc.sizes) && not (has trusted j)) (good_below_16 sc law.sizes kind j frame slot good)
    ∙ and_right (nat_lt j (count_of kind sc.sizes)) (not (has trusted j)) (ap not trusts)

convict-no-good-node : {w sc : _} → IsLawful sc → FollowsTheRounds sc w → NodesConvictNoGoodNode sc w
convict-no-good-node {w} {sc} lawful follow frame slot me node at kind j good =
    let a : IsIn sc frame slot node = in-slot lawful follow at in
    elim (complete-or-begins at at) [
      | inl complete ↦
          let r : SharedIn sc w.hands frame slot = shared-in lawful a.within complete in
          let le = a.within in
          let p : IsPlaced sc w.hands frame slot 1 =
          placed w.hands lawful frame slot 1 le (omega arith) (omega arith) (complete_before sc w.hands frame slot 1 (omega arith) complete) in
          let m : Moment = before_stage sc w.hands frame slot 1 in
          let window : m.window ≡ 3 * slot + (1 - 1) = p.window_is in
          let now : is_good_now sc m kind j ≡ true =
          ap (λ f. is_good sc kind j f (slot_numbered sc.sizes m.window)) p.frame_is ∙ ap (is_good sc kind j frame) (omega (arith, window, le)) ∙ good in
          let trusted : has (r.shared.trusted kind) j ≡ true = (r.at 1 (omega arith) (omega arith)).agree.trusted kind j now in
          ap (λ set. has set j) (convicts-shared (holds-shared lawful follow at r) kind)
          ∙ trusted-stays lawful kind j frame slot (r.shared.trusted kind) good trusted
      | inr begin ↦
          ap (λ set. has set j) (convicts-in a kind)
          ∙ none_convicted sc w.hands lawful frame slot a.within (inr begin.begins) me node.index a.st (before-is begin.mine_first a) kind j good
    ]

convict-whom-all-accused : {w sc : _} → IsLawful sc → FollowsTheRounds sc w → NodesConvictWhomAllAccused sc w
convict-whom-all-accused {w} {sc} lawful follow frame complete accused j count all me node at = by at.settled
  where
    hands : List HandIn
    hands = w.hands

    a : IsIn sc (frame + 1) 0 node
    a = in-slot lawful follow at

    convicts : (st : NodeState) → IsGoodBefore sc hands (frame + 1) 0 me node.index st → has (convicted_of sc.sizes accused me st) j ≡ true
    convicts st before = accused_by_all sc hands lawful frame complete accused j count all me node.index st before

    by : IsComplete sc hands (frame + 1) 0 ⊎ (BeginsFrame sc hands (frame + 1) 0 × ((window_of sc node).stage ≡ 1)) → has (convicted_by sc accused node) j ≡ true
    by (inr begin) = ap (λ set. has set j) (convicts-in a accused) ∙ convicts a.st (before-is begin.1 a)
    by (inl whole) =
        let r : SharedIn sc hands (frame + 1) 0 = shared-in lawful a.within whole in
        let x : HasBegun sc (frame + 1) 0 node = has-begun lawful at a in
        let p : IsPlaced sc hands (frame + 1) 0 1 =
        placed hands lawful (frame + 1) 0 1 a.within (omega arith) (omega arith) (complete_before sc hands (frame + 1) 0 1 (omega arith) whole) in
        let good : IsGoodNode sc (before_slot sc hands (frame + 1) 0) me node.index x.st =
        good_before_slot a.within p x.is in
        let holds = (r.at 1 (omega arith) (omega arith)).agree.nodes me node.index x.st good in
        ap (λ set. has set j)
        (convicts-shared (holds-shared lawful follow at r) accused
        ∙ ap (convicted_by_trusted sc.sizes accused) (sym (holds.trusted accused)) ∙ sym (convicts-others sc.sizes accused me x.st))
        ∙ convicts x.st x.is

vote-the-same : {w sc : _} → IsLawful sc → FollowsTheRounds sc w → NodesVoteAlike sc w
vote-the-same {w} {sc} lawful follow frame slot me you mine yours at there voted before mine_votes yours_votes =
    elim (complete-or-begins at there) [
      | inl complete ↦
          let a : IsIn sc frame slot mine = in-slot lawful follow at in
          let r : SharedIn sc w.hands frame slot = shared-in lawful a.within complete in
          let h : HoldsShared sc frame slot r.shared mine = holds-shared lawful follow at r in
          let k : HoldsShared sc frame slot r.shared yours = holds-shared lawful follow there r in
          votes-shared h a.within voted before mine_votes
          ∙ sym (votes-shared k a.within voted before yours_votes)
      | inr begin ↦
          let first : slot ≡ 0 = begins-first sc w.hands frame slot begin.begins in
          absurd (omega (arith, first, before))
    ]

pub nodes-agree : RunningNodesAgreeInLawful
nodes-agree sc lawful choices =
    let follow : FollowsTheRounds sc (world_after sc choices) = cores-follow sc lawful choices in
    record {
      skew = begin-near lawful follow;
      schedules = one-schedule lawful follow;
      convictions = convict-the-same lawful follow;
      good_nodes_stay = convict-no-good-node lawful follow;
      votes = vote-the-same lawful follow;
    }

pub nodes-convict : {sc : _} → IsLawful sc → (choices : List Choice) → NodesConvictWhomAllAccused sc (world_after sc choices)
nodes-convict {sc} lawful choices = convict-whom-all-accused lawful (cores-follow sc lawful choices)
