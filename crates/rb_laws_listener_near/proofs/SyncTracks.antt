-- A listener keeps track of the bus in the windows of the sync slot, and at its turn to the next
-- frame.
use Rattle.std.proofs.{Common.{◌≡◌, ℕ, ◌+◌, ◌-◌, ◌*◌, ◌<◌, ◌&&◌, not, true, false, List, Option, Some, None, is_some, option_map, get_or, refl, sym, ◌∙◌, ap, subst, arith}, lemmas.Bool.lt-ltb}
use Rattle.rb_base.specs.{Nodes.has, Nodes.Side.{Biu, Rmu}, Sizes.{Sizes, sync_slot_of}, declared.values.Heard.Heard, declared.values.Heard.TheVariants.Fault}
use Rattle.rb_base.proofs.Sets.{has-set_of}
use Rattle.rb_rules.specs.{declared.plan.Plan.Plan, declared.sense.Sense.Sense, Conviction.{convicted_at, convicted_by, turn, voted_vector}, Goodness.Scenario, NodeState.NodeState, NodeSteps.turn_if_known, Rounds.{Moment, begin_frame, next_frame, sent_in, window_in, windows_in}, Slots.first_diagnosis_of, Standing.{Standing, does_wrong, has_evidence, lapses, without}, SyncStage.{close_sync, expects_call, new_epoch_of, sync_outcome_of}}
use Rattle.rb_rules.proofs.{RoundStates.{Knows, through-stays}, Standings.{others_stay, right_is_no_evidence}}
use Rattle.rb_laws_agreement.proofs.{Invariant.{IsGoodNode, is_good_now, slot_numbered}, Goodnesses.good_below_16, NextMoments.{CameFrom, came_from, next, was_good}, SyncAgrees.{SyncSetting, leaves}, FrameTurns.AtEnd, FrameAgrees.{TurnedFrom, turned_from, was_good_then}}
use Rattle.rb_laws_listener_near.specs.Holding.{HoldAlike}
use Rattle.rb_laws_listener_near.proofs.Tracking.{Tracks, stays_good}

-- ---- windows of the sync slot

-- a node that changes in none of these parts holds alike as before
alike_still : {a b : NodeState} (c : NodeState) → c.frame ≡ a.frame → c.near ≡ a.near → c.far.trusted ≡ a.far.trusted → c.votes ≡ a.votes → c.owners ≡ a.owners → HoldAlike a b → HoldAlike c b
alike_still c e1 e2 e3 e4 e5 h = record { frame = e1 ∙ h.frame; near = e2 ∙ h.near; far = e3 ∙ h.far; votes = e4 ∙ h.votes; owners = e5 ∙ h.owners }

alike_turned : {a b : NodeState} (c : NodeState) → b.frame ≡ c.frame → b.near ≡ c.near → b.far.trusted ≡ c.far.trusted → b.votes ≡ c.votes → b.owners ≡ c.owners → HoldAlike a b → HoldAlike a c
alike_turned c e1 e2 e3 e4 e5 h = record { frame = h.frame ∙ e1; near = h.near ∙ e2; far = h.far ∙ e3; votes = h.votes ∙ e4; owners = h.owners ∙ e5 }

-- the state holds what each good BIU holds
abbrev pub IsLike : Scenario → Moment → NodeState → Type 0
IsLike sc m st = (i : ℕ) (b : NodeState) → IsGoodNode sc m Biu i b → HoldAlike st b

-- a listener that is passed over is still like the good BIUs
pub like_next : {sc hands n m s q ws : _} → SyncSetting sc hands n m s q ws
    → {st : _} → IsLike sc m st → IsLike sc (next sc m) st
like_next {sc} {m} c like i now h =
    let from : CameFrom sc m Biu i now = came_from c.agree h in
    let left = leaves c from.was in
    let stays = through-stays sc m (sent_in sc m) Biu i from.st (window_in sc m Biu from.st) in
    alike_turned now (sym stays.frame ∙ ap (λ x. x.frame) from.is) (sym stays.near ∙ ap (λ x. x.near) from.is) (sym stays.trusted ∙ ap (λ x. x.far.trusted) from.is)
    (sym left.votes ∙ ap (λ x. x.votes) from.is) (sym left.owners ∙ ap (λ x. x.owners) from.is) (like i from.st from.was)

-- after the close of a stage of the sync slot a listener is still like the good BIUs
pub like_sync : {sc hands n m s q ws : _} → SyncSetting sc hands n m s q ws
    → {st : _} → IsLike sc m st → (first : ℕ) (sense : ℕ → Sense) → IsLike sc (next sc m) (close_sync sc.sizes Biu st (q + 1) first sense).state
unfolding close_sync sync_outcome_of
like_sync {sc} {q} c {st} like first sense i now h =
    alike_still (close_sync sc.sizes Biu st (q + 1) first sense).state refl refl refl refl refl (like_next c like i now h)

-- an RMU that does no wrong in the stage is not accused
pub spares_sync : (sizes : Sizes) (st : NodeState) (stage first : ℕ) (sense : ℕ → Sense) (j : ℕ) → j < 16 → does_wrong (expects_call Biu st stage j) (sense j) ≡ false → has st.far.direct j ≡ false
    → has (close_sync sizes Biu st stage first sense).state.far.direct j ≡ false
unfolding close_sync sync_outcome_of
spares_sync sizes st stage first sense j below right clear =
    others_stay (has_evidence st.far (expects_call Biu st stage) sense) st.far j below (right_is_no_evidence st.far (expects_call Biu st stage) sense j right) ∙ clear

-- a listener keeps track over a stage of the sync slot in which no good RMU does wrong
pub tracks_sync : {sc hands n m s q ws : _} → SyncSetting sc hands n m s q ws
    → {st : _} → Tracks sc m st → (first : ℕ) (sense : ℕ → Sense) → ((j : ℕ) → stays_good sc m j ≡ true → does_wrong (expects_call Biu st (q + 1) j) (sense j) ≡ false)
    → Tracks sc (next sc m) (close_sync sc.sizes Biu st (q + 1) first sense).state
tracks_sync {sc} {m} {q} c {st} t first sense right = record {
  like = like_sync c t.like first sense;
  spares = λ j good.
      let was : is_good_now sc m Rmu j ≡ true = was_good sc m Rmu j good in
      spares_sync sc.sizes st (q + 1) first sense j (good_below_16 sc c.law.sizes Rmu j m.frame (slot_numbered sc.sizes m.window) was) (right j good) (t.spares j was);
}

-- ---- the turn

pub bius_convicted : (sizes : Sizes) {a b : _} → HoldAlike a b → convicted_at sizes Biu a Biu ≡ convicted_at sizes Biu b Biu
bius_convicted sizes {a} {b} h =
    ap (λ t. convicted_by sizes.bius t a.near (voted_vector sizes Rmu a)) h.far
    ∙ ap (λ t. convicted_by sizes.bius b.far.trusted t (voted_vector sizes Rmu a)) h.near
    ∙ ap (λ (v : List Heard). convicted_by sizes.bius b.far.trusted b.near (λ i. get_or v (first_diagnosis_of Rmu sizes + i) Fault)) h.votes

pub rmus_convicted : (sizes : Sizes) {a b : _} → HoldAlike a b → convicted_at sizes Biu a Rmu ≡ convicted_at sizes Biu b Rmu
rmus_convicted sizes {a} {b} h =
    ap (λ t. convicted_by sizes.rmus t a.far.trusted (voted_vector sizes Biu a)) h.near
    ∙ ap (λ t. convicted_by sizes.rmus b.near t (voted_vector sizes Biu a)) h.far
    ∙ ap (λ (v : List Heard). convicted_by sizes.rmus b.near b.far.trusted (λ i. get_or v (first_diagnosis_of Biu sizes + i) Fault)) h.votes

turn_alike : (sizes : Sizes) (probation e f : ℕ) {a b : _} → HoldAlike a b → HoldAlike (turn sizes probation Biu e a) (turn sizes probation Biu f b)
unfolding turn
turn_alike sizes probation e f {a} {b} h = record {
  frame = ap (λ x. x + 1) h.frame;
  near = ap (λ t. without t (convicted_at sizes Biu a Biu)) h.near ∙ ap (without b.near) (bius_convicted sizes h);
  far = ap (λ t. without t (convicted_at sizes Biu a Rmu)) h.far ∙ ap (without b.far.trusted) (rmus_convicted sizes h);
  votes = refl;
  owners = refl;
}

-- a BIU that knows its next epoch turns with it
pub turns_with : (sizes : Sizes) (plan : Plan) (st : NodeState) {epoch : ℕ} → new_epoch_of plan Biu st ≡ Some epoch → turn_if_known sizes plan Biu st ≡ turn sizes plan.probation Biu epoch st
turns_with sizes plan st {epoch} is =
    ap (λ o. elim o as (λ _. NodeState) [ None ↦ st | Some epoch ↦ turn sizes plan.probation Biu epoch st ]) is

known_epoch : (plan : Plan) (st : NodeState) → is_some st.k2 ≡ true → (epoch : ℕ) × (new_epoch_of plan Biu st ≡ Some epoch)
known_epoch plan st known = go st.k2 refl known
  where
    go : (o : Option ℕ) → st.k2 ≡ o → is_some o ≡ true → (epoch : ℕ) × (new_epoch_of plan Biu st ≡ Some epoch)
    go None e h = cc
    go (Some k) e h = (k + plan.v + plan.z + plan.c, ap (option_map (λ k2. k2 + plan.v + plan.z + plan.c)) e)

direct_turned : (sizes : Sizes) (probation epoch : ℕ) (st : NodeState) (j : ℕ) → j < 16 → has st.far.direct j ≡ false → has (turn sizes probation Biu epoch st).far.direct j ≡ false
unfolding turn
direct_turned sizes probation epoch st j below clear =
    let s : Standing = record st.far { trusted = without st.far.trusted (convicted_at sizes Biu st Rmu) } in
    has-set_of j (λ j. has s.direct j && not (lapses probation s j)) below ∙ ap (λ b. b && not (lapses probation s j)) clear

-- at the end of a frame a listener turns as the good BIUs do, if it accuses no RMU that is good in
-- the next one
pub tracks_turn : {sc hands n m s : _} → AtEnd sc hands n m s → {st : _} → IsLike sc m st
    → ((j : ℕ) → is_good_now sc (next_frame sc hands m) Rmu j ≡ true → has st.far.direct j ≡ false) → (epoch : ℕ)
    → Tracks sc (next_frame sc hands m) (turn sc.sizes sc.plan.probation Biu epoch st)
unfolding begin_frame
tracks_turn {sc} {hands} {m} e {st} like spares epoch = record {
  like = λ i now h.
      let from : TurnedFrom sc m Biu i now = turned_from e.agree h in
      let knows : Knows sc.sizes Biu (windows_in sc.sizes) from.st = subst (λ k. Knows sc.sizes Biu k from.st) e.at (e.agree.nodes Biu i from.st from.was).knows in
      let known = known_epoch sc.plan from.st (knows.k2 ∙ lt-ltb (3 * sync_slot_of sc.sizes + 2 - 1) (windows_in sc.sizes) (omega arith)) in
      subst (HoldAlike (turn sc.sizes sc.plan.probation Biu epoch st)) (sym (turns_with sc.sizes sc.plan from.st known.1) ∙ from.is)
      (turn_alike sc.sizes sc.plan.probation epoch known.0 (like i from.st from.was));
  spares = λ j good.
      let was : is_good_now sc m Rmu j ≡ true = was_good_then sc hands m Rmu j good in
      direct_turned sc.sizes sc.plan.probation epoch st j (good_below_16 sc e.law.sizes Rmu j m.frame (slot_numbered sc.sizes m.window) was) (spares j good);
}
