-- Kinds, slots and what nodes say in them: what follows at once from the rules.
use Rattle.std.proofs.{Common.{◌≡◌, ℕ, ◌+◌, ◌<◌, ◌≤◌, ◌⊎◌, ◌==◌, ◌&&◌, ◌++◌, ◌∷◌, [], if◌then◌else◌, Bool, true, false, List, None, is_some, refl, ap, ◌∙◌, inl, inr, arith}, lemmas.Bool.{cases_Bool, eqb-true, false≢true, le-ltb, lt-ltb}}
use Rattle.rb_base.specs.{Nodes.{Side, other}, Nodes.Side.{Biu, Rmu}, Sizes.{IsShape, Sizes, sync_slot_of}, declared.node.NodeName.NodeName}
use Rattle.rb_rules.specs.{declared.role.Role.TheVariants.{Schedule, Sync}, declared.sense.Sense.Sense, Core.of_source, ExactStage.{Outcome, close_exact, keep_sent, says}, Goodness.clock_place, Links.same_node, NodeState.NodeState, NodeSteps.close, Sense.Arrival, Slots.{count_of, first_diagnosis_of, role_of, same_side}, SyncStage.close_sync}
use Rattle.rb_base.specs.declared.node.NodeName.TheVariants as name

-- ---- kinds and names

pub other_twice : (a : Side) → other (other a) ≡ a
other_twice Biu = refl
other_twice Rmu = refl

pub same_side_self : (a : Side) → same_side a a ≡ true
same_side_self Biu = refl
same_side_self Rmu = refl

pub same_side_other : (a : Side) → same_side (other a) a ≡ false
same_side_other Biu = refl
same_side_other Rmu = refl

pub same_side-is : (a b : Side) → same_side a b ≡ true → a ≡ b
same_side-is Biu Biu h = refl
same_side-is Biu Rmu h = cc
same_side-is Rmu Biu h = cc
same_side-is Rmu Rmu h = refl

pub one_or_other : (a k : Side) → (a ≡ k) ⊎ (a ≡ other k)
one_or_other Biu Biu = inl refl
one_or_other Biu Rmu = inr refl
one_or_other Rmu Biu = inr refl
one_or_other Rmu Rmu = inl refl

pub same_node-is : (a b : NodeName) → same_node a b ≡ true → a ≡ b
same_node-is (name.Biu i) (name.Biu j) e = ap name.Biu (eqb-true i j e)
same_node-is (name.Biu i) (name.Rmu j) e = absurd (false≢true e)
same_node-is (name.Rmu i) (name.Biu j) e = absurd (false≢true e)
same_node-is (name.Rmu i) (name.Rmu j) e = ap name.Rmu (eqb-true i j e)

pub place-within : (sizes : Sizes) (me : Side) (i n : ℕ) → n ≡ sizes.bius + sizes.rmus → i < count_of me sizes → clock_place sizes me i < n
place-within sizes Biu i n e h = omega arith
place-within sizes Rmu i n e h = omega arith

-- ---- slots

pub few_slots : (sizes : Sizes) → IsShape sizes → sync_slot_of sizes ≤ 112
few_slots sizes shape = omega (arith, shape.most_bius, shape.most_rmus, shape.most_slots)

pub schedule_role : (sizes : Sizes) (t : ℕ) → t < sizes.bius → role_of sizes t ≡ Schedule t
schedule_role sizes t h = rw (lt-ltb t sizes.bius h) refl

pub sync_role : (sizes : Sizes) → role_of sizes (sync_slot_of sizes) ≡ Sync
sync_role sizes =
    let s : ℕ = sync_slot_of sizes in
    rw (le-ltb s sizes.bius (omega arith), le-ltb s (first_diagnosis_of Biu sizes) (omega arith), le-ltb s (first_diagnosis_of Rmu sizes) (omega arith), le-ltb s s (omega arith)) refl

-- each slot but the sync slot is closed by `close_exact`
pub close-exact : (sizes : Sizes) (me : Side) (index : ℕ) (st : NodeState) (slot stage first : ℕ) (sense : ℕ → Sense) → (slot == sync_slot_of sizes) ≡ false
    → close sizes me index st slot stage first sense ≡ close_exact sizes me index st slot stage sense
close-exact sizes me index st slot stage first sense is =
    let either : Bool → Outcome =
    λ b. elim b [ true ↦ close_sync sizes me st stage (st.epoch + first) sense | false ↦ close_exact sizes me index st slot stage sense ] in
    ap either is

-- a node that says nothing keeps nothing
pub nothing-kept : (sizes : Sizes) (me : Side) (i : ℕ) (st : NodeState) (slot stage word : ℕ) → says sizes me i st slot stage word ≡ None
    → keep_sent sizes me i st slot stage word ≡ st
nothing-kept sizes me i st slot stage word e =
    ap (λ o. if (stage == 1) && is_some o then record st { sent = o } else st) e ∙ by (stage == 1)
  where
    by : (b : Bool) → (if b && false then record st { sent = None } else st) ≡ st
    by true = refl
    by false = refl

pub source-append : (xs ys : List (ℕ × Arrival)) (j : ℕ) → of_source (xs ++ ys) j ≡ of_source xs j ++ of_source ys j
source-append [] ys j = refl
source-append (x ∷ xs) ys j =
    elim (cases_Bool (x.0 == j)) [ inl e ↦ rw e (ap (λ l. x.1 ∷ l) (source-append xs ys j)) | inr e ↦ rw e (source-append xs ys j) ]
