-- Good nodes: which there are, and that none becomes good again. The slot of a window, and what a
-- slot is for.
use Rattle.std.proofs.{Common.{◌≡◌, ℕ, ◌+◌, ◌-◌, ◌*◌, ◌<◌, ◌≤◌, nat_lt, Bool, true, false, Option, Some, None, get_or, slice_get, if◌then◌else◌, List, refl, arith}, lemmas.Bool.{and_from, lt-ltb, ltb-true}, lemmas.Bool.Decides.nat_tests}
use Rattle.rb_base.specs.{Nodes.{Side, has}, Nodes.Side.{Biu, Rmu}, Sizes.{Sizes, IsShape, sync_slot_of}}
use Rattle.rb_base.proofs.Plain.{and_first, and_second}
use Rattle.rb_rules.specs.{declared.role.Role.Role, declared.role.Role.TheVariants.{Schedule, Data, DiagBiu, DiagRmu, Sync}, Goodness.{Scenario, onsets_of, is_before, is_good}, Slots.{count_of, first_diagnosis_of, role_of, if_trusted, if_owned, sender_in}, Slots.Sender.{Nobody, Node}}
use Rattle.rb_laws_agreement.proofs.{ExactWindows.IsSingle, Invariant.slot_numbered}

pub before-same : (o : Option (ℕ × ℕ)) (frame a b : ℕ) → a ≤ b → is_before o frame b ≡ true → is_before o frame a ≡ true
before-same None frame a b h g = refl
before-same (Some onset) frame a b h g = grind (arith, nat_tests)

pub before-earlier : (o : Option (ℕ × ℕ)) (frame later a b : ℕ) → frame < later → is_before o later b ≡ true → is_before o frame a ≡ true
before-earlier None frame later a b h g = refl
before-earlier (Some onset) frame later a b h g = grind (arith, nat_tests)

-- a node that is good in a slot was good in the earlier ones of the frame
pub good_earlier : (sc : Scenario) (me : Side) (i frame a b : ℕ) → a ≤ b → is_good sc me i frame b ≡ true → is_good sc me i frame a ≡ true
good_earlier sc me i frame a b h g =
    let there : nat_lt i (count_of me sc.sizes) ≡ true = and_first (nat_lt i (count_of me sc.sizes)) (is_before (get_or (onsets_of me sc) i None) frame b) g in
    and_from (nat_lt i (count_of me sc.sizes)) (is_before (get_or (onsets_of me sc) i None) frame a) there
    (before-same (get_or (onsets_of me sc) i None) frame a b h (and_second (nat_lt i (count_of me sc.sizes)) (is_before (get_or (onsets_of me sc) i None) frame b) g))

-- a node that is good in a frame was good in all slots of earlier frames
pub good_before : (sc : Scenario) (me : Side) (i frame later a b : ℕ) → frame < later → is_good sc me i later b ≡ true → is_good sc me i frame a ≡ true
good_before sc me i frame later a b h g =
    let there : nat_lt i (count_of me sc.sizes) ≡ true = and_first (nat_lt i (count_of me sc.sizes)) (is_before (get_or (onsets_of me sc) i None) later b) g in
    and_from (nat_lt i (count_of me sc.sizes)) (is_before (get_or (onsets_of me sc) i None) frame a) there
    (before-earlier (get_or (onsets_of me sc) i None) frame later a b h (and_second (nat_lt i (count_of me sc.sizes)) (is_before (get_or (onsets_of me sc) i None) later b) g))

-- a good node is one of the bus
pub good_counts : (sc : Scenario) (me : Side) (i frame slot : ℕ) → is_good sc me i frame slot ≡ true → i < count_of me sc.sizes
good_counts sc me i frame slot g =
    ltb-true i (count_of me sc.sizes) (and_first (nat_lt i (count_of me sc.sizes)) (is_before (get_or (onsets_of me sc) i None) frame slot) g)

-- no kind has more than 16
pub few_nodes : {sizes : _} → IsShape sizes → (kind : Side) → count_of kind sizes ≤ 16
few_nodes shape Biu = shape.most_bius
few_nodes shape Rmu = shape.most_rmus

pub good_below_16 : (sc : Scenario) → IsShape sc.sizes → (me : Side) (i frame slot : ℕ) → is_good sc me i frame slot ≡ true → i < 16
good_below_16 sc shape me i frame slot g = omega (arith, good_counts sc me i frame slot g, few_nodes shape me)

-- The slot of a window.

pub slot_here : (sizes : Sizes) {window : ℕ} (slot q : ℕ) → slot < sync_slot_of sizes → q < 3 → window ≡ 3 * slot + q → slot_numbered sizes window ≡ slot
slot_here sizes slot q below small at = omega arith

pub slot_last : (sizes : Sizes) {window : ℕ} (q : ℕ) → window ≡ 3 * sync_slot_of sizes + q → slot_numbered sizes window ≡ sync_slot_of sizes
slot_last sizes q at = omega arith

-- the next window's slot is not an earlier one
pub slot_goes_on : (sizes : Sizes) (window : ℕ) → slot_numbered sizes window ≤ slot_numbered sizes (window + 1)
slot_goes_on sizes window = omega arith

-- the role is not that of the sync slot
abbrev pub IsExact : Role → Type 0
IsExact (Schedule i) = Unit {0}
IsExact (Data n) = Unit {0}
IsExact (DiagBiu i) = Unit {0}
IsExact (DiagRmu i) = Unit {0}
IsExact Sync = ⊥

pub exact_role : (sizes : Sizes) (slot : ℕ) → slot < sync_slot_of sizes → IsExact (role_of sizes slot)
exact_role sizes slot below =
    go (nat_lt slot sizes.bius) (nat_lt slot (first_diagnosis_of Biu sizes)) (nat_lt slot (first_diagnosis_of Rmu sizes)) (nat_lt slot (sync_slot_of sizes)) (lt-ltb slot (sync_slot_of sizes) below)
  where
    go : (a b c d : Bool) → d ≡ true
        → IsExact (if a then Schedule slot else (if b then Data (slot - sizes.bius) else (if c then DiagBiu (slot - first_diagnosis_of Biu sizes) else (if d then DiagRmu (slot - first_diagnosis_of Rmu sizes) else Sync))))
    go true b c d h = tt
    go false true c d h = tt
    go false false true d h = tt
    go false false false true h = tt
    go false false false false h = absurd (cc)

if_trusted-single : (trusted i : ℕ) → IsSingle (if_trusted trusted i)
if_trusted-single trusted i = go (has trusted i)
  where
    go : (b : Bool) → IsSingle (if b then Node i else Nobody)
    go true = tt
    go false = tt

if_owned-single : (o : Option ℕ) → IsSingle (if_owned o)
if_owned-single None = tt
if_owned-single (Some i) = tt

pub single_sender : (bius rmus : ℕ) (owners : List ℕ) (role : Role) → IsExact role → IsSingle (sender_in bius rmus owners role)
single_sender bius rmus owners (Schedule i) h = if_trusted-single bius i
single_sender bius rmus owners (Data n) h = if_owned-single (slice_get owners n)
single_sender bius rmus owners (DiagBiu i) h = if_trusted-single bius i
single_sender bius rmus owners (DiagRmu i) h = if_trusted-single rmus i
single_sender bius rmus owners Sync h = absurd h
