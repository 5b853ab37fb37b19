-- Buses of three BIUs: which are lawful, and who owns a slot on them.
use Rattle.std.proofs.{Common.{◌≡◌, ℕ, zero, suc, ◌+◌, ◌<◌, ◌≤◌, ◌^◌, nat_lt, true, All, Option, Some, None, List, [], ◌∷◌, get_or, option_map, replicate, slice_get, lit<, lit≤, refl, sym, ◌∙◌, ap, arith}, lemmas.Bool.ltb-true, lemmas.List.Elements.{All-cons, All-nil}, lemmas.Option.same_Some}
use Rattle.rb_base.specs.{Nodes.Side, Nodes.Side.{Biu, Rmu}}
use Rattle.rb_base.proofs.Plain.{and_first}
use Rattle.rb_rules.specs.{Book.of_kind, Clock.{IsClock, Timeline}, Goodness.{Scenario, is_before, is_good}, Lawful.{IsLawful, IsOnsetOf}, Moments.before_slot, NodeSteps.owner_at, Plan.{longest_of, shortest_of}, Ports.HandIn}
use Rattle.rb_rules.proofs.Feasibility.{feasible_exactly}
use Rattle.rb_laws_groups.specs.Laws.{IsSchedule}
use Rattle.rb_test_bridge_rules.specs.Bridges.{slot_each, triple}

-- Owners.

-- the owner of a slot, as a node holds it
abbrev owner_held : Scenario → List HandIn → ℕ → ℕ → Side → ℕ → Option (Option ℕ)
owner_held sc hands frame slot me i = option_map (λ st. owner_at sc.sizes st slot) (slice_get (of_kind me (before_slot sc hands frame slot).nodes) i)

-- in this slot three BIUs and an RMU hold that each BIU owns one data slot
pub record HoldTheSlot (sc : Scenario) (hands : List HandIn) (frame slot : ℕ) : Type 0 where
  pub first : owner_held sc hands frame slot Biu 0 ≡ Some (slot_each slot)
  pub second : owner_held sc hands frame slot Biu 1 ≡ Some (slot_each slot)
  pub third : owner_held sc hands frame slot Biu 2 ≡ Some (slot_each slot)
  pub rmu : owner_held sc hands frame slot Rmu 0 ≡ Some (slot_each slot)

pub record HoldTheSlots (sc : Scenario) (hands : List HandIn) (frame : ℕ) : Type 0 where
  pub first : HoldTheSlot sc hands frame 3
  pub second : HoldTheSlot sc hands frame 4
  pub third : HoldTheSlot sc hands frame 5

in-slot : (sc : Scenario) (hands : List HandIn) (frame : ℕ) → HoldTheSlots sc hands frame → (slot : ℕ) → 3 ≤ slot → slot ≤ 5 → HoldTheSlot sc hands frame slot
in-slot sc hands frame h (suc (suc (suc zero))) low high = h.first
in-slot sc hands frame h (suc (suc (suc (suc zero)))) low high = h.second
in-slot sc hands frame h (suc (suc (suc (suc (suc zero))))) low high = h.third
in-slot sc hands frame h slot low high = absurd (omega arith)

by-biu : (sc : Scenario) (hands : List HandIn) (frame slot : ℕ) → HoldTheSlot sc hands frame slot → (i : ℕ) → i < 3 → owner_held sc hands frame slot Biu i ≡ Some (slot_each slot)
by-biu sc hands frame slot h zero less = h.first
by-biu sc hands frame slot h (suc zero) less = h.second
by-biu sc hands frame slot h (suc (suc zero)) less = h.third
by-biu sc hands frame slot h i less = absurd (omega arith)

by-rmu : (sc : Scenario) (hands : List HandIn) (frame slot : ℕ) → HoldTheSlot sc hands frame slot → (i : ℕ) → i < 1 → owner_held sc hands frame slot Rmu i ≡ Some (slot_each slot)
by-rmu sc hands frame slot h zero less = h.rmu
by-rmu sc hands frame slot h i less = absurd (omega arith)

pub schedule : (first second third : ℕ) (onset : Option (ℕ × ℕ)) (hands : List HandIn) (frame : ℕ)
    → HoldTheSlots (triple first second third onset) hands frame → IsSchedule (triple first second third onset) hands frame slot_each
schedule first second third onset hands frame all slot low high me i st before =
    let sc : Scenario = triple first second third onset in
    same_Some (owner_at sc.sizes st slot) (slot_each slot)
    (sym (ap (option_map (λ st. owner_at sc.sizes st slot)) before.state) ∙ held me before.good)
  where
    h : HoldTheSlot (triple first second third onset) hands frame slot
    h = in-slot (triple first second third onset) hands frame all slot low high

    held : (me : Side) → is_good (triple first second third onset) me i frame slot ≡ true → owner_held (triple first second third onset) hands frame slot me i ≡ Some (slot_each slot)
    held Biu good = by-biu (triple first second third onset) hands frame slot h i (ltb-true i 3 (and_first (nat_lt i 3) (is_before (get_or (triple first second third onset).biu_onsets i None) frame slot) good))
    held Rmu good = by-rmu (triple first second third onset) hands frame slot h i (ltb-true i 1 (and_first (nat_lt i 1) (is_before (get_or (triple first second third onset).rmu_onsets i None) frame slot) good))

-- Lawful.

all_same : {X : Type 0} (P : X → Type 0) (x : X) (n : ℕ) → P x → All P (replicate n x)
all_same P x zero h = All-nil P
all_same P x (suc n) h = All-cons P x (replicate n x) h (all_same P x n h)

pub all_three : {X : Type 0} (P : X → Type 0) (x y z : X) → P x → P y → P z → All P (x ∷ y ∷ z ∷ [])
all_three P x y z first second third = All-cons P x (y ∷ z ∷ []) first (All-cons P y (z ∷ []) second (All-cons P z [] third (All-nil P)))

pub lawful : (first second third : ℕ) (onset : Option (ℕ × ℕ)) → first < 2 ^ 32 → second < 2 ^ 32 → third < 2 ^ 32
    → IsOnsetOf (triple first second third onset) onset → IsLawful (triple first second third onset)
lawful first second third onset small_first small_second small_third inside =
    let sc : Scenario = triple first second third onset in
    let clock : Timeline = record { start = 0; segments = (0, 10000) ∷ [] } in
    record {
      sizes = record { some_biu = lit≤ tt; most_bius = lit≤ tt; some_rmu = lit≤ tt; most_rmus = lit≤ tt; some_slot = lit≤ tt; most_slots = lit≤ tt };
      plan = record {
        u = (lit≤ tt, lit≤ tt);
        r = lit< tt;
        dmin = (lit≤ tt, lit≤ tt);
        dmax = lit≤ tt;
        l = (lit≤ tt, lit≤ tt);
        h = (lit≤ tt, lit≤ tt);
        v = (lit≤ tt, lit≤ tt);
        z = (lit≤ tt, lit≤ tt);
        c = lit≤ tt;
        p = lit≤ tt;
        probation = lit≤ tt;
      };
      version = tt;
      feasible = (feasible_exactly sc.sizes sc.plan).0 refl;
      frames = (lit≤ tt, lit≤ tt);
      requests = record { enough = lit≤ tt; each = all_same (λ n. n ≤ 64) 1 3 (lit≤ tt) };
      words = record { enough = lit≤ tt; each = all_three (λ w. w < 2 ^ 32) first second third small_first small_second small_third };
      apps = record { enough = lit≤ tt; each = all_same (λ app. app < 3) 0 3 (lit< tt) };
      one_clock_each = refl;
      clocks = all_same (IsClock (shortest_of sc.plan) (longest_of sc.plan)) clock 4 (record { start = lit≤ tt; rising = refl; within = refl });
      starts = all_same (λ a. All (λ b. a.start ≤ b.start + sc.plan.p) sc.clocks) clock 4 (all_same (λ b. clock.start ≤ b.start + sc.plan.p) clock 4 (lit≤ tt));
      base_delay = record { least = lit≤ tt; greatest = lit≤ tt };
      rules = All-nil _;
      biu_onsets = record { enough = lit≤ tt; each = all_three (IsOnsetOf sc) None None onset tt tt inside };
      rmu_onsets = record { enough = lit≤ tt; each = all_same (IsOnsetOf sc) None 1 tt };
      few_rules = lit≤ tt;
      few_segments = lit≤ tt;
    }
