-- The generated scenario is lawful, and its faulty nodes do what its entries list.
use Rattle.std.proofs.{Common.{◌≡◌, ℕ, suc, ◌+◌, ◌-◌, ◌/◌, ◌%◌, ◌^◌, ◌<◌, ◌≤◌, ◌&&◌, ◌||◌, ◌==◌, nat_le, nat_lt, Bool, true, false, cond, List, ◌∷◌, ◌++◌, map, replicate, get_or, Some, None, refl, inl, arith}, Math.Nat.mod-lt, lemmas.Bool.{and_from, cond_both, le-leb, le-ltb, ltb-true}, lemmas.List.Elements.{All-append, All-cons, All-replicate}, lemmas.List.FromFn.length-map-range_with_len}
use Rattle.std.specs.Prelude.{All}
use Rattle.rb_base.specs.{Counting.numbers, Nodes.other, Sizes.IsShape, declared.node.NodeName.TheVariants.{Biu, Rmu}}
use Rattle.rb_base.proofs.Plain.{and-false}
use Rattle.rb_rules.specs.{Clock.IsClock, Entries.IsListed, Lawful.{IsLawful, IsNodeOf, IsOnsetOf, IsRuleOf, IsSayOf, kind_of}, Plan.{IsFeasible, IsPlan}}
use Rattle.rb_rules.proofs.{Feasibility.feasible_exactly, Lawfulness.sent_in_each}
use Rattle.rb_gen.specs.Generated.{biu_onset, clock_of, plan, rmu_onset, rule_of, say_to, scenario_of, sizes, start_of, tick_of}
use Rattle.rb_gen.proofs.Lists.{each_of}

-- ---- the bus

plan_is : IsPlan plan
unfolding plan
plan_is = record {
  u = (omega arith, omega arith);
  r = omega arith;
  dmin = (omega arith, omega arith);
  dmax = omega arith;
  l = (omega arith, omega arith);
  h = (omega arith, omega arith);
  v = (omega arith, omega arith);
  z = (omega arith, omega arith);
  c = omega arith;
  p = omega arith;
  probation = omega arith;
}

plan_fits : IsFeasible sizes plan
unfolding plan
plan_fits = (feasible_exactly sizes plan).0 refl

sizes_are : IsShape sizes
sizes_are = record {
  some_biu = omega arith;
  most_bius = omega arith;
  some_rmu = omega arith;
  most_rmus = omega arith;
  some_slot = omega arith;
  most_slots = omega arith;
}

-- ---- clocks

-- no clock starts later than BIU 0's
pub start_small : (drawn : List ℕ) (node : ℕ) → start_of drawn node ≤ 60200
start_small drawn node =
    let IsSmall : ℕ → Type 0 = λ n. n ≤ 60200 in
    cond_both (node == 0) 60200 _ IsSmall (λ e. omega arith)
    (λ e. cond_both (nat_lt node 8) (get_or drawn node 0 % 60201) _ IsSmall (λ e. omega arith)
    (λ e. cond_both (node == 8) 0 (get_or drawn (node - 1) 0 % 60201) IsSmall (λ e. omega arith) (λ e. omega arith)))

pub clock_is : (drawn : List ℕ) (node : ℕ) → IsClock 9999 10001 (clock_of drawn node)
clock_is drawn node =
    let tick = tick_of drawn node in
    record {
      start = omega (arith, start_small drawn node);
      rising = refl;
      within = and_from (nat_le 9999 tick && nat_le tick 10001) true
          (and_from (nat_le 9999 tick) (nat_le tick 10001) (le-leb 9999 tick (omega arith)) (le-leb tick 10001 (omega arith))) refl;
    }

starts_are : (drawn : List ℕ) → let clocks = map (clock_of drawn) (numbers 13) in All (λ a. All (λ b. a.start ≤ b.start + 60200) clocks) clocks
starts_are drawn =
    let clocks = map (clock_of drawn) (numbers 13) in
    each_of (λ a. All (λ b. a.start ≤ b.start + 60200) clocks) (clock_of drawn) 13
    (λ i lt. each_of (λ b. start_of drawn i ≤ b.start + 60200) (clock_of drawn) 13 (λ j lt. omega (arith, start_small drawn i)))

-- ---- links

unlike_kinds : (b : Bool) (i j k l : ℕ) → kind_of (cond b (Rmu i) (Biu j)) ≡ other (kind_of (cond b (Biu k) (Rmu l)))
unlike_kinds true i j k l = refl
unlike_kinds false i j k l = refl

rule_is : (drawn : List ℕ) (frames link : ℕ) → link < 80 → IsRuleOf (scenario_of drawn frames) (rule_of drawn frames link)
unfolding scenario_of plan
rule_is drawn frames link lt = record {
  from = cond_both (nat_lt link 40) (Biu (link / 5)) (Rmu ((link - 40) / 8)) (IsNodeOf sizes) (λ e. omega (arith, ltb-true link 40 e)) (λ e. omega (arith, lt));
  to = cond_both (nat_lt link 40) (Rmu (link % 5)) (Biu ((link - 40) % 8)) (IsNodeOf sizes) (λ e. omega arith) (λ e. omega arith);
  unlike_kinds = unlike_kinds (nat_lt link 40) _ _ _ _;
  frames = record { least = omega arith; order = omega arith; greatest = omega arith };
  slots = record { least = omega arith; order = omega arith; greatest = omega arith };
  stages = record { least = omega arith; order = omega arith; greatest = omega arith };
  delay = record { least = omega arith; greatest = omega arith };
}

-- ---- faults

onsets_are : (drawn : List ℕ) (frames n m : ℕ) (onset : ℕ × ℕ) → onset.0 < frames → onset.1 ≤ 37
    → All (IsOnsetOf (scenario_of drawn frames)) (replicate n None ++ Some onset ∷ replicate m None)
unfolding scenario_of
onsets_are drawn frames n m onset frame slot =
    let Is = IsOnsetOf (scenario_of drawn frames) in
    All-append Is (replicate n None) (Some onset ∷ replicate m None) (All-replicate Is n None tt)
    (All-cons Is (Some onset) (replicate m None) (frame, slot) (All-replicate Is m None tt))

pub not_before_itself : (frame : ℕ) → (nat_lt frame frame || ((frame == frame) && false)) ≡ false
not_before_itself frame = rw (le-ltb frame frame (omega arith)) (and-false (frame == frame))

say_is : (drawn : List ℕ) (frames rmu : ℕ) → 1 ≤ frames → rmu < 4 → IsSayOf (scenario_of drawn frames) (say_to frames rmu)
unfolding scenario_of plan
say_is drawn frames rmu some lt = record {
  from = omega arith;
  faulty = not_before_itself (frames / 2);
  to = omega (arith, lt);
  unlike_kinds = refl;
  frames = record { least = omega arith; order = omega arith; greatest = omega (arith, some) };
  slots = record { least = omega arith; order = omega arith; greatest = omega arith };
  stages = record { least = omega arith; order = omega arith; greatest = omega arith };
  tail = inl (omega arith);
  offset = λ place h. sent_in_each sizes plan (record { in_l = omega arith; in_v = omega arith; in_z = omega arith }) place;
  early = omega arith;
  early_in_sync = inl refl;
  content = omega (arith, lt);
}

-- ---- the scenario

pub generated_is_lawful : (drawn : List ℕ) (frames : ℕ) → 1 ≤ frames → frames ≤ 4096 → IsLawful (scenario_of drawn frames)
unfolding scenario_of plan
generated_is_lawful drawn frames some most = record {
  sizes = sizes_are;
  plan = plan_is;
  version = tt;
  feasible = plan_fits;
  frames = (some, most);
  requests = record { enough = omega arith; each = All-append (λ n. n ≤ 64) (replicate 8 2) (replicate 8 0) (All-replicate (λ n. n ≤ 64) 8 2 (omega arith)) (All-replicate (λ n. n ≤ 64) 8 0 (omega arith)) };
  words = record { enough = omega arith; each = All-append (λ w. w < 2 ^ 32) (map suc (numbers 8)) (replicate 8 0) (each_of (λ w. w < 2 ^ 32) suc 8 (λ i lt. omega (arith, lt))) (All-replicate (λ w. w < 2 ^ 32) 8 0 (omega arith)) };
  apps = record { enough = omega arith; each = All-replicate (λ app. app < 3) 16 0 (omega arith) };
  one_clock_each = length-map-range_with_len (clock_of drawn) 0 13;
  clocks = each_of (IsClock 9999 10001) (clock_of drawn) 13 (λ i lt. clock_is drawn i);
  starts = starts_are drawn;
  base_delay = record { least = omega arith; greatest = omega arith };
  rules = each_of (IsRuleOf (scenario_of drawn frames)) (rule_of drawn frames) 80 (λ i lt. rule_is drawn frames i lt);
  biu_onsets = record { enough = omega arith; each = onsets_are drawn frames 7 8 (biu_onset frames) (omega (arith, some)) (omega arith) };
  rmu_onsets = record { enough = omega arith; each = onsets_are drawn frames 4 11 (rmu_onset drawn frames) (mod-lt (get_or drawn 0 0) some) (omega arith) };
  few_rules = omega (arith, length-map-range_with_len (rule_of drawn frames) 0 80);
  few_segments = omega arith;
}

pub generated_is_listed : (drawn : List ℕ) (frames : ℕ) → 1 ≤ frames → IsListed (scenario_of drawn frames)
unfolding scenario_of plan
generated_is_listed drawn frames some = record {
  behavior = λ me i span j. refl;
  says = each_of (IsSayOf (scenario_of drawn frames)) (say_to frames) 4 (λ i lt. say_is drawn frames i some lt);
  few = omega (arith, length-map-range_with_len (say_to frames) 0 4);
}
