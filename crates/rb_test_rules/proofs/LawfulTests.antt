-- Tests that compute: a scenario that passes is lawful, and its entries are those of a document.
use Rattle.std.proofs.{Common.{◌≡◌, ℕ, ◌+◌, ◌-◌, ◌^◌, ◌<◌, ◌≤◌, ◌&&◌, ◌||◌, ◌==◌, not, nat_le, nat_lt, Bool, true, false, List, [], ◌∷◌, All, get_or, length, Option, Some, None, refl, inl, inr, arith}, lemmas.Bool.{and_parts, both_ways, eqb-true, false≢true, leb-true, ltb-true, not-true, or_cases}, lemmas.List.Sums.AllPass-from_list_all}
use Rattle.std.specs.{Prelude.is_none, List.list_all}
use Rattle.rb_base.specs.{Nodes.{Side, other}, Sizes.{IsShape, Sizes, sync_slot_of}, declared.node.NodeName.NodeName}
use Rattle.rb_base.proofs.Plain.{either_by}
use Rattle.rb_rules.specs.{declared.link.Pattern.Pattern, declared.link.Pattern.TheVariants.{One, AllBiu, AllRmu}, declared.link.Rule.Rule, declared.message.Version.Version, declared.plan.Plan.Plan, declared.say.Content.Content, declared.say.Content.TheVariants.{Word, Fault, Sync, Raw}, declared.say.Say.Say, Clock.{IsClock, Timeline, are_rising, are_within}, Behavior.Span, Entries.{IsListed, listed}, Goodness.{Scenario, clock_of}, Lawful.{HasEach, IsContent, IsDelay, IsLawful, IsNodeOf, IsOnsetOf, IsPatternOf, IsRangeIn, IsRuleOf, IsSayOf, IsSyncAlone, IsVersion, is_node_good, kind_named, kind_of, segments_of_all, ticks_in_sync}, Links.is_in_range, Plan.{IsPlan, first_failing, longest_of, shortest_of}, Slots.same_side}
use Rattle.rb_rules.proofs.{Feasibility.feasible_exactly, Lawfulness.{at_each_stage, lies_in_each}, Slots.same_side-is}
use Rattle.rb_base.specs.declared.node.NodeName.TheVariants as node
use Rattle.rb_rules.specs.declared.message.Version.TheVariants as version

-- ---- lists of tests

-- all tests of a list are passed
abbrev passes : List Bool → Bool
passes tests = list_all (λ t. t) tests

passed : (tests : List Bool) → passes tests ≡ true → (k : ℕ) → k < length tests → get_or tests k false ≡ true
passed tests h k lt = AllPass-from_list_all (λ t. t) tests h k false lt

-- if a test shows `P` of an item, it shows `P` of each item of a list
each_by : {X : Type 0} (P : X → Type 0) (test : X → Bool) → ((x : X) → test x ≡ true → P x) → (xs : List X) → list_all test xs ≡ true → All P xs
each_by P test shows xs h = λ k d lt. shows (get_or xs k d) (AllPass-from_list_all test xs h k d lt)

-- the list has an item for each node, and all items pass
abbrev has_each : {X : Type 0} → ℕ → (X → Bool) → List X → Bool
has_each nodes test xs = nat_le nodes (length xs) && list_all test xs

has_each_by : {X : Type 0} (P : X → Type 0) (test : X → Bool) → ((x : X) → test x ≡ true → P x) → (nodes : ℕ) (xs : List X) → has_each nodes test xs ≡ true → HasEach nodes P xs
has_each_by P test shows nodes xs h =
    let parts = and_parts (nat_le nodes (length xs)) (list_all test xs) h in
    record { enough = leb-true nodes (length xs) parts.0; each = each_by P test shows xs parts.1 }

-- ---- numbers

-- the first number of each pair is at most the second
abbrev are_ordered : List (ℕ × ℕ) → Bool
are_ordered pairs = list_all (λ p. nat_le p.0 p.1) pairs

ordered : (pairs : List (ℕ × ℕ)) → are_ordered pairs ≡ true → (k : ℕ) → k < length pairs
    → (get_or pairs k (0, 0)).0 ≤ (get_or pairs k (0, 0)).1
ordered pairs h k lt = leb-true _ _ (AllPass-from_list_all (λ p. nat_le p.0 p.1) pairs h k (0, 0) lt)

abbrev range_pairs : ℕ → ℕ → ℕ × ℕ → List (ℕ × ℕ)
range_pairs low high range = (low, range.0) ∷ (range.0, range.1) ∷ (range.1, high) ∷ []

range_by : (low high : ℕ) (range : ℕ × ℕ) → are_ordered (range_pairs low high range) ≡ true → IsRangeIn low high range
range_by low high range h =
    let is = ordered (range_pairs low high range) h in
    record { least = is 0 (omega arith); order = is 1 (omega arith); greatest = is 2 (omega arith) }

abbrev shape_pairs : Sizes → List (ℕ × ℕ)
shape_pairs s = (1, s.bius) ∷ (s.bius, 16) ∷ (1, s.rmus) ∷ (s.rmus, 16) ∷ (1, s.data_slots) ∷ (s.data_slots, 64) ∷ []

shape_by : (s : Sizes) → are_ordered (shape_pairs s) ≡ true → IsShape s
shape_by s h =
    let is = ordered (shape_pairs s) h in
    record {
      some_biu = is 0 (omega arith);
      most_bius = is 1 (omega arith);
      some_rmu = is 2 (omega arith);
      most_rmus = is 3 (omega arith);
      some_slot = is 4 (omega arith);
      most_slots = is 5 (omega arith);
    }

abbrev plan_pairs : Plan → List (ℕ × ℕ)
plan_pairs p =
    (2, p.u) ∷ (p.u, 1000000) ∷ (p.r + 1, p.u) ∷ (1, p.dmin) ∷ (p.dmin, p.dmax) ∷ (p.dmax, 1000000000)
    ∷ (1, p.l) ∷ (p.l, 1000) ∷ (1, p.h) ∷ (p.h, 1000) ∷ (1, p.v) ∷ (p.v, 1000) ∷ (1, p.z) ∷ (p.z, 1000)
    ∷ (p.c, 1000) ∷ (p.p, 1000000000) ∷ (p.probation, 4096) ∷ []

plan_by : (p : Plan) → are_ordered (plan_pairs p) ≡ true → IsPlan p
plan_by p h =
    let is = ordered (plan_pairs p) h in
    let r : p.r + 1 ≤ p.u = is 2 (omega arith) in
    record {
      u = (is 0 (omega arith), is 1 (omega arith));
      r = omega arith;
      dmin = (is 3 (omega arith), is 4 (omega arith));
      dmax = is 5 (omega arith);
      l = (is 6 (omega arith), is 7 (omega arith));
      h = (is 8 (omega arith), is 9 (omega arith));
      v = (is 10 (omega arith), is 11 (omega arith));
      z = (is 12 (omega arith), is 13 (omega arith));
      c = is 14 (omega arith);
      p = is 15 (omega arith);
      probation = is 16 (omega arith);
    }

abbrev is_version : Version → Bool
is_version version.One = true
is_version (version.Two bus) = nat_lt bus (2 ^ 8)

version_by : (v : Version) → is_version v ≡ true → IsVersion v
version_by version.One h = tt
version_by (version.Two bus) h = ltb-true bus (2 ^ 8) h

-- ---- clocks and delays

abbrev is_clock : Plan → Timeline → Bool
is_clock plan c = nat_le c.start 1000000000000 && are_rising c.segments && are_within (shortest_of plan) (longest_of plan) c.segments

clock_by : (plan : Plan) (c : Timeline) → is_clock plan c ≡ true → IsClock (shortest_of plan) (longest_of plan) c
clock_by plan c h =
    let parts = and_parts (nat_le c.start 1000000000000 && are_rising c.segments) _ h in
    let first = and_parts (nat_le c.start 1000000000000) (are_rising c.segments) parts.0 in
    record { start = leb-true c.start 1000000000000 first.0; rising = first.1; within = parts.1 }

abbrev start_near : ℕ → List Timeline → Timeline → Bool
start_near bound clocks a = list_all (λ b. nat_le a.start (b.start + bound)) clocks

near_by : (bound : ℕ) (clocks : List Timeline) (a : Timeline) → start_near bound clocks a ≡ true → All (λ b. a.start ≤ b.start + bound) clocks
near_by bound clocks a h = each_by (λ b. a.start ≤ b.start + bound) (λ b. nat_le a.start (b.start + bound)) (λ b. leb-true a.start (b.start + bound)) clocks h

abbrev is_delay : Plan → ℕ → Bool
is_delay plan delay = nat_le plan.dmin delay && nat_le delay plan.dmax

delay_by : (plan : Plan) (delay : ℕ) → is_delay plan delay ≡ true → IsDelay plan delay
delay_by plan delay h =
    let parts = and_parts (nat_le plan.dmin delay) (nat_le delay plan.dmax) h in
    record { least = leb-true plan.dmin delay parts.0; greatest = leb-true delay plan.dmax parts.1 }

-- ---- nodes

abbrev is_node_of : Sizes → NodeName → Bool
is_node_of sizes (node.Biu i) = nat_lt i sizes.bius
is_node_of sizes (node.Rmu i) = nat_lt i sizes.rmus

node_by : (sizes : Sizes) (n : NodeName) → is_node_of sizes n ≡ true → IsNodeOf sizes n
node_by sizes (node.Biu i) h = ltb-true i sizes.bius h
node_by sizes (node.Rmu i) h = ltb-true i sizes.rmus h

abbrev is_pattern_of : Sizes → Pattern → Bool
is_pattern_of sizes (One n) = is_node_of sizes n
is_pattern_of sizes AllBiu = true
is_pattern_of sizes AllRmu = true

pattern_by : (sizes : Sizes) (p : Pattern) → is_pattern_of sizes p ≡ true → IsPatternOf sizes p
pattern_by sizes (One n) h = node_by sizes n h
pattern_by sizes AllBiu h = tt
pattern_by sizes AllRmu h = tt

abbrev is_onset : Scenario → Option (ℕ × ℕ) → Bool
is_onset sc None = true
is_onset sc (Some onset) = nat_lt onset.0 sc.frames && nat_le onset.1 (sync_slot_of sc.sizes)

onset_by : (sc : Scenario) (o : Option (ℕ × ℕ)) → is_onset sc o ≡ true → IsOnsetOf sc o
onset_by sc None h = tt
onset_by sc (Some onset) h =
    let parts = and_parts (nat_lt onset.0 sc.frames) (nat_le onset.1 (sync_slot_of sc.sizes)) h in
    (ltb-true onset.0 sc.frames parts.0, leb-true onset.1 (sync_slot_of sc.sizes) parts.1)

-- ---- links

abbrev rule_tests : Scenario → Rule → List Bool
rule_tests sc r =
    is_pattern_of sc.sizes r.from
    ∷ is_pattern_of sc.sizes r.to
    ∷ same_side (kind_named r.to) (other (kind_named r.from))
    ∷ are_ordered (range_pairs 0 (sc.frames - 1) r.frames)
    ∷ are_ordered (range_pairs 0 (sync_slot_of sc.sizes) r.slots)
    ∷ are_ordered (range_pairs 1 3 r.stages)
    ∷ is_delay sc.plan r.delay
    ∷ []

rule_by : (sc : Scenario) (r : Rule) → passes (rule_tests sc r) ≡ true → IsRuleOf sc r
rule_by sc r h =
    let is = passed (rule_tests sc r) h in
    record {
      from = pattern_by sc.sizes r.from (is 0 (omega arith));
      to = pattern_by sc.sizes r.to (is 1 (omega arith));
      unlike_kinds = same_side-is _ _ (is 2 (omega arith));
      frames = range_by 0 (sc.frames - 1) r.frames (is 3 (omega arith));
      slots = range_by 0 (sync_slot_of sc.sizes) r.slots (is 4 (omega arith));
      stages = range_by 1 3 r.stages (is 5 (omega arith));
      delay = delay_by sc.plan r.delay (is 6 (omega arith));
    }

-- ---- what is said

abbrev is_content : Content → Bool
is_content (Word word) = nat_lt word (2 ^ 32)
is_content Fault = true
is_content Sync = true
is_content (Raw bytes) = nat_le 1 (length bytes.items) && nat_le (length bytes.items) 32 && list_all (λ byte. nat_lt byte (2 ^ 8)) bytes.items

content_by : (c : Content) → is_content c ≡ true → IsContent c
content_by (Word word) h = ltb-true word (2 ^ 32) h
content_by Fault h = tt
content_by Sync h = tt
content_by (Raw bytes) h =
    let parts = and_parts (nat_le 1 (length bytes.items) && nat_le (length bytes.items) 32) _ h in
    let first = and_parts (nat_le 1 (length bytes.items)) (nat_le (length bytes.items) 32) parts.0 in
    record {
      some = leb-true 1 (length bytes.items) first.0;
      most = leb-true (length bytes.items) 32 first.1;
      each = each_by (λ byte. byte < 2 ^ 8) (λ byte. nat_lt byte (2 ^ 8)) (λ byte. ltb-true byte (2 ^ 8)) bytes.items parts.1;
    }

abbrev is_sync_alone : Sizes → ℕ × ℕ → Bool
is_sync_alone sizes slots = (slots.0 == sync_slot_of sizes) && (slots.1 == sync_slot_of sizes)

sync_alone_by : (sizes : Sizes) (slots : ℕ × ℕ) → is_sync_alone sizes slots ≡ true → IsSyncAlone sizes slots
sync_alone_by sizes slots h =
    let parts = and_parts (slots.0 == sync_slot_of sizes) (slots.1 == sync_slot_of sizes) h in
    (eqb-true slots.0 (sync_slot_of sizes) parts.0, eqb-true slots.1 (sync_slot_of sizes) parts.1)

abbrev lies_in : Plan → Say → ℕ → Bool
lies_in plan s stage = not (is_in_range s.stages stage) || nat_lt s.offset (ticks_in_sync plan stage)

lies_by : (plan : Plan) (s : Say) (stage : ℕ) → lies_in plan s stage ≡ true → is_in_range s.stages stage ≡ true → s.offset < ticks_in_sync plan stage
lies_by plan s stage h has = elim (or_cases (not (is_in_range s.stages stage)) (nat_lt s.offset (ticks_in_sync plan stage)) h) [
  | inl e ↦ absurd (both_ways (is_in_range s.stages stage) (not-true _ e) has)
  | inr e ↦ ltb-true s.offset (ticks_in_sync plan stage) e
]

abbrev lie_tests : Plan → Say → List Bool
lie_tests plan s = lies_in plan s 1 ∷ lies_in plan s 2 ∷ lies_in plan s 3 ∷ lies_in plan s 4 ∷ []

lie_by : (plan : Plan) (s : Say) → IsRangeIn 1 4 s.stages → passes (lie_tests plan s) ≡ true
    → (stage : ℕ) → is_in_range s.stages stage ≡ true → s.offset < ticks_in_sync plan stage
lie_by plan s stages h =
    let is = passed (lie_tests plan s) h in
    at_each_stage (λ stage. s.offset < ticks_in_sync plan stage) s.stages stages
    (lies_by plan s 1 (is 0 (omega arith))) (lies_by plan s 2 (is 1 (omega arith)))
    (lies_by plan s 3 (is 2 (omega arith))) (lies_by plan s 4 (is 3 (omega arith)))

abbrev say_tests : Scenario → Say → List Bool
say_tests sc s =
    is_node_of sc.sizes s.from
    ∷ not (is_node_good sc s.from s.frames.0 s.slots.0)
    ∷ is_pattern_of sc.sizes s.to
    ∷ same_side (kind_named s.to) (other (kind_of s.from))
    ∷ are_ordered (range_pairs 0 (sc.frames - 1) s.frames)
    ∷ are_ordered (range_pairs 0 (sync_slot_of sc.sizes) s.slots)
    ∷ are_ordered (range_pairs 1 4 s.stages)
    ∷ (nat_le s.stages.1 3 || is_sync_alone sc.sizes s.slots)
    ∷ (nat_le (sync_slot_of sc.sizes) s.slots.0 || nat_lt s.offset sc.plan.l)
    ∷ (nat_lt s.slots.1 (sync_slot_of sc.sizes) || passes (lie_tests sc.plan s))
    ∷ nat_lt s.early (shortest_of sc.plan)
    ∷ ((s.early == 0) || is_sync_alone sc.sizes s.slots)
    ∷ is_content s.content
    ∷ []

say_by : (sc : Scenario) (s : Say) → passes (say_tests sc s) ≡ true → IsSayOf sc s
say_by sc s h =
    let is = passed (say_tests sc s) h in
    let stages = range_by 1 4 s.stages (is 6 (omega arith)) in
    record {
      from = node_by sc.sizes s.from (is 0 (omega arith));
      faulty = not-true _ (is 1 (omega arith));
      to = pattern_by sc.sizes s.to (is 2 (omega arith));
      unlike_kinds = same_side-is _ _ (is 3 (omega arith));
      frames = range_by 0 (sc.frames - 1) s.frames (is 4 (omega arith));
      slots = range_by 0 (sync_slot_of sc.sizes) s.slots (is 5 (omega arith));
      stages = stages;
      tail = either_by _ _ _ _ (leb-true s.stages.1 3) (sync_alone_by sc.sizes s.slots) (is 7 (omega arith));
      offset = lies_in_each sc.sizes sc.plan s.frames s.slots s.stages s.offset
          (either_by _ _ _ _ (leb-true (sync_slot_of sc.sizes) s.slots.0) (ltb-true s.offset sc.plan.l) (is 8 (omega arith)))
          (either_by _ _ _ _ (ltb-true s.slots.1 (sync_slot_of sc.sizes)) (lie_by sc.plan s stages) (is 9 (omega arith)));
      early = ltb-true s.early (shortest_of sc.plan) (is 10 (omega arith));
      early_in_sync = either_by _ _ _ _ (eqb-true s.early 0) (sync_alone_by sc.sizes s.slots) (is 11 (omega arith));
      content = content_by s.content (is 12 (omega arith));
    }

-- ---- a scenario

abbrev feasible_test : Sizes → Plan → Bool
feasible_test sizes plan = is_none (first_failing sizes plan)

none_by : (o : Option ℕ) → is_none o ≡ true → o ≡ None
none_by None h = refl
none_by (Some n) h = absurd (false≢true h)

abbrev scenario_tests : Scenario → List Bool
scenario_tests sc =
    are_ordered (shape_pairs sc.sizes)
    ∷ are_ordered (plan_pairs sc.plan)
    ∷ is_version sc.plan.version
    ∷ feasible_test sc.sizes sc.plan
    ∷ are_ordered ((1, sc.frames) ∷ (sc.frames, 4096) ∷ [])
    ∷ has_each sc.sizes.bius (λ n. nat_le n 64) sc.requests
    ∷ has_each sc.sizes.bius (λ w. nat_lt w (2 ^ 32)) sc.words
    ∷ has_each sc.sizes.bius (λ app. nat_lt app 3) sc.apps
    ∷ (length sc.clocks == sc.sizes.bius + sc.sizes.rmus)
    ∷ list_all (is_clock sc.plan) sc.clocks
    ∷ list_all (start_near sc.plan.p sc.clocks) sc.clocks
    ∷ is_delay sc.plan sc.delays.base
    ∷ list_all (λ r. passes (rule_tests sc r)) sc.delays.rules
    ∷ has_each sc.sizes.bius (is_onset sc) sc.biu_onsets
    ∷ has_each sc.sizes.rmus (is_onset sc) sc.rmu_onsets
    ∷ are_ordered ((length sc.delays.rules, 4096) ∷ (segments_of_all sc.clocks, 4096) ∷ [])
    ∷ []

pub lawful_by_tests : (sc : Scenario) → passes (scenario_tests sc) ≡ true → IsLawful sc
lawful_by_tests sc h =
    let is = passed (scenario_tests sc) h in
    let frames = ordered ((1, sc.frames) ∷ (sc.frames, 4096) ∷ []) (is 4 (omega arith)) in
    let few = ordered ((length sc.delays.rules, 4096) ∷ (segments_of_all sc.clocks, 4096) ∷ []) (is 15 (omega arith)) in
    record {
      sizes = shape_by sc.sizes (is 0 (omega arith));
      plan = plan_by sc.plan (is 1 (omega arith));
      version = version_by sc.plan.version (is 2 (omega arith));
      feasible = (feasible_exactly sc.sizes sc.plan).0 (none_by _ (is 3 (omega arith)));
      frames = (frames 0 (omega arith), frames 1 (omega arith));
      requests = has_each_by (λ n. n ≤ 64) (λ n. nat_le n 64) (λ n. leb-true n 64) sc.sizes.bius sc.requests (is 5 (omega arith));
      words = has_each_by (λ w. w < 2 ^ 32) (λ w. nat_lt w (2 ^ 32)) (λ w. ltb-true w (2 ^ 32)) sc.sizes.bius sc.words (is 6 (omega arith));
      apps = has_each_by (λ app. app < 3) (λ app. nat_lt app 3) (λ app. ltb-true app 3) sc.sizes.bius sc.apps (is 7 (omega arith));
      one_clock_each = eqb-true (length sc.clocks) (sc.sizes.bius + sc.sizes.rmus) (is 8 (omega arith));
      clocks = each_by (IsClock (shortest_of sc.plan) (longest_of sc.plan)) (is_clock sc.plan) (clock_by sc.plan) sc.clocks (is 9 (omega arith));
      starts = each_by (λ a. All (λ b. a.start ≤ b.start + sc.plan.p) sc.clocks) (start_near sc.plan.p sc.clocks) (near_by sc.plan.p sc.clocks) sc.clocks (is 10 (omega arith));
      base_delay = delay_by sc.plan sc.delays.base (is 11 (omega arith));
      rules = each_by (IsRuleOf sc) (λ r. passes (rule_tests sc r)) (rule_by sc) sc.delays.rules (is 12 (omega arith));
      biu_onsets = has_each_by (IsOnsetOf sc) (is_onset sc) (onset_by sc) sc.sizes.bius sc.biu_onsets (is 13 (omega arith));
      rmu_onsets = has_each_by (IsOnsetOf sc) (is_onset sc) (onset_by sc) sc.sizes.rmus sc.rmu_onsets (is 14 (omega arith));
      few_rules = few 0 (omega arith);
      few_segments = few 1 (omega arith);
    }

-- ---- entries

abbrev entries_tests : Scenario → List Bool
entries_tests sc = list_all (λ s. passes (say_tests sc s)) sc.says ∷ nat_le (length sc.says) 1024 ∷ []

pub listed_by_tests : (sc : Scenario) → ((me : Side) (i : ℕ) (span : Span) (j : ℕ) → sc.behavior me i span j ≡ listed sc.plan.version (clock_of sc) sc.says me i span j)
    → passes (entries_tests sc) ≡ true → IsListed sc
listed_by_tests sc behavior h =
    let is = passed (entries_tests sc) h in
    record {
      behavior = behavior;
      says = each_by (IsSayOf sc) (λ s. passes (say_tests sc s)) (say_by sc) sc.says (is 0 (omega arith));
      few = leb-true (length sc.says) 1024 (is 1 (omega arith));
    }
