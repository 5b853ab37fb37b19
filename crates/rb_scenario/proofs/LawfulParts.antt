-- Every scenario that is accepted is lawful, and its faulty nodes do what its entries list.
use Rattle.std.proofs.{Common.{◌≡◌, ◌+◌, ◌-◌, ◌^◌, ◌<◌, ◌≤◌, ℕ, List, Bool, true, false, not, nat_le, nat_lt, cond, All, length, get_or, map, codes, Option, Some, None, Result, Ok, Err, IfOk, refl, sym, ap, ◌∙◌, subst, arith, length-append}, lemmas.Bool.{and_parts, leb-true, not-true}, lemmas.List.Elements.{All-append, All-map}, lemmas.List.FromFn.length-map-range_with_len, lemmas.List.Sums.AllPass-from_list_all}
use Rattle.std.specs.{Prelude.{option_map, unwrap_or}, List.{find, list_all}, Str.bytes_eq}
use Rattle.toml.specs.Data.{Data, Members, string, integer, float, boolean, datetime, array, table, no_members, get_member}
use Rattle.rb_base.specs.{Counting.numbers, Nodes.Side, Nodes.Side.{Biu, Rmu}, Sizes.sync_slot_of, declared.node.NodeName.NodeName}
use Rattle.rb_rules.specs.{Clock.{IsClock, Timeline}, Entries.IsListed, Goodness.Scenario, Links.name_of, Plan.{IsFeasible, longest_of, shortest_of}, declared.plan.Plan.Plan, Lawful.{HasEach, IsLawful, IsOnsetOf, is_node_good, segments_of_all}}
use Rattle.rb_rules.proofs.{Feasibility.feasible_exactly, Lawfulness.sends_inside_all}
use Rattle.rb_scenario_document.specs.{Names.node_at, Values.{has_number, item_at, may_have_number, number_at, number_or}, Walk.{entries_at, has_key, passes}}
use Rattle.rb_scenario_document.proofs.{Bounds.{absent_or-bounds, passes-bounds}, Walks.listed-within}
use Rattle.rb_scenario_entries.specs.{declared.bus.Bus.Bus, Bus.IsBus, Clocks.{clock_for, clocks_of, is_clock, kind_clocks, timeline_of}, Entries.is_node, Faults.{is_fault, onset_for, onset_of, onsets_of}, Links.{is_link, rule_of}, Clocks.keeps_time, Says.{is_say, say_of}}
use Rattle.rb_scenario.specs.{Acceptance.broken_by, Hosts.{app_at, app_in, apps_of, has_lists, request_at, requests_of, word_at, words_of}, Reading.{fits_bus, scenario_on}, Rules.{is_delay, keep_time, start_together}}
use Rattle.rb_scenario.proofs.{Chain.{AllKept, kept_from_none}, FitParts.fit_parts}
use Rattle.rb_scenario_entries.proofs.{LawfulEntries.{LinkLaw, SayLaw, link_law, say_law}, Finding.found_passes}

-- what holds of what each number gives holds of all that is made by number
all_made : {X : Type 0} (P : X → Type 0) (f : ℕ → X) (n : ℕ) → ((i : ℕ) → P (f i)) → All P (map f (numbers n))
all_made P f n h = All-map P f (numbers n) (λ k d lt. h (get_or (numbers n) k d))

-- what holds of what each entry that passes gives holds of all
all_read : {X : Type 0} (P : X → Type 0) (p : Members → Bool) (f : Members → X) (es : List Members) → ((e : Members) → p e ≡ true → P (f e))
    → list_all p es ≡ true → All P (map f es)
all_read P p f es h passes = All-map P f es (λ k d lt. h (get_or es k d) (AllPass-from_list_all p es passes k d lt))

-- The requests, words and applications.
record ListParts (bius : ℕ) (t : Members) : Type 0 where
  requests : (i : ℕ) → number_or 0 (item_at (codes "requests") i t) ≤ 64
  words : (i : ℕ) → number_or 0 (item_at (codes "words") i t) ≤ 4294967295

list_parts : (bius : ℕ) (t : Members) → has_lists bius t ≡ true → ListParts bius t
list_parts bius t h =
    let h1 = and_parts _ _ (and_parts _ _ h).0 in
    record {
      requests = λ i. listed-within 64 bius i (get_member (codes "requests") t) h1.0;
      words = λ i. listed-within 4294967295 bius i (get_member (codes "words") t) h1.1;
    }

at_most_cond : (b : Bool) (x y n : ℕ) → x ≤ n → y ≤ n → cond b x y ≤ n
at_most_cond true x y n hx hy = hx
at_most_cond false x y n hx hy = hy

requests_small : (bius : ℕ) (t : Members) → bius ≤ 16 → has_lists bius t ≡ true → HasEach bius (λ n. n ≤ 64) (requests_of bius t)
unfolding requests_of
requests_small bius t most h = record {
  enough = let many = length-map-range_with_len (request_at bius t) 0 16 in omega (arith, many);
  each = all_made (λ n. n ≤ 64) (request_at bius t) 16 (λ i.
      at_most_cond (has_key (codes "requests") t) _ (cond (nat_lt i bius) 1 0) 64 ((list_parts bius t h).requests i)
      (at_most_cond (nat_lt i bius) 1 0 64 (omega arith) (omega arith)));
}

words_small : (bius : ℕ) (t : Members) → bius ≤ 16 → has_lists bius t ≡ true → HasEach bius (λ w. w < 2 ^ 32) (words_of t)
unfolding words_of
words_small bius t most h = record {
  enough = let many = length-map-range_with_len (word_at t) 0 16 in omega (arith, many);
  each = all_made (λ w. w < 2 ^ 32) (word_at t) 16 (λ i. let small = (list_parts bius t h).words i in omega arith);
}

below_3 : (o : Option ℕ) → ((a : ℕ) → o ≡ Some a → a < 3) → unwrap_or o 0 < 3
below_3 None h = omega arith
below_3 (Some a) h = h a refl

named_below_3 : (x y z : Bool) (a : ℕ) → cond x (Some 0) (cond y (Some 1) (cond z (Some 2) None)) ≡ Some a → a < 3
named_below_3 true y z a e = let is : 0 ≡ a = cc in omega arith
named_below_3 false true z a e = let is : 1 ≡ a = cc in omega arith
named_below_3 false false true a e = let is : 2 ≡ a = cc in omega arith
named_below_3 false false false a e = cc

app_in-lt : (o : Option Data) (a : ℕ) → app_in o ≡ Some a → a < 3
app_in-lt (Some (string text)) a e = named_below_3 (bytes_eq text (codes "table")) (bytes_eq text (codes "counter")) (bytes_eq text (codes "follow")) a e
app_in-lt (Some (integer d)) a e = cc
app_in-lt (Some (float d)) a e = cc
app_in-lt (Some (boolean d)) a e = cc
app_in-lt (Some (datetime d)) a e = cc
app_in-lt (Some (array d)) a e = cc
app_in-lt (Some (table d)) a e = cc
app_in-lt None a e = cc

apps_small : (bius : ℕ) (t : Members) → bius ≤ 16 → HasEach bius (λ app. app < 3) (apps_of t)
unfolding apps_of
apps_small bius t most = record {
  enough = let many = length-map-range_with_len (app_at t) 0 16 in omega (arith, many);
  each = all_made (λ app. app < 3) (app_at t) 16 (λ i. below_3 (app_in (item_at (codes "apps") i t)) (λ a e. app_in-lt (item_at (codes "apps") i t) a e));
}

-- The clocks.
starts_early : (bus : Bus) (t : Members) → list_all (is_clock bus.shape) (entries_at (codes "clock") t) ≡ true
    → (name : NodeName) → (clock_for bus t name).start ≤ 1000000000000
starts_early bus t h name =
    let es = entries_at (codes "clock") t in
    let p : Members → Bool = λ e. is_node name (node_at bus.shape (codes "node") e) in
    let go : (o : Option Members) → o ≡ find p es → (timeline_of bus.plan.u (unwrap_or o no_members)).start ≤ 1000000000000 = λ o. elim o as (λ o. o ≡ find p es → (timeline_of bus.plan.u (unwrap_or o no_members)).start ≤ 1000000000000) [
      | None ↦ λ is. omega arith
      | Some e ↦ λ is.
          let passes = found_passes p (is_clock bus.shape) es e is h in
          let start : may_have_number (codes "start") 0 1000000000000 e ≡ true = (and_parts _ _ (and_parts _ _ passes).0).1 in
          (absent_or-bounds 0 1000000000000 0 (get_member (codes "start") e) (omega arith) (omega arith) start).1
    ] in go (find p es) refl

all_early : (side : Side) (count : ℕ) (bus : Bus) (t : Members) → list_all (is_clock bus.shape) (entries_at (codes "clock") t) ≡ true
    → All (λ c. c.start ≤ 1000000000000) (kind_clocks side count bus t)
all_early side count bus t h = all_made (λ c. c.start ≤ 1000000000000) (λ i. clock_for bus t (name_of side i)) count (λ i. starts_early bus t h (name_of side i))

clocks_are : (bus : Bus) (t : Members) → list_all (is_clock bus.shape) (entries_at (codes "clock") t) ≡ true
    → (length (clocks_of bus t) ≡ bus.shape.bius + bus.shape.rmus) × All (λ c. c.start ≤ 1000000000000) (clocks_of bus t)
unfolding clocks_of
clocks_are bus t h = (
  length-append (kind_clocks Biu bus.shape.bius bus t) (kind_clocks Rmu bus.shape.rmus bus t)
      ∙ ap (λ n. n + length (kind_clocks Rmu bus.shape.rmus bus t)) (length-map-range_with_len (λ i. clock_for bus t (name_of Biu i)) 0 bus.shape.bius)
      ∙ ap (λ n. bus.shape.bius + n) (length-map-range_with_len (λ i. clock_for bus t (name_of Rmu i)) 0 bus.shape.rmus),
  All-append (λ c. c.start ≤ 1000000000000) (kind_clocks Biu bus.shape.bius bus t) (kind_clocks Rmu bus.shape.rmus bus t)
      (all_early Biu bus.shape.bius bus t h) (all_early Rmu bus.shape.rmus bus t h),
)

clocks_keep : (plan : Plan) (clocks : List Timeline) → All (λ c. c.start ≤ 1000000000000) clocks → keep_time plan clocks ≡ true
    → All (IsClock (shortest_of plan) (longest_of plan)) clocks
clocks_keep plan clocks early h k d lt =
    let parts = and_parts _ _ (AllPass-from_list_all (keeps_time plan) clocks h k d lt) in
    record { start = early k d lt; rising = parts.0; within = parts.1 }

starts_are : (bound : ℕ) (clocks : List Timeline) → start_together bound clocks ≡ true → All (λ a. All (λ b. a.start ≤ b.start + bound) clocks) clocks
unfolding start_together
starts_are bound clocks h k d lt j e lt' =
    let outer = AllPass-from_list_all (λ a. list_all (λ b. nat_le (a.start - b.start) bound) clocks) clocks h k d lt in
    let inner = AllPass-from_list_all (λ b. nat_le ((get_or clocks k d).start - b.start) bound) clocks outer j e lt' in
    let close = leb-true ((get_or clocks k d).start - (get_or clocks j e).start) bound inner in
    omega arith

-- The onsets.
onset_in : (bus : Bus) (t : Members) (sc : Scenario) → sc.frames ≡ bus.frames → sc.sizes ≡ bus.shape → 1 ≤ bus.frames
    → list_all (is_fault bus) (entries_at (codes "fault") t) ≡ true → (name : NodeName) → IsOnsetOf sc (onset_for bus t name)
onset_in bus t sc frames sizes some h name =
    let es = entries_at (codes "fault") t in
    let p : Members → Bool = λ e. is_node name (node_at bus.shape (codes "node") e) in
    let go : (o : Option Members) → o ≡ find p es → IsOnsetOf sc (option_map onset_of o) = λ o. elim o as (λ o. o ≡ find p es → IsOnsetOf sc (option_map onset_of o)) [
      | None ↦ λ is. tt
      | Some e ↦ λ is.
          let passes = found_passes p (is_fault bus) es e is h in
          let has_frame : has_number (codes "frame") 0 (bus.frames - 1) e ≡ true = (and_parts _ _ (and_parts _ _ passes).0).1 in
          let has_slot : has_number (codes "slot") 0 (sync_slot_of bus.shape) e ≡ true = (and_parts _ _ passes).1 in
          let frame : number_at (codes "frame") 0 e ≤ bus.frames - 1 = (passes-bounds 0 (bus.frames - 1) 0 (get_member (codes "frame") e) has_frame).1 in
          let slot : number_at (codes "slot") 0 e ≤ sync_slot_of bus.shape = (passes-bounds 0 (sync_slot_of bus.shape) 0 (get_member (codes "slot") e) has_slot).1 in
          let same : sync_slot_of sc.sizes ≡ sync_slot_of bus.shape = ap sync_slot_of sizes in
          (omega arith, omega arith)
    ] in go (find p es) refl

onsets_in : (side : Side) (nodes : ℕ) (bus : Bus) (t : Members) (sc : Scenario) → nodes ≤ 16 → sc.frames ≡ bus.frames → sc.sizes ≡ bus.shape → 1 ≤ bus.frames
    → list_all (is_fault bus) (entries_at (codes "fault") t) ≡ true → HasEach nodes (IsOnsetOf sc) (onsets_of side bus t)
unfolding onsets_of
onsets_in side nodes bus t sc most frames sizes some h = record {
  enough = let many = length-map-range_with_len (λ i. onset_for bus t (name_of side i)) 0 16 in omega (arith, many);
  each = all_made (IsOnsetOf sc) (λ i. onset_for bus t (name_of side i)) 16 (λ i. onset_in bus t sc frames sizes some h (name_of side i));
}

-- a scenario that keeps all rules is lawful
pub lawful : (bus : Bus) (t : Members) → IsBus bus → fits_bus bus t ≡ true → AllKept (scenario_on bus t) → IsLawful (scenario_on bus t)
lawful bus t is fits kept =
    let sc = scenario_on bus t in
    let parts = fit_parts bus t fits in
    let clocks = clocks_are bus t parts.clocks in
    let delays = and_parts _ _ kept.delays in
    let base = and_parts _ _ delays.0 in
    let few2 = and_parts _ _ kept.few in
    let few1 = and_parts _ _ few2.0 in
    let feasible : IsFeasible sc.sizes sc.plan = (feasible_exactly sc.sizes sc.plan).0 kept.plan in
    let ruled : All (LinkLaw bus) sc.delays.rules = all_read (LinkLaw bus) (is_link bus) (rule_of bus) (entries_at (codes "link") t) (link_law bus) parts.links in
    record {
      sizes = is.shape;
      plan = is.plan;
      version = is.version;
      feasible = feasible;
      frames = is.frames;
      requests = requests_small bus.shape.bius t is.shape.most_bius parts.lists;
      words = words_small bus.shape.bius t is.shape.most_bius parts.lists;
      apps = apps_small bus.shape.bius t is.shape.most_bius;
      one_clock_each = clocks.0;
      clocks = clocks_keep sc.plan sc.clocks clocks.1 kept.clocks;
      starts = starts_are sc.plan.p sc.clocks kept.starts;
      base_delay = record { least = leb-true sc.plan.dmin sc.delays.base base.0; greatest = leb-true sc.delays.base sc.plan.dmax base.1 };
      rules = λ k d lt.
          let law = ruled k d lt in
          let delay = and_parts _ _ (AllPass-from_list_all (λ r. is_delay sc.plan r.delay) sc.delays.rules delays.1 k d lt) in
          record {
            from = law.from;
            to = law.to;
            unlike_kinds = law.unlike_kinds;
            frames = law.frames;
            slots = law.slots;
            stages = law.stages;
            delay = record { least = leb-true _ _ delay.0; greatest = leb-true _ _ delay.1 };
          };
      biu_onsets = onsets_in Biu bus.shape.bius bus t sc is.shape.most_bius refl refl is.frames.0 parts.faults;
      rmu_onsets = onsets_in Rmu bus.shape.rmus bus t sc is.shape.most_rmus refl refl is.frames.0 parts.faults;
      few_rules = leb-true (length sc.delays.rules) 4096 few1.1;
      few_segments = leb-true (segments_of_all sc.clocks) 4096 few2.1;
    }

-- what faulty nodes do is what the entries list
pub are_listed : (bus : Bus) (t : Members) → IsBus bus → fits_bus bus t ≡ true → AllKept (scenario_on bus t) → IsListed (scenario_on bus t)
are_listed bus t is fits kept =
    let sc = scenario_on bus t in
    let parts = fit_parts bus t fits in
    let inside = sends_inside_all sc.sizes sc.plan is.plan ((feasible_exactly sc.sizes sc.plan).0 kept.plan) in
    let said : All (SayLaw bus) sc.says = all_read (SayLaw bus) (is_say bus) (say_of bus) (entries_at (codes "say") t) (say_law bus is.plan inside) parts.says in
    record {
      behavior = λ me i span j. refl;
      says = λ k d lt.
          let law = said k d lt in
          let faulty = AllPass-from_list_all (λ say. not (is_node_good sc say.from say.frames.0 say.slots.0)) sc.says kept.says k d lt in
          record {
            from = law.from;
            faulty = not-true _ faulty;
            to = law.to;
            unlike_kinds = law.unlike_kinds;
            frames = law.frames;
            slots = law.slots;
            stages = law.stages;
            tail = law.tail;
            offset = law.offset;
            early = law.early;
            early_in_sync = law.early_in_sync;
            content = law.content;
          };
      few = leb-true (length sc.says) 1024 (and_parts _ _ (and_parts _ _ kept.few).0).0;
    }

pub lawful_result : {X E : Type 0} (as_scenario : X → Scenario) (bus : Bus) (t : Members) (r : Result X E) → IsBus bus → fits_bus bus t ≡ true
    → IfOk r (λ s. as_scenario s ≡ scenario_on bus t) → IfOk r (λ _. broken_by (scenario_on bus t) ≡ None)
    → IfOk r (λ s. IsLawful (as_scenario s)) × IfOk r (λ s. IsListed (as_scenario s))
lawful_result as_scenario bus t (Err e) is fits same unbroken = (unbroken, unbroken)
lawful_result as_scenario bus t (Ok s) is fits same unbroken =
    let kept = kept_from_none (scenario_on bus t) unbroken in
    (subst IsLawful (sym same) (lawful bus t is fits kept), subst IsListed (sym same) (are_listed bus t is fits kept))
