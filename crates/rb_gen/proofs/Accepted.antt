-- The table of a generated scenario's text breaks no rule.
use Rattle.std.proofs.{Common.{◌≡◌, ℕ, ◌+◌, ◌-◌, ◌/◌, ◌<◌, ◌≤◌, ◌&&◌, nat_le, not, Bool, true, false, List, [], ◌∷◌, map, get_or, Option, None, is_some, codes, refl, sym, ap, ◌∙◌, subst, arith}, Math.Nat.mod-lt, lemmas.Bool.{and_from, and_parts, false≢true, le-leb}, lemmas.List.Sums.list_all-from_AllPass, lemmas.List.FromFn.{get_or-map-range_with_len, length-map-range_with_len}}
use Rattle.std.specs.{Fmt.digits, List.list_all}
use Rattle.toml.specs.Data.{Members, get_member}
use Rattle.rb_base.specs.Counting.{numbers}
use Rattle.rb_rules.specs.{declared.link.Rule.Rule, declared.say.Say.Say, Lawful.is_node_good, Clock.{Timeline, are_rising, are_within}}
use Rattle.rb_scenario_document.specs.{Fields.{clock_fields, fault_fields, link_fields, root_fields, say_fields}, Forms.{has_unknown_key, is_array_of, has_wrong_form, lacks_key}, Names.{named, node_at, pattern_at}, Values.{has_number, may_have_number, may_have_range}, Walk.{absent_or, entries_at, passes}}
use Rattle.rb_scenario_entries.specs.{declared.refusal.Refusal.Refusal, Bus.{bus_of, has_bus}, Clocks.{has_clocks, is_clock, is_segment, keeps_time}, Faults.has_faults, Links.{are_apart, is_link}, Says.{content_in, is_say}}
use Rattle.rb_scenario.specs.{Acceptance.{Says, as_scenario, broken_by, first_broken, or_else}, declared.scenario.Scenario.Scenario as Read, Hosts.has_lists, Reading.{fits_bus, is_in_range, scenario_of as scenario_said}, Rules.{are_delays, are_sayers_faulty, is_delay, keep_time, start_together}}
use Rattle.rb_gen.specs.{Generated.{clock_of, delay_on, plan, rmu_onset, rule_of, say_to, scenario_of, sizes, start_of, tick_of}, Table.{clock_table, link_table, table_of}, Text.node_at as node_numbered}
use Rattle.rb_gen.proofs.{GeneratedIsLawful.{clock_is, not_before_itself, start_small}, Read.{bus_in, same_bus, same_scenario}}

-- ---- tests over lists

each_passes : {X : Type 0} (p : X → Bool) (f : ℕ → X) (n : ℕ) → ((i : ℕ) → i < n → p (f i) ≡ true) → list_all p (map f (numbers n)) ≡ true
each_passes p f n passes = list_all-from_AllPass p (map f (numbers n)) (λ k d lt.
    let at : 0 + k ≡ k = omega arith in
    let inside : k < n = omega (arith, lt, length-map-range_with_len f 0 n) in
    ap p (get_or-map-range_with_len f 0 n k k d inside at) ∙ passes k inside)

both_pass : {X : Type 0} (p q : X → Bool) (xs : List X) → list_all p xs ≡ true → list_all q xs ≡ true → list_all (λ x. p x && q x) xs ≡ true
both_pass p q [] hp hq = refl
both_pass p q (x ∷ xs) hp hq =
    let this = and_parts (p x) (list_all p xs) hp in
    let that = and_parts (q x) (list_all q xs) hq in
    and_from (p x && q x) (list_all (λ x. p x && q x) xs) (and_from (p x) (q x) this.0 that.0) (both_pass p q xs this.1 that.1)

within : (low high n : ℕ) → low ≤ n → n ≤ high → (nat_le low n && nat_le n high) ≡ true
within low high n least most = and_from (nat_le low n) (nat_le n high) (le-leb low n least) (le-leb n high most)

-- if a rule is kept and the next ones are, none is broken
kept : (b : Bool) (why : Refusal) (next : Option Refusal) → b ≡ true → next ≡ None → or_else b why next ≡ None
kept true why next h e = e
kept false why next h e = absurd (false≢true h)

-- ---- the rules on keys and forms

no_key_lacks : (drawn : List ℕ) (frames : ℕ) → lacks_key (table_of (scenario_of drawn frames)) ≡ false
unfolding lacks_key table_of scenario_of root_fields clock_fields link_fields fault_fields say_fields
no_key_lacks drawn frames = refl

no_key_is_unknown : (drawn : List ℕ) (frames : ℕ) → has_unknown_key (table_of (scenario_of drawn frames)) ≡ false
unfolding has_unknown_key table_of scenario_of root_fields clock_fields link_fields fault_fields say_fields
no_key_is_unknown drawn frames = refl

no_form_is_wrong : (drawn : List ℕ) (frames : ℕ) → has_wrong_form (table_of (scenario_of drawn frames)) ≡ false
unfolding has_wrong_form table_of scenario_of root_fields clock_fields link_fields fault_fields say_fields
no_form_is_wrong drawn frames = refl

-- ---- the rules on ranges

-- the tables of the 13 nodes' clocks, by number
clock_entries : List ℕ → List Members
clock_entries drawn = map (λ i. clock_table (node_numbered i) (clock_of drawn i)) (numbers 13)

lists_fit : (drawn : List ℕ) (frames : ℕ) → let t = table_of (scenario_of drawn frames) in
    (has_lists 8 t && may_have_number (codes "delay") 1 1000000000 t) ≡ true
unfolding table_of scenario_of
lists_fit drawn frames = refl

clocks_fit : (drawn : List ℕ) (frames : ℕ) → has_clocks (bus_in frames) (table_of (scenario_of drawn frames)) ≡ true
unfolding table_of scenario_of named digits
clocks_fit drawn frames =
    let entry : ℕ → Members = λ i. clock_table (node_numbered i) (clock_of drawn i) in
    let are_named : Members → Bool = λ e. is_some (node_at sizes (codes "node") e) in
    let may_start : Members → Bool = λ e. may_have_number (codes "start") 0 1000000000000 e in
    let may_tick : Members → Bool = λ e. absent_or (is_array_of is_segment) (get_member (codes "ticks") e) in
    and_from (list_all (is_clock sizes) (map entry (numbers 13))) _
    (both_pass (λ e. are_named e && may_start e) may_tick (map entry (numbers 13))
    (both_pass are_named may_start (map entry (numbers 13)) refl
    (each_passes may_start entry 13 (λ i lt. within 0 1000000000000 (start_of drawn i) (omega arith) (omega (arith, start_small drawn i)))))
    (each_passes may_tick entry 13 (λ i lt.
    and_from (nat_le 1 (tick_of drawn i) && nat_le (tick_of drawn i) 2000000) true (within 1 2000000 (tick_of drawn i) (omega arith) (omega arith)) refl)))
    refl

links_fit : (drawn : List ℕ) (frames : ℕ) → list_all (is_link (bus_in frames)) (entries_at (codes "link") (table_of (scenario_of drawn frames))) ≡ true
unfolding table_of scenario_of named digits
links_fit drawn frames =
    let entry : ℕ → Members = λ i. link_table (rule_of drawn frames i) in
    let entries = map entry (numbers 80) in
    let apart : Members → Bool = λ e. are_apart (pattern_at sizes (codes "from") e) (pattern_at sizes (codes "to") e) in
    let delay : Members → Bool = λ e. has_number (codes "delay") 1 1000000000 e in
    let in_frames : Members → Bool = λ e. may_have_range (codes "frames") 0 (frames - 1) e in
    let in_slots : Members → Bool = λ e. may_have_range (codes "slots") 0 37 e in
    let in_stages : Members → Bool = λ e. may_have_range (codes "stages") 1 3 e in
    both_pass (λ e. apart e && delay e && in_frames e && in_slots e) in_stages entries
    (both_pass (λ e. apart e && delay e && in_frames e) in_slots entries
    (both_pass (λ e. apart e && delay e) in_frames entries
    (both_pass apart delay entries refl (each_passes delay entry 80 (λ i lt. within 1 1000000000 (delay_on drawn i) (omega arith) (omega arith))))
    refl) refl) refl

faults_fit : (drawn : List ℕ) (frames : ℕ) → 1 ≤ frames → has_faults (bus_in frames) (table_of (scenario_of drawn frames)) ≡ true
unfolding table_of scenario_of named digits
faults_fit drawn frames some =
    let silent : (rmu_onset drawn frames).0 < frames = mod-lt (get_or drawn 0 0) some in
    let halfway : (nat_le 0 (frames / 2) && nat_le (frames / 2) (frames - 1)) ≡ true = within 0 (frames - 1) (frames / 2) (omega arith) (omega (arith, some)) in
    let drawn_one : (nat_le 0 (rmu_onset drawn frames).0 && nat_le (rmu_onset drawn frames).0 (frames - 1)) ≡ true = within 0 (frames - 1) (rmu_onset drawn frames).0 (omega arith) (omega (arith, silent)) in
    rw (halfway, drawn_one) refl

says_fit : (drawn : List ℕ) (frames : ℕ) → 1 ≤ frames → list_all (is_say (bus_in frames)) (entries_at (codes "say") (table_of (scenario_of drawn frames))) ≡ true
unfolding table_of scenario_of named digits is_say content_in plan
says_fit drawn frames some =
    let halfway : (nat_le 0 (frames / 2) && nat_le (frames / 2) (frames - 1)) ≡ true = within 0 (frames - 1) (frames / 2) (omega arith) (omega (arith, some)) in
    let itself : nat_le (frames / 2) (frames / 2) ≡ true = le-leb (frames / 2) (frames / 2) (omega arith) in
    rw (halfway, itself) refl

bus_fits : (drawn : List ℕ) (frames : ℕ) → 1 ≤ frames → frames ≤ 4096 → has_bus (table_of (scenario_of drawn frames)) ≡ true
unfolding has_bus table_of scenario_of
bus_fits drawn frames some most =
    let run : (nat_le 1 frames && nat_le frames 4096) ≡ true = within 1 4096 frames some most in
    and_from (nat_le 1 frames && nat_le frames 4096) true run refl

all_fit : (drawn : List ℕ) (frames : ℕ) → 1 ≤ frames → fits_bus (bus_in frames) (table_of (scenario_of drawn frames)) ≡ true
unfolding fits_bus
all_fit drawn frames some =
    let t = table_of (scenario_of drawn frames) in
    and_from _ _ (and_from _ _ (and_from _ _ (and_from _ _ (lists_fit drawn frames) (clocks_fit drawn frames)) (links_fit drawn frames)) (faults_fit drawn frames some))
    (says_fit drawn frames some)

in_range : (drawn : List ℕ) (frames : ℕ) → 1 ≤ frames → frames ≤ 4096 → is_in_range (table_of (scenario_of drawn frames)) ≡ true
in_range drawn frames some most =
    let t = table_of (scenario_of drawn frames) in
    and_from (has_bus t) (fits_bus (bus_of t) t) (bus_fits drawn frames some most)
    (ap (λ bus. fits_bus bus t) (same_bus drawn frames) ∙ all_fit drawn frames some)

-- ---- the rules on a scenario

all_keep_time : (drawn : List ℕ) → keep_time plan (map (clock_of drawn) (numbers 13)) ≡ true
unfolding plan
all_keep_time drawn =
    each_passes (keeps_time plan) (clock_of drawn) 13 (λ i lt.
    let is = clock_is drawn i in and_from (are_rising (clock_of drawn i).segments) (are_within 9999 10001 (clock_of drawn i).segments) is.rising is.within)

all_delays_are : (drawn : List ℕ) (frames : ℕ) → are_delays plan (scenario_of drawn frames).delays ≡ true
unfolding plan scenario_of
all_delays_are drawn frames =
    and_from (is_delay plan 10000) (list_all (λ r. is_delay plan r.delay) (map (rule_of drawn frames) (numbers 80))) refl
    (each_passes (λ (r : Rule). is_delay plan r.delay) (rule_of drawn frames) 80 (λ i lt. within 5000 15000 (delay_on drawn i) (omega arith) (omega arith)))

all_start_together : (drawn : List ℕ) → start_together 60200 (map (clock_of drawn) (numbers 13)) ≡ true
unfolding start_together
all_start_together drawn =
    let clocks = map (clock_of drawn) (numbers 13) in
    each_passes (λ (a : Timeline). list_all (λ b. nat_le (a.start - b.start) 60200) clocks) (clock_of drawn) 13 (λ i lt.
    each_passes (λ (b : Timeline). nat_le (start_of drawn i - b.start) 60200) (clock_of drawn) 13 (λ j lt'.
    le-leb (start_of drawn i - start_of drawn j) 60200 (omega (arith, start_small drawn i))))

all_sayers_are_faulty : (drawn : List ℕ) (frames : ℕ) → are_sayers_faulty (scenario_of drawn frames) ≡ true
unfolding scenario_of
all_sayers_are_faulty drawn frames =
    each_passes (λ (say : Say). not (is_node_good (scenario_of drawn frames) say.from say.frames.0 say.slots.0)) (say_to frames) 4
    (λ i lt. ap not (not_before_itself (frames / 2)))

unbroken : (drawn : List ℕ) (frames : ℕ) → broken_by (scenario_of drawn frames) ≡ None
unfolding broken_by scenario_of plan
unbroken drawn frames =
    kept (keep_time plan (map (clock_of drawn) (numbers 13))) _ _ (all_keep_time drawn)
    (kept (are_delays plan (scenario_of drawn frames).delays) _ _ (all_delays_are drawn frames)
    (kept (start_together 60200 (map (clock_of drawn) (numbers 13))) _ _ (all_start_together drawn)
    (kept (are_sayers_faulty (scenario_of drawn frames)) _ _ (all_sayers_are_faulty drawn frames) refl)))

-- ---- all rules

pub table_breaks_no_rule : (drawn : List ℕ) (frames : ℕ) → 1 ≤ frames → frames ≤ 4096 → first_broken (table_of (scenario_of drawn frames)) ≡ None
unfolding first_broken
table_breaks_no_rule drawn frames some most =
    let t = table_of (scenario_of drawn frames) in
    kept (not (lacks_key t)) _ _ (ap not (no_key_lacks drawn frames))
    (kept (not (has_unknown_key t)) _ _ (ap not (no_key_is_unknown drawn frames))
    (kept (not (has_wrong_form t)) _ _ (ap not (no_form_is_wrong drawn frames))
    (kept (is_in_range t) _ _ (in_range drawn frames some most)
    (ap broken_by (same_scenario drawn frames) ∙ unbroken drawn frames))))

-- the table of a scenario's text says the scenario
pub said_by_its_table : (a : Read) (drawn : List ℕ) (frames : ℕ) → as_scenario a ≡ scenario_of drawn frames → 1 ≤ frames → frames ≤ 4096
    → Says (table_of (as_scenario a)) a
unfolding table_of
said_by_its_table a drawn frames is some most = record {
  unbroken = subst (λ sc. first_broken (table_of sc) ≡ None) (sym is) (table_breaks_no_rule drawn frames some most);
  scenario = is ∙ sym (ap (λ sc. scenario_said (table_of sc)) is ∙ same_scenario drawn frames);
}
