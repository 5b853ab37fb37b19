-- What the windows of a node bring in frames in which it is good and nothing is said to it.
use Rattle.std.proofs.{Common.{◌≡◌, ℕ, ◌+◌, ◌<◌, ◌⊎◌, ◌&&◌, ◌||◌, nat_lt, Bool, true, false, Some, None, List, [], get_or, refl, sym, ap, ◌∙◌, subst, arith, inl, inr}, lemmas.Bool.{lt-ltb, or_cases}, lemmas.Bool.Decides.nat_tests}
use Rattle.std.specs.{Prelude.{◌==◌, Option, length, unwrap_or}, List.list_any}
use Rattle.rb_base.specs.{Nodes.Side, Nodes.Side.{Biu, Rmu}, Sizes.Sizes, declared.node.NodeName.NodeName, declared.values.Place.Place}
use Rattle.rb_node.specs.{Acts.span_in, declared.act.Span.Span as Stretch}
use Rattle.rb_queue.specs.Waiting.{Held}
use Rattle.rb_world_onset.specs.Faults.{Faults, faults_of}
use Rattle.rb_plan.specs.Timetable.{Timetable}
use Rattle.rb_rules.specs.{declared.plan.Plan.Plan, declared.say.Say.Say, Book.Each, Clock.Timeline, Conviction.turn, Core.{is_tick, state_at, window_here}, Entries.IsListed, Goodness.{Scenario, clock_of, is_before, is_good, onsets_of}, Hearing.{Span, span_of}, Lawful.{IsLawful, kind_of}, Links.{DelayRules, name_of}, NodeState.NodeState, NodeSteps.turn_if_known, Slots.count_of, SyncStage.new_epoch_of, WorldStep.{Site, await, proceed, says_in, span_from}}
use Rattle.rb_world_traffic.specs.{Arriving.number_of, Saying.{KeptSayings, SaysTo, entries_for, first_frame, is_for, kept_of, last_frame}}
use Rattle.rb_world_traffic.proofs.Says.{none-after, none-before, none-for, number-of, says-are}
use Rattle.rb_world.specs.{Buses.{HasSaid, IsBus, bus_of, scenario_of, with_said}, Calm.{AreRestless, first_restless, is_calm, is_outside, last_restless}, declared.calm.Restless.Restless}
use Rattle.rb_world.proofs.{Lanes.{kind-named, node-named}, Onward.{goes-in, goes-on}}

-- The frame of a window.

-- a node that turns stands in the next frame, and any other in its own
turned-frame : (sizes : Sizes) (me : Side) (probation : ℕ) (st : NodeState) (o : Option ℕ)
    → ((elim o as (λ _. NodeState) [ None ↦ st | Some epoch ↦ turn sizes probation me epoch st ]).frame ≡ st.frame)
    ⊎ ((elim o as (λ _. NodeState) [ None ↦ st | Some epoch ↦ turn sizes probation me epoch st ]).frame ≡ st.frame + 1)
unfolding turn
turned-frame sizes me probation st None = inl refl
turned-frame sizes me probation st (Some epoch) = inr refl

-- at a tick a node is in its own frame or in the next one
at-tick : (sizes : Sizes) (plan : Plan) (me : Side) (st : NodeState) (k : ℕ) (b : Bool) → is_tick (new_epoch_of plan me st) k ≡ b
    → ((state_at sizes plan me st k).frame ≡ st.frame) ⊎ ((state_at sizes plan me st k).frame ≡ st.frame + 1)
unfolding state_at
at-tick sizes plan me st k true e =
    subst (λ b. ((elim b as (λ _. NodeState) [ true ↦ turn_if_known sizes plan me st | false ↦ st ]).frame ≡ st.frame)
    ⊎ ((elim b as (λ _. NodeState) [ true ↦ turn_if_known sizes plan me st | false ↦ st ]).frame ≡ st.frame + 1)) (sym e)
    (turned-frame sizes me plan.probation st (new_epoch_of plan me st))
at-tick sizes plan me st k false e =
    inl (ap (λ b. (elim b as (λ _. NodeState) [ true ↦ turn_if_known sizes plan me st | false ↦ st ]).frame) e)

some-same : {X : Type 0} (d a b : X) → Some a ≡ Some b → a ≡ b
some-same d a b e = ap (λ o. unwrap_or o d) e

-- a window that starts is one of the node's frame, or of the next
span-if : (b : Bool) (now : Span) (span : Span) → (elim b as (λ _. Option Span) [ true ↦ Some now | false ↦ None ]) ≡ Some span → now ≡ span
span-if true now span e = some-same now now span e
span-if false now span e = let never : None ≡ Some span = e in absurd cc

pub span-frame : (sizes : Sizes) (plan : Plan) (me : Side) (st : NodeState) (k : ℕ) (span : Span) → span_from sizes plan me st k ≡ Some span
    → (span.place.frame ≡ st.frame) ⊎ (span.place.frame ≡ st.frame + 1)
span-frame sizes plan me st k span e =
    let now = state_at sizes plan me st k in
    let here : Span = span_of now (window_here sizes plan me now k) in
    let same : here ≡ span = span-if (here.first == k) here span e in
    let frame : span.place.frame ≡ now.frame = sym (ap (λ (s : Span). s.place.frame) same) in
    elim (at-tick sizes plan me st k (is_tick (new_epoch_of plan me st) k) refl) [ inl f ↦ inl (frame ∙ f) | inr f ↦ inr (frame ∙ f) ]

-- Outside of the frames in which a node is restless.

-- the frame is before `first` or after `last`
abbrev pub IsOut : ℕ → ℕ → ℕ → Type 0
IsOut first last g = (g < first) ⊎ (last < g)

pub out-of : (first last frame g : ℕ) → is_outside first last frame ≡ true → (g ≡ frame) ⊎ (g ≡ frame + 1) → IsOut first last g
out-of first last frame g outside is =
    elim (or_cases (nat_lt (frame + 1) first) (nat_lt last frame) outside) [
      | inl before ↦
          let lt : frame + 1 < first = grind (arith, nat_tests, before) in
          inl (elim is [ inl e ↦ omega (arith, e, lt) | inr e ↦ omega (arith, e, lt) ])
      | inr after ↦
          let lt : last < frame = grind (arith, nat_tests, after) in
          inr (elim is [ inl e ↦ omega (arith, e, lt) | inr e ↦ omega (arith, e, lt) ])
    ]

-- a node is good in a frame outside its restless ones
good-out : (o : Option (ℕ × ℕ)) (first last g slot : ℕ) → g < 4294967297 → IsOut (first_restless o first) (last_restless o last) g → is_before o g slot ≡ true
good-out None first last g slot small out = refl
good-out (Some onset) first last g slot small out =
    elim out [
      | inl before ↦
          let earlier : nat_lt g onset.0 ≡ true = grind (arith, nat_tests, before) in
          ap (λ b. b || ((g == onset.0) && nat_lt slot onset.1)) earlier
      | inr after ↦ absurd (omega (arith, after, small))
    ]

-- no entry is for a place outside the restless frames
unsaid-out : (o : Option (ℕ × ℕ)) (says : List Say) (place : Place) → place.frame < 4294967297 → IsOut (first_restless o (first_frame says)) (last_restless o (last_frame says)) place.frame
    → list_any (is_for place) says ≡ false
unsaid-out None says place small out = elim out [ inl before ↦ none-before says place before | inr after ↦ none-after says place after ]
unsaid-out (Some onset) says place small out =
    elim out [
      | inl before ↦ let earlier : place.frame < first_frame says = omega (arith, before) in none-before says place earlier
      | inr after ↦ absurd (omega (arith, after, small))
    ]

-- A calm node.

pub calm-good : (sc : Scenario) (me : Side) (i : ℕ) (span : Span) (frame : ℕ) → is_calm sc me i frame ≡ true → i < count_of me sc.sizes → frame < 4294967296
    → (span.place.frame ≡ frame) ⊎ (span.place.frame ≡ frame + 1) → is_good sc me i span.place.frame span.place.slot ≡ true
calm-good sc me i span frame calm within small is =
    let o = get_or (onsets_of me sc) i None in
    let says = entries_for (kept_of sc) (name_of me i) in
    let few : span.place.frame < 4294967297 = elim is [ inl e ↦ omega (arith, e, small) | inr e ↦ omega (arith, e, small) ] in
    let out = out-of (first_restless o (first_frame says)) (last_restless o (last_frame says)) frame span.place.frame calm is in
    ap (λ b. b && is_before o span.place.frame span.place.slot) (lt-ltb i (count_of me sc.sizes) within)
    ∙ good-out o (first_frame says) (last_frame says) span.place.frame span.place.slot few out

pub calm-unsaid : (sc : Scenario) → IsLawful sc → IsListed sc → (me : Side) (i : ℕ) (span : Span) (frame : ℕ) → is_calm sc me i frame ≡ true → i < count_of me sc.sizes → frame < 4294967296
    → (span.place.frame ≡ frame) ⊎ (span.place.frame ≡ frame + 1) → says_in sc me i span ≡ []
calm-unsaid sc lawful listed me i span frame calm within small is =
    let to : NodeName = name_of me i in
    let o = get_or (onsets_of me sc) i None in
    let says : List Say = entries_for (kept_of sc) to in
    let few : span.place.frame < 4294967297 = elim is [ inl e ↦ omega (arith, e, small) | inr e ↦ omega (arith, e, small) ] in
    let out = out-of (first_restless o (first_frame says)) (last_restless o (last_frame says)) frame span.place.frame calm is in
    sym (ap (λ k. says_in sc k (number_of to) span) (kind-named me i) ∙ ap (λ n. says_in sc me n span) (number-of me i))
    ∙ says-are sc lawful listed to (node-named sc me i within) span
    ∙ none-for sc (clock_of sc (kind_of to) (number_of to)) span says (unsaid-out o says span.place few out)

pub calm-awaits : (sc : Scenario) → IsLawful sc → IsListed sc → (me : Side) (i : ℕ) (s : Site) → is_calm sc me i s.core.state.frame ≡ true → i < count_of me sc.sizes → s.core.state.frame < 4294967296
    → proceed sc me i s ≡ await sc me i [] s
calm-awaits sc lawful listed me i s calm within small =
    let go : (o : Option Span) → span_from sc.sizes sc.plan me s.core.state s.core.had ≡ o → proceed sc me i s ≡ await sc me i [] s =
    λ o. elim o as (λ o. span_from sc.sizes sc.plan me s.core.state s.core.had ≡ o → proceed sc me i s ≡ await sc me i [] s) [
      | None ↦ λ e. goes-on sc me i s e
      | Some span ↦ λ e.
          let frame = span-frame sc.sizes sc.plan me s.core.state s.core.had span e in
          goes-in sc me i span s e (calm-good sc me i span s.core.state.frame calm within small frame)
          ∙ ap (λ more. await sc me i more s) (calm-unsaid sc lawful listed me i span s.core.state.frame calm within small frame)
    ] in
    go (span_from sc.sizes sc.plan me s.core.state s.core.had) refl

-- What is kept.

-- the restless frames that are found are those of the scenario
pub found-restless : (sc : Scenario) (me : Side) (count : ℕ) (nodes : List Restless) (sayings : KeptSayings) → count ≡ count_of me sc.sizes → sayings ≡ kept_of sc
    → AreRestless (onsets_of me sc) sayings me count nodes → AreRestless (onsets_of me sc) (kept_of sc) me (count_of me sc.sizes) nodes
found-restless sc me count nodes sayings many kept are =
    subst (λ n. AreRestless (onsets_of me sc) (kept_of sc) me n nodes) many (subst (λ k. AreRestless (onsets_of me sc) k me count nodes) kept are)

-- What is kept of a lawful scenario is kept of the bus.
pub keeps-bus : (sc : Scenario) (plan : Timetable) (frames : ℕ) (requests words apps : List ℕ) (clocks : List Timeline) (delays : DelayRules) (onsets : Faults) (sayings : KeptSayings) (count : ℕ)
    (bius rmus : List Restless) → IsLawful sc → IsListed sc → scenario_of (bus_of plan frames requests words apps clocks delays (faults_of sc) (kept_of sc)) ≡ sc → onsets ≡ faults_of sc → sayings ≡ kept_of sc
    → count ≡ length sc.says → AreRestless sc.biu_onsets (kept_of sc) Biu sc.sizes.bius bius → AreRestless sc.rmu_onsets (kept_of sc) Rmu sc.sizes.rmus rmus
    → IsBus count (scenario_of (bus_of plan frames requests words apps clocks delays onsets sayings)) onsets sayings bius rmus
keeps-bus sc plan frames requests words apps clocks delays onsets sayings count bius rmus lawful listed whole faults kept many of_bius of_rmus =
    let same : scenario_of (bus_of plan frames requests words apps clocks delays onsets sayings) ≡ sc =
    ap (λ o. scenario_of (bus_of plan frames requests words apps clocks delays o sayings)) faults
    ∙ ap (λ k. scenario_of (bus_of plan frames requests words apps clocks delays (faults_of sc) k)) kept ∙ whole in
    subst (λ w. IsBus count w onsets sayings bius rmus) (sym same)
    (record { lawful = lawful; listed = listed; onsets_are = faults; sayings_are = kept; many = many; restless_bius = of_bius; restless_rmus = of_rmus })

-- what the bus says to a node in a window is what the scenario does
pub says-so : (count : ℕ) (sc bus : Scenario) (onsets : Faults) (sayings : KeptSayings) (bius rmus : List Restless) (clock : Timeline) (node : NodeName) (span : Stretch) (before after : Each Held)
    → IsBus count sc onsets sayings bius rmus → sc ≡ bus → clock ≡ clock_of bus (kind_of node) (number_of node) → SaysTo sayings clock node (span_in span) before after
    → (after ≡ with_said bus node span before) × HasSaid bus node span before after
says-so count sc bus onsets sayings bius rmus clock node span before after is same =
    subst (λ b. clock ≡ clock_of b (kind_of node) (number_of node) → SaysTo sayings clock node (span_in span) before after
    → (after ≡ with_said b node span before) × HasSaid b node span before after) same
    (λ at says. (says.lanes sc is.lawful is.listed is.sayings_are at, λ sites holds. says.world sc sites is.lawful is.listed is.sayings_are at holds))
