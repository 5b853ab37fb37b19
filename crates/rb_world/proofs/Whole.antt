-- A tick as a whole.
use Rattle.std.proofs.{Common.{◌≡◌, ℕ, ◌+◌, ◌<◌, ◌≤◌, ◌^◌, ◌==◌, ◌&&◌, not, Bool, true, false, Some, None, Option, All, List, [], get_or, slice_get, refl, sym, ap, ◌∙◌, subst, arith, if◌then◌else◌}, lemmas.Bool.Decides.nat_tests, lemmas.List.Elements.All-nil, lemmas.Option.same_Some}
use Rattle.std.specs.Prelude.{IfSome, length, unwrap_or}
use Rattle.rb_base.specs.{Nodes.{Side, other}, Nodes.Side.{Biu, Rmu}, Sizes.Sizes, declared.node.NodeName.NodeName, declared.values.See.TheVariants.Nothing}
use Rattle.rb_rules.specs.{declared.closing.Closed.Closed, declared.plan.Plan.Plan, declared.record.Epoch.Epoch, Book.{Row, of_kind}, Core.{Act, Core, act_at, epoch_at, is_spent, of_source, pass_to, tick}, Goodness.Scenario, Hearing.{Coming, row_of}, Lawful.kind_of, Links.name_of, NodeState.NodeState, Ports.PortState, Slots.count_of, WorldStep.{Site, World, after_act, coming_from, pass_and_tick, proceed, wants_in, with_close, with_epoch, with_message, word_of}, Hearing.epoch_of}
use Rattle.rb_queue.specs.Waiting.{Held, empty_lane, lane_of, spare_of}
use Rattle.rb_node.specs.{Acts.IsAct, declared.act.Step.Step}
use Rattle.rb_world.specs.{Sites.{KeptSite, after_tick, number_of}, Tells.{IsTicked, row_after, row_at}, declared.scene.Scene.Scene, Steps.{HasRoomFor, MayProceed, MayTick, OthersStay, Proceeds, SeesOnlyNodes, SpansFit, Ticks, closed_if, moved}, Worlds.{IsNode, Surrounds}}
use Rattle.rb_world_traffic.specs.Arriving.{number_of as number_in}
use Rattle.rb_world_traffic.proofs.Says.{number-of}
use Rattle.rb_laws_events.proofs.ToldSoFar.{proceed-core}
use Rattle.rb_world.proofs.{Acting.{act-is, told-around, told_in}, Entering.changed-there, Lanes.kind-named, Seeing.{none-came, tick-sees}, Standing.on-epoch}

-- What a site keeps.

after_tick-keeps : {Y : Type 0} (h : Site → Y) (sc : Scenario) (ports : List PortState) (me : Side) (i : ℕ) (x : Act) (s : Site)
    → ((z : Site) (e : Epoch) → h (with_epoch sc ports me i (Some e) z) ≡ h z) → ((z : Site) (c : Closed) → h (with_close me i x.core.state (Some c) z) ≡ h z)
    → h (after_tick sc ports me i x s) ≡ h (record s { core = x.core })
after_tick-keeps h sc ports me i x s epochs closes = begun x.epoch ∙ closed x.closed
  where
    z : Site
    z = record s { core = x.core }

    closed : (o : Option Closed) → h (with_close me i x.core.state o z) ≡ h z
    closed None = refl
    closed (Some c) = closes z c

    begun : (o : Option Epoch) → h (with_epoch sc ports me i o (with_close me i x.core.state x.closed z)) ≡ h (with_close me i x.core.state x.closed z)
    begun None = refl
    begun (Some e) = epochs (with_close me i x.core.state x.closed z) e

pub after_tick-core : (sc : Scenario) (ports : List PortState) (me : Side) (i : ℕ) (x : Act) (s : Site) → (after_tick sc ports me i x s).core ≡ x.core
after_tick-core sc ports me i x s = after_tick-keeps (λ s. s.core) sc ports me i x s (λ z e. refl) (λ z c. refl)

after_tick-ahead : (sc : Scenario) (ports : List PortState) (me : Side) (i : ℕ) (x : Act) (s : Site) → (after_tick sc ports me i x s).ahead ≡ s.ahead
after_tick-ahead sc ports me i x s = after_tick-keeps (λ s. s.ahead) sc ports me i x s (λ z e. refl) (λ z c. refl)

after_tick-runs : (sc : Scenario) (ports : List PortState) (me : Side) (i : ℕ) (x : Act) (s : Site) → (after_tick sc ports me i x s).runs ≡ s.runs
after_tick-runs sc ports me i x s = after_tick-keeps (λ s. s.runs) sc ports me i x s (λ z e. refl) (λ z c. refl)

after_tick-got : (sc : Scenario) (ports : List PortState) (me : Side) (i : ℕ) (x : Act) (s : Site) (P : Coming → Type 0) → All P s.got → All P (after_tick sc ports me i x s).got
after_tick-got sc ports me i x s P all = begun x.epoch (closed x.closed)
  where
    closed : (o : Option Closed) → All P (with_close me i x.core.state o (record s { core = x.core })).got
    closed None = all
    closed (Some c) = All-nil P

    begun : (o : Option Epoch) → All P (with_close me i x.core.state x.closed (record s { core = x.core })).got
        → All P (with_epoch sc ports me i o (with_close me i x.core.state x.closed (record s { core = x.core }))).got
    begun None h = h
    begun (Some e) h = h

after-is : (sc : Scenario) (ports : List PortState) (me : Side) (i : ℕ) (x : Act) (s : Site) → proceed sc me i (after_tick sc ports me i x s) ≡ after_act sc ports me i x s
unfolding after_act
after-is sc ports me i x s = refl

-- The tick of an epoch.

at-had : (sizes : Sizes) (me : Side) (st : NodeState) (k : ℕ) → IfSome (epoch_at sizes me st k) (λ e. e.tick ≤ k)
at-had sizes me st k = by (st.epoch == k) refl
  where
    by : (b : Bool) → (st.epoch == k) ≡ b → IfSome (elim b as (λ _. Option Epoch) [ true ↦ Some (epoch_of sizes me st) | false ↦ None ]) (λ e. e.tick ≤ k)
    by true e = let same : st.epoch ≡ k = grind (arith, nat_tests, e) in let le : st.epoch ≤ k = omega (arith, same) in le
    by false e = tt

at-epoch : (sizes : Sizes) (plan : Plan) (me : Side) (i : ℕ) (c : Core) (word : ℕ) → IfSome (act_at sizes plan me i c word).epoch (λ e. e.tick ≤ c.had)
unfolding act_at
at-epoch sizes plan me i c word = subst (λ o. IfSome o (λ e. e.tick ≤ c.had)) (sym (on-epoch sizes plan me i c _ _ _)) (at-had sizes me _ c.had)

tick-epoch : (sizes : Sizes) (plan : Plan) (me : Side) (i : ℕ) (c : Core) (word : ℕ) → IfSome (tick sizes plan me i c word).epoch (λ e. e.tick ≤ c.had)
unfolding tick
tick-epoch sizes plan me i c word = by (is_spent c)
  where
    by : (b : Bool) → IfSome (elim b as (λ _. Act) [ true ↦ record { core = c; epoch = None; message = None; closed = None } | false ↦ act_at sizes plan me i c word ]).epoch (λ e. e.tick ≤ c.had)
    by true = tt
    by false = at-epoch sizes plan me i c word

if-less : (o : Option Epoch) (a b : ℕ) → a ≤ b → IfSome o (λ e. e.tick ≤ a) → IfSome o (λ e. e.tick ≤ b)
if-less None a b le h = tt
if-less (Some e) a b le h = let less : e.tick ≤ a = h in let more : e.tick ≤ b = omega (arith, less, le) in more

pub epoch-tick : (sc : Scenario) (ports : List PortState) (me : Side) (i k : ℕ) (c : Core) → c.had ≤ k → k < 2 ^ 31 → IfSome (pass_and_tick sc ports me i k c).epoch (λ e. e.tick ≤ 2 ^ 31)
unfolding pass_and_tick
epoch-tick sc ports me i k c later below =
    let last : (pass_to k c).had ≤ 2 ^ 31 = omega (arith, later, below) in
    if-less (tick sc.sizes sc.plan me i (pass_to k c) (word_of sc ports i (wants_in sc me i (pass_to k c)))).epoch (pass_to k c).had (2 ^ 31) last
    (tick-epoch sc.sizes sc.plan me i (pass_to k c) (word_of sc ports i (wants_in sc me i (pass_to k c))))

-- What is seen.

sees-passed : (sc : Scenario) (ports : List PortState) (me : Side) (i k j : ℕ) (c : Core) (shown : Closed) → of_source c.inbox j ≡ [] → (pass_and_tick sc ports me i k c).closed ≡ Some shown
    → get_or shown.sees j Nothing ≡ Nothing
unfolding pass_and_tick
sees-passed sc ports me i k j c shown none e = tick-sees sc.sizes sc.plan me i (pass_to k c) (word_of sc ports i (wants_in sc me i (pass_to k c))) j shown none e

closed-is : (b : Bool) (shown : Closed) (o : Option Closed) → (if b then Some shown else None) ≡ o → b ≡ true → o ≡ Some shown
closed-is true shown o e h = sym e
closed-is false shown o e h = cc

pub sees-nodes : (sc : Scenario) (me : Side) (i k : ℕ) (site : KeptSite) (scene : Scene) (w : World) (s : Site) (step : Step) (shown : Closed) → MayTick sc me i k site scene w s
    → IsAct shown step (pass_and_tick sc w.ports me i k s.core) → step.closed ≡ true → SeesOnlyNodes sc me shown
sees-nodes sc me i k site scene w s step shown may act is j past =
    let later : s.core.had ≤ k = may.later in
    let below : k < 2 ^ 31 = may.below in
    sees-passed sc w.ports me i k j s.core shown
    (none-came s.core.inbox s.got (count_of (other me) sc.sizes) j (may.at.stands.together (omega (arith, later, below))) may.at.senders past)
    (closed-is step.closed shown (pass_and_tick sc w.ports me i k s.core).closed act.closed is)

-- The parts.

-- the act of the node's next tick
abbrev pub act_of : Scenario → World → Side → KeptSite → ℕ → Site → Act
act_of sc w me site k s = pass_and_tick sc w.ports me (number_of site) k s.core

-- a close of a window other than the tail tells its row
row-told : (sc : Scenario) (ports : List PortState) (me : Side) (i : ℕ) (x : Act) (s : Site) (shown : Closed) → x.closed ≡ Some shown → (shown.place.stage == 4) ≡ false
    → (after_tick sc ports me i x s).row ≡ Some (row_of me i x.core.state (coming_from s.got) shown)
row-told sc ports me i x s shown closed stage =
    begun x.epoch (with_close me i x.core.state x.closed (record s { core = x.core }))
    ∙ ap (λ o. (with_close me i x.core.state o (record s { core = x.core })).row) closed
    ∙ ap (λ b. elim b as (λ _. Option Row) [ true ↦ s.row | false ↦ Some (row_of me i x.core.state (coming_from s.got) shown) ]) stage
  where
    begun : (e : Option Epoch) (z : Site) → (with_epoch sc ports me i e z).row ≡ z.row
    begun None z = refl
    begun (Some e) z = refl

row-kept : (me : Side) (k : KeptSite) (closed : Bool) (before : Option Row) → closed ≡ true → (k.node.shown.place.stage == 4) ≡ false
    → row_after me k closed before ≡ Some (row_at me (number_of k) k.node.seat.state k.times k.node.shown)
row-kept me k closed before is stage =
    let row : Row = row_at me (number_of k) k.node.seat.state k.times k.node.shown in
    ap (λ b. if b && not (k.node.shown.place.stage == 4) then Some row else before) is ∙ ap (λ b. if true && not b then Some row else before) stage

pub told-then : (sc : Scenario) (me : Side) (k : ℕ) (name : NodeName) (site after : KeptSite) (before scene : Scene) (w : World) (s : Site) (step : Step) → name ≡ name_of me (number_of site) → number_of after ≡ number_of site
    → MayTick sc me (number_of site) k site before w s → IsTicked sc w.ports me site after step k s
    → Surrounds sc scene (closed_if sc name (if step.closed then Some after.node.shown else None) (row_at me (number_in name) after.node.seat.state after.times after.node.shown)
    (moved (kind_of name) (number_in name) (with_epoch sc w.ports (kind_of name) (number_in name) step.epoch) w))
    → Surrounds sc scene (told_in sc w me (number_of site) (act_of sc w me site k s))
told-then sc me k name site after before scene w s step named same may ticked around =
    let i : ℕ = number_of site in
    let x : Act = act_of sc w me site k s in
    let shown : Closed = after.node.shown in
    told-around sc me i name scene w s x step shown (row_at me (number_in name) after.node.seat.state after.times shown) named may.at.there ticked.act
    (λ h stage.
    same_Some (row_of me i x.core.state (coming_from s.got) shown) (row_at me (number_of after) after.node.seat.state after.times shown)
    (sym (row-told sc w.ports me i x s shown (closed-is step.closed shown x.closed ticked.act.closed h) stage) ∙ ticked.row ∙ row-kept me after step.closed s.row h stage)
    ∙ ap (λ n. row_at me n after.node.seat.state after.times shown) (same ∙ sym (ap number_in named ∙ number-of me i))) around

pub may-then : (sc : Scenario) (me : Side) (k : ℕ) (site after : KeptSite) (before scene : Scene) (w : World) (s : Site) (step : Step) → number_of after ≡ number_of site
    → MayTick sc me (number_of site) k site before w s → IsTicked sc w.ports me site after step k s → scene.agenda ≡ before.agenda
    → Surrounds sc scene (told_in sc w me (number_of site) (act_of sc w me site k s))
    → MayProceed sc me (number_of site) after scene (told_in sc w me (number_of site) (act_of sc w me site k s)) (after_tick sc w.ports me (number_of site) (act_of sc w me site k s) s)
may-then sc me k site after before scene w s step same may ticked agenda told =
    let i : ℕ = number_of site in
    let x : Act = act_of sc w me site k s in
    record {
      at = record {
        lawful = may.at.lawful;
        listed = may.at.listed;
        within = may.at.within;
        there = changed-there me i (after_tick sc w.ports me i x) w s may.at.there;
        number = same;
        stands = ticked.stands;
        none_ahead = after_tick-ahead sc w.ports me i x s ∙ may.at.none_ahead;
        runs = after_tick-runs sc w.ports me i x s ∙ may.at.runs;
        senders = after_tick-got sc w.ports me i x s (λ c. c.from < count_of (other me) sc.sizes) may.at.senders;
        surrounds = told;
        spare = subst (λ ls. length sc.says + 1 ≤ spare_of (lane_of ls (name_of me i))) (sym agenda) may.at.spare;
      };
      spans = subst (SpansFit sc me) (sym (after_tick-core sc w.ports me i x s)) may.spans;
    }

-- the lanes of the other kind have room for the message when the node has gone on
pub room-then : (sc : Scenario) (me : Side) (i : ℕ) (before scene after : Scene) → HasRoomFor sc (other me) before → scene.agenda ≡ before.agenda → OthersStay me scene after
    → HasRoomFor sc (other me) after
room-then sc me i before scene after room agenda others j h =
    let same : of_kind (other me) after.agenda ≡ of_kind (other me) before.agenda = others ∙ ap (of_kind (other me)) agenda in
    by me same (room j h)
  where
    by : (me : Side) → of_kind (other me) after.agenda ≡ of_kind (other me) before.agenda → 1 ≤ spare_of (lane_of before.agenda (name_of (other me) j))
        → 1 ≤ spare_of (lane_of after.agenda (name_of (other me) j))
    by Biu same h = subst (λ (ls : List Held). 1 ≤ spare_of (unwrap_or (slice_get ls j) (empty_lane 0))) (sym same) h
    by Rmu same h = subst (λ (ls : List Held). 1 ≤ spare_of (unwrap_or (slice_get ls j) (empty_lane 0))) (sym same) h

pub whole : (sc : Scenario) (me : Side) (i k : ℕ) (name : NodeName) (site : KeptSite) (before scene after : Scene) (w : World) (s : Site) (x : Act) (step : Step) (frame : ℕ)
    → name ≡ name_of me i → Proceeds sc me i site before scene (told_in sc w me i x) (after_tick sc w.ports me i x s) → frame ≡ site.node.seat.state.frame → step.message ≡ x.message
    → Surrounds sc after (record (moved me i (proceed sc me i) (told_in sc w me i x)) {
      sites = with_message sc (kind_of name) (number_in name) frame k step.message (moved me i (proceed sc me i) (told_in sc w me i x)).sites;
    })
    → Ticks sc me i k site after w s x
whole sc me i k name site before scene after w s x step frame named on frame_is message sent =
    let v : World = moved me i (proceed sc me i) (told_in sc w me i x) in
    let state : x.core.state ≡ site.node.seat.state =
    ap (λ (c : Core). c.state) (sym (proceed-core sc me i (after_tick sc w.ports me i x s) ∙ after_tick-core sc w.ports me i x s)) ∙ on.node.site.core.state in
    let frame_so : frame ≡ x.core.state.frame = frame_is ∙ ap (λ (st : NodeState). st.frame) (sym state) in
    let named_so : Surrounds sc after (record v { sites = with_message sc me i frame k step.message v.sites }) =
    subst (λ j. Surrounds sc after (record v { sites = with_message sc me j frame k step.message v.sites })) (number-of me i)
    (subst (λ m. Surrounds sc after (record v { sites = with_message sc m (number_in (name_of me i)) frame k step.message v.sites })) (kind-named me i)
    (subst (λ n. Surrounds sc after (record v { sites = with_message sc (kind_of n) (number_in n) frame k step.message v.sites })) named sent)) in
    let said : Surrounds sc after (record v { sites = with_message sc me i x.core.state.frame k x.message v.sites }) =
    subst (λ m. Surrounds sc after (record v { sites = with_message sc me i x.core.state.frame k m v.sites })) message
    (subst (λ f. Surrounds sc after (record v { sites = with_message sc me i f k step.message v.sites })) frame_so named_so) in
    record {
      node = subst (IsNode sc me i site) (after-is sc w.ports me i x s) on.node;
      surrounds = subst (Surrounds sc after) (act-is sc w me i k x) said;
    }
