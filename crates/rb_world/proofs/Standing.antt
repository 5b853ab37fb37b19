-- What is kept stands for the site after each step.
use Rattle.std.proofs.{Common.{◌≡◌, ℕ, ◌-◌, ◌<◌, ◌≤◌, ◌^◌, ◌==◌, max, unwrap_or, Bool, true, false, not, Option, Some, None, IfSome, List, [], ◌∷◌, ◌++◌, map, length, refl, sym, ◌∙◌, ap, subst, arith, inl, inr, if◌then◌else◌}, lemmas.Bool.cases_lt, lemmas.Bool.Decides.nat_tests}
use Rattle.std.specs.Prelude.{option_map, slice_set}
use Rattle.rb_base.specs.{Nodes.{Side, other}, Sizes.Sizes, declared.values.See.See}
use Rattle.rb_rules.specs.{declared.closing.Closed.Closed, declared.message.Message.Message, declared.plan.Plan.Plan, declared.record.Epoch.Epoch, Book.Row, Clock.stamp_of, Core.{Act, Core, act_at, act_on, arrive, busy_among, epoch_at, is_last, next_tick, of_source, pass_to, state_at, tick}, Goodness.{Scenario, clock_of}, Hearing.{Coming, Span, epoch_of, row_of}, NodeState.{NodeState, trusted_of}, Ports.PortState, Sense.Arrival, Slots.count_of, WorldStep.{Site, after_arrival, await, coming_from, enter, pass_and_tick, proceed, says_in, span_from, stop, wants_in, with_close, with_epoch, word_of}}
use Rattle.rb_rules.proofs.QuietTicks.{next-is}
use Rattle.rb_slot.specs.Engines.{Seated}
use Rattle.rb_node.specs.{Acts.IsAct, Cores.{IsCore, IsSameNode, Running, bare_core, next_of, passing_end, tick_of}, declared.act.Step.Step}
use Rattle.rb_node.proofs.{Between.{arrive-spent, arrive-takes}, Cores.{tick-now, tick-spent}}
use Rattle.rb_world.specs.{Sites.{ComeTogether, HoldsTimes, KeptSite, Stands, goes_on, number_of, taken_in}, Tells.{IsTicked, begun_after, row_after, row_at}}
use Rattle.rb_world.proofs.{Closing.{Leaves, ShowsTime, tick-leaves}, Coming.{sees-same, times-more, together-more}}

-- Arrivals.

arrive-together : (sizes : Sizes) (me : Side) (d : Core) (got : List Coming) (c : Coming) → c.from < count_of (other me) sizes
    → (d.had < 2 ^ 31 → ComeTogether d.inbox got) → (arrive sizes me d c.from c.bytes).had < 2 ^ 31
    → ComeTogether (arrive sizes me d c.from c.bytes).inbox (got ++ c ∷ [])
arrive-together sizes me d got c there together below =
    elim (cases_lt d.had (2 ^ 31)) [
      | inl lt ↦
          subst (λ (e : Core). ComeTogether e.inbox (got ++ c ∷ [])) (sym (arrive-takes sizes me d c.from c.bytes there lt))
          (together-more d.inbox got (c.from, record { stamp = d.had; bytes = c.bytes }) c refl (together lt))
      | inr ge ↦
          let same : (arrive sizes me d c.from c.bytes).had ≡ d.had = ap (λ (e : Core). e.had) (arrive-spent sizes me d c.from c.bytes ge) in
          absurd (omega (arith, same, below, ge))
    ]

-- what is kept stands for the site after an arrival is taken in as it comes
pub takes : (sc : Scenario) (me : Side) (k : KeptSite) (node : Running) (c : Coming) (s : Site) → Stands sc me k s → length k.times ≡ 16
    → IsSameNode k.node node → c.from < count_of (other me) sc.sizes → IsCore node (arrive sc.sizes me s.core c.from c.bytes)
    → Stands sc me (record { node = node; runs = k.runs; times = slice_set k.times c.from c.time }) (taken_in sc me c s)
takes sc me k node c s is all same there core = record {
  sizes = same.sizes ∙ is.sizes;
  plan = same.plan ∙ is.plan;
  core = core;
  runs = is.runs;
  together = arrive-together sc.sizes me s.core s.got c there is.together;
  times = times-more k.times s.got c all is.times;
}

-- `Stands` holds once the ticks up to a stamp have passed
pub passed : (sc : Scenario) (me : Side) (k : KeptSite) (node : Running) (stamp : ℕ) (s : Site) → Stands sc me k s → IsSameNode k.node node
    → IsCore node (pass_to stamp s.core) → Stands sc me (record k { node = node }) (record s { core = pass_to stamp s.core })
passed sc me k node stamp s is same core =
    let later : s.core.had ≤ (pass_to stamp s.core).had = omega arith in
    record {
      sizes = same.sizes ∙ is.sizes;
      plan = same.plan ∙ is.plan;
      core = core;
      runs = is.runs;
      together = λ below. is.together (omega (arith, below, later));
      times = is.times;
    }

pub arrived : (sc : Scenario) (me : Side) (k : KeptSite) (c : Coming) (place stamp i : ℕ) (s : Site) → stamp ≡ stamp_of (clock_of sc me i) c.time
    → Stands sc me k (taken_in sc me c (record s { core = pass_to stamp s.core })) → Stands sc me k (after_arrival sc me i place c s)
unfolding after_arrival
arrived sc me k c place stamp i s stamp_is is =
    let at : Stands sc me k (taken_in sc me c (record s { core = pass_to (stamp_of (clock_of sc me i) c.time) s.core })) =
    subst (λ t. Stands sc me k (taken_in sc me c (record s { core = pass_to t s.core }))) stamp_is is in
    record { sizes = at.sizes; plan = at.plan; core = at.core; runs = at.runs; together = at.together; times = at.times }

-- Ticks.

closed-stands : (sc : Scenario) (ports : List PortState) (me : Side) (i : ℕ) (k : KeptSite) (node : Running) (x : Act) (s : Site) (d : Core)
    → Stands sc me k s → IsSameNode k.node node → IsCore node x.core → Leaves d x → s.core.had ≤ d.had → d.inbox ≡ s.core.inbox
    → Stands sc me (record { node = node; runs = k.runs; times = k.times }) (with_close me i x.core.state x.closed (record s { core = x.core }))
closed-stands sc ports me i k node x s d is same core leaves passed inbox = by x.closed refl
  where
    by : (o : Option Closed) → x.closed ≡ o
        → Stands sc me (record { node = node; runs = k.runs; times = k.times }) (with_close me i x.core.state o (record s { core = x.core }))
    by None e = record {
      sizes = same.sizes ∙ is.sizes;
      plan = same.plan ∙ is.plan;
      core = core;
      runs = is.runs;
      together = λ below. subst (λ inbox. ComeTogether inbox s.got) (sym (leaves.kept e ∙ inbox)) (is.together (omega (arith, leaves.later, passed, below)));
      times = is.times;
    }
    by (Some shown) e = record {
      sizes = same.sizes ∙ is.sizes;
      plan = same.plan ∙ is.plan;
      core = core;
      runs = is.runs;
      together = λ below. ap (map (λ (a : ℕ × Arrival). a.0)) (leaves.cleared shown e);
      times = λ j h c sole. absurd (cc);
    }

epoch-stands : (sc : Scenario) (ports : List PortState) (me : Side) (i : ℕ) (k : KeptSite) (o : Option Epoch) (s : Site) → Stands sc me k s
    → Stands sc me k (with_epoch sc ports me i o s)
epoch-stands sc ports me i k None s is = is
epoch-stands sc ports me i k (Some e) s is =
    record { sizes = is.sizes; plan = is.plan; core = is.core; runs = is.runs; together = is.together; times = is.times }

is-ticked : (sc : Scenario) (ports : List PortState) (me : Side) (n : Running) (t word i : ℕ) (c : Core) → n.seat.sizes ≡ sc.sizes → n.seat.plan ≡ sc.plan
    → n.seat.index ≡ i → word ≡ word_of sc ports i (wants_in sc me i (pass_to t c)) → tick_of me n (pass_to t c) word ≡ pass_and_tick sc ports me i t c
unfolding pass_and_tick
is-ticked sc ports me n t word i c sizes plan index word_is =
    ap (λ sizes. tick sizes n.seat.plan me n.seat.index (pass_to t c) word) sizes
    ∙ ap (λ plan. tick sc.sizes plan me n.seat.index (pass_to t c) word) plan
    ∙ ap (λ j. tick sc.sizes sc.plan me j (pass_to t c) word) index
    ∙ ap (λ w. tick sc.sizes sc.plan me i (pass_to t c) w) word_is

ticked-leaves : (sc : Scenario) (ports : List PortState) (me : Side) (i t : ℕ) (c : Core) → Leaves (pass_to t c) (pass_and_tick sc ports me i t c)
unfolding pass_and_tick
ticked-leaves sc ports me i t c = tick-leaves sc.sizes sc.plan me i (pass_to t c) (word_of sc ports i (wants_in sc me i (pass_to t c)))

ticked-running : (sc : Scenario) (ports : List PortState) (me : Side) (i t : ℕ) (c : Core) (shown : Closed)
    → (pass_and_tick sc ports me i t c).closed ≡ Some shown → (pass_to t c).had < 2 ^ 31
unfolding pass_and_tick
ticked-running sc ports me i t c shown e =
    let word = word_of sc ports i (wants_in sc me i (pass_to t c)) in
    elim (cases_lt (pass_to t c).had (2 ^ 31)) [
      | inl lt ↦ lt
      | inr ge ↦
          let none : (tick sc.sizes sc.plan me i (pass_to t c) word).closed ≡ None =
          ap (λ (x : Act). x.closed) (tick-spent sc.sizes sc.plan me i (pass_to t c) word ge) in
          absurd (cc)
    ]

row-same : (me : Side) (i : ℕ) (st : NodeState) (times : List ℕ) (inbox : List (ℕ × Arrival)) (got : List Coming) (shown : Closed)
    → ComeTogether inbox got → HoldsTimes times got → ((j stamp : ℕ) → j < 16 → ShowsTime shown j stamp → (a : Arrival) × (of_source inbox j ≡ a ∷ []))
    → row_of me i st (coming_from got) shown ≡ row_at me i st times shown
unfolding row_of
row-same me i st times inbox got shown together holds sole =
    ap (λ (sees : List See). record {
      place = shown.place;
      sees = sees;
      biu = trusted_of Side.Biu me st;
      rmu = trusted_of Side.Rmu me st;
      line = option_map (λ d. record { receiver = i; sender = d.sender; value = d.value }) shown.delivered;
    })
    (sees-same times inbox got shown together holds sole)

-- What a node tells of a stage.

row-picked : (b : Bool) (before : Option Row) (told kept : Row) → told ≡ kept
    → (elim b as (λ _. Option Row) [ true ↦ before | false ↦ Some told ]) ≡ (if not b then Some kept else before)
row-picked true before told kept e = refl
row-picked false before told kept e = ap (λ (r : Row). Some r) e

close-row : (me : Side) (i : ℕ) (st : NodeState) (s : Site) (k : KeptSite) (closed : Bool) (o : Option Closed) → number_of k ≡ i → st ≡ k.node.seat.state
    → (if closed then Some k.node.shown else None) ≡ o
    → ((shown : Closed) → o ≡ Some shown → row_of me i st (coming_from s.got) shown ≡ row_at me i st k.times shown)
    → (with_close me i st o s).row ≡ row_after me k closed s.row
close-row me i st s k closed o number state e rows =
    subst (λ (x : Option Closed). (with_close me i st x s).row ≡ row_after me k closed s.row) e (by closed e)
  where
    same : row_at me i st k.times k.node.shown ≡ row_at me (number_of k) k.node.seat.state k.times k.node.shown
    same = ap (λ j. row_at me j st k.times k.node.shown) (sym number) ∙ ap (λ z. row_at me (number_of k) z k.times k.node.shown) state

    by : (b : Bool) → (if b then Some k.node.shown else None) ≡ o
        → (with_close me i st (if b then Some k.node.shown else None) s).row ≡ row_after me k b s.row
    by true f = row-picked (k.node.shown.place.stage == 4) s.row _ _ (rows k.node.shown (sym f) ∙ same)
    by false f = refl

epoch-row : (sc : Scenario) (ports : List PortState) (me : Side) (i : ℕ) (o : Option Epoch) (s : Site) → (with_epoch sc ports me i o s).row ≡ s.row
epoch-row sc ports me i None s = refl
epoch-row sc ports me i (Some e) s = refl

-- What a node tells of a frame.

close-begun : (me : Side) (i : ℕ) (st : NodeState) (o : Option Closed) (s : Site) → (with_close me i st o s).begun ≡ s.begun
close-begun me i st None s = refl
close-begun me i st (Some shown) s = refl

epoch-begun : (sc : Scenario) (ports : List PortState) (me : Side) (i : ℕ) (o : Option Epoch) (s : Site)
    → (with_epoch sc ports me i o s).begun ≡ begun_after sc ports me i o s.begun
epoch-begun sc ports me i None s = refl
epoch-begun sc ports me i (Some e) s = refl

pub ticks : (sc : Scenario) (ports : List PortState) (me : Side) (k : KeptSite) (passed node : Running) (step : Step) (t word : ℕ) (s : Site)
    → Stands sc me k s → IsSameNode k.node passed → IsSameNode passed node
    → word ≡ word_of sc ports (number_of k) (wants_in sc me (number_of k) (pass_to t s.core))
    → IsCore node (tick_of me passed (pass_to t s.core) word).core → IsAct node.shown step (tick_of me passed (pass_to t s.core) word)
    → IsTicked sc ports me k (record { node = node; runs = k.runs; times = k.times }) step t s
ticks sc ports me k passed node step t word s is same then_same word_is core act =
    let i : ℕ = number_of k in
    let after : KeptSite = record { node = node; runs = k.runs; times = k.times } in
    let x : Act = pass_and_tick sc ports me i t s.core in
    let e : tick_of me passed (pass_to t s.core) word ≡ x =
    is-ticked sc ports me passed t word i s.core (same.sizes ∙ is.sizes) (same.plan ∙ is.plan) same.index word_is in
    let core_is : IsCore node x.core = subst (λ (y : Act). IsCore node y.core) e core in
    let act_is : IsAct node.shown step x = subst (λ (y : Act). IsAct node.shown step y) e act in
    let leaves : Leaves (pass_to t s.core) x = ticked-leaves sc ports me i t s.core in
    let both : IsSameNode k.node node = record { sizes = then_same.sizes ∙ same.sizes; plan = then_same.plan ∙ same.plan; index = then_same.index ∙ same.index } in
    let passes : s.core.had ≤ max s.core.had t = omega arith in
    let left : Site = record s { core = x.core } in
    let closed : Site = with_close me i x.core.state x.closed left in
    record {
      stands = epoch-stands sc ports me i after x.epoch closed (closed-stands sc ports me i k node x s (pass_to t s.core) is both core_is leaves passes refl);
      core = core_is;
      act = act_is;
      row = epoch-row sc ports me i x.epoch closed
          ∙ close-row me i x.core.state left after step.closed x.closed both.index core_is.state act_is.closed
          (λ shown found.
          let below : max s.core.had t < 2 ^ 31 = ticked-running sc ports me i t s.core shown found in
          row-same me i x.core.state k.times s.core.inbox s.got shown (is.together (omega (arith, below, passes))) is.times (leaves.sole shown found));
      begun = epoch-begun sc ports me i x.epoch closed
          ∙ ap (begun_after sc ports me i x.epoch) (close-begun me i x.core.state x.closed left)
          ∙ ap (λ o. begun_after sc ports me i o s.begun) (sym act_is.epoch);
    }

-- The frame of a step begins at a tick that the node has had.

epoch-tick : (sizes : Sizes) (me : Side) (st : NodeState) (m : ℕ) (e : Epoch) → epoch_at sizes me st m ≡ Some e → e.tick ≡ m
epoch-tick sizes me st m e found = by (st.epoch == m) refl found
  where
    by : (b : Bool) → (st.epoch == m) ≡ b → (elim b as (λ _. Option Epoch) [ true ↦ Some (epoch_of sizes me st) | false ↦ None ]) ≡ Some e → e.tick ≡ m
    by true h f =
        let at : st.epoch ≡ m = grind (arith, nat_tests) in
        let is : epoch_of sizes me st ≡ e = cc in
        sym (ap (λ (e : Epoch). e.tick) is) ∙ at
    by false h f = absurd (cc)

pub on-epoch : (sizes : Sizes) (plan : Plan) (me : Side) (index : ℕ) (c : Core) (st : NodeState) (message : Option Message) (kept : NodeState)
    → (act_on sizes plan me index c st message kept).epoch ≡ epoch_at sizes me st c.had
unfolding act_on
on-epoch sizes plan me index c st message kept = by (is_last sizes plan me st c.had) _ _ refl refl
  where
    by : (b : Bool) (x y : Act) → x.epoch ≡ epoch_at sizes me st c.had → y.epoch ≡ epoch_at sizes me st c.had
        → (elim b as (λ _. Act) [ true ↦ x | false ↦ y ]).epoch ≡ epoch_at sizes me st c.had
    by true x y h k = h
    by false x y h k = k

at-epoch : (sizes : Sizes) (plan : Plan) (me : Side) (index : ℕ) (c : Core) (word : ℕ)
    → (act_at sizes plan me index c word).epoch ≡ epoch_at sizes me (state_at sizes plan me c.state c.had) c.had
unfolding act_at
at-epoch sizes plan me index c word = on-epoch sizes plan me index c _ _ _

pub begins-in-time : (me : Side) (n : Running) (shown : Closed) (step : Step) (c : Core) (word : ℕ) → IsAct shown step (tick_of me n c word)
    → IfSome step.epoch (λ e. e.tick < 2 ^ 31)
begins-in-time me n shown step c word act = by step.epoch act.epoch
  where
    by : (o : Option Epoch) → o ≡ (tick_of me n c word).epoch → IfSome o (λ e. e.tick < 2 ^ 31)
    by None e = tt
    by (Some epoch) e =
        elim (cases_lt c.had (2 ^ 31)) [
          | inl lt ↦
              let tick_is : epoch.tick ≡ c.had =
              epoch-tick n.seat.sizes me (state_at n.seat.sizes n.seat.plan me c.state c.had) c.had epoch
              (sym (at-epoch n.seat.sizes n.seat.plan me n.seat.index c word)
              ∙ sym (ap (λ (x : Act). x.epoch) (tick-now n.seat.sizes n.seat.plan me n.seat.index c word lt)) ∙ sym e) in
              omega arith
          | inr ge ↦
              let none : (tick_of me n c word).epoch ≡ None = ap (λ (x : Act). x.epoch) (tick-spent n.seat.sizes n.seat.plan me n.seat.index c word ge) in
              absurd (cc)
        ]

-- The node goes on, or stops.

pub awaits : (sc : Scenario) (me : Side) (i : ℕ) (more : List Coming) (k : KeptSite) (s : Site) → Stands sc me k s → Stands sc me k (await sc me i more s)
awaits sc me i more k s is = record { sizes = is.sizes; plan = is.plan; core = is.core; runs = is.runs; together = is.together; times = is.times }

pub stops : (sc : Scenario) (me : Side) (k : KeptSite) (s : Site) → Stands sc me k s → Stands sc me (record k { runs = false }) (stop s)
stops sc me k s is = record { sizes = is.sizes; plan = is.plan; core = is.core; runs = refl; together = is.together; times = is.times }

enters : (sc : Scenario) (me : Side) (i : ℕ) (k : KeptSite) (s : Site) (o : Option Span) → Stands sc me k s → goes_on sc me i o ≡ true
    → Stands sc me k (enter sc me i o s)
enters sc me i k s None is good = awaits sc me i [] k s is
enters sc me i k s (Some span) is good =
    subst (λ b. Stands sc me k (elim b as (λ _. Site) [ true ↦ await sc me i (says_in sc me i span) s | false ↦ stop s ])) (sym good)
    (awaits sc me i (says_in sc me i span) k s is)

pub proceeds : (sc : Scenario) (me : Side) (i : ℕ) (k : KeptSite) (s : Site) → Stands sc me k s
    → goes_on sc me i (span_from sc.sizes sc.plan me s.core.state s.core.had) ≡ true → Stands sc me k (proceed sc me i s)
unfolding proceed
proceeds sc me i k s is good = enters sc me i k s (span_from sc.sizes sc.plan me s.core.state s.core.had) is good

-- How far ticks may pass.

pub passing-most : (me : Side) (n : Running) → passing_end me n ≤ 2 ^ 31
passing-most me n = by (next_of me n (bare_core n)) refl
  where
    early : (k : ℕ) → next_of me n (bare_core n) ≡ Some k → n.had ≤ 2 ^ 31
    early k e =
        elim (cases_lt (2 ^ 31) n.had) [
          | inl over ↦
              let none : 2 ^ 31 - n.had ≡ 0 = omega arith in
              let nothing : next_of me n (bare_core n) ≡ None = ap (λ m. busy_among n.seat.sizes n.seat.plan me n.seat.index n.seat.state m n.had) none in
              absurd (cc)
          | inr le ↦ le
        ]

    by : (o : Option ℕ) → next_of me n (bare_core n) ≡ o → unwrap_or o (2 ^ 31) ≤ 2 ^ 31
    by None e = omega arith
    by (Some k) e = let below : k < 2 ^ 31 = (next-is n.seat.sizes n.seat.plan me n.seat.index (bare_core n) k (early k e) e).below in omega arith

-- the ticks pass up to the next busy tick of the site, or to 2^31
pub passing-next : (sc : Scenario) (me : Side) (k : KeptSite) (s : Site) → Stands sc me k s
    → passing_end me k.node ≡ unwrap_or (next_tick sc.sizes sc.plan me (number_of k) s.core) (2 ^ 31)
passing-next sc me k s is =
    let v : Seated = k.node.seat in
    ap (λ o. unwrap_or o (2 ^ 31))
    (ap (λ st. busy_among v.sizes v.plan me v.index st (2 ^ 31 - k.node.had) k.node.had) (sym is.core.state)
    ∙ ap (λ had. busy_among v.sizes v.plan me v.index s.core.state (2 ^ 31 - had) had) (sym is.core.had)
    ∙ ap (λ sizes. next_tick sizes v.plan me v.index s.core) is.sizes
    ∙ ap (λ plan. next_tick sc.sizes plan me v.index s.core) is.plan)
