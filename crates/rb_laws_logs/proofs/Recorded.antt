-- The law of a recorded log: what is given to a node can happen, so that its log is read as the
-- same events.
use Rattle.std.proofs.{Common.{◌≡◌, ℕ, zero, suc, ◌+◌, ◌^◌, ◌<◌, ◌≤◌, ◌&&◌, ◌⊎◌, nat_le, Bool, true, false, All, List, [], ◌∷◌, ◌++◌, refl, ap, sym, ◌∙◌, subst, arith, inl, inr, Option, Some, None, is_some, slice_get, if◌then◌else◌}, Math.ListN.replicate, lemmas.Bool.Decides.nat_tests, lemmas.List.append-nil, lemmas.List.Elements.{All-append, All-cons, All-nil}, lemmas.Option.same_Some}
use Rattle.std.specs.Prelude.{flat_map}
use Rattle.rb_base.specs.{Nodes.{Side, other}, Sizes.Sizes, declared.event.Event.Event, declared.event.EventKind.EventKind, declared.node.NodeName.NodeName}
use Rattle.rb_rules.specs.{declared.message.Message.Message, declared.plan.Plan.Plan, Book.of_kind, Core.{Act, Core, CoreEvent, act_at, act_on, arrive, epoch_at, first_core, is_last, is_spent, of_source, pass_to, said_at, state_at, state_kept, tick, window_here}, ExactStage.Outcome, Entries.IsListed, Goodness.Scenario, Hearing.{Coming, close_window}, Lawful.{IsLawful, IsNodeOf, kind_of}, NodeState.NodeState, Ports.PortState, Slots.{count_of, role_of}, WorldStep.{Due, Pending, Site, Timed, World, after_arrival, due_of, wants_in, event_of, word_of}, WorldStep.Pending.{Tick, Arrival}}
use Rattle.rb_rules.proofs.QuietTicks.{arrive-same}
use Rattle.rb_plan.specs.Timetable.{Timetable}
use Rattle.rb_log.specs.{Laws.{IsTellable, MayHappen, ticks_in}, Writing.{given, given_with, ticks_given, ticks_with}}
use Rattle.rb_log.proofs.RoundTrip.{written_read}
use Rattle.rb_laws_events.proofs.{DueEvents.{IsDue, IsReady}, Receiving.every-stands, SameHeard.Every, WorldNodes.worlds-known, WorldStands.{is_node, node-is, node-itself}}
use Rattle.rb_laws_agreement.proofs.{Goodnesses.good_counts, Speaking.word_fits}
use Rattle.rb_laws_logs.specs.{Given.{first_run, given_in, given_next, index_of, site_of}, Laws.{EndsWithoutBreach, IsGoodThroughout, ALogTellsTheReport}, Replays.replay_text}
use Rattle.rb_laws_logs.proofs.{CoreEvents.core_after, NoBreach.{choices_in, run-is}, NodeRun.{IsDone, NodeAt, StepSites, Underway, after-end, before-end, given-by, given-none, given_so_far, step-sites}, NodeRun.StepSites.{Still, Taken}, NodeSteps.{arrival-had, arrival-stands}, Positions.StandsAt, ReplayLaw.{nodes-at, replay-is-the-report}, Sized.{AreSized, IsSized, run-sized}, Worlds.first-due}
use Rattle.rb_base.specs.declared.event.EventKind.TheVariants as kind
use Rattle.rb_base.specs.declared.node.NodeName.TheVariants as node
use Rattle.rb_rules.specs.Core as core

-- Ticks.

-- how many of the events are ticks
abbrev pub count_ticks : List CoreEvent → ℕ
count_ticks [] = 0
count_ticks (core.Tick word ∷ events) = 1 + count_ticks events
count_ticks (core.Arrive from bytes ∷ events) = count_ticks events

count-append : (xs ys : List CoreEvent) → count_ticks (xs ++ ys) ≡ count_ticks xs + count_ticks ys
count-append [] ys = omega arith
count-append (core.Tick word ∷ xs) ys = let rest : count_ticks (xs ++ ys) ≡ count_ticks xs + count_ticks ys = count-append xs ys in omega (arith, rest)
count-append (core.Arrive from bytes ∷ xs) ys = count-append xs ys

count-quiet : (n : ℕ) → count_ticks (replicate n (core.Tick 0)) ≡ n
count-quiet zero = refl
count-quiet (suc n) = let rest : count_ticks (replicate n (core.Tick 0)) ≡ n = count-quiet n in omega (arith, rest)

count-event : (e : Event) → count_ticks (given e) ≡ ticks_given e
count-event e = count-append (replicate e.quiet (core.Tick 0)) (given_with e.kind) ∙ ap (λ n. n + count_ticks (given_with e.kind)) (count-quiet e.quiet) ∙ by e.kind
  where
    by : (k : EventKind) → e.quiet + count_ticks (given_with k) ≡ e.quiet + ticks_with k
    by (kind.Tick word wanted) = refl
    by (kind.Arrive from bytes) = refl

count-given : (events : List Event) → count_ticks (flat_map given events) ≡ ticks_in events
count-given [] = refl
count-given (e ∷ events) =
    count-append (given e) (flat_map given events) ∙ ap (λ n. n + count_ticks (flat_map given events)) (count-event e) ∙ ap (λ n. ticks_given e + n) (count-given events)

-- a tick is counted, unless the core is spent
tick-had : (sizes : Sizes) (plan : Plan) (me : Side) (i : ℕ) (c : Core) (word : ℕ)
    → ((tick sizes plan me i c word).core.had ≡ c.had + 1) ⊎ ((2 ^ 31 ≤ c.had) × ((tick sizes plan me i c word).core.had ≡ c.had))
unfolding tick act_at act_on
tick-had sizes plan me i c word = by (is_spent c) refl
  where
    spent : (n : ℕ) → nat_le (2 ^ 31) n ≡ true → 2 ^ 31 ≤ n
    spent n h = grind (arith, nat_tests)

    st : NodeState
    st = state_at sizes plan me c.state c.had

    m : Option Message
    m = said_at sizes plan me i st word c.had

    kept : NodeState
    kept = state_kept sizes me i st word m

    x : Outcome
    x = close_window sizes plan me i kept (window_here sizes plan me st c.had) (of_source c.inbox)

    acts : (b : Bool) → (elim b as (λ _. Act) [
      | true ↦ record { core = record { state = x.state; had = c.had + 1; inbox = [] }; epoch = epoch_at sizes me st c.had; message = m; closed = Some x.closed }
      | false ↦ record { core = record { state = kept; had = c.had + 1; inbox = c.inbox }; epoch = epoch_at sizes me st c.had; message = m; closed = None }
    ]).core.had ≡ c.had + 1
    acts true = refl
    acts false = refl

    by : (b : Bool) → is_spent c ≡ b → ((elim b as (λ _. Act) [ true ↦ record { core = c; epoch = None; message = None; closed = None } | false ↦ act_at sizes plan me i c word ]).core.had ≡ c.had + 1)
        ⊎ ((2 ^ 31 ≤ c.had) × ((elim b as (λ _. Act) [ true ↦ record { core = c; epoch = None; message = None; closed = None } | false ↦ act_at sizes plan me i c word ]).core.had ≡ c.had))
    by true e = inr (spent c.had e, refl)
    by false e = inl (acts (is_last sizes plan me st c.had))

-- a core that is not spent has had all ticks
had-counts : (sizes : Sizes) (plan : Plan) (me : Side) (i : ℕ) (c : Core) (events : List CoreEvent) → (core_after sizes plan me i c events).had < 2 ^ 31
    → c.had + count_ticks events ≡ (core_after sizes plan me i c events).had
had-counts sizes plan me i c [] h = omega arith
had-counts sizes plan me i c (core.Tick word ∷ events) h =
    let rest : (tick sizes plan me i c word).core.had + count_ticks events ≡ (core_after sizes plan me i (tick sizes plan me i c word).core events).had =
    had-counts sizes plan me i (tick sizes plan me i c word).core events h in
    elim (tick-had sizes plan me i c word) [
      | inl more ↦ omega (arith, rest, more)
      | inr spent ↦ absurd (omega (arith, rest, spent.0, spent.1, h))
    ]
had-counts sizes plan me i c (core.Arrive from bytes ∷ events) h =
    let same : (arrive sizes me c from bytes).had ≡ c.had = (arrive-same sizes me c from bytes).1 in
    let rest : (arrive sizes me c from bytes).had + count_ticks events ≡ (core_after sizes plan me i (arrive sizes me c from bytes) events).had =
    had-counts sizes plan me i (arrive sizes me c from bytes) events h in
    omega (arith, same, rest)

-- The next event.

-- what a node is given next: nothing, or an event that is ready there
pub data NextGiven (sc : Scenario) (name : NodeName) (n : ℕ) (s : Site) : Type 0 where
  Idle : (none : given_next sc name (first_run sc n) ≡ []) → NextGiven sc name n s
  Given : (p : Pending) (t : ℕ) (ready : IsReady t s p) (u : Underway sc name n s)
      (first : slice_get (due_of sc (first_run sc n)) 0 ≡ Some (record { side = kind_of name; node = index_of name; pending = p }))
      (is : given_next sc name (first_run sc n) ≡ event_of sc (first_run sc n).ports (kind_of name) (index_of name) s.core p ∷ []) → NextGiven sc name n s

next-given : {sc name n : _} (node : NodeAt sc name n) → NextGiven sc name n node.s
next-given {sc} {name} {n} node = by (step-sites sc n)
  where
    me : Side
    me = kind_of name

    i : ℕ
    i = index_of name

    w : World
    w = first_run sc n

    s : Site
    s = node.s

    own : (p : Pending) → slice_get (due_of sc w) 0 ≡ Some (record { side = me; node = i; pending = p }) → Underway sc name n s → NextGiven sc name n s
    own p first u =
        let d : Due = record { side = me; node = i; pending = p } in
        let due : IsDue w d = first-due sc n first in
        let ready : IsReady due.t s p = subst (λ s. IsReady due.t s p) (same_Some due.s s (sym due.there ∙ node.there)) due.ready in
        Given p due.t ready u first (given-by sc name w first node.there (node-itself me i) (before-end sc name w node.there u.before))

    and-none : (a : Bool) (e : Event) → (if a && false then e ∷ [] else []) ≡ []
    and-none true e = refl
    and-none false e = refl

    at : (d : Due) → slice_get (due_of sc w) 0 ≡ Some d → Underway sc name n s → (b : Bool) → is_node me i d.side d.node ≡ b → NextGiven sc name n s
    at d first u false e =
        let due : IsDue w d = first-due sc n first in
        Idle (given-by sc name w first due.there e (before-end sc name w node.there u.before))
    at d first u true e =
        let its = node-is me d.side i d.node e in
        let d_is : d ≡ record { side = me; node = i; pending = d.pending } =
        ap (λ y. let x : Due = record { side = y; node = d.node; pending = d.pending } in x) its.0 ∙ ap (λ j. let x : Due = record { side = me; node = j; pending = d.pending } in x) its.1 in
        own d.pending (first ∙ ap Some d_is) u

    over : (d : Due) → slice_get (due_of sc w) 0 ≡ Some d → IsDone sc name n s → NextGiven sc name n s
    over d first done =
        let due : IsDue w d = first-due sc n first in
        Idle (given-by sc name w first due.there refl (after-end sc name w node.there done.after)
        ∙ and-none (is_node me i d.side d.node) (event_of sc w.ports d.side d.node due.s.core d.pending))

    by : StepSites sc n → NextGiven sc name n s
    by (Still none same) = Idle (given-none sc name w none)
    by (Taken d first is) = elim node.how [
      | inl u ↦ at d first u (is_node me i d.side d.node) refl
      | inr done ↦ over d first done
    ]

-- What a node is given can happen.

can-happen : {sc : _} (ports : List PortState) (me : Side) (i t : ℕ) (s : Site) (p : Pending) → IsLawful sc → IsReady t s p → Every (λ (c : Coming). c.from < count_of (other me) sc.sizes) s.coming
    → AreSized s.coming → MayHappen (count_of (other me) sc.sizes) (event_of sc ports me i s.core p).kind
can-happen {sc} ports me i t s (Tick k) lawful ready known sized = by (wants_in sc me i (pass_to k s.core))
  where
    by : (slot : Option ℕ) → MayHappen (count_of (other me) sc.sizes) (kind.Tick (word_of sc ports i slot) (is_some slot))
    by None = refl
    by (Some slot) = word_fits ports i slot (role_of sc.sizes slot) lawful
can-happen {sc} ports me i t s (Arrival place c) lawful ready known sized =
    let from = every-stands (λ (c : Coming). c.from < count_of (other me) sc.sizes) place s.coming ready.0 known in
    let bytes = every-stands (λ (c : Coming). IsSized c.bytes) place s.coming ready.0 sized in
    (from, bytes.0, bytes.1)

-- with its next tick the core has had at most 2^31 ticks
fits : {sc name n : _} (t : ℕ) {s : _} (p : Pending) → IsLawful sc → EndsWithoutBreach sc → site_of name (first_run sc n) ≡ Some s → IsReady t s p → Underway sc name n s
    → slice_get (due_of sc (first_run sc n)) 0 ≡ Some (record { side = kind_of name; node = index_of name; pending = p })
    → s.core.had + ticks_given (event_of sc (first_run sc n).ports (kind_of name) (index_of name) s.core p) ≤ 2 ^ 31
fits t {s} (Tick k) lawful none there ready u first =
    let a_is : ready.0 ≡ u.a = same_Some ready.0 u.a (sym ready.1.0 ∙ u.ahead) in
    let at : u.a.tick ≡ k = ap (λ (a : Timed). a.tick) (sym a_is) ∙ ready.1.1.0 in
    let later : s.core.had ≤ u.a.tick = u.stands.next.later in
    let below : u.a.tick < 2 ^ 31 = u.stands.next.below in
    omega (arith, at, later, below)
fits {sc} {name} t {s} (Arrival place c) lawful none there ready u first =
    let now : StandsAt sc (kind_of name) (index_of name) u.p (after_arrival sc (kind_of name) (index_of name) place c s).core u.st u.a = arrival-stands place c lawful none there u first in
    let had = arrival-had sc (kind_of name) (index_of name) place c s in
    let later = now.next.later in
    let below : u.a.tick < 2 ^ 31 = now.next.below in
    omega (arith, had, later, below)

-- What is given can be told.

pub record CanBeTold (sc : Scenario) (name : NodeName) (events : List Event) : Type 0 where
  pub happen : All (λ (e : Event). MayHappen (count_of (other (kind_of name)) sc.sizes) e.kind) events
  pub ticks : ticks_in events ≤ 2 ^ 31

pub ticks-append : (xs ys : List Event) → ticks_in (xs ++ ys) ≡ ticks_in xs + ticks_in ys
ticks-append [] ys = omega arith
ticks-append (x ∷ xs) ys = let rest : ticks_in (xs ++ ys) ≡ ticks_in xs + ticks_in ys = ticks-append xs ys in omega (arith, rest)

-- a node that is underway has had all ticks that it was given
underway-ticks : {sc name n s : _} → Underway sc name n s → ticks_in (given_in sc name n) ≡ s.core.had
underway-ticks {sc} {name} {n} {s} u =
    let later : s.core.had ≤ u.a.tick = u.stands.next.later in
    let below : u.a.tick < 2 ^ 31 = u.stands.next.below in
    let core_is = u.makes.core in
    let had : (core_after sc.sizes sc.plan (kind_of name) (index_of name) (first_core sc.sizes (kind_of name)) (given_so_far sc name n)).had ≡ s.core.had = ap (λ (c : Core). c.had) core_is in
    let counts = had-counts sc.sizes sc.plan (kind_of name) (index_of name) (first_core sc.sizes (kind_of name)) (given_so_far sc name n) (omega (arith, had, later, below)) in
    let same : count_ticks (given_so_far sc name n) ≡ ticks_in (given_in sc name n) = count-given (given_in sc name n) in
    omega (arith, had, counts, same)

can-be-told : {sc : _} → IsListed sc → {name : _} → IsLawful sc → EndsWithoutBreach sc → IsGoodThroughout sc name → (n : ℕ) → CanBeTold sc name (given_in sc name n)
can-be-told {sc} listed {name} lawful none good zero = record { happen = All-nil (λ (e : Event). MayHappen (count_of (other (kind_of name)) sc.sizes) e.kind); ticks = omega arith }
can-be-told {sc} listed {name} lawful none good (suc n) = by (can-be-told listed lawful none good n) (next-given node)
  where
    node : NodeAt sc name n
    node = nodes-at lawful none good n

    me : Side
    me = kind_of name

    i : ℕ
    i = index_of name

    w : World
    w = first_run sc n

    May : Event → Type 0
    May e = MayHappen (count_of (other me) sc.sizes) e.kind

    by : CanBeTold sc name (given_in sc name n) → NextGiven sc name n node.s → CanBeTold sc name (given_in sc name n ++ given_next sc name w)
    by before (Idle idle) = subst (CanBeTold sc name) (sym (ap (λ l. given_in sc name n ++ l) idle ∙ append-nil (given_in sc name n))) before
    by before (Given p t ready u first is) =
        let e : Event = event_of sc w.ports me i node.s.core p in
        let known : Every (λ (c : Coming). c.from < count_of (other me) sc.sizes) node.s.coming =
        (worlds-known sc (choices_in sc n)).known me i node.s (ap (λ (w : World). slice_get (of_kind me w.sites) i) (sym (run-is sc n)) ∙ node.there) in
        let happens : MayHappen (count_of (other me) sc.sizes) e.kind = can-happen w.ports me i t node.s p lawful ready known (run-sized n listed me i node.s node.there) in
        let had : ticks_in (given_in sc name n) ≡ node.s.core.had = underway-ticks u in
        let few : node.s.core.had + ticks_given e ≤ 2 ^ 31 = fits t p lawful none node.there ready u first in
        let sum : ticks_in (given_in sc name n ++ e ∷ []) ≡ ticks_in (given_in sc name n) + (ticks_given e + 0) = ticks-append (given_in sc name n) (e ∷ []) in
        subst (λ l. CanBeTold sc name (given_in sc name n ++ l)) (sym is) (record {
          happen = All-append May (given_in sc name n) (e ∷ []) before.happen (All-cons May e [] happens (All-nil May));
          ticks = omega (arith, had, few, sum);
        })

-- The law.

node-of : (sizes : Sizes) (name : NodeName) → index_of name < count_of (kind_of name) sizes → IsNodeOf sizes name
node-of sizes (node.Biu i) h = h
node-of sizes (node.Rmu i) h = h

pub a-log-tells-the-report : ALogTellsTheReport
a-log-tells-the-report sc lawful listed none name good events are t sizes plan =
    let told : CanBeTold sc name events = subst (CanBeTold sc name) (sym are.all) (can-be-told listed lawful none good are.steps) in
    let within : index_of name < count_of (kind_of name) sc.sizes = good_counts sc (kind_of name) (index_of name) sc.frames 0 good in
    let tellable : IsTellable (record { sizes = sc.sizes; plan = sc.plan }) name events = record {
      shape = lawful.sizes;
      plan = lawful.plan;
      feasible = lawful.feasible;
      version = lawful.version;
      node_of = node-of sc.sizes name within;
      happen = told.happen;
      ticks = told.ticks;
    } in
    let t_is : record { sizes = sc.sizes; plan = sc.plan } ≡ t = ap (λ z. let t : Timetable = record { sizes = z; plan = sc.plan } in t) (sym sizes) ∙ ap (λ p. let t : Timetable = record { sizes = t.sizes; plan = p } in t) (sym plan) in (
      record { timetable = t; node = name; events = flat_map given events },
      (
        written_read t name events (subst (λ t. IsTellable t name events) t_is tellable),
        ap (λ z. replay_text z t.plan name (flat_map given events)) sizes ∙ ap (λ p. replay_text sc.sizes p name (flat_map given events)) plan ∙ replay-is-the-report sc lawful none name good events are,
      ),
    )
