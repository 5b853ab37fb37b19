-- For the law of record and replay: the site of one node after an event, wherever it happens. Its
-- frame never falls.
use Rattle.std.proofs.{Common.{◌≡◌, ℕ, ◌+◌, ◌≤◌, ◌==◌, ◌&&◌, ◌⊎◌, Bool, true, false, List, [], ◌∷◌, ◌++◌, refl, ap, sym, ◌∙◌, arith, inl, inr, Option, Some, None, slice_get, option_map}, lemmas.Bool.Decides.nat_tests}
use Rattle.rb_base.specs.{Nodes.{Side, other}, Sizes.Sizes}
use Rattle.rb_rules.specs.{declared.closing.Closed.Closed, declared.message.Message.Message, declared.plan.Plan.Plan, declared.record.Epoch.Epoch, Book.of_kind, Clock.stamp_of, Conviction.turn, Core.{Act, Core, act_at, act_on, epoch_at, is_last, is_spent, is_tick, of_source, pass_to, said_at, state_at, state_kept, tick, window_here}, ExactStage.Outcome, Goodness.{Scenario, clock_of}, Hearing.{Coming, close_window, coming_of}, NodeState.NodeState, Ports.PortState, Slots.same_side, SyncStage.new_epoch_of, WorldStep.{Due, Pending, Site, World, after_act, after_arrival, at_node, happens, pass_and_tick, proceed, span_from, with_act, with_close, with_epoch, with_pending}, WorldStep.Pending.{Tick, Arrival}}
use Rattle.rb_rules.proofs.{QuietTicks.arrive-same, RoundStates.{close-stays, keeping-stays}}
use Rattle.rb_laws_events.proofs.{WorldStands.{get-at, is_node, node-is, node-itself}, WorldTicks.{after_tick, get-after, kind-other, reached, reached-not}, ToldSoFar.entered-core}

-- An event elsewhere.

-- the core and the pending tick stay
pub record Unmoved (s z : Site) : Type 0 where
  pub core : z.core ≡ s.core
  pub ahead : z.ahead ≡ s.ahead

reached-unmoved : (sc : Scenario) (me : Side) (i frame k : ℕ) (m : Option Message) (side : Side) (j : ℕ) (s : Site) → Unmoved s (reached sc me i frame k m side j s)
reached-unmoved sc me i frame k None side j s = record { core = refl; ahead = refl }
reached-unmoved sc me i frame k (Some m) side j s = by (same_side side (other me) && s.runs)
  where
    by : (b : Bool) → Unmoved s (elim b as (λ _. Site) [
      | true ↦ record s { coming = s.coming ++ coming_of sc side j i frame (record { tick = k; message = m }) ∷ [] }
      | false ↦ s
    ])
    by true = record { core = refl; ahead = refl }
    by false = record { core = refl; ahead = refl }

-- the site of a node to which an event does not happen
pub record Elsewhere (sc : Scenario) (w : World) (d : Due) (me : Side) (i : ℕ) (s : Site) : Type 0 where
  pub z : Site
  pub there : slice_get (of_kind me (happens sc w d).sites) i ≡ Some z
  pub unmoved : Unmoved s z

not-it : (me side : Side) (i n : ℕ) → is_node me i side n ≡ false → is_node side n me i ≡ false
not-it me side i n h = by (is_node side n me i) refl
  where
    true-false : true ≡ false → ⊥
    true-false e = cc

    by : (b : Bool) → is_node side n me i ≡ b → b ≡ false
    by false e = refl
    by true e =
        let is = node-is side me n i e in
        absurd (true-false (sym (node-itself me i) ∙ ap (λ y. is_node me i y i) is.0 ∙ ap (λ j. is_node me i side j) is.1 ∙ h))

pub elsewhere : (sc : Scenario) (w : World) (d : Due) (me : Side) (i : ℕ) {s : _} → slice_get (of_kind me w.sites) i ≡ Some s → is_node me i d.side d.node ≡ false
    → Elsewhere sc w d me i s
unfolding happens with_act
elsewhere sc w d me i {s} there apart =
    let z = by (slice_get (of_kind d.side w.sites) d.node) in
    record { z = z.0; there = z.1.0; unmoved = z.1.1 }
  where
    other_node : is_node d.side d.node me i ≡ false
    other_node = not-it me d.side i d.node apart

    same : (change : Site → Site) → (elim (is_node d.side d.node me i) as (λ _. Site) [ true ↦ change s | false ↦ s ]) ≡ s
    same change = ap (λ b. elim b as (λ _. Site) [ true ↦ change s | false ↦ s ]) other_node

    pending : (t : Site) (p : Pending) → (z : Site) × ((slice_get (of_kind me (with_pending sc w d.side d.node t p).sites) i ≡ Some z) × Unmoved s z)
    pending t (Arrival place c) = (
      s,
      (
        get-at d.side me d.node i (after_arrival sc d.side d.node place c) w.sites
            ∙ ap (option_map (λ s. elim (is_node d.side d.node me i) as (λ _. Site) [ true ↦ after_arrival sc d.side d.node place c s | false ↦ s ])) there
            ∙ ap Some (same (after_arrival sc d.side d.node place c)),
        record { core = refl; ahead = refl },
      ),
    )
    pending t (Tick k) =
        let x : Act = pass_and_tick sc w.ports d.side d.node k t.core in
        let change : Site → Site = after_act sc w.ports d.side d.node x in (
          reached sc d.side d.node x.core.state.frame k x.message me i s,
          (
            get-after sc d.side d.node x.core.state.frame k x.message change w.sites me i
                ∙ ap (option_map (after_tick sc d.side d.node x.core.state.frame k x.message change me i)) there
                ∙ ap (λ z. Some (reached sc d.side d.node x.core.state.frame k x.message me i z)) (same change),
            reached-unmoved sc d.side d.node x.core.state.frame k x.message me i s,
          ),
        )

    by : (o : Option Site) → (z : Site) × ((slice_get (of_kind me (elim o as (λ _. World) [ None ↦ w | Some t ↦ with_pending sc w d.side d.node t d.pending ]).sites) i ≡ Some z) × Unmoved s z)
    by None = (s, (there, record { core = refl; ahead = refl }))
    by (Some t) = pending t d.pending

-- An event of its own.

pub own-tick : (sc : Scenario) (w : World) (me : Side) (i k : ℕ) (x : Act) {s : _} → slice_get (of_kind me w.sites) i ≡ Some s
    → slice_get (of_kind me (with_act sc w me i k x).sites) i ≡ Some (after_act sc w.ports me i x s)
unfolding with_act
own-tick sc w me i k x {s} there =
    let change : Site → Site = after_act sc w.ports me i x in
    get-after sc me i x.core.state.frame k x.message change w.sites me i ∙ ap (option_map (after_tick sc me i x.core.state.frame k x.message change me i)) there
    ∙ ap (λ b. Some (reached sc me i x.core.state.frame k x.message me i (elim b as (λ _. Site) [ true ↦ change s | false ↦ s ]))) (node-itself me i)
    ∙ ap Some (reached-not sc me i x.core.state.frame k x.message me i (change s) (ap (λ y. y && (change s).runs) (kind-other me)))

pub own-arrival : (w : World) (me : Side) (i : ℕ) (change : Site → Site) {s : _} → slice_get (of_kind me w.sites) i ≡ Some s
    → slice_get (of_kind me (at_node me i change w.sites)) i ≡ Some (change s)
own-arrival w me i change {s} there =
    get-at me me i i change w.sites ∙ ap (option_map (λ s. elim (is_node me i me i) as (λ _. Site) [ true ↦ change s | false ↦ s ])) there
    ∙ ap (λ b. Some (elim b as (λ _. Site) [ true ↦ change s | false ↦ s ])) (node-itself me i)

pub act-core : (sc : Scenario) (ports : List PortState) (me : Side) (i : ℕ) (x : Act) (s : Site) → (after_act sc ports me i x s).core ≡ x.core
unfolding after_act proceed
act-core sc ports me i x s =
    let told : Site = with_epoch sc ports me i x.epoch (with_close me i x.core.state x.closed (record s { core = x.core })) in
    entered-core sc me i (span_from sc.sizes sc.plan me told.core.state told.core.had) told
    ∙ epoch x.epoch (with_close me i x.core.state x.closed (record s { core = x.core })) ∙ closed x.closed
  where
    epoch : (o : Option Epoch) (z : Site) → (with_epoch sc ports me i o z).core ≡ z.core
    epoch None z = refl
    epoch (Some e) z = refl

    closed : (o : Option Closed) → (with_close me i x.core.state o (record s { core = x.core })).core ≡ x.core
    closed None = refl
    closed (Some c) = refl

-- Frames.

-- a node turns to the next frame, or stays in its own
pub state-rises : (sizes : Sizes) (plan : Plan) (me : Side) (st : NodeState) (k : ℕ)
    → (state_at sizes plan me st k ≡ st) ⊎ (((state_at sizes plan me st k).epoch ≡ k) × ((state_at sizes plan me st k).frame ≡ st.frame + 1))
unfolding state_at turn
state-rises sizes plan me st k = by (new_epoch_of plan me st)
  where
    same-number : (a b : ℕ) → (a == b) ≡ true → a ≡ b
    same-number a b h = grind (arith, nat_tests)

    State : Option ℕ → Bool → NodeState
    State o b = elim b [ true ↦ elim o [ None ↦ st | Some e ↦ turn sizes plan.probation me e st ] | false ↦ st ]

    turned : (e : ℕ) (b : Bool) → (e == k) ≡ b → (State (Some e) b ≡ st) ⊎ (((State (Some e) b).epoch ≡ k) × ((State (Some e) b).frame ≡ st.frame + 1))
    turned e true h = inr (same-number e k h, refl)
    turned e false h = inl refl

    by : (o : Option ℕ) → (State o (is_tick o k) ≡ st) ⊎ (((State o (is_tick o k)).epoch ≡ k) × ((State o (is_tick o k)).frame ≡ st.frame + 1))
    by None = inl refl
    by (Some e) = turned e (e == k) refl

kept-frame : (sizes : Sizes) (me : Side) (i : ℕ) (st : NodeState) (word : ℕ) (m : Option Message) → (state_kept sizes me i st word m).frame ≡ st.frame
kept-frame sizes me i st word None = refl
kept-frame sizes me i st word (Some m) = (keeping-stays sizes me i st m.slot m.stage word).frame

on-frame : (sizes : Sizes) (plan : Plan) (me : Side) (i : ℕ) (c : Core) (st : NodeState) (m : Option Message) (kept : NodeState) → (act_on sizes plan me i c st m kept).core.state.frame ≡ kept.frame
unfolding act_on
on-frame sizes plan me i c st m kept = by (is_last sizes plan me st c.had)
  where
    x : Outcome
    x = close_window sizes plan me i kept (window_here sizes plan me st c.had) (of_source c.inbox)

    by : (b : Bool) → (elim b as (λ _. Act) [
      | true ↦ record { core = record { state = x.state; had = c.had + 1; inbox = [] }; epoch = epoch_at sizes me st c.had; message = m; closed = Some x.closed }
      | false ↦ record { core = record { state = kept; had = c.had + 1; inbox = c.inbox }; epoch = epoch_at sizes me st c.had; message = m; closed = None }
    ]).core.state.frame ≡ kept.frame
    by true = (close-stays sizes me i kept (window_here sizes plan me st c.had).slot (window_here sizes plan me st c.had).stage (window_here sizes plan me st c.had).first _).frame
    by false = refl

tick-rises : (sizes : Sizes) (plan : Plan) (me : Side) (i : ℕ) (c : Core) (word : ℕ) → c.state.frame ≤ (tick sizes plan me i c word).core.state.frame
unfolding tick act_at
tick-rises sizes plan me i c word = by (is_spent c)
  where
    st : NodeState
    st = state_at sizes plan me c.state c.had

    m : Option Message
    m = said_at sizes plan me i st word c.had

    up : c.state.frame ≤ st.frame
    up = elim (state-rises sizes plan me c.state c.had) [ inl same ↦ let e : st.frame ≡ c.state.frame = ap (λ (z : NodeState). z.frame) same in omega (arith, e) | inr turned ↦ omega (arith, turned.1) ]

    by : (b : Bool) → c.state.frame ≤ (elim b as (λ _. Act) [ true ↦ record { core = c; epoch = None; message = None; closed = None } | false ↦ act_at sizes plan me i c word ]).core.state.frame
    by true = omega arith
    by false =
        let e : (act_on sizes plan me i c st m (state_kept sizes me i st word m)).core.state.frame ≡ st.frame =
        on-frame sizes plan me i c st m (state_kept sizes me i st word m) ∙ kept-frame sizes me i st word m in
        omega (arith, e, up)

-- whatever happens, the node's frame never falls
pub record Rises (sc : Scenario) (w : World) (d : Due) (me : Side) (i : ℕ) (s : Site) : Type 0 where
  pub z : Site
  pub there : slice_get (of_kind me (happens sc w d).sites) i ≡ Some z
  pub frame : s.core.state.frame ≤ z.core.state.frame

arrived-rises : (sc : Scenario) (me : Side) (i place : ℕ) (c : Coming) (s : Site) → s.core.state.frame ≤ (after_arrival sc me i place c s).core.state.frame
unfolding after_arrival
arrived-rises sc me i place c s =
    let e : (after_arrival sc me i place c s).core.state ≡ s.core.state = (arrive-same sc.sizes me (pass_to (stamp_of (clock_of sc me i) c.time) s.core) c.from c.bytes).0 in
    let f : (after_arrival sc me i place c s).core.state.frame ≡ s.core.state.frame = ap (λ (z : NodeState). z.frame) e in
    omega (arith, f)

own-rises : (sc : Scenario) (w : World) (me : Side) (i : ℕ) (p : Pending) {s : _} → slice_get (of_kind me w.sites) i ≡ Some s
    → (z : Site) × ((slice_get (of_kind me (with_pending sc w me i s p).sites) i ≡ Some z) × (s.core.state.frame ≤ z.core.state.frame))
unfolding pass_and_tick
own-rises sc w me i (Tick k) {s} there =
    let x : Act = pass_and_tick sc w.ports me i k s.core in
    let core : (after_act sc w.ports me i x s).core ≡ x.core = act-core sc w.ports me i x s in
    let up : s.core.state.frame ≤ x.core.state.frame = tick-rises sc.sizes sc.plan me i (pass_to k s.core) _ in
    let e : (after_act sc w.ports me i x s).core.state.frame ≡ x.core.state.frame = ap (λ (c : Core). c.state.frame) core in
    (after_act sc w.ports me i x s, (own-tick sc w me i k x there, omega (arith, up, e)))
own-rises sc w me i (Arrival place c) {s} there = (after_arrival sc me i place c s, (own-arrival w me i (after_arrival sc me i place c) there, arrived-rises sc me i place c s))

pub rises : (sc : Scenario) (w : World) (d : Due) (me : Side) (i : ℕ) {s : _} → slice_get (of_kind me w.sites) i ≡ Some s → Rises sc w d me i s
unfolding happens
rises sc w d me i {s} there = by (is_node me i d.side d.node) refl
  where
    by : (b : Bool) → is_node me i d.side d.node ≡ b → Rises sc w d me i s
    by false e =
        let else_where : Elsewhere sc w d me i s = elsewhere sc w d me i there e in
        let same : else_where.z.core.state.frame ≡ s.core.state.frame = ap (λ (c : Core). c.state.frame) else_where.unmoved.core in
        record { z = else_where.z; there = else_where.there; frame = omega (arith, same) }
    by true e =
        let is = node-is me d.side i d.node e in
        let its : slice_get (of_kind d.side w.sites) d.node ≡ Some s = ap (λ y. slice_get (of_kind y w.sites) d.node) is.0 ∙ ap (slice_get (of_kind me w.sites)) is.1 ∙ there in
        let up = own-rises sc w d.side d.node d.pending its in
        let now : slice_get (of_kind d.side (happens sc w d).sites) d.node ≡ Some up.0 =
        ap (λ o. slice_get (of_kind d.side (elim o as (λ _. World) [ None ↦ w | Some s ↦ with_pending sc w d.side d.node s d.pending ]).sites) d.node) its ∙ up.1.0 in
        record {
          z = up.0;
          there = sym (ap (λ y. slice_get (of_kind y (happens sc w d).sites) d.node) is.0 ∙ ap (slice_get (of_kind me (happens sc w d).sites)) is.1) ∙ now;
          frame = up.1.1;
        }
