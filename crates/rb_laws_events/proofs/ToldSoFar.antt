-- For the law that events are rounds: each node has told of all windows that it has closed and, but
-- for a first tick that pends, of the start of its frame.
use Rattle.std.proofs.{Common.{◌≡◌, ℕ, ◌+◌, ◌*◌, ◌<◌, ◌≤◌, ◌==◌, ◌%◌, ◌⊎◌, Bool, true, false, List, [], ◌∷◌, ◌++◌, length, refl, ap, sym, ◌∙◌, subst, arith, inl, inr, Option, Some, None, slice_get}, lemmas.Bool.{cases_lt, eq-eqb, eqb-true}, lemmas.Bool.Decides.nat_tests, lemmas.Option.{same_Some, slice_get_within}}
use Rattle.rb_base.specs.{Nodes.Side, Sizes.Sizes}
use Rattle.rb_base.proofs.Plain.{option_map-back, true-false}
use Rattle.rb_rules.specs.{declared.message.Message.Message, declared.plan.Plan.Plan, declared.record.Epoch.Epoch, Book.{Begun, Each, Row, each_of, of_kind}, Conviction.turn, Core.{Act, Core, epoch_at, is_tick, state_at}, Goodness.{Scenario, is_good}, Hearing.{Coming, Span, begun_of, epoch_of}, NodeState.NodeState, Ports.{HandIn, PortState}, Rounds.{Moment, go_through, moment, sent_in, window_in, windows_in}, SyncStage.new_epoch_of, WorldStep.{Site, Timed, after_act, after_arrival, at_node, await, enter, first_world, fresh_site, proceed, says_in, span_from, stop, with_message}, Slots.count_of}
use Rattle.rb_rules.proofs.{WindowNumbers.get-made, QuietTicks.{IsNext, IsQuiet, quiet-from}}
use Rattle.rb_laws_events.proofs.{FirstWorld.at_begin, HandedIn.AreEarly, HandedMoments.{Alike, handed-alike}, WorldNodes.first-counts, Invariant.{NodeStands, next_stage, word_at}, MomentBooks.{place_at, stage-is-of}, MomentSteps.{NextIsStage, next-is-stage}, NodeClosing.ClosesWindow, NodeEvents.{StaysOpen, begun_after}, NodeTicks.{Like, like-in, state_in}, Telling.{place-is, reached-tells, row-place, tail-stage}, TickWindows.{first-same, first_of}, ToldInOrder.one-changes, WorldEvents.{AfterTick, state-frame}, WorldStands.{IsUp, SitesStand, get-at, is_node, sent_by}, WorldTicks.{moved, reached, reached-same}}
use Rattle.rb_laws_events.specs.Closing.{stages_in}

-- the pending tick of a node in moment p is the frame's first
pub record PendsFirst (sc : Scenario) (hands : List HandIn) (me : Side) (i p : ℕ) (s : Site) : Type 0 where
  pub a : Timed
  pub st : NodeState
  pub ahead : s.ahead ≡ Some a
  pub state : slice_get (of_kind me (moment sc hands p).nodes) i ≡ Some st
  pub first : a.tick ≡ st.epoch

-- what node i of a kind has told last, which stands in moment p
pub record HasTold (sc : Scenario) (hands : List HandIn) (me : Side) (i p : ℕ) (s : Site) : Type 0 where
  pub row : (q : ℕ) → (moment sc hands q).window < stages_in sc.sizes → q < p → p ≤ next_stage sc.sizes (moment sc hands q) q
      → (row : Row) × ((s.row ≡ Some row) × (row.place ≡ place_at sc.sizes (moment sc hands q)))
  pub begun : (moment sc hands p).window ≡ 0 → s.runs ≡ true
      → ((b : Begun) × ((s.begun ≡ Some b) × (b.frame ≡ (moment sc hands p).frame))) ⊎ PendsFirst sc hands me i p s

-- Begins.

-- what is told of a start stays, or is told again
begun-stays : (sc : Scenario) (ports : List PortState) (me : Side) (i k : ℕ) (y : NodeState) (b : Begun) → y.frame ≡ b.frame
    → (c : Begun) × ((begun_after sc ports me i (epoch_at sc.sizes me y k) (Some b) ≡ Some c) × (c.frame ≡ b.frame))
begun-stays sc ports me i k y b frame = by (y.epoch == k)
  where
    by : (t : Bool) → (c : Begun) × ((begun_after sc ports me i (elim t as (λ _. Option Epoch) [ true ↦ Some (epoch_of sc.sizes me y) | false ↦ None ]) (Some b) ≡ Some c) × (c.frame ≡ b.frame))
    by true = (begun_of sc ports me i (epoch_of sc.sizes me y), (refl, frame))
    by false = (b, (refl, refl))

-- the first tick of a frame tells of its start
begun-now : (sc : Scenario) (ports : List PortState) (me : Side) (i : ℕ) {k : ℕ} (y : NodeState) (o : Option Begun) → y.epoch ≡ k
    → (c : Begun) × ((begun_after sc ports me i (epoch_at sc.sizes me y k) o ≡ Some c) × (c.frame ≡ y.frame))
begun-now sc ports me i {k} y o at = (
  begun_of sc ports me i (epoch_of sc.sizes me y),
  (ap (λ t. begun_after sc ports me i (elim t as (λ _. Option Epoch) [ true ↦ Some (epoch_of sc.sizes me y) | false ↦ None ]) o) (eq-eqb y.epoch k at), refl),
)

told-begun : (sc : Scenario) (hands : List HandIn) (ports : List PortState) (me : Side) (i p k : ℕ) {st : _} (s z : Site) (x : Act)
    → slice_get (of_kind me (moment sc hands p).nodes) i ≡ Some st → st.frame ≡ (moment sc hands p).frame → ((a : Timed) → s.ahead ≡ Some a → a.tick ≡ k)
    → x.epoch ≡ epoch_at sc.sizes me (state_in sc.sizes sc.plan me i st (moment sc hands p).window (word_at sc (moment sc hands p) me i st) k) k
    → z.begun ≡ begun_after sc ports me i x.epoch s.begun
    → ((b : Begun) × ((s.begun ≡ Some b) × (b.frame ≡ (moment sc hands p).frame))) ⊎ PendsFirst sc hands me i p s
    → (b : Begun) × ((z.begun ≡ Some b) × (b.frame ≡ (moment sc hands p).frame))
told-begun sc hands ports me i p k {st} s z x there frame pend epoch is (inl old) =
    let y : NodeState = state_in sc.sizes sc.plan me i st (moment sc hands p).window (word_at sc (moment sc hands p) me i st) k in
    let f : y.frame ≡ (moment sc hands p).frame = state-frame sc me i st (moment sc hands p).window (word_at sc (moment sc hands p) me i st) k ∙ frame in
    let c = begun-stays sc ports me i k y old.0 (f ∙ sym old.1.1) in
    (c.0, (is ∙ ap (λ e. begun_after sc ports me i e s.begun) epoch ∙ ap (begun_after sc ports me i (epoch_at sc.sizes me y k)) old.1.0 ∙ c.1.0, c.1.1 ∙ old.1.1))
told-begun sc hands ports me i p k {st} s z x there frame pend epoch is (inr first) =
    let n : ℕ = (moment sc hands p).window in
    let word : ℕ = word_at sc (moment sc hands p) me i st in
    let y : NodeState = state_in sc.sizes sc.plan me i st n word k in
    let like : Like sc.sizes sc.plan me i st y = like-in sc.sizes sc.plan me i st n word k in
    let st_is : first.st ≡ st = same_Some first.st st (sym first.state ∙ there) in
    let at : y.epoch ≡ k = like.epoch ∙ sym (ap (λ (z : NodeState). z.epoch) st_is) ∙ sym first.first ∙ pend first.a first.ahead in
    let c = begun-now sc ports me i y s.begun at in
    (c.0, (is ∙ ap (λ e. begun_after sc ports me i e s.begun) epoch ∙ c.1.0, c.1.1 ∙ state-frame sc me i st n word k ∙ frame))

-- at a tick a node keeps its state, or its epoch is that tick
state-epoch : (sizes : Sizes) (plan : Plan) (me : Side) (st : NodeState) (k : ℕ) → (state_at sizes plan me st k ≡ st) ⊎ ((state_at sizes plan me st k).epoch ≡ k)
unfolding state_at turn
state-epoch sizes plan me st k = by (new_epoch_of plan me st)
  where
    turned : (e : ℕ) (b : Bool) → (e == k) ≡ b → ((elim b as (λ _. NodeState) [ true ↦ turn sizes plan.probation me e st | false ↦ st ]) ≡ st)
        ⊎ ((elim b as (λ _. NodeState) [ true ↦ turn sizes plan.probation me e st | false ↦ st ]).epoch ≡ k)
    turned e true h = inr (eqb-true e k h)
    turned e false h = inl refl

    by : (o : Option ℕ) → ((elim (is_tick o k) as (λ _. NodeState) [ true ↦ elim o as (λ _. NodeState) [ None ↦ st | Some e ↦ turn sizes plan.probation me e st ] | false ↦ st ]) ≡ st)
        ⊎ ((elim (is_tick o k) as (λ _. NodeState) [ true ↦ elim o as (λ _. NodeState) [ None ↦ st | Some e ↦ turn sizes plan.probation me e st ] | false ↦ st ]).epoch ≡ k)
    by None = inl refl
    by (Some e) = turned e (e == k) refl

pub first-pends : {sc hands sent now me i p s st a : _}
    → NodeStands sc hands sent now me i p s st a → s.core.had ≡ st.epoch → PendsFirst sc hands me i p s
first-pends {sc} {hands} {me} {i} {p} {s} {st} {a} h had =
    let n : ℕ = (moment sc hands p).window in
    let word : ℕ = word_at sc (moment sc hands p) me i st in
    let next : IsNext sc.sizes sc.plan me i s.core.state s.core.had a.tick = h.receives.is_next in
    let le : s.core.had ≤ a.tick = next.later in
    let like : Like sc.sizes sc.plan me i st (state_in sc.sizes sc.plan me i st n word a.tick) = like-in sc.sizes sc.plan me i st n word a.tick in
    let then_epoch : (state_at sc.sizes sc.plan me s.core.state a.tick).epoch ≡ st.epoch = ap (λ (z : NodeState). z.epoch) h.stands.now ∙ like.epoch in
    let first : a.tick ≡ st.epoch = elim (cases_lt s.core.had a.tick) [
      | inr ge ↦ omega (arith, le, ge, had)
      | inl lt ↦
          let quiet : IsQuiet sc.sizes sc.plan me i s.core.state s.core.had = quiet-from sc.sizes sc.plan me i s.core.state s.core.had (next.quiet_before s.core.had (omega arith) lt) in
          elim (state-epoch sc.sizes sc.plan me s.core.state a.tick) [
            | inl same ↦
                let at : s.core.state.epoch ≡ s.core.had = ap (λ (z : NodeState). z.epoch) (sym same) ∙ then_epoch ∙ sym had in
                absurd (true-false (sym (eq-eqb s.core.state.epoch s.core.had at) ∙ quiet.no_begin))
            | inr turned ↦ absurd (omega (arith, lt, had, then_epoch, turned))
          ]
    ] in
    record { a = a; st = st; ahead = h.receives.pends; state = h.state; first = first }

-- A tick.

told-open : {sc : Scenario} {hands : List HandIn} {sent : Side → ℕ → ℕ → Bool} {ports : List PortState} {me : Side} {i p : ℕ} {s : Site} {st : NodeState} {a : Timed} {x : Act}
    → slice_get (of_kind me (moment sc hands p).nodes) i ≡ Some st → st.frame ≡ (moment sc hands p).frame → s.ahead ≡ Some a
    → StaysOpen sc hands sent a.time ports me i p s st a.tick x → HasTold sc hands me i p s → HasTold sc hands me i p (after_act sc ports me i x s)
told-open {sc} {hands} {ports} {me} {i} {p} {s} {a} {x} there frame pend stays h = record {
  row = λ q stage before near.
      let old = h.row q stage before near in
      (old.0, (ap (λ (z : Site). z.row) stays.site ∙ old.1.0, old.1.1));
  begun = λ first runs.
      inl (told-begun sc hands ports me i p a.tick s (after_act sc ports me i x s) x there frame
      (λ b e. sym (ap (λ (a : Timed). a.tick) (same_Some a b (sym pend ∙ e)))) stays.act.epoch (ap (λ (z : Site). z.begun) stays.site)
      (h.begun first (sym (ap (λ (z : Site). z.runs) stays.site) ∙ runs)));
}

four-is : {n : ℕ} → n ≡ 4 → (n == 4) ≡ true
four-is e = grind (arith, nat_tests)

four-not : {n : ℕ} (k : ℕ) → n ≡ k % 3 + 1 → (n == 4) ≡ false
four-not {n} k e = let lt : k % 3 < 3 = omega arith in less-not n (omega arith)
  where
    less-not : (n : ℕ) → n < 4 → (n == 4) ≡ false
    less-not n h = grind (arith, nat_tests)

told-closed : {sc : Scenario} {hands : List HandIn} {sent : Side → ℕ → ℕ → Bool} {ports : List PortState} {me : Side} {i p : ℕ} {s : Site} {st : NodeState} {a : Timed} {x : Act}
    → (moment sc hands p).window ≤ stages_in sc.sizes → st.frame ≡ (moment sc hands p).frame
    → (closes : ClosesWindow sc hands sent ports me i p s st a x) → p < closes.q → HasTold sc hands me i p s → HasTold sc hands me i closes.q (after_act sc ports me i x s)
told-closed {sc} {hands} {ports} {me} {i} {p} {s} {st} {x} within frame closes later h =
    let m : Moment = moment sc hands p in
    let r : ℕ = closes.q in
    let stage_of : ℕ = (window_in sc m me st).stage in
    let its : Option Row = (go_through sc m (sent_in sc m) me i st (window_in sc m me st)).row in
    let next : NextIsStage sc hands p = next-is-stage sc hands p within in
    let not_between : (q : ℕ) → (moment sc hands q).window < stages_in sc.sizes → p < q → q < r → ⊥ =
    λ q stage after before. elim closes.place [
      | inl is ↦ let tail = next.between q after (omega (arith, is, before)) in omega (arith, tail.0, stage)
      | inr tail ↦ omega (arith, tail.0, after, before)
    ] in
    record {
      row = λ q stage before near. elim (cases_lt m.window (stages_in sc.sizes)) [
        | inr tail ↦
            let four : (stage_of == 4) ≡ true = four-is (tail-stage sc.sizes sc.plan me st (omega arith)) in
            let same : (after_act sc ports me i x s).row ≡ s.row = closes.row ∙ ap (λ b. elim b as (λ _. Option Row) [ true ↦ s.row | false ↦ its ]) four in
            elim (cases_lt q p) [
              | inl lt ↦
                  let old = h.row q stage lt (omega (arith, later, near)) in
                  (old.0, (same ∙ old.1.0, old.1.1))
              | inr ge ↦ elim (cases_lt p q) [
                | inl after ↦ absurd (not_between q stage after before)
                | inr le ↦
                    let is : p ≡ q = omega (arith, ge, le) in
                    let w : (moment sc hands p).window < stages_in sc.sizes = subst (λ q. (moment sc hands q).window < stages_in sc.sizes) (sym is) stage in
                    absurd (omega (arith, w, tail))
              ]
            ]
        | inl own ↦
            let other : (stage_of == 4) ≡ false = four-not m.window (stage-is-of sc.sizes sc.plan me st m.window own) in
            let row : Row = _ in
            let is_row : its ≡ Some row = closes.told.1.1 in
            let same : (after_act sc ports me i x s).row ≡ Some row = closes.row ∙ ap (λ b. elim b as (λ _. Option Row) [ true ↦ s.row | false ↦ its ]) other ∙ is_row in
            let place : row.place ≡ place_at sc.sizes m = row-place sc m me i st (window_in sc m me st) is_row ∙ place-is sc m me st own frame in
            elim (cases_lt q p) [
              | inl lt ↦
                  let passed : NextIsStage sc hands q = next-is-stage sc hands q (omega arith) in
                  let tail = passed.between p lt (omega (arith, later, near)) in
                  absurd (omega (arith, tail.0, own))
              | inr ge ↦ elim (cases_lt p q) [
                | inl after ↦ absurd (not_between q stage after before)
                | inr le ↦
                    let is : p ≡ q = omega (arith, ge, le) in
                    (row, (same, place ∙ ap (λ q. place_at sc.sizes (moment sc hands q)) is))
              ]
            ]
      ];
      begun = λ first runs. elim closes.goes [
        | inl on ↦
            let none : first_of sc.sizes sc.plan me on.st (moment sc hands r).window ≡ 0 = first-zero sc.sizes sc.plan me on.st (moment sc hands r).window first in
            inr (first-pends on.stands (omega (arith, on.had, none)))
        | inr off ↦ absurd (true-false (sym runs ∙ off.runs))
      ];
    }
  where
    first-zero : (sizes : Sizes) (plan : Plan) (me : Side) (st : NodeState) (n : ℕ) → n ≡ 0 → first_of sizes plan me st n ≡ 0
    first-zero sizes plan me st n e =
        let z : first_of sizes plan me st 0 ≡ 0 * plan.l = first-same sizes plan me st 0 (omega arith) in
        ap (first_of sizes plan me st) e ∙ omega (arith, z)

pub so-far-after : {sc : Scenario} {hands : List HandIn} {at : Side → ℕ → ℕ} {sites : Each Site} {ports : List PortState} {me : Side} {i : ℕ} {s : Site} {a : Timed} {x : Act}
    → s.ahead ≡ Some a → (after : AfterTick sc hands at sites ports me i s a x) → HasTold sc hands me i (at me i) s → HasTold sc hands me i after.r (after_act sc ports me i x s)
so-far-after {sc} {hands} {at} {ports} {me} {i} {s} {x} pend after h =
    elim after.node [
      | inl stays ↦
          subst (λ r. HasTold sc hands me i r (after_act sc ports me i x s)) (sym stays.0)
          (told-open after.there after.frame pend stays.1 h)
      | inr closes ↦
          subst (λ r. HasTold sc hands me i r (after_act sc ports me i x s)) closes.1.1.0
          (told-closed after.stands.window after.frame closes.1.0
          (subst (λ r. at me i < r) (sym closes.1.1.0) closes.0) h)
    ]

-- All nodes.

-- what a node has told stays if nothing changes of it
kept : {sc : Scenario} {hands : List HandIn} {side : Side} {j p : ℕ} {z : Site} (y : Site) → y.row ≡ z.row → y.begun ≡ z.begun → y.ahead ≡ z.ahead → y.runs ≡ z.runs
    → HasTold sc hands side j p z → HasTold sc hands side j p y
kept y row begun ahead runs h = record {
  row = λ q stage before near. let old = h.row q stage before near in (old.0, (row ∙ old.1.0, old.1.1));
  begun = λ first on. elim (h.begun first (sym runs ∙ on)) [
    | inl told ↦ inl (told.0, (begun ∙ told.1.0, told.1.1))
    | inr pends ↦ inr (record { a = pends.a; st = pends.st; ahead = ahead ∙ pends.ahead; state = pends.state; first = pends.first })
  ];
}

so-far-reached : {sc hands : _} (me : Side) (i frame k : ℕ) (m : Option Message) (side : Side) (j p : ℕ) (z : Site)
    → HasTold sc hands side j p z → HasTold sc hands side j p (reached sc me i frame k m side j z)
so-far-reached {sc} me i frame k m side j p z h =
    let tells = reached-tells sc me i frame k m side j z in
    let same = reached-same sc me i frame k m side j z in
    kept (reached sc me i frame k m side j z) tells.0 tells.1 same.ahead same.runs h

abbrev pub AllHaveTold : Scenario → List HandIn → (Side → ℕ → ℕ) → Each Site → Type 0
AllHaveTold sc hands at sites = (me : Side) (i : ℕ) (s : Site) → slice_get (of_kind me sites) i ≡ Some s → HasTold sc hands me i (at me i) s

pub all-have-told : {sc hands at sites me i : _} (frame k : ℕ) {r : ℕ} (m : Option Message) (change : Site → Site) {s : _}
    → slice_get (of_kind me sites) i ≡ Some s → HasTold sc hands me i r (change s) → AllHaveTold sc hands at sites
    → AllHaveTold sc hands (moved me i r at) (with_message sc me i frame k m (at_node me i change sites))
all-have-told {sc} {hands} {at} {sites} {me} {i} frame k {r} m change there new all =
    one-changes (HasTold sc hands) sc at sites me i frame k r m change (so-far-reached me i frame k m) there new
    (λ side j z other e. all side j z e)

-- An arrival, a hand-in, and the first world.

pub arrival-keeps : (sc : Scenario) (me : Side) (i n : ℕ) (c : Coming) (s : Site)
    → ((after_arrival sc me i n c s).row ≡ s.row) × (((after_arrival sc me i n c s).begun ≡ s.begun) × (((after_arrival sc me i n c s).ahead ≡ s.ahead) × ((after_arrival sc me i n c s).runs ≡ s.runs)))
unfolding after_arrival
arrival-keeps sc me i n c s = (refl, (refl, (refl, refl)))

pub entered-core : (sc : Scenario) (me : Side) (i : ℕ) (o : Option Span) (s : Site) → (enter sc me i o s).core ≡ s.core
entered-core sc me i None s = refl
entered-core sc me i (Some span) s = by (is_good sc me i span.place.frame span.place.slot)
  where
    by : (b : Bool) → (elim b as (λ _. Site) [ true ↦ await sc me i (says_in sc me i span) s | false ↦ stop s ]).core ≡ s.core
    by true = refl
    by false = refl

pub proceed-core : (sc : Scenario) (me : Side) (i : ℕ) (s : Site) → (proceed sc me i s).core ≡ s.core
unfolding proceed
proceed-core sc me i s = entered-core sc me i (span_from sc.sizes sc.plan me s.core.state s.core.had) s

proceed-had : (sc : Scenario) (me : Side) (i : ℕ) → (proceed sc me i (fresh_site sc.sizes me)).core ≡ (fresh_site sc.sizes me).core
unfolding proceed
proceed-had sc me i =
    let s : Site = fresh_site sc.sizes me in
    entered-core sc me i (span_from sc.sizes sc.plan me s.core.state s.core.had) s

first-had : (sc : Scenario) (me : Side) (i : ℕ) {s : _} → slice_get (of_kind me (first_world sc).sites) i ≡ Some s → s.core.had ≡ 0
unfolding first_world
first-had sc me i {s} e =
    let make : Side → ℕ → Site = λ me i. proceed sc me i (fresh_site sc.sizes me) in
    let within : i < length (of_kind me (each_of sc.sizes make)) = slice_get_within (of_kind me (each_of sc.sizes make)) i s e in
    let long : length (of_kind me (each_of sc.sizes make)) ≡ count_of me sc.sizes = first-counts sc.sizes make me in
    let same : make me i ≡ s = same_Some (make me i) s (sym (get-made sc.sizes make me i (omega arith)) ∙ e) in
    ap (λ (z : Site). z.core.had) (sym same) ∙ ap (λ (c : Core). c.had) (proceed-had sc me i)

pub so-far-arrival : {sc hands at sites : _} (me : Side) (i n : ℕ) (c : Coming)
    → AllHaveTold sc hands at sites → AllHaveTold sc hands at (at_node me i (after_arrival sc me i n c) sites)
so-far-arrival {sc} {hands} {at} {sites} me i n c all side j z e =
    let change : Site → Site = after_arrival sc me i n c in
    let was = option_map-back (λ s. elim (is_node me i side j) as (λ _. Site) [ true ↦ change s | false ↦ s ]) (slice_get (of_kind side sites) j) z (sym (get-at me side i j change sites) ∙ e) in
    subst (HasTold sc hands side j (at side j)) was.1.1 (by (is_node me i side j) was.0 (all side j was.0 was.1.0))
  where
    same : (s : Site) → ((after_arrival sc me i n c s).row ≡ s.row) × (((after_arrival sc me i n c s).begun ≡ s.begun) × (((after_arrival sc me i n c s).ahead ≡ s.ahead) × ((after_arrival sc me i n c s).runs ≡ s.runs)))
    same s = arrival-keeps sc me i n c s

    by : (b : Bool) (s : Site) → HasTold sc hands side j (at side j) s
        → HasTold sc hands side j (at side j) (elim b as (λ _. Site) [ true ↦ after_arrival sc me i n c s | false ↦ s ])
    by true s h = let k = same s in kept (after_arrival sc me i n c s) k.0 k.1.0 k.1.1.0 k.1.1.1 h
    by false s h = h

pub so-far-handed : {sc hands : _} (h : HandIn) {at sites : _} → AreEarly sc at sites h.frame
    → AllHaveTold sc hands at sites → AllHaveTold sc (hands ++ h ∷ []) at sites
so-far-handed {sc} {hands} h {at} early told me i s there =
    let more : List HandIn = hands ++ h ∷ [] in
    let le : at me i ≤ h.frame * (windows_in sc.sizes + 1) + 1 = early.early me i s there in
    let its : HasTold sc hands me i (at me i) s = told me i s there in
    let alike : (q : ℕ) → q ≤ at me i → Alike sc (moment sc hands q) (moment sc more q) = λ q before. handed-alike sc hands h q (omega (arith, le, before, early.some_biu)) in
    let Begins : Moment → Type 0 = λ (y : Moment). y.window ≡ 0 → s.runs ≡ true → ((b : Begun) × ((s.begun ≡ Some b) × (b.frame ≡ y.frame)))
    ⊎ ((a : Timed) × ((s.ahead ≡ Some a) × ((st : NodeState) × ((slice_get (of_kind me y.nodes) i ≡ Some st) × (a.tick ≡ st.epoch))))) in
    let old : Begins (moment sc hands (at me i)) = λ first runs. elim (its.begun first runs) [
      | inl b ↦ inl b
      | inr pends ↦ inr (pends.a, (pends.ahead, (pends.st, (pends.state, pends.first))))
    ] in
    let now : Begins (moment sc more (at me i)) = subst Begins (sym (alike (at me i) (omega arith)).is) old in
    record {
      row = λ q stage before near.
          subst (λ (y : Moment). y.window < stages_in sc.sizes → at me i ≤ next_stage sc.sizes y q → (row : Row) × ((s.row ≡ Some row) × (row.place ≡ place_at sc.sizes y)))
          (sym (alike q (omega (arith, before))).is) (λ stage near. its.row q stage before near) stage near;
      begun = λ first runs. elim (now first runs) [
        | inl b ↦ inl b
        | inr pends ↦ inr (record { a = pends.0; st = pends.1.1.0; ahead = pends.1.0; state = pends.1.1.1.0; first = pends.1.1.1.1 })
      ];
    }

pub so-far-first : {sc hands now : _} → SitesStand sc hands now at_begin (first_world sc).sites → AllHaveTold sc hands at_begin (first_world sc).sites
so-far-first {sc} {hands} {now} stand me i s there = record {
  row = λ q stage before. absurd (omega (arith, before));
  begun = λ first runs.
      let up : IsUp sc hands (sent_by sc hands at_begin (first_world sc).sites) now me i 0 s = stand.up me i s there runs in
      let had : s.core.had ≡ 0 = first-had sc me i there in
      let from : up.st.epoch + first_of sc.sizes sc.plan me up.st (moment sc hands 0).window ≤ s.core.had = up.stands.from in
      inr (first-pends up.stands (omega (arith, had, from)));
}
