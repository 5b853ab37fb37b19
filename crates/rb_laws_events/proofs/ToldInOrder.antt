-- For the law that events are rounds: what a node has told is of moments before that in which it
-- stands, and no node is more than a stage ahead of one that runs.
use Rattle.std.proofs.{Common.{◌≡◌, ℕ, suc, ◌+◌, ◌-◌, ◌*◌, ◌%◌, ◌<◌, ◌≤◌, ◌==◌, ◌⊎◌, Bool, true, false, List, refl, ap, sym, ◌∙◌, subst, arith, inl, inr, Option, Some, None, slice_get, if◌then◌else◌}, lemmas.Bool.{cases_lt, lt-ltb, le-ltb}, lemmas.Bool.Decides.nat_tests, lemmas.Option.same_Some}
use Rattle.rb_base.specs.{Nodes.Side, Sizes.{Sizes, sync_slot_of}, declared.values.Place.Place}
use Rattle.rb_base.proofs.Plain.{option_map-back}
use Rattle.rb_rules.specs.{declared.message.Message.Message, declared.record.Epoch.Epoch, Book.{Begun, Each, Row, of_kind}, Clock.time_of, Core.{Act, epoch_at}, Goodness.{Scenario, is_good, clock_of}, Hearing.{begun_of, epoch_of}, NodeState.NodeState, Ports.{HandIn, PortState}, Rounds.{Moment, go_through, moment, sent_in, window_in, windows_in}, WorldStep.{Site, Timed, after_act, at_node, with_message}}
use Rattle.rb_rules.proofs.{Drift.times_rise_to, RoundStates.HasTicks}
use Rattle.rb_laws_events.specs.Closing.{stages_in}
use Rattle.rb_laws_events.proofs.{CloseOrder.{IsWindowLater, window-later}, Invariant.{InTime, is_good_at, last_tick, next_stage, word_at}, MomentBooks.{number-of, place_at}, MomentSteps.{NextIsStage, good-state, next-is-stage}, NodeClosing.ClosesWindow, NodeEvents.{StaysOpen, begun_after}, NodeTicks.{Like, like-in, state_in}, RoundNodes.slot_numbered, Telling.{place-is, reached-tells, row-place, tail-stage}, Timing.{AreInTime, HavePassed}, WorldEvents.{AfterTick, state-frame}, WorldStands.{IsUp, SitesStand, is_node, node-is, sent_by}, WorldTicks.{after_tick, get-after, moved, reached, reached-same}}

-- Numbers.

-- the number of the moment of a stage
abbrev pub number_at : Sizes → Place → ℕ
number_at sizes place = place.frame * (windows_in sizes + 1) + (3 * place.slot + place.stage - 1)

pub number-is : (sc : Scenario) (hands : List HandIn) (q : ℕ) → (moment sc hands q).window < stages_in sc.sizes → number_at sc.sizes (place_at sc.sizes (moment sc hands q)) ≡ q
number-is sc hands q stage =
    let m : Moment = moment sc hands q in
    let window : 3 * slot_numbered sc.sizes m.window + (m.window % 3 + 1) - 1 ≡ m.window = omega arith in
    ap (λ w. m.frame * (windows_in sc.sizes + 1) + w) window ∙ sym (number-of sc hands q).0

-- One node.

-- what node i of a kind, which stands in moment p, has told is of earlier moments, or of the start
-- of that one, if that start is past
pub record NodeTold (sc : Scenario) (hands : List HandIn) (me : Side) (i p : ℕ) (s : Site) : Type 0 where
  pub row : (row : Row) → s.row ≡ Some row → number_at sc.sizes row.place < p
  pub begun : (b : Begun) → s.begun ≡ Some b → b.frame * (windows_in sc.sizes + 1) ≤ p
  pub fresh : (b : Begun) (a : Timed) (st : NodeState) → s.begun ≡ Some b → b.frame ≡ (moment sc hands p).frame → (moment sc hands p).window ≡ 0
      → s.ahead ≡ Some a → slice_get (of_kind me (moment sc hands p).nodes) i ≡ Some st → st.epoch < a.tick
  pub was_good : (q : ℕ) → q < p → is_good_at sc (moment sc hands q) me i ≡ true

-- what a node tells of a start is of its own frame and tick
begun-then : (sc : Scenario) (ports : List PortState) (me : Side) (i k : ℕ) (y : NodeState) (o : Option Begun) {b : _}
    → begun_after sc ports me i (epoch_at sc.sizes me y k) o ≡ Some b → ((b.frame ≡ y.frame) × (y.epoch ≡ k)) ⊎ (o ≡ Some b)
begun-then sc ports me i k y o {b} = by (y.epoch == k) refl
  where
    same-number : (a b : ℕ) → (a == b) ≡ true → a ≡ b
    same-number a b h = grind (arith, nat_tests)

    by : (t : Bool) → (y.epoch == k) ≡ t
        → begun_after sc ports me i (elim t as (λ _. Option Epoch) [ true ↦ Some (epoch_of sc.sizes me y) | false ↦ None ]) o ≡ Some b
        → ((b.frame ≡ y.frame) × (y.epoch ≡ k)) ⊎ (o ≡ Some b)
    by true f e = inl (sym (ap (λ (b : Begun). b.frame) (same_Some (begun_of sc ports me i (epoch_of sc.sizes me y)) b e)), same-number y.epoch k f)
    by false f e = inr e

-- the state of a tick has the frame and the first tick of the window's
pub begun-at : (sc : Scenario) (hands : List HandIn) (ports : List PortState) (me : Side) (i p k word : ℕ) (st : NodeState) {e : _} (o : Option Begun) {b : _}
    → e ≡ epoch_at sc.sizes me (state_in sc.sizes sc.plan me i st (moment sc hands p).window word k) k → st.frame ≡ (moment sc hands p).frame
    → begun_after sc ports me i e o ≡ Some b → ((b.frame ≡ (moment sc hands p).frame) × (st.epoch ≡ k)) ⊎ (o ≡ Some b)
begun-at sc hands ports me i p k word st {e} o epoch frame is =
    let n : ℕ = (moment sc hands p).window in
    let y : NodeState = state_in sc.sizes sc.plan me i st n word k in
    let like : Like sc.sizes sc.plan me i st y = like-in sc.sizes sc.plan me i st n word k in
    elim (begun-then sc ports me i k y o (sym (ap (λ e. begun_after sc ports me i e o) epoch) ∙ is)) [
      | inl new ↦ inl (new.0 ∙ state-frame sc me i st n word k ∙ frame, sym like.epoch ∙ new.1)
      | inr old ↦ inr old
    ]

frame-within : (sc : Scenario) (hands : List HandIn) (p : ℕ) {frame : ℕ} → frame ≡ (moment sc hands p).frame → frame * (windows_in sc.sizes + 1) ≤ p
frame-within sc hands p {frame} e =
    let number = number-of sc hands p in
    let f : frame * (windows_in sc.sizes + 1) ≡ (moment sc hands p).frame * (windows_in sc.sizes + 1) = ap (λ f. f * (windows_in sc.sizes + 1)) e in
    omega (arith, number.0, f)

-- a node that is good in the sync slot is good up to the end of the frame
good-late : (sc : Scenario) (hands : List HandIn) (p : ℕ) (me : Side) (i : ℕ) → 3 * sync_slot_of sc.sizes ≤ (moment sc hands p).window
    → (moment sc hands p).window < windows_in sc.sizes → is_good_at sc (moment sc hands p) me i ≡ true → is_good_at sc (moment sc hands (suc p)) me i ≡ true
good-late sc hands p me i late inside good =
    let m : Moment = moment sc hands p in
    let next : IsWindowLater sc m (moment sc hands (suc p)) = window-later sc hands m inside in
    let slot : slot_numbered sc.sizes (m.window + 1) ≡ slot_numbered sc.sizes m.window = omega arith in
    ap (λ f. is_good sc me i f (slot_numbered sc.sizes (moment sc hands (suc p)).window)) next.frame
    ∙ ap (λ w. is_good sc me i m.frame (slot_numbered sc.sizes w)) next.window
    ∙ ap (is_good sc me i m.frame) slot ∙ good

-- a node is good in all moments between a window and its own moment after it
good-between : (sc : Scenario) (hands : List HandIn) (p r : ℕ) (me : Side) (i : ℕ) → (moment sc hands p).window ≤ stages_in sc.sizes
    → (r ≡ next_stage sc.sizes (moment sc hands p) p) ⊎ ((r ≡ suc p) × ((moment sc hands r).window ≡ stages_in sc.sizes))
    → is_good_at sc (moment sc hands p) me i ≡ true → (q : ℕ) → p < q → q < r → is_good_at sc (moment sc hands q) me i ≡ true
good-between sc hands p r me i within (inr tail) good q after before = absurd (omega (arith, tail.0, after, before))
good-between sc hands p r me i within (inl stage) good q after before =
    let m : Moment = moment sc hands p in
    elim (cases_lt (m.window + 1) (stages_in sc.sizes)) [
      | inl inner ↦
          let is : r ≡ p + 1 = stage ∙ ap (λ b. p + (if b then 1 else windows_in sc.sizes + 1 - m.window)) (lt-ltb (m.window + 1) (stages_in sc.sizes) inner) in
          absurd (omega (arith, is, after, before))
      | inr outer ↦
          let is : r ≡ p + (windows_in sc.sizes + 1 - m.window) =
          stage ∙ ap (λ b. p + (if b then 1 else windows_in sc.sizes + 1 - m.window)) (le-ltb (m.window + 1) (stages_in sc.sizes) outer) in
          let one : is_good_at sc (moment sc hands (suc p)) me i ≡ true = good-late sc hands p me i (omega arith) (omega arith) good in
          elim (cases_lt (suc p) q) [
            | inr le ↦ let same : suc p ≡ q = omega (arith, le, after) in subst (λ q. is_good_at sc (moment sc hands q) me i ≡ true) same one
            | inl more ↦
                let next : IsWindowLater sc m (moment sc hands (suc p)) = window-later sc hands m (omega arith) in
                let w : (moment sc hands (suc p)).window ≡ m.window + 1 = next.window in
                let same : suc (suc p) ≡ q = omega (arith, is, outer, more, before) in
                subst (λ q. is_good_at sc (moment sc hands q) me i ≡ true) same
                (good-late sc hands (suc p) me i (omega arith) (omega (arith, is, outer, more, before, w)) one)
          ]
    ]

-- A tick.

-- the row of a window is of its moment
pub row-of-window : (sc : Scenario) (hands : List HandIn) (me : Side) (i p : ℕ) (st : NodeState) (s : Site) {row : _} → (moment sc hands p).window ≤ stages_in sc.sizes
    → st.frame ≡ (moment sc hands p).frame
    → (elim ((window_in sc (moment sc hands p) me st).stage == 4) as (λ _. Option Row) [
      | true ↦ s.row
      | false ↦ (go_through sc (moment sc hands p) (sent_in sc (moment sc hands p)) me i st (window_in sc (moment sc hands p) me st)).row
    ]) ≡ Some row → (s.row ≡ Some row) ⊎ (number_at sc.sizes row.place ≡ p)
row-of-window sc hands me i p st s {row} within frame = by ((window_in sc (moment sc hands p) me st).stage == 4) refl
  where
    four-not : (n : ℕ) → n ≡ 4 → (n == 4) ≡ false → ⊥
    four-not n e f = grind (arith, nat_tests)

    by : (b : Bool) → ((window_in sc (moment sc hands p) me st).stage == 4) ≡ b
        → (elim b as (λ _. Option Row) [
          | true ↦ s.row
          | false ↦ (go_through sc (moment sc hands p) (sent_in sc (moment sc hands p)) me i st (window_in sc (moment sc hands p) me st)).row
        ]) ≡ Some row → (s.row ≡ Some row) ⊎ (number_at sc.sizes row.place ≡ p)
    by true f e = inl e
    by false f e =
        let m : Moment = moment sc hands p in
        let stage : m.window < stages_in sc.sizes = elim (cases_lt m.window (stages_in sc.sizes)) [
          | inl lt ↦ lt
          | inr ge ↦ absurd (four-not (window_in sc m me st).stage (tail-stage sc.sizes sc.plan me st (omega arith)) f)
        ] in
        let place : row.place ≡ place_at sc.sizes m = row-place sc m me i st (window_in sc m me st) e ∙ place-is sc m me st stage frame in
        inr (ap (number_at sc.sizes) place ∙ number-is sc hands p stage)

told-open : {sc : Scenario} {hands : List HandIn} {sent : Side → ℕ → ℕ → Bool} {ports : List PortState} {me : Side} {i p : ℕ} {s : Site} {st : NodeState} {a : Timed} {x : Act}
    → slice_get (of_kind me (moment sc hands p).nodes) i ≡ Some st → st.frame ≡ (moment sc hands p).frame → s.ahead ≡ Some a
    → StaysOpen sc hands sent a.time ports me i p s st a.tick x → NodeTold sc hands me i p s → NodeTold sc hands me i p (after_act sc ports me i x s)
told-open {sc} {hands} {ports} {me} {i} {p} {s} {st} {a} {x} there frame pend stays h =
    let word : ℕ = word_at sc (moment sc hands p) me i st in
    let later : a.tick < stays.a.tick =
    let had : x.core.had ≡ a.tick + 1 = stays.act.had in
    let site : (after_act sc ports me i x s).core ≡ x.core = ap (λ (z : Site). z.core) stays.site in
    let le : (after_act sc ports me i x s).core.had ≤ stays.a.tick = stays.stands.receives.is_next.later in
    let same : (after_act sc ports me i x s).core.had ≡ x.core.had = ap (λ c. c.had) site in
    omega (arith, had, le, same) in
    let begun_is : (after_act sc ports me i x s).begun ≡ begun_after sc ports me i x.epoch s.begun = ap (λ (z : Site). z.begun) stays.site in
    let ahead_is : (after_act sc ports me i x s).ahead ≡ Some stays.a = ap (λ (z : Site). z.ahead) stays.site in
    record {
      row = λ row e. h.row row (sym (ap (λ (z : Site). z.row) stays.site) ∙ e);
      begun = λ b e. elim (begun-at sc hands ports me i p a.tick word st s.begun stays.act.epoch frame (sym begun_is ∙ e)) [
        | inl new ↦ frame-within sc hands p new.0
        | inr old ↦ h.begun b old
      ];
      fresh = λ b a2 st2 e same first pend2 there2.
          let st_is : st ≡ st2 = same_Some st st2 (sym there ∙ there2) in
          let a_is : stays.a ≡ a2 = same_Some stays.a a2 (sym ahead_is ∙ pend2) in
          let tick : stays.a.tick ≡ a2.tick = ap (λ (a : Timed). a.tick) a_is in
          let epoch : st.epoch ≡ st2.epoch = ap (λ (z : NodeState). z.epoch) st_is in
          elim (begun-at sc hands ports me i p a.tick word st s.begun stays.act.epoch frame (sym begun_is ∙ e)) [
            | inl new ↦ omega (arith, new.1, later, tick, epoch)
            | inr old ↦ let was : st.epoch < a.tick = h.fresh b a st old same first pend there in omega (arith, was, later, tick, epoch)
          ];
      was_good = h.was_good;
    }

told-closed : {sc : Scenario} {hands : List HandIn} {sent : Side → ℕ → ℕ → Bool} {ports : List PortState} {me : Side} {i p : ℕ} {s : Site} {st : NodeState} {a : Timed} {x : Act}
    → (moment sc hands p).window ≤ stages_in sc.sizes → is_good_at sc (moment sc hands p) me i ≡ true → st.frame ≡ (moment sc hands p).frame
    → (closes : ClosesWindow sc hands sent ports me i p s st a x) → p < closes.q → NodeTold sc hands me i p s → NodeTold sc hands me i closes.q (after_act sc ports me i x s)
told-closed {sc} {hands} {ports} {me} {i} {p} {s} {st} {a} {x} within good frame closes later h =
    let word : ℕ = word_at sc (moment sc hands p) me i st in
    let q : ℕ = closes.q in
    let before : (b : Begun) → (after_act sc ports me i x s).begun ≡ Some b → b.frame * (windows_in sc.sizes + 1) ≤ p = λ b e.
    elim (begun-at sc hands ports me i p a.tick word st s.begun closes.act.epoch frame (sym closes.begun ∙ e)) [
      | inl new ↦ frame-within sc hands p new.0
      | inr old ↦ h.begun b old
    ] in
    record {
      row = λ row e. elim (row-of-window sc hands me i p st s within frame (sym closes.row ∙ e)) [
        | inl old ↦ let lt : number_at sc.sizes row.place < p = h.row row old in omega (arith, lt, later)
        | inr is ↦ omega (arith, is, later)
      ];
      begun = λ b e. let le : b.frame * (windows_in sc.sizes + 1) ≤ p = before b e in omega (arith, le, later);
      fresh = λ b a2 st2 e same first pend2 there2.
          let le : b.frame * (windows_in sc.sizes + 1) ≤ p = before b e in
          let number = number-of sc hands q in
          let f : b.frame * (windows_in sc.sizes + 1) ≡ (moment sc hands q).frame * (windows_in sc.sizes + 1) = ap (λ f. f * (windows_in sc.sizes + 1)) same in
          absurd (omega (arith, le, number.0, f, first, later));
      was_good = λ z before. elim (cases_lt z p) [
        | inl lt ↦ h.was_good z lt
        | inr ge ↦ elim (cases_lt p z) [
          | inl after ↦ good-between sc hands p q me i within closes.place good z after before
          | inr le ↦ let is : p ≡ z = omega (arith, ge, le) in subst (λ z. is_good_at sc (moment sc hands z) me i ≡ true) is good
        ]
      ];
    }

pub told-after : {sc : Scenario} {hands : List HandIn} {at : Side → ℕ → ℕ} {sites : Each Site} {ports : List PortState} {me : Side} {i : ℕ} {s : Site} {a : Timed} {x : Act}
    → s.ahead ≡ Some a → (after : AfterTick sc hands at sites ports me i s a x) → NodeTold sc hands me i (at me i) s → NodeTold sc hands me i after.r (after_act sc ports me i x s)
told-after {sc} {hands} {at} {ports} {me} {i} {s} {x} pend after h =
    elim after.node [
      | inl stays ↦
          subst (λ r. NodeTold sc hands me i r (after_act sc ports me i x s)) (sym stays.0)
          (told-open after.there after.frame pend stays.1 h)
      | inr closes ↦
          subst (λ r. NodeTold sc hands me i r (after_act sc ports me i x s)) closes.1.1.0
          (told-closed after.stands.window after.good after.frame closes.1.0
          (subst (λ r. at me i < r) (sym closes.1.1.0) closes.0) h)
    ]

-- All nodes.

-- what a tick keeps at its node, and a message at the others, is kept at all nodes
pub one-changes : (P : Side → ℕ → ℕ → Site → Type 0) (sc : Scenario) (at : Side → ℕ → ℕ) (sites : Each Site) (me : Side) (i frame k r : ℕ) (m : Option Message) (change : Site → Site) {s : _}
    → ((side : Side) (j p : ℕ) (z : Site) → P side j p z → P side j p (reached sc me i frame k m side j z))
    → slice_get (of_kind me sites) i ≡ Some s → P me i r (change s)
    → ((side : Side) (j : ℕ) (z : Site) → is_node me i side j ≡ false → slice_get (of_kind side sites) j ≡ Some z → P side j (at side j) z)
    → (side : Side) (j : ℕ) (z : Site) → slice_get (of_kind side (with_message sc me i frame k m (at_node me i change sites))) j ≡ Some z → P side j (moved me i r at side j) z
one-changes P sc at sites me i frame k r m change {s} on there new all side j z e =
    let was = option_map-back (after_tick sc me i frame k m change side j) (slice_get (of_kind side sites) j) z (sym (get-after sc me i frame k m change sites side j) ∙ e) in
    let go : (d : Bool) → is_node me i side j ≡ d → reached sc me i frame k m side j (elim d as (λ _. Site) [ true ↦ change was.0 | false ↦ was.0 ]) ≡ z
    → P side j (elim d as (λ _. ℕ) [ true ↦ r | false ↦ at side j ]) z =
    λ d. elim d as (λ d. is_node me i side j ≡ d → reached sc me i frame k m side j (elim d as (λ _. Site) [ true ↦ change was.0 | false ↦ was.0 ]) ≡ z
    → P side j (elim d as (λ _. ℕ) [ true ↦ r | false ↦ at side j ]) z) [
      | true ↦ λ f g.
          let is = node-is me side i j f in
          let here : slice_get (of_kind me sites) i ≡ Some was.0 = sym (ap (λ y. slice_get (of_kind y sites) j) is.0 ∙ ap (slice_get (of_kind me sites)) is.1) ∙ was.1.0 in
          let s_is : s ≡ was.0 = same_Some s was.0 (sym there ∙ here) in
          let own : P side j r (change was.0) =
          subst (λ z. P side j r (change z)) s_is (subst (λ y. P y j r (change s)) (sym is.0) (subst (λ n. P me n r (change s)) (sym is.1) new)) in
          subst (P side j r) g (on side j r (change was.0) own)
      | false ↦ λ f g. subst (P side j (at side j)) g (on side j (at side j) was.0 (all side j was.0 f was.1.0))
    ] in
    go (is_node me i side j) refl was.1.1

told-reached : {sc hands : _} (me : Side) (i frame k : ℕ) (m : Option Message) (side : Side) (j p : ℕ) (z : Site)
    → NodeTold sc hands side j p z → NodeTold sc hands side j p (reached sc me i frame k m side j z)
told-reached {sc} me i frame k m side j p z h =
    let tells = reached-tells sc me i frame k m side j z in
    let pend = (reached-same sc me i frame k m side j z).ahead in
    record {
      row = λ row e. h.row row (sym tells.0 ∙ e);
      begun = λ b e. h.begun b (sym tells.1 ∙ e);
      fresh = λ b a st e same first ahead there. h.fresh b a st (sym tells.1 ∙ e) same first (sym pend ∙ ahead) there;
      was_good = h.was_good;
    }

abbrev pub AllTold : Scenario → List HandIn → (Side → ℕ → ℕ) → Each Site → Type 0
AllTold sc hands at sites = (me : Side) (i : ℕ) (s : Site) → slice_get (of_kind me sites) i ≡ Some s → NodeTold sc hands me i (at me i) s

pub all-told : {sc hands at sites me i : _} (frame k : ℕ) {r : ℕ} (m : Option Message) (change : Site → Site) {s : _}
    → slice_get (of_kind me sites) i ≡ Some s → NodeTold sc hands me i r (change s) → AllTold sc hands at sites
    → AllTold sc hands (moved me i r at) (with_message sc me i frame k m (at_node me i change sites))
all-told {sc} {hands} {at} {sites} {me} {i} frame k {r} m change there new all =
    one-changes (NodeTold sc hands) sc at sites me i frame k r m change (told-reached me i frame k m) there new
    (λ side j z other e. all side j z e)

-- Nobody is far ahead.

-- a node that runs closes its window before any node closes the next stage, so none has passed that
-- stage
pub near : (sc : Scenario) (hands : List HandIn) (now : ℕ) (at : Side → ℕ → ℕ) (sites : Each Site) → HasTicks sc.plan → AreInTime sc hands at → HavePassed sc hands now at
    → SitesStand sc hands now at sites → (me : Side) (i : ℕ) (s : Site) → slice_get (of_kind me sites) i ≡ Some s → s.runs ≡ true
    → (you : Side) (j : ℕ) (z : Site) → NodeTold sc hands you j (at you j) z → at you j ≤ next_stage sc.sizes (moment sc hands (at me i)) (at me i)
near sc hands now at sites ticks times passed stand me i s there runs you j z told =
    let p : ℕ = at me i in
    let m : Moment = moment sc hands p in
    let n : ℕ = next_stage sc.sizes m p in
    let up : IsUp sc hands (sent_by sc hands at sites) now me i p s = stand.up me i s there runs in
    elim (cases_lt n (at you j)) [
      | inr le ↦ le
      | inl lt ↦
          let next : NextIsStage sc hands p = next-is-stage sc hands p up.stands.stands.window in
          let good : is_good_at sc (moment sc hands n) you j ≡ true = told.was_good n lt in
          let state = good-state sc hands n you j ticks good in
          let gone : time_of (clock_of sc you j) (last_tick sc (moment sc hands n) you state.0) ≤ now = passed.passed you j n state.0 lt next.window state.1 good in
          let here : InTime sc m (moment sc hands n) = times.each me i up.stands.good in
          let order : time_of (clock_of sc me i) (last_tick sc m me up.st) < time_of (clock_of sc you j) (last_tick sc (moment sc hands n) you state.0) =
          here.order me you i j up.st state.0 up.stands.state up.stands.good state.1 good in
          let at_time : up.a.time ≡ time_of (clock_of sc me i) up.a.tick = up.stands.receives.at_time in
          let up_to : time_of (clock_of sc me i) up.a.tick ≤ time_of (clock_of sc me i) (last_tick sc m me up.st) =
          times_rise_to (clock_of sc me i) up.a.tick (last_tick sc m me up.st) up.stands.receives.in_window in
          let after : now ≤ up.a.time = up.stands.receives.tick_after in
          absurd (omega (arith, gone, order, at_time, up_to, after))
    ]
