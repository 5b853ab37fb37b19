-- For the law that events are rounds: an event keeps the ports of the nodes that run those of the
-- rounds, and what is handed in is of frames that all good nodes have begun.
use Rattle.std.proofs.{Common.{◌≡◌, ℕ, zero, suc, ◌+◌, ◌*◌, ◌<◌, ◌≤◌, ◌==◌, ◌&&◌, ◌⊎◌, nat_le, Bool, true, false, List, [], ◌∷◌, length, refl, ap, sym, ◌∙◌, subst, arith, inl, inr, Option, Some, None, slice_get, option_and_then, option_map}, lemmas.Bool.{cases_lt, eqb-true}, lemmas.Bool.Decides.nat_tests, lemmas.Nat.mul-le, lemmas.Option.same_Some}
use Rattle.rb_base.specs.{Nodes.Side, Nodes.Side.{Biu, Rmu}, Sizes.sync_slot_of, declared.values.Delivery.Delivery}
use Rattle.rb_base.proofs.Plain.{true-false}
use Rattle.rb_rules.specs.{declared.closing.Closed.Closed, declared.message.Message.Message, declared.plan.Window.Window, declared.record.Epoch.Epoch, declared.record.SlotLine.SlotLine, declared.sense.Sense.Sense, Book.{Begun, Each, line_in, of_kind}, Core.Act, ExactStage.{Outcome, close_exact, keep_sent, outcome_of}, Goodness.{Scenario, is_good}, Hearing.{Coming, begun_of, port_at, port_line, row_of}, NodeState.NodeState, Ports.{HandIn, PortState}, Rounds.{Moment, Result, begin_frame, close_on, go_through, heard_at, moment, sent_in, window_in, windows_in, word_for_window}, SyncStage.{close_sync, sync_outcome_of}, WorldStep.{Site, Timed, after_act, at_node, with_delivery, with_message}}
use Rattle.rb_rules.proofs.RoundStates.{HasTicks}
use Rattle.rb_laws_agreement.proofs.Goodnesses.{good_counts}
use Rattle.rb_laws_events.proofs.{CloseOrder.{IsWindowLater, frame-later, window-later}, DueEvents.every-weaker, Invariant.{is_good_at, word_at}, MomentBooks.number-of, NodeClosing.ClosesWindow, NodeEvents.begun_after, PortMoments.port-kept, PortsKept.{NoneHanded, none-over, port-then, ports-turned}, RoundNodes.slot_numbered, SameHeard.Every, SettlingFrames.ports_before, ToldInOrder.{AllTold, NodeTold, begun-at, one-changes}, Telling.reached-tells, Waiting.HasBegun, WorldEvents.AfterTick, WorldStands.{is_node, sent_by}, WorldTicks.{moved, reached-same}}

-- the ports of the BIUs that run are those of the rounds where they stand
abbrev pub PortsStand : Scenario → List HandIn → (Side → ℕ → ℕ) → Each Site → List PortState → Type 0
PortsStand sc hands at sites ports =
    (j : ℕ) (s : Site) → slice_get (of_kind Biu sites) j ≡ Some s → s.runs ≡ true → port_at sc ports j ≡ port_at sc (moment sc hands (at Biu j)).ports j

-- what is handed in is of frames that all good nodes have begun
abbrev pub AllHanded : Scenario → Each Site → List HandIn → Type 0
AllHanded sc sites hands = Every (λ h. HasBegun sc sites h.frame) hands

-- What is not handed in yet.

none-of : (frame : ℕ) (hands : List HandIn) (P : HandIn → Type 0) → ((h : HandIn) → P h → h.frame ≡ frame → ⊥) → Every P hands → NoneHanded frame hands
none-of frame [] P never all = tt
none-of frame (h ∷ hs) P never all = (by (h.frame == frame) refl, none-of frame hs P never all.1)
  where
    by : (b : Bool) → (h.frame == frame) ≡ b → (h.frame == frame) ≡ false
    by true e = absurd (never h all.0 (eqb-true h.frame frame e))
    by false e = e

-- the frame that a node enters begins for it
none-entered : {sc hands : _} (sites : Each Site) {me i p : _} (q : ℕ) {s : _} → AllHanded sc sites hands → slice_get (of_kind me sites) i ≡ Some s
    → NodeTold sc hands me i p s → p < q → is_good_at sc (moment sc hands q) me i ≡ true → (moment sc hands q).window ≡ 0 → NoneHanded (moment sc hands q).frame hands
none-entered {sc} {hands} sites {me} {i} {p} q {s} all there told later good first =
    let m : Moment = moment sc hands q in
    let slot : slot_numbered sc.sizes m.window ≡ 0 = omega (arith, first) in
    let here : is_good sc me i m.frame 0 ≡ true = ap (is_good sc me i m.frame) (sym slot) ∙ good in
    none-of m.frame hands (λ h. HasBegun sc sites h.frame)
    (λ h begun same.
    let b = begun me i s there (ap (λ f. is_good sc me i f 0) same ∙ here) in
    let le : b.0.frame * (windows_in sc.sizes + 1) ≤ p = told.begun b.0 b.1.0 in
    let number = number-of sc hands q in
    let up : h.frame * (windows_in sc.sizes + 1) ≤ b.0.frame * (windows_in sc.sizes + 1) = mul-le h.frame (windows_in sc.sizes + 1) b.0.frame (windows_in sc.sizes + 1) b.1.1 (omega arith) in
    let f : h.frame * (windows_in sc.sizes + 1) ≡ m.frame * (windows_in sc.sizes + 1) = ap (λ f. f * (windows_in sc.sizes + 1)) same in
    omega (arith, le, number.0, up, f, first, later)) all

none-begun : {sc hands : _} (sites : Each Site) {me i p s a st : _} → AllHanded sc sites hands
    → slice_get (of_kind me sites) i ≡ Some s → s.ahead ≡ Some a → slice_get (of_kind me (moment sc hands p).nodes) i ≡ Some st
    → NodeTold sc hands me i p s → is_good_at sc (moment sc hands p) me i ≡ true → (moment sc hands p).window ≡ 0 → st.epoch ≡ a.tick → NoneHanded (moment sc hands p).frame hands
none-begun {sc} {hands} sites {me} {i} {p} {s} {a} {st} all there pend state told good first at_epoch =
    let m : Moment = moment sc hands p in
    let slot : slot_numbered sc.sizes m.window ≡ 0 = omega (arith, first) in
    let here : is_good sc me i m.frame 0 ≡ true = ap (is_good sc me i m.frame) (sym slot) ∙ good in
    none-of m.frame hands (λ h. HasBegun sc sites h.frame)
    (λ h begun same.
    let b = begun me i s there (ap (λ f. is_good sc me i f 0) same ∙ here) in
    let le : b.0.frame * (windows_in sc.sizes + 1) ≤ p = told.begun b.0 b.1.0 in
    let number = number-of sc hands p in
    let frame : b.0.frame ≤ m.frame = not-after b.0.frame m.frame (windows_in sc.sizes + 1) (omega arith) (omega (arith, le, number.0, first)) in
    let is : b.0.frame ≡ m.frame = let ge : h.frame ≤ b.0.frame = b.1.1 in omega (arith, ge, same, frame) in
    let lt : st.epoch < a.tick = told.fresh b.0 a st b.1.0 is first pend state in
    omega (arith, lt, at_epoch)) all
  where
    one-more : (a n : ℕ) → (a + 1) * n ≡ a * n + n
    one-more a n = omega arith

    not-after : (a b n : ℕ) → 1 ≤ n → a * n ≤ b * n → a ≤ b
    not-after a b n some le = elim (cases_lt b a) [
      | inr ge ↦ ge
      | inl lt ↦
          let up : (b + 1) * n ≤ a * n = mul-le (b + 1) n a n (omega (arith, lt)) (omega arith) in
          let more : (b + 1) * n ≡ b * n + n = one-more b n in
          absurd (omega (arith, up, more, le, some))
    ]

-- The line of a port at a frame's start.

before-is : (sc : Scenario) (hands : List HandIn) (p : ℕ) → (moment sc hands p).window ≡ 0 → NoneHanded (moment sc hands p).frame hands → (moment sc hands p).ports ≡ ports_before sc hands p
unfolding ports_before begin_frame
before-is sc hands zero first none = none-over 0 hands _ none
before-is sc hands (suc e) first none =
    elim (cases_lt (moment sc hands e).window (windows_in sc.sizes)) [
      | inl lt ↦
          let next : IsWindowLater sc (moment sc hands e) (moment sc hands (suc e)) = window-later sc hands (moment sc hands e) lt in
          absurd (omega (arith, next.window, first))
      | inr ge ↦
          let frame : (moment sc hands (suc e)).frame ≡ (moment sc hands e).frame + 1 = (frame-later sc hands (moment sc hands e) ge).frame in
          ports-turned sc hands e ge ∙ none-over ((moment sc hands e).frame + 1) hands (moment sc hands e).ports (subst (λ f. NoneHanded f hands) frame none)
    ]

pub line-at-begin : {sc hands at sites : _} (ports : List PortState) (me : Side) (i : ℕ) {s a st : _}
    → AllHanded sc sites hands → AllTold sc hands at sites → PortsStand sc hands at sites ports → slice_get (of_kind me sites) i ≡ Some s → s.runs ≡ true → s.ahead ≡ Some a
    → slice_get (of_kind me (moment sc hands (at me i)).nodes) i ≡ Some st → is_good_at sc (moment sc hands (at me i)) me i ≡ true
    → (moment sc hands (at me i)).window ≡ 0 → st.epoch ≡ a.tick
    → port_line me i (port_at sc ports i) ≡ port_line me i (port_at sc (ports_before sc hands (at me i)) i)
line-at-begin ports Rmu i all told stand there runs pend state good first at_epoch = refl
line-at-begin {sc} {hands} {at} {sites} ports Biu i {s} all told stand there runs pend state good first at_epoch =
    let none : NoneHanded (moment sc hands (at Biu i)).frame hands = none-begun sites all there pend state (told Biu i s there) good first at_epoch in
    ap (port_line Biu i) (stand i s there runs ∙ ap (λ ports. port_at sc ports i) (before-is sc hands (at Biu i) first none))

-- A tick.

pub rmu-none : (sc : Scenario) (i : ℕ) (st : NodeState) (slot stage first : ℕ) (sense : ℕ → Sense) (b : Bool)
    → (elim b as (λ _. Outcome) [ true ↦ close_sync sc.sizes Rmu st stage first sense | false ↦ close_exact sc.sizes Rmu i st slot stage sense ]).closed.delivered ≡ None
unfolding close_sync sync_outcome_of close_exact outcome_of
rmu-none sc i st slot stage first sense true = refl
rmu-none sc i st slot stage first sense false = refl

-- an RMU delivers nothing
rmu-line : (sc : Scenario) (m : Moment) (i : ℕ) (st : NodeState) (w : Window) → line_in (go_through sc m (sent_in sc m) Rmu i st w).row ≡ None
unfolding go_through close_on row_of
rmu-line sc m i st w = by (is_good sc Rmu i m.frame w.slot && nat_le w.first w.last)
  where
    by : (b : Bool) → line_in (elim b as (λ _. Result) [
      | true ↦ close_on sc Rmu i (keep_sent sc.sizes Rmu i st w.slot w.stage (word_for_window sc m i w)) w (heard_at sc Rmu i st w (sent_in sc m))
      | false ↦ record { state = st; row = None }
    ]).row ≡ None
    by true =
        ap (option_map (λ (d : Delivery). let l : SlotLine = record { receiver = i; sender = d.sender; value = d.value } in l))
        (rmu-none sc i (keep_sent sc.sizes Rmu i st w.slot w.stage (word_for_window sc m i w)) w.slot w.stage _ _ (w.slot == sync_slot_of sc.sizes))
    by false = refl

none-delivered : (me : Side) (i : ℕ) (x : NodeState) (heard : ℕ → List Coming) (c : Closed) → line_in (Some (row_of me i x heard c)) ≡ None → c.delivered ≡ None
unfolding row_of
none-delivered me i x heard c h = by c.delivered h
  where
    by : (d : Option Delivery) → option_map (λ (d : Delivery). let l : SlotLine = record { receiver = i; sender = d.sender; value = d.value } in l) d ≡ None → d ≡ None
    by None h = refl
    by (Some d) h = cc

-- the ports of other nodes stay
others-keep : {sc hands at sites ports : _} (me : Side) {i s a x : _} (j : ℕ)
    → AfterTick sc hands at sites ports me i s a x → is_node me i Biu j ≡ false
    → port_at sc (with_delivery sc i (option_and_then (λ (c : Closed). c.delivered) x.closed) ports) j ≡ port_at sc ports j
others-keep {sc} {ports} Biu {i} {a} {x} j after other = port-kept sc i j (option_and_then (λ (c : Closed). c.delivered) x.closed) ports (λ e. differ e other)
  where
    itself : (a b : ℕ) → a ≡ b → (a == b) ≡ false → ⊥
    itself a b e h = grind (arith, nat_tests)

    differ : j ≡ i → (j == i) ≡ false → ⊥
    differ e h = itself j i e h
others-keep {sc} {hands} {at} {ports} Rmu {i} {x} j after other =
    elim after.node [
      | inl stays ↦ ap (λ o. port_at sc (with_delivery sc i (option_and_then (λ (c : Closed). c.delivered) o) ports) j) stays.1.act.closed
      | inr closes ↦
          let told = closes.1.0.told in
          let p : ℕ = at Rmu i in
          let none : told.0.delivered ≡ None =
          none-delivered Rmu i x.core.state _ told.0
          (ap line_in (sym told.1.1) ∙ rmu-line sc (moment sc hands p) i after.st (window_in sc (moment sc hands p) Rmu after.st)) in
          ap (λ o. port_at sc (with_delivery sc i (option_and_then (λ (c : Closed). c.delivered) o) ports) j) told.1.0
          ∙ ap (λ d. port_at sc (with_delivery sc i d ports) j) none
    ]

own-port : {sc : Scenario} {hands : List HandIn} {at : Side → ℕ → ℕ} {sites : Each Site} {ports : List PortState} {i : ℕ} {s : Site} {a : Timed} {x : Act} → HasTicks sc.plan
    → length ports ≡ sc.sizes.bius → AllHanded sc sites hands → AllTold sc hands at sites → slice_get (of_kind Biu sites) i ≡ Some s
    → (after : AfterTick sc hands at sites ports Biu i s a x) → (after_act sc ports Biu i x s).runs ≡ true
    → port_at sc ports i ≡ port_at sc (moment sc hands (at Biu i)).ports i
    → port_at sc (with_delivery sc i (option_and_then (λ (c : Closed). c.delivered) x.closed) ports) i ≡ port_at sc (moment sc hands after.r).ports i
own-port {sc} {hands} {at} {sites} {ports} {i} {s} {a} {x} ticks many all told there after runs same =
    let p : ℕ = at Biu i in
    let m : Moment = moment sc hands p in
    elim after.node [
      | inl stays ↦
          ap (λ o. port_at sc (with_delivery sc i (option_and_then (λ (c : Closed). c.delivered) o) ports) i) stays.1.act.closed ∙ same
          ∙ ap (λ n. port_at sc (moment sc hands n).ports i) (sym stays.0)
      | inr closes ↦
          let c : ClosesWindow sc hands (sent_by sc hands at sites) ports Biu i p s after.st a x = closes.1.0 in
          let q : ℕ = c.q in
          let later : p < q = subst (λ r. p < r) (sym closes.1.1.0) closes.0 in
          let good : is_good_at sc (moment sc hands q) Biu i ≡ true = elim c.goes [
            | inl on ↦ on.stands.good
            | inr off ↦ absurd (true-false (sym runs ∙ off.runs))
          ] in
          port-then sc hands ports p q i x.core.state _ ticks (good_counts sc Biu i m.frame (slot_numbered sc.sizes m.window) after.good) many after.stands.window c.place
          (none-entered sites q all there (told Biu i s there) later good) after.there c.told.1.0 c.told.1.1 same
          ∙ ap (λ n. port_at sc (moment sc hands n).ports i) closes.1.1.0
    ]

own-if-biu : {sc : Scenario} {hands : List HandIn} {at : Side → ℕ → ℕ} {sites : Each Site} {ports : List PortState} (me : Side) {i : ℕ} {s : Site} {a : Timed} {x : Act} → HasTicks sc.plan
    → length ports ≡ sc.sizes.bius → AllHanded sc sites hands → AllTold sc hands at sites → slice_get (of_kind me sites) i ≡ Some s → s.runs ≡ true → PortsStand sc hands at sites ports
    → (after : AfterTick sc hands at sites ports me i s a x) → me ≡ Biu → (after_act sc ports me i x s).runs ≡ true
    → port_at sc (with_delivery sc i (option_and_then (λ (c : Closed). c.delivered) x.closed) ports) i ≡ port_at sc (moment sc hands after.r).ports i
own-if-biu Biu {i} {s} ticks many all told there up stand after is on =
    own-port ticks many all told there after on (stand i s there up)
own-if-biu Rmu ticks many all told there up stand after is on = cc

-- after a tick the ports of all nodes that run are those of the rounds
pub ports-after : {sc : Scenario} {hands : List HandIn} {at : Side → ℕ → ℕ} {sites : Each Site} {ports : List PortState} {me : Side} {i : ℕ} (frame k : ℕ) (m : Option Message) {s : Site} {a : Timed} {x : Act}
    → HasTicks sc.plan → length ports ≡ sc.sizes.bius → AllHanded sc sites hands → AllTold sc hands at sites → slice_get (of_kind me sites) i ≡ Some s → s.runs ≡ true
    → (after : AfterTick sc hands at sites ports me i s a x) → PortsStand sc hands at sites ports
    → PortsStand sc hands (moved me i after.r at) (with_message sc me i frame k m (at_node me i (after_act sc ports me i x) sites))
    (with_delivery sc i (option_and_then (λ (c : Closed). c.delivered) x.closed) ports)
ports-after {sc} {hands} {at} {sites} {ports} {me} {i} frame k m {x} ticks many all told there up after stand j z e runs =
    let new : List PortState = with_delivery sc i (option_and_then (λ (c : Closed). c.delivered) x.closed) ports in
    let P : Side → ℕ → ℕ → Site → Type 0 = λ side j p z. side ≡ Biu → z.runs ≡ true → port_at sc new j ≡ port_at sc (moment sc hands p).ports j in
    one-changes P sc at sites me i frame k after.r m (after_act sc ports me i x)
    (λ side j p z h is on. h is (sym (reached-same sc me i frame k m side j z).runs ∙ on)) there
    (λ is on. own-if-biu me ticks many all told there up stand after is on)
    (λ side j z other e is on.
    let its : slice_get (of_kind Biu sites) j ≡ Some z = sym (ap (λ side. slice_get (of_kind side sites) j) is) ∙ e in
    let not_it : is_node me i Biu j ≡ false = sym (ap (λ side. is_node me i side j) is) ∙ other in
    others-keep me j after not_it ∙ stand j z its on ∙ ap (λ side. port_at sc (moment sc hands (at side j)).ports j) (sym is))
    Biu j z e refl runs

-- What is handed in.

some-after : (sc : Scenario) (ports : List PortState) (me : Side) (i : ℕ) (e : Option Epoch) (b : Begun) → (z : Begun) × (begun_after sc ports me i e (Some b) ≡ Some z)
some-after sc ports me i None b = (b, refl)
some-after sc ports me i (Some e) b = (begun_of sc ports me i e, refl)

pub begun-is : {sc hands at sites ports me i s a x : _}
    → (after : AfterTick sc hands at sites ports me i s a x)
    → ((after_act sc ports me i x s).begun ≡ begun_after sc ports me i x.epoch s.begun)
    × ((b : Begun) → (after_act sc ports me i x s).begun ≡ Some b → ((b.frame ≡ (moment sc hands (at me i)).frame) × (after.st.epoch ≡ a.tick)) ⊎ (s.begun ≡ Some b))
begun-is {sc} {hands} {at} {sites} {ports} {me} {i} {s} {a} {x} after =
    let p : ℕ = at me i in
    let word : ℕ = word_at sc (moment sc hands p) me i after.st in
    elim after.node [
      | inl stays ↦
          let is : (after_act sc ports me i x s).begun ≡ begun_after sc ports me i x.epoch s.begun = ap (λ (z : Site). z.begun) stays.1.site in
          (is, λ b e. begun-at sc hands ports me i p a.tick word after.st s.begun stays.1.act.epoch after.frame (sym is ∙ e))
      | inr closes ↦
          let c : ClosesWindow sc hands (sent_by sc hands at sites) ports me i p s after.st a x = closes.1.0 in
          (c.begun, λ b e. begun-at sc hands ports me i p a.tick word after.st s.begun c.act.epoch after.frame (sym c.begun ∙ e))
    ]

still-begun : {sc hands at sites ports me i : _} (frame k : ℕ) (m : Option Message) {s a x : _}
    → AllTold sc hands at sites → slice_get (of_kind me sites) i ≡ Some s → AfterTick sc hands at sites ports me i s a x → {f : ℕ} → HasBegun sc sites f
    → HasBegun sc (with_message sc me i frame k m (at_node me i (after_act sc ports me i x) sites)) f
still-begun {sc} {hands} {at} {sites} {ports} {me} {i} frame k m {s} {a} {x} told there after {f} begun side j z e =
    let P : Side → ℕ → ℕ → Site → Type 0 = λ side j p z. is_good sc side j f 0 ≡ true → (b : Begun) × ((z.begun ≡ Some b) × (f ≤ b.frame)) in
    one-changes P sc at sites me i frame k (at me i) m (after_act sc ports me i x)
    (λ side j p z h good. let b = h good in (b.0, ((reached-tells sc me i frame k m side j z).1 ∙ b.1.0, b.1.1))) there
    (λ good.
    let b = begun me i s there good in
    let is = begun-is after in
    let new = some-after sc ports me i x.epoch b.0 in
    let new_is : (after_act sc ports me i x s).begun ≡ Some new.0 = is.0 ∙ ap (begun_after sc ports me i x.epoch) b.1.0 ∙ new.1 in (
      new.0,
      (
        new_is,
        elim (is.1 new.0 new_is) [
          | inl at_frame ↦
              let le : b.0.frame * (windows_in sc.sizes + 1) ≤ at me i = (told me i s there).begun b.0 b.1.0 in
              let within : b.0.frame ≤ (moment sc hands (at me i)).frame = frame-below sc hands (at me i) b.0.frame le in
              let ge : f ≤ b.0.frame = b.1.1 in
              omega (arith, within, ge, at_frame.0)
          | inr old ↦
              let same : b.0 ≡ new.0 = same_Some b.0 new.0 (sym b.1.0 ∙ old) in
              subst (λ (b : Begun). f ≤ b.frame) same b.1.1
        ],
      ),
    ))
    (λ side j z other e good. begun side j z e good) side j z e
  where
    one-more : (a n : ℕ) → (a + 1) * n ≡ a * n + n
    one-more a n = omega arith

    frame-below : (sc : Scenario) (hands : List HandIn) (p frame : ℕ) → frame * (windows_in sc.sizes + 1) ≤ p → frame ≤ (moment sc hands p).frame
    frame-below sc hands p frame le =
        let number = number-of sc hands p in
        let n : ℕ = windows_in sc.sizes + 1 in
        elim (cases_lt (moment sc hands p).frame frame) [
          | inr ge ↦ ge
          | inl lt ↦
              let up : ((moment sc hands p).frame + 1) * n ≤ frame * n = mul-le ((moment sc hands p).frame + 1) n frame n (omega (arith, lt)) (omega arith) in
              let more : ((moment sc hands p).frame + 1) * n ≡ (moment sc hands p).frame * n + n = one-more (moment sc hands p).frame n in
              absurd (omega (arith, number.0, number.1, up, more, le))
        ]

pub handed-after : {sc hands at sites ports me i : _} (frame k : ℕ) (m : Option Message) {s a x : _}
    → AllTold sc hands at sites → slice_get (of_kind me sites) i ≡ Some s → AfterTick sc hands at sites ports me i s a x → (all : List HandIn) → AllHanded sc sites all
    → AllHanded sc (with_message sc me i frame k m (at_node me i (after_act sc ports me i x) sites)) all
handed-after {sc} {sites} {ports} {me} {i} frame k m {x} told there after all h =
    every-weaker (λ h. HasBegun sc sites h.frame) (λ h. HasBegun sc (with_message sc me i frame k m (at_node me i (after_act sc ports me i x) sites)) h.frame)
    (λ h begun. still-begun frame k m told there after begun) all h
