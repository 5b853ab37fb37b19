-- For the law that pending events are few if the run breaks off with the first or the second stage
-- of the sync slot: a node that has told its row sends one message at most until all have told, and
-- enters no window.
use Rattle.std.proofs.Common.{◌≡◌, ℕ, zero, suc, ◌+◌, ◌-◌, ◌*◌, ◌^◌, ◌<◌, ◌≤◌, ◌==◌, ◌⊎◌, true, false, List, refl, ap, sym, ◌∙◌, subst, arith, inl, inr, Option, Some, None, length}
use Rattle.rb_base.specs.{Nodes.Side, Sizes.{Sizes, sync_slot_of}}
use Rattle.rb_base.proofs.Plain.{less-differs}
use Rattle.rb_rules.specs.{declared.message.Message.Message, declared.plan.Plan.Plan, declared.plan.Window.Window, Core.{Act, Core, pass_to, said_at, state_at, window_here}, Entries.IsListed, Goodness.{Scenario, clock_of}, Hearing.{Coming, Span, span_of, window_numbered}, Lawful.IsLawful, Moments.IsRunning, NodeState.NodeState, Ports.HandIn, Rounds.moment, WorldStep.{Site, Timed, after_act, after_arrival, pass_and_tick, span_from, wants_in, word_of}}
use Rattle.rb_rules.proofs.{Stamps.Moves, WindowNumbers.sync-numbered}
use Rattle.rb_laws_events.specs.Closing.{stages_in}
use Rattle.rb_laws_events.proofs.{BreakEnters.TickBreaks, BreakSites.{HasClosed, InFrame, acted, closed-arrives, told-on}, BreakTicks.{before-next, closed-goes-on}, FewEntered.act-brings, FewTold.{Few, FewOn}, Invariant.is_good_at, FewOff.{StepsOn, messages_in}, FewSent.{spoken-arrives, CallsAlike, HasSpoken, IsSentThen, SaysAt, said-then, says-some, speaks-once, spoken-kept, spoken-quiet}, NodeActs.HasRoom, NodeTicks.like-tick, PastTicks.{TellsNone, past-tick, turns-later, IsPast}, StageOrder.last_of, Takes.tick-had, TickWindows.{IsTickIn, first_of, here-is}}

-- no window begins after the first tick of one
pub no-begin : {sizes plan me y n k : _} → HasRoom plan → n ≤ stages_in sizes → state_at sizes plan me y k ≡ y → IsTickIn sizes plan me y n k
    → y.epoch + first_of sizes plan me y n < k → span_from sizes plan me y k ≡ None
no-begin {sizes} {plan} {me} {y} {n} {k} room le now at after =
    let here : window_here sizes plan me y k ≡ window_numbered sizes plan me y n = here-is me y room.ticks le at in
    let test : (y.epoch + first_of sizes plan me y n == k) ≡ false = less-differs (y.epoch + first_of sizes plan me y n) k after in
    ap (λ z. elim ((span_of z (window_here sizes plan me z k)).first == k) as (λ _. Option Span) [ true ↦ Some (span_of z (window_here sizes plan me z k)) | false ↦ None ]) now
    ∙ ap (λ w. elim ((span_of y w).first == k) as (λ _. Option Span) [ true ↦ Some (span_of y w) | false ↦ None ]) here
    ∙ ap (λ b. elim b as (λ _. Option Span) [ true ↦ Some (span_of y (window_numbered sizes plan me y n)) | false ↦ None ]) test

-- a window from the sync slot's first on is in the sync slot
pub slot-in-sync : (sizes : Sizes) (plan : Plan) (me : Side) (y : NodeState) (n : ℕ) → 3 * sync_slot_of sizes ≤ n → n ≤ stages_in sizes → (window_numbered sizes plan me y n).slot ≡ sync_slot_of sizes
slot-in-sync sizes plan me y n le small =
    let q : ℕ = n - 3 * sync_slot_of sizes in
    let is : 3 * sync_slot_of sizes + q ≡ n = omega (arith, le) in
    subst (λ n. (window_numbered sizes plan me y n).slot ≡ sync_slot_of sizes) is (by q (omega (arith, le, small)))
  where
    by : (q : ℕ) → q < 4 → (window_numbered sizes plan me y (3 * sync_slot_of sizes + q)).slot ≡ sync_slot_of sizes
    by zero lt = ap (λ (w : Window). w.slot) (sync-numbered sizes plan me y 0)
    by (suc zero) lt = ap (λ (w : Window). w.slot) (sync-numbered sizes plan me y 1)
    by (suc (suc zero)) lt = ap (λ (w : Window). w.slot) (sync-numbered sizes plan me y 2)
    by (suc (suc (suc zero))) lt = ap (λ (w : Window). w.slot) (sync-numbered sizes plan me y 3)
    by (suc (suc (suc (suc q)))) lt = absurd (omega (arith, lt))

-- what a node that has told its row may do yet
abbrev pub ClosedFew : Scenario → Few
ClosedFew sc hands p me i r e s = HasClosed sc hands me i p s × ((1 ≤ r) ⊎ HasSpoken sc.sizes sc.plan me s.core.state s.core.had)

-- a tick of a node that has closed its stage goes on within `ClosedFew`
closed-few : {sc : _} → IsListed sc → {hands : _} → IsLawful sc → HasRoom sc.plan → {sent ports p : _} (q : ℕ) → IsRunning (moment sc hands p) → q < 2
    → (moment sc hands p).window ≡ 3 * sync_slot_of sc.sizes + q → {me i s a : _} (r e : ℕ) → TickBreaks sc hands sent ports p me i s a → a.tick < 2 ^ 31
    → HasClosed sc hands me i p s → (1 ≤ r) ⊎ HasSpoken sc.sizes sc.plan me s.core.state s.core.had
    → StepsOn sc (ClosedFew sc hands p me i) (pass_and_tick sc ports me i a.tick s.core).message s (after_act sc ports me i (pass_and_tick sc ports me i a.tick s.core) s) r e
unfolding pass_and_tick
closed-few {sc} listed {hands} lawful room {sent} {ports} {p} q running small at {me} {i} {s} {a} r e t few h once = by x.message refl
  where
    n : ℕ
    n = (moment sc hands p).window + 1

    le : n ≤ stages_in sc.sizes
    le = omega (arith, at, small)

    had : s.core.had ≤ a.tick
    had = (h.course.ahead a t.pend).0

    c : Core
    c = pass_to a.tick s.core

    c_had : c.had ≡ a.tick
    c_had = omega (arith, had)

    word : ℕ
    word = word_of sc ports i (wants_in sc me i c)

    x : Act
    x = pass_and_tick sc ports me i a.tick s.core

    z : Site
    z = after_act sc ports me i x s

    before : a.tick < s.core.state.epoch + last_of sc.sizes sc.plan me s.core.state n
    before = before-next lawful room q running small at h t.you t.j t.there t.good a (h.course.ahead a t.pend).1 t.first

    later : IsPast sc.sizes sc.plan me h.st.frame h.st.epoch n c.state c.had
    later =
        let first = h.course.past.from in
        record { in_frame = h.course.past.in_frame; epoch = h.course.past.epoch; from = omega (arith, first, c_had, had); next = h.course.past.next }

    none : TellsNone sc.sizes sc.plan me i h.st.frame h.st.epoch n s.core.state x
    none = past-tick i c word room.ticks le later (omega (arith, before, c_had))

    in_it : IsTickIn sc.sizes sc.plan me s.core.state n c.had
    in_it = let from = later.from in record { from = from; to = omega (arith, before, c_had) }

    now : state_at sc.sizes sc.plan me s.core.state c.had ≡ s.core.state
    now = turns-later room.ticks h.course.past.next le in_it

    ticked : x.core.had ≡ c.had + 1
    ticked = tick-had sc.sizes sc.plan me i c word (omega (arith, c_had, few))

    alike : CallsAlike s.core.state x.core.state
    alike = record { epoch = none.like.epoch; k1 = none.like.k1; k2 = none.like.k2 }

    core : z.core ≡ x.core
    core = (acted sc ports me i x s).core_is

    closes : HasClosed sc hands me i p z
    closes = closed-goes-on lawful room ports q running small at h t.you t.j t.there t.good t.pend t.first

    spoken : HasSpoken sc.sizes sc.plan me x.core.state x.core.had → HasSpoken sc.sizes sc.plan me z.core.state z.core.had
    spoken g = subst (λ (c : Core). HasSpoken sc.sizes sc.plan me c.state c.had) (sym core) g

    at_next : IsTickIn sc.sizes sc.plan me x.core.state n x.core.had
    at_next =
        let from = in_it.from in
        subst (IsTickIn sc.sizes sc.plan me x.core.state n) (sym ticked)
        (like-tick none.like (record { from = omega (arith, from); to = omega (arith, before, c_had) }))

    quiet : span_from sc.sizes sc.plan me x.core.state x.core.had ≡ None
    quiet =
        let from = in_it.from in
        let first : first_of sc.sizes sc.plan me x.core.state n ≡ first_of sc.sizes sc.plan me s.core.state n = ap (λ (w : Window). w.first) (none.like.windows n) in
        let epoch : x.core.state.epoch ≡ s.core.state.epoch = none.like.epoch in
        no-begin room le (turns-later room.ticks none.past.next le at_next) at_next
        (omega (arith, from, first, epoch, ticked))

    brings : length z.coming ≤ length s.coming
    brings = (act-brings listed ports me i x s).none quiet

    slot : (window_here sc.sizes sc.plan me s.core.state c.had).slot ≡ sync_slot_of sc.sizes
    slot = ap (λ (w : Window). w.slot) (here-is me s.core.state room.ticks le in_it) ∙ slot-in-sync sc.sizes sc.plan me s.core.state n (omega (arith, at)) le

    by : (m : Option Message) → x.message ≡ m → StepsOn sc (ClosedFew sc hands p me i) x.message s z r e
    by None f = record {
      sends = r;
      enters = e;
      may = (
        closes,
        elim once [
          | inl one ↦ inl one
          | inr g ↦ inr (spoken (spoken-kept sc.sizes sc.plan me s.core.state x.core.state x.core.had alike (omega (arith, had, c_had, ticked)) g))
        ],
      );
      sent = let none : messages_in x.message ≡ 0 = ap messages_in f in omega (arith, none);
      room = omega (arith, brings);
    }
    by (Some m) f =
        let says : SaysAt sc.sizes sc.plan me i c word m x = says-some sc.sizes sc.plan me i c word f in
        let said : said_at sc.sizes sc.plan me i s.core.state word c.had ≡ Some m = ap (λ y. said_at sc.sizes sc.plan me i y word c.had) (sym now) ∙ says.said in
        let then_sent : IsSentThen sc.sizes sc.plan me i s.core.state (sync_slot_of sc.sizes) word c.had = said-then sc.sizes sc.plan me i s.core.state word c.had slot said in
        elim once [
          | inr g ↦ spoken-quiet then_sent
              (spoken-kept sc.sizes sc.plan me s.core.state s.core.state c.had (record { epoch = refl; k1 = refl; k2 = refl }) (omega (arith, had, c_had)) g)
          | inl one ↦ record {
            sends = r - 1;
            enters = e;
            may = (
              closes,
              inr (spoken (spoken-kept sc.sizes sc.plan me s.core.state x.core.state x.core.had alike (omega (arith, ticked))
                  (speaks-once room (omega (arith, at)) le in_it then_sent))),
            );
            sent = let one_sent : messages_in x.message ≡ 1 = ap messages_in f in omega (arith, one_sent, one);
            room = omega (arith, brings);
          }
        ]

early-arrives : {sc : _} (hands : List HandIn) (p : ℕ) (me : Side) (i r e n : ℕ) (c : Coming) (s : Site) → (is_good_at sc (moment sc hands p) me i ≡ true → Moves (clock_of sc me i))
    → ((a : Timed) → s.ahead ≡ Some a → c.time ≤ a.time) → ClosedFew sc hands p me i r e s → ClosedFew sc hands p me i r e (after_arrival sc me i n c s)
unfolding after_arrival
early-arrives {sc} hands p me i r e n c s moves before h = (
  told-on (InFrame sc) (after_arrival sc me i n c s) h.0 refl (closed-arrives hands me i p n c s h.0.st (moves h.0.good) h.0.course before),
  elim h.1 [ inl one ↦ inl one | inr g ↦ inr (spoken-arrives sc me i n c s g) ],
)

pub early-few : {sc : _} → IsListed sc → IsLawful sc → HasRoom sc.plan → (q : ℕ) → q < 2 → FewOn sc q 1 (InFrame sc) (ClosedFew sc)
early-few {sc} listed lawful room q early = record {
  some = omega arith;
  most = omega arith;
  starts = λ hands b me i r e s told sends enters. (told, inl sends);
  ticks = λ hands b off sent ports me i s a r e t small h. closed-few listed lawful room q off.running early off.window r e t small h.0 h.1;
  more = λ hands b me i r e s more h. (told-on (InFrame sc) (record s { coming = more }) h.0 refl h.0.course, h.1);
  arrives = early-arrives;
}
