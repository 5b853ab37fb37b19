-- For the law that pending events are few if the run breaks off with the last stage of the sync
-- slot: a node that has told its row sends one message at most in the tail and one in the first
-- window of the next frame, and enters that window once.
use Rattle.std.proofs.{Common.{◌≡◌, ℕ, ◌+◌, ◌-◌, ◌*◌, ◌<◌, ◌≤◌, ◌⊎◌, true, List, refl, ap, sym, ◌∙◌, subst, arith, inl, inr, Option, Some, None, length}, lemmas.Bool.cases_lt}
use Rattle.rb_base.specs.{Nodes.Side, Sizes.sync_slot_of}
use Rattle.rb_rules.specs.{declared.message.Message.Message, declared.plan.Window.Window, Core.{Act, Core, arrive, pass_to, said_at, state_at, tick, window_here}, Entries.IsListed, Goodness.{Scenario, clock_of}, Hearing.Coming, Clock.stamp_of, Lawful.IsLawful, Moments.IsRunning, NodeState.NodeState, Plan.tail_start_of, Ports.HandIn, Rounds.moment, WorldStep.{Site, Timed, after_act, after_arrival, pass_and_tick, wants_in, word_of}}
use Rattle.rb_rules.proofs.{QuietTicks.arrive-same, Stamps.Moves}
use Rattle.rb_laws_events.specs.Closing.{stages_in}
use Rattle.rb_laws_events.proofs.{ActCases.{act_of, tick-by}, BreakEnters.TickBreaks, BreakSites.{acted, told-on}, FewBreak.{no-begin, slot-in-sync}, FewTold.{FewOn, one-less}, Invariant.is_good_at, FewEntered.{BringsFew, act-brings}, FewOff.{StepsOn, messages_in}, FewSent.{spoken-arrives, CallsAlike, HasSpoken, IsSentThen, SaysAt, said-then, says-some, speaks-once, spoken-kept, spoken-quiet}, LastEvents.before-end, LastSites.{AwaitsNext, Beyond, HasToldLast, told-arrives}, LastTicks.{told-goes, told-ticks}, NodeActs.HasRoom, NodeTicks.tail-first, StageOrder.{last_of, last-same}, TailTicks.{GoesOn, HasTurned, IsAfter, IsInTail, KeepsMiddles, in-tail, tail-act, turned-epoch}, Takes.tick-had, TickWindows.{IsTickIn, first_of, first-same, here-is}, TurnTicks.{no-next, not-yet}}

-- what a node that has told its row may do yet
pub record ToldFew (sc : Scenario) (hands : List HandIn) (p : ℕ) (me : Side) (i r e : ℕ) (s : Site) : Type 0 where
  pub told : HasToldLast sc hands me i p s
  pub enters : s.core.had < told.course.x → 1 ≤ e
  pub tail : s.core.state.frame ≡ told.st.frame → (2 ≤ r) ⊎ ((1 ≤ r) × HasSpoken sc.sizes sc.plan me s.core.state s.core.had)
  pub turned : s.core.state.frame ≡ told.st.frame + 1 → (1 ≤ r) ⊎ (told.course.x + sc.plan.h < s.core.had)

-- a tick in the tail keeps the ticks of the calls
tail-alike : {sizes plan me : _} (i : ℕ) {frame e x : ℕ} (c : Core) (word : ℕ) → HasRoom plan → e + tail_start_of sizes plan ≤ x → IsInTail sizes plan me frame e x c.state c.had → c.had < x
    → CallsAlike c.state (tick sizes plan me i c word).core.state
tail-alike {sizes} {plan} {me} i c word room low h lt =
    tick-by (λ a. CallsAlike c.state a.core.state) sizes plan me i c word (λ _. record { epoch = refl; k1 = refl; k2 = refl }) (λ _.
    let same : KeepsMiddles c.state (act_of sizes plan me i c word (state_at sizes plan me c.state c.had)).core.state =
    subst (λ y. KeepsMiddles c.state (act_of sizes plan me i c word y).core.state) (sym (not-yet sizes plan me c.state c.had h.known lt)) (tail-act i c word room low h lt).1 in
    record { epoch = same.epoch; k1 = same.k1; k2 = same.k2 })

-- a tick of a node that has told its row goes on within `ToldFew`
told-few : {sc : _} → IsListed sc → {hands : _} → IsLawful sc → HasRoom sc.plan → {sent ports p : _} → IsRunning (moment sc hands p)
    → (moment sc hands p).window ≡ 3 * sync_slot_of sc.sizes + 2 → {me i s a r e : _} → TickBreaks sc hands sent ports p me i s a → ToldFew sc hands p me i r e s
    → StepsOn sc (ToldFew sc hands p me i) (pass_and_tick sc ports me i a.tick s.core).message s (after_act sc ports me i (pass_and_tick sc ports me i a.tick s.core) s) r e
unfolding pass_and_tick told-ticks told-on
told-few {sc} listed {hands} lawful room {sent} {ports} {p} running at {me} {i} {s} {a} {r} {e} t g = by next.after
  where
    h : HasToldLast sc hands me i p s
    h = g.told

    next : AwaitsNext sc me i h.st h.course.x s.core a
    next = h.course.ahead a t.pend

    had : s.core.had ≤ a.tick
    had = next.had

    c : Core
    c = pass_to a.tick s.core

    c_had : c.had ≡ a.tick
    c_had = omega (arith, had)

    word : ℕ
    word = word_of sc ports i (wants_in sc me i c)

    x : Act
    x = pass_and_tick sc ports me i a.tick s.core

    z : Site
    z = after_act sc ports me i x s

    before : a.tick + 1 < h.course.x + sc.plan.l
    before = before-end lawful running at t h

    goes : GoesOn sc.sizes sc.plan me h.st.frame h.st.epoch h.course.x a.tick x
    goes = told-goes ports room h t.pend before

    tells : HasToldLast sc hands me i p z
    tells = told-ticks ports room h t.pend before

    ticked : x.core.had ≡ a.tick + 1
    ticked = let small = next.small in tick-had sc.sizes sc.plan me i c word (omega (arith, c_had, small)) ∙ ap (λ k. k + 1) c_had

    core : z.core ≡ x.core
    core = (acted sc ports me i x s).core_is

    z_had : z.core.had ≡ a.tick + 1
    z_had = ap (λ (c : Core). c.had) core ∙ ticked

    brings : BringsFew sc me x s z
    brings = act-brings listed ports me i x s

    not-both : {P : Type 0} (n f : ℕ) → n ≡ f → n ≡ f + 1 → P
    not-both n f a b = absurd (omega (arith, a, b))

    frame_is : z.core.state.frame ≡ x.core.state.frame
    frame_is = ap (λ (c : Core). c.state.frame) core

    -- the tick is in the tail
    in-it : IsInTail sc.sizes sc.plan me h.st.frame h.st.epoch h.course.x s.core.state s.core.had → a.tick < h.course.x → (o : Option Message) → x.message ≡ o → StepsOn sc (ToldFew sc hands p me i) x.message s z r e
    in-it tail lt o f = entering (cases_lt (a.tick + 1) h.course.x) (messages o f (g.tail tail.in_frame))
      where
        now_in : IsInTail sc.sizes sc.plan me h.st.frame h.st.epoch h.course.x c.state c.had
        now_in = let from = tail.from in record { in_frame = tail.in_frame; epoch = tail.epoch; known = tail.known; from = omega (arith, from, had, c_had); keeps = tail.keeps }

        alike : CallsAlike s.core.state x.core.state
        alike = tail-alike i c word room h.course.low now_in (omega (arith, c_had, lt))

        in_it : IsTickIn sc.sizes sc.plan me s.core.state (stages_in sc.sizes) c.had
        in_it = in-tail h.course.low now_in (omega (arith, c_had, lt))

        still : IsInTail sc.sizes sc.plan me h.st.frame h.st.epoch h.course.x x.core.state x.core.had
        still = elim goes.after [ inl y ↦ y.0 | inr y ↦ (let begun = y.begun in absurd (omega (arith, begun, ticked, lt))) ]

        slot : (window_here sc.sizes sc.plan me s.core.state c.had).slot ≡ sync_slot_of sc.sizes
        slot = ap (λ (w : Window). w.slot) (here-is me s.core.state room.ticks (omega arith) in_it) ∙ slot-in-sync sc.sizes sc.plan me s.core.state (stages_in sc.sizes) (omega arith) (omega arith)

        spoken : HasSpoken sc.sizes sc.plan me x.core.state x.core.had → HasSpoken sc.sizes sc.plan me z.core.state z.core.had
        spoken y = subst (λ (c : Core). HasSpoken sc.sizes sc.plan me c.state c.had) (sym core) y

        -- how many may be sent yet
        messages : (o : Option Message) → x.message ≡ o → (2 ≤ r) ⊎ ((1 ≤ r) × HasSpoken sc.sizes sc.plan me s.core.state s.core.had)
            → (n : ℕ) × ((n + messages_in x.message ≤ r) × ((2 ≤ n) ⊎ ((1 ≤ n) × HasSpoken sc.sizes sc.plan me z.core.state z.core.had)))
        messages None f once =
            let none : messages_in x.message ≡ 0 = ap messages_in f in (
              r,
              (
                omega (arith, none),
                elim once [
                  | inl two ↦ inl two
                  | inr y ↦ inr (y.0, spoken (spoken-kept sc.sizes sc.plan me s.core.state x.core.state x.core.had alike (omega (arith, had, ticked)) y.1))
                ],
              ),
            )
        messages (Some m) f once =
            let one : messages_in x.message ≡ 1 = ap messages_in f in
            let says : SaysAt sc.sizes sc.plan me i c word m x = says-some sc.sizes sc.plan me i c word f in
            let said : said_at sc.sizes sc.plan me i s.core.state word c.had ≡ Some m =
            ap (λ y. said_at sc.sizes sc.plan me i y word c.had) (sym (not-yet sc.sizes sc.plan me s.core.state c.had tail.known (omega (arith, c_had, lt)))) ∙ says.said in
            let then_sent : IsSentThen sc.sizes sc.plan me i s.core.state (sync_slot_of sc.sizes) word c.had = said-then sc.sizes sc.plan me i s.core.state word c.had slot said in
            elim once [
              | inr y ↦ spoken-quiet then_sent
                  (spoken-kept sc.sizes sc.plan me s.core.state s.core.state c.had (record { epoch = refl; k1 = refl; k2 = refl }) (omega (arith, had, c_had)) y.1)
              | inl two ↦ (
                r - 1,
                (
                  omega (arith, one, two),
                  inr (
                    omega (arith, two),
                    spoken (spoken-kept sc.sizes sc.plan me s.core.state x.core.state x.core.had alike (omega (arith, ticked, c_had))
                        (speaks-once room (omega arith) (omega arith) in_it then_sent)),
                  ),
                ),
              )
            ]

        may : (n d : ℕ) → (z.core.had < h.course.x → 1 ≤ d) → (2 ≤ n) ⊎ ((1 ≤ n) × HasSpoken sc.sizes sc.plan me z.core.state z.core.had) → ToldFew sc hands p me i n d z
        may n d enters once = record {
          told = tells;
          enters = enters;
          tail = λ f. once;
          turned = λ f. not-both z.core.state.frame h.st.frame (frame_is ∙ still.in_frame) f;
        }

        entering : ((a.tick + 1 < h.course.x) ⊎ (h.course.x ≤ a.tick + 1)) → (n : ℕ) × ((n + messages_in x.message ≤ r) × ((2 ≤ n) ⊎ ((1 ≤ n) × HasSpoken sc.sizes sc.plan me z.core.state z.core.had)))
            → StepsOn sc (ToldFew sc hands p me i) x.message s z r e
        entering (inl inner) y =
            let e_had : x.core.had < h.course.x = omega (arith, ticked, inner) in
            let from = tail.from in
            let first : first_of sc.sizes sc.plan me x.core.state (stages_in sc.sizes) ≡ tail_start_of sc.sizes sc.plan = tail-first sc.sizes sc.plan me x.core.state in
            let epoch : x.core.state.epoch ≡ h.st.epoch = still.epoch in
            let none = brings.none (no-begin room (omega arith) (not-yet sc.sizes sc.plan me x.core.state x.core.had still.known e_had)
            (in-tail h.course.low still e_had) (omega (arith, first, epoch, ticked, from, had))) in
            record { sends = y.0; enters = e; may = may y.0 e (λ lt. g.enters (omega (arith, had, lt, inner, z_had))) y.1.1; sent = y.1.0; room = omega (arith, none) }
        entering (inr outer) y =
            let one : 1 ≤ e = g.enters (omega (arith, had, lt)) in
            let most = brings.most in
            let less = one-less e (length sc.says) one in
            record { sends = y.0; enters = e - 1; may = may y.0 (e - 1) (λ early. absurd (omega (arith, early, z_had, outer))) y.1.1; sent = y.1.0; room = omega (arith, most, less) }

    -- the tick is in the next frame
    beyond : h.course.x ≤ a.tick → (1 ≤ r) ⊎ (h.course.x + sc.plan.h < a.tick) → (o : Option Message) → x.message ≡ o → StepsOn sc (ToldFew sc hands p me i) x.message s z r e
    beyond late once o f = steps o f once
      where
        turned : HasTurned h.st.frame h.course.x x.core.state x.core.had
        turned = elim goes.after [ inr y ↦ y | inl y ↦ (let le = y.1 in absurd (omega (arith, le, ticked, late))) ]

        at_next : IsTickIn sc.sizes sc.plan me x.core.state 0 x.core.had
        at_next =
            let first : first_of sc.sizes sc.plan me x.core.state 0 ≡ 0 * sc.plan.l = first-same sc.sizes sc.plan me x.core.state 0 (omega arith) in
            let last : last_of sc.sizes sc.plan me x.core.state 0 ≡ 0 * sc.plan.l + sc.plan.l - 1 = last-same sc.sizes sc.plan me x.core.state 0 (omega arith) in
            let epoch : x.core.state.epoch ≡ h.course.x = turned.epoch in
            record { from = omega (arith, first, epoch, ticked, late); to = omega (arith, last, epoch, ticked, before) }

        none : length z.coming ≤ length s.coming
        none =
            let first : first_of sc.sizes sc.plan me x.core.state 0 ≡ 0 * sc.plan.l = first-same sc.sizes sc.plan me x.core.state 0 (omega arith) in
            let epoch : x.core.state.epoch ≡ h.course.x = turned.epoch in
            brings.none (no-begin room (omega arith)
            (no-next sc.sizes sc.plan me x.core.state x.core.had (turned-epoch sc.plan me turned)) at_next (omega (arith, first, epoch, ticked, late)))

        may : (n : ℕ) → (1 ≤ n) ⊎ (h.course.x + sc.plan.h < z.core.had) → ToldFew sc hands p me i n e z
        may n once = record {
          told = tells;
          enters = λ lt. absurd (omega (arith, lt, z_had, late));
          tail = λ f. not-both z.core.state.frame h.st.frame f (frame_is ∙ turned.in_frame);
          turned = λ f. once;
        }

        steps : (o : Option Message) → x.message ≡ o → (1 ≤ r) ⊎ (h.course.x + sc.plan.h < a.tick) → StepsOn sc (ToldFew sc hands p me i) x.message s z r e
        steps None f once =
            let zero_sent : messages_in x.message ≡ 0 = ap messages_in f in
            record { sends = r; enters = e; may = may r (elim once [ inl one ↦ inl one | inr over ↦ inr (omega (arith, over, z_had)) ]); sent = omega (arith, zero_sent); room = omega (arith, none) }
        steps (Some m) f once =
            let one_sent : messages_in x.message ≡ 1 = ap messages_in f in
            let tick : h.course.x + sc.plan.h ≡ a.tick = goes.begun late m f in
            elim once [
              | inl one ↦ record { sends = r - 1; enters = e; may = may (r - 1) (inr (omega (arith, tick, z_had))); sent = omega (arith, one_sent, one); room = omega (arith, none) }
              | inr over ↦ absurd (omega (arith, over, tick))
            ]

    by : IsAfter sc.sizes sc.plan me h.st.frame h.st.epoch h.course.x s.core.state s.core.had a.tick → StepsOn sc (ToldFew sc hands p me i) x.message s z r e
    by (inl y) = elim (cases_lt a.tick h.course.x) [
      | inl lt ↦ in-it y.0 lt x.message refl
      | inr late ↦ beyond late (inl (elim (g.tail y.0.in_frame) [ inl two ↦ omega (arith, two) | inr one ↦ one.0 ])) x.message refl
    ]
    by (inr y) =
        let begun = y.begun in
        beyond (omega (arith, begun, had)) (elim (g.turned y.in_frame) [ inl one ↦ inl one | inr over ↦ inr (omega (arith, over, had)) ]) x.message refl

last-arrives : {sc : _} (hands : List HandIn) (p : ℕ) (me : Side) (i r e n : ℕ) (c : Coming) (s : Site) → (is_good_at sc (moment sc hands p) me i ≡ true → Moves (clock_of sc me i))
    → ((a : Timed) → s.ahead ≡ Some a → c.time ≤ a.time) → ToldFew sc hands p me i r e s → ToldFew sc hands p me i r e (after_arrival sc me i n c s)
unfolding after_arrival told-arrives told-on
last-arrives {sc} hands p me i r e n c s moves before h =
    let passed : Core = pass_to (stamp_of (clock_of sc me i) c.time) s.core in
    let same = arrive-same sc.sizes me passed c.from c.bytes in
    let more : s.core.had ≤ passed.had = omega arith in
    let frame : (arrive sc.sizes me passed c.from c.bytes).state.frame ≡ s.core.state.frame = ap (λ (y : NodeState). y.frame) same.0 in
    record {
      told = told-on (Beyond sc) (after_arrival sc me i n c s) h.told refl (told-arrives hands me i p n c s h.told.st (moves h.told.good) h.told.course before);
      enters = λ lt. h.enters (omega (arith, lt, same.1, more));
      tail = λ f. elim (h.tail (sym frame ∙ f)) [ inl two ↦ inl two | inr g ↦ inr (g.0, spoken-arrives sc me i n c s g.1) ];
      turned = λ f. elim (h.turned (sym frame ∙ f)) [ inl one ↦ inl one | inr over ↦ inr (omega (arith, over, same.1, more)) ];
    }

last-more : {sc : _} (hands : List HandIn) (p : ℕ) (me : Side) (i r e : ℕ) (s : Site) (more : List Coming) → ToldFew sc hands p me i r e s → ToldFew sc hands p me i r e (record s { coming = more })
unfolding told-on
last-more {sc} hands p me i r e s more h =
    record { told = told-on (Beyond sc) (record s { coming = more }) h.told refl h.told.course; enters = h.enters; tail = h.tail; turned = h.turned }

pub last-few : {sc : _} → IsListed sc → IsLawful sc → HasRoom sc.plan → FewOn sc 2 2 (Beyond sc) (ToldFew sc)
last-few listed lawful room = record {
  some = omega arith;
  most = omega arith;
  starts = λ hands b me i r e s told sends enters. record {
    told = told;
    enters = λ lt. omega (arith, enters);
    tail = λ f. inl sends;
    turned = λ f. inl (omega (arith, sends));
  };
  ticks = λ hands b off sent ports me i s a r e t small h. told-few listed lawful room off.running off.window t h;
  more = last-more;
  arrives = last-arrives;
}
