-- For the law that events are rounds: whatever is chosen, the nodes of the world stand in the
-- rounds, or the run breaks off there in a sync slot.
use Rattle.std.proofs.{Common.{◌≡◌, ℕ, ◌+◌, ◌<◌, ◌≤◌, ◌⊎◌, ◌&&◌, ◌||◌, Bool, true, false, List, [], ◌∷◌, ◌++◌, fold, flat_map, append_assoc, refl, ap, sym, ◌∙◌, subst, arith, inl, inr, Option, Some, None, slice_get}, lemmas.Bool.cases_lt, lemmas.List.append-nil, lemmas.Option.same_Some}
use Rattle.rb_base.specs.{Nodes.Side, Nodes.Side.Biu}
use Rattle.rb_base.proofs.Plain.{true-false}
use Rattle.rb_rules.specs.{Book.{Book, Each, Milestone, in_order, of_kind}, Clock.time_of, Goodness.{Scenario, clock_of, is_good}, Lawful.IsLawful, Ports.{HandIn, with_state}, Rounds.moment, WorldStep.{comes_so, due_at, frame_in, hand, is_complete, least, needs_no_event, settle_next, times_of, Choice, Due, EventsAreRounds, Pending, Site, Timed, World, choose, due_of, first_world, go_on, settle, take, take_if_due, world_after}, WorldStep.Choice.{Take, GoOn, Hand}, WorldStep.Pending.{Tick, Arrival}, WorldStep.Way.ByItself, Moments.IsRunning}
use Rattle.rb_laws_events.proofs.{Alone.go-on-settled, Behind.WaitsAt, BreakNodes.{BreaksAt, KeepsNodes}, BreakOff.{BreaksOff, IsOver, begins-off, take-off}, Completing.next_world, DueEvents.{IsDue, IsReady}, SettledOnce.settle-still, AllSteps.of-rounds, FirstInRounds.first-in-rounds, EventsLaw.law-from, FirstWorld.at_begin, NodeActs.HasRoom, Invariant.{is_good_at, last_tick, next_stage}, MomentSteps.{NextIsStage, next-is-stage}, Pace.settle-paced, UpToThere.{Reaches, breaks-later, from-running, reach, reaches-first}, OneHandIn.{HandsIn, hand-keeps}, OneEvent.{ClosesEarlier, MayHappen, WorldInRounds, up-there}, OneTake.{StandsInRounds, StandsUpTo, closes-earlier, is-paced, settle-hands, settle-ports, settled-stands, take-keeps, world-waits}, SettlingFrames.{IsOfMoment, all-settled}, WorldStands.{IsUp, sent_by}, WorldNodes.{events-due, settle-sites}}
use Rattle.rb_laws_events.specs.Closing.{stages_in}

-- Choices.

-- if something is due, the run has not ended, and the next record needs an event
pub due-going : (sc : Scenario) (w : World) (i : ℕ) {d : _} → slice_get (due_of sc w) i ≡ Some d → (w.book.ended ≡ false) × (needs_no_event sc w.book.upcoming ≡ false)
unfolding due_of
due-going sc w i {d} = by w.book.ended (needs_no_event sc w.book.upcoming)
  where
    by : (b c : Bool) → slice_get (elim (b || c) as (λ _. List Due) [
      | true ↦ []
      | false ↦ due_at sc w (least (flat_map times_of (in_order w.sites)))
    ]) i ≡ Some d → (b ≡ false) × (c ≡ false)
    by true c e = cc
    by false true e = cc
    by false false e = (refl, refl)

-- Worlds.

-- all nodes stand in the rounds, none beyond a stage with which the run breaks off
pub record InRun (sc : Scenario) (w : World) : Type 0 where
  pub stands : StandsInRounds sc w
  pub before : (b q : ℕ) → BreaksAt sc w.hands b q → (me : Side) (i : ℕ) (s : Site) → slice_get (of_kind me w.sites) i ≡ Some s → stands.at me i ≤ b

-- every world is one of three
abbrev pub AnyWorld : (sc : Scenario) → (ℕ → List HandIn → ℕ → (Side → ℕ → ℕ → Bool) → Each Site → Type 0) → World → Type 0
AnyWorld sc N w = InRun sc w ⊎ (BreaksOff sc N w ⊎ IsOver sc N w)

-- what settles by itself keeps the world in the rounds
go-on-keeps : {sc now at w : _} → IsLawful sc → HasRoom sc.plan → WorldInRounds sc now at w
    → WorldInRounds sc now at (go_on sc w) × (((go_on sc w).sites ≡ w.sites) × ((go_on sc w).hands ≡ w.hands))
unfolding go_on
go-on-keeps {sc} {now} {at} {w} lawful room h = by w.book.ended
  where
    by : (b : Bool) → WorldInRounds sc now at (elim b as (λ _. World) [ true ↦ w | false ↦ settle sc ByItself 2 w ])
        × (((elim b as (λ _. World) [ true ↦ w | false ↦ settle sc ByItself 2 w ]).sites ≡ w.sites) × ((elim b as (λ _. World) [ true ↦ w | false ↦ settle sc ByItself 2 w ]).hands ≡ w.hands))
    by true = (h, (refl, refl))
    by false =
        let y : World = settle sc ByItself 2 w in (
          settled-stands w (settle-sites sc ByItself 2 w) (settle-hands sc ByItself 2 w) (settle-ports sc ByItself 2 w)
              h.sites h.passed h.tell h.told (all-settled ByItself 2 w room.ticks refl refl h.tell h.book) h.many h.ports h.handed
              (go-on-settled 2 w lawful.sizes h.told h.settled.waits) h.so_far
              (settle-paced ByItself 2 w lawful.sizes refl h.sites.counts h.told (is-paced h)).bound,
          (settle-sites sc ByItself 2 w, settle-hands sc ByItself 2 w),
        )

-- Choices in the run.

-- a due event that is taken: either the nodes stand in the rounds after it, or it is the first
-- close of a stage with which the run breaks off
take-run : {sc : _} (N : ℕ → List HandIn → ℕ → (Side → ℕ → ℕ → Bool) → Each Site → Type 0) {w d : _} → IsLawful sc → HasRoom sc.plan → ((q : ℕ) → q < 3 → KeepsNodes sc q (N q)) → InRun sc w
    → w.book.ended ≡ false → needs_no_event sc w.book.upcoming ≡ false → IsDue w d → AnyWorld sc N (take_if_due sc w (Some d))
take-run {sc} N {w} {d} lawful room keeps run going needs due = from-where waits.1.from
  where
    h : StandsInRounds sc w
    h = run.stands

    hands : List HandIn
    hands = w.hands

    waits : (n : ℕ) × WaitsAt sc w.hands h.at w.sites w.book n
    waits = world-waits h.stands going needs

    n : ℕ
    n = waits.0

    me : Side
    me = d.side

    i : ℕ
    i = d.node

    s : Site
    s = due.s

    reached : Reaches sc hands n → AnyWorld sc N (take_if_due sc w (Some d))
    reached r =
        let may : MayHappen sc h.at w n = record { stage = waits.1.stage; bound = waits.1.bound; within = waits.1.within; up_to = r.up_to } in
        let after : StandsUpTo sc hands n (take_if_due sc w (Some d)) =
        take-keeps lawful room h.stands may going due (closes-earlier lawful h.stands waits.1 r.up_to due) in
        inl (record {
          stands = after.stands;
          before = λ b q off me i s there.
              let le = after.bound me i s there in
              let not_past = r.not_past b q (subst (λ hands. BreaksAt sc hands b q) after.hands_are off) in
              omega (arith, le, not_past);
        })

    breaks : (b q : ℕ) → BreaksAt sc hands b q → n ≡ next_stage sc.sizes (moment sc hands b) b → w.book ≡ (moment sc hands b).book → AnyWorld sc N (take_if_due sc w (Some d))
    breaks b q off n_is is = by d.pending refl
      where
        stage : (moment sc hands b).window < stages_in sc.sizes
        stage = let small = off.small in let window = off.window in omega (arith, small, window)

        bound : (me : Side) (i : ℕ) (s : Site) → slice_get (of_kind me w.sites) i ≡ Some s → h.at me i ≤ b
        bound = run.before b q off

        may : MayHappen sc h.at w b
        may =
            let next : NextIsStage sc hands b = next-is-stage sc hands b (omega (arith, stage)) in
            let later = next.later in
            record { stage = stage; bound = bound; within = λ p le. waits.1.within p (omega (arith, le, n_is, later)); up_to = from-running hands lawful b stage off.running }

        still : ClosesEarlier sc hands h.at b me i d.pending → AnyWorld sc N (take_if_due sc w (Some d))
        still early =
            let after : StandsUpTo sc hands b (take_if_due sc w (Some d)) = take-keeps lawful room h.stands may going due early in
            inl (record {
              stands = after.stands;
              before = λ c r off2 me i s there.
                  let le = after.bound me i s there in
                  let not_past = breaks-later b (subst (λ hands. BreaksAt sc hands c r) after.hands_are off2) off.running in
                  omega (arith, le, not_past);
            })

        by : (p : Pending) → d.pending ≡ p → AnyWorld sc N (take_if_due sc w (Some d))
        by (Arrival place c) e = still (subst (ClosesEarlier sc hands h.at b me i) (sym e) tt)
        by (Tick k) e =
            let ready : IsReady due.t s (Tick k) = subst (IsReady due.t s) e due.ready in
            let a : Timed = ready.0 in
            let p : ℕ = h.at me i in
            let le : p ≤ b = bound me i s due.there in
            elim (cases_lt p b) [
              | inl lt ↦ still (subst (ClosesEarlier sc hands h.at b me i) (sym e) (λ st f last. lt))
              | inr ge ↦
                  let same : p ≡ b = omega (arith, le, ge) in
                  let up : IsUp sc hands (sent_by sc hands h.at w.sites) h.now me i p s = up-there w me i h.stands.sites due.there ready.1.0 in
                  let a_is : up.a ≡ a = same_Some up.a a (sym up.stands.receives.pends ∙ ready.1.0) in
                  let tick : up.a.tick ≡ k = ap (λ (a : Timed). a.tick) a_is ∙ ready.1.1.0 in
                  let within : up.a.tick ≤ last_tick sc (moment sc hands p) me up.st = up.stands.receives.in_window in
                  elim (cases_lt k (last_tick sc (moment sc hands p) me up.st)) [
                    | inl lt ↦ still (subst (ClosesEarlier sc hands h.at b me i) (sym e) (λ st f last.
                        let st_is : up.st ≡ st = same_Some up.st st (sym up.stands.state ∙ f) in
                        let its : last_tick sc (moment sc hands p) me up.st ≡ last_tick sc (moment sc hands p) me st = ap (last_tick sc (moment sc hands p) me) st_is in
                        absurd (omega (arith, lt, its, last))))
                    | inr not_lt ↦
                        let last : k ≡ last_tick sc (moment sc hands p) me up.st = omega (arith, not_lt, tick, within) in
                        let time : up.a.time ≡ due.t = ap (λ (a : Timed). a.time) a_is ∙ ready.1.1.1.0 in
                        let later : h.now ≤ up.a.time = up.stands.receives.tick_after in
                        inr (begins-off N lawful room (keeps q off.small) off h.stands bound is needs due e same
                        (subst (λ p. slice_get (of_kind me (moment sc hands p).nodes) i ≡ Some up.st) same up.stands.state)
                        (subst (λ p. is_good_at sc (moment sc hands p) me i ≡ true) same up.stands.good)
                        (subst (λ p. k ≡ last_tick sc (moment sc hands p) me up.st) same last) (omega (arith, later, time))
                        (sym time ∙ up.stands.receives.at_time ∙ ap (time_of (clock_of sc me i)) tick))
                  ]
            ]

    from-where : (n ≡ 0) ⊎ ((g : ℕ) × (IsRunning (moment sc hands g) × ((n ≡ next_stage sc.sizes (moment sc hands g) g) × (w.book ≡ (moment sc hands g).book)))) → AnyWorld sc N (take_if_due sc w (Some d))
    from-where (inl first) = reached (reaches-first hands lawful waits.1.stage first)
    from-where (inr from) = elim (reach hands lawful waits.1.stage from.0 from.1.0 from.1.1.0) [
      | inl r ↦ reached r
      | inr b ↦ breaks from.0 b.0 b.1 from.1.1.0 from.1.1.1
    ]

-- what settles by itself leaves the world in the run
go-on-run : {sc w : _} → IsLawful sc → HasRoom sc.plan → InRun sc w → InRun sc (go_on sc w)
go-on-run {sc} {w} lawful room run =
    let h : StandsInRounds sc w = run.stands in
    let y = go-on-keeps lawful room h.stands in
    record {
      stands = record { now = h.now; at = h.at; stands = y.0 };
      before = λ b q off me i s there.
          run.before b q (subst (λ hands. BreaksAt sc hands b q) y.1.1 off) me i s (ap (λ sites. slice_get (of_kind me sites) i) (sym y.1.0) ∙ there);
    }

-- a hand-in leaves the world in the run
hand-run : {sc w : _} (biu state : ℕ) → IsLawful sc → HasRoom sc.plan → InRun sc w → InRun sc (hand sc w biu state)
hand-run {sc} {w} biu state lawful room run =
    let h : StandsInRounds sc w = run.stands in
    let y : HandsIn sc h.now h.at w (hand sc w biu state) = hand-keeps biu state lawful room h.stands in
    record {
      stands = record { now = h.now; at = h.at; stands = y.stands };
      before = λ b q off me i s there.
          let old : slice_get (of_kind me w.sites) i ≡ Some s = ap (λ sites. slice_get (of_kind me sites) i) (sym y.sites) ∙ there in
          elim y.free [
            | inl same ↦ run.before b q (subst (λ hands. BreaksAt sc hands b q) same off) me i s old
            | inr free ↦
                let le : free.0 ≤ b = breaks-later free.0 off free.1.0 in
                let near : h.at me i ≤ free.0 + 1 = free.1.1.1 me i s old in
                elim (cases_lt free.0 b) [
                  | inl lt ↦ omega (arith, lt, near)
                  | inr ge ↦
                      let same : b ≡ free.0 = omega (arith, le, ge) in
                      let first : (moment sc (hand sc w biu state).hands b).window ≡ 0 = ap (λ n. (moment sc (hand sc w biu state).hands n).window) same ∙ free.1.1.0 in
                      let some : 1 ≤ sc.sizes.bius = lawful.sizes.some_biu in
                      let window = off.window in
                      absurd (omega (arith, first, some, window))
                ]
          ];
    }

-- Choices once the run has broken off.

go-on-still : {sc : _} (N : ℕ → List HandIn → ℕ → (Side → ℕ → ℕ → Bool) → Each Site → Type 0) {w : _} → BreaksOff sc N w → BreaksOff sc N (go_on sc w)
unfolding go_on
go-on-still {sc} N {w} h =
    let going : w.book.ended ≡ false = ap (λ (b : Book). b.ended) h.stands.is ∙ h.stands.off.running in
    let of : (m : Milestone) → needs_no_event sc m ≡ false → comes_so sc ByItself m ≡ false = λ m e. e in
    let still : settle_next sc ByItself w ≡ w =
    ap (λ b. elim (b && is_complete sc w.sites w.book.upcoming) as (λ _. World) [ true ↦ next_world sc w w.book.upcoming | false ↦ w ]) (of w.book.upcoming h.stands.needs) in
    subst (λ b. BreaksOff sc N (elim b as (λ _. World) [ true ↦ w | false ↦ settle sc ByItself 2 w ])) (sym going)
    (subst (BreaksOff sc N) (sym (settle-still sc ByItself 2 still)) (record { stands = h.stands; silent = refl; ports = h.ports }))

go-on-over : {sc : _} (N : ℕ → List HandIn → ℕ → (Side → ℕ → ℕ → Bool) → Each Site → Type 0) {w : _} → IsOver sc N w → IsOver sc N (go_on sc w)
unfolding go_on
go-on-over {sc} N {w} h = subst (λ b. IsOver sc N (elim b as (λ _. World) [ true ↦ w | false ↦ settle sc ByItself 2 w ])) (sym h.ended) h

-- nothing is handed in unless the turn is the record of a frame
pub hand-none : (sc : Scenario) (w : World) (biu state : ℕ) → frame_in w.turn ≡ None → hand sc w biu state ≡ w
unfolding hand
hand-none sc w biu state silent = ap (λ o. elim o as (λ _. World) [
  | None ↦ w
  | Some frame ↦ elim (is_good sc Biu biu frame 0) [
    | true ↦ record w { ports = with_state biu state w.ports; hands = w.hands ++ record { frame = frame; biu = biu; state = state } ∷ [] }
    | false ↦ w
  ]
]) silent

-- one choice keeps `AnyWorld`
choice-keeps : {sc : _} (N : ℕ → List HandIn → ℕ → (Side → ℕ → ℕ → Bool) → Each Site → Type 0) (choices : List Choice) (c : Choice) → IsLawful sc → HasRoom sc.plan → ((q : ℕ) → q < 3 → KeepsNodes sc q (N q))
    → AnyWorld sc N (world_after sc choices) → AnyWorld sc N (choose sc (world_after sc choices) c)
unfolding take
choice-keeps {sc} N choices (Take i) lawful room keeps h = by (slice_get (due_of sc (world_after sc choices)) i) refl
  where
    w : World
    w = world_after sc choices

    of : (d : Due) → w.book.ended ≡ false → needs_no_event sc w.book.upcoming ≡ false → IsDue w d → AnyWorld sc N w → AnyWorld sc N (take_if_due sc w (Some d))
    of d going needs due (inl run) = take-run N lawful room keeps run going needs due
    of d going needs due (inr (inl off)) = inr (take-off N lawful room keeps off due)
    of d going needs due (inr (inr over)) = true-false (sym over.ended ∙ going)

    by : (o : Option Due) → slice_get (due_of sc (world_after sc choices)) i ≡ o → AnyWorld sc N (take_if_due sc (world_after sc choices) o)
    by None e = h
    by (Some d) e = let open_still = due-going sc w i e in of d open_still.0 open_still.1 (events-due sc choices i e) h
choice-keeps N choices GoOn lawful room keeps (inl run) = inl (go-on-run lawful room run)
choice-keeps N choices GoOn lawful room keeps (inr (inl off)) = inr (inl (go-on-still N off))
choice-keeps N choices GoOn lawful room keeps (inr (inr over)) = inr (inr (go-on-over N over))
choice-keeps N choices (Hand biu state) lawful room keeps (inl run) = inl (hand-run biu state lawful room run)
choice-keeps {sc} N choices (Hand biu state) lawful room keeps (inr (inl off)) =
    inr (inl (subst (BreaksOff sc N) (sym (hand-none sc (world_after sc choices) biu state off.silent)) off))
choice-keeps {sc} N choices (Hand biu state) lawful room keeps (inr (inr over)) =
    inr (inr (subst (IsOver sc N) (sym (hand-none sc (world_after sc choices) biu state over.silent)) over))

pub after-more : (sc : Scenario) (choices : List Choice) (c : Choice) → world_after sc (choices ++ c ∷ []) ≡ choose sc (world_after sc choices) c
after-more sc choices c = more choices (first_world sc)
  where
    more : (cs : List Choice) (w : World) → fold (choose sc) w (cs ++ c ∷ []) ≡ choose sc (fold (choose sc) w cs) c
    more [] w = refl
    more (x ∷ xs) w = more xs (choose sc w x)

-- the first world is in the run
first-run : {sc : _} → IsLawful sc → HasRoom sc.plan → InRun sc (first_world sc)
first-run lawful room =
    record { stands = record { now = 0; at = at_begin; stands = first-in-rounds lawful room }; before = λ b q off me i s there. omega arith }

-- further choices keep `AnyWorld`
from-here : {sc : _} (N : ℕ → List HandIn → ℕ → (Side → ℕ → ℕ → Bool) → Each Site → Type 0) → IsLawful sc → HasRoom sc.plan → ((q : ℕ) → q < 3 → KeepsNodes sc q (N q)) → (before rest : List Choice)
    → AnyWorld sc N (world_after sc before) → AnyWorld sc N (world_after sc (before ++ rest))
from-here {sc} N lawful room keeps before [] h = subst (λ cs. AnyWorld sc N (world_after sc cs)) (sym (append-nil before)) h
from-here {sc} N lawful room keeps before (c ∷ rest) h =
    let one : AnyWorld sc N (world_after sc (before ++ c ∷ [])) =
    subst (AnyWorld sc N) (sym (after-more sc before c)) (choice-keeps N before c lawful room keeps h) in
    subst (λ cs. AnyWorld sc N (world_after sc cs)) (append_assoc before (c ∷ []) rest) (from-here N lawful room keeps (before ++ c ∷ []) rest one)

-- every world is in the run, or it breaks off there, or has broken off
pub any-after : {sc : _} (N : ℕ → List HandIn → ℕ → (Side → ℕ → ℕ → Bool) → Each Site → Type 0) → IsLawful sc → HasRoom sc.plan → ((q : ℕ) → q < 3 → KeepsNodes sc q (N q)) → (choices : List Choice)
    → AnyWorld sc N (world_after sc choices)
any-after N lawful room keeps choices = from-here N lawful room keeps [] choices (inl (first-run lawful room))

of-any : {sc : _} (N : ℕ → List HandIn → ℕ → (Side → ℕ → ℕ → Bool) → Each Site → Type 0) {w : _} → AnyWorld sc N w → IsOfMoment sc w.hands w.book
of-any N (inl run) = run.stands.stands.book
of-any N (inr (inl off)) = inr (off.stands.b, off.stands.is)
of-any N (inr (inr over)) = over.of

-- events are rounds
pub events-are-rounds : (sc : Scenario) (N : ℕ → List HandIn → ℕ → (Side → ℕ → ℕ → Bool) → Each Site → Type 0) → ((choices : List Choice) → AnyWorld sc N (world_after sc choices)) → EventsAreRounds sc
events-are-rounds sc N any = law-from sc (λ choices. of-rounds sc (world_after sc choices) (of-any N (any choices)))
