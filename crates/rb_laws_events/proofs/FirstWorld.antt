-- For the law that events are rounds: in the first world all nodes stand in the first moment.
use Rattle.std.proofs.{Common.{◌≡◌, ℕ, zero, suc, ◌+◌, ◌*◌, ◌<◌, ◌≤◌, ◌⊎◌, Bool, true, false, List, [], ◌∷◌, ◌++◌, length, refl, ap, sym, ◌∙◌, subst, arith, inl, inr, Option, Some, None, slice_get, option_and_then}, lemmas.Bool.cases_lt, lemmas.Option.same_Some}
use Rattle.rb_base.specs.{Nodes.{Side, other}, Nodes.Side.{Biu, Rmu}, Sizes.Sizes}
use Rattle.rb_base.proofs.Plain.{true-false}
use Rattle.rb_rules.specs.{declared.plan.Plan.Plan, Book.{Each, each_of, of_kind}, Clock.{Timeline, time_of}, declared.plan.Window.Window, Core.{state_at, window_here}, Goodness.{Scenario, clock_of, is_good}, Hearing.{Coming, Span, said_by, span_of}, NodeState.{NodeState, first_state}, Ports.HandIn, Rounds.{Moment, begin_frame, moment, window_in}, Slots.count_of, WorldStep.{Site, await, enter, first_world, fresh_site, proceed, says_in, span_from, stop}}
use Rattle.rb_rules.proofs.WindowNumbers.{get-made}
use Rattle.rb_laws_agreement.proofs.Goodnesses.{good_counts}
use Rattle.rb_laws_events.proofs.{Invariant.{InTime, ahead_so_far, heard_so_far, is_good_at, last_tick, next_stage, sending_of}, NodeActs.HasRoom, NodeCloses.{good-span, span-begins}, NodeGoesOn.{Entered, Enters, enters}, NodeTicks.gone, PendingLists.Hears, ReceiverHears.stands-same, RoundNodes.slot_numbered, SameHeard.Every, SayLists.{ComesIn, every-to, said_if, say-more, says-come-in, says-now}, SentChanges.{past, sending-of-is, sent-here, sent-later}, TickWindows.{IsTickIn, Tiles, first_of, first-same, here-is, tiles}, Timing.{AreInTime, HavePassed}, WorldEvents.{past-gone, past-none}, WorldNodes.first-counts, WorldStands.{IsDown, IsUp, SitesStand, ahead_in, sent_by}}

-- nobody has sent anything
abbrev pub none_sent : Side → ℕ → ℕ → Bool
none_sent side j p = false

-- all nodes stand in the first moment
abbrev pub at_begin : Side → ℕ → ℕ
at_begin side i = 0

pub not-turned : (sizes : Sizes) (plan : Plan) (me : Side) (k : ℕ) → state_at sizes plan me (first_state sizes me) k ≡ first_state sizes me
unfolding state_at
not-turned sizes plan Biu k = refl
not-turned sizes plan Rmu k = refl

ahead-none : (sc : Scenario) (m : Moment) (me : Side) (i j : ℕ) → ahead_so_far sc m me i (λ j. false) j ≡ []
ahead-none sc m me i j = by (is_good_at sc m (other me) j)
  where
    by : (b : Bool) → (elim b as (λ _. List Coming) [ true ↦ [] | false ↦ [] ]) ≡ []
    by true = refl
    by false = refl

heard-none : (sc : Scenario) (m : Moment) (me : Side) (i j : ℕ) (st : NodeState) → st.frame ≡ m.frame
    → heard_so_far sc m me i (span_of st (window_in sc m me st)) (λ j. false) j ≡ said_if sc me i (span_of st (window_in sc m me st)) j
heard-none sc m me i j st frame =
    sym (ap (λ b. elim b as (λ _. List Coming) [ true ↦ [] | false ↦ said_by sc me i (span_of st (window_in sc m me st)) j ]) (good-span sc m me (other me) j st frame))

nothing-heard : (j u : ℕ) → Hears j u [] [] [] []
nothing-heard j u = record { came = tt; pends = tt; as_many = refl; later = refl }

-- a good node's site enters the first window
first-enters : (sc : Scenario) (hands : List HandIn) (me : Side) (i : ℕ) → HasRoom sc.plan → is_good_at sc (moment sc hands 0) me i ≡ true
    → Enters sc hands none_sent 0 me i 0 0 (first_state sc.sizes me) (fresh_site sc.sizes me)
unfolding begin_frame
first-enters sc hands me i room good =
    let m : Moment = moment sc hands 0 in
    let st : NodeState = first_state sc.sizes me in
    let clock : Timeline = clock_of sc me i in
    let span : Span = span_of st (window_in sc m me st) in
    let u : ℕ = time_of clock (last_tick sc m me st) in
    let counted : i < count_of me sc.sizes = good_counts sc me i 0 (slot_numbered sc.sizes 0) good in
    let zero_first : first_of sc.sizes sc.plan me st 0 ≡ 0 * sc.plan.l = first-same sc.sizes sc.plan me st 0 (omega arith) in
    let t : Tiles sc.sizes sc.plan me st 0 = tiles sc.sizes me st 0 room.ticks (omega arith) in
    let first : 0 ≡ st.epoch + first_of sc.sizes sc.plan me st 0 = omega arith in
    record {
      state = get-made sc.sizes (λ me i. first_state sc.sizes me) me i counted;
      good = good;
      frame = refl;
      window = omega arith;
      had = refl;
      turned = not-turned sc.sizes sc.plan me 0;
      first = first;
      some = t.some;
      empty = refl;
      inbox = refl;
      known = tt;
      later = tt;
      behind = tt;
      soon = omega arith;
      before = λ j e. absurd (omega (arith, e));
      at_first = λ e. refl;
      hears = λ j.
          let says_times : Every (λ c. c.time ≤ u) (says_in sc me i span) =
          every-to (ComesIn clock span) (λ c. c.time ≤ u) (λ c h. h.1) (says_in sc me i span) (says-come-in sc me i span) in
          let more : Hears j u [] ([] ++ says_in sc me i span) ([] ++ said_if sc me i span j) [] =
          say-more (says_in sc me i span) (says-now sc me i span j) says_times (inr refl) (nothing-heard j u) in
          subst (λ l. Hears j u [] (says_in sc me i span) l (ahead_so_far sc (moment sc hands (next_stage sc.sizes m 0)) me i (λ j. false) j)) (sym (heard-none sc m me i j st refl))
          (subst (λ l. Hears j u [] (says_in sc me i span) (said_if sc me i span j) l) (sym (ahead-none sc (moment sc hands (next_stage sc.sizes m 0)) me i j)) more);
    }

-- tick 0 lies in the first window
first-tick : (sc : Scenario) (me : Side) → IsTickIn sc.sizes sc.plan me (first_state sc.sizes me) 0 0
first-tick sc me =
    let st : NodeState = first_state sc.sizes me in
    let zero_first : first_of sc.sizes sc.plan me st 0 ≡ 0 * sc.plan.l = first-same sc.sizes sc.plan me st 0 (omega arith) in
    record { from = omega arith; to = omega arith }

-- the span that starts there
first-span : (sc : Scenario) (hands : List HandIn) (me : Side) → HasRoom sc.plan
    → span_from sc.sizes sc.plan me (first_state sc.sizes me) 0 ≡ Some (span_of (first_state sc.sizes me) (window_in sc (moment sc hands 0) me (first_state sc.sizes me)))
unfolding begin_frame
first-span sc hands me room =
    let st : NodeState = first_state sc.sizes me in
    let zero_first : first_of sc.sizes sc.plan me st 0 ≡ 0 * sc.plan.l = first-same sc.sizes sc.plan me st 0 (omega arith) in
    let first : 0 ≡ st.epoch + first_of sc.sizes sc.plan me st 0 = omega arith in
    let at : IsTickIn sc.sizes sc.plan me st 0 0 = first-tick sc me in
    span-begins sc.sizes sc.plan me st 0 (not-turned sc.sizes sc.plan me 0) (here-is me st room.ticks (omega arith) at) first

-- a node of the first world runs or is down, and has sent nothing
pub record FirstNode (sc : Scenario) (hands : List HandIn) (me : Side) (i : ℕ) (s : Site) : Type 0 where
  pub node : ((s.runs ≡ true) × IsUp sc hands none_sent 0 me i 0 s) ⊎ ((s.runs ≡ false) × IsDown sc hands me i 0 s)
  pub silent : past (sending_of sc (moment sc hands 0) me i) s.ahead ≡ false

first-node : {sc : Scenario} {hands : List HandIn} (me : Side) (i : ℕ) → HasRoom sc.plan → AreInTime sc hands at_begin → i < count_of me sc.sizes
    → FirstNode sc hands me i (proceed sc me i (fresh_site sc.sizes me))
unfolding proceed begin_frame
first-node {sc} {hands} me i room times counted =
    let m : Moment = moment sc hands 0 in
    let st : NodeState = first_state sc.sizes me in
    let s : Site = fresh_site sc.sizes me in
    let span : Span = span_of st (window_in sc m me st) in
    let by : (b : Bool) → is_good_at sc m me i ≡ b
    → FirstNode sc hands me i (elim b as (λ _. Site) [ true ↦ await sc me i (says_in sc me i span) s | false ↦ stop s ]) =
    λ b. elim b as (λ b. is_good_at sc m me i ≡ b
    → FirstNode sc hands me i (elim b as (λ _. Site) [ true ↦ await sc me i (says_in sc me i span) s | false ↦ stop s ])) [
      | true ↦ λ e.
          let en : Enters sc hands none_sent 0 me i 0 0 st s = first-enters sc hands me i room e in
          let it : InTime sc m (moment sc hands (next_stage sc.sizes m 0)) = times.each me i e in
          let ent : Entered sc hands none_sent 0 me i 0 st s =
          enters room (it.keeps me i st en.state e) (it.room me i st en.state e) en in
          record {
            node = inl (refl, record { st = st; a = ent.a; stands = ent.stands });
            silent = ap (past (sending_of sc m me i)) ent.stands.receives.pends ∙ past-gone (sending_of sc m me i) ent.a
                ∙ ap (λ o. gone o ent.a.tick) (sending-of-is sc m me i en.state) ∙ ent.silent;
          }
      | false ↦ λ e.
          let at : IsTickIn sc.sizes sc.plan me st 0 0 = first-tick sc me in
          record {
            node = inr (
              refl,
              record {
                not_good = e;
                stopped = ap (λ (y : NodeState). is_good sc me i y.frame (window_here sc.sizes sc.plan me y 0).slot) (not-turned sc.sizes sc.plan me 0)
                    ∙ ap (λ (w : Window). is_good sc me i 0 w.slot) (here-is me st room.ticks (omega arith) at)
                    ∙ good-span sc m me me i st refl ∙ e;
                ahead = refl;
                coming = refl;
              },
            );
            silent = past-none (sending_of sc m me i);
          }
    ] in
    subst (λ o. FirstNode sc hands me i (enter sc me i o s)) (sym (first-span sc hands me room))
    (subst (λ b. FirstNode sc hands me i (elim b as (λ _. Site) [ true ↦ await sc me i (says_in sc me i span) s | false ↦ stop s ]))
    (sym (good-span sc m me me i st refl)) (by (is_good_at sc m me i) refl))

-- in the first world all nodes stand in the first moment, and nobody has passed a window
pub first-stands : {sc : Scenario} {hands : List HandIn} → HasRoom sc.plan → AreInTime sc hands at_begin
    → SitesStand sc hands 0 at_begin (first_world sc).sites × HavePassed sc hands 0 at_begin
unfolding first_world
first-stands {sc} {hands} room times =
    let make : Side → ℕ → Site = λ me i. proceed sc me i (fresh_site sc.sizes me) in
    let sites : Each Site = each_of sc.sizes make in
    let counts : (me : Side) → length (of_kind me sites) ≡ count_of me sc.sizes = first-counts sc.sizes make in
    let made : (me : Side) (i : ℕ) (s : Site) → slice_get (of_kind me sites) i ≡ Some s → FirstNode sc hands me i s =
    λ me i s e.
    let within : i < length (of_kind me sites) = get-within (of_kind me sites) i s e in
    let long : length (of_kind me sites) ≡ count_of me sc.sizes = counts me in
    let counted : i < count_of me sc.sizes = omega arith in
    let same : make me i ≡ s = same_Some (make me i) s (sym (get-made sc.sizes make me i counted) ∙ e) in
    subst (FirstNode sc hands me i) same (first-node me i room times counted) in
    let silent : (side : Side) (j : ℕ) (o : Option Site) → slice_get (of_kind side sites) j ≡ o
    → past (sending_of sc (moment sc hands 0) side j) (option_and_then (λ (s : Site). s.ahead) o) ≡ false =
    λ side j o. elim o as (λ o. slice_get (of_kind side sites) j ≡ o → past (sending_of sc (moment sc hands 0) side j) (option_and_then (λ (s : Site). s.ahead) o) ≡ false) [
      | None ↦ λ e. past-none (sending_of sc (moment sc hands 0) side j)
      | Some s ↦ λ e. (made side j s e).silent
    ] in
    let none : (side : Side) (j p : ℕ) → sent_by sc hands at_begin sites side j p ≡ false =
    λ side j p. elim (cases_lt 0 p) [
      | inl later ↦ sent-later (sending_of sc (moment sc hands p) side j) 0 p (ahead_in (of_kind side sites) j) later
      | inr now ↦
          let same : 0 ≡ p = omega arith in
          subst (λ p. sent_by sc hands at_begin sites side j p ≡ false) same
          (sent-here (sending_of sc (moment sc hands 0) side j) 0 (ahead_in (of_kind side sites) j) ∙ silent side j (slice_get (of_kind side sites) j) refl)
    ] in (
      record {
        up = λ me i s e runs. elim (made me i s e).node [
          | inl on ↦
              record { st = on.1.st; a = on.1.a; stands = stands-same (sent_by sc hands at_begin sites) (λ j p. none (other me) j p) on.1.stands }
          | inr off ↦ absurd (true-false (sym runs ∙ off.0))
        ];
        down = λ me i s e stopped. elim (made me i s e).node [
          | inl on ↦ absurd (true-false (sym on.0 ∙ stopped))
          | inr off ↦ off.1
        ];
        counts = counts;
      },
      record { passed = λ me i q st before. absurd (omega (arith, before)) },
    )
  where
    get-within : {X : Type 0} (xs : List X) (n : ℕ) (x : X) → slice_get xs n ≡ Some x → n < length xs
    get-within [] n x e = cc
    get-within (y ∷ ys) zero x e = omega arith
    get-within (y ∷ ys) (suc n) x e = let more : n < length ys = get-within ys n x e in omega arith
