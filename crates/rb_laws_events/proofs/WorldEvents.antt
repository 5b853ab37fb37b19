-- For the law that events are rounds: a due event keeps all nodes of the world in the rounds: each
-- stands in a moment, and has passed the windows before.
use Rattle.std.proofs.{Common.{◌≡◌, ℕ, ◌+◌, ◌^◌, ◌<◌, ◌≤◌, ◌⊎◌, Bool, true, false, List, refl, ap, sym, ◌∙◌, subst, arith, inl, inr, Option, Some, None, slice_get}, lemmas.Bool.cases_lt, lemmas.Option.same_Some}
use Rattle.rb_base.specs.Nodes.{Side}
use Rattle.rb_rules.specs.{Book.{Each, of_kind}, Clock.time_of, Core.{Act, Core, if_at}, Goodness.{Scenario, clock_of}, Hearing.{Sending, window_numbered}, Lawful.IsLawful, NodeState.NodeState, Ports.{HandIn, PortState}, Rounds.{Moment, moment, windows_in}, Slots.count_of, WorldStep.{Timed, Site, after_act, at_node, pass_and_tick, with_message}}
use Rattle.rb_rules.proofs.RoundStates.{close-stays, keeping-stays}
use Rattle.rb_laws_agreement.proofs.Goodnesses.{good_counts}
use Rattle.rb_laws_events.specs.Closing.{stages_in}
use Rattle.rb_laws_events.proofs.{Invariant.{InTime, NodeStands, is_good_at, last_tick, next_stage, sending_of, word_at}, MomentSteps.{NextIsStage, next-is-stage}, NodeActs.{HasRoom, HasWord, IsInWindow}, NodeClosing.{ClosesWindow, NextInTime, OthersKeepUp, closes-window}, NodeEvents.{StaysOpen, stands-on, stays-open}, NodeSends.{sending_at, sent-in}, NodeTicks.{by_said, gone, kept_in, state_in}, RoundNodes.{AllStand, Stands, moments-stand, slot_numbered}, SameHeard.Every, SentChanges.{Steps, none-of-tail, past, sending-of-is}, StageOrder.last_of, TickWindows.IsTickIn, Timing.{AreInTime, HavePassed, all-land, keep-up}, WorldStands.{AllPend, IsUp, SitesStand, is_node, node-is, sent_by}, WorldTicks.{AllLand, TicksNow, moved, tick-keeps-world}}

-- Time passes.

pub sites-on : {sc hands now : _} (t : ℕ) {at sites : _} → now ≤ t → AllPend t sites
    → SitesStand sc hands now at sites → SitesStand sc hands t at sites
unfolding AllPend
sites-on {sc} {hands} {now} t {at} {sites} le pend h = record {
  up = λ me i s there runs.
      let node : IsUp sc hands (sent_by sc hands at sites) now me i (at me i) s = h.up me i s there runs in
      record { st = node.st; a = node.a; stands = stands-on t le (pend me i s there) node.stands };
  down = h.down;
  counts = h.counts;
}

pub passed-on : {sc hands now : _} (t : ℕ) {at : _} → now ≤ t → HavePassed sc hands now at → HavePassed sc hands t at
passed-on {sc} {hands} {now} t le h =
    record { passed = λ me i q st before stage there good. let gone : time_of (clock_of sc me i) (last_tick sc (moment sc hands q) me st) ≤ now = h.passed me i q st before stage there good in omega arith }

-- A tick.

-- the tick of the node is due, and nothing is pending before it
pub record TickIsDue (sc : Scenario) (hands : List HandIn) (now : ℕ) (at : Side → ℕ → ℕ) (sites : Each Site) (ports : List PortState) (me : Side) (i : ℕ) (s : Site) (a : Timed) : Type 0 where
  pub there : slice_get (of_kind me sites) i ≡ Some s
  pub runs : s.runs ≡ true
  pub pend : s.ahead ≡ Some a
  pub alone : Every (λ c. a.time < c.time) s.coming
  pub first : AllPend a.time sites
  pub later : now ≤ a.time
  pub word : (st : NodeState) → slice_get (of_kind me (moment sc hands (at me i)).nodes) i ≡ Some st
      → HasWord sc ports me i st (moment sc hands (at me i)).window (word_at sc (moment sc hands (at me i)) me i st)
  -- a node that closes its window is in time where it stands next
  pub next : (st : NodeState) → slice_get (of_kind me (moment sc hands (at me i)).nodes) i ≡ Some st → a.tick ≡ last_tick sc (moment sc hands (at me i)) me st
      → NextInTime sc hands (at me i)

-- after the tick the node stands in moment `r`, and has closed its window or not
pub record AfterTick (sc : Scenario) (hands : List HandIn) (at : Side → ℕ → ℕ) (sites : Each Site) (ports : List PortState) (me : Side) (i : ℕ) (s : Site) (a : Timed) (x : Act) : Type 0 where
  pub r : ℕ
  pub st : NodeState
  pub there : slice_get (of_kind me (moment sc hands (at me i)).nodes) i ≡ Some st
  pub good : is_good_at sc (moment sc hands (at me i)) me i ≡ true
  pub frame : st.frame ≡ (moment sc hands (at me i)).frame
  pub stands : IsInWindow sc.sizes sc.plan me i st (moment sc hands (at me i)).window (word_at sc (moment sc hands (at me i)) me i st) a.tick s.core.state
  pub sites_stand : SitesStand sc hands a.time (moved me i r at) (with_message sc me i x.core.state.frame a.tick x.message (at_node me i (after_act sc ports me i x) sites))
  pub passed : HavePassed sc hands a.time (moved me i r at)
  pub node : ((r ≡ at me i) × StaysOpen sc hands (sent_by sc hands at sites) a.time ports me i (at me i) s st a.tick x)
      ⊎ ((at me i < r) × ((closes : ClosesWindow sc hands (sent_by sc hands at sites) ports me i (at me i) s st a x) × ((closes.q ≡ r) × (a.tick ≡ last_tick sc (moment sc hands (at me i)) me st))))

pub past-gone : (o : Option Sending) (b : Timed) → past o (Some b) ≡ gone o b.tick
past-gone None b = refl
past-gone (Some s) b = refl

pub past-none : (o : Option Sending) → past o None ≡ false
past-none None = refl
past-none (Some s) = refl

pub state-frame : (sc : Scenario) (me : Side) (i : ℕ) (st : NodeState) (n word k : ℕ) → (state_in sc.sizes sc.plan me i st n word k).frame ≡ st.frame
state-frame sc me i st n word k = by (gone (sending_at sc.sizes sc.plan me i st n word) k)
  where
    by : (b : Bool) → (by_said b st (kept_in sc.sizes sc.plan me i st n word)).frame ≡ st.frame
    by true = (keeping-stays sc.sizes me i st (window_numbered sc.sizes sc.plan me st n).slot (window_numbered sc.sizes sc.plan me st n).stage word).frame
    by false = refl

has-passed : {sc hands now : _} (t : ℕ) {at : _} (me : Side) (i r : ℕ) {st : _} → now ≤ t → HavePassed sc hands now at
    → slice_get (of_kind me (moment sc hands (at me i)).nodes) i ≡ Some st
    → ((r ≡ at me i) ⊎ ((at me i < r) × (time_of (clock_of sc me i) (last_tick sc (moment sc hands (at me i)) me st) ≤ t)))
    → ((q : ℕ) → at me i < q → q < r → stages_in sc.sizes ≤ (moment sc hands q).window)
    → HavePassed sc hands t (moved me i r at)
has-passed {sc} {hands} {now} t {at} me i r {st} le h there how between = record {
  passed = λ side j q other_st before stage here good.
      let go : (b : Bool) → is_node me i side j ≡ b → q < (elim b as (λ _. ℕ) [ true ↦ r | false ↦ at side j ])
      → time_of (clock_of sc side j) (last_tick sc (moment sc hands q) side other_st) ≤ t =
      λ b. elim b as (λ b. is_node me i side j ≡ b → q < (elim b as (λ _. ℕ) [ true ↦ r | false ↦ at side j ])
      → time_of (clock_of sc side j) (last_tick sc (moment sc hands q) side other_st) ≤ t) [
        | true ↦ λ e lt.
            let is = node-is me side i j e in
            let its : slice_get (of_kind me (moment sc hands q).nodes) i ≡ Some other_st =
            sym (ap (λ y. slice_get (of_kind y (moment sc hands q).nodes) j) is.0 ∙ ap (slice_get (of_kind me (moment sc hands q).nodes)) is.1) ∙ here in
            let its_good : is_good_at sc (moment sc hands q) me i ≡ true =
            sym (ap (λ y. is_good_at sc (moment sc hands q) y j) is.0 ∙ ap (is_good_at sc (moment sc hands q) me) is.1) ∙ good in
            let own : time_of (clock_of sc me i) (last_tick sc (moment sc hands q) me other_st) ≤ t = elim (cases_lt q (at me i)) [
              | inl earlier ↦
                  let gone : time_of (clock_of sc me i) (last_tick sc (moment sc hands q) me other_st) ≤ now = h.passed me i q other_st earlier stage its its_good in
                  omega arith
              | inr from ↦ elim (cases_lt (at me i) q) [
                | inl after ↦ let tail : stages_in sc.sizes ≤ (moment sc hands q).window = between q after lt in absurd (omega arith)
                | inr here_now ↦ elim how [
                  | inl stays ↦ absurd (omega (arith, stays, lt))
                  | inr moves ↦
                      let same : at me i ≡ q = omega arith in
                      let st_is : st ≡ other_st = same_Some st other_st (sym there ∙ ap (λ q. slice_get (of_kind me (moment sc hands q).nodes) i) same ∙ its) in
                      subst (λ z. time_of (clock_of sc me i) (last_tick sc (moment sc hands q) me z) ≤ t) st_is
                      (subst (λ q. time_of (clock_of sc me i) (last_tick sc (moment sc hands q) me st) ≤ t) same moves.1)
                ]
              ]
            ] in
            subst (λ y. time_of (clock_of sc y j) (last_tick sc (moment sc hands q) y other_st) ≤ t) (sym is.0)
            (subst (λ n. time_of (clock_of sc me n) (last_tick sc (moment sc hands q) me other_st) ≤ t) (sym is.1) own)
        | false ↦ λ e lt.
            let gone : time_of (clock_of sc side j) (last_tick sc (moment sc hands q) side other_st) ≤ now = h.passed side j q other_st lt stage here good in
            omega arith
      ] in
      go (is_node me i side j) refl before;
}

pub tick-event : {sc hands now at sites ports me i s a : _}
    → IsLawful sc → HasRoom sc.plan → AreInTime sc hands at → HavePassed sc hands now at → SitesStand sc hands now at sites
    → TickIsDue sc hands now at sites ports me i s a → AfterTick sc hands at sites ports me i s a (pass_and_tick sc ports me i a.tick s.core)
tick-event {sc} {hands} {at} {sites} {ports} {me} {i} {s} {a} lawful room times passed h due =
    let p : ℕ = at me i in
    let m : Moment = moment sc hands p in
    let old : Side → ℕ → ℕ → Bool = sent_by sc hands at sites in
    let ht : SitesStand sc hands a.time at sites = sites-on a.time due.later due.first h in
    let pt : HavePassed sc hands a.time at = passed-on a.time due.later passed in
    let up : IsUp sc hands old a.time me i p s = ht.up me i s due.there due.runs in
    let st : NodeState = up.st in
    let same : up.a ≡ a = same_Some up.a a (sym up.stands.receives.pends ∙ due.pend) in
    let node : NodeStands sc hands old a.time me i p s st a = subst (NodeStands sc hands old a.time me i p s st) same up.stands in
    let counted : i < count_of me sc.sizes = good_counts sc me i m.frame (slot_numbered sc.sizes m.window) node.good in
    let here : InTime sc m (moment sc hands (next_stage sc.sizes m p)) = times.each me i node.good in
    let stand : AllStand sc m = moments-stand sc hands p room.ticks in
    let known : Stands sc m me st = stand.stands me i st node.state node.good in
    let below : last_tick sc m me st < 2 ^ 31 = here.room me i st node.state node.good in
    let words = due.word st node.state in
    let x : Act = pass_and_tick sc ports me i a.tick s.core in
    let le : a.tick ≤ last_tick sc m me st = node.receives.in_window in
    let window : m.window ≤ stages_in sc.sizes = node.stands.window in
    let so_is : sending_of sc m me i ≡ sending_at sc.sizes sc.plan me i st m.window (word_at sc m me i st) = sending-of-is sc m me i node.state in
    let next : NextIsStage sc hands p = next-is-stage sc hands p window in
    let lands : (frame : ℕ) → frame ≡ m.frame → AllLand sc hands at sites me i frame a.tick a.time =
    λ frame e. all-land sites me i a.tick lawful room.ticks due.later node.receives.at_time counted node.good e (omega arith) passed times h.counts in
    elim (cases_lt a.tick (last_tick sc m me st)) [
      | inl before ↦
          let stays : StaysOpen sc hands old a.time ports me i p s st a.tick x = stays-open room below words due.alone before node in
          let frame : x.core.state.frame ≡ m.frame =
          ap (λ (z : NodeState). z.frame) stays.act.state ∙ state-frame sc me i st m.window (word_at sc m me i st) (a.tick + 1) ∙ known.frame in
          let site = stays.site in
          let steps : Steps (λ p. sending_of sc (moment sc hands p) me i) p a.tick p (Some stays.a) = record {
            how = inl (refl, ap (λ o. gone o (a.tick + 1)) so_is ∙ stays.silent ∙ sym (past-gone (sending_at sc.sizes sc.plan me i st m.window (word_at sc m me i st)) stays.a) ∙ sym (ap (λ o. past o (Some stays.a)) so_is));
            between = λ q lt gt. absurd (omega arith);
            all = λ lt. absurd (omega arith);
          } in
          record {
            r = p;
            st = st;
            there = node.state;
            good = node.good;
            frame = known.frame;
            stands = node.stands;
            sites_stand = tick-keeps-world (after_act sc ports me i x) lawful due.later due.first
                (record {
                  there = due.there;
                  pend = due.pend;
                  tick = refl;
                  time = node.receives.at_time;
                  in_frame = frame;
                  good = node.good;
                  counted = counted;
                  message = stays.act.message ∙ ap (if_at a.tick) (sym so_is);
                  steps = steps;
                })
                (lands x.core.state.frame frame) (ap (λ (z : Site). z.ahead) site)
                (inl (ap (λ (z : Site). z.runs) site ∙ due.runs, record { st = st; a = stays.a; stands = stays.stands })) h;
            passed = has-passed a.time me i p due.later passed node.state (inl refl) (λ q lt gt. absurd (omega arith));
            node = inl (refl, stays);
          }
      | inr ge ↦
          let last : a.tick ≡ last_tick sc m me st = omega arith in
          let time : a.time ≡ time_of (clock_of sc me i) (last_tick sc m me st) = node.receives.at_time ∙ ap (time_of (clock_of sc me i)) last in
          let others : OthersKeepUp sc hands old me i p = keep-up me i lawful room.ticks node.state node.good time window pt times counted ht in
          let closes : ClosesWindow sc hands old ports me i p s st a x =
          closes-window room known (due.next st node.state last) others words due.alone last node in
          let r : ℕ = closes.q in
          let later : p < r = elim closes.place [ inl stage ↦ omega (arith, stage, next.later) | inr tail ↦ omega (arith, tail.0) ] in
          let between : (q : ℕ) → p < q → q < r → (stages_in sc.sizes ≤ (moment sc hands q).window) × ((moment sc hands q).window ≤ windows_in sc.sizes) =
          λ q lt gt. elim closes.place [ inl stage ↦ next.between q lt (omega (arith, stage, gt)) | inr tail ↦ absurd (omega (arith, tail.0, lt, gt)) ] in
          let close_frame : x.core.state.frame ≡ m.frame =
          ap (λ (c : Core). c.state.frame) closes.act.core
          ∙ (close-stays sc.sizes me i (kept_in sc.sizes sc.plan me i st m.window (word_at sc m me i st)) (window_numbered sc.sizes sc.plan me st m.window).slot
          (window_numbered sc.sizes sc.plan me st m.window).stage (window_numbered sc.sizes sc.plan me st m.window).first _).frame
          ∙ (keeping-stays sc.sizes me i st (window_numbered sc.sizes sc.plan me st m.window).slot (window_numbered sc.sizes sc.plan me st m.window).stage (word_at sc m me i st)).frame
          ∙ known.frame in
          let all : (y : Sending) → sending_of sc m me i ≡ Some y → y.tick ≤ a.tick =
          λ y e.
          let in_it : IsTickIn sc.sizes sc.plan me st m.window y.tick = sent-in i m.window (word_at sc m me i st) room.inside node.stands.keeps window (sym so_is ∙ e) in
          let to : y.tick ≤ st.epoch + last_of sc.sizes sc.plan me st m.window = in_it.to in
          omega arith in
          let steps : (b : Option Timed) → past (sending_of sc (moment sc hands r) me i) b ≡ false → Steps (λ p. sending_of sc (moment sc hands p) me i) p a.tick r b =
          λ b e. record {
            how = inr (later, e);
            between = λ q lt gt. none-of-tail sc (moment sc hands q) me i (between q lt gt).0 (between q lt gt).1;
            all = λ lt. all;
          } in
          let ticks : (b : Option Timed) → past (sending_of sc (moment sc hands r) me i) b ≡ false
          → TicksNow sc hands at sites me i x.core.state.frame a.tick r x.message s a b =
          λ b e. record {
            there = due.there;
            pend = due.pend;
            tick = refl;
            time = node.receives.at_time;
            in_frame = close_frame;
            good = node.good;
            counted = counted;
            message = closes.act.message ∙ ap (if_at a.tick) (sym so_is);
            steps = steps b e;
          } in
          let sites_after : SitesStand sc hands a.time (moved me i r at) (with_message sc me i x.core.state.frame a.tick x.message (at_node me i (after_act sc ports me i x) sites)) =
          elim closes.goes [
            | inl on ↦
                let silent : past (sending_of sc (moment sc hands r) me i) (Some on.a) ≡ false =
                ap (λ o. past o (Some on.a)) (sending-of-is sc (moment sc hands r) me i on.stands.state)
                ∙ past-gone (sending_at sc.sizes sc.plan me i on.st (moment sc hands r).window (word_at sc (moment sc hands r) me i on.st)) on.a ∙ on.silent in
                tick-keeps-world (after_act sc ports me i x) lawful due.later due.first
                (ticks (Some on.a) silent) (lands x.core.state.frame close_frame) on.stands.receives.pends
                (inl (closes.runs on.stands.good ∙ due.runs, record { st = on.st; a = on.a; stands = on.stands })) h
            | inr off ↦
                tick-keeps-world (after_act sc ports me i x) lawful due.later due.first
                (ticks None (past-none (sending_of sc (moment sc hands r) me i))) (lands x.core.state.frame close_frame) off.ahead
                (inr (off.runs, record { not_good = off.not_good; stopped = off.stopped; ahead = off.ahead; coming = off.coming })) h
          ] in
          record {
            r = r;
            st = st;
            there = node.state;
            good = node.good;
            frame = known.frame;
            stands = node.stands;
            sites_stand = sites_after;
            passed = has-passed a.time me i r due.later passed node.state (inr (later, omega (arith, time))) (λ q lt gt. (between q lt gt).0);
            node = inr (later, (closes, (refl, last)));
          }
    ]
