-- For the law that events are rounds: a node stays where it stands when something comes to it, when
-- an event happens elsewhere, and at a tick that is not the last of its window.
use Rattle.std.proofs.{Common.{◌≡◌, ℕ, suc, ◌+◌, ◌^◌, ◌<◌, ◌≤◌, ◌==◌, Bool, true, false, List, [], ◌∷◌, ◌++◌, map, refl, ap, sym, ◌∙◌, subst, arith, Option, Some, None, option_map, option_to_list}, lemmas.List.append-nil}
use Rattle.rb_base.specs.Nodes.{Side}
use Rattle.rb_base.proofs.Plain.{less-differs}
use Rattle.rb_rules.specs.{declared.record.Epoch.Epoch, Book.Begun, Clock.{Timeline, time_of, stamp_of}, Core.{Core, Act, arrive, next_tick, pass_to, state_at, window_here}, Goodness.{Scenario, clock_of}, Hearing.{Coming, Span, span_of, begun_of, window_numbered}, NodeState.NodeState, Ports.{HandIn, PortState}, Rounds.{Moment, moment}, WorldStep.{Timed, Site, after_act, after_arrival, enter, pass_and_tick, proceed, span_from, times_of, with_close, with_epoch}}
use Rattle.rb_rules.proofs.{Drift.times_rise_to, QuietTicks.arrive-same, Stamps.Moves}
use Rattle.rb_laws_events.proofs.{Invariant.{NodeStands, last_tick, word_at}, NodeActs.{ActsOpen, HasRoom, HasWord, IsInWindow, acts-open}, NodeNext.{NextIn, next-found, next-in}, NodeSends.sending_at, NodeTicks.{Like, gone, like-in, like-keeps, like-tick, no-turn, state_in}, Receiving.{ArrivesNow, Receives, arrival-received}, SameHeard.Every, SayLists.every-to, TickWindows.{IsTickIn, first_of, here-is}}

-- An event elsewhere.

-- if all that pends at a node comes from time `t` on, so does its pending tick
pub tick-after : (t : ℕ) (o : Option Timed) {a : _} (cs : List Coming) → o ≡ Some a
    → Every (λ u. t ≤ u) (option_to_list (option_map (λ (a : Timed). a.time) o) ++ map (λ (c : Coming). c.time) cs) → t ≤ a.time
tick-after t None cs e all = cc
tick-after t (Some b) {a} cs e all = let same : b ≡ a = cc in subst (λ (b : Timed). t ≤ b.time) same all.0

unmapped : (t : ℕ) (cs : List Coming) → Every (λ u. t ≤ u) (map (λ (c : Coming). c.time) cs) → Every (λ (c : Coming). t ≤ c.time) cs
unmapped t [] all = tt
unmapped t (c ∷ cs) all = (all.0, unmapped t cs all.1)

pub all-after : (t : ℕ) (o : Option Timed) (cs : List Coming)
    → Every (λ u. t ≤ u) (option_to_list (option_map (λ (a : Timed). a.time) o) ++ map (λ (c : Coming). c.time) cs) → Every (λ (c : Coming). t ≤ c.time) cs
all-after t None cs all = unmapped t cs all
all-after t (Some a) cs all = unmapped t cs all.1

pub time-passes : {sc me i last sent next now : _} (t : ℕ) {s a : _}
    → now ≤ t → Every (λ u. t ≤ u) (times_of s) → Receives sc me i last sent next now s a → Receives sc me i last sent next t s a
time-passes {sc} {me} {i} {now} t {s} le all r = record {
  hears = r.hears;
  known = r.known;
  inbox = r.inbox;
  pends = r.pends;
  at_time = r.at_time;
  is_next = r.is_next;
  in_window = r.in_window;
  behind = r.behind;
  passed = λ m e. let before : time_of (clock_of sc me i) m ≤ now = r.passed m e in omega arith;
  coming_after = all-after t s.ahead s.coming all;
  tick_after = tick-after t s.ahead s.coming r.pends all;
}

pub stands-on : {sc hands sent now : _} (t : ℕ) {me i p s st a : _}
    → now ≤ t → Every (λ u. t ≤ u) (times_of s) → NodeStands sc hands sent now me i p s st a → NodeStands sc hands sent t me i p s st a
stands-on t le all h = record {
  state = h.state;
  good = h.good;
  stands = h.stands;
  from = h.from;
  receives = time-passes t le all h.receives;
}

-- An arrival.

pub stands-arrival : {sc hands sent now me i p n c s st a : _}
    → Moves (clock_of sc me i) → ArrivesNow n c s a → NodeStands sc hands sent now me i p s st a
    → NodeStands sc hands sent c.time me i p (after_arrival sc me i n c s) st a
unfolding after_arrival
stands-arrival {sc} {hands} {me} {i} {p} {c} {s} {st} {a} moves due h =
    let m : Moment = moment sc hands p in
    let passed : Core = pass_to (stamp_of (clock_of sc me i) c.time) s.core in
    let same : ((arrive sc.sizes me passed c.from c.bytes).state ≡ passed.state) × ((arrive sc.sizes me passed c.from c.bytes).had ≡ passed.had) =
    arrive-same sc.sizes me passed c.from c.bytes in
    let from : st.epoch + first_of sc.sizes sc.plan me st m.window ≤ s.core.had = h.from in
    let more : s.core.had ≤ passed.had = omega arith in
    let had : (arrive sc.sizes me passed c.from c.bytes).had ≡ passed.had = same.1 in
    record {
      state = h.state;
      good = h.good;
      stands = subst (IsInWindow sc.sizes sc.plan me i st m.window (word_at sc m me i st) a.tick) (sym same.0) h.stands;
      from = omega (arith, from, more, had);
      receives = arrival-received moves due h.receives;
    }

-- A tick.

-- the start of a frame that a node has told last, after a tick that may begin one
abbrev pub begun_after : Scenario → List PortState → Side → ℕ → Option Epoch → Option Begun → Option Begun
begun_after sc ports me i None b = b
begun_after sc ports me i (Some e) b = Some (begun_of sc ports me i e)

pub epoch-is : (sc : Scenario) (ports : List PortState) (me : Side) (i : ℕ) (e : Option Epoch) (s : Site)
    → with_epoch sc ports me i e s ≡ record s { begun = begun_after sc ports me i e s.begun }
epoch-is sc ports me i None s = refl
epoch-is sc ports me i (Some e) s = refl

pub after-open : (sc : Scenario) (ports : List PortState) (me : Side) (i : ℕ) {k : ℕ} (x : Act) (s : Site) → x.closed ≡ None
    → span_from sc.sizes sc.plan me x.core.state x.core.had ≡ None → next_tick sc.sizes sc.plan me i x.core ≡ Some k
    → after_act sc ports me i x s ≡ record s {
      core = x.core;
      ahead = Some (record { tick = k; time = time_of (clock_of sc me i) k });
      coming = s.coming;
      begun = begun_after sc ports me i x.epoch s.begun;
    }
unfolding after_act proceed
after-open sc ports me i {k} x s closed none next =
    let s1 : Site = record s { core = x.core } in
    let s2 : Site = record s1 { begun = begun_after sc ports me i x.epoch s.begun } in
    let clock : Timeline = clock_of sc me i in
    ap (λ c. proceed sc me i (with_epoch sc ports me i x.epoch (with_close me i x.core.state c s1))) closed
    ∙ ap (proceed sc me i) (epoch-is sc ports me i x.epoch s1)
    ∙ ap (λ o. enter sc me i o s2) none
    ∙ ap (λ o. record s2 { ahead = option_map (λ k. let y : Timed = record { tick = k; time = time_of clock k } in y) o; coming = s.coming ++ [] }) next
    ∙ ap (λ cs. record s2 { ahead = Some (record { tick = k; time = time_of clock k }); coming = cs }) (append-nil s.coming)

-- after the first tick of a window no window begins until its last
no-span : {sizes plan me i st n word k c : _} → HasRoom plan
    → IsInWindow sizes plan me i st n word k c → st.epoch + first_of sizes plan me st n < k → span_from sizes plan me c k ≡ None
no-span {sizes} {plan} {me} {i} {st} {n} {word} {k} room stands after =
    let y : NodeState = state_in sizes plan me i st n word k in
    let like : Like sizes plan me i st y = like-in sizes plan me i st n word k in
    let here : window_here sizes plan me y k ≡ window_numbered sizes plan me st n =
    here-is me y room.ticks stands.window (like-tick like stands.at) ∙ like.windows n in
    let epoch : y.epoch ≡ st.epoch = like.epoch in
    let test : (y.epoch + first_of sizes plan me st n == k) ≡ false = less-differs (y.epoch + first_of sizes plan me st n) k (omega arith) in
    ap (λ z. elim ((span_of z (window_here sizes plan me z k)).first == k) as (λ _. Option Span) [ true ↦ Some (span_of z (window_here sizes plan me z k)) | false ↦ None ]) stands.now
    ∙ ap (λ w. elim ((span_of y w).first == k) as (λ _. Option Span) [ true ↦ Some (span_of y w) | false ↦ None ]) here
    ∙ ap (λ b. elim b as (λ _. Option Span) [ true ↦ Some (span_of y (window_numbered sizes plan me st n)) | false ↦ None ]) test

-- after a tick that is not the last of its window a node stays in the window
pub record StaysOpen (sc : Scenario) (hands : List HandIn) (sent : Side → ℕ → ℕ → Bool) (t : ℕ) (ports : List PortState) (me : Side) (i p : ℕ) (s : Site) (st : NodeState) (k : ℕ) (x : Act) : Type 0 where
  pub a : Timed
  pub site : after_act sc ports me i x s ≡ record s { core = x.core; ahead = Some a; coming = s.coming; begun = begun_after sc ports me i x.epoch s.begun }
  pub stands : NodeStands sc hands sent t me i p (after_act sc ports me i x s) st a
  pub silent : gone (sending_at sc.sizes sc.plan me i st (moment sc hands p).window (word_at sc (moment sc hands p) me i st)) (k + 1)
      ≡ gone (sending_at sc.sizes sc.plan me i st (moment sc hands p).window (word_at sc (moment sc hands p) me i st)) a.tick
  pub act : ActsOpen sc me i st (moment sc hands p).window (word_at sc (moment sc hands p) me i st) k (pass_to k s.core) x

pub stays-open : {sc : Scenario} {hands : List HandIn} {sent : Side → ℕ → ℕ → Bool} {now : ℕ} {ports : List PortState} {me : Side} {i p : ℕ} {s : Site} {st : NodeState} {a : Timed}
    → HasRoom sc.plan → last_tick sc (moment sc hands p) me st < 2 ^ 31
    → HasWord sc ports me i st (moment sc hands p).window (word_at sc (moment sc hands p) me i st)
    → Every (λ c. a.time < c.time) s.coming → a.tick < last_tick sc (moment sc hands p) me st → NodeStands sc hands sent now me i p s st a
    → StaysOpen sc hands sent a.time ports me i p s st a.tick (pass_and_tick sc ports me i a.tick s.core)
unfolding pass_and_tick
stays-open {sc} {hands} {sent} {now} {ports} {me} {i} {p} {s} {st} {a} room less-differs words later before h =
    let m : Moment = moment sc hands p in
    let n : ℕ = m.window in
    let word : ℕ = word_at sc m me i st in
    let c : Core = pass_to a.tick s.core in
    let r : Receives sc me i (last_tick sc m me st) _ _ now s a = h.receives in
    let le : s.core.had ≤ a.tick = r.is_next.later in
    let had : c.had ≡ a.tick = omega arith in
    let small : a.tick < 2 ^ 31 = r.is_next.below in
    let stands : IsInWindow sc.sizes sc.plan me i st n word c.had c.state = subst (λ k. IsInWindow sc.sizes sc.plan me i st n word k s.core.state) (sym had) h.stands in
    let x : Act = pass_and_tick sc ports me i a.tick s.core in
    let acts : ActsOpen sc me i st n word a.tick c x =
    subst (λ k. ActsOpen sc me i st n word k c x) had (acts-open ports c room stands (omega arith) words (omega arith)) in
    let xhad : x.core.had ≡ a.tick + 1 = acts.had in
    let first : st.epoch + first_of sc.sizes sc.plan me st n ≤ a.tick = h.stands.at.from in
    let y : NodeState = state_in sc.sizes sc.plan me i st n word (a.tick + 1) in
    let like : Like sc.sizes sc.plan me i st y = like-in sc.sizes sc.plan me i st n word (a.tick + 1) in
    let at : IsTickIn sc.sizes sc.plan me st n (a.tick + 1) = record { from = omega arith; to = omega arith } in
    let turned : state_at sc.sizes sc.plan me y (a.tick + 1) ≡ y =
    no-turn n room.ticks (like-keeps like stands.keeps) stands.window
    (like-tick like at) in
    let now_in : IsInWindow sc.sizes sc.plan me i st n word (a.tick + 1) x.core.state = record {
      window = stands.window;
      slot = stands.slot;
      keeps = stands.keeps;
      at = at;
      now = ap (λ z. state_at sc.sizes sc.plan me z (a.tick + 1)) acts.state ∙ turned;
    } in
    let in_x : IsInWindow sc.sizes sc.plan me i st n word x.core.had x.core.state =
    subst (λ k. IsInWindow sc.sizes sc.plan me i st n word k x.core.state) (sym xhad) now_in in
    let next = next-found x.core room in_x less-differs in
    let k : ℕ = next.0 in
    let lands : NextIn sc.sizes sc.plan me i st n word x.core.had k x.core.state = next-in room in_x next.1.1 in
    let none : span_from sc.sizes sc.plan me x.core.state x.core.had ≡ None =
    no-span room in_x (omega arith) in
    let is : after_act sc ports me i x s ≡ record s {
      core = x.core;
      ahead = Some (record { tick = k; time = time_of (clock_of sc me i) k });
      coming = s.coming;
      begun = begun_after sc ports me i x.epoch s.begun;
    } = after-open sc ports me i x s acts.closed none next.1.0 in
    let b : Timed = record { tick = k; time = time_of (clock_of sc me i) k } in
    let after : x.core.had ≤ k = next.1.1.later in
    let at_time : a.time ≡ time_of (clock_of sc me i) a.tick = r.at_time in
    let up : time_of (clock_of sc me i) a.tick ≤ time_of (clock_of sc me i) k = times_rise_to (clock_of sc me i) a.tick k (omega arith) in
    record {
      a = b;
      site = is;
      stands = subst (λ z. NodeStands sc hands sent a.time me i p z st b) (sym is) (record {
        state = h.state;
        good = h.good;
        stands = record { window = stands.window; slot = stands.slot; keeps = stands.keeps; at = lands.in_window; now = lands.now };
        from = omega arith;
        receives = record {
          hears = r.hears;
          known = r.known;
          inbox = acts.inbox ∙ r.inbox;
          pends = refl;
          at_time = refl;
          is_next = next.1.1;
          in_window = lands.in_window.to;
          behind = every-to (λ c. a.time < c.time) (λ c. (j : ℕ) → x.core.had ≡ suc j → time_of (clock_of sc me i) j < c.time)
              (λ c lt j e. let same : j ≡ a.tick = omega arith in subst (λ j. time_of (clock_of sc me i) j < c.time) (sym same) (omega (arith, lt, at_time))) s.coming later;
          passed = λ j e. let same : j ≡ a.tick = omega arith in subst (λ j. time_of (clock_of sc me i) j ≤ a.time) (sym same) (omega (arith, at_time));
          coming_after = every-to (λ c. a.time < c.time) (λ c. a.time ≤ c.time) (λ c lt. omega arith) s.coming later;
          tick_after = omega (arith, at_time, up);
        };
      });
      silent = ap (gone (sending_at sc.sizes sc.plan me i st n word)) (sym xhad) ∙ lands.silent;
      act = acts;
    }
