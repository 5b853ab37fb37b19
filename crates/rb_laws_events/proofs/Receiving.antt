-- For the law that events are rounds: a node in an open window: what was sent to it so far has come
-- or is pending, and its next busy tick is pending. An arrival keeps it so.
use Rattle.std.proofs.{Common.{◌≡◌, ℕ, zero, suc, ◌^◌, ◌<◌, ◌≤◌, List, [], ◌∷◌, map, remove, refl, sym, ◌∙◌, subst, arith, inl, inr, Some}, lemmas.Bool.cases_lt}
use Rattle.rb_base.specs.Nodes.{Side, other}
use Rattle.rb_rules.specs.{Clock.{Timeline, time_of, stamp_of, IsStamp}, Core.{Core, arrive, pass_to}, Goodness.{Scenario, clock_of}, Hearing.Coming, Slots.count_of, WorldStep.{Timed, Site, after_arrival}}
use Rattle.rb_rules.proofs.{Drift.times_rise_to, QuietTicks.{IsNext, arrive-same, passed-next}, Stamps.{Moves, stamp_of-is, stamp_le}}
use Rattle.rb_laws_events.proofs.{PendingLists.{Hears, StandsAt, arrival-keeps, inbox-keeps}, SameHeard.{Every, kept_as}, SayLists.every-to}

-- node i of kind me in an open window, of which this is the last tick. `sent` gives what was sent
-- to it of each source for the window so far, `next` what was sent for the one after it; `now` is
-- the time of the last event, `a` the node's next busy tick
pub record Receives (sc : Scenario) (me : Side) (i last : ℕ) (sent next : ℕ → List Coming) (now : ℕ) (s : Site) (a : Timed) : Type 0 where
  pub hears : (j : ℕ) → Hears j (time_of (clock_of sc me i) last) s.got s.coming (sent j) (next j)
  pub known : Every (λ c. c.from < count_of (other me) sc.sizes) s.coming
  pub inbox : s.core.inbox ≡ map (kept_as (clock_of sc me i)) s.got
  pub pends : s.ahead ≡ Some a
  pub at_time : a.time ≡ time_of (clock_of sc me i) a.tick
  pub is_next : IsNext sc.sizes sc.plan me i s.core.state s.core.had a.tick
  pub in_window : a.tick ≤ last
  pub behind : Every (λ c. (m : ℕ) → s.core.had ≡ suc m → time_of (clock_of sc me i) m < c.time) s.coming
  pub passed : (m : ℕ) → s.core.had ≡ suc m → time_of (clock_of sc me i) m ≤ now
  pub coming_after : Every (λ c. now ≤ c.time) s.coming
  pub tick_after : now ≤ a.time

-- an arrival that is due at the node
pub record ArrivesNow (n : ℕ) (c : Coming) (s : Site) (a : Timed) : Type 0 where
  pub at : StandsAt n c s.coming
  pub least : Every (λ x. c.time ≤ x.time) s.coming
  pub before_tick : c.time ≤ a.time

pub every-without : (P : Coming → Type 0) (n : ℕ) (xs : List Coming) → Every P xs → Every P (remove xs n)
every-without P n [] e = none n
  where
    none : (n : ℕ) → Every P (remove [] n)
    none zero = tt
    none (suc n) = tt
every-without P zero (x ∷ xs) e = e.1
every-without P (suc n) (x ∷ xs) e = (e.0, every-without P n xs e.1)

pub every-stands : (P : Coming → Type 0) (n : ℕ) {c : _} (xs : List Coming) → StandsAt n c xs → Every P xs → P c
every-stands P n [] s e = absurd s
every-stands P zero (x ∷ xs) s e = subst P s e.0
every-stands P (suc n) (x ∷ xs) s e = every-stands P n xs s e.1

pub passed-had : (k : ℕ) (c : Core) → c.had ≤ k → (pass_to k c).had ≡ k
passed-had k c h = omega arith

-- the stamp of a due arrival is at least the number of ticks had, and at most the next busy tick
pub stamp-between : (clock : Timeline) → Moves clock → (had tick t : ℕ) → t ≤ time_of clock tick → ((m : ℕ) → had ≡ suc m → time_of clock m < t)
    → (had ≤ stamp_of clock t) × (stamp_of clock t ≤ tick)
stamp-between clock moves had tick t reached behind =
    let is : IsStamp clock t (stamp_of clock t) = stamp_of-is clock moves t in
    (low had behind is, stamp_le clock t (stamp_of clock t) tick is reached)
  where
    low : (had : ℕ) → ((m : ℕ) → had ≡ suc m → time_of clock m < t) → IsStamp clock t (stamp_of clock t) → had ≤ stamp_of clock t
    low zero b is = omega arith
    low (suc m) b is = elim (cases_lt (stamp_of clock t) (suc m)) [
      | inl lt ↦
          let up : time_of clock (stamp_of clock t) ≤ time_of clock m = times_rise_to clock (stamp_of clock t) m (omega arith) in
          absurd (omega (arith, b m refl, is.reached))
      | inr ge ↦ ge
    ]

-- an arrival keeps `Receives`
pub arrival-received : {sc me i last sent next now n c s a : _}
    → Moves (clock_of sc me i) → ArrivesNow n c s a → Receives sc me i last sent next now s a
    → Receives sc me i last sent next c.time (after_arrival sc me i n c s) a
unfolding after_arrival
arrival-received {sc} {me} {i} {last} {n} {c} {s} {a} moves due r =
    let clock : Timeline = clock_of sc me i in
    let k : ℕ = stamp_of clock c.time in
    let at_time : a.time ≡ time_of clock a.tick = r.at_time in
    let before : c.time ≤ a.time = due.before_tick in
    let between : (s.core.had ≤ k) × (k ≤ a.tick) =
    stamp-between clock moves s.core.had a.tick c.time (omega arith)
    (every-stands (λ c. (m : ℕ) → s.core.had ≡ suc m → time_of clock m < c.time) n s.coming due.at r.behind) in
    let passed : Core = pass_to k s.core in
    let had : passed.had ≡ k = passed-had k s.core between.0 in
    let core : Core = arrive sc.sizes me passed c.from c.bytes in
    let e : (core.state ≡ passed.state) × (core.had ≡ passed.had) = arrive-same sc.sizes me passed c.from c.bytes in
    let below : a.tick < 2 ^ 31 = r.is_next.below in
    let high : k ≤ a.tick = between.1 in
    let in_window : a.tick ≤ last = r.in_window in
    let up : time_of clock a.tick ≤ time_of clock last = times_rise_to clock a.tick last in_window in
    let is : IsStamp clock c.time k = stamp_of-is clock moves c.time in
    let next_is : IsNext sc.sizes sc.plan me i s.core.state k a.tick =
    passed-next sc.sizes sc.plan me i s.core.state s.core.had a.tick k r.is_next between.0 high in
    record {
      hears = λ j. arrival-keeps n c due.at (omega arith) (r.hears j);
      known = every-without (λ c. c.from < count_of (other me) sc.sizes) n s.coming r.known;
      inbox = inbox-keeps sc.sizes me clock passed s.got c r.inbox had (omega arith)
          (every-stands (λ c. c.from < count_of (other me) sc.sizes) n s.coming due.at r.known);
      pends = r.pends;
      at_time = r.at_time;
      is_next = subst (λ st. IsNext sc.sizes sc.plan me i st core.had a.tick) (sym e.0)
          (subst (λ m. IsNext sc.sizes sc.plan me i s.core.state m a.tick) (sym (e.1 ∙ had)) next_is);
      in_window = r.in_window;
      behind = every-to (λ x. c.time ≤ x.time) (λ x. (m : ℕ) → core.had ≡ suc m → time_of clock m < x.time)
          (λ x le m q. let hk : k ≡ suc m = sym (e.1 ∙ had) ∙ q in let lt : time_of clock m < c.time = is.least m (omega arith) in omega arith)
          (remove s.coming n) (every-without (λ x. c.time ≤ x.time) n s.coming due.least);
      passed = λ m q. let hk : k ≡ suc m = sym (e.1 ∙ had) ∙ q in let lt : time_of clock m < c.time = is.least m (omega arith) in omega arith;
      coming_after = every-without (λ x. c.time ≤ x.time) n s.coming due.least;
      tick_after = before;
    }
