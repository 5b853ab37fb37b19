-- For the law that pending events are few if the run breaks off in a sync slot: a due tick keeps a
-- node within the messages that it may send, and the windows that it may enter, until all have told
-- their rows. It is so for any course of a node that has told its row.
use Rattle.std.proofs.Common.{◌≡◌, ℕ, zero, suc, ◌+◌, ◌-◌, ◌*◌, ◌^◌, ◌<◌, ◌≤◌, ◌⊎◌, Bool, true, List, ap, arith, inl, inr, Some, None, length}
use Rattle.rb_base.specs.Nodes.{Side}
use Rattle.rb_base.proofs.Plain.{none_and_some}
use Rattle.rb_rules.specs.{Core.Act, Entries.IsListed, Goodness.{Scenario, clock_of}, Hearing.Coming, Lawful.IsLawful, Ports.{HandIn, PortState}, Rounds.moment, WorldStep.{Site, Timed, after_act, after_arrival, pass_and_tick}}
use Rattle.rb_rules.proofs.Stamps.{Moves}
use Rattle.rb_laws_events.proofs.{BreakEnters.TickBreaks, BreakKeeps.{TellsOn, site-ticks}, BreakNodes.BreaksAt, BreakSites.{Course, HasTold, SiteBreaks}, FewEntered.{BringsFew, act-brings}, FewOff.{StepsOn, messages_in}, FewQuiet.{deaf-quiet, hearing-quiet}, Invariant.is_good_at, NodeActs.HasRoom}

-- what a node that has told its row may do yet: r messages, e windows
abbrev pub Few : Type 1
Few = List HandIn → ℕ → Side → ℕ → ℕ → ℕ → Site → Type 0

-- what a node may do yet; one that has not told its row, n messages and n windows
abbrev pub May : ℕ → Few → List HandIn → ℕ → Side → ℕ → ℕ → ℕ → Site → Type 0
May n F hands p me i r e s = ((n ≤ r) × (n ≤ e)) ⊎ F hands p me i r e s

-- after its row a node that goes on by the course `C` keeps within `F`
pub record FewOn (sc : Scenario) (q n : ℕ) (C : Course) (F : Few) : Type 0 where
  pub some : 1 ≤ n
  pub most : n ≤ 2
  pub starts : (hands : List HandIn) (b : ℕ) (me : Side) (i r e : ℕ) (s : Site) → HasTold sc hands C me i b s → n ≤ r → n ≤ e + 1 → F hands b me i r e s
  pub ticks : (hands : List HandIn) (b : ℕ) → BreaksAt sc hands b q → (sent : Side → ℕ → ℕ → Bool) (ports : List PortState) (me : Side) (i : ℕ) (s : Site) (a : Timed) (r e : ℕ) → TickBreaks sc hands sent ports b me i s a
      → a.tick < 2 ^ 31 → F hands b me i r e s
      → StepsOn sc (F hands b me i) (pass_and_tick sc ports me i a.tick s.core).message s (after_act sc ports me i (pass_and_tick sc ports me i a.tick s.core) s) r e
  pub more : (hands : List HandIn) (b : ℕ) (me : Side) (i r e : ℕ) (s : Site) (more : List Coming) → F hands b me i r e s → F hands b me i r e (record s { coming = more })
  pub arrives : (hands : List HandIn) (b : ℕ) (me : Side) (i r e n : ℕ) (c : Coming) (s : Site) → (is_good_at sc (moment sc hands b) me i ≡ true → Moves (clock_of sc me i))
      → ((a : Timed) → s.ahead ≡ Some a → c.time ≤ a.time) → F hands b me i r e s → F hands b me i r e (after_arrival sc me i n c s)

pub one-less : (e l : ℕ) → 1 ≤ e → (e - 1) * l + l ≤ e * l
one-less zero l le = absurd (omega (arith, le))
one-less (suc e) l le =
    let is : suc e - 1 ≡ e = omega arith in
    let same : (suc e - 1) * l ≡ e * l = ap (λ k. k * l) is in
    omega (arith, same)

-- the tick with which a node tells its row goes on within `May`
tells-few : {sc q n : _} (C : Course) (F : Few) → FewOn sc q n C F → IsListed sc → {hands : _} (ports : List PortState) {p me i : _} (k : ℕ) (s : Site) (r e : ℕ)
    → HasTold sc hands C me i p (after_act sc ports me i (pass_and_tick sc ports me i k s.core) s) → (pass_and_tick sc ports me i k s.core).message ≡ None → n ≤ r → n ≤ e
    → StepsOn sc (May n F hands p me i) (pass_and_tick sc ports me i k s.core).message s (after_act sc ports me i (pass_and_tick sc ports me i k s.core) s) r e
tells-few {sc} C F few listed {hands} ports {p} {me} {i} k s r e told quiet sends enters =
    let x : Act = pass_and_tick sc ports me i k s.core in
    let brings : BringsFew sc me x s (after_act sc ports me i x s) = act-brings listed ports me i x s in
    let most = brings.most in
    let one : 1 ≤ e = (let some = few.some in omega (arith, some, enters)) in
    let less = one-less e (length sc.says) one in
    let none : messages_in x.message ≡ 0 = ap messages_in quiet in
    record { sends = r; enters = e - 1; may = inr (few.starts hands p me i r (e - 1) _ told sends (omega (arith, enters))); sent = omega (arith, none); room = omega (arith, most, less) }

told-few : {sc q n : _} (C : Course) (F : Few) → FewOn sc q n C F → {hands p : _} → BreaksAt sc hands p q → {sent ports : _}
    → {me i s a : _} (r e : ℕ) → TickBreaks sc hands sent ports p me i s a → a.tick < 2 ^ 31 → F hands p me i r e s
    → StepsOn sc (May n F hands p me i) (pass_and_tick sc ports me i a.tick s.core).message s (after_act sc ports me i (pass_and_tick sc ports me i a.tick s.core) s) r e
told-few C F few {hands} {p} off {sent} {ports} {me} {i} {s} {a} r e t small h =
    let step = few.ticks hands p off sent ports me i s a r e t small h in
    record { sends = step.sends; enters = step.enters; may = inr step.may; sent = step.sent; room = step.room }

-- a due tick goes on within `May`
pub breaks-few : {sc q n : _} (C : Course) (F : Few) → TellsOn sc q C → FewOn sc q n C F → IsListed sc → IsLawful sc → HasRoom sc.plan → {hands p : _} → BreaksAt sc hands p q
    → {sent ports me i s a r e : _} → TickBreaks sc hands sent ports p me i s a → a.tick < 2 ^ 31
    → SiteBreaks sc hands C sent p me i s → May n F hands p me i r e s
    → StepsOn sc (May n F hands p me i) (pass_and_tick sc ports me i a.tick s.core).message s (after_act sc ports me i (pass_and_tick sc ports me i a.tick s.core) s) r e
breaks-few C F its few listed lawful room off {r} {e} t small h (inr told) = told-few C F few off r e t small told
breaks-few C F its few listed lawful room off {s} {a} t small (inl stopped) (inl more) = none_and_some a s.ahead stopped.ahead t.pend
breaks-few {q} C F its few listed lawful room off {ports} {s} {a} {r} {e} t small (inr (inl h)) (inl more) =
    tells-few C F few listed ports a.tick s r e (site-ticks C its off t (inr (inl h)))
    (hearing-quiet lawful room q off.running off.small off.window t h) more.0 more.1
breaks-few {q} C F its few listed lawful room off {ports} {s} {a} {r} {e} t small (inr (inr (inl h))) (inl more) =
    tells-few C F few listed ports a.tick s r e (site-ticks C its off t (inr (inr (inl h))))
    (deaf-quiet lawful room q off.running off.small off.window t h) more.0 more.1
breaks-few C F its few listed lawful room {hands} {p} off {me} {i} {s} {r} {e} t small (inr (inr (inr h))) (inl more) =
    told-few C F few off r e t small (few.starts hands p me i r e s h more.0 (let enters = more.1 in omega (arith, enters)))
