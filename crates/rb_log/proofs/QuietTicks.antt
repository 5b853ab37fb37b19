-- Ticks with word 0 in a row at the front.
use Rattle.std.proofs.{Common.{◌≡◌, ℕ, zero, suc, ◌+◌, ◌-◌, ◌<◌, ◌≤◌, Bool, true, false, eqb, List, [], ◌∷◌, ◌++◌, length, drop, refl, sym, ap, ◌∙◌, arith}, Math.ListN.replicate, lemmas.Bool.Decides.nat_tests}
use Rattle.std.specs.Prelude.{Ok, min}
use Rattle.rb_rules.specs.Core.{CoreEvent}
use Rattle.rb_log.specs.{Cursor.{IsSound, events_behind, events_left, quiet_in_front}, Entries.{HasTicks, entry_at, events_of, is_end, size_of, ticks_of, zeros_of}, declared.cursor.Cursor.Cursor, declared.entry.Entry.Entry, declared.entry.Entry.TheVariants.{Tick, Ticks, Arrival, End}}
use Rattle.rb_log.proofs.Cursors.{ends, left_is, passes}
use Rattle.rb_rules.specs.Core as event

front_counts : (n : ℕ) (events : List CoreEvent) → quiet_in_front (replicate n (event.Tick 0) ++ events) ≡ n + quiet_in_front events
front_counts zero events = omega arith
front_counts (suc n) events = let rest = front_counts n events in omega arith

drops : (n zeros : ℕ) (events : List CoreEvent) → n ≤ zeros
    → replicate (zeros - n) (event.Tick 0) ++ events ≡ drop n (replicate zeros (event.Tick 0) ++ events)
drops zero zeros events few = let e : zeros - 0 ≡ zeros = omega arith in rw e refl
drops (suc n) zero events few = absurd (omega arith)
drops (suc n) (suc zeros) events few =
    let e : suc zeros - suc n ≡ zeros - n = omega arith in rw e (drops n zeros events (omega arith))

-- after `n` ticks of the record before have passed, the events left are those without them
pub some_passed : (c : Cursor) (n : ℕ) → n ≤ c.zeros → (events_left (record c { zeros = c.zeros - n }) ≡ drop n (events_left c))
    × (quiet_in_front (events_left c) ≡ n + quiet_in_front (events_left (record c { zeros = c.zeros - n })))
unfolding events_left events_behind
some_passed c n few =
    let behind = events_behind c in (
      drops n c.zeros behind few,
      (let all = front_counts c.zeros behind in let rest = front_counts (c.zeros - n) behind in omega arith),
    )

-- What a record of ticks with word 0 is.

of_zeros : (bytes : List ℕ) (place : ℕ) (entry : Entry) → 0 < zeros_of entry
    → (is_end entry ≡ false) × (zeros_of entry ≡ ticks_of entry) × (events_of bytes place entry ≡ replicate (zeros_of entry) (event.Tick 0))
of_zeros bytes place (Tick zero) some = (refl, refl, refl)
of_zeros bytes place (Tick (suc word)) some =
    let e : eqb (suc word) 0 ≡ false = grind (arith, nat_tests) in
    let none : zeros_of (Tick (suc word)) ≡ 0 = rw e refl in
    absurd (omega arith)
of_zeros bytes place (Ticks count) some = (refl, refl, refl)
of_zeros bytes place (Arrival from size) some = absurd (omega arith)
of_zeros bytes place End some = absurd (omega arith)

-- to begin a record of quiet ticks leaves the cursor sound
pub begins : (c : Cursor) (entry : Entry) (size zeros : ℕ) → c.zeros ≡ 0 → Ok entry ≡ entry_at c.senders c.bytes.now c.place
    → size ≡ size_of entry → zeros ≡ zeros_of entry → 0 < zeros → c.place + size ≤ length c.bytes.now → IsSound c
    → IsSound (record c { place = c.place + size; ticks = c.ticks + zeros; zeros = zeros })
    × (events_left (record c { place = c.place + size; ticks = c.ticks + zeros; zeros = zeros }) ≡ events_left c)
unfolding events_left events_behind
begins c entry size zeros none is all_bytes all_zeros some inside s =
    let kind = of_zeros c.bytes.now c.place entry (rw (← all_zeros) some) in
    let passed = passes c size zeros entry is kind.0 all_bytes (all_zeros ∙ kind.1) inside s in
    let sound = passed.0 in
    let told : events_of c.bytes.now c.place entry ≡ replicate zeros (event.Tick 0) =
    kind.2 ∙ ap (λ (n : ℕ). replicate n (event.Tick 0)) (sym all_zeros) in (
      record { senders = sound.senders; inside = sound.inside; few = sound.few; sound = sound.sound },
      rw (← told) (sym (left_is c none ∙ passed.1)),
    )

-- any other record has no quiet tick at its front
other_front : (bytes : List ℕ) (place : ℕ) (entry : Entry) (events : List CoreEvent) → is_end entry ≡ false → HasTicks entry → zeros_of entry ≡ 0
    → quiet_in_front (events_of bytes place entry ++ events) ≡ 0
other_front bytes place (Tick zero) events end some none = absurd (omega arith)
other_front bytes place (Tick (suc word)) events end some none = let e : eqb (suc word) 0 ≡ false = grind (arith, nat_tests) in rw e refl
other_front bytes place (Ticks count) events end some none = absurd (omega arith)
other_front bytes place (Arrival from size) events end some none = refl
other_front bytes place End events end some none = absurd (cc)

pub no_front : (c : Cursor) (entry : Entry) → c.zeros ≡ 0 → Ok entry ≡ entry_at c.senders c.bytes.now c.place → zeros_of entry ≡ 0
    → HasTicks entry → c.place + size_of entry ≤ length c.bytes.now → IsSound c → quiet_in_front (events_left c) ≡ 0
no_front c entry none is zeros some inside s = go (is_end entry) refl where
  go : (end : Bool) → is_end entry ≡ end → quiet_in_front (events_left c) ≡ 0
  go true end = rw (left_is c none ∙ ends c entry is end s) refl
  go false end =
      rw (left_is c none ∙ (passes c (size_of entry) (ticks_of entry) entry is end refl refl inside s).1)
      (other_front c.bytes.now c.place entry _ end some zeros)

-- the events are the first `n` quiet ticks, and then what is behind them
pub split_front : (n : ℕ) (events : List CoreEvent) → n ≤ quiet_in_front events → events ≡ replicate n (event.Tick 0) ++ drop n events
split_front zero events few = refl
split_front (suc n) [] few = absurd (omega arith)
split_front (suc n) (event.Tick zero ∷ events) few =
    ap (λ (l : List CoreEvent). event.Tick 0 ∷ l) (split_front n events (omega arith))
split_front (suc n) (event.Tick (suc word) ∷ events) few =
    let e : eqb (suc word) 0 ≡ false = grind (arith, nat_tests) in
    let none : quiet_in_front (event.Tick (suc word) ∷ events) ≡ 0 = rw e refl in
    absurd (omega arith)
split_front (suc n) (event.Arrive from bytes ∷ events) few = absurd (omega arith)

pub split_passed : (most n : ℕ) (first left : List CoreEvent) → n ≡ min most (quiet_in_front first) → left ≡ drop n first
    → first ≡ replicate n (event.Tick 0) ++ left
split_passed most n first left is rest = rw rest (split_front n first (omega arith))
