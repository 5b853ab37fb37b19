-- What is left of a log that has no fault.
use Rattle.std.proofs.{Common.{◌≡◌, ℕ, zero, suc, ◌+◌, ◌-◌, ◌<◌, ◌≤◌, true, false, List, [], ◌∷◌, ◌++◌, length, drop, Some, None, refl, sym, ap, ◌∙◌, arith, inl, inr}, Math.ListN.replicate, lemmas.Bool.cases_lt}
use Rattle.std.specs.Prelude.{Result, Ok, Err, slice_get}
use Rattle.rb_rules.specs.Core.{CoreEvent}
use Rattle.rb_log.specs.{Cursor.{IsSound, events_behind, events_in, events_left}, Entries.{before, entry_at, events_at, events_of, fault_of, is_end, size_of, ticks_of}, declared.cursor.Cursor.Cursor, declared.entry.Entry.Entry, declared.entry.Entry.TheVariants.{Tick, Ticks, Arrival, End}, declared.refusal.LogRefusal.LogRefusal}
use Rattle.rb_log.proofs.Reading.{goes_on, steps_end, steps_fault, steps_on, steps_over, steps_trailing}
use Rattle.rb_rules.specs.Core as event

pub not_refused : (senders : ℕ) (bytes : List ℕ) (place ticks : ℕ) (fault : LogRefusal) → Err fault ≡ entry_at senders bytes place
    → fault_of (events_at senders bytes place ticks) ≡ None → ⊥
not_refused senders bytes place ticks fault is sound = let met = steps_fault senders bytes place ticks fault is in cc

pub few_ticks : (senders : ℕ) (bytes : List ℕ) (place ticks more : ℕ) (entry : Entry) → Ok entry ≡ entry_at senders bytes place
    → is_end entry ≡ false → more ≡ ticks_of entry → fault_of (events_at senders bytes place ticks) ≡ None → ticks + more ≤ 2147483648
few_ticks senders bytes place ticks more entry is end all sound =
    elim (cases_lt 2147483648 (ticks + more)) [
      | inl many ↦ let met = steps_over senders bytes place ticks more entry is end all many in absurd (cc)
      | inr few ↦ few
    ]

after_events : (events : List CoreEvent) (others : Result (List CoreEvent) LogRefusal) → fault_of others ≡ None
    → events_in (before events others) ≡ events ++ events_in others
after_events events (Ok more) none = refl
after_events events (Err fault) none = absurd (cc)

-- a record that is not the end is passed
pub passes : (c : Cursor) (size more : ℕ) (entry : Entry) → Ok entry ≡ entry_at c.senders c.bytes.now c.place → is_end entry ≡ false
    → size ≡ size_of entry → more ≡ ticks_of entry → c.place + size ≤ length c.bytes.now → IsSound c
    → IsSound (record c { place = c.place + size; ticks = c.ticks + more })
    × (events_behind c ≡ events_of c.bytes.now c.place entry ++ events_behind (record c { place = c.place + size; ticks = c.ticks + more }))
unfolding events_behind
passes c size more entry is end all_bytes all_ticks inside s =
    let few : c.ticks + more ≤ 2147483648 = few_ticks c.senders c.bytes.now c.place c.ticks more entry is end all_ticks s.sound in
    let on = goes_on c.senders c.bytes.now c.place c.ticks size more entry is end all_bytes all_ticks inside few in
    let sound : fault_of (events_at c.senders c.bytes.now (c.place + size) (c.ticks + more)) ≡ None = sym on.same ∙ s.sound in
    let events : events_in (events_at c.senders c.bytes.now c.place c.ticks)
    ≡ events_of c.bytes.now c.place entry ++ events_in (events_at c.senders c.bytes.now (c.place + size) (c.ticks + more)) =
    ap events_in (steps_on c.senders c.bytes.now c.place c.ticks entry is end (rw (← all_ticks) few))
    ∙ rw (← all_bytes, ← all_ticks) (after_events (events_of c.bytes.now c.place entry) _ sound) in
    (record { senders = s.senders; inside = inside; few = few; sound = sound }, events)

-- nothing is left behind the end
pub ends : (c : Cursor) (entry : Entry) → Ok entry ≡ entry_at c.senders c.bytes.now c.place → is_end entry ≡ true → IsSound c
    → events_behind c ≡ []
unfolding events_behind
ends c entry is end s =
    elim (cases_lt (c.place + size_of entry) (length c.bytes.now)) [
      | inl more ↦
          let met = steps_trailing c.senders c.bytes.now c.place c.ticks (size_of entry) entry is end refl more in
          let sound = s.sound in
          absurd (cc)
      | inr last ↦ ap events_in (steps_end c.senders c.bytes.now c.place c.ticks (size_of entry) entry is end refl last)
    ]

no_events : (bytes : List ℕ) (place : ℕ) (entry : Entry) → is_end entry ≡ true → events_of bytes place entry ≡ []
no_events bytes place End end = refl
no_events bytes place (Tick word) end = absurd (cc)
no_events bytes place (Ticks count) end = absurd (cc)
no_events bytes place (Arrival from size) end = absurd (cc)

pub stays : (c : Cursor) (entry : Entry) → is_end entry ≡ true → events_behind c ≡ events_of c.bytes.now c.place entry ++ events_behind c
stays c entry end = rw (no_events c.bytes.now c.place entry end) refl

-- What the first event is, and what is then left.

front : (n : ℕ) (events : List CoreEvent) → 0 < n → slice_get (replicate n (event.Tick 0) ++ events) 0 ≡ Some (event.Tick 0)
front zero events some = absurd (omega arith)
front (suc n) events some = refl

behind_front : (n : ℕ) (events : List CoreEvent) → 0 < n
    → replicate (n - 1) (event.Tick 0) ++ events ≡ drop 1 (replicate n (event.Tick 0) ++ events)
behind_front zero events some = absurd (omega arith)
behind_front (suc n) events some = let e : suc n - 1 ≡ n = omega arith in rw e refl

pub gives_zero : (c : Cursor) → 0 < c.zeros → Some (event.Tick 0) ≡ slice_get (events_left c) 0
unfolding events_left
gives_zero c some = sym (front c.zeros (events_behind c) some)

pub leaves_zeros : (c : Cursor) → 0 < c.zeros → events_left (record c { zeros = c.zeros - 1 }) ≡ drop 1 (events_left c)
unfolding events_left events_behind
leaves_zeros c some = behind_front c.zeros (events_behind c) some

-- if no tick of the record before is left, the events left are those behind the cursor
pub left_is : (c : Cursor) → c.zeros ≡ 0 → events_left c ≡ events_behind c
unfolding events_left events_behind
left_is c none = rw none refl

pub first_is : (c d : Cursor) (e : CoreEvent) → c.zeros ≡ 0 → d.zeros ≡ c.zeros → events_behind c ≡ e ∷ events_behind d
    → (Some e ≡ slice_get (events_left c) 0) × (events_left d ≡ drop 1 (events_left c))
first_is c d e none same is =
    let all : events_left c ≡ e ∷ events_behind d = left_is c none ∙ is in
    (sym (ap (λ (es : List CoreEvent). slice_get es 0) all), left_is d (same ∙ none) ∙ sym (ap (λ (es : List CoreEvent). drop 1 es) all))

pub first_of_ticks : (c d : Cursor) (count : ℕ) → c.zeros ≡ 0 → 1 ≤ count → events_behind c ≡ replicate count (event.Tick 0) ++ events_behind d
    → (Some (event.Tick 0) ≡ slice_get (events_left c) 0) × (events_left (record d { zeros = count - 1 }) ≡ drop 1 (events_left c))
unfolding events_left events_behind
first_of_ticks c d count none some is =
    let all : events_left c ≡ replicate count (event.Tick 0) ++ events_behind d = left_is c none ∙ is in (
      sym (ap (λ (es : List CoreEvent). slice_get es 0) all ∙ front count (events_behind d) (omega arith)),
      behind_front count (events_behind d) (omega arith) ∙ ap (λ (es : List CoreEvent). drop 1 es) (sym all),
    )

pub none_is_left : (c d : Cursor) → c.zeros ≡ 0 → d.zeros ≡ c.zeros → events_behind c ≡ [] → events_behind c ≡ events_behind d
    → (None ≡ slice_get (events_left c) 0) × (events_left d ≡ drop 1 (events_left c))
none_is_left c d none same empty is =
    let all : events_left c ≡ [] = left_is c none ∙ empty in (
      sym (ap (λ (es : List CoreEvent). slice_get es 0) all),
      left_is d (same ∙ none) ∙ sym is ∙ empty ∙ sym (ap (λ (es : List CoreEvent). drop 1 es) all),
    )
