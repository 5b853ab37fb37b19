-- How the records of a log are read, one after the other.
use Rattle.std.proofs.{Common.{◌≡◌, ℕ, zero, suc, ◌+◌, ◌<◌, ◌≤◌, true, false, nat_lt, nat_le, List, [], length, Some, None, refl, ap, ◌∙◌, arith}, lemmas.Bool.Decides.nat_tests}
use Rattle.std.specs.Prelude.{Result, Ok, Err}
use Rattle.rb_rules.specs.Core.{CoreEvent}
use Rattle.rb_log.specs.{Fields.{◌>>=◌, field}, Entries.{GoesOn, after, before, entry_at, events_at, events_from, events_of, fault_of, is_end, size_of, ticks_of}, declared.entry.Entry.Entry, declared.entry.Entry.TheVariants.{Tick, Ticks, Arrival, End}, declared.refusal.LogRefusal.LogRefusal, declared.refusal.LogRefusal.TheVariants.{AfterEnd, BadField, Truncated}}

-- no record begins past the last byte
past : (senders : ℕ) (bytes : List ℕ) (place : ℕ) → length bytes ≤ place → entry_at senders bytes place ≡ Err (Truncated (length bytes))
unfolding entry_at field
past senders bytes place out =
    let e : nat_le (place + 1) (length bytes) ≡ false = grind (arith, nat_tests) in
    rw e refl

pub some_bytes : (entry : Entry) → 1 ≤ size_of entry
some_bytes (Tick word) = omega arith
some_bytes (Ticks count) = omega arith
some_bytes (Arrival from size) = omega arith
some_bytes End = omega arith

same_then : {B : Type 0} (r : Result Entry LogRefusal) (f g : Entry → Result B LogRefusal) → ((entry : Entry) → f entry ≡ g entry) → (r >>= f) ≡ (r >>= g)
same_then (Ok entry) f g same = same entry
same_then (Err fault) f g same = refl

-- more records than there are bytes left change nothing
enough : (most senders : ℕ) (bytes : List ℕ) (place ticks : ℕ) → length bytes ≤ place + most
    → events_from most senders bytes place ticks ≡ events_from (suc most) senders bytes place ticks
unfolding events_from
enough zero senders bytes place ticks all = rw (past senders bytes place (omega arith)) refl
enough (suc most) senders bytes place ticks all =
    same_then (entry_at senders bytes place) _ _ (λ entry. ap (after bytes place ticks entry)
    (let some = some_bytes entry in enough most senders bytes (place + size_of entry) (ticks + ticks_of entry) (omega arith)))

unrolls_from : (most senders : ℕ) (bytes : List ℕ) (place ticks : ℕ) → length bytes ≡ most
    → events_from most senders bytes place ticks
    ≡ (entry_at senders bytes place
    >>= (λ (entry : Entry). after bytes place ticks entry (events_from most senders bytes (place + size_of entry) (ticks + ticks_of entry))))
unfolding events_from
unrolls_from zero senders bytes place ticks is = rw (past senders bytes place (omega arith)) refl
unrolls_from (suc most) senders bytes place ticks is =
    same_then (entry_at senders bytes place) _ _ (λ entry. ap (after bytes place ticks entry)
    (let some = some_bytes entry in enough most senders bytes (place + size_of entry) (ticks + ticks_of entry) (omega arith)))

-- the events from a place on are those of the record there, and then those of the records behind it
pub unrolls : (senders : ℕ) (bytes : List ℕ) (place ticks : ℕ) → events_at senders bytes place ticks
    ≡ (entry_at senders bytes place
    >>= (λ (entry : Entry). after bytes place ticks entry (events_at senders bytes (place + size_of entry) (ticks + ticks_of entry))))
unfolding events_at
unrolls senders bytes place ticks = unrolls_from (length bytes) senders bytes place ticks refl

-- What the record at a place, as it was read, says of what is left.

pub refused : (senders : ℕ) (bytes : List ℕ) (place ticks : ℕ) (fault : LogRefusal) → Err fault ≡ entry_at senders bytes place
    → events_at senders bytes place ticks ≡ Err fault
refused senders bytes place ticks fault is = unrolls senders bytes place ticks ∙ rw (← is) refl

pub read_as : (senders : ℕ) (bytes : List ℕ) (place ticks : ℕ) (entry : Entry) → Ok entry ≡ entry_at senders bytes place
    → events_at senders bytes place ticks
    ≡ after bytes place ticks entry (events_at senders bytes (place + size_of entry) (ticks + ticks_of entry))
read_as senders bytes place ticks entry is = unrolls senders bytes place ticks ∙ rw (← is) refl

pub fault_before : (events : List CoreEvent) (others : Result (List CoreEvent) LogRefusal) → fault_of (before events others) ≡ fault_of others
fault_before events (Ok more) = refl
fault_before events (Err fault) = refl

pub steps_fault : (senders : ℕ) (bytes : List ℕ) (place ticks : ℕ) (fault : LogRefusal) → Err fault ≡ entry_at senders bytes place
    → fault_of (events_at senders bytes place ticks) ≡ Some fault
steps_fault senders bytes place ticks fault is = ap fault_of (refused senders bytes place ticks fault is)

pub steps_trailing : (senders : ℕ) (bytes : List ℕ) (place ticks size : ℕ) (entry : Entry) → Ok entry ≡ entry_at senders bytes place
    → is_end entry ≡ true → size ≡ size_of entry → place + size < length bytes
    → fault_of (events_at senders bytes place ticks) ≡ Some (AfterEnd (place + size))
steps_trailing senders bytes place ticks size End is end all more =
    let e : nat_lt (place + 1) (length bytes) ≡ true = grind (arith, nat_tests) in
    ap fault_of (read_as senders bytes place ticks End is) ∙ rw (e, all) refl
steps_trailing senders bytes place ticks size (Tick word) is end all more = absurd (cc)
steps_trailing senders bytes place ticks size (Ticks count) is end all more = absurd (cc)
steps_trailing senders bytes place ticks size (Arrival from n) is end all more = absurd (cc)

pub steps_end : (senders : ℕ) (bytes : List ℕ) (place ticks size : ℕ) (entry : Entry) → Ok entry ≡ entry_at senders bytes place
    → is_end entry ≡ true → size ≡ size_of entry → length bytes ≤ place + size → events_at senders bytes place ticks ≡ Ok []
steps_end senders bytes place ticks size End is end all last =
    let e : nat_lt (place + 1) (length bytes) ≡ false = grind (arith, nat_tests) in
    read_as senders bytes place ticks End is ∙ rw e refl
steps_end senders bytes place ticks size (Tick word) is end all last = absurd (cc)
steps_end senders bytes place ticks size (Ticks count) is end all last = absurd (cc)
steps_end senders bytes place ticks size (Arrival from n) is end all last = absurd (cc)

pub steps_done : (senders : ℕ) (bytes : List ℕ) (place ticks size : ℕ) (entry : Entry) → Ok entry ≡ entry_at senders bytes place
    → is_end entry ≡ true → size ≡ size_of entry → length bytes ≤ place + size → fault_of (events_at senders bytes place ticks) ≡ None
steps_done senders bytes place ticks size entry is end all last = ap fault_of (steps_end senders bytes place ticks size entry is end all last)

pub steps_over : (senders : ℕ) (bytes : List ℕ) (place ticks more : ℕ) (entry : Entry) → Ok entry ≡ entry_at senders bytes place
    → is_end entry ≡ false → more ≡ ticks_of entry → 2147483648 < ticks + more
    → fault_of (events_at senders bytes place ticks) ≡ Some (BadField place)
steps_over senders bytes place ticks more entry is end all many =
    let e : nat_le (ticks + ticks_of entry) 2147483648 ≡ false = grind (arith, nat_tests) in
    ap fault_of (read_as senders bytes place ticks entry is) ∙ rw (end, e) refl

pub steps_on : (senders : ℕ) (bytes : List ℕ) (place ticks : ℕ) (entry : Entry) → Ok entry ≡ entry_at senders bytes place
    → is_end entry ≡ false → ticks + ticks_of entry ≤ 2147483648
    → events_at senders bytes place ticks
    ≡ before (events_of bytes place entry) (events_at senders bytes (place + size_of entry) (ticks + ticks_of entry))
steps_on senders bytes place ticks entry is end few =
    let e : nat_le (ticks + ticks_of entry) 2147483648 ≡ true = grind (arith, nat_tests) in
    read_as senders bytes place ticks entry is ∙ rw (end, e) refl

pub goes_on : (senders : ℕ) (bytes : List ℕ) (place ticks size more : ℕ) (entry : Entry) → Ok entry ≡ entry_at senders bytes place
    → is_end entry ≡ false → size ≡ size_of entry → more ≡ ticks_of entry → place + size ≤ length bytes → ticks + more ≤ 2147483648
    → GoesOn senders bytes place ticks (record { place = place + size; ticks = ticks + more })
goes_on senders bytes place ticks size more entry is end all_bytes all_ticks inside few = record {
  same =
      ap fault_of (steps_on senders bytes place ticks entry is end (omega arith)) ∙ fault_before (events_of bytes place entry) _
      ∙ rw (all_bytes, all_ticks) refl;
  further = let some = some_bytes entry in omega arith;
  inside = inside;
  few = few;
}

pub ruleset steps = (steps_fault, steps_trailing, steps_done, steps_over, goes_on)
