-- What the header and the records say together.
use Rattle.std.proofs.Common.{◌≡◌, ℕ, List, Some, None, refl}
use Rattle.std.specs.Prelude.{Result, Ok, Err}
use Rattle.rb_base.specs.declared.node.NodeName.{NodeName}
use Rattle.rb_rules.specs.Core.{CoreEvent}
use Rattle.rb_plan.specs.Timetable.{Timetable}
use Rattle.rb_log.specs.{Cursor.events_in, Entries.{events_at, fault_of}, Header.header_in, LogText.{log_in, senders_of}, declared.refusal.LogRefusal.LogRefusal}

pub no_header : (bytes : List ℕ) (fault : LogRefusal) → Err fault ≡ header_in bytes → log_in bytes ≡ Err fault
unfolding log_in
no_header bytes fault is = rw (← is) refl

events_fault : (r : Result (List CoreEvent) LogRefusal) (fault : LogRefusal) → Some fault ≡ fault_of r → r ≡ Err fault
events_fault (Ok events) fault is = absurd (cc)
events_fault (Err met) fault is = cc

pub bad_entries : (bytes : List ℕ) (plan : Timetable) (node : NodeName) (size senders : ℕ) (fault : LogRefusal)
    → Ok (record { plan = plan; node = node; size = size }) ≡ header_in bytes → senders ≡ senders_of plan node
    → Some fault ≡ fault_of (events_at senders bytes size 0) → log_in bytes ≡ Err fault
unfolding log_in
bad_entries bytes plan node size senders fault is all met =
    let read : events_at (senders_of plan node) bytes size 0 ≡ Err fault = rw (← all) (events_fault _ fault met) in
    rw (← is, read) refl

events_read : (r : Result (List CoreEvent) LogRefusal) → None ≡ fault_of r → r ≡ Ok (events_in r)
events_read (Ok events) is = refl
events_read (Err met) is = absurd (cc)

pub good_entries : (bytes : List ℕ) (plan : Timetable) (node : NodeName) (size senders : ℕ)
    → Ok (record { plan = plan; node = node; size = size }) ≡ header_in bytes → senders ≡ senders_of plan node
    → None ≡ fault_of (events_at senders bytes size 0)
    → log_in bytes ≡ Ok (record { timetable = plan; node = node; events = events_in (events_at senders bytes size 0) })
unfolding log_in
good_entries bytes plan node size senders is all sound =
    let read : events_at (senders_of plan node) bytes size 0 ≡ Ok (events_in (events_at senders bytes size 0)) =
    rw (← all) (events_read _ sound) in
    rw (← is, read) refl
