-- What is written is read, and what is read is spelled.
use Rattle.std.proofs.{Common.{◌≡◌, ℕ, ◌≤◌, List, [], ◌∷◌, ◌++◌, refl, sym, ap, subst, ◌∙◌, arith, inl, inr}, lemmas.List.append_assoc}
use Rattle.std.specs.{Prelude.Ok, List.flat_map}
use Rattle.rb_base.specs.{Sizes.IsShape, declared.node.NodeName.NodeName}
use Rattle.rb_rules.specs.{Core.CoreEvent, Spelling.AreBytes}
use Rattle.rb_plan.specs.Timetable.{Timetable}
use Rattle.rb_log.specs.{Entries.events_at, Header.{header_in, header_of}, Laws.{ReadIsSpelled, WrittenIsRead}, LogText.{Log, log_in, senders_of}, Spelling.{SpellsLog, spelled}, Writing.{given, written}}
use Rattle.rb_log.proofs.{EntriesRead.{events_read, told_read}, EntriesSpelled.events_spelled, FieldsSpelled.went_on, HeaderRead.{AreOfBus, IsHeaderRead, first_read, header_read, second_read}, HeaderSpelled.{header_there, okay}}
use Rattle.rb_base.specs.declared.node.NodeName.TheVariants as name

read_as_log : (read log : Log) → okay read ≡ okay log → read ≡ log
read_as_log read log is = cc

pub written_read : WrittenIsRead
unfolding log_in
written_read t node events ok =
    let bytes = header_of t node ++ written 0 events in
    let header = header_read t node (written 0 events)
    (record { shape = ok.shape; plan = ok.plan; feasible = ok.feasible; version = ok.version; node_of = ok.node_of }) in
    let read : header_in (header_of t node ++ written 0 events) ≡ Ok (record { plan = t; node = node; size = header.size }) = header.read in
    let events_are : events_at (senders_of t node) (header_of t node ++ written 0 events) header.size 0 ≡ Ok (flat_map given events) =
    events_read events (senders_of t node) bytes header.size 0 0 header.behind ok.happen (omega (arith, ok.ticks)) in
    rw (read, events_are) refl

some_senders : (t : Timetable) (node : NodeName) → IsShape t.sizes → 1 ≤ senders_of t node
some_senders t (name.Biu index) shape = shape.some_rmu
some_senders t (name.Rmu index) shape = shape.some_biu

read_so : (bytes : List ℕ) (log : Log) → AreBytes bytes → log_in bytes ≡ Ok log → SpellsLog bytes log
unfolding log_in
read_so bytes log small is =
    let h = went_on (header_in bytes) _ log is in
    let t = h.value.plan in
    let node = h.value.node in
    let events = went_on (events_at (senders_of h.value.plan h.value.node) bytes h.value.size 0) _ log h.rest in
    let header = header_there bytes h.value small h.first in
    let said = events_spelled (senders_of t node) bytes h.value.size events.value (some_senders t node header.shape) small events.first in
    let read : Log = record { timetable = h.value.plan; node = h.value.node; events = events.value } in
    subst (λ (known : Log). SpellsLog bytes known) (read_as_log read log events.rest) (record {
      shape = header.shape;
      plan = header.plan;
      feasible = header.feasible;
      version = header.version;
      node = header.node_of;
      header = header.front;
      spells = header.spells;
      told = said.told;
      may = said.may;
      few = omega (arith, said.few);
      all =
          header.there ∙ ap (λ (l : List ℕ). header.front ++ l) said.there
          ∙ sym (append_assoc header.front (flat_map spelled said.told) (4 ∷ []));
      events = said.events;
    })

spelled_so : (bytes : List ℕ) (log : Log) → SpellsLog bytes log → log_in bytes ≡ Ok log
unfolding log_in
spelled_so bytes log s =
    let t = log.timetable in
    let rest = flat_map spelled s.told ++ 4 ∷ [] in
    let ok : AreOfBus log.timetable log.node =
    record { shape = s.shape; plan = s.plan; feasible = s.feasible; version = s.version; node_of = s.node } in
    let all : bytes ≡ s.header ++ (flat_map spelled s.told ++ 4 ∷ []) = s.all ∙ append_assoc s.header (flat_map spelled s.told) (4 ∷ []) in
    let header : IsHeaderRead bytes log.timetable log.node (flat_map spelled s.told ++ 4 ∷ []) = elim s.spells [
      | inl first ↦ first_read bytes t log.node rest ok first.0 (all ∙ ap (λ (l : List ℕ). l ++ rest) first.1)
      | inr second ↦ second_read bytes t log.node rest ok (all ∙ ap (λ (l : List ℕ). l ++ rest) second)
    ] in
    let read : header_in bytes ≡ Ok (record { plan = log.timetable; node = log.node; size = header.size }) = header.read in
    let events : events_at (senders_of log.timetable log.node) bytes header.size 0 ≡ Ok log.events =
    told_read s.told (senders_of t log.node) bytes header.size 0 header.behind s.may (omega (arith, s.few))
    ∙ ap (λ (l : List CoreEvent). Ok l) (sym s.events) in
    rw (read, events) refl

pub read_spelled : ReadIsSpelled
read_spelled bytes log small = (read_so bytes log small, spelled_so bytes log)
