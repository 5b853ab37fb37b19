-- What the clauses of `run_robus` come to over bytes in memory.
use Rattle.std.proofs.Common.{◌≡◌, ℕ, List, [], String, map, string_bytes, Option, None, Some, true, false, IsTrue, sym, ap, subst, ◌∙◌, refl}
use Rattle.std.specs.declared.alloc.Global.{Global}
use Rattle.rb_world.specs.declared.drive.FirstDrive.{FirstDrive}
use Rattle.robus_c.specs.{Held.{Held, faults_of}, Bus.{Answers, Ask, IsOver, KeepsItsPromise, KeepsTheHeadline, KeepsTheLog, SumsTheHeadline, read_by}}
use Rattle.robus_c.proofs.OverBytes.{fresh, given_over, in_memory, never_rose, no_fault, read_is, silent, to_memory, written_is}
use Rattle.rb_program.specs.{declared.status.Status.Status, Statuses.{HasEnded, MayRefuse}}
use Rattle.rb_top.specs.{declared.form.Form.Form, declared.form.Form.TheVariants.{Check, Gen, Group, Letters, Listen, Record, Replay, Run, Show, Spell, Stress}, Commands.IsReplay, Answers.{Completes, Ends, FailsToWrite, IsDue, IsLeft, IsRefusedWith, IsUnread, Refuses, Untouched, UsageExactly, limit_of}, Inputs.{IsReadBy, IsTextOf, IsUnreadBy}, Texts.Telling, Words.AskFor}
use Rattle.rb_base.specs.declared.node.NodeName.{NodeName}
use Rattle.rb_laws_logs.specs.Laws.{report_of_node}
use Rattle.rb_rules.specs.Rounds.{records_of}
use Rattle.rb_program.specs.declared.status.Status.TheVariants as code
use Rattle.rb_top.specs.Promise as outside

-- Words.

pub to_asked : (words : List (String Global)) (form : Form) → Ask (map string_bytes words) form → AskFor words form
to_asked words form a = record { same = a.same; in_range = a.in_range }

pub from_asked : (words : List (String Global)) (form : Form) → AskFor words form → Ask (map string_bytes words) form
from_asked words form a = record { same = a.same; in_range = a.in_range }

-- Input.

read_by_is : (limit : Option ℕ) (input source source' bytes : List ℕ) → source ≡ input → IsReadBy limit (in_memory source source') bytes → bytes ≡ read_by limit input
read_by_is None input source source' bytes e r = r
read_by_is (Some limit) input source source' bytes e r = read_is input source source' bytes e r

is_left : (limit : Option ℕ) (input source : List ℕ) → source ≡ input → IsLeft limit (Some source) (read_by limit input)
is_left None input source e = refl
is_left (Some limit) input source e = ap Some e

is_over : (limit : Option ℕ) (status : Status) (input source source' : List ℕ) → source ≡ input
    → IsUnreadBy limit status (in_memory source source') → status ≡ code.TooLong → IsOver limit (read_by limit input)
is_over None status input source source' e u long = absurd (u.not_long long)
is_over (Some limit) status input source source' e u long = given_over limit input source source' e (u.too_long long)

never_unread : (limit : Option ℕ) (status : Status) (source source' : List ℕ) → IsUnreadBy limit status (in_memory source source') → status ≡ code.ReadFault → ⊥
never_unread None status source source' u fault = u.no_fault fault
never_unread (Some limit) status source source' u fault = never_rose (u.fault fault)

-- The promise.

headline : (tells : Telling) (status : Status) (input source source' : List ℕ) (sink sink' : Held) → source ≡ input → sink ≡ fresh
    → outside.KeepsTheHeadline tells status (in_memory source source') (to_memory sink sink')
    → KeepsTheHeadline tells status input sink'.bytes
headline tells status input source source' sink sink' e f k = record {
  scenario = k.scenario;
  accepted = subst (λ bytes. IsTextOf bytes k.scenario) (read_is input source source' k.input e k.read) k.accepted;
  lawful = k.lawful;
  listed = k.listed;
  is = written_is sink sink' _ f k.written;
  ends = k.ends;
  promise = k.promise;
}

sums : (seed frames : ℕ) (status : Status) (sink sink' : Held) → sink ≡ fresh
    → outside.SumsTheHeadline seed frames status (to_memory sink sink') → SumsTheHeadline seed frames status sink'.bytes
sums seed frames status sink sink' f k = record {
  ends = k.ends;
  is = written_is sink sink' _ f k.written;
  promise = k.promise;
}

log : (node : NodeName) (input source source' : List ℕ) (sink sink' : Held) → source ≡ input → sink ≡ fresh
    → outside.KeepsTheLog node (in_memory source source') (to_memory sink sink') → KeepsTheLog node input sink'.bytes
log node input source source' sink sink' e f k = record {
  scenario = k.scenario;
  accepted = subst (λ bytes. IsTextOf bytes k.scenario) (read_is input source source' k.input e k.read) k.accepted;
  replayed = λ none good. subst (λ text. IsReplay text (report_of_node node (records_of k.scenario []))) (sym (written_is sink sink' k.log f k.written)) (k.replayed none good);
  promise = k.promise;
}

promised : (form : Form) (status : Status) (input source source' : List ℕ) (sink sink' : Held) → source ≡ input → sink ≡ fresh
    → outside.KeepsItsPromise form status (in_memory source source') (to_memory sink sink')
    → KeepsItsPromise form status (read_by (limit_of form) input) sink'.bytes
unfolding headline
promised Run status input source source' sink sink' e f k = headline _ status input source source' sink sink' e f k
promised Check status input source source' sink sink' e f k = tt
promised (Gen seed frames) status input source source' sink sink' e f k = tt
promised (Stress seed frames) status input source source' sink sink' e f k = sums seed frames status sink sink' f k
promised (Record node) status input source source' sink sink' e f k = log node input source source' sink sink' e f k
promised Replay status input source source' sink sink' e f k = tt
promised (Spell letter) status input source source' sink sink' e f k = tt
promised Letters status input source source' sink sink' e f k =
    record { report = headline _ status input source source' sink sink' e f k.report; alike = k.alike; received = k.received }
promised (Group which members) status input source source' sink sink' e f k =
    record { report = headline _ status input source source' sink sink' e f k.report; alike = k.alike; found = k.found }
promised (Listen skip) status input source source' sink sink' e f k = tt
promised (Show flag) status input source source' sink sink' e f k = tt

-- Answers.

-- all clauses of the call hold for a source with this input and an empty sink, if no call failed
pub over_bytes : (words : List (String Global)) (status : Status) (input source source' : List ℕ) (sink sink' : Held) (drive drive' : FirstDrive)
    → source ≡ input → sink ≡ fresh → sink'.failed ≡ false
    → UsageExactly status words
    → Untouched words status source source' sink sink' drive drive'
    → (HasEnded status → (form : Form) → AskFor words form → Ends form status (in_memory source source') (to_memory sink sink') silent)
    → (IsTrue true → HasEnded status → (form : Form) → AskFor words form
    → outside.KeepsItsPromise form status (in_memory source source') (to_memory sink sink'))
    → (status ≡ code.Refused → (form : Form) → AskFor words form → Refuses form (in_memory source source') (to_memory sink sink'))
    → ((form : Form) → AskFor words form → IsUnread form status (in_memory source source'))
    → (status ≡ code.WriteFault → (form : Form) → AskFor words form
    → FailsToWrite form (in_memory source source') (to_memory sink sink') silent)
    → ((form : Form) → AskFor words form → Completes form status (in_memory source source') (to_memory sink sink'))
    → Answers (map string_bytes words) input sink'.bytes status
over_bytes words status input source source' sink sink' drive drive' e f ok usage untouched ends promise refuses unread fails completes = record {
  unknown = λ u form a. usage.unknown u form (to_asked words form a);
  usage = λ none. usage.refused (λ form a. none form (from_asked words form a));
  nothing = λ w. ap (λ s. s.bytes) (untouched.unwritten w) ∙ ap (λ s. s.bytes) f;
  reads = λ fault. let known : (form : Form) × AskFor words form = usage.known (λ none. subst MayRefuse (sym fault ∙ none) tt) in
      never_unread (limit_of known.0) status source source' (unread known.0 known.1) fault;
  writes = λ fault. let known : (form : Form) × AskFor words form = usage.known (λ none. subst MayRefuse (sym fault ∙ none) tt) in
      no_fault sink sink' f ok (fails fault known.0 known.1).rose;
  of_form = λ form a.
      let asked : AskFor words form = to_asked words form a in
      let input_is : (limit : Option ℕ) (bytes : List ℕ) → IsReadBy limit (in_memory source source') bytes → bytes ≡ read_by limit input = λ limit bytes r. read_by_is limit input source source' bytes e r in
      record {
        promise = λ h. promised form status input source source' sink sink' e f (promise refl h form asked);
        ended = λ h. let d : Ends form status (in_memory source source') (to_memory sink sink') silent = ends h form asked in
            subst (λ bytes. IsDue form bytes silent status sink'.bytes) (input_is (limit_of form) d.input d.read)
            (subst (λ text. IsDue form d.input silent status text) (sym (written_is sink sink' d.text f d.written)) d.due);
        refused = λ r. let d : Refuses form (in_memory source source') (to_memory sink sink') = refuses r form asked in
            subst (λ bytes. IsRefusedWith form bytes sink'.bytes) (input_is (limit_of form) d.input d.read)
            (subst (λ text. IsRefusedWith form d.input text) (sym (written_is sink sink' d.line f d.written)) d.refused);
        too_long = λ long. is_over (limit_of form) status input source source' e (unread form asked) long;
        complete = λ end is within. (completes form asked).ended (read_by (limit_of form) input) end (is_left (limit_of form) input source e) is
            (record { within = within; no_read = never_rose; no_write = no_fault sink sink' f ok });
        refused_at_once = λ line is within. (completes form asked).refused_at_once (read_by (limit_of form) input) line (is_left (limit_of form) input source e) is
            (record { within = within; no_read = never_rose; no_write = no_fault sink sink' f ok });
      };
}
