-- What the clauses of `run_bridge` come to over bytes in memory.
use Rattle.std.proofs.Common.{◌≡◌, ◌⊎◌, ℕ, Bool, List, String, map, string_bytes, Option, None, Some, true, false, IsTrue, inl, inr, sym, ap, subst, ◌∙◌, refl, arith}
use Rattle.std.specs.declared.alloc.Global.{Global}
use Rattle.rb_outside.specs.Causes.{Rose}
use Rattle.rb_world.specs.declared.drive.FirstDrive.{FirstDrive}
use Rattle.rb_flags.specs.declared.Flag.{Flag}
use Rattle.robus_c.specs.{Held.{Held, faults_of}, Bridge.{Answers, KeepsTheBridge}}
use Rattle.robus_c.proofs.OverBytes.{fresh, given_over, in_memory, never_rose, no_fault, read_is, silent, to_memory, written_is}
use Rattle.rb_bridge_document.specs.Acceptance.{IsBridgeAccepted}
use Rattle.rb_run.specs.Seen.{SeenSink}
use Rattle.rb_bridge.specs.Crossing.{ArePlain, Drives}
use Rattle.rb_program.specs.{declared.status.Status.Status, Outside.WritesText, Statuses.{HasEnded, HasFailed, MayRefuse, number_of}}
use Rattle.rb_bridge_top.specs.{declared.form.Form.Form, declared.form.Form.TheVariants.{Run, Show}, Answers.{Completes, FailsToWrite, Refuses, Untouched, UsageExactly}, Inputs.{IsRefusedWith, IsUnread, input_limit}, Pages.page_text, Statuses.end_of, Words.AskFor}
use Rattle.rb_program.specs.declared.status.Status.TheVariants as code
use Rattle.rb_bridge_top.specs.Promise as outside

abbrev both_silent : Drives
both_silent = record { left = silent; right = silent }

pub both_plain : ArePlain true true true
both_plain = record { left = λ _. refl; right = λ _. refl }

never_both : (status : Status) → HasEnded status → HasFailed status → ⊥
never_both code.Done h f = f
never_both code.Breach h f = f
never_both code.Usage h f = h
never_both code.Refused h f = h
never_both code.TooLong h f = h
never_both code.ReadFault h f = h
never_both code.WriteFault h f = h
never_both code.OutOfMemory h f = h

-- if only memory has failed, the status is the end that is due or `OutOfMemory`
due_or_memory : (status end : Status) → (status ≡ end) ⊎ HasFailed status → HasEnded status ⊎ (status ≡ code.OutOfMemory) → (status ≡ end) ⊎ (status ≡ code.OutOfMemory)
due_or_memory status end (inl is) second = inl is
due_or_memory status end (inr failed) (inl h) = absurd (never_both status h failed)
due_or_memory status end (inr failed) (inr memory) = inr memory

shown_or : (status : Status) → (status ≡ code.Done) ⊎ (status ≡ code.WriteFault) → status ≡ code.ReadFault → ⊥
shown_or status (inl done) e = let n : 0 ≡ 5 = ap number_of (sym done ∙ e) in absurd (omega (arith, n))
shown_or status (inr fault) e = let n : 6 ≡ 5 = ap number_of (sym fault ∙ e) in absurd (omega (arith, n))

bridge : (status : Status) (input source source' : List ℕ) (sink sink' : Held) → source ≡ input → sink ≡ fresh
    → outside.KeepsTheBridge status (in_memory source source') (to_memory sink sink') → KeepsTheBridge status input sink'.bytes
bridge status input source source' sink sink' e f k = record {
  bridge = k.bridge;
  accepted = subst (λ bytes. IsBridgeAccepted bytes k.bridge) (read_is input source source' k.input e k.read) k.accepted;
  lawful = k.is;
  listed = k.listed;
  is = written_is sink sink' _ f k.written;
  ends = k.ends;
  promise = k.promise;
  buses = k.buses;
}

-- no form ends with a fault of the source
never_read : (words : List (String Global)) (status : Status) (source source' : List ℕ) (sink : SeenSink)
    → ((flag : Flag) → AskFor words (Show flag) → WritesText (page_text flag) status sink)
    → (AskFor words Run → IsUnread status (in_memory source source'))
    → status ≡ code.ReadFault → (form : Form) → AskFor words form → ⊥
never_read words status source source' sink shows unread e Run a = never_rose ((unread a).fault e)
never_read words status source source' sink shows unread e (Show flag) a = shown_or status (shows flag a).one_of e

rose_so : {A B : Type 0} (writes writes' : ℕ) → (A → Rose writes writes') → (B → Rose writes writes') → A ⊎ B → Rose writes writes'
rose_so writes writes' f g (inl a) = f a
rose_so writes writes' f g (inr b) = g b

never_written : (words : List (String Global)) (status : Status) (source source' : List ℕ) (sink sink' : Held) → sink ≡ fresh → sink'.failed ≡ false
    → ((flag : Flag) → AskFor words (Show flag) → WritesText (page_text flag) status (to_memory sink sink'))
    → (AskFor words Run → (both : Bool) → ArePlain both true true → status ≡ code.WriteFault
    → FailsToWrite both (in_memory source source') (to_memory sink sink') both_silent)
    → status ≡ code.WriteFault → (form : Form) → AskFor words form → ⊥
never_written words status source source' sink sink' f ok shows fails e Run a =
    no_fault sink sink' f ok (rose_so (faults_of sink) (faults_of sink') (λ x. x.rose) (λ x. x.rose) (fails a true both_plain e))
never_written words status source source' sink sink' f ok shows fails e (Show flag) a = no_fault sink sink' f ok ((shows flag a).cause e)

shown_by : (flag : Flag) (status : Status) (sink sink' : Held) → sink ≡ fresh → sink'.failed ≡ false
    → WritesText (page_text flag) status (to_memory sink sink')
    → (status ≡ code.Done) ⊎ (status ≡ code.WriteFault) → (status ≡ code.Done) × (sink'.bytes ≡ page_text flag)
shown_by flag status sink sink' f ok s (inl done) = (done, written_is sink sink' (page_text flag) f (s.done done))
shown_by flag status sink sink' f ok s (inr fault) = absurd (no_fault sink sink' f ok (s.cause fault))

-- a page is written whole
shown_done : (flag : Flag) (status : Status) (sink sink' : Held) → sink ≡ fresh → sink'.failed ≡ false
    → WritesText (page_text flag) status (to_memory sink sink')
    → (status ≡ code.Done) × (sink'.bytes ≡ page_text flag)
shown_done flag status sink sink' f ok s = shown_by flag status sink sink' f ok s s.one_of

-- all clauses of the call hold for a source with this input and an empty sink, if no call failed
pub over_bytes : (words : List (String Global)) (status : Status) (input source source' : List ℕ) (sink sink' : Held) (left left' right right' : FirstDrive)
    → source ≡ input → sink ≡ fresh → sink'.failed ≡ false
    → UsageExactly status words
    → Untouched words status source source' sink sink' left left' right right'
    → ((flag : Flag) → AskFor words (Show flag) → WritesText (page_text flag) status (to_memory sink sink'))
    → (AskFor words Run → IsTrue true → IsTrue true → HasEnded status
    → outside.KeepsTheBridge status (in_memory source source') (to_memory sink sink'))
    → (status ≡ code.Refused → Refuses (in_memory source source') (to_memory sink sink'))
    → (AskFor words Run → IsUnread status (in_memory source source'))
    → (AskFor words Run → (both : Bool) → ArePlain both true true → status ≡ code.WriteFault
    → FailsToWrite both (in_memory source source') (to_memory sink sink') both_silent)
    → (AskFor words Run → (both : Bool) → ArePlain both true true → Completes both status (in_memory source source') (to_memory sink sink'))
    → Answers (map string_bytes words) input sink'.bytes status
over_bytes words status input source source' sink sink' left left' right right' e f ok usage untouched shows promise refuses unread fails completes = record {
  unknown = usage.unknown;
  usage = usage.refused;
  nothing = λ w. ap (λ s. s.bytes) (untouched.unwritten w) ∙ ap (λ s. s.bytes) f;
  reads = λ fault. let known : (form : Form) × AskFor words form = usage.known (λ none. subst MayRefuse (sym fault ∙ none) tt) in
      never_read words status source source' (to_memory sink sink') shows unread fault known.0 known.1;
  writes = λ fault. let known : (form : Form) × AskFor words form = usage.known (λ none. subst MayRefuse (sym fault ∙ none) tt) in
      never_written words status source source' sink sink' f ok shows fails fault known.0 known.1;
  shown = λ flag a. shown_done flag status sink sink' f ok (shows flag a);
  run = λ a. record {
    promise = λ h. bridge status input source source' sink sink' e f (promise a refl refl h);
    refused = λ r. let d : Refuses (in_memory source source') (to_memory sink sink') = refuses r in
        subst (λ bytes. IsRefusedWith bytes sink'.bytes) (read_is input source source' d.input e d.read)
        (subst (λ text. IsRefusedWith d.input text) (sym (written_is sink sink' d.line f d.written)) d.refused);
    too_long = λ long. given_over input_limit input source source' e ((unread a).too_long long);
    complete = λ b accepted within. let all : Completes true status (in_memory source source') (to_memory sink sink') = completes a true both_plain in
        due_or_memory status (end_of b) (all.ended input b (ap Some e) accepted refl)
        (all.ended_at_once input b (ap Some e) accepted (record { within = within; no_read = never_rose; no_write = no_fault sink sink' f ok }));
    refused_at_once = λ line is within. (completes a true both_plain).refused_at_once input line (ap Some e) is
        (record { within = within; no_read = never_rose; no_write = no_fault sink sink' f ok });
  };
}
