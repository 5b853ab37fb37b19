-- What the clauses of `draw` come to over bytes in memory.
use Rattle.std.proofs.Common.{◌≡◌, ℕ, ◌<◌, List, [], String, map, string_bytes, Some, false, sym, ap, subst, ◌∙◌, get_or}
use Rattle.std.specs.declared.alloc.Global.{Global}
use Rattle.rb_flags.specs.declared.Flag.{Flag}
use Rattle.rb_flags.proofs.OneFlag.{one_flag}
use Rattle.rb_outside.specs.{Bytes.Gave, Causes.Rose}
use Rattle.robus_c.specs.{Held.{Held, faults_of}, Picture.{Answers, Gives, IsDone}}
use Rattle.robus_c.proofs.OverBytes.{fresh, given_over, never_rose, no_fault, read_is, written_is}
use Rattle.rb_picture.specs.{declared.form.Form.Form, declared.form.Form.TheVariants.{Draw, Show}, declared.form.Frames.Frames, declared.status.Status.Status, Answers.{IsCutOff, IsDrawn, IsPicture, IsRefusal, IsRefused, Untouched, UsageExactly, report_limit}, Pages.page_text, Forms.AskFor}
use Rattle.rb_picture.proofs.Words.{no_frames}
use Rattle.rb_picture.specs.declared.status.Status.TheVariants as code
use Rattle.rb_picture.specs.Answers as outside

drawn : (frames : Frames) (input source source' : List ℕ) (sink sink' : Held) → source ≡ input → sink ≡ fresh
    → IsDrawn frames (Some source) (Some source') (Some sink.bytes) (Some sink'.bytes) → IsPicture frames input sink'.bytes
drawn frames input source source' sink sink' e f d =
    subst (λ bytes. IsPicture frames bytes sink'.bytes) (read_is input source source' d.bytes e d.read)
    (subst (λ text. IsPicture frames d.bytes text) (sym (written_is sink sink' d.draws.text f d.draws.written)) d.draws.due)

gives : (form : Form) (input source source' : List ℕ) (sink sink' : Held) → source ≡ input → sink ≡ fresh
    → outside.Gives form (Some source) (Some source') (Some sink.bytes) (Some sink'.bytes) → Gives form input sink'.bytes
gives (Draw frames) input source source' sink sink' e f d = drawn frames input source source' sink sink' e f d
gives (Show flag) input source source' sink sink' e f d = written_is sink sink' (page_text flag) f d.1

asked_for : (words : List (String Global)) (input source source' : List ℕ) (sink sink' : Held) → source ≡ input → sink ≡ fresh
    → outside.IsDone words (Some source) (Some source') (Some sink.bytes) (Some sink'.bytes) → IsDone (map string_bytes words) input sink'.bytes
asked_for words input source source' sink sink' e f d = record { form = d.form; asked = d.asked; gives = gives d.form input source source' sink sink' e f d.gives }

-- words for a flag ask for its page alone
page_given : (words : List (String Global)) (flag : Flag) (form : Form) (input output : List ℕ) → AskFor words (Show flag) → AskFor words form
    → Gives form input output → output ≡ page_text flag
page_given words flag (Draw frames) input output shows draws given = absurd (no_frames words frames flag draws shows)
page_given words flag (Show other) input output shows also given =
    given ∙ ap page_text (one_flag other flag (ap (λ ws. get_or ws 0 []) (sym also.same ∙ shows.same)))

-- all clauses of the call hold for a source with this input and an empty sink, if no call failed
pub over_bytes : (words : List (String Global)) (status : Status) (input source source' : List ℕ) (sink sink' : Held)
    → source ≡ input → sink ≡ fresh → sink'.failed ≡ false
    → UsageExactly status words → Untouched words status source source' sink sink'
    → (status ≡ code.Done → outside.IsDone words (Some source) (Some source') (Some sink.bytes) (Some sink'.bytes))
    → (status ≡ code.Refused → IsRefused (Some source) (Some source') (Some sink.bytes) (Some sink'.bytes))
    → (status ≡ code.WriteFault → IsCutOff words (Some source) (Some source') (Some sink.bytes) (Some sink'.bytes) × Rose (faults_of sink) (faults_of sink'))
    → (status ≡ code.TooLong → Gave (Some source) (Some source') (λ n. report_limit < n))
    → (status ≡ code.ReadFault → Rose 0 0)
    → outside.Completes words status (Some source) 0 0 (faults_of sink) (faults_of sink')
    → Answers (map string_bytes words) input sink'.bytes status
over_bytes words status input source source' sink sink' e f ok usage untouched done refused fails long fault complete = record {
  unknown = usage.unknown;
  usage = usage.refused;
  nothing = λ w. ap (λ s. s.bytes) (untouched.unwritten w) ∙ ap (λ s. s.bytes) f;
  reads = λ r. never_rose (fault r);
  writes = λ w. no_fault sink sink' f ok (fails w).1;
  done = λ d. asked_for words input source source' sink sink' e f (done d);
  refused = λ r. let is : IsRefused (Some source) (Some source') (Some sink.bytes) (Some sink'.bytes) = refused r in
      subst (λ bytes. IsRefusal bytes sink'.bytes) (read_is input source source' is.bytes e is.read)
      (subst (λ text. IsRefusal is.bytes text) (sym (written_is sink sink' is.refuses.text f is.refuses.written)) is.refuses.due);
  too_long = λ l. given_over report_limit input source source' e (long l);
  complete = λ frames draws within.
      let due : outside.CompletesOn input status (faults_of sink) (faults_of sink') = complete.drawn frames input draws
      (record { told = ap Some e; within = within; no_read = never_rose }) in
      record {
        drawn = λ lines fit is. due.drawn lines fit is (no_fault sink sink' f ok);
        refused_at_once = λ none. due.refused none (no_fault sink sink' f ok);
      };
  shown = λ flag shows. let ended : status ≡ code.Done = complete.shown flag shows (no_fault sink sink' f ok) in
      let is : IsDone (map string_bytes words) input sink'.bytes = asked_for words input source source' sink sink' e f (done ended) in
      (ended, page_given words flag is.form input sink'.bytes shows is.asked is.gives);
}
