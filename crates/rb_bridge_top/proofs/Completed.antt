-- The answers that must come, and what a bridge promises, from all that is said of an answer.
use Rattle.std.proofs.Common.{◌≡◌, ℕ, ◌<◌, ◌⊎◌, Bool, true, List, length, Some, inl, inr, refl, sym, ◌∙◌, ap, subst, arith}
use Rattle.rb_outside.specs.Bytes.{Gave, ReadsToEnd}
use Rattle.rb_outside.proofs.Known.{gave_within, read_bytes}
use Rattle.rb_laws_promise.proofs.Whole.{kept}
use Rattle.rb_rules_bridge.specs.{Bridges.{Bridge, bus_on}, Crossings.{hands_of, hands_on}}
use Rattle.rb_laws_bridge.proofs.Crossed.{words-cross}
use Rattle.rb_bridge_document.specs.Acceptance.{IsBridgeAccepted}
use Rattle.rb_run.specs.{declared.ending.Ending.Ending, Seen.{SeenSink, SeenSource}}
use Rattle.rb_bridge.specs.Crossing.{Drives, EndsAs, run_of}
use Rattle.rb_program.specs.{declared.status.Status.Status, declared.status.Status.TheVariants.{Breach, Done, OutOfMemory, ReadFault, Refused, TooLong, Usage, WriteFault}, Statuses.{HasEnded, HasFailed, MayRefuse, status_of}}
use Rattle.rb_bridge_top.specs.{Answers.{Answers, Completes, Ends, FailsToWrite, NothingFails, Refuses}, Inputs.{IsRefusedWith, IsUnread, input_limit}, Promise.KeepsTheBridge, Statuses.{end_of, status_with}}
use Rattle.rb_bridge_top.proofs.Accepted.{not-both, one-bridge}
use Rattle.rb_run.specs.declared.ending.Ending.TheVariants as ending

-- how a bridge with two plain drives ends
ends-so : (b : Bridge) (drives : Drives) (e : Ending)
    → EndsAs (run_of b true drives.left drives.right) e → status_of e ≡ end_of b
ends-so b drives ending.Ended is = sym (ap status_with (is.0 refl))
ends-so b drives ending.Breach is = sym (ap status_with (is.1.0 refl))

pub promised : (status : Status) (source : SeenSource) (sink : SeenSink) (drives : Drives)
    → Ends true status source sink drives → KeepsTheBridge status source sink
promised status source sink drives e = record {
  input = e.input;
  bridge = e.bridge;
  read = e.read;
  accepted = e.accepted;
  is = e.is;
  listed = e.listed;
  written = e.crossed.written.text refl;
  ends = e.crossed.answer_is ∙ ends-so e.bridge drives e.crossed.ending e.crossed.written.ends;
  promise = words-cross e.bridge e.is;
  buses = λ bank. kept (bus_on e.bridge bank) (hands_on bank (hands_of e.bridge)) (e.is.lawful bank);
}

-- What is known of an answer.

-- the input that was read is the one that was left
read-is : (source : SeenSource) (input read : List ℕ) → source.left ≡ Some input → ReadsToEnd source.left source.left' read → read ≡ input
read-is source input read is r = read_bytes input source.left' read (subst (λ l. ReadsToEnd l source.left' read) is r)

-- the bridge that was run is the one that was read
same-run : (both : Bool) (status : Status) (source : SeenSource) (sink : SeenSink) (drives : Drives)
    (input : List ℕ) (b : Bridge) → source.left ≡ Some input → IsBridgeAccepted input b → (e : Ends both status source sink drives) → e.bridge ≡ b
same-run both status source sink drives input b is accepted e =
    one-bridge input e.bridge b (subst (λ i. IsBridgeAccepted i e.bridge) (read-is source input e.input is e.read) e.accepted) accepted

ends-at : (both : Bool) (status : Status) (source : SeenSource) (sink : SeenSink) (drives : Drives)
    (input : List ℕ) (b : Bridge) → source.left ≡ Some input → IsBridgeAccepted input b → both ≡ true → Ends both status source sink drives → status ≡ end_of b
ends-at both status source sink drives input b is accepted sure e =
    let plain : Ends true status source sink drives = subst (λ t. Ends t status source sink drives) sure e in
    plain.crossed.answer_is ∙ ends-so plain.bridge drives plain.crossed.ending plain.crossed.written.ends
    ∙ ap end_of (same-run true status source sink drives input b is accepted plain)

-- an input that says a bridge is not refused
not-refused : (source : SeenSource) (sink : SeenSink) (input : List ℕ) (b : Bridge) → source.left ≡ Some input → IsBridgeAccepted input b → ¬ Refuses source sink
not-refused source sink input b is accepted r =
    let same : r.input ≡ input = read-is source input r.input is r.read in
    not-both r.input b r.refused.rule (subst (λ i. IsBridgeAccepted i b) (sym same) accepted) r.refused.coded r.refused.broken

not-run : (both : Bool) (status : Status) (source : SeenSource) (sink : SeenSink) (drives : Drives)
    (input line : List ℕ) → source.left ≡ Some input → IsRefusedWith input line → ¬ Ends both status source sink drives
not-run both status source sink drives input line is refused e =
    not-both input e.bridge refused.rule (subst (λ i. IsBridgeAccepted i e.bridge) (read-is source input e.input is e.read) e.accepted) refused.coded refused.broken

never-long : (source : SeenSource) (sink : SeenSink) (input : List ℕ) → source.left ≡ Some input → NothingFails input source sink
    → ¬ IsUnread TooLong source
never-long source sink input is fine unread =
    let long : input_limit < length input = gave_within input source.left' input_limit (subst (λ l. Gave l source.left' (λ n. input_limit < n)) is (unread.too_long refl)) in
    absurd (omega (arith, long, fine.within))

-- a failed write is counted
never-unwritten : (both : Bool) (source : SeenSource) (sink : SeenSink) (drives : Drives)
    (input : List ℕ) → NothingFails input source sink → ¬ FailsToWrite both source sink drives
never-unwritten both source sink drives input fine (inl f) = fine.no_write f.rose
never-unwritten both source sink drives input fine (inr f) = fine.no_write f.rose

-- The answers that must come.

ended : (both : Bool) (status : Status) (source : SeenSource) (sink : SeenSink) (drives : Drives) (input : List ℕ) (b : Bridge) → Answers both status source sink drives
    → source.left ≡ Some input → IsBridgeAccepted input b → both ≡ true → (status ≡ end_of b) ⊎ HasFailed status
ended both Done source sink drives input b x is accepted sure =
    inl (ends-at both Done source sink drives input b is accepted sure (x.ended tt))
ended both Breach source sink drives input b x is accepted sure =
    inl (ends-at both Breach source sink drives input b is accepted sure (x.ended tt))
ended both Usage source sink drives input b x is accepted sure = absurd (x.known refl)
ended both Refused source sink drives input b x is accepted sure =
    absurd (not-refused source sink input b is accepted (x.refused refl))
ended both TooLong source sink drives input b x is accepted sure = inr tt
ended both ReadFault source sink drives input b x is accepted sure = inr tt
ended both WriteFault source sink drives input b x is accepted sure = inr tt
ended both OutOfMemory source sink drives input b x is accepted sure = inr tt

ended-at-once : (both : Bool) (status : Status) (source : SeenSource) (sink : SeenSink) (drives : Drives) (input : List ℕ) (b : Bridge) → Answers both status source sink drives
    → source.left ≡ Some input → IsBridgeAccepted input b → NothingFails input source sink → HasEnded status ⊎ (status ≡ OutOfMemory)
ended-at-once both Done source sink drives input b x is accepted fine = inl tt
ended-at-once both Breach source sink drives input b x is accepted fine = inl tt
ended-at-once both Usage source sink drives input b x is accepted fine = absurd (x.known refl)
ended-at-once both Refused source sink drives input b x is accepted fine =
    absurd (not-refused source sink input b is accepted (x.refused refl))
ended-at-once both TooLong source sink drives input b x is accepted fine =
    absurd (never-long source sink input is fine x.unread)
ended-at-once both ReadFault source sink drives input b x is accepted fine = absurd (fine.no_read (x.unread.fault refl))
ended-at-once both WriteFault source sink drives input b x is accepted fine =
    absurd (never-unwritten both source sink drives input fine (x.failed refl))
ended-at-once both OutOfMemory source sink drives input b x is accepted fine = inr refl

refused : (both : Bool) (status : Status) (source : SeenSource) (sink : SeenSink) (drives : Drives) (input line : List ℕ) → Answers both status source sink drives
    → source.left ≡ Some input → IsRefusedWith input line → MayRefuse status
refused both Done source sink drives input line x is r =
    absurd (not-run both Done source sink drives input line is r (x.ended tt))
refused both Breach source sink drives input line x is r =
    absurd (not-run both Breach source sink drives input line is r (x.ended tt))
refused both Usage source sink drives input line x is r = absurd (x.known refl)
refused both Refused source sink drives input line x is r = tt
refused both TooLong source sink drives input line x is r = tt
refused both ReadFault source sink drives input line x is r = tt
refused both WriteFault source sink drives input line x is r = tt
refused both OutOfMemory source sink drives input line x is r = tt

refused-at-once : (both : Bool) (status : Status) (source : SeenSource) (sink : SeenSink) (drives : Drives) (input line : List ℕ) → Answers both status source sink drives
    → source.left ≡ Some input → IsRefusedWith input line → NothingFails input source sink → (status ≡ Refused) ⊎ (status ≡ OutOfMemory)
refused-at-once both Done source sink drives input line x is r fine =
    absurd (not-run both Done source sink drives input line is r (x.ended tt))
refused-at-once both Breach source sink drives input line x is r fine =
    absurd (not-run both Breach source sink drives input line is r (x.ended tt))
refused-at-once both Usage source sink drives input line x is r fine = absurd (x.known refl)
refused-at-once both Refused source sink drives input line x is r fine = inl refl
refused-at-once both TooLong source sink drives input line x is r fine =
    absurd (never-long source sink input is fine x.unread)
refused-at-once both ReadFault source sink drives input line x is r fine = absurd (fine.no_read (x.unread.fault refl))
refused-at-once both WriteFault source sink drives input line x is r fine =
    absurd (never-unwritten both source sink drives input fine (x.failed refl))
refused-at-once both OutOfMemory source sink drives input line x is r fine = inr refl

pub completes : (both : Bool) (status : Status) (source : SeenSource) (sink : SeenSink) (drives : Drives) → Answers both status source sink drives
    → Completes both status source sink
completes both status source sink drives x = record {
  ended = λ input b is accepted sure. ended both status source sink drives input b x is accepted sure;
  ended_at_once = λ input b is accepted fine. ended-at-once both status source sink drives input b x is accepted fine;
  refused = λ input line is r. refused both status source sink drives input line x is r;
  refused_at_once = λ input line is r fine. refused-at-once both status source sink drives input line x is r fine;
}
