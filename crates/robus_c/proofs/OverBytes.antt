-- What clauses over a source and a sink come to if these tell their bytes and never fail.
use Rattle.std.proofs.{Common.{◌≡◌, ℕ, ◌+◌, ◌<◌, List, [], ◌++◌, length, None, Some, true, false, sym, ap, subst, ◌∙◌, arith, length-append}, lemmas.List.append-nil}
use Rattle.std.specs.Io.KnownBytes.{Appends}
use Rattle.rb_outside.specs.{Bytes.{Gave, ReadsToEnd}, Causes.Rose}
use Rattle.rb_run.specs.Seen.{SeenDrive, SeenSink, SeenSource, drive_of}
use Rattle.robus_c.specs.Held.{Held, faults_of}

-- what is seen of bytes that are read and of a sink that holds its bytes
abbrev pub in_memory : List ℕ → List ℕ → SeenSource
in_memory source source' = record { left = Some source; left' = Some source'; faults = 0; faults' = 0 }

abbrev pub to_memory : Held → Held → SeenSink
to_memory sink sink' = record { held = Some sink.bytes; held' = Some sink'.bytes; faults = faults_of sink; faults' = faults_of sink' }

-- a plain drive that tells nothing
abbrev pub silent : SeenDrive
silent = drive_of true None None

abbrev pub fresh : Held
fresh = record { bytes = []; failed = false }

-- all that was read is all that the source had
pub read_is : (input source source' bytes : List ℕ) → source ≡ input → ReadsToEnd (Some source) (Some source') bytes → bytes ≡ input
read_is input source source' bytes e r =
    sym (append-nil bytes) ∙ ap (λ xs. bytes ++ xs) (sym r.at_end) ∙ sym r.consumed ∙ e

-- what was added to an empty sink is what it holds
pub written_is : (sink sink' : Held) (text : List ℕ) → sink ≡ fresh → Appends (Some sink.bytes) (Some sink'.bytes) text → sink'.bytes ≡ text
written_is sink sink' text e p = p ∙ ap (λ s. s.bytes ++ text) e

-- more than the limit was given, so the input is longer
pub given_over : (limit : ℕ) (input source source' : List ℕ) → source ≡ input → Gave (Some source) (Some source') (λ n. limit < n) → limit < length input
given_over limit input source source' e g =
    let all : length source ≡ length g.given + length source' = ap length g.consumed ∙ length-append g.given source' in
    let same : length source ≡ length input = ap length e in
    omega (arith, all, same, g.number)

-- a count of no faults has not risen
pub never_rose : Rose 0 0 → ⊥
never_rose r = omega (arith, r)

pub no_fault : (sink sink' : Held) → sink ≡ fresh → sink'.failed ≡ false → Rose (faults_of sink) (faults_of sink') → ⊥
no_fault sink sink' e ok r =
    let before : faults_of sink ≡ 0 = ap faults_of e in
    let after : faults_of sink' ≡ 0 = ap (λ b. faults_of (record { bytes = sink'.bytes; failed = b })) ok in
    never_rose (subst (λ n. Rose n 0) before (subst (λ n. Rose (faults_of sink) n) after r))
