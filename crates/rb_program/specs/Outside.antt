-- What an answer says of the source and of the sink.
use Rattle.std.specs.{Prelude.{◌≡◌, ◌<◌, ◌≤◌, ◌⊎◌, ℕ, List}, Io.KnownBytes.Appends}
use Rattle.rb_outside.specs.{Bytes.{AppendsPart, Gave}, Causes.Rose}
use Rattle.rb_run.specs.Seen.{SeenSink, SeenSource}
use Rattle.rb_program.specs.declared.status.Status.{Status}
use Rattle.rb_program.specs.declared.status.Status.TheVariants as answer

-- TooLong is the answer if and only if the source gave more bytes than the limit, and ReadFault
-- only if the count of its faults rose
pub record IsUnreadOver (limit : ℕ) (status : Status) (source : SeenSource) : Type 0 where
  pub too_long : status ≡ answer.TooLong → Gave source.left source.left' (λ n. limit < n)
  pub short_enough : ¬ (status ≡ answer.TooLong) → Gave source.left source.left' (λ n. n ≤ limit)
  pub fault : status ≡ answer.ReadFault → Rose source.faults source.faults'

-- the input is refused: this line was written, or a first part of it and a write failed
pub record RefusesWith (line : List ℕ) (status : Status) (sink : SeenSink) : Type 0 where
  pub refused : status ≡ answer.Refused → Appends sink.held sink.held' line
  pub part : status ≡ answer.WriteFault → AppendsPart sink.held sink.held' line
  pub cause : status ≡ answer.WriteFault → Rose sink.faults sink.faults'
  pub either : (status ≡ answer.Refused) ⊎ (status ≡ answer.WriteFault)

-- the text was written, or a first part of it and a write failed
pub record WritesText (text : List ℕ) (status : Status) (sink : SeenSink) : Type 0 where
  pub done : status ≡ answer.Done → Appends sink.held sink.held' text
  pub part : status ≡ answer.WriteFault → AppendsPart sink.held sink.held' text
  pub cause : status ≡ answer.WriteFault → Rose sink.faults sink.faults'
  pub one_of : (status ≡ answer.Done) ⊎ (status ≡ answer.WriteFault)
