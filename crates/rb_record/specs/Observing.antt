-- What is written of a log by whom a run tells what a node is given.
use Rattle.std.specs.Prelude.{ℕ, ◌≡◌, nat_lt, if◌then◌else◌, Option, List, [], ◌∷◌, ◌++◌, Result, IfOk, IsErr, IsOk, MatchResult}
use Rattle.rb_base.specs.{declared.event.Event.Event, declared.node.NodeName.NodeName}
use Rattle.rb_outside.specs.{Bytes.AppendsPart, Causes.HasCause}
use Rattle.rb_laws_sweeps.specs.Told.{Told}
use Rattle.rb_record.specs.{declared.recorder.Recorder.Recorder, Buffering.PassesOn, Recording.{IsRecordedInPart, IsRecordedWhole, MayTell, PassesNext, PassesPartOf, fresh_log}}
use Rattle.rb_rules.specs.{Lawful.IsNodeOf, WorldStep.first_world}
use Rattle.rb_run.specs.{Runs.EndsWith, declared.ending.Ending.Ending}
use Rattle.rb_world.specs.Worlds.{KeptWorld, Stands}

-- what is told, if it is of the log: an event up to the node's first tick of the frame after the
-- last
abbrev pub of_log : ℕ → Told → List Event
of_log frames t = if nat_lt t.frame frames then t.event ∷ [] else []

abbrev pub all_of_log : ℕ → List Told → List Event
all_of_log frames [] = []
all_of_log frames (t ∷ ts) = of_log frames t ++ all_of_log frames ts

-- The writer of the log was told these events of it. They were passed on, if no write had failed
-- before, or a write failed at one of them. If one had failed before, nothing was written
pub record Records {K : Type 0} (held : K → Option (List ℕ)) (faults : K → ℕ) (before : Recorder K) (events : List Event) (after : Recorder K) : Type 0 where
  pub same_output : after.output.ghost_name ≡ before.output.ghost_name
  pub frames : after.frames ≡ before.frames
  pub failed : IsErr before.written → after ≡ before
  pub cause : IsOk before.written → HasCause (faults before.output.now) (faults after.output.now) after.written
  pub next : IsOk before.written → MayTell before.log.ticks events → MatchResult after.written
      (λ _. PassesNext before.log after.log before.waiting after.waiting events (held before.output.now) (held after.output.now))
      (λ _. PassesPartOf before.log before.waiting events (held before.output.now) (held after.output.now))

-- the writer of the log records what it is told next
abbrev pub RecordsNext : {K : Type 0} → (K → Option (List ℕ)) → (K → ℕ) → Recorder K → Told → Recorder K → Type 0
RecordsNext held faults before t after = Records held faults before (of_log before.frames t) after

-- The first bytes of what waited were written, if no write had failed before, or that write failed.
-- If one had failed before, nothing was written
pub record Settles {K : Type 0} (held : K → Option (List ℕ)) (faults : K → ℕ) (before after : Recorder K) : Type 0 where
  pub same_output : after.output.ghost_name ≡ before.output.ghost_name
  pub frames : after.frames ≡ before.frames
  pub log : after.log ≡ before.log
  pub failed : IsErr before.written → after ≡ before
  pub cause : IsOk before.written → HasCause (faults before.output.now) (faults after.output.now) after.written
  pub next : IsOk before.written → MatchResult after.written
      (λ _. PassesOn before.waiting after.waiting [] (held before.output.now) (held after.output.now))
      (λ _. AppendsPart (held before.output.now) (held after.output.now) before.waiting)

-- a run in which nothing has happened may be recorded for a node of its bus by one that was told
-- nothing
pub record MayRecord {K : Type 0} (k : KeptWorld) (name : NodeName) (r : Recorder K) : Type 0 where
  pub begin : Stands k (first_world k.bus)
  pub node : IsNodeOf k.bus.sizes name
  pub log : r.log ≡ fresh_log
  pub frames : r.frames ≡ k.bus.frames
  pub waiting : r.waiting ≡ []
  pub written : IsOk r.written

-- the run was taken to its end and recorded, or recorded up to a write that failed
pub record RecordsRun {K E : Type 0} (held : K → Option (List ℕ)) (faults : K → ℕ) (name : NodeName) (k since : KeptWorld) (before after : Recorder K) (result : Result Ending E) : Type 0 where
  pub recorded : MatchResult result
      (λ _. IsRecordedWhole k.bus name since after.log after.waiting (held before.output.now) (held after.output.now))
      (λ _. IsRecordedInPart k.bus name (held before.output.now) (held after.output.now))
  pub ending : IfOk result (EndsWith k.bus)
  pub cause : HasCause (faults before.output.now) (faults after.output.now) result
  pub same_output : after.output.ghost_name ≡ before.output.ghost_name
  pub bus : since.bus ≡ k.bus
