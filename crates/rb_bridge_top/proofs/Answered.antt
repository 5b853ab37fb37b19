-- The answer to `run`, from what came of its input and of its bridge.
use Rattle.std.proofs.Common.{◌≡◌, ◌⊎◌, Bool, inl, inr, subst, sym}
use Rattle.rb_outside.specs.Causes.{Rose}
use Rattle.rb_run.specs.Seen.{SeenSink, SeenSource}
use Rattle.rb_bridge_document.specs.{declared.bridge.Bridge.Bridge as Kept, Acceptance.as_bridge}
use Rattle.rb_bridge.specs.Crossing.{Drives, WritesPart, run_of}
use Rattle.rb_program.specs.{declared.status.Status.Status, declared.status.Status.TheVariants.{Done, WriteFault}, Statuses.{HasEnded, IsOfRun, MayRefuse, WritesNothing}}
use Rattle.rb_program.proofs.Statuses.{never_both}
use Rattle.rb_bridge_top.specs.{Answers.{Answers, IsCrossed}, Inputs.{ReadsBridge, ReadsNone}}

-- the call answers as it must if it read no bridge
pub none-answers : (both : Bool) (status : Status) (source : SeenSource) (sink : SeenSink)
    (drives : Drives) → ReadsNone status source sink → Answers both status source sink drives
none-answers both status source sink drives n = record {
  known = λ e. subst MayRefuse e n.one_of;
  ended = λ h. absurd (never_both status n.one_of h);
  refused = n.refused;
  unread = n.unread;
  failed = λ e. inl (n.failed e);
}

-- the call answers as it must if it read a bridge and took it to its end
pub report-answers : (both : Bool) (status : Status) (source : SeenSource) (sink : SeenSink)
    (drives : Drives) (kept : Kept) → ReadsBridge source kept
    → (HasEnded status → IsCrossed (run_of (as_bridge kept) both drives.left drives.right) status sink)
    → (status ≡ WriteFault → WritesPart (run_of (as_bridge kept) both drives.left drives.right) sink.held sink.held')
    → (status ≡ WriteFault → Rose sink.faults sink.faults') → IsOfRun status
    → Answers both status source sink drives
report-answers both status source sink drives kept reads-it ended part rose one_of = record {
  known = λ e. subst IsOfRun e one_of;
  ended = λ h. record {
    input = reads-it.input;
    bridge = as_bridge kept;
    read = reads-it.read;
    accepted = reads-it.accepted;
    is = reads-it.bridge;
    listed = reads-it.listed;
    crossed = ended h;
  };
  refused = λ e. absurd (subst IsOfRun e one_of);
  unread = record {
    too_long = λ e. absurd (subst IsOfRun e one_of);
    short_enough = λ _. reads-it.short_enough;
    fault = λ e. absurd (subst IsOfRun e one_of);
  };
  failed = λ e. inr (record {
    input = reads-it.input;
    bridge = as_bridge kept;
    read = reads-it.read;
    accepted = reads-it.accepted;
    written = part e;
    rose = rose e;
  });
}

-- the answer to a flag is one of a run, and something is written
pub shown-of-run : (status : Status) → (status ≡ Done) ⊎ (status ≡ WriteFault) → IsOfRun status
shown-of-run status (inl e) = subst IsOfRun (sym e) tt
shown-of-run status (inr e) = subst IsOfRun (sym e) tt

pub shown-writes : (status : Status) → (status ≡ Done) ⊎ (status ≡ WriteFault) → ¬ WritesNothing status
shown-writes status (inl e) none = subst WritesNothing e none
shown-writes status (inr e) none = subst WritesNothing e none
