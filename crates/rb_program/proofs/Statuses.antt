-- What is known of an answer by its kind.
use Rattle.std.proofs.Common.{◌≡◌, refl}
use Rattle.rb_run.specs.declared.ending.Ending.{Ending}
use Rattle.rb_program.specs.{declared.status.Status.Status, declared.status.Status.TheVariants.{Done, Breach, Usage, Refused, TooLong, ReadFault, WriteFault, OutOfMemory}, Statuses.{HasEnded, IsOfRun, MayRefuse, RunsNothing, WritesNothing, status_of}}
use Rattle.rb_run.specs.declared.ending.Ending.TheVariants as ending

-- a refusal is no end
pub never_both : (status : Status) → MayRefuse status → HasEnded status → ⊥
never_both Done may ended = may
never_both Breach may ended = may
never_both Usage may ended = ended
never_both Refused may ended = ended
never_both TooLong may ended = ended
never_both ReadFault may ended = ended
never_both WriteFault may ended = ended
never_both OutOfMemory may ended = ended

-- `OutOfMemory` is the only answer to a run that writes nothing
pub is_memory : (status : Status) → IsOfRun status → WritesNothing status → status ≡ OutOfMemory
is_memory Done one_of h = absurd h
is_memory Breach one_of h = absurd h
is_memory Usage one_of h = absurd one_of
is_memory Refused one_of h = absurd h
is_memory TooLong one_of h = absurd one_of
is_memory ReadFault one_of h = absurd one_of
is_memory WriteFault one_of h = absurd h
is_memory OutOfMemory one_of h = refl

-- `OutOfMemory` is the only answer to a run that asks nothing of the drive
pub is_memory_only : (status : Status) → IsOfRun status → RunsNothing status → status ≡ OutOfMemory
is_memory_only Done one_of h = absurd h
is_memory_only Breach one_of h = absurd h
is_memory_only Usage one_of h = absurd one_of
is_memory_only Refused one_of h = absurd one_of
is_memory_only TooLong one_of h = absurd one_of
is_memory_only ReadFault one_of h = absurd one_of
is_memory_only WriteFault one_of h = absurd h
is_memory_only OutOfMemory one_of h = refl

-- how a run ends is an answer of a run, and of a command that has ended
pub run_ends : (e : Ending) → IsOfRun (status_of e) × HasEnded (status_of e)
run_ends ending.Ended = (tt, tt)
run_ends ending.Breach = (tt, tt)
