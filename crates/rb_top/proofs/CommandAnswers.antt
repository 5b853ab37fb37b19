-- The answers of a command, from what came of its input and of its run.
use Rattle.std.proofs.Common.{◌≡◌, ◌∙◌, ◌≤◌, ℕ, ◌⊎◌, Bool, List, [], Option, inl, inr, refl, sym, subst}
use Rattle.std.specs.Io.KnownBytes.{Appends}
use Rattle.rb_program.proofs.Statuses.{never_both}
use Rattle.rb_outside.specs.{Bytes.{AppendsPart, Gave, ReadsToEnd}, Causes.Rose}
use Rattle.rb_base.specs.declared.node.NodeName.{NodeName}
use Rattle.rb_rules.specs.{Lawful.IsNodeOf, Goodness.Scenario}
use Rattle.rb_scenario_entries.specs.declared.refusal.Refusal.TheVariants.{NoSuchNode}
use Rattle.rb_record.specs.Recording.{log_text}
use Rattle.rb_scenario.specs.{Acceptance.as_scenario, declared.scenario.Scenario.Scenario as Accepted}
use Rattle.rb_group.specs.declared.voters.Which.{Which}
use Rattle.rb_group_run.specs.Members.{AreMembers}
use Rattle.rb_world_book.specs.declared.turn.Turn.{Turn}
use Rattle.rb_run.specs.{Turns.records_in, Seen.{SeenDrive, SeenSink, SeenSource, drive_of}}
use Rattle.rb_program.specs.{declared.status.Status.Status, declared.status.Status.TheVariants.{Breach, Done, OutOfMemory, ReadFault, Refused, TooLong, Usage, WriteFault}, Statuses.{HasEnded, IsNotRead, IsOfRun, MayRefuse, WritesNothing}, Outside.{IsUnreadOver, RefusesWith}}
use Rattle.rb_top.specs.{Answers.{CommandAnswers, IsRefusedAlone}, CheckText.check_text, Commands.{Command, IsReport, IsReportSoFar, alone_command, check_command, group_command, record_command, stress_command, telling_command, text_command}, Inputs.{BreaksRule, IsReadBy, IsTextOf, IsUnreadBy, LacksMember, LacksNode, member_text, rule_text, scenario_limit}, Reading.{ReadsNone, ReadsScenario}, Serving.{Either, IsOfLog, IsOfText, Logs, Reports, Sums, TellsOfLog}, Texts.{Telling, told_by_group}}

-- a command that reads a scenario
pub record ReadsAScenario (command : Command) : Type 0 where
  pub read : (source : SeenSource) (input : List ℕ) → ReadsToEnd source.left source.left' input → IsReadBy command.limit source input
  pub refuse : (input line : List ℕ) → BreaksRule input line → command.is_refused input line
  pub unread : (status : Status) (source : SeenSource) → IsUnreadOver scenario_limit status source
      → IsUnreadBy command.limit status source

pub telling_reads : (tells : Telling) → ReadsAScenario (telling_command tells)
telling_reads tells = record { read = λ source input h. h; refuse = λ input line h. h; unread = λ status source h. h }

pub check_reads : ReadsAScenario check_command
check_reads = record { read = λ source input h. h; refuse = λ input line h. h; unread = λ status source h. h }

pub record_reads : (node : NodeName) → ReadsAScenario (record_command node)
record_reads node = record { read = λ source input h. h; refuse = λ input line h. inl h; unread = λ status source h. h }

pub group_reads : (which : Which) (members : ℕ) → ReadsAScenario (group_command which members)
group_reads which members = record { read = λ source input h. h; refuse = λ input line h. inl h; unread = λ status source h. h }

-- the command tells of the run of this scenario, once the scenario has been read
pub record TellsOf (command : Command) (accepted : Accepted) (tells : Telling) : Type 0 where
  pub reads : ReadsAScenario command
  pub due : (input : List ℕ) (drive : SeenDrive) (status : Status) (text : List ℕ)
      → (r : IsReport tells input drive status text) → r.scenario ≡ as_scenario accepted → command.is_due input drive status text
  pub so_far : (input : List ℕ) (drive : SeenDrive) (text : List ℕ)
      → (r : IsReportSoFar tells input drive text) → r.scenario ≡ as_scenario accepted → command.is_due_so_far input drive text

pub telling_tells : (accepted : Accepted) (tells : Telling) → TellsOf (telling_command tells) accepted tells
telling_tells accepted tells = record {
  reads = telling_reads tells;
  due = λ input drive status text r is. r;
  so_far = λ input drive text r is. r;
}

pub group_tells : (accepted : Accepted) (which : Which) (members : ℕ) → AreMembers accepted.plan.sizes members
    → TellsOf (group_command which members) accepted (told_by_group which members)
group_tells accepted which members there =
    let P : Scenario → Type 0 = λ sc. AreMembers sc.sizes members in
    record {
      reads = group_reads which members;
      due = λ input drive status text r is. record { report = r; there = subst P (sym is) there };
      so_far = λ input drive text r is. record { report = r; there = subst P (sym is) there };
    }

-- no scenario has been read
pub none_answers : (command : Command) → ReadsAScenario command → (status : Status) (source : SeenSource) (sink : SeenSink) (is_plain : Bool) (told : Option (List Turn)) → ReadsNone status source sink
    → CommandAnswers command status source sink (drive_of is_plain told told)
none_answers command f status source sink is_plain told n = record {
  known = λ e. let P : Status → Type 0 = λ s. MayRefuse s in subst P e n.one_of;
  ended = λ h. absurd (never_both status n.one_of h);
  refused = λ e. let r = n.refused e in record {
    input = r.input;
    line = r.line;
    read = f.read source r.input r.read;
    refused = f.refuse r.input r.line r.refused;
    written = r.written;
  };
  unread = f.unread status source n.unread;
  failed = λ e. let r = n.failed e in record {
    rose = r.rose;
    input = r.input;
    text = r.line;
    read = f.read source r.input r.read;
    due = inl (record { refused = f.refuse r.input r.line r.refused; silent = refl });
    written = r.written;
  };
}

no_run : (status : Status) (s : Status) → (IsOfRun s → ⊥) → IsOfRun status → ¬ (status ≡ s)
no_run status s never one_of e = let P : Status → Type 0 = λ x. IsOfRun x in never (subst P e one_of)

no_text : (status : Status) (s : Status) → (IsOfText s → ⊥) → IsOfText status → ¬ (status ≡ s)
no_text status s never one_of e = let P : Status → Type 0 = λ x. IsOfText x in never (subst P e one_of)

pub report_answers : (command : Command) (tells : Telling) (accepted : Accepted) (status : Status) (source : SeenSource) (sink : SeenSink) (drive : SeenDrive) → TellsOf command accepted tells → ReadsScenario source accepted
    → Reports tells accepted status sink drive
    → CommandAnswers command status source sink drive
report_answers command tells accepted status source sink drive f r x =
    let says : IsTextOf r.input (as_scenario accepted) = record { accepted = accepted; is = r.is; shows = refl } in
    record {
      known = no_run status Usage (λ h. h) x.one_of;
      ended = λ h. let all = x.ended h in
          let text : List ℕ = tells (as_scenario accepted) (records_in all.written.turns) in
          let report : IsReport tells r.input drive status text = record {
            scenario = as_scenario accepted;
            turns = all.written.turns;
            says = says;
            lawful = r.lawful;
            listed = r.listed;
            given = all.written.given;
            all = all.written.all;
            ends = all.ends;
            text_is = refl;
          } in
          record {
            input = r.input;
            text = text;
            read = f.reads.read source r.input r.read;
            written = all.written.text;
            due = f.due r.input drive status text report refl;
          };
      refused = λ e. absurd (no_run status Refused (λ h. h) x.one_of e);
      unread = f.reads.unread status source (record {
        too_long = λ e. absurd (no_run status TooLong (λ h. h) x.one_of e);
        short_enough = λ e. r.short_enough;
        fault = λ e. absurd (no_run status ReadFault (λ h. h) x.one_of e);
      });
      failed = λ e. let part = x.part e in
          let text : List ℕ = tells (as_scenario accepted) (records_in part.turns) in
          let report : IsReportSoFar tells r.input drive text =
          record { scenario = as_scenario accepted; turns = part.turns; says = says; given = part.given; text_is = refl } in
          record {
            rose = x.cause e;
            input = r.input;
            text = text;
            read = f.reads.read source r.input r.read;
            written = part.text;
            due = inr (f.so_far r.input drive text report refl);
          };
    }

-- a text was due, and no run
pub record Writes (text : List ℕ) (status : Status) (sink : SeenSink) : Type 0 where
  pub done : status ≡ Done → Appends sink.held sink.held' text
  pub part : status ≡ WriteFault → AppendsPart sink.held sink.held' text
  pub cause : status ≡ WriteFault → Rose sink.faults sink.faults'
  pub one_of : IsOfText status

pub of_two : (status : Status) → (status ≡ Done) ⊎ (status ≡ WriteFault) → IsOfText status
of_two status (inl e) = let P : Status → Type 0 = λ s. IsOfText s in subst P (sym e) tt
of_two status (inr e) = let P : Status → Type 0 = λ s. IsOfText s in subst P (sym e) tt

-- neither `Done` nor `WriteFault` is the answer if nothing was written
pub not_two : (status : Status) → (status ≡ Done) ⊎ (status ≡ WriteFault) → WritesNothing status → ⊥
not_two status (inl e) h = let P : Status → Type 0 = λ s. WritesNothing s in subst P e h
not_two status (inr e) h = let P : Status → Type 0 = λ s. WritesNothing s in subst P e h

only_done : (status : Status) → IsOfText status → HasEnded status → status ≡ Done
only_done Done one_of h = refl
only_done Breach one_of h = absurd one_of
only_done Usage one_of h = absurd h
only_done Refused one_of h = absurd h
only_done TooLong one_of h = absurd h
only_done ReadFault one_of h = absurd h
only_done WriteFault one_of h = absurd h
only_done OutOfMemory one_of h = absurd h

pub sides_answer : (accepted : Accepted) (status : Status) (source : SeenSource) (sink : SeenSink) (is_plain : Bool) (told : Option (List Turn)) → ReadsScenario source accepted
    → Writes (check_text accepted.plan.sizes accepted.plan.plan) status sink
    → CommandAnswers check_command status source sink (drive_of is_plain told told)
sides_answer accepted status source sink is_plain told r x =
    let says : IsTextOf r.input (as_scenario accepted) = record { accepted = accepted; is = r.is; shows = refl } in
    let text = check_text accepted.plan.sizes accepted.plan.plan in
    record {
      known = no_text status Usage (λ h. h) x.one_of;
      ended = λ h. let done = only_done status x.one_of h in record {
        input = r.input;
        text = text;
        read = r.read;
        written = x.done done;
        due = (record { scenario = as_scenario accepted; says = says; text_is = refl }, record { done = done; silent = refl });
      };
      refused = λ e. absurd (no_text status Refused (λ h. h) x.one_of e);
      unread = record {
        too_long = λ e. absurd (no_text status TooLong (λ h. h) x.one_of e);
        short_enough = λ e. r.short_enough;
        fault = λ e. absurd (no_text status ReadFault (λ h. h) x.one_of e);
      };
      failed = λ e. record {
        rose = x.cause e;
        input = r.input;
        text = text;
        read = r.read;
        written = x.part e;
        due = inr (record { scenario = as_scenario accepted; says = says; text_is = refl }, record { done = refl; silent = refl });
      };
    }

pub text_answers : (text : List ℕ) (status : Status) (source : SeenSource) (sink : SeenSink) (is_plain : Bool) (told : Option (List Turn)) → Writes text status sink
    → CommandAnswers (text_command text) status source sink (drive_of is_plain told told)
text_answers text status source sink is_plain told x = record {
  known = no_text status Usage (λ h. h) x.one_of;
  ended = λ h. let done = only_done status x.one_of h in
      record { input = []; text = text; read = refl; written = x.done done; due = (refl, record { done = done; silent = refl }) };
  refused = λ e. absurd (no_text status Refused (λ h. h) x.one_of e);
  unread = record { not_long = no_text status TooLong (λ h. h) x.one_of; no_fault = no_text status ReadFault (λ h. h) x.one_of };
  failed = λ e. record {
    rose = x.cause e;
    input = [];
    text = text;
    read = refl;
    written = x.part e;
    due = inr (refl, record { done = refl; silent = refl });
  };
}

pub sum_answers : (seed frames : ℕ) (status : Status) (source : SeenSource) (sink : SeenSink) (drive : SeenDrive) → Sums seed frames status sink drive
    → CommandAnswers (stress_command seed frames) status source sink drive
sum_answers seed frames status source sink drive x = record {
  known = no_run status Usage (λ h. h) x.one_of;
  ended = λ h. let all = x.ended h in record { input = []; text = all.text; read = refl; written = all.written; due = all.due };
  refused = λ e. absurd (no_run status Refused (λ h. h) x.one_of e);
  unread = record { not_long = no_run status TooLong (λ h. h) x.one_of; no_fault = no_run status ReadFault (λ h. h) x.one_of };
  failed = λ e. let part = x.part e in record {
    rose = x.cause e;
    input = [];
    text = part.text;
    read = refl;
    written = part.written;
    due = inr part.due;
  };
}

pub log_answers : (accepted : Accepted) (node : NodeName) (status : Status) (source : SeenSource) (sink : SeenSink) (is_plain : Bool) (told : Option (List Turn)) → IsNodeOf accepted.plan.sizes node → ReadsScenario source accepted
    → Logs accepted node status sink
    → CommandAnswers (record_command node) status source sink (drive_of is_plain told told)
log_answers accepted node status source sink is_plain told there r x =
    let says : IsTextOf r.input (as_scenario accepted) = record { accepted = accepted; is = r.is; shows = refl } in
    record {
      known = no_run status Usage (λ h. h) x.one_of;
      ended = λ h. let all = x.ended h in record {
        input = r.input;
        text = log_text (as_scenario accepted) node all.written.events;
        read = r.read;
        written = all.written.text;
        due = record {
          log = record { scenario = as_scenario accepted; events = all.written.events; says = says; lawful = r.lawful; listed = r.listed; there = there; given = all.written.given; text_is = refl };
          ends = all.ends;
          silent = refl;
        };
      };
      refused = λ e. absurd (no_run status Refused (λ h. h) x.one_of e);
      unread = record {
        too_long = λ e. absurd (no_run status TooLong (λ h. h) x.one_of e);
        short_enough = λ e. r.short_enough;
        fault = λ e. absurd (no_run status ReadFault (λ h. h) x.one_of e);
      };
      failed = λ e. let part = x.part e in record {
        rose = x.cause e;
        input = r.input;
        text = log_text (as_scenario accepted) node part.events;
        read = r.read;
        written = part.text;
        due = inr (record { scenario = as_scenario accepted; events = part.events; says = says; lawful = r.lawful; listed = r.listed; there = there; given = part.given; text_is = refl }, refl);
      };
    }

pub lacks_node : (accepted : Accepted) (node : NodeName) → ¬ IsNodeOf accepted.plan.sizes node → (input : List ℕ) → IsTextOf input (as_scenario accepted)
    → (record_command node).is_refused input (rule_text NoSuchNode)
lacks_node accepted node none input says =
    let lacks : LacksNode node input (rule_text NoSuchNode) = record { scenario = as_scenario accepted; says = says; none = none; line_is = refl } in
    inr lacks

pub lacks_member : (accepted : Accepted) (which : Which) (members : ℕ) → ¬ AreMembers accepted.plan.sizes members → (input : List ℕ)
    → IsTextOf input (as_scenario accepted) → (group_command which members).is_refused input member_text
lacks_member accepted which members none input says =
    let lacks : LacksMember members input member_text = record { scenario = as_scenario accepted; says = says; none = none; line_is = refl } in
    inr lacks

other_than : (status a b s : Status) → ¬ (a ≡ s) → ¬ (b ≡ s) → (status ≡ a) ⊎ (status ≡ b) → ¬ (status ≡ s)
other_than status a b s not_a not_b (inl e) is = not_a (sym e ∙ is)
other_than status a b s not_a not_b (inr e) is = not_b (sym e ∙ is)

pub neither_ends : (status : Status) → (status ≡ Refused) ⊎ (status ≡ WriteFault) → ¬ HasEnded status
neither_ends status (inl e) h = let P : Status → Type 0 = λ s. HasEnded s in subst P e h
neither_ends status (inr e) h = let P : Status → Type 0 = λ s. HasEnded s in subst P e h

pub neither_is_silent : (status : Status) → (status ≡ Refused) ⊎ (status ≡ WriteFault) → ¬ WritesNothing status
neither_is_silent status (inl e) h = let P : Status → Type 0 = λ s. WritesNothing s in subst P e h
neither_is_silent status (inr e) h = let P : Status → Type 0 = λ s. WritesNothing s in subst P e h

pub lack_answers : (command : Command) (accepted : Accepted) (line : List ℕ) (status : Status) (source : SeenSource) (sink : SeenSink) (is_plain : Bool) (told : Option (List Turn)) → ReadsAScenario command
    → ((input : List ℕ) → IsTextOf input (as_scenario accepted) → command.is_refused input line) → ReadsScenario source accepted
    → RefusesWith line status sink
    → CommandAnswers command status source sink (drive_of is_plain told told)
lack_answers command accepted line status source sink is_plain told f lacks r x =
    let says : IsTextOf r.input (as_scenario accepted) = record { accepted = accepted; is = r.is; shows = refl } in
    record {
      known = other_than status Refused WriteFault Usage (λ e. cc) (λ e. cc) x.either;
      ended = λ h. absurd (neither_ends status x.either h);
      refused = λ e. record { input = r.input; line = line; read = f.read source r.input r.read; refused = lacks r.input says; written = x.refused e };
      unread = f.unread status source (record {
        too_long = λ e. absurd (other_than status Refused WriteFault TooLong (λ d. cc) (λ d. cc) x.either e);
        short_enough = λ e. r.short_enough;
        fault = λ e. absurd (other_than status Refused WriteFault ReadFault (λ d. cc) (λ d. cc) x.either e);
      });
      failed = λ e. record {
        rose = x.cause e;
        input = r.input;
        text = line;
        read = f.read source r.input r.read;
        written = x.part e;
        due = inl (record { refused = lacks r.input says; silent = refl });
      };
    }

no_log : (status : Status) (s : Status) → (IsOfLog s → ⊥) → IsOfLog status → ¬ (status ≡ s)
no_log status s never one_of e = let P : Status → Type 0 = λ x. IsOfLog x in never (subst P e one_of)

only_told : (status : Status) → IsOfLog status → HasEnded status → status ≡ Done
only_told Done one_of h = refl
only_told Breach one_of h = absurd one_of
only_told Usage one_of h = absurd h
only_told Refused one_of h = absurd h
only_told TooLong one_of h = absurd h
only_told ReadFault one_of h = absurd h
only_told WriteFault one_of h = absurd h
only_told OutOfMemory one_of h = absurd h

pub logs_write : (status : Status) → IsOfLog status → ¬ WritesNothing status
logs_write Done one_of h = h
logs_write Breach one_of h = h
logs_write Usage one_of h = one_of
logs_write Refused one_of h = h
logs_write TooLong one_of h = one_of
logs_write ReadFault one_of h = one_of
logs_write WriteFault one_of h = h
logs_write OutOfMemory one_of h = one_of

due_of_either : (limit : ℕ) (IsText IsLine : List ℕ → List ℕ → Type 0) (bytes text : List ℕ) (is_plain : Bool) (told : Option (List Turn)) → Either IsLine IsText bytes text
    → IsRefusedAlone (alone_command limit IsText IsLine) bytes (drive_of is_plain told told) text ⊎ (alone_command limit IsText IsLine).is_due_so_far bytes (drive_of is_plain told told) text
due_of_either limit IsText IsLine bytes text is_plain told (inl line) = inl (record { refused = line; silent = refl })
due_of_either limit IsText IsLine bytes text is_plain told (inr due) = inr (due, record { done = refl; silent = refl })

pub alone_answers : (limit : ℕ) (IsText IsLine : List ℕ → List ℕ → Type 0) (bytes : List ℕ) (status : Status) (source : SeenSource)
    (sink : SeenSink) (is_plain : Bool) (told : Option (List Turn)) → ReadsToEnd source.left source.left' bytes → Gave source.left source.left' (λ n. n ≤ limit)
    → TellsOfLog IsText IsLine bytes status sink
    → CommandAnswers (alone_command limit IsText IsLine) status source sink (drive_of is_plain told told)
alone_answers limit IsText IsLine bytes status source sink is_plain told read short x = record {
  known = no_log status Usage (λ h. h) x.one_of;
  ended = λ h. let done = only_told status x.one_of h in let all = x.done done in
      record { input = bytes; text = all.text; read = read; written = all.written; due = (all.due, record { done = done; silent = refl }) };
  refused = λ e. let r = x.refused e in record { input = bytes; line = r.text; read = read; refused = r.due; written = r.written };
  unread = record {
    too_long = λ e. absurd (no_log status TooLong (λ h. h) x.one_of e);
    short_enough = λ e. short;
    fault = λ e. absurd (no_log status ReadFault (λ h. h) x.one_of e);
  };
  failed = λ e. let part = x.part e in record {
    rose = x.cause e;
    input = bytes;
    text = part.text;
    read = read;
    due = due_of_either limit IsText IsLine bytes part.text is_plain told part.due;
    written = part.written;
  };
}

unread_is_no_end : (status : Status) → IsNotRead status → ¬ HasEnded status
unread_is_no_end Done one_of h = one_of
unread_is_no_end Breach one_of h = one_of
unread_is_no_end Usage one_of h = one_of
unread_is_no_end Refused one_of h = one_of
unread_is_no_end TooLong one_of h = h
unread_is_no_end ReadFault one_of h = h
unread_is_no_end WriteFault one_of h = one_of
unread_is_no_end OutOfMemory one_of h = h

pub unread_answers : (command : Command) (status : Status) (source : SeenSource) (sink : SeenSink) (is_plain : Bool)
    (told : Option (List Turn)) → IsNotRead status → IsUnreadBy command.limit status source
    → CommandAnswers command status source sink (drive_of is_plain told told)
unread_answers command status source sink is_plain told one_of unread = record {
  known = λ e. let P : Status → Type 0 = λ s. IsNotRead s in subst P e one_of;
  ended = λ h. absurd (unread_is_no_end status one_of h);
  refused = λ e. let P : Status → Type 0 = λ s. IsNotRead s in absurd (subst P e one_of);
  unread = unread;
  failed = λ e. let P : Status → Type 0 = λ s. IsNotRead s in absurd (subst P e one_of);
}
