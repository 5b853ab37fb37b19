-- What a plain drive's run promises.
use Rattle.std.proofs.Common.{◌≡◌, ℕ, true, List, [], refl, sym, ap, ◌∙◌, subst}
use Rattle.std.specs.Io.KnownBytes.{Appends}
use Rattle.rb_gen.specs.Generated.{generated}
use Rattle.rb_base.specs.declared.node.NodeName.{NodeName}
use Rattle.rb_rules.specs.{Goodness.Scenario, Lawful.IsLawful}
use Rattle.rb_laws_groups.proofs.{Alike.groups-agree, Voted.{mid-stays, most-finds}}
use Rattle.rb_laws_groups.specs.Laws.{FindsTheMembers}
use Rattle.rb_laws_letters.proofs.Received.{receive-alike, senders-received}
use Rattle.rb_laws_logs.proofs.Recorded.{a-log-tells-the-report}
use Rattle.rb_laws_promise.proofs.Whole.{kept}
use Rattle.rb_log.specs.LogText.{log_in}
use Rattle.rb_record.specs.Recording.{timetable_of}
use Rattle.rb_outside.specs.Bytes.{ReadsToEnd}
use Rattle.rb_run.proofs.Plain.{plain-records}
use Rattle.rb_run.specs.Seen.{SeenDrive, SeenSink, SeenSource}
use Rattle.rb_program.specs.declared.status.Status.{Status}
use Rattle.rb_top.specs.{declared.form.Form.Form, declared.form.Form.TheVariants.{Check, Gen, Group, Letters, Listen, Record, Replay, Run, Show, Spell, Stress}, Answers.{CommandEnds, Ends}, Commands.{IsLogOf, IsReport, IsSummary, group_command, record_command, telling_command}, Promise.{KeepsItsPromise, KeepsTheGroup, KeepsTheHeadline, KeepsTheLetters, KeepsTheLog, SumsTheHeadline}, Texts.{Telling, summary_with, told_by_group, told_by_letters, told_by_run}}
use Rattle.rb_group.specs.{declared.voters.Which.Which, declared.voters.Which.TheVariants.{Mid, Most}}

-- a drive told all of a run that is lawful
told_headline : (tells : Telling) (status : Status) (source : SeenSource) (sink : SeenSink) (drive : SeenDrive) (input text : List ℕ)
    → drive.is_plain ≡ true → ReadsToEnd source.left source.left' input → IsReport tells input drive status text → Appends sink.held sink.held' text → KeepsTheHeadline tells status source sink
told_headline tells status source sink drive input text plain read due written =
    let P : List ℕ → Type 0 = λ xs. Appends sink.held sink.held' xs in
    record {
      input = input;
      scenario = due.scenario;
      read = read;
      accepted = due.says;
      lawful = due.lawful;
      listed = due.listed;
      written = subst P (due.text_is ∙ ap (λ records. tells due.scenario records) (plain-records due.scenario drive due.turns plain due.given due.all)) written;
      ends = due.ends;
      promise = kept due.scenario [] due.lawful;
    }

-- a command that tells of a run
telling_promised : (tells : Telling) (status : Status) (source : SeenSource) (sink : SeenSink) (drive : SeenDrive) → drive.is_plain ≡ true
    → CommandEnds (telling_command tells) status source sink drive → KeepsTheHeadline tells status source sink
telling_promised tells status source sink drive plain e =
    told_headline tells status source sink drive e.input e.text plain e.read e.due e.written

letters_kept : (status : Status) (source : SeenSource) (sink : SeenSink) → KeepsTheHeadline told_by_letters status source sink → KeepsTheLetters status source sink
letters_kept status source sink r = record {
  report = r;
  alike = receive-alike r.scenario [] r.lawful;
  received = senders-received r.scenario [] r.lawful;
}

group_kept : (which : Which) (members : ℕ) (status : Status) (source : SeenSource) (sink : SeenSink)
    → KeepsTheHeadline (told_by_group which members) status source sink → KeepsTheGroup which members status source sink
group_kept which members status source sink r = record {
  report = r;
  alike = groups-agree r.scenario [] r.lawful which members;
  found = found which r.scenario r.lawful;
}
  where
    found : (which : Which) (sc : Scenario) → IsLawful sc → FindsTheMembers sc [] which members
    found Most sc law = most-finds sc [] law members
    found Mid sc law = mid-stays sc [] law members

group_promised : (which : Which) (members : ℕ) (status : Status) (source : SeenSource) (sink : SeenSink) (drive : SeenDrive) → drive.is_plain ≡ true
    → CommandEnds (group_command which members) status source sink drive → KeepsTheHeadline (told_by_group which members) status source sink
group_promised which members status source sink drive plain e =
    told_headline (told_by_group which members) status source sink drive e.input e.text plain e.read e.due.report e.written

-- the numbers of a generated run
pub summed_headline : (seed frames : ℕ) (status : Status) (sink : SeenSink) (drive : SeenDrive) (text : List ℕ) → drive.is_plain ≡ true
    → IsSummary seed frames drive status text → Appends sink.held sink.held' text → SumsTheHeadline seed frames status sink
summed_headline seed frames status sink drive text plain due written =
    let P : List ℕ → Type 0 = λ xs. Appends sink.held sink.held' xs in
    record {
      ends = due.ends;
      written = subst P
          (due.text_is ∙ ap (λ records. summary_with due.ends.ending records) (plain-records (generated seed frames) drive due.turns plain due.given due.all))
          written;
      promise = kept (generated seed frames) [] due.lawful;
    }

-- the log of a run that is lawful
logged_promise : (node : NodeName) (status : Status) (source : SeenSource) (sink : SeenSink) (drive : SeenDrive)
    → CommandEnds (record_command node) status source sink drive → KeepsTheLog node source sink
logged_promise node status source sink drive e =
    let l : IsLogOf node e.input e.text = e.due.log in record {
      input = e.input;
      scenario = l.scenario;
      log = e.text;
      read = e.read;
      accepted = l.says;
      written = e.written;
      replayed = λ none good.
          let told_again = a-log-tells-the-report l.scenario l.lawful l.listed none node good l.events l.given (timetable_of l.scenario) refl refl in
          record { log = told_again.0; spells = ap log_in l.text_is ∙ told_again.1.0; text_is = sym told_again.1.1 };
      promise = kept l.scenario [] l.lawful;
    }

pub promised : (form : Form) (status : Status) (source : SeenSource) (sink : SeenSink) (drive : SeenDrive) → drive.is_plain ≡ true
    → Ends form status source sink drive → KeepsItsPromise form status source sink
promised Run status source sink drive plain e = telling_promised told_by_run status source sink drive plain e
promised Check status source sink drive plain e = tt
promised (Gen seed frames) status source sink drive plain e = tt
promised (Stress seed frames) status source sink drive plain e =
    summed_headline seed frames status sink drive e.text plain e.due e.written
promised (Record node) status source sink drive plain e = logged_promise node status source sink drive e
promised Replay status source sink drive plain e = tt
promised (Spell letter) status source sink drive plain e = tt
promised Letters status source sink drive plain e =
    letters_kept status source sink (telling_promised told_by_letters status source sink drive plain e)
promised (Group which members) status source sink drive plain e =
    group_kept which members status source sink (group_promised which members status source sink drive plain e)
promised (Listen skip) status source sink drive plain e = tt
promised (Show flag) status source sink drive plain e = tt
