-- The answers that must come of a command, from all that is said of an answer.
use Rattle.std.proofs.Common.{◌≡◌, ℕ, ◌<◌, ◌⊎◌, true, false, List, length, Option, Some, None, Result, Ok, Err, arith, inl, inr, refl, subst, sym, ◌∙◌, ap}
use Rattle.rb_base.specs.declared.node.NodeName.{NodeName}
use Rattle.rb_outside.specs.Bytes.{Gave, ReadsToEnd}
use Rattle.rb_outside.proofs.Known.{gave_within, read_bytes}
use Rattle.rb_rules.specs.{Goodness.Scenario, Lawful.IsNodeOf}
use Rattle.rb_log.specs.LogText.{Log, log_in}
use Rattle.rb_replay.specs.Overhearing.{is_of_biu}
use Rattle.rb_group.specs.declared.voters.Which.{Which}
use Rattle.rb_group_run.specs.Members.{AreMembers}
use Rattle.rb_gen.specs.Generated.{generated}
use Rattle.rb_scenario.specs.{Acceptance.{IsAccepted, IsRefused}, declared.scenario.Scenario.Scenario as Accepted}
use Rattle.rb_scenario.proofs.Documents.{accepted_alike, accepted_is_toml, accepted_is_unbroken}
use Rattle.rb_scenario_entries.specs.declared.refusal.Refusal.{Refusal}
use Rattle.rb_run.specs.{declared.ending.Ending.{Ending}, Seen.{SeenDrive, SeenSink, SeenSource}}
use Rattle.rb_program.specs.{declared.status.Status.Status, declared.status.Status.TheVariants.{Breach, Done, OutOfMemory, ReadFault, Refused, TooLong, Usage, WriteFault}, Statuses.{MayRefuse, status_of}}
use Rattle.rb_top.specs.{declared.form.Form.Form, declared.form.Form.TheVariants.{Check, Gen, Group, Letters, Listen, Record, Replay, Run, Show, Spell, Stress}, Answers.{CommandAnswers, CommandCompletes, CommandEnds, CommandRefuses, IsLeft, NothingFails, command_of}, Commands.{Command, EndsAs, IsNotForListeners, IsOverheard, IsReplay, IsSides, alone_command, check_command, group_command, listen_command, record_command, replay_command, stress_command, telling_command, text_command}, Inputs.{BreaksLog, BreaksRule, HasCode, IsReadBy, IsTextOf, IsUnreadBy}, Texts.Telling}
use Rattle.rb_scenario_entries.specs.declared.refusal.Refusal.TheVariants as rule

-- What excludes what.

-- an accepted input has no refusal with a code
not_refused : (input : List ℕ) (scenario : Accepted) (why : Refusal) → IsAccepted input scenario → HasCode why → ¬ IsRefused input why
not_refused input scenario rule.NotToml accepted coded refused = accepted_is_toml input scenario accepted refused
not_refused input scenario rule.MissingKey accepted coded refused = accepted_is_unbroken input scenario rule.MissingKey accepted refused
not_refused input scenario rule.UnknownKey accepted coded refused = accepted_is_unbroken input scenario rule.UnknownKey accepted refused
not_refused input scenario rule.WrongType accepted coded refused = accepted_is_unbroken input scenario rule.WrongType accepted refused
not_refused input scenario rule.OutOfRange accepted coded refused = accepted_is_unbroken input scenario rule.OutOfRange accepted refused
not_refused input scenario (rule.PlanFails n) accepted coded refused = accepted_is_unbroken input scenario (rule.PlanFails n) accepted refused
not_refused input scenario rule.ClockBounds accepted coded refused = accepted_is_unbroken input scenario rule.ClockBounds accepted refused
not_refused input scenario rule.DelayBounds accepted coded refused = accepted_is_unbroken input scenario rule.DelayBounds accepted refused
not_refused input scenario rule.StartApart accepted coded refused = accepted_is_unbroken input scenario rule.StartApart accepted refused
not_refused input scenario rule.SayOfGood accepted coded refused = accepted_is_unbroken input scenario rule.SayOfGood accepted refused
not_refused input scenario rule.TooMany accepted coded refused = accepted_is_unbroken input scenario rule.TooMany accepted refused
not_refused input scenario rule.NoSuchNode accepted coded refused = refused
not_refused input scenario rule.OutOfMemory accepted coded refused =
    let e : false ≡ true = coded in
    cc

breaks_none : (input line : List ℕ) (sc : Scenario) → IsTextOf input sc → ¬ BreaksRule input line
breaks_none input line sc text breaks = not_refused input text.accepted breaks.rule text.is breaks.coded breaks.broken

-- a text is that of at most one scenario
same_scenario : (input : List ℕ) (a b : Scenario) → IsTextOf input a → IsTextOf input b → a ≡ b
same_scenario input a b is_a is_b = sym is_a.shows ∙ accepted_alike input is_a.accepted is_b.accepted is_a.is is_b.is ∙ is_b.shows

unwrapped : Option Ending → Ending → Ending
unwrapped None default = default
unwrapped (Some e) default = e

-- a run ends in one way
same_end : (sc : Scenario) (a b : Status) → EndsAs sc a → EndsAs sc b → a ≡ b
unfolding unwrapped
same_end sc a b is_a is_b =
    let endings : is_a.ending ≡ is_b.ending = ap (λ o. unwrapped o is_a.ending) (sym is_a.ends ∙ is_b.ends) in
    is_a.is ∙ ap status_of endings ∙ sym is_b.is

ok_or_err : {T E : Type 0} (r : Result T E) (x : T) (e : E) → r ≡ Ok x → r ≡ Err e → ⊥
ok_or_err r x e is_ok is_err = cc

-- a log is not that of a BIU and of an RMU
not_of_both : {E : Type 0} (r : Result Log E) (a b : Log) → r ≡ Ok a → r ≡ Ok b → is_of_biu a.node ≡ true → is_of_biu b.node ≡ false → ⊥
not_of_both r a b is_a is_b biu rmu =
    let same : a ≡ b = cc in
    let both : true ≡ false = sym biu ∙ ap (λ (x : Log). is_of_biu x.node) same ∙ rmu in
    cc

-- Commands that end in one way.

-- an input has at most one end of the command, and none if it is refused
pub record IsSound (command : Command) : Type 0 where
  pub ends_so : (input : List ℕ) (drive : SeenDrive) (status : Status) (text : List ℕ)
      → command.is_due input drive status text → command.is_end input status
  pub one_end : (input : List ℕ) (a b : Status) → command.is_end input a → command.is_end input b → a ≡ b
  pub not_both : (input line : List ℕ) (end : Status) → command.is_end input end → ¬ command.is_refused input line

text_sound : (text : List ℕ) → IsSound (text_command text)
text_sound text = record {
  ends_so = λ input drive status due is. is.1.done;
  one_end = λ input a b is_a is_b. is_a ∙ sym is_b;
  not_both = λ input line end e refused. refused;
}

pub telling_sound : (tells : Telling) → IsSound (telling_command tells)
telling_sound tells = record {
  ends_so = λ input drive status text due. (due.scenario, due.says, due.ends);
  one_end = λ input a b is_a is_b.
      let P : Scenario → Type 0 = λ sc. EndsAs sc a in
      same_end is_b.0 a b (subst P (same_scenario input is_a.0 is_b.0 is_a.1 is_b.1) is_a.2) is_b.2;
  not_both = λ input line end e refused. breaks_none input line e.0 e.1 refused;
}

lacks_none : (which : Which) (members : ℕ) (input line : List ℕ) (end : Status) → (group_command which members).is_end input end
    → ¬ (group_command which members).is_refused input line
lacks_none which members input line end e (inl breaks) = breaks_none input line e.0 e.1 breaks
lacks_none which members input line end e (inr lacks) =
    let P : Scenario → Type 0 = λ sc. AreMembers sc.sizes members in
    lacks.none (subst P (same_scenario input e.0 lacks.scenario e.1 lacks.says) e.2)

pub group_sound : (which : Which) (members : ℕ) → IsSound (group_command which members)
group_sound which members = record {
  ends_so = λ input drive status text due. (due.report.scenario, due.report.says, due.there, due.report.ends);
  one_end = λ input a b is_a is_b.
      let P : Scenario → Type 0 = λ sc. EndsAs sc a in
      same_end is_b.0 a b (subst P (same_scenario input is_a.0 is_b.0 is_a.1 is_b.1) is_a.3) is_b.3;
  not_both = lacks_none which members;
}

stress_sound : (seed frames : ℕ) → IsSound (stress_command seed frames)
stress_sound seed frames = record {
  ends_so = λ input drive status text due. due.ends;
  one_end = λ input a b is_a is_b. same_end (generated seed frames) a b is_a is_b;
  not_both = λ input line end e refused. refused;
}

no_node_none : (node : NodeName) (input line : List ℕ) (end : Status) → (record_command node).is_end input end → ¬ (record_command node).is_refused input line
no_node_none node input line end e (inl breaks) = breaks_none input line e.0 e.1 breaks
no_node_none node input line end e (inr lacks) =
    let P : Scenario → Type 0 = λ sc. IsNodeOf sc.sizes node in
    lacks.none (subst P (same_scenario input e.0 lacks.scenario e.1 lacks.says) e.2)

pub record_sound : (node : NodeName) → IsSound (record_command node)
record_sound node = record {
  ends_so = λ input drive status text due. (due.log.scenario, due.log.says, due.log.there, due.ends);
  one_end = λ input a b is_a is_b.
      let P : Scenario → Type 0 = λ sc. EndsAs sc a in
      same_end is_b.0 a b (subst P (same_scenario input is_a.0 is_b.0 is_a.1 is_b.1) is_a.3) is_b.3;
  not_both = no_node_none node;
}

alone_sound : (limit : ℕ) (IsText IsLine : List ℕ → List ℕ → Type 0) → ((input text line : List ℕ) → IsText input text → ¬ IsLine input line)
    → IsSound (alone_command limit IsText IsLine)
alone_sound limit IsText IsLine apart = record {
  ends_so = λ input drive status text due. (text, due.0, due.1.done);
  one_end = λ input a b is_a is_b. is_a.2 ∙ sym is_b.2;
  not_both = λ input line end e refused. apart input e.0 line e.1 refused;
}

pub check_sound : IsSound check_command
check_sound = alone_sound _ IsSides BreaksRule (λ input text line due breaks. breaks_none input line due.scenario due.says breaks)

pub replay_sound : IsSound replay_command
replay_sound = alone_sound _ IsReplay BreaksLog (λ input text line due breaks. ok_or_err (log_in input) due.log breaks.fault due.spells breaks.spells)

of_no_biu : (skip : ℕ) (input text line : List ℕ) → IsOverheard skip input text → ¬ IsNotForListeners input line
of_no_biu skip input text line due (inl breaks) = ok_or_err (log_in input) due.log breaks.fault due.spells breaks.spells
of_no_biu skip input text line due (inr rmu) = not_of_both (log_in input) due.log rmu.log due.spells rmu.spells due.biu rmu.rmu

pub listen_sound : (skip : ℕ) → IsSound (listen_command skip)
listen_sound skip = alone_sound _ (IsOverheard skip) IsNotForListeners (of_no_biu skip)

pub is_sound : (form : Form) → IsSound (command_of form)
is_sound Run = telling_sound _
is_sound Check = check_sound
is_sound (Gen seed frames) = text_sound _
is_sound (Stress seed frames) = stress_sound seed frames
is_sound (Record node) = record_sound node
is_sound Replay = replay_sound
is_sound (Spell letter) = text_sound _
is_sound Letters = telling_sound _
is_sound (Group which members) = group_sound which members
is_sound (Listen skip) = listen_sound skip
is_sound (Show flag) = text_sound _

-- What is known of an answer.

-- the input that was read is the one that was left
read_is_left : (limit : Option ℕ) (source : SeenSource) (input read : List ℕ) → IsLeft limit source.left input → IsReadBy limit source read → read ≡ input
read_is_left None source input read is r = r ∙ sym is
read_is_left (Some limit) source input read is r =
    let P : Option (List ℕ) → Type 0 = λ l. ReadsToEnd l source.left' read in read_bytes input source.left' read (subst P is r)

-- too long an input is not within the limit
never_long : (limit : Option ℕ) (source : SeenSource) (sink : SeenSink) (input : List ℕ) → IsLeft limit source.left input
    → NothingFails limit input source sink → ¬ IsUnreadBy limit TooLong source
never_long None source sink input is fine unread = unread.not_long refl
never_long (Some limit) source sink input is fine unread =
    let P : Option (List ℕ) → Type 0 = λ l. Gave l source.left' (λ n. limit < n) in
    let long : limit < length input = gave_within input source.left' limit (subst P is (unread.too_long refl)) in
    absurd (omega (arith, long, fine.within))

never_faulty : (limit : Option ℕ) (source : SeenSource) (sink : SeenSink) (input : List ℕ)
    → NothingFails limit input source sink → ¬ IsUnreadBy limit ReadFault source
never_faulty None source sink input fine unread = unread.no_fault refl
never_faulty (Some limit) source sink input fine unread = fine.no_read (unread.fault refl)

-- Completeness.

-- if the command has ended, `is_end` holds for its input and status
has_ended : (command : Command) → IsSound command → (status : Status) (source : SeenSource) (sink : SeenSink) (drive : SeenDrive) (input : List ℕ)
    → IsLeft command.limit source.left input → CommandEnds command status source sink drive → command.is_end input status
has_ended command s status source sink drive input is e =
    let P : List ℕ → Type 0 = λ xs. command.is_end xs status in
    subst P (read_is_left command.limit source input e.input is e.read) (s.ends_so e.input drive status e.text e.due)

-- if the command has refused the input, `is_refused` holds for the input and the line
has_refused : (command : Command) (source : SeenSource) (sink : SeenSink) (input : List ℕ) → IsLeft command.limit source.left input → (r : CommandRefuses command source sink)
    → command.is_refused input r.line
has_refused command source sink input is r =
    let P : List ℕ → Type 0 = λ xs. command.is_refused xs r.line in subst P (read_is_left command.limit source input r.input is r.read) r.refused

ended : (command : Command) → IsSound command → (status : Status) (source : SeenSource) (sink : SeenSink) (drive : SeenDrive) (input : List ℕ) (end : Status) → CommandAnswers command status source sink drive
    → IsLeft command.limit source.left input → command.is_end input end → NothingFails command.limit input source sink → (status ≡ end) ⊎ (status ≡ OutOfMemory)
ended command s Done source sink drive input end x is e fine =
    inl (s.one_end input Done end (has_ended command s Done source sink drive input is (x.ended tt)) e)
ended command s Breach source sink drive input end x is e fine =
    inl (s.one_end input Breach end (has_ended command s Breach source sink drive input is (x.ended tt)) e)
ended command s Usage source sink drive input end x is e fine = absurd (x.known refl)
ended command s Refused source sink drive input end x is e fine =
    absurd (s.not_both input (x.refused refl).line end e (has_refused command source sink input is (x.refused refl)))
ended command s TooLong source sink drive input end x is e fine =
    absurd (never_long command.limit source sink input is fine x.unread)
ended command s ReadFault source sink drive input end x is e fine =
    absurd (never_faulty command.limit source sink input fine x.unread)
ended command s WriteFault source sink drive input end x is e fine = absurd (fine.no_write (x.failed refl).rose)
ended command s OutOfMemory source sink drive input end x is e fine = inr refl

refused : (command : Command) → IsSound command → (status : Status) (source : SeenSource) (sink : SeenSink) (drive : SeenDrive) (input line : List ℕ) → CommandAnswers command status source sink drive
    → IsLeft command.limit source.left input → command.is_refused input line → MayRefuse status
refused command s Done source sink drive input line x is r =
    absurd (s.not_both input line Done (has_ended command s Done source sink drive input is (x.ended tt)) r)
refused command s Breach source sink drive input line x is r =
    absurd (s.not_both input line Breach (has_ended command s Breach source sink drive input is (x.ended tt)) r)
refused command s Usage source sink drive input line x is r = absurd (x.known refl)
refused command s Refused source sink drive input line x is r = tt
refused command s TooLong source sink drive input line x is r = tt
refused command s ReadFault source sink drive input line x is r = tt
refused command s WriteFault source sink drive input line x is r = tt
refused command s OutOfMemory source sink drive input line x is r = tt

refused_at_once : (command : Command) → IsSound command → (status : Status) (source : SeenSource) (sink : SeenSink) (drive : SeenDrive) (input line : List ℕ) → CommandAnswers command status source sink drive
    → IsLeft command.limit source.left input → command.is_refused input line → NothingFails command.limit input source sink
    → (status ≡ Refused) ⊎ (status ≡ OutOfMemory)
refused_at_once command s Done source sink drive input line x is r fine =
    absurd (s.not_both input line Done (has_ended command s Done source sink drive input is (x.ended tt)) r)
refused_at_once command s Breach source sink drive input line x is r fine =
    absurd (s.not_both input line Breach (has_ended command s Breach source sink drive input is (x.ended tt)) r)
refused_at_once command s Usage source sink drive input line x is r fine = absurd (x.known refl)
refused_at_once command s Refused source sink drive input line x is r fine = inl refl
refused_at_once command s TooLong source sink drive input line x is r fine =
    absurd (never_long command.limit source sink input is fine x.unread)
refused_at_once command s ReadFault source sink drive input line x is r fine =
    absurd (never_faulty command.limit source sink input fine x.unread)
refused_at_once command s WriteFault source sink drive input line x is r fine =
    absurd (fine.no_write (x.failed refl).rose)
refused_at_once command s OutOfMemory source sink drive input line x is r fine = inr refl

pub completes : (command : Command) → IsSound command → (status : Status) (source : SeenSource) (sink : SeenSink) (drive : SeenDrive) → CommandAnswers command status source sink drive
    → CommandCompletes command status source sink
completes command s status source sink drive x = record {
  ended = λ input end is e fine. ended command s status source sink drive input end x is e fine;
  refused = λ input line is r. refused command s status source sink drive input line x is r;
  refused_at_once = λ input line is r fine. refused_at_once command s status source sink drive input line x is r fine;
}
