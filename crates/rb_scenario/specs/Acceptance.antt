-- Which documents are accepted, and why one is refused: by the first rule that is broken anywhere.
use Rattle.std.specs.Prelude.{ℕ, ◌≡◌, ◌⊎◌, Bool, true, false, not, List, Option, Some, None, length, IsUtf8, ⊤}
use Rattle.toml.specs.{Data.Members, Parse.parse_document}
use Rattle.rb_rules.specs.{Entries.listed, Goodness.{Scenario, clock_among}, Plan.first_failing}
use Rattle.rb_scenario_document.specs.Forms.{has_unknown_key, has_wrong_form, lacks_key}
use Rattle.rb_scenario_entries.specs.{declared.refusal.Refusal.Refusal, declared.refusal.Refusal.TheVariants.{NotToml, MissingKey, UnknownKey, WrongType, OutOfRange, PlanFails, ClockBounds, DelayBounds, StartApart, SayOfGood, TooMany, NoSuchNode, OutOfMemory}}
use Rattle.rb_scenario.specs.{declared.scenario.Scenario.Scenario as Accepted, Reading.{is_in_range, scenario_of}, Rules.{are_delays, are_few, are_sayers_faulty, keep_time, start_together}}

-- a rule that is kept leaves it to the next ones
abbrev pub or_else : Bool → Refusal → Option Refusal → Option Refusal
or_else true refusal next = next
or_else false refusal next = Some refusal

abbrev pub plan_rule : Option ℕ → Option Refusal → Option Refusal
plan_rule None next = next
plan_rule (Some n) next = Some (PlanFails n)

-- the first rule on a scenario that is broken
unfoldable pub broken_by : Scenario → Option Refusal
broken_by sc =
    plan_rule (first_failing sc.sizes sc.plan)
    (or_else (keep_time sc.plan sc.clocks) ClockBounds
    (or_else (are_delays sc.plan sc.delays) DelayBounds
    (or_else (start_together sc.plan.p sc.clocks) StartApart
    (or_else (are_sayers_faulty sc) SayOfGood
    (or_else (are_few (length sc.says) (length sc.delays.rules) sc.clocks) TooMany
    None)))))

-- the first rule that a document breaks
unfoldable pub first_broken : Members → Option Refusal
first_broken t =
    or_else (not (lacks_key t)) MissingKey
    (or_else (not (has_unknown_key t)) UnknownKey
    (or_else (not (has_wrong_form t)) WrongType
    (or_else (is_in_range t) OutOfRange
    (broken_by (scenario_of t)))))

-- the scenario is refused: because memory ran out, or by the first rule that it breaks
abbrev pub IsBrokenBy : Scenario → Refusal → Type 0
IsBrokenBy sc why = (why ≡ OutOfMemory) ⊎ (broken_by sc ≡ Some why)

-- the bytes are the text of the document
abbrev pub IsDocument : List ℕ → Members → Type 0
IsDocument bytes t = IsUtf8 bytes × (parse_document bytes ≡ Some t)

-- the scenario that an accepted one shows
abbrev pub as_scenario : Accepted → Scenario
as_scenario a = record {
  sizes = a.plan.sizes;
  plan = a.plan.plan;
  frames = a.frames;
  requests = a.requests;
  words = a.words;
  apps = a.apps;
  clocks = a.clocks;
  delays = a.delays;
  biu_onsets = a.biu_onset;
  rmu_onsets = a.rmu_onset;
  behavior = listed a.plan.plan.version (clock_among a.plan.sizes a.clocks) a.says;
  says = a.says;
}

-- the document breaks no rule, and it says the scenario
pub record Says (document : Members) (a : Accepted) : Type 0 where
  pub unbroken : first_broken document ≡ None
  pub scenario : as_scenario a ≡ scenario_of document

-- the bytes are the text of a document that says the scenario
pub record IsAccepted (bytes : List ℕ) (a : Accepted) : Type 0 where
  pub document : Members
  pub text : IsDocument bytes document
  pub says : Says document a

-- the bytes are the text of a document, and this is the first rule that it breaks
pub record IsBroken (bytes : List ℕ) (why : Refusal) : Type 0 where
  pub document : Members
  pub text : IsDocument bytes document
  pub broken : first_broken document ≡ Some why

-- why the bytes are refused. Out of memory may be the answer at any time, and no document is
-- refused for a node that is not there
abbrev pub IsRefused : List ℕ → Refusal → Type 0
IsRefused bytes NotToml = (t : Members) → ¬ IsDocument bytes t
IsRefused bytes OutOfMemory = ⊤
IsRefused bytes NoSuchNode = ⊥
IsRefused bytes why = IsBroken bytes why
