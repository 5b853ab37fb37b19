-- What the calls over a handle promise.
use Rattle.std.specs.{Prelude.{ℕ, ◌≡◌, ◌⊎◌, Option, Some, None, IfErr, IsSomeAnd, List, OnErr, OnOk}, Prelude.{Result, Ok, Err, unwrap_or}}
use Rattle.rb_rules.specs.{Book.Record, WorldStep.frame_in}
use Rattle.rb_scenario.specs.Acceptance.{IsRefused}
use Rattle.rb_scenario_entries.specs.{Codes.{code_of, detail_of}, declared.refusal.Refusal.Refusal, declared.refusal.Refusal.TheVariants.OutOfMemory}
use Rattle.rb_bus.specs.{Buses.{ForItsRun, GivesRecord, Hands, KeepsItsPromise, Opens}, Shown.Shows, declared.bus.Bus.Bus, declared.bus.NotHanded.NotHanded, declared.calls.Opening.Opening, declared.record.HostRecord.HostRecord}
use Rattle.rb_bus.specs.declared.bus.NotHanded.TheVariants as refusal

-- Opening.

-- the answer as plain numbers
abbrev pub opening_of : Result (Unit {0}) Refusal → Opening
opening_of (Ok done) = record { status = 0; code = 0; number = 0 }
opening_of (Err OutOfMemory) = record { status = 7; code = 0; number = 0 }
opening_of (Err why) = record {
  status = 3;
  code = unwrap_or (code_of why) 0;
  number = unwrap_or (detail_of why) 0;
}

-- the handle has the bus of the scenario in the text, or it has none and the answer says why
pub record IsOpened (text : List ℕ) (after : Option Bus) (o : Opening) : Type 0 where
  pub made : Result (Unit {0}) Refusal
  pub is : o ≡ opening_of made
  pub opens : OnOk made (IsSomeAnd after (Opens text))
  pub refused : IfErr made (IsRefused text)
  pub none : OnErr made (after ≡ None)

-- Records.

-- a record is given, and the struct shows it
pub record GivesShown (before after : Bus) (shown : HostRecord) : Type 0 where
  pub given_now : Record
  pub gives : ForItsRun (λ run. GivesRecord run given_now after) before
  pub begins : after.begun ≡ frame_in (Some given_now)
  pub shows : Shows shown given_now

-- at 0 a record is given; at 7 memory has run out, and nothing changes
pub record AnswersNext (before after : Bus) (old shown : HostRecord) (status : ℕ) : Type 0 where
  pub one_of : (status ≡ 0) ⊎ (status ≡ 7)
  pub gives : status ≡ 0 → GivesShown before after shown × KeepsItsPromise after
  pub stays : status ≡ 7 → (after ≡ before) × (shown ≡ old)

-- a bus gives its next record; a handle without a bus answers 10, and nothing changes
abbrev pub NextOf : Option Bus → Option Bus → HostRecord → HostRecord → ℕ → Type 0
NextOf None after old shown status = (after ≡ None) × (shown ≡ old) × (status ≡ 10)
NextOf (Some before) after old shown status =
    IsSomeAnd after (λ b. AnswersNext before b old shown status)

-- Words.

-- the status of an answer
abbrev pub number_of : Result (Unit {0}) NotHanded → ℕ
number_of (Ok done) = 0
number_of (Err refusal.NoFrame) = 14
number_of (Err refusal.NotGood) = 15
number_of (Err refusal.NoTable) = 16

-- the word is handed in, or nothing changes; the status says which, and why
pub record AnswersHand (biu word : ℕ) (before after : Bus) (status : ℕ) : Type 0 where
  pub answer : Result (Unit {0}) NotHanded
  pub is : status ≡ number_of answer
  pub hands : Hands biu word before after answer

-- a bus takes the word or refuses it; a handle without a bus answers 10, and has none after it
abbrev pub HandOf : ℕ → ℕ → Option Bus → Option Bus → ℕ → Type 0
HandOf biu word None after status = (after ≡ None) × (status ≡ 10)
HandOf biu word (Some before) after status =
    IsSomeAnd after (λ b. AnswersHand biu word before b status)
