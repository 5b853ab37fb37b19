-- What is written of a log while a run goes on.
use Rattle.std.proofs.{Common.{◌≡◌, ℕ, List, [], ◌++◌, append_assoc, Option, refl, sym, ap, ◌∙◌, subst}, lemmas.List.append-nil}
use Rattle.std.specs.{Prelude.{IfOk, Result, Ok, Err, IsErr, MatchResult, OnErr}, Io.KnownBytes.Appends}
use Rattle.rb_base.specs.{declared.event.Event.Event, declared.node.NodeName.NodeName}
use Rattle.rb_rules.specs.{Entries.IsListed, Goodness.Scenario, Lawful.IsLawful, WorldStep.first_world}
use Rattle.rb_laws_logs.specs.Given.{first_run, given_in}
use Rattle.rb_log.specs.{Header.header_of, Writing.{Tally, written}}
use Rattle.rb_outside.specs.Bytes.{AppendsPart}
use Rattle.rb_outside.proofs.Known.{appends_join, part_join, part_widens}
use Rattle.rb_world.specs.Worlds.{KeptWorld, Stands}
use Rattle.rb_record.specs.Recording.{IsRecorded, IsRecordedInPart, IsRecordedWhole, PassesNext, PassesPartOf, WritesAll, WritesPart, fresh_log, timetable_of}
use Rattle.rb_record.proofs.{Ends.all-given, Passing.{passes-join, passes-none, passes-then-part}}

-- The run.

pub none-recorded : (sc : Scenario) (name : NodeName) (k : KeptWorld) (log : Tally) (waiting : List ℕ) (held : Option (List ℕ)) → k.bus ≡ sc → Stands k (first_world sc)
    → log ≡ fresh_log → waiting ≡ [] → IsRecorded sc name 0 k log waiting held held
none-recorded sc name k log waiting held bus stands fresh none = record {
  bus = bus;
  stands = stands;
  passes =
      subst (λ log. PassesNext fresh_log log [] waiting [] held held) (sym fresh)
      (subst (λ ws. PassesNext fresh_log fresh_log [] ws [] held held) (sym none) (passes-none fresh_log [] held));
}

pub recorded-more : (sc : Scenario) (name : NodeName) (n m : ℕ) (events : List Event) (k after : KeptWorld) (log later : Tally) (w u : List ℕ) (held mid since : Option (List ℕ))
    → IsRecorded sc name n k log w held mid → given_in sc name m ≡ given_in sc name n ++ events → PassesNext log later w u events mid since → after.bus ≡ sc
    → Stands after (first_run sc m) → IsRecorded sc name m after later u held since
recorded-more sc name n m events k after log later w u held mid since is more next bus stands = record {
  bus = bus;
  stands = stands;
  passes =
      subst (λ given. PassesNext fresh_log later [] u given held since) (sym more)
      (passes-join fresh_log log later [] w u (given_in sc name n) events held mid since is.passes next);
}

pub recorded-part : (sc : Scenario) (name : NodeName) (n m : ℕ) (events : List Event) (k : KeptWorld) (log : Tally) (w : List ℕ) (held mid since : Option (List ℕ)) → IsLawful sc → IsListed sc
    → IsRecorded sc name n k log w held mid → given_in sc name m ≡ given_in sc name n ++ events → PassesPartOf log w events mid since → IsRecordedInPart sc name held since
recorded-part sc name n m events k log w held mid since lawful listed is more part =
    let all = all-given sc name m lawful listed in
    let written : PassesPartOf fresh_log [] (given_in sc name m) held since =
    subst (λ given. PassesPartOf fresh_log [] given held since) (sym more)
    (passes-then-part fresh_log log [] w (given_in sc name n) events held mid since is.passes part) in
    record { events = given_in sc name m ++ all.0; given = all.1; text = written all.0 }

-- The log.

-- a write of the header failed
pub header-part : (sc : Scenario) (name : NodeName) (held since : Option (List ℕ)) → IsLawful sc → IsListed sc
    → AppendsPart held since (header_of (timetable_of sc) name) → WritesPart sc name held since
header-part sc name held since lawful listed text =
    let all = all-given sc name 0 lawful listed in
    record { events = all.0; given = all.1; text = part_widens held since (header_of (timetable_of sc) name) (written 0 all.0) text }

pub records-part : (sc : Scenario) (name : NodeName) (held mid since : Option (List ℕ)) → Appends held mid (header_of (timetable_of sc) name)
    → IsRecordedInPart sc name mid since → WritesPart sc name held since
records-part sc name held mid since header part = record {
  events = part.events;
  given = part.given;
  text = part_join held mid since (header_of (timetable_of sc) name) (written 0 part.events) header part.text;
}

-- with the end all of the log is written
end-text : (log : Tally) (events : List Event) (w : List ℕ) (held since : Option (List ℕ)) → (is : PassesNext fresh_log log [] w events held since)
    → is.passed.out ++ (w ++ written log.waiting []) ≡ written 0 events
end-text log events w held since is =
    sym (append_assoc is.passed.out w (written log.waiting [])) ∙ ap (λ zs. zs ++ written log.waiting []) (sym is.passed.split)
    ∙ sym (is.told.text []) ∙ ap (written 0) (append-nil events)

pub end-part : (sc : Scenario) (name : NodeName) (k : KeptWorld) (log : Tally) (w : List ℕ) (held mid later since : Option (List ℕ))
    → Appends held mid (header_of (timetable_of sc) name) → IsRecordedWhole sc name k log w mid later → AppendsPart later since (w ++ written log.waiting [])
    → WritesPart sc name held since
end-part sc name k log w held mid later since header is end =
    let passes = is.recorded.passes in
    records-part sc name held mid since header
    (record {
      events = given_in sc name is.steps;
      given = record { steps = is.steps; over = is.over; all = refl };
      text = subst (AppendsPart mid since) (end-text log (given_in sc name is.steps) w mid later passes)
          (part_join mid later since passes.passed.out (w ++ written log.waiting []) passes.passed.text end);
    })

pub all-written : (sc : Scenario) (name : NodeName) (k : KeptWorld) (log : Tally) (w : List ℕ) (held mid later since : Option (List ℕ))
    → Appends held mid (header_of (timetable_of sc) name) → IsRecordedWhole sc name k log w mid later → Appends later since (w ++ written log.waiting [])
    → WritesAll sc name held since
all-written sc name k log w held mid later since header is end =
    let passes = is.recorded.passes in
    record {
      events = given_in sc name is.steps;
      given = record { steps = is.steps; over = is.over; all = refl };
      text = appends_join held mid since (header_of (timetable_of sc) name) (written 0 (given_in sc name is.steps)) header
          (subst (Appends mid since) (end-text log (given_in sc name is.steps) w mid later passes)
          (appends_join mid later since passes.passed.out (w ++ written log.waiting []) passes.passed.text end));
    }

-- Answers.

-- what holds of what a sink holds is so of the same sink by another name
pub held-as : {K : Type 0} (held : K → Option (List ℕ)) (P : Option (List ℕ) → Type 0) (a b : K) → a ≡ b → P (held b) → P (held a)
held-as held P a b same h = subst (λ k. P (held k)) (sym same) h

pub on-err : {T E : Type 0} {Q : Type 0} (r : Result T E) → Q → OnErr r Q
on-err (Ok x) q = tt
on-err (Err e) q = q

pub err-map : {T E : Type 0} {P Q : Type 0} (r : Result T E) → (P → Q) → OnErr r P → OnErr r Q
err-map (Ok x) f p = tt
err-map (Err e) f p = f p

pub if-err : {T E : Type 0} (P : T → Type 0) (r : Result T E) → IsErr r → IfOk r P
if-err P (Ok x) is = absurd (cc)
if-err P (Err e) is = tt

pub match-err : {T E : Type 0} (P : T → Type 0) {Q : Type 0} (r : Result T E) → IsErr r → Q → MatchResult r P (λ _. Q)
match-err P (Ok x) is q = absurd (cc)
match-err P (Err e) is q = q
