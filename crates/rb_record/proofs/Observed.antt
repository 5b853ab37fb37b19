-- Who writes the log writes what a run tells, one after another, up to the next record.
use Rattle.std.proofs.Common.{◌≡◌, ◌⊎◌, inl, inr, ℕ, suc, ◌+◌, ◌≤◌, List, [], ◌∷◌, ◌++◌, Option, Some, None, refl, sym, ap, ◌∙◌, subst, arith}
use Rattle.std.specs.Prelude.{Result, Ok, Err, IsErr, IsOk, MatchResult, OnErr}
use Rattle.rb_base.specs.{declared.event.Event.Event, declared.node.NodeName.NodeName}
use Rattle.rb_rules.specs.{Entries.IsListed, Goodness.Scenario, Lawful.IsLawful, WorldStep.{World, first_world}}
use Rattle.rb_world_book.specs.{Records.record_of, declared.turn.Turn.Turn}
use Rattle.rb_laws_logs.specs.Given.{first_run, given_in}
use Rattle.rb_log.specs.{Laws.ticks_in, Writing.{Tally, ticks_given}}
use Rattle.rb_outside.specs.{Bytes.AppendsPart, Causes.{HasCause, Rose}}
use Rattle.rb_run.specs.{Runs.{EndsWith, end_at}, declared.ending.Ending.Ending}
use Rattle.rb_laws_sweeps.specs.Told.{Told}
use Rattle.rb_world.specs.{Nexts.Standing, Observing.{TellsToNext, WasTold, told_to}, Worlds.{KeptWorld, Stands}}
use Rattle.rb_record.specs.{declared.recorder.Recorder.Recorder, Buffering.PassesOn, Observing.{Records, RecordsNext, Settles, all_of_log, of_log}, Recording.{IsRecorded, IsRecordedInPart, IsRecordedSoFar, IsRecordedWhole, MayTell, PassesNext, PassesPartOf, fresh_log}}
use Rattle.rb_record.proofs.{Ends.first-going, Finish.{ends-so, turn-ends, turn-goes}, Passing.{part-settled, part-then-none, passes-join, passes-none, passes-settled, passes-then-part}, Runs.after-first, ToldGiven.{given-told, may-tell-more, standing, told_more}, Writing.{match-err, none-recorded, recorded-more, recorded-part}}

-- Events of which the writer may be told.

may-first : (ticks : ℕ) (xs ys : List Event) → MayTell ticks (xs ++ ys) → MayTell ticks xs
may-first ticks [] ys may = tt
may-first ticks (x ∷ xs) ys may = (may.0, may-first (ticks + ticks_given x) xs ys may.1)

may-rest : (ticks : ℕ) (xs ys : List Event) → MayTell ticks (xs ++ ys) → MayTell (ticks + ticks_in xs) ys
may-rest ticks [] ys may = let same : ticks ≡ ticks + 0 = omega arith in subst (λ n. MayTell n ys) same may
may-rest ticks (x ∷ xs) ys may =
    let same : (ticks + ticks_given x) + ticks_in xs ≡ ticks + (ticks_given x + ticks_in xs) = omega arith in
    subst (λ n. MayTell n ys) same (may-rest (ticks + ticks_given x) xs ys may.1)

-- Answers.

ok-or-err : {T E : Type 0} (r : Result T E) → IsOk r ⊎ IsErr r
ok-or-err (Ok x) = inl (refl)
ok-or-err (Err e) = inr (refl)

ok-of : {T E : Type 0} (P Q : Type 0) (r : Result T E) → IsOk r → MatchResult r (λ _. P) (λ _. Q) → P
ok-of P Q (Ok x) is p = p
ok-of P Q (Err e) is p = absurd (cc)

err-of : {T E : Type 0} (P Q : Type 0) (r : Result T E) → IsErr r → MatchResult r (λ _. P) (λ _. Q) → Q
err-of P Q (Ok x) is q = absurd (cc)
err-of P Q (Err e) is q = q

match-ok : {T E : Type 0} (P Q : Type 0) (r : Result T E) → IsOk r → P → MatchResult r (λ _. P) (λ _. Q)
match-ok P Q (Ok x) is p = p
match-ok P Q (Err e) is p = absurd (cc)

match-map : {T E : Type 0} (A B C D : Type 0) (r : Result T E) → MatchResult r (λ _. A) (λ _. B) → (A → C) → (B → D) → MatchResult r (λ _. C) (λ _. D)
match-map A B C D (Ok x) h f g = f h
match-map A B C D (Err e) h f g = g h

pub is-err : {T E : Type 0} (r : Result T E) (e : E) → Err e ≡ r → IsErr r
is-err (Ok x) e is = absurd (cc)
is-err (Err f) e is = refl

pub is-ok : {T E : Type 0} (r : Result T E) (x : T) → Ok x ≡ r → IsOk r
is-ok (Ok y) x is = refl
is-ok (Err f) x is = absurd (cc)

-- Causes.

cause-join : {T E : Type 0} (a b c : ℕ) (r : Result T E) → a ≤ b → HasCause b c r → HasCause a c r
cause-join {T} {E} a b c r le is = record { later = let later = is.later in omega (arith, le, later); rose = by r is.rose }
  where
    by : (r : Result T E) → OnErr r (Rose b c) → OnErr r (Rose a c)
    by (Ok x) h = tt
    by (Err e) h = omega (arith, le, h)

cause-none : {T E : Type 0} (a : ℕ) (r : Result T E) → IsOk r → HasCause a a r
cause-none a (Ok x) is = record { later = omega arith; rose = tt }
cause-none a (Err e) is = absurd (cc)

pub cause-err : {T U E : Type 0} (a b c : ℕ) (r : Result T E) (s : Result U E) → a ≤ b → IsErr r → HasCause b c r → HasCause a c s
cause-err {T} {U} {E} a b c r s le err is = by s (rose r err (cause-join a b c r le is).rose)
  where
    rose : (r : Result T E) → IsErr r → OnErr r (Rose a c) → Rose a c
    rose (Ok x) err h = absurd (cc)
    rose (Err e) err h = h

    by : (s : Result U E) → Rose a c → HasCause a c s
    by (Ok x) rose = record { later = (cause-join a b c r le is).later; rose = tt }
    by (Err e) rose = record { later = (cause-join a b c r le is).later; rose = rose }

-- `HasCause` holds for a result that is no failure
pub cause-ok : {T U E : Type 0} (a b c : ℕ) (r : Result T E) (x : U) → a ≤ b → HasCause b c r → HasCause {E = E} a c (Ok x)
cause-ok a b c r x le is = record { later = (cause-join a b c r le is).later; rose = tt }

module _ {K : Type 0} (held : K → Option (List ℕ)) (faults : K → ℕ) where
  -- the events were passed on, or a write failed
  abbrev Passes : Recorder K → Recorder K → List Event → Type 0
  Passes x y events = PassesNext x.log y.log x.waiting y.waiting events (held x.output.now) (held y.output.now)

  abbrev PassesPart : Recorder K → Recorder K → List Event → Type 0
  PassesPart x y events = PassesPartOf x.log x.waiting events (held x.output.now) (held y.output.now)

  records-none : (a : Recorder K) → Records held faults a [] a
  records-none a = record {
    same_output = refl;
    frames = refl;
    failed = λ err. refl;
    cause = λ ok. cause-none (faults a.output.now) a.written ok;
    next = λ ok may. match-ok (Passes a a []) (PassesPart a a []) a.written ok (passes-none a.log a.waiting (held a.output.now));
  }

  -- if some events were recorded and then others, both were
  records-join : (a b c : Recorder K) (xs ys : List Event) → Records held faults a xs b → Records held faults b ys c → Records held faults a (xs ++ ys) c
  records-join a b c xs ys first second = record {
    same_output = second.same_output ∙ first.same_output;
    frames = second.frames ∙ first.frames;
    failed = λ err. let same : b ≡ a = first.failed err in second.failed (subst (λ (x : Recorder K). IsErr x.written) (sym same) err) ∙ same;
    cause = λ ok. elim (ok-or-err b.written) [
      | inl well ↦ cause-join (faults a.output.now) (faults b.output.now) (faults c.output.now) c.written (first.cause ok).later (second.cause well)
      | inr err ↦ subst (λ (x : Recorder K). HasCause (faults a.output.now) (faults x.output.now) x.written) (sym (second.failed err)) (first.cause ok)
    ];
    next = λ ok may. elim (ok-or-err b.written) [
      | inl well ↦ went ok may well
      | inr err ↦ stopped ok may err
    ];
  }
    where
      PassesOr : Recorder K → Type 0
      PassesOr x = MatchResult x.written (λ _. Passes a x (xs ++ ys)) (λ _. PassesPart a x (xs ++ ys))

      went : IsOk a.written → MayTell a.log.ticks (xs ++ ys) → IsOk b.written → PassesOr c
      went ok may well =
          let before : Passes a b xs = ok-of (Passes a b xs) (PassesPart a b xs) b.written well (first.next ok (may-first a.log.ticks xs ys may)) in
          let rest : MayTell b.log.ticks ys = subst (λ n. MayTell n ys) (sym before.told.ticks) (may-rest a.log.ticks xs ys may) in
          match-map (Passes b c ys) (PassesPart b c ys) (Passes a c (xs ++ ys)) (PassesPart a c (xs ++ ys)) c.written (second.next well rest)
          (λ all. passes-join a.log b.log c.log a.waiting b.waiting c.waiting xs ys (held a.output.now) (held b.output.now) (held c.output.now) before all)
          (λ part. passes-then-part a.log b.log a.waiting b.waiting xs ys (held a.output.now) (held b.output.now) (held c.output.now) before part)

      stopped : IsOk a.written → MayTell a.log.ticks (xs ++ ys) → IsErr b.written → PassesOr c
      stopped ok may err =
          subst PassesOr (sym (second.failed err))
          (match-err _ b.written err
          (part-then-none a.log a.waiting xs ys (held a.output.now) (held b.output.now) (err-of (Passes a b xs) (PassesPart a b xs) b.written err (first.next ok (may-first a.log.ticks xs ys may)))))

  -- all that was told is recorded
  all-told : (a b : Recorder K) (ts : List Told) → WasTold (Recorder K) (RecordsNext held faults) a ts b → Records held faults a (all_of_log a.frames ts) b
  all-told a b [] same = subst (Records held faults a []) (sym same) (records-none a)
  all-told a b (t ∷ ts) was =
      records-join a was.0 b (of_log a.frames t) (all_of_log a.frames ts) was.1.0
      (subst (λ n. Records held faults was.0 (all_of_log n ts) b) was.1.0.frames (all-told was.0 b ts was.1.1))

  -- The recorder was told these events, and then some of what waited was written, or a write failed
  record TakesDown (a c : Recorder K) (events : List Event) : Type 0 where
    frames : c.frames ≡ a.frames
    same_output : c.output.ghost_name ≡ a.output.ghost_name
    cause : HasCause (faults a.output.now) (faults c.output.now) c.written
    next : MatchResult c.written (λ _. Passes a c events) (λ _. PassesPart a c events)

  takes-down : (a b c : Recorder K) (events : List Event) → IsOk a.written → MayTell a.log.ticks events → Records held faults a events b → Settles held faults b c
      → TakesDown a c events
  takes-down a b c events ok may records settles = record {
    frames = settles.frames ∙ records.frames;
    same_output = settles.same_output ∙ records.same_output;
    cause = elim (ok-or-err b.written) [
      | inl well ↦ cause-join (faults a.output.now) (faults b.output.now) (faults c.output.now) c.written (records.cause ok).later (settles.cause well)
      | inr err ↦ subst (λ (x : Recorder K). HasCause (faults a.output.now) (faults x.output.now) x.written) (sym (settles.failed err)) (records.cause ok)
    ];
    next = elim (ok-or-err b.written) [
      | inl well ↦ went well
      | inr err ↦ stopped err
    ];
  }
    where
      Out : Type 0
      Out = PassesOn b.waiting c.waiting [] (held b.output.now) (held c.output.now)

      Cut : Type 0
      Cut = AppendsPart (held b.output.now) (held c.output.now) b.waiting

      PassesOr : Recorder K → Type 0
      PassesOr x = MatchResult x.written (λ _. Passes a x events) (λ _. PassesPart a x events)

      went : IsOk b.written → PassesOr c
      went well =
          let told : Passes a b events = ok-of (Passes a b events) (PassesPart a b events) b.written well (records.next ok may) in
          match-map Out Cut (Passes a c events) (PassesPart a c events) c.written (settles.next well)
          (λ out. subst (λ log. PassesNext a.log log a.waiting c.waiting events (held a.output.now) (held c.output.now)) (sym settles.log)
          (passes-settled a.log b.log a.waiting b.waiting c.waiting events (held a.output.now) (held b.output.now) (held c.output.now) told out))
          (λ cut. part-settled a.log b.log a.waiting b.waiting events (held a.output.now) (held b.output.now) (held c.output.now) told cut)

      stopped : IsErr b.written → PassesOr c
      stopped err =
          subst PassesOr (sym (settles.failed err))
          (match-err _ b.written err (err-of (Passes a b events) (PassesPart a b events) b.written err (records.next ok may)))

  -- The run has come to its next record, which is that of this turn, and all of the log was written
  -- that is complete up to there, or a first part of the log if a write failed
  pub record ComesToNext (sc : Scenario) (name : NodeName) (records : ℕ) (a c : Recorder K) (after : KeptWorld) (turn : Turn) (start : Option (List ℕ)) : Type 0 where
    pub steps : ℕ
    pub many : records + 1 ≤ steps
    pub turn_is : (first_run sc steps).turn ≡ record_of turn
    pub lawful : IsLawful sc
    pub frames : c.frames ≡ sc.frames
    pub same_output : c.output.ghost_name ≡ a.output.ghost_name
    pub cause : HasCause (faults a.output.now) (faults c.output.now) c.written
    pub written : MatchResult c.written (λ _. IsRecorded sc name steps after c.log c.waiting start (held c.output.now)) (λ _. IsRecordedInPart sc name start (held c.output.now))

  comes : (name : NodeName) (records : ℕ) (a b c : Recorder K) (k after : KeptWorld) (turn : Turn) (start : Option (List ℕ))
      → (is : IsRecordedSoFar k.bus name records k a.log a.waiting start (held a.output.now)) → a.frames ≡ k.bus.frames → IsOk a.written
      → after.bus ≡ k.bus → TellsToNext (Recorder K) (RecordsNext held faults) name a b k after turn (first_run k.bus is.steps) → Settles held faults b c
      → ComesToNext k.bus name records a c after turn start
  comes name records a b c k after turn start is frames ok bus tells settles =
      let sc : Scenario = k.bus in
      let n : ℕ = is.steps in
      let more : ℕ = suc tells.goes.is.others in
      let draws : ℕ = k.seeding.draws.state in
      let events : List Event = told_more sc name n more draws in
      let lawful : IsLawful sc = is.recorded.stands.lawful in
      let listed : IsListed sc = is.recorded.stands.listed in
      let next : tells.goes.next ≡ first_run sc (n + more) = ap (λ (s : Standing). s.world) tells.goes.is.is ∙ after-first sc n more draws in
      let told : Records held faults a events b =
      subst (λ frames. Records held faults a (all_of_log frames (told_to sc name more (standing sc n draws))) b) frames (all-told a b (told_to sc name more (standing sc n draws)) tells.told) in
      let stands : Stands after (first_run sc (n + more)) = subst (Stands after) next tells.goes.gives.stands in
      let many = is.many in
      let ticks : a.log.ticks ≡ ticks_in (given_in sc name n) = (let sum = is.recorded.passes.told.ticks in omega (arith, sum)) in
      let down : TakesDown a c events = takes-down a b c events ok (may-tell-more sc name n more draws a.log.ticks lawful listed ticks) told settles in
      record {
        steps = n + more;
        many = omega (arith, many);
        turn_is = ap (λ (w : World). w.turn) (sym next) ∙ tells.goes.gives.turn_is;
        lawful = lawful;
        frames = down.frames ∙ frames;
        same_output = down.same_output;
        cause = down.cause;
        written = match-map (Passes a c events) (PassesPart a c events) (IsRecorded sc name (n + more) after c.log c.waiting start (held c.output.now)) (IsRecordedInPart sc name start (held c.output.now)) c.written
            down.next
            (λ next. recorded-more sc name n (n + more) events k after a.log c.log a.waiting c.waiting start (held a.output.now) (held c.output.now) is.recorded (given-told sc name n more draws) next bus stands)
            (λ part. recorded-part sc name n (n + more) events k a.log a.waiting start (held a.output.now) (held c.output.now) lawful listed is.recorded (given-told sc name n more draws) part);
      }

  pub comes-to-next : (sc : Scenario) (name : NodeName) (records : ℕ) (a b c : Recorder K) (k after : KeptWorld) (turn : Turn) (start : Option (List ℕ)) → k.bus ≡ sc
      → IsRecordedSoFar sc name records k a.log a.waiting start (held a.output.now) → a.frames ≡ sc.frames → IsOk a.written
      → after.bus ≡ k.bus → ((w : World) → Stands k w → TellsToNext (Recorder K) (RecordsNext held faults) name a b k after turn w) → Settles held faults b c
      → ComesToNext sc name records a c after turn start
  comes-to-next sc name records a b c k after turn start same is frames ok bus tells settles =
      subst (λ sc. IsRecordedSoFar sc name records k a.log a.waiting start (held a.output.now) → a.frames ≡ sc.frames → ComesToNext sc name records a c after turn start) same
      (λ is frames. comes name records a b c k after turn start is frames ok bus (tells (first_run k.bus is.steps) is.recorded.stands) settles) is frames

  recorded-then : (sc : Scenario) (name : NodeName) (records : ℕ) (a c : Recorder K) (after : KeptWorld) (turn : Turn) (start : Option (List ℕ))
      → (is : ComesToNext sc name records a c after turn start) → IsOk c.written → IsRecorded sc name is.steps after c.log c.waiting start (held c.output.now)
  recorded-then sc name records a c after turn start is ok =
      ok-of (IsRecorded sc name is.steps after c.log c.waiting start (held c.output.now)) (IsRecordedInPart sc name start (held c.output.now)) c.written ok is.written

  -- a write failed
  pub part-then : {U E : Type 0} (sc : Scenario) (name : NodeName) (records : ℕ) (a c : Recorder K) (after : KeptWorld) (turn : Turn) (start : Option (List ℕ)) (r : Result U E)
      → ComesToNext sc name records a c after turn start → IsErr c.written → IsErr r
      → MatchResult r (λ _. IsRecordedWhole sc name after c.log c.waiting start (held c.output.now)) (λ _. IsRecordedInPart sc name start (held c.output.now))
  part-then sc name records a c after turn start r is err same =
      match-err (λ _. IsRecordedWhole sc name after c.log c.waiting start (held c.output.now)) r same
      (err-of (IsRecorded sc name is.steps after c.log c.waiting start (held c.output.now)) (IsRecordedInPart sc name start (held c.output.now)) c.written err is.written)

  -- the run goes on
  pub goes-further : (sc : Scenario) (name : NodeName) (records : ℕ) (a c : Recorder K) (after : KeptWorld) (turn : Turn) (start : Option (List ℕ))
      → ComesToNext sc name records a c after turn start → IsOk c.written → end_at (record_of turn) ≡ None
      → IsRecordedSoFar sc name (records + 1) after c.log c.waiting start (held c.output.now)
  goes-further sc name records a c after turn start is ok none =
      record { steps = is.steps; many = is.many; going = turn-goes sc is.steps turn is.turn_is none; recorded = recorded-then sc name records a c after turn start is ok }

  pub comes-to-end : (sc : Scenario) (name : NodeName) (records : ℕ) (a c : Recorder K) (after : KeptWorld) (turn : Turn) (e : Ending) (start : Option (List ℕ))
      → ComesToNext sc name records a c after turn start → IsOk c.written → end_at (record_of turn) ≡ Some e
      → IsRecordedWhole sc name after c.log c.waiting start (held c.output.now)
  comes-to-end sc name records a c after turn e start is ok some =
      record { steps = is.steps; over = turn-ends sc is.steps turn e is.turn_is some; recorded = recorded-then sc name records a c after turn start is ok }

  pub ends-with : (sc : Scenario) (name : NodeName) (records : ℕ) (a c : Recorder K) (after : KeptWorld) (turn : Turn) (e : Ending) (start : Option (List ℕ))
      → ComesToNext sc name records a c after turn start → end_at (record_of turn) ≡ Some e → EndsWith sc e
  ends-with sc name records a c after turn e start is some = ends-so sc is.steps turn e is.lawful is.turn_is some

-- At first.
pub none-yet : (sc : Scenario) (name : NodeName) (k : KeptWorld) (log : Tally) (waiting : List ℕ) (held : Option (List ℕ)) → k.bus ≡ sc → Stands k (first_world sc) → log ≡ fresh_log
    → waiting ≡ [] → IsRecordedSoFar sc name 0 k log waiting held held
none-yet sc name k log waiting held bus stands fresh none =
    record { steps = 0; many = omega arith; going = first-going sc; recorded = none-recorded sc name k log waiting held bus stands fresh none }
