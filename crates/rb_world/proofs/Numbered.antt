-- Each call gives the next record of the rounds. For callers: `next-in-rounds` is about one whose
-- world goes to its next record, and `alike-in-rounds` about one whose world does so by first
-- choices, the turn being that record but for what a drive that is not plain may change (with
-- `alike-last`, that both are the last of a run or neither is). `take-in-rounds` is about an event
-- that is taken.
use Rattle.std.proofs.Common.{◌≡◌, ℕ, zero, suc, ◌<◌, ◌≤◌, ◌||◌, inl, inr, Bool, true, false, Option, Some, None, is_some, List, [], ◌∷◌, ◌++◌, flat_map, length, slice_get, refl, sym, ap, ◌∙◌, subst, arith}
use Rattle.rb_rules.specs.{Book.{Record, in_order}, Goodness.Scenario, Lawful.IsLawful, Rounds.records_of, WorldStep.{Due, World, due_at, due_of, go_on, least, needs_no_event, take, times_of}, WorldStep.Choice.{GoOn, Take}, WorldStep.Way.ByItself}
use Rattle.rb_world_book.specs.{Records.record_of, declared.turn.Turn.Turn}
use Rattle.rb_laws_events.specs.Laws.{IsNextTurn}
use Rattle.rb_laws_events.proofs.{EventsHold.{events-hold, turns-hold}, GivenAlone.go-on-is, OneTake.{settle-hands, take-hands}, RoundNodes.item-at}
use Rattle.rb_world.specs.{declared.ties.Ties.Ties, declared.ties.Ties.TheVariants.First, Driving.{GoesAlike, bare}, Nexts.{GoesToNext, IsNext, Standing, after_steps, drawn, is_last, place_among, step, step_among}, Numbering.{GivesInRounds, GoesInRounds, IsNextRecord, TakesInRounds}, Turning.Gives, Worlds.{IsReached, KeptWorld, Stands}}
use Rattle.rb_world.proofs.{GoingOn.ended-stays, LastTurn.{reached-ended, reached-gave}, Steps.place-below, Turns.reached-more}
use Rattle.rb_world_book.specs.declared.turn.Turn.TheVariants as shown

-- One call.

-- if no record or the next one is given and the hand-ins stay, the step is one in the rounds
turn-in-rounds : (sc : Scenario) (before after : World) → IsLawful sc → IsReached sc after → after.hands ≡ before.hands → IsNextTurn sc before after
    → TakesInRounds sc before after after.turn
turn-in-rounds sc before after lawful reached hands turn = record {
  none = none turn;
  one = one turn;
  ended = reached-ended sc after reached;
  all = λ e.
      subst (λ (x : World). x.book.ended ≡ true → x.book.given ≡ records_of sc x.hands) (sym reached.is) ((events-hold sc lawful).whole reached.choices) e
      ∙ ap (records_of sc) hands;
  hands = hands;
}
  where
    none : IsNextTurn sc before after → after.turn ≡ None → after.book.given ≡ before.book.given
    none (inl quiet) e = quiet.1
    none (inr next) e = absurd (let never : None ≡ Some next.0 = sym e ∙ next.1 in cc)

    one : IsNextTurn sc before after → (r : Record) → after.turn ≡ Some r → IsNextRecord sc before after r
    one (inl quiet) r e = absurd (let never : None ≡ Some r = sym quiet.0 ∙ e in cc)
    one (inr next) r e =
        let same : next.0 ≡ r = (let both : Some next.0 ≡ Some r = sym next.1 ∙ e in cc) in
        record {
          is_next = ap (λ hands. slice_get (records_of sc hands) (length before.book.given)) (sym hands) ∙ next.3 ∙ ap (λ x. Some x) same;
          added = next.2 ∙ ap (λ x. before.book.given ++ x ∷ []) same;
        }

-- an event is taken
pub take-in-rounds : (sc : Scenario) (w : World) (i : ℕ) (d : Due) → IsLawful sc → IsReached sc w → slice_get (due_of sc w) i ≡ Some d
    → TakesInRounds sc w (take sc w i) (take sc w i).turn
take-in-rounds sc w i d lawful reached found =
    turn-in-rounds sc w (take sc w i) lawful (reached-more sc w (Take i) reached) (take-hands sc w i)
    (subst (λ (x : World). (i : ℕ) (d : Due) → slice_get (due_of sc x) i ≡ Some d → IsNextTurn sc x (take sc x i)) (sym reached.is) (turns-hold sc lawful reached.choices).0 i d found)

pub taken-in-rounds : (sc : Scenario) (after : KeptWorld) (turn : Turn) (w : World) (i : ℕ) (d : Due) → IsLawful sc → IsReached sc w → slice_get (due_of sc w) i ≡ Some d
    → Gives after turn (take sc w i) → TakesInRounds sc w (take sc w i) (record_of turn)
taken-in-rounds sc after turn w i d lawful reached found gives =
    subst (TakesInRounds sc w (take sc w i)) gives.turn_is (take-in-rounds sc w i d lawful reached found)

go-on-in-rounds : (sc : Scenario) (w : World) → IsLawful sc → IsReached sc w → w.book.ended ≡ false → TakesInRounds sc w (go_on sc w) (go_on sc w).turn
go-on-in-rounds sc w lawful reached going =
    turn-in-rounds sc w (go_on sc w) lawful (reached-more sc w GoOn reached) (ap (λ (x : World). x.hands) (go-on-is sc w going) ∙ settle-hands sc ByItself 2 w)
    (subst (λ (x : World). x.book.ended ≡ false → IsNextTurn sc x (go_on sc x)) (sym reached.is) (turns-hold sc lawful reached.choices).1 going)

-- Steps.

-- a world in which the run goes on, after a step
record Goes (sc : Scenario) (before after : World) : Type 0 where
  reached : IsReached sc after
  rounds : TakesInRounds sc before after after.turn

among-goes : (sc : Scenario) (ties : Ties) (due : ℕ) (s : Standing) → IsLawful sc → IsReached sc s.world → s.world.book.ended ≡ false → due ≡ length (due_of sc s.world)
    → Goes sc s.world (step_among sc ties due s).world
among-goes sc ties zero s lawful reached going same = record { reached = reached-more sc s.world GoOn reached; rounds = go-on-in-rounds sc s.world lawful reached going }
among-goes sc ties (suc others) s lawful reached going same =
    let i : ℕ = place_among ties (drawn ties s.draws) (suc others) in
    let below : i < length (due_of sc s.world) = subst (λ n. i < n) same (place-below ties (drawn ties s.draws) (suc others) (omega arith)) in
    let at = item-at (due_of sc s.world) i below in
    record { reached = reached-more sc s.world (Take i) reached; rounds = take-in-rounds sc s.world i at.0 lawful reached at.1 }

step-goes : (sc : Scenario) (ties : Ties) (s : Standing) → IsLawful sc → IsReached sc s.world → s.world.book.ended ≡ false → Goes sc s.world (step sc ties s).world
unfolding step
step-goes sc ties s lawful reached going = among-goes sc ties (length (due_of sc s.world)) s lawful reached going refl

-- a world from which steps without a record lead to another
record Waits (sc : Scenario) (before now : World) : Type 0 where
  reached : IsReached sc now
  going : now.book.ended ≡ false
  given : now.book.given ≡ before.book.given
  hands : now.hands ≡ before.hands

steps-wait : (sc : Scenario) (ties : Ties) (n : ℕ) (s : Standing) → IsLawful sc → IsReached sc s.world → s.world.book.ended ≡ false
    → ((m : ℕ) → 1 ≤ m → m ≤ n → (after_steps sc ties m s).world.turn ≡ None) → Waits sc s.world (after_steps sc ties n s).world
unfolding after_steps
steps-wait sc ties zero s lawful reached going quiet = record { reached = reached; going = going; given = refl; hands = refl }
steps-wait sc ties (suc n) s lawful reached going quiet =
    let waits = steps-wait sc ties n s lawful reached going (λ m some le. quiet m some (omega (arith, le))) in
    let goes = step-goes sc ties (after_steps sc ties n s) lawful waits.reached waits.going in
    let none = quiet (suc n) (omega arith) (omega arith) in
    record {
      reached = goes.reached;
      going = goes.rounds.ended ∙ ap is_last none;
      given = goes.rounds.none none ∙ waits.given;
      hands = goes.rounds.hands ∙ waits.hands;
    }

-- once the run has ended nothing is due
pub none-due : (sc : Scenario) (w : World) → w.book.ended ≡ true → length (due_of sc w) ≡ 0
unfolding due_of
none-due sc w e = ap (λ b. length (elim (b || needs_no_event sc w.book.upcoming) as (λ _. List Due) [ true ↦ [] | false ↦ due_at sc w (least (flat_map times_of (in_order w.sites))) ])) e

among-stays : (sc : Scenario) (ties : Ties) (due : ℕ) (s : Standing) → s.world.book.ended ≡ true → due ≡ 0 → step_among sc ties due s ≡ s
among-stays sc ties zero s e none = ap (λ (x : World). record s { world = x }) (ended-stays sc s.world e)
among-stays sc ties (suc others) s e none = absurd (omega (arith, none))

step-stays : (sc : Scenario) (ties : Ties) (s : Standing) → s.world.book.ended ≡ true → step sc ties s ≡ s
unfolding step
step-stays sc ties s e = among-stays sc ties (length (due_of sc s.world)) s e (none-due sc s.world e)

steps-stay : (sc : Scenario) (ties : Ties) (n : ℕ) (s : Standing) → s.world.book.ended ≡ true → after_steps sc ties n s ≡ s
unfolding after_steps
steps-stay sc ties zero s e = refl
steps-stay sc ties (suc n) s e = ap (step sc ties) (steps-stay sc ties n s e) ∙ step-stays sc ties s e

-- The next record.

some-of : (o : Option Record) → is_some o ≡ true → (r : Record) × (o ≡ Some r)
some-of None e = absurd (cc)
some-of (Some r) e = (r, refl)

-- until the run has ended it gives the records of the rounds
going-on : (sc : Scenario) (ties : Ties) (before after : Standing) (r : Record) → IsLawful sc → IsReached sc before.world → IsNext sc ties before after → after.world.turn ≡ Some r
    → before.world.book.ended ≡ false → IsReached sc after.world × (GivesInRounds sc before.world after.world r)
unfolding after_steps
going-on sc ties before after r lawful reached next turn going =
    let mid : Standing = after_steps sc ties next.others before in
    let waits : Waits sc before.world mid.world = steps-wait sc ties next.others before lawful reached going next.quiet in
    let goes : Goes sc mid.world after.world = subst (λ (x : Standing). Goes sc mid.world x.world) (sym next.is) (step-goes sc ties mid lawful waits.reached waits.going) in
    let one : IsNextRecord sc mid.world after.world r = goes.rounds.one r turn in (
      goes.reached,
      record {
        going = λ _. record {
          is_next = ap (λ n. slice_get (records_of sc before.world.hands) (length n)) (sym waits.given)
              ∙ ap (λ hands. slice_get (records_of sc hands) (length mid.world.book.given)) (sym waits.hands) ∙ one.is_next;
          added = one.added ∙ ap (λ given. given ++ r ∷ []) waits.given;
        };
        over = λ e. absurd (let never : true ≡ false = sym e ∙ going in cc);
        ended = goes.rounds.ended ∙ ap is_last turn;
        all = λ e. goes.rounds.all e ∙ ap (records_of sc) waits.hands;
        hands = goes.rounds.hands ∙ waits.hands;
      },
    )

still : (sc : Scenario) (ties : Ties) (before after : Standing) (r : Record) → IsLawful sc → IsReached sc before.world → IsNext sc ties before after → after.world.turn ≡ Some r
    → before.world.book.ended ≡ true → IsReached sc after.world × (GivesInRounds sc before.world after.world r)
still sc ties before after r lawful reached next turn over =
    let stays : after.world ≡ before.world = ap (λ (x : Standing). x.world) (next.is ∙ steps-stay sc ties (suc next.others) before over) in
    let same : before.world.turn ≡ Some r = ap (λ (x : World). x.turn) (sym stays) ∙ turn in
    let gave = reached-gave sc before.world reached r same in
    let whole : before.world.book.given ≡ records_of sc before.world.hands =
    subst (λ (x : World). x.book.ended ≡ true → x.book.given ≡ records_of sc x.hands) (sym reached.is) ((events-hold sc lawful).whole reached.choices) over in (
      subst (IsReached sc) (sym stays) reached,
      record {
        going = λ e. absurd (let never : true ≡ false = sym over ∙ e in cc);
        over = λ _. record { others = gave.0; is = sym whole ∙ gave.1; stays = stays };
        ended = ap (λ (x : World). x.book.ended) stays ∙ reached-ended sc before.world reached ∙ ap is_last same;
        all = λ _. ap (λ (x : World). x.book.given) stays ∙ whole;
        hands = ap (λ (x : World). x.hands) stays;
      },
    )

pub is-next-in-rounds : (sc : Scenario) (ties : Ties) (before after : Standing) (r : Record) → IsLawful sc → IsReached sc before.world → IsNext sc ties before after
    → after.world.turn ≡ Some r → IsReached sc after.world × (GivesInRounds sc before.world after.world r)
is-next-in-rounds sc ties before after r lawful reached next turn = by before.world.book.ended refl
  where
    by : (b : Bool) → before.world.book.ended ≡ b → IsReached sc after.world × (GivesInRounds sc before.world after.world r)
    by true e = still sc ties before after r lawful reached next turn e
    by false e = going-on sc ties before after r lawful reached next turn e

-- For callers.

pub next-in-rounds : (ties : Ties) (before after : KeptWorld) (turn : Turn) (w : World) → Stands before w → GoesToNext ties before after turn w → GoesInRounds before after turn w
next-in-rounds ties before after turn w is goes =
    let some = some-of goes.next.turn goes.is.gives in
    record {
      next = goes.next;
      stands = goes.gives.stands;
      given = some.0;
      turn_is = sym goes.gives.turn_is ∙ some.1;
      rounds = (is-next-in-rounds before.bus ties _ _ some.0 is.lawful is.reached goes.is some.1).1;
    }

-- the turn before it is changed is the one in the rounds
pub alike-in-rounds : (before after : KeptWorld) (given : Turn) (w : World) → Stands before w → (alike : GoesAlike before after given w) → GoesInRounds before after alike.turn w
alike-in-rounds before after given w is alike = next-in-rounds First before after alike.turn w is alike.goes

bare-last : (t : Turn) → is_last (record_of (bare t)) ≡ is_last (record_of t)
bare-last shown.Quiet = refl
bare-last (shown.Frame f) = refl
bare-last (shown.Slot s) = refl
bare-last shown.Ended = refl
bare-last (shown.Breach place cause) = refl

pub alike-last : (given turn : Turn) → bare given ≡ bare turn → is_last (record_of given) ≡ is_last (record_of turn)
alike-last given turn alike = sym (bare-last given) ∙ ap (λ t. is_last (record_of t)) alike ∙ bare-last turn
