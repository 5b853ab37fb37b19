-- A window as it is judged: whom the good nodes trust there, what each sees of each source, and
-- what a verdict says that gives no cause.
use Rattle.std.proofs.{Common.{◌≡◌, ℕ, zero, suc, ◌<◌, ◌≤◌, ◌&&◌, ◌⊎◌, inl, inr, not, nat_le, Bool, true, false, List, [], ◌∷◌, ◌++◌, Option, Some, None, is_some, option_map, slice_get, get_or, refl, sym, ◌∙◌, ap, subst, arith}, lemmas.List.FromFn.get_or-map-range_with_len, lemmas.Option.same_Some, Common.zero-add, lemmas.Bool.{and_from, leb-true, not_from_false}}
use Rattle.std.specs.List.{list_any}
use Rattle.rb_base.specs.{Counting.numbers, Nodes.{Side, other, has}, Nodes.Side.{Biu, Rmu}, declared.values.Heard.Heard, declared.values.Place.Place, declared.values.See.TheVariants.Nothing}
use Rattle.rb_base.proofs.{Sets.{has-set_of, has_none}, Plain.and_first}
use Rattle.rb_rules.specs.{declared.cause.Cause.Cause, declared.closing.Closed.Closed, declared.plan.Window.Window, Book.{Each, of_kind, in_order, map_each, Row, Book, trusted_in, trusted_by, see_in, judged_of, after_verdict, with_stage}, ExactStage.{present, see_value}, Goodness.{Scenario, is_good}, Hearing.{Coming, sole_time, judged_see, row_of}, Judging.{JudgedStage, are_alike, is_something, was_taken, was_unlike, verdict_of}, NodeState.{NodeState, trusted_of}, NodeSteps.close, Rounds.{Moment, Result, window_in, sent_in, close_on, go_through, results_of}}
use Rattle.rb_rules.proofs.{Majorities.same_heard-is, RoundStates.{Stays, through-stays}, Slots.other_twice, WindowNumbers.get-each}
use Rattle.rb_laws_agreement.proofs.{Tests.{passes_at, get-some, Passing}, Numbers.{how_many, one_of_many}, Premises.{Premise, premise_holds}, NodeWindows.{Windows, own_window, kept_in, heard_in, sense_in, goes}}

-- Rows.

-- what the nodes tell of a window
abbrev pub rows_of : Scenario → Moment → Each (Option Row)
rows_of sc m = map_each (λ me i r. r.row) (results_of sc m)

pub row-at : (sc : Scenario) (m : Moment) (me : Side) (i : ℕ)
    → slice_get (of_kind me (rows_of sc m)) i ≡ option_map (λ st. (go_through sc m (sent_in sc m) me i st (window_in sc m me st)).row) (slice_get (of_kind me m.nodes) i)
unfolding results_of
row-at sc m me i =
    let make : Side → ℕ → NodeState → Result = λ me i st. go_through sc m (sent_in sc m) me i st (window_in sc m me st) in
    get-each (λ me i r. r.row) (map_each make m.nodes) me i ∙ ap (option_map (λ r. r.row)) (get-each make m.nodes me i) ∙ twice (slice_get (of_kind me m.nodes) i)
  where
    twice : (o : Option NodeState)
        → option_map (λ (r : Result). r.row) (option_map (λ st. go_through sc m (sent_in sc m) me i st (window_in sc m me st)) o)
        ≡ option_map (λ st. (go_through sc m (sent_in sc m) me i st (window_in sc m me st)).row) o
    twice None = refl
    twice (Some st) = refl

-- the row of a node that is good in its window
pub row-good : {sc m slot stage : _} (ws : Windows sc m slot stage) (me : Side) (i : ℕ) {st : _}
    → slice_get (of_kind me m.nodes) i ≡ Some st → is_good sc me i m.frame slot ≡ true → ws.first me st ≤ ws.last me st
    → get_or (of_kind me (rows_of sc m)) i None
    ≡ (close_on sc me i (kept_in sc m slot stage me i st) (own_window ws me st) (heard_in ws me i st)).row
row-good {sc} {m} ws me i {st} is good tick =
    get-some (of_kind me (rows_of sc m)) i None
    (row-at sc m me i ∙ ap (option_map (λ st. (go_through sc m (sent_in sc m) me i st (window_in sc m me st)).row)) is)
    ∙ ap (λ r. r.row) (goes ws me i st good tick)

-- a node that tells something is good, and its window has a tick
told_by_good : {sc m slot stage : _} (ws : Windows sc m slot stage) (me : Side) (i : ℕ) (st : NodeState) {r : _}
    → (go_through sc m (sent_in sc m) me i st (window_in sc m me st)).row ≡ Some r
    → (is_good sc me i m.frame slot ≡ true) × (nat_le (ws.first me st) (ws.last me st) ≡ true)
unfolding go_through
told_by_good {sc} {m} {slot} {stage} ws me i st {r} told =
    go (is_good sc me i m.frame slot) (nat_le (ws.first me st) (ws.last me st)) (sym (ap (λ w. (go_through sc m (sent_in sc m) me i st w).row) (ws.are me st)) ∙ told)
  where
    go : (b c : Bool)
        → (elim (b && c) as (λ _. Result) [
          | true ↦ close_on sc me i (kept_in sc m slot stage me i st) (own_window ws me st) (heard_in ws me i st)
          | false ↦ record { state = st; row = None }
        ]).row ≡ Some r → (b ≡ true) × (c ≡ true)
    go true true h = (refl, refl)
    go true false h = cc
    go false c h = cc

trusts_told : (sc : Scenario) (me : Side) (i : ℕ) (st : NodeState) (w : Window) (heard : ℕ → List Coming) {r : _} (kind : Side)
    → (close_on sc me i st w heard).row ≡ Some r → trusted_in kind r ≡ trusted_of kind me (close_on sc me i st w heard).state
unfolding close_on row_of
trusts_told sc me i st w heard {r} Biu told = sym (ap (trusted_in Biu) (same_Some _ r told))
trusts_told sc me i st w heard {r} Rmu told = sym (ap (trusted_in Rmu) (same_Some _ r told))

pub stays-trusted : (kind me : Side) {a b : _} → Stays a b → trusted_of kind me b ≡ trusted_of kind me a
stays-trusted Biu Biu s = s.near
stays-trusted Biu Rmu s = s.trusted
stays-trusted Rmu Biu s = s.trusted
stays-trusted Rmu Rmu s = s.near

-- an item of two lists is one of the first or of the second
in_either : {X : Type 0} (xs ys : List X) (i : ℕ) {z : X} → slice_get (xs ++ ys) i ≡ Some z → (slice_get xs i ≡ Some z) ⊎ ((k : ℕ) × (slice_get ys k ≡ Some z))
in_either [] ys i h = inr (i, h)
in_either (x ∷ xs) ys zero h = inl h
in_either (x ∷ xs) ys (suc i) h = in_either xs ys i h

-- the first of what is there was there
first_present : {X : Type 0} (P : X → Type 0) (xs : List (Option X)) → ((i : ℕ) (x : X) → slice_get xs i ≡ Some (Some x) → P x)
    → (r : X) (rs : List X) → present xs ≡ r ∷ rs → P r
first_present P [] each r rs h = cc
first_present P (None ∷ xs) each r rs h = first_present P xs (λ i x is. each (suc i) x is) r rs h
first_present P (Some y ∷ xs) each r rs h = let e : y ≡ r = cc in subst P e (each 0 y refl)

-- all good nodes trust the nodes that the first row says to trust
pub first_row_trusts : {sc m slot stage : _} (ws : Windows sc m slot stage) (trusted : Side → ℕ)
    → ((me : Side) (i : ℕ) (st : NodeState) → slice_get (of_kind me m.nodes) i ≡ Some st → is_good sc me i m.frame slot ≡ true → (kind : Side) → trusted_of kind me st ≡ trusted kind)
    → (r : Row) (rs : List Row) → present (in_order (rows_of sc m)) ≡ r ∷ rs → (kind : Side) → trusted_in kind r ≡ trusted kind
first_row_trusts {sc} {m} {slot} {stage} ws trusted all r rs h kind =
    first_present (λ r. trusted_in kind r ≡ trusted kind) (in_order (rows_of sc m))
    (λ i x is. elim (in_either (of_kind Biu (rows_of sc m)) (of_kind Rmu (rows_of sc m)) i is) [
      | inl first ↦ of_row Biu i x (slice_get (of_kind Biu m.nodes) i) refl (sym (row-at sc m Biu i) ∙ first)
      | inr second ↦ of_row Rmu second.0 x (slice_get (of_kind Rmu m.nodes) second.0) refl (sym (row-at sc m Rmu second.0) ∙ second.1)
    ]) r rs h
  where
    of_node : (me : Side) (i : ℕ) (x : Row) (st : NodeState) → slice_get (of_kind me m.nodes) i ≡ Some st
        → (go_through sc m (sent_in sc m) me i st (window_in sc m me st)).row ≡ Some x → trusted_in kind x ≡ trusted kind
    of_node me i x st is told =
        let both : (is_good sc me i m.frame slot ≡ true) × (nat_le (ws.first me st) (ws.last me st) ≡ true) = told_by_good ws me i st told in
        let e = goes ws me i st both.0 (leb-true (ws.first me st) (ws.last me st) both.1) in
        trusts_told sc me i (kept_in sc m slot stage me i st) (own_window ws me st) (heard_in ws me i st) kind (sym (ap (λ r. r.row) e) ∙ told)
        ∙ ap (λ r. trusted_of kind me r.state) (sym e)
        ∙ stays-trusted kind me (through-stays sc m (sent_in sc m) me i st (window_in sc m me st))
        ∙ all me i st is both.0 kind

    of_row : (me : Side) (i : ℕ) (x : Row) (o : Option NodeState) → slice_get (of_kind me m.nodes) i ≡ o
        → option_map (λ st. (go_through sc m (sent_in sc m) me i st (window_in sc m me st)).row) o ≡ Some (Some x) → trusted_in kind x ≡ trusted kind
    of_row me i x None is told = cc
    of_row me i x (Some st) is told = of_node me i x st is (same_Some _ (Some x) told)

-- Verdicts.

-- a stage that is settled without a cause
pub record IsPassed (sc : Scenario) (place : Place) (rows : Each (Option Row)) (b : Book) : Type 0 where
  pub not_ended : b.ended ≡ false
  pub no_cause : verdict_of (judged_of sc place rows ∷ b.stages) ≡ None
  pub is : with_stage sc place rows b ≡ after_verdict sc.sizes place rows (judged_of sc place rows ∷ b.stages) b None

pub passed : (sc : Scenario) (place : Place) (rows : Each (Option Row)) (b : Book) → (with_stage sc place rows b).ended ≡ false → IsPassed sc place rows b
unfolding with_stage
passed sc place rows b h = go b.ended (verdict_of (judged_of sc place rows ∷ b.stages)) refl refl h
  where
    open_book : Bool → Option Cause → Book
    open_book e v = elim e [ true ↦ b | false ↦ after_verdict sc.sizes place rows (judged_of sc place rows ∷ b.stages) b v ]

    go : (e : Bool) (v : Option Cause) → b.ended ≡ e → verdict_of (judged_of sc place rows ∷ b.stages) ≡ v
        → (open_book e v).ended ≡ false → IsPassed sc place rows b
    go true v p q h = cc
    go false (Some cause) p q h = cc
    go false None p q h = record { not_ended = p; no_cause = q; is = rw (p, q, with_stage) refl }

pub nobody_trusted : (p : ℕ → Bool) → 0 < how_many (λ j. has 0 j && p j) → ⊥
nobody_trusted p some =
    let one : Passing (λ j. has 0 j && p j) 0 16 = one_of_many (λ j. has 0 j && p j) some in
    let yes_it : has 0 one.at ≡ true = and_first (has 0 one.at) (p one.at) one.passes in
    let no_it : has 0 one.at ≡ false = has_none one.at in
    cc

-- the premise holds after a stage without a cause, if all good nodes trust the same
pub premise_after : {sc m slot stage : _} (ws : Windows sc m slot stage) (trusted : Side → ℕ)
    → ((me : Side) (i : ℕ) (st : NodeState) → slice_get (of_kind me m.nodes) i ≡ Some st → is_good sc me i m.frame slot ≡ true → (kind : Side) → trusted_of kind me st ≡ trusted kind)
    → verdict_of (judged_of sc (record { frame = m.frame; slot = slot; stage = stage }) (rows_of sc m) ∷ m.book.stages) ≡ None
    → Premise sc m.frame slot trusted (judged_of sc (record { frame = m.frame; slot = slot; stage = stage }) (rows_of sc m) ∷ m.book.stages)
premise_after {sc} {m} {slot} {stage} ws trusted all none = go (present (in_order (rows_of sc m))) refl
  where
    go : (rows : List Row) → present (in_order (rows_of sc m)) ≡ rows
        → Premise sc m.frame slot trusted (judged_of sc (record { frame = m.frame; slot = slot; stage = stage }) (rows_of sc m) ∷ m.book.stages)
    go [] is =
        let stages : List JudgedStage = judged_of sc (record { frame = m.frame; slot = slot; stage = stage }) (rows_of sc m) ∷ m.book.stages in
        let nobody : Premise sc m.frame slot (λ kind. 0) stages =
        premise_holds sc m.frame slot (λ kind. 0) stages (λ kind. ap (trusted_by kind) is) (λ kind. refl) none in
        absurd (nobody_trusted (λ j. is_good sc Biu j m.frame slot) (omega (arith, nobody.most Biu)))
    go (r ∷ rs) is =
        let stages : List JudgedStage = judged_of sc (record { frame = m.frame; slot = slot; stage = stage }) (rows_of sc m) ∷ m.book.stages in
        premise_holds sc m.frame slot trusted stages
        (λ kind. ap (trusted_by kind) is ∙ first_row_trusts ws trusted all r rs is kind) (λ kind. refl) none

-- Sights.

-- what a row shows
row-sees : (me : Side) (i : ℕ) (st : NodeState) (heard : ℕ → List Coming) (c : Closed) (j : ℕ) → j < 16
    → see_in (Some (row_of me i st heard c)) j ≡ judged_see (sole_time (heard j)) (get_or c.sees j Nothing)
unfolding row_of
row-sees me i st heard c j below = get_or-map-range_with_len (λ j. judged_see (sole_time (heard j)) (get_or c.sees j Nothing)) 0 16 j j Nothing below (zero-add j)

-- what a node that is good in its window shows of a source
pub sight-is : {sc m slot stage : _} (ws : Windows sc m slot stage) (place : Place) (me : Side) (i j : ℕ) {st : _}
    → slice_get (of_kind me m.nodes) i ≡ Some st → is_good sc me i m.frame slot ≡ true → ws.first me st ≤ ws.last me st → j < 16
    → (judged_of sc place (rows_of sc m)).sight me i j
    ≡ judged_see (sole_time (heard_in ws me i st j))
    (get_or (close sc.sizes me i (kept_in sc m slot stage me i st) slot stage (ws.first me st) (sense_in ws me i st)).closed.sees j Nothing)
unfolding close_on
sight-is {sc} {m} {slot} {stage} ws place me i j {st} is good tick below =
    let x = close sc.sizes me i (kept_in sc m slot stage me i st) slot stage (ws.first me st) (sense_in ws me i st) in
    ap (λ r. see_in r j) (row-good ws me i is good tick)
    ∙ row-sees me i x.state (heard_in ws me i st) x.closed j below

-- what a good receiver saw of a source was taken of it
pub taken_in_stage : (sc : Scenario) (place : Place) (rows : Each (Option Row)) (me : Side) (i j : ℕ)
    → i < 16 → is_good sc me i place.frame place.slot ≡ true → is_something ((judged_of sc place rows).sight me i j) ≡ true
    → was_taken (other me) j (judged_of sc place rows) ≡ true
taken_in_stage sc place rows me i j below good some =
    let s : JudgedStage = judged_of sc place rows in
    subst (λ k. list_any (λ i. has (s.good k) i && is_something (s.sight k i j)) (numbers 16) ≡ true) (sym (other_twice me))
    (passes_at (λ i. has (s.good me) i && is_something (s.sight me i j)) i below
    (and_from (has (s.good me) i) (is_something (s.sight me i j)) (has-set_of i (λ i. is_good sc me i place.frame place.slot) below ∙ good) some))

-- two good receivers that see a source unlike
pub unlike_in_stage : (sc : Scenario) (place : Place) (rows : Each (Option Row)) (me : Side) (a b j : ℕ)
    → a < 16 → b < 16 → is_good sc me a place.frame place.slot ≡ true → is_good sc me b place.frame place.slot ≡ true
    → are_alike (judged_of sc place rows).eps ((judged_of sc place rows).sight me a j) ((judged_of sc place rows).sight me b j) ≡ false
    → was_unlike (other me) j (judged_of sc place rows) ≡ true
unlike_in_stage sc place rows me a b j below_a below_b good_a good_b unlike =
    let s : JudgedStage = judged_of sc place rows in
    subst (λ k. list_any (λ a. has (s.good k) a && list_any (λ b. has (s.good k) b && not (are_alike s.eps (s.sight k a j) (s.sight k b j))) (numbers 16)) (numbers 16) ≡ true) (sym (other_twice me))
    (passes_at (λ a. has (s.good me) a && list_any (λ b. has (s.good me) b && not (are_alike s.eps (s.sight me a j) (s.sight me b j))) (numbers 16)) a below_a
    (and_from (has (s.good me) a) _ (has-set_of a (λ i. is_good sc me i place.frame place.slot) below_a ∙ good_a)
    (passes_at (λ b. has (s.good me) b && not (are_alike s.eps (s.sight me a j) (s.sight me b j))) b below_b
    (and_from (has (s.good me) b) (not (are_alike s.eps (s.sight me a j) (s.sight me b j))) (has-set_of b (λ i. is_good sc me i place.frame place.slot) below_b ∙ good_b)
    (not_from_false (are_alike s.eps (s.sight me a j) (s.sight me b j)) unlike)))))

-- values seen alike are equal
pub alike_values : (eps : ℕ) (x y : Option Heard) → are_alike eps (see_value x) (see_value y) ≡ true → x ≡ y
alike_values eps None None h = refl
alike_values eps None (Some b) h = cc
alike_values eps (Some a) None h = cc
alike_values eps (Some a) (Some b) h = ap (λ v. Some v) (same_heard-is a b h)

pub some_is_something : (x : Option Heard) → is_some x ≡ true → is_something (see_value x) ≡ true
some_is_something None h = h
some_is_something (Some v) h = refl

pub judged_value : (time : ℕ) (x : Option Heard) → judged_see time (see_value x) ≡ see_value x
judged_value time None = refl
judged_value time (Some v) = refl
