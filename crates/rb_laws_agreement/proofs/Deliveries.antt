-- What the BIUs deliver in a slot, and the record of it.
use Rattle.std.proofs.{Common.{◌≡◌, ℕ, suc, ◌+◌, ◌<◌, ◌==◌, ◌&&◌, nat_lt, nat_le, Bool, true, false, List, [], ◌∷◌, ◌++◌, length, map, filter, filter_map, Option, Some, None, option_map, slice_get, cond, if◌then◌else◌, refl, sym, ◌∙◌, ap, subst, arith, inl, inr}, lemmas.Bool.lt-ltb, lemmas.Bool.Decides.nat_tests, lemmas.List.append-nil, lemmas.Option.same_Some}
use Rattle.std.specs.List.{range_with_len, cons_option}
use Rattle.rb_base.specs.{Nodes.Side, Nodes.Side.{Biu, Rmu}, Sizes.sync_slot_of, declared.values.Delivery.Delivery, declared.values.Heard.Heard}
use Rattle.rb_rules.specs.{declared.record.SlotLine.SlotLine, declared.role.Role.Role, declared.role.Role.TheVariants.{Schedule, Data, DiagBiu, DiagRmu, Sync}, Book.{of_kind, Row, line_in}, Book.Record.Slot, ExactStage.delivery_of, Goodness.{Scenario, is_good}, Hearing.row_of, NodeState.NodeState, NodeSteps.{owner_for, owner_at, close}, Rounds.{Moment, Result, window_in, sent_in, close_on, go_through, results_of}, Slots.{Sender, sender_kind, if_owned, sender_in, role_of}, Slots.Sender.{Nobody, Node, EachTrusted}}
use Rattle.rb_rules.proofs.WindowNumbers.{length-each}
use Rattle.rb_laws_agreement.specs.Values.{lines_in}
use Rattle.rb_laws_agreement.proofs.{Tests.true_or_false, Invariant.{sender_of, kind_in, IsGoodNode, Holds}, JudgedWindows.{rows_of, row-at}, NodeWindows.{Windows, own_window, kept_in, heard_in, sense_in, goes}, Exchanges.{sender-held, closes_exactly}, Settings.{Setting, windows, ticks, good_here}, SecondStages.vote_of, NextMoments.{next, book_exact}}

-- What one BIU delivers.

-- the owner of a data slot that is not idle
abbrev pub owner_sending : Role → Sender → Option ℕ
owner_sending (Schedule i) sender = None
owner_sending (Data n) Nobody = None
owner_sending (Data n) (Node p) = Some p
owner_sending (Data n) EachTrusted = None
owner_sending (DiagBiu i) sender = None
owner_sending (DiagRmu i) sender = None
owner_sending Sync sender = None

abbrev pub delivery_from : NodeState → ℕ → Heard → ℕ → Delivery
delivery_from st slot value p = record { frame = st.frame; slot = slot; sender = p; value = value }

-- a BIU delivers the vote of stage 2, if there is an owner
pub delivery-2 : (st : NodeState) (slot : ℕ) (role : Role) (sender : Sender) (voted : Heard)
    → delivery_of Biu st slot role sender 2 voted ≡ option_map (delivery_from st slot voted) (owner_sending role sender)
delivery-2 st slot (Schedule i) sender voted = refl
delivery-2 st slot (Data n) Nobody voted = refl
delivery-2 st slot (Data n) (Node p) voted = refl
delivery-2 st slot (Data n) EachTrusted voted = refl
delivery-2 st slot (DiagBiu i) sender voted = refl
delivery-2 st slot (DiagRmu i) sender voted = refl
delivery-2 st slot Sync sender voted = refl

-- nothing is delivered in a stage other than stage 2
pub no-delivery : (me : Side) (st : NodeState) (slot : ℕ) (role : Role) (sender : Sender) (stage : ℕ) (voted : Heard) → (stage == 2) ≡ false
    → delivery_of me st slot role sender stage voted ≡ None
no-delivery Biu st slot (Schedule i) sender stage voted h = refl
no-delivery Biu st slot (Data n) Nobody stage voted h = refl
no-delivery Biu st slot (Data n) (Node p) stage voted h = rw h refl
no-delivery Biu st slot (Data n) EachTrusted stage voted h = refl
no-delivery Biu st slot (DiagBiu i) sender stage voted h = refl
no-delivery Biu st slot (DiagRmu i) sender stage voted h = refl
no-delivery Biu st slot Sync sender stage voted h = refl
no-delivery Rmu st slot role sender stage voted h = refl

-- the owner of a slot is the one that a good node holds
pub owner-held : {sc m s me st : _} (slot : ℕ) → Holds sc m s me st
    → owner_at sc.sizes st slot ≡ owner_sending (role_of sc.sizes slot) (sender_of sc.sizes s slot)
owner-held {sc} {s} {st} slot h = go (role_of sc.sizes slot)
  where
    by_owner : (n : ℕ) (o : Option ℕ) → o ≡ owner_sending (Data n) (if_owned o)
    by_owner n None = refl
    by_owner n (Some p) = refl

    go : (role : Role) → owner_for st role ≡ owner_sending role (sender_in (s.trusted Biu) (s.trusted Rmu) s.owners role)
    go (Schedule i) = refl
    go (Data n) = ap (λ o. slice_get o n) h.owners ∙ by_owner n (slice_get s.owners n)
    go (DiagBiu i) = refl
    go (DiagRmu i) = refl
    go Sync = refl

-- The line of a row.

abbrev pub line_from : ℕ → Delivery → SlotLine
line_from i d = record { receiver = i; sender = d.sender; value = d.value }

pub line-closed : {sc m slot stage : _} (ws : Windows sc m slot stage) (me : Side) (i : ℕ) (st : NodeState)
    → line_in (close_on sc me i (kept_in sc m slot stage me i st) (own_window ws me st) (heard_in ws me i st)).row
    ≡ option_map (line_from i) (close sc.sizes me i (kept_in sc m slot stage me i st) slot stage (ws.first me st) (sense_in ws me i st)).closed.delivered
unfolding close_on row_of
line-closed ws me i st = refl

-- the row that a node tells of its window
abbrev pub row_after : Scenario → Moment → Side → ℕ → NodeState → Option Row
row_after sc m me i st = (go_through sc m (sent_in sc m) me i st (window_in sc m me st)).row

-- a node that is not good tells nothing
pub row-faulty : {sc m slot stage : _} (ws : Windows sc m slot stage) (me : Side) (i : ℕ) (st : NodeState)
    → is_good sc me i m.frame slot ≡ false → row_after sc m me i st ≡ None
unfolding go_through
row-faulty {sc} {m} {slot} {stage} ws me i st faulty =
    ap (λ w. (go_through sc m (sent_in sc m) me i st w).row) (ws.are me st)
    ∙ go (is_good sc me i m.frame slot) (nat_le (ws.first me st) (ws.last me st)) faulty
  where
    go : (b c : Bool) → b ≡ false
        → (elim (b && c) as (λ _. Result) [
          | true ↦ close_on sc me i (kept_in sc m slot stage me i st) (own_window ws me st) (heard_in ws me i st)
          | false ↦ record { state = st; row = None }
        ]).row ≡ None
    go true c h = cc
    go false c h = refl

-- a good BIU's line is what it delivered
pub line-good : {sc hands n m s slot q : _} (c : Setting sc hands n m s slot q) {me i st : _}
    → IsGoodNode sc m me i st
    → line_in (row_after sc m me i st)
    ≡ option_map (line_from i) (delivery_of me st slot (role_of sc.sizes slot) (sender_of sc.sizes s slot) (q + 1) (vote_of c me i st))
line-good {sc} {m} {slot} {q} c {me} {i} {st} here =
    let ws : Windows sc m slot (q + 1) = windows c in
    let good : is_good sc me i m.frame slot ≡ true = sym (good_here c me i) ∙ here.good in
    ap (λ r. line_in r.row) (goes ws me i st good ((ticks c).tick me st))
    ∙ line-closed ws me i st
    ∙ ap (option_map (line_from i)) ((closes_exactly ws me i st c.below).delivered
    ∙ ap (λ x. delivery_of me st slot (role_of sc.sizes slot) x (q + 1) (vote_of c me i st)) (sender-held slot (c.agree.nodes me i st here)))

-- The lines of all.

pub none-delivered : (f : Option Row → Option SlotLine) (xs : List (Option Row)) → ((i : ℕ) (x : Option Row) → slice_get xs i ≡ Some x → f x ≡ None) → filter_map f xs ≡ []
none-delivered f [] none = refl
none-delivered f (x ∷ xs) none =
    ap (λ o. cons_option o (filter_map f xs)) (none 0 x refl) ∙ none-delivered f xs (λ i y h. none (suc i) y h)

some-delivered : (f : Option Row → Option SlotLine) (good : ℕ → Bool) (make : ℕ → SlotLine) (from : ℕ) (xs : List (Option Row))
    → ((i : ℕ) (x : Option Row) → slice_get xs i ≡ Some x → f x ≡ (if good (from + i) then Some (make (from + i)) else None))
    → filter_map f xs ≡ map make (filter good (range_with_len from (length xs)))
some-delivered f good make from [] each = refl
some-delivered f good make from (x ∷ xs) each =
    let here : from + 0 ≡ from = omega arith in
    ap (λ o. cons_option o (filter_map f xs)) (each 0 x refl ∙ ap (λ k. if good k then Some (make k) else None) here)
    ∙ ap (λ l. cons_option (if good from then Some (make from) else None) l)
    (some-delivered f good make (from + 1) xs (λ i y h. each (suc i) y h ∙ ap (λ k. if good k then Some (make k) else None) (let e : from + suc i ≡ from + 1 + i = omega arith in e)))
    ∙ go (good from) (filter good (range_with_len (from + 1) (length xs)))
  where
    go : (b : Bool) (rest : List ℕ) → cons_option (if b then Some (make from) else None) (map make rest) ≡ map make (cond b (from ∷ rest) rest)
    go true rest = refl
    go false rest = refl

-- `P` holds for each row if it holds for the row of each BIU
pub row-of : {sc m slot stage : _} (ws : Windows sc m slot stage) (P : ℕ → Option SlotLine → Type 0)
    → ((i : ℕ) (st : NodeState) → slice_get (of_kind Biu m.nodes) i ≡ Some st → P i (line_in (row_after sc m Biu i st)))
    → (i : ℕ) (x : Option Row) → slice_get (of_kind Biu (rows_of sc m)) i ≡ Some x → P i (line_in x)
row-of {sc} {m} ws P each i x h = go (slice_get (of_kind Biu m.nodes) i) refl (sym (row-at sc m Biu i) ∙ h)
  where
    go : (o : Option NodeState) → slice_get (of_kind Biu m.nodes) i ≡ o → option_map (λ st. row_after sc m Biu i st) o ≡ Some x → P i (line_in x)
    go None e h = cc
    go (Some st) e h = subst (λ r. P i (line_in r)) (same_Some (row_after sc m Biu i st) x h) (each i st e)

rows-long : (sc : Scenario) (m : Moment) → length (of_kind Biu (rows_of sc m)) ≡ length (of_kind Biu m.nodes)
unfolding results_of
rows-long sc m =
    length-each (λ me i (r : Result). r.row) (results_of sc m) Biu
    ∙ length-each (λ me i st. go_through sc m (sent_in sc m) me i st (window_in sc m me st)) m.nodes Biu

-- in stage 2 the lines of a slot are delivered: the value, at each good BIU, if there is an owner
pub lines_2 : {sc hands n m s slot : _} (c : Setting sc hands n m s slot 1) (value : Heard)
    → ((i : ℕ) (st : NodeState) → IsGoodNode sc m (kind_in sc.sizes slot) i st → vote_of c (kind_in sc.sizes slot) i st ≡ value)
    → filter_map line_in (of_kind Biu (rows_of sc m)) ≡ lines_in sc m.frame slot (owner_sending (role_of sc.sizes slot) (sender_of sc.sizes s slot)) value
lines_2 {sc} {n} {m} {s} {slot} c value votes = go (owner_sending (role_of sc.sizes slot) (sender_of sc.sizes s slot)) refl
  where
    biu_kind : (role : Role) (sender : Sender) (p : ℕ) → owner_sending role sender ≡ Some p → sender_kind role ≡ Biu
    biu_kind (Schedule i) sender p h = cc
    biu_kind (Data n) sender p h = refl
    biu_kind (DiagBiu i) sender p h = cc
    biu_kind (DiagRmu i) sender p h = cc
    biu_kind Sync sender p h = cc

    line : (o : Option ℕ) → owner_sending (role_of sc.sizes slot) (sender_of sc.sizes s slot) ≡ o → (i : ℕ) (st : NodeState) → IsGoodNode sc m Biu i st
        → line_in (row_after sc m Biu i st) ≡ option_map (line_from i) (option_map (delivery_from st slot (vote_of c Biu i st)) o)
    line o e i st here =
        line-good c here
        ∙ ap (option_map (line_from i)) (delivery-2 st slot (role_of sc.sizes slot) (sender_of sc.sizes s slot) (vote_of c Biu i st)
        ∙ ap (option_map (delivery_from st slot (vote_of c Biu i st))) e)

    faulty_line : (i : ℕ) (st : NodeState) → is_good sc Biu i m.frame slot ≡ false → line_in (row_after sc m Biu i st) ≡ None
    faulty_line i st faulty = ap line_in (row-faulty (windows c) Biu i st faulty)

    go : (o : Option ℕ) → owner_sending (role_of sc.sizes slot) (sender_of sc.sizes s slot) ≡ o
        → filter_map line_in (of_kind Biu (rows_of sc m)) ≡ lines_in sc m.frame slot o value
    go None e =
        none-delivered line_in (of_kind Biu (rows_of sc m))
        (row-of (windows c) (λ i o. o ≡ None) (λ i st is.
        elim (true_or_false (is_good sc Biu i m.frame slot)) [
          | inl good ↦ line None e i st (record { there = is; good = good_here c Biu i ∙ good })
          | inr faulty ↦ faulty_line i st faulty
        ]))
    go (Some p) e =
        let make : ℕ → SlotLine = λ i. record { receiver = i; sender = p; value = value } in
        let good : ℕ → Bool = λ i. is_good sc Biu i m.frame slot in
        let long : length (of_kind Biu (rows_of sc m)) ≡ sc.sizes.bius = rows-long sc m ∙ c.agree.counts Biu in
        some-delivered line_in good make 0 (of_kind Biu (rows_of sc m))
        (row-of (windows c) (λ i o. o ≡ (if good (0 + i) then Some (make (0 + i)) else None)) (λ i st is.
        let start : i ≡ 0 + i = omega arith in
        elim (true_or_false (is_good sc Biu i m.frame slot)) [
          | inl here ↦
              let node : IsGoodNode sc m Biu i st = record { there = is; good = good_here c Biu i ∙ here } in
              let biu : kind_in sc.sizes slot ≡ Biu = biu_kind (role_of sc.sizes slot) (sender_of sc.sizes s slot) p e in
              let voter : IsGoodNode sc m (kind_in sc.sizes slot) i st = subst (λ k. IsGoodNode sc m k i st) (sym biu) node in
              let vote : vote_of c Biu i st ≡ value =
              ap (λ k. vote_of c k i st) (sym biu) ∙ votes i st voter in
              line (Some p) e i st node ∙ ap (λ v. Some (record { receiver = i; sender = p; value = v })) vote
              ∙ ap (λ b. if b then Some (make i) else None) (sym here) ∙ ap (λ k. if good k then Some (make k) else None) start
          | inr faulty ↦
              faulty_line i st faulty ∙ ap (λ b. if b then Some (make i) else None) (sym faulty) ∙ ap (λ k. if good k then Some (make k) else None) start
        ]))
        ∙ ap (λ k. map make (filter good (range_with_len 0 k))) long

-- The book.

-- after stage 2 the book has the lines of the rows
pub lines_after_2 : {sc hands n m s slot : _} → Setting sc hands n m s slot 1
    → (next sc m).book.lines ≡ filter_map line_in (of_kind Biu (rows_of sc m))
lines_after_2 {sc} {m} {slot} c = ap (λ b. b.lines) (book_exact sc m slot 1 c.below c.small c.at ∙ c.passed.is)

-- no record comes before stage 3
pub given_before : {sc hands n m s slot q : _} → Setting sc hands n m s slot q → q < 2
    → (next sc m).book.given ≡ m.book.given
given_before {sc} {m} {slot} {q} c early =
    let no_it : (q + 1 == 3) ≡ false = grind (arith, nat_tests) in
    ap (λ b. b.given) (book_exact sc m slot q c.below c.small c.at ∙ c.passed.is)
    ∙ ap (λ b. m.book.given ++ (if b && nat_lt slot (sync_slot_of sc.sizes) then Slot m.frame slot m.book.lines ∷ [] else [])) no_it
    ∙ append-nil m.book.given

-- stage 3 gives the record of the slot
pub given_after : {sc hands n m s slot : _} → Setting sc hands n m s slot 2
    → (next sc m).book.given ≡ m.book.given ++ Slot m.frame slot m.book.lines ∷ []
given_after {sc} {m} {slot} c =
    let is_below : nat_lt slot (sync_slot_of sc.sizes) ≡ true = lt-ltb slot (sync_slot_of sc.sizes) c.below in
    ap (λ b. b.given) (book_exact sc m slot 2 c.below c.small c.at ∙ c.passed.is)
    ∙ ap (λ b. m.book.given ++ (if true && b then Slot m.frame slot m.book.lines ∷ [] else [])) is_below
