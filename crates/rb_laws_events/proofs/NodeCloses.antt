-- For the law that events are rounds: at the last tick of its window a node does what the rounds do
-- with it, and goes on in the next window, or stops if it is not good any more.
use Rattle.std.proofs.{Common.{◌≡◌, ℕ, ◌+◌, ◌<◌, ◌≤◌, ◌==◌, ◌&&◌, ◌⊎◌, nat_le, nat_lt, Bool, true, false, cond, List, [], ◌∷◌, ◌++◌, filter, length, refl, ap, sym, ◌∙◌, subst, arith, inl, inr, Option, Some, None, option_map, option_to_list}, lemmas.Bool.Decides.nat_tests, lemmas.List.append-nil}
use Rattle.rb_base.specs.{Nodes.{Side, other}, Sizes.Sizes}
use Rattle.rb_rules.specs.{declared.closing.Closed.Closed as ClosedStage, declared.plan.Plan.Plan, declared.plan.Window.Window, Core.{Act, state_at, window_here}, Goodness.{Scenario, is_good}, Hearing.{Coming, Span, coming_of, heard_from, row_of, said_by, span_of, window_numbered}, NodeState.NodeState, Ports.PortState, Rounds.{Moment, heard_at, sent_in, window_in}, WorldStep.{Site, after_act, await, coming_from, enter, proceed, says_in, span_from, stop, with_close, with_epoch}}
use Rattle.rb_laws_events.proofs.{Invariant.{ahead_so_far, entry_of, heard_so_far, is_good_at, sending_of}, NodeEvents.{begun_after, epoch-is}, PendingLists.{Hears, all-came, is_later, is_now, none-now}, RoundNodes.slot-is, SameHeard.{AllOf, Every, IsOneOf}, SayLists.said_if, SendingLists.opens, TickWindows.first_of}

-- What comes to the node.

-- what holds for all items that pass holds for each item if it passes
pub from-filter : (P : Coming → Type 0) (q : Coming → Bool) (xs : List Coming) → Every P (filter q xs) → Every (λ c. q c ≡ true → P c) xs
from-filter P q [] e = tt
from-filter P q (x ∷ xs) e = by (q x) refl e (from-filter P q xs)
  where
    by : (b : Bool) → q x ≡ b → Every P (cond b (x ∷ filter q xs) (filter q xs)) → (Every P (filter q xs) → Every (λ c. q c ≡ true → P c) xs)
        → Every (λ c. q c ≡ true → P c) (x ∷ xs)
    by true e h rest = (λ t. h.0, rest h.1)
    by false e h rest = (λ t. absurd (no (sym e ∙ t)), rest h)
      where
        no : false ≡ true → ⊥
        no e = cc

is-later : (j t : ℕ) (c : Coming) → (c.from == j) ≡ true → t < c.time → is_later j t c ≡ true
is-later j t c e lt =
    let after : nat_lt t c.time ≡ true = grind (arith, nat_tests) in
    ap (λ b. b && nat_lt t c.time) e ∙ after

-- all that pends for later from source `j` has what the list of it has
pub later-has : (P : Coming → Type 0) (j t : ℕ) (coming : List Coming) {next : _} → Every (λ c. t < c.time) coming → filter (is_later j t) coming ≡ next → Every P next
    → Every (λ c. (t < c.time) × ((c.from == j) ≡ true → P c)) coming
later-has P j t coming after is all =
    join coming after (from-filter P (is_later j t) coming (subst (Every P) (sym is) all))
  where
    join : (cs : List Coming) → Every (λ c. t < c.time) cs → Every (λ c. is_later j t c ≡ true → P c) cs → Every (λ c. (t < c.time) × ((c.from == j) ≡ true → P c)) cs
    join [] a b = tt
    join (c ∷ cs) a b = ((a.0, λ e. b.0 (is-later j t c e a.0)), join cs a.1 b.1)

-- if all that pends from source `j` comes after time `u`, none of it comes by then
none-by : (j u t : ℕ) (cs : List Coming) → Every (λ c. (t < c.time) × ((c.from == j) ≡ true → u < c.time)) cs → filter (is_now j u) cs ≡ []
none-by j u t [] e = refl
none-by j u t (c ∷ cs) e =
    let go : (b : Bool) → (c.from == j) ≡ b → is_now j u c ≡ false =
    λ b. elim b as (λ b. (c.from == j) ≡ b → is_now j u c ≡ false) [
      | true ↦ λ f. let late : u < c.time = e.0.1 f in let no : nat_le c.time u ≡ false = grind (arith, nat_tests) in rw (f, no) refl
      | false ↦ λ f. rw f refl
    ] in
    ap (λ b. cond b (c ∷ filter (is_now j u) cs) (filter (is_now j u) cs)) (go (c.from == j) refl) ∙ none-by j u t cs e.1

same-later : (j u t : ℕ) (cs : List Coming) → Every (λ c. (t < c.time) × ((c.from == j) ≡ true → u < c.time)) cs → filter (is_later j u) cs ≡ filter (is_later j t) cs
same-later j u t [] e = refl
same-later j u t (c ∷ cs) e =
    let after : t < c.time = e.0.0 in
    let lt : nat_lt t c.time ≡ true = grind (arith, nat_tests) in
    let go : (b : Bool) → (c.from == j) ≡ b → is_later j u c ≡ is_later j t c =
    λ b. elim b as (λ b. (c.from == j) ≡ b → is_later j u c ≡ is_later j t c) [
      | true ↦ λ f. let late : u < c.time = e.0.1 f in let too : nat_lt u c.time ≡ true = grind (arith, nat_tests) in rw (f, too, lt) refl
      | false ↦ λ f. rw f refl
    ] in
    ap (λ b. cond b (c ∷ filter (is_later j u) cs) (filter (is_later j u) cs)) (go (c.from == j) refl) ∙ ap (λ l. cond (is_later j t c) (c ∷ l) l) (same-later j u t cs e.1)

pub opens-tail : {j t : ℕ} (u : ℕ) {got coming sent next : List Coming} → Every (λ c. t < c.time) coming → Every (λ c. u < c.time) next
    → Hears j t got coming sent next → Hears j u [] coming [] next
opens-tail {j} {t} u {coming} after late h =
    let both : Every (λ c. (t < c.time) × ((c.from == j) ≡ true → u < c.time)) coming = later-has (λ c. u < c.time) j t coming after h.later late in
    let none : filter (is_now j u) coming ≡ [] = none-by j u t coming both in
    record {
      came = tt;
      pends = subst (Every (λ c. IsOneOf c [])) (sym none) tt;
      as_many = ap (λ l. 0 + length l) none ∙ omega arith;
      later = same-later j u t coming both ∙ h.later;
    }

pub opens-stage : {j t : ℕ} (u : ℕ) {got coming sent next : List Coming} → Every (λ c. t < c.time) coming → Every (λ c. c.time ≤ u) next
    → Hears j t got coming sent next → Hears j u [] coming next []
opens-stage {j} {t} u {coming} after in_time h =
    opens u (later-has (λ c. c.time ≤ u) j t coming after h.later in_time) h

-- The site after the last tick of a window.

-- a node's site after a close, before the node goes on
abbrev pub site_closed : Scenario → List PortState → Side → ℕ → Act → ClosedStage → Site → Site
site_closed sc ports me i x c s = record s {
  core = x.core;
  got = [];
  row = elim (c.place.stage == 4) [ true ↦ s.row | false ↦ Some (row_of me i x.core.state (coming_from s.got) c) ];
  begun = begun_after sc ports me i x.epoch s.begun;
}

pub after-close : (sc : Scenario) (ports : List PortState) (me : Side) (i : ℕ) (x : Act) {c span good : _} (s : Site) → x.closed ≡ Some c
    → span_from sc.sizes sc.plan me x.core.state x.core.had ≡ Some span → is_good sc me i span.place.frame span.place.slot ≡ good
    → after_act sc ports me i x s
    ≡ (elim good as (λ _. Site) [ true ↦ await sc me i (says_in sc me i span) (site_closed sc ports me i x c s) | false ↦ stop (site_closed sc ports me i x c s) ])
unfolding after_act proceed
after-close sc ports me i x {c} {span} s closed begins is =
    let s1 : Site = record s { core = x.core } in
    let s2 : Site = with_close me i x.core.state (Some c) s1 in
    let s3 : Site = site_closed sc ports me i x c s in
    ap (λ o. proceed sc me i (with_epoch sc ports me i x.epoch (with_close me i x.core.state o s1))) closed
    ∙ ap (proceed sc me i) (epoch-is sc ports me i x.epoch s2)
    ∙ ap (λ o. enter sc me i o s3) begins
    ∙ ap (λ b. elim b as (λ _. Site) [ true ↦ await sc me i (says_in sc me i span) s3 | false ↦ stop s3 ]) is

-- the span that begins at the first tick of a window is that of the window
pub span-begins : (sizes : Sizes) (plan : Plan) (me : Side) (c : NodeState) {st : _} (n : ℕ) {k : ℕ} → state_at sizes plan me c k ≡ st
    → window_here sizes plan me st k ≡ window_numbered sizes plan me st n → k ≡ st.epoch + first_of sizes plan me st n
    → span_from sizes plan me c k ≡ Some (span_of st (window_numbered sizes plan me st n))
span-begins sizes plan me c {st} n {k} turned here first =
    let w : Window = window_numbered sizes plan me st n in
    ap (λ z. elim ((span_of z (window_here sizes plan me z k)).first == k) as (λ _. Option Span) [ true ↦ Some (span_of z (window_here sizes plan me z k)) | false ↦ None ]) turned
    ∙ ap (λ w. elim ((span_of st w).first == k) as (λ _. Option Span) [ true ↦ Some (span_of st w) | false ↦ None ]) here
    ∙ ap (λ b. elim b as (λ _. Option Span) [ true ↦ Some (span_of st w) | false ↦ None ]) (same-is (st.epoch + first_of sizes plan me st n) k (sym first))
  where
    same-is : (a b : ℕ) → a ≡ b → (a == b) ≡ true
    same-is a b h = grind (arith, nat_tests)

-- Lists by the rounds.

-- the place of the window of a node that is in the moment's frame is the moment's
pub good-span : (sc : Scenario) (m : Moment) (me side : Side) (j : ℕ) (st : NodeState) → st.frame ≡ m.frame
    → is_good sc side j (span_of st (window_in sc m me st)).place.frame (span_of st (window_in sc m me st)).place.slot ≡ is_good_at sc m side j
good-span sc m me side j st frame =
    ap (λ f. is_good sc side j f (window_in sc m me st).slot) frame ∙ ap (is_good sc side j m.frame) (slot-is sc.sizes sc.plan me st m.window)

-- if all good sources have sent, the node has been sent what it hears in the rounds
pub heard-all : (sc : Scenario) (m : Moment) (me : Side) (i j : ℕ) (st : NodeState) (sent : ℕ → Bool) → st.frame ≡ m.frame
    → (is_good_at sc m (other me) j ≡ true → (sent j ≡ true) ⊎ (entry_of sc m me i j ≡ []))
    → heard_so_far sc m me i (span_of st (window_in sc m me st)) sent j ≡ heard_at sc me i st (window_in sc m me st) (sent_in sc m) j
unfolding heard_from
heard-all sc m me i j st sent frame all = by (is_good_at sc m (other me) j) refl
  where
    span : Span
    span = span_of st (window_in sc m me st)

    entry : ℕ → List Coming
    entry f = option_to_list (option_map (coming_of sc me i j f) (sending_of sc m (other me) j))

    sent-list : (sent j ≡ true) ⊎ (entry_of sc m me i j ≡ []) → (elim (sent j) as (λ _. List Coming) [ true ↦ entry_of sc m me i j | false ↦ [] ]) ≡ entry_of sc m me i j
    sent-list (inl yes_sent) = ap (λ b. elim b as (λ _. List Coming) [ true ↦ entry_of sc m me i j | false ↦ [] ]) yes_sent
    sent-list (inr none) = by (sent j)
      where
        by : (b : Bool) → (elim b as (λ _. List Coming) [ true ↦ entry_of sc m me i j | false ↦ [] ]) ≡ entry_of sc m me i j
        by true = refl
        by false = sym none

    by : (b : Bool) → is_good_at sc m (other me) j ≡ b
        → heard_so_far sc m me i (span_of st (window_in sc m me st)) sent j ≡ heard_at sc me i st (window_in sc m me st) (sent_in sc m) j
    by true e =
        ap (λ b. elim b as (λ _. List Coming) [ true ↦ elim (sent j) [ true ↦ entry_of sc m me i j | false ↦ [] ] | false ↦ said_by sc me i (span_of st (window_in sc m me st)) j ]) e
        ∙ sent-list (all e) ∙ ap (λ f. option_to_list (option_map (coming_of sc me i j f) (sending_of sc m (other me) j))) (sym frame)
        ∙ sym (ap (λ b. elim b as (λ _. List Coming) [
          | true ↦ option_to_list (option_map (coming_of sc me i j st.frame) (sending_of sc m (other me) j))
          | false ↦ said_by sc me i (span_of st (window_in sc m me st)) j
        ]) (good-span sc m me (other me) j st frame ∙ e))
    by false e =
        ap (λ b. elim b as (λ _. List Coming) [ true ↦ elim (sent j) [ true ↦ entry_of sc m me i j | false ↦ [] ] | false ↦ said_by sc me i (span_of st (window_in sc m me st)) j ]) e
        ∙ sym (ap (λ b. elim b as (λ _. List Coming) [
          | true ↦ option_to_list (option_map (coming_of sc me i j st.frame) (sending_of sc m (other me) j))
          | false ↦ said_by sc me i (span_of st (window_in sc m me st)) j
        ]) (good-span sc m me (other me) j st frame ∙ e))

-- if all that is pending comes after time `t`, all that was sent has come
pub all-here : {j t : ℕ} {got coming sent next : List Coming} → Every (λ c. t < c.time) coming → Hears j t got coming sent next → AllOf (coming_from got j) sent
all-here {j} {t} {coming} after h = all-came (none-now j t coming after) h

-- when a stage opens, what was sent for it is what was sent ahead and what is said in it
pub stage-lists : (sc : Scenario) (m : Moment) (me : Side) (i j : ℕ) (st : NodeState) (sent : ℕ → Bool) → st.frame ≡ m.frame
    → (ahead_so_far sc m me i sent j ++ said_if sc me i (span_of st (window_in sc m me st)) j ≡ heard_so_far sc m me i (span_of st (window_in sc m me st)) sent j)
    × ((said_if sc me i (span_of st (window_in sc m me st)) j ≡ []) ⊎ (ahead_so_far sc m me i sent j ≡ []))
stage-lists sc m me i j st sent frame = by (is_good_at sc m (other me) j) refl
  where
    said : (b : Bool) → is_good_at sc m (other me) j ≡ b
        → said_if sc me i (span_of st (window_in sc m me st)) j ≡ (elim b as (λ _. List Coming) [ true ↦ [] | false ↦ said_by sc me i (span_of st (window_in sc m me st)) j ])
    said b e = ap (λ b. elim b as (λ _. List Coming) [ true ↦ [] | false ↦ said_by sc me i (span_of st (window_in sc m me st)) j ]) (good-span sc m me (other me) j st frame ∙ e)

    by : (b : Bool) → is_good_at sc m (other me) j ≡ b
        → (ahead_so_far sc m me i sent j ++ said_if sc me i (span_of st (window_in sc m me st)) j ≡ heard_so_far sc m me i (span_of st (window_in sc m me st)) sent j)
        × ((said_if sc me i (span_of st (window_in sc m me st)) j ≡ []) ⊎ (ahead_so_far sc m me i sent j ≡ []))
    by true e =
        let list : List Coming = elim (sent j) [ true ↦ entry_of sc m me i j | false ↦ [] ] in
        let a : ahead_so_far sc m me i sent j ≡ list = ap (λ b. elim b as (λ _. List Coming) [ true ↦ list | false ↦ [] ]) e in
        let h : heard_so_far sc m me i (span_of st (window_in sc m me st)) sent j ≡ list =
        ap (λ b. elim b as (λ _. List Coming) [ true ↦ list | false ↦ said_by sc me i (span_of st (window_in sc m me st)) j ]) e in (
          ap (λ l. ahead_so_far sc m me i sent j ++ l) (said true e) ∙ append-nil (ahead_so_far sc m me i sent j) ∙ a ∙ sym h,
          inl (said true e),
        )
    by false e =
        let list : List Coming = elim (sent j) [ true ↦ entry_of sc m me i j | false ↦ [] ] in
        let a : ahead_so_far sc m me i sent j ≡ [] = ap (λ b. elim b as (λ _. List Coming) [ true ↦ list | false ↦ [] ]) e in
        let h : heard_so_far sc m me i (span_of st (window_in sc m me st)) sent j ≡ said_by sc me i (span_of st (window_in sc m me st)) j =
        ap (λ b. elim b as (λ _. List Coming) [ true ↦ list | false ↦ said_by sc me i (span_of st (window_in sc m me st)) j ]) e in (
          ap (λ l. l ++ said_if sc me i (span_of st (window_in sc m me st)) j) a ∙ said false e ∙ sym h,
          inr a,
        )
