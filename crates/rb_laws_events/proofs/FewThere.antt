-- For the law that pending events are few: what comes to a node that stands in the rounds is of the
-- window in which it stands and of the next.
use Rattle.std.proofs.{Common.{◌≡◌, ℕ, suc, ◌+◌, ◌*◌, ◌≤◌, Bool, true, false, List, [], ◌∷◌, cond, filter, length, map, refl, ap, arith, Option, Some, None, option_map, option_to_list}, lemmas.Bool.Decides.nat_tests}
use Rattle.rb_base.specs.{Nodes.{Side, other}, Nodes.Side.{Biu, Rmu}, declared.node.NodeName.NodeName}
use Rattle.rb_base.proofs.Plain.{and_first}
use Rattle.rb_rules.specs.{declared.say.Say.Say, Behavior.Said, Clock.time_of, Entries.{IsListed, is_said, said_of}, Goodness.{Scenario, clock_of}, Hearing.{Coming, Sending, Span, coming_of, is_heard, said_by, span_of}, Links.{name_of, same_node}, Rounds.{Moment, moment, window_in}, Slots.count_of}
use Rattle.rb_laws_events.proofs.{Invariant.{NodeStands, ahead_so_far, entry_of, heard_so_far, is_good_at, last_tick, next_stage, sending_of}, PendingLists.Hears, SourceSums.{all-of-sources, coming_of_source, items-once, sum-plus, sum-twos}}
use Rattle.rb_base.specs.declared.node.NodeName.TheVariants as node

-- What is said.

same-source : (name : NodeName) (me : Side) (a b : ℕ) → same_node name (name_of me a) ≡ true → same_node name (name_of me b) ≡ true → a ≡ b
same-source (node.Biu i) Biu a b e f = grind (arith, nat_tests)
same-source (node.Biu i) Rmu a b e f = cc
same-source (node.Rmu i) Biu a b e f = cc
same-source (node.Rmu i) Rmu a b e f = grind (arith, nat_tests)

-- an entry is said by one node
pub said-once : (me : Side) (i : ℕ) (span : Span) (s : Say) (a b : ℕ) → is_said me i a span s ≡ true → is_said me i b span s ≡ true → a ≡ b
said-once me i span s a b e f =
    same-source s.from (other me) a b (and_first _ _ (and_first _ _ (and_first _ _ e))) (and_first _ _ (and_first _ _ (and_first _ _ f)))

pub length-mapped : {X Y : Type 0} (f : X → Y) (xs : List X) → length (map f xs) ≡ length xs
length-mapped f [] = refl
length-mapped f (x ∷ xs) = ap suc (length-mapped f xs)

-- how many entries source j says to the node in a window
abbrev pub entries_of : Scenario → Side → ℕ → Span → ℕ → ℕ
entries_of sc me i span j = length (filter (is_said me i j span) sc.says)

pub length-passed : {X : Type 0} (q : X → Bool) (xs : List X) → length (filter q xs) ≤ length xs
length-passed q [] = omega arith
length-passed q (x ∷ xs) = by (q x) (length-passed q xs)
  where
    by : (b : Bool) → length (filter q xs) ≤ length xs → length (cond b (x ∷ filter q xs) (filter q xs)) ≤ length (x ∷ xs)
    by true rest = omega (arith, rest)
    by false rest = omega (arith, rest)

-- no more is heard from it
pub said-few : {sc : _} → IsListed sc → (me : Side) (i : ℕ) (span : Span) (j : ℕ) → length (said_by sc me i span j) ≤ entries_of sc me i span j
said-few {sc} listed me i span j =
    let coming : Said → Coming = λ s. record { time = s.time; from = j; bytes = s.bytes } in
    let mapped = length-mapped coming (filter (is_heard sc me i span j) (sc.behavior me i span j)) in
    let passed = length-passed (is_heard sc me i span j) (sc.behavior me i span j) in
    let entries = length-mapped (said_of sc.plan.version (clock_of sc me i) span) (filter (is_said me i j span) sc.says) in
    let same = ap length (listed.behavior me i span j) in
    omega (arith, mapped, passed, entries, same)

-- What is sent.

pub entry-once : (sc : Scenario) (m : Moment) (me : Side) (i j : ℕ) → length (entry_of sc m me i j) ≤ 1
entry-once sc m me i j = by (sending_of sc m (other me) j)
  where
    by : (o : Option Sending) → length (option_to_list (option_map (coming_of sc me i j m.frame) o)) ≤ 1
    by None = omega arith
    by (Some x) = omega arith

pub if-sent : (b : Bool) (xs : List Coming) → length xs ≤ 1 → length (elim b as (λ _. List Coming) [ true ↦ xs | false ↦ [] ]) ≤ 1
if-sent true xs le = le
if-sent false xs le = omega arith

pub heard-few : {sc : _} → IsListed sc → (m : Moment) (me : Side) (i : ℕ) (span : Span) (sent : ℕ → Bool) (j : ℕ)
    → length (heard_so_far sc m me i span sent j) ≤ 1 + entries_of sc me i span j
heard-few {sc} listed m me i span sent j = by (is_good_at sc m (other me) j)
  where
    by : (b : Bool) → length (elim b as (λ _. List Coming) [
      | true ↦ elim (sent j) as (λ _. List Coming) [ true ↦ entry_of sc m me i j | false ↦ [] ]
      | false ↦ said_by sc me i span j
    ]) ≤ 1 + entries_of sc me i span j
    by true = let one = if-sent (sent j) (entry_of sc m me i j) (entry-once sc m me i j) in omega (arith, one)
    by false = let many = said-few listed me i span j in omega (arith, many)

pub ahead-few : (sc : Scenario) (m : Moment) (me : Side) (i : ℕ) (sent : ℕ → Bool) (j : ℕ) → length (ahead_so_far sc m me i sent j) ≤ 1
ahead-few sc m me i sent j = by (is_good_at sc m (other me) j)
  where
    by : (b : Bool) → length (elim b as (λ _. List Coming) [
      | true ↦ elim (sent j) as (λ _. List Coming) [ true ↦ entry_of sc m me i j | false ↦ [] ]
      | false ↦ []
    ]) ≤ 1
    by true = if-sent (sent j) (entry_of sc m me i j) (entry-once sc m me i j)
    by false = omega arith

-- A node.

pub few-where-it-stands : {sc : _} → IsListed sc → {hands sent now me i p s st a : _}
    → NodeStands sc hands sent now me i p s st a → length s.coming ≤ 2 * count_of (other me) sc.sizes + length sc.says
few-where-it-stands {sc} listed {hands} {sent} {me} {i} {p} {s} {st} h =
    let m : Moment = moment sc hands p in
    let next : Moment = moment sc hands (next_stage sc.sizes m p) in
    let span : Span = span_of st (window_in sc m me st) in
    let t : ℕ = time_of (clock_of sc me i) (last_tick sc m me st) in
    let n : ℕ = count_of (other me) sc.sizes in
    let heard : ℕ → List Coming = heard_so_far sc m me i span (λ j. sent (other me) j p) in
    let ahead : ℕ → List Coming = ahead_so_far sc next me i (λ j. sent (other me) j (next_stage sc.sizes m p)) in
    let each : (j : ℕ) → coming_of_source t s.coming j ≤ 2 + entries_of sc me i span j = λ j.
    let hears : Hears j t s.got s.coming (heard j) (ahead j) = h.receives.hears j in
    let as_many = hears.as_many in
    let later = ap length hears.later in
    let few = heard-few listed m me i span (λ j. sent (other me) j p) j in
    let one = ahead-few sc next me i (λ j. sent (other me) j (next_stage sc.sizes m p)) j in
    omega (arith, as_many, later, few, one) in
    let all = all-of-sources t n s.coming h.receives.known in
    let both = sum-plus (coming_of_source t s.coming) (λ _. 2) (entries_of sc me i span) n each in
    let twos = sum-twos n in
    let said = items-once (λ j. is_said me i j span) n (said-once me i span) sc.says in
    omega (arith, all, both, twos, said)
