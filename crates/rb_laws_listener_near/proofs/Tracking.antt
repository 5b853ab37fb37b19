-- A listener before a window below the sync slot, beside nodes that agree: what it takes of good
-- RMUs, and what it votes if they say one value.
use Rattle.std.proofs.{Common.{◌≡◌, ℕ, ◌+◌, ◌*◌, ◌<◌, ◌≤◌, ◌&&◌, not, nat_lt, Bool, true, false, Option, Some, is_some, length, slice_get, sym, ◌∙◌, ap, arith}, lemmas.Bool.{lt-ltb, not-true}}
use Rattle.rb_base.specs.{Counting.{count_if, numbers}, Nodes.{has, set_of, size}, Nodes.Side.{Biu, Rmu}, Sizes.sync_slot_of, declared.values.Heard.Heard}
use Rattle.rb_base.proofs.{Sets.has-set_of, SetSizes.{size_apart, size_first}, Plain.{and_first, and_second, less-same}}
use Rattle.rb_rules.specs.{declared.sense.Sense.Sense, Book.of_kind, ExactStage.{says, says_of}, Goodness.{Scenario, is_good}, NodeState.{NodeState, sender_at}, Rounds.{Moment, after_window}, Slots.{Sender, expects, role_of, sender_in}, Standing.does_wrong}
use Rattle.rb_rules.proofs.Votes.{closing_vote_is}
use Rattle.rb_laws_agreement.proofs.{Tests.Present, Numbers.{how_many, how_many-is}, NodeWindows.word_at, Invariant.{Shared, sender_of, IsGoodNode, is_good_now, Holds, slot_numbered}, ExactWindows.{IsSingle, IsSenseOf, closing_at, does_right, expected_at, expects_who_speaks, take_at, takes_what_is_said}, Goodnesses.{exact_role, good_counts, single_sender, slot_here}, Exchanges.{eligible, sender-held, taken_is_trusted}, StageVotes.how_many-count, Settings.{Setting, good_state}, SecondStages.{GoodOne, some_good}, NextMoments.{next, was_good}}
use Rattle.rb_laws_listener_near.specs.Holding.{HoldAlike}

-- a listener before a window: it holds what each good BIU holds, and accuses no good RMU directly
pub record Tracks (sc : Scenario) (m : Moment) (st : NodeState) : Type 0 where
  pub like : (i : ℕ) (b : NodeState) → IsGoodNode sc m Biu i b → HoldAlike st b
  pub spares : (j : ℕ) → is_good_now sc m Rmu j ≡ true → has st.far.direct j ≡ false

-- RMU `j` is good in the next moment
abbrev pub stays_good : Scenario → Moment → ℕ → Bool
stays_good sc m j = is_good_now sc (next sc m) Rmu j

-- the listener senses what the RMUs that stay good say
abbrev pub Senses : Scenario → Moment → ℕ → ℕ → (ℕ → Sense) → Type 0
Senses sc m slot q sense =
    (j : ℕ) (source : NodeState) → IsGoodNode sc m Rmu j source → stays_good sc m j ≡ true
    → IsSenseOf (sense j) source slot (q + 1) (says sc.sizes Rmu j source slot (q + 1) (word_at sc m slot j))

-- the RMUs that stay good are more than half of all RMUs
abbrev pub MostStay : Scenario → Moment → Type 0
MostStay sc m = sc.sizes.rmus < 2 * how_many (stays_good sc m)

-- the state holds what all good nodes share
pub record Held (sc : Scenario) (m : Moment) (s : Shared) (st : NodeState) : Type 0 where
  pub frame : st.frame ≡ m.frame
  pub near : st.near ≡ s.trusted Biu
  pub far : st.far.trusted ≡ s.trusted Rmu
  pub owners : st.owners ≡ s.owners
  pub long : length st.votes ≡ sync_slot_of sc.sizes

pub held-by : {sc m s st b : _} → Holds sc m s Biu b → HoldAlike st b → Held sc m s st
held-by h like = record {
  frame = like.frame ∙ h.frame;
  near = like.near ∙ h.trusted Biu;
  far = like.far ∙ h.trusted Rmu;
  owners = like.owners ∙ h.owners;
  long = ap length like.votes ∙ h.long;
}

pub held : {sc hands n m s slot q : _} → Setting sc hands n m s slot q → {st : _} → Tracks sc m st → Held sc m s st
held {sc} {m} c t =
    let g : GoodOne sc m Biu = some_good c Biu in
    held-by (c.agree.nodes Biu g.index g.st g.here) (t.like g.index g.st g.here)

-- a state with what the good nodes share knows the sender of a slot
pub sender-here : {sc m s st : _} (slot : ℕ) → Held sc m s st → sender_at sc.sizes Biu st slot ≡ sender_of sc.sizes s slot
sender-here {sc} {s} {st} slot h =
    ap (λ b. sender_in b st.far.trusted st.owners (role_of sc.sizes slot)) h.near
    ∙ ap (λ r. sender_in (s.trusted Biu) r st.owners (role_of sc.sizes slot)) h.far
    ∙ ap (λ o. sender_in (s.trusted Biu) (s.trusted Rmu) o (role_of sc.sizes slot)) h.owners

-- What it takes.

-- what an RMU says is taken, and is no wrong
pub record IsTaken (sc : Scenario) (m : Moment) (slot stage : ℕ) (st source : NodeState) (sense : ℕ → Sense) (j : ℕ) : Type 0 where
  pub takes : take_at sc.sizes Biu st slot stage sense j ≡ says sc.sizes Rmu j source slot stage (word_at sc m slot j)
  pub right : does_wrong (expected_at sc.sizes Biu st slot stage j) (sense j) ≡ false

pub is_taken : {sc hands n m s slot q : _} → Setting sc hands n m s slot q
    → {st : _} → Tracks sc m st → {sense : _} → Senses sc m slot q sense
    → {j source : _} → IsGoodNode sc m Rmu j source → stays_good sc m j ≡ true → IsTaken sc m slot (q + 1) st source sense j
is_taken {sc} {m} {s} {slot} {q} c {st} t {sense} senses {j} {source} there stays =
    let sender : Sender = sender_of sc.sizes s slot in
    let h : Held sc m s st = held c t in
    let trusts : has st.far.trusted j ≡ true = ap (λ x. has x j) h.far ∙ c.agree.trusted Rmu j there.good in
    let single : IsSingle sender = single_sender (s.trusted Biu) (s.trusted Rmu) s.owners (role_of sc.sizes slot) (exact_role sc.sizes slot c.below) in
    let said : Option Heard = says sc.sizes Rmu j source slot (q + 1) (word_at sc m slot j) in
    let expected : expected_at sc.sizes Biu st slot (q + 1) j ≡ is_some said =
    ap (λ x. expects Biu (role_of sc.sizes slot) x st.far.trusted (q + 1) j) (sender-here slot h)
    ∙ expects_who_speaks Biu (role_of sc.sizes slot) sender st.far.trusted j source slot q (word_at sc m slot j) c.small single trusts
    ∙ ap (λ x. is_some (says_of Rmu j source slot (role_of sc.sizes slot) x (q + 1) (word_at sc m slot j))) (sym (sender-held slot (c.agree.nodes Rmu j source there))) in
    let is : IsSenseOf (sense j) source slot (q + 1) said = senses j source there stays in
    record {
      takes = takes_what_is_said st.far (expected_at sc.sizes Biu st slot (q + 1)) sense source slot (q + 1) j said expected (eligible st.far j trusts (t.spares j there.good)) is;
      right = does_right (sense j) source slot (q + 1) said expected is;
    }

-- an RMU that is good in stage 1 or 2 stays good
pub good_stays : {sc hands n m s slot q : _} → Setting sc hands n m s slot q → q < 2 → (j : ℕ)
    → is_good_now sc m Rmu j ≡ true → stays_good sc m j ≡ true
unfolding after_window
good_stays {sc} {m} {slot} {q} c early j good =
    let at : m.window ≡ 3 * slot + q = c.at in
    let now : slot_numbered sc.sizes m.window ≡ slot = slot_here sc.sizes slot q c.below c.small at in
    let then : slot_numbered sc.sizes (m.window + 1) ≡ slot = slot_here sc.sizes slot (q + 1) c.below (omega arith) (omega arith) in
    ap (is_good sc Rmu j m.frame) (then ∙ sym now) ∙ good

-- What it votes.

abbrev pub listener_vote : Scenario → ℕ → ℕ → NodeState → (ℕ → Sense) → Heard
listener_vote sc slot q st sense = (closing_at sc.sizes Biu st slot (q + 1) sense).voted

pub outnumbered : (a b total : ℕ) → a + b ≤ total → total < 2 * b → a < b
outnumbered a b total h k = omega arith

-- if the good RMUs say one value, the listener votes for it
pub listener_votes : {sc hands n m s slot q : _} → Setting sc hands n m s slot q → MostStay sc m
    → {st : _} → Tracks sc m st → (sense : ℕ → Sense) → Senses sc m slot q sense → (value : Heard)
    → ((j : ℕ) (source : NodeState) → IsGoodNode sc m Rmu j source → says sc.sizes Rmu j source slot (q + 1) (word_at sc m slot j) ≡ Some value)
    → listener_vote sc slot q st sense ≡ value
listener_votes {sc} {m} {s} {slot} {q} c most {st} t sense senses value said =
    let good : ℕ → Bool = stays_good sc m in
    let taken : ℕ → Option Heard = take_at sc.sizes Biu st slot (q + 1) sense in
    let others : ℕ → Bool = λ j. not (good j) && is_some (taken j) in
    let all : ℕ = set_of (λ i. nat_lt i sc.sizes.rmus) in
    let h : Held sc m s st = held c t in
    let one : (j : ℕ) → good j ≡ true → taken j ≡ Some value =
    λ j g.
    let was : is_good_now sc m Rmu j ≡ true = was_good sc m Rmu j g in
    let there : Present (slice_get (of_kind Rmu m.nodes) j) = good_state c.agree Rmu j was in
    let source : IsGoodNode sc m Rmu j there.value = record { there = there.is; good = was } in
    (is_taken c t senses source g).takes ∙ said j there.value source in
    let total : size all ≡ sc.sizes.rmus = size_first sc.sizes.rmus c.law.sizes.most_rmus in
    let apart : size (set_of others) + size (set_of good) ≤ size all =
    size_apart all (set_of others) (set_of good)
    (λ j below is.
    let some : is_some (taken j) ≡ true = and_second (not (good j)) (is_some (taken j)) (sym (has-set_of j others below) ∙ is) in
    let trusted : has (s.trusted Rmu) j ≡ true = ap (λ x. has x j) (sym h.far) ∙ taken_is_trusted st.far (expected_at sc.sizes Biu st slot (q + 1)) sense j some in
    has-set_of j (λ i. nat_lt i sc.sizes.rmus) below ∙ lt-ltb j sc.sizes.rmus (c.agree.inside Rmu j trusted))
    (λ j below is.
    let g : good j ≡ true = sym (has-set_of j good below) ∙ is in
    has-set_of j (λ i. nat_lt i sc.sizes.rmus) below
    ∙ lt-ltb j sc.sizes.rmus (good_counts sc Rmu j m.frame (slot_numbered sc.sizes m.window) (was_good sc m Rmu j g)))
    (λ j below is.
    has-set_of j good below ∙ not-true (good j) (and_first (not (good j)) (is_some (taken j)) (sym (has-set_of j others below) ∙ is))) in
    let fewer : how_many others < how_many good =
    outnumbered (how_many others) (how_many good) sc.sizes.rmus (omega (arith, apart, total, how_many-is others, how_many-is good)) most in
    closing_vote_is st.far (expected_at sc.sizes Biu st slot (q + 1)) sense good value one
    (less-same (how_many others) (count_if others (numbers 16)) (how_many good) (count_if good (numbers 16)) (how_many-count others) (how_many-count good) fewer)
