-- The stages of one slot, whatever comes of the nodes that are not good: what good nodes take of
-- each other, and what each close makes.
use Rattle.std.proofs.{Common.{◌≡◌, ℕ, suc, ◌+◌, ◌<◌, ◌≤◌, ◌==◌, ◌&&◌, inl, inr, Bool, true, false, List, length, take, Option, Some, None, is_some, slice_set, get_or, if◌then◌else◌, refl, sym, ◌∙◌, ap, subst, arith}, lemmas.Bool.Decides.nat_tests, lemmas.List.get_or-set_same, Math.ListN.length-set}
use Rattle.rb_base.specs.{Nodes.{Side, other, has}, Nodes.Side.{Biu, Rmu}, Sizes.{Sizes, sync_slot_of}, declared.values.Heard.Heard, declared.values.Heard.TheVariants.Fault}
use Rattle.rb_base.proofs.Plain.{less-differs}
use Rattle.rb_rules.specs.{declared.role.Role.Role, declared.sense.Sense.Sense, ExactStage.{says_of, says, keep_sent, at_source, votes_in, reference_value, owners_after, close_exact, taken_of_sender}, NodeState.{NodeState, trusted_of, sender_at}, NodeSteps.close, Owners.owners_of, Slots.{Sender, expects, role_of, sender_in}, Slots.Sender.{Nobody, Node}, Standing.{does_wrong, is_unlike}}
use Rattle.rb_rules.proofs.{ExactStages.{idle_expects_nobody, vote_over_nothing}, RoundStates.{Stays, stays-trans, keeping-stays, close-stays}, Slots.{close-exact, other_twice}, Votes.closing_vote_is}
use Rattle.rb_laws_agreement.specs.{OneSlot.{Exchange, closes_in, state_after, takes_after, Brings, IsSpared, IsExchange, NoneIsAsymmetric, KeepsPremise, sender_of}, Values.vote_on}
use Rattle.rb_laws_agreement.proofs.{Tests.true_or_false, Goodnesses.{few_nodes, exact_role, single_sender}, ExactWindows.{IsSingle, expects_who_speaks, expected_at, closing_at, IsSenseOf, takes_what_is_said, does_right, sent_by, with_sent, keeping-is, ExactClose, exact_close, spares_right, spares_alike}, Exchanges.{trusted-either, far-trusted, eligible}, JudgedWindows.stays-trusted}

-- what node `j` of kind `me` says in stage q + 1, and the vote of a node's close of that stage
abbrev pub said : Exchange → ℕ → Side → ℕ → Option Heard
said x q me j = says x.sizes me j (state_after x q me j) x.slot (q + 1) (x.word j)

abbrev pub voted : Exchange → ℕ → Side → ℕ → Heard
voted x q me i = (closing_at x.sizes me (state_after x q me i) x.slot (q + 1) (x.came (q + 1) me i)).voted

-- good nodes are below 16
pub good-below : {x trusted owners : _} → IsExchange x trusted owners → (kind : Side) (j : ℕ) → x.good kind j ≡ true → j < 16
good-below e kind j g = omega (arith, e.numbered kind j g, few_nodes e.shape kind)

-- What all good nodes hold after some stages.

pub record Stands (x : Exchange) (trusted : Side → ℕ) (owners : List ℕ) (q : ℕ) : Type 0 where
  pub trusts : (me : Side) (i : ℕ) → x.good me i ≡ true → (kind : Side) → trusted_of kind me (state_after x q me i) ≡ trusted kind
  pub owners_are : q < 3 → (me : Side) (i : ℕ) → x.good me i ≡ true → (state_after x q me i).owners ≡ owners
  pub has_place : (me : Side) (i : ℕ) → x.good me i ≡ true → x.slot < length (state_after x q me i).votes
  pub spares : (me : Side) (i j : ℕ) → x.good me i ≡ true → x.good (other me) j ≡ true → IsSpared (state_after x q me i).far j

pub stands-first : {x trusted owners : _} → IsExchange x trusted owners → Stands x trusted owners 0
unfolding state_after
stands-first e = record {
  trusts = λ me i g. (e.holds me i g).trusts;
  owners_are = λ below me i g. (e.holds me i g).owners_are;
  has_place = λ me i g. (e.holds me i g).has_place;
  spares = λ me i j g h. (e.holds me i g).spares j h;
}

pub sender-held : {x trusted owners q : _} → Stands x trusted owners q → q < 3 → (me : Side) (i : ℕ) → x.good me i ≡ true
    → sender_at x.sizes me (state_after x q me i) x.slot ≡ sender_of x trusted owners
sender-held {x} {trusted} {q} s small me i g =
    let st : NodeState = state_after x q me i in
    ap (λ b. sender_in b (trusted_of me Rmu st) st.owners (role_of x.sizes x.slot)) (trusted-either me Biu st ∙ s.trusts me i g Biu)
    ∙ ap (λ r. sender_in (trusted Biu) r st.owners (role_of x.sizes x.slot)) (trusted-either me Rmu st ∙ s.trusts me i g Rmu)
    ∙ ap (λ o. sender_in (trusted Biu) (trusted Rmu) o (role_of x.sizes x.slot)) (s.owners_are small me i g)

pub single : {x trusted owners : _} → IsExchange x trusted owners → IsSingle (sender_of x trusted owners)
single {x} {trusted} {owners} e = single_sender (trusted Biu) (trusted Rmu) owners (role_of x.sizes x.slot) (exact_role x.sizes x.slot e.below)

-- What is heard of a good node.

sense-of : (source : NodeState) (slot stage : ℕ) (what : Option Heard) (sense : Sense) → Brings source slot stage what sense → IsSenseOf sense source slot stage what
sense-of source slot stage None sense b = b
sense-of source slot stage (Some value) sense b = record { stamp = b.0; is = b.1 }

-- a good node takes what a good source says, and finds no wrong in it
pub record HearsGood (x : Exchange) (q : ℕ) (me : Side) (i j : ℕ) : Type 0 where
  pub takes : takes_after x q me i j ≡ said x q (other me) j
  pub right : does_wrong (expected_at x.sizes me (state_after x q me i) x.slot (q + 1) j) (x.came (q + 1) me i j) ≡ false

pub hears-good : {x trusted owners q : _} → IsExchange x trusted owners → Stands x trusted owners q → q < 3
    → (me : Side) (i j : ℕ) → x.good me i ≡ true → x.good (other me) j ≡ true → HearsGood x q me i j
hears-good {x} {trusted} {owners} {q} e s small me i j g h =
    let st : NodeState = state_after x q me i in
    let source : NodeState = state_after x q (other me) j in
    let role : Role = role_of x.sizes x.slot in
    let sender : Sender = sender_of x trusted owners in
    let trusts : has st.far.trusted j ≡ true = ap (λ t. has t j) (far-trusted me st ∙ s.trusts me i g (other me)) ∙ e.trusts_good (other me) j h in
    let clear : has st.far.direct j ≡ false = (s.spares me i j g h).direct in
    let what : Option Heard = said x q (other me) j in
    let expected : expected_at x.sizes me st x.slot (q + 1) j ≡ is_some what =
    ap (λ y. expects me role y st.far.trusted (q + 1) j) (sender-held s small me i g)
    ∙ expects_who_speaks me role sender st.far.trusted j source x.slot q (x.word j) small (single e) trusts
    ∙ ap (λ y. is_some (says_of (other me) j source x.slot role y (q + 1) (x.word j))) (sym (sender-held s small (other me) j h)) in
    let sense : IsSenseOf (x.came (q + 1) me i j) source x.slot (q + 1) what = sense-of source x.slot (q + 1) what (x.came (q + 1) me i j) (e.hears q me i j small g h) in
    record {
      takes = takes_what_is_said st.far (expected_at x.sizes me st x.slot (q + 1)) (x.came (q + 1) me i) source x.slot (q + 1) j what expected
          (eligible st.far j trusts clear) sense;
      right = does_right (x.came (q + 1) me i j) source x.slot (q + 1) what expected sense;
    }

-- good nodes of kind `me` take the same of each node of a kind that is not good
abbrev pub TakeAlike : Exchange → Side → Side → Type 0
TakeAlike x kind me =
    (q a b j : ℕ) → q < 3 → x.good me a ≡ true → x.good me b ≡ true → x.good kind j ≡ false → takes_after x q me a j ≡ takes_after x q me b j

-- if no node of the other kind is asymmetric, good nodes take the same from each source
pub takes-alike : {x trusted owners q : _} → IsExchange x trusted owners → Stands x trusted owners q → q < 3
    → (me : Side) → NoneIsAsymmetric x (other me) → (a b j : ℕ) → x.good me a ≡ true → x.good me b ≡ true → takes_after x q me a j ≡ takes_after x q me b j
takes-alike {x} {q} e s small me none a b j g h =
    elim (true_or_false (x.good (other me) j)) [
      | inl good ↦ (hears-good e s small me a j g good).takes ∙ sym (hears-good e s small me b j h good).takes
      | inr faulty ↦ let alike : TakeAlike x (other me) me = subst (TakeAlike x (other me)) (other_twice me) none in alike q a b j small g h faulty
    ]

-- What a close makes.

pub parts : (x : Exchange) (q : ℕ) (me : Side) (i : ℕ)
    → ExactClose x.sizes me i (state_after x q me i) (sent_by x.sizes me i (state_after x q me i) x.slot (q + 1) (x.word i)) x.slot (q + 1) (x.came (q + 1) me i)
    (closes_in x (q + 1) me i (state_after x q me i))
parts x q me i =
    let st : NodeState = state_after x q me i in
    let sent : Option Heard = sent_by x.sizes me i st x.slot (q + 1) (x.word i) in
    subst (λ k. ExactClose x.sizes me i st sent x.slot (q + 1) (x.came (q + 1) me i) (close_exact x.sizes me i k x.slot (q + 1) (x.came (q + 1) me i)))
    (sym (keeping-is x.sizes me i st x.slot (q + 1) (x.word i))) (exact_close x.sizes me i st sent x.slot (q + 1) (x.came (q + 1) me i))

-- the value with which a node compares what it takes in stage q + 1
abbrev pub reference_in : Exchange → ℕ → Side → ℕ → Option Heard
reference_in x q me i =
    let st = state_after x q me i in
    reference_value me i (with_sent st (sent_by x.sizes me i st x.slot (q + 1) (x.word i))) (role_of x.sizes x.slot) (sender_at x.sizes me st x.slot) (q + 1)
    (closing_at x.sizes me st x.slot (q + 1) (x.came (q + 1) me i))

-- good nodes take nothing else from good nodes than the value with which they compare
abbrev pub NoneUnlike : Exchange → ℕ → Type 0
NoneUnlike x q =
    (me : Side) (i j : ℕ) → x.good me i ≡ true → x.good (other me) j ≡ true
    → (value : Heard) → reference_in x q me i ≡ Some value → is_unlike value (takes_after x q me i j) ≡ false

-- a stage leaves the frame and the trusted nodes as they are
pub stays : {x trusted owners : _} (q : ℕ) → IsExchange x trusted owners → (me : Side) (i : ℕ)
    → Stays (state_after x q me i) (closes_in x (q + 1) me i (state_after x q me i)).state
stays {x} q e me i =
    let st : NodeState = state_after x q me i in
    let kept : NodeState = keep_sent x.sizes me i st x.slot (q + 1) (x.word i) in
    let exact : close x.sizes me i kept x.slot (q + 1) 0 (x.came (q + 1) me i) ≡ close_exact x.sizes me i kept x.slot (q + 1) (x.came (q + 1) me i) =
    close-exact x.sizes me i kept x.slot (q + 1) 0 (x.came (q + 1) me i) (less-differs x.slot (sync_slot_of x.sizes) e.below) in
    stays-trans st kept (closes_in x (q + 1) me i st).state (keeping-stays x.sizes me i st x.slot (q + 1) (x.word i))
    (subst (λ o. Stays kept o.state) exact (close-stays x.sizes me i kept x.slot (q + 1) 0 (x.came (q + 1) me i)))

same-owners : (sizes : Sizes) (me : Side) (st : NodeState) (slot stage : ℕ) (votes : List Heard) → (stage == 3) ≡ false → owners_after sizes me st slot stage votes ≡ st.owners
same-owners sizes me st slot stage votes early =
    ap (λ b. if b && (slot + 1 == sizes.bius) then owners_of sizes (trusted_of me Biu st) (take sizes.bius votes) else st.owners) early

same-length : (b : Bool) (votes : List Heard) (slot : ℕ) (v : Heard) → length (if b then slice_set votes slot v else votes) ≡ length votes
same-length true votes slot v = length-set votes slot v
same-length false votes slot v = refl

pub stands-next : {x trusted owners q : _} → IsExchange x trusted owners → Stands x trusted owners q → q < 3 → NoneUnlike x q
    → Stands x trusted owners (suc q)
unfolding state_after
stands-next {x} {q} e s small none = record {
  trusts = λ me i g kind. stays-trusted kind me (stays q e me i) ∙ s.trusts me i g kind;
  owners_are = λ below me i g.
      let early : (q + 1 == 3) ≡ false = grind (arith, nat_tests) in
      (parts x q me i).owners ∙ same-owners x.sizes me (state_after x q me i) x.slot (q + 1) _ early ∙ s.owners_are small me i g;
  has_place = λ me i g.
      let place : x.slot < length (state_after x q me i).votes = s.has_place me i g in
      let same : length (closes_in x (q + 1) me i (state_after x q me i)).state.votes ≡ length (state_after x q me i).votes =
      ap length (parts x q me i).votes ∙ same-length (votes_in me (role_of x.sizes x.slot) (q + 1)) (state_after x q me i).votes x.slot (voted x q me i) in
      omega arith;
  spares = λ me i j g h.
      let st : NodeState = state_after x q me i in
      let below : j < 16 = good-below e (other me) j h in
      record {
        direct = ap (λ f. has f.direct j) (parts x q me i).far
            ∙ spares_right (reference_in x q me i) st.far (expected_at x.sizes me st x.slot (q + 1)) (x.came (q + 1) me i) j below
            (hears-good e s small me i j g h).right (s.spares me i j g h).direct;
        mismatch = ap (λ f. has f.mismatch j) (parts x q me i).far
            ∙ spares_alike (reference_in x q me i) st.far (expected_at x.sizes me st x.slot (q + 1)) (x.came (q + 1) me i) j below
            (none me i j g h) (s.spares me i j g h).mismatch;
      };
}

-- Votes.

-- a node that votes in a stage holds the vote of its close
pub vote-held : {x trusted owners q : _} → Stands x trusted owners q → (me : Side) (i : ℕ) → x.good me i ≡ true
    → votes_in me (role_of x.sizes x.slot) (q + 1) ≡ true → vote_on (state_after x (suc q) me i) x.slot ≡ voted x q me i
unfolding state_after
vote-held {x} {q} s me i g votes =
    ap (λ v. get_or v x.slot Fault) (parts x q me i).votes
    ∙ ap (λ b. get_or (if b then slice_set (state_after x q me i).votes x.slot (voted x q me i) else (state_after x q me i).votes) x.slot Fault) votes
    ∙ get_or-set_same (state_after x q me i).votes x.slot (voted x q me i) Fault (s.has_place me i g)

pub vote-kept : (x : Exchange) (q : ℕ) (me : Side) (i : ℕ) → votes_in me (role_of x.sizes x.slot) (q + 1) ≡ false
    → vote_on (state_after x (suc q) me i) x.slot ≡ vote_on (state_after x q me i) x.slot
unfolding state_after
vote-kept x q me i votes =
    ap (λ v. get_or v x.slot Fault) (parts x q me i).votes
    ∙ ap (λ b. get_or (if b then slice_set (state_after x q me i).votes x.slot (voted x q me i) else (state_after x q me i).votes) x.slot Fault) votes

-- if all good sources say one value, this is the vote
pub all-vote : {x trusted owners q : _} → IsExchange x trusted owners → KeepsPremise x → Stands x trusted owners q → 1 ≤ q → q < 3
    → (me : Side) (value : Heard) → ((j : ℕ) → x.good (other me) j ≡ true → said x q (other me) j ≡ Some value)
    → (i : ℕ) → x.good me i ≡ true → voted x q me i ≡ value
all-vote {x} {q} e p s late small me value says_it i g =
    closing_vote_is (state_after x q me i).far (expected_at x.sizes me (state_after x q me i) x.slot (q + 1)) (x.came (q + 1) me i) (x.good (other me)) value
    (λ j h. (hears-good e s small me i j g h).takes ∙ says_it j h) (p.most q me i late small g)

-- in an idle slot the vote is Fault
pub idle-vote : {x trusted owners q : _} → Stands x trusted owners q → q < 3 → sender_of x trusted owners ≡ Nobody
    → (me : Side) (i : ℕ) → x.good me i ≡ true → voted x q me i ≡ Fault
idle-vote {x} {q} s small idle me i g =
    let st : NodeState = state_after x q me i in
    vote_over_nothing st.far (expected_at x.sizes me st x.slot (q + 1)) (x.came (q + 1) me i)
    (λ j. ap (λ y. expects me (role_of x.sizes x.slot) y st.far.trusted (q + 1) j) (sender-held s small me i g ∙ idle)
    ∙ idle_expects_nobody me (role_of x.sizes x.slot) st.far.trusted (q + 1) j)

-- what a relay has got after stage 1 is what it took of the sender
pub got-is : {x trusted owners : _} → IsExchange x trusted owners → Stands x trusted owners 0 → (p : ℕ) → sender_of x trusted owners ≡ Node p
    → (me : Side) (i : ℕ) → x.good me i ≡ true → (state_after x 1 me i).got ≡ at_source (closing_at x.sizes me (state_after x 0 me i) x.slot 1 (x.came 1 me i)).taken p
unfolding state_after
got-is {x} e s p sender me i g =
    (parts x 0 me i).got
    ∙ ap (λ y. taken_of_sender y (closing_at x.sizes me (state_after x 0 me i) x.slot 1 (x.came 1 me i)))
    (sender-held s (omega arith) me i g ∙ sender)

-- a sender keeps what it says
pub sent-is : (x : Exchange) (me : Side) (i : ℕ) {value : _} → said x 0 me i ≡ Some value → (state_after x 1 me i).sent ≡ Some value
unfolding state_after
sent-is x me i says_it = (parts x 0 me i).sent_after ∙ ap (λ o. if is_some o then o else (state_after x 0 me i).sent) says_it
