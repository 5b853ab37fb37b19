-- One slot, whatever comes of the nodes that are not good: agreement, validity, and no good node is
-- accused.
use Rattle.std.proofs.{Common.{◌≡◌, ℕ, zero, suc, ◌<◌, ◌≤◌, ◌&&◌, ◌⊎◌, inl, inr, Bool, true, false, List, Option, Some, None, unwrap_or, if◌then◌else◌, refl, sym, ◌∙◌, ap, subst, arith}, lemmas.Bool.cases_lt, lemmas.Option.same_Some}
use Rattle.std.specs.List.{list_any}
use Rattle.rb_base.specs.{Counting.{count_if, numbers}, Nodes.{Side, other}, Nodes.Side.{Biu, Rmu}, declared.values.Delivery.Delivery, declared.values.Heard.Heard, declared.values.Heard.TheVariants.Fault}
use Rattle.rb_base.proofs.Plain.{and_first}
use Rattle.rb_rules.specs.{declared.role.Role.Role, declared.role.Role.TheVariants.Data, ExactStage.{at_source, delivery_of, is_sender, votes_in}, NodeState.{NodeState, sender_at}, Slots.{Sender, same_side, has_third_stage, listens, role_of, sender_kind}, Slots.Sender.{Nobody, Node, EachTrusted}, Standing.is_unlike, StandsFor.votes_on}
use Rattle.rb_rules.proofs.{Slots.{one_or_other, other_twice, same_side_other}, Votes.{closing_vote_is, same_vote, taken_at}}
use Rattle.rb_laws_agreement.specs.{OneSlot.{AccuseNoGoodNode, DeliverTheirVotes, Exchange, GoodOutnumber, IsExchange, KeepsPremise, NoneIsAsymmetric, OneSlotAgrees, VotesAgree, VotesAreValid, delivered_by, sender_of, state_after, takes_after, value_sent, vote_after}, Values.vote_on}
use Rattle.rb_laws_agreement.proofs.{ExactWindows.{IsSingle, expected_at, closing_at}, FirstStages.nothing-past, Numbers.{how_many, one_of_many}, OneSlotStages.{NoneUnlike, Stands, all-vote, good-below, got-is, hears-good, idle-vote, parts, said, sender-held, sent-is, single, stands-first, stands-next, stays, takes-alike, vote-held, vote-kept, voted}, SecondStages.{sender-is, voters-vote}, Speaking.{IsOnly, got_is_said, listens_third, only-alike, own_is_said, says_got, says_vote, vote_is_said, voters_deaf}, StageVotes.how_many-count, Tests.{Passing, passes_at, passing, true_or_false}, ThirdStages.third-voted}

-- One stage.

pub votes-are-valid : VotesAreValid
votes-are-valid s expected sense good value said more = closing_vote_is s expected sense good value said more

pub votes-agree : VotesAgree
votes-agree s t mine yours a b same = same_vote s t mine yours a b same

-- The kinds of a slot.

-- the kind that sends in stage 1 and votes in stage 2; the other one relays
abbrev pub kind_in : Exchange → Side
kind_in x = sender_kind (role_of x.sizes x.slot)

good-twice : (x : Exchange) (k : Side) (j : ℕ) → x.good k j ≡ true → x.good (other (other k)) j ≡ true
good-twice x k j g = ap (λ k. x.good k j) (other_twice k) ∙ g

-- Stage 1.

none-unlike-1 : (x : Exchange) → NoneUnlike x 0
none-unlike-1 x me i j g h value reference = none value reference
  where
    none : {P : Type 0} (value : Heard) → None ≡ Some value → P
    none value h = cc

-- what relays have got
got-alike : {x trusted owners : _} (e : IsExchange x trusted owners) (s : Stands x trusted owners 0) (p : ℕ) → sender_of x trusted owners ≡ Node p
    → NoneIsAsymmetric x (kind_in x) → (a b : ℕ) → x.good (other (kind_in x)) a ≡ true → x.good (other (kind_in x)) b ≡ true
    → (state_after x 1 (other (kind_in x)) a).got ≡ (state_after x 1 (other (kind_in x)) b).got
got-alike {x} e s p sender none a b g h =
    got-is e s p sender me a g ∙ at-sender (cases_lt p 16) ∙ sym (got-is e s p sender me b h)
  where
    me : Side
    me = other (kind_in x)

    alike : NoneIsAsymmetric x (other me)
    alike = subst (NoneIsAsymmetric x) (sym (other_twice (kind_in x))) none

    at-sender : (p < 16) ⊎ (16 ≤ p)
        → at_source (closing_at x.sizes me (state_after x 0 me a) x.slot 1 (x.came 1 me a)).taken p
        ≡ at_source (closing_at x.sizes me (state_after x 0 me b) x.slot 1 (x.came 1 me b)).taken p
    at-sender (inl small) =
        taken_at (state_after x 0 me a).far (expected_at x.sizes me (state_after x 0 me a) x.slot 1) (x.came 1 me a) p small
        ∙ takes-alike e s (omega arith) me alike a b p g h
        ∙ sym (taken_at (state_after x 0 me b).far (expected_at x.sizes me (state_after x 0 me b) x.slot 1) (x.came 1 me b) p small)
    at-sender (inr past) =
        nothing-past (state_after x 0 me a).far (expected_at x.sizes me (state_after x 0 me a) x.slot 1) (x.came 1 me a) p past
        ∙ sym (nothing-past (state_after x 0 me b).far (expected_at x.sizes me (state_after x 0 me b) x.slot 1) (x.came 1 me b) p past)

-- a good sender says its own value
sender-says : {x trusted owners : _} (s : Stands x trusted owners 0) (p : ℕ) → sender_of x trusted owners ≡ Node p
    → x.good (kind_in x) p ≡ true → said x 0 (kind_in x) p ≡ Some (value_sent x p)
unfolding state_after
sender-says {x} s p sender good =
    own_is_said x.sizes p (x.before (kind_in x) p) x.slot (x.word p)
    (sender-held s (omega arith) (kind_in x) p good ∙ sender) refl

-- all good relays have got the value of a good sender
got-own : {x trusted owners : _} (e : IsExchange x trusted owners) (s : Stands x trusted owners 0) (p : ℕ) → sender_of x trusted owners ≡ Node p
    → x.good (kind_in x) p ≡ true → (i : ℕ) → x.good (other (kind_in x)) i ≡ true → (state_after x 1 (other (kind_in x)) i).got ≡ Some (value_sent x p)
got-own {x} e s p sender good i g =
    let me : Side = other (kind_in x) in
    got-is e s p sender me i g
    ∙ taken_at (state_after x 0 me i).far (expected_at x.sizes me (state_after x 0 me i) x.slot 1) (x.came 1 me i) p (good-below e (kind_in x) p good)
    ∙ (hears-good e s (omega arith) me i p g (good-twice x (kind_in x) p good)).takes
    ∙ ap (λ k. said x 0 k p) (other_twice (kind_in x)) ∙ sender-says s p sender good

-- Stage 2.

relay-says : {x trusted owners : _} (s : Stands x trusted owners 1) (p : ℕ) → sender_of x trusted owners ≡ Node p
    → (j : ℕ) → x.good (other (kind_in x)) j ≡ true → said x 1 (other (kind_in x)) j ≡ Some (unwrap_or (state_after x 1 (other (kind_in x)) j).got Fault)
relay-says {x} s p sender j g =
    got_is_said x.sizes (other (kind_in x)) j p (state_after x 1 (other (kind_in x)) j) x.slot (x.word j)
    (sender-held s (omega arith) (other (kind_in x)) j g ∙ sender) (other_twice (kind_in x))

-- if all good nodes of the other kind got the same, the voters vote for it
voted-for : {x trusted owners : _} → IsExchange x trusted owners → KeepsPremise x → Stands x trusted owners 1
    → (p : ℕ) → sender_of x trusted owners ≡ Node p
    → (got : Option Heard) → ((j : ℕ) → x.good (other (kind_in x)) j ≡ true → (state_after x 1 (other (kind_in x)) j).got ≡ got)
    → (i : ℕ) → x.good (kind_in x) i ≡ true → voted x 1 (kind_in x) i ≡ unwrap_or got Fault
voted-for {x} e pr s p sender got all i g =
    all-vote e pr s (omega arith) (omega arith) (kind_in x) (unwrap_or got Fault)
    (λ j h. relay-says s p sender j h ∙ ap (λ o. Some (unwrap_or o Fault)) (all j h)) i g

-- if a node of a kind is good, some node of the other kind is good
some-source : {x : _} → KeepsPremise x → (q : ℕ) → 1 ≤ q → q < 3 → (me : Side) (i : ℕ) → x.good me i ≡ true → Passing (x.good (other me)) 0 16
some-source {x} pr q late small me i g =
    let more : GoodOutnumber (x.good (other me)) (takes_after x q me i) = pr.most q me i late small g in
    let all : how_many (x.good (other me)) ≡ count_if (x.good (other me)) (numbers 16) = how_many-count (x.good (other me)) in
    one_of_many (x.good (other me)) (omega arith)

-- the kind without asymmetric nodes is that of the sender, or the other one
one-kind : (x : Exchange) (k : Side) → NoneIsAsymmetric x Biu ⊎ NoneIsAsymmetric x Rmu → NoneIsAsymmetric x k ⊎ NoneIsAsymmetric x (other k)
one-kind x Biu (inl h) = inl h
one-kind x Biu (inr h) = inr h
one-kind x Rmu (inl h) = inr h
one-kind x Rmu (inr h) = inl h

-- all voters vote alike
voters-alike : {x trusted owners : _} → IsExchange x trusted owners → KeepsPremise x → Stands x trusted owners 0 → Stands x trusted owners 1
    → (a b : ℕ) → x.good (kind_in x) a ≡ true → x.good (kind_in x) b ≡ true → voted x 1 (kind_in x) a ≡ voted x 1 (kind_in x) b
voters-alike {x} {trusted} {owners} e pr s0 s1 a b g h = go (sender_of x trusted owners) refl
  where
    k : Side
    k = kind_in x

    one : (p : ℕ) → sender_of x trusted owners ≡ Node p → NoneIsAsymmetric x k ⊎ NoneIsAsymmetric x (other k) → voted x 1 k a ≡ voted x 1 k b
    one p sender (inl none) =
        let r : Passing (x.good (other k)) 0 16 = some-source pr 1 (omega arith) (omega arith) k a g in
        let same : (j : ℕ) → x.good (other k) j ≡ true → (state_after x 1 (other k) j).got ≡ (state_after x 1 (other k) r.at).got =
        λ j good. got-alike e s0 p sender none j r.at good r.passes in
        voted-for e pr s1 p sender (state_after x 1 (other k) r.at).got same a g
        ∙ sym (voted-for e pr s1 p sender (state_after x 1 (other k) r.at).got same b h)
    one p sender (inr none) =
        same_vote (state_after x 1 k a).far (state_after x 1 k b).far (expected_at x.sizes k (state_after x 1 k a) x.slot 2) (expected_at x.sizes k (state_after x 1 k b) x.slot 2)
        (x.came 2 k a) (x.came 2 k b) (λ j small. takes-alike e s1 (omega arith) k none a b j g h)

    go : (sender : Sender) → sender_of x trusted owners ≡ sender → voted x 1 k a ≡ voted x 1 k b
    go Nobody idle = idle-vote s1 (omega arith) idle k a g ∙ sym (idle-vote s1 (omega arith) idle k b h)
    go (Node p) sender = one p sender (one-kind x k pr.one_kind)
    go EachTrusted each = absurd (subst IsSingle each (single e))

-- no good relay is accused
none-unlike-2 : {x trusted owners : _} → IsExchange x trusted owners → Stands x trusted owners 0 → Stands x trusted owners 1 → NoneUnlike x 1
none-unlike-2 {x} {trusted} {owners} e s0 s1 me i j g h value reference =
    let role : Role = role_of x.sizes x.slot in
    let st : NodeState = state_after x 1 me i in
    let is : (is_sender me i role (sender_at x.sizes me st x.slot) ≡ true) × (st.sent ≡ Some value) =
    by_test (is_sender me i role (sender_at x.sizes me st x.slot)) st.sent reference in
    let mine : (sender_at x.sizes me st x.slot ≡ Node i) × (me ≡ kind_in x) = sender-is me i role (sender_at x.sizes me st x.slot) is.0 in
    let sender : sender_of x trusted owners ≡ Node i = sym (sender-held s1 (omega arith) me i g) ∙ mine.0 in
    let own : x.good (kind_in x) i ≡ true = ap (λ k. x.good k i) (sym mine.1) ∙ g in
    let relay : x.good (other (kind_in x)) j ≡ true = ap (λ k. x.good (other k) j) (sym mine.1) ∙ h in
    let sent : st.sent ≡ Some (value_sent x i) =
    ap (λ k. (state_after x 1 k i).sent) mine.1 ∙ sent-is x (kind_in x) i (sender-says s0 i sender own) in
    let same : value_sent x i ≡ value = same_Some (value_sent x i) value (sym sent ∙ is.1) in
    let got : (state_after x 1 (other me) j).got ≡ Some value =
    ap (λ k. (state_after x 1 (other k) j).got) mine.1 ∙ got-own e s0 i sender own j relay ∙ ap Some same in
    let says_it : IsOnly (said x 1 (other me) j) value =
    subst (IsOnly (said x 1 (other me) j)) (ap (λ o. unwrap_or o Fault) got) (says_got x.sizes (other me) j (state_after x 1 (other me) j) x.slot (x.word j)) in
    ap (is_unlike value) (hears-good e s1 (omega arith) me i j g h).takes ∙ only-alike says_it
  where
    by_test : (b : Bool) (sent : Option Heard) → (if b then sent else None) ≡ Some value → (b ≡ true) × (sent ≡ Some value)
    by_test true sent h = (refl, h)
    by_test false sent h = cc

-- Stage 3.

-- all good voters have voted for `value` in stage 2, and it is Fault in an idle slot
pub record HasValue (x : Exchange) (trusted : Side → ℕ) (owners : List ℕ) : Type 0 where
  pub value : Heard
  pub voters : (i : ℕ) → x.good (kind_in x) i ≡ true → voted x 1 (kind_in x) i ≡ value
  pub idle : sender_of x trusted owners ≡ Nobody → value ≡ Fault

has-value : {x trusted owners : _} → IsExchange x trusted owners → KeepsPremise x → Stands x trusted owners 0 → Stands x trusted owners 1 → HasValue x trusted owners
has-value {x} e pr s0 s1 =
    elim (true_or_false (list_any (x.good (kind_in x)) (numbers 16))) [
      | inl some ↦
          let v : Passing (x.good (kind_in x)) 0 16 = passing (x.good (kind_in x)) 0 16 some in
          record {
            value = voted x 1 (kind_in x) v.at;
            voters = λ i g. voters-alike e pr s0 s1 i v.at g v.passes;
            idle = λ idle. idle-vote s1 (omega arith) idle (kind_in x) v.at v.passes;
          }
      | inr none ↦ record {
        value = Fault;
        voters = λ i g.
            let some : list_any (x.good (kind_in x)) (numbers 16) ≡ true = passes_at (x.good (kind_in x)) i (good-below e (kind_in x) i g) g in
            let both : true ≡ false = sym some ∙ none in absurd (cc);
        idle = λ idle. refl;
      }
    ]

-- after stage 2 the voters hold the value
voters-hold : {x trusted owners : _} (v : HasValue x trusted owners) → Stands x trusted owners 1
    → (i : ℕ) → x.good (kind_in x) i ≡ true → vote_on (state_after x 2 (kind_in x) i) x.slot ≡ v.value
voters-hold {x} v s i g = vote-held s (kind_in x) i g (voters-vote (role_of x.sizes x.slot)) ∙ v.voters i g

-- in stage 3 the other kind votes for the value, if it votes
relays-vote : {x trusted owners : _} (e : IsExchange x trusted owners) → KeepsPremise x → (v : HasValue x trusted owners) → Stands x trusted owners 1 → Stands x trusted owners 2
    → has_third_stage (role_of x.sizes x.slot) ≡ true → (i : ℕ) → x.good (other (kind_in x)) i ≡ true → voted x 2 (other (kind_in x)) i ≡ v.value
relays-vote {x} {trusted} {owners} e pr v s1 s2 third i g = go (sender_of x trusted owners) refl
  where
    k : Side
    k = kind_in x

    says_it : (p : ℕ) → sender_of x trusted owners ≡ Node p → (kind : Side) → kind ≡ k → (j : ℕ) → x.good kind j ≡ true → said x 2 kind j ≡ Some v.value
    says_it p sender kind same j h =
        let voter : x.good k j ≡ true = ap (λ k. x.good k j) (sym same) ∙ h in
        let listens_it : listens (other kind) (role_of x.sizes x.slot) 3 ≡ true =
        ap (λ k. listens (other k) (role_of x.sizes x.slot) 3) same ∙ ap (λ b. if b then false else has_third_stage (role_of x.sizes x.slot)) (same_side_other k) ∙ third in
        vote_is_said x.sizes kind j p (state_after x 2 kind j) x.slot (x.word j) (sender-held s2 (omega arith) kind j h ∙ sender) listens_it
        ∙ ap (λ k. Some (vote_on (state_after x 2 k j) x.slot)) same ∙ ap Some (voters-hold v s1 j voter)

    go : (sender : Sender) → sender_of x trusted owners ≡ sender → voted x 2 (other k) i ≡ v.value
    go Nobody idle = idle-vote s2 (omega arith) idle (other k) i g ∙ sym (v.idle idle)
    go (Node p) sender = all-vote e pr s2 (omega arith) (omega arith) (other k) v.value (says_it p sender (other (other k)) (other_twice k)) i g
    go EachTrusted each = absurd (subst IsSingle each (single e))

third-from : (b t : Bool) → (if b then false else t) ≡ true → t ≡ true
third-from true t h = cc
third-from false t h = h

none-unlike-3 : {x trusted owners : _} (e : IsExchange x trusted owners) → KeepsPremise x → (v : HasValue x trusted owners) → Stands x trusted owners 1 → Stands x trusted owners 2
    → NoneUnlike x 2
none-unlike-3 {x} e pr v s1 s2 me i j g h value reference =
    let role : Role = role_of x.sizes x.slot in
    let is : (votes_in me role 3 ≡ true) × (voted x 2 me i ≡ value) = by_test (votes_in me role 3) (voted x 2 me i) reference in
    let listens_it : listens me role 3 ≡ true = and_first (listens me role 3) true is.0 in
    let mine : me ≡ other (kind_in x) = listens_third me role listens_it in
    let third : has_third_stage role ≡ true = third-from (same_side me (sender_kind role)) (has_third_stage role) listens_it in
    let relay : x.good (other (kind_in x)) i ≡ true = ap (λ k. x.good k i) (sym mine) ∙ g in
    let far : other me ≡ kind_in x = ap other mine ∙ other_twice (kind_in x) in
    let voter : x.good (kind_in x) j ≡ true = ap (λ k. x.good k j) (sym far) ∙ h in
    let same : v.value ≡ value = sym (relays-vote e pr v s1 s2 third i relay) ∙ ap (λ k. voted x 2 k i) (sym mine) ∙ is.1 in
    let held : vote_on (state_after x 2 (other me) j) x.slot ≡ value =
    ap (λ k. vote_on (state_after x 2 k j) x.slot) far ∙ voters-hold v s1 j voter ∙ same in
    let says_it : IsOnly (said x 2 (other me) j) value =
    subst (IsOnly (said x 2 (other me) j)) held (says_vote x.sizes (other me) j (state_after x 2 (other me) j) x.slot (x.word j)) in
    ap (is_unlike value) (hears-good e s2 (omega arith) me i j g h).takes ∙ only-alike says_it
  where
    by_test : (b : Bool) (vote : Heard) → (if b then Some vote else None) ≡ Some value → (b ≡ true) × (vote ≡ value)
    by_test true vote h = (refl, same_Some vote value h)
    by_test false vote h = cc

-- The slot.

-- after the slot each good node that votes on it holds the value
all-hold : {x trusted owners : _} (e : IsExchange x trusted owners) → KeepsPremise x → (v : HasValue x trusted owners) → Stands x trusted owners 1 → Stands x trusted owners 2
    → (me : Side) (i : ℕ) → x.good me i ≡ true → votes_on x.sizes x.slot me ≡ true → vote_after x me i ≡ v.value
all-hold {x} e pr v s1 s2 me i g votes =
    let k : Side = kind_in x in
    let role : Role = role_of x.sizes x.slot in
    elim (one_or_other me k) [
      | inl mine ↦
          let none : votes_in k role 3 ≡ false = ap (λ b. b && true) (voters_deaf role 3 refl) in
          ap (λ k. vote_after x k i) mine ∙ vote-kept x 2 k i none ∙ voters-hold v s1 i (ap (λ k. x.good k i) (sym mine) ∙ g)
      | inr far ↦
          let relay : x.good (other k) i ≡ true = ap (λ k. x.good k i) (sym far) ∙ g in
          let third : has_third_stage role ≡ true = third-voted role (sym (ap (votes_on x.sizes x.slot) far) ∙ votes) in
          let some : votes_in (other k) role 3 ≡ true =
          ap (λ b. (if b then false else has_third_stage role) && true) (same_side_other k) ∙ ap (λ b. b && true) third in
          ap (λ k. vote_after x k i) far ∙ vote-held s2 (other k) i relay some ∙ relays-vote e pr v s1 s2 third i relay
    ]

-- the value is that of a good sender
value-is : {x trusted owners : _} (e : IsExchange x trusted owners) → KeepsPremise x → (v : HasValue x trusted owners) → Stands x trusted owners 0 → Stands x trusted owners 1
    → (p : ℕ) → sender_of x trusted owners ≡ Node p → x.good (kind_in x) p ≡ true → v.value ≡ value_sent x p
value-is {x} e pr v s0 s1 p sender good =
    sym (v.voters p good)
    ∙ voted-for e pr s1 p sender (Some (value_sent x p)) (got-own e s0 p sender good) p good

-- what a BIU delivers is its vote
delivers : {x trusted owners : _} → IsExchange x trusted owners → Stands x trusted owners 1 → DeliverTheirVotes x trusted owners
unfolding state_after
delivers {x} e s n p i role sender g =
    let st : NodeState = state_after x 1 Biu i in
    let vote : vote_after x Biu i ≡ voted x 1 Biu i =
    vote-kept x 2 Biu i (ap (λ r. votes_in Biu r 3) role) ∙ vote-held s Biu i g (ap (λ r. votes_in Biu r 2) role) in
    let frame : st.frame ≡ (x.before Biu i).frame = (stays 0 e Biu i).frame in
    (parts x 1 Biu i).delivered
    ∙ ap (λ r. delivery_of Biu st x.slot r (sender_at x.sizes Biu st x.slot) 2 (voted x 1 Biu i)) role
    ∙ ap (λ y. delivery_of Biu st x.slot (Data n) y 2 (voted x 1 Biu i)) (sender-held s (omega arith) Biu i g ∙ sender)
    ∙ ap (λ f. of_frame f) frame ∙ ap (delivered_by x i p) (sym vote)
  where
    of_frame : ℕ → Option Delivery
    of_frame f = Some (record { frame = f; slot = x.slot; sender = p; value = voted x 1 Biu i })

spared : {x trusted owners : _} → Stands x trusted owners 0 → Stands x trusted owners 1 → Stands x trusted owners 2 → Stands x trusted owners 3 → AccuseNoGoodNode x
spared s0 s1 s2 s3 zero below me i j g h = s0.spares me i j g h
spared s0 s1 s2 s3 (suc zero) below me i j g h = s1.spares me i j g h
spared s0 s1 s2 s3 (suc (suc zero)) below me i j g h = s2.spares me i j g h
spared s0 s1 s2 s3 (suc (suc (suc zero))) below me i j g h = s3.spares me i j g h
spared s0 s1 s2 s3 (suc (suc (suc (suc q)))) below me i j g h = absurd (omega arith)

pub one-slot-agrees : OneSlotAgrees
one-slot-agrees x trusted owners e pr =
    let s0 : Stands x trusted owners 0 = stands-first e in
    let s1 : Stands x trusted owners 1 = stands-next e s0 (omega arith) (none-unlike-1 x) in
    let s2 : Stands x trusted owners 2 = stands-next e s1 (omega arith) (none-unlike-2 e s0 s1) in
    let v : HasValue x trusted owners = has-value e pr s0 s1 in
    let s3 : Stands x trusted owners 3 = stands-next e s2 (omega arith) (none-unlike-3 e pr v s1 s2) in
    record {
      agreement = λ me you i j g h mine yours.
          all-hold e pr v s1 s2 me i g mine ∙ sym (all-hold e pr v s1 s2 you j h yours);
      validity = λ p sender good me i g votes. all-hold e pr v s1 s2 me i g votes ∙ value-is e pr v s0 s1 p sender good;
      delivery = delivers e s1;
      accusation = spared s0 s1 s2 s3;
    }
