-- Stage 3 of a slot: after it the good nodes of the other kind hold the same vote, if they vote.
-- Data slots have none.
use Rattle.std.proofs.{Common.{◌≡◌, ℕ, ◌+◌, ◌<◌, ◌&&◌, ◌||◌, Bool, true, false, List, inl, inr, Some, None, slice_set, get_or, if◌then◌else◌, refl, sym, ◌∙◌, ap, subst, arith}, lemmas.List.get_or-set_other, lemmas.Option.same_Some}
use Rattle.std.specs.Prelude.{IfSome}
use Rattle.rb_base.specs.{Nodes.{Side, other}, Nodes.Side.{Biu, Rmu}, declared.values.Heard.Heard, declared.values.Heard.TheVariants.Fault}
use Rattle.rb_base.proofs.Plain.{and_first}
use Rattle.rb_rules.specs.{declared.role.Role.Role, declared.role.Role.TheVariants.{Schedule, Data, DiagBiu, DiagRmu, Sync}, Book.judged_of, ExactStage.{says, votes_in}, Goodness.Scenario, Judging.is_benign, NodeState.NodeState, Ports.HandIn, Rounds.Moment, Slots.{Sender, same_side, sender_kind, has_third_stage, listens, role_of}, Slots.Sender.{Nobody, Node, EachTrusted}, Standing.is_unlike, StandsFor.votes_on}
use Rattle.rb_rules.proofs.{Senses.IsCarried, Slots.{one_or_other, other_twice, same_side_other}}
use Rattle.rb_laws_agreement.proofs.{Tests.true_or_false, Goodnesses.{exact_role, single_sender}, Invariant.{Shared, sender_of, kind_in, IsGoodNode, IsValue, IsFinished, HasVoted}, ExactWindows.IsSingle, Exchanges.sender-held, JudgedWindows.rows_of, NodeWindows.word_at, Speaking.{IsOnly, only-fits, only-alike, says_vote, says_nothing, vote_is_said, listens_third, voters_deaf}, Settings.{Setting, AllCarried, all_heard, after, Closed, closes, NoneUnlike}, SecondStages.{vote_of, vote-held, all_vote, idle-vote, benign-before}, NextMoments.{next, was_good, CameFrom, came_from, stages_after, own_next}}

-- the votes of the setting
pub voted : (sc : Scenario) (hands : List HandIn) (n : ℕ) (m : Moment) (s : Shared) (slot : ℕ) → Setting sc hands n m s slot 2 → HasVoted sc hands m s slot
voted sc hands n m s slot c = c.agree.voted slot c.below c.at

-- what good nodes say in stage 3 has four bytes
pub carried_3 : {sc hands n m s slot : _} → Setting sc hands n m s slot 2 → AllCarried sc m slot 3
carried_3 {sc} {hands} {n} {m} {s} {slot} c me i st here =
    let role : Role = role_of sc.sizes slot in
    let word : ℕ = word_at sc m slot i in
    let v : HasVoted sc hands m s slot = voted sc hands n m s slot c in
    elim (true_or_false (listens (other me) role 3)) [
      | inl listens_it ↦
          let mine : me ≡ kind_in sc.sizes slot = sym (other_twice me) ∙ ap other (listens_third (other me) role listens_it) ∙ other_twice (kind_in sc.sizes slot) in
          let voter : IsGoodNode sc m (kind_in sc.sizes slot) i st = subst (λ k. IsGoodNode sc m k i st) mine here in
          only-fits (says_vote sc.sizes me i st slot word)
          (subst IsCarried (sym (v.held i st voter)) v.is_value.carried)
      | inr deaf ↦ subst (λ o. IfSome o IsCarried) (sym (says_nothing sc.sizes me i st slot 3 word deaf)) tt
    ]

-- the vote of stage 3 is that of stage 2
pub vote_3 : {sc hands n m s slot : _} (c : Setting sc hands n m s slot 2) {i st : _}
    → has_third_stage (role_of sc.sizes slot) ≡ true → IsGoodNode sc m (other (kind_in sc.sizes slot)) i st
    → vote_of c (other (kind_in sc.sizes slot)) i st ≡ (voted sc hands n m s slot c).value
vote_3 {sc} {hands} {n} {m} {s} {slot} c {i} {st} third here = go (sender_of sc.sizes s slot) refl
  where
    go : (sender : Sender) → sender_of sc.sizes s slot ≡ sender
        → vote_of c (other (kind_in sc.sizes slot)) i st ≡ (voted sc hands n m s slot c).value
    go Nobody e = idle-vote c e here ∙ sym ((voted sc hands n m s slot c).is_value.idle e)
    go EachTrusted e =
        let single : IsSingle (sender_of sc.sizes s slot) = single_sender (s.trusted Biu) (s.trusted Rmu) s.owners (role_of sc.sizes slot) (exact_role sc.sizes slot c.below) in
        absurd (subst IsSingle e single)
    go (Node p) e =
        let k : Side = kind_in sc.sizes slot in
        let role : Role = role_of sc.sizes slot in
        let v : HasVoted sc hands m s slot = voted sc hands n m s slot c in
        let all : (x : Side) → x ≡ k → (j : ℕ) (source : NodeState) → IsGoodNode sc m x j source → says sc.sizes x j source slot 3 (word_at sc m slot j) ≡ Some v.value =
        λ x mine j source there.
        let voter : IsGoodNode sc m k j source = subst (λ k. IsGoodNode sc m k j source) mine there in
        let listens_it : listens (other x) role 3 ≡ true =
        ap (λ x. listens (other x) role 3) mine ∙ ap (λ b. if b then false else has_third_stage role) (same_side_other k) ∙ third in
        vote_is_said sc.sizes x j p source slot (word_at sc m slot j) (sender-held slot (c.agree.nodes x j source there) ∙ e) listens_it
        ∙ ap Some (v.held j source voter) in
        all_vote c (carried_3 c) v.value (all (other (other k)) (other_twice k)) here

-- no good node is accused by mismatch in stage 3
pub none_unlike_3 : {sc hands n m s slot : _} (c : Setting sc hands n m s slot 2) → NoneUnlike c
none_unlike_3 {sc} {hands} {n} {m} {s} {slot} c me i j st source here there value reference =
    let role : Role = role_of sc.sizes slot in
    let k : Side = kind_in sc.sizes slot in
    let v : HasVoted sc hands m s slot = voted sc hands n m s slot c in
    let is = by_test (votes_in me role 3) (vote_of c me i st) reference in
    let listens_it : listens me role 3 ≡ true = and_first (listens me role 3) true is.0 in
    let mine : me ≡ other k = listens_third me role listens_it in
    let third : has_third_stage role ≡ true = third-from (same_side me (sender_kind role)) (has_third_stage role) listens_it in
    let listener : IsGoodNode sc m (other k) i st = subst (λ x. IsGoodNode sc m x i st) mine here in
    let voter : IsGoodNode sc m k j source = subst (λ x. IsGoodNode sc m x j source) (ap other mine ∙ other_twice k) there in
    let same : v.value ≡ value =
    sym (ap (λ x. vote_of c x i st) mine ∙ vote_3 c third listener) ∙ is.1 in
    let says_it : IsOnly (says sc.sizes (other me) j source slot 3 (word_at sc m slot j)) value =
    subst (IsOnly (says sc.sizes (other me) j source slot 3 (word_at sc m slot j))) (v.held j source voter ∙ same)
    (says_vote sc.sizes (other me) j source slot (word_at sc m slot j)) in
    ap (is_unlike value) (all_heard c (carried_3 c) here there).takes
    ∙ only-alike says_it
  where
    by_test : (b : Bool) (voted : Heard) → (if b then Some voted else None) ≡ Some value → (b ≡ true) × (voted ≡ value)
    by_test true voted h = (refl, same_Some voted value h)
    by_test false voted h = cc

    third-from : (b t : Bool) → (if b then false else (false || (true && t))) ≡ true → t ≡ true
    third-from true t h = cc
    third-from false t h = h

-- After stage 3.

-- a node whose kind does not vote in a stage keeps its votes
pub votes_kept : {sc hands n m s slot q : _} (c : Setting sc hands n m s slot q) {me i st now : _}
    → IsGoodNode sc m me i st → after sc m me i st ≡ now → votes_in me (role_of sc.sizes slot) (q + 1) ≡ false → now.votes ≡ st.votes
votes_kept {sc} {hands} {n} {m} {s} {slot} {q} c {me} {i} {st} here is none =
    let x : Closed sc hands n m s slot q c me i st = closes c here in
    ap (λ t. t.votes) (sym is ∙ x.is) ∙ x.parts.votes
    ∙ ap (λ b. if b then slice_set st.votes slot (vote_of c me i st) else st.votes) none

pub other_votes_kept : {sc hands n m s slot q : _} (c : Setting sc hands n m s slot q) {me i st now : _} (t : ℕ)
    → IsGoodNode sc m me i st → after sc m me i st ≡ now → t < slot → get_or now.votes t Fault ≡ get_or st.votes t Fault
other_votes_kept {sc} {hands} {n} {m} {s} {slot} {q} c {me} {i} {st} t here is before =
    let x : Closed sc hands n m s slot q c me i st = closes c here in
    ap (λ u. get_or u.votes t Fault) (sym is ∙ x.is) ∙ ap (λ v. get_or v t Fault) x.parts.votes
    ∙ go (votes_in me (role_of sc.sizes slot) (q + 1)) (vote_of c me i st)
  where
    go : (b : Bool) (v : Heard) → get_or (if b then slice_set st.votes slot v else st.votes) t Fault ≡ get_or st.votes t Fault
    go true v = let apart : t ≡ slot → ⊥ = λ e. absurd (omega arith) in get_or-set_other st.votes slot t v Fault apart
    go false v = refl

-- a slot's value is still what it was
pub value_next : {sc hands n m s slot q : _} → Setting sc hands n m s slot q → {t value : _}
    → IsValue sc hands m s t value → IsValue sc hands (next sc m) s t value
value_next {sc} {m} {slot} {q} c {t} v = record {
  idle = v.idle;
  own = λ p sender good. own_next (v.own p sender (was_good sc m (kind_in sc.sizes t) p good));
  unseen = λ p sender benign.
      v.unseen p sender (benign-before (kind_in sc.sizes t) (judged_of sc (record { frame = m.frame; slot = slot; stage = q + 1 }) (rows_of sc m)) m.book.stages p
      (ap (λ x. is_benign (kind_in sc.sizes t) x p) (sym (stages_after c)) ∙ benign));
  carried = v.carried;
}

-- a slot that was finished still is
pub finished_next : {sc hands n m s slot q : _} → Setting sc hands n m s slot q → {t value : _} → t < slot
    → IsFinished sc hands m s t value → IsFinished sc hands (next sc m) s t value
finished_next {sc} {m} c {t} before f = record {
  is_value = value_next c f.is_value;
  held = λ me i now h votes.
      let from : CameFrom sc m me i now = came_from c.agree h in
      other_votes_kept c t from.was from.is before ∙ f.held me i from.st from.was votes;
}

-- a node of the other kind votes if there is a third stage
pub third-voted : (role : Role) → (if has_third_stage role then true else same_side (other (sender_kind role)) Biu) ≡ true → has_third_stage role ≡ true
third-voted (Schedule i) h = refl
third-voted (Data n) h = cc
third-voted (DiagBiu i) h = refl
third-voted (DiagRmu i) h = refl
third-voted Sync h = refl

-- after the slot each good node that votes on it holds the value
pub held_3 : {sc hands n m s slot : _} (c : Setting sc hands n m s slot 2) {me i st now : _}
    → IsGoodNode sc m me i st → after sc m me i st ≡ now → votes_on sc.sizes slot me ≡ true → get_or now.votes slot Fault ≡ (voted sc hands n m s slot c).value
held_3 {sc} {hands} {n} {m} {s} {slot} c {me} {i} {st} here is votes =
    let k : Side = kind_in sc.sizes slot in
    let role : Role = role_of sc.sizes slot in
    let v : HasVoted sc hands m s slot = voted sc hands n m s slot c in
    elim (one_or_other me k) [
      | inl mine ↦
          let voter : IsGoodNode sc m k i st = subst (λ x. IsGoodNode sc m x i st) mine here in
          let none : votes_in me role 3 ≡ false = ap (λ x. votes_in x role 3) mine ∙ ap (λ b. b && true) (voters_deaf role 3 refl) in
          ap (λ x. get_or x slot Fault) (votes_kept c here is none) ∙ v.held i st voter
      | inr far ↦
          let listener : IsGoodNode sc m (other k) i st = subst (λ x. IsGoodNode sc m x i st) far here in
          let third : has_third_stage role ≡ true = third-voted role (sym (ap (votes_on sc.sizes slot) far) ∙ votes) in
          let some : votes_in me role 3 ≡ true =
          ap (λ x. votes_in x role 3) far ∙ ap (λ b. (if b then false else has_third_stage role) && true) (same_side_other k) ∙ ap (λ b. b && true) third in
          vote-held c here is some
          ∙ ap (λ x. vote_of c x i st) far ∙ vote_3 c third listener
    ]

-- the slot is finished
pub finished_3 : {sc hands n m s slot : _} (c : Setting sc hands n m s slot 2)
    → IsFinished sc hands (next sc m) s slot (voted sc hands n m s slot c).value
finished_3 {sc} {hands} {n} {m} {s} {slot} c = record {
  is_value = value_next c (voted sc hands n m s slot c).is_value;
  held = λ me i now h votes.
      let from : CameFrom sc m me i now = came_from c.agree h in
      held_3 c from.was from.is votes;
}
