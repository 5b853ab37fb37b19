-- Stage 2 of a slot: after it the good nodes of the sender's kind hold one vote.
use Rattle.std.proofs.{Common.{◌≡◌, ℕ, ◌+◌, ◌*◌, ◌<◌, ◌==◌, ◌&&◌, ◌||◌, not, nat_lt, Bool, true, false, List, [], ◌∷◌, length, map, inl, inr, Option, Some, None, unwrap_or, slice_get, slice_set, get_or, if◌then◌else◌, refl, sym, ◌∙◌, ap, subst, arith}, lemmas.Bool.eqb-true, lemmas.List.get_or-set_same, lemmas.Option.same_Some}
use Rattle.std.specs.{Prelude.IfSome, List.{list_any, cons_option}}
use Rattle.rb_base.specs.{Counting.numbers, Nodes.{Side, other, has}, Nodes.Side.{Biu, Rmu}, Sizes.sync_slot_of, declared.values.Heard.Heard, declared.values.Heard.TheVariants.Fault}
use Rattle.rb_base.proofs.Plain.{and_first, and_second, none-if}
use Rattle.rb_rules.specs.{declared.role.Role.Role, declared.sense.Sense.Sense, Book.{of_kind, judged_of}, ExactStage.{says, present, closing_of, votes_in, is_sender}, Goodness.{Scenario, is_good}, Judging.{JudgedStage, was_taken, was_unlike, is_asymmetric, is_benign}, Majority.{winner_among, times}, NodeState.{NodeState, sender_at}, Rounds.Moment, Sense.value_in, Slots.{Sender, same_side, sender_kind, listens, expects, role_of}, Slots.Sender.{Nobody, Node, EachTrusted}, Standing.{Standing, taken_of, is_unlike}}
use Rattle.rb_rules.proofs.{ExactStages.{idle_expects_nobody, vote_over_nothing}, Senses.IsCarried, Slots.{one_or_other, other_twice, same_side-is}, Votes.same_vote}
use Rattle.rb_laws_agreement.proofs.{Tests.{true_or_false, Present, Passing, or_neither_second}, Numbers.one_of_many, Premises.{Premise, is_sound}, Goodnesses.{few_nodes, exact_role, single_sender}, Invariant.{sender_of, kind_in, IsGoodNode, is_good_now, IsOwn, GoodSent, HasRelays, HasVoted}, ExactWindows.{IsSingle, expected_at, closing_at}, Exchanges.sender-held, NodeWindows.{Windows, sense_in, word_at}, StageVotes.one_voice, Senders.sender_is_trusted, Speaking.{IsOnly, only-fits, only-alike, says_got, says_nothing, got_is_said, listens_second, voters_listen}, Settings.{Setting, windows, stages_with, good_here, good_state, premise, AllCarried, all_heard, all_seen, all_alike, taken, after, Closed, closes, NoneUnlike}, Carrying.all_carried, JudgedWindows.rows_of, NextMoments.{next, was_good, CameFrom, came_from, stages_after, own_next}}

pub relays : {sc hands n m s slot : _} → Setting sc hands n m s slot 1 → HasRelays sc hands m s slot
relays {slot} c = c.agree.relayed slot c.below c.at

pub unwrap-fits : (o : Option Heard) → IfSome o IsCarried → IsCarried (unwrap_or o Fault)
unwrap-fits None h = tt
unwrap-fits (Some v) h = h

-- what good nodes say in stage 2 has four bytes
pub carried_2 : {sc hands n m s slot : _} → Setting sc hands n m s slot 1 → AllCarried sc m slot 2
carried_2 {sc} {m} {slot} c me i st here =
    let role : Role = role_of sc.sizes slot in
    let word : ℕ = word_at sc m slot i in
    elim (true_or_false (listens (other me) role 2)) [
      | inl listens_it ↦
          let mine : me ≡ other (kind_in sc.sizes slot) = sym (other_twice me) ∙ ap other (listens_second (other me) role listens_it) in
          let relay : IsGoodNode sc m (other (kind_in sc.sizes slot)) i st = subst (λ k. IsGoodNode sc m k i st) mine here in
          only-fits (says_got sc.sizes me i st slot word)
          (unwrap-fits st.got ((relays c).carried i st relay))
      | inr deaf ↦ subst (λ o. IfSome o IsCarried) (sym (says_nothing sc.sizes me i st slot 2 word deaf)) tt
    ]

-- The majority of values of four bytes has four bytes.

abbrev AllFit : List Heard → Type 0
AllFit [] = Unit {0}
AllFit (v ∷ vs) = IsCarried v × AllFit vs

winner-fits : (values candidates : List Heard) → AllFit candidates → IsCarried (winner_among values candidates)
winner-fits values [] fit = tt
winner-fits values (v ∷ vs) fit = go (nat_lt (length values) (2 * times v values)) (winner-fits values vs fit.1)
  where
    go : (b : Bool) → IsCarried (winner_among values vs) → IsCarried (if b then v else winner_among values vs)
    go true rest = fit.0
    go false rest = rest

more-fit : (o : Option Heard) (rest : List Heard) → IfSome o IsCarried → AllFit rest → AllFit (cons_option o rest)
more-fit None rest h fit = fit
more-fit (Some v) rest h fit = (h, fit)

present-fit : (f : ℕ → Option Heard) → ((j : ℕ) → IfSome (f j) IsCarried) → (js : List ℕ) → AllFit (present (map f js))
present-fit f each [] = tt
present-fit f each (j ∷ js) = more-fit (f j) (present (map f js)) (each j) (present-fit f each js)

pub vote_fits : (s : Standing) (expected : ℕ → Bool) (sense : ℕ → Sense) → ((j : ℕ) → IfSome (taken_of value_in s expected sense j) IsCarried)
    → IsCarried (closing_of s expected sense).voted
vote_fits s expected sense each =
    let values : List Heard = present (map (taken_of value_in s expected sense) (numbers 16)) in
    winner-fits values values (present-fit (taken_of value_in s expected sense) each (numbers 16))

-- Votes.

-- the vote of a good voter
abbrev pub vote_of : {sc hands n m s slot q : _} → Setting sc hands n m s slot q → Side → ℕ → NodeState → Heard
vote_of {sc} {slot} {q} c me i st = (closing_at sc.sizes me st slot (q + 1) (sense_in (windows c) me i st)).voted

-- a node that votes in the stage keeps its vote
pub vote-held : {sc hands n m s slot q : _} (c : Setting sc hands n m s slot q) {me i st now : _}
    → IsGoodNode sc m me i st → after sc m me i st ≡ now → votes_in me (role_of sc.sizes slot) (q + 1) ≡ true
    → get_or now.votes slot Fault ≡ vote_of c me i st
vote-held {sc} {hands} {n} {m} {s} {slot} {q} c {me} {i} {st} here is votes =
    let x : Closed sc hands n m s slot q c me i st = closes c here in
    let voted : Heard = vote_of c me i st in
    let long : length st.votes ≡ sync_slot_of sc.sizes = (c.agree.nodes me i st here).long in
    let below : slot < sync_slot_of sc.sizes = c.below in
    ap (λ t. get_or t.votes slot Fault) (sym is ∙ x.is) ∙ ap (λ v. get_or v slot Fault) x.parts.votes
    ∙ ap (λ b. get_or (if b then slice_set st.votes slot voted else st.votes) slot Fault) votes
    ∙ get_or-set_same st.votes slot voted Fault (omega arith)

-- some node of the kind is good
pub record GoodOne (sc : Scenario) (m : Moment) (me : Side) : Type 0 where
  pub index : ℕ
  pub st : NodeState
  pub here : IsGoodNode sc m me index st

pub some_good : {sc hands n m s slot q : _} → Setting sc hands n m s slot q → (me : Side) → GoodOne sc m me
some_good {sc} {m} {s} {slot} {q} c me =
    let p : Premise sc m.frame slot s.trusted (stages_with sc m slot (q + 1)) = premise c in
    let one : Passing (is_sound sc me m.frame slot s.trusted) 0 16 = one_of_many (is_sound sc me m.frame slot s.trusted) (omega (arith, p.most me)) in
    let good : is_good sc me one.at m.frame slot ≡ true = and_second (has (s.trusted me) one.at) (is_good sc me one.at m.frame slot) one.passes in
    let now : is_good_now sc m me one.at ≡ true = good_here c me one.at ∙ good in
    let st : Present (slice_get (of_kind me m.nodes) one.at) = good_state c.agree me one.at now in
    record { index = one.at; st = st.value; here = record { there = st.is; good = now } }

-- if all good sources say one value, all good voters vote for it
pub all_vote : {sc hands n m s slot q : _} (c : Setting sc hands n m s slot q) → AllCarried sc m slot (q + 1)
    → {me : _} (value : Heard) → ((j : ℕ) (source : NodeState) → IsGoodNode sc m (other me) j source → says sc.sizes (other me) j source slot (q + 1) (word_at sc m slot j) ≡ Some value)
    → {i st : _} → IsGoodNode sc m me i st → vote_of c me i st ≡ value
all_vote {sc} {m} {slot} {q} c fits {me} value said {i} {st} here =
    let ws : Windows sc m slot (q + 1) = windows c in
    one_voice (other me) st.far (expected_at sc.sizes me st slot (q + 1)) (sense_in ws me i st) value
    (premise c)
    (λ j t good.
    let now : is_good_now sc m (other me) j ≡ true = good_here c (other me) j ∙ good in
    let there : Present (slice_get (of_kind (other me) m.nodes) j) = good_state c.agree (other me) j now in
    let source : IsGoodNode sc m (other me) j there.value = record { there = there.is; good = now } in
    (all_heard c fits here source).takes ∙ said j there.value source)
    (λ j small some. all_seen c j here small some)

-- What good relays say.

-- a good relay says what it has got
relay-says : {sc hands n m s slot : _} (c : Setting sc hands n m s slot 1) (p : ℕ) → sender_of sc.sizes s slot ≡ Node p
    → {j source : _} → IsGoodNode sc m (other (kind_in sc.sizes slot)) j source
    → says sc.sizes (other (kind_in sc.sizes slot)) j source slot 2 (word_at sc m slot j) ≡ Some (unwrap_or source.got Fault)
relay-says {sc} {m} {slot} c p sender {j} {source} there =
    let relay : Side = other (kind_in sc.sizes slot) in
    got_is_said sc.sizes relay j p source slot (word_at sc m slot j) (sender-held slot (c.agree.nodes relay j source there) ∙ sender)
    (other_twice (kind_in sc.sizes slot))

-- if all good nodes of the other kind got the same, all voters vote for it
voted-for : {sc hands n m s slot : _} (c : Setting sc hands n m s slot 1) (p : ℕ) (got : Option Heard)
    → sender_of sc.sizes s slot ≡ Node p → ((j : ℕ) (source : NodeState) → IsGoodNode sc m (other (kind_in sc.sizes slot)) j source → source.got ≡ got)
    → {i st : _} → IsGoodNode sc m (kind_in sc.sizes slot) i st → vote_of c (kind_in sc.sizes slot) i st ≡ unwrap_or got Fault
voted-for c p got sender all here =
    all_vote c (carried_2 c) (unwrap_or got Fault)
    (λ j source there. relay-says c p sender there ∙ ap (λ o. Some (unwrap_or o Fault)) (all j source there)) here

-- The votes agree.

-- if a sender that is not good was seen alike, all relays have got the same
same-got : {sc hands n m s slot : _} (c : Setting sc hands n m s slot 1) (p : ℕ) → sender_of sc.sizes s slot ≡ Node p
    → ((j : ℕ) → j < 16 → has (s.trusted (kind_in sc.sizes slot)) j ≡ true → is_good sc (kind_in sc.sizes slot) j m.frame slot ≡ false → is_asymmetric (kind_in sc.sizes slot) (stages_with sc m slot 2) j ≡ false)
    → {a b sta stb : _} → IsGoodNode sc m (other (kind_in sc.sizes slot)) a sta → IsGoodNode sc m (other (kind_in sc.sizes slot)) b stb → sta.got ≡ stb.got
same-got {sc} {hands} {m} {s} {slot} c p sender alike {a} {b} {sta} {stb} here_a here_b =
    let k : Side = kind_in sc.sizes slot in
    let r : HasRelays sc hands m s slot = relays c in
    elim (true_or_false (is_good_now sc m k p)) [
      | inl good ↦ let sent : GoodSent sc hands m slot p = r.own p sender good in sent.got a sta here_a ∙ sym (sent.got b stb here_b)
      | inr faulty ↦
          let t : has (s.trusted k) p ≡ true = sender_is_trusted s.trusted s.owners (role_of sc.sizes slot) p c.agree.owned sender in
          let small : p < 16 = omega (arith, c.agree.inside k p t, few_nodes c.law.sizes k) in
          let same : is_asymmetric k (stages_with sc m slot 2) p ≡ false = alike p small t (sym (good_here c k p) ∙ faulty) in
          r.alike p sender (or_neither_second (was_unlike k p (judged_of sc (record { frame = m.frame; slot = slot; stage = 2 }) (rows_of sc m))) (list_any (was_unlike k p) m.book.stages) same)
          a b sta stb here_a here_b
    ]

-- relays that are seen alike are taken alike
same-taken : {sc hands n m s slot : _} (c : Setting sc hands n m s slot 1) {me : _}
    → ((j : ℕ) → j < 16 → has (s.trusted (other me)) j ≡ true → is_good sc (other me) j m.frame slot ≡ false → is_asymmetric (other me) (stages_with sc m slot 2) j ≡ false)
    → {a b sta stb : _} → IsGoodNode sc m me a sta → IsGoodNode sc m me b stb
    → (j : ℕ) → j < 16 → taken c me a sta j ≡ taken c me b stb j
same-taken {sc} {m} {s} c {me} alike {a} {b} {sta} {stb} here_a here_b j small =
    elim (true_or_false (has (s.trusted (other me)) j)) [
      | inr out ↦ nothing a sta here_a out ∙ sym (nothing b stb here_b out)
      | inl t ↦ elim (true_or_false (is_good_now sc m (other me) j)) [
        | inl good ↦
            let there : Present (slice_get (of_kind (other me) m.nodes) j) = good_state c.agree (other me) j good in
            let source : IsGoodNode sc m (other me) j there.value = record { there = there.is; good = good } in
            (all_heard c (carried_2 c) here_a source).takes
            ∙ sym (all_heard c (carried_2 c) here_b source).takes
        | inr faulty ↦
            all_alike c j here_a here_b small
            (alike j small t (sym (good_here c (other me) j) ∙ faulty))
      ]
    ]
  where
    nothing : (i : ℕ) (st : NodeState) → IsGoodNode sc m me i st → has (s.trusted (other me)) j ≡ false → taken c me i st j ≡ None
    nothing i st here out =
        none-if (taken c me i st j) (λ some.
        let in_it : has (s.trusted (other me)) j ≡ true = (all_seen c j here small some).trusts in
        let both : true ≡ false = sym in_it ∙ out in cc)

-- all good voters vote alike
pub one_vote : {sc hands n m s slot : _} (c : Setting sc hands n m s slot 1) (p : ℕ) → sender_of sc.sizes s slot ≡ Node p
    → {a b sta stb : _} → IsGoodNode sc m (kind_in sc.sizes slot) a sta → IsGoodNode sc m (kind_in sc.sizes slot) b stb
    → vote_of c (kind_in sc.sizes slot) a sta ≡ vote_of c (kind_in sc.sizes slot) b stb
one_vote {sc} {m} {s} {slot} c p sender {a} {b} {sta} {stb} here_a here_b =
    let k : Side = kind_in sc.sizes slot in
    let ws : Windows sc m slot 2 = windows c in
    let pr : Premise sc m.frame slot s.trusted (stages_with sc m slot 2) = premise c in
    let alike : (x : Side) → pr.side ≡ x → (j : ℕ) → j < 16 → has (s.trusted x) j ≡ true → is_good sc x j m.frame slot ≡ false → is_asymmetric x (stages_with sc m slot 2) j ≡ false =
    λ x e. subst (λ x. (j : ℕ) → j < 16 → has (s.trusted x) j ≡ true → is_good sc x j m.frame slot ≡ false → is_asymmetric x (stages_with sc m slot 2) j ≡ false) e pr.alike in
    elim (one_or_other pr.side k) [
      | inl mine ↦
          let r : GoodOne sc m (other k) = some_good c (other k) in
          let all : (j : ℕ) (source : NodeState) → IsGoodNode sc m (other k) j source → source.got ≡ r.st.got =
          λ j source there. same-got c p sender (alike k mine) there r.here in
          voted-for c p r.st.got sender all here_a ∙ sym (voted-for c p r.st.got sender all here_b)
      | inr far ↦
          same_vote sta.far stb.far (expected_at sc.sizes k sta slot 2) (expected_at sc.sizes k stb slot 2) (sense_in ws k a sta) (sense_in ws k b stb)
          (λ j small. same-taken c (alike (other k) far) here_a here_b j small)
    ]

-- After stage 2.

pub voters-vote : (role : Role) → votes_in (sender_kind role) role 2 ≡ true
voters-vote role = ap (λ b. b && true) (voters_listen role)

pub idle-vote : {sc hands n m s slot q : _} (c : Setting sc hands n m s slot q) → sender_of sc.sizes s slot ≡ Nobody
    → {me i st : _} → IsGoodNode sc m me i st → vote_of c me i st ≡ Fault
idle-vote {sc} {slot} {q} c idle {me} {i} {st} here =
    vote_over_nothing st.far (expected_at sc.sizes me st slot (q + 1)) (sense_in (windows c) me i st)
    (λ j. ap (λ x. expects me (role_of sc.sizes slot) x st.far.trusted (q + 1) j) (sender-held slot (c.agree.nodes me i st here) ∙ idle)
    ∙ idle_expects_nobody me (role_of sc.sizes slot) st.far.trusted (q + 1) j)

-- a node that is benign with the newest stage was benign before it
pub benign-before : (kind : Side) (st : JudgedStage) (stages : List JudgedStage) (j : ℕ) → is_benign kind (st ∷ stages) j ≡ true → is_benign kind stages j ≡ true
benign-before kind st stages j h = go (was_taken kind j st) (list_any (was_taken kind j) stages) h
  where
    go : (a b : Bool) → not (a || b) ≡ true → not b ≡ true
    go true b h = cc
    go false b h = h

pub votes_2 : {sc hands n m s slot : _} → Setting sc hands n m s slot 1 → HasVoted sc hands (next sc m) s slot
votes_2 {sc} {hands} {m} {s} {slot} c = go (sender_of sc.sizes s slot) refl
  where
    nobody : sender_of sc.sizes s slot ≡ Nobody → HasVoted sc hands (next sc m) s slot
    nobody idle =
        let k : Side = kind_in sc.sizes slot in
        record {
          value = Fault;
          is_value = record {
            idle = λ e. refl;
            own = λ p sender good. let both : Nobody ≡ Node p = sym idle ∙ sender in cc;
            unseen = λ p sender benign. refl;
            carried = tt;
          };
          held = λ i now h.
              let from : CameFrom sc m k i now = came_from c.agree h in
              vote-held c from.was from.is (voters-vote (role_of sc.sizes slot))
              ∙ idle-vote c idle from.was;
        }

    one : (p : ℕ) → sender_of sc.sizes s slot ≡ Node p → HasVoted sc hands (next sc m) s slot
    one p sender =
        let k : Side = kind_in sc.sizes slot in
        let g : GoodOne sc m k = some_good c k in
        let r : HasRelays sc hands m s slot = relays c in
        let value : Heard = vote_of c k g.index g.st in
        record {
          value = value;
          is_value = record {
            idle = λ e. let both : Nobody ≡ Node p = sym e ∙ sender in cc;
            own = λ p2 sender2 good.
                let sent : GoodSent sc hands m slot p2 = r.own p2 sender2 (was_good sc m k p2 good) in
                let is : value ≡ sent.value = voted-for c p2 (Some sent.value) sender2 sent.got g.here in
                subst (IsOwn sc hands (next sc m) slot p2) (sym is) (own_next sent.own);
            unseen = λ p2 sender2 benign.
                let before : is_benign k m.book.stages p2 ≡ true =
                benign-before k (judged_of sc (record { frame = m.frame; slot = slot; stage = 2 }) (rows_of sc m)) m.book.stages p2
                (ap (λ x. is_benign k x p2) (sym (stages_after c)) ∙ benign) in
                voted-for c p2 None sender2 (r.unseen p2 sender2 before) g.here;
            carried = vote_fits g.st.far (expected_at sc.sizes k g.st slot 2) (sense_in (windows c) k g.index g.st)
                (λ j. all_carried c (carried_2 c) j g.here);
          };
          held = λ i now h.
              let from : CameFrom sc m k i now = came_from c.agree h in
              vote-held c from.was from.is (voters-vote (role_of sc.sizes slot))
              ∙ one_vote c p sender from.was g.here;
        }

    go : (sender : Sender) → sender_of sc.sizes s slot ≡ sender → HasVoted sc hands (next sc m) s slot
    go Nobody e = nobody e
    go (Node p) e = one p e
    go EachTrusted e =
        let single : IsSingle (sender_of sc.sizes s slot) = single_sender (s.trusted Biu) (s.trusted Rmu) s.owners (role_of sc.sizes slot) (exact_role sc.sizes slot c.below) in
        absurd (subst IsSingle e single)

-- No good node is accused by mismatch in stage 2.

pub sender-is : (me : Side) (i : ℕ) (role : Role) (sender : Sender) → is_sender me i role sender ≡ true → (sender ≡ Node i) × (me ≡ sender_kind role)
sender-is me i role Nobody h = cc
sender-is me i role EachTrusted h = cc
sender-is me i role (Node p) h =
    let same : i ≡ p = eqb-true i p (and_second (same_side me (sender_kind role)) (i == p) h) in
    (ap (λ k. Node k) (sym same), same_side-is me (sender_kind role) (and_first (same_side me (sender_kind role)) (i == p) h))

pub none_unlike_2 : {sc hands n m s slot : _} (c : Setting sc hands n m s slot 1) → NoneUnlike c
none_unlike_2 {sc} {hands} {m} {s} {slot} c me i j st source here there value reference =
    let role : Role = role_of sc.sizes slot in
    let k : Side = kind_in sc.sizes slot in
    let is : (is_sender me i role (sender_at sc.sizes me st slot) ≡ true) × (st.sent ≡ Some value) =
    by_test (is_sender me i role (sender_at sc.sizes me st slot)) reference in
    let mine = sender-is me i role (sender_at sc.sizes me st slot) is.0 in
    let sender : sender_of sc.sizes s slot ≡ Node i = sym (sender-held slot (c.agree.nodes me i st here)) ∙ mine.0 in
    let own : IsGoodNode sc m k i st = subst (λ x. IsGoodNode sc m x i st) mine.1 here in
    let relay : IsGoodNode sc m (other k) j source = subst (λ x. IsGoodNode sc m (other x) j source) mine.1 there in
    let sent : GoodSent sc hands m slot i = (relays c).own i sender own.good in
    let same : sent.value ≡ value = same_Some sent.value value (sym (sent.sent st own) ∙ is.1) in
    let says_it : IsOnly (says sc.sizes (other me) j source slot 2 (word_at sc m slot j)) value =
    subst (IsOnly (says sc.sizes (other me) j source slot 2 (word_at sc m slot j)))
    (ap (λ o. unwrap_or o Fault) (sent.got j source relay) ∙ same) (says_got sc.sizes (other me) j source slot (word_at sc m slot j)) in
    ap (is_unlike value) (all_heard c (carried_2 c) here there).takes
    ∙ only-alike says_it
  where
    by_test : (b : Bool) → (if b then st.sent else None) ≡ Some value → (b ≡ true) × (st.sent ≡ Some value)
    by_test true h = (refl, h)
    by_test false h = cc
