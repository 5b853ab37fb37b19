-- In a window below the sync slot in which BIUs vote a listener votes as each good BIU does.
use Rattle.std.proofs.{Common.{◌≡◌, ℕ, zero, suc, ◌+◌, ◌<◌, ◌&&◌, ◌||◌, inl, inr, not, Bool, true, false, List, [], ◌∷◌, length, Option, Some, None, unwrap_or, slice_get, if◌then◌else◌, refl, sym, ◌∙◌, ap, subst, arith}, lemmas.Bool.{and_from, not_from_false}}
use Rattle.std.specs.List.{list_any}
use Rattle.rb_base.specs.{Nodes.{Side, other, has}, Nodes.Side.{Biu, Rmu}, declared.values.Heard.Heard, declared.values.Heard.TheVariants.Fault, declared.values.Place.Place, declared.values.See.See}
use Rattle.rb_base.proofs.{Sets.has-set_of, Plain.{and_first, and_second, none-if}}
use Rattle.rb_rules.specs.{declared.sense.Sense.Sense, Book.{Row, in_order, judged_of, of_kind, trusted_by}, ExactStage.{present, says, see_value, votes_in}, Goodness.{Scenario, is_good}, Judging.{JudgedStage, are_alike, good_now, is_suspect, trusted_now, was_unlike}, NodeState.NodeState, Rounds.Moment, Slots.{Sender, expects, listens, role_of}, Slots.Sender.{Nobody, Node, EachTrusted}}
use Rattle.rb_rules.proofs.{ExactStages.{idle_expects_nobody, vote_over_nothing}, Votes.same_vote}
use Rattle.rb_laws_agreement.proofs.{Tests.{Present, or_neither_second, true_or_false}, Premises.{Premise, premise_holds}, NodeWindows.{sense_in, word_at}, Invariant.{GoodSent, HasRelays, HasVoted, IsGoodNode, is_good_now, kind_in, sender_of}, ExactWindows.{IsSingle, expected_at, take_at}, JudgedWindows.{alike_values, first_row_trusts, nobody_trusted, rows_of}, Goodnesses.{exact_role, few_nodes, good_below_16, single_sender}, Exchanges.{sender-held, shows_taken, taken_is_trusted}, Senders.sender_is_trusted, Settings.{AllCarried, Setting, all_heard, all_seen, good_here, good_state, stages_with, taken, ticks, windows}, Speaking.{got_is_said, listens_second, listens_third, vote_is_said}, SecondStages.{GoodOne, all_vote, carried_2, idle-vote, relays, some_good, vote_of}, ThirdStages.{carried_3, voted}}
use Rattle.rb_laws_listener_near.specs.Judged.{heard_stages, is_asymmetric_with, verdict_with}
use Rattle.rb_laws_listener_near.proofs.{Sides.{SideAlike, bius_alike, rmus_alike, side_alike}, Tracking.{Held, MostStay, Senses, Tracks, good_stays, held, is_taken, listener_vote, listener_votes, sender-here}}

-- Whom the judge takes for suspects.

-- the judge is told whom all good nodes trust
trusted_told : {sc hands n m s slot q : _} → Setting sc hands n m s slot q → (kind : Side)
    → trusted_now kind (stages_with sc m slot (q + 1)) ≡ s.trusted kind
trusted_told {sc} {m} {s} {slot} {q} c kind = go (present (in_order (rows_of sc m))) refl
  where
    go : (rows : List Row) → present (in_order (rows_of sc m)) ≡ rows → trusted_now kind (stages_with sc m slot (q + 1)) ≡ s.trusted kind
    go [] is =
        let nobody : Premise sc m.frame slot (λ kind. 0) (stages_with sc m slot (q + 1)) =
        premise_holds sc m.frame slot (λ kind. 0) (stages_with sc m slot (q + 1)) (λ kind. ap (trusted_by kind) is) (λ kind. refl) c.passed.no_cause in
        absurd (nobody_trusted (λ j. is_good sc Biu j m.frame slot) (omega (arith, nobody.most Biu)))
    go (r ∷ rs) is =
        ap (trusted_by kind) is
        ∙ first_row_trusts (windows c) s.trusted
        (λ me i st there good kind. (c.agree.nodes me i st (record { there = there; good = good_here c me i ∙ good })).trusted kind) r rs is kind

-- a trusted node that is not good is suspect
suspect : {sc hands n m s slot q : _} → Setting sc hands n m s slot q → (kind : Side) (j : ℕ) → j < 16
    → has (s.trusted kind) j ≡ true → is_good_now sc m kind j ≡ false → is_suspect kind (stages_with sc m slot (q + 1)) j ≡ true
suspect {sc} {m} {slot} {q} c kind j small t faulty =
    let stages : List JudgedStage = stages_with sc m slot (q + 1) in
    and_from (has (trusted_now kind stages) j) (not (has (good_now kind stages) j)) (ap (λ x. has x j) (trusted_told c kind) ∙ t)
    (not_from_false (has (good_now kind stages) j)
    (has-set_of j (λ i. is_good sc kind i m.frame slot) small ∙ sym (good_here c kind j) ∙ faulty))

-- One value.

-- if the good RMUs say one value, the listener and the BIU vote for it
said_alike : {sc hands n m s slot q : _} (c : Setting sc hands n m s slot q) → AllCarried sc m slot (q + 1) → MostStay sc m
    → {st : _} → Tracks sc m st → (sense : ℕ → Sense) → Senses sc m slot q sense → (value : Heard)
    → ((j : ℕ) (source : NodeState) → IsGoodNode sc m Rmu j source → says sc.sizes Rmu j source slot (q + 1) (word_at sc m slot j) ≡ Some value)
    → {i b : _} → IsGoodNode sc m Biu i b → listener_vote sc slot q st sense ≡ vote_of c Biu i b
said_alike c fits most t sense senses value said here =
    listener_votes c most t sense senses value said ∙ sym (all_vote c fits value said here)

-- in an idle slot the listener and the BIU vote Fault
idle_alike : {sc hands n m s slot q : _} (c : Setting sc hands n m s slot q)
    → {st : _} → Tracks sc m st → (sense : ℕ → Sense) → sender_of sc.sizes s slot ≡ Nobody
    → {i b : _} → IsGoodNode sc m Biu i b → listener_vote sc slot q st sense ≡ vote_of c Biu i b
idle_alike {sc} {m} {s} {slot} {q} c {st} t sense idle here =
    let h : Held sc m s st = held c t in
    vote_over_nothing st.far (expected_at sc.sizes Biu st slot (q + 1)) sense
    (λ j. ap (λ x. expects Biu (role_of sc.sizes slot) x st.far.trusted (q + 1) j) (sender-here slot h ∙ idle)
    ∙ idle_expects_nobody Biu (role_of sc.sizes slot) st.far.trusted (q + 1) j)
    ∙ sym (idle-vote c idle here)

not_each : {sc hands n m s slot q : _} → Setting sc hands n m s slot q → sender_of sc.sizes s slot ≡ EachTrusted → ⊥
not_each {sc} {s} {slot} c e =
    let single : IsSingle (sender_of sc.sizes s slot) = single_sender (s.trusted Biu) (s.trusted Rmu) s.owners (role_of sc.sizes slot) (exact_role sc.sizes slot c.below) in
    subst IsSingle e single

-- Stage 2 of the slots of BIUs.

-- what the listener saw in a stage is what it took
pub record SawTaken (sc : Scenario) (m : Moment) (slot stage : ℕ) (st : NodeState) (sense : ℕ → Sense) (seen : ℕ → JudgedStage → Option (ℕ → See)) : Type 0 where
  pub sight : ℕ → See
  pub here : seen (length m.book.stages) (judged_of sc (record { frame = m.frame; slot = slot; stage = stage }) (rows_of sc m)) ≡ Some sight
  pub is : (j : ℕ) → j < 16 → sight j ≡ see_value (take_at sc.sizes Biu st slot stage sense j)

-- if no RMU was seen unlike, the listener takes what a good BIU takes
taken_alike : {sc hands n m s slot : _} (c : Setting sc hands n m s slot 1)
    → {st : _} → Tracks sc m st → {sense : _} → Senses sc m slot 1 sense → {seen : _} → SawTaken sc m slot 2 st sense seen
    → ((j : ℕ) → j < 16 → is_suspect Rmu (stages_with sc m slot 2) j ≡ true → is_asymmetric_with Rmu (heard_stages seen (stages_with sc m slot 2)) j ≡ false)
    → {i b : _} → IsGoodNode sc m Biu i b → (j : ℕ) → j < 16 → take_at sc.sizes Biu st slot 2 sense j ≡ taken c Biu i b j
taken_alike {sc} {m} {s} {slot} c {st} t {sense} senses {seen} saw alike {i} {b} here j small =
    elim (true_or_false (has (s.trusted Rmu) j)) [
      | inr out ↦
          none-if (take_at sc.sizes Biu st slot 2 sense j) (λ some.
          let in_it : has (s.trusted Rmu) j ≡ true = ap (λ x. has x j) (sym h.far) ∙ taken_is_trusted st.far (expected_at sc.sizes Biu st slot 2) sense j some in
          let both : true ≡ false = sym in_it ∙ out in cc)
          ∙ sym (none-if (taken c Biu i b j) (λ some.
          let in_it : has (s.trusted Rmu) j ≡ true = (all_seen c j here small some).trusts in
          let both : true ≡ false = sym in_it ∙ out in cc))
      | inl trusted ↦ elim (true_or_false (is_good_now sc m Rmu j)) [
        | inl good ↦
            let there : Present (slice_get (of_kind Rmu m.nodes) j) = good_state c.agree Rmu j good in
            let source : IsGoodNode sc m Rmu j there.value = record { there = there.is; good = good } in
            (is_taken c t senses source (good_stays c (omega arith) j good)).takes
            ∙ sym (all_heard c (carried_2 c) here source).takes
        | inr faulty ↦ sym (faulty_alike trusted faulty)
      ]
    ]
  where
    h : Held sc m s st
    h = held c t

    faulty_alike : has (s.trusted Rmu) j ≡ true → is_good_now sc m Rmu j ≡ false → taken c Biu i b j ≡ take_at sc.sizes Biu st slot 2 sense j
    faulty_alike trusted faulty =
        let place : Place = record { frame = m.frame; slot = slot; stage = 2 } in
        let judged : JudgedStage = judged_of sc place (rows_of sc m) in
        let good : is_good sc Biu i m.frame slot ≡ true = sym (good_here c Biu i) ∙ here.good in
        let small_i : i < 16 = good_below_16 sc c.law.sizes Biu i m.frame slot good in
        let none : is_asymmetric_with Rmu (heard_stages seen (stages_with sc m slot 2)) j ≡ false = alike j small (suspect c Rmu j small trusted faulty) in
        let same : are_alike judged.eps (judged.sight Biu i j) (saw.sight j) ≡ true =
        rmus_alike seen judged m.book.stages j saw.here none i small_i (has-set_of i (λ k. is_good sc Biu k m.frame slot) small_i ∙ good) in
        let shown : judged.sight Biu i j ≡ see_value (taken c Biu i b j) =
        shows_taken (windows c) place Biu i j c.below here.there good ((ticks c).tick Biu b) small in
        alike_values judged.eps (taken c Biu i b j) (take_at sc.sizes Biu st slot 2 sense j)
        (ap (λ x. are_alike judged.eps x (see_value (take_at sc.sizes Biu st slot 2 sense j))) (sym shown)
        ∙ ap (are_alike judged.eps (judged.sight Biu i j)) (sym (saw.is j small)) ∙ same)

-- if no BIU was seen unlike, all good RMUs have got the same from the sender
got_alike : {sc hands n m s slot : _} (c : Setting sc hands n m s slot 1) → Biu ≡ kind_in sc.sizes slot
    → (p : ℕ) → sender_of sc.sizes s slot ≡ Node p
    → ((j : ℕ) → j < 16 → is_suspect Biu (stages_with sc m slot 2) j ≡ true → list_any (was_unlike Biu j) (stages_with sc m slot 2) ≡ false)
    → {i j a b : _} → IsGoodNode sc m Rmu i a → IsGoodNode sc m Rmu j b → a.got ≡ b.got
got_alike {sc} {hands} {m} {s} {slot} c mine p sender alike {i} {j} {a} {b} here_a here_b =
    let r : HasRelays sc hands m s slot = relays c in
    let relay_a : IsGoodNode sc m (other (kind_in sc.sizes slot)) i a = subst (λ k. IsGoodNode sc m (other k) i a) mine here_a in
    let relay_b : IsGoodNode sc m (other (kind_in sc.sizes slot)) j b = subst (λ k. IsGoodNode sc m (other k) j b) mine here_b in
    elim (true_or_false (is_good_now sc m Biu p)) [
      | inl good ↦
          let sent : GoodSent sc hands m slot p = r.own p sender (ap (λ k. is_good_now sc m k p) (sym mine) ∙ good) in
          sent.got i a relay_a ∙ sym (sent.got j b relay_b)
      | inr faulty ↦
          let trusts : has (s.trusted (kind_in sc.sizes slot)) p ≡ true = sender_is_trusted s.trusted s.owners (role_of sc.sizes slot) p c.agree.owned sender in
          let t : has (s.trusted Biu) p ≡ true = ap (λ k. has (s.trusted k) p) mine ∙ trusts in
          let small : p < 16 = omega (arith, c.agree.inside Biu p t, few_nodes c.law.sizes Biu) in
          let newest : JudgedStage = judged_of sc (record { frame = m.frame; slot = slot; stage = 2 }) (rows_of sc m) in
          let none : list_any (was_unlike Biu p) m.book.stages ≡ false =
          or_neither_second (was_unlike Biu p newest) (list_any (was_unlike Biu p) m.book.stages) (alike p small (suspect c Biu p small t faulty)) in
          r.alike p sender (ap (λ k. list_any (was_unlike k p) m.book.stages) (sym mine) ∙ none) i j a b relay_a relay_b
    ]

second_alike : {sc hands n m s slot : _} (c : Setting sc hands n m s slot 1) → MostStay sc m
    → {st : _} → Tracks sc m st → {sense : _} → Senses sc m slot 1 sense → {seen : _}
    → verdict_with seen (stages_with sc m slot 2) ≡ None → SawTaken sc m slot 2 st sense seen
    → votes_in Biu (role_of sc.sizes slot) 2 ≡ true → {i b : _} → IsGoodNode sc m Biu i b
    → listener_vote sc slot 1 st sense ≡ vote_of c Biu i b
second_alike {sc} {m} {s} {slot} c most {st} t {sense} senses {seen} none saw votes {i} {b} here = go (sender_of sc.sizes s slot) refl
  where
    mine : Biu ≡ kind_in sc.sizes slot
    mine = listens_second Biu (role_of sc.sizes slot) (and_first (listens Biu (role_of sc.sizes slot) 2) true votes)

    one : (p : ℕ) → sender_of sc.sizes s slot ≡ Node p → (x : Side)
        → ((j : ℕ) → j < 16 → is_suspect x (stages_with sc m slot 2) j ≡ true → is_asymmetric_with x (heard_stages seen (stages_with sc m slot 2)) j ≡ false)
        → listener_vote sc slot 1 st sense ≡ vote_of c Biu i b
    one p sender Biu alike =
        let g : GoodOne sc m Rmu = some_good c Rmu in
        said_alike c (carried_2 c) most t sense senses (unwrap_or g.st.got Fault)
        (λ j source there.
        got_is_said sc.sizes Rmu j p source slot (word_at sc m slot j) (sender-held slot (c.agree.nodes Rmu j source there) ∙ sender) mine
        ∙ ap (λ o. Some (unwrap_or o Fault))
        (got_alike c mine p sender (λ k small sus. bius_alike seen (stages_with sc m slot 2) k (alike k small sus)) there g.here)) here
    one p sender Rmu alike =
        same_vote st.far b.far (expected_at sc.sizes Biu st slot 2) (expected_at sc.sizes Biu b slot 2) sense (sense_in (windows c) Biu i b)
        (λ j small. taken_alike c t senses saw alike here j small)

    go : (sender : Sender) → sender_of sc.sizes s slot ≡ sender → listener_vote sc slot 1 st sense ≡ vote_of c Biu i b
    go Nobody e = idle_alike c t sense e here
    go EachTrusted e = absurd (not_each c e)
    go (Node p) e = let side : SideAlike seen (stages_with sc m slot 2) = side_alike seen (stages_with sc m slot 2) none in one p e side.side side.alike

-- Stage 3 of the slots of RMUs.

third-from : (b t : Bool) → (if b then false else (false || (true && t))) ≡ true → t ≡ true
third-from true t h = cc
third-from false t h = h

third_alike : {sc hands n m s slot : _} (c : Setting sc hands n m s slot 2) → MostStay sc m
    → {st : _} → Tracks sc m st → (sense : ℕ → Sense) → Senses sc m slot 2 sense
    → votes_in Biu (role_of sc.sizes slot) 3 ≡ true → {i b : _} → IsGoodNode sc m Biu i b
    → listener_vote sc slot 2 st sense ≡ vote_of c Biu i b
third_alike {sc} {hands} {n} {m} {s} {slot} c most {st} t sense senses votes {i} {b} here = go (sender_of sc.sizes s slot) refl
  where
    hears : listens Biu (role_of sc.sizes slot) 3 ≡ true
    hears = and_first (listens Biu (role_of sc.sizes slot) 3) true votes

    theirs : Rmu ≡ kind_in sc.sizes slot
    theirs = from (kind_in sc.sizes slot) (listens_third Biu (role_of sc.sizes slot) hears)
      where
        from : (k : Side) → Biu ≡ other k → Rmu ≡ k
        from Biu h = cc
        from Rmu h = refl

    go : (sender : Sender) → sender_of sc.sizes s slot ≡ sender → listener_vote sc slot 2 st sense ≡ vote_of c Biu i b
    go Nobody e = idle_alike c t sense e here
    go EachTrusted e = absurd (not_each c e)
    go (Node p) e =
        let v : HasVoted sc hands m s slot = voted sc hands n m s slot c in
        said_alike c (carried_3 c) most t sense senses v.value
        (λ j source there.
        vote_is_said sc.sizes Rmu j p source slot (word_at sc m slot j) (sender-held slot (c.agree.nodes Rmu j source there) ∙ e) hears
        ∙ ap (λ x. Some x) (v.held j source (subst (λ k. IsGoodNode sc m k j source) theirs there))) here

-- Any stage.

-- the listener votes as a good BIU does
pub vote_alike : {sc hands n m s slot : _} (q : ℕ) (c : Setting sc hands n m s slot q) → MostStay sc m
    → {st : _} → Tracks sc m st → {sense : _} → Senses sc m slot q sense → (seen : ℕ → JudgedStage → Option (ℕ → See))
    → verdict_with seen (stages_with sc m slot (q + 1)) ≡ None → (votes_in Biu (role_of sc.sizes slot) (q + 1) ≡ true → SawTaken sc m slot (q + 1) st sense seen)
    → votes_in Biu (role_of sc.sizes slot) (q + 1) ≡ true → {i b : _} → IsGoodNode sc m Biu i b
    → listener_vote sc slot q st sense ≡ vote_of c Biu i b
vote_alike {sc} {slot} zero c most t senses seen none saw votes here =
    let late : false ≡ true = and_second (listens Biu (role_of sc.sizes slot) 1) false votes in cc
vote_alike (suc zero) c most t senses seen none saw votes here =
    second_alike c most t senses none (saw votes) votes here
vote_alike (suc (suc zero)) c most t {sense} senses seen none saw votes here =
    third_alike c most t sense senses votes here
vote_alike (suc (suc (suc q))) c most t senses seen none saw votes here =
    let small : suc (suc (suc q)) < 3 = c.small in absurd (omega arith)
