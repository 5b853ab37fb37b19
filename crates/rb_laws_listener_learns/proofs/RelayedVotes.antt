-- The votes of a listener on the vectors of BIUs, which the RMUs relay in stage 2, are those of the
-- bus.
use Rattle.std.proofs.{Common.{◌≡◌, ◌⊎◌, ℕ, zero, suc, ◌+◌, ◌-◌, ◌*◌, ◌/◌, ◌%◌, ◌<◌, ◌==◌, true, false, Option, Some, None, unwrap_or, if◌then◌else◌, List, [], ◌∷◌, length, map, get_or, slice_get, inl, inr, refl, sym, ◌∙◌, ap, subst, arith}, lemmas.Bool.false_from_ne_true, lemmas.Bool.Decides.nat_tests}
use Rattle.std.specs.List.{list_any, range_with_len}
use Rattle.rb_base.specs.{Nodes.{Side, has, other}, Nodes.Side.{Biu, Rmu}, Sizes.sync_slot_of, declared.values.Heard.Heard, declared.values.Heard.TheVariants.Fault, declared.values.See.See, declared.values.See.TheVariants.Nothing}
use Rattle.rb_base.proofs.{Plain.{less-differs, none-if}, Sets.has-set_of}
use Rattle.rb_rules.specs.{declared.role.Role.TheVariants.DiagBiu, declared.sense.Sense.Sense, Book.{judged_of, of_kind}, ExactStage.{present, says, see_value, votes_in}, Goodness.{Scenario, is_good}, Judging.{JudgedStage, are_alike, is_suspect, was_unlike}, Majority.majority_of, NodeState.NodeState, Rounds.{Moment, moment}, Sense.{stamp_in, value_in}, SyncStage.see_time, Slots.{role_of, sender_in, sender_kind}, Slots.Sender.{Nobody, Node}}
use Rattle.rb_laws_agreement.proofs.{Exchanges.{sender-held, shows_taken}, FrameTurns.role-sender, Goodnesses.{good_below_16, good_earlier}, Invariant.{GoodSent, HasRelays, HasVoted, IsGoodNode, is_good_now, kind_in, sender_of}, JudgedWindows.{alike_values, rows_of}, NextMoments.{CameFrom, came_from, next}, NodeWindows.word_at, SecondStages.{GoodOne, all_vote, carried_2, relays, some_good, vote-held, vote_of}, Settings.{all_heard, all_seen, good_here, good_state, taken, ticks, windows}, Speaking.got_is_said, Tests.{Present, or_neither_second, true_or_false}, ThirdStages.voted, Vectors.{vector_slot, vector_slot-lt, vector_slot-role}}
use Rattle.rb_listen.specs.Lessons.{record_of, recorded_of, stage_recorded, trusted_rmus, vote_on}
use Rattle.rb_laws_listener_near.specs.Judged.{heard_stages, was_unlike_with}
use Rattle.rb_laws_listener_near.proofs.Sides.{SideAlike, bius_alike, rmus_alike, side_alike}
use Rattle.rb_laws_listener_learns.specs.{Ears.Ear, Receivers.{is_idle, is_nobody, see_learned, see_recorded, seen_learned, timed_see}}
use Rattle.rb_laws_listener_learns.proofs.{FrameStages.{Grows, IsAtWindow, at-window, fewer-none, first_of_frame, grows, last-suspects, place_at, told-now}, LearnedVotes.{AtStage, Learner, at-stage, before-end, good-in-sync, good-trusted, same-shared, trust-end, value-at-end, votes-for}, Spoken.recorded-value, TrustedSets.{GoodThere, IsIn, good-there}}

-- Lists.

same-map : (x y : ℕ → Option Heard) (from n : ℕ) → ((j : ℕ) → j < from + n → x j ≡ y j) → map x (range_with_len from n) ≡ map y (range_with_len from n)
same-map x y from zero same = refl
same-map x y from (suc n) same =
    ap (λ v. v ∷ map x (range_with_len (from + 1) n)) (same from (omega arith))
    ∙ ap (λ l. y from ∷ l) (same-map x y (from + 1) n (λ j below. same j (omega (arith, below))))

-- The verdict of the frame's last stage.

-- the verdict finds that a trusted node was seen alike in each stage, if it is not good when the
-- RMUs have called
alike-in-stage : {sc hands ear f records : _} (c : Learner sc hands ear f records)
    → (a : SideAlike (seen_learned sc ear (suc f) records) (moment sc hands (3 * sync_slot_of sc.sizes + 3 + first_of_frame sc (suc f))).book.stages) → (j : ℕ) → j < 16
    → has (c.end.shared.trusted a.side) j ≡ true → is_good sc a.side j (suc f) (sync_slot_of sc.sizes) ≡ false → {slot : ℕ} (s : AtStage sc hands f slot 1)
    → list_any (was_unlike_with a.side j)
    (heard_stages (seen_learned sc ear (suc f) records)
    (judged_of sc (place_at sc (moment sc hands (3 * slot + 1 + first_of_frame sc (suc f)))) (rows_of sc (moment sc hands (3 * slot + 1 + first_of_frame sc (suc f))))
    ∷ (moment sc hands (3 * slot + 1 + first_of_frame sc (suc f))).book.stages)) ≡ false
alike-in-stage {sc} {hands} {ear} {f} {records} c a j small t faulty {slot} s =
    subst (λ l. list_any (was_unlike_with a.side j) (heard_stages (seen_learned sc ear (suc f) records) l) ≡ false) (ap (λ k. (moment sc hands k).book.stages) (sym after) ∙ ap (λ m. m.book.stages) s.step.is ∙ s.step.judged.stages)
    (fewer-none (was_unlike_with a.side j) (seen_learned sc ear (suc f) records) g.more (moment sc hands (3 * slot + 2 + first_of_frame sc (suc f))).book.stages
    (subst (λ l. list_any (was_unlike_with a.side j) (heard_stages (seen_learned sc ear (suc f) records) l) ≡ false) (ap (λ k. (moment sc hands k).book.stages) (sym index) ∙ g.is)
    (a.alike j small suspect)))
  where
    below : slot < sync_slot_of sc.sizes
    below = s.exact.below

    after : suc (3 * slot + 1 + first_of_frame sc (suc f)) ≡ 3 * slot + 2 + first_of_frame sc (suc f)
    after = omega arith

    index : 3 * sync_slot_of sc.sizes + 3 - (3 * slot + 2) + (3 * slot + 2 + first_of_frame sc (suc f)) ≡ 3 * sync_slot_of sc.sizes + 3 + first_of_frame sc (suc f)
    index = omega (arith, below)

    g : Grows sc hands (3 * slot + 2 + first_of_frame sc (suc f)) (3 * sync_slot_of sc.sizes + 3 - (3 * slot + 2) + (3 * slot + 2 + first_of_frame sc (suc f)))
    g =
        grows c.law f c.before (3 * sync_slot_of sc.sizes + 3 - (3 * slot + 2)) (3 * slot + 2) (omega (arith, below))
        (before-end f c.end (3 * sync_slot_of sc.sizes + 3 - (3 * slot + 2) + (3 * slot + 2 + first_of_frame sc (suc f))) (omega (arith, index)))

    last : IsAtWindow sc hands (suc f) (3 * sync_slot_of sc.sizes + 2)
    last =
        at-window c.law c.before (3 * sync_slot_of sc.sizes + 2) (omega arith)
        (before-end f c.end (3 * sync_slot_of sc.sizes + 2 + first_of_frame sc (suc f)) (omega arith))

    here : IsIn sc hands (suc f) (3 * sync_slot_of sc.sizes + 2 + first_of_frame sc (suc f))
    here = record { running = before-end f c.end (3 * sync_slot_of sc.sizes + 2 + first_of_frame sc (suc f)) (omega arith); frame_is = last.frame_is }

    next-index : suc (3 * sync_slot_of sc.sizes + 2 + first_of_frame sc (suc f)) ≡ 3 * sync_slot_of sc.sizes + 3 + first_of_frame sc (suc f)
    next-index = omega arith

    suspect : is_suspect a.side (moment sc hands (3 * sync_slot_of sc.sizes + 3 + first_of_frame sc (suc f))).book.stages j ≡ true
    suspect =
        subst (λ k. is_suspect a.side (moment sc hands k).book.stages j ≡ true) next-index
        (last-suspects hands c.law (3 * sync_slot_of sc.sizes + 2 + first_of_frame sc (suc f)) last.window_is
        (before-end f c.end (suc (3 * sync_slot_of sc.sizes + 2 + first_of_frame sc (suc f))) (omega arith)) a.side j small c.end.shared.trusted
        (λ me i st node side. trust-end c here node side) t
        (ap (λ x. is_good sc a.side j x (sync_slot_of sc.sizes)) last.frame_is ∙ faulty))

-- What the listener saw.

timed-value : (sc : Scenario) (ear : Ear) (frame j : ℕ) (o : Option Heard) → timed_see sc ear frame j (see_value o) ≡ see_value o
timed-value sc ear frame j None = refl
timed-value sc ear frame j (Some v) = refl

seen-in-second : (sc : Scenario) (ear : Ear) (frame : ℕ) (records : List Sense) {window : ℕ} (slot : ℕ) (s : JudgedStage) → window ≡ 3 * slot + 1 → stage_recorded (role_of sc.sizes slot) ≡ 2
    → seen_learned sc ear frame records window s ≡ Some (see_learned sc ear frame records slot s)
seen-in-second sc ear frame records {window} slot s is second =
    let at : window / 3 ≡ slot = omega (arith, is) in
    let stage : window % 3 + 1 ≡ 2 = omega (arith, is) in
    let test : (window % 3 + 1 == stage_recorded (role_of sc.sizes (window / 3))) ≡ true = same-number (window % 3 + 1) (stage_recorded (role_of sc.sizes (window / 3))) (stage ∙ sym (ap (λ x. stage_recorded (role_of sc.sizes x)) at ∙ second)) in
    ap (λ b. if b then Some (see_learned sc ear frame records (window / 3) s) else None) test ∙ ap (λ x. Some (see_learned sc ear frame records x s)) at
  where
    same-number : (a b : ℕ) → a ≡ b → (a == b) ≡ true
    same-number a b e = grind (arith, nat_tests, e)

-- Stage 2 of the slot of a trusted BIU.

pub biu-vote : {sc hands ear f records : _} (c : Learner sc hands ear f records) (i : ℕ) → i < sc.sizes.bius
    → has (c.end.shared.trusted Biu) i ≡ true → vote_on records (trusted_rmus sc.sizes records) (vector_slot sc.sizes Biu i) ≡ c.end.shared.values (vector_slot sc.sizes Biu i)
biu-vote {sc} {hands} {ear} {f} {records} c i count t = by a.side refl ∙ sym (value-at-end c Biu i count s3 ∙ sym (v.held b.index b.st own_b) ∙ held)
  where
    slot : ℕ
    slot = vector_slot sc.sizes Biu i

    n : ℕ
    n = 3 * vector_slot sc.sizes Biu i + 1 + first_of_frame sc (suc f)

    n3 : ℕ
    n3 = 3 * vector_slot sc.sizes Biu i + 2 + first_of_frame sc (suc f)

    m : Moment
    m = moment sc hands (3 * vector_slot sc.sizes Biu i + 1 + first_of_frame sc (suc f))

    m3 : Moment
    m3 = moment sc hands (3 * vector_slot sc.sizes Biu i + 2 + first_of_frame sc (suc f))

    below : slot < sync_slot_of sc.sizes
    below = vector_slot-lt sc.sizes Biu i count

    role : role_of sc.sizes slot ≡ DiagBiu i
    role = vector_slot-role sc.sizes Biu i count

    mine : kind_in sc.sizes slot ≡ Biu
    mine = ap sender_kind role

    s2 : AtStage sc hands f slot 1
    s2 = at-stage c slot 1 below (omega arith)

    s3 : AtStage sc hands f slot 2
    s3 = at-stage c slot 2 below (omega arith)

    a : SideAlike (seen_learned sc ear (suc f) records) (moment sc hands (3 * sync_slot_of sc.sizes + 3 + first_of_frame sc (suc f))).book.stages
    a = side_alike (seen_learned sc ear (suc f) records) (moment sc hands (3 * sync_slot_of sc.sizes + 3 + first_of_frame sc (suc f))).book.stages c.verdict

    -- some BIU is good
    b : GoodOne sc m3 Biu
    b = some_good s3.setting Biu

    follows : m3 ≡ next sc m
    follows = let e : n3 ≡ suc n = omega arith in ap (moment sc hands) e ∙ s2.step.is

    from : CameFrom sc m Biu b.index b.st
    from =
        came_from s2.setting.agree (subst (λ x. IsGoodNode sc x Biu b.index b.st) follows b.here)

    v : HasVoted sc hands m3 s3.shared slot
    v = voted sc hands n3 m3 s3.shared slot s3.setting

    own_b : IsGoodNode sc m3 (kind_in sc.sizes slot) b.index b.st
    own_b = subst (λ k. IsGoodNode sc m3 k b.index b.st) (sym mine) b.here

    held : get_or b.st.votes slot Fault
        ≡ vote_of s2.setting Biu b.index from.st
    held =
        vote-held s2.setting from.was from.is (ap (λ r. votes_in Biu r 2) role)

    -- the sender of the slot is trusted
    trusted : has (s2.shared.trusted Biu) i ≡ true
    trusted = ap (λ x. has x i) (same-shared c s2 Biu) ∙ t

    sender : sender_of sc.sizes s2.shared slot ≡ Node i
    sender = ap (sender_in (s2.shared.trusted Biu) (s2.shared.trusted Rmu) s2.shared.owners) role ∙ role-sender s2.shared.trusted s2.shared.owners Biu i trusted

    -- a good RMU says what it has got
    said : (j : ℕ) (st : NodeState) → IsGoodNode sc m Rmu j st
        → says sc.sizes Rmu j st slot (1 + 1) (word_at sc m slot j) ≡ Some (unwrap_or st.got Fault)
    said j st node =
        got_is_said sc.sizes Rmu j i st slot (word_at sc m slot j)
        (sender-held slot (s2.setting.agree.nodes Rmu j st node) ∙ sender) (sym mine)

    value-of : (j : ℕ) (st : NodeState) → IsGoodNode sc m Rmu j st → is_good sc Rmu j (suc f) (sync_slot_of sc.sizes) ≡ true
        → value_in (record_of records slot j) ≡ Some (unwrap_or st.got Fault)
    value-of j st node good =
        (recorded-value c.whole s2.exact s2.inside.running
        s2.inside.frame_is node good (ap stage_recorded role) (said j st node)).value

    g : GoodThere sc hands n c.g
    g = good-there hands c.law n c.g s2.inside.running c.good

    -- if no BIU was seen unlike, all good RMUs have got the same
    got-alike : a.side ≡ Biu → (j : ℕ) (st : NodeState) → IsGoodNode sc m Rmu j st → st.got ≡ g.st.got
    got-alike side j st node = go (true_or_false (is_good_now sc m Biu i))
      where
        r : HasRelays sc hands m s2.shared slot
        r = relays s2.setting

        relay : (o : ℕ) (x : NodeState) → IsGoodNode sc m Rmu o x
            → IsGoodNode sc m (other (kind_in sc.sizes slot)) o x
        relay o x h = subst (λ k. IsGoodNode sc m (other k) o x) (sym mine) h

        small : i < 16
        small = omega (arith, count, c.law.sizes.most_bius)

        none : is_good sc Biu i (suc f) (sync_slot_of sc.sizes) ≡ false → list_any (was_unlike Biu i) m.book.stages ≡ false
        none faulty =
            let seen : ℕ → JudgedStage → Option (ℕ → See) = seen_learned sc ear (suc f) records in
            let newest : JudgedStage = judged_of sc (place_at sc m) (rows_of sc m) in
            or_neither_second (was_unlike Biu i newest) (list_any (was_unlike Biu i) m.book.stages)
            (bius_alike (seen_learned sc ear (suc f) records) (newest ∷ m.book.stages) i
            (subst (λ k. list_any (was_unlike_with k i) (heard_stages (seen_learned sc ear (suc f) records) (newest ∷ m.book.stages)) ≡ false) side
            (alike-in-stage c a i small (ap (λ k. has (c.end.shared.trusted k) i) side ∙ t) (ap (λ k. is_good sc k i (suc f) (sync_slot_of sc.sizes)) side ∙ faulty) s2)))

        go : (is_good_now sc m Biu i ≡ true)
            ⊎ (is_good_now sc m Biu i ≡ false) → st.got ≡ g.st.got
        go (inl good) =
            let sent : GoodSent sc hands m slot i =
            r.own i sender (ap (λ k. is_good_now sc m k i) mine ∙ good) in
            sent.got j st (relay j st node) ∙ sym (sent.got c.g g.st (relay c.g g.st g.node))
        go (inr faulty) =
            r.alike i sender
            (ap (λ k. list_any (was_unlike k i) m.book.stages) mine ∙ none (not-later faulty))
            j c.g st g.st (relay j st node) (relay c.g g.st g.node)
          where
            not-later : is_good_now sc m Biu i ≡ false → is_good sc Biu i (suc f) (sync_slot_of sc.sizes) ≡ false
            not-later now = false_from_ne_true (is_good sc Biu i (suc f) (sync_slot_of sc.sizes)) (λ good.
                let early : is_good sc Biu i (suc f) slot ≡ true = good_earlier sc Biu i (suc f) slot (sync_slot_of sc.sizes) (omega (arith, below)) good in
                let here : is_good sc Biu i (suc f) slot ≡ false =
                ap (λ x. is_good sc Biu i x slot) (sym s2.window.frame_is)
                ∙ sym (good_here s2.setting Biu i)
                ∙ now in
                let both : true ≡ false = sym early ∙ here in cc)

    by-bius : a.side ≡ Biu → vote_on records (trusted_rmus sc.sizes records) slot
        ≡ vote_of s2.setting Biu b.index from.st
    by-bius side =
        votes-for hands c.law c.most_good records slot (unwrap_or g.st.got Fault) (good-trusted c slot 1 below (omega arith))
        (λ j good.
        let x : GoodThere sc hands n j = good-there hands c.law n j s2.inside.running good in
        value-of j x.st x.node (good-in-sync c j good) ∙ ap (λ o. Some (unwrap_or o Fault)) (got-alike side j x.st x.node))
        ∙ sym (all_vote s2.setting
        (carried_2 s2.setting) (unwrap_or g.st.got Fault) (λ j st node. said j st node ∙ ap (λ o. Some (unwrap_or o Fault)) (got-alike side j st node)) from.was)

    -- if no RMU was seen unlike, what is recorded of each trusted RMU is what the BIU took
    by-rmus : a.side ≡ Rmu → vote_on records (trusted_rmus sc.sizes records) slot
        ≡ vote_of s2.setting Biu b.index from.st
    by-rmus side =
        ap (λ l. majority_of (present l))
        (same-map (recorded_of value_in records (trusted_rmus sc.sizes records) slot) (taken s2.setting Biu b.index from.st) 0 16
        (λ j small. same j (omega (arith, small))))
      where
        rmus : s2.shared.trusted Rmu ≡ trusted_rmus sc.sizes records
        rmus = sym ((s2.setting.agree.nodes Rmu c.g g.st g.node).trusted Rmu) ∙ c.rmus n s2.inside Rmu c.g g.st g.node

        slot_is : m.window / 3 ≡ slot
        slot_is = omega (arith, s2.window.window_is)

        good_b : is_good sc Biu b.index m.frame slot ≡ true
        good_b = sym (good_here s2.setting Biu b.index) ∙ from.was.good

        small_b : b.index < 16
        small_b = good_below_16 sc c.law.sizes Biu b.index m.frame slot good_b

        told : (judged_of sc (place_at sc m) (rows_of sc m)).trusted Biu ≡ s2.shared.trusted Biu
        told =
            told-now (windows s2.setting) (place_at sc m) s2.shared.trusted
            (λ me o st there good kind. (s2.setting.agree.nodes me o st (record { there = there; good = good_here s2.setting me o ∙ good })).trusted kind)
            s2.step.judged.none Biu

        -- the slot is not idle
        idle : is_idle sc.sizes (judged_of sc (place_at sc m) (rows_of sc m)) slot ≡ false
        idle =
            ap (λ r. is_nobody (sender_in ((judged_of sc (place_at sc m) (rows_of sc m)).trusted Biu) ((judged_of sc (place_at sc m) (rows_of sc m)).trusted Rmu) [] r)) role
            ∙ ap (λ x. is_nobody (if has x i then Node i else Nobody)) told ∙ ap (λ x. is_nobody (if x then Node i else Nobody)) trusted

        not_sync : (slot == sync_slot_of sc.sizes) ≡ false
        not_sync = less-differs slot (sync_slot_of sc.sizes) below

        -- the listener saw what is recorded
        sight-is : (j : ℕ) → see_learned sc ear (suc f) records slot (judged_of sc (place_at sc m) (rows_of sc m)) j ≡ see_value (value_in (record_of records slot j))
        sight-is j =
            ap (λ x. if x then Nothing else timed_see sc ear (suc f) j (see_recorded sc.sizes records slot j)) idle
            ∙ ap (λ x. timed_see sc ear (suc f) j (if x then see_time (stamp_in (record_of records slot j)) else see_value (value_in (record_of records slot j)))) not_sync
            ∙ timed-value sc ear (suc f) j (value_in (record_of records slot j))

        seen-here : seen_learned sc ear (suc f) records (length m.book.stages) (judged_of sc (place_at sc m) (rows_of sc m))
            ≡ Some (see_learned sc ear (suc f) records slot (judged_of sc (place_at sc m) (rows_of sc m)))
        seen-here =
            seen-in-second sc ear (suc f) records slot (judged_of sc (place_at sc m) (rows_of sc m)) s2.window.long
            (ap stage_recorded role)

        same : (j : ℕ) → j < 16 → recorded_of value_in records (trusted_rmus sc.sizes records) slot j ≡ taken s2.setting Biu b.index from.st j
        same j small =
            elim (true_or_false (has (s2.shared.trusted Rmu) j)) [
              | inr out ↦
                  ap (λ x. if has x j then value_in (record_of records slot j) else None) (sym rmus) ∙ ap (λ x. if x then value_in (record_of records slot j) else None) out
                  ∙ sym (none-if (taken s2.setting Biu b.index from.st j) (λ some.
                  let in_it : has (s2.shared.trusted Rmu) j ≡ true = (all_seen s2.setting j from.was small some).trusts in
                  let both : true ≡ false = sym in_it ∙ out in cc))
              | inl is_in ↦
                  ap (λ x. if has x j then value_in (record_of records slot j) else None) (sym rmus) ∙ ap (λ x. if x then value_in (record_of records slot j) else None) is_in
                  ∙ elim (true_or_false (is_good sc Rmu j (suc f) (sync_slot_of sc.sizes))) [ inl good ↦ of-good good | inr faulty ↦ of-faulty is_in faulty ]
            ]
          where
            of-good : is_good sc Rmu j (suc f) (sync_slot_of sc.sizes) ≡ true
                → value_in (record_of records slot j) ≡ taken s2.setting Biu b.index from.st j
            of-good good =
                let early : is_good sc Rmu j (suc f) slot ≡ true = good_earlier sc Rmu j (suc f) slot (sync_slot_of sc.sizes) (omega (arith, below)) good in
                let now : is_good_now sc m Rmu j ≡ true =
                good_here s2.setting Rmu j ∙ ap (λ x. is_good sc Rmu j x slot) s2.window.frame_is ∙ early in
                let there : Present (slice_get (of_kind Rmu m.nodes) j) = good_state s2.setting.agree Rmu j now in
                let node : IsGoodNode sc m Rmu j there.value = record { there = there.is; good = now } in
                value-of j there.value node good ∙ sym (said j there.value node)
                ∙ sym (all_heard s2.setting (carried_2 s2.setting) from.was node).takes

            of-faulty : has (s2.shared.trusted Rmu) j ≡ true → is_good sc Rmu j (suc f) (sync_slot_of sc.sizes) ≡ false
                → value_in (record_of records slot j) ≡ taken s2.setting Biu b.index from.st j
            of-faulty is_in faulty =
                let trusted_then : has (c.end.shared.trusted Rmu) j ≡ true = ap (λ x. has x j) (sym (same-shared c s2 Rmu)) ∙ is_in in
                let none : list_any (was_unlike_with Rmu j) (heard_stages (seen_learned sc ear (suc f) records) (judged_of sc (place_at sc m) (rows_of sc m) ∷ m.book.stages)) ≡ false =
                subst (λ k. list_any (was_unlike_with k j) (heard_stages (seen_learned sc ear (suc f) records) (judged_of sc (place_at sc m) (rows_of sc m) ∷ m.book.stages)) ≡ false) side
                (alike-in-stage c a j small (ap (λ k. has (c.end.shared.trusted k) j) side ∙ trusted_then) (ap (λ k. is_good sc k j (suc f) (sync_slot_of sc.sizes)) side ∙ faulty) s2) in
                let judged_good : has ((judged_of sc (place_at sc m) (rows_of sc m)).good Biu) b.index ≡ true =
                has-set_of b.index (λ o. is_good sc Biu o m.frame (m.window / 3)) small_b
                ∙ ap (is_good sc Biu b.index m.frame) slot_is ∙ good_b in
                let like : are_alike (judged_of sc (place_at sc m) (rows_of sc m)).eps ((judged_of sc (place_at sc m) (rows_of sc m)).sight Biu b.index j)
                (see_learned sc ear (suc f) records slot (judged_of sc (place_at sc m) (rows_of sc m)) j) ≡ true =
                rmus_alike (seen_learned sc ear (suc f) records) (judged_of sc (place_at sc m) (rows_of sc m)) m.book.stages j seen-here none b.index small_b judged_good in
                let shown : (judged_of sc (place_at sc m) (rows_of sc m)).sight Biu b.index j ≡ see_value (taken s2.setting Biu b.index from.st j) =
                shows_taken (windows s2.setting) (place_at sc m) Biu b.index j below from.was.there good_b ((ticks s2.setting).tick Biu from.st) small in
                sym (alike_values (judged_of sc (place_at sc m) (rows_of sc m)).eps (taken s2.setting Biu b.index from.st j) (value_in (record_of records slot j))
                (ap (λ x. are_alike (judged_of sc (place_at sc m) (rows_of sc m)).eps x (see_value (value_in (record_of records slot j)))) (sym shown)
                ∙ ap (are_alike (judged_of sc (place_at sc m) (rows_of sc m)).eps ((judged_of sc (place_at sc m) (rows_of sc m)).sight Biu b.index j)) (sym (sight-is j)) ∙ like))

    by : (side : Side) → a.side ≡ side → vote_on records (trusted_rmus sc.sizes records) slot
        ≡ vote_of s2.setting Biu b.index from.st
    by Biu side = by-bius side
    by Rmu side = by-rmus side
