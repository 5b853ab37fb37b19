-- What a listener has learned when it decides by a frame that comes to its end before the first
-- breach of the premise with it.
use Rattle.std.proofs.{Common.{◌≡◌, ℕ, zero, suc, ◌+◌, ◌-◌, ◌*◌, ◌%◌, ◌≤◌, ◌==◌, ◌&&◌, Bool, true, Some, None, if◌then◌else◌, List, refl, sym, ◌∙◌, ap, subst, arith}, lemmas.Bool.{and_from, eq-eqb}}
use Rattle.rb_base.specs.{Nodes.{Side, has}, Nodes.Side.{Biu, Rmu}, Sizes.sync_slot_of}
use Rattle.rb_base.proofs.Plain.{eq_self}
use Rattle.rb_rules.specs.{declared.sense.Sense.Sense, Clock.IsStamp, Conviction.convicted_by, Goodness.{Scenario, is_good}, Judging.JudgedStage, Lawful.IsLawful, Moments.{IsComplete, IsGoodBefore}, NodeState.{NodeState, trusted_of}, Ports.HandIn, Rounds.{moment, windows_in}, Sense.stamp_in, Slots.{first_diagnosis_of, role_of}, Standing.without}
use Rattle.rb_rules.proofs.{Slots.sync_role, Spellings.read_back}
use Rattle.rb_laws_agreement.proofs.{Agreement.agreement, FrameTurns.convicted_all, Places.running_earlier, Vectors.{convicted_same, vector_slot}}
use Rattle.rb_listen.specs.{Lessons.{convicted_bius, convicted_rmus, first_by, first_of, record_of, stage_recorded, trusted_bius, trusted_rmus, vote_on}, Passes.is_call, declared.lesson.First.First, declared.search.Search.Search}
use Rattle.rb_laws_listener_near.specs.Judged.{verdict_with}
use Rattle.rb_laws_listener_learns.specs.{Calling.IsHeardToCall, Deciding.DecidesBy, Ears.{Ear, HearsTheRun, IsEar, IsHeard, SendsIn, coming_to}, Learned.{HasCall, HasLearned}, Receivers.{IsCalm, is_call_of, seen_closed, seen_by, seen_in, seen_learned}, Records.IsRecorded}
use Rattle.rb_laws_listener_learns.proofs.{Ahead.{FindsFirst, call-place, finds-first}, Calling.heard-to-call, CallTimes.{finds-call, found-call, stamped-call}, FrameStages.{IsAtWindow, at-window, first_of_frame}, LearnedVotes.{Learner, rmu-vote}, Noting.IsNotedBy, RelayedVotes.biu-vote, Sendings.{IsInPlace, in-place}, TrustedSets.{GoodThere, IsIn, KnowsAt, good-there, in-run, knows-at, trusted-in-sync}, Turning.{EndOf, end-of}, Whole.{HasLesson, come-by, has-lesson}}

-- The premise, by what is recorded.

pub learned-verdict : (sc : Scenario) (ear : Ear) {learned frame : ℕ} (records : List Sense) (stages : List JudgedStage) → frame ≡ learned → verdict_with (seen_in sc ear learned records frame) stages ≡ None
    → verdict_with (seen_learned sc ear learned records) stages ≡ None
learned-verdict sc ear {learned} records stages is h =
    subst (λ (b : Bool). verdict_with (λ window s. if b then seen_learned sc ear learned records window s else seen_closed sc ear learned (seen_by sc ear learned window ear.ticks)) stages ≡ None)
    (eq_self learned) (subst (λ x. verdict_with (seen_in sc ear learned records x) stages ≡ None) is h)

-- The whole.

frame-number : {frame : ℕ} (learned most : ℕ) {number : ℕ} → learned ≤ most → most ≤ 4096 → number ≡ learned % 65536 → frame ≡ (number + 1) % 65536 → frame ≡ learned + 1
frame-number learned most le small is e = omega (arith, le, small, is, e)

learns-after : {sc hands : _} → IsLawful sc → {ear : _} → IsEar sc ear → HearsTheRun sc hands ear → (f : ℕ) {tick s : _} → DecidesBy sc hands ear (suc f) tick s
    → IsCalm sc hands ear (suc f) s.lesson.records (suc f) (sync_slot_of sc.sizes)
    → (first : First) × ((first_of sc.sizes sc.plan s.lesson ≡ Some first) × HasLearned sc hands ear (suc f) tick s.lesson.records first)
learns-after {sc} {hands} law {ear} is run f {tick} {s} decides calm = (
  first_by sc.sizes sc.plan s.lesson bius rmus found.middle,
  (
    found.first_is,
    record {
      frame = frame-number (suc f) sc.frames (in-run hands law (suc f) decides.called) law.frames.1 decides.lesson refl;
      ahead = found.ahead;
      trusted = trusted-in-sync law k;
      trusted_next = record { biu = λ me i st h. next-bius me i st h; rmu = λ me i st h. next-rmus me i st h };
      calls = calls;
      stamped = λ j stamp within recorded.
          stamped-call hands is (suc f) l.0 l.1.from.since j decides.in_time (record_of s.lesson.records (sync_slot_of sc.sizes) j)
          (subst (λ x. IsNotedBy sc ear l.1.from.since tick l.0 x (sync_slot_of sc.sizes) j (record_of s.lesson.records (sync_slot_of sc.sizes) j)) decides.lesson
          (l.1.from.noted j within (sync_slot_of sc.sizes) (omega arith))) recorded;
      middle = found.middle;
      middle_is = found.middle_is;
      epoch_is = refl;
    },
  ),
)
  where
    bius : ℕ
    bius = trusted_bius sc.sizes s.lesson.records

    rmus : ℕ
    rmus = trusted_rmus sc.sizes s.lesson.records

    l : (o : ℕ) × HasLesson sc hands ear (suc f) tick o s
    l = has-lesson law is run decides

    k : KnowsAt sc hands ear (suc f) s.lesson.records
    k = knows-at law is run decides

    found : FindsFirst sc s tick
    found = finds-first law is run decides

    before : IsComplete sc hands f (sync_slot_of sc.sizes)
    before =
        running_earlier sc hands (f * (windows_in sc.sizes + 1) + 3 * sync_slot_of sc.sizes + 4 - 1) (suc f * (windows_in sc.sizes + 1) + 3 * sync_slot_of sc.sizes + 2 - 1) (omega arith) decides.called

    end : EndOf sc hands (suc f)
    end = end-of law calm.complete

    last : IsAtWindow sc hands (suc f) (3 * sync_slot_of sc.sizes + 3)
    last =
        at-window law before (3 * sync_slot_of sc.sizes + 3) (omega arith)
        (running_earlier sc hands (3 * sync_slot_of sc.sizes + 3 + first_of_frame sc (suc f)) end.n (omega (arith, end.place)) end.running)

    c : Learner sc hands ear f s.lesson.records
    c = record {
      law = law;
      most_good = run.most_good;
      before = before;
      whole = k.whole;
      g = k.some_good.j;
      good = k.some_good.good;
      rmus = λ n here me i st node. k.trust n here me i st node Rmu;
      end = end;
      verdict =
          learned-verdict sc ear s.lesson.records
          (moment sc hands (3 * sync_slot_of sc.sizes + 3 + first_of_frame sc (suc f))).book.stages last.frame_is
          (calm.holds (3 * sync_slot_of sc.sizes + 3 + first_of_frame sc (suc f)) (omega arith) (omega (arith, last.frame_is)) (omega (arith, last.window_is)));
    }

    g : GoodThere sc hands end.n k.some_good.j
    g = good-there hands law end.n k.some_good.j end.running k.some_good.good

    here : IsIn sc hands (suc f) end.n
    here = record { running = end.running; frame_is = end.frame_is }

    bius_are : trusted_bius sc.sizes s.lesson.records ≡ end.shared.trusted Biu
    bius_are = sym (k.trust end.n here Rmu k.some_good.j g.st g.node Biu) ∙ (end.end.agree.nodes Rmu k.some_good.j g.st g.node).trusted Biu

    rmus_are : trusted_rmus sc.sizes s.lesson.records ≡ end.shared.trusted Rmu
    rmus_are = sym (k.trust end.n here Rmu k.some_good.j g.st g.node Rmu) ∙ (end.end.agree.nodes Rmu k.some_good.j g.st g.node).trusted Rmu

    next_frame : suc f + 1 ≡ suc (suc f)
    next_frame = omega arith

    convicts-bius : convicted_bius sc.sizes s.lesson.records (trusted_bius sc.sizes s.lesson.records) (trusted_rmus sc.sizes s.lesson.records) ≡ convicted_all sc.sizes end.shared Biu
    convicts-bius =
        ap (λ t. convicted_bius sc.sizes s.lesson.records t (trusted_rmus sc.sizes s.lesson.records)) bius_are
        ∙ convicted_same sc.sizes.bius (trusted_rmus sc.sizes s.lesson.records) (end.shared.trusted Biu)
        (λ j. vote_on s.lesson.records (trusted_rmus sc.sizes s.lesson.records) (first_diagnosis_of Rmu sc.sizes + j)) (λ j. end.shared.values (vector_slot sc.sizes Rmu j))
        (λ j below t.
        let there : has (end.shared.trusted Rmu) j ≡ true = ap (λ x. has x j) (sym rmus_are) ∙ t in
        rmu-vote c j (end.end.agree.inside Rmu j there) there)
        ∙ ap (λ t. convicted_by sc.sizes.bius t (end.shared.trusted Biu) (λ j. end.shared.values (vector_slot sc.sizes Rmu j))) rmus_are

    convicts-rmus : convicted_rmus sc.sizes s.lesson.records (trusted_bius sc.sizes s.lesson.records) (trusted_rmus sc.sizes s.lesson.records) ≡ convicted_all sc.sizes end.shared Rmu
    convicts-rmus =
        convicted_same sc.sizes.rmus (trusted_bius sc.sizes s.lesson.records) (trusted_rmus sc.sizes s.lesson.records)
        (λ j. vote_on s.lesson.records (trusted_rmus sc.sizes s.lesson.records) (first_diagnosis_of Biu sc.sizes + j)) (λ j. end.shared.values (vector_slot sc.sizes Biu j))
        (λ j below t.
        let there : has (end.shared.trusted Biu) j ≡ true = ap (λ x. has x j) (sym bius_are) ∙ t in
        biu-vote c j (end.end.agree.inside Biu j there) there)
        ∙ ap (λ t. convicted_by sc.sizes.rmus t (trusted_rmus sc.sizes s.lesson.records) (λ j. end.shared.values (vector_slot sc.sizes Biu j))) bius_are
        ∙ ap (λ t. convicted_by sc.sizes.rmus (end.shared.trusted Biu) t (λ j. end.shared.values (vector_slot sc.sizes Biu j))) rmus_are

    next-bius : (me : Side) (i : ℕ) (st : NodeState) → IsGoodBefore sc hands (suc f + 1) 0 me i st
        → trusted_of Biu me st ≡ without (trusted_bius sc.sizes s.lesson.records) (convicted_bius sc.sizes s.lesson.records (trusted_bius sc.sizes s.lesson.records) (trusted_rmus sc.sizes s.lesson.records))
    next-bius me i st h =
        end.next_trusted me i st (subst (λ x. IsGoodBefore sc hands x 0 me i st) next_frame h) Biu
        ∙ ap (λ t. without t (convicted_all sc.sizes end.shared Biu)) (sym bius_are) ∙ ap (without (trusted_bius sc.sizes s.lesson.records)) (sym convicts-bius)

    next-rmus : (me : Side) (i : ℕ) (st : NodeState) → IsGoodBefore sc hands (suc f + 1) 0 me i st
        → trusted_of Rmu me st ≡ without (trusted_rmus sc.sizes s.lesson.records) (convicted_rmus sc.sizes s.lesson.records (trusted_bius sc.sizes s.lesson.records) (trusted_rmus sc.sizes s.lesson.records))
    next-rmus me i st h =
        end.next_trusted me i st (subst (λ x. IsGoodBefore sc hands x 0 me i st) next_frame h) Rmu
        ∙ ap (λ t. without t (convicted_all sc.sizes end.shared Rmu)) (sym rmus_are) ∙ ap (without (trusted_rmus sc.sizes s.lesson.records)) (sym convicts-rmus)

    calls : (j : ℕ) → is_good sc Rmu j (suc f) (sync_slot_of sc.sizes) ≡ true → HasCall sc hands ear (suc f) s.lesson.records j
    calls j good = record {
      sending = called.sending;
      sent = subst (λ x. SendsIn sc hands x j called.sending) index called.sent;
      stamp = r.stamp;
      stamped = at_learned;
      recorded = ap (λ t. stamp_in (record_of s.lesson.records t j)) (sym parts.0) ∙ ap stamp_in r.is;
      time =
          found-call law is run decides.in_time l.1 j good r.stamp heard.nth early
          (heard.there ∙ ap (λ x. Some (coming_to sc ear j x called.sending)) l.1.frame) is_found;
    }
      where
        n : ℕ
        n = l.1.fixed.call.call.call.n

        called : IsHeardToCall sc hands ear n j
        called =
            heard-to-call sc hands law ear run n j l.1.fixed.call.call.call.sent.running l.1.fixed.call.call.call.window_is
            (subst (λ x. is_good sc Rmu j x (sync_slot_of sc.sizes) ≡ true) (sym l.1.frame) good)

        index : n ≡ suc f * (windows_in sc.sizes + 1) + (3 * sync_slot_of sc.sizes + 1)
        index =
            (agreement hands law n l.1.fixed.call.call.call.sent.running).agree.place
            ∙ ap (λ x. x * (windows_in sc.sizes + 1) + (moment sc hands n).window) l.1.frame
            ∙ ap (λ w. suc f * (windows_in sc.sizes + 1) + w) l.1.fixed.call.call.call.window_is

        parts : (called.sending.message.slot ≡ sync_slot_of sc.sizes) × (called.sending.message.stage ≡ 2)
        parts = call-place sc.sizes called.sending.message called.call

        put : IsInPlace sc (moment sc hands n) called.sending.message
        put = in-place law called.sent

        r : IsRecorded sc hands ear s.lesson.records n j called.sending
        r =
            k.whole j good n called.sending called.sent l.1.frame
            (parts.1 ∙ sym (ap (λ t. stage_recorded (role_of sc.sizes t)) parts.0 ∙ ap stage_recorded (sync_role sc.sizes)))

        at_learned : IsStamp ear.clock (coming_to sc ear j (suc f) called.sending).time r.stamp
        at_learned = subst (λ x. IsStamp ear.clock (coming_to sc ear j x called.sending).time r.stamp) l.1.frame r.stamped

        early : r.stamp ≤ tick
        early = come-by law is l.1 called.sent r.stamped

        heard : IsHeard ear r.stamp (coming_to sc ear j (moment sc hands n).frame called.sending)
        heard = called.heard r.stamp r.some (omega (arith, early, decides.in_time)) r.stamped

        is_found : finds-call sc (suc f) j (coming_to sc ear j (suc f) called.sending) ≡ true
        is_found =
            ap (λ o. is_call_of sc (suc f) j o (coming_to sc ear j (suc f) called.sending)) (read_back sc.plan.version called.sending.message put.fits)
            ∙ and_from ((j == j) && is_call sc.sizes called.sending.message) (called.sending.message.frame == suc f % 65536)
            (and_from (j == j) (is_call sc.sizes called.sending.message) (eq_self j) called.call)
            (eq-eqb called.sending.message.frame (suc f % 65536) (put.frame ∙ ap (λ x. x % 65536) l.1.frame))

pub learns : (sc : Scenario) (hands : List HandIn) → IsLawful sc → (ear : Ear) → IsEar sc ear → HearsTheRun sc hands ear → (learned tick : ℕ) (s : Search) → DecidesBy sc hands ear learned tick s
    → IsCalm sc hands ear learned s.lesson.records learned (sync_slot_of sc.sizes)
    → (first : First) × ((first_of sc.sizes sc.plan s.lesson ≡ Some first) × HasLearned sc hands ear learned tick s.lesson.records first)
learns sc hands law ear is run zero tick s decides calm = let l = has-lesson law is run decides in absurd (omega (arith, l.1.before))
learns sc hands law ear is run (suc f) tick s decides calm = learns-after law is run f decides calm
