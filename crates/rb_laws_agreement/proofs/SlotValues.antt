-- Each complete slot below the sync slot has one value, and if its sender is good this is the
-- sender's own.
use Rattle.std.proofs.Common.{◌≡◌, ℕ, suc, true, [], ◌∷◌, ◌++◌, slice_get, refl, sym, ◌∙◌, ap, subst, arith}
use Rattle.rb_base.specs.{Nodes.Side, declared.values.Heard.Heard}
use Rattle.rb_rules.specs.{Book.of_kind, Book.Record.Slot, ExactStage.own_value, Goodness.is_good, Headline.HasRecord, Hearing.word_for, Moments.{before_slot, IsGoodBefore}, NodeState.NodeState, NodeSteps.owner_at, Rounds.Moment, Slots.role_of, Slots.Sender.Node}
use Rattle.rb_rules.proofs.RoundStates.{state-after}
use Rattle.rb_laws_agreement.specs.{Values.{lines_in, HasValue, IsGoodSender, value_of_sender}, Laws.{GoodNodesAgree, GoodSendersAreHeard}}
use Rattle.rb_laws_agreement.proofs.{Invariant.{sender_of, kind_in, IsGoodNode, is_good_now, IsOwn, HasVoted}, Exchanges.sender-held, Settings.{after, good_here}, SecondStages.{GoodOne, some_good, vote_of, vote-held, voters-vote}, ThirdStages.{voted, held_3}, NextMoments.next, SlotRuns.{IsSlot, slot_runs, good_in_stage, StateFrom, state_from, second_frame, third_frame, next-slot-good}, Deliveries.{owner_sending, owner-held, lines_2, lines_after_2, given_before, given_after}}

-- the value of a slot
abbrev pub value_of_slot : {sc hands frame slot : _} → IsSlot sc hands frame slot → Heard
value_of_slot {sc} {hands} {frame} {slot} r =
    (voted sc hands (suc (suc r.steps)) (next sc (next sc (before_slot sc hands frame slot))) r.shared slot r.third).value

-- each good voter of stage 2 votes for the value of the slot
pub votes_for : {sc hands frame slot : _} (r : IsSlot sc hands frame slot) {i st : _}
    → IsGoodNode sc (next sc (before_slot sc hands frame slot)) (kind_in sc.sizes slot) i st
    → vote_of r.second (kind_in sc.sizes slot) i st ≡ value_of_slot r
votes_for {sc} {hands} {frame} {slot} r {i} {st} here =
    let m2 : Moment = next sc (before_slot sc hands frame slot) in
    let k : Side = kind_in sc.sizes slot in
    let now : NodeState = after sc m2 k i st in
    let v : HasVoted sc hands (next sc m2) r.shared slot = voted sc hands (suc (suc r.steps)) (next sc m2) r.shared slot r.third in
    let voter : IsGoodNode sc (next sc m2) k i now = record {
      there = state-after sc m2 k i st here.there;
      good = next-slot-good r.second r.third k i here.good;
    } in
    sym (vote-held r.second here refl (voters-vote (role_of sc.sizes slot))) ∙ v.held i now voter

-- what is delivered in the slot
pub slot-lines : {sc hands frame slot : _} (r : IsSlot sc hands frame slot)
    → (next sc (next sc (before_slot sc hands frame slot))).book.lines
    ≡ lines_in sc frame slot (owner_sending (role_of sc.sizes slot) (sender_of sc.sizes r.shared slot)) (value_of_slot r)
slot-lines {sc} {hands} {frame} {slot} r =
    let m2 : Moment = next sc (before_slot sc hands frame slot) in
    let value : Heard = value_of_slot r in
    lines_after_2 r.second
    ∙ lines_2 r.second value (λ i st good. votes_for r good)
    ∙ ap (λ f. lines_in sc f slot (owner_sending (role_of sc.sizes slot) (sender_of sc.sizes r.shared slot)) value) (second_frame r)

has-record : {sc hands frame slot : _} (r : IsSlot sc hands frame slot) {me i st : _} → IsGoodBefore sc hands frame slot me i st
    → HasRecord sc hands frame slot (lines_in sc frame slot (owner_at sc.sizes st slot) (value_of_slot r))
has-record {sc} {hands} {frame} {slot} r {me} {i} {st} h =
    let m1 : Moment = before_slot sc hands frame slot in
    let m2 : Moment = next sc m1 in
    let m3 : Moment = next sc m2 in
    let value : Heard = value_of_slot r in
    let here : IsGoodNode sc m1 me i st = record { there = h.state; good = good_in_stage r.first r.frame_is me i h.good } in
    let owner : owner_at sc.sizes st slot ≡ owner_sending (role_of sc.sizes slot) (sender_of sc.sizes r.shared slot) =
    owner-held slot (r.first.agree.nodes me i st here) in
    let lines : m3.book.lines ≡ lines_in sc frame slot (owner_at sc.sizes st slot) value =
    slot-lines r ∙ ap (λ o. lines_in sc frame slot o value) (sym owner) in
    let before : m3.book.given ≡ m1.book.given =
    given_before r.second (omega arith) ∙ given_before r.first (omega arith) in
    ap (λ m. m.book.given) (sym r.after_third)
    ∙ given_after r.third
    ∙ ap (λ g. g ++ Slot m3.frame slot m3.book.lines ∷ []) before
    ∙ ap (λ f. m1.book.given ++ Slot f slot m3.book.lines ∷ []) (third_frame r)
    ∙ ap (λ l. m1.book.given ++ Slot frame slot l ∷ []) lines

pub has_value : {sc hands frame slot : _} (r : IsSlot sc hands frame slot) → HasValue sc hands frame slot (value_of_slot r)
has_value {sc} {hands} {frame} {slot} r =
    let m3 : Moment = next sc (next sc (before_slot sc hands frame slot)) in
    let steps : ℕ = suc (suc r.steps) in
    let v : HasVoted sc hands m3 r.shared slot = voted sc hands steps m3 r.shared slot r.third in
    let good : (me : Side) (i : ℕ) → is_good sc me i frame slot ≡ true → is_good_now sc m3 me i ≡ true =
    λ me i g. good_in_stage r.third (third_frame r) me i g in
    let one : GoodOne sc m3 (kind_in sc.sizes slot) = some_good r.third (kind_in sc.sizes slot) in
    record {
      some_voter = (
        one.index,
        (
          one.st,
          record {
            good = ap (λ f. is_good sc (kind_in sc.sizes slot) one.index f slot) (sym (third_frame r))
                ∙ sym (good_here r.third (kind_in sc.sizes slot) one.index) ∙ one.here.good;
            state = ap (λ m. slice_get (of_kind (kind_in sc.sizes slot) m.nodes) one.index) (sym r.after_second) ∙ one.here.there;
          },
        ),
      );
      voters = λ i st h.
          v.held i st (record {
            there = ap (λ m. slice_get (of_kind (kind_in sc.sizes slot) m.nodes) i) r.after_second ∙ h.state;
            good = good (kind_in sc.sizes slot) i h.good;
          });
      all = λ me i st h votes.
          let from : StateFrom sc m3 me i st =
          state_from r.third.agree me i (good me i h.good) (ap (λ m. slice_get (of_kind me m.nodes) i) r.after_third ∙ h.state) in
          held_3 r.third from.was from.is votes;
      record_is = λ me i st h. has-record r h;
    }

pub slots_have_values : GoodNodesAgree
slots_have_values sc hands law frame slot below complete =
    let r : IsSlot sc hands frame slot = slot_runs law below complete in
    (value_of_slot r, has_value r)

-- The value of a good sender.

pub own-value : {sc hands frame slot : _} (r : IsSlot sc hands frame slot) {p st : _} → IsGoodSender sc hands frame slot p st
    → value_of_slot r ≡ value_of_sender sc hands frame slot p st
own-value {sc} {hands} {frame} {slot} r {p} {st} h =
    let m1 : Moment = before_slot sc hands frame slot in
    let m3 : Moment = next sc (next sc m1) in
    let k : Side = kind_in sc.sizes slot in
    let steps : ℕ = suc (suc r.steps) in
    let v : HasVoted sc hands m3 r.shared slot = voted sc hands steps m3 r.shared slot r.third in
    let here : IsGoodNode sc m1 k p st = record { there = h.before.state; good = good_in_stage r.first r.frame_is k p h.before.good } in
    let sender : sender_of sc.sizes r.shared slot ≡ Node p = sym (sender-held slot (r.first.agree.nodes k p st here)) ∙ h.sends in
    let frame_is : m3.frame ≡ frame = third_frame r in
    let own : IsOwn sc hands m3 slot p v.value =
    v.is_value.own p sender (good_in_stage r.third frame_is k p h.before.good) in
    own.said st (ap (λ f. slice_get (of_kind k (before_slot sc hands f slot).nodes) p) frame_is ∙ h.before.state)
    ∙ ap (λ f. own_value st (role_of sc.sizes slot) (word_for sc (before_slot sc hands f slot).ports p slot (role_of sc.sizes slot))) frame_is

pub senders_are_heard : GoodSendersAreHeard
senders_are_heard sc hands law frame slot below complete p st h =
    let r : IsSlot sc hands frame slot = slot_runs law below complete in
    subst (HasValue sc hands frame slot) (own-value r h) (has_value r)
