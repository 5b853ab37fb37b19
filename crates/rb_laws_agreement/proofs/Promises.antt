-- What follows for those who use the bus: one value for all, the owner's word, one schedule, the
-- same convicted nodes.
use Rattle.std.proofs.Common.{◌≡◌, ℕ, ◌&&◌, nat_lt, not, true, List, Option, Some, None, slice_get, refl, sym, ◌∙◌, ap, subst}
use Rattle.rb_base.specs.{Nodes.{has, set_of}, Nodes.Side.Biu, declared.values.Heard.Heard, declared.values.Heard.TheVariants.Word}
use Rattle.rb_rules.specs.{declared.role.Role.Role, declared.role.Role.TheVariants.{Schedule, Data, DiagBiu, DiagRmu, Sync}, Book.of_kind, ExactStage.own_value, Goodness.Scenario, Headline.{lines_of, HasRecord, DeliversOneValue, DeliverAlike, DeliverTheWord, ConvictAlike}, Hearing.word_for, Lawful.IsLawful, Moments.{before_slot, IsGoodBefore, offered_in}, NodeState.sender_at, NodeSteps.owner_at, Ports.HandIn, Rounds.Moment, Slots.{Sender, sender_kind, role_of, count_of}, Slots.Sender.{Nobody, Node, EachTrusted}}
use Rattle.rb_laws_agreement.specs.{Values.{lines_in, IsGoodSender}, Laws.{DeliveriesAreRight, GoodNodesHoldOneSchedule}}
use Rattle.rb_laws_agreement.proofs.{Tests.Present, Invariant.{sender_of, IsGoodNode, is_good_now}, Deliveries.{owner_sending, owner-held}, Exchanges.{sender-held, trusted-either}, Settings.good_state, SlotLaws.{one-schedule, trust-alike}, SlotRuns.{IsSlot, slot_runs, good_in_stage}, SlotValues.{value_of_slot, has_value, own-value}}

one-value : (sc : Scenario) (hands : List HandIn) (frame slot : ℕ) (owner : Option ℕ) (value : Heard) → HasRecord sc hands frame slot (lines_in sc frame slot owner value)
    → DeliversOneValue sc hands frame slot owner
one-value sc hands frame slot None value h = h
one-value sc hands frame slot (Some owner) value h = (value, h)

pub deliver-alike : {sc : _} (hands : List HandIn) → IsLawful sc → DeliverAlike sc hands
deliver-alike {sc} hands law frame slot below complete me i st h =
    let r : IsSlot sc hands frame slot = slot_runs law below complete in
    one-value sc hands frame slot (owner_at sc.sizes st slot) (value_of_slot r) ((has_value r).record_is me i st h)

-- a slot with an owner is a data slot, and the owner sends in it
owner-sends : (role : Role) (sender : Sender) {owner : ℕ} → owner_sending role sender ≡ Some owner → (n : ℕ) × ((role ≡ Data n) × (sender ≡ Node owner))
owner-sends (Schedule i) sender h = cc
owner-sends (Data n) Nobody h = cc
owner-sends (Data n) (Node p) {owner} h = let same : p ≡ owner = cc in (n, (refl, ap (λ p. Node p) same))
owner-sends (Data n) EachTrusted h = cc
owner-sends (DiagBiu i) sender h = cc
owner-sends (DiagRmu i) sender h = cc
owner-sends Sync sender h = cc

pub deliver-word : {sc : _} (hands : List HandIn) → IsLawful sc → DeliverTheWord sc hands
deliver-word {sc} hands law frame slot below complete me i st h owner owns good =
    let r : IsSlot sc hands frame slot = slot_runs law below complete in
    let m : Moment = before_slot sc hands frame slot in
    let role : Role = role_of sc.sizes slot in
    let here : IsGoodNode sc m me i st = record { there = h.state; good = good_in_stage r.first r.frame_is me i h.good } in
    let sends = owner-sends role (sender_of sc.sizes r.shared slot) (sym (owner-held slot (r.first.agree.nodes me i st here)) ∙ owns) in
    let biu : sender_kind role ≡ Biu = ap sender_kind sends.1.0 in
    let now : is_good_now sc m Biu owner ≡ true = good_in_stage r.first r.frame_is Biu owner good in
    let mine : Present (slice_get (of_kind Biu m.nodes) owner) = good_state r.first.agree Biu owner now in
    let own : IsGoodNode sc m Biu owner mine.value = record { there = mine.is; good = now } in
    let sender : sender_at sc.sizes Biu mine.value slot ≡ Node owner =
    sender-held slot (r.first.agree.nodes Biu owner mine.value own) ∙ sends.1.1 in
    let is : IsGoodSender sc hands frame slot owner mine.value = record {
      before = subst (λ k. IsGoodBefore sc hands frame slot k owner mine.value) (sym biu) (record { good = good; state = mine.is });
      sends = ap (λ k. sender_at sc.sizes k mine.value slot) biu ∙ sender;
    } in
    let value : value_of_slot r ≡ Word (offered_in sc hands frame slot owner) =
    own-value r is
    ∙ ap (λ x. own_value mine.value x (word_for sc m.ports owner slot x)) sends.1.0 in
    subst (HasRecord sc hands frame slot) (ap (λ o. lines_in sc frame slot o (value_of_slot r)) owns ∙ ap (lines_of sc frame slot owner) value)
    ((has_value r).record_is me i st h)

pub deliveries_are_right : DeliveriesAreRight
deliveries_are_right sc hands law = (deliver-alike hands law, deliver-word hands law)

-- all good nodes hold the same nodes convicted
pub convict-alike : {sc : _} (hands : List HandIn) → IsLawful sc → ConvictAlike sc hands
convict-alike {sc} hands law frame slot le settled me you i j mine yours h k kind =
    let convicted : ℕ → ℕ = λ trusted. set_of (λ j. nat_lt j (count_of kind sc.sizes) && not (has trusted j)) in
    ap convicted (trusted-either me kind mine) ∙ ap convicted (trust-alike hands law frame slot le settled me you i j mine yours h k kind)
    ∙ ap convicted (trusted-either kind you yours)

pub hold_the_same : GoodNodesHoldOneSchedule
hold_the_same sc hands law = record {
  schedules = one-schedule hands law;
  trusted = trust-alike hands law;
  convicted = convict-alike hands law;
}
