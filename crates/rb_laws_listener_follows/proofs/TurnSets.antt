-- With its turn a listener holds the trusted nodes that all good nodes hold then.
use Rattle.std.proofs.Common.{◌≡◌, ℕ, ◌+◌, true, sym, ◌∙◌, ap, arith}
use Rattle.rb_base.specs.{Nodes.has, Nodes.Side.{Biu, Rmu}, Sizes.sync_slot_of}
use Rattle.rb_base.proofs.Plain.{and_second}
use Rattle.rb_rules.specs.{Conviction.{convicted_at, turn}, Goodness.is_good, NodeState.NodeState, Standing.without}
use Rattle.rb_laws_agreement.proofs.{FrameAgrees.{next-trusted, shared_next}, FrameTurns.{AtEnd, convicted_held}, Goodnesses.slot_last, Invariant.{Holds, Shared, is_good_now}, Numbers.one_of_many, Premises.{Premise, is_sound}, SecondStages.GoodOne, Settings.good_state, Tests.Passing}
use Rattle.rb_laws_listener_near.specs.Holding.{HoldAlike}
use Rattle.rb_laws_listener_near.proofs.SyncTracks.{IsLike, bius_convicted, rmus_convicted}

-- the premise of the sync slot gives a good BIU
good_biu : {sc hands n m s : _} → AtEnd sc hands n m s → GoodOne sc m Biu
good_biu {sc} {m} {s} e =
    let p : Premise sc m.frame (sync_slot_of sc.sizes) s.trusted m.book.stages = e.agree.judged (omega (arith, e.at)) in
    let one : Passing (is_sound sc Biu m.frame (sync_slot_of sc.sizes) s.trusted) 0 16 = one_of_many (is_sound sc Biu m.frame (sync_slot_of sc.sizes) s.trusted) (omega (arith, p.most Biu)) in
    let good : is_good sc Biu one.at m.frame (sync_slot_of sc.sizes) ≡ true = and_second (has (s.trusted Biu) one.at) (is_good sc Biu one.at m.frame (sync_slot_of sc.sizes)) one.passes in
    let now : is_good_now sc m Biu one.at ≡ true = ap (is_good sc Biu one.at m.frame) (slot_last sc.sizes 4 (omega (arith, e.at))) ∙ good in
    let st = good_state e.agree Biu one.at now in
    record { index = one.at; st = st.value; here = record { there = st.is; good = now } }

-- the state has the frame and the trusted nodes that all good nodes hold
pub record HoldsSets (s : Shared) (frame : ℕ) (st : NodeState) : Type 0 where
  pub frame_is : st.frame ≡ frame
  pub near : st.near ≡ s.trusted Biu
  pub far : st.far.trusted ≡ s.trusted Rmu

pub turned_sets : {sc hands n m s : _} → AtEnd sc hands n m s → {st : _} → IsLike sc m st → (epoch : ℕ)
    → HoldsSets (shared_next sc.sizes s) (m.frame + 1) (turn sc.sizes sc.plan.probation Biu epoch st)
unfolding turn
turned_sets {sc} {m} {s} e {st} like epoch = record {
  frame_is = ap (λ f. f + 1) (alike.frame ∙ holds.frame);
  near = ap (λ t. without t (convicted_at sc.sizes Biu st Biu)) (alike.near ∙ holds.trusted Biu)
      ∙ ap (without (s.trusted Biu)) (bius_convicted sc.sizes alike ∙ convicted_held e g.here Biu)
      ∙ sym (next-trusted sc.sizes s Biu);
  far = ap (λ t. without t (convicted_at sc.sizes Biu st Rmu)) (alike.far ∙ holds.trusted Rmu)
      ∙ ap (without (s.trusted Rmu)) (rmus_convicted sc.sizes alike ∙ convicted_held e g.here Rmu)
      ∙ sym (next-trusted sc.sizes s Rmu);
}
  where
    g : GoodOne sc m Biu
    g = good_biu e

    alike : HoldAlike st g.st
    alike = like g.index g.st g.here

    holds : Holds sc m s Biu g.st
    holds = e.agree.nodes Biu g.index g.st g.here
