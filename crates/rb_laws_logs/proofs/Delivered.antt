-- For the law of record and replay: what a close delivers: something in stage 2 of a slot below the
-- sync slot alone, at a BIU.
use Rattle.std.proofs.Common.{◌≡◌, ℕ, ◌+◌, ◌==◌, ◌&&◌, nat_le, Bool, true, false, refl, Option, Some, None, option_map, if◌then◌else◌}
use Rattle.rb_base.specs.{Nodes.Side, Nodes.Side.{Biu, Rmu}, Sizes.{Sizes, sync_slot_of}, declared.values.Delivery.Delivery, declared.values.Heard.Heard}
use Rattle.rb_rules.specs.{declared.plan.Window.Window, declared.record.SlotLine.SlotLine, declared.role.Role.Role, declared.role.Role.TheVariants.{Schedule, Data, DiagBiu, DiagRmu, Sync}, declared.sense.Sense.Sense, Book.{Each, line_in}, ExactStage.{Outcome, close_exact, delivery_of, keep_sent, outcome_of}, Goodness.{Scenario, is_good}, Hearing.{Sending, row_of}, NodeState.NodeState, NodeSteps.close, Rounds.{Moment, Result, close_on, go_through, heard_at, word_for_window}, Slots.Sender, Slots.Sender.{Nobody, Node, EachTrusted}, SyncStage.{close_sync, sync_outcome_of}}

delivery-by : (P : Option Delivery → Type 0) (me : Side) (st : NodeState) (slot : ℕ) (role : Role) (sender : Sender) (stage : ℕ) (voted : Heard) → P None
    → ((i : ℕ) → me ≡ Biu → (stage == 2) ≡ true → P (Some (record { frame = st.frame; slot = slot; sender = i; value = voted })))
    → P (delivery_of me st slot role sender stage voted)
delivery-by P Biu st slot (Data n) (Node i) stage voted none some = by (stage == 2) refl
  where
    by : (b : Bool) → (stage == 2) ≡ b → P (if b then Some (record { frame = st.frame; slot = slot; sender = i; value = voted }) else None)
    by true e = some i refl e
    by false e = none
delivery-by P Biu st slot (Data n) Nobody stage voted none some = none
delivery-by P Biu st slot (Data n) EachTrusted stage voted none some = none
delivery-by P Biu st slot (Schedule n) sender stage voted none some = none
delivery-by P Biu st slot (DiagBiu n) sender stage voted none some = none
delivery-by P Biu st slot (DiagRmu n) sender stage voted none some = none
delivery-by P Biu st slot Sync sender stage voted none some = none
delivery-by P Rmu st slot role sender stage voted none some = none

-- what is delivered with a close
pub record Delivers (sizes : Sizes) (me : Side) (st : NodeState) (slot stage : ℕ) (d : Delivery) : Type 0 where
  pub biu : me ≡ Biu
  pub second : (stage == 2) ≡ true
  pub exact : (slot == sync_slot_of sizes) ≡ false
  pub frame : d.frame ≡ st.frame
  pub in_slot : d.slot ≡ slot

pub close-by : (P : Option Delivery → Type 0) (sizes : Sizes) (me : Side) (i : ℕ) (st : NodeState) (slot stage first : ℕ) (sense : ℕ → Sense) → P None
    → ((d : Delivery) → Delivers sizes me st slot stage d → P (Some d)) → P (close sizes me i st slot stage first sense).closed.delivered
unfolding close_exact outcome_of close_sync sync_outcome_of
close-by P sizes me i st slot stage first sense none some = by (slot == sync_slot_of sizes) refl
  where
    by : (b : Bool) → (slot == sync_slot_of sizes) ≡ b
        → P (elim b as (λ _. Outcome) [ true ↦ close_sync sizes me st stage (st.epoch + first) sense | false ↦ close_exact sizes me i st slot stage sense ]).closed.delivered
    by true e = none
    by false e = delivery-by P me st slot _ _ stage _ none (λ j biu second. some _ (record { biu = biu; second = second; exact = e; frame = refl; in_slot = refl }))

-- the line that node i tells of a delivery
abbrev pub line_of_node : ℕ → Delivery → SlotLine
line_of_node i d = record { receiver = i; sender = d.sender; value = d.value }

-- what a node tells of a window
pub line-by : (Q : Option SlotLine → Type 0) (sc : Scenario) (m : Moment) (sent : Each (Option Sending)) (me : Side) (i : ℕ) (st : NodeState) (w : Window) → Q None
    → ((d : Delivery) → me ≡ Biu → (w.stage == 2) ≡ true → (w.slot == sync_slot_of sc.sizes) ≡ false → Q (Some (line_of_node i d)))
    → Q (line_in (go_through sc m sent me i st w).row)
unfolding go_through close_on row_of
line-by Q sc m sent me i st w none some = by (is_good sc me i m.frame w.slot && nat_le w.first w.last)
  where
    kept : NodeState
    kept = keep_sent sc.sizes me i st w.slot w.stage (word_for_window sc m i w)

    by : (b : Bool) → Q (line_in (elim b as (λ _. Result) [
      | true ↦ close_on sc me i kept w (heard_at sc me i st w sent)
      | false ↦ record { state = st; row = None }
    ]).row)
    by false = none
    by true =
        close-by (λ o. Q (option_map (line_of_node i) o)) sc.sizes me i kept w.slot w.stage w.first _ none
        (λ d delivers. some d delivers.biu delivers.second delivers.exact)
