-- For the law that events are rounds if the premise on faults is broken in a sync slot: nodes of
-- the kind that is heard in a stage of the sync slot do not listen in it, so whatever came to them
-- they say nothing in the next one, and in the tail.
use Rattle.std.proofs.Common.{◌≡◌, ℕ, zero, suc, ◌+◌, ◌*◌, ◌<◌, false, refl, ap, sym, ◌∙◌, subst, arith, Option, Some, None}
use Rattle.rb_base.specs.{Nodes.{Side, other}, Nodes.Side.{Biu, Rmu}, Sizes.{Sizes, sync_slot_of}}
use Rattle.rb_base.proofs.Plain.{true-false}
use Rattle.rb_rules.specs.{declared.plan.Plan.Plan, declared.plan.Window.Window, declared.role.Role.TheVariants.Sync, declared.sense.Sense.Sense, Core.{if_at, said_at}, Hearing.{Sending, sending}, NodeState.NodeState, Slots.listens, Standing.{has_evidence, with_evidence}, SyncStage.{close_sync, expects_call}}
use Rattle.rb_rules.proofs.WindowNumbers.{sync-numbered}
use Rattle.rb_laws_synchrony.proofs.TakenCalls.{call_sent}
use Rattle.rb_laws_events.proofs.{DeafCloses.deaf-state, NodeActs.HasRoom, NodeSends.{KeepsTime, said-is, sending_at}, TickWindows.IsTickIn}

-- a node that does not listen in a stage keeps time over its close
pub deaf-keeps : {sizes plan me st : _} (stage first : ℕ) (sense : ℕ → Sense) → listens me Sync stage ≡ false → KeepsTime sizes plan me st
    → KeepsTime sizes plan me (close_sync sizes me st stage first sense).state
deaf-keeps {sizes} {plan} {me} {st} stage first sense deaf keeps =
    subst (KeepsTime sizes plan me) (sym (deaf-state sizes me st stage first sense deaf)) (by me keeps)
  where
    now : Side → NodeState
    now me = record st { far = with_evidence (has_evidence st.far (expects_call me st stage) sense) st.far }

    by : (side : Side) → KeepsTime sizes plan side st → KeepsTime sizes plan side (now me)
    by Biu h = record {
      second = λ x e. record { from = (h.second x e).from; to = (h.second x e).to };
      third = λ x e. record { from = (h.third x e).from; to = (h.third x e).to };
      next = λ x e. h.next x e;
    }
    by Rmu h = record {
      second = λ x e. record { from = (h.second x e).from; to = (h.second x e).to };
      third = λ x e. record { from = (h.third x e).from; to = (h.third x e).to };
      next = λ x e. h.next x e;
    }

-- a node says nothing in a stage in which the other kind does not listen
none-called : (sizes : Sizes) (plan : Plan) (me : Side) (i : ℕ) (c : NodeState) (stage word : ℕ) → listens (other me) Sync stage ≡ false
    → sending sizes plan me i c (sync_slot_of sizes) stage word ≡ None
none-called sizes plan me i c stage word unheard = by (sending sizes plan me i c (sync_slot_of sizes) stage word) refl
  where
    by : (o : Option Sending) → sending sizes plan me i c (sync_slot_of sizes) stage word ≡ o → o ≡ None
    by None e = refl
    by (Some s) e = absurd (true-false (sym (call_sent sizes plan me i c stage word e).1 ∙ unheard))

pub silent-there : {sizes plan me : _} (i : ℕ) {c : _} (q word : ℕ) {k : ℕ} → HasRoom plan → q < 4 → KeepsTime sizes plan me c
    → IsTickIn sizes plan me c (3 * sync_slot_of sizes + q) k → listens (other me) Sync (q + 1) ≡ false → said_at sizes plan me i c word k ≡ None
silent-there {sizes} {plan} {me} i {c} q word {k} room small keeps at unheard =
    said-is i word room.ticks room.inside keeps (omega arith) at ∙ ap (if_at k) (none q small unheard)
  where
    none : (q : ℕ) → q < 4 → listens (other me) Sync (q + 1) ≡ false → sending_at sizes plan me i c (3 * sync_slot_of sizes + q) word ≡ None
    none zero small unheard =
        ap (λ (w : Window). sending sizes plan me i c w.slot w.stage word) (sync-numbered sizes plan me c 0) ∙ none-called sizes plan me i c 1 word unheard
    none (suc zero) small unheard =
        ap (λ (w : Window). sending sizes plan me i c w.slot w.stage word) (sync-numbered sizes plan me c 1) ∙ none-called sizes plan me i c 2 word unheard
    none (suc (suc zero)) small unheard =
        ap (λ (w : Window). sending sizes plan me i c w.slot w.stage word) (sync-numbered sizes plan me c 2) ∙ none-called sizes plan me i c 3 word unheard
    none (suc (suc (suc zero))) small unheard =
        ap (λ (w : Window). sending sizes plan me i c w.slot w.stage word) (sync-numbered sizes plan me c 3) ∙ none-called sizes plan me i c 4 word unheard
    none (suc (suc (suc (suc q)))) small unheard = absurd (omega arith)
