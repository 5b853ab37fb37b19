-- What a window of the sync slot, or the tail, leaves of the middles that a node keeps.
use Rattle.std.proofs.{Common.{◌≡◌, ℕ, ◌+◌, ◌≤◌, ◌&&◌, nat_le, true, false, Bool, Option, Some, None, unwrap_or, refl, sym, ◌∙◌, ap, subst, inl, inr}, lemmas.Bool.leb-true}
use Rattle.rb_base.specs.{Nodes.Side, Nodes.Side.{Biu, Rmu}, Sizes.{Sizes, sync_slot_of}, declared.values.Heard.Heard}
use Rattle.rb_rules.specs.{declared.sense.Sense.Sense, ExactStage.{each_node, present}, Goodness.is_good, Middle.middle_of, NodeState.NodeState, Rounds.{Result, close_on, go_through, sent_in}, Sense.stamp_in, Standing.taken_of, SyncStage.{close_sync, expects_call, middle_after, sync_closing_of, sync_outcome_of}}
use Rattle.rb_laws_agreement.proofs.{ExactWindows.{keeping-is, sent_by, with_sent}, NodeWindows.{Windows, goes, heard_in, kept_in, own_window, sense_in, state-closed, word_at}, Settings.after, SyncWindows.close-sync, Tests.true_or_false}

-- the middles after a close of a stage that found this one
pub record Keeps (me : Side) (stage : ℕ) (middle : ℕ) (st now : NodeState) : Type 0 where
  pub k1 : now.k1 ≡ middle_after me 1 st.k1 stage middle
  pub k2 : now.k2 ≡ middle_after me 2 st.k2 stage middle
  pub k3 : now.k3 ≡ middle_after me 3 st.k3 stage middle

close-keeps : (sizes : Sizes) (me : Side) (st : NodeState) (sent : Option Heard) (stage first : ℕ) (sense : ℕ → Sense)
    → Keeps me stage (sync_closing_of st.far (expects_call me st stage) sense first).middle st (close_sync sizes me (with_sent st sent) stage first sense).state
unfolding close_sync sync_outcome_of
close-keeps sizes me st sent stage first sense = record { k1 = refl; k2 = refl; k3 = refl }

-- what the window of a node that is good there leaves, if it has a tick
pub keeps : {sc m stage : _} (ws : Windows sc m (sync_slot_of sc.sizes) stage) (me : Side) (i : ℕ) (st : NodeState)
    → is_good sc me i m.frame (sync_slot_of sc.sizes) ≡ true → ws.first me st ≤ ws.last me st
    → Keeps me stage (sync_closing_of st.far (expects_call me st stage) (sense_in ws me i st)
    ((kept_in sc m (sync_slot_of sc.sizes) stage me i st).epoch + ws.first me st)).middle st (after sc m me i st)
keeps {sc} {m} {stage} ws me i st good tick =
    let slot : ℕ = sync_slot_of sc.sizes in
    let sense : ℕ → Sense = sense_in ws me i st in
    let kept : NodeState = kept_in sc m slot stage me i st in
    let first : ℕ = kept.epoch + ws.first me st in
    let sent : Option Heard = sent_by sc.sizes me i st slot stage (word_at sc m slot i) in
    let is : after sc m me i st ≡ (close_sync sc.sizes me (with_sent st sent) stage first sense).state =
    ap (λ r. r.state) (goes ws me i st good tick) ∙ state-closed ws me i st
    ∙ ap (λ x. x.state) (close-sync sc.sizes me i kept stage (ws.first me st) sense)
    ∙ ap (λ k. (close_sync sc.sizes me k stage first sense).state) (keeping-is sc.sizes me i st slot stage (word_at sc m slot i)) in
    subst (Keeps me stage (sync_closing_of st.far (expects_call me st stage) sense first).middle st) (sym is) (close-keeps sc.sizes me st sent stage first sense)

-- a middle that is found is kept
pub keeps_found : {sc m stage : _} (ws : Windows sc m (sync_slot_of sc.sizes) stage) (me : Side) (i : ℕ) (st : NodeState) {tick : ℕ}
    → is_good sc me i m.frame (sync_slot_of sc.sizes) ≡ true → ws.first me st ≤ ws.last me st
    → middle_of (present (each_node (taken_of stamp_in st.far (expects_call me st stage) (sense_in ws me i st)))) ≡ Some tick
    → Keeps me stage tick st (after sc m me i st)
keeps_found {sc} {m} {stage} ws me i st good some found =
    subst (λ k. Keeps me stage k st (after sc m me i st))
    (ap (λ o. unwrap_or o ((kept_in sc m (sync_slot_of sc.sizes) stage me i st).epoch + ws.first me st)) found)
    (keeps ws me i st good some)

-- a window that leaves all middles
pub record Leaves (st now : NodeState) : Type 0 where
  pub k1 : now.k1 ≡ st.k1
  pub k2 : now.k2 ≡ st.k2
  pub k3 : now.k3 ≡ st.k3

tail-leaves : (me : Side) {middle st now : _} → Keeps me 4 middle st now → Leaves st now
tail-leaves Biu h = record { k1 = h.k1; k2 = h.k2; k3 = h.k3 }
tail-leaves Rmu h = record { k1 = h.k1; k2 = h.k2; k3 = h.k3 }

passed-over : {sc m slot stage : _} (ws : Windows sc m slot stage) (me : Side) (i : ℕ) (st : NodeState)
    → nat_le (ws.first me st) (ws.last me st) ≡ false → after sc m me i st ≡ st
unfolding go_through
passed-over {sc} {m} {slot} {stage} ws me i st none =
    ap (λ w. (go_through sc m (sent_in sc m) me i st w).state) (ws.are me st)
    ∙ go (is_good sc me i m.frame slot) (nat_le (ws.first me st) (ws.last me st)) none
  where
    go : (b c : Bool) → c ≡ false
        → (elim (b && c) as (λ _. Result) [
          | true ↦ close_on sc me i (kept_in sc m slot stage me i st) (own_window ws me st) (heard_in ws me i st)
          | false ↦ record { state = st; row = None }
        ]).state ≡ st
    go b true h = cc
    go true false h = refl
    go false false h = refl

-- the tail leaves all middles
pub tail_leaves : {sc m : _} (ws : Windows sc m (sync_slot_of sc.sizes) 4) (me : Side) (i : ℕ) (st : NodeState)
    → is_good sc me i m.frame (sync_slot_of sc.sizes) ≡ true → Leaves st (after sc m me i st)
tail_leaves ws me i st good =
    elim (true_or_false (nat_le (ws.first me st) (ws.last me st))) [
      | inl tick ↦ tail-leaves me (keeps ws me i st good (leb-true (ws.first me st) (ws.last me st) tick))
      | inr none ↦
          subst (Leaves st) (sym (passed-over ws me i st none)) (record { k1 = refl; k2 = refl; k3 = refl })
    ]
