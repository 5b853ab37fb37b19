-- What an engine keeps of one slot is right.
use Rattle.std.proofs.Common.{◌≡◌, ℕ, ◌<◌, false, Option, List, get_or, subst, refl, sym, ◌∙◌, ap, arith}
use Rattle.rb_base.specs.{Nodes.Side, Sizes.{Sizes, sync_slot_of}}
use Rattle.rb_base.proofs.Sets.{eq_other}
use Rattle.rb_rules.specs.{declared.role.Role.Role, NodeState.{NodeState, trusted_of}, Slots.{role_of, sender_in}}
use Rattle.rb_slot.specs.{declared.kept.KeptSlot.KeptSlot, Engines.{IsSound, Seated}, KeptSlots.{IsKeptSlot, bius_by, rmus_by, speaks_of}, Senders.sender_of}

-- a state stays sound with the same trusted nodes
pub still_sound : (sizes : Sizes) (me : Side) (index frame epoch near far after : ℕ) (owners : List ℕ) (kept : KeptSlot) (k1 k2 k3 : Option ℕ)
    → IsSound sizes me index frame epoch near far owners kept k1 k2 k3 → after ≡ far
    → IsSound sizes me index frame epoch near after owners kept k1 k2 k3
still_sound sizes me index frame epoch near far after owners kept k1 k2 k3 sound same =
    subst (λ f. IsSound sizes me index frame epoch near f owners kept k1 k2 k3) (sym same) sound

-- a state stays sound with another slot that is right
pub sound_with : (sizes : Sizes) (me : Side) (index frame epoch near far near_after far_after : ℕ) (owners owners_after : List ℕ) (kept kept_after : KeptSlot) (k1 k2 k3 : Option ℕ)
    → IsSound sizes me index frame epoch near far owners kept k1 k2 k3
    → IsKeptSlot sizes me index near_after far_after owners_after kept_after
    → IsSound sizes me index frame epoch near_after far_after owners_after kept_after k1 k2 k3
sound_with sizes me index frame epoch near far near_after far_after owners owners_after kept kept_after k1 k2 k3 sound right = record {
  index_fits = sound.index_fits;
  frame_fits = sound.frame_fits;
  epoch_fits = sound.epoch_fits;
  first_soon = sound.first_soon;
  second_soon = sound.second_soon;
  third_soon = sound.third_soon;
  slot_kept = right;
}

-- the masks by kind are the trusted nodes of each kind
bius_are : (me : Side) (st : NodeState) → bius_by me st.near st.far.trusted ≡ trusted_of me Side.Biu st
bius_are Side.Biu st = refl
bius_are Side.Rmu st = refl

rmus_are : (me : Side) (st : NodeState) → rmus_by me st.near st.far.trusted ≡ trusted_of me Side.Rmu st
rmus_are Side.Biu st = refl
rmus_are Side.Rmu st = refl

senders_alike : (me : Side) (st : NodeState) (role : Role)
    → sender_in (bius_by me st.near st.far.trusted) (rmus_by me st.near st.far.trusted) st.owners role ≡ sender_in (trusted_of me Side.Biu st) (trusted_of me Side.Rmu st) st.owners role
senders_alike me st role =
    ap (λ b. sender_in b (rmus_by me st.near st.far.trusted) st.owners role) (bius_are me st)
    ∙ ap (λ r. sender_in (trusted_of me Side.Biu st) r st.owners role) (rmus_are me st)

-- what was found of a slot below the sync slot is right
pub found_right : (me : Side) (v : Seated) (slot : ℕ) (k : KeptSlot)
    → slot < sync_slot_of v.sizes
    → k.slot ≡ slot
    → k.role ≡ role_of v.sizes slot
    → sender_of k.sender ≡ sender_in (trusted_of me Side.Biu v.state) (trusted_of me Side.Rmu v.state) v.state.owners k.role
    → ((stage : ℕ) → get_or k.spoken stage false ≡ speaks_of me v.index k.role (sender_of k.sender) stage)
    → IsKeptSlot v.sizes me v.index v.state.near v.state.far.trusted v.state.owners k
found_right me v slot k below here role_is sender_is spoken = record {
  role_is = role_is ∙ ap (role_of v.sizes) (sym here);
  sender_is = sender_is ∙ sym (senders_alike me v.state k.role);
  apart = eq_other k.slot (sync_slot_of v.sizes) (λ e. omega (arith, e, here, below));
  spoken_is = spoken;
}
