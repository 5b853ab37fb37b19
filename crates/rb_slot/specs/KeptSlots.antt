-- What an engine keeps of one slot.
use Rattle.std.specs.Prelude.{ℕ, ◌≡◌, ◌==◌, ◌&&◌, ◌||◌, not, nat_lt, Bool, false, List, get_or}
use Rattle.rb_base.specs.{Nodes.{Side, other}, Nodes.Side.{Biu, Rmu}, Sizes.{Sizes, sync_slot_of}}
use Rattle.rb_rules.specs.{declared.role.Role.Role, ExactStage.is_sender, Slots.{Sender, listens, role_of, sender_in}, Slots.Sender.{Nobody, Node, EachTrusted}}
use Rattle.rb_slot.specs.{declared.kept.KeptSlot.KeptSlot, Senders.sender_of}

-- the trusted BIUs and the trusted RMUs, by the trusted nodes of its own kind and of the other
abbrev pub bius_by : Side → ℕ → ℕ → ℕ
bius_by Biu near far = near
bius_by Rmu near far = far

abbrev pub rmus_by : Side → ℕ → ℕ → ℕ
rmus_by Biu near far = far
rmus_by Rmu near far = near

-- whether node `index` of kind me speaks in a stage of a slot below the sync slot. A passive engine
-- never does
abbrev pub speaks_of : Side → ℕ → Role → Sender → ℕ → Bool
speaks_of me index role Nobody stage = false
speaks_of me index role (Node i) stage =
    nat_lt index 16 && (listens (other me) role stage && (not (stage == 1) || is_sender me index role (Node i)))
speaks_of me index role EachTrusted stage = false

-- what is kept of a slot is what the engine would find again
pub record IsKeptSlot (sizes : Sizes) (me : Side) (index near far : ℕ) (owners : List ℕ) (k : KeptSlot) : Type 0 where
  pub role_is : k.role ≡ role_of sizes k.slot
  pub sender_is : sender_of k.sender ≡ sender_in (bius_by me near far) (rmus_by me near far) owners k.role
  pub apart : (k.slot == sync_slot_of sizes) ≡ false
  pub spoken_is : (stage : ℕ) → get_or k.spoken stage false ≡ speaks_of me index k.role (sender_of k.sender) stage
