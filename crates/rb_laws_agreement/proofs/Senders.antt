-- The sender of a slot is a trusted node.
use Rattle.std.proofs.Common.{◌≡◌, ℕ, Bool, true, false, List, Option, Some, None, slice_get, if◌then◌else◌, refl, sym, ◌∙◌, ap}
use Rattle.rb_base.specs.{Nodes.{Side, has}, Nodes.Side.{Biu, Rmu}}
use Rattle.rb_rules.specs.{declared.role.Role.Role, declared.role.Role.TheVariants.{Schedule, Data, DiagBiu, DiagRmu, Sync}, Slots.{sender_kind, if_trusted, if_owned, sender_in}, Slots.Sender.{Nobody, Node}}

pub same_node : (a b : ℕ) → Node a ≡ Node b → a ≡ b
same_node a b h = cc

trusted-if : (trusted i p : ℕ) → if_trusted trusted i ≡ Node p → has trusted p ≡ true
trusted-if trusted i p h = go (has trusted i) refl h
  where
    go : (b : Bool) → has trusted i ≡ b → (if b then Node i else Nobody) ≡ Node p → has trusted p ≡ true
    go true e h = ap (has trusted) (sym (same_node i p h)) ∙ e
    go false e h = cc

owned-if : (o : Option ℕ) (p : ℕ) → if_owned o ≡ Node p → o ≡ Some p
owned-if None p h = cc
owned-if (Some i) p h = ap Some (same_node i p h)

pub sender_is_trusted : (trusted : Side → ℕ) (owners : List ℕ) (role : Role) (p : ℕ)
    → ((k p : ℕ) → slice_get owners k ≡ Some p → has (trusted Biu) p ≡ true)
    → sender_in (trusted Biu) (trusted Rmu) owners role ≡ Node p → has (trusted (sender_kind role)) p ≡ true
sender_is_trusted trusted owners (Schedule i) p owned h = trusted-if (trusted Biu) i p h
sender_is_trusted trusted owners (Data n) p owned h = owned n p (owned-if (slice_get owners n) p h)
sender_is_trusted trusted owners (DiagBiu i) p owned h = trusted-if (trusted Biu) i p h
sender_is_trusted trusted owners (DiagRmu i) p owned h = trusted-if (trusted Rmu) i p h
sender_is_trusted trusted owners Sync p owned h = cc
