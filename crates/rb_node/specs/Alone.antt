-- Busy ticks at which a window ends, and nothing else happens.
use Rattle.std.specs.Prelude.{ℕ, ◌≡◌, Bool, true, false, IsTrue, None, Some}
use Rattle.rb_base.specs.Nodes.{Side}
use Rattle.rb_rules.specs.{Core.{Core, is_tick, pass_to}, SyncStage.new_epoch_of}
use Rattle.rb_node.specs.{Acts.IsAct, Cores.{IsCore, IsSameNode, Running, next_of, tick_of}, Ends.EndsExactWindow}

-- the answer is true if and only if the node's next busy tick ends a window of a slot before the
-- sync slot, and no frame begins with it
pub record TellsExactEnd (me : Side) (n : Running) (answer : Bool) : Type 0 where
  pub ends : (c : Core) (k : ℕ) → IsCore n c → next_of me n c ≡ Some k
      → IsTrue answer → EndsExactWindow n.seat.sizes n.seat.plan me c.state k
  pub stays : (c : Core) (k : ℕ) → IsCore n c → next_of me n c ≡ Some k
      → IsTrue answer → is_tick (new_epoch_of n.seat.plan me c.state) k ≡ false
  pub otherwise : (c : Core) (k : ℕ) → IsCore n c → next_of me n c ≡ Some k
      → is_tick (new_epoch_of n.seat.plan me c.state) k ≡ false
      → EndsExactWindow n.seat.sizes n.seat.plan me c.state k → IsTrue answer

-- the answer is true only if the node's next busy tick ends a window of a slot before the sync
-- slot. Then the node has had its quiet ticks and that tick, at which nothing else happens. The
-- answer is always true if no frame begins with such a tick and nothing is said then
pub record EndsWindow (me : Side) (before after : Running) (ended : Bool) : Type 0 where
  pub core : IsTrue ended → (c : Core) (k word : ℕ) → IsCore before c → next_of me before c ≡ Some k
      → IsCore after (tick_of me before (pass_to k c) word).core
  pub act : IsTrue ended → (c : Core) (k word : ℕ) → IsCore before c → next_of me before c ≡ Some k
      → IsAct after.shown (record { epoch = None; message = None; closed = true }) (tick_of me before (pass_to k c) word)
  pub only : IsTrue ended → (c : Core) → IsCore before c
      → (k : ℕ) × ((next_of me before c ≡ Some k) × EndsExactWindow before.seat.sizes before.seat.plan me c.state k)
  pub otherwise : (c : Core) (k : ℕ) → IsCore before c → next_of me before c ≡ Some k
      → is_tick (new_epoch_of before.seat.plan me c.state) k ≡ false
      → EndsExactWindow before.seat.sizes before.seat.plan me c.state k
      → (tick_of me before (pass_to k c) 0).message ≡ None → IsTrue ended
  pub stays : ended ≡ false → after ≡ before
  pub same : IsSameNode before after
