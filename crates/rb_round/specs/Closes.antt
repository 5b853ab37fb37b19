-- What the close of a stage gives, whatever list of arrivals the inbox stands for.
use Rattle.std.specs.Prelude.{ℕ, ◌≡◌, List}
use Rattle.rb_base.specs.Nodes.{has}
use Rattle.rb_rules.specs.{declared.closing.Closing.Closing, declared.sense.Expect.Expect, ExactStage.closing_of, Standing.Standing}
use Rattle.rb_eligible.specs.Inboxes.{HoldsArrivals, KeptArrivals, Received, sense_in}

-- the closing of what came
abbrev pub ClosesBy : KeptArrivals → Standing → Expect → ℕ → Closing → Type 0
ClosesBy kept s e expected closing = (received : List Received) → HoldsArrivals kept received → closing ≡ closing_of s (has expected) (sense_in e received)
