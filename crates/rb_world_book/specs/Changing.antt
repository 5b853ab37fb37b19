-- What a node tells changes its site in the world.
use Rattle.std.specs.Prelude.{ℕ, ◌==◌, true, false, Option, Some, option_map, List, get_or, slice_index}
use Rattle.rb_base.specs.{Nodes.Side, Nodes.Side.{Biu, Rmu}, Sizes.Sizes, declared.node.NodeName.NodeName, declared.values.Delivery.Delivery, declared.values.See.TheVariants.Nothing}
use Rattle.rb_rules.specs.{declared.closing.Closed.Closed, declared.record.SlotLine.SlotLine, Book.{Begun, Row}, ExactStage.each_node, Hearing.judged_see, Slots.count_of, WorldStep.{Site, World, at_node}}
use Rattle.rb_base.specs.declared.node.NodeName.TheVariants as node

abbrev pub side_in : NodeName → Side
side_in (node.Biu i) = Biu
side_in (node.Rmu i) = Rmu

abbrev pub number_in : NodeName → ℕ
number_in (node.Biu i) = i
number_in (node.Rmu i) = i

-- what node i delivers, as a line
abbrev pub line_from : ℕ → Option Delivery → Option SlotLine
line_from i delivered = option_map (λ d. record { receiver = i; sender = d.sender; value = d.value }) delivered

-- what node i tells of a stage: what it shows, with these reference times in place of stamps, and
-- these trusted nodes
abbrev pub row_shown : ℕ → Closed → List ℕ → ℕ → ℕ → Row
row_shown i c times biu rmu = record {
  place = c.place;
  sees = each_node (λ j. judged_see (slice_index times j) (get_or c.sees j Nothing));
  biu = biu;
  rmu = rmu;
  line = line_from i c.delivered;
}

-- the site of a node that closed a window and told this. Of the tail it tells nothing
abbrev pub with_row : ℕ → Row → Site → Site
with_row stage row s = elim (stage == 4) [ true ↦ s | false ↦ record s { row = Some row } ]

abbrev pub with_begun : Begun → Site → Site
with_begun b s = record s { begun = Some b }

-- the world in which the site of a node has changed
abbrev pub changed_at : NodeName → (Site → Site) → World → World
changed_at n change w = record w { sites = at_node (side_in n) (number_in n) change w.sites }

-- the node is one of the bus
abbrev pub count_for : NodeName → Sizes → ℕ
count_for n sizes = count_of (side_in n) sizes
