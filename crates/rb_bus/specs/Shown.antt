-- A record as the host sees it.
use Rattle.std.specs.Prelude.{ℕ, ◌≡◌, Bool, true, false, List, length, map, take}
use Rattle.rb_base.specs.{declared.node.NodeName.NodeName, declared.values.Heard.Heard, declared.values.Heard.TheVariants.{Word, Fault}, declared.values.Place.Place}
use Rattle.rb_rules.specs.{Book.Record, declared.cause.Cause.Cause, declared.record.NodeLine.NodeLine, declared.record.PortLine.PortLine, declared.record.SlotLine.SlotLine}
use Rattle.rb_bus.specs.{declared.record.HostDelivery.HostDelivery, declared.record.HostNode.HostNode, declared.record.HostPort.HostPort, declared.record.HostRecord.HostRecord}
use Rattle.rb_base.specs.declared.node.NodeName.TheVariants as name
use Rattle.rb_rules.specs.declared.cause.Cause.TheVariants as cause

-- Lines.

-- a node of this kind and number
abbrev pub node_of : ℕ → ℕ → NodeLine → HostNode
node_of kind index l = record {
  kind = kind;
  index = index;
  convicted_bius = l.biu;
  convicted_rmus = l.rmu;
  tick = l.tick;
  time = l.time;
}

-- a node by its name: kind 0 is a BIU, kind 1 an RMU
abbrev pub node_named : NodeLine → NodeName → HostNode
node_named l (name.Biu i) = node_of 0 i l
node_named l (name.Rmu i) = node_of 1 i l

abbrev pub node_shown : NodeLine → HostNode
node_shown l = node_named l l.node

abbrev pub port_shown : PortLine → HostPort
port_shown l = record { biu = l.biu; losses = l.losses; state = l.state }

-- a delivery of this word, or of none
abbrev pub delivery_with : SlotLine → Bool → ℕ → HostDelivery
delivery_with l none word = record { receiver = l.receiver; sender = l.sender; none = none; word = word }

-- a delivery by its value
abbrev pub delivery_of : SlotLine → Heard → HostDelivery
delivery_of l (Word word) = delivery_with l false word
delivery_of l Fault = delivery_with l true 0

abbrev pub delivery_shown : SlotLine → HostDelivery
delivery_shown l = delivery_of l l.value

abbrev pub cause_number : Cause → ℕ
cause_number cause.FewGoodBiu = 1
cause_number cause.FewGoodRmu = 2
cause_number cause.TwoSided = 3

-- Records.

-- the struct shows the record of a frame
pub record ShowsFrame (h : HostRecord) (frame : ℕ) (nodes : List NodeLine) (ports : List PortLine)
    : Type 0 where
  pub what : h.what ≡ 1
  pub frame_is : h.frame ≡ frame
  pub node_count : h.node_count ≡ length nodes
  pub nodes_are : take h.node_count h.nodes ≡ map node_shown nodes
  pub port_count : h.port_count ≡ length ports
  pub ports_are : take h.port_count h.ports ≡ map port_shown ports

-- the struct shows the record of a slot
pub record ShowsSlot (h : HostRecord) (frame slot : ℕ) (lines : List SlotLine) : Type 0 where
  pub what : h.what ≡ 2
  pub frame_is : h.frame ≡ frame
  pub slot_is : h.slot ≡ slot
  pub delivery_count : h.delivery_count ≡ length lines
  pub deliveries_are : take h.delivery_count h.deliveries ≡ map delivery_shown lines

-- the struct shows a breach
pub record ShowsBreach (h : HostRecord) (place : Place) (cause : Cause) : Type 0 where
  pub what : h.what ≡ 4
  pub frame_is : h.frame ≡ place.frame
  pub slot_is : h.slot ≡ place.slot
  pub stage_is : h.stage ≡ place.stage
  pub cause_is : h.cause ≡ cause_number cause

-- the struct shows this record
abbrev pub Shows : HostRecord → Record → Type 0
Shows h (Record.Frame frame nodes ports) = ShowsFrame h frame nodes ports
Shows h (Record.Slot frame slot lines) = ShowsSlot h frame slot lines
Shows h Record.Ended = h.what ≡ 3
Shows h (Record.Breach place cause) = ShowsBreach h place cause
