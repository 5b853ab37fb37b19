-- What a host sees of what a node gives at a tick, and of what it wants.
use Rattle.std.specs.Prelude.{ℕ, ◌≡◌, true, false, Option, Some, None, is_some, option_and_then, List, [], length, take}
use Rattle.rb_base.specs.{declared.values.Delivery.Delivery, declared.values.Heard.Heard, declared.values.Heard.TheVariants.{Word, Fault}}
use Rattle.rb_node.specs.declared.act.Want.{Want}
use Rattle.rb_rules.specs.{declared.closing.Closed.Closed, declared.message.Message.Message, declared.message.Version.Version, declared.record.Epoch.Epoch, Core.Act, Spelling.spelling_of}
use Rattle.rb_host.specs.{declared.act.HostAct.HostAct, declared.act.HostDelivery.HostDelivery, declared.act.HostEpoch.HostEpoch, declared.act.HostWant.HostWant}
use Rattle.rb_node.specs.declared.act.Want.TheVariants as want

-- the start of a frame
abbrev pub epoch_shown : Option Epoch → HostEpoch
epoch_shown None = record { begins = false; frame = 0; tick = 0; biu = 0; rmu = 0 }
epoch_shown (Some e) = record { begins = true; frame = e.frame; tick = e.tick; biu = e.biu; rmu = e.rmu }

-- a delivery of this value
abbrev pub value_shown : Delivery → Heard → HostDelivery
value_shown d (Word word) = record { delivers = true; none = false; sender = d.sender; slot = d.slot; frame = d.frame; word = word }
value_shown d Fault = record { delivers = true; none = true; sender = d.sender; slot = d.slot; frame = d.frame; word = 0 }

abbrev pub delivery_shown : Option Delivery → HostDelivery
delivery_shown None = record { delivers = false; none = false; sender = 0; slot = 0; frame = 0; word = 0 }
delivery_shown (Some d) = value_shown d d.value

-- the bytes that are sent
abbrev pub bytes_sent : Version → Option Message → List ℕ
bytes_sent version None = []
bytes_sent version (Some m) = spelling_of version m

-- the act in plain numbers, its message as bytes of this version
pub record IsHostAct (version : Version) (a : HostAct) (x : Act) : Type 0 where
  pub length : a.length ≡ length (bytes_sent version x.message)
  pub message : take a.length a.message ≡ bytes_sent version x.message
  pub closes : a.closes ≡ is_some x.closed
  pub epoch : a.epoch ≡ epoch_shown x.epoch
  pub delivery : a.delivery ≡ delivery_shown (option_and_then (λ (c : Closed). c.delivered) x.closed)

-- what is wanted
abbrev pub want_shown : Want → HostWant
want_shown want.Nothing = record { what = 0; slot = 0 }
want_shown want.Request = record { what = 1; slot = 0 }
want_shown (want.Data slot) = record { what = 2; slot = slot }
