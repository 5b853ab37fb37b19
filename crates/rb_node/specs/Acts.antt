-- What a node gives at a tick.
use Rattle.std.specs.Prelude.{◌≡◌, ◌≤◌, Some, None, option_and_then, option_map, if◌then◌else◌}
use Rattle.rb_rules.specs.{declared.closing.Closed.Closed, declared.message.Message.Message, declared.message.Version.Version, Core.Act, Hearing.Span, Spelling.{IsZeroUnlessWord, spelling_of}}
use Rattle.rb_node.specs.{declared.act.Act.Act as Given, declared.act.Step.Step, declared.act.Span.Span as Entered}

-- what a step gives, and what the node shows after it, are the act's parts
pub record IsAct (shown : Closed) (s : Step) (x : Act) : Type 0 where
  pub epoch : s.epoch ≡ x.epoch
  pub message : s.message ≡ x.message
  pub closed : (if s.closed then Some shown else None) ≡ x.closed

-- the message can be spelled
pub record IsSendable (m : Message) : Type 0 where
  pub some_stage : 1 ≤ m.stage
  pub most_stages : m.stage ≤ 3
  pub value : IsZeroUnlessWord m.tag m.value

-- the act with its message as bytes of this version, and with the delivery beside what was closed
pub record IsWholeAct (version : Version) (g : Given) (x : Act) : Type 0 where
  pub send : option_map (λ bytes. bytes.items) g.send ≡ option_map (spelling_of version) x.message
  pub delivered : g.delivered ≡ option_and_then (λ (c : Closed). c.delivered) x.closed
  pub closed : g.closed ≡ x.closed
  pub epoch : g.epoch ≡ x.epoch

-- a window that starts, as the rules have it
abbrev pub span_in : Entered → Span
span_in s = record { place = s.place; first = s.first; last = s.last }
