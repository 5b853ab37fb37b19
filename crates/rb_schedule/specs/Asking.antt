-- Who asks for a data slot.
use Rattle.std.specs.Prelude.{ℕ, nat_lt, ◌&&◌, Bool, List, get_or}
use Rattle.rb_base.specs.{Nodes.has, declared.values.Heard.Heard, declared.values.Heard.TheVariants.Fault}
use Rattle.rb_rules.specs.Owners.{request_in}

-- BIU i asks for a slot in a pass: it is trusted, and wants more slots than there were passes
abbrev pub asks : ℕ → List Heard → ℕ → ℕ → Bool
asks trusted requests pass i = has trusted i && nat_lt pass (request_in (get_or requests i Fault))
