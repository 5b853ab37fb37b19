-- Windows as nodes go through them.
use Rattle.rb_rules.specs.Hearing.{Span as Stretch}
use Rattle.rb_world_traffic.specs.declared.saying.Span.{Span}

abbrev pub span_of : Span → Stretch
span_of s = record { place = s.place; first = s.first; last = s.last }
