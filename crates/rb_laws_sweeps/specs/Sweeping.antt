-- A node swept up to a time: all that comes to it before then is taken, one arrival after another
-- in their order.
use Rattle.std.specs.Prelude.{ℕ, zero, suc, ◌==◌, ◌&&◌, ◌||◌, nat_le, nat_lt, Bool, true, false, if◌then◌else◌, Option, Some, None, List, [], ◌∷◌, length}
use Rattle.rb_base.specs.Nodes.{Side}
use Rattle.rb_rules.specs.{Goodness.Scenario, Hearing.Coming, WorldStep.{Site, after_arrival}}

-- c comes before d, or with it from no higher source
abbrev pub comes_first : Coming → Coming → Bool
comes_first c d = nat_lt c.time d.time || ((c.time == d.time) && nat_le c.from d.from)

-- an arrival, and its place among all that comes to a node
pub record Placed : Type 0 where
  pub place : ℕ
  pub coming : Coming

-- the first of c, which is at the head of the list, and of what comes after it in the list
abbrev pub first_with : Coming → Option Placed → Placed
first_with c None = record { place = 0; coming = c }
first_with c (Some p) =
    if comes_first c p.coming then (record { place = 0; coming = c }) else (record { place = suc p.place; coming = p.coming })

-- the first of all that comes to a node: of the least time, there of the lowest source, and of that
-- the one that was pushed first
unfoldable pub first_of : List Coming → Option Placed
first_of [] = None
first_of (c ∷ cs) = Some (first_with c (first_of cs))

-- the node after this arrival, if it comes before a time
abbrev pub after_first : Scenario → Side → ℕ → ℕ → Option Placed → Site → Site
after_first sc me i until None s = s
after_first sc me i until (Some p) s =
    elim (nat_lt p.coming.time until) [ true ↦ after_arrival sc me i p.place p.coming s | false ↦ s ]

-- the node after a number of arrivals in their order, as far as they come before the time `until`
unfoldable pub swept_by : Scenario → Side → ℕ → ℕ → ℕ → Site → Site
swept_by sc me i until zero s = s
swept_by sc me i until (suc n) s = swept_by sc me i until n (after_first sc me i until (first_of s.coming) s)

-- the node after all arrivals that come before a time
unfoldable pub swept : Scenario → Side → ℕ → ℕ → Site → Site
swept sc me i until s = swept_by sc me i until (length s.coming) s
