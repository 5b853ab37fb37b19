-- Which keys a table may have, and of which form the values at them are.
use Rattle.std.specs.Prelude.{ℕ, List, [], ◌∷◌, Bool, true, false, codes}
use Rattle.rb_scenario_document.specs.{declared.fields.Form.Form, declared.fields.Form.TheVariants.{Integer, Text, Flag, Pair, Table, Integers, Texts, Pairs, Tables}}

-- a key, whether it must be there, and the form of the value at it
pub record Entry : Type 0 where
  pub key : List ℕ
  pub needed : Bool
  pub form : Form

abbrev must_have : List ℕ → Form → Entry
must_have key form = record { key = key; needed = true; form = form }

abbrev may_have : List ℕ → Form → Entry
may_have key form = record { key = key; needed = false; form = form }

-- the root: the bus, what its BIUs ask for and offer, its timing and its messages, and the entries
unfoldable pub root_fields : List Entry
root_fields =
    must_have (codes "biu") Integer
    ∷ must_have (codes "rmu") Integer
    ∷ must_have (codes "slots") Integer
    ∷ must_have (codes "frames") Integer
    ∷ may_have (codes "requests") Integers
    ∷ may_have (codes "words") Integers
    ∷ may_have (codes "apps") Texts
    ∷ may_have (codes "plan") Table
    ∷ may_have (codes "delay") Integer
    ∷ may_have (codes "version") Integer
    ∷ may_have (codes "bus") Integer
    ∷ may_have (codes "probation") Integer
    ∷ may_have (codes "clock") Tables
    ∷ may_have (codes "link") Tables
    ∷ may_have (codes "fault") Tables
    ∷ may_have (codes "say") Tables
    ∷ []

-- the timing plan
unfoldable pub plan_fields : List Entry
plan_fields =
    may_have (codes "u") Integer
    ∷ may_have (codes "r") Integer
    ∷ may_have (codes "dmin") Integer
    ∷ may_have (codes "dmax") Integer
    ∷ may_have (codes "l") Integer
    ∷ may_have (codes "h") Integer
    ∷ may_have (codes "v") Integer
    ∷ may_have (codes "z") Integer
    ∷ may_have (codes "c") Integer
    ∷ may_have (codes "p") Integer
    ∷ []

-- a node's clock
unfoldable pub clock_fields : List Entry
clock_fields = must_have (codes "node") Text ∷ may_have (codes "start") Integer ∷ may_have (codes "ticks") Pairs ∷ []

-- the delay of some messages
unfoldable pub link_fields : List Entry
link_fields =
    must_have (codes "from") Text
    ∷ must_have (codes "to") Text
    ∷ must_have (codes "delay") Integer
    ∷ may_have (codes "frames") Pair
    ∷ may_have (codes "slots") Pair
    ∷ may_have (codes "stages") Pair
    ∷ []

-- the fields of a fault: the node, and the frame and the slot from which on it is faulty
unfoldable pub fault_fields : List Entry
fault_fields = must_have (codes "node") Text ∷ must_have (codes "frame") Integer ∷ must_have (codes "slot") Integer ∷ []

-- what a faulty node says
unfoldable pub say_fields : List Entry
say_fields =
    must_have (codes "from") Text
    ∷ must_have (codes "to") Text
    ∷ must_have (codes "frames") Pair
    ∷ must_have (codes "slots") Pair
    ∷ must_have (codes "stages") Pair
    ∷ may_have (codes "offset") Integer
    ∷ may_have (codes "early") Integer
    ∷ may_have (codes "word") Integer
    ∷ may_have (codes "fault") Flag
    ∷ may_have (codes "sync") Flag
    ∷ may_have (codes "raw") Text
    ∷ []
