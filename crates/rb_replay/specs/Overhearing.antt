-- What a listener tells of a log: the log of a BIU is given to it from some tick on.
use Rattle.std.specs.{Prelude.{ℕ, zero, suc, ◌+◌, ◌-◌, Bool, true, false, Option, Some, None, List, [], ◌∷◌, ◌++◌}, List.flat_map}
use Rattle.rb_base.specs.{Sizes.Sizes, declared.node.NodeName.NodeName}
use Rattle.rb_rules.specs.{declared.plan.Plan.Plan, declared.record.Epoch.Epoch, Core.CoreEvent, Core.CoreEvent.{Tick, Arrive}}
use Rattle.rb_report.specs.Report.{end_text}
use Rattle.rb_laws_logs.specs.Replays.{delivery_lines, epoch_lines}
use Rattle.rb_listen.specs.{Listening.{first_search, told_of}, Listening.Listening.Searching, declared.heed.Heed.Heed}
use Rattle.rb_base.specs.declared.node.NodeName.TheVariants as node

-- the events from a tick on, by its number among the ticks of the log. What arrives before that
-- tick is dropped too
unfoldable pub from_tick : ℕ → List CoreEvent → List CoreEvent
from_tick n [] = []
from_tick n (Arrive from bytes ∷ events) = from_tick n events
from_tick zero (Tick word ∷ events) = Tick word ∷ events
from_tick (suc n) (Tick word ∷ events) = from_tick n events

-- the lines of what is told at a tick
abbrev pub heed_lines : NodeName → Heed → List ℕ
heed_lines name h = epoch_lines name h.epoch ++ delivery_lines name h.delivered

-- 1 if a frame begins, and 0 if not
abbrev pub begun_with : Option Epoch → ℕ
begun_with None = 0
begun_with (Some e) = 1

abbrev pub begun_in : List Heed → ℕ
begun_in [] = 0
begun_in (h ∷ hs) = begun_with h.epoch + begun_in hs

-- the lines, and the end with the number of frames completed: of those that began all but the last
abbrev pub heeds_text : NodeName → List Heed → List ℕ
heeds_text name hs = flat_map (heed_lines name) hs ++ end_text (begun_in hs - 1)

-- what a listener tells that has heard nothing before
unfoldable pub overheard_text : Sizes → Plan → NodeName → ℕ → List CoreEvent → List ℕ
overheard_text sizes plan name skip events = heeds_text name (told_of sizes plan (Searching first_search) (from_tick skip events))

abbrev pub is_of_biu : NodeName → Bool
is_of_biu (node.Biu i) = true
is_of_biu (node.Rmu i) = false
