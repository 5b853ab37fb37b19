-- A listener beside a run, computed: of the bus with one BIU, one RMU and one data slot, over two
-- frames. It meets all that the laws ask.
use Rattle.std.specs.{Prelude.{ℕ, suc, ◌+◌, ◌*◌, ◌/◌, ◌%◌, ◌==◌, ◌||◌, not, nat_lt, Bool, true, false, Option, Some, None, List, [], ◌∷◌, if◌then◌else◌, replicate, slice_get}, List.list_any}
use Rattle.rb_base.specs.Nodes.Side.{Rmu}
use Rattle.rb_rules.specs.{declared.message.Version.TheVariants.One, declared.plan.Plan.Plan, Clock.{Timeline, time_of}, Goodness.Scenario, Hearing.{Coming, Sending}, NodeState.NodeState, Rounds.{Moment, moment, sending_in, window_in, windows_in}, Spelling.spelling_of}
use Rattle.rb_listen.specs.{Listening.{Listening, first_search}, declared.search.Search.Search}
use Rattle.rb_laws_listener_learns.specs.Ears.{Ear, listening_at}
use Rattle.rb_listen.specs.Listening as now

-- ticks of 10000 units, give or take one; calls are sent at offset 6 of windows of 15, 18 and 20
-- ticks
abbrev pub plan : Plan
plan = record {
  u = 10000;
  r = 1;
  dmin = 5000;
  dmax = 15000;
  l = 15;
  h = 6;
  v = 18;
  z = 20;
  c = 1;
  p = 60200;
  version = One;
  probation = 0;
}

abbrev pub steady : Timeline
steady = record { start = 0; segments = (0, 10000) ∷ [] }

abbrev pub two_frames : Scenario
two_frames = record {
  sizes = record { bius = 1; rmus = 1; data_slots = 1 };
  plan = plan;
  frames = 2;
  requests = 1 ∷ [];
  words = 7 ∷ [];
  apps = 0 ∷ [];
  clocks = replicate 2 steady;
  delays = record { base = 10000; rules = [] };
  biu_onsets = None ∷ [];
  rmu_onsets = None ∷ [];
  behavior = λ me i span j. [];
  says = [];
}

-- what RMU 0 sends in a moment
abbrev pub sends_by : Moment → Option NodeState → Option Sending
sends_by m None = None
sends_by m (Some st) = sending_in two_frames m Rmu 0 st (window_in two_frames m Rmu st)

-- nothing once the run has ended, or between frames
unfoldable pub sends_at : ℕ → Option Sending
sends_at n =
    let m = moment two_frames [] n in
    elim (m.book.ended || not (nat_lt m.window (windows_in two_frames.sizes))) [
      | true ↦ None
      | false ↦ sends_by m (slice_get m.nodes.rmus 0)
    ]

-- a message as it comes: a tick later
abbrev pub comes : Sending → Coming
comes s = record { time = time_of steady s.tick + 10000; from = 0; bytes = spelling_of plan.version s.message }

-- with these ticks after the first of a frame messages come: four relays and votes, a vector, a
-- call
abbrev pub is_offset : ℕ → Bool
is_offset k = list_any (λ offset. offset == k % 242) (22 ∷ 67 ∷ 112 ∷ 142 ∷ 172 ∷ 203 ∷ [])

-- the window in which what comes with this stamp is sent. A frame has 16 windows, and 17 moments
abbrev pub window_of : ℕ → ℕ
window_of k = k / 242 * 17 + k % 242 / 15

abbrev pub if_stamped : ℕ → Option Sending → List Coming
if_stamped k None = []
if_stamped k (Some s) = if suc s.tick == k then comes s ∷ [] else []

unfoldable pub heard_with : ℕ → List Coming
heard_with k = elim (is_offset k) [ true ↦ if_stamped k (sends_at (window_of k)) | false ↦ [] ]

-- a listener that starts when the bus does, and 484 of its ticks. Each message takes a tick
abbrev pub ear : Ear
ear = record { clock = steady; delay = λ j place. 10000; heard = heard_with; ticks = 484 }

-- the search of a listener that seeks or learns. For any other listener it is the first search
abbrev pub search_in : Listening → Search
search_in (now.Searching s) = s
search_in (now.Waiting had first) = first_search
search_in (now.Following core) = first_search

unfoldable pub found_by : ℕ → Search
found_by k = search_in (listening_at two_frames ear k)

-- what the listener has found by tick 463, with which it decides. It has learned frame 1
abbrev pub decided : Search
decided = found_by 463
