-- What a host's numbers of a node and its bus mean, and why there is no such node.
use Rattle.std.specs.Prelude.{⊤, ℕ, ◌≡◌, ◌<◌, ◌≤◌, ◌==◌, if◌then◌else◌, Some, None}
use Rattle.rb_base.specs.{Sizes.{IsShape, Sizes}, declared.node.NodeName.NodeName, declared.node.NodeName.TheVariants.{Biu, Rmu}}
use Rattle.rb_plan.specs.Timetable.{Timetable}
use Rattle.rb_rules.specs.{declared.message.Version.Version, declared.message.Version.TheVariants.{One, Two}, declared.plan.Plan.Plan, Plan.{IsPlan, first_failing}}
use Rattle.rb_host.specs.{declared.seat.NoNode.NoNode, declared.seat.Seat.Seat}
use Rattle.rb_host.specs.declared.seat.NoNode.TheVariants as no

-- The bus and the node.

abbrev pub sizes_of : Seat → Sizes
sizes_of s = record { bius = s.biu; rmus = s.rmu; data_slots = s.slots }

abbrev pub version_of : Seat → Version
version_of s = if s.version == 2 then Two s.bus else One

abbrev pub plan_of : Seat → Plan
plan_of s = record {
  u = s.u;
  r = s.r;
  dmin = s.dmin;
  dmax = s.dmax;
  l = s.l;
  h = s.h;
  v = s.v;
  z = s.z;
  c = s.c;
  p = s.p;
  version = version_of s;
  probation = s.probation;
}

abbrev pub timetable_of : Seat → Timetable
timetable_of s = record { sizes = sizes_of s; plan = plan_of s }

abbrev pub name_of : Seat → NodeName
name_of s = if s.kind == 0 then Biu s.index else Rmu s.index

-- how many nodes of the seat's kind there are
abbrev pub count_in : Seat → ℕ
count_in s = if s.kind == 0 then s.biu else s.rmu

-- What is asked of the numbers.

-- the bus has the node
pub record IsNode (s : Seat) : Type 0 where
  pub kind : s.kind ≤ 1
  pub index : s.index < count_in s

pub record AreTimes (s : Seat) : Type 0 where
  pub some : 2 ≤ s.u
  pub most : s.u ≤ 1000000
  pub less : s.r < s.u

pub record AreBounds (s : Seat) : Type 0 where
  pub some : 1 ≤ s.dmin
  pub order : s.dmin ≤ s.dmax
  pub most : s.dmax ≤ 1000000000
  pub skew : s.p ≤ 1000000000

pub record AreLengths (s : Seat) : Type 0 where
  pub l : (1 ≤ s.l) × (s.l ≤ 1000)
  pub h : (1 ≤ s.h) × (s.h ≤ 1000)
  pub v : (1 ≤ s.v) × (s.v ≤ 1000)
  pub z : (1 ≤ s.z) × (s.z ≤ 1000)

pub record IsVersion (s : Seat) : Type 0 where
  pub version : (1 ≤ s.version) × (s.version ≤ 2)
  pub c : s.c ≤ 1000
  pub probation : s.probation ≤ 4096

-- the numbers of the plan and the version are within their bounds
pub record IsPlanned (s : Seat) : Type 0 where
  pub plan : IsPlan (plan_of s)
  pub version : (1 ≤ s.version) × (s.version ≤ 2)

-- there is such a node
pub record IsAccepted (s : Seat) : Type 0 where
  pub shape : IsShape (sizes_of s)
  pub node : IsNode s
  pub planned : IsPlanned s
  pub feasible : first_failing (sizes_of s) (plan_of s) ≡ None

-- why there is none
abbrev pub IsRefused : Seat → NoNode → Type 0
IsRefused s no.Sizes = ¬ IsShape (sizes_of s)
IsRefused s no.Node = ¬ IsNode s
IsRefused s no.Plan = ¬ IsPlanned s
IsRefused s (no.Inequality n) = first_failing (sizes_of s) (plan_of s) ≡ Some n
IsRefused s no.OutOfMemory = ⊤
