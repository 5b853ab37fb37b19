-- The header of a log: a magic of four bytes, the sizes of the bus, its plan, and whose log it is.
-- Form 2 adds the version of messages, the number of the bus and the probation; in form 1 the
-- version is One and nothing lapses.
use Rattle.std.specs.{Prelude.{ℕ, ◌-◌, Bool, true, false, ◌&&◌, ◌==◌, is_none, List, [], ◌∷◌, ◌++◌, codes, Result, Ok, Err, if◌then◌else◌}, List.flat_map}
use Rattle.byteorder.specs.Endian.{big_bytes, big_number}
use Rattle.rb_base.specs.{Nodes.side_of, Sizes.Sizes, declared.node.NodeName.NodeName}
use Rattle.rb_rules.specs.{Links.name_of, Plan.first_failing, Slots.count_of, declared.message.Version.Version, declared.message.Version.TheVariants.{One, Two}, declared.plan.Plan.Plan}
use Rattle.rb_plan.specs.Timetable.{Timetable}
use Rattle.rb_log.specs.{Fields.{◌>>=◌, field}, declared.heading.Header.Header, declared.refusal.LogRefusal.LogRefusal, declared.refusal.LogRefusal.TheVariants.{BadMagic, BadField}}
use Rattle.rb_base.specs.declared.node.NodeName.TheVariants as name

-- Writing.

abbrev pub is_one : Version → Bool
is_one One = true
is_one (Two bus) = false

-- the version is One and nothing lapses
abbrev pub has_first_form : Plan → Bool
has_first_form plan = is_one plan.version && (plan.probation == 0)

-- the version, and the bus's number, which is 0 in version One
abbrev pub version_bytes : Version → List ℕ
version_bytes One = 1 ∷ 0 ∷ []
version_bytes (Two bus) = 2 ∷ bus ∷ []

-- the kind, 0 for a BIU and 1 for an RMU, and the index
abbrev pub node_bytes : NodeName → List ℕ
node_bytes (name.Biu index) = 0 ∷ index ∷ []
node_bytes (name.Rmu index) = 1 ∷ index ∷ []

-- the numbers of the plan, of four bytes each
abbrev pub plan_numbers : Plan → List ℕ
plan_numbers plan =
    plan.u ∷ plan.r ∷ plan.dmin ∷ plan.dmax ∷ plan.l ∷ plan.h ∷ plan.v ∷ plan.z ∷ plan.c ∷ plan.p ∷ []

-- what follows the magic in both forms, 46 bytes
abbrev pub common_bytes : Timetable → NodeName → List ℕ
common_bytes t node =
    t.sizes.bius ∷ t.sizes.rmus ∷ big_bytes 2 t.sizes.data_slots ++ flat_map (big_bytes 4) (plan_numbers t.plan) ++ node_bytes node

-- the header that the writer gives
unfoldable pub header_of : Timetable → NodeName → List ℕ
header_of t node =
    if has_first_form t.plan
    then codes "RBL1" ++ common_bytes t node
    else codes "RBL2" ++ common_bytes t node ++ version_bytes t.plan.version ++ big_bytes 2 t.plan.probation

-- Reading.

-- whether the log is of form 2
unfoldable pub has_second_form : List ℕ → Result Bool LogRefusal
has_second_form bytes = do
  magic ← field bytes 0 4 0 4294967295
  if magic == big_number 4 (codes "RBL1")
      then Ok false
      else (if magic == big_number 4 (codes "RBL2") then Ok true else Err BadMagic)

unfoldable pub sizes_in : List ℕ → Result Sizes LogRefusal
sizes_in bytes = do
  bius ← field bytes 4 1 1 16
  rmus ← field bytes 5 1 1 16
  slots ← field bytes 6 2 1 64
  Ok (record { bius = bius; rmus = rmus; data_slots = slots })

-- the plan as form 1 has it
unfoldable pub plan_in : List ℕ → Result Plan LogRefusal
plan_in bytes = do
  u ← field bytes 8 4 2 1000000
  r ← field bytes 12 4 0 (u - 1)
  dmin ← field bytes 16 4 1 1000000000
  dmax ← field bytes 20 4 dmin 1000000000
  l ← field bytes 24 4 1 1000
  h ← field bytes 28 4 1 1000
  v ← field bytes 32 4 1 1000
  z ← field bytes 36 4 1 1000
  c ← field bytes 40 4 0 1000
  p ← field bytes 44 4 0 1000000000
  Ok (record {
    u = u;
    r = r;
    dmin = dmin;
    dmax = dmax;
    l = l;
    h = h;
    v = v;
    z = z;
    c = c;
    p = p;
    version = One;
    probation = 0;
  })

-- a plan that is not feasible is refused at its first byte
unfoldable pub feasible_in : Sizes → List ℕ → Result Plan LogRefusal
feasible_in sizes bytes = do
  plan ← plan_in bytes
  if is_none (first_failing sizes plan) then Ok plan else Err (BadField 8)

-- the index is below the number of nodes of its kind
unfoldable pub node_in : Sizes → List ℕ → Result NodeName LogRefusal
node_in sizes bytes = do
  kind ← field bytes 48 1 0 1
  index ← field bytes 49 1 0 (count_of (side_of kind) sizes - 1)
  Ok (name_of (side_of kind) index)

-- the plan with what form 2 adds
unfoldable pub extended_in : Plan → List ℕ → Result Plan LogRefusal
extended_in plan bytes = do
  version ← field bytes 50 1 1 2
  bus ← field bytes 51 1 0 (if version == 2 then 255 else 0)
  probation ← field bytes 52 2 0 4096
  Ok (record plan { version = if version == 2 then Two bus else One; probation = probation })

-- the plan of either form
abbrev pub whole_in : Bool → Plan → List ℕ → Result Plan LogRefusal
whole_in false plan bytes = Ok plan
whole_in true plan bytes = extended_in plan bytes

-- the header at the front of the bytes and the place at which the records begin, or the first fault
-- in it
unfoldable pub header_in : List ℕ → Result Header LogRefusal
header_in bytes = do
  second ← has_second_form bytes
  sizes ← sizes_in bytes
  plan ← feasible_in sizes bytes
  node ← node_in sizes bytes
  whole ← whole_in second plan bytes
  Ok (record { plan = record { sizes = sizes; plan = whole }; node = node; size = if second then 54 else 50 })
