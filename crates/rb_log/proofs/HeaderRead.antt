-- A header that was written is read.
use Rattle.std.proofs.{Common.{◌≡◌, ℕ, zero, suc, ◌+◌, ◌-◌, ◌≤◌, Bool, true, false, List, ◌++◌, drop, None, refl, sym, ap, ◌∙◌, arith}, lemmas.Bool.Decides.nat_tests, lemmas.List.append_assoc, lemmas.List.drop-drop}
use Rattle.std.specs.Prelude.{Ok, codes}
use Rattle.byteorder.specs.Endian.{big_bytes}
use Rattle.rb_base.specs.{Sizes.IsShape, declared.node.NodeName.NodeName}
use Rattle.rb_rules.specs.{Lawful.{IsNodeOf, IsVersion}, Plan.{IsFeasible, IsPlan, first_failing}, declared.message.Version.Version, declared.message.Version.TheVariants.{One, Two}, declared.plan.Plan.Plan}
use Rattle.rb_rules.proofs.Feasibility.{feasible_exactly}
use Rattle.rb_plan.specs.Timetable.{Timetable}
use Rattle.rb_log.specs.{Fields.field, Header.{common_bytes, extended_in, feasible_in, has_first_form, has_second_form, header_in, header_of, node_in, plan_in, sizes_in, version_bytes}}
use Rattle.rb_log.proofs.FieldsRead.{reads, reads_byte}
use Rattle.rb_base.specs.declared.node.NodeName.TheVariants as name

-- the plan as form 1 has it
abbrev plain : Plan → Plan
plain plan = record plan { version = One; probation = 0 }

onward : (bytes : List ℕ) (place k : ℕ) (xs : List ℕ) → drop place bytes ≡ xs → drop (place + k) bytes ≡ drop k xs
onward bytes place k xs is = sym (drop-drop k place bytes) ∙ ap (λ (l : List ℕ). drop k l) is

further_on : (bytes : List ℕ) (k : ℕ) (xs : List ℕ) → drop 4 bytes ≡ xs → drop (4 + k) bytes ≡ drop k xs
further_on bytes k xs is = onward bytes 4 k xs is

sizes_read : (bytes : List ℕ) (t : Timetable) (node : NodeName) (tail : List ℕ) → drop 4 bytes ≡ common_bytes t node ++ tail → IsShape t.sizes
    → sizes_in bytes ≡ Ok t.sizes
unfolding sizes_in
sizes_read bytes t node tail is shape =
    let bius : field bytes 4 1 1 16 ≡ Ok t.sizes.bius = reads_byte bytes _ 4 t.sizes.bius 1 16 is shape.some_biu shape.most_bius in
    let rmus : field bytes 5 1 1 16 ≡ Ok t.sizes.rmus =
    reads_byte bytes _ 5 t.sizes.rmus 1 16 (further_on bytes 1 _ is) shape.some_rmu shape.most_rmus in
    let slots : field bytes 6 2 1 64 ≡ Ok t.sizes.data_slots =
    let few = shape.most_slots in
    reads bytes _ 6 2 t.sizes.data_slots 1 64 (further_on bytes 2 _ is) (omega arith) (omega arith) shape.some_slot shape.most_slots in
    rw (bius, rmus, slots) refl

plan_read : (bytes : List ℕ) (t : Timetable) (node : NodeName) (tail : List ℕ) → drop 4 bytes ≡ common_bytes t node ++ tail → IsPlan t.plan
    → plan_in bytes ≡ Ok (plain t.plan)
unfolding plan_in
plan_read bytes t node tail is ok =
    let p = t.plan in
    let u : field bytes 8 4 2 1000000 ≡ Ok p.u =
    reads bytes _ 8 4 p.u 2 1000000 (further_on bytes 4 _ is) (omega arith) (omega (arith, ok.u.1)) ok.u.0 ok.u.1 in
    let r : field bytes 12 4 0 (p.u - 1) ≡ Ok p.r =
    reads bytes _ 12 4 p.r 0 (p.u - 1) (further_on bytes 8 _ is) (omega arith) (omega (arith, ok.u.1, ok.r)) (omega arith) (omega (arith, ok.r)) in
    let dmin : field bytes 16 4 1 1000000000 ≡ Ok p.dmin =
    reads bytes _ 16 4 p.dmin 1 1000000000 (further_on bytes 12 _ is) (omega arith) (omega (arith, ok.dmin.1, ok.dmax)) ok.dmin.0
    (omega (arith, ok.dmin.1, ok.dmax)) in
    let dmax : field bytes 20 4 p.dmin 1000000000 ≡ Ok p.dmax =
    reads bytes _ 20 4 p.dmax p.dmin 1000000000 (further_on bytes 16 _ is) (omega arith) (omega (arith, ok.dmax)) ok.dmin.1 ok.dmax in
    let l : field bytes 24 4 1 1000 ≡ Ok p.l =
    reads bytes _ 24 4 p.l 1 1000 (further_on bytes 20 _ is) (omega arith) (omega (arith, ok.l.1)) ok.l.0 ok.l.1 in
    let h : field bytes 28 4 1 1000 ≡ Ok p.h =
    reads bytes _ 28 4 p.h 1 1000 (further_on bytes 24 _ is) (omega arith) (omega (arith, ok.h.1)) ok.h.0 ok.h.1 in
    let v : field bytes 32 4 1 1000 ≡ Ok p.v =
    reads bytes _ 32 4 p.v 1 1000 (further_on bytes 28 _ is) (omega arith) (omega (arith, ok.v.1)) ok.v.0 ok.v.1 in
    let z : field bytes 36 4 1 1000 ≡ Ok p.z =
    reads bytes _ 36 4 p.z 1 1000 (further_on bytes 32 _ is) (omega arith) (omega (arith, ok.z.1)) ok.z.0 ok.z.1 in
    let c : field bytes 40 4 0 1000 ≡ Ok p.c =
    reads bytes _ 40 4 p.c 0 1000 (further_on bytes 36 _ is) (omega arith) (omega (arith, ok.c)) (omega arith) ok.c in
    let most : field bytes 44 4 0 1000000000 ≡ Ok p.p =
    reads bytes _ 44 4 p.p 0 1000000000 (further_on bytes 40 _ is) (omega arith) (omega (arith, ok.p)) (omega arith) ok.p in
    rw (u, r, dmin, dmax, l, h, v, z, c, most) refl

feasible_read : (bytes : List ℕ) (t : Timetable) (node : NodeName) (tail : List ℕ) → drop 4 bytes ≡ common_bytes t node ++ tail → IsPlan t.plan
    → IsFeasible t.sizes t.plan → feasible_in t.sizes bytes ≡ Ok (plain t.plan)
unfolding feasible_in
feasible_read bytes t node tail is ok feasible =
    let plan = plan_read bytes t node tail is ok in
    let none : first_failing t.sizes (plain t.plan) ≡ None = (feasible_exactly t.sizes t.plan).1 feasible in
    rw (plan, none) refl

node_read : (bytes : List ℕ) (t : Timetable) (node : NodeName) (tail : List ℕ) → drop 4 bytes ≡ common_bytes t node ++ tail → IsNodeOf t.sizes node
    → node_in t.sizes bytes ≡ Ok node
unfolding node_in
node_read bytes t (name.Biu index) tail is inside =
    let kind : field bytes 48 1 0 1 ≡ Ok 0 = reads_byte bytes _ 48 0 0 1 (further_on bytes 44 _ is) (omega arith) (omega arith) in
    let at : field bytes 49 1 0 (t.sizes.bius - 1) ≡ Ok index =
    reads_byte bytes _ 49 index 0 (t.sizes.bius - 1) (further_on bytes 45 _ is) (omega arith) (omega arith) in
    rw (kind, at) refl
node_read bytes t (name.Rmu index) tail is inside =
    let kind : field bytes 48 1 0 1 ≡ Ok 1 = reads_byte bytes _ 48 1 0 1 (further_on bytes 44 _ is) (omega arith) (omega arith) in
    let at : field bytes 49 1 0 (t.sizes.rmus - 1) ≡ Ok index =
    reads_byte bytes _ 49 index 0 (t.sizes.rmus - 1) (further_on bytes 45 _ is) (omega arith) (omega arith) in
    rw (kind, at) refl

-- The form.

first_form : (bytes rest : List ℕ) → bytes ≡ codes "RBL1" ++ rest → has_second_form bytes ≡ Ok false
unfolding has_second_form
first_form bytes rest is =
    let magic : field bytes 0 4 0 4294967295 ≡ Ok 1380076593 =
    reads bytes rest 0 4 1380076593 0 4294967295 is (omega arith) (omega arith) (omega arith) (omega arith) in
    rw magic refl

second_form : (bytes rest : List ℕ) → bytes ≡ codes "RBL2" ++ rest → has_second_form bytes ≡ Ok true
unfolding has_second_form
second_form bytes rest is =
    let magic : field bytes 0 4 0 4294967295 ≡ Ok 1380076594 =
    reads bytes rest 0 4 1380076594 0 4294967295 is (omega arith) (omega arith) (omega arith) (omega arith) in
    rw magic refl

behind_common : (bytes : List ℕ) (t : Timetable) (node : NodeName) (tail : List ℕ) → drop 4 bytes ≡ common_bytes t node ++ tail
    → drop 50 bytes ≡ tail
behind_common bytes t (name.Biu index) tail is = further_on bytes 46 _ is
behind_common bytes t (name.Rmu index) tail is = further_on bytes 46 _ is

extended_read : (bytes rest : List ℕ) (plan : Plan) (version : Version) (q : ℕ) → drop 50 bytes ≡ (version_bytes version ++ big_bytes 2 q) ++ rest
    → IsVersion version → q ≤ 4096 → extended_in plan bytes ≡ Ok (record plan { version = version; probation = q })
unfolding extended_in
extended_read bytes rest plan One q is fits few =
    let first : field bytes 50 1 1 2 ≡ Ok 1 = reads_byte bytes _ 50 1 1 2 is (omega arith) (omega arith) in
    let bus : field bytes 51 1 0 0 ≡ Ok 0 = reads_byte bytes _ 51 0 0 0 (onward bytes 50 1 _ is) (omega arith) (omega arith) in
    let last : field bytes 52 2 0 4096 ≡ Ok q = reads bytes rest 52 2 q 0 4096 (onward bytes 50 2 _ is) (omega arith) (omega arith) (omega arith) few in
    rw (first, bus, last) refl
extended_read bytes rest plan (Two number) q is fits few =
    let first : field bytes 50 1 1 2 ≡ Ok 2 = reads_byte bytes _ 50 2 1 2 is (omega arith) (omega arith) in
    let bus : field bytes 51 1 0 255 ≡ Ok number = reads_byte bytes _ 51 number 0 255 (onward bytes 50 1 _ is) (omega arith) (omega arith) in
    let last : field bytes 52 2 0 4096 ≡ Ok q = reads bytes rest 52 2 q 0 4096 (onward bytes 50 2 _ is) (omega arith) (omega arith) (omega arith) few in
    rw (first, bus, last) refl

behind_extended : (bytes rest : List ℕ) (version : Version) (q : ℕ) → drop 50 bytes ≡ (version_bytes version ++ big_bytes 2 q) ++ rest
    → drop 54 bytes ≡ rest
behind_extended bytes rest One q is = onward bytes 50 4 _ is
behind_extended bytes rest (Two number) q is = onward bytes 50 4 _ is

-- the plan with a version and a probation
abbrev with_form : Plan → Version → ℕ → Plan
with_form plan version q = record plan { version = version; probation = q }

first_is_plain : (plan : Plan) → has_first_form plan ≡ true → plain plan ≡ plan
first_is_plain plan first = go plan.version plan.probation refl refl where
  go : (version : Version) (q : ℕ) → plan.version ≡ version → plan.probation ≡ q → plain plan ≡ plan
  go One zero v p = ap (λ (x : Version). with_form plan x 0) (sym v) ∙ ap (with_form plan plan.version) (sym p)
  go One (suc q) v p = let e : has_first_form plan ≡ false = rw (v, p) (grind (arith, nat_tests)) in absurd (cc)
  go (Two bus) q v p = let e : has_first_form plan ≡ false = rw v refl in absurd (cc)

-- The whole header.

-- the header is read, and `rest` begins behind it
pub record IsHeaderRead (bytes : List ℕ) (t : Timetable) (node : NodeName) (rest : List ℕ) : Type 0 where
  pub size : ℕ
  pub read : header_in bytes ≡ Ok (record { plan = t; node = node; size = size })
  pub behind : drop size bytes ≡ rest

first_header : (bytes : List ℕ) (t : Timetable) (node : NodeName) → has_second_form bytes ≡ Ok false → sizes_in bytes ≡ Ok t.sizes
    → feasible_in t.sizes bytes ≡ Ok (plain t.plan) → node_in t.sizes bytes ≡ Ok node → plain t.plan ≡ t.plan
    → header_in bytes ≡ Ok (record { plan = t; node = node; size = 50 })
unfolding header_in
first_header bytes t node form sizes plan node_is same =
    let read : header_in bytes ≡ Ok (record { plan = record { sizes = t.sizes; plan = plain t.plan }; node = node; size = 50 }) =
    rw (form, sizes, plan, node_is) refl in
    read ∙ ap (λ (p : Plan). Ok (record { plan = record { sizes = t.sizes; plan = p }; node = node; size = 50 })) same

second_header : (bytes : List ℕ) (t : Timetable) (node : NodeName) → has_second_form bytes ≡ Ok true → sizes_in bytes ≡ Ok t.sizes
    → feasible_in t.sizes bytes ≡ Ok (plain t.plan) → node_in t.sizes bytes ≡ Ok node → extended_in (plain t.plan) bytes ≡ Ok t.plan
    → header_in bytes ≡ Ok (record { plan = t; node = node; size = 54 })
unfolding header_in
second_header bytes t node form sizes plan node_is whole = rw (form, sizes, plan, node_is, whole) refl

first_written : (t : Timetable) (node : NodeName) → has_first_form t.plan ≡ true → header_of t node ≡ codes "RBL1" ++ common_bytes t node
unfolding header_of
first_written t node first = rw first refl

second_written : (t : Timetable) (node : NodeName) → has_first_form t.plan ≡ false
    → header_of t node ≡ codes "RBL2" ++ common_bytes t node ++ version_bytes t.plan.version ++ big_bytes 2 t.plan.probation
unfolding header_of
second_written t node second = rw second refl

regroup : (a b c d e : List ℕ) → (((a ++ b) ++ c) ++ d) ++ e ≡ a ++ (b ++ ((c ++ d) ++ e))
regroup a b c d e = simp append_assoc

-- the numbers are those of a bus, and the node is on it
pub record AreOfBus (t : Timetable) (node : NodeName) : Type 0 where
  pub shape : IsShape t.sizes
  pub plan : IsPlan t.plan
  pub feasible : IsFeasible t.sizes t.plan
  pub version : IsVersion t.plan.version
  pub node_of : IsNodeOf t.sizes node

pub first_read : (bytes : List ℕ) (t : Timetable) (node : NodeName) (rest : List ℕ) → AreOfBus t node → has_first_form t.plan ≡ true
    → bytes ≡ (codes "RBL1" ++ common_bytes t node) ++ rest → IsHeaderRead bytes t node rest
first_read bytes t node rest ok first all =
    let is : bytes ≡ codes "RBL1" ++ (common_bytes t node ++ rest) = all ∙ append_assoc (codes "RBL1") (common_bytes t node) rest in
    let at : drop 4 bytes ≡ common_bytes t node ++ rest = ap (λ (l : List ℕ). drop 4 l) is in
    record {
      size = 50;
      read =
          first_header bytes t node (first_form bytes _ is) (sizes_read bytes t node rest at ok.shape)
          (feasible_read bytes t node rest at ok.plan ok.feasible) (node_read bytes t node rest at ok.node_of) (first_is_plain t.plan first);
      behind = behind_common bytes t node rest at;
    }

pub second_read : (bytes : List ℕ) (t : Timetable) (node : NodeName) (rest : List ℕ) → AreOfBus t node
    → bytes ≡ (codes "RBL2" ++ common_bytes t node ++ version_bytes t.plan.version ++ big_bytes 2 t.plan.probation) ++ rest
    → IsHeaderRead bytes t node rest
second_read bytes t node rest ok all =
    let form = version_bytes t.plan.version ++ big_bytes 2 t.plan.probation in
    let is : bytes ≡ codes "RBL2" ++ (common_bytes t node ++ (form ++ rest)) =
    all ∙ regroup (codes "RBL2") (common_bytes t node) (version_bytes t.plan.version) (big_bytes 2 t.plan.probation) rest in
    let at : drop 4 bytes ≡ common_bytes t node ++ (form ++ rest) = ap (λ (l : List ℕ). drop 4 l) is in
    let tail : drop 50 bytes ≡ form ++ rest = behind_common bytes t node (form ++ rest) at in
    record {
      size = 54;
      read =
          second_header bytes t node (second_form bytes _ is) (sizes_read bytes t node (form ++ rest) at ok.shape)
          (feasible_read bytes t node (form ++ rest) at ok.plan ok.feasible) (node_read bytes t node (form ++ rest) at ok.node_of)
          (extended_read bytes rest (plain t.plan) t.plan.version t.plan.probation tail ok.version ok.plan.probation);
      behind = behind_extended bytes rest t.plan.version t.plan.probation tail;
    }

-- what the writer gives is of one of the forms
pub header_read : (t : Timetable) (node : NodeName) (rest : List ℕ) → AreOfBus t node → IsHeaderRead (header_of t node ++ rest) t node rest
header_read t node rest ok = go (has_first_form t.plan) refl where
  go : (first : Bool) → has_first_form t.plan ≡ first → IsHeaderRead (header_of t node ++ rest) t node rest
  go true first = first_read _ t node rest ok first (ap (λ (l : List ℕ). l ++ rest) (first_written t node first))
  go false first = second_read _ t node rest ok (ap (λ (l : List ℕ). l ++ rest) (second_written t node first))
