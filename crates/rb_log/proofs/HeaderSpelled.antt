-- A header that was read was there.
use Rattle.std.proofs.{Common.{◌≡◌, ℕ, zero, suc, ◌-◌, ◌<◌, ◌≤◌, Bool, true, false, eqb, List, ◌∷◌, ◌++◌, drop, Option, Some, None, refl, sym, ap, subst, ◌∙◌, arith, inl, inr}, lemmas.Bool.Decides.nat_tests, lemmas.List.append_assoc}
use Rattle.std.specs.{Prelude.{Result, Ok, Err, codes, is_none, if◌then◌else◌}, List.flat_map}
use Rattle.byteorder.specs.Endian.{big_bytes}
use Rattle.rb_base.specs.{Nodes.side_of, Sizes.{IsShape, Sizes}, declared.node.NodeName.NodeName}
use Rattle.rb_rules.specs.{Lawful.{IsNodeOf, IsVersion}, Links.name_of, Plan.{IsFeasible, IsPlan, first_failing}, Slots.count_of, Spelling.AreBytes, declared.message.Version.Version, declared.message.Version.TheVariants.{One, Two}, declared.plan.Plan.Plan}
use Rattle.rb_rules.proofs.Feasibility.{feasible_exactly}
use Rattle.rb_log.specs.{Fields.{◌>>=◌, field}, Header.{common_bytes, extended_in, feasible_in, has_first_form, has_second_form, header_in, whole_in, node_bytes, node_in, plan_in, plan_numbers, sizes_in, version_bytes}, Spelling.SpellsHeader, declared.heading.Header.Header, declared.refusal.LogRefusal.LogRefusal, declared.refusal.LogRefusal.TheVariants.{BadField, BadMagic}}
use Rattle.rb_plan.specs.Timetable.{Timetable}
use Rattle.rb_log.proofs.FieldsSpelled.{field_ok, four_there, one_there, stepped, two_there, went_on}
use Rattle.rb_base.specs.declared.node.NodeName.TheVariants as name

abbrev pub okay : {A : Type 0} → A → Result A LogRefusal
okay x = Ok x

same_ok : {A : Type 0} (x y : A) → okay x ≡ okay y → y ≡ x
same_ok x y is = cc

abbrev magic_of : Bool → List ℕ
magic_of false = codes "RBL1"
magic_of true = codes "RBL2"

pub magic_there : (bytes : List ℕ) (second : Bool) → AreBytes bytes → has_second_form bytes ≡ Ok second → bytes ≡ magic_of second ++ drop 4 bytes
unfolding has_second_form
magic_there bytes second small is =
    let s = went_on (field bytes 0 4 0 4294967295) _ second is in
    let f = field_ok bytes 0 4 0 4294967295 s.value s.first in
    by_magic s.value (four_there bytes 0 0 4294967295 s.value small f) (eqb s.value 1380076593) refl (eqb s.value 1380076594) refl s.rest
  where
    by_magic : (magic : ℕ) → bytes ≡ big_bytes 4 magic ++ drop 4 bytes → (one : Bool) → eqb magic 1380076593 ≡ one
        → (two : Bool) → eqb magic 1380076594 ≡ two
        → (if eqb magic 1380076593 then Ok false else (if eqb magic 1380076594 then Ok true else Err BadMagic)) ≡ Ok second
        → bytes ≡ magic_of second ++ drop 4 bytes
    by_magic magic there true a two b last =
        let e : magic ≡ 1380076593 = grind (arith, nat_tests) in
        let same : Ok false ≡ Ok second = rw a at last in
        let form : second ≡ false = cc in
        rw form (rw e at there)
    by_magic magic there false a true b last =
        let e : magic ≡ 1380076594 = grind (arith, nat_tests) in
        let same : Ok true ≡ Ok second = rw (a, b) at last in
        let form : second ≡ true = cc in
        rw form (rw e at there)
    by_magic magic there false a false b last = absurd (let same = rw (a, b) at last in cc)

pub sizes_there : (bytes : List ℕ) (sizes : Sizes) → AreBytes bytes → sizes_in bytes ≡ Ok sizes
    → IsShape sizes × (drop 4 bytes ≡ sizes.bius ∷ sizes.rmus ∷ big_bytes 2 sizes.data_slots ++ drop 8 bytes)
unfolding sizes_in
sizes_there bytes sizes small is =
    let a = went_on (field bytes 4 1 1 16) _ sizes is in
    let b = went_on (field bytes 5 1 1 16) _ sizes a.rest in
    let c = went_on (field bytes 6 2 1 64) _ sizes b.rest in
    let e : sizes ≡ record { bius = a.value; rmus = b.value; data_slots = c.value } = let same = c.rest in cc in
    let f = field_ok bytes 4 1 1 16 a.value a.first in
    let g = field_ok bytes 5 1 1 16 b.value b.first in
    let h = field_ok bytes 6 2 1 64 c.value c.first in
    rw e (
      record {
        some_biu = f.above;
        most_bius = f.below;
        some_rmu = g.above;
        most_rmus = g.below;
        some_slot = h.above;
        most_slots = h.below;
      },
      one_there bytes 4 1 16 a.value f ∙ ap (λ (l : List ℕ). a.value ∷ l) (one_there bytes 5 1 16 b.value g
          ∙ ap (λ (l : List ℕ). b.value ∷ l) (two_there bytes 6 1 64 c.value small h)),
    )

pub record PlanThere (bytes : List ℕ) (plan : Plan) : Type 0 where
  pub is_plan : IsPlan plan
  pub there : drop 8 bytes ≡ flat_map (big_bytes 4) (plan_numbers plan) ++ drop 48 bytes
  pub version : plan.version ≡ One
  pub probation : plan.probation ≡ 0

below_u : (u r : ℕ) → 2 ≤ u → r ≤ u - 1 → r < u
below_u u r some below = omega arith

none_few : 0 ≤ 4096
none_few = omega arith

pub plan_there : (bytes : List ℕ) (plan : Plan) → AreBytes bytes → plan_in bytes ≡ Ok plan → PlanThere bytes plan
unfolding plan_in
plan_there bytes plan small is =
    stepped (field bytes 8 4 2 1000000) _ plan (PlanThere bytes plan) is (λ u is_u after_u.
    stepped (field bytes 12 4 0 (u - 1)) _ plan (PlanThere bytes plan) after_u (λ r is_r after_r.
    stepped (field bytes 16 4 1 1000000000) _ plan (PlanThere bytes plan) after_r (λ dmin is_dmin after_dmin.
    stepped (field bytes 20 4 dmin 1000000000) _ plan (PlanThere bytes plan) after_dmin (λ dmax is_dmax after_dmax.
    stepped (field bytes 24 4 1 1000) _ plan (PlanThere bytes plan) after_dmax (λ l is_l after_l.
    stepped (field bytes 28 4 1 1000) _ plan (PlanThere bytes plan) after_l (λ h is_h after_h.
    stepped (field bytes 32 4 1 1000) _ plan (PlanThere bytes plan) after_h (λ v is_v after_v.
    stepped (field bytes 36 4 1 1000) _ plan (PlanThere bytes plan) after_v (λ z is_z after_z.
    stepped (field bytes 40 4 0 1000) _ plan (PlanThere bytes plan) after_z (λ c is_c after_c.
    stepped (field bytes 44 4 0 1000000000) _ plan (PlanThere bytes plan) after_c (λ p is_p after_p.
    let read : Plan = record {
      u = u;
      r = r;
      dmin = dmin;
      dmax = dmax;
      l = l;
      h = h;
      v = v;
      z = z;
      c = c;
      p = p;
      version = One;
      probation = 0;
    } in
    let e : plan ≡ read = same_ok read plan after_p in
    let fu = field_ok bytes 8 4 2 1000000 u is_u in
    let fr = field_ok bytes 12 4 0 (u - 1) r is_r in
    let fdmin = field_ok bytes 16 4 1 1000000000 dmin is_dmin in
    let fdmax = field_ok bytes 20 4 dmin 1000000000 dmax is_dmax in
    let fl = field_ok bytes 24 4 1 1000 l is_l in
    let fh = field_ok bytes 28 4 1 1000 h is_h in
    let fv = field_ok bytes 32 4 1 1000 v is_v in
    let fz = field_ok bytes 36 4 1 1000 z is_z in
    let fc = field_ok bytes 40 4 0 1000 c is_c in
    let fp = field_ok bytes 44 4 0 1000000000 p is_p in
    rw e (record {
      is_plan = record {
        u = (fu.above, fu.below);
        r = below_u u r fu.above fr.below;
        dmin = (fdmin.above, fdmax.above);
        dmax = fdmax.below;
        l = (fl.above, fl.below);
        h = (fh.above, fh.below);
        v = (fv.above, fv.below);
        z = (fz.above, fz.below);
        c = fc.below;
        p = fp.below;
        probation = none_few;
      };
      there =
          four_there bytes 8 2 1000000 u small fu ∙ ap (λ (t : List ℕ). big_bytes 4 u ++ t)
          (four_there bytes 12 0 (u - 1) r small fr ∙ ap (λ (t : List ℕ). big_bytes 4 r ++ t)
          (four_there bytes 16 1 1000000000 dmin small fdmin ∙ ap (λ (t : List ℕ). big_bytes 4 dmin ++ t)
          (four_there bytes 20 dmin 1000000000 dmax small fdmax ∙ ap (λ (t : List ℕ). big_bytes 4 dmax ++ t)
          (four_there bytes 24 1 1000 l small fl ∙ ap (λ (t : List ℕ). big_bytes 4 l ++ t)
          (four_there bytes 28 1 1000 h small fh ∙ ap (λ (t : List ℕ). big_bytes 4 h ++ t)
          (four_there bytes 32 1 1000 v small fv ∙ ap (λ (t : List ℕ). big_bytes 4 v ++ t)
          (four_there bytes 36 1 1000 z small fz ∙ ap (λ (t : List ℕ). big_bytes 4 z ++ t)
          (four_there bytes 40 0 1000 c small fc ∙ ap (λ (t : List ℕ). big_bytes 4 c ++ t)
          (four_there bytes 44 0 1000000000 p small fp)))))))));
      version = refl;
      probation = refl;
    })))))))))))

pub feasible_there : (sizes : Sizes) (bytes : List ℕ) (plan : Plan) → AreBytes bytes → feasible_in sizes bytes ≡ Ok plan
    → PlanThere bytes plan × IsFeasible sizes plan
unfolding feasible_in
feasible_there sizes bytes plan small is =
    let s = went_on (plan_in bytes) _ plan is in
    by_first s.value (plan_there bytes s.value small s.first) (first_failing sizes s.value) refl s.rest
  where
    by_first : (read : Plan) → PlanThere bytes read → (first : Option ℕ) → first_failing sizes read ≡ first
        → (if is_none (first_failing sizes read) then Ok read else Err (BadField 8)) ≡ Ok plan → PlanThere bytes plan × IsFeasible sizes plan
    by_first read there None none last =
        let same : Ok read ≡ Ok plan = rw none at last in
        let e : plan ≡ read = cc in
        subst (λ (known : Plan). PlanThere bytes known × IsFeasible sizes known) (sym e) (there, (feasible_exactly sizes read).0 none)
    by_first read there (Some n) fails last = absurd (let same = rw fails at last in cc)

pub node_there : (sizes : Sizes) (bytes : List ℕ) (node : NodeName) → IsShape sizes → node_in sizes bytes ≡ Ok node
    → IsNodeOf sizes node × (drop 48 bytes ≡ node_bytes node ++ drop 50 bytes)
unfolding node_in
node_there sizes bytes node shape is =
    let s = went_on (field bytes 48 1 0 1) _ node is in
    let f = field_ok bytes 48 1 0 1 s.value s.first in
    by_kind s.value (one_there bytes 48 0 1 s.value f) (omega (arith, f.below)) s.rest
  where
    by_kind : (kind : ℕ) → drop 48 bytes ≡ kind ∷ drop 49 bytes → kind ≤ 1
        → (field bytes 49 1 0 (count_of (side_of kind) sizes - 1) >>= (λ (index : ℕ). Ok (name_of (side_of kind) index))) ≡ Ok node
        → IsNodeOf sizes node × (drop 48 bytes ≡ node_bytes node ++ drop 50 bytes)
    by_kind zero first few last =
        let t = went_on (field bytes 49 1 0 (sizes.bius - 1)) _ node last in
        let g = field_ok bytes 49 1 0 (sizes.bius - 1) t.value t.first in
        let e : node ≡ name.Biu t.value = let same = t.rest in cc in
        rw e (omega (arith, g.below, shape.some_biu), first ∙ ap (λ (l : List ℕ). 0 ∷ l) (one_there bytes 49 0 (sizes.bius - 1) t.value g))
    by_kind (suc zero) first few last =
        let t = went_on (field bytes 49 1 0 (sizes.rmus - 1)) _ node last in
        let g = field_ok bytes 49 1 0 (sizes.rmus - 1) t.value t.first in
        let e : node ≡ name.Rmu t.value = let same = t.rest in cc in
        rw e (omega (arith, g.below, shape.some_rmu), first ∙ ap (λ (l : List ℕ). 1 ∷ l) (one_there bytes 49 0 (sizes.rmus - 1) t.value g))
    by_kind (suc (suc kind)) first few last = absurd (omega arith)

pub record FormThere (bytes : List ℕ) (plan whole : Plan) : Type 0 where
  pub version : Version
  pub q : ℕ
  pub fits : IsVersion version
  pub few : q ≤ 4096
  pub same : whole ≡ record plan { version = version; probation = q }
  pub there : drop 50 bytes ≡ version_bytes version ++ big_bytes 2 q ++ drop 54 bytes

pub form_there : (bytes : List ℕ) (plan whole : Plan) → AreBytes bytes → extended_in plan bytes ≡ Ok whole → FormThere bytes plan whole
unfolding extended_in
form_there bytes plan whole small is =
    let s = went_on (field bytes 50 1 1 2) _ whole is in
    let f = field_ok bytes 50 1 1 2 s.value s.first in
    by_version s.value (one_there bytes 50 1 2 s.value f) f.above f.below s.rest
  where
    by_version : (version : ℕ) → drop 50 bytes ≡ version ∷ drop 51 bytes → 1 ≤ version → version ≤ 2
        → (field bytes 51 1 0 (if eqb version 2 then 255 else 0)
        >>= (λ (bus : ℕ). field bytes 52 2 0 4096
        >>= (λ (probation : ℕ). Ok (record plan { version = if eqb version 2 then Two bus else One; probation = probation })))) ≡ Ok whole
        → FormThere bytes plan whole
    by_version zero first some few last = absurd (omega arith)
    by_version (suc zero) first some few last =
        let b = went_on (field bytes 51 1 0 0) _ whole last in
        let q = went_on (field bytes 52 2 0 4096) _ whole b.rest in
        let g = field_ok bytes 51 1 0 0 b.value b.first in
        let h = field_ok bytes 52 2 0 4096 q.value q.first in
        let none : b.value ≡ 0 = omega (arith, g.below) in
        let second : drop 51 bytes ≡ 0 ∷ drop 52 bytes = rw none at (one_there bytes 51 0 0 b.value g) in
        let e : whole ≡ record plan { version = One; probation = q.value } = let same = q.rest in cc in
        record {
          version = One;
          q = q.value;
          fits = tt;
          few = h.below;
          same = e;
          there = first ∙ ap (λ (l : List ℕ). 1 ∷ l) (second ∙ ap (λ (l : List ℕ). 0 ∷ l) (two_there bytes 52 0 4096 q.value small h));
        }
    by_version (suc (suc zero)) first some few last =
        let b = went_on (field bytes 51 1 0 255) _ whole last in
        let q = went_on (field bytes 52 2 0 4096) _ whole b.rest in
        let g = field_ok bytes 51 1 0 255 b.value b.first in
        let h = field_ok bytes 52 2 0 4096 q.value q.first in
        let e : whole ≡ record plan { version = Two b.value; probation = q.value } = let same = q.rest in cc in
        record {
          version = Two b.value;
          q = q.value;
          fits = omega (arith, g.below);
          few = h.below;
          same = e;
          there =
              first ∙ ap (λ (l : List ℕ). 2 ∷ l) (one_there bytes 51 0 255 b.value g
              ∙ ap (λ (l : List ℕ). b.value ∷ l) (two_there bytes 52 0 4096 q.value small h));
        }
    by_version (suc (suc (suc version))) first some few last = absurd (omega arith)

-- The whole header.

pub record HeaderThere (bytes : List ℕ) (header : Header) : Type 0 where
  pub shape : IsShape header.plan.sizes
  pub plan : IsPlan header.plan.plan
  pub feasible : IsFeasible header.plan.sizes header.plan.plan
  pub version : IsVersion header.plan.plan.version
  pub node_of : IsNodeOf header.plan.sizes header.node
  pub front : List ℕ
  pub spells : SpellsHeader front header.plan header.node
  pub there : bytes ≡ front ++ drop header.size bytes

common_there : (bytes : List ℕ) (t : Timetable) (node : NodeName)
    → drop 4 bytes ≡ t.sizes.bius ∷ t.sizes.rmus ∷ big_bytes 2 t.sizes.data_slots ++ drop 8 bytes
    → drop 8 bytes ≡ flat_map (big_bytes 4) (plan_numbers t.plan) ++ drop 48 bytes → drop 48 bytes ≡ node_bytes node ++ drop 50 bytes
    → drop 4 bytes ≡ common_bytes t node ++ drop 50 bytes
common_there bytes t node a b c =
    a ∙ ap (λ (l : List ℕ). t.sizes.bius ∷ t.sizes.rmus ∷ big_bytes 2 t.sizes.data_slots ++ l)
    (b ∙ ap (λ (l : List ℕ). flat_map (big_bytes 4) (plan_numbers t.plan) ++ l) c)

regroup : (a b c d e : List ℕ) → a ++ (b ++ ((c ++ d) ++ e)) ≡ (((a ++ b) ++ c) ++ d) ++ e
regroup a b c d e = simp append_assoc

whole_there : (bytes : List ℕ) (sizes : Sizes) (plan whole : Plan) (node : NodeName) (second : Bool) → AreBytes bytes
    → bytes ≡ magic_of second ++ drop 4 bytes
    → IsShape sizes × (drop 4 bytes ≡ sizes.bius ∷ sizes.rmus ∷ big_bytes 2 sizes.data_slots ++ drop 8 bytes)
    → PlanThere bytes plan × IsFeasible sizes plan → IsNodeOf sizes node × (drop 48 bytes ≡ node_bytes node ++ drop 50 bytes)
    → whole_in second plan bytes ≡ Ok whole
    → HeaderThere bytes (record { plan = record { sizes = sizes; plan = whole }; node = node; size = if second then 54 else 50 })
whole_there bytes sizes plan whole node false small magic s p n last =
    let e : whole ≡ plan = cc in
    let common = common_there bytes (record { sizes = sizes; plan = plan }) node s.1 p.0.there n.1 in
    let first : has_first_form plan ≡ true = rw (p.0.version, p.0.probation) refl in
    let one : IsVersion plan.version = rw p.0.version tt in
    rw e (record {
      shape = s.0;
      plan = p.0.is_plan;
      feasible = p.1;
      version = one;
      node_of = n.0;
      front = codes "RBL1" ++ common_bytes (record { sizes = sizes; plan = plan }) node;
      spells = inl (first, refl);
      there = magic ∙ ap (λ (l : List ℕ). codes "RBL1" ++ l) common;
    })
whole_there bytes sizes plan whole node true small magic s p n last =
    let f = form_there bytes plan whole small last in
    let common = common_there bytes (record { sizes = sizes; plan = plan }) node s.1 p.0.there n.1 in
    let ok = p.0.is_plan in
    rw f.same (record {
      shape = s.0;
      plan = record {
        u = ok.u;
        r = ok.r;
        dmin = ok.dmin;
        dmax = ok.dmax;
        l = ok.l;
        h = ok.h;
        v = ok.v;
        z = ok.z;
        c = ok.c;
        p = ok.p;
        probation = f.few;
      };
      feasible = p.1;
      version = f.fits;
      node_of = n.0;
      front = codes "RBL2" ++ common_bytes (record { sizes = sizes; plan = plan }) node ++ version_bytes f.version ++ big_bytes 2 f.q;
      spells = inr refl;
      there =
          magic ∙ ap (λ (l : List ℕ). codes "RBL2" ++ l) (common
          ∙ ap (λ (l : List ℕ). common_bytes (record { sizes = sizes; plan = plan }) node ++ l) f.there)
          ∙ regroup (codes "RBL2") (common_bytes (record { sizes = sizes; plan = plan }) node) (version_bytes f.version) (big_bytes 2 f.q) (drop 54 bytes);
    })

pub header_there : (bytes : List ℕ) (header : Header) → AreBytes bytes → header_in bytes ≡ Ok header → HeaderThere bytes header
unfolding header_in
header_there bytes header small is =
    let second = went_on (has_second_form bytes) _ header is in
    let sizes = went_on (sizes_in bytes) _ header second.rest in
    let plan = went_on (feasible_in sizes.value bytes) _ header sizes.rest in
    let node = went_on (node_in sizes.value bytes) _ header plan.rest in
    let whole = went_on (whole_in second.value plan.value bytes) _ header node.rest in
    let read : Header = record {
      plan = record { sizes = sizes.value; plan = whole.value };
      node = node.value;
      size = if second.value then 54 else 50;
    } in
    let e : header ≡ read = same_ok read header whole.rest in
    let s = sizes_there bytes sizes.value small sizes.first in
    rw e (whole_there bytes sizes.value plan.value whole.value node.value second.value small (magic_there bytes second.value small second.first) s
    (feasible_there sizes.value bytes plan.value small plan.first) (node_there sizes.value bytes node.value s.0 node.first) whole.first)
