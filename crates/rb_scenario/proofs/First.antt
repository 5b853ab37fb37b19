-- The first rule of all that a document breaks.
use Rattle.std.proofs.{Common.{◌≡◌, ◌⊎◌, ℕ, List, Bool, true, false, not, cond, Option, Some, None, Result, Ok, Err, IfErr, inl, inr, refl, ap, ◌∙◌, subst}, lemmas.Bool.{and_from, and_left, and_right}}
use Rattle.toml.specs.Data.{Members}
use Rattle.rb_scenario_document.specs.Forms.{has_unknown_key, has_wrong_form, lacks_key}
use Rattle.rb_scenario_entries.specs.{declared.bus.Bus.Bus, declared.refusal.Refusal.Refusal, declared.refusal.Refusal.TheVariants.{NotToml, MissingKey, UnknownKey, WrongType, OutOfRange, PlanFails, ClockBounds, DelayBounds, StartApart, SayOfGood, TooMany, NoSuchNode, OutOfMemory}, Bus.{bus_in, bus_of, has_bus}}
use Rattle.rb_scenario.specs.{Acceptance.{IsDocument, IsRefused, broken_by, first_broken, or_else, plan_rule}, Reading.{fits_bus, is_in_range, scenario_of}}

-- if there is a bus, it is the one that the members say
pub bus_in-some : (t : Members) (bus : Bus) → Some bus ≡ bus_in t → (has_bus t ≡ true) × (bus ≡ bus_of t)
bus_in-some t bus h =
    let go : (b : Bool) → has_bus t ≡ b → (has_bus t ≡ true) × (bus ≡ bus_of t) = λ b. elim b as (λ b. has_bus t ≡ b → (has_bus t ≡ true) × (bus ≡ bus_of t)) [
      | true ↦ λ e. let same : Some bus ≡ Some (bus_of t) = h ∙ ap (λ b. cond b (Some (bus_of t)) None) e in (e, cc)
      | false ↦ λ e. let same : Some bus ≡ None = h ∙ ap (λ b. cond b (Some (bus_of t)) None) e in cc
    ] in go (has_bus t) refl

pub bus_in-none : (t : Members) → None ≡ bus_in t → has_bus t ≡ false
bus_in-none t h =
    let go : (b : Bool) → has_bus t ≡ b → has_bus t ≡ false = λ b. elim b as (λ b. has_bus t ≡ b → has_bus t ≡ false) [
      | true ↦ λ e. let same : None ≡ Some (bus_of t) = h ∙ ap (λ b. cond b (Some (bus_of t)) None) e in cc
      | false ↦ λ e. e
    ] in go (has_bus t) refl

-- the rules on keys, names and forms are kept one after the other: each record has one more than
-- the record before it
pub record KeysKept (t : Members) : Type 0 where
  pub keys : lacks_key t ≡ false

pub record NamesKept (t : Members) : Type 0 where
  pub keys : lacks_key t ≡ false
  pub names : has_unknown_key t ≡ false

pub record FormsKept (t : Members) : Type 0 where
  pub keys : lacks_key t ≡ false
  pub names : has_unknown_key t ≡ false
  pub forms : has_wrong_form t ≡ false

first4 : Bool → Bool → Bool → Bool → Option Refusal → Option Refusal
first4 a b c d next = or_else (not a) MissingKey (or_else (not b) UnknownKey (or_else (not c) WrongType (or_else d OutOfRange next)))

at_keys : (a b c d : Bool) (next : Option Refusal) → a ≡ true → first4 a b c d next ≡ Some MissingKey
unfolding first4
at_keys a b c d next h = rw h refl

at_names : (a b c d : Bool) (next : Option Refusal) → a ≡ false → b ≡ true → first4 a b c d next ≡ Some UnknownKey
unfolding first4
at_names a b c d next h0 h1 = rw (h0, h1) refl

at_forms : (a b c d : Bool) (next : Option Refusal) → a ≡ false → b ≡ false → c ≡ true → first4 a b c d next ≡ Some WrongType
unfolding first4
at_forms a b c d next h0 h1 h2 = rw (h0, h1, h2) refl

at_ranges : (a b c d : Bool) (next : Option Refusal) → a ≡ false → b ≡ false → c ≡ false → d ≡ false → first4 a b c d next ≡ Some OutOfRange
unfolding first4
at_ranges a b c d next h0 h1 h2 h3 = rw (h0, h1, h2, h3) refl

at_rest : (a b c d : Bool) (next : Option Refusal) → a ≡ false → b ≡ false → c ≡ false → d ≡ true → first4 a b c d next ≡ next
unfolding first4
at_rest a b c d next h0 h1 h2 h3 = rw (h0, h1, h2, h3) refl

pub first-keys : (t : Members) → lacks_key t ≡ true → first_broken t ≡ Some MissingKey
unfolding first_broken first4
first-keys t h = at_keys (lacks_key t) (has_unknown_key t) (has_wrong_form t) (is_in_range t) (broken_by (scenario_of t)) h

pub first-names : (t : Members) → KeysKept t → has_unknown_key t ≡ true → first_broken t ≡ Some UnknownKey
unfolding first_broken first4
first-names t k h = at_names (lacks_key t) (has_unknown_key t) (has_wrong_form t) (is_in_range t) (broken_by (scenario_of t)) k.keys h

pub first-forms : (t : Members) → NamesKept t → has_wrong_form t ≡ true → first_broken t ≡ Some WrongType
unfolding first_broken first4
first-forms t k h = at_forms (lacks_key t) (has_unknown_key t) (has_wrong_form t) (is_in_range t) (broken_by (scenario_of t)) k.keys k.names h

pub first-ranges : (t : Members) → FormsKept t → is_in_range t ≡ false → first_broken t ≡ Some OutOfRange
unfolding first_broken first4
first-ranges t k h = at_ranges (lacks_key t) (has_unknown_key t) (has_wrong_form t) (is_in_range t) (broken_by (scenario_of t)) k.keys k.names k.forms h

pub first-rest : (t : Members) → FormsKept t → is_in_range t ≡ true → first_broken t ≡ broken_by (scenario_of t)
unfolding first_broken first4
first-rest t k h = at_rest (lacks_key t) (has_unknown_key t) (has_wrong_form t) (is_in_range t) (broken_by (scenario_of t)) k.keys k.names k.forms h

pub no_bus-first : (t : Members) → FormsKept t → has_bus t ≡ false → first_broken t ≡ Some OutOfRange
no_bus-first t k h = first-ranges t k (and_left (has_bus t) (fits_bus (bus_of t) t) h)

pub no_fit-first : (t : Members) (bus : Bus) → FormsKept t → bus ≡ bus_of t → fits_bus bus t ≡ false → first_broken t ≡ Some OutOfRange
no_fit-first t bus k is h = first-ranges t k (and_right (has_bus t) (fits_bus (bus_of t) t) (subst (λ b. fits_bus b t ≡ false) is h))

pub fit-first : (t : Members) (bus : Bus) → FormsKept t → has_bus t ≡ true → bus ≡ bus_of t → fits_bus bus t ≡ true → first_broken t ≡ broken_by (scenario_of t)
fit-first t bus k has is h = first-rest t k (and_from (has_bus t) (fits_bus (bus_of t) t) has (subst (λ b. fits_bus b t ≡ true) is h))

-- no rule on a document is that there is no document, or no node
skipped : (why : Refusal) (kept : Bool) (rule : Refusal) (next : Option Refusal) → (rule ≡ why → ⊥) → (next ≡ Some why → ⊥) → or_else kept rule next ≡ Some why → ⊥
skipped why true rule next other later h = later h
skipped why false rule next other later h = other cc

plan_skipped : (why : Refusal) (o : Option ℕ) (next : Option Refusal) → ((n : ℕ) → PlanFails n ≡ why → ⊥) → (next ≡ Some why → ⊥) → plan_rule o next ≡ Some why → ⊥
plan_skipped why None next other later h = later h
plan_skipped why (Some n) next other later h = other n cc

pub record IsNoRule (why : Refusal) : Type 0 where
  pub keys : MissingKey ≡ why → ⊥
  pub names : UnknownKey ≡ why → ⊥
  pub forms : WrongType ≡ why → ⊥
  pub ranges : OutOfRange ≡ why → ⊥
  pub plan : (n : ℕ) → PlanFails n ≡ why → ⊥
  pub clocks : ClockBounds ≡ why → ⊥
  pub delays : DelayBounds ≡ why → ⊥
  pub starts : StartApart ≡ why → ⊥
  pub says : SayOfGood ≡ why → ⊥
  pub few : TooMany ≡ why → ⊥

never : (why : Refusal) → IsNoRule why → (t : Members) → first_broken t ≡ Some why → ⊥
unfolding first_broken broken_by
never why k t =
    skipped why _ MissingKey _ k.keys (skipped why _ UnknownKey _ k.names (skipped why _ WrongType _ k.forms (skipped why _ OutOfRange _ k.ranges
    (plan_skipped why _ _ k.plan (skipped why _ ClockBounds _ k.clocks (skipped why _ DelayBounds _ k.delays (skipped why _ StartApart _ k.starts
    (skipped why _ SayOfGood _ k.says (skipped why _ TooMany None k.few (λ e. cc))))))))))

no_toml_rule : IsNoRule NotToml
no_toml_rule = record {
  keys = λ e. cc;
  names = λ e. cc;
  forms = λ e. cc;
  ranges = λ e. cc;
  plan = λ n e. cc;
  clocks = λ e. cc;
  delays = λ e. cc;
  starts = λ e. cc;
  says = λ e. cc;
  few = λ e. cc;
}

no_node_rule : IsNoRule NoSuchNode
no_node_rule = record {
  keys = λ e. cc;
  names = λ e. cc;
  forms = λ e. cc;
  ranges = λ e. cc;
  plan = λ n e. cc;
  clocks = λ e. cc;
  delays = λ e. cc;
  starts = λ e. cc;
  says = λ e. cc;
  few = λ e. cc;
}

-- why a document is refused is why its text is refused
pub refused_text : (bytes : List ℕ) (t : Members) (why : Refusal) → IsDocument bytes t → (why ≡ OutOfMemory) ⊎ (first_broken t ≡ Some why) → IsRefused bytes why
refused_text bytes t NotToml text h = elim h [ inl e ↦ cc | inr e ↦ absurd (never NotToml no_toml_rule t e) ]
refused_text bytes t NoSuchNode text h = elim h [ inl e ↦ cc | inr e ↦ never NoSuchNode no_node_rule t e ]
refused_text bytes t OutOfMemory text h = tt
refused_text bytes t MissingKey text h = elim h [ inl e ↦ cc | inr e ↦ record { document = t; text = text; broken = e } ]
refused_text bytes t UnknownKey text h = elim h [ inl e ↦ cc | inr e ↦ record { document = t; text = text; broken = e } ]
refused_text bytes t WrongType text h = elim h [ inl e ↦ cc | inr e ↦ record { document = t; text = text; broken = e } ]
refused_text bytes t OutOfRange text h = elim h [ inl e ↦ cc | inr e ↦ record { document = t; text = text; broken = e } ]
refused_text bytes t (PlanFails n) text h = elim h [ inl e ↦ cc | inr e ↦ record { document = t; text = text; broken = e } ]
refused_text bytes t ClockBounds text h = elim h [ inl e ↦ cc | inr e ↦ record { document = t; text = text; broken = e } ]
refused_text bytes t DelayBounds text h = elim h [ inl e ↦ cc | inr e ↦ record { document = t; text = text; broken = e } ]
refused_text bytes t StartApart text h = elim h [ inl e ↦ cc | inr e ↦ record { document = t; text = text; broken = e } ]
refused_text bytes t SayOfGood text h = elim h [ inl e ↦ cc | inr e ↦ record { document = t; text = text; broken = e } ]
refused_text bytes t TooMany text h = elim h [ inl e ↦ cc | inr e ↦ record { document = t; text = text; broken = e } ]

pub refused_result : {X : Type 0} (bytes : List ℕ) (t : Members) (r : Result X Refusal) → IsDocument bytes t
    → IfErr r (λ why. (why ≡ OutOfMemory) ⊎ (first_broken t ≡ Some why)) → IfErr r (IsRefused bytes)
refused_result bytes t (Ok x) text h = h
refused_result bytes t (Err why) text h = refused_text bytes t why text h
