-- What an observer is told when all nodes are swept.
use Rattle.std.proofs.{Common.{◌≡◌, ℕ, ◌+◌, ◌<◌, ◌≤◌, ◌==◌, ◌&&◌, nat_lt, Bool, true, false, List, [], ◌++◌, refl, sym, ap, ◌∙◌, subst, arith, inl, inr, Option, Some, None, slice_get, if◌then◌else◌}, lemmas.Bool.{cases_lt, le-ltb, lt-ltb}, lemmas.Bool.Decides.nat_tests, lemmas.List.append-nil}
use Rattle.rb_base.specs.{Nodes.Side, Nodes.Side.{Biu, Rmu}, declared.node.NodeName.NodeName}
use Rattle.rb_base.proofs.Plain.{and-false}
use Rattle.rb_rules.specs.{Book.{Each, of_kind}, Goodness.Scenario, Lawful.{IsNodeOf, kind_of}, Links.{name_of, same_node}, Slots.{count_of, same_side}, WorldStep.Site}
use Rattle.rb_queue.specs.Waiting.{Held}
use Rattle.rb_world.specs.{Sites.{KeptSite, number_of as number_at}, Observing.{WasTold, left_at, left_below, left_for}, Trailing.swept_first}
use Rattle.rb_laws_sweeps.specs.{AheadOf.until_tick, Told.{Told, heard}}
use Rattle.rb_laws_sweeps.proofs.{Calls.at-any-time, Hearing.hears-none, Telling.same-named}
use Rattle.rb_world_traffic.specs.Arriving.{number_of}
use Rattle.rb_world.proofs.{CaughtUp.{CatchMay, first-other}, ToldOn.same-name, Going.name-is}
use Rattle.rb_base.specs.declared.node.NodeName.TheVariants as node

-- One node.

left-own : (sc : Scenario) (until : Side → ℕ → ℕ) (sites : Each Site) (me : Side) (n : ℕ) (s : Site) → slice_get (of_kind me sites) n ≡ Some s
    → left_for sc until sites (name_of me n) ≡ heard sc me n (until me n) s
left-own sc until sites Biu n s there = ap (left_at sc until Biu n) there
left-own sc until sites Rmu n s there = ap (left_at sc until Rmu n) there

pub catch-told : (S : Type 0) (step : S → Told → S → Type 0) (old new : S) (sc : Scenario) (from : NodeName) (time : ℕ) (me : Side) (n u : ℕ) (kept : List KeptSite) (lanes : Each Held) (sites : Each Site) (site : KeptSite)
    (at name : NodeName) → at ≡ name_of me (number_at site) → (h : CatchMay sc from time me n u kept lanes sites site)
    → WasTold S step old (if same_node at name then heard sc me (number_at site) u h.next.s else []) new
    → WasTold S step old (if same_node (name_of me n) name then left_for sc (until_tick (kind_of from) (number_of from) time) sites name else []) new
catch-told S step old new sc from time me n u kept lanes sites site at name named h was =
    subst (λ l. WasTold S step old l new) (by (same_node (name_of me n) name) refl)
    (subst (λ t. WasTold S step old (if same_node (name_of me n) name then heard sc me n t h.next.s else []) new) h.until_is
    (subst (λ i. WasTold S step old (if same_node (name_of me n) name then heard sc me i u h.next.s else []) new) h.number
    (subst (λ x. WasTold S step old (if same_node x name then heard sc me (number_at site) u h.next.s else []) new) (named ∙ ap (name_of me) h.number) was)))
  where
    until : Side → ℕ → ℕ
    until = until_tick (kind_of from) (number_of from) time

    by : (b : Bool) → same_node (name_of me n) name ≡ b → (if b then heard sc me n (until me n) h.next.s else []) ≡ (if b then left_for sc until sites name else [])
    by false e = refl
    by true e = sym (left-own sc until sites me n h.next.s h.next.there) ∙ ap (left_for sc until sites) (sym (same-name me n name e))

-- What is left behind of the first nodes of a kind.

pub below-none : (sc : Scenario) (until : Side → ℕ → ℕ) (me : Side) (sites : Each Site) (name : NodeName) → left_below sc until me 0 sites name ≡ []
below-none sc until me sites name =
    ap (λ b. if same_side (kind_of name) me && b then left_for sc until sites name else []) (le-ltb (number_of name) 0 (omega arith))
    ∙ ap (λ b. if b then left_for sc until sites name else []) (and-false (same_side (kind_of name) me))

one-more : (k : Bool) (x i : ℕ) (l : List Told) → (if k && nat_lt x i then l else []) ++ (if k && (x == i) then l else []) ≡ (if k && nat_lt x (i + 1) then l else [])
one-more false x i l = refl
one-more true x i l = elim (cases_lt x i) [
  | inl lt ↦ ap (λ b. (if b then l else []) ++ (if x == i then l else [])) (lt-ltb x i lt)
      ∙ ap (λ b. l ++ (if b then l else [])) (apart x i lt) ∙ append-nil l ∙ ap (λ b. if b then l else []) (sym (lt-ltb x (i + 1) (omega (arith, lt))))
  | inr ge ↦ ap (λ b. (if b then l else []) ++ (if x == i then l else [])) (le-ltb x i ge) ∙ ap (λ b. if b then l else []) (same x i ge)
]
  where
    apart : (x i : ℕ) → x < i → (x == i) ≡ false
    apart x i lt = grind (arith, nat_tests)

    same : (x i : ℕ) → i ≤ x → (x == i) ≡ nat_lt x (i + 1)
    same x i ge = grind (arith, nat_tests)

pub below-next : (sc : Scenario) (until : Side → ℕ → ℕ) (me : Side) (i : ℕ) (sites : Each Site) (name : NodeName)
    → left_below sc until me i sites name ++ (if same_node (name_of me i) name then left_for sc until sites name else []) ≡ left_below sc until me (i + 1) sites name
below-next sc until me i sites name =
    ap (λ b. left_below sc until me i sites name ++ (if b then left_for sc until sites name else []))
    (ap (same_node (name_of me i)) (sym (name-is name)) ∙ same-named me (kind_of name) i (number_of name))
    ∙ one-more (same_side (kind_of name) me) (number_of name) i (left_for sc until sites name)

-- All of them.

pub told-all : (S : Type 0) (step : S → Told → S → Type 0) (a b c : S) (sc : Scenario) (until : Side → ℕ → ℕ) (sites : Each Site) (name : NodeName) → IsNodeOf sc.sizes name
    → WasTold S step a (left_below sc until Biu (count_of Biu sc.sizes) sites name) b
    → WasTold S step b (left_below sc until Rmu (count_of Rmu sc.sizes) (swept_first sc until Biu (count_of Biu sc.sizes) sites) name) c
    → WasTold S step a (left_for sc until sites name) c
told-all S step a b c sc until sites (node.Biu i) of_bus one two =
    let name : NodeName = node.Biu i in
    let first : WasTold S step a (left_for sc until sites name) b = subst (λ t. WasTold S step a (if t then left_for sc until sites name else []) b) (lt-ltb i (count_of Biu sc.sizes) of_bus) one in
    subst (λ x. WasTold S step a (left_for sc until sites name) x) (sym two) first
told-all S step a b c sc until sites (node.Rmu i) of_bus one two =
    let name : NodeName = node.Rmu i in
    let between : Each Site = swept_first sc until Biu (count_of Biu sc.sizes) sites in
    let second : WasTold S step b (left_for sc until between name) c = subst (λ t. WasTold S step b (if t then left_for sc until between name else []) c) (lt-ltb i (count_of Rmu sc.sizes) of_bus) two in
    subst (λ o. WasTold S step a (left_at sc until Rmu i o) c) (first-other sc until Biu (count_of Biu sc.sizes) i sites) (subst (λ x. WasTold S step x (left_for sc until between name) c) one second)

pub left-none : (sc : Scenario) (sites : Each Site) (name : NodeName) → left_for sc (λ side j. 0) sites name ≡ []
left-none sc sites name = by (slice_get (of_kind (kind_of name) sites) (number_of name))
  where
    by : (o : Option Site) → left_at sc (λ side j. 0) (kind_of name) (number_of name) o ≡ []
    by None = refl
    by (Some s) = hears-none sc (kind_of name) (number_of name) 0 s (at-any-time s.coming)
