-- What is kept of the nodes of one kind as sources shows the stages, from call to call.
use Rattle.std.proofs.{Common.{◌≡◌, ◌≢◌, ℕ, ◌<◌, ◌^◌, Bool, true, false, not, ◌&&◌, ◌||◌, ◌==◌, if◌then◌else◌, List, [], ◌∷◌, inl, inr, refl, sym, ◌∙◌, ap, subst, slice_index}, lemmas.Bool.{cases_lt, eqb-true}}
use Rattle.std.specs.List.{list_any}
use Rattle.rb_base.specs.{Nodes.{Side, other, has, set_of}, Nodes.Side.{Biu, Rmu}, declared.node.NodeName.NodeName, declared.values.See.See, declared.values.See.TheVariants.Nothing}
use Rattle.rb_base.proofs.{Plain.{and-false, and-true, eq_self}, Sets.{has-is, has_above, has_none, same_set_of}}
use Rattle.rb_rules.specs.{Judging.{JudgedStage, are_alike, classes_of, good_now, is_benign, is_something, is_suspect, with_newest_sight, stage_begun, trusted_now, was_taken, was_unlike, with_sight}, Links.{name_of, same_node}}
use Rattle.rb_judge.specs.{declared.seen.SourceSights.SourceSights, declared.stage_sets.StageSets.StageSets, Kinds.{AreSetsOf, Begins, KeepsSets, KeptKind, KnowsKind, ShowsKind, classes_kept, eps_now, is_suspected, seen_of, sight_now, taken_so_far, unlike_so_far}, Sights.{ShowsSource, some_node, some_unlike}}
use Rattle.rb_judge.proofs.{Sights.same_sights, SomeNode.{not_twice, or_order, some_none, some_same}}

-- ---- masks

-- node i joins, or leaves
pub with_it : (b s : Bool) → (s || b) ≡ (if b then true else s)
with_it true true = refl
with_it true false = refl
with_it false true = refl
with_it false false = refl

pub without_it : (b s : Bool) → (s && not b) ≡ (if b then false else s)
without_it true true = refl
without_it true false = refl
without_it false true = refl
without_it false false = refl

-- a bitwise `op` of two sets is the set of the nodes that pass `op` of both tests
pub set_by : (op : Bool → Bool → Bool) (a b r : ℕ) (p q : ℕ → Bool) → a ≡ set_of p → b ≡ set_of q → r ≡ set_of (λ i. op (has a i) (has b i))
    → r ≡ set_of (λ i. op (p i) (q i))
set_by op a b r p q a_is b_is r_is =
    r_is ∙ same_set_of _ _ (λ i h. ap (λ u. op u (has b i)) (has-is a i p a_is h) ∙ ap (op (p i)) (has-is b i q b_is h))

-- ---- a stage begins

-- nobody saw anything
pub source_none : (eps good : ℕ) (seen : SourceSights) → seen.by ≡ 0 → seen.heard ≡ false → seen.unlike ≡ false → ShowsSource eps good (λ i. Nothing) seen
source_none eps good seen by_none none_heard alike = record {
  by = λ i h. ap (λ s. has s i) by_none ∙ has_none i;
  within = λ i h now. absurd (let e : has seen.by i ≡ false = ap (λ s. has s i) by_none ∙ has_none i in cc);
  heard = none_heard ∙ sym (some_none (has seen.by) (λ i h. ap (λ s. has s i) by_none ∙ has_none i));
  unlike = alike ∙ sym (no_unlike eps good);
  kept = λ h. absurd (cc);
}
  where
    no_unlike : (eps good : ℕ) → some_unlike eps good (λ i. Nothing) ≡ false
    no_unlike eps good =
        some_none _ (λ a h. ap (λ b. has good a && b) (some_none _ (λ b h. and-false (has good b))) ∙ and-false (has good a))

-- zeros show a kind before the first stage of a frame
pub kind_none : (kind : Side) (s : KeptKind) → s.good ≡ 0 → s.trusted ≡ 0 → s.unlike ≡ 0 → s.taken ≡ 0 → s.unlike_now ≡ 0 → s.heard_now ≡ 0
    → ((j : ℕ) → (seen_of j s).by ≡ 0) → ShowsKind kind [] s
kind_none kind s no_good no_trusted no_unlike no_taken no_unlike_now no_heard no_by = record {
  good = no_good;
  trusted = no_trusted;
  sights = λ j h. source_none 0 0 (seen_of j s) (no_by j) (ap (λ m. has m j) no_heard ∙ has_none j) (ap (λ m. has m j) no_unlike_now ∙ has_none j);
  unlike = λ j h. ap (λ m. has m j) no_unlike ∙ has_none j;
  taken = λ j h. ap (λ m. has m j) no_taken ∙ has_none j;
}

was_unlike_is : (kind : Side) (j : ℕ) (x : JudgedStage)
    → some_unlike x.eps (x.good (other kind)) (λ i. x.sight (other kind) i j) ≡ was_unlike kind j x
unfolding some_node
was_unlike_is kind j x = refl

was_taken_is : (kind : Side) (j : ℕ) (x : JudgedStage)
    → some_node (λ i. has (x.good (other kind)) i && is_something (x.sight (other kind) i j)) ≡ was_taken kind j x
unfolding some_node
was_taken_is kind j x = refl

-- a source was heard if and only if some good receiver saw something of it
pub heard_is : (eps good : ℕ) (sight : ℕ → See) (seen : SourceSights) → ShowsSource eps good sight seen
    → seen.heard ≡ some_node (λ i. has good i && is_something (sight i))
heard_is eps good sight seen is =
    let at : (g b s : Bool) → b ≡ s → (b ≡ true → g ≡ true) → b ≡ (g && s) =
    λ g b s e. elim s as (λ s. b ≡ s → (b ≡ true → g ≡ true) → b ≡ (g && s)) [
      | true ↦ λ e w. e ∙ sym (ap (λ g. g && true) (w e))
      | false ↦ λ e w. e ∙ sym (and-false g)
    ] e in
    is.heard ∙ some_same _ _ (λ i h. at (has good i) (has seen.by i) (is_something (sight i)) (is.by i h) (is.within i h))

pub unlike_is_so_far : (kind : Side) (stages : List JudgedStage) (s : KeptKind) (j : ℕ) → ShowsKind kind stages s → j < 16
    → unlike_so_far s j ≡ list_any (was_unlike kind j) stages
unlike_is_so_far kind [] s j is h =
    let now : has s.unlike_now j ≡ false = (is.sights j h).unlike ∙ some_none _ (λ a _. ap (λ b. b && some_node (λ b. has 0 b && not (are_alike 0 Nothing Nothing))) (has_none a)) in
    ap (λ b. b || has s.unlike_now j) (is.unlike j h) ∙ now
unlike_is_so_far kind (x ∷ earlier) s j is h =
    ap (λ b. b || has s.unlike_now j) (is.unlike j h)
    ∙ ap (λ b. list_any (was_unlike kind j) earlier || b) ((is.sights j h).unlike ∙ was_unlike_is kind j x)
    ∙ or_order (list_any (was_unlike kind j) earlier) (was_unlike kind j x)

pub taken_is_so_far : (kind : Side) (stages : List JudgedStage) (s : KeptKind) (j : ℕ) → ShowsKind kind stages s → j < 16
    → taken_so_far s j ≡ list_any (was_taken kind j) stages
taken_is_so_far kind [] s j is h =
    let now : has s.heard_now j ≡ false = heard_is _ _ _ _ (is.sights j h) ∙ some_none _ (λ i _. ap (λ b. b && false) (has_none i)) in
    ap (λ b. b || has s.heard_now j) (is.taken j h) ∙ now
taken_is_so_far kind (x ∷ earlier) s j is h =
    ap (λ b. b || has s.heard_now j) (is.taken j h)
    ∙ ap (λ b. list_any (was_taken kind j) earlier || b) (heard_is _ _ _ _ (is.sights j h) ∙ was_taken_is kind j x)
    ∙ or_order (list_any (was_taken kind j) earlier) (was_taken kind j x)

-- what is kept of the sights is enough for the classes
pub kind_knows : (kind : Side) (stages : List JudgedStage) (s : KeptKind) → ShowsKind kind stages s → KnowsKind kind stages s
kind_knows kind stages s is = record {
  good = is.good;
  trusted = is.trusted;
  unlike = λ j h. unlike_is_so_far kind stages s j is h;
  taken = λ j h. taken_is_so_far kind stages s j is h;
}

pub kind_begun : (kind : Side) (stages : List JudgedStage) (before after : KeptKind) (good trusted : Side → ℕ) (eps : ℕ)
    → Begins before after (good kind) (trusted kind) 0 0 → ((j : ℕ) → slice_index after.by j ≡ 0)
    → KnowsKind kind stages before → ShowsKind kind (stage_begun good trusted eps ∷ stages) after
kind_begun kind stages before after good trusted eps begins by_none is = record {
  good = begins.good_is;
  trusted = begins.trusted_is;
  sights = λ j h. source_none eps (good (other kind)) (seen_of j after) (by_none j) (ap (λ m. has m j) begins.heard_is ∙ has_none j) (ap (λ m. has m j) begins.unlike_now_is ∙ has_none j);
  unlike = λ j h. begins.unlike_is j h ∙ is.unlike j h;
  taken = λ j h. begins.taken_is j h ∙ is.taken j h;
}

-- a kind that knows the earlier stages knows one more that is told whole
pub kind_passed : {K : Type 0} (kind : Side) (stages : List JudgedStage) (before after : KeptKind) (sets : StageSets K) (s : JudgedStage)
    → Begins before after sets.good sets.trusted sets.taken sets.unlike → AreSetsOf kind sets s
    → KnowsKind kind stages before → KnowsKind kind (s ∷ stages) after
kind_passed kind stages before after sets s begins are is = record {
  good = begins.good_is ∙ are.good;
  trusted = begins.trusted_is ∙ are.trusted;
  unlike = λ j h.
      ap (λ b. b || has after.unlike_now j) (begins.unlike_is j h ∙ is.unlike j h)
      ∙ ap (λ b. list_any (was_unlike kind j) stages || b) (ap (λ m. has m j) begins.unlike_now_is ∙ are.unlike j h)
      ∙ or_order (list_any (was_unlike kind j) stages) (was_unlike kind j s);
  taken = λ j h.
      ap (λ b. b || has after.heard_now j) (begins.taken_is j h ∙ is.taken j h)
      ∙ ap (λ b. list_any (was_taken kind j) stages || b) (ap (λ m. has m j) begins.heard_is ∙ are.taken j h)
      ∙ or_order (list_any (was_taken kind j) stages) (was_taken kind j s);
}

-- ---- a sight is noted

same_kind : (kind : Side) (i r : ℕ) → same_node (name_of kind i) (name_of kind r) ≡ (i == r)
same_kind Biu i r = refl
same_kind Rmu i r = refl

other_kind : (kind : Side) (i r : ℕ) → same_node (name_of (other kind) i) (name_of kind r) ≡ false
other_kind Biu i r = refl
other_kind Rmu i r = refl

-- the receiver's sight of a source of the other kind is noted
pub kind_noted : (kind : Side) (r from : ℕ) (see : See) (stages : List JudgedStage) (before after : KeptKind)
    → has (good_now (other kind) stages) r ≡ true
    → ((sight : ℕ → See) → ShowsSource (eps_now stages) (good_now (other kind) stages) sight (seen_of from before)
    → ShowsSource (eps_now stages) (good_now (other kind) stages) (λ i. if i == r then see else sight i) (seen_of from after))
    → ((j : ℕ) → j < 16 → j ≢ from → seen_of j after ≡ seen_of j before) → KeepsSets before after
    → ShowsKind kind stages before → ShowsKind kind (with_newest_sight (name_of (other kind) r) from see stages) after
kind_noted kind r from see [] before after good here others sets is = absurd (let e = has_none r in cc)
kind_noted kind r from see (x ∷ earlier) before after good here others sets is = record {
  good = sets.good ∙ is.good;
  trusted = sets.trusted ∙ is.trusted;
  sights = λ j h.
      let go : (b : Bool) → (j == from) ≡ b → ShowsSource x.eps (x.good (other kind)) (sight_now kind j (with_sight (name_of (other kind) r) from see x ∷ earlier)) (seen_of j after) =
      λ b. elim b as (λ b. (j == from) ≡ b → ShowsSource x.eps (x.good (other kind)) (sight_now kind j (with_sight (name_of (other kind) r) from see x ∷ earlier)) (seen_of j after)) [
        | true ↦ λ e.
            let at : j ≡ from = eqb-true j from e in
            let P : ℕ → Type 0 = λ k. ShowsSource x.eps (x.good (other kind)) (λ i. if i == r then see else x.sight (other kind) i k) (seen_of k after) in
            same_sights _ _ _ _ (seen_of j after)
            (λ i.
            ap (λ b. if b && (j == from) then see else x.sight (other kind) i j) (same_kind (other kind) i r)
            ∙ ap (λ b. if (i == r) && b then see else x.sight (other kind) i j) e
            ∙ ap (λ b. if b then see else x.sight (other kind) i j) (and-true (i == r)))
            (subst P (sym at) (here (λ i. x.sight (other kind) i from) (subst (λ (k : ℕ). ShowsSource x.eps (x.good (other kind)) (λ i. x.sight (other kind) i k) (seen_of k before)) at (is.sights j h))))
        | false ↦ λ e.
            let apart : j ≢ from = λ same. let yes : (j == from) ≡ true = ap (λ k. k == from) same ∙ eq_self from in cc in
            let Q : SourceSights → Type 0 = λ seen. ShowsSource x.eps (x.good (other kind)) (λ i. x.sight (other kind) i j) seen in
            same_sights _ _ (λ i. x.sight (other kind) i j) _ (seen_of j after)
            (λ i.
            ap (λ b. if same_node (name_of (other kind) i) (name_of (other kind) r) && b then see else x.sight (other kind) i j) e
            ∙ ap (λ b. if b then see else x.sight (other kind) i j) (and-false (same_node (name_of (other kind) i) (name_of (other kind) r))))
            (subst Q (sym (others j h apart)) (is.sights j h))
      ] in
      go (j == from) refl;
  unlike = λ j h. ap (λ m. has m j) sets.unlike ∙ is.unlike j h;
  taken = λ j h. ap (λ m. has m j) sets.taken ∙ is.taken j h;
}

pub kind_notes : (kind : Side) (r from eps good : ℕ) (see : See) (stages : List JudgedStage) (before after : KeptKind)
    → eps ≡ eps_now stages → good ≡ good_now (other kind) stages → has good r ≡ true
    → ((sight : ℕ → See) → ShowsSource eps good sight (seen_of from before) → ShowsSource eps good (λ i. if i == r then see else sight i) (seen_of from after))
    → ((j : ℕ) → j < 16 → j ≢ from → seen_of j after ≡ seen_of j before) → KeepsSets before after
    → ShowsKind kind stages before → ShowsKind kind (with_newest_sight (name_of (other kind) r) from see stages) after
kind_notes kind r from eps good see stages before after eps_is good_is is_good here others sets is =
    let Step : ℕ → ℕ → Type 0 = λ e g. (sight : ℕ → See) → ShowsSource e g sight (seen_of from before) → ShowsSource e g (λ i. if i == r then see else sight i) (seen_of from after) in
    let step : Step (eps_now stages) (good_now (other kind) stages) =
    subst (λ (g : ℕ). Step (eps_now stages) g) good_is (subst (λ (e : ℕ). Step e good) eps_is here) in
    kind_noted kind r from see stages before after (ap (λ g. has g r) (sym good_is) ∙ is_good) step others sets is

pub eps_stays : (receiver : NodeName) (from : ℕ) (see : See) (stages : List JudgedStage) → eps_now stages ≡ eps_now (with_newest_sight receiver from see stages)
eps_stays receiver from see [] = refl
eps_stays receiver from see (x ∷ earlier) = refl

-- a node in a mask of 16 bits has a number below 16
pub member_below : (s i : ℕ) → s < 2 ^ 16 → has s i ≡ true → i < 16
member_below s i fits member =
    elim (cases_lt i 16) [ inl below ↦ below | inr above ↦ absurd (let e = has_above s i fits above in cc) ]

-- the receiver's sight of a source of its own kind is not noted
pub kind_stays : (kind : Side) (r from : ℕ) (see : See) (stages : List JudgedStage) (s : KeptKind)
    → ShowsKind kind stages s → ShowsKind kind (with_newest_sight (name_of kind r) from see stages) s
kind_stays kind r from see [] s is = is
kind_stays kind r from see (x ∷ earlier) s is = record {
  good = is.good;
  trusted = is.trusted;
  sights = λ j h.
      same_sights _ _ _ _ (seen_of j s) (λ i. ap (λ b. if b && (j == from) then see else x.sight (other kind) i j) (other_kind kind i r)) (is.sights j h);
  unlike = is.unlike;
  taken = is.taken;
}

-- ---- the classes

pub classes_are : (kind : Side) (stages : List JudgedStage) (s : KeptKind) → KnowsKind kind stages s → classes_kept s ≡ classes_of kind stages
unfolding classes_of
classes_are kind stages s is =
    let suspect : (j : ℕ) → is_suspected s j ≡ is_suspect kind stages j =
    λ j. ap (λ m. has m j && not (has s.good j)) is.trusted ∙ ap (λ m. has (trusted_now kind stages) j && not (has m j)) is.good in
    let good : set_of (λ j. has s.trusted j && has s.good j) ≡ (classes_of kind stages).good =
    same_set_of _ _ (λ j h. ap (λ m. has m j && has s.good j) is.trusted ∙ ap (λ m. has (trusted_now kind stages) j && has m j) is.good) in
    let benign : set_of (λ j. is_suspected s j && not (taken_so_far s j)) ≡ (classes_of kind stages).benign =
    same_set_of _ _ (λ j h. ap (λ b. b && not (taken_so_far s j)) (suspect j) ∙ ap (λ b. is_suspect kind stages j && not b) (is.taken j h)) in
    let symmetric : set_of (λ j. (is_suspected s j && taken_so_far s j) && not (unlike_so_far s j)) ≡ (classes_of kind stages).symmetric =
    same_set_of _ _ (λ j h.
    ap (λ b. (b && taken_so_far s j) && not (unlike_so_far s j)) (suspect j)
    ∙ ap (λ b. (is_suspect kind stages j && b) && not (unlike_so_far s j)) (is.taken j h ∙ not_twice (list_any (was_taken kind j) stages))
    ∙ ap (λ b. (is_suspect kind stages j && not (is_benign kind stages j)) && not b) (is.unlike j h)) in
    let asymmetric : set_of (λ j. is_suspected s j && unlike_so_far s j) ≡ (classes_of kind stages).asymmetric =
    same_set_of _ _ (λ j h. ap (λ b. b && unlike_so_far s j) (suspect j) ∙ ap (λ b. is_suspect kind stages j && b) (is.unlike j h)) in
    rw (good, benign, symmetric, asymmetric) refl
