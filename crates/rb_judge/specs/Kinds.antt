-- What is kept of the nodes of one kind as sources.
use Rattle.std.specs.{Prelude.{ℕ, ◌≡◌, ◌<◌, ◌&&◌, ◌||◌, not, Bool, List, [], ◌∷◌, slice_index, slice_index_or}, List.list_any}
use Rattle.rb_base.specs.{Nodes.{Side, other, has, set_of}, declared.values.See.See, declared.values.See.TheVariants.Nothing}
use Rattle.rb_rules.specs.Judging.{ClassSets, JudgedStage, good_now, trusted_now, was_taken, was_unlike}
use Rattle.rb_judge.specs.{Sights.ShowsSource, declared.classes.Classes.Classes, declared.seen.KeptSight.KeptSight, declared.seen.KeptSight.TheVariants.Unlike, declared.seen.SourceSights.SourceSights, declared.sources.Sources.Sources, declared.stage_sets.StageSets.StageSets}

-- the sets and sights that are kept of the nodes of one kind
pub record KeptKind : Type 0 where
  pub good : ℕ  -- the nodes that are good in the newest stage
  pub trusted : ℕ  -- the nodes that are trusted in the newest stage
  pub unlike : ℕ  -- the nodes that were seen unlike in an earlier stage of the frame
  pub taken : ℕ  -- the nodes from which something was accepted in an earlier stage of the frame
  pub unlike_now : ℕ  -- the nodes that were seen unlike in the newest stage
  pub heard_now : ℕ  -- the nodes of which something was seen in the newest stage
  pub by : List ℕ  -- by source, the receivers that saw something of it in the newest stage
  pub kept : List KeptSight  -- by source, what is kept of the sights of it in the newest stage

-- what the code keeps, as these
abbrev pub kept_kind : {K : Type 0} → Sources K → KeptKind
kept_kind s = record {
  good = s.good;
  trusted = s.trusted;
  unlike = s.unlike;
  taken = s.taken;
  unlike_now = s.unlike_now;
  heard_now = s.heard_now;
  by = s.by;
  kept = s.kept;
}

-- what is kept of source j in the newest stage
abbrev pub seen_of : ℕ → KeptKind → SourceSights
seen_of j s = record {
  by = slice_index s.by j;
  heard = has s.heard_now j;
  unlike = has s.unlike_now j;
  kept = slice_index_or s.kept j Unlike;
}

-- the sets that do not change within a stage stay
pub record KeepsSets (before after : KeptKind) : Type 0 where
  pub good : after.good ≡ before.good
  pub trusted : after.trusted ≡ before.trusted
  pub unlike : after.unlike ≡ before.unlike
  pub taken : after.taken ≡ before.taken

-- what was seen unlike so far, and what was taken
abbrev pub unlike_so_far : KeptKind → ℕ → Bool
unlike_so_far s j = has s.unlike j || has s.unlike_now j

abbrev pub taken_so_far : KeptKind → ℕ → Bool
taken_so_far s j = has s.taken j || has s.heard_now j

-- a new stage with these sets, in which something was accepted from these nodes, and these were
-- seen unlike
pub record Begins (before after : KeptKind) (good trusted taken unlike : ℕ) : Type 0 where
  pub good_is : after.good ≡ good
  pub trusted_is : after.trusted ≡ trusted
  pub unlike_is : (j : ℕ) → j < 16 → has after.unlike j ≡ unlike_so_far before j
  pub taken_is : (j : ℕ) → j < 16 → has after.taken j ≡ taken_so_far before j
  pub heard_is : after.heard_now ≡ taken
  pub unlike_now_is : after.unlike_now ≡ unlike

-- the sets of the four classes
abbrev pub sets_of : {K : Type 0} → Classes K → ClassSets
sets_of c = record { good = c.good; benign = c.benign; symmetric = c.symmetric; asymmetric = c.asymmetric }

abbrev pub is_suspected : KeptKind → ℕ → Bool
is_suspected s j = has s.trusted j && not (has s.good j)

-- the classes by what is kept
abbrev pub classes_kept : KeptKind → ClassSets
classes_kept s = record {
  good = set_of (λ j. has s.trusted j && has s.good j);
  benign = set_of (λ j. is_suspected s j && not (taken_so_far s j));
  symmetric = set_of (λ j. (is_suspected s j && taken_so_far s j) && not (unlike_so_far s j));
  asymmetric = set_of (λ j. is_suspected s j && unlike_so_far s j);
}

-- how far apart the times of one message may be in the newest stage, and what receiver i saw of
-- source j of this kind in it
abbrev pub eps_now : List JudgedStage → ℕ
eps_now [] = 0
eps_now (s ∷ earlier) = s.eps

abbrev pub sight_now : Side → ℕ → List JudgedStage → ℕ → See
sight_now kind j [] i = Nothing
sight_now kind j (s ∷ earlier) i = s.sight (other kind) i j

-- the stages before the newest
abbrev pub before_now : List JudgedStage → List JudgedStage
before_now [] = []
before_now (s ∷ earlier) = earlier

-- what is kept of the nodes of this kind is what the stages show: the newest stage's sets and
-- sights, and of each node whether it was seen unlike in an earlier stage, and whether anything was
-- accepted from it
pub record ShowsKind (kind : Side) (stages : List JudgedStage) (s : KeptKind) : Type 0 where
  pub good : s.good ≡ good_now kind stages
  pub trusted : s.trusted ≡ trusted_now kind stages
  pub sights : (j : ℕ) → j < 16 → ShowsSource (eps_now stages) (good_now (other kind) stages) (sight_now kind j stages) (seen_of j s)
  pub unlike : (j : ℕ) → j < 16 → has s.unlike j ≡ list_any (was_unlike kind j) (before_now stages)
  pub taken : (j : ℕ) → j < 16 → has s.taken j ≡ list_any (was_taken kind j) (before_now stages)

-- what is kept of the nodes of this kind is what their classes depend on: the newest stage's sets,
-- and of each node whether it was seen unlike in a stage, and whether anything was accepted from it
pub record KnowsKind (kind : Side) (stages : List JudgedStage) (s : KeptKind) : Type 0 where
  pub good : s.good ≡ good_now kind stages
  pub trusted : s.trusted ≡ trusted_now kind stages
  pub unlike : (j : ℕ) → j < 16 → unlike_so_far s j ≡ list_any (was_unlike kind j) stages
  pub taken : (j : ℕ) → j < 16 → taken_so_far s j ≡ list_any (was_taken kind j) stages

-- `sets` are the sets of the nodes of a kind in stage s: the good ones, the trusted ones, those
-- from which something was accepted, and those that were seen unlike
pub record AreSetsOf {K : Type 0} (kind : Side) (sets : StageSets K) (s : JudgedStage) : Type 0 where
  pub good : sets.good ≡ s.good kind
  pub trusted : sets.trusted ≡ s.trusted kind
  pub taken : (j : ℕ) → j < 16 → has sets.taken j ≡ was_taken kind j s
  pub unlike : (j : ℕ) → j < 16 → has sets.unlike j ≡ was_unlike kind j s
