-- A run of which some turns have been given and counted.
use Rattle.std.proofs.Common.{◌≡◌, ℕ, ◌+◌, false, true, List, [], ◌∷◌, ◌++◌, length, sym, ap, ◌∙◌, length-append}
use Rattle.rb_rules.specs.Goodness.{Scenario}
use Rattle.rb_world_book.specs.{Records.record_of, declared.turn.Turn.Turn}
use Rattle.rb_run.specs.{declared.totals.Totals.Totals, Runs.TalliesAll, Seen.SeenDrive, Tallies.{counted, totals_of}}
use Rattle.rb_run.proofs.{Histories.IsOnItsWay, Numbers.totals-more, UnderWay.{are-all, are-given}}
use Rattle.rb_world.specs.Worlds.{KeptWorld}

-- `passed` turns were given, these are their numbers, and the run goes on
pub record IsCounted {D : Type 0} (gives : D → Turn → Turn → Type 0) (keeps : D → D → Turn → Type 0) (sc : Scenario) (drive : SeenDrive)
    (before now : D) (k : KeptWorld) (totals : Totals) (passed : ℕ) : Type 0 where
  pub turns : List Turn
  pub way : IsOnItsWay gives keeps sc drive before now k turns false
  pub many : length turns ≡ passed
  pub are : totals ≡ totals_of turns

counted-next : (turns : List Turn) (before after : Totals) (t : Turn) → before ≡ totals_of turns → after ≡ counted before (record_of t) → after ≡ totals_of (turns ++ t ∷ [])
counted-next turns before after t are now = now ∙ ap (λ x. counted x (record_of t)) are ∙ sym (totals-more turns t)

module _ {D : Type 0} {gives : D → Turn → Turn → Type 0} {keeps : D → D → Turn → Type 0} {sc : Scenario} {first drive : SeenDrive}
    {before d e : D} {k next : KeptWorld} {totals after : Totals} {passed : ℕ} (t : Turn) (is : IsCounted gives keeps sc first before d k totals passed) where
  -- one more turn is counted, and the run goes on
  pub one-counted : IsOnItsWay gives keeps sc drive before e next (is.turns ++ t ∷ []) false → after ≡ counted totals (record_of t)
      → IsCounted gives keeps sc drive before e next after (passed + 1)
  one-counted way now = record {
    turns = is.turns ++ t ∷ [];
    way = way;
    many = length-append is.turns (t ∷ []) ∙ ap (λ n. n + 1) is.many;
    are = counted-next is.turns totals after t is.are now;
  }

  pub all-counted : IsOnItsWay gives keeps sc drive before e next (is.turns ++ t ∷ []) true → after ≡ counted totals (record_of t)
      → TalliesAll sc drive after
  all-counted way now = record {
    turns = is.turns ++ t ∷ [];
    given = are-given sc drive next (is.turns ++ t ∷ []) true way.way;
    all = are-all sc drive next (is.turns ++ t ∷ []) way.way;
    are = counted-next is.turns totals after t is.are now;
  }
