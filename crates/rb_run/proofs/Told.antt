-- A run of which some turns have been given and told.
use Rattle.std.proofs.Common.{◌≡◌, ℕ, ◌+◌, Bool, false, true, Option, List, [], ◌∷◌, ◌++◌, length, refl, sym, ap, ◌∙◌, subst, length-append, Result}
use Rattle.std.specs.{Io.KnownBytes.Appends, Option.option_to_list}
use Rattle.rb_rules.specs.{Book.Record, Goodness.Scenario}
use Rattle.rb_world_book.specs.{Records.record_of, declared.turn.Turn.Turn}
use Rattle.rb_outside.specs.Bytes.{AppendsPart}
use Rattle.rb_outside.proofs.Known.{appends_join, appends_none, part_join}
use Rattle.rb_run.specs.{Runs.{WritesAll, WritesNext, WritesPart}, Seen.SeenDrive, Turns.records_in}
use Rattle.rb_run.proofs.{Histories.IsOnItsWay, Texts.records-more, UnderWay.{are-all, are-given}}
use Rattle.rb_world.specs.Worlds.{KeptWorld}

-- `passed` turns were given, what is said of their records was written, and the run goes on
pub record IsTelling {D : Type 0} (gives : D → Turn → Turn → Type 0) (keeps : D → D → Turn → Type 0) (says : List Record → List ℕ) (has_told : List Record → Type 0)
    (sc : Scenario) (drive : SeenDrive) (before now : D) (k : KeptWorld) (held after : Option (List ℕ)) (passed : ℕ) : Type 0 where
  pub turns : List Turn
  pub way : IsOnItsWay gives keeps sc drive before now k turns false
  pub many : length turns ≡ passed
  pub text : Appends held after (says (records_in turns))
  pub has : has_told (records_in turns)

-- before the first turn nothing is told
pub starts : {D : Type 0} {gives : D → Turn → Turn → Type 0} {keeps : D → D → Turn → Type 0} {sc drive before k : _}
    (says : List Record → List ℕ) (has_told : List Record → Type 0) (held : Option (List ℕ))
    → IsOnItsWay gives keeps sc drive before before k [] false → says [] ≡ [] → has_told []
    → IsTelling gives keeps says has_told sc drive before before k held held 0
starts says has_told held way nothing fresh = record {
  turns = [];
  way = way;
  many = refl;
  text = subst (λ text. Appends held held text) (sym nothing) (appends_none held);
  has = fresh;
}

-- a teller that says the same as one before writes for that one too
pub says-the-same : {K R E : Type 0} {says others : Scenario → List Record → List ℕ} {held : K → Option (List ℕ)} {faults : K → ℕ} {before after : K} {result : Result R E} {next : Option Record}
    (sc : Scenario) (records : List Record)
    → others ≡ says → WritesNext (others sc) records next held faults before after result → WritesNext (says sc) records next held faults before after result
says-the-same {K} {R} {E} {says} {others} {held} {faults} {before} {after} {result} {next} sc records same writes =
    subst (λ f. WritesNext (f sc) records next held faults before after result) same writes

text-next : (says : List Record → List ℕ) (turns : List Turn) (t : Turn) (more : List ℕ)
    → says (records_in turns ++ option_to_list (record_of t)) ≡ says (records_in turns) ++ more → says (records_in (turns ++ t ∷ [])) ≡ says (records_in turns) ++ more
text-next says turns t more adds = ap says (records-more turns t) ∙ adds

-- with what turn `t` adds, the text of all turns up to `t` is written
written-next : (says : List Record → List ℕ) (turns : List Turn) (t : Turn) (more : List ℕ) (held mid after : Option (List ℕ))
    → says (records_in turns ++ option_to_list (record_of t)) ≡ says (records_in turns) ++ more → Appends held mid (says (records_in turns)) → Appends mid after more
    → Appends held after (says (records_in (turns ++ t ∷ [])))
written-next says turns t more held mid after adds text now =
    subst (λ text. Appends held after text) (sym (text-next says turns t more adds)) (appends_join held mid after _ _ text now)

module _ {D : Type 0} {gives : D → Turn → Turn → Type 0} {keeps : D → D → Turn → Type 0} {says : List Record → List ℕ} {has_told : List Record → Type 0}
    {sc : Scenario} {first drive : SeenDrive} {before d e : D} {k next : KeptWorld} {held mid_held after : Option (List ℕ)} {passed : ℕ}
    (t : Turn) (is : IsTelling gives keeps says has_told sc first before d k held mid_held passed) (more : List ℕ)
    (adds : says (records_in is.turns ++ option_to_list (record_of t)) ≡ says (records_in is.turns) ++ more) where
  -- one more turn was told, and the run goes on
  pub goes-on-telling : (has_now : List Record → Type 0) → IsOnItsWay gives keeps sc drive before e next (is.turns ++ t ∷ []) false → Appends mid_held after more
      → has_now (records_in is.turns ++ option_to_list (record_of t))
      → IsTelling gives keeps says has_now sc drive before e next held after (passed + 1)
  goes-on-telling has_now way now has = record {
    turns = is.turns ++ t ∷ [];
    way = way;
    many = length-append is.turns (t ∷ []) ∙ ap (λ n. n + 1) is.many;
    text = written-next says is.turns t more held mid_held after adds is.text now;
    has = subst has_now (sym (records-more is.turns t)) has;
  }

  pub all-told : IsOnItsWay gives keeps sc drive before e next (is.turns ++ t ∷ []) true → Appends mid_held after more → WritesAll says sc drive held after
  all-told way now = record {
    turns = is.turns ++ t ∷ [];
    given = are-given sc drive next (is.turns ++ t ∷ []) true way.way;
    all = are-all sc drive next (is.turns ++ t ∷ []) way.way;
    text = written-next says is.turns t more held mid_held after adds is.text now;
  }

  pub part-told : {over : Bool} → IsOnItsWay gives keeps sc drive before e next (is.turns ++ t ∷ []) over → AppendsPart mid_held after more
      → WritesPart says sc drive held after
  part-told {over} way now = record {
    turns = is.turns ++ t ∷ [];
    given = are-given sc drive next (is.turns ++ t ∷ []) over way.way;
    text = subst (λ text. AppendsPart held after text) (sym (text-next says is.turns t more adds)) (part_join held mid_held after _ _ is.text now);
  }
