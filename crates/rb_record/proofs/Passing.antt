-- Bytes of a log that wait, and that are written. Below, v, w and u are what waits at one moment,
-- at a later one and at one later still, and h, i and j what is held then.
use Rattle.std.proofs.{Common.{◌≡◌, ℕ, ◌+◌, List, [], ◌++◌, append_assoc, Option, refl, sym, ap, ◌∙◌, subst, arith}, lemmas.List.append-nil}
use Rattle.rb_base.specs.declared.event.Event.{Event}
use Rattle.rb_log.specs.Writing.{Tally, written}
use Rattle.rb_outside.specs.Bytes.{AppendsPart}
use Rattle.rb_outside.proofs.Known.{appends_join, appends_none, part_join, part_widens}
use Rattle.rb_laws_logs.proofs.Recorded.{ticks-append}
use Rattle.rb_record.specs.{Buffering.PassesOn, Recording.{IsTold, PassesNext, PassesPartOf}}

-- Some events.

told-none : (log : Tally) → IsTold log log [] []
told-none log = record { text = λ others. refl; ticks = let none : log.ticks ≡ log.ticks + 0 = omega arith in none }

told-join : (before mid after : Tally) (xs ys : List Event) (bytes more : List ℕ) → IsTold before mid xs bytes → IsTold mid after ys more
    → IsTold before after (xs ++ ys) (bytes ++ more)
told-join before mid after xs ys bytes more a b = record {
  text = λ others. ap (written before.waiting) (append_assoc xs ys others) ∙ a.text (ys ++ others) ∙ ap (λ zs. bytes ++ zs) (b.text others)
      ∙ sym (append_assoc bytes more (written after.waiting others));
  ticks = let first = a.ticks in let second = b.ticks in let sum = ticks-append xs ys in omega (arith, first, second, sum);
}

pub passes-none : (log : Tally) (v : List ℕ) (h : Option (List ℕ)) → PassesNext log log v v [] h h
passes-none log v h = record { bytes = []; told = told-none log; passed = record { out = []; split = append-nil v; text = appends_none h } }

-- two parts of bytes that were cut at other places are one part
shift : (v w u x y out more : List ℕ) → v ++ x ≡ out ++ w → w ++ y ≡ more ++ u → v ++ (x ++ y) ≡ (out ++ more) ++ u
shift v w u x y out more first second =
    sym (append_assoc v x y) ∙ ap (λ zs. zs ++ y) first ∙ append_assoc out w y ∙ ap (λ zs. out ++ zs) second ∙ sym (append_assoc out more u)

-- if some events were passed on and then others, both were
pub passes-join : (log mid later : Tally) (v w u : List ℕ) (xs ys : List Event) (h i j : Option (List ℕ)) → PassesNext log mid v w xs h i → PassesNext mid later w u ys i j
    → PassesNext log later v u (xs ++ ys) h j
passes-join log mid later v w u xs ys h i j first second = record {
  bytes = first.bytes ++ second.bytes;
  told = told-join log mid later xs ys first.bytes second.bytes first.told second.told;
  passed = record {
    out = first.passed.out ++ second.passed.out;
    split = shift v w u first.bytes second.bytes first.passed.out second.passed.out first.passed.split second.passed.split;
    text = appends_join h i j first.passed.out second.passed.out first.passed.text second.passed.text;
  };
}

-- if a write failed at the later events, all events were passed on in part
pub passes-then-part : (log mid : Tally) (v w : List ℕ) (xs ys : List Event) (h i j : Option (List ℕ)) → PassesNext log mid v w xs h i → PassesPartOf mid w ys i j
    → PassesPartOf log v (xs ++ ys) h j
passes-then-part log mid v w xs ys h i j first part others =
    let due : List ℕ = written mid.waiting (ys ++ others) in
    let text : written log.waiting ((xs ++ ys) ++ others) ≡ first.bytes ++ due = ap (written log.waiting) (append_assoc xs ys others) ∙ first.told.text (ys ++ others) in
    let all : first.passed.out ++ (w ++ due) ≡ v ++ written log.waiting ((xs ++ ys) ++ others) =
    sym (append_assoc first.passed.out w due) ∙ ap (λ zs. zs ++ due) (sym first.passed.split) ∙ append_assoc v first.bytes due ∙ ap (λ zs. v ++ zs) (sym text) in
    subst (AppendsPart h j) all (part_join h i j first.passed.out (w ++ due) first.passed.text (part others))

pub part-then-none : (log : Tally) (v : List ℕ) (xs ys : List Event) (h i : Option (List ℕ)) → PassesPartOf log v xs h i → PassesPartOf log v (xs ++ ys) h i
part-then-none log v xs ys h i part others = subst (λ es. AppendsPart h i (v ++ written log.waiting es)) (sym (append_assoc xs ys others)) (part (ys ++ others))

-- What was passed on, of which then a first part was written.
pub part-after : (v w bytes : List ℕ) (h i j : Option (List ℕ)) → PassesOn v w bytes h i → AppendsPart i j w → AppendsPart h j (v ++ bytes)
part-after v w bytes h i j passed part = subst (AppendsPart h j) (sym passed.split) (part_join h i j passed.out w passed.text part)

-- what was passed on stays passed on when some of what waited is written
pub passes-settled : (log later : Tally) (v w u : List ℕ) (events : List Event) (h i j : Option (List ℕ)) → PassesNext log later v w events h i → PassesOn w u [] i j
    → PassesNext log later v u events h j
passes-settled log later v w u events h i j next settled = record {
  bytes = next.bytes;
  told = next.told;
  passed = record {
    out = next.passed.out ++ settled.out;
    split = next.passed.split ∙ ap (λ zs. next.passed.out ++ zs) (sym (append-nil w) ∙ settled.split) ∙ sym (append_assoc next.passed.out settled.out u);
    text = appends_join h i j next.passed.out settled.out next.passed.text settled.text;
  };
}

pub part-settled : (log later : Tally) (v w : List ℕ) (events : List Event) (h i j : Option (List ℕ)) → PassesNext log later v w events h i → AppendsPart i j w
    → PassesPartOf log v events h j
part-settled log later v w events h i j next part others =
    let due : List ℕ = written later.waiting others in
    let all : (v ++ next.bytes) ++ due ≡ v ++ written log.waiting (events ++ others) = append_assoc v next.bytes due ∙ ap (λ zs. v ++ zs) (sym (next.told.text others)) in
    subst (AppendsPart h j) all (part_widens h j (v ++ next.bytes) due (part-after v w next.bytes h i j next.passed part))
