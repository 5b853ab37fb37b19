-- What was written of a text that is due, and what more is.
use Rattle.std.proofs.Common.{◌≡◌, ◌≤◌, ℕ, arith, refl, ap, sym, ◌∙◌, subst, Option, Result, Ok, Err, OnOk, OnErr, List, [], ◌++◌, append_assoc}
use Rattle.std.specs.Io.KnownBytes.{Appends}
use Rattle.rb_outside.specs.{Bytes.AppendsPart, Causes.HasCause, Writing.Writes}
use Rattle.rb_outside.proofs.Known.{appends_join, appends_none, part_join}
use Rattle.rb_rules.specs.Core.{CoreEvent}
use Rattle.rb_replay.specs.Advancing.{Advances}

-- before the first write nothing is written
pub advances-none : (P : List ℕ → Type 0) (due : List ℕ) (held : Option (List ℕ)) → P due → Advances P due held held
advances-none P due held d = record { part = []; rest = due; whole = refl; appended = appends_none held; goes_on = d }

-- if `P` gives `Q`, an advance with `P` is one with `Q`
pub advances-so : (P Q : List ℕ → Type 0) (due : List ℕ) (before after : Option (List ℕ)) → ((rest : List ℕ) → P rest → Q rest)
    → Advances P due before after → Advances Q due before after
advances-so P Q due before after so a = record { part = a.part; rest = a.rest; whole = a.whole; appended = a.appended; goes_on = so a.rest a.goes_on }

pub advances-is : (P : List CoreEvent → List ℕ → Type 0) (events left : List CoreEvent) (due : List ℕ) (before after : Option (List ℕ))
    → events ≡ left → Advances (P events) due before after → Advances (P left) due before after
advances-is P events left due before after is a = subst (λ es. Advances (P es) due before after) is a

-- two advances in a row are one
pub advances-more : (P Q : List ℕ → Type 0) (due : List ℕ) (first before after : Option (List ℕ)) → Advances P due first before
    → ((rest : List ℕ) → P rest → Advances Q rest before after) → Advances Q due first after
advances-more P Q due first before after a then_more =
    let b : Advances Q a.rest before after = then_more a.rest a.goes_on in
    record {
      part = a.part ++ b.part;
      rest = b.rest;
      whole = a.whole ∙ ap (λ xs. a.part ++ xs) b.whole ∙ sym (append_assoc a.part b.part b.rest);
      appended = appends_join first before after a.part b.part a.appended b.appended;
      goes_on = b.goes_on;
    }

-- if a part of what is due after an advance was written, a part of all was
pub advances-part : (P : List ℕ → Type 0) (due : List ℕ) (first before after : Option (List ℕ)) → Advances P due first before
    → ((rest : List ℕ) → P rest → AppendsPart before after rest) → AppendsPart first after due
advances-part P due first before after a then_part =
    subst (AppendsPart first after) (sym a.whole) (part_join first before after a.part a.rest a.appended (then_part a.rest a.goes_on))

-- all of the due text was written, if the call answers so
pub advances-all : {T E : Type 0} (P : List ℕ → Type 0) (due : List ℕ) (first before after : Option (List ℕ)) (r : Result T E)
    → Advances P due first before → ((rest : List ℕ) → P rest → OnOk r (Appends before after rest)) → OnOk r (Appends first after due)
advances-all P due first before after (Err e) a written = tt
advances-all P due first before after (Ok x) a written =
    subst (Appends first after) (sym a.whole) (appends_join first before after a.part a.rest a.appended (written a.rest a.goes_on))

pub advances-failed : {T E : Type 0} (P : List ℕ → Type 0) (due : List ℕ) (first before after : Option (List ℕ)) (r : Result T E)
    → Advances P due first before → ((rest : List ℕ) → P rest → OnErr r (AppendsPart before after rest)) → OnErr r (AppendsPart first after due)
advances-failed P due first before after (Ok x) a written = tt
advances-failed P due first before after (Err e) a written = advances-part P due first before after a written

-- the cause of a failure holds from an earlier moment on
has-cause-since : {T E : Type 0} (r : Result T E) (first before after : ℕ) → first ≤ before → HasCause before after r → HasCause first after r
has-cause-since (Ok x) first before after later c = record { later = omega (arith, later, c.later); rose = tt }
has-cause-since (Err e) first before after later c = record { later = omega (arith, later, c.later); rose = omega (arith, later, c.rose) }

-- a call that writes what is still due, whatever that is, writes what was due at first
pub advances-writes : {S T E : Type 0} (held : S → Option (List ℕ)) (faults : S → ℕ) (P : List ℕ → Type 0) (due : List ℕ) (first before after : S) (r : Result T E)
    → faults first ≤ faults before → Advances P due (held first) (held before) → ((rest : List ℕ) → P rest → Writes held faults before after r rest)
    → Writes held faults first after r due
advances-writes held faults P due first before after r later a writes = record {
  all = advances-all P due (held first) (held before) (held after) r a (λ rest d. (writes rest d).all);
  part = advances-failed P due (held first) (held before) (held after) r a (λ rest d. (writes rest d).part);
  cause = has-cause-since r (faults first) (faults before) (faults after) later (writes a.rest a.goes_on).cause;
}

-- a call that writes the end ends the text
pub ends : {S T E : Type 0} (held : S → Option (List ℕ)) (faults : S → ℕ) (P : List ℕ → Type 0) (due bytes : List ℕ) (first before after : S) (r : Result T E)
    → ((rest : List ℕ) → P rest → rest ≡ bytes) → faults first ≤ faults before → Advances P due (held first) (held before)
    → Writes held faults before after r bytes → Writes held faults first after r due
ends held faults P due bytes first before after r is later a written =
    advances-writes held faults P due first before after r later a (λ rest d. subst (Writes held faults before after r) (sym (is rest d)) written)
