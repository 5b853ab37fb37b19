use Rattle.std.proofs.Common.{◌≡◌, ℕ, ◌==◌, true, false, refl, ap}
use Rattle.std.specs.Prelude.{Some}
use Rattle.rb_rules.specs.{Book.Row, WorldStep.Site}
use Rattle.rb_world_book.specs.Changing.{changed_at, number_in, row_shown, side_in, with_row}
use Rattle.rb_world_book.proofs.Noting.{same-shown, shows-same}
use Rattle.rb_world_book.proofs.book.Book.close.Goals as goal

-- nothing is told of the tail
tail-same : (stage : ℕ) (row : Row) (s : Site) → (stage == 4) ≡ true → with_row stage row s ≡ s
tail-same stage row s e = ap (λ b. elim b as (λ _. Site) [ true ↦ s | false ↦ record s { row = Some row } ]) e

pub returns-then-place-eq4-clause-noted : goal.returns-then-place-eq4-clause-noted
returns-then-place-eq4-clause-noted c = λ sc w h.
    let row : Row = row_shown (number_in c.args.node) c.args.closed.now c.args.times.now c.args.biu c.args.rmu in
    let stage : ℕ = c.args.closed.now.place.stage in
    let tail : (stage == 4) ≡ true = ap (λ n. n == 4) (rw c.place.ensures at c.if-place-eq4.true) in
    same-shown sc c.args.self.now w (changed_at c.args.node (with_row stage row) w) h refl
    (λ kind. shows-same (λ s. s.row) kind (side_in c.args.node) (number_in c.args.node) (with_row stage row) w.sites (λ s. ap (λ (x : Site). x.row) (tail-same stage row s tail)))
    (λ kind. shows-same (λ s. s.begun) kind (side_in c.args.node) (number_in c.args.node) (with_row stage row) w.sites (λ s. ap (λ (x : Site). x.begun) (tail-same stage row s tail)))
