use Rattle.std.proofs.Common.{◌≡◌, ◌&&◌, not, refl}
use Rattle.rb_base.specs.Nodes.{set_of}
use Rattle.rb_judge.specs.Kinds.{is_suspected, kept_kind, taken_so_far, unlike_so_far}
use Rattle.rb_judge.proofs.Sides.{set_by}
use Rattle.rb_judge.proofs.sources.Sources.classes.Goals as goal

pub returns : goal.returns
returns g c =
    let s = kept_kind c.args.self.now in
    let benign : c.difference.result ≡ set_of (λ j. is_suspected s j && not (taken_so_far s j)) =
    set_by (λ a b. a && not b) _ _ _ _ _ c.difference-suspects.ensures c.union-taken.ensures c.difference.ensures in
    let taken : c.intersection-2.result ≡ set_of (λ j. is_suspected s j && taken_so_far s j) =
    set_by (λ a b. a && b) _ _ _ _ _ c.difference-suspects.ensures c.union-taken.ensures c.intersection-2.ensures in
    let symmetric : c.difference-2.result ≡ set_of (λ j. (is_suspected s j && taken_so_far s j) && not (unlike_so_far s j)) =
    set_by (λ a b. a && not b) _ _ _ _ _ taken c.union-unlike.ensures c.difference-2.ensures in
    let asymmetric : c.intersection-3.result ≡ set_of (λ j. is_suspected s j && unlike_so_far s j) =
    set_by (λ a b. a && b) _ _ _ _ _ c.difference-suspects.ensures c.union-unlike.ensures c.intersection-3.ensures in
    rw (c.intersection.ensures, benign, symmetric, asymmetric) refl
