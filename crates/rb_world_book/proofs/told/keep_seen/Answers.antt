use Rattle.std.proofs.Common.{◌≡◌, ◌<◌, ℕ, get_or, length, refl, subst, sym}
use Rattle.rb_base.specs.{Nodes.TakesFirst, declared.values.See.TheVariants.Nothing}
use Rattle.rb_world_book.specs.Telling.{timed_in}
use Rattle.rb_world_book.proofs.Kept.{kept-all, kept-first, kept-next, kept_but, left-before}
use Rattle.rb_world_book.proofs.told.keep_seen.Goals as goal

pub loop-source-init : goal.loop-source-init
loop-source-init g c = record {
  long = c.told-sees;
  within = λ j h is. is;
  so_far = λ j h. kept-first c.args.counted Nothing (timed_in c.args.shown.now.sees c.args.times.now) c.args.sees.now j;
}

pub loop-source-preserved : goal.loop-source-preserved
loop-source-preserved g c =
    let before = c.loop-source.left in
    let after = c.pop_first.new.self in
    let k = c.index.result in
    let seen = c.args.shown.now.sees in
    let times = c.args.times.now in
    let is = c.loop-source.invariant in
    let takes : TakesFirst before after k = rw c.index.ensures.value c.in-Some.ensures.first in
    let small : k < 16 = c.index.ensures.range in
    let long : length c.loop-source.sees ≡ 16 = is.long in
    record {
      long = c.keep_one.array_long;
      within = λ j h left. is.within j h (left-before before after k j takes.rest h left);
      so_far = subst (λ l. (j : ℕ) → j < 16 → get_or l j Nothing ≡ kept_but c.args.counted after Nothing (timed_in seen times) c.args.sees.now j) (sym c.keep_one.ensures)
          (kept-next c.args.counted before after k Nothing _ (timed_in seen times) c.args.sees.now c.loop-source.sees small long
          refl (is.within k small takes.inside) takes.rest is.so_far);
    }

pub returns : goal.returns
returns g c =
    kept-all c.args.counted c.loop-source.left Nothing (timed_in c.args.shown.now.sees c.args.times.now) c.args.sees.now c.loop-source.sees c.loop-source.invariant.long (c.in_default.ensures.empty.0 refl)
    c.loop-source.invariant.so_far
