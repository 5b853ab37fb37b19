use Rattle.std.proofs.{Common.{◌≡◌, ℕ, suc, ◌+◌, refl, ap, ◌∙◌, arith}, lemmas.List.length-set, lemmas.List.FromFn.fill_by_all}
use Rattle.rb_gen.specs.Draws.{next_state, number_of, state_after}
use Rattle.rb_gen.proofs.Lists.{filled_more}
use Rattle.rb_gen.proofs.generator.drawn_from.Goals as goal

one_more : (draws seed : ℕ) → next_state (state_after draws seed) ≡ state_after (draws + 1) seed
unfolding state_after
one_more draws seed = let same : suc draws ≡ draws + 1 = omega arith in ap (λ n. state_after n seed) same

number_after : ℕ → ℕ → ℕ
number_after seed n = number_of (state_after (suc n) seed)

pub loop-number-init : goal.loop-number-init
unfolding state_after
loop-number-init c = record { state = c.new-draws.ensures; all = refl; filled = λ k h. absurd (omega (arith, h)) }

pub loop-number-preserved : goal.loop-number-preserved
unfolding state_after number_after number_of
loop-number-preserved c =
    let i = c.loop-number.number in
    let state : c.draw.new.self.state ≡ next_state (state_after i c.args.seed) = c.draw.ensures.state ∙ ap next_state c.loop-number.invariant.state in
    record {
      state = state ∙ one_more i c.args.seed;
      all = length-set c.loop-number.drawn i c.draw.result ∙ c.loop-number.invariant.all;
      filled = filled_more (number_after c.args.seed) c.loop-number.drawn i c.draw.result (omega (arith, c.loop-number.invariant.all, c.loop-number-test.true))
          (c.draw.ensures.number ∙ ap number_of state) c.loop-number.invariant.filled;
    }

pub returns : goal.returns
unfolding number_after number_of
returns c =
    fill_by_all (number_after c.args.seed) c.loop-number.drawn 105 0 c.loop-number.invariant.all
    (λ k h. c.loop-number.invariant.filled k (omega (arith, h, c.loop-number-test.false, c.loop-number.auto.number-end)))
