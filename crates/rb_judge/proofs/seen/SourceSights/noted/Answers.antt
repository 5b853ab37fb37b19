use Rattle.std.proofs.Common.{◌≡◌, ◌==◌, true, false, not, ◌||◌, sym, ◌∙◌, ap, arith}
use Rattle.rb_base.specs.Nodes.{has, set_of}
use Rattle.rb_base.proofs.{Plain.eq_self, Sets.eq_other}
use Rattle.rb_judge.specs.Sights.{is_unlike}
use Rattle.rb_judge.proofs.Sights.{not_nothing, nothing_noted, something_noted}
use Rattle.rb_judge.proofs.seen.SourceSights.noted.Goals as goal

pub returns-in-Nothing : goal.returns-in-Nothing
returns-in-Nothing g c = λ sight is. nothing_noted _ _ _ _ sight _ c.requires.number c.requires.once c.in-Nothing.is is

pub returns-then-by-bits : goal.returns-then-by-bits
returns-then-by-bits g c = λ sight is.
    let by_is : c.bits-by.result ≡ set_of (λ k. has c.args.self.by k || (k == c.args.receiver)) =
    c.bits-by.ensures ∙ c.insert.ensures
    ∙ ap (λ s. set_of (λ k. has s k || (k == c.of.result))) c.from_bits-by.ensures
    ∙ ap (λ r. set_of (λ k. has c.args.self.by k || (k == r))) c.of.ensures in
    let apart : (c.bits-by.result == c.args.good) ≡ false = ap (λ n. c.bits-by.result == n) (sym c.bits.ensures) ∙ eq_other _ _ c.if-by-bits.true in
    let so : not (c.bits-by.result == c.bits.result) ≡ (not (c.bits-by.result == c.args.good) || is_unlike c.kept_with-kept.result) =
    ap not (eq_other _ _ c.if-by-bits.true) ∙ sym (ap (λ b. not b || is_unlike c.kept_with-kept.result) apart) in
    something_noted c.args.eps c.args.good c.args.receiver _ c.args.see sight c.args.self _ _
    c.requires.number (omega arith) (omega arith) c.requires.good c.requires.once (not_nothing _ c.in_default.not-Nothing) by_is c.kept_with-kept.ensures so is

pub returns-else-by-bits : goal.returns-else-by-bits
returns-else-by-bits g c = λ sight is.
    let by_is : c.bits-by.result ≡ set_of (λ k. has c.args.self.by k || (k == c.args.receiver)) =
    c.bits-by.ensures ∙ c.insert.ensures
    ∙ ap (λ s. set_of (λ k. has s k || (k == c.of.result))) c.from_bits-by.ensures
    ∙ ap (λ r. set_of (λ k. has c.args.self.by k || (k == r))) c.of.ensures in
    let same : (c.bits-by.result == c.args.good) ≡ true = ap (λ n. n == c.args.good) (c.if-by-bits.false ∙ c.bits.ensures) ∙ eq_self c.args.good in
    let so : c.is_unlike.result ≡ (not (c.bits-by.result == c.args.good) || is_unlike c.kept_with-kept.result) =
    c.is_unlike.ensures ∙ sym (ap (λ b. not b || is_unlike c.kept_with-kept.result) same) in
    something_noted c.args.eps c.args.good c.args.receiver _ c.args.see sight c.args.self _ _
    c.requires.number (omega arith) (omega arith) c.requires.good c.requires.once (not_nothing _ c.in_default.not-Nothing) by_is c.kept_with-kept.ensures so is
