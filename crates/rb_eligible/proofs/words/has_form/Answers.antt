use Rattle.std.proofs.{Common.{◌%◌, ◌/◌, ◌++◌, ◌==◌, ◌&&◌, refl, sym, ◌∙◌, ap}, lemmas.Bool.{eq-eqb, ne_eqb}}
use Rattle.std.specs.Int.{to_le_bytes, w32, w64}
use Rattle.rb_rules.specs.Spelling.{check_of}
use Rattle.rb_eligible.proofs.Forms.{form_one, form_two}
use Rattle.rb_eligible.proofs.words.has_form.Goals as goal

pub returns-then-len-eq11 : goal.returns-then-len-eq11
returns-then-len-eq11 c =
    rw c.in-One.is (ap (λ b. b && (c.check.result == 0)) (sym (eq-eqb c.args.len 11 c.if-len-eq11.true)) ∙ form_one c.args.low c.args.high c.args.len c.check.result c.requires c.check.ensures)

pub returns-else-len-eq11 : goal.returns-else-len-eq11
returns-else-len-eq11 c =
    let check = check_of (to_le_bytes w64 c.args.low ++ to_le_bytes w32 (c.args.high % 16777216)) in
    rw c.in-One.is (ne_eqb c.args.len 11 c.if-len-eq11.false ∙ ap (λ b. b && (check == 0)) (sym (ne_eqb c.args.len 11 c.if-len-eq11.false)) ∙ form_one c.args.low c.args.high c.args.len check c.requires refl)

pub returns-then-len-eq12 : goal.returns-then-len-eq12
returns-then-len-eq12 c =
    let check = check_of (to_le_bytes w64 c.args.low ++ to_le_bytes w32 c.args.high) in
    rw c.in-Two.is (ap (λ b. b && c.has_end.result) (sym (eq-eqb c.args.len 12 c.if-len-eq12.true)) ∙ ap (λ r. (c.args.len == 12) && r) c.has_end.ensures ∙ form_two c.in-Two.bus c.args.low c.args.high c.args.len check c.requires refl)

pub returns-else-len-eq12 : goal.returns-else-len-eq12
returns-else-len-eq12 c =
    let check = check_of (to_le_bytes w64 c.args.low ++ to_le_bytes w32 c.args.high) in
    let rest = (c.args.high / 65536 % 256 == c.in-Two.bus) && (check == 0) in
    rw c.in-Two.is (ne_eqb c.args.len 12 c.if-len-eq12.false ∙ ap (λ b. b && rest) (sym (ne_eqb c.args.len 12 c.if-len-eq12.false)) ∙ form_two c.in-Two.bus c.args.low c.args.high c.args.len check c.requires refl)
