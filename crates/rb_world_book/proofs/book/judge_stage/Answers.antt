use Rattle.std.proofs.Common.{◌≡◌, ℕ, ◌-◌, ◌&&◌, not, nat_lt, map, ◌∙◌, ap, subst}
use Rattle.rb_base.specs.{Nodes.{Side, has, set_of}, Nodes.Side.{Biu, Rmu}, Sizes.{Sizes, IsShape}}
use Rattle.rb_rules.specs.{Book.{in_order, judged_of, trusted_by}, ExactStage.present}
use Rattle.rb_world_book.specs.{Holding.without_lasting, Settling.rows_found, Waiting.{was_taken, was_unlike}}
use Rattle.rb_world_book.proofs.Judged.{rows-found, rows_of, sets-are}
use Rattle.rb_world_book.proofs.book.judge_stage.Goals as goal

pub returns : goal.returns
returns c = λ sc sites stages sizes eps biu rmu none_bius none_rmus known.
    let place = c.args.place in
    let bius = c.args.bius.now in
    let rmus = c.args.rmus.now in
    let shape : IsShape sc.sizes = subst (λ (s : Sizes). IsShape s) sizes c.biu.ensures.shape in
    let nb : c.biu.result ≡ sc.sizes.bius = c.biu.ensures.value ∙ ap (λ (s : Sizes). s.bius) sizes in
    let nr : c.rmu.result ≡ sc.sizes.rmus = c.rmu.ensures.value ∙ ap (λ (s : Sizes). s.rmus) sizes in
    let nb2 : c.biu-2.result ≡ sc.sizes.bius = c.biu-2.ensures.value ∙ ap (λ (s : Sizes). s.bius) sizes in
    let nr2 : c.rmu-2.result ≡ sc.sizes.rmus = c.rmu-2.ensures.value ∙ ap (λ (s : Sizes). s.rmus) sizes in
    let found : (kind : Side) → trusted_by kind (rows_found c.args.shape.now place bius rmus) ≡ trusted_by kind (present (in_order (rows_of sc place sites))) =
    λ kind. ap (λ (s : Sizes). trusted_by kind (rows_found s place bius rmus)) sizes ∙ rows-found sc place bius rmus sites kind shape.most_bius shape.most_rmus biu rmu in
    let taken_bius : ℕ → ℕ → ℕ = λ n r. set_of (λ j. nat_lt j n && (not (has bius.lasting j) && was_taken r rmus.good rmus.told j)) in
    let unlike_bius : ℕ → ℕ → ℕ → ℕ = λ e n r. set_of (λ j. nat_lt j n && (not (has bius.lasting j) && was_unlike e r rmus.good rmus.told j)) in
    let taken_rmus : ℕ → ℕ → ℕ = λ n r. set_of (λ j. nat_lt j n && (not (has rmus.lasting j) && was_taken r bius.good bius.told j)) in
    let unlike_rmus : ℕ → ℕ → ℕ → ℕ = λ e n r. set_of (λ j. nat_lt j n && (not (has rmus.lasting j) && was_unlike e r bius.good bius.told j)) in
    let e : ℕ = sc.plan.dmax - sc.plan.dmin in
    let of_bius = c.stage_sets-of_bius.ensures in
    let of_rmus = c.stage_sets-of_rmus.ensures in
    c.whole_stage.ensures.known (map (without_lasting sc place.frame) stages) (without_lasting sc place.frame (judged_of sc place (rows_of sc place sites))) known
    (sets-are sc place Biu bius rmus sites c.stage_sets-of_bius.result shape.most_bius shape.most_rmus biu rmu none_rmus of_bius.good
    (of_bius.trusted ∙ c.from_bits.ensures ∙ c.trusted-trusted.ensures.biu ∙ found Biu)
    (of_bius.taken ∙ ap (λ n. taken_bius n c.rmu.result) nb ∙ ap (taken_bius sc.sizes.bius) nr)
    (of_bius.unlike ∙ ap (λ x. unlike_bius x c.biu.result c.rmu.result) eps ∙ ap (λ n. unlike_bius e n c.rmu.result) nb ∙ ap (unlike_bius e sc.sizes.bius) nr))
    (sets-are sc place Rmu rmus bius sites c.stage_sets-of_rmus.result shape.most_rmus shape.most_bius rmu biu none_bius of_rmus.good
    (of_rmus.trusted ∙ c.from_bits-2.ensures ∙ c.trusted-trusted.ensures.rmu ∙ found Rmu)
    (of_rmus.taken ∙ ap (λ n. taken_rmus n c.biu-2.result) nr2 ∙ ap (taken_rmus sc.sizes.rmus) nb2)
    (of_rmus.unlike ∙ ap (λ x. unlike_rmus x c.rmu-2.result c.biu-2.result) eps ∙ ap (λ n. unlike_rmus e n c.biu-2.result) nr2 ∙ ap (unlike_rmus e sc.sizes.rmus) nb2))
