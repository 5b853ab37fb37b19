-- The call with which a pass begins is found.
use Rattle.std.proofs.{Common.{◌≡◌, ℕ, ◌+◌, ◌<◌, ◌≤◌, Bool, true, false, ◌==◌, ◌&&◌, nat_le, refl, ap, sym, ◌∙◌, arith, Option, Some, None, option_map, List, drop, get_or, length}, lemmas.Bool.Decides.nat_tests, lemmas.List.{drop_all, drop_more}}
use Rattle.rb_base.specs.Sizes.{Sizes, sync_slot_of}
use Rattle.rb_rules.specs.{declared.message.Message.Message, declared.plan.Plan.Plan, Slots.role_of}
use Rattle.rb_listen.specs.{Lessons.{first_by, first_of, has_place, middle_in, stage_recorded, trusted_bius, trusted_rmus}, Passes.{begins_pass, frame_in, pass_among, pass_of}, declared.lesson.First.First, declared.lesson.Lesson.Lesson, declared.passes.Call.Call}

pub found : (sizes : Sizes) (plan : Plan) (newest : List (Option Call)) (j : ℕ) (call : Option Call) → j < length newest
    → pass_among sizes plan newest newest ≡ pass_among sizes plan newest (drop j newest) → call ≡ get_or newest j None
    → begins_pass sizes plan newest call ≡ true → frame_in call ≡ pass_of sizes plan newest
unfolding pass_of
found sizes plan newest j call below so_far is begins =
    sym (so_far
    ∙ ap (pass_among sizes plan newest) (drop_more newest j None below)
    ∙ ap (λ b. elim b as (λ _. Option ℕ) [ true ↦ frame_in (get_or newest j None) | false ↦ pass_among sizes plan newest (drop (j + 1) newest) ])
    (ap (begins_pass sizes plan newest) (sym is) ∙ begins)
    ∙ ap frame_in (sym is))

pub none-found : (sizes : Sizes) (plan : Plan) (newest : List (Option Call)) (j : ℕ) → length newest ≤ j
    → pass_among sizes plan newest newest ≡ pass_among sizes plan newest (drop j newest) → None ≡ pass_of sizes plan newest
unfolding pass_of
none-found sizes plan newest j end so_far = sym (so_far ∙ ap (pass_among sizes plan newest) (drop_all j newest end))

-- What has a place in a lesson is of a slot that there is.

second : (a b c : Bool) → (a && b && c) ≡ true → b ≡ true
second true true c h = refl
second true false c h = cc
second false b c h = cc

pub in-a-slot : (sizes : Sizes) (frame : ℕ) (m : Message) → has_place sizes frame m ≡ true → m.slot ≤ sync_slot_of sizes
in-a-slot sizes frame m h =
    let within : nat_le m.slot (sync_slot_of sizes) ≡ true = second (m.frame == frame) (nat_le m.slot (sync_slot_of sizes)) (m.stage == stage_recorded (role_of sizes m.slot)) h in
    grind (arith, nat_tests)

-- The first frame.

pub first-some : (sizes : Sizes) (plan : Plan) (lesson : Lesson) (bius rmus k2 : ℕ) (f : First) → bius ≡ trusted_bius sizes lesson.records
    → rmus ≡ trusted_rmus sizes lesson.records → Some k2 ≡ middle_in sizes lesson.records rmus → f ≡ first_by sizes plan lesson bius rmus k2
    → Some f ≡ first_of sizes plan lesson
unfolding first_of
first-some sizes plan lesson bius rmus k2 f b r m e =
    ap (λ x. Some x) e
    ∙ ap (option_map (first_by sizes plan lesson bius rmus)) m
    ∙ ap (λ x. option_map (first_by sizes plan lesson bius x) (middle_in sizes lesson.records x)) r
    ∙ ap (λ x. option_map (first_by sizes plan lesson x (trusted_rmus sizes lesson.records)) (middle_in sizes lesson.records (trusted_rmus sizes lesson.records))) b

pub first-none : (sizes : Sizes) (plan : Plan) (lesson : Lesson) (rmus : ℕ) → rmus ≡ trusted_rmus sizes lesson.records
    → None ≡ middle_in sizes lesson.records rmus → None ≡ first_of sizes plan lesson
unfolding first_of
first-none sizes plan lesson rmus r m =
    ap (option_map (first_by sizes plan lesson (trusted_bius sizes lesson.records) rmus)) m
    ∙ ap (λ x. option_map (first_by sizes plan lesson (trusted_bius sizes lesson.records) x) (middle_in sizes lesson.records x)) r
