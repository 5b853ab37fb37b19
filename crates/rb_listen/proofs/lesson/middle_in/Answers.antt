use Rattle.std.proofs.{Common.{ℕ, ◌≤◌, ◌^◌, All, length, refl, sym, ◌∙◌, ap, subst, arith}, Math.ListN.length-set, lemmas.List.Edits.fill_by_more, lemmas.List.Elements.All-nil}
use Rattle.rb_eligible.proofs.Evidence.{few_more, present_all, present_more, taken_all}
use Rattle.rb_resync.proofs.Closings.{TakenUpTo, all_up_to}
use Rattle.rb_rules.specs.{ExactStage.{each_node, present}, Middle.middle_of, Sense.stamp_in}
use Rattle.rb_listen.specs.Lessons.{recorded_of}
use Rattle.rb_listen.proofs.Soon.{middle-soon, recorded-soon}
use Rattle.rb_listen.proofs.lesson.middle_in.Goals as goal

pub loop-j-init : goal.loop-j-init
loop-j-init c = record {
  all = refl;
  few = omega (arith, ap length c.new-stamps.ensures);
  held = c.new-stamps.ensures;
  so_far = λ k none. absurd (omega arith);
  soon = subst (All (λ s. s ≤ 2 ^ 31)) (sym c.new-stamps.ensures) (All-nil (λ s. s ≤ 2 ^ 31));
}

pub loop-j-preserved : goal.loop-j-preserved
loop-j-preserved c = record {
  all = length-set _ _ _ ∙ c.loop-j.invariant.all;
  few = few_more c.recorded_stamp-stamp.result c.loop-j.stamps.items c.add.new.stamps.items c.loop-j.j c.loop-j.invariant.few c.add.ensures;
  held = rw c.from.ensures (present_more c.loop-j.taken c.loop-j.j c.recorded_stamp-stamp.result c.loop-j.stamps.items c.add.new.stamps.items (omega arith) c.loop-j.invariant.held c.add.ensures);
  so_far = rw (c.from.ensures, c.recorded_stamp-stamp.ensures)
      (fill_by_more (recorded_of stamp_in c.args.records.now c.args.rmus c.sync_slot-slot.result) c.loop-j.taken c.loop-j.j _ (omega arith) c.loop-j.invariant.so_far);
  soon = all_up_to (2 ^ 31) c.recorded_stamp-stamp.result c.loop-j.stamps.items c.add.new.stamps.items c.loop-j.invariant.soon
      (subst (TakenUpTo (2 ^ 31)) (sym c.recorded_stamp-stamp.ensures) (recorded-soon c.args.records.now c.args.rmus c.sync_slot-slot.result c.loop-j.j c.requires)) c.add.ensures;
}

pub returns-clause-value : goal.returns-clause-value
returns-clause-value c =
    c.middle.ensures.is
    ∙ ap middle_of (present_all c.loop-j.taken c.loop-j.stamps.items c.loop-j.j (omega arith) c.loop-j.invariant.all c.loop-j.invariant.held)
    ∙ ap (λ t. middle_of (present t))
    (taken_all (recorded_of stamp_in c.args.records.now c.args.rmus c.sync_slot-slot.result) c.loop-j.taken c.loop-j.j (omega arith) c.loop-j.invariant.all c.loop-j.invariant.so_far)
    ∙ ap (λ (s : ℕ). middle_of (present (each_node (recorded_of stamp_in c.args.records.now c.args.rmus s)))) c.sync_slot-slot.ensures.value

pub returns-clause-soon : goal.returns-clause-soon
returns-clause-soon c = middle-soon c.middle.result c.loop-j.stamps.items c.loop-j.invariant.soon c.middle.ensures.counted
