use Rattle.std.proofs.{Common.{◌≡◌, ◌∙◌, ◌<◌, ◌≤◌, ◌&&◌, if◌then◌else◌, Some, None, All, length, refl, sym, arith, ap, subst}, lemmas.List.Elements.All-nil, Math.ListN.length-set, lemmas.List.Edits.fill_by_more}
use Rattle.rb_base.specs.Nodes.{has}
use Rattle.rb_base.proofs.{Plain.and_second, Sets.has-is}
use Rattle.rb_eligible.specs.{Inboxes.{is_sole, sense_in, sole_at}, Standings.standing_of}
use Rattle.rb_eligible.proofs.{Scans.common_has, Sensed.{stamp_taken, stamp_up_to}, Evidence.{few_more, present_all, present_more, taken_all}}
use Rattle.rb_rules.specs.{Sense.{is_one, stamp_in}, Standing.{is_eligible, taken_of}}
use Rattle.rb_resync.proofs.Closings.{all_up_to, closing_is, stage_up_to, taken_up_to}
use Rattle.rb_resync.proofs.close_sync.Goals as goal

pub loop-source-init : goal.loop-source-init
loop-source-init g c = record {
  all = refl;
  few = omega (arith, ap length c.new-stamps.ensures);
  held = c.new-stamps.ensures;
  so_far = λ received shown k none. absurd (omega arith);
  soon = λ n up_to. subst (All (λ s. s ≤ n)) (sym c.new-stamps.ensures) (All-nil (λ s. s ≤ n));
}

pub loop-source-preserved : goal.loop-source-preserved
loop-source-preserved g c =
    let s = standing_of c.args.standing.now in
    let kept = c.args.inbox.now in
    let at = c.loop-source.source in
    let here : at < 16 = omega arith in
    let takers = c.intersection-takers.result in
    let ones = c.take_with_evidence-taking.result.ones in
    let takes : has takers at ≡ (has ones at && is_sole kept at) = common_has ones c.soles.result takers at (is_sole kept) c.intersection-takers.ensures c.soles.ensures here in
    let taken : c.taken-stamp.result ≡ (if has takers at then Some (sole_at kept.soles at).at else None) = c.taken-stamp.ensures in
    record {
      all = length-set _ _ _ ∙ c.loop-source.invariant.all;
      few = few_more c.taken-stamp.result c.loop-source.stamps.items c.add.new.stamps.items at c.loop-source.invariant.few c.add.ensures;
      held = rw c.from.ensures (present_more c.loop-source.taken_of at c.taken-stamp.result c.loop-source.stamps.items c.add.new.stamps.items (omega arith) c.loop-source.invariant.held c.add.ensures);
      so_far = λ received shown.
          let sense = sense_in c.args.expect.now received in
          let one : has ones at ≡ ((has c.args.expected at && is_eligible s at) && is_one (sense at)) =
          has-is ones at (λ j. (has c.args.expected j && is_eligible s j) && is_one (sense j)) (c.take_with_evidence-taking.ensures.ones received shown) here in
          let is : c.taken-stamp.result ≡ taken_of stamp_in s (has c.args.expected) sense at =
          taken
          ∙ ap (λ b. if b then Some (sole_at kept.soles at).at else None) (takes ∙ ap (λ b. b && is_sole kept at) one)
          ∙ stamp_taken c.args.expect.now kept received (has c.args.expected at && is_eligible s at) at shown here in
          rw (c.from.ensures, is) (fill_by_more (taken_of stamp_in s (has c.args.expected) sense) c.loop-source.taken_of at _ (omega arith) (c.loop-source.invariant.so_far received shown));
      soon = λ n up_to.
          all_up_to n c.taken-stamp.result c.loop-source.stamps.items c.add.new.stamps.items (c.loop-source.invariant.soon n up_to)
          (taken_up_to n (has takers at) (sole_at kept.soles at).at c.taken-stamp.result
          (λ e. stamp_up_to n kept at up_to here (and_second (has ones at) (is_sole kept at) (sym takes ∙ e)))
          taken)
          c.add.ensures;
    }

pub returns-clause-closing : goal.returns-clause-closing
returns-clause-closing g c = λ received shown.
    let s = standing_of c.args.standing.now in
    let sense = sense_in c.args.expect.now received in
    let f = taken_of stamp_in s (has c.args.expected) sense in
    closing_is s (has c.args.expected) sense c.args.first c.loop-source.taken_of c.loop-source.stamps.items c.middle.result c.unwrap_or.result
    (taken_all f c.loop-source.taken_of c.loop-source.source (omega arith) c.loop-source.invariant.all (c.loop-source.invariant.so_far received shown))
    (present_all c.loop-source.taken_of c.loop-source.stamps.items c.loop-source.source (omega arith) c.loop-source.invariant.all c.loop-source.invariant.held)
    c.middle.ensures.is c.unwrap_or.ensures

pub returns-clause-soon : goal.returns-clause-soon
returns-clause-soon g c = λ n up_to low.
    stage_up_to n c.args.first c.unwrap_or.result c.middle.result c.loop-source.stamps.items (c.loop-source.invariant.soon n up_to) c.middle.ensures.counted low c.unwrap_or.ensures
