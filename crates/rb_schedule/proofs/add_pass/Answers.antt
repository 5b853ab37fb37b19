-- In a pass each BIU that asks gets a slot, while there is one.
use Rattle.std.proofs.{Common.{◌≡◌, ◌-◌, ◌≤◌, ◌<◌, length, sym, ◌∙◌, ap, arith}, lemmas.List.length_push}
use Rattle.rb_schedule.specs.Asking.{asks}
use Rattle.rb_schedule.proofs.{Passes.{given, given_none, given_more, given_same, given_all}, add_pass.Goals.{then-asks, else-asks}}
use Rattle.rb_schedule.proofs.add_pass.Goals as goal

pub loop-index-init : goal.loop-index-init
loop-index-init c = record {
  is = given_none c.args.shape.now.data_slots c.args.owners.now (asks c.args.trusted c.args.requests.now c.args.pass) c.requires;
  fits = c.requires;
}

pub returns-then-count-slots : goal.returns-then-count-slots
returns-then-count-slots c =
    given_all c.args.shape.now.data_slots c.args.owners.now (asks c.args.trusted c.args.requests.now c.args.pass)
    c.loop-index.index c.loop-index.owners (c.args.shape.now.bius - c.loop-index.index) c.args.shape.now.bius
    c.loop-index.invariant.is (omega arith) (omega arith)

pub push-requires : goal.push-requires
push-requires c =
    let most : c.args.shape.now.data_slots ≤ 64 = c.slots.ensures.shape.most_slots in
    let fits = c.loop-index.invariant.fits in
    omega arith

pub loop-index-preserved : goal.loop-index-preserved
loop-index-preserved c =
    let slots = c.args.shape.now.data_slots in
    let before = c.args.owners.now in
    let gets = asks c.args.trusted c.args.requests.now c.args.pass in
    let k = c.loop-index.index in
    let now = c.loop-index.owners in
    let says : c.asks.result ≡ gets k = c.asks.ensures in
    elim c.if-asks.branch [
      | then-asks w ↦
          let room : length now < slots = let fits = c.loop-index.invariant.fits in omega arith in
          let pushed = w.owners-is ∙ w.push.ensures in
          record {
            is = pushed ∙ given_more slots before gets k now c.loop-index.invariant.is room (sym says ∙ w.if-asks.true);
            fits = omega (arith, ap length pushed, length_push now k);
          }
      | else-asks w ↦ record {
        is = w.owners-is ∙ given_same slots before gets k now c.loop-index.invariant.is c.loop-index.invariant.fits (sym says ∙ w.if-asks.false);
        fits = omega (arith, ap length w.owners-is);
      }
    ]

pub returns : goal.returns
returns c =
    let last : c.loop-index.index ≡ c.args.shape.now.bius = omega arith in
    c.loop-index.invariant.is ∙ ap (given c.args.shape.now.data_slots c.args.owners.now (asks c.args.trusted c.args.requests.now c.args.pass)) last
