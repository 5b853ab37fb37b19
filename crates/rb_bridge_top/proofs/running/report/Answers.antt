use Rattle.std.proofs.Common.{refl, sym}
use Rattle.rb_rules_bridge.specs.declared.bank.Bank.TheVariants.{Left, Right}
use Rattle.rb_bridge_document.specs.Acceptance.{as_bridge}
use Rattle.rb_bridge.proofs.Crossed.{pairs-small}
use Rattle.rb_bridge_top.proofs.Opening.{both-opened, end-opened, end-runs, end-written}
use Rattle.rb_bridge_top.proofs.running.report.Goals as goal

pub members_on-left_members-requires : goal.members_on-left_members-requires
members_on-left_members-requires g c = pairs-small (as_bridge c.args.bridge) Left c.as_slice.result.now c.requires.bridge (sym c.as_slice.ensures.value)

pub members_on-right_members-requires : goal.members_on-right_members-requires
members_on-right_members-requires g c = pairs-small (as_bridge c.args.bridge) Right c.as_slice-2.result.now c.requires.bridge (sym c.as_slice-2.ensures.value)

pub open_side-requires-clause-lawful : goal.open_side-requires-clause-lawful
open_side-requires-clause-lawful g c = c.requires.bridge.lawful Left

pub open_side-requires-clause-listed : goal.open_side-requires-clause-listed
open_side-requires-clause-listed g c = c.requires.listed Left

pub open_side-requires-clause-slot : goal.open_side-requires-clause-slot
open_side-requires-clause-slot g c = c.requires.bridge.slots Left

pub open_side-requires-2-clause-lawful : goal.open_side-requires-2-clause-lawful
open_side-requires-2-clause-lawful g c = c.requires.bridge.lawful Right

pub open_side-requires-2-clause-listed : goal.open_side-requires-2-clause-listed
open_side-requires-2-clause-listed g c = c.requires.listed Right

pub open_side-requires-2-clause-slot : goal.open_side-requires-2-clause-slot
open_side-requires-2-clause-slot g c = c.requires.bridge.slots Right

pub cross-requires : goal.cross-requires
cross-requires g c = record {
  b = as_bridge c.args.bridge;
  bridge = c.requires.bridge;
  pairs_are = sym c.as_slice-3.ensures.value;
  frames_are = refl;
  opened = both-opened c.args.bridge c.as_slice.result.now c.as_slice-2.result.now _ _ _ _ c.as_slice.ensures.value c.as_slice-2.ensures.value
      c.members_on-left_members.ensures c.members_on-right_members.ensures c.in-Ok.ensures c.in-Ok-open_side.ensures;
}

pub returns-in-Ok-cross-clause-written : goal.returns-in-Ok-cross-clause-written
returns-in-Ok-cross-clause-written g c = record {
  ended = λ h both plain. record {
    ending = c.in-Ok-cross.ending;
    answer_is = c.status_of.ensures;
    written = (c.in-Ok-cross.ensures.written (record {
      b = as_bridge c.args.bridge;
      bridge = c.requires.bridge;
      pairs_are = sym c.as_slice-3.ensures.value;
      frames_are = refl;
      opened = both-opened c.args.bridge c.as_slice.result.now c.as_slice-2.result.now _ _ _ _ c.as_slice.ensures.value c.as_slice-2.ensures.value
          c.members_on-left_members.ensures c.members_on-right_members.ensures c.in-Ok.ensures c.in-Ok-open_side.ensures;
    })).all both plain;
  };
  part = λ e. absurd (end-written c.in-Ok-cross.ending c.status_of.result c.status_of.ensures e);
}

pub returns-in-Ok-cross-clause-cause : goal.returns-in-Ok-cross-clause-cause
returns-in-Ok-cross-clause-cause g c e = absurd (end-written c.in-Ok-cross.ending c.status_of.result c.status_of.ensures e)

pub returns-in-Ok-cross-clause-unopened : goal.returns-in-Ok-cross-clause-unopened
returns-in-Ok-cross-clause-unopened g c e = absurd (end-opened c.in-Ok-cross.ending c.status_of.result c.status_of.ensures e)

pub returns-in-Ok-cross-clause-one_of : goal.returns-in-Ok-cross-clause-one_of
returns-in-Ok-cross-clause-one_of g c = end-runs c.in-Ok-cross.ending c.status_of.result c.status_of.ensures

pub returns-clause-written : goal.returns-clause-written
returns-clause-written g c = record {
  ended = λ h. absurd h;
  part = λ e both plain. (c.in-Err-cross.ensures.written (record {
    b = as_bridge c.args.bridge;
    bridge = c.requires.bridge;
    pairs_are = sym c.as_slice-3.ensures.value;
    frames_are = refl;
    opened = both-opened c.args.bridge c.as_slice.result.now c.as_slice-2.result.now _ _ _ _ c.as_slice.ensures.value c.as_slice-2.ensures.value
        c.members_on-left_members.ensures c.members_on-right_members.ensures c.in-Ok.ensures c.in-Ok-open_side.ensures;
  })).part both plain;
}
