use Rattle.std.proofs.Common.{◌≡◌, length, ap, arith}
use Rattle.rb_picture.specs.Lines.{line_place, line_text}
use Rattle.rb_picture.proofs.{Orders.{some_bytes, too_early}, Whole.{found_is, its_length, its_line, its_text, no_feed, not_spelled}}
use Rattle.rb_picture.proofs.reading.next_line.Goals as goal

pub returns-in_default-clause-fault : goal.returns-in_default-clause-fault
returns-in_default-clause-fault c =
    (some_bytes c.args.bytes.now c.requires, no_feed c.args.bytes.now c.line_length.result c.line_length.ensures.first c.in_default.is)

pub returns-in_default-clause-each : goal.returns-in_default-clause-each
returns-in_default-clause-each c l tail fits is less =
    absurd (no_feed c.args.bytes.now c.line_length.result c.line_length.ensures.first c.in_default.is l tail fits is)

pub returns-in_default-spelled_by-clause-fault : goal.returns-in_default-spelled_by-clause-fault
returns-in_default-spelled_by-clause-fault c = (
  some_bytes c.args.bytes.now c.requires,
  λ l tail fits is.
      let n_is = its_length c.args.bytes.now c.line_length.result c.in-Some.length c.line_length.ensures.first c.in-Some.is l tail fits is in
      not_spelled c.spelled_by.result l c.in_default-spelled_by.is (c.spelled_by.ensures.each l fits (its_text c.args.bytes.now c.in-Some.length l tail n_is is)),
)

pub returns-in_default-spelled_by-clause-each : goal.returns-in_default-spelled_by-clause-each
returns-in_default-spelled_by-clause-each c l tail fits is less =
    let n_is = its_length c.args.bytes.now c.line_length.result c.in-Some.length c.line_length.ensures.first c.in-Some.is l tail fits is in
    absurd (not_spelled c.spelled_by.result l c.in_default-spelled_by.is (c.spelled_by.ensures.each l fits (its_text c.args.bytes.now c.in-Some.length l tail n_is is)))

pub returns-then-line_place-newest-clause-fault : goal.returns-then-line_place-newest-clause-fault
returns-then-line_place-newest-clause-fault c =
    too_early c.args.bytes.now c.in-Some.length c.args.newest c.in-Some-spelled_by.line c.in-Some-spelled_by.ensures.some
    (omega (arith, c.if-line_place-newest.true, c.line_place.ensures))

pub returns-then-line_place-newest-clause-each : goal.returns-then-line_place-newest-clause-each
returns-then-line_place-newest-clause-each c l tail fits is less =
    let n_is = its_length c.args.bytes.now c.line_length.result c.in-Some.length c.line_length.ensures.first c.in-Some.is l tail fits is in
    let l_is : c.in-Some-spelled_by.line ≡ l = its_line c.spelled_by.result c.in-Some-spelled_by.line l c.in-Some-spelled_by.is (c.spelled_by.ensures.each l fits (its_text c.args.bytes.now c.in-Some.length l tail n_is is)) in
    absurd (omega (arith, less, c.if-line_place-newest.true, c.line_place.ensures, ap line_place l_is))

pub returns-clause-each : goal.returns-clause-each
returns-clause-each c l tail fits is less =
    let n_is = its_length c.args.bytes.now c.line_length.result c.in-Some.length c.line_length.ensures.first c.in-Some.is l tail fits is in
    let l_is : c.in-Some-spelled_by.line ≡ l = its_line c.spelled_by.result c.in-Some-spelled_by.line l c.in-Some-spelled_by.is (c.spelled_by.ensures.each l fits (its_text c.args.bytes.now c.in-Some.length l tail n_is is)) in
    found_is c.in-Some-spelled_by.line l c.in-Some.length (length (line_text l)) l_is n_is
