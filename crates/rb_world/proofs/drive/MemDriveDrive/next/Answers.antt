use Rattle.std.proofs.Common.{◌≡◌, is_some, sym, ap, ◌∙◌, subst}
use Rattle.rb_world_book.specs.Records.{record_of}
use Rattle.rb_world.specs.{Driving.{KeptTurns, bare, given_for}, Nexts.GoesToNext, Numbering.GoesInRounds, declared.ties.Ties.TheVariants.First}
use Rattle.rb_world.proofs.Masks.{bare-given, given-plain, record-given}
use Rattle.rb_world.proofs.drive.MemDriveDrive.next.Goals as goal

pub returns-clause-plain : goal.returns-clause-plain
returns-clause-plain g c =
    let mask : c.self.inside.mask ≡ c.args.self.now.mask = ap (λ (d : KeptTurns). d.mask) c.self.view_is in
    let is : c.given-turn.result ≡ given_for c.args.self.now.mask c.next-next.result = c.given-turn.ensures ∙ ap (λ m. given_for m c.next-next.result) mask in
    λ plain w stands.
    subst (λ t. GoesToNext First c.args.world.now c.next-next.new.self t w) (sym (is ∙ given-plain c.args.self.now.mask c.next-next.result plain))
    (c.next-next.ensures.world w stands)

pub returns-clause-rounds : goal.returns-clause-rounds
returns-clause-rounds g c =
    let mask : c.self.inside.mask ≡ c.args.self.now.mask = ap (λ (d : KeptTurns). d.mask) c.self.view_is in
    let is : c.given-turn.result ≡ given_for c.args.self.now.mask c.next-next.result = c.given-turn.ensures ∙ ap (λ m. given_for m c.next-next.result) mask in
    λ plain w stands.
    subst (λ t. GoesInRounds c.args.world.now c.next-next.new.self t w) (sym (is ∙ given-plain c.args.self.now.mask c.next-next.result plain))
    (c.next-next.ensures.rounds w stands)

pub returns-clause-record : goal.returns-clause-record
returns-clause-record g c =
    ap (λ t. is_some (record_of t)) c.given-turn.ensures ∙ record-given c.self.inside.mask c.next-next.result ∙ c.next-next.ensures.record

pub returns-clause-alike : goal.returns-clause-alike
returns-clause-alike g c = λ w is. record {
  turn = c.next-next.result;
  goes = c.next-next.ensures.world w is;
  alike = ap bare c.given-turn.ensures ∙ bare-given c.self.inside.mask c.next-next.result;
}

pub returns-clause-gives : goal.returns-clause-gives
returns-clause-gives g c =
    let mask : c.self.inside.mask ≡ c.args.self.now.mask = ap (λ (d : KeptTurns). d.mask) c.self.view_is in
    λ w is. record {
      turn = c.next-next.result;
      goes = c.next-next.ensures.world w is;
      given_by = c.given-turn.ensures ∙ ap (λ m. given_for m c.next-next.result) mask;
    }
