use Rattle.std.proofs.Common.{ℕ, ◌%◌, ◌/◌, refl, arith}
use Rattle.rb_world_agenda.proofs.Fours.{fours-least, fours-turned}
use Rattle.rb_world_agenda.proofs.tick_marks.Marks.least.Goals as goal

pub returns-then-least-clause-least : goal.returns-then-least-clause-least
returns-then-least-clause-least c =
    fours-least c.args.self.now.all c.args.self.now.leasts c.args.self.now.opened c.args.self.now.at c.four_at-own.result c.least_kept.result c.min-least.result
    c.requires c.four_at-own.ensures c.four_at-own.type_inv c.least_kept.ensures c.min-least.ensures

pub returns-clause-least : goal.returns-clause-least
returns-clause-least c =
    fours-least c.args.self.now.all c.args.self.now.leasts c.args.self.now.opened c.args.self.now.at c.four_at-own.result c.least_kept.result c.min-least.result
    c.requires c.four_at-own.ensures c.four_at-own.type_inv c.least_kept.ensures c.min-least.ensures

pub returns-clause-fours : goal.returns-clause-fours
returns-clause-fours c =
    let found : ℕ = c.min-least.result in
    fours-turned c.args.self.now.all c.args.self.now.leasts c.put_leasts.new.leasts c.args.self.now.opened c.args.self.now.at c.four_at-own.result (found % 32 / 4) (found % 32)
    c.requires c.four_at-own.ensures (omega arith) c.put_leasts.ensures (λ _. refl)
