use Rattle.std.proofs.Common.{ℕ, List, subst, sym}
use Rattle.rb_outside.specs.Bytes.{ReadsToEnd}
use Rattle.rb_top.specs.{Commands.{IsReplay, replay_command}, Inputs.{BreaksLog, log_limit}, declared.form.Form.TheVariants.Replay}
use Rattle.rb_top.proofs.{CommandAnswers.{alone_answers, logs_write, unread_answers}, Completeness.replay_sound, Called.answers_alone}
use Rattle.rb_top.proofs.commands.replay.Goals as goal

pub returns-in-Ok-clause-answers : goal.returns-in-Ok-clause-answers
returns-in-Ok-clause-answers g c =
    answers_alone Replay replay_sound _ _ _
    (λ is_plain told.
    let P : List ℕ → Type 0 = λ b. ReadsToEnd (g.S.Source.left c.args.input.now) (g.S.Source.left c.read_log.new.input) b in
    alone_answers log_limit IsReplay BreaksLog c.deref.result.now c.replay_bytes.result _ _ is_plain told
    (subst P (sym c.deref.ensures.value) c.in-Ok.ensures.whole) c.in-Ok.ensures.short_enough c.replay_bytes.ensures)

pub returns-in-Ok-clause-unwritten : goal.returns-in-Ok-clause-unwritten
returns-in-Ok-clause-unwritten g c = λ h. absurd (logs_write c.replay_bytes.result c.replay_bytes.ensures.one_of h)

pub returns-in-Err-clause-answers : goal.returns-in-Err-clause-answers
returns-in-Err-clause-answers g c =
    answers_alone Replay replay_sound _ _ _
    (λ is_plain told. unread_answers replay_command c.in-Err.status _ _ is_plain told c.in-Err.ensures.one_of c.in-Err.ensures.unread)
