use Rattle.std.proofs.Common.{◌≡◌, ◌⊎◌, inl, inr, refl, subst, sym}
use Rattle.rb_picture.specs.{declared.form.Form.TheVariants.{Draw, Show}, declared.status.Status.Status, declared.status.Status.TheVariants.{Done, Refused, WriteFault}, Answers.WritesNothing, Forms.AskFor}
use Rattle.rb_picture.proofs.Words.{no_frames}
use Rattle.rb_picture.proofs.draw.draw.Goals as goal

-- a page is written, or a write failed
page_writes : (status : Status) → (status ≡ Done) ⊎ (status ≡ WriteFault) → ¬ WritesNothing status
page_writes status (inl e) none = subst WritesNothing e none
page_writes status (inr e) none = subst WritesNothing e none

page_stands : (status : Status) → (status ≡ Done) ⊎ (status ≡ WriteFault) → ¬ (status ≡ Refused)
page_stands status (inl e) refused = cc
page_stands status (inr e) refused = cc

page_done : (status : Status) (A : Type 0) → (status ≡ Done) ⊎ (status ≡ WriteFault) → (status ≡ WriteFault → A) → ¬ A → status ≡ Done
page_done status A (inl e) cause none = e
page_done status A (inr e) cause none = absurd (none (cause e))

pub returns-in-Some-Draw : goal.returns-in-Some-Draw
returns-in-Some-Draw g c =
    let draws : AskFor c.args.words.now (Draw c.in-Some-Draw.frames) = subst (AskFor c.args.words.now) c.in-Some-Draw.field-0-is c.in-Some-Draw.ensures.some in record {
      usage = record {
        unknown = λ e. absurd (c.draw_frames.ensures.known e);
        refused = λ none. absurd (none (Draw c.in-Some-Draw.frames) draws);
        known = λ _. (Draw c.in-Some-Draw.frames, draws);
      };
      untouched = record {
        unread = λ e. absurd (c.draw_frames.ensures.known e);
        without_input = λ flag shows. absurd (no_frames c.args.words.now c.in-Some-Draw.frames flag draws shows);
        unwritten = c.draw_frames.ensures.nothing;
      };
      done = λ e. record { form = Draw c.in-Some-Draw.frames; asked = draws; gives = c.draw_frames.ensures.done e };
      refused = c.draw_frames.ensures.refused;
      write_fault = λ e. (record { form = Draw c.in-Some-Draw.frames; asked = draws; gives = c.draw_frames.ensures.part e }, c.draw_frames.ensures.cause e);
      too_long = c.draw_frames.ensures.too_long;
      read_fault = c.draw_frames.ensures.read_fault;
      complete = record {
        drawn = λ frames input asked readable. c.draw_frames.ensures.complete input readable;
        shown = λ flag shows. absurd (no_frames c.args.words.now c.in-Some-Draw.frames flag draws shows);
      };
    }

pub returns-in-Some-Show : goal.returns-in-Some-Show
returns-in-Some-Show g c =
    let shows : AskFor c.args.words.now (Show c.in-Some-Show.flag) = subst (AskFor c.args.words.now) c.in-Some-Show.field-0-is c.in-Some-Show.ensures.some in
    let written : ¬ WritesNothing c.write_page.result = page_writes c.write_page.result c.write_page.ensures.either in record {
      usage = record {
        unknown = λ e. absurd (written (subst WritesNothing (sym e) tt));
        refused = λ none. absurd (none (Show c.in-Some-Show.flag) shows);
        known = λ _. (Show c.in-Some-Show.flag, shows);
      };
      untouched = record { unread = λ e. refl; without_input = λ flag asked. refl; unwritten = λ none. absurd (written none) };
      done = λ e. record { form = Show c.in-Some-Show.flag; asked = shows; gives = (refl, c.write_page.ensures.whole e) };
      refused = λ e. absurd (page_stands c.write_page.result c.write_page.ensures.either e);
      write_fault = λ e. (record { form = Show c.in-Some-Show.flag; asked = shows; gives = (refl, c.write_page.ensures.part e) }, c.write_page.ensures.cause e);
      too_long = λ e. absurd (written (subst WritesNothing (sym e) tt));
      read_fault = λ e. absurd (written (subst WritesNothing (sym e) tt));
      complete = record {
        drawn = λ frames input draws. absurd (no_frames c.args.words.now frames c.in-Some-Show.flag draws shows);
        shown = λ flag asked none. page_done c.write_page.result _ c.write_page.ensures.either c.write_page.ensures.cause none;
      };
    }

pub returns-in-None : goal.returns-in-None
returns-in-None g c = record {
  usage = record { unknown = λ e. c.in-None.ensures.none; refused = λ none. refl; known = λ other. absurd (other refl) };
  untouched = record { unread = λ e. refl; without_input = λ flag asked. refl; unwritten = λ none. refl };
  done = λ e. absurd (cc);
  refused = λ e. absurd (cc);
  write_fault = λ e. absurd (cc);
  too_long = λ e. absurd (cc);
  read_fault = λ e. absurd (cc);
  complete = record {
    drawn = λ frames input asked. absurd (c.in-None.ensures.none (Draw frames) asked);
    shown = λ flag asked. absurd (c.in-None.ensures.none (Show flag) asked);
  };
}
