-- the fields of each line, and which line a text can be
use Rattle.std.proofs.{Common.{◌≡◌, ◌∙◌, ℕ, ◌+◌, ◌*◌, ◌<◌, ◌≤◌, ◌^◌, ◌==◌, true, false, List, [], ◌∷◌, ◌++◌, Option, Some, length, get_or, take, codes, refl, sym, ap, length-append, arith}, Math.Seq.take-append_seam, lemmas.Bool.{false≢true, eq-eqb}}
use Rattle.std.specs.{Fmt.decimal, Str.IsAscii}
use Rattle.rb_base.specs.{declared.node.NodeName.TheVariants.Biu, declared.values.Place.Place}
use Rattle.rb_rules.specs.declared.cause.Cause.{Cause}
use Rattle.rb_picture.specs.{declared.line.ConvictedLine.ConvictedLine, declared.line.DeliveryLine.DeliveryLine, declared.line.EpochLine.EpochLine, declared.line.FramePort.FramePort, declared.line.Line.Line, Fields.{above, field_at}, Lines.{ConvictedFits, DeliveryFits, EpochFits, Fits, PlaceFits, PortFits, line_body, line_parts, line_text, line_word}}
use Rattle.rb_picture.proofs.Spaces.{all_above, all_under, cause_above, cause_under, decimal_above, decimal_ascii, field_is, fields_above, fields_under, heard_above, heard_under, node_above, node_under, under_ascii}
use Rattle.rb_picture.specs.declared.line.Line.TheVariants as line

small : (n : ℕ) → n < 2 ^ 64 → above 32 (decimal n) ≡ true
small n fits = decimal_above 32 n (omega arith) fits

pub parts_above : (l : Line) → Fits l → all_above 32 (line_word l ∷ line_parts l) ≡ true
parts_above (line.Epoch l) fits = rw (small l.frame (omega (arith, fits.frame_fits)), node_above l.node fits.node_fits, small l.tick fits.tick_fits, small l.time fits.time_fits) refl
parts_above (line.Convicted l) fits =
    rw (small l.frame (omega (arith, fits.frame_fits)), node_above l.node fits.node_fits, small l.biu (omega (arith, fits.biu_fits)), small l.rmu (omega (arith, fits.rmu_fits))) refl
parts_above (line.Port l) fits =
    rw (small l.frame (omega (arith, fits.frame_fits)), node_above (Biu l.biu) fits.biu_fits, small l.state fits.state_fits, small l.losses (omega (arith, fits.losses_fit))) refl
parts_above (line.Delivery l) fits =
    rw (
      small l.frame (omega (arith, fits.frame_fits)),
      small l.slot (omega (arith, fits.slot_fits)),
      node_above (Biu l.receiver) fits.receiver_fits,
      node_above (Biu l.sender) fits.sender_fits,
      heard_above l.value fits.value_fits,
    ) refl
parts_above (line.End frames) fits = rw (small frames (omega (arith, fits))) refl
parts_above (line.Breach place cause) fits =
    rw (small place.frame (omega (arith, fits.frame_fits)), small place.slot (omega (arith, fits.slot_fits)), small place.stage (omega (arith, fits.stage_fits)), cause_above cause) refl

pub parts_under : (l : Line) → Fits l → all_under (line_word l ∷ line_parts l) ≡ true
parts_under (line.Epoch l) fits = rw (decimal_ascii l.frame (omega (arith, fits.frame_fits)), node_under l.node fits.node_fits, decimal_ascii l.tick fits.tick_fits, decimal_ascii l.time fits.time_fits) refl
parts_under (line.Convicted l) fits =
    rw (decimal_ascii l.frame (omega (arith, fits.frame_fits)), node_under l.node fits.node_fits, decimal_ascii l.biu (omega (arith, fits.biu_fits)), decimal_ascii l.rmu (omega (arith, fits.rmu_fits))) refl
parts_under (line.Port l) fits =
    rw (decimal_ascii l.frame (omega (arith, fits.frame_fits)), node_under (Biu l.biu) fits.biu_fits, decimal_ascii l.state fits.state_fits, decimal_ascii l.losses (omega (arith, fits.losses_fit))) refl
parts_under (line.Delivery l) fits =
    rw (
      decimal_ascii l.frame (omega (arith, fits.frame_fits)),
      decimal_ascii l.slot (omega (arith, fits.slot_fits)),
      node_under (Biu l.receiver) fits.receiver_fits,
      node_under (Biu l.sender) fits.sender_fits,
      heard_under l.value fits.value_fits,
    ) refl
parts_under (line.End frames) fits = rw (decimal_ascii frames (omega (arith, fits))) refl
parts_under (line.Breach place cause) fits =
    rw (decimal_ascii place.frame (omega (arith, fits.frame_fits)), decimal_ascii place.slot (omega (arith, fits.slot_fits)), decimal_ascii place.stage (omega (arith, fits.stage_fits)), cause_under cause) refl

-- a line is its body and a line feed
pub body_is : (l : Line) → line_text l ≡ line_body l ++ codes "\n"
body_is (line.Epoch l) = refl
body_is (line.Convicted l) = refl
body_is (line.Port l) = refl
body_is (line.Delivery l) = refl
body_is (line.End frames) = refl
body_is (line.Breach place cause) = refl

pub body_above : (l : Line) → Fits l → above 31 (line_body l) ≡ true
body_above l fits = fields_above (line_word l) (line_parts l) (parts_above l fits)

pub body_ascii : (l : Line) → Fits l → IsAscii (line_body l)
body_ascii l fits = under_ascii (line_body l) (fields_under (line_word l) (line_parts l) (parts_under l fits))

pub text_some : (l : Line) → 0 < length (line_text l)
text_some l = omega (arith, ap length (body_is l), length-append (line_body l) (codes "\n"))

-- a list with a last byte has one front alone
front_is : (bytes front b : List ℕ) (x y : ℕ) → bytes ≡ front ++ x ∷ [] → bytes ≡ b ++ y ∷ [] → front ≡ b
front_is bytes front b x y one two =
    let same : length front ≡ length b = omega (arith, ap length (sym one ∙ two), length-append front (x ∷ []), length-append b (y ∷ [])) in
    sym (take-append_seam front (x ∷ [])) ∙ ap (λ t. take (length front) t) (sym one ∙ two) ∙ ap (λ k. take k (b ++ y ∷ [])) same ∙ take-append_seam b (y ∷ [])

pub front_of_line : (bytes front : List ℕ) (x : ℕ) (l : Line) → bytes ≡ front ++ x ∷ [] → bytes ≡ line_text l → front ≡ line_body l
front_of_line bytes front x l one two = front_is bytes front (line_body l) x 10 one (two ∙ body_is l)

-- the field in place `n` of a line is part `n` of the line
pub part_is : (n : ℕ) (t : List ℕ) (l : Line) → Fits l → n ≤ length (line_parts l) → t ≡ line_body l → field_at n t ≡ get_or (line_word l ∷ line_parts l) n []
part_is n t l fits within is = ap (λ u. field_at n u) is ∙ field_is n (line_word l) (line_parts l) (parts_above l fits) within

-- words with unlike keys are unlike
abbrev key : List ℕ → ℕ
key word = get_or word 0 0 + 1000 * length word

unlike : (t a b : List ℕ) → t ≡ a → t ≡ b → (key a == key b) ≡ false → ⊥
unlike t a b is_a is_b other = false≢true (sym other ∙ eq-eqb (key a) (key b) (ap key (sym is_a ∙ is_b)))

word_is : (t : List ℕ) (l : Line) → Fits l → t ≡ line_body l → field_at 0 t ≡ line_word l
word_is t l fits is = part_is 0 t l fits (omega arith) is

-- a text that begins with e
pub only_epoch : (t : List ℕ) (r : Option Line) → field_at 0 t ≡ codes "e" → ((l : EpochLine) → EpochFits l → t ≡ line_body (line.Epoch l) → r ≡ Some (line.Epoch l))
    → (l : Line) → Fits l → t ≡ line_body l → r ≡ Some l
only_epoch t r first found (line.Epoch l) fits is = found l fits is
only_epoch t r first found (line.Convicted l) fits is = absurd (unlike (field_at 0 t) (codes "e") (codes "c") first (word_is t (line.Convicted l) fits is) refl)
only_epoch t r first found (line.Port l) fits is = absurd (unlike (field_at 0 t) (codes "e") (codes "p") first (word_is t (line.Port l) fits is) refl)
only_epoch t r first found (line.Delivery l) fits is = absurd (unlike (field_at 0 t) (codes "e") (codes "d") first (word_is t (line.Delivery l) fits is) refl)
only_epoch t r first found (line.End frames) fits is = absurd (unlike (field_at 0 t) (codes "e") (codes "end") first (word_is t (line.End frames) fits is) refl)
only_epoch t r first found (line.Breach place cause) fits is = absurd (unlike (field_at 0 t) (codes "e") (codes "breach") first (word_is t (line.Breach place cause) fits is) refl)

-- a text that begins with c
pub only_convicted : (t : List ℕ) (r : Option Line) → field_at 0 t ≡ codes "c" → ((l : ConvictedLine) → ConvictedFits l → t ≡ line_body (line.Convicted l) → r ≡ Some (line.Convicted l))
    → (l : Line) → Fits l → t ≡ line_body l → r ≡ Some l
only_convicted t r first found (line.Epoch l) fits is = absurd (unlike (field_at 0 t) (codes "c") (codes "e") first (word_is t (line.Epoch l) fits is) refl)
only_convicted t r first found (line.Convicted l) fits is = found l fits is
only_convicted t r first found (line.Port l) fits is = absurd (unlike (field_at 0 t) (codes "c") (codes "p") first (word_is t (line.Port l) fits is) refl)
only_convicted t r first found (line.Delivery l) fits is = absurd (unlike (field_at 0 t) (codes "c") (codes "d") first (word_is t (line.Delivery l) fits is) refl)
only_convicted t r first found (line.End frames) fits is = absurd (unlike (field_at 0 t) (codes "c") (codes "end") first (word_is t (line.End frames) fits is) refl)
only_convicted t r first found (line.Breach place cause) fits is = absurd (unlike (field_at 0 t) (codes "c") (codes "breach") first (word_is t (line.Breach place cause) fits is) refl)

-- a text that begins with p
pub only_port : (t : List ℕ) (r : Option Line) → field_at 0 t ≡ codes "p" → ((l : FramePort) → PortFits l → t ≡ line_body (line.Port l) → r ≡ Some (line.Port l))
    → (l : Line) → Fits l → t ≡ line_body l → r ≡ Some l
only_port t r first found (line.Epoch l) fits is = absurd (unlike (field_at 0 t) (codes "p") (codes "e") first (word_is t (line.Epoch l) fits is) refl)
only_port t r first found (line.Convicted l) fits is = absurd (unlike (field_at 0 t) (codes "p") (codes "c") first (word_is t (line.Convicted l) fits is) refl)
only_port t r first found (line.Port l) fits is = found l fits is
only_port t r first found (line.Delivery l) fits is = absurd (unlike (field_at 0 t) (codes "p") (codes "d") first (word_is t (line.Delivery l) fits is) refl)
only_port t r first found (line.End frames) fits is = absurd (unlike (field_at 0 t) (codes "p") (codes "end") first (word_is t (line.End frames) fits is) refl)
only_port t r first found (line.Breach place cause) fits is = absurd (unlike (field_at 0 t) (codes "p") (codes "breach") first (word_is t (line.Breach place cause) fits is) refl)

-- a text that begins with d
pub only_delivery : (t : List ℕ) (r : Option Line) → field_at 0 t ≡ codes "d" → ((l : DeliveryLine) → DeliveryFits l → t ≡ line_body (line.Delivery l) → r ≡ Some (line.Delivery l))
    → (l : Line) → Fits l → t ≡ line_body l → r ≡ Some l
only_delivery t r first found (line.Epoch l) fits is = absurd (unlike (field_at 0 t) (codes "d") (codes "e") first (word_is t (line.Epoch l) fits is) refl)
only_delivery t r first found (line.Convicted l) fits is = absurd (unlike (field_at 0 t) (codes "d") (codes "c") first (word_is t (line.Convicted l) fits is) refl)
only_delivery t r first found (line.Port l) fits is = absurd (unlike (field_at 0 t) (codes "d") (codes "p") first (word_is t (line.Port l) fits is) refl)
only_delivery t r first found (line.Delivery l) fits is = found l fits is
only_delivery t r first found (line.End frames) fits is = absurd (unlike (field_at 0 t) (codes "d") (codes "end") first (word_is t (line.End frames) fits is) refl)
only_delivery t r first found (line.Breach place cause) fits is = absurd (unlike (field_at 0 t) (codes "d") (codes "breach") first (word_is t (line.Breach place cause) fits is) refl)

-- a text that begins with end
pub only_end : (t : List ℕ) (r : Option Line) → field_at 0 t ≡ codes "end" → ((frames : ℕ) → frames < 2 ^ 32 → t ≡ line_body (line.End frames) → r ≡ Some (line.End frames))
    → (l : Line) → Fits l → t ≡ line_body l → r ≡ Some l
only_end t r first found (line.Epoch l) fits is = absurd (unlike (field_at 0 t) (codes "end") (codes "e") first (word_is t (line.Epoch l) fits is) refl)
only_end t r first found (line.Convicted l) fits is = absurd (unlike (field_at 0 t) (codes "end") (codes "c") first (word_is t (line.Convicted l) fits is) refl)
only_end t r first found (line.Port l) fits is = absurd (unlike (field_at 0 t) (codes "end") (codes "p") first (word_is t (line.Port l) fits is) refl)
only_end t r first found (line.Delivery l) fits is = absurd (unlike (field_at 0 t) (codes "end") (codes "d") first (word_is t (line.Delivery l) fits is) refl)
only_end t r first found (line.End frames) fits is = found frames fits is
only_end t r first found (line.Breach place cause) fits is = absurd (unlike (field_at 0 t) (codes "end") (codes "breach") first (word_is t (line.Breach place cause) fits is) refl)

-- a text that begins with breach
pub only_breach : (t : List ℕ) (r : Option Line) → field_at 0 t ≡ codes "breach" → ((place : Place) (cause : Cause) → PlaceFits place → t ≡ line_body (line.Breach place cause) → r ≡ Some (line.Breach place cause))
    → (l : Line) → Fits l → t ≡ line_body l → r ≡ Some l
only_breach t r first found (line.Epoch l) fits is = absurd (unlike (field_at 0 t) (codes "breach") (codes "e") first (word_is t (line.Epoch l) fits is) refl)
only_breach t r first found (line.Convicted l) fits is = absurd (unlike (field_at 0 t) (codes "breach") (codes "c") first (word_is t (line.Convicted l) fits is) refl)
only_breach t r first found (line.Port l) fits is = absurd (unlike (field_at 0 t) (codes "breach") (codes "p") first (word_is t (line.Port l) fits is) refl)
only_breach t r first found (line.Delivery l) fits is = absurd (unlike (field_at 0 t) (codes "breach") (codes "d") first (word_is t (line.Delivery l) fits is) refl)
only_breach t r first found (line.End frames) fits is = absurd (unlike (field_at 0 t) (codes "breach") (codes "end") first (word_is t (line.End frames) fits is) refl)
only_breach t r first found (line.Breach place cause) fits is = found place cause fits is

-- a text that begins with none of the words
pub no_line : (t : List ℕ) → (field_at 0 t ≡ codes "e" → ⊥) → (field_at 0 t ≡ codes "c" → ⊥) → (field_at 0 t ≡ codes "p" → ⊥) → (field_at 0 t ≡ codes "d" → ⊥) → (field_at 0 t ≡ codes "end" → ⊥) → (field_at 0 t ≡ codes "breach" → ⊥) → (l : Line) → Fits l → t ≡ line_body l → ⊥
no_line t e c p d end breach (line.Epoch l) fits is = e (word_is t (line.Epoch l) fits is)
no_line t e c p d end breach (line.Convicted l) fits is = c (word_is t (line.Convicted l) fits is)
no_line t e c p d end breach (line.Port l) fits is = p (word_is t (line.Port l) fits is)
no_line t e c p d end breach (line.Delivery l) fits is = d (word_is t (line.Delivery l) fits is)
no_line t e c p d end breach (line.End frames) fits is = end (word_is t (line.End frames) fits is)
no_line t e c p d end breach (line.Breach place cause) fits is = breach (word_is t (line.Breach place cause) fits is)

pub ruleset line_kinds = (only_epoch, only_convicted, only_port, only_delivery, only_end, only_breach, no_line)
