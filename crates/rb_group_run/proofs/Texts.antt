-- The text of one turn more.
use Rattle.std.proofs.{Common.{◌≡◌, ℕ, nat_lt, if◌then◌else◌, Option, Some, None, List, [], ◌∷◌, ◌++◌, refl, sym, ◌∙◌, ap, arith, append_assoc}, lemmas.List.append-nil, lemmas.Bool.le-ltb}
use Rattle.std.specs.Option.{option_to_list}
use Rattle.rb_base.specs.declared.values.Heard.{Heard}
use Rattle.rb_rules.specs.{Book.Record, Goodness.Scenario}
use Rattle.rb_group.specs.{Groups.group_value, Portions.{port_deliveries, value_at}}
use Rattle.rb_group_run.specs.{declared.asked.Asked.Asked, declared.ports.Ports.Ports, Holding.HoldsFrame, Replies.{ending_in, ending_text, frame_of, frame_or, frame_text, record_text, text_after, turn_text}}

-- the text of records and one more
pub text_with : (sc : Scenario) (asked : Asked) (before rs : List Record) (o : Option Record)
    → text_after sc asked before (rs ++ option_to_list o) ≡ text_after sc asked before rs ++ turn_text sc asked (before ++ rs) o
text_with sc asked before [] None = refl
text_with sc asked before [] (Some r) =
    append-nil (record_text sc asked before r) ∙ ap (λ rs. record_text sc asked rs r) (sym (append-nil before))
text_with sc asked before (x ∷ rs) o =
    ap (λ t. record_text sc asked before x ++ t) (text_with sc asked (before ++ x ∷ []) rs o
    ∙ ap (λ xs. text_after sc asked (before ++ x ∷ []) rs ++ turn_text sc asked xs o) (append_assoc before (x ∷ []) rs))
    ∙ sym (append_assoc (record_text sc asked before x) (text_after sc asked (before ++ x ∷ []) rs) (turn_text sc asked (before ++ x ∷ rs) o))

-- what the port finds by what the ports have delivered in the frame
abbrev pub found : Asked → Ports → List Record → ℕ → Heard
found asked ports records i = group_value asked.which asked.members (port_deliveries ports.frame i records)

-- what a turn says, by the frame that is reached
pub turn_is : (sc : Scenario) (asked : Asked) (records : List Record) (ports : Ports) (o : Option Record) → HoldsFrame sc.frames asked records ports
    → (if nat_lt ports.frame (frame_or sc.frames ports.frame o) then frame_text sc ports.frame (found asked ports records) else []) ++ ending_in sc.frames o
    ≡ turn_text sc asked records o
turn_is sc asked records ports None hold =
    ap (λ b. (if b then frame_text sc ports.frame (found asked ports records) else []) ++ []) (le-ltb ports.frame ports.frame (omega arith))
turn_is sc asked records ports (Some r) hold =
    ap (λ f. (if nat_lt f (frame_of sc.frames r) then frame_text sc f (value_at asked.which asked.members records f) else []) ++ ending_text sc.frames r) hold.frame_is

pub turn_all : (sc : Scenario) (asked : Asked) (records : List Record) (ports : Ports) (o : Option Record) (frames next : ℕ)
    → frames ≡ sc.frames → next ≡ frame_or frames ports.frame o → HoldsFrame sc.frames asked records ports
    → (if nat_lt ports.frame next then frame_text sc ports.frame (found asked ports records) else []) ++ ending_in frames o ≡ turn_text sc asked records o
turn_all sc asked records ports o frames next are is hold =
    ap (λ n. (if nat_lt ports.frame n then frame_text sc ports.frame (found asked ports records) else []) ++ ending_in frames o) is
    ∙ ap (λ f. (if nat_lt ports.frame (frame_or f ports.frame o) then frame_text sc ports.frame (found asked ports records) else []) ++ ending_in f o) are
    ∙ turn_is sc asked records ports o hold
