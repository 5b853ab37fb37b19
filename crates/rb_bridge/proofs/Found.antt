-- What receivers find, as it is written.
use Rattle.std.proofs.{Common.{◌≡◌, ℕ, zero, suc, List, ◌++◌, Option, Some, None, option_map, refl, sym, ◌∙◌, ap, subst}, Math.Path.fun_ext}
use Rattle.std.specs.{Io.KnownBytes.Appends, List.flat_map}
use Rattle.rb_base.specs.Counting.{numbers}
use Rattle.rb_outside.proofs.Known.{appends_none}
use Rattle.rb_rules_bridge.specs.{declared.bank.Bank.Bank, declared.bank.Bank.TheVariants.{Left, Right}, Bridges.{Bridge, bus_on, members_on}, Crossings.crossing_value, Texts.{frame_text, receiver_text, receivers_text, side_breach_text}}
use Rattle.rb_bridge.specs.{Receivers.{most_found, receiver_by, receivers_by}, Refusals.bank_of, declared.side.Side.Side, declared.telling.Breach.Breach, Crossing.{Finds, shown, told_text}}

-- the lines of what the receivers found are those of the bridge
pub found-lines : (b : Bridge) (bank : Bank) (frame : ℕ) (s : Side) → (is : Finds b bank frame s)
    → receivers_by (bus_on b bank) frame bank (most_found (members_on b bank) is.told) ≡ receivers_text b frame bank
found-lines b bank frame s is =
    ap (receivers_by (bus_on b bank) frame bank) (fun_ext is.values)
    ∙ ap (λ line. flat_map line (numbers (bus_on b bank).sizes.bius)) (fun_ext (λ i. same i))
  where
    same : (i : ℕ) → receiver_by (bus_on b bank) frame bank (crossing_value b bank frame) i ≡ receiver_text b frame bank i
    same i = refl

pub finds-own : (b : Bridge) (bank : Bank) (frame : ℕ) (s : Side) → Finds b bank frame s → Finds b bank s.passage.ports.frame s
finds-own b bank frame s is = subst (λ f. Finds b bank f s) (sym is.frame_is) is

-- Nothing is said of the first frame.

pub first-lines : (b : Bridge) (frame : ℕ) (held : Option (List ℕ)) → frame ≡ 0 → Appends held held (frame_text b frame)
first-lines b frame held is = subst (λ f. Appends held held (frame_text b f)) (sym is) (appends_none held)

pub frame-lines : (b : Bridge) (frame : ℕ) → (frame ≡ 0 → ⊥) → receivers_text b frame Left ++ receivers_text b frame Right ≡ frame_text b frame
frame-lines b zero later = absurd (later refl)
frame-lines b (suc frame) later = refl

-- what is said of a frame, by its breach
pub breach-lines : (b : Bridge) (frame : ℕ) (o : Option Breach) (x : Breach) → o ≡ Some x → side_breach_text (bank_of x.right) x.place x.cause ≡ told_text b frame (option_map shown o)
breach-lines b frame o x is = sym (ap (λ o. told_text b frame (option_map shown o)) is)

pub none-lines : (b : Bridge) (frame : ℕ) (o : Option Breach) → o ≡ None → frame_text b frame ≡ told_text b frame (option_map shown o)
none-lines b frame o is = sym (ap (λ o. told_text b frame (option_map shown o)) is)
