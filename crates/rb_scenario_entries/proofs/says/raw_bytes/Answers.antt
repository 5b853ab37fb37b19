use Rattle.std.proofs.{Common.{◌≡◌, ◌<◌, ◌/◌, ◌⊎◌, ℕ, List, length, None, Result, Ok, Err, arith, sym, refl, rules, inl, inr}, lemmas.Grind.common_steps}
use Rattle.hex.specs.{Hex.decode_of, declared.FromHexError.FromHexError}
use Rattle.hex.proofs.HexLemmas.{decode_of-ok}
use Rattle.rb_scenario_entries.specs.Says.{short_bytes}
use Rattle.rb_scenario_entries.proofs.says.raw_bytes.Goals.{then-len-eq0-via-then-len-eq0, then-len-eq0-via-else-len-eq0+then-len-gt32}
use Rattle.rb_scenario_entries.proofs.says.raw_bytes.Goals as goal

none_short : (text : List ℕ) (r : Result (List ℕ) FromHexError) → decode_of text ≡ r → (length text / 2 ≡ 0) ⊎ (32 < length text / 2) → short_bytes r ≡ None
none_short text (Err e) d h = refl
none_short text (Ok bs) d h = let n = (decode_of-ok text bs d).2 in grind (arith, common_steps, n, h)

pub returns-then-len-eq0 : goal.returns-then-len-eq0
returns-then-len-eq0 c = sym (none_short c.args.text.now _ refl (elim c.then-len-eq0.branch [
  | then-len-eq0-via-then-len-eq0 w ↦ inl (search rules)
  | then-len-eq0-via-else-len-eq0+then-len-gt32 w ↦ inr (search rules)
]))
