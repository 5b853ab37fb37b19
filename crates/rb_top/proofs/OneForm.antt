-- Words ask for one form.
use Rattle.std.proofs.{Common.{◌≡◌, ℕ, List, codes, drop, get_or, [], ◌∷◌, String, Result, Ok, Err, arith, sym, ◌∙◌, ap, refl}, lemmas.Fmt.decimal_injective}
use Rattle.arrayvec.specs.ArrayVec.{ArrayVec}
use Rattle.hex.specs.{Hex.{IsBytes, decode_of, encode_lower}, declared.FromHexError.FromHexError}
use Rattle.hex.proofs.HexLemmas.{decode_of-encode_lower}
use Rattle.std.specs.{Fmt.decimal, declared.alloc.Global.Global}
use Rattle.rb_base.specs.{declared.node.NodeName.NodeName, declared.node.NodeName.TheVariants.{Biu, Rmu}}
use Rattle.rb_scenario_document.specs.Names.{IsNumbered}
use Rattle.rb_flags.specs.{declared.Flag.Flag, Flags.flag_text}
use Rattle.rb_flags.proofs.OneFlag.{no_flag, one_flag}
use Rattle.rb_group.specs.{declared.voters.Which.Which, declared.voters.Which.TheVariants.{Most, Mid}}
use Rattle.rb_report.specs.Report.{node_text}
use Rattle.rb_top.specs.{declared.form.Form.Form, declared.form.Form.TheVariants.{Run, Check, Gen, Stress, Record, Replay, Spell, Letters, Group, Listen, Show}, Words.{AreNumbers, AskFor, IsInRange, IsLetter, IsMask, voter_text, words_of}}

-- equal digits are of equal numbers
same_numbers : (make : ℕ → ℕ → Form) (seed frames seed' frames' : ℕ) → AreNumbers seed frames → AreNumbers seed' frames'
    → decimal seed ≡ decimal seed' → decimal frames ≡ decimal frames' → make seed frames ≡ make seed' frames'
same_numbers make seed frames seed' frames' a b is_seed is_frames =
    let s : seed ≡ seed' = decimal_injective seed seed' a.seed_fits b.seed_fits is_seed in
    let f : frames ≡ frames' = decimal_injective frames frames' (omega (arith, a.most_frames)) (omega (arith, b.most_frames)) is_frames in
    ap (λ x. make x frames) s ∙ ap (λ x. make seed' x) f

-- the word at a place
abbrev word : ℕ → List (List ℕ) → List ℕ
word n words = get_or words n []

-- equal texts are of equal nodes
same_node : (a b : NodeName) → IsNumbered a → IsNumbered b → node_text a ≡ node_text b → a ≡ b
same_node (Biu i) (Biu j) p q e = ap Biu (decimal_injective i j (omega (arith, p)) (omega (arith, q)) (ap (drop 1) e))
same_node (Biu i) (Rmu j) p q e = let letters : 66 ≡ 82 = ap (λ xs. get_or xs 0 0) e in absurd (omega (arith, letters))
same_node (Rmu i) (Biu j) p q e = let letters : 82 ≡ 66 = ap (λ xs. get_or xs 0 0) e in absurd (omega (arith, letters))
same_node (Rmu i) (Rmu j) p q e = ap Rmu (decimal_injective i j (omega (arith, p)) (omega (arith, q)) (ap (drop 1) e))

bytes_or : Result (List ℕ) FromHexError → List ℕ
bytes_or (Ok bytes) = bytes
bytes_or (Err e) = []

-- equal digits are of equal letters
same_bytes : (a b : List ℕ) → IsBytes a → IsBytes b → encode_lower a ≡ encode_lower b → a ≡ b
unfolding bytes_or
same_bytes a b is_a is_b e =
    ap bytes_or (sym (decode_of-encode_lower a is_a) ∙ ap decode_of e ∙ decode_of-encode_lower b is_b)

same_letter : (a b : ArrayVec ℕ) → IsLetter a.items → IsLetter b.items → encode_lower a.items ≡ encode_lower b.items → a ≡ b
same_letter a b is_a is_b e =
    let kept : List ℕ → ArrayVec ℕ = λ bytes. record { items = bytes } in
    ap kept (same_bytes a.items b.items is_a.all_bytes is_b.all_bytes e)

-- equal words are of equal voters
same_voter : (a b : Which) → voter_text a ≡ voter_text b → a ≡ b
same_voter Most Most e = refl
same_voter Most Mid e = let letters : 111 ≡ 105 = ap (λ xs. get_or xs 1 0) e in absurd (omega (arith, letters))
same_voter Mid Most e = let letters : 105 ≡ 111 = ap (λ xs. get_or xs 1 0) e in absurd (omega (arith, letters))
same_voter Mid Mid e = refl

same_group : (which which' : Which) (members members' : ℕ) → IsMask members → IsMask members' → voter_text which ≡ voter_text which'
    → decimal members ≡ decimal members' → Group which members ≡ Group which' members'
same_group which which' members members' a b is_voter is_members =
    let w : which ≡ which' = same_voter which which' is_voter in
    let m : members ≡ members' = decimal_injective members members' (omega (arith, a.mask_fits)) (omega (arith, b.mask_fits)) is_members in
    ap (λ x. Group x members) w ∙ ap (λ x. Group which' x) m

-- the form whose word is a flag
to_show : (form : Form) (flag : Flag) → words_of form ≡ flag_text flag ∷ [] → form ≡ Show flag
to_show Run flag e = absurd (no_flag flag (codes "run") (omega arith) (ap (word 0) e))
to_show Check flag e = absurd (no_flag flag (codes "check") (omega arith) (ap (word 0) e))
to_show (Gen seed frames) flag e = absurd (no_flag flag (codes "gen") (omega arith) (ap (word 0) e))
to_show (Stress seed frames) flag e = absurd (no_flag flag (codes "stress") (omega arith) (ap (word 0) e))
to_show (Record node) flag e = absurd (no_flag flag (codes "record") (omega arith) (ap (word 0) e))
to_show Replay flag e = absurd (no_flag flag (codes "replay") (omega arith) (ap (word 0) e))
to_show (Spell letter) flag e = absurd (no_flag flag (codes "spell") (omega arith) (ap (word 0) e))
to_show Letters flag e = absurd (no_flag flag (codes "letters") (omega arith) (ap (word 0) e))
to_show (Group which members) flag e = absurd (no_flag flag (codes "group") (omega arith) (ap (word 0) e))
to_show (Listen skip) flag e = absurd (no_flag flag (codes "listen") (omega arith) (ap (word 0) e))
to_show (Show flag') flag e = ap Show (one_flag flag' flag (ap (word 0) e))

same_form : (a b : Form) → IsInRange a → IsInRange b → words_of a ≡ words_of b → a ≡ b
same_form Run Run i j e = refl
same_form Run Check i j e = cc
same_form Run (Gen seed' frames') i j e = cc
same_form Run (Stress seed' frames') i j e = cc
same_form Run (Record node') i j e = cc
same_form Run Replay i j e = cc
same_form Run (Spell letter') i j e = cc
same_form Run Letters i j e = cc
same_form Run (Group which' members') i j e = cc
same_form Run (Listen skip') i j e = cc
same_form Check Run i j e = cc
same_form Check Check i j e = refl
same_form Check (Gen seed' frames') i j e = cc
same_form Check (Stress seed' frames') i j e = cc
same_form Check (Record node') i j e = cc
same_form Check Replay i j e = cc
same_form Check (Spell letter') i j e = cc
same_form Check Letters i j e = cc
same_form Check (Group which' members') i j e = cc
same_form Check (Listen skip') i j e = cc
same_form (Gen seed frames) Run i j e = cc
same_form (Gen seed frames) Check i j e = cc
same_form (Gen seed frames) (Gen seed' frames') i j e = same_numbers Gen seed frames seed' frames' i j (ap (word 1) e) (ap (word 2) e)
same_form (Gen seed frames) (Stress seed' frames') i j e = cc
same_form (Gen seed frames) (Record node') i j e = cc
same_form (Gen seed frames) Replay i j e = cc
same_form (Gen seed frames) (Spell letter') i j e = cc
same_form (Gen seed frames) Letters i j e = cc
same_form (Gen seed frames) (Group which' members') i j e = cc
same_form (Gen seed frames) (Listen skip') i j e = cc
same_form (Stress seed frames) Run i j e = cc
same_form (Stress seed frames) Check i j e = cc
same_form (Stress seed frames) (Gen seed' frames') i j e = cc
same_form (Stress seed frames) (Stress seed' frames') i j e = same_numbers Stress seed frames seed' frames' i j (ap (word 1) e) (ap (word 2) e)
same_form (Stress seed frames) (Record node') i j e = cc
same_form (Stress seed frames) Replay i j e = cc
same_form (Stress seed frames) (Spell letter') i j e = cc
same_form (Stress seed frames) Letters i j e = cc
same_form (Stress seed frames) (Group which' members') i j e = cc
same_form (Stress seed frames) (Listen skip') i j e = cc
same_form (Record node) Run i j e = cc
same_form (Record node) Check i j e = cc
same_form (Record node) (Gen seed' frames') i j e = cc
same_form (Record node) (Stress seed' frames') i j e = cc
same_form (Record node) (Record node') i j e = ap Record (same_node node node' i j (ap (word 1) e))
same_form (Record node) Replay i j e = cc
same_form (Record node) (Spell letter') i j e = cc
same_form (Record node) Letters i j e = cc
same_form (Record node) (Group which' members') i j e = cc
same_form (Record node) (Listen skip') i j e =
    let letters : 114 ≡ 108 = ap (λ words. get_or (word 0 words) 0 0) e in absurd (omega (arith, letters))
same_form Replay Run i j e = cc
same_form Replay Check i j e = cc
same_form Replay (Gen seed' frames') i j e = cc
same_form Replay (Stress seed' frames') i j e = cc
same_form Replay (Record node') i j e = cc
same_form Replay Replay i j e = refl
same_form Replay (Spell letter') i j e = cc
same_form Replay Letters i j e = cc
same_form Replay (Group which' members') i j e = cc
same_form Replay (Listen skip') i j e = cc
same_form (Spell letter) Run i j e = cc
same_form (Spell letter) Check i j e = cc
same_form (Spell letter) (Gen seed' frames') i j e = cc
same_form (Spell letter) (Stress seed' frames') i j e = cc
same_form (Spell letter) (Record node') i j e = cc
same_form (Spell letter) Replay i j e = cc
same_form (Spell letter) (Spell letter') i j e = ap Spell (same_letter letter letter' i j (ap (word 1) e))
same_form (Spell letter) Letters i j e = cc
same_form (Spell letter) (Group which' members') i j e = cc
same_form (Spell letter) (Listen skip') i j e = cc
same_form Letters Run i j e = cc
same_form Letters Check i j e = cc
same_form Letters (Gen seed' frames') i j e = cc
same_form Letters (Stress seed' frames') i j e = cc
same_form Letters (Record node') i j e = cc
same_form Letters Replay i j e = cc
same_form Letters (Spell letter') i j e = cc
same_form Letters Letters i j e = refl
same_form Letters (Group which' members') i j e = cc
same_form Letters (Listen skip') i j e = cc
same_form (Group which members) Run i j e = cc
same_form (Group which members) Check i j e = cc
same_form (Group which members) (Gen seed' frames') i j e = cc
same_form (Group which members) (Stress seed' frames') i j e = cc
same_form (Group which members) (Record node') i j e = cc
same_form (Group which members) Replay i j e = cc
same_form (Group which members) (Spell letter') i j e = cc
same_form (Group which members) Letters i j e = cc
same_form (Group which members) (Group which' members') i j e = same_group which which' members members' i j (ap (word 1) e) (ap (word 2) e)
same_form (Group which members) (Listen skip') i j e = cc
same_form (Listen skip) Run i j e = cc
same_form (Listen skip) Check i j e = cc
same_form (Listen skip) (Gen seed' frames') i j e = cc
same_form (Listen skip) (Stress seed' frames') i j e = cc
same_form (Listen skip) (Record node') i j e =
    let letters : 108 ≡ 114 = ap (λ words. get_or (word 0 words) 0 0) e in absurd (omega (arith, letters))
same_form (Listen skip) Replay i j e = cc
same_form (Listen skip) (Spell letter') i j e = cc
same_form (Listen skip) Letters i j e = cc
same_form (Listen skip) (Group which' members') i j e = cc
same_form (Listen skip) (Listen skip') i j e =
    ap Listen (decimal_injective skip skip' (omega (arith, i)) (omega (arith, j)) (ap (word 1) e))
same_form form (Show flag) i j e = to_show form flag e
same_form (Show flag) form i j e = sym (to_show form flag (sym e))

pub one_form : (words : List (String Global)) (a b : Form) → AskFor words a → AskFor words b → a ≡ b
one_form words a b is_a is_b = same_form a b is_a.in_range is_b.in_range (sym is_a.same ∙ is_b.same)
