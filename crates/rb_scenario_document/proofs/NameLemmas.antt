-- Names of nodes: what an index below 16 looks like in decimal, and that each name has one index.
use Rattle.std.proofs.{Common.{◌≡◌, ℕ, ◌+◌, ◌-◌, ◌/◌, ◌%◌, ◌<◌, ◌≤◌, ◌≢◌, ◌⊎◌, inl, inr, zero, suc, List, [], ◌∷◌, length, get_or, take, drop, decimal, IfSome, IfNone, refl, sym, ap, subst, ◌∙◌, arith, Option, Some, None, Bool, true, false, cond}, lemmas.Bool.{cases_lt, false_from_ne_true}, lemmas.Fmt.{decimal_digit, decimal_step, decimal_injective}, lemmas.List.take_rest, lemmas.Slice.Eq.bytes_eq-Decides}
use Rattle.std.specs.{List.{find, range_with_len}, Str.bytes_eq, Prelude.option_map, Option.option_or}
use Rattle.toml.specs.Data.{Data, Members, string, integer, float, boolean, datetime, array, table, get_member}
use Rattle.rb_base.specs.{Sizes.Sizes, declared.node.NodeName.NodeName, declared.node.NodeName.TheVariants.{Biu, Rmu}}
use Rattle.rb_scenario_document.specs.Names.{IsNumbered, biu_letter, indexed, named, node_at, node_named, rmu_letter, text_or_none}

-- a number from 10 on has two digits
pub decimal_two_digits : (i : ℕ) → 10 ≤ i → i < 16 → decimal i ≡ 49 ∷ (38 + i) ∷ []
decimal_two_digits i low high =
    let tens : i / 10 ≡ 1 = omega arith in
    let ones : 48 + i % 10 ≡ 38 + i = omega arith in
    rw (decimal_step i low (omega arith), tens, decimal_digit 1 (omega arith), ones) refl

-- `digits` is the one digit of an index below 10
pub record IsOneDigit (digits : List ℕ) (i : ℕ) : Type 0 where
  pub long : length digits ≡ 1
  pub ones : get_or digits 0 0 ≡ 48 + i
  pub low : i < 10

pub record IsTwoDigits (digits : List ℕ) (i : ℕ) : Type 0 where
  pub long : length digits ≡ 2
  pub tens : get_or digits 0 0 ≡ 49
  pub ones : get_or digits 1 0 ≡ 38 + i
  pub high : 10 ≤ i

pub digits_shape : (digits : List ℕ) (i : ℕ) → i < 16 → digits ≡ decimal i → IsOneDigit digits i ⊎ IsTwoDigits digits i
digits_shape digits i h e = elim (cases_lt i 10) [
  | inl low ↦
      let is : digits ≡ (48 + i) ∷ [] = e ∙ decimal_digit i low in
      inl (record { long = ap length is; ones = ap (λ ds. get_or ds 0 0) is; low = low })
  | inr high ↦
      let is : digits ≡ 49 ∷ (38 + i) ∷ [] = e ∙ decimal_two_digits i high h in
      inr (record { long = ap length is; tens = ap (λ ds. get_or ds 0 0) is; ones = ap (λ ds. get_or ds 1 0) is; high = high })
]

pub spelled_one : (digits : List ℕ) → length digits ≡ 1 → 48 ≤ get_or digits 0 0 → get_or digits 0 0 ≤ 57 → digits ≡ decimal (get_or digits 0 0 - 48)
spelled_one [] l low high = absurd (omega arith)
spelled_one (a ∷ []) l low high = let is : 48 + (a - 48) ≡ a = omega arith in rw (decimal_digit (a - 48) (omega arith), is) refl
spelled_one (a ∷ b ∷ ds) l low high = absurd (omega arith)

pub spelled_two : (digits : List ℕ) → length digits ≡ 2 → get_or digits 0 0 ≡ 49 → 48 ≤ get_or digits 1 0 → get_or digits 1 0 ≤ 53
    → digits ≡ decimal (10 + (get_or digits 1 0 - 48))
spelled_two [] l first low high = absurd (omega arith)
spelled_two (a ∷ []) l first low high = absurd (omega arith)
spelled_two (a ∷ b ∷ []) l first low high =
    let is : 38 + (10 + (b - 48)) ≡ b = omega arith in rw (decimal_two_digits (10 + (b - 48)) (omega arith) (omega arith), is, first) refl
spelled_two (a ∷ b ∷ d ∷ ds) l first low high = absurd (omega arith)

-- a search over numbers in order gives the first that passes
find_none : (p : ℕ → Bool) (a n : ℕ) → ((j : ℕ) → j < a + n → p j ≡ false) → find p (range_with_len a n) ≡ None
find_none p a zero h = refl
find_none p a (suc n) h = rw (h a (omega arith)) (find_none p (a + 1) n (λ j lt. h j (omega arith)))

find_some : (p : ℕ → Bool) (a n i : ℕ) → ((j : ℕ) → j < i → p j ≡ false) → p i ≡ true → a ≤ i → i < a + n → find p (range_with_len a n) ≡ Some i
find_some p a zero i before here low high = absurd (omega arith)
find_some p a (suc n) i before here low high = elim (cases_lt a i) [
  | inl below ↦ rw (before a below) (find_some p (a + 1) n i before here (omega arith) (omega arith))
  | inr above ↦ let is : i ≡ a = omega arith in rw (subst (λ k. p k ≡ true) is here) (ap (λ k. Some k) (sym is))
]

-- the text of one name is that of no other
differs : (letter i j : ℕ) (text : List ℕ) → text ≡ indexed letter i → i < 16 → j < i → bytes_eq text (indexed letter j) ≡ false
differs letter i j text e small lt = false_from_ne_true _ (λ t.
    let same : letter ∷ decimal i ≡ letter ∷ decimal j = sym e ∙ (bytes_eq-Decides text (indexed letter j)).0 t in
    let index : i ≡ j = decimal_injective i j (omega arith) (omega arith) cc in
    omega arith)

-- the index that a name has
pub named-name : (letter count i : ℕ) (text : List ℕ) → i < count → count ≤ 16 → text ≡ indexed letter i → named letter count text ≡ Some i
unfolding named
named-name letter count i text small few e =
    find_some (λ k. bytes_eq text (indexed letter k)) 0 count i (λ j lt. differs letter i j text e (omega arith) lt) ((bytes_eq-Decides text (indexed letter i)).1 e) (omega arith) (omega arith)

pub named-none : (letter count : ℕ) (text : List ℕ) → ((i : ℕ) → i < count → text ≢ indexed letter i) → named letter count text ≡ None
unfolding named
named-none letter count text h =
    find_none (λ k. bytes_eq text (indexed letter k)) 0 count (λ j lt. false_from_ne_true _ (λ t. h j (omega arith) ((bytes_eq-Decides text (indexed letter j)).0 t)))

-- the text is a letter and digits
text_parts : (text : List ℕ) → 1 ≤ length text → text ≡ get_or text 0 0 ∷ take (length text - 1) (drop 1 text)
text_parts [] h = absurd (omega arith)
text_parts (x ∷ xs) h = sym (ap (λ ds. x ∷ ds) (take_rest (x ∷ xs) 1))

-- what digits spell gives what the text names
pub named-spelled : (letter count : ℕ) (text : List ℕ) (found : Option ℕ) → count ≤ 16 → 1 ≤ length text → get_or text 0 0 ≡ letter
    → IfSome found (λ i. (i < count) × (take (length text - 1) (drop 1 text) ≡ decimal i))
    → IfNone found ((i : ℕ) → i < count → take (length text - 1) (drop 1 text) ≢ decimal i)
    → found ≡ named letter count text
named-spelled letter count text (Some i) few long first some none =
    sym (named-name letter count i text some.0 few (text_parts text long ∙ ap (λ l. l ∷ take (length text - 1) (drop 1 text)) first ∙ ap (λ ds. letter ∷ ds) some.1))
named-spelled letter count text None few long first some none =
    sym (named-none letter count text (λ i small e. none i small (let same : get_or text 0 0 ∷ take (length text - 1) (drop 1 text) ≡ letter ∷ decimal i = sym (text_parts text long) ∙ e in cc)))

-- a text that does not begin with the letter names nothing
pub named-other : (letter count : ℕ) (text : List ℕ) → (1 ≤ length text → get_or text 0 0 ≢ letter) → None ≡ named letter count text
named-other letter count [] h = sym (named-none letter count [] (λ i small e. cc))
named-other letter count (x ∷ xs) h = sym (named-none letter count (x ∷ xs) (λ i small e. h (omega arith) cc))

-- a number that a text names is below the count
find-range_lt : (p : ℕ → Bool) (a n i : ℕ) → find p (range_with_len a n) ≡ Some i → i < a + n
find-range_lt p a zero i h = cc
find-range_lt p a (suc n) i h =
    let go : (b : Bool) → p a ≡ b → i < a + suc n = λ b. elim b as (λ b. p a ≡ b → i < a + suc n) [
      | true ↦ λ e. let same : Some a ≡ Some i = sym (ap (λ b. cond b (Some a) (find p (range_with_len (a + 1) n))) e) ∙ h in let is : a ≡ i = cc in omega arith
      | false ↦ λ e. let later : find p (range_with_len (a + 1) n) ≡ Some i = sym (ap (λ b. cond b (Some a) (find p (range_with_len (a + 1) n))) e) ∙ h in let below = find-range_lt p (a + 1) n i later in omega arith
    ] in go (p a) refl

pub named-lt : (letter count i : ℕ) (text : List ℕ) → named letter count text ≡ Some i → i < count
unfolding named
named-lt letter count i text h = let below = find-range_lt (λ j. bytes_eq text (indexed letter j)) 0 count i h in omega arith

-- the node that is named has a number that a node may have
one_of : (b r : Option ℕ) → ((i : ℕ) → b ≡ Some i → i < 16) → ((i : ℕ) → r ≡ Some i → i < 16)
    → (n : NodeName) → option_or (option_map Biu b) (option_map Rmu r) ≡ Some n → IsNumbered n
one_of (Some i) r hb hr n e = let is : Biu i ≡ n = cc in subst IsNumbered is (hb i refl)
one_of None (Some i) hb hr n e = let is : Rmu i ≡ n = cc in subst IsNumbered is (hr i refl)
one_of None None hb hr n e = cc

node_named-IsNumbered : (sizes : Sizes) → sizes.bius ≤ 16 → sizes.rmus ≤ 16 → (text : List ℕ) (n : NodeName) → node_named sizes text ≡ Some n → IsNumbered n
node_named-IsNumbered sizes bius rmus text n e =
    one_of (named biu_letter sizes.bius text) (named rmu_letter sizes.rmus text)
    (λ i h. let below = named-lt biu_letter sizes.bius i text h in omega arith)
    (λ i h. let below = named-lt rmu_letter sizes.rmus i text h in omega arith) n e

in_text : (sizes : Sizes) → sizes.bius ≤ 16 → sizes.rmus ≤ 16 → (o : Option Data) (n : NodeName) → text_or_none (node_named sizes) o ≡ Some n → IsNumbered n
in_text sizes bius rmus (Some (string text)) n e = node_named-IsNumbered sizes bius rmus text n e
in_text sizes bius rmus (Some (integer d)) n e = cc
in_text sizes bius rmus (Some (float d)) n e = cc
in_text sizes bius rmus (Some (boolean d)) n e = cc
in_text sizes bius rmus (Some (datetime d)) n e = cc
in_text sizes bius rmus (Some (array d)) n e = cc
in_text sizes bius rmus (Some (table d)) n e = cc
in_text sizes bius rmus None n e = cc

pub node_at-IsNumbered : (sizes : Sizes) → sizes.bius ≤ 16 → sizes.rmus ≤ 16 → (key : List ℕ) (t : Members) (n : NodeName) → node_at sizes key t ≡ Some n → IsNumbered n
node_at-IsNumbered sizes bius rmus key t n e = in_text sizes bius rmus (get_member key t) n e
