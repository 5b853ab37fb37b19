-- Every entry in range is lawful.
use Rattle.std.proofs.{Common.{◌≡◌, ◌⊎◌, ◌+◌, ◌-◌, ◌*◌, ◌^◌, ◌%◌, ◌<◌, ◌≤◌, ◌==◌, ◌&&◌, ◌||◌, ℕ, List, [], ◌∷◌, Bool, true, false, not, nat_le, nat_lt, cond, All, length, codes, Option, Some, None, Result, Ok, Err, pos, negsuc, refl, sym, ap, ◌∙◌, subst, inl, inr, arith}, lemmas.Bool.{and_parts, both_ways, eqb-true, false≢true, leb-true, ltb-true, not-true, or_cases}, lemmas.List.Elements.{All-cons, All-nil}}
use Rattle.std.specs.Prelude.{is_some, option_map, unwrap_or}
use Rattle.hex.specs.{Hex.{decode_of, decode_pairs, digit_or_error, hex_digit_value, pair_value, value_at, ◌>>=◌}, declared.error.FromHexError.FromHexError, declared.error.FromHexError.TheVariants.OddLength}
use Rattle.toml.specs.Data.{Data, Members, string, integer, float, boolean, datetime, array, table, get_member}
use Rattle.rb_base.specs.{Nodes.{Side, other}, Nodes.Side.{Biu, Rmu}, Sizes.{Sizes, sync_slot_of}, declared.node.NodeName.NodeName, declared.values.Place.Place}
use Rattle.rb_base.proofs.Plain.{either_by}
use Rattle.rb_rules.specs.{declared.link.Pattern.Pattern, declared.link.Pattern.TheVariants.{One, AllBiu, AllRmu}, declared.link.Rule.Rule, declared.plan.Plan.Plan, declared.say.Content.Content, declared.say.Content.TheVariants.{Word, Fault, Sync, Raw}, declared.say.Say.Say, Lawful.{IsContent, IsNodeOf, IsPatternOf, IsRangeIn, IsRaw, IsSyncAlone, kind_named, kind_of, ticks_at, ticks_in_sync}, Links.{covers, is_in_range}, Plan.{IsPlan, shortest_of}}
use Rattle.rb_rules.proofs.Lawfulness.{SendsInside, at_each_stage, lies_in_each, sent_in_each}
use Rattle.rb_scenario_document.specs.{Names.{is_of_bius, node_at, pattern_at}, Values.{is_range, is_within, number_at, number_or, range_or}, Walk.{absent_or, passes}}
use Rattle.rb_scenario_document.proofs.Bounds.{absent_or-bounds, node_at-IsNodeOf, number_there, pair-bounds, pattern_at-IsPatternOf}
use Rattle.rb_scenario_entries.specs.{declared.bus.Bus.Bus, Links.{are_apart, differ, is_link, pattern_of, rule_of}, Says.{content_in, content_there, is_offset, is_say, is_sync_alone, lies_in_all, lies_in_stage, marked, meant, raw_in, say_of, short_bytes, word_content}}
use Rattle.rb_scenario_entries.proofs.EntryParts.{link_parts, say_parts}
use Rattle.rb_base.specs.declared.node.NodeName.TheVariants as node

-- Ranges.
range_or-in : (low high : ℕ) (o : Option Data) → low ≤ high → absent_or (is_range low high) o ≡ true → IsRangeIn low high (range_or (low, high) o)
range_or-in low high None order h = record { least = omega arith; order = order; greatest = omega arith }
range_or-in low high (Some d) order h = let b = pair-bounds low high d h in record { least = b.0; order = b.1; greatest = b.2 }

range_there-in : (low high : ℕ) (o : Option Data) → passes (is_range low high) o ≡ true → IsRangeIn low high (range_or (0, 0) o)
range_there-in low high None h = absurd (false≢true h)
range_there-in low high (Some d) h = let b = pair-bounds low high d h in record { least = b.0; order = b.1; greatest = b.2 }

-- Kinds.
abbrev is_kind_of_bius : Side → Bool
is_kind_of_bius Biu = true
is_kind_of_bius Rmu = false

kind_is : (p : Pattern) → is_of_bius p ≡ is_kind_of_bius (kind_named p)
kind_is (One (node.Biu i)) = refl
kind_is (One (node.Rmu i)) = refl
kind_is AllBiu = refl
kind_is AllRmu = refl

kinds_unlike : (a b : Side) → differ (is_kind_of_bius a) (is_kind_of_bius b) ≡ true → b ≡ other a
kinds_unlike Biu Biu h = absurd (false≢true h)
kinds_unlike Biu Rmu h = refl
kinds_unlike Rmu Biu h = refl
kinds_unlike Rmu Rmu h = absurd (false≢true h)

-- two patterns that are apart are there, and of unlike kinds
record Apart (from to : Option Pattern) : Type 0 where
  sender : Pattern
  receiver : Pattern
  sent : from ≡ Some sender
  received : to ≡ Some receiver
  unlike : kind_named receiver ≡ other (kind_named sender)

apart_by : (from to : Option Pattern) → are_apart from to ≡ true → Apart from to
apart_by None to h = absurd (false≢true h)
apart_by (Some a) None h = absurd (false≢true h)
apart_by (Some a) (Some b) h = record {
  sender = a;
  receiver = b;
  sent = refl;
  received = refl;
  unlike = kinds_unlike (kind_named a) (kind_named b)
      (subst (λ x. differ (is_kind_of_bius (kind_named a)) x ≡ true) (kind_is b) (subst (λ x. differ x (is_of_bius b) ≡ true) (kind_is a) h));
}

-- Link entries.
pub record LinkLaw (bus : Bus) (r : Rule) : Type 0 where
  pub from : IsPatternOf bus.shape r.from
  pub to : IsPatternOf bus.shape r.to
  pub unlike_kinds : kind_named r.to ≡ other (kind_named r.from)
  pub frames : IsRangeIn 0 (bus.frames - 1) r.frames
  pub slots : IsRangeIn 0 (sync_slot_of bus.shape) r.slots
  pub stages : IsRangeIn 1 3 r.stages

pub link_law : (bus : Bus) (e : Members) → is_link bus e ≡ true → LinkLaw bus (rule_of bus e)
unfolding rule_of
link_law bus e h =
    let parts = link_parts bus e h in
    let ends = apart_by (pattern_at bus.shape (codes "from") e) (pattern_at bus.shape (codes "to") e) parts.apart in
    let from : pattern_of bus (codes "from") e ≡ ends.sender = ap (λ o. unwrap_or o AllBiu) ends.sent in
    let to : pattern_of bus (codes "to") e ≡ ends.receiver = ap (λ o. unwrap_or o AllBiu) ends.received in
    record {
      from = subst (IsPatternOf bus.shape) (sym from) (pattern_at-IsPatternOf bus.shape (codes "from") e ends.sender ends.sent);
      to = subst (IsPatternOf bus.shape) (sym to) (pattern_at-IsPatternOf bus.shape (codes "to") e ends.receiver ends.received);
      unlike_kinds = ap kind_named to ∙ ends.unlike ∙ ap (λ p. other (kind_named p)) (sym from);
      frames = range_or-in 0 (bus.frames - 1) (get_member (codes "frames") e) (omega arith) parts.frames;
      slots = range_or-in 0 (sync_slot_of bus.shape) (get_member (codes "slots") e) (omega arith) parts.slots;
      stages = range_or-in 1 3 (get_member (codes "stages") e) (omega arith) parts.stages;
    }

-- What is said.
between_16 : (upper lower digit : Bool) (c v : ℕ) → (upper ≡ true → c ≤ 70) → (lower ≡ true → c ≤ 102) → (digit ≡ true → c ≤ 57)
    → cond upper (Some (c - 55)) (cond lower (Some (c - 87)) (cond digit (Some (c - 48)) None)) ≡ Some v → v < 16
between_16 true lower digit c v u l d h = let most = u refl in let is : c - 55 ≡ v = cc in omega arith
between_16 false true digit c v u l d h = let most = l refl in let is : c - 87 ≡ v = cc in omega arith
between_16 false false true c v u l d h = let most = d refl in let is : c - 48 ≡ v = cc in omega arith
between_16 false false false c v u l d h = absurd (cc)

digit_small : (c v : ℕ) → hex_digit_value c ≡ Some v → v < 16
digit_small c v h = between_16 (nat_le 65 c && nat_le c 70) (nat_le 97 c && nat_le c 102) (nat_le 48 c && nat_le c 57) c v
    (λ e. leb-true c 70 (and_parts (nat_le 65 c) (nat_le c 70) e).1) (λ e. leb-true c 102 (and_parts (nat_le 97 c) (nat_le c 102) e).1)
    (λ e. leb-true c 57 (and_parts (nat_le 48 c) (nat_le c 57) e).1) h

value_small : (c i v : ℕ) (o : Option ℕ) → ((n : ℕ) → o ≡ Some n → n < 16) → digit_or_error c i o ≡ Ok v → v < 16
value_small c i v None small h = absurd (cc)
value_small c i v (Some n) small h = let is : n ≡ v = cc in let less = small n refl in omega arith

-- both steps gave a value
record Both {A B : Type 0} (r : Result A FromHexError) (f : A → Result B FromHexError) (b : B) : Type 0 where
  first : A
  first_is : r ≡ Ok first
  then_is : f first ≡ Ok b

both_gave : {A B : Type 0} (r : Result A FromHexError) (f : A → Result B FromHexError) (b : B) → r >>= f ≡ Ok b → Both r f b
both_gave (Err e) f b h = absurd (cc)
both_gave (Ok a) f b h = record { first = a; first_is = refl; then_is = h }

pair_small : (high low i byte : ℕ) → pair_value high low i ≡ Ok byte → byte < 2 ^ 8
pair_small high low i byte h =
    let one = both_gave (value_at high i) (λ h. value_at low (i + 1) >>= (λ l. Ok (h * 16 + l))) byte h in
    let two = both_gave (value_at low (i + 1)) (λ l. Ok (one.first * 16 + l)) byte one.then_is in
    let upper = value_small high i one.first (hex_digit_value high) (λ n e. digit_small high n e) one.first_is in
    let lower = value_small low (i + 1) two.first (hex_digit_value low) (λ n e. digit_small low n e) two.first_is in
    let sum = two.then_is in
    let is : one.first * 16 + two.first ≡ byte = cc in
    omega arith

pairs_bytes : (i : ℕ) (text bytes : List ℕ) → decode_pairs i text ≡ Ok bytes → All (λ b. b < 2 ^ 8) bytes
unfolding decode_pairs
pairs_bytes i [] bytes h = let is : [] ≡ bytes = cc in subst (All (λ b. b < 2 ^ 8)) is (All-nil (λ b. b < 2 ^ 8))
pairs_bytes i (digit ∷ []) bytes h = absurd (cc)
pairs_bytes i (high ∷ (low ∷ rest)) bytes h =
    let one = both_gave (pair_value high low i) (λ byte. decode_pairs (i + 2) rest >>= (λ bytes. Ok (byte ∷ bytes))) bytes h in
    let two = both_gave (decode_pairs (i + 2) rest) (λ bytes. Ok (one.first ∷ bytes)) bytes one.then_is in
    let all = two.then_is in
    let is : one.first ∷ two.first ≡ bytes = cc in
    subst (All (λ b. b < 2 ^ 8)) is
    (All-cons (λ b. b < 2 ^ 8) one.first two.first (pair_small high low i one.first one.first_is) (pairs_bytes (i + 2) rest two.first two.first_is))

even_by : (odd : Bool) (r : Result (List ℕ) FromHexError) (bytes : List ℕ) → (r ≡ Ok bytes → All (λ b. b < 2 ^ 8) bytes)
    → cond odd (Err OddLength) r ≡ Ok bytes → All (λ b. b < 2 ^ 8) bytes
even_by true r bytes all h = absurd (cc)
even_by false r bytes all h = all h

decoded_bytes : (text bytes : List ℕ) → decode_of text ≡ Ok bytes → All (λ b. b < 2 ^ 8) bytes
decoded_bytes text bytes h = even_by (length text % 2 == 1) (decode_pairs 0 text) bytes (λ e. pairs_bytes 0 text bytes e) h

raw_by : (short : Bool) (bs bytes : List ℕ) → All (λ b. b < 2 ^ 8) bs → (short ≡ true → (1 ≤ length bs) × (length bs ≤ 32))
    → cond short (Some bs) None ≡ Some bytes → IsRaw bytes
raw_by true bs bytes all lengths h =
    let is : bs ≡ bytes = cc in
    let both = lengths refl in
    subst IsRaw is (record { some = both.0; most = both.1; each = all })
raw_by false bs bytes all lengths h = absurd (cc)

short_raw : (r : Result (List ℕ) FromHexError) (bytes : List ℕ) → ((bs : List ℕ) → r ≡ Ok bs → All (λ b. b < 2 ^ 8) bs)
    → short_bytes r ≡ Some bytes → IsRaw bytes
short_raw (Err e) bytes all h = absurd (cc)
short_raw (Ok bs) bytes all h = raw_by (nat_le 1 (length bs) && nat_le (length bs) 32) bs bytes (all bs refl)
    (λ e. let parts = and_parts (nat_le 1 (length bs)) (nat_le (length bs) 32) e in (leb-true 1 (length bs) parts.0, leb-true (length bs) 32 parts.1)) h

raw_made : (o : Option (List ℕ)) (c : Content) → ((bytes : List ℕ) → o ≡ Some bytes → IsRaw bytes)
    → option_map (λ bytes. Raw (record { items = bytes })) o ≡ Some c → IsContent c
raw_made None c h e = absurd (cc)
raw_made (Some bytes) c h e = let is : Raw (record { items = bytes }) ≡ c = cc in subst IsContent is (h bytes refl)

raw_lawful : (d : Data) (c : Content) → raw_in d ≡ Some c → IsContent c
raw_lawful (string text) c h =
    raw_made (short_bytes (decode_of text)) c (λ bytes is. short_raw (decode_of text) bytes (λ bs e. decoded_bytes text bs e) is) h
raw_lawful (integer n) c h = absurd (cc)
raw_lawful (float n) c h = absurd (cc)
raw_lawful (boolean n) c h = absurd (cc)
raw_lawful (datetime n) c h = absurd (cc)
raw_lawful (array n) c h = absurd (cc)
raw_lawful (table n) c h = absurd (cc)

word_by : (small : Bool) (n : ℕ) (c : Content) → (small ≡ true → n ≤ 4294967295) → cond small (Some (Word n)) None ≡ Some c → IsContent c
word_by true n c least h = let is : Word n ≡ c = cc in let most = least refl in subst IsContent is (omega arith)
word_by false n c least h = absurd (cc)

word_lawful : (d : Data) (c : Content) → word_content d ≡ Some c → IsContent c
word_lawful (integer (pos n)) c h = word_by (nat_le n 4294967295) n c (λ e. leb-true n 4294967295 e) h
word_lawful (integer (negsuc n)) c h = absurd (cc)
word_lawful (string n) c h = absurd (cc)
word_lawful (float n) c h = absurd (cc)
word_lawful (boolean n) c h = absurd (cc)
word_lawful (datetime n) c h = absurd (cc)
word_lawful (array n) c h = absurd (cc)
word_lawful (table n) c h = absurd (cc)

marked_lawful : (content : Content) (d : Data) (c : Content) → IsContent content → marked content d ≡ Some c → IsContent c
marked_lawful content (boolean true) c is h = let same : content ≡ c = cc in subst IsContent same is
marked_lawful content (boolean false) c is h = absurd (cc)
marked_lawful content (integer n) c is h = absurd (cc)
marked_lawful content (string n) c is h = absurd (cc)
marked_lawful content (float n) c is h = absurd (cc)
marked_lawful content (datetime n) c is h = absurd (cc)
marked_lawful content (array n) c is h = absurd (cc)
marked_lawful content (table n) c is h = absurd (cc)

meant_lawful : (meaning : Data → Option Content) (o : Option Data) (next : Option Content)
    → ((d : Data) (c : Content) → meaning d ≡ Some c → IsContent c) → ((c : Content) → next ≡ Some c → IsContent c)
    → (c : Content) → meant meaning o next ≡ Some c → IsContent c
meant_lawful meaning None next here later c h = later c h
meant_lawful meaning (Some d) next here later c h = here d c h

there_lawful : (e : Members) (c : Content) → content_there e ≡ Some c → IsContent c
there_lawful e =
    meant_lawful word_content (get_member (codes "word") e) _ word_lawful
    (meant_lawful (marked Fault) (get_member (codes "fault") e) _ (λ d c. marked_lawful Fault d c tt)
    (meant_lawful (marked Sync) (get_member (codes "sync") e) _ (λ d c. marked_lawful Sync d c tt)
    (meant_lawful raw_in (get_member (codes "raw") e) None raw_lawful (λ c h. absurd (cc)))))

if_lawful : (b : Bool) (o : Option Content) → ((c : Content) → o ≡ Some c → IsContent c) → (other_one : Content) → is_some (cond b o None) ≡ true
    → IsContent (unwrap_or (cond b o None) other_one)
if_lawful true (Some c) h other_one is = h c refl
if_lawful true None h other_one is = absurd (false≢true is)
if_lawful false o h other_one is = absurd (false≢true is)

content_lawful : (e : Members) → is_some (content_in e) ≡ true → IsContent (unwrap_or (content_in e) Fault)
unfolding content_in
content_lawful e h = if_lawful _ (content_there e) (there_lawful e) Fault h

sync_alone_by : (sizes : Sizes) (slots : ℕ × ℕ) → is_sync_alone (sync_slot_of sizes) slots ≡ true → IsSyncAlone sizes slots
sync_alone_by sizes slots h =
    let parts = and_parts (slots.0 == sync_slot_of sizes) (slots.1 == sync_slot_of sizes) h in
    (eqb-true slots.0 (sync_slot_of sizes) parts.0, eqb-true slots.1 (sync_slot_of sizes) parts.1)

lies_by : (plan : Plan) (stages : ℕ × ℕ) (offset stage : ℕ) → lies_in_stage plan stages offset stage ≡ true
    → is_in_range stages stage ≡ true → offset < ticks_in_sync plan stage
lies_by plan stages offset stage h has = elim (or_cases (not (is_in_range stages stage)) (nat_lt offset (ticks_in_sync plan stage)) h) [
  | inl e ↦ absurd (both_ways (is_in_range stages stage) (not-true _ e) has)
  | inr e ↦ ltb-true offset (ticks_in_sync plan stage) e
]

lies_by_all : (sizes : Sizes) (plan : Plan) (frames slots stages : ℕ × ℕ) (offset : ℕ) → IsRangeIn 1 4 stages
    → lies_in_all plan (sync_slot_of sizes) slots stages offset ≡ true
    → (place : Place) → covers frames slots stages place ≡ true → offset < ticks_at sizes plan place
lies_by_all sizes plan frames slots stages offset range h =
    let parts = and_parts (nat_le (sync_slot_of sizes) slots.0 || nat_lt offset plan.l) _ h in
    lies_in_each sizes plan frames slots stages offset
    (either_by _ _ _ _ (leb-true (sync_slot_of sizes) slots.0) (ltb-true offset plan.l) parts.0)
    (either_by _ _ _ _ (ltb-true slots.1 (sync_slot_of sizes))
    (λ all.
    let four = and_parts _ (lies_in_stage plan stages offset 4) all in
    let three = and_parts _ (lies_in_stage plan stages offset 3) four.0 in
    let two = and_parts (lies_in_stage plan stages offset 1) (lies_in_stage plan stages offset 2) three.0 in
    at_each_stage (λ stage. offset < ticks_in_sync plan stage) stages range
    (lies_by plan stages offset 1 two.0) (lies_by plan stages offset 2 two.1) (lies_by plan stages offset 3 three.1) (lies_by plan stages offset 4 four.1))
    parts.1)

-- a written offset is tested, and the one that stands in for none is that of good nodes
offset_lies : (sizes : Sizes) (plan : Plan) (frames slots stages : ℕ × ℕ) (o : Option Data) → SendsInside plan → IsRangeIn 1 4 stages
    → absent_or (is_offset plan (sync_slot_of sizes) slots stages) o ≡ true
    → (place : Place) → covers frames slots stages place ≡ true → number_or plan.h o < ticks_at sizes plan place
offset_lies sizes plan frames slots stages None inside range h = λ place covered. sent_in_each sizes plan inside place
offset_lies sizes plan frames slots stages (Some d) inside range h =
    let parts = and_parts (is_within 0 4294967295 d) _ h in
    let same = number_there 0 4294967295 0 plan.h d parts.0 in
    subst (λ n. (place : Place) → covers frames slots stages place ≡ true → n < ticks_at sizes plan place) same
    (lies_by_all sizes plan frames slots stages (number_or 0 (Some d)) range parts.1)

-- a node that is named is the pattern of itself
the_sender : (o : Option NodeName) (sender : Pattern) → option_map One o ≡ Some sender → (n : NodeName) × (o ≡ Some n) × (One n ≡ sender)
the_sender None sender h = absurd (cc)
the_sender (Some n) sender h = (n, refl, cc)

pub record SayLaw (bus : Bus) (s : Say) : Type 0 where
  pub from : IsNodeOf bus.shape s.from
  pub to : IsPatternOf bus.shape s.to
  pub unlike_kinds : kind_named s.to ≡ other (kind_of s.from)
  pub frames : IsRangeIn 0 (bus.frames - 1) s.frames
  pub slots : IsRangeIn 0 (sync_slot_of bus.shape) s.slots
  pub stages : IsRangeIn 1 4 s.stages
  pub tail : (s.stages.1 ≤ 3) ⊎ IsSyncAlone bus.shape s.slots
  pub offset : (place : Place) → covers s.frames s.slots s.stages place ≡ true → s.offset < ticks_at bus.shape bus.plan place
  pub early : s.early < shortest_of bus.plan
  pub early_in_sync : (s.early ≡ 0) ⊎ IsSyncAlone bus.shape s.slots
  pub content : IsContent s.content

pub say_law : (bus : Bus) → IsPlan bus.plan → SendsInside bus.plan → (e : Members) → is_say bus e ≡ true → SayLaw bus (say_of bus e)
unfolding say_of
say_law bus is inside e h =
    let parts = say_parts bus e h in
    let ends = apart_by (option_map One (node_at bus.shape (codes "from") e)) (pattern_at bus.shape (codes "to") e) parts.apart in
    let sender = the_sender (node_at bus.shape (codes "from") e) ends.sender ends.sent in
    let from : unwrap_or (node_at bus.shape (codes "from") e) (node.Biu 0) ≡ sender.0 = ap (λ o. unwrap_or o (node.Biu 0)) sender.1 in
    let to : pattern_of bus (codes "to") e ≡ ends.receiver = ap (λ o. unwrap_or o AllBiu) ends.received in
    let slots = range_or (0, 0) (get_member (codes "slots") e) in
    let stages = range_there-in 1 4 (get_member (codes "stages") e) parts.stages in
    let early = (absent_or-bounds 0 (bus.plan.u - bus.plan.r - 1) 0 (get_member (codes "early") e) (omega arith) (omega arith) parts.early).1 in
    let some : bus.plan.r < bus.plan.u = is.r in
    record {
      from = subst (IsNodeOf bus.shape) (sym from) (node_at-IsNodeOf bus.shape (codes "from") e sender.0 sender.1);
      to = subst (IsPatternOf bus.shape) (sym to) (pattern_at-IsPatternOf bus.shape (codes "to") e ends.receiver ends.received);
      unlike_kinds = ap kind_named to ∙ ends.unlike ∙ ap (λ p. other (kind_named p)) (sym sender.2) ∙ ap (λ n. other (kind_of n)) (sym from);
      frames = range_there-in 0 (bus.frames - 1) (get_member (codes "frames") e) parts.frames;
      slots = range_there-in 0 (sync_slot_of bus.shape) (get_member (codes "slots") e) parts.slots;
      stages = stages;
      tail = either_by _ _ _ _ (leb-true _ 3) (sync_alone_by bus.shape slots) parts.tail;
      offset = offset_lies bus.shape bus.plan _ slots _ (get_member (codes "offset") e) inside stages parts.offset_lies;
      early = omega arith;
      early_in_sync = either_by _ _ _ _ (eqb-true (number_at (codes "early") 0 e) 0) (sync_alone_by bus.shape slots) parts.early_in_sync;
      content = content_lawful e parts.content;
    }
