-- All that the entries of a document say to a node of the bus is heard.
use Rattle.std.proofs.{Common.{◌≡◌, ℕ, zero, suc, ◌+◌, ◌-◌, ◌<◌, ◌≤◌, ◌^◌, ◌&&◌, min, nat_le, nat_lt, Bool, true, false, cond, All, List, [], ◌∷◌, ◌++◌, bit_xor, filter, fold, length, map, refl, ap, ◌∙◌, subst, arith}, lemmas.Bool.{and_from, and_parts, eqb-true, false≢true, le-leb, leb-true, lt-ltb, ltb-true}, lemmas.List.Elements.{All-head, All-tail}, lemmas.List.Folds.list_all-append, lemmas.Nat.xor_of_8}
use Rattle.std.specs.Int.{byte_at, bytes_high_first}
use Rattle.rb_base.specs.{Nodes.{Side, other}, Nodes.Side.{Biu, Rmu}, Sizes.Sizes, declared.node.NodeName.NodeName, declared.values.Place.Place}
use Rattle.rb_rules.specs.{declared.message.Message.Message, declared.message.Tag.Tag, declared.message.Version.Version, declared.message.Version.TheVariants.{One, Two}, declared.say.Content.Content, declared.say.Content.TheVariants.{Word, Fault, Sync, Raw}, declared.say.Say.Say, Behavior.{Said, are_bytes, is_after_previous, is_within}, Clock.{Timeline, tick_length, time_of}, Entries.{IsListed, bytes_of, is_said, message_at, said_of}, Goodness.{Scenario, clock_of, clock_place}, Hearing.{Coming, Span, is_heard, said_by}, Lawful.{IsContent, IsLawful, IsNodeOf, IsSayOf, IsVersion}, Links.{covers, name_of, same_node, stands_for}, Plan.{longest_of, shortest_of}, Slots.count_of, Spelling.{body_of, check_of, fields_of, spelling_of, tag_byte}}
use Rattle.rb_rules.proofs.{Drift.{HasLengths, has_lengths, times_rise_to}, Slots.{place-within, same_node-is}}
use Rattle.rb_base.specs.declared.node.NodeName.TheVariants as node
use Rattle.rb_rules.specs.declared.message.Tag.TheVariants as tag

-- Bytes.

with-byte : (b : ℕ) (bytes : List ℕ) → b < 2 ^ 8 → are_bytes bytes ≡ true → are_bytes (b ∷ bytes) ≡ true
with-byte b bytes small rest = and_from (nat_lt b 256) (are_bytes bytes) (lt-ltb b 256 small) rest

raw-bytes : (bytes : List ℕ) → All (λ byte. byte < 2 ^ 8) bytes → are_bytes bytes ≡ true
raw-bytes [] all = refl
raw-bytes (b ∷ bytes) all =
    with-byte b bytes (All-head (λ byte. byte < 2 ^ 8) b bytes all) (raw-bytes bytes (All-tail (λ byte. byte < 2 ^ 8) b bytes all))

byte-small : (k n : ℕ) → byte_at k n < 2 ^ 8
byte-small zero n = omega arith
byte-small (suc k) n = omega arith

number-bytes : (k n : ℕ) (rest : List ℕ) → are_bytes rest ≡ true → are_bytes (bytes_high_first k n ++ rest) ≡ true
number-bytes zero n rest e = e
number-bytes (suc k) n rest e = with-byte (byte_at k n) (bytes_high_first k n ++ rest) (byte-small k n) (number-bytes k n rest e)

tag-small : (t : Tag) → tag_byte t < 2 ^ 8
tag-small tag.Word = omega arith
tag-small tag.Fault = omega arith
tag-small tag.Sync = omega arith

field-bytes : (m : Message) → m.stage ≤ 3 → are_bytes (fields_of m) ≡ true
field-bytes m stage =
    let value : List ℕ = bytes_high_first 4 m.value in
    let slot : List ℕ = bytes_high_first 2 m.slot ++ m.stage ∷ value in
    with-byte (tag_byte m.tag) (bytes_high_first 2 m.frame ++ slot) (tag-small m.tag)
    (number-bytes 2 m.frame slot (number-bytes 2 m.slot (m.stage ∷ value) (with-byte m.stage value (omega arith) (number-bytes 4 m.value [] refl))))

check-small : (sum : ℕ) (bytes : List ℕ) → sum < 2 ^ 8 → are_bytes bytes ≡ true → fold bit_xor sum bytes < 2 ^ 8
check-small sum [] small e = small
check-small sum (b ∷ bytes) small e =
    let parts = and_parts (nat_lt b 256) (are_bytes bytes) e in
    check-small (bit_xor sum b) bytes (xor_of_8 sum b small (ltb-true b 256 parts.0)) parts.1

-- with one byte behind them
and-byte : (bytes : List ℕ) (b : ℕ) → are_bytes bytes ≡ true → b < 2 ^ 8 → are_bytes (bytes ++ b ∷ []) ≡ true
and-byte bytes b e small =
    list_all-append (λ byte. nat_lt byte 256) bytes (b ∷ []) ∙ and_from (are_bytes bytes) (are_bytes (b ∷ [])) e (with-byte b [] small refl)

body-bytes : (v : Version) (m : Message) → IsVersion v → m.stage ≤ 3 → are_bytes (body_of v m) ≡ true
body-bytes One m is stage = field-bytes m stage
body-bytes (Two bus) m is stage = and-byte (fields_of m) bus (field-bytes m stage) is

spelled-bytes : (v : Version) (m : Message) → IsVersion v → m.stage ≤ 3 → are_bytes (spelling_of v m) ≡ true
spelled-bytes v m is stage =
    let body = body-bytes v m is stage in
    and-byte (body_of v m) (check_of (body_of v m)) body (check-small 0 (body_of v m) (omega arith) body)

content-bytes : (v : Version) (place : Place) (c : Content) → IsVersion v → IsContent c → are_bytes (bytes_of v place c) ≡ true
content-bytes v place (Word word) is its = spelled-bytes v (message_at place tag.Word word) is (omega arith)
content-bytes v place Fault is its = spelled-bytes v (message_at place tag.Fault 0) is (omega arith)
content-bytes v place Sync is its = spelled-bytes v (message_at place tag.Sync 0) is (omega arith)
content-bytes v place (Raw bytes) is its = raw-bytes bytes.items its.each

-- Times.

after-previous : (clock : Timeline) (shortest longest first offset early : ℕ) → HasLengths shortest longest clock → early < shortest
    → is_after_previous clock first (time_of clock (first + offset) - early) ≡ true
after-previous clock shortest longest zero offset early lengths less = refl
after-previous clock shortest longest (suc m) offset early lengths less =
    let low : shortest ≤ tick_length clock m = (lengths m).0 in
    let next : time_of clock (suc m) ≡ time_of clock m + tick_length clock m = refl in
    let up : time_of clock (suc m) ≤ time_of clock (suc m + offset) = times_rise_to clock (suc m) (suc m + offset) (omega arith) in
    lt-ltb (time_of clock m) (time_of clock (suc m + offset) - early) (omega (arith, low, next, up, less))

-- What an entry says is heard.

same-index : (sizes : Sizes) (side : Side) (from : NodeName) (j : ℕ) → IsNodeOf sizes from → from ≡ name_of side j → j < count_of side sizes
same-index sizes Biu from j h e = subst (IsNodeOf sizes) e h
same-index sizes Rmu from j h e = subst (IsNodeOf sizes) e h

heard-entry : (sc : Scenario) → IsVersion sc.plan.version → (me : Side) (i : ℕ) (span : Span) (j : ℕ) → HasLengths (shortest_of sc.plan) (longest_of sc.plan) (clock_of sc me i)
    → (s : Say) → IsSayOf sc s → is_said me i j span s ≡ true → is_heard sc me i span j (said_of sc.plan.version (clock_of sc me i) span s) ≡ true
heard-entry sc version me i span j lengths s its e =
    let clock : Timeline = clock_of sc me i in
    let at : ℕ = span.first + s.offset in
    let a = and_parts (same_node s.from (name_of (other me) j) && stands_for s.to (name_of me i) && covers s.frames s.slots s.stages span.place) (nat_le at span.last) e in
    let b = and_parts (same_node s.from (name_of (other me) j) && stands_for s.to (name_of me i)) (covers s.frames s.slots s.stages span.place) a.0 in
    let c = and_parts (same_node s.from (name_of (other me) j)) (stands_for s.to (name_of me i)) b.0 in
    let below : j < count_of (other me) sc.sizes = same-index sc.sizes (other me) s.from j its.from (same_node-is s.from (name_of (other me) j) c.0) in
    let up : time_of clock at ≤ time_of clock span.last = times_rise_to clock at span.last (leb-true at span.last a.1) in
    let within : is_within clock span (time_of clock at - s.early) ≡ true =
    and_from (is_after_previous clock span.first (time_of clock at - s.early)) (nat_le (time_of clock at - s.early) (time_of clock span.last))
    (after-previous clock (shortest_of sc.plan) (longest_of sc.plan) span.first s.offset s.early lengths its.early)
    (le-leb (time_of clock at - s.early) (time_of clock span.last) (omega arith)) in
    let bytes : List ℕ = bytes_of sc.plan.version span.place s.content in
    and_from (nat_lt j (count_of (other me) sc.sizes) && is_within clock span (time_of clock at - s.early)) (are_bytes bytes)
    (and_from (nat_lt j (count_of (other me) sc.sizes)) (is_within clock span (time_of clock at - s.early)) (lt-ltb j (count_of (other me) sc.sizes) below) within)
    (content-bytes sc.plan.version span.place s.content version its.content)

-- an entry as it comes to a node with this clock
abbrev pub coming_said : Version → Timeline → ℕ → Span → Say → Coming
coming_said version clock j span s =
    record { time = time_of clock (span.first + s.offset) - s.early; from = j; bytes = bytes_of version span.place s.content }

-- what source j says, as it comes
abbrev pub as_coming : ℕ → Said → Coming
as_coming j s = record { time = s.time; from = j; bytes = s.bytes }

-- what is heard of it
abbrev heard_of : Scenario → Side → ℕ → Span → ℕ → List Said → List Coming
heard_of sc me i span j all = map (as_coming j) (filter (is_heard sc me i span j) all)

heard-all : (sc : Scenario) → IsVersion sc.plan.version → (me : Side) (i : ℕ) (span : Span) (j : ℕ) → HasLengths (shortest_of sc.plan) (longest_of sc.plan) (clock_of sc me i)
    → (says : List Say) → All (IsSayOf sc) says
    → heard_of sc me i span j (map (said_of sc.plan.version (clock_of sc me i) span) (filter (is_said me i j span) says))
    ≡ map (coming_said sc.plan.version (clock_of sc me i) j span) (filter (is_said me i j span) says)
heard-all sc version me i span j lengths [] all = refl
heard-all sc version me i span j lengths (s ∷ says) all = by (is_said me i j span s) refl (heard-all sc version me i span j lengths says (All-tail (IsSayOf sc) s says all))
  where
    said : Say → Said
    said = said_of sc.plan.version (clock_of sc me i) span

    come : Say → Coming
    come = coming_said sc.plan.version (clock_of sc me i) j span

    rest : List Say
    rest = filter (is_said me i j span) says

    by : (b : Bool) → is_said me i j span s ≡ b → heard_of sc me i span j (map said rest) ≡ map come rest
        → heard_of sc me i span j (map said (cond b (s ∷ rest) rest)) ≡ map come (cond b (s ∷ rest) rest)
    by true e more =
        let left : List Said = filter (is_heard sc me i span j) (map said rest) in
        let heard : is_heard sc me i span j (said s) ≡ true = heard-entry sc version me i span j lengths s (All-head (IsSayOf sc) s says all) e in
        ap (λ b. map (as_coming j) (cond b (said s ∷ left) left)) heard ∙ ap (λ l. come s ∷ l) more
    by false e more = more

-- what source j says to a node of the bus is what the entries say
pub listed-said : (sc : Scenario) → IsLawful sc → IsListed sc → (me : Side) (i : ℕ) → i < count_of me sc.sizes → (span : Span) (j : ℕ)
    → said_by sc me i span j ≡ map (coming_said sc.plan.version (clock_of sc me i) j span) (filter (is_said me i j span) sc.says)
listed-said sc lawful is me i counted span j =
    let lengths = has_lengths (shortest_of sc.plan) (longest_of sc.plan) (clock_of sc me i)
    (lawful.clocks (clock_place sc.sizes me i) (record { start = 0; segments = [] }) (place-within sc.sizes me i (length sc.clocks) lawful.one_clock_each counted)) in
    ap (heard_of sc me i span j) (is.behavior me i span j) ∙ heard-all sc lawful.version me i span j lengths sc.says is.says
