-- What the voters find for a group, by what is delivered of its members.
use Rattle.std.proofs.{Common.{◌≡◌, ℕ, ◌+◌, ◌<◌, ◌≤◌, ◌&&◌, not, Bool, true, false, cond, Option, Some, None, is_some, List, [], ◌∷◌, length, filter, map, get_or, if◌then◌else◌, refl, sym, ◌∙◌, ap, subst, arith}, lemmas.Bool.{and_from, eqb-true}, lemmas.List.length-map, lemmas.List.Elements.All-from_get_or}
use Rattle.std.specs.List.{cons_option}
use Rattle.rb_base.specs.{Counting.{count_if, numbers}, Nodes.has, Nodes.Side.Biu, declared.values.Delivery.Delivery, declared.values.Heard.Heard, declared.values.Heard.TheVariants.{Word, Fault}}
use Rattle.rb_base.proofs.{Counts.{count_if-le, count_if-le_length}, Plain.{and_first, and_second}}
use Rattle.rb_rules.specs.{ExactStage.present, Goodness.{Scenario, is_good}, Middle.middle_of, Moments.offered_in, Ports.{HandIn, word_in, word_or_0}, Rounds.records_of}
use Rattle.rb_rules.proofs.{Middles.{IsBetween, has_middle, middle_between, middle_is}, Votes.vote_is}
use Rattle.rb_laws_agreement.proofs.Tests.{Present, present_if}
use Rattle.rb_group.specs.{Groups.{first_of, heard_of, value_of, values_of, words_in}, Portions.port_deliveries}
use Rattle.rb_laws_groups.specs.Laws.{MidStaysBetween, MostFindsTheWord, Outnumber, first_slot, has_slot, is_good_owner, is_number, offer_in, offer_of, offers}
use Rattle.rb_laws_groups.proofs.{Frames.delivered-of, Owned.IsDeliveredOf}

-- One member.

number-is : (n : ℕ) (o : Option ℕ) → is_number n o ≡ true → o ≡ Some n
number-is n None e = cc
number-is n (Some k) e = ap (λ k. Some k) (eqb-true k n e)

-- what a good owner offers is delivered
offer-delivered : (sc : Scenario) (hands : List HandIn) (frame i : ℕ) {word : ℕ} (slot : Option ℕ) {o : _} → IsDeliveredOf sc hands frame i slot o
    → offer_in sc hands frame i slot ≡ Some word → o ≡ Some (Word word)
offer-delivered sc hands frame i None h e = cc
offer-delivered sc hands frame i {word} (Some slot) {o} h e = by (is_good sc Biu i frame slot) refl e
  where
    by : (b : Bool) → is_good sc Biu i frame slot ≡ b → (if b then Some (offered_in sc hands frame slot i) else None) ≡ Some word → o ≡ Some (Word word)
    by true good e = let same : offered_in sc hands frame slot i ≡ word = cc in h.1 good ∙ ap (λ w. Some (Word w)) same
    by false faulty e = cc

-- what is delivered is that of one who owns a slot
slot-there : (sc : Scenario) (hands : List HandIn) (frame i : ℕ) (slot : Option ℕ) (o : Option Heard) → IsDeliveredOf sc hands frame i slot o
    → is_some o ≡ true → is_some slot ≡ true
slot-there sc hands frame i None o h e = let none : is_some o ≡ false = ap is_some h in cc
slot-there sc hands frame i (Some slot) o h e = refl

-- what the deliveries hold of the BIUs goes by their first slots
abbrev pub AreOf : Scenario → List HandIn → ℕ → (ℕ → Option ℕ) → List Delivery → Type 0
AreOf sc hands frame owner ds = (i : ℕ) → IsDeliveredOf sc hands frame i (first_slot sc.sizes owner i) (first_of i ds)

member-value : (sc : Scenario) (hands : List HandIn) (frame : ℕ) (owner : ℕ → Option ℕ) (ds : List Delivery) (members i : ℕ) {word : ℕ} → AreOf sc hands frame owner ds
    → has members i ≡ true → offer_of sc hands frame owner i ≡ Some word → value_of members ds i ≡ Some (Word word)
member-value sc hands frame owner ds members i are member offer =
    ap (λ b. if b then first_of i ds else None) member ∙ offer-delivered sc hands frame i (first_slot sc.sizes owner i) (are i) offer

-- a member that gave something owns a slot
gave-slot : (sc : Scenario) (hands : List HandIn) (frame : ℕ) (owner : ℕ → Option ℕ) (ds : List Delivery) (members i : ℕ) → AreOf sc hands frame owner ds
    → is_some (value_of members ds i) ≡ true → has_slot sc owner members i ≡ true
gave-slot sc hands frame owner ds members i are gave = by (has members i) gave
  where
    by : (b : Bool) → is_some (if b then first_of i ds else None) ≡ true → (b && is_some (first_slot sc.sizes owner i)) ≡ true
    by true e = slot-there sc hands frame i (first_slot sc.sizes owner i) (first_of i ds) (are i) e
    by false e = cc

fewer : (sc : Scenario) (hands : List HandIn) (frame : ℕ) (owner : ℕ → Option ℕ) (ds : List Delivery) (members : ℕ) (chosen : ℕ → Bool) → AreOf sc hands frame owner ds
    → Outnumber chosen (has_slot sc owner members)
    → count_if (λ i. not (chosen i) && is_some (value_of members ds i)) (numbers 16) < count_if chosen (numbers 16)
unfolding Outnumber
fewer sc hands frame owner ds members chosen are more =
    let le : count_if (λ i. not (chosen i) && is_some (value_of members ds i)) (numbers 16) ≤ count_if (λ i. not (chosen i) && has_slot sc owner members i) (numbers 16) =
    count_if-le (λ i. not (chosen i) && is_some (value_of members ds i)) (λ i. not (chosen i) && has_slot sc owner members i)
    (λ i e.
    and_from (not (chosen i)) (has_slot sc owner members i) (and_first (not (chosen i)) (is_some (value_of members ds i)) e)
    (gave-slot sc hands frame owner ds members i are (and_second (not (chosen i)) (is_some (value_of members ds i)) e))) (numbers 16) in
    below (count_if (λ i. not (chosen i) && is_some (value_of members ds i)) (numbers 16)) (count_if (λ i. not (chosen i) && has_slot sc owner members i) (numbers 16))
    (count_if chosen (numbers 16)) le more
  where
    below : (a b c : ℕ) → a ≤ b → b < c → a < c
    below a b c le less = omega (arith, le, less)

-- Most.

pub most-finds : MostFindsTheWord
unfolding values_of
most-finds sc hands law members frame served owner schedule word more port good =
    vote_is (value_of members ds) (offers sc hands frame owner members word) (Word word) said (numbers 16)
    (fewer sc hands frame owner ds members (offers sc hands frame owner members word) are more)
  where
    ds : List Delivery
    ds = port_deliveries frame port (records_of sc hands)

    are : AreOf sc hands frame owner ds
    are i = delivered-of law served schedule port good i

    said : (i : ℕ) → offers sc hands frame owner members word i ≡ true → value_of members ds i ≡ Some (Word word)
    said i e =
        member-value sc hands frame owner ds members i are (and_first (has members i) (is_number word (offer_of sc hands frame owner i)) e)
        (number-is word (offer_of sc hands frame owner i) (and_second (has members i) (is_number word (offer_of sc hands frame owner i)) e))

-- Mid.

abbrev word_at : Option Heard → Option ℕ
word_at None = None
word_at (Some value) = word_in value

-- the words among some values are those of the numbers that gave one
words-are : (f : ℕ → Option Heard) (js : List ℕ)
    → words_in (present (map f js)) ≡ map (λ j. word_or_0 (word_at (f j))) (filter (λ j. is_some (word_at (f j))) js)
words-are f [] = refl
words-are f (j ∷ js) = by (words-are f js) (f j) refl
  where
    stamp : ℕ → ℕ
    stamp j = word_or_0 (word_at (f j))

    rest : List ℕ
    rest = filter (λ j. is_some (word_at (f j))) js

    by : words_in (present (map f js)) ≡ map stamp rest → (o : Option Heard) → f j ≡ o
        → words_in (cons_option o (present (map f js))) ≡ map stamp (cond (is_some (word_at o)) (j ∷ rest) rest)
    by known None e = known
    by known (Some Fault) e = known
    by known (Some (Word w)) e = ap (λ l. w ∷ l) known ∙ ap (λ o. word_or_0 (word_at o) ∷ map stamp rest) (sym e)

-- a filtered list has as many that pass as the list has that pass both tests
filtered : (p q : ℕ → Bool) (js : List ℕ) → count_if p (filter q js) ≡ count_if (λ j. q j && p j) js
filtered p q [] = refl
filtered p q (j ∷ js) = by (filtered p q js) (q j)
  where
    zero_more : (n : ℕ) → n ≡ 0 + n
    zero_more n = omega arith

    by : count_if p (filter q js) ≡ count_if (λ j. q j && p j) js → (b : Bool)
        → count_if p (cond b (j ∷ filter q js) (filter q js)) ≡ cond (b && p j) 1 0 + count_if (λ j. q j && p j) js
    by known true = ap (λ n. cond (p j) 1 0 + n) known
    by known false = known ∙ zero_more (count_if (λ j. q j && p j) js)

word-value : (o : Option Heard) → is_some (word_at o) ≡ true → is_some o ≡ true
word-value None e = e
word-value (Some v) e = refl

-- the middle of the words that good ones and others gave
middle-found : (f : ℕ → Option Heard) (chosen : ℕ → Bool) (js : List ℕ) (low high : ℕ)
    → ((j : ℕ) → chosen j ≡ true → (word : ℕ) × ((f j ≡ Some (Word word)) × ((low ≤ word) × (word ≤ high))))
    → count_if (λ j. not (chosen j) && is_some (f j)) js < count_if chosen js
    → (word : ℕ) × ((heard_of (middle_of (words_in (present (map f js)))) ≡ Word word) × ((low ≤ word) × (word ≤ high)))
middle-found f chosen js low high gave more =
    let many : count_if chosen js ≤ count_if chosen heard =
    at_most (count_if chosen js) (count_if (λ j. there j && chosen j) js) (count_if chosen heard)
    (count_if-le chosen (λ j. there j && chosen j) (λ j e. and_from (there j) (chosen j) (is_there j e) e) js) (filtered chosen there js) in
    let few : count_if (λ j. not (chosen j)) heard ≤ count_if (λ j. not (chosen j) && is_some (f j)) js =
    from_filter (count_if (λ j. not (chosen j)) heard) (count_if (λ j. there j && not (chosen j)) js) (count_if (λ j. not (chosen j) && is_some (f j)) js)
    (filtered (λ j. not (chosen j)) there js)
    (count_if-le (λ j. there j && not (chosen j)) (λ j. not (chosen j) && is_some (f j)) (λ j e.
    and_from (not (chosen j)) (is_some (f j)) (and_second (there j) (not (chosen j)) e) (word-value (f j) (and_first (there j) (not (chosen j)) e))) js) in
    let most : count_if (λ j. not (chosen j)) heard < count_if chosen heard =
    chain (count_if (λ j. not (chosen j)) heard) (count_if (λ j. not (chosen j) && is_some (f j)) js) (count_if chosen js) (count_if chosen heard) few more many in
    let some : 0 < length (map stamp heard) = above (count_if (λ j. not (chosen j)) heard) (count_if chosen heard) (length heard) (length (map stamp heard)) most (count_if-le_length chosen heard) (length-map heard stamp) in
    let has = has_middle (map stamp heard) some in
    let between : IsBetween low high has.0 = middle_between chosen stamp heard low high has.0 most
    (All-from_get_or (λ j. chosen j ≡ true → IsBetween low high (stamp j)) heard 0 (λ k inside. within (get_or heard k 0))) has.1 in
    (has.0, (ap heard_of (ap middle_of (words-are f js) ∙ middle_is has.0 (map stamp heard) has.1), (between.least, between.most)))
  where
    there : ℕ → Bool
    there j = is_some (word_at (f j))

    stamp : ℕ → ℕ
    stamp j = word_or_0 (word_at (f j))

    heard : List ℕ
    heard = filter there js

    is_there : (j : ℕ) → chosen j ≡ true → there j ≡ true
    is_there j e = ap (λ o. is_some (word_at o)) (gave j e).1.0

    within : (j : ℕ) → chosen j ≡ true → IsBetween low high (stamp j)
    within j e =
        let given = gave j e in
        subst (IsBetween low high) (sym (ap (λ o. word_or_0 (word_at o)) given.1.0)) (record { least = given.1.1.0; most = given.1.1.1 })

    at_most : (a b c : ℕ) → a ≤ b → c ≡ b → a ≤ c
    at_most a b c le e = omega (arith, le, e)

    from_filter : (a b c : ℕ) → a ≡ b → b ≤ c → a ≤ c
    from_filter a b c e le = omega (arith, le, e)

    chain : (a b c d : ℕ) → a ≤ b → b < c → c ≤ d → a < d
    chain a b c d x y z = omega (arith, x, y, z)

    above : (a b c d : ℕ) → a < b → b ≤ c → d ≡ c → 0 < d
    above a b c d x y z = omega (arith, x, y, z)

pub mid-stays : MidStaysBetween
unfolding values_of
mid-stays sc hands law members frame served owner schedule more low high offered port good =
    middle-found (value_of members ds) (is_good_owner sc hands frame owner members) (numbers 16) low high gave
    (fewer sc hands frame owner ds members (is_good_owner sc hands frame owner members) are more)
  where
    ds : List Delivery
    ds = port_deliveries frame port (records_of sc hands)

    are : AreOf sc hands frame owner ds
    are i = delivered-of law served schedule port good i

    gave : (i : ℕ) → is_good_owner sc hands frame owner members i ≡ true → (word : ℕ) × ((value_of members ds i ≡ Some (Word word)) × ((low ≤ word) × (word ≤ high)))
    gave i e =
        let member : has members i ≡ true = and_first (has members i) (is_some (offer_of sc hands frame owner i)) e in
        let offer : Present (offer_of sc hands frame owner i) = present_if (offer_of sc hands frame owner i) (and_second (has members i) (is_some (offer_of sc hands frame owner i)) e) in
        (offer.value, (member-value sc hands frame owner ds members i are member offer.is, offered i offer.value member offer.is))
