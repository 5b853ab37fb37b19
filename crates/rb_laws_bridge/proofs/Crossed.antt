-- Words cross a bridge: sound pairs carry the near bus's word, offer it on the far bus, and outvote
-- the others.
use Rattle.std.proofs.{Common.{◌≡◌, ℕ, zero, suc, ◌+◌, ◌-◌, ◌*◌, ◌^◌, ◌<◌, ◌≤◌, ◌==◌, ◌&&◌, not, All, Bool, true, false, inl, inr, Option, Some, None, is_some, List, [], ◌∷◌, if◌then◌else◌, refl, sym, ◌∙◌, ap, subst, arith}, lemmas.Bool.{and_from, cases_lt, not-true}, lemmas.List.Elements.{All-head, All-tail}, Math.Nat.mul-le-mul_right}
use Rattle.std.specs.List.{list_any, range_with_len}
use Rattle.rb_base.specs.{Counting.{count_if, numbers}, Nodes.has, Nodes.Side.Biu, Sizes.{IsShape, sync_slot_of}}
use Rattle.rb_base.proofs.{Plain.{and_first, and_second, eq_self}, Sets.{has-set_of, has_above, set_of-lt}}
use Rattle.rb_rules.specs.{Goodness.{Scenario, is_good}, Lawful.IsLawful, Moments.{IsComplete, offered_in}, Ports.HandIn, Rounds.{steps_of, windows_in}}
use Rattle.rb_laws_agreement.specs.Histories.{states_for}
use Rattle.rb_laws_agreement.proofs.{Goodnesses.good_earlier, Places.running_earlier, Tests.{Present, present_if}}
use Rattle.rb_laws_groups.specs.Laws.{IsSchedule, Outnumber, first_among, first_slot, has_slot, is_number, last_data_slot, offer_in, offer_of, offers}
use Rattle.rb_laws_groups.proofs.{Frames.{is-early, slot-earlier}, Voted.most-finds}
use Rattle.rb_rules_bridge.specs.{declared.bank.Bank.Bank, declared.bank.Bank.TheVariants.{Left, Right}, declared.bank.Pair.Pair, Bridges.{Bridge, IsBridge, IsHead, across, biu_on, bus_on, carried_slot, members_on}, Crossings.{hands_of, hands_on, word_carried, word_of}}
use Rattle.rb_laws_bridge.specs.Laws.{AreUnbroken, SoundPairsOutnumber, WordsCross, counts_on, is_good_through, is_sound, word_on}
use Rattle.rb_laws_bridge.proofs.{Counted.{IsIn, any_of, items-few, numbers-few}, Ports.{handed-one, table-offers}, Told.{good-tell, word-fits}}

-- Frames.

-- a run that goes on to a frame's last stage is in one of its frames
frame-inside : {sc : _} (hands : List HandIn) → IsLawful sc → {frame : ℕ} (slot : ℕ) → IsComplete sc hands frame slot → frame < sc.frames
frame-inside {sc} hands law {frame} slot complete =
    let size : ℕ = windows_in sc.sizes + 1 in
    let early : frame * size + 3 * slot + 4 - 1 ≤ steps_of sc = is-early hands law (frame * size + 3 * slot + 4 - 1) complete in
    elim (cases_lt frame sc.frames) [
      | inl less ↦ less
      | inr past ↦
          let up : sc.frames * size ≤ frame * size = mul-le-mul_right size past in
          absurd (omega (arith, early, up))
    ]

-- a frame that is unbroken was so up to the end of the frame before
earlier-complete : (sc : Scenario) (hands : List HandIn) (frame slot : ℕ) → slot ≤ sync_slot_of sc.sizes → IsComplete sc hands (frame + 1) (sync_slot_of sc.sizes) → IsComplete sc hands frame slot
earlier-complete sc hands frame slot le complete =
    running_earlier sc hands (frame * (windows_in sc.sizes + 1) + 3 * slot + 4 - 1) ((frame + 1) * (windows_in sc.sizes + 1) + 3 * sync_slot_of sc.sizes + 4 - 1)
    (later frame (sync_slot_of sc.sizes) slot le) complete
  where
    later : (f s slot : ℕ) → slot ≤ s → f * (3 * s + 4 + 1) + 3 * slot + 4 - 1 ≤ (f + 1) * (3 * s + 4 + 1) + 3 * s + 4 - 1
    later f s slot h = omega (arith, h)

same-frames : {b : _} → IsBridge b → (bank : Bank) → (bus_on b bank).frames ≡ b.left.frames
same-frames is Left = refl
same-frames is Right = sym is.frames

-- Slots.

first-within : (owner : ℕ → Option ℕ) (i from n : ℕ) {slot : ℕ} → first_among owner i (range_with_len from n) ≡ Some slot → (from ≤ slot) × (slot < from + n)
first-within owner i from zero e = cc
first-within owner i from (suc n) {slot} e = by (is_number i (owner from)) e (first-within owner i (from + 1) n)
  where
    by : (b : Bool) → (if b then Some from else first_among owner i (range_with_len (from + 1) n)) ≡ Some slot
        → (first_among owner i (range_with_len (from + 1) n) ≡ Some slot → (from + 1 ≤ slot) × (slot < from + 1 + n))
        → (from ≤ slot) × (slot < from + suc n)
    by true e later = let same : from ≡ slot = cc in (omega (arith, same), omega (arith, same))
    by false e later = let inside = later e in (omega (arith, inside.0), omega (arith, inside.1))

-- One pair.

all-in : {X : Type 0} (P : X → Type 0) {x : X} (xs : List X) → IsIn x xs → All P xs → P x
all-in P [] inside all = absurd inside
all-in P (y ∷ ys) (inl same) all = subst P same (All-head P y ys all)
all-in P (y ∷ ys) (inr later) all = all-in P ys later (All-tail P y ys all)

-- what is known if words cross
record IsCrossing (b : Bridge) (bank : Bank) (frame : ℕ) (owner : ℕ → Option ℕ) : Type 0 where
  pub bridge : IsBridge b
  pub unbroken : AreUnbroken b (frame + 1)
  pub schedule : IsSchedule (bus_on b bank) (hands_on bank (hands_of b)) (frame + 1) owner

slot-inside : {b : _} → IsBridge b → (bank : Bank) → carried_slot b bank < sync_slot_of (bus_on b bank).sizes
slot-inside {b} is bank = let shape : IsShape (bus_on b bank).sizes = (is.lawful bank).sizes in omega (arith, is.slots bank)

-- a pair carries the word of the near bus from a BIU that is good in the whole frame
carries-word : {b bank frame owner : _} → IsCrossing b bank frame owner → (pair : Pair)
    → is_good_through (bus_on b (across bank)) frame (biu_on (across bank) pair) ≡ true
    → word_carried b (hands_of b) bank frame pair ≡ word_on b (across bank) frame
carries-word {b} {bank} {frame} c pair good =
    let near : Scenario = bus_on b (across bank) in
    let slot : ℕ = carried_slot b (across bank) in
    let inside : slot < sync_slot_of near.sizes = slot-inside c.bridge (across bank) in
    let complete : IsComplete near (hands_on (across bank) (hands_of b)) frame slot =
    earlier-complete near (hands_on (across bank) (hands_of b)) frame slot (omega (arith, inside)) (c.unbroken (across bank)) in
    ap word_of (good-tell near (hands_on (across bank) (hands_of b)) (c.bridge.lawful (across bank)) frame slot inside complete (biu_on (across bank) pair)
    (good_earlier near Biu (biu_on (across bank) pair) frame slot (sync_slot_of near.sizes) (omega (arith, inside)) good))

word-small : {b bank frame owner : _} → IsCrossing b bank frame owner → word_on b (across bank) frame < 2 ^ 32
word-small {b} {bank} {frame} c =
    let near : Scenario = bus_on b (across bank) in
    let slot : ℕ = carried_slot b (across bank) in
    let inside : slot < sync_slot_of near.sizes = slot-inside c.bridge (across bank) in
    word-fits (hands_on (across bank) (hands_of b)) (c.bridge.lawful (across bank)) frame inside
    (earlier-complete near (hands_on (across bank) (hands_of b)) frame slot (omega (arith, inside)) (c.unbroken (across bank)))

-- a sound pair offers the word of the near bus on the far bus
sound-offers : {b bank frame owner : _} → IsCrossing b bank frame owner → (pair : Pair) → IsIn pair b.pairs → is_sound b bank owner frame pair ≡ true
    → offer_of (bus_on b bank) (hands_on bank (hands_of b)) (frame + 1) owner (biu_on bank pair) ≡ Some (word_on b (across bank) frame)
sound-offers {b} {bank} {frame} {owner} c pair inside sound =
    let both = and_second (counts_on b bank owner pair) (far_good && near_good) sound in
    let far : far_good ≡ true = and_first far_good near_good both in
    let near : near_good ≡ true = and_second far_good near_good both in
    let there : Present (first_slot sc.sizes owner i) = present_if (first_slot sc.sizes owner i) (and_first (counts_on b bank owner pair) (far_good && near_good) sound) in
    let slot : ℕ = there.value in
    let within = first-within owner i sc.sizes.bius sc.sizes.data_slots there.is in
    let some : 1 ≤ sc.sizes.bius = (c.bridge.lawful bank).sizes.some_biu in
    let good : is_good sc Biu i (frame + 1) slot ≡ true = good_earlier sc Biu i (frame + 1) slot (sync_slot_of sc.sizes) (omega (arith, within.1)) far in
    let head : IsHead sc i = all-in (λ pair. IsHead sc (biu_on bank pair)) b.pairs inside (c.bridge.heads bank) in
    let complete : IsComplete sc hands (frame + 1) slot = slot-earlier sc hands (frame + 1) slot (omega (arith, within.1)) (c.unbroken bank) in
    let run : frame + 1 < sc.frames = frame-inside hands (c.bridge.lawful bank) slot complete in
    let frames : sc.frames ≡ b.left.frames = same-frames c.bridge bank in
    let handed : states_for i (suc frame) hands ≡ word ∷ [] =
    handed-one b bank frame (omega (arith, run, frames)) (c.bridge.apart bank) pair inside (good_earlier sc Biu i (frame + 1) 0 (sync_slot_of sc.sizes) (omega arith) far)
    ∙ ap (λ w. w ∷ []) (carries-word c pair near) in
    let offered : offered_in sc hands (frame + 1) slot i ≡ word =
    ap (λ f. offered_in sc hands f slot i) (plus frame)
    ∙ table-offers hands (c.bridge.lawful bank) frame i word (omega (arith, some, within.0)) (omega (arith, within.1))
    (subst (λ f. IsComplete sc hands f slot) (plus frame) complete) (ap (λ f. is_good sc Biu i f slot) (sym (plus frame)) ∙ good) head.table handed (word-small c) in
    ap (offer_in sc hands (frame + 1) i) there.is
    ∙ ap (λ g. if g then Some (offered_in sc hands (frame + 1) slot i) else None) good ∙ ap (λ w. Some w) offered
  where
    sc : Scenario
    sc = bus_on b bank

    hands : List HandIn
    hands = hands_on bank (hands_of b)

    i : ℕ
    i = biu_on bank pair

    word : ℕ
    word = word_on b (across bank) frame

    far_good : Bool
    far_good = is_good_through sc (frame + 1) i

    near_good : Bool
    near_good = is_good_through (bus_on b (across bank)) frame (biu_on (across bank) pair)

    plus : (n : ℕ) → n + 1 ≡ suc n
    plus n = omega arith

-- Members.

member-small : {b : _} (bank : Bank) → IsBridge b → (pair : Pair) → IsIn pair b.pairs → biu_on bank pair < 16
member-small {b} bank is pair inside =
    let head : IsHead (bus_on b bank) (biu_on bank pair) = all-in (λ pair. IsHead (bus_on b bank) (biu_on bank pair)) b.pairs inside (is.heads bank) in
    omega (arith, head.inside, (is.lawful bank).sizes.most_bius)

is-member : {b : _} (bank : Bank) → IsBridge b → (pair : Pair) → IsIn pair b.pairs → has (members_on b bank) (biu_on bank pair) ≡ true
is-member {b} bank is pair inside =
    has-set_of (biu_on bank pair) (λ i. list_any (λ p. biu_on bank p == i) b.pairs) (member-small bank is pair inside)
    ∙ any_of (λ p. biu_on bank p == biu_on bank pair) b.pairs inside (eq_self (biu_on bank pair))

member-found : (b : Bridge) (bank : Bank) (i : ℕ) → has (members_on b bank) i ≡ true → list_any (λ pair. biu_on bank pair == i) b.pairs ≡ true
member-found b bank i member =
    elim (cases_lt i 16) [
      | inl small ↦ sym (has-set_of i passes small) ∙ member
      | inr above ↦ absurd (let both : true ≡ false = sym member ∙ has_above (members_on b bank) i (set_of-lt passes) above in cc)
    ]
  where
    passes : ℕ → Bool
    passes i = list_any (λ pair. biu_on bank pair == i) b.pairs

-- The vote.

-- the members that offer the word outnumber the others that own a slot
offers-outnumber : {b bank frame owner : _} → IsCrossing b bank frame owner → SoundPairsOutnumber b bank owner frame
    → Outnumber (offers (bus_on b bank) (hands_on bank (hands_of b)) (frame + 1) owner (members_on b bank) (word_on b (across bank) frame)) (has_slot (bus_on b bank) owner (members_on b bank))
unfolding SoundPairsOutnumber Outnumber
offers-outnumber {b} {bank} {frame} {owner} c more =
    let few : count_if others (numbers 16) ≤ count_if unsound b.pairs =
    numbers-few (biu_on bank) others unsound b.pairs
    (λ i e. member-found b bank i (and_first (has members i) (is_some (first_slot sc.sizes owner i)) (and_second (not (offer i)) (has_slot sc owner members i) e)))
    (λ pair inside e. others-unsound pair inside (and_first (not (offer (biu_on bank pair))) (has_slot sc owner members (biu_on bank pair)) e)
    (and_second (has members (biu_on bank pair)) (counts_on b bank owner pair) (and_second (not (offer (biu_on bank pair))) (has_slot sc owner members (biu_on bank pair)) e))) in
    let many : count_if (is_sound b bank owner frame) b.pairs ≤ count_if offer (numbers 16) =
    items-few (biu_on bank) (is_sound b bank owner frame) offer b.pairs (c.bridge.apart bank) (λ pair inside e. (pair-offers pair inside e, member-small bank c.bridge pair inside)) in
    between (count_if others (numbers 16)) (count_if unsound b.pairs) (count_if (is_sound b bank owner frame) b.pairs) (count_if offer (numbers 16)) few more many
  where
    sc : Scenario
    sc = bus_on b bank

    hands : List HandIn
    hands = hands_on bank (hands_of b)

    members : ℕ
    members = members_on b bank

    word : ℕ
    word = word_on b (across bank) frame

    offer : ℕ → Bool
    offer = offers sc hands (frame + 1) owner members word

    others : ℕ → Bool
    others i = not (offer i) && has_slot sc owner members i

    unsound : Pair → Bool
    unsound pair = counts_on b bank owner pair && not (is_sound b bank owner frame pair)

    pair-offers : (pair : Pair) → IsIn pair b.pairs → is_sound b bank owner frame pair ≡ true → offer (biu_on bank pair) ≡ true
    pair-offers pair inside sound =
        and_from (has members (biu_on bank pair)) (is_number word (offer_of sc hands (frame + 1) owner (biu_on bank pair))) (is-member bank c.bridge pair inside)
        (ap (is_number word) (sound-offers c pair inside sound) ∙ eq_self word)

    is-unsound : (pair : Pair) → not (offer (biu_on bank pair)) ≡ true → (is_sound b bank owner frame pair ≡ true → offer (biu_on bank pair) ≡ true)
        → (t : Bool) → is_sound b bank owner frame pair ≡ t → not t ≡ true
    is-unsound pair none so true e = absurd (let both : true ≡ false = sym (so e) ∙ not-true (offer (biu_on bank pair)) none in cc)
    is-unsound pair none so false e = refl

    others-unsound : (pair : Pair) → IsIn pair b.pairs → not (offer (biu_on bank pair)) ≡ true → counts_on b bank owner pair ≡ true → unsound pair ≡ true
    others-unsound pair inside none counts =
        and_from (counts_on b bank owner pair) (not (is_sound b bank owner frame pair)) counts
        (is-unsound pair none (pair-offers pair inside) (is_sound b bank owner frame pair) refl)

    between : (a b c d : ℕ) → a ≤ b → b < c → c ≤ d → a < d
    between a b c d x y z = omega (arith, x, y, z)

-- The law.

pub words-cross : WordsCross
words-cross b is bank frame unbroken owner schedule more receiver good =
    let sc : Scenario = bus_on b bank in
    let hands : List HandIn = hands_on bank (hands_of b) in
    let shape : IsShape sc.sizes = (is.lawful bank).sizes in
    let within : last_data_slot sc.sizes ≤ sync_slot_of sc.sizes = omega arith in
    let c : IsCrossing b bank frame owner = record { bridge = is; unbroken = unbroken; schedule = schedule } in
    most-finds sc hands (is.lawful bank) (members_on b bank) (frame + 1) (slot-earlier sc hands (frame + 1) (last_data_slot sc.sizes) within (unbroken bank)) owner schedule
    (word_on b (across bank) frame) (offers-outnumber c more)
    receiver (good_earlier sc Biu receiver (frame + 1) (last_data_slot sc.sizes) (sync_slot_of sc.sizes) within good)
