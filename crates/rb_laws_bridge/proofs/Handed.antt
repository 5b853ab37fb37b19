-- What is handed in on both buses comes frame by frame, by the records as they are in the end.
use Rattle.std.specs.Prelude.{⊤}
use Rattle.std.proofs.{Common.{◌≡◌, ℕ, zero, suc, ◌+◌, ◌-◌, ◌<◌, ◌≤◌, ◌==◌, Bool, true, false, cond, List, [], ◌∷◌, ◌++◌, append_assoc, filter, map, refl, sym, ◌∙◌, ap, arith}, Math.Nat.add-sub_of_le, Math.Path.fun_ext, lemmas.Bool.Decides.nat_tests, lemmas.List.append-nil, lemmas.List.Elements.filter-append}
use Rattle.rb_base.specs.Nodes.Side.{Biu}
use Rattle.rb_base.proofs.Plain.{eq_self}
use Rattle.rb_rules.specs.{Goodness.is_good, Ports.HandIn, Rounds.records_of}
use Rattle.rb_group.specs.{Groups.group_value, Portions.port_deliveries, declared.voters.Which.TheVariants.Most}
use Rattle.rb_rules_bridge.specs.{declared.bank.Bank.Bank, declared.bank.Bank.TheVariants.{Left, Right}, declared.bank.Pair.Pair, Bridges.{Bridge, across, biu_on, bus_on, carried_slot, members_on}, Crossings.{Hands, carried_to, hand_in_of, hands_of, hands_on, hands_up_to, records_on, value_in, word_of}, Texts.break_in}
use Rattle.rb_laws_bridge.specs.Laws.{FramesGoByTheEarlier, HandInsAreCarried}
use Rattle.rb_laws_bridge.proofs.{Breaks.breaks-alike, Later.{AreLater, deliveries-alike}}

-- The frame of a hand-in.

-- each hand-in is for this frame
abbrev AreFor : ℕ → List HandIn → Type 0
AreFor frame [] = ⊤
AreFor frame (h ∷ hs) = (h.frame ≡ frame) × AreFor frame hs

all-for : (b : Bridge) (hands : Hands) (bank : Bank) (frame : ℕ) (pairs : List Pair) → AreFor (frame + 1) (map (hand_in_of b hands bank frame) pairs)
all-for b hands bank frame [] = tt
all-for b hands bank frame (p ∷ ps) = (refl, all-for b hands bank frame ps)

carried-for : (b : Bridge) (hands : Hands) (bank : Bank) (frame : ℕ) → AreFor (frame + 1) (carried_to b hands bank frame)
carried-for b hands bank frame = all-for b hands bank frame (filter (λ pair. is_good (bus_on b bank) Biu (biu_on bank pair) (frame + 1) 0) b.pairs)

for-later : (frame : ℕ) {g : ℕ} (hs : List HandIn) → frame < g → AreFor g hs → AreLater frame hs
for-later frame [] lt all = tt
for-later frame {g} (h ∷ hs) lt all = (let e : h.frame ≡ g = all.0 in omega (arith, lt), for-later frame hs lt all.1)

these-for : (frame : ℕ) (hs : List HandIn) → AreFor frame hs → filter (λ h. h.frame == frame) hs ≡ hs
these-for frame [] all = refl
these-for frame (h ∷ hs) all =
    ap (λ b. cond b (h ∷ filter (λ h. h.frame == frame) hs) (filter (λ h. h.frame == frame) hs)) (ap (λ f. f == frame) all.0 ∙ eq_self frame)
    ∙ ap (λ l. h ∷ l) (these-for frame hs all.1)

none-for : (frame g : ℕ) (hs : List HandIn) → (g == frame) ≡ false → AreFor g hs → filter (λ h. h.frame == frame) hs ≡ []
none-for frame g [] other all = refl
none-for frame g (h ∷ hs) other all =
    ap (λ b. cond b (h ∷ filter (λ h. h.frame == frame) hs) (filter (λ h. h.frame == frame) hs)) (ap (λ f. f == frame) all.0 ∙ other)
    ∙ none-for frame g hs other all.1

later-join : (frame : ℕ) (xs ys : List HandIn) → AreLater frame xs → AreLater frame ys → AreLater frame (xs ++ ys)
later-join frame [] ys a b = b
later-join frame (x ∷ xs) ys a b = (a.0, later-join frame xs ys a.1 b)

-- Frame by frame.

hands-step : (b : Bridge) (bank : Bank) (n : ℕ) → hands_on bank (hands_up_to b (suc n)) ≡ hands_on bank (hands_up_to b n) ++ carried_to b (hands_up_to b n) bank n
hands-step b Left n = refl
hands-step b Right n = refl

-- the hand-ins up to frame n + k are those up to frame `n` and later ones
pub record MoreLater (b : Bridge) (bank : Bank) (n k : ℕ) : Type 0 where
  pub more : List HandIn
  pub is : hands_on bank (hands_up_to b (n + k)) ≡ hands_on bank (hands_up_to b n) ++ more
  pub late : AreLater n more

pub more-later : (b : Bridge) (bank : Bank) (n k : ℕ) → MoreLater b bank n k
more-later b bank n zero = record {
  more = [];
  is = ap (λ m. hands_on bank (hands_up_to b m)) (same n) ∙ sym (append-nil (hands_on bank (hands_up_to b n)));
  late = tt;
}
  where
    same : (n : ℕ) → n + 0 ≡ n
    same n = omega arith
more-later b bank n (suc k) =
    let before : MoreLater b bank n k = more-later b bank n k in
    let now : List HandIn = carried_to b (hands_up_to b (n + k)) bank (n + k) in
    record {
      more = before.more ++ now;
      is = ap (λ m. hands_on bank (hands_up_to b m)) (same n k) ∙ hands-step b bank (n + k) ∙ ap (λ l. l ++ now) before.is
          ∙ append_assoc (hands_on bank (hands_up_to b n)) before.more now;
      late = later-join n before.more now before.late (for-later n now (omega arith) (carried-for b (hands_up_to b (n + k)) bank (n + k)));
    }
  where
    same : (n k : ℕ) → n + suc k ≡ suc (n + k)
    same n k = omega arith

-- a frame's records carry over the same, whatever is handed in later
pub carried-alike : (b : Bridge) (bank : Bank) (frame k : ℕ) → carried_to b (hands_up_to b (frame + k)) bank frame ≡ carried_to b (hands_up_to b frame) bank frame
carried-alike b bank frame k =
    ap (λ make. map make pairs) (fun_ext (λ pair. ap (λ word. record { frame = frame + 1; biu = biu_on bank pair; state = word }) (ap (λ ds. word_of (value_in slot ds)) (same (biu_on near pair)))))
  where
    near : Bank
    near = across bank

    slot : ℕ
    slot = carried_slot b near

    pairs : List Pair
    pairs = filter (λ pair. is_good (bus_on b bank) Biu (biu_on bank pair) (frame + 1) 0) b.pairs

    more : MoreLater b near frame k
    more = more-later b near frame k

    same : (i : ℕ) → port_deliveries frame i (records_on b (hands_up_to b (frame + k)) near) ≡ port_deliveries frame i (records_on b (hands_up_to b frame) near)
    same i =
        ap (λ hands. port_deliveries frame i (records_of (bus_on b near) hands)) more.is
        ∙ deliveries-alike (bus_on b near) (hands_on near (hands_up_to b frame)) more.more frame more.late i

-- The hand-ins for one frame.

abbrev for_next : ℕ → List HandIn → List HandIn
for_next frame hs = filter (λ h. h.frame == frame + 1) hs

next-step : (b : Bridge) (bank : Bank) (frame n : ℕ) → for_next frame (hands_on bank (hands_up_to b (suc n)))
    ≡ for_next frame (hands_on bank (hands_up_to b n)) ++ for_next frame (carried_to b (hands_up_to b n) bank n)
next-step b bank frame n =
    ap (for_next frame) (hands-step b bank n) ∙ filter-append (λ h. h.frame == frame + 1) (hands_on bank (hands_up_to b n)) (carried_to b (hands_up_to b n) bank n)

differs : (n frame : ℕ) → (n ≡ frame → ⊥) → (n + 1 == frame + 1) ≡ false
differs n frame h = by (n + 1 == frame + 1) refl
  where
    same : (a b : ℕ) → (a + 1 == b + 1) ≡ true → a ≡ b
    same a b e = grind (arith, nat_tests)

    by : (t : Bool) → (n + 1 == frame + 1) ≡ t → t ≡ false
    by true e = absurd (h (same n frame e))
    by false e = refl

nothing-on : (bank : Bank) → hands_on bank (record { left = []; right = [] }) ≡ []
nothing-on Left = refl
nothing-on Right = refl

none-yet : (b : Bridge) (bank : Bank) (frame n : ℕ) → n ≤ frame → for_next frame (hands_on bank (hands_up_to b n)) ≡ []
none-yet b bank frame zero le = ap (for_next frame) (nothing-on bank)
none-yet b bank frame (suc n) le =
    next-step b bank frame n
    ∙ ap (λ l. l ++ for_next frame (carried_to b (hands_up_to b n) bank n)) (none-yet b bank frame n (omega arith))
    ∙ none-for (frame + 1) (n + 1) (carried_to b (hands_up_to b n) bank n) (differs n frame (λ e. absurd (omega (arith, e, le)))) (carried-for b (hands_up_to b n) bank n)

then-all : (b : Bridge) (bank : Bank) (frame k : ℕ) → for_next frame (hands_on bank (hands_up_to b (suc frame + k))) ≡ carried_to b (hands_up_to b frame) bank frame
then-all b bank frame zero =
    ap (λ n. for_next frame (hands_on bank (hands_up_to b n))) (same (suc frame)) ∙ next-step b bank frame frame
    ∙ ap (λ l. l ++ for_next frame (carried_to b (hands_up_to b frame) bank frame)) (none-yet b bank frame frame (omega arith))
    ∙ these-for (frame + 1) (carried_to b (hands_up_to b frame) bank frame) (carried-for b (hands_up_to b frame) bank frame)
  where
    same : (n : ℕ) → n + 0 ≡ n
    same n = omega arith
then-all b bank frame (suc k) =
    ap (λ n. for_next frame (hands_on bank (hands_up_to b n))) (same frame k) ∙ next-step b bank frame (suc frame + k)
    ∙ ap (λ l. for_next frame (hands_on bank (hands_up_to b (suc frame + k))) ++ l)
    (none-for (frame + 1) (suc frame + k + 1) (carried_to b (hands_up_to b (suc frame + k)) bank (suc frame + k)) (differs (suc frame + k) frame (λ e. absurd (omega (arith, e))))
    (carried-for b (hands_up_to b (suc frame + k)) bank (suc frame + k)))
    ∙ append-nil (for_next frame (hands_on bank (hands_up_to b (suc frame + k)))) ∙ then-all b bank frame k
  where
    same : (frame k : ℕ) → suc frame + suc k ≡ suc (suc frame + k)
    same frame k = omega arith

pub hand-ins-are-carried : HandInsAreCarried
hand-ins-are-carried b bank frame inside =
    let last : suc frame + (b.left.frames - suc frame) ≡ b.left.frames = add-sub_of_le (omega (arith, inside)) in
    let all : frame + (b.left.frames - frame) ≡ b.left.frames = add-sub_of_le (omega (arith, inside)) in
    ap (λ n. for_next frame (hands_on bank (hands_up_to b n))) (sym last) ∙ then-all b bank frame (b.left.frames - suc frame)
    ∙ sym (carried-alike b bank frame (b.left.frames - frame))
    ∙ ap (λ n. carried_to b (hands_up_to b n) bank frame) all

-- What is said of a frame.

pub frames-go-by-the-earlier : FramesGoByTheEarlier
frames-go-by-the-earlier b bank frame le =
    let all : frame + (b.left.frames - frame) ≡ b.left.frames = add-sub_of_le le in
    let m : MoreLater b bank frame (b.left.frames - frame) = more-later b bank frame (b.left.frames - frame) in
    let before : List HandIn = hands_on bank (hands_up_to b frame) in
    let are : hands_on bank (hands_of b) ≡ before ++ m.more = ap (λ n. hands_on bank (hands_up_to b n)) (sym all) ∙ m.is in
    record {
      values = λ receiver.
          ap (group_value Most (members_on b bank))
          (ap (λ hands. port_deliveries frame receiver (records_of (bus_on b bank) hands)) are ∙ deliveries-alike (bus_on b bank) before m.more frame m.late receiver);
      breach = ap (λ hands. break_in bank frame (records_of (bus_on b bank) hands)) are ∙ breaks-alike (bus_on b bank) before m.more frame m.late bank;
      carried = ap (λ n. carried_to b (hands_up_to b n) bank frame) (sym all) ∙ carried-alike b bank frame (b.left.frames - frame);
    }
