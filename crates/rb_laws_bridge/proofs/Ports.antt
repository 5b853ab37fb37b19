-- A table that is handed one word as a frame begins offers it through the frame, and each BIU of
-- the bridge is handed one word.
use Rattle.std.proofs.{Common.{◌≡◌, ℕ, suc, ◌+◌, ◌^◌, ◌%◌, ◌<◌, ◌≤◌, ◌==◌, ◌&&◌, Bool, true, false, inl, inr, cond, eqb, List, [], ◌∷◌, filter, map, get_or, refl, sym, ◌∙◌, ap, arith}, lemmas.Bool.Decides.nat_tests}
use Rattle.std.specs.List.{IsDistinct}
use Rattle.rb_base.specs.{Nodes.Side.Biu, Sizes.sync_slot_of}
use Rattle.rb_base.proofs.Plain.{eq_self}
use Rattle.rb_rules.specs.{Goodness.is_good, Lawful.IsLawful, Moments.{IsComplete, offered_in}, Ports.HandIn}
use Rattle.rb_laws_agreement.specs.{Held.{last_state, state_held}, Histories.states_for}
use Rattle.rb_laws_agreement.proofs.TablesHold.{held-offered}
use Rattle.rb_rules_bridge.specs.{declared.bank.Bank.Bank, declared.bank.Pair.Pair, Bridges.{Bridge, biu_on, bus_on}, Crossings.{hand_in_of, hands_of, hands_on, word_carried}}
use Rattle.rb_laws_bridge.proofs.{Counted.{IsIn, later-apart}, Handed.hand-ins-are-carried}

-- A table that is handed one word as a frame begins offers that word in every slot of the frame but
-- the first.
pub table-offers : {sc : _} (hands : List HandIn) → IsLawful sc → (frame : ℕ) {slot : ℕ} (i word : ℕ) → 1 ≤ slot → slot ≤ sync_slot_of sc.sizes → IsComplete sc hands (suc frame) slot
    → is_good sc Biu i (suc frame) slot ≡ true → get_or sc.apps i 0 ≡ 0 → states_for i (suc frame) hands ≡ word ∷ [] → word < 2 ^ 32
    → offered_in sc hands (suc frame) slot i ≡ word
table-offers {sc} hands law frame {slot} i word some le complete good table is fits =
    held-offered hands law (suc frame) slot i some le complete good table
    ∙ ap (λ states. last_state (state_held sc hands i frame) states % 2 ^ 32) is ∙ small word fits
  where
    small : (word : ℕ) → word < 2 ^ 32 → word % 2 ^ 32 ≡ word
    small word h = omega (arith, h)

-- What is handed to one BIU.

filter-both : {X : Type 0} (p q : X → Bool) (xs : List X) → filter (λ x. p x && q x) xs ≡ filter q (filter p xs)
filter-both p q [] = refl
filter-both {X} p q (x ∷ xs) = by (p x) (filter-both p q xs)
  where
    by : (b : Bool) → filter (λ x. p x && q x) xs ≡ filter q (filter p xs)
        → cond (b && q x) (x ∷ filter (λ x. p x && q x) xs) (filter (λ x. p x && q x) xs) ≡ filter q (cond b (x ∷ filter p xs) (filter p xs))
    by true h = ap (λ l. cond (q x) (x ∷ l) l) h
    by false h = h

-- the hand-ins of pairs whose BIU is good as the frame begins, for BIU i
abbrev for_biu : (Pair → HandIn) → (Pair → Bool) → ℕ → List Pair → List HandIn
for_biu make good i pairs = filter (λ h. h.biu == i) (map make (filter good pairs))

for-none : (make : Pair → HandIn) (key : Pair → ℕ) → ((p : Pair) → (make p).biu ≡ key p) → (good : Pair → Bool) (i : ℕ) (pairs : List Pair)
    → ((p : Pair) → IsIn p pairs → (key p == i) ≡ false) → for_biu make good i pairs ≡ []
for-none make key same good i [] apart = refl
for-none make key same good i (p ∷ ps) apart = by (good p) (for-none make key same good i ps (λ q inside. apart q (inr inside)))
  where
    by : (b : Bool) → for_biu make good i ps ≡ [] → filter (λ h. h.biu == i) (map make (cond b (p ∷ filter good ps) (filter good ps))) ≡ []
    by true rest = ap (λ b. cond b (make p ∷ for_biu make good i ps) (for_biu make good i ps)) (ap (λ k. k == i) (same p) ∙ apart p (inl refl)) ∙ rest
    by false rest = rest

for-one : (make : Pair → HandIn) (key : Pair → ℕ) → ((p : Pair) → (make p).biu ≡ key p) → (good : Pair → Bool) {pair : _} (pairs : List Pair)
    → IsDistinct eqb (map key pairs) → IsIn pair pairs → good pair ≡ true → for_biu make good (key pair) pairs ≡ make pair ∷ []
unfolding IsDistinct
for-one make key same good [] distinct inside is = absurd inside
for-one make key same good {pair} (p ∷ ps) distinct (inl here) is =
    ap (λ b. filter (λ h. h.biu == key pair) (map make (cond b (p ∷ filter good ps) (filter good ps)))) (ap good here ∙ is)
    ∙ ap (λ b. cond b (make p ∷ for_biu make good (key pair) ps) (for_biu make good (key pair) ps)) (ap (λ k. k == key pair) (same p ∙ ap key here) ∙ eq_self (key pair))
    ∙ ap (λ l. make p ∷ l) (for-none make key same good (key pair) ps (λ q inside. ap (λ k. key q == k) (ap key (sym here)) ∙ later-apart key p q ps distinct inside))
    ∙ ap (λ p. make p ∷ []) here
for-one make key same good {pair} (p ∷ ps) distinct (inr later) is = by (good p) (for-one make key same good ps distinct.1 later is)
  where
    turned : (a b : ℕ) → (a == b) ≡ false → (b == a) ≡ false
    turned a b h = grind (arith, nat_tests)

    by : (b : Bool) → for_biu make good (key pair) ps ≡ make pair ∷ []
        → filter (λ h. h.biu == key pair) (map make (cond b (p ∷ filter good ps) (filter good ps))) ≡ make pair ∷ []
    by true rest =
        ap (λ b. cond b (make p ∷ for_biu make good (key pair) ps) (for_biu make good (key pair) ps))
        (ap (λ k. k == key pair) (same p) ∙ turned (key pair) (key p) (later-apart key p pair ps distinct later)) ∙ rest
    by false rest = rest

-- each BIU of the bridge that is good as a frame begins is handed the word that its pair carries
pub handed-one : (b : Bridge) (bank : Bank) (frame : ℕ) → frame < b.left.frames → IsDistinct eqb (map (biu_on bank) b.pairs) → (pair : Pair) → IsIn pair b.pairs
    → is_good (bus_on b bank) Biu (biu_on bank pair) (frame + 1) 0 ≡ true
    → states_for (biu_on bank pair) (suc frame) (hands_on bank (hands_of b)) ≡ word_carried b (hands_of b) bank frame pair ∷ []
handed-one b bank frame inside distinct pair there good =
    let hands : List HandIn = hands_on bank (hands_of b) in
    ap (λ f. states_for (biu_on bank pair) f hands) (plus frame)
    ∙ ap (λ hs. map (λ h. h.state) hs)
    (filter-both (λ h. h.frame == frame + 1) (λ h. h.biu == biu_on bank pair) hands
    ∙ ap (filter (λ h. h.biu == biu_on bank pair)) (hand-ins-are-carried b bank frame inside)
    ∙ for-one (hand_in_of b (hands_of b) bank frame) (biu_on bank) (λ p. refl) (λ p. is_good (bus_on b bank) Biu (biu_on bank p) (frame + 1) 0) b.pairs distinct there good)
  where
    plus : (n : ℕ) → suc n ≡ n + 1
    plus n = omega arith
