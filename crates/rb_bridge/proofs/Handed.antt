-- Words that are handed over one after another, and what a frame is handed by them.
use Rattle.std.proofs.{Common.{◌≡◌, ℕ, ◌+◌, ◌<◌, Bool, true, false, cond, Option, Some, None, List, [], ◌∷◌, ◌++◌, filter, map, take, length, get_or, append_assoc, refl, sym, ◌∙◌, ap, subst}, lemmas.List.{append-nil, take_more}}
use Rattle.rb_base.specs.{Nodes.Side.Biu, declared.values.Heard.Heard}
use Rattle.rb_rules.specs.{Goodness.{Scenario, is_good}, Ports.{HandIn, with_state}, WorldStep.{World, frame_in, hand}}
use Rattle.rb_world.specs.Worlds.{KeptWorld, Stands}
use Rattle.rb_rules_bridge.specs.{declared.bank.Bank.Bank, declared.bank.Pair.Pair, Bridges.{across, biu_on}, Crossings.word_of}
use Rattle.rb_bridge.specs.Handing.{with_words}

pub words-append : (sc : Scenario) (bank : Bank) (told : ℕ → Option Heard) (ps qs : List Pair) (w : World)
    → with_words sc bank told (ps ++ qs) w ≡ with_words sc bank told qs (with_words sc bank told ps w)
words-append sc bank told [] qs w = refl
words-append sc bank told (p ∷ ps) qs w = words-append sc bank told ps qs (hand sc w (biu_on bank p) (word_of (told (biu_on (across bank) p))))

-- the words of k + 1 pairs are those of the first `k` pairs and then that of pair `k`
pub words-more : (sc : Scenario) (bank : Bank) (told : ℕ → Option Heard) (k : ℕ) (pairs : List Pair) (d : Pair) (w : World) → k < length pairs
    → with_words sc bank told (get_or pairs k d ∷ []) (with_words sc bank told (take k pairs) w) ≡ with_words sc bank told (take (k + 1) pairs) w
words-more sc bank told k pairs d w below =
    sym (words-append sc bank told (take k pairs) (get_or pairs k d ∷ []) w) ∙ ap (λ ps. with_words sc bank told ps w) (sym (take_more pairs k d below))

pub next-handed : (sc now : Scenario) (bank : Bank) (told : ℕ → Option Heard) (k : ℕ) (pairs : List Pair) (d : Pair) (w : World) (after : KeptWorld) → now ≡ sc → k < length pairs
    → Stands after (with_words now bank told (get_or pairs k d ∷ []) (with_words sc bank told (take k pairs) w)) → Stands after (with_words sc bank told (take (k + 1) pairs) w)
next-handed sc now bank told k pairs d w after same below stands =
    subst (Stands after) (ap (λ s. with_words s bank told (get_or pairs k d ∷ []) (with_words sc bank told (take k pairs) w)) same ∙ words-more sc bank told k pairs d w below) stands

-- What a frame is handed if its record was the last turn.

-- the hand-in for a pair's BIU on `bank`: the word told for the BIU on the other side
abbrev pub handed_for : Bank → (ℕ → Option Heard) → ℕ → Pair → HandIn
handed_for bank told frame pair = record { frame = frame; biu = biu_on bank pair; state = word_of (told (biu_on (across bank) pair)) }

-- `after` is `w` with the hand-ins `more`: only hand-ins and ports have changed
pub record IsHanded (w after : World) (more : List HandIn) : Type 0 where
  pub hands : after.hands ≡ w.hands ++ more
  pub turn : after.turn ≡ w.turn
  pub book : after.book ≡ w.book

hand-one : (sc : Scenario) (w : World) (frame biu state : ℕ) → frame_in w.turn ≡ Some frame
    → IsHanded w (hand sc w biu state) (cond (is_good sc Biu biu frame 0) (record { frame = frame; biu = biu; state = state } ∷ []) [])
unfolding hand
hand-one sc w frame biu state at = by (frame_in w.turn) at
  where
    goes : Bool → World
    goes b = elim b as (λ _. World) [
      | true ↦ record w { ports = with_state biu state w.ports; hands = w.hands ++ record { frame = frame; biu = biu; state = state } ∷ [] }
      | false ↦ w
    ]

    inner : (b : Bool) → IsHanded w (goes b) (cond b (record { frame = frame; biu = biu; state = state } ∷ []) [])
    inner true = record { hands = refl; turn = refl; book = refl }
    inner false = record { hands = sym (append-nil w.hands); turn = refl; book = refl }

    by : (o : Option ℕ) → o ≡ Some frame → IsHanded w (elim o as (λ _. World) [
      | None ↦ w
      | Some f ↦ elim (is_good sc Biu biu f 0) as (λ _. World) [
        | true ↦ record w { ports = with_state biu state w.ports; hands = w.hands ++ record { frame = f; biu = biu; state = state } ∷ [] }
        | false ↦ w
      ]
    ]) (cond (is_good sc Biu biu frame 0) (record { frame = frame; biu = biu; state = state } ∷ []) [])
    by None e = cc
    by (Some f) e = subst (λ f. IsHanded w (elim (is_good sc Biu biu f 0) as (λ _. World) [
      | true ↦ record w { ports = with_state biu state w.ports; hands = w.hands ++ record { frame = f; biu = biu; state = state } ∷ [] }
      | false ↦ w
    ]) (cond (is_good sc Biu biu frame 0) (record { frame = frame; biu = biu; state = state } ∷ []) [])) (let same : frame ≡ f = cc in same) (inner (is_good sc Biu biu frame 0))

pub words-handed : (sc : Scenario) (bank : Bank) (told : ℕ → Option Heard) (frame : ℕ) (pairs : List Pair) (w : World) → frame_in w.turn ≡ Some frame
    → IsHanded w (with_words sc bank told pairs w) (map (handed_for bank told frame) (filter (λ pair. is_good sc Biu (biu_on bank pair) frame 0) pairs))
words-handed sc bank told frame [] w at = record { hands = sym (append-nil w.hands); turn = refl; book = refl }
words-handed sc bank told frame (p ∷ ps) w at =
    let word : ℕ = word_of (told (biu_on (across bank) p)) in
    let next : World = hand sc w (biu_on bank p) word in
    let one = hand-one sc w frame (biu_on bank p) word at in
    let rest = words-handed sc bank told frame ps next (ap frame_in one.turn ∙ at) in
    record {
      hands = rest.hands ∙ ap (λ l. l ++ map (handed_for bank told frame) (filter good ps)) one.hands ∙ joined (good p) w.hands;
      turn = rest.turn ∙ one.turn;
      book = rest.book ∙ one.book;
    }
  where
    good : Pair → Bool
    good pair = is_good sc Biu (biu_on bank pair) frame 0

    joined : (b : Bool) (before : List HandIn) → (before ++ cond b (handed_for bank told frame p ∷ []) []) ++ map (handed_for bank told frame) (filter good ps)
        ≡ before ++ map (handed_for bank told frame) (cond b (p ∷ filter good ps) (filter good ps))
    joined true before = append_assoc before (handed_for bank told frame p ∷ []) (map (handed_for bank told frame) (filter good ps))
    joined false before = ap (λ l. l ++ map (handed_for bank told frame) (filter good ps)) (append-nil before)
