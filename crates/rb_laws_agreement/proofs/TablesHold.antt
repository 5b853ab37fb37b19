-- A table holds the state that was handed to it last, and offers it.
use Rattle.std.proofs.{Common.{◌≡◌, ℕ, zero, suc, ◌+◌, ◌^◌, ◌%◌, ◌≤◌, ◌==◌, Bool, true, false, nat_lt, Option, Some, None, List, [], ◌∷◌, get_or, if◌then◌else◌, refl, sym, ◌∙◌, ap, subst, arith}, lemmas.Bool.Decides.nat_tests}
use Rattle.rb_base.specs.{Nodes.Side.Biu, Sizes.{Sizes, sync_slot_of}, declared.values.Heard.Heard, declared.values.Heard.TheVariants.Word}
use Rattle.rb_rules.specs.{declared.role.Role.Role, declared.role.Role.TheVariants.Schedule, Goodness.{Scenario, is_good}, Headline.{DeliverTheWord, HasRecord, lines_of}, Hearing.port_at, Lawful.IsLawful, Moments.{IsComplete, offered_in}, NodeState.NodeState, NodeSteps.{owner_at, owner_for}, Ports.{HandIn, PortState, fresh_port, learned_by, offered_at, word_in}}
use Rattle.rb_laws_agreement.specs.{Held.{DeliverTheHeldWord, last_state, state_held}, Histories.{delivered_in, port_begun, port_through, states_for, with_delivery, with_states}}
use Rattle.rb_laws_agreement.proofs.{Goodnesses.good_earlier, Places.complete_before, PortHistories.{ports_follow, slot-follows}}

-- A port through a frame.

delivery-app : (o : Option Heard) (port : PortState) → (with_delivery o port).app ≡ port.app
delivery-app None port = refl
delivery-app (Some value) port = refl

-- a table keeps its state
delivery-state : (o : Option Heard) (port : PortState) → port.app ≡ 0 → (with_delivery o port).state ≡ port.state
delivery-state None port table = refl
delivery-state (Some value) port table = ap (λ app. learned_by app port.state (word_in value)) table

through-app : (sc : Scenario) (hands : List HandIn) (frame slot : ℕ) (port : PortState) → (port_through sc hands frame slot port).app ≡ port.app
through-app sc hands frame zero port = refl
through-app sc hands frame (suc slot) port =
    delivery-app (delivered_in sc hands frame slot) (port_through sc hands frame slot port) ∙ through-app sc hands frame slot port

through-state : (sc : Scenario) (hands : List HandIn) (frame slot : ℕ) (port : PortState) → port.app ≡ 0 → (port_through sc hands frame slot port).state ≡ port.state
through-state sc hands frame zero port table = refl
through-state sc hands frame (suc slot) port table =
    delivery-state (delivered_in sc hands frame slot) (port_through sc hands frame slot port) (through-app sc hands frame slot port ∙ table)
    ∙ through-state sc hands frame slot port table

states-app : (states : List ℕ) (port : PortState) → (with_states states port).app ≡ port.app
states-app [] port = refl
states-app (state ∷ states) port = states-app states (record port { state = state })

states-state : (states : List ℕ) (port : PortState) → (with_states states port).state ≡ last_state port.state states
states-state [] port = refl
states-state (state ∷ states) port = states-state states (record port { state = state })

begun-app : (sc : Scenario) (hands : List HandIn) (i frame : ℕ) → (port_begun sc hands i frame).app ≡ get_or sc.apps i 0
begun-app sc hands i zero = states-app (states_for i 0 hands) (fresh_port (get_or sc.apps i 0) (get_or sc.words i 0))
begun-app sc hands i (suc frame) =
    states-app (states_for i (suc frame) hands) (port_through sc hands frame (sync_slot_of sc.sizes) (port_begun sc hands i frame))
    ∙ through-app sc hands frame (sync_slot_of sc.sizes) (port_begun sc hands i frame) ∙ begun-app sc hands i frame

-- a table begins a frame with the state that it holds
begun-state : (sc : Scenario) (hands : List HandIn) (i frame : ℕ) → get_or sc.apps i 0 ≡ 0 → (port_begun sc hands i frame).state ≡ state_held sc hands i frame
begun-state sc hands i zero table = states-state (states_for i 0 hands) (fresh_port (get_or sc.apps i 0) (get_or sc.words i 0))
begun-state sc hands i (suc frame) table =
    states-state (states_for i (suc frame) hands) (port_through sc hands frame (sync_slot_of sc.sizes) (port_begun sc hands i frame))
    ∙ ap (λ s. last_state s (states_for i (suc frame) hands))
    (through-state sc hands frame (sync_slot_of sc.sizes) (port_begun sc hands i frame) (begun-app sc hands i frame ∙ table)
    ∙ begun-state sc hands i frame table)

-- a table offers that state in every slot but the first
pub held-offered : {sc : _} (hands : List HandIn) → IsLawful sc → (frame slot i : ℕ) → 1 ≤ slot → slot ≤ sync_slot_of sc.sizes → IsComplete sc hands frame slot
    → is_good sc Biu i frame slot ≡ true → get_or sc.apps i 0 ≡ 0 → offered_in sc hands frame slot i ≡ state_held sc hands i frame % 2 ^ 32
held-offered hands law frame zero i some le complete good table = absurd (omega (arith, some))
held-offered {sc} hands law frame (suc slot) i some le complete good table =
    let port : PortState = port_begun sc hands i frame in
    let here : PortState = port_through sc hands frame (suc slot) port in
    let app : port.app ≡ 0 = begun-app sc hands i frame ∙ table in
    let state : here.state ≡ state_held sc hands i frame = through-state sc hands frame (suc slot) port app ∙ begun-state sc hands i frame table in
    let earlier : IsComplete sc hands frame slot =
    ap (λ m. m.book.ended) (sym (slot-follows sc hands frame slot)) ∙ complete_before sc hands frame (suc slot) 1 (omega arith) complete in
    ap (λ m. offered_at (port_at sc m.ports i) (suc slot)) (slot-follows sc hands frame slot)
    ∙ ap (λ p. offered_at p (suc slot))
    (ports_follow sc hands law frame slot (omega (arith, le)) earlier i (good_earlier sc Biu i frame slot (suc slot) (omega arith) good))
    ∙ ap (λ app. (if app == 2 then here.state + suc slot else here.state) % 2 ^ 32) (through-app sc hands frame (suc slot) port ∙ app)
    ∙ ap (λ state. state % 2 ^ 32) state

-- The first slot has no owner.

owned-late : (sizes : Sizes) (st : NodeState) {owner : ℕ} → 1 ≤ sizes.bius → owner_at sizes st 0 ≡ Some owner → ⊥
owned-late sizes st {owner} some is = by (nat_lt 0 sizes.bius) _ (grind (arith, nat_tests)) is
  where
    by : (b : Bool) (rest : Role) → b ≡ true → owner_for st (if b then Schedule 0 else rest) ≡ Some owner → ⊥
    by true rest e is = let never : None ≡ Some owner = is in cc
    by false rest e is = cc

-- The law.

pub held-delivered : {sc hands : _} → IsLawful sc → DeliverTheWord sc hands → DeliverTheHeldWord sc hands
held-delivered {sc} {hands} law words frame slot below complete me i st before owner owns good table =
    subst (λ (word : ℕ). HasRecord sc hands frame slot (lines_of sc frame slot owner (Word word)))
    (held-offered hands law frame slot owner (late slot owns) (omega (arith, below)) complete good table)
    (words frame slot below complete me i st before owner owns good)
  where
    late : (slot : ℕ) → owner_at sc.sizes st slot ≡ Some owner → 1 ≤ slot
    late zero is = absurd (owned-late sc.sizes st law.sizes.some_biu is)
    late (suc n) is = omega arith
