-- For the law that pending events are few if the run breaks off in a sync slot: in the sync slot,
-- after its first stage, a node sends one message at most, whatever middles it keeps.
use Rattle.std.proofs.{Common.{◌≡◌, ℕ, ◌+◌, ◌-◌, ◌*◌, ◌<◌, ◌≤◌, ◌==◌, ◌⊎◌, Bool, true, false, refl, ap, sym, ◌∙◌, subst, arith, inl, inr, Option, Some, None, option_map, if◌then◌else◌}, lemmas.Bool.{eqb-true, or_cases}, lemmas.Option.same_Some}
use Rattle.std.specs.Option.{option_or}
use Rattle.rb_base.specs.{Nodes.{Side, other}, Nodes.Side.{Biu, Rmu}, Sizes.{Sizes, sync_slot_of}}
use Rattle.rb_base.proofs.Plain.{and_first, none_not_some}
use Rattle.rb_rules.specs.{declared.message.Message.Message, declared.plan.Plan.Plan, declared.role.Role.TheVariants.Sync, Clock.stamp_of, Core.{Act, Core, arrive, pass_to, if_at, said_at, state_at, state_kept, tick, window_here}, Goodness.{Scenario, clock_of}, Hearing.{Coming, Sending, sending}, NodeState.NodeState, Plan.f0_of, Slots.listens, SyncStage.call_tick_of, WorldStep.{Site, after_arrival}}
use Rattle.rb_rules.proofs.QuietTicks.{arrive-same}
use Rattle.rb_laws_synchrony.proofs.TakenCalls.{call_sent}
use Rattle.rb_laws_events.specs.Closing.{stages_in}
use Rattle.rb_laws_events.proofs.{ActCases.{act-by, tick-by}, NodeActs.HasRoom, StageOrder.{last_of, last-same}, TickWindows.{IsTickIn, ends-before-later, first_of}}

-- each call of the node in the sync slot has gone out before tick `had`
abbrev pub HasSpoken : Sizes → Plan → Side → NodeState → ℕ → Type 0
HasSpoken sizes plan me st had = (stage t : ℕ) → listens (other me) Sync stage ≡ true → call_tick_of sizes plan st stage ≡ Some t → t < had

-- the states have the same ticks of calls
pub record CallsAlike (st y : NodeState) : Type 0 where
  pub epoch : y.epoch ≡ st.epoch
  pub k1 : y.k1 ≡ st.k1
  pub k2 : y.k2 ≡ st.k2

pub same-call : (sizes : Sizes) (plan : Plan) {st y : _} (stage : ℕ) → CallsAlike st y → call_tick_of sizes plan y stage ≡ call_tick_of sizes plan st stage
same-call sizes plan {st} {y} stage h =
    ap (λ e. if stage == 1 then Some (e + f0_of sizes plan + plan.h) else (if stage == 2 then option_map (λ k1. k1 + plan.l) y.k1 else option_map (λ k2. k2 + plan.v) y.k2)) h.epoch
    ∙ ap (λ k. if stage == 1 then Some (st.epoch + f0_of sizes plan + plan.h) else (if stage == 2 then option_map (λ k1. k1 + plan.l) k else option_map (λ k2. k2 + plan.v) y.k2)) h.k1
    ∙ ap (λ k. if stage == 1 then Some (st.epoch + f0_of sizes plan + plan.h) else (if stage == 2 then option_map (λ k1. k1 + plan.l) st.k1 else option_map (λ k2. k2 + plan.v) k)) h.k2

pub spoken-kept : (sizes : Sizes) (plan : Plan) (me : Side) (st y : NodeState) {had : ℕ} (more : ℕ) → CallsAlike st y → had ≤ more → HasSpoken sizes plan me st had → HasSpoken sizes plan me y more
spoken-kept sizes plan me st y more like le h stage t heard e = let lt = h stage t heard (sym (same-call sizes plan stage like) ∙ e) in omega (arith, lt, le)

-- A message.

-- tick `k` is that of a message of the slot
pub record IsSentThen (sizes : Sizes) (plan : Plan) (me : Side) (i : ℕ) (st : NodeState) (slot word k : ℕ) : Type 0 where
  pub stage : ℕ
  pub x : Sending
  pub sends : sending sizes plan me i st slot stage word ≡ Some x
  pub tick : x.tick ≡ k

if-some : (k : ℕ) (o : Option Sending) {m : _} → if_at k o ≡ Some m → (x : Sending) × ((o ≡ Some x) × (x.tick ≡ k))
if-some k None e = absurd (cc)
if-some k (Some x) {m} e = by (x.tick == k) refl e
  where
    by : (b : Bool) → (x.tick == k) ≡ b → (elim b as (λ _. Option Message) [ true ↦ Some x.message | false ↦ None ]) ≡ Some m → (y : Sending) × ((Some x ≡ Some y) × (y.tick ≡ k))
    by true f e = (x, (refl, eqb-true x.tick k f))
    by false f e = absurd (cc)

either : (a b : Option Message) {m : _} → option_or a b ≡ Some m → (a ≡ Some m) ⊎ (b ≡ Some m)
either None b e = inr e
either (Some x) b e = inl e

pub said-then : (sizes : Sizes) (plan : Plan) (me : Side) (i : ℕ) (st : NodeState) {slot : ℕ} (word k : ℕ) {m : _} → (window_here sizes plan me st k).slot ≡ slot → said_at sizes plan me i st word k ≡ Some m
    → IsSentThen sizes plan me i st slot word k
unfolding said_at
said-then sizes plan me i st {slot} word k {m} is e =
    subst (λ slot. IsSentThen sizes plan me i st slot word k) is (by (either (o 1) (option_or (o 2) (o 3)) e))
  where
    here : ℕ
    here = (window_here sizes plan me st k).slot

    o : ℕ → Option Message
    o stage = if_at k (sending sizes plan me i st here stage word)

    of : (stage : ℕ) → o stage ≡ Some m → IsSentThen sizes plan me i st here word k
    of stage e = let x = if-some k (sending sizes plan me i st here stage word) e in record { stage = stage; x = x.0; sends = x.1.0; tick = x.1.1 }

    by : (o 1 ≡ Some m) ⊎ (option_or (o 2) (o 3) ≡ Some m) → IsSentThen sizes plan me i st here word k
    by (inl e) = of 1 e
    by (inr e) = elim (either (o 2) (o 3) e) [ inl e ↦ of 2 e | inr e ↦ of 3 e ]

-- a core that says something counts the tick
pub record SaysAt (sizes : Sizes) (plan : Plan) (me : Side) (i : ℕ) (c : Core) (word : ℕ) (m : Message) (x : Act) : Type 0 where
  pub said : said_at sizes plan me i (state_at sizes plan me c.state c.had) word c.had ≡ Some m
  pub had : x.core.had ≡ c.had + 1

pub says-some : (sizes : Sizes) (plan : Plan) (me : Side) (i : ℕ) (c : Core) (word : ℕ) {m : _} → (tick sizes plan me i c word).message ≡ Some m
    → SaysAt sizes plan me i c word m (tick sizes plan me i c word)
says-some sizes plan me i c word {m} =
    let st : NodeState = state_at sizes plan me c.state c.had in
    let o : Option Message = said_at sizes plan me i st word c.had in
    let Says : Act → Type 0 = λ x. x.message ≡ Some m → SaysAt sizes plan me i c word m x in
    tick-by Says sizes plan me i c word (λ _ e. none_not_some m e)
    (λ _. act-by Says sizes plan me i c st o (state_kept sizes me i st word o) (λ _ e. record { said = e; had = refl }) (λ _ e. record { said = e; had = refl }))

-- One message.

-- a stage in which a node calls is stage 1 or the later one of its kind
calls-in : (me : Side) (stage : ℕ) → listens (other me) Sync stage ≡ true → (stage ≡ 1) ⊎ (stage ≡ elim me as (λ _. ℕ) [ Biu ↦ 3 | Rmu ↦ 2 ])
calls-in Biu stage e = elim (or_cases (stage == 1) _ e) [ inl f ↦ inl (eqb-true stage 1 f) | inr f ↦ inr (eqb-true stage 3 (and_first (stage == 3) _ f)) ]
calls-in Rmu stage e = inr (eqb-true stage 2 e)

-- the call of the first stage is over
first-over : {sizes plan me st n k t : _} → HasRoom plan → 3 * sync_slot_of sizes < n → n ≤ stages_in sizes → IsTickIn sizes plan me st n k
    → call_tick_of sizes plan st 1 ≡ Some t → t < k
first-over {sizes} {plan} {me} {st} {n} {k} {t} room lt le at e =
    let tick : st.epoch + 3 * sync_slot_of sizes * plan.l + plan.h ≡ t = same_Some _ _ e in
    let last : last_of sizes plan me st (3 * sync_slot_of sizes) ≡ 3 * sync_slot_of sizes * plan.l + plan.l - 1 = last-same sizes plan me st (3 * sync_slot_of sizes) (omega arith) in
    let before : last_of sizes plan me st (3 * sync_slot_of sizes) < first_of sizes plan me st n = ends-before-later sizes me st (3 * sync_slot_of sizes) n room.ticks lt le in
    let from : st.epoch + first_of sizes plan me st n ≤ k = at.from in
    let h : plan.h < plan.l = room.inside.in_l in
    omega (arith, tick, last, before, from, h)

-- after its message a node says nothing more in the slot
pub speaks-once : {sizes plan me i st n k word : _} → HasRoom plan → 3 * sync_slot_of sizes < n → n ≤ stages_in sizes → IsTickIn sizes plan me st n k
    → IsSentThen sizes plan me i st (sync_slot_of sizes) word k → HasSpoken sizes plan me st (k + 1)
speaks-once {sizes} {plan} {me} {i} {st} {k} {word} room lt le at h stage t heard e =
    let its = call_sent sizes plan me i st h.stage word h.sends in
    let tick : h.x.tick ≡ k = h.tick in
    elim (calls-in me stage heard) [
      | inl one ↦
          let before = first-over room lt le at (ap (call_tick_of sizes plan st) (sym one) ∙ e) in
          omega (arith, before)
      | inr here ↦ elim (calls-in me h.stage its.1) [
        | inl one ↦
            let before = first-over room lt le at (ap (call_tick_of sizes plan st) (sym one) ∙ its.0) in
            absurd (omega (arith, before, tick))
        | inr too ↦
            let ticks : t ≡ h.x.tick = same_Some t h.x.tick (sym e ∙ ap (call_tick_of sizes plan st) (here ∙ sym too) ∙ its.0) in
            omega (arith, ticks, tick)
      ]
    ]

pub spoken-quiet : {P : Type 0} {sizes : Sizes} {plan : Plan} {me : Side} {i : ℕ} {st : NodeState} {k word : ℕ} → IsSentThen sizes plan me i st (sync_slot_of sizes) word k → HasSpoken sizes plan me st k → P
spoken-quiet {sizes} {plan} {me} {i} {st} {k} {word} h spoken =
    let its = call_sent sizes plan me i st h.stage word h.sends in
    let lt : h.x.tick < k = spoken h.stage h.x.tick its.1 its.0 in
    let tick : h.x.tick ≡ k = h.tick in
    absurd (omega (arith, lt, tick))

-- an arrival leaves it said
pub spoken-arrives : (sc : Scenario) (me : Side) (i n : ℕ) (c : Coming) (s : Site) → HasSpoken sc.sizes sc.plan me s.core.state s.core.had
    → HasSpoken sc.sizes sc.plan me (after_arrival sc me i n c s).core.state (after_arrival sc me i n c s).core.had
unfolding after_arrival
spoken-arrives sc me i n c s g =
    let passed : Core = pass_to (stamp_of (clock_of sc me i) c.time) s.core in
    let same = arrive-same sc.sizes me passed c.from c.bytes in
    let more : s.core.had ≤ passed.had = omega arith in
    subst (λ y. HasSpoken sc.sizes sc.plan me y (arrive sc.sizes me passed c.from c.bytes).had) (sym same.0)
    (spoken-kept sc.sizes sc.plan me s.core.state s.core.state (arrive sc.sizes me passed c.from c.bytes).had (record { epoch = refl; k1 = refl; k2 = refl }) (omega (arith, same.1, more)) g)
