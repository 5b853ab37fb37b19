-- For the law that events are rounds if the premise on faults is broken in a sync slot: what a node
-- does after it has closed the stage with which the run breaks off. Whatever middles it keeps, it
-- tells nothing up to the last tick of the next window.
use Rattle.std.proofs.{Common.{◌≡◌, ℕ, ◌+◌, ◌<◌, ◌≤◌, ◌==◌, ◌&&◌, if◌then◌else◌, Bool, true, false, List, [], ◌∷◌, ◌++◌, not, nat_lt, refl, ap, sym, ◌∙◌, subst, arith, inl, inr, Option, Some, None, is_some}, lemmas.Bool.cases_lt}
use Rattle.rb_base.specs.{Nodes.{Side, other}, Sizes.Sizes}
use Rattle.rb_base.proofs.Plain.{less-differs, true-false, more-differs}
use Rattle.rb_rules.specs.{declared.message.Message.Message, declared.plan.Plan.Plan, Core.{Act, Core, arrive, is_last, is_spent, is_tick, said_at, state_at, state_kept, tick}, ExactStage.{says}, NodeState.NodeState, NodeSteps.turn_if_known, Plan.tail_start_of, Slots.count_of, SyncStage.new_epoch_of}
use Rattle.rb_rules.proofs.RoundStates.{HasTicks}
use Rattle.rb_laws_events.specs.Closing.{stages_in}
use Rattle.rb_laws_events.proofs.{ActCases.{act-by, act_of, tick-by}, NodeTicks.{Like, like-kept, like-itself, past-tail, tail-first}, StageOrder.last_of, TickWindows.{IsTickIn, ends-before-later, first_of, last-is}}

-- a node of a frame that began at tick e stands in window n or beyond, and its next frame begins
-- after all stages of this one
pub record IsPast (sizes : Sizes) (plan : Plan) (me : Side) (frame e n : ℕ) (c : NodeState) (had : ℕ) : Type 0 where
  pub in_frame : c.frame ≡ frame
  pub epoch : c.epoch ≡ e
  pub from : c.epoch + first_of sizes plan me c n ≤ had
  pub next : (x : ℕ) → new_epoch_of plan me c ≡ Some x → c.epoch + tail_start_of sizes plan ≤ x

-- a node turns at no tick of its window
pub turns-later : {sizes plan me c n k : _} → HasTicks plan → ((x : ℕ) → new_epoch_of plan me c ≡ Some x → c.epoch + tail_start_of sizes plan ≤ x)
    → n ≤ stages_in sizes → IsTickIn sizes plan me c n k → state_at sizes plan me c k ≡ c
unfolding state_at
turns-later {sizes} {plan} {me} {c} {n} {k} ticks next le at =
    ap (λ b. elim b as (λ _. NodeState) [ true ↦ turn_if_known sizes plan me c | false ↦ c ]) (no-tick (new_epoch_of plan me c) later)
  where
    no-tick : (o : Option ℕ) → ((x : ℕ) → o ≡ Some x → k < x) → is_tick o k ≡ false
    no-tick None h = refl
    no-tick (Some x) h = more-differs x k (h x refl)

    later : (x : ℕ) → new_epoch_of plan me c ≡ Some x → k < x
    later x e =
        let low : c.epoch + tail_start_of sizes plan ≤ x = next x e in
        let to : k ≤ c.epoch + last_of sizes plan me c n = at.to in
        elim (cases_lt n (stages_in sizes)) [
          | inl lt ↦
              let before : last_of sizes plan me c n < first_of sizes plan me c (stages_in sizes) = ends-before-later sizes me c n (stages_in sizes) ticks lt (omega arith) in
              let first : first_of sizes plan me c (stages_in sizes) ≡ tail_start_of sizes plan = tail-first sizes plan me c in
              omega (arith, low, to, before, first)
          | inr ge ↦
              let same : n ≡ stages_in sizes = omega (arith, le, ge) in
              past-tail ticks low (subst (λ n. IsTickIn sizes plan me c n k) same at) e
        ]

-- what a core says changes neither its frame nor its windows
kept-like : (sizes : Sizes) (plan : Plan) (me : Side) (i : ℕ) (c : NodeState) (word : ℕ) (m : Option Message) → Like sizes plan me i c (state_kept sizes me i c word m) × ((state_kept sizes me i c word m).frame ≡ c.frame)
kept-like sizes plan me i c word None = (like-itself sizes plan me i c, refl)
kept-like sizes plan me i c word (Some m) =
    (like-kept sizes plan me i c m.slot m.stage word, by ((m.stage == 1) && is_some (says sizes me i c m.slot m.stage word)))
  where
    by : (b : Bool) → (if b then record c { sent = says sizes me i c m.slot m.stage word } else c).frame ≡ c.frame
    by true = refl
    by false = refl

pub past-kept : {sizes plan me i frame e n c y had : _} (more : ℕ) → Like sizes plan me i c y → y.frame ≡ c.frame → had ≤ more
    → IsPast sizes plan me frame e n c had → IsPast sizes plan me frame e n y more
past-kept {sizes} {plan} {me} {n} {c} {y} more like same le h =
    let first : first_of sizes plan me y n ≡ first_of sizes plan me c n = ap (λ w. w.first) (like.windows n) in
    let epoch : y.epoch ≡ c.epoch = like.epoch in
    record {
      in_frame = same ∙ h.in_frame;
      epoch = epoch ∙ h.epoch;
      from = omega (arith, first, epoch, h.from, le);
      next = λ x known. omega (arith, epoch, h.next x (sym like.next ∙ known));
    }

-- the act ends no window, and leaves the core like `was` and past window `n`
pub record TellsNone (sizes : Sizes) (plan : Plan) (me : Side) (i frame e n : ℕ) (was : NodeState) (x : Act) : Type 0 where
  pub closed : x.closed ≡ None
  pub like : Like sizes plan me i was x.core.state
  pub past : IsPast sizes plan me frame e n x.core.state x.core.had

-- a tick of a window before its last closes no window
pub past-tick : {sizes plan me : _} (i : ℕ) {frame e n : ℕ} (c : Core) (word : ℕ) → HasTicks plan → n ≤ stages_in sizes → IsPast sizes plan me frame e n c.state c.had
    → c.had < c.state.epoch + last_of sizes plan me c.state n → TellsNone sizes plan me i frame e n c.state (tick sizes plan me i c word)
past-tick {sizes} {plan} {me} i {frame} {e} {n} c word ticks le h before =
    tick-by Tells sizes plan me i c word (λ _. record { closed = refl; like = like-itself sizes plan me i c.state; past = h })
    (λ _. subst (λ z. Tells (act_of sizes plan me i c word z)) (sym now) (act-by Tells sizes plan me i c c.state m kept (λ last. true-false (sym last ∙ not-last)) (λ _. record {
      closed = refl;
      like = like.0;
      past = past-kept (c.had + 1) like.0 like.1 (omega arith) h;
    })))
  where
    Tells : Act → Type 0
    Tells x = TellsNone sizes plan me i frame e n c.state x

    at : IsTickIn sizes plan me c.state n c.had
    at = record { from = h.from; to = omega (arith, before) }

    now : state_at sizes plan me c.state c.had ≡ c.state
    now = turns-later ticks h.next le at

    not-last : is_last sizes plan me c.state c.had ≡ false
    not-last = last-is me c.state ticks le at ∙ less-differs c.had (c.state.epoch + last_of sizes plan me c.state n) before

    m : Option Message
    m = said_at sizes plan me i c.state word c.had

    kept : NodeState
    kept = state_kept sizes me i c.state word m

    like : Like sizes plan me i c.state kept × (kept.frame ≡ c.state.frame)
    like = kept-like sizes plan me i c.state word m

pub past-arrival : {sizes plan me frame e n : _} (c : Core) (j : ℕ) (bytes : List ℕ) → IsPast sizes plan me frame e n c.state c.had
    → IsPast sizes plan me frame e n (arrive sizes me c j bytes).state (arrive sizes me c j bytes).had
unfolding arrive
past-arrival {sizes} {plan} {me} {frame} {e} {n} c j bytes h = by (nat_lt j (count_of (other me) sizes) && not (is_spent c))
  where
    comes : Bool → Core
    comes b = elim b as (λ _. Core) [
      | true ↦ record c { inbox = c.inbox ++ (j, record { stamp = c.had; bytes = bytes }) ∷ [] }
      | false ↦ c
    ]

    by : (b : Bool) → IsPast sizes plan me frame e n (comes b).state (comes b).had
    by true = h
    by false = h
