-- Steps up to the next record.
use Rattle.std.proofs.{Common.{◌≡◌, ℕ, zero, suc, ◌+◌, ◌^◌, ◌<◌, inl, inr, true, None, is_some, length, refl, sym, ap, ◌∙◌, subst, arith}, lemmas.Bool.cases_lt}
use Rattle.rb_rules.specs.{Goodness.Scenario, WorldStep.{World, due_of, go_on, take}}
use Rattle.rb_world_book.specs.{Records.record_of, declared.turn.Turn.Turn}
use Rattle.rb_world.specs.{declared.ties.Seeding.Seeding, declared.ties.Ties.Ties, Nexts.{GoesToNext, IsNext, RunsOn, Standing, TakesStep, TakesSteps, after_steps, begun_with, drawn, place_among, step, step_among}, Turning.Gives, Worlds.{KeptWorld, Stands}}
use Rattle.rb_world.proofs.Steps.{few-steps}
use Rattle.rb_world_book.specs.declared.turn.Turn.TheVariants as shown

-- One step.

among-idle : (sc : Scenario) (ties : Ties) (len : ℕ) (s : Standing) → len ≡ 0 → step_among sc ties len s ≡ record s { world = go_on sc s.world }
among-idle sc ties zero s e = refl
among-idle sc ties (suc k) s e = absurd (omega (arith, e))

among-busy : (sc : Scenario) (ties : Ties) (len : ℕ) (s : Standing) (state i : ℕ) → (len ≡ 0 → ⊥) → state ≡ drawn ties s.draws → i ≡ place_among ties state len
    → step_among sc ties len s ≡ record { world = take sc s.world i; draws = state }
among-busy sc ties zero s state i some drawn_is is = absurd (some refl)
among-busy sc ties (suc k) s state i some drawn_is is =
    ap (λ d. record { world = take sc s.world (place_among ties d (suc k)); draws = d }) (sym drawn_is)
    ∙ ap (λ j. record { world = take sc s.world j; draws = state }) (sym is)

pub idle-step : (ties : Ties) (state due : ℕ) (k after : KeptWorld) (turn : Turn) (w : World) → due ≡ length (due_of k.bus w) → due ≡ 0 → Gives after turn (go_on k.bus w)
    → TakesStep ties state state k after turn w
unfolding step
idle-step ties state due k after turn w is none gives =
    let s : Standing = record { world = w; draws = state } in
    let same = among-idle k.bus ties (length (due_of k.bus w)) s (sym is ∙ none) in
    record { gives = subst (λ (z : Standing). Gives after turn z.world) (sym same) gives; draws = sym (ap (λ (z : Standing). z.draws) same) }

pub busy-step : (ties : Ties) (state next due i : ℕ) (k after : KeptWorld) (turn : Turn) (w : World) → due ≡ length (due_of k.bus w) → (due ≡ 0 → ⊥) → next ≡ drawn ties state
    → i ≡ place_among ties next due → Gives after turn (take k.bus w i) → TakesStep ties state next k after turn w
unfolding step
busy-step ties state next due i k after turn w is some drawn_is at gives =
    let s : Standing = record { world = w; draws = state } in
    let same = among-busy k.bus ties (length (due_of k.bus w)) s next i (λ e. some (is ∙ e)) drawn_is (at ∙ ap (place_among ties next) is) in
    record { gives = subst (λ (z : Standing). Gives after turn z.world) (sym same) gives; draws = sym (ap (λ (z : Standing). z.draws) same) }

-- All steps.

pub no-steps : (ties : Ties) (state : ℕ) (k : KeptWorld) (w : World) → Stands k w → TakesSteps 0 ties state state k k w
unfolding after_steps
no-steps ties state k w is = record { stands = is; draws = refl; quiet = λ m some le. absurd (omega (arith, some, le)) }

step-on : (n : ℕ) (ties : Ties) (s0 s1 : ℕ) (before mid : KeptWorld) (w : World) → TakesSteps n ties s0 s1 before mid w → mid.bus ≡ before.bus
    → step mid.bus ties (record { world = (after_steps before.bus ties n (record { world = w; draws = s0 })).world; draws = s1 })
    ≡ after_steps before.bus ties (suc n) (record { world = w; draws = s0 })
unfolding after_steps
step-on n ties s0 s1 before mid w is bus =
    let x : Standing = after_steps before.bus ties n (record { world = w; draws = s0 }) in
    ap (λ b. step b ties (record { world = x.world; draws = s1 })) bus ∙ ap (λ d. step before.bus ties (record { world = x.world; draws = d })) is.draws

pub more-steps : (n : ℕ) (ties : Ties) (s0 s1 s2 : ℕ) (before mid after : KeptWorld) (turn : Turn) (w : World) → TakesSteps n ties s0 s1 before mid w → mid.bus ≡ before.bus
    → TakesStep ties s1 s2 mid after turn (after_steps before.bus ties n (record { world = w; draws = s0 })).world → turn ≡ shown.Quiet
    → TakesSteps (n + 1) ties s0 s2 before after w
more-steps n ties s0 s1 s2 before mid after turn w is bus taken quiet =
    let s : Standing = record { world = w; draws = s0 } in
    let same = step-on n ties s0 s1 before mid w is bus in
    let gives : Gives after turn (after_steps before.bus ties (suc n) s).world = subst (λ (z : Standing). Gives after turn z.world) same taken.gives in
    let one : suc n ≡ n + 1 = omega arith in
    subst (λ k. TakesSteps k ties s0 s2 before after w) one (record {
      stands = gives.stands;
      draws = taken.draws ∙ ap (λ (z : Standing). z.draws) same;
      quiet = λ m some le. elim (cases_lt m (suc n)) [
        | inl lt ↦ is.quiet m some (omega (arith, lt))
        | inr ge ↦ let last : suc n ≡ m = omega (arith, ge, le) in
            subst (λ k. (after_steps before.bus ties k s).world.turn ≡ None) last (gives.turn_is ∙ ap record_of quiet)
      ];
    })

pub last-step : (n : ℕ) (ties : Ties) (s0 s1 s2 : ℕ) (before mid after : KeptWorld) (turn : Turn) (w : World) → TakesSteps n ties s0 s1 before mid w → mid.bus ≡ before.bus
    → TakesStep ties s1 s2 mid after turn (after_steps before.bus ties n (record { world = w; draws = s0 })).world → is_some (record_of turn) ≡ true
    → RunsOn ties s0 s2 before after turn w
last-step n ties s0 s1 s2 before mid after turn w is bus taken some =
    let s : Standing = record { world = w; draws = s0 } in
    let y : Standing = after_steps before.bus ties (suc n) s in
    let same = step-on n ties s0 s1 before mid w is bus in
    let gives : Gives after turn y.world = subst (λ (z : Standing). Gives after turn z.world) same taken.gives in
    record {
      next = y.world;
      is = record {
        others = n;
        is = ap (λ d. record { world = y.world; draws = d }) (taken.draws ∙ ap (λ (z : Standing). z.draws) same);
        quiet = is.quiet;
        gives = ap is_some gives.turn_is ∙ some;
      };
      gives = gives;
    }

pub some-record : (t : Turn) → (t ≡ shown.Quiet → ⊥) → is_some (record_of t) ≡ true
some-record shown.Quiet no_record = absurd (no_record refl)
some-record (shown.Frame f) no_record = refl
some-record (shown.Slot s) no_record = refl
some-record shown.Ended no_record = refl
some-record (shown.Breach place cause) no_record = refl

-- n steps that give no record are fewer than 2^63
pub not-so-many : (n : ℕ) (ties : Ties) (s0 s1 : ℕ) (before mid : KeptWorld) (w : World) → Stands before w → TakesSteps n ties s0 s1 before mid w → n < 2 ^ 63
not-so-many n ties s0 s1 before mid w stands is = few-steps before.bus ties n (record { world = w; draws = s0 }) stands.lawful stands.listed stands.reached is.quiet

-- The draws.

pub with-seeding : (k : KeptWorld) (w : World) (s : Seeding) → Stands k w → Stands (record k { seeding = s }) w
with-seeding k w s is = record { lawful = is.lawful; listed = is.listed; reached = is.reached; nodes = is.nodes; scene = is.scene; last = is.last }

unfoldable pub goes-on : (ties : Ties) (b after : Seeding) (before mid : KeptWorld) (turn : Turn) (w : World) → b ≡ begun_with ties before.seeding → after.seed ≡ b.seed
    → RunsOn ties b.draws.state after.draws.state before mid turn w
    → GoesToNext ties before (record mid { seeding = after }) turn w
goes-on ties b after before mid turn w is seed runs = record {
  next = runs.next;
  is = subst (λ (x : Seeding). IsNext before.bus ties (record { world = w; draws = x.draws.state }) (record { world = runs.next; draws = after.draws.state })) is runs.is;
  gives = record { stands = with-seeding mid runs.next after runs.gives.stands; turn_is = runs.gives.turn_is };
  seed = seed ∙ ap (λ (x : Seeding). x.seed) is;
}
