-- Quiet ticks print nothing.
use Rattle.std.proofs.{Common.{◌≡◌, ℕ, zero, suc, ◌+◌, ◌-◌, ◌<◌, ◌≤◌, ◌^◌, ◌==◌, Bool, true, false, refl, ap, sym, ◌∙◌, subst, arith, Option, Some, unwrap_or, List, ◌∷◌, ◌++◌, append_assoc}, Math.ListN.replicate, lemmas.Bool.Decides.nat_tests}
use Rattle.std.specs.List.{flat_map}
use Rattle.rb_base.specs.{Nodes.Side, Sizes.Sizes, declared.node.NodeName.NodeName}
use Rattle.rb_rules.specs.{declared.plan.Plan.Plan, Core.{Act, Core, CoreEvent, acts_of, busy_among, is_busy, tick, ticks}, Core.CoreEvent.Tick, NodeState.NodeState}
use Rattle.rb_rules.proofs.QuietTicks.{IsQuiet, nothing, quiet-from, quiet-tick}
use Rattle.rb_report.specs.Report.{end_text}
use Rattle.rb_laws_logs.specs.Replays.{act_lines, frames_in, frames_with}
use Rattle.rb_replay.specs.Replaying.{text_after}

-- the text of an act comes before that of the acts behind it
pub text-step : (name : NodeName) (frames : ℕ) (x : Act) (xs : List Act)
    → text_after name frames (x ∷ xs) ≡ act_lines name x ++ text_after name (frames + frames_with x.epoch) xs
text-step name frames x xs =
    append_assoc (act_lines name x) (flat_map (act_lines name) xs) (end_text (frames + (frames_with x.epoch + frames_in xs)))
    ∙ ap (λ n. act_lines name x ++ (flat_map (act_lines name) xs ++ end_text n)) (omega arith)

-- an act in which nothing happens prints nothing
text-nothing : (name : NodeName) (frames : ℕ) (c : Core) (xs : List Act) → text_after name frames (nothing c ∷ xs) ≡ text_after name frames xs
text-nothing name frames c xs =
    text-step name frames (nothing c) xs ∙ ap (λ n. text_after name n xs) (omega arith)

-- n quiet ticks write nothing
pub quiet-text : (sizes : Sizes) (plan : Plan) (me : Side) (index : ℕ) (name : NodeName) (frames n : ℕ) (c : Core) (events : List CoreEvent)
    → ((k : ℕ) → c.had ≤ k → k < c.had + n → IsQuiet sizes plan me index c.state k) → c.had + n ≤ 2 ^ 31
    → text_after name frames (acts_of sizes plan me index c (replicate n (Tick 0) ++ events))
    ≡ text_after name frames (acts_of sizes plan me index (ticks sizes plan me index n c) events)
quiet-text sizes plan me index name frames zero c events q h = refl
quiet-text sizes plan me index name frames (suc n) c events q h =
    let one : tick sizes plan me index c 0 ≡ nothing c = quiet-tick sizes plan me index c (q c.had (omega arith) (omega arith)) (omega arith) in
    ap (λ (x : Act). text_after name frames (x ∷ acts_of sizes plan me index x.core (replicate n (Tick 0) ++ events))) one
    ∙ text-nothing name frames c (acts_of sizes plan me index (nothing c).core (replicate n (Tick 0) ++ events))
    ∙ quiet-text sizes plan me index name frames n (nothing c).core events (λ k lo hi. q k (omega arith) (omega arith)) (omega arith)
    ∙ sym (ap (λ (x : Act). text_after name frames (acts_of sizes plan me index (ticks sizes plan me index n x.core) events)) one)

-- the ticks before the first busy one among `others` ticks are quiet; if none is busy, all are
not-busy : (sizes : Sizes) (plan : Plan) (me : Side) (index : ℕ) (st : NodeState) (others had m : ℕ) → had ≤ m
    → m < unwrap_or (busy_among sizes plan me index st others had) (had + others) → is_busy sizes plan me index st m ≡ false
not-busy sizes plan me index st zero had m lo hi = absurd (omega arith)
not-busy sizes plan me index st (suc others) had m lo hi =
    by (is_busy sizes plan me index st had) refl hi (λ more below. not-busy sizes plan me index st others (suc had) m more below)
  where
    Rest : Type 0
    Rest = suc had ≤ m → m < unwrap_or (busy_among sizes plan me index st others (suc had)) (suc had + others) → is_busy sizes plan me index st m ≡ false

    later : (b : Bool) → (m == had) ≡ b → is_busy sizes plan me index st had ≡ false
        → m < unwrap_or (busy_among sizes plan me index st others (suc had)) (had + suc others) → Rest → is_busy sizes plan me index st m ≡ false
    later true same quiet below rest = let e : had ≡ m = grind (arith, nat_tests) in subst (λ k. is_busy sizes plan me index st k ≡ false) e quiet
    later false differs quiet below rest =
        let end : had + suc others ≡ suc had + others = omega arith in
        let more : suc had ≤ m = grind (arith, nat_tests) in
        rest more (subst (λ k. m < unwrap_or (busy_among sizes plan me index st others (suc had)) k) end below)

    by : (b : Bool) → is_busy sizes plan me index st had ≡ b
        → m < unwrap_or (elim b as (λ _. Option ℕ) [ true ↦ Some had | false ↦ busy_among sizes plan me index st others (suc had) ]) (had + suc others)
        → Rest → is_busy sizes plan me index st m ≡ false
    by true busy below rest = absurd (omega arith)
    by false quiet below rest = later (m == had) refl quiet below rest

-- the ticks before the next busy one are quiet, and so are all that a core can have if none is busy
pub quiet-before : (sizes : Sizes) (plan : Plan) (me : Side) (index : ℕ) (st : NodeState) (had m : ℕ) → had ≤ 2 ^ 31 → had ≤ m
    → m < unwrap_or (busy_among sizes plan me index st (2 ^ 31 - had) had) (2 ^ 31) → IsQuiet sizes plan me index st m
quiet-before sizes plan me index st had m room lo hi =
    let end : 2 ^ 31 ≡ had + (2 ^ 31 - had) = omega arith in
    quiet-from sizes plan me index st m
    (not-busy sizes plan me index st (2 ^ 31 - had) had m lo
    (subst (λ k. m < unwrap_or (busy_among sizes plan me index st (2 ^ 31 - had) had) k) end hi))
