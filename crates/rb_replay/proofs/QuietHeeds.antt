-- The text of what is told at ticks, one after another, and how many frames begin.
use Rattle.std.proofs.{Common.{◌≡◌, ℕ, zero, suc, ◌+◌, ◌-◌, ◌<◌, ◌≤◌, ◌^◌, ◌==◌, nat_lt, Bool, true, false, refl, ap, ◌∙◌, subst, arith, lit≤, Option, Some, None, List, ◌∷◌, ◌++◌, append_assoc}, Math.ListN.replicate, lemmas.Bool.Decides.nat_tests}
use Rattle.std.specs.List.{flat_map}
use Rattle.rb_base.specs.{Nodes.Side.Biu, Sizes.Sizes, declared.node.NodeName.NodeName}
use Rattle.rb_rules.specs.{declared.plan.Plan.Plan, declared.record.Epoch.Epoch, Core.{Act, Core, CoreEvent, act_on, is_spent, state_at}, Core.CoreEvent.Tick, NodeState.NodeState}
use Rattle.rb_report.specs.Report.{end_text}
use Rattle.rb_listen.specs.{Following.follow, Lessons.first_of, Listening.{Heeding, Listening, TellNothing, decided, first_core, followed, had_by, heed, heeds, if_after, is_deciding, is_over, later, no_heed, search_on, told_of, untold, wait_on}, declared.heed.Heed.Heed, declared.lesson.First.First, declared.search.Search.Search}
use Rattle.rb_replay.specs.{ListeningOn.text_after, Overhearing.{begun_in, begun_with, heed_lines}}
use Rattle.rb_replay.proofs.ActsDue.{act-had}
use Rattle.rb_listen.specs.Listening as now

-- The text.

-- the text of a tick comes before that of the ticks behind it
pub text-step : (name : NodeName) (begun : ℕ) (h : Heed) (hs : List Heed)
    → text_after name begun (h ∷ hs) ≡ heed_lines name h ++ text_after name (begun + begun_with h.epoch) hs
text-step name begun h hs =
    let sum : begun + (begun_with h.epoch + begun_in hs) ≡ begun + begun_with h.epoch + begun_in hs = omega arith in
    append_assoc (heed_lines name h) (flat_map (heed_lines name) hs) (end_text (begun + (begun_with h.epoch + begun_in hs) - 1))
    ∙ ap (λ n. heed_lines name h ++ (flat_map (heed_lines name) hs ++ end_text (n - 1))) sum

-- if nothing is told, nothing is printed
text-nothing : (name : NodeName) (begun : ℕ) (hs : List Heed) → text_after name begun (no_heed ∷ hs) ≡ text_after name begun hs
text-nothing name begun hs =
    let none : begun + 0 ≡ begun = omega arith in
    text-step name begun no_heed hs ∙ ap (λ n. text_after name n hs) none

-- n quiet ticks write nothing
pub quiet-text : (sizes : Sizes) (plan : Plan) (name : NodeName) (begun n : ℕ) (l : Listening) (events : List CoreEvent) → TellNothing sizes plan n l
    → text_after name begun (told_of sizes plan l (replicate n (Tick 0) ++ events)) ≡ text_after name begun (told_of sizes plan (heeds sizes plan n l) events)
quiet-text sizes plan name begun zero l events q = refl
quiet-text sizes plan name begun (suc n) l events q =
    ap (λ h. text_after name begun (h ∷ told_of sizes plan (heed sizes plan l).listening (replicate n (Tick 0) ++ events))) q.0
    ∙ text-nothing name begun (told_of sizes plan (heed sizes plan l).listening (replicate n (Tick 0) ++ events))
    ∙ quiet-text sizes plan name begun n (heed sizes plan l).listening events q.1

-- How many frames begin.

-- no more frames begin than ticks come, and no more ticks count than a listener can have
pub record Counts (had : ℕ) (x : Heeding) : Type 0 where
  pub begun : begun_with x.heed.epoch + had ≤ had_by x.listening
  pub most : had_by x.listening ≤ 2 ^ 31

one-begins : (e : Option Epoch) → begun_with e ≤ 1
one-begins None = lit≤ tt
one-begins (Some e) = lit≤ tt

after-had : (s : Search) (first : First) (b : Bool) → had_by (if_after s first b) ≡ s.had + 1
after-had s first true = refl
after-had s first false = refl

decided-had : (s : Search) (first : Option First) → had_by (decided s first) ≡ s.had + 1
decided-had s None = refl
decided-had s (Some first) = after-had s first (nat_lt s.had first.epoch)

on-had : (sizes : Sizes) (plan : Plan) (s : Search) → had_by (search_on sizes plan s) ≡ s.had + 1
unfolding search_on
on-had sizes plan s = by (is_deciding s)
  where
    by : (b : Bool) → had_by (elim b as (λ _. Listening) [ true ↦ decided s (first_of sizes plan s.lesson) | false ↦ now.Searching (later s) ]) ≡ s.had + 1
    by true = decided-had s (first_of sizes plan s.lesson)
    by false = refl

untold-counts : (had : ℕ) (l : Listening) → had ≤ had_by l → had_by l ≤ 2 ^ 31 → Counts had (untold l)
untold-counts had l le most = record { begun = omega arith; most = most }

act-counts : (c : Core) (x : Act) → c.had < 2 ^ 31 → x.core.had ≡ c.had + 1 → Counts c.had (followed x)
act-counts c x below had = let one : begun_with x.epoch ≤ 1 = one-begins x.epoch in record { begun = omega arith; most = omega arith }

follow-counts : (sizes : Sizes) (plan : Plan) (c : Core) → c.had ≤ 2 ^ 31 → Counts c.had (followed (follow sizes plan c))
unfolding follow
follow-counts sizes plan c most = by (is_spent c) refl
  where
    st : NodeState
    st = state_at sizes plan Biu c.state c.had

    spent : Act
    spent = record { core = c; epoch = None; message = None; closed = None }

    by : (b : Bool) → is_spent c ≡ b → Counts c.had (followed (elim b as (λ _. Act) [ true ↦ spent | false ↦ act_on sizes plan Biu 16 c st None st ]))
    by true e = record { begun = omega arith; most = most }
    by false e =
        let below : c.had < 2 ^ 31 = grind (arith, nat_tests) in
        act-counts c (act_on sizes plan Biu 16 c st None st) below (act-had sizes plan Biu 16 c st st None)

wait-counts : (sizes : Sizes) (plan : Plan) (had : ℕ) (first : First) (b : Bool) → had < 2 ^ 31 → (first.epoch == had) ≡ b → Counts had (wait_on sizes plan had first b)
wait-counts sizes plan had first true below e =
    let is : first.epoch ≡ had = grind (arith, nat_tests) in
    subst (λ k. Counts k (followed (follow sizes plan (first_core sizes first)))) is (follow-counts sizes plan (first_core sizes first) (omega arith))
wait-counts sizes plan had first false below e = untold-counts had (now.Waiting (had + 1) first) (omega arith) (omega arith)

pub heed-counts : (sizes : Sizes) (plan : Plan) (l : Listening) → had_by l ≤ 2 ^ 31 → Counts (had_by l) (heed sizes plan l)
unfolding heed
heed-counts sizes plan (now.Searching s) most = by (is_over s.had) refl
  where
    by : (b : Bool) → is_over s.had ≡ b
        → Counts s.had (elim b as (λ _. Heeding) [ true ↦ untold (now.Searching s) | false ↦ untold (search_on sizes plan s) ])
    by true e = untold-counts s.had (now.Searching s) (omega arith) most
    by false e =
        let below : s.had < 2 ^ 31 = grind (arith, nat_tests) in
        let had : had_by (search_on sizes plan s) ≡ s.had + 1 = on-had sizes plan s in
        untold-counts s.had (search_on sizes plan s) (omega arith) (omega arith)
heed-counts sizes plan (now.Waiting had first) most = by (is_over had) refl
  where
    by : (b : Bool) → is_over had ≡ b
        → Counts had (elim b as (λ _. Heeding) [ true ↦ untold (now.Waiting had first) | false ↦ wait_on sizes plan had first (first.epoch == had) ])
    by true e = untold-counts had (now.Waiting had first) (omega arith) most
    by false e =
        let below : had < 2 ^ 31 = grind (arith, nat_tests) in
        wait-counts sizes plan had first (first.epoch == had) below refl
heed-counts sizes plan (now.Following c) most = follow-counts sizes plan c most
