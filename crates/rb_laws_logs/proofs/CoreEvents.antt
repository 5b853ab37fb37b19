-- For the law of record and replay: events that come to a core one after another, and the quiet
-- ticks among them.
use Rattle.std.proofs.{Common.{◌≡◌, ℕ, zero, suc, ◌+◌, ◌-◌, ◌^◌, ◌<◌, ◌≤◌, max, List, [], ◌∷◌, ◌++◌, refl, ap, sym, ◌∙◌, subst, arith}, Math.ListN.replicate, lemmas.Grind.flat_map-append, lemmas.List.append-nil}
use Rattle.std.specs.Prelude.{flat_map}
use Rattle.rb_base.specs.{Nodes.Side, Sizes.Sizes, declared.node.NodeName.NodeName}
use Rattle.rb_rules.specs.{declared.plan.Plan.Plan, Core.{Act, Core, CoreEvent, acts_of, arrive, pass_to, tick}}
use Rattle.rb_rules.proofs.QuietTicks.{IsNext, nothing, quiet-from, quiet-tick}
use Rattle.rb_laws_logs.specs.Replays.{act_lines, frames_in, frames_with}
use Rattle.rb_rules.specs.Core as core

-- the core after these events
abbrev pub core_after : Sizes → Plan → Side → ℕ → Core → List CoreEvent → Core
core_after sizes plan me i c [] = c
core_after sizes plan me i c (core.Tick word ∷ events) = core_after sizes plan me i (tick sizes plan me i c word).core events
core_after sizes plan me i c (core.Arrive from bytes ∷ events) = core_after sizes plan me i (arrive sizes me c from bytes) events

pub acts-append : (sizes : Sizes) (plan : Plan) (me : Side) (i : ℕ) (c : Core) (xs ys : List CoreEvent)
    → acts_of sizes plan me i c (xs ++ ys) ≡ acts_of sizes plan me i c xs ++ acts_of sizes plan me i (core_after sizes plan me i c xs) ys
acts-append sizes plan me i c [] ys = refl
acts-append sizes plan me i c (core.Tick word ∷ xs) ys = ap (λ l. tick sizes plan me i c word ∷ l) (acts-append sizes plan me i (tick sizes plan me i c word).core xs ys)
acts-append sizes plan me i c (core.Arrive from bytes ∷ xs) ys = acts-append sizes plan me i (arrive sizes me c from bytes) xs ys

pub core-append : (sizes : Sizes) (plan : Plan) (me : Side) (i : ℕ) (c : Core) (xs ys : List CoreEvent)
    → core_after sizes plan me i c (xs ++ ys) ≡ core_after sizes plan me i (core_after sizes plan me i c xs) ys
core-append sizes plan me i c [] ys = refl
core-append sizes plan me i c (core.Tick word ∷ xs) ys = core-append sizes plan me i (tick sizes plan me i c word).core xs ys
core-append sizes plan me i c (core.Arrive from bytes ∷ xs) ys = core-append sizes plan me i (arrive sizes me c from bytes) xs ys

pub frames-append : (xs ys : List Act) → frames_in (xs ++ ys) ≡ frames_in xs + frames_in ys
frames-append [] ys = omega arith
frames-append (x ∷ xs) ys = let rest : frames_in (xs ++ ys) ≡ frames_in xs + frames_in ys = frames-append xs ys in omega (arith, rest)

-- what events make of a core, and the lines and the frames of their acts
pub record Makes (sizes : Sizes) (plan : Plan) (name : NodeName) (me : Side) (i : ℕ) (c : Core) (events : List CoreEvent) (after : Core) (lines : List ℕ) (frames : ℕ) : Type 0 where
  pub core : core_after sizes plan me i c events ≡ after
  pub lines_are : flat_map (act_lines name) (acts_of sizes plan me i c events) ≡ lines
  pub frames_are : frames_in (acts_of sizes plan me i c events) ≡ frames

-- events after others make the lines and the frames of both
pub makes-both : {sizes plan name me i c between after xs ys lines more frames others : _}
    → Makes sizes plan name me i c xs between lines frames → Makes sizes plan name me i between ys after more others
    → Makes sizes plan name me i c (xs ++ ys) after (lines ++ more) (frames + others)
makes-both {sizes} {plan} {name} {me} {i} {c} {xs} {ys} {lines} {frames} a b = record {
  core = core-append sizes plan me i c xs ys ∙ ap (λ c. core_after sizes plan me i c ys) a.core ∙ b.core;
  lines_are = ap (flat_map (act_lines name)) (acts-append sizes plan me i c xs ys)
      ∙ flat_map-append (act_lines name) (acts_of sizes plan me i c xs) (acts_of sizes plan me i (core_after sizes plan me i c xs) ys)
      ∙ ap (λ l. l ++ flat_map (act_lines name) (acts_of sizes plan me i (core_after sizes plan me i c xs) ys)) a.lines_are
      ∙ ap (λ c. lines ++ flat_map (act_lines name) (acts_of sizes plan me i c ys)) a.core ∙ ap (λ l. lines ++ l) b.lines_are;
  frames_are = ap frames_in (acts-append sizes plan me i c xs ys)
      ∙ frames-append (acts_of sizes plan me i c xs) (acts_of sizes plan me i (core_after sizes plan me i c xs) ys)
      ∙ ap (λ n. n + frames_in (acts_of sizes plan me i (core_after sizes plan me i c xs) ys)) a.frames_are
      ∙ ap (λ c. frames + frames_in (acts_of sizes plan me i c ys)) a.core ∙ ap (λ n. frames + n) b.frames_are;
}

-- quiet ticks are only counted, and leave no line
pub makes-quiet : {sizes plan : _} (name : NodeName) {me i : _} (n : ℕ) {k : ℕ} (c : Core) → IsNext sizes plan me i c.state c.had k → c.had + n ≤ k
    → Makes sizes plan name me i c (replicate n (core.Tick 0)) (record c { had = c.had + n }) [] 0
makes-quiet name zero c next le = let e : c.had + 0 ≡ c.had = omega arith in record { core = ap (λ m. record c { had = m }) (sym e); lines_are = refl; frames_are = refl }
makes-quiet {sizes} {plan} name {me} {i} (suc n) {k} c next le =
    let below : k < 2 ^ 31 = next.below in
    let one : tick sizes plan me i c 0 ≡ nothing c =
    quiet-tick sizes plan me i c (quiet-from sizes plan me i c.state c.had (next.quiet_before c.had (omega arith) (omega (arith, le)))) (omega (arith, below, le)) in
    let e : c.had + 1 + n ≡ c.had + suc n = omega arith in
    let then_next : IsNext sizes plan me i c.state (c.had + 1) k = record {
      later = omega (arith, le);
      below = next.below;
      quiet_before = λ m lo hi. next.quiet_before m (omega (arith, lo)) hi;
      busy = next.busy;
    } in
    let rest : Makes sizes plan name me i (nothing c).core (replicate n (core.Tick 0)) (record c { had = c.had + 1 + n }) [] 0 =
    makes-quiet name n (nothing c).core then_next (omega (arith, le)) in
    record {
      core = ap (λ (x : Act). core_after sizes plan me i x.core (replicate n (core.Tick 0))) one ∙ rest.core ∙ ap (λ m. record c { had = m }) e;
      lines_are = ap (λ (x : Act). act_lines name x ++ flat_map (act_lines name) (acts_of sizes plan me i x.core (replicate n (core.Tick 0)))) one ∙ rest.lines_are;
      frames_are = ap (λ (x : Act). frames_with x.epoch + frames_in (acts_of sizes plan me i x.core (replicate n (core.Tick 0)))) one ∙ zero-more _ ∙ rest.frames_are;
    }
  where
    zero-more : (n : ℕ) → 0 + n ≡ n
    zero-more n = omega arith

-- the quiet ticks before an event make no lines and no frames
pub makes-passed : {sizes plan : _} (name : NodeName) {me i : _} (k : ℕ) {next : ℕ} (c : Core) → IsNext sizes plan me i c.state c.had next → (pass_to k c).had ≤ next
    → Makes sizes plan name me i c (replicate (k - c.had) (core.Tick 0)) (pass_to k c) [] 0
makes-passed {sizes} {plan} name {me} {i} k c is le =
    let e : c.had + (k - c.had) ≡ max c.had k = omega arith in
    let makes : Makes sizes plan name me i c (replicate (k - c.had) (core.Tick 0)) (record c { had = c.had + (k - c.had) }) [] 0 =
    makes-quiet name (k - c.had) c is (omega (arith, le, e)) in
    subst (λ m. Makes sizes plan name me i c (replicate (k - c.had) (core.Tick 0)) (record c { had = m }) [] 0) e makes

-- a tick with its word makes the lines and the frames of its act
pub makes-tick : (sizes : Sizes) (plan : Plan) (name : NodeName) (me : Side) (i word : ℕ) (c : Core) {x : _} → tick sizes plan me i c word ≡ x
    → Makes sizes plan name me i c (core.Tick word ∷ []) x.core (act_lines name x) (frames_with x.epoch)
makes-tick sizes plan name me i word c is =
    subst (λ y. Makes sizes plan name me i c (core.Tick word ∷ []) y.core (act_lines name y) (frames_with y.epoch)) is
    (record { core = refl; lines_are = append-nil (act_lines name (tick sizes plan me i c word)); frames_are = omega arith })

pub makes-arrival : (sizes : Sizes) (plan : Plan) (name : NodeName) (me : Side) (i from : ℕ) (bytes : List ℕ) (c : Core)
    → Makes sizes plan name me i c (core.Arrive from bytes ∷ []) (arrive sizes me c from bytes) [] 0
makes-arrival sizes plan name me i from bytes c = record { core = refl; lines_are = refl; frames_are = refl }
