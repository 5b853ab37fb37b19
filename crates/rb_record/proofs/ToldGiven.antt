-- What a run tells of a node, as far as it is of the log, is what the node is given.
use Rattle.std.proofs.{Common.{◌≡◌, ℕ, zero, suc, ◌+◌, ◌&&◌, nat_lt, Bool, true, false, Option, Some, None, List, [], ◌∷◌, ◌++◌, append_assoc, refl, sym, ap, ◌∙◌, subst, arith}, lemmas.List.append-nil}
use Rattle.std.specs.Prelude.{if◌then◌else◌}
use Rattle.rb_base.specs.{declared.event.Event.Event, declared.node.NodeName.NodeName}
use Rattle.rb_rules.specs.{Entries.IsListed, Goodness.Scenario, Lawful.{IsLawful, kind_of}, Links.same_node, WorldStep.{Site, World, event_at}}
use Rattle.rb_laws_logs.specs.Given.{first_run, given_in, given_next, if_given, is_before_end, site_of}
use Rattle.rb_laws_logs.proofs.Recorded.{ticks-append}
use Rattle.rb_log.specs.{Laws.ticks_in, Writing.ticks_given}
use Rattle.rb_laws_sweeps.specs.Told.{Told, if_told, told_next}
use Rattle.rb_world_traffic.specs.Arriving.{number_of}
use Rattle.rb_world.specs.{declared.ties.Ties.TheVariants.First, Nexts.{Standing, after_steps}, Observing.told_to}
use Rattle.rb_record.specs.{Observing.{all_of_log, of_log}, Recording.MayTell}
use Rattle.rb_record.proofs.{Runs.after-first, Ticks.may-tell}
use Rattle.rb_base.specs.declared.node.NodeName.TheVariants as node

-- One step.

-- what the named node is given by an event
abbrev given_at : Scenario → NodeName → Option Site → Option Event → List Event
given_at sc name s None = []
given_at sc name s (Some e) = if same_node e.node name && is_before_end sc s then e ∷ [] else []

given-at : (sc : Scenario) (name : NodeName) (w : World) (o : Option Event) → if_given sc name w o ≡ given_at sc name (site_of name w) o
given-at sc name w None = refl
given-at sc name w (Some e) = refl

told-at : (sc : Scenario) (name : NodeName) (s : Option Site) (o : Option Event) → all_of_log sc.frames (if_told name s o) ≡ given_at sc name s o
told-at sc name None None = refl
told-at sc name None (Some e) = none (same_node e.node name)
  where
    none : (a : Bool) → [] ≡ (if a && false then e ∷ [] else [])
    none true = refl
    none false = refl
told-at sc name (Some s) None = refl
told-at sc name (Some s) (Some e) = by (same_node e.node name) (nat_lt s.core.state.frame sc.frames) refl
  where
    by : (a b : Bool) → nat_lt s.core.state.frame sc.frames ≡ b
        → all_of_log sc.frames (if a then (record { frame = s.core.state.frame; event = e }) ∷ [] else []) ≡ (if a && b then e ∷ [] else [])
    by true true h = ap (λ b. (if b then e ∷ [] else []) ++ []) h
    by true false h = ap (λ b. (if b then e ∷ [] else []) ++ []) h
    by false b h = refl

pub next-told : (sc : Scenario) (name : NodeName) (w : World) → all_of_log sc.frames (told_next sc (kind_of name) (number_of name) w) ≡ given_next sc name w
unfolding told_next given_next
next-told sc (node.Biu i) w =
    told-at sc (node.Biu i) (site_of (node.Biu i) w) (event_at sc w 0) ∙ sym (given-at sc (node.Biu i) w (event_at sc w 0))
next-told sc (node.Rmu i) w =
    told-at sc (node.Rmu i) (site_of (node.Rmu i) w) (event_at sc w 0) ∙ sym (given-at sc (node.Rmu i) w (event_at sc w 0))

-- Several steps.

pub of-log-append : (frames : ℕ) (xs ys : List Told) → all_of_log frames (xs ++ ys) ≡ all_of_log frames xs ++ all_of_log frames ys
of-log-append frames [] ys = refl
of-log-append frames (x ∷ xs) ys =
    ap (λ es. of_log frames x ++ es) (of-log-append frames xs ys) ∙ sym (append_assoc (of_log frames x) (all_of_log frames xs) (all_of_log frames ys))

-- the state after n steps, whatever the draws
abbrev pub standing : Scenario → ℕ → ℕ → Standing
standing sc n draws = record { world = first_run sc n; draws = draws }

-- what is told in k more steps, as far as it is of the log
abbrev pub told_more : Scenario → NodeName → ℕ → ℕ → ℕ → List Event
told_more sc name n k draws = all_of_log sc.frames (told_to sc name k (standing sc n draws))

one-more : (sc : Scenario) (name : NodeName) (n k draws : ℕ) → told_more sc name n (suc k) draws ≡ told_more sc name n k draws ++ given_next sc name (first_run sc (n + k))
one-more sc name n k draws =
    of-log-append sc.frames (told_to sc name k (standing sc n draws)) (told_next sc (kind_of name) (number_of name) (after_steps sc First k (standing sc n draws)).world)
    ∙ ap (λ es. told_more sc name n k draws ++ es)
    (next-told sc name (after_steps sc First k (standing sc n draws)).world ∙ ap (given_next sc name) (after-first sc n k draws))

pub given-told : (sc : Scenario) (name : NodeName) (n k draws : ℕ) → given_in sc name (n + k) ≡ given_in sc name n ++ told_more sc name n k draws
given-told sc name n zero draws = let same : n + 0 ≡ n = omega arith in ap (given_in sc name) same ∙ sym (append-nil (given_in sc name n))
given-told sc name n (suc k) draws =
    let same : n + suc k ≡ suc (n + k) = omega arith in
    let next : List Event = given_next sc name (first_run sc (n + k)) in
    ap (given_in sc name) same ∙ ap (λ (es : List Event). es ++ next) (given-told sc name n k draws)
    ∙ append_assoc (given_in sc name n) (told_more sc name n k draws) next ∙ ap (λ es. given_in sc name n ++ es) (sym (one-more sc name n k draws))

-- The writer may be told all of it.

pub may-append : (ticks : ℕ) (xs ys : List Event) → MayTell ticks xs → MayTell (ticks + ticks_in xs) ys → MayTell ticks (xs ++ ys)
may-append ticks [] ys a b = let same : ticks + 0 ≡ ticks = omega arith in subst (λ n. MayTell n ys) same b
may-append ticks (x ∷ xs) ys a b =
    let same : ticks + (ticks_given x + ticks_in xs) ≡ (ticks + ticks_given x) + ticks_in xs = omega arith in
    (a.0, may-append (ticks + ticks_given x) xs ys a.1 (subst (λ n. MayTell n ys) same b))

pub may-tell-more : (sc : Scenario) (name : NodeName) (n k draws ticks : ℕ) → IsLawful sc → IsListed sc → ticks ≡ ticks_in (given_in sc name n) → MayTell ticks (told_more sc name n k draws)
may-tell-more sc name n zero draws ticks lawful listed is = tt
may-tell-more sc name n (suc k) draws ticks lawful listed is =
    let more : List Event = told_more sc name n k draws in
    let sum = ticks-append (given_in sc name n) more in
    let all : ticks_in (given_in sc name (n + k)) ≡ ticks_in (given_in sc name n ++ more) = ap ticks_in (given-told sc name n k draws) in
    subst (MayTell ticks) (sym (one-more sc name n k draws))
    (may-append ticks more (given_next sc name (first_run sc (n + k))) (may-tell-more sc name n k draws ticks lawful listed is)
    (may-tell sc name (n + k) (ticks + ticks_in more) lawful listed (omega (arith, is, sum, all))))
