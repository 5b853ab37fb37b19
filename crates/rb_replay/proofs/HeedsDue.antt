-- What is due of a log that is listened to, event by event.
use Rattle.std.proofs.{Common.{◌≡◌, ℕ, ◌+◌, ◌-◌, ◌≤◌, ◌^◌, refl, ap, sym, ◌∙◌, subst, arith, Option, Result, List, [], ◌∷◌, ◌++◌}, Math.ListN.replicate}
use Rattle.std.specs.{Io.KnownBytes.Appends, List.flat_map}
use Rattle.rb_base.specs.{Sizes.Sizes, declared.node.NodeName.NodeName}
use Rattle.rb_rules.specs.{declared.plan.Plan.Plan, Core.CoreEvent, Core.CoreEvent.{Tick, Arrive}}
use Rattle.rb_node.specs.Cores.{Running}
use Rattle.rb_plan.specs.Timetable.{Timetable}
use Rattle.rb_outside.specs.{Bytes.AppendsPart, Writing.Writes}
use Rattle.rb_outside.proofs.Known.{appends_none, part_widens}
use Rattle.rb_report.specs.Report.{end_text}
use Rattle.rb_listen.specs.{Listeners.{Hearer, IsListening, IsListeningIn, IsSameBus, had_at, had_in}, Listening.{Heeding, Listening, TellNothing, first_search, had_by, hear, heed, heeds, told_of}, declared.heed.Heed.Heed, declared.listener.Stage.Stage, declared.search.Search.Search}
use Rattle.rb_replay.specs.{Advancing.Advances, ListeningOn.{IsDue, text_after}, Overhearing.{begun_in, begun_with, from_tick, heed_lines, heeds_text, overheard_text}}
use Rattle.rb_replay.proofs.QuietHeeds.{Counts, heed-counts, quiet-text, text-step}
use Rattle.rb_listen.specs.Listening as now
use Rattle.rb_listen.specs.declared.listener.Stage.TheVariants as stage

-- the ticks that the listener has had are those of its stage
had-in : (st : Stage) (s : Search) (n : Running) (l : Listening) → IsListeningIn st s n l → had_by l ≡ had_in st s n
had-in stage.Searching s n l at = ap had_by at
had-in (stage.Waiting first) s n l at = ap had_by at
had-in stage.Following s n l (c, (core, at)) = ap had_by at ∙ core.had

pub had-is : (h : Hearer) (l : Listening) → IsListening h l → had_by l ≡ had_at h
had-is h l at = had-in h.stage h.search h.follower l at

-- a listener of the same bus tells the same
same-told : (h k : Hearer) (l : Listening) (events : List CoreEvent) → IsSameBus h k → told_of k.sizes k.plan l events ≡ told_of h.sizes h.plan l events
same-told h k l events same =
    ap (λ s. told_of s k.plan l events) same.sizes ∙ ap (λ p. told_of h.sizes p l events) same.plan

-- Quiet ticks.

pub passes-due : (h k : Hearer) (name : NodeName) (begun ticks : ℕ) (events : List CoreEvent) (due : List ℕ) → IsSameBus h k
    → ((l : Listening) → IsListening h l → IsListening k (heeds h.sizes h.plan ticks l))
    → ((l : Listening) → IsListening h l → TellNothing h.sizes h.plan ticks l)
    → had_at k ≡ had_at h + ticks → had_at h + ticks ≤ 2 ^ 31
    → IsDue h name begun (replicate ticks (Tick 0) ++ events) due → IsDue k name begun events due
passes-due h k name begun ticks events due same stands quiet had room d =
    let after : IsListening k (heeds h.sizes h.plan ticks d.listening) = stands d.listening d.stands in
    let before_is : had_by d.listening ≡ had_at h = had-is h d.listening d.stands in
    let after_is : had_by (heeds h.sizes h.plan ticks d.listening) ≡ had_at k = had-is k (heeds h.sizes h.plan ticks d.listening) after in
    let few : begun ≤ had_by d.listening = d.few in
    record {
      listening = heeds h.sizes h.plan ticks d.listening;
      stands = after;
      few = omega arith;
      most = omega arith;
      text = d.text ∙ quiet-text h.sizes h.plan name begun ticks d.listening events (quiet d.listening d.stands)
          ∙ ap (text_after name begun) (sym (same-told h k (heeds h.sizes h.plan ticks d.listening) events same));
    }

-- A tick.

-- the lines of the tick were written
pub tick-advances : (h k : Hearer) (name : NodeName) (begun more word : ℕ) (events : List CoreEvent) (due : List ℕ) (before after : Option (List ℕ))
    → IsSameBus h k
    → ((l : Listening) → IsListening h l → IsListening k (heed h.sizes h.plan l).listening)
    → ((l : Listening) → IsListening h l → more ≡ begun_with (heed h.sizes h.plan l).heed.epoch)
    → ((l : Listening) → IsListening h l → Appends before after (heed_lines name (heed h.sizes h.plan l).heed))
    → IsDue h name begun (Tick word ∷ events) due → Advances (IsDue k name (begun + more) events) due before after
tick-advances h k name begun more word events due before after same stands begins written d =
    let x : Heeding = heed h.sizes h.plan d.listening in
    let counts : Counts (had_by d.listening) x = heed-counts h.sizes h.plan d.listening d.most in
    let now_most : had_by x.listening ≤ 2 ^ 31 = counts.most in
    let enough : begun_with x.heed.epoch + had_by d.listening ≤ had_by x.listening = counts.begun in
    let is : more ≡ begun_with x.heed.epoch = begins d.listening d.stands in
    let few : begun ≤ had_by d.listening = d.few in
    record {
      part = heed_lines name x.heed;
      rest = text_after name (begun + begun_with x.heed.epoch) (told_of h.sizes h.plan x.listening events);
      whole = d.text ∙ text-step name begun x.heed (told_of h.sizes h.plan x.listening events);
      appended = written d.listening d.stands;
      goes_on = record {
        listening = x.listening;
        stands = stands d.listening d.stands;
        few = omega arith;
        most = now_most;
        text = ap (λ n. text_after name (begun + n) (told_of h.sizes h.plan x.listening events)) (sym is)
            ∙ ap (text_after name (begun + more)) (sym (same-told h k x.listening events same));
      };
    }

-- only a part of the tick's lines was written
pub tick-part : (h : Hearer) (name : NodeName) (begun word : ℕ) (events : List CoreEvent) (due : List ℕ) (before after : Option (List ℕ))
    → ((l : Listening) → IsListening h l → AppendsPart before after (heed_lines name (heed h.sizes h.plan l).heed))
    → IsDue h name begun (Tick word ∷ events) due → AppendsPart before after due
tick-part h name begun word events due before after written d =
    let x : Heeding = heed h.sizes h.plan d.listening in
    subst (AppendsPart before after) (sym (d.text ∙ text-step name begun x.heed (told_of h.sizes h.plan x.listening events)))
    (part_widens before after (heed_lines name x.heed) (text_after name (begun + begun_with x.heed.epoch) (told_of h.sizes h.plan x.listening events)) (written d.listening d.stands))

-- An arrival, at which nothing is printed.

pub arrival-advances : (h k : Hearer) (name : NodeName) (begun from : ℕ) (bytes : List ℕ) (events : List CoreEvent) (due : List ℕ) (held : Option (List ℕ))
    → IsSameBus h k → had_at k ≡ had_at h → ((l : Listening) → IsListening h l → IsListening k (hear h.sizes h.plan from bytes l))
    → IsDue h name begun (Arrive from bytes ∷ events) due → Advances (IsDue k name (begun + 0) events) due held held
arrival-advances h k name begun from bytes events due held same had stands d =
    let m : Listening = hear h.sizes h.plan from bytes d.listening in
    let after : IsListening k m = stands d.listening d.stands in
    let before_is : had_by d.listening ≡ had_at h = had-is h d.listening d.stands in
    let after_is : had_by m ≡ had_at k = had-is k m after in
    let few : begun ≤ had_by d.listening = d.few in
    let most : had_by d.listening ≤ 2 ^ 31 = d.most in
    let none : begun ≡ begun + 0 = omega arith in
    record {
      part = [];
      rest = due;
      whole = refl;
      appended = appends_none held;
      goes_on = record {
        listening = m;
        stands = after;
        few = omega arith;
        most = omega arith;
        text = d.text ∙ ap (λ n. text_after name n (told_of h.sizes h.plan m events)) none
            ∙ ap (text_after name (begun + 0)) (sym (same-told h k m events same));
      };
    }

-- after the last event the end is due
end-due : (h : Hearer) (name : NodeName) (begun : ℕ) (due : List ℕ) → IsDue h name begun [] due → due ≡ end_text (begun - 1)
end-due h name begun due d = let none : begun + 0 ≡ begun = omega arith in d.text ∙ ap (λ n. end_text (n - 1)) none

-- what is due after the last event is what was written
pub end-is : (h : Hearer) (name : NodeName) (begun : ℕ) (bytes : List ℕ) → bytes ≡ end_text (begun - 1) → (rest : List ℕ) → IsDue h name begun [] rest → rest ≡ bytes
end-is h name begun bytes is rest d = end-due h name begun rest d ∙ sym is

-- The start.

pub all-due : (h : Hearer) (sizes : Sizes) (plan : Plan) (name : NodeName) (skip : ℕ) (events left : List CoreEvent) → h.sizes ≡ sizes → h.plan ≡ plan
    → IsListening h (now.Searching first_search) → from_tick skip events ≡ left
    → IsDue h name 0 left (overheard_text sizes plan name skip events)
unfolding overheard_text first_search
all-due h sizes plan name skip events left e f at is = record {
  listening = now.Searching first_search;
  stands = at;
  few = omega arith;
  most = omega arith;
  text =
      ap (λ es. heeds_text name (told_of sizes plan (now.Searching first_search) es)) is
      ∙ ap (λ s. heeds_text name (told_of s plan (now.Searching first_search) left)) (sym e)
      ∙ ap (λ p. heeds_text name (told_of h.sizes p (now.Searching first_search) left)) (sym f)
      ∙ zero-text name (told_of h.sizes h.plan (now.Searching first_search) left);
}
  where
    zero-text : (name : NodeName) (hs : List Heed) → heeds_text name hs ≡ text_after name 0 hs
    zero-text name hs = let sum : begun_in hs ≡ 0 + begun_in hs = omega arith in ap (λ n. flat_map (heed_lines name) hs ++ end_text (n - 1)) sum

-- if no event is left from the tick on, only the end is told
pub nothing-told : (sizes : Sizes) (plan : Plan) (name : NodeName) (skip : ℕ) (events : List CoreEvent) → from_tick skip events ≡ []
    → overheard_text sizes plan name skip events ≡ end_text 0
unfolding overheard_text
nothing-told sizes plan name skip events none = ap (λ es. heeds_text name (told_of sizes plan (now.Searching first_search) es)) none

-- what is due of a listener that has heard nothing, by what is said of its log
pub first-due : (h : Hearer) (p t : Timetable) (name node : NodeName) (skip : ℕ) (events left : List CoreEvent) → h.sizes ≡ p.sizes → h.plan ≡ p.plan → p ≡ t
    → name ≡ node → IsListening h (now.Searching first_search) → from_tick skip events ≡ left
    → IsDue h name 0 left (overheard_text t.sizes t.plan node skip events)
first-due h p t name node skip events left e f same is at found =
    subst (λ x. IsDue h x 0 left (overheard_text t.sizes t.plan node skip events)) (sym is)
    (all-due h t.sizes t.plan node skip events left (e ∙ ap (λ (x : Timetable). x.sizes) same) (f ∙ ap (λ (x : Timetable). x.plan) same) at found)

pub from-none : (h : Hearer) (name : NodeName) (n : ℕ) (events : List CoreEvent) (due : List ℕ) (before after : Option (List ℕ))
    → Advances (IsDue h name (0 + n) events) due before after → Advances (IsDue h name n events) due before after
from-none h name n events due before after a =
    let e : 0 + n ≡ n = omega arith in subst (λ k. Advances (IsDue h name k events) due before after) e a

-- if no event is left from the tick on, the end alone is written
pub ends-at-once : {S T E : Type 0} (held : S → Option (List ℕ)) (faults : S → ℕ) (sizes : Sizes) (plan : Plan) (name : NodeName) (skip : ℕ) (events : List CoreEvent) (bytes : List ℕ) (before after : S) (r : Result T E)
    → from_tick skip events ≡ [] → bytes ≡ end_text 0 → Writes held faults before after r bytes
    → Writes held faults before after r (overheard_text sizes plan name skip events)
ends-at-once held faults sizes plan name skip events bytes before after r none is written =
    subst (Writes held faults before after r) (is ∙ sym (nothing-told sizes plan name skip events none)) written
