-- What is recorded is a log.
use Rattle.std.proofs.{Common.{◌≡◌, ℕ, zero, suc, ◌+◌, ◌<◌, ◌≤◌, ◌&&◌, Bool, true, false, All, List, [], ◌∷◌, refl, sym, ◌∙◌, subst, arith, inl, inr, Option, Some, None, is_some, slice_get}, lemmas.Bool.cases_lt, lemmas.List.Elements.{All-append, All-cons, All-nil}, lemmas.Option.same_Some}
use Rattle.std.specs.Prelude.{if◌then◌else◌}
use Rattle.rb_base.specs.{Nodes.{Side, other}, Sizes.Sizes, declared.event.Event.Event, declared.node.NodeName.NodeName}
use Rattle.rb_rules.specs.{Book.of_kind, Core.pass_to, Entries.IsListed, Goodness.Scenario, Hearing.{Coming}, Lawful.{IsLawful, IsNodeOf, kind_of}, Links.same_node, Ports.PortState, Slots.{count_of, role_of}, WorldStep.{Due, Pending, Site, World, event_at, event_of, wants_in, word_of}, WorldStep.Pending.{Tick, Arrival}}
use Rattle.rb_laws_logs.specs.Given.{first_run, given_in, given_next, is_before_end, site_of}
use Rattle.rb_laws_logs.proofs.{FirstRuns.same-given, Recorded.ticks-append}
use Rattle.rb_log.specs.{Laws.{IsTellable, MayHappen, ticks_in}, LogText.senders_of, Writing.{given, ticks_given}}
use Rattle.rb_log.proofs.RoundTrip.{written_read}
use Rattle.rb_laws_events.proofs.{DueEvents.{IsDue, IsReady}, PendingLists.StandsAt, WorldNodes.{Known, worlds-known}}
use Rattle.rb_world.specs.Worlds.{IsReached}
use Rattle.rb_world.proofs.Ready.{due-reached}
use Rattle.rb_record.specs.{Laws.{OneLog, RecordedIsRead}, Recording.MayTell}
use Rattle.rb_record.proofs.{Comings.{AreSound, IsSound, run-sound}, Runs.run-reached, Ticks.{IsEvent, at-node, is-event, may-tell, next-is, sized-at}}
use Rattle.rb_laws_agreement.proofs.Speaking.{word_fits}
use Rattle.rb_base.specs.declared.event.EventKind.TheVariants as kind

-- One event.

known-at : (sizes : Sizes) (me : Side) (n : ℕ) (c : Coming) (cs : List Coming) → StandsAt n c cs → Known sizes me cs → c.from < count_of (other me) sizes
known-at sizes me n c [] at is = absurd at
known-at sizes me zero c (x ∷ xs) at is = subst (λ (c : Coming). c.from < count_of (other me) sizes) at is.0
known-at sizes me (suc n) c (x ∷ xs) at is = known-at sizes me n c xs at is.1

happens-by : (sc : Scenario) (ports : List PortState) (me : Side) (i t : ℕ) (s : Site) (p : Pending) → IsLawful sc → IsReady t s p → IsSound s → Known sc.sizes me s.coming
    → MayHappen (count_of (other me) sc.sizes) (event_of sc ports me i s.core p).kind
happens-by sc ports me i t s (Tick k) lawful ready is known = by (wants_in sc me i (pass_to k s.core))
  where
    by : (slot : Option ℕ) → MayHappen (count_of (other me) sc.sizes) (kind.Tick (word_of sc ports i slot) (is_some slot))
    by None = refl
    by (Some slot) = word_fits ports i slot (role_of sc.sizes slot) lawful
happens-by sc ports me i t s (Arrival place c) lawful ready is known =
    let size = sized-at place c s.coming ready.0 is.sized in (known-at sc.sizes me place c s.coming ready.0 known, size.0, size.1)

-- an event at the named node is one that can happen there
event-happens : (sc : Scenario) (w : World) (e : Event) (name : NodeName) → IsLawful sc → IsReached sc w → AreSound w.sites → IsEvent sc w e → same_node e.node name ≡ true
    → MayHappen (senders_of (record { sizes = sc.sizes; plan = sc.plan }) name) e.kind
event-happens sc w e name lawful reached sound is same =
    let d : Due = is.d in
    let due : IsDue w d = due-reached sc w 0 d reached is.found in
    let one : due.s ≡ is.s = same_Some due.s is.s (sym due.there ∙ is.there) in
    let known : Known sc.sizes d.side due.s.coming =
    subst (λ (x : World). (me : Side) (i : ℕ) (s : Site) → slice_get (of_kind me x.sites) i ≡ Some s → Known sc.sizes me s.coming) (sym reached.is) (worlds-known sc reached.choices).known d.side d.node due.s due.there in
    let at = at-node sc w e name is same in
    subst (λ (e : Event). MayHappen (count_of (other (kind_of name)) sc.sizes) e.kind) (sym is.is)
    (subst (λ (s : Site). MayHappen (count_of (other (kind_of name)) sc.sizes) (event_of sc w.ports d.side d.node s.core d.pending).kind) one
    (subst (λ k. MayHappen (count_of (other k) sc.sizes) (event_of sc w.ports d.side d.node due.s.core d.pending).kind) at.0
    (happens-by sc w.ports d.side d.node due.t due.s d.pending lawful due.ready (sound d.side d.node due.s due.there) known)))

-- All of them.

abbrev CanHappen : Scenario → NodeName → Event → Type 0
CanHappen sc name e = MayHappen (senders_of (record { sizes = sc.sizes; plan = sc.plan }) name) e.kind

abbrev AllHappen : Scenario → NodeName → List Event → Type 0
AllHappen sc name events = All (CanHappen sc name) events

next-happens : (sc : Scenario) (name : NodeName) (n : ℕ) → IsLawful sc → IsListed sc → AllHappen sc name (given_next sc name (first_run sc n))
next-happens sc name n lawful listed = by (event_at sc (first_run sc n) 0) refl
  where
    at : (e : Event) → event_at sc (first_run sc n) 0 ≡ Some e → (a b : Bool) → same_node e.node name ≡ a → AllHappen sc name (if a && b then e ∷ [] else [])
    at e found true true same =
        All-cons (CanHappen sc name) e [] (event-happens sc (first_run sc n) e name lawful (run-reached sc n) (run-sound sc n lawful listed) (is-event sc (first_run sc n) e found) same) (All-nil (CanHappen sc name))
    at e found true false same = All-nil (CanHappen sc name)
    at e found false b same = All-nil (CanHappen sc name)

    by : (o : Option Event) → event_at sc (first_run sc n) 0 ≡ o → AllHappen sc name (given_next sc name (first_run sc n))
    by None e = subst (AllHappen sc name) (sym (next-is sc name (first_run sc n) None e)) (All-nil (CanHappen sc name))
    by (Some e) found =
        subst (AllHappen sc name) (sym (next-is sc name (first_run sc n) (Some e) found)) (at e found (same_node e.node name) (is_before_end sc (site_of name (first_run sc n))) refl)

given-happen : (sc : Scenario) (name : NodeName) (n : ℕ) → IsLawful sc → IsListed sc → AllHappen sc name (given_in sc name n)
given-happen sc name zero lawful listed = All-nil (CanHappen sc name)
given-happen sc name (suc n) lawful listed = All-append (CanHappen sc name) (given_in sc name n) (given_next sc name (first_run sc n)) (given-happen sc name n lawful listed) (next-happens sc name n lawful listed)

tell-fits : (ticks : ℕ) (events : List Event) → ticks ≤ 2147483648 → MayTell ticks events → ticks + ticks_in events ≤ 2147483648
tell-fits ticks [] le may = omega (arith, le)
tell-fits ticks (e ∷ events) le may = let rest = tell-fits (ticks + ticks_given e) events may.0.0 may.1 in omega (arith, rest)

given-fit : (sc : Scenario) (name : NodeName) (n : ℕ) → IsLawful sc → IsListed sc → ticks_in (given_in sc name n) ≤ 2147483648
given-fit sc name zero lawful listed = omega arith
given-fit sc name (suc n) lawful listed =
    let before = given-fit sc name n lawful listed in
    let fits = tell-fits (ticks_in (given_in sc name n)) (given_next sc name (first_run sc n)) before (may-tell sc name n (ticks_in (given_in sc name n)) lawful listed refl) in
    let sum = ticks-append (given_in sc name n) (given_next sc name (first_run sc n)) in
    omega (arith, fits, sum)

given-tellable : (sc : Scenario) (name : NodeName) (n : ℕ) → IsLawful sc → IsListed sc → IsNodeOf sc.sizes name → IsTellable (record { sizes = sc.sizes; plan = sc.plan }) name (given_in sc name n)
given-tellable sc name n lawful listed node = record {
  shape = lawful.sizes;
  plan = lawful.plan;
  feasible = lawful.feasible;
  version = lawful.version;
  node_of = node;
  happen = given-happen sc name n lawful listed;
  ticks = given-fit sc name n lawful listed;
}

pub recorded-read : RecordedIsRead
recorded-read sc lawful listed name node events given =
    written_read (record { sizes = sc.sizes; plan = sc.plan }) name events
    (subst (IsTellable (record { sizes = sc.sizes; plan = sc.plan }) name) (sym given.all) (given-tellable sc name given.steps lawful listed node))

-- One list.

pub one-list : OneLog
one-list sc name events others given other = elim (cases_lt given.steps other.steps) [
  | inl lt ↦ given.all ∙ sym (same-given sc name given.steps other.steps (omega (arith, lt)) given.over) ∙ sym other.all
  | inr ge ↦ given.all ∙ same-given sc name other.steps given.steps ge other.over ∙ sym other.all
]
