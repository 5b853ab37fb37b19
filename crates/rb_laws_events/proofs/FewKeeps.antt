-- For the law that pending events are few: if the run breaks off in a sync slot the nodes keep room
-- for what comes to them until it has ended.
use Rattle.std.proofs.{Common.{◌≡◌, ℕ, zero, suc, ◌+◌, ◌*◌, ◌^◌, ◌<◌, ◌≤◌, ◌&&◌, Bool, true, false, List, [], ◌∷◌, ◌++◌, length, refl, ap, sym, ◌∙◌, subst, arith, inl, inr, Option, Some, None, slice_get}, lemmas.Bool.cases_lt, lemmas.Option.{same_Some, slice_get_within}}
use Rattle.rb_base.specs.Nodes.{Side, other}
use Rattle.rb_base.proofs.Plain.{none_and_some, option_map-back}
use Rattle.rb_rules.specs.{declared.message.Message.Message, Book.{Each, of_kind}, Clock.{time_of}, Core.{Act}, Entries.IsListed, Goodness.{Scenario, clock_of}, Hearing.{Coming, coming_of}, Lawful.IsLawful, Ports.HandIn, Rounds.moment, Slots.{count_of, same_side}, WorldStep.{Site, Timed, after_act, after_arrival, at_node, pass_and_tick, with_message}}
use Rattle.rb_rules.proofs.{Drift.times_rise_to, Stamps.Moves}
use Rattle.rb_laws_events.specs.PendingEvents.{most_coming}
use Rattle.rb_laws_events.proofs.{BreakBegins.FirstCloses, BreakEnters.TickBreaks, BreakNodes.{BreaksAt, KeepsNodes}, BreakRooms.{HasLater, has-later}, EventsHold.{course_of, keeps, nodes_at, tells-on}, FewBreak.{ClosedFew, early-few}, FewLast.{ToldFew, last-few}, FewOff.{HaveRooms, StepsOn, messages_in, rooms-change}, FewTold.{Few, FewOn, May, breaks-few}, FewThere.few-where-it-stands, Invariant.is_good_at, PendingLists.StandsAt, SourceSums.sum_to, Takes.length-without, TickRooms.has-room, WorldStands.{IsDown, IsUp, is_node, node-is, sent_by}, WorldTicks.{after_tick, get-after, length-after, moved, reached}}

-- what a node may do yet that has told its row, and how much one that has not
abbrev pub few_of : Scenario → ℕ → Few
few_of sc zero = ClosedFew sc
few_of sc (suc zero) = ClosedFew sc
few_of sc (suc (suc q)) = ToldFew sc

abbrev pub least_of : ℕ → ℕ
least_of zero = 1
least_of (suc zero) = 1
least_of (suc (suc q)) = 2

-- what a node may do yet
abbrev pub may_at : Scenario → ℕ → List HandIn → ℕ → Side → ℕ → ℕ → ℕ → Site → Type 0
may_at sc q = May (least_of q) (few_of sc q)

abbrev pub FewAt : Scenario → ℕ → Type 0
FewAt sc q = FewOn sc q (least_of q) (course_of sc q) (few_of sc q)

pub few-on : {sc : _} → IsListed sc → IsLawful sc → (q : ℕ) → q < 3 → FewAt sc q
few-on listed lawful zero small = early-few listed lawful (has-room lawful) 0 (omega arith)
few-on listed lawful (suc zero) small = early-few listed lawful (has-room lawful) 1 (omega arith)
few-on listed lawful (suc (suc zero)) small = last-few listed lawful (has-room lawful)
few-on listed lawful (suc (suc (suc q))) small = absurd (omega (arith, small))

-- all nodes have room for what is still to come
pub record FewOff (sc : Scenario) (q : ℕ) (hands : List HandIn) (b : ℕ) (sites : Each Site) : Type 0 where
  pub sends : Side → ℕ → ℕ
  pub enters : Side → ℕ → ℕ
  pub rooms : HaveRooms sc (most_coming sc) sends enters sites
  pub counts : (me : Side) → length (of_kind me sites) ≡ count_of me sc.sizes
  pub may : (me : Side) (i : ℕ) (s : Site) → slice_get (of_kind me sites) i ≡ Some s → may_at sc q hands b me i (sends me i) (enters me i) s

abbrev pub few_at : Scenario → ℕ → List HandIn → ℕ → (Side → ℕ → ℕ → Bool) → Each Site → Type 0
few_at sc q hands b sent sites = nodes_at sc q hands b sent sites × FewOff sc q hands b sites

pub rooms-few : (sc : Scenario) (q : ℕ) (hands : List HandIn) (b : ℕ) (sent : Side → ℕ → ℕ → Bool) (sites : Each Site) → few_at sc q hands b sent sites
    → (me : Side) (i : ℕ) (s : Site) → slice_get (of_kind me sites) i ≡ Some s → length s.coming ≤ most_coming sc me
rooms-few sc q hands b sent sites h me i s there = let room = h.1.rooms.room me i s there in omega (arith, room)

-- The first close.

pub sum-same : (k n : ℕ) → sum_to (λ _. k) n ≡ n * k
sum-same k zero = omega arith
sum-same k (suc n) = let rest = sum-same k n in omega (arith, rest)

begins-few : {sc : _} → IsListed sc → {q : ℕ} → FewAt sc q → {hands b now at sites t : _} → FirstCloses sc hands now at sites b t → FewOff sc q hands b sites
begins-few {sc} listed few {hands} {now} {at} {sites} h = record {
  sends = λ _ _. 2;
  enters = λ _ _. 2;
  rooms = record {
    room = λ me i s there.
        let all = sum-same 2 (count_of (other me) sc.sizes) in
        let few = here me i s there s.runs refl in
        omega (arith, all, few);
  };
  counts = h.stand.counts;
  may = λ me i s there. inl (few.most, few.most);
}
  where
    here : (me : Side) (i : ℕ) (s : Site) → slice_get (of_kind me sites) i ≡ Some s → (r : Bool) → s.runs ≡ r → length s.coming ≤ 2 * count_of (other me) sc.sizes + length sc.says
    here me i s there true e =
        let up : IsUp sc hands (sent_by sc hands at sites) now me i (at me i) s = h.stand.up me i s there e in
        few-where-it-stands listed up.stands
    here me i s there false e =
        let down : IsDown sc hands me i (at me i) s = h.stand.down me i s there e in
        let none : length s.coming ≡ 0 = ap length down.coming in
        omega (arith, none)

-- Messages and arrivals.

pub may-reached : {sc q : _} → FewAt sc q → (hands : List HandIn) (b : ℕ) (me : Side) (i frame k : ℕ) (m : Option Message) (side : Side) (j r e : ℕ) (z : Site)
    → may_at sc q hands b side j r e z → may_at sc q hands b side j r e (reached sc me i frame k m side j z)
may-reached its hands b me i frame k None side j r e z h = h
may-reached {sc} {q} its hands b me i frame k (Some m) side j r e z h = by (same_side side (other me) && z.runs)
  where
    by : (d : Bool) → may_at sc q hands b side j r e (elim d as (λ _. Site) [
      | true ↦ record z { coming = z.coming ++ coming_of sc side j i frame (record { tick = k; message = m }) ∷ [] }
      | false ↦ z
    ])
    by true = elim h [ inl most ↦ inl most | inr f ↦ inr (its.more hands b side j r e z (z.coming ++ coming_of sc side j i frame (record { tick = k; message = m }) ∷ []) f) ]
    by false = h

pub may-arrives : {sc q : _} → FewAt sc q → (hands : List HandIn) (b : ℕ) (me : Side) (i r e n : ℕ) (c : Coming) (s : Site) → (is_good_at sc (moment sc hands b) me i ≡ true → Moves (clock_of sc me i))
    → ((a : Timed) → s.ahead ≡ Some a → c.time ≤ a.time) → may_at sc q hands b me i r e s → may_at sc q hands b me i r e (after_arrival sc me i n c s)
may-arrives its hands b me i r e n c s moves before (inl most) = inl most
may-arrives its hands b me i r e n c s moves before (inr f) = inr (its.arrives hands b me i r e n c s moves before f)

-- what the nodes may do if one changes and a message is on its way
pub may-after : {sc q : _} → FewAt sc q → (hands : List HandIn) (b : ℕ) (sites : Each Site) (me : Side) (i frame k : ℕ) (m : Option Message) (change : Site → Site) {s : _} (r e : ℕ) (sends enters : Side → ℕ → ℕ)
    → slice_get (of_kind me sites) i ≡ Some s → ((side : Side) (j : ℕ) (z : Site) → slice_get (of_kind side sites) j ≡ Some z → may_at sc q hands b side j (sends side j) (enters side j) z) → may_at sc q hands b me i r e (change s)
    → (side : Side) (j : ℕ) (z : Site) → slice_get (of_kind side (with_message sc me i frame k m (at_node me i change sites))) j ≡ Some z → may_at sc q hands b side j (moved me i r sends side j) (moved me i e enters side j) z
may-after {sc} {q} few hands b sites me i frame k m change {s} r e sends enters there h may side j z f =
    let was = option_map-back (after_tick sc me i frame k m change side j) (slice_get (of_kind side sites) j) z (sym (get-after sc me i frame k m change sites side j) ∙ f) in
    subst (may_at sc q hands b side j (moved me i r sends side j) (moved me i e enters side j)) was.1.1
    (may-reached few hands b me i frame k m side j (moved me i r sends side j) (moved me i e enters side j) (elim (is_node me i side j) as (λ _. Site) [ true ↦ change was.0 | false ↦ was.0 ])
    (its was.0 was.1.0 (is_node me i side j) refl))
  where
    its : (was : Site) → slice_get (of_kind side sites) j ≡ Some was → (d : Bool) → is_node me i side j ≡ d
        → may_at sc q hands b side j (elim d as (λ _. ℕ) [ true ↦ r | false ↦ sends side j ]) (elim d as (λ _. ℕ) [ true ↦ e | false ↦ enters side j ]) (elim d as (λ _. Site) [ true ↦ change was | false ↦ was ])
    its was at true f =
        let is = node-is me side i j f in
        let here : slice_get (of_kind me sites) i ≡ Some was = sym (ap (λ y. slice_get (of_kind y sites) j) is.0 ∙ ap (slice_get (of_kind me sites)) is.1) ∙ at in
        subst (λ was. may_at sc q hands b side j r e (change was)) (same_Some s was (sym there ∙ here))
        (subst (λ y. may_at sc q hands b y j r e (change s)) (sym is.0) (subst (λ n. may_at sc q hands b me n r e (change s)) (sym is.1) may))
    its was at false f = h side j was at

-- the room is enough if one node changes and a message is on its way
changes-few : {sc q : _} → FewAt sc q → {hands b sites : _} (me : Side) (i frame k : ℕ) (m : Option Message) (change : Site → Site) {s : _} (r e : ℕ)
    → (h : FewOff sc q hands b sites) → slice_get (of_kind me sites) i ≡ Some s → length (change s).coming + e * length sc.says ≤ length s.coming + h.enters me i * length sc.says
    → r + messages_in m ≤ h.sends me i → may_at sc q hands b me i r e (change s) → FewOff sc q hands b (with_message sc me i frame k m (at_node me i change sites))
changes-few {sc} few {hands} {b} {sites} me i frame k m change {s} r e h there room sent may = record {
  sends = moved me i r h.sends;
  enters = moved me i e h.enters;
  rooms = rooms-change me i frame k m change r e
      (let within = slice_get_within (of_kind me sites) i s there in let long = h.counts me in omega (arith, within, long)) there room sent h.rooms;
  counts = λ side. length-after sc me i frame k m change sites side ∙ h.counts side;
  may = may-after few hands b sites me i frame k m change r e h.sends h.enters there h.may may;
}

-- Ticks.

pub steps-at : {sc : _} → IsListed sc → IsLawful sc → {q hands b : _} → BreaksAt sc hands b q → {sent ports : _} (sites : Each Site) → nodes_at sc q hands b sent sites
    → {me i s a : _} (r e : ℕ) → TickBreaks sc hands sent ports b me i s a → a.tick < 2 ^ 31 → slice_get (of_kind me sites) i ≡ Some s → may_at sc q hands b me i r e s
    → StepsOn sc (may_at sc q hands b me i) (pass_and_tick sc ports me i a.tick s.core).message s (after_act sc ports me i (pass_and_tick sc ports me i a.tick s.core) s) r e
steps-at {sc} listed lawful {q} off sites h {me} {i} {s} r e t small there =
    breaks-few (course_of sc q) (few_of sc q) (tells-on lawful q off.small) (few-on listed lawful q off.small) listed lawful (has-room lawful) off t small (h me i s there)

-- a tick that is due is one of those that the node may have
pub tick-small : {sc : _} → IsLawful sc → {q : ℕ} → KeepsNodes sc q (nodes_at sc q) → {hands b : _} → BreaksAt sc hands b q → {sent ports : _} (sites : Each Site)
    → nodes_at sc q hands b sent sites → {me i s a : _} → TickBreaks sc hands sent ports b me i s a → slice_get (of_kind me sites) i ≡ Some s → a.tick < 2 ^ 31
tick-small {sc} lawful its {hands} {b} off {sent} sites h {me} {i} {s} {a} t there =
    let ahead = its.ahead hands b off sent sites h me i s there a t.pend in
    let good : is_good_at sc (moment sc hands b) me i ≡ true = elim (its.goes hands b off sent sites h me i s there) [ inl stopped ↦ none_and_some a s.ahead stopped.ahead t.pend | inr good ↦ good ] in
    let later : HasLater sc a.time me i = has-later lawful off (record { you = t.you; j = t.j; yours = t.yours; there = t.there; good = t.good; first = t.first }) me i good in
    let small = later.small in
    let after = later.later in
    elim (cases_lt a.tick later.k) [
      | inl lt ↦ omega (arith, lt, small)
      | inr ge ↦
          let up : time_of (clock_of sc me i) later.k ≤ time_of (clock_of sc me i) a.tick = times_rise_to (clock_of sc me i) later.k a.tick ge in
          absurd (omega (arith, up, after, ahead.1))
    ]

arrived-less : (sc : Scenario) (me : Side) (i n : ℕ) (c : Coming) (s : Site) → StandsAt n c s.coming → length (after_arrival sc me i n c s).coming ≤ length s.coming
unfolding after_arrival
arrived-less sc me i n c s h = let less = length-without n c s.coming h in omega (arith, less)

pub few-keeps : {sc : _} → IsListed sc → IsLawful sc → (q : ℕ) → q < 3 → KeepsNodes sc q (few_at sc q)
few-keeps {sc} listed lawful q small = record {
  begins = λ hands b off now at sites t first. (its.begins hands b off now at sites t first, begins-few listed few first);
  waits = λ hands b off sent sites h. its.waits hands b off sent sites h.0;
  told = λ hands b off sent ports sites h. its.told hands b off sent ports sites h.0;
  tick = λ hands b off sent ports sites h me i frame s a t there.
      let x : Act = pass_and_tick sc ports me i a.tick s.core in
      let step = steps-at listed lawful off sites h.0 (h.1.sends me i) (h.1.enters me i) t (tick-small lawful its off sites h.0 t there) there (h.1.may me i s there) in (
        its.tick hands b off sent ports sites h.0 me i frame s a t there,
        changes-few few me i frame a.tick x.message (after_act sc ports me i x) step.sends step.enters h.1 there step.room step.sent step.may,
      );
  arrival = λ hands b off sent sites h me i n c s moves there stands due first.
      let none : Option Message = None in
      let less = arrived-less sc me i n c s stands in (
        its.arrival hands b off sent sites h.0 me i n c s moves there stands due first,
        changes-few few me i 0 0 none (after_arrival sc me i n c) (h.1.sends me i) (h.1.enters me i) h.1 there (omega (arith, less)) (omega arith)
            (may-arrives few hands b me i (h.1.sends me i) (h.1.enters me i) n c s moves (λ a e. (due a e).before_tick) (h.1.may me i s there)),
      );
  goes = λ hands b off sent sites h. its.goes hands b off sent sites h.0;
  ahead = λ hands b off sent sites h. its.ahead hands b off sent sites h.0;
}
  where
    its : KeepsNodes sc q (nodes_at sc q)
    its = keeps lawful q small

    few : FewAt sc q
    few = few-on listed lawful q small
