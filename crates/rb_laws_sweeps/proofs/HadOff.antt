-- For the law that what is pending behind is few: if the run breaks off in a sync slot the nodes
-- keep room for what came to them, too.
use Rattle.std.proofs.{Common.{◌≡◌, ℕ, ◌+◌, ◌*◌, ◌<◌, ◌≤◌, ◌&&◌, Bool, true, false, List, [], ◌∷◌, ◌++◌, append_assoc, cond, filter, length, length-append, refl, remove, ap, sym, ◌∙◌, subst, arith, inl, Option, Some, None, option_map, slice_get}, lemmas.Option.{same_Some, slice_get_within}}
use Rattle.rb_base.specs.{Nodes.{Side, other}, Sizes.Sizes}
use Rattle.rb_base.proofs.Plain.{option_map-back}
use Rattle.rb_rules.specs.{declared.message.Message.Message, Book.{Each, of_kind}, Core.Act, Entries.IsListed, Goodness.{Scenario, is_good}, Hearing.{Coming, coming_of}, Lawful.IsLawful, Ports.{HandIn, PortState}, Slots.{count_of, same_side}, WorldStep.{Site, after_act, after_arrival, at_node, pass_and_tick, with_message}, declared.closing.Closed.Closed, declared.record.Epoch.Epoch, Hearing.{Sending, Span}, Book.map_each, WorldStep.{await, enter, proceed, says_in, sent_to, span_from, stop, with_close, with_epoch}}
use Rattle.rb_laws_events.specs.PendingEvents.{most_coming}
use Rattle.rb_laws_events.proofs.{BreakBegins.FirstCloses, BreakNodes.KeepsNodes, EventsHold.{keeps, nodes_at}, FewKeeps.{FewAt, few-on, may-after, may-arrives, may_at, steps-at, sum-same, tick-small}, FewOff.{HaveRooms, messages_in, rooms-change}, PendingLists.{StandsAt, filter-last}, Takes.length-without, WorldStands.{IsDown, IsUp, is_node, node-is, sent_by}, WorldTicks.{length-after, moved}, EachAlike.each-alike}
use Rattle.rb_rules.proofs.WindowNumbers.{get-each}
use Rattle.rb_laws_sweeps.proofs.{HadThere.{had-where-it-stands, had_of, is_known}, Settles.each-fuse}

-- the site to which what came still comes
abbrev pub with_had : Sizes → Side → ℕ → Site → Site
with_had sizes side n s = record s { coming = had_of sizes side s ++ s.coming }

pub record HadOff (sc : Scenario) (q : ℕ) (hands : List HandIn) (b : ℕ) (sites : Each Site) : Type 0 where
  pub sends : Side → ℕ → ℕ
  pub enters : Side → ℕ → ℕ
  pub rooms : HaveRooms sc (most_coming sc) sends enters (map_each (with_had sc.sizes) sites)
  pub counts : (me : Side) → length (of_kind me sites) ≡ count_of me sc.sizes
  pub may : (me : Side) (i : ℕ) (s : Site) → slice_get (of_kind me sites) i ≡ Some s → may_at sc q hands b me i (sends me i) (enters me i) s

abbrev pub had_at : Scenario → ℕ → List HandIn → ℕ → (Side → ℕ → ℕ → Bool) → Each Site → Type 0
had_at sc q hands b sent sites = nodes_at sc q hands b sent sites × HadOff sc q hands b sites

pub rooms-had : (sc : Scenario) (q : ℕ) (hands : List HandIn) (b : ℕ) (sent : Side → ℕ → ℕ → Bool) (sites : Each Site) → had_at sc q hands b sent sites
    → (me : Side) (i : ℕ) {s : _} → slice_get (of_kind me sites) i ≡ Some s → length (had_of sc.sizes me s) + length s.coming ≤ most_coming sc me
rooms-had sc q hands b sent sites h me i {s} there =
    let room = h.1.rooms.room me i (with_had sc.sizes me i s) (get-each (with_had sc.sizes) sites me i ∙ ap (option_map (with_had sc.sizes me i)) there) in
    let long = length-append (had_of sc.sizes me s) s.coming in
    omega (arith, room, long)

-- The first close.

begins-had : {sc : _} → IsListed sc → {q : ℕ} → FewAt sc q → {hands b now at sites t : _} → FirstCloses sc hands now at sites b t → HadOff sc q hands b sites
begins-had {sc} listed few {hands} {now} {at} {sites} h = record {
  sends = λ _ _. 2;
  enters = λ _ _. 2;
  rooms = record {
    room = λ me i s there.
        let was = option_map-back (with_had sc.sizes me i) (slice_get (of_kind me sites) i) s (sym (get-each (with_had sc.sizes) sites me i) ∙ there) in
        let same : length (with_had sc.sizes me i was.0).coming ≡ length s.coming = ap (λ (s : Site). length s.coming) was.1.1 in
        let long = length-append (had_of sc.sizes me was.0) was.0.coming in
        let all = sum-same 2 (count_of (other me) sc.sizes) in
        let few = here me i was.0 was.1.0 was.0.runs refl in
        omega (arith, all, few, same, long);
  };
  counts = h.stand.counts;
  may = λ me i s there. inl (few.most, few.most);
}
  where
    here : (me : Side) (i : ℕ) (s : Site) → slice_get (of_kind me sites) i ≡ Some s → (r : Bool) → s.runs ≡ r
        → length (had_of sc.sizes me s) + length s.coming ≤ 2 * count_of (other me) sc.sizes + length sc.says
    here me i s there true e =
        let up : IsUp sc hands (sent_by sc hands at sites) now me i (at me i) s = h.stand.up me i s there e in
        let few = had-where-it-stands listed up.stands in
        let had : length (had_of sc.sizes me s) ≡ length (filter (is_known sc.sizes me) s.got) =
        ap (λ r. length (elim r as (λ _. List Coming) [ true ↦ filter (is_known sc.sizes me) s.got | false ↦ [] ])) e in
        omega (arith, few, had)
    here me i s there false e =
        let down : IsDown sc hands me i (at me i) s = h.stand.down me i s there e in
        let none : length s.coming ≡ 0 = ap length down.coming in
        let had : length (had_of sc.sizes me s) ≡ 0 = ap (λ r. length (elim r as (λ _. List Coming) [ true ↦ filter (is_known sc.sizes me) s.got | false ↦ [] ])) e in
        omega (arith, none, had)

-- What came to the nodes after one of them changes and a message is on its way.

had-sent : (sc : Scenario) (me : Side) (i frame : ℕ) (x : Sending) (side : Side) (n : ℕ) (s : Site)
    → with_had sc.sizes side n (sent_to sc me i frame x side n s) ≡ sent_to sc me i frame x side n (with_had sc.sizes side n s)
had-sent sc me i frame x side n s = by (same_side side (other me) && s.runs)
  where
    c : Coming
    c = coming_of sc side n i frame x

    by : (d : Bool) → with_had sc.sizes side n (elim d as (λ _. Site) [ true ↦ record s { coming = s.coming ++ c ∷ [] } | false ↦ s ])
        ≡ (elim d as (λ _. Site) [ true ↦ record s { coming = (had_of sc.sizes side s ++ s.coming) ++ c ∷ [] } | false ↦ with_had sc.sizes side n s ])
    by true = ap (λ l. record s { coming = l }) (sym (append_assoc (had_of sc.sizes side s) s.coming (c ∷ [])))
    by false = refl

had-message : (sc : Scenario) (me : Side) (i frame k : ℕ) (m : Option Message) (sites : Each Site)
    → with_message sc me i frame k m (map_each (with_had sc.sizes) sites) ≡ map_each (with_had sc.sizes) (with_message sc me i frame k m sites)
had-message sc me i frame k None sites = refl
had-message sc me i frame k (Some m) sites =
    let x : Sending = record { tick = k; message = m } in
    let sent : Side → ℕ → Site → Site = sent_to sc me i frame x in
    let both : Side → ℕ → Site → Site = λ side n s. with_had sc.sizes side n (sent side n s) in
    each-fuse sent (with_had sc.sizes) both sites (λ side n s. sym (had-sent sc me i frame x side n s))
    ∙ sym (each-fuse (with_had sc.sizes) sent both sites (λ side n s. refl))

had-node : (sizes : Sizes) (me : Side) (i : ℕ) (change : Site → Site) {s : _} (sites : Each Site) → slice_get (of_kind me sites) i ≡ Some s
    → at_node me i (λ z. with_had sizes me i (change s)) (map_each (with_had sizes) sites) ≡ map_each (with_had sizes) (at_node me i change sites)
had-node sizes me i change {s} sites there =
    let two : Side → ℕ → Site → Site = λ side n z. elim (is_node me i side n) as (λ _. Site) [ true ↦ with_had sizes me i (change s) | false ↦ z ] in
    let one : Side → ℕ → Site → Site = λ side n z. elim (is_node me i side n) as (λ _. Site) [ true ↦ change z | false ↦ z ] in
    let had : Side → ℕ → Site → Site = with_had sizes in
    each-fuse two had (λ side n z. two side n (had side n z)) sites (λ side n z. refl)
    ∙ each-alike (λ side n z. two side n (had side n z)) (λ side n z. had side n (one side n z)) sites (λ side n z here. by side n z here (is_node me i side n) refl)
    ∙ sym (each-fuse had one (λ side n z. had side n (one side n z)) sites (λ side n z. refl))
  where
    by : (side : Side) (n : ℕ) (z : Site) → slice_get (of_kind side sites) n ≡ Some z → (d : Bool) → is_node me i side n ≡ d
        → (elim d as (λ _. Site) [ true ↦ with_had sizes me i (change s) | false ↦ with_had sizes side n z ])
        ≡ with_had sizes side n (elim d as (λ _. Site) [ true ↦ change z | false ↦ z ])
    by side n z here false e = refl
    by side n z here true e =
        let is = node-is me side i n e in
        let its : slice_get (of_kind me sites) i ≡ Some z = sym (ap (λ k. slice_get (of_kind k sites) n) is.0 ∙ ap (slice_get (of_kind me sites)) is.1) ∙ here in
        ap (λ z. with_had sizes me i (change z)) (same_Some s z (sym there ∙ its))
        ∙ ap (λ k. with_had sizes k n (change z)) (sym is.0)

-- `HadOff` is kept if one node changes and a message is on its way
changes-had : {sc q : _} → FewAt sc q → {hands b sites : _} (me : Side) (i frame k : ℕ) (m : Option Message) (change : Site → Site) {s : _} (r e : ℕ)
    → (h : HadOff sc q hands b sites) → slice_get (of_kind me sites) i ≡ Some s
    → length (with_had sc.sizes me i (change s)).coming + e * length sc.says ≤ length (with_had sc.sizes me i s).coming + h.enters me i * length sc.says
    → r + messages_in m ≤ h.sends me i → may_at sc q hands b me i r e (change s) → HadOff sc q hands b (with_message sc me i frame k m (at_node me i change sites))
changes-had {sc} few {hands} {b} {sites} me i frame k m change {s} r e h there room sent may = record {
  sends = moved me i r h.sends;
  enters = moved me i e h.enters;
  rooms = subst (HaveRooms sc (most_coming sc) (moved me i r h.sends) (moved me i e h.enters))
      (ap (with_message sc me i frame k m) (had-node sc.sizes me i change sites there) ∙ had-message sc me i frame k m (at_node me i change sites))
      (rooms-change me i frame k m (λ z. with_had sc.sizes me i (change s)) r e
      (let within = slice_get_within (of_kind me sites) i s there in let long = h.counts me in omega (arith, within, long))
      (get-each (with_had sc.sizes) sites me i ∙ ap (option_map (with_had sc.sizes me i)) there) room sent h.rooms);
  counts = λ side. length-after sc me i frame k m change sites side ∙ h.counts side;
  may = may-after few hands b sites me i frame k m change r e h.sends h.enters there h.may may;
}

-- What came, after a tick and after an arrival.

enter-had : (sc : Scenario) (me : Side) (i : ℕ) (o : Option Span) (s : Site) → length (had_of sc.sizes me (enter sc me i o s)) ≤ length (had_of sc.sizes me s)
enter-had sc me i None s = omega arith
enter-had sc me i (Some span) s = by (is_good sc me i span.place.frame span.place.slot)
  where
    by : (d : Bool) → length (had_of sc.sizes me (elim d as (λ _. Site) [ true ↦ await sc me i (says_in sc me i span) s | false ↦ stop s ])) ≤ length (had_of sc.sizes me s)
    by true = omega arith
    by false = omega arith

act-had-less : (sc : Scenario) (ports : List PortState) (me : Side) (i : ℕ) (x : Act) (s : Site) → length (had_of sc.sizes me (after_act sc ports me i x s)) ≤ length (had_of sc.sizes me s)
unfolding after_act proceed
act-had-less sc ports me i x s =
    let closed : Site = with_close me i x.core.state x.closed (record s { core = x.core }) in
    let begun : Site = with_epoch sc ports me i x.epoch closed in
    let go = enter-had sc me i (span_from sc.sizes sc.plan me begun.core.state begun.core.had) begun in
    let epoch = epoch-same x.epoch closed in
    let close = close-less x.closed in
    omega (arith, go, epoch, close)
  where
    epoch-same : (e : Option Epoch) (z : Site) → length (had_of sc.sizes me (with_epoch sc ports me i e z)) ≡ length (had_of sc.sizes me z)
    epoch-same None z = refl
    epoch-same (Some e) z = refl

    none : (r : Bool) → length (elim r as (λ _. List Coming) [ true ↦ [] | false ↦ [] ]) ≤ length (had_of sc.sizes me s)
    none true = omega arith
    none false = omega arith

    close-less : (c : Option Closed) → length (had_of sc.sizes me (with_close me i x.core.state c (record s { core = x.core }))) ≤ length (had_of sc.sizes me s)
    close-less None = omega arith
    close-less (Some c) = none s.runs

arrived-had : (sc : Scenario) (me : Side) (i n : ℕ) (c : Coming) (s : Site) → StandsAt n c s.coming
    → length (with_had sc.sizes me i (after_arrival sc me i n c s)).coming ≤ length (with_had sc.sizes me i s).coming
unfolding after_arrival
arrived-had sc me i n c s h =
    let less = length-without n c s.coming h in
    let new = length-append (had_of sc.sizes me (after_arrival sc me i n c s)) (remove s.coming n) in
    let old = length-append (had_of sc.sizes me s) s.coming in
    let one = by s.runs in
    omega (arith, less, new, old, one)
  where
    its : (d : Bool) → length (cond d (c ∷ []) []) ≤ 1
    its true = omega arith
    its false = omega arith

    by : (r : Bool) → length (elim r as (λ _. List Coming) [ true ↦ filter (is_known sc.sizes me) (s.got ++ c ∷ []) | false ↦ [] ])
        ≤ length (elim r as (λ _. List Coming) [ true ↦ filter (is_known sc.sizes me) s.got | false ↦ [] ]) + 1
    by true =
        let last : length (filter (is_known sc.sizes me) (s.got ++ c ∷ [])) ≡ length (filter (is_known sc.sizes me) s.got ++ cond (is_known sc.sizes me c) (c ∷ []) []) = ap length (filter-last (is_known sc.sizes me) s.got c) in
        let both = length-append (filter (is_known sc.sizes me) s.got) (cond (is_known sc.sizes me c) (c ∷ []) []) in
        let one = its (is_known sc.sizes me c) in
        omega (arith, last, both, one)
    by false = omega arith

pub had-keeps : {sc : _} → IsListed sc → IsLawful sc → (q : ℕ) → q < 3 → KeepsNodes sc q (had_at sc q)
had-keeps {sc} listed lawful q small = record {
  begins = λ hands b off now at sites t first. (its.begins hands b off now at sites t first, begins-had listed few first);
  waits = λ hands b off sent sites h. its.waits hands b off sent sites h.0;
  told = λ hands b off sent ports sites h. its.told hands b off sent ports sites h.0;
  tick = λ hands b off sent ports sites h me i frame s a t there.
      let x : Act = pass_and_tick sc ports me i a.tick s.core in
      let z : Site = after_act sc ports me i x s in
      let step = steps-at listed lawful off sites h.0 (h.1.sends me i) (h.1.enters me i) t (tick-small lawful its off sites h.0 t there) there (h.1.may me i s there) in
      let room = step.room in
      let less = act-had-less sc ports me i x s in
      let new = length-append (had_of sc.sizes me z) z.coming in
      let old = length-append (had_of sc.sizes me s) s.coming in (
        its.tick hands b off sent ports sites h.0 me i frame s a t there,
        changes-had few me i frame a.tick x.message (after_act sc ports me i x) step.sends step.enters h.1 there (omega (arith, room, less, new, old)) step.sent step.may,
      );
  arrival = λ hands b off sent sites h me i n c s moves there stands due first.
      let none : Option Message = None in
      let less = arrived-had sc me i n c s stands in (
        its.arrival hands b off sent sites h.0 me i n c s moves there stands due first,
        changes-had few me i 0 0 none (after_arrival sc me i n c) (h.1.sends me i) (h.1.enters me i) h.1 there (omega (arith, less)) (omega arith)
            (may-arrives few hands b me i (h.1.sends me i) (h.1.enters me i) n c s moves (λ a e. (due a e).before_tick) (h.1.may me i s there)),
      );
  goes = λ hands b off sent sites h. its.goes hands b off sent sites h.0;
  ahead = λ hands b off sent sites h. its.ahead hands b off sent sites h.0;
}
  where
    its : KeepsNodes sc q (nodes_at sc q)
    its = keeps lawful q small

    few : FewAt sc q
    few = few-on listed lawful q small
