-- For the law that events are rounds: an event in a world in which the run breaks off in a sync
-- slot. Until all that are good have told of the stage the book stays; then it is that of the
-- rounds, and has ended.
use Rattle.std.proofs.{Common.{◌≡◌, ℕ, ◌^◌, ◌<◌, ◌≤◌, ◌&&◌, ◌⊎◌, Bool, true, false, List, [], ◌∷◌, ◌++◌, length, refl, ap, sym, ◌∙◌, subst, arith, inl, inr, Option, Some, None, is_some, slice_get}, lemmas.Option.same_Some}
use Rattle.rb_base.specs.{Nodes.{Side, other}, declared.values.Place.Place}
use Rattle.rb_base.proofs.Plain.{true-false}
use Rattle.rb_rules.specs.{declared.message.Message.Message, Book.{Each, Row, of_kind}, Book.Milestone.Stage, Core.{Act, Core}, Goodness.Scenario, Hearing.{coming_of}, Lawful.IsLawful, Ports.HandIn, Rounds.{Moment, moment}, Slots.{count_of, same_side}, WorldStep.{Pending, Site, Timed, World, after_act, after_arrival, at_node, is_complete, pass_and_tick, row_for, same_place, times_of, with_act, with_message, with_pending}, WorldStep.Pending.{Tick, Arrival}}
use Rattle.rb_laws_agreement.proofs.FrameTimes.{good-clock}
use Rattle.rb_laws_events.proofs.{Behind.{pend-of, place-same}, BreakEnters.TickBreaks, BreakSites.HasStopped, BreakRooms.{acted-small, arrived-small, has-later}, PendingLists.StandsAt, BreakNodes.{BreaksAt, FirstOf, KeepsNodes, TellsStage, WaitsLast}, DueEvents.IsReady, Invariant.{entry_of, is_good_at}, MomentBooks.place_at, NodeActs.HasRoom, NodeEvents.{all-after, tick-after}, OneEvent.{moves-of, none-stands}, PortsKept.sync-word, RoundNodes.{moments-stand, slot_numbered}, SameHeard.Every, Settling.{RowOfRounds, RowsOfRounds}, Telling.reached-tells, ToldInOrder.one-changes, ToldSoFar.arrival-keeps, Untold.{HasNotTold, not-told}, WorldStands.AllPend, WorldTicks.{length-after, reached, reached-same}}

-- Nodes.

-- the nodes of a run that breaks off with stage q at moment b: a good one runs or has told its row,
-- and has ticks left
pub record NodesOff (sc : Scenario) (N : ℕ → List HandIn → ℕ → (Side → ℕ → ℕ → Bool) → Each Site → Type 0) (hands : List HandIn) (b q : ℕ) (sent : Side → ℕ → ℕ → Bool) (sites : Each Site) : Type 0 where
  pub nodes : N q hands b sent sites
  pub counts : (me : Side) → length (of_kind me sites) ≡ count_of me sc.sizes
  pub rows : RowsOfRounds sc hands sites
  pub live : (me : Side) (i : ℕ) (s : Site) → slice_get (of_kind me sites) i ≡ Some s → is_good_at sc (moment sc hands b) me i ≡ true → (s.runs ≡ true) ⊎ TellsStage sc hands b me i s
  pub small : (me : Side) (i : ℕ) (s : Site) → slice_get (of_kind me sites) i ≡ Some s → is_good_at sc (moment sc hands b) me i ≡ true → s.core.had < 2 ^ 31

-- a message on its way changes no core
pub reached-core : (sc : Scenario) (me : Side) (i frame k : ℕ) (m : Option Message) (side : Side) (j : ℕ) (s : Site) → (reached sc me i frame k m side j s).core ≡ s.core
reached-core sc me i frame k None side j s = refl
reached-core sc me i frame k (Some m) side j s = by (same_side side (other me) && s.runs)
  where
    by : (b : Bool) → (elim b as (λ _. Site) [
      | true ↦ record s { coming = s.coming ++ coming_of sc side j i frame (record { tick = k; message = m }) ∷ [] }
      | false ↦ s
    ]).core ≡ s.core
    by true = refl
    by false = refl

tells-still : {sc : Scenario} {hands : List HandIn} {b : ℕ} {me : Side} {i : ℕ} {s : Site} (z : Site) → z.row ≡ s.row → TellsStage sc hands b me i s → TellsStage sc hands b me i z
tells-still z same h = record { row = h.row; is = same ∙ h.is; place = h.place; rounds = h.rounds }

-- nodes of a run that breaks off stay so if one changes and a message is on its way
changes-off : {sc : _} (N : ℕ → List HandIn → ℕ → (Side → ℕ → ℕ → Bool) → Each Site → Type 0) {hands b q sent sites : _}
    → (me : Side) (i frame k : ℕ) (m : Option Message) (change : Site → Site) {s : _} → slice_get (of_kind me sites) i ≡ Some s
    → N q hands b sent (with_message sc me i frame k m (at_node me i change sites)) → ((row : Row) → (change s).row ≡ Some row → RowOfRounds sc hands me i row)
    → (is_good_at sc (moment sc hands b) me i ≡ true → ((change s).runs ≡ true) ⊎ TellsStage sc hands b me i (change s)) → ((change s).core.had < 2 ^ 31)
    → NodesOff sc N hands b q sent sites → NodesOff sc N hands b q sent (with_message sc me i frame k m (at_node me i change sites))
unfolding RowsOfRounds
changes-off {sc} N {hands} {b} {sites} me i frame k m change there nodes row live small h = record {
  nodes = nodes;
  counts = λ side. length-after sc me i frame k m change sites side ∙ h.counts side;
  rows = λ side j z its e told.
      one-changes (λ side j r z. (row : Row) → z.row ≡ Some row → RowOfRounds sc hands side j row) sc (λ side j. 0) sites me i frame k 0 m change
      (λ side j r z was row e. was row (sym (reached-tells sc me i frame k m side j z).0 ∙ e)) there row (λ side j z other e row told. h.rows side j z row e told) side j z e its told;
  live = one-changes (λ side j r z. is_good_at sc (moment sc hands b) side j ≡ true → (z.runs ≡ true) ⊎ TellsStage sc hands b side j z) sc (λ side j. 0) sites me i frame k 0 m change
      (λ side j r z was good. elim (was good) [
        | inl runs ↦ inl ((reached-same sc me i frame k m side j z).runs ∙ runs)
        | inr tells ↦ inr (tells-still (reached sc me i frame k m side j z) (reached-tells sc me i frame k m side j z).0 tells)
      ])
      there live (λ side j z other e good. h.live side j z e good);
  small = one-changes (λ side j r z. is_good_at sc (moment sc hands b) side j ≡ true → z.core.had < 2 ^ 31) sc (λ side j. 0) sites me i frame k 0 m change
      (λ side j r z was good. subst (λ (c : Core). c.had < 2 ^ 31) (sym (reached-core sc me i frame k m side j z)) (was good))
      there (λ good. small) (λ side j z other e good. h.small side j z e good);
}

-- What has not been told.

tells-it : {sc hands b me i s : _} → TellsStage sc hands b me i s → is_some (row_for (place_at sc.sizes (moment sc hands b)) s.row) ≡ true
tells-it {sc} {hands} {b} h =
    let place : Place = place_at sc.sizes (moment sc hands b) in
    ap (λ o. is_some (row_for place o)) h.is
    ∙ ap (λ p. is_some (elim (same_place p place) as (λ _. Option Row) [ true ↦ Some h.row | false ↦ None ])) h.place
    ∙ ap (λ t. is_some (elim t as (λ _. Option Row) [ true ↦ Some h.row | false ↦ None ])) (place-same place)

-- the stage is not complete: a good node waits for its last tick
pub record WaitsYet (sc : Scenario) (hands : List HandIn) (b : ℕ) (sites : Each Site) : Type 0 where
  pub me : Side
  pub i : ℕ
  pub s : Site
  pub there : slice_get (of_kind me sites) i ≡ Some s
  pub good : is_good_at sc (moment sc hands b) me i ≡ true
  pub waits : WaitsLast sc hands b me i s

pub waits-yet : {sc : _} (N : ℕ → List HandIn → ℕ → (Side → ℕ → ℕ → Bool) → Each Site → Type 0) {hands b q sent sites : _}
    → KeepsNodes sc q (N q) → BreaksAt sc hands b q → NodesOff sc N hands b q sent sites → is_complete sc sites (Stage (place_at sc.sizes (moment sc hands b))) ≡ false → WaitsYet sc hands b sites
waits-yet {sc} N {hands} {b} {sent} {sites} keeps off h open_still =
    let place : Place = place_at sc.sizes (moment sc hands b) in
    let found : HasNotTold sc place.frame place.slot (λ s. row_for place s.row) sites = not-told sc place.frame place.slot (λ (s : Site). row_for place s.row) sites open_still in
    let no : TellsStage sc hands b found.me found.i found.s → WaitsLast sc hands b found.me found.i found.s =
    λ tells. true-false (sym (tells-it tells) ∙ found.untold) in
    record {
      me = found.me;
      i = found.i;
      s = found.s;
      there = found.there;
      good = found.good;
      waits = elim (h.live found.me found.i found.s found.there found.good) [
        | inr tells ↦ no tells
        | inl runs ↦ elim (keeps.waits hands b off sent sites h.nodes found.me found.i found.s found.there runs found.good) [
          | inl waits ↦ waits
          | inr tells ↦ no tells
        ]
      ];
    }

pub first-of : {sc hands b : _} (t : ℕ) {sites : _} → WaitsYet sc hands b sites → AllPend t sites → FirstOf sc hands b t
first-of {sc} {hands} {b} t {sites} h pend =
    let w : WaitsLast sc hands b h.me h.i h.s = h.waits in
    let le : t ≤ w.a.time = tick-after t h.s.ahead h.s.coming w.pends (pend-of t sites pend h.me h.i h.s h.there) in
    let time = w.time in
    record { you = h.me; j = h.i; yours = w.st; there = w.state; good = h.good; first = omega (arith, le, time) }

-- An event.

rows-of : (sc : Scenario) (hands : List HandIn) (sites : Each Site) → RowsOfRounds sc hands sites → (me : Side) (i : ℕ) (s : Site) (row : Row) → slice_get (of_kind me sites) i ≡ Some s
    → s.row ≡ Some row → RowOfRounds sc hands me i row
unfolding RowsOfRounds
rows-of sc hands sites h = h

-- what every node has sent of the stage
abbrev pub AllSent : Scenario → List HandIn → ℕ → (Side → ℕ → ℕ → Bool) → Type 0
AllSent sc hands b sent =
    (me : Side) (n : ℕ) → is_good_at sc (moment sc hands b) (other me) n ≡ true → (i : ℕ) → (sent (other me) n b ≡ true) ⊎ (entry_of sc (moment sc hands b) me i n ≡ [])

pub pending-off : {sc : _} (N : ℕ → List HandIn → ℕ → (Side → ℕ → ℕ → Bool) → Each Site → Type 0) {b q sent : _} (w : World) (me : Side) (i : ℕ) {t s : _} (p : Pending)
    → IsLawful sc → HasRoom sc.plan → KeepsNodes sc q (N q) → BreaksAt sc w.hands b q → AllSent sc w.hands b sent → NodesOff sc N w.hands b q sent w.sites → slice_get (of_kind me w.sites) i ≡ Some s
    → IsReady t s p → AllPend t w.sites → FirstOf sc w.hands b t
    → NodesOff sc N w.hands b q sent (with_pending sc w me i s p).sites × ((with_pending sc w me i s p).hands ≡ w.hands)
unfolding with_act
pending-off {sc} N {b} {q} {sent} w me i {t} {s} (Tick k) lawful room keeps off all_sent h there ready pend first =
    let a : Timed = ready.0 in
    let time : a.time ≡ t = ready.1.1.1.0 in
    let t_is : TickBreaks sc w.hands sent w.ports b me i s a = record {
      pend = ready.1.0;
      later = subst (λ t. Every (λ c. t < c.time) s.coming) (sym time) ready.1.1.1.1;
      you = first.you;
      j = first.j;
      yours = first.yours;
      there = first.there;
      good = first.good;
      first = let le = first.first in omega (arith, time, le);
      frame = λ st state good. ((moments-stand sc w.hands b room.ticks).stands me i st state good).frame;
      words = λ st state. sync-word sc w.ports (moment sc w.hands b) me i st q off.small off.window;
      all_sent = λ n good. all_sent me n good i;
    } in
    let ahead = keeps.ahead w.hands b off sent w.sites h.nodes me i s there a ready.1.0 in
    let x : Act = pass_and_tick sc w.ports me i a.tick s.core in
    let told : TellsStage sc w.hands b me i (after_act sc w.ports me i x s) = keeps.told w.hands b off sent w.ports w.sites h.nodes me i s a t_is there in
    let after : NodesOff sc N w.hands b q sent (with_act sc w me i a.tick x).sites =
    changes-off N me i x.core.state.frame a.tick x.message (after_act sc w.ports me i x) there
    (keeps.tick w.hands b off sent w.ports w.sites h.nodes me i x.core.state.frame s a t_is there)
    (λ row e. subst (RowOfRounds sc w.hands me i) (same_Some told.row row (sym told.is ∙ e)) told.rounds) (λ good. inr told)
    (acted-small w.ports a.tick s (has-later lawful off (record { you = first.you; j = first.j; yours = first.yours; there = first.there; good = first.good; first = let le = first.first in omega (arith, time, le, ahead.1) }) me i (goes-good ready.1.0)) ahead.0) h in
    (subst (λ k. NodesOff sc N w.hands b q sent (with_act sc w me i k (pass_and_tick sc w.ports me i k s.core)).sites) ready.1.1.0 after, refl)
  where
    none-some : {P : Type 0} (a : Timed) (o : Option Timed) → o ≡ None → o ≡ Some a → P
    none-some a None e f = cc
    none-some a (Some b) e f = cc

    goes-good : {a : Timed} → s.ahead ≡ Some a → is_good_at sc (moment sc w.hands b) me i ≡ true
    goes-good {a = a} e = elim (keeps.goes w.hands b off sent w.sites h.nodes me i s there) [ inl stopped ↦ none-some a s.ahead stopped.ahead e | inr good ↦ good ]
pending-off {sc} N {b} {sent} w me i {t} {s} (Arrival n c) lawful room keeps off all_sent h there ready pend first =
    let none : Option Message = None in
    let own : Every (λ u. c.time ≤ u) (times_of s) = pend-of c.time w.sites (subst (λ t. AllPend t w.sites) (sym ready.1) pend) me i s there in
    let same = arrival-keeps sc me i n c s in
    let m : Moment = moment sc w.hands b in (
      changes-off N me i 0 0 none (after_arrival sc me i n c) there
          (keeps.arrival w.hands b off sent w.sites h.nodes me i n c s (λ good. moves-of lawful me i (good-clock lawful me i m.frame (slot_numbered sc.sizes m.window) good)) there ready.0
          (λ a e. record { at = ready.0; least = all-after c.time s.ahead s.coming own; before_tick = tick-after c.time s.ahead s.coming e own })
          (subst (FirstOf sc w.hands b) (sym ready.1) first))
          (λ row e. rows-of sc w.hands w.sites h.rows me i s row there (sym same.0 ∙ e)) (λ good. elim (h.live me i s there good) [
            | inl runs ↦ inl (same.1.1.1 ∙ runs)
            | inr tells ↦ inr (tells-still (after_arrival sc me i n c s) same.0 tells)
          ]) (small ready.0 (subst (FirstOf sc w.hands b) (sym ready.1) first) (keeps.goes w.hands b off sent w.sites h.nodes me i s there)) h,
      refl,
    )
  where
    small : StandsAt n c s.coming → FirstOf sc w.hands b c.time → HasStopped s ⊎ (is_good_at sc (moment sc w.hands b) me i ≡ true) → (after_arrival sc me i n c s).core.had < 2 ^ 31
    small at first (inl stopped) = absurd (none-stands n c s.coming stopped.coming at)
    small at first (inr good) =
        let m : Moment = moment sc w.hands b in
        arrived-small n c s (moves-of lawful me i (good-clock lawful me i m.frame (slot_numbered sc.sizes m.window) good))
        (has-later lawful off first me i good) (h.small me i s there good)
