-- Pending events are few: what pends at a node that runs is of the window in which it stands and of
-- the next.
use Rattle.std.proofs.Common.{◌≡◌, ℕ, ◌+◌, ◌≤◌, ◌&&◌, Bool, true, false, List, [], ◌∷◌, ◌++◌, length, length-append, map, inl, inr, refl, ap, sym, ◌∙◌, subst, arith, Option, Some, None, option_map, option_to_list, slice_get}
use Rattle.rb_base.specs.Nodes.{Side, other}
use Rattle.rb_rules.specs.{Book.{Each, of_kind}, declared.message.Message.Message, Entries.IsListed, Goodness.Scenario, Hearing.{Sending, coming_of}, Lawful.IsLawful, WorldStep.{Choice, Due, Site, Timed, World, after_act, at_node, choose, happens, pass_and_tick, sent_to, take, take_if_due, times_of, with_act, with_message, with_pending, world_after}, WorldStep.Pending.Tick, WorldStep.Choice.Take, WorldStep.Way.ByAnEvent}
use Rattle.rb_rules.proofs.Slots.{same_side_self}
use Rattle.rb_laws_events.specs.PendingEvents.{PendingEventsAreFewInLawful, TakesTick, most_coming, most_pending}
use Rattle.rb_laws_events.proofs.{FewKeeps.{few-keeps, few_at, rooms-few}, EveryWorld.{AnyWorld, after-more, any-after}, OneTake.StandsInRounds, TickRooms.has-room, FewThere.{few-where-it-stands, length-mapped}, WorldNodes.settle-sites, WorldStands.{IsDown, IsUp, node-itself, not-other, sent_by}, WorldTicks.{after_tick, get-after, kind-other, reached, reached-not}}

pub times-many : (s : Site) → length (times_of s) ≤ length s.coming + 1
times-many s = by s.ahead
  where
    by : (o : Option Timed) → length (option_to_list (option_map (λ a. a.time) o) ++ map (λ c. c.time) s.coming) ≤ length s.coming + 1
    by None = let same = length-mapped (λ c. c.time) s.coming in omega (arith, same)
    by (Some a) = let same = length-mapped (λ c. c.time) s.coming in omega (arith, same)

-- at each node no more is pending than its lane holds
abbrev pub HaveRoom : Scenario → Each Site → Type 0
HaveRoom sc sites = (me : Side) (i : ℕ) (s : Site) → slice_get (of_kind me sites) i ≡ Some s → length (times_of s) ≤ most_pending sc me

world-few : {sc : _} → IsListed sc → {w : _} → StandsInRounds sc w → HaveRoom sc w.sites
world-few {sc} listed {w} h me i s there = by s.runs refl
  where
    by : (b : Bool) → s.runs ≡ b → length (times_of s) ≤ most_pending sc me
    by true e =
        let up : IsUp sc w.hands (sent_by sc w.hands h.at w.sites) h.now me i (h.at me i) s = h.stands.sites.up me i s there e in
        let few = few-where-it-stands listed up.stands in
        let all = times-many s in
        omega (arith, few, all)
    by false e =
        let down : IsDown sc w.hands me i (h.at me i) s = h.stands.sites.down me i s there e in
        let none : length s.coming ≡ 0 = ap length down.coming in
        let all = times-many s in
        omega (arith, none, all)

-- A tick.

-- a message that comes to a node
pub received : (sc : Scenario) (me : Side) (i frame : ℕ) (x : Sending) (j : ℕ) (z : Site) → z.runs ≡ true
    → length (times_of (sent_to sc me i frame x (other me) j z)) ≡ length (times_of z) + 1
received sc me i frame x j z runs =
    ap (λ b. length (times_of (elim b as (λ _. Site) [ true ↦ more | false ↦ z ]))) (ap (λ b. b && z.runs) (same_side_self (other me)) ∙ runs)
    ∙ by z.ahead
  where
    more : Site
    more = record z { coming = z.coming ++ coming_of sc (other me) j i frame x ∷ [] }

    by : (o : Option Timed) → length (option_to_list (option_map (λ a. a.time) o) ++ map (λ c. c.time) (z.coming ++ coming_of sc (other me) j i frame x ∷ []))
        ≡ length (option_to_list (option_map (λ a. a.time) o) ++ map (λ c. c.time) z.coming) + 1
    by None =
        let new = length-mapped (λ c. c.time) (z.coming ++ coming_of sc (other me) j i frame x ∷ []) in
        let old = length-mapped (λ c. c.time) z.coming in
        let one = length-append z.coming (coming_of sc (other me) j i frame x ∷ []) in
        omega (arith, new, old, one)
    by (Some a) =
        let new = length-mapped (λ c. c.time) (z.coming ++ coming_of sc (other me) j i frame x ∷ []) in
        let old = length-mapped (λ c. c.time) z.coming in
        let one = length-append z.coming (coming_of sc (other me) j i frame x ∷ []) in
        omega (arith, new, old, one)

pub message-few : (sc : Scenario) (me : Side) (i frame k : ℕ) {o m : _} (change : Site → Site) (sites : Each Site)
    → HaveRoom sc (with_message sc me i frame k o (at_node me i change sites)) → o ≡ Some m → (j : ℕ) {z : _} → slice_get (of_kind (other me) sites) j ≡ Some z
    → z.runs ≡ true → length (times_of z) + 1 ≤ most_pending sc (other me)
message-few sc me i frame k {o} {m} change sites fits e j {z} there runs =
    let x : Sending = record { tick = k; message = m } in
    let after : slice_get (of_kind (other me) (with_message sc me i frame k o (at_node me i change sites))) j ≡ Some (sent_to sc me i frame x (other me) j z) =
    get-after sc me i frame k o change sites (other me) j ∙ ap (option_map (after_tick sc me i frame k o change (other me) j)) there
    ∙ ap (λ b. Some (reached sc me i frame k o (other me) j (elim b as (λ _. Site) [ true ↦ change z | false ↦ z ]))) (not-other me i j)
    ∙ ap (λ o. Some (reached sc me i frame k o (other me) j z)) e in
    let more = received sc me i frame x j z runs in
    let few = fits (other me) j (sent_to sc me i frame x (other me) j z) after in
    omega (arith, more, few)

pub own-few : (sc : Scenario) (me : Side) (i frame k : ℕ) (o : Option Message) (change : Site → Site) (sites : Each Site) {s : _}
    → HaveRoom sc (with_message sc me i frame k o (at_node me i change sites)) → slice_get (of_kind me sites) i ≡ Some s
    → length (times_of (change s)) ≤ most_pending sc me
own-few sc me i frame k o change sites {s} fits there =
    fits me i (change s)
    (get-after sc me i frame k o change sites me i ∙ ap (option_map (after_tick sc me i frame k o change me i)) there
    ∙ ap (λ b. Some (reached sc me i frame k o me i (elim b as (λ _. Site) [ true ↦ change s | false ↦ s ]))) (node-itself me i)
    ∙ ap Some (reached-not sc me i frame k o me i (change s) (ap (λ b. b && (change s).runs) (kind-other me))))

-- Worlds.

coming-few : (sc : Scenario) (sites : Each Site) → ((me : Side) (i : ℕ) (s : Site) → slice_get (of_kind me sites) i ≡ Some s → length s.coming ≤ most_coming sc me) → HaveRoom sc sites
coming-few sc sites h me i s there = let few = h me i s there in let all = times-many s in omega (arith, few, all)

all-few : {sc : _} → IsListed sc → IsLawful sc → (choices : List Choice) → HaveRoom sc (world_after sc choices).sites
all-few {sc} listed lawful choices = by (any-after (few_at sc) lawful (has-room lawful) (few-keeps listed lawful) choices)
  where
    w : World
    w = world_after sc choices

    by : AnyWorld sc (few_at sc) w → HaveRoom sc w.sites
    by (inl run) = world-few listed run.stands
    by (inr (inl off)) = coming-few sc w.sites (rooms-few sc off.stands.q w.hands off.stands.b off.stands.sent w.sites off.stands.nodes.nodes)
    by (inr (inr over)) = coming-few sc w.sites (rooms-few sc over.q w.hands over.b over.sent w.sites over.nodes)

-- a tick that is due happens in the world after one more choice
tick-few : {sc : _} → IsListed sc → IsLawful sc → (choices : List Choice) {me i k s x : _}
    → TakesTick sc (world_after sc choices) me i k s x
    → HaveRoom sc (with_message sc me i x.core.state.frame k x.message (at_node me i (after_act sc (world_after sc choices).ports me i x) (world_after sc choices).sites))
unfolding take happens with_act
tick-few {sc} listed lawful choices {me} {i} {k} {s} {x} h =
    let w : World = world_after sc choices in
    let d : Due = record { side = me; node = i; pending = Tick k } in
    let next : List Choice = choices ++ Take h.place ∷ [] in
    let after : HaveRoom sc (choose sc w (Take h.place)).sites =
    subst (λ (w : World). HaveRoom sc w.sites) (after-more sc choices (Take h.place)) (all-few listed lawful next) in
    let taken : HaveRoom sc (take_if_due sc w (Some d)).sites = subst (λ o. HaveRoom sc (take_if_due sc w o).sites) h.is_due after in
    let happened : HaveRoom sc (happens sc w d).sites = subst (HaveRoom sc) (settle-sites sc ByAnEvent 2 (happens sc w d)) taken in
    let acted : HaveRoom sc (with_act sc w me i k (pass_and_tick sc w.ports me i k s.core)).sites =
    subst (λ o. HaveRoom sc (elim o as (λ _. World) [ None ↦ w | Some s ↦ with_pending sc w me i s (Tick k) ]).sites) h.there happened in
    subst (λ x. HaveRoom sc (with_act sc w me i k x).sites) (sym h.does) acted

pub pending-few : PendingEventsAreFewInLawful
pending-few sc lawful listed choices =
    let w : World = world_after sc choices in
    record {
      now = all-few listed lawful choices;
      own = λ me i k s x h.
          own-few sc me i x.core.state.frame k x.message (after_act sc w.ports me i x) w.sites (tick-few listed lawful choices h) h.there;
      message = λ me i k s x m h e j z there runs.
          message-few sc me i x.core.state.frame k (after_act sc w.ports me i x) w.sites (tick-few listed lawful choices h) e j there runs;
    }
