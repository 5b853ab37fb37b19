-- What is pending behind is few.
use Rattle.std.proofs.{Common.{◌≡◌, ℕ, ◌+◌, ◌≤◌, Bool, true, false, List, [], ◌∷◌, cond, filter, length, length-append, refl, ap, ◌∙◌, arith, inl, inr, Some, option_map, slice_get}, lemmas.Bool.lt-ltb}
use Rattle.rb_base.specs.{Nodes.{Side, other}, Sizes.Sizes}
use Rattle.rb_rules.specs.{Book.of_kind, Entries.IsListed, Goodness.Scenario, Hearing.Coming, Lawful.IsLawful, Slots.count_of, WorldStep.{Choice, Site, World, after_arrival, times_of, world_after}}
use Rattle.rb_rules.proofs.WindowNumbers.{get-each}
use Rattle.rb_laws_events.specs.PendingEvents.{most_coming, most_pending}
use Rattle.rb_laws_events.proofs.{EveryWorld.{AnyWorld, any-after}, FewPending.times-many, OneTake.StandsInRounds, TickRooms.has-room, WorldNodes.Known, WorldStands.{IsUp, sent_by}}
use Rattle.rb_laws_sweeps.specs.{Room.PendingBehindIsFew, Sweeping.{first_of, swept}}
use Rattle.rb_laws_sweeps.proofs.{Firsts.{first-stands, length-without}, GoesOn.sweep_to, GotKnown.worlds-got, HadOff.{had-keeps, had_at, rooms-had}, HadThere.{had-where-it-stands, had_of, is_known}, Sweeps.{sweep-of, sweep-stays, sweep-takes, sweeps-keep}}

-- a sweep loses nothing
arrival-many : (sc : Scenario) (me : Side) (i : ℕ) (s : Site) {p : _} → first_of s.coming ≡ Some p
    → length (after_arrival sc me i p.place p.coming s).coming + length (after_arrival sc me i p.place p.coming s).got ≡ length s.coming + length s.got
unfolding after_arrival
arrival-many sc me i s {p} e =
    let less = length-without p.place p.coming s.coming (first-stands s.coming p e) in
    let more = length-append s.got (p.coming ∷ []) in
    omega (arith, less, more)

sweep-many : (sc : Scenario) (me : Side) (i until : ℕ) (s : Site) → length (swept sc me i until s).coming + length (swept sc me i until s).got ≡ length s.coming + length s.got
sweep-many sc me i until s =
    sweep-of sc me i until (λ s. length (swept sc me i until s).coming + length (swept sc me i until s).got ≡ length s.coming + length s.got)
    (λ s late. ap (λ (z : Site). length z.coming + length z.got) (sweep-stays sc me i until s late))
    (λ s p e lt rest. ap (λ (z : Site). length z.coming + length z.got) (sweep-takes sc me i until s p e lt) ∙ rest ∙ arrival-many sc me i s e) s

all-known : (sizes : Sizes) (me : Side) (cs : List Coming) → Known sizes me cs → filter (is_known sizes me) cs ≡ cs
all-known sizes me [] h = refl
all-known sizes me (c ∷ cs) h =
    ap (λ b. cond b (c ∷ filter (is_known sizes me) cs) (filter (is_known sizes me) cs)) (lt-ltb c.from (count_of (other me) sizes) h.0) ∙ ap (λ l. c ∷ l) (all-known sizes me cs h.1)

-- in a world that was reached what came and what comes are few together at a node that runs
reached-few : {sc : _} → IsListed sc → IsLawful sc → (choices : List Choice) (me : Side) (i : ℕ) {s : _} → slice_get (of_kind me (world_after sc choices).sites) i ≡ Some s → s.runs ≡ true
    → length s.coming + length s.got ≤ most_coming sc me
reached-few {sc} listed lawful choices me i {s} there runs = by (any-after (had_at sc) lawful (has-room lawful) (had-keeps listed lawful) choices)
  where
    w : World
    w = world_after sc choices

    known : length (filter (is_known sc.sizes me) s.got) ≡ length s.got
    known = ap length (all-known sc.sizes me s.got (worlds-got sc choices me i s there))

    had : length (had_of sc.sizes me s) ≡ length s.got
    had = ap (λ r. length (elim r as (λ _. List Coming) [ true ↦ filter (is_known sc.sizes me) s.got | false ↦ [] ])) runs ∙ known

    by : AnyWorld sc (had_at sc) w → length s.coming + length s.got ≤ most_coming sc me
    by (inl run) =
        let h : StandsInRounds sc w = run.stands in
        let up : IsUp sc w.hands (sent_by sc w.hands h.at w.sites) h.now me i (h.at me i) s = h.stands.sites.up me i s there runs in
        let few = had-where-it-stands listed up.stands in
        omega (arith, few, known)
    by (inr (inl off)) = let few = rooms-had sc off.stands.q w.hands off.stands.b off.stands.sent w.sites off.stands.nodes.nodes me i there in omega (arith, few, had)
    by (inr (inr over)) = let few = rooms-had sc over.q w.hands over.b over.sent w.sites over.nodes me i there in omega (arith, few, had)

pub behind-few : PendingBehindIsFew
behind-few sc lawful listed choices until w is stopped me i s there = by s.runs refl
  where
    z : Site
    z = swept sc me i (until me i) s

    z-there : slice_get (of_kind me (world_after sc choices).sites) i ≡ Some z
    z-there = ap (λ (x : World). slice_get (of_kind me x.sites) i) is ∙ get-each (sweep_to sc until) w.sites me i ∙ ap (option_map (sweep_to sc until me i)) there

    by : (r : Bool) → s.runs ≡ r → length (times_of s) ≤ most_pending sc me
    by true e =
        let runs : z.runs ≡ true = ap (λ (s : Site). s.runs) (sweeps-keep sc me i (until me i) s).is ∙ e in
        let few = reached-few listed lawful choices me i z-there runs in
        let same = sweep-many sc me i (until me i) s in
        let all = times-many s in
        omega (arith, few, same, all)
    by false e =
        let none : length s.coming ≡ 0 = ap length (stopped me i s there e).1 in
        let all = times-many s in
        omega (arith, none, all)
