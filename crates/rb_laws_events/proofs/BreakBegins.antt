-- For the law that events are rounds if the premise on faults is broken in a sync slot: when the
-- first node closes the stage with which the run breaks off, all that run wait for their last tick
-- of it, and have sent what they send in it.
use Rattle.std.proofs.{Common.{◌≡◌, ℕ, ◌+◌, ◌*◌, ◌<◌, ◌≤◌, ◌==◌, ◌&&◌, ◌||◌, ◌⊎◌, nat_lt, Bool, true, false, List, [], append-nil, refl, ap, sym, ◌∙◌, subst, arith, inl, inr, Option, Some, None, option_and_then, option_map, option_to_list, slice_get}, lemmas.Bool.Decides.nat_tests}
use Rattle.rb_base.specs.{Nodes.{Side, other}, Sizes.sync_slot_of}
use Rattle.rb_rules.specs.{Book.{Each, of_kind}, Clock.time_of, Goodness.{Scenario, clock_of}, Hearing.{Sending, coming_of}, Lawful.IsLawful, Moments.IsRunning, NodeState.NodeState, Ports.HandIn, Rounds.{Moment, moment}, WorldStep.Site}
use Rattle.rb_laws_events.proofs.{Behind.pend-of, BreakEnters.{sent-then, waits-then}, BreakSites.{Course, NodesBreak, SiteBreaks, WaitsDeaf, WaitsHearing}, Invariant.{entry_of, has_sent, is_good_at, last_tick, sending_of}, NodeActs.HasRoom, NodeEvents.tick-after, WorldStands.{AllPend, IsDown, IsUp, SitesStand, ahead_in, sent_by}}

-- moment `p` has the first close of a stage: all nodes that run are in it, one of them at its last
-- tick, and nothing pends before
pub record FirstCloses (sc : Scenario) (hands : List HandIn) (now : ℕ) (at : Side → ℕ → ℕ) (sites : Each Site) (p t : ℕ) : Type 0 where
  pub stand : SitesStand sc hands now at sites
  pub together : (side : Side) (j : ℕ) (z : Site) → slice_get (of_kind side sites) j ≡ Some z → z.runs ≡ true → at side j ≡ p
  pub me : Side
  pub i : ℕ
  pub st : NodeState
  pub there : slice_get (of_kind me (moment sc hands p).nodes) i ≡ Some st
  pub good : is_good_at sc (moment sc hands p) me i ≡ true
  pub time : t ≡ time_of (clock_of sc me i) (last_tick sc (moment sc hands p) me st)
  pub pend : AllPend t sites

-- each node that runs stands in moment `p`
up-there : {sc hands now at sites p t : _} → FirstCloses sc hands now at sites p t → (side : Side) (j : ℕ) {z : _}
    → slice_get (of_kind side sites) j ≡ Some z → z.runs ≡ true → IsUp sc hands (sent_by sc hands at sites) now side j p z
up-there {sc} {hands} {now} {at} {sites} {p} h side j {z} there runs =
    subst (λ p. IsUp sc hands (sent_by sc hands at sites) now side j p z) (h.together side j z there runs) (h.stand.up side j z there runs)

pub break-begins : {sc hands : _} (C : Course) → IsLawful sc → HasRoom sc.plan → {now at sites p : _} (q : ℕ) {t : ℕ} → IsRunning (moment sc hands p) → q < 3
    → (moment sc hands p).window ≡ 3 * sync_slot_of sc.sizes + q → FirstCloses sc hands now at sites p t → NodesBreak sc C hands p (sent_by sc hands at sites) sites
break-begins {sc} {hands} C lawful room {now} {at} {sites} {p} q {t} running small window h side j z there = by z.runs refl
  where
    of-two : WaitsHearing sc hands (sent_by sc hands at sites) now side j p z ⊎ WaitsDeaf sc hands side j p z → SiteBreaks sc hands C (sent_by sc hands at sites) p side j z
    of-two (inl w) =
        inr (inl (record { now = now; mine = z.coming; more = []; is = sym (append-nil z.coming); waits = record { st = w.st; a = w.a; stands = w.stands; hears = w.hears; last = w.last }; later = tt }))
    of-two (inr w) = inr (inr (inl w))

    by : (b : Bool) → z.runs ≡ b → SiteBreaks sc hands C (sent_by sc hands at sites) p side j z
    by true e =
        let up : IsUp sc hands (sent_by sc hands at sites) now side j p z = up-there h side j there e in
        let le : t ≤ up.a.time = tick-after t z.ahead z.coming up.stands.receives.pends (pend-of t sites h.pend side j z there) in
        of-two (waits-then lawful room q running small window up.stands h.me h.i h.there h.good (let time = h.time in omega (arith, le, time)))
    by false e =
        let down : IsDown sc hands side j (at side j) z = h.stand.down side j z there e in
        inl (record { runs = e; ahead = down.ahead; coming = down.coming })

-- what a node that runs sends in the stage has gone out
pub all-have-sent : {sc hands : _} → IsLawful sc → {now at sites p : _} (q : ℕ) {t : ℕ} → IsRunning (moment sc hands p) → q < 3
    → (moment sc hands p).window ≡ 3 * sync_slot_of sc.sizes + q → FirstCloses sc hands now at sites p t → (me : Side) (i j : ℕ) {z : _} → slice_get (of_kind (other me) sites) j ≡ Some z → z.runs ≡ true
    → (sent_by sc hands at sites (other me) j p ≡ true) ⊎ (entry_of sc (moment sc hands p) me i j ≡ [])
all-have-sent {sc} {hands} lawful {now} {at} {sites} {p} q {t} running small window h me i j {z} there runs = by (sending_of sc m side j) refl
  where
    m : Moment
    m = moment sc hands p

    side : Side
    side = other me

    up : IsUp sc hands (sent_by sc hands at sites) now side j p z
    up = up-there h side j there runs

    le : t ≤ up.a.time
    le = tick-after t z.ahead z.coming up.stands.receives.pends (pend-of t sites h.pend side j z there)

    past : (a b p r : ℕ) → a < b → r ≡ p → (nat_lt p r || ((p == r) && nat_lt a b)) ≡ true
    past a b p r lt e = grind (arith, nat_tests)

    by : (o : Option Sending) → sending_of sc m side j ≡ o → (sent_by sc hands at sites side j p ≡ true) ⊎ (entry_of sc m me i j ≡ [])
    by None e = inr (ap (λ o. option_to_list (option_map (coming_of sc me i j m.frame) o)) e)
    by (Some s) e =
        let lt : s.tick < up.a.tick =
        sent-then hands lawful p q running small window side j up.stands.state up.stands.good h.me h.i h.there h.good up.a up.stands.receives.at_time (let time = h.time in omega (arith, le, time)) e in
        let pend : ahead_in (of_kind side sites) j ≡ Some up.a = ap (option_and_then (λ (s : Site). s.ahead)) there ∙ up.stands.receives.pends in
        inl (ap (λ o. has_sent o (at side j) (ahead_in (of_kind side sites) j) p) e ∙ ap (λ o. has_sent (Some s) (at side j) o p) pend
        ∙ past s.tick up.a.tick p (at side j) lt (h.together side j z there runs))
