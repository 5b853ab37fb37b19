-- A listener that starts before the calls of a frame decides soon after those of the next one.
use Rattle.std.proofs.Common.{◌≡◌, ◌⊎◌, ℕ, zero, suc, ◌+◌, ◌-◌, ◌*◌, ◌%◌, ◌<◌, ◌≤◌, true, List, inl, inr, refl, ◌∙◌, subst, arith}
use Rattle.rb_base.specs.Sizes.{sync_slot_of}
use Rattle.rb_rules.specs.{Clock.{IsStamp, time_of}, Goodness.Scenario, Lawful.IsLawful, Ports.HandIn, Rounds.{moment, windows_in}}
use Rattle.rb_rules.proofs.Stamps.{stamp_le}
use Rattle.rb_laws_agreement.proofs.Places.{running_earlier}
use Rattle.rb_laws_synchrony.proofs.Times.{lawful_fits, plan_fits}
use Rattle.rb_listen.specs.{Listening.is_deciding, Passes.reach_of, declared.search.Search.Search}
use Rattle.rb_listen.proofs.Searches.{Stays}
use Rattle.rb_laws_listener_learns.specs.{Deciding.{CallsComeAfter, HasDecided}, Ears.{Ear, HearsTheRun, IsEar, coming_to, listening_at}, Laws.ListenersDecide, Seeking.HasCalls}
use Rattle.rb_laws_listener_learns.proofs.{Apart.come-apart, Checks.{StaysAt, decides-or-next, kept-stays}, Decides.{decision-of, not-too-late}, Fresh.calls-apart, LastCalls.{IsLastCall, call-place, call_moment, last-call}, Learning.{IsFresh, kept-fresh}, OnTrack.{IsOnTrack, kept-on-track, number-after}, Onward.{DecidesIn, IsKeptOn, SearchesAt, at-first, on-at}, Walks.IsKept}
use Rattle.rb_listen.specs.Listening as now

-- what is kept before the last call of the first frame has come
record IsOnWay (sc : Scenario) (hands : List HandIn) (ear : Ear) (k n : ℕ) (s : Search) : Type 0 where
  pub fresh : IsFresh sc hands ear k n s
  pub stays : Stays k s

kept-on-way : {sc hands : _} → IsLawful sc → {ear : _} → IsEar sc ear → HearsTheRun sc hands ear → IsKeptOn sc ear (IsOnWay sc hands ear)
kept-on-way {sc} {hands} law {ear} is run = record {
  heard = λ k n c in_time there s h. record { fresh = fresh.heard k n c in_time there s h.fresh; stays = stays.heard k n c in_time there s h.stays };
  later = λ k n s in_time whole h on. record { fresh = fresh.later k n s in_time whole h.fresh on; stays = stays.later k n s in_time whole h.stays on };
  lasts = λ k n s in_time h. fresh.lasts k n s in_time h.fresh;
}
  where
    fresh : IsKept sc ear (IsFresh sc hands ear)
    fresh = kept-fresh law is run

    stays : IsKept sc ear StaysAt
    stays = kept-stays is

past-start : {clock time : _} (at : ℕ) → IsStamp clock time at → time_of clock 0 < time → 1 ≤ at
past-start zero is less = absurd (omega (arith, is.reached, less))
past-start (suc at) is less = omega arith

-- the last calls of a frame and of the next one, the first of which come after the start
record AreLastCalls (sc : Scenario) (hands : List HandIn) (ear : Ear) (frame : ℕ) : Type 0 where
  pub first : ℕ
  pub firsts : IsLastCall sc hands ear frame first
  pub second : ℕ
  pub seconds : IsLastCall sc hands ear (frame + 1) second

last-calls : {sc hands : _} → IsLawful sc → {ear : _} → IsEar sc ear → HearsTheRun sc hands ear → {frame : ℕ} → CallsComeAfter sc hands ear frame 0
    → HasCalls sc hands (frame + 1) → AreLastCalls sc hands ear frame
last-calls {sc} {hands} law {ear} is run {frame} after called = record { first = a.0; firsts = a.1; second = b.0; seconds = b.1 }
  where
    rows : (frame + 1) * (windows_in sc.sizes + 1) ≡ frame * (windows_in sc.sizes + 1) + (windows_in sc.sizes + 1)
    rows = omega arith

    before : HasCalls sc hands frame
    before = running_earlier sc hands (call_moment sc frame) (call_moment sc (frame + 1)) (omega (arith, rows)) called

    here : ((moment sc hands (call_moment sc frame)).frame ≡ frame) × ((moment sc hands (call_moment sc frame)).window ≡ 3 * sync_slot_of sc.sizes + 1)
    here = call-place hands law before

    there : ((moment sc hands (call_moment sc (frame + 1))).frame ≡ frame + 1) × ((moment sc hands (call_moment sc (frame + 1))).window ≡ 3 * sync_slot_of sc.sizes + 1)
    there = call-place hands law called

    a : (last : ℕ) × IsLastCall sc hands ear frame last
    a =
        last-call law is run before (λ j at good too.
        past-start at too.stamped (after (call_moment sc frame) j too.calls.sending here.0 here.1 too.calls.sent))

    b : (last : ℕ) × IsLastCall sc hands ear (frame + 1) last
    b =
        last-call law is run called (λ j at good too.
        let apart : a.0 + reach_of sc.plan < at =
        come-apart sc hands law ear is a.1.call.n (call_moment sc (frame + 1)) a.1.i j a.1.call.sending too.calls.sending a.1.call.window_is there.1 (omega (arith, a.1.frame_is, there.0))
        a.1.call.sent too.calls.sent a.0 at a.1.call.some a.1.call.stamped too.stamped in
        omega (arith, apart))

on-to : {sc ear : _} (P : ℕ → ℕ → Search → Type 0) → IsKeptOn sc ear P → {k : ℕ} (end : ℕ) → k ≤ end → end < ear.ticks → SearchesAt sc ear P k
    → DecidesIn sc ear P end ⊎ SearchesAt sc ear P end
on-to {sc} {ear} P kept {k} end le in_time at =
    let e : end - k + k ≡ end = omega (arith, le) in
    subst (λ t. DecidesIn sc ear P t ⊎ SearchesAt sc ear P t) e (on-at P kept (end - k) (omega (arith, le, in_time)) at)

pub listeners-decide : ListenersDecide
listeners-decide sc hands law ear is run frame after called last by in_time =
    first-leg
    (on-to (IsOnWay sc hands ear) on_way (c.first + reach_of sc.plan) (omega arith) (omega (arith, apart, come, in_time))
    (at-first (IsOnWay sc hands ear) on_way (omega (arith, in_time)) (record { fresh = (kept-fresh law is run).first; stays = (kept-stays is).first })))
  where
    c : AreLastCalls sc hands ear frame
    c = last-calls law is run after called

    some_reach : 1 ≤ reach_of sc.plan
    some_reach = let fit : plan_fits sc = lawful_fits law in omega (arith, fit.in_v, fit.in_z)

    apart : c.first + reach_of sc.plan < c.second
    apart =
        calls-apart law is c.firsts.call c.seconds.call
        (omega (arith, c.firsts.frame_is, c.seconds.frame_is))

    come : c.second ≤ last
    come =
        stamp_le ear.clock (coming_to sc ear c.seconds.i (moment sc hands c.seconds.call.n).frame c.seconds.call.sending).time c.second last c.seconds.call.stamped
        (by c.seconds.call.n c.seconds.i c.seconds.call.sending c.seconds.frame_is c.seconds.call.window_is c.seconds.call.sent)

    on_way : IsKeptOn sc ear (IsOnWay sc hands ear)
    on_way = kept-on-way law is run

    finish : (k n : ℕ) (s : Search) → IsFresh sc hands ear k n s → listening_at sc ear k ≡ now.Searching s → is_deciding s ≡ true → k ≤ c.second + reach_of sc.plan
        → HasDecided sc hands ear (frame + 1) (last + reach_of sc.plan)
    finish k n s fresh at deciding le =
        let d = decision-of law fresh at deciding (omega (arith, le, come, in_time)) in
        let early : (moment sc hands d.1.1.0.call.n).frame ≤ frame + 1 = not-too-late law is c.seconds d.1.1.0 le in
        record { learned = d.0; tick = k; search = s; decides = d.1.0; soon = omega (arith, early, d.1.1.1); in_time = omega (arith, le, come) }

    second-leg : DecidesIn sc ear (IsOnTrack sc hands ear frame c.first c.second) (c.second + reach_of sc.plan) ⊎ SearchesAt sc ear (IsOnTrack sc hands ear frame c.first c.second) (c.second + reach_of sc.plan)
        → HasDecided sc hands ear (frame + 1) (last + reach_of sc.plan)
    second-leg (inl x) = finish x.tick x.at.n x.at.s x.at.holds.fresh x.at.is x.deciding (omega (arith, x.before))
    second-leg (inr x) =
        elim (decides-or-next law is run c.seconds refl (omega (arith, come, in_time)) x.whole x.holds.fresh x.holds.stays) [
          | inl deciding ↦ finish (c.second + reach_of sc.plan) x.n x.s x.holds.fresh x.is deciding.0 (omega arith)
          | inr next ↦ let here = x.holds.learns (omega arith) in absurd (omega (arith, here.1, next.1))
        ]

    first-leg : DecidesIn sc ear (IsOnWay sc hands ear) (c.first + reach_of sc.plan) ⊎ SearchesAt sc ear (IsOnWay sc hands ear) (c.first + reach_of sc.plan)
        → HasDecided sc hands ear (frame + 1) (last + reach_of sc.plan)
    first-leg (inl x) = finish x.tick x.at.n x.at.s x.at.holds.fresh x.at.is x.deciding (omega (arith, x.before, apart))
    first-leg (inr x) =
        elim (decides-or-next law is run c.firsts refl (omega (arith, apart, come, in_time)) x.whole x.holds.fresh x.holds.stays) [
          | inl deciding ↦ finish (c.first + reach_of sc.plan) x.n x.s x.holds.fresh x.is deciding.0 (omega (arith, apart))
          | inr next ↦ second-leg (on-to (IsOnTrack sc hands ear frame c.first c.second) (kept-on-track law is run c.firsts c.seconds) (c.second + reach_of sc.plan) (omega (arith, apart)) (omega (arith, come, in_time))
              (record {
                s = x.s;
                is = x.is;
                n = x.n;
                holds = record { fresh = x.holds.fresh; stays = x.holds.stays; after = omega (arith, some_reach); learns = λ soon. (next.0, next.1 ∙ number-after frame) };
                whole = x.whole;
              }))
        ]
