-- For the law that pending events are few if the run breaks off in a sync slot: at its last tick of
-- the stage a node sends nothing.
use Rattle.std.proofs.{Common.{◌≡◌, ℕ, ◌+◌, ◌*◌, ◌<◌, true, false, List, refl, ap, sym, ◌∙◌, subst, arith, Option, Some, None, slice_get}, lemmas.Option.same_Some}
use Rattle.rb_base.specs.Sizes.{sync_slot_of}
use Rattle.rb_base.proofs.Plain.{less-differs}
use Rattle.rb_rules.specs.{declared.message.Message.Message, Book.of_kind, Clock.time_of, Core.if_at, Goodness.clock_of, Hearing.{Sending}, Lawful.IsLawful, Moments.IsRunning, Ports.HandIn, Rounds.{Moment, moment}, WorldStep.{Timed, pass_and_tick}}
use Rattle.rb_laws_events.proofs.{BreakEnters.{TickBreaks, sent-then}, BreakMessages.every-left, BreakSites.{WaitsAhead, WaitsDeaf}, Invariant.{is_good_at, last_tick, word_at}, LastCloses.{shows-deaf, shows-heard}, NodeActs.{ActsClose, HasRoom}, NodeSends.sending_at, SameHeard.Every, SentChanges.sending-of-is}

gone : (k : ℕ) (o : Option Sending) → ((x : Sending) → o ≡ Some x → x.tick < k) → if_at k o ≡ None
gone k None h = refl
gone k (Some x) h = ap (λ b. elim b as (λ _. Option Message) [ true ↦ Some x.message | false ↦ None ]) (less-differs x.tick k (h x refl))

-- what a node sends in the stage has gone out before its last tick
quiet-then : {sc : _} (hands : List HandIn) → IsLawful sc → (p q : ℕ) → IsRunning (moment sc hands p) → q < 3 → (moment sc hands p).window ≡ 3 * sync_slot_of sc.sizes + q
    → {me i st : _} → slice_get (of_kind me (moment sc hands p).nodes) i ≡ Some st → is_good_at sc (moment sc hands p) me i ≡ true
    → (a : Timed) → a.time ≡ time_of (clock_of sc me i) a.tick → a.tick ≡ last_tick sc (moment sc hands p) me st → {c x : _}
    → ActsClose sc me i st (moment sc hands p).window (word_at sc (moment sc hands p) me i st) a.tick c x → x.message ≡ None
quiet-then {sc} hands lawful p q running small at {me} {i} {st} state good a at_time last act =
    let m : Moment = moment sc hands p in
    let end : time_of (clock_of sc me i) a.tick ≡ time_of (clock_of sc me i) (last_tick sc m me st) = ap (time_of (clock_of sc me i)) last in
    act.message
    ∙ gone a.tick (sending_at sc.sizes sc.plan me i st m.window (word_at sc m me i st))
    (λ y e. sent-then hands lawful p q running small at me i state good me i state good a at_time (omega (arith, end, at_time)) (sending-of-is sc m me i state ∙ e))

pub hearing-quiet : {sc hands : _} → IsLawful sc → HasRoom sc.plan → {sent ports p : _} (q : ℕ) → IsRunning (moment sc hands p) → q < 3
    → (moment sc hands p).window ≡ 3 * sync_slot_of sc.sizes + q → {me i s a : _} → TickBreaks sc hands sent ports p me i s a → WaitsAhead sc hands sent me i p s
    → (pass_and_tick sc ports me i a.tick s.core).message ≡ None
hearing-quiet {sc} {hands} lawful room {ports} {p} q running small at {me} {i} {s} {a} t h =
    let same : h.waits.a ≡ a = same_Some h.waits.a a (sym h.waits.stands.receives.pends ∙ t.pend) in
    let later : Every (λ c. h.waits.a.time < c.time) s.coming = subst (λ (b : Timed). Every (λ c. b.time < c.time) s.coming) (sym same) t.later in
    let shows = shows-heard ports room (t.frame h.waits.st h.waits.stands.state h.waits.stands.good) t.all_sent
    (t.words h.waits.st h.waits.stands.state) (every-left (λ c. h.waits.a.time < c.time) h.mine h.more (subst (Every (λ c. h.waits.a.time < c.time)) h.is later)) h.waits.last h.waits.stands in
    subst (λ (b : Timed). (pass_and_tick sc ports me i b.tick s.core).message ≡ None) same
    (quiet-then hands lawful p q running small at h.waits.stands.state h.waits.stands.good h.waits.a h.waits.stands.receives.at_time h.waits.last shows.0.act)

pub deaf-quiet : {sc hands : _} → IsLawful sc → HasRoom sc.plan → {sent ports p : _} (q : ℕ) → IsRunning (moment sc hands p) → q < 3
    → (moment sc hands p).window ≡ 3 * sync_slot_of sc.sizes + q → {me i s a : _} → TickBreaks sc hands sent ports p me i s a → WaitsDeaf sc hands me i p s
    → (pass_and_tick sc ports me i a.tick s.core).message ≡ None
deaf-quiet {sc} {hands} lawful room {ports} {p} q running small at {me} {i} {s} {a} t h =
    let same : h.a ≡ a = same_Some h.a a (sym h.pends ∙ t.pend) in
    let shows = shows-deaf (moment sc hands p) ports s room h.good h.stands h.had h.small (t.words h.st h.state) h.last h.slot h.deaf in
    subst (λ (b : Timed). (pass_and_tick sc ports me i b.tick s.core).message ≡ None) same
    (quiet-then hands lawful p q running small at h.state h.good h.a h.at_time h.last shows.act)
