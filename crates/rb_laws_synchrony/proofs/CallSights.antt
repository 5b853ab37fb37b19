-- A stage of the sync slot as it is judged: of whom a good node takes something is seen, and of a
-- source that is not asymmetric good nodes take what comes to them at near times.
use Rattle.std.proofs.{Common.{◌≡◌, ℕ, zero, suc, ◌+◌, ◌-◌, ◌*◌, ◌≤◌, ◌<◌, not, nat_le, true, false, List, [], ◌∷◌, map, Option, Some, None, is_some, get_or, refl, sym, ◌∙◌, ap, subst, arith, inl, inr, zero-add}, lemmas.Bool.{and_parts, leb-true, or_left}, lemmas.List.FromFn.get_or-map-range_with_len}
use Rattle.std.specs.{Prelude.{⊤, All}, List.list_any}
use Rattle.rb_base.specs.{Nodes.{Side, other, has}, Sizes.sync_slot_of, declared.values.Place.Place, declared.values.See.TheVariants.Nothing}
use Rattle.rb_rules.specs.{declared.sense.Sense.Sense, Book.judged_of, Clock.{IsStamp, stamp_of, time_of}, ExactStage.each_node, Goodness.{Scenario, clock_of, is_good}, Hearing.{Span, judged_see, said_by, sole_time}, Judging.{JudgedStage, are_alike, is_asymmetric, is_something, was_taken, was_unlike}, NodeState.NodeState, NodeSteps.close, Plan.shortest_of, Rounds.Moment, SyncStage.{close_sync, see_time, sync_outcome_of}}
use Rattle.rb_rules.proofs.{Middles.AreNear, Stamps.stamp_of-is}
use Rattle.rb_laws_agreement.proofs.{ExactWindows.keeping-is, SaidWindows.all-said, Exchanges.far-held, Goodnesses.good_below_16, Invariant.IsGoodNode, JudgedWindows.{rows_of, sight-is, taken_in_stage, unlike_in_stage}, NodeWindows.{HasTick, Windows, heard_in, kept_in, sense_in, sync_tick, sync_windows_are, word_at}, StageVotes.IsSeen, SyncWindows.close-sync, Tests.{or_neither_first, true_or_false}}
use Rattle.rb_laws_synchrony.proofs.{PlanNumbers.drift_of, TakenCalls.{IsStage, is_set, taken_from, took, windows}, TimelyWindows.good_here, Times.{Steady, steady}}

-- What a good node shows.

pub get-see : (f : ℕ → Option ℕ) (j : ℕ) → j < 16 → get_or (map see_time (each_node f)) j Nothing ≡ see_time (f j)
get-see f j below = mapped (each_node f) j ∙ ap see_time (get_or-map-range_with_len f 0 16 j j None below (zero-add j))
  where
    mapped : (taken : List (Option ℕ)) (j : ℕ) → get_or (map see_time taken) j Nothing ≡ see_time (get_or taken j None)
    mapped [] j = refl
    mapped (x ∷ xs) zero = refl
    mapped (x ∷ xs) (suc j) = mapped xs j

sync-sees : {sc m : _} (q : ℕ) (ws : Windows sc m (sync_slot_of sc.sizes) (q + 1)) (me : Side) (i : ℕ) (st : NodeState)
    → (close sc.sizes me i (kept_in sc m (sync_slot_of sc.sizes) (q + 1) me i st) (sync_slot_of sc.sizes) (q + 1) (ws.first me st)
    (sense_in ws me i st)).closed.sees
    ≡ map see_time (each_node (took q ws me i st))
unfolding close_sync sync_outcome_of
sync-sees {sc} {m} q ws me i st =
    let slot : ℕ = sync_slot_of sc.sizes in
    let kept : NodeState = kept_in sc m slot (q + 1) me i st in
    let sense : ℕ → Sense = sense_in ws me i st in
    ap (λ x. x.closed.sees) (close-sync sc.sizes me i kept (q + 1) (ws.first me st) sense)
    ∙ ap (λ k. (close_sync sc.sizes me k (q + 1) (kept.epoch + ws.first me st) sense).closed.sees) (keeping-is sc.sizes me i st slot (q + 1) (word_at sc m slot i))

abbrev pub place_of : (sc : Scenario) (m : Moment) (q : ℕ) → Place
place_of sc m q = record { frame = m.frame; slot = sync_slot_of sc.sizes; stage = q + 1 }

-- the judged stages of the frame with stage q + 1 of the sync slot
abbrev pub stages_with : (sc : Scenario) (m : Moment) (q : ℕ) → List JudgedStage
stages_with sc m q = judged_of sc (place_of sc m q) (rows_of sc m) ∷ m.book.stages

-- a good node shows the time of what it took
pub shows_took : {sc hands n m s q : _} (c : IsStage sc hands n m s q) {me i : _} (j : ℕ) {st : _}
    → IsGoodNode sc m me i st → j < 16
    → (judged_of sc (place_of sc m q) (rows_of sc m)).sight me i j
    ≡ judged_see (sole_time (heard_in (windows c) me i st j))
    (see_time (took q (windows c) me i st j))
shows_took {sc} {m} {q} c {me} {i} j {st} here below =
    let slot : ℕ = sync_slot_of sc.sizes in
    let ws : Windows sc m slot (q + 1) = sync_windows_are sc m q c.small c.at in
    let time : ℕ = sole_time (heard_in ws me i st j) in
    let tick : HasTick sc m slot (q + 1) ws = sync_tick sc m q c.small c.at c.law.plan.l.0 c.law.plan.v.0 c.law.plan.z.0 in
    sight-is ws (place_of sc m q) me i j here.there (good_here (is_set c) here) (tick.tick me st) below
    ∙ ap (λ sees. judged_see time (get_or sees j Nothing)) (sync-sees q ws me i st)
    ∙ ap (judged_see time) (get-see (took q ws me i st) j below)

shown : (time : ℕ) (o : Option ℕ) → is_some o ≡ true → is_something (judged_see time (see_time o)) ≡ true
shown time None h = cc
shown time (Some k) h = refl

-- a node from which something is taken is trusted and was seen
pub took_is_seen : {sc hands n m s q : _} (c : IsStage sc hands n m s q) {me i : _} (j : ℕ) {st : _}
    → IsGoodNode sc m me i st → j < 16 → is_some (took q (windows c) me i st j) ≡ true
    → IsSeen s.trusted (other me) (stages_with sc m q) j
took_is_seen {sc} {m} {q} c {me} {i} j {st} here below some =
    let slot : ℕ = sync_slot_of sc.sizes in
    let ws : Windows sc m slot (q + 1) = windows c in
    let stage : JudgedStage = judged_of sc (place_of sc m q) (rows_of sc m) in
    let good : is_good sc me i m.frame slot ≡ true = good_here (is_set c) here in
    let taken : was_taken (other me) j stage ≡ true =
    taken_in_stage sc (place_of sc m q) (rows_of sc m) me i j (good_below_16 sc c.law.sizes me i m.frame slot good) good
    (ap is_something (shows_took c j here below)
    ∙ shown (sole_time (heard_in ws me i st j)) (took q ws me i st j) some) in
    record {
      trusts = ap (λ t. has t j) (sym (far-held (c.agree.nodes me i st here)))
          ∙ trusts_taken (took q ws me i st j) refl some;
      seen = ap not (or_left (was_taken (other me) j stage) (list_any (was_taken (other me) j) m.book.stages) taken);
    }
  where
    trusts_taken : (o : Option ℕ) → took q (windows c) me i st j ≡ o → is_some o ≡ true → has st.far.trusted j ≡ true
    trusts_taken None e h = cc
    trusts_taken (Some k) e h = (taken_from q (windows c) me i st j e).trusted

-- What two good nodes take of one source.

-- neither node took anything, or both took something at near times
abbrev pub TookAlike : ℕ → ℕ → ℕ → Option ℕ → Option ℕ → Type 0
TookAlike eps a b None None = ⊤
TookAlike eps a b None (Some k) = ⊥
TookAlike eps a b (Some k) None = ⊥
TookAlike eps a b (Some k) (Some l) = AreNear eps a b

alike-took : (eps a b : ℕ) (x y : Option ℕ) → are_alike eps (judged_see a (see_time x)) (judged_see b (see_time y)) ≡ true → TookAlike eps a b x y
alike-took eps a b None None h = tt
alike-took eps a b None (Some k) h = absurd (cc)
alike-took eps a b (Some k) None h = absurd (cc)
alike-took eps a b (Some k) (Some l) h =
    let parts = and_parts (nat_le a (b + eps)) (nat_le b (a + eps)) h in
    record { above = leb-true a (b + eps) parts.0; under = leb-true b (a + eps) parts.1 }

pub took_alike : {sc hands n m s q : _} (c : IsStage sc hands n m s q) {me a b : _} (j : ℕ) {sta stb : _}
    → IsGoodNode sc m me a sta → IsGoodNode sc m me b stb → j < 16 → is_asymmetric (other me) (stages_with sc m q) j ≡ false
    → TookAlike (sc.plan.dmax - sc.plan.dmin) (sole_time (heard_in (windows c) me a sta j))
    (sole_time (heard_in (windows c) me b stb j))
    (took q (windows c) me a sta j) (took q (windows c) me b stb j)
took_alike {sc} {m} {q} c {me} {a} {b} j {sta} {stb} here_a here_b below alike =
    let slot : ℕ = sync_slot_of sc.sizes in
    let ws : Windows sc m slot (q + 1) = windows c in
    let stage : JudgedStage = judged_of sc (place_of sc m q) (rows_of sc m) in
    let x : Option ℕ = took q ws me a sta j in
    let y : Option ℕ = took q ws me b stb j in
    let time_a : ℕ = sole_time (heard_in ws me a sta j) in
    let time_b : ℕ = sole_time (heard_in ws me b stb j) in
    let good_a : is_good sc me a m.frame slot ≡ true = good_here (is_set c) here_a in
    let good_b : is_good sc me b m.frame slot ≡ true = good_here (is_set c) here_b in
    let none : was_unlike (other me) j stage ≡ false = or_neither_first (was_unlike (other me) j stage) (list_any (was_unlike (other me) j) m.book.stages) alike in
    elim (true_or_false (are_alike stage.eps (stage.sight me a j) (stage.sight me b j))) [
      | inl same ↦
          alike-took (sc.plan.dmax - sc.plan.dmin) time_a time_b x y
          (ap (λ v. are_alike stage.eps v (judged_see time_b (see_time y))) (sym (shows_took c j here_a below))
          ∙ ap (are_alike stage.eps (stage.sight me a j)) (sym (shows_took c j here_b below)) ∙ same)
      | inr differ ↦
          let found : was_unlike (other me) j stage ≡ true =
          unlike_in_stage sc (place_of sc m q) (rows_of sc m) me a b j (good_below_16 sc c.law.sizes me a m.frame slot good_a)
          (good_below_16 sc c.law.sizes me b m.frame slot good_b) good_a good_b differ in
          absurd (cc)
    ]

-- What a faulty source says in a window that begins after tick 0 comes after tick 0.

late-tick : {u d clock : _} → Steady u d clock → (time first : ℕ) → 1 ≤ first → ((m : ℕ) → first ≡ suc m → time_of clock m < time)
    → 1 ≤ stamp_of clock time
late-tick steady time zero some later = absurd (omega arith)
late-tick {u} {clock} steady time (suc k) some later = go (stamp_of clock time) (stamp_of-is clock steady.moves time)
  where
    go : (stamp : ℕ) → IsStamp clock time stamp → 1 ≤ stamp
    go zero is =
        let from : time_of clock 0 + k * u ≤ time_of clock k = subst (λ n. time_of clock 0 + k * u ≤ time_of clock n) (zero-add k) (steady.not_early 0 k) in
        absurd (omega (arith, from, later k refl, is.reached))
    go (suc n) is = omega arith

pub said_late : (sc : Scenario) (me : Side) (i j : ℕ) (span : Span) → Steady (shortest_of sc.plan) (drift_of sc.plan) (clock_of sc me i) → 1 ≤ span.first
    → All (λ x. 1 ≤ stamp_of (clock_of sc me i) x.time) (said_by sc me i span j)
said_late sc me i j span clock some k d lt =
    late-tick clock (get_or (said_by sc me i span j) k d).time span.first some
    (all-said sc me i span j k d lt).later
