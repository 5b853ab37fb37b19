-- From one window of the sync slot to the next, and over the tail: all good nodes still agree.
use Rattle.std.proofs.Common.{◌≡◌, ℕ, suc, ◌+◌, ◌*◌, ◌<◌, ◌≤◌, true, false, List, ◌∷◌, length, slice_get, get_or, sym, ◌∙◌, ap, subst, arith}
use Rattle.rb_base.specs.{Nodes.{Side, other, has}, Sizes.sync_slot_of, declared.values.Heard.TheVariants.Fault}
use Rattle.rb_rules.specs.{Book.{of_kind, judged_of, with_stage}, Goodness.{Scenario, is_good}, Judging.{JudgedStage, is_benign}, Lawful.IsLawful, NodeState.trusted_of, Ports.HandIn, Rounds.{Moment, moment, sent_in, window_in, book_after, after_window, windows_in}, Standing.does_wrong, SyncStage.expects_call, Windows.windows_of_frame}
use Rattle.rb_rules.proofs.RoundStates.{Knows, through-stays}
use Rattle.rb_laws_agreement.proofs.{Tests.Present, Premises.Premise, Goodnesses.{good_below_16, slot_last}, Invariant.{Shared, kind_in, IsGoodNode, is_good_now, slot_numbered, IsFinished, Holds, Agree}, ExactAgrees.{knows_next, suc-place}, JudgedWindows.{rows_of, IsPassed, premise_after, stays-trusted}, NodeWindows.{Windows, sense_in, sync_window, sync_windows_are, tail_windows}, SecondStages.benign-before, Settings.{good_state, after}, SyncWindows.{HasTicksOf, stage_ticks, tail_ticks, sync_right, IsAfterSync, sync_closes}, NextMoments.{next, was_good, CameFrom, came_from, counts_after, sync-there, own_next}}

-- moment `m` is before a window of the sync slot or before the tail
pub record SyncSetting (sc : Scenario) (hands : List HandIn) (n : ℕ) (m : Moment) (s : Shared) (q : ℕ) (ws : Windows sc m (sync_slot_of sc.sizes) (q + 1)) : Type 0 where
  pub law : IsLawful sc
  pub agree : Agree sc hands n m s
  pub small : q < 4
  pub at : m.window ≡ 3 * sync_slot_of sc.sizes + q
  pub ticks : HasTicksOf sc m (q + 1)
  pub benign : (kind : Side) (j : ℕ) → is_benign kind (next sc m).book.stages j ≡ true → is_benign kind m.book.stages j ≡ true
  pub judged : 2 ≤ q → Premise sc m.frame (sync_slot_of sc.sizes) s.trusted (next sc m).book.stages

-- a node is good in the moment if and only if it is good in the sync slot
pub good-here : {sc hands n m s q ws : _} → SyncSetting sc hands n m s q ws
    → (me : Side) (i : ℕ) → is_good_now sc m me i ≡ is_good sc me i m.frame (sync_slot_of sc.sizes)
good-here {sc} {m} {q} c me i = ap (is_good sc me i m.frame) (slot_last sc.sizes q c.at)

-- what the window leaves of a good node
pub leaves : {sc hands n m s q ws : _} → SyncSetting sc hands n m s q ws
    → {me i st : _} → IsGoodNode sc m me i st → IsAfterSync st (after sc m me i st) (λ j. does_wrong (expects_call me st (q + 1) j) (sense_in ws me i st j))
leaves {ws} c {me} {i} {st} here =
    sync_closes ws me i st (sym (good-here c me i) ∙ here.good)

pub spared : {sc hands n m s q ws : _} → SyncSetting sc hands n m s q ws
    → {me i : _} (j : ℕ) {st : _} → IsGoodNode sc m me i st → is_good_now sc m (other me) j ≡ true → has (after sc m me i st).far.direct j ≡ false
spared {sc} {m} {s} {ws} c {me} {i} j {st} here good =
    let there : Present (slice_get (of_kind (other me) m.nodes) j) = good_state c.agree (other me) j good in
    let source : IsGoodNode sc m (other me) j there.value = record { there = there.is; good = good } in
    let holds : Holds sc m s me st = c.agree.nodes me i st here in
    (leaves c here).direct j (good_below_16 sc c.law.sizes (other me) j m.frame (slot_numbered sc.sizes m.window) good)
    (sync_right ws i j c.law.sizes c.ticks holds (c.agree.nodes (other me) j there.value source)
    there.is (sym (good-here c (other me) j) ∙ good) (c.agree.trusted (other me) j good))
    ∙ holds.spares.direct j good

holds-sync : {sc hands n m s q ws : _} → SyncSetting sc hands n m s q ws
    → {me i now : _} → IsGoodNode sc (next sc m) me i now → Holds sc (next sc m) s me now
unfolding after_window
holds-sync {sc} {m} {s} {q} {ws} c {me} {i} {now} h =
    let from : CameFrom sc m me i now = came_from c.agree h in
    let holds : Holds sc m s me from.st = c.agree.nodes me i from.st from.was in
    let stays = through-stays sc m (sent_in sc m) me i from.st (window_in sc m me from.st) in
    let left = leaves c from.was in
    let last : m.window < windows_in sc.sizes = let at : m.window ≡ 3 * sync_slot_of sc.sizes + q = c.at in let small : q < 4 = c.small in omega arith in
    record {
      frame = ap (λ x. x.frame) (sym from.is) ∙ stays.frame ∙ holds.frame;
      trusted = λ kind. ap (trusted_of kind me) (sym from.is) ∙ stays-trusted kind me stays ∙ holds.trusted kind;
      owners = ap (λ x. x.owners) (sym from.is) ∙ left.owners ∙ holds.owners;
      long = ap (λ x. length x.votes) (sym from.is) ∙ ap length left.votes ∙ holds.long;
      spares = record {
        direct = λ j good.
            ap (λ x. has x.far.direct j) (sym from.is) ∙ spared c j from.was (was_good sc m (other me) j good);
        mismatch = λ j good.
            ap (λ x. has x.far.mismatch j) (sym from.is) ∙ ap (λ x. has x j) left.mismatch ∙ holds.spares.mismatch j (was_good sc m (other me) j good);
      };
      knows = subst (Knows sc.sizes me (m.window + 1)) from.is
          (knows_next ws i c.law last (sym (good-here c me i) ∙ from.was.good) holds.knows);
    }

finished-sync : {sc hands n m s q ws : _} → SyncSetting sc hands n m s q ws
    → (t : ℕ) → t < sync_slot_of sc.sizes → IsFinished sc hands (next sc m) s t (s.values t)
finished-sync {sc} {hands} {m} {s} {q} c t lt =
    let at : m.window ≡ 3 * sync_slot_of sc.sizes + q = c.at in
    let f : IsFinished sc hands m s t (s.values t) = c.agree.finished t lt (omega arith) in
    record {
      is_value = record {
        idle = f.is_value.idle;
        own = λ p sender good. own_next (f.is_value.own p sender (was_good sc m (kind_in sc.sizes t) p good));
        unseen = λ p sender benign. f.is_value.unseen p sender (c.benign (kind_in sc.sizes t) p benign);
        carried = f.is_value.carried;
      };
      held = λ me i now h votes.
          let from : CameFrom sc m me i now = came_from c.agree h in
          ap (λ x. get_or x.votes t Fault) (sym from.is) ∙ ap (λ x. get_or x t Fault) (leaves c from.was).votes
          ∙ f.held me i from.st from.was votes;
    }

pub agree_sync : {sc hands n m s q ws : _} → SyncSetting sc hands n m s q ws
    → next sc m ≡ moment sc hands (suc n) → Agree sc hands (suc n) (next sc m) s
unfolding after_window
agree_sync {sc} {m} {q} c is =
    let at : m.window ≡ 3 * sync_slot_of sc.sizes + q = c.at in
    let small : q < 4 = c.small in
    record {
      is = is;
      place = suc-place m.frame m.window (windows_in sc.sizes + 1) c.agree.place;
      window = omega arith;
      counts = λ me. counts_after sc m me ∙ c.agree.counts me;
      nodes = λ me i now h. holds-sync c h;
      trusted = λ kind j good. c.agree.trusted kind j (was_good sc m kind j good);
      inside = c.agree.inside;
      owned = c.agree.owned;
      finished = λ t lt done. finished-sync c t lt;
      relayed = λ t lt e. absurd (omega arith);
      voted = λ t lt e. absurd (omega arith);
      judged = λ late. c.judged (omega arith);
    }

-- The stages, and the tail.

-- a stage of the sync slot adds its rows to the book
pub book_sync : (sc : Scenario) (m : Moment) (q : ℕ) → q < 3 → m.window ≡ 3 * sync_slot_of sc.sizes + q
    → (next sc m).book ≡ with_stage sc (record { frame = m.frame; slot = sync_slot_of sc.sizes; stage = q + 1 }) (rows_of sc m) m.book
unfolding after_window
book_sync sc m q small at =
    ap (λ k. book_after sc m.frame (slice_get (windows_of_frame sc.sizes sc.plan) k) (rows_of sc m) m.book) at
    ∙ ap (λ w. book_after sc m.frame w (rows_of sc m) m.book) (sync-there sc.sizes sc.plan q ∙ sync_window sc.sizes sc.plan q small)

-- the tail leaves the book as it is
pub book_tail : (sc : Scenario) (m : Moment) → m.window ≡ 3 * sync_slot_of sc.sizes + 3 → (next sc m).book ≡ m.book
unfolding after_window
book_tail sc m at =
    ap (λ k. book_after sc m.frame (slice_get (windows_of_frame sc.sizes sc.plan) k) (rows_of sc m) m.book) at
    ∙ ap (λ w. book_after sc m.frame w (rows_of sc m) m.book) (sync-there sc.sizes sc.plan 3)

pub stage_setting : {sc : Scenario} {hands : List HandIn} {n : ℕ} {m : Moment} {s : Shared} (q : ℕ) (small : q < 3) (at : m.window ≡ 3 * sync_slot_of sc.sizes + q) → IsLawful sc → Agree sc hands n m s
    → IsPassed sc (record { frame = m.frame; slot = sync_slot_of sc.sizes; stage = q + 1 }) (rows_of sc m) m.book
    → SyncSetting sc hands n m s q (sync_windows_are sc m q small at)
stage_setting {sc} {m} {s} q small at law agree passed =
    let slot : ℕ = sync_slot_of sc.sizes in
    let stages : List JudgedStage = judged_of sc (record { frame = m.frame; slot = slot; stage = q + 1 }) (rows_of sc m) ∷ m.book.stages in
    let are : (next sc m).book.stages ≡ stages = ap (λ b. b.stages) (book_sync sc m q small at ∙ passed.is) in
    record {
      law = law;
      agree = agree;
      small = omega arith;
      at = at;
      ticks = stage_ticks sc m q small at;
      benign = λ kind j h.
          benign-before kind (judged_of sc (record { frame = m.frame; slot = slot; stage = q + 1 }) (rows_of sc m)) m.book.stages j
          (ap (λ x. is_benign kind x j) (sym are) ∙ h);
      judged = λ late.
          subst (Premise sc m.frame slot s.trusted) (sym are)
          (premise_after (sync_windows_are sc m q small at) s.trusted
          (λ me i st is good kind.
          (agree.nodes me i st (record { there = is; good = ap (is_good sc me i m.frame) (slot_last sc.sizes q at) ∙ good })).trusted kind)
          passed.no_cause);
    }

pub tail_setting : {sc : Scenario} {hands : List HandIn} {n : ℕ} {m : Moment} {s : Shared} (at : m.window ≡ 3 * sync_slot_of sc.sizes + 3) → IsLawful sc → Agree sc hands n m s
    → SyncSetting sc hands n m s 3 (tail_windows sc m at)
tail_setting {sc} {m} {s} at law agree =
    let are : (next sc m).book.stages ≡ m.book.stages = ap (λ b. b.stages) (book_tail sc m at) in
    record {
      law = law;
      agree = agree;
      small = omega arith;
      at = at;
      ticks = tail_ticks sc m;
      benign = λ kind j h. ap (λ x. is_benign kind x j) (sym are) ∙ h;
      judged = λ late. subst (Premise sc m.frame (sync_slot_of sc.sizes) s.trusted) (sym are) (agree.judged (omega arith));
    }
