-- A listener closes a window below the sync slot as each good BIU does.
use Rattle.std.proofs.Common.{◌≡◌, ℕ, ◌+◌, ◌<◌, ◌==◌, ◌&&◌, Bool, true, false, Option, None, slice_get, slice_set, take, if◌then◌else◌, refl, sym, ◌∙◌, ap, subst}
use Rattle.rb_base.specs.{Nodes.has, Nodes.Side.{Biu, Rmu}, Sizes.{Sizes, sync_slot_of}, declared.values.See.See}
use Rattle.rb_base.proofs.Plain.{less-differs}
use Rattle.rb_rules.specs.{declared.closing.Closing.Closing, declared.sense.Sense.Sense, Book.of_kind, ExactStage.{Outcome, owners_after, reference_value, votes_after, votes_in}, Goodness.Scenario, Judging.JudgedStage, NodeState.{NodeState, sender_at}, NodeSteps.close, Owners.owners_of, Rounds.{Moment, sent_in, window_in}, Slots.role_of}
use Rattle.rb_rules.proofs.{RoundStates.{Stays, close-stays, through-stays}, Slots.close-exact}
use Rattle.rb_laws_agreement.proofs.{Tests.Present, Invariant.{IsGoodNode, is_good_now, slot_numbered}, ExactWindows.{ExactClose, closing_at, exact_close, expected_at, spares_right, with_sent}, Goodnesses.good_below_16, NodeWindows.sense_in, Settings.{Closed, Setting, closes, good_state, stages_with, windows}, SecondStages.vote_of, NextMoments.{CameFrom, came_from, next, was_good}}
use Rattle.rb_laws_listener_near.specs.{Holding.HoldAlike, Judged.verdict_with}
use Rattle.rb_laws_listener_near.proofs.{Tracking.{IsTaken, MostStay, Senses, Tracks, is_taken, listener_vote}, VotesAlike.{SawTaken, vote_alike}}

-- what the listener makes of a window
abbrev pub closed_by : Scenario → ℕ → ℕ → ℕ → NodeState → (ℕ → Sense) → Outcome
closed_by sc slot stage first st sense = close sc.sizes Biu 16 st slot stage first sense

pub closes_parts : (sc : Scenario) (slot stage first : ℕ) (st : NodeState) (sense : ℕ → Sense) → slot < sync_slot_of sc.sizes
    → ExactClose sc.sizes Biu 16 st st.sent slot stage sense (closed_by sc slot stage first st sense)
closes_parts sc slot stage first st sense below =
    subst (ExactClose sc.sizes Biu 16 st st.sent slot stage sense) (sym (close-exact sc.sizes Biu 16 st slot stage first sense (less-differs slot (sync_slot_of sc.sizes) below)))
    (exact_close sc.sizes Biu 16 st st.sent slot stage sense)

-- Votes and schedule.

same_votes : (sizes : Sizes) (a b : NodeState) (slot stage : ℕ) (c d : Closing) → a.votes ≡ b.votes → (votes_in Biu (role_of sizes slot) stage ≡ true → c.voted ≡ d.voted)
    → votes_after Biu a slot (role_of sizes slot) stage c ≡ votes_after Biu b slot (role_of sizes slot) stage d
same_votes sizes a b slot stage c d before voted = go (votes_in Biu (role_of sizes slot) stage) voted
  where
    go : (x : Bool) → (x ≡ true → c.voted ≡ d.voted) → (if x then slice_set a.votes slot c.voted else a.votes) ≡ (if x then slice_set b.votes slot d.voted else b.votes)
    go true same = ap (λ v. slice_set v slot c.voted) before ∙ ap (λ v. slice_set b.votes slot v) (same refl)
    go false same = before

same_owners : (sizes : Sizes) (a b : NodeState) (slot stage : ℕ) {v w : _} → a.near ≡ b.near → a.owners ≡ b.owners → v ≡ w
    → owners_after sizes Biu a slot stage v ≡ owners_after sizes Biu b slot stage w
same_owners sizes a b slot stage {v} {w} near owners votes = go ((stage == 3) && (slot + 1 == sizes.bius))
  where
    go : (x : Bool) → (if x then owners_of sizes a.near (take sizes.bius v) else a.owners) ≡ (if x then owners_of sizes b.near (take sizes.bius w) else b.owners)
    go true = ap (λ t. owners_of sizes t (take sizes.bius v)) near ∙ ap (λ v. owners_of sizes b.near (take sizes.bius v)) votes
    go false = owners

-- The step.

-- the listener senses the window, the premise with it holds, and it saw what it took
pub record IsWatched (sc : Scenario) (m : Moment) (slot q : ℕ) (st : NodeState) (sense : ℕ → Sense) (seen : ℕ → JudgedStage → Option (ℕ → See)) : Type 0 where
  pub most : MostStay sc m
  pub tracks : Tracks sc m st
  pub senses : Senses sc m slot q sense
  pub none : verdict_with seen (stages_with sc m slot (q + 1)) ≡ None
  pub saw : votes_in Biu (role_of sc.sizes slot) (q + 1) ≡ true → SawTaken sc m slot (q + 1) st sense seen

pub votes_as : {sc hands n m s slot q : _} (c : Setting sc hands n m s slot q)
    → {st sense seen : _} → IsWatched sc m slot q st sense seen
    → votes_in Biu (role_of sc.sizes slot) (q + 1) ≡ true → {i b : _} → IsGoodNode sc m Biu i b
    → listener_vote sc slot q st sense ≡ vote_of c Biu i b
votes_as {q} c {seen} w votes here =
    vote_alike q c w.most w.tracks w.senses seen w.none w.saw votes here

-- after a window the listener still holds what each good BIU holds
like_after : {sc hands n m s slot q : _} (first : ℕ) (c : Setting sc hands n m s slot q)
    → {st sense seen : _} → IsWatched sc m slot q st sense seen
    → (i : ℕ) (now : NodeState) → IsGoodNode sc (next sc m) Biu i now → HoldAlike (closed_by sc slot (q + 1) first st sense).state now
like_after {sc} {hands} {n} {m} {s} {slot} {q} first c {st} {sense} w i now h =
    let from : CameFrom sc m Biu i now = came_from c.agree h in
    let b : NodeState = from.st in
    let like : HoldAlike st b = w.tracks.like i b from.was in
    let x : Closed sc hands n m s slot q c Biu i b = closes c from.was in
    let mine = closes_parts sc slot (q + 1) first st sense c.below in
    let kept : Stays st (closed_by sc slot (q + 1) first st sense).state = close-stays sc.sizes Biu 16 st slot (q + 1) first sense in
    let stays = through-stays sc m (sent_in sc m) Biu i b (window_in sc m Biu b) in
    let is = from.is in
    let own : Closing = closing_at sc.sizes Biu st slot (q + 1) sense in
    let theirs : Closing = closing_at sc.sizes Biu b slot (q + 1) (sense_in (windows c) Biu i b) in
    let votes : (closed_by sc slot (q + 1) first st sense).state.votes ≡ now.votes =
    mine.votes
    ∙ same_votes sc.sizes st b slot (q + 1) own theirs like.votes (λ some. votes_as c w some from.was)
    ∙ sym x.parts.votes ∙ ap (λ t. t.votes) (sym x.is ∙ is) in
    record {
      frame = kept.frame ∙ like.frame ∙ sym stays.frame ∙ ap (λ t. t.frame) is;
      near = kept.near ∙ like.near ∙ sym stays.near ∙ ap (λ t. t.near) is;
      far = kept.trusted ∙ like.far ∙ sym stays.trusted ∙ ap (λ t. t.far.trusted) is;
      votes = votes;
      owners = mine.owners
          ∙ same_owners sc.sizes st b slot (q + 1) like.near like.owners (sym mine.votes ∙ votes ∙ ap (λ t. t.votes) (sym is ∙ x.is) ∙ x.parts.votes)
          ∙ sym x.parts.owners ∙ ap (λ t. t.owners) (sym x.is ∙ is);
    }

pub spares_after : {sc hands n m s slot q : _} (first : ℕ) → Setting sc hands n m s slot q
    → {st : _} → Tracks sc m st → (sense : ℕ → Sense) → Senses sc m slot q sense
    → (j : ℕ) → is_good_now sc (next sc m) Rmu j ≡ true → has (closed_by sc slot (q + 1) first st sense).state.far.direct j ≡ false
spares_after {sc} {m} {slot} {q} first c {st} t sense senses j good =
    let was : is_good_now sc m Rmu j ≡ true = was_good sc m Rmu j good in
    let there : Present (slice_get (of_kind Rmu m.nodes) j) = good_state c.agree Rmu j was in
    let source : IsGoodNode sc m Rmu j there.value = record { there = there.is; good = was } in
    let taken : IsTaken sc m slot (q + 1) st there.value sense j = is_taken c t senses source good in
    let small : j < 16 = good_below_16 sc c.law.sizes Rmu j m.frame (slot_numbered sc.sizes m.window) was in
    ap (λ f. has f.direct j) (closes_parts sc slot (q + 1) first st sense c.below).far
    ∙ spares_right
    (reference_value Biu 16 (with_sent st st.sent) (role_of sc.sizes slot) (sender_at sc.sizes Biu st slot) (q + 1) (closing_at sc.sizes Biu st slot (q + 1) sense))
    st.far (expected_at sc.sizes Biu st slot (q + 1)) sense j small taken.right (t.spares j was)

pub tracks_after : {sc hands n m s slot q : _} (first : ℕ) → Setting sc hands n m s slot q
    → {st sense seen : _} → IsWatched sc m slot q st sense seen
    → Tracks sc (next sc m) (closed_by sc slot (q + 1) first st sense).state
tracks_after first c {sense} w = record {
  like = like_after first c w;
  spares = spares_after first c w.tracks sense w.senses;
}
