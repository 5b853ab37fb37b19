-- From one window below the sync slot to the next: all good nodes still agree.
use Rattle.std.proofs.{Common.{◌≡◌, ℕ, suc, ◌+◌, ◌*◌, ◌<◌, ◌≤◌, ◌==◌, ◌&&◌, inl, inr, Bool, true, false, List, length, map, take, Some, None, slice_set, if◌then◌else◌, refl, sym, ◌∙◌, ap, subst, arith}, lemmas.Bool.cases_lt, lemmas.Bool.Decides.nat_tests, Math.ListN.{set, length-set}}
use Rattle.rb_base.specs.{Counting.numbers, Nodes.{Side, other, has}, Nodes.Side.{Biu, Rmu}, Sizes.sync_slot_of, declared.values.Heard.Heard}
use Rattle.rb_rules.specs.{ExactStage.{votes_in, owners_after}, Goodness.{Scenario, is_good}, Lawful.IsLawful, NodeState.{NodeState, trusted_of}, Owners.owners_of, Ports.HandIn, Rounds.{Moment, moment, sent_in, window_in, after_window, windows_in}, Slots.{same_side, has_third_stage, role_of, sender_in}}
use Rattle.rb_rules.proofs.{RoundStates.{Knows, HasTicks, through-stays, numbered-knows}, Slots.schedule_role}
use Rattle.rb_laws_agreement.proofs.{Invariant.{Shared, sender_of, IsGoodNode, is_good_now, IsFinished, HasRelays, HasVoted, Holds, Agree}, JudgedWindows.stays-trusted, NodeWindows.Windows, Schedules.{AllIn, owners_are_trusted, take-are, same_requester}, Settings.{Setting, windows, good_here, AllCarried, NoneUnlike, SparesNode, all_spared, after, Closed, closes}, SecondStages.{vote_of, carried_2, none_unlike_2, votes_2}, FirstStages.{carried_1, relays_1}, ThirdStages.{voted, carried_3, none_unlike_3, finished_next, finished_3}, NextMoments.{next, was_good, CameFrom, came_from, counts_after}}

-- One node.

pub has_ticks : {sc : _} → IsLawful sc → HasTicks sc.plan
has_ticks law = record { l = law.plan.l.0; v = law.plan.v.0; z = law.plan.z.0 }

-- what a good node knows of the frame's middles
pub knows_next : {sc m slot stage : _} (ws : Windows sc m slot stage) {me : _} (i : ℕ) {st : _} → IsLawful sc
    → m.window < windows_in sc.sizes → is_good sc me i m.frame slot ≡ true → Knows sc.sizes me m.window st → Knows sc.sizes me (m.window + 1) (after sc m me i st)
knows_next {sc} {m} ws {me} i {st} law below good knows =
    numbered-knows sc m (sent_in sc m) me i m.window st (has_ticks law) below (ap (λ w. is_good sc me i m.frame w.slot) (ws.are me st) ∙ good) knows

-- a window leaves a node as many votes as it had
votes-long : {sc hands n m s slot q : _} (c : Setting sc hands n m s slot q) {me i st now : _}
    → IsGoodNode sc m me i st → after sc m me i st ≡ now → length now.votes ≡ length st.votes
votes-long {sc} {hands} {n} {m} {s} {slot} {q} c {me} {i} {st} here is =
    let x : Closed sc hands n m s slot q c me i st = closes c here in
    ap (λ t. length t.votes) (sym is ∙ x.is) ∙ ap length x.parts.votes ∙ go (votes_in me (role_of sc.sizes slot) (q + 1)) (vote_of c me i st)
  where
    go : (b : Bool) (v : Heard) → length (if b then slice_set st.votes slot v else st.votes) ≡ length st.votes
    go true v = length-set st.votes slot v
    go false v = refl

-- what a good node holds afterwards
pub holds_exact : {sc hands n m s : _} (t : Shared) {slot q : ℕ} (c : Setting sc hands n m s slot q)
    → AllCarried sc m slot (q + 1) → NoneUnlike c → ((kind : Side) → s.trusted kind ≡ t.trusted kind)
    → {me i now : _} → IsGoodNode sc (next sc m) me i now → now.owners ≡ t.owners → Holds sc (next sc m) t me now
unfolding after_window
holds_exact {sc} {m} {s} t {slot} {q} c fits none same {me} {i} {now} h owners =
    let from : CameFrom sc m me i now = came_from c.agree h in
    let holds : Holds sc m s me from.st = c.agree.nodes me i from.st from.was in
    let stays = through-stays sc m (sent_in sc m) me i from.st (window_in sc m me from.st) in
    let spared : (j : ℕ) → is_good_now sc (next sc m) (other me) j ≡ true → SparesNode (after sc m me i from.st) j =
    λ j good. all_spared c fits none j from.was (was_good sc m (other me) j good) in
    let last : m.window < windows_in sc.sizes = let at : m.window ≡ 3 * slot + q = c.at in let below : slot < sync_slot_of sc.sizes = c.below in let small : q < 3 = c.small in omega arith in
    record {
      frame = ap (λ x. x.frame) (sym from.is) ∙ stays.frame ∙ holds.frame;
      trusted = λ kind. ap (trusted_of kind me) (sym from.is) ∙ stays-trusted kind me stays ∙ holds.trusted kind ∙ same kind;
      owners = owners;
      long = votes-long c from.was from.is ∙ holds.long;
      spares = record {
        direct = λ j good. ap (λ x. has x.far.direct j) (sym from.is) ∙ (spared j good).direct;
        mismatch = λ j good. ap (λ x. has x.far.mismatch j) (sym from.is) ∙ (spared j good).mismatch;
      };
      knows = subst (Knows sc.sizes me (m.window + 1)) from.is
          (knows_next (windows c) i c.law last
          (sym (good_here c me i) ∙ from.was.good) holds.knows);
    }

-- a good node holds the owners that its votes give
owners-are : {sc hands n m s slot q : _} (c : Setting sc hands n m s slot q) {me i st now : _}
    → IsGoodNode sc m me i st → after sc m me i st ≡ now → now.owners ≡ owners_after sc.sizes me st slot (q + 1) now.votes
owners-are {sc} {hands} {n} {m} {s} {slot} {q} c {me} {i} {st} here is =
    let x : Closed sc hands n m s slot q c me i st = closes c here in
    ap (λ t. t.owners) (sym is ∙ x.is) ∙ x.parts.owners
    ∙ ap (owners_after sc.sizes me st slot (q + 1)) (sym x.parts.votes ∙ ap (λ t. t.votes) (sym x.is ∙ is))

-- The windows of stages 1 and 2.

pub suc-place : {n : ℕ} (frame window size : ℕ) → n ≡ frame * size + window → suc n ≡ frame * size + (window + 1)
suc-place frame window size h = omega arith

-- after stage 1 or 2 of a slot all good nodes still agree
agree-within : {sc hands n m s slot q : _} (c : Setting sc hands n m s slot q) → q < 2
    → AllCarried sc m slot (q + 1) → NoneUnlike c → next sc m ≡ moment sc hands (suc n)
    → ((t : ℕ) → t < sync_slot_of sc.sizes → m.window + 1 ≡ 3 * t + 1 → HasRelays sc hands (next sc m) s t)
    → ((t : ℕ) → t < sync_slot_of sc.sizes → m.window + 1 ≡ 3 * t + 2 → HasVoted sc hands (next sc m) s t)
    → Agree sc hands (suc n) (next sc m) s
unfolding after_window
agree-within {sc} {m} {s} {slot} {q} c early fits none is relayed voted =
    let at : m.window ≡ 3 * slot + q = c.at in
    let below : slot < sync_slot_of sc.sizes = c.below in
    record {
      is = is;
      place = suc-place m.frame m.window (windows_in sc.sizes + 1) c.agree.place;
      window = omega arith;
      counts = λ me. counts_after sc m me ∙ c.agree.counts me;
      nodes = λ me i now h.
          let from : CameFrom sc m me i now = came_from c.agree h in
          holds_exact s c fits none (λ kind. refl) h
          (owners-are c from.was from.is ∙ same me from.st now.votes ∙ (c.agree.nodes me i from.st from.was).owners);
      trusted = λ kind j good. c.agree.trusted kind j (was_good sc m kind j good);
      inside = c.agree.inside;
      owned = c.agree.owned;
      finished = λ t lt done.
          let before : t < slot = omega arith in
          finished_next c before (c.agree.finished t lt (omega arith));
      relayed = relayed;
      voted = voted;
      judged = λ late. absurd (omega arith);
    }
  where
    same : (me : Side) (st : NodeState) (votes : List Heard) → owners_after sc.sizes me st slot (q + 1) votes ≡ st.owners
    same me st votes =
        let no_it : (q + 1 == 3) ≡ false = grind (arith, nat_tests) in
        ap (λ b. if b && (slot + 1 == sc.sizes.bius) then owners_of sc.sizes (trusted_of me Biu st) (take sc.sizes.bius votes) else st.owners) no_it

pub agree_1 : {sc hands n m s slot : _} → Setting sc hands n m s slot 0
    → next sc m ≡ moment sc hands (suc n) → Agree sc hands (suc n) (next sc m) s
agree_1 {sc} {hands} {m} {s} {slot} c is =
    let at : m.window ≡ 3 * slot + 0 = c.at in
    agree-within c (omega arith) (carried_1 c)
    (λ me i j st source here there value reference. none_first value reference) is
    (λ t lt e. let same : slot ≡ t = omega arith in subst (HasRelays sc hands (next sc m) s) same (relays_1 c))
    (λ t lt e. absurd (omega arith))
  where
    none_first : {P : Type 0} (value : Heard) → None ≡ Some value → P
    none_first value h = cc

pub agree_2 : {sc hands n m s slot : _} → Setting sc hands n m s slot 1
    → next sc m ≡ moment sc hands (suc n) → Agree sc hands (suc n) (next sc m) s
agree_2 {sc} {hands} {m} {s} {slot} c is =
    let at : m.window ≡ 3 * slot + 1 = c.at in
    agree-within c (omega arith) (carried_2 c) (none_unlike_2 c) is
    (λ t lt e. absurd (omega arith))
    (λ t lt e. let same : slot ≡ t = omega arith in subst (HasVoted sc hands (next sc m) s) same (votes_2 c))

-- The window of stage 3.

-- what all good nodes share after the slot with this value
pub with_value : Scenario → Shared → ℕ → Heard → Shared
with_value sc s slot value =
    let values : ℕ → Heard = λ t. if t == slot then value else s.values t in
    record {
      trusted = s.trusted;
      owners = if slot + 1 == sc.sizes.bius then owners_of sc.sizes (s.trusted Biu) (map values (numbers sc.sizes.bius)) else s.owners;
      values = values;
    }

-- the value of a slot leaves the senders of the slots up to it
same-sender : (sc : Scenario) (s : Shared) (slot : ℕ) (value : Heard) (t : ℕ) → t ≤ slot → sender_of sc.sizes s t ≡ sender_of sc.sizes (with_value sc s slot value) t
unfolding with_value
same-sender sc s slot value t before = go (slot + 1 == sc.sizes.bius) refl
  where
    go : (b : Bool) → (slot + 1 == sc.sizes.bius) ≡ b
        → sender_in (s.trusted Biu) (s.trusted Rmu) s.owners (role_of sc.sizes t)
        ≡ sender_in (s.trusted Biu) (s.trusted Rmu) (if b then owners_of sc.sizes (s.trusted Biu) (map (λ t. if t == slot then value else s.values t) (numbers sc.sizes.bius)) else s.owners) (role_of sc.sizes t)
    go true e = same_requester sc.sizes (s.trusted Biu) (s.trusted Rmu) s.owners (owners_of sc.sizes (s.trusted Biu) (map (λ t. if t == slot then value else s.values t) (numbers sc.sizes.bius))) t (requester slot t sc.sizes.bius before e)
      where
        requester : (slot t bius : ℕ) → t ≤ slot → (slot + 1 == bius) ≡ true → t < bius
        requester slot t bius before e = grind (arith, nat_tests)
    go false e = refl

finished-same : {sc : Scenario} {hands : List HandIn} {m : Moment} {s : Shared} (u : Shared) {t : ℕ} {value : Heard} → sender_of sc.sizes s t ≡ sender_of sc.sizes u t
    → IsFinished sc hands m s t value → IsFinished sc hands m u t value
finished-same u same f = record {
  is_value = record {
    idle = λ e. f.is_value.idle (same ∙ e);
    own = λ p e. f.is_value.own p (same ∙ e);
    unseen = λ p e. f.is_value.unseen p (same ∙ e);
    carried = f.is_value.carried;
  };
  held = f.held;
}

pub value-at : (sc : Scenario) (s : Shared) (slot : ℕ) (value : Heard) → (with_value sc s slot value).values slot ≡ value
unfolding with_value
value-at sc s slot value = let e : (slot == slot) ≡ true = grind (arith, nat_tests) in ap (λ b. if b then value else s.values slot) e

pub value-before : (sc : Scenario) (s : Shared) (slot : ℕ) (value : Heard) (t : ℕ) → t < slot → (with_value sc s slot value).values t ≡ s.values t
unfolding with_value
value-before sc s slot value t before = let e : (t == slot) ≡ false = grind (arith, nat_tests) in ap (λ b. if b then value else s.values t) e

-- all slots up to this one are finished
finished-all : {sc hands n m s slot : _} (c : Setting sc hands n m s slot 2)
    → (t : ℕ) → t ≤ slot
    → IsFinished sc hands (next sc m) (with_value sc s slot (voted sc hands n m s slot c).value) t ((with_value sc s slot (voted sc hands n m s slot c).value).values t)
finished-all {sc} {hands} {n} {m} {s} {slot} c t le =
    let value : Heard = (voted sc hands n m s slot c).value in
    let u : Shared = with_value sc s slot value in
    let at : m.window ≡ 3 * slot + 2 = c.at in
    let below : slot < sync_slot_of sc.sizes = c.below in
    elim (cases_lt t slot) [
      | inl before ↦
          subst (IsFinished sc hands (next sc m) u t) (sym (value-before sc s slot value t before))
          (finished-same u (same-sender sc s slot value t le)
          (finished_next c before (c.agree.finished t (omega arith) (omega arith))))
      | inr late ↦
          let same : slot ≡ t = omega arith in
          subst (λ t. IsFinished sc hands (next sc m) u t (u.values t)) same
          (subst (IsFinished sc hands (next sc m) u slot) (sym (value-at sc s slot value))
          (finished-same u (same-sender sc s slot value slot (omega arith)) (finished_3 c)))
    ]

-- the owners that all hold afterwards
owners-after : {sc hands n m s slot : _} (c : Setting sc hands n m s slot 2)
    → {me i now : _} → IsGoodNode sc (next sc m) me i now → now.owners ≡ (with_value sc s slot (voted sc hands n m s slot c).value).owners
unfolding with_value
owners-after {sc} {hands} {n} {m} {s} {slot} c {me} {i} {now} h =
    let from : CameFrom sc m me i now = came_from c.agree h in
    owners-are c from.was from.is ∙ go from (slot + 1 == sc.sizes.bius) refl
  where
    requester : (slot t bius : ℕ) → (slot + 1 == bius) ≡ true → t < bius → t ≤ slot
    requester slot t bius e lt = grind (arith, nat_tests)

    go : (from : CameFrom sc m me i now) → (b : Bool) → (slot + 1 == sc.sizes.bius) ≡ b
        → (if true && b then owners_of sc.sizes (trusted_of me Biu from.st) (take sc.sizes.bius now.votes) else from.st.owners)
        ≡ (if b then owners_of sc.sizes (s.trusted Biu) (map (with_value sc s slot (voted sc hands n m s slot c).value).values (numbers sc.sizes.bius)) else s.owners)
    go from false e = (c.agree.nodes me i from.st from.was).owners
    go from true e =
        let holds : Holds sc m s me from.st = c.agree.nodes me i from.st from.was in
        let values : ℕ → Heard = (with_value sc s slot (voted sc hands n m s slot c).value).values in
        let long : length now.votes ≡ sync_slot_of sc.sizes = votes-long c from.was from.is ∙ holds.long in
        let votes : take sc.sizes.bius now.votes ≡ map values (numbers sc.sizes.bius) =
        take-are values sc.sizes.bius now.votes (omega arith) (λ t lt.
        (finished-all c t (requester slot t sc.sizes.bius e lt)).held me i now h (ap (λ r. if has_third_stage r then true else same_side me Biu) (schedule_role sc.sizes t lt))) in
        ap (λ x. owners_of sc.sizes x (take sc.sizes.bius now.votes)) (trusted-biu me from.st ∙ holds.trusted Biu) ∙ ap (owners_of sc.sizes (s.trusted Biu)) votes
      where
        trusted-biu : (me : Side) (st : NodeState) → trusted_of me Biu st ≡ trusted_of Biu me st
        trusted-biu Biu st = refl
        trusted-biu Rmu st = refl

owned-after : (sc : Scenario) (s : Shared) (slot : ℕ) (value : Heard) → AllIn (λ p. has (s.trusted Biu) p ≡ true) s.owners
    → AllIn (λ p. has (s.trusted Biu) p ≡ true) (with_value sc s slot value).owners
unfolding with_value
owned-after sc s slot value owned = go (slot + 1 == sc.sizes.bius) (map (λ t. if t == slot then value else s.values t) (numbers sc.sizes.bius))
  where
    go : (b : Bool) (requests : List Heard) → AllIn (λ p. has (s.trusted Biu) p ≡ true) (if b then owners_of sc.sizes (s.trusted Biu) requests else s.owners)
    go true requests = owners_are_trusted sc.sizes (s.trusted Biu) requests
    go false requests = owned

pub same-trusted : (sc : Scenario) (s : Shared) (slot : ℕ) (value : Heard) (kind : Side) → s.trusted kind ≡ (with_value sc s slot value).trusted kind
unfolding with_value
same-trusted sc s slot value kind = refl

pub owners-slot : (sc : Scenario) (s : Shared) (slot : ℕ) (value : Heard)
    → (with_value sc s slot value).owners
    ≡ (if slot + 1 == sc.sizes.bius then owners_of sc.sizes (s.trusted Biu) (map (with_value sc s slot value).values (numbers sc.sizes.bius)) else s.owners)
unfolding with_value
owners-slot sc s slot value = refl

pub agree_3 : {sc hands n m s slot : _} (c : Setting sc hands n m s slot 2)
    → next sc m ≡ moment sc hands (suc n) → Agree sc hands (suc n) (next sc m) (with_value sc s slot (voted sc hands n m s slot c).value)
unfolding after_window
agree_3 {sc} {hands} {n} {m} {s} {slot} c is =
    let value : Heard = (voted sc hands n m s slot c).value in
    let u : Shared = with_value sc s slot value in
    let at : m.window ≡ 3 * slot + 2 = c.at in
    let below : slot < sync_slot_of sc.sizes = c.below in
    record {
      is = is;
      place = suc-place m.frame m.window (windows_in sc.sizes + 1) c.agree.place;
      window = omega arith;
      counts = λ me. counts_after sc m me ∙ c.agree.counts me;
      nodes = λ me i now h.
          holds_exact u c (carried_3 c) (none_unlike_3 c) (same-trusted sc s slot value) h
          (owners-after c h);
      trusted = λ kind j good. ap (λ t. has t j) (sym (same-trusted sc s slot value kind)) ∙ c.agree.trusted kind j (was_good sc m kind j good);
      inside = λ kind j h. c.agree.inside kind j (ap (λ t. has t j) (same-trusted sc s slot value kind) ∙ h);
      owned = λ k p h. ap (λ t. has t p) (sym (same-trusted sc s slot value Biu)) ∙ owned-after sc s slot value c.agree.owned k p h;
      finished = λ t lt done. finished-all c t (omega arith);
      relayed = λ t lt e. absurd (omega arith);
      voted = λ t lt e. absurd (omega arith);
      judged = λ late. absurd (omega arith);
    }
