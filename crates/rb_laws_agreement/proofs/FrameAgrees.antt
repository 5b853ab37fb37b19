-- Over the end of a frame all good nodes agree, and at the run's start.
use Rattle.std.proofs.{Common.{◌≡◌, ℕ, suc, ◌+◌, ◌-◌, ◌*◌, ◌<◌, ◌&&◌, nat_lt, not, true, false, List, [], length, inl, inr, Option, Some, None, is_some, slice_get, refl, sym, ◌∙◌, ap, subst, arith}, lemmas.Bool.{and_from, cases_lt, lt-ltb, ltb-true, not_from_false}, lemmas.List.FromFn.length-map-range_with_len, lemmas.List.length-replicate, lemmas.Option.same_Some}
use Rattle.rb_base.specs.{Nodes.{Side, other, has, set_of}, Nodes.Side.{Biu, Rmu}, Sizes.{Sizes, sync_slot_of}, declared.values.Heard.TheVariants.Fault}
use Rattle.rb_base.proofs.{Sets.{has-set_of, has_above, has_none, set_of-lt}, Plain.{and_first, is_some-map}}
use Rattle.rb_rules.specs.{declared.plan.Plan.Plan, Book.{of_kind, each_of}, Conviction.{convicted_at, turn}, Goodness.Scenario, Lawful.IsLawful, NodeState.{NodeState, first_state, trusted_of}, NodeSteps.turn_if_known, Ports.HandIn, Rounds.{Moment, moment, begin_frame, next_frame, first_moment, windows_in}, Slots.count_of, Standing.{Standing, lapses, standing_at_end, without}, SyncStage.new_epoch_of}
use Rattle.rb_rules.proofs.{RoundStates.{Knows, knows-none, state-turned}, WindowNumbers.{length-each, get-made}}
use Rattle.rb_laws_agreement.proofs.{Tests.Present, Goodnesses.{good_before, good_counts, good_below_16}, Invariant.{Shared, IsGoodNode, is_good_now, slot_numbered, Holds, Agree}, Settings.good_state, FrameTurns.{AtEnd, convicted_all, convicted_held, good_not_convicted}}

-- What a turn makes of a node.

-- at the end of a frame a node knows its next epoch
pub epoch-known : {sizes : _} (plan : Plan) (me : Side) {st : _} → Knows sizes me (windows_in sizes) st → is_some (new_epoch_of plan me st) ≡ true
epoch-known {sizes} plan Biu {st} h =
    is_some-map (λ k2. k2 + plan.v + plan.z + plan.c) st.k2 ∙ h.k2 ∙ lt-ltb (3 * sync_slot_of sizes + 2 - 1) (windows_in sizes) (omega arith)
epoch-known {sizes} plan Rmu {st} h =
    is_some-map (λ k3. k3 + plan.z) st.k3 ∙ h.k3 ∙ lt-ltb (3 * sync_slot_of sizes + 3 - 1) (windows_in sizes) (omega arith)

-- what a node is after its turn
pub record IsTurned (sizes : Sizes) (probation : ℕ) (me : Side) (st now : NodeState) : Type 0 where
  pub frame : now.frame ≡ st.frame + 1
  pub trusted : (kind : Side) → trusted_of kind me now ≡ without (trusted_of kind me st) (convicted_at sizes me st kind)
  pub owners : now.owners ≡ []
  pub long : length now.votes ≡ sync_slot_of sizes
  pub direct : (j : ℕ) → j < 16 → has st.far.direct j ≡ false → has now.far.direct j ≡ false
  pub mismatch : now.far.mismatch ≡ st.far.mismatch
  pub knows : Knows sizes me 0 now

direct-turned : (probation : ℕ) (s : Standing) (j : ℕ) → j < 16 → has s.direct j ≡ false → has (standing_at_end probation s).direct j ≡ false
direct-turned probation s j below clear =
    has-set_of j (λ j. has s.direct j && not (lapses probation s j)) below ∙ ap (λ b. b && not (lapses probation s j)) clear

turned : (sizes : Sizes) (probation : ℕ) (me : Side) (epoch : ℕ) (st : NodeState) → IsTurned sizes probation me st (turn sizes probation me epoch st)
unfolding turn
turned sizes probation Biu epoch st = record {
  frame = refl;
  trusted = λ kind. elim kind as (λ kind. trusted_of kind Biu (turn sizes probation Biu epoch st) ≡ without (trusted_of kind Biu st) (convicted_at sizes Biu st kind)) [ Biu ↦ refl | Rmu ↦ refl ];
  owners = refl;
  long = length-replicate (sync_slot_of sizes) Fault;
  direct = λ j below clear. direct-turned probation (record st.far { trusted = without st.far.trusted (convicted_at sizes Biu st Rmu) }) j below clear;
  mismatch = refl;
  knows = record { k1 = sym (knows-none sizes Biu 1); k2 = sym (knows-none sizes Biu 2); k3 = sym (knows-none sizes Biu 3) };
}
turned sizes probation Rmu epoch st = record {
  frame = refl;
  trusted = λ kind. elim kind as (λ kind. trusted_of kind Rmu (turn sizes probation Rmu epoch st) ≡ without (trusted_of kind Rmu st) (convicted_at sizes Rmu st kind)) [ Biu ↦ refl | Rmu ↦ refl ];
  owners = refl;
  long = length-replicate (sync_slot_of sizes) Fault;
  direct = λ j below clear. direct-turned probation (record st.far { trusted = without st.far.trusted (convicted_at sizes Rmu st Biu) }) j below clear;
  mismatch = refl;
  knows = record { k1 = sym (knows-none sizes Rmu 1); k2 = sym (knows-none sizes Rmu 2); k3 = sym (knows-none sizes Rmu 3) };
}

turns-known : (sizes : Sizes) (plan : Plan) (me : Side) (st : NodeState) (o : Option ℕ) → is_some o ≡ true
    → IsTurned sizes plan.probation me st (elim o as (λ _. NodeState) [ None ↦ st | Some epoch ↦ turn sizes plan.probation me epoch st ])
turns-known sizes plan me st None h = cc
turns-known sizes plan me st (Some epoch) h = turned sizes plan.probation me epoch st

turns : {sizes : _} (plan : Plan) {me st : _} → Knows sizes me (windows_in sizes) st → IsTurned sizes plan.probation me st (turn_if_known sizes plan me st)
turns {sizes} plan {me} {st} knows = turns-known sizes plan me st (new_epoch_of plan me st) (epoch-known plan me knows)

-- The next frame.

-- what all good nodes share in the next frame
pub shared_next : Sizes → Shared → Shared
shared_next sizes s = record {
  trusted = λ kind. without (s.trusted kind) (convicted_all sizes s kind);
  owners = [];
  values = λ t. Fault;
}

pub next-trusted : (sizes : Sizes) (s : Shared) (kind : Side) → (shared_next sizes s).trusted kind ≡ without (s.trusted kind) (convicted_all sizes s kind)
unfolding shared_next
next-trusted sizes s kind = refl

pub next-owners : (sizes : Sizes) (s : Shared) → (shared_next sizes s).owners ≡ []
unfolding shared_next
next-owners sizes s = refl

-- a node that is trusted afterwards was trusted before
trusted-before : (trusted convicted j : ℕ) → has (without trusted convicted) j ≡ true → has trusted j ≡ true
trusted-before trusted convicted j h =
    elim (cases_lt j 16) [
      | inl below ↦
          and_first (has trusted j) (not (has convicted j)) (sym (has-set_of j (λ j. has trusted j && not (has convicted j)) below) ∙ h)
      | inr above ↦
          let none : has (without trusted convicted) j ≡ false = has_above (without trusted convicted) j (set_of-lt (λ j. has trusted j && not (has convicted j))) above in
          let both : true ≡ false = sym h ∙ none in cc
    ]

-- a node that is good in a frame was good at the end of the one before
pub was_good_then : (sc : Scenario) (hands : List HandIn) (m : Moment) (me : Side) (i : ℕ) → is_good_now sc (next_frame sc hands m) me i ≡ true → is_good_now sc m me i ≡ true
unfolding begin_frame
was_good_then sc hands m me i good =
    good_before sc me i m.frame (m.frame + 1) (slot_numbered sc.sizes m.window) (slot_numbered sc.sizes 0) (omega arith) good

-- a good node's state came from its state before the turn
pub record TurnedFrom (sc : Scenario) (m : Moment) (me : Side) (i : ℕ) (now : NodeState) : Type 0 where
  pub st : NodeState
  pub was : IsGoodNode sc m me i st
  pub is : turn_if_known sc.sizes sc.plan me st ≡ now

pub turned_from : {sc hands n m s : _} → Agree sc hands n m s
    → {me i now : _} → IsGoodNode sc (next_frame sc hands m) me i now → TurnedFrom sc m me i now
turned_from {sc} {hands} {m} agree {me} {i} {now} h =
    let good : is_good_now sc m me i ≡ true = was_good_then sc hands m me i h.good in
    let old : Present (slice_get (of_kind me m.nodes) i) = good_state agree me i good in
    record {
      st = old.value;
      was = record { there = old.is; good = good };
      is = same_Some (turn_if_known sc.sizes sc.plan me old.value) now (sym (state-turned sc hands m me i old.value old.is) ∙ h.there);
    }

pub holds-turned : {sc hands n m s : _} → AtEnd sc hands n m s
    → {me i now : _} → IsGoodNode sc (next_frame sc hands m) me i now → Holds sc (next_frame sc hands m) (shared_next sc.sizes s) me now
unfolding begin_frame shared_next
holds-turned {sc} {hands} {m} {s} e {me} {i} {now} h =
    let from : TurnedFrom sc m me i now = turned_from e.agree h in
    let holds : Holds sc m s me from.st = e.agree.nodes me i from.st from.was in
    let t : IsTurned sc.sizes sc.plan.probation me from.st now =
    subst (IsTurned sc.sizes sc.plan.probation me from.st) from.is (turns sc.plan (subst (λ k. Knows sc.sizes me k from.st) e.at holds.knows)) in
    record {
      frame = t.frame ∙ ap (λ f. f + 1) holds.frame;
      trusted = λ kind.
          t.trusted kind ∙ ap (λ x. without x (convicted_at sc.sizes me from.st kind)) (holds.trusted kind)
          ∙ ap (without (s.trusted kind)) (convicted_held e from.was kind);
      owners = t.owners;
      long = t.long;
      spares = record {
        direct = λ j good.
            let was : is_good_now sc m (other me) j ≡ true = was_good_then sc hands m (other me) j good in
            t.direct j (good_below_16 sc e.law.sizes (other me) j m.frame (slot_numbered sc.sizes m.window) was) (holds.spares.direct j was);
        mismatch = λ j good. ap (λ x. has x j) t.mismatch ∙ holds.spares.mismatch j (was_good_then sc hands m (other me) j good);
      };
      knows = t.knows;
    }

next-place : {n : ℕ} (frame : ℕ) {size : ℕ} (window : ℕ) → n ≡ frame * size + window → size ≡ window + 1 → suc n ≡ (frame + 1) * size + 0
next-place frame window h e = omega arith

pub agree_frame : {sc hands n m s : _} → AtEnd sc hands n m s
    → next_frame sc hands m ≡ moment sc hands (suc n) → Agree sc hands (suc n) (next_frame sc hands m) (shared_next sc.sizes s)
unfolding begin_frame shared_next
agree_frame {sc} {hands} {m} {s} e is = record {
  is = is;
  place = next-place m.frame m.window e.agree.place (ap (λ w. w + 1) (sym e.at));
  window = omega arith;
  counts = λ me. length-each (λ me i st. turn_if_known sc.sizes sc.plan me st) m.nodes me ∙ e.agree.counts me;
  nodes = λ me i now h. holds-turned e h;
  trusted = λ kind j good.
      let was : is_good_now sc m kind j ≡ true = was_good_then sc hands m kind j good in
      has-set_of j (λ j. has (s.trusted kind) j && not (has (convicted_all sc.sizes s kind) j)) (good_below_16 sc e.law.sizes kind j m.frame (slot_numbered sc.sizes m.window) was)
      ∙ and_from (has (s.trusted kind) j) (not (has (convicted_all sc.sizes s kind) j)) (e.agree.trusted kind j was)
      (not_from_false (has (convicted_all sc.sizes s kind) j) (good_not_convicted e kind j was));
  inside = λ kind j h. e.agree.inside kind j (trusted-before (s.trusted kind) (convicted_all sc.sizes s kind) j h);
  owned = λ k p h. cc;
  finished = λ t lt done. absurd (omega arith);
  relayed = λ t lt at. absurd (omega arith);
  voted = λ t lt at. absurd (omega arith);
  judged = λ late. absurd (omega arith);
}

-- The first frame.

pub first_shared : Scenario → Shared
first_shared sc = record { trusted = λ kind. set_of (λ i. nat_lt i (count_of kind sc.sizes)); owners = []; values = λ t. Fault }

first-trusted : (sizes : Sizes) (kind me : Side) → trusted_of kind me (first_state sizes me) ≡ set_of (λ i. nat_lt i (count_of kind sizes))
first-trusted sizes Biu Biu = refl
first-trusted sizes Biu Rmu = refl
first-trusted sizes Rmu Biu = refl
first-trusted sizes Rmu Rmu = refl

counts-made : (sizes : Sizes) (make : Side → ℕ → NodeState) (me : Side) → length (of_kind me (each_of sizes make)) ≡ count_of me sizes
counts-made sizes make Biu = length-map-range_with_len (make Biu) 0 sizes.bius
counts-made sizes make Rmu = length-map-range_with_len (make Rmu) 0 sizes.rmus

first-inside : (sc : Scenario) (kind : Side) (j : ℕ) → has (set_of (λ i. nat_lt i (count_of kind sc.sizes))) j ≡ true → j < count_of kind sc.sizes
first-inside sc kind j h =
    elim (cases_lt j 16) [
      | inl below ↦ ltb-true j (count_of kind sc.sizes) (sym (has-set_of j (λ i. nat_lt i (count_of kind sc.sizes)) below) ∙ h)
      | inr above ↦
          let none : has (set_of (λ i. nat_lt i (count_of kind sc.sizes))) j ≡ false =
          has_above (set_of (λ i. nat_lt i (count_of kind sc.sizes))) j (set_of-lt (λ i. nat_lt i (count_of kind sc.sizes))) above in
          let both : true ≡ false = sym h ∙ none in absurd (cc)
    ]

pub first-shared-trusted : (sc : Scenario) (kind : Side) → (first_shared sc).trusted kind ≡ set_of (λ i. nat_lt i (count_of kind sc.sizes))
unfolding first_shared
first-shared-trusted sc kind = refl

pub first-shared-owners : (sc : Scenario) → (first_shared sc).owners ≡ []
unfolding first_shared
first-shared-owners sc = refl

pub begin-frame : (sc : Scenario) (hands : List HandIn) → (first_moment sc hands).frame ≡ 0
unfolding begin_frame
begin-frame sc hands = refl

pub begin-window : (sc : Scenario) (hands : List HandIn) → (first_moment sc hands).window ≡ 0
unfolding begin_frame
begin-window sc hands = refl

pub agree_first : {sc : _} (hands : List HandIn) → IsLawful sc → Agree sc hands 0 (first_moment sc hands) (first_shared sc)
unfolding begin_frame first_shared
agree_first {sc} hands law = record {
  is = refl;
  place = omega arith;
  window = omega arith;
  counts = counts-made sc.sizes (λ me i. first_state sc.sizes me);
  nodes = λ me i st h.
      let counted : i < count_of me sc.sizes = good_counts sc me i 0 (slot_numbered sc.sizes 0) h.good in
      let made : slice_get (of_kind me (each_of sc.sizes (λ me i. first_state sc.sizes me))) i ≡ Some (first_state sc.sizes me) =
      get-made sc.sizes (λ me i. first_state sc.sizes me) me i counted in
      let same : first_state sc.sizes me ≡ st = same_Some (first_state sc.sizes me) st (sym made ∙ h.there) in
      subst (λ st. Holds sc (first_moment sc hands) (first_shared sc) me st) same (record {
        frame = refl;
        trusted = λ kind. first-trusted sc.sizes kind me;
        owners = refl;
        long = length-replicate (sync_slot_of sc.sizes) Fault;
        spares = record { direct = λ j good. has_none j; mismatch = λ j good. has_none j };
        knows = record { k1 = sym (knows-none sc.sizes me 1); k2 = sym (knows-none sc.sizes me 2); k3 = sym (knows-none sc.sizes me 3) };
      });
  trusted = λ kind j good.
      has-set_of j (λ i. nat_lt i (count_of kind sc.sizes)) (good_below_16 sc law.sizes kind j 0 (slot_numbered sc.sizes 0) good)
      ∙ lt-ltb j (count_of kind sc.sizes) (good_counts sc kind j 0 (slot_numbered sc.sizes 0) good);
  inside = first-inside sc;
  owned = λ k p h. cc;
  finished = λ t lt done. absurd (omega arith);
  relayed = λ t lt at. absurd (omega arith);
  voted = λ t lt at. absurd (omega arith);
  judged = λ late. absurd (omega arith);
}
