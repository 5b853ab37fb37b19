-- Stage 1 of a slot: after it the good nodes of the other kind have what they relay.
use Rattle.std.proofs.{Common.{◌≡◌, ℕ, ◌+◌, ◌-◌, ◌*◌, ◌<◌, ◌≤◌, ◌^◌, ◌&&◌, ◌||◌, nat_lt, bit_and, Bool, true, false, List, length, inl, inr, Some, None, is_some, slice_get, if◌then◌else◌, refl, sym, ◌∙◌, ap, subst, arith}, lemmas.Bool.{and_right, cases_lt, lt-ltb, or_from}, lemmas.List.get_or_past, lemmas.List.FromFn.length-map-range_with_len, lemmas.Nat.{and_le_l, and_le_r}, lemmas.Option.same_Some, Math.Pow.pow_mono}
use Rattle.std.specs.Prelude.{IfSome}
use Rattle.rb_base.specs.{Nodes.{Side, other, has, set_of}, declared.values.Heard.Heard, declared.values.Heard.TheVariants.Word}
use Rattle.rb_base.proofs.{Sets.{has-set_of, has-and, same_set, first_is}, Plain.{and_first, none-if}}
use Rattle.rb_rules.specs.{declared.role.Role.Role, declared.role.Role.TheVariants.{Schedule, Data, DiagBiu, DiagRmu, Sync}, declared.sense.Sense.Sense, Book.of_kind, ExactStage.{own_value, says, at_source, closing_of, taken_of_sender}, Goodness.Scenario, Hearing.word_for, Judging.{is_asymmetric, is_benign}, NodeState.NodeState, Ports.HandIn, Rounds.{Moment, moment, windows_in, after_window}, Sense.value_in, Slots.{Sender, count_of, role_of}, Slots.Sender.{Nobody, Node, EachTrusted}, Standing.{Standing, taken_of, vector_of}, Moments.before_slot}
use Rattle.rb_rules.proofs.{Senses.IsCarried, Slots.other_twice, Votes.taken_at}
use Rattle.rb_laws_agreement.proofs.{Tests.Present, Goodnesses.{good_below_16, few_nodes}, Invariant.{Shared, sender_of, kind_in, IsGoodNode, is_good_now, slot_numbered, is_diagnosis, IsVector, GoodSent, HasRelays, Holds}, ExactWindows.{expected_at, closing_at}, Exchanges.{IsHeard, sender-held, far-held}, NodeWindows.{sense_in, word_at}, StageVotes.IsSeen, Speaking.{says_own, only-fits, own_is_said, word_fits, vector_fits, own_fits}, Settings.{Setting, windows, stages_with, good_state, AllCarried, all_heard, all_seen, all_alike, taken, after, Closed, closes}, Carrying.all_carried, NextMoments.{next, was_good, CameFrom, came_from, stages_after}}

-- what good nodes say in stage 1 has four bytes
pub carried_1 : {sc hands n m s slot : _} → Setting sc hands n m s slot 0 → AllCarried sc m slot 1
carried_1 {sc} {m} {slot} c me i st here =
    let word : ℕ = word_at sc m slot i in
    only-fits (says_own sc.sizes me i st slot word)
    (own_fits st (role_of sc.sizes slot) word (word_fits m.ports i slot (role_of sc.sizes slot) c.law))

pub nothing-past : (s : Standing) (expected : ℕ → Bool) (sense : ℕ → Sense) (p : ℕ) → 16 ≤ p → at_source (closing_of s expected sense).taken p ≡ None
nothing-past s expected sense p h =
    let long : length (closing_of s expected sense).taken ≡ 16 = length-map-range_with_len (taken_of value_in s expected sense) 0 16 in
    get_or_past (closing_of s expected sense).taken p None (omega arith)

-- what a relay has got is what it took of the sender
got-is : {sc hands n m s slot : _} (c : Setting sc hands n m s slot 0) {me i : _} (p : ℕ) {st now : _}
    → IsGoodNode sc m me i st → after sc m me i st ≡ now → sender_of sc.sizes s slot ≡ Node p
    → now.got ≡ at_source (closing_at sc.sizes me st slot 1 (sense_in (windows c) me i st)).taken p
got-is {sc} {hands} {n} {m} {s} {slot} c {me} {i} p {st} here is sender =
    let x : Closed sc hands n m s slot 0 c me i st = closes c here in
    ap (λ t. t.got) (sym is ∙ x.is) ∙ x.parts.got
    ∙ ap (λ y. taken_of_sender y (closing_at sc.sizes me st slot 1 (sense_in (windows c) me i st)))
    (sender-held slot (c.agree.nodes me i st here) ∙ sender)

far-side : {sc m k i st : _} → IsGoodNode sc m k i st → IsGoodNode sc m (other (other k)) i st
far-side {sc} {m} {k} {i} {st} = subst (λ k. IsGoodNode sc m k i st) (sym (other_twice k))

-- Vectors.

-- a set of nodes below `count` is a number below 2^count
set-fits : (count set : ℕ) → count ≤ 16 → set < 2 ^ 16 → ((j : ℕ) → j < 16 → has set j ≡ true → j < count) → set < 2 ^ count
set-fits count set few fits inside =
    let mask : ℕ = 2 ^ count - 1 in
    let first : mask ≡ set_of (λ i. nat_lt i count) = first_is count few in
    let least : 0 ≤ count = omega arith in
    let some : 2 ^ 0 ≤ 2 ^ count = pow_mono least in
    let below : bit_and set mask ≤ set = and_le_l set mask in
    let small : bit_and set mask ≤ mask = and_le_r set mask in
    let bits : (i : ℕ) → i < 16 → has set i ≡ has (bit_and set mask) i =
    λ i h. go i h (has set i) refl ∙ sym (has-and set mask i ∙ ap (λ b. has set i && b) (ap (λ t. has t i) first ∙ has-set_of i (λ i. nat_lt i count) h)) in
    let same : set ≡ bit_and set mask = same_set set (bit_and set mask) fits (omega arith) bits in
    omega arith
  where
    go : (i : ℕ) → i < 16 → (b : Bool) → has set i ≡ b → has set i ≡ (has set i && nat_lt i count)
    go i h true e = let lt : i < count = inside i h e in rw (e, lt-ltb i count lt) refl
    go i h false e = rw e refl

-- a vector names trusted nodes alone
vector-inside : (s : Standing) (j : ℕ) → j < 16 → has (vector_of s) j ≡ true → has s.trusted j ≡ true
vector-inside s j small h =
    and_first (has s.trusted j) (has s.direct j || has s.mismatch j) (sym (has-set_of j (λ j. has s.trusted j && (has s.direct j || has s.mismatch j)) small) ∙ h)

vector-spares : (s : Standing) (j : ℕ) → j < 16 → has s.direct j ≡ false → has s.mismatch j ≡ false → has (vector_of s) j ≡ false
vector-spares s j small d m =
    has-set_of j (λ j. has s.trusted j && (has s.direct j || has s.mismatch j)) small
    ∙ and_right (has s.trusted j) (has s.direct j || has s.mismatch j) (or_from (has s.direct j) (has s.mismatch j) d m)

-- a good node's vector is one of nodes that there are, and names no good one
vector-of : {sc hands n m s slot : _} (c : Setting sc hands n m s slot 0) {me i st : _}
    → IsGoodNode sc m me i st → IsVector sc (next sc m) (other me) (Word (vector_of st.far))
vector-of {sc} {m} {s} c {me} {i} {st} here =
    let holds : Holds sc m s me st = c.agree.nodes me i st here in
    let trusts : st.far.trusted ≡ s.trusted (other me) = far-held holds in
    record {
      valid = lt-ltb (vector_of st.far) (2 ^ count_of (other me) sc.sizes)
          (set-fits (count_of (other me) sc.sizes) (vector_of st.far) (few_nodes c.law.sizes (other me)) (vector_fits st)
          (λ j small h. c.agree.inside (other me) j (ap (λ t. has t j) (sym trusts) ∙ vector-inside st.far j small h)));
      spared = λ j good.
          let was : is_good_now sc m (other me) j ≡ true = was_good sc m (other me) j good in
          vector-spares st.far j (good_below_16 sc c.law.sizes (other me) j m.frame (slot_numbered sc.sizes m.window) was)
          (holds.spares.direct j was) (holds.spares.mismatch j was);
    }

own-vector : {sc : Scenario} {hands : List HandIn} {n : ℕ} {m : Moment} {s : Shared} {slot : ℕ} (c : Setting sc hands n m s slot 0) {p : ℕ} {st : NodeState} (word : ℕ)
    → IsGoodNode sc m (kind_in sc.sizes slot) p st → is_diagnosis (role_of sc.sizes slot) ≡ true
    → IsVector sc (next sc m) (other (kind_in sc.sizes slot)) (own_value st (role_of sc.sizes slot) word)
own-vector {sc} {m} {slot} c {st} word here diagnosis =
    subst (IsVector sc (next sc m) (other (kind_in sc.sizes slot))) (sym (go (role_of sc.sizes slot) diagnosis))
    (vector-of c here)
  where
    go : (role : Role) → is_diagnosis role ≡ true → own_value st role word ≡ Word (vector_of st.far)
    go (Schedule i) h = cc
    go (Data k) h = cc
    go (DiagBiu i) h = refl
    go (DiagRmu i) h = refl
    go Sync h = cc

-- What a good sender said.

own_1 : {sc hands n m s slot : _} (c : Setting sc hands n m s slot 0) (p : ℕ)
    → sender_of sc.sizes s slot ≡ Node p → is_good_now sc (next sc m) (kind_in sc.sizes slot) p ≡ true → GoodSent sc hands (next sc m) slot p
unfolding after_window
own_1 {sc} {hands} {n} {m} {s} {slot} c p sender good =
    let k : Side = kind_in sc.sizes slot in
    let role : Role = role_of sc.sizes slot in
    let old : Present (slice_get (of_kind k m.nodes) p) = good_state c.agree k p (was_good sc m k p good) in
    let here : IsGoodNode sc m k p old.value = record { there = old.is; good = was_good sc m k p good } in
    let small : p < 16 = good_below_16 sc c.law.sizes k p m.frame (slot_numbered sc.sizes m.window) here.good in
    let word : ℕ = word_at sc m slot p in
    let value : Heard = own_value old.value role word in
    let said : says sc.sizes k p old.value slot 1 word ≡ Some value =
    own_is_said sc.sizes p old.value slot word (sender-held slot (c.agree.nodes k p old.value here) ∙ sender) refl in
    let begins : before_slot sc hands m.frame slot ≡ m =
    ap (moment sc hands) (let place : n ≡ m.frame * (windows_in sc.sizes + 1) + m.window = c.agree.place in let at : m.window ≡ 3 * slot + 0 = c.at in
    let e : m.frame * (windows_in sc.sizes + 1) + 3 * slot + 1 - 1 ≡ n = omega arith in e) ∙ sym c.agree.is in
    record {
      value = value;
      own = record {
        said = λ st is.
            let same : old.value ≡ st = same_Some old.value st (sym old.is ∙ ap (λ x. slice_get (of_kind k x.nodes) p) (sym begins) ∙ is) in
            ap (λ t. own_value t role word) same ∙ ap (λ x. own_value st role (word_for sc x.ports p slot role)) (sym begins);
        carried = own_fits old.value role word (word_fits m.ports p slot role c.law);
        vector = own-vector c word here;
      };
      sent = λ st h.
          let from : CameFrom sc m k p st = came_from c.agree h in
          let same : from.st ≡ old.value = same_Some from.st old.value (sym from.was.there ∙ old.is) in
          let x : Closed sc hands n m s slot 0 c k p old.value = closes c here in
          ap (λ t. t.sent) (sym from.is ∙ ap (after sc m k p) same ∙ x.is) ∙ x.parts.sent_after
          ∙ ap (λ o. if is_some o then o else old.value.sent) said;
      got = λ i st h.
          let me : Side = other k in
          let from : CameFrom sc m me i st = came_from c.agree h in
          let heard : IsHeard sc m slot 1 (windows c) me i p from.st old.value =
          all_heard c (carried_1 c) from.was (far-side here) in
          let sense : ℕ → Sense = sense_in (windows c) me i from.st in
          got-is c p from.was from.is sender
          ∙ taken_at from.st.far (expected_at sc.sizes me from.st slot 1) sense p small ∙ heard.takes
          ∙ ap (λ k. says sc.sizes k p old.value slot 1 word) (other_twice k) ∙ said;
    }

-- what a relay has got has four bytes
got-carried : {sc hands n m s slot : _} (c : Setting sc hands n m s slot 0) {me i st now : _}
    → IsGoodNode sc m me i st → after sc m me i st ≡ now → {sender : _} → sender_of sc.sizes s slot ≡ sender → IfSome now.got IsCarried
got-carried {sc} {hands} {n} {m} {s} {slot} c {me} {i} {st} {now} here is {sender} e =
    let sense : ℕ → Sense = sense_in (windows c) me i st in
    let x : Closed sc hands n m s slot 0 c me i st = closes c here in
    let got : now.got ≡ taken_of_sender sender (closing_at sc.sizes me st slot 1 sense) =
    ap (λ t. t.got) (sym is ∙ x.is) ∙ x.parts.got ∙ ap (λ y. taken_of_sender y (closing_at sc.sizes me st slot 1 sense)) (sender-held slot (c.agree.nodes me i st here) ∙ e) in
    subst (λ o. IfSome o IsCarried) (sym got) (go sender)
  where
    go : (sender : Sender) → IfSome (taken_of_sender sender (closing_at sc.sizes me st slot 1 (sense_in (windows c) me i st))) IsCarried
    go Nobody = tt
    go EachTrusted = tt
    go (Node p) =
        let sense : ℕ → Sense = sense_in (windows c) me i st in
        elim (cases_lt p 16) [
          | inl small ↦
              subst (λ o. IfSome o IsCarried) (sym (taken_at st.far (expected_at sc.sizes me st slot 1) sense p small))
              (all_carried c (carried_1 c) p here)
          | inr past ↦ subst (λ o. IfSome o IsCarried) (sym (nothing-past st.far (expected_at sc.sizes me st slot 1) sense p past)) tt
        ]

-- After stage 1.

pub relays_1 : {sc hands n m s slot : _} → Setting sc hands n m s slot 0
    → HasRelays sc hands (next sc m) s slot
relays_1 {sc} {m} {s} {slot} c =
    let k : Side = kind_in sc.sizes slot in
    let me : Side = other k in
    let stages : (next sc m).book.stages ≡ stages_with sc m slot 1 = stages_after c in
    record {
      own = λ p sender good. own_1 c p sender good;
      alike = λ p sender alike a b sta stb good_a good_b.
          let from_a : CameFrom sc m me a sta = came_from c.agree good_a in
          let from_b : CameFrom sc m me b stb = came_from c.agree good_b in
          let got_a = got-is c p from_a.was from_a.is sender in
          let got_b = got-is c p from_b.was from_b.is sender in
          let sense_a : ℕ → Sense = sense_in (windows c) me a from_a.st in
          let sense_b : ℕ → Sense = sense_in (windows c) me b from_b.st in
          elim (cases_lt p 16) [
            | inl small ↦
                got_a ∙ taken_at from_a.st.far (expected_at sc.sizes me from_a.st slot 1) sense_a p small
                ∙ all_alike c p from_a.was from_b.was small
                (ap (λ x. is_asymmetric x (stages_with sc m slot 1) p) (other_twice k) ∙ ap (λ x. is_asymmetric k x p) (sym stages) ∙ alike)
                ∙ sym (got_b ∙ taken_at from_b.st.far (expected_at sc.sizes me from_b.st slot 1) sense_b p small)
            | inr past ↦
                got_a ∙ nothing-past from_a.st.far (expected_at sc.sizes me from_a.st slot 1) sense_a p past
                ∙ sym (got_b ∙ nothing-past from_b.st.far (expected_at sc.sizes me from_b.st slot 1) sense_b p past)
          ];
      unseen = λ p sender unseen i st good.
          let from : CameFrom sc m me i st = came_from c.agree good in
          let got = got-is c p from.was from.is sender in
          let sense : ℕ → Sense = sense_in (windows c) me i from.st in
          elim (cases_lt p 16) [
            | inl small ↦
                got ∙ taken_at from.st.far (expected_at sc.sizes me from.st slot 1) sense p small
                ∙ none-if (taken c me i from.st p) (λ some.
                let seen : IsSeen s.trusted (other me) (stages_with sc m slot 1) p = all_seen c p from.was small some in
                let no_it : is_benign k (stages_with sc m slot 1) p ≡ false = ap (λ x. is_benign x (stages_with sc m slot 1) p) (sym (other_twice k)) ∙ seen.seen in
                let yes_it : is_benign k (stages_with sc m slot 1) p ≡ true = ap (λ x. is_benign k x p) (sym stages) ∙ unseen in
                let both : true ≡ false = sym yes_it ∙ no_it in cc)
            | inr past ↦ got ∙ nothing-past from.st.far (expected_at sc.sizes me from.st slot 1) sense p past
          ];
      carried = λ i st good.
          let from : CameFrom sc m me i st = came_from c.agree good in
          got-carried c from.was from.is refl;
    }
