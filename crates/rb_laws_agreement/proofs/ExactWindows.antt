-- A window below the sync slot at one good node: what it takes of a good source is what that one
-- says, and what its close makes.
use Rattle.std.proofs.Common.{◌≡◌, ℕ, zero, suc, ◌+◌, ◌<◌, ◌==◌, ◌&&◌, Bool, true, false, map, Option, Some, None, is_some, if◌then◌else◌, refl, sym, ◌∙◌, ap, subst, arith}
use Rattle.rb_base.specs.{Nodes.{Side, other, has}, Nodes.Side.{Biu, Rmu}, Sizes.Sizes, declared.values.Heard.Heard}
use Rattle.rb_rules.specs.{declared.closing.Closing.Closing, declared.role.Role.Role, declared.sense.Sense.Sense, declared.sense.Sense.TheVariants.Silent, ExactStage.{Outcome, own_value, value_said, says_of, says, message_of, keep_sent, at_source, closing_of, taken_of_sender, reference_value, compare_with, votes_after, owners_after, delivery_of, see_value, close_exact, outcome_of}, NodeState.{NodeState, sender_at}, Sense.value_in, Slots.{Sender, same_side, sender_kind, listens, expects_of, expects, role_of}, Slots.Sender.{Nobody, Node, EachTrusted}, Standing.{Standing, is_eligible, taken_of, does_wrong, has_evidence, with_evidence, is_unlike}}
use Rattle.rb_rules.proofs.{Senses.value_is_in, Slots.other_twice, Standings.{unexpected_not_taken, expected_is_taken, right_is_no_evidence, others_stay, alike_stay}, Votes.taken_at}
use Rattle.rb_laws_agreement.proofs.NodeWindows.{IsOne}

-- Who is expected, and who speaks.

-- there is a single sender, or none
abbrev pub IsSingle : Sender → Type 0
IsSingle Nobody = Unit {0}
IsSingle (Node p) = Unit {0}
IsSingle EachTrusted = ⊥

-- in stage 1 the sender is of the kind that does not listen
speaker_first : (me : Side) (role : Role) → (if same_side me (sender_kind role) then false else true) ≡ true → same_side (other me) (sender_kind role) ≡ true
speaker_first me role = go me (sender_kind role)
  where
    go : (me k : Side) → (if same_side me k then false else true) ≡ true → same_side (other me) k ≡ true
    go Biu Biu h = cc
    go Biu Rmu h = refl
    go Rmu Biu h = refl
    go Rmu Rmu h = cc

-- a node that listens expects a trusted source if and only if that source speaks
pub expects_who_speaks : (me : Side) (role : Role) (sender : Sender) (trusted j : ℕ) (source : NodeState) (slot q word : ℕ) → q < 3 → IsSingle sender → has trusted j ≡ true
    → expects me role sender trusted (q + 1) j ≡ is_some (says_of (other me) j source slot role sender (q + 1) word)
expects_who_speaks me role Nobody trusted j source slot q word small single t =
    go (listens me role (q + 1))
  where
    go : (b : Bool) → (b && false) ≡ false
    go true = refl
    go false = refl
expects_who_speaks me role EachTrusted trusted j source slot q word small single t = absurd single
expects_who_speaks me role (Node p) trusted j source slot q word small single t =
    subst (λ k. expects me role (Node p) trusted (q + 1) j ≡ is_some (if listens k role (q + 1) then value_said (other me) j source slot role (Node p) (q + 1) word else None)) (sym (other_twice me))
    (go q small (listens me role (q + 1)) refl)
  where
    one : (b c : Bool) (x : Option Heard) → c ≡ true → is_some x ≡ true → b ≡ is_some (if c && b then x else None)
    one true c x h some = rw (h, some) refl
    one false c x h some = rw h refl

    go : (q : ℕ) → q < 3 → (a : Bool) → listens me role (q + 1) ≡ a
        → (a && expects_of (Node p) trusted (q + 1) j) ≡ is_some (if a then value_said (other me) j source slot role (Node p) (q + 1) word else None)
    go q small false h = refl
    go zero small true h = one (j == p) (same_side (other me) (sender_kind role)) (Some (own_value source role word)) (first (same_side me (sender_kind role)) refl h) refl
      where
        first : (b : Bool) → same_side me (sender_kind role) ≡ b → (if b then false else true) ≡ true → same_side (other me) (sender_kind role) ≡ true
        first b e h = speaker_first me role (ap (λ c. if c then false else true) e ∙ h)
    go (suc zero) small true h = t
    go (suc (suc zero)) small true h = t
    go (suc (suc (suc q))) small a h = absurd (omega arith)

-- What is taken.

abbrev pub expected_at : Sizes → Side → NodeState → ℕ → ℕ → ℕ → Bool
expected_at sizes me st slot stage = expects me (role_of sizes slot) (sender_at sizes me st slot) st.far.trusted stage

abbrev pub take_at : Sizes → Side → NodeState → ℕ → ℕ → (ℕ → Sense) → ℕ → Option Heard
take_at sizes me st slot stage sense = taken_of value_in st.far (expected_at sizes me st slot stage) sense

abbrev pub closing_at : Sizes → Side → NodeState → ℕ → ℕ → (ℕ → Sense) → Closing
closing_at sizes me st slot stage sense = closing_of st.far (expected_at sizes me st slot stage) sense

-- the sense of what a source says: its message, or silence
abbrev pub IsSenseOf : Sense → NodeState → ℕ → ℕ → Option Heard → Type 0
IsSenseOf sense source slot stage None = sense ≡ Silent
IsSenseOf sense source slot stage (Some value) = IsOne sense (message_of source slot stage value)

-- what an eligible source says is taken, if the source is expected exactly when it speaks
pub takes_what_is_said : (s : Standing) (expected : ℕ → Bool) (sense : ℕ → Sense) (source : NodeState) (slot stage j : ℕ) (said : Option Heard)
    → expected j ≡ is_some said → is_eligible s j ≡ true → IsSenseOf (sense j) source slot stage said → taken_of value_in s expected sense j ≡ said
takes_what_is_said s expected sense source slot stage j None ex el is = unexpected_not_taken value_in s expected sense j ex
takes_what_is_said s expected sense source slot stage j (Some value) ex el is =
    expected_is_taken value_in s expected sense j ex el ∙ ap value_in is.is ∙ value_is_in source slot stage is.stamp value

pub does_right : {expected : _} (sense : Sense) (source : NodeState) (slot stage : ℕ) (said : Option Heard)
    → expected ≡ is_some said → IsSenseOf sense source slot stage said → does_wrong expected sense ≡ false
does_right sense source slot stage None ex is = rw (ex, is) refl
does_right sense source slot stage (Some value) ex is = rw (ex, is.is) refl

-- What a close makes.

-- what a node keeps of what it says
abbrev pub sent_by : Sizes → Side → ℕ → NodeState → ℕ → ℕ → ℕ → Option Heard
sent_by sizes me i st slot stage word =
    if (stage == 1) && is_some (says sizes me i st slot stage word) then says sizes me i st slot stage word else st.sent

abbrev pub with_sent : NodeState → Option Heard → NodeState
with_sent st sent = record st { sent = sent }

pub keeping-is : (sizes : Sizes) (me : Side) (i : ℕ) (st : NodeState) (slot stage word : ℕ)
    → keep_sent sizes me i st slot stage word ≡ with_sent st (sent_by sizes me i st slot stage word)
keeping-is sizes me i st slot stage word =
    go ((stage == 1) && is_some (says sizes me i st slot stage word)) (says sizes me i st slot stage word)
  where
    go : (b : Bool) (x : Option Heard) → (if b then with_sent st x else st) ≡ with_sent st (if b then x else st.sent)
    go true x = refl
    go false x = refl

-- what a close makes of a node, part by part
pub record ExactClose (sizes : Sizes) (me : Side) (i : ℕ) (st : NodeState) (sent : Option Heard) (slot stage : ℕ) (sense : ℕ → Sense) (x : Outcome) : Type 0 where
  pub far : x.state.far
      ≡ compare_with (reference_value me i (with_sent st sent) (role_of sizes slot) (sender_at sizes me st slot) stage (closing_at sizes me st slot stage sense))
      (closing_at sizes me st slot stage sense) (with_evidence (has_evidence st.far (expected_at sizes me st slot stage) sense) st.far)
  pub sent_after : x.state.sent ≡ (if stage == 2 then None else sent)
  pub got : x.state.got ≡ (if stage == 1 then taken_of_sender (sender_at sizes me st slot) (closing_at sizes me st slot stage sense) else st.got)
  pub votes : x.state.votes ≡ votes_after me st slot (role_of sizes slot) stage (closing_at sizes me st slot stage sense)
  pub owners : x.state.owners ≡ owners_after sizes me st slot stage (votes_after me st slot (role_of sizes slot) stage (closing_at sizes me st slot stage sense))
  pub sees : x.closed.sees ≡ map see_value (closing_at sizes me st slot stage sense).taken
  pub delivered : x.closed.delivered ≡ delivery_of me st slot (role_of sizes slot) (sender_at sizes me st slot) stage (closing_at sizes me st slot stage sense).voted

delivery-sent : (me : Side) (st : NodeState) (sent : Option Heard) (slot : ℕ) (role : Role) (sender : Sender) (stage : ℕ) (voted : Heard)
    → delivery_of me (with_sent st sent) slot role sender stage voted ≡ delivery_of me st slot role sender stage voted
delivery-sent Biu st sent slot (Role.Schedule i) sender stage voted = refl
delivery-sent Biu st sent slot (Role.Data n) Nobody stage voted = refl
delivery-sent Biu st sent slot (Role.Data n) (Node i) stage voted = refl
delivery-sent Biu st sent slot (Role.Data n) EachTrusted stage voted = refl
delivery-sent Biu st sent slot (Role.DiagBiu i) sender stage voted = refl
delivery-sent Biu st sent slot (Role.DiagRmu i) sender stage voted = refl
delivery-sent Biu st sent slot Role.Sync sender stage voted = refl
delivery-sent Rmu st sent slot role sender stage voted = refl

pub exact_close : (sizes : Sizes) (me : Side) (i : ℕ) (st : NodeState) (sent : Option Heard) (slot stage : ℕ) (sense : ℕ → Sense)
    → ExactClose sizes me i st sent slot stage sense (close_exact sizes me i (with_sent st sent) slot stage sense)
unfolding close_exact outcome_of
exact_close sizes Biu i st sent slot stage sense = record {
  far = refl;
  sent_after = refl;
  got = refl;
  votes = refl;
  owners = refl;
  sees = refl;
  delivered = delivery-sent Biu st sent slot (role_of sizes slot) (sender_at sizes Biu st slot) stage (closing_at sizes Biu st slot stage sense).voted;
}
exact_close sizes Rmu i st sent slot stage sense = record {
  far = refl;
  sent_after = refl;
  got = refl;
  votes = refl;
  owners = refl;
  sees = refl;
  delivered = refl;
}

-- Whom a close spares.

compared-direct : (value : Option Heard) (c : Closing) (s : Standing) → (compare_with value c s).direct ≡ s.direct
compared-direct None c s = refl
compared-direct (Some value) c s = refl

-- a source that did no wrong is not accused directly
pub spares_right : (reference : Option Heard) (s : Standing) (expected : ℕ → Bool) (sense : ℕ → Sense) (j : ℕ) → j < 16
    → does_wrong (expected j) (sense j) ≡ false → has s.direct j ≡ false
    → has (compare_with reference (closing_of s expected sense) (with_evidence (has_evidence s expected sense) s)).direct j ≡ false
spares_right reference s expected sense j below right clear =
    ap (λ d. has d j) (compared-direct reference (closing_of s expected sense) (with_evidence (has_evidence s expected sense) s))
    ∙ others_stay (has_evidence s expected sense) s j below (right_is_no_evidence s expected sense j right) ∙ clear

-- a source from which nothing but the value was taken is not accused by mismatch
pub spares_alike : (reference : Option Heard) (s : Standing) (expected : ℕ → Bool) (sense : ℕ → Sense) (j : ℕ) → j < 16
    → ((value : Heard) → reference ≡ Some value → is_unlike value (taken_of value_in s expected sense j) ≡ false) → has s.mismatch j ≡ false
    → has (compare_with reference (closing_of s expected sense) (with_evidence (has_evidence s expected sense) s)).mismatch j ≡ false
spares_alike None s expected sense j below alike clear = clear
spares_alike (Some value) s expected sense j below alike clear =
    alike_stay (λ k. is_unlike value (at_source (closing_of s expected sense).taken k)) (with_evidence (has_evidence s expected sense) s) j below
    (ap (is_unlike value) (taken_at s expected sense j below) ∙ alike value refl) ∙ clear
