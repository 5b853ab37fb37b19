-- What a good node says in each stage below the sync slot.
use Rattle.std.proofs.{Common.{◌≡◌, ℕ, zero, suc, ◌<◌, ◌≤◌, ◌^◌, ◌==◌, ◌&&◌, ◌||◌, ◌⊎◌, inl, inr, Bool, true, false, List, [], ◌∷◌, Option, Some, None, unwrap_or, get_or, if◌then◌else◌, refl, sym, ◌∙◌, ap, subst, arith}, lemmas.Bool.Decides.nat_tests, lemmas.List.Elements.{All-head, All-tail}}
use Rattle.std.specs.Prelude.{IfSome, All}
use Rattle.rb_base.specs.{Nodes.{Side, other}, Nodes.Side.{Biu, Rmu}, Sizes.Sizes, declared.values.Heard.Heard, declared.values.Heard.TheVariants.Fault}
use Rattle.rb_base.proofs.Sets.{set_of-lt}
use Rattle.rb_rules.specs.{declared.role.Role.Role, declared.role.Role.TheVariants.{Schedule, Data, DiagBiu, DiagRmu, Sync}, ExactStage.{own_value, is_sender, value_said, says_of, says}, Hearing.word_for, Lawful.IsLawful, NodeState.{NodeState, sender_at}, Ports.PortState, Slots.{Sender, same_side, sender_kind, has_third_stage, listens, role_of}, Slots.Sender.{Nobody, Node, EachTrusted}, Standing.{is_unlike, vector_of}}
use Rattle.rb_rules.proofs.{Standings.alike_is_not_unlike, Senses.IsCarried, Slots.{same_side-is, same_side_other, same_side_self}}

pub not_same_side : (a b : Side) → same_side a b ≡ false → a ≡ other b
not_same_side Biu Biu h = cc
not_same_side Biu Rmu h = refl
not_same_side Rmu Biu h = refl
not_same_side Rmu Rmu h = cc

-- Who listens.

pub voters_listen : (role : Role) → listens (sender_kind role) role 2 ≡ true
voters_listen role = rw (same_side_self (sender_kind role)) refl

pub voters_deaf : (role : Role) (stage : ℕ) → (stage == 2) ≡ false → listens (sender_kind role) role stage ≡ false
voters_deaf role stage h = rw (same_side_self (sender_kind role)) h

pub relays_listen : (role : Role) → listens (other (sender_kind role)) role 1 ≡ true
relays_listen role = rw (same_side_other (sender_kind role)) refl

-- a node that listens in stage 2 is of the sender's kind
pub listens_second : (me : Side) (role : Role) → listens me role 2 ≡ true → me ≡ sender_kind role
listens_second me role h = go (same_side me (sender_kind role)) refl h
  where
    go : (b : Bool) → same_side me (sender_kind role) ≡ b → (if b then true else false) ≡ true → me ≡ sender_kind role
    go true e h = same_side-is me (sender_kind role) e
    go false e h = cc

pub listens_third : (me : Side) (role : Role) → listens me role 3 ≡ true → me ≡ other (sender_kind role)
listens_third me role h = go (same_side me (sender_kind role)) refl h
  where
    go : (b : Bool) → same_side me (sender_kind role) ≡ b → (if b then false else (false || (true && has_third_stage role))) ≡ true → me ≡ other (sender_kind role)
    go true e h = cc
    go false e h = not_same_side me (sender_kind role) e

-- What is said is a certain value, or nothing.

abbrev pub IsOnly : Option Heard → Heard → Type 0
IsOnly said value = (said ≡ None) ⊎ (said ≡ Some value)

pub only-some : {said value other_value : _} → IsOnly said value → said ≡ Some other_value → other_value ≡ value
only-some {other_value = w} (inl none) is = let e : None ≡ Some w = sym none ∙ is in cc
only-some {value} {other_value = w} (inr some) is = let e : Some value ≡ Some w = sym some ∙ is in cc

pub only-fits : {said value : _} → IsOnly said value → IsCarried value → IfSome said IsCarried
only-fits (inl none) fits = subst (λ o. IfSome o IsCarried) (sym none) tt
only-fits (inr some) fits = subst (λ o. IfSome o IsCarried) (sym some) fits

either-way : (a b : Bool) (x : Heard) → IsOnly (if a then (if b then Some x else None) else None) x
either-way true true x = inr refl
either-way true false x = inl refl
either-way false b x = inl refl

one-way : (a : Bool) (x : Heard) → IsOnly (if a then Some x else None) x
one-way true x = inr refl
one-way false x = inl refl

-- a sender says its own value
pub says_own : (sizes : Sizes) (me : Side) (i : ℕ) (st : NodeState) (slot word : ℕ) → IsOnly (says sizes me i st slot 1 word) (own_value st (role_of sizes slot) word)
says_own sizes me i st slot word = go (sender_at sizes me st slot)
  where
    go : (sender : Sender) → IsOnly (says_of me i st slot (role_of sizes slot) sender 1 word) (own_value st (role_of sizes slot) word)
    go Nobody = inl refl
    go EachTrusted = inl refl
    go (Node p) = either-way (listens (other me) (role_of sizes slot) 1) (is_sender me i (role_of sizes slot) (Node p)) (own_value st (role_of sizes slot) word)

-- a relay says what it has got
pub says_got : (sizes : Sizes) (me : Side) (i : ℕ) (st : NodeState) (slot word : ℕ) → IsOnly (says sizes me i st slot 2 word) (unwrap_or st.got Fault)
says_got sizes me i st slot word = go (sender_at sizes me st slot)
  where
    go : (sender : Sender) → IsOnly (says_of me i st slot (role_of sizes slot) sender 2 word) (unwrap_or st.got Fault)
    go Nobody = inl refl
    go EachTrusted = inl refl
    go (Node p) = one-way (listens (other me) (role_of sizes slot) 2) (unwrap_or st.got Fault)

-- a voter says its vote
pub says_vote : (sizes : Sizes) (me : Side) (i : ℕ) (st : NodeState) (slot word : ℕ) → IsOnly (says sizes me i st slot 3 word) (get_or st.votes slot Fault)
says_vote sizes me i st slot word = go (sender_at sizes me st slot)
  where
    go : (sender : Sender) → IsOnly (says_of me i st slot (role_of sizes slot) sender 3 word) (get_or st.votes slot Fault)
    go Nobody = inl refl
    go EachTrusted = inl refl
    go (Node p) = one-way (listens (other me) (role_of sizes slot) 3) (get_or st.votes slot Fault)

-- a node says nothing if the other kind does not listen
pub says_nothing : (sizes : Sizes) (me : Side) (i : ℕ) (st : NodeState) (slot stage word : ℕ) → listens (other me) (role_of sizes slot) stage ≡ false
    → says sizes me i st slot stage word ≡ None
says_nothing sizes me i st slot stage word deaf = go (sender_at sizes me st slot)
  where
    go : (sender : Sender) → says_of me i st slot (role_of sizes slot) sender stage word ≡ None
    go Nobody = refl
    go EachTrusted = refl
    go (Node p) = rw deaf refl

-- What is said when a node speaks.

pub own_is_said : (sizes : Sizes) {me : _} (i : ℕ) (st : NodeState) (slot word : ℕ) → sender_at sizes me st slot ≡ Node i → me ≡ sender_kind (role_of sizes slot)
    → says sizes me i st slot 1 word ≡ Some (own_value st (role_of sizes slot) word)
own_is_said sizes {me} i st slot word sender mine =
    let role : Role = role_of sizes slot in
    let speaks : listens (other me) role 1 ≡ true = ap (λ k. listens (other k) role 1) mine ∙ relays_listen role in
    let is_me : same_side me (sender_kind role) ≡ true = ap (λ k. same_side k (sender_kind role)) mine ∙ same_side_self (sender_kind role) in
    let self : (i == i) ≡ true = grind (arith, nat_tests) in
    ap (λ x. says_of me i st slot role x 1 word) sender ∙ ap (λ b. if b then value_said me i st slot role (Node i) 1 word else None) speaks
    ∙ ap (λ b. if b && (i == i) then Some (own_value st role word) else None) is_me
    ∙ ap (λ b. if b then Some (own_value st role word) else None) self

pub got_is_said : (sizes : Sizes) (me : Side) (i p : ℕ) (st : NodeState) (slot word : ℕ) → sender_at sizes me st slot ≡ Node p → other me ≡ sender_kind (role_of sizes slot)
    → says sizes me i st slot 2 word ≡ Some (unwrap_or st.got Fault)
got_is_said sizes me i p st slot word sender far =
    let role : Role = role_of sizes slot in
    let speaks : listens (other me) role 2 ≡ true = ap (λ k. listens k role 2) far ∙ voters_listen role in
    ap (λ x. says_of me i st slot role x 2 word) sender ∙ ap (λ b. if b then Some (unwrap_or st.got Fault) else None) speaks

pub vote_is_said : (sizes : Sizes) (me : Side) (i p : ℕ) (st : NodeState) (slot word : ℕ) → sender_at sizes me st slot ≡ Node p → listens (other me) (role_of sizes slot) 3 ≡ true
    → says sizes me i st slot 3 word ≡ Some (get_or st.votes slot Fault)
vote_is_said sizes me i p st slot word sender speaks =
    let role : Role = role_of sizes slot in
    ap (λ x. says_of me i st slot role x 3 word) sender ∙ ap (λ b. if b then Some (get_or st.votes slot Fault) else None) speaks

-- what is said, if it is `value` or nothing, is not unlike `value`
pub only-alike : {said value : _} → IsOnly said value → is_unlike value said ≡ false
only-alike {value} (inl none) = ap (is_unlike value) none
only-alike {value} (inr some) = ap (is_unlike value) some ∙ alike_is_not_unlike value

-- Words are in range.

pub get-all : (P : ℕ → Type 0) (xs : List ℕ) (i : ℕ) → P 0 → All P xs → P (get_or xs i 0)
get-all P [] i zero_it all = zero_it
get-all P (x ∷ xs) zero zero_it all = All-head P x xs all
get-all P (x ∷ xs) (suc i) zero_it all = get-all P xs i zero_it (All-tail P x xs all)

-- the word for a slot has four bytes
pub word_fits : {sc : _} (ports : List PortState) (i slot : ℕ) (role : Role) → IsLawful sc → word_for sc ports i slot role < 2 ^ 32
word_fits {sc} ports i slot (Schedule n) law =
    let few : get_or sc.requests i 0 ≤ 64 = get-all (λ n. n ≤ 64) sc.requests i (omega arith) law.requests.each in omega arith
word_fits ports i slot (Data n) law = omega arith
word_fits ports i slot (DiagBiu n) law = omega arith
word_fits ports i slot (DiagRmu n) law = omega arith
word_fits ports i slot Sync law = omega arith

pub vector_fits : (st : NodeState) → vector_of st.far < 2 ^ 16
vector_fits st = set_of-lt _

pub own_fits : (st : NodeState) (role : Role) (word : ℕ) → word < 2 ^ 32 → IsCarried (own_value st role word)
own_fits st (Schedule i) word h = h
own_fits st (Data n) word h = h
own_fits st (DiagBiu i) word h = omega (arith, vector_fits st)
own_fits st (DiagRmu i) word h = omega (arith, vector_fits st)
own_fits st Sync word h = tt
