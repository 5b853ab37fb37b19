-- The end of a frame: all good nodes convict the same nodes, and no good one.
use Rattle.std.proofs.{Common.{◌≡◌, ℕ, ◌+◌, ◌*◌, ◌<◌, ◌≤◌, ◌&&◌, not, Bool, true, false, List, if◌then◌else◌, refl, sym, ◌∙◌, ap, subst, arith}, lemmas.Bool.{and_from, false_from_ne_true, not_from_false}}
use Rattle.rb_base.specs.{Counting.{count_if, numbers}, Nodes.{Side, other, has}, Nodes.Side.{Biu, Rmu}, Sizes.{Sizes, sync_slot_of}, declared.values.Heard.Heard, declared.values.Heard.TheVariants.Fault}
use Rattle.rb_base.proofs.Plain.{and_first, and_second}
use Rattle.rb_rules.specs.{Conviction.{is_valid, names, naming, sparing, convicted_by, voted_vector, convicted_at}, Goodness.{Scenario, is_good}, Judging.is_benign, Lawful.IsLawful, NodeState.trusted_of, Ports.HandIn, Rounds.{Moment, windows_in}, Slots.{same_side, sender_kind, has_third_stage, count_of, role_of, sender_in}, Slots.Sender.Node}
use Rattle.rb_rules.proofs.{Convictions.{named_is_convicted, spared_is_not_convicted}, Slots.other_twice}
use Rattle.rb_laws_agreement.proofs.{Numbers.{how_many, how_many-le}, Premises.{Premise, is_active, is_sound}, Goodnesses.{good_below_16, few_nodes, slot_last}, Invariant.{Shared, sender_of, kind_in, IsGoodNode, is_good_now, slot_numbered, is_diagnosis, IsVector, IsOwn, IsFinished, Holds, Agree}, Exchanges.trusted-either, StageVotes.how_many-count, Vectors.{vector_slot, vector_role, vector_slot-role, vector_slot-lt, convicted_same}}

-- the end of a frame at which all good nodes agree
pub record AtEnd (sc : Scenario) (hands : List HandIn) (n : ℕ) (m : Moment) (s : Shared) : Type 0 where
  pub law : IsLawful sc
  pub agree : Agree sc hands n m s
  pub at : m.window ≡ windows_in sc.sizes

-- the nodes of a kind that all convict
abbrev pub convicted_all : Sizes → Shared → Side → ℕ
convicted_all sizes s accused =
    convicted_by (count_of accused sizes) (s.trusted (other accused)) (s.trusted accused) (λ i. s.values (vector_slot sizes (other accused) i))

-- Vectors.

pub role-votes : (kind : Side) (i : ℕ) (me : Side) → (if has_third_stage (vector_role kind i) then true else same_side me Biu) ≡ true
role-votes Biu i me = refl
role-votes Rmu i me = refl

pub role-kind : (kind : Side) (i : ℕ) → sender_kind (vector_role kind i) ≡ kind
role-kind Biu i = refl
role-kind Rmu i = refl

pub role-diagnosis : (kind : Side) (i : ℕ) → is_diagnosis (vector_role kind i) ≡ true
role-diagnosis Biu i = refl
role-diagnosis Rmu i = refl

pub role-sender : (trusted : Side → ℕ) (owners : List ℕ) (kind : Side) (i : ℕ) → has (trusted kind) i ≡ true → sender_in (trusted Biu) (trusted Rmu) owners (vector_role kind i) ≡ Node i
role-sender trusted owners Biu i t = rw t refl
role-sender trusted owners Rmu i t = rw t refl

-- the vector slot of a trusted node is finished, and its value is a vector if the node is good
pub record VectorOf (sc : Scenario) (hands : List HandIn) (m : Moment) (s : Shared) (kind : Side) (i : ℕ) : Type 0 where
  pub finished : IsFinished sc hands m s (vector_slot sc.sizes kind i) (s.values (vector_slot sc.sizes kind i))
  pub kind_is : kind_in sc.sizes (vector_slot sc.sizes kind i) ≡ kind
  pub sender : sender_of sc.sizes s (vector_slot sc.sizes kind i) ≡ Node i
  pub seen : (others : ℕ) → is_valid others (s.values (vector_slot sc.sizes kind i)) ≡ true → is_benign kind m.book.stages i ≡ false
  pub good : is_good_now sc m kind i ≡ true → IsVector sc m (other kind) (s.values (vector_slot sc.sizes kind i))

pub vector_at : {sc hands n m s : _} → Agree sc hands n m s → (kind : Side) (i : ℕ)
    → 3 * vector_slot sc.sizes kind i + 3 ≤ m.window → has (s.trusted kind) i ≡ true → VectorOf sc hands m s kind i
vector_at {sc} {hands} {m} {s} agree kind i done t =
    let count : i < count_of kind sc.sizes = agree.inside kind i t in
    let slot : ℕ = vector_slot sc.sizes kind i in
    let role : role_of sc.sizes slot ≡ vector_role kind i = vector_slot-role sc.sizes kind i count in
    let kind_is : kind_in sc.sizes slot ≡ kind = ap sender_kind role ∙ role-kind kind i in
    let f : IsFinished sc hands m s slot (s.values slot) = agree.finished slot (vector_slot-lt sc.sizes kind i count) done in
    let sender : sender_of sc.sizes s slot ≡ Node i = ap (sender_in (s.trusted Biu) (s.trusted Rmu) s.owners) role ∙ role-sender s.trusted s.owners kind i t in
    record {
      finished = f;
      kind_is = kind_is;
      sender = sender;
      seen = λ others valid. false_from_ne_true (is_benign kind m.book.stages i) (λ benign.
          let fault : s.values slot ≡ Fault = f.is_value.unseen i sender (ap (λ k. is_benign k m.book.stages i) kind_is ∙ benign) in
          let both : true ≡ false = sym valid ∙ ap (is_valid others) fault in cc);
      good = λ good.
          let own : IsOwn sc hands m slot i (s.values slot) = f.is_value.own i sender (ap (λ k. is_good_now sc m k i) kind_is ∙ good) in
          subst (λ k. IsVector sc m (other k) (s.values slot)) kind_is (own.vector (ap is_diagnosis role ∙ role-diagnosis kind i));
    }

-- all slots below the sync slot are over at the end of a frame
end-done : {sc hands n m s : _} → AtEnd sc hands n m s → (slot : ℕ) → slot < sync_slot_of sc.sizes → 3 * slot + 3 ≤ m.window
end-done {sc} {m} e slot lt = let at : m.window ≡ windows_in sc.sizes = e.at in omega arith

pub vector_end : {sc hands n m s : _} → AtEnd sc hands n m s → (kind : Side) (i : ℕ) → has (s.trusted kind) i ≡ true → VectorOf sc hands m s kind i
vector_end {sc} e kind i t =
    vector_at e.agree kind i
    (end-done e (vector_slot sc.sizes kind i) (vector_slot-lt sc.sizes kind i (e.agree.inside kind i t))) t

-- Whom a good node convicts.

pub convicted_held : {sc hands n m s : _} → AtEnd sc hands n m s → {me i st : _} → IsGoodNode sc m me i st
    → (accused : Side) → convicted_at sc.sizes me st accused ≡ convicted_all sc.sizes s accused
convicted_held {sc} {hands} {m} {s} e {me} {i} {st} here accused =
    let holds : Holds sc m s me st = e.agree.nodes me i st here in
    let from : Side = other accused in
    let count : ℕ = count_of accused sc.sizes in
    ap (λ t. convicted_by count t (trusted_of me accused st) (voted_vector sc.sizes from st)) (trusted-either me from st ∙ holds.trusted from)
    ∙ ap (λ t. convicted_by count (s.trusted from) t (voted_vector sc.sizes from st)) (trusted-either me accused st ∙ holds.trusted accused)
    ∙ convicted_same count (s.trusted from) (s.trusted accused) (voted_vector sc.sizes from st) (λ j. s.values (vector_slot sc.sizes from j))
    (λ j below t.
    let v : VectorOf sc hands m s from j = vector_end e from j t in
    let role : role_of sc.sizes (vector_slot sc.sizes from j) ≡ vector_role from j = vector_slot-role sc.sizes from j (e.agree.inside from j t) in
    v.finished.held me i st here (ap (λ r. if has_third_stage r then true else same_side me Biu) role ∙ role-votes from j me))

-- The counts.

last-premise : {sc hands n m s : _} → AtEnd sc hands n m s
    → Premise sc m.frame (sync_slot_of sc.sizes) s.trusted m.book.stages
last-premise {sc} {m} e = e.agree.judged (let at : m.window ≡ windows_in sc.sizes = e.at in omega arith)

good-last : {sc hands n m s : _} → AtEnd sc hands n m s → (kind : Side) (i : ℕ)
    → is_good_now sc m kind i ≡ is_good sc kind i m.frame (sync_slot_of sc.sizes)
good-last {sc} {m} e kind i = ap (is_good sc kind i m.frame) (slot_last sc.sizes 4 e.at)

count-le : (p q : ℕ → Bool) → ((i : ℕ) → i < 16 → p i ≡ true → q i ≡ true) → count_if p (numbers 16) ≤ how_many q
count-le p q gives = le-by (how_many p) (count_if p (numbers 16)) (how_many q) (how_many-count p) (how_many-le p q gives)
  where
    le-by : (a b c : ℕ) → a ≡ b → a ≤ c → b ≤ c
    le-by a b c e h = omega arith

le-count : (p q : ℕ → Bool) → ((i : ℕ) → i < 16 → p i ≡ true → q i ≡ true) → how_many p ≤ count_if q (numbers 16)
le-count p q gives = le-by (how_many p) (how_many q) (count_if q (numbers 16)) (how_many-count q) (how_many-le p q gives)
  where
    le-by : (a b c : ℕ) → b ≡ c → a ≤ b → a ≤ c
    le-by a b c e h = omega arith

between : (a b c d : ℕ) → a ≤ b → b < c → c ≤ d → a < d
between a b c d h k l = omega arith

-- a valid vector of a node that is not good is one of an active node
valid-active : {sc hands n m s : _} (e : AtEnd sc hands n m s) (kind : Side) (others i : ℕ)
    → has (s.trusted kind) i ≡ true → is_valid others (s.values (vector_slot sc.sizes kind i)) ≡ true → is_good_now sc m kind i ≡ false
    → is_active sc kind m.frame (sync_slot_of sc.sizes) s.trusted m.book.stages i ≡ true
valid-active {sc} {hands} {m} {s} e kind others i t valid faulty =
    let v : VectorOf sc hands m s kind i = vector_end e kind i t in
    let not_good : is_good sc kind i m.frame (sync_slot_of sc.sizes) ≡ false = sym (good-last e kind i) ∙ faulty in
    and_from (has (s.trusted kind) i && not (is_good sc kind i m.frame (sync_slot_of sc.sizes))) (not (is_benign kind m.book.stages i))
    (and_from (has (s.trusted kind) i) (not (is_good sc kind i m.frame (sync_slot_of sc.sizes))) t (not_from_false (is_good sc kind i m.frame (sync_slot_of sc.sizes)) not_good))
    (not_from_false (is_benign kind m.book.stages i) (v.seen others valid))

-- a test on valid vectors that no good node's vector passes is passed by fewer than there are good
-- nodes
few_pass : {sc hands n m s : _} (e : AtEnd sc hands n m s) (kind : Side) (others : ℕ) (test : Heard → Bool)
    → ((i : ℕ) → has (s.trusted kind) i ≡ true → is_good_now sc m kind i ≡ true → test (s.values (vector_slot sc.sizes kind i)) ≡ false)
    → count_if (λ i. has (s.trusted kind) i && is_valid others (s.values (vector_slot sc.sizes kind i)) && test (s.values (vector_slot sc.sizes kind i))) (numbers 16)
    ≤ how_many (is_active sc kind m.frame (sync_slot_of sc.sizes) s.trusted m.book.stages)
few_pass {sc} {m} {s} e kind others test none =
    count-le (λ i. has (s.trusted kind) i && is_valid others (s.values (vector_slot sc.sizes kind i)) && test (s.values (vector_slot sc.sizes kind i)))
    (is_active sc kind m.frame (sync_slot_of sc.sizes) s.trusted m.book.stages)
    (λ i below h.
    let value : Heard = s.values (vector_slot sc.sizes kind i) in
    let both : (has (s.trusted kind) i && is_valid others value) ≡ true = and_first (has (s.trusted kind) i && is_valid others value) (test value) h in
    let t : has (s.trusted kind) i ≡ true = and_first (has (s.trusted kind) i) (is_valid others value) both in
    let faulty : is_good_now sc m kind i ≡ false =
    false_from_ne_true (is_good_now sc m kind i) (λ good.
    let contrary : true ≡ false = sym (and_second (has (s.trusted kind) i && is_valid others value) (test value) h) ∙ none i t good in cc) in
    valid-active e kind others i t (and_second (has (s.trusted kind) i) (is_valid others value) both) faulty)

many_pass : {sc hands n m s : _} (e : AtEnd sc hands n m s) (kind : Side) (others : ℕ) (test : Heard → Bool)
    → ((i : ℕ) → has (s.trusted kind) i ≡ true → is_good_now sc m kind i ≡ true
    → (is_valid others (s.values (vector_slot sc.sizes kind i)) ≡ true) × (test (s.values (vector_slot sc.sizes kind i)) ≡ true))
    → how_many (is_sound sc kind m.frame (sync_slot_of sc.sizes) s.trusted)
    ≤ count_if (λ i. has (s.trusted kind) i && is_valid others (s.values (vector_slot sc.sizes kind i)) && test (s.values (vector_slot sc.sizes kind i))) (numbers 16)
many_pass {sc} {m} {s} e kind others test all =
    le-count (is_sound sc kind m.frame (sync_slot_of sc.sizes) s.trusted)
    (λ i. has (s.trusted kind) i && is_valid others (s.values (vector_slot sc.sizes kind i)) && test (s.values (vector_slot sc.sizes kind i)))
    (λ i below h.
    let value : Heard = s.values (vector_slot sc.sizes kind i) in
    let t : has (s.trusted kind) i ≡ true = and_first (has (s.trusted kind) i) (is_good sc kind i m.frame (sync_slot_of sc.sizes)) h in
    let good : is_good_now sc m kind i ≡ true =
    good-last e kind i ∙ and_second (has (s.trusted kind) i) (is_good sc kind i m.frame (sync_slot_of sc.sizes)) h in
    let both = all i t good in
    and_from (has (s.trusted kind) i && is_valid others value) (test value) (and_from (has (s.trusted kind) i) (is_valid others value) t both.0) both.1)

-- a good node's vector, as one of the kind that is accused
far-vector : {sc hands n m s : _} (e : AtEnd sc hands n m s) (accused : Side) (i : ℕ)
    → has (s.trusted (other accused)) i ≡ true → is_good_now sc m (other accused) i ≡ true → IsVector sc m accused (s.values (vector_slot sc.sizes (other accused) i))
far-vector {sc} {m} {s} e accused i t good =
    subst (λ k. IsVector sc m k (s.values (vector_slot sc.sizes (other accused) i))) (other_twice accused) ((vector_end e (other accused) i t).good good)

-- no good node is convicted
pub good_not_convicted : {sc hands n m s : _} → AtEnd sc hands n m s → (accused : Side) (j : ℕ)
    → is_good_now sc m accused j ≡ true → has (convicted_all sc.sizes s accused) j ≡ false
good_not_convicted {sc} {m} {s} e accused j good =
    let from : Side = other accused in
    let others : ℕ = count_of accused sc.sizes in
    let vector : ℕ → Heard = λ i. s.values (vector_slot sc.sizes from i) in
    let p : Premise sc m.frame (sync_slot_of sc.sizes) s.trusted m.book.stages = last-premise e in
    let few : naming others (s.trusted from) vector j ≤ how_many (is_active sc from m.frame (sync_slot_of sc.sizes) s.trusted m.book.stages) =
    few_pass e from others (names j) (λ i t g. (far-vector e accused i t g).spared j good) in
    let many : how_many (is_sound sc from m.frame (sync_slot_of sc.sizes) s.trusted) ≤ sparing others (s.trusted from) vector j =
    many_pass e from others (λ v. not (names j v))
    (λ i t g. let v : IsVector sc m accused (vector i) = far-vector e accused i t g in (v.valid, not_from_false (names j (vector i)) (v.spared j good))) in
    spared_is_not_convicted others (s.trusted from) (s.trusted accused) vector j (good_below_16 sc e.law.sizes accused j m.frame (slot_numbered sc.sizes m.window) good)
    (le-from-lt (naming others (s.trusted from) vector j) (sparing others (s.trusted from) vector j)
    (between (naming others (s.trusted from) vector j) (how_many (is_active sc from m.frame (sync_slot_of sc.sizes) s.trusted m.book.stages))
    (how_many (is_sound sc from m.frame (sync_slot_of sc.sizes) s.trusted)) (sparing others (s.trusted from) vector j) few (p.most from) many))
  where
    le-from-lt : (a b : ℕ) → a < b → a ≤ b
    le-from-lt a b h = omega arith

-- a trusted node that the vectors of all good nodes name is convicted
pub named_by_all : {sc hands n m s : _} → AtEnd sc hands n m s → (accused : Side) (j : ℕ)
    → has (s.trusted accused) j ≡ true
    → ((i : ℕ) → has (s.trusted (other accused)) i ≡ true → is_good_now sc m (other accused) i ≡ true → names j (s.values (vector_slot sc.sizes (other accused) i)) ≡ true)
    → has (convicted_all sc.sizes s accused) j ≡ true
named_by_all {sc} {m} {s} e accused j t named =
    let from : Side = other accused in
    let others : ℕ = count_of accused sc.sizes in
    let vector : ℕ → Heard = λ i. s.values (vector_slot sc.sizes from i) in
    let p : Premise sc m.frame (sync_slot_of sc.sizes) s.trusted m.book.stages = last-premise e in
    let few : sparing others (s.trusted from) vector j ≤ how_many (is_active sc from m.frame (sync_slot_of sc.sizes) s.trusted m.book.stages) =
    few_pass e from others (λ v. not (names j v)) (λ i t g. ap not (named i t g)) in
    let many : how_many (is_sound sc from m.frame (sync_slot_of sc.sizes) s.trusted) ≤ naming others (s.trusted from) vector j =
    many_pass e from others (names j) (λ i t g. ((far-vector e accused i t g).valid, named i t g)) in
    let few_kind : count_of accused sc.sizes ≤ 16 = few_nodes e.law.sizes accused in
    named_is_convicted others (s.trusted from) (s.trusted accused) vector j (omega (arith, e.agree.inside accused j t, few_kind)) t
    (between (sparing others (s.trusted from) vector j) (how_many (is_active sc from m.frame (sync_slot_of sc.sizes) s.trusted m.book.stages))
    (how_many (is_sound sc from m.frame (sync_slot_of sc.sizes) s.trusted)) (naming others (s.trusted from) vector j) few (p.most from) many)
