-- For the law that events are rounds: what a tick of a node changes of what it has sent in the
-- rounds.
use Rattle.std.proofs.{Common.{◌≡◌, ℕ, zero, suc, ◌+◌, ◌*◌, ◌<◌, ◌≤◌, ◌==◌, ◌&&◌, ◌||◌, ◌⊎◌, nat_lt, Bool, true, false, List, [], ◌∷◌, refl, ap, sym, ◌∙◌, subst, arith, inl, inr, Option, Some, None, slice_get, option_map, get_or}, lemmas.Bool.{cases_lt, eqb-true, le-ltb, lt-ltb}, lemmas.Bool.Decides.nat_tests, lemmas.Option.get_or_from_slice_get}
use Rattle.rb_base.specs.{Nodes.Side, Sizes.{Sizes, sync_slot_of}}
use Rattle.rb_base.proofs.Plain.{eq_self}
use Rattle.rb_rules.specs.{declared.message.Message.Message, declared.plan.Window.Window, Book.{of_kind, map_each}, Core.if_at, Goodness.Scenario, Hearing.{Sending, sending}, NodeState.NodeState, Rounds.{Moment, sending_in, sent_in, window_in, windows_in}, WorldStep.Timed}
use Rattle.rb_rules.proofs.WindowNumbers.{get-each, sync-numbered}
use Rattle.rb_laws_events.specs.Closing.{stages_in}
use Rattle.rb_laws_events.proofs.{Invariant.{has_sent, is_past, sending_of, word_at}, NodeSends.{sending_at, unsent}, NodeTicks.gone}

-- What a node sends in the rounds.

past-end : {X : Type 0} (xs : List X) (j : ℕ) (d : X) → slice_get xs j ≡ None → get_or xs j d ≡ d
past-end [] j d e = refl
past-end (x ∷ xs) zero d e = cc
past-end (x ∷ xs) (suc j) d e = past-end xs j d e

pub sending-of-is : (sc : Scenario) (m : Moment) (me : Side) (i : ℕ) {st : _} → slice_get (of_kind me m.nodes) i ≡ Some st
    → sending_of sc m me i ≡ sending_at sc.sizes sc.plan me i st m.window (word_at sc m me i st)
unfolding sent_in
sending-of-is sc m me i {st} e =
    let make : Side → ℕ → NodeState → Option Sending = λ me i st. sending_in sc m me i st (window_in sc m me st) in
    get_or_from_slice_get (of_kind me (map_each make m.nodes)) i (make me i st) None (get-each make m.nodes me i ∙ ap (option_map (make me i)) e)

tail-numbered : (sizes : Sizes) (me : Side) (n : ℕ) → stages_in sizes ≤ n → n ≤ windows_in sizes → (n ≡ 3 * sync_slot_of sizes + 3) ⊎ (n ≡ 3 * sync_slot_of sizes + 4)
tail-numbered sizes me n a b = elim (cases_lt n (3 * sync_slot_of sizes + 4)) [ inl lt ↦ inl (omega arith) | inr ge ↦ inr (omega arith) ]

none-there : (sc : Scenario) (m : Moment) (me : Side) (i : ℕ) → slice_get (of_kind me m.nodes) i ≡ None → sending_of sc m me i ≡ None
unfolding sent_in
none-there sc m me i e =
    let make : Side → ℕ → NodeState → Option Sending = λ me i st. sending_in sc m me i st (window_in sc m me st) in
    past-end (of_kind me (map_each make m.nodes)) i None (get-each make m.nodes me i ∙ ap (option_map (make me i)) e)

-- in the tail and at the end of a frame nobody sends
pub none-of-tail : (sc : Scenario) (m : Moment) (me : Side) (i : ℕ) → stages_in sc.sizes ≤ m.window → m.window ≤ windows_in sc.sizes → sending_of sc m me i ≡ None
none-of-tail sc m me i low high = by (slice_get (of_kind me m.nodes) i) refl
  where
    at : (st : NodeState) (word n : ℕ) → (n ≡ 3 * sync_slot_of sc.sizes + 3) ⊎ (n ≡ 3 * sync_slot_of sc.sizes + 4)
        → sending_at sc.sizes sc.plan me i st n word ≡ None
    at st word n (inl e) =
        ap (λ n. sending_at sc.sizes sc.plan me i st n word) e
        ∙ ap (λ (w : Window). sending sc.sizes sc.plan me i st w.slot w.stage word) (sync-numbered sc.sizes sc.plan me st 3) ∙ unsent sc.sizes sc.plan me i st word
    at st word n (inr e) =
        ap (λ n. sending_at sc.sizes sc.plan me i st n word) e
        ∙ ap (λ (w : Window). sending sc.sizes sc.plan me i st w.slot w.stage word) (sync-numbered sc.sizes sc.plan me st 4) ∙ unsent sc.sizes sc.plan me i st word

    by : (o : Option NodeState) → slice_get (of_kind me m.nodes) i ≡ o → sending_of sc m me i ≡ None
    by None e = none-there sc m me i e
    by (Some st) e = sending-of-is sc m me i e ∙ at st (word_at sc m me i st) m.window (tail-numbered sc.sizes me m.window low high)

-- What changes.

-- a message has gone out before the pending tick
abbrev pub past : Option Sending → Option Timed → Bool
past None a = false
past (Some s) a = is_past s.tick a

-- a node with tick `k` pending in moment `q` then has tick `b` pending in moment `r`, if any
pub record Steps (so : ℕ → Option Sending) (q k r : ℕ) (b : Option Timed) : Type 0 where
  pub how : ((r ≡ q) × (gone (so q) (k + 1) ≡ past (so q) b)) ⊎ ((q < r) × (past (so r) b ≡ false))
  pub between : (p : ℕ) → q < p → p < r → so p ≡ None
  pub all : q < r → (s : Sending) → so q ≡ Some s → s.tick ≤ k

-- the node says nothing at tick `k`, and what it has sent is the same
pub record SaysNothing (so : ℕ → Option Sending) (q k r : ℕ) (a : Timed) (b : Option Timed) : Type 0 where
  pub silent : if_at k (so q) ≡ None
  pub same : (p : ℕ) → has_sent (so p) r b p ≡ has_sent (so p) q (Some a) p

pub record SaysNow (so : ℕ → Option Sending) (q k r : ℕ) (a : Timed) (b : Option Timed) : Type 0 where
  pub message : Sending
  pub is : so q ≡ Some message
  pub tick : message.tick ≡ k
  pub said : if_at k (so q) ≡ Some message.message
  pub before : has_sent (so q) q (Some a) q ≡ false
  pub after : has_sent (so q) r b q ≡ true
  pub elsewhere : (p : ℕ) → (p == q) ≡ false → has_sent (so p) r b p ≡ has_sent (so p) q (Some a) p

differs : (a b : ℕ) → (a < b) ⊎ (b < a) → (a == b) ≡ false
differs a b (inl h) = grind (arith, nat_tests)
differs a b (inr h) = grind (arith, nat_tests)

other-than : (a b : ℕ) → (a == b) ≡ false → (a < b) ⊎ (b < a)
other-than a b h = elim (cases_lt a b) [ inl lt ↦ inl lt | inr ge ↦ inr (grind (arith, nat_tests)) ]

-- whether a node has sent what it sends in an earlier moment, in this one, in a later one
pub sent-earlier : (o : Option Sending) {s : _} (q p : ℕ) (a : Option Timed) → o ≡ Some s → p < q → has_sent o q a p ≡ true
sent-earlier None q p a e h = cc
sent-earlier (Some x) q p a e h = ap (λ b. b || ((p == q) && is_past x.tick a)) (lt-ltb p q h)

pub sent-here : (o : Option Sending) (q : ℕ) (a : Option Timed) → has_sent o q a q ≡ past o a
sent-here None q a = refl
sent-here (Some s) q a =
    ap (λ b. b || ((q == q) && is_past s.tick a)) (le-ltb q q (omega arith)) ∙ ap (λ b. b && is_past s.tick a) (eq_self q)

pub sent-later : (o : Option Sending) (q p : ℕ) (a : Option Timed) → q < p → has_sent o q a p ≡ false
sent-later None q p a h = refl
sent-later (Some s) q p a h =
    ap (λ b. b || ((p == q) && is_past s.tick a)) (le-ltb p q (omega arith)) ∙ ap (λ b. b && is_past s.tick a) (differs p q (inr h))

sent-before : (o : Option Sending) (q r p : ℕ) (a b : Option Timed) → p < q → p < r → has_sent o r b p ≡ has_sent o q a p
sent-before None q r p a b h k = refl
sent-before (Some s) q r p a b h k = sent-earlier (Some s) r p b refl k ∙ sym (sent-earlier (Some s) q p a refl h)

sent-elsewhere : {so q k r : _} (a : Timed) {b : _} → Steps so q k r b → (p : ℕ) → (p == q) ≡ false
    → has_sent (so p) r b p ≡ has_sent (so p) q (Some a) p
sent-elsewhere {so} {q} {r} a {b} steps p differ =
    elim (other-than p q differ) [
      | inl before ↦ sent-before (so p) q r p (Some a) b before (elim steps.how [ inl stay ↦ omega (arith, stay.0) | inr go ↦ omega (arith, go.0) ])
      | inr after ↦ elim steps.how [
        | inl stay ↦ sent-later (so p) r p b (omega (arith, stay.0)) ∙ sym (sent-later (so p) q p (Some a) after)
        | inr go ↦ elim (cases_lt p r) [
          | inl lt ↦
              let none : so p ≡ None = steps.between p after lt in
              ap (λ o. has_sent o r b p) none ∙ sym (ap (λ o. has_sent o q (Some a) p) none)
          | inr ge ↦ elim (cases_lt r p) [
            | inl lt ↦ sent-later (so p) r p b lt ∙ sym (sent-later (so p) q p (Some a) after)
            | inr le ↦
                let same : r ≡ p = omega arith in
                ap (λ r. has_sent (so p) r b p) same ∙ sent-here (so p) p b ∙ sym (ap (λ p. past (so p) b) same) ∙ go.1 ∙ sym (sent-later (so p) q p (Some a) after)
          ]
        ]
      ]
    ]

if-none : (s : Sending) (k : ℕ) → (s.tick == k) ≡ false → if_at k (Some s) ≡ None
if-none s k e = ap (λ b. elim b as (λ _. Option Message) [ true ↦ Some s.message | false ↦ None ]) e

if-some : (s : Sending) (k : ℕ) → (s.tick == k) ≡ true → if_at k (Some s) ≡ Some s.message
if-some s k e = ap (λ b. elim b as (λ _. Option Message) [ true ↦ Some s.message | false ↦ None ]) e

lt-same : (s : Sending) (k : ℕ) → (s.tick == k) ≡ false → nat_lt s.tick (k + 1) ≡ nat_lt s.tick k
lt-same s k e = elim (other-than s.tick k e) [
  | inl lt ↦ lt-ltb s.tick (k + 1) (omega arith) ∙ sym (lt-ltb s.tick k lt)
  | inr gt ↦ le-ltb s.tick (k + 1) (omega arith) ∙ sym (le-ltb s.tick k (omega arith))
]

-- at a tick a node says nothing, or what it says in its own moment
sent-own : {so q k r : _} (a : Timed) {b : _} → a.tick ≡ k → Steps so q k r b → (o : Option Sending) → so q ≡ o
    → (SaysNothing so q k r a b) ⊎ (SaysNow so q k r a b)
sent-own {so} {q} {k} {r} a {b} at steps None e =
    inl (record {
      silent = ap (if_at k) e;
      same = λ p.
          let go : (d : Bool) → (p == q) ≡ d → has_sent (so p) r b p ≡ has_sent (so p) q (Some a) p =
          λ d. elim d as (λ d. (p == q) ≡ d → has_sent (so p) r b p ≡ has_sent (so p) q (Some a) p) [
            | true ↦ λ f.
                let none : so p ≡ None = ap so (eqb-true p q f) ∙ e in
                ap (λ o. has_sent o r b p) none ∙ sym (ap (λ o. has_sent o q (Some a) p) none)
            | false ↦ λ f. sent-elsewhere a steps p f
          ] in
          go (p == q) refl;
    })
sent-own {so} {q} {k} {r} a {b} at steps (Some s) e =
    let before : has_sent (so q) q (Some a) q ≡ nat_lt s.tick k =
    sent-here (so q) q (Some a) ∙ ap (λ o. past o (Some a)) e ∙ ap (nat_lt s.tick) at in
    let after : has_sent (so q) r b q ≡ nat_lt s.tick (k + 1) = elim steps.how [
      | inl stay ↦ ap (λ r. has_sent (so q) r b q) stay.0 ∙ sent-here (so q) q b ∙ sym stay.1 ∙ ap (λ o. gone o (k + 1)) e
      | inr go ↦ let le : s.tick ≤ k = steps.all go.0 s e in sent-earlier (so q) r q b e go.0 ∙ sym (lt-ltb s.tick (k + 1) (omega arith))
    ] in
    let by : (d : Bool) → (s.tick == k) ≡ d → (SaysNothing so q k r a b) ⊎ (SaysNow so q k r a b) =
    λ d. elim d as (λ d. (s.tick == k) ≡ d → (SaysNothing so q k r a b) ⊎ (SaysNow so q k r a b)) [
      | true ↦ λ f.
          let same : s.tick ≡ k = eqb-true s.tick k f in
          inr (record {
            message = s;
            is = e;
            tick = same;
            said = ap (if_at k) e ∙ if-some s k f;
            before = before ∙ le-ltb s.tick k (omega arith);
            after = after ∙ lt-ltb s.tick (k + 1) (omega arith);
            elsewhere = λ p f. sent-elsewhere a steps p f;
          })
      | false ↦ λ f.
          inl (record {
            silent = ap (if_at k) e ∙ if-none s k f;
            same = λ p.
                let go : (d : Bool) → (p == q) ≡ d → has_sent (so p) r b p ≡ has_sent (so p) q (Some a) p =
                λ d. elim d as (λ d. (p == q) ≡ d → has_sent (so p) r b p ≡ has_sent (so p) q (Some a) p) [
                  | true ↦ λ g.
                      let same : p ≡ q = eqb-true p q g in
                      subst (λ p. has_sent (so p) r b p ≡ has_sent (so p) q (Some a) p) (sym same) (after ∙ lt-same s k f ∙ sym before)
                  | false ↦ λ g. sent-elsewhere a steps p g
                ] in
                go (p == q) refl;
          })
    ] in
    by (s.tick == k) refl

pub sent-changes : {so q k r : _} (a : Timed) {b : _} → a.tick ≡ k → Steps so q k r b
    → (SaysNothing so q k r a b) ⊎ (SaysNow so q k r a b)
sent-changes {so} {q} a at steps = sent-own a at steps (so q) refl
