-- For the law that events are rounds: a tick of one node keeps all nodes of the world: that node
-- goes on or stops, and what it says is on its way to the nodes of the other kind.
use Rattle.std.proofs.{Common.{◌≡◌, ℕ, ◌<◌, ◌≤◌, ◌==◌, ◌&&◌, ◌⊎◌, Bool, true, false, List, [], ◌∷◌, ◌++◌, length, refl, ap, sym, ◌∙◌, subst, inl, inr, Option, Some, None, slice_get, option_and_then, option_map, option_to_list}, lemmas.Bool.{eqb-true, true≢false}, lemmas.Option.same_Some}
use Rattle.rb_base.specs.{Nodes.{Side, other}, Nodes.Side.{Biu, Rmu}}
use Rattle.rb_base.proofs.Plain.{option_map-back, option_map-twice}
use Rattle.rb_rules.specs.{declared.message.Message.Message, Book.{Each, of_kind}, Clock.time_of, Core.if_at, Goodness.{Scenario, clock_of}, Hearing.{Coming, Sending, coming_of}, Lawful.IsLawful, NodeState.NodeState, Ports.HandIn, Rounds.moment, Slots.{count_of, same_side}, WorldStep.{Timed, Site, at_node, sent_to, with_message}}
use Rattle.rb_rules.proofs.{Slots.{one_or_other, other_twice, same_side_self}, WindowNumbers.{get-each, length-each}}
use Rattle.rb_laws_events.proofs.{Invariant.{NodeStands, entry_of, has_sent, is_good_at, sending_of}, NodeEvents.stands-on, ReceiverHears.{Lands, SendsFor, comes-after, stands-more, stands-same}, SentChanges.{SaysNothing, SaysNow, Steps, sent-changes}, WorldStands.{AllPend, IsDown, IsUp, SitesStand, ahead_in, get-at, is_node, node-is, node-itself, not-other, same-sent, sent_by}}

-- the moments in which the nodes stand, with a new one for one node
abbrev pub moved : Side → ℕ → ℕ → (Side → ℕ → ℕ) → Side → ℕ → ℕ
moved me i r at side j = elim (is_node me i side j) [ true ↦ r | false ↦ at side j ]

-- the site of a node when another one may have sent a message to it
abbrev pub reached : Scenario → Side → ℕ → ℕ → ℕ → Option Message → Side → ℕ → Site → Site
reached sc me i frame k None side j s = s
reached sc me i frame k (Some m) side j s = sent_to sc me i frame (record { tick = k; message = m }) side j s

-- the site of a node after the tick
abbrev pub after_tick : Scenario → Side → ℕ → ℕ → ℕ → Option Message → (Site → Site) → Side → ℕ → Site → Site
after_tick sc me i frame k m change side j s = reached sc me i frame k m side j (elim (is_node me i side j) as (λ _. Site) [ true ↦ change s | false ↦ s ])

pub get-after : (sc : Scenario) (me : Side) (i frame k : ℕ) (m : Option Message) (change : Site → Site) (sites : Each Site) (side : Side) (j : ℕ)
    → slice_get (of_kind side (with_message sc me i frame k m (at_node me i change sites))) j
    ≡ option_map (after_tick sc me i frame k m change side j) (slice_get (of_kind side sites) j)
get-after sc me i frame k None change sites side j = get-at me side i j change sites
get-after sc me i frame k (Some m) change sites side j =
    let x : Sending = record { tick = k; message = m } in
    let f : Site → Site = λ s. elim (is_node me i side j) as (λ _. Site) [ true ↦ change s | false ↦ s ] in
    get-each (sent_to sc me i frame x) (at_node me i change sites) side j
    ∙ ap (option_map (sent_to sc me i frame x side j)) (get-at me side i j change sites)
    ∙ option_map-twice f (sent_to sc me i frame x side j) (slice_get (of_kind side sites) j)

pub length-after : (sc : Scenario) (me : Side) (i frame k : ℕ) (m : Option Message) (change : Site → Site) (sites : Each Site) (side : Side)
    → length (of_kind side (with_message sc me i frame k m (at_node me i change sites))) ≡ length (of_kind side sites)
length-after sc me i frame k None change sites side = length-each (λ side n s. elim (is_node me i side n) as (λ _. Site) [ true ↦ change s | false ↦ s ]) sites side
length-after sc me i frame k (Some m) change sites side =
    length-each (sent_to sc me i frame (record { tick = k; message = m })) (at_node me i change sites) side
    ∙ length-each (λ side n s. elim (is_node me i side n) as (λ _. Site) [ true ↦ change s | false ↦ s ]) sites side

-- a message leaves whether the node runs, and its pending tick
pub record Same (s z : Site) : Type 0 where
  pub runs : z.runs ≡ s.runs
  pub ahead : z.ahead ≡ s.ahead

pub reached-same : (sc : Scenario) (me : Side) (i frame k : ℕ) (m : Option Message) (side : Side) (j : ℕ) (s : Site) → Same s (reached sc me i frame k m side j s)
reached-same sc me i frame k None side j s = record { runs = refl; ahead = refl }
reached-same sc me i frame k (Some m) side j s = by (same_side side (other me) && s.runs)
  where
    by : (b : Bool) → Same s (elim b as (λ _. Site) [
      | true ↦ record s { coming = s.coming ++ coming_of sc side j i frame (record { tick = k; message = m }) ∷ [] }
      | false ↦ s
    ])
    by true = record { runs = refl; ahead = refl }
    by false = record { runs = refl; ahead = refl }

pub kind-other : (me : Side) → same_side me (other me) ≡ false
kind-other Biu = refl
kind-other Rmu = refl

-- a message reaches neither a node of its sender's kind nor one that has stopped
pub reached-not : (sc : Scenario) (me : Side) (i frame k : ℕ) (m : Option Message) (side : Side) (j : ℕ) (s : Site) → (same_side side (other me) && s.runs) ≡ false
    → reached sc me i frame k m side j s ≡ s
reached-not sc me i frame k None side j s e = refl
reached-not sc me i frame k (Some m) side j s e =
    ap (λ b. elim b as (λ _. Site) [
      | true ↦ record s { coming = s.coming ++ coming_of sc side j i frame (record { tick = k; message = m }) ∷ [] }
      | false ↦ s
    ]) e

-- What has been sent afterwards.

unfoldable pub sent_then : Scenario → List HandIn → (Side → ℕ → ℕ) → Each Site → Side → ℕ → ℕ → Option Timed → Side → ℕ → ℕ → Bool
sent_then sc hands at sites me i r b side j p =
    elim (is_node me i side j) [ true ↦ has_sent (sending_of sc (moment sc hands p) me i) r b p | false ↦ sent_by sc hands at sites side j p ]

sent-then-is : (sc : Scenario) (hands : List HandIn) (at : Side → ℕ → ℕ) (sites : Each Site) (me : Side) (i r frame k : ℕ) {b : _} (m : Option Message) (change : Site → Site) {s : _}
    → slice_get (of_kind me sites) i ≡ Some s → (change s).ahead ≡ b
    → sent_then sc hands at sites me i r b ≡ sent_by sc hands (moved me i r at) (with_message sc me i frame k m (at_node me i change sites))
unfolding sent_then
sent-then-is sc hands at sites me i r frame k {b} m change {s} there ahead =
    let new : Each Site = with_message sc me i frame k m (at_node me i change sites) in
    same-sent (sent_then sc hands at sites me i r b) (sent_by sc hands (moved me i r at) new)
    (λ side j p.
    let so : Option Sending = sending_of sc (moment sc hands p) side j in
    let pend : ahead_in (of_kind side new) j ≡ option_and_then (λ (s : Site). s.ahead) (option_map (after_tick sc me i frame k m change side j) (slice_get (of_kind side sites) j)) =
    ap (option_and_then (λ (s : Site). s.ahead)) (get-after sc me i frame k m change sites side j) in
    let go : (d : Bool) → is_node me i side j ≡ d
    → (elim d as (λ _. Bool) [ true ↦ has_sent (sending_of sc (moment sc hands p) me i) r b p | false ↦ sent_by sc hands at sites side j p ])
    ≡ has_sent so (elim d as (λ _. ℕ) [ true ↦ r | false ↦ at side j ]) (ahead_in (of_kind side new) j) p =
    λ d. elim d as (λ d. is_node me i side j ≡ d
    → (elim d as (λ _. Bool) [ true ↦ has_sent (sending_of sc (moment sc hands p) me i) r b p | false ↦ sent_by sc hands at sites side j p ])
    ≡ has_sent so (elim d as (λ _. ℕ) [ true ↦ r | false ↦ at side j ]) (ahead_in (of_kind side new) j) p) [
      | true ↦ λ e.
          let is = node-is me side i j e in
          let its : slice_get (of_kind side sites) j ≡ Some s = ap (λ k. slice_get (of_kind k sites) j) is.0 ∙ ap (slice_get (of_kind me sites)) is.1 ∙ there in
          let same : Same (change s) (reached sc me i frame k m side j (change s)) = reached-same sc me i frame k m side j (change s) in
          let now : ahead_in (of_kind side new) j ≡ b =
          pend ∙ ap (λ o. option_and_then (λ (s : Site). s.ahead) (option_map (after_tick sc me i frame k m change side j) o)) its
          ∙ ap (λ d. (reached sc me i frame k m side j (elim d as (λ _. Site) [ true ↦ change s | false ↦ s ])).ahead) e ∙ same.ahead ∙ ahead in
          ap (λ o. has_sent o r b p) (sym (ap (λ k. sending_of sc (moment sc hands p) k j) is.0 ∙ ap (sending_of sc (moment sc hands p) me) is.1))
          ∙ ap (λ o. has_sent so r o p) (sym now)
      | false ↦ λ e.
          let kept : (o : Option Site) → option_and_then (λ (s : Site). s.ahead) (option_map (after_tick sc me i frame k m change side j) o) ≡ option_and_then (λ (s : Site). s.ahead) o =
          λ o. elim o as (λ o. option_and_then (λ (s : Site). s.ahead) (option_map (after_tick sc me i frame k m change side j) o) ≡ option_and_then (λ (s : Site). s.ahead) o) [
            | None ↦ refl
            | Some z ↦
                let same : Same z (reached sc me i frame k m side j z) = reached-same sc me i frame k m side j z in
                ap (λ d. (reached sc me i frame k m side j (elim d as (λ _. Site) [ true ↦ change z | false ↦ z ])).ahead) e ∙ same.ahead
          ] in
          ap (λ o. has_sent so (at side j) o p) (sym (pend ∙ kept (slice_get (of_kind side sites) j)))
    ] in
    go (is_node me i side j) refl)

-- The node itself afterwards.

up-same : {sc : Scenario} {hands : List HandIn} {sent : Side → ℕ → ℕ → Bool} (sent2 : Side → ℕ → ℕ → Bool) {now : ℕ} {me : Side} {i p : ℕ} {s : Site}
    → ((j p : ℕ) → sent2 (other me) j p ≡ sent (other me) j p) → IsUp sc hands sent now me i p s → IsUp sc hands sent2 now me i p s
up-same sent2 same h =
    record { st = h.st; a = h.a; stands = stands-same sent2 same h.stands }

-- What happens at the other nodes.

-- a tick of a node changes nothing of what nodes of the other kind have sent
same-kind-on : (sc : Scenario) (hands : List HandIn) (at : Side → ℕ → ℕ) (sites : Each Site) (me : Side) (i r : ℕ) (b : Option Timed) (j p : ℕ)
    → sent_then sc hands at sites me i r b (other me) j p ≡ sent_by sc hands at sites (other me) j p
unfolding sent_then
same-kind-on sc hands at sites me i r b j p =
    ap (λ d. elim d as (λ _. Bool) [ true ↦ has_sent (sending_of sc (moment sc hands p) me i) r b p | false ↦ sent_by sc hands at sites (other me) j p ]) (not-other me i j)

-- the other nodes of its kind have sent what they had sent, and what the node itself has sent is
-- known
sent-then-own : (sc : Scenario) (hands : List HandIn) (at : Side → ℕ → ℕ) (sites : Each Site) (me : Side) (i r : ℕ) (b : Option Timed) (p : ℕ)
    → sent_then sc hands at sites me i r b me i p ≡ has_sent (sending_of sc (moment sc hands p) me i) r b p
unfolding sent_then
sent-then-own sc hands at sites me i r b p =
    ap (λ d. elim d as (λ _. Bool) [ true ↦ has_sent (sending_of sc (moment sc hands p) me i) r b p | false ↦ sent_by sc hands at sites me i p ]) (node-itself me i)

sent-then-other : (sc : Scenario) (hands : List HandIn) (at : Side → ℕ → ℕ) (sites : Each Site) (me : Side) (i r : ℕ) (b : Option Timed) (j p : ℕ) → (j == i) ≡ false
    → sent_then sc hands at sites me i r b me j p ≡ sent_by sc hands at sites me j p
unfolding sent_then
sent-then-other sc hands at sites me i r b j p e =
    ap (λ d. elim d as (λ _. Bool) [ true ↦ has_sent (sending_of sc (moment sc hands p) me i) r b p | false ↦ sent_by sc hands at sites me j p ])
    (ap (λ x. x && (j == i)) (same_side_self me) ∙ e)

-- what the node had sent before, by its pending tick
own-before : (sc : Scenario) (hands : List HandIn) (at : Side → ℕ → ℕ) (sites : Each Site) (me : Side) (i : ℕ) {s a : _} (p : ℕ)
    → slice_get (of_kind me sites) i ≡ Some s → s.ahead ≡ Some a
    → sent_by sc hands at sites me i p ≡ has_sent (sending_of sc (moment sc hands p) me i) (at me i) (Some a) p
own-before sc hands at sites me i {s} p there pend =
    ap (λ o. has_sent (sending_of sc (moment sc hands p) me i) (at me i) (option_and_then (λ (s : Site). s.ahead) o) p) there
    ∙ ap (λ o. has_sent (sending_of sc (moment sc hands p) me i) (at me i) o p) pend

-- if the node said nothing, what has been sent stays the same
then-silent : (sc : Scenario) (hands : List HandIn) (at : Side → ℕ → ℕ) (sites : Each Site) (me : Side) (i : ℕ) {k r s a b : _}
    → slice_get (of_kind me sites) i ≡ Some s → s.ahead ≡ Some a → SaysNothing (λ p. sending_of sc (moment sc hands p) me i) (at me i) k r a b
    → (j p : ℕ) → sent_then sc hands at sites me i r b me j p ≡ sent_by sc hands at sites me j p
then-silent sc hands at sites me i {r} {b} there pend says j p =
    let go : (d : Bool) → (j == i) ≡ d → sent_then sc hands at sites me i r b me j p ≡ sent_by sc hands at sites me j p =
    λ d. elim d as (λ d. (j == i) ≡ d → sent_then sc hands at sites me i r b me j p ≡ sent_by sc hands at sites me j p) [
      | true ↦ λ e.
          subst (λ j. sent_then sc hands at sites me i r b me j p ≡ sent_by sc hands at sites me j p) (sym (eqb-true j i e))
          (sent-then-own sc hands at sites me i r b p ∙ says.same p ∙ sym (own-before sc hands at sites me i p there pend))
      | false ↦ λ e. sent-then-other sc hands at sites me i r b j p e
    ] in
    go (j == i) refl

-- if the node said what it says in its moment, it has sent that and no more
then-said : (sc : Scenario) (hands : List HandIn) (at : Side → ℕ → ℕ) (sites : Each Site) (me : Side) (i : ℕ) {k r s a b : _}
    → slice_get (of_kind me sites) i ≡ Some s → s.ahead ≡ Some a → SaysNow (λ p. sending_of sc (moment sc hands p) me i) (at me i) k r a b
    → SendsFor (sent_by sc hands at sites me) (sent_then sc hands at sites me i r b me) i (at me i)
then-said sc hands at sites me i {r} {b} there pend says = record {
  others = λ j p e. sent-then-other sc hands at sites me i r b j p e;
  elsewhere = λ p e. sent-then-own sc hands at sites me i r b p ∙ says.elsewhere p e ∙ sym (own-before sc hands at sites me i p there pend);
  before = own-before sc hands at sites me i (at me i) there pend ∙ says.before;
  after = sent-then-own sc hands at sites me i r b (at me i) ∙ says.after;
}

-- what is on its way to node j of the other kind
abbrev pub on_way : Scenario → Side → ℕ → ℕ → ℕ → Message → ℕ → Coming
on_way sc me i frame k m j = coming_of sc (other me) j i frame (record { tick = k; message = m })

-- the tick of the node is due, and the node is good and stands in moment `at me i`
pub record TicksNow (sc : Scenario) (hands : List HandIn) (at : Side → ℕ → ℕ) (sites : Each Site) (me : Side) (i frame k r : ℕ) (m : Option Message) (s : Site) (a : Timed) (b : Option Timed) : Type 0 where
  pub there : slice_get (of_kind me sites) i ≡ Some s
  pub pend : s.ahead ≡ Some a
  pub tick : a.tick ≡ k
  pub time : a.time ≡ time_of (clock_of sc me i) k
  pub in_frame : frame ≡ (moment sc hands (at me i)).frame
  pub good : is_good_at sc (moment sc hands (at me i)) me i ≡ true
  pub counted : i < count_of me sc.sizes
  pub message : m ≡ if_at k (sending_of sc (moment sc hands (at me i)) me i)
  pub steps : Steps (λ p. sending_of sc (moment sc hands p) me i) (at me i) k r b

reached-running : (sc : Scenario) (me : Side) (i frame k : ℕ) (m : Message) (j : ℕ) (s : Site) → s.runs ≡ true
    → reached sc me i frame k (Some m) (other me) j s ≡ record s { coming = s.coming ++ on_way sc me i frame k m j ∷ [] }
reached-running sc me i frame k m j s runs =
    ap (λ b. elim b as (λ _. Site) [
      | true ↦ record s { coming = s.coming ++ coming_of sc (other me) j i frame (record { tick = k; message = m }) ∷ [] }
      | false ↦ s
    ]) (ap (λ x. x && s.runs) (same_side_self (other me)) ∙ runs)

-- a node of the other kind still stands when the node's message is on its way to it
other-on : {sc : Scenario} {hands : List HandIn} {at : Side → ℕ → ℕ} {sites : Each Site} {me : Side} {i frame k r : ℕ} {m : Option Message} {s : Site} {a : Timed} {b : Option Timed}
    → IsLawful sc → TicksNow sc hands at sites me i frame k r m s a b → {j : ℕ} {z : Site} → z.runs ≡ true
    → ((x : Sending) → sending_of sc (moment sc hands (at me i)) me i ≡ Some x → x.tick ≡ k → (st : NodeState) (c : Timed)
    → NodeStands sc hands (sent_by sc hands at sites) a.time (other me) j (at (other me) j) z st c
    → Lands sc hands (other me) j (at (other me) j) (at me i) st (on_way sc me i frame k x.message j))
    → IsUp sc hands (sent_by sc hands at sites) a.time (other me) j (at (other me) j) z
    → IsUp sc hands (sent_then sc hands at sites me i r b) a.time (other me) j (at (other me) j) (reached sc me i frame k m (other me) j z)
other-on {sc} {hands} {at} {sites} {me} {i} {frame} {k} {r} {m} {a} {b} lawful now {j} {z} runs lands h =
    let so : ℕ → Option Sending = λ p. sending_of sc (moment sc hands p) me i in
    let q : ℕ = at me i in
    let old : Side → ℕ → ℕ → Bool = sent_by sc hands at sites in
    let new : Side → ℕ → ℕ → Bool = sent_then sc hands at sites me i r b in
    elim (sent-changes a now.tick now.steps) [
      | inl silent ↦
          let none : m ≡ None = now.message ∙ silent.silent in
          subst (λ m. IsUp sc hands new a.time (other me) j (at (other me) j) (reached sc me i frame k m (other me) j z)) (sym none)
          (up-same new
          (λ n p. ap (λ x. new x n p) (other_twice me) ∙ then-silent sc hands at sites me i now.there now.pend silent n p ∙ sym (ap (λ x. old x n p) (other_twice me))) h)
      | inr says ↦
          let x : Sending = says.message in
          let some : m ≡ Some x.message = now.message ∙ says.said in
          let e : Coming = on_way sc me i frame k x.message j in
          let x_is : x ≡ record { tick = k; message = x.message } = ap (λ t. let y : Sending = record { tick = t; message = x.message } in y) says.tick in
          let entry : entry_of sc (moment sc hands q) (other me) j i ≡ e ∷ [] =
          ap (λ y. option_to_list (option_map (coming_of sc (other me) j i (moment sc hands q).frame) (sending_of sc (moment sc hands q) y i))) (other_twice me)
          ∙ ap (λ o. option_to_list (option_map (coming_of sc (other me) j i (moment sc hands q).frame) o)) says.is
          ∙ ap (λ y. coming_of sc (other me) j i (moment sc hands q).frame y ∷ []) x_is
          ∙ ap (λ f. coming_of sc (other me) j i f (record { tick = k; message = x.message }) ∷ []) (sym now.in_frame) in
          let after : a.time < e.time =
          subst (λ t. t < e.time) (ap (λ y. time_of (clock_of sc y i) k) (other_twice me) ∙ sym now.time)
          (comes-after lawful (other me) j i frame (record { tick = k; message = x.message })) in
          subst (λ m. IsUp sc hands new a.time (other me) j (at (other me) j) (reached sc me i frame k m (other me) j z)) (sym some)
          (subst (IsUp sc hands new a.time (other me) j (at (other me) j)) (sym (reached-running sc me i frame k x.message j z runs)) (record {
            st = h.st;
            a = h.a;
            stands = stands-more new
                (subst (λ y. SendsFor (old y) (new y) i q) (sym (other_twice me)) (then-said sc hands at sites me i now.there now.pend says)) refl
                (subst (λ y. i < count_of y sc.sizes) (sym (other_twice me)) now.counted) after entry
                (subst (λ y. is_good_at sc (moment sc hands q) y i ≡ true) (sym (other_twice me)) now.good)
                (lands x says.is says.tick h.st h.a h.stands) h.stands;
          }))
    ]

-- each message that goes out now lands at its receiver
unfoldable pub AllLand : Scenario → List HandIn → (Side → ℕ → ℕ) → Each Site → Side → ℕ → ℕ → ℕ → ℕ → Type 0
AllLand sc hands at sites me i frame k t =
    (j : ℕ) (z : Site) → slice_get (of_kind (other me) sites) j ≡ Some z → (x : Sending) → sending_of sc (moment sc hands (at me i)) me i ≡ Some x → x.tick ≡ k
    → (st : NodeState) (c : Timed) → NodeStands sc hands (sent_by sc hands at sites) t (other me) j (at (other me) j) z st c
    → Lands sc hands (other me) j (at (other me) j) (at me i) st (on_way sc me i frame k x.message j)

-- any other node that runs still stands after the tick
any-on : {sc : Scenario} {hands : List HandIn} {now : ℕ} {at : Side → ℕ → ℕ} {sites : Each Site} {me : Side} {i frame k r : ℕ} {m : Option Message} {s : Site} {a : Timed} {b : Option Timed}
    → IsLawful sc → now ≤ a.time → AllPend a.time sites → TicksNow sc hands at sites me i frame k r m s a b → AllLand sc hands at sites me i frame k a.time
    → SitesStand sc hands now at sites → (side : Side) (j : ℕ) {z : Site} → (side ≡ me) ⊎ (side ≡ other me) → slice_get (of_kind side sites) j ≡ Some z → z.runs ≡ true
    → IsUp sc hands (sent_then sc hands at sites me i r b) a.time side j (at side j) (reached sc me i frame k m side j z)
unfolding AllLand AllPend
any-on {sc} {hands} {now} {at} {sites} {me} {i} {frame} {k} {r} {m} {a} {b} lawful later pend ticks land h side j {z} (inl same) there runs =
    let old : Side → ℕ → ℕ → Bool = sent_by sc hands at sites in
    let new : Side → ℕ → ℕ → Bool = sent_then sc hands at sites me i r b in
    let node : IsUp sc hands old now side j (at side j) z = h.up side j z there runs in
    let on : IsUp sc hands old a.time side j (at side j) z = record {
      st = node.st;
      a = node.a;
      stands = stands-on a.time later (pend side j z there) node.stands;
    } in
    let not_reached : reached sc me i frame k m side j z ≡ z =
    reached-not sc me i frame k m side j z (ap (λ y. same_side y (other me) && z.runs) same ∙ ap (λ x. x && z.runs) (kind-other me)) in
    subst (IsUp sc hands new a.time side j (at side j)) (sym not_reached)
    (up-same new
    (λ n p. ap (λ y. new (other y) n p) same ∙ same-kind-on sc hands at sites me i r b n p ∙ sym (ap (λ y. old (other y) n p) same)) on)
any-on {sc} {hands} {now} {at} {sites} {me} {i} {frame} {k} {r} {m} {a} {b} lawful later pend ticks land h side j {z} (inr same) there runs =
    let old : Side → ℕ → ℕ → Bool = sent_by sc hands at sites in
    let new : Side → ℕ → ℕ → Bool = sent_then sc hands at sites me i r b in
    let its : slice_get (of_kind (other me) sites) j ≡ Some z = ap (λ y. slice_get (of_kind y sites) j) (sym same) ∙ there in
    let node : IsUp sc hands old now (other me) j (at (other me) j) z = h.up (other me) j z its runs in
    let on : IsUp sc hands old a.time (other me) j (at (other me) j) z = record {
      st = node.st;
      a = node.a;
      stands = stands-on a.time later (pend (other me) j z its) node.stands;
    } in
    subst (λ y. IsUp sc hands new a.time y j (at y j) (reached sc me i frame k m y j z)) (sym same)
    (other-on lawful ticks runs (land j z its) on)

-- after one tick all nodes of the world still stand
pub tick-keeps-world : {sc : Scenario} {hands : List HandIn} {now : ℕ} {at : Side → ℕ → ℕ} {sites : Each Site} {me : Side} {i frame k r : ℕ} {m : Option Message} (change : Site → Site) {s : Site} {a : Timed} {b : Option Timed}
    → IsLawful sc → now ≤ a.time → AllPend a.time sites → TicksNow sc hands at sites me i frame k r m s a b → AllLand sc hands at sites me i frame k a.time
    → (change s).ahead ≡ b
    → (((change s).runs ≡ true) × IsUp sc hands (sent_by sc hands at sites) a.time me i r (change s)) ⊎ (((change s).runs ≡ false) × IsDown sc hands me i r (change s))
    → SitesStand sc hands now at sites
    → SitesStand sc hands a.time (moved me i r at) (with_message sc me i frame k m (at_node me i change sites))
tick-keeps-world {sc} {hands} {at} {sites} {me} {i} {frame} {k} {r} {m} change {s} {a} {b} lawful later pend ticks land ahead after h =
    let old : Side → ℕ → ℕ → Bool = sent_by sc hands at sites in
    let new : Side → ℕ → ℕ → Bool = sent_then sc hands at sites me i r b in
    let sites2 : Each Site = with_message sc me i frame k m (at_node me i change sites) in
    let at2 : Side → ℕ → ℕ = moved me i r at in
    let is_new : new ≡ sent_by sc hands at2 sites2 = sent-then-is sc hands at sites me i r frame k m change ticks.there ahead in
    let own_reach : (z : Site) → reached sc me i frame k m me i z ≡ z =
    λ z. reached-not sc me i frame k m me i z (ap (λ x. x && z.runs) (kind-other me)) in
    record {
      up = λ side j z e runs.
          let was = option_map-back (after_tick sc me i frame k m change side j) (slice_get (of_kind side sites) j) z (sym (get-after sc me i frame k m change sites side j) ∙ e) in
          let go : (d : Bool) → is_node me i side j ≡ d
          → reached sc me i frame k m side j (elim d as (λ _. Site) [ true ↦ change was.0 | false ↦ was.0 ]) ≡ z
          → IsUp sc hands new a.time side j (elim d as (λ _. ℕ) [ true ↦ r | false ↦ at side j ]) z =
          λ d. elim d as (λ d. is_node me i side j ≡ d
          → reached sc me i frame k m side j (elim d as (λ _. Site) [ true ↦ change was.0 | false ↦ was.0 ]) ≡ z
          → IsUp sc hands new a.time side j (elim d as (λ _. ℕ) [ true ↦ r | false ↦ at side j ]) z) [
            | true ↦ λ f g.
                let is = node-is me side i j f in
                let its : slice_get (of_kind me sites) i ≡ Some was.0 = sym (ap (λ y. slice_get (of_kind y sites) j) is.0 ∙ ap (slice_get (of_kind me sites)) is.1) ∙ was.1.0 in
                let s_is : s ≡ was.0 = same_Some s was.0 (sym ticks.there ∙ its) in
                let z_is : change s ≡ z =
                ap change s_is ∙ sym (own_reach (change was.0)) ∙ ap (λ y. reached sc me i frame k m y i (change was.0)) (sym is.0)
                ∙ ap (λ n. reached sc me i frame k m side n (change was.0)) (sym is.1) ∙ g in
                let own : IsUp sc hands new a.time me i r (change s) = elim after [
                  | inl on ↦ up-same new (same-kind-on sc hands at sites me i r b) on.1
                  | inr off ↦ absurd (true≢false (sym (ap (λ (s : Site). s.runs) z_is ∙ runs) ∙ off.0))
                ] in
                subst (IsUp sc hands new a.time side j r) z_is
                (subst (λ y. IsUp sc hands new a.time y j r (change s)) (sym is.0) (subst (λ n. IsUp sc hands new a.time me n r (change s)) (sym is.1) own))
            | false ↦ λ f g.
                let same : Same was.0 (reached sc me i frame k m side j was.0) = reached-same sc me i frame k m side j was.0 in
                let on : was.0.runs ≡ true = sym same.runs ∙ ap (λ (s : Site). s.runs) g ∙ runs in
                subst (IsUp sc hands new a.time side j (at side j)) g
                (any-on lawful later pend ticks land h side j (one_or_other side me) was.1.0 on)
          ] in
          subst (λ f. IsUp sc hands f a.time side j (at2 side j) z) is_new (go (is_node me i side j) refl was.1.1);
      down = λ side j z e stopped.
          let was = option_map-back (after_tick sc me i frame k m change side j) (slice_get (of_kind side sites) j) z (sym (get-after sc me i frame k m change sites side j) ∙ e) in
          let go : (d : Bool) → is_node me i side j ≡ d
          → reached sc me i frame k m side j (elim d as (λ _. Site) [ true ↦ change was.0 | false ↦ was.0 ]) ≡ z
          → IsDown sc hands side j (elim d as (λ _. ℕ) [ true ↦ r | false ↦ at side j ]) z =
          λ d. elim d as (λ d. is_node me i side j ≡ d
          → reached sc me i frame k m side j (elim d as (λ _. Site) [ true ↦ change was.0 | false ↦ was.0 ]) ≡ z
          → IsDown sc hands side j (elim d as (λ _. ℕ) [ true ↦ r | false ↦ at side j ]) z) [
            | true ↦ λ f g.
                let is = node-is me side i j f in
                let its : slice_get (of_kind me sites) i ≡ Some was.0 = sym (ap (λ y. slice_get (of_kind y sites) j) is.0 ∙ ap (slice_get (of_kind me sites)) is.1) ∙ was.1.0 in
                let s_is : s ≡ was.0 = same_Some s was.0 (sym ticks.there ∙ its) in
                let z_is : change s ≡ z =
                ap change s_is ∙ sym (own_reach (change was.0)) ∙ ap (λ y. reached sc me i frame k m y i (change was.0)) (sym is.0)
                ∙ ap (λ n. reached sc me i frame k m side n (change was.0)) (sym is.1) ∙ g in
                let own : IsDown sc hands me i r (change s) = elim after [
                  | inl on ↦ absurd (true≢false (sym on.0 ∙ ap (λ (s : Site). s.runs) z_is ∙ stopped))
                  | inr off ↦ off.1
                ] in
                subst (IsDown sc hands side j r) z_is
                (subst (λ y. IsDown sc hands y j r (change s)) (sym is.0) (subst (λ n. IsDown sc hands me n r (change s)) (sym is.1) own))
            | false ↦ λ f g.
                let same : Same was.0 (reached sc me i frame k m side j was.0) = reached-same sc me i frame k m side j was.0 in
                let off : was.0.runs ≡ false = sym same.runs ∙ ap (λ (s : Site). s.runs) g ∙ stopped in
                let z_is : was.0 ≡ z = sym (reached-not sc me i frame k m side j was.0 (ap (λ x. same_side side (other me) && x) off ∙ and-none (same_side side (other me)))) ∙ g in
                subst (IsDown sc hands side j (at side j)) z_is (h.down side j was.0 was.1.0 off)
          ] in
          go (is_node me i side j) refl was.1.1;
      counts = λ side. length-after sc me i frame k m change sites side ∙ h.counts side;
    }
  where
    and-none : (b : Bool) → (b && false) ≡ false
    and-none true = refl
    and-none false = refl
