-- For the law that pending events are few if the run breaks off in a sync slot: room at each node
-- for what comes to it, for the messages that may be sent to it yet, and for what may be said to it
-- in windows that it enters yet.
use Rattle.std.proofs.{Common.{◌≡◌, ℕ, ◌+◌, ◌*◌, ◌<◌, ◌≤◌, ◌&&◌, Bool, true, false, [], ◌∷◌, ◌++◌, length, length-append, refl, ap, sym, ◌∙◌, subst, arith, Option, Some, None, slice_get}, lemmas.Option.same_Some}
use Rattle.rb_base.specs.{Nodes.{Side, other}, Nodes.Side.{Biu, Rmu}}
use Rattle.rb_base.proofs.Plain.{option_map-back}
use Rattle.rb_rules.specs.{declared.message.Message.Message, Book.{Each, of_kind}, Goodness.Scenario, Hearing.coming_of, Slots.{count_of, same_side}, WorldStep.{Site, at_node, with_message}}
use Rattle.rb_laws_events.proofs.{SourceSums.{sum-larger, sum-le, sum_to}, WorldStands.{is_node, node-is, node-itself}, WorldTicks.{after_tick, get-after, moved, reached}}

-- node i of kind me may still send `sends me i` messages, and enter `enters me i` windows
pub record HaveRooms (sc : Scenario) (most : Side → ℕ) (sends enters : Side → ℕ → ℕ) (sites : Each Site) : Type 0 where
  pub room : (me : Side) (i : ℕ) (s : Site) → slice_get (of_kind me sites) i ≡ Some s
      → length s.coming + sum_to (sends (other me)) (count_of (other me) sc.sizes) + enters me i * length sc.says ≤ most me

-- the number of messages: 1, or 0 for none
abbrev pub messages_in : Option Message → ℕ
messages_in None = 0
messages_in (Some m) = 1

abbrev added : Side → Option Message → Side → ℕ
added Biu m Biu = 0
added Biu m Rmu = messages_in m
added Rmu m Biu = messages_in m
added Rmu m Rmu = 0

reached-none : (sc : Scenario) (me : Side) (i frame k : ℕ) (m : Option Message) (side : Side) (j : ℕ) (z : Site) → same_side side (other me) ≡ false
    → length (reached sc me i frame k m side j z).coming ≤ length z.coming
reached-none sc me i frame k None side j z e = omega arith
reached-none sc me i frame k (Some m) side j z e = go (same_side side (other me)) e
  where
    go : (b : Bool) → b ≡ false → length (elim (b && z.runs) as (λ _. Site) [
      | true ↦ record z { coming = z.coming ++ coming_of sc side j i frame (record { tick = k; message = m }) ∷ [] }
      | false ↦ z
    ]).coming ≤ length z.coming
    go true e = absurd (cc)
    go false e = omega arith

reached-one : (sc : Scenario) (me : Side) (i frame k : ℕ) (m : Option Message) (side : Side) (j : ℕ) (z : Site)
    → length (reached sc me i frame k m side j z).coming ≤ length z.coming + messages_in m
reached-one sc me i frame k None side j z = omega arith
reached-one sc me i frame k (Some m) side j z = go (same_side side (other me) && z.runs)
  where
    go : (b : Bool) → length (elim b as (λ _. Site) [
      | true ↦ record z { coming = z.coming ++ coming_of sc side j i frame (record { tick = k; message = m }) ∷ [] }
      | false ↦ z
    ]).coming ≤ length z.coming + 1
    go true = let one = length-append z.coming (coming_of sc side j i frame (record { tick = k; message = m }) ∷ []) in omega (arith, one)
    go false = omega arith

reached-added : (sc : Scenario) (me : Side) (i frame k : ℕ) (m : Option Message) (side : Side) (j : ℕ) (z : Site)
    → length (reached sc me i frame k m side j z).coming ≤ length z.coming + added me m side
reached-added sc Biu i frame k m Biu j z = let le = reached-none sc Biu i frame k m Biu j z refl in omega (arith, le)
reached-added sc Biu i frame k m Rmu j z = reached-one sc Biu i frame k m Rmu j z
reached-added sc Rmu i frame k m Biu j z = reached-one sc Rmu i frame k m Biu j z
reached-added sc Rmu i frame k m Rmu j z = let le = reached-none sc Rmu i frame k m Rmu j z refl in omega (arith, le)

-- the node may send less after a message
sum-added : (sc : Scenario) (me : Side) (i r : ℕ) (m : Option Message) (sends : Side → ℕ → ℕ) (side : Side) → i < count_of me sc.sizes → r + messages_in m ≤ sends me i
    → sum_to (moved me i r sends (other side)) (count_of (other side) sc.sizes) + added me m side ≤ sum_to (sends (other side)) (count_of (other side) sc.sizes)
sum-added sc me i r m sends side below le = by me side below le
  where
    no-more : (me : Side) → r + messages_in m ≤ sends me i → (j : ℕ) → moved me i r sends me j ≤ sends me j
    no-more me le j = go (is_node me i me j) refl
      where
        go : (b : Bool) → is_node me i me j ≡ b → (elim b as (λ _. ℕ) [ true ↦ r | false ↦ sends me j ]) ≤ sends me j
        go true e =
            let is = node-is me me i j e in
            let same : sends me j ≡ sends me i = ap (sends me) is.1 in
            omega (arith, le, same)
        go false e = omega arith

    its : (me : Side) → r + messages_in m ≤ sends me i → moved me i r sends me i + messages_in m ≤ sends me i
    its me le = subst (λ b. (elim b as (λ _. ℕ) [ true ↦ r | false ↦ sends me i ]) + messages_in m ≤ sends me i) (sym (node-itself me i)) le

    by : (me side : Side) → i < count_of me sc.sizes → r + messages_in m ≤ sends me i
        → sum_to (moved me i r sends (other side)) (count_of (other side) sc.sizes) + added me m side ≤ sum_to (sends (other side)) (count_of (other side) sc.sizes)
    by Biu Biu below le = let same = sum-le (moved Biu i r sends Rmu) (sends Rmu) (count_of Rmu sc.sizes) (λ j. omega arith) in omega (arith, same)
    by Biu Rmu below le = sum-larger (moved Biu i r sends Biu) (sends Biu) i (messages_in m) (count_of Biu sc.sizes) below (no-more Biu le) (its Biu le)
    by Rmu Biu below le = sum-larger (moved Rmu i r sends Rmu) (sends Rmu) i (messages_in m) (count_of Rmu sc.sizes) below (no-more Rmu le) (its Rmu le)
    by Rmu Rmu below le = let same = sum-le (moved Rmu i r sends Biu) (sends Biu) (count_of Biu sc.sizes) (λ j. omega arith) in omega (arith, same)

-- the rooms are enough if one node changes and may send a message
pub rooms-change : {sc : Scenario} {most : Side → ℕ} {sends enters : Side → ℕ → ℕ} {sites : Each Site} (me : Side) (i frame k : ℕ) (m : Option Message) (change : Site → Site) {s : Site} (r e : ℕ)
    → i < count_of me sc.sizes → slice_get (of_kind me sites) i ≡ Some s → length (change s).coming + e * length sc.says ≤ length s.coming + enters me i * length sc.says
    → r + messages_in m ≤ sends me i → HaveRooms sc most sends enters sites
    → HaveRooms sc most (moved me i r sends) (moved me i e enters) (with_message sc me i frame k m (at_node me i change sites))
rooms-change {sc} {sends} {enters} {sites} me i frame k m change {s} r e below there own le h = record {
  room = λ side j z f.
      let was = option_map-back (after_tick sc me i frame k m change side j) (slice_get (of_kind side sites) j) z (sym (get-after sc me i frame k m change sites side j) ∙ f) in
      let y : Site = changed side j was.0 in
      let z_is : length (reached sc me i frame k m side j y).coming ≡ length z.coming = ap (λ (z : Site). length z.coming) was.1.1 in
      let reach = reached-added sc me i frame k m side j y in
      let sum = sum-added sc me i r m sends side below le in
      let here = its side j was.0 was.1.0 (is_node me i side j) refl in
      let old = h.room side j was.0 was.1.0 in
      omega (arith, z_is, reach, sum, here, old);
}
  where
    changed : Side → ℕ → Site → Site
    changed side j was = elim (is_node me i side j) as (λ _. Site) [ true ↦ change was | false ↦ was ]

    its : (side : Side) (j : ℕ) (was : Site) → slice_get (of_kind side sites) j ≡ Some was → (d : Bool) → is_node me i side j ≡ d
        → length (elim d as (λ _. Site) [ true ↦ change was | false ↦ was ]).coming + (elim d as (λ _. ℕ) [ true ↦ e | false ↦ enters side j ]) * length sc.says
        ≤ length was.coming + enters side j * length sc.says
    its side j was at true f =
        let is = node-is me side i j f in
        let here : slice_get (of_kind me sites) i ≡ Some was = sym (ap (λ y. slice_get (of_kind y sites) j) is.0 ∙ ap (slice_get (of_kind me sites)) is.1) ∙ at in
        subst (λ was. length (change was).coming + e * length sc.says ≤ length was.coming + enters side j * length sc.says) (same_Some s was (sym there ∙ here))
        (subst (λ n. length (change s).coming + e * length sc.says ≤ length s.coming + n * length sc.says) (sym (ap (λ y. enters y j) is.0 ∙ ap (enters me) is.1)) own)
    its side j was at false f = omega arith

-- after the tick the node may do what is left of `r` messages and `e` windows
pub record StepsOn (sc : Scenario) (May : ℕ → ℕ → Site → Type 0) (m : Option Message) (s z : Site) (r e : ℕ) : Type 0 where
  pub sends : ℕ
  pub enters : ℕ
  pub may : May sends enters z
  pub sent : sends + messages_in m ≤ r
  pub room : length z.coming + enters * length sc.says ≤ length s.coming + e * length sc.says
