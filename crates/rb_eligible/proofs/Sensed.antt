-- What the node makes of what an inbox keeps of a source.
use Rattle.std.proofs.{Common.{◌≡◌, ℕ, ◌+◌, ◌<◌, ◌≤◌, Bool, true, false, not, ◌&&◌, if◌then◌else◌, Option, Some, None, List, [], ◌∷◌, ◌++◌, length, take, drop, get_or, inl, inr, refl, sym, ◌∙◌, ap, arith, length-drop}, lemmas.List.{get_or-drop, length-take, take-append-drop}, lemmas.Nat.{le_bytes_4, le_bytes_8}}
use Rattle.std.specs.Int.{from_le_bytes, to_le_bytes, w32, w64}
use Rattle.rb_base.specs.{Nodes.has, declared.values.Heard.Heard}
use Rattle.rb_base.proofs.Sets.{eq_other}
use Rattle.rb_rules.specs.{declared.message.Message.Message, declared.message.Version.Version, declared.sense.Expect.Expect, declared.sense.Sense.Sense, declared.sense.Sense.TheVariants.{Silent, One, Bad}, Sense.{Arrival, is_one, is_silent, sense_of, sense_of_one, stamp_in, suits, value_in}, Spelling.message_in}
use Rattle.rb_frame.specs.Spellings.{spelled}
use Rattle.rb_frame.proofs.Keeping.{small_part}
use Rattle.rb_eligible.specs.{declared.reading.Sole.Sole, Inboxes.{IsKept, IsSpoilt, IsUpTo, KeptArrivals, Received, HoldsArrivals, StampsUpTo, arrivals_of, is_sole, sense_in, sole_at}, Readings.{Says, bytes_of}}
use Rattle.rb_rules.specs.declared.message.Version.TheVariants as version

-- no message has more than 12 bytes
too_long : (v : Version) (bytes : List ℕ) → 12 < length bytes → message_in v bytes ≡ None
unfolding message_in
too_long version.One bytes h = rw (eq_other (length bytes) 11 (omega arith)) refl
too_long (version.Two bus) bytes h = rw (eq_other (length bytes) 12 (omega arith)) refl

many_bad : (e : Expect) (arrivals : List Arrival) → 1 < length arrivals → sense_of e arrivals ≡ Bad
many_bad e [] h = absurd (omega arith)
many_bad e (a ∷ []) h = absurd (omega arith)
many_bad e (a ∷ (b ∷ others)) h = refl

pub spoilt_bad : (e : Expect) (arrivals : List Arrival) → IsSpoilt arrivals → sense_of e arrivals ≡ Bad
spoilt_bad e arrivals spoilt =
    elim spoilt [
      | inl one ↦ ap (sense_of e) one.1.0 ∙ ap (sense_of_one e one.0.stamp) (too_long e.version one.0.bytes one.1.1)
      | inr many ↦ many_bad e arrivals many
    ]

-- a source that is spoilt is bad
pub shown_bad : (e : Expect) (kept : KeptArrivals) (received : List Received) (j : ℕ) → HoldsArrivals kept received → j < 16 → has kept.came j ≡ true → has kept.spoilt j ≡ true → Bad ≡ sense_in e received j
shown_bad e kept received j shown h came spoilt = sym (spoilt_bad e (arrivals_of j received) (rw (came, spoilt) at (shown j h)))

heard_one : (e : Expect) (stamp : ℕ) (m : Option Message) → not (is_silent (sense_of_one e stamp m)) ≡ true
heard_one e stamp None = refl
heard_one e stamp (Some m) = elim (suits e m) as (λ b. not (is_silent (if b then One stamp m else Bad)) ≡ true) [ true ↦ refl | false ↦ refl ]

-- something came from a source if and only if something is kept of it
came_kept : (e : Expect) (came spoilt : Bool) (s : Sole) (arrivals : List Arrival) → IsKept came spoilt s arrivals → not (is_silent (sense_of e arrivals)) ≡ came
came_kept e false false s arrivals kept = rw kept refl
came_kept e false true s arrivals kept = absurd kept
came_kept e true false s arrivals kept = ap (λ xs. not (is_silent (sense_of e xs))) kept.1 ∙ heard_one e s.at (message_in e.version (bytes_of s))
came_kept e true true s arrivals kept = rw (spoilt_bad e arrivals kept) refl

pub came_is : (e : Expect) (kept : KeptArrivals) (received : List Received) (j : ℕ) → HoldsArrivals kept received → j < 16 → has kept.came j ≡ not (is_silent (sense_in e received j))
came_is e kept received j shown h = sym (came_kept e (has kept.came j) (has kept.spoilt j) (sole_at kept.soles j) (arrivals_of j received) (shown j h))

-- a source of which no sole arrival is kept is not one
none_kept : (e : Expect) (came spoilt : Bool) (s : Sole) (arrivals : List Arrival) → (came && not spoilt) ≡ false → IsKept came spoilt s arrivals → is_one (sense_of e arrivals) ≡ false
none_kept e false false s arrivals poor kept = rw kept refl
none_kept e false true s arrivals poor kept = absurd kept
none_kept e true false s arrivals poor kept = absurd cc
none_kept e true true s arrivals poor kept = rw (spoilt_bad e arrivals kept) refl

pub none_else : (e : Expect) (kept : KeptArrivals) (received : List Received) (j : ℕ) → HoldsArrivals kept received → j < 16 → is_sole kept j ≡ false → is_one (sense_in e received j) ≡ false
none_else e kept received j shown h poor = none_kept e (has kept.came j) (has kept.spoilt j) (sole_at kept.soles j) (arrivals_of j received) poor (shown j h)

sole_kept : (e : Expect) (came spoilt : Bool) (s : Sole) (arrivals : List Arrival) → (came && not spoilt) ≡ true → IsKept came spoilt s arrivals
    → sense_of e arrivals ≡ sense_of_one e s.at (message_in e.version (bytes_of s))
sole_kept e false spoilt s arrivals good kept = absurd cc
sole_kept e true false s arrivals good kept = ap (sense_of e) kept.1
sole_kept e true true s arrivals good kept = absurd cc

pub sole_is : (e : Expect) (kept : KeptArrivals) (received : List Received) (j : ℕ) → HoldsArrivals kept received → j < 16 → is_sole kept j ≡ true
    → sense_in e received j ≡ sense_of_one e (sole_at kept.soles j).at (message_in e.version (bytes_of (sole_at kept.soles j)))
sole_is e kept received j shown h good = sole_kept e (has kept.came j) (has kept.spoilt j) (sole_at kept.soles j) (arrivals_of j received) good (shown j h)

-- the stamp matters neither to whether a sense is one nor to its value
one_anytime : (e : Expect) (s t : ℕ) (m : Option Message) → is_one (sense_of_one e s m) ≡ is_one (sense_of_one e t m)
one_anytime e s t None = refl
one_anytime e s t (Some m) =
    elim (suits e m) as (λ b. is_one (if b then One s m else Bad) ≡ is_one (if b then One t m else Bad)) [ true ↦ refl | false ↦ refl ]

value_anytime : (e : Expect) (s t : ℕ) (m : Option Message) → value_in (sense_of_one e s m) ≡ value_in (sense_of_one e t m)
value_anytime e s t None = refl
value_anytime e s t (Some m) =
    elim (suits e m) as (λ b. value_in (if b then One s m else Bad) ≡ value_in (if b then One t m else Bad)) [ true ↦ refl | false ↦ refl ]

pub says_sense : (e : Expect) (stamp : ℕ) (bytes : List ℕ) (sense : Sense) (one : Bool) (value : Option Heard) → sense ≡ sense_of_one e stamp (message_in e.version bytes)
    → one ≡ is_one sense → value ≡ value_in sense → Says e bytes one value
says_sense e stamp bytes sense one value is one_is value_is = record {
  one_is = one_is ∙ ap is_one is ∙ one_anytime e stamp 0 (message_in e.version bytes);
  value_is = value_is ∙ ap value_in is ∙ value_anytime e stamp 0 (message_in e.version bytes);
}

-- what a sole arrival says is what came from its source
pub read_one : (e : Expect) (kept : KeptArrivals) (received : List Received) (j : ℕ) (one : Bool) (value : Option Heard) → HoldsArrivals kept received → j < 16 → is_sole kept j ≡ true
    → Says e (bytes_of (sole_at kept.soles j)) one value → one ≡ is_one (sense_in e received j)
read_one e kept received j one value shown h good says =
    let is = sole_is e kept received j shown h good in
    let s = sole_at kept.soles j in
    says.one_is ∙ one_anytime e 0 s.at (message_in e.version (bytes_of s)) ∙ ap is_one (sym is)

pub read_value : (e : Expect) (kept : KeptArrivals) (received : List Received) (j : ℕ) (one : Bool) (value : Option Heard) → HoldsArrivals kept received → j < 16 → is_sole kept j ≡ true
    → Says e (bytes_of (sole_at kept.soles j)) one value → value ≡ value_in (sense_in e received j)
read_value e kept received j one value shown h good says =
    let is = sole_is e kept received j shown h good in
    let s = sole_at kept.soles j in
    says.value_is ∙ value_anytime e 0 s.at (message_in e.version (bytes_of s)) ∙ ap value_in (sym is)

-- a sense that is not one message has no value
pub no_value : (s : Sense) → is_one s ≡ false → value_in s ≡ None
no_value Silent poor = refl
no_value (One stamp m) poor = absurd cc
no_value Bad poor = refl

-- a sense that is one message has the stamp of its arrival
one_stamp : (e : Expect) (stamp : ℕ) (m : Option Message) → is_one (sense_of_one e stamp m) ≡ true → stamp_in (sense_of_one e stamp m) ≡ Some stamp
one_stamp e stamp None good = absurd cc
one_stamp e stamp (Some m) good =
    elim (suits e m) as (λ b. is_one (if b then One stamp m else Bad) ≡ true → stamp_in (if b then One stamp m else Bad) ≡ Some stamp) [
      | true ↦ λ y. refl
      | false ↦ λ y. absurd cc
    ] good

-- the two numbers of some bytes spell these bytes
pub spelled_is : (bytes room : List ℕ) (low high : ℕ) → length room ≡ 12 → ((i : ℕ) → get_or room i 0 < 256) → low ≡ from_le_bytes w64 (take 8 room) → high ≡ from_le_bytes w32 (drop 8 room)
    → take (length bytes) room ≡ bytes → spelled low high (length bytes) ≡ bytes
unfolding spelled
spelled_is bytes room low high all small low_is high_is begins =
    let first : to_le_bytes w64 low ≡ take 8 room = le_bytes_8 (take 8 room) low (omega (arith, length-take 8 room)) (small_part room small 8) low_is in
    let rest : to_le_bytes w32 high ≡ drop 8 room =
    le_bytes_4 (drop 8 room) high (omega (arith, length-drop 8 room)) (λ i. rw (get_or-drop 8 room i 0) (small (8 + i))) high_is in
    ap (take (length bytes)) (ap (λ xs. xs ++ to_le_bytes w32 high) first ∙ ap (λ ys. take 8 room ++ ys) rest ∙ take-append-drop 8 room) ∙ begins

-- a source can be one only if it has a sole arrival
pub none_but_soles : (e : Expect) (kept : KeptArrivals) (received : List Received) (b : Bool) (j : ℕ) → HoldsArrivals kept received → j < 16
    → ((b && is_sole kept j) && is_one (sense_in e received j)) ≡ (b && is_one (sense_in e received j))
none_but_soles e kept received b j shown h =
    let go : (s : Bool) → is_sole kept j ≡ s → ((b && s) && is_one (sense_in e received j)) ≡ (b && is_one (sense_in e received j)) =
    λ s. elim s as (λ s. is_sole kept j ≡ s → ((b && s) && is_one (sense_in e received j)) ≡ (b && is_one (sense_in e received j))) [
      | true ↦ λ is. elim b as (λ b. ((b && true) && is_one (sense_in e received j)) ≡ (b && is_one (sense_in e received j))) [ true ↦ refl | false ↦ refl ]
      | false ↦ λ is. rw (none_else e kept received j shown h is) (elim b as (λ b. ((b && false) && false) ≡ (b && false)) [ true ↦ refl | false ↦ refl ])
    ] in
    go (is_sole kept j) refl

pub value_but_soles : (e : Expect) (kept : KeptArrivals) (received : List Received) (b : Bool) (j : ℕ) → HoldsArrivals kept received → j < 16
    → (if b && is_sole kept j then value_in (sense_in e received j) else None) ≡ (if b then value_in (sense_in e received j) else None)
value_but_soles e kept received b j shown h =
    let v = value_in (sense_in e received j) in
    let go : (s : Bool) → is_sole kept j ≡ s → (if b && s then v else None) ≡ (if b then v else None) =
    λ s. elim s as (λ s. is_sole kept j ≡ s → (if b && s then v else None) ≡ (if b then v else None)) [
      | true ↦ λ is. elim b as (λ b. (if b && true then v else None) ≡ (if b then v else None)) [ true ↦ refl | false ↦ refl ]
      | false ↦ λ is.
          let none : v ≡ None = no_value (sense_in e received j) (none_else e kept received j shown h is) in
          elim b as (λ b. (if b && false then v else None) ≡ (if b then v else None)) [ true ↦ sym none | false ↦ refl ]
    ] in
    go (is_sole kept j) refl

no_stamp : (s : Sense) → is_one s ≡ false → stamp_in s ≡ None
no_stamp Silent poor = refl
no_stamp (One stamp m) poor = absurd cc
no_stamp Bad poor = refl

-- the stamp that is taken is that of the sole arrival, if the source is expected, eligible and one
pub stamp_taken : (e : Expect) (kept : KeptArrivals) (received : List Received) (takes : Bool) (j : ℕ) → HoldsArrivals kept received → j < 16
    → (if (takes && is_one (sense_in e received j)) && is_sole kept j then Some (sole_at kept.soles j).at else None) ≡ (if takes then stamp_in (sense_in e received j) else None)
stamp_taken e kept received takes j shown h =
    let sense = sense_in e received j in
    let at = (sole_at kept.soles j).at in
    let go : (s : Bool) → is_sole kept j ≡ s → (o : Bool) → is_one sense ≡ o → (if (takes && o) && s then Some at else None) ≡ (if takes then stamp_in sense else None) =
    λ s. elim s as (λ s. is_sole kept j ≡ s → (o : Bool) → is_one sense ≡ o → (if (takes && o) && s then Some at else None) ≡ (if takes then stamp_in sense else None)) [
      | true ↦ λ is o. elim o as (λ o. is_one sense ≡ o → (if (takes && o) && true then Some at else None) ≡ (if takes then stamp_in sense else None)) [
        | true ↦ λ one.
            let s = sole_is e kept received j shown h is in
            let m = message_in e.version (bytes_of (sole_at kept.soles j)) in
            let stamp : stamp_in sense ≡ Some at = ap stamp_in s ∙ one_stamp e at m (sym (ap is_one s) ∙ one) in
            rw stamp (both takes at)
        | false ↦ λ one. rw (no_stamp sense one) (neither takes true at)
      ]
      | false ↦ λ is o one. rw (no_stamp sense (none_else e kept received j shown h is)) (no_sole takes o at)
    ] in
    go (is_sole kept j) refl (is_one sense) refl
  where
    both : (b : Bool) (at : ℕ) → ◌≡◌ {A = Option ℕ} (if (b && true) && true then Some at else None) (if b then Some at else None)
    both true at = refl
    both false at = refl

    neither : (b s : Bool) (at : ℕ) → ◌≡◌ {A = Option ℕ} (if (b && false) && s then Some at else None) (if b then None else None)
    neither true s at = refl
    neither false s at = refl

    no_sole : (b o : Bool) (at : ℕ) → ◌≡◌ {A = Option ℕ} (if (b && o) && false then Some at else None) (if b then None else None)
    no_sole true true at = refl
    no_sole true false at = refl
    no_sole false o at = refl

pub stamp_up_to : (n : ℕ) (kept : KeptArrivals) (j : ℕ) → StampsUpTo n kept → j < 16 → is_sole kept j ≡ true → (sole_at kept.soles j).at ≤ n
stamp_up_to n kept j up_to h sole = here (has kept.came j) (has kept.spoilt j) sole (up_to j h)
  where
    here : (came spoilt : Bool) → (came && not spoilt) ≡ true → IsUpTo n came spoilt (sole_at kept.soles j) → (sole_at kept.soles j).at ≤ n
    here true false e most = most
    here true true e most = absurd cc
    here false spoilt e most = absurd cc

-- bytes that do not say one message have no value
pub says_none : (e : Expect) (bytes : List ℕ) (one : Bool) (value : Option Heard) → Says e bytes one value → one ≡ false → value ≡ None
says_none e bytes one value says poor = says.value_is ∙ no_value (sense_of_one e 0 (message_in e.version bytes)) (sym says.one_is ∙ poor)
