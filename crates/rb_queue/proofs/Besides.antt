-- What is pending at one node if something is kept beside its lane.
use Rattle.std.proofs.{Common.{◌≡◌, ℕ, zero, suc, ◌+◌, ◌-◌, ◌<◌, ◌==◌, min, Bool, true, false, cond, Option, Some, None, slice_get, List, [], ◌∷◌, ◌++◌, length, filter, map, take, drop, get_or, refl, sym, ap, ◌∙◌, subst, arith, length-append, append_assoc, drop-cons, add-one}, lemmas.List.{length-map, map-append, take_more}, lemmas.Option.{slice_get-get_or, slice_get-map, slice_get_within}}
use Rattle.std.specs.{List.{enumerate_from, flat_map, range_with_len}, Prelude.option_map}
use Rattle.rb_base.specs.Counting.{count_if}
use Rattle.rb_base.proofs.{Counts.count_if-take_more, Plain.{slice_get-back, slice_get-front}}
use Rattle.rb_rules.specs.{Hearing.Coming, WorldStep.least}
use Rattle.rb_queue.specs.{declared.pending.Pending.Pending, Waiting.{Held, comes, coming_at, tick_at}, Waiting.Ready.{Comes, Ticks}, Queued.{IsBeside, Takeable, beside_at, is_of, is_sent_between, senders_at, sent_at, sooner_of, source_of, ticks_at, unless_some}, Queued.Takeable.{InLane, Beside}, Scanning.is_between, Spots.{IsArrival, IsKept, IsSpot}, declared.beside.Spot.Spot}
use Rattle.rb_queue.proofs.Sources.{from_on, from_on-suc, from_on-zero, length-coming_at, length-from_on, never_both, one_or_later}
use Rattle.rb_queue.specs.declared.beside.Spot.TheVariants as spot

-- ---- the least time

-- the least time with one more time is the sooner of the two
least-push : (ts : List ℕ) (t : ℕ) → least (ts ++ t ∷ []) ≡ Some (sooner_of (least ts) t)
least-push [] t = refl
least-push (x ∷ ts) t =
    let go : (o : Option ℕ) → min x (sooner_of o t) ≡ sooner_of (Some (elim o [ None ↦ x | Some u ↦ min x u ])) t =
    λ o. elim o as (λ o. min x (sooner_of o t) ≡ sooner_of (Some (elim o [ None ↦ x | Some u ↦ min x u ])) t) [ None ↦ omega arith | Some u ↦ omega arith ] in
    rw (least-push ts t) (ap (λ n. Some n) (go (least ts)))

-- the least time with one more event is the sooner of the two
pub least_more : (ts : List ℕ) (more : List Pending) (i : ℕ) (p : Pending) (o : Option ℕ) → i < length more → p ≡ get_or more i p
    → o ≡ least (ts ++ map (λ p. p.time) (take i more)) → Some (sooner_of o p.time) ≡ least (ts ++ map (λ p. p.time) (take (i + 1) more))
least_more ts more i p o h is so_far =
    ap (λ o. Some (sooner_of o p.time)) so_far ∙ sym (least-push (ts ++ map (λ p. p.time) (take i more)) p.time)
    ∙ ap least (append_assoc ts (map (λ p. p.time) (take i more)) (p.time ∷ []))
    ∙ ap (λ l. least (ts ++ l)) (sym (map-append (λ (p : Pending). p.time) (take i more) (p ∷ [])))
    ∙ ap (λ q. least (ts ++ map (λ p. p.time) (take i more ++ q ∷ []))) is
    ∙ ap (λ l. least (ts ++ map (λ p. p.time) l)) (sym (take_more more i p h))

-- ---- how many

length-passing : {X : Type 0} (q : X → Bool) (n : ℕ) (xs : List X) → length (filter (λ c. q c.1) (enumerate_from n xs)) ≡ count_if q xs
length-passing q n [] = refl
length-passing {X} q n (x ∷ xs) =
    let rest : List (ℕ × X) = filter (λ c. q c.1) (enumerate_from (n + 1) xs) in
    let more : length rest ≡ count_if q xs = length-passing q (n + 1) xs in
    let go : (b : Bool) → length (cond b ((n, x) ∷ rest) rest) ≡ cond b 1 0 + count_if q xs =
    λ b. elim b as (λ b. length (cond b ((n, x) ∷ rest) rest) ≡ cond b 1 0 + count_if q xs) [ true ↦ omega (arith, more) | false ↦ omega (arith, more) ] in
    go (q x)

-- one more event is counted if it passes
pub count_more : (time first end : ℕ) (more : List Pending) (i : ℕ) (p : Pending) → i < length more → p ≡ get_or more i p
    → count_if (is_sent_between time first end) (take (i + 1) more) ≡ count_if (is_sent_between time first end) (take i more) + cond (is_sent_between time first end p) 1 0
count_more time first end more i p h is =
    count_if-take_more (is_sent_between time first end) more i p h
    ∙ ap (λ y. count_if (is_sent_between time first end) (take i more) + cond (is_sent_between time first end y) 1 0) (sym is)

count_between : (time a e : ℕ) → a < e → (ps : List Pending)
    → count_if (is_of time a) ps + count_if (is_sent_between time (a + 1) e) ps ≡ count_if (is_sent_between time a e) ps
count_between time a e h [] = refl
count_between time a e h (p ∷ ps) = omega (arith, count_between time a e h ps, one_or_later (source_of p.event.kind) a e (p.time == time) h)

count_none : (time a : ℕ) (ps : List Pending) → count_if (is_sent_between time a a) ps ≡ 0
count_none time a [] = refl
count_none time a (p ∷ ps) = omega (arith, count_none time a ps, never_both (source_of p.event.kind) a (p.time == time))

-- what `n` sources send, the first of which is `a`
unfoldable pub sent_on : ℕ → Held → List Pending → ℕ → ℕ → List Takeable
sent_on time lane more a n = flat_map (sent_at time lane more) (range_with_len a n)

pub sent_on-suc : (time : ℕ) (lane : Held) (more : List Pending) (a n : ℕ)
    → sent_on time lane more a (suc n) ≡ sent_at time lane more a ++ sent_on time lane more (a + 1) n
unfolding sent_on
sent_on-suc time lane more a n = refl

pub sent_on-zero : (time : ℕ) (lane : Held) (more : List Pending) (a : ℕ) → sent_on time lane more a 0 ≡ []
unfolding sent_on
sent_on-zero time lane more a = refl

pub senders_are : (time : ℕ) (lane : Held) (more : List Pending) → senders_at time lane more ≡ sent_on time lane more 0 256
unfolding senders_at sent_on
senders_are time lane more = refl

length-sent_at : (time : ℕ) (lane : Held) (more : List Pending) (source : ℕ)
    → length (sent_at time lane more source) ≡ length (coming_at time lane.arrivals source) + length (beside_at time more source)
length-sent_at time lane more source =
    let here : List Takeable = map (λ c. InLane (Comes c.0 c.1)) (coming_at time lane.arrivals source) in
    let there : List Takeable = map (λ c. Beside c.0 c.1) (beside_at time more source) in
    length-append here there
    ∙ omega (arith, length-map (coming_at time lane.arrivals source) (λ c. InLane (Comes c.0 c.1)), length-map (beside_at time more source) (λ c. Beside c.0 c.1))

length-sent_on : (time : ℕ) (lane : Held) (more : List Pending) (a n e : ℕ) → a + n ≡ e
    → length (sent_on time lane more a n) ≡ count_if (is_between time a e) lane.arrivals + count_if (is_sent_between time a e) more
length-sent_on time lane more a zero e h =
    let same : a ≡ e = omega (arith, h) in
    ap length (sent_on-zero time lane more a)
    ∙ omega (
      arith,
      subst (λ e. count_if (is_sent_between time a e) more ≡ 0) same (count_none time a more),
      subst (λ e. count_if (is_between time a e) lane.arrivals ≡ 0) same (none_from time a lane.arrivals),
    )
  where
    none_from : (time a : ℕ) (xs : List Coming) → count_if (is_between time a a) xs ≡ 0
    none_from time a xs = sym (length-from_on time xs a 0 a (omega arith)) ∙ ap length (from_on-zero time xs a)
length-sent_on time lane more a (suc n) e h =
    let next = length-sent_on time lane more (a + 1) n e (omega (arith, h)) in
    let arrivals : count_if (comes time a) lane.arrivals + count_if (is_between time (a + 1) e) lane.arrivals ≡ count_if (is_between time a e) lane.arrivals =
    later time a n e (omega (arith, h)) lane.arrivals in
    ap length (sent_on-suc time lane more a n) ∙ length-append (sent_at time lane more a) (sent_on time lane more (a + 1) n)
    ∙ omega (
      arith,
      next,
      arrivals,
      length-sent_at time lane more a,
      length-coming_at time lane.arrivals a,
      length-passing (is_of time a) 0 more,
      count_between time a e (omega (arith, h)) more,
    )
  where
    later : (time a n e : ℕ) → a + suc n ≡ e → (xs : List Coming)
        → count_if (comes time a) xs + count_if (is_between time (a + 1) e) xs ≡ count_if (is_between time a e) xs
    later time a n e h xs =
        omega (
          arith,
          length-from_on time xs a (suc n) e h,
          length-from_on time xs (a + 1) n e (omega (arith, h)),
          length-coming_at time xs a,
          ap length (from_on-suc time xs a n) ∙ length-append (coming_at time xs a) (from_on time xs (a + 1) n),
        )

-- how many arrivals of a time there are
pub count_senders : (time : ℕ) (lane : Held) (more : List Pending)
    → length (senders_at time lane more) ≡ count_if (is_between time 0 256) lane.arrivals + count_if (is_sent_between time 0 256) more
count_senders time lane more = ap length (senders_are time lane more) ∙ length-sent_on time lane more 0 256 256 (omega arith)

-- the ticks at a time are that of the lane and those of the other events
pub count_ticks : (time : ℕ) (lane : Held) (more : List Pending)
    → length (ticks_at time lane more) ≡ length (tick_at time lane.tick) + count_if (is_sent_between time 256 257) more
count_ticks time lane more =
    length-append (map (λ r. InLane r) (tick_at time lane.tick)) (map (λ c. Beside c.0 c.1) (beside_at time more 256))
    ∙ omega (
      arith,
      length-map (tick_at time lane.tick) (λ r. InLane r),
      length-map (beside_at time more 256) (λ c. Beside c.0 c.1),
      length-passing (is_of time 256) 0 more,
      count_between time 256 257 (omega arith) more,
      count_none time 257 more,
    )

pub counted : (here later : List Takeable) → 0 < length here → length (unless_some here later) ≡ length here
counted [] later some = absurd (omega (arith, some))
counted (c ∷ cs) later some = refl

pub uncounted : (here later : List Takeable) → length here ≡ 0 → length (unless_some here later) ≡ length later
uncounted [] later none = refl
uncounted (c ∷ cs) later none = absurd (omega (arith, none))

-- ---- which

-- the items from place `k` on that pass, each with its place
abbrev pub passing : {X : Type 0} → (X → Bool) → List X → ℕ → List (ℕ × X)
passing q xs k = filter (λ c. q c.1) (enumerate_from k (drop k xs))

passing_next : (q : Pending → Bool) (ps : List Pending) (k : ℕ) (d : Pending) → k < length ps
    → passing q ps k ≡ cond (q (get_or ps k d)) ((k, get_or ps k d) ∷ passing q ps (k + 1)) (passing q ps (k + 1))
passing_next q ps k d h =
    let e : drop k ps ≡ get_or ps k d ∷ drop (k + 1) ps = rw add-one (drop-cons ps k d h) in
    ap (λ l. filter (λ c. q c.1) (enumerate_from k l)) e

-- if the next event passes and none is left before it, it is the one that is looked for
pub found_here : (time : ℕ) (more : List Pending) (source others k left : ℕ) (p : Pending) → k < length more → p ≡ get_or more k p
    → is_of time source p ≡ true → left ≡ 0
    → slice_get (passing (is_of time source) more k) left ≡ slice_get (beside_at time more source) others
    → IsBeside (beside_at time more source) others more k
found_here time more source others k left p h is passes none same =
    let next = passing_next (is_of time source) more k p h in
    let item : slice_get more k ≡ Some p = slice_get-get_or more k p h ∙ ap (λ y. Some y) (sym is) in
    let rest : List (ℕ × Pending) = passing (is_of time source) more (k + 1) in
    let here : passing (is_of time source) more k ≡ (k, p) ∷ rest =
    next ∙ ap (λ y. cond (is_of time source y) ((k, y) ∷ rest) rest) (sym is) ∙ ap (λ b. cond b ((k, p) ∷ rest) rest) passes in
    record {
      kept = p;
      found = sym same ∙ ap (λ l. slice_get l left) here ∙ ap (slice_get ((k, p) ∷ rest)) none;
      stands = item;
    }

-- what is beside the lane comes behind what the lane has
kept_behind : (listed : List (ℕ × Pending)) (front : List Takeable) (more : List Pending) (others left place : ℕ) → left + length front ≡ others
    → IsBeside listed left more place → IsKept (front ++ map (λ c. Beside c.0 c.1) listed) others more place
kept_behind listed front more others left place many at =
    let e : others ≡ length front + left = omega (arith, many) in
    record {
      kept = at.kept;
      found = ap (slice_get (front ++ map (λ c. Beside c.0 c.1) listed)) e ∙ slice_get-back front (map (λ c. Beside c.0 c.1) listed) left
          ∙ slice_get-map (λ (c : ℕ × Pending). Beside c.0 c.1) listed left ∙ ap (option_map (λ (c : ℕ × Pending). Beside c.0 c.1)) at.found;
      stands = at.stands;
    }

pub kept_sent : (time : ℕ) (lane : Held) (more : List Pending) (source others left place : ℕ) → left + length (coming_at time lane.arrivals source) ≡ others
    → IsBeside (beside_at time more source) left more place → IsKept (sent_at time lane more source) others more place
kept_sent time lane more source others left place many at =
    kept_behind (beside_at time more source) (map (λ c. InLane (Comes c.0 c.1)) (coming_at time lane.arrivals source)) more others left place
    (omega (arith, many, length-map (coming_at time lane.arrivals source) (λ c. InLane (Comes c.0 c.1)))) at

-- event `i` is event `left` of those from `source` on
pub record IsLeftOf (time : ℕ) (lane : Held) (more : List Pending) (i source left : ℕ) : Type 0 where
  pub same : slice_get (sent_on time lane more source (256 - source)) left ≡ slice_get (senders_at time lane more) i
  pub many : left + length (senders_at time lane more) ≡ i + length (sent_on time lane more source (256 - source))

pub left_first : (time : ℕ) (lane : Held) (more : List Pending) (i : ℕ) → IsLeftOf time lane more i 0 i
left_first time lane more i = record {
  same = ap (λ l. slice_get l i) (sym (senders_are time lane more));
  many = ap (λ l. i + length l) (senders_are time lane more);
}

next_on : (time : ℕ) (lane : Held) (more : List Pending) (source : ℕ) → source < 256
    → sent_on time lane more source (256 - source) ≡ sent_at time lane more source ++ sent_on time lane more (source + 1) (256 - (source + 1))
next_on time lane more source h =
    let e : 256 - source ≡ suc (256 - (source + 1)) = omega (arith, h) in
    ap (sent_on time lane more source) e ∙ sent_on-suc time lane more source (256 - (source + 1))

pub left_next : (time : ℕ) (lane : Held) (more : List Pending) (i source left others : ℕ) → source < 256 → IsLeftOf time lane more i source left
    → others + length (sent_at time lane more source) ≡ left → IsLeftOf time lane more i (source + 1) others
left_next time lane more i source left others h is passed =
    let rest : List Takeable = sent_on time lane more (source + 1) (256 - (source + 1)) in
    let next = next_on time lane more source h in
    let at : left ≡ length (sent_at time lane more source) + others = omega (arith, passed) in
    let long : length (sent_on time lane more source (256 - source)) ≡ length (sent_at time lane more source) + length rest =
    ap length next ∙ length-append (sent_at time lane more source) rest in
    record {
      same = sym (slice_get-back (sent_at time lane more source) rest others) ∙ ap (slice_get (sent_at time lane more source ++ rest)) (sym at)
          ∙ ap (λ l. slice_get l left) (sym next) ∙ is.same;
      many = omega (arith, long, passed, is.many);
    }

pub left_none : (time : ℕ) (lane : Held) (more : List Pending) (i source left : ℕ) → source ≡ 256 → IsLeftOf time lane more i source left
    → left + length (senders_at time lane more) ≡ i
left_none time lane more i source left end is =
    let none : sent_on time lane more source (256 - source) ≡ [] =
    ap (sent_on time lane more source) (let e : 256 - source ≡ 0 = omega (arith, end) in e) ∙ sent_on-zero time lane more source in
    let long : length (sent_on time lane more source (256 - source)) ≡ 0 = ap length none in
    omega (arith, is.many, long)

here : (time : ℕ) (lane : Held) (more : List Pending) (i source left : ℕ) (t : Takeable) → source < 256 → IsLeftOf time lane more i source left
    → slice_get (sent_at time lane more source) left ≡ Some t → slice_get (senders_at time lane more) i ≡ Some t
here time lane more i source left t h is found =
    sym is.same ∙ ap (λ l. slice_get l left) (next_on time lane more source h)
    ∙ slice_get-front (sent_at time lane more source) (sent_on time lane more (source + 1) (256 - (source + 1))) left (slice_get_within (sent_at time lane more source) left t found)
    ∙ found

pub arrival_left : (time : ℕ) (lane : Held) (more : List Pending) (i source left place : ℕ) → source < 256 → IsLeftOf time lane more i source left
    → IsArrival (sent_at time lane more source) left lane.arrivals place → IsArrival (senders_at time lane more) i lane.arrivals place
arrival_left time lane more i source left place h is at = record {
  coming = at.coming;
  found = here time lane more i source left (InLane (Comes place at.coming)) h is at.found;
  stands = at.stands;
}

pub kept_left : (time : ℕ) (lane : Held) (more : List Pending) (i source left place : ℕ) → source < 256 → IsLeftOf time lane more i source left
    → IsKept (sent_at time lane more source) left more place → IsKept (senders_at time lane more) i more place
kept_left time lane more i source left place h is at = record {
  kept = at.kept;
  found = here time lane more i source left (Beside place at.kept) h is at.found;
  stands = at.stands;
}

pub spot_left : (time : ℕ) (lane : Held) (more : List Pending) (i source left : ℕ) (s : Spot) → source < 256 → IsLeftOf time lane more i source left
    → IsSpot (sent_at time lane more source) left lane more s → IsSpot (senders_at time lane more) i lane more s
spot_left time lane more i source left (spot.Arrival place) h is at = arrival_left time lane more i source left place h is at
spot_left time lane more i source left spot.Tick h is at = here time lane more i source left (InLane Ticks) h is at
spot_left time lane more i source left (spot.Kept place) h is at = kept_left time lane more i source left place h is at
