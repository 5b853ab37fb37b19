-- For the law that events are rounds if the premise on faults is broken in a sync slot: an arrival
-- and a message on its way keep each node of a world in which the run breaks off. What comes to a
-- node that waits for its last tick of the stage comes after that tick.
use Rattle.std.proofs.Common.{◌≡◌, ℕ, zero, suc, ◌<◌, ◌≤◌, ◌&&◌, ◌++◌, ◌∷◌, [], Bool, true, false, List, append_assoc, refl, ap, sym, ◌∙◌, subst, arith, inl, inr, Option, Some, None, remove}
use Rattle.rb_base.specs.Nodes.{Side, other}
use Rattle.rb_rules.specs.{declared.closing.Closed.Closed as Shown, declared.message.Message.Message, declared.record.Epoch.Epoch, Core.{Act}, Goodness.{Scenario, clock_of, is_good}, Hearing.{Coming, Span, coming_of}, Ports.{HandIn, PortState}, Rounds.moment, Slots.same_side, WorldStep.{Site, Timed, after_act, after_arrival, await, enter, proceed, says_in, span_from, stop, with_close, with_epoch}}
use Rattle.rb_rules.proofs.Stamps.{Moves}
use Rattle.rb_laws_events.proofs.{BreakSites.{ArrivalsKeep, Course, HasTold, SiteBreaks, WaitsAhead, WaitsDeaf, deaf-arrives, told-on}, Invariant.{is_good_at}, NodeEvents.stands-arrival, OneEvent.none-stands, PendingLists.{StandsAt, each-append}, Receiving.{ArrivesNow, every-stands}, SameHeard.Every, WorldTicks.reached}

-- Arrivals.

pub every-left : (P : Coming → Type 0) (xs ys : List Coming) → Every P (xs ++ ys) → Every P xs
every-left P [] ys e = tt
every-left P (x ∷ xs) ys e = (e.0, every-left P xs ys e.1)

-- an item that comes by time `t` is not among those that come after it
stands-left : (n : ℕ) (c : Coming) (t : ℕ) (xs ys : List Coming) → Every (λ y. t < y.time) ys → c.time ≤ t → StandsAt n c (xs ++ ys) → StandsAt n c xs × (remove (xs ++ ys) n ≡ remove xs n ++ ys)
stands-left n c t [] ys all le s = let after : t < c.time = every-stands (λ y. t < y.time) n ys s all in absurd (omega (arith, after, le))
stands-left zero c t (x ∷ xs) ys all le s = (s, refl)
stands-left (suc n) c t (x ∷ xs) ys all le s =
    let others = stands-left n c t xs ys all le s in
    (others.0, ap (λ l. x ∷ l) others.1)

ahead-arrives : {sc hands sent me i p n c s : _} → Moves (clock_of sc me i)
    → (h : WaitsAhead sc hands sent me i p s) → ArrivesNow n c s h.waits.a → WaitsAhead sc hands sent me i p (after_arrival sc me i n c s)
unfolding after_arrival
ahead-arrives {n} {c} {s} moves h due =
    let base : Site = record s { coming = h.mine } in
    let split = stands-left n c h.waits.a.time h.mine h.more h.later due.before_tick (subst (StandsAt n c) h.is due.at) in
    let its : ArrivesNow n c base h.waits.a = record {
      at = split.0;
      least = every-left (λ x. c.time ≤ x.time) h.mine h.more (subst (Every (λ x. c.time ≤ x.time)) h.is due.least);
      before_tick = due.before_tick;
    } in
    record {
      now = c.time;
      mine = remove h.mine n;
      more = h.more;
      is = ap (λ l. remove l n) h.is ∙ split.1;
      waits = record {
        st = h.waits.st;
        a = h.waits.a;
        stands = stands-arrival moves its h.waits.stands;
        hears = h.waits.hears;
        last = h.waits.last;
      };
      later = h.later;
    }

pub site-comes : {sc : Scenario} {hands : List HandIn} (C : Course) → ArrivalsKeep sc C → {sent : Side → ℕ → ℕ → Bool} {p : ℕ} {me : Side} {i n : ℕ} {c : Coming} {s : Site} → (is_good_at sc (moment sc hands p) me i ≡ true → Moves (clock_of sc me i)) → StandsAt n c s.coming
    → ((a : Timed) → s.ahead ≡ Some a → ArrivesNow n c s a) → SiteBreaks sc hands C sent p me i s → SiteBreaks sc hands C sent p me i (after_arrival sc me i n c s)
unfolding after_arrival
site-comes C its {n} {c} {s} moves stands due (inl stopped) = absurd (none-stands n c s.coming stopped.coming stands)
site-comes C its moves stands due (inr (inl h)) = inr (inl (ahead-arrives (moves h.waits.stands.good) h (due h.waits.a h.waits.stands.receives.pends)))
site-comes C its {n} {c} moves stands due (inr (inr (inl h))) = inr (inr (inl (deaf-arrives n c (moves h.good) h (due h.a h.pends).before_tick)))
site-comes {sc} {hands} C its {p} {me} {i} {n} {c} {s} moves stands due (inr (inr (inr h))) =
    inr (inr (inr (told-on C (after_arrival sc me i n c s) h refl (its hands me i p n c s h.st (moves h.good) h.course (λ a e. (due a e).before_tick)))))

-- A message on its way.

deaf-more : {sc hands p side j s : _} (more : List Coming) → WaitsDeaf sc hands side j p s → WaitsDeaf sc hands side j p (record s { coming = more })
deaf-more more h = record {
  st = h.st;
  a = h.a;
  state = h.state;
  good = h.good;
  slot = h.slot;
  deaf = h.deaf;
  stands = h.stands;
  from = h.from;
  had = h.had;
  small = h.small;
  pends = h.pends;
  at_time = h.at_time;
  last = h.last;
}

ahead-more : {sc hands sent p side j s : _} (c : Coming) → (h : WaitsAhead sc hands sent side j p s) → h.waits.a.time < c.time
    → WaitsAhead sc hands sent side j p (record s { coming = s.coming ++ c ∷ [] })
ahead-more c h after = record {
  now = h.now;
  mine = h.mine;
  more = h.more ++ c ∷ [];
  is = ap (λ l. l ++ c ∷ []) h.is ∙ append_assoc h.mine h.more (c ∷ []);
  waits = record { st = h.waits.st; a = h.waits.a; stands = h.waits.stands; hears = h.waits.hears; last = h.waits.last };
  later = each-append (λ x. h.waits.a.time < x.time) h.more (c ∷ []) h.later (after, tt);
}

pub message-comes : {sc hands : _} (C : Course) {sent p : _} (me : Side) (i frame k : ℕ) (m : Option Message) {side j z : _}
    → ((h : WaitsAhead sc hands sent side j p z) → same_side side (other me) ≡ true → (x : Message) → m ≡ Some x → h.waits.a.time < (coming_of sc side j i frame (record { tick = k; message = x })).time)
    → SiteBreaks sc hands C sent p side j z → SiteBreaks sc hands C sent p side j (reached sc me i frame k m side j z)
message-comes C me i frame k None late h = h
message-comes {sc} {hands} C {sent} {p} me i frame k (Some m) {side} {j} {z} late h = by (same_side side (other me)) z.runs refl refl h
  where
    c : Coming
    c = coming_of sc side j i frame (record { tick = k; message = m })

    more : Bool → Site
    more b = elim b as (λ _. Site) [ true ↦ record z { coming = z.coming ++ c ∷ [] } | false ↦ z ]

    by : (a b : Bool) → same_side side (other me) ≡ a → z.runs ≡ b → SiteBreaks sc hands C sent p side j z → SiteBreaks sc hands C sent p side j (more (a && b))
    by false b e f h = h
    by true false e f h = h
    by true true e f (inl stopped) = let both : true ≡ false = sym f ∙ stopped.runs in absurd (cc)
    by true true e f (inr (inl ahead)) = inr (inl (ahead-more c ahead (late ahead e m refl)))
    by true true e f (inr (inr (inl deaf))) = inr (inr (inl (deaf-more (z.coming ++ c ∷ []) deaf)))
    by true true e f (inr (inr (inr told))) = inr (inr (inr (told-on C (more true) told refl told.course)))

-- What comes to a node matters not to what it tells.

pub record IsSame (a b : Site) : Type 0 where
  pub core : a.core ≡ b.core
  pub row : a.row ≡ b.row
  pub ahead : a.ahead ≡ b.ahead

enter-same : (sc : Scenario) (me : Side) (i : ℕ) (o : Option Span) (s : Site) (l : List Coming) → IsSame (enter sc me i o (record s { coming = l })) (enter sc me i o s)
enter-same sc me i None s l = record { core = refl; row = refl; ahead = refl }
enter-same sc me i (Some span) s l = by (is_good sc me i span.place.frame span.place.slot)
  where
    next : Bool → Site → Site
    next b s = elim b as (λ _. Site) [ true ↦ await sc me i (says_in sc me i span) s | false ↦ stop s ]

    by : (b : Bool) → IsSame (next b (record s { coming = l })) (next b s)
    by true = record { core = refl; row = refl; ahead = refl }
    by false = record { core = refl; row = refl; ahead = refl }

pub act-same : (sc : Scenario) (ports : List PortState) (me : Side) (i : ℕ) (x : Act) (s : Site) (l : List Coming) → IsSame (after_act sc ports me i x (record s { coming = l })) (after_act sc ports me i x s)
unfolding after_act proceed
act-same sc ports me i x s l =
    let s3 : Site = with_epoch sc ports me i x.epoch (with_close me i x.core.state x.closed (record s { core = x.core })) in
    let is : with_epoch sc ports me i x.epoch (with_close me i x.core.state x.closed (record s { core = x.core; coming = l })) ≡ record s3 { coming = l } =
    ap (with_epoch sc ports me i x.epoch) (close-same x.closed (record s { core = x.core })) ∙ epoch-same x.epoch (with_close me i x.core.state x.closed (record s { core = x.core })) in
    subst (λ z. IsSame (enter sc me i (span_from sc.sizes sc.plan me z.core.state z.core.had) z) (enter sc me i (span_from sc.sizes sc.plan me s3.core.state s3.core.had) s3)) (sym is)
    (enter-same sc me i (span_from sc.sizes sc.plan me s3.core.state s3.core.had) s3 l)
  where
    close-same : (c : Option Shown) (s : Site) → with_close me i x.core.state c (record s { coming = l }) ≡ record (with_close me i x.core.state c s) { coming = l }
    close-same None s = refl
    close-same (Some c) s = refl

    epoch-same : (e : Option Epoch) (s : Site) → with_epoch sc ports me i e (record s { coming = l }) ≡ record (with_epoch sc ports me i e s) { coming = l }
    epoch-same None s = refl
    epoch-same (Some e) s = refl

pub told-same : {sc hands : _} (C : Course) {me i p a b : _} → IsSame a b → HasTold sc hands C me i p a → HasTold sc hands C me i p b
told-same {hands} C {me} {i} {p} {a} {b} same h = told-on C b h (sym same.row)
    (subst (λ o. C hands p me i h.st b.core o) same.ahead (subst (λ c. C hands p me i h.st c a.ahead) same.core h.course))
