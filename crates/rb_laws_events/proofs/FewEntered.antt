-- For the law that pending events are few if the run breaks off in a sync slot: a tick brings no
-- more to its node than what is said to it in a window, and nothing if it begins none.
use Rattle.std.proofs.Common.{◌≡◌, ℕ, zero, suc, ◌+◌, ◌≤◌, Bool, true, false, List, [], filter, flat_map, length, length-append, refl, ap, ◌∙◌, arith, Option, Some, None}
use Rattle.std.specs.List.{range_with_len}
use Rattle.rb_base.specs.Nodes.{Side, other}
use Rattle.rb_rules.specs.{declared.closing.Closed.Closed, declared.record.Epoch.Epoch, Core.{Act, Core}, Entries.{IsListed, is_said}, Goodness.{Scenario, is_good}, Hearing.{Coming, Span, said_by}, Ports.PortState, Slots.count_of, WorldStep.{Site, after_act, await, enter, proceed, says_in, span_from, stop, with_close, with_epoch}}
use Rattle.rb_laws_events.proofs.{FewThere.{said-few, said-once}, SourceSums.{items-once, sum_to}}

flat-sum : (f : ℕ → List Coming) (most : ℕ → ℕ) (a n : ℕ) → ((j : ℕ) → length (f j) ≤ most j) → length (flat_map f (range_with_len a n)) + sum_to most a ≤ sum_to most (a + n)
flat-sum f most a zero each = let same : sum_to most (a + 0) ≡ sum_to most a = ap (sum_to most) (omega arith) in omega (arith, same)
flat-sum f most a (suc n) each =
    let rest = flat-sum f most (a + 1) n each in
    let here : length (f a) ≤ most a = each a in
    let both = length-append (f a) (flat_map f (range_with_len (a + 1) n)) in
    let one : a + 1 ≡ suc a = omega arith in
    let next : sum_to most (a + 1) ≡ sum_to most a + most a = ap (sum_to most) one in
    let end : sum_to most (a + 1 + n) ≡ sum_to most (a + suc n) = ap (sum_to most) (omega arith) in
    omega (arith, rest, here, both, next, end)

pub says-few : {sc : _} → IsListed sc → (me : Side) (i : ℕ) (span : Span) → length (says_in sc me i span) ≤ length sc.says
unfolding says_in
says-few {sc} listed me i span =
    let most : ℕ → ℕ = λ j. length (filter (is_said me i j span) sc.says) in
    let all = flat-sum (λ j. elim (is_good sc (other me) j span.place.frame span.place.slot) as (λ _. List Coming) [ true ↦ [] | false ↦ said_by sc me i span j ]) most 0 (count_of (other me) sc.sizes)
    (λ j. by j (is_good sc (other me) j span.place.frame span.place.slot)) in
    let once = items-once (λ j. is_said me i j span) (count_of (other me) sc.sizes) (said-once me i span) sc.says in
    let same : sum_to most (0 + count_of (other me) sc.sizes) ≡ sum_to most (count_of (other me) sc.sizes) = ap (sum_to most) (omega arith) in
    omega (arith, all, once, same)
  where
    by : (j : ℕ) (b : Bool) → length (elim b as (λ _. List Coming) [ true ↦ [] | false ↦ said_by sc me i span j ]) ≤ length (filter (is_said me i j span) sc.says)
    by j true = omega arith
    by j false = said-few listed me i span j

-- what a window that starts brings
record Brings (sc : Scenario) (o : Option Span) (s z : Site) : Type 0 where
  most : length z.coming ≤ length s.coming + length sc.says
  none : o ≡ None → length z.coming ≤ length s.coming

enters : {sc : Scenario} → IsListed sc → (me : Side) (i : ℕ) (o : Option Span) (s : Site) → Brings sc o s (enter sc me i o s)
enters listed me i None s = let more = length-append s.coming [] in record { most = omega (arith, more); none = λ e. omega (arith, more) }
enters {sc} listed me i (Some span) s = record { most = by (is_good sc me i span.place.frame span.place.slot); none = λ e. absurd (cc) }
  where
    by : (b : Bool) → length (elim b as (λ _. Site) [ true ↦ await sc me i (says_in sc me i span) s | false ↦ stop s ]).coming ≤ length s.coming + length sc.says
    by true = let more = length-append s.coming (says_in sc me i span) in let few = says-few listed me i span in omega (arith, more, few)
    by false = omega arith

pub record BringsFew (sc : Scenario) (me : Side) (x : Act) (s z : Site) : Type 0 where
  pub most : length z.coming ≤ length s.coming + length sc.says
  pub none : span_from sc.sizes sc.plan me x.core.state x.core.had ≡ None → length z.coming ≤ length s.coming

pub act-brings : {sc : _} → IsListed sc → (ports : List PortState) (me : Side) (i : ℕ) (x : Act) (s : Site) → BringsFew sc me x s (after_act sc ports me i x s)
unfolding after_act proceed
act-brings {sc} listed ports me i x s =
    let s1 : Site = record s { core = x.core } in
    let s2 : Site = with_close me i x.core.state x.closed s1 in
    let s3 : Site = with_epoch sc ports me i x.epoch s2 in
    let core : s3.core ≡ x.core = epoch-core x.epoch s2 ∙ close-core x.closed s1 in
    let coming : length s3.coming ≡ length s.coming = ap length (epoch-coming x.epoch s2 ∙ close-coming x.closed s1) in
    let go : Brings sc (span_from sc.sizes sc.plan me s3.core.state s3.core.had) s3 (enter sc me i (span_from sc.sizes sc.plan me s3.core.state s3.core.had) s3) =
    enters listed me i (span_from sc.sizes sc.plan me s3.core.state s3.core.had) s3 in
    record {
      most = let le = go.most in omega (arith, le, coming);
      none = λ e. let le = go.none (ap (λ (c : Core). span_from sc.sizes sc.plan me c.state c.had) core ∙ e) in omega (arith, le, coming);
    }
  where
    epoch-core : (e : Option Epoch) (s : Site) → (with_epoch sc ports me i e s).core ≡ s.core
    epoch-core None s = refl
    epoch-core (Some e) s = refl

    close-core : (c : Option Closed) (s : Site) → (with_close me i x.core.state c s).core ≡ s.core
    close-core None s = refl
    close-core (Some c) s = refl

    epoch-coming : (e : Option Epoch) (s : Site) → (with_epoch sc ports me i e s).coming ≡ s.coming
    epoch-coming None s = refl
    epoch-coming (Some e) s = refl

    close-coming : (c : Option Closed) (s : Site) → (with_close me i x.core.state c s).coming ≡ s.coming
    close-coming None s = refl
    close-coming (Some c) s = refl
