-- What a node keeps at hand between two busy ticks.
use Rattle.std.proofs.{Common.{◌≡◌, ℕ, ◌<◌, ◌≤◌, ◌^◌, ◌&&◌, ◌++◌, ◌∷◌, [], max, nat_lt, not, Bool, true, false, ap, sym, ◌∙◌, subst, arith, inl, inr, List, if◌then◌else◌}, lemmas.Bool.{cases_lt, le-ltb, lt-ltb}}
use Rattle.rb_base.specs.{Nodes.{Side, other}, Sizes.Sizes}
use Rattle.rb_base.proofs.Plain.{and-not_true}
use Rattle.rb_rules.specs.{declared.plan.Window.Window, Core.{Core, arrive, is_spent, pass_to, wants}, Slots.count_of, Sense.Arrival}
use Rattle.rb_rules.proofs.QuietTicks.{not-spent}
use Rattle.rb_eligible.specs.Inboxes.{HoldsArrivals, KeptArrivals, Received}
use Rattle.rb_slot.specs.Engines.{Seated}
use Rattle.rb_node.specs.{Aheads.{IsNextBusy, IsNextTick, IsRunning, IsWindowOf, LooksAhead, busy_at, want_ahead, want_at}, Cores.{IsCore, Running, next_of, passing_end, received_of}, Wants.{want_for, want_then}, declared.ahead.Ahead.Ahead}
use Rattle.rb_node.proofs.Cores.{busy-search, found-end, next-is, next-none, received-append, spent-is, want-is, want-quiet, want-spent}
use Rattle.rb_node.specs.declared.act.Want.TheVariants as want

-- What is kept stays as it is up to the busy tick.

pub next-on : (comes : ℕ → Bool) (me : Side) (v : Seated) (had m k : ℕ) → IsNextTick comes me v had k → had ≤ m → m ≤ k → IsNextTick comes me v m k
next-on comes me v had m k n lo hi = record {
  later = hi;
  most = n.most;
  quiet = λ j a b. n.quiet j (omega arith) b;
  busy = n.busy;
  here = λ j a b. n.here j (omega arith) b ∙ sym (n.here m lo hi);
}

pub window-on : (comes : ℕ → Bool) (me : Side) (v : Seated) (had m k : ℕ) (w : Window) → IsNextTick comes me v had k → IsWindowOf me v had w
    → had ≤ m → m ≤ k → IsWindowOf me v m w
window-on comes me v had m k w n is lo hi =
    record { is = is.is ∙ sym (n.here m lo hi); of_frame = is.of_frame; slot = is.slot; first = is.first; fits = is.fits }

pub runs-on : (me : Side) (v : Seated) (had m : ℕ) (inbox : KeptArrivals) (a : Ahead) → IsRunning me v had inbox a → had ≤ m → m ≤ a.busy.tick
    → IsRunning me v m inbox a
runs-on me v had m inbox a r lo hi =
    let most : a.busy.tick ≤ 2 ^ 31 = r.ahead.next.most in
    let frame : v.state.frame ≤ had = r.frame in
    let epoch : v.state.epoch ≤ had = r.epoch in
    record {
      most = omega arith;
      index = r.index;
      frame = omega arith;
      epoch = omega arith;
      stamps = r.stamps;
      ahead = record { next = next-on (busy_at me v) me v had m a.busy.tick r.ahead.next lo hi; window = window-on (busy_at me v) me v had m a.busy.tick a.window r.ahead.next r.ahead.window lo hi; stage = r.ahead.stage; wants = r.ahead.wants; alone = r.ahead.alone };
    }

pub passing-is : (me : Side) (n : Running) (k : ℕ) → IsNextBusy me n.seat n.had k → passing_end me n ≡ k
passing-is me n k next = found-end (busy_at me n.seat) _ me n.seat n.had k (busy-search me n.seat) next

-- What is wanted.

ahead-now : (me : Side) (v : Seated) (k : ℕ) → k < 2 ^ 31 → want_ahead me v k ≡ want_at me v k
ahead-now me v k h = ap (λ b. if b then want_at me v k else want.Nothing) (lt-ltb k (2 ^ 31) h)

ahead-end : (me : Side) (v : Seated) (k : ℕ) → 2 ^ 31 ≤ k → want_ahead me v k ≡ want.Nothing
ahead-end me v k h = ap (λ b. if b then want_at me v k else want.Nothing) (le-ltb k (2 ^ 31) h)

-- at the busy tick `a.want` is what the core wants
pub wants-now : (me : Side) (v : Seated) (had : ℕ) (a : Ahead) (c : Core) → LooksAhead me v had a → had ≡ a.busy.tick → c.state ≡ v.state → c.had ≡ had
    → a.want ≡ want_for v.sizes (wants v.sizes v.plan me v.index c)
wants-now me v had a c l at state had_is =
    elim (cases_lt had (2 ^ 31)) [
      | inl below ↦
          l.wants ∙ ap (want_ahead me v) (sym at) ∙ ahead-now me v had below ∙ sym (want-is me v c had state had_is below)
      | inr end ↦ l.wants ∙ ahead-end me v a.busy.tick (omega arith) ∙ sym (want-spent me v c (omega arith))
    ]

-- before the busy tick the core wants nothing
pub wants-quiet : (me : Side) (v : Seated) (had : ℕ) (a : Ahead) (c : Core) → LooksAhead me v had a → had < a.busy.tick → c.state ≡ v.state → c.had ≡ had
    → want.Nothing ≡ want_for v.sizes (wants v.sizes v.plan me v.index c)
wants-quiet me v had a c l before state had_is =
    let most : a.busy.tick ≤ 2 ^ 31 = l.next.most in
    sym (want-is me v c had state had_is (omega arith) ∙ want-quiet me v had (l.next.quiet had (omega arith) before))

max-is : (a b : ℕ) → a ≤ b → max a b ≡ b
max-is a b h = omega arith

-- once the busy tick has come `a.want` is what the core wants with it
pub wants-then : (me : Side) (n : Running) (a : Ahead) (c : Core) → LooksAhead me n.seat n.had a → c.state ≡ n.seat.state → c.had ≡ n.had
    → a.want ≡ want_then me n c (next_of me n c)
wants-then me n a c l state had_is =
    let later : n.had ≤ a.busy.tick = l.next.later in
    elim (cases_lt a.busy.tick (2 ^ 31)) [
      | inl below ↦
          l.wants ∙ ahead-now me n.seat a.busy.tick below
          ∙ sym (want-is me n.seat (pass_to a.busy.tick c) a.busy.tick state (max-is c.had a.busy.tick (omega arith)) below)
          ∙ ap (want_then me n c) (sym (next-is me n.seat c n.had a.busy.tick state had_is l.next below))
      | inr end ↦
          l.wants ∙ ahead-end me n.seat a.busy.tick end
          ∙ ap (want_then me n c) (sym (next-none me n.seat c n.had a.busy.tick state had_is l.next end))
    ]

-- Arrivals.

abbrev arrived : Core → ℕ → List ℕ → Bool → Core
arrived c from bytes b = elim b [ true ↦ record c { inbox = c.inbox ++ (from, record { stamp = c.had; bytes = bytes }) ∷ [] } | false ↦ c ]

pub arrive-spent : (sizes : Sizes) (me : Side) (c : Core) (from : ℕ) (bytes : List ℕ) → 2 ^ 31 ≤ c.had → arrive sizes me c from bytes ≡ c
unfolding arrive
arrive-spent sizes me c from bytes h =
    ap (λ b. arrived c from bytes (nat_lt from (count_of (other me) sizes) && not b)) (spent-is c h)
    ∙ ap (arrived c from bytes) (and-not_true (nat_lt from (count_of (other me) sizes)))

pub arrive-nobody : (sizes : Sizes) (me : Side) (c : Core) (from : ℕ) (bytes : List ℕ) → count_of (other me) sizes ≤ from
    → arrive sizes me c from bytes ≡ c
unfolding arrive
arrive-nobody sizes me c from bytes h =
    ap (λ b. arrived c from bytes (b && not (is_spent c))) (le-ltb from (count_of (other me) sizes) h)

pub arrive-takes : (sizes : Sizes) (me : Side) (c : Core) (from : ℕ) (bytes : List ℕ) → from < count_of (other me) sizes → c.had < 2 ^ 31
    → arrive sizes me c from bytes ≡ record c { inbox = c.inbox ++ (from, record { stamp = c.had; bytes = bytes }) ∷ [] }
unfolding arrive
arrive-takes sizes me c from bytes h below =
    ap (λ b. arrived c from bytes (b && not (is_spent c))) (lt-ltb from (count_of (other me) sizes) h)
    ∙ ap (λ b. arrived c from bytes (not b)) (not-spent c below)

-- what holds all arrivals so far holds them with one more, once that is noted
holds-more : (kept : KeptArrivals) (inbox : List (ℕ × Arrival)) (from at : ℕ) (bytes : List ℕ) (source stamp : ℕ)
    → HoldsArrivals kept (received_of inbox ++ record { source = source; arrival = record { stamp = stamp; bytes = bytes } } ∷ [])
    → source ≡ from → at ≡ stamp → HoldsArrivals kept (received_of (inbox ++ (from, record { stamp = at; bytes = bytes }) ∷ []))
holds-more kept inbox from at bytes source stamp holds s t =
    subst (HoldsArrivals kept)
    (ap (λ x. received_of inbox ++ record { source = x; arrival = record { stamp = stamp; bytes = bytes } } ∷ []) s
    ∙ ap (λ y. received_of inbox ++ record { source = from; arrival = record { stamp = y; bytes = bytes } } ∷ []) (sym t)
    ∙ sym (received-append inbox ((from, record { stamp = at; bytes = bytes }) ∷ []))) holds

-- a core that takes the bytes is stood for with what holds them too
pub takes-more : (me : Side) (n : Running) (kept : KeptArrivals) (c : Core) (from source : ℕ) (bytes : List ℕ) → IsCore n c → n.had < 2 ^ 31
    → from < count_of (other me) n.seat.sizes → source ≡ from
    → ((received : List Received) → HoldsArrivals n.inbox received
    → HoldsArrivals kept (received ++ record { source = source; arrival = record { stamp = n.had; bytes = bytes } } ∷ []))
    → IsCore (record n { inbox = kept }) (arrive n.seat.sizes me c from bytes)
takes-more me n kept c from source bytes is below there same holds =
    let had : c.had ≡ n.had = is.had in
    subst (IsCore (record n { inbox = kept })) (sym (arrive-takes n.seat.sizes me c from bytes there (omega arith)))
    (record { state = is.state; had = had; inbox = holds-more kept c.inbox from c.had bytes source n.had (holds (received_of c.inbox) is.inbox) same had })
