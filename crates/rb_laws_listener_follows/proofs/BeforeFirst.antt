-- Before its first frame a listener closes nothing.
use Rattle.std.proofs.{Common.{◌≡◌, ℕ, zero, suc, ◌+◌, ◌-◌, ◌<◌, ◌≤◌, List, [], ◌∷◌, None, inl, inr, refl, sym, ◌∙◌, ap, subst, arith}, lemmas.Bool.cases_lt}
use Rattle.std.specs.Option.{option_or}
use Rattle.rb_base.specs.Nodes.Side.{Biu}
use Rattle.rb_rules.specs.{Core.{Core, arrive}, Goodness.Scenario, Hearing.Coming}
use Rattle.rb_listen.specs.{Following.follow, Listening.{Listening, followed, hear, heed}, declared.search.Search.Search}
use Rattle.rb_laws_listener_learns.specs.{Ears.{Ear, hears, listening_at}, Receivers.{closing_at, closing_in, if_window, seen_by}, Waiting.WaitsFor}
use Rattle.rb_laws_listener_follows.proofs.SeenWindows.{NoneSeen}
use Rattle.rb_listen.specs.Listening as now

-- the listener follows
pub record Follows (l : Listening) : Type 0 where
  pub core : Core
  pub is : l ≡ now.Following core

pub hears_on : (sc : Scenario) (cs : List Coming) (c : Core) → Follows (hears sc cs (now.Following c))
unfolding hear
hears_on sc [] c = record { core = c; is = refl }
hears_on sc (x ∷ xs) c = hears_on sc xs (arrive sc.sizes Biu c x.from x.bytes)

heeds-on : (sc : Scenario) (c : Core) → (heed sc.sizes sc.plan (now.Following c)).listening ≡ now.Following (follow sc.sizes sc.plan c).core
unfolding heed
heeds-on sc c = refl

next-follows : (sc : Scenario) (ear : Ear) (k : ℕ) → Follows (listening_at sc ear k) → Follows (listening_at sc ear (suc k))
next-follows sc ear k f =
    let is : (heed sc.sizes sc.plan (listening_at sc ear k)).listening ≡ now.Following (follow sc.sizes sc.plan f.core).core =
    ap (λ l. (heed sc.sizes sc.plan l).listening) f.is ∙ heeds-on sc f.core in
    subst (λ l. Follows (hears sc (ear.heard (suc k)) l)) (sym is) (hears_on sc (ear.heard (suc k)) (follow sc.sizes sc.plan f.core).core)

pub later_follows : (sc : Scenario) (ear : Ear) (k : ℕ) → Follows (listening_at sc ear k) → (d : ℕ) → Follows (listening_at sc ear (d + k))
later_follows sc ear k f zero = let e : k ≡ 0 + k = omega arith in subst (λ t. Follows (listening_at sc ear t)) e f
later_follows sc ear k f (suc d) =
    let e : suc (d + k) ≡ suc d + k = omega arith in subst (λ t. Follows (listening_at sc ear t)) e (next-follows sc ear (d + k) (later_follows sc ear k f d))

-- up to a tick at which the listener searches it closes nothing
searching-none : (sc : Scenario) (ear : Ear) (tick : ℕ) (s : Search) → listening_at sc ear tick ≡ now.Searching s → (k : ℕ) → k ≤ tick → closing_at sc ear k ≡ None
searching-none sc ear tick s searching k le = by (listening_at sc ear k) refl
  where
    by : (l : Listening) → listening_at sc ear k ≡ l → closing_in sc l ≡ None
    by (now.Searching t) is = refl
    by (now.Waiting had first) is = refl
    by (now.Following c) is =
        let e : (tick - k) + k ≡ tick = omega (arith, le) in
        let f : Follows (listening_at sc ear tick) = subst (λ t. Follows (listening_at sc ear t)) e (later_follows sc ear k (record { core = c; is = is }) (tick - k)) in
        let both : now.Searching s ≡ now.Following f.core = sym searching ∙ f.is in
        cc

quiet-none : (sc : Scenario) (ear : Ear) (g v n : ℕ) → ((k : ℕ) → k < n → closing_at sc ear k ≡ None) → seen_by sc ear g v n ≡ None
quiet-none sc ear g v zero quiet = refl
quiet-none sc ear g v (suc n) quiet =
    ap (λ x. option_or x (if_window g v (closing_at sc ear n))) (quiet-none sc ear g v n (λ k lt. quiet k (omega (arith, lt))))
    ∙ ap (if_window g v) (quiet n (omega arith))

pub none_first : {sc ear tick : _} (s : Search) {first : _} → listening_at sc ear tick ≡ now.Searching s → WaitsFor sc ear tick first → first.epoch < ear.ticks
    → (frame : ℕ) → NoneSeen sc ear frame 0 (suc first.epoch)
none_first {sc} {ear} {tick} s {first} searching w in_time frame g v from =
    quiet-none sc ear g v (suc first.epoch) (λ k lt.
    elim (cases_lt tick k) [
      | inl after ↦ ap (closing_in sc) (w.waits k after (omega (arith, lt)) (omega (arith, lt, in_time)))
      | inr le ↦ searching-none sc ear tick s searching k le
    ])
