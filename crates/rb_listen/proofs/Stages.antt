-- A listener's calls, by its stage.
use Rattle.std.proofs.Common.{◌≡◌, ℕ, ◌+◌, ◌<◌, ◌≤◌, ◌^◌, refl, ap, sym, ◌∙◌, subst, false, List}
use Rattle.rb_base.specs.Sizes.{Sizes}
use Rattle.rb_node.specs.Cores.{IsCore, Running}
use Rattle.rb_rules.specs.{declared.plan.Plan.Plan, Core.Core}
use Rattle.rb_listen.specs.{Following.{arrive_at, follow_at, follows_at}, Waking.wakes_at, Listeners.{ComesTo, IsAhead, IsInStage, IsListeningIn, IsSound, end_in, had_in}, Listening.{Heeding, Listening, TellNothing, decision_of, first_core, had_by, hear, heed, heeds, no_heed, search_on, searching, told, untold}, declared.heed.Heed.Heed, declared.lesson.First.First, declared.listener.Stage.Stage, declared.listener.Stage.TheVariants.{Searching, Waiting, Following}, declared.search.Search.Search}
use Rattle.rb_listen.proofs.{Listeners.{begins-following, goes-on-following, hears-following, hears-searching, hears-waiting, heeds-over, heeds-searching, heeds-spent, heeds-wait, nothing-following, nothing-searching, nothing-waiting, passes-following, passes-searching, passes-waiting}, Searches.{Stays, arrive-stays, stays-ahead, stays-now, stays-search}}
use Rattle.rb_listen.specs.Listening as now

in-stage : (st x : Stage) (s : Search) (n : Running) (l : Listening) → st ≡ x → IsListeningIn st s n l → IsListeningIn x s n l
in-stage st x s n l e at = subst (λ y. IsListeningIn y s n l) e at

from-stage : (st x : Stage) (s : Search) (n : Running) (l : Listening) → st ≡ x → IsListeningIn x s n l → IsListeningIn st s n l
from-stage st x s n l e at = subst (λ y. IsListeningIn y s n l) (sym e) at

-- A stage stands for some listener.

pub some-searching : (st : Stage) (s : Search) (n : Running) → st ≡ Searching → (l : Listening) × IsListeningIn st s n l
some-searching st s n e = (now.Searching s, from-stage st Searching s n (now.Searching s) e refl)

pub some-waiting : (st : Stage) (s : Search) (n : Running) (first : First) → st ≡ Waiting first → (l : Listening) × IsListeningIn st s n l
some-waiting st s n first e = (now.Waiting s.had first, from-stage st (Waiting first) s n (now.Waiting s.had first) e refl)

pub some-following : (st : Stage) (s : Search) (n : Running) → st ≡ Following → (c : Core) × IsCore n c → (l : Listening) × IsListeningIn st s n l
some-following st s n e (c, core) = (now.Following c, from-stage st Following s n (now.Following c) e (c, (core, refl)))

-- Arrivals.

stays-of : (sizes : Sizes) (plan : Plan) (st : Stage) (s t : Search) (n : Running) (from : ℕ) (bytes : List ℕ) → st ≡ Searching
    → t ≡ searching sizes plan from bytes s → IsSound sizes plan st s n → Stays s.had t
stays-of sizes plan st s t n from bytes e is sound =
    let ahead : IsAhead s.had (decision_of s) = subst (λ y. IsInStage sizes plan y s n) e sound.inside in
    subst (Stays s.had) (sym is) (arrive-stays s.had sizes plan from bytes s (stays-now s sound.search ahead))

pub arrive-sound : (sizes : Sizes) (plan : Plan) (st : Stage) (s t : Search) (n : Running) (from : ℕ) (bytes : List ℕ) → st ≡ Searching
    → t ≡ searching sizes plan from bytes s → IsSound sizes plan st s n → IsSound sizes plan st t n
arrive-sound sizes plan st s t n from bytes e is sound =
    let stays : Stays s.had t = stays-of sizes plan st s t n from bytes e is sound in
    let inside : IsAhead t.had (decision_of t) = stays-ahead s.had t stays in
    record { search = stays-search s.had t stays; inside = subst (λ y. IsInStage sizes plan y t n) (sym e) inside }

pub arrive-had : (sizes : Sizes) (plan : Plan) (st : Stage) (s t : Search) (n : Running) (from : ℕ) (bytes : List ℕ) → st ≡ Searching
    → t ≡ searching sizes plan from bytes s → IsSound sizes plan st s n → had_in st t n ≡ had_in st s n
arrive-had sizes plan st s t n from bytes e is sound =
    let stays : Stays s.had t = stays-of sizes plan st s t n from bytes e is sound in
    subst (λ y. had_in y t n ≡ had_in y s n) (sym e) stays.had

pub arrive-searching : (sizes : Sizes) (plan : Plan) (st : Stage) (s t : Search) (n : Running) (from : ℕ) (bytes : List ℕ) (l : Listening) → st ≡ Searching
    → t ≡ searching sizes plan from bytes s → IsListeningIn st s n l → IsListeningIn st t n (hear sizes plan from bytes l)
arrive-searching sizes plan st s t n from bytes l e is at =
    from-stage st Searching t n (hear sizes plan from bytes l) e (hears-searching sizes plan from bytes s t l is (in-stage st Searching s n l e at))

pub arrive-waiting : (sizes : Sizes) (plan : Plan) (st : Stage) (s : Search) (n : Running) (from : ℕ) (bytes : List ℕ) (first : First) (l : Listening)
    → st ≡ Waiting first → IsListeningIn st s n l → IsListeningIn st s n (hear sizes plan from bytes l)
arrive-waiting sizes plan st s n from bytes first l e at =
    from-stage st (Waiting first) s n (hear sizes plan from bytes l) e (hears-waiting sizes plan from bytes s.had first l (in-stage st (Waiting first) s n l e at))

same-bus : (sizes : Sizes) (plan : Plan) (st : Stage) (s : Search) (n : Running) → st ≡ Following → IsSound sizes plan st s n
    → (n.seat.sizes ≡ sizes) × (n.seat.plan ≡ plan)
same-bus sizes plan st s n e sound = subst (λ y. IsInStage sizes plan y s n) e sound.inside

pub arrive-following : (sizes : Sizes) (plan : Plan) (st : Stage) (s : Search) (n m : Running) (from : ℕ) (bytes : List ℕ) (l : Listening) → st ≡ Following
    → IsSound sizes plan st s n → ((c : Core) → IsCore n c → IsCore m (arrive_at n c from bytes)) → IsListeningIn st s n l
    → IsListeningIn st s m (hear sizes plan from bytes l)
arrive-following sizes plan st s n m from bytes l e sound cores at =
    from-stage st Following s m (hear sizes plan from bytes l) e
    (hears-following sizes plan from bytes s n m l (same-bus sizes plan st s n e sound).0 cores (in-stage st Following s n l e at))

-- Ticks.

-- after the tick the listener is in the stage `st`, and it tells `h`
pub record Heeds (sizes : Sizes) (plan : Plan) (l : Listening) (st : Stage) (s : Search) (n : Running) (h : Heed) : Type 0 where
  pub stands : IsListeningIn st s n (heed sizes plan l).listening
  pub heed : h ≡ (heed sizes plan l).heed

by-untold : (sizes : Sizes) (plan : Plan) (l m : Listening) (st : Stage) (s : Search) (n : Running) (h : Heed) → heed sizes plan l ≡ untold m → h ≡ no_heed
    → IsListeningIn st s n m → Heeds sizes plan l st s n h
by-untold sizes plan l m st s n h is none at = record {
  stands = subst (λ (x : Heeding). IsListeningIn st s n x.listening) (sym is) at;
  heed = none ∙ sym (ap (λ (x : Heeding). x.heed) is);
}

pub spent-searching : (sizes : Sizes) (plan : Plan) (st : Stage) (s : Search) (n : Running) (l : Listening) (h : Heed) → st ≡ Searching → 2 ^ 31 ≤ s.had → h ≡ no_heed
    → IsListeningIn st s n l → Heeds sizes plan l st s n h
spent-searching sizes plan st s n l h e spent none at =
    by-untold sizes plan l (now.Searching s) st s n h (heeds-spent sizes plan s l spent (in-stage st Searching s n l e at)) none
    (from-stage st Searching s n (now.Searching s) e refl)

pub comes-searching : (sizes : Sizes) (plan : Plan) (st after : Stage) (s t : Search) (n : Running) (l : Listening) (h : Heed) → st ≡ Searching → s.had < 2 ^ 31 → h ≡ no_heed
    → ComesTo s (search_on sizes plan s) after t → IsListeningIn st s n l → Heeds sizes plan l after t n h
comes-searching sizes plan st after s t n l h e below none comes at =
    by-untold sizes plan l (search_on sizes plan s) after t n h (heeds-searching sizes plan s l below (in-stage st Searching s n l e at)) none (comes.stands n)

pub spent-waiting : (sizes : Sizes) (plan : Plan) (st : Stage) (s : Search) (n : Running) (first : First) (l : Listening) (h : Heed) → st ≡ Waiting first
    → 2 ^ 31 ≤ s.had → h ≡ no_heed → IsListeningIn st s n l → Heeds sizes plan l st s n h
spent-waiting sizes plan st s n first l h e spent none at =
    by-untold sizes plan l (now.Waiting s.had first) st s n h (heeds-over sizes plan s.had first l spent (in-stage st (Waiting first) s n l e at)) none
    (from-stage st (Waiting first) s n (now.Waiting s.had first) e refl)

pub later-waiting : (sizes : Sizes) (plan : Plan) (st : Stage) (s t : Search) (n : Running) (first : First) (l : Listening) (h : Heed) → st ≡ Waiting first
    → s.had < 2 ^ 31 → (first.epoch ≡ s.had → ⊥) → t.had ≡ s.had + 1 → h ≡ no_heed → IsListeningIn st s n l → Heeds sizes plan l st t n h
later-waiting sizes plan st s t n first l h e below differs had none at =
    by-untold sizes plan l (now.Waiting (s.had + 1) first) st t n h (heeds-wait sizes plan s.had first l below (in-stage st (Waiting first) s n l e at) differs) none
    (from-stage st (Waiting first) t n (now.Waiting (s.had + 1) first) e (ap (λ k. now.Waiting k first) (sym had)))

pub first-following : (sizes : Sizes) (plan : Plan) (st : Stage) (s : Search) (o n m : Running) (first : First) (l : Listening) (h : Heed) → st ≡ Waiting first
    → s.had < 2 ^ 31 → first.epoch ≡ s.had → n.seat.sizes ≡ sizes → n.seat.plan ≡ plan → IsCore n (first_core sizes first)
    → ((c : Core) → IsCore n c → IsCore m (follow_at n c).core) → ((c : Core) → IsCore n c → h ≡ told (follow_at n c)) → IsListeningIn st s o l
    → Heeds sizes plan l Following s m h
first-following sizes plan st s o n m first l h e below begins same_sizes same_plan core cores tells at =
    let both = begins-following sizes plan s.had first s n m l h below (in-stage st (Waiting first) s o l e at) begins same_sizes same_plan core cores tells in
    record { stands = both.0; heed = both.1 }

pub tick-following : (sizes : Sizes) (plan : Plan) (st : Stage) (s : Search) (n m : Running) (l : Listening) (h : Heed) → st ≡ Following → IsSound sizes plan st s n
    → ((c : Core) → IsCore n c → IsCore m (follow_at n c).core) → ((c : Core) → IsCore n c → h ≡ told (follow_at n c)) → IsListeningIn st s n l
    → Heeds sizes plan l st s m h
tick-following sizes plan st s n m l h e sound cores tells at =
    let same = same-bus sizes plan st s n e sound in
    let both = goes-on-following sizes plan s n m l h same.0 same.1 cores tells (in-stage st Following s n l e at) in
    record { stands = from-stage st Following s m (heed sizes plan l).listening e both.0; heed = both.1 }

-- Quiet ticks.

room : (st x : Stage) (s : Search) (n : Running) (ticks : ℕ) → st ≡ x → had_in st s n + ticks ≤ end_in st s n → had_in x s n + ticks ≤ end_in x s n
room st x s n ticks e h = subst (λ y. had_in y s n + ticks ≤ end_in y s n) e h

pub pass-searching : (sizes : Sizes) (plan : Plan) (ticks : ℕ) (st : Stage) (s t : Search) (n : Running) (l : Listening) → st ≡ Searching
    → t ≡ record s { had = s.had + ticks } → had_in st s n + ticks ≤ end_in st s n → IsListeningIn st s n l → IsListeningIn st t n (heeds sizes plan ticks l)
pass-searching sizes plan ticks st s t n l e is h at =
    from-stage st Searching t n (heeds sizes plan ticks l) e
    (ap (heeds sizes plan ticks) (in-stage st Searching s n l e at) ∙ passes-searching sizes plan ticks s (room st Searching s n ticks e h)
    ∙ ap (λ x. now.Searching x) (sym is))

pub pass-waiting : (sizes : Sizes) (plan : Plan) (ticks : ℕ) (st : Stage) (s t : Search) (n : Running) (first : First) (l : Listening) → st ≡ Waiting first
    → t.had ≡ s.had + ticks → had_in st s n + ticks ≤ end_in st s n → IsListeningIn st s n l → IsListeningIn st t n (heeds sizes plan ticks l)
pass-waiting sizes plan ticks st s t n first l e is h at =
    from-stage st (Waiting first) t n (heeds sizes plan ticks l) e
    (ap (heeds sizes plan ticks) (in-stage st (Waiting first) s n l e at) ∙ passes-waiting sizes plan ticks s.had first (room st (Waiting first) s n ticks e h)
    ∙ ap (λ k. now.Waiting k first) (sym is))

pub pass-following : (sizes : Sizes) (plan : Plan) (ticks : ℕ) (st : Stage) (s : Search) (n m : Running) (l : Listening) → st ≡ Following → IsSound sizes plan st s n
    → ((c : Core) → IsCore n c → IsCore m (follows_at n ticks c)) → IsListeningIn st s n l → IsListeningIn st s m (heeds sizes plan ticks l)
pass-following sizes plan ticks st s n m l e sound cores at =
    let same = same-bus sizes plan st s n e sound in
    from-stage st Following s m (heeds sizes plan ticks l) e (passes-following sizes plan ticks s n m l same.0 same.1 cores (in-stage st Following s n l e at))

pub quiet-searching : (sizes : Sizes) (plan : Plan) (ticks : ℕ) (st : Stage) (s : Search) (n : Running) (l : Listening) → st ≡ Searching
    → had_in st s n + ticks ≤ end_in st s n → IsListeningIn st s n l → TellNothing sizes plan ticks l
quiet-searching sizes plan ticks st s n l e h at =
    subst (TellNothing sizes plan ticks) (sym (in-stage st Searching s n l e at)) (nothing-searching sizes plan ticks s (room st Searching s n ticks e h))

pub quiet-waiting : (sizes : Sizes) (plan : Plan) (ticks : ℕ) (st : Stage) (s : Search) (n : Running) (first : First) (l : Listening) → st ≡ Waiting first
    → had_in st s n + ticks ≤ end_in st s n → IsListeningIn st s n l → TellNothing sizes plan ticks l
quiet-waiting sizes plan ticks st s n first l e h at =
    subst (TellNothing sizes plan ticks) (sym (in-stage st (Waiting first) s n l e at)) (nothing-waiting sizes plan ticks s.had first (room st (Waiting first) s n ticks e h))

pub quiet-following : (sizes : Sizes) (plan : Plan) (ticks : ℕ) (st : Stage) (s : Search) (n : Running) (l : Listening) → st ≡ Following → IsSound sizes plan st s n
    → ((k : ℕ) → n.had ≤ k → k < n.had + ticks → wakes_at n.seat k ≡ false) → n.had + ticks ≤ 2 ^ 31 → IsListeningIn st s n l → TellNothing sizes plan ticks l
quiet-following sizes plan ticks st s n l e sound quiet most at =
    let same = same-bus sizes plan st s n e sound in
    nothing-following sizes plan ticks s n l same.0 same.1 quiet most (in-stage st Following s n l e at)
