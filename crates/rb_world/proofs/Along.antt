-- Steps from tick to tick, up to the next record.
use Rattle.std.proofs.{Common.{◌≡◌, ℕ, zero, suc, ◌+◌, ◌-◌, ◌<◌, ◌≤◌, ◌||◌, true, false, Some, None, Option, List, [], ◌∷◌, flat_map, is_some, length, slice_get, refl, sym, ap, ◌∙◌, arith, inl, inr}, lemmas.Bool.cases_lt}
use Rattle.rb_base.specs.{Nodes.Side, declared.node.NodeName.NodeName}
use Rattle.rb_rules.specs.{Book.{Each, in_order}, Goodness.Scenario, WorldStep.{Due, World, due_at, due_of, go_on, least, needs_no_event, take, times_of}, WorldStep.Way.ByItself}
use Rattle.rb_world_book.specs.{Records.record_of, Settling.Settles, declared.book.Book.Book as KeptBook, declared.turn.Turn.Turn}
use Rattle.rb_world.specs.{Sites.KeptSite, declared.scene.Scene.Scene, declared.ties.Ties.TheVariants.First, Nexts.{IsNext, Standing, is_last, after_steps, step, step_among}, Trailing.{Along, Comes, GoesToTick, Trails}}
use Rattle.rb_laws_sweeps.specs.AheadOf.{ArrivalIsFirst, after_takes, ahead_of, tick_alone, until_tick}
use Rattle.rb_world.proofs.{LastTurn.reached-ended, GoneOn.{trails-by-itself, turn-by-itself}}

-- Steps of the first choice.

pub taking : (sc : Scenario) (w : World) (d : ℕ) (due : Due) → slice_get (due_of sc w) 0 ≡ Some due → step sc First (record { world = w; draws = d }) ≡ record { world = take sc w 0; draws = d }
unfolding step
taking sc w d due e = by (due_of sc w) e
  where
    by : (ds : List Due) → slice_get ds 0 ≡ Some due → step_among sc First (length ds) (record { world = w; draws = d }) ≡ record { world = take sc w 0; draws = d }
    by [] e = absurd (let never : ◌≡◌ {A = Option Due} None (Some due) = e in cc)
    by (x ∷ xs) e = refl

pub going : (sc : Scenario) (w : World) (d : ℕ) → (w.book.ended || needs_no_event sc w.book.upcoming) ≡ true → step sc First (record { world = w; draws = d }) ≡ record { world = go_on sc w; draws = d }
unfolding step due_of
going sc w d e =
    ap (λ b. step_among sc First (length (elim b as (λ _. List Due) [ true ↦ [] | false ↦ due_at sc w (least (flat_map times_of (in_order w.sites))) ])) (record { world = w; draws = d })) e

pub steps-on : (sc : Scenario) (m n : ℕ) (s : Standing) → after_steps sc First (m + n) s ≡ after_steps sc First m (after_steps sc First n s)
unfolding after_steps
steps-on sc zero n s = let same : 0 + n ≡ n = omega arith in ap (λ k. after_steps sc First k s) same
steps-on sc (suc m) n s =
    let same : suc m + n ≡ suc (m + n) = omega arith in
    ap (λ k. after_steps sc First k s) same ∙ ap (step sc First) (steps-on sc m n s)

pub takes-on : (sc : Scenario) (n : ℕ) (w : World) (d : ℕ) → ((m : ℕ) → m < n → ArrivalIsFirst sc (after_takes sc m w))
    → after_steps sc First n (record { world = w; draws = d }) ≡ record { world = after_takes sc n w; draws = d }
unfolding after_steps after_takes
takes-on sc zero w d all = refl
takes-on sc (suc n) w d all =
    let it = all n (omega arith) in
    ap (step sc First) (takes-on sc n w d (λ m lt. all m (omega (arith, lt)))) ∙ taking sc (after_takes sc n w) d _ it.is

-- The run.

unfoldable pub along-begins : (sc : Scenario) (kept : Each KeptSite) (scene : Scene) (until : Side → ℕ → ℕ) (w0 : World) (d : ℕ) → Trails sc kept scene until w0 w0 → w0.book.ended ≡ false
    → Along sc kept scene until 0 w0 d
unfolding after_steps
along-begins sc kept scene until w0 d trails going = record {
  steps = 0;
  many = omega arith;
  now = w0;
  back = w0;
  is = refl;
  trails = trails;
  going = going;
  quiet = λ m some le. absurd (omega (arith, some, le));
}

unfoldable pub comes-by-itself : (sc : Scenario) (kept : Each KeptSite) (scene : Scene) (until : Side → ℕ → ℕ) (n : ℕ) (w0 : World) (d : ℕ) (book : KeptBook) (turn : Turn)
    → (on : Along sc kept scene until n w0 d) → needs_no_event sc on.back.book.upcoming ≡ true → Settles sc ByItself on.back book turn
    → Comes sc kept (record scene { book = book }) until n w0 d turn
unfolding after_steps
comes-by-itself sc kept scene until n w0 d book turn on free settles =
    let w : World = on.now in
    let v : World = on.back in
    let trails : Trails sc kept (record scene { book = book }) until (go_on sc w) (go_on sc v) = trails-by-itself sc kept scene until w v book turn on.trails on.going settles in
    let idle : (w.book.ended || needs_no_event sc w.book.upcoming) ≡ true =
    ap (λ (x : World). x.book.ended || needs_no_event sc x.book.upcoming) on.trails.ahead ∙ ap (λ b. b || needs_no_event sc v.book.upcoming) on.going ∙ free in
    record {
      others = on.steps;
      many = on.many;
      now = go_on sc w;
      back = go_on sc v;
      is = ap (step sc First) on.is ∙ going sc w d idle;
      trails = trails;
      turn_is = ap (λ (x : World). x.turn) trails.ahead ∙ turn-by-itself sc v book turn on.going settles;
      quiet = on.quiet;
    }

unfoldable pub comes-by-tick : (sc : Scenario) (kept new : Each KeptSite) (scene after : Scene) (until : Side → ℕ → ℕ) (n : ℕ) (w0 : World) (d : ℕ) (name : NodeName) (time : ℕ) (turn : Turn)
    → (on : Along sc kept scene until n w0 d) → (to : GoesToTick sc new after until on.back name time turn) → Comes sc new after (until_tick to.me to.i to.a.time) n w0 d turn
unfolding after_steps after_takes
comes-by-tick sc kept new scene after until n w0 d name time turn on to =
    let w : World = on.now in
    let v : World = on.back in
    let s0 : Standing = record { world = w0; draws = d } in
    let k : ℕ = to.goes.leads.takes in
    let next : World = ahead_of sc (until_tick to.me to.i to.a.time) (tick_alone sc to.me to.i to.a v) in
    let steps = on.many in
    let some : (m : ℕ) → m ≤ k → after_steps sc First (m + on.steps) s0 ≡ record { world = after_takes sc m (ahead_of sc until v); draws = d } =
    λ m le. steps-on sc m on.steps s0 ∙ ap (after_steps sc First m) (on.is ∙ ap (λ (x : World). let y : Standing = record { world = x; draws = d } in y) on.trails.ahead)
    ∙ takes-on sc m (ahead_of sc until v) d (λ j lt. to.goes.leads.arrivals j (omega (arith, lt, le))) in
    record {
      others = k + on.steps;
      many = omega (arith, steps);
      now = next;
      back = tick_alone sc to.me to.i to.a v;
      is = ap (step sc First) (some k (omega arith)) ∙ taking sc (after_takes sc k (ahead_of sc until v)) d _ to.goes.leads.tick
          ∙ ap (λ (x : World). let y : Standing = record { world = x; draws = d } in y) to.goes.after;
      trails = to.trails;
      turn_is = to.turn_is;
      quiet = λ m one le. elim (cases_lt on.steps m) [
        | inr before ↦ on.quiet m one before
        | inl later ↦
            let j : ℕ = m - on.steps in
            let same : j + on.steps ≡ m = omega (arith, later) in
            ap (λ n. (after_steps sc First n s0).world.turn) (sym same) ∙ ap (λ (s : Standing). s.world.turn) (some j (omega (arith, le, same)))
            ∙ to.goes.leads.quiet j (omega (arith, later, same)) (omega (arith, le, same))
      ];
    }

-- No record came.
unfoldable pub comes-quiet : (sc : Scenario) (kept : Each KeptSite) (scene : Scene) (until : Side → ℕ → ℕ) (n : ℕ) (w0 : World) (d : ℕ) (turn : Turn) → (it : Comes sc kept scene until n w0 d turn)
    → record_of turn ≡ None → Along sc kept scene until (n + 1) w0 d
comes-quiet sc kept scene until n w0 d turn it none =
    let many = it.many in
    let no : it.now.turn ≡ None = it.turn_is ∙ none in
    record {
      steps = suc it.others;
      many = omega (arith, many);
      now = it.now;
      back = it.back;
      is = it.is;
      trails = it.trails;
      going = ap (λ (x : World). x.book.ended) (sym it.trails.ahead) ∙ reached-ended sc it.now it.trails.reached ∙ ap is_last no;
      quiet = λ m one le. elim (cases_lt m (suc it.others)) [
        | inl before ↦ it.quiet m one (omega (arith, before))
        | inr ge ↦
            let same : suc it.others ≡ m = omega (arith, le, ge) in
            ap (λ n. (after_steps sc First n (record { world = w0; draws = d })).world.turn) (sym same) ∙ ap (λ (s : Standing). s.world.turn) it.is ∙ no
      ];
    }

-- A record came.
unfoldable pub comes-next : (sc : Scenario) (kept : Each KeptSite) (scene : Scene) (until : Side → ℕ → ℕ) (n : ℕ) (w0 : World) (d : ℕ) (turn : Turn) → (it : Comes sc kept scene until n w0 d turn)
    → is_some (record_of turn) ≡ true → IsNext sc First (record { world = w0; draws = d }) (record { world = it.now; draws = d })
comes-next sc kept scene until n w0 d turn it some = record { others = it.others; is = sym it.is; quiet = it.quiet; gives = ap is_some it.turn_is ∙ some }
