-- For the law that events are rounds: the first world stands in the rounds.
use Rattle.std.proofs.{Common.{◌≡◌, ℕ, ◌<◌, Bool, true, false, [], length, refl, ap, sym, ◌∙◌, arith, inl, Option, Some, None, is_some, slice_get}, lemmas.List.FromFn.length-map-range_with_len, lemmas.Option.{same_Some, slice_get_within}}
use Rattle.rb_base.specs.Nodes.{Side}
use Rattle.rb_rules.specs.{Book.{Each, of_kind, each_of}, Goodness.{Scenario, is_good}, Lawful.IsLawful, Rounds.begin_frame, Slots.count_of, WorldStep.{begun_for, Site, await, enter, says_in, span_from, stop, first_world, fresh_site, proceed}, Hearing.{Span, port_at}}
use Rattle.rb_rules.proofs.WindowNumbers.{get-made}
use Rattle.rb_laws_events.proofs.{SettledOnce.Settled, FirstWorld.{at_begin, first-stands}, NodeActs.HasRoom, MomentSteps.{NextIsStage, next-is-stage}, ToldSoFar.so-far-first, UpToThere.{Reaches, UpTo, reaches-first}, OneEvent.WorldInRounds, SettlingFrames.{BegunOfRounds, TellRounds}, Timing.AreInTime, Settling.RowsOfRounds, ToldInOrder.AllTold, Waiting.none-told, WorldNodes.first-counts}

-- to enter a window changes neither what a node has told nor the frame that it has begun
entered-tells : (sc : Scenario) (me : Side) (i : ℕ) (o : Option Span) (s : Site) → ((enter sc me i o s).row ≡ s.row) × ((enter sc me i o s).begun ≡ s.begun)
entered-tells sc me i None s = (refl, refl)
entered-tells sc me i (Some span) s = by (is_good sc me i span.place.frame span.place.slot)
  where
    by : (b : Bool) → ((elim b as (λ _. Site) [ true ↦ await sc me i (says_in sc me i span) s | false ↦ stop s ]).row ≡ s.row)
        × ((elim b as (λ _. Site) [ true ↦ await sc me i (says_in sc me i span) s | false ↦ stop s ]).begun ≡ s.begun)
    by true = (refl, refl)
    by false = (refl, refl)

fresh-tells : (sc : Scenario) (me : Side) (i : ℕ) → ((proceed sc me i (fresh_site sc.sizes me)).row ≡ None) × ((proceed sc me i (fresh_site sc.sizes me)).begun ≡ None)
unfolding proceed
fresh-tells sc me i =
    let s : Site = fresh_site sc.sizes me in
    entered-tells sc me i (span_from sc.sizes sc.plan me s.core.state s.core.had) s

none-some : {X : Type 0} {P : Type 0} {x : X} → None ≡ Some x → P
none-some e = absurd (cc)

first-tells : (sc : Scenario) → TellRounds sc [] (first_world sc).sites
unfolding first_world RowsOfRounds BegunOfRounds
first-tells sc =
    let make : Side → ℕ → Site = λ me i. proceed sc me i (fresh_site sc.sizes me) in
    let sites : Each Site = each_of sc.sizes make in
    let counts : (me : Side) → length (of_kind me sites) ≡ count_of me sc.sizes = first-counts sc.sizes make in
    let is : (me : Side) (i : ℕ) (s : Site) → slice_get (of_kind me sites) i ≡ Some s → make me i ≡ s =
    λ me i s e.
    let within : i < length (of_kind me sites) = slice_get_within (of_kind me sites) i s e in
    let long : length (of_kind me sites) ≡ count_of me sc.sizes = counts me in
    same_Some (make me i) s (sym (get-made sc.sizes make me i (omega arith)) ∙ e) in
    record {
      rows = λ me i s row e told. none-some (sym (fresh-tells sc me i).0 ∙ ap (λ (s : Site). s.row) (is me i s e) ∙ told);
      begun = λ me i s b e told. none-some (sym (fresh-tells sc me i).1 ∙ ap (λ (s : Site). s.begun) (is me i s e) ∙ told);
      counts = counts;
    }

first-told : (sc : Scenario) → AllTold sc [] at_begin (first_world sc).sites
unfolding first_world
first-told sc me i s e =
    let make : Side → ℕ → Site = λ me i. proceed sc me i (fresh_site sc.sizes me) in
    let sites : Each Site = each_of sc.sizes make in
    let within : i < length (of_kind me sites) = slice_get_within (of_kind me sites) i s e in
    let long : length (of_kind me sites) ≡ count_of me sc.sizes = first-counts sc.sizes make me in
    let is : make me i ≡ s = same_Some (make me i) s (sym (get-made sc.sizes make me i (omega arith)) ∙ e) in
    let tells = fresh-tells sc me i in
    record {
      row = λ row told. none-some (sym tells.0 ∙ ap (λ (s : Site). s.row) is ∙ told);
      begun = λ b told. none-some (sym tells.1 ∙ ap (λ (s : Site). s.begun) is ∙ told);
      fresh = λ b a st told frame first ahead state. none-some (sym tells.1 ∙ ap (λ (s : Site). s.begun) is ∙ told);
      was_good = λ q before. absurd (omega (arith, before));
    }

first-settled : (sc : Scenario) → Settled sc at_begin (first_world sc)
unfolding first_world
first-settled sc =
    let make : Side → ℕ → Site = λ me i. proceed sc me i (fresh_site sc.sizes me) in
    let sites : Each Site = each_of sc.sizes make in
    record {
      waits = λ going. none-told sc 0 0 (λ s. begun_for 0 s.begun) sites (first-counts sc.sizes make)
          (λ me i s e good.
          let within : i < length (of_kind me sites) = slice_get_within (of_kind me sites) i s e in
          let long : length (of_kind me sites) ≡ count_of me sc.sizes = first-counts sc.sizes make me in
          let is : make me i ≡ s = same_Some (make me i) s (sym (get-made sc.sizes make me i (omega arith)) ∙ e) in
          ap (λ o. is_some (begun_for 0 o)) (sym (ap (λ (s : Site). s.begun) is) ∙ (fresh-tells sc me i).1));
      turn = λ frame e. none-some e;
    }

-- the first world is in time
times-first : {sc : _} → IsLawful sc → AreInTime sc [] at_begin
unfolding begin_frame
times-first {sc} lawful =
    let reaches : Reaches sc [] 0 = reaches-first [] lawful (omega arith) refl in
    let up : UpTo sc [] 0 = reaches.up_to in
    record {
      each = λ me i good. up.times 0 (omega arith) (omega arith);
      later = λ me i j st there good is. let next : NextIsStage sc [] 0 = next-is-stage sc [] 0 (omega arith) in absurd (omega (arith, is, next.later));
    }

pub first-in-rounds : {sc : _} → IsLawful sc → HasRoom sc.plan → WorldInRounds sc 0 at_begin (first_world sc)
unfolding first_world begin_frame
first-in-rounds {sc} lawful room =
    let both = first-stands room (times-first lawful) in
    record {
      sites = both.0;
      passed = both.1;
      tell = first-tells sc;
      told = first-told sc;
      book = inl refl;
      many = length-map-range_with_len (port_at sc []) 0 sc.sizes.bius;
      ports = λ j s there runs. refl;
      handed = tt;
      settled = first-settled sc;
      so_far = so-far-first both.0;
      bound = λ going me i s there. omega arith;
    }
