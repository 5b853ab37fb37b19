-- For the law that events are rounds: what is handed in keeps the whole invariant.
use Rattle.std.proofs.{Common.{◌≡◌, ℕ, ◌+◌, ◌*◌, ◌%◌, ◌<◌, ◌≤◌, ◌==◌, nat_lt, Bool, true, false, List, [], ◌∷◌, ◌++◌, length, refl, ap, sym, ◌∙◌, subst, arith, ◌⊎◌, inl, inr, Option, Some, None, slice_get, if◌then◌else◌}, lemmas.Bool.eqb-true, lemmas.Bool.Decides.nat_tests, lemmas.Nat.mul-le, lemmas.Option.slice_get_within}
use Rattle.rb_base.specs.{Nodes.Side, Nodes.Side.Biu, declared.values.Place.Place}
use Rattle.rb_rules.specs.{Book.{Book, of_kind}, Book.Milestone.{Begin, Stage, End}, Goodness.{Scenario, is_good}, Lawful.IsLawful, Moments.IsRunning, Ports.{HandIn, with_state}, Rounds.{Moment, moment, windows_in}, WorldStep.{Site, World, frame_in, hand}}
use Rattle.rb_laws_agreement.proofs.PortLists.{with-state-long}
use Rattle.rb_laws_events.specs.Closing.{stages_in}
use Rattle.rb_laws_events.proofs.{Behind.begins-at, HandedIn.{AreEarly, passed-handed, port-handed, sites-handed, tell-handed, told-handed}, HandedMoments.{Alike, handed-alike}, MomentBooks.{next_of, number-of, place_at, settles-next, SettlesNext}, NodeActs.HasRoom, ToldSoFar.so-far-handed, OneEvent.WorldInRounds, RoundNodes.slot_numbered, SameHeard.Every, SettlingFrames.{IsOfMoment, RunsIn, runs-in}, Waiting.AfterRecord}

-- a book that settles a frame's first stage next is that of the frame's first moment
at-first : (sc : Scenario) (hands : List HandIn) {b : _} (frame : ℕ) → 1 ≤ sc.sizes.bius → IsOfMoment sc hands b → b.ended ≡ false
    → b.upcoming ≡ (if frame == sc.frames then End else Stage (record { frame = frame; slot = 0; stage = 1 }))
    → (g : ℕ) × ((g ≡ frame * (windows_in sc.sizes + 1)) × (b ≡ (moment sc hands g).book))
unfolding SettlesNext
at-first sc hands {b} frame some (inl fresh) going up = absurd (never (frame == sc.frames) (sym (ap (λ (b : Book). b.upcoming) fresh) ∙ up))
  where
    never : (t : Bool) → Begin 0 ≡ (if t then End else Stage (record { frame = frame; slot = 0; stage = 1 })) → ⊥
    never true e = cc
    never false e = cc
at-first sc hands {b} frame some (inr at) going up =
    let g : ℕ = at.0 in
    let m : Moment = moment sc hands g in
    let runs : m.book.ended ≡ false = sym (ap (λ (b : Book). b.ended) at.1) ∙ going in
    let next : (if frame == sc.frames then End else Stage (record { frame = frame; slot = 0; stage = 1 })) ≡ next_of sc m.frame m.window =
    sym up ∙ ap (λ (b : Book). b.upcoming) at.1 ∙ settles-next sc hands g runs in
    let place = by (frame == sc.frames) (nat_lt m.window (stages_in sc.sizes)) (m.frame == sc.frames) refl refl refl (runs-in sc hands g runs) next in
    let number = number-of sc hands g in
    let f : m.frame * (windows_in sc.sizes + 1) ≡ frame * (windows_in sc.sizes + 1) = ap (λ f. f * (windows_in sc.sizes + 1)) place.0 in
    (g, (omega (arith, number.0, f, place.1), at.1))
  where
    less : (a b : ℕ) → nat_lt a b ≡ true → a < b
    less a b h = grind (arith, nat_tests)

    same-place : (a b : Place) → Stage a ≡ Stage b → a ≡ b
    same-place a b e = cc

    by : (t p q : Bool) → (frame == sc.frames) ≡ t → nat_lt (moment sc hands at.0).window (stages_in sc.sizes) ≡ p → ((moment sc hands at.0).frame == sc.frames) ≡ q
        → RunsIn sc (moment sc hands at.0)
        → (if t then End else Stage (record { frame = frame; slot = 0; stage = 1 }))
        ≡ (if p then (if q then End else Stage (place_at sc.sizes (moment sc hands at.0))) else Begin ((moment sc hands at.0).frame + 1))
        → ((moment sc hands at.0).frame ≡ frame) × ((moment sc hands at.0).window ≡ 0)
    by true true true e f h runs is =
        let last : (moment sc hands at.0).frame ≡ sc.frames = eqb-true (moment sc hands at.0).frame sc.frames h in
        (last ∙ sym (eqb-true frame sc.frames e), runs.at_first last)
    by true true false e f h runs is = cc
    by true false q e f h runs is = cc
    by false true true e f h runs is = cc
    by false true false e f h runs is =
        let m : Moment = moment sc hands at.0 in
        let place : record { frame = frame; slot = 0; stage = 1 } ≡ place_at sc.sizes m = same-place (record { frame = frame; slot = 0; stage = 1 }) (place_at sc.sizes m) is in
        let slot : 0 ≡ slot_numbered sc.sizes m.window = ap (λ (p : Place). p.slot) place in
        let stage : 1 ≡ m.window % 3 + 1 = ap (λ (p : Place). p.stage) place in
        let below : m.window < stages_in sc.sizes = less m.window (stages_in sc.sizes) f in
        (sym (ap (λ (p : Place). p.frame) place), omega (arith, slot, stage, below, some))
    by false false q e f h runs is = cc

every-more : {X : Type 0} (P : X → Type 0) (xs : List X) (x : X) → Every P xs → P x → Every P (xs ++ x ∷ [])
every-more P [] x all one = (one, tt)
every-more P (y ∷ ys) x all one = (all.0, every-more P ys x all.1 one)

-- after a hand-in the nodes stand where they stood, and a run that gets a state goes on up to the
-- start of a frame, which no node has passed
pub record HandsIn (sc : Scenario) (now : ℕ) (at : Side → ℕ → ℕ) (w y : World) : Type 0 where
  pub stands : WorldInRounds sc now at y
  pub sites : y.sites ≡ w.sites
  pub free : (y.hands ≡ w.hands) ⊎ ((g : ℕ) × (IsRunning (moment sc y.hands g) × (((moment sc y.hands g).window ≡ 0)
      × ((me : Side) (i : ℕ) (s : Site) → slice_get (of_kind me w.sites) i ≡ Some s → at me i ≤ g + 1))))

-- a state that is handed in while the record of a frame is the turn
handed : (sc : Scenario) (now : ℕ) (at : Side → ℕ → ℕ) (w : World) (biu state frame : ℕ) → IsLawful sc → HasRoom sc.plan → WorldInRounds sc now at w
    → frame_in w.turn ≡ Some frame → is_good sc Biu biu frame 0 ≡ true
    → HandsIn sc now at w (record w { ports = with_state biu state w.ports; hands = w.hands ++ record { frame = frame; biu = biu; state = state } ∷ [] })
handed sc now at w biu state frame lawful room h turn good =
    let hands : List HandIn = w.hands in
    let x : HandIn = record { frame = frame; biu = biu; state = state } in
    let more : List HandIn = hands ++ x ∷ [] in
    let a : AfterRecord sc at w frame = h.settled.turn frame turn in
    let some : 1 ≤ sc.sizes.bius = lawful.sizes.some_biu in
    let early : AreEarly sc at w.sites frame = record { some_biu = some; early = a.near } in
    let book = at-first sc hands frame some h.book a.going a.next in
    let alike : Alike sc (moment sc hands book.0) (moment sc more book.0) = handed-alike sc hands x book.0 (omega (arith, book.1.0, some)) in
    record {
      stands = record {
        sites = sites-handed x early h.sites;
        passed = passed-handed x early h.sites.counts h.passed;
        tell = tell-handed x early h.told h.tell;
        told = told-handed x early h.told;
        book = inr (book.0, book.1.1 ∙ sym (ap (λ (m : Moment). m.book) alike.is));
        many = with-state-long biu state w.ports ∙ h.many;
        ports = λ j s there runs.
            let within : j < length (of_kind Biu w.sites) = slice_get_within (of_kind Biu w.sites) j s there in
            let long : length (of_kind Biu w.sites) ≡ sc.sizes.bius = h.sites.counts Biu in
            port-handed sc hands x w.ports j (at Biu j) room.ticks (omega arith) h.many (a.near Biu j s there)
            (λ before same.
            let its : is_good sc Biu j frame 0 ≡ true = subst (λ j. is_good sc Biu j frame 0 ≡ true) same good in
            let b = a.begun Biu j s there its in
            let le : b.0.frame * (windows_in sc.sizes + 1) ≤ at Biu j = (h.told Biu j s there).begun b.0 b.1.0 in
            let up : frame * (windows_in sc.sizes + 1) ≤ b.0.frame * (windows_in sc.sizes + 1) = mul-le frame (windows_in sc.sizes + 1) b.0.frame (windows_in sc.sizes + 1) b.1.1 (omega arith) in
            omega (arith, le, up, before))
            (h.ports j s there runs);
        handed = every-more _ hands x h.handed a.begun;
        settled = record {
          waits = h.settled.waits;
          turn = λ frame e. let a : AfterRecord sc at w frame = h.settled.turn frame e in record { begun = a.begun; near = a.near; going = a.going; next = a.next };
        };
        so_far = so-far-handed x early h.so_far;
        bound = h.bound;
      };
      sites = refl;
      free = inr (
        book.0,
        (
          ap (λ (m : Moment). m.book.ended) alike.is ∙ sym (ap (λ (b : Book). b.ended) book.1.1) ∙ a.going,
          (
            (begins-at sc more frame book.1.0).1,
            λ me i s there. let le : at me i ≤ frame * (windows_in sc.sizes + 1) + 1 = a.near me i s there in omega (arith, le, book.1.0),
          ),
        ),
      );
    }

pub hand-keeps : {sc now at w : _} (biu state : ℕ) → IsLawful sc → HasRoom sc.plan → WorldInRounds sc now at w
    → HandsIn sc now at w (hand sc w biu state)
unfolding hand
hand-keeps {sc} {now} {at} {w} biu state lawful room h = by (frame_in w.turn) refl
  where
    by : (o : Option ℕ) → frame_in w.turn ≡ o → HandsIn sc now at w (elim o as (λ _. World) [
      | None ↦ w
      | Some frame ↦ elim (is_good sc Biu biu frame 0) [
        | true ↦ record w { ports = with_state biu state w.ports; hands = w.hands ++ record { frame = frame; biu = biu; state = state } ∷ [] }
        | false ↦ w
      ]
    ])
    by None e = record { stands = h; sites = refl; free = inl refl }
    by (Some frame) e = inner (is_good sc Biu biu frame 0) refl
      where
        inner : (b : Bool) → is_good sc Biu biu frame 0 ≡ b → HandsIn sc now at w (elim b as (λ _. World) [
          | true ↦ record w { ports = with_state biu state w.ports; hands = w.hands ++ record { frame = frame; biu = biu; state = state } ∷ [] }
          | false ↦ w
        ])
        inner true f = handed sc now at w biu state frame lawful room h e f
        inner false f = record { stands = h; sites = refl; free = inl refl }
