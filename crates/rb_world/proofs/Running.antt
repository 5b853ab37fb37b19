-- A run from tick to tick, as it is done in parts.
use Rattle.std.proofs.Common.{◌≡◌, ℕ, ◌^◌, ◌<◌, ◌||◌, true, false, Some, None, Option, List, is_some, refl, sym, ap, ◌∙◌, subst, arith}
use Rattle.rb_base.specs.{Nodes.Side, Nodes.Side.{Biu, Rmu}, Sizes.Sizes, declared.node.NodeName.NodeName}
use Rattle.rb_rules.specs.{Book.{Each, Record, of_kind}, Entries.IsListed, Goodness.Scenario, Lawful.{IsLawful, kind_of}, Links.name_of, WorldStep.{Site, Timed, World, happens, needs_no_event}, WorldStep.Pending.Tick, WorldStep.Way.ByAnEvent}
use Rattle.rb_world_agenda.specs.{Agenda.IsFirstAhead, Holding.HoldsSites}
use Rattle.rb_world_book.specs.{Records.record_of, Settling.Settles, declared.book.Book.Book as KeptBook, declared.turn.Turn.Turn}
use Rattle.rb_world.specs.{Sites.KeptSite, declared.scene.Scene.Scene, declared.last.Last.Last, declared.ties.Ties.TheVariants.First, Nexts.{RunsOn, Standing, after_steps, is_last}, Worlds.{AreNodes, IsReached, KeptWorld, Stands, last_of}, Trailing.{Along, BehindTick, Comes, ComesToRecord, GoesToTick, HasCaughtUp, MayRun, HappensFirst, MayTakeFirst, MayTickFirst, TakesFirst, TakesFirstAt, alone, until_from}}
use Rattle.rb_laws_sweeps.specs.AheadOf.{until_tick}
use Rattle.rb_world_traffic.specs.Arriving.{number_of as number_in}
use Rattle.rb_queue.specs.Waiting.{Held}
use Rattle.rb_world.proofs.{Along.{along-begins, comes-by-tick, comes-next, going}, Behind.{first-ahead, some-first}, GoneOn.{goes-to-tick, trails-first}, GoingOn.ended-stays, LastTurn.reached-ends, Steps.few-steps}
use Rattle.rb_base.specs.declared.node.NodeName.TheVariants as node

-- Names.

pub biu-named : (me : Side) (i j : ℕ) → name_of me i ≡ node.Biu j → (me ≡ Biu) × (i ≡ j)
biu-named Biu i j e = (refl, cc)
biu-named Rmu i j e = cc

pub rmu-named : (me : Side) (i j : ℕ) → name_of me i ≡ node.Rmu j → (me ≡ Rmu) × (i ≡ j)
rmu-named Biu i j e = cc
rmu-named Rmu i j e = (refl, cc)

pub until-named : (name : NodeName) (me : Side) (i time t : ℕ) → name ≡ name_of me i → time ≡ t → until_from (Some (name, time)) ≡ until_tick me i t
until-named name me i time t e at =
    let f : NodeName → Side → ℕ → ℕ = λ n side j. until_tick (kind_of n) (number_in n) time side j in
    ap f e ∙ by me ∙ ap (until_tick me i) at
  where
    by : (me : Side) → ◌≡◌ {A = Side → ℕ → ℕ} (λ side j. until_tick (kind_of (name_of me i)) (number_in (name_of me i)) time side j) (until_tick me i time)
    by Biu = refl
    by Rmu = refl

-- The first tick.

pub record FirstHere (sc : Scenario) (me : Side) (i : ℕ) (a : Timed) (name : NodeName) (time : ℕ) : Type 0 where
  pub named : name ≡ name_of me i
  pub at : time ≡ a.time
  pub small : time < 18446744073709551615

-- what an agenda tells of the first tick
abbrev pub TellsFirst : Scene → NodeName → ℕ → Type 0
TellsFirst scene name time =
    (sizes : Sizes) (sites : Each Site) → HoldsSites sizes scene.agenda sites → (me : Side) (i t : ℕ) → IsFirstAhead sites me i t → (name ≡ name_of me i) × (time ≡ t)

pub first-here : (sc : Scenario) (kept : Each KeptSite) (scene : Scene) (until : Side → ℕ → ℕ) (w v : World) (me : Side) (i : ℕ) (a : Timed) (name : NodeName) (time : ℕ)
    → BehindTick sc kept scene until w v me i a → TellsFirst scene name time → FirstHere sc me i a name time
first-here sc kept scene until w v me i a name time h tells =
    let first = first-ahead sc kept scene until w v me i a h in
    let is = tells sc.sizes v.sites h.trails.surrounds.lanes me i a.time first in
    let small = first.small in
    let at = is.1 in
    record { named = is.0; at = is.1; small = omega (arith, small, at) }

pub biu-may : (sc : Scenario) (kept : Each KeptSite) (scene : Scene) (until : Side → ℕ → ℕ) (w v : World) (me : Side) (i : ℕ) (a : Timed) (name : NodeName) (time j : ℕ)
    → BehindTick sc kept scene until w v me i a → FirstHere sc me i a name time → name ≡ node.Biu j → MayTakeFirst sc kept scene until w v Biu j a time kept.bius
biu-may sc kept scene until w v me i a name time j h here e =
    let its = biu-named me i j (sym here.named ∙ e) in
    let behind : BehindTick sc kept scene until w v Biu j a =
    subst (λ k. BehindTick sc kept scene until w v k j a) its.0 (subst (λ n. BehindTick sc kept scene until w v me n a) its.1 h) in
    record { at = behind; own_is = refl; time_is = here.at }

pub rmu-may : (sc : Scenario) (kept : Each KeptSite) (scene : Scene) (until : Side → ℕ → ℕ) (w v : World) (me : Side) (i : ℕ) (a : Timed) (name : NodeName) (time j : ℕ)
    → BehindTick sc kept scene until w v me i a → FirstHere sc me i a name time → name ≡ node.Rmu j → MayTakeFirst sc kept scene until w v Rmu j a time kept.rmus
rmu-may sc kept scene until w v me i a name time j h here e =
    let its = rmu-named me i j (sym here.named ∙ e) in
    let behind : BehindTick sc kept scene until w v Rmu j a =
    subst (λ k. BehindTick sc kept scene until w v k j a) its.0 (subst (λ n. BehindTick sc kept scene until w v me n a) its.1 h) in
    record { at = behind; own_is = refl; time_is = here.at }

-- `MayTakeFirst` holds for lanes that are the same, too
pub may-same : {sc : Scenario} {kept : Each KeptSite} {until : Side → ℕ → ℕ} {w v : World} {me : Side} {i time : ℕ} {a : Timed} {own : List KeptSite}
    (scene : Scene) (agenda : Each Held) → agenda ≡ scene.agenda → MayTakeFirst sc kept scene until w v me i a time own
    → MayTakeFirst sc kept (record scene { agenda = agenda }) until w v me i a time own
may-same {sc} {kept} {until} {w} {v} {me} {i} {time} {a} {own} scene agenda is h =
    subst (λ lanes. MayTakeFirst sc kept (record scene { agenda = lanes }) until w v me i a time own) (sym is) h

pub biu-taken : (sc : Scenario) (after : Scene) (v : World) (me : Side) (i : ℕ) (a : Timed) (name : NodeName) (time j : ℕ) (bius rmus : List KeptSite)
    → FirstHere sc me i a name time → name ≡ node.Biu j → TakesFirst sc v Biu j a bius rmus after
    → TakesFirstAt sc (record { bius = bius; rmus = rmus }) after v me i a name time
biu-taken sc after v me i a name time j bius rmus here e takes =
    let its = biu-named me i j (sym here.named ∙ e) in
    record {
      named = here.named;
      at = here.at;
      small = here.small;
      happens = subst (λ n. HappensFirst sc (record { bius = bius; rmus = rmus }) after v me n a) (sym its.1)
          (subst (λ k. HappensFirst sc (record { bius = bius; rmus = rmus }) after v k j a) (sym its.0) (record { nodes = nodes; surrounds = takes.surrounds }));
    }
  where
    nodes : (side : Side) → AreNodes sc side (of_kind side (let x : Each KeptSite = record { bius = bius; rmus = rmus } in x)) (of_kind side (happens sc (alone sc Biu j a v) (record { side = Biu; node = j; pending = Tick a.tick })).sites)
    nodes Biu = takes.own_are
    nodes Rmu = takes.far_are

pub rmu-taken : (sc : Scenario) (after : Scene) (v : World) (me : Side) (i : ℕ) (a : Timed) (name : NodeName) (time j : ℕ) (bius rmus : List KeptSite)
    → FirstHere sc me i a name time → name ≡ node.Rmu j → TakesFirst sc v Rmu j a rmus bius after
    → TakesFirstAt sc (record { bius = bius; rmus = rmus }) after v me i a name time
rmu-taken sc after v me i a name time j bius rmus here e takes =
    let its = rmu-named me i j (sym here.named ∙ e) in
    record {
      named = here.named;
      at = here.at;
      small = here.small;
      happens = subst (λ n. HappensFirst sc (record { bius = bius; rmus = rmus }) after v me n a) (sym its.1)
          (subst (λ k. HappensFirst sc (record { bius = bius; rmus = rmus }) after v k j a) (sym its.0) (record { nodes = nodes; surrounds = takes.surrounds }));
    }
  where
    nodes : (side : Side) → AreNodes sc side (of_kind side (let x : Each KeptSite = record { bius = bius; rmus = rmus } in x)) (of_kind side (happens sc (alone sc Rmu j a v) (record { side = Rmu; node = j; pending = Tick a.tick })).sites)
    nodes Biu = takes.far_are
    nodes Rmu = takes.own_are

-- What it completes is settled.

-- the first tick is taken and settled
abbrev pub TakesAndSettles : Scenario → Each KeptSite → Each KeptSite → Scene → Scene → (Side → ℕ → ℕ) → World → World → NodeName → ℕ → KeptBook → Turn → Type 0
TakesAndSettles sc kept new scene after until w v name time book turn =
    ((me : Side) (i : ℕ) (a : Timed) → BehindTick sc kept scene until w v me i a → TakesFirstAt sc new after v me i a name time)
    × ((me : Side) (i : ℕ) (a : Timed) → HappensFirst sc new after v me i a
    → Settles sc ByAnEvent (happens sc (alone sc me i a v) (record { side = me; node = i; pending = Tick a.tick })) book turn)

pub tick-goes : (sc : Scenario) (kept new : Each KeptSite) (scene after : Scene) (until : Side → ℕ → ℕ) (w v : World) (name : NodeName) (time : ℕ) (book : KeptBook) (turn : Turn)
    → MayTickFirst sc kept scene until w v → TakesAndSettles sc kept new scene after until w v name time book turn
    → GoesToTick sc new (record after { book = book }) until v name time turn
tick-goes sc kept new scene after until w v name time book turn may does =
    let some = some-first sc kept scene until w v may in
    let me = some.0 in
    let i = some.1.0 in
    let a = some.1.1.0 in
    let h : BehindTick sc kept scene until w v me i a = some.1.1.1 in
    let takes = does.0 me i a h in
    goes-to-tick sc kept new scene after until w v me i a name time book turn h takes.happens takes.named takes.at takes.small (does.1 me i a takes.happens)

-- One step.

pub may-tick-along : (sc : Scenario) (kept : Each KeptSite) (scene : Scene) (until : Side → ℕ → ℕ) (n : ℕ) (w : World) (d : ℕ) → (on : Along sc kept scene until n w d)
    → needs_no_event sc on.back.book.upcoming ≡ false → MayTickFirst sc kept scene until on.now on.back
may-tick-along sc kept scene until n w d on needs = record { trails = on.trails; event = record { going = on.going; needs = needs } }

pub ticks-along : (sc : Scenario) (kept new : Each KeptSite) (scene after : Scene) (until : Side → ℕ → ℕ) (n : ℕ) (w : World) (d : ℕ) (name : NodeName) (time : ℕ) (turn : Turn)
    → (on : Along sc kept scene until n w d) → GoesToTick sc new after until on.back name time turn → Comes sc new after (until_from (Some (name, time))) n w d turn
ticks-along sc kept new scene after until n w d name time turn on to =
    subst (λ u. Comes sc new after u n w d turn) (sym (until-named name to.me to.i time to.a.time to.named to.at))
    (comes-by-tick sc kept new scene after until n w d name time turn on to)

-- The whole.

unfoldable pub along-first : (sc : Scenario) (kept : Each KeptSite) (scene : Scene) (w : World) (d : ℕ) → MayRun sc kept scene w → Along sc kept scene (until_from None) 0 w d
along-first sc kept scene w d may = along-begins sc kept scene (until_from None) w d may.trails may.going

unfoldable pub comes-to : (sc : Scenario) (kept new : Each KeptSite) (scene after : Scene) (until : Side → ℕ → ℕ) (n : ℕ) (w : World) (d : ℕ) (turn : Turn) → (it : Comes sc kept scene until n w d turn)
    → is_some (record_of turn) ≡ true → HasCaughtUp sc new after it.now → ComesToRecord sc new after turn w d
comes-to sc kept new scene after until n w d turn it some caught = record {
  next = it.now;
  is = comes-next sc kept scene until n w d turn it some;
  reached = it.trails.reached;
  stands = caught;
  turn_is = it.turn_is;
}

-- fewer than 2^63 steps in a row give no record
pub few-along : (sc : Scenario) (kept : Each KeptSite) (scene : Scene) (until : Side → ℕ → ℕ) (n : ℕ) (w : World) (d : ℕ) → IsLawful sc → IsListed sc → IsReached sc w → (on : Along sc kept scene until n w d) → n < 2 ^ 63
few-along sc kept scene until n w d lawful listed reached on =
    let few = few-steps sc First on.steps (record { world = w; draws = d }) lawful listed reached on.quiet in
    let many = on.many in
    omega (arith, few, many)

pub may-run : (k : KeptWorld) (w : World) → Stands k w → w.book.ended ≡ false → MayRun k.bus k.nodes k.scene w
may-run k w is going = record { trails = trails-first k w is; going = going }

unfoldable pub run-to : (k : KeptWorld) (w : World) (nodes : Each KeptSite) (scene : Scene) (turn : Turn) (last : Last) (d : ℕ) → Stands k w → ComesToRecord k.bus nodes scene turn w d
    → last ≡ last_of (record_of turn) → RunsOn First d d k (record { bus = k.bus; lists = k.lists; nodes = nodes; scene = scene; seeding = k.seeding; last = last }) turn w
run-to k w nodes scene turn last d is comes kept = record {
  next = comes.next;
  is = comes.is;
  gives = record {
    stands = record { lawful = is.lawful; listed = is.listed; reached = comes.reached; nodes = comes.stands.nodes; scene = comes.stands.surrounds; last = kept ∙ ap last_of (sym comes.turn_is) };
    turn_is = comes.turn_is;
  };
}

pub some-last : (o : Option Record) → is_last o ≡ true → is_some o ≡ true
some-last None e = cc
some-last (Some r) e = refl

unfoldable pub run-ended : (k : KeptWorld) (w : World) (turn : Turn) (d : ℕ) → Stands k w → w.book.ended ≡ true → w.turn ≡ record_of turn → RunsOn First d d k k turn w
unfolding after_steps
run-ended k w turn d is ended same = record {
  next = w;
  is = record {
    others = 0;
    is = sym (going k.bus w d (ap (λ b. b || needs_no_event k.bus w.book.upcoming) ended) ∙ ap (λ (x : World). let s : Standing = record { world = x; draws = d } in s) (ended-stays k.bus w ended));
    quiet = λ m some le. absurd (omega (arith, some, le));
    gives = some-last w.turn (reached-ends k.bus w is.reached ended);
  };
  gives = record { stands = is; turn_is = same };
}
