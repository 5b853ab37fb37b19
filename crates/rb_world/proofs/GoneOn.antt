-- What is kept goes on standing for a world behind.
use Rattle.std.proofs.Common.{◌≡◌, ℕ, ◌<◌, false, slice_get, refl, sym, ap, ◌∙◌, subst, arith}
use Rattle.rb_base.specs.{Nodes.Side, declared.node.NodeName.NodeName}
use Rattle.rb_rules.specs.{Book.{Each, of_kind}, Goodness.Scenario, Links.name_of, WorldStep.{Site, Timed, World, go_on, happens, settle}, WorldStep.Choice.GoOn, WorldStep.Pending.Tick, WorldStep.Way.{ByAnEvent, ByItself}}
use Rattle.rb_world_book.specs.{Records.record_of, Settling.Settles, declared.book.Book.Book as KeptBook, declared.turn.Turn.Turn}
use Rattle.rb_laws_events.proofs.{WorldNodes.settle-sites, GivenAlone.go-on-is}
use Rattle.rb_world.specs.{Sites.KeptSite, declared.scene.Scene.Scene, Worlds.{AreNodes, KeptWorld, Stands, Surrounds}, Trailing.{BehindTick, GoesToTick, HappensFirst, Trails, alone}}
use Rattle.rb_laws_sweeps.specs.AheadOf.{GoesOnAhead, IsFirstTick}
use Rattle.rb_laws_sweeps.proofs.Calls.{go-on-passes, nobody-is-ahead}
use Rattle.rb_world.proofs.{Turns.{reached-more, surrounds-settled}, Behind.{behind-tick, goes-on}}

-- At first.

pub trails-first : (k : KeptWorld) (w : World) → Stands k w → Trails k.bus k.nodes k.scene (λ side j. 0) w w
trails-first k w is = record {
  lawful = is.lawful;
  listed = is.listed;
  reached = is.reached;
  ahead = sym (nobody-is-ahead k.bus w);
  nodes = is.nodes;
  surrounds = is.scene;
  later = λ me i a first side j. omega arith;
  behind = λ side j s there. record { has_tick = λ runs. (0, (omega arith, omega arith)); before = λ a e. omega arith };
}

-- By a tick.

pub goes-to-tick : (sc : Scenario) (kept new : Each KeptSite) (scene after : Scene) (until : Side → ℕ → ℕ) (w v : World) (me : Side) (i : ℕ) (a : Timed) (name : NodeName) (time : ℕ) (book : KeptBook) (turn : Turn)
    → (h : BehindTick sc kept scene until w v me i a) → HappensFirst sc new after v me i a → name ≡ name_of me i → time ≡ a.time → time < 18446744073709551615
    → Settles sc ByAnEvent (happens sc (alone sc me i a v) (record { side = me; node = i; pending = Tick a.tick })) book turn
    → GoesToTick sc new (record after { book = book }) until v name time turn
goes-to-tick sc kept new scene after until w v me i a name time book turn h happened named at small settles =
    let x : World = happens sc (alone sc me i a v) (record { side = me; node = i; pending = Tick a.tick }) in
    let goes : GoesOnAhead sc until v me i a = goes-on sc kept scene until w v me i a h in
    record {
      me = me;
      i = i;
      a = a;
      named = named;
      at = at;
      small = small;
      first = h.first;
      goes = goes;
      trails = record {
        lawful = h.trails.lawful;
        listed = h.trails.listed;
        reached = record { choices = goes.choices; is = sym goes.reached };
        ahead = refl;
        nodes = λ side. subst (λ xs. AreNodes sc side (of_kind side new) (of_kind side xs)) (sym (settle-sites sc ByAnEvent 2 x)) (happened.nodes side);
        surrounds = surrounds-settled sc ByAnEvent x after book turn happened.surrounds settles;
        later = goes.later;
        behind = behind-tick sc kept scene until w v me i a h;
      };
      turn_is = settles.turn_is;
    }

-- A world goes on by itself.

first-as-before : (v x : World) (me : Side) (i : ℕ) (a : Timed) → x.sites ≡ v.sites → IsFirstTick x me i a → IsFirstTick v me i a
first-as-before v x me i a same first = record {
  node = first.node;
  there = ap (λ (s : Each Site). slice_get (of_kind me s) i) (sym same) ∙ first.there;
  pends = first.pends;
  least = λ side j s b there pends. first.least side j s b (ap (λ (y : Each Site). slice_get (of_kind side y) j) same ∙ there) pends;
  first = λ side j s b there pends behind. first.first side j s b (ap (λ (y : Each Site). slice_get (of_kind side y) j) same ∙ there) pends behind;
}

pub trails-by-itself : (sc : Scenario) (kept : Each KeptSite) (scene : Scene) (until : Side → ℕ → ℕ) (w v : World) (book : KeptBook) (turn : Turn) → Trails sc kept scene until w v
    → v.book.ended ≡ false → Settles sc ByItself v book turn → Trails sc kept (record scene { book = book }) until (go_on sc w) (go_on sc v)
trails-by-itself sc kept scene until w v book turn h going settles =
    let is : go_on sc v ≡ settle sc ByItself 2 v = go-on-is sc v going in
    let sites : (go_on sc v).sites ≡ v.sites = ap (λ (x : World). x.sites) is ∙ settle-sites sc ByItself 2 v in
    record {
      lawful = h.lawful;
      listed = h.listed;
      reached = reached-more sc w GoOn h.reached;
      ahead = ap (go_on sc) h.ahead ∙ go-on-passes sc until v;
      nodes = λ side. subst (λ xs. AreNodes sc side (of_kind side kept) (of_kind side xs)) (sym sites) (h.nodes side);
      surrounds = subst (Surrounds sc (record scene { book = book })) (sym is) (surrounds-settled sc ByItself v scene book turn h.surrounds settles);
      later = λ me i a first. h.later me i a (first-as-before v (go_on sc v) me i a sites first);
      behind = λ side j s there. h.behind side j s (ap (λ (y : Each Site). slice_get (of_kind side y) j) (sym sites) ∙ there);
    }

pub turn-by-itself : (sc : Scenario) (v : World) (book : KeptBook) (turn : Turn) → v.book.ended ≡ false → Settles sc ByItself v book turn → (go_on sc v).turn ≡ record_of turn
turn-by-itself sc v book turn going settles = ap (λ (x : World). x.turn) (go-on-is sc v going) ∙ settles.turn_is
