-- What is due is settled, and a turn is given.
use Rattle.std.proofs.Common.{◌≡◌, ℕ, ◌<◌, ◌||◌, true, false, Some, List, [], ◌∷◌, ◌++◌, length, slice_get, refl, sym, ap, ◌∙◌, subst}
use Rattle.rb_base.specs.{Nodes.{Side, has}, Nodes.Side.{Biu, Rmu}}
use Rattle.rb_rules.specs.{Book.{Each, of_kind}, Entries.IsListed, Goodness.Scenario, Lawful.IsLawful, Slots.count_of, WorldStep.{Choice, Due, World, choose, due_of, happens, needs_no_event, settle, take, take_if_due}, WorldStep.Choice.Take, WorldStep.Way}
use Rattle.rb_world_agenda.specs.{Agenda.due_now, Holding.HoldsSites}
use Rattle.rb_world_book.specs.{Records.record_of, Settling.Settles, declared.book.Book.Book as KeptBook, declared.turn.Turn.Turn}
use Rattle.rb_laws_events.proofs.{EveryWorld.after-more, OneTake.settle-ports, WorldNodes.settle-sites}
use Rattle.rb_world.specs.{Sites.KeptSite, declared.last.Last.Last, declared.scene.Scene.Scene, declared.ties.Seeding.Seeding, Steps.Happens, Turning.Gives, Buses.listed_by, Worlds.{AreNodes, HoldsPorts, IsReached, Surrounds, last_of, running_of}}
use Rattle.rb_world_traffic.specs.Arriving.{AreRunning}

-- a world with one more choice is reached
pub reached-more : (sc : Scenario) (w : World) (c : Choice) → IsReached sc w → IsReached sc (choose sc w c)
reached-more sc w c reached = record {
  choices = reached.choices ++ c ∷ [];
  is = ap (λ v. choose sc v c) reached.is ∙ sym (after-more sc reached.choices c);
}

-- what surrounds the nodes stands for the world once something is settled
pub surrounds-settled : (sc : Scenario) (way : Way) (v : World) (scene : Scene) (book : KeptBook) (turn : Turn) → Surrounds sc scene v → Settles sc way v book turn
    → Surrounds sc (record scene { book = book }) (settle sc way 2 v)
surrounds-settled sc way v scene book turn is settles =
    let sites = sym (settle-sites sc way 2 v) in
    record {
      counts = λ side. ap (λ xs. length (of_kind side xs)) (settle-sites sc way 2 v) ∙ is.counts side;
      lanes = subst (HoldsSites sc.sizes scene.agenda) sites is.lanes;
      rooms = is.rooms;
      book = settles.holds;
      ports = subst (HoldsPorts sc scene.ports.items) (sym (settle-ports sc way 2 v)) is.ports;
      running = running;
      within = within;
    }
  where
    within : (side : Side) (n : ℕ) → has (running_of side (record scene { book = book })) n ≡ true → n < count_of side sc.sizes
    within Biu = is.within Biu
    within Rmu = is.within Rmu

    running : (side : Side) → AreRunning side (running_of side (record scene { book = book })) (settle sc way 2 v).sites
    running Biu = subst (AreRunning Biu scene.running_biu) (sym (settle-sites sc way 2 v)) (is.running Biu)
    running Rmu = subst (AreRunning Rmu scene.running_rmu) (sym (settle-sites sc way 2 v)) (is.running Rmu)

-- A choice that settles what is due leads to a world for which what is kept stands.
pub gives : (sc : Scenario) (lists : listed_by sc ≡ sc.behavior) (way : Way) (w v z : World) (c : Choice) (nodes : Each KeptSite) (scene : Scene) (draws : Seeding) (book : KeptBook) (turn : Turn) (last : Last) → IsLawful sc → IsListed sc
    → IsReached sc w → z ≡ choose sc w c → z ≡ settle sc way 2 v → ((me : Side) → AreNodes sc me (of_kind me nodes) (of_kind me v.sites)) → Surrounds sc scene v
    → Settles sc way v book turn → last ≡ last_of (record_of turn)
    → Gives (record { bus = sc; lists = lists; nodes = nodes; scene = record scene { book = book }; seeding = draws; last = last }) turn z
gives sc lists way w v z c nodes scene draws book turn last lawful listed reached chosen settled are is settles kept =
    subst (λ x. Gives (record { bus = sc; lists = lists; nodes = nodes; scene = record scene { book = book }; seeding = draws; last = last }) turn x) (sym settled) (record {
      stands = record {
        lawful = lawful;
        listed = listed;
        reached = subst (IsReached sc) (sym chosen ∙ settled) (reached-more sc w c reached);
        nodes = λ me. subst (λ xs. AreNodes sc me (of_kind me nodes) (of_kind me xs)) (sym (settle-sites sc way 2 v)) (are me);
        scene = surrounds-settled sc way v scene book turn is settles;
        last = kept ∙ ap last_of (sym settles.turn_is);
      };
      turn_is = settles.turn_is;
    })

pub taken : (sc : Scenario) (lists : listed_by sc ≡ sc.behavior) (w : World) (i : ℕ) (d : Due) (nodes : Each KeptSite) (scene : Scene) (draws : Seeding) (book : KeptBook) (turn : Turn) (last : Last) → IsLawful sc → IsListed sc
    → IsReached sc w → slice_get (due_of sc w) i ≡ Some d → Happens sc nodes scene w d → Settles sc Way.ByAnEvent (happens sc w d) book turn
    → last ≡ last_of (record_of turn) → Gives (record { bus = sc; lists = lists; nodes = nodes; scene = record scene { book = book }; seeding = draws; last = last }) turn (take sc w i)
unfolding take
taken sc lists w i d nodes scene draws book turn last lawful listed reached found happened settles kept =
    gives sc lists Way.ByAnEvent w (happens sc w d) (take sc w i) (Take i) nodes scene draws book turn last lawful listed reached refl (ap (take_if_due sc w) found) happened.nodes
    happened.surrounds settles kept

-- if the run goes on and its next record needs an event, what is due is what is due now
pub due-is-now : (sc : Scenario) (w : World) → (w.book.ended || needs_no_event sc w.book.upcoming) ≡ false → due_of sc w ≡ due_now sc w
unfolding due_of
due-is-now sc w e = ap (λ b. elim b as (λ _. List Due) [ true ↦ [] | false ↦ due_now sc w ]) e
