-- What surrounds the nodes, when one site changes.
use Rattle.std.proofs.Common.{◌≡◌, ℕ, ◌<◌, ◌&&◌, Bool, true, false, Some, List, [], ◌∷◌, ◌++◌, slice_get, refl, sym, ap, subst, ◌∙◌}
use Rattle.rb_base.specs.{Nodes.{Side, has, other}, Nodes.Side.{Biu, Rmu}}
use Rattle.rb_rules.specs.{Book.{Each, map_each, of_kind}, Goodness.Scenario, declared.message.Message.Message, Hearing.{Coming, Sending, coming_of}, Ports.PortState, Slots.{count_of, same_side}, WorldStep.{Site, World, at_node, sent_to, with_message}}
use Rattle.rb_rules.proofs.WindowNumbers.{get-each, length-each}
use Rattle.rb_port.specs.Keeping.{KeptPort}
use Rattle.rb_queue.specs.Waiting.{Held}
use Rattle.rb_world_agenda.specs.Holding.{HoldsSites}
use Rattle.rb_world_book.proofs.Noting.{same-shown}
use Rattle.rb_world_book.specs.{Holding.Holds, declared.book.Book.Book as KeptBook}
use Rattle.rb_world_traffic.specs.Arriving.{AreRunning}
use Rattle.rb_world.specs.{declared.scene.Scene.Scene, Buses.HaveRooms, Steps.moved, Worlds.{HoldsPorts, Surrounds, running_of}}
use Rattle.rb_world.proofs.Sites.{counts-one, from-map, holds-one, running-one, shows-each, shows-one}

-- the change leaves all but what the node tells
pub record Tells (change : Site → Site) : Type 0 where
  pub coming : (s : Site) → (change s).coming ≡ s.coming
  pub ahead : (s : Site) → (change s).ahead ≡ s.ahead
  pub runs : (s : Site) → (change s).runs ≡ s.runs

pub told-more : (sc : Scenario) (scene : Scene) (book : KeptBook) (w : World) (me : Side) (i : ℕ) (change : Site → Site) → Tells change → Surrounds sc scene w
    → Holds sc book (moved me i change w) → Surrounds sc (record scene { book = book }) (moved me i change w)
told-more sc scene book w me i change tells is holds = record {
  counts = λ side. counts-one me side i change w.sites ∙ is.counts side;
  lanes = holds-one sc.sizes scene.agenda w.sites me i change tells.coming tells.ahead is.lanes;
  rooms = is.rooms;
  book = holds;
  ports = is.ports;
  running = running;
  within = within;
}
  where
    within : (side : Side) (n : ℕ) → has (running_of side (record scene { book = book })) n ≡ true → n < count_of side sc.sizes
    within Biu = is.within Biu
    within Rmu = is.within Rmu

    running : (side : Side) → AreRunning side (running_of side (record scene { book = book })) (at_node me i change w.sites)
    running Biu = running-one Biu scene.running_biu w.sites me i change tells.runs (is.running Biu)
    running Rmu = running-one Rmu scene.running_rmu w.sites me i change tells.runs (is.running Rmu)

pub record Pends (change : Site → Site) : Type 0 where
  pub row : (s : Site) → (change s).row ≡ s.row
  pub begun : (s : Site) → (change s).begun ≡ s.begun
  pub runs : (s : Site) → (change s).runs ≡ s.runs

pub book-kept : (sc : Scenario) (book : KeptBook) (w : World) (me : Side) (i : ℕ) (change : Site → Site) → ((s : Site) → (change s).row ≡ s.row)
    → ((s : Site) → (change s).begun ≡ s.begun) → Holds sc book w → Holds sc book (moved me i change w)
book-kept sc book w me i change rows begins holds =
    same-shown sc book w (moved me i change w) holds refl (shows-one (λ s. s.row) me i change w.sites rows) (shows-one (λ s. s.begun) me i change w.sites begins)

pub pends-more : (sc : Scenario) (scene : Scene) (lanes : Each Held) (w : World) (me : Side) (i : ℕ) (change : Site → Site) → Pends change → Surrounds sc scene w
    → HoldsSites sc.sizes lanes (at_node me i change w.sites) → HaveRooms sc lanes → Surrounds sc (record scene { agenda = lanes }) (moved me i change w)
pends-more sc scene lanes w me i change pends is holds rooms = record {
  counts = λ side. counts-one me side i change w.sites ∙ is.counts side;
  lanes = holds;
  rooms = rooms;
  book = book-kept sc scene.book w me i change pends.row pends.begun is.book;
  ports = is.ports;
  running = running;
  within = within;
}
  where
    within : (side : Side) (n : ℕ) → has (running_of side (record scene { agenda = lanes })) n ≡ true → n < count_of side sc.sizes
    within Biu = is.within Biu
    within Rmu = is.within Rmu

    running : (side : Side) → AreRunning side (running_of side (record scene { agenda = lanes })) (at_node me i change w.sites)
    running Biu = running-one Biu scene.running_biu w.sites me i change pends.runs (is.running Biu)
    running Rmu = running-one Rmu scene.running_rmu w.sites me i change pends.runs (is.running Rmu)

-- what surrounds the nodes still stands for the world when the ports change
pub ports-more : (sc : Scenario) (scene : Scene) (kept : List KeptPort) (w : World) (after : Scene) (states : List PortState) → after.agenda ≡ scene.agenda → after.book ≡ scene.book
    → after.ports.items ≡ kept → after.running_biu ≡ scene.running_biu → after.running_rmu ≡ scene.running_rmu → HoldsPorts sc kept states → Surrounds sc scene w
    → Surrounds sc after (record w { ports = states })
ports-more sc scene kept w after states agenda book ports biu rmu holds is = record {
  counts = is.counts;
  lanes = subst (λ ls. HoldsSites sc.sizes ls w.sites) (sym agenda) is.lanes;
  rooms = subst (HaveRooms sc) (sym agenda) is.rooms;
  book = same-shown sc after.book w (record w { ports = states }) (subst (λ l. Holds sc l w) (sym book) is.book) refl (λ kind. refl) (λ kind. refl);
  ports = subst (λ (ps : List KeptPort). HoldsPorts sc ps states) (sym ports) holds;
  running = runs;
  within = within;
}
  where
    runs : (side : Side) → AreRunning side (running_of side after) w.sites
    runs Biu = subst (λ r. AreRunning Biu r w.sites) (sym biu) (is.running Biu)
    runs Rmu = subst (λ r. AreRunning Rmu r w.sites) (sym rmu) (is.running Rmu)

    within : (side : Side) (n : ℕ) → has (running_of side after) n ≡ true → n < count_of side sc.sizes
    within Biu = subst (λ r. (n : ℕ) → has r n ≡ true → n < sc.sizes.bius) (sym biu) (is.within Biu)
    within Rmu = subst (λ r. (n : ℕ) → has r n ≡ true → n < sc.sizes.rmus) (sym rmu) (is.within Rmu)

-- a message on its way leaves all else that a site shows
sent-keeps : {Y : Type 0} (h : Site → Y) → ((s : Site) (cs : List Coming) → h (record s { coming = cs }) ≡ h s) → (sc : Scenario) (me : Side) (j frame : ℕ) (m : Sending) (side : Side) (n : ℕ) (s : Site)
    → h (sent_to sc me j frame m side n s) ≡ h s
sent-keeps h same sc me j frame m side n s = by (same_side side (other me) && s.runs)
  where
    by : (b : Bool) → h (elim b as (λ _. Site) [ true ↦ record s { coming = s.coming ++ coming_of sc side n j frame m ∷ [] } | false ↦ s ]) ≡ h s
    by true = same s (s.coming ++ coming_of sc side n j frame m ∷ [])
    by false = refl

pub sent-more : (sc : Scenario) (scene : Scene) (lanes : Each Held) (w : World) (me : Side) (j frame k : ℕ) (m : Message) → Surrounds sc scene w
    → HoldsSites sc.sizes lanes (with_message sc me j frame k (Some m) w.sites) → HaveRooms sc lanes
    → Surrounds sc (record scene { agenda = lanes }) (record w { sites = with_message sc me j frame k (Some m) w.sites })
sent-more sc scene lanes w me j frame k m is holds rooms =
    let f : Side → ℕ → Site → Site = sent_to sc me j frame (record { tick = k; message = m }) in
    record {
      counts = λ side. length-each f w.sites side ∙ is.counts side;
      lanes = holds;
      rooms = rooms;
      book = same-shown sc scene.book w (record w { sites = map_each f w.sites }) is.book refl
          (shows-each (λ s. s.row) f w.sites (sent-keeps (λ s. s.row) (λ s cs. refl) sc me j frame (record { tick = k; message = m })))
          (shows-each (λ s. s.begun) f w.sites (sent-keeps (λ s. s.begun) (λ s cs. refl) sc me j frame (record { tick = k; message = m })));
      ports = is.ports;
      running = runs;
      within = within;
    }
  where
    one : (side : Side) (r : ℕ) → AreRunning side r w.sites → AreRunning side r (map_each (sent_to sc me j frame (record { tick = k; message = m })) w.sites)
    one side r runs n z e =
        let found = from-map (sent_to sc me j frame (record { tick = k; message = m }) side n) (slice_get (of_kind side w.sites) n) z
        (sym (get-each (sent_to sc me j frame (record { tick = k; message = m })) w.sites side n) ∙ e) in
        runs n found.0 found.1 ∙ sym (sent-keeps (λ s. s.runs) (λ s cs. refl) sc me j frame (record { tick = k; message = m }) side n found.0) ∙ ap (λ (s : Site). s.runs) found.2

    runs : (side : Side) → AreRunning side (running_of side (record scene { agenda = lanes })) (map_each (sent_to sc me j frame (record { tick = k; message = m })) w.sites)
    runs Biu = one Biu scene.running_biu (is.running Biu)
    runs Rmu = one Rmu scene.running_rmu (is.running Rmu)

    within : (side : Side) (n : ℕ) → has (running_of side (record scene { agenda = lanes })) n ≡ true → n < count_of side sc.sizes
    within Biu = is.within Biu
    within Rmu = is.within Rmu
