-- The event that is taken may happen.
use Rattle.std.proofs.Common.{◌≡◌, ℕ, ◌<◌, Some, None, Option, List, slice_get, refl, sym, ap, ◌∙◌, subst}
use Rattle.rb_base.specs.{declared.event.Event.Event, declared.node.NodeName.NodeName}
use Rattle.rb_rules.specs.{Book.Each, WorldStep.{Due, Pending as Waits, World}, WorldStep.Pending.{Tick, Arrival}}
use Rattle.rb_queue.specs.{Waiting.{Held, Ready, lane_of, ready_of, without_found, without_ready}, Waiting.Ready.{Comes, Ticks}}
use Rattle.rb_world_agenda.specs.{Agenda.{Takes, TakesDue, first_time}, Holding.without_waiting}
use Rattle.rb_world.specs.{Buses.HaveRooms, Steps.MayHappen, Worlds.{KeptWorld, Stands, due_in}}
use Rattle.rb_world.proofs.{Around.{Pends, pends-more}, Idle.due-busy, Lanes.rooms-with, Turns.due-is-now}

pub waits-pends : (p : Waits) → Pends (without_waiting p)
waits-pends (Tick k) = record { row = λ s. refl; begun = λ s. refl; runs = λ s. refl }
waits-pends (Arrival place c) = record { row = λ s. refl; begun = λ s. refl; runs = λ s. refl }

pub room-left : (place : ℕ) (lane : Held) → (without_ready place lane).room ≡ lane.room
room-left place lane = by (slice_get (ready_of lane) place)
  where
    by : (o : Option Ready) → (without_found o lane).room ≡ lane.room
    by None = refl
    by (Some (Comes n c)) = refl
    by (Some Ticks) = refl

-- an event that is due by what is kept is due in the world, and what surrounds the nodes stands for
-- the world without it
pub may-happen : (k : KeptWorld) (w : World) (i : ℕ) (name : NodeName) (event : Event) (lanes : Each Held) → Stands k w → i < due_in k → Takes k.scene.agenda i name event lanes
    → TakesDue k.bus w i (first_time k.scene.agenda) name event lanes
    → (d : Due) × MayHappen k.bus k.nodes (record k.scene { agenda = lanes }) (first_time k.scene.agenda) name event w i d
may-happen k w i name event lanes is below takes due =
    let rooms : HaveRooms k.bus lanes =
    subst (HaveRooms k.bus) (sym takes.left)
    (rooms-with k.bus k.scene.agenda name (without_ready takes.place (lane_of k.scene.agenda name)) is.scene.rooms takes.stands.lane (room-left takes.place (lane_of k.scene.agenda name))) in (
      due.due,
      record {
        lawful = is.lawful;
        listed = is.listed;
        reached = is.reached;
        found = ap (λ (l : List Due). slice_get l i) (due-is-now k.bus w (due-busy k w i is below)) ∙ due.found;
        node = due.named;
        shows = due.shows;
        time_is = due.time_is;
        nodes = is.nodes;
        surrounds = pends-more k.bus k.scene lanes w due.due.side due.due.node (without_waiting due.due.pending) (waits-pends due.due.pending) is.scene due.left rooms;
      },
    )
