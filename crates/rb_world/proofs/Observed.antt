-- What is told to an observer.
use Rattle.std.proofs.{Common.{◌≡◌, ℕ, List, [], ◌∷◌, ◌++◌, refl, sym, ◌∙◌, subst, arith, Some, slice_get}, lemmas.Option.same_Some}
use Rattle.rb_base.specs.{Nodes.Side, declared.event.Event.Event, declared.node.NodeName.NodeName}
use Rattle.rb_rules.specs.{Goodness.Scenario, Hearing.Coming, Links.name_of, Ports.PortState, WorldStep.{Pending, Site, event_of}, Book.Each}
use Rattle.rb_queue.specs.Waiting.{Held, lane_of}
use Rattle.rb_world.specs.{Sites.{KeptSite, Stands as StandsFor, number_of}, Observing.WasTold, Showing.MayShowArrival, Steps.CanHear}
use Rattle.rb_world.proofs.Standing.{passing-most}
use Rattle.rb_laws_sweeps.specs.Told.{Told, telling}

-- One event.

pub told-as : (S : Type 0) (step : S → Told → S → Type 0) (a b : S) (sc : Scenario) (states : List PortState) (me : Side) (i frame : ℕ) (s : Site) (p : Pending) (e : Event)
    → step a (record { frame = frame; event = e }) b → frame ≡ s.core.state.frame → e ≡ event_of sc states me i s.core p → step a (telling sc states me i s p) b
told-as S step a b sc states me i frame s p e did frame_is event_is =
    subst (λ f. step a (record { frame = f; event = event_of sc states me i s.core p }) b) frame_is (subst (λ e. step a (record { frame = frame; event = e }) b) event_is did)

-- the arrival that comes is the one at its place of the lane
pub arrival-there : (sc : Scenario) (me : Side) (i place : ℕ) (name : NodeName) (site : KeptSite) (lanes : Each Held) (c x : Coming) → CanHear sc me i name place site lanes c
    → slice_get (lane_of lanes name).arrivals place ≡ Some x → c ≡ x
arrival-there sc me i place name site lanes c x can there = same_Some c x (sym can.stands ∙ there)

pub arrival-shown : (sc : Scenario) (me : Side) (place time : ℕ) (name : NodeName) (site : KeptSite) (lanes : Each Held) (c : Coming) (s : Site) → name ≡ name_of me (number_of site)
    → CanHear sc me (number_of site) name place site lanes c → StandsFor sc me site s → time ≡ c.time → MayShowArrival sc me (number_of site) site time name s
arrival-shown sc me place time name site lanes c s named can stands at =
    let most = passing-most me site.node in
    let in_time = can.in_time.in_time in
    let come = can.in_time.come in
    record {
      at = record { within = can.within; named = named; number = refl; stands = stands };
      in_time = record { tick = can.in_time.tick; in_time = omega (arith, in_time, most); come = omega (arith, come, at) };
    }

-- Events in a row.

pub was-more : (S : Type 0) (step : S → Told → S → Type 0) (a b c : S) (ts : List Told) (t : Told) → WasTold S step a ts b → step b t c → WasTold S step a (ts ++ t ∷ []) c
was-more S step a b c [] t was did = (c, (subst (λ b. step b t c) was did, refl))
was-more S step a b c (x ∷ ts) t was did = (was.0, (was.1.0, was-more S step was.0 b c ts t was.1.1 did))

pub was-both : (S : Type 0) (step : S → Told → S → Type 0) (a b c : S) (ts us : List Told) → WasTold S step a ts b → WasTold S step b us c → WasTold S step a (ts ++ us) c
was-both S step a b c [] us was then_was = subst (λ b. WasTold S step b us c) was then_was
was-both S step a b c (x ∷ ts) us was then_was = (was.0, (was.1.0, was-both S step was.0 b c ts us was.1.1 then_was))
