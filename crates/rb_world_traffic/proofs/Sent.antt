-- A message on its way in the lanes is on its way in the world.
use Rattle.std.proofs.Common.{◌≡◌, ℕ, suc, ◌+◌, ◌<◌, Bool, true, false, Some, List, [], ◌∷◌, ◌++◌, slice_get, refl, sym, ap, ◌∙◌, subst, arith}
use Rattle.rb_base.specs.{Nodes.{Side, has, other}, Nodes.Side.{Biu, Rmu}, Sizes.Sizes, declared.node.NodeName.NodeName}
use Rattle.rb_rules.specs.{declared.message.Message.Message, declared.message.Version.Version, Book.{Each, map_from}, Clock.{Timeline, time_of}, Goodness.{Scenario, clock_of}, Hearing.{Coming, Sending, coming_of}, Lawful.kind_of, Links.DelayRules, Slots.count_of, Spelling.spelling_of, WorldStep.{Site, sent_to, with_message}}
use Rattle.rb_queue.specs.Waiting.{Held, with_arrival}
use Rattle.rb_world_agenda.specs.Holding.{HoldsAll, HoldsSite, HoldsSites}
use Rattle.rb_world_agenda.proofs.Changes.{holds-arrival}
use Rattle.rb_world_traffic.specs.{declared.sending.Departure.Departure, Arriving.{AreRunning, coming_to, lane_with, lanes_with, number_of}, Departing.{IsOfScenario, with_departure, with_sent}}
use Rattle.rb_base.specs.declared.node.NodeName.TheVariants as node

-- the site with what comes to it, if it runs
abbrev gets : (ℕ → Coming) → ℕ → Site → Site
gets coming i s = elim (s.runs) as (λ _. Site) [ true ↦ record s { coming = s.coming ++ coming i ∷ [] } | false ↦ s ]

one-gets : (sizes : Sizes) (side : Side) (coming : ℕ → Coming) (i : ℕ) (l : Held) (s : Site) (b : Bool) → b ≡ s.runs → (coming i).from < count_of (other side) sizes → HoldsSite sizes side l s
    → HoldsSite sizes side (elim b as (λ _. Held) [ true ↦ with_arrival (coming i) l | false ↦ l ]) (gets coming i s)
one-gets sizes side coming i l s b is small holds = go b s.runs is
  where
    go : (b runs : Bool) → b ≡ runs
        → HoldsSite sizes side (elim b as (λ _. Held) [ true ↦ with_arrival (coming i) l | false ↦ l ])
        (elim runs as (λ _. Site) [ true ↦ record s { coming = s.coming ++ coming i ∷ [] } | false ↦ s ])
    go true true e = holds-arrival sizes side l s (coming i) holds small
    go true false e = let never : true ≡ false = e in absurd cc
    go false true e = let never : false ≡ true = e in absurd cc
    go false false e = holds

all-get : (sizes : Sizes) (side : Side) (coming : ℕ → Coming) (running : ℕ) (ls : List Held) (ss : List Site) (i : ℕ) → HoldsAll sizes side ls ss
    → ((n : ℕ) → (s : Site) → slice_get ss n ≡ Some s → has running (i + n) ≡ s.runs) → ((k : ℕ) → (coming k).from < count_of (other side) sizes)
    → HoldsAll sizes side (map_from i (lane_with side coming (has running)) ls) (map_from i (gets coming) ss)
all-get sizes side coming running [] [] i holds runs small = tt
all-get sizes side coming running [] (s ∷ ss) i holds runs small = absurd holds
all-get sizes side coming running (l ∷ ls) [] i holds runs small = absurd holds
all-get sizes side coming running (l ∷ ls) (s ∷ ss) i holds runs small = (
  one-gets sizes side coming i l s (has running i) (let e : i ≡ i + 0 = omega arith in ap (has running) e ∙ runs 0 s refl) (small i) holds.0,
  all-get sizes side coming running ls ss (i + 1) holds.1 (λ n x at. let e : i + 1 + n ≡ i + suc n = omega arith in ap (has running) e ∙ runs (suc n) x at) small,
)

-- the sender's own kind gets nothing
no-biu-gets : (sc : Scenario) (j frame : ℕ) (m : Sending) (ss : List Site) (i : ℕ) → map_from i (sent_to sc Biu j frame m Biu) ss ≡ ss
no-biu-gets sc j frame m [] i = refl
no-biu-gets sc j frame m (s ∷ ss) i = ap (λ l. s ∷ l) (no-biu-gets sc j frame m ss (i + 1))

no-rmu-gets : (sc : Scenario) (j frame : ℕ) (m : Sending) (ss : List Site) (i : ℕ) → map_from i (sent_to sc Rmu j frame m Rmu) ss ≡ ss
no-rmu-gets sc j frame m [] i = refl
no-rmu-gets sc j frame m (s ∷ ss) i = ap (λ l. s ∷ l) (no-rmu-gets sc j frame m ss (i + 1))

from-zero : (running : ℕ) (ss : List Site) → ((n : ℕ) → (s : Site) → slice_get ss n ≡ Some s → has running n ≡ s.runs)
    → (n : ℕ) → (s : Site) → slice_get ss n ≡ Some s → has running (0 + n) ≡ s.runs
from-zero running ss runs n s at = let e : 0 + n ≡ n = omega arith in ap (has running) e ∙ runs n s at

-- a message goes out from the node of this kind and number
sent-from : (sc : Scenario) (from : NodeName) (frame tick running : ℕ) (m : Message) (lanes : Each Held) (sites : Each Site) → number_of from < count_of (kind_of from) sc.sizes
    → AreRunning (other (kind_of from)) running sites → HoldsSites sc.sizes lanes sites
    → HoldsSites sc.sizes
    (lanes_with (other (kind_of from))
    (coming_to sc.delays
    (record { from = from; time = time_of (clock_of sc (kind_of from) (number_of from)) tick; place = record { frame = frame; slot = m.slot; stage = m.stage } })
    (spelling_of sc.plan.version m))
    (has running) lanes)
    (with_message sc (kind_of from) (number_of from) frame tick (Some m) sites)
sent-from sc (node.Biu j) frame tick running m lanes sites small runs holds = record {
  shape = holds.shape;
  bius = subst (HoldsAll sc.sizes Biu lanes.bius) (sym (no-biu-gets sc j frame (record { tick = tick; message = m }) sites.bius 0)) holds.bius;
  rmus = all-get sc.sizes Rmu (λ i. coming_of sc Rmu i j frame (record { tick = tick; message = m })) running lanes.rmus sites.rmus 0 holds.rmus
      (from-zero running sites.rmus runs) (λ k. small);
}
sent-from sc (node.Rmu j) frame tick running m lanes sites small runs holds = record {
  shape = holds.shape;
  bius = all-get sc.sizes Biu (λ i. coming_of sc Biu i j frame (record { tick = tick; message = m })) running lanes.bius sites.bius 0 holds.bius
      (from-zero running sites.bius runs) (λ k. small);
  rmus = subst (HoldsAll sc.sizes Rmu lanes.rmus) (sym (no-rmu-gets sc j frame (record { tick = tick; message = m }) sites.rmus 0)) holds.rmus;
}

-- the lanes hold the sites of the world once the message is sent
pub sent-holds : (sc : Scenario) (clock : Timeline) (delays : DelayRules) (version : Version) (d : Departure) (running : ℕ) (lanes : Each Held) (sites : Each Site)
    → IsOfScenario sc clock delays version d → AreRunning (other (kind_of d.from)) running sites → HoldsSites sc.sizes lanes sites
    → HoldsSites sc.sizes (with_departure clock delays version d running lanes) (with_sent sc d sites)
sent-holds sc clock delays version d running lanes sites is runs holds =
    subst (λ c. HoldsSites sc.sizes (with_departure c delays version d running lanes) (with_sent sc d sites)) (sym is.clock_is)
    (subst (λ x. HoldsSites sc.sizes (with_departure (clock_of sc (kind_of d.from) (number_of d.from)) x version d running lanes) (with_sent sc d sites)) (sym is.delays_are)
    (subst (λ v. HoldsSites sc.sizes (with_departure (clock_of sc (kind_of d.from) (number_of d.from)) sc.delays v d running lanes) (with_sent sc d sites)) (sym is.version_is)
    (sent-from sc d.from d.frame d.tick running d.message lanes sites is.sender runs holds)))
