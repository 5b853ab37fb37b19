-- A node that goes on is as in the world.
use Rattle.std.proofs.{Common.{◌≡◌, ℕ, Bool, true, false, Some, None, List, [], slice_get, refl, sym, ap, ◌∙◌, subst}, lemmas.Option.same_Some}
use Rattle.rb_base.specs.{Nodes.{Side, other}, Nodes.Side.{Biu, Rmu}}
use Rattle.rb_rules.specs.{Book.{Each, of_kind}, Goodness.{Scenario, is_good}, Hearing.{Coming, Span}, Links.name_of, WorldStep.{Site, World, await, enter, proceed, says_in, span_from, stop}}
use Rattle.rb_queue.specs.Waiting.{Held, with_lane}
use Rattle.rb_world.specs.{Sites.KeptSite, declared.scene.Scene.Scene, Steps.{IsAt, Proceeds, moved}, Worlds.{IsNode, Surrounds}}
use Rattle.rb_world.proofs.{Standing.{awaits, stops}, Sites.at-same}

-- What it does.

pub goes-on : (sc : Scenario) (me : Side) (i : ℕ) (s : Site) → span_from sc.sizes sc.plan me s.core.state s.core.had ≡ None → proceed sc me i s ≡ await sc me i [] s
unfolding proceed
goes-on sc me i s e = ap (λ o. enter sc me i o s) e

entered : (sc : Scenario) (me : Side) (i : ℕ) (span : Span) (s : Site) (b : Bool) → is_good sc me i span.place.frame span.place.slot ≡ b
    → enter sc me i (Some span) s ≡ (elim b as (λ _. Site) [ true ↦ await sc me i (says_in sc me i span) s | false ↦ stop s ])
entered sc me i span s b e = ap (λ b. elim b as (λ _. Site) [ true ↦ await sc me i (says_in sc me i span) s | false ↦ stop s ]) e

pub goes-in : (sc : Scenario) (me : Side) (i : ℕ) (span : Span) (s : Site) → span_from sc.sizes sc.plan me s.core.state s.core.had ≡ Some span
    → is_good sc me i span.place.frame span.place.slot ≡ true → proceed sc me i s ≡ await sc me i (says_in sc me i span) s
unfolding proceed
goes-in sc me i span s e good = ap (λ o. enter sc me i o s) e ∙ entered sc me i span s true good

pub goes-out : (sc : Scenario) (me : Side) (i : ℕ) (span : Span) (s : Site) → span_from sc.sizes sc.plan me s.core.state s.core.had ≡ Some span
    → is_good sc me i span.place.frame span.place.slot ≡ false → proceed sc me i s ≡ stop s
unfolding proceed
goes-out sc me i span s e bad = ap (λ o. enter sc me i o s) e ∙ entered sc me i span s false bad

-- What then stands.

-- a change that is what the node does when it goes on gives the same world
pub moved-so : (sc : Scenario) (me : Side) (i : ℕ) (change : Site → Site) (w : World) (s : Site) → slice_get (of_kind me w.sites) i ≡ Some s → proceed sc me i s ≡ change s
    → moved me i change w ≡ moved me i (proceed sc me i) w
moved-so sc me i change w s there e =
    ap (λ (sites : Each Site). record w { sites = sites })
    (at-same me i change (proceed sc me i) w.sites (λ z at. let same : s ≡ z = same_Some s z (sym there ∙ at) in sym (subst (λ z. proceed sc me i z ≡ change z) same e)))

pub proceeds-on : (sc : Scenario) (me : Side) (i : ℕ) (site : KeptSite) (before after : Scene) (w : World) (s : Site) (more : List Coming) → IsAt sc me i site before w s
    → proceed sc me i s ≡ await sc me i more s → Surrounds sc after (moved me i (await sc me i more) w) → of_kind (other me) after.agenda ≡ of_kind (other me) before.agenda
    → Proceeds sc me i site before after w s
proceeds-on sc me i site before after w s more at does is others = record {
  node = subst (IsNode sc me i site) (sym does) (record {
    number = at.number;
    site = awaits sc me i more site s at.stands;
    awaits = record { running = λ runs. refl; tick_of_none = λ stops. absurd (apart stops); nothing = λ stops. absurd (apart stops) };
    senders = at.senders;
  });
  surrounds = subst (Surrounds sc after) (moved-so sc me i (await sc me i more) w s at.there does) is;
  others = others;
}
  where
    apart : s.runs ≡ false → ⊥
    apart e = let never : true ≡ false = sym at.runs ∙ e in cc

pub proceeds-out : (sc : Scenario) (me : Side) (i : ℕ) (site : KeptSite) (before after : Scene) (w : World) (s : Site) → IsAt sc me i site before w s
    → proceed sc me i s ≡ stop s → Surrounds sc after (moved me i stop w) → of_kind (other me) after.agenda ≡ of_kind (other me) before.agenda
    → Proceeds sc me i (record site { runs = false }) before after w s
proceeds-out sc me i site before after w s at does is others = record {
  node = subst (IsNode sc me i (record site { runs = false })) (sym does) (record {
    number = at.number;
    site = stops sc me site s at.stands;
    awaits = record { running = λ runs. absurd (apart runs); tick_of_none = λ stops. refl; nothing = λ stops. refl };
    senders = at.senders;
  });
  surrounds = subst (Surrounds sc after) (moved-so sc me i stop w s at.there does) is;
  others = others;
}
  where
    apart : false ≡ true → ⊥
    apart e = cc

-- a new lane of a node leaves the lanes of the other kind
pub others-stay : (me : Side) (i : ℕ) (lane : Held) (lanes : Each Held) → of_kind (other me) (with_lane (name_of me i) lane lanes) ≡ of_kind (other me) lanes
others-stay Biu i lane lanes = refl
others-stay Rmu i lane lanes = refl
