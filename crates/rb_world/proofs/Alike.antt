-- Changes of a site of which the same is shown around it.
use Rattle.std.proofs.Common.{◌≡◌, ℕ, suc, ◌+◌, Bool, true, false, Some, List, [], ◌∷◌, slice_get, refl, sym, ap, ◌∙◌, subst, arith}
use Rattle.std.specs.Prelude.{option_map}
use Rattle.rb_base.specs.{Nodes.Side, Nodes.Side.{Biu, Rmu}, Sizes.Sizes}
use Rattle.rb_rules.specs.{Book.{map_from, of_kind}, Goodness.Scenario, WorldStep.{Site, World, at_node}}
use Rattle.rb_queue.specs.Waiting.{Held}
use Rattle.rb_world_agenda.specs.Holding.{HoldsAll, HoldsSite}
use Rattle.rb_world_book.proofs.{Noting.same-shown, Worlds.shows-alike}
use Rattle.rb_laws_events.proofs.WorldStands.{get-at, is_node, node-is}
use Rattle.rb_world_traffic.specs.Arriving.{AreRunning}
use Rattle.rb_world.specs.{declared.scene.Scene.Scene, Steps.moved, Worlds.{Surrounds, running_of}}
use Rattle.rb_world.proofs.Sites.{at_one, counts-one, holds-site, was-there}

-- both sites show the same
pub record SameShown (z y : Site) : Type 0 where
  pub coming : z.coming ≡ y.coming
  pub ahead : z.ahead ≡ y.ahead
  pub runs : z.runs ≡ y.runs
  pub row : z.row ≡ y.row
  pub begun : z.begun ≡ y.begun

holds-list : (sizes : Sizes) (me : Side) (k : ℕ) (F G : ℕ → Site → Site) (ls : List Held) (xs : List Site)
    → ((n : ℕ) (s : Site) → slice_get xs n ≡ Some s → (l : Held) → HoldsSite sizes me l (F (k + n) s) → HoldsSite sizes me l (G (k + n) s))
    → HoldsAll sizes me ls (map_from k F xs) → HoldsAll sizes me ls (map_from k G xs)
holds-list sizes me k F G [] [] same h = h
holds-list sizes me k F G [] (x ∷ xs) same h = absurd h
holds-list sizes me k F G (l ∷ ls) [] same h = absurd h
holds-list sizes me k F G (l ∷ ls) (x ∷ xs) same h =
    let start : k + 0 ≡ k = omega arith in (
      subst (λ m. HoldsSite sizes me l (F m x) → HoldsSite sizes me l (G m x)) start (same 0 x refl l) h.0,
      holds-list sizes me (k + 1) F G ls xs
          (λ n s e. let next : k + suc n ≡ k + 1 + n = omega arith in subst (λ m. (l : Held) → HoldsSite sizes me l (F m s) → HoldsSite sizes me l (G m s)) next (same (suc n) s e)) h.1,
    )

pub alike : (sc : Scenario) (scene : Scene) (w : World) (me : Side) (i : ℕ) (f g : Site → Site) → ((s : Site) → slice_get (of_kind me w.sites) i ≡ Some s → SameShown (g s) (f s))
    → Surrounds sc scene (moved me i f w) → Surrounds sc scene (moved me i g w)
alike sc scene w me i f g same is = record {
  counts = λ side. counts-one me side i g w.sites ∙ sym (counts-one me side i f w.sites) ∙ is.counts side;
  lanes = record {
    shape = is.lanes.shape;
    bius = holds-list sc.sizes Biu 0 (at_one me i f Biu) (at_one me i g Biu) scene.agenda.bius w.sites.bius (lanes Biu) is.lanes.bius;
    rmus = holds-list sc.sizes Rmu 0 (at_one me i f Rmu) (at_one me i g Rmu) scene.agenda.rmus w.sites.rmus (lanes Rmu) is.lanes.rmus;
  };
  rooms = is.rooms;
  book = same-shown sc scene.book (moved me i f w) (moved me i g w) is.book refl
      (λ kind. shows-alike (λ s. s.row) kind me i g f w.sites (λ s e. (same s e).row))
      (λ kind. shows-alike (λ s. s.begun) kind me i g f w.sites (λ s e. (same s e).begun));
  ports = is.ports;
  running = λ side. runs side (is.running side);
  within = is.within;
}
  where
    here : (side : Side) (n : ℕ) (s : Site) → slice_get (of_kind side w.sites) n ≡ Some s → (b : Bool) → is_node me i side n ≡ b
        → SameShown (elim b as (λ _. Site) [ true ↦ g s | false ↦ s ]) (elim b as (λ _. Site) [ true ↦ f s | false ↦ s ])
    here side n s e true h =
        let its = node-is me side i n h in
        same s (subst (λ m. slice_get (of_kind me w.sites) m ≡ Some s) its.1 (subst (λ k. slice_get (of_kind k w.sites) n ≡ Some s) its.0 e))
    here side n s e false h = record { coming = refl; ahead = refl; runs = refl; row = refl; begun = refl }

    lanes : (side : Side) (n : ℕ) (s : Site) → slice_get (of_kind side w.sites) n ≡ Some s → (l : Held) → HoldsSite sc.sizes side l (at_one me i f side (0 + n) s)
        → HoldsSite sc.sizes side l (at_one me i g side (0 + n) s)
    lanes side n s e l h =
        let start : 0 + n ≡ n = omega arith in
        let both = here side n s e (is_node me i side n) refl in
        subst (λ m. HoldsSite sc.sizes side l (at_one me i g side m s)) (sym start)
        (holds-site sc.sizes side l (at_one me i f side n s) (at_one me i g side n s) both.coming both.ahead (subst (λ m. HoldsSite sc.sizes side l (at_one me i f side m s)) start h))

    runs : (side : Side) → AreRunning side (running_of side scene) (at_node me i f w.sites) → AreRunning side (running_of side scene) (at_node me i g w.sites)
    runs side all n z e =
        let was = was-there me i g w.sites side n z e in
        let both = here side n was.site was.there (is_node me i side n) refl in
        all n (at_one me i f side n was.site) (get-at me side i n f w.sites ∙ ap (option_map (at_one me i f side n)) was.there)
        ∙ sym both.runs ∙ ap (λ (s : Site). s.runs) was.is
