-- There is no least time if and only if nothing is pending.
use Rattle.std.specs.Prelude.{ℕ, ◌≡◌, ◌↔◌, ◌++◌, true, false, is_some, IsNone, Option, Some, None, option_to_list, List, [], ◌∷◌, map}
use Rattle.std.proofs.Common.{◌∙◌, ap, refl, sym}
use Rattle.rb_queue.specs.Waiting.{Held, IsIdle, head_of}
use Rattle.rb_rules.specs.{Hearing.Coming, WorldStep.least}

none_of : (arrivals : List Coming) (tick o : Option ℕ) → o ≡ least (option_to_list tick ++ map (λ c. c.time) arrivals)
    → IsNone o ↔ ((arrivals ≡ []) × (tick ≡ None))
none_of [] None o is = let none : o ≡ None = is in (λ h. (refl, refl), λ h. ap is_some none)
none_of [] (Some t) o is =
    let some : is_some o ≡ true = ap is_some is in
    (λ h. let never : true ≡ false = sym some ∙ h in cc, λ h. let empty : Some t ≡ None = h.1 in cc)
none_of (c ∷ cs) None o is =
    let some : is_some o ≡ true = ap is_some is in
    (λ h. let never : true ≡ false = sym some ∙ h in cc, λ h. let empty : c ∷ cs ≡ [] = h.0 in cc)
none_of (c ∷ cs) (Some t) o is =
    let some : is_some o ≡ true = ap is_some is in
    (λ h. let never : true ≡ false = sym some ∙ h in cc, λ h. let empty : c ∷ cs ≡ [] = h.0 in cc)

pub none_pending : (lane : Held) (o : Option ℕ) → o ≡ head_of lane → IsNone o ↔ IsIdle lane
none_pending lane o is = none_of lane.arrivals lane.tick o is
