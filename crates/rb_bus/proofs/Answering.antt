-- A word that is handed in over a handle.
use Rattle.std.proofs.Common.{◌≡◌, ℕ, Option, Some, None, Result, subst}
use Rattle.rb_bus.specs.{Buses.Hands, Calls.{HandOf, number_of}, declared.bus.Bus.Bus, declared.bus.NotHanded.NotHanded}

pub handed : (biu word : ℕ) (before after : Option Bus) (b c : Bus) (answer : Result (Unit {0}) NotHanded) (status : ℕ)
    → before ≡ Some b → after ≡ Some c → status ≡ number_of answer → Hands biu word b c answer
    → HandOf biu word before after status
handed biu word None after b c answer status is stays number hands = absurd (let never : None ≡ Some b = is in cc)
handed biu word (Some x) None b c answer status is stays number hands = absurd (let never : None ≡ Some c = stays in cc)
handed biu word (Some x) (Some y) b c answer status is stays number hands =
    let old : b ≡ x = cc in
    let new : c ≡ y = cc in
    record {
      answer = answer;
      is = number;
      hands = subst (λ x. Hands biu word x y answer) old (subst (λ y. Hands biu word b y answer) new hands);
    }
