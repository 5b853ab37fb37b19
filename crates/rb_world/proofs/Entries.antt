-- No more is said to a node in a window than there are entries.
use Rattle.std.proofs.{Common.{◌≡◌, ℕ, zero, suc, ◌+◌, ◌≤◌, Bool, true, List, [], ◌∷◌, ◌++◌, filter, flat_map, length, refl, ap, ◌∙◌, arith, length-append}, lemmas.Bool.Decides.nat_tests, lemmas.Grind.flat_map-append}
use Rattle.std.specs.List.{range_with_len}
use Rattle.rb_base.specs.{Nodes.{Side, other}, Nodes.Side.{Biu, Rmu}, declared.node.NodeName.NodeName}
use Rattle.rb_base.proofs.Plain.{and_first, range-end}
use Rattle.rb_rules.specs.{declared.say.Say.Say, Lawful.kind_of, Links.{name_of, same_node, stands_for}}
use Rattle.rb_laws_events.proofs.SourceSums.{items-once, sum_to}
use Rattle.rb_world_traffic.specs.Saying.{entries_to, is_between}
use Rattle.rb_base.specs.declared.node.NodeName.TheVariants as node

sums : {X : Type 0} (f : ℕ → List X) (n : ℕ) → length (flat_map f (range_with_len 0 n)) ≡ sum_to (λ j. length (f j)) n
sums f zero = refl
sums f (suc n) =
    let both : length (flat_map f (range_with_len 0 n) ++ flat_map f (n ∷ [])) ≡ length (flat_map f (range_with_len 0 n)) + length (flat_map f (n ∷ [])) =
    length-append (flat_map f (range_with_len 0 n)) (flat_map f (n ∷ [])) in
    let one : length (f n ++ []) ≡ length (f n) + 0 = length-append (f n) [] in
    ap (λ l. length (flat_map f l)) (range-end 0 n n (omega arith)) ∙ ap length (flat_map-append f (range_with_len 0 n) (n ∷ []))
    ∙ omega (arith, both, one, sums f n)

same-name : (o : Side) (a b : ℕ) (from : NodeName) → same_node from (name_of o a) ≡ true → same_node from (name_of o b) ≡ true → a ≡ b
same-name Biu a b (node.Biu i) h k = grind (arith, nat_tests, h, k)
same-name Biu a b (node.Rmu i) h k = cc
same-name Rmu a b (node.Biu i) h k = cc
same-name Rmu a b (node.Rmu i) h k = grind (arith, nat_tests, h, k)

pub entries-few : (to : NodeName) (senders : ℕ) (says : List Say) → length (entries_to to senders says) ≤ length says
unfolding entries_to
entries-few to senders says =
    let q : ℕ → Say → Bool = λ j s. is_between (name_of (other (kind_of to)) j) to s in
    let few = items-once q senders
    (λ s a b ha hb. same-name (other (kind_of to)) a b s.from (and_first (same_node s.from (name_of (other (kind_of to)) a)) (stands_for s.to to) ha)
    (and_first (same_node s.from (name_of (other (kind_of to)) b)) (stands_for s.to to) hb)) says in
    let all = sums (λ j. filter (q j) says) senders in
    omega (arith, few, all)
