-- What a caller of a book knows of it: which steps of the world its calls stand for.
use Rattle.std.proofs.{Common.{◌≡◌, ℕ, suc, ◌+◌, ◌==◌, ◌&&◌, [], ◌∷◌, Bool, true, false, List, map, get_or, slice_index, refl, sym, ◌∙◌, ap, subst, arith}, lemmas.Bool.Decides.nat_tests, Math.Path.fun_ext}
use Rattle.std.specs.Prelude.{Option, Some, slice_get}
use Rattle.rb_base.specs.{Nodes.Side, Nodes.Side.{Biu, Rmu}, declared.node.NodeName.NodeName, declared.values.See.See, declared.values.See.TheVariants.{Nothing, Value, Time}}
use Rattle.rb_rules.specs.{declared.closing.Closed.Closed, Book.{Each, Row, map_from, of_kind}, ExactStage.each_node, Goodness.Scenario, Hearing.{Coming, judged_see, row_of, sole_time}, NodeState.{NodeState, trusted_of}, Slots.same_side, WorldStep.{Site, World, at_node, coming_from, with_close}}
use Rattle.rb_world_book.specs.{declared.book.Book.Book as KeptBook, Changing.{changed_at, number_in, row_shown, side_in, with_row}, Holding.Holds}
use Rattle.rb_world_book.proofs.Noting.{at-kind, same-shown}

-- `times` has the time of the sole arrival from each source that was seen with a stamp
pub record HasTimes (c : Closed) (heard : ℕ → List Coming) (times : List ℕ) : Type 0 where
  pub time : (j stamp : ℕ) → get_or c.sees j Nothing ≡ Time stamp → slice_index times j ≡ sole_time (heard j)

-- the row that is shown is the row that the definitions have
pub row-is : (me : Side) (i : ℕ) (st : NodeState) (heard : ℕ → List Coming) (c : Closed) (times : List ℕ) → HasTimes c heard times
    → row_of me i st heard c ≡ row_shown i c times (trusted_of Biu me st) (trusted_of Rmu me st)
unfolding row_of
row-is me i st heard c times has =
    let see : (j : ℕ) → judged_see (sole_time (heard j)) (get_or c.sees j Nothing) ≡ judged_see (slice_index times j) (get_or c.sees j Nothing) =
    λ j. one (sole_time (heard j)) (slice_index times j) (get_or c.sees j Nothing) (λ stamp e. sym (has.time j stamp e)) in
    ap (λ (sight : ℕ → See). let row : Row = record (row_shown i c times (trusted_of Biu me st) (trusted_of Rmu me st)) { sees = each_node sight } in row) (fun_ext see)
  where
    one : (t u : ℕ) (see : See) → ((stamp : ℕ) → see ≡ Time stamp → t ≡ u) → judged_see t see ≡ judged_see u see
    one t u Nothing same = refl
    one t u (Value v) same = refl
    one t u (Time stamp) same = ap Time (same stamp refl)

-- Two changes of a site after which it shows the same.

alike : {Y : Type 0} (h : Site → Y) (k : ℕ) (b : ℕ → Bool) (f g : Site → Site) (xs : List Site)
    → ((j : ℕ) (s : Site) → slice_get xs j ≡ Some s → b (k + j) ≡ true → h (f s) ≡ h (g s))
    → map h (map_from k (λ n s. elim (b n) [ true ↦ f s | false ↦ s ]) xs) ≡ map h (map_from k (λ n s. elim (b n) [ true ↦ g s | false ↦ s ]) xs)
alike h k b f g [] same = refl
alike {Y = Y} h k b f g (x ∷ xs) same =
    let start : k ≡ k + 0 = omega arith in
    ap (λ y. y ∷ map h (map_from (k + 1) (λ n s. elim (b n) as (λ _. Site) [ true ↦ f s | false ↦ s ]) xs))
    (by (b k) (λ e. same 0 x refl (ap b (sym start) ∙ e)))
    ∙ ap (λ l. h (elim (b k) as (λ _. Site) [ true ↦ g x | false ↦ x ]) ∷ l)
    (alike h (k + 1) b f g xs (λ j s there e. same (suc j) s there (let next : k + suc j ≡ k + 1 + j = omega arith in ap b next ∙ e)))
  where
    by : (c : Bool) → (c ≡ true → h (f x) ≡ h (g x)) → h (elim c as (λ _. Site) [ true ↦ f x | false ↦ x ]) ≡ h (elim c as (λ _. Site) [ true ↦ g x | false ↦ x ])
    by true e = e refl
    by false e = refl

there-only : (kind me : Side) (i j : ℕ) (sites : Each Site) (s : Site) → slice_get (of_kind kind sites) j ≡ Some s → (same_side kind me && (0 + j == i)) ≡ true
    → slice_get (of_kind me sites) i ≡ Some s
there-only Biu Biu i j sites s there e = let same : j ≡ i = grind (arith, nat_tests) in subst (λ n. slice_get sites.bius n ≡ Some s) same there
there-only Rmu Rmu i j sites s there e = let same : j ≡ i = grind (arith, nat_tests) in subst (λ n. slice_get sites.rmus n ≡ Some s) same there
there-only Biu Rmu i j sites s there e = absurd (cc)
there-only Rmu Biu i j sites s there e = absurd (cc)

pub shows-alike : {Y : Type 0} (h : Site → Y) (kind me : Side) (i : ℕ) (f g : Site → Site) (sites : Each Site)
    → ((s : Site) → slice_get (of_kind me sites) i ≡ Some s → h (f s) ≡ h (g s))
    → map h (of_kind kind (at_node me i f sites)) ≡ map h (of_kind kind (at_node me i g sites))
shows-alike h kind me i f g sites same =
    ap (map h) (at-kind kind me i f sites)
    ∙ alike h 0 (λ n. same_side kind me && (n == i)) f g (of_kind kind sites) (λ j s there e. same s (there-only kind me i j sites s there e))
    ∙ sym (ap (map h) (at-kind kind me i g sites))

-- a node closes a window, as in the world
pub closes : (sc : Scenario) (l : KeptBook) (w : World) (n : NodeName) (st : NodeState) (c : Closed) (row : Row)
    → ((s : Site) → slice_get (of_kind (side_in n) w.sites) (number_in n) ≡ Some s → row_of (side_in n) (number_in n) st (coming_from s.got) c ≡ row)
    → Holds sc l (changed_at n (with_row c.place.stage row) w) → Holds sc l (changed_at n (with_close (side_in n) (number_in n) st (Some c)) w)
closes sc l w n st c row is holds =
    same-shown sc l (changed_at n (with_row c.place.stage row) w) (changed_at n (with_close (side_in n) (number_in n) st (Some c)) w) holds refl
    (λ kind. shows-alike (λ s. s.row) kind (side_in n) (number_in n) (with_close (side_in n) (number_in n) st (Some c)) (with_row c.place.stage row) w.sites
    (λ s there. rows s there (c.place.stage == 4)))
    (λ kind. shows-alike (λ s. s.begun) kind (side_in n) (number_in n) (with_close (side_in n) (number_in n) st (Some c)) (with_row c.place.stage row) w.sites
    (λ s there. begins s (c.place.stage == 4)))
  where
    rows : (s : Site) → slice_get (of_kind (side_in n) w.sites) (number_in n) ≡ Some s → (b : Bool)
        → (elim b as (λ _. Option Row) [ true ↦ s.row | false ↦ Some (row_of (side_in n) (number_in n) st (coming_from s.got) c) ])
        ≡ (elim b as (λ _. Site) [ true ↦ s | false ↦ record s { row = Some row } ]).row
    rows s there true = refl
    rows s there false = ap Some (is s there)

    begins : (s : Site) (b : Bool) → s.begun ≡ (elim b as (λ _. Site) [ true ↦ s | false ↦ record s { row = Some row } ]).begun
    begins s true = refl
    begins s false = refl
