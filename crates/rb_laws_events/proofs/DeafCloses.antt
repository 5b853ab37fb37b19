-- For the law that events are rounds if the premise on faults is broken in a sync slot: a node that
-- closes a stage of the sync slot in which it does not listen tells the same of it whatever came to
-- it, and knows the same but for accusations.
use Rattle.std.proofs.Common.{◌≡◌, ℕ, zero, suc, ◌==◌, ◌&&◌, if◌then◌else◌, Bool, true, false, List, [], ◌∷◌, map, refl, ap, ◌∙◌, Option, Some, None, get_or}
use Rattle.rb_base.specs.{Counting.numbers, Nodes.{Side, has}, Nodes.Side.{Biu, Rmu}, Sizes.{Sizes, sync_slot_of}, declared.values.See.TheVariants.Nothing}
use Rattle.rb_rules.specs.{declared.role.Role.TheVariants.Sync, declared.sense.Sense.Sense, Book.Row, ExactStage.each_node, Hearing.{Coming, judged_see, row_of, sole_time}, NodeState.{NodeState, trusted_of}, Sense.stamp_in, Slots.listens, Standing.{has_evidence, is_eligible, taken_of, with_evidence}, SyncStage.{close_sync, expects_call, see_time, sync_closing_of, sync_outcome_of}}

-- a node that does not listen takes nothing
takes-none : (me : Side) (st : NodeState) (stage : ℕ) (sense : ℕ → Sense) → listens me Sync stage ≡ false → (j : ℕ)
    → taken_of stamp_in st.far (expects_call me st stage) sense j ≡ None
takes-none me st stage sense deaf j = by (listens me Sync stage) (has st.far.trusted j) (is_eligible st.far j) deaf
  where
    by : (a b c : Bool) → a ≡ false → (if a && b && c then stamp_in (sense j) else None) ≡ None
    by true b c e = cc
    by false b c e = refl

no-sees : (f : ℕ → Option ℕ) → ((j : ℕ) → f j ≡ None) → (ns : List ℕ) → map see_time (map f ns) ≡ map (λ n. Nothing) ns
no-sees f none [] = refl
no-sees f none (n ∷ ns) = ap (λ o. see_time o ∷ map see_time (map f ns)) (none n) ∙ ap (λ l. Nothing ∷ l) (no-sees f none ns)

nothing-at : (ns : List ℕ) (j : ℕ) → get_or (map (λ (n : ℕ). Nothing) ns) j Nothing ≡ Nothing
nothing-at [] j = refl
nothing-at (n ∷ ns) zero = refl
nothing-at (n ∷ ns) (suc j) = nothing-at ns j

nothing-judged : (heard : ℕ → List Coming) (all ns : List ℕ) → map (λ j. judged_see (sole_time (heard j)) (get_or (map (λ (n : ℕ). Nothing) all) j Nothing)) ns ≡ map (λ n. Nothing) ns
nothing-judged heard all [] = refl
nothing-judged heard all (n ∷ ns) =
    ap (λ s. judged_see (sole_time (heard n)) s ∷ map (λ j. judged_see (sole_time (heard j)) (get_or (map (λ (n : ℕ). Nothing) all) j Nothing)) ns) (nothing-at all n)
    ∙ ap (λ l. Nothing ∷ l) (nothing-judged heard all ns)

-- the row of a node that shows nothing of a stage
abbrev pub silent_row : Sizes → Side → NodeState → ℕ → Row
silent_row sizes me st stage = record {
  place = record { frame = st.frame; slot = sync_slot_of sizes; stage = stage };
  sees = map (λ n. Nothing) (numbers 16);
  biu = trusted_of Biu me st;
  rmu = trusted_of Rmu me st;
  line = None;
}

sees-of : (sizes : Sizes) (me : Side) (st : NodeState) (stage first : ℕ) (sense : ℕ → Sense) → (close_sync sizes me st stage first sense).closed.sees
    ≡ map see_time (each_node (taken_of stamp_in st.far (expects_call me st stage) sense))
unfolding close_sync sync_outcome_of
sees-of sizes me st stage first sense = refl

row-by : (sizes : Sizes) (me : Side) (i : ℕ) (st : NodeState) (stage first : ℕ) (sense : ℕ → Sense) (heard : ℕ → List Coming) {sees : _}
    → (close_sync sizes me st stage first sense).closed.sees ≡ sees
    → row_of me i (close_sync sizes me st stage first sense).state heard (close_sync sizes me st stage first sense).closed
    ≡ record (silent_row sizes me st stage) { sees = each_node (λ j. judged_see (sole_time (heard j)) (get_or sees j Nothing)) }
unfolding row_of close_sync sync_outcome_of
row-by sizes Biu i st stage first sense heard {sees} e =
    ap (λ sees. record (silent_row sizes Biu st stage) { sees = each_node (λ j. judged_see (sole_time (heard j)) (get_or sees j Nothing)) }) e
row-by sizes Rmu i st stage first sense heard {sees} e =
    ap (λ sees. record (silent_row sizes Rmu st stage) { sees = each_node (λ j. judged_see (sole_time (heard j)) (get_or sees j Nothing)) }) e

-- a node that does not listen in a stage tells the silent row, whatever came to it
pub deaf-row : (sizes : Sizes) (me : Side) (i : ℕ) (st : NodeState) (stage first : ℕ) (sense : ℕ → Sense) (heard : ℕ → List Coming) → listens me Sync stage ≡ false
    → row_of me i (close_sync sizes me st stage first sense).state heard (close_sync sizes me st stage first sense).closed ≡ silent_row sizes me st stage
deaf-row sizes me i st stage first sense heard deaf =
    let none : (close_sync sizes me st stage first sense).closed.sees ≡ map (λ n. Nothing) (numbers 16) =
    sees-of sizes me st stage first sense ∙ no-sees (taken_of stamp_in st.far (expects_call me st stage) sense) (takes-none me st stage sense deaf) (numbers 16) in
    row-by sizes me i st stage first sense heard none
    ∙ ap (λ sees. record (silent_row sizes me st stage) { sees = sees }) (nothing-judged heard (numbers 16) (numbers 16))

pub deaf-state : (sizes : Sizes) (me : Side) (st : NodeState) (stage first : ℕ) (sense : ℕ → Sense) → listens me Sync stage ≡ false
    → (close_sync sizes me st stage first sense).state ≡ record st { far = with_evidence (has_evidence st.far (expects_call me st stage) sense) st.far }
unfolding close_sync sync_outcome_of
deaf-state sizes me st stage first sense deaf = by (listens me Sync stage) deaf
  where
    kept : Bool → ℕ → Option ℕ → Option ℕ
    kept a of_stage before = if a && (stage == of_stage) then Some (sync_closing_of st.far (expects_call me st stage) sense first).middle else before

    by : (a : Bool) → a ≡ false
        → record st { far = with_evidence (has_evidence st.far (expects_call me st stage) sense) st.far; k1 = kept a 1 st.k1; k2 = kept a 2 st.k2; k3 = kept a 3 st.k3 }
        ≡ record st { far = with_evidence (has_evidence st.far (expects_call me st stage) sense) st.far }
    by true e = cc
    by false e = refl
