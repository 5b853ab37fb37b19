-- What a receiver keeps of each sender.
use Rattle.std.proofs.{Common.{◌≡◌, ℕ, Option, None, List, [], length, map, get_or, replicate, slice_set, ◌<◌, ◌≤◌, ◌⊎◌, inl, inr, sym, ap, ◌∙◌, arith}, lemmas.List.{get_or-map, get_or-replicate, get_or_default, length-map, map-set, same_lists, set_past}, lemmas.Bool.cases_lt}
use Rattle.rb_base.specs.declared.values.Heard.{Heard}
use Rattle.rb_long.specs.{Reading.{OpenLetter, with_value}, Readers.open_of, declared.reading.Reader.Reader}

set-one : (readers : List Reader) (i : ℕ) (d new : Reader) (value : Heard) → open_of new ≡ (with_value value (open_of (get_or readers i d))).after
    → (i < length readers) ⊎ (length readers ≤ i)
    → map open_of (slice_set readers i new) ≡ slice_set (map open_of readers) i (with_value value (get_or (map open_of readers) i None)).after
set-one readers i d new value read (inl below) =
    map-set open_of readers i new
    ∙ ap (slice_set (map open_of readers) i) (read ∙ ap (λ (o : Option OpenLetter). (with_value value o).after) (sym (get_or-map open_of readers i d None below)))
set-one readers i d new value read (inr past) =
    ap (map open_of) (set_past readers i new past)
    ∙ sym (set_past (map open_of readers) i (with_value value (get_or (map open_of readers) i None)).after (let few = length-map readers open_of in omega (arith, few, past)))

-- after one reader has read a value the open letters are as that value leaves them
pub heard-one : (readers : List Reader) (now : List (Option OpenLetter)) (i sender : ℕ) (d new : Reader) (value : Heard) → map open_of readers ≡ now → i ≡ sender
    → open_of new ≡ (with_value value (open_of (get_or readers i d))).after
    → map open_of (slice_set readers i new) ≡ slice_set now sender (with_value value (get_or now sender None)).after
heard-one readers now i sender d new value is same read =
    set-one readers i d new value read (cases_lt i (length readers))
    ∙ ap (λ n. slice_set (map open_of readers) n (with_value value (get_or (map open_of readers) n None)).after) same
    ∙ ap (λ (xs : List (Option OpenLetter)). slice_set xs sender (with_value value (get_or xs sender None)).after) is

-- at first no letter is open
pub none-open : (readers : List Reader) → length readers ≡ 16 → ((i : ℕ) (d : Reader) → i < 16 → open_of (get_or readers i d) ≡ None)
    → map open_of readers ≡ replicate 16 None
none-open readers many none =
    same_lists (map open_of readers) (replicate 16 None) (length-map readers open_of ∙ many)
    (λ k d below.
    let few = length-map readers open_of in
    let fresh : Reader = record { wanted = 0; bytes = record { items = [] } } in
    let within : k < 16 = omega (arith, below, few, many) in
    get_or_default (map open_of readers) k d None below
    ∙ get_or-map open_of readers k fresh None (omega (arith, within, many))
    ∙ none k fresh within
    ∙ sym (get_or-replicate 16 k None d within))
