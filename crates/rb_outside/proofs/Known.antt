-- What is known of the bytes after calls in a row. Below, a, b and c are what is known at one
-- moment, at a later one and at one later still, and h is what is known if nothing happened.
use Rattle.std.proofs.{Common.{◌≡◌, ℕ, ◌+◌, ◌<◌, ◌≤◌, List, [], ◌++◌, length, take, drop, Option, None, Some, IsSomeAnd, sym, ap, ◌∙◌, append_assoc, refl, arith, rules, length-append}, lemmas.List.take-append-drop, Math.Seq.take-add}
use Rattle.std.specs.Io.KnownBytes.{Appends, Consumes, Keeps}
use Rattle.rb_outside.specs.Bytes.{AppendsPart, Gave, ReadsToEnd}

-- ---- bytes appended

pub appends_none : (h : Option (List ℕ)) → Appends h h []
appends_none None = tt
appends_none (Some xs) = search rules

pub appends_join : (a b c : Option (List ℕ)) (xs ys : List ℕ)
    → Appends a b xs → Appends b c ys → Appends a c (xs ++ ys)
appends_join None b c xs ys p q = tt
appends_join (Some a) None c xs ys p q = absurd p
appends_join (Some a) (Some b) None xs ys p q = absurd q
appends_join (Some a) (Some b) (Some c) xs ys p q = rw (q, p) (append_assoc a xs ys)

-- after the first `i` bytes and the next `n` bytes the first i + n bytes are appended
pub appends_next : (a b c : Option (List ℕ)) (xs : List ℕ) (i n : ℕ)
    → Appends a b (take i xs) → Appends b c (take n (drop i xs)) → Appends a c (take (i + n) xs)
appends_next a b c xs i n p q =
    rw (take-add i n xs) (appends_join a b c (take i xs) (take n (drop i xs)) p q)

-- a call that failed appends nothing
pub appends_keeps : (a b c : Option (List ℕ)) (xs : List ℕ)
    → Appends a b xs → Keeps b c → Appends a c xs
appends_keeps None b c xs p q = tt
appends_keeps (Some a) None c xs p q = absurd p
appends_keeps (Some a) (Some b) None xs p q = absurd q
appends_keeps (Some a) (Some b) (Some c) xs p q = q ∙ p

-- ---- a first part appended

pub part_none : (h : Option (List ℕ)) (xs : List ℕ) → AppendsPart h h xs
part_none h xs = record { part = []; rest = xs; whole = refl; appended = appends_none h }

-- bytes that were appended are a first part of longer ones
pub part_of : (a b : Option (List ℕ)) (xs ys : List ℕ) → Appends a b xs → AppendsPart a b (xs ++ ys)
part_of a b xs ys p = record { part = xs; rest = ys; whole = refl; appended = p }

-- if a call failed after the first `n` bytes were appended, the bytes were appended in part
pub part_of_taken : (a b c : Option (List ℕ)) (xs : List ℕ) (n : ℕ)
    → Appends a b (take n xs) → Keeps b c → AppendsPart a c xs
part_of_taken a b c xs n p q = record {
  part = take n xs;
  rest = drop n xs;
  whole = sym (take-append-drop n xs);
  appended = appends_keeps a b c (take n xs) p q;
}

pub part_join : (a b c : Option (List ℕ)) (xs ys : List ℕ)
    → Appends a b xs → AppendsPart b c ys → AppendsPart a c (xs ++ ys)
part_join a b c xs ys p q = record {
  part = xs ++ q.part;
  rest = q.rest;
  whole = ap (λ zs. xs ++ zs) q.whole ∙ sym (append_assoc xs q.part q.rest);
  appended = appends_join a b c xs q.part p q.appended;
}

pub part_widens : (a b : Option (List ℕ)) (xs ys : List ℕ)
    → AppendsPart a b xs → AppendsPart a b (xs ++ ys)
part_widens a b xs ys p = record {
  part = p.part;
  rest = p.rest ++ ys;
  whole = ap (λ zs. zs ++ ys) p.whole ∙ append_assoc p.part p.rest ys;
  appended = p.appended;
}

-- rules for a function that writes one thing after another
pub ruleset writes_in_turn = (appends_join, part_join, part_widens)

-- ---- bytes given

pub consumes_none : (h : Option (List ℕ)) → Consumes h h []
consumes_none None = tt
consumes_none (Some xs) = search rules

pub consumes_more : (a b c : Option (List ℕ)) (xs ys : List ℕ)
    → Consumes a b xs → Consumes b c ys → Consumes a c (xs ++ ys)
consumes_more None b c xs ys p q = tt
consumes_more (Some a) None c xs ys p q = absurd p
consumes_more (Some a) (Some b) None xs ys p q = absurd q
consumes_more (Some a) (Some b) (Some c) xs ys p q =
    p ∙ ap (λ zs. xs ++ zs) q ∙ sym (append_assoc xs ys c)

pub gave_none : (h : Option (List ℕ)) (P : ℕ → Type 0) → P 0 → Gave h h P
gave_none h P p = record { given = []; consumed = consumes_none h; number = p }

pub gave_more : (a b c : Option (List ℕ)) (xs ys : List ℕ) (P : ℕ → Type 0)
    → Consumes a b xs → Consumes b c ys → P (length (xs ++ ys)) → Gave a c P
gave_more a b c xs ys P p q h = record {
  given = xs ++ ys;
  consumed = consumes_more a b c xs ys p q;
  number = h;
}

-- a source gives no more than it told
pub gave_within : (xs : List ℕ) (b : Option (List ℕ)) (limit : ℕ)
    → Gave (Some xs) b (λ n. limit < n) → limit < length xs
gave_within xs None limit p = absurd p.consumed
gave_within xs (Some ys) limit p =
    omega (arith, p.number, ap length p.consumed, length-append p.given ys)

-- a source that tells few enough bytes gives no more
pub gave_few : (a b : Option (List ℕ)) (limit : ℕ)
    → Gave a b (λ n. limit < n) → IsSomeAnd a (λ xs. length xs ≤ limit) → ⊥
gave_few None b limit p few = few
gave_few (Some xs) b limit p few = omega (arith, gave_within xs b limit p, few)

-- what is read to the end is what was told
pub read_bytes : (xs : List ℕ) (b : Option (List ℕ)) (bs : List ℕ)
    → ReadsToEnd (Some xs) b bs → bs ≡ xs
read_bytes xs None bs p = absurd p.consumed
read_bytes xs (Some ys) bs p = search (rules, p.consumed, p.at_end)
