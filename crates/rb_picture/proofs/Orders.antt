-- lists of lines that grow by a line at the end, and the bytes that they spell
use Rattle.std.proofs.{Common.{◌≡◌, ◌≢◌, ◌∙◌, ℕ, ◌+◌, ◌<◌, ◌≤◌, nat_lt, true, List, [], ◌∷◌, ◌++◌, length, take, drop, refl, sym, ap, subst, append-nil, take-append-drop, take-add, length-append, length-drop, arith}, lemmas.Bool.{and_parts, lt-ltb}, lemmas.List.{drop_all, take_all}, lemmas.List.Concat.flat_map-append}
use Rattle.rb_picture.specs.{declared.line.Line.Line, declared.reading.Fault.Fault, Lines.{BeginsTooEarly, FailsAt, FailsBehind, IsNoReport, IsReport, SoFar, StandsFirst, ascend, end_of, last_place, line_place, line_text, text_of_lines}}
use Rattle.rb_picture.specs.declared.reading.Fault.TheVariants as fault

pub ascend_more : (from : ℕ) (ls : List Line) (l : Line) → ascend from ls ≡ true → end_of from ls < line_place l → ascend from (ls ++ l ∷ []) ≡ true
ascend_more from [] l sorted less = rw (lt-ltb from (line_place l) less) refl
ascend_more from (x ∷ xs) l sorted less =
    let two = and_parts (nat_lt from (line_place x)) (ascend (line_place x) xs) sorted in
    rw (two.0, ascend_more (line_place x) xs l two.1 less) refl

pub end_more : (from : ℕ) (ls : List Line) (l : Line) → end_of from (ls ++ l ∷ []) ≡ line_place l
end_more from [] l = refl
end_more from (x ∷ xs) l = end_more (line_place x) xs l

pub text_more : (ls : List Line) (l : Line) → text_of_lines (ls ++ l ∷ []) ≡ text_of_lines ls ++ line_text l
text_more ls l = flat_map-append line_text ls (l ∷ []) ∙ ap (λ t. text_of_lines ls ++ t) (append-nil (line_text l))

-- before the first line nothing was read
pub none_so_far : (bytes : List ℕ) → SoFar bytes 0 [] 0
none_so_far bytes = record { within = omega arith; spelled = refl; in_order = refl; last = refl }

-- one more line was read
pub one_more : (bytes : List ℕ) (at n newest : ℕ) (ls : List Line) (l : Line)
    → SoFar bytes at ls newest → StandsFirst (drop at bytes) newest l n → SoFar bytes (at + n) (ls ++ l ∷ []) (line_place l)
one_more bytes at n newest ls l before next = record {
  within = omega (arith, before.within, next.within, length-drop at bytes);
  spelled =
      take-add at n bytes ∙ ap (λ t. t ++ take n (drop at bytes)) before.spelled
      ∙ ap (λ t. text_of_lines ls ++ t) next.spelled ∙ sym (text_more ls l);
  in_order = ascend_more 0 ls l before.in_order (omega (arith, before.last, next.behind));
  last = sym (end_more 0 ls l);
}

-- the list that a push leaves
pub grown : (bytes : List ℕ) (at n newest place : ℕ) (ls items : List Line) (l : Line)
    → SoFar bytes at ls newest → StandsFirst (drop at bytes) newest l n → items ≡ ls ++ l ∷ [] → place ≡ line_place l → SoFar bytes (at + n) items place
grown bytes at n newest place ls items l before next is place_is =
    subst (λ q. SoFar bytes (at + n) items q) (sym place_is) (subst (λ m. SoFar bytes (at + n) m (line_place l)) (sym is) (one_more bytes at n newest ls l before next))

pub few_more : (at n : ℕ) (ls items : List Line) (l : Line) → length ls ≤ at → 0 < n → items ≡ ls ++ l ∷ [] → length items ≤ at + n
few_more at n ls items l few some is = omega (arith, few, some, ap length is, length-append ls (l ∷ []))

-- something is wrong with the next line
pub fails_here : (bytes : List ℕ) (at newest number : ℕ) (ls : List Line) (cause : Fault)
    → SoFar bytes at ls newest → number ≡ length ls + 1 → FailsBehind newest cause (drop at bytes) → IsNoReport bytes → FailsAt bytes number cause
fails_here bytes at newest number ls cause before numbered fails none = record {
  lines = ls;
  rest = drop at bytes;
  numbered = numbered;
  spelled = sym (take-append-drop at bytes) ∙ ap (λ t. t ++ drop at bytes) before.spelled;
  in_order = before.in_order;
  fails = subst (λ place. FailsBehind place cause (drop at bytes)) before.last fails;
  no_report = none;
}

-- if there is no next line and the last one does not end a run, the report fails with `NoEnd`
pub ends_early : (bytes : List ℕ) (at newest number : ℕ) (ls : List Line)
    → SoFar bytes at ls newest → number ≡ length ls + 1 → length bytes ≤ at → newest ≢ last_place → IsNoReport bytes → FailsAt bytes number fault.NoEnd
ends_early bytes at newest number ls before numbered end other none =
    fails_here bytes at newest number ls fault.NoEnd before numbered (drop_all at bytes end, other) none

-- if there is no next line and the last one ends a run, the report is whole
pub is_whole : (bytes : List ℕ) (at newest : ℕ) (ls : List Line)
    → SoFar bytes at ls newest → length bytes ≤ at → newest ≡ last_place → IsReport bytes ls
is_whole bytes at newest ls before end last = record {
  spelled = sym (take_all at bytes end) ∙ before.spelled;
  in_order = before.in_order;
  ended = sym before.last ∙ last;
}

pub some_bytes : (bytes : List ℕ) → 0 < length bytes → bytes ≢ []
some_bytes bytes some none = absurd (omega (arith, some, ap length none))

-- a line that stands too early
pub too_early : (bytes : List ℕ) (n newest : ℕ) (l : Line) → take n bytes ≡ line_text l → line_place l ≤ newest → BeginsTooEarly bytes newest
too_early bytes n newest l spelled early = record {
  line = l;
  tail = drop n bytes;
  spelled = sym (take-append-drop n bytes) ∙ ap (λ t. t ++ drop n bytes) spelled;
  too_early = early;
}

pub ruleset reading_steps = (none_so_far, one_more, fails_here, ends_early, is_whole, some_bytes, too_early)
