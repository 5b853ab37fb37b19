-- The least time of all lanes is that of the world.
use Rattle.std.proofs.{Common.{◌≡◌, ℕ, ◌+◌, ◌<◌, ◌≤◌, ◌==◌, ◌&&◌, min, Bool, true, false, Option, Some, None, List, [], ◌∷◌, ◌++◌, map, refl, sym, ap, ◌∙◌, arith}, lemmas.Bool.Decides.nat_tests, lemmas.Grind.flat_map-append}
use Rattle.std.specs.{Prelude.{⊤, option_to_list, unwrap_or}, List.flat_map}
use Rattle.rb_base.specs.{Counting.count_if, Nodes.Side, Nodes.Side.{Biu, Rmu}, Sizes.Sizes}
use Rattle.rb_rules.specs.{Book.{Each, in_order}, Hearing.Coming, WorldStep.{Site, least, times_of}}
use Rattle.rb_queue.specs.{Waiting.{Held, Ready, comes, head_of, ready_from}, Waiting.{ready_at as ready_in, unless_any as unless_some, arrivals_at as arrivals_of, tick_at as tick_in}, Waiting.Ready.Ticks}
use Rattle.rb_queue.proofs.Sources.{arrivals_are, from_on, from_on-skip, from_on-zero}
use Rattle.rb_world_agenda.specs.{Agenda.{key_of, least_key}, Holding.{HoldsAll, HoldsSite, HoldsSites}}

-- The sooner of two times, each of which may be missing.
abbrev pub sooner : Option ℕ → Option ℕ → Option ℕ
sooner None b = b
sooner (Some a) None = Some a
sooner (Some a) (Some b) = Some (min a b)

sooner-assoc : (a b c : Option ℕ) → sooner (sooner a b) c ≡ sooner a (sooner b c)
sooner-assoc None b c = refl
sooner-assoc (Some a) None c = refl
sooner-assoc (Some a) (Some b) None = refl
sooner-assoc (Some a) (Some b) (Some c) = ap Some (omega arith)

least-cons : (t : ℕ) (ts : List ℕ) → least (t ∷ ts) ≡ sooner (Some t) (least ts)
least-cons t ts =
    let go : (o : Option ℕ) → Some (elim o [ None ↦ t | Some u ↦ min t u ]) ≡ sooner (Some t) o =
    λ o. elim o as (λ o. Some (elim o [ None ↦ t | Some u ↦ min t u ]) ≡ sooner (Some t) o) [ None ↦ refl | Some u ↦ refl ] in
    go (least ts)

least-append : (xs ys : List ℕ) → least (xs ++ ys) ≡ sooner (least xs) (least ys)
least-append [] ys = refl
least-append (x ∷ xs) ys =
    least-cons x (xs ++ ys) ∙ ap (sooner (Some x)) (least-append xs ys) ∙ sym (sooner-assoc (Some x) (least xs) (least ys))
    ∙ ap (λ o. sooner o (least ys)) (sym (least-cons x xs))

-- One lane.

-- the head of a lane is the least time at its site
pub head-is : (sizes : Sizes) (me : Side) (lane : Held) (s : Site) → HoldsSite sizes me lane s → least (times_of s) ≡ head_of lane
head-is sizes me lane s holds =
    ap (λ o. least (option_to_list o ++ map (λ c. c.time) s.coming)) (sym holds.ahead)
    ∙ ap (λ cs. least (option_to_list lane.tick ++ map (λ c. c.time) cs)) (sym holds.coming)

-- All lanes.
abbrev pub first_head : List Held → Option ℕ
first_head [] = None
first_head (l ∷ ls) = sooner (head_of l) (first_head ls)

first-append : (ls ms : List Held) → first_head (ls ++ ms) ≡ sooner (first_head ls) (first_head ms)
first-append [] ms = refl
first-append (l ∷ ls) ms = ap (sooner (head_of l)) (first-append ls ms) ∙ sym (sooner-assoc (head_of l) (first_head ls) (first_head ms))

first-kind : (sizes : Sizes) (me : Side) (ls : List Held) (ss : List Site) → HoldsAll sizes me ls ss → least (flat_map times_of ss) ≡ first_head ls
first-kind sizes me [] [] holds = refl
first-kind sizes me [] (s ∷ ss) holds = absurd holds
first-kind sizes me (l ∷ ls) [] holds = absurd holds
first-kind sizes me (l ∷ ls) (s ∷ ss) holds =
    least-append (times_of s) (flat_map times_of ss) ∙ ap (λ o. sooner o (least (flat_map times_of ss))) (head-is sizes me l s holds.0)
    ∙ ap (sooner (head_of l)) (first-kind sizes me ls ss holds.1)

pub first-is : (sizes : Sizes) (lanes : Each Held) (sites : Each Site) → HoldsSites sizes lanes sites → least (flat_map times_of (in_order sites)) ≡ first_head (in_order lanes)
first-is sizes lanes sites holds =
    ap least (flat_map-append times_of sites.bius sites.rmus)
    ∙ least-append (flat_map times_of sites.bius) (flat_map times_of sites.rmus)
    ∙ ap (λ o. sooner o (least (flat_map times_of sites.rmus))) (first-kind sizes Biu lanes.bius sites.bius holds.bius)
    ∙ ap (sooner (first_head lanes.bius)) (first-kind sizes Rmu lanes.rmus sites.rmus holds.rmus)
    ∙ sym (first-append lanes.bius lanes.rmus)

-- Keys.

-- a time is not past the last that there is
abbrev pub IsTime : Option ℕ → Type 0
IsTime None = ⊤
IsTime (Some t) = t ≤ 18446744073709551615

sooner-time : (a b : Option ℕ) → IsTime a → IsTime b → IsTime (sooner a b)
sooner-time None b ha hb = hb
sooner-time (Some a) None ha hb = ha
sooner-time (Some a) (Some b) ha hb = omega arith

sooner-key : (a b : Option ℕ) → IsTime a → IsTime b
    → min (unwrap_or a 18446744073709551615) (unwrap_or b 18446744073709551615) ≡ unwrap_or (sooner a b) 18446744073709551615
sooner-key None None ha hb = omega arith
sooner-key None (Some b) ha hb = omega arith
sooner-key (Some a) None ha hb = omega arith
sooner-key (Some a) (Some b) ha hb = refl

-- the keys of all lanes are times
abbrev pub AreTimes : List Held → Type 0
AreTimes [] = ⊤
AreTimes (l ∷ ls) = IsTime (head_of l) × AreTimes ls

pub first-time : (ls : List Held) → AreTimes ls → IsTime (first_head ls)
first-time [] h = tt
first-time (l ∷ ls) h = sooner-time (head_of l) (first_head ls) h.0 (first-time ls h.1)

pub key-is : (ls : List Held) → AreTimes ls → least_key (map key_of ls) ≡ unwrap_or (first_head ls) 18446744073709551615
unfolding least_key
key-is [] h = refl
key-is (l ∷ ls) h =
    ap (min (key_of l)) (key-is ls h.1) ∙ sooner-key (head_of l) (first_head ls) h.0 (first-time ls h.1)

-- What is due in a lane.

-- the first time is not later than the second, if there is a second
abbrev pub IsLow : Option ℕ → Option ℕ → Type 0
IsLow o None = ⊤
IsLow None (Some h) = ⊥
IsLow (Some t) (Some h) = t ≤ h

low-left : (a b : Option ℕ) → IsLow (sooner a b) a
low-left None b = tt
low-left (Some a) None = omega arith
low-left (Some a) (Some b) = omega arith

low-right : (a b : Option ℕ) → IsLow (sooner a b) b
low-right a None = tt
low-right None (Some b) = omega arith
low-right (Some a) (Some b) = omega arith

low-low : (a b c : Option ℕ) → IsLow a b → IsLow b c → IsLow a c
low-low a b None ab bc = tt
low-low a None (Some c) ab bc = absurd bc
low-low None (Some b) (Some c) ab bc = absurd ab
low-low (Some a) (Some b) (Some c) ab bc = omega arith

abbrev pub AreLow : Option ℕ → List Held → Type 0
AreLow o [] = ⊤
AreLow o (l ∷ ls) = IsLow o (head_of l) × AreLow o ls

pub all-low : (o : Option ℕ) (ls : List Held) → IsLow o (first_head ls) → AreLow o ls
all-low o [] h = tt
all-low o (l ∷ ls) h = (
  low-low o (sooner (head_of l) (first_head ls)) (head_of l) h (low-left (head_of l) (first_head ls)),
  all-low o ls (low-low o (sooner (head_of l) (first_head ls)) (first_head ls) h (low-right (head_of l) (first_head ls))),
)

pub low-itself : (o : Option ℕ) → IsLow o o
low-itself None = tt
low-itself (Some t) = omega arith

-- all times are later than `t`
abbrev AllLater : ℕ → List ℕ → Type 0
AllLater t [] = ⊤
AllLater t (u ∷ us) = (t < u) × AllLater t us

later : (t : ℕ) (us : List ℕ) → ((h : ℕ) → least us ≡ Some h → t < h) → AllLater t us
later t [] low = tt
later t (u ∷ us) low =
    let both = go (least us) (low _ refl) in
    (both.0, later t us both.1)
  where
    go : (o : Option ℕ) → t < elim o [ None ↦ u | Some v ↦ min u v ] → (t < u) × ((h : ℕ) → o ≡ Some h → t < h)
    go None l = (l, λ h e. let never : ◌≡◌ {A = Option ℕ} None (Some h) = e in cc)
    go (Some v) l =
        let lv : t < v = omega arith in
        (omega arith, λ h e. let same : v ≡ h = ap (λ o. unwrap_or o v) e in omega arith)

not-then : (t j s u : ℕ) → t < u → ((s == j) && (u == t)) ≡ false
not-then t j s u h = grind (arith, nat_tests)

none-then : (t j : ℕ) (arrivals : List Coming) → AllLater t (map (λ c. c.time) arrivals) → count_if (comes t j) arrivals ≡ 0
none-then t j [] h = refl
none-then t j (x ∷ arrivals) h =
    let more : count_if (comes t j) arrivals ≡ 0 = none-then t j arrivals h.1 in
    rw (not-then t j x.from x.time h.0) (omega (arith, more))

no-tick : (t u : ℕ) → t < u → tick_in t (Some u) ≡ []
no-tick t u less =
    let other : (u == t) ≡ false = grind (arith, nat_tests) in
    ap (λ b. elim b as (λ _. List Ready) [ true ↦ Ticks ∷ [] | false ↦ [] ]) other

-- nothing comes at a time before that of all arrivals
none-come : (t : ℕ) (arrivals : List Coming) → AllLater t (map (λ c. c.time) arrivals) → arrivals_of t arrivals ≡ []
none-come t arrivals h =
    arrivals_are t arrivals ∙ ap (from_on t arrivals 0) (let e : 256 ≡ 256 + 0 = omega arith in e)
    ∙ from_on-skip t arrivals 0 256 0 (λ j low high. none-then t j arrivals h) ∙ from_on-zero t arrivals (0 + 256)

-- nothing is ready at a time before that of all arrivals and of the tick
none-ready : (t : ℕ) (arrivals : List Coming) (tick : Option ℕ) → AllLater t (option_to_list tick ++ map (λ c. c.time) arrivals)
    → unless_some (arrivals_of t arrivals) (tick_in t tick) ≡ []
none-ready t arrivals None h = ap (λ l. unless_some l (tick_in t None)) (none-come t arrivals h)
none-ready t arrivals (Some u) h = ap (λ l. unless_some l (tick_in t (Some u))) (none-come t arrivals h.1) ∙ no-tick t u h.0

-- if the first of all heads is the lane's, what is ready in it is due, and else nothing of it is
pub due-by : (o h : Option ℕ) (lane : Held) → h ≡ head_of lane → IsLow o h → IsTime o
    → elim (unwrap_or h 18446744073709551615 == unwrap_or o 18446744073709551615) [ true ↦ ready_from h lane | false ↦ [] ] ≡ ready_from o lane
due-by o None lane is low time = go (18446744073709551615 == unwrap_or o 18446744073709551615) ∙ sym (none o)
  where
    go : (b : Bool) → ◌≡◌ {A = List Ready} (elim b as (λ _. List Ready) [ true ↦ [] | false ↦ [] ]) []
    go true = refl
    go false = refl

    none : (o : Option ℕ) → ready_from o lane ≡ []
    none None = refl
    none (Some t) =
        none-ready t lane.arrivals lane.tick
        (later t (option_to_list lane.tick ++ map (λ c. c.time) lane.arrivals) (λ u e. absurd (let never : ◌≡◌ {A = Option ℕ} None (Some u) = is ∙ e in cc)))
due-by None (Some h) lane is low time = absurd low
due-by (Some t) (Some h) lane is low time = go (h == t) refl
  where
    go : (b : Bool) → (h == t) ≡ b → elim b as (λ _. List Ready) [ true ↦ ready_in h lane | false ↦ [] ] ≡ ready_in t lane
    go true e = let same : h ≡ t = grind (arith, nat_tests) in ap (λ t. ready_in t lane) same
    go false e =
        let less : t < h = grind (arith, nat_tests) in
        sym (none-ready t lane.arrivals lane.tick (later t (option_to_list lane.tick ++ map (λ c. c.time) lane.arrivals) (λ u eu.
        let same : h ≡ u = ap (λ o. unwrap_or o h) (is ∙ eu) in omega (arith, same, less))))
