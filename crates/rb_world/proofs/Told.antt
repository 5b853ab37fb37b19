-- What a node tells, and what it delivers.
use Rattle.std.proofs.{Common.{◌≡◌, ℕ, zero, suc, ◌<◌, ◌==◌, Bool, true, false, Some, None, Option, List, [], ◌∷◌, length, slice_get, get_or, refl, sym, ap, ◌∙◌, subst, arith, if◌then◌else◌}, lemmas.Bool.Decides.nat_tests, lemmas.List.length-set, lemmas.Option.slice_get-get_or}
use Rattle.std.specs.Prelude.{slice_set, unwrap_or}
use Rattle.rb_base.specs.{Nodes.Side, Nodes.Side.{Biu, Rmu}, declared.node.NodeName.NodeName, declared.values.Delivery.Delivery}
use Rattle.rb_rules.specs.{declared.closing.Closed.Closed, declared.record.Epoch.Epoch, declared.record.PortLine.PortLine, Book.{Begun, Each, Row}, Clock.time_of, Goodness.{Scenario, clock_of}, Hearing.{begun_of, port_at, port_line}, Lawful.kind_of, Links.name_of, NodeState.{NodeState, trusted_of}, Ports.{PortState, delivered_to, fresh_port, losses_of}, WorldStep.{Site, World, with_delivery, with_epoch}}
use Rattle.rb_world.specs.{Tells.row_at, declared.scene.Scene.Scene, Steps.{closed_at, closed_if, moved}, Worlds.{HoldsPorts, Surrounds}}
use Rattle.rb_world_book.specs.{Changing.{changed_at, number_in, row_shown, with_begun, with_row}, Holding.Holds, declared.book.Book.Book as KeptBook}
use Rattle.rb_port.specs.Keeping.{HoldsPort, KeptPort}
use Rattle.rb_world_traffic.specs.Arriving.{number_of}
use Rattle.rb_laws_agreement.proofs.Exchanges.{trusted-either}
use Rattle.rb_world.proofs.{Around.{Tells, ports-more, told-more}, Sites.at-id}
use Rattle.rb_base.specs.declared.node.NodeName.TheVariants as node

-- The start of a frame.

pub begun-tells : (b : Begun) → Tells (with_begun b)
begun-tells b = record { coming = λ s. refl; ahead = λ s. refl; runs = λ s. refl }

pub begins : (sc : Scenario) (scene : Scene) (book : KeptBook) (w : World) (me : Side) (i : ℕ) (e : Epoch) (b : Begun) → Surrounds sc scene w
    → b ≡ begun_of sc w.ports me i e → Holds sc book (moved me i (with_begun b) w)
    → Surrounds sc (record scene { book = book }) (moved me i (with_epoch sc w.ports me i (Some e)) w)
begins sc scene book w me i e b is same holds =
    subst (λ b. Surrounds sc (record scene { book = book }) (moved me i (with_begun b) w)) same (told-more sc scene book w me i (with_begun b) (begun-tells b) is holds)

abbrev pub begun_with : Side → ℕ → Epoch → ℕ → Option PortLine → Begun
begun_with me i e time port = record {
  frame = e.frame;
  line = record { node = name_of me i; tick = e.tick; time = time; biu = e.biu; rmu = e.rmu };
  port = port;
}

pub begun-is : (sc : Scenario) (ports : List PortState) (me : Side) (i : ℕ) (e : Epoch) (time : ℕ) (port : Option PortLine) → time ≡ time_of (clock_of sc me i) e.tick
    → port ≡ port_line me i (port_at sc ports i) → begun_with me i e time port ≡ begun_of sc ports me i e
begun-is sc ports me i e time port time_is port_is = ap (λ t. begun_with me i e t port) time_is ∙ ap (begun_with me i e (time_of (clock_of sc me i) e.tick)) port_is

-- a BIU begins a frame
pub begin-biu : (sc : Scenario) (scene : Scene) (book : KeptBook) (w : World) (name : NodeName) (i : ℕ) (e : Epoch) (epoch : Option Epoch) (time : ℕ) (port : PortLine)
    → name ≡ node.Biu i → epoch ≡ Some e → time ≡ time_of (clock_of sc (kind_of name) (number_of name)) e.tick → Some port ≡ port_line Biu i (port_at sc w.ports i)
    → Surrounds sc scene w
    → Holds sc book (moved Biu i (with_begun (record { frame = e.frame; line = record { node = name; tick = e.tick; time = time; biu = e.biu; rmu = e.rmu }; port = Some port })) w)
    → Surrounds sc (record scene { book = book }) (moved (kind_of name) (number_of name) (with_epoch sc w.ports (kind_of name) (number_of name) epoch) w)
begin-biu sc scene book w name i e epoch time port named begun time_is port_is is holds =
    subst (λ o. Surrounds sc (record scene { book = book }) (moved (kind_of name) (number_of name) (with_epoch sc w.ports (kind_of name) (number_of name) o) w)) (sym begun)
    (subst (λ n. Surrounds sc (record scene { book = book }) (moved (kind_of n) (number_of n) (with_epoch sc w.ports (kind_of n) (number_of n) (Some e)) w)) (sym named)
    (begins sc scene book w Biu i e (begun_with Biu i e time (Some port)) is
    (begun-is sc w.ports Biu i e time (Some port) (subst (λ n. time ≡ time_of (clock_of sc (kind_of n) (number_of n)) e.tick) named time_is) port_is)
    (subst (λ n. Holds sc book (moved Biu i (with_begun (record { frame = e.frame; line = record { node = n; tick = e.tick; time = time; biu = e.biu; rmu = e.rmu }; port = Some port })) w))
    named holds)))

-- an RMU begins a frame
pub begin-rmu : (sc : Scenario) (scene : Scene) (book : KeptBook) (w : World) (name : NodeName) (i : ℕ) (e : Epoch) (epoch : Option Epoch) (time : ℕ)
    → name ≡ node.Rmu i → epoch ≡ Some e → time ≡ time_of (clock_of sc (kind_of name) (number_of name)) e.tick → Surrounds sc scene w
    → Holds sc book (moved Rmu i (with_begun (record { frame = e.frame; line = record { node = name; tick = e.tick; time = time; biu = e.biu; rmu = e.rmu }; port = None })) w)
    → Surrounds sc (record scene { book = book }) (moved (kind_of name) (number_of name) (with_epoch sc w.ports (kind_of name) (number_of name) epoch) w)
begin-rmu sc scene book w name i e epoch time named begun time_is is holds =
    subst (λ o. Surrounds sc (record scene { book = book }) (moved (kind_of name) (number_of name) (with_epoch sc w.ports (kind_of name) (number_of name) o) w)) (sym begun)
    (subst (λ n. Surrounds sc (record scene { book = book }) (moved (kind_of n) (number_of n) (with_epoch sc w.ports (kind_of n) (number_of n) (Some e)) w)) (sym named)
    (begins sc scene book w Rmu i e (begun_with Rmu i e time None) is
    (begun-is sc w.ports Rmu i e time None (subst (λ n. time ≡ time_of (clock_of sc (kind_of n) (number_of n)) e.tick) named time_is) refl)
    (subst (λ n. Holds sc book (moved Rmu i (with_begun (record { frame = e.frame; line = record { node = n; tick = e.tick; time = time; biu = e.biu; rmu = e.rmu }; port = None })) w))
    named holds)))

pub begin-none : (sc : Scenario) (scene : Scene) (w : World) (me : Side) (i : ℕ) (epoch : Option Epoch) → epoch ≡ None → Surrounds sc scene w
    → Surrounds sc scene (moved me i (with_epoch sc w.ports me i epoch) w)
begin-none sc scene w me i epoch e is =
    subst (λ o. Surrounds sc scene (moved me i (with_epoch sc w.ports me i o) w)) (sym e)
    (subst (λ (sites : Each Site). Surrounds sc scene (record w { sites = sites })) (sym (at-id me i w.sites)) is)

pub line-is : (i state losses : ℕ) (port : PortState) → state ≡ port.state → losses ≡ losses_of port
    → ◌≡◌ {A = Option PortLine} (Some (record { biu = i; state = state; losses = losses })) (port_line Biu i port)
line-is i state losses port state_is losses_is =
    ap (λ a. let l : PortLine = record { biu = i; state = a; losses = losses } in Some l) state_is
    ∙ ap (λ b. let l : PortLine = record { biu = i; state = port.state; losses = b } in Some l) losses_is

-- The close of a window.

row-tells : (stage : ℕ) (row : Row) → Tells (with_row stage row)
row-tells stage row = record { coming = λ s. keeps (λ s. s.coming) (λ s. refl) s; ahead = λ s. keeps (λ s. s.ahead) (λ s. refl) s; runs = λ s. keeps (λ s. s.runs) (λ s. refl) s }
  where
    keeps : {Y : Type 0} (h : Site → Y) → ((s : Site) → h (record s { row = Some row }) ≡ h s) → (s : Site) → h (with_row stage row s) ≡ h s
    keeps h same s = by (stage == 4)
      where
        by : (b : Bool) → h (elim b as (λ _. Site) [ true ↦ s | false ↦ record s { row = Some row } ]) ≡ h s
        by true = refl
        by false = same s

pub closes-then : (sc : Scenario) (scene after : Scene) (w : World) (name : NodeName) (c : Closed) (row : Row) → after.agenda ≡ scene.agenda
    → after.running_biu ≡ scene.running_biu → after.running_rmu ≡ scene.running_rmu
    → Holds sc after.book (moved (kind_of name) (number_of name) (with_row c.place.stage row) w) → HoldsPorts sc after.ports.items (with_delivery sc (number_of name) c.delivered w.ports)
    → Surrounds sc scene w → Surrounds sc after (closed_at sc name c row w)
closes-then sc scene after w name c row agenda biu rmu book ports is =
    ports-more sc (record scene { book = after.book }) after.ports.items (moved (kind_of name) (number_of name) (with_row c.place.stage row) w) after
    (with_delivery sc (number_of name) c.delivered w.ports) agenda refl refl biu rmu ports
    (told-more sc scene after.book w (kind_of name) (number_of name) (with_row c.place.stage row) (row-tells c.place.stage row) is book)

pub number-is : (name : NodeName) → number_in name ≡ number_of name
number-is (node.Biu i) = refl
number-is (node.Rmu i) = refl

pub changed-is : (name : NodeName) (change : Site → Site) (w : World) → changed_at name change w ≡ moved (kind_of name) (number_of name) change w
changed-is (node.Biu i) change w = refl
changed-is (node.Rmu i) change w = refl

-- what is kept of a node tells the close of its window as the world does
pub close-is : (sc : Scenario) (scene after : Scene) (w : World) (name : NodeName) (me : Side) (closed : Bool) (c d : Closed) (times ts : List ℕ) (biu rmu : ℕ) (st : NodeState)
    → closed ≡ true → d ≡ c → ts ≡ times → biu ≡ trusted_of me Biu st → rmu ≡ trusted_of me Rmu st → after.agenda ≡ scene.agenda
    → after.running_biu ≡ scene.running_biu → after.running_rmu ≡ scene.running_rmu
    → Holds sc after.book (changed_at name (with_row d.place.stage (row_shown (number_in name) d ts biu rmu)) w)
    → HoldsPorts sc after.ports.items (with_delivery sc (number_of name) d.delivered w.ports) → Surrounds sc scene w
    → Surrounds sc after (closed_if sc name (if closed then Some c else None) (row_at me (number_of name) st times c) w)
close-is sc scene after w name me closed c d times ts biu rmu st is_closed shown times_are biu_is rmu_is agenda runs_biu runs_rmu book ports is =
    let book_moved : Holds sc after.book (moved (kind_of name) (number_of name) (with_row d.place.stage (row_shown (number_in name) d ts biu rmu)) w) =
    subst (Holds sc after.book) (changed-is name (with_row d.place.stage (row_shown (number_in name) d ts biu rmu)) w) book in
    let row_is : row_shown (number_in name) d ts biu rmu ≡ row_at me (number_of name) st times d =
    ap (λ n. row_shown n d ts biu rmu) (number-is name) ∙ ap (λ l. row_shown (number_of name) d l biu rmu) times_are
    ∙ ap (λ b. row_shown (number_of name) d times b rmu) (biu_is ∙ trusted-either me Biu st)
    ∙ ap (λ r. row_shown (number_of name) d times (trusted_of Biu me st) r) (rmu_is ∙ trusted-either me Rmu st) in
    let done : Surrounds sc after (closed_at sc name d (row_at me (number_of name) st times d) w) =
    closes-then sc scene after w name d (row_at me (number_of name) st times d) agenda runs_biu runs_rmu
    (subst (λ r. Holds sc after.book (moved (kind_of name) (number_of name) (with_row d.place.stage r) w)) row_is book_moved) ports is in
    subst (λ b. Surrounds sc after (closed_if sc name (if b then Some c else None) (row_at me (number_of name) st times c) w)) (sym is_closed)
    (subst (λ (d : Closed). Surrounds sc after (closed_at sc name d (row_at me (number_of name) st times d) w)) shown done)

-- Ports.

pub set-here : {X : Type 0} (xs : List X) (i : ℕ) (y z : X) → slice_get (slice_set xs i y) i ≡ Some z → y ≡ z
set-here [] i y z e = cc
set-here (x ∷ xs) zero y z e = ap (λ o. unwrap_or o y) e
set-here (x ∷ xs) (suc i) y z e = set-here xs i y z e

pub set-there : {X : Type 0} (xs : List X) (i n : ℕ) (y : X) → (n == i) ≡ false → slice_get (slice_set xs i y) n ≡ slice_get xs n
set-there [] i n y h = refl
set-there (x ∷ xs) zero zero y h = absurd (cc)
set-there (x ∷ xs) zero (suc n) y h = refl
set-there (x ∷ xs) (suc i) zero y h = refl
set-there (x ∷ xs) (suc i) (suc n) y h = set-there xs i n y (let apart : (n == i) ≡ false = grind (arith, nat_tests, h) in apart)

-- a delivery goes to its port
pub delivers : (sc : Scenario) (kept : List KeptPort) (states : List PortState) (i : ℕ) (k : KeptPort) (d : Delivery) → i < length kept
    → ((old : KeptPort) (port : PortState) → slice_get kept i ≡ Some old → HoldsPort old port → HoldsPort k (delivered_to port d.value)) → HoldsPorts sc kept states
    → HoldsPorts sc (slice_set kept i k) (with_delivery sc i (Some d) states)
delivers sc kept states i k d inside step is =
    let port : PortState = port_at sc states i in
    let all : length states ≡ sc.sizes.bius = is.all in
    let many : length kept ≡ sc.sizes.bius = is.many in
    let known : slice_get states i ≡ Some port = slice_get-get_or states i (fresh_port (get_or sc.apps i 0) (get_or sc.words i 0)) (omega arith) in
    let old : KeptPort = get_or kept i k in
    let own : HoldsPort k (delivered_to port d.value) = step old port (slice_get-get_or kept i k inside) (is.each i old port (slice_get-get_or kept i k inside) known) in
    record {
      many = length-set kept i k ∙ is.many;
      all = length-set states i (delivered_to port d.value) ∙ is.all;
      each = λ n a p ea ep. by n a p ea ep (n == i) refl own;
    }
  where
    by : (n : ℕ) (a : KeptPort) (p : PortState) → slice_get (slice_set kept i k) n ≡ Some a → slice_get (slice_set states i (delivered_to (port_at sc states i) d.value)) n ≡ Some p
        → (b : Bool) → (n == i) ≡ b → HoldsPort k (delivered_to (port_at sc states i) d.value) → HoldsPort a p
    by n a p ea ep true h own =
        let same : n ≡ i = grind (arith, nat_tests, h) in
        subst (λ a. HoldsPort a p) (set-here kept i k a (subst (λ m. slice_get (slice_set kept i k) m ≡ Some a) same ea))
        (subst (HoldsPort k) (set-here states i (delivered_to (port_at sc states i) d.value) p
        (subst (λ m. slice_get (slice_set states i (delivered_to (port_at sc states i) d.value)) m ≡ Some p) same ep)) own)
    by n a p ea ep false h own =
        is.each n a p (sym (set-there kept i n k h) ∙ ea) (sym (set-there states i n (delivered_to (port_at sc states i) d.value) h) ∙ ep)
