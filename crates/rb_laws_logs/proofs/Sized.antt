-- For the law of record and replay: in each world of the run what comes to a node has 1 to 32
-- bytes.
use Rattle.std.proofs.{Common.{◌≡◌, ℕ, zero, suc, ◌+◌, ◌<◌, ◌≤◌, ◌==◌, ◌&&◌, Bool, true, false, All, List, [], ◌∷◌, ◌++◌, length, refl, sym, ◌∙◌, subst, arith, Option, Some, None, get_or, slice_get, map, filter}, lemmas.List.Elements.{All-filter, All-map}, lemmas.Option.{same_Some, slice_get_within}}
use Rattle.std.specs.{Prelude.flat_map, List.range_with_len}
use Rattle.rb_base.specs.{Nodes.{Side, other}, declared.values.Place.Place}
use Rattle.rb_base.proofs.Plain.{option_map-back}
use Rattle.rb_rules.specs.{declared.message.Message.Message, declared.message.Version.Version, declared.say.Content.Content, declared.say.Content.TheVariants.{Word, Fault, Sync, Raw}, declared.say.Say.Say, Behavior.Said, Book.{Each, each_of, map_each, of_kind}, Core.Act, Entries.{IsListed, bytes_of, is_said, said_of}, Goodness.{Scenario, clock_of, is_good}, Hearing.{Coming, Sending, Span, coming_of, is_heard, said_by}, Lawful.IsContent, Ports.PortState, Slots.{count_of, same_side}, Spelling.spelling_of, WorldStep.{Due, Pending, Site, World, after_act, after_arrival, at_node, await, enter, first_world, fresh_site, happens, pass_and_tick, proceed, says_in, sent_to, span_from, stop, with_act, with_close, with_epoch, with_message, with_pending}, WorldStep.Pending.{Tick, Arrival}}
use Rattle.rb_rules.proofs.WindowNumbers.{get-each, get-made}
use Rattle.rb_laws_events.proofs.{Receiving.every-without, SameHeard.{Every, all-every}, WorldNodes.{close-coming, epoch-coming, first-counts}}
use Rattle.rb_laws_logs.specs.Given.{first_run}
use Rattle.rb_laws_logs.proofs.{NodeRun.{StepSites, step-sites}, NodeRun.StepSites.{Still, Taken}}
use Rattle.rb_rules.specs.declared.message.Version.TheVariants as version

-- Bytes.

abbrev pub IsSized : List ℕ → Type 0
IsSized bytes = (1 ≤ length bytes) × (length bytes ≤ 32)

abbrev pub AreSized : List Coming → Type 0
AreSized cs = Every (λ (c : Coming). IsSized c.bytes) cs

spelled : (v : Version) (m : Message) → IsSized (spelling_of v m)
spelled version.One m = let many : length (spelling_of version.One m) ≡ 11 = refl in (omega (arith, many), omega (arith, many))
spelled (version.Two bus) m = let many : length (spelling_of (version.Two bus) m) ≡ 12 = refl in (omega (arith, many), omega (arith, many))

content : (v : Version) (place : Place) (c : Content) → IsContent c → IsSized (bytes_of v place c)
content v place (Word word) is = spelled v _
content v place Fault is = spelled v _
content v place Sync is = spelled v _
content v place (Raw bytes) is = (is.some, is.most)

append : (xs ys : List Coming) → AreSized xs → AreSized ys → AreSized (xs ++ ys)
append [] ys a b = b
append (x ∷ xs) ys a b = (a.0, append xs ys a.1 b)

said : {sc : _} → IsListed sc → (me : Side) (i : ℕ) (span : Span) (j : ℕ) → AreSized (said_by sc me i span j)
said {sc} listed me i span j =
    let made : Say → Said = said_of sc.plan.version (clock_of sc me i) span in
    let coming : Said → Coming = λ s. record { time = s.time; from = j; bytes = s.bytes } in
    let entries : All (λ (s : Said). IsSized s.bytes) (map made (filter (is_said me i j span) sc.says)) =
    All-map (λ (s : Said). IsSized s.bytes) made (filter (is_said me i j span) sc.says)
    (All-filter (is_said me i j span) (λ s. IsSized (made s).bytes) sc.says
    (λ k d lt. content sc.plan.version span.place (get_or sc.says k d).content (listed.says k d lt).content)) in
    all-every (λ c. IsSized c.bytes) (said_by sc me i span j)
    (All-map (λ c. IsSized c.bytes) coming (filter (is_heard sc me i span j) (sc.behavior me i span j))
    (All-filter (is_heard sc me i span j) (λ s. IsSized s.bytes) (sc.behavior me i span j) (subst (All (λ (s : Said). IsSized s.bytes)) (sym (listed.behavior me i span j)) entries)))

of-all : (f : ℕ → List Coming) (a n : ℕ) → ((k : ℕ) → AreSized (f k)) → AreSized (flat_map f (range_with_len a n))
of-all f a zero all = tt
of-all f a (suc n) all = append (f a) (flat_map f (range_with_len (a + 1) n)) (all a) (of-all f (a + 1) n all)

says-sized : {sc : _} (me : Side) (i : ℕ) (span : Span) → IsListed sc → AreSized (says_in sc me i span)
unfolding says_in
says-sized {sc} me i span listed =
    of-all (λ j. elim (is_good sc (other me) j span.place.frame span.place.slot) [ true ↦ [] | false ↦ said_by sc me i span j ]) 0 (count_of (other me) sc.sizes)
    (λ j. by j (is_good sc (other me) j span.place.frame span.place.slot))
  where
    by : (j : ℕ) (b : Bool) → AreSized (elim b as (λ _. List Coming) [ true ↦ [] | false ↦ said_by sc me i span j ])
    by j true = tt
    by j false = said listed me i span j

-- One node.

entered : {sc : _} (me : Side) (i : ℕ) (o : Option Span) (s : Site) → IsListed sc → AreSized s.coming → AreSized (enter sc me i o s).coming
entered me i None s listed is = append s.coming [] is tt
entered {sc} me i (Some span) s listed is = by (is_good sc me i span.place.frame span.place.slot)
  where
    by : (b : Bool) → AreSized (elim b as (λ _. Site) [ true ↦ await sc me i (says_in sc me i span) s | false ↦ stop s ]).coming
    by true = append s.coming (says_in sc me i span) is (says-sized me i span listed)
    by false = tt

proceeds : {sc : _} (me : Side) (i : ℕ) (s : Site) → IsListed sc → AreSized s.coming → AreSized (proceed sc me i s).coming
unfolding proceed
proceeds {sc} me i s = entered me i (span_from sc.sizes sc.plan me s.core.state s.core.had) s

acts : {sc : _} (ports : List PortState) (me : Side) (i : ℕ) (x : Act) (s : Site) → IsListed sc → AreSized s.coming → AreSized (after_act sc ports me i x s).coming
unfolding after_act
acts {sc} ports me i x s listed is =
    let closed : Site = with_close me i x.core.state x.closed (record s { core = x.core }) in
    proceeds me i (with_epoch sc ports me i x.epoch closed) listed
    (subst AreSized (sym (epoch-coming sc ports me i x.epoch closed ∙ close-coming me i x.core.state x.closed (record s { core = x.core }))) is)

arrives : (sc : Scenario) (me : Side) (i place : ℕ) (c : Coming) (s : Site) → AreSized s.coming → AreSized (after_arrival sc me i place c s).coming
unfolding after_arrival
arrives sc me i place c s is = every-without (λ (c : Coming). IsSized c.bytes) place s.coming is

sends : (sc : Scenario) (me side : Side) (j frame : ℕ) (x : Sending) (i : ℕ) (s : Site) → AreSized s.coming → AreSized (sent_to sc me j frame x side i s).coming
sends sc me side j frame x i s is = by (same_side side (other me) && s.runs)
  where
    by : (b : Bool) → AreSized (elim b as (λ _. Site) [ true ↦ record s { coming = s.coming ++ coming_of sc side i j frame x ∷ [] } | false ↦ s ]).coming
    by true = append s.coming (coming_of sc side i j frame x ∷ []) is (spelled sc.plan.version x.message, tt)
    by false = is

-- All nodes.

abbrev pub AllSized : Each Site → Type 0
AllSized sites = (me : Side) (i : ℕ) (s : Site) → slice_get (of_kind me sites) i ≡ Some s → AreSized s.coming

each-sized : (f : Side → ℕ → Site → Site) {sites : _} → ((me : Side) (i : ℕ) (s : Site) → AreSized s.coming → AreSized (f me i s).coming) → AllSized sites → AllSized (map_each f sites)
each-sized f {sites} go h me i s e =
    let was = option_map-back (f me i) (slice_get (of_kind me sites) i) s (sym (get-each f sites me i) ∙ e) in
    subst (λ (s : Site). AreSized s.coming) was.1.1 (go me i was.0 (h me i was.0 was.1.0))

at-sized : (me : Side) (i : ℕ) (change : Site → Site) {sites : _} → ((s : Site) → AreSized s.coming → AreSized (change s).coming) → AllSized sites → AllSized (at_node me i change sites)
at-sized me i change go =
    each-sized (λ side n s. elim (same_side side me && (n == i)) as (λ _. Site) [ true ↦ change s | false ↦ s ]) (λ side n s is. by s is (same_side side me && (n == i)))
  where
    by : (s : Site) → AreSized s.coming → (b : Bool) → AreSized (elim b as (λ _. Site) [ true ↦ change s | false ↦ s ]).coming
    by s is true = go s is
    by s is false = is

message-sized : (sc : Scenario) (me : Side) (j frame tick : ℕ) (m : Option Message) {sites : _} → AllSized sites → AllSized (with_message sc me j frame tick m sites)
message-sized sc me j frame tick None is = is
message-sized sc me j frame tick (Some m) is =
    each-sized (sent_to sc me j frame (record { tick = tick; message = m })) (λ side i s k. sends sc me side j frame (record { tick = tick; message = m }) i s k) is

pending-sized : {sc : _} (w : World) (me : Side) (i : ℕ) (s : Site) (p : Pending) → IsListed sc → AllSized w.sites → AllSized (with_pending sc w me i s p).sites
unfolding with_act
pending-sized {sc} w me i s (Tick k) listed is =
    let x : Act = pass_and_tick sc w.ports me i k s.core in
    message-sized sc me i x.core.state.frame k x.message
    (at-sized me i (after_act sc w.ports me i x) (λ z k. acts w.ports me i x z listed k) is)
pending-sized {sc} w me i s (Arrival place c) listed is = at-sized me i (after_arrival sc me i place c) (λ z k. arrives sc me i place c z k) is

happens-sized : {sc : _} (w : World) (d : Due) → IsListed sc → AllSized w.sites → AllSized (happens sc w d).sites
unfolding happens
happens-sized {sc} w d listed is = by (slice_get (of_kind d.side w.sites) d.node)
  where
    by : (o : Option Site) → AllSized (elim o as (λ _. World) [ None ↦ w | Some s ↦ with_pending sc w d.side d.node s d.pending ]).sites
    by None = is
    by (Some s) = pending-sized w d.side d.node s d.pending listed is

-- The run.

first-sized : {sc : _} → IsListed sc → AllSized (first_world sc).sites
unfolding first_world
first-sized {sc} listed me i s e =
    let make : Side → ℕ → Site = λ me i. proceed sc me i (fresh_site sc.sizes me) in
    let within : i < length (of_kind me (each_of sc.sizes make)) = slice_get_within (of_kind me (each_of sc.sizes make)) i s e in
    let long : length (of_kind me (each_of sc.sizes make)) ≡ count_of me sc.sizes = first-counts sc.sizes make me in
    let made : slice_get (of_kind me (each_of sc.sizes make)) i ≡ Some (make me i) = get-made sc.sizes make me i (omega (arith, within, long)) in
    subst (λ (s : Site). AreSized s.coming) (same_Some (make me i) s (sym made ∙ e)) (proceeds me i (fresh_site sc.sizes me) listed tt)

pub run-sized : {sc : _} (n : ℕ) → IsListed sc → AllSized (first_run sc n).sites
run-sized zero listed = first-sized listed
run-sized {sc} (suc n) listed = by (run-sized n listed) (step-sites sc n)
  where
    by : AllSized (first_run sc n).sites → StepSites sc n → AllSized (first_run sc (suc n)).sites
    by before (Still nothing same) = subst AllSized (sym same) before
    by before (Taken d first is) = subst AllSized (sym is) (happens-sized (first_run sc n) d listed before)
