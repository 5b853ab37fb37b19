-- What is due of a replay, event by event.
use Rattle.std.proofs.{Common.{◌≡◌, ℕ, ◌+◌, ◌≤◌, ◌^◌, nat_lt, Bool, true, false, cond, refl, ap, sym, ◌∙◌, subst, arith, lit≤, Option, Some, None, List, [], ◌∷◌, ◌++◌}, Math.ListN.replicate}
use Rattle.std.specs.{List.flat_map, Io.KnownBytes.Appends}
use Rattle.rb_base.specs.{Nodes.Side, Sizes.Sizes, declared.node.NodeName.NodeName}
use Rattle.rb_rules.specs.{declared.plan.Plan.Plan, declared.record.Epoch.Epoch, Core.{Act, Core, CoreEvent, act_at, act_on, acts_of, first_core, is_last, is_spent, tick}, Core.CoreEvent.{Tick, Arrive}, declared.message.Message.Message, Lawful.kind_of, NodeState.{NodeState, first_state}}
use Rattle.rb_rules.proofs.QuietTicks.{IsQuiet, arrive-same}
use Rattle.rb_node.specs.Cores.{IsCore, IsSameNode, Running, arrive_of, passing_end, tick_of, ticks_of}
use Rattle.rb_slot.specs.Engines.{Seated}
use Rattle.rb_outside.specs.Bytes.{AppendsPart}
use Rattle.rb_outside.proofs.Known.{appends_none, part_widens}
use Rattle.rb_report.specs.Report.{end_text}
use Rattle.rb_laws_logs.specs.{Given.index_of, Replays.{act_lines, acts_from, acts_text, frames_in, frames_with, replay_text}}
use Rattle.rb_replay.specs.{Advancing.Advances, Replaying.{IsDue, acts_at, text_after}}
use Rattle.rb_replay.proofs.QuietActs.{quiet-before, quiet-text, text-step}

-- Quiet ticks.

-- quiet ticks change nothing that is due
pub passes-due : (me : Side) (n m : Running) (name : NodeName) (frames count : ℕ) (events : List CoreEvent) (due : List ℕ)
    → n.had ≤ 2 ^ 31 → n.had + count ≤ passing_end me n → n.had + count ≤ 2 ^ 31
    → m ≡ record n { had = n.had + count }
    → ((c : Core) → IsCore n c → IsCore m (ticks_of me n count c))
    → IsDue me n name frames (replicate count (Tick 0) ++ events) due → IsDue me m name frames events due
passes-due me n m name frames count events due room upto most is cores d =
    let after : IsCore m (ticks_of me n count d.core) = cores d.core d.stands in
    let had : m.had ≡ n.had + count = ap (λ (r : Running). r.had) is in
    let few : frames ≤ d.core.had = d.few in
    let before : d.core.had ≡ n.had = d.stands.had in
    let now : (ticks_of me n count d.core).had ≡ m.had = after.had in
    record {
      core = ticks_of me n count d.core;
      stands = after;
      few = omega arith;
      text = d.text
          ∙ quiet-text n.seat.sizes n.seat.plan me n.seat.index name frames count d.core events
          (λ k lo hi. subst (λ st. IsQuiet n.seat.sizes n.seat.plan me n.seat.index st k) (sym d.stands.state) (quiet-before n.seat.sizes n.seat.plan me n.seat.index n.seat.state n.had k room (omega arith) (omega arith)))
          (omega arith)
          ∙ ap (λ (r : Running). text_after name frames (acts_at me r (ticks_of me n count d.core) events)) (sym is);
    }

-- A tick.

-- a node of the same bus has the same acts
same-acts : (me : Side) (n m : Running) (c : Core) (events : List CoreEvent) → IsSameNode n m → acts_at me m c events ≡ acts_at me n c events
same-acts me n m c events same =
    ap (λ s. acts_of s m.seat.plan me m.seat.index c events) same.sizes
    ∙ ap (λ p. acts_of n.seat.sizes p me m.seat.index c events) same.plan
    ∙ ap (λ i. acts_of n.seat.sizes n.seat.plan me i c events) same.index

-- a tick begins at most one frame
one-begins : (e : Option Epoch) → frames_with e ≤ 1
one-begins None = lit≤ tt
one-begins (Some e) = by (nat_lt 0 e.frame)
  where
    by : (b : Bool) → cond b 1 0 ≤ 1
    by true = lit≤ tt
    by false = lit≤ tt

pub act-had : (sizes : Sizes) (plan : Plan) (me : Side) (index : ℕ) (c : Core) (st kept : NodeState) (m : Option Message)
    → (act_on sizes plan me index c st m kept).core.had ≡ c.had + 1
unfolding act_on
act-had sizes plan me index c st kept m = by (is_last sizes plan me st c.had) _ _ refl refl
  where
    by : (b : Bool) (x y : Act) → x.core.had ≡ c.had + 1 → y.core.had ≡ c.had + 1
        → (elim b as (λ _. Act) [ true ↦ x | false ↦ y ]).core.had ≡ c.had + 1
    by true x y h k = h
    by false x y h k = k

at-had : (sizes : Sizes) (plan : Plan) (me : Side) (index : ℕ) (c : Core) (word : ℕ) → (act_at sizes plan me index c word).core.had ≡ c.had + 1
unfolding act_at
at-had sizes plan me index c word = act-had sizes plan me index c _ _ _

-- an act begins no more frames than it has ticks
counts : (c : Core) (x : Act) → x.core.had ≡ c.had + 1 → frames_with x.epoch + c.had ≤ x.core.had
counts c x had = let one : frames_with x.epoch ≤ 1 = one-begins x.epoch in omega arith

tick-counts : (sizes : Sizes) (plan : Plan) (me : Side) (index : ℕ) (c : Core) (word : ℕ)
    → frames_with (tick sizes plan me index c word).epoch + c.had ≤ (tick sizes plan me index c word).core.had
unfolding tick
tick-counts sizes plan me index c word = by (is_spent c)
  where
    spent : Act
    spent = record { core = c; epoch = None; message = None; closed = None }

    by : (b : Bool) → frames_with (elim b as (λ _. Act) [ true ↦ spent | false ↦ act_at sizes plan me index c word ]).epoch + c.had
        ≤ (elim b as (λ _. Act) [ true ↦ spent | false ↦ act_at sizes plan me index c word ]).core.had
    by true = omega arith
    by false = counts c (act_at sizes plan me index c word) (at-had sizes plan me index c word)

-- the lines of the tick were written
pub tick-advances : (me : Side) (n m : Running) (name : NodeName) (frames begun word : ℕ) (events : List CoreEvent) (due : List ℕ) (before after : Option (List ℕ))
    → IsSameNode n m
    → ((c : Core) → IsCore n c → IsCore m (tick_of me n c word).core)
    → ((c : Core) → IsCore n c → begun ≡ frames_with (tick_of me n c word).epoch)
    → ((c : Core) → IsCore n c → Appends before after (act_lines name (tick_of me n c word)))
    → IsDue me n name frames (Tick word ∷ events) due → Advances (IsDue me m name (frames + begun) events) due before after
tick-advances me n m name frames begun word events due before after same cores begins written d =
    let x : Act = tick_of me n d.core word in
    let more : frames_with x.epoch + d.core.had ≤ x.core.had = tick-counts n.seat.sizes n.seat.plan me n.seat.index d.core word in
    let is : begun ≡ frames_with x.epoch = begins d.core d.stands in
    let few : frames ≤ d.core.had = d.few in
    record {
      part = act_lines name x;
      rest = text_after name (frames + frames_with x.epoch) (acts_at me n x.core events);
      whole = d.text ∙ text-step name frames x (acts_at me n x.core events);
      appended = written d.core d.stands;
      goes_on = record {
        core = x.core;
        stands = cores d.core d.stands;
        few = omega arith;
        text = ap (λ k. text_after name (frames + k) (acts_at me n x.core events)) (sym is)
            ∙ ap (λ xs. text_after name (frames + begun) xs) (sym (same-acts me n m x.core events same));
      };
    }

-- only a part of the tick's lines was written
pub tick-part : (me : Side) (n : Running) (name : NodeName) (frames word : ℕ) (events : List CoreEvent) (due : List ℕ) (before after : Option (List ℕ))
    → ((c : Core) → IsCore n c → AppendsPart before after (act_lines name (tick_of me n c word)))
    → IsDue me n name frames (Tick word ∷ events) due → AppendsPart before after due
tick-part me n name frames word events due before after written d =
    let x : Act = tick_of me n d.core word in
    subst (AppendsPart before after) (sym (d.text ∙ text-step name frames x (acts_at me n x.core events)))
    (part_widens before after (act_lines name x) (text_after name (frames + frames_with x.epoch) (acts_at me n x.core events)) (written d.core d.stands))

-- An arrival, at which nothing is printed.

pub arrival-advances : (me : Side) (n m : Running) (name : NodeName) (frames from : ℕ) (bytes : List ℕ) (events : List CoreEvent) (due : List ℕ) (held : Option (List ℕ))
    → m ≡ record n { inbox = m.inbox }
    → ((c : Core) → IsCore n c → IsCore m (arrive_of me n c from bytes))
    → IsDue me n name frames (Arrive from bytes ∷ events) due → Advances (IsDue me m name (frames + 0) events) due held held
arrival-advances me n m name frames from bytes events due held rest cores d =
    let had : (arrive_of me n d.core from bytes).had ≡ d.core.had = (arrive-same n.seat.sizes me d.core from bytes).1 in
    let few : frames ≤ d.core.had = d.few in
    let none : frames ≡ frames + 0 = omega arith in
    record {
      part = [];
      rest = due;
      whole = refl;
      appended = appends_none held;
      goes_on = record {
        core = arrive_of me n d.core from bytes;
        stands = cores d.core d.stands;
        few = omega arith;
        text = d.text
            ∙ ap (λ k. text_after name k (acts_at me n (arrive_of me n d.core from bytes) events)) none
            ∙ ap (λ (r : Running). text_after name (frames + 0) (acts_at me r (arrive_of me n d.core from bytes) events)) (sym rest);
      };
    }

-- after the last event the end is due
end-due : (me : Side) (n : Running) (name : NodeName) (frames : ℕ) (due : List ℕ) → IsDue me n name frames [] due → due ≡ end_text frames
end-due me n name frames due d = let none : frames + 0 ≡ frames = omega arith in d.text ∙ ap end_text none

-- what is due after the last event is what was written
pub end-is : (me : Side) (n : Running) (name : NodeName) (frames : ℕ) (bytes : List ℕ) → bytes ≡ end_text frames → (rest : List ℕ) → IsDue me n name frames [] rest → rest ≡ bytes
end-is me n name frames bytes is rest d = end-due me n name frames rest d ∙ sym is

-- At first.

first-text : (name : NodeName) (acts : List Act) → acts_text name acts ≡ text_after name 0 acts
first-text name acts = let none : frames_in acts ≡ 0 + frames_in acts = omega arith in ap (λ k. flat_map (act_lines name) acts ++ end_text k) none

-- at a node before its first tick the whole text is due
pub all-due : (sizes : Sizes) (plan : Plan) (me : Side) (index : ℕ) (n : Running) (name : NodeName) (events : List CoreEvent)
    → kind_of name ≡ me → index_of name ≡ index
    → n.seat ≡ record { sizes = sizes; plan = plan; index = index; state = first_state sizes me }
    → IsCore n (first_core sizes me) → IsDue me n name 0 events (replay_text sizes plan name events)
unfolding replay_text
all-due sizes plan me index n name events kind number seat is = record {
  core = first_core sizes me;
  stands = is;
  few = lit≤ tt;
  text = first-text name (acts_from sizes plan name events)
      ∙ ap (λ (k : Side). text_after name 0 (acts_of sizes plan k (index_of name) (first_core sizes k) events)) kind
      ∙ ap (λ i. text_after name 0 (acts_of sizes plan me i (first_core sizes me) events)) number
      ∙ ap (λ (s : Seated). text_after name 0 (acts_of s.sizes s.plan me s.index (first_core sizes me) events)) (sym seat);
}
