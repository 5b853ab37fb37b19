-- The start of a frame, and what is wanted in its slots.
use Rattle.std.proofs.{Common.{◌≡◌, ℕ, ◌+◌, ◌-◌, ◌*◌, ◌≤◌, ◌==◌, ◌&&◌, nat_lt, Bool, true, false, refl, ap, sym, ◌∙◌, subst, arith, Option, Some, None, is_some, unwrap_or, if◌then◌else◌}, lemmas.Bool.Decides.nat_tests}
use Rattle.std.specs.Option.{option_or}
use Rattle.rb_base.specs.{Nodes.Side, Nodes.Side.Biu, Sizes.{IsShape, Sizes, sync_slot_of}}
use Rattle.rb_rules.specs.{declared.message.Message.Message, declared.plan.Plan.Plan, declared.plan.Window.Window, Core.{if_at, is_tick, said_at, slot_wanted, state_at, window_here}, Hearing.{Span, span_of, tail_at}, NodeState.NodeState, NodeSteps.{message_said, turn_if_known}, Plan.IsPlan, Slots.first_diagnosis_of, SyncStage.{call_tick_of, new_epoch_of, send_tick_of}, Windows.{send_offset_of, window_at}, WorldStep.span_from}
use Rattle.rb_rules.proofs.RoundStates.{HasTicks}
use Rattle.rb_slot.specs.Engines.{Seated}
use Rattle.rb_node.specs.{Aheads.{SaysIn, tick_said, want_at, window_of_tick}, Aheads.SaysIn.{Silent, First, Second, Third}, Saids.span_if, Wants.{slot_of_words, want_for}}
use Rattle.rb_node.proofs.{Busy.{no-turn, said-form, said-tick, stage_at, turned-epoch, unsaid}, Saying.{HasPlace, goes-out, message-place, sending-is, sent_at, stays-in}, Steps.turned-frame, Windows.{first-is, has-ticks}}
use Rattle.rb_node.specs.declared.act.Want.TheVariants as want

pub turns-is : (v : Seated) (me : Side) (k : ℕ) → is_tick (new_epoch_of v.plan me v.state) k ≡ true
    → state_at v.sizes v.plan me v.state k ≡ turn_if_known v.sizes v.plan me v.state
unfolding state_at
turns-is v me k h = rw (h, state_at) refl

-- Nothing is said at the first tick of a frame.

first-slot : (me : Side) (v : Seated) (k : ℕ) → IsShape v.sizes → HasTicks v.plan → v.state.epoch ≡ k → (window_of_tick me v k).slot ≡ 0
first-slot me v k shape ticks e =
    let some : 1 ≤ v.sizes.bius = shape.some_biu in
    let none : k - v.state.epoch ≡ 0 = omega arith in
    ap (λ (w : Window). w.slot) (ap (λ o. unwrap_or o (tail_at v.sizes v.plan me v.state)) (ap (window_at v.sizes v.plan) none ∙ first-is v.sizes v.plan ticks (omega arith)))

not-sync : (v : Seated) → IsShape v.sizes → (0 == sync_slot_of v.sizes) ≡ false
not-sync v shape = let some : 1 ≤ v.sizes.bius = shape.some_biu in grind (arith, nat_tests)

late : (epoch k x h : ℕ) → epoch ≡ k → 1 ≤ h → (epoch + (x + h) == k) ≡ false
late epoch k x h e some = grind (arith, nat_tests)

not-yet : (v : Seated) (stage k : ℕ) → IsShape v.sizes → IsPlan v.plan → v.state.epoch ≡ k → is_tick (send_tick_of v.sizes v.plan v.state 0 stage) k ≡ false
not-yet v stage k shape plan e =
    ap (λ b. is_tick (if b then call_tick_of v.sizes v.plan v.state stage else Some (v.state.epoch + send_offset_of v.plan 0 stage)) k) (not-sync v shape)
    ∙ late v.state.epoch k ((3 * 0 + stage - 1) * v.plan.l) v.plan.h e plan.h.0

silent-stage : (me : Side) (v : Seated) (stage k : ℕ) → IsShape v.sizes → IsPlan v.plan → v.state.epoch ≡ k → stage_at me v 0 stage 0 k ≡ None
silent-stage me v stage k shape plan e =
    ap (if_at k) (sending-is v.sizes v.plan me v.index v.state 0 stage 0)
    ∙ stays-in k (message_said v.sizes me v.index v.state 0 stage 0) (send_tick_of v.sizes v.plan v.state 0 stage) (not-yet v stage k shape plan e)

three-none : (a b c : Option Message) → a ≡ None → b ≡ None → c ≡ None → option_or a (option_or b c) ≡ None
three-none a b c h i j = rw (h, i, j) refl

silent : (me : Side) (v : Seated) (k : ℕ) → IsShape v.sizes → IsPlan v.plan → v.state.epoch ≡ k
    → said_at v.sizes v.plan me v.index v.state 0 k ≡ None
silent me v k shape plan e =
    said-form me v 0 k
    ∙ ap (λ s. option_or (stage_at me v s 1 0 k) (option_or (stage_at me v s 2 0 k) (stage_at me v s 3 0 k))) (first-slot me v k shape (has-ticks v.plan plan) e)
    ∙ three-none _ _ _ (silent-stage me v 1 k shape plan e) (silent-stage me v 2 k shape plan e) (silent-stage me v 3 k shape plan e)

pub silent-says : (me : Side) (v : Seated) (slot k : ℕ) → IsShape v.sizes → IsPlan v.plan → v.state.epoch ≡ k → slot ≡ (window_of_tick me v k).slot
    → SaysIn me v slot k 0
silent-says me v slot k shape plan e is =
    let none : (stage : ℕ) → is_tick (tick_said me v 0 stage) k ≡ false =
    λ stage. said-tick k (message_said v.sizes me v.index v.state 0 stage 0) (send_tick_of v.sizes v.plan v.state 0 stage) (not-yet v stage k shape plan e) in
    subst (λ s. SaysIn me v s k 0) (sym (is ∙ first-slot me v k shape (has-ticks v.plan plan) e)) (Silent refl (none 1) (none 2) (none 3))

-- What is wanted.

pub want-turned : (me : Side) (v : Seated) (k : ℕ) → IsShape v.sizes → IsPlan v.plan → is_tick (new_epoch_of v.plan me v.state) k ≡ true
    → want_at me v k ≡ want.Nothing
want-turned me v k shape plan h =
    ap (λ m. want_for v.sizes (slot_wanted v.sizes m))
    (silent me (record v { state = state_at v.sizes v.plan me v.state k }) k shape plan (turned-epoch v me k h))

-- if the node does not turn, it wants a word for the first of its three stages that has a message
staying : (me : Side) (v : Seated) (w : Window) (k : ℕ) → is_tick (new_epoch_of v.plan me v.state) k ≡ false → w ≡ window_of_tick me v k
    → want_at me v k
    ≡ want_for v.sizes (slot_wanted v.sizes (option_or (stage_at me v w.slot 1 0 k) (option_or (stage_at me v w.slot 2 0 k) (stage_at me v w.slot 3 0 k))))
staying me v w k h is =
    ap (λ st. want_for v.sizes (slot_wanted v.sizes (said_at v.sizes v.plan me v.index st 0 k))) (no-turn v me k h)
    ∙ ap (λ m. want_for v.sizes (slot_wanted v.sizes m)) (said-form me v 0 k)
    ∙ ap (λ (x : Window). want_for v.sizes (slot_wanted v.sizes (option_or (stage_at me v x.slot 1 0 k) (option_or (stage_at me v x.slot 2 0 k) (stage_at me v x.slot 3 0 k)))))
    (sym is)

place-at : (me : Side) (v : Seated) (slot stage k : ℕ) (m : Message) → stage_at me v slot stage 0 k ≡ Some m → HasPlace m slot stage
place-at me v slot stage k m e =
    by (message_said v.sizes me v.index v.state slot stage 0) (send_tick_of v.sizes v.plan v.state slot stage) refl
    (sym (ap (if_at k) (sending-is v.sizes v.plan me v.index v.state slot stage 0)) ∙ e)
  where
    by : (o : Option Message) (t : Option ℕ) → message_said v.sizes me v.index v.state slot stage 0 ≡ o → if_at k (sent_at o t) ≡ Some m → HasPlace m slot stage
    by None t s g = cc
    by (Some x) None s g = cc
    by (Some x) (Some t) s g = there (t == k) g
      where
        there : (b : Bool) → (elim b as (λ _. Option Message) [ true ↦ Some x | false ↦ None ]) ≡ Some m → HasPlace m slot stage
        there true g = message-place v.sizes me v.index v.state slot stage 0 m (s ∙ g)
        there false g = cc

-- a message of another stage takes no word
later-stage : (sizes : Sizes) (m : Message) (slot stage : ℕ) → HasPlace m slot stage → (stage == 1) ≡ false → slot_wanted sizes (Some m) ≡ None
later-stage sizes m slot stage p h =
    ap (λ b. elim (b && nat_lt m.slot (first_diagnosis_of Biu sizes)) as (λ _. Option ℕ) [ true ↦ Some m.slot | false ↦ None ])
    (ap (λ s. s == 1) p.stage_is ∙ h)

wanted-later : (me : Side) (v : Seated) (slot k : ℕ) (b c : Option Message) → stage_at me v slot 2 0 k ≡ b → stage_at me v slot 3 0 k ≡ c
    → slot_wanted v.sizes (option_or b c) ≡ None
wanted-later me v slot k (Some m) c e f = later-stage v.sizes m slot 2 (place-at me v slot 2 k m e) refl
wanted-later me v slot k None (Some m) e f = later-stage v.sizes m slot 3 (place-at me v slot 3 k m f) refl
wanted-later me v slot k None None e f = refl

pub want-later : (me : Side) (v : Seated) (w : Window) (k : ℕ) → is_tick (new_epoch_of v.plan me v.state) k ≡ false → w ≡ window_of_tick me v k
    → is_tick (tick_said me v w.slot 1) k ≡ false → want_at me v k ≡ want.Nothing
want-later me v w k h is none =
    staying me v w k h is
    ∙ ap (λ m. want_for v.sizes (slot_wanted v.sizes (option_or m (option_or (stage_at me v w.slot 2 0 k) (stage_at me v w.slot 3 0 k))))) (unsaid me v w.slot 1 k none)
    ∙ ap (want_for v.sizes) (wanted-later me v w.slot k (stage_at me v w.slot 2 0 k) (stage_at me v w.slot 3 0 k) refl refl)

-- nothing is wanted if no message of the first stage is due, whether the node turns or not
pub want-silent : (me : Side) (v : Seated) (w : Window) (k : ℕ) → IsShape v.sizes → IsPlan v.plan → w ≡ window_of_tick me v k
    → is_tick (tick_said me v w.slot 1) k ≡ false → want_at me v k ≡ want.Nothing
want-silent me v w k shape plan is none = by (is_tick (new_epoch_of v.plan me v.state) k) refl
  where
    by : (b : Bool) → is_tick (new_epoch_of v.plan me v.state) k ≡ b → want_at me v k ≡ want.Nothing
    by true e = want-turned me v k shape plan e
    by false e = want-later me v w k e is none

-- a message of stage 1 takes a word if and only if words are said in the slot
first-stage : (sizes : Sizes) (m : Message) (slot : ℕ) → HasPlace m slot 1 → slot_wanted sizes (Some m) ≡ slot_of_words sizes slot
first-stage sizes m slot p =
    ap (λ s. elim ((s == 1) && nat_lt m.slot (first_diagnosis_of Biu sizes)) as (λ _. Option ℕ) [ true ↦ Some m.slot | false ↦ None ]) p.stage_is
    ∙ ap (λ s. elim (nat_lt s (first_diagnosis_of Biu sizes)) as (λ _. Option ℕ) [ true ↦ Some s | false ↦ None ]) p.slot_is

goes-first : (k : ℕ) (m : Option Message) (t : Option ℕ) → is_tick (elim (is_some m) as (λ _. Option ℕ) [ true ↦ t | false ↦ None ]) k ≡ true
    → (x : Message) × (if_at k (sent_at m t) ≡ Some x)
goes-first k None t h = cc
goes-first k (Some m) t h = (m, goes-out k (Some m) t h)

pub want-first : (me : Side) (v : Seated) (w : Window) (k : ℕ) → is_tick (new_epoch_of v.plan me v.state) k ≡ false → w ≡ window_of_tick me v k
    → is_tick (tick_said me v w.slot 1) k ≡ true → want_at me v k ≡ want_for v.sizes (slot_of_words v.sizes w.slot)
want-first me v w k h is says =
    let out = goes-first k (message_said v.sizes me v.index v.state w.slot 1 0) (send_tick_of v.sizes v.plan v.state w.slot 1) says in
    let here : stage_at me v w.slot 1 0 k ≡ Some out.0 = ap (if_at k) (sending-is v.sizes v.plan me v.index v.state w.slot 1 0) ∙ out.1 in
    staying me v w k h is
    ∙ ap (λ m. want_for v.sizes (slot_wanted v.sizes (option_or m (option_or (stage_at me v w.slot 2 0 k) (stage_at me v w.slot 3 0 k))))) here
    ∙ ap (want_for v.sizes) (first-stage v.sizes out.0 w.slot (place-at me v w.slot 1 k out.0 here))

-- The window that starts.

spans : (sizes : Sizes) (plan : Plan) (me : Side) (now : NodeState) (k frame epoch : ℕ) (w : Window) → now.frame ≡ frame → now.epoch ≡ epoch
    → window_here sizes plan me now k ≡ w
    → (elim (now.epoch + (window_here sizes plan me now k).first == k) as (λ _. Option Span) [
      | true ↦ Some (span_of now (window_here sizes plan me now k))
      | false ↦ None
    ])
    ≡ span_if frame epoch w k
spans sizes plan me now k frame epoch w f e is =
    ap (λ (x : Window). elim (now.epoch + x.first == k) as (λ _. Option Span) [ true ↦ Some (span_of now x) | false ↦ None ]) is
    ∙ ap (λ y. span_if now.frame y w k) e ∙ ap (λ y. span_if y epoch w k) f

pub span-staying : (v : Seated) (me : Side) (k : ℕ) (w : Window) → is_tick (new_epoch_of v.plan me v.state) k ≡ false → w ≡ window_of_tick me v k
    → span_from v.sizes v.plan me v.state k ≡ span_if v.state.frame v.state.epoch w k
span-staying v me k w h is =
    spans v.sizes v.plan me (state_at v.sizes v.plan me v.state k) k v.state.frame v.state.epoch w
    (ap (λ (s : NodeState). s.frame) (no-turn v me k h)) (ap (λ (s : NodeState). s.epoch) (no-turn v me k h))
    (ap (λ s. window_here v.sizes v.plan me s k) (no-turn v me k h) ∙ sym is)

pub span-turned : (v : Seated) (me : Side) (k : ℕ) (w : Window) → is_tick (new_epoch_of v.plan me v.state) k ≡ true → window_at v.sizes v.plan 0 ≡ Some w
    → span_from v.sizes v.plan me v.state k ≡ span_if (v.state.frame + 1) k w k
span-turned v me k w h is =
    let st : NodeState = state_at v.sizes v.plan me v.state k in
    let e : st.epoch ≡ k = turned-epoch v me k h in
    let none : k - st.epoch ≡ 0 = omega arith in
    spans v.sizes v.plan me st k (v.state.frame + 1) k w (turned-frame v me k h) e
    (ap (λ o. unwrap_or o (tail_at v.sizes v.plan me st)) (ap (window_at v.sizes v.plan) none ∙ is))

-- What is wanted, by the stage of the message.

one-not : (stage n : ℕ) (b : Bool) → stage ≡ n → (1 == n) ≡ false → stage ≡ 1 → b ≡ true
one-not stage n b e h one = let same : (1 == n) ≡ true = grind (arith, nat_tests) in cc

pub first-is-due : (me : Side) (v : Seated) (slot k stage : ℕ) → SaysIn me v slot k stage → stage ≡ 1 → is_tick (tick_said me v slot 1) k ≡ true
first-is-due me v slot k stage (Silent z a b c) one = one-not stage 0 (is_tick (tick_said me v slot 1) k) z refl one
first-is-due me v slot k stage (First z a) one = a
first-is-due me v slot k stage (Second z a b) one = one-not stage 2 (is_tick (tick_said me v slot 1) k) z refl one
first-is-due me v slot k stage (Third z a b c) one = one-not stage 3 (is_tick (tick_said me v slot 1) k) z refl one

pub first-is-not : (me : Side) (v : Seated) (slot k stage : ℕ) → SaysIn me v slot k stage → (stage ≡ 1 → ⊥) → is_tick (tick_said me v slot 1) k ≡ false
first-is-not me v slot k stage (Silent z a b c) other = a
first-is-not me v slot k stage (First z a) other = absurd (other z)
first-is-not me v slot k stage (Second z a b) other = a
first-is-not me v slot k stage (Third z a b c) other = a
