-- The close of a stage in which the node does not listen.
use Rattle.std.proofs.Common.{◌≡◌, ℕ, zero, suc, Bool, true, false, ◌==◌, ◌&&◌, not, if◌then◌else◌, Option, Some, None, get_or, map, replicate, refl, sym, ◌∙◌, ap}
use Rattle.std.specs.Prelude.{slice_set}
use Rattle.rb_base.specs.{Nodes.{Side, has}, declared.values.Delivery.Delivery, declared.values.Heard.Heard}
use Rattle.rb_base.proofs.{Plain.and-false, Sets.has_none}
use Rattle.rb_rules.specs.{declared.closing.Closed.Closed, declared.closing.Closing.Closing, declared.role.Role.Role, declared.role.Role.TheVariants.Data, declared.sense.Sense.Sense, ExactStage.{close_exact, closing_of, compare_with, delivery_of, is_sender, owners_after, reference_value, see_value, taken_of_sender}, NodeState.{NodeState, sender_at}, Sense.value_in, Slots.{Sender, expects, listens, role_of, same_side, sender_kind}, Slots.Sender.{Nobody, Node, EachTrusted}, Standing.{Standing, has_evidence, taken_of, with_evidence}}
use Rattle.rb_rules.proofs.{ExactStages.same_each_node, Standings.unexpected_not_taken}
use Rattle.rb_slot.specs.Engines.{Seated}
use Rattle.rb_slot.proofs.{Masks.unheard_is, Stages.{Steps, closing_in, evidence_in, shows_so}}

-- every place of an empty row is empty
none_at : (n i : ℕ) → ◌≡◌ {A = Option Heard} (get_or (replicate n None) i None) None
none_at zero i = refl
none_at (suc n) zero = refl
none_at (suc n) (suc i) = none_at n i

idle_taken : (s : Standing) (sense : ℕ → Sense) (sender : Sender) → taken_of_sender sender (closing_of s (has 0) sense) ≡ None
idle_taken s sense Nobody = refl
idle_taken s sense (Node i) =
    ap (λ taken. get_or taken i None)
    (same_each_node (taken_of value_in s (has 0) sense) (λ j. None) (λ j below. unexpected_not_taken value_in s (has 0) sense j (has_none j)))
    ∙ none_at 16 i
idle_taken s sense EachTrusted = refl

-- a node that does not listen is no sender that has heard its own word back
not_sender : (two same equal third : Bool) → (if same then two else third) ≡ false → (two && (same && equal)) ≡ false
not_sender two true equal third idle = ap (λ b. b && equal) idle
not_sender two false equal third idle = and-false two

idle_sender : (me : Side) (index : ℕ) (role : Role) (sender : Sender) (stage : ℕ) → listens me role stage ≡ false
    → ((stage == 2) && is_sender me index role sender) ≡ false
idle_sender me index role Nobody stage idle = and-false (stage == 2)
idle_sender me index role (Node i) stage idle = not_sender (stage == 2) (same_side me (sender_kind role)) (index == i) _ idle
idle_sender me index role EachTrusted stage idle = and-false (stage == 2)

idle_reference : (me : Side) (index : ℕ) (st : NodeState) (role : Role) (sender : Sender) (stage : ℕ) (c : Closing) → listens me role stage ≡ false
    → reference_value me index st role sender stage c ≡ None
idle_reference me index st role sender stage c idle =
    ap (λ b. if b then st.sent else (if (stage == 3) && (listens me role stage && not (stage == 1)) then Some c.voted else None)) (idle_sender me index role sender stage idle)
    ∙ ap (λ l. if (stage == 3) && (l && not (stage == 1)) then Some c.voted else None) idle
    ∙ ap (λ b. if b then Some c.voted else None) (and-false (stage == 3))

-- a node that does not listen delivers nothing
idle_delivery : (me : Side) (st : NodeState) (slot : ℕ) (role : Role) (sender : Sender) (stage : ℕ) (voted : Heard) → listens me role stage ≡ false
    → delivery_of me st slot role sender stage voted ≡ None
idle_delivery Side.Biu st slot (Data n) (Node i) stage voted idle =
    ap (λ b. if b then Some (record { frame = st.frame; slot = slot; sender = i; value = voted }) else None) idle
idle_delivery me st slot role sender stage voted idle = refl

-- the state with the owners, and what is kept
abbrev pub owned_state : Side → ℕ → ℕ → Seated → Seated
owned_state me slot stage v = record v { state = record v.state { owners = owners_after v.sizes me v.state slot stage v.state.votes } }

-- the close of a node that does not listen takes nothing, and finds the owners and what is kept
pub idle_steps : (me : Side) (slot stage : ℕ) (c : Closing) (sense : ℕ → Sense) (v0 v1 v2 : Seated)
    → listens me (role_of v0.sizes slot) stage ≡ false
    → c ≡ closing_of v0.state.far (has 0) sense
    → v1 ≡ record v0 { state = record v0.state { far = with_evidence (has_evidence v0.state.far (has 0) sense) v0.state.far } }
    → v2 ≡ record v1 {
      state = record v1.state {
        owners = owners_after v1.sizes me v1.state slot stage v1.state.votes;
        sent = if stage == 2 then None else v1.state.sent;
        got = if stage == 1 then None else v1.state.got;
      };
    }
    → Steps me slot stage (role_of v0.sizes slot) (sender_at v0.sizes me v0.state slot) c sense v0 v1 v1 (owned_state me slot stage v1) (owned_state me slot stage v1) v2
idle_steps me slot stage c sense v0 v1 v2 idle closed taken passed =
    let v : Seated = owned_state me slot stage v1 in
    let role : Role = role_of v0.sizes slot in
    let sender : Sender = sender_at v0.sizes me v0.state slot in
    let far : Standing = v0.state.far in
    let p : ℕ → Bool = expects me role sender far.trusted stage in
    let nobody = unheard_is me role sender far.trusted stage idle in
    let nothing : None ≡ taken_of_sender sender c = sym (ap (taken_of_sender sender) closed ∙ idle_taken far sense sender) in
    record {
      role_is = refl;
      sender_is = refl;
      closing_is = closed ∙ closing_in far p sense 0 nobody;
      taken = taken ∙ ap (λ (s : Standing). record v0 { state = record v0.state { far = s } }) (evidence_in far p sense 0 nobody);
      voted = sym (ap (λ (b : Bool). record v1 { state = record v1.state { votes = if b && not (stage == 1) then slice_set v1.state.votes slot c.voted else v1.state.votes } }) idle);
      owned = refl;
      matched = sym (ap (λ (o : Option Heard). record v { state = record v.state { far = compare_with o c v.state.far } })
          (idle_reference me v.index v.state role sender stage c idle));
      left = passed ∙ ap (λ (o : Option Heard). record v { state = record v.state { sent = if stage == 2 then None else v.state.sent; got = if stage == 1 then o else v.state.got } }) nothing;
    }

-- the close of a node that does not listen shows what the rules have it show
pub idle_shows : (me : Side) (slot stage frame : ℕ) (c : Closing) (sense : ℕ → Sense) (v0 v1 v2 v3 v4 v5 : Seated)
    → listens me (role_of v0.sizes slot) stage ≡ false
    → Steps me slot stage (role_of v0.sizes slot) (sender_at v0.sizes me v0.state slot) c sense v0 v1 v2 v3 v4 v5
    → frame ≡ v5.state.frame
    → ◌≡◌ {A = Closed} (record { place = record { frame = frame; slot = slot; stage = stage }; sees = map see_value c.taken; delivered = None })
    (close_exact v0.sizes me v0.index v0.state slot stage sense).closed
idle_shows me slot stage frame c sense v0 v1 v2 v3 v4 v5 idle steps same =
    let role : Role = role_of v0.sizes slot in
    let sender : Sender = sender_at v0.sizes me v0.state slot in
    let closed : ℕ → Option Delivery → Closed = λ f d. record { place = record { frame = f; slot = slot; stage = stage }; sees = map see_value c.taken; delivered = d } in
    ap (λ f. closed f None) same ∙ ap (closed v5.state.frame) (sym (idle_delivery me v5.state slot role sender stage c.voted idle))
    ∙ shows_so me slot stage role sender c sense v0 v1 v2 v3 v4 v5 steps
