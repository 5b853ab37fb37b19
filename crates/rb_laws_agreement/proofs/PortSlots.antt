-- The port of a good BIU through a slot: it takes what the bus delivers there.
use Rattle.std.proofs.{Common.{◌≡◌, ℕ, suc, ◌+◌, ◌<◌, ◌==◌, ◌&&◌, ◌||◌, nat_le, Bool, true, false, List, [], ◌∷◌, length, map, filter, filter_map, Option, Some, None, option_map, slice_get, get_or, cond, refl, sym, ◌∙◌, ap, subst, arith, zero-add}, lemmas.List.Folds.list_any_at, lemmas.List.FromFn.{get_or-range_with_len, length-range_with_len}}
use Rattle.std.specs.List.{list_any}
use Rattle.rb_base.specs.{Counting.numbers, Nodes.Side, Nodes.Side.Biu, Sizes.{Sizes, sync_slot_of}, declared.values.Heard.Heard}
use Rattle.rb_rules.specs.{declared.record.SlotLine.SlotLine, declared.sense.Sense.Sense, declared.role.Role.Role, declared.role.Role.TheVariants.{Schedule, Data, DiagBiu, DiagRmu, Sync}, Book.{of_kind, line_in}, Goodness.{Scenario, is_good}, Hearing.port_at, Moments.{before_slot, after_slot}, NodeState.NodeState, Ports.{PortState, delivered_to}, Rounds.{Moment, Result, port_after, ports_after, after_window, moment, sent_in, close_on, go_through}, Slots.{Sender, sender_kind, role_of}, SyncStage.{close_sync, sync_outcome_of}}
use Rattle.rb_laws_agreement.specs.{Histories.{value_in_lines, delivered_in, with_delivery}, Values.lines_in}
use Rattle.rb_laws_agreement.proofs.{Tests.{get-some, Present}, Goodnesses.good_counts, Invariant.{sender_of, kind_in, IsGoodNode, is_good_now}, JudgedWindows.{rows_of, row-at}, NodeWindows.{Windows, own_window, kept_in, heard_in, sense_in}, NextMoments.next, Settings.{Setting, good_state}, SecondStages.vote_of, SyncWindows.close-sync, SlotRuns.{IsSlot, good_in_stage, second_frame, third_frame}, SlotValues.{value_of_slot, votes_for}, Deliveries.{owner_sending, delivery_from, line_from, row_after, delivery-2, no-delivery, line-good, line-closed, none-delivered, row-of, lines_2, lines_after_2}, PortLists.port-after}

nothing-delivered : (sizes : Sizes) (me : Side) (st : NodeState) (stage first : ℕ) (sense : ℕ → Sense) → (close_sync sizes me st stage first sense).closed.delivered ≡ None
unfolding close_sync sync_outcome_of
nothing-delivered sizes me st stage first sense = refl

-- One window.

ports-are : (sc : Scenario) (m : Moment) → (next sc m).ports ≡ ports_after (of_kind Biu (rows_of sc m)) m.ports
unfolding after_window
ports-are sc m = refl

-- in a window a BIU's port changes by what the BIU delivered
pub window_port : (sc : Scenario) (m : Moment) (i : ℕ) {st : _} → i < length m.ports → slice_get (of_kind Biu m.nodes) i ≡ Some st
    → port_at sc (next sc m).ports i ≡ port_after (line_in (row_after sc m Biu i st)) (port_at sc m.ports i)
window_port sc m i {st} within is =
    ap (λ ps. port_at sc ps i) (ports-are sc m) ∙ port-after sc (of_kind Biu (rows_of sc m)) m.ports i within
    ∙ ap (λ r. port_after (line_in r) (port_at sc m.ports i))
    (get-some (of_kind Biu (rows_of sc m)) i None (row-at sc m Biu i ∙ ap (option_map (λ st. row_after sc m Biu i st)) is))

-- in the stages 1 and 3 of a slot nothing is delivered
still_port : {sc hands n m s slot q : _} → Setting sc hands n m s slot q → (q + 1 == 2) ≡ false → (i : ℕ)
    → i < length m.ports → is_good_now sc m Biu i ≡ true → port_at sc (next sc m).ports i ≡ port_at sc m.ports i
still_port {sc} {m} {s} {slot} {q} c other_stage i within good =
    let st : Present (slice_get (of_kind Biu m.nodes) i) = good_state c.agree Biu i good in
    let here : IsGoodNode sc m Biu i st.value = record { there = st.is; good = good } in
    window_port sc m i within st.is
    ∙ ap (λ o. port_after o (port_at sc m.ports i)) (line-good c here
    ∙ ap (option_map (line_from i)) (no-delivery Biu st.value slot (role_of sc.sizes slot) (sender_of sc.sizes s slot) (q + 1) (vote_of c Biu i st.value) other_stage))

-- A data slot.

-- some good BIU has a line
first-line : (make : ℕ → SlotLine) (good : ℕ → Bool) (value : Heard) → ((i : ℕ) → (make i).value ≡ value) → (is : List ℕ) → list_any good is ≡ true
    → value_in_lines (map make (filter good is)) ≡ Some value
first-line make good value same [] some = cc
first-line make good value same (i ∷ is) some = go (good i) (first-line make good value same is) some
  where
    go : (b : Bool) → (list_any good is ≡ true → value_in_lines (map make (filter good is)) ≡ Some value) → (b || list_any good is) ≡ true
        → value_in_lines (map make (cond b (i ∷ filter good is) (filter good is))) ≡ Some value
    go true rest h = ap Some (same i)
    go false rest h = rest h

good-any : (sc : Scenario) (frame slot i : ℕ) → is_good sc Biu i frame slot ≡ true → list_any (λ i. is_good sc Biu i frame slot) (numbers sc.sizes.bius) ≡ true
good-any sc frame slot i good =
    let count : i < sc.sizes.bius = good_counts sc Biu i frame slot good in
    let at : get_or (numbers sc.sizes.bius) i 0 ≡ i = get_or-range_with_len 0 sc.sizes.bius i 0 count ∙ zero-add i in
    let long : length (numbers sc.sizes.bius) ≡ sc.sizes.bius = length-range_with_len 0 sc.sizes.bius in
    list_any_at (λ i. is_good sc Biu i frame slot) (numbers sc.sizes.bius) i 0 (omega arith) (ap (λ k. is_good sc Biu k frame slot) at ∙ good)

-- at a good BIU the lines of a slot with an owner have the slot's value
value-lines : (sc : Scenario) (frame slot i : ℕ) (owner : Option ℕ) (value : Heard) → is_good sc Biu i frame slot ≡ true
    → value_in_lines (lines_in sc frame slot owner value) ≡ option_map (λ p. value) owner
value-lines sc frame slot i None value good = refl
value-lines sc frame slot i (Some p) value good =
    first-line (λ i. record { receiver = i; sender = p; value = value }) (λ i. is_good sc Biu i frame slot) value (λ i. refl) (numbers sc.sizes.bius) (good-any sc frame slot i good)

owner-biu : (role : Role) (sender : Sender) {p : ℕ} → owner_sending role sender ≡ Some p → sender_kind role ≡ Biu
owner-biu (Schedule i) sender h = cc
owner-biu (Data n) sender h = refl
owner-biu (DiagBiu i) sender h = cc
owner-biu (DiagRmu i) sender h = cc
owner-biu Sync sender h = cc

-- a port takes the slot's value if the slot has an owner
delivered-port : (i slot : ℕ) (st : NodeState) (vote value : Heard) (owner : Option ℕ) (port : PortState) → ((p : ℕ) → owner ≡ Some p → vote ≡ value)
    → port_after (option_map (line_from i) (option_map (delivery_from st slot vote) owner)) port ≡ with_delivery (option_map (λ p. value) owner) port
delivered-port i slot st vote value None port same = refl
delivered-port i slot st vote value (Some p) port same = ap (delivered_to port) (same p refl)

-- what the bus delivers in a slot is its value, if it has an owner
delivered-is : {sc hands frame slot : _} (r : IsSlot sc hands frame slot) (i : ℕ) → is_good sc Biu i frame slot ≡ true
    → delivered_in sc hands frame slot ≡ option_map (λ p. value_of_slot r) (owner_sending (role_of sc.sizes slot) (sender_of sc.sizes r.shared slot))
delivered-is {sc} {hands} {frame} {slot} r i good =
    let m : Moment = next sc (before_slot sc hands frame slot) in
    let owner : Option ℕ = owner_sending (role_of sc.sizes slot) (sender_of sc.sizes r.shared slot) in
    let value : Heard = value_of_slot r in
    ap (λ m. value_in_lines m.book.lines) (sym r.after_second)
    ∙ ap value_in_lines (lines_after_2 r.second
    ∙ lines_2 r.second value (λ i st here. votes_for r here))
    ∙ ap (λ f. value_in_lines (lines_in sc f slot owner value)) (second_frame r)
    ∙ value-lines sc frame slot i owner value good

-- what a good BIU delivers in stage 2 is what the bus delivers
second_port : {sc hands frame slot : _} (r : IsSlot sc hands frame slot) (i : ℕ) → i < length (next sc (before_slot sc hands frame slot)).ports
    → is_good sc Biu i frame slot ≡ true
    → port_at sc (next sc (next sc (before_slot sc hands frame slot))).ports i
    ≡ with_delivery (delivered_in sc hands frame slot) (port_at sc (next sc (before_slot sc hands frame slot)).ports i)
second_port {sc} {hands} {frame} {slot} r i within good =
    let m : Moment = next sc (before_slot sc hands frame slot) in
    let role : Role = role_of sc.sizes slot in
    let owner : Option ℕ = owner_sending role (sender_of sc.sizes r.shared slot) in
    let value : Heard = value_of_slot r in
    let now_good : is_good_now sc m Biu i ≡ true = good_in_stage r.second (second_frame r) Biu i good in
    let st : Present (slice_get (of_kind Biu m.nodes) i) = good_state r.second.agree Biu i now_good in
    let here : IsGoodNode sc m Biu i st.value = record { there = st.is; good = now_good } in
    let vote : Heard = vote_of r.second Biu i st.value in
    let same : (p : ℕ) → owner ≡ Some p → vote ≡ value =
    λ p e.
    let biu : kind_in sc.sizes slot ≡ Biu = owner-biu role (sender_of sc.sizes r.shared slot) e in
    ap (λ k. vote_of r.second k i st.value) (sym biu)
    ∙ votes_for r (subst (λ k. IsGoodNode sc m k i st.value) (sym biu) here) in
    window_port sc m i within st.is
    ∙ ap (λ o. port_after o (port_at sc m.ports i)) (line-good r.second here
    ∙ ap (option_map (line_from i)) (delivery-2 st.value slot role (sender_of sc.sizes r.shared slot) vote))
    ∙ delivered-port i slot st.value vote value owner (port_at sc m.ports i) same
    ∙ ap (λ o. with_delivery o (port_at sc m.ports i)) (sym (delivered-is r i good))

-- through a slot below the sync slot a good BIU's port takes what the bus delivers
pub slot_port : {sc hands frame slot : _} (r : IsSlot sc hands frame slot) (i : ℕ)
    → ((n : ℕ) → length (moment sc hands n).ports ≡ sc.sizes.bius) → is_good sc Biu i frame slot ≡ true
    → port_at sc (after_slot sc hands frame slot).ports i ≡ with_delivery (delivered_in sc hands frame slot) (port_at sc (before_slot sc hands frame slot).ports i)
slot_port {sc} {hands} {frame} {slot} r i long good =
    let m1 : Moment = before_slot sc hands frame slot in
    let m2 : Moment = next sc m1 in
    let m3 : Moment = next sc m2 in
    let count : i < sc.sizes.bius = good_counts sc Biu i frame slot good in
    let within : (m : Moment) (n : ℕ) → m ≡ moment sc hands n → i < length m.ports =
    λ m n e. less (length m.ports) sc.sizes.bius i (ap (λ m. length m.ports) e ∙ long n) count in
    let good_1 : is_good_now sc m1 Biu i ≡ true = good_in_stage r.first r.frame_is Biu i good in
    let good_3 : is_good_now sc m3 Biu i ≡ true = good_in_stage r.third (third_frame r) Biu i good in
    ap (λ m. port_at sc m.ports i) (sym r.after_third)
    ∙ still_port r.third refl i (within m3 (suc (suc r.steps)) r.third.agree.is) good_3
    ∙ second_port r i (within m2 (suc r.steps) r.second.agree.is) good
    ∙ ap (with_delivery (delivered_in sc hands frame slot)) (still_port r.first refl i (within m1 r.steps r.first.agree.is) good_1)
  where
    less : (a b i : ℕ) → a ≡ b → i < b → i < a
    less a b i e h = omega arith

-- The sync slot.

-- nobody delivers anything in the sync slot or in the tail
sync-line : {sc m stage : _} (ws : Windows sc m (sync_slot_of sc.sizes) stage) (i : ℕ) (st : NodeState) → line_in (row_after sc m Biu i st) ≡ None
unfolding go_through
sync-line {sc} {m} {stage} ws i st =
    ap (λ w. line_in (go_through sc m (sent_in sc m) Biu i st w).row) (ws.are Biu st)
    ∙ go (is_good sc Biu i m.frame (sync_slot_of sc.sizes) && nat_le (ws.first Biu st) (ws.last Biu st))
  where
    closed : line_in (close_on sc Biu i (kept_in sc m (sync_slot_of sc.sizes) stage Biu i st) (own_window ws Biu st) (heard_in ws Biu i st)).row ≡ None
    closed =
        line-closed ws Biu i st
        ∙ ap (λ x. option_map (line_from i) x.closed.delivered)
        (close-sync sc.sizes Biu i (kept_in sc m (sync_slot_of sc.sizes) stage Biu i st) stage (ws.first Biu st) (sense_in ws Biu i st))
        ∙ ap (option_map (line_from i)) (nothing-delivered sc.sizes Biu (kept_in sc m (sync_slot_of sc.sizes) stage Biu i st) stage _ (sense_in ws Biu i st))

    go : (b : Bool)
        → line_in (elim b as (λ _. Result) [
          | true ↦ close_on sc Biu i (kept_in sc m (sync_slot_of sc.sizes) stage Biu i st) (own_window ws Biu st) (heard_in ws Biu i st)
          | false ↦ record { state = st; row = None }
        ]).row ≡ None
    go true = closed
    go false = refl

-- ports stay
pub sync_port : {sc m stage : _} (ws : Windows sc m (sync_slot_of sc.sizes) stage) (i : ℕ) {st : _} → i < length m.ports
    → slice_get (of_kind Biu m.nodes) i ≡ Some st → port_at sc (next sc m).ports i ≡ port_at sc m.ports i
sync_port {sc} {m} ws i {st} within is =
    window_port sc m i within is ∙ ap (λ o. port_after o (port_at sc m.ports i)) (sync-line ws i st)

-- the sync slot and the tail have no lines
pub sync_lines : {sc m stage : _} (ws : Windows sc m (sync_slot_of sc.sizes) stage) → filter_map line_in (of_kind Biu (rows_of sc m)) ≡ []
sync_lines {sc} {m} ws =
    none-delivered line_in (of_kind Biu (rows_of sc m))
    (row-of ws (λ i o. o ≡ None) (λ i st is. sync-line ws i st))
