-- What good ports deliver is the same, so groups come to the same there.
use Rattle.std.proofs.{Common.{◌≡◌, ℕ, zero, suc, ◌==◌, Bool, true, false, inl, inr, Option, Some, None, List, [], ◌++◌, if◌then◌else◌, refl, sym, ◌∙◌, ap, arith}, lemmas.Bool.{cases_lt, eqb-true}}
use Rattle.rb_base.specs.{Nodes.Side.Biu, declared.values.Delivery.Delivery, declared.values.Heard.Heard}
use Rattle.rb_rules.specs.{Book.Record.Slot, Goodness.{Scenario, is_good}, Lawful.IsLawful, Ports.HandIn, Rounds.{moment, steps_of}, Slots.role_of}
use Rattle.rb_rules.proofs.Books.{records-are}
use Rattle.rb_laws_agreement.specs.Values.{lines_in}
use Rattle.rb_laws_agreement.proofs.{Deliveries.owner_sending, Goodnesses.good_earlier}
use Rattle.rb_group.specs.{Groups.group_value, Portions.{deliveries_in, port_deliveries, told_of}}
use Rattle.rb_laws_groups.specs.Laws.{GroupsAgree, IsGoodPort, last_data_slot}
use Rattle.rb_laws_groups.proofs.{Added.{first-told, step-tells, told-more, told_in}, Served.{IsServed, no-owner, one-delivery, served}}

-- the lines of a slot tell the same of two good ports
lines-alike : (sc : Scenario) (frame slot : ℕ) (owner : Option ℕ) (value : Heard) (i j : ℕ) → is_good sc Biu i frame slot ≡ true → is_good sc Biu j frame slot ≡ true
    → deliveries_in frame slot i (lines_in sc frame slot owner value) ≡ deliveries_in frame slot j (lines_in sc frame slot owner value)
lines-alike sc frame slot None value i j good_i good_j = refl
lines-alike sc frame slot (Some owner) value i j good_i good_j = one-delivery sc frame slot owner value i good_i ∙ sym (one-delivery sc frame slot owner value j good_j)

pub no-lines : (sc : Scenario) (frame f slot : ℕ) (owner : Option ℕ) (value : Heard) (i : ℕ) → owner ≡ None → told_of frame i (Slot f slot (lines_in sc f slot owner value)) ≡ []
no-lines sc frame f slot None value i e = by (f == frame)
  where
    by : (b : Bool) → (if b then deliveries_in frame slot i [] else []) ≡ []
    by true = refl
    by false = refl
no-lines sc frame f slot (Some owner) value i e = cc

slot-alike : {sc hands p : _} (frame i j : ℕ) (s : IsServed sc hands p) → IsGoodPort sc frame i → IsGoodPort sc frame j
    → told_of frame i (Slot (moment sc hands p).frame s.slot (lines_in sc (moment sc hands p).frame s.slot (owner_sending (role_of sc.sizes s.slot) s.sender) s.value))
    ≡ told_of frame j (Slot (moment sc hands p).frame s.slot (lines_in sc (moment sc hands p).frame s.slot (owner_sending (role_of sc.sizes s.slot) s.sender) s.value))
slot-alike {sc} {hands} {p} frame i j s good_i good_j =
    elim (cases_lt (last_data_slot sc.sizes) s.slot) [
      | inl past ↦
          let none : owner_sending (role_of sc.sizes s.slot) s.sender ≡ None = no-owner sc.sizes s.slot s.sender (inr (omega arith)) in
          no-lines sc frame (moment sc hands p).frame s.slot (owner_sending (role_of sc.sizes s.slot) s.sender) s.value i none
          ∙ sym (no-lines sc frame (moment sc hands p).frame s.slot (owner_sending (role_of sc.sizes s.slot) s.sender) s.value j none)
      | inr within ↦
          by (moment sc hands p).frame s.slot (owner_sending (role_of sc.sizes s.slot) s.sender) s.value
          (good_earlier sc Biu i frame s.slot (last_data_slot sc.sizes) within good_i) (good_earlier sc Biu j frame s.slot (last_data_slot sc.sizes) within good_j)
    ]
  where
    told : ℕ → ℕ → ℕ → Option ℕ → Heard → Bool → List Delivery
    told f slot k owner value b = if b then deliveries_in frame slot k (lines_in sc f slot owner value) else []

    with_test : (f slot : ℕ) (owner : Option ℕ) (value : Heard) → is_good sc Biu i frame slot ≡ true → is_good sc Biu j frame slot ≡ true
        → (b : Bool) → (f == frame) ≡ b → told f slot i owner value b ≡ told f slot j owner value b
    with_test f slot owner value good_here good_there true e =
        let same : f ≡ frame = eqb-true f frame e in
        ap (λ g. deliveries_in frame slot i (lines_in sc g slot owner value)) same
        ∙ lines-alike sc frame slot owner value i j good_here good_there
        ∙ ap (λ g. deliveries_in frame slot j (lines_in sc g slot owner value)) (sym same)
    with_test f slot owner value good_here good_there false e = refl

    by : (f slot : ℕ) (owner : Option ℕ) (value : Heard) → is_good sc Biu i frame slot ≡ true → is_good sc Biu j frame slot ≡ true
        → told f slot i owner value (f == frame) ≡ told f slot j owner value (f == frame)
    by f slot owner value good_here good_there = with_test f slot owner value good_here good_there (f == frame) refl

-- two good ports have delivered the same at each moment
moments-alike : {sc : _} (hands : List HandIn) → IsLawful sc → (frame i j : ℕ) → IsGoodPort sc frame i → IsGoodPort sc frame j → (p : ℕ)
    → told_in frame i (moment sc hands p).book ≡ told_in frame j (moment sc hands p).book
moments-alike {sc} hands law frame i j good_i good_j zero = first-told sc hands frame i ∙ sym (first-told sc hands frame j)
moments-alike {sc} hands law frame i j good_i good_j (suc p) =
    let before : told_in frame i (moment sc hands p).book ≡ told_in frame j (moment sc hands p).book = moments-alike hands law frame i j good_i good_j p in
    elim (step-tells sc hands (moment sc hands p) frame) [
      | inl none ↦ none i ∙ before ∙ sym (none j)
      | inr adds ↦
          let s : IsServed sc hands p = served hands law p adds in
          ap (port_deliveries frame i) s.given ∙ told-more frame i (moment sc hands p).book.given _
          ∙ ap (λ l. told_in frame i (moment sc hands p).book ++ l) (slot-alike frame i j s good_i good_j)
          ∙ ap (λ l. l ++ told_of frame j (Slot (moment sc hands p).frame s.slot (lines_in sc (moment sc hands p).frame s.slot (owner_sending (role_of sc.sizes s.slot) s.sender) s.value))) before
          ∙ sym (ap (port_deliveries frame j) s.given ∙ told-more frame j (moment sc hands p).book.given _)
    ]

pub groups-agree : GroupsAgree
groups-agree sc hands law which members frame i j good_i good_j =
    ap (group_value which members)
    (ap (port_deliveries frame i) (records-are sc hands)
    ∙ moments-alike hands law frame i j good_i good_j (steps_of sc)
    ∙ ap (port_deliveries frame j) (sym (records-are sc hands)))
