-- A listener tells one frame after another: each with one tick, and not before the end of stage 2
-- of the sync slot of the one before.
use Rattle.std.proofs.{Common.{◌≡◌, ◌⊎◌, ℕ, zero, suc, ◌+◌, ◌-◌, ◌^◌, ◌<◌, ◌≤◌, ◌==◌, Bool, true, false, ◌++◌, Option, Some, None, inl, inr, refl, sym, ◌∙◌, ap, subst, arith}, lemmas.Bool.{cases_lt, eqb-true}, lemmas.Bool.Decides.nat_tests}
use Rattle.rb_base.specs.Nodes.Side.{Biu}
use Rattle.rb_rules.specs.{declared.record.Epoch.Epoch, Core.{Act, Core, act_on, epoch_at, state_at}, Goodness.Scenario, Hearing.epoch_of, NodeState.NodeState, SyncStage.new_epoch_of}
use Rattle.rb_laws_events.proofs.TurnTicks.{no-next}
use Rattle.rb_listen.specs.{Following.follow, Listening.{Heeding, Listening, first_core, followed, heed, is_over, no_heed, search_on, untold, wait_on}, declared.lesson.First.First, declared.search.Search.Search}
use Rattle.rb_laws_listener_learns.specs.{Ears.{Ear, hears, listening_at, told_at}, Waiting.WaitsFor}
use Rattle.rb_laws_listener_follows.proofs.{BeforeFirst.{Follows, hears_on, later_follows}, EpochKnown.{TickKeeps, Turns, second_end, tick_keeps, turns_or_stays}, FollowerRuns.{acts_by, arrivals, hears_all, heeds_core}, Tellings.tells_epoch}
use Rattle.rb_listen.specs.Listening as now

-- ---- what it told before a tick

-- Before tick k the listener follows a frame whose start it told with an earlier tick. All frames
-- that it told before are of no higher number. Its next epoch is not known before the end of stage
-- 2 of the sync slot, and stays from then on
pub record IsSince (sc : Scenario) (ear : Ear) (k : ℕ) : Type 0 where
  pub core : Core
  pub here : listening_at sc ear k ≡ now.Following core
  pub had : core.had ≡ k
  pub begun : ℕ
  pub before : begun < k
  pub e : Epoch
  pub told : (told_at sc ear begun).epoch ≡ Some e
  pub frame_is : e.frame ≡ core.state.frame
  pub epoch_is : core.state.epoch ≡ begun
  pub most : (i : ℕ) (d : Epoch) → i < k → (told_at sc ear i).epoch ≡ Some d → d.frame ≤ core.state.frame
  pub early : (new_epoch_of sc.plan Biu core.state ≡ None) ⊎ (begun + second_end sc.sizes sc.plan ≤ k)
  pub keeps : (t : ℕ) (c : Core) → begun + second_end sc.sizes sc.plan ≤ t → t ≤ k → listening_at sc ear t ≡ now.Following c → new_epoch_of sc.plan Biu c.state ≡ new_epoch_of sc.plan Biu core.state

pub record IsIn (sc : Scenario) (ear : Ear) (k : ℕ) (st : NodeState) : Type 0 where
  pub begun : ℕ
  pub up_to : begun ≤ k
  pub e : Epoch
  pub told : (told_at sc ear begun).epoch ≡ Some e
  pub frame_is : e.frame ≡ st.frame
  pub epoch_is : st.epoch ≡ begun
  pub most : (i : ℕ) (d : Epoch) → i ≤ k → (told_at sc ear i).epoch ≡ Some d → d.frame ≤ st.frame
  pub early : (new_epoch_of sc.plan Biu st ≡ None) ⊎ (begun + second_end sc.sizes sc.plan ≤ k)
  pub keeps : (t : ℕ) (c : Core) → begun + second_end sc.sizes sc.plan ≤ t → t ≤ k → listening_at sc ear t ≡ now.Following c → new_epoch_of sc.plan Biu c.state ≡ new_epoch_of sc.plan Biu st

pub same_core : (c d : Core) → now.Following c ≡ now.Following d → c ≡ d
same_core c d h = cc

same_epoch : {a b : Epoch} → Some a ≡ Some b → a ≡ b
same_epoch h = cc

-- at its epoch a node tells the start of its frame
at_epoch : (sc : Scenario) (st : NodeState) {k : ℕ} → st.epoch ≡ k → epoch_at sc.sizes Biu st k ≡ Some (epoch_of sc.sizes Biu st)
at_epoch sc st {k} e = ap (λ (b : Bool). elim b as (λ _. Option Epoch) [ true ↦ Some (epoch_of sc.sizes Biu st) | false ↦ None ]) (let t : (st.epoch == k) ≡ true = grind (arith, nat_tests, e) in t)

past_epoch : (sc : Scenario) (st : NodeState) (k : ℕ) {d : _} → epoch_at sc.sizes Biu st k ≡ Some d → (st.epoch ≡ k) × (d.frame ≡ st.frame)
past_epoch sc st k {d} h = go (st.epoch == k) refl h
  where
    go : (b : Bool) → (st.epoch == k) ≡ b → (elim b as (λ _. Option Epoch) [ true ↦ Some (epoch_of sc.sizes Biu st) | false ↦ None ]) ≡ Some d → (st.epoch ≡ k) × (d.frame ≡ st.frame)
    go true e h = (eqb-true st.epoch k e, sym (ap (λ (x : Epoch). x.frame) (same_epoch h)))
    go false e h = cc

-- ---- a tick

-- if `IsIn` holds at a tick, `IsSince` holds before the next one
since_next : {sc ear k : _} (c : Core) {st : _} → heed sc.sizes sc.plan (listening_at sc ear k) ≡ followed (follow sc.sizes sc.plan c) → c.had ≡ k → suc k < 2 ^ 31
    → state_at sc.sizes sc.plan Biu c.state k ≡ st → 1 ≤ second_end sc.sizes sc.plan → IsIn sc ear k st → IsSince sc ear (suc k)
since_next {sc} {ear} {k} c {st} is had below at some x = record {
  core = core;
  here = here;
  had = had_is;
  begun = x.begun;
  before = omega (arith, x.up_to);
  e = x.e;
  told = x.told;
  frame_is = x.frame_is ∙ sym kept.frame;
  epoch_is = kept.epoch ∙ x.epoch_is;
  most = λ i d lt told. subst (λ f. d.frame ≤ f) (sym kept.frame) (x.most i d (omega (arith, lt)) told);
  early = elim kept.known [ inl same ↦ before_too same x.early | inr last ↦ inr (omega (arith, last, x.epoch_is, had, some)) ];
  keeps = stays;
}
  where
    a : Act
    a = act_on sc.sizes sc.plan Biu 16 c st None st

    kept : TickKeeps sc.sizes sc.plan st c.had (act_on sc.sizes sc.plan Biu 16 c st None st)
    kept = tick_keeps sc.sizes sc.plan c st

    core : Core
    core = record { state = a.core.state; had = a.core.had; inbox = a.core.inbox ++ arrivals sc.sizes a.core.had (ear.heard (suc k)) }

    had_is : (act_on sc.sizes sc.plan Biu 16 c st None st).core.had ≡ suc k
    had_is = kept.had ∙ omega (arith, had)

    acts : follow sc.sizes sc.plan c ≡ act_on sc.sizes sc.plan Biu 16 c st None st
    acts = acts_by sc.sizes sc.plan c (omega (arith, below, had)) (ap (state_at sc.sizes sc.plan Biu c.state) had ∙ at)

    here : listening_at sc ear (suc k) ≡ now.Following (record { state = (act_on sc.sizes sc.plan Biu 16 c st None st).core.state; had = (act_on sc.sizes sc.plan Biu 16 c st None st).core.had; inbox = (act_on sc.sizes sc.plan Biu 16 c st None st).core.inbox ++ arrivals sc.sizes (act_on sc.sizes sc.plan Biu 16 c st None st).core.had (ear.heard (suc k)) })
    here =
        ap (λ y. hears sc (ear.heard (suc k)) y.listening) is
        ∙ ap (λ y. hears sc (ear.heard (suc k)) (now.Following y.core)) acts
        ∙ hears_all sc (ear.heard (suc k)) (act_on sc.sizes sc.plan Biu 16 c st None st).core (omega (arith, below, had_is))

    before_too : new_epoch_of sc.plan Biu (act_on sc.sizes sc.plan Biu 16 c st None st).core.state ≡ new_epoch_of sc.plan Biu st
        → (new_epoch_of sc.plan Biu st ≡ None) ⊎ (x.begun + second_end sc.sizes sc.plan ≤ k)
        → (new_epoch_of sc.plan Biu (act_on sc.sizes sc.plan Biu 16 c st None st).core.state ≡ None) ⊎ (x.begun + second_end sc.sizes sc.plan ≤ suc k)
    before_too same (inl none) = inl (same ∙ none)
    before_too same (inr past) = inr (omega (arith, past))

    stays : (t : ℕ) (d : Core) → x.begun + second_end sc.sizes sc.plan ≤ t → t ≤ suc k → listening_at sc ear t ≡ now.Following d
        → new_epoch_of sc.plan Biu d.state ≡ new_epoch_of sc.plan Biu (act_on sc.sizes sc.plan Biu 16 c st None st).core.state
    stays t d from le there = elim (cases_lt k t) [
      | inl late ↦
          let e : t ≡ suc k = omega (arith, late, le) in
          let both : now.Following d ≡ now.Following core = sym there ∙ ap (listening_at sc ear) e ∙ here in
          ap (λ (y : Core). new_epoch_of sc.plan Biu y.state) (same_core d core both)
      | inr early ↦ elim kept.known [
        | inl same ↦ x.keeps t d from early there ∙ sym same
        | inr last ↦ absurd (omega (arith, last, x.epoch_is, had, some, from, early))
      ]
    ]

-- if `IsSince` holds before a tick, `IsIn` holds at it
pub in_state : {sc : Scenario} {ear : Ear} {k : ℕ} → k < 2 ^ 31 → 1 ≤ second_end sc.sizes sc.plan → (x : IsSince sc ear k) → IsIn sc ear k (state_at sc.sizes sc.plan Biu x.core.state k)
in_state {sc} {ear} {k} below some x = elim (turns_or_stays sc.sizes sc.plan x.core.state k) [ inl t ↦ turns t | inr same ↦ stays same ]
  where
    heeds : heed sc.sizes sc.plan (listening_at sc ear k) ≡ followed (follow sc.sizes sc.plan x.core)
    heeds = heeds_core sc ear k x.core x.here

    told : (told_at sc ear k).epoch ≡ epoch_at sc.sizes Biu (state_at sc.sizes sc.plan Biu x.core.state k) k
    told = subst (λ h. (told_at sc ear k).epoch ≡ epoch_at sc.sizes Biu (state_at sc.sizes sc.plan Biu x.core.state h) h) x.had
        (tells_epoch sc ear k x.core heeds (omega (arith, below, x.had)) refl)

    turns : Turns sc.sizes sc.plan x.core.state (state_at sc.sizes sc.plan Biu x.core.state k) k → IsIn sc ear k (state_at sc.sizes sc.plan Biu x.core.state k)
    turns t = record {
      begun = k;
      up_to = omega arith;
      e = epoch_of sc.sizes Biu (state_at sc.sizes sc.plan Biu x.core.state k);
      told = told ∙ at_epoch sc (state_at sc.sizes sc.plan Biu x.core.state k) t.epoch;
      frame_is = refl;
      epoch_is = t.epoch;
      most = λ i d le is. elim (cases_lt i k) [
        | inl less ↦ let m : d.frame ≤ x.core.state.frame = x.most i d less is in omega (arith, m, t.frame)
        | inr ge ↦
            let e : i ≡ k = omega (arith, ge, le) in
            let f : d.frame ≡ (state_at sc.sizes sc.plan Biu x.core.state k).frame =
            (past_epoch sc (state_at sc.sizes sc.plan Biu x.core.state k) k (sym told ∙ ap (λ n. (told_at sc ear n).epoch) (sym e) ∙ is)).1 in
            omega (arith, f)
      ];
      early = inl t.unknown;
      keeps = λ u d from le there. absurd (omega (arith, from, le, some));
    }

    stays : state_at sc.sizes sc.plan Biu x.core.state k ≡ x.core.state → IsIn sc ear k (state_at sc.sizes sc.plan Biu x.core.state k)
    stays same = subst (IsIn sc ear k) (sym same) (record {
      begun = x.begun;
      up_to = omega (arith, x.before);
      e = x.e;
      told = x.told;
      frame_is = x.frame_is;
      epoch_is = x.epoch_is;
      most = λ i d le is. elim (cases_lt i k) [
        | inl less ↦ x.most i d less is
        | inr ge ↦
            let e : i ≡ k = omega (arith, ge, le) in
            let now_told : epoch_at sc.sizes Biu x.core.state k ≡ Some d = sym (ap (λ s. epoch_at sc.sizes Biu s k) same) ∙ sym told ∙ ap (λ n. (told_at sc ear n).epoch) (sym e) ∙ is in
            let p : (x.core.state.epoch ≡ k) × (d.frame ≡ x.core.state.frame) = past_epoch sc x.core.state k now_told in
            omega (arith, p.1)
      ];
      early = x.early;
      keeps = x.keeps;
    })

-- ---- all ticks from the first epoch on

-- the listener has learned with this tick and waits for its first frame
pub record WaitsFirst (sc : Scenario) (ear : Ear) (tick : ℕ) (s : Search) (first : First) : Type 0 where
  pub searching : listening_at sc ear tick ≡ now.Searching s
  pub waits : WaitsFor sc ear tick first
  pub ticks : ear.ticks ≤ 2 ^ 31
  pub some : 1 ≤ second_end sc.sizes sc.plan
  pub some_l : 1 ≤ sc.plan.l

first-unknown : (sc : Scenario) (first : First) → new_epoch_of sc.plan Biu (first_core sc.sizes first).state ≡ None
first-unknown sc first = refl

-- ---- before the first epoch it tells nothing

searching-tells : (sc : Scenario) (s : Search) → (heed sc.sizes sc.plan (now.Searching s)).heed ≡ no_heed
unfolding heed
searching-tells sc s = go (is_over s.had)
  where
    go : (b : Bool) → (elim b as (λ _. Heeding) [ true ↦ untold (now.Searching s) | false ↦ untold (search_on sc.sizes sc.plan s) ]).heed ≡ no_heed
    go true = refl
    go false = refl

waiting-tells : (sc : Scenario) (had : ℕ) (first : First) → (first.epoch == had) ≡ false → (heed sc.sizes sc.plan (now.Waiting had first)).heed ≡ no_heed
unfolding heed
waiting-tells sc had first other = go (is_over had)
  where
    go : (b : Bool) → (elim b as (λ _. Heeding) [ true ↦ untold (now.Waiting had first) | false ↦ wait_on sc.sizes sc.plan had first (first.epoch == had) ]).heed ≡ no_heed
    go true = refl
    go false = ap (λ c. (wait_on sc.sizes sc.plan had first c).heed) other

-- a listener that waits tells nothing, or follows
begins-follow : (sc : Scenario) (had : ℕ) (first : First)
    → ((heed sc.sizes sc.plan (now.Waiting had first)).heed ≡ no_heed) ⊎ Follows (heed sc.sizes sc.plan (now.Waiting had first)).listening
unfolding heed
begins-follow sc had first = go (is_over had)
  where
    begins : (c : Bool) → ((wait_on sc.sizes sc.plan had first c).heed ≡ no_heed) ⊎ Follows (wait_on sc.sizes sc.plan had first c).listening
    begins true = inr (record { core = (follow sc.sizes sc.plan (first_core sc.sizes first)).core; is = refl })
    begins false = inl refl

    go : (b : Bool)
        → ((elim b as (λ _. Heeding) [ true ↦ untold (now.Waiting had first) | false ↦ wait_on sc.sizes sc.plan had first (first.epoch == had) ]).heed ≡ no_heed)
        ⊎ Follows (elim b as (λ _. Heeding) [ true ↦ untold (now.Waiting had first) | false ↦ wait_on sc.sizes sc.plan had first (first.epoch == had) ]).listening
    go true = inl refl
    go false = begins (first.epoch == had)

goes-follow : (sc : Scenario) (c : Core) → Follows (heed sc.sizes sc.plan (now.Following c)).listening
unfolding heed
goes-follow sc c = record { core = (follow sc.sizes sc.plan c).core; is = refl }

quiet_or_follows : (sc : Scenario) (l : Listening) → ((heed sc.sizes sc.plan l).heed ≡ no_heed) ⊎ Follows (heed sc.sizes sc.plan l).listening
quiet_or_follows sc (now.Searching s) = inl (searching-tells sc s)
quiet_or_follows sc (now.Waiting had first) = begins-follow sc had first
quiet_or_follows sc (now.Following c) = inr (goes-follow sc c)

-- a listener that searches at a tick followed at no earlier tick
not-searching : (sc : Scenario) (ear : Ear) (tick : ℕ) (s : Search) (k : ℕ) → listening_at sc ear tick ≡ now.Searching s → k < tick → Follows (heed sc.sizes sc.plan (listening_at sc ear k)).listening → ⊥
not-searching sc ear tick s k searching before f =
    let next : Follows (listening_at sc ear (suc k)) = subst (λ l. Follows (hears sc (ear.heard (suc k)) l)) (sym f.is) (hears_on sc (ear.heard (suc k)) f.core) in
    let at : (tick - suc k) + suc k ≡ tick = omega (arith, before) in
    let then_on : Follows (listening_at sc ear tick) = subst (λ t. Follows (listening_at sc ear t)) at (later_follows sc ear (suc k) next (tick - suc k)) in
    let both : now.Searching s ≡ now.Following then_on.core = sym searching ∙ then_on.is in cc

pub quiet_before : {sc ear tick s first : _} → WaitsFirst sc ear tick s first → (k : ℕ) → k < ear.ticks → k < first.epoch → told_at sc ear k ≡ no_heed
quiet_before {sc} {ear} {tick} {s} {first} w k in_time less = elim (cases_lt tick k) [
  | inl after ↦
      ap (λ l. (heed sc.sizes sc.plan l).heed) (w.waits.waits k after (omega (arith, less)) in_time)
      ∙ waiting-tells sc k first (let t : (first.epoch == k) ≡ false = grind (arith, nat_tests, less) in t)
  | inr le ↦ elim (cases_lt k tick) [
    | inl before ↦ elim (quiet_or_follows sc (listening_at sc ear k)) [ inl quiet ↦ quiet | inr f ↦ absurd (not-searching sc ear tick s k w.searching before f) ]
    | inr ge ↦
        let same : k ≡ tick = omega (arith, le, ge) in
        ap (λ l. (heed sc.sizes sc.plan l).heed) (ap (listening_at sc ear) same ∙ w.searching) ∙ searching-tells sc s
  ]
]

not_before : {sc ear tick s first : _} → WaitsFirst sc ear tick s first → (k : ℕ) {e : _} → k < ear.ticks → (told_at sc ear k).epoch ≡ Some e → first.epoch ≤ k
not_before {first} w k {e} in_time told = elim (cases_lt k first.epoch) [
  | inl less ↦ let both : None ≡ Some e = sym (ap (λ h. h.epoch) (quiet_before w k in_time less)) ∙ told in cc
  | inr ge ↦ ge
]

-- ---- from the first epoch on

pub first_told : {sc ear tick s first : _} → WaitsFirst sc ear tick s first → first.epoch < ear.ticks
    → (told_at sc ear first.epoch).epoch ≡ epoch_at sc.sizes Biu (first_core sc.sizes first).state first.epoch
first_told {sc} {ear} {first} w in_time =
    tells_epoch sc ear first.epoch (first_core sc.sizes first) (w.waits.begins in_time) (omega (arith, in_time, w.ticks))
    (no-next sc.sizes sc.plan Biu (first_core sc.sizes first).state first.epoch (first-unknown sc first))

first_in : {sc ear tick s first : _} → WaitsFirst sc ear tick s first → first.epoch < ear.ticks → IsIn sc ear first.epoch (first_core sc.sizes first).state
first_in {sc} {ear} {first} w in_time = record {
  begun = first.epoch;
  up_to = omega arith;
  e = epoch_of sc.sizes Biu (first_core sc.sizes first).state;
  told = first_told w in_time ∙ at_epoch sc (first_core sc.sizes first).state refl;
  frame_is = refl;
  epoch_is = refl;
  most = λ i d le is.
      let ge : first.epoch ≤ i = not_before w i (omega (arith, le, in_time)) is in
      let e : i ≡ first.epoch = omega (arith, ge, le) in
      let f : (first.epoch ≡ first.epoch) × (d.frame ≡ first.frame) =
      past_epoch sc (first_core sc.sizes first).state first.epoch (sym (first_told w in_time) ∙ ap (λ n. (told_at sc ear n).epoch) (sym e) ∙ is) in
      omega (arith, f.1);
  early = inl (first-unknown sc first);
  keeps = λ u d from le there. absurd (omega (arith, from, le, w.some));
}

since_at : {sc ear tick s first : _} → WaitsFirst sc ear tick s first → (d : ℕ) → d + suc first.epoch < ear.ticks → IsSince sc ear (d + suc first.epoch)
since_at {sc} {ear} {first} w zero in_time =
    let e : suc first.epoch ≡ 0 + suc first.epoch = omega arith in
    subst (IsSince sc ear) e
    (since_next (first_core sc.sizes first) (w.waits.begins (omega (arith, in_time))) refl (omega (arith, in_time, w.ticks))
    (no-next sc.sizes sc.plan Biu (first_core sc.sizes first).state first.epoch (first-unknown sc first)) w.some (first_in w (omega (arith, in_time))))
since_at {sc} {ear} {first} w (suc d) in_time =
    let k : ℕ = d + suc first.epoch in
    let e : suc (d + suc first.epoch) ≡ suc d + suc first.epoch = omega arith in
    let x : IsSince sc ear (d + suc first.epoch) = since_at w d (omega (arith, in_time)) in
    let below : d + suc first.epoch < 2 ^ 31 = omega (arith, in_time, w.ticks) in
    subst (IsSince sc ear) e
    (since_next x.core (heeds_core sc ear k x.core x.here) x.had (omega (arith, in_time, w.ticks)) refl w.some (in_state below w.some x))

pub since : {sc ear tick s first : _} → WaitsFirst sc ear tick s first → (k : ℕ) → first.epoch < k → k < ear.ticks → IsSince sc ear k
since {sc} {ear} {first} w k after in_time =
    let e : (k - suc first.epoch) + suc first.epoch ≡ k = omega (arith, after) in
    subst (IsSince sc ear) e (since_at w (k - suc first.epoch) (omega (arith, e, in_time)))

-- the listener follows at tick `k`, in the state `st`
pub record AtTick (sc : Scenario) (ear : Ear) (k : ℕ) : Type 0 where
  pub core : Core
  pub heeds : heed sc.sizes sc.plan (listening_at sc ear k) ≡ followed (follow sc.sizes sc.plan core)
  pub had : core.had ≡ k
  pub st : NodeState
  pub at : state_at sc.sizes sc.plan Biu core.state k ≡ st
  pub now : IsIn sc ear k st

pub at_tick : {sc ear tick s first : _} → WaitsFirst sc ear tick s first → (k : ℕ) → first.epoch ≤ k → k < ear.ticks → AtTick sc ear k
at_tick {sc} {ear} {first} w k from in_time = elim (cases_lt first.epoch k) [
  | inl after ↦
      let x : IsSince sc ear k = since w k after in_time in
      record {
        core = x.core;
        heeds = heeds_core sc ear k x.core x.here;
        had = x.had;
        st = state_at sc.sizes sc.plan Biu x.core.state k;
        at = refl;
        now = in_state (omega (arith, in_time, w.ticks)) w.some x;
      }
  | inr le ↦ let same : first.epoch ≡ k = omega (arith, le, from) in subst (AtTick sc ear) same (at_first (omega (arith, from, in_time)))
]
  where
    at_first : first.epoch < ear.ticks → AtTick sc ear first.epoch
    at_first in_time = record {
      core = first_core sc.sizes first;
      heeds = w.waits.begins in_time;
      had = refl;
      st = (first_core sc.sizes first).state;
      at = no-next sc.sizes sc.plan Biu (first_core sc.sizes first).state first.epoch (first-unknown sc first);
      now = first_in w in_time;
    }

-- ---- what it tells

-- with a tick after the first epoch the listener tells the frame after the one that it told last,
-- having known that tick
record TellsNext (sc : Scenario) (ear : Ear) (k : ℕ) (e : Epoch) (x : IsSince sc ear k) : Type 0 where
  pub frame : e.frame ≡ x.core.state.frame + 1
  pub known : new_epoch_of sc.plan Biu x.core.state ≡ Some k
  pub far : x.begun + second_end sc.sizes sc.plan ≤ k

tells_next : {sc ear k e : _} → k < 2 ^ 31 → (x : IsSince sc ear k) → (told_at sc ear k).epoch ≡ Some e → TellsNext sc ear k e x
tells_next {sc} {ear} {k} {e} below x is = elim (turns_or_stays sc.sizes sc.plan x.core.state k) [ inl t ↦ turns t | inr same ↦ stays same ]
  where
    told : (told_at sc ear k).epoch ≡ epoch_at sc.sizes Biu (state_at sc.sizes sc.plan Biu x.core.state k) k
    told = subst (λ h. (told_at sc ear k).epoch ≡ epoch_at sc.sizes Biu (state_at sc.sizes sc.plan Biu x.core.state h) h) x.had
        (tells_epoch sc ear k x.core (heeds_core sc ear k x.core x.here) (omega (arith, below, x.had)) refl)

    far_by : new_epoch_of sc.plan Biu x.core.state ≡ Some k → (new_epoch_of sc.plan Biu x.core.state ≡ None) ⊎ (x.begun + second_end sc.sizes sc.plan ≤ k) → x.begun + second_end sc.sizes sc.plan ≤ k
    far_by known (inl none) = let both : Some k ≡ None = sym known ∙ none in cc
    far_by known (inr past) = past

    turns : Turns sc.sizes sc.plan x.core.state (state_at sc.sizes sc.plan Biu x.core.state k) k → TellsNext sc ear k e x
    turns t = record {
      frame = (past_epoch sc (state_at sc.sizes sc.plan Biu x.core.state k) k (sym told ∙ is)).1 ∙ t.frame;
      known = t.known;
      far = far_by t.known x.early;
    }

    stays : state_at sc.sizes sc.plan Biu x.core.state k ≡ x.core.state → TellsNext sc ear k e x
    stays same =
        let p : (x.core.state.epoch ≡ k) × (e.frame ≡ x.core.state.frame) = past_epoch sc x.core.state k (sym (ap (λ s. epoch_at sc.sizes Biu s k) same) ∙ sym told ∙ is) in
        absurd (omega (arith, p.0, x.epoch_is, x.before))

-- the frames rise
rises : {sc ear tick s first : _} → WaitsFirst sc ear tick s first → (i k : ℕ) {d e : _} → i < k → k < ear.ticks
    → (told_at sc ear i).epoch ≡ Some d → (told_at sc ear k).epoch ≡ Some e → d.frame < e.frame
rises {sc} {ear} {first} w i k {d} {e} less in_time told then_told =
    let ge : first.epoch ≤ i = not_before w i (omega (arith, less, in_time)) told in
    let x : IsSince sc ear k = since w k (omega (arith, ge, less)) in_time in
    let n : TellsNext sc ear k e x = tells_next (omega (arith, in_time, w.ticks)) x then_told in
    let m : d.frame ≤ x.core.state.frame = x.most i d less told in
    omega (arith, m, n.frame)

-- a frame is told with one tick
pub told_once : {sc ear tick s first : _} → WaitsFirst sc ear tick s first → (i k : ℕ) {d e : _} → i < ear.ticks → k < ear.ticks
    → (told_at sc ear i).epoch ≡ Some d → (told_at sc ear k).epoch ≡ Some e → d.frame ≡ e.frame → i ≡ k
told_once w i k {d} {e} i_in k_in told then_told same = elim (cases_lt i k) [
  | inl less ↦ let r : d.frame < e.frame = rises w i k less k_in told then_told in absurd (omega (arith, r, same))
  | inr ge ↦ elim (cases_lt k i) [
    | inl less ↦ let r : e.frame < d.frame = rises w k i less i_in then_told told in absurd (omega (arith, r, same))
    | inr le ↦ omega (arith, ge, le)
  ]
]

-- the listener tells its first frame with the first tick alone
pub first_once : {sc ear tick s first : _} → WaitsFirst sc ear tick s first → (k : ℕ) {e : _} → k < ear.ticks → (told_at sc ear k).epoch ≡ Some e
    → e.frame ≡ first.frame → k ≡ first.epoch
first_once {sc} {ear} {first} w k in_time told same =
    let ge : first.epoch ≤ k = not_before w k in_time told in
    let x : IsIn sc ear first.epoch (first_core sc.sizes first).state = first_in w (omega (arith, ge, in_time)) in
    told_once w k x.begun in_time (omega (arith, ge, in_time, x.epoch_is)) told x.told (same ∙ sym x.frame_is) ∙ sym x.epoch_is

-- the listener tells no frame before its first one
pub none_earlier : {sc ear tick s first : _} → WaitsFirst sc ear tick s first → (k : ℕ) {e : _} → k < ear.ticks → (told_at sc ear k).epoch ≡ Some e → first.frame ≤ e.frame
none_earlier {sc} {ear} {first} w k {e} in_time told = elim (cases_lt first.epoch k) [ inl after ↦ later after | inr early ↦ at_first early ]
  where
    later : first.epoch < k → first.frame ≤ e.frame
    later after =
        let x : IsIn sc ear first.epoch (first_core sc.sizes first).state = first_in w (omega (arith, after, in_time)) in
        let r : x.e.frame < e.frame = rises w x.begun k (omega (arith, x.up_to, after)) in_time x.told told in
        let f : x.e.frame ≡ first.frame = x.frame_is in
        omega (arith, r, f)

    at_first : k ≤ first.epoch → first.frame ≤ e.frame
    at_first early =
        let ge : first.epoch ≤ k = not_before w k in_time told in
        let same : k ≡ first.epoch = omega (arith, ge, early) in
        let p : (first.epoch ≡ first.epoch) × (e.frame ≡ first.frame) =
        past_epoch sc (first_core sc.sizes first).state first.epoch (sym (first_told w (omega (arith, same, in_time))) ∙ ap (λ n. (told_at sc ear n).epoch) (sym same) ∙ told) in
        omega (arith, p.1)

-- The frame after one that it told with this tick alone it tells not before the end of stage 2 of
-- the sync slot, and with the tick that is known then
pub record TellsAfter (sc : Scenario) (ear : Ear) (epoch k : ℕ) : Type 0 where
  pub far : epoch + second_end sc.sizes sc.plan ≤ k
  pub known : (c : Core) → listening_at sc ear (epoch + second_end sc.sizes sc.plan) ≡ now.Following c → new_epoch_of sc.plan Biu c.state ≡ Some k

pub tells_after : {sc ear tick s first : _} → WaitsFirst sc ear tick s first → (frame epoch : ℕ) → first.frame ≤ frame
    → ((k : ℕ) (e : Epoch) → k < ear.ticks → (told_at sc ear k).epoch ≡ Some e → e.frame ≡ frame → k ≡ epoch)
    → (k : ℕ) {e : _} → k < ear.ticks → (told_at sc ear k).epoch ≡ Some e → e.frame ≡ frame + 1 → TellsAfter sc ear epoch k
tells_after {sc} {ear} {first} w frame epoch le only k {e} in_time told is = elim (cases_lt first.epoch k) [ inl after ↦ later after | inr early ↦ absurd (not_first early) ]
  where
    not_first : k ≤ first.epoch → ⊥
    not_first early =
        let ge : first.epoch ≤ k = not_before w k in_time told in
        let same : k ≡ first.epoch = omega (arith, ge, early) in
        let p : (first.epoch ≡ first.epoch) × (e.frame ≡ first.frame) =
        past_epoch sc (first_core sc.sizes first).state first.epoch (sym (first_told w (omega (arith, same, in_time))) ∙ ap (λ n. (told_at sc ear n).epoch) (sym same) ∙ told) in
        omega (arith, p.1, is, le)

    later : first.epoch < k → TellsAfter sc ear epoch k
    later after =
        let x : IsSince sc ear k = since w k after in_time in
        let n : TellsNext sc ear k e x = tells_next (omega (arith, in_time, w.ticks)) x told in
        let same : x.begun ≡ epoch = only x.begun x.e (omega (arith, x.before, in_time)) x.told (omega (arith, x.frame_is, n.frame, is)) in
        record {
          far = subst (λ b. b + second_end sc.sizes sc.plan ≤ k) same n.far;
          known = λ c there. x.keeps (epoch + second_end sc.sizes sc.plan) c (omega (arith, same)) (omega (arith, same, n.far)) there ∙ n.known;
        }
