-- A search that learns the frame after one of the bus keeps to it from the last call of the one
-- frame on, as long as a pass after the last call of the other lasts.
use Rattle.std.proofs.{Common.{◌≡◌, ◌⊎◌, ℕ, suc, ◌+◌, ◌%◌, ◌<◌, ◌≤◌, ◌==◌, true, false, Option, Some, None, List, slice_get, inl, inr, sym, ◌∙◌, ap, arith}, lemmas.Bool.{and_from, cases_lt, eq-eqb}, lemmas.Option.same_Some}
use Rattle.rb_rules.specs.{declared.message.Message.Message, Goodness.Scenario, Hearing.Coming, Lawful.IsLawful, Ports.HandIn, Rounds.moment, Spelling.message_in}
use Rattle.rb_listen.specs.{Lessons.frame_after, Listening.{if_pass, recorded, searching}, Passes.{is_call, pass_of, reach_of}, declared.passes.Call.Call, declared.search.Search.Search}
use Rattle.rb_listen.proofs.Searches.{Stays}
use Rattle.rb_laws_listener_learns.specs.Ears.{Ear, HearsTheRun, IsEar, is_always_good}
use Rattle.rb_laws_listener_learns.proofs.{Checks.{StaysAt, kept-stays}, Deciding.{IsHeardCall, IsWell, heard-call, newest-well, recorded-well}, Fresh.{AreKnown, AreLatest, GoodInPass, good-in-pass, well-known}, LastCalls.IsLastCall, Latest.{IsCallAt, IsLatest, call-latest, going}, Learning.{IsFresh, kept-fresh}, NewestCalls.{HasCome, IsFromOn, from-on, up-to}, Onward.IsKeptOn, PassSets.{BeginsAt, pass-at}, Searchings.{RecordsOnly, pass-by, recorded-only, search-by, with_call}, Seeks.{no-onset, timed-frame}, Walks.IsKept}

-- the search learns the frame after this one
abbrev pub LearnsNext : ℕ → Search → Type 0
LearnsNext frame s = (s.learns ≡ true) × (s.lesson.frame ≡ (frame + 1) % 65536)

-- `last` and `next` are the stamps of the last calls of the frame and of the one after
pub record IsOnTrack (sc : Scenario) (hands : List HandIn) (ear : Ear) (frame last next k n : ℕ) (s : Search) : Type 0 where
  pub fresh : IsFresh sc hands ear k n s
  pub stays : Stays k s
  pub after : last < k
  pub learns : k ≤ next + reach_of sc.plan → LearnsNext frame s

-- the number of the frame after is that after the number
pub number-after : (frame : ℕ) → frame_after (frame % 65536) ≡ (frame + 1) % 65536
number-after frame = omega arith

-- a pass at that time is of one of the two frames
pass-number : {sc hands : _} → IsLawful sc → {ear : _} → IsEar sc ear → HearsTheRun sc hands ear → {frame last next : ℕ} → IsLastCall sc hands ear frame last
    → IsLastCall sc hands ear (frame + 1) next → {k n q newest : _} → k < ear.ticks → last < k → k ≤ next + reach_of sc.plan → AreKnown sc hands ear k newest
    → AreLatest sc ear k n newest → pass_of sc.sizes sc.plan newest ≡ Some q → (q ≡ (frame + 1) % 65536) ⊎ (frame_after q ≡ (frame + 1) % 65536)
pass-number {sc} {hands} law {ear} is run {frame} {last} l1 l2 {k} {n} {q} {newest} in_time after soon known latest made =
    elim (cases_lt frame (moment sc hands f.heard.n).frame) [
      | inl less ↦
          let same : (moment sc hands f.heard.n).frame ≡ frame + 1 = omega (arith, less, le) in inl (q_is ∙ ap (λ x. x % 65536) same)
      | inr more ↦
          let same : (moment sc hands f.heard.n).frame ≡ frame = omega (arith, more, f.from) in
          inr (ap frame_after (q_is ∙ ap (λ x. x % 65536) same) ∙ number-after frame)
    ]
  where
    b : BeginsAt sc.sizes sc.plan newest q
    b = pass-at sc.sizes sc.plan newest made

    g : GoodInPass sc hands newest b.call.frame b.call.at
    g = good-in-pass sc hands law.sizes run.most_good known.inside b

    come : HasCome ear last k n
    come = λ t i c early there. inl (omega (arith, early, after))

    f : IsFromOn sc hands ear frame k newest g.j
    f = from-on law is l1 (omega (arith, after, in_time)) known latest come g.j g.good

    q_is : q ≡ (moment sc hands f.heard.n).frame % 65536
    q_is =
        sym b.frame_is ∙ sym g.there.falls.frame_is ∙ ap (λ (x : Call). x.frame) (same_Some g.there.call f.call (sym g.there.is ∙ f.there)) ∙ f.heard.number_is

    le : (moment sc hands f.heard.n).frame ≤ frame + 1
    le = up-to law is l2 f.heard (omega (arith, f.by_now, soon))

recorded-next : (sc : Scenario) (frame j : ℕ) (m : Message) (s : Search) → LearnsNext frame s → LearnsNext frame (recorded sc.sizes j m s)
recorded-next sc frame j m s l =
    let only : RecordsOnly s (recorded sc.sizes j m s) = recorded-only sc.sizes j m s in
    (only.learns ∙ l.0, only.frame ∙ l.1)

-- a pass of one of the two frames begins no lesson
pass-next : (sc : Scenario) (frame q : ℕ) (w : Search) → LearnsNext frame w → (q ≡ (frame + 1) % 65536) ⊎ (frame_after q ≡ (frame + 1) % 65536) → LearnsNext frame (if_pass sc.plan (Some q) w)
pass-next sc frame q w l one = pass-by sc.plan q w (LearnsNext frame) (record {
  fixes = λ learns is. (learns, timed-frame (w.had + reach_of sc.plan) w.lesson ∙ l.1);
  stays = λ learns is. l;
  begins = λ a b. absurd (elim one [
    | inl this ↦ let both : true ≡ false = sym (and_from w.learns (q == w.lesson.frame) l.0 (eq-eqb q w.lesson.frame (this ∙ sym l.1))) ∙ a in cc
    | inr before ↦ let both : true ≡ false = sym (and_from w.learns (frame_after q == w.lesson.frame) l.0 (eq-eqb (frame_after q) w.lesson.frame (before ∙ sym l.1))) ∙ b in cc
  ]);
})

heard-next : {sc hands : _} → IsLawful sc → {ear : _} → IsEar sc ear → HearsTheRun sc hands ear → {frame last next : ℕ} → IsLastCall sc hands ear frame last
    → IsLastCall sc hands ear (frame + 1) next → {k n c : _} → k < ear.ticks → slice_get (ear.heard k) n ≡ Some c → last < k → k ≤ next + reach_of sc.plan → {s : _}
    → IsFresh sc hands ear k n s → LearnsNext frame s → LearnsNext frame (searching sc.sizes sc.plan c.from c.bytes s)
heard-next {sc} {hands} law {ear} is run {frame} l1 l2 {k} {n} {c} in_time there after soon {s} h l =
    search-by c.bytes (LearnsNext frame) (going is in_time h.well.had) (record {
      nothing = λ none. l;
      message = λ within m reads other. recorded-next sc frame c.from m s l;
      call = called;
    })
  where
    known : c.from < sc.sizes.rmus → (m : Message) → message_in sc.plan.version c.bytes ≡ Some m → is_call sc.sizes m ≡ true → is_always_good sc hands c.from ≡ true
        → IsHeardCall sc hands ear c.from m.frame k
    known within m reads calls good =
        elim (run.only k c in_time (record { nth = n; there = there }) within) [
          | inl of_good ↦ heard-call law is in_time (record { nth = n; there = there }) of_good reads calls
          | inr faulty ↦ absurd (no-onset good faulty)
        ]

    well : c.from < sc.sizes.rmus → (m : Message) → message_in sc.plan.version c.bytes ≡ Some m → is_call sc.sizes m ≡ true → IsWell sc hands ear k n (with_call sc.sizes c.from m s)
    well within m reads calls =
        newest-well c.from m.frame within (λ good. known within m reads calls good)
        (recorded-well c.from m h.well)

    mine : (j : ℕ) → IsCallAt sc ear k n j → j ≡ c.from
    mine j call = sym call.from ∙ ap (λ (x : Coming). x.from) (same_Some call.coming c (sym call.there ∙ there))

    latest : c.from < sc.sizes.rmus → (m : Message) → IsLatest sc ear k (suc n) (with_call sc.sizes c.from m s)
    latest within m = call-latest c.from m law.sizes within mine h.latest

    called : c.from < sc.sizes.rmus → (m : Message) → message_in sc.plan.version c.bytes ≡ Some m → is_call sc.sizes m ≡ true → (o : Option ℕ)
        → pass_of sc.sizes sc.plan (with_call sc.sizes c.from m s).newest ≡ o → LearnsNext frame (if_pass sc.plan o (with_call sc.sizes c.from m s))
    called within m reads calls None made = recorded-next sc frame c.from m s l
    called within m reads calls (Some q) made =
        pass-next sc frame q (with_call sc.sizes c.from m s) (recorded-next sc frame c.from m s l)
        (pass-number law is run l1 l2 in_time after soon
        (well-known (well within m reads calls)) (latest within m).latest made)

pub kept-on-track : {sc hands : _} → IsLawful sc → {ear : _} → IsEar sc ear → HearsTheRun sc hands ear → {frame last next : ℕ} → IsLastCall sc hands ear frame last
    → IsLastCall sc hands ear (frame + 1) next → IsKeptOn sc ear (IsOnTrack sc hands ear frame last next)
kept-on-track {sc} {hands} law {ear} is run l1 l2 = record {
  heard = λ k n c in_time there s h. record {
    fresh = fresh.heard k n c in_time there s h.fresh;
    stays = stays.heard k n c in_time there s h.stays;
    after = h.after;
    learns = λ soon. heard-next law is run l1 l2 in_time there h.after soon h.fresh (h.learns soon);
  };
  later = λ k n s in_time whole h on. record {
    fresh = fresh.later k n s in_time whole h.fresh on;
    stays = stays.later k n s in_time whole h.stays on;
    after = omega (arith, h.after);
    learns = λ soon. h.learns (omega (arith, soon));
  };
  lasts = λ k n s in_time h. fresh.lasts k n s in_time h.fresh;
}
  where
    fresh : IsKept sc ear (IsFresh sc hands ear)
    fresh = kept-fresh law is run

    stays : IsKept sc ear StaysAt
    stays = kept-stays is
