-- Whatever is taken in a lawful scenario has four bytes, also what nodes say that are not good.
use Rattle.std.proofs.{Common.{◌≡◌, ℕ, ◌+◌, ◌<◌, ◌^◌, ◌&&◌, Bool, true, false, List, [], ◌∷◌, map, Option, Some, None, get_or, slice_get, if◌then◌else◌, refl, sym, ◌∙◌, ap, subst, arith, inl, inr}, lemmas.List.Elements.All-head}
use Rattle.std.specs.Prelude.{IfSome, All}
use Rattle.rb_base.specs.Nodes.{other}
use Rattle.rb_rules.specs.{declared.message.Message.Message, declared.message.Tag.Tag, declared.message.Version.Version, declared.sense.Expect.Expect, declared.sense.Sense.Sense, declared.sense.Sense.TheVariants.{One, Bad}, Book.of_kind, Clock.Timeline, Goodness.{is_good, clock_of}, Hearing.{Coming, Span, span_of, said_by, arrival_of}, NodeSteps.expect_of, Rounds.sent_in, Sense.{suits, sense_of, sense_of_one, value_of, value_in}, Spelling.{IsMessage, HasValue, AreBytes, message_in}, Standing.{Standing, is_eligible, taken_of}}
use Rattle.rb_rules.proofs.{Senses.IsCarried, Spellings.only_so}
use Rattle.rb_laws_agreement.proofs.{Tests.{true_or_false, Present}, SaidWindows.all-said, Invariant.{IsGoodNode, is_good_now}, NodeWindows.{Windows, kept_in, own_window, heard_in, sense_in, from-faulty}, ExactWindows.expected_at, Exchanges.IsHeard, Speaking.get-all, Settings.{Setting, windows, good_here, good_state, AllCarried, all_heard, taken}}
use Rattle.rb_rules.specs.declared.message.Tag.TheVariants as tag

-- whatever the bytes spell is a message in range
abbrev IsReadable : Version → List ℕ → Type 0
IsReadable version bytes = (m : Message) → message_in version bytes ≡ Some m → IsMessage m

raw-readable : (version : Version) (bytes : List ℕ) → All (λ byte. byte < 2 ^ 8) bytes → IsReadable version bytes
raw-readable version bytes each m read =
    let are : AreBytes bytes = λ k. get-all (λ byte. byte < 2 ^ 8) bytes k (omega arith) each in
    (only_so version bytes m read are).0

abbrev ComesReadable : Version → Coming → Type 0
ComesReadable version c = IsReadable version c.bytes

value-carried : (t : Tag) (value : ℕ) → HasValue t value → IfSome (value_of t value) IsCarried
value-carried tag.Word value is = is
value-carried tag.Fault value is = tt
value-carried tag.Sync value is = tt

one-carried : (e : Expect) (stamp : ℕ) (read : Option Message) → ((m : Message) → read ≡ Some m → IsMessage m) → IfSome (value_in (sense_of_one e stamp read)) IsCarried
one-carried e stamp None is = tt
one-carried e stamp (Some m) is = go (suits e m)
  where
    go : (b : Bool) → IfSome (value_in (if b then One stamp m else Bad)) IsCarried
    go true = value-carried m.tag m.value (is m refl).value
    go false = tt

sense-carried : (e : Expect) (clock : Timeline) (heard : List Coming) → All (ComesReadable e.version) heard
    → IfSome (value_in (sense_of e (map (arrival_of clock) heard))) IsCarried
sense-carried e clock [] all = tt
sense-carried e clock (c ∷ []) all = one-carried e (arrival_of clock c).stamp (message_in e.version c.bytes) (All-head (ComesReadable e.version) c [] all)
sense-carried e clock (c ∷ (d ∷ cs)) all = tt

taken-carried : (s : Standing) (expected : ℕ → Bool) (sense : ℕ → Sense) (j : ℕ) → IfSome (value_in (sense j)) IsCarried → IfSome (taken_of value_in s expected sense j) IsCarried
taken-carried s expected sense j fits = go (expected j && is_eligible s j)
  where
    go : (b : Bool) → IfSome (if b then value_in (sense j) else None) IsCarried
    go true = fits
    go false = tt

-- whatever a good node takes has four bytes, if what good nodes say has
pub all_carried : {sc hands n m s slot q : _} (c : Setting sc hands n m s slot q) → AllCarried sc m slot (q + 1)
    → {me i : _} (j : ℕ) {st : _} → IsGoodNode sc m me i st → IfSome (taken c me i st j) IsCarried
all_carried {sc} {m} {slot} {q} c fits {me} {i} j {st} here =
    let ws : Windows sc m slot (q + 1) = windows c in
    elim (true_or_false (is_good_now sc m (other me) j)) [
      | inl good ↦
          let there : Present (slice_get (of_kind (other me) m.nodes) j) = good_state c.agree (other me) j good in
          let source : IsGoodNode sc m (other me) j there.value = record { there = there.is; good = good } in
          let heard : IsHeard sc m slot (q + 1) ws me i j st there.value = all_heard c fits here source in
          subst (λ o. IfSome o IsCarried) (sym heard.takes) (fits (other me) j there.value source)
      | inr faulty ↦
          let span : Span = span_of st (own_window ws me st) in
          let frame : st.frame ≡ m.frame = (c.agree.nodes me i st here).frame in
          let not_good : is_good sc (other me) j st.frame slot ≡ false =
          ap (λ f. is_good sc (other me) j f slot) frame ∙ sym (good_here c (other me) j) ∙ faulty in
          let heard : heard_in ws me i st j ≡ said_by sc me i span j =
          from-faulty sc me i span (of_kind (other me) (sent_in sc m)) j not_good in
          let readable : All (ComesReadable sc.plan.version) (heard_in ws me i st j) =
          subst (All (ComesReadable sc.plan.version)) (sym heard)
          (λ k d lt. raw-readable sc.plan.version (get_or (said_by sc me i span j) k d).bytes (all-said sc me i span j k d lt).bytes) in
          taken-carried st.far (expected_at sc.sizes me st slot (q + 1)) (sense_in ws me i st) j
          (sense-carried (expect_of sc.sizes sc.plan.version (kept_in sc m slot (q + 1) me i st) slot (q + 1)) (clock_of sc me i) (heard_in ws me i st j) readable)
    ]
