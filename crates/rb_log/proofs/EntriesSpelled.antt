-- Records that were read were there.
use Rattle.std.proofs.{Common.{◌≡◌, ℕ, zero, suc, ◌+◌, ◌-◌, ◌≤◌, Bool, true, false, eqb, nat_le, nat_lt, List, [], ◌∷◌, ◌++◌, length, drop, refl, sym, ap, ◌∙◌, arith}, Math.ListN.drop_of_length-le, lemmas.Bool.Decides.nat_tests, lemmas.List.{append_assoc, drop-drop, length-drop, length-take-le, take-append-drop}, lemmas.List.Elements.{All-cons, All-nil}}
use Rattle.std.specs.{Prelude.{Result, Ok, Err, All, slice_range, if◌then◌else◌}, List.flat_map}
use Rattle.byteorder.specs.Endian.{big_bytes}
use Rattle.rb_rules.specs.{Core.CoreEvent, Spelling.AreBytes}
use Rattle.rb_log.specs.{Entries.{after, arrival_in, before, entry_at, events_at, events_from, events_of, is_end, size_of, tick_in, ticks_in, ticks_of}, Fields.field, Spelling.{MayBeTold, Told, all_ticks, events_told, spelled, ticks_told}, declared.entry.Entry.Entry, declared.entry.Entry.TheVariants.{Tick, Ticks, Arrival, End}, declared.refusal.LogRefusal.LogRefusal, declared.refusal.LogRefusal.TheVariants.Truncated}
use Rattle.rb_log.proofs.FieldsSpelled.{IsField, field_ok, four_there, one_there, went_on}
use Rattle.rb_log.specs.Spelling as told

-- a record that is not the end says something, and its bytes stand there
record Says (senders : ℕ) (bytes : List ℕ) (place : ℕ) (entry : Entry) : Type 0 where
  said : Told
  may : MayBeTold senders said
  there : drop place bytes ≡ spelled said ++ drop (place + size_of entry) bytes
  events : events_of bytes place entry ≡ events_told said
  ticks : ticks_of entry ≡ ticks_told said
  going_on : is_end entry ≡ false

-- an entry at a place says something that the bytes there spell, or it is the end
data Kind (senders : ℕ) (bytes : List ℕ) (place : ℕ) (entry : Entry) : Type 0 where
  record_is : Says senders bytes place entry → Kind senders bytes place entry
  end_is : entry ≡ End → drop place bytes ≡ 4 ∷ drop (place + 1) bytes → Kind senders bytes place entry

tick_says : (senders : ℕ) (bytes : List ℕ) (place : ℕ) (entry : Entry) → AreBytes bytes → drop place bytes ≡ 1 ∷ drop (place + 1) bytes
    → tick_in bytes place ≡ Ok entry → Says senders bytes place entry
unfolding tick_in
tick_says senders bytes place entry small first is =
    let s = went_on (field bytes (place + 1) 4 0 4294967295) _ entry is in
    let f = field_ok bytes (place + 1) 4 0 4294967295 s.value s.first in
    let e : entry ≡ Tick s.value = let same = s.rest in cc in
    let at : place + 1 + 4 ≡ place + 5 = omega arith in
    let number : drop (place + 1) bytes ≡ big_bytes 4 s.value ++ drop (place + 5) bytes =
    rw at at (four_there bytes (place + 1) 0 4294967295 s.value small f) in
    rw e (record {
      said = told.OneTick s.value;
      may = omega (arith, f.below);
      there = first ∙ ap (λ (l : List ℕ). 1 ∷ l) number;
      events = refl;
      ticks = refl;
      going_on = refl;
    })

ticks_says : (senders : ℕ) (bytes : List ℕ) (place : ℕ) (entry : Entry) → AreBytes bytes → drop place bytes ≡ 2 ∷ drop (place + 1) bytes
    → ticks_in bytes place ≡ Ok entry → Says senders bytes place entry
unfolding ticks_in
ticks_says senders bytes place entry small first is =
    let s = went_on (field bytes (place + 1) 4 1 4294967295) _ entry is in
    let f = field_ok bytes (place + 1) 4 1 4294967295 s.value s.first in
    let e : entry ≡ Ticks s.value = let same = s.rest in cc in
    let at : place + 1 + 4 ≡ place + 5 = omega arith in
    let number : drop (place + 1) bytes ≡ big_bytes 4 s.value ++ drop (place + 5) bytes =
    rw at at (four_there bytes (place + 1) 1 4294967295 s.value small f) in
    rw e (record {
      said = told.ManyTicks s.value;
      may = (f.above, omega (arith, f.below));
      there = first ∙ ap (λ (l : List ℕ). 2 ∷ l) number;
      events = refl;
      ticks = refl;
      going_on = refl;
    })

arrival_ok : (senders : ℕ) (bytes : List ℕ) (place from size : ℕ) (entry : Entry) → 1 ≤ senders → drop place bytes ≡ 3 ∷ drop (place + 1) bytes
    → IsField bytes (place + 1) 1 0 (senders - 1) from → IsField bytes (place + 2) 1 1 32 size → place + 3 + size ≤ length bytes
    → entry ≡ Arrival from size → Says senders bytes place entry
arrival_ok senders bytes place from size entry some first f g inside e =
    let second : drop (place + 1) bytes ≡ from ∷ drop (place + 2) bytes =
    let at : place + 1 + 1 ≡ place + 2 = omega arith in rw at at (one_there bytes (place + 1) 0 (senders - 1) from f) in
    let third : drop (place + 2) bytes ≡ size ∷ drop (place + 3) bytes =
    let at : place + 2 + 1 ≡ place + 3 = omega arith in rw at at (one_there bytes (place + 2) 1 32 size g) in
    let message = slice_range bytes (place + 3) (place + 3 + size) in
    let count : place + 3 + size - (place + 3) ≡ size = omega arith in
    let many : length (slice_range bytes (place + 3) (place + 3 + size)) ≡ size =
    rw count (length-take-le size (drop (place + 3) bytes) (omega (arith, length-drop (place + 3) bytes))) in
    let fourth : drop (place + 3) bytes ≡ slice_range bytes (place + 3) (place + 3 + size) ++ drop (place + (3 + size)) bytes =
    let at : place + (3 + size) ≡ place + 3 + size = omega arith in
    rw (count, at, ← drop-drop size (place + 3) bytes) (sym (take-append-drop size (drop (place + 3) bytes))) in
    rw e (record {
      said = told.Message from message;
      may = (omega (arith, f.below), rw many g.above, rw many g.below);
      there =
          first ∙ ap (λ (l : List ℕ). 3 ∷ l) (second ∙ ap (λ (l : List ℕ). from ∷ l) (third
          ∙ ap (λ (l : List ℕ). size ∷ l) fourth
          ∙ ap (λ (k : ℕ). k ∷ (slice_range bytes (place + 3) (place + 3 + size) ++ drop (place + (3 + size)) bytes)) (sym many)));
      events = refl;
      ticks = refl;
      going_on = refl;
    })

arrival_says : (senders : ℕ) (bytes : List ℕ) (place : ℕ) (entry : Entry) → 1 ≤ senders → drop place bytes ≡ 3 ∷ drop (place + 1) bytes
    → arrival_in senders bytes place ≡ Ok entry → Says senders bytes place entry
unfolding arrival_in
arrival_says senders bytes place entry some first is =
    let s = went_on (field bytes (place + 1) 1 0 (senders - 1)) _ entry is in
    let f = field_ok bytes (place + 1) 1 0 (senders - 1) s.value s.first in
    let t = went_on (field bytes (place + 2) 1 1 32) _ entry s.rest in
    let g = field_ok bytes (place + 2) 1 1 32 t.value t.first in
    whole s.value t.value f g (nat_le (place + 3 + t.value) (length bytes)) refl t.rest
  where
    whole : (from size : ℕ) → IsField bytes (place + 1) 1 0 (senders - 1) from → IsField bytes (place + 2) 1 1 32 size
        → (inside : Bool) → nat_le (place + 3 + size) (length bytes) ≡ inside
        → (if nat_le (place + 3 + size) (length bytes) then Ok (Arrival from size) else Err (Truncated (length bytes))) ≡ Ok entry
        → Says senders bytes place entry
    whole from size f g true inside last =
        let same : Ok (Arrival from size) ≡ Ok entry = rw inside at last in
        arrival_ok senders bytes place from size entry some first f g (grind (arith, nat_tests)) (cc)
    whole from size f g false inside last = absurd (let same = rw inside at last in cc)

entry_says : (senders : ℕ) (bytes : List ℕ) (place : ℕ) (entry : Entry) → 1 ≤ senders → AreBytes bytes
    → entry_at senders bytes place ≡ Ok entry → Kind senders bytes place entry
unfolding entry_at
entry_says senders bytes place entry some small is =
    let s = went_on (field bytes place 1 1 4) _ entry is in
    let f = field_ok bytes place 1 1 4 s.value s.first in
    by_kind s.value f (one_there bytes place 1 4 s.value f) (eqb s.value 1) refl (eqb s.value 2) refl (eqb s.value 3) refl s.rest
  where
    by_kind : (what : ℕ) → IsField bytes place 1 1 4 what → drop place bytes ≡ what ∷ drop (place + 1) bytes
        → (one : Bool) → eqb what 1 ≡ one → (two : Bool) → eqb what 2 ≡ two → (three : Bool) → eqb what 3 ≡ three
        → (if eqb what 1
        then tick_in bytes place
        else (if eqb what 2 then ticks_in bytes place else (if eqb what 3 then arrival_in senders bytes place else Ok End))) ≡ Ok entry
        → Kind senders bytes place entry
    by_kind what f there true a two b three c last =
        let e : what ≡ 1 = grind (arith, nat_tests) in
        record_is (tick_says senders bytes place entry small (rw e at there) (rw a at last))
    by_kind what f there false a true b three c last =
        let e : what ≡ 2 = grind (arith, nat_tests) in
        record_is (ticks_says senders bytes place entry small (rw e at there) (rw (a, b) at last))
    by_kind what f there false a false b true c last =
        let e : what ≡ 3 = grind (arith, nat_tests) in
        record_is (arrival_says senders bytes place entry some (rw e at there) (rw (a, b, c) at last))
    by_kind what f there false a false b false c last =
        let e : what ≡ 4 = grind (arith, nat_tests, f.above, f.below) in
        let same : Ok End ≡ Ok entry = rw (a, b, c) at last in
        end_is (cc) (rw e at there)

-- All of them.

record Behind (bytes : List ℕ) (place ticks : ℕ) (entry : Entry) (others : Result (List CoreEvent) LogRefusal) (events : List CoreEvent) : Type 0 where
  few : ticks + ticks_of entry ≤ 2147483648
  more : List CoreEvent
  read : others ≡ Ok more
  all : events ≡ events_of bytes place entry ++ more

before_ok : (first events : List CoreEvent) (others : Result (List CoreEvent) LogRefusal) → before first others ≡ Ok events
    → (more : List CoreEvent) × (others ≡ Ok more) × (events ≡ first ++ more)
before_ok first events (Ok more) is = (more, refl, cc)
before_ok first events (Err fault) is = absurd (cc)

record_ok : (bytes : List ℕ) (place ticks : ℕ) (entry : Entry) (others : Result (List CoreEvent) LogRefusal) (events : List CoreEvent)
    → is_end entry ≡ false → after bytes place ticks entry others ≡ Ok events → Behind bytes place ticks entry others events
record_ok bytes place ticks entry others events going is = go (nat_le (ticks + ticks_of entry) 2147483648) refl where
  go : (few : Bool) → nat_le (ticks + ticks_of entry) 2147483648 ≡ few → Behind bytes place ticks entry others events
  go true few =
      let last : before (events_of bytes place entry) others ≡ Ok events = rw (going, few) at is in
      let more = before_ok (events_of bytes place entry) events others last in
      record { few = grind (arith, nat_tests); more = more.0; read = more.1; all = more.2 }
  go false few = absurd (let last = rw (going, few) at is in cc)

end_ok : (bytes : List ℕ) (place ticks : ℕ) (entry : Entry) (others : Result (List CoreEvent) LogRefusal) (events : List CoreEvent)
    → entry ≡ End → after bytes place ticks entry others ≡ Ok events → (length bytes ≤ place + 1) × (events ≡ [])
end_ok bytes place ticks entry others events ends is = go (nat_lt (place + 1) (length bytes)) refl where
  here : after bytes place ticks End others ≡ Ok events
  here = rw ends at is

  go : (more : Bool) → nat_lt (place + 1) (length bytes) ≡ more → (length bytes ≤ place + 1) × (events ≡ [])
  go true more = absurd (let last = rw more at here in cc)
  go false more = let last : Ok [] ≡ Ok events = rw more at here in (grind (arith, nat_tests), cc)

-- the bytes from the place on spell the events and then the end
pub record AreSpelled (senders : ℕ) (bytes : List ℕ) (place ticks : ℕ) (all : List CoreEvent) : Type 0 where
  pub told : List Told
  pub may : All (MayBeTold senders) told
  pub few : ticks + all_ticks told ≤ 2147483648
  pub there : drop place bytes ≡ flat_map spelled told ++ 4 ∷ []
  pub events : all ≡ flat_map events_told told

no_bytes : (bytes : List ℕ) (place : ℕ) → length bytes ≤ place → drop place bytes ≡ []
no_bytes bytes place all = drop_of_length-le bytes all

from_spelled : (most senders : ℕ) (bytes : List ℕ) (place ticks : ℕ) (events : List CoreEvent) → 1 ≤ senders → AreBytes bytes → ticks ≤ 2147483648
    → events_from most senders bytes place ticks ≡ Ok events → AreSpelled senders bytes place ticks events
unfolding events_from
from_spelled zero senders bytes place ticks events some small few is = absurd (cc)
from_spelled (suc most) senders bytes place ticks events some small few is =
    let s = went_on (entry_at senders bytes place) _ events is in
    elim (entry_says senders bytes place s.value some small s.first) [
      | record_is says ↦
          let b = record_ok bytes place ticks s.value _ events says.going_on s.rest in
          let rest = from_spelled most senders bytes (place + size_of s.value) (ticks + ticks_of s.value) b.more some small b.few b.read in
          record {
            told = says.said ∷ rest.told;
            may = All-cons (MayBeTold senders) says.said rest.told says.may rest.may;
            few = omega (arith, rest.few, says.ticks);
            there =
                says.there ∙ ap (λ (l : List ℕ). spelled says.said ++ l) rest.there
                ∙ sym (append_assoc (spelled says.said) (flat_map spelled rest.told) (4 ∷ []));
            events = b.all ∙ ap (λ (l : List CoreEvent). l ++ b.more) says.events ∙ ap (λ (l : List CoreEvent). events_told says.said ++ l) rest.events;
          }
      | end_is ends there ↦
          let e = end_ok bytes place ticks s.value _ events ends s.rest in
          record {
            told = [];
            may = All-nil (MayBeTold senders);
            few = omega arith;
            there = there ∙ ap (λ (l : List ℕ). 4 ∷ l) (no_bytes bytes (place + 1) e.0);
            events = e.1;
          }
    ]

pub events_spelled : (senders : ℕ) (bytes : List ℕ) (place : ℕ) (events : List CoreEvent) → 1 ≤ senders → AreBytes bytes
    → events_at senders bytes place 0 ≡ Ok events → AreSpelled senders bytes place 0 events
unfolding events_at
events_spelled senders bytes place events some small is = from_spelled (length bytes) senders bytes place 0 events some small (omega arith) is
