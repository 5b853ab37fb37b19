-- Records that were written are read.
use Rattle.std.proofs.{Common.{◌≡◌, ℕ, zero, suc, ◌+◌, ◌-◌, ◌^◌, ◌<◌, ◌≤◌, true, false, eqb, nat_le, List, [], ◌∷◌, ◌++◌, length, drop, refl, sym, ap, ◌∙◌, arith}, Math.ListN.replicate, Math.Seq.take-append_seam, lemmas.Bool.Decides.nat_tests, lemmas.List.{append_assoc, drop-drop, length-append, length-drop, replicate-append-replicate}, lemmas.List.Elements.{All-head, All-tail}}
use Rattle.std.specs.{Prelude.{Ok, All, slice_range}, List.flat_map}
use Rattle.byteorder.specs.{Endian.big_bytes, Numbers.length-bytes_high_first}
use Rattle.rb_base.specs.{declared.event.Event.Event, declared.event.EventKind.EventKind}
use Rattle.rb_rules.specs.Core.{CoreEvent}
use Rattle.rb_log.specs.{Entries.{arrival_in, entry_at, events_at, tick_in, ticks_in}, Fields.field, Laws.MayHappen, Spelling.{MayBeTold, Told, all_ticks, events_told, spelled}, Writing.{bytes_with, gathered, given, given_with, ticks_with, waiting_with, written}, declared.entry.Entry.TheVariants.{Tick, Ticks, Arrival, End}}
use Rattle.rb_log.proofs.{FieldsRead.{further, reads, reads_byte}, Reading.{steps_end, steps_on}}
use Rattle.rb_base.specs.declared.event.EventKind.TheVariants as kinds
use Rattle.rb_rules.specs.Core as event
use Rattle.rb_log.specs.Laws as laws
use Rattle.rb_log.specs.Spelling as told

-- Each record by itself.

one_on : (bytes : List ℕ) (place byte : ℕ) (rest : List ℕ) → drop place bytes ≡ byte ∷ rest → drop (place + 1) bytes ≡ rest
one_on bytes place byte rest is = sym (drop-drop 1 place bytes) ∙ ap (λ (l : List ℕ). drop 1 l) is

end_read : (senders : ℕ) (bytes : List ℕ) (place : ℕ) (rest : List ℕ) → drop place bytes ≡ 4 ∷ rest → entry_at senders bytes place ≡ Ok End
unfolding entry_at
end_read senders bytes place rest is =
    let what : field bytes place 1 1 4 ≡ Ok 4 = reads_byte bytes rest place 4 1 4 is (omega arith) (omega arith) in
    rw what refl

tick_read : (senders : ℕ) (bytes : List ℕ) (place word : ℕ) (rest : List ℕ) → drop place bytes ≡ 1 ∷ big_bytes 4 word ++ rest → word < 2 ^ 32
    → entry_at senders bytes place ≡ Ok (Tick word)
unfolding entry_at tick_in
tick_read senders bytes place word rest is fits =
    let what : field bytes place 1 1 4 ≡ Ok 1 = reads_byte bytes _ place 1 1 4 is (omega arith) (omega arith) in
    let number : field bytes (place + 1) 4 0 4294967295 ≡ Ok word =
    reads bytes rest (place + 1) 4 word 0 4294967295 (one_on bytes place 1 _ is) (omega arith) fits (omega arith) (omega arith) in
    rw (what, number) refl

ticks_read : (senders : ℕ) (bytes : List ℕ) (place count : ℕ) (rest : List ℕ) → drop place bytes ≡ 2 ∷ big_bytes 4 count ++ rest → 1 ≤ count
    → count < 2 ^ 32 → entry_at senders bytes place ≡ Ok (Ticks count)
unfolding entry_at ticks_in
ticks_read senders bytes place count rest is some fits =
    let what : field bytes place 1 1 4 ≡ Ok 2 = reads_byte bytes _ place 2 1 4 is (omega arith) (omega arith) in
    let number : field bytes (place + 1) 4 1 4294967295 ≡ Ok count =
    reads bytes rest (place + 1) 4 count 1 4294967295 (one_on bytes place 2 _ is) (omega arith) fits some (omega arith) in
    rw (what, number) refl

arrival_read : (senders : ℕ) (bytes : List ℕ) (place from : ℕ) (message rest : List ℕ)
    → drop place bytes ≡ 3 ∷ from ∷ length message ∷ (message ++ rest) → from < senders → 1 ≤ length message → length message ≤ 32
    → entry_at senders bytes place ≡ Ok (Arrival from (length message))
unfolding entry_at arrival_in
arrival_read senders bytes place from message rest is inside some few =
    let what : field bytes place 1 1 4 ≡ Ok 3 = reads_byte bytes _ place 3 1 4 is (omega arith) (omega arith) in
    let second : drop (place + 1) bytes ≡ from ∷ length message ∷ (message ++ rest) = one_on bytes place 3 _ is in
    let third : drop (place + 1 + 1) bytes ≡ length message ∷ (message ++ rest) = one_on bytes (place + 1) from _ second in
    let e : place + 1 + 1 ≡ place + 2 = omega arith in
    let sender : field bytes (place + 1) 1 0 (senders - 1) ≡ Ok from =
    reads_byte bytes _ (place + 1) from 0 (senders - 1) second (omega arith) (omega arith) in
    let size : field bytes (place + 2) 1 1 32 ≡ Ok (length message) =
    reads_byte bytes _ (place + 2) (length message) 1 32 (rw e at third) some few in
    let fourth : drop (place + 1 + 1 + 1) bytes ≡ message ++ rest = one_on bytes (place + 1 + 1) (length message) _ third in
    let all : length bytes - (place + 1 + 1 + 1) ≡ length message + length rest =
    sym (length-drop (place + 1 + 1 + 1) bytes) ∙ ap length fourth ∙ length-append message rest in
    let whole : nat_le (place + 3 + length message) (length bytes) ≡ true = grind (arith, nat_tests) in
    rw (what, sender, size, whole) refl

-- Each record before the others.

before_end : (senders : ℕ) (bytes : List ℕ) (place ticks : ℕ) → drop place bytes ≡ 4 ∷ [] → events_at senders bytes place ticks ≡ Ok []
before_end senders bytes place ticks is =
    let all : length bytes - place ≡ 1 = sym (length-drop place bytes) ∙ ap length is in
    steps_end senders bytes place ticks 1 End (sym (end_read senders bytes place [] is)) refl refl (omega arith)

tick_before : (senders : ℕ) (bytes : List ℕ) (place ticks word : ℕ) (rest : List ℕ) (others : List CoreEvent)
    → drop place bytes ≡ 1 ∷ big_bytes 4 word ++ rest → word < 2 ^ 32 → ticks + 1 ≤ 2147483648
    → events_at senders bytes (place + 5) (ticks + 1) ≡ Ok others → events_at senders bytes place ticks ≡ Ok (event.Tick word ∷ others)
tick_before senders bytes place ticks word rest others is fits few next =
    steps_on senders bytes place ticks (Tick word) (sym (tick_read senders bytes place word rest is fits)) refl few ∙ rw next refl

ticks_before : (senders : ℕ) (bytes : List ℕ) (place ticks count : ℕ) (rest : List ℕ) (others : List CoreEvent)
    → drop place bytes ≡ 2 ∷ big_bytes 4 count ++ rest → 1 ≤ count → ticks + count ≤ 2147483648
    → events_at senders bytes (place + 5) (ticks + count) ≡ Ok others
    → events_at senders bytes place ticks ≡ Ok (replicate count (event.Tick 0) ++ others)
ticks_before senders bytes place ticks count rest others is some few next =
    steps_on senders bytes place ticks (Ticks count) (sym (ticks_read senders bytes place count rest is some (omega arith))) refl few
    ∙ rw next refl

message_at : (bytes : List ℕ) (place : ℕ) (message rest : List ℕ) → drop place bytes ≡ message ++ rest
    → slice_range bytes place (place + length message) ≡ message
message_at bytes place message rest is =
    let e : place + length message - place ≡ length message = omega arith in
    rw (e, is) (take-append_seam message rest)

arrival_before : (senders : ℕ) (bytes : List ℕ) (place ticks from : ℕ) (message rest : List ℕ) (others : List CoreEvent)
    → drop place bytes ≡ 3 ∷ from ∷ length message ∷ (message ++ rest) → from < senders → 1 ≤ length message → length message ≤ 32
    → ticks ≤ 2147483648 → events_at senders bytes (place + (3 + length message)) ticks ≡ Ok others
    → events_at senders bytes place ticks ≡ Ok (event.Arrive from message ∷ others)
arrival_before senders bytes place ticks from message rest others is inside some few ok next =
    let none : ticks + 0 ≡ ticks = omega arith in
    let on = steps_on senders bytes place ticks (Arrival from (length message))
    (sym (arrival_read senders bytes place from message rest is inside some few)) refl (rw none ok) in
    let three : drop (place + 3) bytes ≡ message ++ rest = sym (drop-drop 3 place bytes) ∙ ap (λ (l : List ℕ). drop 3 l) is in
    on ∙ rw (none, next, message_at bytes (place + 3) message rest three) refl

-- What is written for an event, before what is written for the others.

at_same : (senders : ℕ) (bytes : List ℕ) (place ticks there : ℕ) (events : List CoreEvent) → ticks ≡ there
    → events_at senders bytes place there ≡ Ok events → events_at senders bytes place ticks ≡ Ok events
at_same senders bytes place ticks there events same is = rw same is

gathered_before : (senders : ℕ) (bytes : List ℕ) (place ticks count : ℕ) (more : List ℕ) (others : List CoreEvent)
    → drop place bytes ≡ gathered count ++ more → ticks + count ≤ 2147483648
    → ((p : ℕ) → drop p bytes ≡ more → events_at senders bytes p (ticks + count) ≡ Ok others)
    → events_at senders bytes place ticks ≡ Ok (replicate count (event.Tick 0) ++ others)
gathered_before senders bytes place ticks zero more others is few next =
    at_same senders bytes place ticks (ticks + 0) others (omega arith) (next place is)
gathered_before senders bytes place ticks (suc count) more others is few next =
    let e : eqb (suc count) 0 ≡ false = grind (arith, nat_tests) in
    let at : drop place bytes ≡ (2 ∷ big_bytes 4 (suc count)) ++ more = rw e at is in
    let size : length (2 ∷ big_bytes 4 (suc count)) ≡ 5 = omega (arith, length-bytes_high_first 4 (suc count)) in
    let behind : drop (place + 5) bytes ≡ more = rw (← size) (further bytes (2 ∷ big_bytes 4 (suc count)) more place at) in
    ticks_before senders bytes place ticks (suc count) more others at (omega arith) few (next (place + 5) behind)

quiet_regroup : (waiting quiet : ℕ) (last others : List CoreEvent)
    → replicate (waiting + quiet) (event.Tick 0) ++ (last ++ others)
    ≡ replicate waiting (event.Tick 0) ++ ((replicate quiet (event.Tick 0) ++ last) ++ others)
quiet_regroup waiting quiet last others =
    ap (λ (l : List CoreEvent). l ++ (last ++ others)) (sym (replicate-append-replicate waiting quiet (event.Tick 0)))
    ∙ append_assoc (replicate waiting (event.Tick 0)) (replicate quiet (event.Tick 0)) (last ++ others)
    ∙ ap (λ (l : List CoreEvent). replicate waiting (event.Tick 0) ++ l)
    (sym (append_assoc (replicate quiet (event.Tick 0)) last others))

one_more : (n : ℕ) (others : List CoreEvent) → replicate (n + 1) (event.Tick 0) ++ others ≡ replicate n (event.Tick 0) ++ (event.Tick 0 ∷ others)
one_more n others =
    ap (λ (l : List CoreEvent). l ++ others) (sym (replicate-append-replicate n 1 (event.Tick 0)))
    ∙ append_assoc (replicate n (event.Tick 0)) (event.Tick 0 ∷ []) others

event_before : (senders : ℕ) (bytes : List ℕ) (place ticks waiting quiet : ℕ) (kind : EventKind) (more : List ℕ) (others : List CoreEvent)
    → drop place bytes ≡ bytes_with (waiting + quiet) kind ++ more → MayHappen senders kind
    → ticks + waiting + (quiet + ticks_with kind) ≤ 2147483648
    → ((p done : ℕ) → drop p bytes ≡ more
    → done + waiting_with (waiting + quiet) kind ≡ ticks + waiting + (quiet + ticks_with kind)
    → events_at senders bytes p done ≡ Ok (replicate (waiting_with (waiting + quiet) kind) (event.Tick 0) ++ others))
    → events_at senders bytes place ticks
    ≡ Ok (replicate waiting (event.Tick 0) ++ ((replicate quiet (event.Tick 0) ++ given_with kind) ++ others))
event_before senders bytes place ticks waiting quiet (kinds.Tick word true) more others is may few next =
    let n = waiting + quiet in
    let tail : drop place bytes ≡ gathered n ++ ((1 ∷ big_bytes 4 word) ++ more) = is ∙ append_assoc (gathered n) (1 ∷ big_bytes 4 word) more in
    gathered_before senders bytes place ticks n ((1 ∷ big_bytes 4 word) ++ more) (event.Tick word ∷ others) tail (omega arith)
    (λ p at.
    let size : length (1 ∷ big_bytes 4 word) ≡ 5 = omega (arith, length-bytes_high_first 4 word) in
    let behind : drop (p + 5) bytes ≡ more = rw (← size) (further bytes (1 ∷ big_bytes 4 word) more p at) in
    tick_before senders bytes p (ticks + n) word more others at may (omega arith) (next (p + 5) (ticks + n + 1) behind (omega arith)))
    ∙ ap (λ (l : List CoreEvent). Ok l) (quiet_regroup waiting quiet (event.Tick word ∷ []) others)
event_before senders bytes place ticks waiting quiet (kinds.Tick word false) more others is may few next =
    next place ticks is (omega arith)
    ∙ ap (λ (l : List CoreEvent). Ok l)
    (one_more (waiting + quiet) others
    ∙ ap (λ (w : ℕ). replicate (waiting + quiet) (event.Tick 0) ++ (event.Tick w ∷ others)) (sym may)
    ∙ quiet_regroup waiting quiet (event.Tick word ∷ []) others)
event_before senders bytes place ticks waiting quiet (kinds.Arrive from message) more others is may few next =
    let n = waiting + quiet in
    let record_bytes = 3 ∷ from ∷ length message.items ∷ message.items in
    let tail : drop place bytes ≡ gathered n ++ (record_bytes ++ more) = is ∙ append_assoc (gathered n) record_bytes more in
    gathered_before senders bytes place ticks n (record_bytes ++ more) (event.Arrive from message.items ∷ others) tail (omega arith)
    (λ p at.
    let size : length record_bytes ≡ 3 + length message.items = omega arith in
    let behind : drop (p + (3 + length message.items)) bytes ≡ more = rw (← size) (further bytes record_bytes more p at) in
    arrival_before senders bytes p (ticks + n) from message.items more others at may.0 may.1 may.2 (omega arith)
    (next (p + (3 + length message.items)) (ticks + n) behind (omega arith)))
    ∙ ap (λ (l : List CoreEvent). Ok l) (quiet_regroup waiting quiet (event.Arrive from message.items ∷ []) others)

-- what is written for all events
pub events_read : (events : List Event) (senders : ℕ) (bytes : List ℕ) (place ticks waiting : ℕ) → drop place bytes ≡ written waiting events
    → All (λ (e : Event). MayHappen senders e.kind) events → ticks + waiting + laws.ticks_in events ≤ 2147483648
    → events_at senders bytes place ticks ≡ Ok (replicate waiting (event.Tick 0) ++ flat_map given events)
events_read [] senders bytes place ticks waiting is all few =
    gathered_before senders bytes place ticks waiting (4 ∷ []) [] is (omega arith)
    (λ p at. before_end senders bytes p (ticks + waiting) at)
events_read (e ∷ events) senders bytes place ticks waiting is all few =
    event_before senders bytes place ticks waiting e.quiet e.kind (written (waiting_with (waiting + e.quiet) e.kind) events)
    (flat_map given events) is (All-head (λ (x : Event). MayHappen senders x.kind) e events all) (omega arith)
    (λ p done at counted.
    events_read events senders bytes p done (waiting_with (waiting + e.quiet) e.kind) at (All-tail (λ (x : Event). MayHappen senders x.kind) e events all) (omega arith))

-- Records of any kind in any order.
pub told_read : (said : List Told) (senders : ℕ) (bytes : List ℕ) (place ticks : ℕ) → drop place bytes ≡ flat_map spelled said ++ 4 ∷ []
    → All (MayBeTold senders) said → ticks + all_ticks said ≤ 2147483648
    → events_at senders bytes place ticks ≡ Ok (flat_map events_told said)
told_read [] senders bytes place ticks is all few = before_end senders bytes place ticks is
told_read (told.OneTick word ∷ others) senders bytes place ticks is all few =
    let rest = flat_map spelled others ++ 4 ∷ [] in
    let at : drop place bytes ≡ (1 ∷ big_bytes 4 word) ++ rest =
    is ∙ append_assoc (1 ∷ big_bytes 4 word) (flat_map spelled others) (4 ∷ []) in
    let behind = further bytes (1 ∷ big_bytes 4 word) rest place at in
    tick_before senders bytes place ticks word rest (flat_map events_told others) at (All-head (MayBeTold senders) _ others all) (omega arith)
    (told_read others senders bytes (place + 5) (ticks + 1) behind (All-tail (MayBeTold senders) _ others all) (omega arith))
told_read (told.ManyTicks count ∷ others) senders bytes place ticks is all few =
    let rest = flat_map spelled others ++ 4 ∷ [] in
    let at : drop place bytes ≡ (2 ∷ big_bytes 4 count) ++ rest =
    is ∙ append_assoc (2 ∷ big_bytes 4 count) (flat_map spelled others) (4 ∷ []) in
    let behind = further bytes (2 ∷ big_bytes 4 count) rest place at in
    ticks_before senders bytes place ticks count rest (flat_map events_told others) at (All-head (MayBeTold senders) _ others all).0 (omega arith)
    (told_read others senders bytes (place + 5) (ticks + count) behind (All-tail (MayBeTold senders) _ others all) (omega arith))
told_read (told.Message from message ∷ others) senders bytes place ticks is all few =
    let rest = flat_map spelled others ++ 4 ∷ [] in
    let head = 3 ∷ from ∷ length message ∷ message in
    let at : drop place bytes ≡ (3 ∷ from ∷ length message ∷ message) ++ rest = is ∙ append_assoc head (flat_map spelled others) (4 ∷ []) in
    let size : length head ≡ 3 + length message = omega arith in
    let behind : drop (place + (3 + length message)) bytes ≡ rest = rw (← size) (further bytes head rest place at) in
    let may = All-head (MayBeTold senders) _ others all in
    arrival_before senders bytes place ticks from message rest (flat_map events_told others) at may.0 may.1 may.2 (omega arith)
    (told_read others senders bytes (place + (3 + length message)) ticks behind (All-tail (MayBeTold senders) _ others all) (omega arith))
