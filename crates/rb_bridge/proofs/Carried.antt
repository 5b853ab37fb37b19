-- What is handed over by what a frame's records tell is what the bridge carries to that bank.
use Rattle.std.proofs.{Common.{◌≡◌, ℕ, ◌+◌, List, map, filter, ap}, Math.Path.fun_ext}
use Rattle.rb_base.specs.Nodes.Side.{Biu}
use Rattle.rb_rules.specs.{Book.Record, Goodness.is_good, Ports.HandIn}
use Rattle.rb_group.specs.Portions.{port_deliveries}
use Rattle.rb_rules_bridge.specs.{declared.bank.Bank.Bank, declared.bank.Pair.Pair, Bridges.{Bridge, across, biu_on, bus_on, carried_slot}, Crossings.{Hands, carried_to, hand_in_of, records_on, value_in, value_told, word_of}}
use Rattle.rb_bridge.proofs.Handed.{handed_for}

pub carries-over : (b : Bridge) (hands : Hands) (bank : Bank) (frame : ℕ) (records : List Record)
    → ((receiver : ℕ) → port_deliveries frame receiver records ≡ port_deliveries frame receiver (records_on b hands (across bank)))
    → map (handed_for bank (value_told frame (carried_slot b (across bank)) records) (frame + 1)) (filter (λ pair. is_good (bus_on b bank) Biu (biu_on bank pair) (frame + 1) 0) b.pairs)
    ≡ carried_to b hands bank frame
carries-over b hands bank frame records told =
    let near : Bank = across bank in
    let slot : ℕ = carried_slot b near in
    let make : (Pair → HandIn) → List HandIn = λ f. map f (filter (λ pair. is_good (bus_on b bank) Biu (biu_on bank pair) (frame + 1) 0) b.pairs) in
    let same : handed_for bank (value_told frame slot records) (frame + 1) ≡ hand_in_of b hands bank frame =
    fun_ext (λ pair. ap (λ word. record { frame = frame + 1; biu = biu_on bank pair; state = word }) (ap (λ ds. word_of (value_in slot ds)) (told (biu_on near pair)))) in
    ap make same
