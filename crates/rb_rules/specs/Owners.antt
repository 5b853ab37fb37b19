-- Which BIU owns which data slot.
use Rattle.std.specs.{Prelude.{ℕ, nat_lt, ◌&&◌, List, filter, take, get_or}, List.flat_map}
use Rattle.rb_base.specs.{Counting.numbers, Nodes.has, Sizes.Sizes, declared.values.Heard.Heard, declared.values.Heard.TheVariants.{Word, Fault}}

-- how many slots a voted request asks for
abbrev pub request_in : Heard → ℕ
request_in (Word slots) = slots
request_in Fault = 0

-- in pass p each trusted BIU that asks for more than p slots gets one, in order of the BIUs
abbrev pub owners_in_pass : Sizes → ℕ → List Heard → ℕ → List ℕ
owners_in_pass sizes trusted requests pass =
    filter (λ i. has trusted i && nat_lt pass (request_in (get_or requests i Fault))) (numbers sizes.bius)

-- the owners that a number of passes give, one after another, until the slots are used up
abbrev pub owners_in_passes : Sizes → ℕ → List Heard → ℕ → List ℕ
owners_in_passes sizes trusted requests passes =
    take sizes.data_slots (flat_map (owners_in_pass sizes trusted requests) (numbers passes))

-- the owners of the data slots in order; a slot past the end has none. After a pass in which nobody
-- asks all others are empty, so as many passes as there are slots are enough
abbrev pub owners_of : Sizes → ℕ → List Heard → List ℕ
owners_of sizes trusted requests =
    take sizes.data_slots (flat_map (owners_in_pass sizes trusted requests) (numbers sizes.data_slots))
