-- The votes of a frame on the vectors of the nodes of one kind.
use Rattle.std.specs.Prelude.{ℕ, ◌*◌, nat_lt, ◌&&◌, Bool, List, replicate, get_or}
use Rattle.rb_base.specs.{Counting.{count_if, numbers}, Nodes.{has, size}, declared.values.Heard.Heard, declared.values.Heard.TheVariants.Fault}
use Rattle.rb_rules.specs.Conviction.{is_valid, names}

-- how many nodes of the other kind there are, and the voted vector of each of the 16 senders that
-- there may be
pub record Votes : Type 0 where
  pub others : ℕ
  pub vectors : List Heard

-- no vector was entered
abbrev pub no_vectors : List Heard
no_vectors = replicate 16 Fault

-- the voted vector of a sender, Fault if none was entered
abbrev pub vector_in : List Heard → ℕ → Heard
vector_in vectors i = get_or vectors i Fault

-- the vector of sender i counts: the sender is one of the set, and its vector is valid
abbrev pub counts : ℕ → ℕ → (ℕ → Heard) → ℕ → Bool
counts others senders vector i = has senders i && is_valid others (vector i)

-- how many of a set of senders name node j
unfoldable pub against : ℕ → (ℕ → Heard) → ℕ → ℕ
against senders vector j = count_if (λ i. has senders i && names j (vector i)) (numbers 16)

-- more than half of them do
abbrev pub most_against : ℕ → (ℕ → Heard) → ℕ → Bool
most_against senders vector j = nat_lt (size senders) (2 * against senders vector j)
