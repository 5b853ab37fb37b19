-- What is kept of the sights of one source in a stage.
use Rattle.std.specs.{Prelude.{ℕ, ◌≡◌, ◌+◌, ◌<◌, nat_le, ◌&&◌, not, Bool, true, false, if◌then◌else◌, min, max}, List.list_any}
use Rattle.rb_base.specs.{Counting.numbers, Nodes.has, declared.values.See.See}
use Rattle.rb_rules.specs.{Judging.{are_alike, is_something}, Majority.same_heard}
use Rattle.rb_judge.specs.{declared.seen.KeptSight.KeptSight, declared.seen.KeptSight.TheVariants.{Unlike, Value, Times}, declared.seen.SourceSights.SourceSights}
use Rattle.rb_base.specs.declared.values.See.TheVariants as see

-- some node of a kind passes
unfoldable pub some_node : (ℕ → Bool) → Bool
some_node passes = list_any passes (numbers 16)

-- two of the receivers `nodes` saw unlike sights
abbrev pub some_unlike : ℕ → ℕ → (ℕ → See) → Bool
some_unlike eps nodes sight = some_node (λ a. has nodes a && some_node (λ b. has nodes b && not (are_alike eps (sight a) (sight b))))

-- one of the receivers `nodes` saw a sight unlike x
abbrev pub some_differs : ℕ → ℕ → (ℕ → See) → See → Bool
some_differs eps nodes sight x = some_node (λ i. has nodes i && not (are_alike eps (sight i) x))

-- sight x is unlike one of the sights of which something is kept
abbrev pub clashes : ℕ → KeptSight → See → Bool
clashes eps Unlike x = true
clashes eps (Value v) see.Nothing = true
clashes eps (Value v) (see.Value w) = not (same_heard v w)
clashes eps (Value v) (see.Time t) = true
clashes eps (Times least greatest) see.Nothing = true
clashes eps (Times least greatest) (see.Value w) = true
clashes eps (Times least greatest) (see.Time t) = not (nat_le t (least + eps) && nat_le greatest (t + eps))

-- what is kept of a first sight
abbrev pub kept_of : See → KeptSight
kept_of see.Nothing = Unlike
kept_of (see.Value v) = Value v
kept_of (see.Time t) = Times t t

-- what is kept of sights and one more that is like all of them
abbrev pub widened : KeptSight → See → KeptSight
widened Unlike x = Unlike
widened (Value v) x = Value v
widened (Times least greatest) see.Nothing = Times least greatest
widened (Times least greatest) (see.Value w) = Times least greatest
widened (Times least greatest) (see.Time t) = Times (min least t) (max greatest t)

-- what is kept of sights and one more
abbrev pub kept_with : ℕ → Bool → KeptSight → See → KeptSight
kept_with eps heard kept x = if heard then (if clashes eps kept x then Unlike else widened kept x) else kept_of x

abbrev pub is_unlike : KeptSight → Bool
is_unlike Unlike = true
is_unlike (Value v) = false
is_unlike (Times least greatest) = false

-- `kept` says whether two receivers saw the source unlike. If none did, `kept` decides whether a
-- further sight of something is unlike a sight of one of the receivers
pub record IsKept (eps nodes : ℕ) (sight : ℕ → See) (kept : KeptSight) : Type 0 where
  pub unlike : is_unlike kept ≡ some_unlike eps nodes sight
  pub further : is_unlike kept ≡ false → (x : See) → is_something x ≡ true → clashes eps kept x ≡ some_differs eps nodes sight x

-- what the good receivers saw of a source, and what is kept of it: who saw something, whether
-- anybody did, whether two good receivers saw it unlike, and the value or the times that were seen
pub record ShowsSource (eps good : ℕ) (sight : ℕ → See) (seen : SourceSights) : Type 0 where
  pub by : (i : ℕ) → i < 16 → has seen.by i ≡ is_something (sight i)
  pub within : (i : ℕ) → i < 16 → has seen.by i ≡ true → has good i ≡ true
  pub heard : seen.heard ≡ some_node (has seen.by)
  pub unlike : seen.unlike ≡ some_unlike eps good sight
  pub kept : seen.heard ≡ true → IsKept eps seen.by sight seen.kept
