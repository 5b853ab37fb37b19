-- What numbers and pairs that stand within bounds are, and what nodes are named.
use Rattle.std.proofs.{Common.{◌≡◌, ◌≤◌, ◌<◌, ℕ, Bool, List, cond, codes, true, false, pos, negsuc, Option, Some, None, subst}, lemmas.Bool.{and_parts, false≢true, leb-true}}
use Rattle.std.specs.{Prelude.option_map, Option.option_or, Str.bytes_eq}
use Rattle.toml.specs.Data.{Data, Members, string, integer, float, boolean, datetime, array, table, at, get_member}
use Rattle.rb_base.specs.{Sizes.Sizes, declared.node.NodeName.NodeName, declared.node.NodeName.TheVariants.{Biu, Rmu}}
use Rattle.rb_rules.specs.{declared.link.Pattern.Pattern, declared.link.Pattern.TheVariants.{One, AllBiu, AllRmu}, Lawful.{IsNodeOf, IsPatternOf}}
use Rattle.rb_scenario_document.specs.{Names.{biu_letter, named, node_at, node_named, pattern_at, pattern_named, rmu_letter, text_or_none}, Values.{is_range, is_within, number_or, pair_of}, Walk.{absent_or, passes}}
use Rattle.rb_scenario_document.proofs.NameLemmas.{named-lt}

-- a number that stands within bounds is within them
within-bounds : (low high default : ℕ) (d : Data) → is_within low high d ≡ true → (low ≤ number_or default (Some d)) × (number_or default (Some d) ≤ high)
within-bounds low high default (integer (pos n)) h = let both = and_parts _ _ h in (leb-true low n both.0, leb-true n high both.1)
within-bounds low high default (integer (negsuc n)) h = absurd (false≢true h)
within-bounds low high default (string s) h = absurd (false≢true h)
within-bounds low high default (float s) h = absurd (false≢true h)
within-bounds low high default (boolean s) h = absurd (false≢true h)
within-bounds low high default (datetime s) h = absurd (false≢true h)
within-bounds low high default (array s) h = absurd (false≢true h)
within-bounds low high default (table s) h = absurd (false≢true h)

pub passes-bounds : (low high default : ℕ) (o : Option Data) → passes (is_within low high) o ≡ true → (low ≤ number_or default o) × (number_or default o ≤ high)
passes-bounds low high default None h = absurd (false≢true h)
passes-bounds low high default (Some d) h = within-bounds low high default d h

pub absent_or-bounds : (low high default : ℕ) (o : Option Data) → low ≤ default → default ≤ high → absent_or (is_within low high) o ≡ true
    → (low ≤ number_or default o) × (number_or default o ≤ high)
absent_or-bounds low high default None least greatest h = (least, greatest)
absent_or-bounds low high default (Some d) least greatest h = within-bounds low high default d h

pub pair-bounds : (low high : ℕ) (d : Data) → is_range low high d ≡ true → (low ≤ (pair_of d).0) × ((pair_of d).0 ≤ (pair_of d).1) × ((pair_of d).1 ≤ high)
pair-bounds low high d h =
    let h2 = and_parts _ _ h in
    let h1 = and_parts _ _ h2.0 in
    ((passes-bounds low high 0 (at 0 d) h1.0).0, leb-true (pair_of d).0 (pair_of d).1 h2.1, (passes-bounds low high 0 (at 1 d) h1.1).1)

-- the node that is named is one of the bus
one_below : (sizes : Sizes) (b r : Option ℕ) → ((i : ℕ) → b ≡ Some i → i < sizes.bius) → ((i : ℕ) → r ≡ Some i → i < sizes.rmus)
    → (n : NodeName) → option_or (option_map Biu b) (option_map Rmu r) ≡ Some n → IsNodeOf sizes n
one_below sizes (Some i) r hb hr n e = let is : Biu i ≡ n = cc in subst (IsNodeOf sizes) is (hb i (λ j. Some i))
one_below sizes None (Some i) hb hr n e = let is : Rmu i ≡ n = cc in subst (IsNodeOf sizes) is (hr i (λ j. Some i))
one_below sizes None None hb hr n e = cc

below_in : (sizes : Sizes) (o : Option Data) (n : NodeName) → text_or_none (node_named sizes) o ≡ Some n → IsNodeOf sizes n
below_in sizes (Some (string text)) n e =
    one_below sizes (named biu_letter sizes.bius text) (named rmu_letter sizes.rmus text)
    (λ i h. named-lt biu_letter sizes.bius i text h) (λ i h. named-lt rmu_letter sizes.rmus i text h) n e
below_in sizes (Some (integer d)) n e = cc
below_in sizes (Some (float d)) n e = cc
below_in sizes (Some (boolean d)) n e = cc
below_in sizes (Some (datetime d)) n e = cc
below_in sizes (Some (array d)) n e = cc
below_in sizes (Some (table d)) n e = cc
below_in sizes None n e = cc

pub node_at-IsNodeOf : (sizes : Sizes) (key : List ℕ) (t : Members) (n : NodeName) → node_at sizes key t ≡ Some n → IsNodeOf sizes n
node_at-IsNodeOf sizes key t n e = below_in sizes (get_member key t) n e

mapped_one : (sizes : Sizes) (o : Option NodeName) → ((n : NodeName) → o ≡ Some n → IsNodeOf sizes n)
    → (p : Pattern) → option_map One o ≡ Some p → IsPatternOf sizes p
mapped_one sizes (Some n) h p e = let is : One n ≡ p = cc in subst (IsPatternOf sizes) is (h n (λ j. Some n))
mapped_one sizes None h p e = cc

pattern_by : (sizes : Sizes) (all_bius all_rmus : Bool) (o : Option NodeName) → ((n : NodeName) → o ≡ Some n → IsNodeOf sizes n)
    → (p : Pattern) → cond all_bius (Some AllBiu) (cond all_rmus (Some AllRmu) (option_map One o)) ≡ Some p → IsPatternOf sizes p
pattern_by sizes true all_rmus o h p e = let is : AllBiu ≡ p = cc in subst (IsPatternOf sizes) is tt
pattern_by sizes false true o h p e = let is : AllRmu ≡ p = cc in subst (IsPatternOf sizes) is tt
pattern_by sizes false false o h p e = mapped_one sizes o h p e

pattern_in : (sizes : Sizes) (o : Option Data) (p : Pattern) → text_or_none (pattern_named sizes) o ≡ Some p → IsPatternOf sizes p
pattern_in sizes (Some (string text)) p e =
    pattern_by sizes (bytes_eq text (codes "B")) (bytes_eq text (codes "R")) (node_named sizes text) (λ n is. below_in sizes (Some (string text)) n is) p e
pattern_in sizes (Some (integer d)) p e = cc
pattern_in sizes (Some (float d)) p e = cc
pattern_in sizes (Some (boolean d)) p e = cc
pattern_in sizes (Some (datetime d)) p e = cc
pattern_in sizes (Some (array d)) p e = cc
pattern_in sizes (Some (table d)) p e = cc
pattern_in sizes None p e = cc

pub pattern_at-IsPatternOf : (sizes : Sizes) (key : List ℕ) (t : Members) (p : Pattern) → pattern_at sizes key t ≡ Some p → IsPatternOf sizes p
pattern_at-IsPatternOf sizes key t p e = pattern_in sizes (get_member key t) p e

-- the default does not matter if a number within bounds is there
pub number_there : (low high a b : ℕ) (d : Data) → is_within low high d ≡ true → number_or a (Some d) ≡ number_or b (Some d)
number_there low high a b (integer (pos n)) h = λ j. n
number_there low high a b (integer (negsuc n)) h = absurd (false≢true h)
number_there low high a b (string s) h = absurd (false≢true h)
number_there low high a b (float s) h = absurd (false≢true h)
number_there low high a b (boolean s) h = absurd (false≢true h)
number_there low high a b (datetime s) h = absurd (false≢true h)
number_there low high a b (array s) h = absurd (false≢true h)
number_there low high a b (table s) h = absurd (false≢true h)
