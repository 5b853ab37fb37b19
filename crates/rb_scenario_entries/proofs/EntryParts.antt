-- The parts of what is tested at an entry.
use Rattle.std.proofs.{Common.{◌≡◌, ◌-◌, ◌==◌, nat_le, Bool, true, ◌&&◌, ◌||◌, codes, Option, Some, None}, lemmas.Bool.and_parts}
use Rattle.std.specs.Prelude.{is_some, option_map}
use Rattle.toml.specs.Data.{Data, Members, get_member}
use Rattle.rb_base.specs.Sizes.{sync_slot_of}
use Rattle.rb_rules.specs.declared.link.Pattern.TheVariants.{One}
use Rattle.rb_scenario_document.specs.{Names.{node_at, pattern_at}, Values.{has_number, has_range, is_within, may_have_number, may_have_range, number_at}, Walk.absent_or}
use Rattle.rb_scenario_entries.specs.{declared.bus.Bus.Bus, Links.{are_apart, is_link}, Says.{content_in, is_offset, is_say, is_sync_alone, slots_of, stages_of}}

pub record LinkParts (bus : Bus) (e : Members) : Type 0 where
  pub apart : are_apart (pattern_at bus.shape (codes "from") e) (pattern_at bus.shape (codes "to") e) ≡ true
  pub delay : has_number (codes "delay") 1 1000000000 e ≡ true
  pub frames : may_have_range (codes "frames") 0 (bus.frames - 1) e ≡ true
  pub slots : may_have_range (codes "slots") 0 (sync_slot_of bus.shape) e ≡ true
  pub stages : may_have_range (codes "stages") 1 3 e ≡ true

pub link_parts : (bus : Bus) (e : Members) → is_link bus e ≡ true → LinkParts bus e
link_parts bus e h =
    let h4 = and_parts _ _ h in
    let h3 = and_parts _ _ h4.0 in
    let h2 = and_parts _ _ h3.0 in
    let h1 = and_parts _ _ h2.0 in
    record { apart = h1.0; delay = h1.1; frames = h2.1; slots = h3.1; stages = h4.1 }

pub record SayParts (bus : Bus) (e : Members) : Type 0 where
  pub apart : are_apart (option_map One (node_at bus.shape (codes "from") e)) (pattern_at bus.shape (codes "to") e) ≡ true
  pub frames : has_range (codes "frames") 0 (bus.frames - 1) e ≡ true
  pub slots : has_range (codes "slots") 0 (sync_slot_of bus.shape) e ≡ true
  pub stages : has_range (codes "stages") 1 4 e ≡ true
  pub tail : (nat_le (stages_of e).1 3 || is_sync_alone (sync_slot_of bus.shape) (slots_of e)) ≡ true
  pub offset : may_have_number (codes "offset") 0 4294967295 e ≡ true
  pub offset_lies : absent_or (is_offset bus.plan (sync_slot_of bus.shape) (slots_of e) (stages_of e)) (get_member (codes "offset") e) ≡ true
  pub early : may_have_number (codes "early") 0 (bus.plan.u - bus.plan.r - 1) e ≡ true
  pub early_in_sync : ((number_at (codes "early") 0 e == 0) || is_sync_alone (sync_slot_of bus.shape) (slots_of e)) ≡ true
  pub content : is_some (content_in e) ≡ true

-- a value that is absent or passes both tests is absent or passes the first
absent_or_first : (p q : Data → Bool) (o : Option Data) → absent_or (λ d. p d && q d) o ≡ true → absent_or p o ≡ true
absent_or_first p q None h = h
absent_or_first p q (Some d) h = (and_parts _ _ h).0

pub say_parts : (bus : Bus) (e : Members) → is_say bus e ≡ true → SayParts bus e
unfolding is_say
say_parts bus e h =
    let h3 = and_parts _ _ h in
    let h2 = and_parts _ _ h3.0 in
    let h1 = and_parts _ _ h2.0 in
    let ranges2 = and_parts _ _ h1.1 in
    let ranges1 = and_parts _ _ ranges2.0 in
    let times3 = and_parts _ _ h2.1 in
    let times2 = and_parts _ _ times3.0 in
    let times1 = and_parts _ _ times2.0 in
    record {
      apart = h1.0;
      frames = ranges1.0;
      slots = ranges1.1;
      stages = ranges2.1;
      tail = times1.0;
      offset = absent_or_first (is_within 0 4294967295) _ (get_member (codes "offset") e) times1.1;
      offset_lies = times1.1;
      early = times2.1;
      early_in_sync = times3.1;
      content = h3.1;
    }
