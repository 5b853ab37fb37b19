-- What the root of a document says of each BIU: its request, its word and its application.
use Rattle.std.specs.{Prelude.{ℕ, Bool, ◌&&◌, nat_lt, List, map, Option, Some, None, is_some, unwrap_or, codes, if◌then◌else◌}, Str.bytes_eq}
use Rattle.toml.specs.Data.{Data, string, Members}
use Rattle.rb_base.specs.Counting.{numbers}
use Rattle.rb_scenario_document.specs.{Values.{is_within, item_at, may_have_list, number_or}, Walk.has_key}

-- the number of an application
abbrev pub app_named : List ℕ → Option ℕ
app_named text =
    if bytes_eq text (codes "table") then Some 0
    else (if bytes_eq text (codes "counter") then Some 1 else (if bytes_eq text (codes "follow") then Some 2 else None))

-- the application that a value names
abbrev pub app_in : Option Data → Option ℕ
app_in (Some (string text)) = app_named text
app_in _ = None

-- the value names an application
abbrev pub is_app : Data → Bool
is_app d = is_some (app_in (Some d))

-- the requests, from 0 to 64, the words, below 2^32, and the applications are each a list with one
-- such item for each BIU, or not there
abbrev pub has_lists : ℕ → Members → Bool
has_lists bius t =
    may_have_list (codes "requests") bius (is_within 0 64) t
    && may_have_list (codes "words") bius (is_within 0 4294967295) t
    && may_have_list (codes "apps") bius is_app t

-- how many data slots BIU i asks for: one, if nothing is said. Past the last BIU 0
abbrev pub request_at : ℕ → Members → ℕ → ℕ
request_at bius t i =
    if has_key (codes "requests") t then number_or 0 (item_at (codes "requests") i t) else (if nat_lt i bius then 1 else 0)

-- the state with which the port of BIU i begins: 0, if nothing is said
abbrev pub word_at : Members → ℕ → ℕ
word_at t i = number_or 0 (item_at (codes "words") i t)

-- the application at BIU i: the first, if nothing is said
abbrev pub app_at : Members → ℕ → ℕ
app_at t i = unwrap_or (app_in (item_at (codes "apps") i t)) 0

-- the requests of 16 BIUs
unfoldable pub requests_of : ℕ → Members → List ℕ
requests_of bius t = map (request_at bius t) (numbers 16)

unfoldable pub words_of : Members → List ℕ
words_of t = map (word_at t) (numbers 16)

unfoldable pub apps_of : Members → List ℕ
apps_of t = map (app_at t) (numbers 16)
