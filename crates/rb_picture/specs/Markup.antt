-- The text of a picture: each definition gives a text with something more behind it.
use Rattle.std.specs.{Prelude.{ℕ, zero, suc, ◌==◌, List, [], ◌∷◌, ◌++◌, codes, if◌then◌else◌}, Fmt.decimal, List.flat_map}
use Rattle.rb_picture.specs.declared.markup.Area.{Area}

-- a byte of text, with a name for those that mean more
abbrev pub escape : ℕ → List ℕ
escape byte =
    if byte == 60 then codes "&lt;" else if byte == 62 then codes "&gt;" else if byte == 38 then codes "&amp;" else if byte == 34 then codes "&quot;" else byte ∷ []

unfoldable pub escaped : List ℕ → List ℕ
escaped bytes = flat_map escape bytes

-- an attribute
unfoldable pub with_attribute : List ℕ → List ℕ → List ℕ → List ℕ
with_attribute text name value = ((((text ++ codes " ") ++ name) ++ codes "=\"") ++ escaped value) ++ codes "\""

unfoldable pub with_number : List ℕ → List ℕ → ℕ → List ℕ
with_number text name number = with_attribute text name (decimal number)

-- a rectangle of a look
unfoldable pub with_box : List ℕ → Area → List ℕ → List ℕ
with_box text area look =
    with_attribute (with_number (with_number (with_number (with_number (text ++ codes "<rect") (codes "x") area.x) (codes "y") area.y) (codes "width") area.width) (codes "height") area.height) (codes "class") look ++ codes "></rect>\n"

-- a text of a look, in two parts
unfoldable pub with_label : List ℕ → ℕ → ℕ → List ℕ → List ℕ → List ℕ → List ℕ
with_label text x y look before after =
    (((with_attribute (with_number (with_number (text ++ codes "<text") (codes "x") x) (codes "y") y) (codes "class") look ++ codes ">") ++ escaped before) ++ escaped after) ++ codes "</text>\n"

-- how a picture begins: its size, and the colors of the looks
unfoldable pub with_opening : List ℕ → ℕ → ℕ → List ℕ → List ℕ
with_opening text width height style =
    ((((((with_number (with_number (text ++ codes "<svg xmlns=\"http://www.w3.org/2000/svg\" role=\"img\"") (codes "width") width) (codes "height") height ++ codes " viewBox=\"0 0 ") ++ escaped (decimal width)) ++ codes " ") ++ escaped (decimal height)) ++ codes "\"><title>A run of the bus</title><style>") ++ escaped style) ++ codes "</style>"

-- something of each number below a count, in order
unfoldable pub each_below : (List ℕ → ℕ → List ℕ) → ℕ → List ℕ → List ℕ
each_below with_one zero text = text
each_below with_one (suc n) text = with_one (each_below with_one n text) n
