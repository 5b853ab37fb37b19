-- what begins with an opening and ends with its element is a document
use Rattle.std.proofs.{Common.{◌≡◌, ◌∙◌, ℕ, List, [], ◌∷◌, ◌++◌, codes, sym, ap, append_assoc, append-nil}, lemmas.List.Concat.flat_map-append}
use Rattle.std.specs.{Fmt.decimal, List.flat_map}
use Rattle.rb_picture.specs.{Content.{AddsContent, Attribute, IsDocument, attribute_text, content_text}, Content.Content.{Nothing, Text, Element}, Content.Tag.{Title, Style}, Content.Key.{Height, Role, ViewBox, Width, Xmlns}, Markup.{escape, escaped, with_number, with_opening}}
use Rattle.rb_picture.proofs.WellFormed.{with_all_is}

svg_parts : (o n x r aw ah v z w sp h q g t st sty cl c e nl : List ℕ)
    → (((((((((((o ++ (n ++ (x ++ r))) ++ (aw ++ (ah ++ []))) ++ (v ++ z)) ++ w) ++ sp) ++ h) ++ (q ++ (g ++ (t ++ st)))) ++ sty) ++ cl) ++ c) ++ (e ++ nl))
    ≡ (o ++ (n ++ ((x ++ (r ++ (aw ++ (ah ++ ((v ++ ((z ++ (w ++ (sp ++ h))) ++ q)) ++ []))))) ++ (g ++ ((t ++ ((st ++ ((sty ++ []) ++ cl)) ++ c)) ++ e))))) ++ nl
svg_parts o n x r aw ah v z w sp h q g t st sty cl c e nl = simp (append_assoc, append-nil)

abbrev sizes : ℕ → ℕ → List Attribute
sizes w h = record { key = Width; value = decimal w } ∷ record { key = Height; value = decimal h } ∷ []

abbrev view : ℕ → ℕ → List ℕ
view w h = codes "0 0 " ++ (decimal w ++ (codes " " ++ decimal h))

view_is : (w h : ℕ) → codes "0 0 " ++ (escaped (decimal w) ++ (codes " " ++ escaped (decimal h))) ≡ escaped (view w h)
unfolding escaped
view_is w h = ap (λ t. codes "0 0 " ++ t) (sym (flat_map-append escape (decimal w) (codes " " ++ decimal h)))

abbrev svg_attributes : ℕ → ℕ → List Attribute
svg_attributes w h =
    record { key = Xmlns; value = codes "http://www.w3.org/2000/svg" } ∷ record { key = Role; value = codes "img" }
    ∷ record { key = Width; value = decimal w } ∷ record { key = Height; value = decimal h }
    ∷ record { key = ViewBox; value = view w h } ∷ []

abbrev opening_after : List ℕ → ℕ → ℕ → List ℕ → List ℕ
opening_after t w h style =
    ((((((t ++ codes " viewBox=\"0 0 ") ++ escaped (decimal w)) ++ codes " ") ++ escaped (decimal h)) ++ codes "\"><title>A run of the bus</title><style>") ++ escaped style) ++ codes "</style>"

abbrev start : List ℕ
start = codes "<svg xmlns=\"http://www.w3.org/2000/svg\" role=\"img\""

abbrev xmlns : Attribute
xmlns = record { key = Xmlns; value = codes "http://www.w3.org/2000/svg" }

abbrev role : Attribute
role = record { key = Role; value = codes "img" }

abbrev whole : ℕ → ℕ → List ℕ → List ℕ → List ℕ → List ℕ
whole w h shown style c =
    (codes "<" ++ (codes "svg" ++ ((attribute_text xmlns ++ (attribute_text role ++ (attribute_text (record { key = Width; value = decimal w })
    ++ (attribute_text (record { key = Height; value = decimal h }) ++ ((codes " viewBox=\"" ++ (shown ++ codes "\"")) ++ [])))))
    ++ (codes ">" ++ ((codes "<title>A run of the bus</title>" ++ ((codes "<style>" ++ ((escaped style ++ []) ++ codes "</style>")) ++ c)) ++ codes "</svg>"))))) ++ codes "\n"

whole_is : (w h : ℕ) (style c : List ℕ) → (opening_after (start ++ flat_map attribute_text (sizes w h)) w h style ++ c) ++ codes "</svg>\n" ≡ whole w h (escaped (view w h)) style c
unfolding escaped
whole_is w h style c =
    svg_parts (codes "<") (codes "svg") (attribute_text xmlns) (attribute_text role) (attribute_text (record { key = Width; value = decimal w }))
    (attribute_text (record { key = Height; value = decimal h })) (codes " viewBox=\"") (codes "0 0 ") (escaped (decimal w)) (codes " ") (escaped (decimal h))
    (codes "\"") (codes ">") (codes "<title>A run of the bus</title>") (codes "<style>") (escaped style) (codes "</style>") c (codes "</svg>") (codes "\n")
    ∙ ap (λ shown. whole w h shown style c) (view_is w h)

-- an opening, content, and the end of the element
pub document : (w h : ℕ) (style all : List ℕ) → AddsContent (with_opening [] w h style) all → IsDocument (all ++ codes "</svg>\n")
unfolding with_opening with_number escaped
document w h style all adds = record {
  attributes = svg_attributes w h;
  inside = Element Title [] (Text (codes "A run of the bus") Nothing) (Element Style [] (Text style Nothing) adds.content);
  written =
      ap (λ b. b ++ codes "</svg>\n") adds.written
      ∙ ap (λ t. (opening_after t w h style ++ content_text adds.content) ++ codes "</svg>\n") (with_all_is start (sizes w h))
      ∙ whole_is w h style (content_text adds.content);
}
