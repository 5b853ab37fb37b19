-- all that is written behind a text is content
use Rattle.std.proofs.Common.{◌≡◌, ◌∙◌, ℕ, zero, suc, Bool, true, false, if◌then◌else◌, List, [], ◌∷◌, ◌++◌, codes, refl, sym, ap, append_assoc, append-nil}
use Rattle.std.specs.{Fmt.decimal, List.flat_map}
use Rattle.rb_picture.specs.{declared.markup.Area.Area, Content.{AddsContent, Attribute, Content, Key, attribute_text, content_text, element_text, key_text}, Content.Content.{Nothing, Text, Element}, Content.Tag.{Rect, Label}, Content.Key.{Class, Height, Width, X, Y}, Markup.{each_below, escaped, with_attribute, with_box, with_label, with_number}}

-- the second content behind the first
abbrev pub follow : Content → Content → Content
follow Nothing more = more
follow (Text text after) more = Text text (follow after more)
follow (Element tag attributes inside after) more = Element tag attributes inside (follow after more)

pub follow_text : (c more : Content) → content_text (follow c more) ≡ content_text c ++ content_text more
follow_text Nothing more = refl
follow_text (Text text after) more =
    ap (λ t. escaped text ++ t) (follow_text after more) ∙ sym (append_assoc (escaped text) (content_text after) (content_text more))
follow_text (Element tag attributes inside after) more =
    ap (λ t. element_text tag attributes (content_text inside) ++ t) (follow_text after more)
    ∙ sym (append_assoc (element_text tag attributes (content_text inside)) (content_text after) (content_text more))

pub adds_nothing : {t : List ℕ} → AddsContent t t
adds_nothing {t} = record { content = Nothing; written = sym (append-nil t) }

-- what is added in two steps is added in one, the last step first
pub adds_more : {a b c : List ℕ} → AddsContent b c → AddsContent a b → AddsContent a c
adds_more {a} {b} {c} second first = record {
  content = follow first.content second.content;
  written =
      second.written ∙ ap (λ t. t ++ content_text second.content) first.written
      ∙ append_assoc a (content_text first.content) (content_text second.content)
      ∙ ap (λ t. a ++ t) (sym (follow_text first.content second.content));
}

pub adds_each : (with_one : List ℕ → ℕ → List ℕ) → ((t : List ℕ) (n : ℕ) → AddsContent t (with_one t n)) → (n : ℕ) (t : List ℕ) → AddsContent t (each_below with_one n t)
unfolding each_below
adds_each with_one one zero t = adds_nothing
adds_each with_one one (suc n) t = adds_more (one (each_below with_one n t) n) (adds_each with_one one n t)

pub adds_either : (test : Bool) (t u v : List ℕ) → AddsContent t u → AddsContent t v → AddsContent t (if test then u else v)
adds_either true t u v first second = first
adds_either false t u v first second = second

pub adds_if : (test : Bool) (t u : List ℕ) → AddsContent t u → AddsContent t (if test then u else t)
adds_if test t u adds = adds_either test t u t adds adds_nothing

attribute_parts : (t a b c d e : List ℕ) → ((((t ++ a) ++ b) ++ c) ++ d) ++ e ≡ t ++ (a ++ (b ++ (c ++ (d ++ e))))
attribute_parts t a b c d e = simp append_assoc

abbrev attribute : Key → List ℕ → Attribute
attribute k v = record { key = k; value = v }

pub with_attribute_is : (t : List ℕ) (a : Attribute) → with_attribute t (key_text a.key) a.value ≡ t ++ attribute_text a
unfolding with_attribute
with_attribute_is t a = attribute_parts t (codes " ") (key_text a.key) (codes "=\"") (escaped a.value) (codes "\"")

-- the text with all attributes, one after the other
abbrev pub with_all : List ℕ → List Attribute → List ℕ
with_all t [] = t
with_all t (a ∷ more) = with_all (with_attribute t (key_text a.key) a.value) more

pub with_all_is : (t : List ℕ) (more : List Attribute) → with_all t more ≡ t ++ flat_map attribute_text more
with_all_is t [] = sym (append-nil t)
with_all_is t (a ∷ more) =
    with_all_is (with_attribute t (key_text a.key) a.value) more
    ∙ ap (λ u. u ++ flat_map attribute_text more) (with_attribute_is t a)
    ∙ append_assoc t (attribute_text a) (flat_map attribute_text more)

-- a line feed is no byte that means more
feed : codes "\n" ≡ content_text (Text (codes "\n") Nothing)
unfolding escaped
feed = refl

box_parts : (t r a f g : List ℕ) → ((t ++ r) ++ a) ++ (f ++ g) ≡ t ++ ((r ++ (a ++ f)) ++ g)
box_parts t r a f g = simp append_assoc

abbrev box_attributes : Area → List ℕ → List Attribute
box_attributes area look =
    attribute X (decimal area.x) ∷ attribute Y (decimal area.y) ∷ attribute Width (decimal area.width)
    ∷ attribute Height (decimal area.height) ∷ attribute Class look ∷ []

pub adds_box : (t : List ℕ) (area : Area) (look : List ℕ) → AddsContent t (with_box t area look)
unfolding with_box with_number escaped
adds_box t area look = record {
  content = Element Rect (box_attributes area look) Nothing (Text (codes "\n") Nothing);
  written =
      ap (λ u. u ++ codes "></rect>\n") (with_all_is (t ++ codes "<rect") (box_attributes area look))
      ∙ box_parts t (codes "<rect") (flat_map attribute_text (box_attributes area look)) (codes "></rect>") (codes "\n");
}

label_parts : (t r a o b c f g : List ℕ) → (((((t ++ r) ++ a) ++ o) ++ b) ++ c) ++ (f ++ g) ≡ t ++ ((r ++ (a ++ (o ++ ((b ++ (c ++ [])) ++ f)))) ++ g)
label_parts t r a o b c f g = simp (append_assoc, append-nil)

abbrev label_attributes : ℕ → ℕ → List ℕ → List Attribute
label_attributes x y look = attribute X (decimal x) ∷ attribute Y (decimal y) ∷ attribute Class look ∷ []

pub adds_label : (t : List ℕ) (x y : ℕ) (look before after : List ℕ) → AddsContent t (with_label t x y look before after)
unfolding with_label with_number
adds_label t x y look before after = record {
  content = Element Label (label_attributes x y look) (Text before (Text after Nothing)) (Text (codes "\n") Nothing);
  written =
      ap (λ u. (((u ++ codes ">") ++ escaped before) ++ escaped after) ++ codes "</text>\n") (with_all_is (t ++ codes "<text") (label_attributes x y look))
      ∙ label_parts t (codes "<text") (flat_map attribute_text (label_attributes x y look)) (codes ">") (escaped before) (escaped after) (codes "</text>") (codes "\n")
      ∙ ap (λ nl. t ++ (element_text Label (label_attributes x y look) (escaped before ++ (escaped after ++ [])) ++ nl)) feed;
}
