-- Well-formed text: elements that nest and close, and text that is escaped.
use Rattle.std.specs.{Prelude.{ℕ, ◌≡◌, List, [], ◌++◌, codes}, List.flat_map}
use Rattle.rb_picture.specs.Markup.{escaped}

-- the elements
pub data Tag : Type 0 where
  Svg : Tag
  Title : Tag
  Style : Tag
  Rect : Tag
  Label : Tag

abbrev pub tag_text : Tag → List ℕ
tag_text Svg = codes "svg"
tag_text Title = codes "title"
tag_text Style = codes "style"
tag_text Rect = codes "rect"
tag_text Label = codes "text"

-- the attributes
pub data Key : Type 0 where
  Xmlns : Key
  Role : Key
  X : Key
  Y : Key
  Width : Key
  Height : Key
  ViewBox : Key
  Class : Key

abbrev pub key_text : Key → List ℕ
key_text Xmlns = codes "xmlns"
key_text Role = codes "role"
key_text X = codes "x"
key_text Y = codes "y"
key_text Width = codes "width"
key_text Height = codes "height"
key_text ViewBox = codes "viewBox"
key_text Class = codes "class"

pub record Attribute : Type 0 where
  pub key : Key
  pub value : List ℕ

-- what stands in an element: nothing, or text, or an element with what stands in it, each with what
-- follows
pub data Content : Type 0 where
  Nothing : Content
  Text : (text : List ℕ) (after : Content) → Content
  Element : (tag : Tag) (attributes : List Attribute) (inside after : Content) → Content

abbrev pub attribute_text : Attribute → List ℕ
attribute_text a = codes " " ++ (key_text a.key ++ (codes "=\"" ++ (escaped a.value ++ codes "\"")))

-- an element is opened, filled and closed
abbrev pub element_text : Tag → List Attribute → List ℕ → List ℕ
element_text tag attributes inside =
    codes "<" ++ (tag_text tag ++ (flat_map attribute_text attributes ++ (codes ">" ++ (inside ++ (codes "</" ++ (tag_text tag ++ codes ">"))))))

-- how it is written
abbrev pub content_text : Content → List ℕ
content_text Nothing = []
content_text (Text text after) = escaped text ++ content_text after
content_text (Element tag attributes inside after) = element_text tag attributes (content_text inside) ++ content_text after

-- content was written behind a text
pub record AddsContent (before after : List ℕ) : Type 0 where
  pub content : Content
  pub written : after ≡ before ++ content_text content

-- the bytes are one svg element
pub record IsDocument (bytes : List ℕ) : Type 0 where
  pub attributes : List Attribute
  pub inside : Content
  pub written : bytes ≡ content_text (Element Svg attributes inside (Text (codes "\n") Nothing))
