-- The text of a row of numbers: it is read as that row and as no other.
use Rattle.std.proofs.Common.{◌≡◌, ℕ, zero, suc, ◌+◌, ◌^◌, ◌<◌, ◌≤◌, List, [], ◌∷◌, ◌++◌, length, map, Bool, true, false, IsTrue, Option, Some, None, option_map, option_and_then, decimal, refl, sym, ap, subst, ◌∙◌, arith, append-nil}
use Rattle.std.specs.Str.{IsUtf8, IsAscii}
use Rattle.std.proofs.lemmas.Str.{IsUtf8-from_ascii, IsUtf8-append, IsUtf8-nil}
use Rattle.std.proofs.lemmas.Fmt.{IsAscii-decimal}
use Rattle.json.specs.Json as json
use Rattle.json.specs.Lex.{tokens}
use Rattle.json.specs.Tree.{json_tokens, items_depth, ItemsHaveNumbers}
use Rattle.json.proofs.Printed.Tokens.{tokens-print}
use Rattle.json.proofs.Printed.Trees.{value-json_tokens, ArePrintable-json_tokens}
use Rattle.json.proofs.Printed.Decimals.{IsNumber-decimal}
use Rattle.serde_json.specs.Data.{Num, unsigned, negative, float, Data, null, boolean, number, string, array, object, Items, no_items, item}
use Rattle.json.specs.Token.{Token}
use Rattle.serde_json.specs.Read.{read, of_json, of_items, max_depth}
use Rattle.serde_json.specs.View.{items_of}
use Rattle.serde_json.specs.Written.{outline, items_outline, has_float, items_have_float, comma_if, items_text}
use Rattle.serde_json.proofs.Numbers.{number_of-decimal}
use Rattle.serde_json.proofs.Texts.{print-outline}
use Rattle.host_keep.specs.RecordText.{AreLong, number_data, row_data, row_text}

pub first_long : (n : ℕ) (ns : List ℕ) → AreLong (n ∷ ns) → n < 2 ^ 64
first_long n ns h = h 0 (omega arith)

pub rest_long : (n : ℕ) (ns : List ℕ) → AreLong (n ∷ ns) → AreLong ns
rest_long n ns h = λ k l. h (suc k) (omega arith)

-- ---- no number is a float

no_float_items : (ns : List ℕ) → items_have_float (items_of (map number_data ns)) ≡ false
no_float_items [] = refl
no_float_items (n ∷ ns) = no_float_items ns

pub no_float : (ns : List ℕ) → has_float (row_data ns) ≡ false
no_float ns = no_float_items ns

-- ---- the text is read as the row

printable : (ns : List ℕ) → AreLong ns → ItemsHaveNumbers (items_outline (items_of (map number_data ns)))
printable [] h = tt
printable (n ∷ ns) h = (IsNumber-decimal n (first_long n ns h), printable ns (rest_long n ns h))

read_items : (ns : List ℕ) → AreLong ns → of_items (items_outline (items_of (map number_data ns))) ≡ Some (items_of (map number_data ns))
read_items [] h = refl
read_items (n ∷ ns) h =
    let more = items_outline (items_of (map number_data ns)) in
    ap (λ o. option_and_then (λ d. option_map (item d) (of_items more)) (option_map number o)) (number_of-decimal n (first_long n ns h))
    ∙ ap (option_map (item (number_data n))) (read_items ns (rest_long n ns h))

shallow : (ns : List ℕ) → items_depth (items_outline (items_of (map number_data ns))) ≤ 0
shallow [] = omega arith
shallow (n ∷ ns) = omega (arith, shallow ns)

tokens_row : (ns : List ℕ) → AreLong ns → tokens (row_text ns) ≡ json_tokens (outline (row_data ns))
unfolding row_text
tokens_row ns h =
    ap tokens (sym (print-outline (row_data ns))) ∙ tokens-print (json_tokens (outline (row_data ns))) (ArePrintable-json_tokens (outline (row_data ns)) (printable ns h))

-- what a whole text is read as
abbrev whole : Option (json.Json × List Token) → Option Data
whole o = option_and_then of_json (option_and_then (λ p. json.if_last p.0 p.1) o)

pub read_row : (ns : List ℕ) → AreLong ns → read (row_text ns) ≡ Some (row_data ns)
read_row ns h =
    let j = outline (row_data ns) in
    ap (λ ts. whole (json.value max_depth ts)) (tokens_row ns h ∙ sym (append-nil (json_tokens j)))
    ∙ ap whole (value-json_tokens j max_depth [] (omega (arith, shallow ns)))
    ∙ ap (option_map array) (read_items ns h)

-- ---- the text is ASCII

ascii_one : (x : ℕ) → x < 128 → IsAscii (x ∷ [])
ascii_one x h zero = h
ascii_one x h (suc i) = omega arith

utf8_one : (x : ℕ) → x < 128 → IsUtf8 (x ∷ [])
utf8_one x h = IsUtf8-from_ascii (x ∷ []) (ascii_one x h)

utf8_comma : (later : Bool) → IsUtf8 (comma_if later)
utf8_comma true = utf8_one 44 (omega arith)
utf8_comma false = IsUtf8-nil

utf8_items : (later : Bool) (ns : List ℕ) → AreLong ns → IsUtf8 (items_text later (items_of (map number_data ns)))
utf8_items later [] h = utf8_one 93 (omega arith)
utf8_items later (n ∷ ns) h =
    IsUtf8-append (comma_if later) _ (utf8_comma later)
    (IsUtf8-append (decimal n) _ (IsUtf8-from_ascii (decimal n) (IsAscii-decimal n (first_long n ns h))) (utf8_items true ns (rest_long n ns h)))

pub utf8_row : (ns : List ℕ) → AreLong ns → IsUtf8 (row_text ns)
unfolding row_text
utf8_row ns h = IsUtf8-append (91 ∷ []) (items_text false (items_of (map number_data ns))) (utf8_one 91 (omega arith)) (utf8_items false ns h)

-- ---- no two rows have one text

abbrev num_value : Num → ℕ
num_value (unsigned n) = n
num_value (negative z) = 0
num_value (float x) = 0

abbrev data_value : Data → ℕ
data_value null = 0
data_value (boolean b) = 0
data_value (number n) = num_value n
data_value (string s) = 0
data_value (array ds) = 0
data_value (object ms) = 0

abbrev items_values : Items → List ℕ
items_values no_items = []
items_values (item d ds) = data_value d ∷ items_values ds

abbrev row_values : Data → List ℕ
row_values null = []
row_values (boolean b) = []
row_values (number n) = []
row_values (string s) = []
row_values (array ds) = items_values ds
row_values (object ms) = []

row_values-row_data : (ns : List ℕ) → row_values (row_data ns) ≡ ns
row_values-row_data [] = refl
row_values-row_data (n ∷ ns) = ap (λ ms. n ∷ ms) (row_values-row_data ns)

pub same_data : (ns ms : List ℕ) → row_data ns ≡ row_data ms → ns ≡ ms
same_data ns ms e = sym (row_values-row_data ns) ∙ ap row_values e ∙ row_values-row_data ms

pub same_some : (d e : Data) → Some d ≡ Some e → d ≡ e
same_some d e h = cc

pub same_row : (ns ms : List ℕ) → AreLong ns → AreLong ms → row_text ns ≡ row_text ms → ns ≡ ms
same_row ns ms h k e = same_data ns ms (same_some _ _ (sym (read_row ns h) ∙ ap read e ∙ read_row ms k))

-- ---- what a reader makes of the text of a row

pub read_as : (bytes ns : List ℕ) (d : Data) → read bytes ≡ Some d → bytes ≡ row_text ns → AreLong ns → d ≡ row_data ns
read_as bytes ns d r e h = same_some d (row_data ns) (sym r ∙ ap read e ∙ read_row ns h)

none_some : (d : Data) → (let o : Option Data = None in o) ≡ Some d → ⊥
none_some d e = cc

pub read_is_not_none : (bytes ns : List ℕ) → read bytes ≡ None → bytes ≡ row_text ns → AreLong ns → ⊥
read_is_not_none bytes ns r e h = none_some (row_data ns) (sym r ∙ ap read e ∙ read_row ns h)

pub utf8_as : (bytes ns : List ℕ) → bytes ≡ row_text ns → AreLong ns → IsUtf8 bytes
utf8_as bytes ns e h = subst IsUtf8 (sym e) (utf8_row ns h)

pub not_true : IsTrue false → ⊥
not_true e = cc
