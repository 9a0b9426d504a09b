-- The number that `generate` is given.
use Rattle.std.proofs.Common.{◌≡◌, ℕ, zero, suc, ◌+◌, ◌<◌, ◌≤◌, ◌||◌, Bool, true, false, List, [], ◌∷◌, Option, Some, None, Result, Ok, Err, is_err, codes, refl, sym, ap, ◌∙◌, arith}
use Rattle.std.specs.Prelude.{decimal, unwrap_or}
use Rattle.std.specs.Result.{result_unwrap_or}
use Rattle.std.specs.List.{list_any}
use Rattle.std.specs.Fmt.{digits}
use Rattle.std.specs.Str.{bytes_eq}
use Rattle.std.specs.Str.Parse.{ParsesUnsigned}
use Rattle.std.proofs.lemmas.Fmt.{parse-decimal}
use Rattle.std.proofs.lemmas.Slice.Eq.{bytes_eq-Decides}
use Rattle.clap.specs.Walk.{Row, Text, rows_of, one_of}
use Rattle.clap.specs.Matches.{ReadsOne, one_text}
use Rattle.clap.specs.Values.{Accepts, read_as, reading_of}
use Rattle.clap.specs.declared.builder.value_parser.ValueParser.{ValueParser}
use Rattle.clap.specs.declared.builder.value_parser.ValueParser.TheVariants as vp
use Rattle.clap.specs.declared.parser.matches.Found.{Found}
use Rattle.clap.proofs.WalkLemmas.{one_text-rows}
use Rattle.clap.proofs.ValueTestLemmas.{Accepts-accepts}
use Rattle.run_words.specs.Commands.{TakesNames, numbers_from, hundreds}
use Rattle.run_words.specs.declared.asked.Asked.TheVariants.{Generate}
use Rattle.run_words.proofs.Lines.{accepts-names}

-- a parser of names leaves a text as it is written
pub reading-names : (parser : ValueParser) (texts : List Text) (text : Text) → TakesNames parser texts → read_as (reading_of parser) text ≡ text
reading-names (vp.Names names) texts text is = refl
reading-names vp.String texts text is = absurd is
reading-names vp.Falsey texts text is = absurd is
reading-names vp.NonEmptyString texts text is = absurd is
reading-names vp.Bool texts text is = absurd is
reading-names vp.Boolish texts text is = absurd is
reading-names (vp.Signed low high) texts text is = absurd is
reading-names (vp.Unsigned low high) texts text is = absurd is
reading-names vp.Float texts text is = absurd is
reading-names vp.Char texts text is = absurd is
reading-names (vp.Values values) texts text is = absurd is

-- the numbers, written out
abbrev pub fifty : List Text
fifty = codes "1" ∷ codes "2" ∷ codes "3" ∷ codes "4" ∷ codes "5" ∷ codes "6" ∷ codes "7" ∷ codes "8" ∷ codes "9" ∷ codes "10"
    ∷ codes "11" ∷ codes "12" ∷ codes "13" ∷ codes "14" ∷ codes "15" ∷ codes "16" ∷ codes "17" ∷ codes "18" ∷ codes "19" ∷ codes "20"
    ∷ codes "21" ∷ codes "22" ∷ codes "23" ∷ codes "24" ∷ codes "25" ∷ codes "26" ∷ codes "27" ∷ codes "28" ∷ codes "29" ∷ codes "30"
    ∷ codes "31" ∷ codes "32" ∷ codes "33" ∷ codes "34" ∷ codes "35" ∷ codes "36" ∷ codes "37" ∷ codes "38" ∷ codes "39" ∷ codes "40"
    ∷ codes "41" ∷ codes "42" ∷ codes "43" ∷ codes "44" ∷ codes "45" ∷ codes "46" ∷ codes "47" ∷ codes "48" ∷ codes "49" ∷ codes "50" ∷ []

pub fifty_are : fifty ≡ hundreds
unfolding digits
fifty_are = refl

-- a text that is one of the numbers
pub among : (first count : ℕ) (text : Text) → list_any (λ name. bytes_eq name text) (numbers_from first count) ≡ true
    → (number : ℕ) × (first ≤ number) × (number < first + count) × (text ≡ decimal number)
among first zero text is = absurd (grind arith)
among first (suc count) text is = go (bytes_eq (decimal first) text) refl is (among (first + 1) count text)
  where
    go : (b : Bool) → bytes_eq (decimal first) text ≡ b → (b || list_any (λ name. bytes_eq name text) (numbers_from (first + 1) count)) ≡ true
        → (list_any (λ name. bytes_eq name text) (numbers_from (first + 1) count) ≡ true
        → (number : ℕ) × (first + 1 ≤ number) × (number < first + 1 + count) × (text ≡ decimal number))
        → (number : ℕ) × (first ≤ number) × (number < first + suc count) × (text ≡ decimal number)
    go true same rest later = (first, omega arith, omega arith, sym ((bytes_eq-Decides (decimal first) text).0 same))
    go false same rest later =
        let found = later rest in
        (found.0, omega (arith, found.1), omega (arith, found.2), found.3)

-- a text that is written as a number reads as it
read_number : {E : Type 0} (G : List ℕ → Result ℕ E → Type 0) (number : ℕ) (text : Text) (got : Option ℕ) → number ≤ 50 → text ≡ decimal number
    → ((u : List ℕ) (x : Result ℕ E) → G u x → ParsesUnsigned 8 10 u x) → ReadsOne G text got → unwrap_or got 0 ≡ number
read_number {E} G number text (Some value) few is parses read =
    ap (λ (r : Result ℕ E). result_unwrap_or r 0) (parse-decimal 8 number text (Ok value) (omega arith) (omega arith) is (parses text (Ok value) read))
read_number {E} G number text None few is parses read =
    let bad = parse-decimal 8 number text (Err read.0) (omega arith) (omega arith) is (parses text (Err read.0) read.1) in
    let differs : true ≡ false = ap is_err bad in
    absurd (grind (arith, differs))

-- the number that is asked
pub number_read : {E : Type 0} (G : List ℕ → Result ℕ E → Type 0) (found : Found) (rows : List Row) (parser : ValueParser) (text : Text) (got : Option ℕ)
    → TakesNames parser hundreds → rows_of found ≡ rows → one_text found (codes "number") ≡ Some (read_as (reading_of parser) text)
    → Accepts false parser text → ((t : List ℕ) → one_text found (codes "number") ≡ Some t → ReadsOne G t got)
    → ((u : List ℕ) (x : Result ℕ E) → G u x → ParsesUnsigned 8 10 u x)
    → (given : ℕ) → given ≡ unwrap_or got 0
    → (number : ℕ) × (1 ≤ number) × (number ≤ 50) × (one_of (codes "number") rows ≡ Some (decimal number)) × (Generate given ≡ Generate number)
number_read G found rows parser text got names rows_are one accepted reads parses given given_is =
    let is : (number : ℕ) × (1 ≤ number) × (number < 1 + 50) × (text ≡ decimal number) =
    among 1 50 text (sym (accepts-names parser hundreds text names) ∙ Accepts-accepts false parser text accepted) in
    let one_is : one_text found (codes "number") ≡ Some text = one ∙ ap Some (reading-names parser hundreds text names) in
    let row_is : one_of (codes "number") rows ≡ Some (decimal is.0) =
    ap (one_of (codes "number")) (sym rows_are) ∙ sym (one_text-rows found (codes "number")) ∙ one_is ∙ ap Some is.3 in
    (is.0, is.1, omega (arith, is.2), row_is, ap Generate (given_is ∙ read_number G is.0 text got (omega (arith, is.2)) is.3 parses (reads text one_is)))
