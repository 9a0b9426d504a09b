-- `generate` and its number.
use Rattle.std.proofs.Common.{◌≡◌, ◌≢◌, ℕ, zero, suc, ◌+◌, ◌<◌, ◌≤◌, ◌==◌, ◌||◌, Bool, true, false, [], ◌∷◌, Some, codes, refl, sym, ap, subst, ◌∙◌, arith}
use Rattle.std.specs.Prelude.{decimal}
use Rattle.std.specs.List.{list_any}
use Rattle.std.specs.Str.{bytes_eq}
use Rattle.std.specs.Str.Parse.{IsNumeral}
use Rattle.std.proofs.lemmas.Bool.{ne_eqb}
use Rattle.std.proofs.lemmas.Fmt.{decimal_injective, decimal_is_IsNumeral}
use Rattle.std.proofs.lemmas.Slice.Eq.{bytes_eq-Decides}
use Rattle.std.proofs.lemmas.Str.Parse.{digit_from_value}
use Rattle.clap.specs.Walk.{Text, one_of}
use Rattle.clap.specs.Simple.{App, matches_of, new_app, with_rule}
use Rattle.clap.specs.Faults.{fault_of}
use Rattle.clap.specs.Values.{read_as, reading_of}
use Rattle.clap.specs.ValueTests.{accepts}
use Rattle.clap.specs.declared.builder.value_parser.ValueParser.{ValueParser}
use Rattle.clap.proofs.OnLiterals.{clap_on_literals}
use Rattle.run_words.specs.Commands.{Generate_name, IsGenerateLine, numbers_from, number_value, hundreds}
use Rattle.run_words.specs.declared.asked.Asked.TheVariants.{Generate}
use Rattle.run_words.proofs.Lines.{accepts-names}
use Rattle.run_words.proofs.Numbers.{reading-names}
use Rattle.run_words.proofs.PlainWords.{no_dashes, no_long, no_short}
use Rattle.run_words.proofs.Taken.{Takes}

abbrev generate_line : ValueParser → App
generate_line parser = with_rule (new_app (codes "generate")) (number_value parser)

-- a word that is no flag, and that the parser takes
pub record TakesWord (parser : ValueParser) (word : Text) : Type 0 where
  pub taken : fault_of (generate_line parser) (codes "generate" ∷ word ∷ []) ≡ []
  pub read : one_of (codes "number") (matches_of (generate_line parser) (codes "generate" ∷ word ∷ [])) ≡ Some (read_as (reading_of parser) word)

takes_word : (parser : ValueParser) (d : ℕ) (ds : Text) → (d == 45) ≡ false → accepts false parser (d ∷ ds) ≡ true → TakesWord parser (d ∷ ds)
unfolding clap_on_literals
takes_word parser d ds plain takes = record {
  taken = rw (no_dashes d ds plain, no_long d ds plain, no_short d ds plain, takes) refl;
  read = rw (no_dashes d ds plain, no_long d ds plain, no_short d ds plain) refl;
}

-- each of the numbers is among them
number_among : (first count number : ℕ) → first ≤ number → number < first + count → list_any (λ name. bytes_eq name (decimal number)) (numbers_from first count) ≡ true
number_among first zero number from below = absurd (omega arith)
number_among first (suc count) number from below = go (bytes_eq (decimal first) (decimal number)) refl
    (λ after. number_among (first + 1) count number after (omega (arith, below)))
  where
    other : bytes_eq (decimal first) (decimal number) ≡ false → first ≢ number
    other e same =
        let yes : bytes_eq (decimal first) (decimal number) ≡ true = (bytes_eq-Decides (decimal first) (decimal number)).1 (ap decimal same) in
        let differs : true ≡ false = sym yes ∙ e in
        absurd (grind (arith, differs))

    go : (b : Bool) → bytes_eq (decimal first) (decimal number) ≡ b
        → (first + 1 ≤ number → list_any (λ name. bytes_eq name (decimal number)) (numbers_from (first + 1) count) ≡ true)
        → (b || list_any (λ name. bytes_eq name (decimal number)) (numbers_from (first + 1) count)) ≡ true
    go true e later = refl
    go false e later = later (omega (arith, from, other e))

takes_decimal : (parser : ValueParser) (number : ℕ) (text : Text) → text ≡ decimal number → IsNumeral 10 text → accepts false parser text ≡ true → TakesWord parser text
takes_decimal parser number [] is numeral takes = absurd (omega (arith, numeral.0))
takes_decimal parser number (d ∷ ds) is numeral takes = takes_word parser d ds (ne_eqb _ _ (λ e. omega (arith, e, digit_from_value d numeral.1.0))) takes

generate_parser : (parser : ValueParser) (number : ℕ) → number ≤ 50 → TakesWord parser (decimal number) → read_as (reading_of parser) (decimal number) ≡ decimal number
    → Takes Generate_name (codes "generate" ∷ decimal number ∷ []) (Generate number) (generate_line parser)
generate_parser parser number few takes reads = record {
  taken = takes.taken;
  asks = λ given is.
      let same : Some (decimal is.0) ≡ Some (decimal number) = sym is.3 ∙ takes.read ∙ ap Some reads in
      is.4 ∙ ap Generate (decimal_injective is.0 number (omega (arith, is.2)) (omega (arith, few)) (some_same same));
}
  where
    some_same : {a b : Text} → Some a ≡ Some b → a ≡ b
    some_same e = cc

pub takes_generate : (number : ℕ) → 1 ≤ number → number ≤ 50 → (line : App) → IsGenerateLine line
    → Takes Generate_name (codes "generate" ∷ decimal number ∷ []) (Generate number) line
takes_generate number least most line is =
    let accepted : accepts false is.parser (decimal number) ≡ true =
    accepts-names is.parser hundreds (decimal number) is.names ∙ number_among 1 50 number least (omega (arith, most)) in
    let takes = takes_decimal is.parser number (decimal number) refl (decimal_is_IsNumeral number (omega (arith, most))).0 accepted in
    subst (λ (l : App). Takes Generate_name (codes "generate" ∷ decimal number ∷ []) (Generate number) l) (sym is.is)
    (generate_parser is.parser number most takes (reading-names is.parser hundreds (decimal number) is.names))
