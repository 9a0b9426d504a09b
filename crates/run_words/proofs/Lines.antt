-- Command lines, their parsers and their answers.
use Rattle.std.proofs.Common.{◌≡◌, false, List, Option, Some, Result, Ok, Err, sym, ap, subst, IsErrAnd, None, ◌∙◌}
use Rattle.std.specs.Option.{option_map_or, IsSomeAnd}
use Rattle.std.specs.List.{list_any}
use Rattle.std.specs.Borrow.{Bor}
use Rattle.std.specs.Str.{bytes_eq}
use Rattle.clap.specs.Walk.{Row, Text, rows_of}
use Rattle.clap.specs.Simple.{App}
use Rattle.clap.specs.Matches.{first_value}
use Rattle.clap.specs.ValueTests.{accepts}
use Rattle.clap.specs.declared.builder.value_parser.ValueParser.{ValueParser}
use Rattle.clap.specs.declared.builder.value_parser.ValueParser.TheVariants as vp
use Rattle.clap.specs.declared.parser.matches.Found.{Found}
use Rattle.clap.proofs.WalkLemmas.{first_value-rows, list_any-map}
use Rattle.run_words.specs.declared.asked.Asked.{Asked}
use Rattle.run_words.specs.declared.asked.WordsFault.{WordsFault}
use Rattle.run_words.specs.declared.asked.WordsFault.TheVariants.{Usage, NoMemory}
use Rattle.run_words.specs.Commands.{CommandName, IsLineOf, TakesNames}
use Rattle.run_words.specs.Asked.{AnswersBy, AnswersLine, IsAskedBy, has_text}
use Rattle.run_words.specs.Parsing.{Parses}

-- what the matches have first for an argument
pub has_text-is : (found : Found) (argument text : Text) (first : Option Text) → first ≡ first_value found argument
    → option_map_or (λ t. bytes_eq t text) first false ≡ has_text argument text (rows_of found)
has_text-is found argument text first e = ap (λ (o : Option Text). option_map_or (λ t. bytes_eq t text) o false) (e ∙ first_value-rows found argument)

-- a parse that failed
pub refused : (line : App) (IsAsked : List Row → Asked → Type 0) (words : List Text) (fault : WordsFault) → Parses line words (Err fault) → AnswersBy line IsAsked words (Err fault)
refused line IsAsked words Usage p = p
refused line IsAsked words NoMemory p = tt

pub refused_line : (name : CommandName) (line : App) (words : List Text) (fault : WordsFault) (answer : Result Asked WordsFault) → IsLineOf name line
    → Parses line words (Err fault) → IsErrAnd answer (λ e. e ≡ fault) → AnswersLine name words answer
refused_line name line words fault (Ok asked) is p e = absurd e
refused_line name line words fault (Err other) is p e = record { line = line; is_line = is; answers = subst (λ (x : WordsFault). AnswersBy line (IsAskedBy name) words (Err x)) (sym e) (refused line (IsAskedBy name) words fault p) }

-- there was no memory for the command line
pub no_line : (name : CommandName) (line : App) (words : List Text) (answer : Result Asked WordsFault) → IsLineOf name line → IsErrAnd answer (λ e. e ≡ NoMemory) → AnswersLine name words answer
no_line name line words answer is e = refused_line name line words NoMemory answer is tt e

-- a parser of names takes those names
pub accepts-names : (parser : ValueParser) (texts : List Text) (text : Text) → TakesNames parser texts
    → accepts false parser text ≡ list_any (λ name. bytes_eq name text) texts
accepts-names (vp.Names names) texts text is =
    list_any-map (λ (name : Text). bytes_eq name text) (λ (name : Bor Text). name.now) names.now ∙ ap (list_any (λ (name : Text). bytes_eq name text)) is
accepts-names vp.String texts text is = absurd is
accepts-names vp.Falsey texts text is = absurd is
accepts-names vp.NonEmptyString texts text is = absurd is
accepts-names vp.Bool texts text is = absurd is
accepts-names vp.Boolish texts text is = absurd is
accepts-names (vp.Signed low high) texts text is = absurd is
accepts-names (vp.Unsigned low high) texts text is = absurd is
accepts-names vp.Float texts text is = absurd is
accepts-names vp.Char texts text is = absurd is
accepts-names (vp.Values values) texts text is = absurd is

-- an option that has this
pub some-is : {X : Type 0} (o : Option X) (x : X) → IsSomeAnd o (λ y. y ≡ x) → o ≡ Some x
some-is (Some y) x e = ap Some e
some-is None x e = absurd e
