use Rattle.std.proofs.Common.{map, ℕ, Bool, false, List, Some, inl, inr, arith, slice_index, ◌≡◌, ◌∙◌, rules, refl, ap₂, sym, subst, codes, []}
use Rattle.std.specs.Str.Parse.{ParsesUnsigned, ExplainsUnsignedError, HasUnsignedDigitsIfOk}
use Rattle.clap.specs.Walk.{rule_of}
use Rattle.clap.specs.Simple.{app_of, new_app, with_rule}
use Rattle.clap.specs.declared.builder.value_parser.ValueParser.{ValueParser}
use Rattle.run_words.specs.Commands.{number_value, TakesNames, hundreds, Generate_name}
use Rattle.clap.specs.Simple.{matches_of}
use Rattle.clap.specs.Matches.{found_of, one_text}
use Rattle.clap.specs.Values.{Accepts, read_as, reading_of}
use Rattle.clap.proofs.CallerReads.{one_required_read}
use Rattle.run_words.proofs.Numbers.{fifty, fifty_are, number_read}
use Rattle.run_words.proofs.Lines.{refused_line, no_line}
use Rattle.run_words.proofs.commands.read_generate.Goals as goal

pub returns-in_err-arg : goal.returns-in_err-arg
returns-in_err-arg c =
    let given = c.value_parser-number.ensures.given in
    let are : map (λ name. name.now) c.as_slice.result.now ≡ fifty = search rules in
    let names : TakesNames given.0 (hundreds) = subst (λ (p : ValueParser). TakesNames p (hundreds)) (sym given.2) (are ∙ fifty_are) in
    no_line Generate_name (with_rule (new_app (codes "generate")) (number_value given.0)) _ _ (record { parser = given.0; names = names; is = refl }) c.from_residual.ensures.1

pub returns-in_err-matches : goal.returns-in_err-matches
returns-in_err-matches c =
    let given = c.value_parser-number.ensures.given in
    let are : map (λ name. name.now) c.as_slice.result.now ≡ fifty = search rules in
    let names : TakesNames given.0 (hundreds) = subst (λ (p : ValueParser). TakesNames p (hundreds)) (sym given.2) (are ∙ fifty_are) in
    let option_is : rule_of c.value_parser-number.result ≡ number_value given.0 = search rules in
    let line_is : app_of c.in_ok-arg.field-0 ≡ with_rule (new_app (codes "generate")) (number_value given.0) =
    c.in_ok-arg.ensures.shape (search rules) ∙ ap₂ with_rule c.new-2.ensures.app option_is in
    refused_line Generate_name (app_of c.in_ok-arg.field-0) _ c.in_err-matches.field-0.0 _ (record { parser = given.0; names = names; is = line_is }) c.in_err-matches.ensures.parses c.from_residual-in_err-matches.ensures.1

pub returns : goal.returns
returns c =
    let given = c.value_parser-number.ensures.given in
    let are : map (λ name. name.now) c.as_slice.result.now ≡ fifty = search rules in
    let names : TakesNames given.0 (hundreds) = subst (λ (p : ValueParser). TakesNames p (hundreds)) (sym given.2) (are ∙ fifty_are) in
    let option_is : rule_of c.value_parser-number.result ≡ number_value given.0 = search rules in
    let line_is : app_of c.in_ok-arg.field-0 ≡ with_rule (new_app (codes "generate")) (number_value given.0) =
    c.in_ok-arg.ensures.shape (search rules) ∙ ap₂ with_rule c.new-2.ensures.app option_is in
    let parses = c.in_ok-matches.ensures.parses in
    let arg = c.value_parser-number.result in
    let name_is : arg.id.now ≡ codes "number" = search rules in
    let first : (t : List ℕ) → arg.id.now ≡ t → slice_index t 0 ≡ 110 = λ t e. rw (← e, name_is) refl in
    let accepted = one_required_read c.new-2.result c.in_ok-arg.field-0 arg c.in_ok-matches.matches
    c.in_ok-arg.ensures (search rules) (search rules) (search rules) (search rules) (search rules) (search rules) (search rules)
    (search rules) (search rules) (search rules)
    (λ e. let bad : 0 ≡ 110 = first [] e in absurd (omega arith))
    (λ auto. elim auto [
      | inl h ↦ let bad : 104 ≡ 110 = first _ h in absurd (omega arith)
      | inr h ↦ let bad : 118 ≡ 110 = first _ h in absurd (omega arith)
    ])
    given.0 given.1 c.in_ok-matches.ensures.parsed in
    let same_case : arg.ignore_case ≡ false = search rules in
    let read = number_read (λ bs r. ParsesUnsigned 8 10 bs r × ExplainsUnsignedError 10 bs r × HasUnsignedDigitsIfOk bs r)
    (found_of c.in_ok-matches.matches) (matches_of (app_of c.in_ok-arg.field-0) _) given.0 accepted.0 c.get_one.result names parses.1
    (subst (λ (id : List ℕ). one_text (found_of c.in_ok-matches.matches) id ≡ Some (read_as (reading_of given.0) accepted.0)) name_is accepted.1)
    (subst (λ (b : Bool). Accepts b given.0 accepted.0) same_case accepted.2) c.get_one.ensures.value (λ u x g. g.0) c.unwrap_or-hundreds.result c.unwrap_or-hundreds.ensures in
    record {
      line = app_of c.in_ok-arg.field-0;
      is_line = record { parser = given.0; names = names; is = line_is };
      answers = (parses.0, read);
    }
