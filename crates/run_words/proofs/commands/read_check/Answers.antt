use Rattle.std.proofs.Common.{◌≡◌, ◌∙◌, rules, refl, ap, ap₂, sym, subst, codes, [], ◌∷◌}
use Rattle.clap.specs.Walk.{rule_of}
use Rattle.clap.specs.Simple.{app_of, new_app, with_rule}
use Rattle.clap.specs.declared.builder.value_parser.ValueParser.{ValueParser}
use Rattle.run_words.specs.Asked.{has_text, side_of}
use Rattle.run_words.specs.Commands.{from_option, TakesNames, Check_name}
use Rattle.run_words.specs.declared.asked.Asked.TheVariants.{Check}
use Rattle.run_words.proofs.Lines.{refused_line, no_line}
use Rattle.run_words.proofs.commands.read_check.Goals as goal

pub returns-in_err-arg : goal.returns-in_err-arg
returns-in_err-arg c =
    let given = c.value_parser-from.ensures.given in
    let names : TakesNames given.0 (codes "host" ∷ codes "chip" ∷ []) = subst (λ (p : ValueParser). TakesNames p (codes "host" ∷ codes "chip" ∷ [])) (sym given.2) (search rules) in
    no_line Check_name (with_rule (new_app (codes "check")) (from_option given.0)) _ _ (record { parser = given.0; names = names; is = refl }) c.from_residual.ensures.1

pub returns-in_err-matches : goal.returns-in_err-matches
returns-in_err-matches c =
    let given = c.value_parser-from.ensures.given in
    let names : TakesNames given.0 (codes "host" ∷ codes "chip" ∷ []) = subst (λ (p : ValueParser). TakesNames p (codes "host" ∷ codes "chip" ∷ [])) (sym given.2) (search rules) in
    let option_is : rule_of c.value_parser-from.result ≡ from_option given.0 = search rules in
    let line_is : app_of c.in_ok-arg.field-0 ≡ with_rule (new_app (codes "check")) (from_option given.0) =
    c.in_ok-arg.ensures.shape (search rules) ∙ ap₂ with_rule c.new-2.ensures.app option_is in
    refused_line Check_name (app_of c.in_ok-arg.field-0) _ c.in_err-matches.field-0.0 _ (record { parser = given.0; names = names; is = line_is }) c.in_err-matches.ensures.parses c.from_residual-in_err-matches.ensures.1

pub returns : goal.returns
returns c =
    let given = c.value_parser-from.ensures.given in
    let names : TakesNames given.0 (codes "host" ∷ codes "chip" ∷ []) = subst (λ (p : ValueParser). TakesNames p (codes "host" ∷ codes "chip" ∷ [])) (sym given.2) (search rules) in
    let option_is : rule_of c.value_parser-from.result ≡ from_option given.0 = search rules in
    let line_is : app_of c.in_ok-arg.field-0 ≡ with_rule (new_app (codes "check")) (from_option given.0) =
    c.in_ok-arg.ensures.shape (search rules) ∙ ap₂ with_rule c.new-2.ensures.app option_is in
    let parses = c.in_ok-matches.ensures.parses in
    record {
      line = app_of c.in_ok-arg.field-0;
      is_line = record { parser = given.0; names = names; is = line_is };
      answers = (parses.0, ap Check (c.side_of-from.ensures ∙ ap side_of (c.has_text.ensures ∙ ap (has_text (codes "from") (codes "host")) parses.1)));
    }
