use Rattle.std.proofs.Common.{◌≡◌, ◌∙◌, rules, refl, ap₂, sym, subst, codes, true}
use Rattle.clap.specs.Walk.{rule_of}
use Rattle.clap.specs.Faults.{is_simple_and_free}
use Rattle.clap.specs.Simple.{App, app_of, new_app, with_rule}
use Rattle.run_words.specs.Commands.{line_values, Host_name}
use Rattle.run_words.proofs.Lines.{refused_line, some-is}
use Rattle.run_words.proofs.commands.read_host.Goals as goal

pub parse-requires : goal.parse-requires
parse-requires c =
    let range_is = some-is _ _ c.num_args-lines.ensures.1 in
    let values_are : rule_of c.num_args-lines.result ≡ line_values = search rules in
    let line_is : app_of c.in_ok-arg.field-0 ≡ with_rule (new_app (codes "host")) line_values =
    c.in_ok-arg.ensures.shape (search rules) ∙ ap₂ with_rule c.new-2.ensures.app values_are in
    subst (λ (line : App). is_simple_and_free line ≡ true) (sym line_is) refl

pub returns-in_err-_matches-clause-few : goal.returns-in_err-_matches-clause-few
returns-in_err-_matches-clause-few c =
    let range_is = some-is _ _ c.num_args-lines.ensures.1 in
    let values_are : rule_of c.num_args-lines.result ≡ line_values = search rules in
    let line_is : app_of c.in_ok-arg.field-0 ≡ with_rule (new_app (codes "host")) line_values =
    c.in_ok-arg.ensures.shape (search rules) ∙ ap₂ with_rule c.new-2.ensures.app values_are in
    λ few. refused_line Host_name (app_of c.in_ok-arg.field-0) _ c.in_err-_matches.field-0.0 _ line_is c.in_err-_matches.ensures.parses c.from_residual-in_err-_matches.ensures.1

pub returns-clause-few : goal.returns-clause-few
returns-clause-few c =
    let range_is = some-is _ _ c.num_args-lines.ensures.1 in
    let values_are : rule_of c.num_args-lines.result ≡ line_values = search rules in
    let line_is : app_of c.in_ok-arg.field-0 ≡ with_rule (new_app (codes "host")) line_values =
    c.in_ok-arg.ensures.shape (search rules) ∙ ap₂ with_rule c.new-2.ensures.app values_are in
    λ few. record { line = app_of c.in_ok-arg.field-0; is_line = line_is; answers = (c.in_ok-_matches.ensures.parses.0, refl) }
