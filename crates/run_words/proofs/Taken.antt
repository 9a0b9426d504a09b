-- Words that are taken, and what they ask for.
use Rattle.std.proofs.Common.{◌≡◌, true, false, List, [], ◌∷◌, Result, Ok, Err, codes, refl, sym, subst}
use Rattle.clap.specs.Walk.{Text}
use Rattle.clap.specs.Simple.{App, matches_of, new_app, with_rule}
use Rattle.clap.specs.Faults.{fault_of}
use Rattle.clap.specs.ValueTests.{accepts}
use Rattle.clap.specs.declared.builder.value_parser.ValueParser.{ValueParser}
use Rattle.clap.proofs.OnLiterals.{clap_on_literals}
use Rattle.run_words.specs.Commands.{CommandName, Sim_name, Check_name, Replay_name, Events_name, Include_name, Audit_name, IsLineOf, IsCheckLine, from_option, quiet_flag}
use Rattle.run_words.specs.Asked.{AnswersLine, IsAskedBy}
use Rattle.run_words.specs.Valid.{IsAnswered}
use Rattle.run_words.specs.declared.asked.Asked.{Asked}
use Rattle.run_words.specs.declared.asked.Asked.TheVariants.{Sim, Check, Replay, Events, Include, Audit}
use Rattle.run_words.specs.declared.asked.WordsFault.{WordsFault}
use Rattle.run_words.specs.declared.asked.WordsFault.TheVariants.{Usage, NoMemory}
use Rattle.zw_words.specs.declared.side.Side.TheVariants.{Host as host_side, Chip as chip_side}
use Rattle.run_words.proofs.Lines.{accepts-names}

-- every command line of the command takes the words, and they ask for that alone
pub record Takes (name : CommandName) (words : List Text) (asked : Asked) (line : App) : Type 0 where
  pub taken : fault_of line words ≡ []
  pub asks : (given : Asked) → IsAskedBy name (matches_of line words) given → given ≡ asked

pub answered : (name : CommandName) (words : List Text) (asked : Asked) (answer : Result Asked WordsFault) → AnswersLine name words answer
    → ((line : App) → IsLineOf name line → Takes name words asked line) → IsAnswered asked answer
answered name words asked (Ok given) a takes = (takes a.line a.is_line).asks given a.answers.1
answered name words asked (Err Usage) a takes = absurd (a.answers (takes a.line a.is_line).taken)
answered name words asked (Err NoMemory) a takes = refl

-- ---- the commands without a value

pub takes_replay : Takes Replay_name (codes "replay" ∷ []) Replay (new_app (codes "replay"))
unfolding clap_on_literals
takes_replay = record { taken = refl; asks = λ given is. is }

pub takes_events : Takes Events_name (codes "events" ∷ []) Events (new_app (codes "events"))
unfolding clap_on_literals
takes_events = record { taken = refl; asks = λ given is. is }

pub takes_include : Takes Include_name (codes "include" ∷ []) Include (new_app (codes "include"))
unfolding clap_on_literals
takes_include = record { taken = refl; asks = λ given is. is }

pub takes_audit : Takes Audit_name (codes "audit" ∷ []) Audit (new_app (codes "audit"))
unfolding clap_on_literals
takes_audit = record { taken = refl; asks = λ given is. is }

pub takes_sim : Takes Sim_name (codes "sim" ∷ []) (Sim false) (with_rule (new_app (codes "sim")) quiet_flag)
unfolding clap_on_literals
takes_sim = record { taken = refl; asks = λ given is. is }

pub takes_quiet : Takes Sim_name (codes "sim" ∷ codes "--quiet" ∷ []) (Sim true) (with_rule (new_app (codes "sim")) quiet_flag)
unfolding clap_on_literals
takes_quiet = record { taken = refl; asks = λ given is. is }

-- ---- `check`

abbrev check_line : ValueParser → App
check_line parser = with_rule (new_app (codes "check")) (from_option parser)

check_alone : (parser : ValueParser) → Takes Check_name (codes "check" ∷ []) (Check chip_side) (check_line parser)
unfolding clap_on_literals
check_alone parser = record { taken = refl; asks = λ given is. is }

check_host : (parser : ValueParser) → accepts false parser (codes "host") ≡ true
    → Takes Check_name (codes "check" ∷ codes "--from" ∷ codes "host" ∷ []) (Check host_side) (check_line parser)
unfolding clap_on_literals
check_host parser takes = record { taken = rw takes refl; asks = λ given is. is }

check_chip : (parser : ValueParser) → accepts false parser (codes "chip") ≡ true
    → Takes Check_name (codes "check" ∷ codes "--from" ∷ codes "chip" ∷ []) (Check chip_side) (check_line parser)
unfolding clap_on_literals
check_chip parser takes = record { taken = rw takes refl; asks = λ given is. is }

pub takes_check : (line : App) → IsCheckLine line → Takes Check_name (codes "check" ∷ []) (Check chip_side) line
takes_check line is = subst (λ (l : App). Takes Check_name (codes "check" ∷ []) (Check chip_side) l) (sym is.is) (check_alone is.parser)

pub takes_check_host : (line : App) → IsCheckLine line → Takes Check_name (codes "check" ∷ codes "--from" ∷ codes "host" ∷ []) (Check host_side) line
takes_check_host line is = subst (λ (l : App). Takes Check_name (codes "check" ∷ codes "--from" ∷ codes "host" ∷ []) (Check host_side) l) (sym is.is)
    (check_host is.parser (accepts-names is.parser _ (codes "host") is.names))

pub takes_check_chip : (line : App) → IsCheckLine line → Takes Check_name (codes "check" ∷ codes "--from" ∷ codes "chip" ∷ []) (Check chip_side) line
takes_check_chip line is = subst (λ (l : App). Takes Check_name (codes "check" ∷ codes "--from" ∷ codes "chip" ∷ []) (Check chip_side) l) (sym is.is)
    (check_chip is.parser (accepts-names is.parser _ (codes "chip") is.names))
