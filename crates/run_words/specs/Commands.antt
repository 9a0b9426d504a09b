-- The command lines of the program, as `clap` sees them (this project's own rule).
use Rattle.std.specs.Prelude.{◌≡◌, ℕ, zero, suc, ◌+◌, true, List, [], ◌∷◌, map, Option, Some, None, codes, decimal, if◌then◌else◌}
use Rattle.std.specs.Str.{bytes_eq}
use Rattle.clap.specs.Lexer.{usize_max}
use Rattle.clap.specs.Walk.{Rule, Text}
use Rattle.clap.specs.Simple.{App, new_app, new_rule, with_rule}
use Rattle.clap.specs.declared.builder.action.ArgAction.TheVariants.{Set, SetTrue}
use Rattle.clap.specs.declared.builder.value_parser.ValueParser.{ValueParser}
use Rattle.clap.specs.declared.builder.value_parser.ValueParser.TheVariants as vp

-- the commands, by their words
pub data CommandName : Type 0 where
  Sim_name : CommandName
  Check_name : CommandName
  Generate_name : CommandName
  Replay_name : CommandName
  Events_name : CommandName
  Include_name : CommandName
  Host_name : CommandName
  Audit_name : CommandName

-- the command that a word names
abbrev pub name_of : Text → Option CommandName
name_of word =
    if bytes_eq word (codes "sim") then Some Sim_name
    else (if bytes_eq word (codes "check") then Some Check_name
    else (if bytes_eq word (codes "generate") then Some Generate_name
    else (if bytes_eq word (codes "replay") then Some Replay_name
    else (if bytes_eq word (codes "events") then Some Events_name
    else (if bytes_eq word (codes "include") then Some Include_name
    else (if bytes_eq word (codes "host") then Some Host_name
    else (if bytes_eq word (codes "audit") then Some Audit_name
    else None)))))))

-- so many whole numbers from that one on, as they are written
abbrev pub numbers_from : ℕ → ℕ → List Text
numbers_from first zero = []
numbers_from first (suc count) = decimal first ∷ numbers_from (first + 1) count

-- the whole numbers from 1 to 50
abbrev pub hundreds : List Text
hundreds = numbers_from 1 50

-- the flag `--quiet`
abbrev pub quiet_flag : Rule
quiet_flag = record (new_rule (codes "quiet")) { long = Some (codes "quiet"); action = Some SetTrue }

-- the option `--from`, of a value that this parser takes
abbrev pub from_option : ValueParser → Rule
from_option parser = record (new_rule (codes "from")) { long = Some (codes "from"); parser = Some parser }

-- one required value that this parser takes
abbrev pub number_value : ValueParser → Rule
number_value parser = record (new_rule (codes "number")) { action = Some Set; required = true; parser = Some parser }

-- one or more required texts
abbrev pub line_values : Rule
line_values = record (new_rule (codes "line")) { required = true; range = Some (record { start_inclusive = 1; end_inclusive = usize_max }) }

-- a parser that takes these names and nothing else
abbrev pub TakesNames : ValueParser → List Text → Type 0
TakesNames (vp.Names names) texts = map (λ name. name.now) names.now ≡ texts
TakesNames parser texts = ⊥

-- `check [--from host|chip]`
pub record IsCheckLine (line : App) : Type 0 where
  pub parser : ValueParser
  pub names : TakesNames parser (codes "host" ∷ codes "chip" ∷ [])
  pub is : line ≡ with_rule (new_app (codes "check")) (from_option parser)

-- `generate N`, where N is from 1 to 50
pub record IsGenerateLine (line : App) : Type 0 where
  pub parser : ValueParser
  pub names : TakesNames parser hundreds
  pub is : line ≡ with_rule (new_app (codes "generate")) (number_value parser)

-- the command line of a command
abbrev pub IsLineOf : CommandName → App → Type 0
IsLineOf Sim_name line = line ≡ with_rule (new_app (codes "sim")) quiet_flag
IsLineOf Check_name line = IsCheckLine line
IsLineOf Generate_name line = IsGenerateLine line
IsLineOf Replay_name line = line ≡ new_app (codes "replay")
IsLineOf Events_name line = line ≡ new_app (codes "events")
IsLineOf Include_name line = line ≡ new_app (codes "include")
IsLineOf Host_name line = line ≡ with_rule (new_app (codes "host")) line_values
IsLineOf Audit_name line = line ≡ new_app (codes "audit")
