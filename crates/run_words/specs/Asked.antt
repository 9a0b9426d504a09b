-- What the words of the program ask for (this project's own rule, over the matches of `clap`).
use Rattle.std.specs.Prelude.{◌≡◌, ◌≢◌, ℕ, ◌+◌, ◌<◌, ◌≤◌, Bool, false, List, [], ◌∷◌, length, Option, Some, None, Result, Ok, Err, codes, decimal, if◌then◌else◌}
use Rattle.std.specs.Option.{option_map_or}
use Rattle.std.specs.Str.{bytes_eq}
use Rattle.zw_words.specs.declared.side.Side.{Side}
use Rattle.zw_words.specs.declared.side.Side.TheVariants.{Host as host_side, Chip as chip_side}
use Rattle.clap.specs.Walk.{Row, Text, first_of, one_of}
use Rattle.clap.specs.Simple.{App, matches_of}
use Rattle.clap.specs.Faults.{fault_of}
use Rattle.run_words.specs.Commands.{CommandName, Sim_name, Check_name, Generate_name, Replay_name, Events_name, Include_name, Host_name, Audit_name, name_of, IsLineOf}
use Rattle.run_words.specs.declared.asked.Asked.{Asked}
use Rattle.run_words.specs.declared.asked.Asked.TheVariants.{Sim, Check, Generate, Replay, Events, Include, Host, Audit}
use Rattle.run_words.specs.declared.asked.WordsFault.{WordsFault}
use Rattle.run_words.specs.declared.asked.WordsFault.TheVariants.{Usage, NoMemory}
use Rattle.run_words.specs.declared.commands.TheConstants.{MAX_LINES}

-- whether the matches have this text first for the argument
abbrev pub has_text : Text → Text → List Row → Bool
has_text argument text rows = option_map_or (λ found. bytes_eq found text) (first_of argument rows) false

-- the side that is named, where the host's name tells it from the chip's
abbrev pub side_of : Bool → Side
side_of is_host = if is_host then host_side else chip_side

-- what a command's matches ask for
abbrev pub IsAskedBy : CommandName → List Row → Asked → Type 0
IsAskedBy Sim_name rows asked = asked ≡ Sim (has_text (codes "quiet") (codes "true") rows)
IsAskedBy Check_name rows asked = asked ≡ Check (side_of (has_text (codes "from") (codes "host") rows))
IsAskedBy Generate_name rows asked =
    (number : ℕ) × (1 ≤ number) × (number ≤ 50) × (one_of (codes "number") rows ≡ Some (decimal number)) × (asked ≡ Generate number)
IsAskedBy Replay_name rows asked = asked ≡ Replay
IsAskedBy Events_name rows asked = asked ≡ Events
IsAskedBy Include_name rows asked = asked ≡ Include
IsAskedBy Host_name rows asked = asked ≡ Host
IsAskedBy Audit_name rows asked = asked ≡ Audit

-- the words are taken by the command line, and ask for what their matches say; or it refuses them; or there was no memory
abbrev pub AnswersBy : App → (List Row → Asked → Type 0) → List Text → Result Asked WordsFault → Type 0
AnswersBy line IsAsked words (Ok asked) = (fault_of line words ≡ []) × IsAsked (matches_of line words) asked
AnswersBy line IsAsked words (Err Usage) = fault_of line words ≢ []
AnswersBy line IsAsked words (Err NoMemory) = Unit {0}

-- the command's own command line answers to the words
pub record AnswersLine (name : CommandName) (words : List Text) (answer : Result Asked WordsFault) : Type 0 where
  pub line : App
  pub is_line : IsLineOf name line
  pub answers : AnswersBy line (IsAskedBy name) words answer

-- as many words as `host` may have, with its own
abbrev pub most_words : ℕ
most_words = MAX_LINES + 1

-- the words of a named command ask by its command line; `host` has no more lines than it may have
abbrev pub AnswersName : Option CommandName → List Text → Result Asked WordsFault → Type 0
AnswersName None words answer = answer ≡ Err Usage
AnswersName (Some Host_name) words answer =
    (most_words < length words → answer ≡ Err Usage) × (length words ≤ most_words → AnswersLine Host_name words answer)
AnswersName (Some name) words answer = AnswersLine name words answer

-- the first word names the command
abbrev pub AnswersWords : List Text → Result Asked WordsFault → Type 0
AnswersWords [] answer = answer ≡ Err Usage
AnswersWords (word ∷ words) answer = AnswersName (name_of word) (word ∷ words) answer
