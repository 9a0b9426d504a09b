-- The words as texts, and what `clap` makes of them.
use Rattle.std.specs.Prelude.{◌≡◌, ◌≢◌, List, [], map, Result, Ok, Err, String, string_bytes}
use Rattle.clap.specs.Walk.{Text, rows_of}
use Rattle.clap.specs.Matches.{found_of}
use Rattle.clap.specs.Simple.{App, matches_of}
use Rattle.clap.specs.Faults.{fault_of}
use Rattle.clap.specs.declared.parser.matches.ArgMatches.{ArgMatches}
use Rattle.run_words.specs.declared.asked.WordsFault.{WordsFault}
use Rattle.run_words.specs.declared.asked.WordsFault.TheVariants.{Usage, NoMemory}

-- the words are taken with these matches, or are refused; or there was no memory
abbrev pub Parses : App → List Text → Result ArgMatches WordsFault → Type 0
Parses line words (Ok matches) = (fault_of line words ≡ []) × (rows_of (found_of matches) ≡ matches_of line words)
Parses line words (Err Usage) = fault_of line words ≢ []
Parses line words (Err NoMemory) = Unit {0}

-- the texts of words
abbrev pub texts_of : {A : Type 0} → List (String A) → List Text
texts_of words = map (λ word. string_bytes word) words
