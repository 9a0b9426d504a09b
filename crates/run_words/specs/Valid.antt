-- The words that the program names in its usage, and what they ask for (this project's own rule).
use Rattle.std.specs.Prelude.{◌≡◌, ◌≢◌, ◌≤◌, ◌⊎◌, Bool, true, false, List, [], ◌∷◌, length, Result, Ok, Err, codes, decimal}
use Rattle.zw_words.specs.declared.side.Side.{Side}
use Rattle.zw_words.specs.declared.side.Side.TheVariants.{Host as host_side, Chip as chip_side}
use Rattle.clap.specs.Walk.{Text}
use Rattle.run_words.specs.declared.asked.Asked.{Asked}
use Rattle.run_words.specs.declared.asked.Asked.TheVariants.{Sim, Check, Generate, Replay, Events, Include, Host, Audit}
use Rattle.run_words.specs.declared.asked.WordsFault.{WordsFault}
use Rattle.run_words.specs.declared.asked.WordsFault.TheVariants.{NoMemory}
use Rattle.run_words.specs.declared.commands.TheConstants.{MAX_LINES}

-- a text that is there and does not begin with a hyphen
abbrev pub IsLineWord : Text → Type 0
IsLineWord [] = ⊥
IsLineWord (byte ∷ bytes) = byte ≢ 45

abbrev pub AreLineWords : List Text → Type 0
AreLineWords [] = Unit {0}
AreLineWords (word ∷ words) = IsLineWord word × AreLineWords words

abbrev pub AreSimWords : Bool → List Text → Type 0
AreSimWords false words = words ≡ codes "sim" ∷ []
AreSimWords true words = words ≡ codes "sim" ∷ codes "--quiet" ∷ []

-- the chip's bytes are what is read where no side is named
abbrev pub AreCheckWords : Side → List Text → Type 0
AreCheckWords host_side words = words ≡ codes "check" ∷ codes "--from" ∷ codes "host" ∷ []
AreCheckWords chip_side words = (words ≡ codes "check" ∷ []) ⊎ (words ≡ codes "check" ∷ codes "--from" ∷ codes "chip" ∷ [])

-- `host` and its lines
pub record AreHostWords (words : List Text) : Type 0 where
  pub lines : List Text
  pub are : words ≡ codes "host" ∷ lines
  pub some : 1 ≤ length lines
  pub few : length lines ≤ MAX_LINES
  pub each : AreLineWords lines

-- these words ask for that
abbrev pub AreWordsFor : Asked → List Text → Type 0
AreWordsFor (Sim quiet) words = AreSimWords quiet words
AreWordsFor (Check from) words = AreCheckWords from words
AreWordsFor (Generate number) words = (1 ≤ number) × (number ≤ 50) × (words ≡ codes "generate" ∷ decimal number ∷ [])
AreWordsFor Replay words = words ≡ codes "replay" ∷ []
AreWordsFor Events words = words ≡ codes "events" ∷ []
AreWordsFor Include words = words ≡ codes "include" ∷ []
AreWordsFor Host words = AreHostWords words
AreWordsFor Audit words = words ≡ codes "audit" ∷ []

-- that is asked, or there was no memory
abbrev pub IsAnswered : Asked → Result Asked WordsFault → Type 0
IsAnswered asked (Ok given) = given ≡ asked
IsAnswered asked (Err fault) = fault ≡ NoMemory
