-- What arrives of the chip's units, by what stands directly after each (this project's own rule): over a transcript in which what became of a unit stands there, that is what the laws
-- of payloads read.
use Rattle.std.specs.Prelude.{◌≡◌, ℕ, if◌then◌else◌, List, [], ◌∷◌, ◌++◌}
use Rattle.zw_words.specs.declared.side.Side.TheVariants.{Chip}
use Rattle.zw_text.specs.declared.entry.Entry.{Entry}
use Rattle.zw_text.specs.declared.entry.Entry.TheVariants.{Written}
use Rattle.zw_text.specs.Transcript.{same_side}
use Rattle.proof_air.specs.law_transcript.Lists.{Has}
use Rattle.proof_air.specs.law_transcript.Units.{arrived, payloads_from}
use Rattle.proof_air.specs.law_wire.Serial.{arriving_of}

abbrev pub all_arriving : List Entry → List (List ℕ)
all_arriving [] = []
all_arriving (Written on unit ∷ rest) = (if same_side Chip on then arriving_of on unit rest else []) ++ all_arriving rest
all_arriving (entry ∷ rest) = all_arriving rest

-- what became of each unit of the chip stands directly after it
abbrev pub ArrivesSo : List Entry → Type 0
ArrivesSo past = all_arriving past ≡ arrived Chip past

-- what has arrived still has
abbrev pub ArrivesMore : List Entry → List Entry → Type 0
ArrivesMore past later = (text : List ℕ) → Has (arrived Chip past) text → Has (arrived Chip later) text

-- each node has told what it had
abbrev pub BringsMore : List Entry → List Entry → Type 0
BringsMore past later = (node : ℕ) (payload : List ℕ) → Has (payloads_from node past) payload → Has (payloads_from node later) payload
