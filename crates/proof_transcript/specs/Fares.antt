-- Fates in turn, where what is said of a frame that is heard again is left open (this project's own).
use Rattle.std.specs.Prelude.{ℕ, Bool, true, false, List, ⊤}
use Rattle.zw_text.specs.declared.entry.Entry.{Entry}
use Rattle.zw_text.specs.declared.entry.Entry.TheVariants.{Said, Heard, Lost, Unheard, Time}
use Rattle.law_host.specs.law_transcript.Restarts.{repeats}
use Rattle.law_host.specs.law_transcript.Fates.{IsNextFate, AllLanded}

-- a hearing in a tick, or after a line that repeats
abbrev pub IsHeardBy : (List Entry → ℕ → Type 0) → Bool → List Entry → ℕ → Type 0
IsHeardBy IsAgain true past frame = IsAgain past frame
IsHeardBy IsAgain false past frame = IsNextFate past frame

abbrev pub MayFareBy : (List Entry → ℕ → Type 0) → List Entry → Entry → Type 0
MayFareBy IsAgain past (Heard frame) = IsHeardBy IsAgain (repeats past) past frame
MayFareBy IsAgain past (Lost frame) = IsNextFate past frame
MayFareBy IsAgain past (Unheard frame) = IsNextFate past frame
MayFareBy IsAgain past (Time tick) = AllLanded past
MayFareBy IsAgain past (Said words) = AllLanded past
MayFareBy IsAgain past _ = ⊤
