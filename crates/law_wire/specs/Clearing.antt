-- What a restart of the host loses on the serial line (this project's own rule): directly after one that is not refused stands how many bytes were on
-- their way, first from the host and then from the chip, where there were any; and nowhere else.
use Rattle.std.specs.Prelude.{◌≡◌, ℕ, zero, suc, Bool, true, false, not, ◌&&◌, if◌then◌else◌, List, [], ◌∷◌, ◌++◌, ⊤}
use Rattle.std.specs.List.{flat_map}
use Rattle.serial_link.specs.Rules.{Step}
use Rattle.zw_words.specs.declared.side.Side.{Side}
use Rattle.zw_words.specs.declared.side.Side.TheVariants.{Host, Chip}
use Rattle.zw_text.specs.declared.entry.Entry.{Entry}
use Rattle.zw_text.specs.declared.entry.Entry.TheVariants.{Cleared}
use Rattle.zw_text.specs.Transcript.{line_of, shown}
use Rattle.law_transcript.specs.Lists.{shown_after, IsPrefixOf}
use Rattle.law_transcript.specs.Restarts.{is_restart, begins_refused}
use Rattle.law_wire.specs.Serial.{serial_events, ended}
use Rattle.law_wire.specs.Links.{Moment, moments_of, line_in, left_ahead, bytes_in, KeepsLinks}

-- the bytes that a side has not heard where each restart is
abbrev pub lost_at : Side → List Moment → Moment → List ℕ
lost_at side past one = if is_restart (line_in one.event) then bytes_in (left_ahead side past one) ∷ [] else []

abbrev pub lost_by : (side : Side) (transcript : List Entry) → List (List Step) → List ℕ
lost_by side transcript parts = shown_after (lost_at side) [] (moments_of (serial_events transcript) parts)

-- as entries: what the chip had not heard is the host's
abbrev pub cleared : Side → ℕ → List Entry
cleared side zero = []
cleared side (suc more) = Cleared side (suc more) ∷ []

abbrev pub to_clear : List ℕ → List ℕ → List (List Entry)
to_clear (host ∷ hosts) (chip ∷ chips) = (cleared Host host ++ cleared Chip chip) ∷ to_clear hosts chips
to_clear _ _ = []

-- what of this stands directly after a restart, and whether more stands after that
pub record Cleared_there : Type 0 where
  pub entries : List Entry
  pub is_over : Bool

abbrev pub clears_first : List Entry → List Entry
clears_first (Cleared side count ∷ rest) = Cleared side count ∷ clears_first rest
clears_first _ = []

abbrev pub goes_on_after : List Entry → Bool
goes_on_after [] = false
goes_on_after (Cleared side count ∷ rest) = goes_on_after rest
goes_on_after (entry ∷ rest) = true

abbrev pub clears : List Entry → List Cleared_there
clears [] = []
clears (entry ∷ rest) =
    if is_restart (line_of entry) && not (begins_refused rest) then record { entries = clears_first rest; is_over = goes_on_after rest } ∷ clears rest
    else clears rest

-- just what is to be told stands there; at the end of a run that was cut short a prefix of it
abbrev pub IsTold : Bool → List Entry → List Entry → Type 0
IsTold true entries due = entries ≡ due
IsTold false entries due = IsPrefixOf entries due

abbrev pub AreTold : List Cleared_there → List (List Entry) → Type 0
AreTold [] [] = ⊤
AreTold (one ∷ more) (due ∷ others) = IsTold one.is_over one.entries due × AreTold more others
AreTold _ _ = ⊥

abbrev pub clear_at : Entry → List Entry
clear_at (Cleared side count) = Cleared side count ∷ []
clear_at _ = []

-- with links that obey the rules, just what was on its way is told, and nowhere else
pub record ClearsLine (whole : Bool) (transcript : List Entry) : Type 0 where
  pub links : KeepsLinks whole transcript
  pub each : AreTold (clears (ended whole transcript))
      (to_clear (lost_by Chip (ended whole transcript) links.chip.parts) (lost_by Host (ended whole transcript) links.host.parts))
  pub only : flat_map (λ one. one.entries) (clears (ended whole transcript)) ≡ shown clear_at transcript
