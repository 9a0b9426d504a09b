-- What arrives of the units of a side since the host started, by the transcript so far (this project's own rule): what the other side has judged since then, and after it what is on
-- its way, is that, in order and by all bytes.
use Rattle.std.specs.Prelude.{◌≡◌, not, ◌&&◌, if◌then◌else◌, ℕ, List, [], ◌∷◌, ◌++◌}
use Rattle.std.specs.List.{flat_map}
use Rattle.serial_frame.specs.Items.{ItemText}
use Rattle.serial_frame.specs.Stream.{no_rest}
use Rattle.serial_frame.specs.declared.item.Item.{Item}
use Rattle.serial_pipes.specs.State.{WayState}
use Rattle.zw_words.specs.declared.side.Side.{Side}
use Rattle.zw_text.specs.declared.entry.Entry.{Entry}
use Rattle.zw_text.specs.declared.entry.Entry.TheVariants.{Said, Written}
use Rattle.zw_text.specs.Transcript.{line_of, same_side}
use Rattle.law_wire.specs.law_transcript.Restarts.{is_restart, begins_refused}
use Rattle.law_wire.specs.Serial.{arriving_of}
use Rattle.proof_world.specs.proof_serial.Way.{Carries}

-- one entry, with those after it: a restart that is not refused empties both ways
abbrev pub arrived_step : Side → List (List ℕ) → Entry → List Entry → List (List ℕ)
arrived_step side texts (Written on unit) rest = texts ++ (if same_side side on then arriving_of on unit rest else [])
arrived_step side texts (Said words) rest = if is_restart (line_of (Said words)) && not (begins_refused rest) then [] else texts
arrived_step side texts entry rest = texts

abbrev pub arrived_from : Side → List (List ℕ) → List Entry → List (List ℕ)
arrived_from side texts [] = texts
arrived_from side texts (entry ∷ rest) = arrived_from side (arrived_step side texts entry rest) rest

-- what arrives of its units
abbrev pub arrived : Side → List Entry → List (List ℕ)
arrived side past = arrived_from side [] past

-- these items are just these texts, each by all its bytes
abbrev pub AreTexts : List Item → List (List ℕ) → Type 0
AreTexts [] [] = Unit {0}
AreTexts [] (text ∷ texts) = ⊥
AreTexts (item ∷ items) [] = ⊥
AreTexts (item ∷ items) (text ∷ texts) = ItemText item text × AreTexts items texts

-- the items that were judged, and then those on this way, are these texts; the bytes on it are those that are ahead
pub record Comes (way : WayState) (texts : List (List ℕ)) : Type 0 where
  pub earlier : List (List ℕ)
  pub ahead : List (List ℕ)
  pub parts : texts ≡ earlier ++ ahead
  pub judged : List Item
  pub items : List Item
  pub carries : Carries no_rest way items
  pub heard : AreTexts judged earlier
  pub coming : AreTexts items ahead
  pub bytes : way.bytes ≡ flat_map (λ text. text) ahead
