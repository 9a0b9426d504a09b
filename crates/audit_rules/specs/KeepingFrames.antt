-- That what is kept of the frames is that of a transcript.
use Rattle.std.specs.Prelude.{◌≡◌, ℕ, suc, ◌<◌, false, List, [], ◌∷◌, length, map, Some}
use Rattle.air_frames.specs.Ages.{is_class}
use Rattle.zw_text.specs.declared.entry.Entry.{Entry}
use Rattle.zw_text.specs.Transcript.{AirFrame, frames, session_numbers}
use Rattle.law_transcript.specs.Nodes.{controller}
use Rattle.law_transcript.specs.Repeats.{new_nonces, node_of, nonces_shown, up_to_frame}
use Rattle.audit_rules.specs.declared.frames.Flown.{Flown}
use Rattle.audit_rules.specs.declared.frames.Shown.{Shown}
use Rattle.audit_rules.specs.AirRule.{has_landed, is_sent}
use Rattle.audit_rules.specs.Flying.{Flying, counted, no_nonces, shown_at}

-- nonces, counted
abbrev pub shown_from : Shown → List (List ℕ) → Shown
shown_from before [] = before
shown_from before (nonce ∷ nonces) = shown_from (counted before (Some nonce)) nonces

abbrev pub shown_by : List (List ℕ) → Shown
shown_by nonces = shown_from no_nonces nonces

-- a frame with the counts of its node as they stood when it went on the air
abbrev pub flown_of : List Entry → AirFrame → Flown
flown_of past frame = record {
  node = node_of frame;
  segment = is_class frame.payload 0x55;
  sealed = is_class frame.payload 0x98;
  begun = length (session_numbers (node_of frame) (up_to_frame frame.number past));
  shown = new_nonces (node_of frame) (up_to_frame frame.number past);
}

-- frames are numbered one after another, and each is of a node
abbrev pub AreNumbered : ℕ → List AirFrame → Type 0
AreNumbered number [] = Unit {0}
AreNumbered number (frame ∷ more) = (frame.number ≡ number) × (node_of frame < 233) × AreNumbered (suc number) more

pub record AreFlyingOf (flying : Flying) (past : List Entry) : Type 0 where
  pub frames_are : flying.frames ≡ map (flown_of past) (frames past)
  pub landed_are : flying.landed ≡ map (λ (frame : AirFrame). has_landed past frame.number) (frames past)
  pub outward_places : length flying.outward ≡ 233
  pub homeward_places : length flying.homeward ≡ 233
  pub outward_are : (node : ℕ) → node < 233 → shown_at flying.outward node ≡ shown_by (nonces_shown controller node past)
  pub homeward_are : (node : ℕ) → node < 233 → shown_at flying.homeward node ≡ shown_by (nonces_shown node controller past)
  pub numbered : AreNumbered 1 (frames past)
  pub beyond : (number : ℕ) → is_sent past number ≡ false → has_landed past number ≡ false
