-- A frame that is judged is the one that its acknowledgement is for: what the course of notes makes of that acknowledgement.
use Rattle.std.proofs.Common.{◌≡◌, ℕ, true, List, [], ◌∷◌, ◌++◌, drop, take, refl, ap, ap₂, ◌∙◌}
use Rattle.std.proofs.Math.Seq.{drop-append_seam}
use Rattle.serial_frame.specs.Frame.{FrameParts}
use Rattle.serial_frame.specs.Items.{unit_text}
use Rattle.serial_frame.specs.declared.unit.Unit.{Unit as LineUnit}
use Rattle.serial_frame.specs.declared.unit.Unit.TheVariants.{Framed}
use Rattle.zw_text.specs.declared.entry.Entry.{Entry}
use Rattle.law_transcript.specs.Units.{Carried, bringing_in}
use Rattle.law_time.specs.Heeds.{Heeds}
use Rattle.proof_ends.specs.proof_requests.law_host.Course.{Course, each_in_turn}
use Rattle.proof_ends.specs.proof_requests.law_host.Ends.{ends_by_frame}
use Rattle.proof_ends.specs.proof_requests.law_host.Following.{after, comes_to}
use Rattle.proof_ends.specs.proof_requests.law_host.Frames.{frame_next, hears_carried, judges}
use Rattle.proof_ends.specs.proof_requests.proof_waking.Judged.{TieFrames, frames_of}
use Rattle.proof_following.specs.Quiet.{acknowledges}
use Rattle.proof_following.proofs.Entering.{plain_after}

-- the next acknowledgement is for the frame that came first and was not judged
pub frame_next_is : (past : List Entry) (f : FrameParts) (rest : List LineUnit) → TieFrames past (Framed f ∷ rest) → frame_next past ≡ unit_text (Framed f) ∷ []
frame_next_is past f rest tie =
    ap₂ (λ (n : ℕ) (l : List (List ℕ)). take 1 (drop n l)) tie.count tie.come
    ∙ ap (λ (l : List (List ℕ)). take 1 l) (drop-append_seam tie.done (frames_of (Framed f ∷ rest)))

module _ (heeds : Heeds) (past : List Entry) where
  pub ack_after : (frame : List ℕ) (rest : List Entry) (c d : Course) → c.fits ≡ true → comes_to heeds past acknowledges c ≡ d → d.due ≡ [] → d.fits ≡ true → frame_next past ≡ frame ∷ []
      → after heeds past acknowledges rest c ≡ judges heeds past (past ++ acknowledges ∷ []) frame d
  ack_after frame rest c d fits comes none well next =
      plain_after heeds past acknowledges rest c d refl fits comes none well refl ∙ ap (λ (l : List (List ℕ)). each_in_turn (judges heeds past (past ++ acknowledges ∷ [])) l d) next

  -- one that brings nothing of a node
  pub judges_request : (frame : List ℕ) (later : List Entry) (c : Course) → bringing_in frame ≡ [] → judges heeds past later frame c ≡ ends_by_frame heeds later (record c { put = 0 })
  judges_request frame later c none = ap (λ (l : List Carried). each_in_turn (hears_carried heeds past later) l (ends_by_frame heeds later (record c { put = 0 }))) none

  -- one that brings something, and ends no request
  pub judges_payload : (frame : List ℕ) (later : List Entry) (carried : Carried) (c : Course) → bringing_in frame ≡ carried ∷ [] → ends_by_frame heeds later (record c { put = 0 }) ≡ record c { put = 0 }
      → judges heeds past later frame c ≡ hears_carried heeds past later carried (record c { put = 0 })
  judges_payload frame later carried c one none =
      ap₂ (λ (l : List Carried) (d : Course). each_in_turn (hears_carried heeds past later) l d) one none
