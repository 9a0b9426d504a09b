-- The frames that the air has sent are those of the transcript, and those that have arrived are those that have had their fate.
use Rattle.std.proofs.Common.{◌≡◌, ℕ, ◌-◌, ◌≤◌, true, List, [], length, sym, ◌∙◌, arith}
use Rattle.std.proofs.lemmas.Bool.{eqb-true}
use Rattle.std.proofs.lemmas.List.{drop_all}
use Rattle.std.specs.Prelude.{Some}
use Rattle.air_frames.specs.Frames.{FramesState}
use Rattle.zw_text.specs.declared.entry.Entry.{Entry}
use Rattle.zw_text.specs.Transcript.{frames}
use Rattle.law_wire.specs.Arriving.{MayLand}
use Rattle.law_wire.specs.law_transcript.Fates.{first_fates}
use Rattle.law_time.specs.Calm.{air_is_empty}
use Rattle.proof_chip.specs.proof_line.world_model.State.{first_machine}
use Rattle.proof_chip.specs.proof_world.world_lines.Spoken.{after_all, transcript_of}
use Rattle.proof_chip.proofs.Lines.{lines_lead}
use Rattle.proof_devices.specs.proof_routes.Forgetting.{MayForget, passages}
use Rattle.proof_in_time.specs.proof_answered.proof_calm.proof_traffic.OnAir.{on_air}
use Rattle.proof_ready.specs.Ease.{AirIsEmpty}
use Rattle.proof_ready.proofs.Counted.{each_passes}
use Rattle.proof_ready.proofs.Grounds.{KnowLanded, KnowWays, landed_walk, ways_walk}
use Rattle.proof_ready.proofs.air.calm_air_is_empty.Goals as goal

-- nothing is on the air where all has arrived
none_flies : (state : FramesState) → state.landed ≡ state.sent → on_air state ≡ []
unfolding on_air
none_flies state same = drop_all (length state.frames - (state.sent - state.landed)) state.frames (all (length state.frames) state.sent state.landed same)
  where
    all : (n sent landed : ℕ) → landed ≡ sent → n ≤ n - (sent - landed)
    all n sent landed same = omega (arith, same)

empty : (past : List Entry) (state : FramesState) → state.sent ≡ length (passages past) → length (first_fates past) ≡ state.landed → air_is_empty past ≡ true → AirIsEmpty state
empty past state sent fated is = record { landed = same; none_flies = none_flies state same }
  where
    same : state.landed ≡ state.sent
    same = sym fated ∙ (eqb-true (length (first_fates past)) (length (frames past)) is ∙ (sym (each_passes [] past) ∙ sym sent))

pub returns : goal.returns
returns c = λ keys devices lines are whole is.
    let m = first_machine keys (Some []) devices in
    let landed =
    (lines_lead MayLand KnowLanded (landed_walk c.history_goes_on.ensures.walk c.time_goes_on.ensures.walk c.landings_go_on.ensures.walk) [] m lines are whole
    ((c.history_goes_on.ensures.first keys (Some []) devices, c.time_goes_on.ensures.first keys (Some []) devices), c.landings_go_on.ensures.first keys (Some []) devices)).1 in
    let ways =
    (lines_lead MayForget (KnowWays devices) (ways_walk devices (c.networks_go_on.ensures.walk devices) (c.frames_go_on.ensures.walk devices)) [] m lines are whole
    (c.networks_go_on.ensures.first keys [] devices, c.frames_go_on.ensures.first keys [] devices)).1 in
    empty (transcript_of m lines) (after_all m lines).outside.outer.air.frames ways.1.0.0.sent landed.1.fated is
