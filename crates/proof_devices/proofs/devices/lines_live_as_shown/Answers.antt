-- What the walk knows of the devices after whole lines, with what is known of time.
use Rattle.std.proofs.Common.{[], arith}
use Rattle.world_lines.specs.Spoken.{after_all, transcript_of}
use Rattle.world_model.specs.State.{Machine, first_machine}
use Rattle.proof_air.specs.proof_walk.Time.{MayCount, KnowTime}
use Rattle.proof_air.specs.proof_walk.Walk.{Walk, both_know}
use Rattle.proof_air.proofs.Lines.{lines_lead}
use Rattle.proof_air.proofs.Over.{over, beside}
use Rattle.proof_air.specs.Hearing.{MayHear, KnowAir}
use Rattle.proof_devices.specs.Living.{MayAny, KnowDevices}
use Rattle.proof_devices.proofs.Whole.{whole_lived}
use Rattle.proof_devices.proofs.devices.lines_live_as_shown.Goals as goal

pub returns : goal.returns
returns c = λ keys records devices lines are whole.
    let m : Machine = first_machine keys records devices in
    let ground : Walk MayCount (both_know KnowAir KnowTime)
    = over MayHear MayCount KnowAir KnowTime c.history_goes_on.ensures.walk (beside MayCount KnowAir KnowTime c.time_goes_on.ensures.walk) in
    let got = lines_lead MayAny (both_know (both_know KnowAir KnowTime) (KnowDevices devices))
    (over MayCount MayAny (both_know KnowAir KnowTime) (KnowDevices devices) ground (c.devices_live_on.ensures.walk devices)) [] m lines are whole
    ((c.history_goes_on.ensures.first keys records devices, c.time_goes_on.ensures.first keys records devices), c.devices_live_on.ensures.first keys records devices) in
    let known = got.1 in
    let time = known.0.1.0.0.clock in
    whole_lived devices (transcript_of m lines) (after_all m lines) (omega (arith, time)) known.1
