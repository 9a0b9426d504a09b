-- The walk over the history of the air, time and the devices; and by the transcript, where frames and sessions are numbered in order.
use Rattle.std.proofs.Common.{List, [], ◌∷◌, ◌++◌}
use Rattle.zw_text.specs.declared.entry.Entry.{Entry}
use Rattle.zw_text.specs.declared.entry.Entry.TheVariants as entry
use Rattle.law_transcript.specs.Fates.{MayAir}
use Rattle.law_transcript.specs.Sessions.{MayBegin}
use Rattle.world_lines.specs.Spoken.{after_all, transcript_of}
use Rattle.world_model.specs.State.{Machine, first_machine}
use Rattle.proof_host.proofs.Lists.{each-append}
use Rattle.proof_air.specs.proof_walk.Walk.{both_know}
use Rattle.proof_air.proofs.Lines.{lines_lead, lines_stand}
use Rattle.proof_devices.specs.Answering.{MayAnswer, KnowAnswers, Ground}
use Rattle.proof_devices.proofs.Following.{all_follow}
use Rattle.proof_devices.proofs.FateGrounds.{ground_walk, answering_walk}
use Rattle.proof_devices.proofs.Repeating.{answers_first, known_now}
use Rattle.proof_devices.proofs.fates.lines_repeat_what_is_asked.Goals as goal

pub returns-clause-cut : goal.returns-clause-cut
returns-clause-cut c = λ keys records devices lines are numbered begins.
    let m : Machine = first_machine keys records devices in
    all_follow devices [] (transcript_of m lines) numbered begins
    (lines_stand (MayAnswer devices) (both_know (Ground devices) (KnowAnswers devices))
    (answering_walk devices (ground_walk devices c.history_goes_on.ensures.walk c.time_goes_on.ensures.walk (c.devices_live_on.ensures.walk devices))
    (λ past m frame left node apart time acts. c.devices_listen_as_shown.ensures.repeating devices past m frame left node apart time acts)) [] m lines are
    (((c.history_goes_on.ensures.first keys records devices, c.time_goes_on.ensures.first keys records devices), c.devices_live_on.ensures.first keys records devices), answers_first devices m))

-- an empty line may be said too
pub returns-clause-whole : goal.returns-clause-whole
returns-clause-whole c = λ keys records devices lines are whole numbered begins.
    let m : Machine = first_machine keys records devices in
    let told : List Entry = transcript_of m lines in
    let said : Entry = entry.Said [] in
    let got = lines_lead (MayAnswer devices) (both_know (Ground devices) (KnowAnswers devices))
    (answering_walk devices (ground_walk devices c.history_goes_on.ensures.walk c.time_goes_on.ensures.walk (c.devices_live_on.ensures.walk devices))
    (λ past m frame left node apart time acts. c.devices_listen_as_shown.ensures.repeating devices past m frame left node apart time acts)) [] m lines are whole
    (((c.history_goes_on.ensures.first keys records devices, c.time_goes_on.ensures.first keys records devices), c.devices_live_on.ensures.first keys records devices), answers_first devices m) in
    all_follow devices [] (told ++ said ∷ []) (each-append MayAir [] told (said ∷ []) numbered (tt, tt))
    (each-append MayBegin [] told (said ∷ []) begins (tt, tt))
    (each-append (MayAnswer devices) [] told (said ∷ []) got.0 (known_now devices told (after_all m lines) got.1.1 said, tt))
