-- All has landed after whole lines, and so the end keeps the law as a further line would.
use Rattle.std.proofs.Common.{true, List, [], ◌∷◌}
use Rattle.zw_text.specs.declared.entry.Entry.{Entry}
use Rattle.zw_text.specs.declared.entry.Entry.TheVariants as entry
use Rattle.law_host.specs.law_transcript.Fates.{AllLanded, FaresInTurn, MayFare}
use Rattle.law_host.specs.law_wire.Serial.{ended}
use Rattle.proof_air.proofs.Lists.{each-append}
use Rattle.proof_air.specs.world_model.State.{first_machine}
use Rattle.proof_air.specs.world_lines.Spoken.{transcript_of}
use Rattle.proof_transcript.proofs.Turning.{all_land, nothing_flies}
use Rattle.proof_transcript.proofs.frames.all_frames_land_in_the_end.Goals as goal

to_the_end : (told : List Entry) → FaresInTurn told → AllLanded told → FaresInTurn (ended true told)
to_the_end told fares landed = each-append MayFare [] told (entry.Said [] ∷ []) fares (landed, tt)

pub returns-clause-once : goal.returns-clause-once
returns-clause-once c = λ keys records devices lines none are whole.
    to_the_end (transcript_of (first_machine keys records devices) lines) (c.ticks_decide_each_frame.ensures.once keys records devices lines none are)
    (all_land (first_machine keys records devices) lines are whole [] nothing_flies)

pub returns-clause-again : goal.returns-clause-again
returns-clause-again c = λ keys records devices lines are whole begins.
    to_the_end (transcript_of (first_machine keys records devices) lines) (c.ticks_decide_each_frame.ensures.again keys records devices lines are begins)
    (all_land (first_machine keys records devices) lines are whole [] nothing_flies)
