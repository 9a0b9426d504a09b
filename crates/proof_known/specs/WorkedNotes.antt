-- Transcripts of what is told, beside those of `law_host` (this project's own, made by hand).
use Rattle.std.specs.Prelude.{codes, List, [], ◌∷◌, ◌++◌, take}
use Rattle.zw_text.specs.declared.entry.Entry.{Entry}
use Rattle.zw_text.specs.declared.entry.Entry.TheVariants.{Said, Accepted, Begin, Out, Interviewed}
use Rattle.zw_text.specs.declared.entry.Ended.TheVariants.{Success}
use Rattle.proof_transcript.specs.law_time.WorkedUnits.{by_chip, host_acknowledges}
use Rattle.proof_transcript.specs.law_host.Worked.{ended_openly, told_openly}

-- a command ends with nothing heard of its node
abbrev pub ended_unreported : List Entry
ended_unreported = Out 1 Success ∷ []

-- a command ends by two bytes that are sealed, and seal nothing
abbrev pub ended_by_nothing : List Entry
ended_by_nothing = by_chip (codes "010800040002029881EA") ∷ host_acknowledges ∷ Out 1 Success ∷ []

-- a lock lists Security 0 in its interview, and a session of it begins
abbrev pub lock_listed : List Entry
lock_listed =
    Said (codes "join 4") ∷ Said (codes "interview 4") ∷ by_chip (codes "010B0049840405044003986285") ∷ host_acknowledges ∷ Interviewed 4
    ∷ Said (codes "set 4 on") ∷ Accepted 1 4 ∷ Begin 4 1 1 ∷ []

-- its report comes openly, and is not read, or is believed
abbrev pub lock_unread : List Entry
lock_unread = lock_listed ++ told_openly

abbrev pub lock_believed : List Entry
lock_believed = lock_listed ++ take 3 ended_openly
