-- Where the host says that a record was not kept (this project's own rule): among the notes of a payload, where the information of a node comes, with which an interview may end, or where
-- a session is to begin.
use Rattle.std.specs.Prelude.{◌≡◌, ◌⊎◌, true, List, [], ◌∷◌, ◌++◌, ⊤}
use Rattle.s0_crypto.specs.declared.key_pair.Keys.{Keys}
use Rattle.host_heard.specs.Telling.{heard_at}
use Rattle.zw_text.specs.declared.entry.Entry.{Entry}
use Rattle.zw_text.specs.declared.entry.Entry.TheVariants.{Unkept}
use Rattle.law_transcript.specs.Lists.{EachAfter}
use Rattle.law_transcript.specs.Units.{Carried}
use Rattle.proof_attempts.specs.law_time.Choice.{is_to_begin}
use Rattle.proof_attempts.specs.law_time.Interviews.{informs}
use Rattle.proof_attempts.specs.law_time.Judged.{brought_here, notices_here}
use Rattle.proof_notes.specs.Full.{PayloadNotes, SinceUnit, since_unit}

-- it stands among the notes of one of these payloads, some of which may be still to come
abbrev pub IsAmong : Keys → SinceUnit → Entry → List Carried → Type 0
IsAmong keys since entry [] = ⊥
IsAmong keys since entry (carried ∷ more) =
    ((rest : List Entry) × PayloadNotes keys carried.node carried.payload since.upto (heard_at carried.payload) (since.notes ++ entry ∷ rest)) ⊎ IsAmong keys since entry more

abbrev pub MayLack : Keys → List Entry → Entry → Type 0
MayLack keys past (Unkept node) =
    IsAmong keys (since_unit past) (Unkept node) (brought_here past) ⊎ ((informs node (notices_here past) ≡ true) ⊎ (is_to_begin node past ≡ true))
MayLack keys past entry = ⊤

abbrev pub UnkeptWhereAsked : Keys → List Entry → Type 0
UnkeptWhereAsked keys transcript = EachAfter (MayLack keys) [] transcript
