-- What a host enters of what it puts out leaves what came of the chip, and its first unit may ask for what is due.
use Rattle.std.proofs.Common.{◌≡◌, ℕ, false, List, [], ◌∷◌, ◌++◌, refl, sym, subst}
use Rattle.std.specs.List.{AllByRecursion}
use Rattle.zw_base.proofs.Each.{all-append, all-weaker}
use Rattle.serial_frame.specs.Items.{unit_text}
use Rattle.zw_words.specs.declared.side.Side.TheVariants.{Host, Chip}
use Rattle.zw_text.specs.declared.entry.Entry.{Entry}
use Rattle.zw_text.specs.declared.entry.Entry.TheVariants as entry
use Rattle.law_transcript.specs.Lists.{EachAfter}
use Rattle.law_transcript.specs.Payloads.{MayRequest}
use Rattle.law_transcript.specs.Restarts.{begins_refused}
use Rattle.proof_known.specs.law_host.Heard.{listing_heard}
use Rattle.host_model.specs.State.{HostState}
use Rattle.host_model.specs.Events.{HostEvent, Accepts, Cancels}
use Rattle.host_model.specs.Outs.{answers}
use Rattle.host_model.specs.declared.out.HostOut.{HostOut}
use Rattle.host_model.specs.declared.out.HostOut.TheVariants.{Write, Note}
use Rattle.proof_sending.specs.proof_walk.Outside.{IsHostNote}
use Rattle.proof_sending.proofs.HostNotes.{NoteOuts, is_note}
use Rattle.proof_sending.proofs.Machines.{UnitsAre}
use Rattle.proof_sending.proofs.HostUnits.{FirstAlone, FirstDue, NoUnit, none_stand}
use Rattle.proof_sending.proofs.OutsideUnits.{AreNotWritten, IsNotWritten, note_not}
use Rattle.proof_known.specs.proof_alone.Steps.{AreTold, DidNotCome, IsOfOthers, IsOfUnit}
use Rattle.proof_asking.proofs.Leaving.{LeavesChip}

-- ---- of no unit of the chip

pub others_leave : (e : Entry) → IsOfOthers e → LeavesChip e
others_leave (entry.Written side unit) others = absurd others
others_leave (entry.Dropped side) others = absurd others
others_leave (entry.Garbled side unit) others = absurd others
others_leave (entry.Overrun side) others = absurd others
others_leave e others = tt

note_leaves : (e : Entry) → IsHostNote e → LeavesChip e
note_leaves (entry.Written side unit) note = absurd note
note_leaves (entry.Dropped side) note = absurd note
note_leaves (entry.Garbled side unit) note = absurd note
note_leaves (entry.Overrun side) note = absurd note
note_leaves e note = tt

mark_leaves : (e : Entry) → IsOfUnit e → LeavesChip e
mark_leaves (entry.Dropped Host) mark = tt
mark_leaves (entry.Garbled Host unit) mark = tt
mark_leaves (entry.Overrun Host) mark = tt
mark_leaves e mark = absurd mark

pub told_leaves : (puts : List HostOut) (told : List Entry) → NoteOuts puts → AreTold puts told → AllByRecursion LeavesChip told
told_leaves [] told notes is = subst (AllByRecursion LeavesChip) (sym is) tt
told_leaves (Note e ∷ puts) told notes (rest, is, more) = subst (AllByRecursion LeavesChip) (sym is) (note_leaves e notes.0, told_leaves puts rest notes.1 more)
told_leaves (Write unit ∷ puts) told notes (marks, rest, is, all, more) =
    subst (AllByRecursion LeavesChip) (sym is)
    (tt, all-append LeavesChip marks rest (all-weaker IsOfUnit LeavesChip mark_leaves marks all) (told_leaves puts rest notes.1 more))

pub answers_leave : (h : HostState) (event : HostEvent) → AllByRecursion LeavesChip (answers h event)
answers_leave h (Accepts order carriage) = (tt, tt)
answers_leave h (Cancels command) = (tt, tt)
answers_leave h event = tt

-- ---- and no refusal stands first

note_fresh : (e : Entry) (rest : List Entry) → IsHostNote e → begins_refused (e ∷ rest) ≡ false
note_fresh (entry.Refused refusal) rest note = absurd note
note_fresh e rest note = refl

pub told_fresh : (puts : List HostOut) (told : List Entry) → NoteOuts puts → AreTold puts told → begins_refused told ≡ false
told_fresh [] told notes is = subst (λ (l : List Entry). begins_refused l ≡ false) (sym is) refl
told_fresh (Note e ∷ puts) told notes (rest, is, more) = subst (λ (l : List Entry). begins_refused l ≡ false) (sym is) (note_fresh e rest notes.0)
told_fresh (Write unit ∷ puts) told notes (marks, rest, is, all, more) = subst (λ (l : List Entry). begins_refused l ≡ false) (sym is) refl

pub others_fresh : (e : Entry) → IsOfOthers e → begins_refused (e ∷ []) ≡ false
others_fresh (entry.Refused refusal) others = absurd others
others_fresh e others = refl

pub answers_fresh : (h : HostState) (event : HostEvent) → begins_refused (answers h event) ≡ false
answers_fresh h (Accepts order carriage) = refl
answers_fresh h (Cancels command) = refl
answers_fresh h event = refl

-- ---- what may stand

mark_not : (e : Entry) → IsOfUnit e → IsNotWritten e
mark_not (entry.Written side unit) mark = absurd mark
mark_not e mark = tt

pub missed_not : (marks : List Entry) → DidNotCome marks → AreNotWritten marks
missed_not (entry.Dropped Chip ∷ []) did = (tt, tt)
missed_not (entry.Overrun Chip ∷ []) did = (tt, tt)
missed_not (entry.Garbled Chip unit ∷ []) did = (tt, tt)
missed_not (entry.Garbled Chip unit ∷ entry.Overrun Chip ∷ []) did = (tt, (tt, tt))
missed_not marks did = absurd did

pub others_not : (e : Entry) → IsOfOthers e → IsNotWritten e
others_not (entry.Written side unit) others = absurd others
others_not e others = tt

pub answers_not : (h : HostState) (event : HostEvent) → AreNotWritten (answers h event)
answers_not h (Accepts order carriage) = (tt, tt)
answers_not h (Cancels command) = (tt, tt)
answers_not h event = tt

rest_not : (puts : List HostOut) (told : List Entry) → UnitsAre NoUnit puts → NoteOuts puts → AreTold puts told → AreNotWritten told
rest_not [] told units notes is = subst AreNotWritten (sym is) tt
rest_not (Write unit ∷ puts) told units notes is = absurd units.0
rest_not (Note e ∷ puts) told units notes (rest, is, more) = subst AreNotWritten (sym is) (note_not e (is_note e notes.0), rest_not puts rest units notes.1 more)

module _ (key : List ℕ) where
  abbrev pub Asks : List Entry → Entry → Type 0
  Asks past e = MayRequest listing_heard key past e

  pub told_stand : (past : List Entry) (puts : List HostOut) (told : List Entry) → FirstAlone puts → NoteOuts puts → AreTold puts told → FirstDue listing_heard key past puts → EachAfter Asks past told
  told_stand past [] told alone notes is due = subst (λ (l : List Entry). EachAfter Asks past l) (sym is) tt
  told_stand past (Write unit ∷ puts) told alone notes (marks, rest, is, all, more) due =
      subst (λ (l : List Entry). EachAfter Asks past l) (sym is) (
        due,
        none_stand listing_heard key (past ++ entry.Written Host (unit_text unit) ∷ []) (marks ++ rest)
            (all-append IsNotWritten marks rest (all-weaker IsOfUnit IsNotWritten mark_not marks all) (rest_not puts rest alone notes.1 more)),
      )
  told_stand past (Note e ∷ puts) told alone notes is due = none_stand listing_heard key past told (rest_not (Note e ∷ puts) told alone notes is)
