-- What became of a unit of the host, and its notes: they refuse no line, the course goes on by marks as it was, and attempts that are late stay so.
use Rattle.std.proofs.Common.{◌≡◌, ℕ, true, false, List, [], ◌∷◌, ◌++◌, refl}
use Rattle.std.specs.List.{AllByRecursion}
use Rattle.zw_base.proofs.Each.{all-weaker}
use Rattle.zw_words.specs.declared.side.Side.TheVariants.{Host}
use Rattle.zw_text.specs.declared.entry.Entry.{Entry}
use Rattle.zw_text.specs.declared.entry.Entry.TheVariants as entry
use Rattle.host_heard.specs.declared.told.Told.{Told}
use Rattle.law_transcript.specs.Lists.{EachAfter}
use Rattle.law_transcript.specs.Restarts.{begins_refused}
use Rattle.law_transcript.specs.Units.{Carried}
use Rattle.law_time.specs.Heeds.{Heeds}
use Rattle.law_time.specs.Judged.{is_mark}
use Rattle.proof_hearing.proofs.proof_requests_Telling.{IsQuiet}
use Rattle.proof_hearing.specs.proof_queue.proof_attempts.proof_requests.law_host.Course.{Course}
use Rattle.proof_hearing.specs.proof_queue.proof_attempts.proof_requests.law_host.Following.{is_note}
use Rattle.proof_hearing.specs.proof_queue.proof_attempts.proof_requests.proof_alone.Steps.{IsOfUnit}
use Rattle.proof_noting.specs.Following.{Goes}
use Rattle.proof_noting.proofs.Choosing.{marks_goes}
use Rattle.proof_noting.proofs.Lately.{KeepsLate}

-- ---- marks

unit_marks : (e : Entry) → IsOfUnit e → is_mark e ≡ true
unit_marks (entry.Dropped Host) mark = refl
unit_marks (entry.Garbled Host unit) mark = refl
unit_marks (entry.Overrun Host) mark = refl
unit_marks e mark = absurd mark

pub are_marks : (marks : List Entry) → AllByRecursion IsOfUnit marks → AllByRecursion (λ (e : Entry). is_mark e ≡ true) marks
are_marks marks all = all-weaker IsOfUnit (λ (e : Entry). is_mark e ≡ true) unit_marks marks all

pub units_go : (heeds : Heeds) (past marks : List Entry) (c : Course) → AllByRecursion IsOfUnit marks → Goes heeds past marks c c
units_go heeds past marks c all = marks_goes heeds past marks c (are_marks marks all)

pub marks_unrefused : (marks : List Entry) → AllByRecursion IsOfUnit marks → begins_refused marks ≡ false
marks_unrefused [] all = refl
marks_unrefused (entry.Refused refusal ∷ marks) all = absurd all.0
marks_unrefused (e ∷ marks) all = refl

pub marks_keep : (taken : List Entry → Carried → List Told) (n : ℕ) (past marks : List Entry) → AllByRecursion IsOfUnit marks → EachAfter (KeepsLate taken n) past marks
marks_keep taken n past [] all = tt
marks_keep taken n past (entry.Dropped Host ∷ marks) all = (tt, marks_keep taken n (past ++ entry.Dropped Host ∷ []) marks all.1)
marks_keep taken n past (entry.Garbled Host unit ∷ marks) all = (tt, marks_keep taken n (past ++ entry.Garbled Host unit ∷ []) marks all.1)
marks_keep taken n past (entry.Overrun Host ∷ marks) all = (tt, marks_keep taken n (past ++ entry.Overrun Host ∷ []) marks all.1)
marks_keep taken n past (e ∷ marks) all = absurd all.0

-- ---- notes

pub notes_unrefused : (told : List Entry) → AllByRecursion (λ (e : Entry). is_note e ≡ true) told → begins_refused told ≡ false
notes_unrefused [] all = refl
notes_unrefused (entry.Refused refusal ∷ told) all = absurd (let bad : false ≡ true = all.0 in cc)
notes_unrefused (e ∷ told) all = refl

pub note_quiet : (e : Entry) → is_note e ≡ true → IsQuiet e
note_quiet (entry.Said words) note = absurd (let bad : false ≡ true = note in cc)
note_quiet (entry.Refused refusal) note = absurd (let bad : false ≡ true = note in cc)
note_quiet (entry.Written side unit) note = absurd (let bad : false ≡ true = note in cc)
note_quiet (entry.Dropped side) note = absurd (let bad : false ≡ true = note in cc)
note_quiet (entry.Overrun side) note = absurd (let bad : false ≡ true = note in cc)
note_quiet e note = tt
