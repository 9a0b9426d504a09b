-- Entries of which what lines asked for asks nothing: those of others, of units, of lines' answers, and of items.
use Rattle.std.proofs.Common.{List}
use Rattle.std.specs.List.{AllByRecursion}
use Rattle.serial_frame.specs.declared.item.Item.{Item}
use Rattle.serial_frame.specs.declared.item.Item.TheVariants.{Good, Refused as refused_item}
use Rattle.serial_frame.specs.declared.item.Refusal.TheVariants.{Stray, BadLength, BadSum, BadKind, Aborted}
use Rattle.serial_frame.specs.declared.unit.Unit.TheVariants.{Ack, Nak, Can, Framed}
use Rattle.zw_text.specs.declared.entry.Entry.{Entry}
use Rattle.zw_text.specs.declared.entry.Entry.TheVariants as entry
use Rattle.host_model.specs.Outs.{answer_to}
use Rattle.proof_nonces.proofs.proof_device_HostOuts.{OutsAre}
use Rattle.proof_nonces.specs.proof_attempts.proof_walk.Outside.{IsHostNote}
use Rattle.proof_nonces.specs.proof_attempts.proof_requests.proof_alone.Steps.{AreTold, IsOfOthers}
use Rattle.proof_nonces.proofs.Events.{AreAnswers}
use Rattle.proof_nonces.proofs.proof_alone_Apart.{AreOfLine, puts_are}
use Rattle.proof_nonces.proofs.Apart.{IsWordless}

-- neither of a line nor the number of a tick
abbrev pub IsLater : Entry → Type 0
IsLater (entry.Said words) = ⊥
IsLater (entry.Refused refusal) = ⊥
IsLater (entry.Time tick) = ⊥
IsLater e = Unit {0}

-- nor that an errand or an interview has ended
abbrev pub IsAside : Entry → Type 0
IsAside (entry.Done node how) = ⊥
IsAside (entry.Interviewed node) = ⊥
IsAside (entry.InterviewFailed node) = ⊥
IsAside e = IsLater e

pub later_wordless : (e : Entry) → IsLater e → IsWordless e
later_wordless (entry.Said words) later = absurd later
later_wordless (entry.Refused refusal) later = absurd later
later_wordless e later = tt

pub aside_later : (e : Entry) → IsAside e → IsLater e
aside_later (entry.Done node how) aside = absurd aside
aside_later (entry.Interviewed node) aside = absurd aside
aside_later (entry.InterviewFailed node) aside = absurd aside
aside_later e aside = aside

pub line_aside : AreOfLine IsAside
line_aside = record { written = λ side text. tt; dropped = λ side. tt; garbled = λ side text. tt; overrun = λ side. tt }

pub line_later : AreOfLine IsLater
line_later = record { written = λ side text. tt; dropped = λ side. tt; garbled = λ side text. tt; overrun = λ side. tt }

pub note_later : (e : Entry) → IsHostNote e → IsLater e
note_later (entry.Said words) note = absurd note
note_later (entry.Refused refusal) note = absurd note
note_later (entry.Time tick) note = absurd note
note_later e note = tt

pub others_aside : (e : Entry) → IsOfOthers e → IsAside e
others_aside (entry.Said words) others = absurd others
others_aside (entry.Refused refusal) others = absurd others
others_aside (entry.Time tick) others = absurd others
others_aside (entry.Done node how) others = absurd others
others_aside (entry.Interviewed node) others = absurd others
others_aside (entry.InterviewFailed node) others = absurd others
others_aside e others = tt

answer_aside : (item : Item) → OutsAre IsAside (answer_to item)
answer_aside (Good (Framed f)) = (tt, tt)
answer_aside (Good Ack) = tt
answer_aside (Good Nak) = tt
answer_aside (Good Can) = tt
answer_aside (refused_item (BadSum want got)) = (tt, tt)
answer_aside (refused_item (BadKind x)) = (tt, tt)
answer_aside (refused_item (Stray x)) = tt
answer_aside (refused_item (BadLength n)) = tt
answer_aside (refused_item Aborted) = tt

pub item_aside : (item : Item) (told : List Entry) → AreTold (answer_to item) told → AllByRecursion IsAside told
item_aside item told is = puts_are IsAside line_aside (answer_to item) told (answer_aside item) is

pub answers_aside : AreAnswers IsAside
answers_aside = record { accepted = λ command node. tt; taken_back = λ command. tt }
