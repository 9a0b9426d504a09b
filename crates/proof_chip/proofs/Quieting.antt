-- What the chip puts out that is no answer: its entries may stand in any answer, and go on with it.
use Rattle.std.proofs.Common.{◌≡◌, ℕ, ◌==◌, not, Bool, true, false, if◌then◌else◌, List, [], ◌∷◌, ◌++◌, length, refl, ap, ne_eqb, arith}
use Rattle.std.specs.Prelude.{Option, Some, None}
use Rattle.std.specs.List.{AllByRecursion}
use Rattle.zw_base.proofs.Each.{all-append}
use Rattle.serial_frame.specs.Frame.{FrameParts}
use Rattle.serial_frame.specs.Items.{unit_text}
use Rattle.serial_frame.specs.declared.item.Item.{Item}
use Rattle.serial_frame.specs.declared.item.Item.TheVariants.{Good, Refused}
use Rattle.serial_frame.specs.declared.item.Refusal.TheVariants.{Stray, BadLength, BadSum, BadKind, Aborted}
use Rattle.serial_frame.specs.declared.unit.Unit.TheVariants.{Ack, Nak, Can, Framed}
use Rattle.serial_link.specs.State.{copy_due}
use Rattle.serial_link.specs.declared.turn.Turn.{Turn}
use Rattle.serial_link.specs.declared.turn.Turn.TheVariants.{Idle, Copied, Paused}
use Rattle.serial_pipes.specs.State.{fits, garbled, mark_for}
use Rattle.serial_pipes.specs.Events.{told_by}
use Rattle.serial_pipes.specs.declared.marks.Mark.{Mark}
use Rattle.serial_pipes.specs.declared.marks.Mark.TheVariants.{Free, Lost, Changed}
use Rattle.route_table.specs.declared.route.Route.{Route}
use Rattle.chip_functions.specs.declared.notice.TransmitStatus.{TransmitStatus}
use Rattle.chip_sim.specs.Waiting.{PortState, is_full, next_at, queued_outs_at, ticked, written}
use Rattle.chip_sim.specs.State.{ChipState}
use Rattle.chip_sim.specs.Requests.{answer_outs, given_outs, heard, judged_outs, passed}
use Rattle.chip_sim.specs.Events.{ChipEvent, Judged, Ticked, Heard, Done, Informed, Joined, Linked, Forgets, Collides, collides, ended_outs, outs}
use Rattle.chip_sim.specs.declared.out.Sending.{Sending}
use Rattle.chip_sim.specs.declared.out.ChipOut.{ChipOut}
use Rattle.chip_sim.specs.declared.out.ChipOut.TheVariants.{Write, OnAir, NoRoute, AskInfo, Full}
use Rattle.zw_words.specs.declared.side.Side.TheVariants.{Chip as by_chip}
use Rattle.zw_text.specs.declared.entry.Entry.TheVariants as entry
use Rattle.law_wire.specs.Taking.{goes_on}
use Rattle.outside_model.specs.State.{OuterState, each}
use Rattle.outside_model.specs.Chip.{put_out}
use Rattle.proof_chip.proofs.Airing.{IsMore}
use Rattle.proof_air.proofs.Judging.{JudgesNone}

-- ---- outputs

-- frames of the chip, and what is not told
abbrev pub IsQuiet : ChipOut → Type 0
IsQuiet (Write Ack) = ⊥
IsQuiet (Write Nak) = ⊥
IsQuiet (Write Can) = ⊥
IsQuiet (Write (Framed f)) = Unit {0}
IsQuiet (OnAir to route payload) = ⊥
IsQuiet NoRoute = Unit {0}
IsQuiet (AskInfo node) = Unit {0}
IsQuiet Full = Unit {0}

abbrev pub AreQuiet : List ChipOut → Type 0
AreQuiet puts = AllByRecursion IsQuiet puts

full_quiet : (b : Bool) → AreQuiet (if b then Full ∷ [] else [])
full_quiet true = (tt, tt)
full_quiet false = tt

queued_quiet : (turn : Turn) (p : PortState) (f : FrameParts) → AreQuiet (queued_outs_at turn p f)
queued_quiet Idle p f = (tt, tt)
queued_quiet (Copied g copies ticks) p f = full_quiet (is_full p.waiting)
queued_quiet (Paused g copies ticks) p f = full_quiet (is_full p.waiting)

written_quiet : (next : Option FrameParts) → AreQuiet (written next)
written_quiet None = tt
written_quiet (Some f) = (tt, tt)

pub given_quiet : (o : Option FrameParts) (s : ChipState) → AreQuiet (given_outs s o)
given_quiet None s = tt
given_quiet (Some f) s = queued_quiet s.port.side.turn s.port f

ended_quiet : (o : Option Sending) (s : ChipState) (status : TransmitStatus) → AreQuiet (ended_outs o s status)
ended_quiet None s status = tt
ended_quiet (Some sending) s status = queued_quiet s.port.side.turn s.port _

quiet_if : (b : Bool) (puts : List ChipOut) → AreQuiet puts → AreQuiet (if b then puts else [])
quiet_if true puts quiet = quiet
quiet_if false puts quiet = tt

-- ---- events in which no frame is answered ACK

-- a refusal of what was heard, or none, and then such outputs
abbrev pub AnswersNone : List ChipOut → Type 0
AnswersNone (Write Nak ∷ puts) = AreQuiet puts
AnswersNone (Write Can ∷ puts) = AreQuiet puts
AnswersNone puts = AreQuiet puts

quiet_none : (puts : List ChipOut) → AreQuiet puts → AnswersNone puts
quiet_none [] quiet = tt
quiet_none (Write Ack ∷ puts) quiet = absurd quiet.0
quiet_none (Write Nak ∷ puts) quiet = absurd quiet.0
quiet_none (Write Can ∷ puts) quiet = absurd quiet.0
quiet_none (Write (Framed f) ∷ puts) quiet = quiet
quiet_none (OnAir to route payload ∷ puts) quiet = absurd quiet.0
quiet_none (NoRoute ∷ puts) quiet = quiet
quiet_none (AskInfo node ∷ puts) quiet = quiet
quiet_none (Full ∷ puts) quiet = quiet

abbrev pub IsUnanswered : Bool → ChipEvent → Type 0
IsUnanswered false (Judged (Good (Framed f)) way) = ⊥
IsUnanswered collided event = Unit {0}

-- so is each but an item that is judged
pub unanswered : (b : Bool) (event : ChipEvent) → JudgesNone event → IsUnanswered b event
unanswered true event none = tt
unanswered false (Judged item way) none = absurd none
unanswered false event none = tt

served_quiet : (s : ChipState) (item : Item) → AreQuiet (written (next_at (heard s item).port.side.turn s.port.waiting))
served_quiet s item = written_quiet (next_at (heard s item).port.side.turn s.port.waiting)

judged_none : (b : Bool) (s : ChipState) (item : Item) (way : Option Route) → IsUnanswered b (Judged item way) → AnswersNone (answer_outs b item ++ judged_outs (passed b item) (heard s item) way)
judged_none true s (Good Ack) way none = quiet_none _ (served_quiet s (Good Ack))
judged_none false s (Good Ack) way none = quiet_none _ (served_quiet s (Good Ack))
judged_none true s (Good Nak) way none = quiet_none _ (served_quiet s (Good Nak))
judged_none false s (Good Nak) way none = quiet_none _ (served_quiet s (Good Nak))
judged_none true s (Good Can) way none = quiet_none _ (served_quiet s (Good Can))
judged_none false s (Good Can) way none = quiet_none _ (served_quiet s (Good Can))
judged_none true s (Good (Framed f)) way none = served_quiet s (Good (Framed f))
judged_none false s (Good (Framed f)) way none = absurd none
judged_none true s (Refused (Stray x)) way none = quiet_none _ (served_quiet s (Refused (Stray x)))
judged_none false s (Refused (Stray x)) way none = quiet_none _ (served_quiet s (Refused (Stray x)))
judged_none true s (Refused (BadLength n)) way none = quiet_none _ (served_quiet s (Refused (BadLength n)))
judged_none false s (Refused (BadLength n)) way none = quiet_none _ (served_quiet s (Refused (BadLength n)))
judged_none true s (Refused (BadSum want got)) way none = served_quiet s (Refused (BadSum want got))
judged_none false s (Refused (BadSum want got)) way none = served_quiet s (Refused (BadSum want got))
judged_none true s (Refused (BadKind x)) way none = served_quiet s (Refused (BadKind x))
judged_none false s (Refused (BadKind x)) way none = served_quiet s (Refused (BadKind x))
judged_none true s (Refused Aborted) way none = quiet_none _ (served_quiet s (Refused Aborted))
judged_none false s (Refused Aborted) way none = quiet_none _ (served_quiet s (Refused Aborted))

pub event_none : (s : ChipState) (e : ChipEvent) → IsUnanswered (collides s) e → AnswersNone (outs s e)
event_none s (Judged item way) none = judged_none (collides s) s item way none
event_none s Ticked none =
    quiet_none _ (all-append IsQuiet (written (copy_due s.port.side.turn)) (written (next_at (ticked s.port).side.turn s.port.waiting)) (written_quiet (copy_due s.port.side.turn))
    (written_quiet (next_at (ticked s.port).side.turn s.port.waiting)))
event_none s (Heard n payload) none = quiet_none _ (queued_quiet s.port.side.turn s.port _)
event_none s (Done status) none = quiet_none _ (quiet_if (s.aborted == 0) (ended_outs s.sending s status) (ended_quiet s.sending s status))
event_none s (Informed n profile) none = quiet_none _ (queued_quiet s.port.side.turn s.port _)
event_none s (Joined n listening) none = tt
event_none s (Linked a b live) none = tt
event_none s (Forgets a b) none = tt
event_none s Collides none = tt

-- ---- entries

overrun_more : (b : Bool) → AllByRecursion IsMore (if b then [] else entry.Overrun by_chip ∷ [])
overrun_more true = tt
overrun_more false = ((refl, tt), tt)

pub marks_more : (bytes : List ℕ) (mark : Mark) (text : List ℕ) → AllByRecursion IsMore (told_by by_chip bytes mark text)
marks_more bytes Free text = overrun_more (fits bytes text)
marks_more bytes Lost text = ((refl, tt), tt)
marks_more bytes (Changed garble) text = ((refl, tt), overrun_more (fits bytes (garbled garble text)))

-- a frame has more bytes than an answer
frame_goes : (f : FrameParts) → goes_on (entry.Written by_chip (unit_text (Framed f))) ≡ true
frame_goes f = ap (λ (b : Bool). not b) (ne_eqb (length (unit_text (Framed f))) 1 (λ same. omega (arith, same)))

put_more : (o : OuterState) (out : ChipOut) → IsQuiet out → AllByRecursion IsMore (put_out o out).entries
put_more o (Write Ack) quiet = absurd quiet
put_more o (Write Nak) quiet = absurd quiet
put_more o (Write Can) quiet = absurd quiet
put_more o (Write (Framed f)) quiet = ((frame_goes f, refl), marks_more o.to_host.bytes (mark_for o.to_host.marks (Framed f)) (unit_text (Framed f)))
put_more o (OnAir to route payload) quiet = absurd quiet
put_more o NoRoute quiet = tt
put_more o (AskInfo node) quiet = tt
put_more o Full quiet = ((refl, tt), tt)

pub puts_more : (puts : List ChipOut) (o : OuterState) → AreQuiet puts → AllByRecursion IsMore (each put_out o puts).entries
puts_more [] o quiet = tt
puts_more (out ∷ puts) o quiet =
    all-append IsMore (put_out o out).entries (each put_out (put_out o out).outer puts).entries (put_more o out quiet.0) (puts_more puts (put_out o out).outer quiet.1)
