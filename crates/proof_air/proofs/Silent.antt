-- Entries that show nothing of the history of the air, and what stands after them.
use Rattle.std.proofs.Common.{◌≡◌, ℕ, ◌&&◌, not, Bool, true, false, if◌then◌else◌, List, [], ◌∷◌, ◌++◌, refl, sym, subst, ap, ◌∙◌, append_assoc, append-nil}
use Rattle.std.specs.Prelude.{Option, Some, None}
use Rattle.std.specs.List.{AllByRecursion}
use Rattle.zw_base.proofs.Each.{all-weaker}
use Rattle.serial_frame.specs.declared.unit.Unit.{Unit as LineUnit}
use Rattle.serial_pipes.specs.State.{WayState}
use Rattle.serial_pipes.specs.Events.{told}
use Rattle.device_kinds.specs.declared.change.Change.{Change}
use Rattle.air_frames.specs.History.{Mark}
use Rattle.zw_words.specs.declared.side.Side.{Side}
use Rattle.zw_words.specs.declared.side.Side.TheVariants.{Host as by_host}
use Rattle.zw_text.specs.declared.line.Line.{Line}
use Rattle.zw_text.specs.declared.line.Line.TheVariants.{Repeat}
use Rattle.zw_text.specs.declared.entry.Entry.{Entry}
use Rattle.zw_text.specs.declared.entry.Entry.TheVariants as entry
use Rattle.zw_text.specs.Transcript.{folded, line_of, line_last}
use Rattle.law_wire.specs.law_transcript.Lists.{EachAfter}
use Rattle.proof_walk.specs.outside_model.Air.{change_entries}
use Rattle.proof_walk.specs.outside_model.Devices.{changes_entries}
use Rattle.proof_walk.specs.outside_model.Events.{ticked_entry, OuterEvent, outcome}
use Rattle.proof_walk.specs.outside_model.State.{OuterState, Outside}
use Rattle.proof_walk.specs.world_model.State.{begun_in}
use Rattle.proof_walk.specs.Outside.{IsNote, HasNoWords}
use Rattle.proof_walk.proofs.ByLine.{last_is}
use Rattle.proof_walk.proofs.Alone.{wordless_line}
use Rattle.proof_walk.proofs.Entered.{IsChange, change_entered, changes_entered}
use Rattle.proof_walk.proofs.Entering.{IsOfPipe, IsOfPipes, pipes_enter, told_of_pipe}
use Rattle.proof_air.specs.Logs.{mark_step, log_of}
use Rattle.proof_air.specs.Hearing.{MayHear, FreshHere}
use Rattle.proof_air.proofs.Logs.{log_grows}

-- ---- which they are

-- no words of a line
abbrev pub AreNoLines : List Entry → Type 0
AreNoLines entries = AllByRecursion HasNoWords entries

-- and neither a frame nor a session
abbrev pub IsSilent : Entry → Type 0
IsSilent (entry.Said words) = ⊥
IsSilent (entry.Air frame sender receiver repeaters payload) = ⊥
IsSilent (entry.Begin node session command) = ⊥
IsSilent _ = Unit {0}

abbrev pub AreSilent : List Entry → Type 0
AreSilent entries = AllByRecursion IsSilent entries

silent_line : (e : Entry) → IsSilent e → HasNoWords e
silent_line (entry.Said words) silent = absurd silent
silent_line e silent = tt

pub silent_lines : (told : List Entry) → AreSilent told → AreNoLines told
silent_lines told silent = all-weaker IsSilent HasNoWords silent_line told silent

-- ---- what they show

silent_step : (log : List Mark) (e : Entry) → IsSilent e → mark_step log e ≡ log
silent_step log (entry.Said words) silent = absurd silent
silent_step log (entry.Air frame sender receiver repeaters payload) silent = absurd silent
silent_step log (entry.Begin node session command) silent = absurd silent
silent_step log e silent = refl

silent_steps : (log : List Mark) (told : List Entry) → AreSilent told → folded mark_step log told ≡ log
silent_steps log [] silent = refl
silent_steps log (e ∷ told) silent = ap (λ (l : List Mark). folded mark_step l told) (silent_step log e silent.0) ∙ silent_steps log told silent.1

pub silent_log : (past told : List Entry) → AreSilent told → log_of (past ++ told) ≡ log_of past
silent_log past told silent = log_grows past told ∙ silent_steps (log_of past) told silent

-- ---- what stands after entries that are no lines

pub fresh_one : (past : List Entry) (e : Entry) → HasNoWords e → FreshHere (past ++ e ∷ [])
fresh_one past e none number is = let nothing : [] ≡ Repeat number ∷ [] = sym (last_is past e ∙ wordless_line e none) ∙ is in absurd cc

pub fresh_after : (past told : List Entry) → AreNoLines told → FreshHere past → FreshHere (past ++ told)
fresh_after past [] none fresh = subst FreshHere (sym (append-nil past)) fresh
fresh_after past (e ∷ told) none fresh = subst FreshHere (append_assoc past (e ∷ []) told) (fresh_after (past ++ e ∷ []) told none.1 (fresh_one past e none.0))

may_hear : (past : List Entry) (e : Entry) → FreshHere past → MayHear past e
may_hear past (entry.Heard frame) fresh = fresh
may_hear past e fresh = tt

pub may_hear_all : (past told : List Entry) → AreNoLines told → FreshHere past → EachAfter MayHear past told
may_hear_all past [] none fresh = tt
may_hear_all past (e ∷ told) none fresh = (may_hear past e fresh, may_hear_all (past ++ e ∷ []) told none.1 (fresh_one past e none.0))

-- directly after words that are no `repeat`
pub fresh_said : (past : List Entry) (line : Line) → ((number : ℕ) → line ≡ Repeat number → ⊥) → line_last past ≡ line ∷ [] → FreshHere past
fresh_said past line other said number is = let same : line ∷ [] ≡ Repeat number ∷ [] = sym said ∙ is in let one : line ≡ Repeat number = cc in absurd (other number one)

pub words_last : (past : List Entry) (words : List ℕ) (line : Line) → line_of (entry.Said words) ≡ line ∷ [] → line_last (past ++ entry.Said words ∷ []) ≡ line ∷ []
words_last past words line read = last_is past (entry.Said words) ∙ read

-- ---- which entries are silent

pub note_silent : (e : Entry) → IsNote e → begun_in e ≡ None → IsSilent e
note_silent (entry.Said words) note none = absurd note
note_silent (entry.Air frame sender receiver repeaters payload) note none = absurd note
note_silent (entry.Begin node session command) note none = absurd (let begun : Some (node, session) ≡ None = none in cc)
note_silent e note none = tt

pipe_silent : (side : Side) (e : Entry) → IsOfPipe side e → IsSilent e
pipe_silent side (entry.Said words) of_pipe = absurd of_pipe
pipe_silent side (entry.Air frame sender receiver repeaters payload) of_pipe = absurd of_pipe
pipe_silent side (entry.Begin node session command) of_pipe = absurd of_pipe
pipe_silent side e of_pipe = tt

pub told_silent : (side : Side) (way : WayState) (unit : LineUnit) → AreSilent (told side way unit)
told_silent side way unit = all-weaker (IsOfPipe side) IsSilent (pipe_silent side) (told side way unit) (told_of_pipe side way unit)

pub pipes_silent : (w : Outside) (event : OuterEvent) → IsOfPipes event → AreSilent (outcome w event).entries
pipes_silent w event is = all-weaker (IsOfPipe by_host) IsSilent (pipe_silent by_host) (outcome w event).entries (pipes_enter w event is)

dev_silent : (e : Entry) → IsChange e → IsSilent e
dev_silent (entry.Dev node by setting) change = tt
dev_silent e change = absurd change

pub change_silent : (node : ℕ) (change : Option Change) → AreSilent (change_entries node change)
change_silent node change = all-weaker IsChange IsSilent dev_silent (change_entries node change) (change_entered node change)

pub changes_silent : (node : ℕ) (changes : List Change) → AreSilent (changes_entries node changes)
changes_silent node changes = all-weaker IsChange IsSilent dev_silent (changes_entries node changes) (changes_entered node changes)

-- the number of a tick may stand anywhere
pub number_stands : (past : List Entry) (o : OuterState) → EachAfter MayHear past (ticked_entry o)
number_stands past o = by (o.in_tick && not o.stamped)
  where
    by : (b : Bool) → EachAfter MayHear past (if b then entry.Time o.clock ∷ [] else [])
    by true = (tt, tt)
    by false = tt
