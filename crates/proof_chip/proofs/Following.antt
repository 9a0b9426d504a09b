-- Directly after the words of a `tick` the next event of the serial line begins a line or tick; where the entries tell of no more events, a `tick` was said last.
use Rattle.std.proofs.Common.{◌≡◌, ◌<◌, ℕ, zero, suc, ◌+◌, ◌-◌, Bool, true, false, if◌then◌else◌, List, [], ◌∷◌, ◌++◌, replicate, refl, sym, ap₂, subst, append-nil, append_assoc, arith}
use Rattle.zw_text.specs.declared.line.Line.{Line}
use Rattle.zw_text.specs.declared.line.Line.TheVariants as lines
use Rattle.zw_text.specs.declared.entry.Entry.{Entry}
use Rattle.zw_text.specs.declared.entry.Entry.TheVariants as entry
use Rattle.zw_text.specs.Transcript.{line_last, line_of}
use Rattle.law_transcript.specs.Lists.{EachAfter}
use Rattle.law_transcript.specs.Restarts.{begins_refused, ticks_asked}
use Rattle.law_wire.specs.Links.{ends_round}
use Rattle.law_wire.specs.Serial.{SerialEvent, beginning_of, serial_events_from}
use Rattle.law_wire.specs.Serial.SerialEvent.{Tick_begins}
use Rattle.outside_model.specs.Devices.{State}
use Rattle.proof_air.proofs.ByLine.{last_is}
use Rattle.proof_line.specs.Links.{due_from, tick_told}
use Rattle.proof_line.specs.Linked.{Did, IsTickLine}
use Rattle.proof_line.proofs.Holding.{NoMark}
use Rattle.proof_line.proofs.Serials.{due_grows, told_grows}
use Rattle.proof_chip.specs.Staying.{BeganSo}

-- the first of these events begins a line or tick; or there is none, and a `tick` was said last
abbrev pub Opens : List SerialEvent → List Entry → Type 0
Opens [] all = IsTickLine (line_last all)
Opens (event ∷ events) all = ends_round event ≡ true

ticks_open : (count : ℕ) (events : List SerialEvent) (all : List Entry) → 0 < count → Opens (replicate count Tick_begins ++ events) all
ticks_open zero events all some = absurd (omega (arith, some))
ticks_open (suc count) events all some = refl

said_opens : (count : ℕ) (line : List Line) (refused : Bool) (later : List SerialEvent) (all : List Entry) → (IsTickLine line → Opens later all)
    → Opens ((replicate count Tick_begins ++ beginning_of (if refused then [] else line)) ++ later) all
said_opens (suc count) line refused later all next = refl
said_opens zero (lines.Tick count ∷ more) false later all next = next tt
said_opens zero (lines.Tick count ∷ more) true later all next = refl
said_opens zero [] false later all next = refl
said_opens zero [] true later all next = refl
said_opens zero (line ∷ more) false later all next = refl
said_opens zero (line ∷ more) true later all next = refl

-- what follows says neither what became of a unit nor that the line was refused
pub record Follows (past rest : List Entry) : Type 0 where
  pub unmarked : NoMark rest
  pub plain : begins_refused rest ≡ false
  pub opens : Opens (serial_events_from (tick_told past) (due_from 0 past) rest) (past ++ rest)

-- with the words before it
with_words : (past : List Entry) (words : List ℕ) (rest : List Entry) → Follows (past ++ entry.Said words ∷ []) rest
    → Opens (serial_events_from (due_from 0 past) (due_from 0 past + ticks_asked (line_of (entry.Said words))) rest) (past ++ entry.Said words ∷ rest)
with_words past words rest next =
    subst (λ (l : List Entry). Opens (serial_events_from (due_from 0 past) (due_from 0 past + ticks_asked (line_of (entry.Said words))) rest) l) (append_assoc past (entry.Said words ∷ []) rest)
    (subst (λ (l : List SerialEvent). Opens l ((past ++ entry.Said words ∷ []) ++ rest))
    (ap₂ (λ (now due : ℕ). serial_events_from now due rest) (told_grows 0 0 past (entry.Said words ∷ [])) (due_grows 0 past (entry.Said words ∷ []))) next.opens)

module _ (devices : List State) (did : Did) where
  pub follows : (past rest : List Entry) → IsTickLine (line_last past) → EachAfter (BeganSo devices did) past rest → Follows past rest
  follows past [] says each = record { unmarked = tt; plain = refl; opens = subst (λ (l : List Entry). IsTickLine (line_last l)) (sym (append-nil past)) says }
  follows past (entry.Said words ∷ rest) says each = record {
    unmarked = tt;
    plain = refl;
    opens = said_opens (due_from 0 past - tick_told past) (line_of (entry.Said words)) (begins_refused rest)
        (serial_events_from (due_from 0 past) (due_from 0 past + ticks_asked (line_of (entry.Said words))) rest) (past ++ entry.Said words ∷ rest)
        (λ tick. with_words past words rest (follows (past ++ entry.Said words ∷ []) rest (subst IsTickLine (sym (last_is past (entry.Said words))) tick) each.1));
  }
  follows past (entry.Time tick ∷ rest) says each = record {
    unmarked = tt;
    plain = refl;
    opens = let later = each.0.1 in ticks_open (tick - tick_told past) (serial_events_from tick (due_from 0 past) rest) (past ++ entry.Time tick ∷ rest) (omega (arith, later));
  }
  follows past (e ∷ rest) says each = absurd (each.0 says)
