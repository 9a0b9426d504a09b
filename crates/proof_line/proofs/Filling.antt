-- What is known of the pipes goes on with entries that tell nothing of them, with the number of a tick, and with units: of the chip, and of the host.
use Rattle.std.proofs.Common.{◌≡◌, ◌≤◌, ℕ, ◌+◌, ◌==◌, Bool, true, false, List, [], ◌∷◌, ◌++◌, length, refl, sym, ap, subst, ◌∙◌, append-nil, append_assoc, arith}
use Rattle.std.specs.List.{AllByRecursion}
use Rattle.serial_frame.specs.declared.unit.Unit.{Unit as LineUnit}
use Rattle.serial_frame.specs.Items.{unit_text}
use Rattle.serial_pipes.specs.State.{WayState, mark_for}
use Rattle.serial_pipes.specs.Events.{told, told_by, Writes, after}
use Rattle.zw_words.specs.declared.side.Side.{Side}
use Rattle.zw_words.specs.declared.side.Side.TheVariants.{Host as by_host, Chip as by_chip}
use Rattle.zw_text.specs.declared.entry.Entry.{Entry}
use Rattle.zw_text.specs.declared.entry.Entry.TheVariants as entry
use Rattle.zw_text.specs.Transcript.{line_of, line_last}
use Rattle.law_wire.specs.law_transcript.Lists.{EachAfter}
use Rattle.law_wire.specs.law_transcript.Restarts.{is_restart}
use Rattle.law_wire.specs.Pipes.{Pipe, empty_pipe, with_answer, gone_on, with_turn, pipe_from, sum_of}
use Rattle.proof_walk.specs.outside_model.State.{OuterState}
use Rattle.proof_walk.proofs.Entered.{IsMark, told_by_marks}
use Rattle.proof_line.specs.Pipes.{MayTell, Mode, most, Resting, Turned, Waits, Heard, Held}
use Rattle.proof_walk.proofs.ByLine.{last_is as line_then}
use Rattle.proof_line.proofs.Holding.{pipe_grows, TellsNothing, apart_mark, apart_step, apart_line, apart_stands, Grown, other_pipe, unit_grows, unit_stands, grown_most, grown_frames, long_answer, gone_frames, gone_written, gone_none}
use Rattle.proof_world.proofs.Outer.{wrong as no_refusal}

abbrev pub Up : List Entry → Pipe
Up past = pipe_from by_host empty_pipe past

abbrev pub Down : List Entry → Pipe
Down past = pipe_from by_chip empty_pipe past

-- a mode holds of any pipes where nothing is on its way
abbrev pub HoldsEmpty : Mode → Type 0
HoldsEmpty mode = (up down : Pipe) → mode up down [] []

-- ---- entries

-- no line was just said
pub unsaid : (past : List Entry) (e : Entry) → line_of e ≡ [] → is_restart (line_last (past ++ e ∷ [])) ≡ false
unsaid past e none = ap is_restart (line_then past e ∙ none)

pub never : {P : Type 0} (b : Bool) → b ≡ false → b ≡ true → P
never true is other = absurd (let none : true ≡ false = is in cc)
never false is other = absurd (let none : false ≡ true = other in cc)

module _ (mode : Mode) (empty : HoldsEmpty mode) where
  -- with nothing on its way, whatever the pipes are shown to hold
  pub held_empty : (past : List Entry) (o : OuterState) → o.to_chip.bytes ≡ [] → o.to_host.bytes ≡ [] → Held mode past o
  held_empty past o up down = record {
    holds = subst (λ (a : List ℕ). mode (Up past) (Down past) a o.to_host.bytes) (sym up) (subst (λ (b : List ℕ). mode (Up past) (Down past) [] b) (sym down) (empty (Up past) (Down past)));
    fresh = λ is. (up, down);
  }

  apart_held : (past : List Entry) (e : Entry) (o : OuterState) → TellsNothing e → Held mode past o → Held mode (past ++ e ∷ []) o
  apart_held past e o apart held = by (is_restart (line_last past)) refl
    where
      by : (b : Bool) → is_restart (line_last past) ≡ b → Held mode (past ++ e ∷ []) o
      by true is = held_empty (past ++ e ∷ []) o (held.fresh is).0 (held.fresh is).1
      by false is = record {
        holds =
            subst (λ (p : Pipe). mode p (Down (past ++ e ∷ [])) o.to_chip.bytes o.to_host.bytes)
            (sym (pipe_grows by_host empty_pipe past (e ∷ []) (apart_mark e apart) (λ refused. is) ∙ apart_step by_host (Up past) e apart))
            (subst (λ (p : Pipe). mode (Up past) p o.to_chip.bytes o.to_host.bytes)
            (sym (pipe_grows by_chip empty_pipe past (e ∷ []) (apart_mark e apart) (λ refused. is) ∙ apart_step by_chip (Down past) e apart)) held.holds);
        fresh = λ said. never (is_restart (line_last (past ++ e ∷ []))) (unsaid past e (apart_line e apart)) said;
      }

  pub all_apart : (past told : List Entry) (o : OuterState) → AllByRecursion TellsNothing told → Held mode past o → EachAfter MayTell past told × Held mode (past ++ told) o
  all_apart past [] o apart held = (tt, subst (λ (l : List Entry). Held mode l o) (sym (append-nil past)) held)
  all_apart past (e ∷ told) o apart held =
      let rest = all_apart (past ++ e ∷ []) told o apart.1 (apart_held past e o apart.0 held) in
      ((apart_stands past e apart.0, rest.0), subst (λ (l : List Entry). Held mode l o) (append_assoc past (e ∷ []) told) rest.1)

-- only the bytes matter
pub held_same : (mode : Mode) (past : List Entry) (o p : OuterState) → p.to_chip.bytes ≡ o.to_chip.bytes → p.to_host.bytes ≡ o.to_host.bytes → Held mode past o → Held mode past p
held_same mode past o p up down held = record {
  holds =
      subst (λ (a : List ℕ). mode (Up past) (Down past) a p.to_host.bytes) (sym up)
      (subst (λ (b : List ℕ). mode (Up past) (Down past) o.to_chip.bytes b) (sym down) held.holds);
  fresh = λ is. (up ∙ (held.fresh is).0, down ∙ (held.fresh is).1);
}

-- less is asked of them
pub held_weaker : (mode other : Mode) → ((up down : Pipe) (to_chip to_host : List ℕ) → mode up down to_chip to_host → other up down to_chip to_host)
    → (past : List Entry) (o : OuterState) → Held mode past o → Held other past o
held_weaker mode other weaker past o held = record { holds = weaker (Up past) (Down past) o.to_chip.bytes o.to_host.bytes held.holds; fresh = held.fresh }

-- the number of a tick: each side has its turn
pub held_turn : (mode other : Mode) (past : List Entry) (tick : ℕ) (o : OuterState)
    → ((up down : Pipe) (to_chip to_host : List ℕ) → mode up down to_chip to_host → other (with_turn by_host up) (with_turn by_chip down) to_chip to_host)
    → Held mode past o → Held other (past ++ entry.Time tick ∷ []) o
held_turn mode other past tick o turns held =
    let later : List Entry = past ++ entry.Time tick ∷ [] in
    record {
      holds =
          subst (λ (p : Pipe). other p (Down later) o.to_chip.bytes o.to_host.bytes) (sym (pipe_grows by_host empty_pipe past (entry.Time tick ∷ []) tt no_refusal))
          (subst (λ (p : Pipe). other (with_turn by_host (Up past)) p o.to_chip.bytes o.to_host.bytes)
          (sym (pipe_grows by_chip empty_pipe past (entry.Time tick ∷ []) tt no_refusal)) (turns (Up past) (Down past) o.to_chip.bytes o.to_host.bytes held.holds));
      fresh = λ said. never (is_restart (line_last later)) (unsaid past (entry.Time tick) refl) said;
    }

-- ---- units

mark_line : (e : Entry) → IsMark e → line_of e ≡ []
mark_line (entry.Said words) mark = absurd mark
mark_line e mark = refl

marks_unsaid : (past marks : List Entry) → AllByRecursion IsMark marks → is_restart (line_last past) ≡ false → is_restart (line_last (past ++ marks)) ≡ false
marks_unsaid past [] all none = ap (λ (l : List Entry). is_restart (line_last l)) (append-nil past) ∙ none
marks_unsaid past (e ∷ marks) all none =
    ap (λ (l : List Entry). is_restart (line_last l)) (sym (append_assoc past (e ∷ []) marks)) ∙ marks_unsaid (past ++ e ∷ []) marks all.1 (unsaid past e (mark_line e all.0))

unit_unsaid : (past : List Entry) (side : Side) (way : WayState) (unit : LineUnit) → is_restart (line_last (past ++ told side way unit)) ≡ false
unit_unsaid past side way unit =
    let first : Entry = entry.Written side (unit_text unit) in
    let marks : List Entry = told_by side way.bytes (mark_for way.marks unit) (unit_text unit) in
    ap (λ (l : List Entry). is_restart (line_last l)) (sym (append_assoc past (first ∷ []) marks))
    ∙ marks_unsaid (past ++ first ∷ []) marks (told_by_marks side way.bytes (mark_for way.marks unit) (unit_text unit)) (unsaid past first refl)

module _ (other : Mode) (past : List Entry) (o : OuterState) (unit : LineUnit) where
  abbrev size : ℕ
  size = length (unit_text unit)

  -- of the chip
  pub chip_writes : length o.to_host.bytes ≤ most (Down past)
      → ((down : Pipe) (bytes : List ℕ) → Grown size (Down past) down o.to_host.bytes bytes → other (with_answer size (gone_on (Up past))) down o.to_chip.bytes bytes)
      → EachAfter MayTell past (told by_chip o.to_host unit) × Held other (past ++ told by_chip o.to_host unit) (record o { to_host = after o.to_host (Writes unit) })
  chip_writes room goes =
      let one : List Entry = told by_chip o.to_host unit in
      let later : List Entry = past ++ one in
      let up : Up later ≡ with_answer size (gone_on (Up past)) = pipe_grows by_host empty_pipe past one tt no_refusal ∙ other_pipe by_chip o.to_host unit by_host (Up past) refl in
      let down : Down later ≡ pipe_from by_chip (Down past) one = pipe_grows by_chip empty_pipe past one tt no_refusal in (
        unit_stands by_chip o.to_host unit past room,
        record {
          holds =
              subst (λ (p : Pipe). other p (Down later) o.to_chip.bytes (after o.to_host (Writes unit)).bytes) (sym up)
              (subst (λ (p : Pipe). other (with_answer size (gone_on (Up past))) p o.to_chip.bytes (after o.to_host (Writes unit)).bytes) (sym down)
              (goes (pipe_from by_chip (Down past) one) (after o.to_host (Writes unit)).bytes (unit_grows by_chip o.to_host unit (Down past))));
          fresh = λ said. never (is_restart (line_last later)) (unit_unsaid past by_chip o.to_host unit) said;
        },
      )

  -- of the host
  pub host_writes : length o.to_chip.bytes ≤ most (Up past)
      → ((up : Pipe) (bytes : List ℕ) → Grown size (Up past) up o.to_chip.bytes bytes → other up (with_answer size (gone_on (Down past))) bytes o.to_host.bytes)
      → EachAfter MayTell past (told by_host o.to_chip unit) × Held other (past ++ told by_host o.to_chip unit) (record o { to_chip = after o.to_chip (Writes unit) })
  host_writes room goes =
      let one : List Entry = told by_host o.to_chip unit in
      let later : List Entry = past ++ one in
      let up : Up later ≡ pipe_from by_host (Up past) one = pipe_grows by_host empty_pipe past one tt no_refusal in
      let down : Down later ≡ with_answer size (gone_on (Down past)) = pipe_grows by_chip empty_pipe past one tt no_refusal ∙ other_pipe by_host o.to_chip unit by_chip (Down past) refl in (
        unit_stands by_host o.to_chip unit past room,
        record {
          holds =
              subst (λ (p : Pipe). other (Up later) p (after o.to_chip (Writes unit)).bytes o.to_host.bytes) (sym down)
              (subst (λ (p : Pipe). other p (with_answer size (gone_on (Down past))) (after o.to_chip (Writes unit)).bytes o.to_host.bytes) (sym up)
              (goes (pipe_from by_host (Up past) one) (after o.to_chip (Writes unit)).bytes (unit_grows by_host o.to_chip unit (Up past))));
          fresh = λ said. never (is_restart (line_last later)) (unit_unsaid past by_host o.to_chip unit) said;
        },
      )

-- ---- what each mode is kept by

pub none_held : (n : ℕ) → 0 ≤ n
none_held n = omega arith

pub resting_empty : HoldsEmpty Resting
resting_empty up down = (none_held (most up), none_held (sum_of down.frames))

pub turned_empty : HoldsEmpty Turned
turned_empty up down = (resting_empty up down, λ written. refl)

pub heard_empty : HoldsEmpty Heard
heard_empty up down = (refl, none_held (most up))

pub waits_empty : (awaits tick : Bool) → HoldsEmpty (Waits awaits tick)
waits_empty true true = resting_empty
waits_empty true false = turned_empty
waits_empty false tick = turned_empty

pub few_frames : (pipe : Pipe) (n : ℕ) → n ≤ sum_of pipe.frames → n ≤ most pipe
few_frames pipe n few = omega (arith, few)

-- each side has its turn
pub turn_turned : (up down : Pipe) (a b : List ℕ) → Resting up down a b → Turned (with_turn by_host up) (with_turn by_chip down) a b
turn_turned up down a b resting = ((same (sum_of up.frames) up.answers up.older (length a) resting.0, resting.1), λ written. absurd (let none : false ≡ true = written in cc))
  where
    same : (f n o l : ℕ) → l ≤ f + n + o → l ≤ f + 0 + (o + n)
    same f n o l few = omega (arith, few)

pub turn_heard : (up down : Pipe) (a b : List ℕ) → Heard up down a b → Heard (with_turn by_host up) (with_turn by_chip down) a b
turn_heard up down a b heard = (heard.0, same (sum_of up.frames) up.answers up.older (length a) heard.1)
  where
    same : (f n o l : ℕ) → l ≤ f + n + o → l ≤ f + 0 + (o + n)
    same f n o l few = omega (arith, few)

-- a data frame of the chip
pub turned_chip : (n : ℕ) (up down down' : Pipe) (a b b' : List ℕ) → (n == 1) ≡ false → Grown n down down' b b' → Turned up down a b → Turned (with_answer n (gone_on up)) down' a b'
turned_chip n up down down' a b b' long grown turned =
    subst (λ (p : Pipe). Turned p down' a b') (sym (long_answer n (gone_on up) long))
    ((by up.has_written refl, grown_frames n down down' b b' long grown turned.0.1), λ written. turned.1 (sym (gone_written up) ∙ written))
  where
    by : (w : Bool) → up.has_written ≡ w → length a ≤ most (gone_on up)
    by true is = subst (λ (l : List ℕ). length l ≤ most (gone_on up)) (sym (turned.1 is)) (none_held (most (gone_on up)))
    by false is = subst (λ (p : Pipe). length a ≤ most p) (sym (gone_none up is)) turned.0.0

-- a data frame of the host
pub resting_host : (n : ℕ) (up up' down : Pipe) (a a' b : List ℕ) → (n == 1) ≡ false → Grown n up up' a a' → Resting up down a b → Resting up' (with_answer n (gone_on down)) a' b
resting_host n up up' down a a' b long grown resting =
    (grown_most n up up' a a' grown resting.0, subst (λ (l : List ℕ). length b ≤ sum_of l) (sym (ap (λ (p : Pipe). p.frames) (long_answer n (gone_on down) long) ∙ gone_frames down)) resting.1)

-- any unit of it, where it has taken all bytes
pub heard_host : (n : ℕ) (up up' down : Pipe) (a a' b : List ℕ) → Grown n up up' a a' → Heard up down a b → Heard up' (with_answer n (gone_on down)) a' b
heard_host n up up' down a a' b grown heard = (heard.0, grown_most n up up' a a' grown heard.1)
