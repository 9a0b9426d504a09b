-- After lines that were run whole, a line of which only the words are entered.
use Rattle.std.proofs.Common.{◌≡◌, ℕ, ◌&&◌, Bool, true, inl, inr, List, [], ◌∷◌, ◌++◌, refl, sym, ap, ◌∙◌, append_assoc}
use Rattle.zw_text.specs.declared.line.Line.{Line}
use Rattle.zw_text.specs.declared.entry.Entry.{Entry}
use Rattle.zw_text.specs.declared.entry.Entry.TheVariants.{Said}
use Rattle.zw_text.specs.Transcript.{line_of}
use Rattle.proof_air.specs.world_model.State.{Machine}
use Rattle.proof_air.specs.world_model.Lines.{IsLine}
use Rattle.proof_air.specs.world_lines.Spoken.{Spoken, after, after_all, entries_of, transcript_of}
use Rattle.proof_air.specs.world_lines.Done.{AreDone, IsDone}
use Rattle.proof_air.specs.world_lines.Whole.{AreWhole}
use Rattle.proof_transcript.specs.Told.{IsTold}
use Rattle.proof_transcript.proofs.TicksBegun.{goes_none}
use Rattle.proof_transcript.proofs.Mild.{IsOther}
use Rattle.proof_transcript.proofs.ToldState.{asks_no_tick, joins_none, starts_none, stays}

-- the line, with no event
abbrev pub unbegun : List ℕ → Line → Spoken
unbegun words line = record { words = words; line = line; events = [] }

first_done : (more : List Spoken) (one : Spoken) (m : Machine) (spoken : Spoken) → IsDone more m spoken → IsLine spoken.line m spoken.events → IsDone (more ++ one ∷ []) m spoken
first_done [] one m spoken done whole = record { read = done.read; is_line = whole; may = done.may }
first_done (next ∷ more) one m spoken done whole = record { read = done.read; is_line = whole; may = done.may }

all_done : (m : Machine) (front : List Spoken) (one : Spoken) → AreDone m front → AreWhole m front → IsDone [] (after_all m front) one → AreDone m (front ++ one ∷ [])
all_done m [] one are whole done = (done, tt)
all_done m (spoken ∷ more) one are whole done = (first_done more one m spoken are.0 whole.0, all_done (after m spoken) more one are.1 whole.1 done)

pub said_done : (m : Machine) (front : List Spoken) (words : List ℕ) (line : Line) → line_of (Said words) ≡ line ∷ [] → AreDone m front → AreWhole m front
    → AreDone m (front ++ unbegun words line ∷ [])
said_done m front words line read are whole = all_done m front (unbegun words line) are whole (record { read = read; is_line = inr (inl refl); may = tt })

pub said_transcript : (m : Machine) (front : List Spoken) (words : List ℕ) (line : Line) → transcript_of m (front ++ unbegun words line ∷ []) ≡ transcript_of m front ++ Said words ∷ []
said_transcript m [] words line = refl
said_transcript m (spoken ∷ more) words line =
    ap (λ (l : List Entry). entries_of m spoken ++ l) (said_transcript (after m spoken) more words line)
    ∙ sym (append_assoc (entries_of m spoken) (transcript_of (after m spoken) more) (Said words ∷ []))

pub said_after : (m : Machine) (front : List Spoken) (words : List ℕ) (line : Line) → after_all m (front ++ unbegun words line ∷ []) ≡ after_all m front
said_after m [] words line = refl
said_after m (spoken ∷ more) words line = said_after (after m spoken) more words line

-- the words of a line that neither asks for ticks nor joins a node nor restarts tell nothing
pub said_told : (past : List Entry) (m : Machine) (words : List ℕ) (line : Line) → IsOther line → line_of (Said words) ≡ line ∷ [] → IsTold past m → IsTold (past ++ Said words ∷ []) m
said_told past m words line other read told =
    stays past m words line read told true 0 [] (goes_none true m) (asks_no_tick line other) (inl (joins_none line other)) (ap (λ (b : Bool). b && true) (starts_none line other))
