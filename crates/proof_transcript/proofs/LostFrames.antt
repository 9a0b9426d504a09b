-- No marked frame is heard or unheard, over lines.
use Rattle.std.proofs.Common.{◌≡◌, ℕ, ◌+◌, Bool, true, if◌then◌else◌, List, [], ◌∷◌, refl, ap, subst, ◌∙◌, arith}
use Rattle.std.specs.Prelude.{Option}
use Rattle.std.specs.List.{AllByRecursion}
use Rattle.route_table.specs.declared.route.Route.{Route}
use Rattle.zw_text.specs.declared.line.Line.{Line}
use Rattle.zw_text.specs.declared.line.Line.TheVariants.{Lose, Repeat}
use Rattle.zw_text.specs.declared.entry.Entry.{Entry}
use Rattle.zw_text.specs.declared.entry.Entry.TheVariants as entry
use Rattle.zw_text.specs.Transcript.{line_last, line_of}
use Rattle.law_host.specs.law_transcript.Fates.{marks_asked, MayBeMarked}
use Rattle.law_host.specs.law_transcript.Lists.{EachAfter, Has}
use Rattle.law_host.specs.law_transcript.Restarts.{is_repeat, repeats as answers_repeat}
use Rattle.proof_air.specs.mesh_sim.Steps as mesh
use Rattle.proof_air.specs.outside_model.Events.{Begins_tick, Arrives, Loses, Repeats, outcome, steps, May as MayOutside}
use Rattle.proof_air.specs.world_model.State.{Machine}
use Rattle.proof_air.specs.world_model.Events.{Event, Outside_does, happens, entries, May}
use Rattle.proof_air.specs.world_model.Did.{happens_all, entries_all, MayAll}
use Rattle.proof_air.specs.world_lines.Spoken.{Spoken, transcript_of}
use Rattle.proof_air.specs.world_lines.Done.{AreDone}
use Rattle.proof_transcript.proofs.KeptOverLists.{Keeps, keeps_none, keeps_both}
use Rattle.proof_transcript.proofs.Arrivals.{arrives_lands}
use Rattle.proof_transcript.proofs.Events.{lands_keep, calm_keeps}
use Rattle.proof_transcript.proofs.Calm.{IsCalmLine, IsArrival, arriving_all, arriving_prefix_all}
use Rattle.proof_transcript.proofs.FramesWalking.{Walks, RepeatsOnly, begun, lines_stand}
use Rattle.proof_transcript.proofs.Repeating.{repeat_keeps}
use Rattle.proof_transcript.proofs.MarkedFrames.{Marks, Marked, airs, stamps, fate_keeps, heard_keeps, said_keeps}

-- ---- ticks

arrival_keeps : (m : Machine) (event : Event) → May m event → IsArrival event → Keeps MayBeMarked Marked m.outside.outer (entries m event) (happens m event).outside.outer
unfolding happens entries May outcome MayOutside
arrival_keeps m (Outside_does Begins_tick) may arrival = keeps_none MayBeMarked Marked m.outside.outer
arrival_keeps m (Outside_does (Arrives drawn route)) may arrival =
    lands_keep MayBeMarked Marks Marked stamps m.outside.outer (steps m.outside (mesh.Arrives drawn route)) (arrives_lands MayBeMarked Marks airs m.outside drawn route may.1)
    (λ frame e. fate_keeps m.outside.outer.air frame e)
arrival_keeps m _ may arrival = absurd arrival

arrivals_keep : (m : Machine) (events : List Event) → MayAll m events → AllByRecursion IsArrival events → Keeps MayBeMarked Marked m.outside.outer (entries_all m events) (happens_all m events).outside.outer
arrivals_keep m [] may all = keeps_none MayBeMarked Marked m.outside.outer
arrivals_keep m (event ∷ events) may all =
    keeps_both MayBeMarked Marked m.outside.outer (happens m event).outside.outer (happens_all (happens m event) events).outside.outer (entries m event) (entries_all (happens m event) events)
    (arrival_keeps m event may.0 all.0) (arrivals_keep (happens m event) events may.1 all.1)

-- ---- the words of a line

-- it asks for no marks
asks_none : (line : Line) → IsCalmLine line → marks_asked (line ∷ []) ≡ 0
asks_none (Lose count) calm = absurd calm
asks_none line calm = refl

said_so : (m p : Machine) (words : List ℕ) (asked : ℕ) → marks_asked (line_of (entry.Said words)) ≡ asked → p.outside.outer.air.frames ≡ m.outside.outer.air.frames → p.outside.outer.air.losing ≡ m.outside.outer.air.losing + asked
    → Keeps MayBeMarked Marked m.outside.outer (entry.Said words ∷ []) p.outside.outer
said_so m p words asked asks same more = said_keeps m.outside.outer.air p.outside.outer.air words asked asks same more

begins_so : (m : Machine) (words : List ℕ) (line : Line) → line_of (entry.Said words) ≡ line ∷ [] → marks_asked (line ∷ []) ≡ 0 → Keeps MayBeMarked Marked m.outside.outer (entry.Said words ∷ []) (begun m).outside.outer
unfolding happens outcome
begins_so m words line read none = said_so m (begun m) words 0 (ap marks_asked read ∙ none) refl (let same : m.outside.outer.air.losing ≡ m.outside.outer.air.losing + 0 = omega arith in same)

loses_so : (m : Machine) (words : List ℕ) (count : ℕ) → line_of (entry.Said words) ≡ Lose count ∷ []
    → Keeps MayBeMarked Marked m.outside.outer (entry.Said words ∷ []) (happens (begun m) (Outside_does (Loses count))).outside.outer
unfolding happens outcome
loses_so m words count read = said_so m (happens (begun m) (Outside_does (Loses count))) words count (ap marks_asked read) refl refl

-- ---- a line that repeats a frame

-- directly after the words a hearing is no first fate
may_hear : (past : List Entry) (number : ℕ) → line_last past ≡ Repeat number ∷ [] → MayBeMarked past (entry.Heard number)
may_hear past number said =
    let again : answers_repeat past ≡ true = ap is_repeat said in
    λ first has. absurd (subst (λ (b : Bool). Has (if b then [] else number ∷ []) number) again first)

repeats_so : (m : Machine) (words : List ℕ) (number : ℕ) (drawn : List ℕ) (route : Option Route) → line_of (entry.Said words) ≡ Repeat number ∷ []
    → Keeps MayBeMarked Marked m.outside.outer (entry.Said words ∷ entries (begun m) (Outside_does (Repeats number drawn route))) (happens (begun m) (Outside_does (Repeats number drawn route))).outside.outer
repeats_so m words number drawn route read =
    repeat_keeps MayBeMarked Marks Marked stamps airs words number read (λ past p marked. marked) (λ air past said marks. heard_keeps air number past (may_hear past number said) marks) m drawn route
    (begins_so m words (Repeat number) read refl)

-- ---- lines

walks : Walks MayBeMarked Marked (λ number. Unit {0})
walks = record {
  calm = λ m event calm. calm_keeps MayBeMarked Marks Marked stamps airs m event calm;
  arriving = λ m events may is. arrivals_keep m events may (arriving_all m events is);
  arriving_prefix = λ m events may is past marks. (arrivals_keep m events may (arriving_prefix_all m events is) past marks).0;
  words = λ o words past marks. (tt, tt);
  said = λ m words line read calm. begins_so m words line read (asks_none line calm);
  loses = loses_so;
  repeats = λ m words number drawn route any read may. repeats_so m words number drawn route read;
}

pub any_line : (line : Line) → RepeatsOnly (λ number. Unit {0}) line
any_line (Repeat number) = tt
any_line line = tt

pub any_lines : (lines : List Spoken) → AllByRecursion (λ (spoken : Spoken). RepeatsOnly (λ number. Unit {0}) spoken.line) lines
any_lines [] = tt
any_lines (spoken ∷ more) = (any_line spoken.line, any_lines more)

pub lines_lose : (m : Machine) (lines : List Spoken) → AreDone m lines → (past : List Entry) → Marked past m.outside.outer → EachAfter MayBeMarked past (transcript_of m lines)
lines_lose m lines are = lines_stand MayBeMarked Marked (λ number. Unit {0}) walks m lines are (any_lines lines)
