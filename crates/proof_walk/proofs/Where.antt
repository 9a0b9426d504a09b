-- What a walk makes of lines whose events all have something more: every entry keeps the law, and where the events end this is known.
use Rattle.std.proofs.Common.{List, [], ◌∷◌, ◌++◌, sym, ap, ◌∙◌, subst, append-nil, append_assoc}
use Rattle.zw_text.specs.declared.entry.Entry.{Entry}
use Rattle.zw_text.specs.declared.entry.Entry.TheVariants.{Said}
use Rattle.proof_host.specs.law_transcript.Lists.{EachAfter}
use Rattle.proof_host.proofs.Lists.{each-append}
use Rattle.proof_device.specs.world_model.State.{Machine}
use Rattle.proof_device.specs.world_model.Events.{Event, happens, entries}
use Rattle.proof_device.specs.world_model.Did.{happens_all, entries_all, MayAll, AllAlong}
use Rattle.proof_device.specs.world_model.Lines.{IsLine}
use Rattle.world_lines.specs.Spoken.{Spoken, after, after_all, entries_of, transcript_of}
use Rattle.world_lines.specs.Done.{AreDone, events_of}
use Rattle.world_lines.specs.Whole.{AreWhole}
use Rattle.proof_walk.specs.Phases.{Phase, Between}
use Rattle.proof_walk.specs.Paths.{Path}
use Rattle.proof_walk.specs.Paths.Path.{Ends, Turned, Stepped}
use Rattle.proof_walk.specs.Walk.{WalkWhere}
use Rattle.proof_walk.proofs.Lines.{whole_line, line_part}

-- events one after another have it, and so have both parts of them
pub along_parts : (Has : Machine → Event → Type 0) (m : Machine) (a b : List Event) → AllAlong Has m (a ++ b) → AllAlong Has m a × AllAlong Has (happens_all m a) b
along_parts Has m [] b all = (tt, all)
along_parts Has m (event ∷ a) b all = let more = along_parts Has (happens m event) a b all.1 in ((all.0, more.0), more.1)

module _ (Has : Machine → Event → Type 0) (Asks : List Entry → Entry → Type 0) (Know : Phase → List Entry → Machine → Type 0) (walk : WalkWhere Has Asks Know) where
  along_where : {last here : Phase} {m : Machine} {events : List Event} → Path last here m events → MayAll m events → AllAlong Has m events → (past : List Entry) → Know here past m
      → EachAfter Asks past (entries_all m events) × Know last (past ++ entries_all m events) (happens_all m events)
  along_where {last} {m = m} Ends may has past knows = (tt, subst (λ (l : List Entry). Know last l m) (sym (append-nil past)) knows)
  along_where {here = here} {m = m} (Turned {next = next} turns path) may has past knows = along_where path may has past (walk.turn here next past m turns knows)
  along_where {last} {here} {m = m} (Stepped {next = next} {event = event} {events = events} goes path) may has past knows =
      let got = walk.event here next past m event goes may.0 has.0 knows in
      let more = along_where path may.1 has.1 (past ++ entries m event) got.1 in (
        each-append Asks past (entries m event) (entries_all (happens m event) events) got.0 more.0,
        subst (λ (l : List Entry). Know last l (happens_all (happens m event) events)) (append_assoc past (entries m event) (entries_all (happens m event) events)) more.1,
      )

  -- a whole line
  line_where : (past : List Entry) (m : Machine) (line : Spoken) (more : List Spoken) → AreDone m (line ∷ more) → IsLine line.line m line.events → AllAlong Has m line.events → Know Between past m
      → EachAfter Asks past (entries_of m line) × Know Between (past ++ entries_of m line) (after m line)
  line_where past m line more are whole has knows =
      let said = walk.said past m line.words line.line are.0.read knows in
      let got = along_where (whole_line line.line m line.events whole) are.0.may has (past ++ Said line.words ∷ []) said.1 in
      ((said.0, got.0), subst (λ (l : List Entry). Know Between l (after m line)) (append_assoc past (Said line.words ∷ []) (entries_all m line.events)) got.1)

  -- every entry keeps the law
  pub where_stand : (past : List Entry) (m : Machine) (lines : List Spoken) → AreDone m lines → AllAlong Has m (events_of lines) → Know Between past m → EachAfter Asks past (transcript_of m lines)
  where_stand past m [] are has knows = tt
  where_stand past m (line ∷ []) are has knows =
      let said = walk.said past m line.words line.line are.0.read knows in
      let part = line_part line.line m line.events are.0.is_line in
      subst (EachAfter Asks past) (sym (append-nil (entries_of m line)))
      (said.0, (along_where part.1 are.0.may (along_parts Has m line.events [] has).0 (past ++ Said line.words ∷ []) said.1).0)
  where_stand past m (line ∷ (next ∷ more)) are has knows =
      let both = along_parts Has m line.events (events_of (next ∷ more)) has in
      let got = line_where past m line (next ∷ more) are are.0.is_line both.0 knows in
      each-append Asks past (entries_of m line) (transcript_of (after m line) (next ∷ more)) got.0
      (where_stand (past ++ entries_of m line) (after m line) (next ∷ more) are.1 both.1 got.1)

  -- where the events end, somewhere in the last line
  pub where_lead : (past : List Entry) (m : Machine) (lines : List Spoken) → AreDone m lines → AllAlong Has m (events_of lines) → Know Between past m
      → (here : Phase) × Know here (past ++ transcript_of m lines) (after_all m lines)
  where_lead past m [] are has knows = (Between, subst (λ (l : List Entry). Know Between l m) (sym (append-nil past)) knows)
  where_lead past m (line ∷ []) are has knows =
      let said = walk.said past m line.words line.line are.0.read knows in
      let part = line_part line.line m line.events are.0.is_line in
      let got = along_where part.1 are.0.may (along_parts Has m line.events [] has).0 (past ++ Said line.words ∷ []) said.1 in
      let all : List Entry = entries_all m line.events in (
        part.0,
        subst (λ (l : List Entry). Know part.0 l (after m line)) (append_assoc past (Said line.words ∷ []) all ∙ ap (λ (l : List Entry). past ++ Said line.words ∷ l) (sym (append-nil all))) got.1,
      )
  where_lead past m (line ∷ (next ∷ more)) are has knows =
      let both = along_parts Has m line.events (events_of (next ∷ more)) has in
      let got = line_where past m line (next ∷ more) are are.0.is_line both.0 knows in
      let rest = where_lead (past ++ entries_of m line) (after m line) (next ∷ more) are.1 both.1 got.1 in (
        rest.0,
        subst (λ (l : List Entry). Know rest.0 l (after_all (after m line) (next ∷ more))) (append_assoc past (entries_of m line) (transcript_of (after m line) (next ∷ more))) rest.1,
      )

  -- and between lines, where each was run whole
  pub where_whole : (past : List Entry) (m : Machine) (lines : List Spoken) → AreDone m lines → AreWhole m lines → AllAlong Has m (events_of lines) → Know Between past m
      → Know Between (past ++ transcript_of m lines) (after_all m lines)
  where_whole past m [] are whole has knows = subst (λ (l : List Entry). Know Between l m) (sym (append-nil past)) knows
  where_whole past m (line ∷ more) are whole has knows =
      let both = along_parts Has m line.events (events_of more) has in
      let got = line_where past m line more are whole.0 both.0 knows in
      subst (λ (l : List Entry). Know Between l (after_all (after m line) more)) (append_assoc past (entries_of m line) (transcript_of (after m line) more))
      (where_whole (past ++ entries_of m line) (after m line) more are.1 whole.1 both.1 got.1)
