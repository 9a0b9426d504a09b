-- The records of a run of `replay` are those at entry and those of what its host did.
use Rattle.std.proofs.Common.{◌≡◌, ℕ, List, [], ◌∷◌, ◌++◌, Option, Some, None, inl, inr, refl, sym, ap, subst, ◌∙◌, append_assoc, append-nil}
use Rattle.zw_text.specs.declared.line.ReplayLine.{ReplayLine}
use Rattle.zw_text.specs.declared.entry.Entry.{Entry}
use Rattle.host_keep.specs.Keeping.{OptAdds}
use Rattle.host_keep.specs.declared.record.Record.{Record}
use Rattle.host_model.specs.State.{HostState}
use Rattle.host_model.specs.Events.{HostEvent}
use Rattle.host_model.specs.Did.{after_all, records_all, texts_of}
use Rattle.host_model.proofs.EventLists.{records_all-append, texts-append}
use Rattle.world_model.specs.State.{with_texts}
use Rattle.run_lines.specs.declared.running.LinesEnd.{LinesEnd}
use Rattle.run_lines.specs.declared.running.LinesEnd.TheVariants.{All, Bad, ReadFailed, TooMuch, WriteFailed, NoMemory}
use Rattle.run_lines.specs.Lines.{TextLine, AllRan, RanLines}
use Rattle.run_all.specs.run_replay.Machine.{Lone, Event, Does_itself, Does_asked, Takes, Ticks, Refuses, Shows_values, MayAll, entries_all, happens, happens_all}
use Rattle.run_all.specs.run_replay.Replay.{Point, LineRan, PartRan, said}
use Rattle.run_all.proofs.EventLists.{happens_all-append, may_all-append}
use Rattle.proof_commands.specs.Replay.{Ran, KeepsRecords, IsAllEntered, done_by_host, events_of, host_events, lines_of, transcript_from}

-- ---- what events leave of the records

none_more : (r : Option (List (List ℕ))) → r ≡ with_texts r []
none_more None = refl
none_more (Some kept) = ap (λ (l : List (List ℕ)). Some l) (sym (append-nil kept))

more_and_more : (r : Option (List (List ℕ))) (a b : List (List ℕ)) → with_texts (with_texts r a) b ≡ with_texts r (a ++ b)
more_and_more None a b = refl
more_and_more (Some kept) a b = ap (λ (l : List (List ℕ)). Some l) (append_assoc kept a b)

adds_so : (r r' : Option (List (List ℕ))) (texts : List (List ℕ)) → r' ≡ with_texts r texts → OptAdds r r' texts
adds_so None r' texts is = is
adds_so (Some kept) r' texts is = is

-- the records with those of these events
abbrev with_all : Option (List (List ℕ)) → HostState → List HostEvent → Option (List (List ℕ))
with_all r h events = with_texts r (texts_of (records_all h events))

event_state : (m : Lone) (event : Event) → (happens m event).host.state ≡ after_all m.host.state (done_by_host event)
unfolding happens
event_state m (Does_itself events) = refl
event_state m (Does_asked event) = refl
event_state m (Takes bytes rest items events) = refl
event_state m (Ticks events) = refl
event_state m (Refuses line refusal) = refl
event_state m (Shows_values node) = refl

event_records : (m : Lone) (event : Event) → (happens m event).records ≡ with_all m.records m.host.state (done_by_host event)
unfolding happens
event_records m (Does_itself events) = refl
event_records m (Does_asked event) = refl
event_records m (Takes bytes rest items events) = refl
event_records m (Ticks events) = refl
event_records m (Refuses line refusal) = none_more m.records
event_records m (Shows_values node) = none_more m.records

with_both : (r : Option (List (List ℕ))) (h : HostState) (a b : List HostEvent) → with_all (with_all r h a) (after_all h a) b ≡ with_all r h (a ++ b)
with_both r h a b =
    more_and_more r (texts_of (records_all h a)) (texts_of (records_all (after_all h a) b))
    ∙ ap (λ (l : List (List ℕ)). with_texts r l)
    (sym (texts-append (records_all h a) (records_all (after_all h a) b)) ∙ ap (λ (l : List Record). texts_of l) (sym (records_all-append h a b)))

all_records : (m : Lone) (events : List Event) → (happens_all m events).records ≡ with_all m.records m.host.state (host_events events)
all_records m [] = none_more m.records
all_records m (event ∷ events) =
    all_records (happens m event) events
    ∙ (ap (λ (r : Option (List (List ℕ))). with_all r (happens m event).host.state (host_events events)) (event_records m event)
    ∙ (ap (λ (h : HostState). with_all (with_all m.records m.host.state (done_by_host event)) h (host_events events)) (event_state m event)
    ∙ with_both m.records m.host.state (done_by_host event) (host_events events)))

-- ---- the story of lines

record Story (lines : List (TextLine ReplayLine)) (old : Lone) (T rest : List Entry) (records : Option (List (List ℕ))) : Type 0 where
  story : List Ran
  lines_are : lines_of story ≡ lines
  may : MayAll old (events_of story)
  entered : T ++ rest ≡ transcript_from old story
  records_are : records ≡ (happens_all old (events_of story)).records

no_lines : (m : Lone) → Story [] m [] [] m.records
no_lines m = record { story = []; lines_are = refl; may = tt; entered = refl; records_are = refl }

-- the last line, of which some events were done
part_line : (line : TextLine ReplayLine) (old new : Point) (some : List Entry) → PartRan line old new some → (rest : List Entry) × Story (line ∷ []) old.lone some rest new.lone.records
part_line line old new some s = (
  s.more,
  record {
    story = record { line = line; events = s.events } ∷ [];
    lines_are = refl;
    may = subst (λ (l : List Event). MayAll old.lone l) (sym (append-nil s.events)) s.may;
    entered = s.prefix ∙ ap (λ (l : List Entry). said line ++ l) (sym (append-nil (entries_all old.lone s.events)));
    records_are = s.records ∙ ap (λ (l : List Event). (happens_all old.lone l).records) (sym (append-nil s.events));
  },
)

-- a line before others
line_then : (line : TextLine ReplayLine) (lines : List (TextLine ReplayLine)) (old mid : Point) (some later rest : List Entry) (records : Option (List (List ℕ))) → LineRan line old mid some
    → Story lines mid.lone later rest records → Story (line ∷ lines) old.lone (some ++ later) rest records
line_then line lines old mid some later rest records (events, is, run) s = record {
  story = record { line = line; events = events } ∷ s.story;
  lines_are = ap (λ (l : List (TextLine ReplayLine)). line ∷ l) s.lines_are;
  may = may_all-append old.lone events (events_of s.story) run.may (subst (λ (m : Lone). MayAll m (events_of s.story)) run.state s.may);
  entered = append_assoc some later rest
      ∙ (ap (λ (l : List Entry). some ++ l) s.entered
      ∙ (ap (λ (l : List Entry). l ++ transcript_from mid.lone s.story) run.entered
      ∙ (append_assoc (said line) (entries_all old.lone events) (transcript_from mid.lone s.story)
      ∙ ap (λ (m : Lone). said line ++ (entries_all old.lone events ++ transcript_from m s.story)) run.state)));
  records_are = s.records_are
      ∙ (ap (λ (m : Lone). (happens_all m (events_of s.story)).records) run.state
      ∙ ap (λ (m : Lone). m.records) (sym (happens_all-append old.lone events (events_of s.story))));
}

lines_then : (lines later : List (TextLine ReplayLine)) (old mid : Point) (T U rest : List Entry) (records : Option (List (List ℕ))) → AllRan LineRan lines old mid T
    → Story later mid.lone U rest records → Story (lines ++ later) old.lone (T ++ U) rest records
lines_then [] later old mid T U rest records ran s =
    subst (λ (l : List Entry). Story later old.lone (l ++ U) rest records) (sym ran.1) (subst (λ (p : Point). Story later p.lone U rest records) ran.0 s)
lines_then (line ∷ lines) later old mid T U rest records (next, some, others, one, all, are) s =
    subst (λ (l : List Entry). Story (line ∷ (lines ++ later)) old.lone l rest records) (sym (append_assoc some others U) ∙ ap (λ (l : List Entry). l ++ U) (sym are))
    (line_then line (lines ++ later) old next some (others ++ U) rest records one (lines_then lines later next mid others U rest records all s))

-- ---- the whole run

keeps : (end : LinesEnd) (lines : List (TextLine ReplayLine)) (old : Lone) (T rest : List Entry) (records : Option (List (List ℕ))) → IsAllEntered end rest → Story lines old T rest records
    → KeepsRecords end lines old T records
keeps end lines old T rest records all s = record {
  story = s.story;
  lines_are = s.lines_are;
  may = s.may;
  rest = rest;
  entered = s.entered;
  all_entered = all;
  kept = adds_so old.records records (texts_of (records_all old.host.state (host_events (events_of s.story)))) (s.records_are ∙ all_records old (events_of s.story));
}

whole : (end : LinesEnd) (lines : List (TextLine ReplayLine)) (old new : Point) (T : List Entry) → IsAllEntered end [] → AllRan LineRan lines old new T
    → KeepsRecords end lines old.lone T new.lone.records
whole end lines old new T all ran =
    keeps end lines old.lone T [] new.lone.records all
    (subst (λ (l : List Entry). Story lines old.lone l [] new.lone.records) (append-nil T)
    (subst (λ (l : List (TextLine ReplayLine)). Story l old.lone (T ++ []) [] new.lone.records) (append-nil lines)
    (lines_then lines [] old new T [] [] new.lone.records ran (no_lines new.lone))))

no_memory : (lines : List (TextLine ReplayLine)) (old new : Point) (T : List Entry) → RanLines NoMemory LineRan PartRan lines old new T → KeepsRecords NoMemory lines old.lone T new.lone.records
no_memory lines old new T (inl ran) = whole NoMemory lines old new T tt ran
no_memory lines old new T (inr s) =
    let (rest, part) = part_line s.last s.mid new s.entries s.stopped in
    keeps NoMemory lines old.lone T rest new.lone.records tt
    (subst (λ (l : List Entry). Story lines old.lone l rest new.lone.records) (sym s.transcript_is)
    (subst (λ (l : List (TextLine ReplayLine)). Story l old.lone (s.before ++ s.entries) rest new.lone.records) (sym s.lines_are)
    (lines_then s.prefix (s.last ∷ []) old s.mid s.before s.entries rest new.lone.records s.ran part)))

pub records_kept : (end : LinesEnd) (lines : List (TextLine ReplayLine)) (old new : Point) (T : List Entry) → RanLines end LineRan PartRan lines old new T
    → KeepsRecords end lines old.lone T new.lone.records
records_kept All lines old new T ran = whole All lines old new T refl ran
records_kept (Bad number fault) lines old new T ran = whole (Bad number fault) lines old new T refl ran
records_kept ReadFailed lines old new T ran = whole ReadFailed lines old new T refl ran
records_kept TooMuch lines old new T ran = whole TooMuch lines old new T refl ran
records_kept WriteFailed lines old new T ran = whole WriteFailed lines old new T refl ran
records_kept NoMemory lines old new T ran = no_memory lines old new T ran
