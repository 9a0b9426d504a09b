-- A command is taken back directly after the line that asks for it: only the first event of such a line takes one back.
use Rattle.std.proofs.Common.{◌≡◌, ◌⊎◌, ℕ, List, [], ◌∷◌, ◌++◌, inl, inr, refl, sym, ap, ap₂, subst, ◌∙◌, arith}
use Rattle.std.specs.List.{AllByRecursion}
use Rattle.std.proofs.lemmas.List.{append-nil}
use Rattle.zw_base.proofs.Each.{all-append, all-weaker}
use Rattle.zw_text.specs.declared.line.Line.{Line}
use Rattle.zw_text.specs.declared.line.Line.TheVariants as line
use Rattle.zw_text.specs.declared.entry.Ended.TheVariants as ended
use Rattle.zw_text.specs.declared.entry.Entry.{Entry}
use Rattle.zw_text.specs.declared.entry.Entry.TheVariants.{Out, Said}
use Rattle.zw_text.specs.Transcript.{line_last}
use Rattle.law_host.specs.law_transcript.Answers.{MayCancel}
use Rattle.law_host.specs.law_transcript.Commands.{is_waiting}
use Rattle.law_host.specs.law_transcript.Lists.{EachAfter}
use Rattle.proof_air.specs.host_model.State.{HostState}
use Rattle.proof_air.specs.host_model.Events.{HostEvent, Begins, Cancels, IsOwn}
use Rattle.proof_air.specs.host_model.Outs.{answers, Silent}
use Rattle.proof_air.specs.proof_host.Entries.{IsAside, entries_at}
use Rattle.proof_air.specs.proof_host.Laws.{MayEnd}
use Rattle.proof_air.proofs.Lists.{each-append, each-anywhere}
use Rattle.proof_air.specs.outside_model.Events.{Begins_line, devices_after, outcome}
use Rattle.proof_air.specs.world_model.State.{Machine}
use Rattle.proof_air.specs.world_model.Events.{Event, Outside_does, Host_does, Host_takes, entries, happens, May}
use Rattle.proof_air.specs.world_model.Did.{happens_all, entries_all, AllAlong, PrefixOf, MayAll}
use Rattle.proof_air.specs.world_model.Settling.{Settles}
use Rattle.proof_air.specs.world_model.Lines.{IsEffect, IsLineBegin}
use Rattle.proof_air.specs.world_model.Prefixes.{IsLineBefore, SettlesPrefix, LinePart}
use Rattle.proof_air.proofs.EventLists.{entries_all-append}
use Rattle.proof_air.proofs.Pieces.{Law, Pieces, of_settling, of_settling_prefix, of_line_part}
use Rattle.proof_air.proofs.Along.{IsAskedBy, IsOfPart, IsOfEffect, along, pieces_along, effect_along, anywhere}
use Rattle.proof_air.proofs.Silence.{judged_silent}
use Rattle.proof_air.specs.world_lines.Spoken.{Spoken, after, entries_of, transcript_of}
use Rattle.proof_air.specs.world_lines.Done.{AreDone, IsDone}
use Rattle.proof_transcript.proofs.Common.{IsCommon, IsNoTaking, aside_common, event_common}
use Rattle.proof_transcript.proofs.HostLaws.{IsOf, events_free}
use Rattle.proof_spoken.proofs.SaidOrders.{last_said}

-- ---- entries

-- an entry that takes no command back
abbrev IsNoCancel : Entry → Type 0
IsNoCancel (Out command ended.Cancelled) = ⊥
IsNoCancel entry = Unit {0}

common_none : (entry : Entry) → IsCommon entry → IsNoCancel entry
common_none (Out command ended.Cancelled) common = absurd common
common_none entry common = tt

aside_none : (entry : Entry) → IsAside entry → IsNoCancel entry
aside_none entry aside = common_none entry (aside_common entry aside)

entries_none : (h : HostState) (event : HostEvent) → IsNoTaking event → AllByRecursion IsNoCancel (entries_at h event)
entries_none h (Cancels command) none = absurd none
entries_none h (Begins n session command) none = (tt, tt)
entries_none h event none = all-weaker IsCommon IsNoCancel common_none (entries_at h event) (event_common h event tt tt)

-- ---- events of the machine

-- the host is asked to take no command back
abbrev TakesNone : Event → Type 0
TakesNone (Host_does event) = IsNoTaking event
TakesNone event = Unit {0}

abbrev AllTakeNone : List Event → Type 0
AllTakeNone events = AllByRecursion TakesNone events

answers_none : (h : HostState) (event : HostEvent) → answers h event ≡ [] → IsNoTaking event
answers_none h (Cancels command) none = absurd (grind arith)
answers_none h event none = tt

silent_none : (h : HostState) (events : List HostEvent) → Silent events → AllByRecursion IsNoTaking events
silent_none h [] silent = tt
silent_none h (event ∷ events) silent = (answers_none h event (silent.0 h), silent_none h events silent.1)

-- bytes of the chip make it take none back
none_of : (m : Machine) (event : Event) → TakesNone event → May m event → IsOf IsNoCancel IsNoTaking aside_none entries_none event
unfolding May
none_of m (Host_does event) none may = none
none_of m (Host_takes count rest items events) none may = silent_none m.host.state events (judged_silent m.host.state items events may.judged)
none_of m event none may = tt

all_none_of : (m : Machine) (events : List Event) → AllTakeNone events → MayAll m events → AllByRecursion (IsOf IsNoCancel IsNoTaking aside_none entries_none) events
all_none_of m [] none may = tt
all_none_of m (event ∷ events) none may = (none_of m event none.0 may.0, all_none_of (happens m event) events none.1 may.1)

-- ---- parts of lines

own_none : (event : HostEvent) → IsOwn event → IsNoTaking event
own_none (Cancels command) own = absurd own
own_none event own = tt

-- wherever it happens
abbrev NoneAt : Machine → Event → Type 0
NoneAt m event = TakesNone event

part_none : (m : Machine) (event : Event) → IsOfPart m event → NoneAt m event
part_none m (Host_does event) own = own_none event own
part_none m event is = tt

law : Law (AllAlong NoneAt)
law = along NoneAt

pieces : Pieces (AllAlong NoneAt)
pieces = pieces_along NoneAt part_none

settling_none : (m : Machine) (events : List Event) → Settles m events → AllTakeNone events
settling_none m events settles = anywhere TakesNone m events (of_settling (AllAlong NoneAt) law pieces m events settles)

settling_prefix_none : (m : Machine) (events : List Event) → SettlesPrefix m events → AllTakeNone events
settling_prefix_none m events settles = anywhere TakesNone m events (of_settling_prefix (AllAlong NoneAt) law pieces m events settles)

-- ---- a line that asks for no such thing

abbrev AsksForNone : Line → Type 0
AsksForNone (line.Cancel command) = ⊥
AsksForNone other = Unit {0}

as_none : (event these : HostEvent) → event ≡ these → IsNoTaking these → IsNoTaking event
as_none event these is none = subst IsNoTaking (sym is) none

host_none : (said : Line) → AsksForNone said → (m : Machine) (event : HostEvent) → IsAskedBy said m event → IsNoTaking event
host_none (line.Command order) none m event is = as_none event _ is tt
host_none (line.Send node word) none m event asks = as_none event _ asks.is tt
host_none (line.Get node end) none m event asks = as_none event _ asks.is tt
host_none (line.Join node) none m event is = as_none event _ is tt
host_none (line.Interview node) none m event asks = as_none event _ asks.is tt
host_none (line.Cancel command) none m event is = absurd none
host_none line.Discover none m event is = as_none event _ is tt
host_none (line.Neighbours node) none m event is = as_none event _ is tt
host_none (line.Failed node) none m event is = as_none event _ is tt
host_none line.Probe none m event is = as_none event _ is tt
host_none said none m event is = absurd is

effect_none : (said : Line) → AsksForNone said → (m : Machine) (event : Event) → IsOfEffect said m event → NoneAt m event
effect_none said none m (Host_does event) is = host_none said none m event is
effect_none said none m event is = tt

line_none : (said : Line) (m : Machine) (events : List Event) → AsksForNone said → LinePart said m events → AllTakeNone events
line_none said m events none is = anywhere TakesNone m events (of_line_part (AllAlong NoneAt) law pieces said (effect_along NoneAt said (effect_none said none)) m events is)

-- ---- a line that asks for it

-- the first event after its beginning takes the command back, and no later one takes any
record TakesBack (command : ℕ) (events : List Event) : Type 0 where
  pub later : List Event
  pub are : events ≡ Outside_does Begins_line ∷ Host_does (Cancels command) ∷ later
  pub none : AllTakeNone later

abbrev MayTakeBack : ℕ → List Event → Type 0
MayTakeBack command events = TakesBack command events ⊎ AllTakeNone events

-- of the effect nothing was done, or all
effect_begun : (command : ℕ) (n : Machine) (effect : List Event) → PrefixOf (IsEffect (line.Cancel command)) n effect → (effect ≡ []) ⊎ IsEffect (line.Cancel command) n effect
effect_begun command n effect (inl none) = inl none
effect_begun command n [] (inr begun) = inl refl
effect_begun command n (event ∷ []) (inr ([], is)) = inr is
effect_begun command n (event ∷ []) (inr (next ∷ rest, inl are)) = absurd cc
effect_begun command n (event ∷ []) (inr (next ∷ rest, inr (refusal, are))) = absurd cc
effect_begun command n (event ∷ next ∷ effect) (inr (rest, inl are)) = absurd cc
effect_begun command n (event ∷ next ∷ effect) (inr (rest, inr (refusal, are))) = absurd cc

effect_takes : (command : ℕ) (n : Machine) (effect later : List Event) → IsEffect (line.Cancel command) n effect → AllTakeNone later → MayTakeBack command (Outside_does Begins_line ∷ (effect ++ later))
effect_takes command n effect later (inl cancels) none = inl (record { later = later; are = ap (λ (l : List Event). Outside_does Begins_line ∷ (l ++ later)) cancels; none = none })
effect_takes command n effect later (inr (refusal, refuses)) none = inr (tt, all-append TakesNone effect later (subst AllTakeNone (sym refuses) (tt, tt)) none)

begun_takes : (command : ℕ) (m : Machine) (events first rest effect later : List Event) → events ≡ first ++ rest → IsLineBegin m first → rest ≡ effect ++ later
    → IsEffect (line.Cancel command) (happens_all m first) effect → AllTakeNone later → MayTakeBack command events
begun_takes command m events first rest effect later are is parts done none =
    subst (λ (l : List Event). MayTakeBack command l) (sym (are ∙ ap₂ (λ (a b : List Event). a ++ b) is parts)) (effect_takes command (happens_all m first) effect later done none)

line_takes : (command : ℕ) (m : Machine) (events : List Event) → LinePart (line.Cancel command) m events → MayTakeBack command events
line_takes command m events (inl (first, rest, are, is, (effect, settling, parts, done, settles))) =
    begun_takes command m events first rest effect settling are is parts done (settling_none (happens_all (happens_all m first) effect) settling settles)
line_takes command m events (inr (inl none)) = inr (subst AllTakeNone (sym none) tt)
line_takes command m events (inr (inr (first, rest, are, is, inl prefix))) = elim (effect_begun command (happens_all m first) rest prefix) [
  | inl none ↦ inr (subst AllTakeNone (sym (are ∙ ap₂ (λ (a b : List Event). a ++ b) is none)) (tt, tt))
  | inr done ↦ begun_takes command m events first rest rest [] are is (sym (append-nil rest)) done tt
]
line_takes command m events (inr (inr (first, rest, are, is, inr (effect, settling, parts, done, settles)))) =
    begun_takes command m events first rest effect settling are is parts done (settling_prefix_none (happens_all (happens_all m first) effect) settling settles)

line_kind : (said : Line) → ((command : ℕ) × (said ≡ line.Cancel command)) ⊎ AsksForNone said
line_kind (line.Cancel command) = inl (command, refl)
line_kind other = inr tt

-- ---- where it is entered

-- a command is taken back directly after a line that asks for it
abbrev MayAsk : List Entry → Entry → Type 0
MayAsk past (Out command ended.Cancelled) = line_last past ≡ line.Cancel command ∷ []
MayAsk past entry = Unit {0}

free_ask : (past : List Entry) (entry : Entry) → IsNoCancel entry → MayAsk past entry
free_ask past (Out command ended.Cancelled) none = absurd none
free_ask past entry none = tt

none_ask : (past : List Entry) (m : Machine) (events : List Event) → AllTakeNone events → MayAll m events → EachAfter MayAsk past (entries_all m events)
none_ask past m events none may =
    each-anywhere MayAsk IsNoCancel free_ask past (entries_all m events) (events_free IsNoCancel IsNoTaking aside_none entries_none m events (all_none_of m events none may) may)

opening : (m : Machine) (command : ℕ) → entries_all m (Outside_does Begins_line ∷ Host_does (Cancels command) ∷ []) ≡ Out command ended.Cancelled ∷ []
unfolding happens entries outcome devices_after
opening m command = refl

taking_ask : (past : List Entry) (m : Machine) (command : ℕ) (later : List Event) → line_last past ≡ line.Cancel command ∷ [] → AllTakeNone later
    → MayAll m (Outside_does Begins_line ∷ Host_does (Cancels command) ∷ later) → EachAfter MayAsk past (entries_all m (Outside_does Begins_line ∷ Host_does (Cancels command) ∷ later))
taking_ask past m command later asked none may =
    let first = Outside_does Begins_line ∷ Host_does (Cancels command) ∷ [] in
    let next = happens_all m first in
    subst (λ (l : List Entry). EachAfter MayAsk past l) (sym (entries_all-append m first later ∙ ap (λ (l : List Entry). l ++ entries_all next later) (opening m command)))
    (asked, none_ask (past ++ Out command ended.Cancelled ∷ []) next later none may.1.1)

events_ask : (past : List Entry) (said : Line) (m : Machine) (events : List Event) → line_last past ≡ said ∷ [] → LinePart said m events → MayAll m events → EachAfter MayAsk past (entries_all m events)
events_ask past said m events asked is may = elim (line_kind said) [
  | inl (command, which) ↦ elim (line_takes command m events (subst (λ (l : Line). LinePart l m events) which is)) [
    | inl takes ↦
        subst (λ (l : List Event). EachAfter MayAsk past (entries_all m l)) (sym takes.are)
        (taking_ask past m command takes.later (asked ∙ ap (λ (l : Line). l ∷ []) which) takes.none (subst (λ (l : List Event). MayAll m l) takes.are may))
    | inr none ↦ none_ask past m events none may
  ]
  | inr none ↦ none_ask past m events (line_none said m events none is) may
]

-- ---- lines

part_of : {A : Type 0} (more : List A) (said : Line) (m : Machine) (events : List Event) → IsLineBefore more said m events → LinePart said m events
part_of [] said m events is = is
part_of (next ∷ more) said m events is = inl is

line_asks : (past : List Entry) (m : Machine) (more : List Spoken) (spoken : Spoken) → IsDone more m spoken → EachAfter MayAsk past (entries_of m spoken)
line_asks past m more spoken is =
    (tt, events_ask (past ++ Said spoken.words ∷ []) spoken.line m spoken.events (last_said past spoken.words ∙ is.read) (part_of more spoken.line m spoken.events is.is_line) is.may)

lines_ask : (past : List Entry) (m : Machine) (lines : List Spoken) → AreDone m lines → EachAfter MayAsk past (transcript_of m lines)
lines_ask past m [] are = tt
lines_ask past m (spoken ∷ more) are =
    each-append MayAsk past (entries_of m spoken) (transcript_of (after m spoken) more) (line_asks past m more spoken are.0)
    (lines_ask (past ++ entries_of m spoken) (after m spoken) more are.1)

-- ---- while it waits

one_cancels : (past : List Entry) (entry : Entry) → MayAsk past entry → MayEnd past entry → MayCancel past entry
one_cancels past (Out command ended.Cancelled) asked ends = (asked, ap is_waiting ends.1)
one_cancels past entry asked ends = tt

both_cancel : (past es : List Entry) → EachAfter MayAsk past es → EachAfter MayEnd past es → EachAfter MayCancel past es
both_cancel past [] asked ends = tt
both_cancel past (entry ∷ es) asked ends = (one_cancels past entry asked.0 ends.0, both_cancel (past ++ entry ∷ []) es asked.1 ends.1)

pub lines_cancel : (m : Machine) (lines : List Spoken) → AreDone m lines → EachAfter MayEnd [] (transcript_of m lines) → EachAfter MayCancel [] (transcript_of m lines)
lines_cancel m lines are ends = both_cancel [] (transcript_of m lines) (lines_ask [] m lines are) ends
