-- No line that the hosts of `replay` and `host` hear is for others.
use Rattle.std.proofs.Common.{◌≡◌, ℕ, ◌+◌, Bool, true, false, List, [], ◌∷◌, ◌++◌, drop, length, refl, sym, ap, ◌∙◌, subst}
use Rattle.std.specs.List.{flat_map}
use Rattle.zw_base.proofs.Each.{all-append}
use Rattle.serial_frame.specs.declared.item.Item.{Item}
use Rattle.serial_frame.specs.declared.item.Item.TheVariants.{Good, Refused as refused_item}
use Rattle.zw_text.specs.Line.{first_word}
use Rattle.zw_text.specs.Transcript.{line_of}
use Rattle.zw_text.specs.declared.line.Line.{Line}
use Rattle.zw_text.specs.declared.line.Line.TheVariants as lines
use Rattle.zw_text.specs.declared.line.ReplayLine.{ReplayLine}
use Rattle.zw_text.specs.declared.line.ReplayLine.TheVariants.{Plain, Chip}
use Rattle.zw_text.specs.declared.entry.Entry.{Entry}
use Rattle.zw_text.specs.declared.entry.Entry.TheVariants as entry
use Rattle.proof_asking.specs.proof_requests.law_host.Heard.{is_of_others}
use Rattle.host_model.specs.State.{HostState}
use Rattle.host_model.specs.Events.{HostEvent}
use Rattle.host_model.specs.Did.{outs_all}
use Rattle.host_model.specs.Outs.{answers}
use Rattle.host_model.specs.declared.out.HostOut.{HostOut}
use Rattle.host_model.specs.declared.out.HostOut.TheVariants.{Note, Write}
use Rattle.port_run.specs.Lines.{is_served}
use Rattle.port_run.specs.Steps.{Place, Step, Asks, Takes, Rests, Ticks, Pumps, Ran, asked_by}
use Rattle.port_run.specs.declared.asking.Answer.TheVariants.{Taken, Command, Refused}
use Rattle.proof_asking.proofs.HostOuts.{OutIs}
use Rattle.proof_asking.specs.proof_line.proof_walk.Outside.{IsHostNote}
use Rattle.proof_noting.proofs.HostNotes.{NoteOuts, all_outs_note}
use Rattle.run_replay.specs.Lines.{IsReplayed}
use Rattle.run_replay.specs.Machine.{Lone, Event, entries, entries_of, happens, happens_all, timed}
use Rattle.run_replay.specs.Machine as replay
use Rattle.proof_asking.specs.proof_known.Known.{AreSaidToHost, IsSaidToHost}
use Rattle.proof_asking.proofs.Events.{answers_are}
use Rattle.proof_replay.specs.Heard.{AreReplayed, Replayed, came_as, came_of, heard_all, heard_at, heard_of, item_text, plain_of}
use Rattle.proof_replay.specs.HostSteps.{AreOrderly, HearsPart, HearsRun, HearsSteps, IsPumpedStep, IsRunSteps, WithPump, chip_word, tick_words}
use Rattle.proof_replay.proofs.Serving.{chip_is, tick_is}

pub never : false ≡ true → ⊥
never bad = cc

-- words of a line, and what the host made of it
line_said : (words : List ℕ) (line : List Line) (told : List Entry) → line_of (entry.Said words) ≡ line → is_of_others line ≡ false → AreSaidToHost told → AreSaidToHost (entry.Said words ∷ told)
line_said words line told read own said = (ap is_of_others read ∙ own, said)

-- ---- what came

came_said : (items : List Item) (stream : List ℕ) → AreSaidToHost (came_of items stream)
came_said [] stream = tt
came_said (item ∷ items) stream =
    all-append IsSaidToHost (came_as item (item_text item stream)) (came_of items (drop (length (item_text item stream)) stream)) (by item (item_text item stream))
    (came_said items (drop (length (item_text item stream)) stream))
  where
    by : (item : Item) (text : List ℕ) → AreSaidToHost (came_as item text)
    by (Good unit) text = (refl, tt)
    by (refused_item refusal) text = (refl, (refl, tt))

-- words that are no line, what came, and what the host made of it
read_said : (words : List ℕ) → line_of (entry.Said words) ≡ [] → (items : List Item) (stream : List ℕ) (told : List Entry) → AreSaidToHost told
    → AreSaidToHost (entry.Said words ∷ (came_of items stream ++ told))
read_said words none items stream told said =
    line_said words [] (came_of items stream ++ told) none refl (all-append IsSaidToHost (came_of items stream) told (came_said items stream) said)

-- ---- what the host made of it

note_said : (e : Entry) → IsHostNote e → IsSaidToHost e
note_said (entry.Said words) note = absurd note
note_said e note = refl

outs_said : (puts : List HostOut) → NoteOuts puts → AreSaidToHost (entries_of puts)
outs_said [] notes = tt
outs_said (Write unit ∷ puts) notes = (refl, outs_said puts notes.1)
outs_said (Note e ∷ puts) notes = (note_said e notes.0, outs_said puts notes.1)

all_said : (h : HostState) (events : List HostEvent) → AreSaidToHost (entries_of (outs_all h events))
all_said h events = outs_said (outs_all h events) (all_outs_note h events)

timed_said : (tick : ℕ) (puts : List HostOut) → NoteOuts puts → AreSaidToHost (timed tick puts)
timed_said tick [] notes = tt
timed_said tick (one ∷ puts) notes = (refl, outs_said (one ∷ puts) notes)

answers_said : (h : HostState) (event : HostEvent) → AreSaidToHost (answers h event)
answers_said h event = answers_are IsSaidToHost (record { accepted = λ command node. refl; taken_back = λ command. refl }) h event

all_answers_said : (h : HostState) (events : List HostEvent) → AreSaidToHost (flat_map (answers h) events)
all_answers_said h [] = tt
all_answers_said h (event ∷ events) = all-append IsSaidToHost (answers h event) (flat_map (answers h) events) (answers_said h event) (all_answers_said h events)

-- ---- lines of `replay`

event_said : (m : Lone) (event : Event) → AreSaidToHost (heard_at m event)
unfolding entries
event_said m (replay.Does_itself events) = all_said m.host.state events
event_said m (replay.Does_asked event) =
    all-append IsSaidToHost (entries_of (outs_all m.host.state (event ∷ []))) (answers m.host.state event) (all_said m.host.state (event ∷ [])) (answers_said m.host.state event)
event_said m (replay.Takes bytes rest items events) =
    all-append IsSaidToHost (came_of items (m.host.decoder.bytes ++ bytes)) (entries_of (outs_all m.host.state events)) (came_said items (m.host.decoder.bytes ++ bytes)) (all_said m.host.state events)
event_said m (replay.Ticks events) = timed_said (m.clock + 1) (outs_all m.host.state events) (all_outs_note m.host.state events)
event_said m (replay.Refuses line refusal) = (refl, tt)
event_said m (replay.Shows_values node) = (refl, tt)

events_said : (m : Lone) (events : List Event) → AreSaidToHost (heard_all m events)
events_said m [] = tt
events_said m (event ∷ events) = all-append IsSaidToHost (heard_at m event) (heard_all (happens m event) events) (event_said m event) (events_said (happens m event) events)

replayed_for_host : (line : ReplayLine) → IsReplayed line → is_of_others (plain_of line) ≡ false
replayed_for_host (Plain (lines.Repeat frame)) replayed = absurd (never replayed)
replayed_for_host (Plain (lines.Wake node)) replayed = absurd (never replayed)
replayed_for_host (Plain (lines.Local node value)) replayed = absurd (never replayed)
replayed_for_host (Plain (lines.Show node)) replayed = absurd (never replayed)
replayed_for_host (Plain line) replayed = refl
replayed_for_host (Chip bytes) replayed = refl

pub replayed_said : (m : Lone) (story : List Replayed) → AreReplayed m story → AreSaidToHost (heard_of m story)
replayed_said m [] are = tt
replayed_said m (said ∷ more) are =
    line_said said.words (plain_of said.line) (heard_all m said.events ++ heard_of (happens_all m said.events) more) are.0.read (replayed_for_host said.line are.0.replayed)
    (all-append IsSaidToHost (heard_all m said.events) (heard_of (happens_all m said.events) more) (events_said m said.events) (replayed_said (happens_all m said.events) more are.1))

-- ---- steps of `host`

served_for_host : (line : Line) → is_served (first_word line) ≡ true → is_of_others (line ∷ []) ≡ false
served_for_host (lines.Repeat frame) served = absurd (never served)
served_for_host (lines.Wake node) served = absurd (never served)
served_for_host (lines.Local node value) served = absurd (never served)
served_for_host (lines.Show node) served = absurd (never served)
served_for_host line served = refl

pumped_notes : (old new : Place) (puts : List HostOut) → Ran Pumps old new puts → NoteOuts puts
pumped_notes old new puts (does, decoder) = subst NoteOuts (sym does.did.outs) (all_outs_note old.host.state does.events)

pumped_said : (old new : Place) (puts : List HostOut) → Ran Pumps old new puts → AreSaidToHost (entries_of puts)
pumped_said old new puts pumped = outs_said puts (pumped_notes old new puts pumped)

asked_said : (line : Line) (h : HostState) (rest : List Entry) (part : List Entry) → is_served (first_word line) ≡ true → AreSaidToHost rest
    → (words : List ℕ) × (line_of (entry.Said words) ≡ line ∷ []) × (part ≡ entry.Said words ∷ (flat_map (answers h) (asked_by h line) ++ rest)) → AreSaidToHost part
asked_said line h rest part served said (words, read, is) =
    subst AreSaidToHost (sym is)
    (line_said words (line ∷ []) (flat_map (answers h) (asked_by h line) ++ rest) read (served_for_host line served)
    (all-append IsSaidToHost (flat_map (answers h) (asked_by h line)) rest (all_answers_said h (asked_by h line)) said))

part_said : (clock : ℕ) (one : Step) (old new : Place) (both : WithPump one old new) (part : List Entry) → IsPumpedStep one → HearsPart clock one old new both part → AreSaidToHost part
part_said clock (Asks line Refused) old new both part pumped (words, read, refusal, refused, is) =
    subst AreSaidToHost (sym is)
    (line_said words (line ∷ []) (entry.Refused refusal ∷ entries_of both.rest) read (served_for_host line pumped.2) (refl, pumped_said both.mid new both.rest both.pumped))
part_said clock (Asks line Taken) old new both part pumped hears =
    asked_said line old.host.state (entries_of both.rest) part pumped.2 (pumped_said both.mid new both.rest both.pumped) hears
part_said clock (Asks line (Command number)) old new both part pumped hears =
    asked_said line old.host.state (entries_of both.rest) part pumped.2 (pumped_said both.mid new both.rest both.pumped) hears
part_said clock (Takes bytes) old new both part pumped hears =
    let first = outs_said both.first (subst NoteOuts (sym both.ran.did.outs) (all_outs_note old.host.state both.ran.events)) in
    subst AreSaidToHost (sym hears)
    (read_said chip_word chip_is both.ran.items (old.host.decoder.bytes ++ bytes) (entries_of both.first ++ entries_of both.rest)
    (all-append IsSaidToHost (entries_of both.first) (entries_of both.rest) first (pumped_said both.mid new both.rest both.pumped)))
part_said clock Ticks old new both part pumped hears =
    let ticked = both.ran.0 in
    let first : NoteOuts both.first = subst NoteOuts (sym ticked.did.outs) (all_outs_note old.host.state ticked.events) in
    subst AreSaidToHost (sym hears)
    (line_said tick_words (lines.Tick 1 ∷ []) (timed (clock + 1) (both.first ++ both.rest)) tick_is refl
    (timed_said (clock + 1) (both.first ++ both.rest) (all-append (OutIs IsHostNote) both.first both.rest first (pumped_notes both.mid new both.rest both.pumped))))
part_said clock Rests old new both part pumped hears = absurd hears
part_said clock Pumps old new both part pumped hears = absurd hears

steps_said : (clock : ℕ) (whole : Bool) (steps : List Step) (old new : Place) (heard : List Entry) → AreOrderly whole steps → HearsSteps clock steps old new heard → AreSaidToHost heard
steps_said clock whole [] old new heard orderly (same, none) = subst AreSaidToHost (sym none) tt
steps_said clock whole (Rests ∷ steps) old new heard orderly hears = steps_said clock whole steps old new heard orderly hears
steps_said clock whole (Asks line answer ∷ Pumps ∷ steps) old new heard orderly (mid, both, part, more, hears, later, is) =
    subst AreSaidToHost (sym is)
    (all-append IsSaidToHost part more (part_said clock (Asks line answer) old mid both part orderly.0 hears) (steps_said clock whole steps mid new more orderly.1 later))
steps_said clock whole (Takes bytes ∷ Pumps ∷ steps) old new heard orderly (mid, both, part, more, hears, later, is) =
    subst AreSaidToHost (sym is)
    (all-append IsSaidToHost part more (part_said clock (Takes bytes) old mid both part orderly.0 hears) (steps_said clock whole steps mid new more orderly.1 later))
steps_said clock whole (Ticks ∷ Pumps ∷ steps) old new heard orderly (mid, both, part, more, hears, later, is) =
    subst AreSaidToHost (sym is)
    (all-append IsSaidToHost part more (part_said clock Ticks old mid both part orderly.0 hears) (steps_said (clock + 1) whole steps mid new more orderly.1 later))
steps_said clock whole (Pumps ∷ Pumps ∷ steps) old new heard orderly hears = absurd orderly.0
steps_said clock whole (Asks line answer ∷ []) old new heard orderly hears = subst AreSaidToHost (sym hears) tt
steps_said clock whole (Takes bytes ∷ []) old new heard orderly hears = subst AreSaidToHost (sym hears) tt
steps_said clock whole (Ticks ∷ []) old new heard orderly hears = subst AreSaidToHost (sym hears) tt
steps_said clock whole (Pumps ∷ []) old new heard orderly hears = subst AreSaidToHost (sym hears) tt
steps_said clock whole (one ∷ other ∷ steps) old new heard orderly hears = absurd orderly

pub run_said : (clock : ℕ) (whole : Bool) (steps : List Step) (old new : Place) (heard : List Entry) → IsRunSteps whole steps → HearsRun clock steps old new heard → AreSaidToHost heard
run_said clock whole [] old new heard orderly (same, none) = subst AreSaidToHost (sym none) tt
run_said clock whole (Pumps ∷ steps) old new heard orderly (mid, puts, more, pumped, later, is) =
    subst AreSaidToHost (sym is)
    (all-append IsSaidToHost (entries_of puts) more (pumped_said old mid puts pumped) (steps_said clock whole steps mid new more orderly later))
run_said clock whole (Asks line answer ∷ steps) old new heard orderly hears = absurd orderly
run_said clock whole (Takes bytes ∷ steps) old new heard orderly hears = absurd orderly
run_said clock whole (Rests ∷ steps) old new heard orderly hears = absurd orderly
run_said clock whole (Ticks ∷ steps) old new heard orderly hears = absurd orderly
