-- An order is accepted directly after the words that give it, and a command is taken back only there where a line asks for it, and where it waits: a law over what is known of words
-- and tables.
use Rattle.std.proofs.Common.{◌≡◌, ℕ, true, List, [], ◌∷◌, ap, ◌∙◌, subst, refl}
use Rattle.zw_words.specs.declared.side.Side.TheVariants.{Chip}
use Rattle.zw_text.specs.declared.line.Line.{Line}
use Rattle.zw_text.specs.declared.line.Line.TheVariants as lines
use Rattle.zw_text.specs.declared.entry.Ended.TheVariants.{Cancelled}
use Rattle.zw_text.specs.declared.entry.Entry.{Entry}
use Rattle.zw_text.specs.declared.entry.Entry.TheVariants as entry
use Rattle.zw_text.specs.declared.entry.Outcome.{Outcome}
use Rattle.zw_text.specs.Transcript.{line_last, outcome}
use Rattle.law_host.specs.law_transcript.Answers.{MayCancel}
use Rattle.zw_base.specs.declared.order.Order.{Order}
use Rattle.host_orders.specs.declared.carriage.Carriage.{Carriage}
use Rattle.law_host.specs.law_transcript.Commands.{is_waiting}
use Rattle.law_host.specs.law_transcript.Lists.{EachAfter}
use Rattle.proof_line.specs.proof_host.Laws.{MayStand}
use Rattle.proof_line.proofs.Lists.{each-anywhere}
use Rattle.proof_line.specs.host_model.State.{HostState}
use Rattle.host_requests.specs.declared.task.Task.{Task}
use Rattle.proof_line.specs.host_model.Asking.{carriage_for}
use Rattle.proof_line.specs.host_model.Events.{HostEvent, Accepts, Cancels, Joins, Queues, Queues_interview, Queues_probe, Hears}
use Rattle.proof_line.specs.host_model.Outs.{answers, outs}
use Rattle.proof_line.specs.proof_walk.Outside.{IsHostNote}
use Rattle.proof_alone.specs.State.{HostMachine}
use Rattle.proof_alone.specs.Steps.{IsAskedBy, IsOfOthers, Step, Tells, Comes, Misses, Says, Says_nothing, Asks, Refuses, Shows, Restarts, Begins_tick, Numbers, Judges, Does, entries}
use Rattle.proof_alone.specs.Phases.{Phase, May}
use Rattle.proof_alone.specs.Runs.{WalkOver}
use Rattle.proof_alone.specs.Tables.{KnowsTables}
use Rattle.proof_alone.specs.Answering.{AsOrdered, MayAnswer}
use Rattle.proof_alone.specs.Words.{KnowsWords}
use Rattle.proof_alone.proofs.Apart.{AreOfLine, missed_are, told_are}
use Rattle.proof_alone.proofs.Hearing.{event_notes}
use Rattle.proof_alone.proofs.Words.{words_walk}

-- ---- entries that answer no line

abbrev AnswersNone : Entry → Type 0
AnswersNone (entry.Accepted command node) = ⊥
AnswersNone (entry.Out command Cancelled) = ⊥
AnswersNone e = Unit {0}

free_order : (past : List Entry) (e : Entry) → AnswersNone e → AsOrdered past e
free_order past (entry.Accepted command node) none = absurd none
free_order past e none = tt

free_cancel : (past : List Entry) (e : Entry) → AnswersNone e → MayCancel past e
free_cancel past (entry.Out command Cancelled) none = absurd none
free_cancel past e none = tt

free_stand : (past : List Entry) (e : Entry) → AnswersNone e → MayAnswer past e
free_stand past e none = record { order = free_order past e none; cancel = free_cancel past e none }

other_free : (e : Entry) → IsOfOthers e → AnswersNone e
other_free (entry.Accepted command node) is = absurd is
other_free (entry.Out command Cancelled) is = absurd is
other_free e is = tt

note_free : (e : Entry) → IsHostNote e → AnswersNone e
note_free (entry.Accepted command node) note = absurd note
note_free (entry.Out command Cancelled) note = absurd note
note_free e note = tt

line_free : AreOfLine AnswersNone
line_free = record { written = λ side text. tt; dropped = λ side. tt; garbled = λ side text. tt; overrun = λ side. tt }

-- ---- what a line asks for

not_queued : {command : ℕ} (task : Task) → Cancels command ≡ Queues task → ⊥
not_queued task is = cc

asks_back : (line : Line) (h : HostState) (command : ℕ) → IsAskedBy line h (Cancels command) → line ≡ lines.Cancel command
asks_back (lines.Cancel asked) h command is = cc
asks_back (lines.Command order) h command is = absurd (let bad : Cancels command ≡ Accepts order (carriage_for h order) = is in cc)
asks_back (lines.Join node) h command is = absurd (let bad : Cancels command ≡ Joins node = is in cc)
asks_back (lines.Send node word) h command is = absurd (not_queued _ is.1)
asks_back (lines.Get node end) h command is = absurd (not_queued _ is.1)
asks_back (lines.Interview node) h command is = absurd (let bad : Cancels command ≡ Queues_interview node = is.1 in cc)
asks_back lines.Discover h command is = absurd (not_queued _ is.1)
asks_back (lines.Neighbours node) h command is = absurd (not_queued _ is.1)
asks_back (lines.Failed node) h command is = absurd (not_queued _ is.1)
asks_back lines.Probe h command is = absurd (let bad : Cancels command ≡ Queues_probe = is.1 in cc)
asks_back line h command is = absurd is

not_accepted : {order : Order} {carriage : Carriage} (task : Task) → Accepts order carriage ≡ Queues task → ⊥
not_accepted task is = cc

asks_order : (line : Line) (h : HostState) (order : Order) (carriage : Carriage) → IsAskedBy line h (Accepts order carriage) → line ≡ lines.Command order
asks_order (lines.Command asked) h order carriage is = cc
asks_order (lines.Cancel command) h order carriage is = absurd (let bad : Accepts order carriage ≡ Cancels command = is in cc)
asks_order (lines.Join node) h order carriage is = absurd (let bad : Accepts order carriage ≡ Joins node = is in cc)
asks_order (lines.Send node word) h order carriage is = absurd (not_accepted _ is.1)
asks_order (lines.Get node end) h order carriage is = absurd (not_accepted _ is.1)
asks_order (lines.Interview node) h order carriage is = absurd (let bad : Accepts order carriage ≡ Queues_interview node = is.1 in cc)
asks_order lines.Discover h order carriage is = absurd (not_accepted _ is.1)
asks_order (lines.Neighbours node) h order carriage is = absurd (not_accepted _ is.1)
asks_order (lines.Failed node) h order carriage is = absurd (not_accepted _ is.1)
asks_order lines.Probe h order carriage is = absurd (let bad : Accepts order carriage ≡ Queues_probe = is.1 in cc)
asks_order line h order carriage is = absurd is

-- it waits, by the law of commands
waits : (past : List Entry) (command : ℕ) → EachAfter MayStand past (entry.Out command Cancelled ∷ []) → is_waiting (outcome command past) ≡ true
waits past command stand = ap (λ (o : Outcome). is_waiting o) stand.0.end.1

answer_stands : (line : Line) (past : List Entry) (h : HostState) (event : HostEvent) → IsAskedBy line h event → line_last past ≡ line ∷ [] → EachAfter MayStand past (answers h event)
    → EachAfter MayAnswer past (answers h event)
answer_stands line past h (Accepts order carriage) asked words stand =
    (record { order = (order, words ∙ ap (λ (l : Line). l ∷ []) (asks_order line h order carriage asked), refl); cancel = tt }, tt)
answer_stands line past h (Cancels command) asked words stand =
    (record { order = tt; cancel = (words ∙ ap (λ (l : Line). l ∷ []) (asks_back line h command asked), waits past command stand) }, tt)
answer_stands line past h event asked words stand = tt

-- ---- the walk

step_goes : (here next : Phase) (past : List Entry) (m : HostMachine) (one : Step) → May here m one next → EachAfter MayStand past (entries m one) → KnowsWords here past m
    → EachAfter MayAnswer past (entries m one)
step_goes here next past m (Tells e) may stand words = (free_stand past e (other_free e may.1), tt)
step_goes here next past m (Comes unit) may stand words = (free_stand past _ tt, tt)
step_goes here next past m (Misses text marks) may stand words =
    each-anywhere MayAnswer AnswersNone free_stand past (entry.Written Chip text ∷ marks) (tt, missed_are AnswersNone line_free marks may.1)
step_goes here next past m (Says words line) may stand known = (free_stand past _ tt, tt)
step_goes here next past m (Says_nothing words) may stand known = (free_stand past _ tt, tt)
step_goes here next past m (Asks event) (line, here_is, asked, may, numbered, is) stand words =
    answer_stands line past m.state event asked (subst (λ (p : Phase). KnowsWords p past m) here_is words).0 stand
step_goes here next past m (Refuses refusal) may stand words = (free_stand past _ tt, tt)
step_goes here next past m (Shows node) may stand words = (free_stand past _ tt, tt)
step_goes here next past m (Restarts state) may stand words = tt
step_goes here next past m (Begins_tick left) may stand words = tt
step_goes here next past m Numbers may stand words = (free_stand past _ tt, tt)
step_goes here next past m (Judges item rest behind told) may stand words =
    each-anywhere MayAnswer AnswersNone free_stand past told
    (told_are AnswersNone line_free note_free (outs m.state (Hears item)) told (event_notes m.state (Hears item)) may.1.told_so)
step_goes here next past m (Does event told) may stand words =
    each-anywhere MayAnswer AnswersNone free_stand past told (told_are AnswersNone line_free note_free (outs m.state event) told (event_notes m.state event) may.2)

pub answers_walk : WalkOver KnowsTables MayStand MayAnswer KnowsWords
answers_walk = record {
  step = λ here next past m one may tables stand words. (step_goes here next past m one may stand words, (words_walk.step here next past m one may words).1);
  turn = λ here next past m turns tables words. words_walk.turn here next past m turns words;
}
