-- What is known of what waits goes on with each event of the host's own part of a tick: none of them asks for anything, and none is looked at.
use Rattle.std.proofs.Common.{◌≡◌, ◌≤◌, ℕ, ◌+◌, ◌&&◌, ◌||◌, not, Bool, true, false, inl, inr, List, [], ◌∷◌, ◌++◌, refl, sym, ap, ◌∙◌, subst, append-nil, append_assoc}
use Rattle.std.specs.List.{AllByRecursion}
use Rattle.serial_frame.specs.Frame.{FrameParts}
use Rattle.serial_frame.specs.Items.{unit_text}
use Rattle.serial_frame.specs.declared.unit.Unit.TheVariants.{Framed}
use Rattle.zw_words.specs.declared.side.Side.TheVariants.{Host, Chip}
use Rattle.zw_text.specs.declared.entry.Entry.{Entry}
use Rattle.zw_text.specs.declared.entry.Entry.TheVariants as entry
use Rattle.zw_text.specs.Transcript.{wakings}
use Rattle.host_heard.specs.declared.told.Told.{Told}
use Rattle.law_transcript.specs.Units.{Carried}
use Rattle.law_time.specs.Ends.{is_abort_frame, owes_abort as law_owes_abort}
use Rattle.law_time.specs.Moments.{clock}
use Rattle.law_time.specs.Requests.{are_none, asked, is_new}
use Rattle.law_time.specs.Queue.{Queue, queue_before}
use Rattle.host_requests.specs.Events.RequestsEvent.{Ticks as request_ticks}
use Rattle.host_requests.specs.declared.task.Task.{Task}
use Rattle.host_node.specs.declared.attempt.Moment.TheVariants.{BeforeItsTick}
use Rattle.host_model.specs.After.{after}
use Rattle.host_model.specs.Events.{HostEvent, Line_ticks, Node_ticks, Requests_do}
use Rattle.host_model.specs.Outs.{outs}
use Rattle.proof_attempts.specs.proof_work.Work.{HostWork}
use Rattle.proof_attempts.specs.proof_requests.law_host.Heard.{heeds_alone}
use Rattle.proof_attempts.specs.proof_requests.proof_alone.State.{HostMachine, done}
use Rattle.proof_attempts.specs.proof_requests.proof_alone.Steps.{AreTold}
use Rattle.proof_attempts.specs.proof_requests.proof_alone.Phases.{Ticking, Submitting, IsNumbered}
use Rattle.proof_attempts.specs.proof_requests.proof_alone.Careful.{Stage, Fresh}
use Rattle.proof_attempts.specs.proof_requests.Walking.{IsNodeTick, KnowsTick}
use Rattle.proof_attempts.proofs.Stepping.{first_same}
use Rattle.proof_attempts.proofs.Wrote.{Wrote}
use Rattle.proof_attempts.proofs.Wrote.Wrote.{Quietly, Again, Anew}
use Rattle.proof_attempts.proofs.proof_requests_Telling.{IsQuiet}
use Rattle.proof_known.proofs.Events.{outs_told}
use Rattle.proof_known.proofs.proof_alone_Apart.{AreOfLine}
use Rattle.proof_known.proofs.proof_device_HostOuts.{OwnIs, SharedAre, outs_are}
use Rattle.proof_queue.specs.Turn.{may_ask, may_go}
use Rattle.proof_queue.proofs.Dropping.{IsNoPump, event_drops}
use Rattle.proof_queue.proofs.Frames.{copy_before, frame_raw}
use Rattle.proof_queue.proofs.Knowing.{Know, RawM, Rises}
use Rattle.proof_queue.proofs.Loose.{and_true}
use Rattle.proof_queue.proofs.Sleeps.{Stands, drops_of}
use Rattle.proof_queue.proofs.Stills.{IsStill, IsTick, tick_put, tick_still}
use Rattle.proof_queue.proofs.Ties.{Raw, Stand, Stays, Upto, raw, raw_stays, same_drops, seen, stays_fit}
use Rattle.proof_queue.proofs.Undropped.{Undropped, told_undropped}

-- ---- what is entered

-- no number of a tick
abbrev Timeless : Entry → Type 0
Timeless (entry.Time tick) = ⊥
Timeless e = Unit {0}

line_timeless : AreOfLine Timeless
line_timeless = record { written = λ side text. tt; dropped = λ side. tt; garbled = λ side text. tt; overrun = λ side. tt }

shared_timeless : SharedAre Timeless
shared_timeless = record {
  unanswered = λ command. tt;
  asleep = λ n. tt;
  done = λ n how. tt;
  uninterviewed = λ n. tt;
  neighbours = λ n nodes. tt;
  failed = λ n is_failed. tt;
  stored = λ n setting. tt;
  held = λ n. tt;
  full = λ n. tt;
}

own_timeless : (event : HostEvent) → IsTick event → OwnIs Timeless event
own_timeless Line_ticks is = tt
own_timeless (Requests_do event moment) is = tt
own_timeless (Node_ticks n) is = tt
own_timeless event is = absurd is

tick_no_pump : (event : HostEvent) → IsTick event → IsNoPump event
tick_no_pump Line_ticks is = tt
tick_no_pump (Requests_do event moment) is = tt
tick_no_pump (Node_ticks n) is = tt
tick_no_pump event is = absurd is

quiet_stays : (e : Entry) → IsQuiet e → Undropped e → Timeless e → Stays e
quiet_stays (entry.Said words) quiet none timeless = absurd quiet
quiet_stays (entry.Refused refusal) quiet none timeless = absurd quiet
quiet_stays (entry.QueueFull n) quiet none timeless = absurd none
quiet_stays (entry.Begin node session command) quiet none timeless = absurd none
quiet_stays (entry.Time tick) quiet none timeless = absurd timeless
quiet_stays (entry.Written Host unit) quiet none timeless = quiet
quiet_stays (entry.Written Chip unit) quiet none timeless = tt
quiet_stays e quiet none timeless = tt

all_stay : (told : List Entry) → AllByRecursion IsQuiet told → AllByRecursion Undropped told → AllByRecursion Timeless told → AllByRecursion Stays told
all_stay [] quiet none timeless = tt
all_stay (e ∷ told) quiet none timeless = (quiet_stays e quiet.0 none.0 timeless.0, all_stay told quiet.1 none.1 timeless.1)

-- of a tick
pub ticks_are : (first : HostEvent) (left : List HostEvent) (past : List Entry) (m : HostMachine) → KnowsTick (first ∷ left) past m → IsTick first
ticks_are first left past m (inl (nodes, are, all, known)) = subst IsTick (sym (first_same first Line_ticks left (Requests_do request_ticks BeforeItsTick ∷ nodes) are)) tt
ticks_are first left past m (inr (inl (nodes, are, all, known))) = subst IsTick (sym (first_same first (Requests_do request_ticks BeforeItsTick) left nodes are)) tt
ticks_are first left past m (inr (inr (all, known))) = node_tick first all.0
  where
    node_tick : (event : HostEvent) → IsNodeTick event → IsTick event
    node_tick (Node_ticks n) is = tt
    node_tick event is = absurd is

module _ (taken : List Entry → Carried → List Told) where
  -- another copy is no new request
  no_new : (past : List Entry) (unit : List ℕ) → is_new (asked past) unit ≡ false → may_go (heeds_alone taken) past (entry.Written Host unit) ≡ true
  no_new past unit old =
      ap (λ (b : Bool). not b || may_ask (law_owes_abort (asked past) (clock past)) unit (queue_before (heeds_alone taken) past (entry.Written Host unit)).wants) old

  module _ (first : HostEvent) (left : List HostEvent) (past : List Entry) (m : HostMachine) (event : HostEvent) (told : List Entry) (tick : IsTick event) (is : AreTold (outs m.state event) told)
      (numbered : IsNumbered m told) (wrote : Wrote (Ticking (first ∷ left)) past told m.state event) (work : HostWork m.state) where
    still : IsStill m.state event
    still = tick_still m.state event tick

    undropped : AllByRecursion Undropped told
    undropped = told_undropped (outs m.state event) told (tick_put m.state event tick) is

    timeless : AllByRecursion Timeless told
    timeless = outs_told Timeless line_timeless (outs m.state event) told (outs_are Timeless shared_timeless m.state event (own_timeless event tick)) is

    drops_on : (n : ℕ) → 1 ≤ n → n ≤ 232 → (drops_of m.state n && are_none (wakings n told)) ≡ drops_of (after m.state event) n
    drops_on n from to = sym (event_drops m.state event told work (tick_no_pump event tick) is n from to)

    abbrev RawAfter : List Entry → (ℕ → Bool) → Type 0
    RawAfter all drops = Raw taken all m.state.requests.queue [] drops

    -- the frame of the last request once more, and then quiet entries
    again : (f : FrameParts) (rest : List Entry) → told ≡ entry.Written Host (unit_text (Framed f)) ∷ rest → is_new (asked past) (unit_text (Framed f)) ≡ false → AllByRecursion IsQuiet rest
        → RawAfter past (drops_of m.state) → Stand taken past told × RawAfter (past ++ told) (λ n. drops_of m.state n && are_none (wakings n told))
    again f rest are old quiet ties =
        let frame : Entry = entry.Written Host (unit_text (Framed f)) in
        let queue : List Task = m.state.requests.queue in
        let one = frame_raw taken past f false (is_abort_frame (unit_text (Framed f))) queue (drops_of m.state) old refl ties.answered (no_new past (unit_text (Framed f)) old)
        (subst (λ (q : Queue). Stands q queue [] (drops_of m.state)) (sym (copy_before taken past f old)) ties.stands) in
        let stays : AllByRecursion Stays rest = all_stay rest quiet (subst (AllByRecursion Undropped) are undropped).1 (subst (AllByRecursion Timeless) are timeless).1 in
        subst (λ (l : List Entry). Stand taken past l × RawAfter (past ++ l) (λ n. drops_of m.state n && are_none (wakings n l))) (sym are) (
          (one.0, stays_fit taken (past ++ frame ∷ []) rest stays one.1.answered one.1.stands.owed_are),
          subst (λ (l : List Entry). RawAfter l (λ n. drops_of m.state n && are_none (wakings n rest))) (append_assoc past (frame ∷ []) rest)
              (raw_stays taken (past ++ frame ∷ []) rest queue [] (drops_of m.state) stays one.1),
        )

    tick_raw : RawM taken past m → Stand taken past told × RawM taken (past ++ told) (done m event)
    tick_raw (now, ties) =
        let goes = by wrote in (
          goes.0,
          (
            now,
            subst (λ (q : List Task). Raw taken (past ++ told) q [] (drops_of (after m.state event))) (sym still.queue)
                (record {
                  stands = same_drops (raw taken (past ++ told)) m.state.requests.queue [] (λ n. drops_of m.state n && are_none (wakings n told)) (drops_of (after m.state event)) drops_on goes.1.stands;
                  answered = goes.1.answered;
                }),
          ),
        )
      where
        by : Wrote (Ticking (first ∷ left)) past told m.state event → Stand taken past told × RawAfter (past ++ told) (λ n. drops_of m.state n && are_none (wakings n told))
        by (Quietly un quiet) =
            let stays : AllByRecursion Stays told = all_stay told quiet undropped timeless in
            (stays_fit taken past told stays ties.answered ties.stands.owed_are, raw_stays taken past told m.state.requests.queue [] (drops_of m.state) stays ties)
        by (Again f rest un are old quiet) = again f rest are old quiet ties
        by (Anew purpose f marks here free are fresh all under_way) = absurd (let bad : Ticking (first ∷ left) ≡ Submitting = here in cc)

    -- while the number of the tick is still to be entered nothing is told
    tick_rises : Rises taken past m → Stand taken past told × Rises taken (past ++ told) (done m event)
    tick_rises (awaits, (before, next, ties)) =
        let none : told ≡ [] = numbered awaits in (
          subst (λ (l : List Entry). Stand taken past l) (sym none) tt,
          (
            awaits,
            (
              before,
              next,
              subst (λ (l : List Entry). Upto taken before l (after m.state event).requests.queue [] (drops_of (after m.state event))) (sym (ap (λ (l : List Entry). past ++ l) none ∙ append-nil past))
                  (subst (λ (q : List Task). Upto taken before past q [] (drops_of (after m.state event))) (sym still.queue)
                  (record {
                    stands = same_drops (seen taken before past) m.state.requests.queue [] (drops_of m.state) (drops_of (after m.state event))
                        (λ n from to. and_true (drops_of m.state n) ∙ sym (ap (λ (l : List Entry). drops_of m.state n && are_none (wakings n l)) none) ∙ drops_on n from to) ties.stands;
                    answered = ties.answered;
                  })),
            ),
          ),
        )

    pub ticks : (stage : Stage) → Know taken (Ticking (first ∷ left)) stage past m → Stand taken past told × Know taken (Ticking left) stage (past ++ told) (done m event)
    ticks Fresh (inl raw_so) = let goes = tick_raw raw_so in (goes.0, inl goes.1)
    ticks Fresh (inr rises) = let goes = tick_rises rises in (goes.0, inr goes.1)
    ticks stage known = absurd known
