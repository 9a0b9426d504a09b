-- At each step of a host alone its nonces count on, and what opens, opens for one with a number above.
use Rattle.std.proofs.Common.{◌≡◌, ◌⊎◌, ℕ, ◌≤◌, ◌<◌, not, Bool, true, false, if◌then◌else◌, inl, inr, List, [], ◌∷◌, ◌++◌, length, length-append, refl, sym, ap, ap₂, ◌∙◌, subst, append-nil, append_assoc, suc, arith}
use Rattle.std.specs.Prelude.{Option, Some, None}
use Rattle.std.specs.List.{AllByRecursion, flat_map}
use Rattle.std.proofs.lemmas.Bool.{and_right}
use Rattle.zw_base.proofs.Each.{all-weaker}
use Rattle.s0_crypto.specs.declared.key_pair.Keys.{Keys}
use Rattle.s0_session.specs.declared.account.Account.{Account}
use Rattle.s0_session.specs.Nonces.{given_of}
use Rattle.serial_frame.specs.Frame.{FrameParts}
use Rattle.serial_frame.specs.Items.{unit_text}
use Rattle.serial_frame.specs.declared.item.Item.{Item}
use Rattle.serial_frame.specs.declared.item.Item.TheVariants.{Good, Refused as refused_item}
use Rattle.serial_frame.specs.declared.unit.Unit.{Unit as LineUnit}
use Rattle.serial_frame.specs.declared.unit.Unit.TheVariants.{Ack, Nak, Can, Framed}
use Rattle.supervision.specs.Host.{open_session}
use Rattle.zw_words.specs.declared.side.Side.TheVariants.{Host}
use Rattle.zw_text.specs.declared.line.Line.{Line}
use Rattle.zw_text.specs.declared.entry.Entry.{Entry}
use Rattle.zw_text.specs.declared.entry.Entry.TheVariants as entry
use Rattle.zw_text.proofs.Views.{folded-append}
use Rattle.law_transcript.specs.Lists.{EachAfter, shown_after}
use Rattle.law_transcript.specs.Units.{Carried, bringing_in}
use Rattle.proof_notes.specs.law_time.Judged.{after_step, brought_here, is_following, judged, last_of}
use Rattle.host_heard.specs.Telling.{heard_at}
use Rattle.host_heard.specs.declared.payload.Heard.{Heard}
use Rattle.host_heard.specs.declared.payload.Heard.TheVariants.{Messages, Sealed, Unread}
use Rattle.host_requests.specs.Events.{RequestsEvent, task_begun}
use Rattle.host_requests.specs.Frames.{frame_of}
use Rattle.host_requests.specs.State.{next_id}
use Rattle.host_requests.specs.declared.task.Task.{Task}
use Rattle.host_requests.specs.declared.task.Purpose.{Purpose}
use Rattle.host_requests.specs.declared.task.Purpose.TheVariants.{Attempt, Abort}
use Rattle.host_model.specs.State.{HostState, first_host, node_of}
use Rattle.host_model.specs.Facts.{HostFacts}
use Rattle.host_model.specs.After.{after, task_purpose}
use Rattle.host_model.specs.May.{May}
use Rattle.host_model.specs.Outs.{answer_to, answers, outs}
use Rattle.host_model.specs.Pumping.{IsNext}
use Rattle.host_model.specs.Events.{HostEvent, Hears, Finishes, Hears_value, Has_no_room, Reports_old, Requests_do, Submits_abort, Submits_front, Starts, Gives_text, Gives_segment, Begins, Begin_unkept, IsOwn}
use Rattle.host_model.specs.Taking.{FrameEvents, told_if}
use Rattle.host_model.specs.declared.out.HostOut.TheVariants.{Write}
use Rattle.host_model.proofs.Own.{sleepers_own, submitted_own}
use Rattle.host_model.proofs.Submitted.{next_is, no_more_is}
use Rattle.proof_notes.proofs.SealedTexts.{TextsLeft}
use Rattle.proof_notes.specs.proof_attempts.Since.{WalkBoth}
use Rattle.proof_notes.specs.proof_attempts.proof_requests.Walking.{ReadsAs}
use Rattle.proof_notes.specs.proof_attempts.proof_requests.Asking.{doing_of}
use Rattle.proof_notes.proofs.proof_attempts_Walking.{is_fresh}
use Rattle.proof_notes.proofs.Queued.{PayloadsBring, served_is_node}
use Rattle.proof_notes.proofs.Queueing.{opened_asks}
use Rattle.proof_notes.proofs.Requested.{Unsubmitted}
use Rattle.proof_notes.proofs.Stepping.{IsSubmission, event_is_read, submissions}
use Rattle.proof_notes.proofs.Wrote.{Wrote, writes}
use Rattle.proof_notes.proofs.Wrote.Wrote.{Quietly, Again, Anew}
use Rattle.proof_notes.specs.proof_known.proof_alone.State.{HostMachine}
use Rattle.proof_notes.specs.proof_known.proof_alone.Steps.{AreTold, IsAskedBy, IsOfOthers, IsOfUnit, Step, Tells, Comes, Misses, Says, Says_nothing, Asks, Refuses, Shows, Restarts, Begins_tick, Numbers, Judges, Does, entries, happens}
use Rattle.proof_notes.specs.proof_known.proof_alone.Phases.{Phase, Resting, Asked, Risen, Ticking, Open, Behind, Sleeping, Submitting, IsJudgedNow, May as MayStep, Turns}
use Rattle.proof_notes.specs.proof_known.proof_alone.Tables.{TieTables}
use Rattle.proof_notes.specs.proof_known.proof_waking.Judged.{IsBehindFrame, IsOfRequest, KnowsJudged, TieFrames, frames_of}
use Rattle.proof_notes.specs.proof_attempts.proof_walk.ByLine.{IsAsked}
use Rattle.proof_notes.proofs.Apart.{acknowledged_frames}
use Rattle.proof_notes.proofs.Events.{answers_are}
use Rattle.proof_notes.proofs.Parts.{IsNoted, follow_told}
use Rattle.proof_notes.proofs.Settling.{behind_brought, may_come}
use Rattle.proof_notes.proofs.proof_alone_Apart.{missed_are}
use Rattle.proof_notes.proofs.InOrder.{is_asked}
use Rattle.proof_notes.proofs.Walking.{NotBehind, between_not}
use Rattle.proof_nonces.specs.Giving.{AllOpen, IsOpenedOnce, MayTell, Opened, OpensOnce, before_judged, reports_at}
use Rattle.proof_nonces.specs.Known.{AreOther, offered_by, offered_in}
use Rattle.proof_nonces.specs.Counted.{AtPhase, BehindSo, CountingGround, GivenSo, IsLast, KnowsNonces, LiveSo, NoncesSo, OpenedSo, TellsNothing, spent_by, spent_of}
use Rattle.proof_nonces.proofs.Accounts.{Grown, OneGiven, Redrawn, SameAccount, event_drawn, event_grown, restart_same, unused_all}
use Rattle.proof_nonces.proofs.Opening.{Grew, NoAck, NoTell, Stayed, Stays, before_acknowledged, before_on, bringing_short, brought_on, event_none, event_tells, frame_behind, line_none, mark_stays, no_more, none_brought, note_stays, opened_more, opened_on, quiet_behind, sealed_next, tells_none}
use Rattle.proof_nonces.proofs.Ordered.{has-last}
use Rattle.proof_nonces.proofs.Payloads.{open_other, start_is}
use Rattle.proof_nonces.proofs.Queued.{AddsOther, asked_adds, does_add}
use Rattle.proof_nonces.proofs.Reports.{either_unreported, event_offers, front_goes, goes_on, none_reported, other_unreported, reports_in, sealed_unreported, starts_again, task_reported, unit_reported, NotFront}
use Rattle.proof_nonces.proofs.Since.{IsWritten, NoRequest, answers_none, item_none, missed_none, others_none, quiets_none, written_so}
use Rattle.proof_nonces.proofs.Walking.{carried_by, sends_so, unit_of}

-- ---- phases

at_else : (here : Phase) (keys : Keys) (drawn : ℕ → ℕ → List ℕ) (openings : List Opened) (past : List Entry) (h : HostState) → NotBehind here → AtPhase here keys drawn openings past h
at_else (Behind left) keys drawn openings past h not = absurd not
at_else here keys drawn openings past h not = tt

not_so : (next phase : Phase) → next ≡ phase → NotBehind phase → NotBehind next
not_so next phase is not = subst NotBehind (sym is) not

-- ---- entries and events of which nothing is asked

others_tell : (e : Entry) → IsOfOthers e → NoTell e
others_tell (entry.Out command ended) of = absurd of
others_tell (entry.Report node setting) of = absurd of
others_tell (entry.Unstored node property) of = absurd of
others_tell (entry.Old node id) of = absurd of
others_tell e of = tt

item_tells : (h : HostState) (item : Item) (told : List Entry) → AreTold (answer_to item) told → AllByRecursion NoTell told
item_tells h item told are = event_none h (Hears item) told tt are

own_tells : (event : HostEvent) → IsOwn event → TellsNothing event
own_tells (Finishes n session id command status wake) own = absurd own
own_tells (Reports_old n id) own = absurd own
own_tells (Hears_value n setting) own = absurd own
own_tells (Has_no_room n property) own = absurd own
own_tells event own = tt

request_tells : (event : HostEvent) → IsOfRequest event → TellsNothing event
request_tells (Requests_do event moment) is = tt
request_tells event is = absurd is

unsubmitted_not : (event : HostEvent) → Unsubmitted event → NotFront event
unsubmitted_not Submits_front un = absurd un
unsubmitted_not event un = tt

asked_not : (line : Line) (h : HostState) (event : HostEvent) → IsAskedBy line h event → NotFront event
asked_not line h event is = by event (is_asked line h event is)
  where
    by : (e : HostEvent) → IsAsked e → NotFront e
    by Submits_front asked = absurd asked
    by e asked = tt

heard_if : (b : Bool) (event : RequestsEvent) (events : List HostEvent) → events ≡ told_if b event → AllByRecursion TellsNothing events
heard_if true event events is = subst (AllByRecursion TellsNothing) (sym is) (tt, tt)
heard_if false event events is = subst (AllByRecursion TellsNothing) (sym is) tt

no_events : (events : List HostEvent) → events ≡ [] → AllByRecursion TellsNothing events
no_events events is = subst (AllByRecursion TellsNothing) (sym is) tt

grown_itself : (nonces : List Account) (k : ℕ) → Grown nonces nonces k
grown_itself nonces k = record { given = omega arith; spent = omega arith }

module _ (keys : Keys) (brings : PayloadsBring) (left : TextsLeft) (one_given : OneGiven) where
  -- ---- a host that does nothing

  still : (here next : Phase) (past told : List Entry) (h : HostState) → AllByRecursion NoRequest told → AllByRecursion NoTell told
      → ((drawn : ℕ → ℕ → List ℕ) (openings : List Opened) → AtPhase next keys drawn openings (past ++ told) h) → NoncesSo keys here past h → NoncesSo keys next (past ++ told) h
  still here next past told h none quiet at known = record {
    drawn = known.drawn;
    seven = known.seven;
    live = known.live;
    gives = goes_on known.drawn known.drawn past told h.requests.queue h.requests.queue h.nonces h.nonces (λ node number low. refl) (λ k. omega arith) known.gives (none_reported past told none) known.live (inl refl);
    opens = opened_on keys known.drawn known.drawn here past told h h (λ node number low. refl) (grown_itself h.nonces) known.opens next
        (tells_none keys known.drawn known.opens.openings past told quiet) (at known.drawn known.opens.openings);
  }

  still_else : (here next : Phase) (past told : List Entry) (h : HostState) → AllByRecursion NoRequest told → AllByRecursion NoTell told → NotBehind next → NoncesSo keys here past h → NoncesSo keys next (past ++ told) h
  still_else here next past told h none quiet not known = still here next past told h none quiet (λ drawn openings. at_else next keys drawn openings (past ++ told) h not) known

  -- ---- an event

  module _ (here next : Phase) (past told : List Entry) (h : HostState) (event : HostEvent) (may : May h event) (known : NoncesSo keys here past h) (re : Redrawn known.drawn h.nonces (after h event).nonces) where
    abbrev GivenThen : Type 0
    GivenThen = GivenSo re.next (past ++ told) (after h event).requests.queue (after h event).nonces

    abbrev OpenedThen : Type 0
    OpenedThen = OpenedSo keys re.next next (past ++ told) (after h event)

    event_so : GivenThen → OpenedThen → NoncesSo keys next (past ++ told) (after h event)
    event_so gives opens = record { drawn = re.next; seven = re.seven; live = re.live; gives = gives; opens = opens }

    grown : (k : ℕ) → Grown h.nonces (after h event).nonces k
    grown k = event_grown left h event may k

    given_quiet : shown_after reports_at past told ≡ [] → NotFront event → AddsOther event → GivenThen
    given_quiet none not adds =
        goes_on known.drawn re.next past told h.requests.queue (after h event).requests.queue h.nonces (after h event).nonces re.agrees (λ k. (grown k).given) known.gives none re.live (event_offers h event not adds)

    given_front : (task : Task) → h.requests.queue ≡ task ∷ (after h event).requests.queue → shown_after reports_at past told ≡ offered_by task → GivenThen
    given_front task are reports =
        front_goes known.drawn re.next past told h.requests.queue (after h event).requests.queue h.nonces (after h event).nonces re.agrees (λ k. (grown k).given) known.gives task are reports

    opened_at : EachAfter (MayTell keys re.next known.opens.openings) past told → AtPhase next keys re.next known.opens.openings (past ++ told) (after h event) → OpenedThen
    opened_at tells at = opened_on keys known.drawn re.next here past told h (after h event) re.agrees grown known.opens next tells at

    opened_quiet : AllByRecursion NoTell told → AtPhase next keys re.next known.opens.openings (past ++ told) (after h event) → OpenedThen
    opened_quiet quiet at = opened_at (tells_none keys re.next known.opens.openings past told quiet) at

    opened_else : AllByRecursion NoTell told → NotBehind next → OpenedThen
    opened_else quiet not = opened_quiet quiet (at_else next keys re.next known.opens.openings (past ++ told) (after h event) not)

  -- ---- what is submitted

  module _ (here next : Phase) (past told : List Entry) (m : HostMachine) (ground : CountingGround keys Submitting past m) where
    facts : HostFacts m.state
    facts = ground.0.0.0.0.0.0.0.0.facts.host

    -- the reports that are sent with the frame of a purpose
    sends : (purpose : Purpose) (event : HostEvent) → IsNext m.state event → ReadsAs m.state purpose → AreTold (Write (Framed (frame_of purpose (next_id m.state.requests.last_id))) ∷ []) told
        → shown_after reports_at past told ≡ reports_in (carried_by purpose (next_id m.state.requests.last_id))
    sends purpose event next_so read are =
        let f : FrameParts = frame_of purpose (next_id m.state.requests.last_id) in
        unit_reported past told (unit_of m.state purpose) true (written_so f told are) (is_fresh past m.clock m.came (doing_of m.state) f next_so.0.free_line ground.0.0.1)
        ∙ ap reports_in (sends_so m.state purpose read)

    submits_given : (event : HostEvent) (may : May m.state event) (known : NoncesSo keys here past m.state) (re : Redrawn known.drawn m.state.nonces (after m.state event).nonces) → IsSubmission event → IsNext m.state event
        → AreTold (outs m.state event) told → GivenThen here next past told m.state event may known re
    submits_given Submits_abort may known re sub next_so are =
        given_quiet here next past told m.state Submits_abort may known re (sends Abort Submits_abort next_so (event_is_read brings m.state Submits_abort facts may ground.0.0.0.1.0) are) tt tt
    submits_given Submits_front may known re sub next_so are = by m.state.requests.queue refl
      where
        by : (queue : List Task) → m.state.requests.queue ≡ queue → GivenThen here next past told m.state Submits_front may known re
        by [] is = absurd (may.2 is)
        by (task ∷ rest) is =
            let later : (after m.state Submits_front).requests.queue ≡ rest = ap (λ (q : List Task). (task_begun m.state.requests q).queue) is in
            let purpose : Purpose = task_purpose m.state.requests.queue in
            let other : AreOther (task ∷ rest) = subst AreOther is ground.1.0 in
            given_front here next past told m.state Submits_front may known re task (is ∙ ap (λ (q : List Task). task ∷ q) (sym later))
            (sends purpose Submits_front next_so (event_is_read brings m.state Submits_front facts may ground.0.0.0.1.0) are
            ∙ ap (λ (q : List Task). reports_in (carried_by (task_purpose q) (next_id m.state.requests.last_id))) is ∙ task_reported task (next_id m.state.requests.last_id) other.0)
    submits_given (Starts n plan more payload) may known re sub next_so are =
        given_quiet here next past told m.state (Starts n plan more payload) may known re
        (sends (Attempt n more payload) (Starts n plan more payload) next_so (event_is_read brings m.state (Starts n plan more payload) facts may ground.0.0.0.1.0) are
        ∙ either_unreported n payload (start_is payload may.1.command may.1.session may.1.payload_is)) tt tt
    submits_given (Gives_text n payload) may known re sub next_so are =
        let so = (ground.1.1 n (served_is_node m.state n may.0.next)).text payload may.1 in
        given_quiet here next past told m.state (Gives_text n payload) may known re
        (sends (Attempt n false payload) (Gives_text n payload) next_so (event_is_read brings m.state (Gives_text n payload) facts may ground.0.0.0.1.0) are
        ∙ sealed_unreported n payload _ so.seals.layout) tt tt
    submits_given (Gives_segment n more payload) may known re sub next_so are =
        given_quiet here next past told m.state (Gives_segment n more payload) may known re
        (sends (Attempt n more payload) (Gives_segment n more payload) next_so (event_is_read brings m.state (Gives_segment n more payload) facts may ground.0.0.0.1.0) are
        ∙ other_unreported n payload (open_other m.state (node_of m.state n) (open_session (node_of m.state n).book) (node_of m.state n).next_segment payload may.2)) tt tt
    submits_given (Begins n session command) may known re sub next_so (rest, is, none) =
        given_quiet here next past told m.state (Begins n session command) may known re
        (none_reported past told (subst (AllByRecursion NoRequest) (sym is) (tt, subst (AllByRecursion NoRequest) (sym none) tt))) tt tt
    submits_given (Begin_unkept n) may known re sub next_so (rest, is, none) =
        given_quiet here next past told m.state (Begin_unkept n) may known re
        (none_reported past told (subst (AllByRecursion NoRequest) (sym is) (tt, subst (AllByRecursion NoRequest) (sym none) tt))) tt tt
    submits_given event may known re sub next_so are = absurd sub

  given_does : (here next : Phase) (past told : List Entry) (m : HostMachine) (event : HostEvent) (may : MayStep here m (Does event told) next) (ground : CountingGround keys here past m) (known : NoncesSo keys here past m.state)
      (re : Redrawn known.drawn m.state.nonces (after m.state event).nonces) → GivenThen here next past told m.state event may.1.0 known re
  given_does here next past told m event may ground known re = by (writes here next past told m event may ground.0.0.0 ground.0.0.1)
    where
      adds : AddsOther event
      adds = does_add here next past m event told may ground.0.0.0

      by : Wrote here past told m.state event → GivenThen here next past told m.state event may.1.0 known re
      by (Quietly un quiet) = given_quiet here next past told m.state event may.1.0 known re (none_reported past told (quiets_none told quiet)) (unsubmitted_not event un) adds
      by (Again f rest un are old quiet) =
          let written : IsWritten (unit_text (Framed f)) told = record { marks = rest; are = are; none = quiets_none rest quiet } in
          given_quiet here next past told m.state event may.1.0 known re (unit_reported past told (unit_text (Framed f)) false written old) (unsubmitted_not event un) adds
      by (Anew purpose f marks at free are new units now) =
          let goes = subst (λ (p : Phase). MayStep p m (Does event told) next) at may in
          submits_given here next past told m (subst (λ (p : Phase). CountingGround keys p past m) at ground) event may.1.0 known re (next_is IsSubmission submissions m.state event goes.0.0) goes.0.0 may.2

  -- ---- behind a frame

  module _ (past told : List Entry) (m : HostMachine) (event : HostEvent) (rest : List HostEvent) (may : May m.state event) (are : AreTold (outs m.state event) told) (same : m.state.keys ≡ keys)
      (known : NoncesSo keys (Behind (event ∷ rest)) past m.state) (re : Redrawn known.drawn m.state.nonces (after m.state event).nonces) where
    abbrev Then : Type 0
    Then = OpenedThen (Behind (event ∷ rest)) (Behind rest) past told m.state event may known re

    abbrev openings : List Opened
    openings = known.opens.openings

    abbrev Tells_so : Type 0
    Tells_so = EachAfter (MayTell keys re.next openings) past told

    abbrev At : List Opened → Type 0
    At later = AtPhase (Behind rest) keys re.next later (past ++ told) (after m.state event)

    opened_so : Tells_so → At openings → Then
    opened_so tells at = opened_at (Behind (event ∷ rest)) (Behind rest) past told m.state event may known re tells at

    -- the request under way hears of something
    request_opens : AllByRecursion IsOfRequest (event ∷ rest) → Then
    request_opens requests =
        opened_so (tells_none keys re.next openings past told (event_none m.state event told (request_tells event requests.0) are))
        (quiet_behind keys re.next openings (after m.state event) rest (past ++ told) (brought_here (past ++ told)) (all-weaker IsOfRequest TellsNothing request_tells rest requests.1))

    module _ (brought : brought_here (past ++ told) ≡ brought_here past) (before : before_judged (past ++ told) ≡ before_judged past) where
      none_opens : brought_here past ≡ [] → Then
      none_opens none =
          opened_so
          (event_tells keys re.next openings past m.state event told
          (subst (AllByRecursion (λ carried. OpensOnce keys re.next openings (before_judged past) carried (heard_at carried.payload))) (sym none) tt) are)
          (subst (AllByRecursion (λ carried. BehindSo keys re.next openings (after m.state event) rest (past ++ told) carried (heard_at carried.payload))) (sym (brought ∙ none)) tt)

      module _ (carried : Carried) (one : brought_here past ≡ carried ∷ []) where
        abbrev OpensAs : Heard → Type 0
        OpensAs heard = OpensOnce keys re.next openings (before_judged past) carried heard

        abbrev BehindAs : List Opened → Heard → Type 0
        BehindAs later heard = BehindSo keys re.next later (after m.state event) rest (past ++ told) carried heard

        -- it opened
        all_open : OpensAs (heard_at carried.payload) → AllOpen keys re.next openings past
        all_open opens = subst (AllByRecursion (λ each. OpensOnce keys re.next openings (before_judged past) each (heard_at each.payload))) (sym one) (opens, tt)

        at_one : (later : List Opened) → BehindAs later (heard_at carried.payload) → At later
        at_one later so = subst (AllByRecursion (λ each. BehindSo keys re.next later (after m.state event) rest (past ++ told) each (heard_at each.payload))) (sym (brought ∙ one)) (so, tt)

        openly : (heard : Heard) → heard_at carried.payload ≡ heard → OpensAs heard → BehindAs openings heard → Then
        openly heard is opens so =
            opened_so (event_tells keys re.next openings past m.state event told (all_open (subst OpensAs (sym is) opens)) are) (at_one openings (subst (BehindAs openings) (sym is) so))

        stayed_opens : heard_at carried.payload ≡ Sealed → Stayed keys re.next openings event rest (before_judged past) carried → Then
        stayed_opens is stayed = opened_so (tells stayed.here) (at_one openings (subst (BehindAs openings) (sym is) (later stayed.later)))
          where
            tells : TellsNothing event ⊎ IsOpenedOnce keys re.next openings (before_judged past) carried → Tells_so
            tells (inl quiet) = tells_none keys re.next openings past told (event_none m.state event told quiet are)
            tells (inr once) = event_tells keys re.next openings past m.state event told (all_open (subst OpensAs (sym is) once)) are

            later : IsOpenedOnce keys re.next openings (before_judged past) carried ⊎ AllByRecursion TellsNothing rest → BehindAs openings Sealed
            later (inl once) = inr (inl (subst (λ (b : List Entry). IsOpenedOnce keys re.next openings b carried) (sym before) once))
            later (inr quiet) = inr (inr quiet)

        grew_opens : heard_at carried.payload ≡ Sealed → Grew keys re.next openings event (after m.state event).nonces past carried → Then
        grew_opens is grew =
            let more : Opened = record { before = before_judged past; node = carried.node; number = grew.number } in
            let once : IsOpenedOnce keys re.next (openings ++ more ∷ []) (before_judged past) carried = record { number = grew.number; has = has-last openings more; opens = grew.opens } in
            opened_more keys known.drawn re.next (Behind (event ∷ rest)) past told m.state (after m.state event) re.agrees
            (grown (Behind (event ∷ rest)) (Behind rest) past told m.state event may known re) known.opens (Behind rest) more grew.last grew.shorter grew.spent
            (event_none m.state event told grew.quiet are)
            (at_one (openings ++ more ∷ [])
            (subst (BehindAs (openings ++ more ∷ [])) (sym is) (inr (inl (subst (λ (b : List Entry). IsOpenedOnce keys re.next (openings ++ more ∷ []) b carried) (sym before) once)))))

        one_opens : Then
        one_opens = by (heard_at carried.payload) refl was
          where
            was : BehindSo keys known.drawn openings m.state (event ∷ rest) past carried (heard_at carried.payload)
            was = (subst (AllByRecursion (λ each. BehindSo keys known.drawn openings m.state (event ∷ rest) past each (heard_at each.payload))) one known.opens.behind).0

            either : heard_at carried.payload ≡ Sealed
                → Stayed keys re.next openings event rest (before_judged past) carried ⊎ Grew keys re.next openings event (after m.state event).nonces past carried → Then
            either is (inl stayed) = stayed_opens is stayed
            either is (inr grew) = grew_opens is grew

            by : (heard : Heard) → heard_at carried.payload ≡ heard → BehindSo keys known.drawn openings m.state (event ∷ rest) past carried heard → Then
            by (Messages messages) is so = openly (Messages messages) is tt tt
            by Unread is so = openly Unread is tt tt
            by Sealed is so =
                either is
                (sealed_next keys known.drawn re.next openings m.state event rest past carried same known.live re.agrees known.opens.spent
                (no_more keys known.drawn re.next (Behind (event ∷ rest)) past told m.state (after m.state event) re.agrees (grown (Behind (event ∷ rest)) (Behind rest) past told m.state event may known re) known.opens) so)

    frame_opens : IsBehindFrame past m (event ∷ rest) → Then
    frame_opens behind =
        let unit : List ℕ = unit_text (Framed behind.frame.frame) in
        let noted = (follow_told unit m.state event told (may_come past rest event behind.frame) are).noted_are in
        let stays : AllByRecursion Stays told = all-weaker IsNoted Stays note_stays told noted in
        by unit (behind_brought past m (event ∷ rest) behind) (brought_on past told stays) (before_on past told (all-weaker Stays NoAck (λ e stay. stay.acks) told stays)) (bringing_short unit)
      where
        by : (unit : List ℕ) → brought_here past ≡ bringing_in unit → brought_here (past ++ told) ≡ brought_here past → before_judged (past ++ told) ≡ before_judged past
            → (bringing_in unit ≡ []) ⊎ ((one : Carried) × (bringing_in unit ≡ one ∷ [])) → Then
        by unit here_is brought before (inl none) = none_opens brought before (here_is ∙ none)
        by unit here_is brought before (inr (carried, is)) = one_opens brought before carried (here_is ∙ is)

    behind_opens : KnowsJudged (Behind (event ∷ rest)) past m → Then
    behind_opens (frames, inl behind) = frame_opens behind
    behind_opens (frames, inr (requests, settled)) = request_opens requests

  -- ---- an event at each phase

  does : (here next : Phase) (past told : List Entry) (m : HostMachine) (event : HostEvent) → MayStep here m (Does event told) next → CountingGround keys here past m → NoncesSo keys here past m.state
      → NoncesSo keys next (past ++ told) (after m.state event)
  does here next past told m event may ground known =
      let re = event_drawn left m.state event may.1.0 known.drawn known.seven known.live in
      event_so here next past told m.state event may.1.0 known re (given_does here next past told m event may ground known re) (opens here next may ground known re)
    where
      quiet : (here next phase : Phase) (may : MayStep here m (Does event told) next) (known : NoncesSo keys here past m.state) (re : Redrawn known.drawn m.state.nonces (after m.state event).nonces) → next ≡ phase → NotBehind phase → IsOwn event
          → OpenedThen here next past told m.state event may.1.0 known re
      quiet here next phase may known re is not own =
          opened_else here next past told m.state event may.1.0 known re (event_none m.state event told (own_tells event own) may.2) (not_so next phase is not)

      behind_so : (first : HostEvent) (rest : List HostEvent) (next : Phase) (may : MayStep (Behind (first ∷ rest)) m (Does event told) next) → event ≡ first → next ≡ Behind rest
          → CountingGround keys (Behind (first ∷ rest)) past m → (known : NoncesSo keys (Behind (first ∷ rest)) past m.state) (re : Redrawn known.drawn m.state.nonces (after m.state event).nonces)
          → OpenedThen (Behind (first ∷ rest)) next past told m.state event may.1.0 known re
      behind_so first rest next may is to_is ground known re =
          subst (λ (p : Phase). OpenedSo keys re.next p (past ++ told) (after m.state event)) (sym to_is)
          (of_first first is known re ground.0.0.0.0.0.1)
        where
          of_first : (first : HostEvent) → event ≡ first → (known : NoncesSo keys (Behind (first ∷ rest)) past m.state) (re : Redrawn known.drawn m.state.nonces (after m.state event).nonces)
              → KnowsJudged (Behind (first ∷ rest)) past m → OpenedSo keys re.next (Behind rest) (past ++ told) (after m.state event)
          of_first first is =
              subst (λ (e : HostEvent). (known : NoncesSo keys (Behind (e ∷ rest)) past m.state) (re : Redrawn known.drawn m.state.nonces (after m.state event).nonces) → KnowsJudged (Behind (e ∷ rest)) past m
              → OpenedSo keys re.next (Behind rest) (past ++ told) (after m.state event)) is
              (λ known re judged. behind_opens past told m event rest may.1.0 may.2 ground.0.1.1 known re judged)

      opens : (here next : Phase) (may : MayStep here m (Does event told) next) → CountingGround keys here past m → (known : NoncesSo keys here past m.state) (re : Redrawn known.drawn m.state.nonces (after m.state event).nonces)
          → OpenedThen here next past told m.state event may.1.0 known re
      opens (Ticking (first ∷ rest)) next may ground known re =
          quiet (Ticking (first ∷ rest)) next (Ticking rest) may known re may.0.1 tt (subst IsOwn (sym may.0.0) ground.0.0.0.0.0.1.0.0)
      opens (Behind (first ∷ rest)) next may ground known re = behind_so first rest next may may.0.0 may.0.1 ground known re
      opens Sleeping next may ground known re =
          let (node, wants, is, to_is) = may.0 in quiet Sleeping next Sleeping may known re to_is tt (subst IsOwn (sym is) (no_more_is IsOwn sleepers_own m.state node))
      opens Submitting next may ground known re = quiet Submitting next Submitting may known re may.0.1 tt (next_is IsOwn submitted_own m.state event may.0.0)
      opens (Ticking []) next may ground known re = absurd may.0
      opens (Behind []) next may ground known re = absurd may.0
      opens Resting next may ground known re = absurd may.0
      opens (Asked line) next may ground known re = absurd may.0
      opens Risen next may ground known re = absurd may.0
      opens Open next may ground known re = absurd may.0

  -- ---- an item

  module _ (past told : List Entry) (m : HostMachine) (item : Item) (drawn : ℕ → ℕ → List ℕ) (openings : List Opened) (early : AllByRecursion (λ one. length one.before < length past) openings) where
    abbrev h_then : HostState
    h_then = after m.state (Hears item)

    quiet_at : (behind : List HostEvent) → AllByRecursion TellsNothing behind → AtPhase (Behind behind) keys drawn openings (past ++ told) h_then
    quiet_at behind quiet = quiet_behind keys drawn openings h_then behind (past ++ told) (brought_here (past ++ told)) quiet

  frame_at : (past told : List Entry) (m : HostMachine) (f : FrameParts) (rest : List LineUnit) (behind : List HostEvent) (drawn : ℕ → ℕ → List ℕ) (openings : List Opened)
      → AllByRecursion (λ one. length one.before < length past) openings → m.came ≡ Framed f ∷ rest → FrameEvents (after m.state (Hears (Good (Framed f)))) f.kind f.func f.body behind
      → AreTold (answer_to (Good (Framed f))) told → TieFrames past m.came → AtPhase (Behind behind) keys drawn openings (past ++ told) (after m.state (Hears (Good (Framed f))))
  frame_at past told m f rest behind drawn openings early came followed (marks, others, is, units, none) tie =
      let h : HostState = after m.state (Hears (Good (Framed f))) in
      let ack : List ℕ = unit_text Ack in
      let unit : List ℕ = unit_text (Framed f) in
      let are : told ≡ entry.Written Host ack ∷ marks
      = is ∙ (ap (λ (l : List Entry). entry.Written Host ack ∷ (marks ++ l)) none ∙ ap (λ (l : List Entry). entry.Written Host ack ∷ l) (append-nil marks)) in
      let stays : AllByRecursion Stays marks = all-weaker IsOfUnit Stays mark_stays marks units in
      let acked = acknowledged_frames past m.came rest unit ack (ap frames_of came) refl tie in
      let on : is_following (past ++ entry.Written Host ack ∷ []) ≡ true = folded-append after_step false past (entry.Written Host ack ∷ []) in
      let first : brought_here (past ++ entry.Written Host ack ∷ []) ≡ bringing_in unit
      = ap (λ (b : Bool). flat_map bringing_in (if b then last_of (judged (past ++ entry.Written Host ack ∷ [])) else [])) on
      ∙ (ap (λ (l : List (List ℕ)). flat_map bringing_in l) acked.last ∙ append-nil (bringing_in unit)) in
      let brought : brought_here (past ++ told) ≡ bringing_in unit
      = ap (λ (l : List Entry). brought_here (past ++ l)) are ∙ ap brought_here (sym (append_assoc past (entry.Written Host ack ∷ []) marks))
      ∙ brought_on (past ++ entry.Written Host ack ∷ []) marks stays ∙ first in
      let before : before_judged (past ++ told) ≡ past
      = ap (λ (l : List Entry). before_judged (past ++ l)) are ∙ before_acknowledged past marks ack refl (all-weaker Stays NoAck (λ e stay. stay.acks) marks stays) in
      let long = length-append past told in
      let some : length told ≡ length (entry.Written Host ack ∷ marks) = ap length are in
      let one : length (entry.Written Host ack ∷ marks) ≡ suc (length marks) = refl in
      let same : length (before_judged (past ++ told)) ≡ length past = ap length before in
      subst (AllByRecursion (λ carried. BehindSo keys drawn openings h behind (past ++ told) carried (heard_at carried.payload))) (sym brought)
      (frame_behind keys drawn openings h f behind (past ++ told)
      (subst (λ (b : List Entry). AllByRecursion (λ one. length one.before < length b) openings) (sym before) early) (omega (arith, long, some, one, same)) followed)

  item_at : (past told : List Entry) (m : HostMachine) (item : Item) (rest : List LineUnit) (behind : List HostEvent) (drawn : ℕ → ℕ → List ℕ) (openings : List Opened)
      → AllByRecursion (λ one. length one.before < length past) openings → IsJudgedNow m item rest behind told → TieFrames past m.came
      → AtPhase (Behind behind) keys drawn openings (past ++ told) (after m.state (Hears item))
  item_at past told m (Good (Framed f)) rest behind drawn openings early now tie = frame_at past told m f rest behind drawn openings early now.takes now.followed now.told_so tie
  item_at past told m (Good Ack) rest behind drawn openings early now tie = quiet_at past told m (Good Ack) drawn openings early behind (heard_if _ _ behind now.followed)
  item_at past told m (Good Nak) rest behind drawn openings early now tie = quiet_at past told m (Good Nak) drawn openings early behind (heard_if _ _ behind now.followed)
  item_at past told m (Good Can) rest behind drawn openings early now tie = quiet_at past told m (Good Can) drawn openings early behind (heard_if _ _ behind now.followed)
  item_at past told m (refused_item refusal) rest behind drawn openings early now tie = quiet_at past told m (refused_item refusal) drawn openings early behind (no_events behind now.followed)

  judges : (here next : Phase) (past told : List Entry) (m : HostMachine) (item : Item) (rest : List LineUnit) (behind : List HostEvent) → MayStep here m (Judges item rest behind told) next → CountingGround keys here past m
      → NoncesSo keys here past m.state → NoncesSo keys next (past ++ told) (after m.state (Hears item))
  judges here next past told m item rest behind may ground known =
      let event : HostEvent = Hears item in
      let re = event_drawn left m.state event tt known.drawn known.seven known.live in
      let judged : KnowsJudged Open past m = subst (λ (p : Phase). KnowsJudged p past m) may.0 ground.0.0.0.0.0.1 in
      event_so here next past told m.state event tt known re
      (given_quiet here next past told m.state event tt known re (none_reported past told (item_none item told may.1.told_so)) tt tt)
      (opened_quiet here next past told m.state event tt known re (item_tells m.state item told may.1.told_so)
      (subst (λ (p : Phase). AtPhase p keys re.next known.opens.openings (past ++ told) (after m.state event)) (sym may.2)
      (item_at past told m item rest behind re.next known.opens.openings known.opens.early may.1 judged.frames)))

  -- ---- the number of a tick

  number_at : (here : Phase) (past : List Entry) (clock : ℕ) (h : HostState) (drawn : ℕ → ℕ → List ℕ) (openings : List Opened) → AtPhase here keys drawn openings (past ++ entry.Time clock ∷ []) h
  number_at (Behind rest) past clock h drawn opened =
      let off : is_following (past ++ entry.Time clock ∷ []) ≡ false = folded-append after_step false past (entry.Time clock ∷ []) ∙ and_right (is_following past) false refl in
      subst (AllByRecursion (λ carried. BehindSo keys drawn opened h rest (past ++ entry.Time clock ∷ []) carried (heard_at carried.payload))) (sym (none_brought (past ++ entry.Time clock ∷ []) off)) tt
  number_at here past clock h drawn opened = tt

  -- ---- a host that starts again

  restarts : (here next : Phase) (past : List Entry) (m : HostMachine) (state : HostState) → NotBehind next → TieTables past m.state m.records → TieTables (past ++ []) state m.records → offered_in state.requests.queue ≡ []
      → NoncesSo keys here past m.state → NoncesSo keys next (past ++ []) state
  restarts here next past m state not was now empty known = record {
    drawn = known.drawn;
    seven = known.seven;
    live = live;
    gives = starts_again known.drawn known.drawn past [] m.state.requests.queue state.requests.queue m.state.nonces state.nonces (λ node number low. refl) (λ k. no_less (same k)) known.gives refl empty;
    opens = opened_on keys known.drawn known.drawn here past [] m.state state (λ node number low. refl) grown_so known.opens next tt
        (at_else next keys known.drawn known.opens.openings (past ++ []) state not);
  }
    where
      same : (k : ℕ) → SameAccount m.state.nonces state.nonces k
      same k = restart_same one_given past (past ++ []) m.state state m.records was now k

      no_less : {k : ℕ} → SameAccount m.state.nonces state.nonces k → given_of m.state.nonces k ≤ given_of state.nonces k
      no_less account = let is = account.given in omega (arith, is)

      grown_so : (k : ℕ) → Grown m.state.nonces state.nonces k
      grown_so k =
          let given = (same k).given in
          let spent : spent_of state.nonces k ≡ spent_of m.state.nonces k = ap₂ (λ (l : Option (List ℕ)) (g : ℕ). spent_by l g) (same k).live given in
          record { given = omega (arith, given); spent = omega (arith, spent) }

      live : LiveSo known.drawn state.nonces
      live node nonce at = subst (λ (g : ℕ). IsLast known.drawn node nonce g) (sym (same node).given) (known.live node nonce (sym (same node).live ∙ at))

  -- ---- the walk

  step_goes : (here next : Phase) (past : List Entry) (m : HostMachine) (one : Step) → MayStep here m one next → CountingGround keys here past m → CountingGround keys next (past ++ entries m one) (happens m one)
      → NoncesSo keys here past m.state → NoncesSo keys next (past ++ entries m one) (happens m one).state
  step_goes here next past m (Tells e) may ground later known = still_else here next past (e ∷ []) m.state (others_none e may.1, tt) (others_tell e may.1, tt) (not_so next here may.3 (between_not here may.0)) known
  step_goes here next past m (Comes unit) may ground later known = still_else here next past (entries m (Comes unit)) m.state (tt, tt) (tt, tt) (not_so next here may.2 (between_not here may.0)) known
  step_goes here next past m (Misses text marks) may ground later known =
      still_else here next past (entries m (Misses text marks)) m.state (tt, missed_none marks may.1) (tt, missed_are NoTell line_none marks may.1) (not_so next here may.3 (between_not here may.0)) known
  step_goes here next past m (Says words line) may ground later known = still_else here next past (entry.Said words ∷ []) m.state (tt, tt) (tt, tt) (not_so next (Asked line) may.3 tt) known
  step_goes here next past m (Says_nothing words) may ground later known =
      still_else here next past (entry.Said words ∷ []) m.state (tt, tt) (tt, tt) (not_so next Resting (may.3 ∙ may.0) tt) known
  step_goes here next past m (Asks event) (line, here_is, is, may, numbered, to_is) ground later known =
      let told : List Entry = answers m.state event in
      let re = event_drawn left m.state event may.0 known.drawn known.seven known.live in
      event_so here next past told m.state event may.0 known re
      (given_quiet here next past told m.state event may.0 known re (none_reported past told (answers_none m.state event)) (asked_not line m.state event is) (asked_adds line m.state event is))
      (opened_else here next past told m.state event may.0 known re (answers_are NoTell (record { accepted = λ command node. tt; taken_back = λ command. tt }) m.state event) (not_so next Open to_is tt))
  step_goes here next past m (Refuses refusal) may ground later known = still_else here next past (entry.Refused refusal ∷ []) m.state (tt, tt) (tt, tt) (not_so next Open may.4 tt) known
  step_goes here next past m (Shows node) may ground later known = still_else here next past (entries m (Shows node)) m.state (tt, tt) (tt, tt) (not_so next Open may.2 tt) known
  step_goes here next past m (Restarts state) may ground later known =
      restarts here next past m state (not_so next Open may.2 tt) ground.0.0.0.0.0.0.0.0 later.0.0.0.0.0.0.0.0
      (ap (λ p. offered_in p.1.queue) (opened_asks m.keys m.records state ground.0.0.0.0.0.0.0.0.told may.1)) known
  step_goes here next past m (Begins_tick ticks) may ground later known = still_else here next past [] m.state tt tt (not_so next Risen may.2 tt) known
  step_goes here next past m Numbers may ground later known =
      still here next past (entry.Time m.clock ∷ []) m.state (tt, tt) (tt, tt)
      (λ drawn openings. subst (λ (p : Phase). AtPhase p keys drawn openings (past ++ entry.Time m.clock ∷ []) m.state) (sym may.1) (number_at here past m.clock m.state drawn openings)) known
  step_goes here next past m (Judges item rest behind told) may ground later known = judges here next past told m item rest behind may ground known
  step_goes here next past m (Does event told) may ground later known = does here next past told m event may ground known

  turned : (here next : Phase) (past : List Entry) (h : HostState) → NotBehind next → NoncesSo keys here past h → NoncesSo keys next past h
  turned here next past h not known =
      subst (λ (l : List Entry). NoncesSo keys next l h) (append-nil past) (still_else here next past [] h tt tt not known)

  turn_goes : (here next : Phase) (past : List Entry) (m : HostMachine) → Turns here m next → NoncesSo keys here past m.state → NoncesSo keys next past m.state
  turn_goes Resting next past m is known = turned Resting next past m.state (not_so next Open is tt) known
  turn_goes (Asked line) next past m (inl (nothing, is)) known = turned (Asked line) next past m.state (not_so next Open is tt) known
  turn_goes (Asked line) next past m (inr (ticks, line_is, is)) known = turned (Asked line) next past m.state (not_so next Resting is tt) known
  turn_goes Risen next past m is known = turned Risen next past m.state (not_so next (Ticking _) is tt) known
  turn_goes (Ticking []) next past m is known = turned (Ticking []) next past m.state (not_so next Open is tt) known
  turn_goes (Ticking (event ∷ rest)) next past m is known = absurd is
  turn_goes Open next past m is known = turned Open next past m.state (not_so next Sleeping is tt) known
  turn_goes (Behind []) next past m is known = turned (Behind []) next past m.state (not_so next Open is tt) known
  turn_goes (Behind (event ∷ rest)) next past m is known = absurd is
  turn_goes Sleeping next past m is known = turned Sleeping next past m.state (not_so next Submitting is.1 tt) known
  turn_goes Submitting next past m is known = turned Submitting next past m.state (not_so next Resting is.1 tt) known

  pub counting_walk : WalkBoth (CountingGround keys) (KnowsNonces keys)
  counting_walk = record {
    step = λ here next past m one may ground later known. step_goes here next past m one may ground later known;
    turn = λ here next past m turns ground known. turn_goes here next past m turns known;
  }

-- ---- at first

pub first_nonces : (keys own : Keys) → NoncesSo keys Resting [] (first_host own)
first_nonces keys own = record {
  drawn = λ node number. 0 ∷ 0 ∷ 0 ∷ 0 ∷ 0 ∷ 0 ∷ 0 ∷ [];
  seven = λ node number. refl;
  live = λ node nonce at. absurd (none_some nonce (sym (ap (λ (a : Account). a.live) (unused_all 233 node)) ∙ at));
  gives = record { offers = []; reports = refl; waiting = []; waits = refl; given = tt; in_order = tt; low = tt };
  opens = record { openings = []; apart = tt; early = tt; spent = tt; tells = tt; behind = tt };
}
  where
    none_some : (x : List ℕ) → ◌≡◌ {A = Option (List ℕ)} None (Some x) → ⊥
    none_some x e = cc
