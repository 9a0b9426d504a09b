-- A frame that brings no payload of a node is judged: what its acknowledgement makes of the course follows the host, once the event behind it is gone.
use Rattle.std.specs.Prelude.{◌≤◌, is_none}
use Rattle.std.specs.List.{AllByRecursion, flat_map}
use Rattle.std.proofs.Common.{◌≡◌, ℕ, ◌==◌, Bool, true, false, if◌then◌else◌, inl, inr, List, [], ◌∷◌, ◌++◌, Option, Some, None, refl, sym, ap, ◌∙◌, subst, append-nil, arith}
use Rattle.std.proofs.lemmas.Bool.{both_ways}
use Rattle.zw_base.proofs.Each.{all-weaker}
use Rattle.serial_frame.specs.Frame.{FrameParts}
use Rattle.serial_frame.specs.Items.{unit_text}
use Rattle.serial_frame.specs.declared.item.Item.TheVariants.{Good}
use Rattle.serial_frame.specs.declared.unit.Unit.{Unit as LineUnit}
use Rattle.serial_frame.specs.declared.unit.Unit.TheVariants.{Framed}
use Rattle.s0_crypto.specs.Sealing.{keys_of}
use Rattle.chip_functions.specs.Field.{IsNode}
use Rattle.chip_functions.specs.declared.notice.Update.{Update}
use Rattle.chip_functions.specs.declared.notice.Update.TheVariants.{Received}
use Rattle.chip_functions.specs.declared.request.Request.{Request}
use Rattle.zw_text.specs.declared.entry.Entry.{Entry}
use Rattle.zw_text.specs.declared.entry.Entry.TheVariants as entry
use Rattle.host_heard.specs.declared.told.Told.{Told}
use Rattle.law_transcript.specs.Lists.{EachAfter}
use Rattle.law_transcript.specs.Units.{Carried, bringing_in, request_in, sending_of}
use Rattle.law_time.specs.Ends.{is_called_back, is_ending_here}
use Rattle.law_time.specs.Heeds.{Heeds}
use Rattle.law_time.specs.Judged.{last_of}
use Rattle.law_time.specs.Moments.{clock}
use Rattle.law_time.specs.Requests.{Asked, asked}
use Rattle.law_time.specs.Interviews.{fails}
use Rattle.law_time.specs.Sessions.{last_command}
use Rattle.host_requests.specs.Events.{RequestsEvent, end_at, interviewed_by}
use Rattle.host_requests.specs.declared.end.How.{How}
use Rattle.host_requests.specs.declared.next.Next.{Next}
use Rattle.host_requests.specs.declared.next.Next.TheVariants.{Ends, GoesOn}
use Rattle.host_requests.specs.declared.task.Purpose.{Purpose}
use Rattle.host_requests.specs.declared.task.Purpose.TheVariants.{Attempt, Housekeeping}
use Rattle.host_requests.specs.declared.under_way.UnderWay.{UnderWay}
use Rattle.host_requests.specs.Events.RequestsEvent.{Updates}
use Rattle.host_requests.specs.Next.{at_update, end_from, end_of, next_from, went_on}
use Rattle.host_requests.specs.declared.end.End.{End}
use Rattle.host_requests.specs.declared.end.How.TheVariants.{AtUpdate}
use Rattle.host_requests.specs.declared.task.Task.TheVariants.{Second}
use Rattle.host_node.specs.State.{NodeState}
use Rattle.host_node.specs.Steps.{after_interview}
use Rattle.host_node.specs.declared.attempt.Moment.TheVariants.{BetweenTicks}
use Rattle.host_model.specs.State.{HostState, node_of}
use Rattle.host_model.specs.After.{after, requests_do}
use Rattle.host_model.specs.Events.{HostEvent, Hears, Interview_unkept, Interviews, Requests_do}
use Rattle.host_model.specs.Outs.{outs, noted, request_entries}
use Rattle.host_model.specs.Ends.{Bad, Good as part_good, end_entries, end_entries_if, part_end}
use Rattle.host_model.specs.Facts.{HostFacts}
use Rattle.host_model.specs.Taking.{told_requests}
use Rattle.proof_hearing.specs.proof_nonces.proof_attempts.Since.{AlongRuns, KnowsSince}
use Rattle.proof_hearing.proofs.proof_requests_Telling.{mark_quiet, quiet_goes}
use Rattle.proof_hearing.proofs.Doings.{node_after}
use Rattle.proof_hearing.proofs.ReadyTie.{facts_of}
use Rattle.proof_hearing.specs.Books.{BooksSo, nonces_to}
use Rattle.proof_hearing.specs.Hearing.{choosing}
use Rattle.proof_hearing.specs.proof_queue.proof_attempts.proof_requests.Asking.{doing_of, doing_from, doing_next}
use Rattle.proof_hearing.specs.proof_queue.proof_attempts.proof_requests.Ends.{EndsBy, EndsFrom, EndsHere, TellsEnd, next_at}
use Rattle.proof_hearing.specs.proof_queue.proof_attempts.proof_requests.Standing.{GoesOn as goes_with}
use Rattle.proof_hearing.specs.proof_queue.proof_attempts.proof_requests.Saying.{frame_next as host_next}
use Rattle.proof_hearing.specs.proof_queue.proof_attempts.proof_requests.law_host.Course.{Course, each_in_turn}
use Rattle.proof_hearing.specs.proof_queue.proof_attempts.proof_requests.law_host.Ends.{ends_by_frame, ends_badly}
use Rattle.proof_hearing.specs.proof_queue.proof_attempts.proof_requests.law_host.Following.{course_after, is_note}
use Rattle.proof_hearing.specs.proof_queue.proof_attempts.proof_requests.law_host.Heard.{heeds_alone}
use Rattle.proof_hearing.specs.proof_queue.proof_attempts.proof_requests.law_host.HostLegal.{IsHeeded}
use Rattle.proof_hearing.specs.proof_queue.proof_attempts.proof_requests.law_host.Nonces.{is_late}
use Rattle.proof_hearing.specs.proof_queue.proof_attempts.proof_requests.proof_alone.State.{HostMachine, done}
use Rattle.proof_hearing.specs.proof_queue.proof_attempts.proof_requests.proof_alone.Steps.{IsOfUnit, Judges}
use Rattle.proof_hearing.specs.proof_queue.proof_attempts.proof_requests.proof_alone.Phases.{Behind, IsJudgedNow, Open, Phase}
use Rattle.proof_hearing.specs.proof_queue.proof_attempts.proof_work.Doing.{IsTold}
use Rattle.proof_hearing.proofs.Alike.{same_alike, Alike}
use Rattle.proof_hearing.proofs.BooksGo.{books_on, KeepsOrders}
use Rattle.proof_hearing.proofs.proof_requests_Growing.{asked_on}
use Rattle.proof_hearing.proofs.Interviews.{interviews_may}
use Rattle.proof_hearing.specs.proof_choice.proof_following.Quiet.{acknowledges}
use Rattle.proof_hearing.specs.proof_choice.proof_following.Ended.{AreGone, EndingOf, IsByFrame, IsFrameEvent, noted_by, outcome_entries, sent_by}
use Rattle.proof_hearing.proofs.proof_ends_Walking.{ShowsOpen, Informs, TellsWalk, event_way, informs_so}
use Rattle.proof_hearing.proofs.Acks.{ack_after, frame_next_is, judges_request}
use Rattle.proof_hearing.proofs.Framing.{none_ends, informed_note, one_ends}
use Rattle.proof_hearing.proofs.Ending.{entries_are, frame_ends_it}
use Rattle.proof_hearing.proofs.Hearing.{entries_tell}
use Rattle.proof_hearing.proofs.HostEnds.{ending_of}
use Rattle.proof_hearing.proofs.Informing.{IsInterview, interview_follows, node_in}
use Rattle.proof_hearing.proofs.proof_ends_Noting.{badly}
use Rattle.proof_noting.specs.Behind.{AtOpen, OneLeft}
use Rattle.proof_noting.specs.Following.{CourseOf, Goes, Outset}
use Rattle.proof_noting.specs.Ground.{GroundAlong, NotingGround}
use Rattle.proof_noting.specs.Steps.{first_of}
use Rattle.proof_noting.specs.Sure.{SureRun, SureStep}
use Rattle.proof_noting.specs.Ticking.{OverSo}
use Rattle.proof_noting.proofs.Followed.{follows_by, over_on}
use Rattle.proof_noting.proofs.Choosing.{course_goes, goes_both, notes_goes}
use Rattle.proof_noting.proofs.Lately.{late_on}
use Rattle.proof_noting.proofs.JudgedFrame.{FrameSo, frame_so, goes_unended}
use Rattle.proof_noting.proofs.Marks.{marks_keep, marks_unrefused, units_go}
use Rattle.proof_noting.proofs.Surely.{sure_step}
use Rattle.proof_noting.proofs.AsksSealed.{AskSo, AsksAreSo}
use Rattle.proof_noting.proofs.EndLeaves.{queue_told}
use Rattle.proof_noting.proofs.EndCourse.{Badly, badly_goes, made_due, made_of, made_rest}
use Rattle.proof_noting.proofs.EndNotes.{at_does, at_ends, by_frame, frame_told, framed_is, good_called, outcome_well, quiet_books, request_notes}
use Rattle.proof_noting.proofs.EndedBooks.{bad_ended, kept_ended}
use Rattle.proof_noting.proofs.GoneSo.{are_gone, most, none_noted}
use Rattle.proof_noting.proofs.Sendings.{ToNodes, sending_nodes}

module _ (key : List ℕ) (taken : List Entry → Carried → List Told) (from : Outset) (shows : ShowsOpen) (ground : GroundAlong taken (first_of key)) (past : List Entry) (m : HostMachine)
    (f : FrameParts) (rest : List LineUnit)
    (behind : List HostEvent) (told marks : List Entry) (sure : SureRun taken (first_of key) Open past m) (well : SureStep taken sure.run (Judges (Good (Framed f)) rest behind told))
    (now : IsJudgedNow m (Good (Framed f)) rest behind told) (known : AtOpen key taken from past m) (are : told ≡ acknowledges ∷ marks) (marked : AllByRecursion IsOfUnit marks)
    (brings : bringing_in (unit_text (Framed f)) ≡ []) where
  abbrev heeds : Heeds
  heeds = heeds_alone taken

  abbrev later : List Entry
  later = past ++ acknowledges ∷ []

  abbrev whole : List Entry
  whole = past ++ acknowledges ∷ marks

  abbrev heard : HostState
  heard = after m.state (Hears (Good (Framed f)))

  abbrev next : HostMachine
  next = record (done m (Hears (Good (Framed f)))) { came = rest }

  abbrev c : Course
  c = known.course

  judged : FrameSo key taken past m f rest behind c
  judged = frame_so key taken from ground shows past m f rest behind told marks sure well now known are

  abbrev d : Course
  d = judged.level.0.next

  -- ---- what the frame makes of it

  record Made (notes : List Entry) : Type 0 where
    made : Course
    kept : List Bool
    goes : (keepings : List Bool) (texts : List (Option (List ℕ))) → ends_by_frame heeds later (record (choosing (kept ++ keepings) texts d) { put = 0 }) ≡ choosing keepings texts made
    due : made.due ≡ notes
    fits : made.fits ≡ true
    ticked : made.ticked ≡ m.clock
    heeded : AllByRecursion (IsHeeded taken) made.heeded

  module _ (notes : List Entry) (it : Made notes) where
    acked : (keepings : List Bool) (texts : List (Option (List ℕ))) → course_after heeds past (acknowledges ∷ []) (choosing (it.kept ++ keepings) texts c) ≡ choosing keepings texts it.made
    acked keepings texts =
        ack_after heeds past (unit_text (Framed f)) [] (choosing (it.kept ++ keepings) texts c) (choosing (it.kept ++ keepings) texts d) known.follows.fits (judged.level.0.goes (it.kept ++ keepings) texts)
        judged.level.0.none_due judged.level.0.fits (frame_next_is past f rest judged.frames)
        ∙ judges_request heeds past (unit_text (Framed f)) later (choosing (it.kept ++ keepings) texts d) brings
        ∙ it.goes keepings texts

    goes_made : Goes heeds past (acknowledges ∷ marks) c it.made
    goes_made =
        goes_both heeds past (acknowledges ∷ []) marks c it.made it.made (marks_unrefused marks marked) (record { kept = it.kept; opened = []; goes = acked })
        (units_go heeds later marks it.made marked)

    of_made : CourseOf heeds from whole it.made
    of_made = course_goes heeds from past (acknowledges ∷ marks) c it.made refl known.of goes_made

    -- with the event that is left
    one_left : (event : HostEvent) → outs next.state event ≡ noted notes → AllByRecursion (λ (e : Entry). is_note e ≡ true) notes
        → OverSo (whole ++ notes) (done next event) (record it.made { due = [] }) → BooksSo key heeds (whole ++ notes) (after next.state event) it.made → OneLeft key taken from whole next event
    one_left event outs_are all over books = record {
      course = it.made;
      of = of_made;
      fits = it.fits;
      told = notes;
      outs_are = outs_are;
      notes = all;
      next = record it.made { due = [] };
      goes = notes_goes heeds whole notes it.made all it.fits it.due;
      follows = follows_by key taken (whole ++ notes) (done next event) (record it.made { due = [] }) it.fits refl (no_more it.ticked) it.heeded judged.unnumbered over books;
      numbered = judged.unnumbered;
      answered = inr (it.ticked, judged.unnumbered);
      same = (refl, refl, refl, refl);
    }
      where
        no_more : it.made.ticked ≡ m.clock → it.made.ticked ≤ m.clock
        no_more is = omega (arith, is)

  -- ---- nothing comes of it

  asked_whole : (asked whole).frame ≡ (asked past).frame
  asked_whole = ap (λ (a : Asked). a.frame) (asked_on past (acknowledges ∷ marks) refl (refl, all-weaker IsOfUnit goes_with (λ e mark. quiet_goes e (mark_quiet e mark)) marks marked))

  none_made : (d.over ≡ false → is_ending_here later ≡ false) → Made []
  none_made none = record {
    made = record d { put = 0 };
    kept = [];
    goes = λ keepings texts. none_ends heeds later m.state 0 (record (choosing keepings texts d) { put = 0 }) none;
    due = judged.level.0.none_due;
    fits = judged.level.0.fits;
    ticked = judged.level.1;
    heeded = judged.heeded;
  }

  late_acked : (n : ℕ) → IsNode n → is_late heeds past n ≡ true → is_late heeds whole n ≡ true
  late_acked n is = late_on taken n past (acknowledges ∷ marks) (inl refl, marks_keep taken n later marks marked)

  -- no event follows it
  pub passes : ((u : UnderWay) → host_next m.state.requests.last_id m.state.requests.first f u ≡ GoesOn u.progress) → AtOpen key taken from whole next
  unfolding none_made
  passes goes_on = record {
    course = record d { put = 0 };
    of = of_made [] it;
    follows = follows_by key taken whole next (record d { put = 0 }) judged.level.0.fits judged.level.0.none_due (omega (arith, same)) judged.heeded judged.unnumbered (over_on past whole m m d d (ap request_in asked_whole) refl refl judged.over)
        (books_on key heeds past whole heard d.books d.offered d.opened d.sealed judged.heard_books heard refl (λ n. refl) (λ n is. same_alike (node_of heard n) (node_of heard n) refl)
        (λ number t found. found) late_acked);
    answered = inr (judged.level.1, judged.unnumbered);
  }
    where
      same : d.ticked ≡ m.clock
      same = judged.level.1

      it : Made []
      it = none_made (judged.unended (goes_unended past m f judged.ends goes_on))

  -- ---- the runs, with what became of the acknowledgement and without

  sure_whole : SureRun taken (first_of key) (Behind behind) whole next
  sure_whole =
      subst (λ (l : List Entry). SureRun taken (first_of key) (Behind behind) (past ++ l) next) are
      (sure_step taken (first_of key) {next = Behind behind} sure (Judges (Good (Framed f)) rest behind told) (refl, now, refl) well)

  abbrev begun : Course
  begun = record d { put = 0 }

  -- ---- the request under way hears of it

  module _ (tells : TellsWalk) (asking : AlongRuns (keys_of key) (KnowsSince AsksAreSo)) (event : RequestsEvent) (framed : IsFrameEvent event) (behind_is : behind ≡ told_requests event)
      (nexts : (u : UnderWay) → host_next m.state.requests.last_id m.state.requests.first f u ≡ next_at m.state.requests event u) where
    abbrev g : HostState
    g = requests_do heard event

    abbrev id : ℕ
    id = m.state.requests.last_id

    abbrev does_it : HostEvent
    does_it = Requests_do event BetweenTicks

    abbrev notes : List Entry
    notes = request_entries heard event

    abbrev here : Phase
    here = Behind (told_requests event)

    of_told : IsTold event
    of_told = frame_told event framed

    run_then : SureRun taken (first_of key) here later next
    run_then = subst (λ (l : List HostEvent). SureRun taken (first_of key) (Behind l) later next) behind_is judged.sure

    run_whole : SureRun taken (first_of key) here whole next
    run_whole = subst (λ (l : List HostEvent). SureRun taken (first_of key) (Behind l) whole next) behind_is sure_whole

    then_known : NotingGround taken here later next
    then_known = ground here later next run_then

    whole_known : NotingGround taken here whole next
    whole_known = ground here whole next run_whole

    facts : HostFacts heard
    facts = facts_of here later next then_known.grounds

    asks_so : (n : ℕ) → IsNode n → AskSo heard n
    asks_so n is = asking here later next run_then.run n is.0 is.1

    ends_so : (o : Option UnderWay) → EndsFrom later id (host_next id m.state.requests.first f) o → EndsFrom later id (next_at heard.requests event) o
    ends_so None it = it
    ends_so (Some u) it = subst (λ (n : Next). EndsBy later id u n) (nexts u) it

    ends_it : EndsFrom later id (next_at heard.requests event) heard.requests.under_way
    ends_it = ends_so heard.requests.under_way judged.ends

    way : (after heard does_it).requests.under_way ≡ (doing_from (doing_of heard) (next_at heard.requests event) heard.requests.under_way).under_way
    way = event_way heard event BetweenTicks (next_at heard.requests event) (at_does heard event of_told)

    abbrev Left : Type 0
    Left = OneLeft key taken from whole next does_it

    -- it does not end
    stays : end_at heard.requests event ≡ None → ((u : UnderWay) → m.state.requests.under_way ≡ Some u → is_ending_here later ≡ false)
        → ((l : List Entry) → (asked l).frame ≡ (asked past).frame → OverSo l (done next does_it) begun) → Left
    unfolding none_made
    stays none unended over =
        one_left [] (none_made (judged.unended unended)) does_it (ap (λ (o : Option End). noted (end_entries_if g o)) none) tt
        (over (whole ++ []) (ap (λ (l : List Entry). (asked l).frame) (append-nil whole) ∙ asked_whole))
        (quiet_books key heeds past (whole ++ []) heard event of_told none
        (λ n is late. ap (λ (l : List Entry). is_late heeds l n) (append-nil whole) ∙ late_acked n is late) begun judged.heard_books)

    -- it ends
    module _ (u : UnderWay) (under : m.state.requests.under_way ≡ Some u) (how : How) (same : next_at heard.requests event u ≡ Ends how) where
      abbrev sent : List Carried
      sent = sent_by u.purpose id

      abbrev outcome : List Entry
      outcome = outcome_entries g u.purpose how

      abbrev noting_it : Course
      noting_it = noted_by g u.purpose how begun

      e : end_at heard.requests event ≡ Some (record { purpose = u.purpose; how = how })
      e = at_ends heard event of_told ∙ ap (λ (o : Option UnderWay). end_from (next_at heard.requests event) o) under ∙ ap (λ (n : Next). end_of u n) same

      idle : (after heard does_it).requests.under_way ≡ None
      idle =
          way ∙ ap (λ (o : Option UnderWay). (doing_from (doing_of heard) (next_at heard.requests event) o).under_way) under
          ∙ ap (λ (n : Next). (doing_next (doing_of heard) u n).under_way) same

      here_ends : EndsHere later id u.purpose how
      here_ends = subst (λ (n : Next). EndsBy later id u n) same (subst (λ (o : Option UnderWay). EndsFrom later id (next_at heard.requests event) o) under ends_it)

      by_it : IsByFrame how
      by_it = by_frame heard event framed u how same

      of : EndingOf heeds later g id u.purpose
      of = ending_of shows heeds here later next then_known.grounds.sleep tt then_known.errands u under here_ends.carries g refl

      fails_so : (n : ℕ) → u.purpose ≡ Housekeeping (Second n) → fails n later ≡ true
      fails_so n is =
          interviews_may later (entry.InterviewFailed n)
          (subst (EachAfter TellsEnd later) (ap (end_entries_if g) e ∙ ap (λ (q : Purpose). end_entries g (record { purpose = q; how = how })) is)
          (entries_tell tells shows heeds later next event framed then_known.grounds.sleep)).0

      running : d.over ≡ false
      running = by judged.over
        where
          by : OverSo past m d → d.over ≡ false
          by (inl over) = over ∙ ap (λ (o : Option UnderWay). is_none o) under
          by (inr abort) = abort.0

      notes_are : notes ≡ most g u.purpose how ++ outcome
      notes_are = ap (end_entries_if g) e ∙ entries_are g u.purpose how

      noting_due : noting_it.due ≡ most g u.purpose how
      noting_due = ap (λ (l : List Entry). l ++ most g u.purpose how) judged.level.0.none_due

      gone : AreGone heeds (later ++ noting_it.due) (clock later) u.purpose id outcome
      gone =
          subst (λ (l : List Entry). AreGone heeds (later ++ l) (clock later) u.purpose id outcome) (sym noting_due)
          (are_gone key taken ground event of_told later next run_then judged.unnumbered u under how e of idle)

      bad : Badly heeds later (clock later) sent outcome noting_it
      bad = badly_goes heeds later (clock later) outcome noting_it sent gone

      none_sent : sent ≡ [] → outcome ≡ []
      none_sent = none_noted heeds (later ++ noting_it.due) (clock later) u.purpose id outcome gone

      goes_first : (keepings : List Bool) (texts : List (Option (List ℕ))) → ends_by_frame heeds later (choosing keepings texts begun)
          ≡ (if is_called_back 0 later then choosing keepings texts noting_it else each_in_turn (ends_badly heeds later (clock later)) sent (choosing keepings texts noting_it))
      goes_first keepings texts =
          one_ends heeds later g id (choosing keepings texts begun) running (frame_ends_it heeds later g id u.purpose how by_it here_ends)
          ∙ framed_is heeds later g id u.purpose how (clock later) (choosing keepings texts begun) by_it of here_ends fails_so

      nodes : ToNodes sent
      nodes = subst ToNodes (ap (λ (l : List Request). flat_map sending_of l) of.request) (sending_nodes (asked later).frame)

      abbrev BooksThen : Course → Type 0
      BooksThen x = BooksSo key heeds (whole ++ notes) (after heard does_it) x

      last_then : (n : ℕ) → last_command n whole ≡ last_of (node_of heard n).book.commands
      last_then n = (whole_known.grounds.shows n).last

      kept_then : outcome ≡ [] → ((n : ℕ) (more : Bool) (payload : List ℕ) → u.purpose ≡ Attempt n more payload → part_end more how ≡ Bad → (node_of heard n).pending ≡ None)
          → BooksThen noting_it
      kept_then none waits =
          kept_ended key taken past whole heard facts event of_told BetweenTicks u how under e asks_so id nodes here_ends.carries noting_it judged.heard_books late_acked last_then none waits

      -- where it was called back as delivered nothing has ended badly
      well_not : is_called_back 0 later ≡ true → (n : ℕ) (more : Bool) (payload : List ℕ) → u.purpose ≡ Attempt n more payload → part_end more how ≡ Bad → (node_of heard n).pending ≡ None
      well_not called n more payload is ends =
          absurd (both_ways (is_called_back 0 later) (badly later id n more payload how ends (subst (λ (q : Purpose). EndsHere later id q how) is here_ends)) called)

      -- and what is not, and is of an attempt, has not ended well
      not_good : is_called_back 0 later ≡ false → (n : ℕ) (more : Bool) (payload : List ℕ) → u.purpose ≡ Attempt n more payload → part_end more how ≡ part_good → ⊥
      not_good uncalled n more payload is good =
          both_ways (is_called_back 0 later) uncalled (good_called later id n more payload how good (subst (λ (q : Purpose). EndsHere later id q how) is here_ends))

      bad_then : is_called_back 0 later ≡ false → BooksThen (made_of sent bad.gone outcome noting_it)
      bad_then uncalled =
          bad_ended key taken past whole heard facts event of_told BetweenTicks u how under e asks_so id nodes here_ends.carries noting_it judged.heard_books late_acked last_then (not_good uncalled) bad.gone bad.none
          bad.some none_sent

      -- so it ends
      over_then_so : (made : Course) → made.over ≡ true → OverSo (whole ++ notes) (done next does_it) (record made { due = [] })
      over_then_so made is = inl (is ∙ sym (ap (λ (o : Option UnderWay). is_none o) idle))

      ended_left : Left
      ended_left = by (is_called_back 0 later) refl
        where
          by : (b : Bool) → is_called_back 0 later ≡ b → Left
          by true is =
              let none : outcome ≡ [] = outcome_well heeds later g id u.purpose how here_ends is in
              one_left notes
              (record {
                made = noting_it;
                kept = [];
                goes = λ keepings texts.
                    goes_first keepings texts ∙ ap (λ (x : Bool). if x then choosing keepings texts noting_it else each_in_turn (ends_badly heeds later (clock later)) sent (choosing keepings texts noting_it)) is;
                due = noting_due ∙ sym (notes_are ∙ ap (λ (l : List Entry). most g u.purpose how ++ l) none ∙ append-nil (most g u.purpose how));
                fits = judged.level.0.fits;
                ticked = judged.level.1;
                heeded = judged.heeded;
              }) does_it refl (request_notes heard event) (over_then_so noting_it refl) (kept_then none (well_not is))
          by false is =
              let made : Course = made_of sent bad.gone outcome noting_it in
              let stays_so = made_rest sent bad.gone outcome noting_it in
              one_left notes
              (record {
                made = made;
                kept = [];
                goes = λ keepings texts.
                    goes_first keepings texts ∙ ap (λ (x : Bool). if x then choosing keepings texts noting_it else each_in_turn (ends_badly heeds later (clock later)) sent (choosing keepings texts noting_it)) is
                    ∙ bad.goes keepings texts;
                due = made_due sent bad.gone outcome noting_it bad.none none_sent ∙ ap (λ (l : List Entry). l ++ outcome) noting_due ∙ sym notes_are;
                fits = ap (λ (x : Course). x.fits) stays_so.0 ∙ judged.level.0.fits;
                ticked = ap (λ (x : Course). x.ticked) stays_so.0 ∙ judged.level.1;
                heeded = subst (λ (x : Course). AllByRecursion (IsHeeded taken) x.heeded) (sym stays_so.0) judged.heeded;
              }) does_it refl (request_notes heard event) (over_then_so made stays_so.1) (bad_then is)

    pub hears : Left
    hears = by m.state.requests.under_way refl
      where
        none_way : m.state.requests.under_way ≡ None → end_at heard.requests event ≡ None
        none_way is = at_ends heard event of_told ∙ ap (λ (o : Option UnderWay). end_from (next_at heard.requests event) o) is

        by_next : (u : UnderWay) → m.state.requests.under_way ≡ Some u → (n : Next) → next_at heard.requests event u ≡ n → Left
        by_next u is (Ends how) same = ended_left u is how same
        by_next u is (GoesOn progress) same =
            stays (at_ends heard event of_told ∙ ap (λ (o : Option UnderWay). end_from (next_at heard.requests event) o) is ∙ ap (λ (n : Next). end_of u n) same)
            (λ v it. unended v (sym is ∙ it)) (λ l frame. over l judged.over)
          where
            unended : (v : UnderWay) → ◌≡◌ {A = Option UnderWay} (Some u) (Some v) → is_ending_here later ≡ false
            unended v both =
                subst (λ (n : Next). EndsBy later id u n) same (subst (λ (o : Option UnderWay). EndsFrom later id (next_at heard.requests event) o) is ends_it)

            over : (l : List Entry) → OverSo past m d → OverSo l (done next does_it) begun
            over l (inl level) =
                inl (level ∙ ap (λ (o : Option UnderWay). is_none o) is
                ∙ sym (ap (λ (o : Option UnderWay). is_none o)
                (way ∙ ap (λ (o : Option UnderWay). (doing_from (doing_of heard) (next_at heard.requests event) o).under_way) is ∙ ap (λ (n : Next). (doing_next (doing_of heard) u n).under_way) same)))
            over l (inr abort) = absurd (let no : ◌≡◌ {A = Option UnderWay} None (Some u) = sym abort.1 ∙ is in cc)

        by : (o : Option UnderWay) → m.state.requests.under_way ≡ o → Left
        by (Some u) is = by_next u is (next_at heard.requests event u) refl
        by None is =
            stays (none_way is) (λ v it. absurd (let no : ◌≡◌ {A = Option UnderWay} None (Some v) = sym is ∙ it in cc)) (λ l frame. over l frame judged.over)
          where
            still : (after heard does_it).requests.under_way ≡ None
            still = way ∙ ap (λ (o : Option UnderWay). (doing_from (doing_of heard) (next_at heard.requests event) o).under_way) is

            over : (l : List Entry) → (asked l).frame ≡ (asked past).frame → OverSo past m d → OverSo l (done next does_it) begun
            over l frame (inl level) = inl (level ∙ ap (λ (o : Option UnderWay). is_none o) is ∙ sym (ap (λ (o : Option UnderWay). is_none o) still))
            over l frame (inr (running, idle, (id_is, request))) = inr (running, still, (id_is, ap request_in frame ∙ request))

  -- ---- an interview ends well, and that is kept or not

  module _ (n basic generic specific : ℕ) (classes : List ℕ) (capability : ℕ) (brought : interviewed_by m.state.requests (Received n basic generic specific classes) ≡ Some capability) where
    abbrev update : Update
    update = Received n basic generic specific classes

    one : Informs m.state.requests.under_way m.state.requests.first update capability
    one = informs_so m.state.requests.under_way m.state.requests.first n basic generic specific classes capability brought

    informed_idle : (requests_do heard (Updates update)).requests.under_way ≡ None
    informed_idle =
        ap (λ (o : Option UnderWay). (next_from m.state.requests (at_update m.state.requests.first update) o).under_way) one.under_way
        ∙ ap (λ (b : Bool). (went_on m.state.requests one.u (if b then Ends (AtUpdate update m.state.requests.first) else GoesOn one.u.progress)).under_way) one.ends

    was_running : d.over ≡ false
    was_running = by judged.over
      where
        by : OverSo past m d → d.over ≡ false
        by (inl over) = over ∙ ap (λ (o : Option UnderWay). is_none o) one.under_way
        by (inr abort) = abort.0

    module _ (kept : Bool) (event : HostEvent) (interview : IsInterview (event ∷ [])) (behind_is : behind ≡ event ∷ []) where
      abbrev note : Entry
      note = informed_note (node_in (event ∷ [])) kept

      abbrev ending : Course
      ending = record begun { over = true; due = d.due ++ note ∷ [] }

      run_told : SureRun taken (first_of key) (Behind (event ∷ [])) later next
      run_told = subst (λ (l : List HostEvent). SureRun taken (first_of key) (Behind l) later next) behind_is judged.sure

      told_known : NotingGround taken (Behind (event ∷ [])) later next
      told_known = ground (Behind (event ∷ [])) later next run_told

      made_it : Made (note ∷ [])
      made_it = record {
        made = ending;
        kept = kept ∷ [];
        goes = λ keepings texts.
            interview_follows later next (event ∷ []) interview shows heeds told_known.grounds.sleep told_known.errands kept keepings (choosing (kept ∷ keepings) texts begun) was_running refl;
        due = ap (λ (l : List Entry). l ++ note ∷ []) judged.level.0.none_due;
        fits = judged.level.0.fits;
        ticked = judged.level.1;
        heeded = judged.heeded;
      }

      notes_it : (k : ℕ) (b : Bool) → is_note (informed_note k b) ≡ true
      notes_it k true = refl
      notes_it k false = refl

      late_noted : (k : ℕ) → IsNode k → is_late heeds past k ≡ true → is_late heeds (whole ++ note ∷ []) k ≡ true
      late_noted k is late = by kept (late_acked k is late)
        where
          by : (b : Bool) → is_late heeds whole k ≡ true → is_late heeds (whole ++ informed_note (node_in (event ∷ [])) b ∷ []) k ≡ true
          by true late = late_on taken k whole (entry.Interviewed (node_in (event ∷ [])) ∷ []) (tt, tt) late
          by false late = late_on taken k whole (entry.Unkept (node_in (event ∷ [])) ∷ []) (tt, tt) late

      informs : outs heard event ≡ noted (note ∷ []) → (after heard event).requests.under_way ≡ None → (after heard event).nonces ≡ heard.nonces
          → (after heard event).requests.queue ≡ heard.requests.queue → ((k : ℕ) → IsNode k → Alike (node_of heard k) (node_of (after heard event) k)) → KeepsOrders heard (after heard event)
          → OneLeft key taken from whole next event
      unfolding made_it
      informs outs_are idle nonces queue alike orders =
          one_left (note ∷ []) made_it event outs_are (notes_it (node_in (event ∷ [])) kept, tt) (inl (ap (λ (o : Option UnderWay). is_none o) (sym idle)))
          (books_on key heeds past (whole ++ note ∷ []) heard d.books d.offered d.opened d.sealed judged.heard_books (after heard event) nonces (λ k. ap (nonces_to k) queue) alike orders late_noted)

    pub interviewed : (listens : Bool) → behind ≡ Interviews n listens classes update ∷ [] → OneLeft key taken from whole next (Interviews n listens classes update)
    interviewed listens these =
        informs true (Interviews n listens classes update) tt these refl informed_idle refl (queue_told heard (Updates update) tt) (λ k is. alike k is) (λ number t found. found)
      where
        facts : HostFacts heard
        facts = facts_of (Behind behind) later next (ground (Behind behind) later next judged.sure).grounds

        alike : (k : ℕ) → IsNode k → Alike (node_of heard k) (node_of (after heard (Interviews n listens classes update)) k)
        alike k is =
            let to = is.1 in
            let places = facts.nodes.places in
            subst (λ (s : NodeState). Alike (node_of heard k) s) (sym (node_after heard (Interviews n listens classes update) k (omega (arith, to, places)))) (by (n == k))
          where
            by : (b : Bool) → Alike (node_of heard k) (if b then after_interview (node_of heard k) listens classes else node_of heard k)
            by true = record { seen = refl; text = refl; pending = refl; opened = refl; commands = refl }
            by false = record { seen = refl; text = refl; pending = refl; opened = refl; commands = refl }

    pub interview_unkept : behind ≡ Interview_unkept n update ∷ [] → OneLeft key taken from whole next (Interview_unkept n update)
    interview_unkept these =
        informs false (Interview_unkept n update) tt these refl informed_idle refl (queue_told heard (Updates update) tt)
        (λ k is. record { seen = refl; text = refl; pending = refl; opened = refl; commands = refl }) (λ number t found. found)
