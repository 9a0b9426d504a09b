-- What a message of a payload makes of the course, where an event of the host follows it: the event has noted what the course notes, and the books go together.
use Rattle.std.proofs.Common.{◌≡◌, ◌⊎◌, ◌<◌, ◌≤◌, ℕ, ◌+◌, ◌-◌, ◌%◌, ◌==◌, ◌&&◌, not, nat_lt, Bool, true, false, if◌then◌else◌, inl, inr, List, [], ◌∷◌, ◌++◌, length, refl, sym, ap, ap₂, ◌∙◌, subst, append-nil, length-append, arith}
use Rattle.std.specs.Prelude.{Option, Some, None, is_some, nat_le, slice_index}
use Rattle.std.specs.List.{AllByRecursion, flat_map}
use Rattle.std.specs.Set.{distinct_count}
use Rattle.std.proofs.lemmas.Bool.{cases_Bool, cases_eq, false_from_ne_true, le-leb, lt-leb, lt-ltb, ltb-false, ltb-true, ne_eqb}
use Rattle.std.proofs.lemmas.List.{get_or-set_same}
use Rattle.zw_base.specs.PropertyOrder.{same_property}
use Rattle.zw_base.specs.declared.property.Setting.{Setting}
use Rattle.chip_functions.specs.Field.{IsNode}
use Rattle.class_info.specs.Values.{status_byte}
use Rattle.class_info.specs.declared.report_status.ReportStatus.{ReportStatus}
use Rattle.class_info.specs.declared.report_status.ReportStatus.TheVariants as statuses
use Rattle.supervision.specs.Host.{open_session, told_of}
use Rattle.supervision.specs.declared.session.TheConstants.{WORKING}
use Rattle.supervision.specs.declared.host_node.Told.{Told as TheTold}
use Rattle.supervision.specs.declared.host_node.Told.TheVariants as booked
use Rattle.s0_crypto.specs.Seal.{Seals}
use Rattle.s0_crypto.specs.Sealing.{keys_of}
use Rattle.s0_crypto.specs.declared.key_pair.Keys.{Keys}
use Rattle.s0_crypto.proofs.SealingLemmas.{sealed_is}
use Rattle.s0_session.specs.declared.account.Account.{Account}
use Rattle.s0_session.specs.Nonces.{account_of, after_give, live_of, nonce_given, unused}
use Rattle.s0_session.specs.Sending.{taken_from}
use Rattle.value_store.specs.Values.{count_with}
use Rattle.zw_text.specs.declared.entry.Ended.{Ended}
use Rattle.zw_text.specs.declared.entry.Ended.TheVariants as endings
use Rattle.zw_text.specs.declared.entry.Entry.{Entry}
use Rattle.zw_text.specs.declared.entry.Entry.TheVariants as entry
use Rattle.law_transcript.specs.Answers.{properties_kept}
use Rattle.law_transcript.specs.Nodes.{host_list}
use Rattle.law_transcript.specs.Units.{Carried}
use Rattle.law_time.specs.Attempts.{is_last_nonce, is_next_nonce}
use Rattle.law_time.specs.Heeds.{Heeds}
use Rattle.law_time.specs.Requests.{are_none}
use Rattle.law_time.specs.Sessions.{last_command}
use Rattle.law_time.specs.Wants.{segments_wanted}
use Rattle.host_heard.specs.declared.told.Told.{Told}
use Rattle.host_heard.specs.declared.told.Told.TheVariants.{Report, NonceGet, NonceReport, Notification, SegmentRequest, Values}
use Rattle.host_keep.specs.Status.{status_byte as final_byte, status_of}
use Rattle.host_keep.specs.declared.final_status.FinalStatus.{FinalStatus}
use Rattle.host_keep.specs.declared.final_status.FinalStatus.TheVariants as final
use Rattle.host_node.specs.State.{NodeState, SealsText, count_at, ends_to}
use Rattle.host_node.specs.Steps.{after_nonce}
use Rattle.host_orders.specs.Classes.{lists}
use Rattle.host_requests.specs.declared.task.Task.{Task}
use Rattle.host_requests.specs.declared.task.Task.TheVariants.{Offer as waits_offer, Segment as waits_segment}
use Rattle.host_requests.specs.State.{RequestsState}
use Rattle.host_requests.specs.Events.RequestsEvent.{Pushes}
use Rattle.host_model.specs.State.{Command, HostState, node_of}
use Rattle.host_model.specs.Facts.{IsCommandOf}
use Rattle.host_model.specs.After.{after, finishing, giving, is_full, is_held, offering, outcome_of, queues_if_room, requests_do}
use Rattle.host_model.specs.Events.{HostEvent, Unreads, Is_unkept, Reports_old, Works, Finishes, Offers, Gives, Takes_nonce, Notifies, Resends, Hears_value, Has_no_room}
use Rattle.host_model.specs.May.{May}
use Rattle.host_model.specs.Outs.{dropped_if, ended_of, noted, outs}
use Rattle.host_model.specs.Taking.{FinalEvents, IsKeptOr, IsTaken, NonceGetEvents, NonceReportEvents, ReportEvents, is_secure, resent, value_event, wanted_segment}
use Rattle.proof_host.specs.Tables.{taken_at}
use Rattle.proof_host.proofs.Commands.{taken_set}
use Rattle.proof_choice.specs.proof_ends.proof_requests.law_host.Course.{Course, Giver, Sealer, book_of, each_in_turn, giver_of, if_kept, with_note, with_notes, with_taken, without_texts, with_giver}
use Rattle.proof_choice.specs.proof_ends.proof_requests.law_host.Heard.{heeds_alone, listing_heard}
use Rattle.proof_choice.specs.proof_ends.proof_requests.law_host.Messages.{Hearing, ends_session, final_notes, gives_next, has_room, hears, hears_value, is_full as is_course_full, is_of_open, offers_last, puts, sealed_for, takes_nonce, takes_report, unread}
use Rattle.proof_choice.specs.proof_ends.proof_requests.law_host.Nonces.{is_late}
use Rattle.proof_choice.specs.proof_ends.proof_requests.proof_alone.Steps.{AreTold}
use Rattle.proof_choice.proofs.ByMessage.{IsEnded, IsNoValues, ends_so, is_final, is_old, is_working, names_open, note_told, of_open_is, openly_is, put_out}
use Rattle.proof_choice.proofs.Noting.{noted_told}
use Rattle.proof_choice.proofs.proof_nonces_Walking.{own_long}
use Rattle.proof_choice.specs.proof_giving.proof_queue.Heeding.{taken_up}
use Rattle.proof_hearing.specs.Books.{BooksSo, SealedOpen, nonces_to}
use Rattle.proof_hearing.specs.Hearing.{NoOut, Point, StaysLate, choosing, else_of, waited}
use Rattle.proof_hearing.proofs.Alike.{Alike, finish_here, finish_other, hold_same, same_alike, takes_here, takes_other, wakes_go, works_go}
use Rattle.proof_hearing.proofs.BooksGo.{books_end, books_give, books_offer, books_on, books_take, one_offered, segment_to}
use Rattle.proof_hearing.proofs.Wanted.{unwanted, wanted}

some_of : {A : Type 0} (x y : A) → Some x ≡ Some y → x ≡ y
some_of x y e = cc

none_of : {A : Type 0} (x : A) → ◌≡◌ {A = Option A} None (Some x) → ⊥
none_of x e = cc

-- one event that is two
taken_not : (n seen : ℕ) (text : List ℕ) (event : HostEvent) → event ∷ [] ≡ Takes_nonce n seen text ∷ [] → event ∷ [] ≡ Is_unkept n ∷ [] → ⊥
taken_not n seen text event is unkept = let bad : Takes_nonce n seen text ∷ [] ≡ Is_unkept n ∷ [] = sym is ∙ unkept in cc

first_of : (a b : HostEvent) (more less : List HostEvent) → a ∷ more ≡ b ∷ less → a ≡ b
first_of a b more less e = cc

module _ (key : List ℕ) (taken : List Entry → Carried → List Told) (before upto : List Entry) (n : ℕ) (payload : List ℕ) (is_node : IsNode n) where
  abbrev pub hearing : Bool → Hearing
  hearing sealed = record { heeds = heeds_alone taken; before = before; past = upto; node = n; payload = payload; was_sealed = sealed }

  abbrev pub heeds : Heeds
  heeds = heeds_alone taken

  -- what an event has noted is what the course notes, by what it chose; and all goes on so
  pub record Noted (does : Course → Course) (messages : List Told) (course : Course) (told : List Entry) (g : HostState) : Type 0 where
    pub next : Course
    pub kept : List Bool
    pub goes : (keepings : List Bool) (texts : List (Option (List ℕ))) → does (choosing (kept ++ keepings) texts course) ≡ choosing keepings texts next
    pub books : BooksSo key heeds ((upto ++ course.due) ++ told) g next
    pub room : waited (hearing true) + next.put ≡ length g.requests.queue
    pub due : next.due ≡ course.due ++ told
    pub heeded : next.taken ≡ course.taken ++ messages
    pub other : else_of next ≡ else_of course

  module _ (sealed : Bool) (h : HostState) (course : Course) (point : Point key heeds (upto ++ course.due) n h) (books : BooksSo key heeds (upto ++ course.due) h course)
      (room : waited (hearing true) + course.put ≡ length h.requests.queue) where
    abbrev past : List Entry
    past = upto ++ course.due

    abbrev Late : List Entry → Type 0
    Late told = StaysLate heeds n past told

    pub place : n < length h.nodes
    place = omega (arith, point.ties.facts.host.nodes.places, is_node.1)

    pub account : n < length h.nonces
    account = omega (arith, point.ties.facts.host.nonces, is_node.1)

    -- ---- what changes no book

    pub record Still (g : HostState) : Type 0 where
      pub nonces : g.nonces ≡ h.nonces
      pub queue : g.requests.queue ≡ h.requests.queue
      pub alike : (m : ℕ) → Alike (node_of h m) (node_of g m)
      pub orders : g.commands ≡ h.commands

    pub still_books : (told : List Entry) (g : HostState) → AllByRecursion NoOut told → Late told → Still g → BooksSo key heeds (past ++ told) g course
    still_books told g quiet late still =
        books_on key heeds past (past ++ told) h course.books course.offered course.opened course.sealed books g still.nonces (λ m. ap (nonces_to m) still.queue)
        (λ m is. still.alike m) (λ number taken found. ap (λ (l : List Command). taken_at l number) still.orders ∙ found) (λ m is. late m is (λ same. quiet))

    -- a note of such an event, with no choice
    noted_so : (does : Course → Course) (messages : List Told) (e : Entry) (g : HostState) (next : Course) → NoOut e → Late (e ∷ []) → Still g
        → ((keepings : List Bool) (texts : List (Option (List ℕ))) → does (choosing keepings texts course) ≡ choosing keepings texts next)
        → next ≡ record course { due = course.due ++ e ∷ []; taken = course.taken ++ messages } → Noted does messages course (e ∷ []) g
    noted_so does messages e g next quiet late still goes is = record {
      next = record course { due = course.due ++ e ∷ []; taken = course.taken ++ messages };
      kept = [];
      goes = λ keepings texts. goes keepings texts ∙ ap (choosing keepings texts) is;
      books = still_books (e ∷ []) g (quiet, tt) late still;
      room = room ∙ sym (ap (λ (l : List Task). length l) still.queue);
      due = refl;
      heeded = refl;
      other = refl;
    }

    no_messages : course.taken ≡ course.taken ++ []
    no_messages = sym (append-nil course.taken)

    -- with a note alone
    abbrev with_it : Entry → Course
    with_it e = with_note e course

    with_is : (e : Entry) → with_it e ≡ record course { due = course.due ++ e ∷ []; taken = course.taken ++ [] }
    with_is e = ap (λ (l : List Told). record course { due = course.due ++ e ∷ []; taken = l }) no_messages

    pub same_host : Still h
    same_host = record { nonces = refl; queue = refl; alike = λ m. record { seen = refl; text = refl; pending = refl; opened = refl; commands = refl }; orders = refl }

    -- what was asked for is not kept
    unkept_so : (does goes_on : Course → Course) (late : Late (entry.Unkept n ∷ []))
        → ((keepings : List Bool) (texts : List (Option (List ℕ))) → does (choosing (false ∷ keepings) texts course) ≡ if_kept n goes_on (choosing (false ∷ keepings) texts course))
        → Noted does [] course (entry.Unkept n ∷ []) h
    unkept_so does goes_on late goes = record {
      next = with_it (entry.Unkept n);
      kept = false ∷ [];
      goes = λ keepings texts. goes keepings texts;
      books = still_books (entry.Unkept n ∷ []) h (tt, tt) late same_host;
      room = room;
      due = refl;
      heeded = no_messages;
      other = refl;
    }

    -- ---- reports

    module _ (id : ℕ) (wake : Bool) where
      abbrev of : ReportStatus → Course → Course
      of status = hears (hearing sealed) (Report id status wake)

      -- not told openly by a node that lists Security 0
      abbrev Readable : Type 0
      Readable = (not sealed && lists (host_list listing_heard past n) 0x98) ≡ false

      -- then it is as it is read
      by_read : (status : ReportStatus) (keepings : List Bool) (texts : List (Option (List ℕ))) → Readable
          → of status (choosing keepings texts course) ≡ (if is_of_open n past id then takes_report (hearing sealed) id status wake (choosing keepings texts course) else with_note (entry.Old n id) (choosing keepings texts course))
      by_read status keepings texts read =
          ap (λ (b : Bool). if b then unread (hearing sealed) (choosing keepings texts course)
          else (if is_of_open n past id then takes_report (hearing sealed) id status wake (choosing keepings texts course) else with_note (entry.Old n id) (choosing keepings texts course))) read

      by_named : (status : ReportStatus) (named : Bool) (keepings : List Bool) (texts : List (Option (List ℕ))) → Readable → is_of_open n past id ≡ named
          → of status (choosing keepings texts course) ≡ (if named then takes_report (hearing sealed) id status wake (choosing keepings texts course) else with_note (entry.Old n id) (choosing keepings texts course))
      by_named status named keepings texts read is =
          by_read status keepings texts read
          ∙ ap (λ (b : Bool). if b then takes_report (hearing sealed) id status wake (choosing keepings texts course) else with_note (entry.Old n id) (choosing keepings texts course)) is

      -- an old one
      old_so : (status : ReportStatus) → Readable → is_of_open n past id ≡ false → Late (entry.Old n id ∷ []) → Noted (of status) [] course (entry.Old n id ∷ []) h
      old_so status read named late =
          noted_so (of status) [] (entry.Old n id) h (with_it (entry.Old n id)) tt late same_host (λ keepings texts. by_named status false keepings texts read named) (with_is (entry.Old n id))

      -- one that the node is at work
      works_so : Readable → is_of_open n past id ≡ true → told_of (node_of h n).book id 1 ≡ booked.Working → Late []
          → Noted (of statuses.Working) (Report id statuses.Working wake ∷ []) course [] (after h (Works n id))
      works_so read named at_work late = record {
        next = with_taken (Report id statuses.Working wake) course;
        kept = [];
        goes = λ keepings texts. by_named statuses.Working true keepings texts read named;
        books = still_books [] (after h (Works n id)) tt late (record { nonces = refl; queue = refl; alike = λ m. works_go h n id m at_work; orders = refl });
        room = room;
        due = sym (append-nil course.due);
        heeded = refl;
        other = refl;
      }

      -- a final one
      module _ (status : ReportStatus) (ended : Ended) (by : FinalStatus) (session : ℕ) (it : IsEnded (IsCommandOf h.commands n) (node_of h n).book id (status_byte status) session)
          (read : Readable) (named : is_of_open n past id ≡ true)
          (final_so : (c : Course) → takes_report (hearing sealed) id status wake c ≡ if_kept n (ends_session (hearing sealed) wake ended) c) (ended_is : ended ≡ ended_of by) where
        abbrev notes : List Entry
        notes = flat_map (final_notes (hearing sealed) past wake ended) (last_command n past)

        goes_so : (kept : Bool) (keepings : List Bool) (texts : List (Option (List ℕ)))
            → of status (choosing (kept ∷ keepings) texts course) ≡ if_kept n (ends_session (hearing sealed) wake ended) (choosing (kept ∷ keepings) texts course)
        goes_so kept keepings texts = by_named status true (kept ∷ keepings) texts read named ∙ final_so (choosing (kept ∷ keepings) texts course)

        -- the notes are those that the host puts out
        notes_are : notes ≡ put_out past h (point.ties) n payload sealed id status wake session it by
        notes_are =
            ap (λ (e : Ended). flat_map (final_notes (hearing sealed) past wake e) (last_command n past)) ended_is
            ∙ sym (append-nil (flat_map (final_notes (hearing sealed) past wake (ended_of by)) (last_command n past)))
            ∙ sym (ends_so past h (point.ties) n payload sealed id status wake session it by)

        final_kept : (told : List Entry) → told ≡ notes → Late told → told_of (node_of h n).book id (final_byte by) ≡ booked.Final session → Noted (of status) [] course told (after h (Finishes n session id it.command by wake))
        final_kept told is late final_told = record {
          next = without_texts n (with_notes notes course);
          kept = true ∷ [];
          goes = λ keepings texts. goes_so true keepings texts;
          books = books_end key heeds past (past ++ told) h course.books course.offered course.opened course.sealed books (after h (Finishes n session id it.command by wake)) n is_node
              (hold_same (finishing h n id it.command by) n (is_held h n wake)).0
              (λ m. ap (λ (r : RequestsState). nonces_to m r.queue) (hold_same (finishing h n id it.command by) n (is_held h n wake)).1)
              (λ m other. finish_other h n session id it.command by wake m other)
              (finish_here h n session id it.command by wake place final_told)
              (λ number taken found. ap (λ (l : List Command). taken_at l number) (hold_same (finishing h n id it.command by) n (is_held h n wake)).2
              ∙ taken_set h.commands it.command (outcome_of by) number ∙ found)
              (λ m is other. late m is (λ same. absurd (other same)));
          room = room ∙ sym (ap (λ (r : RequestsState). length r.queue) (hold_same (finishing h n id it.command by) n (is_held h n wake)).1);
          due = ap (λ (l : List Entry). course.due ++ l) (sym is);
          heeded = no_messages;
          other = refl;
        }

        final_unkept : Late (entry.Unkept n ∷ []) → Noted (of status) [] course (entry.Unkept n ∷ []) h
        final_unkept late = unkept_so (of status) (ends_session (hearing sealed) wake ended) late (λ keepings texts. goes_so false keepings texts)

      -- ---- by which events

      -- what the event is, and what it has noted
      abbrev Says : ReportStatus → HostEvent → List Entry → Type 0
      Says status event told = Noted (of status) (taken_up (event ∷ []) (Report id status wake)) course told (after h event)

      as_event : (status : ReportStatus) (event one : HostEvent) (told : List Entry) → event ∷ [] ≡ one ∷ [] → (AreTold (outs h one) told → Late told → May h one → Says status one told)
          → AreTold (outs h event) told → Late told → May h event → Says status event told
      as_event status event one told is goes =
          subst (λ (e : HostEvent). AreTold (outs h e) told → Late told → May h e → Says status e told) (sym (first_of event one [] [] is)) goes

      as_told : (status : ReportStatus) (event : HostEvent) (told some : List Entry) → told ≡ some → (Late some → Says status event some) → Late told → Says status event told
      as_told status event told some is goes = subst (λ (l : List Entry). Late l → Says status event l) (sym is) goes

      final_by : (status : ReportStatus) (ended : Ended) (by : FinalStatus) (session : ℕ) (it : IsEnded (IsCommandOf h.commands n) (node_of h n).book id (status_byte status) session) → Readable
          → is_of_open n past id ≡ true → ((c : Course) → takes_report (hearing sealed) id status wake c ≡ if_kept n (ends_session (hearing sealed) wake ended) c) → ended ≡ ended_of by
          → (event : HostEvent) (told : List Entry) → IsKeptOr (Finishes n session id it.command by wake) (Is_unkept n) (event ∷ []) → AreTold (outs h event) told → Late told → May h event
          → Says status event told
      final_by status ended by session it read named final_so ended_is event told (inl is) =
          as_event status event (Finishes n session id it.command by wake) told is
          (λ are late may. final_kept status ended by session it read named final_so ended_is told
          (noted_told (put_out past h (point.ties) n payload sealed id status wake session it by) told are ∙ sym (notes_are status ended by session it read named final_so ended_is)) late may.told)
      final_by status ended by session it read named final_so ended_is event told (inr is) =
          as_event status event (Is_unkept n) told is
          (λ are late may. as_told status (Is_unkept n) told (entry.Unkept n ∷ []) (note_told (entry.Unkept n) told are)
          (final_unkept status ended by session it read named final_so ended_is) late)

      final_one : (status : ReportStatus) (session : ℕ) (it : IsEnded (IsCommandOf h.commands n) (node_of h n).book id (status_byte status) session) → Readable → is_of_open n past id ≡ true
          → (event : HostEvent) (told : List Entry) → FinalEvents n session id (Some it.command) (status_of (status_byte status)) wake (event ∷ []) → AreTold (outs h event) told → Late told
          → May h event → Says status event told
      final_one statuses.Success session it read named event told is = final_by statuses.Success endings.Success final.Success session it read named (λ c. refl) refl event told is
      final_one statuses.Fail session it read named event told is = final_by statuses.Fail endings.Fail final.Fail session it read named (λ c. refl) refl event told is
      final_one statuses.NoSupport session it read named event told is = final_by statuses.NoSupport endings.NoSupport final.NoSupport session it read named (λ c. refl) refl event told is
      final_one statuses.Working session it read named event told is = absurd (let bad : true ≡ false = it.final in cc)

      -- a node is at work by no other status
      at_work : (status : ReportStatus) → (status_byte status == WORKING) ≡ true → (P : ReportStatus → Type 0) → P statuses.Working → P status
      at_work statuses.Working is P p = p
      at_work statuses.Success is P p = absurd (let bad : false ≡ true = is in cc)
      at_work statuses.Fail is P p = absurd (let bad : false ≡ true = is in cc)
      at_work statuses.NoSupport is P p = absurd (let bad : false ≡ true = is in cc)

      of_open : (named : Bool) → names_open (node_of h n).book id ≡ named → is_of_open n past id ≡ named
      of_open named is = of_open_is past h (point.ties) n payload id named is

      reported : (status : ReportStatus) (it : TheTold) → Readable → told_of (node_of h n).book id (status_byte status) ≡ it → (event : HostEvent) (told : List Entry)
          → ReportEvents h n id status wake it (event ∷ []) → AreTold (outs h event) told → Late told → May h event → Says status event told
      reported status booked.Old read it_is event some is =
          as_event status event (Reports_old n id) some is
          (λ are late may. as_told status (Reports_old n id) some (entry.Old n id ∷ []) (note_told (entry.Old n id) some are)
          (old_so status read (of_open false (is_old (node_of h n).book.commands (node_of h n).book.outcome (node_of h n).book.attempts id (status_byte status) it_is))) late)
      reported status booked.Working read it_is event some is =
          let (named, working) = is_working (node_of h n).book.commands (node_of h n).book.outcome (node_of h n).book.attempts id (status_byte status) it_is in
          as_event status event (Works n id) some is
          (λ are late may. as_told status (Works n id) some [] are (at_work status working (λ (s : ReportStatus). Late [] → Says s (Works n id) []) (works_so read (of_open true named) may)) late)
      reported status (booked.Final session) read it_is event some is =
          let it : IsEnded (IsCommandOf h.commands n) (node_of h n).book id (status_byte status) session =
          is_final (IsCommandOf h.commands n) (node_of h n).book.commands (node_of h n).book.outcome (node_of h n).book.attempts id (status_byte status) session it_is in
          final_one status session it read (of_open true it.named) event some (subst (λ (o : Option ℕ). FinalEvents n session id o (status_of (status_byte status)) wake (event ∷ [])) it.carried is)

      -- told openly by a node that lists Security 0
      openly_so : (status : ReportStatus) → (not sealed && lists (host_list listing_heard past n) 0x98) ≡ true → Late (entry.Unread n payload ∷ []) → Noted (of status) [] course (entry.Unread n payload ∷ []) h
      openly_so status openly late =
          noted_so (of status) [] (entry.Unread n payload) h (with_it (entry.Unread n payload)) tt late same_host
          (λ keepings texts. ap (λ (b : Bool). if b then unread (hearing sealed) (choosing keepings texts course)
          else (if is_of_open n past id then takes_report (hearing sealed) id status wake (choosing keepings texts course) else with_note (entry.Old n id) (choosing keepings texts course))) openly)
          (with_is (entry.Unread n payload))

      unread_so : (status : ReportStatus) → (not sealed && lists (host_list listing_heard past n) 0x98) ≡ true → (event : HostEvent) (told : List Entry) → event ∷ [] ≡ Unreads n payload ∷ []
          → AreTold (outs h event) told → Late told → May h event → Says status event told
      unread_so status openly event told is =
          as_event status event (Unreads n payload) told is
          (λ are late may. as_told status (Unreads n payload) told (entry.Unread n payload ∷ []) (note_told (entry.Unread n payload) told are) (openly_so status openly) late)

    -- the report of a session
    report_one : (id : ℕ) (status : ReportStatus) (wake : Bool) (event : HostEvent) (told : List Entry) → IsTaken h n payload sealed (Report id status wake) (event ∷ []) → AreTold (outs h event) told → Late told
        → May h event → Noted (hears (hearing sealed) (Report id status wake)) (taken_up (event ∷ []) (Report id status wake)) course told (after h event)
    report_one id status wake event told is = by sealed refl is
      where
        by : (b : Bool) → sealed ≡ b → IsTaken h n payload b (Report id status wake) (event ∷ []) → AreTold (outs h event) told → Late told → May h event → Says id wake status event told
        by true same is = reported id wake status (told_of (node_of h n).book id (status_byte status)) (ap (λ (b : Bool). not b && lists (host_list listing_heard past n) 0x98) same) refl event told is
        by false same is = elim (cases_Bool (is_secure (node_of h n).classes)) [
          | inl secure ↦
              unread_so id wake status
              (ap (λ (b : Bool). not b && lists (host_list listing_heard past n) 0x98) same ∙ openly_is past h (point.ties) n payload true secure) event told (rw secure at is)
          | inr open_so ↦
              reported id wake status (told_of (node_of h n).book id (status_byte status))
              (ap (λ (b : Bool). not b && lists (host_list listing_heard past n) 0x98) same ∙ openly_is past h (point.ties) n payload false open_so) refl event told (rw open_so at is)
        ]

    -- ---- a message of which an event is known

    module _ (message : Told) where
      abbrev pub SaysOf : HostEvent → List Entry → Type 0
      SaysOf event told = Noted (hears (hearing sealed) message) (taken_up (event ∷ []) message) course told (after h event)

      known_event : (event one : HostEvent) (told : List Entry) → event ∷ [] ≡ one ∷ [] → (AreTold (outs h one) told → Late told → May h one → SaysOf one told)
          → AreTold (outs h event) told → Late told → May h event → SaysOf event told
      known_event event one told is goes = subst (λ (e : HostEvent). AreTold (outs h e) told → Late told → May h e → SaysOf e told) (sym (first_of event one [] [] is)) goes

      known_notes : (event : HostEvent) (told some : List Entry) → told ≡ some → (Late some → SaysOf event some) → Late told → SaysOf event told
      known_notes event told some is goes = subst (λ (l : List Entry). Late l → SaysOf event l) (sym is) goes

    -- ---- a Wake Up Notification

    wakes_one : (event : HostEvent) (told : List Entry) → event ∷ [] ≡ Notifies n ∷ [] → AreTold (outs h event) told → Late told → May h event → SaysOf Notification event told
    wakes_one event told is =
        known_event Notification event (Notifies n) told is
        (λ are late may. known_notes Notification (Notifies n) told (entry.Awake n ∷ []) (note_told (entry.Awake n) told are)
        (λ late. noted_so (hears (hearing sealed) Notification) [] (entry.Awake n) (after h (Notifies n)) (with_it (entry.Awake n)) tt late
        (record { nonces = refl; queue = refl; alike = λ m. wakes_go h n m; orders = refl }) (λ keepings texts. refl) (with_is (entry.Awake n))) late)

    -- ---- what is put into the queue

    full_is : is_course_full (hearing sealed) course ≡ is_full h
    full_is = ap (λ (k : ℕ). nat_le 64 k) room

    -- 64 wait, and it is dropped
    dropped_told : (full : Bool) (told : List Entry) → is_full h ≡ full → AreTold (noted (dropped_if (is_full h) n)) told → told ≡ dropped_if full n
    dropped_told true told is are = note_told (entry.QueueFull n) told (subst (λ (b : Bool). AreTold (noted (dropped_if b n)) told) is are)
    dropped_told false told is are = subst (λ (b : Bool). AreTold (noted (dropped_if b n)) told) is are

    room_left : (task : Task) → waited (hearing true) + (course.put + 1) ≡ length (h.requests.queue ++ task ∷ [])
    room_left task = let both = length-append h.requests.queue (task ∷ []) in let one : length (task ∷ []) ≡ 1 = refl in omega (arith, both, room, one)

    pushed : (task : Task) → is_full h ≡ false → queues_if_room h task ≡ requests_do h (Pushes task)
    pushed task is = ap (λ (b : Bool). if b then h else requests_do h (Pushes task)) is

    unpushed : (task : Task) → is_full h ≡ true → queues_if_room h task ≡ h
    unpushed task is = ap (λ (b : Bool). if b then h else requests_do h (Pushes task)) is

    -- ---- a segment

    segment_so : (id offset : ℕ) (want text : List ℕ) (full : Bool) → segments_wanted listing_heard past n id offset ≡ want ∷ [] → is_full h ≡ full → Late (dropped_if full n)
        → SaysOf (SegmentRequest id offset) (Resends n text) (dropped_if full n)
    segment_so id offset want text full wants is late = by full is late
      where
        one_put : (keepings : List Bool) (texts : List (Option (List ℕ)))
            → hears (hearing sealed) (SegmentRequest id offset) (choosing keepings texts course) ≡ puts (hearing sealed) (λ last. last) (with_taken (SegmentRequest id offset) (choosing keepings texts course))
        one_put keepings texts =
            ap (λ (l : List (List ℕ)). each_in_turn (λ (one : List ℕ) next. puts (hearing sealed) (λ last. last) (with_taken (SegmentRequest id offset) next)) l (choosing keepings texts course)) wants

        by : (b : Bool) → is_full h ≡ b → Late (dropped_if b n) → SaysOf (SegmentRequest id offset) (Resends n text) (dropped_if b n)
        by true is late = record {
          next = with_note (entry.QueueFull n) (with_taken (SegmentRequest id offset) course);
          kept = [];
          goes = λ keepings texts. one_put keepings texts
              ∙ ap (λ (b : Bool). if b then with_note (entry.QueueFull n) (with_taken (SegmentRequest id offset) (choosing keepings texts course))
              else record (with_taken (SegmentRequest id offset) (choosing keepings texts course)) { put = course.put + 1 }) (full_is ∙ is);
          books = subst (λ (g : HostState). BooksSo key heeds (past ++ entry.QueueFull n ∷ []) g course) (sym (unpushed (waits_segment n text) is)) (still_books (entry.QueueFull n ∷ []) h (tt, tt) late same_host);
          room = room ∙ sym (ap (λ (g : HostState). length g.requests.queue) (unpushed (waits_segment n text) is));
          due = refl;
          heeded = refl;
          other = refl;
        }
        by false is late = record {
          next = record (with_taken (SegmentRequest id offset) course) { put = course.put + 1 };
          kept = [];
          goes = λ keepings texts. one_put keepings texts
              ∙ ap (λ (b : Bool). if b then with_note (entry.QueueFull n) (with_taken (SegmentRequest id offset) (choosing keepings texts course))
              else record (with_taken (SegmentRequest id offset) (choosing keepings texts course)) { put = course.put + 1 }) (full_is ∙ is);
          books = subst (λ (g : HostState). BooksSo key heeds (past ++ []) g course) (sym (pushed (waits_segment n text) is))
              (books_on key heeds past (past ++ []) h course.books course.offered course.opened course.sealed books (requests_do h (Pushes (waits_segment n text))) refl
              (λ m. segment_to m n h.requests.queue text) (λ m is. record { seen = refl; text = refl; pending = refl; opened = refl; commands = refl }) (λ number taken found. found) (λ m is. late m is (λ same. tt)));
          room = room_left (waits_segment n text) ∙ sym (ap (λ (g : HostState). length g.requests.queue) (pushed (waits_segment n text) is));
          due = sym (append-nil course.due);
          heeded = refl;
          other = refl;
        }

    segment_one : (id offset : ℕ) (event : HostEvent) (told : List Entry) → event ∷ [] ≡ resent n (wanted_segment h n (open_session (node_of h n).book) id offset) → AreTold (outs h event) told → Late told
        → May h event → SaysOf (SegmentRequest id offset) event told
    segment_one id offset event told is = by (wanted_segment h n (open_session (node_of h n).book) id offset) refl is
      where
        by : (o : Option (List ℕ)) → wanted_segment h n (open_session (node_of h n).book) id offset ≡ o → event ∷ [] ≡ resent n o → AreTold (outs h event) told → Late told → May h event
            → SaysOf (SegmentRequest id offset) event told
        by None found is = absurd (let bad : event ∷ [] ≡ [] = is in cc)
        by (Some text) found is =
            known_event (SegmentRequest id offset) event (Resends n text) told is
            (λ are late may. known_notes (SegmentRequest id offset) (Resends n text) told (dropped_if (is_full h) n) (dropped_told (is_full h) told refl are)
            (segment_so id offset _ text (is_full h) (wanted past h (point.ties) point.carried n id offset text found).is refl) late)

    -- ---- a value

    pub value_so : (s : Setting) (told : List Entry) → AreTold (outs h (value_event h n s)) told → Late told → Noted (hears_value (hearing sealed) s) [] course told (after h (value_event h n s))
    value_so s told are late = by (nat_lt 512 (count_with h.store n (s.property ∷ []))) refl are late
      where
        counts : count_with h.store n (s.property ∷ []) ≡ distinct_count same_property (s.property ∷ properties_kept listing_heard past n)
        counts = point.ties.rooms n s.property

        room_by : (b : Bool) (keepings : List Bool) (texts : List (Option (List ℕ))) → has_room (hearing sealed) past s ≡ b
            → hears_value (hearing sealed) s (choosing keepings texts course)
            ≡ (if b then with_note (entry.Report n s) (choosing keepings texts course) else with_note (entry.Unstored n s.property) (choosing keepings texts course))
        room_by b keepings texts is = ap (λ (b : Bool). if b then with_note (entry.Report n s) (choosing keepings texts course) else with_note (entry.Unstored n s.property) (choosing keepings texts course)) is

        by : (b : Bool) → nat_lt 512 (count_with h.store n (s.property ∷ [])) ≡ b → AreTold (outs h (value_event h n s)) told → Late told → Noted (hears_value (hearing sealed) s) [] course told (after h (value_event h n s))
        by true is are late =
            let event_is : value_event h n s ≡ Has_no_room n s.property = ap (λ (b : Bool). if b then Has_no_room n s.property else Hears_value n s) is in
            let many : 512 < distinct_count same_property (s.property ∷ properties_kept listing_heard past n) =
            subst (λ (k : ℕ). 512 < k) counts (ltb-true 512 (count_with h.store n (s.property ∷ [])) is) in
            let none : has_room (hearing sealed) past s ≡ false = lt-leb (distinct_count same_property (s.property ∷ properties_kept listing_heard past n)) 512 many in
            let notes : told ≡ entry.Unstored n s.property ∷ [] =
            note_told (entry.Unstored n s.property) told (subst (λ (e : HostEvent). AreTold (outs h e) told) event_is are) in
            subst (λ (e : HostEvent). Noted (hears_value (hearing sealed) s) [] course told (after h e)) (sym event_is)
            (subst (λ (l : List Entry). Late l → Noted (hears_value (hearing sealed) s) [] course l h) (sym notes)
            (λ late. noted_so (hears_value (hearing sealed) s) [] (entry.Unstored n s.property) h (with_it (entry.Unstored n s.property)) tt late same_host
            (λ keepings texts. room_by false keepings texts none) (with_is (entry.Unstored n s.property))) late)
        by false is are late =
            let event_is : value_event h n s ≡ Hears_value n s = ap (λ (b : Bool). if b then Has_no_room n s.property else Hears_value n s) is in
            let few : distinct_count same_property (s.property ∷ properties_kept listing_heard past n) ≤ 512 =
            subst (λ (k : ℕ). k ≤ 512) counts (ltb-false 512 (count_with h.store n (s.property ∷ [])) is) in
            let some : has_room (hearing sealed) past s ≡ true = le-leb (distinct_count same_property (s.property ∷ properties_kept listing_heard past n)) 512 few in
            let notes : told ≡ entry.Report n s ∷ [] = note_told (entry.Report n s) told (subst (λ (e : HostEvent). AreTold (outs h e) told) event_is are) in
            subst (λ (e : HostEvent). Noted (hears_value (hearing sealed) s) [] course told (after h e)) (sym event_is)
            (subst (λ (l : List Entry). Late l → Noted (hears_value (hearing sealed) s) [] course l (after h (Hears_value n s))) (sym notes)
            (λ late. noted_so (hears_value (hearing sealed) s) [] (entry.Report n s) (after h (Hears_value n s)) (with_it (entry.Report n s)) tt late
            (record { nonces = refl; queue = refl; alike = λ m. record { seen = refl; text = refl; pending = refl; opened = refl; commands = refl }; orders = refl })
            (λ keepings texts. room_by true keepings texts some) (with_is (entry.Report n s))) late)

    -- ---- a Nonce Get

    abbrev giver : Giver
    giver = (book_of n course.books).giver

    live_is : (nonce : List ℕ) → live_of h.nonces n ≡ Some nonce → giver.live ≡ true
    live_is nonce live = (books.givers n is_node).live ∙ ap (λ (o : Option (List ℕ)). is_some o) live

    none_is : live_of h.nonces n ≡ None → giver.live ≡ false
    none_is none = (books.givers n is_node).live ∙ ap (λ (o : Option (List ℕ)). is_some o) none

    -- the last nonce is offered, by a course and a host that have the same books, with the same room
    module _ (c : Course) (g : HostState) (so : BooksSo key heeds past g c) (put : c.put ≡ course.put) (queue : g.requests.queue ≡ h.requests.queue) (nonce : List ℕ)
        (live : live_of g.nonces n ≡ Some nonce) where
      abbrev offered : Bool → Course
      offered true = with_note (entry.QueueFull n) (with_taken NonceGet c)
      offered false = with_giver n (one_offered (giver_of n c)) (record (with_taken NonceGet c) { put = c.put + 1 })

      same_full : (full : Bool) → is_full h ≡ full → is_full g ≡ full
      same_full full is = ap (λ (l : List Task). nat_le 64 (length l)) queue ∙ is

      course_full : (full : Bool) (keepings : List Bool) (texts : List (Option (List ℕ))) → is_full h ≡ full → is_course_full (hearing sealed) (with_taken NonceGet (choosing keepings texts c)) ≡ full
      course_full full keepings texts is = ap (λ (k : ℕ). nat_le 64 (waited (hearing true) + k)) put ∙ full_is ∙ is

      offers_go : (full : Bool) (keepings : List Bool) (texts : List (Option (List ℕ))) → is_full h ≡ full → offers_last (hearing sealed) (choosing keepings texts c) ≡ choosing keepings texts (offered full)
      offers_go true keepings texts is =
          ap (λ (b : Bool). if b then with_note (entry.QueueFull n) (with_taken NonceGet (choosing keepings texts c))
          else with_giver n (one_offered (giver_of n c)) (record (with_taken NonceGet (choosing keepings texts c)) { put = c.put + 1 })) (course_full true keepings texts is)
      offers_go false keepings texts is =
          ap (λ (b : Bool). if b then with_note (entry.QueueFull n) (with_taken NonceGet (choosing keepings texts c))
          else with_giver n (one_offered (giver_of n c)) (record (with_taken NonceGet (choosing keepings texts c)) { put = c.put + 1 })) (course_full false keepings texts is)

      host_offers : (full : Bool) → is_full h ≡ full → offering g n (Some nonce) ≡ (if full then g else requests_do g (Pushes (waits_offer n nonce)))
      host_offers full is = ap (λ (b : Bool). if b then g else requests_do g (Pushes (waits_offer n nonce))) (same_full full is)

      offers_books : (full : Bool) → is_full h ≡ full → Late (dropped_if full n) → BooksSo key heeds (past ++ dropped_if full n) (offering g n (Some nonce)) (offered full)
      offers_books true is late =
          subst (λ (k : HostState). BooksSo key heeds (past ++ entry.QueueFull n ∷ []) k c) (sym (host_offers true is))
          (books_on key heeds past (past ++ entry.QueueFull n ∷ []) g c.books c.offered c.opened c.sealed so g refl (λ m. refl) (λ m is. record { seen = refl; text = refl; pending = refl; opened = refl; commands = refl }) (λ number taken found. found)
          (λ m is. late m is (λ same. (tt, tt))))
      offers_books false is late =
          subst (λ (k : HostState). BooksSo key heeds (past ++ []) k (offered false)) (sym (host_offers false is))
          (books_offer key heeds past (past ++ []) g c.books c.offered c.opened c.sealed so n nonce is_node live (λ m is. late m is (λ same. tt)))

      offers_room : (full : Bool) → is_full h ≡ full → waited (hearing true) + (offered full).put ≡ length (offering g n (Some nonce)).requests.queue
      offers_room true is = ap (λ (k : ℕ). waited (hearing true) + k) put ∙ room ∙ sym (ap (λ (l : List Task). length l) queue) ∙ sym (ap (λ (k : HostState). length k.requests.queue) (host_offers true is))
      offers_room false is =
          ap (λ (k : ℕ). waited (hearing true) + (k + 1)) put ∙ room_left (waits_offer n nonce) ∙ sym (ap (λ (l : List Task). length (l ++ waits_offer n nonce ∷ [])) queue)
          ∙ sym (ap (λ (k : HostState). length k.requests.queue) (host_offers false is))

      offers_due : (full : Bool) → (offered full).due ≡ c.due ++ dropped_if full n
      offers_due true = refl
      offers_due false = sym (append-nil c.due)

      offers_heeded : (full : Bool) → (offered full).taken ≡ c.taken ++ NonceGet ∷ []
      offers_heeded true = refl
      offers_heeded false = refl

      offers_other : (full : Bool) → else_of (offered full) ≡ else_of c
      offers_other true = refl
      offers_other false = refl

    get_live : (nonce : List ℕ) (full : Bool) → live_of h.nonces n ≡ Some nonce → is_full h ≡ full → Late (dropped_if full n) → SaysOf NonceGet (Offers n) (dropped_if full n)
    get_live nonce full live is late =
        let host : after h (Offers n) ≡ offering h n (Some nonce) = ap (λ (o : Option (List ℕ)). offering h n o) live in
        record {
          next = offered course h books refl refl nonce live full;
          kept = [];
          goes = λ keepings texts. ap (λ (b : Bool). if b then offers_last (hearing sealed) (choosing keepings texts course)
              else if_kept n (λ next. offers_last (hearing sealed) (gives_next n next)) (choosing keepings texts course)) (live_is nonce live)
              ∙ offers_go course h books refl refl nonce live full keepings texts is;
          books = subst (λ (g : HostState). BooksSo key heeds (past ++ dropped_if full n) g (offered course h books refl refl nonce live full)) (sym host) (offers_books course h books refl refl nonce live full is late);
          room = offers_room course h books refl refl nonce live full is ∙ sym (ap (λ (g : HostState). length g.requests.queue) host);
          due = offers_due course h books refl refl nonce live full;
          heeded = offers_heeded course h books refl refl nonce live full;
          other = offers_other course h books refl refl nonce live full;
        }

    get_kept : (keepings : List Bool) (texts : List (Option (List ℕ))) → live_of h.nonces n ≡ None
        → hears (hearing sealed) NonceGet (choosing keepings texts course) ≡ if_kept n (λ next. offers_last (hearing sealed) (gives_next n next)) (choosing keepings texts course)
    get_kept keepings texts none =
        ap (λ (b : Bool). if b then offers_last (hearing sealed) (choosing keepings texts course)
        else if_kept n (λ next. offers_last (hearing sealed) (gives_next n next)) (choosing keepings texts course)) (none_is none)

    get_new : (bytes : List ℕ) (full : Bool) → live_of h.nonces n ≡ None → length bytes ≡ 8 → is_full h ≡ full → Late (dropped_if full n) → SaysOf NonceGet (Gives n bytes) (dropped_if full n)
    get_new bytes full none eight is late = record {
      next = offered (gives_next n course) (giving h n bytes) given refl refl (nonce_given (account_of h.nonces n) bytes) live full;
      kept = true ∷ [];
      goes = λ keepings texts. get_kept (true ∷ keepings) texts none
          ∙ offers_go (gives_next n course) (giving h n bytes) given refl refl (nonce_given (account_of h.nonces n) bytes) live full keepings texts is;
      books = subst (λ (g : HostState). BooksSo key heeds (past ++ dropped_if full n) g (offered (gives_next n course) (giving h n bytes) given refl refl (nonce_given (account_of h.nonces n) bytes) live full)) (sym host)
          (offers_books (gives_next n course) (giving h n bytes) given refl refl (nonce_given (account_of h.nonces n) bytes) live full is late);
      room = offers_room (gives_next n course) (giving h n bytes) given refl refl (nonce_given (account_of h.nonces n) bytes) live full is ∙ sym (ap (λ (g : HostState). length g.requests.queue) host);
      due = offers_due (gives_next n course) (giving h n bytes) given refl refl (nonce_given (account_of h.nonces n) bytes) live full;
      heeded = offers_heeded (gives_next n course) (giving h n bytes) given refl refl (nonce_given (account_of h.nonces n) bytes) live full;
      other = offers_other (gives_next n course) (giving h n bytes) given refl refl (nonce_given (account_of h.nonces n) bytes) live full;
    }
      where
        live : live_of (giving h n bytes).nonces n ≡ Some (nonce_given (account_of h.nonces n) bytes)
        live = ap (λ (a : Account). a.live) (get_or-set_same h.nonces n (after_give (account_of h.nonces n) bytes) unused account)

        host : after h (Gives n bytes) ≡ offering (giving h n bytes) n (Some (nonce_given (account_of h.nonces n) bytes))
        host = ap (λ (o : Option (List ℕ)). offering (giving h n bytes) n o) live

        given : BooksSo key heeds past (giving h n bytes) (gives_next n course)
        given = books_give key heeds past past h course.books course.offered course.opened course.sealed books n bytes is_node account none eight

    get_one : (event : HostEvent) (told : List Entry) (live : Option (List ℕ)) → live_of h.nonces n ≡ live → NonceGetEvents n live (event ∷ []) → AreTold (outs h event) told → Late told → May h event
        → SaysOf NonceGet event told
    get_one event told (Some nonce) live is =
        known_event NonceGet event (Offers n) told is
        (λ are late may. known_notes NonceGet (Offers n) told (dropped_if (is_full h) n) (dropped_told (is_full h) told refl are) (get_live nonce (is_full h) live refl) late)
    get_one event told None none (bytes, eight, inl is) =
        known_event NonceGet event (Gives n bytes) told is
        (λ are late may. known_notes NonceGet (Gives n bytes) told (dropped_if (is_full h) n) (dropped_told (is_full h) told refl are) (get_new bytes (is_full h) none eight refl) late)
    get_one event told None none (bytes, eight, inr is) =
        known_event NonceGet event (Is_unkept n) told is
        (λ are late may. known_notes NonceGet (Is_unkept n) told (entry.Unkept n ∷ []) (note_told (entry.Unkept n) told are)
        (λ late. unkept_so (hears (hearing sealed) NonceGet) (λ next. offers_last (hearing sealed) (gives_next n next)) late (λ keepings texts. get_kept (false ∷ keepings) texts none)) late)

    -- ---- a Nonce Report

    abbrev sealer : Sealer
    sealer = (book_of n course.books).sealer

    abbrev node : NodeState
    node = node_of h n

    seen_is : sealer.seen ≡ node.seen
    seen_is = (books.sealers n is_node).seen

    -- where a plain text waits the course takes the nonce by its count
    module _ (nonce plain : List ℕ) (pending : node.pending ≡ Some plain) where
      waits_so : sealer.pending ≡ plain ∷ []
      waits_so = (books.sealers n is_node).texts.pending plain pending

      on_time : is_late heeds past n ≡ false
      on_time = false_from_ne_true (is_late heeds past n) (λ late. none_of plain (sym (point.late late) ∙ pending))

      by_count : (keepings : List Bool) (texts : List (Option (List ℕ)))
          → hears (hearing sealed) (NonceReport nonce) (choosing keepings texts course) ≡ takes_nonce (hearing sealed) nonce sealer (choosing keepings texts course)
      by_count keepings texts =
          ap (λ (l : List (List ℕ)). if are_none l then choosing keepings texts course
          else (if is_late heeds past n then choosing keepings texts course else takes_nonce (hearing sealed) nonce sealer (choosing keepings texts course))) waits_so
          ∙ ap (λ (b : Bool). if b then choosing keepings texts course else takes_nonce (hearing sealed) nonce sealer (choosing keepings texts course)) on_time

      abbrev taken_for : ℕ → Course → Course
      taken_for seen c = sealed_for n nonce seen (with_taken (NonceReport nonce) c)

      by_next : (last : Bool) (keepings : List Bool) (texts : List (Option (List ℕ))) → is_last_nonce sealer.seen nonce ≡ last
          → hears (hearing sealed) (NonceReport nonce) (choosing keepings texts course)
          ≡ (if last then taken_for sealer.seen (choosing keepings texts course)
          else (if is_next_nonce sealer.seen nonce then if_kept n (taken_for (sealer.seen + 1)) (choosing keepings texts course) else choosing keepings texts course))
      by_next last keepings texts is =
          by_count keepings texts
          ∙ ap (λ (b : Bool). if b then taken_for sealer.seen (choosing keepings texts course)
          else (if is_next_nonce sealer.seen nonce then if_kept n (taken_for (sealer.seen + 1)) (choosing keepings texts course) else choosing keepings texts course)) is

      by_kept : (next : Bool) (keepings : List Bool) (texts : List (Option (List ℕ))) → is_last_nonce sealer.seen nonce ≡ false → is_next_nonce sealer.seen nonce ≡ next
          → hears (hearing sealed) (NonceReport nonce) (choosing keepings texts course)
          ≡ (if next then if_kept n (taken_for (sealer.seen + 1)) (choosing keepings texts course) else choosing keepings texts course)
      by_kept next keepings texts last is =
          by_next false keepings texts last
          ∙ ap (λ (b : Bool). if b then if_kept n (taken_for (sealer.seen + 1)) (choosing keepings texts course) else choosing keepings texts course) is

      -- it is sealed for it
      takes_books : (seen now : ℕ) (own text : List ℕ) → SealsText node h.keys own nonce text → length own ≡ 8 → now ≡ seen → Late []
          → BooksSo key heeds (past ++ []) (after h (Takes_nonce n seen text)) (taken_for now course)
      takes_books seen now own text seals eight same late =
          let here : node_of (after h (Takes_nonce n seen text)) n ≡ after_nonce node seen text = takes_here h n seen text place in
          let number : node.node ≡ n = point.ties.facts.host.nodes.numbers n is_node.0 is_node.1 in
          let sealed_so : Seals (keys_of key) own nonce (ends_to n) plain text =
          subst (λ (k : Keys). Seals k own nonce (ends_to n) plain text) (point.same_keys)
          (subst (λ (k : ℕ). Seals h.keys own nonce (ends_to k) plain text) number
          (subst (λ (p : List ℕ). Seals h.keys own nonce (ends_to node.node) p text) (some_of seals.plain plain (sym seals.is_pending ∙ pending)) seals.seals)) in
          books_take key heeds past (past ++ []) h course.books course.offered course.opened course.sealed books (after h (Takes_nonce n seen text)) n now nonce plain text refl (λ m. refl)
          (λ m other. same_alike (node_of h m) (node_of (after h (Takes_nonce n seen text)) m) (takes_other h n seen text m other)) (λ number taken found. found) (λ m is. late m is (λ same. tt)) waits_so
          (record { own = own; own_eight = eight; text = sealed_is (keys_of key) own nonce (ends_to n) plain text sealed_so })
          (ap (λ (s : NodeState). s.seen) here ∙ sym same) (ap (λ (s : NodeState). s.text) here) (ap (λ (s : NodeState). s.pending) here)

      -- the last one again
      last_so : (seen : ℕ) (own text : List ℕ) → SealsText node h.keys own nonce text → length own ≡ 8 → is_last_nonce sealer.seen nonce ≡ true → sealer.seen ≡ seen → Late []
          → SaysOf (NonceReport nonce) (Takes_nonce n seen text) []
      last_so seen own text seals eight last same late = record {
        next = taken_for sealer.seen course;
        kept = [];
        goes = λ keepings texts. by_next true keepings texts last;
        books = takes_books seen sealer.seen own text seals eight same late;
        room = room;
        due = sym (append-nil course.due);
        heeded = refl;
        other = refl;
      }

      -- the next one
      next_so : (seen : ℕ) (own text : List ℕ) → SealsText node h.keys own nonce text → length own ≡ 8 → is_last_nonce sealer.seen nonce ≡ false → is_next_nonce sealer.seen nonce ≡ true → sealer.seen + 1 ≡ seen
          → Late [] → SaysOf (NonceReport nonce) (Takes_nonce n seen text) []
      next_so seen own text seals eight last next same late = record {
        next = taken_for (sealer.seen + 1) course;
        kept = true ∷ [];
        goes = λ keepings texts. by_kept true (true ∷ keepings) texts last next;
        books = takes_books seen (sealer.seen + 1) own text seals eight same late;
        room = room;
        due = sym (append-nil course.due);
        heeded = refl;
        other = refl;
      }

      next_unkept : is_last_nonce sealer.seen nonce ≡ false → is_next_nonce sealer.seen nonce ≡ true → Late (entry.Unkept n ∷ []) → SaysOf (NonceReport nonce) (Is_unkept n) (entry.Unkept n ∷ [])
      next_unkept last next late =
          unkept_so (hears (hearing sealed) (NonceReport nonce)) (taken_for (sealer.seen + 1)) late (λ keepings texts. by_kept true (false ∷ keepings) texts last next)

      -- by its count
      not_zero : (k : ℕ) → nat_lt 0 k ≡ not (k == 0)
      not_zero k = elim (cases_eq k 0) [
        | inl is ↦ subst (λ (j : ℕ). nat_lt 0 j ≡ not (j == 0)) (sym is) refl
        | inr other ↦ lt-ltb 0 k (omega (arith, other)) ∙ sym (ap not (ne_eqb k 0 other))
      ]

      last_is : (nat_lt 0 node.seen && (slice_index nonce 0 == node.seen % 256)) ≡ is_last_nonce sealer.seen nonce
      last_is =
          ap (λ (k : ℕ). nat_lt 0 k && (slice_index nonce 0 == k % 256)) (sym seen_is) ∙ ap (λ (b : Bool). b && (slice_index nonce 0 == sealer.seen % 256)) (not_zero sealer.seen)

      next_is : (slice_index nonce 0 == (node.seen + 1) % 256) ≡ is_next_nonce sealer.seen nonce
      next_is = ap (λ (k : ℕ). slice_index nonce 0 == (k + 1) % 256) (sym seen_is)

      -- the count that the host has then
      data Counts (seen : ℕ) : Type 0 where
        Again : is_last_nonce sealer.seen nonce ≡ true → sealer.seen ≡ seen → Counts seen
        One_more : is_last_nonce sealer.seen nonce ≡ false → is_next_nonce sealer.seen nonce ≡ true → sealer.seen + 1 ≡ seen → Counts seen

      counts_by : (seen : ℕ) (a b : Bool) → is_last_nonce sealer.seen nonce ≡ a → is_next_nonce sealer.seen nonce ≡ b → (if a then Some node.seen else (if b then Some (node.seen + 1) else None)) ≡ Some seen → Counts seen
      counts_by seen true b last next is = Again last (seen_is ∙ some_of node.seen seen is)
      counts_by seen false true last next is = One_more last next (ap (λ (k : ℕ). k + 1) seen_is ∙ some_of (node.seen + 1) seen is)
      counts_by seen false false last next is = absurd (none_of seen is)

      counts_so : (seen : ℕ) → count_at node (slice_index nonce 0) ≡ Some seen → Counts seen
      counts_so seen is =
          counts_by seen (is_last_nonce sealer.seen nonce) (is_next_nonce sealer.seen nonce) refl refl
          (ap₂ (λ (a b : Bool). if a then Some node.seen else (if b then Some (node.seen + 1) else None)) (sym last_is) (sym next_is)
          ∙ sym (ap (λ (o : Option (List ℕ)). taken_from o node.seen (slice_index nonce 0)) pending) ∙ is)

      takes_one : (seen : ℕ) (own text : List ℕ) → SealsText node h.keys own nonce text → length own ≡ 8 → Counts seen → Late [] → SaysOf (NonceReport nonce) (Takes_nonce n seen text) []
      takes_one seen own text seals eight (Again last same) late = last_so seen own text seals eight last same late
      takes_one seen own text seals eight (One_more last next same) late = next_so seen own text seals eight last next same late

      unkept_one : (seen : ℕ) → (node.seen ≡ seen → ⊥) → Counts seen → Late (entry.Unkept n ∷ []) → SaysOf (NonceReport nonce) (Is_unkept n) (entry.Unkept n ∷ [])
      unkept_one seen other (Again last same) late = absurd (other (sym seen_is ∙ same))
      unkept_one seen other (One_more last next same) late = next_unkept last next late

      -- none is taken where no count fits
      none_by : (a b : Bool) → is_last_nonce sealer.seen nonce ≡ a → is_next_nonce sealer.seen nonce ≡ b → (if a then Some node.seen else (if b then Some (node.seen + 1) else None)) ≡ None
          → (keepings : List Bool) (texts : List (Option (List ℕ))) → hears (hearing sealed) (NonceReport nonce) (choosing keepings texts course) ≡ choosing keepings texts course
      none_by true b last next is keepings texts = absurd (none_of node.seen (sym is))
      none_by false true last next is keepings texts = absurd (none_of (node.seen + 1) (sym is))
      none_by false false last next is keepings texts = by_kept false keepings texts last next

      none_so : count_at node (slice_index nonce 0) ≡ None → (keepings : List Bool) (texts : List (Option (List ℕ)))
          → hears (hearing sealed) (NonceReport nonce) (choosing keepings texts course) ≡ choosing keepings texts course
      none_so is =
          none_by (is_last_nonce sealer.seen nonce) (is_next_nonce sealer.seen nonce) refl refl
          (ap₂ (λ (a b : Bool). if a then Some node.seen else (if b then Some (node.seen + 1) else None)) (sym last_is) (sym next_is)
          ∙ sym (ap (λ (o : Option (List ℕ)). taken_from o node.seen (slice_index nonce 0)) pending) ∙ is)

    nonce_one : (nonce : List ℕ) (event : HostEvent) (told : List Entry) (count : Option ℕ) → count_at node (slice_index nonce 0) ≡ count → NonceReportEvents h n nonce count (event ∷ [])
        → AreTold (outs h event) told → Late told → May h event → SaysOf (NonceReport nonce) event told
    nonce_one nonce event told None counted is = absurd (let bad : event ∷ [] ≡ [] = is in cc)
    nonce_one nonce event told (Some seen) counted (own, text, seals, inl is, sure) =
        known_event (NonceReport nonce) event (Takes_nonce n seen text) told is
        (λ are late may.
        let (another, other, counts, sealed_by, eight) = may in
        known_notes (NonceReport nonce) (Takes_nonce n seen text) told [] are
        (takes_one nonce seals.plain seals.is_pending seen own text seals (own_long node h.keys own other nonce another text seals sealed_by eight) (counts_so nonce seals.plain seals.is_pending seen counted)) late)
    nonce_one nonce event told (Some seen) counted (own, text, seals, inr is, sure) =
        known_event (NonceReport nonce) event (Is_unkept n) told is
        (λ are late may. known_notes (NonceReport nonce) (Is_unkept n) told (entry.Unkept n ∷ []) (note_told (entry.Unkept n) told are)
        (unkept_one nonce seals.plain seals.is_pending seen (λ same. taken_not n seen text event (sure same) is) (counts_so nonce seals.plain seals.is_pending seen counted)) late)

    -- ---- where nothing follows

    abbrev pub Quiet : Told → Type 0
    Quiet message = (keepings : List Bool) (texts : List (Option (List ℕ))) → hears (hearing sealed) message (choosing keepings texts course) ≡ choosing keepings texts course

    -- nothing waits for a nonce, or its attempt is over
    quiet_nonce : (nonce : List ℕ) → node.pending ≡ None → Quiet (NonceReport nonce)
    quiet_nonce nonce none keepings texts = by ((books.sealers n is_node).waits none)
      where
        both : (b : Bool) (c : Course) → (if b then c else c) ≡ c
        both true c = refl
        both false c = refl

        by : (sealer.pending ≡ []) ⊎ ((is_late heeds past n ≡ true) × SealedOpen h n) → hears (hearing sealed) (NonceReport nonce) (choosing keepings texts course) ≡ choosing keepings texts course
        by (inl is) =
            ap (λ (l : List (List ℕ)). if are_none l then choosing keepings texts course
            else (if is_late heeds past n then choosing keepings texts course else takes_nonce (hearing sealed) nonce sealer (choosing keepings texts course))) is
        by (inr (late, open_so)) =
            ap (λ (b : Bool). if are_none sealer.pending then choosing keepings texts course else (if b then choosing keepings texts course else takes_nonce (hearing sealed) nonce sealer (choosing keepings texts course))) late
            ∙ both (are_none sealer.pending) (choosing keepings texts course)

    nonce_quiet : (nonce : List ℕ) (count : Option ℕ) → count_at node (slice_index nonce 0) ≡ count → NonceReportEvents h n nonce count [] → Quiet (NonceReport nonce)
    nonce_quiet nonce (Some seen) counted (own, text, seals, inl is, sure) = absurd (let bad : [] ≡ Takes_nonce n seen text ∷ [] = is in cc)
    nonce_quiet nonce (Some seen) counted (own, text, seals, inr is, sure) = absurd (let bad : [] ≡ Is_unkept n ∷ [] = is in cc)
    nonce_quiet nonce None counted is = by node.pending refl
      where
        by : (o : Option (List ℕ)) → node.pending ≡ o → Quiet (NonceReport nonce)
        by None none = quiet_nonce nonce none
        by (Some plain) pending = none_so nonce plain pending counted

    segment_quiet : (id offset : ℕ) → [] ≡ resent n (wanted_segment h n (open_session node.book) id offset) → Quiet (SegmentRequest id offset)
    segment_quiet id offset is = by (wanted_segment h n (open_session node.book) id offset) refl is
      where
        by : (o : Option (List ℕ)) → wanted_segment h n (open_session node.book) id offset ≡ o → [] ≡ resent n o → Quiet (SegmentRequest id offset)
        by None found is = λ keepings texts.
            ap (λ (l : List (List ℕ)). each_in_turn (λ (one : List ℕ) next. puts (hearing sealed) (λ last. last) (with_taken (SegmentRequest id offset) next)) l (choosing keepings texts course))
            (unwanted past h (point.ties) point.carried n id offset found)
        by (Some text) found is = absurd (let bad : [] ≡ Resends n text ∷ [] = is in cc)

    -- a report is always followed by an event
    module _ (id : ℕ) (status : ReportStatus) (wake : Bool) where
      unfollowed : (it : TheTold) → told_of (node_of h n).book id (status_byte status) ≡ it → ReportEvents h n id status wake it [] → ⊥
      unfollowed booked.Old it_is is = let bad : [] ≡ Reports_old n id ∷ [] = is in cc
      unfollowed booked.Working it_is is = let bad : [] ≡ Works n id ∷ [] = is in cc
      unfollowed (booked.Final session) it_is is =
          let it : IsEnded (IsCommandOf h.commands n) (node_of h n).book id (status_byte status) session =
          is_final (IsCommandOf h.commands n) (node_of h n).book.commands (node_of h n).book.outcome (node_of h n).book.attempts id (status_byte status) session it_is in
          by status it.command it.final (subst (λ (o : Option ℕ). FinalEvents n session id o (status_of (status_byte status)) wake []) it.carried is)
        where
          kept_none : (kept : HostEvent) → IsKeptOr kept (Is_unkept n) [] → ⊥
          kept_none kept (inl is) = let bad : [] ≡ kept ∷ [] = is in cc
          kept_none kept (inr is) = let bad : [] ≡ Is_unkept n ∷ [] = is in cc

          by : (s : ReportStatus) (command : ℕ) → (status_byte s == WORKING) ≡ false → FinalEvents n session id (Some command) (status_of (status_byte s)) wake [] → ⊥
          by statuses.Success command other is = kept_none (Finishes n session id command final.Success wake) is
          by statuses.Fail command other is = kept_none (Finishes n session id command final.Fail wake) is
          by statuses.NoSupport command other is = kept_none (Finishes n session id command final.NoSupport wake) is
          by statuses.Working command other is = let bad : true ≡ false = other in cc

      no_report : IsTaken h n payload sealed (Report id status wake) [] → ⊥
      no_report is = by sealed is
        where
          by : (b : Bool) → IsTaken h n payload b (Report id status wake) [] → ⊥
          by true is = unfollowed (told_of (node_of h n).book id (status_byte status)) refl is
          by false is = elim (cases_Bool (is_secure (node_of h n).classes)) [
            | inl secure ↦ let none : [] ≡ Unreads n payload ∷ [] = rw secure at is in cc
            | inr open_so ↦ unfollowed (told_of (node_of h n).book id (status_byte status)) refl (rw open_so at is)
          ]

    no_get : (live : Option (List ℕ)) → NonceGetEvents n live [] → ⊥
    no_get (Some nonce) is = let bad : [] ≡ Offers n ∷ [] = is in cc
    no_get None (bytes, eight, inl is) = let bad : [] ≡ Gives n bytes ∷ [] = is in cc
    no_get None (bytes, eight, inr is) = let bad : [] ≡ Is_unkept n ∷ [] = is in cc

    -- ---- any message but values

    pub message_one : (message : Told) → IsNoValues message → (event : HostEvent) (told : List Entry) → IsTaken h n payload sealed message (event ∷ []) → AreTold (outs h event) told → Late told
        → May h event → SaysOf message event told
    message_one (Report id status wake) other event told is = report_one id status wake event told is
    message_one NonceGet other event told is = get_one event told (live_of h.nonces n) refl is
    message_one (NonceReport nonce) other event told is = nonce_one nonce event told (count_at node (slice_index nonce 0)) refl is
    message_one Notification other event told is = wakes_one event told is
    message_one (SegmentRequest id offset) other event told is = segment_one id offset event told is
    message_one (Values settings) other event told is = absurd other

    pub message_quiet : (message : Told) → IsNoValues message → IsTaken h n payload sealed message [] → Quiet message
    message_quiet (Report id status wake) other is = absurd (no_report id status wake is)
    message_quiet NonceGet other is = absurd (no_get (live_of h.nonces n) is)
    message_quiet (NonceReport nonce) other is = nonce_quiet nonce (count_at node (slice_index nonce 0)) refl is
    message_quiet Notification other is = absurd (let bad : [] ≡ Notifies n ∷ [] = is in cc)
    message_quiet (SegmentRequest id offset) other is = segment_quiet id offset is
    message_quiet (Values settings) other is = absurd other
