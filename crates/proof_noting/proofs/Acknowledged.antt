-- A frame that brings a payload of a node is judged: what its acknowledgement makes of the course is what comes of that payload, as the host is to take it.
use Rattle.std.proofs.Common.{◌≡◌, ℕ, ◌+◌, Bool, true, false, inl, length, List, [], ◌∷◌, ◌++◌, Option, refl, sym, ap, ◌∙◌, subst, append-nil, append_assoc, arith}
use Rattle.std.specs.Prelude.{Result, Ok}
use Rattle.std.specs.List.{AllByRecursion, flat_map}
use Rattle.std.proofs.lemmas.List.{length-map}
use Rattle.zw_base.proofs.Each.{all-weaker}
use Rattle.serial_frame.specs.Frame.{FrameParts, checksum, kind_code}
use Rattle.serial_frame.specs.Items.{unit_text}
use Rattle.serial_frame.specs.declared.frame.Kind.{Kind}
use Rattle.serial_frame.specs.declared.frame.Kind.TheVariants as kind
use Rattle.serial_frame.specs.declared.item.Item.TheVariants.{Good}
use Rattle.serial_frame.specs.declared.unit.Unit.{Unit as LineUnit}
use Rattle.serial_frame.specs.declared.unit.Unit.TheVariants.{Ack, Framed}
use Rattle.chip_functions.specs.Field.{IsNode}
use Rattle.chip_functions.specs.Notice.{notice_of}
use Rattle.chip_functions.specs.declared.fault.BodyFault.{BodyFault}
use Rattle.chip_functions.specs.declared.notice.Notice.{Notice}
use Rattle.chip_functions.specs.declared.notice.Notice.TheVariants.{ApplicationCommandHandler}
use Rattle.zw_words.specs.declared.side.Side.TheVariants.{Host}
use Rattle.zw_text.specs.declared.entry.Entry.{Entry}
use Rattle.zw_text.specs.declared.entry.Entry.TheVariants.{Written}
use Rattle.host_heard.specs.Telling.{heard_at}
use Rattle.host_heard.specs.declared.told.Told.{Told}
use Rattle.host_requests.specs.declared.next.Next.TheVariants.{GoesOn}
use Rattle.host_requests.specs.declared.under_way.UnderWay.{UnderWay}
use Rattle.host_model.specs.State.{HostState, node_of}
use Rattle.host_model.specs.After.{after}
use Rattle.host_model.specs.Events.{HostEvent, Hears}
use Rattle.host_model.specs.Taking.{FrameEvents, NoticeEvents, PayloadEvents}
use Rattle.law_transcript.specs.Units.{Carried, bringing_in, bringing_of, read_well, request_in}
use Rattle.law_time.specs.Ends.{is_ending_here}
use Rattle.law_time.specs.Heeds.{Heeds}
use Rattle.law_time.specs.Queue.{queue_before}
use Rattle.proof_hearing.specs.proof_choice.proof_giving.Told.{LeavesAttempts, attempts_so_far}
use Rattle.proof_hearing.proofs.Asking.{mark_leaves}
use Rattle.proof_hearing.proofs.Framed.{notices_in, notices_of}
use Rattle.proof_hearing.proofs.Told.{attempts_left}
use Rattle.proof_hearing.specs.Books.{BooksSo}
use Rattle.proof_hearing.specs.Hearing.{Whole, choosing, finishes, hearing_at}
use Rattle.proof_hearing.specs.proof_queue.Heeding.{heeded_frame, heeded_notice, heeded_payload}
use Rattle.proof_hearing.specs.proof_queue.Waiting.{Waits, want_of_task}
use Rattle.proof_hearing.specs.proof_queue.proof_attempts.proof_requests.Saying.{frame_next as host_next, kind_next, notice_next}
use Rattle.proof_hearing.specs.proof_queue.proof_attempts.proof_requests.law_host.Course.{Course, with_heeded}
use Rattle.proof_hearing.specs.proof_queue.proof_attempts.proof_requests.law_host.Following.{after as followed, course_after, is_note}
use Rattle.proof_hearing.specs.proof_queue.proof_attempts.proof_requests.law_host.Heard.{heeds_alone}
use Rattle.proof_hearing.specs.proof_queue.proof_attempts.proof_requests.law_host.Nonces.{is_late}
use Rattle.proof_hearing.specs.proof_queue.proof_attempts.proof_requests.proof_alone.State.{HostMachine, done}
use Rattle.proof_hearing.specs.proof_queue.proof_attempts.proof_requests.proof_alone.Steps.{IsOfUnit, Judges}
use Rattle.proof_hearing.specs.proof_queue.proof_attempts.proof_requests.proof_alone.Phases.{Behind, IsJudgedNow, Open}
use Rattle.proof_hearing.proofs.Alike.{same_alike}
use Rattle.proof_hearing.proofs.BooksGo.{books_on}
use Rattle.proof_hearing.proofs.Spelled.{source_is}
use Rattle.proof_hearing.specs.proof_choice.proof_following.Quiet.{acknowledges}
use Rattle.proof_hearing.proofs.Acks.{ack_after, frame_next_is, judges_payload}
use Rattle.proof_hearing.proofs.Framing.{none_ends}
use Rattle.proof_hearing.proofs.proof_ends_Walking.{ShowsOpen}
use Rattle.proof_noting.specs.Following.{Outset, course_since}
use Rattle.proof_noting.specs.Behind.{AtOpen, InPayload}
use Rattle.proof_noting.specs.Ground.{GroundAlong}
use Rattle.proof_noting.specs.Steps.{BringsFrame, BringsNotice, first_of}
use Rattle.proof_noting.specs.Sure.{SureRun, SureStep}
use Rattle.proof_noting.proofs.Choosing.{course_on, split_on}
use Rattle.proof_noting.proofs.Followed.{over_on}
use Rattle.proof_noting.proofs.JudgedFrame.{FrameSo, frame_so, goes_unended}
use Rattle.proof_noting.proofs.Lately.{late_on}

module _ (key : List ℕ) (taken : List Entry → Carried → List Told) (from : Outset) (ground : GroundAlong taken (first_of key)) (shows : ShowsOpen) (past : List Entry) (m : HostMachine)
    (f : FrameParts) (rest : List LineUnit) (behind : List HostEvent)
    (told marks : List Entry) (sure : SureRun taken (first_of key) Open past m) (well : SureStep taken sure.run (Judges (Good (Framed f)) rest behind told)) (now : IsJudgedNow m (Good (Framed f)) rest behind told)
    (known : AtOpen key taken from past m) (waits : Waits (queue_before (heeds_alone taken) past (Written Host (unit_text Ack))) m.state.requests.queue [])
    (are : told ≡ acknowledges ∷ marks) (marked : AllByRecursion IsOfUnit marks) where
  abbrev heeds : Heeds
  heeds = heeds_alone taken

  abbrev later : List Entry
  later = past ++ acknowledges ∷ []

  abbrev heard : HostState
  heard = after m.state (Hears (Good (Framed f)))

  abbrev next : HostMachine
  next = record (done m (Hears (Good (Framed f)))) { came = rest }

  abbrev c : Course
  c = known.course

  judged : FrameSo key taken past m f rest behind c
  judged = frame_so key taken from ground shows past m f rest behind told marks sure well now known are

  abbrev d : Course
  d = judged.level.0.next

  abbrev begun : Course
  begun = record d { put = 0; taken = [] }

  at : later ++ begun.due ≡ later
  at = ap (λ (l : List Entry). later ++ l) judged.level.0.none_due ∙ append-nil later

  late : (k : ℕ) → IsNode k → is_late heeds past k ≡ true → is_late heeds later k ≡ true
  late k is = late_on taken k past (acknowledges ∷ []) (inl refl, tt)

  books : BooksSo key heeds (later ++ begun.due) heard begun
  books =
      subst (λ (l : List Entry). BooksSo key heeds l heard begun) (sym at)
      (books_on key heeds past later heard d.books d.offered d.opened d.sealed judged.heard_books heard refl (λ k. refl) (λ k is. same_alike (node_of heard k) (node_of heard k) refl) (λ number t found. found) late)

  sure_then : SureRun taken (first_of key) (Behind behind) (later ++ begun.due) next
  sure_then = subst (λ (l : List Entry). SureRun taken (first_of key) (Behind behind) l next) (sym at) judged.sure

  same_then : (n : ℕ) → attempts_so_far heeds n (later ++ begun.due) ≡ attempts_so_far heeds n (past ++ told)
  same_then n =
      ap (λ (l : List Entry). attempts_so_far heeds n l) at
      ∙ sym (attempts_left taken n later marks (all-weaker IsOfUnit LeavesAttempts mark_leaves marks marked))
      ∙ ap (λ (l : List Entry). attempts_so_far heeds n l) (append_assoc past (acknowledges ∷ []) marks ∙ ap (λ (l : List Entry). past ++ l) (sym are))

  past_then : past ++ told ≡ (past ++ acknowledges ∷ marks) ++ begun.due
  past_then =
      ap (λ (l : List Entry). past ++ l) are ∙ sym (append-nil (past ++ acknowledges ∷ marks)) ∙ ap (λ (l : List Entry). (past ++ acknowledges ∷ marks) ++ l) (sym judged.level.0.none_due)

  room : length (queue_before heeds past (Written Host (unit_text Ack))).wants + 0 ≡ length m.state.requests.queue
  room =
      let counted : length (queue_before heeds past (Written Host (unit_text Ack))).wants ≡ length m.state.requests.queue
      = ap (λ (l : List (List ℕ)). length l) waits.wants_are ∙ length-map m.state.requests.queue want_of_task in omega (arith, counted)

  -- ---- the payload

  module _ (status source : ℕ) (payload : List ℕ) (kind_is : f.kind ≡ kind.Request) (reads : notice_of f.func f.body ≡ Ok (ApplicationCommandHandler status source payload))
      (is : PayloadEvents heard source payload (heard_at payload) behind) (heeded : (carried : Carried) → taken later carried ≡ heeded_payload heard source payload (heard_at payload) behind is) where
    abbrev carried : Carried
    carried = record { node = source; payload = payload }

    abbrev frame : List ℕ
    frame = unit_text (Framed f)

    notice : notices_of f.kind f.func f.body ≡ ApplicationCommandHandler status source payload ∷ []
    notice = ap (λ (k : Kind). notices_of k f.func f.body) kind_is ∙ ap (λ (r : Result Notice BodyFault). read_well r) reads

    bears : bringing_in frame ≡ carried ∷ []
    bears = ap (λ (l : List Notice). flat_map bringing_of l) (notices_in f.kind f.func f.body (checksum (kind_code f.kind ∷ f.func ∷ f.body)) ∙ notice)

    -- it ends no request
    goes_on : (u : UnderWay) → host_next m.state.requests.last_id m.state.requests.first f u ≡ GoesOn u.progress
    goes_on u =
        ap (λ (k : Kind). kind_next m.state.requests.last_id m.state.requests.first k f u) kind_is
        ∙ ap (λ (r : Result Notice BodyFault). notice_next m.state.requests.last_id m.state.requests.first r u) reads

    unended : d.over ≡ false → is_ending_here later ≡ false
    unended = judged.unended (goes_unended past m f judged.ends goes_on)

    acked : (keepings : List Bool) (texts : List (Option (List ℕ)))
        → followed heeds past acknowledges [] (choosing keepings texts c)
        ≡ with_heeded later carried (finishes (hearing_at taken past later source payload) Whole (choosing keepings texts begun))
    acked keepings texts =
        ack_after heeds past frame [] (choosing keepings texts c) (choosing keepings texts d) known.follows.fits (judged.level.0.goes keepings texts)
        judged.level.0.none_due judged.level.0.fits (frame_next_is past f rest judged.frames)
        ∙ judges_payload heeds past frame later carried (choosing keepings texts d) bears (none_ends heeds later m.state m.state.requests.last_id (record (choosing keepings texts d) { put = 0 }) unended)

    begins : (keepings : List Bool) (texts : List (Option (List ℕ)))
        → course_since heeds from (known.of.heard ++ acknowledges ∷ []) (record { keepings = known.of.kept ++ keepings; texts = known.of.opened ++ texts })
        ≡ with_heeded later carried (finishes (hearing_at taken past later source payload) Whole (choosing keepings texts begun))
    begins keepings texts =
        course_on heeds from past known.of.heard (acknowledges ∷ []) (record { keepings = known.of.kept ++ keepings; texts = known.of.opened ++ texts }) known.of.split refl
        ∙ ap (λ (x : Course). course_after heeds past (acknowledges ∷ []) x) (known.of.is keepings texts)
        ∙ acked keepings texts

    payload_judged : InPayload key taken from (first_of key) (past ++ told) next behind
    payload_judged = record {
      before = past;
      marks = marks;
      marked = marked;
      node = source;
      is_node = source_is f.func f.body status source payload reads;
      payload = payload;
      first = heard;
      gone = [];
      followed = is;
      begun = begun;
      kept = known.of.kept;
      opened = known.of.opened;
      heard = known.of.heard ++ acknowledges ∷ [];
      split = split_on heeds from past known.of.heard (acknowledges ∷ []) known.of.split;
      begins = begins;
      untaken = refl;
      none_due = judged.level.0.none_due;
      fits = judged.level.0.fits;
      ticked = judged.level.1;
      heeded = judged.heeded;
      over = over_on past later m m d begun (ap request_in judged.same) refl refl judged.over;
      remaining = Whole;
      course = begun;
      since_kept = [];
      since_opened = [];
      leads = λ keepings texts. refl;
      remains = is;
      goes_by = sym (heeded carried);
      so = record { stand = refl; fits = judged.level.0.fits; books = books; room = room };
      other = refl;
      notes = subst (λ (l : List Entry). AllByRecursion (λ (e : Entry). is_note e ≡ true) l) (sym judged.level.0.none_due) tt;
      numbered = judged.unnumbered;
      past_is = past_then;
      same = same_then;
      sure = sure_then;
    }

  -- ---- by what is read of it

  notice_judged : f.kind ≡ kind.Request → (read : Result Notice BodyFault) → notice_of f.func f.body ≡ read → BringsNotice read → (is : NoticeEvents heard read behind)
      → ((carried : Carried) → taken later carried ≡ heeded_notice heard read behind is) → InPayload key taken from (first_of key) (past ++ told) next behind
  notice_judged kind_is (Ok (ApplicationCommandHandler status source payload)) reads brings is heeded = payload_judged status source payload kind_is reads is heeded
  notice_judged kind_is read reads brings is heeded = absurd brings

  pub kind_judged : (k : Kind) → f.kind ≡ k → BringsFrame k (notice_of f.func f.body) → (is : FrameEvents heard k f.func f.body behind)
      → ((carried : Carried) → taken later carried ≡ heeded_frame heard k f.func f.body behind is) → InPayload key taken from (first_of key) (past ++ told) next behind
  kind_judged kind.Response kind_is brings is heeded = absurd brings
  kind_judged kind.Request kind_is brings is heeded = notice_judged kind_is (notice_of f.func f.body) refl brings is heeded
