-- An item that brings no payload of a node is judged: with what is left behind it the course goes on as the host does.
use Rattle.std.specs.Prelude.{Result, Ok, Err}
use Rattle.std.specs.List.{AllByRecursion, flat_map}
use Rattle.std.proofs.Common.{◌≡◌, ℕ, Bool, true, false, inl, inr, List, [], ◌∷◌, ◌++◌, Option, Some, None, refl, sym, ap, ◌∙◌, subst, append-nil}
use Rattle.serial_frame.specs.Frame.{FrameParts, checksum, kind_code}
use Rattle.serial_frame.specs.Items.{unit_text}
use Rattle.serial_frame.specs.declared.frame.Kind.{Kind}
use Rattle.serial_frame.specs.declared.frame.Kind.TheVariants as kind
use Rattle.serial_frame.specs.declared.item.Item.{Item}
use Rattle.serial_frame.specs.declared.item.Item.TheVariants.{Good, Refused}
use Rattle.serial_frame.specs.declared.item.Refusal.{Refusal}
use Rattle.serial_frame.specs.declared.item.Refusal.TheVariants.{Aborted, BadKind, BadLength, BadSum, Stray}
use Rattle.serial_frame.specs.declared.unit.Unit.{Unit as LineUnit}
use Rattle.serial_frame.specs.declared.unit.Unit.TheVariants.{Ack, Can, Framed, Nak}
use Rattle.serial_frame.specs.declared.unit.TheConstants.{NAK}
use Rattle.serial_link.specs.State.{turn_refused}
use Rattle.s0_crypto.specs.Sealing.{keys_of}
use Rattle.chip_functions.specs.Notice.{notice_of}
use Rattle.chip_functions.specs.Response.{response_of}
use Rattle.chip_functions.specs.declared.fault.BodyFault.{BodyFault}
use Rattle.chip_functions.specs.declared.notice.Notice.{Notice}
use Rattle.chip_functions.specs.declared.notice.Notice.TheVariants.{AddNode, ApplicationCommandHandler, ApplicationUpdate, SendData}
use Rattle.chip_functions.specs.declared.notice.Update.{Update}
use Rattle.chip_functions.specs.declared.notice.Update.TheVariants.{Received, RequestFailed}
use Rattle.chip_functions.specs.declared.response.Response.{Response}
use Rattle.zw_words.specs.declared.side.Side.TheVariants.{Host}
use Rattle.zw_text.specs.declared.entry.Entry.{Entry}
use Rattle.zw_text.specs.declared.entry.Entry.TheVariants as entry
use Rattle.host_heard.specs.declared.told.Told.{Told}
use Rattle.law_transcript.specs.Units.{Carried, bringing_in, bringing_of, read_well}
use Rattle.host_requests.specs.Events.{RequestsEvent, interviewed_by}
use Rattle.host_requests.specs.Events.RequestsEvent.{CallsBack, Fails, IsSent, Responds, Updates}
use Rattle.host_requests.specs.declared.next.Next.{Next}
use Rattle.host_requests.specs.declared.next.Next.TheVariants.{GoesOn}
use Rattle.host_requests.specs.declared.under_way.UnderWay.{UnderWay}
use Rattle.host_node.specs.declared.attempt.Moment.TheVariants.{BetweenTicks}
use Rattle.host_model.specs.After.{after, gives_up, is_busy}
use Rattle.host_model.specs.Events.{HostEvent, Hears, Interview_unkept, Interviews, Requests_do}
use Rattle.host_model.specs.Outs.{answer_to}
use Rattle.host_model.specs.State.{HostState}
use Rattle.host_model.specs.Taking.{FrameEvents, InterviewEvents, NoticeEvents, ResponseEvents, told_if, told_requests}
use Rattle.host_model.specs.declared.out.HostOut.TheVariants.{Write}
use Rattle.proof_hearing.specs.proof_nonces.proof_attempts.Since.{AlongRuns, KnowsSince}
use Rattle.proof_hearing.proofs.Framed.{notices_in, notices_of}
use Rattle.proof_hearing.specs.proof_queue.proof_attempts.proof_requests.Ends.{next_at}
use Rattle.proof_hearing.specs.proof_queue.proof_attempts.proof_requests.Saying.{frame_next as host_next, kind_next, notice_next, response_next}
use Rattle.proof_hearing.specs.proof_queue.proof_attempts.proof_requests.proof_alone.State.{HostMachine, done}
use Rattle.proof_hearing.specs.proof_queue.proof_attempts.proof_requests.proof_alone.Steps.{AreTold, IsFramed, IsOfUnit, Judges, happens}
use Rattle.proof_hearing.specs.proof_queue.proof_attempts.proof_requests.proof_alone.Phases.{IsJudgedNow, Open, Phase}
use Rattle.proof_hearing.specs.proof_choice.proof_following.Ended.{IsFrameEvent}
use Rattle.proof_hearing.specs.proof_choice.proof_following.Quiet.{acknowledges}
use Rattle.proof_hearing.proofs.proof_ends_Walking.{ShowsOpen, TellsWalk}
use Rattle.proof_noting.specs.Following.{Outset}
use Rattle.proof_noting.specs.Behind.{AtOpen, BehindSo, OneLeft}
use Rattle.proof_noting.specs.Behind.BehindSo.{None_left, One_left}
use Rattle.proof_noting.specs.Ground.{GroundAlong}
use Rattle.proof_noting.specs.Noting.{KnowsCourse}
use Rattle.proof_noting.specs.Steps.{BringsFrame, BringsNotice, BringsPayload, StepFollows, first_of}
use Rattle.proof_noting.specs.Sure.{SureRun, SureStep}
use Rattle.proof_noting.proofs.AsksSealed.{AsksAreSo}
use Rattle.proof_noting.proofs.ByAnswers.{acknowledged_so, fails_so, rests}
use Rattle.proof_noting.proofs.ByRefusals.{refused, unanswered}
use Rattle.proof_noting.proofs.FramesGo.{hears, interview_unkept, interviewed, passes}

module _ (key : List ℕ) (taken : List Entry → Carried → List Told) (from : Outset) (tells : TellsWalk) (shows : ShowsOpen) (asking : AlongRuns (keys_of key) (KnowsSince AsksAreSo))
    (ground : GroundAlong taken (first_of key)) where
  -- ---- a frame

  module _ (past : List Entry) (m : HostMachine) (f : FrameParts) (rest : List LineUnit) (behind : List HostEvent) (told marks : List Entry) (sure : SureRun taken (first_of key) Open past m)
      (well : SureStep taken sure.run (Judges (Good (Framed f)) rest behind told)) (now : IsJudgedNow m (Good (Framed f)) rest behind told) (known : AtOpen key taken from past m) (are : told ≡ acknowledges ∷ marks)
      (marked : AllByRecursion IsOfUnit marks) (no_payload : BringsPayload (Good (Framed f)) → ⊥) where
    abbrev framed_next : HostMachine
    framed_next = record (done m (Hears (Good (Framed f)))) { came = rest }

    abbrev heard : HostState
    heard = after m.state (Hears (Good (Framed f)))

    abbrev NextIs : (UnderWay → Next) → Type 0
    NextIs next = (u : UnderWay) → host_next m.state.requests.last_id m.state.requests.first f u ≡ next u

    abbrev Left : Type 0
    Left = BehindSo key taken from (first_of key) (past ++ told) framed_next behind

    module _ (brings : bringing_in (unit_text (Framed f)) ≡ []) where
      none_left : behind ≡ [] → NextIs (λ u. GoesOn u.progress) → Left
      none_left is goes =
          subst (λ (l : List HostEvent). BehindSo key taken from (first_of key) (past ++ told) framed_next l) (sym is)
          (None_left (subst (λ (l : List Entry). AtOpen key taken from (past ++ l) framed_next) (sym are) (passes key taken from shows ground past m f rest behind told marks sure well now known are marked brings goes)))

      one_left : (event : HostEvent) → behind ≡ event ∷ [] → OneLeft key taken from (past ++ acknowledges ∷ marks) framed_next event → Left
      one_left event is left =
          subst (λ (l : List HostEvent). BehindSo key taken from (first_of key) (past ++ told) framed_next l) (sym is)
          (One_left event (subst (λ (l : List Entry). OneLeft key taken from (past ++ l) framed_next event) (sym are) left))

      told_left : (event : RequestsEvent) → IsFrameEvent event → behind ≡ told_requests event → NextIs (next_at m.state.requests event) → Left
      told_left event framed is nexts =
          one_left (Requests_do event BetweenTicks) is (hears key taken from shows ground past m f rest behind told marks sure well now known are marked brings tells asking event framed is nexts)

      update_left : (update : Update) (brought : Option ℕ) → interviewed_by m.state.requests update ≡ brought → InterviewEvents update brought behind → NextIs (next_at m.state.requests (Updates update)) → Left
      update_left (Received n basic generic specific classes) (Some capability) is (inl these) nexts =
          one_left (Interviews n _ classes (Received n basic generic specific classes)) these
          (interviewed key taken from shows ground past m f rest behind told marks sure well now known are marked brings n basic generic specific classes capability is _ these)
      update_left (Received n basic generic specific classes) (Some capability) is (inr these) nexts =
          one_left (Interview_unkept n (Received n basic generic specific classes)) these
          (interview_unkept key taken from shows ground past m f rest behind told marks sure well now known are marked brings n basic generic specific classes capability is these)
      update_left RequestFailed (Some capability) is these nexts = absurd (let bad : ◌≡◌ {A = Option ℕ} None (Some capability) = is in cc)
      update_left (Received n basic generic specific classes) None is these nexts = told_left (Updates (Received n basic generic specific classes)) tt these nexts
      update_left RequestFailed None is these nexts = told_left (Updates RequestFailed) tt these nexts

    notices : (k : Kind) → f.kind ≡ k → bringing_in (unit_text (Framed f)) ≡ flat_map bringing_of (notices_of k f.func f.body)
    notices k is =
        ap (λ (l : List Notice). flat_map bringing_of l)
        (notices_in f.kind f.func f.body (checksum (kind_code f.kind ∷ f.func ∷ f.body)) ∙ ap (λ (k : Kind). notices_of k f.func f.body) is)

    response_left : f.kind ≡ kind.Response → (read : Result Response BodyFault) → response_of f.func f.body ≡ read → ResponseEvents read behind → Left
    response_left kind_is (Ok response) reads is =
        told_left (notices kind.Response kind_is) (Responds response) tt is
        (λ u. ap (λ (k : Kind). kind_next m.state.requests.last_id m.state.requests.first k f u) kind_is ∙ ap (λ (r : Result Response BodyFault). response_next r u) reads)
    response_left kind_is (Err fault) reads is =
        none_left (notices kind.Response kind_is) is
        (λ u. ap (λ (k : Kind). kind_next m.state.requests.last_id m.state.requests.first k f u) kind_is ∙ ap (λ (r : Result Response BodyFault). response_next r u) reads)

    module _ (kind_is : f.kind ≡ kind.Request) where
      nexts_are : (read : Result Notice BodyFault) → notice_of f.func f.body ≡ read → NextIs (notice_next m.state.requests.last_id m.state.requests.first read)
      nexts_are read reads u =
          ap (λ (k : Kind). kind_next m.state.requests.last_id m.state.requests.first k f u) kind_is
          ∙ ap (λ (r : Result Notice BodyFault). notice_next m.state.requests.last_id m.state.requests.first r u) reads

      brings_by : (read : Result Notice BodyFault) → notice_of f.func f.body ≡ read → bringing_in (unit_text (Framed f)) ≡ flat_map bringing_of (read_well read)
      brings_by read reads = notices kind.Request kind_is ∙ ap (λ (r : Result Notice BodyFault). flat_map bringing_of (read_well r)) reads

      notice_left : (read : Result Notice BodyFault) → notice_of f.func f.body ≡ read → NoticeEvents heard read behind → Left
      notice_left (Ok (ApplicationCommandHandler status source payload)) reads is =
          absurd (no_payload (subst (λ (k : Kind). BringsFrame k (notice_of f.func f.body)) (sym kind_is) (subst BringsNotice (sym reads) tt)))
      notice_left (Ok (SendData id status)) reads is =
          told_left (brings_by (Ok (SendData id status)) reads) (CallsBack id status) tt is (nexts_are (Ok (SendData id status)) reads)
      notice_left (Ok (ApplicationUpdate update)) reads is =
          update_left (brings_by (Ok (ApplicationUpdate update)) reads) update (interviewed_by m.state.requests update) refl is (nexts_are (Ok (ApplicationUpdate update)) reads)
      notice_left (Ok (AddNode id status information)) reads is =
          none_left (brings_by (Ok (AddNode id status information)) reads) is (nexts_are (Ok (AddNode id status information)) reads)
      notice_left (Err fault) reads is = none_left (brings_by (Err fault) reads) is (nexts_are (Err fault) reads)

    kind_left : (k : Kind) → f.kind ≡ k → FrameEvents heard k f.func f.body behind → Left
    kind_left kind.Response kind_is is = response_left kind_is (response_of f.func f.body) refl is
    kind_left kind.Request kind_is is = notice_left kind_is (notice_of f.func f.body) refl is

    framed_left : Left
    framed_left = kind_left f.kind refl now.followed

  -- ---- by what the item is

  module _ (past told : List Entry) (m : HostMachine) (rest : List LineUnit) (behind : List HostEvent) (sure : SureRun taken (first_of key) Open past m) (known : AtOpen key taken from past m) where
    abbrev Then : Item → Type 0
    Then item = BehindSo key taken from (first_of key) (past ++ told) (record (done m (Hears item)) { came = rest }) behind

    refusal_left : (refusal : Refusal) → rest ≡ m.came → behind ≡ [] → AtOpen key taken from (past ++ told) (record (done m (Hears (Refused refusal))) { came = rest }) → Then (Refused refusal)
    refusal_left refusal still is opens =
        subst (λ (l : List HostEvent). BehindSo key taken from (first_of key) (past ++ told) (record (done m (Hears (Refused refusal))) { came = rest }) l) (sym is) (None_left opens)

    refused_left : (refusal : Refusal) → IsJudgedNow m (Refused refusal) rest behind told → Then (Refused refusal)
    refused_left refusal now = refusal_left refusal now.takes now.followed (by refusal now.told_so)
      where
        quiet : told ≡ [] → AtOpen key taken from (past ++ told) (record (done m (Hears (Refused refusal))) { came = rest })
        quiet none = unanswered key taken from shows ground past m (Refused refusal) rest told sure known now.takes none

        denied : AreTold (Write Nak ∷ []) told → AtOpen key taken from (past ++ told) (record (done m (Hears (Refused refusal))) { came = rest })
        denied (marks, more, is, marked, none) =
            refused key taken from shows ground past m (Refused refusal) rest told sure known now.takes marks marked
            (is ∙ ap (λ (l : List Entry). entry.Written Host (NAK ∷ []) ∷ (marks ++ l)) none ∙ ap (λ (l : List Entry). entry.Written Host (NAK ∷ []) ∷ l) (append-nil marks)) now.numbered

        by : (r : Refusal) → AreTold (answer_to (Refused r)) told → AtOpen key taken from (past ++ told) (record (done m (Hears (Refused refusal))) { came = rest })
        by (BadSum want got) are = denied are
        by (BadKind x) are = denied are
        by (Stray x) are = quiet are
        by (BadLength n) are = quiet are
        by Aborted are = quiet are

    module _ (unit : LineUnit) (unframed : IsFramed unit → ⊥) (well : SureStep taken sure.run (Judges (Good unit) rest behind told)) (now : IsJudgedNow m (Good unit) rest behind told) (none : told ≡ []) where
      abbrev answered_next : HostMachine
      answered_next = record (done m (Hears (Good unit))) { came = rest }

      at : past ≡ past ++ told
      at = sym (ap (λ (l : List Entry). past ++ l) none ∙ append-nil past)

      answer_none : behind ≡ [] → Then (Good unit)
      answer_none is =
          subst (λ (l : List HostEvent). BehindSo key taken from (first_of key) (past ++ told) answered_next l) (sym is)
          (subst (λ (l : List Entry). BehindSo key taken from (first_of key) l answered_next []) at (None_left (rests key taken from shows asking ground past m unit rest behind told sure well now known none unframed)))

      answer_one : (event : HostEvent) → behind ≡ event ∷ [] → OneLeft key taken from past answered_next event → Then (Good unit)
      answer_one event is left =
          subst (λ (l : List HostEvent). BehindSo key taken from (first_of key) (past ++ told) answered_next l) (sym is)
          (subst (λ (l : List Entry). BehindSo key taken from (first_of key) l answered_next (event ∷ [])) at (One_left event left))

    ack_left : SureStep taken sure.run (Judges (Good Ack) rest behind told) → IsJudgedNow m (Good Ack) rest behind told → Then (Good Ack)
    ack_left well now = by (is_busy m.state.side.turn) now.followed
      where
        by : (b : Bool) → behind ≡ told_if b IsSent → Then (Good Ack)
        by true is =
            answer_one Ack (λ x. x) well now now.told_so (Requests_do IsSent BetweenTicks) is
            (acknowledged_so key taken from shows asking ground past m Ack rest behind told sure well now known now.told_so (λ x. x))
        by false is = answer_none Ack (λ x. x) well now now.told_so is

    nak_left : SureStep taken sure.run (Judges (Good Nak) rest behind told) → IsJudgedNow m (Good Nak) rest behind told → Then (Good Nak)
    nak_left well now = by (gives_up m.state.side.turn (turn_refused m.state.side.turn)) refl now.followed
      where
        by : (b : Bool) → gives_up m.state.side.turn (turn_refused m.state.side.turn) ≡ b → behind ≡ told_if b Fails → Then (Good Nak)
        by true gives is =
            answer_one Nak (λ x. x) well now now.told_so (Requests_do Fails BetweenTicks) is
            (fails_so key taken from shows asking ground past m Nak rest behind told sure well now known now.told_so (λ x. x) (unit_text Nak) refl refl gives is)
        by false gives is = answer_none Nak (λ x. x) well now now.told_so is

    can_left : SureStep taken sure.run (Judges (Good Can) rest behind told) → IsJudgedNow m (Good Can) rest behind told → Then (Good Can)
    can_left well now = by (gives_up m.state.side.turn (turn_refused m.state.side.turn)) refl now.followed
      where
        by : (b : Bool) → gives_up m.state.side.turn (turn_refused m.state.side.turn) ≡ b → behind ≡ told_if b Fails → Then (Good Can)
        by true gives is =
            answer_one Can (λ x. x) well now now.told_so (Requests_do Fails BetweenTicks) is
            (fails_so key taken from shows asking ground past m Can rest behind told sure well now known now.told_so (λ x. x) (unit_text Can) refl refl gives is)
        by false gives is = answer_none Can (λ x. x) well now now.told_so is

    frame_left : (f : FrameParts) → SureStep taken sure.run (Judges (Good (Framed f)) rest behind told) → IsJudgedNow m (Good (Framed f)) rest behind told → (BringsPayload (Good (Framed f)) → ⊥) → Then (Good (Framed f))
    frame_left f well now no_payload = by now.told_so
      where
        by : AreTold (Write Ack ∷ []) told → Then (Good (Framed f))
        by (marks, more, is, marked, none) =
            let are : told ≡ acknowledges ∷ marks
            = is ∙ ap (λ (l : List Entry). acknowledges ∷ (marks ++ l)) none ∙ ap (λ (l : List Entry). acknowledges ∷ l) (append-nil marks) in
            framed_left past m f rest behind told marks sure well now known are marked no_payload

  pub item_follows : (next : Phase) (past told : List Entry) (m : HostMachine) (item : Item) (rest : List LineUnit) (behind : List HostEvent) → (BringsPayload item → ⊥)
      → StepFollows key taken from Open past m (Judges item rest behind told) next
  item_follows next past told m item rest behind no_payload sure well may known =
      subst (λ (p : Phase). KnowsCourse key taken from (first_of key) p (past ++ told) (happens m (Judges item rest behind told))) (sym may.2) (by item no_payload well may.1)
    where
      by : (item : Item) → (BringsPayload item → ⊥) → SureStep taken sure.run (Judges item rest behind told) → IsJudgedNow m item rest behind told
          → BehindSo key taken from (first_of key) (past ++ told) (record (done m (Hears item)) { came = rest }) behind
      by (Good Ack) unpaid well now = ack_left past told m rest behind sure known well now
      by (Good Nak) unpaid well now = nak_left past told m rest behind sure known well now
      by (Good Can) unpaid well now = can_left past told m rest behind sure known well now
      by (Good (Framed f)) unpaid well now = frame_left past told m rest behind sure known f well now unpaid
      by (Refused refusal) unpaid well now = refused_left past told m rest behind sure known refusal now
