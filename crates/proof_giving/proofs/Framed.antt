-- A frame of the chip is judged: each node stays tied to its attempts, with the sign that is still to come by what follows the frame; and the request that it ends has ended as it is told.
use Rattle.std.proofs.Common.{◌≡◌, ℕ, ◌%◌, ◌==◌, ◌&&◌, ◌||◌, Bool, true, false, if◌then◌else◌, inl, inr, List, [], ◌∷◌, ◌++◌, length, Option, Some, None, refl, sym, ap, ap₂, ◌∙◌, subst, append-nil}
use Rattle.std.specs.Prelude.{Result, Ok, Err}
use Rattle.std.specs.List.{AllByRecursion, flat_map, list_any}
use Rattle.std.proofs.lemmas.Bool.{and_left, and_right, both_ways, eq-eqb, eqb-true}
use Rattle.serial_frame.specs.Frame.{FrameParts, checksum, framed, kind_code}
use Rattle.serial_frame.specs.Items.{unit_text}
use Rattle.serial_frame.specs.declared.frame.Kind.{Kind}
use Rattle.serial_frame.specs.declared.frame.Kind.TheVariants as kind
use Rattle.serial_frame.specs.declared.item.Item.TheVariants.{Good}
use Rattle.serial_frame.specs.declared.unit.TheConstants.{ACK}
use Rattle.serial_frame.specs.declared.unit.Unit.{Unit as LineUnit}
use Rattle.serial_frame.specs.declared.unit.Unit.TheVariants.{Framed}
use Rattle.chip_functions.specs.Notice.{notice_of, status_code}
use Rattle.chip_functions.specs.declared.function.TheConstants.{SEND_DATA}
use Rattle.chip_functions.specs.Response.{response_of}
use Rattle.chip_functions.specs.declared.fault.BodyFault.{BodyFault}
use Rattle.chip_functions.specs.declared.notice.Notice.{Notice}
use Rattle.chip_functions.specs.declared.notice.Notice.TheVariants.{AddNode, ApplicationCommandHandler, ApplicationUpdate, SendData as CalledBack}
use Rattle.chip_functions.specs.declared.notice.TransmitStatus.{TransmitStatus}
use Rattle.chip_functions.specs.declared.notice.TransmitStatus.TheVariants.{CompleteOk, NoAck, Fail, NotIdle, NoRoute}
use Rattle.chip_functions.specs.declared.notice.Update.{Update}
use Rattle.chip_functions.specs.declared.notice.Update.TheVariants.{Received, RequestFailed}
use Rattle.chip_functions.specs.declared.request.Request.{Request}
use Rattle.chip_functions.specs.declared.request.Request.TheVariants.{SendData}
use Rattle.chip_functions.specs.declared.response.Response.{Response}
use Rattle.zw_words.specs.declared.side.Side.TheVariants.{Host}
use Rattle.zw_text.specs.declared.entry.Entry.{Entry}
use Rattle.zw_text.specs.declared.entry.Entry.TheVariants as entry
use Rattle.zw_text.specs.Transcript.{sessions}
use Rattle.host_heard.specs.Telling.{heard_at}
use Rattle.host_heard.specs.declared.told.Told.{Told}
use Rattle.law_transcript.specs.Units.{Carried, bringing_in, bringing_of, notice_in, read_well}
use Rattle.law_time.specs.Attempts.{is_at_work, is_sign}
use Rattle.law_time.specs.Ends.{calls_back, is_abort_frame, is_called_back, is_ending_here}
use Rattle.law_time.specs.Heeds.{Heeds, taken_here}
use Rattle.law_time.specs.Judged.{acknowledged, brought_here, is_data, judged_here, notices_here}
use Rattle.law_time.specs.Moments.{clock}
use Rattle.law_time.specs.Requests.{Asked, asked, request_last}
use Rattle.host_requests.specs.Events.{RequestsEvent, end_at}
use Rattle.host_requests.specs.Events.RequestsEvent.{CallsBack, Responds, Updates}
use Rattle.host_requests.specs.Frames.{function_of, request_of}
use Rattle.host_requests.specs.Next.{at_callback, end_from, end_of}
use Rattle.host_requests.specs.declared.end.End.{End}
use Rattle.host_requests.specs.declared.end.How.{How}
use Rattle.host_requests.specs.declared.end.How.TheVariants.{AtCallback}
use Rattle.host_requests.specs.declared.next.Next.{Next}
use Rattle.host_requests.specs.declared.next.Next.TheVariants.{Ends, GoesOn}
use Rattle.host_requests.specs.declared.task.Purpose.{Purpose}
use Rattle.host_requests.specs.declared.task.Purpose.TheVariants.{Attempt, Housekeeping, Abort}
use Rattle.host_requests.specs.declared.under_way.UnderWay.{UnderWay}
use Rattle.host_node.specs.declared.attempt.Moment.TheVariants.{BetweenTicks}
use Rattle.host_node.specs.declared.series.Series.{Series}
use Rattle.host_node.specs.declared.series.Series.TheVariants.{Idle, Due, Running}
use Rattle.host_node.specs.State.{NodeState, is_running}
use Rattle.host_model.specs.State.{HostState, node_of}
use Rattle.host_model.specs.After.{after}
use Rattle.host_model.specs.Ends.{part_end}
use Rattle.host_model.specs.Events.{HostEvent, Hears, Interview_unkept, Interviews, Requests_do}
use Rattle.host_model.specs.Facts.{HostFacts}
use Rattle.host_model.specs.Taking.{FrameEvents, InterviewEvents, NoticeEvents, PayloadEvents, ResponseEvents}
use Rattle.proof_queue.specs.Heeding.{heeded_frame, heeded_notice, heeded_payload}
use Rattle.proof_queue.specs.proof_attempts.proof_requests.Asking.{TieAsked, TieUnderWay, WasAsked, doing_of}
use Rattle.proof_queue.specs.proof_attempts.proof_requests.Ends.{EndsBy, EndsFrom, EndsHere, EndsNone, next_at}
use Rattle.proof_queue.specs.proof_attempts.proof_requests.Saying.{frame_next, kind_next, notice_next, response_next}
use Rattle.proof_queue.specs.proof_attempts.proof_requests.Standing.{Standing, first_ending, standing_of, with_judging}
use Rattle.proof_queue.specs.proof_attempts.proof_requests.law_host.Heard.{heeds_alone}
use Rattle.proof_queue.specs.proof_attempts.proof_requests.proof_alone.Steps.{IsOfUnit}
use Rattle.proof_queue.specs.proof_attempts.proof_requests.proof_waking.Judged.{TieFrames}
use Rattle.proof_queue.specs.proof_attempts.proof_work.Doing.{IsTold}
use Rattle.proof_queue.proofs.Bodies.{body_is}
use Rattle.proof_queue.proofs.proof_requests_EndsHere.{frame_ends_so, frame_here}
use Rattle.proof_queue.proofs.proof_requests_Growing.{asked_on}
use Rattle.proof_queue.proofs.Telling.{same_sessions_by}
use Rattle.proof_giving.specs.Told.{attempts_so_far}
use Rattle.proof_giving.specs.Stays.{ShowsSessions, Stays}
use Rattle.proof_giving.specs.Tie.{AttemptsAs, AttemptsSo, NodeSo, is_for, is_good, is_good_for, is_good_of, signed}
use Rattle.proof_giving.specs.Walking.{EndsAsTold, EndsSo, IsMild, gives_sign, sign_at, works_among, works_at}
use Rattle.proof_giving.proofs.Acked.{acked_own, acked_so}
use Rattle.proof_giving.proofs.Along.{goes_as}
use Rattle.proof_giving.proofs.EndsSo.{frame_badly}
use Rattle.proof_giving.proofs.Fewer.{same_fewer}
use Rattle.proof_giving.proofs.Heeded.{all_follow, all_mild, others_work_not, payload_so}
use Rattle.proof_giving.proofs.Requesting.{event_ends, response_no_good, update_no_good}
use Rattle.proof_giving.proofs.Signs.{signed_still}
use Rattle.proof_giving.proofs.Staying.{same_purpose}
use Rattle.proof_giving.proofs.Stays.{judged_stands, judging_of, over_of, stays_judged}

-- ---- what is read of a frame

abbrev pub notices_of : Kind → ℕ → List ℕ → List Notice
notices_of kind.Response func body = []
notices_of kind.Request func body = read_well (notice_of func body)

pub notices_in : (k : Kind) (func : ℕ) (body : List ℕ) (sum : ℕ) → notice_in (framed (kind_code k ∷ func ∷ body) sum) ≡ notices_of k func body
notices_in kind.Response func body sum = refl
notices_in kind.Request func body sum = ap (λ (b : List ℕ). read_well (notice_of func b)) (body_is body func sum)

-- ---- a callback

-- nothing else calls back
calls_none : (l : List Request) → calls_back 0 l [] ≡ false
calls_none [] = refl
calls_none (SendData node payload options id ∷ more) = refl
calls_none (request ∷ more) = refl

abbrev IsOther : Notice → Type 0
IsOther (CalledBack id status) = ⊥
IsOther notice = Unit {0}

calls_other : (l : List Request) (notice : Notice) → IsOther notice → calls_back 0 l (notice ∷ []) ≡ false
calls_other l (CalledBack id status) other = absurd other
calls_other [] notice other = refl
calls_other (SendData node payload options id ∷ more) (ApplicationCommandHandler rx_status source text) other = refl
calls_other (SendData node payload options id ∷ more) (ApplicationUpdate update) other = refl
calls_other (SendData node payload options id ∷ more) (AddNode callback_id status information) other = refl
calls_other (request ∷ more) notice other = refl

is_ok : (status : TransmitStatus) (more : Bool) → (status_code status == 0) ≡ is_good (part_end more (AtCallback status))
is_ok CompleteOk true = refl
is_ok CompleteOk false = refl
is_ok NoAck true = refl
is_ok NoAck false = refl
is_ok Fail true = refl
is_ok Fail false = refl
is_ok NotIdle true = refl
is_ok NotIdle false = refl
is_ok NoRoute true = refl
is_ok NoRoute false = refl

neither : (own : Bool) → ((own && false) || false) ≡ false
neither true = refl
neither false = refl

-- none of these is a sign
pub mild_signs : (n : ℕ) (h : HostState) (left : List HostEvent) → AllByRecursion IsMild left → gives_sign n h left ≡ works_among n left
mild_signs n h [] all = refl
mild_signs n h (event ∷ left) all = ap (λ (b : Bool). b || works_among n left) (one event all.0)
  where
    one : (event : HostEvent) → IsMild event → sign_at n h event ≡ works_at n event
    one (Requests_do event moment) mild = absurd mild
    one event mild = refl

pub mild_ends : (past : List Entry) (now : ℕ) (h : HostState) (left : List HostEvent) → AllByRecursion IsMild left → EndsAsTold past now h left
mild_ends past now h [] all = tt
mild_ends past now h (Requests_do event moment ∷ left) all = absurd all.0
mild_ends past now h (event ∷ left) all = all

module _ (taken : List Entry → Carried → List Told) (n : ℕ) (past marks : List Entry) (f : FrameParts) (rest : List LineUnit) (marked : AllByRecursion IsOfUnit marks) (frames : TieFrames past (Framed f ∷ rest)) (h : HostState)
    (now : ℕ) (time : clock past ≡ now) (tie : TieAsked past now now (Framed f ∷ rest) (doing_of h)) (behind : List HostEvent)
    (later_time : clock (past ++ entry.Written Host (ACK ∷ []) ∷ marks) ≡ now) where
  abbrev heeds : Heeds
  heeds = heeds_alone taken

  abbrev acked : List Entry
  acked = past ++ entry.Written Host (ACK ∷ []) ∷ []

  abbrev later : List Entry
  later = past ++ entry.Written Host (ACK ∷ []) ∷ marks

  abbrev heard : HostState
  heard = after h (Hears (Good (Framed f)))

  abbrev s : NodeState
  s = node_of h n

  abbrev next : UnderWay → Next
  next = frame_next h.requests.last_id h.requests.first f

  -- ---- what stands before it

  under_tie : (u : UnderWay) → h.requests.under_way ≡ Some u → WasAsked past × (first_ending (standing_of (asked past)) ≡ [])
  under_tie u is = by tie
    where
      by : TieAsked past now now (Framed f ∷ rest) (doing_of h) → WasAsked past × (first_ending (standing_of (asked past)) ≡ [])
      by (inl nothing) = absurd (let none = nothing.none in let bad : ◌≡◌ {A = Option UnderWay} None (Some u) = sym none ∙ is in cc)
      by (inr (was, asks)) =
          let under = subst (λ (o : Option UnderWay). TieUnderWay (standing_of (asked past)) now now (acknowledged past) (doing_of h).turn (doing_of h).id (doing_of h).leaving o) is asks.under_way in
          (was, under.0.unended)

  -- ---- how the request ends by it

  ends_at : (marks : List Entry) → AllByRecursion IsOfUnit marks → EndsFrom (past ++ entry.Written Host (ACK ∷ []) ∷ marks) h.requests.last_id next h.requests.under_way
  ends_at marks marked = frame_ends_so past marks f rest now (doing_of h) marked frames time tie

  ends_so : (event : RequestsEvent) → IsTold event → ((u : UnderWay) → next_at heard.requests event u ≡ next u) → EndsSo later now heard event
  ends_so event told same u k more payload how under purpose end_is =
      let e = event_ends heard.requests event (record { purpose = u.purpose; how = how }) told end_is in
      let same_u : e.u ≡ u = let a = e.under in let both : Some e.u ≡ Some u = sym a ∙ under in cc in
      let same_how : e.how ≡ how = let is = e.is in sym (ap (λ (end : End). end.how) is) in
      let ends : next u ≡ Ends how = sym (same u) ∙ ap (λ (v : UnderWay). next_at heard.requests event v) (sym same_u) ∙ e.ends ∙ ap (λ (x : How). Ends x) same_how in
      let by_it : EndsBy later h.requests.last_id u (next u) = subst (λ (o : Option UnderWay). EndsFrom later h.requests.last_id next o) under (ends_at marks marked) in
      let here : EndsHere later h.requests.last_id (Attempt k more payload) how
      = subst (λ (p : Purpose). EndsHere later h.requests.last_id p how) purpose (subst (λ (x : Next). EndsBy later h.requests.last_id u x) ends by_it) in
      let was = under_tie u under in
      (ap (λ (t : Standing). is_data t.frame) (judged_stands past f rest marks marked was.0 frames) ∙ was.0.framed, frame_badly past marks f rest marked frames was.0 was.1 now k h.requests.last_id more payload how later_time here)

  -- ---- what is told by it

  here : judged_here acked ≡ unit_text (Framed f) ∷ []
  here = frame_here past [] f rest tt frames

  notices : notices_here acked ≡ notices_of f.kind f.func f.body
  notices =
      ap (λ (l : List (List ℕ)). flat_map notice_in l) here ∙ append-nil (notice_in (unit_text (Framed f))) ∙ notices_in f.kind f.func f.body (checksum (kind_code f.kind ∷ f.func ∷ f.body))

  brought : brought_here acked ≡ flat_map bringing_of (notices_of f.kind f.func f.body)
  brought =
      ap (λ (l : List (List ℕ)). flat_map bringing_in l) here ∙ append-nil (bringing_in (unit_text (Framed f)))
      ∙ ap (λ (l : List Notice). flat_map bringing_of l) (notices_in f.kind f.func f.body (checksum (kind_code f.kind ∷ f.func ∷ f.body)))

  abbrev own : Bool
  own = (attempts_so_far heeds n past).own

  abbrev sid : ℕ
  sid = length (sessions n acked) % 64

  abbrev called : Bool
  called = is_called_back 0 acked

  abbrev works : Bool
  works = list_any (is_at_work sid) (taken_here heeds n acked [])

  uncalled : (l : List Notice) → notices_of f.kind f.func f.body ≡ l → ((r : List Request) → calls_back 0 r l ≡ false) → called ≡ false
  uncalled l is none = and_left (calls_back 0 (request_last acked) (notices_here acked)) (is_ending_here acked) (ap (λ (k : List Notice). calls_back 0 (request_last acked) k) (notices ∙ is) ∙ none (request_last acked))

  unworked : flat_map bringing_of (notices_of f.kind f.func f.body) ≡ [] → works ≡ false
  unworked none = ap (λ (l : List Carried). list_any (is_at_work sid) (flat_map (λ carried. if carried.node == n then taken acked carried else []) l)) (brought ∙ none)

  unsigned : called ≡ false → works ≡ false → ((own && called) || works) ≡ false
  unsigned no_call no_work = ap₂ (λ (c w : Bool). (own && c) || w) no_call no_work ∙ neither own

  record Follows : Type 0 where
    signs : s.series ≡ Running → ((own && called) || works) ≡ gives_sign n heard behind
    ends : EndsAsTold later now heard behind

  -- where nothing is a sign
  quietly : (events : List HostEvent) → behind ≡ events → called ≡ false → works ≡ false → gives_sign n heard events ≡ false → EndsAsTold later now heard events → Follows
  quietly events are no_call no_work none ends = record {
    signs = λ runs. unsigned no_call no_work ∙ sym (ap (λ (l : List HostEvent). gives_sign n heard l) are ∙ none);
    ends = subst (λ (l : List HostEvent). EndsAsTold later now heard l) (sym are) ends;
  }

  -- a response
  response_follows : (read : Result Response BodyFault) → response_of f.func f.body ≡ read → f.kind ≡ kind.Response → ResponseEvents read behind → Follows
  response_follows (Ok response) read kind_is are =
      quietly (Requests_do (Responds response) BetweenTicks ∷ []) are (uncalled [] none calls_none) (unworked (ap (λ (l : List Notice). flat_map bringing_of l) none))
      (ap (λ (b : Bool). b || false) (response_no_good n heard.requests response))
      (refl, ends_so (Responds response) tt (λ u. sym (ap (λ (k : Kind). kind_next h.requests.last_id h.requests.first k f u) kind_is ∙ ap (λ (x : Result Response BodyFault). response_next x u) read)))
    where
      none : notices_of f.kind f.func f.body ≡ []
      none = ap (λ (k : Kind). notices_of k f.func f.body) kind_is
  response_follows (Err fault) read kind_is are =
      quietly [] are (uncalled [] none calls_none) (unworked (ap (λ (l : List Notice). flat_map bringing_of l) none)) refl tt
    where
      none : notices_of f.kind f.func f.body ≡ []
      none = ap (λ (k : Kind). notices_of k f.func f.body) kind_is

  -- ---- a notice

  module _ (so : AttemptsSo heeds n past h now now) (shows : ShowsSessions heeds past h n) where
    at : length (node_of heard n).book.commands % 64 ≡ sid
    at = sym (ap (λ (l : List ℕ). length l % 64) (same_sessions_by n past (entry.Written Host (ACK ∷ [])) refl ∙ shows.sessions_are))

    module _ (kind_is : f.kind ≡ kind.Request) where
      read_is : (read : Result Notice BodyFault) → notice_of f.func f.body ≡ read → notices_of f.kind f.func f.body ≡ read_well read
      read_is read is = ap (λ (k : Kind). notices_of k f.func f.body) kind_is ∙ ap read_well is

      next_is : (read : Result Notice BodyFault) → notice_of f.func f.body ≡ read → (u : UnderWay) → next u ≡ notice_next h.requests.last_id h.requests.first read u
      next_is read is u =
          ap (λ (k : Kind). kind_next h.requests.last_id h.requests.first k f u) kind_is ∙ ap (λ (x : Result Notice BodyFault). notice_next h.requests.last_id h.requests.first x u) is

      -- the payload of a node
      payload_works : (rx_status source : ℕ) (payload : List ℕ) → notice_of f.func f.body ≡ Ok (ApplicationCommandHandler rx_status source payload) → (is : PayloadEvents heard source payload (heard_at payload) behind)
          → ((carried : Carried) → taken acked carried ≡ heeded_payload heard source payload (heard_at payload) behind is) → works ≡ works_among n behind
      payload_works rx_status source payload read is heeded =
          ap (λ (l : List Carried). list_any (is_at_work sid) (flat_map (λ carried. if carried.node == n then taken acked carried else []) l))
          (brought ∙ ap (λ (l : List Notice). flat_map bringing_of l) (read_is (Ok (ApplicationCommandHandler rx_status source payload)) read))
          ∙ ap (λ (l : List Told). list_any (is_at_work sid) l) (append-nil (if source == n then taken acked (record { node = source; payload = payload }) else [])) ∙ by (source == n) refl
        where
          by : (b : Bool) → (source == n) ≡ b → list_any (is_at_work sid) (if b then taken acked (record { node = source; payload = payload }) else []) ≡ works_among n behind
          by true same =
              let is_n : source ≡ n = eqb-true source n same in
              ap (λ (l : List Told). list_any (is_at_work sid) l) (heeded (record { node = source; payload = payload }))
              ∙ payload_so source sid heard payload (heard_at payload) behind (ap (λ (k : ℕ). length (node_of heard k).book.commands % 64) is_n ∙ at) is ∙ ap (λ (k : ℕ). works_among k behind) is_n
          by false other = sym (others_work_not source n behind other (all_follow source heard payload (heard_at payload) behind is))

      payload_follows : (rx_status source : ℕ) (payload : List ℕ) → notice_of f.func f.body ≡ Ok (ApplicationCommandHandler rx_status source payload) → (is : PayloadEvents heard source payload (heard_at payload) behind)
          → ((carried : Carried) → taken acked carried ≡ heeded_payload heard source payload (heard_at payload) behind is) → Follows
      payload_follows rx_status source payload read is heeded =
          let mild : AllByRecursion IsMild behind = all_mild source behind (all_follow source heard payload (heard_at payload) behind is) in
          record {
            signs = λ runs.
                ap₂ (λ (c w : Bool). (own && c) || w)
                (uncalled (ApplicationCommandHandler rx_status source payload ∷ []) (read_is (Ok (ApplicationCommandHandler rx_status source payload)) read)
                (λ r. calls_other r (ApplicationCommandHandler rx_status source payload) tt)) (payload_works rx_status source payload read is heeded)
                ∙ only own (works_among n behind) ∙ sym (mild_signs n heard behind mild);
            ends = mild_ends later now heard behind mild;
          }
        where
          only : (a b : Bool) → ((a && false) || b) ≡ b
          only true b = refl
          only false b = refl

      -- a callback
      module _ (id : ℕ) (status : TransmitStatus) (read : notice_of f.func f.body ≡ Ok (CalledBack id status)) where
        uncalled_here : is_ending_here acked ≡ false → (own && called) ≡ false
        uncalled_here none = and_right own called (and_right (calls_back 0 (request_last acked) (notices_here acked)) (is_ending_here acked) none)

        same_frame : (asked acked).frame ≡ (asked past).frame
        same_frame = ap (λ (a : Asked). a.frame) (asked_on past (entry.Written Host (ACK ∷ []) ∷ []) refl (refl, tt))

        none_calls : EndsNone acked → (own && called) ≡ false
        none_calls (inl none) = uncalled_here none
        none_calls (inr abort) = by own refl
          where
            by : (b : Bool) → own ≡ b → (b && called) ≡ false
            by true is = absurd (both_ways (is_abort_frame (asked past).frame) (so.sends is).1 (sym (ap is_abort_frame same_frame) ∙ abort))
            by false is = refl

        called_as : (p : Purpose) (last : ℕ) → own ≡ is_for n p → request_last acked ≡ request_of p last ∷ [] → notices_here acked ≡ CalledBack last status ∷ [] → is_ending_here acked ≡ true
            → (own && called) ≡ is_good_of n p (AtCallback status)
        called_as (Attempt k more payload) last mine asks hears ends =
            ap₂ (λ (a b : Bool). a && b) mine
            (ap₂ (λ (r : List Request) (l : List Notice). calls_back 0 r l && is_ending_here acked) asks hears
            ∙ ap₂ (λ (a b : Bool). (a && (status_code status == 0)) && b) (eq-eqb last last refl) ends ∙ and_true (status_code status == 0) ∙ is_ok status more)
          where
            and_true : (b : Bool) → (b && true) ≡ b
            and_true true = refl
            and_true false = refl
        called_as (Housekeeping task) last mine asks hears ends = ap (λ (a : Bool). a && called) mine
        called_as Abort last mine asks hears ends = ap (λ (a : Bool). a && called) mine

        called_is : s.series ≡ Running → (own && called) ≡ is_good_for n (end_at heard.requests (CallsBack id status))
        called_is runs = by h.requests.under_way refl (ends_at [] tt)
          where
            by : (o : Option UnderWay) → h.requests.under_way ≡ o → EndsFrom acked h.requests.last_id next o → (own && called) ≡ is_good_for n (end_from (at_callback h.requests.last_id id status) o)
            by None none ends = none_calls ends
            by (Some u) under ends =
                at_it ((function_of u.purpose == SEND_DATA) && (id == h.requests.last_id))
                (subst (λ (x : Next). EndsBy acked h.requests.last_id u x) (next_is (Ok (CalledBack id status)) read u) ends)
              where
                at_it : (c : Bool) → EndsBy acked h.requests.last_id u (if c then Ends (AtCallback status) else GoesOn u.progress)
                    → (own && called) ≡ is_good_for n (end_of u (if c then Ends (AtCallback status) else GoesOn u.progress))
                at_it true e = called_as u.purpose h.requests.last_id (so.own runs u under) e.request e.so.1 e.so.2
                at_it false none = uncalled_here none

        callback_follows : behind ≡ Requests_do (CallsBack id status) BetweenTicks ∷ [] → Follows
        callback_follows are = record {
          signs = λ runs.
              ap₂ (λ (c w : Bool). c || w) (called_is runs) (unworked (ap (λ (l : List Notice). flat_map bringing_of l) (read_is (Ok (CalledBack id status)) read)))
              ∙ sym (ap (λ (l : List HostEvent). gives_sign n heard l) are);
          ends = subst (λ (l : List HostEvent). EndsAsTold later now heard l) (sym are) (refl, ends_so (CallsBack id status) tt (λ u. sym (next_is (Ok (CalledBack id status)) read u)));
        }

      -- an update
      module _ (update : Update) (read : notice_of f.func f.body ≡ Ok (ApplicationUpdate update)) where
        update_quietly : (events : List HostEvent) → behind ≡ events → gives_sign n heard events ≡ false → EndsAsTold later now heard events → Follows
        update_quietly events are none ends =
            quietly events are
            (uncalled (ApplicationUpdate update ∷ []) (read_is (Ok (ApplicationUpdate update)) read) (λ r. calls_other r (ApplicationUpdate update) tt))
            (unworked (ap (λ (l : List Notice). flat_map bringing_of l) (read_is (Ok (ApplicationUpdate update)) read))) none ends

        update_told : behind ≡ Requests_do (Updates update) BetweenTicks ∷ [] → Follows
        update_told are =
            update_quietly (Requests_do (Updates update) BetweenTicks ∷ []) are (ap (λ (b : Bool). b || false) (update_no_good n heard.requests update))
            (refl, ends_so (Updates update) tt (λ u. sym (next_is (Ok (ApplicationUpdate update)) read u)))

      interview_follows : (update : Update) → notice_of f.func f.body ≡ Ok (ApplicationUpdate update) → (capability : Option ℕ) → InterviewEvents update capability behind → Follows
      interview_follows (Received m basic generic specific classes) read (Some capability) (inl are) =
          update_quietly (Received m basic generic specific classes) read (Interviews m _ classes (Received m basic generic specific classes) ∷ []) are refl (tt, tt)
      interview_follows (Received m basic generic specific classes) read (Some capability) (inr are) =
          update_quietly (Received m basic generic specific classes) read (Interview_unkept m (Received m basic generic specific classes) ∷ []) are refl (tt, tt)
      interview_follows RequestFailed read (Some capability) are = update_quietly RequestFailed read [] are refl tt
      interview_follows (Received m basic generic specific classes) read None are = update_told (Received m basic generic specific classes) read are
      interview_follows RequestFailed read None are = update_told RequestFailed read are

      notice_follows : (read : Result Notice BodyFault) → notice_of f.func f.body ≡ read → (is : NoticeEvents heard read behind) → ((carried : Carried) → taken acked carried ≡ heeded_notice heard read behind is) → Follows
      notice_follows (Ok (ApplicationCommandHandler rx_status source payload)) read is heeded = payload_follows rx_status source payload read is heeded
      notice_follows (Ok (CalledBack id status)) read is heeded = callback_follows id status read is
      notice_follows (Ok (ApplicationUpdate update)) read is heeded = interview_follows update read _ is
      notice_follows (Ok (AddNode callback_id status information)) read is heeded =
          quietly [] is
          (uncalled (AddNode callback_id status information ∷ []) (read_is (Ok (AddNode callback_id status information)) read) (λ r. calls_other r (AddNode callback_id status information) tt))
          (unworked (ap (λ (l : List Notice). flat_map bringing_of l) (read_is (Ok (AddNode callback_id status information)) read))) refl tt
      notice_follows (Err fault) read is heeded =
          quietly [] is (uncalled [] (read_is (Err fault) read) calls_none) (unworked (ap (λ (l : List Notice). flat_map bringing_of l) (read_is (Err fault) read))) refl tt

    kind_follows : (k : Kind) → f.kind ≡ k → (is : FrameEvents heard k f.func f.body behind) → ((carried : Carried) → taken acked carried ≡ heeded_frame heard k f.func f.body behind is) → Follows
    kind_follows kind.Response kind_is is heeded = response_follows (response_of f.func f.body) refl kind_is is
    kind_follows kind.Request kind_is is heeded = notice_follows kind_is (notice_of f.func f.body) refl is heeded

    -- ---- the node

    module _ (facts : HostFacts h) (others : HostFacts heard) (showing : ShowsSessions heeds later heard n) (follows : Follows) where
      stands : own ≡ true → standing_of (asked later) ≡ with_judging (standing_of (asked past)) (judging_of past f)
      stands mine = judged_stands past f rest marks marked (was_asked (so.sends mine).0) frames
        where
          was_asked : is_data (asked past).frame ≡ true → WasAsked past
          was_asked is = by tie
            where
              by : TieAsked past now now (Framed f ∷ rest) (doing_of h) → WasAsked past
              by (inl nothing) = absurd (let bad : false ≡ true = sym (ap is_data nothing.unasked) ∙ is in cc)
              by (inr (was, asks)) = was

      stays : Stays heeds n past later h heard now
      stays = record {
        under = same_purpose h heard refl;
        frame = λ mine. ap (λ (t : Standing). t.frame) (stands mine);
        ended = λ mine none inner.
            stays_judged inner past now (doing_of h) (over_of past now now (Framed f ∷ rest) (doing_of h) tie none (so.sends mine).0) (so.sends mine).1 f rest marks marked time frames;
        shows = shows;
        showing = showing;
        facts = facts;
        others = others;
        keeps = record { commands = refl; opens = λ session is. is; orders = λ number c found. refl };
        fewer = same_fewer s;
      }

      same_signs : signed (is_sign heeds n own acked []) s ≡ signed (gives_sign n heard behind) s
      same_signs = by s.series refl
        where
          still : is_running s.series ≡ false → signed (is_sign heeds n own acked []) s ≡ signed (gives_sign n heard behind) s
          still none = signed_still (is_sign heeds n own acked []) s none ∙ sym (signed_still (gives_sign n heard behind) s none)

          by : (x : Series) → s.series ≡ x → signed (is_sign heeds n own acked []) s ≡ signed (gives_sign n heard behind) s
          by Idle is = still (ap is_running is)
          by Due is = still (ap is_running is)
          by Running is = ap (λ (b : Bool). signed b s) (follows.signs is)

      frame_goes : AttemptsAs (gives_sign n heard behind) heeds n later heard now now
      frame_goes =
          goes_as taken n past later h heard now stays false (gives_sign n heard behind) now now (attempts_so_far heeds n later) refl (λ mine. sym (acked_own taken n past marks marked) ∙ mine)
          (λ runs. acked_own taken n past marks marked) so
          (λ badly tied. subst (λ (t : NodeState). NodeSo (attempts_so_far heeds n later) t now badly) same_signs (acked_so taken n past marks now s badly marked time tied))

    -- with the sign that is to come
    pub judged_goes : HostFacts h → HostFacts heard → ShowsSessions heeds later heard n → (is : FrameEvents heard f.kind f.func f.body behind)
        → ((carried : Carried) → taken acked carried ≡ heeded_frame heard f.kind f.func f.body behind is)
        → AttemptsAs (gives_sign n heard behind) heeds n later heard now now × EndsAsTold later now heard behind
    judged_goes facts others showing is heeded = let follows = kind_follows f.kind refl is heeded in (frame_goes facts others showing follows, follows.ends)
