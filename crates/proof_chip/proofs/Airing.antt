-- What the chip is asked by a frame that it answers ACK, and which SendData it then has taken: as long as nothing else stands behind that answer, the frame that it is to put on the air is
-- that of the SendData that it took there, and none where it took none.
use Rattle.std.proofs.Common.{◌≡◌, ◌<◌, ◌≤◌, ℕ, ◌+◌, ◌==◌, ◌&&◌, ◌||◌, Bool, true, false, if◌then◌else◌, List, [], ◌∷◌, ◌++◌, map, filter, length, refl, sym, ap, ap₂, ◌∙◌, subst, append-nil, append_assoc, eq-eqb, arith}
use Rattle.std.specs.Prelude.{Option, Some, None, Result, Ok, Err, slice_get}
use Rattle.std.specs.List.{flat_map, AllByRecursion}
use Rattle.std.proofs.lemmas.Bool.{eqb-true}
use Rattle.serial_frame.specs.Frame.{FrameParts}
use Rattle.serial_frame.specs.declared.frame.Kind.{Kind}
use Rattle.serial_frame.specs.declared.frame.Kind.TheVariants.{Request as of_request, Response as of_response}
use Rattle.chip_functions.specs.Request.{request_of}
use Rattle.chip_functions.specs.declared.fault.BodyFault.{BodyFault}
use Rattle.chip_functions.specs.declared.request.Request.{Request}
use Rattle.chip_functions.specs.declared.request.Request.TheVariants.{GetInitData, GetCapabilities, SendData, GetVersion, SendDataAbort, MemoryGetId, GetNodeProtocolInfo, AddNode, RequestNodeInfo, IsFailedNode, GetRoutingInfo}
use Rattle.chip_sim.specs.Requests.{asked as asked_of, read_of}
use Rattle.chip_sim.specs.Rules.{listed as listed_of}
use Rattle.zw_words.specs.declared.side.Side.TheVariants.{Host as by_host, Chip as by_chip}
use Rattle.zw_text.specs.declared.entry.Entry.{Entry}
use Rattle.zw_text.specs.declared.entry.Entry.TheVariants as entry
use Rattle.zw_text.specs.Transcript.{folded}
use Rattle.zw_text.proofs.Views.{folded-append}
use Rattle.law_transcript.specs.Lists.{listed, shown_after}
use Rattle.law_transcript.specs.Units.{read_well}
use Rattle.law_wire.specs.Asked.{Asked, Course, Sending, acks, asked, asked_at, clock_of, in_tick, is_ack, last_sending, requests_at, requests_of, sending_after, sending_by, sending_of, takes}
use Rattle.law_wire.specs.Taking.{answer_step, begins_answer, goes_on, is_answering, to_air}
use Rattle.proof_chip.proofs.Agreeing.{acks_more}
use Rattle.proof_chip.proofs.Picking.{shown_both}

-- ---- requests

-- a frame asks the same of the chip as by the transcript
read_same : (read : Result Request BodyFault) → read_well read ≡ listed_of (read_of read)
read_same (Ok request) = refl
read_same (Err fault) = refl

pub requests_are : (f : FrameParts) → requests_of f ≡ listed_of (asked_of f)
requests_are f = by f.kind refl
  where
    by : (kind : Kind) → f.kind ≡ kind → requests_of f ≡ listed_of (asked_of f)
    by of_request is = rw is (read_same (request_of f.func f.body))
    by of_response is = rw is refl

-- ---- which SendData were taken

-- the one that a request is, where it is taken with these under way
abbrev pub taken_by : List Entry → List Sending → Option Request → List Sending
taken_by past under_way None = []
taken_by past under_way (Some (SendData node payload options id)) = if takes past under_way node payload then sending_of past node payload id ∷ [] else []
taken_by past under_way (Some request) = []

pub sending_both : (before : List Sending) (one more : List Asked) → sending_after before (one ++ more) ≡ sending_after (sending_after before one) more
sending_both before [] more = refl
sending_both before (first ∷ one) more = sending_both (sending_by first.past (in_tick (clock_of first.past) before) first.request) one more

-- ---- entries of one answer

-- an entry that is no ACK of the chip
abbrev pub IsNoAck : Entry → Type 0
IsNoAck (entry.Written by_chip unit) = is_ack unit ≡ false
IsNoAck e = Unit {0}

no_ack_at : (e : Entry) → IsNoAck e → acks (e ∷ []) ≡ 0
no_ack_at (entry.Written by_chip unit) no_ack = ap (λ (b : Bool). length (if b then unit ∷ [] else [])) no_ack
no_ack_at (entry.Written by_host unit) no_ack = refl
no_ack_at e no_ack = refl

pub no_acks : (told : List Entry) → AllByRecursion IsNoAck told → acks told ≡ 0
no_acks [] none = refl
no_acks (e ∷ told) none =
    let parts = acks_more (e ∷ []) told in
    let first = no_ack_at e none.0 in
    let rest = no_acks told none.1 in
    omega (arith, parts, first, rest)

-- the answer to a good frame
abbrev pub answer : Entry
answer = entry.Written by_chip (6 ∷ [])

-- an entry of the same answer
abbrev pub IsMore : Entry → Type 0
IsMore e = (goes_on e ≡ true) × IsNoAck e

more_answers : (told : List Entry) → AllByRecursion IsMore told → folded answer_step true told ≡ true
more_answers [] all = refl
more_answers (e ∷ told) all = ap (λ (b : Bool). folded answer_step b told) (step e all.0.0) ∙ more_answers told all.1
  where
    or_true : (b : Bool) → (b || true) ≡ true
    or_true true = refl
    or_true false = refl

    step : (e : Entry) → goes_on e ≡ true → answer_step true e ≡ true
    step e goes = ap (λ (b : Bool). begins_answer e || (true && b)) goes ∙ or_true (begins_answer e)

pub no_ack_all : (told : List Entry) → AllByRecursion IsMore told → AllByRecursion IsNoAck told
no_ack_all [] all = tt
no_ack_all (e ∷ told) all = (all.0.1, no_ack_all told all.1)

-- ---- after an answer

module _ (course : Course) where
  pub last_more : (past told : List Entry) → last_sending course (past ++ told) ≡ sending_after (last_sending course past) (shown_after (asked_at course) past told)
  last_more past told = ap (λ (l : List Asked). sending_after [] l) (shown_both (asked_at course) [] past told) ∙ sending_both [] (asked course past) (shown_after (asked_at course) past told)

  none_at : (past : List Entry) (e : Entry) → IsNoAck e → asked_at course past e ≡ []
  none_at past (entry.Written by_chip unit) no_ack =
      ap (λ (b : Bool). map (λ (request : Request). record { request = request; past = past }) (if b then flat_map requests_of (listed (slice_get course.passed (acks past))) else [])) no_ack
  none_at past (entry.Written by_host unit) no_ack = refl
  none_at past e no_ack = refl

  pub none_asked : (told past : List Entry) → AllByRecursion IsNoAck told → shown_after (asked_at course) past told ≡ []
  none_asked [] past none = refl
  none_asked (e ∷ told) past none = ap₂ (λ (a b : List Asked). a ++ b) (none_at past e none.0) (none_asked told (past ++ e ∷ []) none.1)

  pub same_last : (past told : List Entry) → AllByRecursion IsNoAck told → last_sending course (past ++ told) ≡ last_sending course past
  same_last past told none = last_more past told ∙ ap (λ (l : List Asked). sending_after (last_sending course past) l) (none_asked told past none)

  -- ---- places

  -- it was taken before so many answers were given
  abbrev IsBefore : ℕ → Sending → Type 0
  IsBefore count sending = sending.place < count

  before_more : (count more : ℕ) → count ≤ more → (sendings : List Sending) → AllByRecursion (IsBefore count) sendings → AllByRecursion (IsBefore more) sendings
  before_more count more above [] all = tt
  before_more count more above (sending ∷ sendings) all = let first = all.0 in (omega (arith, first, above), before_more count more above sendings all.1)

  before_in : (count clock : ℕ) (sendings : List Sending) → AllByRecursion (IsBefore count) sendings → AllByRecursion (IsBefore count) (in_tick clock sendings)
  before_in count clock [] all = tt
  before_in count clock (sending ∷ sendings) all = by (sending.clock == clock) (before_in count clock sendings all.1)
    where
      by : (b : Bool) → AllByRecursion (IsBefore count) (in_tick clock sendings) → AllByRecursion (IsBefore count) (if b then sending ∷ in_tick clock sendings else in_tick clock sendings)
      by true rest = (all.0, rest)
      by false rest = rest

  before_by : (past : List Entry) (under_way : List Sending) (request : Request) → AllByRecursion (IsBefore (acks past + 1)) under_way → AllByRecursion (IsBefore (acks past + 1)) (sending_by past under_way request)
  before_by past under_way (SendData node payload options id) all = by (takes past under_way node payload)
    where
      by : (b : Bool) → AllByRecursion (IsBefore (acks past + 1)) (if b then sending_of past node payload id ∷ [] else under_way)
      by true = (omega arith, tt)
      by false = all
  before_by past under_way SendDataAbort all = tt
  before_by past under_way request all = all

  before_asked : (past : List Entry) (requests : List Request) (before : List Sending) → AllByRecursion (IsBefore (acks past + 1)) before
      → AllByRecursion (IsBefore (acks past + 1)) (sending_after before (map (λ (request : Request). record { request = request; past = past }) requests))
  before_asked past [] before all = all
  before_asked past (request ∷ requests) before all =
      before_asked past requests (sending_by past (in_tick (clock_of past) before) request) (before_by past (in_tick (clock_of past) before) request (before_in (acks past + 1) (clock_of past) before all))

  ack_count : (unit : List ℕ) → is_ack unit ≡ true → acks (entry.Written by_chip unit ∷ []) ≡ 1
  ack_count unit ack = ap (λ (b : Bool). length (if b then unit ∷ [] else [])) ack

  one_before : (past : List Entry) (e : Entry) (before : List Sending) → AllByRecursion (IsBefore (acks past)) before
      → AllByRecursion (IsBefore (acks (past ++ e ∷ []))) (sending_after before (asked_at course past e))
  one_before past (entry.Written by_chip unit) before all = by (is_ack unit) refl
    where
      requests : List Request
      requests = requests_at course past (entry.Written by_chip unit)

      by : (b : Bool) → is_ack unit ≡ b → AllByRecursion (IsBefore (acks (past ++ entry.Written by_chip unit ∷ []))) (sending_after before (asked_at course past (entry.Written by_chip unit)))
      by true ack =
          subst (λ (n : ℕ). AllByRecursion (IsBefore n) (sending_after before (asked_at course past (entry.Written by_chip unit))))
          (sym (acks_more past (entry.Written by_chip unit ∷ []) ∙ ap (λ (n : ℕ). acks past + n) (ack_count unit ack)))
          (before_asked past requests before (before_more (acks past) (acks past + 1) (omega arith) before all))
      by false ack =
          subst (λ (l : List Asked). AllByRecursion (IsBefore (acks (past ++ entry.Written by_chip unit ∷ []))) (sending_after before l)) (sym (none_at past (entry.Written by_chip unit) ack))
          (before_more (acks past) (acks (past ++ entry.Written by_chip unit ∷ [])) (let more = acks_more past (entry.Written by_chip unit ∷ []) in omega (arith, more)) before all)
  one_before past (entry.Written by_host unit) before all = before_more (acks past) _ (let more = acks_more past (entry.Written by_host unit ∷ []) in omega (arith, more)) before all
  one_before past e before all = before_more (acks past) _ (let more = acks_more past (e ∷ []) in omega (arith, more)) before all

  before_from : (told past : List Entry) (before : List Sending) → AllByRecursion (IsBefore (acks past)) before
      → AllByRecursion (IsBefore (acks (past ++ told))) (sending_after before (shown_after (asked_at course) past told))
  before_from [] past before all = subst (λ (l : List Entry). AllByRecursion (IsBefore (acks l)) before) (sym (append-nil past)) all
  before_from (e ∷ told) past before all =
      subst (λ (l : List Sending). AllByRecursion (IsBefore (acks (past ++ e ∷ told))) l) (sym (sending_both before (asked_at course past e) (shown_after (asked_at course) (past ++ e ∷ []) told)))
      (subst (λ (l : List Entry). AllByRecursion (IsBefore (acks l)) (sending_after (sending_after before (asked_at course past e)) (shown_after (asked_at course) (past ++ e ∷ []) told)))
      (append_assoc past (e ∷ []) told) (before_from told (past ++ e ∷ []) (sending_after before (asked_at course past e)) (one_before past e before all)))

  pub taken_before : (past : List Entry) → AllByRecursion (IsBefore (acks past)) (last_sending course past)
  taken_before past = before_from past [] [] tt

  -- what was asked where an answer and entries that are none were added
  asked_there : (past told : List Entry) → AllByRecursion IsNoAck told → last_sending course (past ++ answer ∷ told) ≡ sending_after (last_sending course past) (asked_at course past answer)
  asked_there past told none =
      last_more past (answer ∷ told)
      ∙ ap (λ (l : List Asked). sending_after (last_sending course past) (asked_at course past answer ++ l)) (none_asked told (past ++ answer ∷ []) none)
      ∙ ap (λ (l : List Asked). sending_after (last_sending course past) l) (append-nil (asked_at course past answer))

  -- the requests of the frame that is answered
  pub asked_here : (past : List Entry) (f : FrameParts) → slice_get course.passed (acks past) ≡ Some f
      → asked_at course past answer ≡ map (λ (request : Request). record { request = request; past = past }) (listed_of (asked_of f))
  asked_here past f passed =
      ap (λ (o : Option FrameParts). map (λ (request : Request). record { request = request; past = past }) (flat_map requests_of (listed o))) passed
      ∙ ap (λ (l : List Request). map (λ (request : Request). record { request = request; past = past }) l) (append-nil (requests_of f) ∙ requests_are f)

  -- the SendData that are not over after it
  pub last_answered : (past told : List Entry) (f : FrameParts) → slice_get course.passed (acks past) ≡ Some f → AllByRecursion IsNoAck told
      → last_sending course (past ++ answer ∷ told) ≡ sending_after (last_sending course past) (map (λ (request : Request). record { request = request; past = past }) (listed_of (asked_of f)))
  last_answered past told f passed none =
      asked_there past told none ∙ ap (λ (l : List Asked). sending_after (last_sending course past) l) (asked_here past f passed)

  module _ (past told : List Entry) (more : AllByRecursion IsMore told) where
    abbrev all : List Entry
    all = past ++ answer ∷ told

    answered : is_answering all ≡ true
    answered = folded-append answer_step false past (answer ∷ told) ∙ more_answers told more

    acked : acks all ≡ acks past + 1
    acked =
        let first = acks_more past (answer ∷ told) in
        let rest = acks_more (answer ∷ []) told in
        let none = no_acks told (no_ack_all told more) in
        omega (arith, first, rest, none)

    air_is : to_air course all ≡ filter (λ (sending : Sending). sending.place + 1 == acks past + 1) (sending_after (last_sending course past) (asked_at course past answer))
    air_is =
        ap (λ (b : Bool). if b then filter (λ (sending : Sending). sending.place + 1 == acks all) (last_sending course all) else []) answered
        ∙ ap₂ (λ (n : ℕ) (l : List Sending). filter (λ (sending : Sending). sending.place + 1 == n) l) acked (asked_there past told (no_ack_all told more))

    -- one that was taken earlier is none of this answer
    none_earlier : (sendings : List Sending) → AllByRecursion (IsBefore (acks past)) sendings → filter (λ (sending : Sending). sending.place + 1 == acks past + 1) sendings ≡ []
    none_earlier [] before = refl
    none_earlier (sending ∷ sendings) before =
        by (sending.place + 1 == acks past + 1) refl (none_earlier sendings before.1)
      where
        by : (b : Bool) → (sending.place + 1 == acks past + 1) ≡ b → filter (λ (other : Sending). other.place + 1 == acks past + 1) sendings ≡ []
            → (if b then sending ∷ filter (λ (other : Sending). other.place + 1 == acks past + 1) sendings else filter (λ (other : Sending). other.place + 1 == acks past + 1) sendings) ≡ []
        by true is rest = absurd (let same = eqb-true (sending.place + 1) (acks past + 1) is in let below = before.0 in omega (arith, same, below))
        by false is rest = rest

    this_one : (node : ℕ) (payload : List ℕ) (id : ℕ) → filter (λ (sending : Sending). sending.place + 1 == acks past + 1) (sending_of past node payload id ∷ []) ≡ sending_of past node payload id ∷ []
    this_one node payload id = ap (λ (b : Bool). if b then sending_of past node payload id ∷ [] else []) (eq-eqb (acks past + 1) (acks past + 1) refl)

    abbrev under : List Sending
    under = in_tick (clock_of past) (last_sending course past)

    under_before : AllByRecursion (IsBefore (acks past)) under
    under_before = before_in (acks past) (clock_of past) (last_sending course past) (taken_before past)

    by_request : (request : Request) → filter (λ (sending : Sending). sending.place + 1 == acks past + 1) (sending_by past under request) ≡ taken_by past under (Some request)
    by_request (SendData node payload options id) = by (takes past under node payload)
      where
        by : (b : Bool) → filter (λ (sending : Sending). sending.place + 1 == acks past + 1) (if b then sending_of past node payload id ∷ [] else under)
            ≡ (if b then sending_of past node payload id ∷ [] else [])
        by true = this_one node payload id
        by false = none_earlier under under_before
    by_request SendDataAbort = refl
    by_request GetInitData = none_earlier under under_before
    by_request GetCapabilities = none_earlier under under_before
    by_request GetVersion = none_earlier under under_before
    by_request MemoryGetId = none_earlier under under_before
    by_request (GetNodeProtocolInfo node) = none_earlier under under_before
    by_request (AddNode mode id) = none_earlier under under_before
    by_request (RequestNodeInfo node) = none_earlier under under_before
    by_request (IsFailedNode node) = none_earlier under under_before
    by_request (GetRoutingInfo node x y z) = none_earlier under under_before

    -- what is to go on the air then is what the frame that was answered asks for
    pub air_of : (f : FrameParts) → slice_get course.passed (acks past) ≡ Some f → to_air course all ≡ taken_by past under (asked_of f)
    air_of f passed = air_is ∙ ap (λ (l : List Asked). filter (λ (sending : Sending). sending.place + 1 == acks past + 1) (sending_after (last_sending course past) l)) (asked_here past f passed) ∙ by (asked_of f)
      where
        by : (o : Option Request)
            → filter (λ (sending : Sending). sending.place + 1 == acks past + 1) (sending_after (last_sending course past) (map (λ (request : Request). record { request = request; past = past }) (listed_of o)))
            ≡ taken_by past under o
        by None = none_earlier (last_sending course past) (taken_before past)
        by (Some request) = by_request request
