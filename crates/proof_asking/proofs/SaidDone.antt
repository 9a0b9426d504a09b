-- Where each end of a request is told as the transcript has it, how a Set or Get ended that a line asked for is said as the transcript tells.
use Rattle.std.proofs.Common.{◌≡◌, ◌⊎◌, ℕ, ◌==◌, ◌&&◌, ◌||◌, not, Bool, true, false, if◌then◌else◌, inl, inr, List, [], ◌∷◌, ◌++◌, refl, sym, ap, ap₂, ◌∙◌, subst}
use Rattle.std.specs.Prelude.{Result, Ok, Err}
use Rattle.std.specs.List.{AllByRecursion, flat_map, list_any}
use Rattle.std.specs.Str.{bytes_eq}
use Rattle.std.proofs.lemmas.Bool.{and_from, and_left, and_right, eq-eqb, or_left, or_right}
use Rattle.std.proofs.lemmas.Slice.Eq.{bytes_eq-Decides}
use Rattle.zw_base.proofs.Each.{all-append}
use Rattle.chip_functions.specs.declared.fault.BodyFault.{BodyFault}
use Rattle.chip_functions.specs.declared.request.Request.{Request}
use Rattle.chip_functions.specs.declared.request.Request.TheVariants as requests
use Rattle.chip_functions.specs.Request.{request_of as read_request}
use Rattle.zw_words.specs.declared.side.Side.TheVariants.{Host, Chip}
use Rattle.zw_text.specs.declared.line.Line.{Line}
use Rattle.zw_text.specs.declared.line.Line.TheVariants as lines
use Rattle.zw_text.specs.declared.entry.Done.{Done}
use Rattle.zw_text.specs.declared.entry.Entry.{Entry}
use Rattle.zw_text.specs.declared.entry.Entry.TheVariants as entry
use Rattle.zw_text.specs.Transcript.{line_of}
use Rattle.law_transcript.specs.Lists.{EachAfter, Has}
use Rattle.law_transcript.specs.Nodes.{host_list}
use Rattle.law_transcript.specs.Payloads.{asked_by, asked_for, asked_from, MayRequest, SendsWhatIsDue}
use Rattle.law_transcript.specs.Restarts.{begins_refused}
use Rattle.law_transcript.specs.Units.{Carried, body_in, function_in, is_frame, read_well, sending_in, sending_of}
use Rattle.law_time.specs.Moments.{Allows}
use Rattle.law_time.specs.Judged.{is_directly_after, is_mark, judged_here, notices_here}
use Rattle.law_time.specs.Requests.{asked, is_response_to, request_last}
use Rattle.law_time.specs.Ends.{calls_back, ends_here, is_abort, is_answered_here, is_called_back, is_called_back_badly, is_ended_by_frame, is_ending_here, is_refused_here, refuses}
use Rattle.law_time.specs.Errands.{SaysHowDone, errand, may_say_done, node_asked, owes_done, same_carried, says_done}
use Rattle.host_requests.specs.Frames.{request_of}
use Rattle.host_requests.specs.declared.end.How.{How}
use Rattle.host_requests.specs.declared.task.Task.TheVariants.{Plain, Offer, Segment, NoMore, Second, Neighbours, IsFailed}
use Rattle.host_requests.specs.declared.task.Purpose.{Purpose}
use Rattle.host_requests.specs.declared.task.Purpose.TheVariants.{Housekeeping, Attempt, Abort}
use Rattle.host_model.specs.Ends.{done_of}
use Rattle.proof_host.proofs.Lists.{each-append}
use Rattle.proof_requests.specs.Carrying.{is_errand}
use Rattle.proof_requests.specs.Ends.{EndsHere, IsUntold, OwesNoEnd, TellsEnd}
use Rattle.proof_requests.specs.Ends.OwesNoEnd.{Aborted, Apart, Unended, Untold}
use Rattle.proof_requests.proofs.Carried.{get_errand, send_errand}
use Rattle.proof_requests.proofs.EndsDone.{ends_as_done}
use Rattle.proof_asking.proofs.Sent.{Stays, asked_errand}

-- ---- texts that lines asked for

same_list : (l : List ℕ) → bytes_eq l l ≡ true
same_list l = (bytes_eq-Decides l l).1 refl

has_same : (one : Carried) (items : List Carried) → Has items one → list_any (same_carried one) items ≡ true
has_same one (first ∷ items) (inl is) =
    subst (λ (c : Carried). (same_carried one c || list_any (same_carried one) items) ≡ true) (sym is)
    (or_left (same_carried one one) (list_any (same_carried one) items) (and_from (one.node == one.node) (bytes_eq one.payload one.payload) (eq-eqb one.node one.node refl) (same_list one.payload)))
has_same one (first ∷ items) (inr more) = or_right (same_carried one first) (list_any (same_carried one) items) (has_same one items more)
has_same one [] has = absurd has

abbrev IsErrand : Carried → Type 0
IsErrand one = is_errand one.payload ≡ true

abbrev AreErrands : List Carried → Type 0
AreErrands items = AllByRecursion IsErrand items

other_payload : (one first : Carried) → is_errand one.payload ≡ false → is_errand first.payload ≡ true → bytes_eq one.payload first.payload ≡ false
other_payload one first none is = by (bytes_eq one.payload first.payload) refl
  where
    by : (b : Bool) → bytes_eq one.payload first.payload ≡ b → b ≡ false
    by false at = refl
    by true at =
        let same : one.payload ≡ first.payload = (bytes_eq-Decides one.payload first.payload).0 at in
        absurd (let bad : false ≡ true = sym none ∙ ap is_errand same ∙ is in cc)

none_same : (one : Carried) (items : List Carried) → AreErrands items → is_errand one.payload ≡ false → list_any (same_carried one) items ≡ false
none_same one [] are none = refl
none_same one (first ∷ items) are none =
    ap₂ (λ (a b : Bool). a || b) (and_right (one.node == first.node) (bytes_eq one.payload first.payload) (other_payload one first none are.0)) (none_same one items are.1 none)

-- the node to which a text is such a command by itself
abbrev pub node_carried : Carried → List ℕ
node_carried carried = if is_errand carried.payload then carried.node ∷ [] else []

-- a unit sends one text at most
abbrev AtMostOne : List Carried → Type 0
AtMostOne l = (l ≡ []) ⊎ ((one : Carried) × (l ≡ one ∷ []))

read_short : (b : Bool) (read : Result Request BodyFault) → AtMostOne (flat_map sending_of (if b then read_well read else []))
read_short true (Ok (requests.SendData node payload options id)) = inr (record { node = node; payload = payload }, refl)
read_short true (Ok request) = inl refl
read_short true (Err fault) = inl refl
read_short false read = inl refl

sent_short : (unit : List ℕ) → AtMostOne (sending_in unit)
sent_short unit = read_short (is_frame unit 0) (read_request (function_in unit) (body_in unit))

module _ (listing : List Entry → ℕ → List ℕ) where
  line_errands : (past : List Entry) (line : Line) → AreErrands (asked_by listing past line)
  line_errands past (lines.Send node word) = (send_errand (host_list listing past node) word, tt)
  line_errands past (lines.Get node end) = (get_errand (host_list listing past node) end, tt)
  line_errands past line = tt

  lines_errands : (past : List Entry) (many : List Line) → AreErrands (flat_map (asked_by listing past) many)
  lines_errands past [] = tt
  lines_errands past (line ∷ many) = all-append IsErrand (asked_by listing past line) (flat_map (asked_by listing past) many) (line_errands past line) (lines_errands past many)

  entry_errands : (past : List Entry) (many : List Line) (refused : Bool) → AreErrands (if refused then [] else flat_map (asked_by listing past) many)
  entry_errands past many true = tt
  entry_errands past many false = lines_errands past many

  all_errands : (past rest : List Entry) → AreErrands (asked_from listing past rest)
  all_errands past [] = tt
  all_errands past (e ∷ rest) =
      all-append IsErrand (if begins_refused rest then [] else flat_map (asked_by listing past) (line_of e)) (asked_from listing (past ++ e ∷ []) rest)
      (entry_errands past (line_of e) (begins_refused rest)) (all_errands (past ++ e ∷ []) rest)

  -- ---- a last request that is none of them

  other_asked : (past : List Entry) (one : Carried) → is_errand one.payload ≡ false → node_asked listing past one ≡ []
  other_asked past one none = ap (λ (b : Bool). if b then one.node ∷ [] else []) (none_same one (asked_for listing past) (all_errands [] past) none)

  none_sent : (past : List Entry) → sending_in (asked past).frame ≡ [] → errand listing past ≡ []
  none_sent past none = ap (flat_map (node_asked listing past)) none

  one_sent : (past : List Entry) (one : Carried) → sending_in (asked past).frame ≡ one ∷ [] → is_errand one.payload ≡ false → errand listing past ≡ []
  one_sent past one is none = ap (flat_map (node_asked listing past)) is ∙ ap (λ (l : List ℕ). l ++ []) (other_asked past one none)

  of_request : (past : List Entry) (request : Request) → request_last past ≡ request ∷ [] → sending_in (asked past).frame ≡ sending_of request ++ []
  of_request past request is = ap (flat_map sending_of) is

  untold_none : (past : List Entry) (purpose : Purpose) (id : ℕ) → request_last past ≡ request_of purpose id ∷ [] → IsUntold purpose → errand listing past ≡ []
  untold_none past (Housekeeping (Segment n payload)) id is untold = one_sent past (record { node = n; payload = payload }) (of_request past (request_of (Housekeeping (Segment n payload)) id) is) untold
  untold_none past (Attempt n more payload) id is untold = one_sent past (record { node = n; payload = payload }) (of_request past (request_of (Attempt n more payload) id) is) untold
  untold_none past (Housekeeping (Offer n nonce)) id is untold =
      one_sent past (record { node = n; payload = 152 ∷ 128 ∷ nonce }) (of_request past (request_of (Housekeeping (Offer n nonce)) id) is) refl
  untold_none past (Housekeeping (NoMore n)) id is untold = one_sent past (record { node = n; payload = 132 ∷ 8 ∷ [] }) (of_request past (request_of (Housekeeping (NoMore n)) id) is) refl
  untold_none past (Housekeeping (Plain n payload)) id is untold = absurd untold
  untold_none past (Housekeeping (Second n)) id is untold = absurd untold
  untold_none past (Housekeeping (Neighbours n)) id is untold = absurd untold
  untold_none past (Housekeeping (IsFailed n)) id is untold = absurd untold
  untold_none past (Housekeeping task) id is untold = none_sent past (of_request past (request_of (Housekeeping task) id) is)
  untold_none past Abort id is untold = none_sent past (of_request past (request_of Abort id) is)

  aborts_send : (b : Bool) (read : Result Request BodyFault) → list_any is_abort (if b then read_well read else []) ≡ true → flat_map sending_of (if b then read_well read else []) ≡ []
  aborts_send true (Ok (requests.SendData node payload options id)) is = absurd (let bad : false ≡ true = is in cc)
  aborts_send true (Ok request) is = refl
  aborts_send true (Err fault) is = refl
  aborts_send false read is = refl

  -- ---- nothing is owed

  no_errand : (past : List Entry) → errand listing past ≡ [] → owes_done listing past ≡ false
  no_errand past none =
      and_left (is_directly_after past && list_any (λ node. true) (errand listing past)) (is_ended_by_frame past)
      (and_right (is_directly_after past) (list_any (λ node. true) (errand listing past)) (ap (list_any (λ node. true)) none))

  or_none : (a b : Bool) → a ≡ false → b ≡ false → (a || b) ≡ false
  or_none a b first second = ap₂ (λ (x y : Bool). x || y) first second

  unended : (past : List Entry) → is_ending_here past ≡ false → is_ended_by_frame past ≡ false
  unended past none =
      or_none (is_called_back 0 past || is_called_back_badly past) (is_refused_here past) (or_none (is_called_back 0 past) (is_called_back_badly past) (called 0) badly) refused
    where
      called : (status : ℕ) → is_called_back status past ≡ false
      called status = and_right (calls_back status (request_last past) (notices_here past)) (is_ending_here past) none

      refused : is_refused_here past ≡ false
      refused =
          and_right (list_any refuses (judged_here past)) (is_answered_here past) (and_right (list_any (is_response_to (asked past).frame) (judged_here past)) (is_ending_here past) none)

      badly : is_called_back_badly past ≡ false
      badly =
          or_none (is_called_back 1 past || is_called_back 2 past || is_called_back 3 past) (is_called_back 4 past)
          (or_none (is_called_back 1 past || is_called_back 2 past) (is_called_back 3 past) (or_none (is_called_back 1 past) (is_called_back 2 past) (called 1) (called 2)) (called 3)) (called 4)

  owes_none : (past : List Entry) → OwesNoEnd past → owes_done listing past ≡ false
  owes_none past (Apart none) =
      and_left (is_directly_after past && list_any (λ node. true) (errand listing past)) (is_ended_by_frame past)
      (and_left (is_directly_after past) (list_any (λ node. true) (errand listing past)) none)
  owes_none past (Unended none) = and_right (is_directly_after past && list_any (λ node. true) (errand listing past)) (is_ended_by_frame past) (unended past none)
  owes_none past (Aborted aborts) =
      no_errand past (none_sent past (aborts_send (is_frame (asked past).frame 0) (read_request (function_in (asked past).frame) (body_in (asked past).frame)) aborts))
  owes_none past (Untold purpose id request untold) = no_errand past (untold_none past purpose id request untold)

  -- ---- each entry

  other_may : (past : List Entry) (e : Entry) → owes_done listing past ≡ false → (is_mark e || not (owes_done listing past)) ≡ true
  other_may past e none = or_right (is_mark e) (not (owes_done listing past)) (ap not none)

  asks_else : (past : List Entry) (e : Entry) (request : Request) → request_last past ≡ request ∷ [] → sending_of request ≡ [] → (is_mark e || not (owes_done listing past)) ≡ true
  asks_else past e request is none = other_may past e (no_errand past (none_sent past (of_request past request is ∙ ap (λ (l : List Carried). l ++ []) none)))

  module _ (key : List ℕ) (stays : Stays listing key) where
    -- the nodes of a last request that is one of them
    asked_one : (past : List Entry) (one : Carried) → EachAfter (MayRequest listing key) [] past → sending_in (asked past).frame ≡ one ∷ [] → is_errand one.payload ≡ true → errand listing past ≡ one.node ∷ []
    asked_one past one each sends carries =
        ap (flat_map (node_asked listing past)) sends
        ∙ ap (λ (b : Bool). (if b then one.node ∷ [] else []) ++ []) (has_same one (asked_for listing past) (asked_errand listing key stays past one each sends carries))

    -- those of any last request are the nodes to which it carries such a command by itself
    pub errand_is : (past : List Entry) → EachAfter (MayRequest listing key) [] past → errand listing past ≡ flat_map node_carried (sending_in (asked past).frame)
    errand_is past each = by (sent_short (asked past).frame)
      where
        of_one : (one : Carried) (b : Bool) → sending_in (asked past).frame ≡ one ∷ [] → is_errand one.payload ≡ b → errand listing past ≡ (if b then one.node ∷ [] else []) ++ []
        of_one one true is carries = asked_one past one each is carries
        of_one one false is carries = one_sent past one is carries

        by : AtMostOne (sending_in (asked past).frame) → errand listing past ≡ flat_map node_carried (sending_in (asked past).frame)
        by (inl none) = none_sent past none ∙ sym (ap (flat_map node_carried) none)
        by (inr (one, is)) = of_one one (is_errand one.payload) is refl ∙ sym (ap (flat_map node_carried) is)

    done_may : (past : List Entry) (node id : ℕ) (payload : List ℕ) (how : How) → EachAfter (MayRequest listing key) [] past → EndsHere past id (Housekeeping (Plain node payload)) how
        → Allows (may_say_done listing) past (entry.Done node (done_of how))
    done_may past node id payload how each e =
        let one : Carried = record { node = node; payload = payload } in
        let sends : sending_in (asked past).frame ≡ one ∷ [] = of_request past (request_of (Housekeeping (Plain node payload)) id) e.request in
        let nodes : errand listing past ≡ node ∷ [] = asked_one past one each sends e.carries in
        and_from (says_done (errand listing past) (entry.Done node (done_of how))) (ends_here past (done_of how))
        (ap (λ (l : List ℕ). list_any (λ (n : ℕ). n == node) l) nodes ∙ or_left (node == node) false (eq-eqb node node refl))
        (ends_as_done past id (Housekeeping (Plain node payload)) how refl e)

    done_as : (past : List Entry) (node : ℕ) (how these : Done) → how ≡ these → Allows (may_say_done listing) past (entry.Done node these) → Allows (may_say_done listing) past (entry.Done node how)
    done_as past node how these is may = subst (λ (h : Done). Allows (may_say_done listing) past (entry.Done node h)) (sym is) may

    errands_may : (past : List Entry) (e : Entry) → EachAfter (MayRequest listing key) [] past → TellsEnd past e → Allows (may_say_done listing) past e
    errands_may past (entry.Done node how) each (payload, ended, is, (id, e)) = done_as past node how (done_of ended) is (done_may past node id payload ended each e)
    errands_may past (entry.Neighbours node nodes) each (id, e) = asks_else past (entry.Neighbours node nodes) (request_of (Housekeeping (Neighbours node)) id) e.request refl
    errands_may past (entry.Failed node failed) each (id, e) = asks_else past (entry.Failed node failed) (request_of (Housekeeping (IsFailed node)) id) e.request refl
    errands_may past (entry.InterviewFailed node) each (how, brings, (id, e)) = asks_else past (entry.InterviewFailed node) (request_of (Housekeeping (Second node)) id) e.request refl
    errands_may past (entry.Interviewed node) each (types, classes, capability, (id, e)) = asks_else past (entry.Interviewed node) (request_of (Housekeeping (Second node)) id) e.request refl
    errands_may past (entry.Unkept node) each (inl owes) = other_may past (entry.Unkept node) (owes_none past owes)
    errands_may past (entry.Unkept node) each (inr (how, (id, e))) = asks_else past (entry.Unkept node) (request_of (Housekeeping (Second node)) id) e.request refl
    errands_may past (entry.Dropped Host) each told = refl
    errands_may past (entry.Garbled Host unit) each told = refl
    errands_may past (entry.Overrun Host) each told = refl
    errands_may past (entry.Dropped Chip) each told = other_may past (entry.Dropped Chip) (owes_none past told)
    errands_may past (entry.Garbled Chip unit) each told = other_may past (entry.Garbled Chip unit) (owes_none past told)
    errands_may past (entry.Overrun Chip) each told = other_may past (entry.Overrun Chip) (owes_none past told)
    errands_may past e each told = other_may past e (owes_none past told)

    told_may : (past rest : List Entry) → EachAfter (MayRequest listing key) [] past → EachAfter (MayRequest listing key) past rest → EachAfter TellsEnd past rest
        → EachAfter (Allows (may_say_done listing)) past rest
    told_may past [] before each tells = tt
    told_may past (e ∷ rest) before each tells =
        (errands_may past e before tells.0, told_may (past ++ e ∷ []) rest (each-append (MayRequest listing key) [] past (e ∷ []) before (each.0, tt)) each.1 tells.1)

    pub says_how_done : (told : List Entry) → SendsWhatIsDue listing key told → EachAfter TellsEnd [] told → SaysHowDone listing told
    says_how_done told sends tells = told_may [] told tt sends tells
