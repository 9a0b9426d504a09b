-- A frame that is judged leaves the messages that are ready to be sealed as in the host after what follows it.
use Rattle.std.proofs.Common.{◌≡◌, ◌⊎◌, ℕ, ◌+◌, ◌<◌, ◌==◌, ◌&&◌, ◌||◌, nat_le, not, Bool, true, false, if◌then◌else◌, inl, inr, Option, Some, None, length, List, [], ◌∷◌, ◌++◌, refl, sym, ap, ap₂, ◌∙◌, subst, append-nil, append_assoc, arith}
use Rattle.std.specs.Prelude.{Result, Ok, Err, is_none, is_some}
use Rattle.std.specs.List.{AllByRecursion, flat_map, list_any}
use Rattle.std.proofs.lemmas.Bool.{and_from, eq-eqb, eqb-true, lt-leb, or_parts, or_right}
use Rattle.zw_base.proofs.Each.{all-weaker}
use Rattle.serial_frame.specs.Frame.{FrameParts, checksum, kind_code}
use Rattle.serial_frame.specs.Items.{unit_text}
use Rattle.serial_frame.specs.declared.frame.Kind.{Kind}
use Rattle.serial_frame.specs.declared.frame.Kind.TheVariants as kind
use Rattle.serial_frame.specs.declared.item.Item.TheVariants.{Good}
use Rattle.serial_frame.specs.declared.unit.TheConstants.{ACK}
use Rattle.serial_frame.specs.declared.unit.Unit.{Unit as LineUnit}
use Rattle.serial_frame.specs.declared.unit.Unit.TheVariants.{Framed}
use Rattle.zw_words.specs.declared.side.Side.TheVariants.{Host}
use Rattle.zw_text.specs.declared.entry.Entry.{Entry}
use Rattle.zw_text.specs.declared.entry.Entry.TheVariants as entry
use Rattle.host_heard.specs.declared.told.Told.{Told}
use Rattle.chip_functions.specs.Notice.{notice_of}
use Rattle.chip_functions.specs.Response.{response_of}
use Rattle.chip_functions.specs.declared.fault.BodyFault.{BodyFault}
use Rattle.chip_functions.specs.declared.notice.Notice.{Notice}
use Rattle.chip_functions.specs.declared.notice.Notice.TheVariants.{AddNode, ApplicationCommandHandler, ApplicationUpdate, SendData as CalledBack}
use Rattle.chip_functions.specs.declared.notice.Update.{Update}
use Rattle.chip_functions.specs.declared.notice.Update.TheVariants.{Received, RequestFailed}
use Rattle.chip_functions.specs.declared.response.Response.{Response}
use Rattle.law_transcript.specs.Units.{Carried, bringing_in, bringing_of, is_frame, notice_in, read_well}
use Rattle.law_time.specs.Attempts.{Attempts, attempt_is_over, ends_badly, is_bad, is_given_up_later, is_late, is_of_inner, is_sealed, is_sign, nonce_told, waits_for_nonce, with_nonces, with_sign}
use Rattle.law_time.specs.Ends.{ending, giving_up, silence}
use Rattle.law_time.specs.Heeds.{Heeds, taken_here}
use Rattle.law_time.specs.Judged.{acknowledged, brought_here, judged_here}
use Rattle.law_time.specs.Moments.{clock}
use Rattle.law_time.specs.Queue.{requests}
use Rattle.law_time.specs.Requests.{Asked, Judging, are_none, asked, failing}
use Rattle.law_time.specs.Sessions.{last_command, session_of}
use Rattle.host_orders.specs.declared.carriage.Form.{Form}
use Rattle.host_orders.specs.declared.carriage.Form.TheVariants.{Sealed}
use Rattle.host_requests.specs.declared.under_way.UnderWay.{UnderWay}
use Rattle.supervision.specs.Host.{command_at as command_of_session, open_session}
use Rattle.host_node.specs.Facts.{NodeFacts}
use Rattle.host_node.specs.State.{NodeState}
use Rattle.host_node.specs.declared.series.Series.TheVariants.{Running}
use Rattle.host_model.specs.State.{Command, HostState, command_at, node_of}
use Rattle.host_model.specs.After.{after}
use Rattle.host_model.specs.Did.{after_all}
use Rattle.host_model.specs.Events.{HostEvent, Hears, Interviews, Interview_unkept, Requests_do}
use Rattle.host_model.specs.Taking.{FrameEvents, InterviewEvents, NoticeEvents, PayloadEvents, ResponseEvents}
use Rattle.host_requests.specs.Events.RequestsEvent.{CallsBack, Responds, Updates}
use Rattle.host_node.specs.declared.attempt.Moment.TheVariants.{BetweenTicks}
use Rattle.host_heard.specs.Telling.{heard_at}
use Rattle.host_orders.specs.Wrapping.{form_of}
use Rattle.host_model.specs.Facts.{HostFacts}
use Rattle.proof_giving.specs.proof_queue.proof_attempts.proof_requests.law_host.Heard.{heeds_alone}
use Rattle.proof_giving.specs.proof_queue.proof_attempts.proof_requests.Asking.{TieAsked, TieUnderWay, doing_of}
use Rattle.proof_giving.specs.proof_queue.proof_attempts.proof_requests.Standing.{standing_of}
use Rattle.proof_giving.specs.proof_queue.proof_attempts.proof_requests.proof_alone.Steps.{IsOfUnit}
use Rattle.proof_giving.proofs.AttemptsGo.{running_not_over}
use Rattle.proof_giving.specs.proof_queue.Heeding.{heeded_frame, heeded_notice, heeded_payload}
use Rattle.proof_giving.specs.proof_queue.proof_attempts.proof_requests.proof_waking.Judged.{TieFrames}
use Rattle.proof_giving.proofs.Books.{last_is}
use Rattle.proof_giving.proofs.proof_requests_EndsHere.{frame_here}
use Rattle.proof_giving.proofs.proof_requests_Telling.{acknowledged_more}
use Rattle.proof_giving.specs.Stays.{KeepsSessions, ShowsSessions}
use Rattle.proof_giving.specs.Tie.{AttemptsSo, IsSealing, has_text, is_badly_over}
use Rattle.proof_giving.specs.Told.{LeavesAttempts, attempts_so_far}
use Rattle.proof_giving.proofs.Along.{texts_run}
use Rattle.proof_giving.proofs.Asking.{mark_leaves}
use Rattle.proof_giving.proofs.Framed.{notices_in, notices_of}
use Rattle.proof_giving.proofs.Heeded.{all_follow}
use Rattle.proof_giving.proofs.Told.{attempts_left, attempts_one, node_is}
use Rattle.proof_choice.specs.Ready.{ReadySo}
use Rattle.proof_choice.proofs.Nonces.{NoncesSo, one_stays, payload_nonces}
use Rattle.proof_choice.proofs.Parts.{open_so}
use Rattle.proof_choice.proofs.ReadyGoes.{same_parts}
use Rattle.proof_choice.proofs.ReadyJudged.{judged_ready, others_stay, waits_alone}
use Rattle.proof_choice.proofs.Plans.{SessionsKept}
use Rattle.proof_choice.proofs.Staying.{LeavesTexts, Stays, stays_same}
use Rattle.proof_choice.proofs.Unended.{LastsPast, gives_later, lasts_past}

-- ---- with a sign, or over

module _ (heeds : Heeds) (past : List Entry) (a : Attempts) where
  abbrev signed : Attempts
  signed = with_sign heeds past [] a

  either : (A : Type 0) (look : Attempts → A) (b : Bool) (x y : Attempts) (v : A) → look x ≡ v → look y ≡ v → look (if b then x else y) ≡ v
  either A look true x y v one other = one
  either A look false x y v one other = other

  part : (A : Type 0) (look : Attempts → A) → look (record a { over = true }) ≡ look a → look (record a { sign = clock past ∷ [] }) ≡ look a → look signed ≡ look a
  part A look over sign =
      either A look (is_late (clock past) a) (record a { over = true }) (if is_sign heeds a.node a.own past [] then record a { sign = clock past ∷ [] } else a) (look a) over
      (either A look (is_sign heeds a.node a.own past []) (record a { sign = clock past ∷ [] }) a (look a) sign refl)

  pub signed_ready : (s : NodeState) → ReadySo a s → ReadySo signed s
  signed_ready s so = same_parts a signed s (part ℕ (λ b. b.seen) refl refl) (part (List ℕ) (λ b. b.ready) refl refl) (part ℕ (λ b. b.sent) refl refl) so

  pub signed_node : signed.node ≡ a.node
  signed_node = part ℕ (λ b. b.node) refl refl

  pub signed_own : signed.own ≡ a.own
  signed_own = part Bool (λ b. b.own) refl refl

  pub signed_sent : signed.sent ≡ a.sent
  signed_sent = part ℕ (λ b. b.sent) refl refl

  pub signed_none : signed.ready ≡ a.ready
  signed_none = part (List ℕ) (λ b. b.ready) refl refl

  -- it is not late by it
  pub signed_early : is_late (clock past) a ≡ false → is_late (clock past) signed ≡ false
  signed_early early =
      ap (λ (b : Bool). is_late (clock past) (if b then record a { over = true } else (if is_sign heeds a.node a.own past [] then record a { sign = clock past ∷ [] } else a))) early
      ∙ by (is_sign heeds a.node a.own past [])
    where
      parts : (a.over ≡ false) × (list_any (λ tick. nat_le (tick + 100) (clock past)) a.sign ≡ false)
      parts = or_parts a.over (list_any (λ tick. nat_le (tick + 100) (clock past)) a.sign) early

      by : (b : Bool) → is_late (clock past) (if b then record a { sign = clock past ∷ [] } else a) ≡ false
      by true = ap (λ (b : Bool). b || (nat_le (clock past + 100) (clock past) || false)) parts.0 ∙ ap (λ (b : Bool). b || false) (lt-leb (clock past + 100) (clock past) (omega arith))
      by false = early

-- ---- whether it is over

not_or : (a b : Bool) → a ≡ false → (not a || b) ≡ true
not_or true b is = absurd (let bad : true ≡ false = is in cc)
not_or false b is = refl

-- it is over for no other reason than an answer that came later
waits_so : (late own badly later : Bool) → late ≡ false → ((own && badly) ≡ false) ⊎ (later ≡ true) → (not (late || (own && badly)) || (later && not late)) ≡ true
waits_so true own badly later early why = absurd (let bad : true ≡ false = early in cc)
waits_so false own badly later early (inl none) = not_or (own && badly) (later && true) none
waits_so false own badly true early (inr is) = or_right (not (own && badly)) true refl
waits_so false own badly false early (inr is) = absurd (let bad : false ≡ true = is in cc)

-- where no frame has ended it, nor its wait, it ends badly only where the line gives it up
badly_none : (last : Asked) (inner : Bool) (now : ℕ) → ending last ≡ [] → list_any (λ tick. nat_le tick now) (silence last) ≡ false → list_any (λ tick. nat_le tick now) (giving_up last) ≡ false
    → ends_badly last inner now ≡ false
badly_none last inner now ended silent given =
    ap (λ (l : List Judging). list_any (λ one. is_frame one.unit 1 || list_any (is_bad inner) (notice_in one.unit)) l
    || list_any (λ tick. nat_le tick now) (silence last) || list_any (λ tick. nat_le tick now) (giving_up last)) ended
    ∙ ap₂ (λ (a b : Bool). a || b) silent given

-- ---- a frame

-- whether others follow a segment stays told (attempts_stay_with_the_request)
abbrev pub InnerSame : Type 0
InnerSame =
    (taken : List Entry → Carried → List Told) (past later : List Entry) (h g : HostState) (n session : ℕ) → ShowsSessions (heeds_alone taken) past h n → ShowsSessions (heeds_alone taken) later g n → HostFacts h
    → HostFacts g → KeepsSessions h g n → open_session (node_of g n).book ≡ Some session → (unit : List ℕ)
    → list_any (is_of_inner (heeds_alone taken) later n unit) (last_command n later) ≡ list_any (is_of_inner (heeds_alone taken) past n unit) (last_command n past)

module _ (inner_same : InnerSame) (keeps : SessionsKept) (taken : List Entry → Carried → List Told) (n : ℕ) (past : List Entry) (f : FrameParts) (rest : List LineUnit) (behind : List HostEvent) (h : HostState) (now : ℕ)
    (frames : TieFrames past (Framed f ∷ rest)) (tie : TieAsked past now now (Framed f ∷ rest) (doing_of h)) (within : n < length h.nodes) where
  abbrev all : Heeds
  all = heeds_alone taken

  abbrev acked : List Entry
  acked = past ++ entry.Written Host (ACK ∷ []) ∷ []

  abbrev heard : HostState
  heard = after h (Hears (Good (Framed f)))

  abbrev s : NodeState
  s = node_of h n

  abbrev a : Attempts
  a = attempts_so_far all n past

  abbrev last : NodeState
  last = node_of (after_all heard behind) n

  -- ---- what is taken

  abbrev Taken : Type 0
  Taken = NoncesSo s last (flat_map nonce_told (taken_here all n acked []))

  here : judged_here acked ≡ unit_text (Framed f) ∷ []
  here = frame_here past [] f rest tt frames

  brought : brought_here acked ≡ flat_map bringing_of (notices_of f.kind f.func f.body)
  brought =
      ap (λ (l : List (List ℕ)). flat_map bringing_in l) here ∙ append-nil (bringing_in (unit_text (Framed f)))
      ∙ ap (λ (l : List Notice). flat_map bringing_of l) (notices_in f.kind f.func f.body (checksum (kind_code f.kind ∷ f.func ∷ f.body)))

  abbrev of_brought : List Carried → List (List ℕ)
  of_brought l = flat_map nonce_told (flat_map (λ carried. if carried.node == n then taken acked carried else []) l)

  told_is : (l : List Carried) → flat_map bringing_of (notices_of f.kind f.func f.body) ≡ l → flat_map nonce_told (taken_here all n acked []) ≡ of_brought l
  told_is l is = ap of_brought (brought ∙ is)

  nothing_taken : flat_map bringing_of (notices_of f.kind f.func f.body) ≡ [] → Stays false s last → Taken
  nothing_taken none stays = inl (told_is [] none, stays)

  none_behind : behind ≡ [] → Stays false s last
  none_behind is = subst (λ (l : List HostEvent). Stays false s (node_of (after_all heard l) n)) (sym is) (stays_same false s)

  one_behind : (event : HostEvent) → LeavesTexts false event → behind ≡ event ∷ [] → Stays false s last
  one_behind event leaves is = subst (λ (l : List HostEvent). Stays false s (node_of (after_all heard l) n)) (sym is) (one_stays n heard event within leaves)

  response_stays : (read : Result Response BodyFault) → ResponseEvents read behind → Stays false s last
  response_stays (Ok response) is = one_behind (Requests_do (Responds response) BetweenTicks) tt is
  response_stays (Err fault) is = none_behind is

  interview_stays : (update : Update) (capability : Option ℕ) → InterviewEvents update capability behind → Stays false s last
  interview_stays (Received m basic generic specific classes) (Some capability) (inl is) = one_behind (Interviews m _ classes (Received m basic generic specific classes)) tt is
  interview_stays (Received m basic generic specific classes) (Some capability) (inr is) = one_behind (Interview_unkept m (Received m basic generic specific classes)) tt is
  interview_stays RequestFailed (Some capability) is = none_behind is
  interview_stays (Received m basic generic specific classes) None is = one_behind (Requests_do (Updates (Received m basic generic specific classes)) BetweenTicks) tt is
  interview_stays RequestFailed None is = one_behind (Requests_do (Updates RequestFailed) BetweenTicks) tt is

  payload_taken : (rx_status source : ℕ) (payload : List ℕ) → flat_map bringing_of (notices_of f.kind f.func f.body) ≡ record { node = source; payload = payload } ∷ []
      → (is : PayloadEvents heard source payload (heard_at payload) behind)
      → ((carried : Carried) → taken acked carried ≡ heeded_payload heard source payload (heard_at payload) behind is) → Taken
  payload_taken rx_status source payload brings is heeded = by (source == n) refl
    where
      told_so : flat_map nonce_told (taken_here all n acked []) ≡ flat_map nonce_told (if source == n then taken acked (record { node = source; payload = payload }) else [])
      told_so = told_is (record { node = source; payload = payload } ∷ []) brings
          ∙ ap (λ (l : List Told). flat_map nonce_told l) (append-nil (if source == n then taken acked (record { node = source; payload = payload }) else []))

      by : (b : Bool) → (source == n) ≡ b → Taken
      by true same =
          let is_n : source ≡ n = eqb-true source n same in
          subst (λ (l : List (List ℕ)). NoncesSo s last l)
          (sym (told_so ∙ ap (λ (b : Bool). flat_map nonce_told (if b then taken acked (record { node = source; payload = payload }) else [])) same
          ∙ ap (λ (l : List Told). flat_map nonce_told l) (heeded (record { node = source; payload = payload }))))
          (subst (λ (k : ℕ). NoncesSo (node_of heard k) (node_of (after_all heard behind) k) (flat_map nonce_told (heeded_payload heard source payload (heard_at payload) behind is))) is_n
          (payload_nonces source heard payload (heard_at payload) behind (subst (λ (k : ℕ). k < length heard.nodes) (sym is_n) within) is))
      by false other =
          inl (
            told_so ∙ ap (λ (b : Bool). flat_map nonce_told (if b then taken acked (record { node = source; payload = payload }) else [])) other,
            others_stay source n heard behind other within (all_follow source heard payload (heard_at payload) behind is),
          )

  module _ (kind_is : f.kind ≡ kind.Request) where
    read_is : (read : Result Notice BodyFault) → notice_of f.func f.body ≡ read → flat_map bringing_of (notices_of f.kind f.func f.body) ≡ flat_map bringing_of (read_well read)
    read_is read is = ap (λ (l : List Notice). flat_map bringing_of l) (ap (λ (k : Kind). notices_of k f.func f.body) kind_is ∙ ap read_well is)

    notice_taken : (read : Result Notice BodyFault) → notice_of f.func f.body ≡ read → (is : NoticeEvents heard read behind) → ((carried : Carried) → taken acked carried ≡ heeded_notice heard read behind is) → Taken
    notice_taken (Ok (ApplicationCommandHandler rx_status source payload)) read is heeded =
        payload_taken rx_status source payload (read_is (Ok (ApplicationCommandHandler rx_status source payload)) read) is heeded
    notice_taken (Ok (CalledBack id status)) read is heeded = nothing_taken (read_is (Ok (CalledBack id status)) read) (one_behind (Requests_do (CallsBack id status) BetweenTicks) tt is)
    notice_taken (Ok (ApplicationUpdate update)) read is heeded = nothing_taken (read_is (Ok (ApplicationUpdate update)) read) (interview_stays update _ is)
    notice_taken (Ok (AddNode callback_id status information)) read is heeded = nothing_taken (read_is (Ok (AddNode callback_id status information)) read) (none_behind is)
    notice_taken (Err fault) read is heeded = nothing_taken (read_is (Err fault) read) (none_behind is)

  kind_taken : (k : Kind) → f.kind ≡ k → (is : FrameEvents heard k f.func f.body behind) → ((carried : Carried) → taken acked carried ≡ heeded_frame heard k f.func f.body behind is) → Taken
  kind_taken kind.Response kind_is is heeded =
      nothing_taken (ap (λ (k : Kind). flat_map bringing_of (notices_of k f.func f.body)) kind_is) (response_stays (response_of f.func f.body) is)
  kind_taken kind.Request kind_is is heeded = notice_taken kind_is (notice_of f.func f.body) refl is heeded

  -- ---- that it waits

  module _ (counts : AttemptsSo all n past h now now) (shows : ShowsSessions all past h n) (showing : ShowsSessions all acked heard n) (facts : HostFacts h) (others : HostFacts heard)
      (time : clock acked ≡ now) (so : ReadySo a s) where
    node_facts : NodeFacts s
    node_facts = facts.nodes.facts n

    over_why : (s.series ≡ Running) → (session : ℕ) → open_session s.book ≡ Some session → (o : Option UnderWay) → h.requests.under_way ≡ o
        → ((a.own && ends_badly (asked past) (list_any (is_of_inner all acked n (asked past).frame) (last_command n acked)) now) ≡ false) ⊎ (is_given_up_later acked (asked past) ≡ true)
    over_why runs session opened None none =
        let same = inner_same taken past acked h heard n session shows showing facts others (keeps h (Hears (Good (Framed f))) n within tt) opened (asked past).frame in
        let all_none = running_not_over a s now (is_badly_over all n past h now) counts.node.are runs in
        inl
        (ap (λ (i : Bool). a.own && ends_badly (asked past) i now) same
        ∙ ap (λ (b : Bool). a.own && (b && ends_badly (asked past) (list_any (is_of_inner all past n (asked past).frame) (last_command n past)) now)) (sym (ap (λ (o : Option UnderWay). is_none o) none))
        ∙ (or_parts (is_late now a) (a.own && is_badly_over all n past h now) all_none).1)
    over_why runs session opened (Some u) under = by tie
      where
        inner : Bool
        inner = list_any (is_of_inner all acked n (asked past).frame) (last_command n acked)

        by : TieAsked past now now (Framed f ∷ rest) (doing_of h) → ((a.own && ends_badly (asked past) inner now) ≡ false) ⊎ (is_given_up_later acked (asked past) ≡ true)
        by (inl nothing) = absurd (let none = nothing.none in let bad : ◌≡◌ {A = Option UnderWay} None (Some u) = sym none ∙ under in cc)
        by (inr (was, asks)) = why (gives_later (standing_of (asked past)) now (acknowledged past) lasts).either
          where
            under_so : TieUnderWay (standing_of (asked past)) now now (acknowledged past) (doing_of h).turn (doing_of h).id (doing_of h).leaving (Some u)
            under_so = subst (λ (o : Option UnderWay). TieUnderWay (standing_of (asked past)) now now (acknowledged past) (doing_of h).turn (doing_of h).id (doing_of h).leaving o) under asks.under_way

            lasts : LastsPast (standing_of (asked past)) now (acknowledged past)
            lasts = lasts_past (standing_of (asked past)) now (acknowledged past) f rest (doing_of h).turn (doing_of h).id u asks.line under_so.0

            why : (list_any (λ tick. nat_le tick now) (giving_up (asked past)) ≡ false)
                ⊎ ((not (are_none (giving_up (asked past))) && list_any (λ one. one.at_answer && nat_le (acknowledged past + 1) one.frames) (failing (asked past))) ≡ true)
                → ((a.own && ends_badly (asked past) inner now) ≡ false) ⊎ (is_given_up_later acked (asked past) ≡ true)
            why (inl none) = inl (ap (λ (b : Bool). a.own && b) (badly_none (asked past) inner now lasts.ending lasts.silent none) ∙ neither a.own)
              where
                neither : (b : Bool) → (b && false) ≡ false
                neither true = refl
                neither false = refl
            why (inr some) =
                inr
                (ap (λ (k : ℕ). not (are_none (giving_up (asked past))) && list_any (λ one. one.at_answer && nat_le k one.frames) (failing (asked past)))
                (acknowledged_more past (entry.Written Host (ACK ∷ []) ∷ []) 1 (tt, tt) refl) ∙ some)

    must_wait : (plain : List ℕ) → s.pending ≡ Some plain → waits_for_nonce all acked (requests all past).last (signed all acked a) ≡ true
    must_wait plain pending =
        let has : has_text s ≡ true = ap (λ (o : Option (List ℕ)). is_some s.text || is_some o) pending ∙ or_right (is_some s.text) true refl in
        let runs = texts_run s node_facts has in
        let no_text : s.text ≡ None = (waits_alone s node_facts plain pending).no_text in
        let seal : IsSealing h n = counts.seals has in
        let at = open_so taken acked heard n others showing seal.session seal.opened in
        let early : is_late now a ≡ false
        = (or_parts (is_late now a) (a.own && is_badly_over all n past h now) (running_not_over a s now (is_badly_over all n past h now) counts.node.are runs)).0 in
        let a1 : Attempts = signed all acked a in
        let node_n : a1.node ≡ n = signed_node all acked a ∙ node_is all n past in
        let late : is_late (clock acked) a1 ≡ false = signed_early all acked a (ap (λ (t : ℕ). is_late t a) time ∙ early) in
        let same_command : command_form at.command ≡ command_form seal.command
        = ap command_form (same_found seal at.number at.command at.carried at.found) in
        let form_is : (session_of all.listing acked n at.number).form ≡ Sealed = at.form ∙ same_command ∙ seal.form in
        let sealed : list_any (λ command. is_sealed (session_of all.listing acked a1.node command).form) (last_command a1.node acked) ≡ true
        = ap (λ (k : ℕ). list_any (λ command. is_sealed (session_of all.listing acked k command).form) (last_command k acked)) node_n
        ∙ ap (λ (l : List ℕ). list_any (λ command. is_sealed (session_of all.listing acked n command).form) l) at.last ∙ ap (λ (x : Form). is_sealed x || false) form_is in
        let over : (not (attempt_is_over all acked (requests all past).last (clock acked) a1) || (is_given_up_later acked (requests all past).last && not (is_late (clock acked) a1))) ≡ true
        = ap (λ (q : Asked). not (attempt_is_over all acked q (clock acked) a1) || (is_given_up_later acked q && not (is_late (clock acked) a1))) (last_is taken past)
        ∙ ap₂ (λ (o : Bool) (k : ℕ). not (is_late (clock acked) a1 || (o && ends_badly (asked past) (list_any (is_of_inner all acked k (asked past).frame) (last_command k acked)) (clock acked)))
        || (is_given_up_later acked (asked past) && not (is_late (clock acked) a1))) (signed_own all acked a) node_n
        ∙ ap (λ (t : ℕ). not (is_late (clock acked) a1 || (a.own && ends_badly (asked past) (list_any (is_of_inner all acked n (asked past).frame) (last_command n acked)) t))
        || (is_given_up_later acked (asked past) && not (is_late (clock acked) a1))) time
        ∙ waits_so (is_late (clock acked) a1) a.own (ends_badly (asked past) (list_any (is_of_inner all acked n (asked past).frame) (last_command n acked)) now) (is_given_up_later acked (asked past)) late
        (over_why runs seal.session seal.opened h.requests.under_way refl) in
        and_from ((a1.sent == 1) && are_none a1.ready && list_any (λ command. is_sealed (session_of all.listing acked a1.node command).form) (last_command a1.node acked)) _
        (and_from ((a1.sent == 1) && are_none a1.ready) (list_any (λ command. is_sealed (session_of all.listing acked a1.node command).form) (last_command a1.node acked))
        (and_from (a1.sent == 1) (are_none a1.ready) (eq-eqb a1.sent 1 (signed_sent all acked a ∙ so.pending plain pending)) (ap are_none (signed_none all acked a ∙ so.none runs no_text))) sealed) over
      where
        command_form : Command → Form
        command_form c = form_of c.carriage.outer

        same_found : (seal : IsSealing h n) (number : ℕ) (command : Command) → command_of_session (node_of heard n).book.commands seal.session ≡ Some number → command_at heard.commands number ≡ Some command
            → command ≡ seal.command
        same_found seal number command carried found =
            let was = seal.carried in
            let numbers : number ≡ seal.number = let both : Some number ≡ Some seal.number = sym carried ∙ was in cc in
            let there = seal.found in
            let both : Some command ≡ Some seal.command = sym found ∙ ap (λ (k : ℕ). command_at h.commands k) numbers ∙ there in cc

    pub frame_ready : (marks : List Entry) → AllByRecursion IsOfUnit marks → (is : FrameEvents heard f.kind f.func f.body behind)
        → ((carried : Carried) → taken acked carried ≡ heeded_frame heard f.kind f.func f.body behind is) → ReadySo (attempts_so_far all n (past ++ entry.Written Host (ACK ∷ []) ∷ marks)) last
    frame_ready marks marked is heeded =
        let a1 : Attempts = signed all acked a in
        let node_n : a1.node ≡ n = signed_node all acked a ∙ node_is all n past in
        let grown : attempts_so_far all n (past ++ entry.Written Host (ACK ∷ []) ∷ marks)
        ≡ (if waits_for_nonce all acked (requests all past).last a1 then with_nonces a1 (flat_map nonce_told (taken_here all a1.node acked [])) else a1)
        = ap (λ (l : List Entry). attempts_so_far all n l) (sym (append_assoc past (entry.Written Host (ACK ∷ []) ∷ []) marks))
        ∙ attempts_left taken n acked marks (all-weaker IsOfUnit LeavesAttempts mark_leaves marks marked) ∙ attempts_one taken n past (entry.Written Host (ACK ∷ [])) tt in
        subst (λ (b : Attempts). ReadySo b last) (sym grown)
        (judged_ready a1 s last (flat_map nonce_told (taken_here all a1.node acked [])) (waits_for_nonce all acked (requests all past).last a1) node_facts (signed_ready all acked a s so)
        (subst (λ (k : ℕ). NoncesSo s last (flat_map nonce_told (taken_here all k acked []))) (sym node_n) (kind_taken f.kind refl is heeded)) must_wait)
