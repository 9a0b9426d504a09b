-- What a course has offered is read nowhere as it goes on: offers in front of what it has offered stay in front, and change nothing else. Other choices, where none is made, change nothing else either.
use Rattle.std.proofs.Common.{◌≡◌, ℕ, ◌+◌, ◌&&◌, ◌||◌, not, Bool, true, false, if◌then◌else◌, List, [], ◌∷◌, ◌++◌, Option, Some, None, refl, ap, ◌∙◌, append_assoc}
use Rattle.std.specs.Prelude.{drop, map, nat_le, nat_lt, take}
use Rattle.std.specs.List.{list_all, list_any}
use Rattle.zw_base.specs.declared.property.Setting.{Setting}
use Rattle.class_info.specs.declared.report_status.ReportStatus.{ReportStatus}
use Rattle.class_info.specs.declared.report_status.ReportStatus.TheVariants as statuses
use Rattle.host_heard.specs.Telling.{heard_at}
use Rattle.host_heard.specs.declared.payload.Heard.{Heard}
use Rattle.host_heard.specs.declared.payload.Heard.TheVariants.{Messages, Sealed, Unread}
use Rattle.host_heard.specs.declared.told.Told.{Told}
use Rattle.host_heard.specs.declared.told.Told.TheVariants as told
use Rattle.zw_words.specs.declared.side.Side.TheVariants.{Host}
use Rattle.zw_text.specs.declared.entry.Done.{Done as HowDone}
use Rattle.zw_text.specs.declared.entry.Done.TheVariants as done
use Rattle.zw_text.specs.declared.entry.Ended.TheVariants as endings
use Rattle.zw_text.specs.declared.entry.Entry.{Entry}
use Rattle.zw_text.specs.declared.entry.Entry.TheVariants.{Interviewed, InterviewFailed, Old, QueueFull, Report, Said, Time, Unkept, Unstored, Written}
use Rattle.law_transcript.specs.Units.{Carried, bringing_in, sending_in}
use Rattle.law_time.specs.Heeds.{Heeds}
use Rattle.law_time.specs.Moments.{clock, now_at}
use Rattle.law_time.specs.Judged.{is_acknowledgement, is_mark}
use Rattle.law_time.specs.Requests.{are_none, asked, is_new, request_last, starts_anew}
use Rattle.law_time.specs.Ends.{giving_up, is_called_back, is_ending_here, silence}
use Rattle.law_time.specs.Interviews.{fails, node_interviewed, succeeds}
use Rattle.law_time.specs.Unanswered.{to_give_up}
use Rattle.law_time.specs.Attempts.{is_last_nonce, is_next_nonce}
use Rattle.law_time.specs.Wants.{segments_wanted}
use Rattle.proof_hearing.specs.proof_queue.proof_attempts.proof_requests.law_host.Course.{Course, Giver, Offer, Sealer, each_in_turn, giver_of, if_kept, is_kept, restarted, sealer_of, with_giver, with_heeded, with_note, with_notes, with_taken, without_texts}
use Rattle.proof_hearing.specs.proof_queue.proof_attempts.proof_requests.law_host.Ends.{done_notes, ends_badly, ends_by_frame, ends_interview, ends_sealing, ends_with, ends_without, failed_notes, frame_notes, gives_up, gives_up_late, is_of_sealed, sleep_notes, to_give_up_by_end}
use Rattle.proof_hearing.specs.proof_queue.proof_attempts.proof_requests.law_host.Following.{after, comes_to, course_after, ended_whole, has_heard, has_ticked, is_before_host, is_of_host, makes, nothing_due, passes, requests, stands, stands_among, writes}
use Rattle.proof_hearing.specs.proof_queue.proof_attempts.proof_requests.law_host.Frames.{frame_next, hears_all, hears_carried, hears_payload, hears_sealed, hears_text, judges, names_live, opens, text_next}
use Rattle.proof_hearing.specs.proof_queue.proof_attempts.proof_requests.law_host.Messages.{Hearing, ends_session, gives_next, has_room, hears, hears_nonce, hears_nonce_get, hears_report, hears_value, is_full, is_of_open, is_told_openly, offers_last, past_now, puts, sealed_for, takes_nonce, takes_report, unread}
use Rattle.proof_hearing.specs.proof_queue.proof_attempts.proof_requests.law_host.Nonces.{asks_nonce, is_late, may_be_sent, may_carry, sends, sends_carried, shows_nonce, uses_nonce}
use Rattle.proof_hearing.specs.proof_queue.proof_attempts.proof_requests.law_host.Ticks.{denies, is_denied, nodes_in_order, ticks, waits_out}

-- a course with offers in front of what it has offered
abbrev pub in_front : List Offer → Course → Course
in_front offers c = record c { offered = offers ++ c.offered }

-- ---- one after another, and one or the other

module _ (changes : Course → Course) where
  pub each_passes : {A : Type 0} (goes : A → Course → Course) → ((item : A) (c : Course) → goes item (changes c) ≡ changes (goes item c)) → (items : List A) (c : Course)
      → each_in_turn goes items (changes c) ≡ changes (each_in_turn goes items c)
  each_passes goes passes [] c = refl
  each_passes goes passes (item ∷ items) c = ap (λ (d : Course). each_in_turn goes items d) (passes item c) ∙ each_passes goes passes items (goes item c)

  either_passes : (b : Bool) (one other one_then other_then : Course) → one_then ≡ changes one → other_then ≡ changes other → (if b then one_then else other_then) ≡ changes (if b then one else other)
  either_passes true one other one_then other_then of or = of
  either_passes false one other one_then other_then of or = or

-- ---- what chooses nothing

-- a course with other choices, and with offers in front
abbrev pub changed : (List Bool → List Bool) → (List (Option (List ℕ)) → List (Option (List ℕ))) → List Offer → Course → Course
changed keepings texts offers c = record c { keepings = keepings c.keepings; texts = texts c.texts; offered = offers ++ c.offered }

module _ (keepings : List Bool → List Bool) (texts : List (Option (List ℕ)) → List (Option (List ℕ))) (offers : List Offer) where
  abbrev varied : Course → Course
  varied c = changed keepings texts offers c

  commands_pass : (past : List Entry) (node : ℕ) (commands : List ℕ) (c : Course) → each_in_turn (gives_up past node) commands (varied c) ≡ varied (each_in_turn (gives_up past node) commands c)
  commands_pass past node [] c = refl
  commands_pass past node (command ∷ commands) c = commands_pass past node commands (gives_up past node command c)

  pub nodes_pass : (heeds : Heeds) (past : List Entry) (now : ℕ) (nodes : List ℕ) (c : Course)
      → each_in_turn (gives_up_late heeds past now) nodes (varied c) ≡ varied (each_in_turn (gives_up_late heeds past now) nodes c)
  nodes_pass heeds past now [] c = refl
  nodes_pass heeds past now (n ∷ nodes) c =
      ap (λ (d : Course). each_in_turn (gives_up_late heeds past now) nodes d) (commands_pass past n (to_give_up heeds (past ++ c.due) now n) c)
      ∙ nodes_pass heeds past now nodes (gives_up_late heeds past now n c)

  pub sealing_passes : (one : Carried) (c : Course) → ends_sealing one (varied c) ≡ varied (ends_sealing one c)
  sealing_passes one c = either_passes varied (is_of_sealed one) (without_texts one.node c) c (without_texts one.node (varied c)) (varied c) refl refl

  badly_passes : (heeds : Heeds) (past : List Entry) (now : ℕ) (one : Carried) (c : Course) → ends_badly heeds past now one (varied c) ≡ varied (ends_badly heeds past now one c)
  badly_passes heeds past now one c =
      ap (λ (d : Course). each_in_turn (gives_up past one.node) (to_give_up_by_end heeds (past ++ d.due) now one.node) d) (sealing_passes one c)
      ∙ commands_pass past one.node (to_give_up_by_end heeds (past ++ (ends_sealing one c).due) now one.node) (ends_sealing one c)

  all_badly_pass : (heeds : Heeds) (past : List Entry) (now : ℕ) (sent : List Carried) (c : Course)
      → each_in_turn (ends_badly heeds past now) sent (varied c) ≡ varied (each_in_turn (ends_badly heeds past now) sent c)
  all_badly_pass heeds past now sent c = each_passes varied (ends_badly heeds past now) (badly_passes heeds past now) sent c

  pub without_passes : (heeds : Heeds) (past : List Entry) (now : ℕ) (how : HowDone) (c : Course) → ends_without heeds past now how (varied c) ≡ varied (ends_without heeds past now how c)
  without_passes heeds past now how c =
      all_badly_pass heeds past now (sending_in (asked past).frame) (with_notes (done_notes heeds past how ++ sleep_notes past ++ failed_notes past) (record c { over = true }))

  waits_pass : (heeds : Heeds) (past : List Entry) (now : ℕ) (c : Course) → waits_out heeds past now (varied c) ≡ varied (waits_out heeds past now c)
  waits_pass heeds past now c =
      let silent : Bool = list_any (λ tick. nat_le tick now) (silence (asked past)) in
      let ends : HowDone → Course → Course = λ how d. ends_without heeds past now how d in
      either_passes varied (list_any (λ tick. nat_le tick now) (giving_up (asked past))) (ends done.LinkFailed c) (if silent then ends done.Silent c else c)
      (ends done.LinkFailed (varied c)) (if silent then ends done.Silent (varied c) else varied c) (without_passes heeds past now done.LinkFailed c)
      (either_passes varied silent (ends done.Silent c) c (ends done.Silent (varied c)) (varied c) (without_passes heeds past now done.Silent c) refl)

  pub ticks_pass : (heeds : Heeds) (past : List Entry) (now : ℕ) (c : Course) → ticks heeds past now (varied c) ≡ varied (ticks heeds past now c)
  ticks_pass heeds past now c =
      let at : Course = record c { ticked = now } in
      ap (λ (d : Course). each_in_turn (gives_up_late heeds past now) (nodes_in_order past) d)
      (either_passes varied c.over at (waits_out heeds past now at) (varied at) (waits_out heeds past now (varied at)) refl (waits_pass heeds past now at))
      ∙ nodes_pass heeds past now (nodes_in_order past) (if c.over then at else waits_out heeds past now at)

  denies_passes : (heeds : Heeds) (past : List Entry) (c : Course) → denies heeds past (varied c) ≡ varied (denies heeds past c)
  denies_passes heeds past c =
      let ends : Course → Course = λ d. ends_without heeds past (clock past) done.LinkFailed d in
      either_passes varied (not c.over && is_denied past) (ends c) c (ends (varied c)) (varied c) (without_passes heeds past (clock past) done.LinkFailed c) refl

-- ---- what is kept

module _ (offers : List Offer) where
  abbrev front : Course → Course
  front c = in_front offers c

  either : (b : Bool) (one other one_then other_then : Course) → one_then ≡ front one → other_then ≡ front other → (if b then one_then else other_then) ≡ front (if b then one else other)
  either b one other one_then other_then of or = either_passes front b one other one_then other_then of or

  kept_passes : (node : ℕ) (goes_on : Course → Course) → ((next : Course) → goes_on (front next) ≡ front (goes_on next)) → (c : Course) → if_kept node goes_on (front c) ≡ front (if_kept node goes_on c)
  kept_passes node goes_on passes c =
      let next : Course = record c { keepings = drop 1 c.keepings } in
      either (is_kept c.keepings) (goes_on next) (with_note (Unkept node) next) (goes_on (front next)) (with_note (Unkept node) (front next)) (passes next) refl

  puts_pass : (hearing : Hearing) (waits : Course → Course) → ((next : Course) → waits (front next) ≡ front (waits next)) → (c : Course) → puts hearing waits (front c) ≡ front (puts hearing waits c)
  puts_pass hearing waits passes c =
      let next : Course = record c { put = c.put + 1 } in
      let full : Course → Course = λ d. with_note (QueueFull hearing.node) d in
      either (is_full hearing c) (full c) (waits next) (full (front c)) (waits (front next)) refl (passes next)

  -- ---- messages

  takes_report_passes : (hearing : Hearing) (id : ℕ) (status : ReportStatus) (wake_request : Bool) (c : Course)
      → takes_report hearing id status wake_request (front c) ≡ front (takes_report hearing id status wake_request c)
  takes_report_passes hearing id statuses.Working wake_request c = refl
  takes_report_passes hearing id statuses.Success wake_request c = kept_passes hearing.node (ends_session hearing wake_request endings.Success) (λ next. refl) c
  takes_report_passes hearing id statuses.Fail wake_request c = kept_passes hearing.node (ends_session hearing wake_request endings.Fail) (λ next. refl) c
  takes_report_passes hearing id statuses.NoSupport wake_request c = kept_passes hearing.node (ends_session hearing wake_request endings.NoSupport) (λ next. refl) c

  report_passes : (hearing : Hearing) (id : ℕ) (status : ReportStatus) (wake_request : Bool) (c : Course)
      → hears_report hearing id status wake_request (front c) ≡ front (hears_report hearing id status wake_request c)
  report_passes hearing id status wake_request c =
      let is_open : Bool = is_of_open hearing.node (past_now hearing c) id in
      let takes : Course → Course = λ d. takes_report hearing id status wake_request d in
      let old : Course → Course = λ d. with_note (Old hearing.node id) d in
      either (is_told_openly hearing c) (unread hearing c) (if is_open then takes c else old c) (unread hearing (front c)) (if is_open then takes (front c) else old (front c)) refl
      (either is_open (takes c) (old c) (takes (front c)) (old (front c)) (takes_report_passes hearing id status wake_request c) refl)

  offer_passes : (hearing : Hearing) (c : Course) → offers_last hearing (front c) ≡ front (offers_last hearing c)
  offer_passes hearing c =
      let giver : Giver = giver_of hearing.node c in
      puts_pass hearing (with_giver hearing.node (record giver { offers = giver.offers ++ giver.given ∷ [] })) (λ next. refl) (with_taken told.NonceGet c)

  get_passes : (hearing : Hearing) (c : Course) → hears_nonce_get hearing (front c) ≡ front (hears_nonce_get hearing c)
  get_passes hearing c =
      let gives : Course → Course = λ next. offers_last hearing (gives_next hearing.node next) in
      either (giver_of hearing.node c).live (offers_last hearing c) (if_kept hearing.node gives c) (offers_last hearing (front c)) (if_kept hearing.node gives (front c)) (offer_passes hearing c)
      (kept_passes hearing.node gives (λ next. offer_passes hearing (gives_next hearing.node next)) c)

  takes_nonce_passes : (hearing : Hearing) (nonce : List ℕ) (sealer : Sealer) (c : Course) → takes_nonce hearing nonce sealer (front c) ≡ front (takes_nonce hearing nonce sealer c)
  takes_nonce_passes hearing nonce sealer c =
      let seals : ℕ → Course → Course = λ seen next. sealed_for hearing.node nonce seen (with_taken (told.NonceReport nonce) next) in
      let is_next : Bool = is_next_nonce sealer.seen nonce in
      let goes : Course → Course = λ d. if_kept hearing.node (seals (sealer.seen + 1)) d in
      either (is_last_nonce sealer.seen nonce) (seals sealer.seen c) (if is_next then goes c else c) (seals sealer.seen (front c)) (if is_next then goes (front c) else front c) refl
      (either is_next (goes c) c (goes (front c)) (front c) (kept_passes hearing.node (seals (sealer.seen + 1)) (λ next. refl) c) refl)

  nonce_passes : (hearing : Hearing) (nonce : List ℕ) (c : Course) → hears_nonce hearing nonce (front c) ≡ front (hears_nonce hearing nonce c)
  nonce_passes hearing nonce c =
      let sealer : Sealer = sealer_of hearing.node c in
      let late : Bool = is_late hearing.heeds (past_now hearing c) hearing.node in
      let takes : Course → Course = λ d. takes_nonce hearing nonce sealer d in
      either (are_none sealer.pending) c (if late then c else takes c) (front c) (if late then front c else takes (front c)) refl
      (either late c (takes c) (front c) (takes (front c)) refl (takes_nonce_passes hearing nonce sealer c))

  value_passes : (hearing : Hearing) (setting : Setting) (c : Course) → hears_value hearing setting (front c) ≡ front (hears_value hearing setting c)
  value_passes hearing setting c =
      let reports : Course → Course = λ d. with_note (Report hearing.node setting) d in
      let drops : Course → Course = λ d. with_note (Unstored hearing.node setting.property) d in
      either (has_room hearing (past_now hearing c) setting) (reports c) (drops c) (reports (front c)) (drops (front c)) refl refl

  message_passes : (hearing : Hearing) (message : Told) (c : Course) → hears hearing message (front c) ≡ front (hears hearing message c)
  message_passes hearing (told.Report id status wake_request) c = report_passes hearing id status wake_request c
  message_passes hearing told.NonceGet c = get_passes hearing c
  message_passes hearing (told.NonceReport nonce) c = nonce_passes hearing nonce c
  message_passes hearing told.Notification c = refl
  message_passes hearing (told.SegmentRequest id offset) c =
      let asks : List ℕ → Course → Course = λ want next. puts hearing (λ last. last) (with_taken (told.SegmentRequest id offset) next) in
      each_passes front asks (λ want next. puts_pass hearing (λ last. last) (λ last. refl) (with_taken (told.SegmentRequest id offset) next))
      (segments_wanted hearing.heeds.listing (past_now hearing c) hearing.node id offset) c
  message_passes hearing (told.Values settings) c = each_passes front (hears_value hearing) (value_passes hearing) settings c

  -- ---- payloads

  all_pass : (hearing : Hearing) (heard : Heard) (c : Course) → hears_all hearing heard (front c) ≡ front (hears_all hearing heard c)
  all_pass hearing (Messages messages) c = each_passes front (hears hearing) (message_passes hearing) messages c
  all_pass hearing Sealed c = refl
  all_pass hearing Unread c = refl

  text_passes : (hearing : Hearing) (text : Option (List ℕ)) (c : Course) → hears_text hearing text (front c) ≡ front (hears_text hearing text c)
  text_passes hearing None c = refl
  text_passes hearing (Some text) c = all_pass (record hearing { was_sealed = true }) (heard_at text) c

  opening_passes : (hearing : Hearing) (c : Course) → opens hearing (front c) ≡ front (opens hearing c)
  opening_passes hearing c =
      let giver : Giver = giver_of hearing.node c in
      let text : Option (List ℕ) = text_next c.texts in
      text_passes hearing text (with_giver hearing.node (record giver { live = false }) (record c {
        texts = drop 1 c.texts;
        opened = c.opened ++ record { node = hearing.node; number = giver.given; payload = hearing.payload; text = text } ∷ [];
      }))

  sealed_passes : (hearing : Hearing) (c : Course) → hears_sealed hearing (front c) ≡ front (hears_sealed hearing c)
  sealed_passes hearing c =
      let goes : Course → Course = λ d. if_kept hearing.node (opens hearing) d in
      either (names_live hearing.payload (giver_of hearing.node c)) (goes c) (unread hearing c) (goes (front c)) (unread hearing (front c))
      (kept_passes hearing.node (opens hearing) (opening_passes hearing) c) refl

  payload_passes : (hearing : Hearing) (heard : Heard) (c : Course) → hears_payload hearing heard (front c) ≡ front (hears_payload hearing heard c)
  payload_passes hearing Sealed c = sealed_passes hearing c
  payload_passes hearing (Messages messages) c = all_pass hearing (Messages messages) c
  payload_passes hearing Unread c = refl

  -- ---- ends by frames

  interview_passes : (past : List Entry) (node : ℕ) (c : Course) → ends_interview past node (front c) ≡ front (ends_interview past node c)
  interview_passes past node c =
      let well : Course → Course = λ d. if_kept node (with_note (Interviewed node)) d in
      let failed : Course → Course = λ d. with_note (InterviewFailed node) d in
      either (succeeds node past) (well c) (if fails node past then failed c else c) (well (front c)) (if fails node past then failed (front c) else front c)
      (kept_passes node (with_note (Interviewed node)) (λ next. refl) c)
      (either (fails node past) (failed c) c (failed (front c)) (front c) refl refl)

  module _ (heeds : Heeds) (past : List Entry) where
    badly_all : (sent : List Carried) (c : Course) → each_in_turn (ends_badly heeds past (clock past)) sent (front c) ≡ front (each_in_turn (ends_badly heeds past (clock past)) sent c)
    badly_all sent c = all_badly_pass (λ keepings. keepings) (λ texts. texts) offers heeds past (clock past) sent c

    end_passes : (c : Course) → ends_with heeds past (clock past) (front c) ≡ front (ends_with heeds past (clock past) c)
    end_passes c =
        let ended : Course = with_notes (frame_notes heeds past) (record c { over = true }) in
        let nodes : List ℕ = node_interviewed (request_last past) in
        let noted : Course = each_in_turn (ends_interview past) nodes ended in
        let noted_then : Course = each_in_turn (ends_interview past) nodes (front ended) in
        let badly : Course → Course = λ d. each_in_turn (ends_badly heeds past (clock past)) (sending_in (asked past).frame) d in
        let same : noted_then ≡ front noted = each_passes front (ends_interview past) (interview_passes past) nodes ended in
        either (is_called_back 0 past) noted (badly noted) noted_then (badly noted_then) same (ap badly same ∙ badly_all (sending_in (asked past).frame) noted)

    frame_end_passes : (c : Course) → ends_by_frame heeds past (front c) ≡ front (ends_by_frame heeds past c)
    frame_end_passes c =
        let ends : Course → Course = λ d. ends_with heeds past (clock past) d in
        either (not c.over && is_ending_here past) (ends c) c (ends (front c)) (front c) (end_passes c) refl

    -- ---- frames

    carried_passes : (before : List Entry) (carried : Carried) (c : Course) → hears_carried heeds before past carried (front c) ≡ front (hears_carried heeds before past carried c)
    carried_passes before carried c =
        let hearing : Hearing = record { heeds = heeds; before = before; past = past; node = carried.node; payload = carried.payload; was_sealed = false } in
        ap (with_heeded past carried) (payload_passes hearing (heard_at carried.payload) (record c { taken = [] }))

    frame_passes : (before : List Entry) (frame : List ℕ) (c : Course) → judges heeds before past frame (front c) ≡ front (judges heeds before past frame c)
    frame_passes before frame c =
        ap (λ (d : Course). each_in_turn (hears_carried heeds before past) (bringing_in frame) d) (frame_end_passes (record c { put = 0 }))
        ∙ each_passes front (hears_carried heeds before past) (carried_passes before) (bringing_in frame) (ends_by_frame heeds past (record c { put = 0 }))

  -- ---- requests

  module _ (heeds : Heeds) (past : List Entry) where
    shows_pass : (carried : Carried) (c : Course) → shows_nonce carried (front c) ≡ front (shows_nonce carried c)
    shows_pass carried c =
        let offer_of : ℕ → Offer = λ number. record { node = carried.node; number = number; nonce = drop 2 carried.payload } in
        ap (λ (l : List Offer). record (shows_nonce carried c) { offered = l }) (append_assoc offers c.offered (map offer_of (take 1 (giver_of carried.node c).offers)))

    sending_passes : (carried : Carried) (c : Course) → sends_carried heeds past carried (front c) ≡ front (sends_carried heeds past carried c)
    sending_passes carried c = by _ _ _
      where
        by : (a b d : Bool)
            → (if a then asks_nonce heeds past carried.node (front c) else (if b then shows_nonce carried (front c) else (if d then uses_nonce carried (front c) else front c)))
            ≡ front (if a then asks_nonce heeds past carried.node c else (if b then shows_nonce carried c else (if d then uses_nonce carried c else c)))
        by true b d = refl
        by false true d = shows_pass carried c
        by false false true = refl
        by false false false = refl

    carry_same : (all : List Carried) (c : Course) → list_all (may_carry heeds past (front c)) all ≡ list_all (may_carry heeds past c) all
    carry_same [] c = refl
    carry_same (carried ∷ all) c = ap (λ (b : Bool). may_carry heeds past c carried && b) (carry_same all c)

    request_passes : (unit : List ℕ) (c : Course) → requests heeds past unit (front c) ≡ front (requests heeds past unit c)
    request_passes unit c =
        ap (λ (b : Bool). sends heeds past unit (front (record c { over = false; fits = c.fits && b }))) (carry_same (sending_in unit) c)
        ∙ each_passes front (sends_carried heeds past) sending_passes (sending_in unit) (record c { over = false; fits = c.fits && may_be_sent heeds past unit c })

    -- ---- entries

    abbrev asking : Entry → Course → Course
    asking entry c = has_heard heeds past entry (has_ticked heeds past entry c)

    ticking_passes : (now : ℕ) (c : Course) → ticks heeds past now (front c) ≡ front (ticks heeds past now c)
    ticking_passes now c = ticks_pass (λ keepings. keepings) (λ texts. texts) offers heeds past now c

    passing_passes : (entry : Entry) (c : Course) → passes heeds past entry (front c) ≡ front (passes heeds past entry c)
    passing_passes entry c = ap nothing_due (ticking_passes (now_at past entry) (nothing_due c))

    ticked_passes : (entry : Entry) (c : Course) → has_ticked heeds past entry (front c) ≡ front (has_ticked heeds past entry c)
    ticked_passes entry c =
        let goes : Course → Course = λ d. ticks heeds past (clock past) d in
        either (nat_lt c.ticked (clock past) && not (is_before_host past entry)) (goes c) c (goes (front c)) (front c) (ticking_passes (clock past) c) refl

    heard_passes : (entry : Entry) (c : Course) → has_heard heeds past entry (front c) ≡ front (has_heard heeds past entry c)
    heard_passes entry c =
        let goes : Course → Course = λ d. denies heeds past d in
        either (are_none c.due && is_of_host entry) (goes c) c (goes (front c)) (front c) (denies_passes (λ keepings. keepings) (λ texts. texts) offers heeds past c) refl

    asking_passes : (entry : Entry) (c : Course) → asking entry (front c) ≡ front (asking entry c)
    asking_passes entry c = ap (has_heard heeds past entry) (ticked_passes entry c) ∙ heard_passes entry (has_ticked heeds past entry c)

    coming_passes : (entry : Entry) (c : Course) → comes_to heeds past entry (front c) ≡ front (comes_to heeds past entry c)
    coming_passes (Said words) c = passing_passes (Said words) c
    coming_passes (Time tick) c = passing_passes (Time tick) c
    coming_passes entry c = either (are_none c.due) (asking entry c) c (asking entry (front c)) (front c) (asking_passes entry c) refl

    standing_passes : (entry : Entry) (due : List Entry) (c : Course) → stands_among due past entry (front c) ≡ front (stands_among due past entry c)
    standing_passes entry [] c = refl
    standing_passes entry (note ∷ notes) c = refl

    writing_passes : (unit : List ℕ) (c : Course) → writes heeds past unit (front c) ≡ front (writes heeds past unit c)
    writing_passes unit c =
        let is_a_new : Bool = is_new (asked past) unit in
        let judged : Course → Course = λ d. each_in_turn (judges heeds past (past ++ Written Host unit ∷ [])) (frame_next past) d in
        let asks : Course → Course = λ d. requests heeds past unit d in
        either (is_acknowledgement unit) (judged c) (if is_a_new then asks c else c) (judged (front c)) (if is_a_new then asks (front c) else front c)
        (each_passes front (judges heeds past (past ++ Written Host unit ∷ [])) (frame_passes heeds (past ++ Written Host unit ∷ []) past) (frame_next past) c)
        (either is_a_new (asks c) c (asks (front c)) (front c) (request_passes unit c) refl)

    making_passes : (entry : Entry) (rest : List Entry) (c : Course) → makes heeds past entry rest (front c) ≡ front (makes heeds past entry rest c)
    making_passes (Written Host unit) rest c = writing_passes unit c
    making_passes (Said words) rest c = either (starts_anew (Said words) rest) (restarted c) c (restarted (front c)) (front c) refl refl
    making_passes entry rest c = refl

    entry_passes : (entry : Entry) (rest : List Entry) (c : Course) → after heeds past entry rest (front c) ≡ front (after heeds past entry rest c)
    entry_passes entry rest c =
        let comes : Course → Course = λ d. comes_to heeds past entry d in
        let goes : Course → Course = λ d. makes heeds past entry rest (stands past entry d) in
        let same : goes (comes (front c)) ≡ front (goes (comes c)) =
        ap goes (coming_passes entry c) ∙ ap (makes heeds past entry rest) (standing_passes entry (comes c).due (comes c)) ∙ making_passes entry rest (stands past entry (comes c)) in
        either (is_mark entry || not c.fits) c (goes (comes c)) (front c) (goes (comes (front c))) refl same

  -- ---- the law

  pub offers_stay : (heeds : Heeds) (past told : List Entry) (c : Course) → course_after heeds past told (front c) ≡ front (course_after heeds past told c)
  offers_stay heeds past [] c = refl
  offers_stay heeds past (entry ∷ rest) c =
      ap (λ (d : Course). course_after heeds (past ++ entry ∷ []) rest d) (entry_passes heeds past entry rest c)
      ∙ offers_stay heeds (past ++ entry ∷ []) rest (after heeds past entry rest c)

  pub offers_stay_whole : (heeds : Heeds) (transcript : List Entry) (c : Course) → ended_whole heeds transcript (front c) ≡ front (ended_whole heeds transcript c)
  offers_stay_whole heeds transcript c = passing_passes heeds transcript (Said []) c
