-- What is left of a payload opens nothing, where no further record of it is kept: messages open none.
use Rattle.std.proofs.Common.{◌≡◌, ℕ, ◌+◌, Bool, true, false, if◌then◌else◌, List, [], ◌∷◌, ◌++◌, refl, ◌∙◌}
use Rattle.std.specs.Prelude.{drop}
use Rattle.zw_text.specs.declared.entry.Entry.TheVariants as entry
use Rattle.zw_base.specs.declared.property.Setting.{Setting}
use Rattle.class_info.specs.declared.report_status.ReportStatus.{ReportStatus}
use Rattle.class_info.specs.declared.report_status.ReportStatus.TheVariants as statuses
use Rattle.zw_text.specs.declared.entry.Ended.{Ended}
use Rattle.zw_text.specs.declared.entry.Ended.TheVariants as endings
use Rattle.host_heard.specs.Telling.{heard_at}
use Rattle.host_heard.specs.declared.payload.Heard.{Heard}
use Rattle.host_heard.specs.declared.payload.Heard.TheVariants.{Messages, Sealed, Unread}
use Rattle.host_heard.specs.declared.told.Told.{Told}
use Rattle.host_heard.specs.declared.told.Told.TheVariants.{Report, NonceGet, NonceReport, Notification, SegmentRequest, Values}
use Rattle.law_time.specs.Attempts.{is_last_nonce, is_next_nonce}
use Rattle.law_time.specs.Requests.{are_none}
use Rattle.law_time.specs.Wants.{segments_wanted}
use Rattle.proof_hearing.specs.Hearing.{Remaining, Whole, Left, choosing, finishes}
use Rattle.proof_hearing.specs.proof_queue.proof_attempts.proof_requests.law_host.Course.{Course, Giver, Opening, Sealer, each_in_turn, giver_of, if_kept, is_kept, sealer_of, with_giver, with_note, with_taken}
use Rattle.proof_hearing.specs.proof_queue.proof_attempts.proof_requests.law_host.Frames.{hears_payload, names_live, opens}
use Rattle.proof_hearing.specs.proof_queue.proof_attempts.proof_requests.law_host.Messages.{Hearing, ends_session, gives_next, has_room, hears, hears_nonce, hears_nonce_get, hears_report, hears_segment_request, hears_value, is_full, is_of_open, is_told_openly, offers_last, past_now, puts, sealed_for, takes_nonce, takes_report, unread}
use Rattle.proof_hearing.specs.proof_queue.proof_attempts.proof_requests.law_host.Nonces.{is_late}

abbrev Leaves : (Course → Course) → Type 0
Leaves goes = (course : Course) → (goes course).opened ≡ course.opened

either : (b : Bool) (first second : Course) (opened : List Opening) → first.opened ≡ opened → second.opened ≡ opened → (if b then first else second).opened ≡ opened
either true first second opened one other = one
either false first second opened one other = other

each_leaves : {A : Type 0} (goes : A → Course → Course) → ((item : A) → Leaves (goes item)) → (items : List A) → Leaves (each_in_turn goes items)
each_leaves goes leaves [] course = refl
each_leaves goes leaves (item ∷ items) course = each_leaves goes leaves items (goes item course) ∙ leaves item course

kept_leaves : (node : ℕ) (goes : Course → Course) → Leaves goes → Leaves (if_kept node goes)
kept_leaves node goes leaves course =
    let next : Course = record course { keepings = drop 1 course.keepings } in
    either (is_kept course.keepings) (goes next) (with_note (entry.Unkept node) next) course.opened (leaves next) refl

module _ (hearing : Hearing) where
  ends_kept : (wake : Bool) (ended : Ended) → Leaves (if_kept hearing.node (ends_session hearing wake ended))
  ends_kept wake ended = kept_leaves hearing.node (ends_session hearing wake ended) (λ course. refl)

  takes_leave : (id : ℕ) (status : ReportStatus) (wake : Bool) → Leaves (takes_report hearing id status wake)
  takes_leave id statuses.Working wake course = refl
  takes_leave id statuses.Success wake course = ends_kept wake endings.Success course
  takes_leave id statuses.Fail wake course = ends_kept wake endings.Fail course
  takes_leave id statuses.NoSupport wake course = ends_kept wake endings.NoSupport course

  report_leaves : (id : ℕ) (status : ReportStatus) (wake : Bool) → Leaves (hears_report hearing id status wake)
  report_leaves id status wake course =
      either (is_told_openly hearing course) (unread hearing course) _ course.opened refl
      (either (is_of_open hearing.node (past_now hearing course) id) (takes_report hearing id status wake course) (with_note (entry.Old hearing.node id) course) course.opened
      (takes_leave id status wake course) refl)

  puts_leave : (waits : Course → Course) → Leaves waits → Leaves (puts hearing waits)
  puts_leave waits leaves course =
      let next : Course = record course { put = course.put + 1 } in
      either (is_full hearing course) (with_note (entry.QueueFull hearing.node) course) (waits next) course.opened refl (leaves next)

  -- the last nonce waits
  abbrev waits_last : Giver → Course → Course
  waits_last giver course = with_giver hearing.node (record giver { offers = giver.offers ++ giver.given ∷ [] }) course

  offers_leave : Leaves (offers_last hearing)
  offers_leave course = puts_leave (waits_last (giver_of hearing.node course)) (λ next. refl) (with_taken NonceGet course)

  gives_leave : Leaves (λ next. offers_last hearing (gives_next hearing.node next))
  gives_leave course = offers_leave (gives_next hearing.node course)

  get_leaves : Leaves (hears_nonce_get hearing)
  get_leaves course =
      either (giver_of hearing.node course).live (offers_last hearing course) _ course.opened (offers_leave course)
      (kept_leaves hearing.node (λ next. offers_last hearing (gives_next hearing.node next)) gives_leave course)

  nonce_taken : (nonce : List ℕ) (sealer : Sealer) → Leaves (takes_nonce hearing nonce sealer)
  nonce_taken nonce sealer course =
      either (is_last_nonce sealer.seen nonce) _ _ course.opened refl
      (either (is_next_nonce sealer.seen nonce) _ course course.opened
      (kept_leaves hearing.node (λ next. sealed_for hearing.node nonce (sealer.seen + 1) (with_taken (NonceReport nonce) next)) (λ next. refl) course) refl)

  nonce_leaves : (nonce : List ℕ) → Leaves (hears_nonce hearing nonce)
  nonce_leaves nonce course =
      either (are_none (sealer_of hearing.node course).pending) course _ course.opened refl
      (either (is_late hearing.heeds (past_now hearing course) hearing.node) course _ course.opened refl (nonce_taken nonce (sealer_of hearing.node course) course))

  segment_leaves : (id offset : ℕ) → Leaves (hears_segment_request hearing id offset)
  segment_leaves id offset course =
      each_leaves (λ (want : List ℕ) next. puts hearing (λ last. last) (with_taken (SegmentRequest id offset) next))
      (λ want next. puts_leave (λ last. last) (λ last. refl) (with_taken (SegmentRequest id offset) next))
      (segments_wanted hearing.heeds.listing (past_now hearing course) hearing.node id offset) course

  value_leaves : (setting : Setting) → Leaves (hears_value hearing setting)
  value_leaves setting course =
      either (has_room hearing (past_now hearing course) setting) (with_note (entry.Report hearing.node setting) course) (with_note (entry.Unstored hearing.node setting.property) course) course.opened refl refl

  message_leaves : (message : Told) → Leaves (hears hearing message)
  message_leaves (Report id status wake) course = report_leaves id status wake course
  message_leaves NonceGet course = get_leaves course
  message_leaves (NonceReport nonce) course = nonce_leaves nonce course
  message_leaves Notification course = refl
  message_leaves (SegmentRequest id offset) course = segment_leaves id offset course
  message_leaves (Values settings) course = each_leaves (hears_value hearing) value_leaves settings course

  abbrev denied : Course → Course
  denied course = choosing (false ∷ []) [] course

  payload_leaves : (heard : Heard) (course : Course) → (hears_payload hearing heard (denied course)).opened ≡ course.opened
  payload_leaves (Messages messages) course = each_leaves (hears hearing) message_leaves messages (denied course)
  payload_leaves Unread course = refl
  payload_leaves Sealed course =
      either (names_live hearing.payload (giver_of hearing.node course)) (if_kept hearing.node (opens hearing) (denied course)) (unread hearing (denied course)) course.opened refl refl

pub denied_opens : (hearing : Hearing) (remaining : Remaining) (course : Course) → (finishes hearing remaining (choosing (false ∷ []) [] course)).opened ≡ course.opened
denied_opens hearing Whole course = payload_leaves hearing (heard_at hearing.payload) course
denied_opens hearing (Left sealed messages) course =
    each_leaves (hears (record hearing { was_sealed = sealed })) (λ message. message_leaves (record hearing { was_sealed = sealed }) message) messages (choosing (false ∷ []) [] course)
