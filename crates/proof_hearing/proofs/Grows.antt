-- A payload adds notes to those of a course, and changes nothing but what a payload may.
use Rattle.std.proofs.Common.{◌≡◌, ℕ, Bool, true, false, if◌then◌else◌, List, [], ◌∷◌, ◌++◌, refl, sym, ap, ◌∙◌, append-nil, append_assoc}
use Rattle.std.specs.Prelude.{◌+◌, drop, Option, Some, None}
use Rattle.zw_text.specs.declared.entry.Entry.{Entry}
use Rattle.zw_text.specs.declared.entry.Entry.TheVariants as entry
use Rattle.class_info.specs.declared.report_status.ReportStatus.{ReportStatus}
use Rattle.class_info.specs.declared.report_status.ReportStatus.TheVariants as statuses
use Rattle.zw_text.specs.declared.entry.Ended.{Ended}
use Rattle.zw_text.specs.declared.entry.Ended.TheVariants as endings
use Rattle.zw_base.specs.declared.property.Setting.{Setting}
use Rattle.host_heard.specs.Telling.{heard_at}
use Rattle.host_heard.specs.declared.payload.Heard.{Heard}
use Rattle.host_heard.specs.declared.payload.Heard.TheVariants.{Messages, Sealed, Unread}
use Rattle.host_heard.specs.declared.told.Told.{Told}
use Rattle.host_heard.specs.declared.told.Told.TheVariants.{Report, NonceGet, NonceReport, Notification, SegmentRequest, Values}
use Rattle.law_time.specs.Attempts.{is_last_nonce, is_next_nonce}
use Rattle.law_time.specs.Requests.{are_none}
use Rattle.law_time.specs.Wants.{segments_wanted}
use Rattle.proof_choice.specs.proof_ends.proof_requests.law_host.Course.{Course, Giver, Sealer, each_in_turn, giver_of, if_kept, is_kept, sealer_of, with_giver, with_note, with_notes, with_taken}
use Rattle.proof_choice.specs.proof_ends.proof_requests.law_host.Frames.{hears_all, hears_payload, hears_text, names_live, opens, text_next}
use Rattle.proof_choice.specs.proof_ends.proof_requests.law_host.Messages.{Hearing, ends_session, gives_next, has_room, hears, hears_nonce, hears_nonce_get, hears_report, hears_segment_request, hears_value, is_full, is_of_open, is_told_openly, offers_last, past_now, puts, sealed_for, takes_nonce, takes_report, unread}
use Rattle.proof_choice.specs.proof_ends.proof_requests.law_host.Nonces.{is_late}
use Rattle.proof_hearing.specs.Hearing.{Remaining, Whole, Left, else_of, finishes}

pub record Adds (old new : Course) : Type 0 where
  pub some : List Entry
  pub due : new.due ≡ old.due ++ some
  pub other : else_of new ≡ else_of old

adds_none : (old new : Course) → new.due ≡ old.due → else_of new ≡ else_of old → Adds old new
adds_none old new due other = record { some = []; due = due ∙ sym (append-nil old.due); other = other }

adds_notes : (notes : List Entry) (course : Course) → Adds course (with_notes notes course)
adds_notes notes course = record { some = notes; due = refl; other = refl }

adds_note : (e : Entry) (course : Course) → Adds course (with_note e course)
adds_note e course = adds_notes (e ∷ []) course

both_add : (old mid new : Course) → Adds old mid → Adds mid new → Adds old new
both_add old mid new first next = record {
  some = first.some ++ next.some;
  due = next.due ∙ ap (λ (l : List Entry). l ++ next.some) first.due ∙ append_assoc old.due first.some next.some;
  other = next.other ∙ first.other;
}

-- from one that has the same notes
from_same : (old mid new : Course) → mid.due ≡ old.due → else_of mid ≡ else_of old → Adds mid new → Adds old new
from_same old mid new due other adds = record { some = adds.some; due = adds.due ∙ ap (λ (l : List Entry). l ++ adds.some) due; other = adds.other ∙ other }

one_adds : (b : Bool) (course first second : Course) → Adds course first → Adds course second → Adds course (if b then first else second)
one_adds true course first second adds other = adds
one_adds false course first second adds other = other

-- a way to go on that adds notes
abbrev Adding : (Course → Course) → Type 0
Adding goes = (course : Course) → Adds course (goes course)

each_adds : {A : Type 0} (goes : A → Course → Course) → ((item : A) → Adding (goes item)) → (items : List A) → Adding (each_in_turn goes items)
each_adds goes adds [] course = adds_none course course refl refl
each_adds goes adds (item ∷ items) course = both_add course (goes item course) _ (adds item course) (each_adds goes adds items (goes item course))

kept_adds : (node : ℕ) (goes : Course → Course) → Adding goes → Adding (if_kept node goes)
kept_adds node goes adds course =
    let next : Course = record course { keepings = drop 1 course.keepings } in
    one_adds (is_kept course.keepings) course (goes next) (with_note (entry.Unkept node) next) (from_same course next (goes next) refl refl (adds next))
    (from_same course next (with_note (entry.Unkept node) next) refl refl (adds_note (entry.Unkept node) next))

-- ---- messages

module _ (hearing : Hearing) where
  unread_adds : Adding (unread hearing)
  unread_adds course = adds_note (entry.Unread hearing.node hearing.payload) course

  ends_adds : (wake : Bool) (ended : Ended) → Adding (ends_session hearing wake ended)
  ends_adds wake ended course = record { some = _; due = refl; other = refl }

  ends_kept : (wake : Bool) (ended : Ended) → Adding (if_kept hearing.node (ends_session hearing wake ended))
  ends_kept wake ended = kept_adds hearing.node (ends_session hearing wake ended) (ends_adds wake ended)

  takes_adds : (id : ℕ) (status : ReportStatus) (wake : Bool) → Adding (takes_report hearing id status wake)
  takes_adds id statuses.Working wake course = adds_none course _ refl refl
  takes_adds id statuses.Success wake course = ends_kept wake endings.Success course
  takes_adds id statuses.Fail wake course = ends_kept wake endings.Fail course
  takes_adds id statuses.NoSupport wake course = ends_kept wake endings.NoSupport course

  report_adds : (id : ℕ) (status : ReportStatus) (wake : Bool) → Adding (hears_report hearing id status wake)
  report_adds id status wake course =
      one_adds (is_told_openly hearing course) course (unread hearing course) _ (unread_adds course)
      (one_adds (is_of_open hearing.node (past_now hearing course) id) course (takes_report hearing id status wake course) (with_note (entry.Old hearing.node id) course)
      (takes_adds id status wake course) (adds_note (entry.Old hearing.node id) course))

  puts_add : (waits : Course → Course) → Adding waits → Adding (puts hearing waits)
  puts_add waits adds course =
      let next : Course = record course { put = course.put + 1 } in
      one_adds (is_full hearing course) course (with_note (entry.QueueFull hearing.node) course) (waits next) (adds_note (entry.QueueFull hearing.node) course)
      (from_same course next (waits next) refl refl (adds next))

  -- the last nonce waits
  abbrev waits_last : Giver → Course → Course
  waits_last giver course = with_giver hearing.node (record giver { offers = giver.offers ++ giver.given ∷ [] }) course

  offers_add : Adding (offers_last hearing)
  offers_add course =
      from_same course (with_taken NonceGet course) (offers_last hearing course) refl refl
      (puts_add (waits_last (giver_of hearing.node course)) (λ next. adds_none next (waits_last (giver_of hearing.node course) next) refl refl) (with_taken NonceGet course))

  gives_add : Adding (λ next. offers_last hearing (gives_next hearing.node next))
  gives_add course = from_same course (gives_next hearing.node course) (offers_last hearing (gives_next hearing.node course)) refl refl (offers_add (gives_next hearing.node course))

  get_adds : Adding (hears_nonce_get hearing)
  get_adds course =
      one_adds (giver_of hearing.node course).live course (offers_last hearing course) _ (offers_add course)
      (kept_adds hearing.node (λ next. offers_last hearing (gives_next hearing.node next)) gives_add course)

  taken_adds : (nonce : List ℕ) (seen : ℕ) → Adding (λ next. sealed_for hearing.node nonce seen (with_taken (NonceReport nonce) next))
  taken_adds nonce seen course = adds_none course _ refl refl

  takes_nonce_adds : (nonce : List ℕ) (sealer : Sealer) → Adding (takes_nonce hearing nonce sealer)
  takes_nonce_adds nonce sealer course =
      one_adds (is_last_nonce sealer.seen nonce) course _ _ (taken_adds nonce sealer.seen course)
      (one_adds (is_next_nonce sealer.seen nonce) course _ course
      (kept_adds hearing.node (λ next. sealed_for hearing.node nonce (sealer.seen + 1) (with_taken (NonceReport nonce) next)) (taken_adds nonce (sealer.seen + 1)) course)
      (adds_none course course refl refl))

  nonce_adds : (nonce : List ℕ) → Adding (hears_nonce hearing nonce)
  nonce_adds nonce course =
      one_adds (are_none (sealer_of hearing.node course).pending) course course _ (adds_none course course refl refl)
      (one_adds (is_late hearing.heeds (past_now hearing course) hearing.node) course course _ (adds_none course course refl refl)
      (takes_nonce_adds nonce (sealer_of hearing.node course) course))

  segment_adds : (id offset : ℕ) → Adding (hears_segment_request hearing id offset)
  segment_adds id offset course =
      each_adds (λ (want : List ℕ) next. puts hearing (λ last. last) (with_taken (SegmentRequest id offset) next))
      (λ want next. from_same next (with_taken (SegmentRequest id offset) next) (puts hearing (λ last. last) (with_taken (SegmentRequest id offset) next)) refl refl (puts_add (λ last. last) (λ last. adds_none last last refl refl) (with_taken (SegmentRequest id offset) next)))
      (segments_wanted hearing.heeds.listing (past_now hearing course) hearing.node id offset) course

  value_adds : (setting : Setting) → Adding (hears_value hearing setting)
  value_adds setting course =
      one_adds (has_room hearing (past_now hearing course) setting) course _ _ (adds_note (entry.Report hearing.node setting) course) (adds_note (entry.Unstored hearing.node setting.property) course)

  message_adds : (message : Told) → Adding (hears hearing message)
  message_adds (Report id status wake) course = report_adds id status wake course
  message_adds NonceGet course = get_adds course
  message_adds (NonceReport nonce) course = nonce_adds nonce course
  message_adds Notification course = adds_note (entry.Awake hearing.node) course
  message_adds (SegmentRequest id offset) course = segment_adds id offset course
  message_adds (Values settings) course = each_adds (hears_value hearing) value_adds settings course

  all_adds : (heard : Heard) → Adding (hears_all hearing heard)
  all_adds (Messages messages) course = each_adds (hears hearing) message_adds messages course
  all_adds Sealed course = unread_adds course
  all_adds Unread course = unread_adds course

-- ---- payloads

text_adds : (hearing : Hearing) (text : Option (List ℕ)) → Adding (hears_text hearing text)
text_adds hearing None course = unread_adds hearing course
text_adds hearing (Some text) course = all_adds (record hearing { was_sealed = true }) (heard_at text) course

opens_add : (hearing : Hearing) → Adding (opens hearing)
opens_add hearing course = from_same course _ _ refl refl (text_adds hearing (text_next course.texts) _)

payload_adds : (hearing : Hearing) (heard : Heard) → Adding (hears_payload hearing heard)
payload_adds hearing (Messages messages) course = all_adds hearing (Messages messages) course
payload_adds hearing Unread course = all_adds hearing Unread course
payload_adds hearing Sealed course =
    one_adds (names_live hearing.payload (giver_of hearing.node course)) course _ _ (kept_adds hearing.node (opens hearing) (opens_add hearing) course) (unread_adds hearing course)

pub finishes_adds : (hearing : Hearing) (remaining : Remaining) → Adding (finishes hearing remaining)
finishes_adds hearing Whole course = payload_adds hearing (heard_at hearing.payload) course
finishes_adds hearing (Left sealed messages) course =
    each_adds (hears (record hearing { was_sealed = sealed })) (λ message. message_adds (record hearing { was_sealed = sealed }) message) messages course
