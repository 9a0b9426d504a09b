-- What a text has the host note leaves alone what it has offered and opened.
use Rattle.std.proofs.Common.{◌≡◌, Bool, true, false, ℕ, ◌+◌, List, [], ◌∷◌, ◌++◌, if◌then◌else◌, refl, ◌∙◌}
use Rattle.std.specs.Prelude.{drop}
use Rattle.zw_base.specs.declared.property.Setting.{Setting}
use Rattle.class_info.specs.declared.report_status.ReportStatus.{ReportStatus}
use Rattle.class_info.specs.declared.report_status.ReportStatus.TheVariants as statuses
use Rattle.host_heard.specs.declared.payload.Heard.{Heard}
use Rattle.host_heard.specs.declared.payload.Heard.TheVariants.{Messages, Sealed, Unread}
use Rattle.host_heard.specs.declared.told.Told.{Told}
use Rattle.host_heard.specs.declared.told.Told.TheVariants as told
use Rattle.zw_text.specs.declared.entry.Ended.TheVariants as endings
use Rattle.zw_text.specs.declared.entry.Entry.TheVariants.{Old, QueueFull, Report, Unkept, Unstored}
use Rattle.law_time.specs.Attempts.{is_last_nonce, is_next_nonce}
use Rattle.law_time.specs.Requests.{are_none}
use Rattle.law_time.specs.Wants.{segments_wanted}
use Rattle.law_host.specs.Course.{Course, Giver, Offer, Opening, Sealer, each_in_turn, giver_of, if_kept, is_kept, sealer_of, with_giver, with_note, with_taken}
use Rattle.law_host.specs.Frames.{hears_all}
use Rattle.law_host.specs.Messages.{Hearing, ends_session, gives_next, has_room, hears, hears_nonce, hears_nonce_get, hears_report, hears_value, is_full, is_of_open, is_told_openly, offers_last, past_now, puts, sealed_for, takes_nonce, takes_report, unread}
use Rattle.law_host.specs.Nonces.{is_late}

-- what a course has offered and opened
pub record Shown : Type 0 where
  pub offered : List Offer
  pub opened : List Opening

abbrev pub shown_of : Course → Shown
shown_of course = record { offered = course.offered; opened = course.opened }

either : (is : Bool) (one other : Course) (shown : Shown) → shown_of one ≡ shown → shown_of other ≡ shown → shown_of (if is then one else other) ≡ shown
either true one other shown of or = of
either false one other shown of or = or

each : {A : Type 0} (goes : A → Course → Course) → ((item : A) (course : Course) → shown_of (goes item course) ≡ shown_of course)
    → (items : List A) (course : Course) → shown_of (each_in_turn goes items course) ≡ shown_of course
each goes keeps [] course = refl
each goes keeps (item ∷ items) course = each goes keeps items (goes item course) ∙ keeps item course

if_kept_keeps : (node : ℕ) (goes_on : Course → Course) (course : Course) → ((next : Course) → shown_of (goes_on next) ≡ shown_of next)
    → shown_of (if_kept node goes_on course) ≡ shown_of course
if_kept_keeps node goes_on course keeps =
    let next : Course = record course { keepings = drop 1 course.keepings } in
    either (is_kept course.keepings) (goes_on next) (with_note (Unkept node) next) (shown_of course) (keeps next) refl

puts_keeps : (hearing : Hearing) (waits : Course → Course) (course : Course) → ((next : Course) → shown_of (waits next) ≡ shown_of next)
    → shown_of (puts hearing waits course) ≡ shown_of course
puts_keeps hearing waits course keeps =
    let next : Course = record course { put = course.put + 1 } in
    either (is_full hearing course) (with_note (QueueFull hearing.node) course) (waits next) (shown_of course) refl (keeps next)

-- ---- messages

takes_report_keeps : (hearing : Hearing) (id : ℕ) (status : ReportStatus) (wake_request : Bool) (course : Course)
    → shown_of (takes_report hearing id status wake_request course) ≡ shown_of course
takes_report_keeps hearing id statuses.Working wake_request course = refl
takes_report_keeps hearing id statuses.Success wake_request course = if_kept_keeps hearing.node (ends_session hearing wake_request endings.Success) course (λ next. refl)
takes_report_keeps hearing id statuses.Fail wake_request course = if_kept_keeps hearing.node (ends_session hearing wake_request endings.Fail) course (λ next. refl)
takes_report_keeps hearing id statuses.NoSupport wake_request course = if_kept_keeps hearing.node (ends_session hearing wake_request endings.NoSupport) course (λ next. refl)

report_keeps : (hearing : Hearing) (id : ℕ) (status : ReportStatus) (wake_request : Bool) (course : Course)
    → shown_of (hears_report hearing id status wake_request course) ≡ shown_of course
report_keeps hearing id status wake_request course =
    let is_open : Bool = is_of_open hearing.node (past_now hearing course) id in
    let taken : Course = takes_report hearing id status wake_request course in
    let old : Course = with_note (Old hearing.node id) course in
    either (is_told_openly hearing course) (unread hearing course) (if is_open then taken else old) (shown_of course) refl
    (either is_open taken old (shown_of course) (takes_report_keeps hearing id status wake_request course) refl)

offer_keeps : (hearing : Hearing) (course : Course) → shown_of (offers_last hearing course) ≡ shown_of course
offer_keeps hearing course =
    let giver : Giver = giver_of hearing.node course in
    puts_keeps hearing (with_giver hearing.node (record giver { offers = giver.offers ++ giver.given ∷ [] })) (with_taken told.NonceGet course) (λ next. refl)

get_keeps : (hearing : Hearing) (course : Course) → shown_of (hears_nonce_get hearing course) ≡ shown_of course
get_keeps hearing course =
    let gives : Course → Course = λ next. offers_last hearing (gives_next hearing.node next) in
    either (giver_of hearing.node course).live (offers_last hearing course) (if_kept hearing.node gives course) (shown_of course) (offer_keeps hearing course)
    (if_kept_keeps hearing.node gives course (λ next. offer_keeps hearing (gives_next hearing.node next)))

takes_nonce_keeps : (hearing : Hearing) (nonce : List ℕ) (sealer : Sealer) (course : Course) → shown_of (takes_nonce hearing nonce sealer course) ≡ shown_of course
takes_nonce_keeps hearing nonce sealer course =
    let seals : ℕ → Course → Course = λ seen next. sealed_for hearing.node nonce seen (with_taken (told.NonceReport nonce) next) in
    let is_next : Bool = is_next_nonce sealer.seen nonce in
    let next : Course = if_kept hearing.node (seals (sealer.seen + 1)) course in
    either (is_last_nonce sealer.seen nonce) (seals sealer.seen course) (if is_next then next else course) (shown_of course) refl
    (either is_next next course (shown_of course) (if_kept_keeps hearing.node (seals (sealer.seen + 1)) course (λ next. refl)) refl)

nonce_keeps : (hearing : Hearing) (nonce : List ℕ) (course : Course) → shown_of (hears_nonce hearing nonce course) ≡ shown_of course
nonce_keeps hearing nonce course =
    let sealer : Sealer = sealer_of hearing.node course in
    let late : Bool = is_late hearing.heeds (past_now hearing course) hearing.node in
    let taken : Course = takes_nonce hearing nonce sealer course in
    either (are_none sealer.pending) course (if late then course else taken) (shown_of course) refl
    (either late course taken (shown_of course) refl (takes_nonce_keeps hearing nonce sealer course))

value_keeps : (hearing : Hearing) (setting : Setting) (course : Course) → shown_of (hears_value hearing setting course) ≡ shown_of course
value_keeps hearing setting course =
    either (has_room hearing (past_now hearing course) setting) (with_note (Report hearing.node setting) course)
    (with_note (Unstored hearing.node setting.property) course) (shown_of course) refl refl

hears_keeps : (hearing : Hearing) (message : Told) (course : Course) → shown_of (hears hearing message course) ≡ shown_of course
hears_keeps hearing (told.Report id status wake_request) course = report_keeps hearing id status wake_request course
hears_keeps hearing told.NonceGet course = get_keeps hearing course
hears_keeps hearing (told.NonceReport nonce) course = nonce_keeps hearing nonce course
hears_keeps hearing told.Notification course = refl
hears_keeps hearing (told.SegmentRequest id offset) course =
    let asks : List ℕ → Course → Course = λ want next. puts hearing (λ last. last) (with_taken (told.SegmentRequest id offset) next) in
    each asks (λ want next. puts_keeps hearing (λ last. last) (with_taken (told.SegmentRequest id offset) next) (λ last. refl))
    (segments_wanted hearing.heeds.listing (past_now hearing course) hearing.node id offset) course
hears_keeps hearing (told.Values settings) course = each (hears_value hearing) (value_keeps hearing) settings course

-- ---- texts

pub all_keep : (hearing : Hearing) (heard : Heard) (course : Course) → shown_of (hears_all hearing heard course) ≡ shown_of course
all_keep hearing (Messages messages) course = each (hears hearing) (hears_keeps hearing) messages course
all_keep hearing Sealed course = refl
all_keep hearing Unread course = refl
