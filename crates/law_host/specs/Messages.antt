-- What a message of a node has the host note (Supervision, Security 0, Wake Up and Transport Service Command Classes and the reports of the
-- Application Command Classes; which notes come of which message is this project's own rule).
use Rattle.std.specs.Prelude.{ℕ, ◌+◌, ◌%◌, ◌==◌, ◌&&◌, not, nat_le, Bool, true, if◌then◌else◌, List, [], ◌∷◌, ◌++◌, length}
use Rattle.std.specs.List.{flat_map}
use Rattle.std.specs.Set.{distinct_count}
use Rattle.serial_frame.specs.declared.unit.TheConstants.{ACK}
use Rattle.zw_base.specs.PropertyOrder.{same_property}
use Rattle.zw_base.specs.declared.property.Setting.{Setting}
use Rattle.class_info.specs.declared.report_status.ReportStatus.{ReportStatus}
use Rattle.class_info.specs.declared.report_status.ReportStatus.TheVariants as statuses
use Rattle.host_heard.specs.declared.told.Told.{Told}
use Rattle.host_heard.specs.declared.told.Told.TheVariants as told
use Rattle.host_orders.specs.Classes.{lists}
use Rattle.zw_words.specs.declared.side.Side.TheVariants.{Host}
use Rattle.zw_text.specs.declared.entry.Ended.{Ended}
use Rattle.zw_text.specs.declared.entry.Ended.TheVariants as endings
use Rattle.zw_text.specs.declared.entry.Entry.{Entry}
use Rattle.zw_text.specs.declared.entry.Entry.TheVariants.{Written, Out, Report, Unstored, Old, Unread, Awake, QueueFull, Held}
use Rattle.zw_text.specs.Transcript.{sessions}
use Rattle.law_time.specs.law_transcript.Answers.{properties_kept}
use Rattle.law_time.specs.law_transcript.Nodes.{host_list}
use Rattle.law_time.specs.law_transcript.Stores.{stores_asked_at}
use Rattle.law_time.specs.Heeds.{Heeds}
use Rattle.law_time.specs.Requests.{are_none}
use Rattle.law_time.specs.Sessions.{is_open, last_command}
use Rattle.law_time.specs.Interviews.{listens}
use Rattle.law_time.specs.Queue.{queue_before, queue_places}
use Rattle.law_time.specs.Wants.{segments_wanted}
use Rattle.law_time.specs.Attempts.{is_last_nonce, is_next_nonce}
use Rattle.law_host.specs.Nonces.{is_late}
use Rattle.law_host.specs.Course.{Course, Giver, Ready, Sealer, each_in_turn, giver_of, if_kept, sealer_of, with_giver, with_note, with_notes, with_sealer, with_taken, without_texts}

-- a payload of a node that is judged: what stands before its acknowledgement, and up to it; and whether the messages in it were sealed
pub record Hearing : Type 0 where
  pub heeds : Heeds
  pub before : List Entry
  pub past : List Entry
  pub node : ℕ
  pub payload : List ℕ
  pub was_sealed : Bool

-- what stands when the next message of it is taken
abbrev pub past_now : Hearing → Course → List Entry
past_now hearing course = hearing.past ++ course.due

-- it cannot be read
abbrev pub unread : Hearing → Course → Course
unread hearing course = with_note (Unread hearing.node hearing.payload) course

-- ---- reports of sessions

-- how a command ends by a final report
abbrev pub ended_by : ReportStatus → List Ended
ended_by statuses.Success = endings.Success ∷ []
ended_by statuses.Fail = endings.Fail ∷ []
ended_by statuses.NoSupport = endings.NoSupport ∷ []
ended_by statuses.Working = []

-- the id is that of the open session of a node
abbrev pub is_of_open : ℕ → List Entry → ℕ → Bool
is_of_open node past id = is_open node past && (length (sessions node past) % 64 == id)

-- a node that does not listen is held where it asks so
abbrev pub held_notes : ℕ → List Entry → Bool → List Entry
held_notes node past wake_request = if wake_request && not (listens node past) then Held node ∷ [] else []

-- a command has ended: its outcome, the values that it confirms, and the hold
abbrev pub final_notes : Hearing → List Entry → Bool → Ended → ℕ → List Entry
final_notes hearing past wake_request ended command =
    Out command ended ∷ (stores_asked_at hearing.heeds.listing past (Out command ended) ++ held_notes hearing.node past wake_request)

abbrev pub ends_session : Hearing → Bool → Ended → Course → Course
ends_session hearing wake_request ended course =
    without_texts hearing.node
    (with_notes (flat_map (final_notes hearing (past_now hearing course) wake_request ended) (last_command hearing.node (past_now hearing course))) course)

-- a report of the open session: the host goes by one that the node is at work, and a final one ends it, where that is kept
abbrev pub takes_report : Hearing → ℕ → ReportStatus → Bool → Course → Course
takes_report hearing id statuses.Working wake_request course = with_taken (told.Report id statuses.Working wake_request) course
takes_report hearing id status wake_request course =
    each_in_turn (λ ended. if_kept hearing.node (ends_session hearing wake_request ended)) (ended_by status) course

-- a plain one of a node that lists Security 0 is not read, and one of another session is old
abbrev pub is_told_openly : Hearing → Course → Bool
is_told_openly hearing course =
    not hearing.was_sealed && lists (host_list hearing.heeds.listing (past_now hearing course) hearing.node) 0x98

abbrev pub hears_report : Hearing → ℕ → ReportStatus → Bool → Course → Course
hears_report hearing id status wake_request course =
    if is_told_openly hearing course then unread hearing course
    else (if is_of_open hearing.node (past_now hearing course) id then takes_report hearing id status wake_request course
    else with_note (Old hearing.node id) course)

-- ---- what is put into the queue of requests

abbrev pub is_full : Hearing → Course → Bool
is_full hearing course =
    nat_le queue_places (length (queue_before hearing.heeds hearing.before (Written Host (ACK ∷ []))).wants + course.put)

-- a message to the node waits, or is dropped where 64 do
abbrev pub puts : Hearing → (Course → Course) → Course → Course
puts hearing waits course =
    if is_full hearing course then with_note (QueueFull hearing.node) course else waits (record course { put = course.put + 1 })

-- a segment of the open session is asked for again
abbrev pub hears_segment_request : Hearing → ℕ → ℕ → Course → Course
hears_segment_request hearing id offset course =
    each_in_turn (λ want next. puts hearing (λ last. last) (with_taken (told.SegmentRequest id offset) next))
    (segments_wanted hearing.heeds.listing (past_now hearing course) hearing.node id offset) course

-- ---- nonces

-- the Nonce Report of the last nonce waits
abbrev pub offers_last : Hearing → Course → Course
offers_last hearing course =
    let giver : Giver = giver_of hearing.node course in
    puts hearing (with_giver hearing.node (record giver { offers = giver.offers ++ giver.given ∷ [] })) (with_taken told.NonceGet course)

-- a new nonce is live
abbrev pub gives_next : ℕ → Course → Course
gives_next node course =
    let giver : Giver = giver_of node course in with_giver node (record giver { given = giver.given + 1; live = true }) course

-- a Nonce Get asks for the live nonce, or for a new one, where that is kept
abbrev pub hears_nonce_get : Hearing → Course → Course
hears_nonce_get hearing course =
    if (giver_of hearing.node course).live then offers_last hearing course
    else if_kept hearing.node (λ next. offers_last hearing (gives_next hearing.node next)) course

-- the texts of a node that wait for a nonce are to be sealed for this one
abbrev pub sealed_for : ℕ → List ℕ → ℕ → Course → Course
sealed_for node nonce seen course =
    let ready_for : List ℕ → List Ready = λ text. record { nonce = nonce; text = text } ∷ [] in
    with_sealer node (record { seen = seen; pending = []; ready = flat_map ready_for (sealer_of node course).pending }) course

-- a Nonce Report with the count of the last one, or with the next count, where that is kept
abbrev pub takes_nonce : Hearing → List ℕ → Sealer → Course → Course
takes_nonce hearing nonce sealer course =
    if is_last_nonce sealer.seen nonce then sealed_for hearing.node nonce sealer.seen (with_taken (told.NonceReport nonce) course)
    else (if is_next_nonce sealer.seen nonce
    then if_kept hearing.node (λ next. sealed_for hearing.node nonce (sealer.seen + 1) (with_taken (told.NonceReport nonce) next)) course else course)

-- counts only while a text waits for it
abbrev pub hears_nonce : Hearing → List ℕ → Course → Course
hears_nonce hearing nonce course =
    if are_none (sealer_of hearing.node course).pending then course
    else (if is_late hearing.heeds (past_now hearing course) hearing.node then course
    else takes_nonce hearing nonce (sealer_of hearing.node course) course)

-- ---- values

-- there is room for a property of a node: with it there are at most 512
abbrev pub has_room : Hearing → List Entry → Setting → Bool
has_room hearing past setting =
    nat_le (distinct_count same_property (setting.property ∷ properties_kept hearing.heeds.listing past hearing.node)) 512

abbrev pub hears_value : Hearing → Setting → Course → Course
hears_value hearing setting course =
    if has_room hearing (past_now hearing course) setting then with_note (Report hearing.node setting) course
    else with_note (Unstored hearing.node setting.property) course

-- ---- each message

abbrev pub hears : Hearing → Told → Course → Course
hears hearing (told.Report id status wake_request) course = hears_report hearing id status wake_request course
hears hearing told.NonceGet course = hears_nonce_get hearing course
hears hearing (told.NonceReport nonce) course = hears_nonce hearing nonce course
hears hearing told.Notification course = with_note (Awake hearing.node) course
hears hearing (told.SegmentRequest id offset) course = hears_segment_request hearing id offset course
hears hearing (told.Values settings) course = each_in_turn (hears_value hearing) settings course
