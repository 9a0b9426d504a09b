-- What a node wants by the messages of a payload that are heeded is what the host puts into its queue behind it, one message after another.
use Rattle.std.proofs.Common.{◌≡◌, ℕ, ◌+◌, ◌*◌, ◌/◌, ◌%◌, ◌==◌, ◌&&◌, Bool, true, false, if◌then◌else◌, inl, inr, List, [], ◌∷◌, ◌++◌, length, refl, sym, ap, ◌∙◌, subst, append-nil, arith}
use Rattle.std.specs.Prelude.{Option, Some, None, nat_le, nat_lt, slice_index}
use Rattle.std.specs.List.{AllByRecursion, flat_map}
use Rattle.std.proofs.lemmas.Bool.{cases_Bool, le-leb}
use Rattle.std.proofs.lemmas.List.{get_or-set_same, length-set}
use Rattle.std.proofs.lemmas.Grind.{flat_map-append}
use Rattle.zw_base.specs.declared.property.Setting.{Setting}
use Rattle.supervision.specs.Host.{open_session, told_of as book_told}
use Rattle.supervision.specs.declared.host_node.Told.{Told as TheTold}
use Rattle.supervision.specs.declared.host_node.Told.TheVariants as booked
use Rattle.zw_text.specs.declared.entry.Entry.{Entry}
use Rattle.chip_functions.specs.Field.{IsNode}
use Rattle.chip_functions.specs.declared.function.TheConstants.{SEND_DATA}
use Rattle.class_info.specs.declared.report_status.ReportStatus.{ReportStatus}
use Rattle.class_info.specs.Values.{status_byte}
use Rattle.s0_session.specs.declared.account.Account.{Account}
use Rattle.s0_session.specs.Nonces.{account_of, after_give, live_of, nonce_given, unused}
use Rattle.transport_segments.specs.Parts.{slice_at}
use Rattle.transport_segments.specs.Segment.{with_check}
use Rattle.value_store.specs.Values.{count_with}
use Rattle.host_heard.specs.declared.told.Told.{Told}
use Rattle.host_heard.specs.declared.told.Told.TheVariants.{Report, NonceGet, NonceReport, Notification, SegmentRequest, Values}
use Rattle.host_keep.specs.declared.final_status.FinalStatus.{FinalStatus}
use Rattle.law_time.specs.Wants.{nonce_report, segments_wanted, told_of, wants_told}
use Rattle.host_requests.specs.Events.RequestsEvent.{Pushes}
use Rattle.host_requests.specs.declared.task.Task.{Task}
use Rattle.host_requests.specs.declared.task.Task.TheVariants.{Offer, Segment}
use Rattle.host_model.specs.State.{HostState, node_of}
use Rattle.host_model.specs.Sessions.{segment_at}
use Rattle.host_model.specs.After.{after, finishing, giving, holding, is_full, is_held, offering, queues_if_room, requests_do}
use Rattle.host_model.specs.Did.{after_all}
use Rattle.host_model.specs.Events.{HostEvent, Finishes, Gives, Has_no_room, Hears_value, Is_unkept, Notifies, Offers, Reports_old, Resends, Spends, Spends_unread, Takes_nonce, Unreads, Works}
use Rattle.host_model.specs.Taking.{AreTaken, FinalEvents, IsTaken, NonceGetEvents, NonceReportEvents, ReportEvents, is_secure, resent, value_event, value_events, wanted_segment}
use Rattle.proof_attempts.specs.proof_requests.law_host.Heard.{listing_heard}
use Rattle.proof_queue.specs.Waiting.{dropped_by, want_of_task}
use Rattle.proof_queue.specs.Heeding.{heeded_of, taken_up}
use Rattle.proof_queue.proofs.Kept.{IsFollower, event_keeps, finish_still, then_keeps}
use Rattle.proof_queue.proofs.Puts.{Puts, both_put, none_put, one_puts}
use Rattle.proof_queue.proofs.Segments.{Keeps, Shows, resent_is_wanted}
use Rattle.proof_queue.proofs.Stills.{AreStill, IsStill}

-- ---- events that put in nothing

-- such an event of the node
abbrev IsQuietly : ℕ → HostEvent → Type 0
IsQuietly n (Unreads m payload) = Unit {0}
IsQuietly n (Is_unkept m) = Unit {0}
IsQuietly n (Reports_old m id) = Unit {0}
IsQuietly n (Works m id) = m ≡ n
IsQuietly n (Finishes m session id command status wake) = m ≡ n
IsQuietly n (Spends m) = Unit {0}
IsQuietly n (Spends_unread m payload) = Unit {0}
IsQuietly n (Takes_nonce m seen text) = m ≡ n
IsQuietly n (Notifies m) = m ≡ n
IsQuietly n (Hears_value m setting) = Unit {0}
IsQuietly n (Has_no_room m property) = Unit {0}
IsQuietly n event = ⊥

pub quietly_still : (h : HostState) (n : ℕ) (event : HostEvent) → IsQuietly n event → IsStill h event
quietly_still h n (Unreads m payload) is = record { queue = refl; drops = refl }
quietly_still h n (Is_unkept m) is = record { queue = refl; drops = refl }
quietly_still h n (Reports_old m id) is = record { queue = refl; drops = refl }
quietly_still h n (Works m id) is = record { queue = refl; drops = refl }
quietly_still h n (Finishes m session id command status wake) is = finish_still h m session id command status wake
quietly_still h n (Spends m) is = record { queue = refl; drops = refl }
quietly_still h n (Spends_unread m payload) is = record { queue = refl; drops = refl }
quietly_still h n (Takes_nonce m seen text) is = record { queue = refl; drops = refl }
quietly_still h n (Notifies m) is = record { queue = refl; drops = refl }
quietly_still h n (Hears_value m setting) is = record { queue = refl; drops = refl }
quietly_still h n (Has_no_room m property) is = record { queue = refl; drops = refl }
quietly_still h n event is = absurd is

quietly_follows : (n : ℕ) (event : HostEvent) → IsQuietly n event → IsFollower n event
quietly_follows n (Unreads m payload) is = is
quietly_follows n (Is_unkept m) is = is
quietly_follows n (Reports_old m id) is = is
quietly_follows n (Works m id) is = is
quietly_follows n (Finishes m session id command status wake) is = is
quietly_follows n (Spends m) is = is
quietly_follows n (Spends_unread m payload) is = is
quietly_follows n (Takes_nonce m seen text) is = is
quietly_follows n (Notifies m) is = is
quietly_follows n (Hears_value m setting) is = is
quietly_follows n (Has_no_room m property) is = is
quietly_follows n event is = absurd is

pub all_still : (n : ℕ) (h : HostState) (events : List HostEvent) → AllByRecursion (IsQuietly n) events → AreStill h events
all_still n h [] all = record { queue = refl; drops = refl }
all_still n h (event ∷ events) all =
    let one = quietly_still h n event all.0 in
    let rest = all_still n (after h event) events all.1 in
    record { queue = rest.queue ∙ one.queue; drops = ap (λ (l : List ℕ). l ++ dropped_by (after h event) events) one.drops ∙ rest.drops }

all_follow : (n : ℕ) (events : List HostEvent) → AllByRecursion (IsQuietly n) events → AllByRecursion (IsFollower n) events
all_follow n [] all = tt
all_follow n (event ∷ events) all = (quietly_follows n event all.0, all_follow n events all.1)

-- how many accounts of nonces there are
room_nonces : (h : HostState) (task : Task) → (queues_if_room h task).nonces ≡ h.nonces
room_nonces h task = by (is_full h)
  where
    by : (b : Bool) → (if b then h else requests_do h (Pushes task)).nonces ≡ h.nonces
    by true = refl
    by false = refl

offering_nonces : (h : HostState) (n : ℕ) (live : Option (List ℕ)) → (offering h n live).nonces ≡ h.nonces
offering_nonces h n None = refl
offering_nonces h n (Some nonce) = room_nonces h (Offer n nonce)

holding_nonces : (h : HostState) (n : ℕ) (held : Bool) → (holding h n held).nonces ≡ h.nonces
holding_nonces h n true = refl
holding_nonces h n false = refl

pub spent_nonces : (h : HostState) (n : ℕ) → length (after h (Spends n)).nonces ≡ length h.nonces
spent_nonces h n = length-set h.nonces n _

nonces_at : (h : HostState) (n : ℕ) (event : HostEvent) → IsFollower n event → length (after h event).nonces ≡ length h.nonces
nonces_at h n (Finishes m session id command status wake) is = ap length (holding_nonces (finishing h m id command status) m (is_held h m wake))
nonces_at h n (Offers m) is = ap length (offering_nonces h m (live_of h.nonces m))
nonces_at h n (Gives m drawn) is =
    ap length (offering_nonces (giving h m drawn) m (live_of (giving h m drawn).nonces m)) ∙ length-set h.nonces m (after_give (account_of h.nonces m) drawn)
nonces_at h n (Spends m) is = length-set h.nonces m _
nonces_at h n (Spends_unread m payload) is = length-set h.nonces m _
nonces_at h n (Resends m payload) is = ap length (room_nonces h (Segment m payload))
nonces_at h n (Unreads m payload) is = refl
nonces_at h n (Is_unkept m) is = refl
nonces_at h n (Reports_old m id) is = refl
nonces_at h n (Works m id) is = refl
nonces_at h n (Takes_nonce m seen text) is = refl
nonces_at h n (Notifies m) is = refl
nonces_at h n (Hears_value m setting) is = refl
nonces_at h n (Has_no_room m property) is = refl
nonces_at h n event is = absurd is

-- ---- what follows each message

one_is : (n : ℕ) (event : HostEvent) (events : List HostEvent) → IsQuietly n event → events ≡ event ∷ [] → AllByRecursion (IsQuietly n) events
one_is n event events is are = subst (AllByRecursion (IsQuietly n)) (sym are) (is, tt)

none_are : (n : ℕ) (events : List HostEvent) → events ≡ [] → AllByRecursion (IsQuietly n) events
none_are n events are = subst (AllByRecursion (IsQuietly n)) (sym are) tt

module _ (n : ℕ) where
  abbrev All : List HostEvent → Type 0
  All events = AllByRecursion (IsQuietly n) events

  final : (session id : ℕ) (command : Option ℕ) (status : Option FinalStatus) (wake : Bool) (events : List HostEvent) → FinalEvents n session id command status wake events → All events
  final session id (Some command) (Some status) wake events (inl is) = one_is n (Finishes n session id command status wake) events refl is
  final session id (Some command) (Some status) wake events (inr is) = one_is n (Is_unkept n) events tt is
  final session id (Some command) None wake events is = none_are n events is
  final session id None (Some status) wake events is = none_are n events is
  final session id None None wake events is = none_are n events is

  reported : (h : HostState) (id : ℕ) (status : ReportStatus) (wake : Bool) (it : TheTold) (events : List HostEvent) → ReportEvents h n id status wake it events → All events
  reported h id status wake booked.Old events is = one_is n (Reports_old n id) events tt is
  reported h id status wake booked.Working events is = one_is n (Works n id) events refl is
  reported h id status wake (booked.Final session) events is = final session id _ _ wake events is

  plain : (h : HostState) (payload : List ℕ) (id : ℕ) (status : ReportStatus) (wake : Bool) (events : List HostEvent) → IsTaken h n payload false (Report id status wake) events → All events
  plain h payload id status wake events is = elim (cases_Bool (is_secure (node_of h n).classes)) [
    | inl secure ↦ one_is n (Unreads n payload) events tt (rw secure at is)
    | inr not_secure ↦ reported h id status wake (book_told (node_of h n).book id (status_byte status)) events (rw not_secure at is)
  ]

  given : (h : HostState) (nonce : List ℕ) (count : Option ℕ) (events : List HostEvent) → NonceReportEvents h n nonce count events → All events
  given h nonce None events is = none_are n events is
  given h nonce (Some seen) events (own, text, seals, inl is, sure) = one_is n (Takes_nonce n seen text) events refl is
  given h nonce (Some seen) events (own, text, seals, inr is, sure) = one_is n (Is_unkept n) events tt is

  value_is : (b : Bool) (s : Setting) → IsQuietly n (if b then Has_no_room n s.property else Hears_value n s)
  value_is true s = tt
  value_is false s = tt

  values : (h : HostState) (settings : List Setting) → All (value_events h n settings)
  values h [] = tt
  values h (s ∷ more) = (value_is (nat_lt 512 (count_with h.store n (s.property ∷ []))) s, values (after h (value_event h n s)) more)

-- ---- a Nonce Report is offered

given_nonces : (h : HostState) (n : ℕ) (drawn : List ℕ) → IsNode n → length h.nonces ≡ 233 → live_of (giving h n drawn).nonces n ≡ Some (nonce_given (account_of h.nonces n) drawn)
given_nonces h n drawn is long =
    ap (λ (a : Account). a.live) (get_or-set_same h.nonces n (after_give (account_of h.nonces n) drawn) unused (omega (arith, long, is.1)))

giving_room : (h : HostState) (n : ℕ) (drawn : List ℕ) (task : Task) → (queues_if_room (giving h n drawn) task).requests.queue ≡ (queues_if_room h task).requests.queue
giving_room h n drawn task = by (is_full h)
  where
    by : (b : Bool) → (if b then giving h n drawn else requests_do (giving h n drawn) (Pushes task)).requests.queue ≡ (if b then h else requests_do h (Pushes task)).requests.queue
    by true = refl
    by false = refl

-- its first two bytes say what it is
offer_want : (n : ℕ) (nonce : List ℕ) → nonce_report n ≡ want_of_task (Offer n nonce)
offer_want n nonce =
    sym (ap (λ (b : Bool). SEND_DATA ∷ n ∷ (if b && true && true then 0x98 ∷ 0x80 ∷ [] else 0x98 ∷ 0x80 ∷ nonce)) (le-leb 2 (length (0x98 ∷ 0x80 ∷ nonce)) (omega arith)))

pub offers_put : (h : HostState) (n : ℕ) (nonce : List ℕ) → live_of h.nonces n ≡ Some nonce → Puts n (nonce_report n ∷ []) h (Offers n ∷ [])
offers_put h n nonce live =
    one_puts n h (Offers n) (Offer n nonce) (nonce_report n) (offer_want n nonce) (ap (λ (o : Option (List ℕ)). (offering h n o).requests.queue) live) refl

pub gives_put : (h : HostState) (n : ℕ) (drawn : List ℕ) → IsNode n → length h.nonces ≡ 233 → Puts n (nonce_report n ∷ []) h (Gives n drawn ∷ [])
gives_put h n drawn is long =
    let nonce : List ℕ = nonce_given (account_of h.nonces n) drawn in
    one_puts n h (Gives n drawn) (Offer n nonce) (nonce_report n) (offer_want n nonce)
    (ap (λ (o : Option (List ℕ)). (offering (giving h n drawn) n o).requests.queue) (given_nonces h n drawn is long) ∙ giving_room h n drawn (Offer n nonce)) refl

-- ---- a segment is sent again

second_false : (a b c : Bool) → b ≡ false → (a && b && c) ≡ false
second_false true true c is = absurd (let bad : true ≡ false = is in cc)
second_false true false c is = refl
second_false false b c is = refl

first_not : (payload : List ℕ) → slice_index payload 0 ≡ 85 → told_of payload ≡ payload
first_not payload first =
    ap (λ (b : Bool). if b then 0x98 ∷ 0x80 ∷ [] else payload) (second_false (nat_le 2 (length payload)) (slice_index payload 0 == 0x98) (slice_index payload 1 == 0x80) (ap (λ (k : ℕ). k == 0x98) first))

segment_first : (s : ℕ) (message : List ℕ) (k : ℕ) → slice_index (segment_at s message k) 0 ≡ 85
segment_first s message k = by (39 * k == 0)
  where
    part : List ℕ
    part = slice_at message k

    by : (b : Bool)
        → slice_index (with_check (if b then 85 ∷ (192 + length message / 256) ∷ length message % 256 ∷ s % 16 * 16 ∷ part
        else 85 ∷ (224 + length message / 256) ∷ length message % 256 ∷ (s % 16 * 16 + 39 * k / 256) ∷ 39 * k % 256 ∷ part)) 0 ≡ 85
    by true = refl
    by false = refl

segment_puts : (h : HostState) (n s k : ℕ) (message payload : List ℕ) → segment_at s message k ≡ payload → Puts n ((SEND_DATA ∷ n ∷ payload) ∷ []) h (Resends n payload ∷ [])
segment_puts h n s k message payload text =
    one_puts n h (Resends n payload) (Segment n payload) (SEND_DATA ∷ n ∷ payload)
    (ap (λ (p : List ℕ). SEND_DATA ∷ n ∷ p) (sym (first_not payload (ap (λ (p : List ℕ). slice_index p 0) (sym text) ∙ segment_first s message k)))) refl refl

-- ---- each message

-- what a node wants by these messages
abbrev pub Wants : List Entry → ℕ → List Told → List (List ℕ)
Wants past n messages = flat_map (wants_told listing_heard past n) messages

module _ (past : List Entry) (h0 : HostState) (n : ℕ) (is_node : IsNode n) (shows : Shows past h0 n) where
  -- one that asks for nothing
  up_none : (events : List HostEvent) (message : Told) → wants_told listing_heard past n message ≡ [] → Wants past n (taken_up events message) ≡ []
  up_none [] message none = refl
  up_none (Offers m ∷ more) message none = append-nil (wants_told listing_heard past n message) ∙ none
  up_none (Gives m drawn ∷ more) message none = append-nil (wants_told listing_heard past n message) ∙ none
  up_none (Resends m payload ∷ more) message none = append-nil (wants_told listing_heard past n message) ∙ none
  up_none (Works m id ∷ more) message none = append-nil (wants_told listing_heard past n message) ∙ none
  up_none (Takes_nonce m seen text ∷ more) message none = append-nil (wants_told listing_heard past n message) ∙ none
  up_none (event ∷ more) message none = refl

  pub record MessagePuts (h : HostState) (message : Told) (events : List HostEvent) : Type 0 where
    pub puts : Puts n (Wants past n (taken_up events message)) h events
    pub follow : AllByRecursion (IsFollower n) events

  quiet_message : (h : HostState) (message : Told) (events : List HostEvent) → wants_told listing_heard past n message ≡ [] → AllByRecursion (IsQuietly n) events → MessagePuts h message events
  quiet_message h message events none all = record {
    puts = subst (λ (l : List (List ℕ)). Puts n l h events) (sym (up_none events message none)) (none_put n h events (all_still n h events all));
    follow = all_follow n events all;
  }

  as_message : (h : HostState) (message : Told) (events these : List HostEvent) → events ≡ these → MessagePuts h message these → MessagePuts h message events
  as_message h message events these are puts = subst (MessagePuts h message) (sym are) puts

  unkept_message : (h : HostState) (message : Told) (events : List HostEvent) → events ≡ Is_unkept n ∷ [] → MessagePuts h message events
  unkept_message h message events are =
      as_message h message events (Is_unkept n ∷ []) are (record { puts = none_put n h (Is_unkept n ∷ []) (all_still n h (Is_unkept n ∷ []) (tt, tt)); follow = (tt, tt) })

  nonce_message : (h : HostState) (live : Option (List ℕ)) (events : List HostEvent) → live_of h.nonces n ≡ live → length h.nonces ≡ 233 → NonceGetEvents n live events → MessagePuts h NonceGet events
  nonce_message h (Some nonce) events is long are = as_message h NonceGet events (Offers n ∷ []) are (record { puts = offers_put h n nonce is; follow = (refl, tt) })
  nonce_message h None events is long (drawn, eight, inl are) = as_message h NonceGet events (Gives n drawn ∷ []) are (record { puts = gives_put h n drawn is_node long; follow = (refl, tt) })
  nonce_message h None events is long (drawn, eight, inr are) = unkept_message h NonceGet events are

  segment_message : (h : HostState) (id offset : ℕ) (found : Option (List ℕ)) (events : List HostEvent) → wanted_segment h n (open_session (node_of h n).book) id offset ≡ found → Keeps h0 h n
      → events ≡ resent n found → MessagePuts h (SegmentRequest id offset) events
  segment_message h id offset None events is keeps are =
      as_message h (SegmentRequest id offset) events [] are (record { puts = none_put n h [] (record { queue = refl; drops = refl }); follow = tt })
  segment_message h id offset (Some payload) events is keeps are =
      let wanted = resent_is_wanted past h0 h n shows keeps id offset payload is in
      as_message h (SegmentRequest id offset) events (Resends n payload ∷ []) are (record {
        puts = subst (λ (l : List (List ℕ)). Puts n l h (Resends n payload ∷ [])) (sym (append-nil (segments_wanted listing_heard past n id offset) ∙ wanted.is))
            (segment_puts h n wanted.session (offset / 39) wanted.message payload wanted.text);
        follow = (refl, tt);
      })

  message_puts : (h : HostState) (payload : List ℕ) (sealed : Bool) (message : Told) (events : List HostEvent) → length h.nonces ≡ 233 → Keeps h0 h n → IsTaken h n payload sealed message events
      → MessagePuts h message events
  message_puts h payload true (Report id status wake) events long keeps is = quiet_message h (Report id status wake) events refl (reported n h id status wake _ events is)
  message_puts h payload false (Report id status wake) events long keeps is = quiet_message h (Report id status wake) events refl (plain n h payload id status wake events is)
  message_puts h payload sealed NonceGet events long keeps is = nonce_message h (live_of h.nonces n) events refl long is
  message_puts h payload sealed (NonceReport nonce) events long keeps is = quiet_message h (NonceReport nonce) events refl (given n h nonce _ events is)
  message_puts h payload sealed Notification events long keeps is = quiet_message h Notification events refl (one_is n (Notifies n) events refl is)
  message_puts h payload sealed (SegmentRequest id offset) events long keeps is = segment_message h id offset (wanted_segment h n (open_session (node_of h n).book) id offset) events refl keeps is
  message_puts h payload sealed (Values settings) events long keeps is =
      quiet_message h (Values settings) events refl (subst (AllByRecursion (IsQuietly n)) (sym is) (values n h settings))

  -- ---- all of a payload

  all_keep : (h : HostState) (events : List HostEvent) → Keeps h0 h n → AllByRecursion (IsFollower n) events → Keeps h0 (after_all h events) n
  all_keep h [] keeps all = keeps
  all_keep h (event ∷ events) keeps all = all_keep (after h event) events (then_keeps h0 h (after h event) n keeps (event_keeps h n event all.0)) all.1

  nonces_stay : (h : HostState) (events : List HostEvent) → AllByRecursion (IsFollower n) events → length (after_all h events).nonces ≡ length h.nonces
  nonces_stay h [] all = refl
  nonces_stay h (event ∷ events) all = nonces_stay (after h event) events all.1 ∙ nonces_at h n event all.0

  pub messages_put : (h : HostState) (payload : List ℕ) (sealed : Bool) (messages : List Told) (events : List HostEvent) → length h.nonces ≡ 233 → Keeps h0 h n
      → (are : AreTaken h n payload sealed messages events) → Puts n (Wants past n (heeded_of h n payload sealed messages events are)) h events
  messages_put h payload sealed [] events long keeps are = subst (λ (l : List HostEvent). Puts n [] h l) (sym are) (none_put n h [] (record { queue = refl; drops = refl }))
  messages_put h payload sealed (message ∷ more) events long keeps (first, rest, are, taken, others) =
      let one = message_puts h payload sealed message first long keeps taken in
      let wants = flat_map-append (wants_told listing_heard past n) (taken_up first message) (heeded_of (after_all h first) n payload sealed more rest others) in
      subst (λ (l : List HostEvent). Puts n (Wants past n (taken_up first message ++ heeded_of (after_all h first) n payload sealed more rest others)) h l) (sym are)
      (subst (λ (l : List (List ℕ)). Puts n l h (first ++ rest)) (sym wants)
      (both_put n (Wants past n (taken_up first message)) (Wants past n (heeded_of (after_all h first) n payload sealed more rest others)) h first rest one.puts
      (messages_put (after_all h first) payload sealed more rest (nonces_stay h first one.follow ∙ long) (all_keep h first keeps one.follow) others)))
