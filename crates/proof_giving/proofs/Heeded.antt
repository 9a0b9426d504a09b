-- By the messages of a payload that are heeded its node gives a sign just where the host takes it to be at work behind it.
use Rattle.std.proofs.Common.{◌≡◌, ℕ, ◌%◌, ◌==◌, ◌||◌, Bool, true, false, if◌then◌else◌, inl, inr, List, [], ◌∷◌, ◌++◌, length, refl, sym, ap, ap₂, ◌∙◌, subst}
use Rattle.std.specs.Prelude.{Option, Some, None}
use Rattle.std.specs.List.{AllByRecursion, list_any}
use Rattle.std.proofs.lemmas.Bool.{cases_Bool, eq-eqb}
use Rattle.zw_base.proofs.Each.{all-left, all-right}
use Rattle.zw_base.specs.declared.property.Setting.{Setting}
use Rattle.supervision.specs.Host.{open_session, told_of}
use Rattle.supervision.specs.declared.host_node.Told.{Told as TheTold}
use Rattle.supervision.specs.declared.host_node.Told.TheVariants as booked
use Rattle.supervision.proofs.EndsLemmas.{told_of-Working}
use Rattle.class_info.specs.Values.{status_byte}
use Rattle.class_info.specs.declared.report_status.ReportStatus.{ReportStatus}
use Rattle.class_info.specs.declared.report_status.ReportStatus.TheVariants as status
use Rattle.host_heard.specs.declared.payload.Heard.{Heard}
use Rattle.host_heard.specs.declared.payload.Heard.TheVariants.{Messages, Sealed, Unread}
use Rattle.host_heard.specs.declared.told.Told.{Told}
use Rattle.host_heard.specs.declared.told.Told.TheVariants.{NonceGet, NonceReport, Notification, Report, SegmentRequest, Values}
use Rattle.host_keep.specs.declared.final_status.FinalStatus.{FinalStatus}
use Rattle.s0_session.specs.Nonces.{live_of}
use Rattle.law_time.specs.Attempts.{is_at_work}
use Rattle.host_model.specs.After.{after}
use Rattle.host_model.specs.Did.{after_all}
use Rattle.host_model.specs.State.{HostState, node_of}
use Rattle.host_model.specs.Events.{HostEvent, Begins, Finishes, Gives, Gives_segment, Gives_text, Has_no_room, Hears_value, Is_unkept, Line_ticks, Node_ticks, Notifies, Offers, Reports_old, Requests_do, Resends, Spends, Starts, Submits_abort, Submits_front, Takes_nonce, Unreads, Works}
use Rattle.host_model.specs.Taking.{AreTaken, FinalEvents, IsOpened, IsTaken, NonceGetEvents, NonceReportEvents, PayloadEvents, ReportEvents, SealedEvents, is_secure, named_by, resent, value_event, value_events, wanted_segment}
use Rattle.proof_queue.specs.Heeding.{heeded_of, heeded_opened, heeded_payload, heeded_sealed, taken_up}
use Rattle.proof_queue.proofs.Kept.{IsFollower, event_keeps}
use Rattle.proof_queue.proofs.Segments.{open_is_last}
use Rattle.proof_queue.proofs.proof_waking_Followed.{FollowersAre, payload_all}
use Rattle.proof_giving.specs.Walking.{IsMild, works_among, works_at}

-- ---- what follows a payload

module _ (n : ℕ) where
  followers : FollowersAre (IsFollower n) n
  followers = record {
    unread = λ payload. tt;
    unkept = tt;
    old = λ id. tt;
    works = λ id. refl;
    finishes = λ session id command status wake. refl;
    offers = refl;
    gives = λ drawn. refl;
    spends = tt;
    in_vain = λ payload. tt;
    takes = λ seen text. refl;
    resends = λ payload. refl;
    hears = λ setting. tt;
    no_room = λ property. tt;
  }

  pub all_follow : (h : HostState) (payload : List ℕ) (heard : Heard) (events : List HostEvent) → PayloadEvents h n payload heard events → AllByRecursion (IsFollower n) events
  all_follow h payload heard events is = payload_all (IsFollower n) n followers h payload heard events (λ tells. refl) is

  -- it is of the sessions that were
  follow_commands : (h : HostState) (events : List HostEvent) → AllByRecursion (IsFollower n) events → (node_of (after_all h events) n).book.commands ≡ (node_of h n).book.commands
  follow_commands h [] all = refl
  follow_commands h (event ∷ events) all = follow_commands (after h event) events all.1 ∙ (event_keeps h n event all.0).commands

pub follow_mild : (n : ℕ) (event : HostEvent) → IsFollower n event → IsMild event
follow_mild n (Requests_do event moment) follows = absurd follows
follow_mild n Line_ticks follows = absurd follows
follow_mild n (Node_ticks m) follows = absurd follows
follow_mild n Submits_abort follows = absurd follows
follow_mild n Submits_front follows = absurd follows
follow_mild n (Starts m plan more payload) follows = absurd follows
follow_mild n (Gives_text m payload) follows = absurd follows
follow_mild n (Gives_segment m more payload) follows = absurd follows
follow_mild n (Begins m session command) follows = absurd follows
follow_mild n event follows = tt

pub all_mild : (n : ℕ) (events : List HostEvent) → AllByRecursion (IsFollower n) events → AllByRecursion IsMild events
all_mild n [] all = tt
all_mild n (event ∷ events) all = (follow_mild n event all.0, all_mild n events all.1)

-- it says of no other node that it is at work
other_at : (n m : ℕ) (event : HostEvent) → (n == m) ≡ false → IsFollower n event → works_at m event ≡ false
other_at n m (Works k id) other follows = ap (λ (j : ℕ). j == m) follows ∙ other
other_at n m event other follows = refl

pub others_work_not : (n m : ℕ) (events : List HostEvent) → (n == m) ≡ false → AllByRecursion (IsFollower n) events → works_among m events ≡ false
others_work_not n m [] other all = refl
others_work_not n m (event ∷ events) other all = ap₂ (λ (a b : Bool). a || b) (other_at n m event other all.0) (others_work_not n m events other all.1)

-- ---- messages

works_joined : (n : ℕ) (first rest : List HostEvent) → works_among n (first ++ rest) ≡ (works_among n first || works_among n rest)
works_joined n [] rest = refl
works_joined n (event ∷ first) rest = ap (λ (b : Bool). works_at n event || b) (works_joined n first rest) ∙ grouped (works_at n event) (works_among n first) (works_among n rest)
  where
    grouped : (a b c : Bool) → (a || (b || c)) ≡ ((a || b) || c)
    grouped true b c = refl
    grouped false b c = refl

any_joined : (test : Told → Bool) (first rest : List Told) → list_any test (first ++ rest) ≡ (list_any test first || list_any test rest)
any_joined test [] rest = refl
any_joined test (message ∷ first) rest = ap (λ (b : Bool). test message || b) (any_joined test first rest) ∙ grouped (test message) (list_any test first) (list_any test rest)
  where
    grouped : (a b c : Bool) → (a || (b || c)) ≡ ((a || b) || c)
    grouped true b c = refl
    grouped false b c = refl

module _ (n sid : ℕ) where
  abbrev At : HostState → Type 0
  At h = length (node_of h n).book.commands % 64 ≡ sid

  abbrev So : List Told → List HostEvent → Type 0
  So messages events = list_any (is_at_work sid) messages ≡ works_among n events

  -- a message that is of no work, and what it is followed by
  quiet_up : (events : List HostEvent) (message : Told) → is_at_work sid message ≡ false → list_any (is_at_work sid) (taken_up events message) ≡ false
  quiet_up [] message quiet = refl
  quiet_up (Offers m ∷ more) message quiet = ap (λ (b : Bool). b || false) quiet
  quiet_up (Gives m drawn ∷ more) message quiet = ap (λ (b : Bool). b || false) quiet
  quiet_up (Resends m payload ∷ more) message quiet = ap (λ (b : Bool). b || false) quiet
  quiet_up (Works m id ∷ more) message quiet = ap (λ (b : Bool). b || false) quiet
  quiet_up (Takes_nonce m seen text ∷ more) message quiet = ap (λ (b : Bool). b || false) quiet
  quiet_up (event ∷ more) message quiet = refl

  as_so : (message : Told) (events these : List HostEvent) → events ≡ these → So (taken_up these message) these → So (taken_up events message) events
  as_so message events these are so = subst (λ (l : List HostEvent). So (taken_up l message) l) (sym are) so

  quiet_so : (message : Told) (events these : List HostEvent) → is_at_work sid message ≡ false → events ≡ these → works_among n these ≡ false → So (taken_up events message) events
  quiet_so message events these quiet are none = as_so message events these are (quiet_up these message quiet ∙ sym none)

  -- a report
  final : (message : Told) (session id : ℕ) (command : Option ℕ) (end : Option FinalStatus) (wake : Bool) (events : List HostEvent) → FinalEvents n session id command end wake events
      → So (taken_up events message) events
  final message session id (Some command) (Some end) wake events (inl is) = as_so message events (Finishes n session id command end wake ∷ []) is refl
  final message session id (Some command) (Some end) wake events (inr is) = as_so message events (Is_unkept n ∷ []) is refl
  final message session id (Some command) None wake events is = as_so message events [] is refl
  final message session id None (Some end) wake events is = as_so message events [] is refl
  final message session id None None wake events is = as_so message events [] is refl

  works_up : (h : HostState) (id : ℕ) (s : ReportStatus) (wake : Bool) → At h → told_of (node_of h n).book id (status_byte s) ≡ booked.Working → is_at_work sid (Report id s wake) ≡ true
  works_up h id s wake at working = by s (told_of-Working (node_of h n).book id (status_byte s) working)
    where
      by : (s : ReportStatus) → (session : ℕ) × (open_session (node_of h n).book ≡ Some session) × (id ≡ session % 64) × (status_byte s ≡ 1) → is_at_work sid (Report id s wake) ≡ true
      by status.Working (session, opened, named, is) =
          eq-eqb id sid (named ∙ ap (λ (k : ℕ). k % 64) (open_is_last (node_of h n).book session opened) ∙ at)
      by status.NoSupport (session, opened, named, is) = absurd (let bad : 0 ≡ 1 = is in cc)
      by status.Fail (session, opened, named, is) = absurd (let bad : 2 ≡ 1 = is in cc)
      by status.Success (session, opened, named, is) = absurd (let bad : 255 ≡ 1 = is in cc)

  reported : (h : HostState) (id : ℕ) (s : ReportStatus) (wake : Bool) → At h → (it : TheTold) → told_of (node_of h n).book id (status_byte s) ≡ it → (events : List HostEvent)
      → ReportEvents h n id s wake it events → So (taken_up events (Report id s wake)) events
  reported h id s wake at booked.Old told events is = as_so (Report id s wake) events (Reports_old n id ∷ []) is refl
  reported h id s wake at booked.Working told events is =
      as_so (Report id s wake) events (Works n id ∷ []) is (ap (λ (b : Bool). b || false) (works_up h id s wake at told) ∙ sym (ap (λ (b : Bool). b || false) (eq-eqb n n refl)))
  reported h id s wake at (booked.Final session) told events is = final (Report id s wake) session id _ _ wake events is

  plain : (h : HostState) (payload : List ℕ) (id : ℕ) (s : ReportStatus) (wake : Bool) (events : List HostEvent) → At h → IsTaken h n payload false (Report id s wake) events
      → So (taken_up events (Report id s wake)) events
  plain h payload id s wake events at is = elim (cases_Bool (is_secure (node_of h n).classes)) [
    | inl secure ↦ as_so (Report id s wake) events (Unreads n payload ∷ []) (rw secure at is) refl
    | inr not_secure ↦ reported h id s wake at (told_of (node_of h n).book id (status_byte s)) refl events (rw not_secure at is)
  ]

  nonce_get : (live : Option (List ℕ)) (events : List HostEvent) → NonceGetEvents n live events → So (taken_up events NonceGet) events
  nonce_get (Some nonce) events is = as_so NonceGet events (Offers n ∷ []) is refl
  nonce_get None events (drawn, eight, inl is) = as_so NonceGet events (Gives n drawn ∷ []) is refl
  nonce_get None events (drawn, eight, inr is) = as_so NonceGet events (Is_unkept n ∷ []) is refl

  nonce_report : (h : HostState) (nonce : List ℕ) (count : Option ℕ) (events : List HostEvent) → NonceReportEvents h n nonce count events → So (taken_up events (NonceReport nonce)) events
  nonce_report h nonce None events is = as_so (NonceReport nonce) events [] is refl
  nonce_report h nonce (Some seen) events (own, text, seals, inl is, sure) = as_so (NonceReport nonce) events (Takes_nonce n seen text ∷ []) is refl
  nonce_report h nonce (Some seen) events (own, text, seals, inr is, sure) = as_so (NonceReport nonce) events (Is_unkept n ∷ []) is refl

  segment : (id offset : ℕ) (found : Option (List ℕ)) (events : List HostEvent) → events ≡ resent n found → So (taken_up events (SegmentRequest id offset)) events
  segment id offset None events is = as_so (SegmentRequest id offset) events [] is refl
  segment id offset (Some payload) events is = as_so (SegmentRequest id offset) events (Resends n payload ∷ []) is refl

  values_none : (h : HostState) (settings : List Setting) → works_among n (value_events h n settings) ≡ false
  values_none h [] = refl
  values_none h (s ∷ more) = ap₂ (λ (a b : Bool). a || b) (one _) (values_none (after h (value_event h n s)) more)
    where
      one : (b : Bool) → works_at n (if b then Has_no_room n s.property else Hears_value n s) ≡ false
      one true = refl
      one false = refl

  message_so : (h : HostState) (payload : List ℕ) (sealed : Bool) (message : Told) (events : List HostEvent) → At h → IsTaken h n payload sealed message events → So (taken_up events message) events
  message_so h payload true (Report id s wake) events at is = reported h id s wake at (told_of (node_of h n).book id (status_byte s)) refl events is
  message_so h payload false (Report id s wake) events at is = plain h payload id s wake events at is
  message_so h payload sealed NonceGet events at is = nonce_get (live_of h.nonces n) events is
  message_so h payload sealed (NonceReport nonce) events at is = nonce_report h nonce _ events is
  message_so h payload sealed Notification events at is = as_so Notification events (Notifies n ∷ []) is refl
  message_so h payload sealed (SegmentRequest id offset) events at is = segment id offset (wanted_segment h n _ id offset) events is
  message_so h payload sealed (Values settings) events at is = quiet_so (Values settings) events (value_events h n settings) refl is (values_none h settings)

  messages_so : (h : HostState) (payload : List ℕ) (sealed : Bool) (messages : List Told) (events : List HostEvent) → At h → AllByRecursion (IsFollower n) events
      → (are : AreTaken h n payload sealed messages events) → So (heeded_of h n payload sealed messages events are) events
  messages_so h payload sealed [] events at all are = sym (ap (λ (l : List HostEvent). works_among n l) are)
  messages_so h payload sealed (message ∷ more) events at all (first, rest, are, taken, others) =
      let both : AllByRecursion (IsFollower n) (first ++ rest) = subst (AllByRecursion (IsFollower n)) are all in
      let later : At (after_all h first) = ap (λ (l : List ℕ). length l % 64) (follow_commands n h first (all-left (IsFollower n) first rest both)) ∙ at in
      any_joined (is_at_work sid) (taken_up first message) (heeded_of (after_all h first) n payload sealed more rest others)
      ∙ ap₂ (λ (a b : Bool). a || b) (message_so h payload sealed message first at taken) (messages_so (after_all h first) payload sealed more rest later (all-right (IsFollower n) first rest both) others)
      ∙ sym (works_joined n first rest) ∙ sym (ap (λ (l : List HostEvent). works_among n l) are)

  -- ---- a payload

  opened_so : (h : HostState) (nonce payload : List ℕ) (events : List HostEvent) → At h → AllByRecursion (IsFollower n) events → (is : IsOpened h n nonce payload events)
      → So (heeded_opened h n nonce payload events is) events
  opened_so h nonce payload events at all (inl is) = sym (ap (λ (l : List HostEvent). works_among n l) is)
  opened_so h nonce payload events at all (inr (inl vain)) = sym (ap (λ (l : List HostEvent). works_among n l) vain.1)
  opened_so h nonce payload events at all (inr (inr (messages, rest, opens, are, taken))) =
      let both : AllByRecursion (IsFollower n) (Spends n ∷ rest) = subst (AllByRecursion (IsFollower n)) are all in
      messages_so (after h (Spends n)) payload true messages rest (ap (λ (l : List ℕ). length l % 64) (event_keeps h n (Spends n) tt).commands ∙ at) both.1 taken
      ∙ sym (ap (λ (l : List HostEvent). works_among n l) are)

  sealed_so : (h : HostState) (payload : List ℕ) (nonce : Option (List ℕ)) (events : List HostEvent) → At h → AllByRecursion (IsFollower n) events → (is : SealedEvents h n payload nonce events)
      → So (heeded_sealed h n payload nonce events is) events
  sealed_so h payload None events at all is = sym (ap (λ (l : List HostEvent). works_among n l) is)
  sealed_so h payload (Some nonce) events at all is = opened_so h nonce payload events at all is

  pub payload_so : (h : HostState) (payload : List ℕ) (heard : Heard) (events : List HostEvent) → At h → (is : PayloadEvents h n payload heard events)
      → list_any (is_at_work sid) (heeded_payload h n payload heard events is) ≡ works_among n events
  payload_so h payload (Messages messages) events at is = messages_so h payload false messages events at (all_follow n h payload (Messages messages) events is) is
  payload_so h payload Sealed events at is = sealed_so h payload (named_by payload (live_of h.nonces n)) events at (all_follow n h payload Sealed events is) is
  payload_so h payload Unread events at is = sym (ap (λ (l : List HostEvent). works_among n l) is)
