-- What the node of a frame wants by the messages that are heeded is what the host puts into its queue behind it.
use Rattle.std.proofs.Common.{◌≡◌, ℕ, true, false, inl, inr, List, [], ◌∷◌, length, refl, sym, ap, ◌∙◌, subst}
use Rattle.std.specs.Prelude.{Option, Some, None, Result, Ok, Err}
use Rattle.std.specs.List.{flat_map}
use Rattle.serial_frame.specs.Frame.{FrameParts, checksum, framed, kind_code}
use Rattle.serial_frame.specs.Items.{unit_text}
use Rattle.serial_frame.specs.declared.frame.Kind.{Kind}
use Rattle.serial_frame.specs.declared.frame.Kind.TheVariants as kind
use Rattle.serial_frame.specs.declared.unit.Unit.TheVariants.{Framed}
use Rattle.chip_functions.specs.Field.{IsNode}
use Rattle.chip_functions.specs.Notice.{notice_of}
use Rattle.chip_functions.specs.Response.{response_of}
use Rattle.chip_functions.specs.declared.fault.BodyFault.{BodyFault}
use Rattle.chip_functions.specs.declared.notice.Notice.{Notice}
use Rattle.chip_functions.specs.declared.notice.Notice.TheVariants.{AddNode, ApplicationCommandHandler, ApplicationUpdate, SendData}
use Rattle.chip_functions.specs.declared.notice.Update.{Update}
use Rattle.chip_functions.specs.declared.notice.Update.TheVariants.{Received, RequestFailed}
use Rattle.chip_functions.specs.declared.response.Response.{Response}
use Rattle.s0_session.specs.Nonces.{live_of}
use Rattle.zw_text.specs.declared.entry.Entry.{Entry}
use Rattle.host_heard.specs.Telling.{heard_at}
use Rattle.host_heard.specs.declared.payload.Heard.{Heard}
use Rattle.host_heard.specs.declared.payload.Heard.TheVariants.{Messages, Sealed, Unread}
use Rattle.host_heard.specs.declared.told.Told.{Told}
use Rattle.law_transcript.specs.Units.{Carried, bringing_in, bringing_of, read_well}
use Rattle.law_time.specs.Judged.{brought_here}
use Rattle.law_time.specs.Wants.{wants_told}
use Rattle.law_time.specs.Queue.{each_with, with_asked, with_brought}
use Rattle.host_requests.specs.Events.{RequestsEvent}
use Rattle.host_requests.specs.Events.RequestsEvent.{CallsBack, Responds, Updates}
use Rattle.host_model.specs.State.{HostState}
use Rattle.host_model.specs.After.{after}
use Rattle.host_model.specs.Did.{after_all}
use Rattle.host_model.specs.Events.{HostEvent, Interview_unkept, Interviews, Is_unkept, Spends, Spends_unread, Unreads}
use Rattle.host_model.specs.Taking.{FrameEvents, InterviewEvents, IsOpened, NoticeEvents, PayloadEvents, ResponseEvents, SealedEvents, named_by, told_requests}
use Rattle.proof_known.proofs.Bodies.{body_is}
use Rattle.proof_attempts.specs.proof_requests.law_host.Heard.{heeds_alone, listing_heard}
use Rattle.proof_attempts.specs.proof_requests.Walking.{IsOfChip}
use Rattle.proof_attempts.proofs.Queued.{told_queue}
use Rattle.proof_attempts.proofs.Spelled.{source_is}
use Rattle.proof_queue.specs.Waiting.{Waits, dropped_by}
use Rattle.proof_queue.specs.Heeding.{PutsSo, heeded_frame, heeded_notice, heeded_opened, heeded_payload, heeded_sealed}
use Rattle.proof_queue.proofs.Kept.{event_keeps, keeps_first}
use Rattle.proof_queue.proofs.Messages.{Wants, all_still, messages_put, spent_nonces}
use Rattle.proof_queue.proofs.Puts.{Puts, both_put, none_put, one_still}
use Rattle.proof_queue.proofs.Segments.{Shows}
use Rattle.proof_queue.proofs.Stills.{AreStill, none_still, told_still}

-- ---- a payload

module _ (past : List Entry) (h : HostState) (n : ℕ) (is_node : IsNode n) (shows : Shows past h n) (long : length h.nonces ≡ 233) where
  one_none : (event : HostEvent) (events : List HostEvent) → events ≡ event ∷ [] → AreStill h (event ∷ []) → Puts n [] h events
  one_none event events are still = subst (Puts n [] h) (sym are) (none_put n h (event ∷ []) still)

  opened_puts : (nonce payload : List ℕ) (events : List HostEvent) → (is : IsOpened h n nonce payload events) → Puts n (Wants past n (heeded_opened h n nonce payload events is)) h events
  opened_puts nonce payload events (inl is) = one_none (Is_unkept n) events is (all_still n h (Is_unkept n ∷ []) (tt, tt))
  opened_puts nonce payload events (inr (inl vain)) = one_none (Spends_unread n payload) events vain.1 (all_still n h (Spends_unread n payload ∷ []) (tt, tt))
  opened_puts nonce payload events (inr (inr (messages, rest, opens, are, taken))) =
      let wants = Wants past n (heeded_opened h n nonce payload events (inr (inr (messages, rest, opens, are, taken)))) in
      subst (Puts n wants h) (sym are)
      (both_put n [] wants h (Spends n ∷ []) rest (none_put n h (Spends n ∷ []) (all_still n h (Spends n ∷ []) (tt, tt)))
      (messages_put past h n is_node shows (after h (Spends n)) payload true messages rest (spent_nonces h n ∙ long) (event_keeps h n (Spends n) tt) taken))

  sealed_puts : (payload : List ℕ) (nonce : Option (List ℕ)) (events : List HostEvent) → (is : SealedEvents h n payload nonce events)
      → Puts n (Wants past n (heeded_sealed h n payload nonce events is)) h events
  sealed_puts payload None events is = one_none (Unreads n payload) events is (all_still n h (Unreads n payload ∷ []) (tt, tt))
  sealed_puts payload (Some nonce) events is = opened_puts nonce payload events is

  payload_puts : (payload : List ℕ) (heard : Heard) (events : List HostEvent) → (is : PayloadEvents h n payload heard events)
      → Puts n (Wants past n (heeded_payload h n payload heard events is)) h events
  payload_puts payload (Messages messages) events is = messages_put past h n is_node shows h payload false messages events long (keeps_first h n) is
  payload_puts payload Sealed events is = sealed_puts payload (named_by payload (live_of h.nonces n)) events is
  payload_puts payload Unread events is = one_none (Unreads n payload) events is (all_still n h (Unreads n payload ∷ []) (tt, tt))

-- ---- a frame

module _ (past : List Entry) (h : HostState) (shows : (n : ℕ) → Shows past h n) (long : length h.nonces ≡ 233) (taken : List Entry → Carried → List Told) where
  -- these messages are heeded of what was brought here
  abbrev Chosen : List Carried → List Told → Type 0
  Chosen brought messages = (brought_here past ≡ brought) × ((carried : Carried) → taken past carried ≡ messages)

  abbrev So : List HostEvent → Type 0
  So events = PutsSo (heeds_alone taken) past h events

  nothing_brought : (messages : List Told) (events : List HostEvent) → Chosen [] messages → AreStill h events → So events
  nothing_brought messages events (none, chosen) still queue waits =
      subst (λ (l : List Carried). Waits (each_with (with_brought (heeds_alone taken) past []) queue l) (after_all h events).requests.queue (dropped_by h events)) (sym none)
      (none_put 0 h events still queue [] waits)

  told_so : (messages : List Told) (event : RequestsEvent) (events : List HostEvent) → IsOfChip event → events ≡ told_requests event → Chosen [] messages → So events
  told_so messages event events is are chosen = nothing_brought messages events chosen (subst (AreStill h) (sym are) (told_still h event is))

  interview_so : (messages : List Told) (update : Update) (capability : Option ℕ) (events : List HostEvent) → InterviewEvents update capability events → Chosen [] messages → So events
  interview_so messages (Received n basic generic specific classes) (Some capability) events (inl are) chosen =
      nothing_brought messages events chosen (subst (AreStill h) (sym are) (one_still h (Interviews n _ classes (Received n basic generic specific classes))
      (record { queue = told_queue h.requests (Updates (Received n basic generic specific classes)) tt; drops = refl })))
  interview_so messages (Received n basic generic specific classes) (Some capability) events (inr are) chosen =
      nothing_brought messages events chosen (subst (AreStill h) (sym are) (one_still h (Interview_unkept n (Received n basic generic specific classes))
      (record { queue = told_queue h.requests (Updates (Received n basic generic specific classes)) tt; drops = refl })))
  interview_so messages RequestFailed (Some capability) events are chosen = nothing_brought messages events chosen (none_still h events are)
  interview_so messages (Received n basic generic specific classes) None events are chosen = told_so messages (Updates (Received n basic generic specific classes)) events tt are chosen
  interview_so messages RequestFailed None events are chosen = told_so messages (Updates RequestFailed) events tt are chosen

  abbrev brought_of : Result Notice BodyFault → List Carried
  brought_of read = flat_map bringing_of (read_well read)

  notice_so : (func : ℕ) (body : List ℕ) (read : Result Notice BodyFault) (events : List HostEvent) → notice_of func body ≡ read → (is : NoticeEvents h read events)
      → Chosen (brought_of read) (heeded_notice h read events is) → So events
  notice_so func body (Ok (ApplicationCommandHandler rx_status source payload)) events read is chosen = λ queue waits.
      let is_node = source_is func body rx_status source payload read in
      subst (λ (l : List Carried). Waits (each_with (with_brought (heeds_alone taken) past []) queue l) (after_all h events).requests.queue (dropped_by h events)) (sym chosen.0)
      (subst (λ (m : List Told). Waits (each_with (with_asked source) queue (flat_map (wants_told listing_heard past source) m)) (after_all h events).requests.queue (dropped_by h events))
      (sym (chosen.1 (record { node = source; payload = payload })))
      (payload_puts past h source is_node (shows source) long payload (heard_at payload) events is queue [] waits))
  notice_so func body (Ok (SendData callback_id status)) events read is chosen = told_so _ (CallsBack callback_id status) events tt is chosen
  notice_so func body (Ok (ApplicationUpdate update)) events read is chosen = interview_so _ update _ events is chosen
  notice_so func body (Ok (AddNode callback_id status information)) events read is chosen = nothing_brought _ events chosen (none_still h events is)
  notice_so func body (Err fault) events read is chosen = nothing_brought _ events chosen (none_still h events is)

  response_so : (messages : List Told) (read : Result Response BodyFault) (events : List HostEvent) → ResponseEvents read events → Chosen [] messages → So events
  response_so messages (Ok response) events is chosen = told_so messages (Responds response) events tt is chosen
  response_so messages (Err fault) events is chosen = nothing_brought messages events chosen (none_still h events is)

  kind_so : (k : Kind) (func : ℕ) (body : List ℕ) (sum : ℕ) (events : List HostEvent) → (is : FrameEvents h k func body events)
      → Chosen (bringing_in (framed (kind_code k ∷ func ∷ body) sum)) (heeded_frame h k func body events is) → So events
  kind_so kind.Response func body sum events is chosen = response_so _ (response_of func body) events is chosen
  kind_so kind.Request func body sum events is (brought, chosen) =
      notice_so func body (notice_of func body) events refl is (brought ∙ ap (λ (b : List ℕ). brought_of (notice_of func b)) (body_is body func sum), chosen)

  -- what is brought by a frame, where these messages are heeded of it
  pub frame_so : (f : FrameParts) (events : List HostEvent) → (is : FrameEvents h f.kind f.func f.body events)
      → brought_here past ≡ bringing_in (unit_text (Framed f)) → ((carried : Carried) → taken past carried ≡ heeded_frame h f.kind f.func f.body events is) → So events
  frame_so f events is brought chosen = kind_so f.kind f.func f.body (checksum (kind_code f.kind ∷ f.func ∷ f.body)) events is (brought, chosen)
