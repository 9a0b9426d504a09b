-- Which nonce of a node a host takes behind a payload, by the messages of it that are heeded.
use Rattle.std.proofs.Common.{◌≡◌, ◌⊎◌, ℕ, ◌-◌, ◌<◌, Bool, true, false, if◌then◌else◌, inl, inr, Option, Some, None, length, List, [], ◌∷◌, ◌++◌, refl, sym, ap, ap₂, ◌∙◌, subst, append-nil, append_assoc, length-append, arith}
use Rattle.std.specs.Prelude.{slice_index}
use Rattle.std.specs.List.{flat_map}
use Rattle.std.proofs.lemmas.List.{get_or_at, length-set}
use Rattle.std.proofs.lemmas.Bool.{cases_Bool, eq-eqb}
use Rattle.std.proofs.lemmas.Grind.{flat_map-append}
use Rattle.zw_base.specs.declared.property.Setting.{Setting}
use Rattle.s0_crypto.specs.declared.key_pair.Keys.{Keys}
use Rattle.s0_crypto.specs.Seal.{code_of}
use Rattle.s0_crypto.proofs.OpeningLemmas.{length-code_of}
use Rattle.s0_session.specs.Nonces.{live_of}
use Rattle.s0_session.specs.Sending.{taken_from}
use Rattle.class_info.specs.declared.report_status.ReportStatus.{ReportStatus}
use Rattle.class_info.specs.Values.{status_byte}
use Rattle.supervision.specs.Host.{told_of}
use Rattle.supervision.specs.declared.host_node.Told.{Told as TheTold}
use Rattle.supervision.specs.declared.host_node.Told.TheVariants as booked
use Rattle.host_heard.specs.declared.payload.Heard.{Heard}
use Rattle.host_heard.specs.declared.payload.Heard.TheVariants.{Messages, Sealed, Unread}
use Rattle.host_heard.specs.declared.told.Told.{Told}
use Rattle.host_heard.specs.declared.told.Told.TheVariants.{Report, NonceGet, NonceReport, Notification, SegmentRequest, Values}
use Rattle.host_keep.specs.declared.final_status.FinalStatus.{FinalStatus}
use Rattle.host_node.specs.State.{NodeState, SealsText, count_at, ends_to}
use Rattle.host_node.specs.Events.{after as after_node}
use Rattle.host_node.specs.TableState.{node_of as node_among, nodes_after}
use Rattle.host_node.specs.Steps.{after_nonce}
use Rattle.host_model.specs.State.{HostState, node_of}
use Rattle.host_model.specs.After.{after}
use Rattle.host_model.specs.Did.{after_all}
use Rattle.host_model.specs.Events.{HostEvent, Unreads, Is_unkept, Reports_old, Works, Finishes, Offers, Gives, Spends, Spends_unread, Takes_nonce, Notifies, Resends, Hears_value, Has_no_room}
use Rattle.host_model.specs.Taking.{AreTaken, FinalEvents, IsKeptOr, IsOpened, IsTaken, NonceGetEvents, NonceReportEvents, PayloadEvents, ReportEvents, SealedEvents, is_secure, named_by, resent, value_event, value_events, wanted_segment}
use Rattle.law_time.specs.Attempts.{nonce_told}
use Rattle.proof_giving.proofs.Doings.{Doing, did, does_all, node_after, nodes_are}
use Rattle.proof_giving.specs.proof_queue.Heeding.{heeded_of, heeded_opened, heeded_payload, heeded_sealed, taken_up}
use Rattle.proof_choice.proofs.Staying.{LeavesTexts, Stays, all_stay, event_goes, stays_same, then_stays}

-- ---- a sealed text

named_at : (front code : List ℕ) (first : ℕ) → length code ≡ 8 → slice_index (front ++ first ∷ code) (length (front ++ first ∷ code) - 9) ≡ first
named_at front code first eight =
    let size = length-append front (first ∷ code) in
    let place : length front ≡ length (front ++ first ∷ code) - 9 = omega (arith, size, eight) in
    get_or_at front first code 0 (length (front ++ first ∷ code) - 9) place

pub text_names : (node : NodeState) (keys : Keys) (own nonce text : List ℕ) → SealsText node keys own nonce text → slice_index text (length text - 9) ≡ slice_index nonce 0
text_names node keys own nonce text seals =
    let cipher : List ℕ = seals.seals.cipher_text in
    let code : List ℕ = code_of keys (own ++ nonce) (ends_to node.node) cipher in
    let grouped : text ≡ (0x98 ∷ 0x81 ∷ (own ++ cipher)) ++ slice_index nonce 0 ∷ code
    = seals.seals.layout ∙ ap (λ (l : List ℕ). 0x98 ∷ 0x81 ∷ l) (sym (append_assoc own cipher (slice_index nonce 0 ∷ code))) in
    subst (λ (l : List ℕ). slice_index l (length l - 9) ≡ slice_index nonce 0) (sym grouped) (named_at (0x98 ∷ 0x81 ∷ (own ++ cipher)) code (slice_index nonce 0) (length-code_of keys (own ++ nonce) (ends_to node.node) cipher))

-- ---- what a node has

-- one nonce is taken for a text that waits
pub record OneTaken (s t : NodeState) (nonces : List (List ℕ)) : Type 0 where
  pub before : NodeState
  pub nonce : List ℕ
  pub seen : ℕ
  pub text : List ℕ
  pub plain : List ℕ
  pub told : nonces ≡ nonce ∷ []
  pub up_to : Stays false s before
  pub waits : before.pending ≡ Some plain
  pub counts : taken_from before.pending before.seen (slice_index nonce 0) ≡ Some seen
  pub names : slice_index text (length text - 9) ≡ slice_index nonce 0
  pub since : Stays false (after_nonce before seen text) t

abbrev pub NoncesSo : NodeState → NodeState → List (List ℕ) → Type 0
NoncesSo s t nonces = ((nonces ≡ []) × Stays false s t) ⊎ OneTaken s t nonces

both_nonces : (s t u : NodeState) (first rest : List (List ℕ)) → NoncesSo s t first → NoncesSo t u rest → NoncesSo s u (first ++ rest)
both_nonces s t u first rest (inl none) (inl more) = inl (ap₂ (λ (a b : List (List ℕ)). a ++ b) none.0 more.0, then_stays false s t u none.1 more.1)
both_nonces s t u first rest (inl none) (inr one) = inr (record {
  before = one.before;
  nonce = one.nonce;
  seen = one.seen;
  text = one.text;
  plain = one.plain;
  told = ap (λ (l : List (List ℕ)). l ++ rest) none.0 ∙ one.told;
  up_to = then_stays false s t one.before none.1 one.up_to;
  waits = one.waits;
  counts = one.counts;
  names = one.names;
  since = one.since;
})
both_nonces s t u first rest (inr one) (inl more) = inr (record {
  before = one.before;
  nonce = one.nonce;
  seen = one.seen;
  text = one.text;
  plain = one.plain;
  told = ap (λ (l : List (List ℕ)). first ++ l) more.0 ∙ append-nil first ∙ one.told;
  up_to = one.up_to;
  waits = one.waits;
  counts = one.counts;
  names = one.names;
  since = then_stays false (after_nonce one.before one.seen one.text) t u one.since more.1;
})
both_nonces s t u first rest (inr one) (inr other) =
    absurd (let there = one.since.pending other.plain (other.up_to.pending other.plain other.waits) in let bad : ◌≡◌ {A = Option (List ℕ)} None (Some other.plain) = there in cc)

-- ---- events

long_all : (nodes : List NodeState) (doings : List Doing) → length (does_all nodes doings) ≡ length nodes
long_all nodes [] = refl
long_all nodes (one ∷ more) = long_all (nodes_after nodes one.node one.event) more ∙ length-set nodes one.node (after_node (node_among nodes one.node) one.event)

pub places_stay : (h : HostState) (event : HostEvent) → length (after h event).nodes ≡ length h.nodes
places_stay h event = ap (λ (l : List NodeState). length l) (nodes_are h event) ∙ long_all h.nodes (did h event)

module _ (n : ℕ) where
  -- events that leave the texts of the node
  pub one_stays : (h : HostState) (event : HostEvent) → n < length h.nodes → LeavesTexts false event → Stays false (node_of h n) (node_of (after h event) n)
  one_stays h event within leaves = subst (Stays false (node_of h n)) (sym (node_after h event n within)) (all_stay false n (node_of h n) (did h event) (event_goes false h event leaves))

  abbrev Long : HostState → Type 0
  Long h = n < length h.nodes

  long_after : (h : HostState) (event : HostEvent) → Long h → Long (after h event)
  long_after h event within = let same = places_stay h event in omega (arith, within, same)

  long_all_after : (h : HostState) (events : List HostEvent) → Long h → Long (after_all h events)
  long_all_after h [] within = within
  long_all_after h (event ∷ events) within = long_all_after (after h event) events (long_after h event within)

  abbrev So : HostState → List Told → List HostEvent → Type 0
  So h messages events = NoncesSo (node_of h n) (node_of (after_all h events) n) (flat_map nonce_told messages)

  none_so : (h : HostState) (event : HostEvent) → Long h → LeavesTexts false event → So h [] (event ∷ [])
  none_so h event within leaves = inl (refl, one_stays h event within leaves)

  still_so : (h : HostState) → So h [] []
  still_so h = inl (refl, stays_same false (node_of h n))

  as_so : (h : HostState) (message : Told) (events these : List HostEvent) → events ≡ these → So h (taken_up these message) these → So h (taken_up events message) events
  as_so h message events these are so = subst (λ (l : List HostEvent). So h (taken_up l message) l) (sym are) so

  -- a message that tells no nonce
  module _ (message : Told) (untold : nonce_told message ≡ []) where
    none_told : flat_map nonce_told (message ∷ []) ≡ []
    none_told = ap (λ (l : List (List ℕ)). l ++ []) untold

    told_up : (events : List HostEvent) → flat_map nonce_told (taken_up events message) ≡ []
    told_up [] = refl
    told_up (Offers m ∷ more) = none_told
    told_up (Gives m drawn ∷ more) = none_told
    told_up (Resends m payload ∷ more) = none_told
    told_up (Works m id ∷ more) = none_told
    told_up (Takes_nonce m seen text ∷ more) = none_told
    told_up (event ∷ more) = refl

    one_so : (h : HostState) (events : List HostEvent) (event : HostEvent) → Long h → LeavesTexts false event → events ≡ event ∷ [] → So h (taken_up events message) events
    one_so h events event within leaves is = as_so h message events (event ∷ []) is (inl (told_up (event ∷ []), one_stays h event within leaves))

    empty_so : (h : HostState) (events : List HostEvent) → events ≡ [] → So h (taken_up events message) events
    empty_so h events is = as_so h message events [] is (inl (refl, stays_same false (node_of h n)))

    final : (h : HostState) (session id : ℕ) (command : Option ℕ) (end : Option FinalStatus) (wake : Bool) (events : List HostEvent) → Long h → FinalEvents n session id command end wake events
        → So h (taken_up events message) events
    final h session id (Some command) (Some end) wake events within (inl is) = one_so h events (Finishes n session id command end wake) within tt is
    final h session id (Some command) (Some end) wake events within (inr is) = one_so h events (Is_unkept n) within tt is
    final h session id (Some command) None wake events within is = empty_so h events is
    final h session id None (Some end) wake events within is = empty_so h events is
    final h session id None None wake events within is = empty_so h events is

    reported : (h : HostState) (id : ℕ) (s : ReportStatus) (wake : Bool) → Long h → (it : TheTold) → (events : List HostEvent) → ReportEvents h n id s wake it events → So h (taken_up events message) events
    reported h id s wake within booked.Old events is = one_so h events (Reports_old n id) within tt is
    reported h id s wake within booked.Working events is = one_so h events (Works n id) within tt is
    reported h id s wake within (booked.Final session) events is = final h session id _ _ wake events within is

    plain : (h : HostState) (payload : List ℕ) (id : ℕ) (s : ReportStatus) (wake : Bool) (events : List HostEvent) → Long h → message ≡ Report id s wake → IsTaken h n payload false (Report id s wake) events
        → So h (taken_up events message) events
    plain h payload id s wake events within same is = elim (cases_Bool (is_secure (node_of h n).classes)) [
      | inl secure ↦ one_so h events (Unreads n payload) within tt (rw secure at is)
      | inr not_secure ↦ reported h id s wake within (told_of (node_of h n).book id (status_byte s)) events (rw not_secure at is)
    ]

    asked : (h : HostState) (live : Option (List ℕ)) (events : List HostEvent) → Long h → NonceGetEvents n live events → So h (taken_up events message) events
    asked h (Some nonce) events within is = one_so h events (Offers n) within tt is
    asked h None events within (drawn, eight, inl is) = one_so h events (Gives n drawn) within tt is
    asked h None events within (drawn, eight, inr is) = one_so h events (Is_unkept n) within tt is

    resends : (h : HostState) (found : Option (List ℕ)) (events : List HostEvent) → Long h → events ≡ resent n found → So h (taken_up events message) events
    resends h None events within is = empty_so h events is
    resends h (Some payload) events within is = one_so h events (Resends n payload) within tt is

    hears : (h : HostState) (settings : List Setting) → Long h → Stays false (node_of h n) (node_of (after_all h (value_events h n settings)) n)
    hears h [] within = stays_same false (node_of h n)
    hears h (s ∷ more) within =
        let event : HostEvent = value_event h n s in
        then_stays false (node_of h n) (node_of (after h event) n) _ (one_stays h event within (leaves _)) (hears (after h event) more (long_after h event within))
      where
        leaves : (b : Bool) → LeavesTexts false (if b then Has_no_room n s.property else Hears_value n s)
        leaves true = tt
        leaves false = tt

    values : (h : HostState) (settings : List Setting) (events : List HostEvent) → Long h → events ≡ value_events h n settings → So h (taken_up events message) events
    values h settings events within is = as_so h message events (value_events h n settings) is (inl (told_up (value_events h n settings), hears h settings within))

  -- a Nonce Report
  nonce_so : (h : HostState) (nonce : List ℕ) (count : Option ℕ) (events : List HostEvent) → Long h → count_at (node_of h n) (slice_index nonce 0) ≡ count → NonceReportEvents h n nonce count events
      → So h (taken_up events (NonceReport nonce)) events
  nonce_so h nonce None events within counts is = as_so h (NonceReport nonce) events [] is (still_so h)
  nonce_so h nonce (Some seen) events within counts is = by is.2 is.3
    where
      own : List ℕ
      own = is.0

      text : List ℕ
      text = is.1

      s : NodeState
      s = node_of h n

      by : SealsText s h.keys own nonce text → IsKeptOr (Takes_nonce n seen text) (Is_unkept n) events → So h (taken_up events (NonceReport nonce)) events
      by seals (inr unkept) = as_so h (NonceReport nonce) events (Is_unkept n ∷ []) unkept (none_so h (Is_unkept n) within tt)
      by seals (inl kept) = as_so h (NonceReport nonce) events (Takes_nonce n seen text ∷ []) kept (inr (record {
        before = s;
        nonce = nonce;
        seen = seen;
        text = text;
        plain = seals.plain;
        told = refl;
        up_to = stays_same false s;
        waits = seals.is_pending;
        counts = counts;
        names = text_names s h.keys own nonce text seals;
        since = subst (Stays false (after_nonce s seen text))
            (sym (node_after h (Takes_nonce n seen text) n within ∙ ap (λ (b : Bool). if b then after_nonce s seen text else s) (eq-eqb n n refl)))
            (stays_same false (after_nonce s seen text));
      }))

  message_so : (h : HostState) (payload : List ℕ) (sealed : Bool) (message : Told) (events : List HostEvent) → Long h → IsTaken h n payload sealed message events → So h (taken_up events message) events
  message_so h payload true (Report id s wake) events within is = reported (Report id s wake) refl h id s wake within (told_of (node_of h n).book id (status_byte s)) events is
  message_so h payload false (Report id s wake) events within is = plain (Report id s wake) refl h payload id s wake events within refl is
  message_so h payload sealed NonceGet events within is = asked NonceGet refl h (live_of h.nonces n) events within is
  message_so h payload sealed (NonceReport nonce) events within is = nonce_so h nonce (count_at (node_of h n) (slice_index nonce 0)) events within refl is
  message_so h payload sealed Notification events within is = one_so Notification refl h events (Notifies n) within tt is
  message_so h payload sealed (SegmentRequest id offset) events within is = resends (SegmentRequest id offset) refl h (wanted_segment h n _ id offset) events within is
  message_so h payload sealed (Values settings) events within is = values (Values settings) refl h settings events within is

  after_joined : (h : HostState) (first rest : List HostEvent) → after_all h (first ++ rest) ≡ after_all (after_all h first) rest
  after_joined h [] rest = refl
  after_joined h (event ∷ first) rest = after_joined (after h event) first rest

  messages_so : (h : HostState) (payload : List ℕ) (sealed : Bool) (messages : List Told) (events : List HostEvent) → Long h → (are : AreTaken h n payload sealed messages events)
      → So h (heeded_of h n payload sealed messages events are) events
  messages_so h payload sealed [] events within are = subst (So h []) (sym are) (still_so h)
  messages_so h payload sealed (message ∷ more) events within (first, rest, are, taken, others) =
      let later : HostState = after_all h first in
      subst (λ (l : List (List ℕ)). NoncesSo (node_of h n) (node_of (after_all h events) n) l)
      (sym (flat_map-append nonce_told (taken_up first message) (heeded_of later n payload sealed more rest others)))
      (subst (λ (g : HostState). NoncesSo (node_of h n) (node_of g n) (flat_map nonce_told (taken_up first message) ++ flat_map nonce_told (heeded_of later n payload sealed more rest others)))
      (sym (ap (λ (l : List HostEvent). after_all h l) are ∙ after_joined h first rest))
      (both_nonces (node_of h n) (node_of later n) (node_of (after_all later rest) n) _ _ (message_so h payload sealed message first within taken)
      (messages_so later payload sealed more rest (long_all_after h first within) others)))

  opened_so : (h : HostState) (nonce payload : List ℕ) (events : List HostEvent) → Long h → (is : IsOpened h n nonce payload events) → So h (heeded_opened h n nonce payload events is) events
  opened_so h nonce payload events within (inl is) = subst (So h []) (sym is) (none_so h (Is_unkept n) within tt)
  opened_so h nonce payload events within (inr (inl vain)) = subst (So h []) (sym vain.1) (none_so h (Spends_unread n payload) within tt)
  opened_so h nonce payload events within (inr (inr (messages, rest, opens, are, taken))) =
      let spent : HostState = after h (Spends n) in
      let more = messages_so spent payload true messages rest (long_after h (Spends n) within) taken in
      subst (So h (heeded_of spent n payload true messages rest taken)) (sym are)
      (both_nonces (node_of h n) (node_of spent n) (node_of (after_all spent rest) n) [] (flat_map nonce_told (heeded_of spent n payload true messages rest taken)) (inl (refl, one_stays h (Spends n) within tt)) more)

  sealed_so : (h : HostState) (payload : List ℕ) (nonce : Option (List ℕ)) (events : List HostEvent) → Long h → (is : SealedEvents h n payload nonce events) → So h (heeded_sealed h n payload nonce events is) events
  sealed_so h payload None events within is = subst (So h []) (sym is) (none_so h (Unreads n payload) within tt)
  sealed_so h payload (Some nonce) events within is = opened_so h nonce payload events within is

  -- behind a payload of the node: none is taken, or one
  pub payload_nonces : (h : HostState) (payload : List ℕ) (heard : Heard) (events : List HostEvent) → Long h → (is : PayloadEvents h n payload heard events)
      → NoncesSo (node_of h n) (node_of (after_all h events) n) (flat_map nonce_told (heeded_payload h n payload heard events is))
  payload_nonces h payload (Messages messages) events within is = messages_so h payload false messages events within is
  payload_nonces h payload Sealed events within is = sealed_so h payload (named_by payload (live_of h.nonces n)) events within is
  payload_nonces h payload Unread events within is = subst (So h []) (sym is) (none_so h (Unreads n payload) within tt)
