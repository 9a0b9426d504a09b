-- Which Nonce Reports the host's requests send, and which wait, event by event.
use Rattle.std.proofs.Common.{◌≡◌, ◌⊎◌, ℕ, ◌≤◌, ◌%◌, ◌==◌, ◌&&◌, Bool, true, false, if◌then◌else◌, inl, inr, List, [], ◌∷◌, ◌++◌, Option, Some, None, length, map, refl, sym, ap, ap₂, ◌∙◌, subst, append-nil, append_assoc, arith}
use Rattle.std.specs.Prelude.{filter, nat_le, slice_index}
use Rattle.std.specs.List.{AllByRecursion}
use Rattle.std.proofs.lemmas.Bool.{le-leb}
use Rattle.std.proofs.lemmas.Grind.{flat_map-append}
use Rattle.zw_base.proofs.Each.{all-append, all-both, all-left, all-weaker}
use Rattle.serial_link.specs.State.{tick_side}
use Rattle.s0_session.specs.declared.account.Account.{Account}
use Rattle.s0_session.specs.Nonces.{given_of, live_of}
use Rattle.zw_words.specs.declared.side.Side.TheVariants.{Host}
use Rattle.zw_text.specs.declared.entry.Entry.{Entry}
use Rattle.zw_text.specs.declared.entry.Entry.TheVariants as entry
use Rattle.law_transcript.specs.Lists.{shown_after}
use Rattle.law_transcript.specs.Payloads.{nonce_report}
use Rattle.law_transcript.specs.Units.{Carried, sending_in}
use Rattle.proof_notes.specs.law_time.Requests.{asked, is_new}
use Rattle.host_node.specs.Events.NodeEvent.{Ticks as node_ticks}
use Rattle.host_node.specs.Steps.{tick_end}
use Rattle.host_node.specs.declared.attempt.Moment.{Moment}
use Rattle.host_node.specs.declared.attempt.Moment.TheVariants.{BeforeItsTick}
use Rattle.host_requests.specs.Events.{RequestsEvent, end_at}
use Rattle.host_requests.specs.Events.RequestsEvent.{Fails, Pushes, Updates}
use Rattle.host_requests.specs.declared.task.Task.{Task}
use Rattle.host_requests.specs.declared.task.Task.TheVariants.{Plain, Offer as offer_task, Segment, NoMore, First, Second, Members, Neighbours, IsFailed, Version, MemoryId, Capabilities}
use Rattle.host_requests.specs.declared.task.Purpose.TheVariants.{Housekeeping}
use Rattle.host_model.specs.State.{HostState, node_of}
use Rattle.host_model.specs.Sessions.{open_command}
use Rattle.host_model.specs.After.{after, failing_if, finishing, gives_up, giving, is_full, is_held, line_ticked, node_does, offering, queues_if_room, request_does, requests_do}
use Rattle.host_model.specs.Events.{HostEvent, Accepts, Cancels, Joins, Queues, Queues_interview, Queues_probe, Hears, Requests_do, Interviews, Interview_unkept, Unreads, Is_unkept, Reports_old, Works, Finishes, Offers, Gives, Spends, Spends_unread, Takes_nonce, Notifies, Resends, Hears_value, Has_no_room, Line_ticks, Node_ticks, Queues_no_more, Drops_no_more, Submits_abort, Submits_front, Starts, Gives_text, Gives_segment, Begins, Begin_unkept}
use Rattle.proof_notes.specs.proof_attempts.proof_requests.Walking.{IsOfChip}
use Rattle.proof_notes.proofs.Doing.{asks_of, attempt_asks, end_if_asks, holds_asks}
use Rattle.proof_notes.proofs.Queued.{told_queue}
use Rattle.proof_notes.specs.proof_known.law_host.Course.{Offer}
use Rattle.proof_notes.specs.proof_known.law_host.Nonces.{IsOffer}
use Rattle.proof_nonces.specs.Giving.{NotBelow, Ordered, is_report, report_of, reports_at}
use Rattle.proof_nonces.specs.Known.{AsksOther, IsOther, offered_by, offered_in}
use Rattle.proof_nonces.specs.Counted.{GivenSo, IsLast, LiveSo}
use Rattle.proof_nonces.proofs.Accounts.{offered_nonces}
use Rattle.proof_nonces.proofs.Ordered.{ordered-last, ordered-left, shown-both}
use Rattle.proof_nonces.proofs.Payloads.{first_differs, second_differs}
use Rattle.proof_nonces.proofs.Queued.{AddsOther}
use Rattle.proof_nonces.proofs.Since.{IsWritten, NoRequest, not_new}
use Rattle.proof_nonces.proofs.Walking.{carried_by}

-- ---- entries

abbrev pub reports_in : List Carried → List Carried
reports_in carried = filter (λ one. is_report one.payload) carried

quiet_reports : (past : List Entry) (e : Entry) → NoRequest e → reports_at past e ≡ []
quiet_reports past (entry.Written Host unit) none = ap (λ (b : Bool). if b then reports_in (sending_in unit) else []) (not_new past unit none)
quiet_reports past e none = refl

pub none_reported : (past told : List Entry) → AllByRecursion NoRequest told → shown_after reports_at past told ≡ []
none_reported past [] all = refl
none_reported past (e ∷ told) all = ap₂ (λ (a b : List Carried). a ++ b) (quiet_reports past e all.0) (none_reported (past ++ e ∷ []) told all.1)

pub unit_reported : (past told : List Entry) (unit : List ℕ) (new : Bool) → IsWritten unit told → is_new (asked past) unit ≡ new
    → shown_after reports_at past told ≡ (if new then reports_in (sending_in unit) else [])
unit_reported past told unit new written is =
    ap (λ (l : List Entry). shown_after reports_at past l) written.are
    ∙ ap (λ (l : List Carried). reports_at past (entry.Written Host unit) ++ l) (none_reported (past ++ entry.Written Host unit ∷ []) written.marks written.none)
    ∙ append-nil (reports_at past (entry.Written Host unit)) ∙ ap (λ (b : Bool). if b then reports_in (sending_in unit) else []) is

-- ---- what a request sends

unreported : (n : ℕ) (payload : List ℕ) → is_report payload ≡ false → reports_in (record { node = n; payload = payload } ∷ []) ≡ []
unreported n payload none = ap (λ (b : Bool). if b then record { node = n; payload = payload } ∷ [] else []) none

pub other_unreported : (n : ℕ) (payload : List ℕ) → IsOther payload → reports_in (record { node = n; payload = payload } ∷ []) ≡ []
other_unreported n payload other =
    unreported n payload (first_differs (nat_le 2 (length payload)) (slice_index payload 0 == 0x98) (slice_index payload 1 == 0x80) other)

pub either_unreported : (n : ℕ) (payload : List ℕ) → IsOther payload ⊎ (payload ≡ 152 ∷ 64 ∷ []) → reports_in (record { node = n; payload = payload } ∷ []) ≡ []
either_unreported n payload (inl other) = other_unreported n payload other
either_unreported n payload (inr is) = subst (λ (p : List ℕ). reports_in (record { node = n; payload = p } ∷ []) ≡ []) (sym is) refl

pub sealed_unreported : (n : ℕ) (payload rest : List ℕ) → payload ≡ 0x98 ∷ 0x81 ∷ rest → reports_in (record { node = n; payload = payload } ∷ []) ≡ []
sealed_unreported n payload rest is =
    unreported n payload (ap is_report is ∙ second_differs (nat_le 2 (length (0x98 ∷ 0x81 ∷ rest))) true false refl)

all_three : (a b c : Bool) → a ≡ true → b ≡ true → c ≡ true → (a && b && c) ≡ true
all_three true true true p q r = refl
all_three false b c p q r = absurd (let bad : false ≡ true = p in cc)
all_three a false c p q r = absurd (let bad : false ≡ true = q in cc)
all_three a b false p q r = absurd (let bad : false ≡ true = r in cc)

reported : (n : ℕ) (nonce : List ℕ) → reports_in (record { node = n; payload = nonce_report nonce } ∷ []) ≡ record { node = n; payload = nonce_report nonce } ∷ []
reported n nonce =
    ap (λ (b : Bool). if b then record { node = n; payload = nonce_report nonce } ∷ [] else [])
    (all_three (nat_le 2 (length (nonce_report nonce))) true true (le-leb 2 (length (nonce_report nonce)) (omega arith)) refl refl)

pub task_reported : (task : Task) (id : ℕ) → AsksOther task → reports_in (carried_by (Housekeeping task) id) ≡ offered_by task
task_reported (Plain n payload) id is = other_unreported n payload is
task_reported (offer_task n nonce) id is = reported n nonce
task_reported (Segment n payload) id is = other_unreported n payload is
task_reported (NoMore n) id is = refl
task_reported (First n) id is = refl
task_reported (Second n) id is = refl
task_reported Members id is = refl
task_reported (Neighbours n) id is = refl
task_reported (IsFailed n) id is = refl
task_reported Version id is = refl
task_reported MemoryId id is = refl
task_reported Capabilities id is = refl

-- ---- what waits

-- the same, or the live nonce of a node more
abbrev pub OffersSo : (old new : List Task) → List Account → Type 0
OffersSo old new nonces =
    (offered_in new ≡ offered_in old)
    ⊎ ((n : ℕ) × (nonce : List ℕ) × (live_of nonces n ≡ Some nonce) × (offered_in new ≡ offered_in old ++ record { node = n; payload = nonce_report nonce } ∷ []))

abbrev pub NotFront : HostEvent → Type 0
NotFront Submits_front = ⊥
NotFront event = Unit {0}

more_offers : (queue tasks : List Task) → offered_in tasks ≡ [] → offered_in (queue ++ tasks) ≡ offered_in queue
more_offers queue tasks none = flat_map-append offered_by queue tasks ∙ ap (λ (l : List Carried). offered_in queue ++ l) none ∙ append-nil (offered_in queue)

same_offers : (h g : HostState) → asks_of g ≡ asks_of h → offered_in g.requests.queue ≡ offered_in h.requests.queue
same_offers h g same = ap (λ p. offered_in p.1.queue) same

request_offers : (h : HostState) (event : RequestsEvent) (moment : Moment) → IsOfChip event → offered_in (request_does h event moment).requests.queue ≡ offered_in h.requests.queue
request_offers h event moment is =
    same_offers (requests_do h event) (request_does h event moment) (end_if_asks (requests_do h event) (end_at h.requests event) moment) ∙ ap offered_in (told_queue h.requests event is)

failing_offers : (b : Bool) (h : HostState) → offered_in (failing_if b h).requests.queue ≡ offered_in h.requests.queue
failing_offers true h = request_offers h Fails BeforeItsTick tt
failing_offers false h = refl

room_offers : (h : HostState) (task : Task) → offered_by task ≡ [] → offered_in (queues_if_room h task).requests.queue ≡ offered_in h.requests.queue
room_offers h task none = by (is_full h)
  where
    by : (b : Bool) → offered_in (if b then h else requests_do h (Pushes task)).requests.queue ≡ offered_in h.requests.queue
    by true = refl
    by false = more_offers h.requests.queue (task ∷ []) (ap (λ (l : List Carried). l ++ []) none)

offering_offers : (h : HostState) (n : ℕ) (live : Option (List ℕ)) → live_of h.nonces n ≡ live → OffersSo h.requests.queue (offering h n live).requests.queue h.nonces
offering_offers h n None is = inl refl
offering_offers h n (Some nonce) is = by (is_full h)
  where
    by : (b : Bool) → OffersSo h.requests.queue (if b then h else requests_do h (Pushes (offer_task n nonce))).requests.queue h.nonces
    by true = inl refl
    by false = inr (n, nonce, is, flat_map-append offered_by h.requests.queue (offer_task n nonce ∷ []))

offered_so : (h g : HostState) (n : ℕ) → g.requests.queue ≡ h.requests.queue → OffersSo h.requests.queue (offering g n (live_of g.nonces n)).requests.queue (offering g n (live_of g.nonces n)).nonces
offered_so h g n same =
    subst (λ (l : List Account). OffersSo h.requests.queue (offering g n (live_of g.nonces n)).requests.queue l) (sym (offered_nonces g n (live_of g.nonces n)))
    (subst (λ (q : List Task). OffersSo q (offering g n (live_of g.nonces n)).requests.queue g.nonces) same (offering_offers g n (live_of g.nonces n) refl))

pub event_offers : (h : HostState) (event : HostEvent) → NotFront event → AddsOther event → OffersSo h.requests.queue (after h event).requests.queue (after h event).nonces
event_offers h (Accepts order carriage) not adds = inl refl
event_offers h (Cancels command) not adds = inl refl
event_offers h (Joins n) not adds = inl refl
event_offers h (Queues task) not adds = inl (more_offers h.requests.queue (task ∷ []) (ap (λ (l : List Carried). l ++ []) adds.1))
event_offers h (Queues_interview n) not adds = inl (more_offers h.requests.queue (First n ∷ Second n ∷ []) refl)
event_offers h Queues_probe not adds = inl (more_offers h.requests.queue (Version ∷ MemoryId ∷ Capabilities ∷ []) refl)
event_offers h (Hears item) not adds = inl refl
event_offers h (Requests_do event moment) not adds = inl (request_offers h event moment adds)
event_offers h (Interviews n listens classes update) not adds = inl (ap offered_in (told_queue h.requests (Updates update) tt))
event_offers h (Interview_unkept n update) not adds = inl (ap offered_in (told_queue h.requests (Updates update) tt))
event_offers h (Unreads n payload) not adds = inl refl
event_offers h (Is_unkept n) not adds = inl refl
event_offers h (Reports_old n id) not adds = inl refl
event_offers h (Works n id) not adds = inl refl
event_offers h (Finishes n session id command status wake) not adds =
    inl (same_offers (finishing h n id command status) (after h (Finishes n session id command status wake)) (holds_asks (finishing h n id command status) n (is_held h n wake)))
event_offers h (Offers n) not adds = offered_so h h n refl
event_offers h (Gives n drawn) not adds = offered_so h (giving h n drawn) n refl
event_offers h (Spends n) not adds = inl refl
event_offers h (Spends_unread n payload) not adds = inl refl
event_offers h (Takes_nonce n seen text) not adds = inl refl
event_offers h (Notifies n) not adds = inl refl
event_offers h (Resends n payload) not adds = inl (room_offers h (Segment n payload) refl)
event_offers h (Hears_value n setting) not adds = inl refl
event_offers h (Has_no_room n property) not adds = inl refl
event_offers h Line_ticks not adds = inl (failing_offers (gives_up h.side.turn (tick_side h.side).turn) (line_ticked h))
event_offers h (Node_ticks n) not adds =
    inl (same_offers (node_does h n node_ticks) (after h (Node_ticks n)) (attempt_asks (node_does h n node_ticks) (tick_end (node_of h n)) (open_command (node_of h n))))
event_offers h (Queues_no_more n) not adds = inl (more_offers h.requests.queue (NoMore n ∷ []) refl)
event_offers h (Drops_no_more n) not adds = inl refl
event_offers h Submits_abort not adds = inl refl
event_offers h Submits_front not adds = absurd not
event_offers h (Starts n plan more payload) not adds = inl refl
event_offers h (Gives_text n payload) not adds = inl refl
event_offers h (Gives_segment n more payload) not adds = inl refl
event_offers h (Begins n session command) not adds = inl refl
event_offers h (Begin_unkept n) not adds = inl refl

-- ---- those that are given

-- the numbers of nonces stay, and as many are given
abbrev pub Agrees : (drawn next : ℕ → ℕ → List ℕ) → List Account → Type 0
Agrees drawn next old = (node number : ℕ) → number ≤ given_of old node → next node number ≡ drawn node number

abbrev Low : List Account → Offer → Type 0
Low nonces offer = offer.number ≤ given_of nonces offer.node

low_on : (old new : List Account) → ((k : ℕ) → given_of old k ≤ given_of new k) → (l : List Offer) → AllByRecursion (Low old) l → AllByRecursion (Low new) l
low_on old new grown l low = all-weaker (Low old) (Low new) (λ offer is. let more = grown offer.node in omega (arith, is, more)) l low

given_on : (drawn next : ℕ → ℕ → List ℕ) (old : List Account) → Agrees drawn next old → (l : List Offer) → AllByRecursion (IsOffer drawn) l → AllByRecursion (Low old) l → AllByRecursion (IsOffer next) l
given_on drawn next old agrees l given low =
    all-both (IsOffer drawn) (Low old) (IsOffer next) (λ offer is less. is ∙ ap (λ (b : List ℕ). offer.number % 256 ∷ b) (sym (agrees offer.node offer.number less))) l given low

module _ (drawn next : ℕ → ℕ → List ℕ) (past told : List Entry) (queue later : List Task) (old new : List Account) (agrees : Agrees drawn next old) (grown : (k : ℕ) → given_of old k ≤ given_of new k)
    (was : GivenSo drawn past queue old) where
  abbrev all : List Offer
  all = was.offers ++ was.waiting

  reports_on : (sent : List Carried) → shown_after reports_at past told ≡ sent → shown_after reports_at [] (past ++ told) ≡ map report_of was.offers ++ sent
  reports_on sent is = shown-both reports_at [] past told ∙ ap₂ (λ (a b : List Carried). a ++ b) was.reports is

  -- no more wait
  stays : shown_after reports_at past told ≡ [] → offered_in later ≡ offered_in queue → GivenSo next (past ++ told) later new
  stays none same = record {
    offers = was.offers;
    reports = reports_on [] none ∙ append-nil (map report_of was.offers);
    waiting = was.waiting;
    waits = same ∙ was.waits;
    given = given_on drawn next old agrees all was.given was.low;
    in_order = was.in_order;
    low = low_on old new grown all was.low;
  }

  mapped : (xs ys : List Offer) → map report_of (xs ++ ys) ≡ map report_of xs ++ map report_of ys
  mapped [] ys = refl
  mapped (x ∷ xs) ys = ap (λ (l : List Carried). report_of x ∷ l) (mapped xs ys)

  -- one more waits
  waits_more : shown_after reports_at past told ≡ [] → (n : ℕ) (nonce : List ℕ) → IsLast next n nonce (given_of new n)
      → offered_in later ≡ offered_in queue ++ record { node = n; payload = nonce_report nonce } ∷ [] → GivenSo next (past ++ told) later new
  waits_more none n nonce last more =
      let one : Offer = record { node = n; number = given_of new n; nonce = nonce } in
      let join : all ++ one ∷ [] ≡ was.offers ++ (was.waiting ++ one ∷ []) = append_assoc was.offers was.waiting (one ∷ []) in
      let given : AllByRecursion (IsOffer next) (all ++ one ∷ []) = all-append (IsOffer next) all (one ∷ []) (given_on drawn next old agrees all was.given was.low) (last.is, tt) in
      let low : AllByRecursion (Low new) all = low_on old new grown all was.low in
      let ordered : Ordered NotBelow (all ++ one ∷ []) =
      ordered-last NotBelow all one was.in_order
      (all-weaker (Low new) (λ offer. NotBelow offer one) (λ offer less same. subst (λ (k : ℕ). offer.number ≤ given_of new k) (sym same) less) all low) in
      record {
        offers = was.offers;
        reports = reports_on [] none ∙ append-nil (map report_of was.offers);
        waiting = was.waiting ++ one ∷ [];
        waits = more ∙ ap (λ (l : List Carried). l ++ record { node = n; payload = nonce_report nonce } ∷ []) was.waits ∙ sym (mapped was.waiting (one ∷ []));
        given = subst (AllByRecursion (IsOffer next)) join given;
        in_order = subst (Ordered NotBelow) join ordered;
        low = subst (AllByRecursion (Low new)) join (all-append (Low new) all (one ∷ []) low (omega arith, tt));
      }

  pub goes_on : shown_after reports_at past told ≡ [] → LiveSo next new → OffersSo queue later new → GivenSo next (past ++ told) later new
  goes_on none live (inl same) = stays none same
  goes_on none live (inr (n, nonce, at, more)) = waits_more none n nonce (live n nonce at) more

  -- the first that waits is sent
  sent : (one : Offer) (more : List Offer) (carried : Carried) → was.waiting ≡ one ∷ more → report_of one ≡ carried → shown_after reports_at past told ≡ carried ∷ [] → offered_in later ≡ map report_of more
      → GivenSo next (past ++ told) later new
  sent one more carried are is reports rest =
      let join : all ≡ (was.offers ++ one ∷ []) ++ more = ap (λ (l : List Offer). was.offers ++ l) are ∙ sym (append_assoc was.offers (one ∷ []) more) in
      record {
        offers = was.offers ++ one ∷ [];
        reports = reports_on (carried ∷ []) reports ∙ ap (λ (c : Carried). map report_of was.offers ++ c ∷ []) (sym is) ∙ sym (mapped was.offers (one ∷ []));
        waiting = more;
        waits = rest;
        given = subst (AllByRecursion (IsOffer next)) join (given_on drawn next old agrees all was.given was.low);
        in_order = subst (Ordered NotBelow) join was.in_order;
        low = subst (AllByRecursion (Low new)) join (low_on old new grown all was.low);
      }

  same_head : (a b : Carried) (xs ys : List Carried) → a ∷ xs ≡ b ∷ ys → (b ≡ a) × (xs ≡ ys)
  same_head a b xs ys e = (cc, cc)

  pub front_goes : (task : Task) → queue ≡ task ∷ later → shown_after reports_at past told ≡ offered_by task → GivenSo next (past ++ told) later new
  front_goes task are reports = by (short task)
    where
      short : (t : Task) → (offered_by t ≡ []) ⊎ ((carried : Carried) × (offered_by t ≡ carried ∷ []))
      short (offer_task n nonce) = inr (record { node = n; payload = nonce_report nonce }, refl)
      short t = inl refl

      waits : offered_by task ++ offered_in later ≡ map report_of was.waiting
      waits = sym (ap offered_in are) ∙ was.waits

      first : (carried : Carried) → offered_by task ≡ carried ∷ [] → (waiting : List Offer) → was.waiting ≡ waiting → GivenSo next (past ++ told) later new
      first carried is [] at = absurd (let bad : carried ∷ offered_in later ≡ [] = sym (ap (λ (l : List Carried). l ++ offered_in later) is) ∙ waits ∙ ap (λ (l : List Offer). map report_of l) at in cc)
      first carried is (one ∷ more) at =
          let both = same_head carried (report_of one) (offered_in later) (map report_of more)
          (sym (ap (λ (l : List Carried). l ++ offered_in later) is) ∙ waits ∙ ap (λ (l : List Offer). map report_of l) at) in
          sent one more carried at both.0 (reports ∙ is) both.1

      by : (offered_by task ≡ []) ⊎ ((carried : Carried) × (offered_by task ≡ carried ∷ [])) → GivenSo next (past ++ told) later new
      by (inl none) = stays (reports ∙ none) (sym (ap offered_in are ∙ ap (λ (l : List Carried). l ++ offered_in later) none))
      by (inr (carried, is)) = first carried is was.waiting refl

  -- a host that starts again gives none that waited
  pub starts_again : shown_after reports_at past told ≡ [] → offered_in later ≡ [] → GivenSo next (past ++ told) later new
  starts_again none empty =
      let join : was.offers ++ [] ≡ was.offers = append-nil was.offers in
      record {
        offers = was.offers;
        reports = reports_on [] none ∙ append-nil (map report_of was.offers);
        waiting = [];
        waits = empty;
        given = subst (AllByRecursion (IsOffer next)) (sym join) (all-left (IsOffer next) was.offers was.waiting (given_on drawn next old agrees all was.given was.low));
        in_order = subst (Ordered NotBelow) (sym join) (ordered-left NotBelow was.offers was.waiting was.in_order);
        low = subst (AllByRecursion (Low new)) (sym join) (all-left (Low new) was.offers was.waiting (low_on old new grown all was.low));
      }
