-- A course that goes on tells the same of the entries so far: what the chip was asked, which SendData it took, how these ended, and what the chip has for the host.
use Rattle.std.proofs.Common.{◌≡◌, ◌<◌, ◌≤◌, ℕ, zero, suc, ◌+◌, ◌==◌, ◌&&◌, not, nat_le, nat_lt, Bool, true, false, if◌then◌else◌, List, [], ◌∷◌, ◌++◌, map, filter, length, refl, sym, ap, ap₂, ◌∙◌, subst, append_assoc, length-append, arith}
use Rattle.std.specs.Prelude.{slice_get}
use Rattle.std.specs.List.{flat_map}
use Rattle.std.proofs.lemmas.List.Elements.{filter-append}
use Rattle.serial_frame.specs.Frame.{FrameParts}
use Rattle.chip_functions.specs.declared.request.Request.{Request}
use Rattle.chip_functions.specs.declared.request.Request.TheVariants as asks
use Rattle.chip_functions.specs.declared.notice.TransmitStatus.TheVariants.{Fail, NoAck, NoRoute}
use Rattle.chip_functions.specs.declared.response.Response.{Response}
use Rattle.chip_functions.specs.declared.response.Response.TheVariants as answers
use Rattle.outside_model.specs.Devices.{State}
use Rattle.zw_words.specs.declared.side.Side.TheVariants.{Host as by_host, Chip as by_chip}
use Rattle.zw_text.specs.declared.entry.Entry.{Entry}
use Rattle.zw_text.specs.declared.entry.Entry.TheVariants as entry
use Rattle.zw_text.specs.Transcript.{unit_at, written}
use Rattle.zw_text.proofs.Views.{shown-append}
use Rattle.law_transcript.specs.Lists.{listed, shown_after, last_or}
use Rattle.law_transcript.specs.Restarts.{repeats}
use Rattle.law_wire.specs.Asked.{Asked, Course, Sending, acks, asked, asked_at, clock_of, in_tick, is_ack, last_sending, requests_at, requests_of, sending_after, takes, under_way}
use Rattle.law_wire.specs.Results.{Called, aborted_by, called, called_at, came_due, ended_at, ended_by, ended_without, has_failed, is_outward, sent_as, settled_clock, status_heard, tells_failure}
use Rattle.law_wire.specs.Given.{Given, Frame, callback_of, given, given_at, handlers_at, information_of, before_results, response_frame, response_to, responses_at, results_of, taken_or_not, told_of_chip, told_of_node}

-- ---- lists

pub get_left : {A : Type 0} (xs ys : List A) (at : ℕ) → at < length xs → slice_get (xs ++ ys) at ≡ slice_get xs at
get_left [] ys at below = absurd (omega (arith, below))
get_left (x ∷ xs) ys zero below = refl
get_left (x ∷ xs) ys (suc at) below = get_left xs ys at (omega (arith, below))

same_all : {A B : Type 0} (f g : A → List B) → ((x : A) → f x ≡ g x) → (xs : List A) → flat_map f xs ≡ flat_map g xs
same_all f g same [] = refl
same_all f g same (x ∷ xs) = ap₂ (λ (a b : List _). a ++ b) (same x) (same_all f g same xs)

same_lists : {A B : Type 0} (f g : A → List B) → ((x : A) → f x ≡ g x) → (xs ys : List A) → xs ≡ ys → flat_map f xs ≡ flat_map g ys
same_lists f g same xs ys are = same_all f g same xs ∙ ap (λ (l : List _). flat_map g l) are

pub acks_more : (past told : List Entry) → acks (past ++ told) ≡ acks past + acks told
acks_more past told =
    ap (λ (l : List (List ℕ)). length (filter is_ack l)) (shown-append (unit_at by_chip) past told)
    ∙ ap (λ (l : List (List ℕ)). length l) (filter-append is_ack (written by_chip past) (written by_chip told))
    ∙ length-append (filter is_ack (written by_chip past)) (filter is_ack (written by_chip told))

acks_before : (past told : List Entry) (count : ℕ) → acks (past ++ told) ≤ count → acks past ≤ count
acks_before past told count few = let both = acks_more past told in omega (arith, few, both)

-- ---- where a course goes on

module _ (now later : Course) (frames : List FrameParts) (is : later.passed ≡ now.passed ++ frames) where
  -- so many answers are told of
  abbrev Within : List Entry → Type 0
  Within past = acks past ≤ length now.passed

  within_one : (before : List Entry) (e : Entry) (told : List Entry) → Within (before ++ e ∷ told) → Within (before ++ e ∷ [])
  within_one before e told within = acks_before (before ++ e ∷ []) told (length now.passed) (subst Within (sym (append_assoc before (e ∷ []) told)) within)

  within_rest : (before : List Entry) (e : Entry) (told : List Entry) → Within (before ++ e ∷ told) → Within ((before ++ e ∷ []) ++ told)
  within_rest before e told within = subst Within (sym (append_assoc before (e ∷ []) told)) within

  -- what entries show, where each shows the same
  shown_same : {B : Type 0} (one other : List Entry → Entry → List B) → ((past : List Entry) (e : Entry) → Within (past ++ e ∷ []) → one past e ≡ other past e)
      → (told before : List Entry) → Within (before ++ told) → shown_after one before told ≡ shown_after other before told
  shown_same one other same [] before within = refl
  shown_same one other same (e ∷ told) before within =
      ap₂ (λ (a b : List _). a ++ b) (same before e (within_one before e told within)) (shown_same one other same told (before ++ e ∷ []) (within_rest before e told within))

  pub requests_same : (past : List Entry) (e : Entry) → Within (past ++ e ∷ []) → requests_at later past e ≡ requests_at now past e
  requests_same past (entry.Written by_host unit) within = refl
  requests_same past (entry.Written by_chip unit) within = by (is_ack unit) refl
    where
      count : (b : Bool) → is_ack unit ≡ b → acks (entry.Written by_chip unit ∷ []) ≡ length (if b then unit ∷ [] else [])
      count b ack = ap (λ (x : Bool). length (if x then unit ∷ [] else [])) ack

      by : (b : Bool) → is_ack unit ≡ b
          → (if b then flat_map requests_of (listed (slice_get later.passed (acks past))) else []) ≡ (if b then flat_map requests_of (listed (slice_get now.passed (acks past))) else [])
      by true ack =
          let more = acks_more past (entry.Written by_chip unit ∷ []) in
          let one = count true ack in
          ap (λ (l : List FrameParts). flat_map requests_of (listed (slice_get l (acks past)))) is
          ∙ ap (λ o. flat_map requests_of (listed o)) (get_left now.passed frames (acks past) (omega (arith, within, more, one)))
      by false ack = refl
  requests_same past e within = refl

  asked_same_at : (past : List Entry) (e : Entry) → Within (past ++ e ∷ []) → asked_at later past e ≡ asked_at now past e
  asked_same_at past e within = ap (λ (l : List Request). map (λ (request : Request). record { request = request; past = past }) l) (requests_same past e within)

  pub asked_same : (past : List Entry) → Within past → asked later past ≡ asked now past
  asked_same past within = shown_same (asked_at later) (asked_at now) asked_same_at past [] within

  pub last_same : (past : List Entry) → Within past → last_sending later past ≡ last_sending now past
  last_same past within = ap (λ (l : List Asked). sending_after [] l) (asked_same past within)

  pub under_way_same : (past : List Entry) → Within past → under_way later past ≡ under_way now past
  under_way_same past within = ap (λ (l : List Sending). in_tick (clock_of past) l) (last_same past within)

  -- ---- how they end

  aborted_same : (past : List Entry) → Within past → (request : Request) → aborted_by later past request ≡ aborted_by now past request
  aborted_same past within asks.SendDataAbort = ap (λ (l : List Sending). ended_by Fail l) (under_way_same past within)
  aborted_same past within request = refl

  sent_same : (past : List Entry) (number : ℕ) → Within past → sent_as later past number ≡ sent_as now past number
  sent_same past number within = ap (λ (l : List Sending). if is_outward past number then filter (λ (sending : Sending). sending.frame == number) l else []) (last_same past within)

  ended_same : (past : List Entry) (e : Entry) → Within (past ++ e ∷ []) → ended_at later past e ≡ ended_at now past e
  ended_same past (entry.Written by_host unit) within = refl
  ended_same past (entry.Written by_chip unit) within =
      same_lists (aborted_by later past) (aborted_by now past) (aborted_same past (acks_before past (entry.Written by_chip unit ∷ []) (length now.passed) within))
      (requests_at later past (entry.Written by_chip unit)) (requests_at now past (entry.Written by_chip unit)) (requests_same past (entry.Written by_chip unit) within)
  ended_same past (entry.Heard number) within =
      ap (λ (l : List Sending). if repeats past then [] else ended_by (status_heard past) l) (sent_same past number (acks_before past (entry.Heard number ∷ []) (length now.passed) within))
  ended_same past (entry.Lost number) within = ap (λ (l : List Sending). ended_by NoAck l) (sent_same past number (acks_before past (entry.Lost number ∷ []) (length now.passed) within))
  ended_same past (entry.Unheard number) within = ap (λ (l : List Sending). ended_by NoAck l) (sent_same past number (acks_before past (entry.Unheard number ∷ []) (length now.passed) within))
  ended_same past e within = refl

  due_same : (past : List Entry) (e : Entry) → Within past → came_due later past e ≡ came_due now past e
  due_same past e within =
      ap (λ (l : List Asked). filter (λ (one : Asked). nat_le (settled_clock past) (clock_of one.past) && nat_lt (clock_of one.past) (settled_clock (past ++ e ∷ []))) l) (asked_same past within)

  without_same : (past : List Entry) → Within past → (one : Asked) → ended_without later past one ≡ ended_without now past one
  without_same past within one =
      ap (λ (l : List Sending). ended_by NoRoute (filter (λ (sending : Sending). (sending.place == acks one.past) && not (is_outward past sending.frame)) l)) (last_same past within)

  called_same_at : (past : List Entry) (e : Entry) → Within (past ++ e ∷ []) → called_at later past e ≡ called_at now past e
  called_same_at past e within =
      let before : Within past = acks_before past (e ∷ []) (length now.passed) within in
      ap₂ (λ (a b : List Called). a ++ b) (ended_same past e within)
      (same_lists (ended_without later past) (ended_without now past) (without_same past before) (came_due later past e) (came_due now past e) (due_same past e before))

  pub called_same : (past : List Entry) → Within past → called later past ≡ called now past
  called_same past within = shown_same (called_at later) (called_at now) called_same_at past [] within

  failed_same : (past : List Entry) (node : ℕ) → Within past → has_failed later past node ≡ has_failed now past node
  failed_same past node within =
      ap (λ (l : List Called). last_or false (map (λ (one : Called). tells_failure one.status) (filter (λ (one : Called). one.sending.node == node) l))) (called_same past within)

  -- ---- what the chip has for the host

  node_same : (devices : List State) (past : List Entry) → Within past → (request : Request) → told_of_node devices later past request ≡ told_of_node devices now past request
  node_same devices past within (asks.IsFailedNode node) = ap (λ (b : Bool). answers.IsFailedNode b ∷ []) (failed_same past node within)
  node_same devices past within request = refl

  taken_same : (past : List Entry) → Within past → (request : Request) → taken_or_not later past request ≡ taken_or_not now past request
  taken_same past within (asks.SendData node payload options id) =
      ap (λ (l : List Sending). answers.SendData (if takes past l node payload then 1 else 0) ∷ []) (under_way_same past within)
  taken_same past within request = refl

  response_same : (devices : List State) (past : List Entry) → Within past → (request : Request) → response_to devices later past request ≡ response_to devices now past request
  response_same devices past within request =
      ap₂ (λ (a b : List Response). (told_of_chip past request ++ a) ++ b) (node_same devices past within request) (taken_same past within request)

  responses_same : (devices : List State) (past : List Entry) (e : Entry) → Within (past ++ e ∷ []) → responses_at devices later past e ≡ responses_at devices now past e
  responses_same devices past e within =
      ap (λ (l : List Response). map (λ (response : Response). Frame (response_frame response)) l)
      (same_lists (response_to devices later past) (response_to devices now past) (response_same devices past (acks_before past (e ∷ []) (length now.passed) within))
      (requests_at later past e) (requests_at now past e) (requests_same past e within))

  results_same : (past : List Entry) (e : Entry) → Within past → (one : Asked) → results_of later past e one ≡ results_of now past e one
  results_same past e within one = ap (λ (l : List Called). information_of (before_results past e) one one.request ++ map callback_of l) (without_same past within one)

  given_same_at : (devices : List State) (past : List Entry) (e : Entry) → Within (past ++ e ∷ []) → given_at devices later past e ≡ given_at devices now past e
  given_same_at devices past e within =
      let before : Within past = acks_before past (e ∷ []) (length now.passed) within in
      let first = responses_same devices past e within in
      let ended = ended_same past e within in
      let results = same_lists (results_of later past e) (results_of now past e) (results_same past e before) (came_due later past e) (came_due now past e) (due_same past e before) in
      ap₂ (λ (a b : List Given). a ++ b) (ap₂ (λ (a : List Given) (b : List Called). (a ++ handlers_at past e) ++ map callback_of b) first ended) results

  pub given_same : (devices : List State) (past : List Entry) → Within past → given devices later past ≡ given devices now past
  given_same devices past within = shown_same (given_at devices later) (given_at devices now) (given_same_at devices) past [] within
