-- What a request that is new makes of the books of a course: a Nonce Get has the message of its session wait for a nonce, a Nonce Report shows the nonce that was offered first, and a sealed text
-- uses its nonce up; so they go with what the host does where it submits the request.
use Rattle.std.proofs.Common.{◌≡◌, ◌⊎◌, ◌<◌, ◌≤◌, ℕ, ◌+◌, ◌*◌, ◌%◌, ◌==◌, ◌&&◌, ◌||◌, not, Bool, true, false, if◌then◌else◌, inl, inr, List, [], ◌∷◌, ◌++◌, length, map, refl, sym, ap, ap₂, ◌∙◌, subst, arith}
use Rattle.std.specs.Prelude.{Option, Some, None, bytes_eq, drop, nat_le, slice_index, take}
use Rattle.std.specs.List.{AllByRecursion, list_all}
use Rattle.std.proofs.lemmas.Bool.{both_ways, cases_eq, eq-eqb, false_from_ne_true, le-leb, ne_eqb}
use Rattle.zw_base.proofs.Each.{all-append}
use Rattle.chip_functions.specs.Field.{IsNode}
use Rattle.supervision.specs.Host.{command_at as command_of_session}
use Rattle.encap.specs.Opening.{begins_with}
use Rattle.s0_crypto.specs.Sealing.{keys_of, sealed_text}
use Rattle.s0_session.specs.Nonces.{given_of}
use Rattle.zw_text.specs.declared.entry.Entry.{Entry}
use Rattle.law_transcript.specs.Nodes.{controller}
use Rattle.law_transcript.specs.Payloads.{nonce_get, nonce_report}
use Rattle.law_transcript.specs.Units.{Carried, sending_in}
use Rattle.law_time.specs.Heeds.{Heeds}
use Rattle.law_time.specs.Requests.{are_none}
use Rattle.law_time.specs.Sessions.{last_command, session_of}
use Rattle.host_heard.specs.declared.told.Told.{Told}
use Rattle.host_orders.specs.Wrapping.{form_of}
use Rattle.host_orders.specs.declared.carriage.Form.{Form}
use Rattle.host_orders.specs.declared.carriage.Form.TheVariants.{Plain as whole, Cut, Sealed as in_seal}
use Rattle.host_keep.specs.Kept.{Taken}
use Rattle.host_node.specs.State.{NodeState}
use Rattle.host_node.specs.Steps.{after_start, after_text}
use Rattle.host_node.specs.Events.NodeEvent.{Gives_segment as node_gives_segment, Gives_text as node_gives_text, Starts as node_starts}
use Rattle.host_node.specs.Facts.{NodeFacts, SeriesFacts}
use Rattle.host_node.specs.declared.attempt.Plan.{Plan}
use Rattle.host_node.specs.declared.attempt.Plan.TheVariants.{Whole, Segments, Sealed}
use Rattle.host_node.specs.declared.series.Series.{Series}
use Rattle.host_node.specs.declared.series.Series.TheVariants.{Due, Running, Idle}
use Rattle.host_requests.specs.declared.task.Task.{Task}
use Rattle.host_requests.specs.declared.task.Task.TheVariants as task
use Rattle.host_requests.specs.declared.task.Purpose.TheVariants.{Housekeeping, Attempt}
use Rattle.host_requests.specs.Events.{task_begun}
use Rattle.host_requests.specs.Events.RequestsEvent.{BeginsAttempt}
use Rattle.host_model.specs.State.{Command, HostState, node_of}
use Rattle.transport_segments.specs.Parts.{slice_at}
use Rattle.host_model.specs.Sessions.{message_for, segment_count, start_by}
use Rattle.host_model.specs.After.{after, submits}
use Rattle.host_model.specs.Events.{Gives_segment, Gives_text, Starts, Submits_abort, Submits_front}
use Rattle.host_model.specs.May.{IsStart}
use Rattle.proof_host.specs.Tables.{taken_at, taken_by}
use Rattle.proof_choice.specs.proof_ends.proof_nonces.Known.{AsksOther, IsOther}
use Rattle.proof_choice.specs.proof_ends.proof_requests.law_host.Course.{Book, Course, Giver, Offer, Ready, Sealer, book_of, each_in_turn, giver_of, sealer_of, with_giver, with_sealer}
use Rattle.proof_choice.specs.proof_ends.proof_requests.law_host.Heard.{heeds_alone, listing_heard}
use Rattle.proof_choice.specs.proof_ends.proof_requests.law_host.Nonces.{IsSeal, asks_nonce, is_late, may_be_sent, may_carry, nonce_with, sends, sends_carried, shows_nonce, uses_nonce}
use Rattle.proof_choice.proofs.Payloads.{first_differs, message_other, second_differs, segment_other}
use Rattle.proof_choice.proofs.proof_nonces_Walking.{carried_by, none_pending}
use Rattle.proof_hearing.specs.Books.{BooksOf, BooksSo, GiverSo, IsLowOffer, IsReady, SealedOpen, SealerSo, nonce_to, nonces_to}
use Rattle.proof_hearing.specs.Hearing.{Point}
use Rattle.proof_hearing.proofs.Alike.{Alike, here_node, other_node, same_alike}
use Rattle.proof_hearing.proofs.BooksGo.{books_on, books_one, giver_on, sealer_on, sealers_at}
use Rattle.proof_hearing.proofs.Putting.{giver_here, giver_other, sealers_stay, with_giver_book, with_sealer_book}
use Rattle.proof_hearing.proofs.Wanted.{last, message}

-- ---- by what a payload is

get_differs : (payload : List ℕ) → IsOther payload → bytes_eq payload nonce_get ≡ false
get_differs [] other = refl
get_differs (x ∷ rest) other = ap (λ (b : Bool). b && bytes_eq rest (0x40 ∷ [])) other

pub begins_not : (payload : List ℕ) (command : ℕ) → IsOther payload → begins_with payload 0x98 command ≡ false
begins_not payload command other = first_differs (nat_le 2 (length payload)) (slice_index payload 0 == 0x98) (slice_index payload 1 == command) other

pub begins_so : (command : ℕ) (rest : List ℕ) → begins_with (0x98 ∷ command ∷ rest) 0x98 command ≡ true
begins_so command rest =
    ap₂ (λ (a b : Bool). a && true && b) (le-leb 2 (length (0x98 ∷ command ∷ rest)) (omega arith)) (eq-eqb command command refl)

pub begins_else : (command other : ℕ) (rest : List ℕ) → (command == other) ≡ false → begins_with (0x98 ∷ command ∷ rest) 0x98 other ≡ false
begins_else command other rest is = second_differs (nat_le 2 (length (0x98 ∷ command ∷ rest))) true (command == other) is

sealed_is : (keys_are : List ℕ) (own nonce text : List ℕ) (node : ℕ) → (rest : List ℕ) × (sealed_text (keys_of keys_are) own nonce (record { sender = controller; receiver = node }) text ≡ 0x98 ∷ 0x81 ∷ rest)
unfolding sealed_text
sealed_is keys_are own nonce text node = (_, refl)

module _ (key : List ℕ) (taken : List Entry → Carried → List Told) (past later : List Entry) (h : HostState) (course : Course) (books : BooksSo key (heeds_alone taken) past h course) where
  abbrev heeds : Heeds
  heeds = heeds_alone taken

  -- the books go together after it, and it may be sent
  pub record Sent (g : HostState) (unit : List ℕ) : Type 0 where
    pub books_go : BooksSo key heeds later g (sends heeds past unit course)
    pub may : may_be_sent heeds past unit course ≡ true

  -- by what it carries
  sent_by : (g : HostState) (unit : List ℕ) (carried : List Carried) (next : Course) → sending_in unit ≡ carried → each_in_turn (sends_carried heeds past) carried course ≡ next
      → list_all (may_carry heeds past course) carried ≡ true → BooksSo key heeds later g next → Sent g unit
  sent_by g unit carried next is goes may so = record {
    books_go = subst (λ (c : Course). BooksSo key heeds later g c) (sym (ap (λ (l : List Carried). each_in_turn (sends_carried heeds past) l course) is ∙ goes)) so;
    may = ap (λ (l : List Carried). list_all (may_carry heeds past course) l) is ∙ may;
  }

  abbrev Queue_same : HostState → Type 0
  Queue_same g = (m : ℕ) → nonces_to m g.requests.queue ≡ nonces_to m h.requests.queue

  abbrev LateOn : Type 0
  LateOn = (m : ℕ) → IsNode m → is_late heeds past m ≡ true → is_late heeds later m ≡ true

  -- a payload of another class changes nothing
  other_sends : (m : ℕ) (payload : List ℕ) → IsOther payload → sends_carried heeds past (record { node = m; payload = payload }) course ≡ course
  other_sends m payload other =
      ap (λ (b : Bool). if b then asks_nonce heeds past m course else (if begins_with payload 0x98 0x80 then shows_nonce (record { node = m; payload = payload }) course
      else (if begins_with payload 0x98 0x81 then uses_nonce (record { node = m; payload = payload }) course else course))) (get_differs payload other)
      ∙ ap (λ (b : Bool). if b then shows_nonce (record { node = m; payload = payload }) course
      else (if begins_with payload 0x98 0x81 then uses_nonce (record { node = m; payload = payload }) course else course)) (begins_not payload 0x80 other)
      ∙ ap (λ (b : Bool). if b then uses_nonce (record { node = m; payload = payload }) course else course) (begins_not payload 0x81 other)

  may_by : (m : ℕ) (payload : List ℕ) (a b : Bool) → begins_with payload 0x98 0x80 ≡ a → begins_with payload 0x98 0x81 ≡ b
      → (not (a && are_none (giver_of m course).offers) && not (b && (are_none (sealer_of m course).ready || is_late heeds past m))) ≡ true
      → list_all (may_carry heeds past course) (record { node = m; payload = payload } ∷ []) ≡ true
  may_by m payload a b first second is =
      ap (λ (c : Bool). c && true)
      (ap₂ (λ (x y : Bool). not (x && are_none (giver_of m course).offers) && not (y && (are_none (sealer_of m course).ready || is_late heeds past m))) first second ∙ is)

  other_may : (m : ℕ) (payload : List ℕ) → IsOther payload → list_all (may_carry heeds past course) (record { node = m; payload = payload } ∷ []) ≡ true
  other_may m payload other = may_by m payload false false (begins_not payload 0x80 other) (begins_not payload 0x81 other) refl

  -- nothing of it is seen in the books
  still : (g : HostState) → g.nonces ≡ h.nonces → Queue_same g → ((m : ℕ) → IsNode m → Alike (node_of h m) (node_of g m)) → g.commands ≡ h.commands → LateOn → BooksSo key heeds later g course
  still g nonces queue alike orders late =
      books_on key heeds past later h course.books course.offered course.opened course.sealed books g nonces queue alike (λ number taken found. ap (λ (l : List Command). taken_at l number) orders ∙ found) late

  abbrev same : (m : ℕ) → Alike (node_of h m) (node_of h m)
  same m = record { seen = refl; text = refl; pending = refl; opened = refl; commands = refl }

  -- ---- an abort, and tasks

  pub abort_sent : (unit : List ℕ) → sending_in unit ≡ [] → LateOn → Sent (after h Submits_abort) unit
  abort_sent unit is late = sent_by (after h Submits_abort) unit [] course is refl refl (still (after h Submits_abort) refl (λ m. refl) (λ m is_m. same m) refl late)

  module _ (first : Task) (rest : List Task) (queue : h.requests.queue ≡ first ∷ rest) (unit : List ℕ) (late : LateOn) where
    abbrev g : HostState
    g = after h Submits_front

    left_so : g.requests.queue ≡ rest
    left_so = ap (λ (l : List Task). (task_begun h.requests l).queue) queue

    -- a task that gives no nonce
    quiet_front : ((m : ℕ) → nonce_to m first ≡ []) → (carried : List Carried) → sending_in unit ≡ carried → each_in_turn (sends_carried heeds past) carried course ≡ course
        → list_all (may_carry heeds past course) carried ≡ true → Sent g unit
    quiet_front none carried is goes may =
        sent_by g unit carried course is goes may
        (still g refl
        (λ m. ap (nonces_to m) left_so ∙ sym (ap (nonces_to m) queue ∙ ap (λ (l : List (List ℕ)). l ++ nonces_to m rest) (none m))) (λ m is_m. same m) refl late)

    other_front : ((m : ℕ) → nonce_to m first ≡ []) → (n : ℕ) (payload : List ℕ) → IsOther payload → sending_in unit ≡ record { node = n; payload = payload } ∷ [] → Sent g unit
    other_front none n payload other is = quiet_front none (record { node = n; payload = payload } ∷ []) is (other_sends n payload other) (other_may n payload other)

    -- a Nonce Report
    module _ (n : ℕ) (nonce : List ℕ) (is_node : IsNode n) (first_is : first ≡ task.Offer n nonce) where
      giver : Giver
      giver = (book_of n course.books).giver

      abbrev offer : ℕ → Offer
      offer number = record { node = n; number = number; nonce = nonce }

      abbrev shown : ℕ → List ℕ → Course
      shown number more = with_giver n (record (giver_of n course) { offers = more }) (record course { offered = course.offered ++ offer number ∷ [] })

      waits_so : nonces_to n h.requests.queue ≡ nonce ∷ nonces_to n rest
      waits_so =
          ap (nonces_to n) queue ∙ ap (λ (t : Task). nonce_to n t ++ nonces_to n rest) first_is ∙ ap (λ (b : Bool). (if b then nonce ∷ [] else []) ++ nonces_to n rest) (eq-eqb n n refl)

      others_so : (m : ℕ) → (n ≡ m → ⊥) → nonces_to m g.requests.queue ≡ nonces_to m h.requests.queue
      others_so m other =
          ap (nonces_to m) left_so
          ∙ sym (ap (nonces_to m) queue ∙ ap (λ (t : Task). nonce_to m t ++ nonces_to m rest) first_is ∙ ap (λ (b : Bool). (if b then nonce ∷ [] else []) ++ nonces_to m rest) (ne_eqb n m other))

      -- the number that was offered first
      record IsFirst : Type 0 where
        number : ℕ
        more : List ℕ
        offers : (giver_of n course).offers ≡ number ∷ more
        is : nonce ≡ nonce_with books.drawn n number
        left : nonces_to n rest ≡ map (nonce_with books.drawn n) more
        low : number ≤ given_of h.nonces n
        low_more : AllByRecursion (λ k. k ≤ given_of h.nonces n) more

      first_offer : IsFirst
      first_offer = by (giver_of n course).offers refl (sym waits_so ∙ (books.givers n is_node).offers) (books.givers n is_node).low
        where
          heads : (a b : List ℕ) (l m : List (List ℕ)) → a ∷ l ≡ b ∷ m → (a ≡ b) × (l ≡ m)
          heads a b l m is = (cc, cc)

          by : (offers : List ℕ) → (giver_of n course).offers ≡ offers → nonce ∷ nonces_to n rest ≡ map (nonce_with books.drawn n) offers → AllByRecursion (λ k. k ≤ given_of h.nonces n) offers → IsFirst
          by [] are is low = absurd (let bad : nonce ∷ nonces_to n rest ≡ [] = is in cc)
          by (number ∷ more) are is low =
              let (head, tail) = heads nonce (nonce_with books.drawn n number) (nonces_to n rest) (map (nonce_with books.drawn n) more) is in
              record { number = number; more = more; offers = are; is = head; left = tail; low = low.0; low_more = low.1 }

      it : IsFirst
      it = first_offer

      shows : sends_carried heeds past (record { node = n; payload = nonce_report nonce }) course ≡ shown it.number it.more
      shows =
          ap (λ (b : Bool). if b then shows_nonce (record { node = n; payload = nonce_report nonce }) course
          else (if begins_with (nonce_report nonce) 0x98 0x81 then uses_nonce (record { node = n; payload = nonce_report nonce }) course else course)) (begins_so 0x80 nonce)
          ∙ ap (λ (l : List ℕ). with_giver n (record (giver_of n course) { offers = drop 1 l }) (record course { offered = course.offered ++ map offer (take 1 l) })) it.offers

      givers_go : (m : ℕ) → IsNode m → GiverSo books.drawn m g (book_of m (with_giver_book n (record (giver_of n course) { offers = it.more }) course.books)).giver
      givers_go m is = elim (cases_eq n m) [
        | inl at ↦ subst (λ (k : ℕ). GiverSo books.drawn k g (book_of k (with_giver_book n (record (giver_of n course) { offers = it.more }) course.books)).giver) at
            (subst (λ (b : Book). GiverSo books.drawn n g b.giver) (sym (giver_here n (record (giver_of n course) { offers = it.more }) course.books)) here)
        | inr other ↦ subst (λ (b : Book). GiverSo books.drawn m g b.giver) (sym (giver_other m n (record (giver_of n course) { offers = it.more }) course.books other))
            (giver_on books.drawn m h g (book_of m course.books).giver refl (others_so m other) (books.givers m is))
      ]
        where
          here : GiverSo books.drawn n g (record (giver_of n course) { offers = it.more })
          here = record {
            given = (books.givers n is_node).given;
            live = (books.givers n is_node).live;
            offers = ap (nonces_to n) left_so ∙ it.left;
            low = it.low_more;
          }

      shown_books : BooksSo key heeds later g (shown it.number it.more)
      shown_books = record {
        drawn = books.drawn;
        seven = books.seven;
        live = books.live;
        givers = givers_go;
        sealers = λ m is. subst (SealerSo key heeds later m g) (sym (sealers_stay m n (record (giver_of n course) { offers = it.more }) course.books))
            (sealer_on key heeds past later m h g (book_of m course.books).sealer (same m) (λ number taken found. found) (late m is) (books.sealers m is));
        were_offered = all-append (IsLowOffer books.drawn h.nonces) course.offered (offer it.number ∷ []) books.were_offered (record { is = it.is; low = it.low }, tt);
        were_opened = books.were_opened;
        were_sealed = books.were_sealed;
      }

      pub offer_sent : sending_in unit ≡ record { node = n; payload = nonce_report nonce } ∷ [] → Sent g unit
      offer_sent is =
          sent_by g unit (record { node = n; payload = nonce_report nonce } ∷ []) (shown it.number it.more) is shows
          (may_by n (nonce_report nonce) true false (begins_so 0x80 nonce) (begins_else 0x80 0x81 nonce refl)
          (ap (λ (l : List ℕ). not (true && are_none l) && not (false && (are_none (sealer_of n course).ready || is_late heeds past n))) it.offers)) shown_books

    -- whatever the task is
    abbrev pub OffersNode : Task → Type 0
    OffersNode (task.Offer n nonce) = IsNode n
    OffersNode t = Unit {0}

    pub front_sent : (id : ℕ) (t : Task) → first ≡ t → AsksOther t → OffersNode t → sending_in unit ≡ carried_by (Housekeeping t) id → Sent g unit
    front_sent id (task.Plain n payload) first_is other is_node is = other_front (λ m. ap (nonce_to m) first_is) n payload other is
    front_sent id (task.Offer n nonce) first_is other is_node is = offer_sent n nonce is_node first_is is
    front_sent id (task.Segment n payload) first_is other is_node is = other_front (λ m. ap (nonce_to m) first_is) n payload other is
    front_sent id (task.NoMore n) first_is other is_node is = other_front (λ m. ap (nonce_to m) first_is) n (132 ∷ 8 ∷ []) refl is
    front_sent id (task.First n) first_is other is_node is = quiet_front (λ m. ap (nonce_to m) first_is) [] is refl refl
    front_sent id (task.Second n) first_is other is_node is = quiet_front (λ m. ap (nonce_to m) first_is) [] is refl refl
    front_sent id task.Members first_is other is_node is = quiet_front (λ m. ap (nonce_to m) first_is) [] is refl refl
    front_sent id (task.Neighbours n) first_is other is_node is = quiet_front (λ m. ap (nonce_to m) first_is) [] is refl refl
    front_sent id (task.IsFailed n) first_is other is_node is = quiet_front (λ m. ap (nonce_to m) first_is) [] is refl refl
    front_sent id task.Version first_is other is_node is = quiet_front (λ m. ap (nonce_to m) first_is) [] is refl refl
    front_sent id task.MemoryId first_is other is_node is = quiet_front (λ m. ap (nonce_to m) first_is) [] is refl refl
    front_sent id task.Capabilities first_is other is_node is = quiet_front (λ m. ap (nonce_to m) first_is) [] is refl refl

  -- ---- a part of an attempt

  module _ (n : ℕ) (point : Point key heeds past n h) (is_node : IsNode n) (unit : List ℕ) (late : (m : ℕ) → IsNode m → (m ≡ n → ⊥) → is_late heeds past m ≡ true → is_late heeds later m ≡ true) where
    place : n < length h.nodes
    place = omega (arith, point.ties.facts.host.nodes.places, is_node.1)

    facts : NodeFacts (node_of h n)
    facts = point.ties.facts.host.nodes.facts n

    so : SealerSo key heeds past n h (sealer_of n course)
    so = books.sealers n is_node

    some_of : {A : Type 0} (x y : A) → Some x ≡ Some y → x ≡ y
    some_of x y e = cc

    no_some : {A : Type 0} (x : A) → ◌≡◌ {A = Option A} None (Some x) → ⊥
    no_some x e = cc

    -- the host with the request under way
    abbrev asking : Bool → List ℕ → HostState
    asking more payload = record (submits h (Attempt n more payload) (BeginsAttempt n more payload)) { served = n }

    others_go : (g : HostState) → ((m : ℕ) → (m ≡ n → ⊥) → node_of g m ≡ node_of h m) → g.commands ≡ h.commands → (m : ℕ) → IsNode m → (m ≡ n → ⊥) → SealerSo key heeds later m g (book_of m course.books).sealer
    others_go g stay orders m is other =
        sealer_on key heeds past later m h g (book_of m course.books).sealer (same_alike (node_of h m) (node_of g m) (stay m other)) (λ number taken found. ap (λ (l : List Command). taken_at l number) orders ∙ found)
        (late m is other) (books.sealers m is)

    -- ---- one that is not sealed

    -- its session is not carried sealed
    not_sealed : (plan : Plan) (more : Bool) (payload : List ℕ) (start : IsStart h n plan more payload) → (form_of start.command.carriage.outer ≡ in_seal → ⊥) → SealedOpen h n → ⊥
    not_sealed plan more payload start other open_so =
        let session : open_so.session ≡ start.session = some_of open_so.session start.session (sym open_so.opened ∙ start.opened) in
        let number : open_so.number ≡ start.carried.0 =
        some_of open_so.number start.carried.0 (sym open_so.at ∙ ap (λ (k : ℕ). command_of_session (node_of h n).book.commands k) session ∙ start.carried.1) in
        let taken_is : open_so.taken ≡ record { order = start.command.order; carriage = start.command.carriage } =
        some_of open_so.taken (record { order = start.command.order; carriage = start.command.carriage })
        (sym open_so.found ∙ ap (λ (k : ℕ). taken_at h.commands k) number ∙ ap taken_by start.carried.2) in
        other (ap (λ (t : Taken). form_of t.carriage.outer) (sym taken_is) ∙ open_so.form)

    open_sealer : (g : HostState) → Alike (node_of h n) (node_of g n) → (SealedOpen h n → ⊥) → SealerSo key heeds later n g (sealer_of n course)
    open_sealer g alike other = record {
      seen = so.seen ∙ sym alike.seen;
      texts = record { text = λ t at. so.texts.text t (sym alike.text ∙ at); pending = λ p at. so.texts.pending p (sym alike.pending ∙ at) };
      waits = λ none. on (so.waits (sym alike.pending ∙ none));
    }
      where
        on : ((sealer_of n course).pending ≡ []) ⊎ ((is_late heeds past n ≡ true) × SealedOpen h n) → ((sealer_of n course).pending ≡ []) ⊎ ((is_late heeds later n ≡ true) × SealedOpen g n)
        on (inl is) = inl is
        on (inr (is, open_so)) = absurd (other open_so)

    other_part : (g : HostState) (payload : List ℕ) → IsOther payload → sending_in unit ≡ record { node = n; payload = payload } ∷ [] → g.nonces ≡ h.nonces → Queue_same g
        → ((m : ℕ) → (m ≡ n → ⊥) → node_of g m ≡ node_of h m) → g.commands ≡ h.commands → SealerSo key heeds later n g (sealer_of n course) → Sent g unit
    other_part g payload other is nonces queue stay orders this =
        sent_by g unit (record { node = n; payload = payload } ∷ []) course is (other_sends n payload other) (other_may n payload other)
        (books_one key heeds past later h course.books course.offered course.opened course.sealed books g n nonces queue (others_go g stay orders) this)

    segments_not : (plan : Plan) (plain : List ℕ) (count : ℕ) → plan ≡ Segments count → plan ≡ Sealed plain → ⊥
    segments_not plan plain count is is_sealed = let bad : ◌≡◌ {A = Plan} (Segments count) (Sealed plain) = sym is ∙ is_sealed in cc

    start_alike : (plan : Plan) → ((plain : List ℕ) → plan ≡ Sealed plain → ⊥) → Alike (node_of h n) (after_start (node_of h n) plan)
    start_alike Whole other = record { seen = refl; text = refl; pending = refl; opened = refl; commands = refl }
    start_alike (Segments count) other = record { seen = refl; text = refl; pending = refl; opened = refl; commands = refl }
    start_alike (Sealed plain) other = absurd (other plain refl)

    module _ (plan : Plan) (more : Bool) (payload : List ℕ) (start : IsStart h n plan more payload) where
      abbrev started : HostState
      started = after h (Starts n plan more payload)

      stay : (m : ℕ) → (m ≡ n → ⊥) → node_of started m ≡ node_of h m
      stay m other = other_node (asking more payload) n (node_starts plan) m other

      here : node_of started n ≡ after_start (node_of h n) plan
      here = here_node (asking more payload) n (node_starts plan) place

      plainly : (f : Form) → form_of start.command.carriage.outer ≡ f → (f ≡ in_seal → ⊥) → ((plain : List ℕ) → plan ≡ Sealed plain → ⊥) → IsOther payload
          → sending_in unit ≡ record { node = n; payload = payload } ∷ [] → Sent started unit
      plainly f form_is other not_plan is_other is =
          other_part started payload is_other is refl (λ m. refl) stay refl
          (open_sealer started (subst (Alike (node_of h n)) (sym here) (start_alike plan not_plan))
          (not_sealed plan more payload start (λ sealed_form. other (sym form_is ∙ sealed_form))))

      -- with a Nonce Get
      module _ (plain : List ℕ) (plan_is : plan ≡ Sealed plain) (payload_is : payload ≡ nonce_get) (plain_is : plain ≡ message_for start.command start.session) (due : (node_of h n).series ≡ Due) where
        abbrev asked : Sealer
        asked = record { seen = (sealer_of n course).seen; pending = plain ∷ []; ready = [] }

        pending_is : map (λ (command : ℕ). (session_of listing_heard past n command).message) (last_command n past) ≡ plain ∷ []
        pending_is =
            ap (map (λ (command : ℕ). (session_of listing_heard past n command).message)) (last past h point.ties point.carried n start.session start.carried.0 start.command start.opened start.carried.1 start.carried.2)
            ∙ ap (λ (m : List ℕ). m ∷ []) (message past h point.ties point.carried n start.session start.carried.0 start.command start.opened start.carried.1 start.carried.2 ∙ sym plain_is)

        asks : sends_carried heeds past (record { node = n; payload = payload }) course ≡ with_sealer n asked course
        asks =
            ap (λ (p : List ℕ). sends_carried heeds past (record { node = n; payload = p }) course) payload_is
            ∙ ap (λ (l : List (List ℕ)). with_sealer n (record { seen = (sealer_of n course).seen; pending = l; ready = [] }) course) pending_is

        no_text : (node_of h n).text ≡ None
        no_text = by (node_of h n).series due facts.series
          where
            by : (series : Series) → series ≡ Due
                → SeriesFacts series (node_of h n).book (node_of h n).attempt_wait (node_of h n).again_wait (node_of h n).next_segment (node_of h n).segments (node_of h n).text (node_of h n).pending
                → (node_of h n).text ≡ None
            by Due is f = f.2.no_text
            by Idle is f = f.1.no_text
            by Running is f = absurd (let bad : ◌≡◌ {A = Series} Running Due = is in cc)

        now : node_of started n ≡ after_start (node_of h n) (Sealed plain)
        now = here ∙ ap (after_start (node_of h n)) plan_is

        asked_sealer : SealerSo key heeds later n started asked
        asked_sealer = record {
          seen = so.seen ∙ sym (ap (λ (s : NodeState). s.seen) now);
          texts = record {
            text = λ t at. absurd (no_some t (sym no_text ∙ sym (ap (λ (s : NodeState). s.text) now) ∙ at));
            pending = λ p at. ap (λ (l : List ℕ). l ∷ []) (some_of plain p (sym (ap (λ (s : NodeState). s.pending) now) ∙ at));
          };
          waits = λ none. absurd (no_some plain (sym none ∙ ap (λ (s : NodeState). s.pending) now));
        }

        sealed_start : sending_in unit ≡ record { node = n; payload = payload } ∷ [] → Sent started unit
        sealed_start is =
            sent_by started unit (record { node = n; payload = payload } ∷ []) (with_sealer n asked course) is asks
            (ap (λ (p : List ℕ). list_all (may_carry heeds past course) (record { node = n; payload = p } ∷ [])) payload_is
            ∙ may_by n nonce_get false false (begins_else 0x40 0x80 [] refl) (begins_else 0x40 0x81 [] refl) refl)
            (sealers_at key heeds past later h course.books course.offered course.opened course.sealed books started n asked refl (λ m. refl) (λ m is other. others_go started stay refl m is other) asked_sealer)

      -- by how its message is carried
      starts_by : (f : Form) → form_of start.command.carriage.outer ≡ f → plan ≡ (start_by f start.session (message_for start.command start.session)).plan
          → payload ≡ (start_by f start.session (message_for start.command start.session)).payload → (node_of h n).series ≡ Due → sending_in unit ≡ record { node = n; payload = payload } ∷ [] → Sent started unit
      starts_by whole form_is plan_is payload_is due is =
          plainly whole form_is (λ (bad : ◌≡◌ {A = Form} whole in_seal). cc) (λ plain is_sealed. let bad : ◌≡◌ {A = Plan} Whole (Sealed plain) = sym plan_is ∙ is_sealed in cc)
          (subst IsOther (sym payload_is) (message_other start.command.carriage start.command.order start.session)) is
      starts_by Cut form_is plan_is payload_is due is =
          plainly Cut form_is (λ (bad : ◌≡◌ {A = Form} Cut in_seal). cc) (λ plain is_sealed. segments_not plan plain (segment_count (message_for start.command start.session)) plan_is is_sealed)
          (subst IsOther (sym payload_is)
          (segment_other (start.session % 16) (length (message_for start.command start.session)) (39 * 0) (slice_at (message_for start.command start.session) 0))) is
      starts_by in_seal form_is plan_is payload_is due is = sealed_start (message_for start.command start.session) plan_is payload_is refl due is

      pub start_sent : (node_of h n).series ≡ Due → sending_in unit ≡ record { node = n; payload = payload } ∷ [] → Sent started unit
      start_sent due is = starts_by (form_of start.command.carriage.outer) refl start.plan_is start.payload_is due is

    -- ---- the sealed text

    module _ (payload : List ℕ) (text_is : (node_of h n).text ≡ Some payload) (on_time : is_late heeds past n ≡ true → (node_of h n).text ≡ None) where
      abbrev given : HostState
      given = after h (Gives_text n payload)

      ready_is : IsReady key n (sealer_of n course) payload
      ready_is = so.texts.text payload text_is

      not_late : is_late heeds past n ≡ false
      not_late = false_from_ne_true (is_late heeds past n) (λ is. no_some payload (sym (on_time is) ∙ text_is))

      form_so : (rest : List ℕ) × (payload ≡ 0x98 ∷ 0x81 ∷ rest)
      form_so = let (rest, is) = sealed_is key ready_is.seal.own ready_is.one.nonce ready_is.one.text n in (rest, ready_is.seal.text ∙ is)

      abbrev used : Course
      used = with_sealer n (record (sealer_of n course) { ready = [] }) (record course { sealed = course.sealed ++ record { node = n; ready = ready_is.one; payload = payload } ∷ [] })

      get_not : bytes_eq payload nonce_get ≡ false
      get_not = ap (λ (p : List ℕ). bytes_eq p nonce_get) form_so.1

      report_not : begins_with payload 0x98 0x80 ≡ false
      report_not = ap (λ (p : List ℕ). begins_with p 0x98 0x80) form_so.1 ∙ begins_else 0x81 0x80 form_so.0 refl

      text_so : begins_with payload 0x98 0x81 ≡ true
      text_so = ap (λ (p : List ℕ). begins_with p 0x98 0x81) form_so.1 ∙ begins_so 0x81 form_so.0

      uses : sends_carried heeds past (record { node = n; payload = payload }) course ≡ used
      uses =
          ap (λ (b : Bool). if b then asks_nonce heeds past n course else (if begins_with payload 0x98 0x80 then shows_nonce (record { node = n; payload = payload }) course
          else (if begins_with payload 0x98 0x81 then uses_nonce (record { node = n; payload = payload }) course else course))) get_not
          ∙ ap (λ (b : Bool). if b then shows_nonce (record { node = n; payload = payload }) course
          else (if begins_with payload 0x98 0x81 then uses_nonce (record { node = n; payload = payload }) course else course)) report_not
          ∙ ap (λ (b : Bool). if b then uses_nonce (record { node = n; payload = payload }) course else course) text_so
          ∙ ap (λ (l : List Ready). with_sealer n (record (sealer_of n course) { ready = [] })
          (record course { sealed = course.sealed ++ map (λ (ready : Ready). record { node = n; ready = ready; payload = payload }) l })) ready_is.is

      text_may : list_all (may_carry heeds past course) (record { node = n; payload = payload } ∷ []) ≡ true
      text_may =
          may_by n payload false true report_not text_so
          (ap₂ (λ (l : List Ready) (b : Bool). not (false && are_none (giver_of n course).offers) && not (true && (are_none l || b))) ready_is.is not_late)

      stays : (m : ℕ) → (m ≡ n → ⊥) → node_of given m ≡ node_of h m
      stays m other = other_node (asking false payload) n node_gives_text m other

      at : node_of given n ≡ after_text (node_of h n)
      at = here_node (asking false payload) n node_gives_text place

      none : (node_of h n).pending ≡ None
      none = none_pending (node_of h n) payload facts text_is

      used_sealer : SealerSo key heeds later n given (record (sealer_of n course) { ready = [] })
      used_sealer = record {
        seen = so.seen ∙ sym (ap (λ (s : NodeState). s.seen) at);
        texts = record {
          text = λ t is. absurd (no_some t (sym (ap (λ (s : NodeState). s.text) at) ∙ is));
          pending = λ p is. absurd (no_some p (sym none ∙ sym (ap (λ (s : NodeState). s.pending) at) ∙ is));
        };
        waits = λ now. on (so.waits none);
      }
        where
          on : ((sealer_of n course).pending ≡ []) ⊎ ((is_late heeds past n ≡ true) × SealedOpen h n) → ((sealer_of n course).pending ≡ []) ⊎ ((is_late heeds later n ≡ true) × SealedOpen given n)
          on (inl is) = inl is
          on (inr (is, open_so)) = absurd (both_ways (is_late heeds past n) not_late is)

      pub text_sent : sending_in unit ≡ record { node = n; payload = payload } ∷ [] → Sent given unit
      text_sent is = sent_by given unit (record { node = n; payload = payload } ∷ []) used is uses text_may (more_sealed used_books)
        where
          used_books : BooksOf key heeds later given (with_sealer_book n (record (sealer_of n course) { ready = [] }) course.books) course.offered course.opened course.sealed
          used_books =
              sealers_at key heeds past later h course.books course.offered course.opened course.sealed books given n (record (sealer_of n course) { ready = [] }) refl (λ m. refl)
              (λ m is other. others_go given stays refl m is other) used_sealer

          more_sealed : BooksOf key heeds later given (with_sealer_book n (record (sealer_of n course) { ready = [] }) course.books) course.offered course.opened course.sealed → BooksSo key heeds later given used
          more_sealed b = record {
            drawn = b.drawn;
            seven = b.seven;
            live = b.live;
            givers = b.givers;
            sealers = b.sealers;
            were_offered = b.were_offered;
            were_opened = b.were_opened;
            were_sealed = all-append (IsSeal key) course.sealed (record { node = n; ready = ready_is.one; payload = payload } ∷ []) b.were_sealed (ready_is.seal, tt);
          }

    -- ---- a segment

    pub segment_sent : (more : Bool) (payload : List ℕ) → IsOther payload → (is_late heeds past n ≡ true → is_late heeds later n ≡ true) → sending_in unit ≡ record { node = n; payload = payload } ∷ []
        → Sent (after h (Gives_segment n more payload)) unit
    segment_sent more payload other late_here is =
        other_part (after h (Gives_segment n more payload)) payload other is refl (λ m. refl) (λ m apart. other_node (asking more payload) n node_gives_segment m apart) refl
        (sealer_on key heeds past later n h (after h (Gives_segment n more payload)) (sealer_of n course)
        (subst (Alike (node_of h n)) (sym (here_node (asking more payload) n node_gives_segment place)) (record { seen = refl; text = refl; pending = refl; opened = refl; commands = refl })) (λ number taken found. found) late_here so)
