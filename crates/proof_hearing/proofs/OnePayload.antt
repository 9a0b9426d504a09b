-- What a payload of a node makes of the course, event by event: each event has noted what the course notes next, and the rest is what the course makes of the messages that are left.
use Rattle.std.proofs.Common.{◌≡◌, ◌≤◌, ℕ, ◌+◌, ◌-◌, ◌%◌, ◌==◌, ◌&&◌, Bool, true, false, if◌then◌else◌, inl, inr, List, [], ◌∷◌, ◌++◌, length, refl, sym, ap, ◌∙◌, subst, append-nil, append_assoc}
use Rattle.std.specs.Prelude.{Option, Some, None, is_some, nat_le, nat_lt, slice_index}
use Rattle.std.specs.List.{AllByRecursion}
use Rattle.std.proofs.lemmas.Bool.{eqb-true, leb-true}
use Rattle.zw_base.specs.declared.property.Setting.{Setting}
use Rattle.chip_functions.specs.Field.{IsNode}
use Rattle.s0_crypto.specs.Opening.{sender_nonce_in}
use Rattle.s0_crypto.specs.Seal.{Seals}
use Rattle.s0_crypto.specs.Sealing.{unsealed_at}
use Rattle.s0_crypto.specs.declared.key_pair.Keys.{Keys}
use Rattle.s0_session.specs.Nonces.{live_of}
use Rattle.value_store.specs.Values.{count_with}
use Rattle.zw_text.specs.declared.entry.Entry.{Entry}
use Rattle.zw_text.specs.declared.entry.Entry.TheVariants as entry
use Rattle.law_transcript.specs.Units.{Carried}
use Rattle.law_time.specs.Heeds.{Heeds}
use Rattle.host_heard.specs.Telling.{heard_at}
use Rattle.host_heard.specs.declared.payload.Heard.{Heard}
use Rattle.host_heard.specs.declared.payload.Heard.TheVariants.{Messages, Sealed, Unread}
use Rattle.host_heard.specs.declared.told.Told.{Told}
use Rattle.host_heard.specs.declared.told.Told.TheVariants.{Values}
use Rattle.host_model.specs.State.{HostState}
use Rattle.host_model.specs.After.{after, spending}
use Rattle.host_model.specs.Did.{after_all}
use Rattle.host_model.specs.Events.{HostEvent, Has_no_room, Hears_value, Is_unkept, Spends, Spends_unread, Unreads}
use Rattle.host_model.specs.May.{May}
use Rattle.host_model.specs.Outs.{outs}
use Rattle.host_model.specs.Taking.{AreTaken, IsOpened, IsTaken, OpensTo, PayloadEvents, SealedEvents, ends_from, named_by, value_event, value_events}
use Rattle.proof_choice.specs.proof_ends.proof_requests.law_host.Course.{Course, Giver, Opening, book_of, each_in_turn, if_kept, with_giver, with_note}
use Rattle.proof_choice.specs.proof_ends.proof_requests.law_host.Frames.{hears_all, hears_payload, hears_text, names_live, opens}
use Rattle.proof_choice.specs.proof_ends.proof_requests.law_host.Heard.{heeds_alone}
use Rattle.proof_choice.specs.proof_ends.proof_requests.law_host.Messages.{Hearing, hears, hears_value, unread}
use Rattle.proof_choice.specs.proof_ends.proof_requests.law_host.Nonces.{IsOpening, nonce_with}
use Rattle.proof_choice.specs.proof_ends.proof_requests.proof_alone.Steps.{AreTold}
use Rattle.proof_choice.specs.proof_ends.proof_notes.Full.{MessageNotes, hearing_of}
use Rattle.proof_choice.proofs.ByMessage.{IsNoValues, One, note_told, one_message}
use Rattle.proof_choice.specs.proof_giving.proof_queue.Heeding.{heeded_of, heeded_opened, heeded_payload, heeded_sealed, taken_up}
use Rattle.proof_hearing.specs.Books.{BooksSo}
use Rattle.proof_hearing.specs.Hearing.{HeardOne, HearsSo, NoOut, Point, StaysLate, Remaining, Whole, Left, RemainsSo, choosing, else_of, finishes, heeded_rest, waited}
use Rattle.proof_hearing.proofs.BooksGo.{books_spend, none_live}
use Rattle.proof_hearing.proofs.OneMessage.{Noted, account, message_one, message_quiet, same_host, still_books, value_so}
use Rattle.proof_hearing.proofs.Unsealing.{shut_so, unsealed_so}

first_is : (event one : HostEvent) (left rest : List HostEvent) → event ∷ left ≡ one ∷ rest → (event ≡ one) × (left ≡ rest)
first_is event one left rest is = (cc, cc)

some_none : (event : HostEvent) (left : List HostEvent) → event ∷ left ≡ [] → ⊥
some_none event left is = cc

two_one : (a b one : HostEvent) (more : List HostEvent) → a ∷ b ∷ more ≡ one ∷ [] → ⊥
two_one a b one more is = cc

-- by values the host goes in nothing
value_up : (h : HostState) (n : ℕ) (s : Setting) (rest : List HostEvent) (message : Told) → taken_up (value_event h n s ∷ rest) message ≡ []
value_up h n s rest message = by (nat_lt 512 (count_with h.store n (s.property ∷ [])))
  where
    by : (b : Bool) → taken_up ((if b then Has_no_room n s.property else Hears_value n s) ∷ rest) message ≡ []
    by true = refl
    by false = refl

values_up : (h : HostState) (n : ℕ) (settings : List Setting) (message : Told) → taken_up (value_events h n settings) message ≡ []
values_up h n [] message = refl
values_up h n (s ∷ settings) message = value_up h n s (value_events (after h (value_event h n s)) n settings) message

module _ (key : List ℕ) (taken : List Entry → Carried → List Told) (before upto : List Entry) (n : ℕ) (payload : List ℕ) (is_node : IsNode n) where
  abbrev heeds : Heeds
  heeds = heeds_alone taken

  abbrev it : Bool → Hearing
  it sealed = record { heeds = heeds_alone taken; before = before; past = upto; node = n; payload = payload; was_sealed = sealed }

  abbrev PointAt : HostState → Course → Type 0
  PointAt h course = Point key heeds (upto ++ course.due) n h

  abbrev BooksAt : HostState → Course → Type 0
  BooksAt h course = BooksSo key heeds (upto ++ course.due) h course

  abbrev RoomAt : HostState → Course → Type 0
  RoomAt h course = waited (it true) + course.put ≡ length h.requests.queue

  -- these messages are left, by which the host goes so
  abbrev Rests : HostState → HostEvent → Bool → List Told → List HostEvent → Course → List Told → Type 0
  Rests h event sealed more left next total =
      (is : AreTaken (after h event) n payload sealed more left) × (total ≡ next.taken ++ heeded_of (after h event) n payload sealed more left is)

  -- an event has noted this, and the rest is what the course makes of what is left
  record Gone (does : Course → Course) (total : List Told) (h : HostState) (course : Course) (event : HostEvent) (left : List HostEvent) (told : List Entry) : Type 0 where
    sealed : Bool
    more : List Told
    next : Course
    kept : List Bool
    texts : List (Option (List ℕ))
    goes : (keepings : List Bool) (later : List (Option (List ℕ))) → does (choosing (kept ++ keepings) (texts ++ later) course) ≡ each_in_turn (hears (it sealed)) more (choosing keepings later next)
    rests : Rests h event sealed more left next total
    books : BooksSo key heeds ((upto ++ course.due) ++ told) (after h event) next
    room : RoomAt (after h event) next
    due : next.due ≡ course.due ++ told
    other : else_of next ≡ else_of course

  -- ---- messages

  module _ (sealed : Bool) where
    abbrev In_turn : List Told → Course → Course
    In_turn messages course = each_in_turn (hears (it sealed)) messages course

    -- one that nothing follows
    skips : (message : Told) (more : List Told) (total : List Told) (h : HostState) (course : Course) (event : HostEvent) (left : List HostEvent) (told : List Entry)
        → ((keepings : List Bool) (texts : List (Option (List ℕ))) → hears (it sealed) message (choosing keepings texts course) ≡ choosing keepings texts course)
        → Gone (In_turn more) total h course event left told → Gone (In_turn (message ∷ more)) total h course event left told
    skips message more total h course event left told quiet gone = record {
      sealed = gone.sealed;
      more = gone.more;
      next = gone.next;
      kept = gone.kept;
      texts = gone.texts;
      goes = λ keepings later. ap (λ (c : Course). In_turn more c) (quiet (gone.kept ++ keepings) (gone.texts ++ later)) ∙ gone.goes keepings later;
      rests = gone.rests;
      books = gone.books;
      room = gone.room;
      due = gone.due;
      other = gone.other;
    }

    -- what an event makes of the first of some messages, or of a part of it
    begins : (does : Course → Course) (message : Told) (more : List Told) (up : List Told) (h : HostState) (course : Course) (one : HostEvent) (rest : List HostEvent) (told : List Entry)
        → Noted key taken before upto n payload is_node does up course told (after h one) → (total : List Told)
        → (is : AreTaken (after h one) n payload sealed more rest) → total ≡ up ++ heeded_of (after h one) n payload sealed more rest is
        → Gone (λ c. In_turn more (does c)) (course.taken ++ total) h course one rest told
    begins does message more up h course one rest told said total is total_is = record {
      sealed = sealed;
      more = more;
      next = said.next;
      kept = said.kept;
      texts = [];
      goes = λ keepings later. ap (λ (c : Course). In_turn more c) (said.goes keepings later);
      rests = (
        is,
        ap (λ (l : List Told). course.taken ++ l) total_is ∙ sym (append_assoc course.taken up (heeded_of (after h one) n payload sealed more rest is))
            ∙ ap (λ (l : List Told). l ++ heeded_of (after h one) n payload sealed more rest is) (sym said.heeded),
      );
      books = said.books;
      room = said.room;
      due = said.due;
      other = said.other;
    }

    -- for the event that comes
    as_event : (does : Course → Course) (total : List Told) (h : HostState) (course : Course) (event one : HostEvent) (left rest : List HostEvent) (told : List Entry) → event ∷ left ≡ one ∷ rest
        → (AreTold (outs h one) told → May h one → Gone does total h course one rest told) → AreTold (outs h event) told → May h event → Gone does total h course event left told
    as_event does total h course event one left rest told is goes =
        subst (λ (l : List HostEvent). AreTold (outs h event) told → May h event → Gone does total h course event l told) (sym (first_is event one left rest is).1)
        (subst (λ (e : HostEvent). AreTold (outs h e) told → May h e → Gone does total h course e rest told) (sym (first_is event one left rest is).0) goes)

    module _ (h : HostState) (course : Course) (point : PointAt h course) (books : BooksAt h course) (room : RoomAt h course) (event : HostEvent) (left : List HostEvent) (told : List Entry)
        (late : StaysLate heeds n (upto ++ course.due) told) where
      abbrev Total : (messages : List Told) (events : List HostEvent) → AreTaken h n payload sealed messages events → List Told
      Total messages events is = course.taken ++ heeded_of h n payload sealed messages events is

      refuted : (message : Told) (a b : HostEvent) (more : List HostEvent) → IsNoValues message → IsTaken h n payload sealed message (a ∷ b ∷ more) → ⊥
      refuted message a b more other is = by (one_message (upto ++ course.due) h (point.ties) n payload sealed message (a ∷ b ∷ more) other is)
        where
          by : One (MessageNotes (hearing_of n payload sealed) (upto ++ course.due) message) h (a ∷ b ∷ more) → ⊥
          by (inl (none, quiet)) = some_none a (b ∷ more) none
          by (inr (one, are, loud)) = two_one a b one more are

      messages_go : (messages : List Told) (events : List HostEvent) → events ≡ event ∷ left → (is : AreTaken h n payload sealed messages events) → AreTold (outs h event) told → May h event
          → Gone (In_turn messages) (Total messages events is) h course event left told
      messages_go [] events ev is are may = absurd (some_none event left (sym ev ∙ is))
      messages_go (Values [] ∷ more) events ev ([], rest, is, values, others) are may =
          skips (Values []) more (course.taken ++ heeded_of h n payload sealed more rest others) h course event left told (λ keepings texts. refl) (messages_go more rest (sym is ∙ ev) others are may)
      messages_go (Values [] ∷ more) events ev (one ∷ first, rest, is, values, others) are may = absurd (some_none one first values)
      messages_go (Values (s ∷ settings) ∷ more) events ev ([], rest, is, values, others) are may =
          absurd (some_none (value_event h n s) (value_events (after h (value_event h n s)) n settings) (sym values))
      messages_go (Values (s ∷ settings) ∷ more) events ev (one ∷ first, rest, is, values, others) are may =
          let (one_is, first_are) = first_is one (value_event h n s) first (value_events (after h (value_event h n s)) n settings) values in
          let later : first ≡ value_events (after h one) n settings = subst (λ (e : HostEvent). first ≡ value_events (after h e) n settings) (sym one_is) first_are in
          let whole : AreTaken (after h one) n payload sealed (Values settings ∷ more) (first ++ rest) = (first, rest, refl, later, others) in
          let none : taken_up (one ∷ first) (Values (s ∷ settings)) ≡ [] = ap (λ (e : HostEvent). taken_up (e ∷ first) (Values (s ∷ settings))) one_is ∙ value_up h n s first (Values (s ∷ settings)) in
          let none_later : taken_up first (Values settings) ≡ [] = ap (λ (l : List HostEvent). taken_up l (Values settings)) later ∙ values_up (after h one) n settings (Values settings) in
          as_event (In_turn (Values (s ∷ settings) ∷ more)) (Total (Values (s ∷ settings) ∷ more) events (one ∷ first, rest, is, values, others)) h course event one left (first ++ rest) told (sym ev ∙ is)
          (λ are_one may_one.
          begins (hears_value (it sealed) s) (Values (s ∷ settings)) (Values settings ∷ more) [] h course one (first ++ rest) told
          (subst (λ (e : HostEvent). AreTold (outs h e) told → Noted key taken before upto n payload is_node (hears_value (it sealed) s) [] course told (after h e)) (sym one_is)
          (λ these. value_so key taken before upto n payload is_node sealed h course point books room s told these late) are_one)
          (heeded_of h n payload sealed (Values (s ∷ settings) ∷ more) events (one ∷ first, rest, is, values, others)) whole
          (ap (λ (l : List Told). l ++ heeded_of (after_all h (one ∷ first)) n payload sealed more rest others) (none ∙ sym none_later))) are may
      messages_go (message ∷ more) events ev ([], rest, is, quiet, others) are may =
          skips message more (course.taken ++ heeded_of h n payload sealed more rest others) h course event left told
          (message_quiet key taken before upto n payload is_node sealed h course point books room message tt quiet) (messages_go more rest (sym is ∙ ev) others are may)
      messages_go (message ∷ more) events ev (one ∷ [], rest, is, first, others) are may =
          as_event (In_turn (message ∷ more)) (Total (message ∷ more) events (one ∷ [], rest, is, first, others)) h course event one left rest told (sym ev ∙ is)
          (λ are_one may_one.
          begins (hears (it sealed) message) message more (taken_up (one ∷ []) message) h course one rest told
          (message_one key taken before upto n payload is_node sealed h course point books room message tt one told first are_one late may_one)
          (heeded_of h n payload sealed (message ∷ more) events (one ∷ [], rest, is, first, others)) others refl) are may
      messages_go (message ∷ more) events ev (a ∷ b ∷ first, rest, is, these, others) are may = absurd (refuted message a b first tt these)

    -- where no event is left
    messages_over : (h : HostState) (course : Course) → PointAt h course → BooksAt h course → RoomAt h course → (messages : List Told) (events : List HostEvent) → events ≡ []
        → (is : AreTaken h n payload sealed messages events)
        → ((keepings : List Bool) (texts : List (Option (List ℕ))) → In_turn messages (choosing keepings texts course) ≡ choosing keepings texts course)
        × (heeded_of h n payload sealed messages events is ≡ [])
    messages_over h course point books room [] events ev is = ((λ keepings texts. refl), refl)
    messages_over h course point books room (Values [] ∷ more) events ev ([], rest, is, values, others) = messages_over h course point books room more rest (sym is ∙ ev) others
    messages_over h course point books room (Values (s ∷ settings) ∷ more) events ev ([], rest, is, values, others) =
        absurd (some_none (value_event h n s) (value_events (after h (value_event h n s)) n settings) (sym values))
    messages_over h course point books room (message ∷ more) events ev (one ∷ first, rest, is, these, others) = absurd (some_none one (first ++ rest) (sym is ∙ ev))
    messages_over h course point books room (message ∷ more) events ev ([], rest, is, quiet, others) =
        let later = messages_over h course point books room more rest (sym is ∙ ev) others in (
          (λ keepings texts. ap (λ (c : Course). In_turn more c) (message_quiet key taken before upto n payload is_node sealed h course point books room message tt quiet keepings texts) ∙ later.0 keepings texts),
          later.1,
        )

  -- ---- what is sealed

  abbrev giver : Course → Giver
  giver course = (book_of n course.books).giver

  -- it is the last that was given
  live_nonce : (h : HostState) (course : Course) (books : BooksAt h course) (nonce : List ℕ) → live_of h.nonces n ≡ Some nonce → nonce ≡ nonce_with books.drawn n (giver course).given
  live_nonce h course books nonce live = (books.live n nonce live).is ∙ ap (λ (k : ℕ). nonce_with books.drawn n k) (sym (books.givers n is_node).given)

  first_byte : (h : HostState) (course : Course) (books : BooksAt h course) (nonce : List ℕ) → live_of h.nonces n ≡ Some nonce → slice_index nonce 0 ≡ (giver course).given % 256
  first_byte h course books nonce live = ap (λ (l : List ℕ). slice_index l 0) (live_nonce h course books nonce live)

  -- the live nonce is named by the transcript as in the host
  names_so : (h : HostState) (course : Course) → BooksAt h course → names_live payload (giver course) ≡ is_some (named_by payload (live_of h.nonces n))
  names_so h course books = by (live_of h.nonces n) refl
    where
      found : (b : Bool) (nonce : List ℕ) → b ≡ is_some (if b then Some nonce else None)
      found true nonce = refl
      found false nonce = refl

      by : (o : Option (List ℕ)) → live_of h.nonces n ≡ o → names_live payload (giver course) ≡ is_some (named_by payload o)
      by None none =
          ap (λ (b : Bool). b && nat_le 20 (length payload) && (slice_index payload (length payload - 9) == (giver course).given % 256)) ((books.givers n is_node).live ∙ ap (λ (o : Option (List ℕ)). is_some o) none)
      by (Some nonce) live =
          ap (λ (b : Bool). b && nat_le 20 (length payload) && (slice_index payload (length payload - 9) == (giver course).given % 256)) ((books.givers n is_node).live ∙ ap (λ (o : Option (List ℕ)). is_some o) live)
          ∙ ap (λ (k : ℕ). nat_le 20 (length payload) && (slice_index payload (length payload - 9) == k)) (sym (first_byte h course books nonce live))
          ∙ found (nat_le 20 (length payload) && (slice_index payload (length payload - 9) == slice_index nonce 0)) nonce

  -- the nonce that is named is live, and named by the ninth byte from the end
  record IsNamed (h : HostState) (nonce : List ℕ) : Type 0 where
    live : live_of h.nonces n ≡ Some nonce
    long : 20 ≤ length payload
    byte : slice_index payload (length payload - 9) ≡ slice_index nonce 0

  named_is : (h : HostState) (live : Option (List ℕ)) (nonce : List ℕ) → live_of h.nonces n ≡ live → named_by payload live ≡ Some nonce → IsNamed h nonce
  named_is h None nonce live is = absurd (let bad : ◌≡◌ {A = Option (List ℕ)} None (Some nonce) = is in cc)
  named_is h (Some one) nonce live is = by (nat_le 20 (length payload)) (slice_index payload (length payload - 9) == slice_index one 0) refl refl is
    where
      same_some : (a b : List ℕ) → Some a ≡ Some b → a ≡ b
      same_some a b e = cc

      by : (a b : Bool) → nat_le 20 (length payload) ≡ a → (slice_index payload (length payload - 9) == slice_index one 0) ≡ b → (if a && b then Some one else None) ≡ Some nonce → IsNamed h nonce
      by true true long byte is =
          subst (IsNamed h) (same_some one nonce is)
          (record { live = live; long = leb-true 20 (length payload) long; byte = eqb-true (slice_index payload (length payload - 9)) (slice_index one 0) byte })
      by true false long byte is = absurd (let bad : ◌≡◌ {A = Option (List ℕ)} None (Some nonce) = is in cc)
      by false b long byte is = absurd (let bad : ◌≡◌ {A = Option (List ℕ)} None (Some nonce) = is in cc)

  -- the nonce is spent on what the payload opens to
  abbrev opening : Course → Option (List ℕ) → Opening
  opening course text = record { node = n; number = (giver course).given; payload = payload; text = text }

  abbrev spent : Course → Option (List ℕ) → Course
  spent course text = with_giver n (none_live (giver course)) (record course { opened = course.opened ++ opening course text ∷ [] })

  module _ (h : HostState) (course : Course) (point : PointAt h course) (books : BooksAt h course) (room : RoomAt h course) (event : HostEvent) (left : List HostEvent) (told : List Entry)
      (late : StaysLate heeds n (upto ++ course.due) told) where
    abbrev past : List Entry
    past = upto ++ course.due

    abbrev hears_it : Course → Course
    hears_it c = hears_payload (it false) Sealed c

    -- for an event that is all
    alone : (one : HostEvent) (next : Course) (kept : List Bool) (texts : List (Option (List ℕ))) (does : Course → Course) (some : List Entry) → told ≡ some
        → ((keepings : List Bool) (later : List (Option (List ℕ))) → does (choosing (kept ++ keepings) (texts ++ later) course) ≡ choosing keepings later next)
        → BooksSo key heeds (past ++ some) (after h one) next → RoomAt (after h one) next → next.due ≡ course.due ++ some → next.taken ≡ course.taken → else_of next ≡ else_of course
        → Gone does (course.taken ++ []) h course one [] told
    alone one next kept texts does some is goes books_so room_so due heeded other = record {
      sealed = false;
      more = [];
      next = next;
      kept = kept;
      texts = texts;
      goes = goes;
      rests = (refl, ap (λ (l : List Told). l ++ []) (sym heeded));
      books = subst (λ (l : List Entry). BooksSo key heeds (past ++ l) (after h one) next) (sym is) books_so;
      room = room_so;
      due = due ∙ ap (λ (l : List Entry). course.due ++ l) (sym is);
      other = other;
    }

    as_told : (some : List Entry) → told ≡ some → StaysLate heeds n past some
    as_told some is = subst (StaysLate heeds n past) is late

    unread_alone : (does : Course → Course) → ((keepings : List Bool) (later : List (Option (List ℕ))) → does (choosing keepings later course) ≡ unread (it false) (choosing keepings later course))
        → AreTold (outs h (Unreads n payload)) told → Gone does (course.taken ++ []) h course (Unreads n payload) [] told
    unread_alone does goes are =
        let is : told ≡ entry.Unread n payload ∷ [] = note_told (entry.Unread n payload) told are in
        alone (Unreads n payload) (with_note (entry.Unread n payload) course) [] [] does (entry.Unread n payload ∷ []) is goes
        (still_books key taken before upto n payload is_node false h course point books room (entry.Unread n payload ∷ []) h (tt, tt) (as_told (entry.Unread n payload ∷ []) is)
        (same_host key taken before upto n payload is_node false h course point books room)) room refl refl refl

    -- it names no live nonce
    not_named : named_by payload (live_of h.nonces n) ≡ None → (keepings : List Bool) (later : List (Option (List ℕ))) → hears_it (choosing keepings later course) ≡ unread (it false) (choosing keepings later course)
    not_named none keepings later =
        ap (λ (b : Bool). if b then if_kept n (opens (it false)) (choosing keepings later course) else unread (it false) (choosing keepings later course))
        (names_so h course books ∙ ap (λ (o : Option (List ℕ)). is_some o) none)

    -- it names the live one
    module _ (nonce : List ℕ) (named : named_by payload (live_of h.nonces n) ≡ Some nonce) where
      is_named : IsNamed h nonce
      is_named = named_is h (live_of h.nonces n) nonce refl named

      if_opened : (keepings : List Bool) (later : List (Option (List ℕ))) → hears_it (choosing keepings later course) ≡ if_kept n (opens (it false)) (choosing keepings later course)
      if_opened keepings later =
          ap (λ (b : Bool). if b then if_kept n (opens (it false)) (choosing keepings later course) else unread (it false) (choosing keepings later course))
          (names_so h course books ∙ ap (λ (o : Option (List ℕ)). is_some o) named)

      -- what it opens to
      opens_to : (text : Option (List ℕ)) → unsealed_at h.keys nonce (ends_from n) payload ≡ text → IsOpening key books.drawn (opening course text)
      opens_to text is =
          ap (λ (k : Keys). unsealed_at k (nonce_with books.drawn n (giver course).given) (ends_from n) payload) (sym point.same_keys)
          ∙ ap (λ (l : List ℕ). unsealed_at h.keys l (ends_from n) payload) (sym (live_nonce h course books nonce is_named.live)) ∙ is

      plain_so : (plain : List ℕ) → Seals h.keys (sender_nonce_in payload) nonce (ends_from n) plain payload → unsealed_at h.keys nonce (ends_from n) payload ≡ Some plain
      plain_so plain seals = unsealed_so h.keys nonce (ends_from n) payload plain is_named.long is_named.byte seals

      spends_books : (text : Option (List ℕ)) → IsOpening key books.drawn (opening course text) → StaysLate heeds n past told → AllByRecursion NoOut told
          → BooksSo key heeds (past ++ told) (spending h n) (spent course text)
      spends_books text is late quiet =
          books_spend key heeds past (past ++ told) h course.books course.offered course.opened course.sealed books n (opening course text) is_node
          (account key taken before upto n payload is_node false h course point books room) (λ m is_m. late m is_m (λ same. quiet)) refl refl is

      kept_goes : (text : Option (List ℕ)) (keepings : List Bool) (later : List (Option (List ℕ)))
          → hears_it (choosing (true ∷ keepings) (text ∷ later) course) ≡ hears_text (it false) text (choosing keepings later (spent course text))
      kept_goes text keepings later = if_opened (true ∷ keepings) (text ∷ later)

      -- in vain
      vain : (text : Option (List ℕ)) → unsealed_at h.keys nonce (ends_from n) payload ≡ text
          → ((c : Course) → hears_text (it false) text c ≡ unread (it false) c) → AreTold (outs h (Spends_unread n payload)) told → Gone hears_it (course.taken ++ []) h course (Spends_unread n payload) [] told
      vain text is unread_so are =
          let notes : told ≡ entry.Unread n payload ∷ [] = note_told (entry.Unread n payload) told are in
          alone (Spends_unread n payload) (with_note (entry.Unread n payload) (spent course text)) (true ∷ []) (text ∷ []) hears_it told refl
          (λ keepings later. kept_goes text keepings later ∙ unread_so (choosing keepings later (spent course text)))
          (spends_books text (opens_to text is) late (subst (AllByRecursion NoOut) (sym notes) (tt, tt))) room (ap (λ (l : List Entry). course.due ++ l) (sym notes)) refl refl

      unread_plain : (plain : List ℕ) → ((messages : List Told) → heard_at plain ≡ Messages messages → ⊥) → (c : Course) → hears_text (it false) (Some plain) c ≡ unread (it false) c
      unread_plain plain untold c = by (heard_at plain) untold
        where
          by : (heard : Heard) → ((messages : List Told) → heard ≡ Messages messages → ⊥) → hears_all (it true) heard c ≡ unread (it false) c
          by (Messages messages) untold = absurd (untold messages refl)
          by Sealed untold = refl
          by Unread untold = refl

      unkept_alone : AreTold (outs h (Is_unkept n)) told → Gone hears_it (course.taken ++ []) h course (Is_unkept n) [] told
      unkept_alone are =
          let is : told ≡ entry.Unkept n ∷ [] = note_told (entry.Unkept n) told are in
          alone (Is_unkept n) (with_note (entry.Unkept n) course) (false ∷ []) [] hears_it (entry.Unkept n ∷ []) is (λ keepings later. if_opened (false ∷ keepings) later)
          (still_books key taken before upto n payload is_node false h course point books room (entry.Unkept n ∷ []) h (tt, tt) (as_told (entry.Unkept n ∷ []) is)
          (same_host key taken before upto n payload is_node false h course point books room)) room refl refl refl

      opened_goes : (messages : List Told) (rest : List HostEvent) (to : OpensTo h n nonce payload messages) (taken_so : AreTaken (after h (Spends n)) n payload true messages rest) → AreTold (outs h (Spends n)) told
          → Gone hears_it (course.taken ++ heeded_of (after h (Spends n)) n payload true messages rest taken_so) h course (Spends n) rest told
      opened_goes messages rest to taken_so are = record {
        sealed = true;
        more = messages;
        next = spent course (Some to.plain);
        kept = true ∷ [];
        texts = Some to.plain ∷ [];
        goes = λ keepings later. kept_goes (Some to.plain) keepings later ∙ ap (λ (heard : Heard). hears_all (it true) heard (choosing keepings later (spent course (Some to.plain)))) to.tells;
        rests = (taken_so, refl);
        books = spends_books (Some to.plain) (opens_to (Some to.plain) (plain_so to.plain to.seals)) late (subst (AllByRecursion NoOut) (sym are) tt);
        room = room;
        due = sym (append-nil course.due) ∙ ap (λ (l : List Entry). course.due ++ l) (sym are);
        other = refl;
      }

      opened_one : (events : List HostEvent) → events ≡ event ∷ left → (is : IsOpened h n nonce payload events) → AreTold (outs h event) told → May h event
          → Gone hears_it (course.taken ++ heeded_opened h n nonce payload events is) h course event left told
      opened_one events ev (inl is) are may =
          as_event false hears_it (course.taken ++ []) h course event (Is_unkept n) left [] told (sym ev ∙ is) (λ are may. unkept_alone are) are may
      opened_one events ev (inr (inl (inl bad, is))) are may =
          as_event false hears_it (course.taken ++ []) h course event (Spends_unread n payload) left [] told (sym ev ∙ is)
          (λ are may. vain None (shut_so h.keys nonce (ends_from n) payload bad) (λ c. refl) are) are may
      opened_one events ev (inr (inl (inr to, is))) are may =
          as_event false hears_it (course.taken ++ []) h course event (Spends_unread n payload) left [] told (sym ev ∙ is)
          (λ are may. vain (Some to.plain) (plain_so to.plain to.seals) (unread_plain to.plain to.untold) are) are may
      opened_one events ev (inr (inr (messages, rest, to, is, taken_so))) are may =
          as_event false hears_it (course.taken ++ heeded_of (after h (Spends n)) n payload true messages rest taken_so) h course event (Spends n) left rest told (sym ev ∙ is)
          (λ are may. opened_goes messages rest to taken_so are) are may

    sealed_one : (named : Option (List ℕ)) → named_by payload (live_of h.nonces n) ≡ named → (events : List HostEvent) → events ≡ event ∷ left → (is : SealedEvents h n payload named events) → AreTold (outs h event) told
        → May h event → Gone hears_it (course.taken ++ heeded_sealed h n payload named events is) h course event left told
    sealed_one None none events ev is are may =
        as_event false hears_it (course.taken ++ []) h course event (Unreads n payload) left [] told (sym ev ∙ is) (λ are may. unread_alone hears_it (not_named none) are) are may
    sealed_one (Some nonce) named events ev is are may = opened_one nonce named events ev is are may

    payload_one : (heard : Heard) (events : List HostEvent) → events ≡ event ∷ left → (is : PayloadEvents h n payload heard events) → AreTold (outs h event) told → May h event
        → Gone (hears_payload (it false) heard) (course.taken ++ heeded_payload h n payload heard events is) h course event left told
    payload_one (Messages messages) events ev is are may = messages_go false h course point books room event left told late messages events ev is are may
    payload_one Sealed events ev is are may = sealed_one (named_by payload (live_of h.nonces n)) refl events ev is are may
    payload_one Unread events ev is are may =
        as_event false (hears_payload (it false) Unread) (course.taken ++ []) h course event (Unreads n payload) left [] told (sym ev ∙ is)
        (λ are may. unread_alone (hears_payload (it false) Unread) (λ keepings later. refl) are) are may

  -- where no event is left of it
  none_named : (h : HostState) (named : Option (List ℕ)) → SealedEvents h n payload named [] → ⊥
  none_named h None is = let bad : [] ≡ Unreads n payload ∷ [] = is in cc
  none_named h (Some nonce) (inl is) = let bad : [] ≡ Is_unkept n ∷ [] = is in cc
  none_named h (Some nonce) (inr (inl (in_vain, is))) = let bad : [] ≡ Spends_unread n payload ∷ [] = is in cc
  none_named h (Some nonce) (inr (inr (messages, rest, to, is, taken_so))) = let bad : [] ≡ Spends n ∷ rest = is in cc

  payload_over : (h : HostState) (course : Course) → PointAt h course → BooksAt h course → RoomAt h course → (heard : Heard) → (is : PayloadEvents h n payload heard [])
      → ((keepings : List Bool) (texts : List (Option (List ℕ))) → hears_payload (it false) heard (choosing keepings texts course) ≡ choosing keepings texts course)
      × (heeded_payload h n payload heard [] is ≡ [])
  payload_over h course point books room (Messages messages) is = messages_over false h course point books room messages [] refl is
  payload_over h course point books room Sealed is = absurd (none_named h (named_by payload (live_of h.nonces n)) is)
  payload_over h course point books room Unread is = absurd (let bad : [] ≡ Unreads n payload ∷ [] = is in cc)

  -- ---- what is left of a payload

  -- the course in the middle of it, at a point of the transcript
  module _ (past : List Entry) (h : HostState) (course : Course) (point : Point key heeds past n h) (so : HearsSo key (it false) past h course) where
    point_at : PointAt h course
    point_at = subst (λ (l : List Entry). Point key heeds l n h) so.stand point

    books_at : BooksAt h course
    books_at = subst (λ (l : List Entry). BooksSo key heeds l h course) so.stand so.books

    module _ (event : HostEvent) (left : List HostEvent) (told : List Entry) (late : StaysLate heeds n past told) where
      late_at : StaysLate heeds n (upto ++ course.due) told
      late_at = subst (λ (l : List Entry). StaysLate heeds n l told) so.stand late

      hears_so : (next : Course) → BooksSo key heeds ((upto ++ course.due) ++ told) (after h event) next → RoomAt (after h event) next → next.due ≡ course.due ++ told → else_of next ≡ else_of course
          → HearsSo key (it false) (past ++ told) (after h event) next
      hears_so next books room due other = record {
        stand = ap (λ (l : List Entry). l ++ told) so.stand ∙ append_assoc upto course.due told ∙ ap (λ (l : List Entry). upto ++ l) (sym due);
        fits = ap (λ (c : Course). c.fits) other ∙ so.fits;
        books = subst (λ (l : List Entry). BooksSo key heeds (l ++ told) (after h event) next) (sym so.stand) books;
        room = room;
      }

      -- each event makes of it what the course makes of its message
      pub hears_one : (remaining : Remaining) (is : RemainsSo h (it false) remaining (event ∷ left)) → AreTold (outs h event) told → May h event
          → HeardOne key (it false) remaining past told h event left is course
      hears_one Whole is are may = as_one (payload_one h course point_at books_at so.room event left told late_at (heard_at payload) (event ∷ left) refl is are may)
        where
          as_one : Gone (hears_payload (it false) (heard_at payload)) (course.taken ++ heeded_payload h n payload (heard_at payload) (event ∷ left) is) h course event left told
              → HeardOne key (it false) Whole past told h event left is course
          as_one gone = record {
            more = Left gone.sealed gone.more;
            next = gone.next;
            kept = gone.kept;
            texts = gone.texts;
            goes = gone.goes;
            remains = gone.rests.0;
            heeded = gone.rests.1;
            so = hears_so gone.next gone.books gone.room gone.due gone.other;
            due = gone.due;
            other = gone.other;
          }
      hears_one (Left sealed messages) is are may =
          as_one (messages_go sealed h course point_at books_at so.room event left told late_at messages (event ∷ left) refl is are may)
        where
          as_one : Gone (In_turn sealed messages) (course.taken ++ heeded_of h n payload sealed messages (event ∷ left) is) h course event left told
              → HeardOne key (it false) (Left sealed messages) past told h event left is course
          as_one gone = record {
            more = Left gone.sealed gone.more;
            next = gone.next;
            kept = gone.kept;
            texts = gone.texts;
            goes = gone.goes;
            remains = gone.rests.0;
            heeded = gone.rests.1;
            so = hears_so gone.next gone.books gone.room gone.due gone.other;
            due = gone.due;
            other = gone.other;
          }

    -- where no event is left it is over
    pub hears_over : (remaining : Remaining) (is : RemainsSo h (it false) remaining [])
        → ((keepings : List Bool) (later : List (Option (List ℕ))) → finishes (it false) remaining (choosing keepings later course) ≡ choosing keepings later course)
        × (heeded_rest h (it false) remaining [] is ≡ [])
    hears_over Whole is = payload_over h course point_at books_at so.room (heard_at payload) is
    hears_over (Left sealed messages) is = messages_over sealed h course point_at books_at so.room messages [] refl is
