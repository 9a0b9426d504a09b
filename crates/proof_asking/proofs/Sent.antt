-- What the last request carries was due where it was asked; and a Set or Get that is no part of a session was asked for by a line.
use Rattle.std.proofs.Common.{◌≡◌, ◌⊎◌, ℕ, ◌*◌, ◌%◌, Bool, true, false, inl, inr, if◌then◌else◌, List, [], ◌∷◌, ◌++◌, length, refl, sym, ap, ◌∙◌, subst, append-nil, append_assoc}
use Rattle.std.specs.Prelude.{Option, Some, None}
use Rattle.std.specs.List.{AllByRecursion}
use Rattle.zw_base.specs.declared.order.Order.{Order}
use Rattle.host_orders.specs.Wrapping.{carriage_of}
use Rattle.host_orders.specs.declared.carriage.Form.{Form}
use Rattle.host_orders.specs.declared.carriage.Form.TheVariants.{Plain, Cut, Sealed}
use Rattle.supervision.specs.Host.{command_at}
use Rattle.s0_crypto.specs.Sealing.{keys_of, sealed_text}
use Rattle.transport_segments.specs.Parts.{slice_at}
use Rattle.transport_segments.specs.Segment.{segment_text}
use Rattle.zw_words.specs.declared.side.Side.TheVariants.{Host}
use Rattle.zw_text.specs.declared.entry.Entry.{Entry}
use Rattle.zw_text.specs.declared.entry.Entry.TheVariants.{Said, Written}
use Rattle.zw_text.specs.Transcript.{accepted, sessions}
use Rattle.law_transcript.specs.Commands.{classes_for, message_by, message_for, order_of}
use Rattle.law_transcript.specs.Lists.{EachAfter, listed}
use Rattle.law_transcript.specs.Nodes.{controller}
use Rattle.law_transcript.specs.Payloads.{form_by, IsAskedFor, IsCarriedAs, IsDue, IsOfCommand, IsOfSession, MayRequest}
use Rattle.law_transcript.specs.Restarts.{begins_refused}
use Rattle.law_transcript.specs.Units.{Carried, sending_in}
use Rattle.law_time.specs.Requests.{Asked, asked, asked_after, asked_from, asked_nothing, is_new, starts_anew, with_entry}
use Rattle.proof_requests.specs.Carrying.{is_errand}
use Rattle.proof_requests.proofs.Carried.{message_none, sealed_none, segment_none}

-- ---- of a session

as_none : (payload these : List ℕ) → payload ≡ these → is_errand these ≡ false → is_errand payload ≡ false
as_none payload these is none = ap is_errand is ∙ none

carried_none : (f : Form) (key : List ℕ) (past : List Entry) (node session : ℕ) (message payload : List ℕ) → is_errand message ≡ false → IsCarriedAs f key past node session message payload
    → is_errand payload ≡ false
carried_none Plain key past node session message payload none is = as_none payload message is none
carried_none Cut key past node session message payload none is =
    as_none payload (segment_text (session % 16) (length message) (39 * is.place) (slice_at message is.place)) is.text
    (segment_none (session % 16) (length message) (39 * is.place) (slice_at message is.place))
carried_none Sealed key past node session message payload none is =
    as_none payload (sealed_text (keys_of key) is.own is.nonce (record { sender = controller; receiver = node }) message) is.text
    (sealed_none (keys_of key) is.own is.nonce (record { sender = controller; receiver = node }) message)

message_by_none : (classes : List ℕ) (session : ℕ) (order : Option Order) → is_errand (message_by classes session order) ≡ false
message_by_none classes session None = refl
message_by_none classes session (Some order) = message_none (carriage_of classes order) order session

module _ (listing : List Entry → ℕ → List ℕ) (key : List ℕ) where
  abbrev OfCommands : List Entry → Carried → ℕ → List ℕ → Type 0
  OfCommands past one session [] = ⊥
  OfCommands past one session (number ∷ more) = IsOfCommand listing key past one session number

  of_commands : (past : List Entry) (one : Carried) (session : ℕ) (found : Option ℕ) → command_at (sessions one.node past) session ≡ found
      → (IsOfSession listing key past one session → OfCommands past one session (listed (command_at (sessions one.node past) session)))
  of_commands past one session None at = rw at (λ is. is)
  of_commands past one session (Some number) at = rw at (λ is. is)

  session_none : (past : List Entry) (one : Carried) (session : ℕ) → IsOfSession listing key past one session → is_errand one.payload ≡ false
  session_none past one session is = by (command_at (sessions one.node past) session) (of_commands past one session (command_at (sessions one.node past) session) refl is)
    where
      by : (found : Option ℕ) → OfCommands past one session (listed found) → is_errand one.payload ≡ false
      by None none = absurd none
      by (Some number) here =
          carried_none (form_by (classes_for listing past one.node number) (order_of number (accepted one.node past))) key past one.node session
          (message_for listing past one.node session number) one.payload
          (message_by_none (classes_for listing past one.node number) session (order_of number (accepted one.node past))) here

  both_so : {A : Type 0} (payload : List ℕ) → is_errand payload ≡ true → is_errand payload ≡ false → A
  both_so payload is none = absurd (let bad : false ≡ true = sym none ∙ is in cc)

  -- what is due, and is such a command, a line asked for
  due_errand : (past : List Entry) (one : Carried) → is_errand one.payload ≡ true → IsDue listing key past one → IsAskedFor listing past one
  due_errand past one is (inl session) = both_so one.payload is (session_none past one (length (sessions one.node past)) session)
  due_errand past one is (inr (inl get)) = both_so one.payload is (ap is_errand get)
  due_errand past one is (inr (inr (inl report))) = both_so one.payload is (ap is_errand report.text)
  due_errand past one is (inr (inr (inr (inl no_more)))) = both_so one.payload is (ap is_errand no_more)
  due_errand past one is (inr (inr (inr (inr asked_for)))) = asked_for

  -- ---- the last request

  -- what it carries was due where it was written first, and that stands in the past
  record WasDue (past : List Entry) (a : Asked) : Type 0 where
    due : AllByRecursion (IsDue listing key a.before) (sending_in a.frame)
    stands : (sending_in a.frame ≡ []) ⊎ (past ≡ a.before ++ Written Host a.frame ∷ a.following)

  one_more : (past : List Entry) (a : Asked) (e : Entry) → WasDue past a → WasDue (past ++ e ∷ []) (with_entry a e)
  one_more past a e was = record { due = was.due; stands = by was.stands }
    where
      by : (sending_in a.frame ≡ []) ⊎ (past ≡ a.before ++ Written Host a.frame ∷ a.following)
          → (sending_in a.frame ≡ []) ⊎ (past ++ e ∷ [] ≡ a.before ++ Written Host a.frame ∷ (a.following ++ e ∷ []))
      by (inl none) = inl none
      by (inr is) = inr (ap (λ (l : List Entry). l ++ e ∷ []) is ∙ append_assoc a.before (Written Host a.frame ∷ a.following) (e ∷ []))

  at_first : (past : List Entry) → WasDue past asked_nothing
  at_first past = record { due = tt; stands = inl refl }

  after_one : (past : List Entry) (a : Asked) (e : Entry) (rest : List Entry) → MayRequest listing key past e → WasDue past a → WasDue (past ++ e ∷ []) (asked_after past a e rest)
  after_one past a (Written Host unit) rest may was = by (is_new a unit)
    where
      by : (new : Bool) → WasDue (past ++ Written Host unit ∷ []) (if new then record { frame = unit; before = past; following = [] } else with_entry a (Written Host unit))
      by true = record { due = may; stands = inr refl }
      by false = one_more past a (Written Host unit) was
  after_one past a (Said words) rest may was = by (starts_anew (Said words) rest)
    where
      by : (anew : Bool) → WasDue (past ++ Said words ∷ []) (if anew then asked_nothing else with_entry a (Said words))
      by true = at_first (past ++ Said words ∷ [])
      by false = one_more past a (Said words) was
  after_one past a e rest may was = one_more past a e was

  was_due_from : (past : List Entry) (a : Asked) (rest : List Entry) → EachAfter (MayRequest listing key) past rest → WasDue past a → WasDue (past ++ rest) (asked_from past a rest)
  was_due_from past a [] each was = subst (λ (p : List Entry). WasDue p a) (sym (append-nil past)) was
  was_due_from past a (e ∷ rest) each was =
      subst (λ (p : List Entry). WasDue p (asked_from (past ++ e ∷ []) (asked_after past a e rest) rest)) (append_assoc past (e ∷ []) rest)
      (was_due_from (past ++ e ∷ []) (asked_after past a e rest) rest each.1 (after_one past a e rest each.0 was))

  abbrev pub Stays : Type 0
  Stays = (past told : List Entry) (one : Carried) → begins_refused told ≡ false → IsAskedFor listing past one → IsAskedFor listing (past ++ told) one

  -- so what it carries a line has asked for, where it is such a command
  pub asked_errand : Stays → (past : List Entry) (one : Carried) → EachAfter (MayRequest listing key) [] past → sending_in (asked past).frame ≡ one ∷ [] → is_errand one.payload ≡ true
      → IsAskedFor listing past one
  asked_errand stays past one each carries is =
      let was : WasDue past (asked past) = was_due_from [] asked_nothing past each (at_first []) in
      let due : AllByRecursion (IsDue listing key (asked past).before) (one ∷ []) = subst (λ (l : List Carried). AllByRecursion (IsDue listing key (asked past).before) l) carries was.due in
      by (due_errand (asked past).before one is due.0) was.stands
    where
      by : IsAskedFor listing (asked past).before one → (sending_in (asked past).frame ≡ []) ⊎ (past ≡ (asked past).before ++ Written Host (asked past).frame ∷ (asked past).following)
          → IsAskedFor listing past one
      by has (inl none) = absurd (let bad : [] ≡ one ∷ [] = sym none ∙ carries in cc)
      by has (inr whole) = subst (λ (p : List Entry). IsAskedFor listing p one) (sym whole) (stays (asked past).before (Written Host (asked past).frame ∷ (asked past).following) one refl has)
