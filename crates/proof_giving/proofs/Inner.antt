-- Whether a frame carries a segment that others follow, of the open session of a node: by the transcript as in the host, and so it stays until another session begins.
use Rattle.std.proofs.Common.{◌≡◌, ◌⊎◌, ℕ, ◌-◌, ◌*◌, ◌/◌, ◌%◌, not, Bool, false, inl, inr, List, [], ◌∷◌, ◌++◌, length, Option, Some, None, refl, sym, ap, ap₂, ◌∙◌, subst}
use Rattle.std.specs.Prelude.{bytes_eq}
use Rattle.std.specs.List.{AllByRecursion, list_any}
use Rattle.std.proofs.lemmas.List.Elements.{recursion_from_All}
use Rattle.zw_base.proofs.Each.{all-right}
use Rattle.zw_base.specs.declared.order.Order.{Order}
use Rattle.transport_segments.specs.Parts.{slice_at}
use Rattle.transport_segments.specs.Segment.{segment_text}
use Rattle.supervision.specs.Host.{command_at as command_of_session, open_session}
use Rattle.host_orders.specs.Wrapping.{carriage_of, form_of, message_of}
use Rattle.host_orders.specs.declared.carriage.Carriage.{Carriage}
use Rattle.host_orders.specs.declared.carriage.Form.{Form}
use Rattle.host_orders.specs.declared.carriage.Form.TheVariants.{Plain, Cut, Sealed}
use Rattle.zw_text.specs.declared.entry.Entry.{Entry}
use Rattle.zw_text.specs.Transcript.{accepted, sessions}
use Rattle.law_transcript.specs.Commands.{classes_for, message_by, message_for as message_told, order_of}
use Rattle.law_transcript.specs.Payloads.{form_by}
use Rattle.law_transcript.specs.Units.{Carried, sending_in}
use Rattle.law_time.specs.Attempts.{is_inner, is_of_inner}
use Rattle.law_time.specs.Heeds.{Heeds}
use Rattle.law_time.specs.Sessions.{Session, last_command, session_of}
use Rattle.host_model.specs.State.{Command, HostState, command_at, node_of}
use Rattle.host_model.specs.Sessions.{command_by, message_for, open_command}
use Rattle.host_model.specs.Facts.{HostFacts, IsCommandOf}
use Rattle.host_keep.specs.Kept.{Taken}
use Rattle.proof_host.specs.Tables.{taken_at, taken_by}
use Rattle.proof_queue.specs.proof_attempts.proof_requests.law_host.Heard.{heeds_alone, listing_heard}
use Rattle.proof_queue.proofs.Opening.{OpenLast, open_last}
use Rattle.proof_queue.proofs.Kept.{BookKept}
use Rattle.proof_queue.proofs.Segments.{Shows, open_is_last}
use Rattle.proof_queue.proofs.proof_requests_Judging.{or_false}
use Rattle.host_heard.specs.declared.told.Told.{Told}

-- ---- of a session

abbrev last_place : List ℕ → ℕ
last_place message = (length message - 1) / 39

abbrev pub inner_by : Form → ℕ → List ℕ → List ℕ → Bool
inner_by Cut number message unit =
    not (list_any (λ (carried : Carried). bytes_eq carried.payload (segment_text (number % 16) (length message) (39 * last_place message) (slice_at message (last_place message)))) (sending_in unit))
inner_by form number message unit = false

inner_as : (session : Session) (form : Form) (unit : List ℕ) → is_inner session form unit ≡ inner_by form session.number session.message unit
inner_as session Cut unit = refl
inner_as session Plain unit = refl
inner_as session Sealed unit = refl

-- as its order is carried
abbrev inner_of : Taken → ℕ → List ℕ → Bool
inner_of taken session unit = inner_by (form_of taken.carriage.outer) session (message_of taken.carriage taken.order session) unit

module _ (taken : List Entry → Carried → List Told) where
  abbrev heeds : Heeds
  heeds = heeds_alone taken

  abbrev pub inner_told : List Entry → ℕ → List ℕ → Bool
  inner_told past n unit = list_any (is_of_inner heeds past n unit) (last_command n past)

  -- the open session of a node, its order, and what it says
  record IsOpen (past : List Entry) (h : HostState) (n : ℕ) : Type 0 where
    session : ℕ
    number : ℕ
    command : Command
    opened : open_session (node_of h n).book ≡ Some session
    carried : command_of_session (node_of h n).book.commands session ≡ Some number
    found : command_at h.commands number ≡ Some command
    inner : (unit : List ℕ) → inner_told past n unit ≡ inner_of (record { order = command.order; carriage = command.carriage }) session unit

  module _ (past : List Entry) (h : HostState) (n : ℕ) (shows : Shows past h n) (facts : HostFacts h) (s : ℕ) (opened : open_session (node_of h n).book ≡ Some s) where
    count : length (sessions n past) ≡ s
    count = ap (λ (l : List ℕ). length l) shows.sessions_are ∙ sym (open_is_last (node_of h n).book s opened)

    module _ (at : OpenLast (node_of h n)) (command : Command) (found : command_at h.commands at.command ≡ Some command) where
      carried : command_of_session (node_of h n).book.commands s ≡ Some at.command
      carried = sym (ap (λ (o : Option ℕ). command_by (node_of h n) o) opened) ∙ at.opened

      taken_so : (order_of at.command (accepted n past) ≡ Some command.order) × (command.carriage ≡ carriage_of (classes_for listing_heard past n at.command) command.order)
      taken_so =
          shows.carried n s at.command (record { order = command.order; carriage = command.carriage })
          (ap (λ (l : List ℕ). command_of_session l s) shows.sessions_are ∙ carried) (ap taken_by found)

      message : (session_of listing_heard past n at.command).message ≡ message_for command s
      message =
          ap (λ (k : ℕ). message_told listing_heard past n k at.command) count
          ∙ ap (λ (o : Option Order). message_by (classes_for listing_heard past n at.command) s o) taken_so.0
          ∙ ap (λ (c : Carriage). message_of c command.order s) (sym taken_so.1)

      form : (session_of listing_heard past n at.command).form ≡ form_of command.carriage.outer
      form = ap (λ (o : Option Order). form_by (classes_for listing_heard past n at.command) o) taken_so.0 ∙ ap (λ (c : Carriage). form_of c.outer) (sym taken_so.1)

      is_so : IsOpen past h n
      is_so = record {
        session = s;
        number = at.command;
        command = command;
        opened = opened;
        carried = carried;
        found = found;
        inner = λ unit.
            ap (λ (l : List ℕ). list_any (is_of_inner heeds past n unit) l) (shows.last ∙ at.last) ∙ or_false (is_of_inner heeds past n unit at.command)
            ∙ inner_as (session_of listing_heard past n at.command) (session_of listing_heard past n at.command).form unit
            ∙ ap₂ (λ (f : Form) (k : ℕ). inner_by f k (session_of listing_heard past n at.command).message unit) form count
            ∙ ap (λ (m : List ℕ). inner_by (form_of command.carriage.outer) s m unit) message;
      }

    is_open : IsOpen past h n
    is_open = by (open_last (node_of h n))
      where
        by : ((open_session (node_of h n).book ≡ None) × (open_command (node_of h n) ≡ None)) ⊎ OpenLast (node_of h n) → IsOpen past h n
        by (inl none) = absurd (let bad : ◌≡◌ {A = Option ℕ} None (Some s) = sym none.0 ∙ opened in cc)
        by (inr at) =
            let all : AllByRecursion (IsCommandOf h.commands n) (at.front ++ at.command ∷ [])
            = subst (λ (l : List ℕ). AllByRecursion (IsCommandOf h.commands n) l) at.are (recursion_from_All (IsCommandOf h.commands n) (node_of h n).book.commands (facts.owns n).sessions) in
            let one = (all-right (IsCommandOf h.commands n) at.front (at.command ∷ []) all).0 in
            is_so at one.command one.found

  -- of an order that is known
  pub inner_at : (past : List Entry) (h : HostState) (n : ℕ) → Shows past h n → HostFacts h → (session number : ℕ) (command : Command) → open_session (node_of h n).book ≡ Some session
      → command_of_session (node_of h n).book.commands session ≡ Some number → command_at h.commands number ≡ Some command → (unit : List ℕ)
      → inner_told past n unit ≡ inner_by (form_of command.carriage.outer) session (message_for command session) unit
  inner_at past h n shows facts session number command opened carried found unit =
      let at = is_open past h n shows facts session opened in
      let same_session : at.session ≡ session = let a = at.opened in let both : Some at.session ≡ Some session = sym a ∙ opened in cc in
      let same_number : at.number ≡ number
      = let a = at.carried in let both : Some at.number ≡ Some number = sym a ∙ ap (λ (k : ℕ). command_of_session (node_of h n).book.commands k) same_session ∙ carried in cc in
      let same_command : at.command ≡ command
      = let a = at.found in let both : Some at.command ≡ Some command = sym a ∙ ap (λ (k : ℕ). command_at h.commands k) same_number ∙ found in cc in
      at.inner unit ∙ ap₂ (λ (c : Command) (k : ℕ). inner_by (form_of c.carriage.outer) k (message_for c k) unit) same_command same_session

  -- after an event that begins no session, where one is open
  pub inner_kept : (past later : List Entry) (h g : HostState) (n s : ℕ) → Shows past h n → Shows later g n → HostFacts h → HostFacts g → BookKept (node_of h n).book (node_of g n).book
      → ((number : ℕ) (c : Command) → command_at h.commands number ≡ Some c → taken_at g.commands number ≡ taken_at h.commands number) → open_session (node_of g n).book ≡ Some s → (unit : List ℕ)
      → inner_told later n unit ≡ inner_told past n unit
  inner_kept past later h g n s shows showing facts others kept orders opened unit =
      let was = is_open past h n shows facts s (kept.opens s opened) in
      let now = is_open later g n showing others s opened in
      let same_session : was.session ≡ now.session = let a = was.opened in let b = now.opened in let c = kept.opens now.session b in let both : Some was.session ≡ Some now.session = sym a ∙ c in cc in
      let same_number : was.number ≡ now.number
      = let a = was.carried in let b = now.carried in
      let both : Some was.number ≡ Some now.number
      = sym a ∙ ap₂ (λ (l : List ℕ) (k : ℕ). command_of_session l k) (sym kept.commands) same_session ∙ b in cc in
      let same_order : record { order = now.command.order; carriage = now.command.carriage } ≡ record { order = was.command.order; carriage = was.command.carriage }
      = let both : Some (record { order = now.command.order; carriage = now.command.carriage }) ≡ Some (record { order = was.command.order; carriage = was.command.carriage })
      = sym (ap taken_by now.found) ∙ ap (λ (k : ℕ). taken_at g.commands k) (sym same_number) ∙ orders was.number was.command was.found ∙ ap taken_by was.found in cc in
      now.inner unit ∙ ap₂ (λ (t : Taken) (k : ℕ). inner_of t k unit) same_order (sym same_session) ∙ sym (was.inner unit)
