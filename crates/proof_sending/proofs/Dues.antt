-- What is due by the tables of a host is due by the transcript that it keeps to.
use Rattle.std.proofs.Common.{◌≡◌, ◌⊎◌, ◌≤◌, ℕ, inl, inr, List, [], ◌∷◌, length, refl, sym, ap, subst, ◌∙◌}
use Rattle.std.specs.Prelude.{Option, Some, None}
use Rattle.std.specs.List.{AllByRecursion}
use Rattle.zw_base.proofs.Each.{all-weaker}
use Rattle.serial_frame.specs.Frame.{FrameParts}
use Rattle.serial_frame.specs.Items.{unit_text}
use Rattle.serial_frame.specs.declared.unit.Unit.{Unit as LineUnit}
use Rattle.serial_frame.specs.declared.unit.Unit.TheVariants.{Ack, Nak, Can, Framed}
use Rattle.supervision.specs.Host.{command_at as command_of_session}
use Rattle.s0_crypto.specs.Sealing.{keys_of}
use Rattle.zw_base.specs.declared.order.Order.{Order}
use Rattle.zw_text.specs.declared.entry.Entry.{Entry}
use Rattle.zw_text.specs.Transcript.{accepted, sessions}
use Rattle.proof_air.specs.law_transcript.Lists.{listed}
use Rattle.proof_air.specs.law_transcript.Commands.{classes_for, message_by, message_for, order_of}
use Rattle.proof_air.specs.law_transcript.Payloads.{form_by, IsCarriedAs, IsDue, IsOfCommand, IsOfSession}
use Rattle.proof_air.specs.law_transcript.Units.{Carried, sending_in}
use Rattle.host_keep.specs.Kept.{Taken}
use Rattle.host_orders.specs.Wrapping.{carriage_of, form_of, message_of}
use Rattle.host_orders.specs.declared.carriage.Carriage.{Carriage}
use Rattle.host_orders.specs.declared.carriage.Form.{Form}
use Rattle.host_orders.specs.declared.carriage.Form.TheVariants.{Plain as Whole, Cut, Sealed}
use Rattle.host_requests.specs.State.{next_id}
use Rattle.host_requests.specs.declared.task.Task.{Task}
use Rattle.host_requests.specs.declared.task.Task.TheVariants.{Plain, Offer, Segment, NoMore}
use Rattle.host_requests.specs.declared.task.Purpose.{Purpose}
use Rattle.host_requests.specs.declared.task.Purpose.TheVariants.{Housekeeping, Attempt, Abort}
use Rattle.host_model.specs.State.{HostState, node_of}
use Rattle.host_model.specs.declared.out.HostOut.{HostOut}
use Rattle.host_model.specs.declared.out.HostOut.TheVariants.{Write, Note}
use Rattle.host_model.specs.Sessions.{nonce_get}
use Rattle.proof_line.specs.proof_host.Facts.{AreBegun}
use Rattle.proof_sending.specs.Reasons.{Reason, Asked_for, Gave_nonce, Wants_nonce, IsCarriedBy, IsPart, IsDueTask, IsDuePurpose, IsDueUnit, WritesDue}
use Rattle.proof_sending.proofs.SentUnits.{purpose_sends}
use Rattle.proof_sending.specs.Due.{sends, IsOfCommandsBy, IsOfSessionBy, IsDueBy, IsShown, AreCarried, WritesWhatIsDue}

module _ (Holds : Reason → Type 0) (listing : List Entry → ℕ → List ℕ) (key : List ℕ) (past : List Entry) (h : HostState) (begun : AreBegun past h.nodes) (carried : AreCarried listing past h.commands) where
  abbrev Due : Carried → Type 0
  Due one = IsDueBy Holds listing key past one

  -- by the form and the message that the transcript gives
  as_carried : (node session number : ℕ) (taken : Taken) (payload : List ℕ) (shown : Option Order) (carriage : Carriage) → shown ≡ Some taken.order
      → carriage ≡ carriage_of (classes_for listing past node number) taken.order
      → IsCarriedBy Holds (keys_of key) node session (form_of carriage.outer) (message_of carriage taken.order session) payload
      → IsCarriedBy Holds (keys_of key) node session (form_by (classes_for listing past node number) shown) (message_by (classes_for listing past node number) session shown) payload
  as_carried node session number taken payload shown carriage shown_is carriage_is is =
      let classes : List ℕ = classes_for listing past node number in
      subst (λ (o : Option Order). IsCarriedBy Holds (keys_of key) node session (form_by classes o) (message_by classes session o) payload) (sym shown_is)
      (subst (λ (c : Carriage). IsCarriedBy Holds (keys_of key) node session (form_of c.outer) (message_of c taken.order session) payload) carriage_is is)

  part_due : (node : ℕ) (payload : List ℕ) → IsPart Holds (keys_of key) h node payload → Due (record { node = node; payload = payload })
  part_due node payload part =
      let one : Carried = record { node = node; payload = payload } in
      let books : sessions node past ≡ (node_of h node).book.commands = begun node in
      let is : part.session ≡ length (sessions node past) = part.last.last ∙ sym (ap (λ (l : List ℕ). length l) books) in
      let at : command_of_session (sessions node past) part.session ≡ Some part.last.number = ap (λ (l : List ℕ). command_of_session l part.session) books ∙ part.last.carried in
      let so = carried node part.session part.last.number part.taken at part.last.found in
      let here = as_carried node part.session part.last.number part.taken payload (order_of part.last.number (accepted node past)) part.taken.carriage so.0 so.1 part.carried in
      inl (subst (λ (k : ℕ). IsOfSessionBy Holds listing key past one k) is
      (subst (λ (o : Option ℕ). IsOfCommandsBy Holds listing key past one part.session (listed o)) (sym at) here))

  attempt_due : (node : ℕ) (payload : List ℕ) → (payload ≡ nonce_get) ⊎ IsPart Holds (keys_of key) h node payload → Due (record { node = node; payload = payload })
  attempt_due node payload (inl is) = inr (inl is)
  attempt_due node payload (inr part) = part_due node payload part

  task_due : (task : Task) → IsDueTask Holds (keys_of key) h task → AllByRecursion Due (sends (Housekeeping task))
  task_due (Plain node payload) due = (inr (inr (inr (inr due))), tt)
  task_due (Offer node nonce) due = (inr (inr (inl (record { nonce = nonce; eight = due.0; asked = due.1; text = refl }))), tt)
  task_due (Segment node payload) due = (part_due node payload due, tt)
  task_due (NoMore node) due = (inr (inr (inr (inl refl))), tt)
  task_due task due = tt

  purpose_due : (purpose : Purpose) → IsDuePurpose Holds (keys_of key) h purpose → AllByRecursion Due (sends purpose)
  purpose_due (Housekeeping task) due = task_due task due
  purpose_due (Attempt node more payload) due = (attempt_due node payload due, tt)
  purpose_due Abort due = tt

  -- and so of each unit
  module _ (from : (last : ℕ) → 1 ≤ next_id last) (to : (last : ℕ) → next_id last ≤ 255) where
    unit_due : (unit : LineUnit) → IsDueUnit Holds (keys_of key) h unit → AllByRecursion Due (sending_in (unit_text unit))
    unit_due Ack due = tt
    unit_due Nak due = tt
    unit_due Can due = tt
    unit_due (Framed f) due =
        subst (λ (g : FrameParts). AllByRecursion Due (sending_in (unit_text (Framed g)))) (sym due.is)
        (purpose_sends from to due.purpose due.last Due (purpose_due due.purpose due.due))

-- ---- where the transcript shows what was said

module _ (Holds : Reason → Type 0) (listing : List Entry → ℕ → List ℕ) (key : List ℕ) (past : List Entry) (shows : (reason : Reason) → Holds reason → IsShown listing key past reason) where
  law_carried : (form : Form) (node session : ℕ) (message payload : List ℕ) → IsCarriedBy Holds (keys_of key) node session form message payload
      → IsCarriedAs form key past node session message payload
  law_carried Whole node session message payload is = is
  law_carried Cut node session message payload is = is
  law_carried Sealed node session message payload is = record {
    own = is.own;
    nonce = is.nonce;
    given = shows (Gave_nonce node is.nonce) is.given;
    own_eight = is.own_eight;
    eight = is.eight;
    text = is.text;
  }

  law_session : (one : Carried) (session : ℕ) → IsOfSessionBy Holds listing key past one session → IsOfSession listing key past one session
  law_session one session is = by (command_of_session (sessions one.node past) session) refl is
    where
      by : (found : Option ℕ) → command_of_session (sessions one.node past) session ≡ found → IsOfCommandsBy Holds listing key past one session (listed found)
          → IsOfSession listing key past one session
      by None at none = absurd none
      by (Some number) at here =
          let law : IsOfCommand listing key past one session number
          = law_carried (form_by (classes_for listing past one.node number) (order_of number (accepted one.node past))) one.node session
          (message_for listing past one.node session number) one.payload here in
          rw at law

  law_due : (one : Carried) → IsDueBy Holds listing key past one → IsDue listing key past one
  law_due one (inl session) = inl (law_session one (length (sessions one.node past)) session)
  law_due one (inr (inl get)) = inr (inl get)
  law_due one (inr (inr (inl report))) = inr (inr (inl (record { nonce = report.nonce; eight = report.eight; asked = shows (Wants_nonce one.node) report.asked; text = report.text })))
  law_due one (inr (inr (inr (inl no_more)))) = inr (inr (inr (inl no_more)))
  law_due one (inr (inr (inr (inr asked)))) = inr (inr (inr (inr (shows (Asked_for one.node one.payload) asked))))

  module _ (from : (last : ℕ) → 1 ≤ next_id last) (to : (last : ℕ) → next_id last ≤ 255) (h : HostState) (begun : AreBegun past h.nodes) (carried : AreCarried listing past h.commands) where
    pub unit_is_due : (unit : LineUnit) → IsDueUnit Holds (keys_of key) h unit → AllByRecursion (IsDue listing key past) (sending_in (unit_text unit))
    unit_is_due unit due =
        all-weaker (IsDueBy Holds listing key past) (IsDue listing key past) law_due (sending_in (unit_text unit)) (unit_due Holds listing key past h begun carried from to unit due)

    pub puts_due : (puts : List HostOut) → WritesDue Holds (keys_of key) h puts → WritesWhatIsDue listing key past puts
    puts_due [] due = tt
    puts_due (Write unit ∷ puts) due = (unit_is_due unit due.0, puts_due puts due.1)
    puts_due (Note note ∷ puts) due = puts_due puts due
