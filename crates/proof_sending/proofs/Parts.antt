-- A payload that an attempt gives is a part of the last session of its node, and stays one while that is the last.
use Rattle.std.proofs.Common.{◌≡◌, ◌⊎◌, ◌<◌, ℕ, ◌+◌, ◌*◌, ◌/◌, Bool, true, false, inl, inr, List, [], ◌∷◌, length, nat_lt, refl, sym, ap, subst, ◌∙◌, arith}
use Rattle.std.specs.Prelude.{Option, Some, None, if◌then◌else◌}
use Rattle.std.proofs.lemmas.Bool.{ltb-true}
use Rattle.zw_base.proofs.Each.{all-weaker}
use Rattle.serial_frame.specs.Frame.{FrameParts}
use Rattle.serial_link.specs.declared.turn.Turn.{Turn}
use Rattle.serial_link.specs.declared.turn.Turn.TheVariants.{Idle, Copied, Paused}
use Rattle.supervision.specs.Host.{HostBook, begun_of, open_session, command_at as command_of_session}
use Rattle.s0_crypto.specs.declared.key_pair.Keys.{Keys}
use Rattle.s0_session.specs.declared.account.Account.{Account}
use Rattle.host_keep.specs.Kept.{Taken}
use Rattle.host_orders.specs.Wrapping.{form_of, message_of}
use Rattle.host_orders.specs.declared.carriage.Form.{Form}
use Rattle.host_orders.specs.declared.carriage.Form.TheVariants.{Plain as Whole, Cut, Sealed}
use Rattle.host_requests.specs.declared.task.Task.{Task}
use Rattle.host_requests.specs.declared.task.Task.TheVariants.{Plain, Offer, Segment}
use Rattle.host_requests.specs.declared.task.Purpose.{Purpose}
use Rattle.host_requests.specs.declared.task.Purpose.TheVariants.{Housekeeping, Attempt, Abort}
use Rattle.host_node.specs.declared.attempt.Plan.{Plan}
use Rattle.host_node.specs.declared.attempt.Plan.TheVariants as plans
use Rattle.host_model.specs.State.{HostState, Command, node_of, command_at}
use Rattle.host_model.specs.Sessions.{command_if, message_for, nonce_get, open_segment, segment_at, segment_by, segment_count, segment_of, start_by}
use Rattle.host_model.specs.Facts.{FitsForm, HostFacts, IsSound}
use Rattle.host_model.proofs.Pumps.{found_is}
use Rattle.host_model.specs.May.{IsStart}
use Rattle.proof_air.specs.Carrying.{TurnHas}
use Rattle.proof_line.specs.proof_host.Tables.{taken_by}
use Rattle.proof_spoken.specs.proof_once.Tied.{KeepsOrders}
use Rattle.proof_spoken.specs.proof_messages.Hosts.{HasTexts}
use Rattle.proof_sending.specs.Reasons.{Reason, IsLast, IsCarriedBy, IsPart, IsToSeal, IsDueTask, IsDuePurpose, IsDueFrame, HasWaiting}
use Rattle.proof_sending.proofs.Books.{SameBooks}

-- ---- what stays

last_stays : (old new : HostState) (node session : ℕ) (taken : Taken) → (node_of new node).book.commands ≡ (node_of old node).book.commands → KeepsOrders old.commands new.commands
    → IsLast old node session taken → IsLast new node session taken
last_stays old new node session taken same orders last = record {
  last = last.last ∙ sym (ap (λ (l : List ℕ). length l) same);
  number = last.number;
  carried = ap (λ (l : List ℕ). command_of_session l session) same ∙ last.carried;
  found = orders last.number taken last.found;
}

pub to_seal_stays : (old new : HostState) (node : ℕ) (plain : List ℕ) → (node_of new node).book.commands ≡ (node_of old node).book.commands → KeepsOrders old.commands new.commands
    → IsToSeal old node plain → IsToSeal new node plain
to_seal_stays old new node plain same orders is = record {
  session = is.session;
  taken = is.taken;
  last = last_stays old new node is.session is.taken same orders is.last;
  form = is.form;
  is = is.is;
}

-- what holds of reasons goes on
module _ (Old New : Reason → Type 0) (gives : (reason : Reason) → Old reason → New reason) (keys : Keys) where
  carried_stays : (node session : ℕ) (form : Form) (message payload : List ℕ) → IsCarriedBy Old keys node session form message payload → IsCarriedBy New keys node session form message payload
  carried_stays node session Whole message payload is = is
  carried_stays node session Cut message payload is = is
  carried_stays node session Sealed message payload is = record { own = is.own; nonce = is.nonce; given = gives _ is.given; own_eight = is.own_eight; eight = is.eight; text = is.text }

  pub part_stays : (old new : HostState) (node : ℕ) (payload : List ℕ) → (node_of new node).book.commands ≡ (node_of old node).book.commands → KeepsOrders old.commands new.commands
      → IsPart Old keys old node payload → IsPart New keys new node payload
  part_stays old new node payload same orders part = record {
    session = part.session;
    taken = part.taken;
    last = last_stays old new node part.session part.taken same orders part.last;
    carried = carried_stays node part.session (form_of part.taken.carriage.outer) (message_of part.taken.carriage part.taken.order part.session) payload part.carried;
  }

  pub texts_stay : (old new : HostState) (node : ℕ) → (node_of new node).book.commands ≡ (node_of old node).book.commands → KeepsOrders old.commands new.commands
      → HasTexts (IsPart Old keys old node) (IsToSeal old node) (node_of new node) → HasTexts (IsPart New keys new node) (IsToSeal new node) (node_of new node)
  texts_stay old new node same orders has = record {
    text = λ text is. part_stays old new node text same orders (has.text text is);
    pending = λ plain is. to_seal_stays old new node plain same orders (has.pending plain is);
  }

  module _ (old new : HostState) (same : SameBooks old new) (orders : KeepsOrders old.commands new.commands) where
    task_stays : (task : Task) → IsDueTask Old keys old task → IsDueTask New keys new task
    task_stays (Plain node payload) due = gives _ due
    task_stays (Offer node nonce) due = (due.0, gives _ due.1)
    task_stays (Segment node payload) due = part_stays old new node payload (same node) orders due
    task_stays task due = tt

    attempt_stays : (node : ℕ) (payload : List ℕ) → (payload ≡ nonce_get) ⊎ IsPart Old keys old node payload → (payload ≡ nonce_get) ⊎ IsPart New keys new node payload
    attempt_stays node payload (inl is) = inl is
    attempt_stays node payload (inr part) = inr (part_stays old new node payload (same node) orders part)

    purpose_stays : (purpose : Purpose) → IsDuePurpose Old keys old purpose → IsDuePurpose New keys new purpose
    purpose_stays (Housekeeping task) due = task_stays task due
    purpose_stays (Attempt node more payload) due = attempt_stays node payload due
    purpose_stays Abort due = tt

    frame_stays : (f : FrameParts) → IsDueFrame Old keys old f → IsDueFrame New keys new f
    frame_stays f due = record { purpose = due.purpose; last = due.last; is = due.is; due = purpose_stays due.purpose due.due }

    turn_stays : (turn : Turn) → TurnHas (IsDueFrame Old keys old) turn → TurnHas (IsDueFrame New keys new) turn
    turn_stays Idle has = tt
    turn_stays (Copied f copies ticks) has = frame_stays f has
    turn_stays (Paused f copies ticks) has = frame_stays f has

    pub waiting_stays : (theirs now : Keys) (turn : Turn) (queue : List Task) (nonces : List Account)
        → HasWaiting (IsDueFrame Old keys old) (IsDueTask Old keys old) theirs now turn queue nonces
        → HasWaiting (IsDueFrame New keys new) (IsDueTask New keys new) theirs now turn queue nonces
    waiting_stays theirs now turn queue nonces has = record {
      same = has.same;
      frame = turn_stays turn has.frame;
      tasks = all-weaker (IsDueTask Old keys old) (IsDueTask New keys new) task_stays queue has.tasks;
      eight = has.eight;
    }

-- ---- what the open session gives

-- it is the last one
opened_last : (book : HostBook) (session : ℕ) → open_session book ≡ Some session → session ≡ begun_of book
opened_last book session opened = by book.outcome book.commands opened
  where
    by : (outcome : Option ℕ) (commands : List ℕ) → open_session (record { commands = commands; outcome = outcome; attempts = book.attempts }) ≡ Some session → session ≡ length commands
    by (Some status) commands e = absurd (let bad : ◌≡◌ {A = Option ℕ} None (Some session) = e in cc)
    by None [] e = absurd (let bad : ◌≡◌ {A = Option ℕ} None (Some session) = e in cc)
    by None (command ∷ more) e = let is : Some (length (command ∷ more)) ≡ Some session = e in cc

abbrev pub taken_of : Command → Taken
taken_of command = record { order = command.order; carriage = command.carriage }

is_last : (h : HostState) (node session number : ℕ) (command : Command) → open_session (node_of h node).book ≡ Some session
    → command_of_session (node_of h node).book.commands session ≡ Some number → command_at h.commands number ≡ Some command → IsLast h node session (taken_of command)
is_last h node session number command opened carried found = record {
  last = opened_last (node_of h node).book session opened;
  number = number;
  carried = carried;
  found = ap taken_by found;
}

-- a segment counted so is within the message
segment_within : (k size : ℕ) → k < (size + 38) / 39 → 39 * k < size
segment_within k size few = omega (arith, few)

module _ (Holds : Reason → Type 0) (keys : Keys) (h : HostState) where
  segment_as : (node session k : ℕ) (command : Command) (form : Form) (payload : List ℕ) → IsLast h node session (taken_of command) → form_of command.carriage.outer ≡ form
      → segment_by form session (message_for command session) k ≡ Some payload → IsPart Holds keys h node payload
  segment_as node session k command Whole payload last form e = absurd (let bad : ◌≡◌ {A = Option (List ℕ)} None (Some payload) = e in cc)
  segment_as node session k command Sealed payload last form e = absurd (let bad : ◌≡◌ {A = Option (List ℕ)} None (Some payload) = e in cc)
  segment_as node session k command Cut payload last form e = by (nat_lt k (segment_count message)) refl e
    where
      message : List ℕ
      message = message_for command session

      by : (b : Bool) → nat_lt k (segment_count message) ≡ b → (if b then Some (segment_at session message k) else None) ≡ Some payload → IsPart Holds keys h node payload
      by true few is = record {
        session = session;
        taken = taken_of command;
        last = last;
        carried = subst (λ (f : Form). IsCarriedBy Holds keys node session f message payload) (sym form)
            (record { place = k; within = segment_within k (length message) (ltb-true k (segment_count message) few); text = let same : segment_at session message k ≡ payload = cc in sym same });
      }
      by false few is = absurd (let bad : ◌≡◌ {A = Option (List ℕ)} None (Some payload) = is in cc)

  pub segment_part : (node k : ℕ) (payload : List ℕ) → open_segment h (node_of h node) (open_session (node_of h node).book) k ≡ Some payload → IsPart Holds keys h node payload
  segment_part node k payload e = by_session (open_session (node_of h node).book) refl e
    where
      by_command : (session number : ℕ) (found : Option Command) → open_session (node_of h node).book ≡ Some session → command_of_session (node_of h node).book.commands session ≡ Some number
          → command_at h.commands number ≡ found → segment_of found session k ≡ Some payload → IsPart Holds keys h node payload
      by_command session number None opened carried is given = absurd (let bad : ◌≡◌ {A = Option (List ℕ)} None (Some payload) = given in cc)
      by_command session number (Some command) opened carried is given =
          segment_as node session k command (form_of command.carriage.outer) payload (is_last h node session number command opened carried is) refl given

      by_number : (session : ℕ) (number : Option ℕ) → open_session (node_of h node).book ≡ Some session → command_of_session (node_of h node).book.commands session ≡ number
          → segment_of (command_if h.commands number) session k ≡ Some payload → IsPart Holds keys h node payload
      by_number session None opened is given = absurd (let bad : ◌≡◌ {A = Option (List ℕ)} None (Some payload) = given in cc)
      by_number session (Some number) opened is given = by_command session number (command_at h.commands number) opened is refl given

      by_session : (session : Option ℕ) → open_session (node_of h node).book ≡ session → open_segment h (node_of h node) session k ≡ Some payload → IsPart Holds keys h node payload
      by_session None is given = absurd (let bad : ◌≡◌ {A = Option (List ℕ)} None (Some payload) = given in cc)
      by_session (Some session) is given = by_number session (command_of_session (node_of h node).book.commands session) is refl given

  -- ---- an attempt that starts

  -- its first payload, and the plain text that it seals, are such
  pub record IsStarted (node : ℕ) (plan : Plan) (payload : List ℕ) : Type 0 where
    pub given : (payload ≡ nonce_get) ⊎ IsPart Holds keys h node payload
    pub sealed : (plain : List ℕ) → plan ≡ plans.Sealed plain → IsToSeal h node plain

  started : (node session : ℕ) (command : Command) (form : Form) → IsLast h node session (taken_of command) → form_of command.carriage.outer ≡ form → FitsForm form (message_for command session)
      → IsStarted node (start_by form session (message_for command session)).plan (start_by form session (message_for command session)).payload
  started node session command Whole last form fits = record {
    given = inr (record {
      session = session;
      taken = taken_of command;
      last = last;
      carried = subst (λ (f : Form). IsCarriedBy Holds keys node session f (message_for command session) (message_for command session)) (sym form) refl;
    });
    sealed = λ plain e. absurd (let bad : plans.Whole ≡ plans.Sealed plain = e in cc);
  }
  started node session command Cut last form fits = record {
    given = inr (record {
      session = session;
      taken = taken_of command;
      last = last;
      carried = subst (λ (f : Form). IsCarriedBy Holds keys node session f (message_for command session) (segment_at session (message_for command session) 0)) (sym form)
          (record { place = 0; within = omega (arith, fits.0); text = refl });
    });
    sealed = λ plain e. absurd (let bad : plans.Segments (segment_count (message_for command session)) ≡ plans.Sealed plain = e in cc);
  }
  started node session command Sealed last form fits = record {
    given = inl refl;
    sealed = λ plain e. record {
      session = session;
      taken = taken_of command;
      last = last;
      form = form;
      is = let same : plans.Sealed (message_for command session) ≡ plans.Sealed plain = e in cc;
    };
  }

  pub start_is : HostFacts h → (node : ℕ) (plan : Plan) (more : Bool) (payload : List ℕ) → IsStart h node plan more payload → IsStarted node plan payload
  start_is facts node plan more payload start =
      let form : Form = form_of start.command.carriage.outer in
      let message : List ℕ = message_for start.command start.session in
      let sound = found_is (IsSound h.store) h.commands start.carried.0 start.command start.carried.2 facts.commands in
      subst (λ (p : Plan). IsStarted node p payload) (sym start.plan_is)
      (subst (λ (l : List ℕ). IsStarted node (start_by form start.session message).plan l) (sym start.payload_is)
      (started node start.session start.command form (is_last h node start.session start.carried.0 start.command start.opened start.carried.1 start.carried.2) refl (sound.form start.session)))
