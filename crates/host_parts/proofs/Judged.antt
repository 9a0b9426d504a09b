-- What a host makes of an order, by its rules.
use Rattle.std.proofs.Common.{◌≡◌, ◌≢◌, ◌≤◌, ◌<◌, ◌+◌, ◌++◌, inl, inr, ℕ, zero, suc, Bool, true, false, nat_lt, nat_le, not, List, [], ◌∷◌, Option, Some, None, is_some, length, if◌then◌else◌, refl, sym, ap, ◌∙◌, subst, arith}
use Rattle.std.specs.Prelude.{◌⊎◌, IsSome, IfOk, IfErr, Result, Ok, Err, unwrap_or}
use Rattle.std.proofs.lemmas.Bool.Decides.{nat_tests}
use Rattle.zw_base.specs.declared.order.Order.{Order}
use Rattle.zw_text.specs.declared.entry.Outcome.TheVariants.{Waiting}
use Rattle.zw_base.specs.declared.property.Property.{Property}
use Rattle.value_store.specs.Values.{Values, count_with, missing_of, releasing, reserving}
use Rattle.host_node.specs.State.{NodeState}
use Rattle.host_node.specs.Steps.{after_put, after_take_back}
use Rattle.host_node.specs.Events.NodeEvent.{Puts, Takes_back, Accepts as node_accepts}
use Rattle.host_node.specs.TableState.{nodes_after}
use Rattle.host_orders.specs.Classes.{lists, actuator_of}
use Rattle.host_orders.specs.Messages.{classes_needed}
use Rattle.host_orders.specs.Refusals.{Known, Refuses, classes_of, first_some, unless, unsupported, is_bad, is_too_long, too_long, mailbox_full, known_refusal, first_refusal, store_full, refusal_or}
use Rattle.host_orders.specs.Settings.{settings, properties_of}
use Rattle.host_orders.specs.Wrapping.{supervised_text, wrapped_len, carriage_of}
use Rattle.host_orders.specs.declared.carriage.Carriage.{Carriage}
use Rattle.host_orders.specs.declared.refused.Refused.{Refused}
use Rattle.host_orders.specs.declared.refused.Refused.TheVariants.{NotJoined, NotInterviewed, Unsupported, BadValue, Unsupervised, TooLong, MailboxFull, StoreFull, NoMemory, KeeperFault}
use Rattle.host_model.specs.State.{HostState, Command, node_of}
use Rattle.host_model.specs.Events.{Accepts}
use Rattle.host_model.specs.After.{after}
use Rattle.host_model.specs.May.{IsAccepted, known_of}
use Rattle.host_model.specs.Asking.{carriage_for, refusal_for}
use Rattle.host_parts.specs.Choices.{Judges}

-- ---- the rules

-- an order is for a node whose classes are known
classes_known : (joined : Bool) (classes : Option (List ℕ)) (more : Option Refused) → first_some (unless joined NotJoined ∷ unless (is_some classes) NotInterviewed ∷ more ∷ []) ≡ None → IsSome classes
classes_known false classes more e = cc
classes_known true None more e = cc
classes_known true (Some listed) more e = refl

pub unrefused_is_listed : (known : Known) (order : Order) → first_refusal known order ≡ None → IsSome known.classes
unfolding first_refusal
unrefused_is_listed known order e = classes_known known.joined known.classes (known_refusal (classes_of known) known.waiting order) e

-- so many properties it has then
abbrev count_for : HostState → Order → ℕ
count_for h order = count_with h.store order.node (properties_of (settings (carriage_for h order).actuator order))

few_properties : (count : ℕ) → count ≤ 512 → store_full count ≡ None
few_properties count few = let e : nat_lt 512 count ≡ false = grind (arith, nat_tests) in ap (λ (b : Bool). if b then Some (StoreFull 512) else None) e

many_properties : (count : ℕ) → 512 < count → store_full count ≡ Some (StoreFull 512)
many_properties count many = let e : nat_lt 512 count ≡ true = grind (arith, nat_tests) in ap (λ (b : Bool). if b then Some (StoreFull 512) else None) e

refused_first : (h : HostState) (order : Order) (refused : Refused) → first_refusal (known_of (node_of h order.node)) order ≡ Some refused → refusal_for h order ≡ Some refused
refused_first h order refused e = ap (λ (o : Option Refused). refusal_or o (count_for h order)) e

refused_by_store : (h : HostState) (order : Order) (carriage : Carriage) → first_refusal (known_of (node_of h order.node)) order ≡ None → carriage ≡ carriage_for h order
    → 512 < count_with h.store order.node (properties_of (settings carriage.actuator order)) → refusal_for h order ≡ Some (StoreFull 512)
refused_by_store h order carriage e carried many =
    ap (λ (o : Option Refused). refusal_or o (count_for h order)) e
    ∙ many_properties (count_for h order) (subst (λ (c : Carriage). 512 < count_with h.store order.node (properties_of (settings c.actuator order))) carried many)

pub taken : (h : HostState) (order : Order) (carriage : Carriage) → first_refusal (known_of (node_of h order.node)) order ≡ None → carriage ≡ carriage_for h order
    → count_with h.store order.node (properties_of (settings carriage.actuator order)) ≤ 512 → refusal_for h order ≡ None
taken h order carriage e carried few =
    ap (λ (o : Option Refused). refusal_or o (count_for h order)) e
    ∙ few_properties (count_for h order) (subst (λ (c : Carriage). count_with h.store order.node (properties_of (settings c.actuator order)) ≤ 512) carried few)

-- what is answered where a rule on the node refuses it, where its properties find no room, and where its record is not kept
pub judged_by_node : (h : HostState) (order : Order) (refused : Refused) → (first_refusal (known_of (node_of h order.node)) order ≡ Some refused) ⊎ (refused ≡ NoMemory) → Judges (Err refused) (refusal_for h order)
judged_by_node h order refused (inl e) = inl (refused_first h order refused e)
judged_by_node h order refused (inr none) = inr (inl none)

pub judged_by_store : (h : HostState) (order : Order) (carriage : Carriage) (refused : Refused) → first_refusal (known_of (node_of h order.node)) order ≡ None → carriage ≡ carriage_for h order
    → (refused ≡ NoMemory) ⊎ ((refused ≡ StoreFull 512) × (512 < count_with h.store order.node (properties_of (settings carriage.actuator order)))) → Judges (Err refused) (refusal_for h order)
judged_by_store h order carriage refused e carried (inl none) = inr (inl none)
judged_by_store h order carriage refused e carried (inr full) = inl (refused_by_store h order carriage e carried full.1 ∙ ap Some (sym full.0))

pub judged_by_keeper : (h : HostState) (order : Order) (refused : Refused) → refusal_for h order ≡ None → (refused ≡ KeeperFault) ⊎ (refused ≡ NoMemory) → Judges (Err refused) (refusal_for h order)
judged_by_keeper h order refused e (inl fault) = inr (inr (fault, e))
judged_by_keeper h order refused e (inr none) = inr (inl none)

-- what is listed
listed_as : (classes : Option (List ℕ)) → IsSome classes → (listed : List ℕ) × (classes ≡ Some listed)
listed_as None is = cc
listed_as (Some listed) is = (listed, refl)

-- what is known of a node
pub known_is : (a b : NodeState) (known : Known) → a ≡ b → known.joined ≡ a.joined → known.classes ≡ a.classes → known.waiting ≡ length a.waiting → known ≡ known_of b
known_is a b known same joined classes waiting =
    ap (λ (x : Bool). let one : Known = record { joined = x; classes = known.classes; waiting = known.waiting } in one) joined
    ∙ ap (λ (x : Option (List ℕ)). let one : Known = record { joined = a.joined; classes = x; waiting = known.waiting } in one) classes
    ∙ ap (λ (x : ℕ). let one : Known = record { joined = a.joined; classes = a.classes; waiting = x } in one) waiting
    ∙ ap (λ (n : NodeState). known_of n) same

-- how it is carried
pub judged_carries : (r : Result Carriage Refused) (known : Known) (order : Order) → Refuses r (first_refusal known order)
    → ((listed : List ℕ) → known.classes ≡ Some listed → IfOk r (λ (carriage : Carriage). carriage ≡ carriage_of listed order)) → IfOk r (λ (carriage : Carriage). carriage ≡ carriage_of (classes_of known) order)
judged_carries (Ok carriage) known order e carried =
    let found = listed_as known.classes (unrefused_is_listed known order e) in
    carried found.0 found.1 ∙ sym (ap (λ (o : Option (List ℕ)). carriage_of (unwrap_or o []) order) found.1)
judged_carries (Err refused) known order e carried = tt

-- the rules know nothing of the keeper
abbrev Never : Option Refused → Type 0
Never o = o ≡ Some KeeperFault → ⊥

first_never : (o : Option Refused) (more : List (Option Refused)) → Never o → Never (first_some more) → Never (first_some (o ∷ more))
first_never None more a b = b
first_never (Some refused) more a b = a

unless_never : (b : Bool) (refused : Refused) → Never (Some refused) → Never (unless b refused)
unless_never true refused never = λ e. cc
unless_never false refused never = never

unsupported_never : (classes needed : List ℕ) → Never (unsupported classes needed)
unsupported_never classes [] = λ e. cc
unsupported_never classes (class ∷ more) =
    elim (lists classes class) as (λ b. Never (if b then unsupported classes more else Some (Unsupported class))) [ true ↦ unsupported_never classes more | false ↦ λ e. cc ]

too_long_never : (classes : List ℕ) (supervised wrapped : ℕ) → Never (too_long classes supervised wrapped)
too_long_never classes supervised wrapped =
    elim (nat_lt 255 supervised) as (λ b. Never (if b then Some (TooLong supervised) else if is_too_long classes wrapped then Some (TooLong wrapped) else None))
    [ true ↦ λ e. cc | false ↦ elim (is_too_long classes wrapped) as (λ b. Never (if b then Some (TooLong wrapped) else None)) [ true ↦ λ e. cc | false ↦ λ e. cc ] ]

mailbox_never : (waiting : ℕ) → Never (mailbox_full waiting)
mailbox_never waiting = elim (nat_le 16 waiting) as (λ b. Never (if b then Some (MailboxFull 16) else None)) [ true ↦ λ e. cc | false ↦ λ e. cc ]

none_never : Never None
none_never = λ e. cc

known_never : (classes : List ℕ) (waiting : ℕ) (order : Order) → Never (known_refusal classes waiting order)
unfolding known_refusal
known_never classes waiting order =
    first_never _ _ (unsupported_never classes (classes_needed (actuator_of classes) order.what order.end))
    (first_never _ _ (unless_never (not (is_bad (actuator_of classes) order.what)) BadValue (λ e. cc))
    (first_never _ _ (unless_never (lists classes 0x6C) Unsupervised (λ e. cc))
    (first_never _ _ (too_long_never classes (length (supervised_text (actuator_of classes) order)) (wrapped_len (actuator_of classes) order))
    (first_never _ _ (mailbox_never waiting) none_never))))

pub rules_know_no_keeper : (known : Known) (order : Order) → first_refusal known order ≡ Some KeeperFault → ⊥
unfolding first_refusal
rules_know_no_keeper known order =
    first_never _ _ (unless_never known.joined NotJoined (λ e. cc))
    (first_never _ _ (unless_never (is_some known.classes) NotInterviewed (λ e. cc))
    (first_never _ _ (known_never (classes_of known) known.waiting order) none_never))

pub judged_by_rules : (r : Result Carriage Refused) (known : Known) (order : Order) → Refuses r (first_refusal known order) → IfErr r (λ (refused : Refused). refused ≢ KeeperFault)
judged_by_rules (Ok carriage) known order e = tt
judged_by_rules (Err refused) known order e = λ (is : refused ≡ KeeperFault). rules_know_no_keeper known order (e ∙ ap Some is)

-- so it may be accepted
pub may_be_accepted : (h : HostState) (order : Order) (carriage : Carriage) → first_refusal (known_of (node_of h order.node)) order ≡ None → carriage ≡ carriage_for h order
    → count_with h.store order.node (properties_of (settings carriage.actuator order)) ≤ 512 → IsAccepted h order (carriage_for h order)
may_be_accepted h order carriage e carried few =
    let found = listed_as (node_of h order.node).classes (unrefused_is_listed (known_of (node_of h order.node)) order e) in
    record {
      unrefused = e;
      classes = found.0;
      listed = found.1;
      carried = ap (λ (o : Option (List ℕ)). carriage_of (unwrap_or o []) order) found.1;
      few = subst (λ (c : Carriage). count_with h.store order.node (properties_of (settings c.actuator order)) ≤ 512) carried few;
    }

-- ---- what is undone

pub taken_back : ((n : NodeState) (k : ℕ) → after_take_back (after_put n k) ≡ n) → (nodes : List NodeState) (n k : ℕ) → nodes_after (nodes_after nodes n (Puts k)) n Takes_back ≡ nodes
taken_back undone [] n k = refl
taken_back undone (first ∷ rest) zero k = ap (λ (one : NodeState). one ∷ rest) (undone first k)
taken_back undone (first ∷ rest) (suc n) k = ap (λ (more : List NodeState). first ∷ more) (taken_back undone rest n k)

pub released : ((values : Values) (n : ℕ) (properties : List Property) → releasing (reserving values n properties) n (missing_of values n properties) ≡ values)
    → (old mid new : Values) (n : ℕ) (properties missing : List Property) → mid ≡ reserving old n properties → missing ≡ missing_of old n properties → new ≡ releasing mid n missing → new ≡ old
released undone old mid new n properties missing reserved are release =
    release ∙ ap (λ (v : Values). releasing v n missing) reserved ∙ ap (λ (ps : List Property). releasing (reserving old n properties) n ps) are ∙ undone old n properties

-- the host, where nodes, commands and values are as before
pub same_parts : (h : HostState) (nodes was_nodes : List NodeState) (commands was_commands : List Command) (store was_store : Values) → nodes ≡ was_nodes → commands ≡ was_commands → store ≡ was_store
    → (let s : HostState = record h { nodes = nodes; commands = commands; store = store } in s ≡ record h { nodes = was_nodes; commands = was_commands; store = was_store })
same_parts h nodes was_nodes commands was_commands store was_store same_nodes same_commands same_store =
    ap (λ (x : List NodeState). let s : HostState = record h { nodes = x; commands = commands; store = store } in s) same_nodes
    ∙ ap (λ (x : List Command). let s : HostState = record h { nodes = was_nodes; commands = x; store = store } in s) same_commands
    ∙ ap (λ (x : Values). let s : HostState = record h { nodes = was_nodes; commands = was_commands; store = x } in s) same_store

-- ---- the command that it becomes

abbrev pub taken_command : Order → Carriage → Command
taken_command order carriage = record { order = order; carriage = carriage; outcome = Waiting }

-- the host that has it
pub accepted_state : (h : HostState) (order : Order) (carriage : Carriage) (nodes : List NodeState) (commands : List Command) (store : Values)
    → nodes ≡ nodes_after (nodes_after h.nodes order.node (Puts (length h.commands + 1))) order.node node_accepts
    → commands ≡ h.commands ++ taken_command order carriage ∷ []
    → store ≡ reserving h.store order.node (properties_of (settings carriage.actuator order))
    → (let s : HostState = record h { nodes = nodes; commands = commands; store = store } in s ≡ after h (Accepts order carriage))
accepted_state h order carriage nodes commands store placed listed kept =
    ap (λ (x : List NodeState). let s : HostState = record h { nodes = x; commands = commands; store = store } in s) placed
    ∙ ap (λ (x : List Command). let s : HostState = record h { nodes = nodes_after (nodes_after h.nodes order.node (Puts (length h.commands + 1))) order.node node_accepts; commands = x; store = store } in s) listed
    ∙ ap (λ (x : Values). let s : HostState = record h { nodes = nodes_after (nodes_after h.nodes order.node (Puts (length h.commands + 1))) order.node node_accepts; commands = h.commands ++ taken_command order carriage ∷ []; store = x } in s) kept
