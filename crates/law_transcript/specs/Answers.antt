-- How lines are answered: each order by its number or its refusal, each other line by a refusal where one is due (this
-- project's own rule). What the keeper and the queue of requests decide is left open here.
use Rattle.std.specs.Prelude.{◌≡◌, ◌⊎◌, ℕ, ◌+◌, ◌-◌, ◌==◌, ◌||◌, ◌&&◌, not, Bool, true, false, if◌then◌else◌, List, [], ◌∷◌, ◌++◌, length, take, Option, Some, None, ⊤}
use Rattle.std.specs.List.{AllByRecursion, flat_map, list_any}
use Rattle.std.specs.Set.{distinct_count}
use Rattle.zw_base.specs.PropertyOrder.{same_property}
use Rattle.zw_base.specs.declared.property.Property.{Property}
use Rattle.zw_base.specs.declared.order.Order.{Order}
use Rattle.device_sim.specs.device_stack.State.{State}
use Rattle.host_orders.specs.Classes.{actuator_of}
use Rattle.host_orders.specs.Errands.{send_refusal, get_refusal}
use Rattle.host_orders.specs.Refusals.{Known, refusal_of}
use Rattle.host_orders.specs.Settings.{settings, properties_of}
use Rattle.host_orders.specs.declared.refused.Refused.{Refused as HostRefusal}
use Rattle.host_orders.specs.declared.refused.Refused.TheVariants as host
use Rattle.zw_text.specs.declared.line.Line.{Line}
use Rattle.zw_text.specs.declared.line.Line.TheVariants as lines
use Rattle.zw_text.specs.declared.entry.Ended.TheVariants.{Cancelled as WasCancelled}
use Rattle.zw_text.specs.declared.entry.Refusal.{Refusal}
use Rattle.zw_text.specs.declared.entry.Refusal.TheVariants as refusals
use Rattle.zw_text.specs.declared.entry.Entry.{Entry}
use Rattle.zw_text.specs.declared.entry.Entry.TheVariants.{Accepted, Refused, Out}
use Rattle.zw_text.specs.Transcript.{accepted, accepted_numbers, line_last, outcome, reported}
use Rattle.law_transcript.specs.Lists.{EachAfter, listed}
use Rattle.law_transcript.specs.Nodes.{controller, device_of, is_joined, known_classes, host_list, listing_of, always}
use Rattle.law_transcript.specs.Commands.{numbers_of, settings_for, waiting, is_waiting}
use Rattle.law_transcript.specs.Restarts.{since_restart, is_restart}
use Rattle.law_transcript.specs.Repeats.{refusal_to_repeat}

-- the entry of what may refuse an order
abbrev pub order_refusal_entry : HostRefusal → List Entry
order_refusal_entry host.NotJoined = Refused refusals.NotJoined ∷ []
order_refusal_entry host.NotInterviewed = Refused refusals.NotInterviewed ∷ []
order_refusal_entry (host.Unsupported class) = Refused (refusals.Unsupported class) ∷ []
order_refusal_entry host.BadValue = Refused refusals.BadValue ∷ []
order_refusal_entry host.Unsupervised = Refused refusals.Unsupervised ∷ []
order_refusal_entry (host.TooLong bytes) = Refused (refusals.TooLong bytes) ∷ []
order_refusal_entry (host.MailboxFull waiting) = Refused (refusals.MailboxFull waiting) ∷ []
order_refusal_entry (host.StoreFull properties) = Refused (refusals.StoreFull properties) ∷ []
order_refusal_entry _ = []

-- the entry of what else may refuse a line
abbrev pub line_refusal_entry : HostRefusal → List Entry
line_refusal_entry host.Secured = Refused refusals.Secured ∷ []
line_refusal_entry (host.QueueFull waiting) = Refused (refusals.QueueFull waiting) ∷ []
line_refusal_entry host.AlreadyJoined = Refused refusals.AlreadyJoined ∷ []
line_refusal_entry host.KeeperFault = Refused refusals.KeeperFault ∷ []
line_refusal_entry _ = []

-- the entry of a refusal; an allocation failure has none
abbrev pub refusal_entry : HostRefusal → List Entry
refusal_entry refusal = order_refusal_entry refusal ++ line_refusal_entry refusal

-- ---- orders

-- what the host knows of a node
abbrev pub known_of : (List Entry → ℕ → List ℕ) → List Entry → ℕ → Known
known_of listing past node =
    record { joined = is_joined past node; classes = known_classes listing past node; waiting = length (waiting node past) }

-- the properties of a node that its accepted commands set, or that it has reported since the last restart
abbrev pub properties_kept : (List Entry → ℕ → List ℕ) → List Entry → ℕ → List Property
properties_kept listing past node =
    flat_map (λ number. properties_of (settings_for listing past node number)) (numbers_of (accepted node past))
    ++ properties_of (reported node (since_restart past))

-- how many properties its node would have with those that an order sets
abbrev pub properties_with : (List Entry → ℕ → List ℕ) → List Entry → Order → ℕ
properties_with listing past order =
    distinct_count same_property (
    properties_of (settings (actuator_of (host_list listing past order.node)) order) ++ properties_kept listing past order.node)

-- the answer to an order of a node, by what refuses it
abbrev pub answered_by : List Entry → ℕ → Option HostRefusal → List Entry
answered_by past node None = Accepted (length (accepted_numbers past) + 1) node ∷ []
answered_by past node (Some refusal) = refusal_entry refusal

-- the answer to an order after this past: the first refusal that applies, else the next number
abbrev pub answer_to : (List Entry → ℕ → List ℕ) → List Entry → Order → List Entry
answer_to listing past order =
    answered_by past order.node (refusal_of (known_of listing past order.node) (properties_with listing past order) order)

-- the answer lets the order in
abbrev pub LetsIn : List Entry → Type 0
LetsIn (Accepted command node ∷ []) = ⊤
LetsIn _ = ⊥

-- an order has its answer; where it would be let in, the keeper may fail
abbrev pub IsAnswer : List Entry → Entry → Type 0
IsAnswer answer entry = (answer ≡ entry ∷ []) ⊎ (LetsIn answer × (entry ≡ Refused refusals.KeeperFault))

-- ---- other lines

-- refused where the list has no device of the node
abbrev pub refused_without : Option State → List Entry
refused_without None = Refused refusals.NoDevice ∷ []
refused_without (Some device) = []

-- the refusal, where the fact does not hold
abbrev pub refused_unless : Bool → Refusal → List Entry
refused_unless holds refusal = if holds then [] else Refused refusal ∷ []

-- what refuses a line about a node or a command of the host
abbrev pub refusals_by_host : (List Entry → ℕ → List ℕ) → List Entry → Line → List Entry
refusals_by_host listing past (lines.Cancel command) =
    refused_unless (list_any (λ number. number == command) (accepted_numbers past) && is_waiting (outcome command past)) (refusals.NotWaiting command)
refusals_by_host listing past (lines.Join node) = refused_unless (not (is_joined past node || node == controller)) refusals.AlreadyJoined
refusals_by_host listing past (lines.Send node word) = flat_map refusal_entry (listed (send_refusal (known_of listing past node) 0 word))
refusals_by_host listing past (lines.Get node end) = flat_map refusal_entry (listed (get_refusal (known_of listing past node) 0 end))
refusals_by_host listing past (lines.Interview node) = refused_unless (is_joined past node) refusals.NotJoined
refusals_by_host listing past _ = []

-- what refuses a line about a frame or a device
abbrev pub refusals_around : List State → List Entry → Line → List Entry
refusals_around devices past (lines.Repeat frame) = refusal_to_repeat past frame
refusals_around devices past (lines.Wake node) = refused_without (device_of node devices)
refusals_around devices past (lines.Local node value) = refused_without (device_of node devices)
refusals_around devices past (lines.Show node) = refused_without (device_of node devices)
refusals_around devices past _ = []

-- what refuses a line that is no order
abbrev pub refusals_to : List State → List Entry → Line → List Entry
refusals_to devices past line = refusals_by_host (always (listing_of devices)) past line ++ refusals_around devices past line

-- whether a line asks for a place in the queue of requests
abbrev pub is_queued : Line → Bool
is_queued (lines.Send node word) = true
is_queued (lines.Get node end) = true
is_queued (lines.Interview node) = true
is_queued lines.Discover = true
is_queued (lines.Neighbours node) = true
is_queued (lines.Failed node) = true
is_queued lines.Probe = true
is_queued _ = false

-- whether a line asks for a record, beside orders and lines that take them back
abbrev pub is_recorded : Line → Bool
is_recorded (lines.Join node) = true
is_recorded lines.Restart = true
is_recorded _ = false

-- what else may refuse a line: a full queue of requests, the keeper, or a bad record at a restart
abbrev pub MayRefuse : Line → Refusal → Type 0
MayRefuse line (refusals.QueueFull waiting) = (is_queued line ≡ true) × (waiting ≡ 64)
MayRefuse line refusals.KeeperFault = is_recorded line ≡ true
MayRefuse line (refusals.BadRecord place) = is_restart (line ∷ []) ≡ true
MayRefuse line _ = ⊥

-- the entry of a command that is taken back, or that the keeper failed
abbrev pub IsTakenBack : ℕ → Entry → Type 0
IsTakenBack command (Out number WasCancelled) = number ≡ command
IsTakenBack command (Refused refusals.KeeperFault) = ⊤
IsTakenBack command _ = ⊥

-- what may stand after a line that nothing refuses: no acceptance, and no refusal but those left open; a command that is to
-- be taken back is
abbrev pub MayStandAfter : Line → Entry → Type 0
MayStandAfter (lines.Cancel command) entry = IsTakenBack command entry
MayStandAfter line (Accepted command node) = ⊥
MayStandAfter line (Refused refusal) = MayRefuse line refusal
MayStandAfter line _ = ⊤

-- a line that is refused has its refusal after it
abbrev pub IsRefusal : Line → List Entry → Entry → Type 0
IsRefusal line [] entry = MayStandAfter line entry
IsRefusal line (refusal ∷ more) entry = refusal ≡ entry

-- ---- all lines

-- no answer stands elsewhere than after a line
abbrev pub IsNoAnswer : Entry → Type 0
IsNoAnswer (Accepted command node) = ⊥
IsNoAnswer (Refused refusal) = ⊥
IsNoAnswer _ = ⊤

-- what stands directly after a line, or after none, where these refusals are those of lines that are no orders
abbrev pub Follows : (List Entry → ℕ → List ℕ) → (List Entry → Line → List Entry) → List Entry → List Line → Entry → Type 0
Follows listing refusals past [] entry = IsNoAnswer entry
Follows listing refusals past (lines.Command order ∷ more) entry = IsAnswer (answer_to listing past order) entry
Follows listing refusals past (line ∷ more) entry = IsRefusal line (refusals past line) entry

-- the entries before the last one
abbrev pub before_last : List Entry → List Entry
before_last past = take (length past - 1) past

-- an entry after this past is an answer exactly where it must be one; a line is judged by what stands before it
abbrev pub MayAnswer : (List Entry → ℕ → List ℕ) → (List Entry → Line → List Entry) → List Entry → Entry → Type 0
MayAnswer listing refusals past entry = Follows listing refusals (before_last past) (line_last past) entry

-- a line that need not have an answer
abbrev pub AsksNothing : (List Entry → Line → List Entry) → List Entry → List Line → Type 0
AsksNothing refusals past [] = ⊤
AsksNothing refusals past (lines.Command order ∷ more) = ⊥
AsksNothing refusals past (line ∷ more) = refusals past line ≡ []

-- every line after these entries has the one answer that what stands before it demands, where the run did not end in it
pub record AnswersAfter (before : List Entry) (whole : Bool) (listing : List Entry → ℕ → List ℕ) (refusals : List Entry → Line → List Entry)
    (transcript : List Entry) : Type 0 where
  pub between : EachAfter (MayAnswer listing refusals) before transcript
  pub in_the_end : whole ≡ true → AsksNothing refusals (before_last (before ++ transcript)) (line_last (before ++ transcript))

-- every line of a run has it
abbrev pub AnswersLines : Bool → List State → List Entry → Type 0
AnswersLines whole devices transcript = AnswersAfter [] whole (always (listing_of devices)) (refusals_to devices) transcript

-- no restart meets an invalid record: so it is where the keeper gives back what it was given
abbrev pub IsNoBadRecord : Entry → Type 0
IsNoBadRecord (Refused (refusals.BadRecord place)) = ⊥
IsNoBadRecord _ = ⊤

abbrev pub ReadsItsRecords : List Entry → Type 0
ReadsItsRecords transcript = AllByRecursion IsNoBadRecord transcript

-- a command is taken back only where a line asks for it and it waits
abbrev pub MayCancel : List Entry → Entry → Type 0
MayCancel past (Out command WasCancelled) = (line_last past ≡ lines.Cancel command ∷ []) × (is_waiting (outcome command past) ≡ true)
MayCancel past _ = ⊤

abbrev pub CancelsWhenAsked : List Entry → Type 0
CancelsWhenAsked transcript = EachAfter MayCancel [] transcript
