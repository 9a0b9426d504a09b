-- Stretches that begin in a calm moment, and that each command in one is answered in time (this project's own rule; ticks are of
-- 100 ms).
use Rattle.std.specs.Prelude.{◌≡◌, ℕ, ◌+◌, ◌*◌, ◌==◌, ◌&&◌, ◌||◌, not, bytes_eq, nat_le, Bool, true, false, if◌then◌else◌, List, [], ◌∷◌, ◌++◌, length, filter, Option, Some, None}
use Rattle.std.specs.List.{flat_map, list_any, list_all, AllByRecursion}
use Rattle.law_wire.specs.device_kinds.Kind.{listens as kind_listens}
use Rattle.law_wire.specs.device_stack.State.{State}
use Rattle.zw_text.specs.declared.line.Line.{Line}
use Rattle.zw_text.specs.declared.line.Line.TheVariants as lines
use Rattle.zw_text.specs.declared.entry.Outcome.{Outcome}
use Rattle.zw_text.specs.declared.entry.Outcome.TheVariants.{Cancelled}
use Rattle.zw_text.specs.declared.entry.Entry.{Entry}
use Rattle.zw_text.specs.declared.entry.Entry.TheVariants.{Accepted, Refused, Unkept}
use Rattle.zw_text.specs.declared.entry.Refusal.TheVariants.{KeeperFault}
use Rattle.zw_text.specs.Transcript.{outcome, joined, shown, lines_run}
use Rattle.law_wire.specs.law_transcript.Commands.{waiting, classes_for}
use Rattle.law_wire.specs.law_transcript.Lists.{Has}
use Rattle.law_wire.specs.law_transcript.Nodes.{always, device_of, is_supervised, listing_of, is_joined, known_classes}
use Rattle.law_wire.specs.law_transcript.Restarts.{ticks_asked}
use Rattle.law_wire.specs.Reach.{CanBeReached}
use Rattle.law_time.specs.Requests.{are_none}
use Rattle.law_time.specs.Interviews.{listens}
use Rattle.law_time.specs.Questions.{same_bool}
use Rattle.law_time.specs.Sessions.{is_final}
use Rattle.law_time.specs.Verdicts.{is_answered}
use Rattle.law_time.specs.Calm.{IsCalm}

-- ---- ready nodes

-- the host takes the node to listen exactly where its device does
abbrev pub knows_device : List State → ℕ → List Entry → Option State → Bool
knows_device devices node past None = false
knows_device devices node past (Some device) = same_bool (listens node past) (kind_listens device.kind)

-- these classes are what the device of the node lists
abbrev pub are_listed : List State → ℕ → Option (List ℕ) → Bool
are_listed devices node None = false
are_listed devices node (Some classes) = bytes_eq classes (listing_of devices node)

-- the device has the key
abbrev pub has_key : List ℕ → Option State → Bool
has_key key None = false
has_key key (Some device) = bytes_eq device.key key

-- whether a command was taken back
abbrev pub is_taken_back : Outcome → Bool
is_taken_back Cancelled = true
is_taken_back _ = false

-- the commands of a node that have no final outcome and were not taken back
abbrev pub is_open : List Entry → ℕ → Bool
is_open past number = not (is_final (outcome number past)) && not (is_taken_back (outcome number past))

abbrev pub accepted_for : ℕ → Entry → List ℕ
accepted_for node (Accepted command of) = if of == node then command ∷ [] else []
accepted_for node _ = []

abbrev pub open_commands : ℕ → List Entry → List ℕ
open_commands node past = filter (is_open past) (shown (accepted_for node) past)

-- the host knows its classes, and did when it accepted the commands that are open
abbrev pub knows_classes : List State → List Entry → ℕ → Bool
knows_classes devices past node =
    are_listed devices node (known_classes (always (listing_of devices)) past node)
    && list_all (λ number. are_listed devices node (Some (classes_for (always (listing_of devices)) past node number))) (open_commands node past)

-- a node is known: it is joined, its device is there with the key, and the host knows whether it listens, and its classes
abbrev pub knows_node : List ℕ → List State → List Entry → ℕ → Bool
knows_node key devices past node =
    is_joined past node && has_key key (device_of node devices) && knows_device devices node past (device_of node devices)
    && knows_classes devices past node

-- ---- stretches

-- the lines that a stretch may have
abbrev pub is_quiet_line : Line → Bool
is_quiet_line (lines.Command order) = true
is_quiet_line (lines.Tick count) = true
is_quiet_line (lines.Cut size) = true
is_quiet_line (lines.Show node) = true
is_quiet_line (lines.Store node) = true
is_quiet_line (lines.Wake node) = true
is_quiet_line _ = false

-- the commands of a node that wait at the start of a stretch or are accepted in it
abbrev pub commands_in : List Entry → List Entry → ℕ → List ℕ
commands_in before stretch node = waiting node before ++ shown (accepted_for node) stretch

-- the nodes that have one
abbrev pub workers : List Entry → List Entry → List ℕ
workers before stretch = filter (λ node. not (are_none (commands_in before stretch node))) (joined before)

-- the lines of a node in a stretch: its orders and its `wake` lines, in order
pub data Turn : Type 0 where
  Orders : Turn
  Wakes : Turn

abbrev pub turn_of : ℕ → Line → List Turn
turn_of node (lines.Command order) = if order.node == node then Orders ∷ [] else []
turn_of node (lines.Wake of) = if of == node then Wakes ∷ [] else []
turn_of node _ = []

abbrev pub turns : ℕ → List Entry → List Turn
turns node stretch = flat_map (turn_of node) (lines_run stretch)

-- its only `wake` line is the last of them
abbrev pub wakes_last : List Turn → Bool
wakes_last (Wakes ∷ []) = true
wakes_last (Orders ∷ more) = wakes_last more
wakes_last _ = false

-- it has none
abbrev pub wakes_never : List Turn → Bool
wakes_never [] = true
wakes_never (Wakes ∷ more) = false
wakes_never (Orders ∷ more) = wakes_never more

-- a node that works and does not listen is woken once, after its orders, and no other
abbrev pub is_woken_so : List Entry → List Entry → ℕ → Bool
is_woken_so before stretch node =
    if not (are_none (commands_in before stretch node)) && not (listens node before) then wakes_last (turns node stretch) else wakes_never (turns node stretch)

-- the nodes that lines wake
abbrev pub woken_by : Line → List ℕ
woken_by (lines.Wake node) = node ∷ []
woken_by _ = []

-- quiet lines alone, at most 16 nodes at work, each known, and woken as it must be
abbrev pub is_quiet : List ℕ → List State → List Entry → List Entry → Bool
is_quiet key devices before stretch =
    list_all is_quiet_line (lines_run stretch) && nat_le (length (workers before stretch)) 16 && list_all (knows_node key devices before) (workers before stretch)
    && list_all (is_woken_so before stretch) (joined before ++ flat_map woken_by (lines_run stretch))

-- an entry that says that the keeper failed
abbrev pub is_keeper_fault : Entry → Bool
is_keeper_fault (Unkept node) = true
is_keeper_fault (Refused KeeperFault) = true
is_keeper_fault _ = false

-- the entries are a stretch: so, the keeper does not fail, and each node at work is ready, since it can be reached besides
pub record IsStretch (key : List ℕ) (devices : List State) (before stretch : List Entry) : Type 0 where
  pub quiet : is_quiet key devices before stretch ≡ true
  pub kept : list_any is_keeper_fault stretch ≡ false
  pub reached : AllByRecursion (CanBeReached devices before) (workers before stretch)

-- ---- in time

-- how many commands the nodes have
abbrev pub work_of : List Entry → List Entry → List ℕ → ℕ
work_of before stretch [] = 0
work_of before stretch (node ∷ nodes) = length (commands_in before stretch node) + work_of before stretch nodes

-- the ticks since the last order or `wake` line, or since the beginning
abbrev pub waited_step : ℕ → Line → ℕ
waited_step ticks (lines.Command order) = 0
waited_step ticks (lines.Wake node) = 0
waited_step ticks (lines.Tick count) = ticks + count
waited_step ticks _ = ticks

abbrev pub waited_by : ℕ → List Line → ℕ
waited_by ticks [] = ticks
waited_by ticks (line ∷ more) = waited_by (waited_step ticks line) more

abbrev pub waited : List Entry → ℕ
waited stretch = waited_by 0 (lines_run stretch)

-- 500 ticks for each command have passed
abbrev pub is_time : List Entry → List Entry → Bool
is_time before stretch = nat_le (500 * work_of before stretch (workers before stretch)) (waited stretch)

-- each command of the nodes at work has the final outcome that its device's kind says
abbrev pub answers_all : List State → List Entry → List Entry → Bool
answers_all devices before stretch =
    list_all (λ node. list_all (is_answered devices before stretch node) (commands_in before stretch node)) (workers before stretch)

-- a stretch with one node at work, of any kind
abbrev pub is_alone : List Entry → List Entry → Bool
is_alone before stretch = length (workers before stretch) == 1

-- a node lists Transport Service or Security 0
abbrev pub lists_a_layer : List State → ℕ → Bool
lists_a_layer devices node = list_any (λ class. (class == 0x55) || (class == 0x98)) (listing_of devices node)

-- nodes that listen, and list neither
abbrev pub is_plain_listener : List State → List Entry → ℕ → Bool
is_plain_listener devices before node = listens node before && not (lists_a_layer devices node)

abbrev pub are_plain_listeners : List State → List Entry → List Entry → Bool
are_plain_listeners devices before stretch = list_all (is_plain_listener devices before) (workers before stretch)

-- one node that sleeps, and lists neither
abbrev pub is_plain_sleeper : List State → List Entry → ℕ → Bool
is_plain_sleeper devices before node = not (listens node before) && not (lists_a_layer devices node)

abbrev pub is_sleeper_alone : List State → List Entry → List Entry → Bool
is_sleeper_alone devices before stretch = is_alone before stretch && list_all (is_plain_sleeper devices before) (workers before stretch)

-- 500 ticks have passed, however many commands there are
abbrev pub is_long_enough : List Entry → Bool
is_long_enough stretch = nat_le 500 (waited stretch)

-- what is asked of a stretch for plain listeners that begins after a transcript, with the devices as they are then
abbrev pub AnswersTogether : List ℕ → List State → List Entry → List Entry → Type 0
AnswersTogether key devices before stretch =
    IsCalm (always (listing_of devices)) devices before (ticks_asked (lines_run before)) → IsStretch key devices before stretch
    → are_plain_listeners devices before stretch ≡ true → is_long_enough stretch ≡ true → answers_all devices before stretch ≡ true

-- of one for one node that sleeps
abbrev pub AnswersAsleep : List ℕ → List State → List Entry → List Entry → Type 0
AnswersAsleep key devices before stretch =
    IsCalm (always (listing_of devices)) devices before (ticks_asked (lines_run before)) → IsStretch key devices before stretch
    → is_sleeper_alone devices before stretch ≡ true → is_long_enough stretch ≡ true → answers_all devices before stretch ≡ true

-- one node is at work, and does not list Security 0
abbrev pub lists_security : List State → ℕ → Bool
lists_security devices node = list_any (λ class. class == 0x98) (listing_of devices node)

abbrev pub is_open_alone : List State → List Entry → List Entry → Bool
is_open_alone devices before stretch = is_alone before stretch && list_all (λ node. not (lists_security devices node)) (workers before stretch)

-- of one for such a node: it may take segments, and each of its commands has its own ticks
abbrev pub AnswersOpenly : List ℕ → List State → List Entry → List Entry → Type 0
AnswersOpenly key devices before stretch =
    IsCalm (always (listing_of devices)) devices before (ticks_asked (lines_run before)) → IsStretch key devices before stretch
    → is_open_alone devices before stretch ≡ true → is_time before stretch ≡ true → answers_all devices before stretch ≡ true

-- of one for one node of any kind
abbrev pub AnswersAlone : List ℕ → List State → List Entry → List Entry → Type 0
AnswersAlone key devices before stretch =
    IsCalm (always (listing_of devices)) devices before (ticks_asked (lines_run before)) → IsStretch key devices before stretch
    → is_alone before stretch ≡ true → is_time before stretch ≡ true → answers_all devices before stretch ≡ true

-- and of each
pub record AnswersInTime (key : List ℕ) (devices : List State) (before stretch : List Entry) : Type 0 where
  pub alone : AnswersAlone key devices before stretch
  pub asleep : AnswersAsleep key devices before stretch
  pub together : AnswersTogether key devices before stretch

-- ---- outcomes

-- In quiet lines each command of a node whose device lists Supervision, that waited before them or was accepted in them and has a final outcome, has the one that its
-- device's kind says of the message, on the values that the device had as the session began: however late it comes, and whatever was lost, repeated or changed
abbrev pub EndsAsJudged : List State → List Entry → List Entry → Type 0
EndsAsJudged devices before stretch =
    list_all is_quiet_line (lines_run stretch) ≡ true → (node command : ℕ) (device : State) → device_of node devices ≡ Some device → is_supervised device ≡ true
    → Has (commands_in before stretch node) command → is_final (outcome command (before ++ stretch)) ≡ true → is_answered devices before stretch node command ≡ true
