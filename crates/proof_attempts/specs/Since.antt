-- What is known of a host alone since it started (this project's own rule): the words of a `restart` are taken back where it is refused, so while a line is asked it is known of what stood
-- before its words. And how far each node has come in a tick.
use Rattle.std.specs.Prelude.{◌≡◌, ℕ, ◌+◌, ◌-◌, ◌≤◌, ◌==◌, ◌||◌, Bool, true, false, if◌then◌else◌, List, [], ◌∷◌, ◌++◌, map, Some}
use Rattle.std.specs.List.{AllByRecursion}
use Rattle.serial_frame.specs.declared.item.Item.{Item}
use Rattle.serial_frame.specs.declared.unit.Unit.{Unit as LineUnit}
use Rattle.s0_crypto.specs.declared.key_pair.Keys.{Keys}
use Rattle.zw_words.specs.declared.side.Side.TheVariants.{Chip}
use Rattle.zw_text.specs.declared.line.Line.{Line}
use Rattle.zw_text.specs.declared.line.Line.TheVariants as lines
use Rattle.zw_text.specs.declared.entry.Refusal.{Refusal}
use Rattle.zw_text.specs.declared.entry.Entry.{Entry}
use Rattle.zw_text.specs.declared.entry.Entry.TheVariants as entry
use Rattle.zw_text.specs.Transcript.{line_of}
use Rattle.proof_work.specs.law_transcript.Restarts.{is_restart}
use Rattle.proof_requests.specs.host_model.State.{HostState}
use Rattle.host_requests.specs.Events.RequestsEvent.{Ticks as request_ticks}
use Rattle.host_node.specs.declared.attempt.Moment.TheVariants.{BeforeItsTick, BetweenTicks}
use Rattle.proof_requests.specs.host_model.Did.{MayAll, after_all}
use Rattle.proof_requests.specs.host_model.Ticking.{first_ticks, ticking_nodes}
use Rattle.proof_requests.specs.host_model.Events.{HostEvent, Accepts, Begins, Hears, Line_ticks, Node_ticks, Queues, Requests_do}
use Rattle.proof_requests.specs.host_model.After.{after}
use Rattle.proof_requests.specs.host_model.Outs.{answers}
use Rattle.proof_work.specs.world_model.Events.{OpensFrom}
use Rattle.proof_requests.specs.proof_alone.State.{HostMachine, done, first_alone}
use Rattle.proof_requests.specs.proof_alone.Steps.{Does, IsAskedBy, Says, Step, entries, happens}
use Rattle.proof_requests.specs.proof_alone.Phases.{Phase, Resting, Asked, Risen, Ticking, Open, Behind, IsJudgedNow, IsNumbered, May, Turns}
use Rattle.proof_requests.specs.proof_alone.Runs.{Knowledge, Run, both_know}
use Rattle.proof_requests.specs.proof_alone.Tables.{KnowsTables}
use Rattle.proof_requests.specs.proof_alone.Time.{KnowsClock}
pub use Rattle.proof_requests.specs.proof_waking.Judged.{IsElse}

-- ---- nodes in a tick

-- the tick of a node is among these: those of the line and of the request come first
abbrev pub is_to_tick : ℕ → List HostEvent → Bool
is_to_tick n [] = false
is_to_tick n (Node_ticks node ∷ left) = (node == n) || is_to_tick n left
is_to_tick n (event ∷ left) = true

-- the time of a node: while its tick is to come it is that of the tick before
abbrev pub node_clock : Phase → ℕ → ℕ → ℕ
node_clock Risen clock n = clock - 1
node_clock (Ticking left) clock n = if is_to_tick n left then clock - 1 else clock
node_clock here clock n = clock

-- ticks of nodes, one of each
abbrev pub AreNodeTicks : List HostEvent → Type 0
AreNodeTicks [] = Unit {0}
AreNodeTicks (Node_ticks n ∷ left) = (is_to_tick n left ≡ false) × AreNodeTicks left
AreNodeTicks (event ∷ left) = ⊥

-- the events of a tick that are left: those of the line and of the request come first, then one of each node that has a wait when these are over
abbrev pub TicksLeft : HostState → List HostEvent → Type 0
TicksLeft h (Line_ticks ∷ left) = left ≡ Requests_do request_ticks BeforeItsTick ∷ map Node_ticks (ticking_nodes (after_all h first_ticks))
TicksLeft h (Requests_do event moment ∷ left) = (moment ≡ BeforeItsTick) × (left ≡ map Node_ticks (ticking_nodes (after h (Requests_do event moment))))
TicksLeft h left = AreNodeTicks left

-- no node ticks; and behind an item nothing of a tick comes, no command is accepted, no line asks for a request, and no session begins
abbrev pub IsBetweenTicks : HostEvent → Type 0
IsBetweenTicks (Node_ticks n) = ⊥
IsBetweenTicks event = Unit {0}

abbrev pub IsOfItem : HostEvent → Type 0
IsOfItem Line_ticks = ⊥
IsOfItem (Node_ticks n) = ⊥
IsOfItem (Requests_do event moment) = moment ≡ BetweenTicks
IsOfItem (Accepts order carriage) = ⊥
IsOfItem (Queues task) = ⊥
IsOfItem (Begins n session command) = ⊥
IsOfItem event = Unit {0}

abbrev pub TicksAt : Phase → HostState → ℕ → Type 0
TicksAt Risen h clock = 1 ≤ clock
TicksAt (Ticking left) h clock = TicksLeft h left × (1 ≤ clock)
TicksAt (Behind left) h clock = AllByRecursion IsOfItem left
TicksAt here h clock = Unit {0}

-- ---- ties

-- of the entries so far and a host, at a phase and a time
abbrev pub TieOf : Type 1
TieOf = Phase → List Entry → HostState → ℕ → Type 0

-- the words of a line stand last: it holds of what stood before them, of them where they do not start the host again, and where they are refused
pub record BeforeWords (Tie : TieOf) (line : Line) (past : List Entry) (m : HostMachine) : Type 0 where
  pub before : List Entry
  pub words : List ℕ
  pub are : past ≡ before ++ entry.Said words ∷ []
  pub read : line_of (entry.Said words) ≡ line ∷ []
  pub unnumbered : m.awaits ≡ false
  pub tie : Tie Resting before m.state m.clock
  pub goes_on : is_restart (line ∷ []) ≡ false → Tie Resting past m.state m.clock
  pub in_vain : (refusal : Refusal) → Tie Open (past ++ entry.Refused refusal ∷ []) m.state m.clock

abbrev pub KnowsSince : TieOf → Knowledge
KnowsSince Tie (Asked line) past m = BeforeWords Tie line past m
KnowsSince Tie here past m = Tie here past m.state m.clock

-- the events that are left of a tick, or behind an item
abbrev pub InTick : TieOf
InTick here past h clock = TicksAt here h clock

-- with the tables and the clock
abbrev pub KnowsTicks : Knowledge
KnowsTicks = both_know (both_know KnowsTables KnowsClock) (KnowsSince InTick)

-- ---- what is owed

-- an entry of others, a unit of the chip and what became of it, or values that are shown
abbrev pub IsLoose : Entry → Type 0
IsLoose (entry.Written Chip unit) = Unit {0}
IsLoose (entry.Dropped Chip) = Unit {0}
IsLoose (entry.Garbled Chip unit) = Unit {0}
IsLoose (entry.Overrun Chip) = Unit {0}
IsLoose (entry.Air frame sender receiver repeaters payload) = Unit {0}
IsLoose (entry.Heard frame) = Unit {0}
IsLoose (entry.Lost frame) = Unit {0}
IsLoose (entry.Unheard frame) = Unit {0}
IsLoose (entry.Dev node by setting) = Unit {0}
IsLoose (entry.Device node setting) = Unit {0}
IsLoose (entry.Forget first second) = Unit {0}
IsLoose entry.ChipFull = Unit {0}
IsLoose (entry.Cleared side count) = Unit {0}
IsLoose (entry.Json text) = Unit {0}
IsLoose e = ⊥

-- a walk on a ground of which it is known before each step and after it
pub record WalkBoth (Ground Know : Knowledge) : Type 0 where
  pub step : (here next : Phase) (past : List Entry) (m : HostMachine) (one : Step) → May here m one next → Ground here past m → Ground next (past ++ entries m one) (happens m one) → Know here past m
      → Know next (past ++ entries m one) (happens m one)
  pub turn : (here next : Phase) (past : List Entry) (m : HostMachine) → Turns here m next → Ground here past m → Know here past m → Know next past m

-- so it is at each step of a host that starts with these keys, over a keeper that tells its records and has none at first
abbrev pub AlongRuns : Keys → Knowledge → Type 0
AlongRuns keys Know = (here : Phase) (told : List Entry) (m : HostMachine) → Run (first_alone keys (Some [])) here told m → Know here told m

-- What a tie owes to go on along each run, on a ground: with entries that are loose and the number of a tick, with words that do not start the host again or are refused; with what a line asks,
-- and where the host starts again; with an item, an event, and each tick and part that begins.
pub record Lasts (Ground : Knowledge) (Tie : TieOf) : Type 0 where
  pub loose : (here at : Phase) (past told : List Entry) (m : HostMachine) → AllByRecursion IsLoose told → m.awaits ≡ false → Ground at past m → Tie here past m.state m.clock
      → Tie here (past ++ told) m.state m.clock
  pub numbers : (here : Phase) (past : List Entry) (m : HostMachine) → IsElse here → Ground here past m → Ground here (past ++ entry.Time m.clock ∷ []) (record m { awaits = false })
      → Tie here past m.state m.clock → Tie here (past ++ entry.Time m.clock ∷ []) m.state m.clock
  pub said : (past : List Entry) (words : List ℕ) (m : HostMachine) → m.left ≡ 0 → Ground Resting past m → is_restart (line_of (entry.Said words)) ≡ false → Tie Resting past m.state m.clock
      → Tie Resting (past ++ entry.Said words ∷ []) m.state m.clock
  pub refused : (past : List Entry) (words : List ℕ) (line : Line) (refusal : Refusal) (m : HostMachine) → m.left ≡ 0 → Ground Resting past m
      → Ground (Asked line) (past ++ entry.Said words ∷ []) (happens m (Says words line)) → Tie Resting past m.state m.clock
      → Tie Open (past ++ entry.Said words ∷ (entry.Refused refusal ∷ [])) m.state m.clock
  pub asked : (line : Line) (past : List Entry) (m : HostMachine) (event : HostEvent) → IsAskedBy line m.state event → MayAll m.state (event ∷ []) → IsNumbered m (answers m.state event)
      → Ground (Asked line) past m → Ground Open (past ++ answers m.state event) (done m event) → Tie Resting past m.state m.clock → Tie Open (past ++ answers m.state event) (after m.state event) m.clock
  pub starts : (before : List Entry) (words : List ℕ) (m : HostMachine) (state : HostState) → OpensFrom m.keys m.records state → is_restart (line_of (entry.Said words)) ≡ true
      → Ground (Asked lines.Restart) (before ++ entry.Said words ∷ []) m → Ground Open (before ++ entry.Said words ∷ []) (record m { state = state; came = [] })
      → Tie Open (before ++ entry.Said words ∷ []) state m.clock
  pub opens : (past : List Entry) (h : HostState) (clock : ℕ) → Tie Resting past h clock → Tie Open past h clock
  pub rises : (past : List Entry) (m : HostMachine) → Ground Resting past m → Tie Resting past m.state m.clock → Tie Risen past m.state (m.clock + 1)
  pub judges : (past : List Entry) (m : HostMachine) (item : Item) (rest : List LineUnit) (behind : List HostEvent) (told : List Entry) → IsJudgedNow m item rest behind told → Ground Open past m
      → Ground (Behind behind) (past ++ told) (record (done m (Hears item)) { came = rest }) → Tie Open past m.state m.clock → Tie (Behind behind) (past ++ told) (after m.state (Hears item)) m.clock
  pub does : (here next : Phase) (past : List Entry) (m : HostMachine) (event : HostEvent) (told : List Entry) → May here m (Does event told) next → Ground here past m
      → Ground next (past ++ told) (done m event) → Tie here past m.state m.clock → Tie next (past ++ told) (after m.state event) m.clock
  pub turn : (here next : Phase) (past : List Entry) (m : HostMachine) → IsElse here → Turns here m next → Ground here past m → Tie here past m.state m.clock → Tie next past m.state m.clock
