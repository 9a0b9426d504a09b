-- What a law owes that tells apart what a line has done, and nothing else in a line (this project's own rule).
use Rattle.std.specs.Prelude.{◌≡◌, ℕ, true, false, Option, List, [], ◌∷◌, ◌++◌}
use Rattle.route_table.specs.declared.route.Route.{Route}
use Rattle.zw_words.specs.declared.side.Side.TheVariants as side
use Rattle.zw_text.specs.declared.line.Line.{Line}
use Rattle.zw_text.specs.declared.line.Line.TheVariants as lines
use Rattle.zw_text.specs.declared.entry.Entry.{Entry}
use Rattle.zw_text.specs.declared.entry.Entry.TheVariants.{Said}
use Rattle.zw_text.specs.Transcript.{line_of}
use Rattle.proof_host.specs.law_transcript.Lists.{EachAfter}
use Rattle.proof_host.specs.host_model.Outs.{Silent}
use Rattle.proof_host.specs.host_model.Events.{HostEvent, Accepts, Cancels, Joins as joins_host, Queues, Queues_interview, Queues_probe}
use Rattle.proof_device.specs.outside_model.Events.{OuterEvent, Begins_line, Begins_tick, Chip_takes, Arrives, Gives, Device_ticks, Chip_ticks, Repeats, Wakes_device, Sets_device, Shows, Joins, Discovers, Links, Loses, Loses_acks, Marks_loss, Marks_change, Clears_pipe, Collides_next, Stalls, Cuts, Host_notes}
use Rattle.proof_device.specs.world_model.State.{Machine}
use Rattle.proof_device.specs.world_model.Events.{Event, Outside_does, Host_does, Host_takes, Decoder_ticks, Shows_values, happens, entries, May}
use Rattle.proof_device.specs.world_model.Lines.{IsEffect}
use Rattle.proof_walk.specs.Phases.{Phase, Said_line, Begun, Doing, Ticking_host}

-- ---- what is known

-- of the entries so far and the machine
abbrev pub KnownOf : Type 1
KnownOf = List Entry → Machine → Type 0

-- and that these events of the host answer no line
abbrev pub silently : List HostEvent → KnownOf → KnownOf
silently events Else past m = Silent events × Else past m

-- after the words of a line; once it has begun; with these events of its effect to come; and at all other phases
abbrev pub by_line : (Words Opened : Line → KnownOf) (Left : Line → List Event → KnownOf) (Else : KnownOf) → Phase → KnownOf
by_line Words Opened Left Else (Said_line line) = Words line
by_line Words Opened Left Else (Begun line) = Opened line
by_line Words Opened Left Else (Doing line left) = Left line left
by_line Words Opened Left Else (Ticking_host events ticks) = silently events Else
by_line Words Opened Left Else phase = Else

-- ---- events

-- an event of a tick or of a settling outside the host
abbrev pub IsOfTick : OuterEvent → Type 0
IsOfTick Begins_tick = Unit {0}
IsOfTick (Chip_takes count rest ways) = Unit {0}
IsOfTick (Arrives drawn route) = Unit {0}
IsOfTick (Gives route) = Unit {0}
IsOfTick (Device_ticks place drawn route) = Unit {0}
IsOfTick Chip_ticks = Unit {0}
IsOfTick _ = ⊥

-- so of the machine; what the host does then answers no line
abbrev pub IsCommon : Event → Type 0
IsCommon (Outside_does event) = IsOfTick event
IsCommon (Host_does event) = Silent (event ∷ [])
IsCommon (Host_takes count rest items events) = Unit {0}
IsCommon Decoder_ticks = Unit {0}
IsCommon _ = ⊥

-- what a line does outside by itself is covered; a line that shows the values of a node counts as one that shows its device
abbrev pub CoversLine : (OuterEvent → Type 0) → Line → Type 0
CoversLine Covers (lines.Cut size) = Covers (Cuts size)
CoversLine Covers (lines.Stall ticks) = Covers (Stalls ticks)
CoversLine Covers (lines.Drop by) = Covers (Marks_loss by)
CoversLine Covers (lines.Garble by place xor) = Covers (Marks_change by (record { place = place; xor = xor }))
CoversLine Covers lines.Collide = Covers Collides_next
CoversLine Covers (lines.Join node) = Covers (Joins node)
CoversLine Covers (lines.Lose count) = Covers (Loses count)
CoversLine Covers (lines.LoseAck count) = Covers (Loses_acks count)
CoversLine Covers (lines.Repeat frame) = (drawn : List ℕ) (route : Option Route) → Covers (Repeats frame drawn route)
CoversLine Covers (lines.Wake node) = (route : Option Route) → Covers (Wakes_device node route)
CoversLine Covers (lines.Link first second) = Covers (Links first second true)
CoversLine Covers (lines.Unlink first second) = Covers (Links first second false)
CoversLine Covers lines.Discover = Covers Discovers
CoversLine Covers (lines.Local node value) = (route : Option Route) → Covers (Sets_device node value route)
CoversLine Covers (lines.Show node) = Covers (Shows node)
CoversLine Covers (lines.Store node) = Covers (Shows node)
CoversLine Covers lines.Restart = Covers (Clears_pipe side.Host) × Covers (Clears_pipe side.Chip)
CoversLine Covers line = Unit {0}

-- what a line asks of the host
abbrev pub IsAsked : HostEvent → Type 0
IsAsked (Accepts order carriage) = Unit {0}
IsAsked (Cancels command) = Unit {0}
IsAsked (joins_host node) = Unit {0}
IsAsked (Queues asked) = Unit {0}
IsAsked (Queues_interview node) = Unit {0}
IsAsked Queues_probe = Unit {0}
IsAsked _ = ⊥

-- an event of the effect of a line: the host does what it is asked for, and what happens outside is covered, or that a node is shown
abbrev pub OfEffect : (OuterEvent → Type 0) → Event → Type 0
OfEffect Covers (Outside_does event) = Covers event
OfEffect Covers (Host_does event) = IsAsked event
OfEffect Covers (Host_takes count rest items events) = ⊥
OfEffect Covers Decoder_ticks = ⊥
OfEffect Covers (Shows_values node) = Covers (Shows node)
OfEffect Covers event = Unit {0}

-- it shows neither a device nor stored values
abbrev pub ShowsNothing : OuterEvent → Type 0
ShowsNothing (Shows node) = ⊥
ShowsNothing (Host_notes note) = ⊥
ShowsNothing _ = Unit {0}

-- ---- where a line begins

-- its words are the last entry, and what stands before them is tied to the machine
pub record Asked (Tied : KnownOf) (line : Line) (past : List Entry) (m : Machine) : Type 0 where
  pub before : List Entry
  pub words : List ℕ
  pub is : past ≡ before ++ Said words ∷ []
  pub read : line_of (Said words) ≡ line ∷ []
  pub ties : Tied before m

-- it has begun
abbrev pub begun : Machine → Machine
begun m = happens m (Outside_does Begins_line)

abbrev pub Opened : KnownOf → Line → KnownOf
Opened Tied line past m = (first : Machine) × Asked Tied line past first × (m ≡ begun first)

-- ---- what a law owes

-- of the beginning of a line, its effect, and of events that are no line's own
pub record InLine (Asks : List Entry → Entry → Type 0) (Words Opened : Line → KnownOf) (Left : Line → List Event → KnownOf) (Else : KnownOf) : Type 0 where
  pub begins : (line : Line) (past : List Entry) (m : Machine) → Words line past m →
      EachAfter Asks past (entries m (Outside_does Begins_line)) × Opened line (past ++ entries m (Outside_does Begins_line)) (happens m (Outside_does Begins_line))
  pub effect : (line : Line) (past : List Entry) (m : Machine) (events : List Event) → IsEffect line m events → Opened line past m → Left line events past m
  pub does : (line : Line) (first : Event) (left : List Event) (past : List Entry) (m : Machine) → May m first → Left line (first ∷ left) past m →
      EachAfter Asks past (entries m first) × Left line left (past ++ entries m first) (happens m first)
  pub done : (line : Line) (past : List Entry) (m : Machine) → Left line [] past m → Else past m
  pub ticks : (count : ℕ) (past : List Entry) (m : Machine) → Opened (lines.Tick count) past m → Else past m
  pub common : (past : List Entry) (m : Machine) (event : Event) → IsCommon event → May m event → Else past m →
      EachAfter Asks past (entries m event) × Else (past ++ entries m event) (happens m event)

-- and of its words
pub record ByLine (Asks : List Entry → Entry → Type 0) (Words Opened : Line → KnownOf) (Left : Line → List Event → KnownOf) (Else : KnownOf) : Type 0 where
  pub said : (past : List Entry) (m : Machine) (words : List ℕ) (line : Line) → line_of (Said words) ≡ line ∷ [] → Else past m →
      Asks past (Said words) × Words line (past ++ Said words ∷ []) m
  pub in_line : InLine Asks Words Opened Left Else

-- where more is known as it begins
pub record TiedByLine (Tied : KnownOf) (Asks : List Entry → Entry → Type 0) (Words Opened : Line → KnownOf) (Left : Line → List Event → KnownOf) (Else : KnownOf) : Type 0 where
  pub said : (past : List Entry) (m : Machine) (words : List ℕ) (line : Line) → line_of (Said words) ≡ line ∷ [] → Tied past m → Else past m →
      Asks past (Said words) × Words line (past ++ Said words ∷ []) m
  pub in_line : InLine Asks Words Opened Left Else
