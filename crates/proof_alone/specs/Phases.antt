-- Where in a line a host alone is, which steps may come there, and what begins when a part is over (this project's own rule).
use Rattle.std.specs.Prelude.{◌≡◌, ◌⊎◌, ℕ, suc, true, false, List, [], ◌∷◌, Some, None}
use Rattle.serial_frame.specs.declared.item.Item.{Item}
use Rattle.serial_frame.specs.declared.unit.Unit.{Unit as LineUnit}
use Rattle.zw_text.specs.declared.line.Line.{Line}
use Rattle.zw_text.specs.declared.line.Line.TheVariants as lines
use Rattle.zw_text.specs.declared.entry.Entry.{Entry}
use Rattle.zw_text.specs.declared.entry.Entry.TheVariants.{Said}
use Rattle.zw_text.specs.Transcript.{line_of}
use Rattle.law_host.specs.Heard.{is_of_others}
use Rattle.host_node.specs.Search.{first_wanting}
use Rattle.proof_line.specs.host_model.State.{HostState}
use Rattle.proof_line.specs.host_model.Events.{HostEvent, Hears}
use Rattle.proof_line.specs.host_model.After.{after}
use Rattle.proof_line.specs.host_model.Did.{MayAll}
use Rattle.proof_line.specs.host_model.Outs.{answers, outs}
use Rattle.proof_line.specs.host_model.Pumping.{no_more_event, IsNext, IsPumped}
use Rattle.proof_line.specs.host_model.Taking.{IsFollowed}
use Rattle.proof_line.specs.host_model.Ticking.{tick_events}
use Rattle.proof_line.specs.world_model.Events.{OpensFrom}
use Rattle.proof_line.specs.world_model.Refusals.{IsRefused}
use Rattle.proof_alone.specs.State.{HostMachine, with_world}
use Rattle.proof_alone.specs.Steps.{AreTold, AsksNothing, DidNotCome, IsOfOthers, IsAskedBy, Step, Tells, Comes, Misses, Says, Says_nothing, Asks, Refuses, Shows, Restarts, Begins_tick, Numbers, Judges, Does, TakesItem, AreFrames, ChangesFrame, IsFramed}

pub data Phase : Type 0 where
  -- it has pumped: a line may be said, or a tick begin
  Resting : Phase
  -- the words of a line stand last; a tick has begun; of the host's own part of it these events are to come
  Asked : (line : Line) → Phase
  Risen : Phase
  Ticking : (left : List HostEvent) → Phase
  -- items may be judged; behind one these events are to come
  Open : Phase
  Behind : (left : List HostEvent) → Phase
  -- in a pump: it lets nodes sleep, and submits requests
  Sleeping : Phase
  Submitting : Phase

-- no part of the host runs, and no line was just said
abbrev pub IsBetween : Phase → Type 0
IsBetween Resting = Unit {0}
IsBetween Risen = Unit {0}
IsBetween Open = Unit {0}
IsBetween here = ⊥

-- while the number of the tick is still to be entered nothing else is
abbrev pub IsNumbered : HostMachine → List Entry → Type 0
IsNumbered m told = m.awaits ≡ true → told ≡ []

-- the event comes next here, and leads there
abbrev pub GoesBy : Phase → HostState → HostEvent → Phase → Type 0
GoesBy (Ticking (first ∷ left)) h event next = (event ≡ first) × (next ≡ Ticking left)
GoesBy (Behind (first ∷ left)) h event next = (event ≡ first) × (next ≡ Behind left)
GoesBy Sleeping h event next = (node : ℕ) × (first_wanting h.nodes ≡ Some node) × (event ≡ no_more_event h node) × (next ≡ Sleeping)
GoesBy Submitting h event next = IsNext h event × (next ≡ Submitting)
GoesBy here h event next = ⊥

-- an item is judged: it is the next that came, is answered, and these events follow it
pub record IsJudgedNow (m : HostMachine) (item : Item) (rest : List LineUnit) (behind : List HostEvent) (told : List Entry) : Type 0 where
  pub takes : TakesItem item m.came rest
  pub may : MayAll m.state (Hears item ∷ [])
  pub followed : IsFollowed (after m.state (Hears item)) m.state.side.turn item behind
  pub told_so : AreTold (outs m.state (Hears item)) told
  pub numbered : IsNumbered m told

-- an answer comes where it is judged before the host goes on; a frame may have to wait
abbrev pub MayCome : Phase → LineUnit → Type 0
MayCome here unit = IsFramed unit ⊎ (here ≡ Open)

-- the step may come here, and leads there
abbrev pub May : Phase → HostMachine → Step → Phase → Type 0
May here m (Tells told) next = IsBetween here × IsOfOthers told × (m.awaits ≡ false) × (next ≡ here)
May here m (Comes unit) next = IsBetween here × (m.awaits ≡ false) × (next ≡ here) × MayCome here unit
May here m (Misses text marks) next = IsBetween here × DidNotCome marks × (m.awaits ≡ false) × (next ≡ here) × ChangesFrame text marks
May here m (Says words line) next = (here ≡ Resting) × (m.left ≡ 0) × (line_of (Said words) ≡ line ∷ []) × (next ≡ Asked line)
May here m (Says_nothing words) next = (here ≡ Resting) × (m.left ≡ 0) × (line_of (Said words) ≡ []) × (next ≡ here)
May here m (Asks event) next = (line : Line) × (here ≡ Asked line) × IsAskedBy line m.state event × MayAll m.state (event ∷ []) × IsNumbered m (answers m.state event) × (next ≡ Open)
May here m (Refuses refusal) next =
    (line : Line) × (here ≡ Asked line) × (IsRefused (with_world m) line refusal ⊎ (is_of_others (line ∷ []) ≡ true)) × (m.awaits ≡ false) × (next ≡ Open)
May here m (Shows node) next = (here ≡ Asked (lines.Store node)) × (m.awaits ≡ false) × (next ≡ Open)
May here m (Restarts state) next = (here ≡ Asked lines.Restart) × OpensFrom m.keys m.records state × (next ≡ Open)
May here m (Begins_tick left) next = (here ≡ Resting) × (m.left ≡ suc left) × (next ≡ Risen)
May here m Numbers next = (m.awaits ≡ true) × (next ≡ here)
May here m (Judges item rest behind told) next = (here ≡ Open) × IsJudgedNow m item rest behind told × (next ≡ Behind behind)
May here m (Does event told) next = GoesBy here m.state event next × MayAll m.state (event ∷ []) × AreTold (outs m.state event) told × IsNumbered m told

-- a part is over, and the next one begins, with no step
abbrev pub Turns : Phase → HostMachine → Phase → Type 0
Turns Resting m next = next ≡ Open
Turns (Asked line) m next = (AsksNothing line × (next ≡ Open)) ⊎ ((ticks : ℕ) × (line ≡ lines.Tick ticks) × (next ≡ Resting))
Turns Risen m next = next ≡ Ticking (tick_events m.state)
Turns (Ticking []) m next = next ≡ Open
Turns Open m next = next ≡ Sleeping
Turns (Behind []) m next = next ≡ Open
Turns Sleeping m next = (first_wanting m.state.nodes ≡ None) × (next ≡ Submitting) × AreFrames m.came
Turns Submitting m next = IsPumped m.state × (next ≡ Resting)
Turns here m next = ⊥
