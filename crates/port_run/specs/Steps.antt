-- What the host of a port does, one step at a time (this project's own rule, over the events of a host).
use Rattle.std.specs.Prelude.{◌≡◌, ◌≢◌, ℕ, ◌+◌, ◌≤◌, Bool, true, false, List, [], ◌∷◌, ◌++◌, length, Option, Some, None}
use Rattle.serial_frame.specs.Stream.{after_tick}
use Rattle.zw_base.specs.Faults.{Rose}
use Rattle.zw_text.specs.declared.line.Line.{Line}
use Rattle.zw_text.specs.declared.line.Line.TheVariants.{Command, Send, Get, Join, Interview, Probe}
use Rattle.host_keep.specs.Keeping.{OptAdds, Shelf}
use Rattle.host_orders.specs.declared.refused.Refused.{Refused}
use Rattle.host_orders.specs.declared.refused.Refused.TheVariants.{NoMemory}
use Rattle.host_orders.specs.Errands.{send_refusal, send_text, get_refusal, get_text}
use Rattle.host_orders.specs.Refusals.{classes_of}
use Rattle.host_requests.specs.declared.task.Task.TheVariants.{Plain}
use Rattle.host_model.specs.State.{HostState, HostParts, node_of}
use Rattle.host_model.specs.Events.{HostEvent, Accepts, Joins, Queues, Queues_interview, Queues_probe}
use Rattle.host_model.specs.May.{known_of}
use Rattle.host_model.specs.Asking.{carriage_for, refusal_for, join_refusal, interview_refusal, places_refusal}
use Rattle.host_model.specs.Pumping.{Pumps as pump_events}
use Rattle.host_model.specs.Taking.{Fed}
use Rattle.host_model.specs.Ticking.{tick_events}
use Rattle.host_model.specs.declared.out.HostOut.{HostOut}
use Rattle.host_core.specs.Calls.{scene, Are, Does}
use Rattle.port_run.specs.declared.asking.Answer.{Answer}
use Rattle.port_run.specs.declared.asking.Answer.TheVariants.{Taken, Command as numbered, Refused as refused}

-- a host, and what its keeper holds
pub record Place : Type 0 where
  pub host : HostParts
  pub shelf : Shelf

abbrev pub place : HostParts → Shelf → Place
place host shelf = record { host = host; shelf = shelf }

-- the host is asked for something, and answers; it takes bytes of the chip, at least one unless there was no memory for more; a read
-- gives no bytes; a tick of 100 ms passes; the host submits what it may
pub data Step : Type 0 where
  Asks : (line : Line) (answer : Answer) → Step
  Takes : (bytes : List ℕ) → Step
  Rests : Step
  Ticks : Step
  Pumps : Step

-- ---- a line

-- what a line asks of the host
abbrev pub asked_by : HostState → Line → List HostEvent
asked_by h (Command order) = Accepts order (carriage_for h order) ∷ []
asked_by h (Send node word) = Queues (Plain node (send_text (classes_of (known_of (node_of h node))) word)) ∷ []
asked_by h (Get node end) = Queues (Plain node (get_text (classes_of (known_of (node_of h node))) end)) ∷ []
asked_by h (Join node) = Joins node ∷ []
asked_by h (Interview node) = Queues_interview node ∷ []
asked_by h Probe = Queues_probe ∷ []
asked_by h line = []

-- the rule that refuses a line
abbrev pub refusal_by : HostState → Line → Option Refused
refusal_by h (Command order) = refusal_for h order
refusal_by h (Send node word) = send_refusal (known_of (node_of h node)) (length h.requests.queue) word
refusal_by h (Get node end) = get_refusal (known_of (node_of h node)) (length h.requests.queue) end
refusal_by h (Join node) = join_refusal h node
refusal_by h (Interview node) = interview_refusal h node
refusal_by h Probe = places_refusal h 3
refusal_by h line = None

-- an order that is taken has the next number
abbrev pub answers_to : HostState → Line → Answer
answers_to h (Command order) = numbered (length h.commands + 1)
answers_to h line = Taken

-- nothing happened, whatever became of the keeper's count
pub record IsStill (old new : Place) : Type 0 where
  pub host : new.host ≡ old.host
  pub records : OptAdds old.shelf.records new.shelf.records []
  pub never_falls : old.shelf.faults ≤ new.shelf.faults

-- of these lines a record is kept
abbrev pub is_recorded : Line → Bool
is_recorded (Command order) = true
is_recorded (Join node) = true
is_recorded line = false

-- a rule refuses, which is no allocation failure; or none does, a record was to be kept, and the keeper failed
abbrev pub IsRefusedBy : Bool → Option Refused → ℕ → ℕ → Type 0
IsRefusedBy recorded (Some rule) faults faults' = rule ≢ NoMemory
IsRefusedBy recorded None faults faults' = (recorded ≡ true) × Rose faults faults'

-- events of this kind happened, and the host put this out
abbrev pub HostDoes : (List HostEvent → Type 0) → Place → Place → List HostOut → Type 0
HostDoes Kind old new outs = Does Kind (scene old.host.state [] old.shelf) (scene new.host.state outs new.shelf)

-- no rule refuses, the host does what was asked, and answers
pub record IsTaken (line : Line) (answer : Answer) (old new : Place) : Type 0 where
  pub answer_is : answer ≡ answers_to old.host.state line
  pub unrefused : refusal_by old.host.state line ≡ None
  pub does : HostDoes (Are (asked_by old.host.state line)) old new []
  pub decoder : new.host.decoder ≡ old.host.decoder

abbrev pub Asked : Line → Answer → Place → Place → Type 0
Asked line refused old new = IsStill old new × IsRefusedBy (is_recorded line) (refusal_by old.host.state line) old.shelf.faults new.shelf.faults
Asked line Taken old new = IsTaken line Taken old new
Asked line (numbered command) old new = IsTaken line (numbered command) old new

-- ---- steps

-- what a step makes of the host, and what the host puts out at it
abbrev pub Ran : Step → Place → Place → List HostOut → Type 0
Ran (Asks line answer) old new outs = Asked line answer old new × (outs ≡ [])
Ran (Takes bytes) old new outs = Fed old.host bytes new.host [] outs old.shelf new.shelf
Ran Rests old new outs = (new ≡ old) × (outs ≡ [])
Ran Ticks old new outs = HostDoes (Are (tick_events old.host.state)) old new outs × (new.host.decoder ≡ after_tick old.host.decoder)
Ran Pumps old new outs = HostDoes (pump_events old.host.state) old new outs × (new.host.decoder ≡ old.host.decoder)

-- steps, one after another
abbrev pub AllRan : List Step → Place → Place → List HostOut → Type 0
AllRan [] old new outs = (new ≡ old) × (outs ≡ [])
AllRan (step ∷ steps) old new outs =
    (mid : Place) × (first later : List HostOut) × Ran step old mid first × AllRan steps mid new later × (outs ≡ first ++ later)
