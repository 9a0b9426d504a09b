-- What waits to be asked of the chip where a host alone may submit a request, and where it rests (this project's own rule): by its transcript as in the host.
use Rattle.std.specs.Prelude.{◌≡◌, ℕ, true, List, map}
use Rattle.zw_words.specs.declared.side.Side.TheVariants.{Host}
use Rattle.zw_text.specs.declared.entry.Entry.{Entry}
use Rattle.zw_text.specs.declared.entry.Entry.TheVariants.{Written}
use Rattle.law_time.specs.Heeds.{Heeds}
use Rattle.law_time.specs.Moments.{clock}
use Rattle.law_time.specs.Queue.{queue_before, with_due}
use Rattle.law_time.specs.Requests.{asked, is_new}
use Rattle.proof_giving.specs.proof_queue.proof_attempts.proof_requests.Walking.{Ground as RequestsGround, KnowsAsked}
use Rattle.proof_giving.specs.proof_queue.proof_attempts.proof_requests.proof_alone.Phases.{Resting, Submitting}
use Rattle.proof_giving.specs.proof_queue.proof_attempts.proof_requests.proof_alone.Runs.{Knowledge, both_know}
use Rattle.proof_giving.specs.proof_queue.Waiting.{queue_of, want_of_task}
use Rattle.proof_giving.specs.proof_queue.proof_attempts.proof_requests.proof_alone.State.{HostMachine}

-- before each request that is new, once the tick is told
abbrev pub WaitsAnew : Heeds → List Entry → HostMachine → Type 0
WaitsAnew heeds past m = (unit : List ℕ) → is_new (asked past) unit ≡ true → clock past ≡ m.clock → (queue_before heeds past (Written Host unit)).wants ≡ map want_of_task m.state.requests.queue

abbrev pub KnowsWants : Heeds → Knowledge
KnowsWants heeds Submitting past m = WaitsAnew heeds past m
KnowsWants heeds Resting past m = (with_due heeds past m.clock (asked past) (queue_of heeds past)).wants ≡ map want_of_task m.state.requests.queue
KnowsWants heeds here past m = Unit {0}

-- with how the last request stands
abbrev pub AskingGround : Heeds → Knowledge
AskingGround heeds = both_know (both_know RequestsGround KnowsAsked) (KnowsWants heeds)
