-- Each is of one kind of step.
use Rattle.std.proofs.Common.{ℕ, List}
use Rattle.zw_text.specs.declared.entry.Entry.{Entry}
use Rattle.host_heard.specs.declared.told.Told.{Told}
use Rattle.law_transcript.specs.Units.{Carried}
use Rattle.proof_hearing.specs.proof_queue.proof_attempts.proof_requests.proof_alone.Phases.{Phase}
use Rattle.proof_hearing.specs.proof_queue.proof_attempts.proof_requests.proof_alone.State.{HostMachine}
use Rattle.proof_hearing.specs.proof_queue.proof_attempts.proof_requests.proof_alone.Steps.{Step, Tells, Comes, Misses, Says, Says_nothing, Asks, Refuses, Shows, Begins_tick, Numbers}
use Rattle.proof_hearing.proofs.proof_ends_Walking.{ShowsOpen}
use Rattle.proof_noting.specs.Following.{Outset}
use Rattle.proof_noting.specs.Ground.{GroundAlong}
use Rattle.proof_noting.specs.Steps.{IsBeside, StepFollows, first_of}
use Rattle.proof_noting.proofs.Begun.{pumps}
use Rattle.proof_noting.proofs.Lines.{asks as line_asks, refuses, says, says_nothing, shows_stored}
use Rattle.proof_noting.proofs.Others.{begins, comes, misses, numbers, tells}
use Rattle.proof_noting.proofs.Rested.{asks, fits_asked, opens, rests, sleeps, submits, whole}
use Rattle.proof_noting.proofs.beside.notes_go_beside.Goals as goal

steps : (key : List ℕ) (taken : List Entry → Carried → List Told) (from : Outset) → ShowsOpen → GroundAlong taken (first_of key) → (here next : Phase) (past : List Entry) (m : HostMachine) (step : Step) → IsBeside step
    → StepFollows key taken from here past m step next
steps key taken from shows along here next past m (Tells e) is = tells key taken from shows along here next past m e
steps key taken from shows along here next past m (Comes unit) is = comes key taken from shows along here next past m unit
steps key taken from shows along here next past m (Misses text marks) is = misses key taken from shows along here next past m text marks
steps key taken from shows along here next past m (Says words line) is = says key taken from shows along here next past m words line
steps key taken from shows along here next past m (Says_nothing words) is = says_nothing key taken from shows along here next past m words
steps key taken from shows along here next past m (Asks event) is = line_asks key taken from shows along here next past m event
steps key taken from shows along here next past m (Refuses refusal) is = refuses key taken from shows along here next past m refusal
steps key taken from shows along here next past m (Shows node) is = shows_stored key taken from shows along here next past m node
steps key taken from shows along here next past m (Begins_tick left) is = begins key taken from shows along here next past m left
steps key taken from shows along here next past m Numbers is = numbers key taken from shows along here next past m
steps key taken from shows along here next past m step is = absurd is

pub returns-clause-steps : goal.returns-clause-steps
returns-clause-steps c = λ key taken from along here next past m step is. steps key taken from c.hosts_show_open_sessions.ensures.opened along here next past m step is

pub returns-clause-events : goal.returns-clause-events
returns-clause-events c = λ key taken from along here next past told m event pumping unsent. pumps key taken from c.hosts_show_open_sessions.ensures.opened along here next past told m event pumping unsent

pub returns-clause-rests : goal.returns-clause-rests
returns-clause-rests c = λ key taken from along next past m. rests key taken from next past m

pub returns-clause-asks : goal.returns-clause-asks
returns-clause-asks c = λ key taken from along line next past m. asks key taken from line next past m

pub returns-clause-opens : goal.returns-clause-opens
returns-clause-opens c = λ key taken from along next past m. opens key taken from next past m

pub returns-clause-sleeps : goal.returns-clause-sleeps
returns-clause-sleeps c = λ key taken from along next past m. sleeps key taken from next past m

pub returns-clause-submits : goal.returns-clause-submits
returns-clause-submits c = λ key taken from along next past m. submits key taken from next past m

pub returns-clause-fits_asked : goal.returns-clause-fits_asked
returns-clause-fits_asked c = λ key taken from along line past m. fits_asked key taken from line past m

pub returns-clause-whole : goal.returns-clause-whole
returns-clause-whole c = λ key taken from along past m sure over at. whole key taken from c.hosts_show_open_sessions.ensures.opened along past m sure over at
