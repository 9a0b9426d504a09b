-- What is known of sleep that is owed, at each phase of a host alone (this project's own rule): none is, of a node whose third attempt has ended; and directly after a frame that ends a request
-- no node that it tells that there is no more has slept since.
use Rattle.std.specs.Prelude.{◌≡◌, ℕ, ◌-◌, true, false, List, Some}
use Rattle.std.specs.List.{AllByRecursion}
use Rattle.chip_functions.specs.Field.{IsNode}
use Rattle.zw_text.specs.declared.entry.Entry.{Entry}
use Rattle.proof_work.specs.law_time.Judged.{is_directly_after}
use Rattle.proof_work.specs.law_time.Requests.{asked}
use Rattle.proof_work.specs.law_time.Ends.{has_ended, is_ending_here}
use Rattle.proof_work.specs.law_time.Waking.{has_slept, is_told, owes_sleep_to_given_up}
use Rattle.host_requests.specs.declared.under_way.UnderWay.{UnderWay}
use Rattle.proof_requests.specs.host_model.Events.{HostEvent, Node_ticks}
use Rattle.proof_requests.specs.proof_alone.Phases.{Phase, Ticking}
use Rattle.proof_requests.specs.proof_alone.Runs.{Knowledge, both_know}
use Rattle.proof_requests.specs.Ends.{KnowsEnds}
use Rattle.proof_attempts.specs.Since.{KnowsSince}
use Rattle.proof_attempts.specs.Slept.{KnowsTelling, SleepsIfTold}

-- a request that is under way has not ended before the tick whose number is still to be entered
abbrev pub KnowsUnended : Knowledge
KnowsUnended here past m = m.awaits ≡ true → (u : UnderWay) → m.state.requests.under_way ≡ Some u → has_ended (asked past) (m.clock - 1) ≡ false

-- the nodes that are to tick are nodes
abbrev pub TicksNode : HostEvent → Type 0
TicksNode (Node_ticks n) = IsNode n
TicksNode event = Unit {0}

abbrev pub NodesTick : Phase → Type 0
NodesTick (Ticking left) = AllByRecursion TicksNode left
NodesTick here = Unit {0}

abbrev pub KnowsTicking : Knowledge
KnowsTicking here past m = NodesTick here

-- directly after a frame that ends the last request none that it tells has slept since
abbrev pub IsFresh : List Entry → Type 0
IsFresh past = is_directly_after past ≡ true → is_ending_here past ≡ true → (n : ℕ) → is_told n (asked past).frame ≡ true → has_slept n (asked past).following ≡ false

abbrev pub OwesNone : List Entry → Type 0
OwesNone past = IsFresh past × (owes_sleep_to_given_up past ≡ false)

abbrev pub KnowsSlept : Knowledge
KnowsSlept here past m = OwesNone past

-- on what ground
abbrev pub KnowsSleep : Knowledge
KnowsSleep = both_know (both_know (both_know KnowsTelling (KnowsSince SleepsIfTold)) KnowsEnds) (both_know KnowsUnended KnowsTicking)
