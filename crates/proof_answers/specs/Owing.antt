-- What the chip is to give its host at the next tick (Serial API: SendData callbacks, RequestNodeInfo; the order is this project's own rule), by the transcript and by what is outside the
-- host: callbacks of SendData without a route, and the information of nodes.
use Rattle.std.specs.Prelude.{ℕ, ◌==◌, ◌&&◌, not, nat_le, nat_lt, Bool, true, false, if◌then◌else◌, Option, List, [], ◌∷◌, ◌++◌, map, filter}
use Rattle.std.specs.Option.{is_some}
use Rattle.std.specs.List.{flat_map}
use Rattle.chip_functions.specs.declared.request.Request.{Request}
use Rattle.chip_functions.specs.declared.request.Request.TheVariants.{RequestNodeInfo}
use Rattle.chip_functions.specs.declared.notice.TransmitStatus.TheVariants.{NoRoute}
use Rattle.chip_sim.specs.declared.out.Sending.{Sending as SendingParts}
use Rattle.zw_text.specs.declared.entry.Entry.{Entry}
use Rattle.law_transcript.specs.Lists.{last_or}
use Rattle.law_wire.specs.Asked.{Asked, Course, Sending, asked, clock_of, last_sending}
use Rattle.law_wire.specs.Results.{Called, ended_by, ended_without, settled_clock}
use Rattle.law_wire.specs.Given.{Given, Information, callback_of}
use Rattle.outside_model.specs.declared.waits.Call.{Call}
use Rattle.outside_model.specs.declared.waits.Due.{Due}
use Rattle.outside_model.specs.declared.waits.Due.TheVariants.{Info, NoRoute as no_route_due}
use Rattle.outside_model.specs.State.{OuterState}
use Rattle.proof_chip.specs.proof_line.proof_traffic.OutsideTraffic.{flags}

-- the callback of a SendData that has ended, or the information of a node that was asked for in the tick of a clock
pub data Owed : Type 0 where
  Ends : (one : Called) → Owed
  Informs : (node ticks : ℕ) → Owed

-- where it comes after these entries
abbrev pub come : List Entry → Owed → Given
come past (Ends one) = callback_of one
come past (Informs node ticks) = Information node ticks past

-- the SendData that end
abbrev pub ends_in : List Owed → List Called
ends_in [] = []
ends_in (Ends one ∷ more) = one ∷ ends_in more
ends_in (Informs node ticks ∷ more) = ends_in more

-- ---- by the transcript

abbrev pub informs : ℕ → Request → List Owed
informs ticks (RequestNodeInfo node) = Informs node ticks ∷ []
informs ticks request = []

-- what comes of one that was asked, and of several
abbrev pub owed_of : Course → List Entry → Asked → List Owed
owed_of course past one = informs (clock_of one.past) one.request ++ map (λ called. Ends called) (ended_without course past one)

abbrev pub owed_in : Course → List Entry → List Asked → List Owed
owed_in course past all = flat_map (owed_of course past) all

-- those whose results come before a clock, and are not told yet; and those of the tick of a clock
abbrev pub comes_within : ℕ → ℕ → Asked → Bool
comes_within from to one = nat_le from (clock_of one.past) && nat_lt (clock_of one.past) to

abbrev pub due_before : ℕ → Course → List Entry → List Asked
due_before clock course past = filter (comes_within (settled_clock past) clock) (asked course past)

abbrev pub is_of_tick : ℕ → Asked → Bool
is_of_tick clock one = clock_of one.past == clock

abbrev pub asked_in_tick : ℕ → Course → List Entry → List Asked
asked_in_tick clock course past = filter (is_of_tick clock) (asked course past)

-- ---- by what is outside the host

abbrev pub has_no_route : List Due → Bool
has_no_route [] = false
has_no_route (no_route_due ∷ due) = true
has_no_route (Info node ∷ due) = has_no_route due

-- the information of each node that is due, and with the last result without a route these
abbrev pub dues : List Owed → ℕ → List Due → List Owed
dues own ticks [] = []
dues own ticks (Info node ∷ due) = Informs node ticks ∷ dues own ticks due
dues own ticks (no_route_due ∷ due) = (if has_no_route due then [] else own) ++ dues own ticks due

-- the SendData under way, where its call, the last one, is of no frame
abbrev pub unrouted : List Sending → Option SendingParts → List Call → List Called
unrouted sendings under calls = if is_some under && not (last_or false (flags calls)) then ended_by NoRoute sendings else []

abbrev pub owed_by : List Sending → Option SendingParts → List Call → ℕ → List Due → List Owed
owed_by sendings under calls ticks due = dues (map (λ called. Ends called) (unrouted sendings under calls)) ticks due

-- what the chip is owed, of which what was asked was asked in that tick
abbrev pub owed_now : Course → List Entry → ℕ → OuterState → List Owed
owed_now course past ticks o = owed_by (last_sending course past) o.chip.state.sending o.calls ticks o.due
