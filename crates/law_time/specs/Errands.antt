-- How a Set or Get that a line asked for has ended (Serial API: transmit status; which entry says so is this project's own rule).
use Rattle.std.specs.Prelude.{ℕ, ◌==◌, ◌&&◌, ◌||◌, not, bytes_eq, Bool, true, false, if◌then◌else◌, List, [], ◌∷◌}
use Rattle.std.specs.List.{flat_map, list_any}
use Rattle.zw_text.specs.declared.entry.Entry.{Entry}
use Rattle.zw_text.specs.declared.entry.Entry.TheVariants.{Done}
use Rattle.law_wire.specs.law_transcript.Payloads.{asked_for}
use Rattle.law_wire.specs.law_transcript.Units.{Carried, sending_in}
use Rattle.law_time.specs.Moments.{Keeps}
use Rattle.law_time.specs.Judged.{is_directly_after, is_mark}
use Rattle.law_time.specs.Requests.{asked}
use Rattle.law_time.specs.Ends.{ends_here, is_ended_by_frame}

-- whether two payloads are the same, and to or from the same node
abbrev pub same_carried : Carried → Carried → Bool
same_carried first second = (first.node == second.node) && bytes_eq first.payload second.payload

-- whether a line asked for the payload
abbrev pub is_asked_for : (List Entry → ℕ → List ℕ) → List Entry → Carried → Bool
is_asked_for listing past carried = list_any (same_carried carried) (asked_for listing past)

-- the nodes of the Set or Get that the last request carries
abbrev pub node_asked : (List Entry → ℕ → List ℕ) → List Entry → Carried → List ℕ
node_asked listing past carried = if is_asked_for listing past carried then carried.node ∷ [] else []

abbrev pub errand : (List Entry → ℕ → List ℕ) → List Entry → List ℕ
errand listing past = flat_map (node_asked listing past) (sending_in (asked past).frame)

-- whether the entry says how a request to one of these nodes ended
abbrev pub says_done : List ℕ → Entry → Bool
says_done nodes (Done node how) = list_any (λ one. one == node) nodes
says_done nodes entry = false

-- whether a frame of the chip ends here what a line asked for
abbrev pub owes_done : (List Entry → ℕ → List ℕ) → List Entry → Bool
owes_done listing past =
    is_directly_after past && list_any (λ node. true) (errand listing past) && is_ended_by_frame past

-- how it ended is said where it ends so, and is said where a frame ends it
abbrev pub may_say_done : (List Entry → ℕ → List ℕ) → List Entry → Entry → Bool
may_say_done listing past (Done node how) = says_done (errand listing past) (Done node how) && ends_here past how
may_say_done listing past entry = is_mark entry || not (owes_done listing past)

abbrev pub SaysHowDone : (List Entry → ℕ → List ℕ) → List Entry → Type 0
SaysHowDone listing transcript = Keeps (may_say_done listing) transcript
