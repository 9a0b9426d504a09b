-- No event ends with the number of a tick: it is entered with what follows it.
use Rattle.std.proofs.Common.{ℕ, ◌&&◌, not, Bool, true, false, if◌then◌else◌, List, [], ◌∷◌, ◌++◌}
use Rattle.zw_text.specs.declared.entry.Entry.{Entry}
use Rattle.zw_text.specs.declared.entry.Entry.TheVariants as entry
use Rattle.proof_device.specs.outside_model.State.{OuterState, Outside}
use Rattle.proof_device.specs.outside_model.Events.{OuterEvent, Host_begins, Host_notes, outcome, May as MayOutside, happens as happens_outside, entries as entries_outside, stamp}
use Rattle.proof_device.specs.world_model.State.{Machine}
use Rattle.proof_device.specs.world_model.Events.{Event, entries, May}
use Rattle.proof_walk.specs.Outside.{CoversOuter}
use Rattle.proof_walk.specs.Time.{BeginsNoTick}
use Rattle.proof_walk.proofs.Machines.{covers_answer, covers_host, machine_goes}
use Rattle.proof_walk.proofs.Stamping.{Fits}
use Rattle.proof_walk.proofs.Untimed.{IsUntimed, AreUntimed, hosts_no_tick, note_untimed, outcome_untimed}

-- ---- lists

-- there is none, or the last is neither words of a line nor the number of a tick
abbrev pub EndsUntimed : List Entry → Type 0
EndsUntimed [] = Unit {0}
EndsUntimed (e ∷ []) = IsUntimed e
EndsUntimed (e ∷ (next ∷ told)) = EndsUntimed (next ∷ told)

ends-append : (xs ys : List Entry) → EndsUntimed xs → EndsUntimed ys → EndsUntimed (xs ++ ys)
ends-append [] ys first later = later
ends-append (x ∷ []) [] first later = first
ends-append (x ∷ []) (y ∷ ys) first later = later
ends-append (x ∷ (next ∷ xs)) ys first later = ends-append (next ∷ xs) ys first later

all_end : (told : List Entry) → AreUntimed told → EndsUntimed told
all_end [] untimed = tt
all_end (e ∷ []) untimed = untimed.0
all_end (e ∷ (next ∷ told)) untimed = all_end (next ∷ told) untimed.1

-- with the number before them
stamp_ends : (o : OuterState) (told : List Entry) → AreUntimed told → EndsUntimed (stamp o told)
stamp_ends o [] untimed = tt
stamp_ends o (e ∷ told) untimed = by (o.in_tick && not o.stamped)
  where
    by : (b : Bool) → EndsUntimed ((if b then entry.Time o.clock ∷ [] else []) ++ e ∷ told)
    by true = all_end (e ∷ told) untimed
    by false = all_end (e ∷ told) untimed

-- ---- outside the host

outer_ends : (w : Outside) (event : OuterEvent) → BeginsNoTick event → Fits BeginsNoTick event → MayOutside w event → EndsUntimed (entries_outside w event)
unfolding outcome
outer_ends w (Host_notes note) covers fits may = stamp_ends w.outer (note ∷ []) (note_untimed note fits.0.0, tt)
outer_ends w event covers fits may = stamp_ends (outcome w event).outer (outcome w event).entries (outcome_untimed w event tt)

session_ends : (w : Outside) (node session command : ℕ)
    → EndsUntimed (entries_outside w (Host_begins node session) ++ entries_outside (happens_outside w (Host_begins node session)) (Host_notes (entry.Begin node session command)))
unfolding outcome
session_ends w node session command = stamp_ends (happens_outside w (Host_begins node session)).outer (entry.Begin node session command ∷ []) (tt, tt)

-- ---- the machine

abbrev Ends : Outside → List Entry → Outside → Type 0
Ends w told later = EndsUntimed told

pub event_ends : (m : Machine) (event : Event) → CoversOuter BeginsNoTick event → May m event → EndsUntimed (entries m event)
event_ends m event covers may =
    machine_goes BeginsNoTick (covers_host BeginsNoTick hosts_no_tick) Ends (λ w. tt) (λ w u v xs ys first later. ends-append xs ys first later) outer_ends session_ends m event covers (covers_answer BeginsNoTick (λ note is. tt) event) may
