-- When a line is refused by the host or by its keeper, and as what (this project's own rules). Lines that speak to the air or to a device
-- are refused outside the host.
use Rattle.std.specs.Prelude.{◌≡◌, ◌⊎◌, ℕ, List, Option, Some, None, length}
use Rattle.zw_text.specs.declared.line.Line.{Line}
use Rattle.zw_text.specs.declared.line.Line.TheVariants.{Command, Send, Get, Join, Interview, Cancel, Discover, Neighbours, Failed, Probe, Restart}
use Rattle.zw_text.specs.declared.entry.Refusal.{Refusal}
use Rattle.zw_text.specs.declared.entry.Refusal.TheVariants as refusal
use Rattle.host_orders.specs.Errands.{send_refusal, get_refusal}
use Rattle.host_model.specs.host_keep.Legal.{IsFirstBad}
use Rattle.host_model.specs.State.{node_of}
use Rattle.host_model.specs.May.{known_of}
use Rattle.host_model.specs.Asking.{refusal_for, join_refusal, places_refusal, interview_refusal}
pub use Rattle.host_model.specs.Refusals.{shown, IsRefusedBy, IsRefusedOrUnkept, IsUncancelled}
use Rattle.world_model.specs.State.{Machine}

-- the records give no host: this is the first that is invalid or may not follow those before it. Of a keeper that does not tell its records
-- nothing is said
abbrev pub HasBad : Option (List (List ℕ)) → ℕ → Type 0
HasBad None at = Unit {0}
HasBad (Some texts) at = IsFirstBad texts at

abbrev pub IsUnopened : Option (List (List ℕ)) → Refusal → Type 0
IsUnopened records entered = (entered ≡ refusal.KeeperFault) ⊎ ((at : ℕ) × HasBad records at × (entered ≡ refusal.BadRecord at))

-- a line is refused so
abbrev pub IsRefused : Machine → Line → Refusal → Type 0
IsRefused m (Command order) entered = IsRefusedOrUnkept (refusal_for m.host.state order) entered
IsRefused m (Send node word) entered = IsRefusedBy (send_refusal (known_of (node_of m.host.state node)) (length m.host.state.requests.queue) word) entered
IsRefused m (Get node end) entered = IsRefusedBy (get_refusal (known_of (node_of m.host.state node)) (length m.host.state.requests.queue) end) entered
IsRefused m (Join node) entered = IsRefusedOrUnkept (join_refusal m.host.state node) entered
IsRefused m (Interview node) entered = IsRefusedBy (interview_refusal m.host.state node) entered
IsRefused m (Cancel command) entered = IsUncancelled m.host.state command entered
IsRefused m Discover entered = IsRefusedBy (places_refusal m.host.state 1) entered
IsRefused m (Neighbours node) entered = IsRefusedBy (places_refusal m.host.state 1) entered
IsRefused m (Failed node) entered = IsRefusedBy (places_refusal m.host.state 1) entered
IsRefused m Probe entered = IsRefusedBy (places_refusal m.host.state 3) entered
IsRefused m Restart entered = IsUnopened m.records entered
IsRefused m line entered = ⊥
