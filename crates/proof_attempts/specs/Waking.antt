-- Whether a node counts as awake, and for how many ticks it is held so (Wake Up Command Class; this project's own rule): in its host, and by the entries that tell it.
use Rattle.std.specs.Prelude.{◌≡◌, ℕ, ◌-◌, ◌≤◌, ◌==◌, ◌&&◌, not, Bool, true, false, if◌then◌else◌, List}
use Rattle.std.specs.List.{list_any}
use Rattle.zw_text.specs.declared.entry.Ended.TheVariants as ended
use Rattle.zw_text.specs.declared.entry.Entry.{Entry}
use Rattle.zw_text.specs.declared.entry.Entry.TheVariants as entry
use Rattle.host_node.specs.State.{NodeState}
use Rattle.host_node.specs.TableState.{node_of as node_among}
use Rattle.proof_work.specs.law_time.Holds.{held_until}
use Rattle.proof_work.specs.law_time.Judged.{last_of}
use Rattle.proof_work.specs.law_time.Waking.{counts_awake}
use Rattle.proof_requests.specs.host_model.State.{HostState, node_of}
use Rattle.proof_requests.specs.host_model.Events.{HostEvent, Node_ticks}
use Rattle.proof_requests.specs.host_model.Facts.{HostFacts}
use Rattle.proof_work.specs.Work.{times_told}
use Rattle.proof_requests.specs.proof_alone.Listening.{KnowsListening}
use Rattle.proof_requests.specs.proof_alone.Runs.{Knowledge, both_know}
use Rattle.proof_attempts.specs.Since.{KnowsSince, KnowsTicks, TieOf, node_clock}
use Rattle.proof_attempts.specs.Working.{WorksInOrder}

pub record Waking : Type 0 where
  pub awake : Bool
  pub hold : ℕ

abbrev pub waking_of : NodeState → Waking
waking_of n = record { awake = n.awake; hold = n.hold }

abbrev pub waking_in : List NodeState → ℕ → Waking
waking_in nodes n = waking_of (node_among nodes n)

-- it wakes, is held, is held no longer, or falls asleep
abbrev pub wakes : Waking → Waking
wakes w = record { awake = true; hold = w.hold }

abbrev pub is_kept : Waking → Waking
is_kept w = record { awake = w.awake; hold = 100 }

abbrev pub is_released : Waking → Waking
is_released w = record { awake = w.awake; hold = 0 }

abbrev pub sleeps : Waking → Waking
sleeps w = record { awake = false; hold = 0 }

-- whether a command releases a node where it goes unanswered: its last session carries it, and it does not listen
abbrev pub releases_of : NodeState → ℕ → Bool
releases_of node number = list_any (λ command. command == number) (last_of node.book.commands) && not node.listens

-- by an entry, of a node, which these commands release
abbrev pub waking_step : ℕ → (ℕ → Bool) → Waking → Entry → Waking
waking_step n releases w (entry.Awake node) = if node == n then wakes w else w
waking_step n releases w (entry.Held node) = if node == n then is_kept w else w
waking_step n releases w (entry.Asleep node) = if node == n then sleeps w else w
waking_step n releases w (entry.Out command ended.Unanswered) = if releases command then is_released w else w
waking_step n releases w e = w

-- its tick counts a hold before anything is told
abbrev pub one_less : Waking → Waking
one_less w = record { awake = w.awake; hold = w.hold - 1 }

abbrev pub waking_before : HostEvent → ℕ → Waking → Waking
waking_before (Node_ticks node) n w = if node == n then one_less w else w
waking_before event n w = w

-- the host takes a node to be awake as it is told; and it holds it so long where this is so
pub record Follows (Known : Type 0) (told now : Waking) : Type 0 where
  pub awake : now.awake ≡ told.awake
  pub hold : Known → now.hold ≡ told.hold

-- of a host: its facts, and a node is awake while it is told that there is no more for it
pub record TellsAwake (h : HostState) : Type 0 where
  pub facts : HostFacts h
  pub told : (n : ℕ) → 1 ≤ times_told n h.requests → (node_of h n).awake ≡ true

-- ---- by the transcript

-- each node counts as awake by it as it does in the host
abbrev pub TieAwake : List Entry → HostState → Type 0
TieAwake past h = (n : ℕ) → 1 ≤ n → n ≤ 232 → (node_of h n).awake ≡ counts_awake n past

abbrev pub CountsAwake : TieOf
CountsAwake here past h clock = TieAwake past h

-- it is held for as many ticks as by it
abbrev pub HeldAsTold : TieOf
HeldAsTold here past h clock = (n : ℕ) → 1 ≤ n → n ≤ 232 → (node_of h n).hold ≡ held_until n past - node_clock here clock n

-- ---- on what ground

-- the tables, the clock, how far each node has come in a tick, and that the work is in order
abbrev pub KnowsWork : Knowledge
KnowsWork = both_know KnowsTicks (KnowsSince WorksInOrder)

abbrev pub KnowsHearing : Knowledge
KnowsHearing = both_know KnowsWork KnowsListening
