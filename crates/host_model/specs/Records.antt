-- The records that a host has kept of each event (this project's own rule).
use Rattle.std.specs.Prelude.{ℕ, ◌+◌, ◌==◌, if◌then◌else◌, List, [], ◌∷◌, length}
use Rattle.std.specs.List.{AllByRecursion}
use Rattle.s0_session.specs.Nonces.{given_of, new_nonce}
use Rattle.host_keep.specs.Rows.{IsRecord}
use Rattle.host_keep.specs.declared.record.Record.{Record}
use Rattle.host_keep.specs.declared.record.Record.TheVariants as record_of
use Rattle.host_model.specs.State.{HostState, node_of}
use Rattle.host_model.specs.Events.{HostEvent, Accepts, Cancels, Joins, Interviews, Finishes, Gives, Spends, Spends_unread, Takes_nonce, Begins}

-- so many nonces of a node were seen: a record where that is one more than before
abbrev pub seen_records : HostState → ℕ → ℕ → List Record
seen_records h n seen = if (node_of h n).seen == seen then [] else record_of.Seen n seen ∷ []

-- the records of an event; most have none
abbrev pub records_at : HostState → HostEvent → List Record
records_at h (Accepts order carriage) = record_of.Accepted (length h.commands + 1) order ∷ []
records_at h (Cancels command) = record_of.Cancelled command ∷ []
records_at h (Joins n) = record_of.Joined n ∷ []
records_at h (Interviews n listens classes update) = record_of.Classes n listens classes ∷ []
records_at h (Finishes n session id command status wake_request) = record_of.Final n session status ∷ []
records_at h (Gives n drawn) = record_of.Given n (given_of h.nonces n + 1) (new_nonce (given_of h.nonces n) drawn) ∷ []
records_at h (Spends n) = record_of.Spent n ∷ []
records_at h (Spends_unread n payload) = record_of.Spent n ∷ []
records_at h (Takes_nonce n seen text) = seen_records h n seen
records_at h (Begins n session command) = record_of.Begun n session command ∷ []
records_at h _ = []

-- the numbers of its records are in range, so that they can be written
abbrev pub KeepsInRange : HostState → HostEvent → Type 0
KeepsInRange h event = AllByRecursion IsRecord (records_at h event)
