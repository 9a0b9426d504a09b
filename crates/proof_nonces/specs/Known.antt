-- What is known of the messages that a host alone has to seal, at each phase (this project's own rule): no message that waits to be asked is of Security 0; and the sealed text that a node is to be
-- given, and the one that waits for a nonce, answer a question.
use Rattle.std.specs.Prelude.{◌≡◌, ℕ, ◌==◌, false, List, [], ◌∷◌, slice_index}
use Rattle.std.specs.List.{AllByRecursion, flat_map}
use Rattle.chip_functions.specs.Field.{IsNode}
use Rattle.s0_crypto.specs.declared.key_pair.Keys.{Keys}
use Rattle.zw_text.specs.declared.entry.Entry.{Entry}
use Rattle.law_transcript.specs.Payloads.{nonce_report}
use Rattle.law_transcript.specs.Units.{Carried}
use Rattle.host_requests.specs.declared.task.Task.{Task}
use Rattle.host_requests.specs.declared.task.Task.TheVariants.{Plain, Offer, Segment}
use Rattle.host_model.specs.State.{HostState, node_of}
use Rattle.proof_notes.specs.proof_messages.Hosts.{HasTexts}
use Rattle.proof_notes.specs.proof_attempts.proof_requests.Walking.{Ground as RequestsGround, KnowsAsked}
use Rattle.proof_notes.specs.proof_known.proof_alone.Runs.{Knowledge, both_know}
use Rattle.proof_notes.specs.proof_known.Known.{KnowsKeys}
use Rattle.proof_nonces.specs.Sealing.{HasAsked, IsSealedSo, is_sealed}

abbrev pub IsUnsealed : List ℕ → Type 0
IsUnsealed payload = is_sealed payload ≡ false

-- of another class than Security 0, and so a message that waits
abbrev pub IsOther : List ℕ → Type 0
IsOther payload = (slice_index payload 0 == 0x98) ≡ false

abbrev pub AsksOther : Task → Type 0
AsksOther (Plain n payload) = IsOther payload
AsksOther (Segment n payload) = IsOther payload
AsksOther task = Unit {0}

abbrev pub AreOther : List Task → Type 0
AreOther queue = AllByRecursion AsksOther queue

-- the Nonce Report that a task is, and those among some tasks
abbrev pub offered_by : Task → List Carried
offered_by (Offer n nonce) = record { node = n; payload = nonce_report nonce } ∷ []
offered_by task = []

abbrev pub offered_in : List Task → List Carried
offered_in queue = flat_map offered_by queue

-- a sealed text of a node, and a text that is to be sealed
abbrev pub TextSo : Keys → ℕ → List Entry → List ℕ → Type 0
TextSo keys node past text = IsSealedSo keys past (record { node = node; payload = text })

abbrev pub PlainSo : ℕ → List Entry → List ℕ → Type 0
PlainSo node past plain = HasAsked node past

abbrev pub TieSealing : Keys → List Entry → HostState → Type 0
TieSealing keys past h = (node : ℕ) → IsNode node → HasTexts (TextSo keys node past) (PlainSo node past) (node_of h node)

abbrev pub KnowsSealing : Keys → Knowledge
KnowsSealing keys here past m = AreOther m.state.requests.queue × TieSealing keys past m.state

-- the ground: the requests of the host are as its transcript tells, and it has its keys
abbrev pub Ground : Keys → Knowledge
Ground keys = both_know (both_know RequestsGround KnowsAsked) (KnowsKeys keys)
