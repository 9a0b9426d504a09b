-- What a host asks its chip to send, and has to send, is a No More Information only where it tells a node that there is no more for it (Wake Up Command Class).
use Rattle.std.specs.Prelude.{◌≡◌, ◌≤◌, ℕ, bytes_eq, false, List, [], ◌∷◌, Option, Some, None}
use Rattle.std.specs.List.{AllByRecursion}
use Rattle.chip_functions.specs.Field.{IsNode}
use Rattle.proof_work.specs.law_transcript.Payloads.{no_more_information}
use Rattle.host_requests.specs.State.{RequestsState}
use Rattle.host_requests.specs.declared.task.Task.{Task}
use Rattle.host_requests.specs.declared.task.Task.TheVariants.{Plain, Segment, NoMore}
use Rattle.host_requests.specs.declared.task.Purpose.{Purpose}
use Rattle.host_requests.specs.declared.task.Purpose.TheVariants.{Housekeeping, Attempt}
use Rattle.host_requests.specs.declared.under_way.UnderWay.{UnderWay}
use Rattle.proof_requests.specs.host_model.State.{HostState, node_of}
use Rattle.proof_attempts.specs.Since.{TieOf}

-- another message
abbrev pub IsOther : List ℕ → Type 0
IsOther payload = bytes_eq payload no_more_information ≡ false

-- one to a node, or another message, that of an attempt to a node
abbrev pub CarriesWell : Purpose → Type 0
CarriesWell (Housekeeping (NoMore n)) = IsNode n
CarriesWell (Housekeeping (Plain n payload)) = IsOther payload
CarriesWell (Housekeeping (Segment n payload)) = IsOther payload
CarriesWell (Attempt n more payload) = IsNode n × IsOther payload
CarriesWell purpose = Unit {0}

abbrev pub UnderWayWell : Option UnderWay → Type 0
UnderWayWell None = Unit {0}
UnderWayWell (Some u) = CarriesWell u.purpose

abbrev pub WaitsWell : Task → Type 0
WaitsWell task = CarriesWell (Housekeeping task)

-- of the request under way, and those that wait
pub record AsksWell (requests : RequestsState) : Type 0 where
  pub under_way : UnderWayWell requests.under_way
  pub queue : AllByRecursion WaitsWell requests.queue

-- a sealed text that is to be given
abbrev pub TextOther : Option (List ℕ) → Type 0
TextOther None = Unit {0}
TextOther (Some text) = IsOther text

pub record HasOthers (h : HostState) : Type 0 where
  pub asks : AsksWell h.requests
  pub texts : (n : ℕ) → 1 ≤ n → n ≤ 232 → TextOther (node_of h n).text

abbrev pub CarriesOthers : TieOf
CarriesOthers here past h clock = HasOthers h

-- the nodes that a request tells that there is no more
abbrev pub nodes_of : Purpose → List ℕ
nodes_of (Housekeeping (NoMore n)) = n ∷ []
nodes_of purpose = []
