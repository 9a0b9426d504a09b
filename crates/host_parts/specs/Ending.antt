-- The list of nodes that an answer brings, which is made before the request that it ends is over.
use Rattle.std.specs.Prelude.{◌≡◌, ℕ, List, Option, Some, None}
use Rattle.chip_functions.specs.declared.response.Response.{Response}
use Rattle.chip_functions.specs.declared.response.Response.TheVariants.{GetRoutingInfo}
use Rattle.host_requests.specs.declared.end.End.{End}
use Rattle.host_requests.specs.declared.end.How.{How}
use Rattle.host_requests.specs.declared.end.How.TheVariants.{AtResponse}

-- the nodes of a response are listed
abbrev pub Lists : Response → List ℕ → Type 0
Lists (GetRoutingInfo nodes) list = list ≡ nodes
Lists response list = Unit {0}

-- so are those of the response at which a request ended
abbrev pub ListsHow : How → List ℕ → Type 0
ListsHow (AtResponse response) list = Lists response list
ListsHow how list = Unit {0}

abbrev pub ListsEnd : Option End → List ℕ → Type 0
ListsEnd None list = Unit {0}
ListsEnd (Some end) list = ListsHow end.how list
