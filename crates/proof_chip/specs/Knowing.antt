-- What is known of the nodes that the chip knows, at each phase of a line (this project's own rule).
use Rattle.std.specs.Prelude.{◌≡◌, List, ⊤}
use Rattle.zw_text.specs.declared.entry.Entry.{Entry}
use Rattle.outside_model.specs.State.{OuterState}
use Rattle.proof_air.specs.proof_walk.Outside.{Knowing, Known}
use Rattle.proof_air.specs.proof_walk.ByLine.{KnownOf}

-- nothing is asked of entries by themselves
abbrev pub AnyEntry : List Entry → Entry → Type 0
AnyEntry past entry = ⊤

-- chip and air know the same joined nodes
abbrev pub SameNodes : OuterState → Type 0
SameNodes o = o.chip.state.joined ≡ o.air.joined

abbrev pub KnowsNodes : Knowing
KnowsNodes awaits past w = SameNodes w.outer

abbrev pub KnownNodes : KnownOf
KnownNodes past m = Known AnyEntry (λ pending. KnowsNodes) past m.outside
