-- For which nonce the message of a running attempt is ready to be sealed, by the transcript of a host alone and in the host (Security 0 Command Class; this project's own rule): a text that is sealed names
-- the nonce by its ninth byte from the end, and a text that waits for one waits since the Nonce Get of its attempt.
use Rattle.std.specs.Prelude.{◌≡◌, ℕ, ◌-◌, Some, None, List, [], ◌∷◌, length, slice_index}
use Rattle.law_time.specs.Attempts.{Attempts}
use Rattle.host_node.specs.State.{NodeState}
use Rattle.host_node.specs.declared.series.Series.TheVariants.{Running}

pub record ReadySo (told : Attempts) (node : NodeState) : Type 0 where
  pub seen : told.seen ≡ node.seen
  pub text : (sealed : List ℕ) → node.text ≡ Some sealed → told.ready ≡ slice_index sealed (length sealed - 9) ∷ []
  pub none : node.series ≡ Running → node.text ≡ None → told.ready ≡ []
  pub pending : (plain : List ℕ) → node.pending ≡ Some plain → told.sent ≡ 1
