-- What follows of the courses of nonces (this project's own rule).
use Rattle.std.specs.Prelude.{◌≡◌, ℕ, true, Some}
use Rattle.proof_course.specs.NodeNonces as node
use Rattle.proof_course.specs.NodeNonces.{taken_as}
use Rattle.proof_course.specs.HostNonces as host

-- a message that names the live nonce of the node was sealed for it
abbrev pub NamesLive : node.Nonces → ℕ → Type 0
NamesLive c number = node.names c number ≡ true → number ≡ c.given

-- a nonce that the host takes, by eight bits of its number, is the one that it takes it for
abbrev pub TakesIt : node.Nonces → ℕ → Type 0
TakesIt c number = (found : ℕ) → taken_as c.waits c.seen number ≡ Some found → found ≡ number

-- a nonce of the host that the node takes is the one that it takes it for
abbrev pub TakesOffer : host.Nonces → ℕ → Type 0
TakesOffer c number = (found : ℕ) → taken_as c.waits c.seen number ≡ Some found → found ≡ number

-- a message that names the live nonce of the host was sealed for it
abbrev pub NamesGiven : host.Nonces → ℕ → Type 0
NamesGiven c number = host.names c number ≡ true → number ≡ c.given
