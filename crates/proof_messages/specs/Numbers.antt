-- Nonces by their numbers: which one has which number, and what an account has of them (this project's own rule over the Security 0 Command Class).
use Rattle.std.specs.Prelude.{◌≡◌, ℕ, ◌%◌, Bool, List, [], ◌∷◌, ◌++◌, length, slice_index, Option, Some, None, is_some}
use Rattle.std.specs.Option.{ForSome}
use Rattle.proof_course.specs.Parts.{numbered}
use Rattle.s0_session.specs.declared.account.Account.{Account}
use Rattle.s0_session.specs.Nonces.{new_nonce}

-- the nonce of that number, where the first that one end gave has number 1: eight bytes, and the first has the low eight bits of the number
pub record IsNonce (nonces : List (List ℕ)) (number : ℕ) (nonce : List ℕ) : Type 0 where
  pub given : numbered nonces number ≡ nonce ∷ []
  pub eight : length nonce ≡ 8
  pub first : slice_index nonce 0 ≡ number % 256

-- an account gave these nonces, and no others: so many, and where one is live, it is the last
pub record HasGiven (nonces : List (List ℕ)) (given : ℕ) (is_live : Bool) (account : Account) : Type 0 where
  pub count : account.given ≡ given
  pub all : length nonces ≡ given
  pub lives : is_some account.live ≡ is_live
  pub last : ForSome account.live (IsNonce nonces given)

-- the nonces with the one that a Nonce Get brings: none where one is live
abbrev pub brought_by : Option (List ℕ) → ℕ → List ℕ → List (List ℕ)
brought_by None given drawn = new_nonce given drawn ∷ []
brought_by (Some nonce) given drawn = []

abbrev pub with_given : List (List ℕ) → Account → List ℕ → List (List ℕ)
with_given nonces account drawn = nonces ++ brought_by account.live account.given drawn
