-- The nonces that one side gives, by node (Z-Wave Security 0 Command Class: Nonce Get and Nonce Report; the counts are
-- this project's own rule, docs/SECURITY.md).
use Rattle.std.specs.Prelude.{◌≡◌, ◌<◌, ℕ, ◌+◌, ◌%◌, ◌==◌, if◌then◌else◌, Option, Some, None, List, ◌∷◌, drop, slice_index, slice_index_or}
use Rattle.std.specs.Option.{ForSome}
use Rattle.s0_session.specs.declared.account.Account.{Account}

-- an account of which no nonce was given
abbrev pub unused : Account
unused = record { given = 0; live = None }

-- the account of a node
abbrev pub account_of : List Account → ℕ → Account
account_of book peer = slice_index_or book peer unused

-- how many nonces were given to a node
abbrev pub given_of : List Account → ℕ → ℕ
given_of book peer = (account_of book peer).given

-- the nonce that is live for a node
abbrev pub live_of : List Account → ℕ → Option (List ℕ)
live_of book peer = (account_of book peer).live

-- the next nonce: its first byte counts, the others are drawn
abbrev pub new_nonce : ℕ → List ℕ → List ℕ
new_nonce given drawn = (given + 1) % 256 ∷ drop 1 drawn

-- what a Nonce Get is answered: the live nonce, or a new one where none is live
abbrev pub answer_from : Option (List ℕ) → ℕ → List ℕ → List ℕ
answer_from (Some nonce) given drawn = nonce
answer_from None given drawn = new_nonce given drawn

-- how many were given then
abbrev pub given_from : Option (List ℕ) → ℕ → ℕ
given_from (Some nonce) given = given
given_from None given = given + 1

-- the nonce that an account gives
abbrev pub nonce_given : Account → List ℕ → List ℕ
nonce_given account drawn = answer_from account.live account.given drawn

-- the account after it gave a nonce: that nonce is live
abbrev pub after_give : Account → List ℕ → Account
after_give account drawn =
    record { given = given_from account.live account.given; live = Some (nonce_given account drawn) }

-- the nonce, if it has that first byte
abbrev pub with_first : Option (List ℕ) → ℕ → Option (List ℕ)
with_first (Some nonce) first = if slice_index nonce 0 == first then Some nonce else None
with_first None first = None

-- what is live after a message named a first byte
abbrev pub live_after : Option (List ℕ) → ℕ → Option (List ℕ)
live_after (Some nonce) first = if slice_index nonce 0 == first then None else Some nonce
live_after None first = None

-- the nonce that a message spends by its first byte
abbrev pub nonce_spent : Account → ℕ → Option (List ℕ)
nonce_spent account first = with_first account.live first

-- the account after a message named a first byte: the nonce with it is live no more
abbrev pub after_spend : Account → ℕ → Account
after_spend account first = record { given = account.given; live = live_after account.live first }

-- the account that was kept: so many nonces were given, and this one is live
abbrev pub restored_account : ℕ → Option (List ℕ) → Account
restored_account given live = record { given = given; live = live }

-- a live nonce was given: it has the first byte that the count has
abbrev pub IsRestorable : ℕ → Option (List ℕ) → Type 0
IsRestorable given live = ForSome live (λ nonce. (0 < given) × (slice_index nonce 0 ≡ given % 256))
