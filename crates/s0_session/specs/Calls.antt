-- Any calls of a book, one after another.
use Rattle.std.specs.Prelude.{ℕ, ◌+◌, ◌==◌, ◌&&◌, if◌then◌else◌, is_some, is_none, Option, List, [], ◌∷◌, slice_set}
use Rattle.s0_session.specs.declared.account.Account.{Account}
use Rattle.s0_session.specs.Nonces.{account_of, live_of, after_give, after_spend, nonce_spent, restored_account}

-- a call of `give` with its drawn bytes, of `spend` with its first byte, or of `restore` with what was kept
pub data Call : Type 0 where
  Give : (peer : ℕ) (drawn : List ℕ) → Call
  Spend : (peer first : ℕ) → Call
  Restore : (peer given : ℕ) (live : Option (List ℕ)) → Call

-- the book after a call
abbrev pub after_call : List Account → Call → List Account
after_call book (Give peer drawn) = slice_set book peer (after_give (account_of book peer) drawn)
after_call book (Spend peer first) = slice_set book peer (after_spend (account_of book peer) first)
after_call book (Restore peer given live) = slice_set book peer (restored_account given live)

-- the book after calls
abbrev pub after_calls : List Account → List Call → List Account
after_calls book [] = book
after_calls book (call ∷ calls) = after_calls (after_call book call) calls

-- 1 where a call gives a node a new nonce, or brings one back
abbrev pub new_in : ℕ → List Account → Call → ℕ
new_in node book (Give peer drawn) = if (peer == node) && is_none (live_of book peer) then 1 else 0
new_in node book (Spend peer first) = 0
new_in node book (Restore peer given live) = if (peer == node) && is_some live then 1 else 0

-- 1 where a call spends a nonce of a node
abbrev pub spent_in : ℕ → List Account → Call → ℕ
spent_in node book (Give peer drawn) = 0
spent_in node book (Spend peer first) = if (peer == node) && is_some (nonce_spent (account_of book peer) first) then 1 else 0
spent_in node book (Restore peer given live) = 0

-- 1 where a nonce is live for a node
abbrev pub live_count : ℕ → List Account → ℕ
live_count node book = if is_some (live_of book node) then 1 else 0

-- 1 where a call puts something else in the place of the live nonce of a node
abbrev pub lost_in : ℕ → List Account → Call → ℕ
lost_in node book (Give peer drawn) = 0
lost_in node book (Spend peer first) = 0
lost_in node book (Restore peer given live) = if peer == node then live_count node book else 0

-- 1 where a call sets what was kept of a node
abbrev pub restored_in : ℕ → Call → ℕ
restored_in node (Give peer drawn) = 0
restored_in node (Spend peer first) = 0
restored_in node (Restore peer given live) = if peer == node then 1 else 0

-- how many of the calls give a node a new nonce, or bring one back
abbrev pub news : ℕ → List Account → List Call → ℕ
news node book [] = 0
news node book (call ∷ calls) = new_in node book call + news node (after_call book call) calls

-- how many of the calls spend a nonce of a node
abbrev pub spends : ℕ → List Account → List Call → ℕ
spends node book [] = 0
spends node book (call ∷ calls) = spent_in node book call + spends node (after_call book call) calls

-- how many live nonces of a node were lost to a `restore`
abbrev pub losses : ℕ → List Account → List Call → ℕ
losses node book [] = 0
losses node book (call ∷ calls) = lost_in node book call + losses node (after_call book call) calls

-- how many of the calls set what was kept of a node
abbrev pub restores : ℕ → List Call → ℕ
restores node [] = 0
restores node (call ∷ calls) = restored_in node call + restores node calls
