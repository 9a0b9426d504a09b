-- What every step of the requests keeps, and how many frames of the host are on the air (this project's own rule).
use Rattle.std.specs.Prelude.{◌≡◌, ◌≢◌, ℕ, ◌+◌, ◌≤◌, Bool, true, false, List, [], ◌∷◌, ◌++◌, length, Some, None}
use Rattle.std.specs.List.{AllByRecursion}
use Rattle.proof_traffic.specs.Requests.{Word, Send, Abort, Other, Traffic, linked, owed, IsSend, IsAbort}

-- all that may still reach the chip, in order: what is on its way, the frame that can be written again, the abort that is owed
abbrev pub coming : Traffic → List Word
coming t = t.up ++ (linked t.link ++ owed t.owes)

-- none of them is an abort
abbrev pub NoAbort : List Word → Type 0
NoAbort words = AllByRecursion (λ word. word ≢ Abort) words

-- no abort stands after a SendData
abbrev pub NoneAfter : List Word → Type 0
NoneAfter [] = Unit {0}
NoneAfter (Send ∷ words) = NoAbort words
NoneAfter (Abort ∷ words) = NoneAfter words
NoneAfter (Other ∷ words) = NoneAfter words

-- no SendData stands between two aborts
abbrev pub NoneBetween : List Word → Type 0
NoneBetween [] = Unit {0}
NoneBetween (Send ∷ words) = NoneBetween words
NoneBetween (Abort ∷ words) = NoneAfter words
NoneBetween (Other ∷ words) = NoneBetween words

-- how many calls are to come, by what the chip knows of them
abbrev pub one_if : Bool → ℕ
one_if true = 1
one_if false = 0

-- where a payload was given up whose call is still to come: while the chip sends none, no abort stands after a SendData; while it sends one, there is no abort
abbrev pub SuitsCalls : ℕ → Bool → List Word → Type 0
SuitsCalls aborted sending words = (aborted ≡ 1 → sending ≡ false → NoneAfter words) × (aborted ≡ 1 → sending ≡ true → NoAbort words)

pub record RequestFacts (t : Traffic) : Type 0 where
  pub between : NoneBetween (coming t)
  -- while an abort is owed, or an answered SendData is under way, no abort is on its way or can be written again
  pub paid : t.owes ≡ true → NoAbort (t.up ++ linked t.link)
  pub not_answered : IsSend true t.pending → NoAbort (t.up ++ linked t.link)
  -- the frame of the host's own is an abort only while that is the request under way; where one is owed, no request is under way
  pub own : t.link ≡ Some Abort → IsAbort t.pending
  pub none_under_way : t.owes ≡ true → t.pending ≡ None
  -- one payload at most was given up whose call is to come, and there is a call for each
  pub few : t.aborted ≤ 1
  pub each_call : length t.calls ≡ t.aborted + one_if t.sending
  pub suits : SuitsCalls t.aborted t.sending (coming t)

-- how many frames of the host are on the air
abbrev pub flying_in : List Bool → ℕ
flying_in [] = 0
flying_in (flies ∷ calls) = one_if flies + flying_in calls

abbrev pub flying : Traffic → ℕ
flying t = flying_in t.calls
