-- Transcripts that break the laws of a host, each in one place.
use Rattle.std.specs.Prelude.{List, [], ◌∷◌}
use Rattle.zw_text.specs.declared.entry.Ended.TheVariants.{Success, Fail, Cancelled}
use Rattle.zw_text.specs.declared.entry.Entry.{Entry}
use Rattle.zw_text.specs.declared.entry.Entry.TheVariants.{Accepted, Begin, Out}

-- the first order has number 2
abbrev pub numbered_late : List Entry
numbered_late = Accepted 2 2 ∷ []

-- a session begins for a command that was not accepted, or for another node
abbrev pub begun_unasked : List Entry
begun_unasked = Begin 2 1 1 ∷ []

abbrev pub begun_elsewhere : List Entry
begun_elsewhere = Accepted 1 2 ∷ Begin 3 1 1 ∷ []

-- one command is begun twice
abbrev pub begun_twice : List Entry
begun_twice = Accepted 1 2 ∷ Begin 2 1 1 ∷ Out 1 Fail ∷ Begin 2 2 1 ∷ []

-- a session begins before the one before it has ended
abbrev pub begun_early : List Entry
begun_early = Accepted 1 2 ∷ Accepted 2 2 ∷ Begin 2 1 1 ∷ Begin 2 2 2 ∷ []

-- the later of two commands begins first
abbrev pub begun_backwards : List Entry
begun_backwards = Accepted 1 2 ∷ Accepted 2 2 ∷ Begin 2 1 2 ∷ Out 2 Success ∷ Begin 2 2 1 ∷ []

-- a command that was taken back begins
abbrev pub begun_cancelled : List Entry
begun_cancelled = Accepted 1 2 ∷ Out 1 Cancelled ∷ Begin 2 1 1 ∷ []

-- a command succeeds that was not begun, or ends twice
abbrev pub ended_unbegun : List Entry
ended_unbegun = Accepted 1 2 ∷ Out 1 Success ∷ []

abbrev pub ended_twice : List Entry
ended_twice = Accepted 1 2 ∷ Begin 2 1 1 ∷ Out 1 Success ∷ Out 1 Fail ∷ []

-- a command is taken back once it has begun
abbrev pub cancelled_late : List Entry
cancelled_late = Accepted 1 2 ∷ Begin 2 1 1 ∷ Out 1 Cancelled ∷ []
