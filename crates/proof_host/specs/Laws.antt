-- The laws of the entries of a host, over all its restarts (this project's own rules over the Supervision Command Class).
use Rattle.std.specs.Prelude.{◌≡◌, ℕ, ◌+◌, List, [], ◌∷◌, filter, length}
use Rattle.std.specs.List.{AllByRecursion}
use Rattle.zw_text.specs.declared.entry.Ended.TheVariants as ended
use Rattle.zw_text.specs.declared.entry.Entry.{Entry}
use Rattle.zw_text.specs.declared.entry.Entry.TheVariants.{Accepted, Begin, Out}
use Rattle.zw_text.specs.declared.entry.Outcome.{Outcome}
use Rattle.zw_text.specs.declared.entry.Outcome.TheVariants.{Waiting, Begun, Success, Fail, NoSupport, Unanswered, Cancelled}
use Rattle.zw_text.specs.Transcript.{shown, where_same, accepted_numbers, sessions, outcome}
use Rattle.law_transcript.specs.Commands.{is_waiting}
use Rattle.law_transcript.specs.Lists.{EachAfter, Has, Rises}
use Rattle.law_transcript.specs.Sessions.{MayBegin, KeepsSessions}
use Rattle.law_transcript.specs.Stores.{node_at}

-- the nodes that a command was accepted for, as the entries show it
abbrev pub accepted_for : ℕ → List Entry → List ℕ
accepted_for command past = shown (node_at command) past

-- the commands that were accepted for a node, in order
abbrev pub number_for : ℕ → Entry → List ℕ
number_for n (Accepted command node) = where_same node n command
number_for n _ = []

abbrev pub numbers_for : ℕ → List Entry → List ℕ
numbers_for n past = shown (number_for n) past

-- those of them that wait
abbrev pub waiting_for : ℕ → List Entry → List ℕ
waiting_for n past = filter (λ number. is_waiting (outcome number past)) (numbers_for n past)

-- a command that was begun and has no final report
abbrev pub IsUnderWay : Outcome → Type 0
IsUnderWay Begun = Unit {0}
IsUnderWay Unanswered = Unit {0}
IsUnderWay _ = ⊥

-- a command that has a final outcome, or was taken back
abbrev pub IsOver : Outcome → Type 0
IsOver Success = Unit {0}
IsOver Fail = Unit {0}
IsOver NoSupport = Unit {0}
IsOver Cancelled = Unit {0}
IsOver _ = ⊥

-- an order that is accepted has the next number
abbrev pub MayAccept : List Entry → Entry → Type 0
MayAccept past (Accepted command node) = command ≡ length (accepted_numbers past) + 1
MayAccept past _ = Unit {0}

-- a session carries a command that was accepted before, once and for its node, and still waits
abbrev pub MayCarry : List Entry → Entry → Type 0
MayCarry past (Begin node session command) = (accepted_for command past ≡ node ∷ []) × (outcome command past ≡ Waiting)
MayCarry past _ = Unit {0}

-- a command is taken back that was accepted and waits; only one that is under way ends otherwise
abbrev pub MayEnd : List Entry → Entry → Type 0
MayEnd past (Out command ended.Cancelled) = ((node : ℕ) × (accepted_for command past ≡ node ∷ [])) × (outcome command past ≡ Waiting)
MayEnd past (Out command _) = IsUnderWay (outcome command past)
MayEnd past _ = Unit {0}

-- an entry that may stand after those before it
pub record MayStand (past : List Entry) (entry : Entry) : Type 0 where
  pub accept : MayAccept past entry
  pub begin : MayBegin past entry
  pub carry : MayCarry past entry
  pub end : MayEnd past entry

-- The laws. Orders are numbered from 1 as they are accepted. The sessions of a node are numbered from 1 as they begin, each after final
-- outcomes of all those before it; they carry commands that were accepted for it and wait, in the order of their numbers. A
-- command that waits may be taken back, and then never begins; one that is under way may stay unanswered, and has one final
-- outcome at most.
pub record HostLaws (transcript : List Entry) : Type 0 where
  pub accepts : EachAfter MayAccept [] transcript
  pub sessions_keep : KeepsSessions transcript
  pub carries : EachAfter MayCarry [] transcript
  pub ends : EachAfter MayEnd [] transcript
  pub rise : (node : ℕ) → Rises (sessions node transcript)
  pub accepted : (node : ℕ) → AllByRecursion (Has (numbers_for node transcript)) (sessions node transcript)
