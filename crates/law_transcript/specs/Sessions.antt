-- When a session begins (Supervision Command Class; that a session stays open until its final report is this project's
-- own rule). It holds over all restarts of the host.
use Rattle.std.specs.Prelude.{◌≡◌, ℕ, ◌+◌, List, [], length, ⊤}
use Rattle.std.specs.List.{AllByRecursion}
use Rattle.zw_text.specs.declared.entry.Entry.{Entry}
use Rattle.zw_text.specs.declared.entry.Entry.TheVariants.{Begin}
use Rattle.zw_text.specs.declared.entry.Outcome.{Outcome}
use Rattle.zw_text.specs.declared.entry.Outcome.TheVariants.{Success, Fail, NoSupport}
use Rattle.zw_text.specs.Transcript.{sessions, outcome}
use Rattle.law_transcript.specs.Lists.{EachAfter}

-- a final outcome: that of a final report
abbrev pub IsFinal : Outcome → Type 0
IsFinal Success = ⊤
IsFinal Fail = ⊤
IsFinal NoSupport = ⊤
IsFinal _ = ⊥

-- each session of a node has come to a final outcome
abbrev pub AllEnded : ℕ → List Entry → Type 0
AllEnded node past = AllByRecursion (λ number. IsFinal (outcome number past)) (sessions node past)

-- a session that begins is the next of its node, and each one before it has come to a final outcome
abbrev pub MayBegin : List Entry → Entry → Type 0
MayBegin past (Begin node session command) = (session ≡ length (sessions node past) + 1) × AllEnded node past
MayBegin past _ = ⊤

-- the rule of sessions
abbrev pub KeepsSessions : List Entry → Type 0
KeepsSessions transcript = EachAfter MayBegin [] transcript
