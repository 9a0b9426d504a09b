-- The attempts of one node by the transcript, one entry after another (this project's own rule), and the entries that leave them.
use Rattle.std.specs.Prelude.{◌≡◌, ℕ, List, [], ◌∷◌, ◌++◌}
use Rattle.serial_frame.specs.declared.unit.TheConstants.{NAK}
use Rattle.zw_words.specs.declared.side.Side.TheVariants.{Host}
use Rattle.zw_text.specs.declared.entry.Entry.{Entry}
use Rattle.zw_text.specs.declared.entry.Entry.TheVariants.{Said, Refused, Written, Begin, Out}
use Rattle.law_time.specs.Attempts.{Attempts, attempts_step, no_attempts}
use Rattle.law_time.specs.Heeds.{Heeds}
use Rattle.law_time.specs.Queue.{Requests, no_requests, requests_after}

abbrev pub attempts_from : Heeds → List Entry → Requests → Attempts → List Entry → Attempts
attempts_from heeds past requests attempts [] = attempts
attempts_from heeds past requests attempts (entry ∷ rest) =
    attempts_from heeds (past ++ entry ∷ []) (requests_after heeds past requests entry rest) (attempts_step heeds past requests entry rest attempts) rest

-- up to where the transcript stands
abbrev pub attempts_so_far : Heeds → ℕ → List Entry → Attempts
attempts_so_far heeds n past = attempts_from heeds [] no_requests (no_attempts (heeds.counted n) n) past

-- neither a line or its refusal, nor a unit of the host, a session that begins, or how a command ended
abbrev pub LeavesAttempts : Entry → Type 0
LeavesAttempts (Said words) = ⊥
LeavesAttempts (Refused refusal) = ⊥
LeavesAttempts (Written Host unit) = ⊥
LeavesAttempts (Begin node session command) = ⊥
LeavesAttempts (Out command ended) = ⊥
LeavesAttempts e = Unit {0}

-- neither a line or its refusal, nor a frame or an acknowledgement of the host, nor a session that begins
abbrev pub GoesAlong : Entry → Type 0
GoesAlong (Said words) = ⊥
GoesAlong (Refused refusal) = ⊥
GoesAlong (Written Host unit) = unit ≡ NAK ∷ []
GoesAlong (Begin node session command) = ⊥
GoesAlong e = Unit {0}
