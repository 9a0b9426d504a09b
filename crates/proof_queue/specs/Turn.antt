-- Requests go by the queue (this project's own rule): an abort that is owed, then what has waited longest, and only where nothing waits what a session has to send, or a session that
-- begins. Which of the sessions is next is left to `SendsInTurn`.
use Rattle.std.specs.Prelude.{ℕ, ◌&&◌, ◌||◌, not, bytes_eq, Bool, true, if◌then◌else◌, List, [], ◌∷◌}
use Rattle.std.specs.List.{list_any}
use Rattle.zw_words.specs.declared.side.Side.TheVariants.{Host}
use Rattle.zw_text.specs.declared.entry.Entry.{Entry}
use Rattle.zw_text.specs.declared.entry.Entry.TheVariants.{Begin, Written}
use Rattle.law_transcript.specs.Units.{request_in, sending_in}
use Rattle.law_time.specs.Ends.{is_abort_frame, owes_abort}
use Rattle.law_time.specs.Heeds.{Heeds}
use Rattle.law_time.specs.Moments.{Keeps, clock}
use Rattle.law_time.specs.Queue.{queue_before}
use Rattle.law_time.specs.Requests.{are_none, asked, is_new}
use Rattle.law_time.specs.Wants.{want_of}

-- a request is the one that has waited longest, or a message where none waits
abbrev pub is_first_waiting : List ℕ → List (List ℕ) → Bool
is_first_waiting unit [] = not (are_none (sending_in unit))
is_first_waiting unit (want ∷ wants) = list_any (λ request. bytes_eq want (want_of request)) (request_in unit)

abbrev pub may_ask : Bool → List ℕ → List (List ℕ) → Bool
may_ask owes unit wants = if owes then is_abort_frame unit else not (is_abort_frame unit) && is_first_waiting unit wants

abbrev pub may_go : Heeds → List Entry → Entry → Bool
may_go heeds past (Written Host unit) = not (is_new (asked past) unit) || may_ask (owes_abort (asked past) (clock past)) unit (queue_before heeds past (Written Host unit)).wants
may_go heeds past (Begin node session command) = not (owes_abort (asked past) (clock past)) && are_none (queue_before heeds past (Begin node session command)).wants
may_go heeds past entry = true

abbrev pub GoesByQueue : Heeds → List Entry → Type 0
GoesByQueue heeds transcript = Keeps (may_go heeds) transcript
