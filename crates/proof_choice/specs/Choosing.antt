-- What a host alone chooses where nothing waits (this project's own rule): what the session of the next node has to send, or the session of that node that begins. With the order of what waits it is
-- the law of turns (`SendsInTurn`).
use Rattle.std.specs.Prelude.{ℕ, ◌&&◌, ◌||◌, not, Bool, true, List}
use Rattle.std.specs.List.{list_any}
use Rattle.zw_words.specs.declared.side.Side.TheVariants.{Host}
use Rattle.zw_text.specs.declared.entry.Entry.{Entry}
use Rattle.zw_text.specs.declared.entry.Entry.TheVariants.{Begin, Written}
use Rattle.zw_text.specs.Transcript.{joined}
use Rattle.law_transcript.specs.Commands.{waiting}
use Rattle.law_transcript.specs.Units.{sending_in}
use Rattle.law_time.specs.Attempts.{Serving, serving}
use Rattle.law_time.specs.Choice.{has_turn, is_chosen, is_in_tick, is_to_begin, unbegun_when}
use Rattle.law_time.specs.Ends.{is_abort_frame}
use Rattle.law_time.specs.Heeds.{Heeds}
use Rattle.law_time.specs.Moments.{clock}
use Rattle.law_time.specs.Queue.{is_first, queue_before}
use Rattle.law_time.specs.Requests.{are_none, asked, is_new}

-- a session that begins is that of the next node, for the command that has waited longest; not in a tick in which the keeper has failed to keep that it does
abbrev pub begins_well : Heeds → List Entry → Serving → ℕ → ℕ → Bool
begins_well heeds past serving node command =
    is_to_begin node past && is_first command (waiting node past) && not (is_in_tick (unbegun_when node) past (clock past)) && has_turn heeds past serving node

-- a request that is neither a copy nor an abort, and for which none waits, is chosen
abbrev pub may_choose : Heeds → List Entry → Entry → Bool
may_choose heeds past (Written Host unit) =
    not (is_new (asked past) unit) || is_abort_frame unit || not (are_none (queue_before heeds past (Written Host unit)).wants)
    || list_any (is_chosen heeds past (serving heeds (joined past) past)) (sending_in unit)
may_choose heeds past (Begin node session command) = begins_well heeds past (serving heeds (joined past) past) node command
may_choose heeds past entry = true
