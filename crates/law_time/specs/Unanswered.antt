-- When a command counts as unanswered (Supervision Command Class; that a series has three attempts is this project's own rule).
use Rattle.std.specs.Prelude.{◌≡◌, ℕ, ◌==◌, ◌&&◌, ◌||◌, not, Bool, true, if◌then◌else◌, List, [], ◌∷◌, ◌++◌}
use Rattle.std.specs.List.{flat_map, list_any}
use Rattle.zw_text.specs.declared.entry.Ended.TheVariants.{Unanswered}
use Rattle.zw_text.specs.declared.entry.Entry.{Entry}
use Rattle.zw_text.specs.declared.entry.Entry.TheVariants.{Said, Out, Time}
use Rattle.zw_text.specs.Transcript.{joined, lines_run, shown}
use Rattle.law_wire.specs.law_transcript.Restarts.{ticks_asked}
use Rattle.law_wire.specs.law_transcript.Stores.{node_at}
use Rattle.law_wire.specs.law_transcript.Units.{sending_in}
use Rattle.law_time.specs.Heeds.{Heeds}
use Rattle.law_time.specs.Moments.{KeepsAfter, clock, now_at}
use Rattle.law_time.specs.Judged.{is_directly_after, is_mark}
use Rattle.law_time.specs.Requests.{asked, are_none}
use Rattle.law_time.specs.Ends.{is_ending_here}
use Rattle.law_time.specs.Sessions.{is_open, last_command}
use Rattle.law_time.specs.Attempts.{Attempts, attempt_is_over, serving}

-- the third attempt of a node is over by a time
abbrev pub third_is_over : Heeds → List Entry → ℕ → Attempts → Bool
third_is_over heeds past now attempts = (attempts.begun == 3) && attempt_is_over heeds past (asked past) now attempts

-- the command that is to be given up for a node: that of its last session, where that is open and its third attempt is over
abbrev pub to_give_up : Heeds → List Entry → ℕ → ℕ → List ℕ
to_give_up heeds past now node =
    if is_open node past && list_any (third_is_over heeds past now) (serving heeds (node ∷ []) past).each then last_command node past else []

-- none is at a time
abbrev pub none_to_give_up : Heeds → List Entry → ℕ → Bool
none_to_give_up heeds past now = are_none (flat_map (to_give_up heeds past now) (joined past))

-- a command is to be given up here for its node
abbrev pub is_to_give_up : Heeds → List Entry → ℕ → Bool
is_to_give_up heeds past command =
    list_any (λ node. list_any (λ number. number == command) (to_give_up heeds past (clock past) node)) (shown (node_at command) past)

-- the frame that was judged just before ends the third attempt, of which the last request is
abbrev pub owes_giving_up : Heeds → List Entry → Bool
owes_giving_up heeds past =
    is_directly_after past && is_ending_here past
    && list_any (λ carried. not (are_none (to_give_up heeds past (clock past) carried.node))) (sending_in (asked past).frame)

-- a command counts as unanswered only where it is to be given up: then directly after the frame that ends the attempt, and else in the
-- same line or tick
abbrev pub may_give_up : Heeds → List Entry → Entry → Bool
may_give_up heeds past (Out command Unanswered) = is_to_give_up heeds past command
may_give_up heeds past (Said words) = none_to_give_up heeds past (now_at past (Said words))
may_give_up heeds past (Time tick) = none_to_give_up heeds past (now_at past (Time tick))
may_give_up heeds past entry = is_mark entry || not (owes_giving_up heeds past)

-- so it is after what stood before
pub record GivesUp (before : List Entry) (whole : Bool) (heeds : Heeds) (transcript : List Entry) : Type 0 where
  pub between : KeepsAfter before (may_give_up heeds) transcript
  pub in_the_end : whole ≡ true → none_to_give_up heeds (before ++ transcript) (ticks_asked (lines_run (before ++ transcript))) ≡ true

abbrev pub GivesUpAfterThree : Bool → Heeds → List Entry → Type 0
GivesUpAfterThree whole heeds transcript = GivesUp [] whole heeds transcript
