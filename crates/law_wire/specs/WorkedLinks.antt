-- By hand: what the sides of the serial line do around a frame of the chip, in ticks, in a stall and at a restart; and the same with one thing wrong.
use Rattle.std.specs.Prelude.{ℕ, List, [], ◌∷◌, ◌++◌, codes, replicate}
use Rattle.std.specs.List.{flat_map}
use Rattle.serial_frame.specs.declared.item.Item.TheVariants.{Good}
use Rattle.serial_frame.specs.declared.unit.Unit.TheVariants.{Ack}
use Rattle.serial_link.specs.Rules.{Step, heard, ticked, asked}
use Rattle.serial_link.specs.declared.out.LinkOut.TheVariants.{Failed}
use Rattle.zw_words.specs.declared.side.Side.{Side}
use Rattle.zw_words.specs.declared.side.Side.TheVariants.{Host, Chip}
use Rattle.zw_text.specs.declared.line.Line.TheVariants as lines
use Rattle.zw_text.specs.declared.entry.Entry.{Entry}
use Rattle.zw_text.specs.declared.entry.Entry.TheVariants.{Said, Dropped, Heard, Overrun, Cleared, Time}
use Rattle.law_wire.specs.Serial.SerialEvent.{Line_begins, Tick_begins, Writes}
use Rattle.law_wire.specs.Links.{Moment}
use Rattle.law_wire.specs.WorkedMarks.{a_call, host_ack, host_can}
use Rattle.law_wire.specs.WorkedPipes.{a_get}

-- ---- transcripts

-- a frame of the chip is acknowledged; it is not; it is answered CAN
abbrev pub acknowledged : List Entry
acknowledged = a_call ∷ host_ack ∷ []

abbrev pub unanswered : List Entry
unanswered = a_call ∷ []

abbrev pub refused_by_host : List Entry
refused_by_host = a_call ∷ host_can ∷ []

-- copies of it are written in these ticks, and every acknowledgement is lost
abbrev pub copied_in : List ℕ → List Entry
copied_in ticks =
    Said (codes "drop h") ∷ flat_map (λ tick. Said (codes "drop h") ∷ []) ticks ++ a_call ∷ host_ack ∷ Dropped Host ∷ Said (codes "tick 80")
    ∷ flat_map (λ tick. Time tick ∷ a_call ∷ host_ack ∷ Dropped Host ∷ []) ticks

-- a frame of the host finds no room in an empty pipe
abbrev pub overrun_alone : List Entry
overrun_alone = a_get ∷ Overrun Host ∷ []

-- ---- restarts

-- a frame of each side is on its way in a stall as the host restarts, and these are told to be lost; then comes a line
abbrev pub restarted_with : List Entry → List Entry
restarted_with told = Said (codes "stall 5") ∷ a_get ∷ a_call ∷ Said (codes "restart") ∷ (told ++ Said (codes "tick 1") ∷ [])

abbrev pub both_cleared : List Entry
both_cleared = restarted_with (Cleared Host 11 ∷ Cleared Chip 7 ∷ [])

-- the run ends after the first of them
abbrev pub cleared_in_part : List Entry
cleared_in_part = Said (codes "stall 5") ∷ a_get ∷ a_call ∷ Said (codes "restart") ∷ Cleared Host 11 ∷ []

-- another number, one left out, and the other order
abbrev pub miscounted : List Entry
miscounted = restarted_with (Cleared Host 10 ∷ Cleared Chip 7 ∷ [])

abbrev pub one_cleared : List Entry
one_cleared = restarted_with (Cleared Host 11 ∷ [])

abbrev pub cleared_in_turn : List Entry
cleared_in_turn = restarted_with (Cleared Chip 7 ∷ Cleared Host 11 ∷ [])

-- and later once more, for no reason
abbrev pub cleared_again : List Entry
cleared_again = both_cleared ++ Cleared Chip 7 ∷ []

-- ---- the numbers of ticks

-- two ticks with an entry each; the first one, and what may stand instead
abbrev pub two_ticks : List Entry
two_ticks = Said (codes "tick 3") ∷ Time 2 ∷ Heard 1 ∷ Said (codes "tick 1") ∷ Time 4 ∷ Heard 2 ∷ []

abbrev pub one_told : List Entry
one_told = Said (codes "tick 3") ∷ Time 2 ∷ Heard 1 ∷ []

abbrev pub just_told : List Entry
just_told = Said (codes "tick 3") ∷ Time 2 ∷ []

abbrev pub not_told : List Entry
not_told = Said (codes "tick 3") ∷ []

-- ---- moments

abbrev pub steps_before : List Step → Moment
steps_before steps = record { event = Tick_begins; steps = steps }

abbrev pub a_tick : Moment
a_tick = record { event = Tick_begins; steps = [] }

abbrev pub a_stall : Moment
a_stall = record { event = Line_begins (lines.Stall 1 ∷ []); steps = [] }

abbrev pub a_collision : Moment
a_collision = record { event = Line_begins (lines.Collide ∷ []); steps = [] }

-- an answer arrives from a side
abbrev pub an_ack : Side → Moment
an_ack side = record { event = Writes side (6 ∷ []) ((6 ∷ []) ∷ []) []; steps = [] }

-- an answer is heard, for which there is no frame; a tick gives a frame up; a collision is asked for
abbrev pub hears_stray : Step
hears_stray = record { event = heard (Good Ack); outs = [] }

abbrev pub gives_up : Step
gives_up = record { event = ticked; outs = Failed 4 ∷ [] }

abbrev pub asks : Step
asks = record { event = asked; outs = [] }

-- the host writes so many answers in a line, and the chip hears so many of them
abbrev pub answers_of_host : ℕ → List Moment
answers_of_host count = replicate count (an_ack Host)

abbrev pub hears_so_many : ℕ → Moment
hears_so_many count = steps_before (replicate count hears_stray)

-- so many bytes of the host arrive, or find no room, when the chip has done this
abbrev pub bytes_arrive : ℕ → List Step → Moment
bytes_arrive count steps = record { event = Writes Host (replicate count 0) (replicate count 0 ∷ []) []; steps = steps }

abbrev pub bytes_overrun : ℕ → List Step → Moment
bytes_overrun count steps = record { event = Writes Host (replicate count 0) [] (replicate count 0 ∷ []); steps = steps }
