-- Worked transcripts of waking and of holds, made by hand in the form in which the program prints them.
use Rattle.std.specs.Prelude.{ℕ, List, [], ◌∷◌, ◌++◌, codes}
use Rattle.zw_words.specs.declared.side.Side.TheVariants.{Host}
use Rattle.zw_text.specs.declared.entry.Ended.{Ended}
use Rattle.zw_text.specs.declared.entry.Ended.TheVariants as endings
use Rattle.zw_text.specs.declared.entry.Entry.{Entry}
use Rattle.zw_text.specs.declared.entry.Entry.TheVariants.{Said, Begin, Dropped, Out, Awake, Held, Unkept}
use Rattle.law_time.specs.WorkedUnits.{by_chip, host_acknowledges, notified}

-- a node tells that it is awake, and the acknowledgement of that is lost
abbrev pub awake_after_lost : List Entry
awake_after_lost = notified ∷ host_acknowledges ∷ Dropped Host ∷ Awake 5 ∷ []

-- what a node has sealed may tell that it is awake
abbrev pub sealed_come : Entry
sealed_come = by_chip (codes "011C000400041698810101010101010101AABBCCDD0102030405060708E4")

abbrev pub awake_by_sealed : List Entry
awake_by_sealed = sealed_come ∷ host_acknowledges ∷ Awake 4 ∷ []

-- a command ends by such a report of session 1
abbrev pub ended_by : List ℕ → Ended → List Entry
ended_by report ended = Begin 5 1 1 ∷ by_chip report ∷ host_acknowledges ∷ Out 1 ended ∷ []

-- it says that the command has failed, or is not supported, and asks to be kept awake
abbrev pub failing_report : List ℕ
failing_report = codes "010B00040005056C02410200DD"

abbrev pub unsupported_report : List ℕ
unsupported_report = codes "010B00040005056C02410000DF"

abbrev pub held_failing : List Entry
held_failing = ended_by failing_report endings.Fail ++ Held 5 ∷ []

abbrev pub held_unsupported : List Entry
held_unsupported = ended_by unsupported_report endings.NoSupport ++ Held 5 ∷ []

-- one payload has two reports that say that the command has failed: both ask, or the first of them
abbrev pub both_ask : List ℕ
both_ask = codes "0115000400050F8F0102056C02410200056C0241020068"

abbrev pub first_asks : List ℕ
first_asks = codes "0115000400050F8F0102056C02410200056C0201020028"

abbrev pub held_by_both : List Entry
held_by_both = ended_by both_ask endings.Fail ++ Held 5 ∷ []

abbrev pub held_by_first : List Entry
held_by_first = ended_by first_asks endings.Fail ++ Held 5 ∷ []

-- the first is not kept, so the second ends the command, and asks for nothing
abbrev pub not_held_by_second : List Entry
not_held_by_second = Begin 5 1 1 ∷ by_chip first_asks ∷ host_acknowledges ∷ Unkept 5 ∷ Out 1 endings.Fail ∷ Said (codes "tick 1") ∷ []

-- or the first says that the node is at work, and asks; the second ends the command, and asks for nothing
abbrev pub work_asks : List ℕ
work_asks = codes "0115000400050F8F0102056C02410100056C020102002B"

abbrev pub not_held_by_work : List Entry
not_held_by_work = ended_by work_asks endings.Fail ++ Said (codes "tick 1") ∷ []

-- what a node has sealed may end its command, and ask
abbrev pub held_by_sealed : List Entry
held_by_sealed = Begin 4 1 1 ∷ sealed_come ∷ host_acknowledges ∷ Out 1 endings.Success ∷ Held 4 ∷ []
