-- Entries whose numbers are in the ranges that their types keep.
use Rattle.std.specs.Prelude.{◌≡◌, ℕ, ◌<◌, ◌≤◌, ◌^◌, ◌==◌, length, List, Option, Some, None, count_by}
use Rattle.std.specs.List.{AllByRecursion}
use Rattle.zw_base.specs.declared.property.Name.{Name}
use Rattle.zw_base.specs.declared.property.Name.TheVariants.{Setpoint, Config, Member}
use Rattle.zw_base.specs.declared.property.Property.{Property}
use Rattle.zw_base.specs.declared.property.Setting.{Setting}
use Rattle.zw_base.specs.declared.property.By.{By}
use Rattle.zw_base.specs.declared.property.By.TheVariants.{Session}
use Rattle.zw_text.specs.declared.entry.Refusal.{Refusal}
use Rattle.zw_text.specs.declared.entry.Refusal.TheVariants.{Unsupported, TooLong, MailboxFull, StoreFull, QueueFull as QueueIsFull, NotWaiting, Stale, BadRecord}
use Rattle.zw_text.specs.declared.entry.Entry.{Entry}
use Rattle.zw_text.specs.declared.entry.Entry.TheVariants.{Said, Accepted, Refused, Begin, Written, Garbled, Air, Heard, Lost, Unheard, Dev, Forget, Out, Store, Report, Unstored, Old, Unread, Awake, Asleep, Interviewed, InterviewFailed, Done, Neighbours, Failed, QueueFull, Device, Json, Held, Cleared, Unkept, Time, TableEnd, TableNode, TableValue, BadLine}

-- how many line feeds a text has
abbrev pub feeds : List ℕ → ℕ
feeds text = count_by (λ b. b == 10) text

-- a byte, and numbers of two, four and eight bytes
abbrev pub IsByte : ℕ → Type 0
IsByte n = n < 256

abbrev pub IsTwo : ℕ → Type 0
IsTwo n = n < 2 ^ 16

abbrev pub IsFour : ℕ → Type 0
IsFour n = n < 2 ^ 32

abbrev pub IsEight : ℕ → Type 0
IsEight n = n < 2 ^ 64

-- a node
abbrev pub IsNode : ℕ → Type 0
IsNode n = (1 ≤ n) × (n ≤ 232)

-- a number that may be missing
abbrev pub OptionFits : Option ℕ → Type 0
OptionFits None = Unit {0}
OptionFits (Some n) = IsFour n

-- a name, a property, a setting, what made a change, and a refusal
abbrev pub NameFits : Name → Type 0
NameFits (Setpoint kind) = IsByte kind
NameFits (Config parameter) = IsByte parameter
NameFits (Member group node) = IsByte group × IsNode node
NameFits _ = Unit {0}

abbrev pub PropertyFits : Property → Type 0
PropertyFits property = (property.end ≤ 127) × NameFits property.name

abbrev pub SettingFits : Setting → Type 0
SettingFits setting = PropertyFits setting.property × IsFour setting.value

abbrev pub ByFits : By → Type 0
ByFits (Session session) = IsEight session
ByFits _ = Unit {0}

abbrev pub RefusalFits : Refusal → Type 0
RefusalFits (Unsupported class) = IsByte class
RefusalFits (TooLong bytes) = IsTwo bytes
RefusalFits (MailboxFull waiting) = IsByte waiting
RefusalFits (StoreFull properties) = IsTwo properties
RefusalFits (QueueIsFull waiting) = IsByte waiting
RefusalFits (NotWaiting command) = IsFour command
RefusalFits (Stale later) = IsEight later
RefusalFits (BadRecord place) = IsEight place
RefusalFits _ = Unit {0}

-- the bytes of a list
abbrev pub AreBytes : List ℕ → Type 0
AreBytes bytes = AllByRecursion IsByte bytes

-- each number of the entry is in its range
abbrev pub EntryFits : Entry → Type 0
EntryFits (Accepted command node) = IsFour command × IsNode node
EntryFits (Refused refusal) = RefusalFits refusal
EntryFits (Begin node session command) = IsNode node × IsEight session × IsFour command
EntryFits (Written side unit) = AreBytes unit
EntryFits (Garbled side unit) = AreBytes unit
EntryFits (Air frame sender receiver repeaters payload) =
    IsEight frame × IsNode sender × IsNode receiver × AllByRecursion IsNode repeaters × AreBytes payload × (length payload ≤ 46)
EntryFits (Heard frame) = IsEight frame
EntryFits (Lost frame) = IsEight frame
EntryFits (Unheard frame) = IsEight frame
EntryFits (Dev node by setting) = IsNode node × ByFits by × SettingFits setting
EntryFits (Forget first second) = IsNode first × IsNode second
EntryFits (Out command ended) = IsFour command
EntryFits (Store node setting) = IsNode node × SettingFits setting
EntryFits (Report node setting) = IsNode node × SettingFits setting
EntryFits (Unstored node property) = IsNode node × PropertyFits property
EntryFits (Old node id) = IsNode node × IsByte id
EntryFits (Unread node payload) = IsNode node × AreBytes payload
EntryFits (Awake node) = IsNode node
EntryFits (Asleep node) = IsNode node
EntryFits (Interviewed node) = IsNode node
EntryFits (InterviewFailed node) = IsNode node
EntryFits (Done node done) = IsNode node
EntryFits (Neighbours node list) = IsNode node × AllByRecursion IsNode list
EntryFits (Failed node failed) = IsNode node
EntryFits (QueueFull node) = IsNode node
EntryFits (Device node setting) = IsNode node × SettingFits setting
EntryFits (Held node) = IsNode node
EntryFits (Cleared side bytes) = IsEight bytes
EntryFits (Unkept node) = IsNode node
EntryFits (Time tick) = IsEight tick
EntryFits (TableEnd ticks) = IsEight ticks
EntryFits (TableNode node sessions) = IsNode node × AllByRecursion IsFour sessions
EntryFits (TableValue node property confirmed heard) = IsNode node × PropertyFits property × OptionFits confirmed × OptionFits heard
EntryFits (BadLine line fault) = IsFour line
EntryFits _ = Unit {0}

-- an entry that is one line: what it took from outside has no line feed
abbrev pub IsOneLine : Entry → Type 0
IsOneLine (Said words) = feeds words ≡ 0
IsOneLine (Json text) = feeds text ≡ 0
IsOneLine _ = Unit {0}
