-- The requests of a host on their way to the chip, and the frames that the chip puts on the air for them (this project's own model): what may
-- happen, one step at a time, and what it makes of them. Nothing here is a byte.
use Rattle.std.specs.Prelude.{◌≡◌, ℕ, ◌+◌, ◌-◌, ◌==◌, if◌then◌else◌, Bool, true, false, List, [], ◌∷◌, ◌++◌, drop, Option, Some, None}
use Rattle.std.specs.List.{remove}

-- what a request asks for: that a payload is sent, that the last one is given up, or something else
pub data Word : Type 0 where
  Send : Word
  Abort : Word
  Other : Word

-- the request under way: whether the chip has answered it
pub record Pending : Type 0 where
  pub word : Word
  pub answered : Bool

-- The frames on their way to the chip, first the one that it judges next; the frame of the host's own that is neither acknowledged nor given up; the
-- request under way; whether an abort is owed. Of the chip: how many calls are to come for payloads that were given up, whether one is being sent; and of each call to come
-- whether a frame is on the air for it, in the order of the calls.
pub record Traffic : Type 0 where
  pub up : List Word
  pub link : Option Word
  pub pending : Option Pending
  pub owes : Bool
  pub aborted : ℕ
  pub sending : Bool
  pub calls : List Bool

abbrev pub no_traffic : Traffic
no_traffic = record { up = []; link = None; pending = None; owes = false; aborted = 0; sending = false; calls = [] }

-- ---- what may happen

-- a request is submitted, or its frame is written once more; a frame on its way is lost, or is refused; the frame is acknowledged, or given up; the
-- request is answered, or ends, or ends in silence, so that an abort is owed; the chip takes a payload to send, with a frame on the air or without; it
-- gives up the one that it sends; the first of its calls comes; the host starts anew, and nothing is on its way
pub data Step : Type 0 where
  Submits : (word : Word) → Step
  Copies : Step
  Loses : (at : ℕ) → Step
  Acknowledges : Step
  Gives_up : Step
  Answers : Step
  Ends : Step
  Falls_silent : Step
  Takes : (flies : Bool) → Step
  Stops : Step
  Calls : Step
  Restarts : Step

-- ---- words

-- the request whose word it is was just submitted
abbrev pub submitted : Word → Option Pending
submitted word = Some (record { word = word; answered = false })

-- the frame of the host's own
abbrev pub linked : Option Word → List Word
linked None = []
linked (Some word) = word ∷ []

-- the abort that is owed
abbrev pub owed : Bool → List Word
owed true = Abort ∷ []
owed false = []

-- an abort is over once its frame is acknowledged
abbrev pub acknowledged_by : Word → Pending → Option Pending
acknowledged_by Abort pending = None
acknowledged_by Send pending = Some pending
acknowledged_by Other pending = Some pending

abbrev pub acknowledged : Option Pending → Option Pending
acknowledged None = None
acknowledged (Some pending) = acknowledged_by pending.word pending

abbrev pub answered_now : Option Pending → Option Pending
answered_now None = None
answered_now (Some pending) = Some (record pending { answered = true })

-- the first of the calls comes: those for payloads that were given up are before the one that is being sent
abbrev pub called : Traffic → Traffic
called t = if t.aborted == 0 then record t { sending = false; calls = drop 1 t.calls } else record t { aborted = t.aborted - 1; calls = drop 1 t.calls }

-- the first frame on its way is judged
abbrev pub judged : Traffic → Traffic
judged t = record t { up = drop 1 t.up }

-- ---- what is then

abbrev pub after : Traffic → Step → Traffic
after t (Submits word) = record t { up = t.up ++ word ∷ []; link = Some word; pending = submitted word; owes = false }
after t Copies = record t { up = t.up ++ linked t.link }
after t (Loses at) = record t { up = remove t.up at }
after t Acknowledges = record t { link = None; pending = acknowledged t.pending }
after t Gives_up = record t { link = None; pending = None }
after t Answers = record t { pending = answered_now t.pending }
after t Ends = record t { pending = None }
after t Falls_silent = record t { pending = None; owes = true }
after t (Takes flies) = record (judged t) { sending = true; calls = t.calls ++ flies ∷ [] }
after t Stops = record (judged t) { aborted = t.aborted + 1; sending = false }
after t Calls = called t
after t Restarts = record t { up = []; link = None; pending = None; owes = false }

-- ---- when it may happen

-- an abort is submitted where one is owed, and then nothing else is
abbrev pub MaySubmit : Word → Bool → Type 0
MaySubmit Abort owes = owes ≡ true
MaySubmit Send owes = owes ≡ false
MaySubmit Other owes = owes ≡ false

-- the request under way is a SendData that was answered, or not
abbrev pub IsSend : Bool → Option Pending → Type 0
IsSend answered pending = pending ≡ Some (record { word = Send; answered = answered })

-- the request under way is an abort
abbrev pub IsAbort : Option Pending → Type 0
IsAbort pending = (answered : Bool) × (pending ≡ Some (record { word = Abort; answered = answered }))

-- the first frame on its way
abbrev pub IsFirst : Word → List Word → Type 0
IsFirst word up = (rest : List Word) × (up ≡ word ∷ rest)

-- A request is submitted where none is under way and the line is free. The host hears of answers only while nothing of its own is on its way, since the chip took all before. An abort ends no
-- earlier than its frame. A request falls silent only while no call is to come, since those that were due came before. The chip takes a payload while it sends none, and gives up the one that it sends.
abbrev pub May : Traffic → Step → Type 0
May t (Submits word) = (t.pending ≡ None) × (t.link ≡ None) × MaySubmit word t.owes
May t Copies = Unit {0}
May t (Loses at) = Unit {0}
May t Acknowledges = Unit {0}
May t Gives_up = Unit {0}
May t Answers = t.up ≡ []
May t Ends = IsAbort t.pending → t.link ≡ None
May t Falls_silent = IsSend true t.pending × (t.calls ≡ [])
May t (Takes flies) = IsFirst Send t.up × (t.sending ≡ false)
May t Stops = IsFirst Abort t.up × (t.sending ≡ true)
May t Calls = Unit {0}
May t Restarts = Unit {0}

-- one step after another
abbrev pub after_all : Traffic → List Step → Traffic
after_all t [] = t
after_all t (step ∷ steps) = after_all (after t step) steps

abbrev pub MayAll : Traffic → List Step → Type 0
MayAll t [] = Unit {0}
MayAll t (step ∷ steps) = May t step × MayAll (after t step) steps
