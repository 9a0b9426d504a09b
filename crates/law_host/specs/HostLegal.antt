-- What a legal host does, over what it heard, from whatever its keeper kept (this project's own rule): the laws of the host alone, as one.
use Rattle.std.specs.Prelude.{◌≡◌, ℕ, ◌-◌, Bool, true, false, List, [], ◌∷◌, ◌++◌, length, take, Option, ⊤, IfSome}
use Rattle.std.specs.List.{flat_map, AllByRecursion}
use Rattle.host_heard.specs.declared.told.Told.{Told}
use Rattle.value_store.specs.ValueText.{values_text}
use Rattle.value_store.specs.declared.stored.Held.{Held}
use Rattle.zw_words.specs.declared.side.Side.TheVariants.{Host}
use Rattle.zw_text.specs.declared.line.Line.{Line}
use Rattle.zw_text.specs.declared.line.Line.TheVariants as lines
use Rattle.zw_text.specs.declared.entry.Entry.{Entry}
use Rattle.zw_text.specs.declared.entry.Entry.TheVariants.{Json, TableValue}
use Rattle.zw_text.specs.Transcript.{line_last}
use Rattle.law_time.specs.law_transcript.Answers.{AnswersAfter, MayCancel, refusals_by_host}
use Rattle.law_time.specs.law_transcript.Lists.{EachAfter}
use Rattle.law_time.specs.law_transcript.Once.{CarriesOnce}
use Rattle.law_time.specs.law_transcript.Payloads.{MayRequest}
use Rattle.law_time.specs.law_transcript.Records.{KeepsRecords}
use Rattle.law_time.specs.law_transcript.Sessions.{MayBegin}
use Rattle.law_time.specs.law_transcript.Stores.{StoresConfirmed}
use Rattle.law_time.specs.law_transcript.Table.{value_lines}
use Rattle.law_time.specs.law_transcript.Units.{Carried}
use Rattle.law_time.specs.law_wire.Links.{KeepsLink}
use Rattle.law_time.specs.law_wire.Serial.{ended}
use Rattle.law_time.specs.Heeds.{Heeds}
use Rattle.law_time.specs.Prompt.{IsPromptAfter}
use Rattle.law_host.specs.Course.{Heeding}
use Rattle.law_host.specs.Heard.{heeds_from}
use Rattle.law_host.specs.Notes.{NotesWhatHappens, Start, course_of}

-- ---- values shown

-- the values of a node, in the order of their properties
abbrev pub held_in : Entry → List Held
held_in (TableValue node property confirmed heard) = record { property = property; stored = record { confirmed = confirmed; heard = heard } } ∷ []
held_in entry = []

abbrev pub values_now : (List Entry → ℕ → List ℕ) → List Entry → ℕ → Entry
values_now listing past node = Json (values_text node (flat_map held_in (value_lines listing past node)))

-- a line asks for them, and they stand directly after it and nowhere else
abbrev pub IsShown : (List Entry → ℕ → List ℕ) → List Entry → List Line → Entry → Type 0
IsShown listing past (lines.Store node ∷ more) entry = entry ≡ values_now listing past node
IsShown listing past line (Json text) = ⊥
IsShown listing past line entry = ⊤

abbrev pub ShowsValues : (List Entry → ℕ → List ℕ) → List Entry → Entry → Type 0
ShowsValues listing past entry = IsShown listing past (line_last past) entry

-- ---- the law

-- the host answers lines, has one session of a node at a time and each command in one, keeps the rules of its link by the clock of what stood before,
-- sends and notes what it should, and nothing else; stores what is confirmed and shows what it stored; is prompt; and its records, where they are told, say
-- what it showed
pub record IsHostLegal (key : List ℕ) (heeds : Heeds) (start : Start) (whole : Bool) (heard : List Entry)
    (records : Option (List (List ℕ))) : Type 0 where
  pub answers : AnswersAfter start.before whole heeds.listing (refusals_by_host heeds.listing) heard
  pub cancels : EachAfter MayCancel start.before heard
  pub sessions : EachAfter MayBegin start.before heard
  pub carries : (node : ℕ) → CarriesOnce node (start.before ++ heard)
  pub link : KeepsLink Host (ended whole (start.before ++ heard))
  pub notes : NotesWhatHappens key heeds start whole heard
  pub stores : StoresConfirmed whole heeds.listing (start.before ++ heard)
  pub values : EachAfter (ShowsValues heeds.listing) start.before (ended whole heard)
  pub sends : EachAfter (MayRequest heeds.listing key) start.before heard
  pub prompt : IsPromptAfter start.before whole heeds heard
  pub records_kept : whole ≡ true → IfSome records (KeepsRecords (start.before ++ heard))

-- ---- a host alone

-- by a payload it goes as far as it took up its messages
abbrev pub IsHeeded : (List Entry → Carried → List Told) → Heeding → Type 0
IsHeeded taken heeding = taken heeding.past heeding.carried ≡ heeding.messages

-- the payloads that it has gone through: of a run that an allocation failure ended it may be in the middle of the last
abbrev pub gone_through : Bool → List Heeding → List Heeding
gone_through true heeded = heeded
gone_through false heeded = take (length heeded - 1) heeded

-- a host of which nothing is known but what it heard, and how many nonces of each node it had counted before: it is legal as it goes by what nodes
-- listed in their interviews, and by the messages that it took up, sealed or not
pub record IsLegalCounting (key : List ℕ) (counted : ℕ → ℕ) (start : Start) (whole : Bool) (heard : List Entry) (records : Option (List (List ℕ))) : Type 0 where
  pub taken : List Entry → Carried → List Told
  pub legal : IsHostLegal key (heeds_from counted taken) start whole heard records
  pub heeded : AllByRecursion (IsHeeded taken) (gone_through whole (course_of (heeds_from counted taken) start heard legal.notes.choices).heeded)

-- all that it had counted stands before it
abbrev pub IsLegalAlone : List ℕ → Start → Bool → List Entry → Option (List (List ℕ)) → Type 0
IsLegalAlone key = IsLegalCounting key (λ node. 0)
