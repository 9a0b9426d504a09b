-- What holds of every transcript of `include` and of both ends after it (this project's own rule, docs/INCLUSION.md).
use Rattle.std.specs.Prelude.{◌≡◌, ◌≤◌, ◌↔◌, ◌⊎◌, ℕ, ◌==◌, if◌then◌else◌, Bool, true, false, IsSome, Option, Some, None, List, [], ◌∷◌, ◌++◌, length}
use Rattle.std.specs.List.{flat_map}
use Rattle.inclusion.specs.Including.{is_secure}
use Rattle.include_text.specs.declared.line.IncludeLine.{IncludeLine}
use Rattle.include_text.specs.declared.line.IncludeLine.TheVariants.{Add, Reset, Lose, Repeat, Tick}
use Rattle.include_text.specs.declared.entry.IncludeEntry.{IncludeEntry}
use Rattle.include_text.specs.declared.entry.IncludeEntry.TheVariants.{Said, Key, Secure, Failed}
use Rattle.include_world.specs.World.{WorldState, IncludeEvent, AllDrawn, first_world, joiner_of, after_all, entries_all}

-- what a transcript can say of a node: that it is secure, that its exchange failed, that it was reset
pub data Word : Type 0 where
  IsSecure : Word
  HasFailed : Word
  WasReset : Word

-- what is of the node
abbrev pub of_node : {A : Type 0} → ℕ → ℕ → A → List A
of_node node at x = if at == node then x ∷ [] else []

-- the word on a node in a line, and in an entry
abbrev pub word_in_line : ℕ → IncludeLine → List Word
word_in_line node (Reset at) = of_node node at WasReset
word_in_line node (Add at) = []
word_in_line node (Lose count) = []
word_in_line node (Repeat frame) = []
word_in_line node (Tick count) = []

abbrev pub word_in : ℕ → IncludeEntry → List Word
word_in node (Said line) = word_in_line node line
word_in node (Secure at) = of_node node at IsSecure
word_in node (Failed at) = of_node node at HasFailed
word_in node entry = []

-- whether the lock of a node took a key, or was reset
abbrev pub key_in_line : ℕ → IncludeLine → List Bool
key_in_line node (Reset at) = of_node node at false
key_in_line node (Add at) = []
key_in_line node (Lose count) = []
key_in_line node (Repeat frame) = []
key_in_line node (Tick count) = []

abbrev pub key_in : ℕ → IncludeEntry → List Bool
key_in node (Said line) = key_in_line node line
key_in node (Key at) = of_node node at true
key_in node entry = []

-- the last of some, or what was before them
abbrev pub last_of : {A : Type 0} → Option A → List A → Option A
last_of before [] = before
last_of before (x ∷ more) = last_of (Some x) more

-- the last word on a node
abbrev pub last_word : ℕ → List IncludeEntry → Option Word
last_word node T = last_of None (flat_map (word_in node) T)

-- whether a node took a key with no later reset, if it was either
abbrev pub last_key : ℕ → List IncludeEntry → Option Bool
last_key node T = last_of None (flat_map (key_in node) T)

-- what a transcript says of a node is so: after `secure` as the last word on it its lock holds exactly the key; a lock holds that
-- key or none, and only after a `key` with no later reset; the host counts it as secure exactly after `secure` as the last word,
-- and so not after `failed`
pub record AddedAt (key : List ℕ) (node : ℕ) (T : List IncludeEntry) (world : WorldState) : Type 0 where
  pub secure : last_word node T ≡ Some IsSecure → (joiner_of world node).key ≡ Some key
  pub one_key : ((joiner_of world node).key ≡ None) ⊎ ((joiner_of world node).key ≡ Some key)
  pub taken : IsSome (joiner_of world node).key → last_key node T ≡ Some true
  pub counted : (is_secure world.includer node ≡ true) ↔ (last_word node T ≡ Some IsSecure)
  pub failed : last_word node T ≡ Some HasFailed → is_secure world.includer node ≡ false

-- that holds of all nodes
abbrev pub Added : List ℕ → List IncludeEntry → WorldState → Type 0
Added key T world = (node : ℕ) → 1 ≤ node → node ≤ 232 → AddedAt key node T world

-- events from the first world made this transcript, and this world
pub record Reached (key : List ℕ) (T : List IncludeEntry) (world : WorldState) : Type 0 where
  pub events : List IncludeEvent
  pub sixteen : length key ≡ 16
  pub drawn : AllDrawn events
  pub state : world ≡ after_all (first_world key) events
  pub entries : T ≡ entries_all (first_world key) events

-- entries were made, and the transcript with them is so
pub record TellsOn (key : List ℕ) (T : List IncludeEntry) (world : WorldState) (before all : List IncludeEntry) : Type 0 where
  pub told : List IncludeEntry
  pub made : all ≡ before ++ told
  pub reached : Reached key (T ++ told) world
  pub added : Added key (T ++ told) world
