-- What a transcript shows of the devices (this project's own): the `dev` entries are the settings of the changes.
use Rattle.std.specs.Prelude.{◌≡◌, ◌≢◌, ℕ, ◌≤◌, List, [], ◌∷◌, ◌++◌}
use Rattle.std.specs.List.{AllByRecursion, AllZip, flat_map}
use Rattle.law_transcript.specs.device_kinds.declared.change.Change.{Change}
use Rattle.law_transcript.specs.device_sim.State.{State}
use Rattle.law_transcript.specs.zw_text.declared.entry.Entry.{Entry}
use Rattle.law_transcript.specs.zw_text.Transcript.{Made, made}
use Rattle.law_transcript.specs.Devices.{made_by}
use Rattle.law_transcript.specs.Lists.{Has}

-- no two devices are of one node
abbrev pub AreApart : List State → Type 0
AreApart [] = Unit {0}
AreApart (device ∷ devices) = AllByRecursion (λ (other : State). other.node ≢ device.node) devices × AreApart devices

-- a device made changes, and these entries show their settings, in order
pub record Shows (transcript : List Entry) (old new : State) : Type 0 where
  pub changes : List Change
  pub changed : new.journal ≡ old.journal ++ changes
  pub entered : made old.node transcript ≡ flat_map made_by changes

-- so for each, at its place
abbrev pub AllShow : List Entry → List State → List State → Type 0
AllShow transcript old new = AllZip (Shows transcript) old new

-- no device has changed yet
abbrev pub AreUnchanged : List State → Type 0
AreUnchanged devices = AllByRecursion (λ (device : State). device.journal ≡ []) devices

-- what a transcript shows of a device is its journal, from the first change on
abbrev pub IsShown : List Entry → State → Type 0
IsShown transcript device = made device.node transcript ≡ flat_map made_by device.journal

-- each setting of its journal is shown, perhaps among those of other devices of its node
abbrev pub IsShownAmong : List Entry → State → Type 0
IsShownAmong transcript device = (one : Made) → Has (flat_map made_by device.journal) one → Has (made device.node transcript) one

-- numbers of which none is above a later one: equal ones stand together
abbrev pub NeverFalls : List ℕ → Type 0
NeverFalls [] = Unit {0}
NeverFalls (number ∷ more) = AllByRecursion (λ later. number ≤ later) more × NeverFalls more
