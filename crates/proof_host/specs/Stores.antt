-- Which values are confirmed and entered as such, by the commands of a host (this project's own rule).
use Rattle.std.specs.Prelude.{◌≡◌, ℕ, ◌+◌, ◌<◌, if◌then◌else◌, List, [], ◌∷◌, length, Option, Some, None}
use Rattle.std.specs.List.{AllByRecursion}
use Rattle.std.specs.declared.cmp.Ordering.TheVariants.{Less}
use Rattle.zw_base.specs.declared.property.Property.{Property}
use Rattle.zw_base.specs.declared.property.Setting.{Setting}
use Rattle.zw_text.specs.declared.entry.Ended.TheVariants as ended
use Rattle.zw_text.specs.declared.entry.Entry.{Entry}
use Rattle.zw_text.specs.declared.entry.Entry.TheVariants.{Out}
use Rattle.zw_text.specs.declared.entry.Outcome.{Outcome}
use Rattle.zw_text.specs.Transcript.{shown, sessions, outcome}
use Rattle.law_transcript.specs.Lists.{EachAfter}
use Rattle.law_transcript.specs.Stores.{store_at, MayStore}
use Rattle.law_transcript.specs.Table.{compare_properties}
use Rattle.law_transcript.specs.Values.{is_success, last_given}
use Rattle.value_store.specs.Values.{Values, stored_of}
use Rattle.law_transcript.specs.host_orders.Settings.{settings}
use Rattle.host_model.specs.host_keep.Kept.{Taken, value_by}
use Rattle.host_model.specs.host_node.State.{NodeState}
use Rattle.host_model.specs.host_node.TableState.{node_of}
use Rattle.host_model.specs.State.{HostState, Command}
use Rattle.host_model.specs.Outs.{stored_entries}
use Rattle.proof_host.specs.Tables.{outcome_in, taken_at}

-- the value that a command gives a property of its node: the one that it asks for, where it succeeded
abbrev pub given_by : List Command → (ℕ → Outcome) → Property → ℕ → Option ℕ
given_by commands outcomes property number = if is_success (outcomes number) then value_by (taken_at commands number) property else None

-- the entries of the values that a command asks for
abbrev pub stores_by : Option Taken → List Entry
stores_by None = []
stores_by (Some taken) = stored_entries taken.order.node (settings taken.carriage.actuator taken.order)

-- the entries that a success asks for
abbrev pub stores_at : List Command → Entry → List Entry
stores_at commands (Out number ended.Success) = stores_by (taken_at commands number)
stores_at commands _ = []

-- settings in the order of properties, each property once
abbrev pub AreSorted : List Setting → Type 0
AreSorted [] = Unit {0}
AreSorted (made ∷ more) = AllByRecursion (λ later. compare_properties made.property later.property ≡ Less) more × AreSorted more

-- an entry speaks of a command of this many, where it says that one ended
abbrev pub IsKnown : ℕ → Entry → Type 0
IsKnown count (Out number ended) = number < count + 1
IsKnown count _ = Unit {0}

-- the values that are entered are those that the successful commands ask for, in order, each after its success
pub record AreStored (transcript : List Entry) (commands : List Command) : Type 0 where
  pub entered : shown store_at transcript ≡ shown (stores_at commands) transcript
  pub following : EachAfter MayStore [] transcript
  pub known : AllByRecursion (IsKnown (length commands)) transcript

-- the confirmed value of a property is the one that the last successful command among the sessions gives it
abbrev pub AreConfirmed : List Command → List NodeState → Values → Type 0
AreConfirmed commands nodes store =
    (node : ℕ) (property : Property) → (stored_of store node property).confirmed ≡ last_given (given_by commands (outcome_in commands) property) (node_of nodes node).book.commands

-- so it is by the entries
pub record StoresLaw (transcript : List Entry) (h : HostState) : Type 0 where
  pub entered : shown store_at transcript ≡ shown (stores_at h.commands) transcript
  pub following : EachAfter MayStore [] transcript
  pub confirmed : (node : ℕ) (property : Property) →
      (stored_of h.store node property).confirmed ≡ last_given (given_by h.commands (λ number. outcome number transcript) property) (sessions node transcript)
