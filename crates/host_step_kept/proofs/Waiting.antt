-- Which commands wait, by a test and by a fact.
use Rattle.std.proofs.Common.{◌≡◌, ℕ, ◌||◌, Bool, true, false, [], ◌∷◌, Option, Some, None, refl}
use Rattle.std.specs.Prelude.{Contains}
use Rattle.std.proofs.lemmas.List.Elements.{All-contains}
use Rattle.host_keep.specs.Kept.{is_among}
use Rattle.host_keep.specs.declared.record.Record.TheVariants.{Cancelled}
use Rattle.host_model.specs.State.{HostState, Command, node_of, command_at}
use Rattle.host_model.specs.After.{node_for}
use Rattle.host_model.specs.Facts.{HostFacts, IsCommandOf}
use Rattle.host_model.specs.Restoring.{may_restore}
use Rattle.host_model.proofs.RestoredFacts.{from_among}
use Rattle.host_model.proofs.Events.{contained}

-- a command that waits may be cancelled
pub may_be_cancelled : (h : HostState) (command : ℕ) → Contains (node_of h (node_for h command)).waiting command → may_restore h (Cancelled command) ≡ true
may_be_cancelled h command c = contained (node_of h (node_for h command)).waiting command c

-- one that does not may not
pub not_cancelled_by : (h : HostState) (command : ℕ) → (Contains (node_of h (node_for h command)).waiting command → ⊥) → may_restore h (Cancelled command) ≡ false
not_cancelled_by h command none = by (is_among (node_of h (node_for h command)).waiting command) refl
  where
    by : (b : Bool) → is_among (node_of h (node_for h command)).waiting command ≡ b → b ≡ false
    by true e = absurd (none (from_among (node_of h (node_for h command)).waiting command e))
    by false e = refl

-- nor may one that is invalid
pub none_is_cancelled : (h : HostState) (command : ℕ) → HostFacts h → command_at h.commands command ≡ None → may_restore h (Cancelled command) ≡ false
none_is_cancelled h command f none = not_cancelled_by h command (λ c.
    never (command_at h.commands command) none (All-contains (IsCommandOf h.commands (node_for h command)) (node_of h (node_for h command)).waiting command (f.owns (node_for h command)).waiting c).found)
  where
    never : {one : Command} (o : Option Command) → o ≡ None → o ≡ Some one → ⊥
    never o e g = cc
