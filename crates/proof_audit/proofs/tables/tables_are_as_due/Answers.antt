-- The values of the table are those that the rule asks for, and those of devices are the last that they showed.
use Rattle.std.proofs.Common.{◌≡◌, ℕ, List, ◌∷◌, Some, ap, subst}
use Rattle.device_stack.specs.State.{State}
use Rattle.device_stack.specs.Showing.{shown_of}
use Rattle.std.specs.List.{AllByRecursion, flat_map}
use Rattle.zw_text.specs.declared.entry.Entry.{Entry}
use Rattle.zw_text.specs.declared.entry.Entry.TheVariants.{TableNode}
use Rattle.zw_text.specs.Transcript.{made, sessions}
use Rattle.law_transcript.specs.Devices.{made_by}
use Rattle.law_transcript.specs.Nodes.{device_of, listing_of}
use Rattle.proof_headline.specs.proof_device.Showing.{IsShown}
use Rattle.proof_audit.proofs.ChangedOnce.{found-so}
use Rattle.proof_audit.proofs.ConfirmedValues.{values-alike}
use Rattle.proof_audit.proofs.ShownValues.{IsLastShown, all-last-shown}
use Rattle.proof_audit.proofs.TableRows.{keeps-table}
use Rattle.proof_audit.proofs.WithTable.{no-end}
use Rattle.proof_audit.proofs.tables.tables_are_as_due.Goals as goal

device-shows : (transcript : List Entry) (devices : List State) (node : ℕ) (device : State) → AllByRecursion (IsShown transcript) devices → device_of node devices ≡ Some device
    → AllByRecursion (IsLastShown transcript node) (shown_of device)
device-shows transcript devices node device shown found =
    let one = found-so (IsShown transcript) devices node device shown found in
    all-last-shown transcript node device (subst (λ (n : ℕ). made n transcript ≡ flat_map made_by device.journal) one.of_node one.so)

pub returns : goal.returns
returns c = λ before after ticks transcript laws asked shown shows.
    keeps-table transcript ticks (no-end before transcript shows) (listing_of before) after
    (λ node. ap (λ (l : List Entry). TableNode node (sessions node transcript) ∷ l) (values-alike (listing_of before) transcript laws asked node))
    (λ node device found. device-shows transcript after node device shown found)
