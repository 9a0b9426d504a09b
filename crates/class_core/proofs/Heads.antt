-- The class and the command at the prefix of a message.
use Rattle.std.proofs.Common.{◌≡◌, ℕ, true, eqb, Some, Result, Ok, List, ap, ◌∙◌}
use Rattle.std.specs.Prelude.{slice_get}
use Rattle.std.proofs.lemmas.Bool.{eqb-true}
use Rattle.class_core.specs.declared.fault.ClassFault.{ClassFault}
use Rattle.class_core.specs.Reading.{byte_at, in_class}
use Rattle.class_core.proofs.Steps.{bind_ok}
use Rattle.class_core.proofs.FieldLaws.{byte_takes}

-- the class and the command that stand at the prefix
pub record Headed (bytes : List ℕ) (class command : ℕ) : Type 0 where
  pub class_is : slice_get bytes 0 ≡ Some class
  pub command_is : slice_get bytes 1 ≡ Some command

pub narrowed : (bytes : List ℕ) (class command n : ℕ) → Headed bytes class command → eqb command n ≡ true → Headed bytes class n
narrowed bytes class command n h e = record { class_is = h.class_is; command_is = h.command_is ∙ ap Some (eqb-true _ _ e) }

-- what holds of each message that is read by its command holds of those of the class
pub class_takes : {M : Type 0} (P : M → Type 0) (bytes : List ℕ) (class : ℕ) (m : M) (by : List ℕ → ℕ → Result M ClassFault) → slice_get bytes 0 ≡ Some class
    → ((c : ℕ) → Headed bytes class c → by bytes c ≡ Ok m → P m) → in_class by bytes ≡ Ok m → P m
unfolding in_class
class_takes P bytes class m by s takes e =
    let a = bind_ok (byte_at 1 bytes) (by bytes) m e in
    takes a.0 (record { class_is = s; command_is = byte_takes 1 bytes a.0 a.1 }) a.2
