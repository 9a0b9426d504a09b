-- The information of a node: its device classes and its command classes (Serial API: node information frame).
use Rattle.std.specs.Prelude.{ℕ, ◌+◌, ◌-◌, List, ◌∷◌, length, Err, nat_lt, if◌then◌else◌}
use Rattle.chip_functions.specs.declared.fault.BodyFault.TheVariants.{BadField}
use Rattle.chip_functions.specs.declared.notice.TheConstants.{DEVICE_CLASSES}
use Rattle.chip_functions.specs.Place.{Place, Reading, ◌>>=◌, byte_from}
use Rattle.chip_functions.specs.Field.{Field, byte, piece, ◌then◌}

-- basic, generic and specific device class and the command classes
abbrev pub Classes : Type 0
Classes = ℕ × (ℕ × (ℕ × List ℕ))

-- these, so many bytes in all
abbrev pub classes_of : ℕ → Field Classes
classes_of len = byte then byte then byte then piece (len - DEVICE_CLASSES)

-- these after their length, which stood at that place of the body
abbrev pub classes_after : ℕ → ℕ → Place → Reading Classes
classes_after before len p = if nat_lt len DEVICE_CLASSES then Err (BadField before) else (classes_of len).read p

-- these after their length
abbrev pub classes : Field Classes
classes = record {
  spell = λ x. (length x.1.1.1 + DEVICE_CLASSES) ∷ (classes_of (length x.1.1.1 + DEVICE_CLASSES)).spell x;
  read = λ p. byte_from p.before p.rest >>= λ n. classes_after p.before n.0 n.1;
}
