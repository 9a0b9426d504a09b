-- The words for bytes and for what is wrong with them (this project's own rule).
use Rattle.std.specs.Prelude.{ℕ, ◌/◌, ◌%◌, List, [], ◌∷◌, codes, decimal}
use Rattle.hex.specs.Hex.{encode_upper}
use Rattle.chip_functions.specs.declared.fault.BodyFault.{BodyFault}
use Rattle.chip_functions.specs.declared.fault.BodyFault.TheVariants.{UnknownFunction, Short, BadField, NoMemory}
use Rattle.class_core.specs.declared.fault.ClassFault.{ClassFault}
use Rattle.class_core.specs.declared.fault.ClassFault.TheVariants.{Empty, UnknownClass, UnknownCommand, Short as short_message, BadValue, NoMemory as no_message_memory}
use Rattle.encap.specs.declared.fault.WrapFault.{WrapFault}
use Rattle.encap.specs.declared.fault.WrapFault.TheVariants.{OutOfOrder, Length, BadCrc, TooLong, BitAddress, NoMemory as no_wrap_memory}

-- a byte as two hex digits
abbrev pub byte_word : ℕ → List ℕ
byte_word byte = encode_upper (byte ∷ [])

-- a check of 16 bits as four hex digits
abbrev pub check_word : ℕ → List ℕ
check_word check = encode_upper (check / 256 ∷ check % 256 ∷ [])

-- bytes as hex digits, `-` where there are none
abbrev pub bytes_word : List ℕ → List ℕ
bytes_word [] = codes "-"
bytes_word (byte ∷ bytes) = encode_upper (byte ∷ bytes)

-- what is wrong with a body
abbrev pub body_words : BodyFault → List (List ℕ)
body_words (UnknownFunction func) = codes "unknownfunction" ∷ byte_word func ∷ []
body_words (Short need got) = codes "short" ∷ decimal need ∷ decimal got ∷ []
body_words (BadField place) = codes "badfield" ∷ decimal place ∷ []
body_words NoMemory = codes "nomemory" ∷ []

-- what is wrong with the wraps of a payload
abbrev pub wrap_words : WrapFault → List (List ℕ)
wrap_words (OutOfOrder class) = codes "outoforder" ∷ byte_word class ∷ []
wrap_words (Length said got) = codes "length" ∷ decimal said ∷ decimal got ∷ []
wrap_words (BadCrc want got) = codes "badcrc" ∷ check_word want ∷ check_word got ∷ []
wrap_words (TooLong len) = codes "toolong" ∷ decimal len ∷ []
wrap_words BitAddress = codes "bitaddress" ∷ []
wrap_words no_wrap_memory = codes "nomemory" ∷ []

-- what is wrong with a command
abbrev pub class_words : ClassFault → List (List ℕ)
class_words Empty = codes "empty" ∷ []
class_words (UnknownClass class) = codes "unknownclass" ∷ byte_word class ∷ []
class_words (UnknownCommand class command) = codes "unknowncommand" ∷ byte_word class ∷ byte_word command ∷ []
class_words (short_message need) = codes "short" ∷ decimal need ∷ []
class_words (BadValue at) = codes "badvalue" ∷ decimal at ∷ []
class_words no_message_memory = codes "nomemory" ∷ []
