-- Units and refusals as bytes (Serial API: frame layout; that other types are refused is this project's own rule).
use Rattle.std.specs.Prelude.{◌≡◌, ◌≢◌, ℕ, List, ◌∷◌, [], ◌<◌, ◌≤◌, length}
use Rattle.serial_frame.specs.Frame.{FrameParts, kind_code, checksum, framed}
use Rattle.serial_frame.specs.declared.unit.Unit.{Unit as LineUnit}
use Rattle.serial_frame.specs.declared.unit.Unit.TheVariants.{Ack, Nak, Can, Framed}
use Rattle.serial_frame.specs.declared.item.Item.{Item}
use Rattle.serial_frame.specs.declared.item.Item.TheVariants.{Good, Refused}
use Rattle.serial_frame.specs.declared.item.Refusal.{Refusal}
use Rattle.serial_frame.specs.declared.item.Refusal.TheVariants.{Stray, BadLength, BadSum, BadKind, Aborted}

-- type, function and body
abbrev pub counted_of : FrameParts → List ℕ
counted_of f = kind_code f.kind ∷ f.func ∷ f.body

-- the bytes of a unit
abbrev pub unit_text : LineUnit → List ℕ
unit_text Ack = 6 ∷ []
unit_text Nak = 21 ∷ []
unit_text Can = 24 ∷ []
unit_text (Framed f) = framed (counted_of f) (checksum (counted_of f))

-- a frame has at most 252 bytes of body, so that its length fits a byte
abbrev pub IsUnit : LineUnit → Type 0
IsUnit Ack = Unit {0}
IsUnit Nak = Unit {0}
IsUnit Can = Unit {0}
IsUnit (Framed f) = length f.body ≤ 252

-- these bytes follow the length of a whole frame: type, function and at most 252 bytes of body
abbrev pub IsCounted : List ℕ → Type 0
IsCounted counted = (2 ≤ length counted) × (length counted ≤ 254)

-- none of the bytes that begin a unit: SOF, ACK, NAK and CAN
abbrev pub BeginsNothing : ℕ → Type 0
BeginsNothing x = (x ≢ 1) × (x ≢ 6) × (x ≢ 21) × (x ≢ 24)

-- the bytes of a refusal, the whole of what is refused; an aborted frame ends at a tick and not by its bytes
abbrev pub RefusedText : Refusal → List ℕ → Type 0
RefusedText (Stray x) bytes = BeginsNothing x × (bytes ≡ x ∷ [])
RefusedText (BadLength n) bytes = (n < 3) × (bytes ≡ 1 ∷ n ∷ [])
RefusedText (BadSum want got) bytes = (counted : List ℕ) × IsCounted counted × (want ≡ checksum counted) × (got ≢ want) × (bytes ≡ framed counted got)
RefusedText (BadKind x) bytes = (more : List ℕ) × (1 < x) × IsCounted (x ∷ more) × (bytes ≡ framed (x ∷ more) (checksum (x ∷ more)))
RefusedText Aborted bytes = ⊥

-- the bytes of an item
abbrev pub ItemText : Item → List ℕ → Type 0
ItemText (Good u) bytes = IsUnit u × (bytes ≡ unit_text u)
ItemText (Refused r) bytes = RefusedText r bytes
