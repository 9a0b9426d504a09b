-- Which record has these numbers: each number at its place, in its range.
use Rattle.std.specs.Prelude.{◌≡◌, ℕ, ◌+◌, ◌^◌, ◌&&◌, nat_le, nat_lt, ◌==◌, if◌then◌else◌, Bool, true, false, List, [], ◌∷◌, drop, slice_get, Result, Ok, Err, Option}
use Rattle.std.specs.Option.{ok_or}
use Rattle.zw_base.specs.declared.order.Word.{Word}
use Rattle.zw_base.specs.declared.order.Word.TheVariants.{On, Off, Level}
use Rattle.zw_base.specs.declared.order.What.{What}
use Rattle.zw_base.specs.declared.order.What.TheVariants as what
use Rattle.host_keep.specs.Status.{status_of}
use Rattle.host_keep.specs.declared.final_status.FinalStatus.{FinalStatus}
use Rattle.host_keep.specs.declared.reading.RecordFault.{RecordFault}
use Rattle.host_keep.specs.declared.reading.RecordFault.TheVariants.{Bad, NoMemory}
use Rattle.host_keep.specs.declared.record.Record.{Record}
use Rattle.host_keep.specs.declared.record.Record.TheVariants.{Accepted, Joined, Classes, Begun, Final, Cancelled, Given, Spent, Seen}

infixl 10 ◌>>=◌
abbrev pub ◌>>=◌ : {A B : Type 0} → Result A RecordFault → (A → Result B RecordFault) → Result B RecordFault
(Ok x) >>= f = f x
(Err e) >>= f = Err e

-- what a reader answered is what reading gives, unless there was no memory
abbrev pub Gives : {X : Type 0} → Result X RecordFault → Result X RecordFault → Type 0
Gives (Ok x) reading = reading ≡ Ok x
Gives (Err NoMemory) reading = Unit {0}
Gives (Err Bad) reading = reading ≡ Err Bad

-- ---- a number in its range

abbrev pub where_ok : {A : Type 0} → Bool → A → Result A RecordFault
where_ok holds x = if holds then Ok x else Err Bad

abbrev pub byte_in : ℕ → Result ℕ RecordFault
byte_in n = where_ok (nat_lt n (2 ^ 8)) n

abbrev pub node_in : ℕ → Result ℕ RecordFault
node_in n = where_ok (nat_le 1 n && nat_le n 232) n

abbrev pub end_in : ℕ → Result ℕ RecordFault
end_in n = where_ok (nat_le n 127) n

abbrev pub short_in : ℕ → Result ℕ RecordFault
short_in n = where_ok (nat_lt n (2 ^ 16)) n

abbrev pub long_in : ℕ → Result ℕ RecordFault
long_in n = where_ok (nat_lt n (2 ^ 32)) n

abbrev pub flag_in : ℕ → Result Bool RecordFault
flag_in n = if n == 0 then Ok false else if n == 1 then Ok true else Err Bad

abbrev pub status_in : ℕ → Result FinalStatus RecordFault
status_in n = byte_in n >>= λ byte. ok_or (status_of byte) Bad

-- ---- at its place

unfoldable pub number_at : ℕ → List ℕ → Result ℕ RecordFault
number_at at numbers = ok_or (slice_get numbers at) Bad

abbrev pub byte_at : ℕ → List ℕ → Result ℕ RecordFault
byte_at at numbers = number_at at numbers >>= byte_in

abbrev pub node_at : ℕ → List ℕ → Result ℕ RecordFault
node_at at numbers = number_at at numbers >>= node_in

abbrev pub end_at : ℕ → List ℕ → Result ℕ RecordFault
end_at at numbers = number_at at numbers >>= end_in

abbrev pub short_at : ℕ → List ℕ → Result ℕ RecordFault
short_at at numbers = number_at at numbers >>= short_in

abbrev pub long_at : ℕ → List ℕ → Result ℕ RecordFault
long_at at numbers = number_at at numbers >>= long_in

abbrev pub flag_at : ℕ → List ℕ → Result Bool RecordFault
flag_at at numbers = number_at at numbers >>= flag_in

abbrev pub status_at : ℕ → List ℕ → Result FinalStatus RecordFault
status_at at numbers = number_at at numbers >>= status_in

-- the bytes up to the end
abbrev pub bytes_in : List ℕ → Result (List ℕ) RecordFault
bytes_in [] = Ok []
bytes_in (n ∷ more) = byte_in n >>= λ byte. (bytes_in more >>= λ bytes. Ok (byte ∷ bytes))

unfoldable pub bytes_at : ℕ → List ℕ → Result (List ℕ) RecordFault
bytes_at at numbers = bytes_in (drop at numbers)

-- eight bytes
unfoldable pub nonce_at : ℕ → List ℕ → Result (List ℕ) RecordFault
nonce_at at numbers = do
  a ← byte_at at numbers
  b ← byte_at (at + 1) numbers
  c ← byte_at (at + 2) numbers
  d ← byte_at (at + 3) numbers
  e ← byte_at (at + 4) numbers
  f ← byte_at (at + 5) numbers
  g ← byte_at (at + 6) numbers
  h ← byte_at (at + 7) numbers
  Ok (a ∷ b ∷ c ∷ d ∷ e ∷ f ∷ g ∷ h ∷ [])

-- ---- what is asked

unfoldable pub setpoint_at : List ℕ → Result What RecordFault
setpoint_at numbers = do
  kind ← byte_at 5 numbers
  tenths ← short_at 6 numbers
  Ok (what.Setpoint kind tenths)

unfoldable pub config_at : List ℕ → Result What RecordFault
config_at numbers = do
  parameter ← byte_at 5 numbers
  value ← long_at 6 numbers
  Ok (what.Config parameter value)

unfoldable pub bulk_at : List ℕ → Result What RecordFault
bulk_at numbers = do
  offset ← byte_at 5 numbers
  values ← bytes_at 6 numbers
  Ok (what.Bulk offset values)

unfoldable pub member_at : (ℕ → ℕ → What) → List ℕ → Result What RecordFault
member_at make numbers = do
  group ← byte_at 5 numbers
  member ← node_at 6 numbers
  Ok (make group member)

unfoldable pub comfort_at : List ℕ → Result What RecordFault
comfort_at numbers = do
  mode ← byte_at 5 numbers
  kind ← byte_at 6 numbers
  tenths ← short_at 7 numbers
  Ok (what.Comfort mode kind tenths)

abbrev pub what_by : List ℕ → ℕ → Result What RecordFault
what_by numbers kind =
    if kind == 0 then Ok (what.Value On)
    else if kind == 1 then Ok (what.Value Off)
    else if kind == 2 then (byte_at 5 numbers >>= λ level. Ok (what.Value (Level level)))
    else if kind == 3 then (byte_at 5 numbers >>= λ mode. Ok (what.Mode mode))
    else if kind == 4 then setpoint_at numbers
    else if kind == 5 then config_at numbers
    else if kind == 6 then bulk_at numbers
    else if kind == 7 then member_at what.Associate numbers
    else if kind == 8 then member_at what.Dissociate numbers
    else if kind == 9 then (long_at 5 numbers >>= λ seconds. Ok (what.Interval seconds))
    else if kind == 10 then comfort_at numbers
    else Err Bad

unfoldable pub what_at : List ℕ → Result What RecordFault
what_at numbers = number_at 4 numbers >>= what_by numbers

-- ---- records

unfoldable pub accepted_at : List ℕ → Result Record RecordFault
accepted_at numbers = do
  command ← long_at 1 numbers
  node ← node_at 2 numbers
  end ← end_at 3 numbers
  what ← what_at numbers
  Ok (Accepted command (record { node = node; end = end; what = what }))

unfoldable pub classes_at : List ℕ → Result Record RecordFault
classes_at numbers = do
  node ← node_at 1 numbers
  listens ← flag_at 2 numbers
  classes ← bytes_at 3 numbers
  Ok (Classes node listens classes)

unfoldable pub begun_at : List ℕ → Result Record RecordFault
begun_at numbers = do
  node ← node_at 1 numbers
  session ← number_at 2 numbers
  command ← long_at 3 numbers
  Ok (Begun node session command)

unfoldable pub final_at : List ℕ → Result Record RecordFault
final_at numbers = do
  node ← node_at 1 numbers
  session ← number_at 2 numbers
  status ← status_at 3 numbers
  Ok (Final node session status)

unfoldable pub given_at : List ℕ → Result Record RecordFault
given_at numbers = do
  node ← node_at 1 numbers
  given ← number_at 2 numbers
  nonce ← nonce_at 3 numbers
  Ok (Given node given nonce)

unfoldable pub seen_at : List ℕ → Result Record RecordFault
seen_at numbers = do
  node ← node_at 1 numbers
  seen ← number_at 2 numbers
  Ok (Seen node seen)

abbrev pub record_by : List ℕ → ℕ → Result Record RecordFault
record_by numbers kind =
    if kind == 1 then accepted_at numbers
    else if kind == 2 then (node_at 1 numbers >>= λ node. Ok (Joined node))
    else if kind == 3 then classes_at numbers
    else if kind == 4 then begun_at numbers
    else if kind == 5 then final_at numbers
    else if kind == 6 then (long_at 1 numbers >>= λ command. Ok (Cancelled command))
    else if kind == 7 then given_at numbers
    else if kind == 8 then (node_at 1 numbers >>= λ node. Ok (Spent node))
    else if kind == 9 then seen_at numbers
    else Err Bad

-- the record that these numbers begin with
unfoldable pub record_at : List ℕ → Result Record RecordFault
record_at numbers = number_at 0 numbers >>= record_by numbers
