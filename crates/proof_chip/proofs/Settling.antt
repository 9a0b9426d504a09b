-- What entries that tell neither a line, a tick, a fate nor an answer leave as it is: the clock, which results have come, what was asked, how it ended, and what the chip has for the host.
use Rattle.std.proofs.Common.{◌≡◌, ◌≤◌, ◌<◌, ◌⊎◌, ℕ, zero, suc, ◌+◌, ◌-◌, ◌==◌, ◌&&◌, ◌||◌, not, nat_le, nat_lt, Bool, true, false, if◌then◌else◌, inl, inr, List, [], ◌∷◌, ◌++◌, filter, length, refl, sym, ap, ap₂, ◌∙◌, append-nil, leb-true, ltb-true, le-leb, eq-eqb, ne_eqb, arith}
use Rattle.std.proofs.lemmas.Bool.{cases_lt, lt-ltb}
use Rattle.std.specs.Prelude.{Option, None, slice_get}
use Rattle.circular_buffer.proofs.Places.{slice_get-append_right}
use Rattle.std.specs.List.{AllByRecursion, list_any}
use Rattle.zw_base.proofs.Each.{all-weaker}
use Rattle.zw_text.specs.declared.entry.Entry.{Entry}
use Rattle.zw_text.specs.declared.entry.Entry.TheVariants as entry
use Rattle.zw_text.specs.Transcript.{AirFrame, folded, frame_at, frames}
use Rattle.zw_text.proofs.Views.{folded-append, shown-append}
use Rattle.law_transcript.specs.Fates.{Flying, first_fates, flying, flying_step}
use Rattle.law_transcript.specs.Lists.{listed}
use Rattle.law_transcript.specs.Nodes.{controller}
use Rattle.law_wire.specs.Asked.{Asked, Course, Sending, acks, asked, asked_at, clock_of, last_sending}
use Rattle.law_wire.specs.Results.{ended_by, ended_without, is_outward, settled_clock}
use Rattle.law_wire.specs.Given.{given, information_of}
use Rattle.chip_functions.specs.declared.request.Request.{Request}
use Rattle.chip_functions.specs.declared.request.Request.TheVariants.{RequestNodeInfo}
use Rattle.chip_functions.specs.declared.notice.TransmitStatus.TheVariants.{NoRoute}
use Rattle.outside_model.specs.Devices.{State}
use Rattle.proof_air.proofs.Untimed.{IsUntimed}
use Rattle.proof_air.proofs.Fated.{same_fates}
use Rattle.proof_air.proofs.Fateless.{IsFateless}
use Rattle.proof_air.proofs.SentBefore.{same_clock}
use Rattle.proof_chip.specs.Tally.{AreOwn, total}
use Rattle.proof_chip.proofs.Agreeing.{get_left}
use Rattle.proof_chip.proofs.Airing.{IsNoAck, none_asked, same_last}
use Rattle.proof_chip.proofs.Answered.{GivesNone, given_quietly}
use Rattle.proof_chip.proofs.Passing.{IsOther, others_no_ack}
use Rattle.proof_chip.proofs.Picking.{shown_both}

-- ---- such entries

abbrev pub IsIdle : Entry → Type 0
IsIdle e = GivesNone e × IsOther e

abbrev pub AreIdle : List Entry → Type 0
AreIdle told = AllByRecursion IsIdle told

pub idle_untimed : (e : Entry) → IsIdle e → IsUntimed e
idle_untimed (entry.Said words) idle = absurd idle.0
idle_untimed (entry.Time tick) idle = absurd idle.0
idle_untimed e idle = tt

pub idle_fateless : (e : Entry) → IsIdle e → IsFateless e
idle_fateless (entry.Heard frame) idle = absurd idle.0
idle_fateless (entry.Lost frame) idle = absurd idle.0
idle_fateless (entry.Unheard frame) idle = absurd idle.0
idle_fateless e idle = tt

abbrev pub IsNoTick : Entry → Type 0
IsNoTick (entry.Time tick) = ⊥
IsNoTick e = Unit {0}

pub idle_no_tick : (e : Entry) → IsIdle e → IsNoTick e
idle_no_tick (entry.Time tick) idle = absurd idle.0
idle_no_tick e idle = tt

-- ---- frames on the air

sent_from : (told : List Entry) (f : Flying) → (folded flying_step f told).sent ≡ f.sent + length (frames told)
sent_from [] f = plus_none f.sent
  where
    plus_none : (n : ℕ) → n ≡ n + 0
    plus_none n = omega arith
sent_from (entry.Air frame sender receiver repeaters payload ∷ told) f =
    sent_from told (record f { sent = f.sent + 1 }) ∙ one_more f.sent (length (frames told))
  where
    one_more : (m n : ℕ) → m + 1 + n ≡ m + suc n
    one_more m n = omega arith
sent_from (entry.Time tick ∷ told) f = sent_from told (record f { due = f.sent })
sent_from (e ∷ told) f = sent_from told f

pub frames_flying : (past : List Entry) → (flying past).sent ≡ length (frames past)
frames_flying past = sent_from past (record { sent = 0; due = 0 }) ∙ zero_plus (length (frames past))
  where
    zero_plus : (n : ℕ) → 0 + n ≡ n
    zero_plus n = omega arith

-- with the number of a tick all that were sent are due
pub number_due : (past : List Entry) (tick : ℕ) → (flying (past ++ entry.Time tick ∷ [])).due ≡ length (frames past)
number_due past tick = ap (λ (f : Flying). f.due) (folded-append flying_step (record { sent = 0; due = 0 }) past (entry.Time tick ∷ [])) ∙ frames_flying past

due_from : (told : List Entry) (f : Flying) → AllByRecursion IsNoTick told → (folded flying_step f told).due ≡ f.due
due_from [] f none = refl
due_from (entry.Air frame sender receiver repeaters payload ∷ told) f none = due_from told (record f { sent = f.sent + 1 }) none.1
due_from (entry.Time tick ∷ told) f none = absurd none.0
due_from (e ∷ told) f none = due_from told f none.1

pub due_still : (past told : List Entry) → AllByRecursion IsNoTick told → (flying (past ++ told)).due ≡ (flying past).due
due_still past told none = ap (λ (f : Flying). f.due) (folded-append flying_step (record { sent = 0; due = 0 }) past told) ∙ due_from told (flying past) none

-- ---- the tick before which all has come

pub settled_all : (past : List Entry) → length (first_fates past) ≡ (flying past).due → settled_clock past ≡ clock_of past
settled_all past all = ap (λ (b : Bool). if b then clock_of past else clock_of past - 1) (eq-eqb (length (first_fates past)) (flying past).due all)

pub settled_some : (past : List Entry) (left : ℕ) → length (first_fates past) + suc left ≡ (flying past).due → settled_clock past ≡ clock_of past - 1
settled_some past left some =
    ap (λ (b : Bool). if b then clock_of past else clock_of past - 1) (ne_eqb (length (first_fates past)) (flying past).due (λ same. omega (arith, some, same)))

pub idle_clock : (past told : List Entry) → AreIdle told → clock_of (past ++ told) ≡ clock_of past
idle_clock past told idle = same_clock past told (all-weaker IsIdle IsUntimed idle_untimed told idle)

pub idle_fates : (past told : List Entry) → AreIdle told → first_fates (past ++ told) ≡ first_fates past
idle_fates past told idle = same_fates past told (all-weaker IsIdle IsFateless idle_fateless told idle)

pub idle_due : (past told : List Entry) → AreIdle told → (flying (past ++ told)).due ≡ (flying past).due
idle_due past told idle = due_still past told (all-weaker IsIdle IsNoTick idle_no_tick told idle)

pub idle_settled : (past told : List Entry) → AreIdle told → settled_clock (past ++ told) ≡ settled_clock past
idle_settled past told idle =
    ap₂ (λ (fated : List ℕ) (due : ℕ). if length fated == due then clock_of (past ++ told) else clock_of (past ++ told) - 1) (idle_fates past told idle) (idle_due past told idle)
    ∙ ap (λ (clock : ℕ). if length (first_fates past) == (flying past).due then clock else clock - 1) (idle_clock past told idle)

-- ---- what comes due

abbrev pub between : ℕ → ℕ → Asked → Bool
between from to one = nat_le from (clock_of one.past) && nat_lt (clock_of one.past) to

pub none_between : (from to : ℕ) (all : List Asked) → AllByRecursion (λ (one : Asked). clock_of one.past < from) all → filter (between from to) all ≡ []
none_between from to [] below = refl
none_between from to (one ∷ all) below = by (nat_le from (clock_of one.past)) refl (none_between from to all below.1)
  where
    by : (b : Bool) → nat_le from (clock_of one.past) ≡ b → filter (between from to) all ≡ []
        → (if b && nat_lt (clock_of one.past) to then one ∷ filter (between from to) all else filter (between from to) all) ≡ []
    by true is rest = absurd (let above = leb-true from (clock_of one.past) is in let under = below.0 in omega (arith, above, under))
    by false is rest = rest

pub none_above : (from to : ℕ) (all : List Asked) → AllByRecursion (λ (one : Asked). to ≤ clock_of one.past) all → filter (between from to) all ≡ []
none_above from to [] above = refl
none_above from to (one ∷ all) above = by (nat_le from (clock_of one.past)) (nat_lt (clock_of one.past) to) refl (none_above from to all above.1)
  where
    by : (a b : Bool) → nat_lt (clock_of one.past) to ≡ b → filter (between from to) all ≡ [] → (if a && b then one ∷ filter (between from to) all else filter (between from to) all) ≡ []
    by true true is rest = absurd (let below = ltb-true (clock_of one.past) to is in let over = above.0 in omega (arith, below, over))
    by true false is rest = rest
    by false b is rest = rest

pub all_between : (from to : ℕ) (all : List Asked) → AllByRecursion (λ (one : Asked). (from ≤ clock_of one.past) × (clock_of one.past < to)) all → filter (between from to) all ≡ all
all_between from to [] within = refl
all_between from to (one ∷ all) within =
    ap₂ (λ (a b : Bool). if a && b then one ∷ filter (between from to) all else filter (between from to) all) (le-leb from (clock_of one.past) within.0.0) (lt-ltb (clock_of one.past) to within.0.1)
    ∙ ap (λ (l : List Asked). one ∷ l) (all_between from to all within.1)

-- ---- the controller's frames

abbrev outward_in : List AirFrame → ℕ → Bool
outward_in all number = list_any (λ (frame : AirFrame). frame.sender == controller) (listed (if nat_lt 0 number then slice_get all (number - 1) else None))

abbrev pub IsDevices : AirFrame → Type 0
IsDevices frame = (frame.sender == controller) ≡ false

devices_later : (all more : List AirFrame) (at : ℕ) → AllByRecursion IsDevices more
    → list_any (λ (frame : AirFrame). frame.sender == controller) (listed (slice_get (all ++ more) at)) ≡ list_any (λ (frame : AirFrame). frame.sender == controller) (listed (slice_get all at))
devices_later (first ∷ all) more zero none = refl
devices_later (first ∷ all) more (suc at) none = devices_later all more at none
devices_later [] [] at none = refl
devices_later [] (frame ∷ more) zero none = ap (λ (b : Bool). b || false) none.0
devices_later [] (frame ∷ more) (suc at) none = devices_later [] more at none.1

pub frames_devices : (told : List Entry) → AllByRecursion IsOther told → AllByRecursion IsDevices (frames told)
frames_devices [] others = tt
frames_devices (entry.Air frame sender receiver repeaters payload ∷ told) others = (others.0, frames_devices told others.1)
frames_devices (e ∷ told) others = frames_devices told others.1

pub outward_by : (past told : List Entry) → AllByRecursion IsDevices (frames told) → (number : ℕ) → is_outward (past ++ told) number ≡ is_outward past number
outward_by past told devices number = ap (λ (all : List AirFrame). outward_in all number) (shown-append frame_at past told) ∙ by (nat_lt 0 number)
  where
    by : (b : Bool) → list_any (λ (frame : AirFrame). frame.sender == controller) (listed (if b then slice_get (frames past ++ frames told) (number - 1) else None))
        ≡ list_any (λ (frame : AirFrame). frame.sender == controller) (listed (if b then slice_get (frames past) (number - 1) else None))
    by true = devices_later (frames past) (frames told) (number - 1) devices
    by false = refl

pub outward_still : (past told : List Entry) → AllByRecursion IsOther told → (number : ℕ) → is_outward (past ++ told) number ≡ is_outward past number
outward_still past told others number = outward_by past told (frames_devices told others) number

-- one stays so
get_beyond : {A : Type 0} (xs : List A) (at : ℕ) → length xs ≤ at → slice_get xs at ≡ None
get_beyond [] at beyond = refl
get_beyond (x ∷ xs) zero beyond = absurd (omega (arith, beyond))
get_beyond (x ∷ xs) (suc at) beyond = get_beyond xs at (omega (arith, beyond))

abbrev pub own : Option AirFrame → Bool
own found = list_any (λ (frame : AirFrame). frame.sender == controller) (listed found)

outward_stays : (past told : List Entry) (number : ℕ) → is_outward past number ≡ true → is_outward (past ++ told) number ≡ true
outward_stays past told number is = ap (λ (all : List AirFrame). outward_in all number) (shown-append frame_at past told) ∙ by (nat_lt 0 number) (cases_lt (number - 1) (length (frames past))) is
  where
    by : (b : Bool) → (number - 1 < length (frames past)) ⊎ (length (frames past) ≤ number - 1) → own (if b then slice_get (frames past) (number - 1) else None) ≡ true
        → own (if b then slice_get (frames past ++ frames told) (number - 1) else None) ≡ true
    by false place found = found
    by true (inl below) found = ap own (get_left (frames past) (frames told) (number - 1) below) ∙ found
    by true (inr far) found = absurd (let no : false ≡ true = sym (ap own (get_beyond (frames past) (number - 1) far)) ∙ found in cc)

pub own_later : (past told : List Entry) (numbers : List ℕ) → AreOwn past numbers → AreOwn (past ++ told) numbers
own_later past told numbers are = all-weaker (λ (n : ℕ). is_outward past n ≡ true) (λ (n : ℕ). is_outward (past ++ told) n ≡ true) (λ n is. outward_stays past told n is) numbers are

-- ---- at a number

abbrev pub found_in : List AirFrame → ℕ → Option AirFrame
found_in all number = if nat_lt 0 number then slice_get all (number - 1) else None

at_number : (all : List AirFrame) (at : ℕ) → found_in all (at + 1) ≡ slice_get all at
at_number all at =
    ap (λ (b : Bool). if b then slice_get all (at + 1 - 1) else None) (lt-ltb 0 (at + 1) (omega arith)) ∙ ap (λ (n : ℕ). slice_get all n) (one_less at)
  where
    one_less : (n : ℕ) → n + 1 - 1 ≡ n
    one_less n = omega arith

-- the next one is none yet
pub outward_next : (past : List Entry) → is_outward past (length (frames past) + 1) ≡ false
outward_next past = ap own (at_number (frames past) (length (frames past)) ∙ get_beyond (frames past) (length (frames past)) (omega arith))

-- and is the controller's once it went on the air
pub outward_sent : (past : List Entry) (number node : ℕ) (repeaters payload : List ℕ) → is_outward (past ++ entry.Air number 1 node repeaters payload ∷ []) (length (frames past) + 1) ≡ true
outward_sent past number node repeaters payload =
    let sent : List AirFrame = frames (entry.Air number 1 node repeaters payload ∷ []) in
    ap own (ap (λ (l : List AirFrame). found_in l (length (frames past) + 1)) (shown-append frame_at past (entry.Air number 1 node repeaters payload ∷ []))
    ∙ (at_number (frames past ++ sent) (length (frames past)) ∙ slice_get-append_right (frames past) sent (length (frames past)) 0 (plus_none (length (frames past)))))
  where
    plus_none : (n : ℕ) → n ≡ n + 0
    plus_none n = omega arith

-- ---- results

pub informed_same : (past other : List Entry) (one : Asked) (request : Request) → length (information_of past one request) ≡ length (information_of other one request)
informed_same past other one (RequestNodeInfo node) = refl
informed_same past other one request = refl

module _ (course : Course) where
  pub asked_still : (past told : List Entry) → AllByRecursion IsNoAck told → asked course (past ++ told) ≡ asked course past
  asked_still past told none =
      shown_both (asked_at course) [] past told ∙ ap (λ (l : List Asked). asked course past ++ l) (none_asked course told past none) ∙ append-nil (asked course past)

  abbrev stays_out : List Entry → Asked → Sending → Bool
  stays_out past one sending = (sending.place == acks one.past) && not (is_outward past sending.frame)

  without_from : (past told : List Entry) → AllByRecursion IsOther told → (one : Asked) (sendings : List Sending)
      → filter (stays_out (past ++ told) one) sendings ≡ filter (stays_out past one) sendings
  without_from past told others one [] = refl
  without_from past told others one (sending ∷ sendings) =
      ap₂ (λ (b : Bool) (l : List Sending). if (sending.place == acks one.past) && not b then sending ∷ l else l) (outward_still past told others sending.frame) (without_from past told others one sendings)

  without_still : (past told : List Entry) → AllByRecursion IsOther told → (one : Asked) → ended_without course (past ++ told) one ≡ ended_without course past one
  without_still past told others one =
      ap (λ (l : List Sending). ended_by NoRoute (filter (stays_out (past ++ told) one) l)) (same_last course past told (others_no_ack told others))
      ∙ ap (λ (l : List Sending). ended_by NoRoute l) (without_from past told others one (last_sending course past))

  informed_still : (past told : List Entry) (one : Asked) → length (information_of (past ++ told) one one.request) ≡ length (information_of past one one.request)
  informed_still past told one = informed_same (past ++ told) past one one.request

  pub total_still : (past told : List Entry) → AllByRecursion IsOther told → (all : List Asked) → total course (past ++ told) all ≡ total course past all
  total_still past told others [] = refl
  total_still past told others (one ∷ all) =
      ap₂ (λ (m n : ℕ). m + n)
      (ap₂ (λ (m n : ℕ). m + n) (informed_still past told one) (ap length (without_still past told others one)))
      (total_still past told others all)

  pub total_both : (past : List Entry) (one more : List Asked) → total course past (one ++ more) ≡ total course past one + total course past more
  total_both past [] more = zero_plus (total course past more)
    where
      zero_plus : (n : ℕ) → n ≡ 0 + n
      zero_plus n = omega arith
  total_both past (first ∷ one) more = let rest = total_both past one more in omega (arith, rest)

pub given_still : (devices : List State) (course : Course) (past told : List Entry) → AreIdle told → given devices course (past ++ told) ≡ given devices course past
given_still devices course past told idle = given_quietly devices course past told (all-weaker IsIdle GivesNone (λ e is. is.0) told idle)

pub idle_others : (told : List Entry) → AreIdle told → AllByRecursion IsOther told
idle_others told idle = all-weaker IsIdle IsOther (λ e is. is.1) told idle
