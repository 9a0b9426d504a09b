-- A law that judges each entry asks something of a few of them: it holds where these have what it asks.
use Rattle.std.proofs.Common.{◌≡◌, ℕ, ◌==◌, ◌||◌, Bool, true, false, List, [], ◌∷◌, ◌++◌, refl, inl, inr, arith}
use Rattle.std.specs.Prelude.{⊤}
use Rattle.std.specs.List.{AllByRecursion}
use Rattle.std.proofs.lemmas.Bool.Decides.{nat_tests}
use Rattle.device_sim.specs.device_stack.State.{State}
use Rattle.zw_words.specs.declared.side.Side.TheVariants.{Host, Chip}
use Rattle.zw_text.specs.declared.line.Line.{Line}
use Rattle.zw_text.specs.declared.entry.Ended.TheVariants as endings
use Rattle.zw_text.specs.declared.entry.Entry.{Entry}
use Rattle.zw_text.specs.declared.entry.Entry.TheVariants.{Said, Accepted, Refused, Begin, Out, Air, Heard, Lost, Unheard, Time, Written, Store}
use Rattle.zw_text.specs.Transcript.{line_last}
use Rattle.law_transcript.specs.Lists.{EachAfter, Has}
use Rattle.law_transcript.specs.Answers.{MayAnswer, Follows, MayCancel, CancelsWhenAsked, before_last, refusals_to}
use Rattle.law_transcript.specs.Carrying.{MaySend, CarriesUnits, MayBring, BringsWhatWasHeard, WereHeard}
use Rattle.law_transcript.specs.Fates.{MayAir, NumbersFrames, MayFare, FaresInTurn, MayBeMarked, LosesMarked}
use Rattle.law_transcript.specs.Nodes.{listing_of, always}
use Rattle.law_transcript.specs.Once.{MayEnd, SucceedsAfterChange}
use Rattle.law_transcript.specs.Payloads.{MayRequest, SendsWhatIsDue, FollowsBegin, BeginsWithUnit}
use Rattle.law_transcript.specs.Sessions.{MayBegin, KeepsSessions}
use Rattle.law_transcript.specs.Stores.{MayStore}
use Rattle.law_transcript.specs.Units.{Carried, sending_in, bringing_in}

-- what an entry has to have, where the law asks something of it, and what the later ones have to
abbrev pub Asked : Bool → Type 0 → Type 0 → Type 0
Asked true First Later = First × Later
Asked false First Later = Later

abbrev pub AllAsked : (List Entry → Entry → Bool) → (List Entry → Entry → Type 0) → List Entry → List Entry → Type 0
AllAsked asks May past [] = ⊤
AllAsked asks May past (entry ∷ rest) = Asked (asks past entry) (May past entry) (AllAsked asks May (past ++ entry ∷ []) rest)

-- of the others it asks nothing
abbrev pub Quiet : (List Entry → Entry → Bool) → (List Entry → Entry → Type 0) → Type 0
Quiet asks May = (past : List Entry) (entry : Entry) → asks past entry ≡ false → May past entry

first_too : (is : Bool) {First Later After : Type 0} → (is ≡ false → First) → (Later → After) → Asked is First Later → First × After
first_too true quiet onward asked = (asked.0, onward asked.1)
first_too false quiet onward asked = (quiet refl, onward asked)

pub each : (asks : List Entry → Entry → Bool) (May : List Entry → Entry → Type 0) → Quiet asks May → (past rest : List Entry)
    → AllAsked asks May past rest → EachAfter May past rest
each asks May quiet past [] asked = tt
each asks May quiet past (entry ∷ rest) asked =
    first_too (asks past entry) (quiet past entry) (each asks May quiet (past ++ entry ∷ []) rest) asked

-- ---- sessions

abbrev pub is_begin : List Entry → Entry → Bool
is_begin past (Begin node session command) = true
is_begin past _ = false

quiet_begins : Quiet is_begin MayBegin
quiet_begins past (Begin node session command) is = cc
quiet_begins past _ is = tt

pub keeps_sessions : (transcript : List Entry) → AllAsked is_begin MayBegin [] transcript → KeepsSessions transcript
keeps_sessions = each is_begin MayBegin quiet_begins []

abbrev pub is_success : List Entry → Entry → Bool
is_success past (Out number endings.Success) = true
is_success past _ = false

quiet_successes : Quiet is_success MayEnd
quiet_successes past (Out number endings.Success) is = cc
quiet_successes past _ is = tt

pub succeeds_after : (transcript : List Entry) → AllAsked is_success MayEnd [] transcript → SucceedsAfterChange transcript
succeeds_after = each is_success MayEnd quiet_successes []

-- ---- answers and values

abbrev pub has_some : {A : Type 0} → List A → Bool
has_some [] = false
has_some (item ∷ items) = true

abbrev pub is_answer : Entry → Bool
is_answer (Accepted command node) = true
is_answer (Refused refusal) = true
is_answer _ = false

-- an answer, and what stands after a line
abbrev pub is_after_line : List Entry → Entry → Bool
is_after_line past entry = has_some (line_last past) || is_answer entry

quiet_follows : (listing : List Entry → ℕ → List ℕ) (refusals : List Entry → Line → List Entry) (past : List Entry) (said : List Line) (entry : Entry)
    → (has_some said || is_answer entry) ≡ false → Follows listing refusals past said entry
quiet_follows listing refusals past (line ∷ more) entry is = cc
quiet_follows listing refusals past [] (Accepted command node) is = cc
quiet_follows listing refusals past [] (Refused refusal) is = cc
quiet_follows listing refusals past [] _ is = tt

-- a line of a run is answered so
abbrev pub MayAnswerOf : List State → List Entry → Entry → Type 0
MayAnswerOf devices = MayAnswer (always (listing_of devices)) (refusals_to devices)

pub answers : (devices : List State) (transcript : List Entry) → AllAsked is_after_line (MayAnswerOf devices) [] transcript → EachAfter (MayAnswerOf devices) [] transcript
answers devices =
    each is_after_line (MayAnswerOf devices)
    (λ past entry is. quiet_follows (always (listing_of devices)) (refusals_to devices) (before_last past) (line_last past) entry is) []

abbrev pub is_cancelled : List Entry → Entry → Bool
is_cancelled past (Out number endings.Cancelled) = true
is_cancelled past _ = false

quiet_cancels : Quiet is_cancelled MayCancel
quiet_cancels past (Out number endings.Cancelled) is = cc
quiet_cancels past _ is = tt

pub cancels : (transcript : List Entry) → AllAsked is_cancelled MayCancel [] transcript → CancelsWhenAsked transcript
cancels = each is_cancelled MayCancel quiet_cancels []

abbrev pub is_store : List Entry → Entry → Bool
is_store past (Store node setting) = true
is_store past _ = false

quiet_stores : Quiet is_store MayStore
quiet_stores past (Store node setting) is = cc
quiet_stores past _ is = tt

pub stores_after : (transcript : List Entry) → AllAsked is_store MayStore [] transcript → EachAfter MayStore [] transcript
stores_after = each is_store MayStore quiet_stores []

-- ---- frames

abbrev pub is_air : List Entry → Entry → Bool
is_air past (Air frame sender receiver repeaters payload) = true
is_air past _ = false

quiet_airs : Quiet is_air MayAir
quiet_airs past (Air frame sender receiver repeaters payload) is = cc
quiet_airs past _ is = tt

pub numbers_frames : (transcript : List Entry) → AllAsked is_air MayAir [] transcript → NumbersFrames transcript
numbers_frames = each is_air MayAir quiet_airs []

-- a fate, and what ends a tick
abbrev pub is_fate : List Entry → Entry → Bool
is_fate past (Heard frame) = true
is_fate past (Lost frame) = true
is_fate past (Unheard frame) = true
is_fate past (Time tick) = true
is_fate past (Said words) = true
is_fate past _ = false

quiet_fates : Quiet is_fate MayFare
quiet_fates past (Heard frame) is = cc
quiet_fates past (Lost frame) is = cc
quiet_fates past (Unheard frame) is = cc
quiet_fates past (Time tick) is = cc
quiet_fates past (Said words) is = cc
quiet_fates past _ is = tt

pub fares_in_turn : (transcript : List Entry) → AllAsked is_fate MayFare [] transcript → FaresInTurn transcript
fares_in_turn = each is_fate MayFare quiet_fates []

abbrev pub is_heard : List Entry → Entry → Bool
is_heard past (Heard frame) = true
is_heard past (Unheard frame) = true
is_heard past _ = false

quiet_hearings : Quiet is_heard MayBeMarked
quiet_hearings past (Heard frame) is = cc
quiet_hearings past (Unheard frame) is = cc
quiet_hearings past _ is = tt

pub loses_marked : (transcript : List Entry) → AllAsked is_heard MayBeMarked [] transcript → LosesMarked transcript
loses_marked = each is_heard MayBeMarked quiet_hearings []

-- ---- units

quiet_units : Quiet is_air MaySend
quiet_units past (Air frame sender receiver repeaters payload) is = cc
quiet_units past _ is = tt

pub carries_units : (transcript : List Entry) → AllAsked is_air MaySend [] transcript → CarriesUnits transcript
carries_units = each is_air MaySend quiet_units []

abbrev pub is_bringing : List Entry → Entry → Bool
is_bringing past (Written Chip unit) = has_some (bringing_in unit)
is_bringing past _ = false

quiet_carried : (heard carried : List Carried) → has_some carried ≡ false → WereHeard heard carried
quiet_carried heard [] none = tt
quiet_carried heard (one ∷ more) none = cc

quiet_bringing : Quiet is_bringing MayBring
quiet_bringing past (Written Chip unit) is = quiet_carried _ (bringing_in unit) is
quiet_bringing past _ is = tt

pub brings_what_was_heard : (transcript : List Entry) → AllAsked is_bringing MayBring [] transcript → BringsWhatWasHeard transcript
brings_what_was_heard = each is_bringing MayBring quiet_bringing []

abbrev pub is_sending : List Entry → Entry → Bool
is_sending past (Written Host unit) = has_some (sending_in unit)
is_sending past _ = false

pub none_of : {A : Type 0} (P : A → Type 0) (items : List A) → has_some items ≡ false → AllByRecursion P items
none_of P [] none = tt
none_of P (item ∷ items) none = cc

quiet_sendings : (listing : List Entry → ℕ → List ℕ) (key : List ℕ) → Quiet is_sending (MayRequest listing key)
quiet_sendings listing key past (Written Host unit) is = none_of _ (sending_in unit) is
quiet_sendings listing key past _ is = tt

pub sends_what_is_due : (listing : List Entry → ℕ → List ℕ) (key : List ℕ) (transcript : List Entry)
    → AllAsked is_sending (MayRequest listing key) [] transcript → SendsWhatIsDue listing key transcript
sends_what_is_due listing key = each is_sending (MayRequest listing key) (quiet_sendings listing key) []

-- what stands after a session that begins
abbrev pub is_after_begin : List Entry → Entry → Bool
is_after_begin [] entry = false
is_after_begin (Begin node session command ∷ []) entry = true
is_after_begin (last ∷ []) entry = false
is_after_begin (first ∷ next ∷ rest) entry = is_after_begin (next ∷ rest) entry

quiet_beginning : Quiet is_after_begin FollowsBegin
quiet_beginning [] entry is = tt
quiet_beginning (Begin node session command ∷ []) entry is = cc
quiet_beginning (last ∷ []) entry is = tt
quiet_beginning (first ∷ next ∷ rest) entry is = quiet_beginning (next ∷ rest) entry is

pub begins_with_unit : (transcript : List Entry) → AllAsked is_after_begin FollowsBegin [] transcript → BeginsWithUnit transcript
begins_with_unit = each is_after_begin FollowsBegin quiet_beginning []

-- ---- marked frames

abbrev pub is_among : List ℕ → ℕ → Bool
is_among [] number = false
is_among (one ∷ more) number = (one == number) || is_among more number

neither : (a b : Bool) → (a || b) ≡ false → (a ≡ false) × (b ≡ false)
neither true b never = cc
neither false b never = (refl, never)

differ : (one number : ℕ) → (one == number) ≡ false → one ≡ number → ⊥
differ one number other is = grind (arith, nat_tests)

-- a number that is not found among them is none of them
pub not_among : (numbers : List ℕ) (number : ℕ) → is_among numbers number ≡ false → Has numbers number → ⊥
not_among [] number never has = has
not_among (one ∷ more) number never (inl is) = differ one number (neither _ _ never).0 is
not_among (one ∷ more) number never (inr has) = not_among more number (neither _ _ never).1 has
