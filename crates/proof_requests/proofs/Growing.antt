-- How the last request grows by entries: it goes on, or another takes its place; and what stands after its last copy.
use Rattle.std.proofs.Common.{◌≡◌, ℕ, ◌+◌, Bool, true, false, not, ◌&&◌, if◌then◌else◌, List, [], ◌∷◌, ◌++◌, length, filter, refl, sym, ap, ◌∙◌, append-nil, append_assoc, length-append, arith}
use Rattle.std.specs.List.{AllByRecursion}
use Rattle.std.specs.Str.{bytes_eq}
use Rattle.std.proofs.lemmas.Bool.{and_left, and_right, both_ways, false_from_ne_true}
use Rattle.std.proofs.lemmas.List.Elements.{filter-append}
use Rattle.std.proofs.lemmas.Slice.Eq.{bytes_eq-Decides}
use Rattle.zw_words.specs.declared.side.Side.TheVariants.{Host, Chip}
use Rattle.zw_text.specs.declared.entry.Refusal.{Refusal}
use Rattle.zw_text.specs.declared.entry.Entry.{Entry}
use Rattle.zw_text.specs.declared.entry.Entry.TheVariants as entry
use Rattle.zw_text.specs.Transcript.{line_of, unit_at, written}
use Rattle.zw_text.proofs.Views.{shown-append}
use Rattle.proof_waking.specs.law_transcript.Restarts.{begins_refused, is_restart}
use Rattle.proof_waking.specs.law_time.Judged.{is_data}
use Rattle.proof_waking.specs.law_time.Requests.{Asked, Since, asked, asked_after, asked_from, asked_nothing, copies, found_at, is_copy, is_new, last_copy, since_last, up_to_first, with_entry}
use Rattle.proof_requests.specs.Standing.{GoesOn, with_entries}
use Rattle.proof_waking.proofs.Apart.{same_refused}

-- ---- one transcript behind another

-- an entry does so much whatever stands after it, but for a refusal
same_after : (past : List Entry) (a : Asked) (e : Entry) (rest other : List Entry) → begins_refused rest ≡ begins_refused other → asked_after past a e rest ≡ asked_after past a e other
same_after past a (entry.Said words) rest other is =
    ap (λ (b : Bool). if is_restart (line_of (entry.Said words)) && not b then asked_nothing else with_entry a (entry.Said words)) is
same_after past a (entry.Written Host unit) rest other is = refl
same_after past a (entry.Written Chip unit) rest other is = refl
same_after past a e rest other is = refl

asked_joined : (start : List Entry) (a : Asked) (past told : List Entry) → begins_refused told ≡ false → asked_from start a (past ++ told) ≡ asked_from (start ++ past) (asked_from start a past) told
asked_joined start a [] told fresh = ap (λ (l : List Entry). asked_from l a told) (sym (append-nil start))
asked_joined start a (e ∷ []) told fresh = ap (λ (next : Asked). asked_from (start ++ e ∷ []) next told) (same_after start a e told [] fresh)
asked_joined start a (e ∷ (next ∷ past)) told fresh =
    ap (λ (one : Asked). asked_from (start ++ e ∷ []) one (next ∷ (past ++ told))) (same_after start a e (next ∷ (past ++ told)) (next ∷ past) (same_refused next past told))
    ∙ asked_joined (start ++ e ∷ []) (asked_after start a e (next ∷ past)) (next ∷ past) told fresh
    ∙ ap (λ (l : List Entry). asked_from l (asked_from start a (e ∷ (next ∷ past))) told) (append_assoc start (e ∷ []) (next ∷ past))

-- ---- it goes on, or not

goes_after : (past : List Entry) (a : Asked) (e : Entry) (rest : List Entry) → GoesOn e → asked_after past a e rest ≡ with_entries a (e ∷ [])
goes_after past a (entry.Said words) rest goes = absurd goes
goes_after past a (entry.Written Host unit) rest goes =
    ap (λ (b : Bool). if b then record { frame = unit; before = past; following = [] } else with_entry a (entry.Written Host unit)) (and_left (is_data unit) (not (is_copy a unit)) goes)
goes_after past a (entry.Written Chip unit) rest goes = refl
goes_after past a e rest goes = refl

all_go_on : (past : List Entry) (a : Asked) (told : List Entry) → AllByRecursion GoesOn told → asked_from past a told ≡ with_entries a told
all_go_on past a [] all = ap (λ (l : List Entry). record a { following = l }) (sym (append-nil a.following))
all_go_on past a (e ∷ told) all =
    ap (λ (one : Asked). asked_from (past ++ e ∷ []) one told) (goes_after past a e told all.0)
    ∙ all_go_on (past ++ e ∷ []) (with_entries a (e ∷ [])) told all.1
    ∙ ap (λ (l : List Entry). record a { following = l }) (append_assoc a.following (e ∷ []) told)

-- with entries at which no request begins
pub asked_on : (past told : List Entry) → begins_refused told ≡ false → AllByRecursion GoesOn told → asked (past ++ told) ≡ with_entries (asked past) told
asked_on past told fresh all = asked_joined [] asked_nothing past told fresh ∙ all_go_on past (asked past) told all

-- a frame is another copy, or a new request
by_frame : (past : List Entry) (unit : List ℕ) (new : Bool) → is_new (asked past) unit ≡ new
    → asked (past ++ entry.Written Host unit ∷ []) ≡ (if new then record { frame = unit; before = past; following = [] } else with_entry (asked past) (entry.Written Host unit))
by_frame past unit new is =
    asked_joined [] asked_nothing past (entry.Written Host unit ∷ []) refl
    ∙ ap (λ (b : Bool). if b then record { frame = unit; before = past; following = [] } else with_entry (asked past) (entry.Written Host unit)) is

pub asked_copy : (past : List Entry) (unit : List ℕ) → is_new (asked past) unit ≡ false → asked (past ++ entry.Written Host unit ∷ []) ≡ with_entries (asked past) (entry.Written Host unit ∷ [])
asked_copy past unit is = by_frame past unit false is

pub asked_new : (past : List Entry) (unit : List ℕ) → is_new (asked past) unit ≡ true
    → asked (past ++ entry.Written Host unit ∷ []) ≡ record { frame = unit; before = past; following = [] }
asked_new past unit is = by_frame past unit true is

-- the words of a line start the host anew, or not; or its refusal stands behind them
by_words : (past : List Entry) (words : List ℕ) (anew : Bool) → is_restart (line_of (entry.Said words)) ≡ anew
    → asked (past ++ entry.Said words ∷ []) ≡ (if anew && true then asked_nothing else with_entry (asked past) (entry.Said words))
by_words past words anew is =
    asked_joined [] asked_nothing past (entry.Said words ∷ []) refl
    ∙ ap (λ (b : Bool). if b && true then asked_nothing else with_entry (asked past) (entry.Said words)) is

pub asked_said : (past : List Entry) (words : List ℕ) → is_restart (line_of (entry.Said words)) ≡ false → asked (past ++ entry.Said words ∷ []) ≡ with_entries (asked past) (entry.Said words ∷ [])
asked_said past words is = by_words past words false is

pub asked_anew : (past : List Entry) (words : List ℕ) → is_restart (line_of (entry.Said words)) ≡ true → asked (past ++ entry.Said words ∷ []) ≡ asked_nothing
asked_anew past words is = by_words past words true is

pub asked_in_vain : (past : List Entry) (words : List ℕ) (refusal : Refusal)
    → asked (past ++ entry.Said words ∷ (entry.Refused refusal ∷ [])) ≡ with_entries (asked past) (entry.Said words ∷ (entry.Refused refusal ∷ []))
asked_in_vain past words refusal =
    asked_joined [] asked_nothing past (entry.Said words ∷ (entry.Refused refusal ∷ [])) refl
    ∙ ap (λ (b : Bool). with_entry (if b then asked_nothing else with_entry (asked past) (entry.Said words)) (entry.Refused refusal)) (and_right (is_restart (line_of (entry.Said words))) false refl)
    ∙ ap (λ (l : List Entry). record (asked past) { following = l }) (append_assoc (asked past).following (entry.Said words ∷ []) (entry.Refused refusal ∷ []))

-- ---- copies

-- no data frame of the host
abbrev pub NoFrame : Entry → Type 0
NoFrame (entry.Written Host unit) = is_data unit ≡ false
NoFrame e = Unit {0}

not_same : (frame unit : List ℕ) → is_data frame ≡ true → is_data unit ≡ false → bytes_eq frame unit ≡ false
not_same frame unit is_framed other =
    false_from_ne_true (bytes_eq frame unit) (λ same. both_ways (is_data unit) other (ap is_data (sym ((bytes_eq-Decides frame unit).0 same)) ∙ is_framed))

same_not : (frame unit : List ℕ) → is_data frame ≡ true → is_data unit ≡ false → bytes_eq unit frame ≡ false
same_not frame unit is_framed other =
    false_from_ne_true (bytes_eq unit frame) (λ same. both_ways (is_data unit) other (ap is_data ((bytes_eq-Decides unit frame).0 same) ∙ is_framed))

no_copies : (frame : List ℕ) (told : List Entry) → is_data frame ≡ true → AllByRecursion NoFrame told → filter (bytes_eq frame) (written Host told) ≡ []
no_copies frame [] is_framed all = refl
no_copies frame (entry.Written Host unit ∷ told) is_framed all =
    ap (λ (b : Bool). if b then unit ∷ filter (bytes_eq frame) (written Host told) else filter (bytes_eq frame) (written Host told)) (not_same frame unit is_framed all.0)
    ∙ no_copies frame told is_framed all.1
no_copies frame (entry.Written Chip unit ∷ told) is_framed all = no_copies frame told is_framed all.1
no_copies frame (e ∷ told) is_framed all = no_copies frame told is_framed all.1

copies_more : (a : Asked) (told : List Entry) → copies (with_entries a told) ≡ copies a + length (filter (bytes_eq a.frame) (written Host told))
copies_more a told =
    let grown = ap (λ (l : List (List ℕ)). length (filter (bytes_eq a.frame) l)) (shown-append (unit_at Host) a.following told)
    ∙ ap length (filter-append (bytes_eq a.frame) (written Host a.following) (written Host told))
    ∙ length-append (filter (bytes_eq a.frame) (written Host a.following)) (filter (bytes_eq a.frame) (written Host told)) in
    omega (arith, grown)

pub copies_same : (a : Asked) (told : List Entry) → is_data a.frame ≡ true → AllByRecursion NoFrame told → copies (with_entries a told) ≡ copies a
copies_same a told is_framed all =
    let more = copies_more a told in
    let none = ap length (no_copies a.frame told is_framed all) in
    omega (arith, more, none)

pub copies_one : (a : Asked) (unit : List ℕ) → bytes_eq a.frame unit ≡ true → copies (with_entries a (entry.Written Host unit ∷ [])) ≡ copies a + 1
copies_one a unit same =
    let more = copies_more a (entry.Written Host unit ∷ []) in
    let one = ap (λ (b : Bool). length (if b then unit ∷ [] else [])) same in
    omega (arith, more, one)

-- ---- what stands after the last copy

abbrev pub more_since : Since → List Entry → Since
more_since since told = record since { following = since.following ++ told }

found_more : (frame : List ℕ) (found : Since) (past : List Entry) (e : Entry) (rest told : List Entry)
    → found_at frame (more_since found told) past e (rest ++ told) ≡ more_since (found_at frame found past e rest) told
found_more frame found past (entry.Written Host unit) rest told = by (bytes_eq unit frame)
  where
    by : (b : Bool) → (if b then record { past = past ++ entry.Written Host unit ∷ []; following = rest ++ told } else more_since found told)
        ≡ more_since (if b then record { past = past ++ entry.Written Host unit ∷ []; following = rest } else found) told
    by true = refl
    by false = refl
found_more frame found past (entry.Written Chip unit) rest told = refl
found_more frame found past e rest told = refl

found_none : (frame : List ℕ) (found : Since) (past : List Entry) (e : Entry) (rest : List Entry) → is_data frame ≡ true → NoFrame e → found_at frame found past e rest ≡ found
found_none frame found past (entry.Written Host unit) rest is_framed none =
    ap (λ (b : Bool). if b then record { past = past ++ entry.Written Host unit ∷ []; following = rest } else found) (same_not frame unit is_framed none)
found_none frame found past (entry.Written Chip unit) rest is_framed none = refl
found_none frame found past e rest is_framed none = refl

since_none : (frame : List ℕ) (found : Since) (past told : List Entry) → is_data frame ≡ true → AllByRecursion NoFrame told → since_last frame found past told ≡ found
since_none frame found past [] is_framed all = refl
since_none frame found past (e ∷ told) is_framed all =
    ap (λ (next : Since). since_last frame next (past ++ e ∷ []) told) (found_none frame found past e told is_framed all.0) ∙ since_none frame found (past ++ e ∷ []) told is_framed all.1

since_more : (frame : List ℕ) (found : Since) (past some told : List Entry) → is_data frame ≡ true → AllByRecursion NoFrame told
    → since_last frame (more_since found told) past (some ++ told) ≡ more_since (since_last frame found past some) told
since_more frame found past [] told is_framed all = since_none frame (more_since found told) past told is_framed all
since_more frame found past (e ∷ some) told is_framed all =
    ap (λ (next : Since). since_last frame next (past ++ e ∷ []) (some ++ told)) (found_more frame found past e some told)
    ∙ since_more frame (found_at frame found past e some) (past ++ e ∷ []) some told is_framed all

pub last_more : (a : Asked) (told : List Entry) → is_data a.frame ≡ true → AllByRecursion NoFrame told → last_copy (with_entries a told) ≡ more_since (last_copy a) told
last_more a told is_framed all = since_more a.frame (record { past = up_to_first a; following = a.following }) (up_to_first a) a.following told is_framed all

-- after a copy nothing does
since_copy : (frame : List ℕ) (found : Since) (past some : List Entry) (unit : List ℕ) → bytes_eq unit frame ≡ true
    → since_last frame found past (some ++ entry.Written Host unit ∷ []) ≡ record { past = (past ++ some) ++ entry.Written Host unit ∷ []; following = [] }
since_copy frame found past [] unit same =
    ap (λ (b : Bool). if b then record { past = past ++ entry.Written Host unit ∷ []; following = [] } else found) same
    ∙ ap (λ (l : List Entry). record { past = l ++ entry.Written Host unit ∷ []; following = [] }) (sym (append-nil past))
since_copy frame found past (e ∷ some) unit same =
    since_copy frame (found_at frame found past e (some ++ entry.Written Host unit ∷ [])) (past ++ e ∷ []) some unit same
    ∙ ap (λ (l : List Entry). record { past = l ++ entry.Written Host unit ∷ []; following = [] }) (append_assoc past (e ∷ []) some)

pub last_copied : (a : Asked) (unit : List ℕ) → bytes_eq unit a.frame ≡ true
    → last_copy (with_entries a (entry.Written Host unit ∷ [])) ≡ record { past = (up_to_first a ++ a.following) ++ entry.Written Host unit ∷ []; following = [] }
last_copied a unit same =
    since_copy a.frame (record { past = up_to_first a; following = a.following ++ entry.Written Host unit ∷ [] }) (up_to_first a) a.following unit same

-- what stands up to it, and what stands after it, is all
abbrev IsAll : Since → List Entry → Type 0
IsAll since all = since.past ++ since.following ≡ all

found_all : (frame : List ℕ) (found : Since) (past : List Entry) (e : Entry) (rest : List Entry) → IsAll found (past ++ e ∷ rest) → IsAll (found_at frame found past e rest) (past ++ e ∷ rest)
found_all frame found past (entry.Written Host unit) rest is = by (bytes_eq unit frame)
  where
    by : (b : Bool) → IsAll (if b then record { past = past ++ entry.Written Host unit ∷ []; following = rest } else found) (past ++ entry.Written Host unit ∷ rest)
    by true = append_assoc past (entry.Written Host unit ∷ []) rest
    by false = is
found_all frame found past (entry.Written Chip unit) rest is = is
found_all frame found past e rest is = is

since_all : (frame : List ℕ) (found : Since) (past some : List Entry) → IsAll found (past ++ some) → IsAll (since_last frame found past some) (past ++ some)
since_all frame found past [] is = is
since_all frame found past (e ∷ some) is =
    since_all frame (found_at frame found past e some) (past ++ e ∷ []) some (found_all frame found past e some is ∙ sym (append_assoc past (e ∷ []) some))
    ∙ append_assoc past (e ∷ []) some

pub last_all : (a : Asked) → (last_copy a).past ++ (last_copy a).following ≡ up_to_first a ++ a.following
last_all a = since_all a.frame (record { past = up_to_first a; following = a.following }) (up_to_first a) a.following refl
