-- What a transcript shows of ages is what its history gives: sessions that began, new nonces, and frames that came later.
use Rattle.std.proofs.Common.{◌≡◌, ◌≢◌, ◌≤◌, ◌<◌, ℕ, zero, suc, ◌+◌, ◌-◌, ◌==◌, ◌&&◌, Bool, true, false, if◌then◌else◌, List, [], ◌∷◌, ◌++◌, length, map, replicate, refl, sym, ap, ap₂, subst, ◌∙◌, append_assoc, append-nil, inl, inr, ◌⊎◌, arith}
use Rattle.std.proofs.lemmas.Bool.{ne_eqb, eqb-true, eqb-false, cases_eq, lt-ltb}
use Rattle.std.proofs.lemmas.List.{length-append}
use Rattle.std.specs.Prelude.{Option, Some, None, slice_get}
use Rattle.std.specs.Option.{option_map}
use Rattle.std.specs.List.{flat_map}
use Rattle.std.proofs.lemmas.Grind.{flat_map-append}
use Rattle.air_frames.specs.declared.frame.Departure.{Departure}
use Rattle.air_frames.specs.declared.frame.Heading.{Heading}
use Rattle.air_frames.specs.declared.frame.Heading.TheVariants.{Outward, Homeward}
use Rattle.air_frames.specs.Nonces.{nonce_in, is_news}
use Rattle.air_frames.specs.History.{Mark, Goes, Begins, goes_in, begins_in, last_in, last_after, later_nonce, news_by, new_in, news_after, through, departure_at}
use Rattle.air_frames.proofs.Logs.{goes_in-append, begins_in-append, begins_in-begins, last_in-append, last_in-begins, news_after-append, news_after-begins}
use Rattle.zw_text.specs.declared.entry.Entry.{Entry}
use Rattle.zw_text.specs.declared.entry.Entry.TheVariants as entry
use Rattle.zw_text.specs.Transcript.{AirFrame, folded, frame_at, frames, sessions, session_number_at, session_numbers}
use Rattle.law_wire.specs.law_transcript.Lists.{EachAfter, listed}
use Rattle.law_wire.specs.law_transcript.Nodes.{controller}
use Rattle.law_wire.specs.law_transcript.Fates.{MayAir}
use Rattle.law_wire.specs.law_transcript.Sessions.{MayBegin}
use Rattle.law_wire.specs.law_transcript.Repeats.{frame_of, up_to_frame, nonces_shown, news_after as news_in, new_nonces}
use Rattle.proof_walk.specs.mesh_sim.Air.{no_route}
use Rattle.proof_air.specs.Logs.{departure_of, mark_step, log_of}
use Rattle.proof_air.proofs.Logs.{log_grows}

-- ---- frames

-- the frames of a history, in order
abbrev gone : List Mark → List Departure
gone [] = []
gone (Goes departure ∷ log) = departure ∷ gone log
gone (Begins node ∷ log) = gone log

gone-append : (xs ys : List Mark) → gone (xs ++ ys) ≡ gone xs ++ gone ys
gone-append [] ys = refl
gone-append (Goes departure ∷ xs) ys = ap (λ (l : List Departure). departure ∷ l) (gone-append xs ys)
gone-append (Begins node ∷ xs) ys = gone-append xs ys

gone-begins : (count node : ℕ) → gone (replicate count (Begins node)) ≡ []
gone-begins zero node = refl
gone-begins (suc count) node = gone-begins count node

gone_count : (log : List Mark) → goes_in log ≡ length (gone log)
gone_count [] = refl
gone_count (Goes departure ∷ log) = ap suc (gone_count log)
gone_count (Begins node ∷ log) = gone_count log

gone_at : (log : List Mark) (number : ℕ) → departure_at log number ≡ slice_get (gone log) number
gone_at [] number = refl
gone_at (Goes departure ∷ log) zero = refl
gone_at (Goes departure ∷ log) (suc number) = gone_at log number
gone_at (Begins node ∷ log) number = gone_at log number

-- of a frame
abbrev pub departure : AirFrame → Departure
departure frame = departure_of frame.sender frame.receiver frame.payload

gone_from : (log : List Mark) (past : List Entry) → gone (folded mark_step log past) ≡ gone log ++ map departure (frames past)
gone_from log [] = sym (append-nil (gone log))
gone_from log (entry.Air frame sender receiver repeaters payload ∷ past) =
    let one : Departure = departure_of sender receiver payload in
    gone_from (log ++ Goes one ∷ []) past
    ∙ (ap (λ (l : List Departure). l ++ map departure (frames past)) (gone-append log (Goes one ∷ [])) ∙ append_assoc (gone log) (one ∷ []) (map departure (frames past)))
gone_from log (entry.Begin node session command ∷ past) =
    let more : List Mark = replicate (session - begins_in node log) (Begins node) in
    gone_from (log ++ more) past
    ∙ ap (λ (l : List Departure). l ++ map departure (frames past))
    (gone-append log more ∙ (ap (λ (l : List Departure). gone log ++ l) (gone-begins (session - begins_in node log) node) ∙ append-nil (gone log)))
gone_from log (e ∷ past) = gone_from log past

frames_gone : (past : List Entry) → gone (log_of past) ≡ map departure (frames past)
frames_gone past = gone_from [] past

length_map : {A B : Type 0} (f : A → B) (xs : List A) → length (map f xs) ≡ length xs
length_map f [] = refl
length_map f (x ∷ xs) = ap suc (length_map f xs)

get_map : {A B : Type 0} (f : A → B) (xs : List A) (at : ℕ) → slice_get (map f xs) at ≡ option_map f (slice_get xs at)
get_map f [] at = refl
get_map f (x ∷ xs) zero = refl
get_map f (x ∷ xs) (suc at) = get_map f xs at

-- so many, and each at its place
pub frames_sent : (past : List Entry) → goes_in (log_of past) ≡ length (frames past)
frames_sent past = gone_count (log_of past) ∙ (ap length (frames_gone past) ∙ length_map departure (frames past))

pub frame_sent : (past : List Entry) (number : ℕ) → departure_at (log_of past) number ≡ option_map departure (slice_get (frames past) number)
frame_sent past number = gone_at (log_of past) number ∙ (ap (λ (l : List Departure). slice_get l number) (frames_gone past) ∙ get_map departure (frames past) number)

-- that of a number stands before it
pub at_its_place : (past : List Entry) (at : ℕ) → frame_of past (suc at) ≡ slice_get (frames past) at
at_its_place past at =
    let some : 0 < suc at = omega arith in
    let place : suc at - 1 ≡ at = omega arith in
    ap (λ (b : Bool). if b then slice_get (frames past) (suc at - 1) else None) (lt-ltb 0 (suc at) some) ∙ ap (slice_get (frames past)) place

-- they are numbered in order, and the controller is one end of each
abbrev pub HasEnd : AirFrame → Type 0
HasEnd frame = (frame.sender ≡ controller) ⊎ (frame.receiver ≡ controller)

abbrev AreAired : ℕ → List AirFrame → Type 0
AreAired n [] = Unit {0}
AreAired n (frame ∷ more) = ((frame.number ≡ n + 1) × HasEnd frame) × AreAired (n + 1) more

aired_at : (n : ℕ) (fs : List AirFrame) (at : ℕ) (frame : AirFrame) → AreAired n fs → slice_get fs at ≡ Some frame → (frame.number ≡ (n + at) + 1) × HasEnd frame
aired_at n [] at frame aired is = absurd cc
aired_at n (first ∷ more) zero frame aired is =
    let same : first ≡ frame = cc in
    let own : (frame.number ≡ n + 1) × HasEnd frame = subst (λ (f : AirFrame). (f.number ≡ n + 1) × HasEnd f) same aired.0 in
    let sum : n + 1 ≡ (n + 0) + 1 = omega arith in
    (own.0 ∙ sum, own.1)
aired_at n (first ∷ more) (suc at) frame aired is =
    let rest = aired_at (n + 1) more at frame aired.1 is in
    let sum : ((n + 1) + at) + 1 ≡ (n + suc at) + 1 = omega arith in
    (rest.0 ∙ sum, rest.1)

pub no_frame : (past : List Entry) (e : Entry) → frame_at e ≡ [] → length (frames (past ++ e ∷ [])) ≡ length (frames past)
no_frame past e none =
    ap length (flat_map-append frame_at past (e ∷ []))
    ∙ (ap (λ (l : List AirFrame). length (frames past ++ (l ++ []))) none ∙ ap length (append-nil (frames past)))

aired_from : (past rest : List Entry) → EachAfter MayAir past rest → AreAired (length (frames past)) (frames rest)
aired_from past [] may = tt
aired_from past (entry.Air frame sender receiver repeaters payload ∷ rest) may =
    let this : List Entry = entry.Air frame sender receiver repeaters payload ∷ [] in
    let more : length (frames (past ++ this)) ≡ length (frames past) + 1 = ap length (flat_map-append frame_at past this) ∙ length-append (frames past) (frames this) in
    (may.0, subst (λ (n : ℕ). AreAired n (frames rest)) more (aired_from (past ++ this) rest may.1))
aired_from past (e ∷ rest) may = subst (λ (n : ℕ). AreAired n (frames rest)) (no_frame past e refl) (aired_from (past ++ e ∷ []) rest may.1)

-- the frame at a place
pub frame_is_aired : (past : List Entry) (at : ℕ) (frame : AirFrame) → EachAfter MayAir [] past → slice_get (frames past) at ≡ Some frame → (frame.number ≡ at + 1) × HasEnd frame
frame_is_aired past at frame may is =
    let got = aired_at 0 (frames past) at frame (aired_from [] past may) is in
    let own = got.0 in
    let number : frame.number ≡ at + 1 = omega (arith, own) in
    (number, got.1)

-- ---- the entries up to a frame

grows : (log : List Mark) (rest : List Entry) → (more : List Mark) × (folded mark_step log rest ≡ log ++ more)
grows log [] = ([], sym (append-nil log))
grows log (entry.Air frame sender receiver repeaters payload ∷ rest) =
    let one : List Mark = Goes (departure_of sender receiver payload) ∷ [] in
    let (more, is) = grows (log ++ one) rest in
    (one ++ more, is ∙ append_assoc log one more)
grows log (entry.Begin node session command ∷ rest) =
    let some : List Mark = replicate (session - begins_in node log) (Begins node) in
    let (more, is) = grows (log ++ some) rest in
    (some ++ more, is ∙ append_assoc log some more)
grows log (e ∷ rest) = grows log rest

through_last : (log more : List Mark) (one : Departure) → through ((log ++ Goes one ∷ []) ++ more) (goes_in log) ≡ log ++ Goes one ∷ []
through_last [] more one = refl
through_last (Goes first ∷ log) more one = ap (λ (l : List Mark). Goes first ∷ l) (through_last log more one)
through_last (Begins node ∷ log) more one = ap (λ (l : List Mark). Begins node ∷ l) (through_last log more one)

module _ (at : ℕ) where
  abbrev Through : List Entry → List Entry → Type 0
  Through before rest = log_of (before ++ up_to_frame (at + 1) rest) ≡ through (log_of (before ++ rest)) at

  -- one entry later
  step : (before : List Entry) (e : Entry) (rest : List Entry) → log_of ((before ++ e ∷ []) ++ up_to_frame (at + 1) rest) ≡ through (log_of ((before ++ e ∷ []) ++ rest)) at
      → log_of (before ++ (e ∷ up_to_frame (at + 1) rest)) ≡ through (log_of (before ++ (e ∷ rest))) at
  step before e rest is =
      ap log_of (sym (append_assoc before (e ∷ []) (up_to_frame (at + 1) rest))) ∙ (is ∙ ap (λ (l : List Entry). through (log_of l) at) (append_assoc before (e ∷ []) rest))

  same_count : (before : List Entry) (e : Entry) → frame_at e ≡ [] → goes_in (log_of (before ++ e ∷ [])) ≡ goes_in (log_of before)
  same_count before e none = frames_sent (before ++ e ∷ []) ∙ (no_frame before e none ∙ sym (frames_sent before))

  -- an entry that is no frame
  passes : (before : List Entry) (e : Entry) (rest : List Entry) → frame_at e ≡ [] → goes_in (log_of before) ≤ at → at < goes_in (log_of (before ++ (e ∷ rest)))
      → (goes_in (log_of (before ++ e ∷ [])) ≤ at) × (at < goes_in (log_of ((before ++ e ∷ []) ++ rest)))
  passes before e rest none far near =
      (subst (λ (n : ℕ). n ≤ at) (sym (same_count before e none)) far, subst (λ (l : List Entry). at < goes_in (log_of l)) (sym (append_assoc before (e ∷ []) rest)) near)

  upto_is : (before rest : List Entry) → EachAfter MayAir before rest → goes_in (log_of before) ≤ at → at < goes_in (log_of (before ++ rest)) → Through before rest
  upto_is before [] may far near =
      let none : at < goes_in (log_of before) = subst (λ (l : List Entry). at < goes_in (log_of l)) (append-nil before) near in absurd (omega (arith, none, far))
  upto_is before (entry.Air frame sender receiver repeaters payload ∷ rest) may far near =
      by (frame == at + 1) refl
      (λ next. upto_is (before ++ entry.Air frame sender receiver repeaters payload ∷ []) rest may.1 next
      (subst (λ (l : List Entry). at < goes_in (log_of l)) (sym (append_assoc before (entry.Air frame sender receiver repeaters payload ∷ []) rest)) near))
    where
      this : Entry
      this = entry.Air frame sender receiver repeaters payload

      one : Departure
      one = departure_of sender receiver payload

      logged : log_of (before ++ this ∷ []) ≡ log_of before ++ Goes one ∷ []
      logged = log_grows before (this ∷ [])

      number : frame ≡ goes_in (log_of before) + 1
      number = may.0.0 ∙ ap (λ (n : ℕ). n + 1) (sym (frames_sent before))

      more_sent : goes_in (log_of (before ++ this ∷ [])) ≡ goes_in (log_of before) + 1
      more_sent = ap goes_in logged ∙ goes_in-append (log_of before) (Goes one ∷ [])

      by : (b : Bool) → (frame == at + 1) ≡ b → (goes_in (log_of (before ++ this ∷ [])) ≤ at → Through (before ++ this ∷ []) rest)
          → log_of (before ++ (this ∷ (if b then [] else up_to_frame (at + 1) rest))) ≡ through (log_of (before ++ (this ∷ rest))) at
      by true is later =
          let same : frame ≡ at + 1 = eqb-true frame (at + 1) is in
          let own = number in
          let here : goes_in (log_of before) ≡ at = omega (arith, same, own) in
          let (more, all) = grows (log_of (before ++ this ∷ [])) rest in
          let whole : log_of (before ++ (this ∷ rest)) ≡ (log_of before ++ Goes one ∷ []) ++ more =
          ap log_of (sym (append_assoc before (this ∷ []) rest)) ∙ (log_grows (before ++ this ∷ []) rest ∙ (all ∙ ap (λ (l : List Mark). l ++ more) logged)) in
          logged ∙ (sym (through_last (log_of before) more one) ∙ ap₂ (λ (l : List Mark) (n : ℕ). through l n) (sym whole) here)
      by false is later =
          let other : frame ≢ at + 1 = eqb-false frame (at + 1) is in
          let sent = more_sent in
          let apart : goes_in (log_of before) ≢ at = λ same. other (number ∙ ap (λ (n : ℕ). n + 1) same) in
          let next : goes_in (log_of (before ++ this ∷ [])) ≤ at = omega (arith, sent, far, apart) in
          step before this rest (later next)
  upto_is before (e ∷ rest) may far near =
      let both = passes before e rest refl far near in
      step before e rest (upto_is (before ++ e ∷ []) rest may.1 both.0 both.1)

-- the history up to a frame
pub log_up_to : (past : List Entry) (at : ℕ) → EachAfter MayAir [] past → at < goes_in (log_of past) → log_of (up_to_frame (at + 1) past) ≡ through (log_of past) at
log_up_to past at may within = upto_is at [] past may (let none : 0 ≤ at = omega arith in none) within

-- they are a prefix
pub up_to_prefix : (number : ℕ) (past : List Entry) → (rest : List Entry) × (past ≡ up_to_frame number past ++ rest)
up_to_prefix number [] = ([], refl)
up_to_prefix number (entry.Air frame sender receiver repeaters payload ∷ past) = by (frame == number) (up_to_prefix number past)
  where
    this : Entry
    this = entry.Air frame sender receiver repeaters payload

    by : (b : Bool) → (rest : List Entry) × (past ≡ up_to_frame number past ++ rest) → (rest : List Entry) × (this ∷ past ≡ (this ∷ (if b then [] else up_to_frame number past)) ++ rest)
    by true later = (past, refl)
    by false (rest, is) = (rest, ap (λ (l : List Entry). this ∷ l) is)
up_to_prefix number (e ∷ past) = let (rest, is) = up_to_prefix number past in (rest, ap (λ (l : List Entry). e ∷ l) is)

pub each-left : {A : Type 0} (Allowed : List A → A → Type 0) (past xs ys : List A) → EachAfter Allowed past (xs ++ ys) → EachAfter Allowed past xs
each-left Allowed past [] ys each = tt
each-left Allowed past (x ∷ xs) ys each = (each.0, each-left Allowed (past ++ x ∷ []) xs ys each.1)

-- ---- sessions

plus_none : (n : ℕ) → n ≡ n + 0
plus_none n = omega arith

abbrev Begun : List Entry → Type 0
Begun past = (node : ℕ) → begins_in node (log_of past) ≡ length (session_numbers node past)

same_length : (node : ℕ) (past : List Entry) → length (sessions node past) ≡ length (session_numbers node past)
same_length node [] = refl
same_length node (entry.Begin other session command ∷ past) = by (other == node) (same_length node past)
  where
    by : (b : Bool) → length (sessions node past) ≡ length (session_numbers node past)
        → length ((if b then command ∷ [] else []) ++ sessions node past) ≡ length ((if b then session ∷ [] else []) ++ session_numbers node past)
    by true same = ap suc same
    by false same = same
same_length node (e ∷ past) = same_length node past

numbers_grow : (node : ℕ) (past : List Entry) (e : Entry) → length (session_numbers node (past ++ e ∷ [])) ≡ length (session_numbers node past) + length (session_number_at node e)
numbers_grow node past e =
    ap length (flat_map-append (session_number_at node) past (e ∷ []))
    ∙ (length-append (session_numbers node past) (session_number_at node e ++ []) ∙ ap (λ (l : List ℕ). length (session_numbers node past) + length l) (append-nil (session_number_at node e)))

begun_more : (past : List Entry) (own session command : ℕ) → session ≡ length (sessions own past) + 1 → Begun past → Begun (past ++ entry.Begin own session command ∷ [])
begun_more past own session command next begun node =
    let count : ℕ = session - begins_in own (log_of past) in
    let one : count ≡ 1 = let is = begun own in let same = same_length own past in omega (arith, next, is, same) in
    ap (begins_in node) (log_grows past (entry.Begin own session command ∷ []))
    ∙ (begins_in-append node (log_of past) (replicate count (Begins own))
    ∙ (ap (λ (n : ℕ). begins_in node (log_of past) + n) (begins_in-begins node own count (own == node) refl)
    ∙ (by (own == node) one ∙ sym (numbers_grow node past (entry.Begin own session command)))))
  where
    by : (b : Bool) → session - begins_in own (log_of past) ≡ 1
        → begins_in node (log_of past) + (if b then session - begins_in own (log_of past) else 0) ≡ length (session_numbers node past) + length (if b then session ∷ [] else [])
    by true one = ap₂ (λ (a b : ℕ). a + b) (begun node) one
    by false one = ap (λ (n : ℕ). n + 0) (begun node)

begun_from : (past rest : List Entry) → EachAfter MayBegin past rest → Begun past → Begun (past ++ rest)
begun_from past [] may begun = subst Begun (sym (append-nil past)) begun
begun_from past (entry.Begin node session command ∷ rest) may begun =
    let this : Entry = entry.Begin node session command in
    subst Begun (append_assoc past (this ∷ []) rest) (begun_from (past ++ this ∷ []) rest may.1 (begun_more past node session command may.0.0 begun))
begun_from past (entry.Air frame sender receiver repeaters payload ∷ rest) may begun =
    let this : Entry = entry.Air frame sender receiver repeaters payload in
    let one : List Mark = Goes (departure_of sender receiver payload) ∷ [] in
    let still : Begun (past ++ this ∷ []) = λ node.
    ap (begins_in node) (log_grows past (this ∷ [])) ∙ (begins_in-append node (log_of past) one ∙ (ap (λ (n : ℕ). n + 0) (begun node) ∙ sym (numbers_grow node past this))) in
    subst Begun (append_assoc past (this ∷ []) rest) (begun_from (past ++ this ∷ []) rest may.1 still)
begun_from past (e ∷ rest) may begun =
    let still : Begun (past ++ e ∷ []) = λ node.
    ap (begins_in node) (log_grows past (e ∷ [])) ∙ (begun node ∙ (plus_none (length (session_numbers node past)) ∙ sym (numbers_grow node past e))) in
    subst Begun (append_assoc past (e ∷ []) rest) (begun_from (past ++ e ∷ []) rest may.1 still)

-- as many sessions of each node
pub sessions_begun : (past : List Entry) (node : ℕ) → EachAfter MayBegin [] past → begins_in node (log_of past) ≡ length (session_numbers node past)
sessions_begun past node may = begun_from [] past may (λ other. refl) node

-- ---- nonces

-- the last of them
abbrev last_nonce : Option (List ℕ) → List (List ℕ) → Option (List ℕ)
last_nonce before [] = before
last_nonce before (nonce ∷ nonces) = last_nonce (Some nonce) nonces

last-append : (before : Option (List ℕ)) (xs ys : List (List ℕ)) → last_nonce before (xs ++ ys) ≡ last_nonce (last_nonce before xs) ys
last-append before [] ys = refl
last-append before (x ∷ xs) ys = last-append (Some x) xs ys

news-append : (before : Option (List ℕ)) (xs ys : List (List ℕ)) → news_in before (xs ++ ys) ≡ news_in before xs + news_in (last_nonce before xs) ys
news-append before [] ys = let none : news_in before ys ≡ 0 + news_in before ys = omega arith in none
news-append before (x ∷ xs) ys =
    let rest = news-append (Some x) xs ys in
    let n : ℕ = if is_news before x then 1 else 0 in
    let sum : n + news_in (Some x) (xs ++ ys) ≡ (n + news_in (Some x) xs) + news_in (last_nonce (Some x) xs) ys = omega (arith, rest) in
    sum

-- of one frame
one_news : (before : Option (List ℕ)) (nonce : Option (List ℕ)) → news_in before (listed nonce) ≡ news_by before nonce
one_news before None = refl
one_news before (Some nonce) = let none : (if is_news before nonce then 1 else 0) + 0 ≡ (if is_news before nonce then 1 else 0) = omega arith in none

one_last : (before nonce : Option (List ℕ)) → last_nonce before (listed nonce) ≡ later_nonce nonce before
one_last before None = refl
one_last before (Some nonce) = refl

nonces_grow : (sender receiver : ℕ) (past : List Entry) (e : Entry)
    → nonces_shown sender receiver (past ++ e ∷ [])
    ≡ nonces_shown sender receiver past ++ flat_map (λ (frame : AirFrame). if (frame.sender == sender) && (frame.receiver == receiver) then listed (nonce_in frame.payload) else []) (frame_at e)
nonces_grow sender receiver past e =
    ap (λ (l : List AirFrame). flat_map (λ (frame : AirFrame). if (frame.sender == sender) && (frame.receiver == receiver) then listed (nonce_in frame.payload) else []) l)
    (flat_map-append frame_at past (e ∷ []) ∙ ap (λ (l : List AirFrame). frames past ++ l) (append-nil (frame_at e)))
    ∙ flat_map-append (λ (frame : AirFrame). if (frame.sender == sender) && (frame.receiver == receiver) then listed (nonce_in frame.payload) else []) (frames past) (frame_at e)

module _ (node : ℕ) (apart : node ≢ controller) where
  -- the history has the same news, and the same last nonce each way
  record Shown (past : List Entry) : Type 0 where
    news : news_after node [] (log_of past) ≡ new_nonces node past
    outward : last_in node Outward None (log_of past) ≡ last_nonce None (nonces_shown controller node past)
    homeward : last_in node Homeward None (log_of past) ≡ last_nonce None (nonces_shown node controller past)

  shown_none : Shown []
  shown_none = record { news = refl; outward = refl; homeward = refl }

  -- so many nonces more each way
  shown_with : (past : List Entry) (e : Entry) (out home : List (List ℕ)) → nonces_shown controller node (past ++ e ∷ []) ≡ nonces_shown controller node past ++ out
      → nonces_shown node controller (past ++ e ∷ []) ≡ nonces_shown node controller past ++ home → Shown past
      → news_after node [] (log_of (past ++ e ∷ []))
      ≡ news_after node [] (log_of past) + (news_in (last_in node Homeward None (log_of past)) home + news_in (last_in node Outward None (log_of past)) out)
      → last_in node Outward None (log_of (past ++ e ∷ [])) ≡ last_nonce (last_in node Outward None (log_of past)) out
      → last_in node Homeward None (log_of (past ++ e ∷ [])) ≡ last_nonce (last_in node Homeward None (log_of past)) home → Shown (past ++ e ∷ [])
  shown_with past e out home outs homes shown news last_out last_home =
      let o : List (List ℕ) = nonces_shown controller node past in
      let h : List (List ℕ) = nonces_shown node controller past in
      let before = shown.news in
      let more_home : news_in None (nonces_shown node controller (past ++ e ∷ [])) ≡ news_in None h + news_in (last_in node Homeward None (log_of past)) home =
      ap (news_in None) homes ∙ (news-append None h home ∙ ap (λ (l : Option (List ℕ)). news_in None h + news_in l home) (sym shown.homeward)) in
      let more_out : news_in None (nonces_shown controller node (past ++ e ∷ [])) ≡ news_in None o + news_in (last_in node Outward None (log_of past)) out =
      ap (news_in None) outs ∙ (news-append None o out ∙ ap (λ (l : Option (List ℕ)). news_in None o + news_in l out) (sym shown.outward)) in
      record {
        news = omega (arith, news, before, more_home, more_out);
        outward = last_out ∙ (ap (λ (l : Option (List ℕ)). last_nonce l out) shown.outward ∙ (sym (last-append None o out) ∙ ap (last_nonce None) (sym outs)));
        homeward = last_home ∙ (ap (λ (l : Option (List ℕ)). last_nonce l home) shown.homeward ∙ (sym (last-append None h home) ∙ ap (last_nonce None) (sym homes)));
      }

  -- an entry that is no frame shows no nonce
  none_shown : (sender receiver : ℕ) (past : List Entry) (e : Entry) → frame_at e ≡ [] → nonces_shown sender receiver (past ++ e ∷ []) ≡ nonces_shown sender receiver past ++ []
  none_shown sender receiver past e none =
      nonces_grow sender receiver past e
      ∙ ap (λ (l : List AirFrame). nonces_shown sender receiver past ++ flat_map (λ (frame : AirFrame). if (frame.sender == sender) && (frame.receiver == receiver) then listed (nonce_in frame.payload) else []) l) none

  one_shown : (sender receiver : ℕ) (past : List Entry) (frame from to : ℕ) (repeaters payload : List ℕ)
      → nonces_shown sender receiver (past ++ entry.Air frame from to repeaters payload ∷ [])
      ≡ nonces_shown sender receiver past ++ (if (from == sender) && (to == receiver) then listed (nonce_in payload) else [])
  one_shown sender receiver past frame from to repeaters payload =
      nonces_grow sender receiver past (entry.Air frame from to repeaters payload)
      ∙ ap (λ (l : List (List ℕ)). nonces_shown sender receiver past ++ l) (append-nil (if (from == sender) && (to == receiver) then listed (nonce_in payload) else []))

  -- ---- a frame

  first_false : (a b : Bool) (l : List (List ℕ)) → a ≡ false → (if a && b then l else []) ≡ []
  first_false true b l is = absurd (let none : true ≡ false = is in cc)
  first_false false b l is = refl

  second_false : (a b : Bool) (l : List (List ℕ)) → b ≡ false → (if a && b then l else []) ≡ []
  second_false true true l is = absurd (let none : true ≡ false = is in cc)
  second_false true false l is = refl
  second_false false b l is = refl

  not_node : (controller == node) ≡ false
  not_node = ne_eqb controller node (λ same. apart (sym same))

  -- where it is of the node, its nonce counts
  counts : (c : Bool) (before given : Option (List ℕ)) → (if c then news_by before given else 0) ≡ news_in before (if c then listed given else [])
  counts true before given = sym (one_news before given)
  counts false before given = refl

  stands : (c : Bool) (before given : Option (List ℕ)) → (if c then later_nonce given before else before) ≡ last_nonce before (if c then listed given else [])
  stands true before given = sym (one_last before given)
  stands false before given = refl

  and_true : (c : Bool) → (c && true) ≡ c
  and_true true = refl
  and_true false = refl

  and_false : (c : Bool) → (c && false) ≡ false
  and_false true = refl
  and_false false = refl

  -- one that comes to the controller, and one that goes out
  abbrev homeward_frame : ℕ → List ℕ → Departure
  homeward_frame from payload = record { node = from; heading = Homeward; route = no_route; lost = false; payload = payload }

  abbrev outward_frame : ℕ → List ℕ → Departure
  outward_frame to payload = record { node = to; heading = Outward; route = no_route; lost = false; payload = payload }

  news_one : (log : List Mark) (one : Departure) → news_after node [] (log ++ Goes one ∷ []) ≡ news_after node [] log + new_in node log one
  news_one log one =
      let all = news_after-append node [] log (Goes one ∷ []) in
      let sum : news_after node [] (log ++ Goes one ∷ []) ≡ news_after node [] log + new_in node log one = omega (arith, all) in
      sum

  last_one : (heading : Heading) (log : List Mark) (one : Departure) → last_in node heading None (log ++ Goes one ∷ []) ≡ last_after node heading one (last_in node heading None log)
  last_one heading log one = last_in-append node heading None log (Goes one ∷ [])

  homeward_shown : (past : List Entry) (frame from : ℕ) (repeaters payload : List ℕ) → Shown past → Shown (past ++ entry.Air frame from controller repeaters payload ∷ [])
  homeward_shown past frame from repeaters payload shown =
      let this : Entry = entry.Air frame from controller repeaters payload in
      let log : List Mark = log_of past in
      let one : Departure = homeward_frame from payload in
      let c : Bool = from == node in
      let nonce : Option (List ℕ) = nonce_in payload in
      let logged : log_of (past ++ this ∷ []) ≡ log ++ Goes one ∷ [] = log_grows past (this ∷ []) in
      let home : List (List ℕ) = if c then listed nonce else [] in
      let counted : new_in node log one ≡ news_in (last_in node Homeward None log) home = counts c (last_in node Homeward None log) nonce in
      let all : news_after node [] (log_of (past ++ this ∷ [])) ≡ news_after node [] log + new_in node log one = ap (news_after node []) logged ∙ news_one log one in
      shown_with past this [] home
      (one_shown controller node past frame from controller repeaters payload
      ∙ ap (λ (l : List (List ℕ)). nonces_shown controller node past ++ l) (second_false (from == controller) (controller == node) (listed nonce) not_node))
      (one_shown node controller past frame from controller repeaters payload
      ∙ ap (λ (b : Bool). nonces_shown node controller past ++ (if b then listed nonce else [])) (and_true c))
      shown
      (let sum : news_after node [] (log_of (past ++ this ∷ [])) ≡ news_after node [] log + (news_in (last_in node Homeward None log) home + 0) = omega (arith, all, counted) in sum)
      (ap (last_in node Outward None) logged
      ∙ (last_one Outward log one ∙ ap (λ (b : Bool). if b then later_nonce nonce (last_in node Outward None log) else last_in node Outward None log) (and_false c)))
      (ap (last_in node Homeward None) logged
      ∙ (last_one Homeward log one
      ∙ (ap (λ (b : Bool). if b then later_nonce nonce (last_in node Homeward None log) else last_in node Homeward None log) (and_true c) ∙ stands c (last_in node Homeward None log) nonce)))

  outward_shown : (past : List Entry) (frame to : ℕ) (repeaters payload : List ℕ) → (to == controller) ≡ false → Shown past → Shown (past ++ entry.Air frame controller to repeaters payload ∷ [])
  outward_shown past frame to repeaters payload other shown =
      let this : Entry = entry.Air frame controller to repeaters payload in
      let log : List Mark = log_of past in
      let one : Departure = outward_frame to payload in
      let c : Bool = to == node in
      let nonce : Option (List ℕ) = nonce_in payload in
      let same : departure_of controller to payload ≡ one =
      ap (λ (b : Bool). record { node = if b then controller else to; heading = if b then Homeward else Outward; route = no_route; lost = false; payload = payload }) other in
      let logged : log_of (past ++ this ∷ []) ≡ log ++ Goes one ∷ [] = log_grows past (this ∷ []) ∙ ap (λ (d : Departure). log ++ Goes d ∷ []) same in
      let out : List (List ℕ) = if c then listed nonce else [] in
      let counted : new_in node log one ≡ news_in (last_in node Outward None log) out = counts c (last_in node Outward None log) nonce in
      let all : news_after node [] (log_of (past ++ this ∷ [])) ≡ news_after node [] log + new_in node log one = ap (news_after node []) logged ∙ news_one log one in
      shown_with past this out []
      (one_shown controller node past frame controller to repeaters payload)
      (one_shown node controller past frame controller to repeaters payload
      ∙ ap (λ (l : List (List ℕ)). nonces_shown node controller past ++ l) (first_false (controller == node) (to == controller) (listed nonce) not_node))
      shown
      (let sum : news_after node [] (log_of (past ++ this ∷ [])) ≡ news_after node [] log + (0 + news_in (last_in node Outward None log) out) = omega (arith, all, counted) in sum)
      (ap (last_in node Outward None) logged
      ∙ (last_one Outward log one
      ∙ (ap (λ (b : Bool). if b then later_nonce nonce (last_in node Outward None log) else last_in node Outward None log) (and_true c) ∙ stands c (last_in node Outward None log) nonce)))
      (ap (last_in node Homeward None) logged
      ∙ (last_one Homeward log one ∙ ap (λ (b : Bool). if b then later_nonce nonce (last_in node Homeward None log) else last_in node Homeward None log) (and_false c)))

  -- the controller is one of its ends
  frame_shown : (past : List Entry) (frame from to : ℕ) (repeaters payload : List ℕ) → (from ≡ controller) ⊎ (to ≡ controller) → Shown past → Shown (past ++ entry.Air frame from to repeaters payload ∷ [])
  frame_shown past frame from to repeaters payload ends shown = by ends (cases_eq to controller)
    where
      home : to ≡ controller → Shown (past ++ entry.Air frame from to repeaters payload ∷ [])
      home is = subst (λ (n : ℕ). Shown (past ++ entry.Air frame from n repeaters payload ∷ [])) (sym is) (homeward_shown past frame from repeaters payload shown)

      by : (from ≡ controller) ⊎ (to ≡ controller) → (to ≡ controller) ⊎ (to ≢ controller) → Shown (past ++ entry.Air frame from to repeaters payload ∷ [])
      by ends (inl is) = home is
      by (inr is) (inr other) = home is
      by (inl is) (inr other) =
          subst (λ (n : ℕ). Shown (past ++ entry.Air frame n to repeaters payload ∷ [])) (sym is) (outward_shown past frame to repeaters payload (ne_eqb to controller other) shown)

  -- ---- entries that are no frames

  plus_nothing : (n : ℕ) → n ≡ n + (0 + 0)
  plus_nothing n = omega arith

  -- they leave the history as it is, or more sessions have begun
  begun_shown : (past : List Entry) (e : Entry) (count own : ℕ) → frame_at e ≡ [] → log_of (past ++ e ∷ []) ≡ log_of past ++ replicate count (Begins own) → Shown past → Shown (past ++ e ∷ [])
  begun_shown past e count own none logged shown =
      let log : List Mark = log_of past in
      let more : List Mark = replicate count (Begins own) in
      shown_with past e [] [] (none_shown controller node past e none) (none_shown node controller past e none) shown
      (ap (news_after node []) logged
      ∙ (news_after-append node [] log more
      ∙ (ap (λ (n : ℕ). news_after node [] log + n) (news_after-begins node log own count) ∙ (sym (plus_zero (news_after node [] log)) ∙ plus_nothing (news_after node [] log)))))
      (ap (last_in node Outward None) logged ∙ (last_in-append node Outward None log more ∙ last_in-begins node Outward (last_in node Outward None log) own count))
      (ap (last_in node Homeward None) logged ∙ (last_in-append node Homeward None log more ∙ last_in-begins node Homeward (last_in node Homeward None log) own count))
    where
      plus_zero : (n : ℕ) → n ≡ n + 0
      plus_zero n = omega arith

  shown_from : (past rest : List Entry) → EachAfter MayAir past rest → Shown past → Shown (past ++ rest)
  shown_from past [] may shown = subst Shown (sym (append-nil past)) shown
  shown_from past (entry.Air frame from to repeaters payload ∷ rest) may shown =
      let this : Entry = entry.Air frame from to repeaters payload in
      subst Shown (append_assoc past (this ∷ []) rest) (shown_from (past ++ this ∷ []) rest may.1 (frame_shown past frame from to repeaters payload may.0.1 shown))
  shown_from past (entry.Begin own session command ∷ rest) may shown =
      let this : Entry = entry.Begin own session command in
      subst Shown (append_assoc past (this ∷ []) rest)
      (shown_from (past ++ this ∷ []) rest may.1 (begun_shown past this (session - begins_in own (log_of past)) own refl (log_grows past (this ∷ [])) shown))
  shown_from past (e ∷ rest) may shown =
      subst Shown (append_assoc past (e ∷ []) rest)
      (shown_from (past ++ e ∷ []) rest may.1 (begun_shown past e 0 node refl (log_grows past (e ∷ []) ∙ sym (append-nil (log_of past))) shown))

  -- as many new nonces
  pub nonces_new : (past : List Entry) → EachAfter MayAir [] past → news_after node [] (log_of past) ≡ new_nonces node past
  nonces_new past may = let shown : Shown past = shown_from [] past may shown_none in shown.news
