-- A frame is fresh, or refused for the same reason, by the transcript as by the history that it shows.
use Rattle.std.proofs.Common.{◌≡◌, ◌≢◌, ◌≤◌, ◌<◌, ℕ, zero, suc, ◌+◌, ◌-◌, ◌==◌, Bool, true, false, if◌then◌else◌, List, [], ◌∷◌, ◌++◌, length, refl, sym, ap, ap₂, subst, ◌∙◌, append_assoc, nat_lt, inl, inr, ◌⊎◌, arith}
use Rattle.std.proofs.lemmas.Bool.{eqb-true, eqb-false, ltb-true, ltb-false, lt-ltb, le-ltb, cases_lt}
use Rattle.std.specs.Prelude.{Option, Some, None, slice_get}
use Rattle.std.specs.Option.{option_map}
use Rattle.std.specs.List.{flat_map, AllByRecursion}
use Rattle.air_frames.specs.declared.frame.Departure.{Departure}
use Rattle.air_frames.specs.declared.ages.Refusal.{Refusal}
use Rattle.air_frames.specs.declared.ages.Refusal.TheVariants.{Forgotten}
use Rattle.air_frames.specs.Ages.{stale_by}
use Rattle.air_frames.specs.History.{Mark, Goes, Begins, goes_in, begins_in, news_after, through, since, departure_at, Later, NewNonces, stale_in, refusal_in}
use Rattle.air_frames.proofs.Logs.{begins_in-append, news_after-append, through-since, never_sent}
use Rattle.zw_text.specs.declared.entry.Entry.{Entry}
use Rattle.zw_text.specs.declared.entry.Entry.TheVariants as entry
use Rattle.zw_text.specs.Transcript.{AirFrame, frames, session_numbers}
use Rattle.law_wire.specs.law_transcript.Lists.{EachAfter, listed}
use Rattle.law_wire.specs.law_transcript.Nodes.{controller}
use Rattle.law_wire.specs.law_transcript.Fates.{MayAir}
use Rattle.law_wire.specs.law_transcript.Sessions.{MayBegin}
use Rattle.law_wire.specs.law_transcript.Repeats.{node_of, frame_of, up_to_frame, later_sessions, new_nonces, later_nonces, too_old, refused_repeat, repeat_entry, refusal_to_repeat}
use Rattle.proof_air.specs.Logs.{log_of, IsApart}
use Rattle.proof_air.specs.Hearing.{IsFresh, MayHear, MayRepeat}
use Rattle.proof_air.proofs.Counting.{departure, HasEnd, frames_sent, frame_sent, at_its_place, frame_is_aired, log_up_to, up_to_prefix, each-left, sessions_begun, nonces_new}

-- ---- ages

module _ (past : List Entry) (airs : EachAfter MayAir [] past) (begins : EachAfter MayBegin [] past) (at : ℕ) (within : at < goes_in (log_of past)) where
  abbrev before : List Entry
  before = up_to_frame (at + 1) past

  up_to : log_of before ≡ through (log_of past) at
  up_to = log_up_to past at airs within

  is_prefix : (rest : List Entry) × (past ≡ before ++ rest)
  is_prefix = up_to_prefix (at + 1) past

  begins_before : EachAfter MayBegin [] before
  begins_before = each-left MayBegin [] before is_prefix.0 (subst (EachAfter MayBegin []) is_prefix.1 begins)

  airs_before : EachAfter MayAir [] before
  airs_before = each-left MayAir [] before is_prefix.0 (subst (EachAfter MayAir []) is_prefix.1 airs)

  sessions_later : (node : ℕ) → length (session_numbers node past) - length (session_numbers node before) ≡ Later (log_of past) node at
  sessions_later node =
      let log : List Mark = log_of past in
      let all = sessions_begun past node begins in
      let some : begins_in node (through log at) ≡ length (session_numbers node before) = ap (begins_in node) (sym up_to) ∙ sessions_begun before node begins_before in
      let parts : begins_in node log ≡ begins_in node (through log at) + begins_in node (since log at) = ap (begins_in node) (sym (through-since log at)) ∙ begins_in-append node (through log at) (since log at) in
      omega (arith, all, some, parts)

  nonces_later : (node : ℕ) → node ≢ controller → new_nonces node past - new_nonces node before ≡ NewNonces (log_of past) node at
  nonces_later node apart =
      let log : List Mark = log_of past in
      let all = nonces_new node apart past airs in
      let some : news_after node [] (through log at) ≡ new_nonces node before = ap (news_after node []) (sym up_to) ∙ nonces_new node apart before airs_before in
      let parts : news_after node [] log ≡ news_after node [] (through log at) + news_after node (through log at) (since log at) =
      ap (news_after node []) (sym (through-since log at)) ∙ news_after-append node [] (through log at) (since log at) in
      omega (arith, all, some, parts)

-- ---- the frame

-- the node of a frame of which the controller is one end, and not both
node_by : (s r : ℕ) (bs br : Bool) → (s == controller) ≡ bs → (r == controller) ≡ br → (s ≡ controller) ⊎ (r ≡ controller) → ((if br then s else r) ≢ controller)
    → (if br then s else r) ≡ (if bs then r else s)
node_by s r true true own other ends apart = absurd (apart (eqb-true s controller own))
node_by s r true false own other ends apart = refl
node_by s r false true own other ends apart = refl
node_by s r false false own other (inl is) apart = absurd (eqb-false s controller own is)
node_by s r false false own other (inr is) apart = absurd (eqb-false r controller other is)

node_same : (frame : AirFrame) → HasEnd frame → (departure frame).node ≢ controller → (departure frame).node ≡ node_of frame
node_same frame ends apart = node_by frame.sender frame.receiver (frame.sender == controller) (frame.receiver == controller) refl refl ends apart

pub apart_at : (log : List Mark) (at : ℕ) (one : Departure) → AllByRecursion IsApart log → departure_at log at ≡ Some one → one.node ≢ controller
apart_at [] at one apart is = absurd cc
apart_at (Goes first ∷ log) zero one apart is = let same : first ≡ one = cc in subst (λ (d : Departure). d.node ≢ controller) same apart.0
apart_at (Goes first ∷ log) (suc at) one apart is = apart_at log at one apart.1 is
apart_at (Begins node ∷ log) at one apart is = apart_at log at one apart.1 is

sent_within : (log : List Mark) (at : ℕ) (one : Departure) → departure_at log at ≡ Some one → at < goes_in log
sent_within log at one is = by (cases_lt at (goes_in log))
  where
    by : (at < goes_in log) ⊎ (goes_in log ≤ at) → at < goes_in log
    by (inl within) = within
    by (inr out) = let none : None ≡ Some one = sym (never_sent log at out) ∙ is in absurd cc

-- ---- why a frame is refused

module _ (past : List Entry) (airs : EachAfter MayAir [] past) (begins : EachAfter MayBegin [] past) (at : ℕ) (apart : AllByRecursion IsApart (log_of past)) where
  -- a frame is too old by the transcript as it is by the history
  same_age : (frame : AirFrame) → slice_get (frames past) at ≡ Some frame → departure_at (log_of past) at ≡ Some (departure frame) → too_old past frame ≡ stale_in (log_of past) at (Some (departure frame))
  same_age frame is sent =
      let aired = frame_is_aired past at frame airs is in
      let within : at < goes_in (log_of past) = sent_within (log_of past) at (departure frame) sent in
      let other : (departure frame).node ≢ controller = apart_at (log_of past) at (departure frame) apart sent in
      let node : (departure frame).node ≡ node_of frame = node_same frame aired.1 other in
      let number : frame.number ≡ at + 1 = aired.0 in
      let count = frames_sent past in
      let sessions : later_sessions past frame ≡ Later (log_of past) (departure frame).node at =
      ap₂ (λ (n k : ℕ). length (session_numbers n past) - length (session_numbers n (up_to_frame k past))) (sym node) number ∙ sessions_later past airs begins at within (departure frame).node in
      let nonces : later_nonces past frame ≡ NewNonces (log_of past) (departure frame).node at =
      ap₂ (λ (n k : ℕ). new_nonces n past - new_nonces n (up_to_frame k past)) (sym node) number ∙ nonces_later past airs begins at within (departure frame).node other in
      ap (λ (b : Bool). if b then Some Forgotten else stale_by frame.payload (later_sessions past frame) (later_nonces past frame)) (same_test frame number count within)
      ∙ ap₂ (λ (later news : ℕ). if nat_lt (at + 4097) (goes_in (log_of past)) then Some Forgotten else stale_by frame.payload later news) sessions nonces
    where
      same_test : (frame : AirFrame) → frame.number ≡ at + 1 → goes_in (log_of past) ≡ length (frames past) → at < goes_in (log_of past)
          → nat_lt 4096 (length (frames past) - frame.number) ≡ nat_lt (at + 4097) (goes_in (log_of past))
      same_test frame number count within = by (nat_lt (at + 4097) (goes_in (log_of past))) refl
        where
          by : (b : Bool) → nat_lt (at + 4097) (goes_in (log_of past)) ≡ b → nat_lt 4096 (length (frames past) - frame.number) ≡ b
          by true many = let more = ltb-true (at + 4097) (goes_in (log_of past)) many in let far : 4096 < length (frames past) - frame.number = omega (arith, more, count, number) in lt-ltb 4096 _ far
          by false few = let less = ltb-false (at + 4097) (goes_in (log_of past)) few in let near : length (frames past) - frame.number ≤ 4096 = omega (arith, less, count, number) in le-ltb 4096 _ near

  same_found : (found : Option AirFrame) → slice_get (frames past) at ≡ found → refused_repeat past found ≡ stale_in (log_of past) at (option_map departure found)
  same_found None is = refl
  same_found (Some frame) is = same_age frame is (frame_sent past at ∙ ap (option_map departure) is)

  at_number : refused_repeat past (frame_of past (suc at)) ≡ refusal_in (log_of past) (suc at)
  at_number =
      ap (refused_repeat past) (at_its_place past at)
      ∙ (same_found (slice_get (frames past) at) refl ∙ ap (λ (found : Option Departure). stale_in (log_of past) at found) (sym (frame_sent past at)))

-- where sessions and frames are numbered in order
pub same_reason : (past : List Entry) (number : ℕ) → EachAfter MayAir [] past → EachAfter MayBegin [] past → AllByRecursion IsApart (log_of past)
    → refused_repeat past (frame_of past number) ≡ refusal_in (log_of past) number
same_reason past zero airs begins apart = refl
same_reason past (suc at) airs begins apart = at_number past airs begins at apart

pub fresh_stands : (past : List Entry) (number : ℕ) → EachAfter MayAir [] past → EachAfter MayBegin [] past → IsFresh past number → refusal_to_repeat past number ≡ []
fresh_stands past number airs begins is =
    ap (λ (refused : Option Refusal). flat_map repeat_entry (listed refused)) (same_reason past number airs begins is.apart ∙ is.fresh)

may_repeat : (past : List Entry) (e : Entry) → EachAfter MayAir [] past → EachAfter MayBegin [] past → MayHear past e → MayRepeat past e
may_repeat past (entry.Heard frame) airs begins hears = λ number is. fresh_stands past number airs begins (hears number is)
may_repeat past e airs begins hears = tt

pub repeats_fresh : (past rest : List Entry) → EachAfter MayAir [] (past ++ rest) → EachAfter MayBegin [] (past ++ rest) → EachAfter MayHear past rest → EachAfter MayRepeat past rest
repeats_fresh past [] airs begins hears = tt
repeats_fresh past (e ∷ rest) airs begins hears = (
  may_repeat past e (each-left MayAir [] past (e ∷ rest) airs) (each-left MayBegin [] past (e ∷ rest) begins) hears.0,
  repeats_fresh (past ++ e ∷ []) rest (subst (EachAfter MayAir []) (sym (append_assoc past (e ∷ []) rest)) airs) (subst (EachAfter MayBegin []) (sym (append_assoc past (e ∷ []) rest)) begins) hears.1,
)
