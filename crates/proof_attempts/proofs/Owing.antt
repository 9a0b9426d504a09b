-- What is entered that lets no node fall asleep is allowed where no sleep is owed, and leaves none owed.
use Rattle.std.proofs.Common.{◌≡◌, ℕ, ◌&&◌, ◌||◌, not, Bool, true, false, List, [], ◌∷◌, ◌++◌, refl, sym, ap, ◌∙◌, subst, append-nil, append_assoc}
use Rattle.std.specs.List.{AllByRecursion, flat_map, list_any}
use Rattle.std.proofs.lemmas.Bool.{and_from, and_left, both_ways, or_right, or_from}
use Rattle.zw_base.proofs.Each.{all-weaker}
use Rattle.zw_words.specs.declared.side.Side.TheVariants.{Host}
use Rattle.zw_text.specs.declared.entry.Ended.TheVariants as ended
use Rattle.zw_text.specs.declared.entry.Entry.{Entry}
use Rattle.zw_text.specs.declared.entry.Entry.TheVariants as entry
use Rattle.zw_text.specs.Transcript.{shown}
use Rattle.proof_work.specs.law_transcript.Lists.{EachAfter}
use Rattle.proof_work.specs.law_transcript.Stores.{node_at}
use Rattle.proof_work.specs.law_time.Ends.{is_ended_by_frame}
use Rattle.proof_work.specs.law_time.Judged.{directly_step, is_data, is_directly_after, is_mark}
use Rattle.proof_work.specs.law_time.Moments.{Allows, now_at}
use Rattle.proof_work.specs.law_time.Requests.{asked, is_copy}
use Rattle.proof_work.specs.law_time.Waking.{given_up_at, is_awake_sleeper, is_given_up_on, is_still_awake, may_sleep, moves_on, nodes_told, owes_no_sleep, owes_sleep, owes_sleep_to_given_up, owes_sleep_to_told}
use Rattle.proof_requests.specs.proof_alone.Steps.{IsOfUnit}
use Rattle.proof_requests.proofs.Untold.{directly_one}
use Rattle.proof_attempts.specs.Asleep.{OwesNone}
use Rattle.proof_attempts.proofs.Opening.{last_is}

abbrev pub Law : List Entry → Entry → Type 0
Law = Allows may_sleep

-- ---- one entry

-- no node falls asleep by it, and no command goes unanswered; no line, tick or request begins
abbrev pub IsCalm : Entry → Type 0
IsCalm (entry.Asleep node) = ⊥
IsCalm (entry.Out command ended.Unanswered) = ⊥
IsCalm (entry.Said words) = ⊥
IsCalm (entry.Time tick) = ⊥
IsCalm (entry.Written Host unit) = is_data unit ≡ false
IsCalm e = Unit {0}

still_moves : (past : List Entry) (e : Entry) → IsCalm e → moves_on past e ≡ false
still_moves past (entry.Said words) calm = absurd calm
still_moves past (entry.Time tick) calm = absurd calm
still_moves past (entry.Written Host unit) calm = and_left (is_data unit) (not (is_copy (asked past) unit)) calm
still_moves past e calm = refl

-- it stands where no sleep is owed, and none is where it goes on
pub may_stand : (past : List Entry) (e : Entry) → owes_sleep past ≡ false → (moves_on past e && is_still_awake past (now_at past e)) ≡ false → (is_mark e || owes_no_sleep past e) ≡ true
may_stand past e owes still =
    or_right (is_mark e) (owes_no_sleep past e)
    (and_from (not (owes_sleep past)) (not (moves_on past e && is_still_awake past (now_at past e))) (ap not owes) (ap not still))

pub calm_may : (past : List Entry) (e : Entry) → IsCalm e → owes_sleep past ≡ false → Law past e
calm_may past (entry.Asleep node) calm owes = absurd calm
calm_may past e calm owes = may_stand past e owes (and_left (moves_on past e) (is_still_awake past (now_at past e)) (still_moves past e calm))

calm_given : (e : Entry) → IsCalm e → given_up_at e ≡ []
calm_given (entry.Out command ended.Unanswered) calm = absurd calm
calm_given e calm = refl

mark_may : (past : List Entry) (e : Entry) → IsOfUnit e → Law past e
mark_may past (entry.Dropped Host) mark = refl
mark_may past (entry.Garbled Host unit) mark = refl
mark_may past (entry.Overrun Host) mark = refl
mark_may past e mark = absurd mark

pub marks_may : (past marks : List Entry) → AllByRecursion IsOfUnit marks → EachAfter Law past marks
marks_may past [] all = tt
marks_may past (e ∷ marks) all = (mark_may past e all.0, marks_may (past ++ e ∷ []) marks all.1)

-- ---- where no sleep is owed

-- nothing was judged directly before, and no command has just gone unanswered
abbrev pub Rested : List Entry → Type 0
Rested past = (is_directly_after past ≡ false) × (owes_sleep_to_given_up past ≡ false)

pub owes_by : (past : List Entry) → owes_sleep_to_told past ≡ false → owes_sleep_to_given_up past ≡ false → owes_sleep past ≡ false
owes_by past told given = or_from (owes_sleep_to_told past) (owes_sleep_to_given_up past) told given

pub untold : (past : List Entry) → is_directly_after past ≡ false → owes_sleep_to_told past ≡ false
untold past none =
    and_left (is_directly_after past && is_ended_by_frame past) (list_any (λ node. is_awake_sleeper node past) (nodes_told (asked past).frame))
    (and_left (is_directly_after past) (is_ended_by_frame past) none)

pub rested_owes : (past : List Entry) → Rested past → owes_sleep past ≡ false
rested_owes past rested = owes_by past (untold past rested.0) rested.1

pub rested_none : (past : List Entry) → Rested past → OwesNone past
rested_none past rested = (λ directly. absurd (both_ways (is_directly_after past) rested.0 directly), rested.1)

pub given_none : (past : List Entry) (e : Entry) → given_up_at e ≡ [] → owes_sleep_to_given_up (past ++ e ∷ []) ≡ false
given_none past e none =
    let later : List Entry = past ++ e ∷ [] in
    let owed : List ℕ → Bool = λ commands. list_any (λ node. is_given_up_on node later && is_awake_sleeper node later) (flat_map (λ command. shown (node_at command) later) commands) in
    ap (λ (l : List Entry). owed (flat_map given_up_at l)) (last_is past e) ∙ ap (λ (l : List ℕ). owed (l ++ [])) none

-- what stands after it is not directly after an acknowledgement; nor is it where what stands before is not
abbrev pub IsPlain : Entry → Type 0
IsPlain e = IsCalm e × ((b : Bool) → directly_step b e ≡ false)

abbrev pub IsStill : Entry → Type 0
IsStill e = IsCalm e × (directly_step false e ≡ false)

pub plain_still : (e : Entry) → IsPlain e → IsStill e
plain_still e plain = (plain.0, plain.1 false)

pub mark_still : (e : Entry) → IsOfUnit e → IsStill e
mark_still (entry.Dropped Host) mark = (tt, refl)
mark_still (entry.Garbled Host unit) mark = (tt, refl)
mark_still (entry.Overrun Host) mark = (tt, refl)
mark_still e mark = absurd mark

pub one_rested : (past : List Entry) (e : Entry) → ((b : Bool) → directly_step b e ≡ false) → given_up_at e ≡ [] → Rested (past ++ e ∷ [])
one_rested past e breaks none = (directly_one past e ∙ breaks (is_directly_after past), given_none past e none)

pub still_go : (past told : List Entry) → AllByRecursion IsStill told → Rested past → EachAfter Law past told × Rested (past ++ told)
still_go past [] all rested = (tt, subst Rested (sym (append-nil past)) rested)
still_go past (e ∷ told) all rested =
    let next : Rested (past ++ e ∷ []) = (directly_one past e ∙ ap (λ (b : Bool). directly_step b e) rested.0 ∙ all.0.1, given_none past e (calm_given e all.0.0)) in
    let rest = still_go (past ++ e ∷ []) told all.1 next in
    ((calm_may past e all.0.0 (rested_owes past rested), rest.0), subst Rested (append_assoc past (e ∷ []) told) rest.1)

abbrev pub Goes : List Entry → List Entry → Type 0
Goes past told = EachAfter Law past told × OwesNone (past ++ told)

-- after one entry, which may stand
pub first_go : (past : List Entry) (e : Entry) (told : List Entry) → Law past e → Rested (past ++ e ∷ []) → AllByRecursion IsStill told → Goes past (e ∷ told)
first_go past e told law rested all =
    let rest = still_go (past ++ e ∷ []) told all rested in
    ((law, rest.0), subst OwesNone (append_assoc past (e ∷ []) told) (rested_none ((past ++ e ∷ []) ++ told) rest.1))

pub nothing_go : (past told : List Entry) → told ≡ [] → OwesNone past → Goes past told
nothing_go past told is none = subst (Goes past) (sym is) (tt, subst OwesNone (sym (append-nil past)) none)

abbrev pub ArePlain : List Entry → Type 0
ArePlain told = AllByRecursion IsPlain told

pub plain_go : (past told : List Entry) → ArePlain told → owes_sleep past ≡ false → OwesNone past → Goes past told
plain_go past [] all owes none = nothing_go past [] refl none
plain_go past (e ∷ told) all owes none =
    first_go past e told (calm_may past e all.0.0 owes) (one_rested past e all.0.1 (calm_given e all.0.0)) (all-weaker IsPlain IsStill plain_still told all.1)
