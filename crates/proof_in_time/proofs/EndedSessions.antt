-- The statuses to which a device came: they stay, and a new one is that of the last session it took.
use Rattle.std.proofs.Common.{◌≡◌, ◌≢◌, ℕ, zero, suc, ◌+◌, ◌≤◌, ◌<◌, ◌==◌, nat_le, inl, inr, Bool, true, false, if◌then◌else◌, List, [], ◌∷◌, ◌++◌, length, Option, Some, None, refl, sym, ap, ◌∙◌, subst, append-nil, append_assoc, arith}
use Rattle.std.proofs.lemmas.Bool.Decides.{nat_tests}
use Rattle.std.specs.Prelude.{◌⊎◌, slice_get}
use Rattle.supervision.specs.Host.{command_at}
use Rattle.supervision.specs.declared.session.TheConstants.{WORKING}
use Rattle.device_sim.specs.State.{State}
use Rattle.proof_course.specs.Flying.{Flight}
use Rattle.proof_course.specs.Parts.{numbered}
use Rattle.proof_course.specs.Sessions.{Course, Message, Cargo, Command, Of_host, Answer, Of_node, Step, Begins, Attempts, Writes, Up_loses, Up_doubles, Sends, Flies, Reports, Lands, Repeats, Finishes, Down_loses, Down_doubles, Judges, after, after_all, hears, judges, lands, repeats, sends}
use Rattle.supervision.specs.Ends.{Report}
use Rattle.proof_messages.specs.Ending.{HasEnded, one_at_work}
use Rattle.proof_course_plain.proofs.Devices.{at_rest}
use Rattle.proof_course_plain.specs.Ways.{Goes}
use Rattle.proof_spoken.proofs.CommandsOfSessions.{session_has, session_within}
use Rattle.proof_host.specs.law_transcript.Lists.{Has}

-- ---- they stay

-- the statuses of one course are those of another, and more
abbrev pub EndsMore : Course → Course → Type 0
EndsMore old new = (more : List ℕ) × (new.ends ≡ old.ends ++ more)

no_more : (old new : Course) → new.ends ≡ old.ends → EndsMore old new
no_more old new same = ([], same ∙ sym (append-nil old.ends))

sends_more : (c : Course) (up : List Message) → EndsMore c (sends c up)
sends_more c [] = no_more c c refl
sends_more c (message ∷ up) = no_more c (sends c (message ∷ up)) refl

hears_more : (c : Course) (begun : ℕ) (cargo : Cargo) (is_whole : Bool) → (hears c begun cargo is_whole).ends ≡ c.ends
hears_more c begun (Command message) is_whole = refl
hears_more c begun Of_host is_whole = refl
hears_more c begun (Answer session status) is_whole = refl
hears_more c begun Of_node is_whole = refl

lands_more : (c : Course) (flights : List (Flight Cargo)) (is_heard is_whole : Bool) → EndsMore c (lands c flights is_heard is_whole)
lands_more c [] is_heard is_whole = no_more c c refl
lands_more c (flight ∷ flights) true is_whole =
    no_more c (lands c (flight ∷ flights) true is_whole) (hears_more (record c { air = flights }) flight.since flight.cargo is_whole)
lands_more c (flight ∷ flights) false is_whole = no_more c (lands c (flight ∷ flights) false is_whole) refl

repeats_more : (c : Course) (flight : Option (Flight Cargo)) (is_whole : Bool) → EndsMore c (repeats c flight is_whole)
repeats_more c None is_whole = no_more c c refl
repeats_more c (Some flight) is_whole = no_more c (repeats c (Some flight) is_whole) (hears_more c flight.since flight.cargo is_whole)

judges_more : (c : Course) (reports : List Report) → EndsMore c (judges c reports)
judges_more c [] = no_more c c refl
judges_more c (report ∷ reports) = no_more c (judges c (report ∷ reports)) refl

step_more : (c : Course) (step : Step) → EndsMore c (after c step)
step_more c (Begins command) = no_more c (after c (Begins command)) refl
step_more c (Attempts count) = no_more c (after c (Attempts count)) refl
step_more c (Writes is_segment) = no_more c (after c (Writes is_segment)) refl
step_more c (Up_loses at) = no_more c (after c (Up_loses at)) refl
step_more c (Up_doubles at) = no_more c (after c (Up_doubles at)) refl
step_more c Sends = sends_more c c.up
step_more c (Flies cargo) = no_more c (after c (Flies cargo)) refl
step_more c Reports = no_more c (after c Reports) refl
step_more c (Lands is_heard is_whole) = lands_more c c.air is_heard is_whole
step_more c (Repeats at is_whole) = repeats_more c (slice_get c.old at) is_whole
step_more c (Finishes status) = (status ∷ [], refl)
step_more c (Down_loses at) = no_more c (after c (Down_loses at)) refl
step_more c (Down_doubles at) = no_more c (after c (Down_doubles at)) refl
step_more c Judges = judges_more c c.down

steps_more : (c : Course) (steps : List Step) → EndsMore c (after_all c steps)
steps_more c [] = no_more c c refl
steps_more c (step ∷ steps) =
    let one = step_more c step in
    let rest = steps_more (after c step) steps in
    (one.0 ++ rest.0, rest.1 ∙ (ap (λ (l : List ℕ). l ++ rest.0) one.1 ∙ append_assoc c.ends one.0 rest.0))

pub goes_more : (old new : Course) → Goes old new → EndsMore old new
goes_more old new goes = subst (λ (c : Course). EndsMore old c) (sym goes.is) (steps_more old goes.steps)

-- ---- sessions of lists that go on

-- what stands at a place of the first of two lists
pub within_first : (first rest : List ℕ) (session number : ℕ) → session ≤ length first → command_at (first ++ rest) session ≡ Some number → command_at first session ≡ Some number
within_first first rest zero number few at = absurd cc
within_first [] rest (suc k) number few at = absurd (omega (arith, few))
within_first (x ∷ first) rest (suc zero) number few at = at
within_first (x ∷ first) rest (suc (suc k)) number few at = within_first first rest (suc k) number (omega (arith, few)) at

-- and of the second
pub behind_first : (first rest : List ℕ) (session number : ℕ) → length first < session → command_at (first ++ rest) session ≡ Some number → Has rest number
behind_first [] rest session number less at = session_has rest session number at
behind_first (x ∷ first) rest zero number less at = absurd (omega (arith, less))
behind_first (x ∷ first) rest (suc zero) number less at = absurd (omega (arith, less))
behind_first (x ∷ first) rest (suc (suc k)) number less at = behind_first first rest (suc k) number (omega (arith, less)) at

-- the status of a session by its number
pub numbered_at : (items : List ℕ) (session item : ℕ) → numbered items session ≡ item ∷ [] → command_at items session ≡ Some item
numbered_at items zero item e = absurd (grind (arith, e))
numbered_at [] (suc k) item e = absurd (grind (arith, e))
numbered_at (x ∷ items) (suc zero) item e = let same : x ≡ item = cc in ap Some same
numbered_at (x ∷ items) (suc (suc k)) item e = numbered_at items (suc k) item e

pub same_at : (xs : List ℕ) (session a b : ℕ) → command_at xs session ≡ Some a → command_at xs session ≡ Some b → a ≡ b
same_at xs session a b x y = some_same (sym x ∙ y)
  where
    some_same : Some a ≡ Some b → a ≡ b
    some_same e = cc

-- ---- a device

at_most_one : (left : ℕ) → one_at_work left ≤ 1
at_most_one left = by (left == 0)
  where
    by : (b : Bool) → (if b then 0 else 1) ≤ 1
    by true = omega arith
    by false = omega arith

none_at_work : (left : ℕ) → one_at_work left ≡ 0 → left ≡ 0
none_at_work left none = by (left == 0) refl none
  where
    by : (b : Bool) → (left == 0) ≡ b → ◌≡◌ {A = ℕ} (if b then 0 else 1) 0 → left ≡ 0
    by true e n = grind (arith, nat_tests, e)
    by false e n = absurd (omega (arith, n))

pub few_ended : (device : State) (ends : List ℕ) → HasEnded device ends → (device.sessions.taken ≤ length ends + 1) × (length ends ≤ device.sessions.taken)
few_ended device ends ended = let count = ended.count in let most = at_most_one device.work_left in (omega (arith, count, most), omega (arith, count, most))

-- the status of its last session, where it is at no work
pub last_ended : (device : State) (ends : List ℕ) → HasEnded device ends → device.sessions.status ≢ WORKING → 0 < device.sessions.taken → command_at ends device.sessions.taken ≡ Some device.sessions.status
last_ended device ends ended over some = numbered_at ends device.sessions.taken device.sessions.status (ended.told (at_rest device ends ended over).0 some)

-- a status of a device that took at most one session more: an old one, or that of its last session
pub old_or_last : (device : State) (ends more : List ℕ) (session status : ℕ) → HasEnded device (ends ++ more) → device.sessions.taken ≤ length ends + 1 → command_at (ends ++ more) session ≡ Some status
    → (command_at ends session ≡ Some status) ⊎ ((session ≡ device.sessions.taken) × ((status ≡ device.sessions.status) × (device.sessions.status ≢ WORKING)))
old_or_last device ends more session status ended few at = by (nat_le session (length ends)) refl
  where
    by : (b : Bool) → nat_le session (length ends) ≡ b → (command_at ends session ≡ Some status) ⊎ ((session ≡ device.sessions.taken) × ((status ≡ device.sessions.status) × (device.sessions.status ≢ WORKING)))
    by true e = inl (within_first ends more session status (grind (arith, nat_tests, e)) at)
    by false e =
        let behind : length ends < session = grind (arith, nat_tests, e) in
        let most : session ≤ length (ends ++ more) = (session_within (ends ++ more) session status at).1 in
        let count = ended.count in
        let none : one_at_work device.work_left ≡ 0 = omega (arith, behind, most, count, few) in
        let rests : device.work_left ≡ 0 = none_at_work device.work_left none in
        let last : session ≡ device.sessions.taken = omega (arith, behind, most, count, few) in
        let some : 0 < device.sessions.taken = omega (arith, behind, last) in
        let told : command_at (ends ++ more) device.sessions.taken ≡ Some device.sessions.status = numbered_at (ends ++ more) device.sessions.taken device.sessions.status (ended.told rests some) in
        inr (last, (same_at (ends ++ more) session status device.sessions.status at (subst (λ (k : ℕ). command_at (ends ++ more) k ≡ Some device.sessions.status) (sym last) told), ended.at_rest rests))
