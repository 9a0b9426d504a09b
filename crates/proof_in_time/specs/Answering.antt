-- What a device answers to the message of a session, and what it comes to (this project's own kinds; Supervision Report is that of the Z-Wave
-- Transport-Encapsulation Command Class Specification).
use Rattle.std.specs.Prelude.{◌≡◌, ◌≢◌, ◌⊎◌, ℕ, ◌+◌, ◌≤◌, true, List, [], ◌∷◌, length, Some}
use Rattle.supervision.specs.declared.session.TheConstants.{WORKING}
use Rattle.encap.specs.declared.plan.Plan.{Plan}
use Rattle.device_stack.specs.Effects.{work_ticks}
use Rattle.device_sim.specs.State.{State}
use Rattle.proof_messages.specs.Reporting.{TellsOwn}
use Rattle.proof_messages.specs.Slices.{AnswersAgain, TakesSlice}

-- the last session that it took is over
pub record IsDone (device : State) : Type 0 where
  pub over : device.sessions.status ≢ WORKING
  pub no_work : device.work_left ≡ 0

-- it is at work on that, for a few ticks, and is to tell the end
pub record IsAtWork (device : State) : Type 0 where
  pub working : device.sessions.status ≡ WORKING
  pub some : 1 ≤ device.work_left
  pub few : device.work_left ≤ work_ticks
  pub plan : Plan
  pub told : device.work.answer ≡ Some plan

abbrev pub IsDoneOrAtWork : State → Type 0
IsDoneOrAtWork device = IsDone device ⊎ IsAtWork device

-- a session is the next one of a device that is at no work, or the last that it took
pub data IsInStep (session : ℕ) (device : State) : Type 0 where
  Next : session ≡ device.sessions.taken + 1 → IsDone device → IsInStep session device
  Last : session ≡ device.sessions.taken → 1 ≤ session → IsDoneOrAtWork device → IsInStep session device

-- it is awake, and has heard something since its last tick
pub record IsAwakeNow (device : State) : Type 0 where
  pub awake : device.awake ≡ true
  pub now : device.active_at ≡ device.clock

-- it has taken that session by now, and sends one payload, which tells what it keeps of that; and it is awake
pub record AnswersSession (session : ℕ) (new : State) (replies : List (List ℕ)) : Type 0 where
  pub taken : new.sessions.taken ≡ session
  pub payload : List ℕ
  pub says : replies ≡ payload ∷ []
  pub tells : TellsOwn new payload
  pub some : 1 ≤ length payload
  pub few : length payload ≤ 46
  pub comes_to : IsDoneOrAtWork new
  pub up : IsAwakeNow new

-- what it makes of the segment of a place of a session's message: of its next session it keeps the slice, or asks for another, or hears the message and answers it;
-- of its last session it is left as it was, and tells the status again at the last segment
pub data AnswersPart (session place : ℕ) (message segment : List ℕ) (old new : State) (replies : List (List ℕ)) : Type 0 where
  Of_next : (heard : State) (answers : List (List ℕ)) → session ≡ old.sessions.taken + 1 → TakesSlice message session place old heard new answers replies → AnswersSession session heard answers
      → AnswersPart session place message segment old new replies
  Of_last : session ≡ old.sessions.taken → AnswersAgain session segment old new replies → AnswersPart session place message segment old new replies

-- it is still at the work on its last session, for as long
pub record IsStill (old new : State) : Type 0 where
  pub sessions : new.sessions ≡ old.sessions
  pub work_left : new.work_left ≡ old.work_left

-- a tick of its work, which goes on silently, or ends and is told; no session is taken
pub data WorksOn (old new : State) (replies : List (List ℕ)) : Type 0 where
  Goes_on : replies ≡ [] → IsAtWork new → new.sessions.taken ≡ old.sessions.taken → new.work_left + 1 ≡ old.work_left → WorksOn old new replies
  Ends : (payload : List ℕ) → replies ≡ payload ∷ [] → TellsOwn new payload → 1 ≤ length payload → length payload ≤ 46 → IsDone new → new.sessions.taken ≡ old.sessions.taken → old.work_left ≡ 1 → WorksOn old new replies

-- nothing happens to it
pub record StaysDone (old new : State) (replies : List (List ℕ)) : Type 0 where
  pub silent : replies ≡ []
  pub sessions : new.sessions ≡ old.sessions
  pub is_done : IsDone new
