-- What an answer of the chip does to a request by the transcript (this project's own rule): nothing, or it acknowledges its frame, or it ends the fourth copy.
use Rattle.std.specs.Prelude.{◌≡◌, ◌⊎◌, true, [], ◌∷◌}
use Rattle.proof_waking.specs.law_time.Requests.{Answer, Failing}
use Rattle.proof_requests.specs.Standing.{Standing, failing_in, sent_in}

pub record IsSameLine (s later : Standing) : Type 0 where
  pub sent : sent_in later ≡ sent_in s
  pub failing : failing_in later ≡ failing_in s

pub record Acknowledges (s later : Standing) (answer : Answer) : Type 0 where
  pub unsent : sent_in s ≡ []
  pub sent : sent_in later ≡ answer.tick ∷ []
  pub failing : failing_in later ≡ []

-- where the line gives it up by an answer
abbrev pub denied_at : Answer → Failing
denied_at answer = record { tick = answer.tick; at_answer = true; frames = answer.frames }

pub record Denies (s later : Standing) (answer : Answer) : Type 0 where
  pub unsent : sent_in s ≡ []
  pub still_unsent : sent_in later ≡ []
  pub failing : failing_in later ≡ denied_at answer ∷ []

abbrev pub AnswerDoes : Standing → Standing → Answer → Type 0
AnswerDoes s later answer = IsSameLine s later ⊎ (Acknowledges s later answer ⊎ Denies s later answer)
