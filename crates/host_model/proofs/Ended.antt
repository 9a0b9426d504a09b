-- Sessions, one more and one that ends: how each command ended, and which are open.
use Rattle.std.proofs.Common.{◌≡◌, ℕ, ◌==◌, ◌||◌, Bool, true, false, if◌then◌else◌, List, [], ◌∷◌, ◌++◌, Option, Some, None, refl, ap, ◌∙◌}
use Rattle.std.specs.Option.{option_or}
use Rattle.std.proofs.lemmas.Bool.{eq-eqb}
use Rattle.host_keep.specs.Kept.{Session, is_among, ending}
use Rattle.host_keep.specs.declared.final_status.FinalStatus.{FinalStatus}
use Rattle.host_model.specs.Holding.{last_ended, commands_of, ended_in}

-- the session of a command that was begun
abbrev pub opening : ℕ → Session
opening command = record { command = command; ended = None }

-- the command of the last of some sessions
abbrev pub last_command : Session → List Session → ℕ
last_command one [] = one.command
last_command one (next ∷ more) = last_command next more

-- ---- one more

pub commands_of-push : (sessions : List Session) (one : Session) → commands_of (sessions ++ one ∷ []) ≡ commands_of sessions ++ one.command ∷ []
commands_of-push [] one = refl
commands_of-push (first ∷ rest) one = ap (λ (l : List ℕ). first.command ∷ l) (commands_of-push rest one)

pub last_ended-push : (sessions : List Session) (one : Session) → last_ended (sessions ++ one ∷ []) ≡ one.ended
last_ended-push [] one = refl
last_ended-push (first ∷ []) one = refl
last_ended-push (first ∷ next ∷ more) one = last_ended-push (next ∷ more) one

abbrev push_or : Bool → Option (Option FinalStatus) → Option (Option FinalStatus)
push_or same ended = if same then Some None else ended

push_step : (same : Bool) (rest own : Option (Option FinalStatus)) → option_or (push_or same rest) own ≡ push_or same (option_or rest own)
push_step true rest own = refl
push_step false rest own = refl

pub ended_in-push : (sessions : List Session) (command number : ℕ) → ended_in (sessions ++ opening command ∷ []) number ≡ (if command == number then Some None else ended_in sessions number)
ended_in-push [] command number = refl
ended_in-push (first ∷ rest) command number =
    ap (λ (o : Option (Option FinalStatus)). option_or o (if first.command == number then Some first.ended else None)) (ended_in-push rest command number)
    ∙ push_step (command == number) (ended_in rest number) (if first.command == number then Some first.ended else None)

-- ---- the last one ends

pub commands_of-ending : (sessions : List Session) (status : FinalStatus) → commands_of (ending sessions status) ≡ commands_of sessions
commands_of-ending [] status = refl
commands_of-ending (first ∷ []) status = refl
commands_of-ending (first ∷ next ∷ more) status = ap (λ (l : List ℕ). first.command ∷ l) (commands_of-ending (next ∷ more) status)

pub last_ended-ending : (one : Session) (more : List Session) (status : FinalStatus) → last_ended (ending (one ∷ more) status) ≡ Some status
last_ended-ending one [] status = refl
last_ended-ending one (next ∷ []) status = refl
last_ended-ending one (next ∷ other ∷ more) status = last_ended-ending next (other ∷ more) status

abbrev end_or : FinalStatus → Bool → Option (Option FinalStatus) → Option (Option FinalStatus)
end_or status same ended = if same then Some (Some status) else ended

end_step : (status : FinalStatus) (same : Bool) (rest own : Option (Option FinalStatus)) → option_or (end_or status same rest) own ≡ end_or status same (option_or rest own)
end_step status true rest own = refl
end_step status false rest own = refl

end_last : (status : FinalStatus) (ended : Option FinalStatus) (same : Bool) → option_or None (if same then Some (Some status) else None) ≡ end_or status same (option_or None (if same then Some ended else None))
end_last status ended true = refl
end_last status ended false = refl

pub ended_in-ending : (one : Session) (more : List Session) (status : FinalStatus) (number : ℕ)
    → ended_in (ending (one ∷ more) status) number ≡ (if last_command one more == number then Some (Some status) else ended_in (one ∷ more) number)
ended_in-ending one [] status number = end_last status one.ended (one.command == number)
ended_in-ending one (next ∷ more) status number =
    ap (λ (o : Option (Option FinalStatus)). option_or o (if one.command == number then Some one.ended else None)) (ended_in-ending next more status number)
    ∙ end_step status (last_command next more == number) (ended_in (next ∷ more) number) (if one.command == number then Some one.ended else None)

-- ---- commands that have none

pub not_begun : (sessions : List Session) (number : ℕ) → is_among (commands_of sessions) number ≡ false → ended_in sessions number ≡ None
not_begun [] number e = refl
not_begun (first ∷ rest) number e = by (first.command == number) e (not_begun rest number)
  where
    by : (t : Bool) → (t || is_among (commands_of rest) number) ≡ false → (is_among (commands_of rest) number ≡ false → ended_in rest number ≡ None)
        → option_or (ended_in rest number) (if t then Some first.ended else None) ≡ None
    by true f later = cc
    by false f later = ap (λ (o : Option (Option FinalStatus)). option_or o None) (later f)

pub either_among : (t : Bool) (numbers : List ℕ) (number : ℕ) → is_among numbers number ≡ true → (t || is_among numbers number) ≡ true
either_among true numbers number e = refl
either_among false numbers number e = e

pub last_is_among : (one : Session) (more : List Session) → is_among (commands_of (one ∷ more)) (last_command one more) ≡ true
last_is_among one [] = ap (λ (t : Bool). t || false) (eq-eqb one.command one.command refl)
last_is_among one (next ∷ more) = either_among (one.command == last_command next more) (commands_of (next ∷ more)) (last_command next more) (last_is_among next more)
