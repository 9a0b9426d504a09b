-- How what the laws of links look at grows with one moment.
use Rattle.std.proofs.Common.{◌≡◌, ℕ, zero, suc, Bool, true, false, if◌then◌else◌, List, [], ◌∷◌, ◌++◌, length, map, refl, sym, ap, ◌∙◌, subst, append-nil, arith}
use Rattle.std.specs.List.{AllByRecursion}
use Rattle.std.proofs.lemmas.List.{map-append}
use Rattle.std.proofs.lemmas.Grind.{flat_map-append}
use Rattle.serial_link.specs.Rules.{Step}
use Rattle.zw_words.specs.declared.side.Side.{Side}
use Rattle.law_wire.specs.law_transcript.Lists.{last_or}
use Rattle.law_wire.specs.law_transcript.Restarts.{is_restart}
use Rattle.law_wire.specs.Serial.{SerialEvent}
use Rattle.law_wire.specs.Links.{Moment, Round, Obeys, arrival_of, arrivals_of, between_restarts, joined, line_in, moments_of, round_from, round_of, round_step, since_start, steps_in}

-- ---- lives

-- after a moment that restarts the host a new life begins
abbrev pub life_after : Bool → List Moment → List Moment
life_after true life = []
life_after false life = life

abbrev pub restarts_at : Moment → Bool
restarts_at one = is_restart (line_in one.event)

last_life : (before life past : List Moment) → last_or before (between_restarts life past) ≡ last_or [] (between_restarts life past)
last_life before life [] = refl
last_life before life (one ∷ past) = by (restarts_at one) (last_life before (life ++ one ∷ []) past)
  where
    by : (b : Bool) → last_or before (between_restarts (life ++ one ∷ []) past) ≡ last_or [] (between_restarts (life ++ one ∷ []) past)
        → last_or before (if b then (life ++ one ∷ []) ∷ between_restarts [] past else between_restarts (life ++ one ∷ []) past)
        ≡ last_or [] (if b then (life ++ one ∷ []) ∷ between_restarts [] past else between_restarts (life ++ one ∷ []) past)
    by true on = refl
    by false on = on

life_one : (life past : List Moment) (one : Moment)
    → last_or [] (between_restarts life (past ++ one ∷ [])) ≡ life_after (restarts_at one) (last_or [] (between_restarts life past) ++ one ∷ [])
life_one life [] one = by (restarts_at one)
  where
    by : (b : Bool) → last_or [] (if b then (life ++ one ∷ []) ∷ [] ∷ [] else (life ++ one ∷ []) ∷ []) ≡ life_after b (life ++ one ∷ [])
    by true = refl
    by false = refl
life_one life (first ∷ past) one = by (restarts_at first) (life_one [] past one) (life_one (life ++ first ∷ []) past one)
  where
    by : (b : Bool) → last_or [] (between_restarts [] (past ++ one ∷ [])) ≡ life_after (restarts_at one) (last_or [] (between_restarts [] past) ++ one ∷ [])
        → last_or [] (between_restarts (life ++ first ∷ []) (past ++ one ∷ [])) ≡ life_after (restarts_at one) (last_or [] (between_restarts (life ++ first ∷ []) past) ++ one ∷ [])
        → last_or [] (if b then (life ++ first ∷ []) ∷ between_restarts [] (past ++ one ∷ []) else between_restarts (life ++ first ∷ []) (past ++ one ∷ []))
        ≡ life_after (restarts_at one) (last_or [] (if b then (life ++ first ∷ []) ∷ between_restarts [] past else between_restarts (life ++ first ∷ []) past) ++ one ∷ [])
    by true again on =
        last_life (life ++ first ∷ []) [] (past ++ one ∷ []) ∙ again
        ∙ ap (λ (l : List Moment). life_after (restarts_at one) (l ++ one ∷ [])) (sym (last_life (life ++ first ∷ []) [] past))
    by false again on = on

pub start_one : (past : List Moment) (one : Moment) → since_start (past ++ one ∷ []) ≡ life_after (restarts_at one) (since_start past ++ one ∷ [])
start_one past one = life_one [] past one

-- each life obeyed
lives_one : (life past : List Moment) (one : Moment) → Obeys [] → AllByRecursion Obeys (between_restarts life past)
    → Obeys (last_or [] (between_restarts life past) ++ one ∷ []) → AllByRecursion Obeys (between_restarts life (past ++ one ∷ []))
lives_one life [] one empty all now = by (restarts_at one)
  where
    by : (b : Bool) → AllByRecursion Obeys (if b then (life ++ one ∷ []) ∷ [] ∷ [] else (life ++ one ∷ []) ∷ [])
    by true = (now, (empty, tt))
    by false = (now, tt)
lives_one life (first ∷ past) one empty all now = by (restarts_at first) (lives_one [] past one empty) (lives_one (life ++ first ∷ []) past one empty) all now
  where
    by : (b : Bool)
        → (AllByRecursion Obeys (between_restarts [] past) → Obeys (last_or [] (between_restarts [] past) ++ one ∷ []) → AllByRecursion Obeys (between_restarts [] (past ++ one ∷ [])))
        → (AllByRecursion Obeys (between_restarts (life ++ first ∷ []) past) → Obeys (last_or [] (between_restarts (life ++ first ∷ []) past) ++ one ∷ [])
        → AllByRecursion Obeys (between_restarts (life ++ first ∷ []) (past ++ one ∷ [])))
        → AllByRecursion Obeys (if b then (life ++ first ∷ []) ∷ between_restarts [] past else between_restarts (life ++ first ∷ []) past)
        → Obeys (last_or [] (if b then (life ++ first ∷ []) ∷ between_restarts [] past else between_restarts (life ++ first ∷ []) past) ++ one ∷ [])
        → AllByRecursion Obeys (if b then (life ++ first ∷ []) ∷ between_restarts [] (past ++ one ∷ []) else between_restarts (life ++ first ∷ []) (past ++ one ∷ []))
    by true again on before here = (before.0, again before.1 (subst (λ (l : List Moment). Obeys (l ++ one ∷ [])) (last_life (life ++ first ∷ []) [] past) here))
    by false again on before here = on before here

pub all_lives : (past : List Moment) (one : Moment) → Obeys [] → AllByRecursion Obeys (between_restarts [] past) → Obeys (since_start past ++ one ∷ [])
    → AllByRecursion Obeys (between_restarts [] (past ++ one ∷ []))
all_lives past one empty all now = lives_one [] past one empty all now

-- ---- rounds, steps and arrivals

round_on : (round : Round) (past : List Moment) (one : Moment) → round_from round (past ++ one ∷ []) ≡ round_step (round_from round past) one one.event
round_on round [] one = refl
round_on round (first ∷ past) one = round_on (round_step round first first.event) past one

pub round_one : (past : List Moment) (one : Moment) → round_of (past ++ one ∷ []) ≡ round_step (round_of past) one one.event
round_one past one = round_on (record { is_tick = false; moments = [] }) past one

pub steps_one : (past : List Moment) (one : Moment) → steps_in (past ++ one ∷ []) ≡ steps_in past ++ one.steps
steps_one past one =
    ap joined (map-append (λ (m : Moment). m.steps) past (one ∷ [])) ∙ flat_map-append (λ (part : List Step). part) (map (λ (m : Moment). m.steps) past) (one.steps ∷ [])
    ∙ ap (λ (l : List Step). steps_in past ++ l) (append-nil one.steps)

pub arrivals_one : (side : Side) (past : List Moment) (one : Moment) → arrivals_of side (past ++ one ∷ []) ≡ arrivals_of side past ++ arrival_of side one.event
arrivals_one side past one =
    flat_map-append (λ (m : Moment). arrival_of side m.event) past (one ∷ []) ∙ ap (λ (l : List (List ℕ)). arrivals_of side past ++ l) (append-nil (arrival_of side one.event))

pub moments_one : (events : List SerialEvent) (parts : List (List Step)) (event : SerialEvent) (part : List Step) → length parts ≡ length events
    → moments_of (events ++ event ∷ []) (parts ++ part ∷ []) ≡ moments_of events parts ++ record { event = event; steps = part } ∷ []
moments_one [] [] event part same = refl
moments_one [] (first ∷ parts) event part same = absurd (let none : suc (length parts) ≡ zero = same in cc)
moments_one (first ∷ events) [] event part same = absurd (let none : zero ≡ suc (length events) = same in cc)
moments_one (first ∷ events) (other ∷ parts) event part same =
    let fewer : suc (length parts) ≡ suc (length events) = same in
    ap (λ (l : List Moment). record { event = first; steps = other } ∷ l) (moments_one events parts event part (omega (arith, fewer)))
