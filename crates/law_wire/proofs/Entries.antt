-- Of which entries the laws of the chip and of the air ask something: a law holds where these have what it asks.
use Rattle.std.proofs.Common.{◌≡◌, ℕ, suc, ◌||◌, Bool, true, false, List, [], ◌∷◌, ◌++◌, length, refl, sym, ap, subst, ◌∙◌, arith}
use Rattle.std.specs.Prelude.{⊤, zero, ◌+◌, ◌≤◌, nat_le, if◌then◌else◌}
use Rattle.std.proofs.lemmas.Bool.{leb-true}
use Rattle.std.proofs.lemmas.List.{append-nil, append_assoc, length-append}
use Rattle.law_transcript.specs.device_stack.State.{State}
use Rattle.zw_words.specs.declared.side.Side.TheVariants.{Chip}
use Rattle.zw_text.specs.declared.line.Line.{Line}
use Rattle.zw_text.specs.declared.line.Line.TheVariants as lines
use Rattle.zw_text.specs.declared.entry.Entry.{Entry}
use Rattle.zw_text.specs.declared.entry.Entry.TheVariants.{Said, Air, Heard, Lost, Unheard, Time, Written, Dropped, Garbled, Forget, ChipFull}
use Rattle.zw_text.specs.Transcript.{line_last}
use Rattle.law_wire.specs.Routes.{MayGo, GoesByRoute}
use Rattle.law_wire.specs.Arriving.{Hop, MayMeet, MeetsWhatIsDue, FollowsRepeat, RepeatsWhatIsAsked, IsForgotten, forgets, ForgetsDeadHops}
use Rattle.serial_link.specs.Rules.{Step}
use Rattle.law_wire.specs.Links.{joined}
use Rattle.law_wire.specs.Asked.{Course, course_of, is_ack}
use Rattle.law_wire.specs.Taking.{goes_on, to_air, IsPassedOver, MayAir, AirsWhatIsTaken}
use Rattle.law_wire.specs.Given.{Given, IsOf, given_at, given}
use Rattle.law_wire.specs.Answering.{begins_next, begun_at, begun, dropped_at, dropped, without, waiting, AreOf, IsNext, MayAnswer, AnswersInOrder, is_judged, AreFew, MayWait, DropsWhenFull, MayStay, WaitsWhileBusy}
use Rattle.law_wire.specs.Marks.{IsMarked, to_stand, MarksUnits, AnswersBy, is_can, MayCollide, CollidesWhenAsked}
use Rattle.law_transcript.specs.Lists.{EachAfter, shown_after}
use Rattle.law_transcript.proofs.Entries.{Asked, AllAsked, Quiet, each, has_some, is_air, none_of}

-- ---- frames

quiet_routes : (devices : List State) → Quiet is_air (MayGo devices)
quiet_routes devices past (Air frame sender receiver repeaters payload) is = cc
quiet_routes devices past _ is = tt

pub goes_by_route : (devices : List State) (transcript : List Entry) → AllAsked is_air (MayGo devices) [] transcript → GoesByRoute devices transcript
goes_by_route devices = each is_air (MayGo devices) (quiet_routes devices) []

abbrev pub is_fate : List Entry → Entry → Bool
is_fate past (Heard frame) = true
is_fate past (Lost frame) = true
is_fate past (Unheard frame) = true
is_fate past _ = false

quiet_fates : (devices : List State) → Quiet is_fate (MayMeet devices)
quiet_fates devices past (Heard frame) is = cc
quiet_fates devices past (Lost frame) is = cc
quiet_fates devices past (Unheard frame) is = cc
quiet_fates devices past _ is = tt

pub meets_what_is_due : (devices : List State) (transcript : List Entry) → AllAsked is_fate (MayMeet devices) [] transcript → MeetsWhatIsDue devices transcript
meets_what_is_due devices = each is_fate (MayMeet devices) (quiet_fates devices) []

-- what stands after a line that repeats a frame
abbrev pub is_repeat : List Line → Bool
is_repeat (lines.Repeat number ∷ more) = true
is_repeat _ = false

abbrev pub is_after_repeat : List Entry → Entry → Bool
is_after_repeat past entry = is_repeat (line_last past)

quiet_repeats : (devices : List State) (past : List Entry) (said : List Line) (entry : Entry) → is_repeat said ≡ false → FollowsRepeat devices past said entry
quiet_repeats devices past (lines.Repeat number ∷ more) entry is = cc
quiet_repeats devices past _ entry is = tt

pub repeats_what_is_asked : (devices : List State) (transcript : List Entry)
    → AllAsked is_after_repeat (λ past entry. FollowsRepeat devices past (line_last past) entry) [] transcript → RepeatsWhatIsAsked devices transcript
repeats_what_is_asked devices =
    each is_after_repeat (λ past entry. FollowsRepeat devices past (line_last past) entry) (λ past entry is. quiet_repeats devices past (line_last past) entry is) []

-- a hop that is forgotten, or is to be
abbrev pub forgets_entry : Entry → Bool
forgets_entry (Forget a b) = true
forgets_entry _ = false

abbrev pub is_forgetting : List Entry → Entry → Bool
is_forgetting past entry = has_some (forgets past) || forgets_entry entry

quiet_hops : (due : List Hop) (entry : Entry) → (has_some due || forgets_entry entry) ≡ false → IsForgotten due entry
quiet_hops (hop ∷ more) entry is = cc
quiet_hops [] (Forget a b) is = cc
quiet_hops [] _ is = tt

pub forgets_dead_hops : (transcript : List Entry)
    → AllAsked is_forgetting (λ past entry. IsForgotten (forgets past) entry) [] transcript → ForgetsDeadHops transcript
forgets_dead_hops = each is_forgetting (λ past entry. IsForgotten (forgets past) entry) (λ past entry is. quiet_hops (forgets past) entry is) []

-- ---- units

-- a unit that is lost or changed by a mark, or is to be
abbrev pub tells_mark : Entry → Bool
tells_mark (Dropped side) = true
tells_mark (Garbled side unit) = true
tells_mark _ = false

abbrev pub is_marking : List Entry → Entry → Bool
is_marking past entry = has_some (to_stand past) || tells_mark entry

quiet_marks : (due : List Entry) (entry : Entry) → (has_some due || tells_mark entry) ≡ false → IsMarked due entry
quiet_marks (first ∷ more) entry is = cc
quiet_marks [] (Dropped side) is = cc
quiet_marks [] (Garbled side unit) is = cc
quiet_marks [] _ is = tt

pub marks_units : (transcript : List Entry) → AllAsked is_marking (λ past entry. IsMarked (to_stand past) entry) [] transcript → MarksUnits transcript
marks_units = each is_marking (λ past entry. IsMarked (to_stand past) entry) (λ past entry is. quiet_marks (to_stand past) entry is) []

-- an answer of the chip
abbrev pub is_answer : List Entry → Entry → Bool
is_answer past (Written Chip unit) = is_ack unit || is_can unit
is_answer past _ = false

quiet_answers : (acks can : Bool) (past : List Entry) → (acks || can) ≡ false → AnswersBy acks can past
quiet_answers true can past is = cc
quiet_answers false true past is = cc
quiet_answers false false past is = tt

quiet_collisions : Quiet is_answer MayCollide
quiet_collisions past (Written Chip unit) is = quiet_answers (is_ack unit) (is_can unit) past is
quiet_collisions past _ is = tt

pub collides_when_asked : (transcript : List Entry) → AllAsked is_answer MayCollide [] transcript → CollidesWhenAsked transcript
collides_when_asked = each is_answer MayCollide quiet_collisions []

-- ---- the chip

-- a frame, and what stands where a SendData that was taken has none yet
abbrev pub is_airing : Course → List Entry → Entry → Bool
is_airing course past entry = is_air past entry || has_some (to_air course past)

passed_over : (on : Bool) (devices : List State) (course : Course) (past : List Entry) → has_some (to_air course past) ≡ false → IsPassedOver on devices course past
passed_over true devices course past none = tt
passed_over false devices course past none = none_of _ (to_air course past) none

quiet_airing : (devices : List State) (course : Course) → Quiet (is_airing course) (MayAir devices course)
quiet_airing devices course past (Air frame sender receiver repeaters payload) is = cc
quiet_airing devices course past entry is = passed_over (goes_on entry) devices course past is

pub airs_what_is_taken : (devices : List State) (course : Course) (transcript : List Entry)
    → AllAsked (is_airing course) (MayAir devices course) [] transcript → AirsWhatIsTaken devices course transcript
airs_what_is_taken devices course = each (is_airing course) (MayAir devices course) (quiet_airing devices course) []

-- the first copy of a frame of the chip
abbrev pub is_beginning : Course → List Entry → Entry → Bool
is_beginning course past (Written Chip unit) = begins_next course past
is_beginning course past _ = false

-- ---- the frames of the chip, one after another

-- a unit is what the chip has for the host at a place
abbrev pub IsAt : List State → List ℕ → List Given → ℕ → Type 0
IsAt devices unit [] place = ⊥
IsAt devices unit (one ∷ more) zero = IsOf devices unit one
IsAt devices unit (one ∷ more) (suc place) = IsAt devices unit more place

are_and : (devices : List State) (units : List (List ℕ)) (given : List Given) (unit : List ℕ) → AreOf devices units given
    → IsAt devices unit given (length units) → AreOf devices (units ++ unit ∷ []) given
are_and devices [] [] unit are at = at
are_and devices [] (one ∷ more) unit are at = (at, tt)
are_and devices (first ∷ units) [] unit are at = are
are_and devices (first ∷ units) (one ∷ more) unit are at = (are.0, are_and devices units more unit are.1 at)

are_among : (devices : List State) (units : List (List ℕ)) (given later : List Given) → AreOf devices units given → AreOf devices units (given ++ later)
are_among devices [] given later are = tt
are_among devices (unit ∷ units) [] later are = absurd are
are_among devices (unit ∷ units) (one ∷ more) later are = (are.0, are_among devices units more later are.1)

-- the first copy of a frame is the next that the chip has for the host
abbrev pub IsNextAt : List State → Course → List Entry → Entry → Type 0
IsNextAt devices course past (Written Chip unit) = IsAt devices unit (given devices course past) (length (begun course past))
IsNextAt devices course past _ = ⊤

-- nothing is dropped
abbrev pub drops_nothing : List Entry → Bool
drops_nothing [] = true
drops_nothing (ChipFull ∷ entries) = false
drops_nothing (entry ∷ entries) = drops_nothing entries

-- what a unit that is written makes of what was begun
begun_so : (begins : Bool) (devices : List State) (course : Course) (past : List Entry) (unit : List ℕ)
    → AreOf devices (begun course past) (given devices course past) → Asked begins (IsNextAt devices course past (Written Chip unit)) ⊤
    → AreOf devices (begun course past ++ (if begins then unit ∷ [] else [])) (given devices course past)
begun_so true devices course past unit are asked = are_and devices (begun course past) (given devices course past) unit are asked.0
begun_so false devices course past unit are asked = subst (λ (units : List (List ℕ)). AreOf devices units (given devices course past)) (sym (append-nil (begun course past))) are

shown_one : {B : Type 0} (shows : List Entry → Entry → List B) (before past : List Entry) (entry : Entry)
    → shown_after shows before (past ++ entry ∷ []) ≡ shown_after shows before past ++ shows (before ++ past) entry
shown_one shows before [] entry = append-nil (shows before entry) ∙ ap (λ past. shows past entry) (sym (append-nil before))
shown_one shows before (first ∷ past) entry =
    ap (λ shown. shows before first ++ shown) (shown_one shows (before ++ first ∷ []) past entry)
    ∙ sym (append_assoc (shows before first) (shown_after shows (before ++ first ∷ []) past) (shows ((before ++ first ∷ []) ++ past) entry))
    ∙ ap (λ all. shown_after shows before (first ∷ past) ++ shows all entry) (append_assoc before (first ∷ []) past)

-- so of any entry
begun_with : (devices : List State) (course : Course) (past : List Entry) (entry : Entry) → AreOf devices (begun course past) (given devices course past)
    → Asked (is_beginning course past entry) (IsNextAt devices course past entry) ⊤
    → AreOf devices (begun course past ++ begun_at course past entry) (given devices course past)
begun_with devices course past (Written Chip unit) are asked = begun_so (begins_next course past) devices course past unit are asked
begun_with devices course past _ are asked = subst (λ (units : List (List ℕ)). AreOf devices units (given devices course past)) (sym (append-nil (begun course past))) are

begun_after : (devices : List State) (course : Course) (past : List Entry) (entry : Entry)
    → AreOf devices (begun course past ++ begun_at course past entry) (given devices course past)
    → AreOf devices (begun course (past ++ entry ∷ [])) (given devices course (past ++ entry ∷ []))
begun_after devices course past entry are =
    subst (λ (units : List (List ℕ)). AreOf devices units (given devices course (past ++ entry ∷ []))) (sym (shown_one (begun_at course) [] past entry))
    (subst (λ (all : List Given). AreOf devices (begun course past ++ begun_at course past entry) all) (sym (shown_one (given_at devices course) [] past entry))
    (are_among devices _ (given devices course past) (given_at devices course past entry) are))

-- nothing was dropped then
none_dropped : (course : Course) (before past : List Entry) → drops_nothing past ≡ true → shown_after (dropped_at course) before past ≡ []
none_dropped course before [] nothing = refl
none_dropped course before (ChipFull ∷ past) nothing = cc
none_dropped course before (entry ∷ past) nothing = none_dropped course (before ++ entry ∷ []) past nothing

nothing_more : (past : List Entry) (entry : Entry) → drops_nothing past ≡ true → drops_nothing (entry ∷ []) ≡ true → drops_nothing (past ++ entry ∷ []) ≡ true
nothing_more [] entry nothing more = more
nothing_more (ChipFull ∷ past) entry nothing more = cc
nothing_more (first ∷ past) entry nothing more = nothing_more past entry nothing more

first_drops : (entry : Entry) (rest : List Entry) → drops_nothing (entry ∷ rest) ≡ true → drops_nothing (entry ∷ []) ≡ true
first_drops ChipFull rest nothing = cc
first_drops _ rest nothing = refl

rest_drops : (entry : Entry) (rest : List Entry) → drops_nothing (entry ∷ rest) ≡ true → drops_nothing rest ≡ true
rest_drops ChipFull rest nothing = cc
rest_drops _ rest nothing = nothing

answers_by : (begins : Bool) (devices : List State) (course : Course) (past : List Entry) (unit : List ℕ) → dropped course past ≡ []
    → AreOf devices (begun course past) (given devices course past) → Asked begins (IsNextAt devices course past (Written Chip unit)) ⊤
    → IsNext begins devices course past unit
answers_by true devices course past unit none are asked =
    subst (λ (places : List ℕ). AreOf devices (begun course past ++ unit ∷ []) (without places (given devices course past))) (sym none)
    (are_and devices (begun course past) (given devices course past) unit are asked.0)
answers_by false devices course past unit none are asked = tt

answers_here : (devices : List State) (course : Course) (past : List Entry) (entry : Entry) → dropped course past ≡ []
    → AreOf devices (begun course past) (given devices course past) → Asked (is_beginning course past entry) (IsNextAt devices course past entry) ⊤
    → MayAnswer devices course past entry
answers_here devices course past (Written Chip unit) none are asked = answers_by (begins_next course past) devices course past unit none are asked
answers_here devices course past _ none are asked = tt

asked_here : (is : Bool) (First Later : Type 0) → Asked is First Later → Asked is First ⊤
asked_here true First Later asked = (asked.0, tt)
asked_here false First Later asked = tt

asked_later : (is : Bool) (First Later : Type 0) → Asked is First Later → Later
asked_later true First Later asked = asked.1
asked_later false First Later asked = asked

answers_each : (devices : List State) (course : Course) (past rest : List Entry) → drops_nothing past ≡ true → drops_nothing rest ≡ true
    → AreOf devices (begun course past) (given devices course past) → AllAsked (is_beginning course) (IsNextAt devices course) past rest
    → EachAfter (MayAnswer devices course) past rest
answers_each devices course past [] before following are asked = tt
answers_each devices course past (entry ∷ rest) before following are asked =
    let here = asked_here (is_beginning course past entry) _ _ asked in (
      answers_here devices course past entry (none_dropped course [] past before) are here,
      answers_each devices course (past ++ entry ∷ []) rest (nothing_more past entry before (first_drops entry rest following)) (rest_drops entry rest following)
          (begun_after devices course past entry (begun_with devices course past entry are here)) (asked_later (is_beginning course past entry) _ _ asked),
    )

-- where nothing is dropped, each frame that the chip begins is what it has for the host at the place of that frame
pub answers_one_by_one : (devices : List State) (course : Course) (transcript : List Entry) → drops_nothing transcript ≡ true
    → AllAsked (is_beginning course) (IsNextAt devices course) [] transcript → AnswersInOrder devices course transcript
answers_one_by_one devices course transcript nothing asked = answers_each devices course [] transcript refl nothing tt asked

-- ---- how many wait

-- where no more is had for the host in all than may wait, none is dropped
few_wait : (judged : Bool) (count : ℕ) → count ≤ 32 → AreFew judged count
few_wait true count few = few
few_wait false count few = tt

waits_well : (devices : List State) (course : Course) (past : List Entry) (entry : Entry) → drops_nothing (entry ∷ []) ≡ true
    → length (given devices course past) ≤ 32 → MayWait devices course past entry
waits_well devices course past ChipFull nothing few = cc
waits_well devices course past entry nothing few = few_wait (is_judged entry) (waiting devices course past) (omega (arith, few))

drops_each : (devices : List State) (course : Course) (past rest : List Entry) → drops_nothing rest ≡ true
    → length (given devices course past) + length (shown_after (given_at devices course) past rest) ≤ 32 → EachAfter (MayWait devices course) past rest
drops_each devices course past [] nothing few = tt
drops_each devices course past (entry ∷ rest) nothing few =
    let now : ℕ = length (given devices course past) in
    let later : List Given = shown_after (given_at devices course) (past ++ entry ∷ []) rest in
    let next : length (given devices course (past ++ entry ∷ [])) ≡ now + length (given_at devices course past entry) =
    ap (λ (all : List Given). length all) (shown_one (given_at devices course) [] past entry)
    ∙ length-append (given devices course past) (given_at devices course past entry)
    in
    let sum : length (given_at devices course past entry ++ later) ≡ length (given_at devices course past entry) + length later =
    length-append (given_at devices course past entry) later
    in
    let here : now + length (given_at devices course past entry ++ later) ≤ 32 = few in (
      waits_well devices course past entry (first_drops entry rest nothing) (omega (arith, here)),
      drops_each devices course (past ++ entry ∷ []) rest (rest_drops entry rest nothing) (omega (arith, next, sum, here)),
    )

pub drops_when_few : (devices : List State) (course : Course) (transcript : List Entry) → drops_nothing transcript ≡ true
    → nat_le (length (given devices course transcript)) 32 ≡ true → DropsWhenFull devices course transcript
drops_when_few devices course transcript nothing few =
    let all : length (shown_after (given_at devices course) [] transcript) ≤ 32 = leb-true _ _ few in
    drops_each devices course [] transcript nothing (omega (arith, all))

-- where a line or tick begins
abbrev pub is_turn : List Entry → Entry → Bool
is_turn past (Said words) = true
is_turn past (Time tick) = true
is_turn past _ = false

quiet_turns : (devices : List State) (parts : List (List Step)) → Quiet is_turn (MayStay devices parts)
quiet_turns devices parts past (Said words) is = cc
quiet_turns devices parts past (Time tick) is = cc
quiet_turns devices parts past _ is = tt

none_stays : (devices : List State) (parts : List (List Step)) (past : List Entry) (entry : Entry)
    → waiting devices (course_of (joined parts)) past ≡ 0 → MayStay devices parts past entry
none_stays devices parts past (Said words) none = λ idle. none
none_stays devices parts past (Time tick) none = λ idle. none
none_stays devices parts past _ none = tt

both_ways : (is : Bool) {First Second Later After : Type 0} → (First → Second) → (Later → After) → Asked is First Later → Asked is Second After
both_ways true onward later asked = (onward asked.0, later asked.1)
both_ways false onward later asked = later asked

all_stay : (asks : List Entry → Entry → Bool) (First Second : List Entry → Entry → Type 0) → ((past : List Entry) (entry : Entry) → First past entry → Second past entry)
    → (past rest : List Entry) → AllAsked asks First past rest → AllAsked asks Second past rest
all_stay asks First Second onward past [] asked = tt
all_stay asks First Second onward past (entry ∷ rest) asked =
    both_ways (asks past entry) (onward past entry) (all_stay asks First Second onward (past ++ entry ∷ []) rest) asked

-- none waits where a line or tick begins
pub waits_while_busy : (devices : List State) (parts : List (List Step)) (course : Course) (transcript : List Entry) → course_of (joined parts) ≡ course
    → AllAsked is_turn (λ past entry. waiting devices course past ≡ 0) [] transcript → WaitsWhileBusy devices parts transcript
waits_while_busy devices parts course transcript same none =
    each is_turn (MayStay devices parts) (quiet_turns devices parts) [] transcript
    (all_stay is_turn (λ past entry. waiting devices course past ≡ 0) (MayStay devices parts)
    (λ past entry empty. none_stays devices parts past entry (ap (λ (one : Course). waiting devices one past) same ∙ empty)) [] transcript none)
