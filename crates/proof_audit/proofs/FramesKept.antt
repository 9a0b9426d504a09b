-- No line breaks the rule of the air where frames are numbered and have each its fate in turn, and ticks are told: a fate in ticks is the first of its frame, and where
-- no ticks are run no frame waits for one.
use Rattle.std.proofs.Common.{◌≡◌, ℕ, ◌<◌, ◌≤◌, ◌+◌, ◌-◌, cond, eqb, leb, ltb, not, Bool, true, false, List, [], ◌∷◌, ◌++◌, length, take, max, Option, Some, None, is_none, Result, Ok, Err, arith, ap, refl, sym, subst, ◌∙◌, append-nil, length-append}
use Rattle.std.specs.Prelude.{◌||◌, ◌&&◌, slice_get}
use Rattle.std.specs.List.{flat_map, list_any}
use Rattle.std.proofs.lemmas.Bool.{false≢true, and_from, and_left, and_right, eq-eqb, le-leb, lt-ltb, leb-false, ne_eqb, not_from_true, or_from, or_left, or_right, true_from_ne_false}
use Rattle.std.proofs.lemmas.List.{take_at}
use Rattle.std.proofs.lemmas.List.Folds.{list_any-append}
use Rattle.std.proofs.lemmas.Option.{slice_get_past}
use Rattle.air_frames.specs.Ages.{stale_by}
use Rattle.air_frames.specs.declared.ages.Refusal.{Refusal as AirRefusal}
use Rattle.air_frames.specs.declared.ages.Refusal.TheVariants as air
use Rattle.zw_words.specs.declared.fault.LineFault.{LineFault}
use Rattle.zw_text.specs.Line.{line_at}
use Rattle.zw_text.specs.declared.line.Line.{Line}
use Rattle.zw_text.specs.declared.line.Line.TheVariants as lines
use Rattle.zw_text.specs.declared.entry.Entry.{Entry}
use Rattle.zw_text.specs.declared.entry.Entry.TheVariants.{Said, Air, Heard, Lost, Unheard, Device, TableEnd, TableNode, TableValue, Time}
use Rattle.zw_text.specs.Transcript.{AirFrame, folded, frame_at, frames, last_number, line_after, line_last, line_of, lines_run, read_as, tick_at, ticks, time_of}
use Rattle.zw_text.proofs.TextLaws.{line_again}
use Rattle.law_transcript.specs.Fates.{Flying, IsHeardSo, IsNextFate, MayAir, MayFare, FaresInTurn, NumbersFrames, first_fate, first_fates, flying, flying_step}
use Rattle.law_transcript.specs.Lists.{EachAfter, listed}
use Rattle.law_transcript.specs.Repeats.{frame_of, later_nonces, later_sessions, refused_repeat, refusal_to_repeat, repeat_entry}
use Rattle.law_transcript.specs.Restarts.{is_repeat, repeats, ticks_asked, ticks_of}
use Rattle.law_wire.specs.Asked.{clock_of, lines_before}
use Rattle.law_wire.specs.Times.{MayBeTold, TellsTime}
use Rattle.audit_books.specs.Scenes.{is_tick, line_in, line_read}
use Rattle.audit_books.specs.SessionRule.{EachKeeps}
use Rattle.audit_books.proofs.Views.{folded-more, shown-more}
use Rattle.audit_rules.specs.AirRule.{asks_for, breaks_air, breaks_fate, has_landed, is_fresh, is_sent, landed, landed_at, may_hear}
use Rattle.audit_rules.specs.Ticks.{runs_ticks, ticks_following}
use Rattle.proof_transcript.proofs.proof_walk_Shown.{shown_one}
use Rattle.proof_audit.specs.Frames.{ShowLines, ShowsLine}
use Rattle.proof_audit.specs.Legible.{AreLegible, IsLegible}
use Rattle.proof_audit.specs.Tables.{IsOfTable}

-- ---- ticks and lines that repeat

-- a line that is read as a `tick` is none that repeats
tick_is_no_repeat : (found : Result (Option Line) LineFault) → is_tick (line_read found) ≡ true → is_repeat (read_as found) ≡ false
tick_is_no_repeat (Ok (Some (lines.Tick count))) is = refl
tick_is_no_repeat (Ok (Some line)) is = absurd (false≢true is)
tick_is_no_repeat (Ok None) is = refl
tick_is_no_repeat (Err fault) is = refl

entry_is_no_repeat : (before : Bool) (e : Entry) → ticks_following before e ≡ true → is_repeat (line_of e) ≡ false
entry_is_no_repeat before (Said words) is = tick_is_no_repeat (line_at words) is
entry_is_no_repeat before e is = refl

no_repeat_from : (before : Bool) (line : List Line) (past : List Entry) → (before ≡ true → is_repeat line ≡ false) → folded ticks_following before past ≡ true
    → is_repeat (folded line_after line past) ≡ false
no_repeat_from before line [] none is = none is
no_repeat_from before line (e ∷ past) none is = no_repeat_from (ticks_following before e) (line_of e) past (entry_is_no_repeat before e) is

-- where ticks are run no line repeats a frame
ticks_repeat_none : (past : List Entry) → runs_ticks past ≡ true → repeats past ≡ false
ticks_repeat_none past is = no_repeat_from false [] past (λ none. refl) is

-- and so no ticks are run where one does
repeats_tick_none : (past : List Entry) → repeats past ≡ true → runs_ticks past ≡ false
repeats_tick_none past is = by (runs_ticks past) refl
  where
    by : (b : Bool) → runs_ticks past ≡ b → runs_ticks past ≡ false
    by true ticking = absurd (false≢true (sym (ticks_repeat_none past ticking) ∙ is))
    by false resting = resting

-- ---- one entry more

flying_more : (past : List Entry) (e : Entry) → flying (past ++ (e ∷ [])) ≡ flying_step (flying past) e
flying_more past e = folded-more flying_step (record { sent = 0; due = 0 }) past e

frames_more : (past : List Entry) (e : Entry) → length (frames (past ++ (e ∷ []))) ≡ length (frames past) + length (frame_at e)
frames_more past e = ap length (shown-more frame_at past e) ∙ length-append (frames past) (frame_at e)

fates_more : (past : List Entry) (e : Entry) → length (first_fates (past ++ (e ∷ []))) ≡ length (first_fates past) + length (first_fate past e)
fates_more past e = ap length (shown_one first_fate [] past e) ∙ length-append (first_fates past) (first_fate past e)

landed_more : (past : List Entry) (e : Entry) (frame : ℕ)
    → has_landed (past ++ (e ∷ [])) frame ≡ (has_landed past frame || list_any (λ (other : ℕ). eqb other frame) (landed_at past e))
landed_more past e frame =
    ap (list_any (λ (other : ℕ). eqb other frame)) (shown_one landed_at [] past e)
    ∙ list_any-append (λ (other : ℕ). eqb other frame) (landed past) (landed_at past e)

ticks_more : (past : List Entry) (e : Entry) → runs_ticks (past ++ (e ∷ [])) ≡ ticks_following (runs_ticks past) e
ticks_more past e = folded-more ticks_following false past e

none_more : (n : ℕ) → n + 0 ≡ n
none_more n = omega arith

-- ---- what is known of frames

-- where no ticks are run no frame waits for its fate, and no tick is asked for that has not begun
abbrev pub Rests : List Entry → Type 0
Rests past = runs_ticks past ≡ false → (length (first_fates past) ≡ (flying past).due) × (ticks_asked (lines_run past) ≤ clock_of past)

-- the frames that wait for their fates are among those that were sent, and those that landed in ticks have had theirs
pub record KnownFrames (past : List Entry) : Type 0 where
  pub sent : (flying past).sent ≡ length (frames past)
  pub due : (flying past).due ≤ (flying past).sent
  pub fated : (frame : ℕ) → length (first_fates past) < frame → has_landed past frame ≡ false
  pub rests : Rests past

-- ---- those that were sent

sent_step : (f : Flying) (e : Entry) → (flying_step f e).sent ≡ f.sent + length (frame_at e)
sent_step f (Air frame sender receiver repeaters payload) = refl
sent_step f e = sym (none_more f.sent)

sent_more : (past : List Entry) (e : Entry) → (flying past).sent ≡ length (frames past) → (flying (past ++ (e ∷ []))).sent ≡ length (frames (past ++ (e ∷ [])))
sent_more past e is =
    ap (λ (f : Flying). f.sent) (flying_more past e)
    ∙ (sent_step (flying past) e ∙ (ap (λ (n : ℕ). n + length (frame_at e)) is ∙ sym (frames_more past e)))

due_step : (f : Flying) (e : Entry) → f.due ≤ f.sent → (flying_step f e).due ≤ (flying_step f e).sent
due_step f (Air frame sender receiver repeaters payload) low = omega (arith, low)
due_step f (Time tick) low = omega arith
due_step f e low = low

due_more : (past : List Entry) (e : Entry) → (flying past).due ≤ (flying past).sent → (flying (past ++ (e ∷ []))).due ≤ (flying (past ++ (e ∷ []))).sent
due_more past e low = subst (λ (f : Flying). f.due ≤ f.sent) (sym (flying_more past e)) (due_step (flying past) e low)

-- ---- those that landed

-- a fate of a lower frame, where ticks are run
lower : (ticking : Bool) (number frame : ℕ) → (ticking ≡ true → number < frame) → list_any (λ (other : ℕ). eqb other frame) (cond ticking (number ∷ []) []) ≡ false
lower true number frame low = or_from (eqb number frame) false (ne_eqb number frame (λ (e : number ≡ frame). omega (arith, e, low refl))) refl
lower false number frame low = refl

no_fate : (ticking : Bool) (frame : ℕ) → list_any (λ (other : ℕ). eqb other frame) (cond ticking [] []) ≡ false
no_fate true frame = refl
no_fate false frame = refl

next_lower : (past : List Entry) (number frame : ℕ) → IsNextFate past number → length (first_fates past) + 1 < frame → number < frame
next_lower past number frame next above = omega (arith, next.0, above)

heard_lower : (again : Bool) (past : List Entry) (number frame : ℕ) → repeats past ≡ again → repeats past ≡ false → IsHeardSo again past number
    → length (first_fates past) + length (cond (repeats past) [] (number ∷ [])) < frame → number < frame
heard_lower true past number frame is none fare above = absurd (false≢true (sym none ∙ is))
heard_lower false past number frame is none fare above =
    next_lower past number frame fare (subst (λ (again : Bool). length (first_fates past) + length (cond again [] (number ∷ [])) < frame) is above)

one_fated : (past : List Entry) (e : Entry) (frame : ℕ) → MayFare past e → length (first_fates past) + length (first_fate past e) < frame
    → list_any (λ (other : ℕ). eqb other frame) (landed_at past e) ≡ false
one_fated past (Heard number) frame fare above =
    lower (runs_ticks past) number frame (λ ticking. heard_lower (repeats past) past number frame refl (ticks_repeat_none past ticking) fare above)
one_fated past (Lost number) frame fare above = lower (runs_ticks past) number frame (λ ticking. next_lower past number frame fare above)
one_fated past (Unheard number) frame fare above = lower (runs_ticks past) number frame (λ ticking. next_lower past number frame fare above)
one_fated past e frame fare above = no_fate (runs_ticks past) frame

fated_more : (past : List Entry) (e : Entry) → ((frame : ℕ) → length (first_fates past) < frame → has_landed past frame ≡ false) → MayFare past e
    → (frame : ℕ) → length (first_fates (past ++ (e ∷ []))) < frame → has_landed (past ++ (e ∷ [])) frame ≡ false
fated_more past e fated fare frame above =
    let high : length (first_fates past) + length (first_fate past e) < frame = subst (λ (n : ℕ). n < frame) (fates_more past e) above in
    landed_more past e frame
    ∙ or_from (has_landed past frame) (list_any (λ (other : ℕ). eqb other frame) (landed_at past e)) (fated frame (omega (arith, high))) (one_fated past e frame fare high)

-- ---- where no ticks are run

-- as many fates and as many frames that wait as before
same_due : (past : List Entry) (e : Entry) → first_fate past e ≡ [] → (flying_step (flying past) e).due ≡ (flying past).due → length (first_fates past) ≡ (flying past).due
    → length (first_fates (past ++ (e ∷ []))) ≡ (flying (past ++ (e ∷ []))).due
same_due past e none still all =
    fates_more past e
    ∙ (ap (λ (l : List ℕ). length (first_fates past) + length l) none
    ∙ (none_more (length (first_fates past)) ∙ (all ∙ (sym still ∙ sym (ap (λ (f : Flying). f.due) (flying_more past e))))))

-- no line and no number of a tick
same_clock : (past : List Entry) (e : Entry) → line_of e ≡ [] → tick_at e ≡ [] → ticks_asked (lines_run past) ≤ clock_of past
    → ticks_asked (lines_run (past ++ (e ∷ []))) ≤ clock_of (past ++ (e ∷ []))
same_clock past e no_line no_tick low =
    subst (λ (l : List Line). ticks_asked l ≤ max (time_of (past ++ (e ∷ []))) (ticks_asked (take (length l - 1) l))) (sym same_lines)
    (subst (λ (l : List ℕ). ticks_asked (lines_run past) ≤ max (last_number 0 l) (ticks_asked (lines_before past))) (sym same_ticks) low)
  where
    same_lines : lines_run (past ++ (e ∷ [])) ≡ lines_run past
    same_lines = shown-more line_of past e ∙ (ap (λ (l : List Line). lines_run past ++ l) no_line ∙ append-nil (lines_run past))

    same_ticks : ticks (past ++ (e ∷ [])) ≡ ticks past
    same_ticks = shown-more tick_at past e ∙ (ap (λ (l : List ℕ). ticks past ++ l) no_tick ∙ append-nil (ticks past))

but_last : {A : Type 0} (past : List A) (x : A) → take (length (past ++ (x ∷ [])) - 1) (past ++ (x ∷ [])) ≡ past
but_last past x = take_at past (x ∷ []) (length (past ++ (x ∷ [])) - 1) (one_less (length-append past (x ∷ [])))
  where
    one_less : length (past ++ (x ∷ [])) ≡ length past + 1 → length past ≡ length (past ++ (x ∷ [])) - 1
    one_less is = omega (arith, is)

asked_more : (said : List Line) (line : Line) → ticks_asked (said ++ (line ∷ [])) ≡ ticks_asked said + ticks_of line
asked_more [] line = omega arith
asked_more (first ∷ said) line = omega (arith, asked_more said line)

-- what a line that is no `tick` asks for
no_tick_asks : (said : Line) → is_tick (Some said) ≡ false → ticks_of said ≡ 0
no_tick_asks (lines.Tick count) none = absurd (false≢true (sym none))
no_tick_asks said none = refl

same_line : (said line : Line) → ◌≡◌ {A = List Line} (said ∷ []) (line ∷ []) → said ≡ line
same_line said line same = ap (first_or line) same
  where
    first_or : Line → List Line → Line
    first_or other [] = other
    first_or other (first ∷ more) = first

no_line : (line : Line) → ◌≡◌ {A = List Line} [] (line ∷ []) → ⊥
no_line line same = subst IsNone same tt
  where
    IsNone : List Line → Type 0
    IsNone [] = Unit {0}
    IsNone (first ∷ more) = ⊥

no_ticks_read : (found : Result (Option Line) LineFault) (line : Line) → read_as found ≡ line ∷ [] → is_tick (line_read found) ≡ false → ticks_of line ≡ 0
no_ticks_read (Ok (Some said)) line read none = ap ticks_of (sym (same_line said line read)) ∙ no_tick_asks said none
no_ticks_read (Ok None) line read none = absurd (no_line line read)
no_ticks_read (Err fault) line read none = absurd (no_line line read)

-- after a line that asks for no ticks, all that were asked for have begun
begun_all : (said : List Line) (line : Line) (time : ℕ) → ticks_of line ≡ 0 → ticks_asked (said ++ (line ∷ [])) ≤ max time (ticks_asked (take (length (said ++ (line ∷ [])) - 1) (said ++ (line ∷ []))))
begun_all said line time none =
    subst (λ (l : List Line). ticks_asked (said ++ (line ∷ [])) ≤ max time (ticks_asked l)) (sym (but_last said line)) (omega (arith, asked_more said line, none))

said_clock : (past : List Entry) (words : List ℕ) (line : Line) → line_of (Said words) ≡ line ∷ [] → is_tick (line_in words) ≡ false
    → ticks_asked (lines_run (past ++ (Said words ∷ []))) ≤ clock_of (past ++ (Said words ∷ []))
said_clock past words line read none =
    subst (λ (l : List Line). ticks_asked l ≤ max (time_of (past ++ (Said words ∷ []))) (ticks_asked (take (length l - 1) l)))
    (sym (shown-more line_of past (Said words) ∙ ap (λ (l : List Line). lines_run past ++ l) read))
    (begun_all (lines_run past) line (time_of (past ++ (Said words ∷ []))) (no_ticks_read (line_at words) line read none))

heard_rests : (again : Bool) (past : List Entry) (number : ℕ) → repeats past ≡ again → IsHeardSo again past number → Rests past → Rests (past ++ (Heard number ∷ []))
heard_rests true past number is fare rests = λ none.
    let was = rests (sym (ticks_more past (Heard number)) ∙ none) in (
      same_due past (Heard number) (ap (λ (again : Bool). cond again [] (number ∷ [])) is) refl was.0,
      same_clock past (Heard number) refl refl was.1,
    )
heard_rests false past number is fare rests = λ none.
    let was = rests (sym (ticks_more past (Heard number)) ∙ none) in
    absurd (omega (arith, was.0, fare.0, fare.1))

rests_more : (past : List Entry) (e : Entry) → Rests past → MayFare past e → MayBeTold past e → ShowsLine e → Rests (past ++ (e ∷ []))
rests_more past (Said words) rests fare told shows = λ none.
    (same_due past (Said words) refl refl fare, said_clock past words shows.0 shows.1 (sym (ticks_more past (Said words)) ∙ none))
rests_more past (Time tick) rests fare told shows = λ none.
    let was = rests (sym (ticks_more past (Time tick)) ∙ none) in
    absurd (omega (arith, was.1, told.later, told.asked))
rests_more past (Heard number) rests fare told shows = heard_rests (repeats past) past number refl fare rests
rests_more past (Lost number) rests fare told shows = λ none.
    let was = rests (sym (ticks_more past (Lost number)) ∙ none) in
    absurd (omega (arith, was.0, fare.0, fare.1))
rests_more past (Unheard number) rests fare told shows = λ none.
    let was = rests (sym (ticks_more past (Unheard number)) ∙ none) in
    absurd (omega (arith, was.0, fare.0, fare.1))
rests_more past e rests fare told shows = λ none.
    let was = rests (sym (ticks_more past e) ∙ none) in
    (same_due past e refl refl was.0, same_clock past e refl refl was.1)

known_more : (past : List Entry) (e : Entry) → KnownFrames past → MayFare past e → MayBeTold past e → ShowsLine e → KnownFrames (past ++ (e ∷ []))
known_more past e known fare told shows = record {
  sent = sent_more past e known.sent;
  due = due_more past e known.due;
  fated = fated_more past e known.fated fare;
  rests = rests_more past e known.rests fare told shows;
}

known_first : KnownFrames []
known_first = record {
  sent = refl;
  due = omega arith;
  fated = λ frame above. refl;
  rests = λ none. (refl, omega arith);
}

-- ---- a fate that is due

sent_within : (past : List Entry) (frame : ℕ) → 0 < frame → frame ≤ length (frames past) → is_sent past frame ≡ true
sent_within past frame above within = and_from (ltb 0 frame) (leb frame (length (frames past))) (lt-ltb 0 frame above) (le-leb frame (length (frames past)) within)

next_keeps : (past : List Entry) (frame : ℕ) → KnownFrames past → IsNextFate past frame → breaks_fate past frame ≡ false
next_keeps past frame known next =
    or_from (not (is_sent past frame)) (runs_ticks past && has_landed past frame)
    (not_from_true (is_sent past frame) (sent_within past frame (omega (arith, next.0)) (omega (arith, next.1, known.due, known.sent))))
    (and_right (runs_ticks past) (has_landed past frame) (known.fated frame (omega (arith, next.0))))

-- ---- a frame that is repeated

not_nil : (x : Entry) (xs : List Entry) → x ∷ xs ≡ [] → ⊥
not_nil x xs same = subst IsSome same tt
  where
    IsSome : List Entry → Type 0
    IsSome [] = ⊥
    IsSome (first ∷ more) = Unit {0}

-- a refusal is an entry
refused : (refusal : AirRefusal) → flat_map repeat_entry (listed (Some refusal)) ≡ [] → ⊥
refused air.NeverSent none = not_nil _ _ none
refused air.Forgotten none = not_nil _ _ none
refused (air.Stale later) none = not_nil _ _ none

fresh_by : (old : Bool) (stale : Option AirRefusal) → flat_map repeat_entry (listed (cond old (Some air.Forgotten) stale)) ≡ [] → is_none stale ≡ true
fresh_by true stale none = absurd (refused air.Forgotten none)
fresh_by false None none = refl
fresh_by false (Some refusal) none = absurd (refused refusal none)

fresh_if : (past : List Entry) (found : Option AirFrame) → flat_map repeat_entry (listed (refused_repeat past found)) ≡ [] → is_fresh past found ≡ true
fresh_if past None none = absurd (refused air.NeverSent none)
fresh_if past (Some frame) none =
    fresh_by (ltb 4096 (length (frames past) - frame.number)) (stale_by frame.payload (later_sessions past frame) (later_nonces past frame)) none

-- a number of no frame that was sent is that of none
unsent_none : (past : List Entry) (number : ℕ) → is_sent past number ≡ false → frame_of past number ≡ None
unsent_none past number unsent = by (ltb 0 number) unsent
  where
    past_end : length (frames past) < number → length (frames past) ≤ number - 1
    past_end high = omega (arith, high)

    by : (above : Bool) → (above && leb number (length (frames past))) ≡ false → cond above (slice_get (frames past) (number - 1)) None ≡ None
    by false none = refl
    by true none = slice_get_past (frames past) (number - 1) (past_end (leb-false number (length (frames past)) none))

sent_if : (past : List Entry) (number : ℕ) → refusal_to_repeat past number ≡ [] → is_sent past number ≡ true
sent_if past number none = true_from_ne_false (is_sent past number) (λ unsent.
    refused air.NeverSent
    (sym (ap (λ (found : Option AirFrame). flat_map repeat_entry (listed (refused_repeat past found))) (unsent_none past number unsent)) ∙ none))

-- ---- each entry

heard_keeps : (again : Bool) (past : List Entry) (frame : ℕ) → repeats past ≡ again → KnownFrames past → IsHeardSo again past frame
    → (breaks_fate past frame || not (may_hear past frame)) ≡ false
heard_keeps false past frame is known next =
    or_from (breaks_fate past frame) (not (may_hear past frame)) (next_keeps past frame known next)
    (not_from_true (may_hear past frame) (or_left (runs_ticks past) (asks_for (line_last past) frame && is_fresh past (frame_of past frame)) ticking))
  where
    ticking : runs_ticks past ≡ true
    ticking = true_from_ne_false (runs_ticks past) (λ none. let was = known.rests none in omega (arith, was.0, next.0, next.1))
heard_keeps true past frame is known repeated =
    or_from (breaks_fate past frame) (not (may_hear past frame))
    (or_from (not (is_sent past frame)) (runs_ticks past && has_landed past frame) (not_from_true (is_sent past frame) (sent_if past frame repeated.1))
    (and_left (runs_ticks past) (has_landed past frame) (repeats_tick_none past is)))
    (not_from_true (may_hear past frame)
    (or_right (runs_ticks past) (asks_for (line_last past) frame && is_fresh past (frame_of past frame))
    (and_from (asks_for (line_last past) frame) (is_fresh past (frame_of past frame))
    (ap (λ (l : List Line). asks_for l frame) repeated.0 ∙ eq-eqb frame frame refl) (fresh_if past (frame_of past frame) repeated.1))))

entry_keeps : (past : List Entry) (e : Entry) → KnownFrames past → MayAir past e → MayFare past e → breaks_air past e ≡ false
entry_keeps past (Air frame sender receiver repeaters payload) known may fare =
    not_from_true (eqb frame (length (frames past) + 1)) (eq-eqb frame (length (frames past) + 1) may.0)
entry_keeps past (Heard frame) known may fare = heard_keeps (repeats past) past frame refl known fare
entry_keeps past (Lost frame) known may fare = next_keeps past frame known fare
entry_keeps past (Unheard frame) known may fare = next_keeps past frame known fare
entry_keeps past e known may fare = refl

each_keeps : (past rest : List Entry) → KnownFrames past → ShowLines rest → EachAfter MayAir past rest → EachAfter MayFare past rest → EachAfter MayBeTold past rest → EachKeeps breaks_air past rest
each_keeps past [] known shows may fare told = tt
each_keeps past (e ∷ rest) known shows may fare told = (
  entry_keeps past e known may.0 fare.0,
  each_keeps (past ++ (e ∷ [])) rest (known_more past e known fare.0 told.0 shows.0) shows.1 may.1 fare.1 told.1,
)

pub frames_keep : (transcript : List Entry) → ShowLines transcript → NumbersFrames transcript → FaresInTurn transcript → TellsTime transcript → EachKeeps breaks_air [] transcript
frames_keep transcript shows may fare told = each_keeps [] transcript known_first shows may fare told

pub table_free : (past : List Entry) (e : Entry) → IsOfTable e → breaks_air past e ≡ false
table_free past (TableEnd ticks) is = refl
table_free past (TableNode node sessions) is = refl
table_free past (TableValue node property confirmed heard) is = refl
table_free past (Device node setting) is = refl
table_free past e is = absurd is

-- ---- entries that are read back

legible_shows : (e : Entry) → IsLegible e → ShowsLine e
legible_shows (Said words) legible =
    let says = legible.is.shows in
    (says.line, ap read_as (line_again words says.line says.read))
legible_shows e legible = tt

pub legible_show : (entries : List Entry) → AreLegible entries → ShowLines entries
legible_show [] legible = tt
legible_show (e ∷ entries) legible = (legible_shows e legible.0, legible_show entries legible.1)
