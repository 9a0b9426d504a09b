-- Which nodes are joined by the transcript, and how many events the device of one has before it joins.
use Rattle.std.proofs.Common.{◌≡◌, ◌⊎◌, inl, inr, ℕ, ◌+◌, ◌==◌, ◌||◌, Bool, true, false, if◌then◌else◌, List, [], ◌∷◌, ◌++◌, length, length-append, refl, sym, ap, subst, ◌∙◌, append-nil, append_assoc, arith}
use Rattle.std.specs.List.{AllByRecursion, flat_map, list_any}
use Rattle.std.proofs.lemmas.List.Folds.{list_any-append}
use Rattle.std.proofs.lemmas.Grind.{flat_map-append}
use Rattle.zw_text.specs.declared.line.Line.{Line}
use Rattle.zw_text.specs.declared.entry.Entry.{Entry}
use Rattle.zw_text.specs.declared.entry.Entry.TheVariants as entry
use Rattle.zw_text.specs.Transcript.{Doing as DoingLines, doing_lines, doing_step, folded, join_of, line_of, lines_done, lines_run}
use Rattle.zw_text.proofs.Views.{folded-append, shown-append}
use Rattle.device_sim.specs.Event.{DeviceEvent, Hears, Ticks, Wakes, Sets}
use Rattle.law_transcript.specs.Lists.{shown_after}
use Rattle.law_transcript.specs.Nodes.{is_joined}
use Rattle.law_transcript.specs.Restarts.{ticks_of, ticks_asked}
use Rattle.law_transcript.specs.Devices.{ComingAt, coming_of, ticks_in, ticks_lived, comings, lived_by, brought_by, asked_by, brought_at, brought, brought_unjoined_at, lines_unjoined_at, events_unjoined}
use Rattle.law_transcript.specs.Repeats.{frame_of}
use Rattle.law_transcript.proofs.Comings.{came_after}
use Rattle.proof_air.proofs.Clock.{asked-append}
use Rattle.proof_air.proofs.Shown.{shown_both}
use Rattle.proof_devices.proofs.Quiet.{IsQuiet, AreQuiet}
use Rattle.proof_devices.proofs.Shown.{quiet_at}

-- ---- nodes that are joined

-- by lines
abbrev joined_by : ℕ → List Line → Bool
joined_by node done = list_any (λ one. one == node) (2 ∷ flat_map join_of done)

abbrev doing : List Entry → DoingLines
doing past = folded doing_step (record { earlier = []; last = [] }) past

-- those that stand before the last one, which may still be refused
abbrev is_settled : List Entry → ℕ → Bool
is_settled past node = joined_by node (doing past).earlier

joins_both : (node : ℕ) (xs ys : List Line) → joined_by node (xs ++ ys) ≡ (joined_by node xs || list_any (λ one. one == node) (flat_map join_of ys))
joins_both node xs ys =
    ap (λ (l : List ℕ). list_any (λ one. one == node) (2 ∷ l)) (flat_map-append join_of xs ys)
    ∙ list_any-append (λ one. one == node) (2 ∷ flat_map join_of xs) (flat_map join_of ys)

joins_more : (node : ℕ) (xs ys : List Line) → joined_by node xs ≡ true → joined_by node (xs ++ ys) ≡ true
joins_more node xs ys is = joins_both node xs ys ∙ ap (λ (b : Bool). b || list_any (λ one. one == node) (flat_map join_of ys)) is

none_more : (node : ℕ) (xs ys : List Line) → joined_by node (xs ++ ys) ≡ false → joined_by node xs ≡ false
none_more node xs ys none = by (joined_by node xs) (sym (joins_both node xs ys) ∙ none)
  where
    by : (b : Bool) → (b || list_any (λ one. one == node) (flat_map join_of ys)) ≡ false → b ≡ false
    by true is = is
    by false is = refl

-- an entry that is not the words of a line
abbrev pub IsUnsaid : Entry → Type 0
IsUnsaid e = line_of e ≡ []

quiet_unsaid : (e : Entry) → IsQuiet e → IsUnsaid e
quiet_unsaid (entry.Said words) quiet = absurd quiet
quiet_unsaid (entry.Heard frame) quiet = absurd quiet
quiet_unsaid e quiet = refl

pub are_unsaid : (told : List Entry) → AreQuiet told → AllByRecursion IsUnsaid told
are_unsaid [] quiet = tt
are_unsaid (e ∷ told) quiet = (quiet_unsaid e quiet.0, are_unsaid told quiet.1)

pub no_lines : (told : List Entry) → AllByRecursion IsUnsaid told → lines_run told ≡ []
no_lines [] none = refl
no_lines (e ∷ told) none = ap (λ (l : List Line). l ++ lines_run told) none.0 ∙ no_lines told none.1

pub same_run : (past told : List Entry) → AllByRecursion IsUnsaid told → lines_run (past ++ told) ≡ lines_run past
same_run past told none = shown-append line_of past told ∙ (ap (λ (l : List Line). lines_run past ++ l) (no_lines told none) ∙ append-nil (lines_run past))

-- such an entry refuses the line before it, or leaves it done
done_by : (so_far : DoingLines) (e : Entry) → IsUnsaid e → (doing_lines (doing_step so_far e) ≡ so_far.earlier) ⊎ (doing_lines (doing_step so_far e) ≡ doing_lines so_far)
done_by so_far (entry.Refused refusal) none = inl (append-nil so_far.earlier)
done_by so_far e none = inr (ap (λ (l : List Line). doing_lines so_far ++ l) none ∙ append-nil (doing_lines so_far))

step_is : (past : List Entry) (e : Entry) → doing (past ++ e ∷ []) ≡ doing_step (doing past) e
step_is past e = folded-append doing_step (record { earlier = []; last = [] }) past (e ∷ [])

one_back : (past : List Entry) (e : Entry) (node : ℕ) → IsUnsaid e → is_joined (past ++ e ∷ []) node ≡ true → is_joined past node ≡ true
one_back past e node none is = by (done_by (doing past) e none)
  where
    so : joined_by node (doing_lines (doing_step (doing past) e)) ≡ true
    so = ap (λ (d : DoingLines). joined_by node (doing_lines d)) (sym (step_is past e)) ∙ is

    by : (doing_lines (doing_step (doing past) e) ≡ (doing past).earlier) ⊎ (doing_lines (doing_step (doing past) e) ≡ doing_lines (doing past)) → is_joined past node ≡ true
    by (inl refused) = joins_more node (doing past).earlier (doing past).last (ap (joined_by node) (sym refused) ∙ so)
    by (inr same) = ap (joined_by node) (sym same) ∙ so

-- without words no node joins
pub joined_back : (past told : List Entry) (node : ℕ) → AllByRecursion IsUnsaid told → is_joined (past ++ told) node ≡ true → is_joined past node ≡ true
joined_back past [] node none is = ap (λ (l : List Entry). is_joined l node) (sym (append-nil past)) ∙ is
joined_back past (e ∷ told) node none is =
    one_back past e node none.0 (joined_back (past ++ e ∷ []) told node none.1 (ap (λ (l : List Entry). is_joined l node) (append_assoc past (e ∷ []) told) ∙ is))

-- an entry that is neither words nor a refusal leaves them as they are
same_joins : (past : List Entry) (e : Entry) (node : ℕ) → doing_step (doing past) e ≡ record { earlier = lines_done past; last = [] } → is_joined (past ++ e ∷ []) node ≡ is_joined past node
same_joins past e node done = ap (λ (d : DoingLines). joined_by node (doing_lines d)) (step_is past e ∙ done) ∙ ap (joined_by node) (append-nil (lines_done past))

pub time_joins : (past : List Entry) (tick node : ℕ) → is_joined (past ++ entry.Time tick ∷ []) node ≡ is_joined past node
time_joins past tick node = same_joins past (entry.Time tick) node refl

pub asleep_joins : (past : List Entry) (of node : ℕ) → is_joined (past ++ entry.Asleep of ∷ []) node ≡ is_joined past node
asleep_joins past of node = same_joins past (entry.Asleep of) node refl

-- the words of a line let a node join, or none
pub said_joins : (past : List Entry) (words : List ℕ) (line : Line) (node : ℕ) → line_of (entry.Said words) ≡ line ∷ []
    → is_joined (past ++ entry.Said words ∷ []) node ≡ (is_joined past node || list_any (λ one. one == node) (join_of line))
said_joins past words line node read =
    ap (λ (d : DoingLines). joined_by node (doing_lines d)) (step_is past (entry.Said words))
    ∙ (ap (λ (l : List Line). joined_by node (lines_done past ++ l)) read
    ∙ (joins_both node (lines_done past) (line ∷ []) ∙ ap (λ (l : List ℕ). is_joined past node || list_any (λ one. one == node) l) (append-nil (join_of line))))

-- ---- what comes to a node before it joins

pub both_none : {A : Type 0} (b : Bool) → if◌then◌else◌ {A = List A} b [] [] ≡ []
both_none true = refl
both_none false = refl

unjoined_at : (node : ℕ) (past : List Entry) (e : Entry) → brought_at node past e ≡ [] → brought_unjoined_at node past e ≡ []
unjoined_at node past e none = ap (λ (l : List ComingAt). if is_joined past node then [] else l) none ∙ both_none (is_joined past node)

pub none_unjoined : (node : ℕ) (past told : List Entry) → AreQuiet told → shown_after (brought_unjoined_at node) past told ≡ []
none_unjoined node past [] quiet = refl
none_unjoined node past (e ∷ told) quiet =
    ap (λ (l : List ComingAt). l ++ shown_after (brought_unjoined_at node) (past ++ e ∷ []) told) (unjoined_at node past e (quiet_at node past e quiet.0))
    ∙ none_unjoined node (past ++ e ∷ []) told quiet.1

-- that a frame is heard, among entries that bring nothing
pub heard_unjoined : (node : ℕ) (past before : List Entry) (number : ℕ) (rest : List Entry) → AreQuiet before → AreQuiet rest
    → shown_after (brought_unjoined_at node) past (before ++ entry.Heard number ∷ rest)
    ≡ (if is_joined (past ++ before) node then [] else brought_by node (lived_by (past ++ before)) (frame_of (past ++ before) number))
heard_unjoined node past before number rest quiet quiet_rest =
    let at : List ComingAt = brought_unjoined_at node (past ++ before) (entry.Heard number) in
    shown_both (brought_unjoined_at node) past before (entry.Heard number ∷ rest)
    ∙ (ap (λ (l : List ComingAt). l ++ (at ++ shown_after (brought_unjoined_at node) ((past ++ before) ++ entry.Heard number ∷ []) rest)) (none_unjoined node past before quiet)
    ∙ (ap (λ (l : List ComingAt). at ++ l) (none_unjoined node ((past ++ before) ++ entry.Heard number ∷ []) rest quiet_rest) ∙ append-nil at))

lines_none : (node : ℕ) (past told : List Entry) → AllByRecursion IsUnsaid told → shown_after (lines_unjoined_at node) past told ≡ []
lines_none node past [] none = refl
lines_none node past (e ∷ told) none =
    ap (λ (l : List Line). (if is_joined past node then [] else l) ++ shown_after (lines_unjoined_at node) (past ++ e ∷ []) told) none.0
    ∙ (ap (λ (l : List Line). l ++ shown_after (lines_unjoined_at node) (past ++ e ∷ []) told) (both_none (is_joined past node)) ∙ lines_none node (past ++ e ∷ []) told none.1)

pub unjoined_grown : (node : ℕ) (past told : List Entry)
    → events_unjoined node (past ++ told) ≡ events_unjoined node past + (length (shown_after (brought_unjoined_at node) past told) + ticks_asked (shown_after (lines_unjoined_at node) past told))
unjoined_grown node past told =
    let came : List ComingAt = shown_after (brought_unjoined_at node) [] past in
    let more : List ComingAt = shown_after (brought_unjoined_at node) past told in
    let said : List Line = shown_after (lines_unjoined_at node) [] past in
    let says : List Line = shown_after (lines_unjoined_at node) past told in
    let both = ap length (shown_both (brought_unjoined_at node) [] past told) ∙ length-append came more in
    let asked = ap ticks_asked (shown_both (lines_unjoined_at node) [] past told) ∙ asked-append said says in
    omega (arith, both, asked)

-- where nothing comes to a node that is not joined, and no line is said
pub unjoined_same : (node : ℕ) (past told : List Entry) → AllByRecursion IsUnsaid told → shown_after (brought_unjoined_at node) past told ≡ [] → events_unjoined node (past ++ told) ≡ events_unjoined node past
unjoined_same node past told none nothing =
    let grown = unjoined_grown node past told in
    let came = ap length nothing in
    let said = ap ticks_asked (lines_none node past told none) in
    omega (arith, grown, came, said)

-- the words of a line
pub said_unjoined : (node : ℕ) (past : List Entry) (words : List ℕ) (line : Line) → line_of (entry.Said words) ≡ line ∷ []
    → events_unjoined node (past ++ entry.Said words ∷ [])
    ≡ events_unjoined node past + (if is_joined past node then 0 else length (asked_by node (ticks_asked (lines_run past)) (line ∷ [])) + ticks_of line)
said_unjoined node past words line read = unjoined_grown node past (entry.Said words ∷ []) ∙ ap (λ (n : ℕ). events_unjoined node past + n) (by (is_joined past node))
  where
    by : (b : Bool)
        → length ((if b then [] else asked_by node (ticks_asked (lines_run past)) (line_of (entry.Said words))) ++ []) + ticks_asked ((if b then [] else line_of (entry.Said words)) ++ [])
        ≡ (if b then 0 else length (asked_by node (ticks_asked (lines_run past)) (line ∷ [])) + ticks_of line)
    by true = refl
    by false =
        let came = ap length (append-nil (asked_by node (ticks_asked (lines_run past)) (line_of (entry.Said words)))
        ∙ ap (λ (l : List Line). asked_by node (ticks_asked (lines_run past)) l) read) in
        let said : ticks_asked (line_of (entry.Said words) ++ []) ≡ ticks_of line + 0 = ap ticks_asked (append-nil (line_of (entry.Said words)) ∙ read) in
        omega (arith, came, said)

-- ---- before it joins, all that came to it, and all ticks

abbrev all_so_far : ℕ → List Entry → ℕ
all_so_far node past = length (brought node past) + ticks_asked (lines_run past)

abbrev CountsAll : ℕ → List Entry → Type 0
CountsAll node past = is_settled past node ≡ false → events_unjoined node past ≡ all_so_far node past

all_grown : (node : ℕ) (past : List Entry) (e : Entry) → all_so_far node (past ++ e ∷ []) ≡ all_so_far node past + (length (brought_at node past e) + ticks_asked (line_of e))
all_grown node past e =
    let both = ap length (shown_both (brought_at node) [] past (e ∷ []) ∙ ap (λ (l : List ComingAt). brought node past ++ l) (append-nil (brought_at node past e)))
    ∙ length-append (brought node past) (brought_at node past e) in
    let asked = ap ticks_asked (shown-append line_of past (e ∷ []) ∙ ap (λ (l : List Line). lines_run past ++ l) (append-nil (line_of e))) ∙ asked-append (lines_run past) (line_of e) in
    omega (arith, both, asked)

one_unjoined : (node : ℕ) (past : List Entry) (e : Entry)
    → events_unjoined node (past ++ e ∷ []) ≡ events_unjoined node past + (length (brought_unjoined_at node past e) + ticks_asked (lines_unjoined_at node past e))
one_unjoined node past e =
    let grown = unjoined_grown node past (e ∷ []) in
    let came = ap length (append-nil (brought_unjoined_at node past e)) in
    let said = ap ticks_asked (append-nil (lines_unjoined_at node past e)) in
    omega (arith, grown, came, said)

-- an entry that brings nothing and is no line
idly_counts : (node : ℕ) (past : List Entry) (e : Entry) → brought_at node past e ≡ [] → line_of e ≡ [] → events_unjoined node past ≡ all_so_far node past
    → events_unjoined node (past ++ e ∷ []) ≡ all_so_far node (past ++ e ∷ [])
idly_counts node past e nothing none counted =
    let one = one_unjoined node past e in
    let all = all_grown node past e in
    let unjoined = ap length (unjoined_at node past e nothing) in
    let no_line = ap ticks_asked (ap (λ (l : List Line). if is_joined past node then [] else l) none ∙ both_none (is_joined past node)) in
    let came = ap length nothing in
    let said = ap ticks_asked none in
    omega (arith, one, all, unjoined, no_line, came, said, counted)

-- one while the node is not joined
all_count : (node : ℕ) (past : List Entry) (e : Entry) → is_joined past node ≡ false → events_unjoined node past ≡ all_so_far node past
    → events_unjoined node (past ++ e ∷ []) ≡ all_so_far node (past ++ e ∷ [])
all_count node past e apart counted =
    let one = one_unjoined node past e in
    let all = all_grown node past e in
    let came = ap length (ap (λ (b : Bool). if b then [] else brought_at node past e) apart) in
    let said = ap ticks_asked (ap (λ (b : Bool). if b then [] else line_of e) apart) in
    omega (arith, one, all, came, said, counted)

settled_after : (past : List Entry) (e : Entry) (node : ℕ) → is_settled (past ++ e ∷ []) node ≡ joined_by node (doing_step (doing past) e).earlier
settled_after past e node = ap (λ (d : DoingLines). joined_by node d.earlier) (step_is past e)

counts_on : (node : ℕ) (past : List Entry) (e : Entry) → CountsAll node past → CountsAll node (past ++ e ∷ [])
counts_on node past e counts none = by e (sym (settled_after past e node) ∙ none)
  where
    by : (e : Entry) → joined_by node (doing_step (doing past) e).earlier ≡ false → events_unjoined node (past ++ e ∷ []) ≡ all_so_far node (past ++ e ∷ [])
    by (entry.Refused refusal) apart = idly_counts node past (entry.Refused refusal) refl refl (counts apart)
    by e apart = all_count node past e apart (counts (none_more node (doing past).earlier (doing past).last apart))

counts_from : (node : ℕ) (past rest : List Entry) → CountsAll node past → CountsAll node (past ++ rest)
counts_from node past [] counts = subst (CountsAll node) (sym (append-nil past)) counts
counts_from node past (e ∷ rest) counts = subst (CountsAll node) (append_assoc past (e ∷ []) rest) (counts_from node (past ++ e ∷ []) rest (counts_on node past e counts))

pub unjoined_all : (node : ℕ) (past : List Entry) → is_joined past node ≡ false → events_unjoined node past ≡ length (brought node past) + ticks_asked (lines_run past)
unjoined_all node past apart = counts_from node [] past (λ none. refl) (none_more node (doing past).earlier (doing past).last apart)

-- ---- events are what comes in them, and ticks

one_each : (ticks : ℕ) (event : DeviceEvent) → length (coming_of ticks event) + ticks_in event ≡ 1
one_each ticks (Hears payload drawn) = refl
one_each ticks (Ticks drawn) = refl
one_each ticks Wakes = refl
one_each ticks (Sets value) = refl

counted : (past events : List DeviceEvent) → length events ≡ length (came_after past events) + ticks_lived events
counted past [] = refl
counted past (event ∷ events) =
    let one = one_each (ticks_lived past) event in
    let rest = counted (past ++ event ∷ []) events in
    let both = length-append (coming_of (ticks_lived past) event) (came_after (past ++ event ∷ []) events) in
    omega (arith, one, rest, both)

pub events_counted : (events : List DeviceEvent) → length events ≡ length (comings events) + ticks_lived events
events_counted events = counted [] events
