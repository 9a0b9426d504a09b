-- After the line that asked for a command, or the `wake` line of a node behind its orders, the lines of a stretch ask for as many ticks as have passed since the last such line of the node.
use Rattle.std.proofs.Common.{◌≡◌, ◌≤◌, ℕ, zero, suc, ◌+◌, ◌*◌, inl, inr, true, false, if◌then◌else◌, List, [], ◌∷◌, ◌++◌, append-nil, refl, sym, ap, ap₂, ◌∙◌, subst, arith}
use Rattle.std.proofs.lemmas.Bool.{eq-eqb}
use Rattle.std.proofs.lemmas.List.Concat.{flat_map-append}
use Rattle.std.specs.Prelude.{◌⊎◌, ◌==◌, Bool}
use Rattle.std.specs.List.{AllByRecursion, flat_map}
use Rattle.zw_base.specs.declared.order.Order.{Order}
use Rattle.zw_text.specs.declared.entry.Entry.{Entry}
use Rattle.zw_text.specs.declared.entry.Entry.TheVariants.{Said}
use Rattle.zw_text.specs.declared.line.Line.{Line}
use Rattle.zw_text.specs.declared.line.Line.TheVariants as line
use Rattle.zw_text.specs.Transcript.{line_last, line_of, lines_run, shown}
use Rattle.law_transcript.specs.Lists.{EachAfter, Has}
use Rattle.law_transcript.specs.Restarts.{ticks_asked, ticks_of}
use Rattle.law_transcript.proofs.Having.{has_either, has_right}
use Rattle.law_time.specs.Stretches.{Turn, Orders, Wakes, accepted_for, turn_of, turns, waited_by, waited_step, wakes_last}
use Rattle.host_model.specs.State.{Command}
use Rattle.world_model.specs.Did.{entries_all}
use Rattle.world_model.specs.State.{Machine}
use Rattle.world_lines.specs.Spoken.{Spoken, after, after_all, entries_of, transcript_of}
use Rattle.world_lines.specs.Done.{AreDone, IsDone}
use Rattle.proof_host.proofs.Over.{each-right}
use Rattle.proof_spoken.specs.Said.{IsSaid, MayAnswer}
use Rattle.proof_spoken.specs.Spoken.{AreSpoken}
use Rattle.proof_walk.specs.Outside.{HasNoWords}
use Rattle.proof_walk.proofs.Alone.{all_wordless, wordless_line}
use Rattle.proof_in_time.proofs.Keeping.{no_lines}
use Rattle.proof_walk.proofs.ByLine.{last_is}
use Rattle.proof_answered.specs.Turns.{marked_to}
use Rattle.proof_answered.proofs.SleeperTexts.{A_wake, An_order, IsTurn, None_of, which_turn}
use Rattle.proof_answered.proofs.WokenLast.{turns_both}
use Rattle.chip_sim.specs.Nodes.{is_marked}
use Rattle.proof_walk.proofs.Clock.{asked-append}
use Rattle.proof_in_time.specs.InHand.{ticks_of_all}
use Rattle.proof_in_time.specs.Waited.{waited_by_for, waited_step_for}
use Rattle.proof_in_time.proofs.Spoken.{told_both}
use Rattle.proof_in_time.proofs.Endings.{is_accepted}

-- ---- ticks

step_most : (n ticks : ℕ) (one : Line) → waited_step_for n ticks one ≤ ticks + ticks_of one
step_most n ticks (line.Command order) = by (order.node == n)
  where
    by : (b : Bool) → (if b then 0 else ticks) ≤ ticks + 0
    by true = omega arith
    by false = omega arith
step_most n ticks (line.Wake node) = by (node == n)
  where
    by : (b : Bool) → (if b then 0 else ticks) ≤ ticks + 0
    by true = omega arith
    by false = omega arith
step_most n ticks (line.Tick count) = omega arith
step_most n ticks one = omega arith

pub waited_most : (n ticks : ℕ) (lines : List Line) → waited_by_for n ticks lines ≤ ticks + ticks_asked lines
waited_most n ticks [] = omega arith
waited_most n ticks (one ∷ lines) =
    let first = step_most n ticks one in
    let rest = waited_most n (waited_step_for n ticks one) lines in
    omega (arith, first, rest)

waited_both : (n ticks : ℕ) (first later : List Line) → waited_by_for n ticks (first ++ later) ≡ waited_by_for n (waited_by_for n ticks first) later
waited_both n ticks [] later = refl
waited_both n ticks (one ∷ first) later = waited_both n (waited_step_for n ticks one) first later

-- since the last line of a node as many have passed at least as since the last of any
step_fewer : (n ticks more : ℕ) (one : Line) → ticks ≤ more → waited_step ticks one ≤ waited_step_for n more one
step_fewer n ticks more (line.Command order) fewer = omega arith
step_fewer n ticks more (line.Wake node) fewer = omega arith
step_fewer n ticks more (line.Tick count) fewer = omega (arith, fewer)
step_fewer n ticks more one fewer = fewer

pub waited_fewer : (n ticks more : ℕ) (lines : List Line) → ticks ≤ more → waited_by ticks lines ≤ waited_by_for n more lines
waited_fewer n ticks more [] fewer = fewer
waited_fewer n ticks more (one ∷ lines) fewer = waited_fewer n (waited_step ticks one) (waited_step_for n more one) lines (step_fewer n ticks more one fewer)

pub ticks_most : (these : List Bool) (sessions : ℕ) → marked_to these 232 ≤ 16 → ticks_of_all 6 these sessions ≤ 23 * sessions
ticks_most these zero few = omega arith
ticks_most these (suc sessions) few = let rest = ticks_most these sessions few in omega (arith, few, rest)

-- one node alone has fewer
none_marked : (marks : List Bool) → ((k : ℕ) → is_marked marks k ≡ true → ⊥) → (k : ℕ) → marked_to marks k ≡ 0
none_marked [] never k = refl
none_marked (true ∷ marks) never k = absurd (never 0 refl)
none_marked (false ∷ marks) never zero = refl
none_marked (false ∷ marks) never (suc k) = let rest = none_marked marks (λ j is. never (suc j) is) k in omega (arith, rest)

one_marked : (marks : List Bool) (n : ℕ) → ((k : ℕ) → is_marked marks k ≡ true → k ≡ n) → (k : ℕ) → marked_to marks k ≤ 1
one_marked [] n only k = omega arith
one_marked (true ∷ marks) n only zero = omega arith
one_marked (true ∷ marks) n only (suc k) = let rest = none_marked marks (λ j is. let there = only (suc j) is in let here = only 0 refl in absurd (omega (arith, there, here))) k in omega (arith, rest)
one_marked (false ∷ marks) n only zero = omega arith
one_marked (false ∷ marks) zero only (suc k) = let rest = none_marked marks (λ j is. let there = only (suc j) is in absurd (omega (arith, there))) k in omega (arith, rest)
one_marked (false ∷ marks) (suc n) only (suc k) = let rest = one_marked marks n (λ j is. let there = only (suc j) is in omega (arith, there)) k in omega (arith, rest)

ticks_fewer : (these : List Bool) (sessions : ℕ) → marked_to these 232 ≤ 1 → ticks_of_all 6 these sessions ≤ 8 * sessions
ticks_fewer these zero few = omega arith
ticks_fewer these (suc sessions) few = let rest = ticks_fewer these sessions few in omega (arith, few, rest)

pub ticks_alone : (these : List Bool) (n sessions : ℕ) → ((k : ℕ) → is_marked these k ≡ true → k ≡ n) → ticks_of_all 6 these sessions ≤ 8 * sessions
ticks_alone these n sessions only = ticks_fewer these sessions (one_marked these n only 232)

-- or whose messages may go in segments
ticks_parted : (these : List Bool) (sessions : ℕ) → marked_to these 232 ≤ 1 → ticks_of_all 23 these sessions ≤ 25 * sessions
ticks_parted these zero few = omega arith
ticks_parted these (suc sessions) few = let rest = ticks_parted these sessions few in omega (arith, few, rest)

pub ticks_openly : (these : List Bool) (n sessions : ℕ) → ((k : ℕ) → is_marked these k ≡ true → k ≡ n) → ticks_of_all 23 these sessions ≤ 25 * sessions
ticks_openly these n sessions only = ticks_parted these sessions (one_marked these n only 232)

-- the ticks that lines ask for, of both
pub ticks_both : (m : Machine) (first later : List Spoken) → ticks_asked (lines_run (transcript_of m (first ++ later))) ≡ ticks_asked (lines_run (transcript_of m first)) + ticks_asked (lines_run (transcript_of (after_all m first) later))
ticks_both m first later =
    ap (λ (l : List Entry). ticks_asked (lines_run l)) (told_both m first later)
    ∙ (ap ticks_asked (flat_map-append line_of (transcript_of m first) (transcript_of (after_all m first) later)) ∙ asked-append (lines_run (transcript_of m first)) (lines_run (transcript_of (after_all m first) later)))

-- ---- an order is accepted directly after its line

each_first : (Allowed : List Entry → Entry → Type 0) (past first later : List Entry) → EachAfter Allowed past (first ++ later) → EachAfter Allowed past first
each_first Allowed past [] later each = tt
each_first Allowed past (entry ∷ first) later each = (each.0, each_first Allowed (past ++ entry ∷ []) first later each.1)

-- the last line is an order for the node
record EndsInOrder (n : ℕ) (past : List Entry) : Type 0 where
  pub order : Order
  pub last : line_last past ≡ line.Command order ∷ []
  pub node : order.node ≡ n

module _ (listing : List Entry → ℕ → List ℕ) (commands : List Command) (n command : ℕ) where
  asked_before : (past told : List Entry) → EachAfter (MayAnswer listing commands) past told → AllByRecursion HasNoWords told → Has (shown (accepted_for n) told) command → EndsInOrder n past
  asked_before past [] each none has = absurd has
  asked_before past (entry ∷ told) each none has = by (has_either (accepted_for n entry) (shown (accepted_for n) told) command has) (λ later. asked_before (past ++ entry ∷ []) told each.1 none.1 later)
    where
      by : Has (accepted_for n entry) command ⊎ Has (shown (accepted_for n) told) command → (Has (shown (accepted_for n) told) command → EndsInOrder n (past ++ entry ∷ [])) → EndsInOrder n past
      by (inl own) rest = let said : IsSaid listing commands past command n = subst (MayAnswer listing commands past) (is_accepted n command entry own) each.0 in record { order = said.order; last = said.said; node = said.of_node }
      by (inr later) rest =
          let other = rest later in
          let wrong : [] ≡ line.Command other.order ∷ [] = sym (last_is past entry ∙ wordless_line entry none.0) ∙ other.last in
          absurd cc

  -- the lines up to that one, and those after it
  pub record Asked (m : Machine) (lines : List Spoken) : Type 0 where
    pub first : List Spoken
    pub later : List Spoken
    pub are : lines ≡ first ++ later
    pub has : Has (shown (accepted_for n) (transcript_of m first)) command
    pub waits : (ticks : ℕ) → waited_by_for n ticks (lines_run (transcript_of m lines)) ≤ ticks_asked (lines_run (transcript_of (after_all m first) later))

  shown_both : (first later : List Entry) → shown (accepted_for n) (first ++ later) ≡ shown (accepted_for n) first ++ shown (accepted_for n) later
  shown_both first later = flat_map-append (accepted_for n) first later

  lines_both : (first later : List Entry) → lines_run (first ++ later) ≡ lines_run first ++ lines_run later
  lines_both first later = flat_map-append line_of first later

  pub asked_at : (past : List Entry) (m : Machine) (lines : List Spoken) → AreSpoken m lines → EachAfter (MayAnswer listing commands) past (transcript_of m lines) → Has (shown (accepted_for n) (transcript_of m lines)) command → Asked m lines
  asked_at past m [] are each has = absurd has
  asked_at past m (spoken ∷ more) are each has =
      by (has_either (shown (accepted_for n) told) (shown (accepted_for n) rest) command (subst (λ (l : List ℕ). Has l command) (shown_both told rest) has))
      (λ later. asked_at (past ++ told) (after m spoken) more are.1 (each-right (MayAnswer listing commands) past told rest each) later)
    where
      told : List Entry
      told = entries_of m spoken

      rest : List Entry
      rest = transcript_of (after m spoken) more

      none : AllByRecursion HasNoWords (entries_all m spoken.events)
      none = all_wordless m spoken.events are.0.may

      here : Has (shown (accepted_for n) (entries_of m spoken)) command → Asked m (spoken ∷ more)
      here own =
          let asked = asked_before (past ++ Said spoken.words ∷ []) (entries_all m spoken.events) (each_first (MayAnswer listing commands) (past ++ Said spoken.words ∷ []) (entries_all m spoken.events) rest each.1) none own in
          let order : line_of (Said spoken.words) ≡ line.Command asked.order ∷ [] = sym (last_is past (Said spoken.words)) ∙ asked.last in
          let lines_are : lines_run (entries_of m spoken) ≡ line.Command asked.order ∷ [] = ap₂ (λ (a b : List Line). a ++ b) order (no_lines (entries_all m spoken.events) none) in
          record {
            first = spoken ∷ [];
            later = more;
            are = refl;
            has = subst (λ (l : List Entry). Has (shown (accepted_for n) l) command) (sym (append-nil (entries_of m spoken))) own;
            waits = λ ticks.
                let same : waited_by_for n ticks (lines_run (entries_of m spoken ++ transcript_of (after m spoken) more)) ≡ waited_by_for n 0 (lines_run (transcript_of (after m spoken) more)) =
                ap (λ (l : List Line). waited_by_for n ticks l) (lines_both (entries_of m spoken) (transcript_of (after m spoken) more) ∙ ap (λ (l : List Line). l ++ lines_run (transcript_of (after m spoken) more)) lines_are)
                ∙ ap (λ (b : Bool). waited_by_for n (if b then 0 else ticks) (lines_run (transcript_of (after m spoken) more))) (eq-eqb asked.order.node n asked.node) in
                let most = waited_most n 0 (lines_run (transcript_of (after m spoken) more)) in
                omega (arith, same, most);
          }

      there : Asked (after m spoken) more → Asked m (spoken ∷ more)
      there asked = record {
        first = spoken ∷ asked.first;
        later = asked.later;
        are = ap (λ (l : List Spoken). spoken ∷ l) asked.are;
        has = subst (λ (l : List ℕ). Has l command) (sym (shown_both (entries_of m spoken) (transcript_of (after m spoken) asked.first)))
            (has_right (shown (accepted_for n) (entries_of m spoken)) (shown (accepted_for n) (transcript_of (after m spoken) asked.first)) command asked.has);
        waits = λ ticks.
            let same : waited_by_for n ticks (lines_run (entries_of m spoken ++ transcript_of (after m spoken) more)) ≡ waited_by_for n (waited_by_for n ticks (lines_run (entries_of m spoken))) (lines_run (transcript_of (after m spoken) more)) =
            ap (λ (l : List Line). waited_by_for n ticks l) (lines_both (entries_of m spoken) (transcript_of (after m spoken) more)) ∙ waited_both n ticks (lines_run (entries_of m spoken)) (lines_run (transcript_of (after m spoken) more)) in
            let most = asked.waits (waited_by_for n ticks (lines_run (entries_of m spoken))) in
            omega (arith, same, most);
      }

      by : Has (shown (accepted_for n) (entries_of m spoken)) command ⊎ Has (shown (accepted_for n) (transcript_of (after m spoken) more)) command
          → (Has (shown (accepted_for n) (transcript_of (after m spoken) more)) command → Asked (after m spoken) more) → Asked m (spoken ∷ more)
      by (inl own) later = here own
      by (inr other) later = there (later other)

-- ---- the `wake` line of the node

one_line : (more : List Spoken) (m : Machine) (spoken : Spoken) → IsDone more m spoken → lines_run (entries_of m spoken) ≡ spoken.line ∷ []
one_line more m spoken is = ap₂ (λ (a b : List Line). a ++ b) is.read (no_lines (entries_all m spoken.events) (all_wordless m spoken.events is.may))

module _ (n : ℕ) where
  own_turns : (more : List Spoken) (m : Machine) (spoken : Spoken) → IsDone more m spoken → turns n (entries_of m spoken) ≡ turn_of n spoken.line
  own_turns more m spoken is = ap (λ (ls : List Line). flat_map (turn_of n) ls) (one_line more m spoken is) ∙ append-nil (turn_of n spoken.line)

  pub then_turns : (m : Machine) (spoken : Spoken) (more : List Spoken) → IsDone more m spoken → turns n (transcript_of m (spoken ∷ more)) ≡ turn_of n spoken.line ++ turns n (transcript_of (after m spoken) more)
  then_turns m spoken more is =
      turns_both n (entries_of m spoken) (transcript_of (after m spoken) more) ∙ ap (λ (ts : List Turn). ts ++ turns n (transcript_of (after m spoken) more)) (own_turns more m spoken is)

  -- where no line is of the node, none of its commands is accepted
  pub none_accepted : (listing : List Entry → ℕ → List ℕ) (commands : List Command) (command : ℕ) (past : List Entry) (m : Machine) (lines : List Spoken) → AreDone m lines → EachAfter (MayAnswer listing commands) past (transcript_of m lines)
      → turns n (transcript_of m lines) ≡ [] → Has (shown (accepted_for n) (transcript_of m lines)) command → ⊥
  none_accepted listing commands command past m [] are each none has = absurd has
  none_accepted listing commands command past m (spoken ∷ more) are each none has =
      by (which_turn n spoken.line) (has_either (shown (accepted_for n) told) (shown (accepted_for n) rest) command (subst (λ (l : List ℕ). Has l command) (flat_map-append (accepted_for n) told rest) has))
      (λ later rests. none_accepted listing commands command (past ++ told) (after m spoken) more are.1 (each-right (MayAnswer listing commands) past told rest each) rests later)
    where
      told : List Entry
      told = entries_of m spoken

      rest : List Entry
      rest = transcript_of (after m spoken) more

      both : (ts : List Turn) → turn_of n spoken.line ≡ ts → ts ++ turns n (transcript_of (after m spoken) more) ≡ []
      both ts is = sym (then_turns m spoken more are.0 ∙ ap (λ (l : List Turn). l ++ turns n (transcript_of (after m spoken) more)) is) ∙ none

      here : turn_of n spoken.line ≡ [] → Has (shown (accepted_for n) (entries_of m spoken)) command → ⊥
      here other own =
          let first = each_first (MayAnswer listing commands) (past ++ Said spoken.words ∷ []) (entries_all m spoken.events) rest each.1 in
          let asked = asked_before listing commands n command (past ++ Said spoken.words ∷ []) (entries_all m spoken.events) first (all_wordless m spoken.events are.0.may) own in
          let one : spoken.line ∷ [] ≡ line.Command asked.order ∷ [] = sym are.0.read ∙ (sym (last_is past (Said spoken.words)) ∙ asked.last) in
          let is : spoken.line ≡ line.Command asked.order = cc in
          let turn : turn_of n spoken.line ≡ Orders ∷ [] = ap (turn_of n) is ∙ ap (λ (b : Bool). if b then Orders ∷ [] else []) (eq-eqb asked.order.node n asked.node) in
          let wrong : [] ≡ Orders ∷ [] = sym other ∙ turn in
          absurd cc

      by : IsTurn n spoken.line → Has (shown (accepted_for n) (entries_of m spoken)) command ⊎ Has (shown (accepted_for n) (transcript_of (after m spoken) more)) command
          → (Has (shown (accepted_for n) (transcript_of (after m spoken) more)) command → turns n (transcript_of (after m spoken) more) ≡ [] → ⊥) → ⊥
      by (None_of is) (inl own) later = here is own
      by (None_of is) (inr other) later = later other (both [] is)
      by (An_order is) own later = absurd (let wrong = both (Orders ∷ []) is in cc)
      by (A_wake is) own later = absurd (let wrong = both (Wakes ∷ []) is in cc)

  -- the lines before it, and those after it
  pub record WokenAt (m : Machine) (lines : List Spoken) : Type 0 where
    pub first : List Spoken
    pub wake : Spoken
    pub later : List Spoken
    pub are : lines ≡ first ++ wake ∷ later
    pub wakes : turn_of n wake.line ≡ Wakes ∷ []
    pub none : turns n (transcript_of (after_all m (first ++ wake ∷ [])) later) ≡ []
    pub waits : (ticks : ℕ) → waited_by_for n ticks (lines_run (transcript_of m lines)) ≤ ticks_asked (lines_run (transcript_of (after_all m (first ++ wake ∷ [])) later))

  none_behind : (ts : List Turn) → wakes_last (Wakes ∷ ts) ≡ true → ts ≡ []
  none_behind [] last = refl
  none_behind (one ∷ ts) last = absurd (let wrong : false ≡ true = last in cc)

  -- a line that wakes it begins to wait anew
  anew : (ticks : ℕ) (one : Line) → turn_of n one ≡ Wakes ∷ [] → waited_step_for n ticks one ≡ 0
  anew ticks (line.Command order) is = absurd (by (order.node == n) is)
    where
      by : (b : Bool) → (if b then Orders ∷ [] else []) ≡ Wakes ∷ [] → ⊥
      by true wrong = cc
      by false wrong = cc
  anew ticks (line.Wake node) is = by (node == n) is
    where
      by : (b : Bool) → (if b then Wakes ∷ [] else []) ≡ Wakes ∷ [] → (if b then 0 else ticks) ≡ 0
      by true own = refl
      by false wrong = absurd cc
  anew ticks one is = absurd cc

  -- and asks for no tick
  no_ticks : (one : Line) → turn_of n one ≡ Wakes ∷ [] → ticks_of one ≡ 0
  no_ticks (line.Command order) is = refl
  no_ticks (line.Wake node) is = refl
  no_ticks one is = absurd cc

  pub wake_ticks : (m : Machine) (wake : Spoken) → IsDone [] m wake → turn_of n wake.line ≡ Wakes ∷ [] → ticks_asked (lines_run (transcript_of m (wake ∷ []))) ≡ 0
  wake_ticks m wake is wakes =
      let none = no_ticks wake.line wakes in
      let lines_are : lines_run (transcript_of m (wake ∷ [])) ≡ wake.line ∷ [] = ap lines_run (append-nil (entries_of m wake)) ∙ one_line [] m wake is in
      let all = ap ticks_asked lines_are in
      omega (arith, all, none)

  pub woken_at : (m : Machine) (lines : List Spoken) → AreDone m lines → wakes_last (turns n (transcript_of m lines)) ≡ true → WokenAt m lines
  woken_at m [] are last = absurd (let wrong : false ≡ true = last in cc)
  woken_at m (spoken ∷ more) are last = by (which_turn n spoken.line) (λ rest. there (woken_at (after m spoken) more are.1 rest))
    where
      split : (ts : List Turn) → turn_of n spoken.line ≡ ts → wakes_last (ts ++ turns n (transcript_of (after m spoken) more)) ≡ true
      split ts is = subst (λ (l : List Turn). wakes_last l ≡ true) (then_turns m spoken more are.0 ∙ ap (λ (l : List Turn). l ++ turns n (transcript_of (after m spoken) more)) is) last

      waited_first : (ticks : ℕ) → waited_by_for n ticks (lines_run (transcript_of m (spoken ∷ more))) ≡ waited_by_for n (waited_step_for n ticks spoken.line) (lines_run (transcript_of (after m spoken) more))
      waited_first ticks =
          ap (λ (l : List Line). waited_by_for n ticks l)
          (flat_map-append line_of (entries_of m spoken) (transcript_of (after m spoken) more) ∙ ap (λ (l : List Line). l ++ lines_run (transcript_of (after m spoken) more)) (one_line more m spoken are.0))

      there : WokenAt (after m spoken) more → WokenAt m (spoken ∷ more)
      there at = record {
        first = spoken ∷ at.first;
        wake = at.wake;
        later = at.later;
        are = ap (λ (l : List Spoken). spoken ∷ l) at.are;
        wakes = at.wakes;
        none = at.none;
        waits = λ ticks. let same = waited_first ticks in let most = at.waits (waited_step_for n ticks spoken.line) in omega (arith, same, most);
      }

      by : IsTurn n spoken.line → (wakes_last (turns n (transcript_of (after m spoken) more)) ≡ true → WokenAt m (spoken ∷ more)) → WokenAt m (spoken ∷ more)
      by (None_of is) rest = rest (split [] is)
      by (An_order is) rest = rest (split (Orders ∷ []) is)
      by (A_wake is) rest = record {
        first = [];
        wake = spoken;
        later = more;
        are = refl;
        wakes = is;
        none = none_behind (turns n (transcript_of (after m spoken) more)) (split (Wakes ∷ []) is);
        waits = λ ticks.
            let same = waited_first ticks in
            let anew_is = anew ticks spoken.line is in
            let most = waited_most n (waited_step_for n ticks spoken.line) (lines_run (transcript_of (after m spoken) more)) in
            omega (arith, same, anew_is, most);
      }

pub spoken_later : (m : Machine) (first later : List Spoken) → AreSpoken m (first ++ later) → AreSpoken (after_all m first) later
spoken_later m [] later are = are
spoken_later m (spoken ∷ first) later are = spoken_later (after m spoken) first later are.1
