-- The nodes at work in a stretch are those for which an order is accepted there, or waits before: each is joined, so that the lines are for these alone, and each lists Supervision.
use Rattle.std.proofs.Common.{◌≡◌, ◌⊎◌, ℕ, ◌+◌, ◌≤◌, ◌==◌, ◌&&◌, ◌||◌, not, Bool, true, false, if◌then◌else◌, List, [], ◌∷◌, ◌++◌, length, length-append, append-nil, append_assoc, arith, inl, inr, refl, sym, ap, ap₂, subst, ◌∙◌}
use Rattle.std.proofs.lemmas.Bool.{and_parts, eq-eqb, eqb-true, ne_eqb, false≢true, or_right}
use Rattle.std.proofs.lemmas.List.Concat.{flat_map-append}
use Rattle.std.proofs.lemmas.List.Folds.{list_all-append, list_any-append}
use Rattle.std.proofs.lemmas.Slice.Eq.{bytes_eq-Decides}
use Rattle.std.specs.Prelude.{Option, Some, filter, unwrap_or}
use Rattle.std.specs.List.{AllByRecursion, flat_map, list_all, list_any}
use Rattle.zw_base.proofs.Each.{all-weaker}
use Rattle.zw_text.specs.declared.line.Line.{Line}
use Rattle.zw_text.specs.declared.line.Line.TheVariants as lines
use Rattle.zw_text.specs.declared.entry.Entry.{Entry}
use Rattle.zw_text.specs.declared.entry.Entry.TheVariants.{Accepted, Refused}
use Rattle.zw_text.specs.declared.entry.Outcome.{Outcome}
use Rattle.zw_text.specs.declared.entry.Outcome.TheVariants.{Waiting}
use Rattle.zw_text.specs.Transcript.{Doing, accepted, accepted_number, accepted_numbers, doing_lines, doing_step, folded, interview_at, interviews, join_of, joined, line_of, lines_run, outcome, shown}
use Rattle.zw_text.proofs.Views.{folded-append, shown-append}
use Rattle.chip_sim.specs.Nodes.{is_marked}
use Rattle.host_orders.specs.Classes.{lists}
use Rattle.law_wire.specs.law_transcript.Commands.{before_accepted, classes_for, is_waiting, numbers_of, waiting}
use Rattle.law_wire.specs.law_transcript.Lists.{EachAfter, Has}
use Rattle.law_wire.specs.law_transcript.Nodes.{always, host_list, is_interviewed, is_joined, known_at_first, known_classes, listing_of}
use Rattle.law_wire.proofs.Having.{all_has, all_of, has_either, has_right, has_shown, shown_has}
use Rattle.law_time.specs.Interviews.{listens}
use Rattle.law_time.specs.Requests.{are_none}
use Rattle.law_time.specs.Sessions.{is_final}
use Rattle.law_time.specs.Stretches.{Turn, Orders, Wakes, accepted_for, are_listed, commands_in, is_open, is_quiet_line, is_taken_back, is_woken_so, open_commands, turn_of, turns, wakes_last, wakes_never, woken_by, workers}
use Rattle.proof_rests.specs.proof_attempts.proof_host.device_sim.State.{State}
use Rattle.proof_in_time.specs.proof_answered.Sleepers.{wakes_at_most_last}
use Rattle.proof_in_time.specs.proof_answered.Workers.{IsWorkedFor, is_accepted_for, is_line_for}
use Rattle.proof_in_time.proofs.Endings.{is_accepted, numbers_grow}
use Rattle.proof_ready.specs.LetIn.{IsLetIn, MayBeLetIn}
use Rattle.proof_ready.specs.Ready.{AreWorkers, OneSleeps, marks_of}
use Rattle.proof_rests.specs.proof_attempts.proof_host.Laws.{number_for, numbers_for}
use Rattle.proof_ready.proofs.Each.{any_that_has}
use Rattle.proof_ready.proofs.Marks.{marked_is}
use Rattle.proof_ready.proofs.Reading.{in_filter, of_one, out_filter, some_of}

-- ---- lists of numbers

has_any : (l : List ℕ) (n : ℕ) → list_any (λ one. one == n) l ≡ true → Has l n
has_any [] n is = absurd (false≢true is)
has_any (one ∷ more) n is = by (one == n) refl is (has_any more n)
  where
    by : (b : Bool) → (one == n) ≡ b → b || list_any (λ k. k == n) more ≡ true → (list_any (λ k. k == n) more ≡ true → Has more n) → Has (one ∷ more) n
    by true same is rest = inl (eqb-true one n same)
    by false other is rest = inr (rest is)

kept_in : (so : ℕ → Bool) (l : List ℕ) (n : ℕ) → list_any (λ one. one == n) l ≡ true → so n ≡ true → list_any (λ one. one == n) (filter so l) ≡ true
kept_in so l n has is = by (list_any (λ one. one == n) (filter so l)) refl
  where
    by : (b : Bool) → list_any (λ one. one == n) (filter so l) ≡ b → list_any (λ one. one == n) (filter so l) ≡ true
    by true kept = kept
    by false none = absurd (false≢true (sym (out_filter so l n none has) ∙ is))

some_not : (l : List ℕ) (c : ℕ) → Has l c → not (are_none l) ≡ true
some_not [] c has = absurd has
some_not (one ∷ more) c has = refl

none_in : (l : List ℕ) → ((n : ℕ) → list_any (λ one. one == n) l ≡ true → ⊥) → l ≡ []
none_in [] none = refl
none_in (n ∷ more) none = absurd (none n (any_that_has (n ∷ more) n (inl refl)))

all_true : (so : Entry → Bool) (l : List Entry) → AllByRecursion (λ (entry : Entry). so entry ≡ true) l → list_all so l ≡ true
all_true so [] all = refl
all_true so (entry ∷ more) all = ap₂ (λ (a b : Bool). a && b) all.0 (all_true so more all.1)

-- ---- quiet lines join no node

abbrev among : ℕ → List Line → Bool
among n done = list_any (λ one. one == n) (2 ∷ flat_map join_of done)

one_joins : (line : Line) → is_quiet_line line ≡ true → join_of line ≡ []
one_joins (lines.Join n) quiet = absurd (false≢true quiet)
one_joins line quiet = refl

none_joins : (ls : List Line) → list_all is_quiet_line ls ≡ true → flat_map join_of ls ≡ []
none_joins [] quiet = refl
none_joins (line ∷ ls) quiet =
    let both = and_parts (is_quiet_line line) (list_all is_quiet_line ls) quiet in
    ap₂ (λ (a b : List ℕ). a ++ b) (one_joins line both.0) (none_joins ls both.1)

same_among : (n : ℕ) (done ls : List Line) → list_all is_quiet_line ls ≡ true → among n (done ++ ls) ≡ among n done
same_among n done ls quiet =
    ap (λ (l : List ℕ). list_any (λ one. one == n) (2 ∷ l))
    (flat_map-append join_of done ls ∙ (ap (λ (l : List ℕ). flat_map join_of done ++ l) (none_joins ls quiet) ∙ append-nil (flat_map join_of done)))

among_more : (n : ℕ) (done ls : List Line) → among n done ≡ true → among n (done ++ ls) ≡ true
among_more n done ls has =
    ap (λ (l : List ℕ). list_any (λ one. one == n) (2 ∷ l)) (flat_map-append join_of done ls)
    ∙ (list_any-append (λ one. one == n) (2 ∷ flat_map join_of done) (flat_map join_of ls) ∙ ap (λ (b : Bool). b || list_any (λ one. one == n) (flat_map join_of ls)) has)

step_before : (n : ℕ) (doing : Doing) (entry : Entry) → list_all is_quiet_line (line_of entry) ≡ true → among n (doing_lines (doing_step doing entry)) ≡ true → among n (doing_lines doing) ≡ true
step_before n doing (Refused refusal) quiet has = among_more n doing.earlier doing.last (sym (ap (λ (l : List Line). among n l) (append-nil doing.earlier)) ∙ has)
step_before n doing entry quiet has = sym (same_among n (doing_lines doing) (line_of entry) quiet) ∙ has

joined_before : (past : List Entry) (entry : Entry) (n : ℕ) → list_all is_quiet_line (line_of entry) ≡ true → is_joined (past ++ entry ∷ []) n ≡ true → is_joined past n ≡ true
joined_before past entry n quiet is =
    let start : Doing = record { earlier = []; last = [] } in
    step_before n (folded doing_step start past) entry quiet (sym (ap (λ (doing : Doing). among n (doing_lines doing)) (folded-append doing_step start past (entry ∷ []))) ∙ is)

-- an order is accepted for a node that was joined before these entries
abbrev IsOfJoined : List Entry → Entry → Type 0
IsOfJoined past (Accepted command n) = is_joined past n ≡ true
IsOfJoined past entry = Unit {0}

of_joined_before : (past : List Entry) (entry : Entry) → list_all is_quiet_line (line_of entry) ≡ true → (one : Entry) → IsOfJoined (past ++ entry ∷ []) one → IsOfJoined past one
of_joined_before past entry quiet (Accepted command n) is = joined_before past entry n quiet is
of_joined_before past entry quiet one is = tt

of_joined : (listing : ℕ → List ℕ) (past : List Entry) (entry : Entry) → MayBeLetIn listing past entry → IsOfJoined past entry
of_joined listing past (Accepted command n) let_in = let_in.joined
of_joined listing past entry let_in = tt

all_joined : (listing : ℕ → List ℕ) (past told : List Entry) → list_all is_quiet_line (lines_run told) ≡ true → EachAfter (MayBeLetIn listing) past told → AllByRecursion (IsOfJoined past) told
all_joined listing past [] quiet each = tt
all_joined listing past (entry ∷ told) quiet each =
    let both = and_parts (list_all is_quiet_line (line_of entry)) (list_all is_quiet_line (lines_run told)) (sym (list_all-append is_quiet_line (line_of entry) (lines_run told)) ∙ quiet) in (
      of_joined listing past entry each.0,
      all-weaker (IsOfJoined (past ++ entry ∷ [])) (IsOfJoined past) (of_joined_before past entry both.0) told (all_joined listing (past ++ entry ∷ []) told both.1 each.1),
    )

accepted_joined : (past told : List Entry) (n c : ℕ) → AllByRecursion (IsOfJoined past) told → Has (shown (accepted_for n) told) c → is_joined past n ≡ true
accepted_joined past told n c all has =
    let at = shown_has (accepted_for n) told c has in
    subst (IsOfJoined past) (is_accepted n c at.by at.shows) (all_has (IsOfJoined past) told at.by all at.among)

-- ---- lines wake the node alone that sleeps, once

none_wakes : (n : ℕ) (ls : List Line) → wakes_never (flat_map (turn_of n) ls) ≡ true → list_any (λ one. one == n) (flat_map woken_by ls) ≡ true → ⊥
none_wakes n [] never woken = false≢true woken
none_wakes n (lines.Wake of ∷ ls) never woken = by (of == n) never woken (none_wakes n ls)
  where
    by : (b : Bool) → wakes_never ((if b then Wakes ∷ [] else []) ++ flat_map (turn_of n) ls) ≡ true → b || list_any (λ one. one == n) (flat_map woken_by ls) ≡ true
        → (wakes_never (flat_map (turn_of n) ls) ≡ true → list_any (λ one. one == n) (flat_map woken_by ls) ≡ true → ⊥) → ⊥
    by true never woken rest = false≢true never
    by false never woken rest = rest never woken
none_wakes n (lines.Command order ∷ ls) never woken = by (order.node == n) never (λ never. none_wakes n ls never woken)
  where
    by : (b : Bool) → wakes_never ((if b then Orders ∷ [] else []) ++ flat_map (turn_of n) ls) ≡ true → (wakes_never (flat_map (turn_of n) ls) ≡ true → ⊥) → ⊥
    by true never rest = rest never
    by false never rest = rest never
none_wakes n (line ∷ ls) never woken = none_wakes n ls never woken

-- each that lines wake is one of these
lines_for : (these : List Bool) (ls : List Line) → ((n : ℕ) → list_any (λ one. one == n) (flat_map woken_by ls) ≡ true → is_marked these n ≡ true) → list_all (is_line_for these) ls ≡ true
lines_for these [] woken = refl
lines_for these (lines.Wake of ∷ ls) woken =
    ap₂ (λ (a b : Bool). a && b) (woken of (any_that_has (of ∷ flat_map woken_by ls) of (inl refl))) (lines_for these ls (λ n has. woken n (or_right (of == n) (list_any (λ one. one == n) (flat_map woken_by ls)) has)))
lines_for these (line ∷ ls) woken = lines_for these ls woken

-- one node alone that is woken last is woken once at most
last_wakes : (n : ℕ) (ls : List Line) → wakes_at_most_last (flat_map (turn_of n) ls) ≡ true → ((k : ℕ) → list_any (λ one. one == k) (flat_map woken_by ls) ≡ true → k ≡ n)
    → length (flat_map woken_by ls) ≤ 1
last_wakes n [] last alone = omega arith
last_wakes n (lines.Wake of ∷ ls) last alone =
    let is : of ≡ n = alone of (any_that_has (of ∷ flat_map woken_by ls) of (inl refl)) in
    let none : flat_map (turn_of n) ls ≡ [] =
    nothing_more (flat_map (turn_of n) ls) (sym (ap (λ (b : Bool). wakes_at_most_last ((if b then Wakes ∷ [] else []) ++ flat_map (turn_of n) ls)) (eq-eqb of n is)) ∙ last) in
    let never : wakes_never (flat_map (turn_of n) ls) ≡ true = ap (λ (ts : List Turn). wakes_never ts) none in
    let rest : flat_map woken_by ls ≡ [] =
    none_in (flat_map woken_by ls)
    (λ k has.
    none_wakes n ls never
    (subst (λ (j : ℕ). list_any (λ one. one == j) (flat_map woken_by ls) ≡ true) (alone k (or_right (of == k) (list_any (λ one. one == k) (flat_map woken_by ls)) has)) has)) in
    subst (λ (l : List ℕ). length (of ∷ l) ≤ 1) (sym rest) (omega arith)
  where
    nothing_more : (ts : List Turn) → wakes_at_most_last (Wakes ∷ ts) ≡ true → ts ≡ []
    nothing_more [] is = refl
    nothing_more (one ∷ ts) is = absurd (false≢true is)
last_wakes n (lines.Command order ∷ ls) last alone = by (order.node == n) last (λ later. last_wakes n ls later alone)
  where
    by : (b : Bool) → wakes_at_most_last ((if b then Orders ∷ [] else []) ++ flat_map (turn_of n) ls) ≡ true
        → (wakes_at_most_last (flat_map (turn_of n) ls) ≡ true → length (flat_map woken_by ls) ≤ 1) → length (flat_map woken_by ls) ≤ 1
    by true last rest = rest last
    by false last rest = rest last
last_wakes n (line ∷ ls) last alone = last_wakes n ls last alone

-- ---- who is woken

-- a node that has a command and does not listen is woken last
record SleepsAtWork (past stretch : List Entry) (n : ℕ) : Type 0 where
  pub some : not (are_none (commands_in past stretch n)) ≡ true
  pub sleeps : listens n past ≡ false
  pub last : wakes_last (turns n stretch) ≡ true

-- and any other never
either_woken : (past stretch : List Entry) (n : ℕ) → is_woken_so past stretch n ≡ true → SleepsAtWork past stretch n ⊎ (wakes_never (turns n stretch) ≡ true)
either_woken past stretch n so = by (not (are_none (commands_in past stretch n))) (listens n past) refl refl so
  where
    by : (a b : Bool) → not (are_none (commands_in past stretch n)) ≡ a → listens n past ≡ b → (if a && not b then wakes_last (turns n stretch) else wakes_never (turns n stretch)) ≡ true
        → SleepsAtWork past stretch n ⊎ (wakes_never (turns n stretch) ≡ true)
    by true false some sleeps last = inl (record { some = some; sleeps = sleeps; last = last })
    by true true some hears never = inr never
    by false b none hears never = inr never

woken_parts : (past stretch : List Entry) → list_all (is_woken_so past stretch) (joined past ++ flat_map woken_by (lines_run stretch)) ≡ true
    → (list_all (is_woken_so past stretch) (joined past) ≡ true) × (list_all (is_woken_so past stretch) (flat_map woken_by (lines_run stretch)) ≡ true)
woken_parts past stretch woken =
    and_parts (list_all (is_woken_so past stretch) (joined past)) (list_all (is_woken_so past stretch) (flat_map woken_by (lines_run stretch)))
    (sym (list_all-append (is_woken_so past stretch) (joined past) (flat_map woken_by (lines_run stretch))) ∙ woken)

pub woken_last : (past stretch : List Entry) → list_all (is_woken_so past stretch) (joined past ++ flat_map woken_by (lines_run stretch)) ≡ true → (n c : ℕ) → is_joined past n ≡ true
    → Has (commands_in past stretch n) c → listens n past ≡ false → wakes_last (turns n stretch) ≡ true
woken_last past stretch woken n c joined_so has sleeps =
    sym (ap₂ (λ (a b : Bool). if a && not b then wakes_last (turns n stretch) else wakes_never (turns n stretch)) (some_not (commands_in past stretch n) c has) sleeps)
    ∙ of_one (is_woken_so past stretch) (joined past) n (woken_parts past stretch woken).0 joined_so

-- ---- the stretch

module _ (listing : ℕ → List ℕ) (past stretch : List Entry) (each : EachAfter (MayBeLetIn listing) past stretch) (quiet : list_all is_quiet_line (lines_run stretch) ≡ true)
    (unasked : (n : ℕ) → is_joined past n ≡ false → waiting n past ≡ []) (within : (n : ℕ) → is_joined past n ≡ true → n ≤ 232) where
  -- one that has a command is joined
  joined_of : (n c : ℕ) → Has (commands_in past stretch n) c → is_joined past n ≡ true
  joined_of n c has = by (is_joined past n) refl
    where
      by : (b : Bool) → is_joined past n ≡ b → is_joined past n ≡ true
      by true is = is
      by false apart =
          accepted_joined past stretch n c (all_joined listing past stretch quiet each) (subst (λ (l : List ℕ). Has (l ++ shown (accepted_for n) stretch) c) (unasked n apart) has)

  -- and so it is at work
  works : (n c : ℕ) → Has (commands_in past stretch n) c → is_marked (marks_of (workers past stretch)) n ≡ true
  works n c has =
      let joined_so = joined_of n c has in
      marked_is (workers past stretch) n (within n joined_so)
      ∙ kept_in (λ node. not (are_none (commands_in past stretch node))) (joined past) n joined_so (some_not (commands_in past stretch n) c has)

  accepted_is : (n c : ℕ) → Has stretch (Accepted c n) → is_marked (marks_of (workers past stretch)) n ≡ true
  accepted_is n c has =
      let own : Has (accepted_for n (Accepted c n)) c = subst (λ (b : Bool). Has (if b then c ∷ [] else []) c) (sym (eq-eqb n n refl)) (inl refl) in
      works n c (has_right (waiting n past) (shown (accepted_for n) stretch) c (has_shown (accepted_for n) stretch (Accepted c n) c has own))

  one_accepted : (entry : Entry) → Has stretch entry → is_accepted_for (marks_of (workers past stretch)) entry ≡ true
  one_accepted (Accepted c n) has = accepted_is n c has
  one_accepted entry has = refl

  module _ (are : AreWorkers (marks_of (workers past stretch)) past) (woken : list_all (is_woken_so past stretch) (joined past ++ flat_map woken_by (lines_run stretch)) ≡ true) where
    -- each that lines wake is at work, and sleeps
    woken_sleeps : (n : ℕ) → list_any (λ one. one == n) (flat_map woken_by (lines_run stretch)) ≡ true → SleepsAtWork past stretch n
    woken_sleeps n has = by (either_woken past stretch n (of_one (is_woken_so past stretch) (flat_map woken_by (lines_run stretch)) n (woken_parts past stretch woken).1 has))
      where
        by : SleepsAtWork past stretch n ⊎ (wakes_never (turns n stretch) ≡ true) → SleepsAtWork past stretch n
        by (inl sleeps) = sleeps
        by (inr never) = absurd (none_wakes n (lines_run stretch) never has)

    woken_works : (n : ℕ) → list_any (λ one. one == n) (flat_map woken_by (lines_run stretch)) ≡ true → is_marked (marks_of (workers past stretch)) n ≡ true
    woken_works n has = let one = some_of (commands_in past stretch n) (woken_sleeps n has).some in works n one.0 one.1

    module _ (last : (n : ℕ) (told : List Entry) → wakes_last (turns n told) ≡ true → wakes_at_most_last (turns n told) ≡ true)
        (never : (n : ℕ) (told : List Entry) → wakes_never (turns n told) ≡ true → wakes_at_most_last (turns n told) ≡ true) where
      at_most_last : (n : ℕ) → is_marked (marks_of (workers past stretch)) n ≡ true → wakes_at_most_last (turns n stretch) ≡ true
      at_most_last n marked = by (either_woken past stretch n (of_one (is_woken_so past stretch) (joined past) n (woken_parts past stretch woken).0 (are.joined n marked)))
        where
          by : SleepsAtWork past stretch n ⊎ (wakes_never (turns n stretch) ≡ true) → wakes_at_most_last (turns n stretch) ≡ true
          by (inl sleeps) = last n stretch sleeps.last
          by (inr none) = never n stretch none

      few_woken : length (flat_map woken_by (lines_run stretch)) ≤ 1
      few_woken = by are.hear
        where
          by : ((n : ℕ) → is_marked (marks_of (workers past stretch)) n ≡ true → listens n past ≡ true) ⊎ OneSleeps (marks_of (workers past stretch)) past
              → length (flat_map woken_by (lines_run stretch)) ≤ 1
          by (inl listen) =
              let none : flat_map woken_by (lines_run stretch) ≡ [] =
              none_in (flat_map woken_by (lines_run stretch)) (λ n has. false≢true (sym (woken_sleeps n has).sleeps ∙ listen n (woken_works n has))) in
              subst (λ (l : List ℕ). length l ≤ 1) (sym none) (omega arith)
          by (inr one) = last_wakes one.node (lines_run stretch) (at_most_last one.node one.alone.marked) (λ n has. one.alone.only n (woken_works n has))

      pub worked : IsWorkedFor (marks_of (workers past stretch)) stretch
      worked = record {
        stretched = record { quiet = quiet; few = let one = few_woken in omega (arith, one) };
        lines = lines_for (marks_of (workers past stretch)) (lines_run stretch) woken_works;
        accepted = all_true (is_accepted_for (marks_of (workers past stretch))) stretch (all_of (λ (entry : Entry). is_accepted_for (marks_of (workers past stretch)) entry ≡ true) stretch one_accepted);
        woken = at_most_last;
      }

-- ---- Supervision

module _ (listing : ℕ → List ℕ) (n c : ℕ) where
  -- what is known to be listed is known later
  known_then : (past : List Entry) (entry : Entry) → known_classes (always listing) past n ≡ Some (listing n) → known_classes (always listing) (past ++ entry ∷ []) n ≡ Some (listing n)
  known_then past entry known =
      ap (λ (b : Bool). if b then Some (listing n) else known_at_first n)
      (ap (λ (l : List Bool). list_any (λ succeeded. succeeded) l) (shown-append (interview_at n) past (entry ∷ [])) ∙ list_any-append (λ (succeeded : Bool). succeeded) (interviews n past) (shown (interview_at n) (entry ∷ [])))
      ∙ by (is_interviewed past n) (list_any (λ succeeded. succeeded) (shown (interview_at n) (entry ∷ []))) known
    where
      by : (a b : Bool) → (if a then Some (listing n) else known_at_first n) ≡ Some (listing n) → (if a || b then Some (listing n) else known_at_first n) ≡ Some (listing n)
      by true b is = refl
      by false true is = refl
      by false false is = is

  -- so an order that is accepted later was let in for a node with this list
  pub accepted_lists : (past told : List Entry) → known_classes (always listing) past n ≡ Some (listing n) → EachAfter (MayBeLetIn listing) past told → Has (shown (accepted_for n) told) c
      → lists (listing n) 0x6C ≡ true
  accepted_lists past [] known each has = absurd has
  accepted_lists past (entry ∷ told) known each has =
      by (has_either (accepted_for n entry) (shown (accepted_for n) told) c has) (accepted_lists (past ++ entry ∷ []) told (known_then past entry known) each.1)
    where
      by : Has (accepted_for n entry) c ⊎ Has (shown (accepted_for n) told) c → (Has (shown (accepted_for n) told) c → lists (listing n) 0x6C ≡ true) → lists (listing n) 0x6C ≡ true
      by (inl own) rest =
          let let_in : IsLetIn listing past c n = subst (MayBeLetIn listing past) (is_accepted n c entry own) each.0 in
          sym (ap (λ (o : Option (List ℕ)). lists (unwrap_or o []) 0x6C) known) ∙ let_in.supervised
      by (inr later) rest = rest later

  -- a number that comes later is above
  above : (past told : List Entry) → EachAfter (MayBeLetIn listing) past told → Has (shown (accepted_for n) told) c → length (accepted_numbers past) + 1 ≤ c
  above past [] each has = absurd has
  above past (entry ∷ told) each has = by (has_either (accepted_for n entry) (shown (accepted_for n) told) c has) (above (past ++ entry ∷ []) told each.1)
    where
      by : Has (accepted_for n entry) c ⊎ Has (shown (accepted_for n) told) c → (Has (shown (accepted_for n) told) c → length (accepted_numbers (past ++ entry ∷ [])) + 1 ≤ c)
          → length (accepted_numbers past) + 1 ≤ c
      by (inl own) rest =
          let let_in : IsLetIn listing past c n = subst (MayBeLetIn listing past) (is_accepted n c entry own) each.0 in
          let number = let_in.number in
          omega (arith, number)
      by (inr later) rest =
          let far = rest later in
          let more = numbers_grow past (entry ∷ []) in
          omega (arith, far, more)

  skips : (past : List Entry) (entry : Entry) (told : List Entry) → MayBeLetIn listing past entry → length (accepted_numbers (past ++ entry ∷ [])) + 1 ≤ c → before_accepted c (entry ∷ told) ≡ entry ∷ before_accepted c told
  skips past (Accepted number node) told let_in far =
      let is : number ≡ length (accepted_numbers past) + 1 = let_in.number in
      let grown : length (accepted_numbers (past ++ Accepted number node ∷ [])) ≡ length (accepted_numbers past) + 1 =
      ap (λ (l : List ℕ). length l) (shown-append accepted_number past (Accepted number node ∷ [])) ∙ length-append (accepted_numbers past) (number ∷ []) in
      ap (λ (b : Bool). if b then [] else Accepted number node ∷ before_accepted c told) (ne_eqb number c (λ same. omega (arith, same, is, grown, far)))
  skips past entry told let_in far = refl

  -- what the host took the node to list as it accepted the command
  listed_then : (past told : List Entry) → EachAfter (MayBeLetIn listing) past told → Has (shown (accepted_for n) told) c → lists (host_list (always listing) (past ++ before_accepted c told) n) 0x6C ≡ true
  listed_then past [] each has = absurd has
  listed_then past (entry ∷ told) each has = by (has_either (accepted_for n entry) (shown (accepted_for n) told) c has) (listed_then (past ++ entry ∷ []) told each.1)
    where
      by : Has (accepted_for n entry) c ⊎ Has (shown (accepted_for n) told) c
          → (Has (shown (accepted_for n) told) c → lists (host_list (always listing) ((past ++ entry ∷ []) ++ before_accepted c told) n) 0x6C ≡ true)
          → lists (host_list (always listing) (past ++ before_accepted c (entry ∷ told)) n) 0x6C ≡ true
      by (inl own) rest =
          let is : entry ≡ Accepted c n = is_accepted n c entry own in
          let let_in : IsLetIn listing past c n = subst (MayBeLetIn listing past) is each.0 in
          let none : before_accepted c (entry ∷ told) ≡ [] =
          ap (λ (e : Entry). before_accepted c (e ∷ told)) is ∙ ap (λ (b : Bool). if b then [] else Accepted c n ∷ before_accepted c told) (eq-eqb c c refl) in
          subst (λ (l : List Entry). lists (host_list (always listing) l n) 0x6C ≡ true) (sym (ap (λ (l : List Entry). past ++ l) none ∙ append-nil past)) let_in.supervised
      by (inr later) rest =
          subst (λ (l : List Entry). lists (host_list (always listing) l n) 0x6C ≡ true)
          (append_assoc past (entry ∷ []) (before_accepted c told)
          ∙ ap (λ (l : List Entry). past ++ l) (sym (skips past entry told each.0 (above (past ++ entry ∷ []) told each.1 later))))
          (rest later)

-- ---- a command that waits

number_is : (n : ℕ) (entry : Entry) → number_for n entry ≡ accepted_for n entry
number_is n (Accepted command node) = refl
number_is n entry = refl

pub numbers_are : (n : ℕ) (past : List Entry) → numbers_for n past ≡ shown (accepted_for n) past
numbers_are n [] = refl
numbers_are n (entry ∷ past) = ap₂ (λ (a b : List ℕ). a ++ b) (number_is n entry) (numbers_are n past)

waiting_open : (o : Outcome) → is_waiting o ≡ true → not (is_final o) && not (is_taken_back o) ≡ true
waiting_open Waiting is = refl
waiting_open o is = absurd (false≢true is)

-- the host knew of the node what its device lists as it accepted a command that is open
pub open_known : (devices now : List State) (past : List Entry) (n c : ℕ) → listing_of now n ≡ listing_of devices n
    → list_all (λ number. are_listed now n (Some (classes_for (always (listing_of now)) past n number))) (open_commands n past) ≡ true → Has (shown (accepted_for n) past) c → is_open past c ≡ true
    → classes_for (always (listing_of devices)) past n c ≡ listing_of devices n
open_known devices now past n c same listed has opens =
    let opened = kept_in (is_open past) (shown (accepted_for n) past) c (any_that_has (shown (accepted_for n) past) c has) opens in
    let so : are_listed now n (Some (classes_for (always (listing_of now)) past n c)) ≡ true =
    of_one (λ number. are_listed now n (Some (classes_for (always (listing_of now)) past n number))) (open_commands n past) c listed opened in
    let is : classes_for (always (listing_of now)) past n c ≡ listing_of now n = (bytes_eq-Decides (classes_for (always (listing_of now)) past n c) (listing_of now n)).0 so in
    let then_so : classes_for (always (listing_of devices)) past n c ≡ classes_for (always (listing_of now)) past n c =
    ap (λ (l : List ℕ). unwrap_or (if is_interviewed (before_accepted c past) n then Some l else known_at_first n) []) (sym same) in
    then_so ∙ (is ∙ same)

-- it was accepted for a node that is known to list what it did then
pub waiting_lists : (devices now : List State) (past : List Entry) (n c : ℕ) → listing_of now n ≡ listing_of devices n → EachAfter (MayBeLetIn (listing_of devices)) [] past → numbers_of (accepted n past) ≡ numbers_for n past
    → list_all (λ number. are_listed now n (Some (classes_for (always (listing_of now)) past n number))) (open_commands n past) ≡ true → Has (waiting n past) c → lists (listing_of devices n) 0x6C ≡ true
waiting_lists devices now past n c same each numbers listed waits =
    let both = in_filter (λ number. is_waiting (outcome number past)) (numbers_of (accepted n past)) c (any_that_has (waiting n past) c waits) in
    let among : list_any (λ one. one == c) (shown (accepted_for n) past) ≡ true = sym (ap (λ (l : List ℕ). list_any (λ one. one == c) l) (numbers ∙ numbers_are n past)) ∙ both.0 in
    let has : Has (shown (accepted_for n) past) c = has_any (shown (accepted_for n) past) c among in
    sym (ap (λ (l : List ℕ). lists l 0x6C) (open_known devices now past n c same listed has (waiting_open (outcome c past) both.1))) ∙ listed_then (listing_of devices) n c [] past each has
