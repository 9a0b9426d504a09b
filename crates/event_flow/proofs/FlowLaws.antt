-- What holds after every list of lines.
use Rattle.std.proofs.Common.{◌≡◌, ℕ, suc, ◌≤◌, List, [], ◌∷◌, ◌++◌, length, ap, sym, subst, ◌∙◌, arith, append_assoc, append-nil}
use Rattle.std.specs.Prelude.{All}
use Rattle.zw_text.specs.Line.{IsNode}
use Rattle.event_flow.specs.declared.line.EventLine.{EventLine}
use Rattle.event_flow.specs.State.{FlowState, NodeState, node_of, all_silent, known_count}
use Rattle.event_flow.specs.Steps.{after, entries}
use Rattle.event_flow.specs.Flow.{Ran, NamesNode, FlowOf, Flow, run, after_all, count_up, taken_in, known_in, refusal_in, refusal_of}
use Rattle.event_flow.proofs.Facts.{NodeInv, known_taken}
use Rattle.event_flow.proofs.Whole.{Facts, Told, Facts-line, Facts-start, length-count_up}
use Rattle.event_flow.proofs.Refusals.{line-refusal}

first_good : (line : EventLine) (more : List EventLine) → All NamesNode (line ∷ more) → NamesNode line
first_good line more good = good 0 line (omega arith)

others_good : (line : EventLine) (more : List EventLine) → All NamesNode (line ∷ more) → All NamesNode more
others_good line more good = λ k d within. good (suc k) d (omega (arith, within))

pub Facts-run : (T : List Ran) (w : FlowState) (lines : List EventLine) → All NamesNode lines → Facts T w → Facts (T ++ run w lines) (after_all w lines)
Facts-run T w [] good facts = subst (λ U. Facts U w) (sym (append-nil T)) facts
Facts-run T w (line ∷ more) good facts =
    let ran : Ran = record { line = line; entries = entries w line } in
    subst (λ U. Facts U (after_all (after w line) more)) (append_assoc T (ran ∷ []) (run (after w line) more))
    (Facts-run (T ++ ran ∷ []) (after w line) more (others_good line more good) (Facts-line T w line (first_good line more good) facts))

-- a place in a run: what stood before it, and the line that was run there
record Place (T before : List Ran) : Type 0 where
  state : FlowState
  facts : Facts (T ++ before) state

-- a prefix of a run is a run
prefix_facts : (T : List Ran) (w : FlowState) (lines : List EventLine) → All NamesNode lines → Facts T w → (before rest : List Ran) → run w lines ≡ before ++ rest → Place T before
prefix_facts T w lines good facts [] rest e = record { state = w; facts = subst (λ U. Facts U w) (sym (append-nil T)) facts }
prefix_facts T w [] good facts (ran ∷ before) rest e = absurd (grind arith)
prefix_facts T w (line ∷ more) good facts (ran ∷ before) rest e =
    let first : Ran = record { line = line; entries = entries w line } in
    let parts = cons_is first ran (run (after w line) more) (before ++ rest) e in
    let place = prefix_facts (T ++ first ∷ []) (after w line) more (others_good line more good) (Facts-line T w line (first_good line more good) facts) before rest parts.1 in
    record {
      state = place.state;
      facts = subst (λ U. Facts U place.state) (append_assoc T (first ∷ []) before ∙ ap (λ (r : Ran). T ++ (r ∷ before)) parts.0) place.facts;
    }
  where
    cons_is : (a b : Ran) (xs ys : List Ran) → a ∷ xs ≡ b ∷ ys → (a ≡ b) × (xs ≡ ys)
    cons_is a b xs ys e = (cc, cc)

-- each line is refused as the transcript before it asks
refusals : (T : List Ran) (w : FlowState) (lines : List EventLine) → All NamesNode lines → Facts T w → (before rest : List Ran) (ran : Ran) → run w lines ≡ before ++ ran ∷ rest → refusal_in ran.entries ≡ refusal_of (T ++ before) ran.line
refusals T w [] good facts [] rest ran e = absurd (grind arith)
refusals T w [] good facts (r ∷ before) rest ran e = absurd (grind arith)
refusals T w (line ∷ more) good facts [] rest ran e =
    let first : Ran = record { line = line; entries = entries w line } in
    let same : first ≡ ran = cons_first first ran (run (after w line) more) rest e in
    subst (λ (r : Ran). refusal_in r.entries ≡ refusal_of (T ++ []) r.line) same
    (subst (λ U. refusal_in (entries w line) ≡ refusal_of U line) (sym (append-nil T)) (line-refusal T w line (first_good line more good) facts))
  where
    cons_first : (a b : Ran) (xs ys : List Ran) → a ∷ xs ≡ b ∷ ys → a ≡ b
    cons_first a b xs ys e = cc
refusals T w (line ∷ more) good facts (r ∷ before) rest ran e =
    let first : Ran = record { line = line; entries = entries w line } in
    let parts = cons_is first r (run (after w line) more) (before ++ ran ∷ rest) e in
    subst (λ U. refusal_in ran.entries ≡ refusal_of U ran.line) (append_assoc T (first ∷ []) before ∙ ap (λ (x : Ran). T ++ (x ∷ before)) parts.0)
    (refusals (T ++ first ∷ []) (after w line) more (others_good line more good) (Facts-line T w line (first_good line more good) facts) before rest ran parts.1)
  where
    cons_is : (a b : Ran) (xs ys : List Ran) → a ∷ xs ≡ b ∷ ys → (a ≡ b) × (xs ≡ ys)
    cons_is a b xs ys e = (cc, cc)

-- what is known was taken
known_is_taken : (node : ℕ) (T : List Ran) (n : NodeState) → Told node T n → NodeInv n → length (known_in node T) ≤ length (taken_in node T)
known_is_taken node T n told inv =
    let known : length (known_in node T) ≡ known_count n = ap (λ xs. length xs) told.known ∙ length-count_up (known_count n) in
    let taken : length (taken_in node T) ≡ length n.taken = ap (λ xs. length xs) told.taken in
    omega (arith, known, taken, known_taken n inv.loose)

node_flows : (lines : List EventLine) → All NamesNode lines → (node : ℕ) → IsNode 1 node → FlowOf node (run all_silent lines)
node_flows lines good node there =
    let facts = Facts-run [] all_silent lines good Facts-start in
    let told = facts.told node there in
    let inv = facts.nodes node there in
    let prefix = inv.loose.prefix in
    record {
      in_order = (prefix.0, told.queued ∙ prefix.1 ∙ ap (λ xs. xs ++ prefix.0) (sym told.taken));
      numbers = told.numbers ∙ ap (λ xs. count_up (length xs)) (sym told.queued);
      known = told.known ∙ ap count_up (sym (ap (λ xs. length xs) told.known ∙ length-count_up (known_count (node_of (after_all all_silent lines).nodes node))));
      after_taken = λ before rest e.
          let place = prefix_facts [] all_silent lines good Facts-start before rest e in
          known_is_taken node before (node_of place.state.nodes node) (place.facts.told node there) (place.facts.nodes node there);
    }

pub flows : (lines : List EventLine) → All NamesNode lines → Flow (run all_silent lines)
flows lines good = record {
  nodes = node_flows lines good;
  refusals = refusals [] all_silent lines good Facts-start;
}
