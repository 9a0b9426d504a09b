-- After a pump the host writes nothing in another: it lets no node sleep, unless a request is under way or the line is busy.
use Rattle.std.proofs.Common.{◌≡◌, ℕ, ◌&&◌, Bool, true, false, if◌then◌else◌, List, [], ◌∷◌, length, inl, inr, refl, sym, ap, ◌∙◌, subst, arith}
use Rattle.std.specs.Prelude.{Option, Some, None, slice_set}
use Rattle.std.proofs.lemmas.Bool.{cases_eq, cases_lt}
use Rattle.std.proofs.lemmas.List.{get_or_past, get_or-set_same, get_or-set_other, length-set}
use Rattle.host_requests.specs.declared.task.Task.{Task}
use Rattle.host_node.specs.State.{NodeState, unknown, wants_no_more}
use Rattle.host_node.specs.Steps.{after_begin, after_block}
use Rattle.host_node.specs.TableState.{node_of as node_among}
use Rattle.host_node.specs.Search.{first_wanting}
use Rattle.host_node.proofs.Searches.{no_least_is_found, where_is_none}
use Rattle.proof_world.specs.host_model.State.{HostState}
use Rattle.proof_world.specs.host_model.After.{after, is_busy, is_full}
use Rattle.proof_world.specs.host_model.Did.{outs_all}
use Rattle.proof_world.specs.host_model.May.{IsFree}
use Rattle.proof_world.specs.host_model.Events.{HostEvent, Queues_no_more, Drops_no_more, Submits_abort, Submits_front, Starts, Gives_text, Gives_segment}
use Rattle.proof_world.specs.host_model.Pumping.{no_more_event, IsNextOfNodes, IsNextOf, IsNext, IsPumped}
use Rattle.proof_world.proofs.Submitted.{SubmittedAre, next_is}
use Rattle.proof_world.specs.proof_serial.Line.{host_units}
use Rattle.proof_line.specs.Linked.{IsQuiet, WantsNone}
use Rattle.proof_line.proofs.Filling.{never}

-- ---- no node wants that there is no more for it

module _ (nodes : List NodeState) (n : ℕ) (state : NodeState) where
  abbrev changed : List NodeState
  changed = slice_set nodes n state

  here : (wants_no_more (node_among nodes n) ≡ false → wants_no_more state ≡ false) → wants_no_more (node_among nodes n) ≡ false → wants_no_more (node_among changed n) ≡ false
  here stays none = elim (cases_lt n (length nodes)) [
    | inl within ↦ ap wants_no_more (get_or-set_same nodes n state (unknown 0) within) ∙ stays none
    | inr beyond ↦ ap wants_no_more (get_or_past changed n (unknown 0) (omega (arith, beyond, length-set nodes n state))) ∙ ap wants_no_more (sym (get_or_past nodes n (unknown 0) beyond)) ∙ none
  ]

  -- nor then, where this one does not either
  none_wants : (wants_no_more (node_among nodes n) ≡ false → wants_no_more state ≡ false) → first_wanting nodes ≡ None → first_wanting changed ≡ None
  none_wants stays none =
      let all = where_is_none (λ (k : ℕ). wants_no_more (node_among nodes k)) 0 none in
      no_least_is_found (λ (k : ℕ). wants_no_more (node_among changed k)) 0 (λ k above below. elim (cases_eq k n) [
        | inl same ↦
            subst (λ (j : ℕ). wants_no_more (node_among changed j) ≡ false) (sym same)
            (here stays (subst (λ (j : ℕ). wants_no_more (node_among nodes j) ≡ false) same (all.all k (omega (arith, above)) (omega (arith, above, below)))))
        | inr other ↦ ap wants_no_more (get_or-set_other nodes n k state (unknown 0) other) ∙ all.all k (omega (arith, above)) (omega (arith, above, below))
      ])

-- one whose session begins does not
begun_wants : (node : NodeState) → wants_no_more (after_begin node) ≡ false
begun_wants node = six (after_begin node).awake _ _ _ _ _
  where
    six : (a b c d e g : Bool) → (a && b && c && d && e && false && g) ≡ false
    six false b c d e g = refl
    six true false c d e g = refl
    six true true false d e g = refl
    six true true true false e g = refl
    six true true true true false g = refl
    six true true true true true g = refl

-- ---- what a pump submits

-- a request is under way then
busy : (h : HostState) → is_busy h.side.turn ≡ true → WantsNone h
busy h is = inl (λ (free : IsFree h). never (is_busy h.side.turn) free.free_line is)

pub next_wants : (h : HostState) (event : HostEvent) → IsNext h event → WantsNone h → WantsNone (after h event)
next_wants h event is (inl busy_so) = absurd (busy_so is.0)
next_wants h event is (inr none) = next_is (λ (e : HostEvent). WantsNone (after h e)) each h event is
  where
    each : SubmittedAre (λ (e : HostEvent). WantsNone (after h e))
    each = record {
      abort = busy (after h Submits_abort) refl;
      front = busy (after h Submits_front) refl;
      starts = λ n plan more payload. busy (after h (Starts n plan more payload)) refl;
      text = λ n payload. busy (after h (Gives_text n payload)) refl;
      segment = λ n more payload. busy (after h (Gives_segment n more payload)) refl;
      begins = λ n session command. inr (none_wants h.nodes n (after_begin (node_among h.nodes n)) (λ wants. begun_wants (node_among h.nodes n)) none);
      unkept = λ n. inr (none_wants h.nodes n (after_block (node_among h.nodes n)) (λ wants. wants) none);
    }

-- where it writes nothing it submits nothing
pub next_refuted : {P : Type 0} (h : HostState) (event : HostEvent) → IsNext h event → IsQuiet h → P
next_refuted h event is (inl busy_so) = absurd (busy_so is.0)
next_refuted h event is (inr (nothing, none)) =
    let one : IsNextOf h false h.requests.queue event = subst (λ (b : Bool). IsNextOf h b h.requests.queue event) nothing.paid is.1 in
    let two : IsNextOf h false [] event = subst (λ (l : List Task). IsNextOf h false l event) nothing.no_task one in
    absurd (subst (λ (node : Option ℕ). IsNextOfNodes h node event) nothing.no_work two)

pub pumped_quiet : (h : HostState) → IsPumped h → WantsNone h → IsQuiet h
pumped_quiet h (inl busy_so) wants = inl busy_so
pumped_quiet h (inr nothing) (inl busy_so) = inl busy_so
pumped_quiet h (inr nothing) (inr none) = inr (nothing, none)

-- ---- which nodes it lets sleep

pub no_more_quiet : (h : HostState) (node : ℕ) → first_wanting h.nodes ≡ Some node → IsQuiet h
    → (host_units (outs_all h (no_more_event h node ∷ [])) ≡ []) × IsQuiet (after h (no_more_event h node))
no_more_quiet h node some (inr (nothing, none)) = absurd (let is : None ≡ Some node = sym none ∙ some in cc)
no_more_quiet h node some (inl busy_so) = by (is_full h)
  where
    still : (event : HostEvent) → (IsFree (after h event) → IsFree h) → IsQuiet (after h event)
    still event back = inl (λ (free : IsFree (after h event)). busy_so (back free))

    by : (b : Bool) → (host_units (outs_all h ((if b then Drops_no_more node else Queues_no_more node) ∷ [])) ≡ []) × IsQuiet (after h (if b then Drops_no_more node else Queues_no_more node))
    by true = (refl, still (Drops_no_more node) (λ free. record { none_under_way = free.none_under_way; free_line = free.free_line }))
    by false = (refl, still (Queues_no_more node) (λ free. record { none_under_way = free.none_under_way; free_line = free.free_line }))
