-- What work in order says of a node.
use Rattle.std.proofs.Common.{◌≡◌, ℕ, ◌≤◌, ◌&&◌, ◌||◌, is_some, Bool, true, false, Option, Some, None, List, refl, sym, ap, subst, inl, inr, arith}
use Rattle.std.specs.Prelude.{IsSome}
use Rattle.std.proofs.lemmas.Bool.{both_ways}
use Rattle.supervision.specs.Host.{open_session}
use Rattle.host_node.specs.declared.series.Series.{Series}
use Rattle.host_node.specs.declared.series.Series.TheVariants.{Idle, Due, Running}
use Rattle.host_node.specs.declared.no_more.NoMore.{NoMore}
use Rattle.host_node.specs.declared.no_more.NoMore.TheVariants.{Unasked, Queued, Dropped}
use Rattle.host_node.specs.State.{NodeState, has_segment, is_running}
use Rattle.host_node.specs.Facts.{NoMoreFacts, NothingLeft, SeriesFacts}
use Rattle.proof_walk.specs.host_model.State.{HostState, node_of}
use Rattle.proof_work.specs.Work.{HostWork, IsWoken, MayBeTold, SeriesMeans, Wakes, part_of, times_due, times_told}
use Rattle.proof_work.proofs.Attempts.{none_left, not_sealed}
use Rattle.proof_work.proofs.Ending.{at_most_once}

-- ---- series

not_sealed_both : (text pending : Option (List ℕ)) → text ≡ None → (is_some text && is_some pending) ≡ false
not_sealed_both None pending e = refl
not_sealed_both (Some t) pending e = cc

open_by : (o : Option ℕ) → (o ≡ None → ⊥) → IsSome o
open_by None other = absurd (other refl)
open_by (Some x) other = refl

-- where nothing is left of an attempt there is no wait, segment or text
module _ (n : NodeState) (left : NothingLeft n.attempt_wait n.next_segment n.segments n.text n.pending) {X : Type 0} where
  no_wait : 1 ≤ n.attempt_wait → X
  no_wait some = absurd (omega (arith, left.no_wait, some))

  no_segment : has_segment n ≡ true → X
  no_segment some = absurd (both_ways (has_segment n) (none_left n.next_segment n.segments left.no_segments) some)

  no_text : (is_some n.text || is_some n.pending) ≡ true → X
  no_text some = absurd (not_sealed n.text n.pending left.no_text left.no_pending some)

by_series : (n : NodeState) (s : Series) → n.series ≡ s → SeriesFacts s n.book n.attempt_wait n.again_wait n.next_segment n.segments n.text n.pending → SeriesMeans n
by_series n Idle is g = record {
  opened = λ other. absurd (other is);
  fewer = λ other. absurd (other is);
  waits = no_wait n g.1;
  segments_left = no_segment n g.1;
  texts_left = no_text n g.1;
  one = not_sealed_both n.text n.pending g.1.no_text;
  again = λ some. (is, open_by (open_session n.book) (λ closed. omega (arith, some, (g.0.closed closed).1)));
}
by_series n Due is g = record {
  opened = λ _. g.0.is_open;
  fewer = λ _. g.0.fewer;
  waits = no_wait n g.2;
  segments_left = no_segment n g.2;
  texts_left = no_text n g.2;
  one = not_sealed_both n.text n.pending g.2.no_text;
  again = λ some. absurd (omega (arith, some, g.1));
}
by_series n Running is g = record {
  opened = λ _. g.0.is_open;
  fewer = λ _. g.0.fewer;
  waits = λ _. is;
  segments_left = λ _. is;
  texts_left = λ _. is;
  one = g.3;
  again = λ some. absurd (omega (arith, some, g.1));
}

pub series_means : (h : HostState) (n : ℕ) → HostWork h → SeriesMeans (node_of h n)
series_means h n w = by_series (node_of h n) (node_of h n).series refl (w.host.nodes.facts n).series

-- ---- attempts

woken_by : (part : Option Bool) (n : NodeState) → Wakes part n.attempt_wait (has_segment n) → IsWoken part n
woken_by None n (inl some) = inl some
woken_by None n (inr left) = inr (inr left)
woken_by (Some more) n wakes = inr (inl refl)

pub attempt_woken : (h : HostState) (n : ℕ) → HostWork h → (node_of h n).series ≡ Running → IsWoken (part_of n h.requests.under_way) (node_of h n)
attempt_woken h n w runs = woken_by (part_of n h.requests.under_way) (node_of h n) ((w.work.each n).alive.goes_on (ap is_running runs))

-- ---- No More Information

pub told_once : (h : HostState) (n : ℕ) → HostWork h → times_told n h.requests ≤ 1
told_once h n w = subst (λ (times : ℕ). times ≤ 1) (sym (w.work.once n)) (at_most_once (node_of h n).no_more)

queued_by : (m : NoMore) → 1 ≤ times_due m → m ≡ Queued
queued_by Unasked some = absurd (omega (arith, some))
queued_by Queued some = refl
queued_by Dropped some = absurd (omega (arith, some))

pub told_while : (h : HostState) (n : ℕ) → HostWork h → 1 ≤ times_told n h.requests → MayBeTold (node_of h n)
told_while h n w some =
    let state = node_of h n in
    let queued = queued_by state.no_more (subst (λ (times : ℕ). 1 ≤ times) (w.work.once n) some) in
    let facts = subst (λ (m : NoMore). NoMoreFacts m state.awake state.classes) queued (w.host.nodes.facts n).no_more in
    record {
      awake = facts.0;
      interviewed = facts.1;
      at_rest = λ runs. both_ways (is_running state.series) ((w.work.each n).quiet queued) (ap is_running runs);
    }
