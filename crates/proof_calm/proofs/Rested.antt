-- A host that rests has nothing to submit.
use Rattle.std.proofs.Common.{◌≡◌, ◌≤◌, ℕ, ◌&&◌, ◌||◌, Bool, true, false, inr, refl, sym, ap, ◌∙◌, subst, arith}
use Rattle.std.specs.Option.{is_none, is_some, option_or}
use Rattle.std.specs.Prelude.{Option, Some, None, List}
use Rattle.supervision.specs.Host.{open_session}
use Rattle.host_node.specs.Search.{least_above, next_of}
use Rattle.host_node.specs.State.{NodeState, has_segment, has_waiting, has_work, is_false, is_up}
use Rattle.host_node.specs.TableState.{node_of as node_among}
use Rattle.host_node.specs.declared.series.Series.{Series}
use Rattle.host_node.specs.declared.series.Series.TheVariants.{Idle, Due, Running}
use Rattle.host_node.proofs.Searches.{what_is_least}
use Rattle.host_model.specs.Pumping.{IsPumped}
use Rattle.host_model.specs.State.{HostState}
use Rattle.host_model.proofs.Pumps.{next_works}
use Rattle.proof_work.specs.Rests.{NodeRests, Rests}

no_part : (text : Option (List ℕ)) (more : Bool) → text ≡ None → more ≡ false → (is_some text || more) ≡ true → ⊥
no_part None false none done works = cc
no_part None true none done works = cc
no_part (Some bytes) more none done works = cc

pub all_four : (a b c d : Bool) → (a && b && c && d) ≡ true → (a ≡ true) × (b ≡ true) × (c ≡ true) × (d ≡ true)
all_four true true true true all = (refl, refl, refl, refl)
all_four true true true false all = absurd cc
all_four true true false d all = absurd cc
all_four true false c d all = absurd cc
all_four false b c d all = absurd cc

none_of : (o : Option ℕ) → is_none o ≡ true → o ≡ None
none_of None none = refl
none_of (Some x) none = absurd cc

rests_idle : (n : NodeState) → NodeRests n → has_work n ≡ true → ⊥
rests_idle n rests works = by n.series refl
  where
    works_as : (series : Series) → n.series ≡ series → has_work (record n { series = series }) ≡ true
    works_as series is = subst (λ (s : Series). has_work (record n { series = s }) ≡ true) is works

    by : (series : Series) → n.series ≡ series → ⊥
    by Due is = rests.begun is
    by Running is = let given = rests.given is in no_part n.text (has_segment n) given.1.0 given.1.1 (works_as Running is)
    by Idle is =
        let all = all_four (is_none (open_session n.book)) (has_waiting n) (is_up n) (is_false n.blocked) (works_as Idle is) in
        let blocked : n.blocked ≡ true = rests.served all.1 all.2 (none_of (open_session n.book) all.0) in
        let no : is_false true ≡ true = ap is_false (sym blocked) ∙ all.3 in cc

-- which node is next
pub range_by : (passes : ℕ → Bool) (a b : ℕ) (o p : Option ℕ) (n : ℕ) → least_above passes a ≡ o → least_above passes b ≡ p → option_or o p ≡ Some n → (1 ≤ n) × (n ≤ 232)
range_by passes a b None p n first second is = let f = what_is_least passes b n (second ∙ is) in (omega (arith, f.from), omega (arith, f.to))
range_by passes a b (Some k) p n first second is = let f = what_is_least passes a n (first ∙ is) in (omega (arith, f.from), omega (arith, f.to))

pub rests_pumped : (h : HostState) → Rests h → IsPumped h
rests_pumped h rests = by (next_of h.nodes h.served) refl
  where
    works : ℕ → Bool
    works node = has_work (node_among h.nodes node)

    by : (o : Option ℕ) → next_of h.nodes h.served ≡ o → IsPumped h
    by None is = inr (record { paid = rests.paid; no_task = rests.no_task; no_work = is })
    by (Some n) is =
        let range = range_by works h.served 0 (least_above works h.served) (least_above works 0) n refl refl is in
        absurd (rests_idle (node_among h.nodes n) (rests.each n range.0 range.1) (next_works h.nodes h.served n is))
