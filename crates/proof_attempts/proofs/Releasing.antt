-- What an event of a host makes of how long a node is held, where a node is awake while it is told that there is no more for it: the command of an attempt that runs is of the last session
-- of its node, and of no other node.
use Rattle.std.proofs.Common.{◌≡◌, ◌⊎◌, ℕ, ◌<◌, ◌==◌, ◌&&◌, ◌||◌, not, Bool, true, false, All, List, [], ◌∷◌, ◌++◌, length, Option, Some, None, inl, inr, refl, sym, ap, ◌∙◌, subst, arith}
use Rattle.std.specs.Prelude.{IsSome}
use Rattle.std.specs.List.{AllByRecursion, list_any}
use Rattle.std.proofs.lemmas.Bool.{eq-eqb, ne_eqb}
use Rattle.std.proofs.lemmas.List.Elements.{recursion_from_All}
use Rattle.zw_base.proofs.Each.{all-right}
use Rattle.supervision.specs.Host.{open_session}
use Rattle.zw_text.specs.Transcript.{folded}
use Rattle.proof_work.specs.law_time.Judged.{last_of}
use Rattle.host_requests.specs.declared.task.Purpose.{Purpose}
use Rattle.host_requests.specs.declared.task.Purpose.TheVariants.{Housekeeping}
use Rattle.host_requests.specs.declared.task.Task.TheVariants.{NoMore}
use Rattle.host_requests.specs.declared.under_way.UnderWay.{UnderWay}
use Rattle.host_node.specs.declared.series.Series.{Series}
use Rattle.host_node.specs.declared.series.Series.TheVariants.{Idle, Due, Running}
use Rattle.host_node.specs.Facts.{SeriesFacts}
use Rattle.host_node.specs.State.{NodeState, is_false, is_running}
use Rattle.proof_requests.specs.host_model.State.{Command, HostState, command_at, node_of}
use Rattle.proof_requests.specs.host_model.Sessions.{open_command}
use Rattle.proof_requests.specs.host_model.Facts.{IsCommandOf}
use Rattle.proof_requests.specs.host_model.After.{after}
use Rattle.proof_requests.specs.host_model.Did.{one_if}
use Rattle.proof_requests.specs.host_model.Events.{HostEvent}
use Rattle.proof_requests.specs.host_model.Outs.{outs}
use Rattle.proof_work.specs.proof_host.Entries.{notes_of}
use Rattle.proof_work.specs.Work.{told_at, told_for}
use Rattle.proof_attempts.specs.Waking.{Follows, TellsAwake, releases_of, waking_before, waking_in, waking_step}
use Rattle.proof_attempts.proofs.Nodes.{AtIs, Known, TellsOf, ends_by, goes_on}
use Rattle.proof_attempts.proofs.Opening.{OpenLast, has_last, last_is, open_last}

-- ---- its own command

pub opens : (s : Series) (node : NodeState) → SeriesFacts s node.book node.attempt_wait node.again_wait node.next_segment node.segments node.text node.pending → is_running s ≡ true → IsSome (open_session node.book)
opens Idle node facts runs = absurd (let bad : false ≡ true = runs in cc)
opens Due node facts runs = facts.0.is_open
opens Running node facts runs = facts.0.is_open

pub not_is : (b : Bool) → not b ≡ is_false b
not_is true = refl
not_is false = refl

releases_last : (s : NodeState) (c : ℕ) → last_of s.book.commands ≡ c ∷ [] → releases_of s c ≡ is_false s.listens
releases_last s c is =
    ap (λ (l : List ℕ). list_any (λ command. command == c) l && not s.listens) is ∙ ap (λ (b : Bool). (b || false) && not s.listens) (eq-eqb c c refl) ∙ not_is s.listens

own_last : (s : NodeState) → IsSome (open_session s.book) → ((open_session s.book ≡ None) × (open_command s ≡ None)) ⊎ OpenLast s → ends_by (releases_of s) (open_command s) ≡ is_false s.listens
own_last s opened (inl none) = absurd (let bad : false ≡ true = subst IsSome none.0 opened in cc)
own_last s opened (inr at) = ap (λ (o : Option ℕ). ends_by (releases_of s) o) at.opened ∙ releases_last s at.command at.last

-- ---- that of another node

one_command : (found other : Option Command) (a b : Command) → found ≡ other → found ≡ Some a → other ≡ Some b → a ≡ b
one_command found other a b e f g = cc

of_one : (commands : List Command) (k n c i : ℕ) → IsCommandOf commands k c → IsCommandOf commands n i → i ≡ c → k ≡ n
of_one commands k n c i one other same =
    sym one.node ∙ ap (λ (x : Command). x.order.node) (one_command (command_at commands c) (command_at commands i) one.command other.command (sym (ap (λ (j : ℕ). command_at commands j) same)) one.found other.found) ∙ other.node

pub not_last : (commands : List Command) (k n c : ℕ) (begun : List ℕ) → (k ≡ n → ⊥) → IsCommandOf commands k c → AllByRecursion (IsCommandOf commands n) begun → list_any (λ command. command == c) (last_of begun) ≡ false
not_last commands k n c [] differs one all = refl
not_last commands k n c (first ∷ more) differs one all =
    let at = has_last first more in
    let other = (all-right (IsCommandOf commands n) at.front (at.last ∷ []) (subst (λ (l : List ℕ). AllByRecursion (IsCommandOf commands n) l) at.are all)).0 in
    ap (λ (l : List ℕ). list_any (λ command. command == c) (last_of l)) at.are ∙ ap (λ (l : List ℕ). list_any (λ command. command == c) l) (last_is at.front at.last)
    ∙ ap (λ (b : Bool). b || false) (ne_eqb at.last c (λ same. differs (of_one commands k n c at.last one other same)))

other_last : (commands : List Command) (k n : ℕ) (s t : NodeState) → (k ≡ n → ⊥) → All (IsCommandOf commands k) s.book.commands → All (IsCommandOf commands n) t.book.commands
    → ((open_session s.book ≡ None) × (open_command s ≡ None)) ⊎ OpenLast s → ends_by (releases_of t) (open_command s) ≡ false
other_last commands k n s t differs own other (inl none) = ap (λ (o : Option ℕ). ends_by (releases_of t) o) none.1
other_last commands k n s t differs own other (inr at) =
    let all : AllByRecursion (IsCommandOf commands k) (at.front ++ at.command ∷ [])
    = subst (λ (l : List ℕ). AllByRecursion (IsCommandOf commands k) l) at.are (recursion_from_All (IsCommandOf commands k) s.book.commands own) in
    let one = (all-right (IsCommandOf commands k) at.front (at.command ∷ []) all).0 in
    ap (λ (o : Option ℕ). ends_by (releases_of t) o) at.opened
    ∙ ap (λ (b : Bool). b && not t.listens) (not_last commands k n at.command t.book.commands differs one (recursion_from_All (IsCommandOf commands n) t.book.commands other))

-- ---- of a host

module _ (n : ℕ) (h : HostState) where
  tells_by : (u : UnderWay) (purpose : Purpose) → h.requests.under_way ≡ Some u → u.purpose ≡ purpose → TellsOf n (releases_of (node_of h n)) (TellsAwake h) h.nodes purpose
  tells_by u (Housekeeping (NoMore k)) is these =
      λ known.
      let once : told_at k h.requests.under_way ≡ 1
      = ap (λ (o : Option UnderWay). told_at k o) is ∙ ap (λ (p : Purpose). told_for k p) these ∙ ap one_if (eq-eqb k k refl) in
      known.told k (omega (arith, once))
  tells_by u purpose is these = tt

  tells_at : (o : Option UnderWay) → h.requests.under_way ≡ o → AtIs (TellsOf n (releases_of (node_of h n)) (TellsAwake h) h.nodes) o
  tells_at None is = tt
  tells_at (Some u) is = tells_by u u.purpose is refl

  known_of : Known n (releases_of (node_of h n)) (TellsAwake h) h.nodes h.requests.under_way
  known_of = record {
    own = λ k runs same known.
        let s = node_of h k in
        subst (λ (m : ℕ). ends_by (releases_of (node_of h m)) (open_command s) ≡ is_false s.listens) same
        (own_last s (opens s.series s (known.facts.nodes.facts k).series runs) (open_last s));
    others = λ k differs known. other_last h.commands k n (node_of h k) (node_of h n) differs (known.facts.owns k).sessions (known.facts.owns n).sessions (open_last (node_of h k));
    tells = tells_at h.requests.under_way refl;
  }

  -- whether it counts as awake goes with what is told; and how long it is held, where a node is awake while it is told that there is no more for it
  pub event_goes : (event : HostEvent) → n < length h.nodes
      → Follows (TellsAwake h) (folded (waking_step n (releases_of (node_of h n))) (waking_before event n (waking_in h.nodes n)) (notes_of (outs h event))) (waking_in (after h event).nodes n)
  event_goes event within = goes_on n (releases_of (node_of h n)) (TellsAwake h) h event known_of within
