-- What a nonce that is taken after a payload makes of a message that is to be sealed, where the attempt waits for it by the transcript.
use Rattle.std.proofs.Common.{◌≡◌, ℕ, ◌+◌, ◌-◌, ◌%◌, ◌<◌, ◌==◌, ◌&&◌, nat_lt, not, Bool, true, false, if◌then◌else◌, inl, inr, Option, Some, None, length, List, [], ◌∷◌, refl, sym, ap, ap₂, ◌∙◌, subst}
use Rattle.std.specs.Prelude.{is_some, slice_index}
use Rattle.std.specs.List.{AllByRecursion}
use Rattle.std.proofs.lemmas.Bool.{cases_lt, eq-eqb, le-ltb, lt-ltb, ne_eqb}
use Rattle.s0_session.specs.Sending.{seen_after, taken_from}
use Rattle.law_time.specs.Attempts.{Attempts, is_next_nonce, with_nonce, with_nonces}
use Rattle.law_time.specs.Requests.{are_none}
use Rattle.host_node.specs.Facts.{NodeFacts, SeriesFacts}
use Rattle.host_node.specs.State.{NodeState}
use Rattle.host_node.specs.Steps.{after_nonce}
use Rattle.host_node.specs.declared.series.Series.{Series}
use Rattle.host_node.specs.declared.series.Series.TheVariants.{Idle, Due, Running}
use Rattle.host_model.specs.State.{HostState, node_of}
use Rattle.host_model.specs.After.{after}
use Rattle.host_model.specs.Did.{after_all}
use Rattle.host_model.specs.Events.{HostEvent, Starts, Gives_text, Takes_nonce}
use Rattle.proof_giving.proofs.Doings.{node_after}
use Rattle.proof_giving.proofs.Kept.{IsFollower}
use Rattle.proof_choice.specs.Ready.{ReadySo}
use Rattle.proof_choice.proofs.Nonces.{NoncesSo, one_stays, places_stay}
use Rattle.proof_choice.proofs.Readies.{stays_ready}
use Rattle.proof_choice.proofs.Staying.{Stays, no_some, none_of, stays_same, then_stays}
use Rattle.std.proofs.Common.{arith}

-- ---- one nonce

counted : (k : ℕ) → not (k == 0) ≡ nat_lt 0 k
counted k = elim (cases_lt 0 k) [
  | inl less ↦ ap not (ne_eqb k 0 (λ is. absurd (omega (arith, is, less)))) ∙ sym (lt-ltb 0 k less)
  | inr more ↦ ap not (eq-eqb k 0 (omega (arith, more))) ∙ sym (le-ltb 0 k more)
]

taken_as : (a : Attempts) (nonce : List ℕ) (seen : ℕ) → seen_after a.seen (slice_index nonce 0) ≡ Some seen → with_nonce a nonce ≡ record a { ready = slice_index nonce 0 ∷ []; seen = seen }
taken_as a nonce seen counts =
    ap (λ (b : Bool). if b && (slice_index nonce 0 == a.seen % 256) then record a { ready = slice_index nonce 0 ∷ [] }
    else (if is_next_nonce a.seen nonce then record a { ready = slice_index nonce 0 ∷ []; seen = a.seen + 1 } else a)) (counted a.seen)
    ∙ by (nat_lt 0 a.seen && (slice_index nonce 0 == a.seen % 256)) (is_next_nonce a.seen nonce) counts
  where
    by : (l m : Bool) → (if l then Some a.seen else (if m then Some (a.seen + 1) else None)) ≡ Some seen
        → (if l then record a { ready = slice_index nonce 0 ∷ [] } else (if m then record a { ready = slice_index nonce 0 ∷ []; seen = a.seen + 1 } else a))
        ≡ record a { ready = slice_index nonce 0 ∷ []; seen = seen }
    by true m is = let same : a.seen ≡ seen = cc in ap (λ (k : ℕ). record a { ready = slice_index nonce 0 ∷ []; seen = k }) same
    by false true is = let same : a.seen + 1 ≡ seen = cc in ap (λ (k : ℕ). record a { ready = slice_index nonce 0 ∷ []; seen = k }) same
    by false false is = absurd (let bad : ◌≡◌ {A = Option ℕ} None (Some seen) = is in cc)

-- a text that waits does so alone, in an attempt that runs
pub record WaitsAlone (s : NodeState) : Type 0 where
  pub runs : s.series ≡ Running
  pub no_text : s.text ≡ None

pub waits_alone : (s : NodeState) → NodeFacts s → (plain : List ℕ) → s.pending ≡ Some plain → WaitsAlone s
waits_alone s facts plain is = by s.series refl facts.series
  where
    by : (x : Series) → s.series ≡ x → SeriesFacts x s.book s.attempt_wait s.again_wait s.next_segment s.segments s.text s.pending → WaitsAlone s
    by Idle same f = no_some _ s.pending plain f.1.no_pending is
    by Due same f = no_some _ s.pending plain f.2.no_pending is
    by Running same f = record {
      runs = same;
      no_text = none_of s.text
          (λ x has. let bad : true ≡ false = sym (ap₂ (λ (a b : Option (List ℕ)). is_some a && is_some b) has is) ∙ f.3 in cc);
    }

sealed_ready : (a : Attempts) (nonce : List ℕ) (before : NodeState) (seen : ℕ) (text : List ℕ) → slice_index text (length text - 9) ≡ slice_index nonce 0
    → ReadySo (record a { ready = slice_index nonce 0 ∷ []; seen = seen }) (after_nonce before seen text)
sealed_ready a nonce before seen text names = record {
  seen = refl;
  text = λ sealed is.
      let same : text ≡ sealed = let both : Some text ≡ Some sealed = is in cc in ap (λ (k : ℕ). k ∷ []) (sym names) ∙ ap (λ (l : List ℕ). slice_index l (length l - 9) ∷ []) same;
  none = λ runs none. absurd (let bad : ◌≡◌ {A = Option (List ℕ)} (Some text) None = none in cc);
  pending = λ plain is. absurd (let bad : ◌≡◌ {A = Option (List ℕ)} None (Some plain) = is in cc);
}

-- where the attempt waits for a nonce by the transcript whenever one is taken
pub judged_ready : (a : Attempts) (s t : NodeState) (nonces : List (List ℕ)) (waits : Bool) → NodeFacts s → ReadySo a s → NoncesSo s t nonces → ((plain : List ℕ) → s.pending ≡ Some plain → waits ≡ true)
    → ReadySo (if waits then with_nonces a nonces else a) t
judged_ready a s t nonces waits facts so (inl none) must =
    subst (λ (l : List (List ℕ)). ReadySo (if waits then with_nonces a l else a) t) (sym none.0) (by waits)
  where
    by : (b : Bool) → ReadySo (if b then with_nonces a [] else a) t
    by true = stays_ready a s t none.1 so
    by false = stays_ready a s t none.1 so
judged_ready a s t nonces waits facts so (inr one) must =
    let pending : s.pending ≡ Some one.plain = one.up_to.pending one.plain one.waits in
    let alone = waits_alone s facts one.plain pending in
    let counts : seen_after a.seen (slice_index one.nonce 0) ≡ Some one.seen
    = ap (λ (k : ℕ). seen_after k (slice_index one.nonce 0)) (so.seen ∙ sym one.up_to.seen)
    ∙ ap (λ (o : Option (List ℕ)). taken_from o one.before.seen (slice_index one.nonce 0)) (sym one.waits) ∙ one.counts in
    let made : (if waits then with_nonces a nonces else a) ≡ record a { ready = slice_index one.nonce 0 ∷ []; seen = one.seen }
    = ap₂ (λ (b : Bool) (l : List (List ℕ)). if b then with_nonces a l else a) (must one.plain pending) one.told
    ∙ ap (λ (l : List ℕ). if are_none l then with_nonce a one.nonce else a) (so.none alone.runs alone.no_text) ∙ taken_as a one.nonce one.seen counts in
    subst (λ (b : Attempts). ReadySo b t) (sym made)
    (stays_ready (record a { ready = slice_index one.nonce 0 ∷ []; seen = one.seen }) (after_nonce one.before one.seen one.text) t one.since (sealed_ready a one.nonce one.before one.seen one.text one.names))

-- ---- of another node

follower_leaves : (k n : ℕ) (h : HostState) (event : HostEvent) → (k == n) ≡ false → n < length h.nodes → IsFollower k event → Stays false (node_of h n) (node_of (after h event) n)
follower_leaves k n h (Takes_nonce m seen text) other within follows =
    subst (Stays false (node_of h n))
    (sym (node_after h (Takes_nonce m seen text) n within ∙ ap (λ (b : Bool). if b then after_nonce (node_of h n) seen text else node_of h n) (ap (λ (j : ℕ). j == n) follows ∙ other)))
    (stays_same false (node_of h n))
follower_leaves k n h (Starts m plan more payload) other within follows = absurd follows
follower_leaves k n h (Gives_text m payload) other within follows = absurd follows
follower_leaves k n h event other within follows = one_stays n h event within tt

pub others_stay : (k n : ℕ) (h : HostState) (events : List HostEvent) → (k == n) ≡ false → n < length h.nodes → AllByRecursion (IsFollower k) events
    → Stays false (node_of h n) (node_of (after_all h events) n)
others_stay k n h [] other within all = stays_same false (node_of h n)
others_stay k n h (event ∷ events) other within all =
    then_stays false (node_of h n) (node_of (after h event) n) (node_of (after_all (after h event) events) n) (follower_leaves k n h event other within all.0)
    (others_stay k n (after h event) events other (let same = places_stay h event in omega (arith, within, same)) all.1)
