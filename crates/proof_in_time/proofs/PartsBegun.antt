-- As an attempt gives the first segment of a message, its device is to hear them in turn, or has the last and wants others: within so many ticks it has heard the message.
use Rattle.std.proofs.Common.{◌≡◌, ℕ, zero, suc, ◌+◌, ◌*◌, ◌/◌, ◌%◌, ◌<◌, ◌≤◌, ◌==◌, ◌&&◌, inl, inr, Bool, true, false, if◌then◌else◌, List, length, refl, sym, ap, ◌∙◌, subst, arith}
use Rattle.std.proofs.lemmas.Bool.{cases_lt}
use Rattle.std.proofs.lemmas.List.{get_or-replicate, get_or_past, length-replicate}
use Rattle.std.proofs.lemmas.Option.{get_or_from_slice_get, slice_get-get_or}
use Rattle.std.specs.Prelude.{◌⊎◌, Option, Some, None, is_some, replicate, slice_index_or}
use Rattle.transport_segments.specs.Places.{IsLeastMissing, IsThere}
use Rattle.transport_segments.specs.Kept.{Reassembly, Empty, Partial}
use Rattle.transport_segments.specs.Reassembly.{opened}
use Rattle.device_sim.specs.State.{State}
use Rattle.host_model.specs.Sessions.{segment_count}
use Rattle.proof_messages.specs.Slices.{InSlices, KeepsSlices, missing_to}
use Rattle.proof_in_time.specs.Answering.{IsInStep, Last, Next}
use Rattle.proof_in_time.specs.Parts.{Hears_one, HasBefore, IsInTurn, IsWanted, Lacks_last, Lacks_none, Taken, come, last_place}
use Rattle.proof_in_time.proofs.PartsHeard.{SliceLaws, there_within}

-- ---- what has come

blank_there : (size at : ℕ) → IsThere (replicate size None) at → ⊥
blank_there size at there =
    let none : Option ℕ = None in
    let less = there_within (replicate size none) at there in
    let long = length-replicate size none in
    let gone : slice_index_or (replicate size none) at none ≡ none = get_or-replicate size at none none (omega (arith, less, long)) in
    let is = get_or_from_slice_get (replicate size none) at (Some there.0) none there.1 in
    let wrong : Some there.0 ≡ none = sym is ∙ gone in
    absurd cc

-- where something has come, it was kept, in slices
kept_in_slices : (kept : Reassembly) (id size at : ℕ) → KeepsSlices kept → IsThere (opened kept id size) at → InSlices (opened kept id size)
kept_in_slices Empty id size at slices there = absurd (blank_there size at there)
kept_in_slices (Partial of places) id size at slices there = by ((of == id) && (length places == size)) there
  where
    by : (b : Bool) → IsThere (if b then places else replicate size None) at → InSlices (if b then places else replicate size None)
    by true is = slices
    by false is = absurd (blank_there size at is)

-- a byte has come, or not
either_there : (places : List (Option ℕ)) (at : ℕ) → IsThere places at ⊎ (slice_index_or places at None ≡ None)
either_there places at = by (slice_index_or places at None) refl
  where
    by : (o : Option ℕ) → slice_index_or places at None ≡ o → IsThere places at ⊎ (slice_index_or places at None ≡ None)
    by None is = inr is
    by (Some byte) is = elim (cases_lt at (length places)) [
      | inl within ↦ inl (byte, slice_get-get_or places at None within ∙ ap Some is)
      | inr past ↦ inr (get_or_past places at None past)
    ]

there_or_gone : (places : List (Option ℕ)) (at : ℕ) → IsThere places at → slice_index_or places at None ≡ None → ⊥
there_or_gone places at there gone = let wrong : Some there.0 ≡ None = sym (get_or_from_slice_get places at (Some there.0) None there.1) ∙ gone in absurd cc

-- ---- the first slice that is missing

-- of so many all have come, or this is the first that has not
pub data FirstOf (places : List (Option ℕ)) (count : ℕ) : Type 0 where
  None_lacks : ((k : ℕ) → k < count → IsThere places (39 * k)) → FirstOf places count
  Lacks : (k : ℕ) → k < count → slice_index_or places (39 * k) None ≡ None → ((j : ℕ) → j < k → IsThere places (39 * j)) → FirstOf places count

first_of : (places : List (Option ℕ)) (count : ℕ) → FirstOf places count
first_of places zero = None_lacks (λ k less. absurd (omega (arith, less)))
first_of places (suc count) = by (first_of places count) (either_there places (39 * count))
  where
    by : FirstOf places count → IsThere places (39 * count) ⊎ (slice_index_or places (39 * count) None ≡ None) → FirstOf places (suc count)
    by (Lacks k less gone before) last = Lacks k (omega (arith, less)) gone before
    by (None_lacks all) (inr gone) = Lacks count (omega arith) gone all
    by (None_lacks all) (inl there) =
        None_lacks
        (λ k less.
        elim (cases_lt k count) [ inl before ↦ all k before | inr from ↦ subst (λ (j : ℕ). IsThere places (39 * j)) (let same : count ≡ k = omega (arith, less, from) in same) there ])

least_of : (places : List (Option ℕ)) (k : ℕ) → InSlices places → 39 * k < length places → slice_index_or places (39 * k) None ≡ None → ((j : ℕ) → j < k → IsThere places (39 * j)) → IsLeastMissing places (39 * k)
least_of places k slices within gone before = record {
  missing = slice_get-get_or places (39 * k) None within ∙ ap Some gone;
  least = λ at less. slices (39 * (at / 39)) at (omega (arith, less, within)) (omega arith) (before (at / 39) (omega (arith, less)));
}

-- ---- how many are missing

one_mark : (o : Option ℕ) → (if is_some o then 0 else 1) ≤ 1
one_mark (Some byte) = omega arith
one_mark None = omega arith

missing_most : (places : List (Option ℕ)) (count : ℕ) → missing_to places count ≤ count
missing_most places zero = omega arith
missing_most places (suc count) = let rest = missing_most places count in let one = one_mark (slice_index_or places (39 * count) None) in omega (arith, rest, one)

last_there : (places : List (Option ℕ)) (last : ℕ) → IsThere places (39 * last) → missing_to places (suc last) ≤ last
last_there places last there =
    let rest = missing_most places last in
    let none : ◌≡◌ {A = ℕ} (if is_some (slice_index_or places (39 * last) None) then 0 else 1) 0 = ap (λ (o : Option ℕ). if is_some o then 0 else 1) (get_or_from_slice_get places (39 * last) (Some there.0) None there.1) in
    omega (arith, rest, none)

two_most : (b : Bool) → (if b then 0 else 2) ≤ 2
two_most true = omega arith
two_most false = omega arith

-- ---- at the first of them

module _ (laws : SliceLaws) (session : ℕ) (message : List ℕ) (device : State) (some : 1 ≤ length message) (few : length message ≤ 273) (slices : KeepsSlices device.reassembly) where
  abbrev Begun : Type 0
  Begun = IsInTurn session message (Hears_one 0) 1 device 22 ⊎ IsWanted session message (Hears_one 0) device 22

  in_turn : HasBefore session message 0 device → Begun
  in_turn before = inl (record { place = 0; alone = refl; follows = refl; before = before; few = omega (arith, few) })

  wanted : session ≡ device.sessions.taken + 1 → IsThere (come session message device) (39 * last_place message) → FirstOf (come session message device) (segment_count message) → Begun
  wanted next last (None_lacks all) = in_turn (Lacks_none next all)
  wanted next last (Lacks k less gone before) =
      let long = laws.opened device.reassembly (session % 16) (length message) slices in
      let in_slices = kept_in_slices device.reassembly (session % 16) (length message) (39 * last_place message) slices last in
      let count : segment_count message ≡ suc (last_place message) = omega (arith, some) in
      let most = subst (λ (c : ℕ). missing_to (come session message device) c ≤ last_place message) (sym count) (last_there (come session message device) (last_place message) last) in
      let slot = two_most (0 == k) in
      inr (record {
        next = next;
        last = last;
        least = k;
        first = least_of (come session message device) k in_slices (omega (arith, less, long)) gone before;
        asked = tt;
        few = omega (arith, most, slot, few);
      })

  pub part_begins : IsInStep session device → Begun
  part_begins (Last last some_session at) = in_turn (Taken last)
  part_begins (Next next done) = by (either_there (come session message device) (39 * last_place message))
    where
      by : IsThere (come session message device) (39 * last_place message) ⊎ (slice_index_or (come session message device) (39 * last_place message) None ≡ None) → Begun
      by (inl there) = wanted next there (first_of (come session message device) (segment_count message))
      by (inr gone) = in_turn (Lacks_last next (λ there. there_or_gone (come session message device) (39 * last_place message) there gone) (λ k less. absurd (omega (arith, less))))
