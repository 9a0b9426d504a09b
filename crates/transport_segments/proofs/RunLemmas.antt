-- What is kept while the segments of one datagram come, and what is answered.
use Rattle.std.proofs.Common.{◌≡◌, ℕ, zero, suc, ◌+◌, ◌-◌, ◌<◌, ◌≤◌, List, [], ◌∷◌, length, map, get_or, true, Some, None, refl, sym, ◌∙◌, ap, subst, inl, inr, ◌⊎◌, arith}
use Rattle.std.specs.Prelude.{Option, replicate, slice_get, cond, nat_eq, ◌&&◌}
use Rattle.std.proofs.lemmas.Bool.{cases_lt, eq-eqb}
use Rattle.std.proofs.lemmas.List.{length-replicate, length-map, get_or-replicate, get_or-map, ext_get_or}
use Rattle.std.proofs.lemmas.Option.{slice_get_within, get_or_from_slice_get}
use Rattle.transport_segments.specs.Segment.{id_of, size_of, offset_of, payload_of}
use Rattle.transport_segments.specs.Places.{written, IsMissing}
use Rattle.transport_segments.specs.Kept.{Reassembly, Empty, Partial}
use Rattle.transport_segments.specs.Reassembly.{opened, places_after}
use Rattle.transport_segments.specs.Parts.{Parts}
use Rattle.transport_segments.specs.Runs.{IsDatagram, IsPart, IsAmong, AllAmong, TakesAll, HasCome, AllCame, OneLacks, Gives}
use Rattle.transport_segments.specs.declared.assembler.Taken.{Taken}
use Rattle.transport_segments.specs.declared.assembler.Taken.TheVariants.{Kept, Need, Whole}
use Rattle.transport_segments.proofs.WrittenLemmas.{written-before, written-inside, written-after, length-written}
use Rattle.transport_segments.proofs.PartLemmas.{are_parts}

-- the byte of that place is there and came, or is missing and did not
abbrev HoldsAt : List ℕ → List (List ℕ) → List (Option ℕ) → ℕ → Type 0
HoldsAt datagram come places at =
    ((get_or places at None ≡ Some (get_or datagram at 0)) × HasCome come at)
    ⊎ ((get_or places at None ≡ None) × (¬ HasCome come at))

-- the places hold exactly what came
record PlacesHold (datagram : List ℕ) (come : List (List ℕ)) (places : List (Option ℕ)) : Type 0 where
  len : length places ≡ length datagram
  each : (at : ℕ) → at < length datagram → HoldsAt datagram come places at

-- what is kept holds exactly what came
data Holds (datagram : List ℕ) (id : ℕ) : (come : List (List ℕ)) (kept : Reassembly) → Type 0 where
  Nothing : Holds datagram id [] Empty
  Something : {come : List (List ℕ)} (places : List (Option ℕ)) → PlacesHold datagram come places → Holds datagram id come (Partial id places)

none_came : (at : ℕ) → ¬ HasCome [] at
none_came at has = let item = has.among.1 in absurd (cc)

-- one that came before has come
come_more : (come : List (List ℕ)) (segment : List ℕ) (at : ℕ) → HasCome come at → HasCome (segment ∷ come) at
come_more come segment at has = record { segment = has.segment; among = (suc has.among.0, has.among.1); from = has.from; to = has.to }

-- where the segment does not carry it, one before it does
come_before : (come : List (List ℕ)) (segment : List ℕ) (at : ℕ)
    → (at < offset_of segment) ⊎ (offset_of segment + length (payload_of segment) ≤ at)
    → HasCome (segment ∷ come) at → HasCome come at
come_before come segment at outside has = go has.segment has.among.0 has.among.1 has.from has.to outside
  where
    go : (s : List ℕ) (k : ℕ) → slice_get (segment ∷ come) k ≡ Some s → offset_of s ≤ at → at < offset_of s + length (payload_of s)
        → (at < offset_of segment) ⊎ (offset_of segment + length (payload_of segment) ≤ at) → HasCome come at
    go s zero e from to (inl less) = absurd (let same : segment ≡ s = cc in let o : offset_of segment ≡ offset_of s = ap offset_of same in omega arith)
    go s zero e from to (inr more) = absurd (let same : segment ≡ s = cc in let o : offset_of segment ≡ offset_of s = ap offset_of same in
        let p : length (payload_of segment) ≡ length (payload_of s) = ap (λ (x : List ℕ). length (payload_of x)) same in omega arith)
    go s (suc k) e from to out = record { segment = s; among = (k, e); from = from; to = to }

-- an empty map holds nothing
blank_holds : (datagram : List ℕ) → PlacesHold datagram [] (replicate (length datagram) None)
blank_holds datagram = let none : Option ℕ = None in record {
  len = length-replicate (length datagram) none;
  each = λ at less. inr (get_or-replicate (length datagram) at none none less, none_came at);
}

-- the map that a part is written into
opened_holds : (datagram : List ℕ) (id : ℕ) (come : List (List ℕ)) (kept : Reassembly) → Holds datagram id come kept
    → PlacesHold datagram come (opened kept id (length datagram))
opened_holds datagram id come kept Nothing = blank_holds datagram
opened_holds datagram id come kept (Something places holds) =
    let session : nat_eq id id ≡ true = eq-eqb id id refl in
    let size : nat_eq (length places) (length datagram) ≡ true = eq-eqb (length places) (length datagram) holds.len in
    let same : opened (Partial id places) id (length datagram) ≡ places =
    ap (λ b. cond (b && nat_eq (length places) (length datagram)) places (replicate (length datagram) None)) session
    ∙ ap (λ b. cond b places (replicate (length datagram) None)) size in
    subst (λ (p : List (Option ℕ)). PlacesHold datagram come p) (sym same) holds

-- the map after a part
written_holds : (datagram : List ℕ) (id : ℕ) (come : List (List ℕ)) (segment : List ℕ) (places : List (Option ℕ))
    → PlacesHold datagram come places → IsPart datagram id segment
    → PlacesHold datagram (segment ∷ come) (written places (offset_of segment) (payload_of segment))
written_holds datagram id come segment places holds part =
    let len : length places ≡ length datagram = holds.len in
    let size : size_of segment ≡ length datagram = part.size in
    let inside : offset_of segment + length (payload_of segment) ≤ size_of segment = part.sound.inside in
    let fits : offset_of segment + length (payload_of segment) ≤ length places = omega arith in
    record {
      len = length-written places (offset_of segment) (payload_of segment) fits ∙ len;
      each = λ at less. elim (cases_lt at (offset_of segment)) [
        | inl before ↦ moved at (inl before) (written-before places (offset_of segment) (payload_of segment) at fits before) (holds.each at less)
        | inr from ↦ elim (cases_lt at (offset_of segment + length (payload_of segment))) [
          | inl to ↦ put at from to fits
          | inr after ↦ moved at (inr after) (written-after places (offset_of segment) (payload_of segment) at fits after) (holds.each at less)
        ]
      ];
    }
  where
    moved : (at : ℕ) → (at < offset_of segment) ⊎ (offset_of segment + length (payload_of segment) ≤ at)
        → get_or (written places (offset_of segment) (payload_of segment)) at None ≡ get_or places at None
        → HoldsAt datagram come places at
        → HoldsAt datagram (segment ∷ come) (written places (offset_of segment) (payload_of segment)) at
    moved at out same (inl there) = inl (same ∙ there.0, come_more come segment at there.1)
    moved at out same (inr gone) = inr (same ∙ gone.0, λ has. gone.1 (come_before come segment at out has))

    put : (at : ℕ) → offset_of segment ≤ at → at < offset_of segment + length (payload_of segment)
        → offset_of segment + length (payload_of segment) ≤ length places
        → HoldsAt datagram (segment ∷ come) (written places (offset_of segment) (payload_of segment)) at
    put at from to fits =
        let place : offset_of segment + (at - offset_of segment) ≡ at = omega arith in
        inl (
          written-inside places (offset_of segment) (payload_of segment) at fits from to
              ∙ ap (λ (b : ℕ). Some b) (part.payload (at - offset_of segment) (omega arith) ∙ ap (λ (n : ℕ). get_or datagram n 0) place),
          record { segment = segment; among = (zero, refl); from = from; to = to },
        )

after_holds : (datagram : List ℕ) (id : ℕ) (come : List (List ℕ)) (kept : Reassembly) (segment : List ℕ)
    → Holds datagram id come kept → IsPart datagram id segment
    → PlacesHold datagram (segment ∷ come) (places_after kept segment)
after_holds datagram id come kept segment holds part =
    written_holds datagram id come segment (opened kept (id_of segment) (size_of segment))
    (subst (λ (i : ℕ). PlacesHold datagram come (opened kept i (size_of segment))) (sym part.session)
    (subst (λ (n : ℕ). PlacesHold datagram come (opened kept id n)) (sym part.size) (opened_holds datagram id come kept holds))) part

-- a place that is missing did not come
lacks : (datagram : List ℕ) (come : List (List ℕ)) (places : List (Option ℕ)) (at : ℕ) → PlacesHold datagram come places
    → IsMissing places at → OneLacks datagram come
lacks datagram come places at holds missing =
    let within : at < length places = slice_get_within places at None missing in
    let len : length places ≡ length datagram = holds.len in
    let less : at < length datagram = omega arith in
    let item : get_or places at None ≡ None = get_or_from_slice_get places at None None missing in
    elim (holds.each at less) [ inl there ↦ absurd (let byte = there.0 in cc) | inr gone ↦ (at, less, gone.1) ]

-- where all places are there, all came, and they are the datagram's bytes
whole_came : (datagram : List ℕ) (come : List (List ℕ)) (places : List (Option ℕ)) (whole : List ℕ) → PlacesHold datagram come places
    → places ≡ map Some whole → AllCame datagram come × (whole ≡ datagram)
whole_came datagram come places whole holds e = (came, ext_get_or 0 whole datagram lens (λ at less. bytes at less))
  where
    lens : length whole ≡ length datagram
    lens = sym (length-map whole Some) ∙ ap length (sym e) ∙ holds.len

    item : (at : ℕ) → at < length whole → get_or places at None ≡ Some (get_or whole at 0)
    item at less = ap (λ (p : List (Option ℕ)). get_or p at None) e ∙ get_or-map Some whole at 0 None less

    came : AllCame datagram come
    came at less = elim (holds.each at less) [ inl there ↦ there.1 | inr gone ↦ absurd (let byte = item at (omega (arith, lens)) in let none = gone.0 in cc) ]

    bytes : (at : ℕ) → at < length whole → get_or whole at 0 ≡ get_or datagram at 0
    bytes at less = elim (holds.each at (omega (arith, lens))) [
      | inl there ↦ (let byte = item at less in let other = there.0 in cc)
      | inr gone ↦ absurd (let byte = item at less in let none = gone.0 in cc)
    ]

-- the answers to the segments of one datagram
gives : (datagram : List ℕ) (id : ℕ) (segments : List (List ℕ)) → ((segment : List ℕ) → IsAmong segments segment → IsPart datagram id segment)
    → (fed come : List (List ℕ)) (kept : Reassembly) (answers : List Taken) → Holds datagram id come kept → AllAmong segments fed
    → TakesAll kept fed answers → Gives datagram come fed answers
gives datagram id segments parts [] come kept [] holds among takes = tt
gives datagram id segments parts [] come kept (taken ∷ answers) holds among takes = absurd takes
gives datagram id segments parts (segment ∷ fed) come kept [] holds among takes = absurd takes
gives datagram id segments parts (segment ∷ fed) come kept (Whole whole ∷ answers) holds among takes =
    let after = after_holds datagram id come kept segment holds (parts segment among.0) in
    let all = whole_came datagram (segment ∷ come) (places_after kept segment) whole after takes.1.0 in (
      all.0,
      all.1,
      gives datagram id segments parts fed [] takes.0 answers
          (subst (λ (k : Reassembly). Holds datagram id [] k) (sym takes.1.1) Nothing) among.1 takes.2,
    )
gives datagram id segments parts (segment ∷ fed) come kept (Need at ∷ answers) holds among takes =
    let part = parts segment among.0 in
    let after = after_holds datagram id come kept segment holds part in (
      lacks datagram (segment ∷ come) (places_after kept segment) at after takes.1.0.0.missing,
      gives datagram id segments parts fed (segment ∷ come) takes.0 answers
          (subst (λ (k : Reassembly). Holds datagram id (segment ∷ come) k) (sym takes.1.1)
          (subst (λ (i : ℕ). Holds datagram id (segment ∷ come) (Partial i (places_after kept segment))) (sym part.session)
          (Something (places_after kept segment) after))) among.1 takes.2,
    )
gives datagram id segments parts (segment ∷ fed) come kept (Kept ∷ answers) holds among takes =
    let part = parts segment among.0 in
    let after = after_holds datagram id come kept segment holds part in (
      lacks datagram (segment ∷ come) (places_after kept segment) _ after takes.1.0,
      gives datagram id segments parts fed (segment ∷ come) takes.0 answers
          (subst (λ (k : Reassembly). Holds datagram id (segment ∷ come) k) (sym takes.1.1)
          (subst (λ (i : ℕ). Holds datagram id (segment ∷ come) (Partial i (places_after kept segment))) (sym part.session)
          (Something (places_after kept segment) after))) among.1 takes.2,
    )

pub gives_whole : (datagram : List ℕ) (id : ℕ) (segments fed : List (List ℕ)) (answers : List Taken) → IsDatagram datagram → id ≤ 15
    → Parts datagram id segments → AllAmong segments fed → TakesAll Empty fed answers → Gives datagram [] fed answers
gives_whole datagram id segments fed answers is small parts among takes =
    gives datagram id segments (λ segment one. are_parts datagram segment id segments is small parts one) fed [] Empty answers Nothing among takes
