-- What is kept of a datagram's session holds no other byte than the datagram's.
use Rattle.std.proofs.Common.{◌≡◌, ℕ, ◌+◌, ◌-◌, ◌<◌, ◌≤◌, List, length, map, get_or, Bool, true, false, Some, None, refl, sym, ◌∙◌, ap, subst, inl, inr, arith}
use Rattle.std.specs.Prelude.{Option, replicate, cond, nat_eq, ◌&&◌}
use Rattle.std.proofs.lemmas.Bool.{cases_lt, eqb-true}
use Rattle.std.proofs.lemmas.List.{length-replicate, length-map, get_or-replicate, get_or-map, get_or_past, ext_get_or}
use Rattle.std.proofs.lemmas.Option.{get_or_from_slice_get, slice_get-get_or}
use Rattle.transport_segments.specs.Segment.{id_of, size_of, offset_of, payload_of}
use Rattle.transport_segments.specs.Places.{written}
use Rattle.transport_segments.specs.Kept.{Reassembly, Empty, Partial}
use Rattle.transport_segments.specs.Reassembly.{opened, places_after, Takes}
use Rattle.transport_segments.specs.Runs.{IsPart, Agrees, IsNoOther}
use Rattle.transport_segments.specs.declared.assembler.Taken.{Taken}
use Rattle.transport_segments.specs.declared.assembler.Taken.TheVariants.{Kept, Need, Whole}
use Rattle.transport_segments.proofs.WrittenLemmas.{written-before, written-inside, written-after, length-written}

-- each byte that is there is the datagram's
record PlacesAgree (datagram : List ℕ) (places : List (Option ℕ)) : Type 0 where
  len : length places ≡ length datagram
  each : (at byte : ℕ) → get_or places at None ≡ Some byte → byte ≡ get_or datagram at 0

blank_agrees : (datagram : List ℕ) → PlacesAgree datagram (replicate (length datagram) None)
blank_agrees datagram = let none : Option ℕ = None in record {
  len = length-replicate (length datagram) none;
  each = λ at byte e. elim (cases_lt at (length datagram)) [
    | inl less ↦ absurd (let gone = get_or-replicate (length datagram) at none none less in cc)
    | inr past ↦ absurd (let gone = get_or_past (replicate (length datagram) none) at none (omega (arith, length-replicate (length datagram) none)) in cc)
  ];
}

opened_agrees : (datagram : List ℕ) (id : ℕ) (kept : Reassembly) → Agrees datagram id kept
    → PlacesAgree datagram (opened kept id (length datagram))
opened_agrees datagram id Empty agrees = blank_agrees datagram
opened_agrees datagram id (Partial id' places) agrees = go (nat_eq id' id) (nat_eq (length places) (length datagram)) refl refl
  where
    go : (b d : Bool) → nat_eq id' id ≡ b → nat_eq (length places) (length datagram) ≡ d
        → PlacesAgree datagram (cond (b && d) places (replicate (length datagram) None))
    go false d e f = blank_agrees datagram
    go true false e f = blank_agrees datagram
    go true true e f =
        let len : length places ≡ length datagram = eqb-true (length places) (length datagram) f in
        record {
          len = len;
          each = λ at byte there. elim (cases_lt at (length places)) [
            | inl less ↦ agrees (eqb-true id' id e) len at byte (slice_get-get_or places at None less ∙ ap Some there)
            | inr past ↦ absurd (let gone = get_or_past places at None past in cc)
          ];
        }

after_agrees : (datagram : List ℕ) (id : ℕ) (segment : List ℕ) (places : List (Option ℕ)) → PlacesAgree datagram places
    → IsPart datagram id segment → PlacesAgree datagram (written places (offset_of segment) (payload_of segment))
after_agrees datagram id segment places agrees part =
    let len : length places ≡ length datagram = agrees.len in
    let size : size_of segment ≡ length datagram = part.size in
    let inside : offset_of segment + length (payload_of segment) ≤ size_of segment = part.sound.inside in
    let fits : offset_of segment + length (payload_of segment) ≤ length places = omega arith in
    record {
      len = length-written places (offset_of segment) (payload_of segment) fits ∙ len;
      each = λ at byte e. elim (cases_lt at (offset_of segment)) [
        | inl before ↦ agrees.each at byte (sym (written-before places (offset_of segment) (payload_of segment) at fits before) ∙ e)
        | inr from ↦ elim (cases_lt at (offset_of segment + length (payload_of segment))) [
          | inl to ↦ put at byte from to fits e
          | inr after ↦ agrees.each at byte (sym (written-after places (offset_of segment) (payload_of segment) at fits after) ∙ e)
        ]
      ];
    }
  where
    put : (at byte : ℕ) → offset_of segment ≤ at → at < offset_of segment + length (payload_of segment)
        → offset_of segment + length (payload_of segment) ≤ length places
        → get_or (written places (offset_of segment) (payload_of segment)) at None ≡ Some byte → byte ≡ get_or datagram at 0
    put at byte from to fits e =
        let place : offset_of segment + (at - offset_of segment) ≡ at = omega arith in
        let item = written-inside places (offset_of segment) (payload_of segment) at fits from to in
        let same : byte ≡ get_or (payload_of segment) (at - offset_of segment) 0 = cc in
        same ∙ part.payload (at - offset_of segment) (omega arith) ∙ ap (λ (n : ℕ). get_or datagram n 0) place

places_agree : (datagram : List ℕ) (id : ℕ) (kept : Reassembly) (segment : List ℕ) → Agrees datagram id kept → IsPart datagram id segment
    → PlacesAgree datagram (places_after kept segment)
places_agree datagram id kept segment agrees part =
    after_agrees datagram id segment (opened kept (id_of segment) (size_of segment))
    (subst (λ (i : ℕ). PlacesAgree datagram (opened kept i (size_of segment))) (sym part.session)
    (subst (λ (n : ℕ). PlacesAgree datagram (opened kept id n)) (sym part.size) (opened_agrees datagram id kept agrees))) part

partial_agrees : (datagram : List ℕ) (id i : ℕ) (places : List (Option ℕ)) (next : Reassembly) → PlacesAgree datagram places
    → next ≡ Partial i places → Agrees datagram id next
partial_agrees datagram id i places next agrees e =
    let here : Agrees datagram id (Partial i places) = λ session len at byte there. agrees.each at byte (get_or_from_slice_get places at (Some byte) None there) in
    subst (λ (k : Reassembly). Agrees datagram id k) (sym e) here

whole_agrees : (datagram : List ℕ) (places : List (Option ℕ)) (whole : List ℕ) → PlacesAgree datagram places → places ≡ map Some whole
    → whole ≡ datagram
whole_agrees datagram places whole agrees e =
    let lens : length whole ≡ length datagram = sym (length-map whole Some) ∙ ap length (sym e) ∙ agrees.len in
    ext_get_or 0 whole datagram lens (λ at less.
    agrees.each at (get_or whole at 0) (ap (λ (p : List (Option ℕ)). get_or p at None) e ∙ get_or-map Some whole at 0 None less))

pub keeps_agreement : (datagram segment : List ℕ) (id : ℕ) (kept next : Reassembly) (taken : Taken) → IsPart datagram id segment
    → Agrees datagram id kept → Takes kept segment taken next → Agrees datagram id next × IsNoOther datagram taken
keeps_agreement datagram segment id kept next (Whole whole) part agrees takes = (
  subst (λ (k : Reassembly). Agrees datagram id k) (sym takes.1) tt,
  whole_agrees datagram (places_after kept segment) whole (places_agree datagram id kept segment agrees part) takes.0,
)
keeps_agreement datagram segment id kept next (Need at) part agrees takes =
    (partial_agrees datagram id (id_of segment) (places_after kept segment) next (places_agree datagram id kept segment agrees part) takes.1, tt)
keeps_agreement datagram segment id kept next Kept part agrees takes =
    (partial_agrees datagram id (id_of segment) (places_after kept segment) next (places_agree datagram id kept segment agrees part) takes.1, tt)
