-- What a segment makes of what is kept is what the function of both says.
use Rattle.std.proofs.Common.{◌≡◌, ℕ, zero, suc, ◌+◌, ◌-◌, ◌<◌, ◌≤◌, ◌⊎◌, inl, inr, List, [], ◌∷◌, length, map, get_or, Bool, true, false, Some, None, refl, sym, ◌∙◌, ap, subst, arith}
use Rattle.std.specs.Prelude.{Result, Ok, Err, IfOk, IfErr, Option, is_some, MatchOption, slice_get, slice_index, nat_lt, nat_le, ◌==◌, ◌&&◌, ◌||◌, if◌then◌else◌}
use Rattle.std.specs.Bool.{Decides}
use Rattle.std.proofs.lemmas.Bool.Decides.{Decides-eqb, Decides-ltb, Decides-and, Decides-or, Decides-like, nat_tests}
use Rattle.std.proofs.lemmas.Option.{get_or_from_slice_get}
use Rattle.zw_base.specs.Crc.{crc}
use Rattle.transport_segments.specs.Segment.{IsSegment, id_of, size_of, offset_of, payload_of, extension_of, check_of, covered_of}
use Rattle.transport_segments.specs.Faults.{IsSound, IsFaultOf, MayAnswer}
use Rattle.transport_segments.specs.Places.{IsMissing, IsThere, IsLeastMissing, IsFull, present}
use Rattle.transport_segments.specs.Kept.{Reassembly}
use Rattle.transport_segments.specs.Reassembly.{places_after, places_with, Answers, Takes}
use Rattle.transport_segments.specs.Taking.{is_segment, is_sound, first_missing, taken_by, taken_at, TakesAs, CompletesAs}
use Rattle.transport_segments.specs.declared.assembler.Taken.{Taken}
use Rattle.transport_segments.specs.declared.assembler.Taken.TheVariants.{Kept, Need, Whole}
use Rattle.transport_segments.specs.declared.fault.SegmentFault.{SegmentFault}
use Rattle.transport_segments.specs.declared.fault.SegmentFault.TheVariants.{BadCrc, BadSize, BadOffset, Extension, Short, NoMemory}

leb_decides : (a b : ℕ) → Decides (nat_le a b) (a ≤ b)
leb_decides a b = (λ e. grind (arith, nat_tests), λ h. grind (arith, nat_tests))

is_false : {P : Type 0} (r : Bool) → Decides r P → (¬ P) → r ≡ false
is_false true d h = absurd (h (d.0 refl))
is_false false d h = refl

range_decides : (low high n : ℕ) → Decides (nat_le low n && nat_lt n high) ((low ≤ n) × (n < high))
range_decides low high n = Decides-and (nat_le low n) (nat_lt n high) (leb_decides low n) (Decides-ltb n high)

pub segment_decides : (bytes : List ℕ) → Decides (is_segment bytes) (IsSegment bytes)
segment_decides bytes =
    let at : ℕ = slice_index bytes 1 in
    let first = (nat_le 192 at && nat_lt at 200) && nat_le 7 (length bytes) in
    let later = (nat_le 224 at && nat_lt at 232) && nat_le 8 (length bytes) in
    Decides-like (is_segment bytes) (λ p. record { of_class = p.0; of_command = p.1 }) (λ s. (s.of_class, s.of_command))
    (Decides-and (slice_index bytes 0 == 85) (first || later) (Decides-eqb (slice_index bytes 0) 85)
    (Decides-or first later
    (Decides-and (nat_le 192 at && nat_lt at 200) (nat_le 7 (length bytes)) (range_decides 192 200 at) (leb_decides 7 (length bytes)))
    (Decides-and (nat_le 224 at && nat_lt at 232) (nat_le 8 (length bytes)) (range_decides 224 232 at) (leb_decides 8 (length bytes)))))

sound_decides : (bytes : List ℕ) → Decides (is_sound bytes) (IsSound bytes)
sound_decides bytes =
    let segment = is_segment bytes in
    let check = check_of bytes == crc (covered_of bytes) in
    let extension = extension_of bytes == 0 in
    let some = nat_le 1 (size_of bytes) in
    let most = nat_le (size_of bytes) 512 in
    let inside = nat_le (offset_of bytes + length (payload_of bytes)) (size_of bytes) in
    Decides-like (is_sound bytes)
    (λ p. record {
      sized = record {
        plain = record { intact = record { segment = p.0.0.0.0.0; check = p.0.0.0.0.1 }; extension = p.0.0.0.1 };
        from_one = p.0.0.1;
        to_most = p.0.1;
      };
      inside = p.1;
    })
    (λ s. (((((s.sized.plain.intact.segment, s.sized.plain.intact.check), s.sized.plain.extension), s.sized.from_one), s.sized.to_most), s.inside))
    (Decides-and (segment && check && extension && some && most) inside
    (Decides-and (segment && check && extension && some) most
    (Decides-and (segment && check && extension) some
    (Decides-and (segment && check) extension
    (Decides-and segment check (segment_decides bytes) (Decides-eqb (check_of bytes) (crc (covered_of bytes))))
    (Decides-eqb (extension_of bytes) 0))
    (leb_decides 1 (size_of bytes)))
    (leb_decides (size_of bytes) 512))
    (leb_decides (offset_of bytes + length (payload_of bytes)) (size_of bytes)))

not_sound : (bytes : List ℕ) (fault : SegmentFault) → IsFaultOf bytes fault → ¬ IsSound bytes
not_sound bytes Short is s = is s.sized.plain.intact.segment
not_sound bytes (BadCrc want got) is s = is.3 (is.1 ∙ sym s.sized.plain.intact.check ∙ sym is.2)
not_sound bytes Extension is s = let none : extension_of bytes ≡ 0 = s.sized.plain.extension in let one : extension_of bytes ≡ 1 = is.1 in absurd (omega arith)
not_sound bytes (BadSize size) is s =
    let low : 1 ≤ size_of bytes = s.sized.from_one in
    let high : size_of bytes ≤ 512 = s.sized.to_most in
    let same : size ≡ size_of bytes = is.1 in
    elim is.2 [ inl none ↦ absurd (omega arith) | inr more ↦ absurd (omega arith) ]
not_sound bytes (BadOffset offset) is s =
    let inside : offset_of bytes + length (payload_of bytes) ≤ size_of bytes = s.inside in
    let past : size_of bytes < offset + length (payload_of bytes) = is.2 in
    let same : offset ≡ offset_of bytes = is.1 in
    absurd (omega arith)
not_sound bytes NoMemory is s = is

-- ---- what is answered

missing_none : (n : ℕ) (datagram : List ℕ) → first_missing n (map Some datagram) ≡ None
missing_none n [] = refl
missing_none n (byte ∷ datagram) = missing_none (suc n) datagram

present-map : (datagram : List ℕ) → present (map Some datagram) ≡ datagram
present-map [] = refl
present-map (byte ∷ datagram) = ap (λ bytes. byte ∷ bytes) (present-map datagram)

-- the place that is missing, before which all are there
least_is_first : (n at : ℕ) (places : List (Option ℕ)) → IsMissing places at → ((before : ℕ) → before < at → IsThere places before)
    → first_missing n places ≡ Some (n + at)
least_is_first n at [] missing least = absurd (cc)
least_is_first n zero (None ∷ places) missing least = ap Some (omega arith)
least_is_first n zero (Some byte ∷ places) missing least = absurd (cc)
least_is_first n (suc at) (None ∷ places) missing least = let there = least zero (omega arith) in absurd (cc)
least_is_first n (suc at) (Some byte ∷ places) missing least =
    least_is_first (suc n) at places missing (λ before less. least (suc before) (omega arith)) ∙ ap Some (omega arith)

-- a place that is missing shows that there is a first one
some_missing : (n at : ℕ) (places : List (Option ℕ)) → IsMissing places at → (first : ℕ) × (first_missing n places ≡ Some first)
some_missing n at [] missing = absurd (cc)
some_missing n at (None ∷ places) missing = (n, refl)
some_missing n zero (Some byte ∷ places) missing = absurd (cc)
some_missing n (suc at) (Some byte ∷ places) missing = some_missing (suc n) at places missing

answer_is : (places : List (Option ℕ)) (taken : Taken) → Answers places taken → taken_by places (first_missing 0 places) ≡ taken
answer_is places (Need at) answers =
    let first : first_missing 0 places ≡ Some at = least_is_first 0 at places answers.0.missing answers.0.least ∙ ap Some (omega arith) in
    let last : get_or places (length places - 1) None ≡ Some answers.1.0 = get_or_from_slice_get places (length places - 1) (Some answers.1.0) None answers.1.1 in
    rw (first, last) refl
answer_is places Kept answers =
    let first = some_missing 0 (length places - 1) places answers in
    let last : get_or places (length places - 1) None ≡ None = get_or_from_slice_get places (length places - 1) None None answers in
    rw (first.1, last) refl
answer_is places (Whole datagram) answers = absurd answers

whole_is : (places : List (Option ℕ)) (datagram : List ℕ) → places ≡ map Some datagram → taken_by places (first_missing 0 places) ≡ Whole datagram
whole_is places datagram e =
    let first : first_missing 0 places ≡ None = ap (first_missing 0) e ∙ missing_none 0 datagram in
    let bytes : present places ≡ datagram = ap present e ∙ present-map datagram in
    rw (first, bytes) refl

takes_is : (kept next : Reassembly) (bytes : List ℕ) (taken : Taken) → Takes kept bytes taken next
    → taken_by (places_after kept bytes) (first_missing 0 (places_after kept bytes)) ≡ taken
takes_is kept next bytes (Whole datagram) takes = whole_is (places_after kept bytes) datagram takes.0
takes_is kept next bytes (Need at) takes = answer_is (places_after kept bytes) (Need at) takes.0
takes_is kept next bytes Kept takes = answer_is (places_after kept bytes) Kept takes.0

pub sound_taken : (kept : Reassembly) (bytes : List ℕ) → IsSound bytes → taken_at kept bytes ≡ Some (taken_by (places_after kept bytes) (first_missing 0 (places_after kept bytes)))
unfolding taken_at
sound_taken kept bytes sound = rw ((sound_decides bytes).1 sound) refl

fault_none : (kept : Reassembly) (bytes : List ℕ) (fault : SegmentFault) → IsFaultOf bytes fault → taken_at kept bytes ≡ None
unfolding taken_at
fault_none kept bytes fault is = rw (is_false (is_sound bytes) (sound_decides bytes) (not_sound bytes fault is)) refl

pub takes_exactly : (result : Result Taken SegmentFault) (kept next : Reassembly) (bytes : List ℕ)
    → IfOk result (λ taken. IsSound bytes) → IfOk result (λ taken. Takes kept bytes taken next) → IfErr result (λ fault. MayAnswer bytes fault)
    → TakesAs result (taken_at kept bytes)
takes_exactly (Ok taken) kept next bytes sound takes fault = sound_taken kept bytes sound ∙ ap Some (takes_is kept next bytes taken takes)
takes_exactly (Err NoMemory) kept next bytes sound takes fault = tt
takes_exactly (Err Short) kept next bytes sound takes fault = fault_none kept bytes Short fault
takes_exactly (Err (BadCrc want got)) kept next bytes sound takes fault = fault_none kept bytes (BadCrc want got) fault
takes_exactly (Err Extension) kept next bytes sound takes fault = fault_none kept bytes Extension fault
takes_exactly (Err (BadSize size)) kept next bytes sound takes fault = fault_none kept bytes (BadSize size) fault
takes_exactly (Err (BadOffset offset)) kept next bytes sound takes fault = fault_none kept bytes (BadOffset offset) fault

-- ---- what a segment completes

not_full_missing : (n : ℕ) (places : List (Option ℕ)) (datagram : List ℕ) → first_missing n places ≡ None → places ≡ map Some (present places)
not_full_missing n [] datagram e = refl
not_full_missing n (None ∷ places) datagram e = absurd (cc)
not_full_missing n (Some byte ∷ places) datagram e = ap (λ more. Some byte ∷ more) (not_full_missing (suc n) places datagram e)

by_whole : (places : List (Option ℕ)) (first : Option ℕ) (datagram : List ℕ) → taken_by places first ≡ Whole datagram → first ≡ None
by_whole places None datagram e = refl
by_whole places (Some at) datagram e = either (is_some (get_or places (length places - 1) None)) e
  where
    either : (b : Bool) → (if b then Need at else Kept) ≡ Whole datagram → Some at ≡ None
    either true e = absurd (cc)
    either false e = absurd (cc)

full_map : (datagram : List ℕ) → IsFull (map Some datagram)
unfolding IsFull
full_map [] at within = absurd (omega arith)
full_map (byte ∷ datagram) zero within = (byte, refl)
full_map (byte ∷ datagram) (suc at) within = full_map datagram at (omega arith)

pub completes_exactly : (kept : Reassembly) (bytes : List ℕ) (joined : Option (List ℕ)) → IsSound bytes
    → MatchOption joined (¬ IsFull (places_after kept bytes)) (λ datagram. places_after kept bytes ≡ map Some datagram)
    → CompletesAs (Ok joined) (taken_at kept bytes)
completes_exactly kept bytes (Some datagram) sound is = sound_taken kept bytes sound ∙ ap Some (whole_is (places_after kept bytes) datagram is)
completes_exactly kept bytes None sound is = λ datagram e.
    let whole : taken_by (places_after kept bytes) (first_missing 0 (places_after kept bytes)) ≡ Whole datagram = same_some (sym (sound_taken kept bytes sound) ∙ e) in
    let none = by_whole (places_after kept bytes) (first_missing 0 (places_after kept bytes)) datagram whole in
    let full : places_after kept bytes ≡ map Some (present (places_after kept bytes)) = not_full_missing 0 (places_after kept bytes) datagram none in
    is (subst (λ (x : List (Option ℕ)). IsFull x) (sym full) (full_map (present (places_after kept bytes))))
  where
    same_some : {a b : Taken} → Some a ≡ Some b → a ≡ b
    same_some e = cc

-- the same, from the fields of the segment
pub completes_by : (kept : Reassembly) (bytes : List ℕ) (joined : Option (List ℕ)) (id size offset : ℕ) (payload : List ℕ) → IsSound bytes
    → id ≡ id_of bytes → size ≡ size_of bytes → offset ≡ offset_of bytes → payload ≡ payload_of bytes
    → MatchOption joined (¬ IsFull (places_with kept id size offset payload)) (λ datagram. places_with kept id size offset payload ≡ map Some datagram)
    → CompletesAs (Ok joined) (taken_at kept bytes)
completes_by kept bytes joined id size offset payload sound i s o p is =
    let by : (x : List (Option ℕ)) → Type 0 = λ x. MatchOption joined (¬ IsFull x) (λ datagram. x ≡ map Some datagram) in
    let same : places_with kept id size offset payload ≡ places_after kept bytes =
    ap (λ (n : ℕ). places_with kept n size offset payload) i
    ∙ ap (λ (n : ℕ). places_with kept (id_of bytes) n offset payload) s
    ∙ ap (λ (n : ℕ). places_with kept (id_of bytes) (size_of bytes) n payload) o
    ∙ ap (λ (x : List ℕ). places_with kept (id_of bytes) (size_of bytes) (offset_of bytes) x) p in
    completes_exactly kept bytes joined sound (subst by same is)

pub completes_fault : (kept : Reassembly) (bytes : List ℕ) (fault : SegmentFault) → IsFaultOf bytes fault → CompletesAs (Err fault) (taken_at kept bytes)
completes_fault kept bytes Short is = fault_none kept bytes Short is
completes_fault kept bytes (BadCrc want got) is = fault_none kept bytes (BadCrc want got) is
completes_fault kept bytes Extension is = fault_none kept bytes Extension is
completes_fault kept bytes (BadSize size) is = fault_none kept bytes (BadSize size) is
completes_fault kept bytes (BadOffset offset) is = fault_none kept bytes (BadOffset offset) is
completes_fault kept bytes NoMemory is = tt
