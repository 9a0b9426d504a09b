-- What the segment that a device hears next comes to: it goes on to the next, or asks for the first that is missing, or the message is heard; so each brings the end nearer.
use Rattle.std.proofs.Common.{◌≡◌, ◌≢◌, ℕ, zero, suc, ◌+◌, ◌-◌, ◌*◌, ◌/◌, ◌%◌, ◌<◌, ◌≤◌, ◌==◌, ◌&&◌, inl, inr, Bool, true, false, if◌then◌else◌, List, [], ◌∷◌, length, refl, sym, ap, ◌∙◌, subst, arith}
use Rattle.std.specs.Prelude.{◌⊎◌, Option, Some, None, is_some, replicate, slice_index_or}
use Rattle.std.proofs.lemmas.Bool.{cases_lt, eq-eqb, eqb-true, ne_eqb}
use Rattle.std.proofs.lemmas.Option.{get_or_from_slice_get, slice_get_within}
use Rattle.class_info.specs.declared.message.InfoMessage.TheVariants.{TransportComplete, TransportRequest}
use Rattle.class_info.specs.InfoSpelling.{form}
use Rattle.transport_segments.specs.Segment.{offset_of, payload_of, size_of}
use Rattle.transport_segments.specs.Places.{IsLeastMissing, IsMissing, IsThere}
use Rattle.transport_segments.specs.Kept.{Reassembly, Empty, Partial}
use Rattle.transport_segments.specs.Reassembly.{opened}
use Rattle.transport_segments.specs.Runs.{IsPart}
use Rattle.transport_segments.specs.Taking.{ends_its_datagram}
use Rattle.device_stack.specs.Effects.{work_ticks}
use Rattle.device_sim.specs.State.{State}
use Rattle.host_model.specs.Sessions.{segment_count}
use Rattle.proof_messages.specs.Asking.{IsLeft}
use Rattle.proof_messages.specs.Reporting.{TellsOwn}
use Rattle.proof_messages.specs.Segments.{KeepsPart, MakesWhole}
use Rattle.proof_messages.specs.Slices.{AddsSlice, AnswersAgain, Asks_slice, InSlices, IsSlice, KeepsSlices, Keeps_slice, Makes_whole, Repeats, Silent, TakesSlice, missing_to}
use Rattle.proof_in_time.specs.Answering.{AnswersPart, AnswersSession, IsDoneOrAtWork, Of_last, Of_next}
use Rattle.proof_in_time.specs.Parts.{Asks_one, Asks_two, AsksLeast, HasBefore, Hears_one, Hears_two, IsInTurn, IsWanted, Lacks_last, Lacks_none, Taken, ToHear, come, heard_first, last_place, slot_of}

-- ---- places

there_or_missing : (places : List (Option ℕ)) (at : ℕ) → IsThere places at → IsMissing places at → ⊥
there_or_missing places at there missing = let wrong : Some (Some there.0) ≡ Some None = sym there.1 ∙ missing in absurd cc

pub there_within : (places : List (Option ℕ)) (at : ℕ) → IsThere places at → at < length places
there_within places at there = slice_get_within places at (Some there.0) there.1

missing_within : (places : List (Option ℕ)) (at : ℕ) → IsMissing places at → at < length places
missing_within places at missing = slice_get_within places at None missing

-- what is kept of a datagram is what its segments are written into
same_opened : (id size : ℕ) (places : List (Option ℕ)) → length places ≡ size → opened (Partial id places) id size ≡ places
same_opened id size places long = by (id == id) (length places == size) (eq-eqb id id refl) (eq-eqb (length places) size long)
  where
    by : (a b : Bool) → a ≡ true → b ≡ true → ◌≡◌ {A = List (Option ℕ)} (if a && b then places else replicate size None) places
    by a b one two = rw (one, two) refl

-- ---- the slices of a message

module _ (message : List ℕ) where
  abbrev size : ℕ
  size = length message

  abbrev count : ℕ
  count = segment_count message

  abbrev last : ℕ
  last = last_place message

  -- the first byte of a slice is of the message
  slice_inside : (k : ℕ) → k < count → 39 * k < size
  slice_inside k less = omega (arith, less)

  inside_slices : (k : ℕ) → 39 * k < size → k < count
  inside_slices k less = omega (arith, less)

  last_least : 1 ≤ size → last < count
  last_least some = omega (arith, some)

  in_last : 1 ≤ size → (39 * last) / 39 ≡ (size - 1) / 39
  in_last some = omega (arith, some)

  module _ (some : 1 ≤ size) (places : List (Option ℕ)) (long : length places ≡ size) (slices : InSlices places) where
    last_byte : IsThere places (39 * last) → IsThere places (size - 1)
    last_byte there = slices (39 * last) (size - 1) (omega (arith, some, long)) (in_last some) there

    last_slice : IsThere places (size - 1) → IsThere places (39 * last)
    last_slice there = slices (size - 1) (39 * last) (omega (arith, some, long)) (sym (in_last some)) there

-- the last segment carries the last byte
ends_last : (message segment : List ℕ) (id place : ℕ) → IsPart message id segment → IsSlice place segment → segment_count message ≤ place + 1 → ends_its_datagram segment ≡ true
ends_last message segment id place part slice late = eq-eqb (offset_of segment + length (payload_of segment)) (size_of segment) (by slice.all)
  where
    by : (length (payload_of segment) ≡ 39) ⊎ (offset_of segment + length (payload_of segment) ≡ size_of segment) → offset_of segment + length (payload_of segment) ≡ size_of segment
    by (inr all) = all
    by (inl full) =
        let most = part.sound.inside in
        let size = part.size in
        let from = slice.offset in
        omega (arith, full, most, size, from, late)

-- ---- what is proved of slices

pub record SliceLaws : Type 0 where
  pub opened : (kept : Reassembly) (id size : ℕ) → KeepsSlices kept → length (opened kept id size) ≡ size
  pub no_more : (old new : List (Option ℕ)) → ((k : ℕ) → IsThere old (39 * k) → IsThere new (39 * k)) → (count : ℕ) → missing_to new count ≤ missing_to old count
  pub one_less : (old new : List (Option ℕ)) → ((k : ℕ) → IsThere old (39 * k) → IsThere new (39 * k)) → (place : ℕ) → IsThere new (39 * place) → slice_index_or old (39 * place) None ≡ None → (count : ℕ) → place < count
      → missing_to new count + 1 ≤ missing_to old count

-- ---- what is to be heard after one of them

-- what was asked for goes first, or else the next of the attempt; and the device has asked for another
abbrev pub GoesOnTo : ToHear → ℕ → ToHear → Type 0
GoesOnTo (Hears_one place) least (Hears_two then_place other) = other ≡ least
GoesOnTo (Hears_one place) least (Asks_one other) = other ≡ least
GoesOnTo (Hears_two place asked) least (Hears_two then_place other) = (then_place ≡ asked) × (other ≡ least)
GoesOnTo (Hears_two place asked) least (Asks_two then_place other) = (then_place ≡ asked) × (other ≡ least)
GoesOnTo old least new = ⊥

-- it tells the end of the session, or is at work on it
pub record EndsWith (session : ℕ) (new : State) (replies : List (List ℕ)) : Type 0 where
  pub payload : List ℕ
  pub says : replies ≡ form (TransportComplete (session % 16)) ∷ payload ∷ []
  pub taken : new.sessions.taken ≡ session
  pub tells : TellsOwn new payload
  pub some : 1 ≤ length payload
  pub few : length payload ≤ 46
  pub comes_to : IsDoneOrAtWork new

-- so many sessions were taken before
pub data HearsPart (session was : ℕ) (message : List ℕ) (hears : ToHear) (next ticks : ℕ) (new : State) (replies : List (List ℕ)) : Type 0 where
  Goes_on : (place : ℕ) → hears ≡ Hears_one place → next ≡ place + 1 → place + 1 < segment_count message → replies ≡ [] → IsInTurn session message (Hears_one (place + 1)) (place + 2) new (ticks - 1) → 1 ≤ ticks → new.sessions.taken ≡ was
      → HearsPart session was message hears next ticks new replies
  Wants : (least : ℕ) → least < segment_count message → replies ≡ form (TransportRequest (session % 16) (39 * least)) ∷ [] → ((then_hears : ToHear) → GoesOnTo hears least then_hears → IsWanted session message then_hears new (ticks - 1)) → 1 ≤ ticks → new.sessions.taken ≡ was
      → HearsPart session was message hears next ticks new replies
  Ends_so : EndsWith session new replies → 5 ≤ ticks → HearsPart session was message hears next ticks new replies

-- ---- the ticks that are to come then

fewer_missing : (old new was now ticks : ℕ) → new + 1 ≤ old → now ≤ 1 → 3 * old + was + 2 ≤ ticks → 3 * new + now + 2 ≤ ticks - 1
fewer_missing old new was now ticks less one few = omega (arith, less, one, few)

nearer_slot : (old new was now ticks : ℕ) → new ≤ old → now + 1 ≤ was → 3 * old + was + 2 ≤ ticks → 3 * new + now + 2 ≤ ticks - 1
nearer_slot old new was now ticks less nearer few = omega (arith, less, nearer, few)

one_most : (b : Bool) → (if b then 0 else 1) ≤ 1
one_most true = omega arith
one_most false = omega arith

-- what was asked for last is the next but one at most
slot_most : (hears then_hears : ToHear) (least : ℕ) → GoesOnTo hears least then_hears → slot_of then_hears least ≤ 1
slot_most (Hears_one place) (Hears_two first other) least goes = one_most (first == least)
slot_most (Hears_one place) (Asks_one other) least goes = omega arith
slot_most (Hears_two place asked) (Hears_two first other) least goes = one_most (first == least)
slot_most (Hears_two place asked) (Asks_two first other) least goes = one_most (first == least)
slot_most hears then_hears least goes = absurd goes

not_first : (place least : ℕ) → place ≢ least → ◌≡◌ {A = ℕ} (if place == least then 0 else 2) 2
not_first place least apart = ap (λ (b : Bool). if b then 0 else 2) (ne_eqb place least apart)

not_next : (place least : ℕ) → place ≢ least → ◌≡◌ {A = ℕ} (if place == least then 0 else 1) 1
not_next place least apart = ap (λ (b : Bool). if b then 0 else 1) (ne_eqb place least apart)

is_next : (place least : ℕ) → place ≡ least → ◌≡◌ {A = ℕ} (if place == least then 0 else 1) 0
is_next place least same = ap (λ (b : Bool). if b then 0 else 1) (eq-eqb place least same)

-- and comes nearer where another was heard
slot_nearer : (hears then_hears : ToHear) (least : ℕ) → AsksLeast hears least → GoesOnTo hears least then_hears → heard_first hears ≢ least → slot_of then_hears least + 1 ≤ slot_of hears least
slot_nearer (Hears_one place) (Hears_two first other) least asked goes apart = let most = one_most (first == least) in let two = not_first place least apart in omega (arith, most, two)
slot_nearer (Hears_one place) (Asks_one other) least asked goes apart = let two = not_first place least apart in omega (arith, two)
slot_nearer (Hears_two place other) (Hears_two first last) least asked goes apart = let none = is_next first least (goes.0 ∙ asked) in let one = not_next place least apart in omega (arith, none, one)
slot_nearer (Hears_two place other) (Asks_two first last) least asked goes apart = let none = is_next first least (goes.0 ∙ asked) in let one = not_next place least apart in omega (arith, none, one)
slot_nearer hears then_hears least asked goes apart = absurd goes

-- it has asked for the first that is missing
asks_least : (hears then_hears : ToHear) (least : ℕ) → GoesOnTo hears least then_hears → AsksLeast then_hears least
asks_least (Hears_one place) (Hears_two first other) least goes = goes
asks_least (Hears_one place) (Asks_one other) least goes = goes
asks_least (Hears_two place asked) (Hears_two first other) least goes = goes.1
asks_least (Hears_two place asked) (Asks_two first other) least goes = goes.1
asks_least hears then_hears least goes = absurd goes

-- a slice that is missing is counted
missing_some : (places : List (Option ℕ)) (k count : ℕ) → slice_index_or places (39 * k) None ≡ None → k < count → 1 ≤ missing_to places count
missing_some places k zero gone less = absurd (omega (arith, less))
missing_some places k (suc count) gone less = by (missing_some places k count gone) (cases_lt k count)
  where
    by : (k < count → 1 ≤ missing_to places count) → (k < count) ⊎ (count ≤ k) → 1 ≤ missing_to places (suc count)
    by more (inl before) = let rest = more before in omega (arith, rest)
    by more (inr from) =
        let same : k ≡ count = omega (arith, less, from) in
        let one : ◌≡◌ {A = ℕ} (if is_some (slice_index_or places (39 * count) None) then 0 else 1) 1 =
        ap (λ (o : Option ℕ). if is_some o then 0 else 1) (subst (λ (j : ℕ). slice_index_or places (39 * j) None ≡ None) same gone) in
        omega (arith, one)

-- ---- a device at its last session

left_at : (old new : State) → IsLeft old new → IsDoneOrAtWork old → IsDoneOrAtWork new
left_at old new left (inl done) = inl (record { over = λ working. done.over (ap (λ s. s.status) (sym left.0.sessions) ∙ working); no_work = left.0.work_left ∙ done.no_work })
left_at old new left (inr work) =
    inr (record {
      working = ap (λ s. s.status) left.0.sessions ∙ work.working;
      some = subst (λ (k : ℕ). 1 ≤ k) (sym left.0.work_left) work.some;
      few = subst (λ (k : ℕ). k ≤ work_ticks) (sym left.0.work_left) work.few;
      plan = work.plan;
      told = ap (λ w. w.answer) left.0.work ∙ work.told;
    })

five_left : (count ticks place : ℕ) → place < count → count + 4 ≤ ticks + place → 5 ≤ ticks
five_left count ticks place less few = omega (arith, less, few)

one_on : (count ticks place : ℕ) → place < count → count + 4 ≤ ticks + place → count + 4 ≤ (ticks - 1) + (place + 1)
one_on count ticks place less few = omega (arith, less, few)

module _ (laws : SliceLaws) (session : ℕ) (message segment : List ℕ) (place : ℕ) (old : State) (part : IsPart message (session % 16) segment) (slice : IsSlice place segment) (inside : place < segment_count message) (slices : KeepsSlices old.reassembly) where
  some : 1 ≤ length message
  some = let first = slice_inside message place inside in omega (arith, first)

  abbrev places : List (Option ℕ)
  places = opened old.reassembly (session % 16) (length message)

  module _ (new : State) (kept : KeepsPart message (session % 16) old new) (added : AddsSlice place (opened old.reassembly (session % 16) (length message)) kept.places) where
    long : length kept.places ≡ length message
    long = added.long ∙ laws.opened old.reassembly (session % 16) (length message) slices

    -- what has come then
    comes : come session message new ≡ kept.places
    comes = ap (λ (r : Reassembly). opened r (session % 16) (length message)) kept.kept ∙ same_opened (session % 16) (length message) kept.places long

    there_then : (k : ℕ) → IsThere kept.places (39 * k) → IsThere (come session message new) (39 * k)
    there_then k there = subst (λ (ps : List (Option ℕ)). IsThere ps (39 * k)) (sym comes) there

    there_now : (k : ℕ) → IsThere (come session message new) (39 * k) → IsThere kept.places (39 * k)
    there_now k there = subst (λ (ps : List (Option ℕ)). IsThere ps (39 * k)) comes there

    next_then : session ≡ old.sessions.taken + 1 → session ≡ new.sessions.taken + 1
    next_then next = next ∙ sym (ap (λ s. s.taken + 1) kept.untouched.sessions)

    -- ---- in turn

    -- the last slice has not come: so neither has the last byte
    module _ (lacks : IsThere (opened old.reassembly (session % 16) (length message)) (39 * last_place message) → ⊥) (below : (k : ℕ) → k < place → IsThere (opened old.reassembly (session % 16) (length message)) (39 * k)) where
      below_then : (k : ℕ) → k < place + 1 → IsThere kept.places (39 * k)
      below_then k less = by (cases_lt k place)
        where
          by : (k < place) ⊎ (place ≤ k) → IsThere kept.places (39 * k)
          by (inl before) = added.stay k (below k before)
          by (inr from) = subst (λ (j : ℕ). IsThere kept.places (39 * j)) (let same : place ≡ k = omega (arith, less, from) in same) added.came

      -- it came with this segment
      is_last : IsThere kept.places (39 * last_place message) → last_place message ≡ place
      is_last there = by (last_place message == place) refl
        where
          by : (b : Bool) → (last_place message == place) ≡ b → last_place message ≡ place
          by true is = eqb-true (last_place message) place is
          by false other = absurd (lacks (added.others (last_place message) (λ same. let wrong : true ≡ false = sym (eq-eqb (last_place message) place same) ∙ other in absurd cc) there))

      goes_on : IsMissing kept.places (length message - 1) → place + 1 < segment_count message
      goes_on missing = by (cases_lt (place + 1) (segment_count message))
        where
          by : (place + 1 < segment_count message) ⊎ (segment_count message ≤ place + 1) → place + 1 < segment_count message
          by (inl less) = less
          by (inr late) =
              let same : place ≡ last_place message = omega (arith, late, inside) in
              absurd (there_or_missing kept.places (length message - 1) (last_byte message some kept.places long added.whole (subst (λ (j : ℕ). IsThere kept.places (39 * j)) same added.came)) missing)

      none_wanted : (least : ℕ) → IsLeastMissing kept.places (39 * least) → IsThere kept.places (length message - 1) → ⊥
      none_wanted least first end =
          let same = is_last (last_slice message some kept.places long added.whole end) in
          let within = missing_within kept.places (39 * least) first.missing in
          let few : least < segment_count message = inside_slices message least (omega (arith, within, long)) in
          there_or_missing kept.places (39 * least) (below_then least (omega (arith, few, same, inside))) first.missing

      before_then : session ≡ old.sessions.taken + 1 → IsMissing kept.places (length message - 1) → HasBefore session message (place + 1) new
      before_then next missing =
          Lacks_last (next_then next) (λ there. there_or_missing kept.places (length message - 1) (last_byte message some kept.places long added.whole (there_now (last_place message) there)) missing) (λ k less. there_then k (below_then k less))

    -- all have come
    none_lacks : ((k : ℕ) → k < segment_count message → IsThere (opened old.reassembly (session % 16) (length message)) (39 * k)) → IsMissing kept.places (length message - 1) → ⊥
    none_lacks all missing =
        there_or_missing kept.places (length message - 1) (last_byte message some kept.places long added.whole (added.stay (last_place message) (all (last_place message) (last_least message some)))) missing

    none_least : ((k : ℕ) → k < segment_count message → IsThere (opened old.reassembly (session % 16) (length message)) (39 * k)) → (least : ℕ) → IsLeastMissing kept.places (39 * least) → ⊥
    none_least all least first =
        let within = missing_within kept.places (39 * least) first.missing in
        there_or_missing kept.places (39 * least) (added.stay least (all least (inside_slices message least (omega (arith, within, long))))) first.missing

    -- ---- where some are wanted

    module _ (hears : ToHear) (ticks : ℕ) (is_first : heard_first hears ≡ place) (w : IsWanted session message hears old ticks) where
      kept_last : IsMissing kept.places (length message - 1) → ⊥
      kept_last missing = there_or_missing kept.places (length message - 1) (last_byte message some kept.places long added.whole (added.stay (last_place message) w.last)) missing

      module _ (least : ℕ) (first : IsLeastMissing kept.places (39 * least)) where
        least_inside : least < segment_count message
        least_inside = let within = missing_within kept.places (39 * least) first.missing in inside_slices message least (omega (arith, within, long))

        -- another was heard: so the first that is missing still is
        still_least : place ≢ w.least → least ≡ w.least
        still_least apart = by (cases_lt least w.least) (cases_lt w.least least)
          where
            not_there : IsThere kept.places (39 * w.least) → ⊥
            not_there there = there_or_missing places (39 * w.least) (added.others w.least (λ same. absurd (apart (sym same))) there) w.first.missing

            by : (least < w.least) ⊎ (w.least ≤ least) → (w.least < least) ⊎ (least ≤ w.least) → least ≡ w.least
            by (inl less) more = absurd (there_or_missing kept.places (39 * least) (added.stay least (w.first.least (39 * least) (omega (arith, less)))) first.missing)
            by (inr from) (inl more) = absurd (not_there (first.least (39 * w.least) (omega (arith, more))))
            by (inr from) (inr to) = omega (arith, from, to)

        one_fewer : place ≡ w.least → missing_to kept.places (segment_count message) + 1 ≤ missing_to places (segment_count message)
        one_fewer same =
            laws.one_less places kept.places added.stay place added.came
            (subst (λ (j : ℕ). slice_index_or places (39 * j) None ≡ None) (sym same) (get_or_from_slice_get places (39 * w.least) None None w.first.missing)) (segment_count message) inside

        no_more_missing : missing_to kept.places (segment_count message) ≤ missing_to places (segment_count message)
        no_more_missing = laws.no_more places kept.places added.stay (segment_count message)

        -- so the end is nearer
        wanted_then : (then_hears : ToHear) → GoesOnTo hears least then_hears → IsWanted session message then_hears new (ticks - 1)
        wanted_then then_hears goes = by (place == w.least) refl
          where
            of : (now : ℕ) → now ≡ missing_to (come session message new) (segment_count message) → 3 * now + slot_of then_hears least + 2 ≤ ticks - 1 → IsWanted session message then_hears new (ticks - 1)
            of now same few = record {
              next = next_then w.next;
              last = there_then (last_place message) (added.stay (last_place message) w.last);
              least = least;
              first = subst (λ (ps : List (Option ℕ)). IsLeastMissing ps (39 * least)) (sym comes) first;
              asked = asks_least hears then_hears least goes;
              few = subst (λ (k : ℕ). 3 * k + slot_of then_hears least + 2 ≤ ticks - 1) same few;
            }

            same_count : missing_to kept.places (segment_count message) ≡ missing_to (come session message new) (segment_count message)
            same_count = ap (λ (ps : List (Option ℕ)). missing_to ps (segment_count message)) (sym comes)

            by : (b : Bool) → (place == w.least) ≡ b → IsWanted session message then_hears new (ticks - 1)
            by true is =
                of (missing_to kept.places (segment_count message)) same_count
                (fewer_missing (missing_to places (segment_count message)) (missing_to kept.places (segment_count message)) (slot_of hears w.least) (slot_of then_hears least) ticks (one_fewer (eqb-true place w.least is))
                (slot_most hears then_hears least goes) w.few)
            by false is =
                let apart : place ≢ w.least = λ same. let wrong : true ≡ false = sym (eq-eqb place w.least same) ∙ is in absurd cc in
                let still : least ≡ w.least = still_least apart in
                of (missing_to kept.places (segment_count message)) same_count
                (nearer_slot (missing_to places (segment_count message)) (missing_to kept.places (segment_count message)) (slot_of hears w.least) (slot_of then_hears least) ticks no_more_missing
                (subst (λ (k : ℕ). slot_of then_hears least + 1 ≤ slot_of hears k) still
                (slot_nearer hears then_hears least (subst (AsksLeast hears) (sym still) w.asked) goes (λ same. apart (sym is_first ∙ (same ∙ still))))) w.few)

  -- ---- what the segment comes to

  wanted_some : (hears : ToHear) (ticks : ℕ) → IsWanted session message hears old ticks → 5 ≤ ticks
  wanted_some hears ticks w =
      let within = missing_within places (39 * w.least) w.first.missing in
      let long = laws.opened old.reassembly (session % 16) (length message) slices in
      let least : w.least < segment_count message = inside_slices message w.least (omega (arith, within, long)) in
      let some_missing = missing_some places w.least (segment_count message) (get_or_from_slice_get places (39 * w.least) None None w.first.missing) least in
      let few = w.few in
      omega (arith, some_missing, few)

  -- the message is whole, and was heard
  whole_ends : (heard new : State) (answers replies : List (List ℕ)) → AnswersSession session heard answers → MakesWhole (session % 16) heard answers new replies → EndsWith session new replies
  whole_ends heard new answers replies answer (is, says) = record {
    payload = answer.payload;
    says = says ∙ ap (λ (l : List (List ℕ)). form (TransportComplete (session % 16)) ∷ l) answer.says;
    taken = ap (λ (d : State). d.sessions.taken) is ∙ answer.taken;
    tells = subst (λ (d : State). TellsOwn d answer.payload) (sym is) answer.tells;
    some = answer.some;
    few = answer.few;
    comes_to = subst IsDoneOrAtWork (sym is) (by answer.comes_to);
  }
    where
      by : IsDoneOrAtWork heard → IsDoneOrAtWork (record heard { reassembly = Empty })
      by (inl done) = inl (record { over = done.over; no_work = done.no_work })
      by (inr work) = inr (record { working = work.working; some = work.some; few = work.few; plan = work.plan; told = work.told })

  module _ (hears : ToHear) (next ticks : ℕ) (is_first : heard_first hears ≡ place) (new : State) (replies : List (List ℕ)) where
    abbrev Hears_so : Type 0
    Hears_so = HearsPart session old.sessions.taken message hears next ticks new replies

    wanted_heard : (heard : State) (answers : List (List ℕ)) → AnswersSession session heard answers → IsWanted session message hears old ticks → TakesSlice message session place old heard new answers replies → Hears_so
    wanted_heard heard answers answer w (Keeps_slice kept added missing silent) = absurd (kept_last new kept added hears ticks is_first w missing)
    wanted_heard heard answers answer w (Asks_slice least kept added first end says) =
        let few = w.few in
        Wants least (least_inside new kept added hears ticks is_first w least first) says (wanted_then new kept added hears ticks is_first w least first) (omega (arith, few)) (ap (λ s. s.taken) kept.untouched.sessions)
    wanted_heard heard answers answer w (Makes_whole whole) = Ends_so (whole_ends heard new answers replies answer whole) (wanted_some hears ticks w)

    module _ (alone : hears ≡ Hears_one place) (follows : next ≡ place + 1) (few : segment_count message + 4 ≤ ticks + place) where
      turns_on : replies ≡ [] → place + 1 < segment_count message → HasBefore session message (place + 1) new → new.sessions.taken ≡ old.sessions.taken → Hears_so
      turns_on silent less before stays =
          Goes_on place alone follows less silent
          (record { place = place + 1; alone = refl; follows = omega arith; before = before; few = one_on (segment_count message) ticks place inside few }) (omega (arith, few, inside)) stays

      ends_so : EndsWith session new replies → Hears_so
      ends_so ends = Ends_so ends (five_left (segment_count message) ticks place inside few)

      turn_heard : (heard : State) (answers : List (List ℕ)) → session ≡ old.sessions.taken + 1 → AnswersSession session heard answers → HasBefore session message place old → TakesSlice message session place old heard new answers replies → Hears_so
      turn_heard heard answers is answer (Taken same) takes = absurd (omega (arith, is, same))
      turn_heard heard answers is answer (Lacks_last to_take lacks below) (Keeps_slice kept added missing silent) =
          turns_on silent (goes_on new kept added lacks below missing) (before_then new kept added lacks below is missing) (ap (λ s. s.taken) kept.untouched.sessions)
      turn_heard heard answers is answer (Lacks_last to_take lacks below) (Asks_slice least kept added first end says) = absurd (none_wanted new kept added lacks below least first end)
      turn_heard heard answers is answer (Lacks_none to_take all) (Keeps_slice kept added missing silent) = absurd (none_lacks new kept added all missing)
      turn_heard heard answers is answer (Lacks_none to_take all) (Asks_slice least kept added first end says) = absurd (none_least new kept added all least first)
      turn_heard heard answers is answer before (Makes_whole whole) = ends_so (whole_ends heard new answers replies answer whole)

      -- a session that it has taken
      again_heard : session ≡ old.sessions.taken → IsDoneOrAtWork old → AnswersAgain session segment old new replies → Hears_so
      again_heard same at (Silent no_end left silent) = turns_on silent (by (cases_lt (place + 1) (segment_count message))) (Taken (same ∙ sym (ap (λ s. s.taken) left.0.sessions))) (ap (λ s. s.taken) left.0.sessions)
        where
          by : (place + 1 < segment_count message) ⊎ (segment_count message ≤ place + 1) → place + 1 < segment_count message
          by (inl less) = less
          by (inr late) = absurd (let wrong : true ≡ false = sym (ends_last message segment (session % 16) place part slice late) ∙ no_end in cc)
      again_heard same at (Repeats payload is_end left says tells five) =
          ends_so (record {
            payload = payload;
            says = says;
            taken = ap (λ s. s.taken) left.0.sessions ∙ sym same;
            tells = tells;
            some = omega (arith, five);
            few = omega (arith, five);
            comes_to = left_at old new left at;
          })

    pub part_heard : IsDoneOrAtWork old → IsInTurn session message hears next old ticks ⊎ IsWanted session message hears old ticks → AnswersPart session place message segment old new replies → Hears_so
    part_heard at (inl turn) answer = by answer
      where
        same : turn.place ≡ place
        same = sym (ap heard_first turn.alone) ∙ is_first

        before : HasBefore session message place old
        before = subst (λ (k : ℕ). HasBefore session message k old) same turn.before

        alone : hears ≡ Hears_one place
        alone = turn.alone ∙ ap Hears_one same

        follows : next ≡ place + 1
        follows = turn.follows ∙ ap (λ (k : ℕ). k + 1) same

        few : segment_count message + 4 ≤ ticks + place
        few = subst (λ (k : ℕ). segment_count message + 4 ≤ ticks + k) same turn.few

        by : AnswersPart session place message segment old new replies → Hears_so
        by (Of_next heard answers is takes answers_it) = turn_heard alone follows few heard answers is answers_it before takes
        by (Of_last is again) = again_heard alone follows few is at again
    part_heard at (inr w) (Of_next heard answers is takes answers_it) = wanted_heard heard answers answers_it w takes
    part_heard at (inr w) (Of_last is again) = let next_is = w.next in absurd (omega (arith, is, next_is))
