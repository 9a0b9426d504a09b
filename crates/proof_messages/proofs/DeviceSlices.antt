-- A device that keeps what came in slices goes on so with a segment of the next session.
use Rattle.std.proofs.Common.{◌≡◌, ℕ, ◌+◌, ◌-◌, ◌*◌, ◌%◌, ◌<◌, ◌≤◌, false, true, List, [], ◌∷◌, length, sym, ap, ◌∙◌, subst, arith}
use Rattle.std.specs.Prelude.{Option}
use Rattle.class_info.specs.declared.message.InfoMessage.TheVariants.{TransportRequest}
use Rattle.class_info.specs.InfoSpelling.{form}
use Rattle.transport_segments.specs.Segment.{id_of, segment_text}
use Rattle.transport_segments.specs.Places.{IsLeastMissing, IsMissing, IsThere}
use Rattle.transport_segments.specs.Reassembly.{opened, places_after}
use Rattle.transport_segments.specs.Parts.{slice_at}
use Rattle.transport_segments.specs.Runs.{Agrees, IsPart}
use Rattle.transport_segments.specs.Taking.{is_segment}
use Rattle.device_kinds.specs.declared.kind.Kind.TheVariants.{Configurable}
use Rattle.device_sim.specs.device_stack.State.{State}
use Rattle.device_sim.specs.Event.{Hears, device_after, device_replies}
use Rattle.proof_messages.specs.Slices.{AddsSlice, Asks, Asks_slice, InSlices, IsSlice, Keeps, KeepsSlices, Keeps_slice, Makes_whole, TakesPart, TakesSlice, Whole}
use Rattle.proof_messages.proofs.DeviceSegments.{part_taken}
use Rattle.proof_messages.proofs.SegmentParts.{is_part}
use Rattle.proof_messages.proofs.SlicesKept.{begins_slice, carries_slice, opened_long, segment_adds}

part_slices : {heard new : State} {answers replies : List (List ℕ)} (message : List ℕ) (id : ℕ) (segment : List ℕ) (place : ℕ) (old : State) → IsPart message id segment → IsSlice place segment → KeepsSlices old.reassembly
    → TakesPart message id segment old heard new answers replies → KeepsSlices new.reassembly
part_slices message id segment place old part slice slices (Keeps kept are last silent) =
    subst KeepsSlices (sym kept.kept) (subst InSlices (sym are) (segment_adds old.reassembly segment place slices slice part.sound.inside).whole)
part_slices message id segment place old part slice slices (Asks at kept are least last says) =
    subst KeepsSlices (sym kept.kept) (subst InSlices (sym are) (segment_adds old.reassembly segment place slices slice part.sound.inside).whole)
part_slices message id segment place old part slice slices (Whole is) = subst (λ (d : State). KeepsSlices d.reassembly) (sym is.0) tt

pub keeps_slices : (device : State) (message drawn : List ℕ) (session place : ℕ) → device.awake ≡ true → device.kind ≡ Configurable → length message ≤ 512 → 39 * place < length message → is_segment message ≡ false
    → session % 16 ≡ (device.sessions.taken + 1) % 16 → Agrees message (session % 16) device.reassembly → KeepsSlices device.reassembly
    → KeepsSlices (device_after device (Hears (segment_text (session % 16) (length message) (39 * place) (slice_at message place)) drawn)).reassembly
keeps_slices device message drawn session place awake kind most within whole next agrees slices =
    let segment : List ℕ = segment_text (session % 16) (length message) (39 * place) (slice_at message place) in
    let some : 1 ≤ length message = omega (arith, within) in
    let part : IsPart message (session % 16) segment = is_part message session place some most within in
    part_slices message (session % 16) segment place device part (carries_slice message session place some most within) slices (part_taken device message segment drawn session awake kind part whole next agrees)

-- what the segment of a place comes to
takes_slice : {heard new : State} {answers replies : List (List ℕ)} (message : List ℕ) (session : ℕ) (segment : List ℕ) (place : ℕ) (old : State) → IsPart message (session % 16) segment → IsSlice place segment → KeepsSlices old.reassembly
    → TakesPart message (session % 16) segment old heard new answers replies → TakesSlice message session place old heard new answers replies
takes_slice {heard} {new} {answers} {replies} message session segment place old part slice slices is = by is
  where
    added : AddsSlice place (opened old.reassembly (session % 16) (length message)) (places_after old.reassembly segment)
    added =
        subst (λ (id : ℕ). AddsSlice place (opened old.reassembly id (length message)) (places_after old.reassembly segment)) part.session
        (subst (λ (size : ℕ). AddsSlice place (opened old.reassembly (id_of segment) size) (places_after old.reassembly segment)) part.size (segment_adds old.reassembly segment place slices slice part.sound.inside))

    long : length (places_after old.reassembly segment) ≡ length message
    long = added.long ∙ opened_long old.reassembly (session % 16) (length message) slices

    last : length (places_after old.reassembly segment) - 1 ≡ length message - 1
    last = ap (λ (n : ℕ). n - 1) long

    by : TakesPart message (session % 16) segment old heard new answers replies → TakesSlice message session place old heard new answers replies
    by (Keeps kept are missing silent) =
        Keeps_slice kept (subst (AddsSlice place (opened old.reassembly (session % 16) (length message))) (sym are) added)
        (subst (λ (ps : List (Option ℕ)). IsMissing ps (length message - 1)) (sym are) (subst (IsMissing (places_after old.reassembly segment)) last missing)) silent
    by (Asks at kept are least there says) =
        let begins = begins_slice (places_after old.reassembly segment) at added.whole least in
        Asks_slice begins.0 kept (subst (AddsSlice place (opened old.reassembly (session % 16) (length message))) (sym are) added)
        (subst (λ (ps : List (Option ℕ)). IsLeastMissing ps (39 * begins.0)) (sym are) (subst (IsLeastMissing (places_after old.reassembly segment)) begins.1 least))
        (subst (λ (ps : List (Option ℕ)). IsThere ps (length message - 1)) (sym are) (subst (IsThere (places_after old.reassembly segment)) last there))
        (says ∙ ap (λ (n : ℕ). form (TransportRequest (session % 16) n) ∷ []) begins.1)
    by (Whole whole) = Makes_whole whole

pub slice_taken : (device : State) (message drawn : List ℕ) (session place : ℕ) → device.awake ≡ true → device.kind ≡ Configurable → length message ≤ 512 → 39 * place < length message → is_segment message ≡ false
    → session % 16 ≡ (device.sessions.taken + 1) % 16 → Agrees message (session % 16) device.reassembly → KeepsSlices device.reassembly
    → TakesSlice message session place device (device_after device (Hears message drawn)) (device_after device (Hears (segment_text (session % 16) (length message) (39 * place) (slice_at message place)) drawn))
    (device_replies device (Hears message drawn)) (device_replies device (Hears (segment_text (session % 16) (length message) (39 * place) (slice_at message place)) drawn))
slice_taken device message drawn session place awake kind most within whole next agrees slices =
    let segment : List ℕ = segment_text (session % 16) (length message) (39 * place) (slice_at message place) in
    let some : 1 ≤ length message = omega (arith, within) in
    let part : IsPart message (session % 16) segment = is_part message session place some most within in
    takes_slice message session segment place device part (carries_slice message session place some most within) slices (part_taken device message segment drawn session awake kind part whole next agrees)
