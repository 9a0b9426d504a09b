-- What a device makes of a segment of a message.
use Rattle.std.proofs.Common.{◌≡◌, ◌≢◌, ℕ, zero, suc, ◌+◌, ◌-◌, ◌%◌, ◌<◌, ◌≤◌, ◌==◌, ◌⊎◌, inl, inr, Bool, true, false, ◌&&◌, nat_lt, if◌then◌else◌, Option, Some, None, List, [], ◌∷◌, length, map, refl, ap, sym, ◌∙◌, subst, arith}
use Rattle.std.specs.Prelude.{slice_index_or, is_some}
use Rattle.std.specs.List.{AllByRecursion}
use Rattle.std.proofs.lemmas.Bool.Decides.{Decides-eqb, nat_tests}
use Rattle.std.proofs.lemmas.Bool.{false_from_ne_true as never_true}
use Rattle.class_info.specs.declared.message.InfoMessage.TheVariants.{TransportComplete, TransportRequest}
use Rattle.class_info.specs.InfoSpelling.{form}
use Rattle.encap.specs.Begins.{IsMisplaced}
use Rattle.transport_segments.specs.Segment.{IsSegment, id_of}
use Rattle.transport_segments.specs.Places.{IsThere, IsLeastMissing, present}
use Rattle.transport_segments.specs.Kept.{Reassembly, Empty, Partial}
use Rattle.transport_segments.specs.Reassembly.{places_after}
use Rattle.transport_segments.specs.Runs.{IsPart, Agrees}
use Rattle.transport_segments.specs.Taking.{is_segment, ends_its_datagram, first_missing, taken_by, taken_at, kept_after}
use Rattle.transport_segments.specs.declared.assembler.Taken.TheVariants.{Kept, Need, Whole as Whole_datagram}
use Rattle.transport_segments.proofs.PlacesLemmas.{there_at, missing_at}
use Rattle.transport_segments.proofs.AgreeLemmas.{keeps_agreement}
use Rattle.transport_segments.proofs.TakingLemmas.{segment_decides, sound_taken as taken_is}
use Rattle.device_kinds.specs.declared.kind.Kind.{Kind}
use Rattle.device_kinds.specs.declared.kind.Kind.TheVariants.{Relay, Switch, Dimmer, Lock, Sensor, Thermostat, Strip, Configurable}
use Rattle.device_kinds.specs.Kind.{lists}
use Rattle.device_sim.specs.device_stack.State.{State, Outcome, silent}
use Rattle.device_kinds.specs.Segments.{segment_session}
use Rattle.supervision.specs.Session.{wire_id}
use Rattle.device_sim.specs.device_stack.Answers.{status_report}
use Rattle.device_sim.specs.device_stack.Hearing.{hears_openly, assembles, repeats_segment, hears_segment, hears_in_segments, hears_by, active, hears}
use Rattle.device_sim.specs.Event.{Hears, outcome_of, device_after, device_replies}
use Rattle.proof_messages.specs.Asking.{IsLeft}
use Rattle.proof_messages.specs.Others.{IsNoGet}
use Rattle.proof_messages.specs.Reporting.{TellsNone}
use Rattle.proof_messages.specs.Segments.{KeepsPart, KeepsSegment, MakesWhole}
use Rattle.proof_messages.specs.Slices.{AnswersAgain, Asks, Keeps, Repeats, Silent, TakesPart, Whole}
use Rattle.proof_messages.proofs.Bare.{never_begins}
use Rattle.proof_messages.proofs.SessionMessages.{left}
use Rattle.proof_messages.proofs.OtherMessages.{bare_no_get, openly_left, securely_left, if_awake}
use Rattle.proof_messages.proofs.DeviceReports.{own_again, report_length, request_none}
use Rattle.host_keep.proofs.NumbersFound.{same_number}

-- ---- a sound segment is taken

none_missing : (from : ℕ) (places : List (Option ℕ)) → first_missing from places ≡ None → places ≡ map Some (present places)
none_missing from [] e = refl
none_missing from (None ∷ places) e = cc
none_missing from (Some byte ∷ places) e = ap (λ (more : List (Option ℕ)). Some byte ∷ more) (none_missing (suc from) places e)

-- the first place that is missing, counted from a number on
record IsFirstMissing (from : ℕ) (places : List (Option ℕ)) (first : ℕ) : Type 0 where
  at : ℕ
  is : first ≡ from + at
  least : IsLeastMissing places at
  some : 1 ≤ length places

one_missing : (from : ℕ) (places : List (Option ℕ)) (first : ℕ) → first_missing from places ≡ Some first → IsFirstMissing from places first
one_missing from [] first e = cc
one_missing from (None ∷ places) first e = record {
  at = 0;
  is = omega (arith, same_number from first e);
  least = record { missing = refl; least = λ before less. absurd (omega (arith, less)) };
  some = omega arith;
}
one_missing from (Some byte ∷ places) first e =
    let later = one_missing (suc from) places first e in
    let place = later.is in
    record {
      at = suc later.at;
      is = omega (arith, place);
      least = record { missing = later.least.missing; least = λ before less. there before less later.least.least };
      some = omega arith;
    }
  where
    there : {at : ℕ} (before : ℕ) → before < suc at → ((earlier : ℕ) → earlier < at → IsThere places earlier) → IsThere (Some byte ∷ places) before
    there zero less more = (byte, refl)
    there (suc before) less more = more before (omega (arith, less))

-- the last byte has come
abbrev has_last : List (Option ℕ) → Bool
has_last places = is_some (slice_index_or places (length places - 1) None)

-- what is kept agrees with the message, while one of its bytes is missing
still_agrees : (message segment : List ℕ) (id : ℕ) (kept : Reassembly) (first : ℕ) → IsPart message id segment → Agrees message id kept
    → first_missing 0 (places_after kept segment) ≡ Some first → Agrees message id (Partial (id_of segment) (places_after kept segment))
still_agrees message segment id kept first part agrees e = by (has_last (places_after kept segment)) refl
  where
    by : (b : Bool) → has_last (places_after kept segment) ≡ b → Agrees message id (Partial (id_of segment) (places_after kept segment))
    by true is =
        let places = places_after kept segment in
        let missing = one_missing 0 places first e in
        let some = missing.some in
        (keeps_agreement message segment id kept (Partial (id_of segment) places) (Need missing.at) part agrees
        ((missing.least, there_at places (length places - 1) (omega (arith, some)) is), refl)).0
    by false is =
        let places = places_after kept segment in
        let missing = one_missing 0 places first e in
        let some = missing.some in
        (keeps_agreement message segment id kept (Partial (id_of segment) places) Kept part agrees
        (missing_at places (length places - 1) (omega (arith, some)) is, refl)).0

-- ---- the next session's segment

segment_is : (message segment : List ℕ) (id : ℕ) → IsPart message id segment → is_segment segment ≡ true
segment_is message segment id part = (segment_decides segment).1 part.sound.sized.plain.intact.segment

kept_part : (device : State) (message segment : List ℕ) (id first : ℕ) → IsPart message id segment → Agrees message id device.reassembly
    → first_missing 0 (places_after device.reassembly segment) ≡ Some first
    → (part : KeepsPart message id device (record device { active_at = device.clock; reassembly = kept_after device.reassembly segment })) × (part.places ≡ places_after device.reassembly segment)
unfolding kept_after
kept_part device message segment id first part agrees e = (
  record {
    untouched = record { journal = refl; sessions = refl; work_left = refl; work = refl };
    places = places_after device.reassembly segment;
    kept = ap (λ (n : ℕ). Partial n (places_after device.reassembly segment)) part.session;
    agrees = still_agrees message segment id device.reassembly first part agrees e;
  },
  refl,
)

-- what the device makes of it as it puts its segments together
abbrev Assembles : State → List ℕ → List ℕ → ℕ → Outcome → Type 0
Assembles device message segment id outcome =
    TakesPart message id segment device (hears_openly (active device) message).device outcome.device (hears_openly (active device) message).replies outcome.replies

assembled : (device : State) (message segment : List ℕ) (id : ℕ) → IsPart message id segment → Agrees message id device.reassembly
    → Assembles device message segment id (assembles (active device) segment (taken_at device.reassembly segment))
assembled device message segment id part agrees =
    rw (taken_is device.reassembly segment part.sound) (by (first_missing 0 (places_after device.reassembly segment)) refl)
  where
    asks : (b : Bool) (first : ℕ) → has_last (places_after device.reassembly segment) ≡ b → first_missing 0 (places_after device.reassembly segment) ≡ Some first
        → Assembles device message segment id (assembles (active device) segment (Some (if b then Need first else Kept)))
    asks true first is e =
        let kept = kept_part device message segment id first part agrees e in
        let missing = one_missing 0 (places_after device.reassembly segment) first e in
        let some = missing.some in
        let place = missing.is in
        let same : missing.at ≡ first = omega (arith, place) in
        Asks first kept.0 kept.1 (subst (IsLeastMissing (places_after device.reassembly segment)) same missing.least)
        (there_at (places_after device.reassembly segment) (length (places_after device.reassembly segment) - 1) (omega (arith, some)) is)
        (ap (λ (n : ℕ). form (TransportRequest n first) ∷ []) part.session)
    asks false first is e =
        let kept = kept_part device message segment id first part agrees e in
        let missing = one_missing 0 (places_after device.reassembly segment) first e in
        let some = missing.some in
        Keeps kept.0 kept.1 (missing_at (places_after device.reassembly segment) (length (places_after device.reassembly segment) - 1) (omega (arith, some)) is) refl

    by : (first : Option ℕ) → first_missing 0 (places_after device.reassembly segment) ≡ first
        → Assembles device message segment id (assembles (active device) segment (Some (taken_by (places_after device.reassembly segment) first)))
    by (Some first) e = asks (has_last (places_after device.reassembly segment)) first refl e
    by None e =
        let places = places_after device.reassembly segment in
        let whole : present places ≡ message = (keeps_agreement message segment id device.reassembly Empty (Whole_datagram (present places)) part agrees (none_missing 0 places e, refl)).1 in
        Whole (
          ap (λ (bytes : List ℕ). record (hears_openly (active device) bytes).device { reassembly = Empty }) whole,
          ap (λ (bytes : List ℕ). form (TransportComplete (id_of segment)) ∷ (hears_openly (active device) bytes).replies) whole
              ∙ ap (λ (n : ℕ). form (TransportComplete n) ∷ (hears_openly (active device) message).replies) part.session,
        )

next_assembles : (device : State) (segment : List ℕ) → is_segment segment ≡ true → id_of segment ≡ (device.sessions.taken + 1) % 16
    → hears_in_segments device segment ≡ assembles device segment (taken_at device.reassembly segment)
unfolding hears_in_segments hears_segment
next_assembles device segment is id = rw (is, (Decides-eqb (id_of segment) ((device.sessions.taken + 1) % 16)).1 id) refl

whole_heard : (device : State) (message : List ℕ) → is_segment message ≡ false → hears_in_segments device message ≡ hears_openly device message
unfolding hears_in_segments
whole_heard device message is = rw is refl

by_kind : (device : State) (payload drawn : List ℕ) → device.awake ≡ true → device.kind ≡ Configurable
    → outcome_of device (Hears payload drawn) ≡ hears_in_segments (active device) payload
unfolding outcome_of hears
by_kind device payload drawn awake kind = rw (awake, kind) refl

pub part_taken : (device : State) (message segment drawn : List ℕ) (session : ℕ) → device.awake ≡ true → device.kind ≡ Configurable
    → IsPart message (session % 16) segment → is_segment message ≡ false → session % 16 ≡ (device.sessions.taken + 1) % 16 → Agrees message (session % 16) device.reassembly
    → TakesPart message (session % 16) segment device (device_after device (Hears message drawn)) (device_after device (Hears segment drawn)) (device_replies device (Hears message drawn)) (device_replies device (Hears segment drawn))
unfolding device_after device_replies
part_taken device message segment drawn session awake kind part whole id agrees =
    let of_segment : outcome_of device (Hears segment drawn) ≡ assembles (active device) segment (taken_at device.reassembly segment) =
    by_kind device segment drawn awake kind
    ∙ next_assembles (active device) segment (segment_is message segment (session % 16) part) (part.session ∙ id) in
    let of_message : outcome_of device (Hears message drawn) ≡ hears_openly (active device) message =
    by_kind device message drawn awake kind ∙ whole_heard (active device) message whole in
    let taken : Outcome = assembles (active device) segment (taken_at device.reassembly segment) in
    subst (λ (o : Outcome). TakesPart message (session % 16) segment device (outcome_of device (Hears message drawn)).device o.device (outcome_of device (Hears message drawn)).replies o.replies) (sym of_segment)
    (subst (λ (o : Outcome). TakesPart message (session % 16) segment device o.device taken.device o.replies taken.replies) (sym of_message)
    (assembled device message segment (session % 16) part agrees))

pub next_segment : (device : State) (message segment drawn : List ℕ) (session : ℕ) → device.awake ≡ true → device.kind ≡ Configurable
    → IsPart message (session % 16) segment → is_segment message ≡ false → session % 16 ≡ (device.sessions.taken + 1) % 16 → Agrees message (session % 16) device.reassembly
    → KeepsSegment message (session % 16) device (device_after device (Hears segment drawn)) (device_replies device (Hears segment drawn))
    ⊎ MakesWhole (session % 16) (device_after device (Hears message drawn)) (device_replies device (Hears message drawn)) (device_after device (Hears segment drawn)) (device_replies device (Hears segment drawn))
next_segment device message segment drawn session awake kind part whole id agrees = by (part_taken device message segment drawn session awake kind part whole id agrees)
  where
    by : {heard new : State} {answers replies : List (List ℕ)} → TakesPart message (session % 16) segment device heard new answers replies
        → KeepsSegment message (session % 16) device new replies ⊎ MakesWhole (session % 16) heard answers new replies
    by (Keeps kept are last silent) = inl (kept, subst (AllByRecursion TellsNone) (sym silent) tt)
    by (Asks at kept are least last says) = inl (kept, subst (AllByRecursion TellsNone) (sym says) (request_none (session % 16) at, tt))
    by (Whole is) = inr is

-- ---- any other

left_active : (device : State) → IsLeft device (active device)
left_active device = (record { journal = refl; sessions = refl; work_left = refl; work = refl }, refl)

differs : (a b : ℕ) → a ≢ b → (a == b) ≡ false
differs a b not = never_true (a == b) (λ e. not ((Decides-eqb a b).0 e))

other_same : (device : State) (segment : List ℕ) → is_segment segment ≡ true → id_of segment ≢ (device.sessions.taken + 1) % 16
    → ((hears_in_segments device segment).device ≡ device) × ((0 < device.sessions.taken) ⊎ ((hears_in_segments device segment).replies ≡ []))
unfolding hears_in_segments hears_segment
other_same device segment is other =
    rw (is, differs (id_of segment) ((device.sessions.taken + 1) % 16) other)
    (by (nat_lt 0 device.sessions.taken) refl (id_of segment == segment_session device.sessions.taken) (ends_its_datagram segment))
  where
    by : (a : Bool) → nat_lt 0 device.sessions.taken ≡ a → (b d : Bool) → ((if a && b && d then repeats_segment device segment else silent device).device ≡ device)
        × ((0 < device.sessions.taken) ⊎ ((if a && b && d then repeats_segment device segment else silent device).replies ≡ []))
    by true some true true = (refl, inl (grind (arith, some)))
    by true some true false = (refl, inr refl)
    by true some false d = (refl, inr refl)
    by false none b d = (refl, inr refl)

pub other_segment : (device : State) (message segment drawn : List ℕ) (session : ℕ) → device.kind ≡ Configurable
    → IsPart message (session % 16) segment → session % 16 ≢ (device.sessions.taken + 1) % 16 → IsLeft device (device_after device (Hears segment drawn))
other_segment device message segment drawn session kind part other =
    if_awake device segment drawn
    (let same : (hears_by device.kind (active device) segment drawn).device ≡ active device =
    ap (λ (k : Kind). (hears_by k (active device) segment drawn).device) kind
    ∙ (other_same (active device) segment (segment_is message segment (session % 16) part) (λ e. other (sym part.session ∙ e))).0 in
    subst (λ (new : State). IsLeft (active device) new) (sym same) (left (active device)))

pub other_says : (device : State) (message segment drawn : List ℕ) (session : ℕ) → device.awake ≡ true → device.kind ≡ Configurable
    → IsPart message (session % 16) segment → session % 16 ≢ (device.sessions.taken + 1) % 16 → (0 < device.sessions.taken) ⊎ (device_replies device (Hears segment drawn) ≡ [])
unfolding device_replies
other_says device message segment drawn session awake kind part other =
    subst (λ (o : Outcome). (0 < device.sessions.taken) ⊎ (o.replies ≡ [])) (sym (by_kind device segment drawn awake kind))
    (other_same (active device) segment (segment_is message segment (session % 16) part) (λ e. other (sym part.session ∙ e))).1

-- ---- that of the last session that was taken

taken_apart : (taken id : ℕ) → id ≡ taken % 16 → id ≢ (taken + 1) % 16
taken_apart taken id last next = omega (arith, last, next)

again_heard : (device : State) (segment : List ℕ) (ends : Bool) → is_segment segment ≡ true → 1 ≤ device.sessions.taken → id_of segment ≡ device.sessions.taken % 16 → ends_its_datagram segment ≡ ends
    → hears_in_segments device segment ≡ (if ends then repeats_segment device segment else silent device)
unfolding hears_in_segments hears_segment
again_heard device segment ends is some id e =
    let more : nat_lt 0 device.sessions.taken ≡ true = grind (arith, nat_tests, some) in
    rw (is, differs (id_of segment) ((device.sessions.taken + 1) % 16) (taken_apart device.sessions.taken (id_of segment) id), more, (Decides-eqb (id_of segment) (segment_session device.sessions.taken)).1 id, e) refl

pub segment_again : (device : State) (message segment drawn : List ℕ) (session : ℕ) → device.awake ≡ true → device.kind ≡ Configurable → IsPart message (session % 16) segment → session ≡ device.sessions.taken → 1 ≤ session
    → AnswersAgain session segment device (device_after device (Hears segment drawn)) (device_replies device (Hears segment drawn))
unfolding device_after device_replies
segment_again device message segment drawn session awake kind part last some = by (ends_its_datagram segment) refl
  where
    by : (ends : Bool) → ends_its_datagram segment ≡ ends → AnswersAgain session segment device (outcome_of device (Hears segment drawn)).device (outcome_of device (Hears segment drawn)).replies
    by ends e =
        let id : id_of segment ≡ device.sessions.taken % 16 = part.session ∙ ap (λ (n : ℕ). n % 16) last in
        let heard : outcome_of device (Hears segment drawn) ≡ (if ends then repeats_segment (active device) segment else silent (active device)) =
        by_kind device segment drawn awake kind
        ∙ again_heard (active device) segment ends (segment_is message segment (session % 16) part) (subst (λ (n : ℕ). 1 ≤ n) last some) id e in
        subst (λ (o : Outcome). AnswersAgain session segment device o.device o.replies) (sym heard) (so ends e)
      where
        so : (ends : Bool) → ends_its_datagram segment ≡ ends → (λ (o : Outcome). AnswersAgain session segment device o.device o.replies) (if ends then repeats_segment (active device) segment else silent (active device))
        so true is =
            Repeats _ is (left_active device) (ap (λ (n : ℕ). form (TransportComplete n) ∷ form (status_report (active device) (record { updates = false; id = wire_id device.sessions.taken }) device.sessions.status) ∷ []) part.session)
            (own_again (active device)) (report_length (active device) (record { updates = false; id = wire_id device.sessions.taken }) device.sessions.status)
        so false is = Silent is (left_active device) refl

-- ---- at other devices

segment_no_get : (segment : List ℕ) → IsSegment segment → IsNoGet segment
segment_no_get segment is = bare_no_get segment (record { some = long is.of_command; placed = placed })
    (rw is.of_class (never_begins _ _))
  where
    long : {P Q : Type 0} → (P × (7 ≤ length segment)) ⊎ (Q × (8 ≤ length segment)) → 1 ≤ length segment
    long (inl (p, l)) = omega (arith, l)
    long (inr (q, l)) = omega (arith, l)

    placed : IsMisplaced false segment → ⊥
    placed (inl (inl b)) = let bad : 85 ≡ 143 = sym is.of_class ∙ b.class_is in absurd (omega (arith, bad))
    placed (inl (inr (inl b))) = let bad : 85 ≡ 108 = sym is.of_class ∙ b.class_is in absurd (omega (arith, bad))
    placed (inl (inr (inr (inl b)))) = let bad : 85 ≡ 96 = sym is.of_class ∙ b.class_is in absurd (omega (arith, bad))
    placed (inl (inr (inr (inr b)))) = let bad : 85 ≡ 86 = sym is.of_class ∙ b.class_is in absurd (omega (arith, bad))
    placed (inr (inside, b)) = let bad : false ≡ true = inside in cc

kind_elsewhere : (kind : Kind) (device : State) (payload drawn : List ℕ) → kind ≢ Configurable → IsNoGet payload → lists device.kind 0x6C ≡ true → IsLeft device (hears_by kind device payload drawn).device
kind_elsewhere Lock device payload drawn not is known = securely_left device payload drawn is.not_sealed
kind_elsewhere Configurable device payload drawn not is known = absurd (not refl)
kind_elsewhere Relay device payload drawn not is known = openly_left device payload is known
kind_elsewhere Switch device payload drawn not is known = openly_left device payload is known
kind_elsewhere Dimmer device payload drawn not is known = openly_left device payload is known
kind_elsewhere Sensor device payload drawn not is known = openly_left device payload is known
kind_elsewhere Thermostat device payload drawn not is known = openly_left device payload is known
kind_elsewhere Strip device payload drawn not is known = openly_left device payload is known

pub segment_elsewhere : (device : State) (message segment drawn : List ℕ) (session : ℕ) → device.kind ≢ Configurable → lists device.kind 0x6C ≡ true
    → IsPart message (session % 16) segment → IsLeft device (device_after device (Hears segment drawn))
segment_elsewhere device message segment drawn session not known part =
    if_awake device segment drawn (kind_elsewhere device.kind (active device) segment drawn not (segment_no_get segment part.sound.sized.plain.intact.segment) known)

pub part_no_get : (message segment : List ℕ) (id : ℕ) → IsPart message id segment → IsNoGet segment
part_no_get message segment id part = segment_no_get segment part.sound.sized.plain.intact.segment
