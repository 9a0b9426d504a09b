-- What a device makes of a message is a step of its course.
use Rattle.std.proofs.Common.{◌≡◌, ◌≢◌, ℕ, ◌+◌, ◌%◌, ◌⊎◌, inl, inr, Bool, true, false, if◌then◌else◌, Option, None, List, refl, ap}
use Rattle.std.proofs.lemmas.Bool.Decides.{Decides-eqb}
use Rattle.supervision.specs.Session.{wire_id}
use Rattle.supervision.specs.Device.{Taken, is_new, is_again, heard_of, after_get, finished}
use Rattle.supervision.specs.declared.session.TheConstants.{WORKING}
use Rattle.supervision.specs.declared.device_book.Heard.TheVariants.{New, Again, Old}
use Rattle.transport_segments.specs.Kept.{Empty}
use Rattle.proof_course.specs.Sessions.{is_segment_of_next}
use Rattle.device_kinds.specs.declared.verdict.Verdict.{Verdict}
use Rattle.device_kinds.specs.declared.verdict.Verdict.TheVariants.{NoSupport, Fails, Makes, Works}
use Rattle.device_sim.specs.device_stack.State.{State}
use Rattle.device_kinds.specs.Judging.{status_of}
use Rattle.proof_messages.specs.Asking.{HasTaken, Follows}
use Rattle.proof_messages.specs.Landing.{IsOf, LandsAs}
use Rattle.proof_messages.specs.Segments.{KeepsPart, IsWhole}

abbrev working : ℕ → Taken
working session = record { taken = session; status = WORKING }

-- the sessions after a verdict
ended : (session : ℕ) (verdict : Verdict) (new : Taken) → new ≡ record { taken = session; status = status_of verdict }
    → (new ≡ working session) ⊎ ((status : ℕ) × (((working session).status ≡ WORKING) × ((status ≢ WORKING) × (new ≡ finished (working session) status))))
ended session (Works settings) new is = inl is
ended session (Makes settings) new is = inr (status_of (Makes settings), (refl, (λ e. absurd cc, is)))
ended session Fails new is = inr (status_of Fails, (refl, (λ e. absurd cc, is)))
ended session NoSupport new is = inr (status_of NoSupport, (refl, (λ e. absurd cc, is)))

-- what follows of sessions and of what is kept, by what the id is
record Comes (old new : State) (id : ℕ) : Type 0 where
  sessions : (new.sessions ≡ after_get old.sessions id)
      ⊎ ((status : ℕ) × (((after_get old.sessions id).status ≡ WORKING) × ((status ≢ WORKING) × (new.sessions ≡ finished (after_get old.sessions id) status))))
  kept : (kept : Option ℕ) → IsOf old.reassembly kept → IsOf new.reassembly (if is_new old.sessions id then None else kept)

comes : (old new : State) (verdict : Verdict) (id : ℕ) → Follows old new verdict (heard_of old.sessions id) → Comes old new id
comes old new verdict id follows = fresh (is_new old.sessions id) refl follows
  where
    taken : HasTaken old new (old.sessions.taken + 1) verdict → is_new old.sessions id ≡ true → Comes old new id
    taken is e = record {
      sessions = rw e (ended (old.sessions.taken + 1) verdict new.sessions is.sessions);
      kept = λ kept of. rw (e, is.empty) tt;
    }

    stays : is_new old.sessions id ≡ false → new.sessions ≡ old.sessions → new.reassembly ≡ old.reassembly → Comes old new id
    stays e s r = record { sessions = rw e (inl s); kept = λ kept of. rw (e, r) of }

    again : (b : Bool) → is_new old.sessions id ≡ false → Follows old new verdict (if b then Again old.sessions.status else Old) → Comes old new id
    again true e (is, same) = stays e is.sessions same
    again false e (is, same) = stays e is.sessions same

    fresh : (b : Bool) → is_new old.sessions id ≡ b
        → Follows old new verdict (if b then New (old.sessions.taken + 1) else (if is_again old.sessions id then Again old.sessions.status else Old)) → Comes old new id
    fresh true e is = taken is e
    fresh false e is = again (is_again old.sessions id) e is

pub message_lands : (old new : State) (verdict : Verdict) (session : ℕ) → Follows old new verdict (heard_of old.sessions (wire_id session))
    → LandsAs old new (record { session = session; is_segment = false }) false
message_lands old new verdict session follows = let is = comes old new verdict (wire_id session) follows in record { sessions = is.sessions; kept = is.kept }

next_segment : (old : Taken) (session : ℕ) → session % 16 ≡ (old.taken + 1) % 16 → is_segment_of_next old session ≡ true
next_segment old session same = (Decides-eqb (session % 16) ((old.taken + 1) % 16)).1 same

pub part_lands : (old new : State) (message : List ℕ) (session : ℕ) → session % 16 ≡ (old.sessions.taken + 1) % 16 → KeepsPart message (session % 16) old new
    → LandsAs old new (record { session = session; is_segment = true }) false
part_lands old new message session same is = record {
  sessions = inl is.untouched.sessions;
  kept = λ kept of. rw (next_segment old.sessions session same, is.kept) refl;
}

pub whole_lands : (old heard new : State) (verdict : Verdict) (session : ℕ) → session % 16 ≡ (old.sessions.taken + 1) % 16
    → Follows old heard verdict (heard_of old.sessions (wire_id session)) → IsWhole heard new
    → LandsAs old new (record { session = session; is_segment = true }) true
whole_lands old heard new verdict session same follows whole =
    let is = comes old heard verdict (wire_id session) follows in
    let next = next_segment old.sessions session same in
    let sessions : new.sessions ≡ heard.sessions = ap (λ (s : State). s.sessions) whole in
    let empty : new.reassembly ≡ Empty = ap (λ (s : State). s.reassembly) whole in
    record { sessions = rw (next, sessions) is.sessions; kept = λ kept of. rw (next, empty) tt }
