-- What is asked of entries and what is known by those so far, over one list of entries after another.
use Rattle.std.proofs.Common.{◌≡◌, ℕ, ◌+◌, List, [], ◌∷◌, ◌++◌, sym, subst, ◌∙◌, append_assoc, append-nil}
use Rattle.route_table.specs.declared.route.Route.{Route}
use Rattle.std.specs.Prelude.{Option, Some}
use Rattle.air_frames.specs.declared.frame.Heading.TheVariants.{Outward, Homeward}
use Rattle.proof_air.specs.mesh_sim.Air.{AirState, departing}
use Rattle.proof_air.specs.mesh_sim.Steps.{sent_event}
use Rattle.proof_air.specs.outside_model.State.{OuterState, Outcome}
use Rattle.proof_air.specs.outside_model.Chip.{shown_via}
use Rattle.proof_air.specs.outside_model.Air.{sent_entries}
use Rattle.zw_text.specs.declared.entry.Entry.{Entry}
use Rattle.zw_text.specs.declared.entry.Entry.TheVariants.{Air}
use Rattle.law_host.specs.law_transcript.Lists.{EachAfter}
use Rattle.proof_air.proofs.Lists.{each-append}
use Rattle.proof_transcript.proofs.Plain.{IsPlain, Plains}

-- Where the entries so far tell what is known of one state, these may stand after them, and then they tell it of another.
abbrev pub Keeps : {S : Type 0} → (List Entry → Entry → Type 0) → (List Entry → S → Type 0) → S → List Entry → S → Type 0
Keeps Asks Knows old told new = (past : List Entry) → Knows past old → EachAfter Asks past told × Knows (past ++ told) new

-- ---- the air

-- the frames and the marks on them are as they were
pub record IsAsAired (old new : AirState) : Type 0 where
  pub sent : new.frames.sent ≡ old.frames.sent
  pub landed : new.frames.landed ≡ old.frames.landed
  pub frames : new.frames.frames ≡ old.frames.frames
  pub losing : new.losing ≡ old.losing

-- what is known of the air goes on where no frame does anything, and where one goes on the air
pub record Airs (Asks : List Entry → Entry → Type 0) (Knows : List Entry → AirState → Type 0) : Type 0 where
  pub plain : (air : AirState) (entry : Entry) → IsPlain entry → Keeps Asks Knows air (entry ∷ []) air
  pub same : (old new : AirState) → IsAsAired old new → Keeps Asks Knows old [] new
  pub out : (air : AirState) (to : ℕ) (route : Route) (payload : List ℕ) →
      Keeps Asks Knows air (Air (air.frames.sent + 1) 1 to (shown_via route) payload ∷ []) (departing air to Outward (Some route) payload)
  pub home : (air : AirState) (node : ℕ) (way : Option Route) (payload : List ℕ) →
      Keeps Asks Knows air (sent_entries (sent_event air node way payload)) (departing air node Homeward way payload)

-- it is the same line or tick, and its number was entered or not as before
pub record IsSameTime (o p : OuterState) : Type 0 where
  pub in_tick : p.in_tick ≡ o.in_tick
  pub stamped : p.stamped ≡ o.stamped

-- an outcome goes on so, and it is the same line or tick
pub record Goes (Asks : List Entry → Entry → Type 0) (Knows : List Entry → AirState → Type 0) (o : OuterState) (x : Outcome) : Type 0 where
  pub keeps : Keeps Asks Knows o.air x.entries x.outer.air
  pub time : IsSameTime o x.outer

pub same_then : (o p q : OuterState) → IsSameTime o p → IsSameTime p q → IsSameTime o q
same_then o p q first later = record { in_tick = later.in_tick ∙ first.in_tick; stamped = later.stamped ∙ first.stamped }

-- ---- one list after another

module _ {S : Type 0} (Asks : List Entry → Entry → Type 0) (Knows : List Entry → S → Type 0) where
  pub keeps_none : (s : S) → Keeps Asks Knows s [] s
  keeps_none s past knows = (tt, subst (λ (l : List Entry). Knows l s) (sym (append-nil past)) knows)

  pub keeps_both : (s t u : S) (xs ys : List Entry) → Keeps Asks Knows s xs t → Keeps Asks Knows t ys u → Keeps Asks Knows s (xs ++ ys) u
  keeps_both s t u xs ys first later past knows =
      let one = first past knows in
      let two = later (past ++ xs) one.1 in
      (each-append Asks past xs ys one.0 two.0, subst (λ (l : List Entry). Knows l u) (append_assoc past xs ys) two.1)

module _ (Asks : List Entry → Entry → Type 0) (Knows : List Entry → AirState → Type 0) (airs : Airs Asks Knows) where
  pub keeps_plain : (air : AirState) (told : List Entry) → Plains told → Keeps Asks Knows air told air
  keeps_plain air [] plain = keeps_none Asks Knows air
  keeps_plain air (entry ∷ told) plain = keeps_both Asks Knows air air air (entry ∷ []) told (airs.plain air entry plain.0) (keeps_plain air told plain.1)
