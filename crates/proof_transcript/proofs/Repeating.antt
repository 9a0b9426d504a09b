-- What is known goes on over a line that repeats a frame: the frame is heard first, directly after the words, or a refusal stands there, or nothing.
use Rattle.std.proofs.Common.{◌≡◌, ℕ, ◌&&◌, ◌⊎◌, not, Bool, false, if◌then◌else◌, inl, inr, List, [], ◌∷◌, ◌++◌, refl, ap, sym, subst, ◌∙◌, append_assoc}
use Rattle.std.specs.Prelude.{Option}
use Rattle.route_table.specs.declared.route.Route.{Route}
use Rattle.zw_text.specs.declared.line.Line.TheVariants.{Repeat}
use Rattle.zw_text.specs.declared.entry.Entry.{Entry}
use Rattle.zw_text.specs.declared.entry.Entry.TheVariants as entry
use Rattle.zw_text.specs.Transcript.{line_after, line_last, line_of}
use Rattle.zw_text.proofs.Views.{folded-append}
use Rattle.law_host.specs.law_transcript.Lists.{EachAfter}
use Rattle.proof_air.specs.mesh_sim.Air.{AirState}
use Rattle.proof_air.specs.mesh_sim.Steps as mesh
use Rattle.air_frames.specs.Ages.{refusal_of}
use Rattle.proof_air.specs.outside_model.State.{OuterState, Outside, Outcome}
use Rattle.proof_air.specs.outside_model.Events.{Repeats, stamp, has_entered, outcome, repeats}
use Rattle.proof_air.specs.world_model.State.{Machine}
use Rattle.proof_air.specs.world_model.Events.{Outside_does, happens, entries}
use Rattle.proof_transcript.proofs.KeptOverLists.{Keeps, Airs, Goes, keeps_both}
use Rattle.proof_transcript.proofs.Arrivals.{IsAgain, repeats_again}
use Rattle.proof_transcript.proofs.Events.{Stamps, stamped_keeps}
use Rattle.proof_transcript.proofs.FramesWalking.{begun}

-- outside a tick no number is entered
unstamped : (o : OuterState) (told : List Entry) → o.in_tick ≡ false → stamp o told ≡ told
unstamped o [] out = refl
unstamped o (e ∷ told) out = ap (λ (b : Bool). (if b && not o.stamped then entry.Time o.clock ∷ [] else []) ++ e ∷ told) out

module _ (Asks : List Entry → Entry → Type 0) (Knows : List Entry → AirState → Type 0) (Known : List Entry → OuterState → Type 0) (stamps : Stamps Asks Knows Known) (airs : Airs Asks Knows)
    (words : List ℕ) (number : ℕ) (read : line_of (entry.Said words) ≡ Repeat number ∷ []) (known_air : (past : List Entry) (p : OuterState) → Known past p → Knows past p.air)
    (hears : (air : AirState) (past : List Entry) → line_last past ≡ Repeat number ∷ [] → Knows past air → EachAfter Asks past (entry.Heard number ∷ []) × Knows (past ++ entry.Heard number ∷ []) air) where
  heard_first : (o p : OuterState) (x : Outcome) → p.in_tick ≡ false → Keeps Asks Known o (entry.Said words ∷ []) p → IsAgain Asks Knows number p x
      → Keeps Asks Known o (entry.Said words ∷ stamp x.outer x.entries) (has_entered x.outer x.entries)
  heard_first o p x out said again past known =
      let following : List Entry = past ++ entry.Said words ∷ [] in
      let one = said past known in
      let heard = hears p.air following (folded-append line_after [] past (entry.Said words ∷ []) ∙ read) (known_air following p one.1) in
      let rest = again.keeps (following ++ entry.Heard number ∷ []) heard.1 in
      let all : (following ++ entry.Heard number ∷ []) ++ again.rest ≡ past ++ (entry.Said words ∷ (entry.Heard number ∷ again.rest)) =
      append_assoc following (entry.Heard number ∷ []) again.rest ∙ append_assoc past (entry.Said words ∷ []) (entry.Heard number ∷ again.rest) in
      let told : stamp x.outer x.entries ≡ entry.Heard number ∷ again.rest = unstamped x.outer x.entries (again.time.in_tick ∙ out) ∙ again.told in
      let is_known : Known (past ++ (entry.Said words ∷ (entry.Heard number ∷ again.rest))) (has_entered x.outer (entry.Heard number ∷ again.rest)) =
      stamps.entered (past ++ (entry.Said words ∷ (entry.Heard number ∷ again.rest))) x.outer (subst (λ (l : List Entry). Knows l x.outer.air) all rest.1) in (
        (one.0.0, subst (λ (l : List Entry). EachAfter Asks following l) (sym told) (heard.0.0, rest.0)),
        subst (λ (l : List Entry). Known (past ++ (entry.Said words ∷ l)) (has_entered x.outer x.entries)) (sym told)
            (subst (λ (l : List Entry). Known (past ++ (entry.Said words ∷ (entry.Heard number ∷ again.rest))) (has_entered x.outer l)) (sym again.told) is_known),
      )

  either : (o p : OuterState) (x : Outcome) → p.in_tick ≡ false → Keeps Asks Known o (entry.Said words ∷ []) p → Goes Asks Knows p x ⊎ IsAgain Asks Knows number p x
      → Keeps Asks Known o (entry.Said words ∷ stamp x.outer x.entries) (has_entered x.outer x.entries)
  either o p x out said (inl goes) =
      keeps_both Asks Known o p (has_entered x.outer x.entries) (entry.Said words ∷ []) (stamp x.outer x.entries) said (stamped_keeps Asks Knows Known stamps p x.outer x.entries goes.keeps goes.time)
  either o p x out said (inr again) = heard_first o p x out said again

  -- the line, whose words keep what is known
  pub repeat_keeps : (m : Machine) (drawn : List ℕ) (route : Option Route) → Keeps Asks Known m.outside.outer (entry.Said words ∷ []) (begun m).outside.outer
      → Keeps Asks Known m.outside.outer (entry.Said words ∷ entries (begun m) (Outside_does (Repeats number drawn route))) (happens (begun m) (Outside_does (Repeats number drawn route))).outside.outer
  unfolding happens entries outcome
  repeat_keeps m drawn route said =
      let w : Outside = (begun m).outside in
      either m.outside.outer w.outer (repeats w (refusal_of w.outer.air.frames number) (mesh.Repeats number drawn route)) refl said
      (repeats_again Asks Knows airs w (refusal_of w.outer.air.frames number) number drawn route refl)
