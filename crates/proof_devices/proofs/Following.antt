-- What stands directly after a line that repeats a frame by the history of the air is what stands there by the transcript.
use Rattle.std.proofs.Common.{◌≡◌, ℕ, ◌-◌, List, [], ◌∷◌, ◌++◌, take, drop, length, refl, sym, subst, ◌∙◌, append_assoc}
use Rattle.std.proofs.lemmas.List.{take-append-drop}
use Rattle.std.specs.Prelude.{Option, Some, None}
use Rattle.std.specs.List.{flat_map}
use Rattle.air_frames.specs.declared.ages.Refusal.{Refusal}
use Rattle.air_frames.specs.declared.ages.Refusal.TheVariants.{NeverSent, Forgotten, Stale}
use Rattle.device_sim.specs.State.{State}
use Rattle.zw_text.specs.declared.line.Line.{Line}
use Rattle.zw_text.specs.declared.line.Line.TheVariants as lines
use Rattle.zw_text.specs.declared.entry.Entry.{Entry}
use Rattle.zw_text.specs.Transcript.{line_last}
use Rattle.law_transcript.specs.Answers.{before_last}
use Rattle.law_transcript.specs.Fates.{MayAir}
use Rattle.law_transcript.specs.Lists.{EachAfter, listed}
use Rattle.law_transcript.specs.Repeats.{frame_of, refused_repeat, repeat_entry}
use Rattle.law_transcript.specs.Sessions.{MayBegin}
use Rattle.law_wire.specs.Arriving.{FollowsRepeat}
use Rattle.proof_air.proofs.Counting.{each-left}
use Rattle.proof_air.proofs.Fresh.{same_reason}
use Rattle.proof_devices.specs.Answering.{MayAnswer}

-- each refusal has an entry
none_refused : (refused : Option Refusal) → flat_map repeat_entry (listed refused) ≡ [] → refused ≡ None
none_refused None none = refl
none_refused (Some NeverSent) none = absurd cc
none_refused (Some Forgotten) none = absurd cc
none_refused (Some (Stale later)) none = absurd cc

-- what holds of a transcript holds without its last entry
without_last : (Allowed : List Entry → Entry → Type 0) (past : List Entry) → EachAfter Allowed [] past → EachAfter Allowed [] (before_last past)
without_last Allowed past each =
    let n : ℕ = length past - 1 in
    each-left Allowed [] (take n past) (drop n past) (subst (EachAfter Allowed []) (sym (take-append-drop n past)) each)

module _ (devices : List State) where
  follows : (past : List Entry) (e : Entry) → EachAfter MayAir [] past → EachAfter MayBegin [] past → MayAnswer devices past e → FollowsRepeat devices past (line_last past) e
  follows past e airs begins may = by (line_last past) refl
    where
      by : (said : List Line) → line_last past ≡ said → FollowsRepeat devices past said e
      by (lines.Repeat number ∷ more) is = λ fresh hears.
          let asked = may number more is in
          let before : List Entry = before_last past in
          asked.1
          (sym (same_reason before number (without_last MayAir past airs) (without_last MayBegin past begins) asked.0) ∙ none_refused (refused_repeat before (frame_of before number)) fresh) hears
      by said is = tt

  pub all_follow : (past rest : List Entry) → EachAfter MayAir [] (past ++ rest) → EachAfter MayBegin [] (past ++ rest) → EachAfter (MayAnswer devices) past rest
      → EachAfter (λ (before : List Entry) (e : Entry). FollowsRepeat devices before (line_last before) e) past rest
  all_follow past [] airs begins answers = tt
  all_follow past (e ∷ rest) airs begins answers = (
    follows past e (each-left MayAir [] past (e ∷ rest) airs) (each-left MayBegin [] past (e ∷ rest) begins) answers.0,
    all_follow (past ++ e ∷ []) rest (subst (EachAfter MayAir []) (sym (append_assoc past (e ∷ []) rest)) airs) (subst (EachAfter MayBegin []) (sym (append_assoc past (e ∷ []) rest)) begins) answers.1,
  )
