-- What is known along each run of a host alone, and the notes of its payloads there.
use Rattle.std.proofs.Common.{List, [], refl}
use Rattle.std.specs.Prelude.{Some}
use Rattle.s0_crypto.specs.declared.key_pair.Keys.{Keys}
use Rattle.zw_text.specs.declared.entry.Entry.{Entry}
use Rattle.law_transcript.specs.Lists.{EachAfter}
use Rattle.proof_attempts.specs.law_time.Moments.{Allows}
use Rattle.proof_attempts.specs.law_time.Waking.{may_wake}
use Rattle.proof_attempts.specs.Since.{AlongRuns}
use Rattle.proof_attempts.proofs.Lasting.{law_along}
use Rattle.proof_known.specs.proof_alone.Listening.{KnowsListening}
use Rattle.proof_known.specs.proof_alone.State.{HostMachine, first_alone}
use Rattle.proof_known.specs.proof_alone.Phases.{Phase, Resting}
use Rattle.proof_known.specs.proof_alone.Runs.{Run, Walk, both_know}
use Rattle.proof_known.specs.Known.{KnowsKeys, KnowsWhole}
use Rattle.proof_known.proofs.KeptKeys.{Anything, keys_walk}
use Rattle.proof_known.proofs.Noting.{Rooms}
use Rattle.proof_known.proofs.Running.{over, run_keeps}
use Rattle.proof_notes.specs.Full.{MayGoOn}
use Rattle.proof_notes.proofs.Walking.{KnowsHost, KnowsNotes, ShowsOpen, ShowsTables, notes_walk}

module _ (keys : Keys) (walk : Walk (Allows may_wake) KnowsWhole) (first : KnowsWhole Resting [] (first_alone keys (Some []))) (listening : AlongRuns keys KnowsListening) where
  pub host_along : AlongRuns keys (KnowsHost keys)
  host_along here told m run = (
    (run_keeps Anything (both_know KnowsWhole (KnowsKeys keys)) (over KnowsWhole (Allows may_wake) Anything (KnowsKeys keys) walk (keys_walk keys (Allows may_wake))) [] run (first, (refl, refl))).1,
    listening here told m run,
  )

  pub notes_along : ShowsOpen → ShowsTables → Rooms → (here : Phase) (told : List Entry) (m : HostMachine) → Run (first_alone keys (Some [])) here told m
      → EachAfter (MayGoOn keys) [] told × KnowsNotes keys here told m
  notes_along opens said rooms here told m run = law_along keys (KnowsHost keys) (KnowsNotes keys) host_along (MayGoOn keys) (notes_walk keys opens said rooms) tt here told m run
