-- The walk over the requests of the host and its keys.
use Rattle.std.proofs.Common.{[]}
use Rattle.s0_crypto.specs.declared.key_pair.Keys.{Keys}
use Rattle.zw_text.specs.declared.entry.Entry.{Entry}
use Rattle.law_transcript.specs.Lists.{EachAfter}
use Rattle.std.specs.Prelude.{List, Some}
use Rattle.proof_notes.proofs.Lasting.{law_along}
use Rattle.proof_notes.specs.proof_known.proof_alone.Phases.{Phase}
use Rattle.proof_notes.specs.proof_known.proof_alone.Runs.{Run}
use Rattle.proof_notes.specs.proof_known.proof_alone.State.{HostMachine, first_alone}
use Rattle.proof_nonces.specs.Sealing.{MaySeal}
use Rattle.proof_nonces.specs.Known.{Ground, KnowsSealing}
use Rattle.proof_nonces.proofs.Grounds.{ground_along}
use Rattle.proof_nonces.proofs.Walking.{first_tie, sealing_walk}
use Rattle.proof_nonces.proofs.sealing.hosts_seal_once.Goals as goal

module _ (c : goal.After-hosts_know_what_was_told) where
  keeps : (keys : Keys) (here : Phase) (told : List Entry) (m : HostMachine) → Run (first_alone keys (Some [])) here told m → EachAfter (MaySeal keys) [] told × KnowsSealing keys here told m
  keeps keys =
      let laws = c.attempts_have_what_they_give.ensures in
      let leave = c.hosts_leave_nonces.ensures in
      law_along keys (Ground keys) (KnowsSealing keys)
      (ground_along keys (c.hosts_ask_as_told.ensures.run keys) c.hosts_know_what_was_told.ensures.walk (c.hosts_know_what_was_told.ensures.first keys)) (MaySeal keys)
      (sealing_walk keys (record { starts = laws.first_payload; segments = laws.segment_payload; texts = laws.text_payload })
      (record { aside = leave.aside; starts = leave.starts; seals = leave.seals; sends = leave.sends })) (tt, first_tie keys keys)

pub returns-clause-told : goal.returns-clause-told
returns-clause-told c = λ keys told run. (keeps c keys run.0 told run.1 run.2).0

pub returns-clause-known : goal.returns-clause-known
returns-clause-known c = λ keys here told m run. (keeps c keys here told m run).1
