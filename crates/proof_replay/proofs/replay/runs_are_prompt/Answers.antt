-- By what is asked, and in the end with the last session.
use Rattle.std.proofs.Common.{Bool, List, []}
use Rattle.std.specs.Prelude.{Some}
use Rattle.zw_text.specs.declared.entry.Entry.{Entry}
use Rattle.law_transcript.specs.Payloads.{BeginsWithUnit}
use Rattle.law_wire.specs.Serial.{ended}
use Rattle.proof_asking.specs.proof_requests.proof_alone.State.{first_alone}
use Rattle.proof_replay.proofs.Wholly.{by_whole}
use Rattle.proof_replay.proofs.replay.runs_are_prompt.Goals as goal

pub returns : goal.returns
returns c = λ keys taken whole here heard m run careful so as_told rests fine.
    let asks = c.hosts_ask_one_by_one.ensures.told keys heard (here, m, run) in
    c.hosts_are_prompt.ensures keys taken whole here heard m run careful so as_told rests fine asks.0 asks.1
    (by_whole (λ (b : Bool) (l : List Entry). BeginsWithUnit (ended b l)) (first_alone keys (Some [])) (c.hosts_ask_one_by_one.ensures.whole keys)
    (λ (l : List Entry) told. (c.hosts_ask_one_by_one.ensures.told keys l told).2) whole here heard m run rests)
