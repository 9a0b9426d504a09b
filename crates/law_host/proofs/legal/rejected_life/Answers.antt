-- Records that give a session of node 2 are shown by no start without it.
use Rattle.std.proofs.Common.{◌≡◌, ℕ, List, [], ◌∷◌, length, map, sym, ap, ◌∙◌, arith}
use Rattle.host_keep.specs.Kept.{Kept, Session, node_of}
use Rattle.host_keep.proofs.RecordLists.{give_one}
use Rattle.zw_text.specs.Transcript.{sessions}
use Rattle.law_time.proofs.law_transcript_Computing.{computing_devices}
use Rattle.law_time.proofs.ShownRecords.{gives_begun}
use Rattle.law_host.proofs.FirstLife.{gives_life}
use Rattle.law_host.proofs.legal.rejected_life.Goals as goal

abbrev begun : Kept → List ℕ
begun kept = map (λ (session : Session). session.command) (node_of kept 2).sessions

pub returns-clause-open : goal.returns-clause-open
unfolding computing_devices
returns-clause-open c = λ key whole told from.
    let same = give_one _ _ _ from.starts.gives gives_begun in
    let shown : sessions 2 from.start.before ≡ 1 ∷ [] = sym (from.starts.shows.nodes 2).begun ∙ ap begun same in
    let one : length (sessions 2 from.start.before) ≡ 1 = ap (λ (numbers : List ℕ). length numbers) shown in
    let next = from.alone.legal.sessions.0.0 in
    omega (arith, one, next)

pub returns-clause-ended : goal.returns-clause-ended
unfolding computing_devices
returns-clause-ended c = λ key whole told from.
    let same = give_one _ _ _ from.starts.gives gives_life in
    let shown : sessions 2 from.start.before ≡ 1 ∷ [] = sym (from.starts.shows.nodes 2).begun ∙ ap begun same in
    let one : length (sessions 2 from.start.before) ≡ 1 = ap (λ (numbers : List ℕ). length numbers) shown in
    let next = from.alone.legal.sessions.0.0 in
    omega (arith, one, next)
