-- A node is plain or a lock, and each is tied.
use Rattle.std.proofs.Common.{inl, inr}
use Rattle.proof_headline.proofs.nodes.nodes_are_tied.Goals as goal

pub returns-clause-tied : goal.returns-clause-tied
returns-clause-tied c = λ keys devices lines node device is done found. elim is [
  | inl plain ↦ c.plain_nodes_are_tied.ensures.tied keys devices lines node device plain done found
  | inr lock ↦ c.locks_are_tied.ensures.tied keys devices lines node device lock done found
]

pub returns-clause-truth : goal.returns-clause-truth
returns-clause-truth c = λ keys devices lines node is done. elim is [
  | inl plain ↦ c.plain_nodes_are_tied.ensures.truth keys devices lines node plain done
  | inr lock ↦ c.locks_are_tied.ensures.truth keys devices lines node lock done
]
