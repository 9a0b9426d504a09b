-- Which nodes listen, in a host and by its transcript (this project's own rule): at each phase those that do by the interviews that were entered, and the first node before one.
use Rattle.std.specs.Prelude.{◌≡◌, ◌≤◌, ℕ, List}
use Rattle.zw_text.specs.declared.entry.Entry.{Entry}
use Rattle.law_host.specs.law_time.Interviews.{listens}
use Rattle.proof_line.specs.host_model.State.{HostState, node_of}
use Rattle.proof_alone.specs.Runs.{Knowledge}

-- of each node
abbrev pub ListensAsTold : List Entry → HostState → Type 0
ListensAsTold past h = (n : ℕ) → n ≤ 232 → listens n past ≡ (node_of h n).listens

abbrev pub KnowsListening : Knowledge
KnowsListening here past m = ListensAsTold past m.state
