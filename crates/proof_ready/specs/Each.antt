-- That each command of a node is answered in that node's own time (this project's own rule; ticks are of 100 ms).
use Rattle.std.specs.Prelude.{◌≡◌, ℕ, suc, ◌+◌, ◌*◌, ◌&&◌, ◌||◌, nat_le, Bool, true, List, length}
use Rattle.std.specs.List.{list_all}
use Rattle.zw_text.specs.declared.entry.Entry.{Entry}
use Rattle.zw_text.specs.Transcript.{lines_run}
use Rattle.law_wire.specs.law_transcript.Lists.{Has}
use Rattle.law_wire.specs.law_transcript.Nodes.{always, listing_of}
use Rattle.law_wire.specs.law_transcript.Restarts.{ticks_asked}
use Rattle.law_time.specs.Calm.{IsCalm}
use Rattle.law_time.specs.Stretches.{IsStretch, are_plain_listeners, commands_in, is_alone, workers}
use Rattle.law_time.specs.Verdicts.{is_answered}
use Rattle.proof_rests.specs.proof_attempts.proof_host.device_sim.State.{State}
use Rattle.proof_in_time.specs.Waited.{waited_for}

-- since its last order or `wake` line a node has had so many ticks for each of its commands, and for one more
abbrev pub is_time_for : ℕ → List Entry → List Entry → ℕ → Bool
is_time_for each before stretch node = nat_le (101 + each * suc (length (commands_in before stretch node))) (waited_for node stretch)

-- that is 30 for one node alone, and 24 for one of several that listen and list neither Transport Service nor Security 0
abbrev pub is_each_long : List State → List Entry → List Entry → ℕ → Bool
is_each_long devices before stretch node =
    (is_alone before stretch && is_time_for 30 before stretch node) || (are_plain_listeners devices before stretch && is_time_for 24 before stretch node)

-- what is asked of a node at work in a stretch for such nodes that begins after a transcript, with the devices as they are then
abbrev pub AnswersEach : List ℕ → List State → List Entry → List Entry → Type 0
AnswersEach key devices before stretch =
    IsCalm (always (listing_of devices)) devices before (ticks_asked (lines_run before)) → IsStretch key devices before stretch
    → (node : ℕ) → Has (workers before stretch) node → is_each_long devices before stretch node ≡ true
    → list_all (is_answered devices before stretch node) (commands_in before stretch node) ≡ true
