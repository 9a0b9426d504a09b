-- What was let in before the stretch and in it, and what is so of the nodes at work.
use Rattle.std.proofs.Common.{◌≡◌, ℕ, ◌≤◌, true, List, [], ◌++◌, subst}
use Rattle.zw_text.specs.declared.entry.Entry.{Entry}
use Rattle.law_wire.specs.law_transcript.Lists.{EachAfter}
use Rattle.law_wire.specs.law_transcript.Nodes.{is_joined, listing_of}
use Rattle.proof_rests.specs.proof_attempts.proof_host.device_sim.State.{State}
use Rattle.proof_in_time.proofs.Over.{each-right}
use Rattle.proof_in_time.proofs.Spoken.{told_both, whole_parts}
use Rattle.proof_ready.specs.LetIn.{MayBeLetIn}
use Rattle.proof_ready.specs.Stretch.{first_of, moment, told_before, told_in}
use Rattle.proof_ready.proofs.Reading.{quiet_so, woken_so}
use Rattle.proof_ready.proofs.Working.{worked}
use Rattle.proof_ready.proofs.stretch.stretches_are_for_their_workers.Goals as goal

pub returns : goal.returns
returns c = λ key keys devices before lines is.
    let m = first_of keys devices in
    let past : List Entry = told_before keys devices before in
    let told : List Entry = told_in keys devices before lines in
    let now : List State = (moment keys devices before).outside.devices in
    let parts = whole_parts m before lines is.done is.whole in
    let within : (n : ℕ) → is_joined past n ≡ true → n ≤ 232 = λ n joined. (c.joined_nodes_are_there.ensures keys devices before parts.0 parts.1 n joined).to in
    let known = c.workers_are_known.ensures keys devices before parts.0 parts.1 key told is.stretch.quiet is.are_fit in
    let each : EachAfter (MayBeLetIn (listing_of devices)) past told =
    each-right (MayBeLetIn (listing_of devices)) [] past told
    (subst (λ (T : List Entry). EachAfter (MayBeLetIn (listing_of devices)) [] T) (told_both m before lines) (c.orders_are_let_in.ensures keys devices (before ++ lines) is.done).0) in
    worked (listing_of devices) past told each (quiet_so key now past told is.stretch.quiet is.are_fit within)
    (c.nodes_are_still.ensures.unasked keys devices before parts.0 parts.1) within known.0 (woken_so key now past told is.stretch.quiet is.are_fit within)
    c.nodes_are_woken_last.ensures.last c.nodes_are_woken_last.ensures.never
