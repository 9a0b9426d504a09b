-- Each part by what is known of it, on the ground of what is known of a host along its runs.
use Rattle.std.proofs.Common.{ℕ, List}
use Rattle.zw_text.specs.declared.entry.Entry.{Entry}
use Rattle.host_heard.specs.declared.told.Told.{Told}
use Rattle.law_transcript.specs.Units.{Carried}
use Rattle.proof_noting.specs.Following.{Outset}
use Rattle.proof_noting.specs.Ground.{ErrandsAlong, GroundAlong}
use Rattle.proof_noting.specs.Parts.{Parts}
use Rattle.proof_noting.specs.Steps.{first_of}
use Rattle.proof_noting.proofs.Grounding.{grounded}
use Rattle.proof_noting.proofs.noting.notes_go_on.Goals as goal

module _ (c : goal.After-notes_go_with_ticks) (key : List ℕ) (taken : List Entry → Carried → List Told) (from : Outset) (errands : ErrandsAlong key) where
  ground : GroundAlong taken (first_of key)
  ground =
      grounded key taken (c.hosts_count_attempts.ensures.grounds _ taken) (c.hosts_count_attempts.ensures.known _ taken) (c.hosts_know_what_they_choose.ensures _ taken) errands

  parts : Parts key taken from
  parts =
      let beside = c.notes_go_beside.ensures in
      let requests = c.notes_go_with_requests.ensures in
      let items = c.notes_go_with_items.ensures in
      let payloads = c.notes_go_with_payloads.ensures in
      let ticks = c.notes_go_with_ticks.ensures in
      record {
        along = ground;
        beside = beside.steps key taken from ground;
        unsent = beside.events key taken from ground;
        submits = requests.submits key taken from ground;
        starts = requests.starts key taken from ground;
        judged = items.judged key taken from ground;
        payload = payloads.judged key taken from ground;
        one_left = items.event key taken from ground;
        payload_left = payloads.event key taken from ground;
        payload_over = payloads.over key taken from ground;
        ticks = ticks.event key taken from ground;
        rests = beside.rests key taken from ground;
        asks = beside.asks key taken from ground;
        opens = beside.opens key taken from ground;
        sleeps = beside.sleeps key taken from ground;
        submitted = beside.submits key taken from ground;
        tick_begins = ticks.begins key taken from ground;
        tick_ends = ticks.ends key taken from ground;
        whole = beside.whole key taken from ground;
        fits_asked = beside.fits_asked key taken from ground;
        fits_ticking = ticks.fits key taken from ground;
        fits_one = items.fits key taken from;
        fits_payload = payloads.fits key taken from;
      }

pub returns : goal.returns
returns c = λ key taken from errands. parts c key taken from errands
