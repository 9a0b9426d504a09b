-- Each law is proved of every run of a host alone.
use Rattle.std.proofs.Common.{◌≡◌, ℕ, Bool, true, List, [], subst}
use Rattle.std.specs.Prelude.{Option, Some}
use Rattle.s0_crypto.specs.declared.key_pair.Keys.{Keys}
use Rattle.zw_words.specs.declared.side.Side.TheVariants.{Host}
use Rattle.zw_text.specs.declared.entry.Entry.{Entry}
use Rattle.law_wire.specs.Links.{KeepsLink}
use Rattle.law_wire.specs.Serial.{ended}
use Rattle.law_time.specs.Waking.{FallsAsleep}
use Rattle.proof_asking.specs.proof_known.Known.{AreForHost}
use Rattle.proof_asking.specs.proof_requests.proof_alone.State.{HostMachine, first_alone}
use Rattle.proof_asking.specs.proof_requests.proof_alone.Phases.{Phase, Resting}
use Rattle.proof_asking.specs.proof_requests.proof_alone.Runs.{Run, Told}
use Rattle.proof_asking.specs.proof_requests.proof_alone.Careful.{Careful}
use Rattle.proof_noting.specs.proof_choice.proof_ends.proof_notes.Full.{NotesInFull}
use Rattle.proof_noting.specs.proof_choice.proof_ends.Ends.{NotesOfEnds}
use Rattle.proof_replay.specs.Laws.{Agrees, HostsKeepLaws}
use Rattle.proof_replay.proofs.Agreeing.{said_as_told}
use Rattle.proof_replay.proofs.Wholly.{by_rest, by_whole}
use Rattle.proof_replay.proofs.replay.hosts_keep_laws.Goals as goal

keeps : goal.After-runs_are_prompt → (keys : Keys) (whole : Bool) (heard : List Entry) (told : Option (List (List ℕ))) (here : Phase) (m : HostMachine)
    → (run : Run (first_alone keys (Some [])) here heard m) → Careful run → (whole ≡ true → (here ≡ Resting) × (m.left ≡ 0)) → (whole ≡ true → Agrees told m.records) → AreForHost heard
    → KeepsLink Host (ended whole heard) → HostsKeepLaws keys whole heard told
keeps c keys whole heard told here m run careful rests agrees fine link = record {
  orders = c.hosts_keep_their_tables.ensures.laws keys heard (here, m, run);
  said = said_as_told whole heard told m.records agrees (c.hosts_do_as_is_said.ensures keys whole here heard m run (λ is. (rests is).0) fine);
  notes = c.hosts_note_what_was_told.ensures.told keys heard (here, m, run);
  opens = c.hosts_note_what_was_told.ensures.opened keys heard (here, m, run);
  in_full =
      by_whole (λ (b : Bool) (l : List Entry). NotesInFull keys b l) (first_alone keys (Some [])) (c.hosts_note_in_full.ensures.whole keys) (c.hosts_note_in_full.ensures.told keys) whole here heard m run rests;
  unkept = c.hosts_say_what_is_not_kept.ensures keys heard (here, m, run);
  wakes = c.hosts_wake_as_told.ensures keys (Some []) heard (here, m, run);
  sleeps =
      by_rest (λ (b : Bool) (l : List Entry). FallsAsleep b l) (first_alone keys (Some [])) (c.hosts_fall_asleep_as_told.ensures.whole keys) (c.hosts_fall_asleep_as_told.ensures.told keys) whole here heard
      m run rests;
  holds = c.hosts_hold_as_asked.ensures keys heard (here, m, run);
  questions = c.hosts_answer_questions.ensures keys heard (here, m, run);
  interviews = c.hosts_end_interviews.ensures keys heard (here, m, run);
  says_done = λ key same. c.hosts_say_how_done.ensures key heard (subst (λ (k : Keys). Told (first_alone k (Some [])) heard) same (here, m, run));
  ends =
      by_rest (λ (b : Bool) (l : List Entry). NotesOfEnds b l) (first_alone keys (Some [])) (c.hosts_note_ends.ensures.whole keys) (c.hosts_note_ends.ensures.told keys) whole here heard m run rests;
  prompt =
      let (taken, so, as_told) = c.hosts_go_by_messages.ensures keys here heard m run in (taken, c.runs_are_prompt.ensures keys taken whole here heard m run careful so as_told rests fine);
  ticks = c.hosts_tell_time.ensures.counts keys (Some []) heard (here, m, run);
  sends = λ key same. c.hosts_send_what_is_due.ensures.told key heard (subst (λ (k : Keys). Told (first_alone k (Some [])) heard) same (here, m, run));
  seals_once = c.hosts_seal_once.ensures.told keys heard (here, m, run);
  nonces = c.hosts_count_nonces.ensures.told keys heard (here, m, run);
  link = link;
}

pub returns : goal.returns
returns c = λ keys whole heard told alone. keeps c keys whole heard told alone.here alone.last alone.run.0 alone.run.1 alone.rests alone.agrees alone.for_host alone.link
