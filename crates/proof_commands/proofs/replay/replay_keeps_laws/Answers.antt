-- The host begins without a past, and the laws follow from the facts; over what it heard they are those of every host alone; the records are those of the story.
use Rattle.std.proofs.Common.{ℕ, Option, List, [], subst}
use Rattle.zw_base.proofs.Each.{all-weaker}
use Rattle.zw_text.specs.Line.{replay_at}
use Rattle.run_lines.specs.Lines.{lines_in}
use Rattle.run_all.specs.host_core.Network.{keys_of}
use Rattle.run_all.specs.run_replay.Machine.{first_replay, lone_of}
use Rattle.run_all.specs.run_replay.Replay.{point_of}
use Rattle.proof_replay.specs.Heard.{IsReadSo}
use Rattle.proof_replay.specs.Laws.{HearsLines}
use Rattle.proof_commands.specs.Replay.{KeepsHost, KeepsRecords}
use Rattle.proof_commands.proofs.Reading.{IsReadBy, all_read}
use Rattle.proof_commands.proofs.Recording.{records_kept}
use Rattle.proof_commands.proofs.Replaying.{is_kept}
use Rattle.proof_commands.proofs.replay.replay_keeps_laws.Goals as goal

pub returns : goal.returns
returns c = λ status key left left' shelf shelf' sink sink'. record {
  laws = λ ran.
      is_kept (λ lines point T. KeepsHost T point.lone.host.state) (point_of (first_replay key) shelf)
      (λ lines new T read all.
      let facts = c.whole_lines_keep_facts.ensures lines (point_of (first_replay key) shelf) new [] T (c.first_facts_hold.ensures (keys_of key)) all in
      record {
        orders = c.laws_follow.ensures.laws T new.lone.host.state facts;
        tables = c.laws_follow.ensures.tables T new.lone.host.state facts;
        values = c.laws_follow.ensures.stores T new.lone.host.state facts;
      })
      ran.told.end (lines_in replay_at ran.told.texts) ran.point ran.told.transcript (all_read replay_at ran.told.texts) ran.told.ran;
  heard = λ ran.
      is_kept (λ lines point T. HearsLines (keys_of key) lines (lone_of (first_replay key) shelf.records) point.lone T) (point_of (first_replay key) shelf)
      (λ lines new T read all.
      c.texts_that_ran_are_heard.ensures key shelf lines new T all (all-weaker (IsReadBy replay_at) IsReadSo c.replayed_lines_are_read_as_said.ensures lines read))
      ran.told.end (lines_in replay_at ran.told.texts) ran.point ran.told.transcript (all_read replay_at ran.told.texts) ran.told.ran;
  adds = λ ran.
      let old = point_of (first_replay key) shelf in
      subst (λ (r : Option (List (List ℕ))). KeepsRecords ran.told.end (lines_in replay_at ran.told.texts) (lone_of (first_replay key) shelf.records) ran.told.transcript r) ran.records_are
      (records_kept ran.told.end (lines_in replay_at ran.told.texts) old ran.point ran.told.transcript ran.told.ran);
}
