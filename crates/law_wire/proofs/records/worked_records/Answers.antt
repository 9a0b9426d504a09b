use Rattle.std.proofs.Common.{ℕ, refl}
use Rattle.law_transcript.specs.host_keep.Kept.{node_of, kept_of}
use Rattle.law_transcript.specs.Records.{ShowsNode}
use Rattle.law_transcript.specs.Worked.{plain_exchange, repeated_exchange, lossy_exchange, cancelled_order, restarted_host, sleeping_node, sealed_exchange, long_message}
use Rattle.law_transcript.specs.WorkedDevices.{plain_records}
use Rattle.law_wire.specs.WorkedRecords.{still_begun, begun_records, taken_back, cancelling_records, lossy_records, cancelled_records, sleeping_records, sealed_records, cut_records}
use Rattle.law_wire.proofs.Computing.{reckoning}
use Rattle.law_wire.proofs.ShownRecords.{blank_at, shows_nodes, gives_plain, gives_begun, gives_cancelling, gives_lossy, gives_cancelled, gives_sleeping, gives_sealed, gives_cut}
use Rattle.law_wire.proofs.records.worked_records.Goals as goal

plain_nodes : (node : ℕ) → ShowsNode plain_exchange node (node_of (kept_of plain_records) node)
unfolding reckoning
plain_nodes = shows_nodes plain_exchange (kept_of plain_records) 3 (record { joined = refl; interviewed = refl; waits = refl; begun = refl; ended = refl }, (record { joined = refl; interviewed = refl; waits = refl; begun = refl; ended = refl }, (record { joined = refl; interviewed = refl; waits = refl; begun = refl; ended = refl }, tt))) (blank_at 230) refl refl refl

pub returns-clause-plain : goal.returns-clause-plain
unfolding reckoning
returns-clause-plain c = record {
  kept = kept_of plain_records;
  gives = gives_plain;
  shows = record { orders = refl; cancelled = refl; nodes = plain_nodes };
}

twice_nodes : (node : ℕ) → ShowsNode repeated_exchange node (node_of (kept_of plain_records) node)
unfolding reckoning
twice_nodes = shows_nodes repeated_exchange (kept_of plain_records) 3 (record { joined = refl; interviewed = refl; waits = refl; begun = refl; ended = refl }, (record { joined = refl; interviewed = refl; waits = refl; begun = refl; ended = refl }, (record { joined = refl; interviewed = refl; waits = refl; begun = refl; ended = refl }, tt))) (blank_at 230) refl refl refl

pub returns-clause-twice : goal.returns-clause-twice
unfolding reckoning
returns-clause-twice c = record {
  kept = kept_of plain_records;
  gives = gives_plain;
  shows = record { orders = refl; cancelled = refl; nodes = twice_nodes };
}

lossy_nodes : (node : ℕ) → ShowsNode lossy_exchange node (node_of (kept_of lossy_records) node)
unfolding reckoning
lossy_nodes = shows_nodes lossy_exchange (kept_of lossy_records) 3 (record { joined = refl; interviewed = refl; waits = refl; begun = refl; ended = refl }, (record { joined = refl; interviewed = refl; waits = refl; begun = refl; ended = refl }, (record { joined = refl; interviewed = refl; waits = refl; begun = refl; ended = refl }, tt))) (blank_at 230) refl refl refl

pub returns-clause-lossy : goal.returns-clause-lossy
unfolding reckoning
returns-clause-lossy c = record {
  kept = kept_of lossy_records;
  gives = gives_lossy;
  shows = record { orders = refl; cancelled = refl; nodes = lossy_nodes };
}

cancelled_nodes : (node : ℕ) → ShowsNode cancelled_order node (node_of (kept_of cancelled_records) node)
unfolding reckoning
cancelled_nodes = shows_nodes cancelled_order (kept_of cancelled_records) 3 (record { joined = refl; interviewed = refl; waits = refl; begun = refl; ended = refl }, (record { joined = refl; interviewed = refl; waits = refl; begun = refl; ended = refl }, (record { joined = refl; interviewed = refl; waits = refl; begun = refl; ended = refl }, tt))) (blank_at 230) refl refl refl

pub returns-clause-cancelled : goal.returns-clause-cancelled
unfolding reckoning
returns-clause-cancelled c = record {
  kept = kept_of cancelled_records;
  gives = gives_cancelled;
  shows = record { orders = refl; cancelled = refl; nodes = cancelled_nodes };
}

-- a restart leaves no record, nor does a session that is unanswered
restarted_nodes : (node : ℕ) → ShowsNode restarted_host node (node_of (kept_of plain_records) node)
unfolding reckoning
restarted_nodes = shows_nodes restarted_host (kept_of plain_records) 3 (record { joined = refl; interviewed = refl; waits = refl; begun = refl; ended = refl }, (record { joined = refl; interviewed = refl; waits = refl; begun = refl; ended = refl }, (record { joined = refl; interviewed = refl; waits = refl; begun = refl; ended = refl }, tt))) (blank_at 230) refl refl refl

pub returns-clause-restarted : goal.returns-clause-restarted
unfolding reckoning
returns-clause-restarted c = record {
  kept = kept_of plain_records;
  gives = gives_plain;
  shows = record { orders = refl; cancelled = refl; nodes = restarted_nodes };
}

sleeping_nodes : (node : ℕ) → ShowsNode sleeping_node node (node_of (kept_of sleeping_records) node)
unfolding reckoning
sleeping_nodes = shows_nodes sleeping_node (kept_of sleeping_records) 6 (record { joined = refl; interviewed = refl; waits = refl; begun = refl; ended = refl }, (record { joined = refl; interviewed = refl; waits = refl; begun = refl; ended = refl }, (record { joined = refl; interviewed = refl; waits = refl; begun = refl; ended = refl }, (record { joined = refl; interviewed = refl; waits = refl; begun = refl; ended = refl }, (record { joined = refl; interviewed = refl; waits = refl; begun = refl; ended = refl }, (record { joined = refl; interviewed = refl; waits = refl; begun = refl; ended = refl }, tt)))))) (blank_at 227) refl refl refl

pub returns-clause-sleeping : goal.returns-clause-sleeping
unfolding reckoning
returns-clause-sleeping c = record {
  kept = kept_of sleeping_records;
  gives = gives_sleeping;
  shows = record { orders = refl; cancelled = refl; nodes = sleeping_nodes };
}

sealed_nodes : (node : ℕ) → ShowsNode sealed_exchange node (node_of (kept_of sealed_records) node)
unfolding reckoning
sealed_nodes = shows_nodes sealed_exchange (kept_of sealed_records) 5 (record { joined = refl; interviewed = refl; waits = refl; begun = refl; ended = refl }, (record { joined = refl; interviewed = refl; waits = refl; begun = refl; ended = refl }, (record { joined = refl; interviewed = refl; waits = refl; begun = refl; ended = refl }, (record { joined = refl; interviewed = refl; waits = refl; begun = refl; ended = refl }, (record { joined = refl; interviewed = refl; waits = refl; begun = refl; ended = refl }, tt))))) (blank_at 228) refl refl refl

pub returns-clause-sealed : goal.returns-clause-sealed
unfolding reckoning
returns-clause-sealed c = record {
  kept = kept_of sealed_records;
  gives = gives_sealed;
  shows = record { orders = refl; cancelled = refl; nodes = sealed_nodes };
}

cut_nodes : (node : ℕ) → ShowsNode long_message node (node_of (kept_of cut_records) node)
unfolding reckoning
cut_nodes = shows_nodes long_message (kept_of cut_records) 9 (record { joined = refl; interviewed = refl; waits = refl; begun = refl; ended = refl }, (record { joined = refl; interviewed = refl; waits = refl; begun = refl; ended = refl }, (record { joined = refl; interviewed = refl; waits = refl; begun = refl; ended = refl }, (record { joined = refl; interviewed = refl; waits = refl; begun = refl; ended = refl }, (record { joined = refl; interviewed = refl; waits = refl; begun = refl; ended = refl }, (record { joined = refl; interviewed = refl; waits = refl; begun = refl; ended = refl }, (record { joined = refl; interviewed = refl; waits = refl; begun = refl; ended = refl }, (record { joined = refl; interviewed = refl; waits = refl; begun = refl; ended = refl }, (record { joined = refl; interviewed = refl; waits = refl; begun = refl; ended = refl }, tt))))))))) (blank_at 224) refl refl refl

pub returns-clause-cut : goal.returns-clause-cut
unfolding reckoning
returns-clause-cut c = record {
  kept = kept_of cut_records;
  gives = gives_cut;
  shows = record { orders = refl; cancelled = refl; nodes = cut_nodes };
}

begun_nodes : (node : ℕ) → ShowsNode still_begun node (node_of (kept_of begun_records) node)
unfolding reckoning
begun_nodes = shows_nodes still_begun (kept_of begun_records) 3 (record { joined = refl; interviewed = refl; waits = refl; begun = refl; ended = refl }, (record { joined = refl; interviewed = refl; waits = refl; begun = refl; ended = refl }, (record { joined = refl; interviewed = refl; waits = refl; begun = refl; ended = refl }, tt))) (blank_at 230) refl refl refl

pub returns-clause-begun : goal.returns-clause-begun
unfolding reckoning
returns-clause-begun c = record {
  kept = kept_of begun_records;
  gives = gives_begun;
  shows = record { orders = refl; cancelled = refl; nodes = begun_nodes };
}

taken_back_nodes : (node : ℕ) → ShowsNode taken_back node (node_of (kept_of cancelling_records) node)
unfolding reckoning
taken_back_nodes = shows_nodes taken_back (kept_of cancelling_records) 3 (record { joined = refl; interviewed = refl; waits = refl; begun = refl; ended = refl }, (record { joined = refl; interviewed = refl; waits = refl; begun = refl; ended = refl }, (record { joined = refl; interviewed = refl; waits = refl; begun = refl; ended = refl }, tt))) (blank_at 230) refl refl refl

pub returns-clause-taken_back : goal.returns-clause-taken_back
unfolding reckoning
returns-clause-taken_back c = record {
  kept = kept_of cancelling_records;
  gives = gives_cancelling;
  shows = record { orders = refl; cancelled = refl; nodes = taken_back_nodes };
}
