-- The walk goes along each run, from a host that has nothing to send.
use Rattle.std.proofs.Common.{ℕ, List, [], refl}
use Rattle.std.specs.Prelude.{Some}
use Rattle.s0_crypto.specs.Sealing.{keys_of}
use Rattle.zw_text.specs.declared.entry.Entry.{Entry}
use Rattle.law_transcript.specs.Payloads.{SendsWhatIsDue}
use Rattle.proof_known.specs.law_host.Heard.{listing_heard}
use Rattle.law_time.specs.Moments.{Allows}
use Rattle.law_time.specs.Waking.{may_wake}
use Rattle.world_model.specs.State.{first_machine}
use Rattle.world_lines.specs.Spoken.{transcript_of}
use Rattle.proof_sending.proofs.Reasoned.{first_is}
use Rattle.proof_known.specs.proof_alone.State.{first_alone}
use Rattle.proof_known.specs.proof_alone.Runs.{Told, both_know}
use Rattle.proof_known.proofs.Running.{over, run_keeps}
use Rattle.proof_known.specs.Known.{KnowsOrders}
use Rattle.proof_asking.specs.Asking.{IsHeardOf, KnowsDue}
use Rattle.proof_asking.proofs.Telling.{Asks}
use Rattle.proof_asking.proofs.Walking.{HostsAre, due_walk}
use Rattle.proof_asking.proofs.sends.hosts_send_what_is_due.Goals as goal

module _ (c : goal.After-what_is_heard_is_a_hosts) where
  laws : HostsAre
  laws = record {
    hosts = record {
      event_keeps = c.events_keep_facts.ensures.each;
      orders_stay = c.tables_keep_orders.ensures.host;
      texts_left = record {
        aside = c.hosts_leave_nonces.ensures.aside;
        starts = c.hosts_leave_nonces.ensures.starts;
        seals = c.hosts_leave_nonces.ensures.seals;
        sends = c.hosts_leave_nonces.ensures.sends;
      };
    };
    stand = c.laws_follow.ensures.laws;
    carried = c.orders_are_carried_as_said.ensures;
    from = c.callback_ids.ensures.from_one;
    to = c.callback_ids.ensures.to_max;
  }

  sends : (key : List ℕ) (told : List Entry) → Told (first_alone (keys_of key) (Some [])) told → SendsWhatIsDue listing_heard key told
  sends key told run =
      (run_keeps (Asks key) (both_know KnowsOrders (KnowsDue key))
      (over KnowsOrders (Allows may_wake) (Asks key) (KnowsDue key) c.hosts_keep_what_is_said.ensures.walk (due_walk laws key)) [] run.2
      ((c.hosts_know_what_nodes_list.ensures.first (keys_of key), tt), record { same = refl; have = tt; reasoned = first_is (IsHeardOf key []) (keys_of key) })).0

pub returns-clause-told : goal.returns-clause-told
returns-clause-told c = λ key told run. sends c key told run

pub returns-clause-heard : goal.returns-clause-heard
returns-clause-heard c = λ key devices lines are.
    let past = transcript_of (first_machine (keys_of key) (Some []) devices) lines in
    sends c key _ (c.what_is_heard_is_a_hosts.ensures.told (first_alone (keys_of key) (Some [])) past (c.lines_are_a_hosts.ensures.told (keys_of key) devices lines are))
