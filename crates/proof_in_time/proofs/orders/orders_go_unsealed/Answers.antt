-- What is known of the events of lines, from the first machine on, in which no command was accepted.
use Rattle.std.proofs.Common.{◌≡◌, ℕ, Bool, true, false, List, [], Option, Some, refl, sym, subst}
use Rattle.std.specs.List.{AllByRecursion}
use Rattle.zw_base.proofs.Each.{all-weaker}
use Rattle.zw_base.specs.declared.order.Order.{Order}
use Rattle.zw_text.specs.declared.line.Line.{Line}
use Rattle.s0_crypto.specs.declared.key_pair.Keys.{Keys}
use Rattle.law_transcript.specs.Nodes.{listing_of}
use Rattle.chip_sim.specs.Nodes.{is_marked}
use Rattle.device_sim.specs.State.{State}
use Rattle.host_orders.specs.declared.carriage.Carriage.{Carriage}
use Rattle.host_model.specs.Taking.{is_secure}
use Rattle.world_model.specs.Events.{Event}
use Rattle.world_model.specs.State.{Machine, first_machine}
use Rattle.world_lines.specs.Done.{AreDone, IsRead, events_of}
use Rattle.world_lines.specs.Spoken.{Spoken, after_all}
use Rattle.proof_course_plain.specs.World.{ComesOfLine, NamesEnd, OrdersPlain}
use Rattle.proof_course_plain.proofs.HeardPayloads.{lines_end}
use Rattle.proof_spoken.proofs.SpokenLines.{all_after, all_lines, all_may, all_read, lines_of}
use Rattle.proof_in_time.specs.Coming.{GoesWhole, is_layered}
use Rattle.proof_in_time.specs.Openly.{GoesOpenly}
use Rattle.proof_in_time.proofs.Commands.{AllGo, AreNearAt}
use Rattle.proof_in_time.proofs.GoingWhole.{IsAnything, Rule, all_go, comes_near, none_go, rule_openly, rule_whole}
use Rattle.proof_in_time.proofs.orders.orders_go_unsealed.Goals as goal

module _ (c : goal.After-the_machine_keeps_facts) where
  -- by what the devices of these nodes do not list
  lines_go : (Goes : Order → Carriage → Type 0) (listed : Option (List ℕ) → Bool) → Rule Goes listed → (these : List Bool) (keys : Keys) (devices : List State) (lines : List Spoken)
      → ((n : ℕ) → is_marked these n ≡ true → listed (Some (listing_of devices n)) ≡ false) → AreDone (first_machine keys (Some []) devices) lines
      → AllGo Goes these (after_all (first_machine keys (Some []) devices) lines).host.state.commands × ((n : ℕ) → is_marked these n ≡ true → AllByRecursion (OrdersPlain n) (events_of lines))
  lines_go Goes listed rule these keys devices lines openly are =
      let m : Machine = first_machine keys (Some []) devices in
      let events : List Event = events_of lines in
      let said : List Line = lines_of lines in
      let listing : ℕ → List ℕ = listing_of devices in
      let whole = all_lines m lines are in
      let may = all_may m lines are in
      let well = c.lines_keep_and_ask_well.ensures keys devices said events whole may in
      let starts =
      (c.restarts_go_on.ensures.all [] m events (c.the_machine_keeps_facts.ensures.first keys (Some []) devices) (c.restarts_go_on.ensures.first keys (Some []) refl) may well.0).0 in
      let tells = c.interviews_tell_what_nodes_list.ensures.tell keys devices said events whole may in
      let names = all-weaker IsRead NamesEnd (λ line read. c.lines_ask_plainly.ensures.text read.0 line read.1) said (all_read m lines are) in
      let comes = lines_end (Unit {0}) IsAnything (λ classes word. tt) (λ classes end near. tt) 0 said (λ near. names) m events whole in
      let near = all-weaker (ComesOfLine (Unit {0}) IsAnything 0) (AreNearAt these) (comes_near these) events comes in
      let both = all_go Goes listed rule these listing (c.interviews_give_what_is_known.ensures.each listing) openly [] m events may starts tells near (c.interviews_give_what_is_known.ensures.first listing keys) (none_go Goes these) in
      (subst (λ (k : Machine). AllGo Goes these k.host.state.commands) (sym (all_after m lines)) both.0, both.1)

pub returns-clause-whole : goal.returns-clause-whole
returns-clause-whole c = λ these keys devices lines openly are. lines_go c GoesWhole is_layered rule_whole these keys devices lines openly are

pub returns-clause-openly : goal.returns-clause-openly
returns-clause-openly c = λ these keys devices lines unsealed are. lines_go c GoesOpenly is_secure rule_openly these keys devices lines unsealed are
