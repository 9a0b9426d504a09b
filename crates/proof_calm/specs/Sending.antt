-- What the chip sends while the serial line rests (this project's own rule): nothing, or one payload whose one call is to come.
use Rattle.std.specs.Prelude.{◌≡◌, ◌⊎◌, true, false, List, [], ◌∷◌}
use Rattle.std.specs.Option.{is_some}
use Rattle.serial_frame.specs.declared.item.Item.{Item}
use Rattle.air_frames.specs.History.{Mark}
use Rattle.outside_model.specs.declared.waits.Call.{Call}
use Rattle.outside_model.specs.State.{OuterState}
use Rattle.world_model.specs.State.{Machine}
use Rattle.proof_waking.specs.proof_traffic.Requests.{Traffic}
use Rattle.proof_waking.specs.proof_traffic.Facts.{one_if}
use Rattle.proof_waking.specs.proof_traffic.OutsideTraffic.{of_frame, no_routes_due, one_unless}
use Rattle.proof_waking.specs.proof_traffic.OnAir.{hosts_on_air}
use Rattle.proof_waking.specs.proof_traffic.Course.{Follows}

-- no call is to come, no frame of the host is on the air, and no result without a route is due
pub record SendsNothing (o : OuterState) : Type 0 where
  pub not_sending : is_some o.chip.state.sending ≡ false
  pub no_call : o.calls ≡ []
  pub none_flies : hosts_on_air o ≡ 0
  pub none_due : no_routes_due o.due ≡ 0

-- the call is for the host's only frame on the air; or the payload had no route, and that is due
pub record SendsOne (o : OuterState) : Type 0 where
  pub sending : is_some o.chip.state.sending ≡ true
  pub call : Call
  pub one_call : o.calls ≡ call ∷ []
  pub flies : hosts_on_air o ≡ one_if (of_frame call)
  pub due : no_routes_due o.due ≡ one_unless (of_frame call)

abbrev pub SendsFew : Machine → Type 0
SendsFew m = SendsNothing m.outside.outer ⊎ SendsOne m.outside.outer

-- a course of the host's requests is where the machine is
pub record IsFollowed (m : Machine) : Type 0 where
  pub course : Traffic
  pub log : List Mark
  pub up : List Item
  pub down : List Item
  pub follows : Follows course log up down m
