-- What the fields of a host say.
use Rattle.host_model.specs.State.{HostState, HostParts}
use Rattle.host_step.specs.declared.host.HostCore.TheInside.{Inside}

abbrev pub state_of : Inside → HostState
state_of c = record {
  keys = c.keys;
  side = c.link.side;
  requests = c.requests;
  served = c.served;
  nodes = c.nodes;
  commands = c.commands.items;
  nonces = c.nonces;
  store = c.store;
}

abbrev pub parts_of : Inside → HostParts
parts_of c = record { decoder = c.link.decoder; state = state_of c }
