-- A device that listens stays awake, and hears what is sent to it.
use Rattle.std.proofs.Common.{refl}
use Rattle.world_model.specs.Did.{happens_all}
use Rattle.proof_answered.proofs.Listeners.{all_stay, listener_hears}
use Rattle.law_time.proofs.Listening.{event_up}
use Rattle.proof_answered.proofs.listening.listeners_hear.Goals as goal

pub returns-clause-fresh : goal.returns-clause-fresh
returns-clause-fresh c = λ node kind key listening. record { is_listening = listening; awake = refl }

pub returns-clause-each : goal.returns-clause-each
returns-clause-each c = event_up

pub returns-clause-all : goal.returns-clause-all
returns-clause-all c = λ node m events is.
    let go = c.devices_go_on.ensures.all m events in
    all_stay node m.outside.devices (happens_all m events).outside.devices go (c.devices_stay_the_same.ensures.all m.outside.devices (happens_all m events).outside.devices go) is

pub returns-clause-heard : goal.returns-clause-heard
returns-clause-heard c = listener_hears
