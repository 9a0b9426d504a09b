-- The written form of a message spells it.
use Rattle.std.proofs.Common.{[], arith}
use Rattle.class_core.specs.Ranges.{size_of, value_of}
use Rattle.class_core.specs.Cell.{HasAll}
use Rattle.class_core.proofs.WrittenLaws.{written_stand, has_number_last, has_numbers, has_nodes, has_default, has_scaled}
use Rattle.class_core.specs.declared.message.CoreMessage.{CoreMessage}
use Rattle.class_core.specs.declared.message.CoreMessage.TheVariants.{BasicSet, BasicGet, BasicReport, SwitchBinarySet, SwitchBinaryGet, SwitchBinaryReport, SwitchMultilevelSet, SwitchMultilevelGet, SwitchMultilevelReport, ThermostatModeSet, ThermostatModeGet, ThermostatModeReport, ThermostatSetpointSet, ThermostatSetpointGet, ThermostatSetpointReport, DoorLockOperationSet, DoorLockOperationGet, DoorLockOperationReport, ConfigurationSet, ConfigurationGet, ConfigurationReport, ConfigurationBulkSet, AssociationSet, AssociationRemove, WakeUpIntervalSet}
use Rattle.class_core.specs.Spelling.{cells, form, Spells, IsInRange}

pub has_all : (m : CoreMessage) → IsInRange m → HasAll (cells m)
has_all (BasicSet value) h = (tt, (tt, (tt, tt)))
has_all BasicGet h = (tt, (tt, tt))
has_all (BasicReport value) h = (tt, (tt, (tt, tt)))
has_all (SwitchBinarySet value) h = (tt, (tt, (tt, tt)))
has_all SwitchBinaryGet h = (tt, (tt, tt))
has_all (SwitchBinaryReport value) h = (tt, (tt, (tt, tt)))
has_all (SwitchMultilevelSet level) h = (tt, (tt, (h, tt)))
has_all SwitchMultilevelGet h = (tt, (tt, tt))
has_all (SwitchMultilevelReport level) h = (tt, (tt, (h, tt)))
has_all (ThermostatModeSet mode) h = (tt, (tt, ((omega arith, tt), tt)))
has_all ThermostatModeGet h = (tt, (tt, tt))
has_all (ThermostatModeReport mode) h = (tt, (tt, ((omega arith, tt), tt)))
has_all (ThermostatSetpointSet kind value) h = (tt, (tt, ((omega arith, tt), has_scaled value h.1)))
has_all (ThermostatSetpointGet kind) h = (tt, (tt, ((omega arith, tt), tt)))
has_all (ThermostatSetpointReport kind value) h = (tt, (tt, ((omega arith, tt), has_scaled value h.1)))
has_all (DoorLockOperationSet mode) h = (tt, (tt, (tt, tt)))
has_all DoorLockOperationGet h = (tt, (tt, tt))
has_all (DoorLockOperationReport mode levers condition minutes seconds) h = (tt, (tt, (tt, (tt, (tt, (tt, (tt, tt)))))))
has_all (ConfigurationSet parameter default value) h = (tt, (tt, (tt, (has_default default (size_of value), has_number_last (size_of value) (value_of value)))))
has_all (ConfigurationGet parameter) h = (tt, (tt, (tt, tt)))
has_all (ConfigurationReport parameter value) h = (tt, (tt, (tt, (tt, has_number_last (size_of value) (value_of value)))))
has_all (ConfigurationBulkSet offset default values) h = (tt, (tt, (tt, (tt, (tt, (has_default default values.size, has_numbers values.size values.items))))))
has_all (AssociationSet group members) h = (tt, (tt, (tt, has_nodes members h)))
has_all (AssociationRemove group members) h = (tt, (tt, (tt, has_nodes members h)))
has_all (WakeUpIntervalSet seconds target) h = (tt, (tt, (tt, (tt, (tt, (h, tt))))))

pub form_spells : (m : CoreMessage) → IsInRange m → Spells m (form m)
form_spells m h = written_stand (cells m) [] (has_all m h)
