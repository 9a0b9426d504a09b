-- The written form of a message spells it.
use Rattle.std.proofs.Common.{ℕ, ◌<◌, Bool, true, false, [], ◌∷◌, arith}
use Rattle.class_core.specs.Cell.{HasAll, HasParts, byte_of}
use Rattle.class_core.specs.Fields.{part, flag}
use Rattle.class_core.proofs.WrittenLaws.{written_stand, has_nodes, has_scaled}
use Rattle.class_core.proofs.FormLaws.{has_all as core_has_all}
use Rattle.class_info.specs.declared.message.InfoMessage.{InfoMessage}
use Rattle.class_info.specs.declared.message.InfoMessage.TheVariants.{Core, SensorBinaryGet, SensorBinaryReport, SensorMultilevelGet, SensorMultilevelReport, NotificationReport, ManufacturerSpecificGet, ManufacturerSpecificReport, BatteryGet, BatteryReport, WakeUpIntervalGet, WakeUpIntervalReport, WakeUpNotification, WakeUpNoMoreInformation, AssociationGet, AssociationReport, AssociationGroupingsGet, AssociationGroupingsReport, VersionGet, VersionReport, VersionClassGet, VersionClassReport, SupervisionReport, NonceGet, NonceReport, TransportRequest, TransportComplete, TransportWait}
use Rattle.class_info.specs.InfoSpelling.{cells, form, Spells, HasLength, IsInRange}
use Rattle.class_info.proofs.OwnLaws.{has_wholes}

has_flags : (more wake_request : Bool) (session : ℕ) → session < 64
    → HasParts (part 7 1 (flag more) ∷ part 6 1 (flag wake_request) ∷ part 0 6 session ∷ []) (byte_of (part 7 1 (flag more) ∷ part 6 1 (flag wake_request) ∷ part 0 6 session ∷ []))
has_flags true true session lt = (omega arith, (omega arith, (omega arith, tt)))
has_flags true false session lt = (omega arith, (omega arith, (omega arith, tt)))
has_flags false true session lt = (omega arith, (omega arith, (omega arith, tt)))
has_flags false false session lt = (omega arith, (omega arith, (omega arith, tt)))

has_all : (m : InfoMessage) → IsInRange m → HasAll (cells m)
has_all (Core m) h = core_has_all m h
has_all SensorBinaryGet h = (tt, (tt, tt))
has_all (SensorBinaryReport value) h = (tt, (tt, (tt, tt)))
has_all SensorMultilevelGet h = (tt, (tt, tt))
has_all (SensorMultilevelReport kind value) h = (tt, (tt, (tt, has_scaled value h)))
has_all (NotificationReport kind level) h = (tt, (tt, (tt, (tt, tt))))
has_all ManufacturerSpecificGet h = (tt, (tt, tt))
has_all (ManufacturerSpecificReport a b c) h = (tt, (tt, (tt, (tt, (tt, (tt, (tt, (tt, tt))))))))
has_all BatteryGet h = (tt, (tt, tt))
has_all (BatteryReport level) h = (tt, (tt, (h, tt)))
has_all WakeUpIntervalGet h = (tt, (tt, tt))
has_all (WakeUpIntervalReport seconds target) h = (tt, (tt, (tt, (tt, (tt, (h, tt))))))
has_all WakeUpNotification h = (tt, (tt, tt))
has_all WakeUpNoMoreInformation h = (tt, (tt, tt))
has_all (AssociationGet group) h = (tt, (tt, (tt, tt)))
has_all (AssociationReport group most following members) h = (tt, (tt, (tt, (tt, (tt, has_nodes members h)))))
has_all AssociationGroupingsGet h = (tt, (tt, tt))
has_all (AssociationGroupingsReport groups) h = (tt, (tt, (tt, tt)))
has_all VersionGet h = (tt, (tt, tt))
has_all (VersionReport a b c d f) h = (tt, (tt, (tt, (tt, (tt, (tt, (tt, tt)))))))
has_all (VersionClassGet class) h = (tt, (tt, (tt, tt)))
has_all (VersionClassReport class version) h = (tt, (tt, (tt, (tt, tt))))
has_all (SupervisionReport more wake_request session status duration) h = (tt, (tt, (has_flags more wake_request session h, (tt, (tt, tt)))))
has_all NonceGet h = (tt, (tt, tt))
has_all (NonceReport nonce) h = (tt, (tt, has_wholes nonce))
has_all (TransportRequest session offset) h = (tt, (tt, ((omega arith, (omega arith, tt)), (tt, tt))))
has_all (TransportComplete session) h = (tt, (tt, ((omega arith, tt), tt)))
has_all (TransportWait pending) h = (tt, (tt, (tt, tt)))

has_length : (m : InfoMessage) → IsInRange m → HasLength m
has_length (NonceReport nonce) h = h
has_length (Core m) h = tt
has_length SensorBinaryGet h = tt
has_length (SensorBinaryReport a) h = tt
has_length SensorMultilevelGet h = tt
has_length (SensorMultilevelReport a b) h = tt
has_length (NotificationReport a b) h = tt
has_length ManufacturerSpecificGet h = tt
has_length (ManufacturerSpecificReport a b c) h = tt
has_length BatteryGet h = tt
has_length (BatteryReport a) h = tt
has_length WakeUpIntervalGet h = tt
has_length (WakeUpIntervalReport a b) h = tt
has_length WakeUpNotification h = tt
has_length WakeUpNoMoreInformation h = tt
has_length (AssociationGet a) h = tt
has_length (AssociationReport a b c d) h = tt
has_length AssociationGroupingsGet h = tt
has_length (AssociationGroupingsReport a) h = tt
has_length VersionGet h = tt
has_length (VersionReport a b c d f) h = tt
has_length (VersionClassGet a) h = tt
has_length (VersionClassReport a b) h = tt
has_length (SupervisionReport a b c d f) h = tt
has_length NonceGet h = tt
has_length (TransportRequest a b) h = tt
has_length (TransportComplete a) h = tt
has_length (TransportWait a) h = tt

pub form_spells : (m : InfoMessage) → IsInRange m → Spells m (form m)
form_spells m h = (has_length m h, written_stand (cells m) [] (has_all m h))
