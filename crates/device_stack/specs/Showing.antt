-- What is shown of a device (this project's own rule).
use Rattle.std.specs.Prelude.{◌==◌, ◌||◌, not, if◌then◌else◌, List, Option, Some, None}
use Rattle.std.specs.List.{range_with_len, filter_map}
use Rattle.zw_base.specs.PropertyOrder.{same_property}
use Rattle.zw_base.specs.declared.property.Property.{Property}
use Rattle.zw_base.specs.declared.property.Setting.{Setting}
use Rattle.device_kinds.specs.Kind.{main_property_of, property_count, property_at}
use Rattle.device_stack.specs.State.{State, value_of}

-- a property with its value, if it is the main one or is not 0
abbrev pub shown_at : State → Property → Option Setting
shown_at device property =
    if same_property property (main_property_of device.kind) || not (value_of device property == 0)
    then Some (record { property = property; value = value_of device property }) else None

-- the main property and the others that are not 0, in the order of properties
unfoldable pub shown_of : State → List Setting
shown_of device = filter_map (λ at. shown_at device (property_at device.kind at)) (range_with_len 0 (property_count device.kind))
