-- The ends of a part of an attempt, as the calls tell them apart.
use Rattle.host_model.specs.Ends.{PartEnd, Good as good_end, Passed_over as passed_over, Bad as bad_end}
use Rattle.host_parts.specs.declared.ends.Part.{Part}
use Rattle.host_parts.specs.declared.ends.Part.TheVariants.{Good, PassedOver, Bad}

abbrev pub part_as : Part → PartEnd
part_as Good = good_end
part_as PassedOver = passed_over
part_as Bad = bad_end
