-- A place of the code as a place in a body.
use Rattle.chip_functions.specs.declared.place.Place.{Place as Here}
use Rattle.chip_functions.specs.Place.{Place}

-- the same, without where the bytes lie in memory
abbrev pub place_of : Here → Place
place_of here = record { before = here.before; rest = here.rest.now }
