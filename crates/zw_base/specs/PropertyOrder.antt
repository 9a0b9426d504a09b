-- The order of properties (this project's own rule): by end point, then by name, then by the numbers in the name.
use Rattle.std.specs.Prelude.{ℕ, List, [], ◌∷◌, Bool}
use Rattle.std.specs.Ordering.{nat_cmp, is_eq}
use Rattle.std.specs.Cmp.Lexicographic.{slice_cmp}
use Rattle.zw_base.specs.declared.property.Name.{Name}
use Rattle.zw_base.specs.declared.property.Name.TheVariants.{Switch, Level, Lock, Mode, Setpoint, Config, Member, Interval, Sensor, Battery}
use Rattle.zw_base.specs.declared.property.Property.{Property}

-- the place of a name among the names, then its numbers
abbrev pub name_rank_of : Name → List ℕ
name_rank_of Switch = 0 ∷ []
name_rank_of Level = 1 ∷ []
name_rank_of Lock = 2 ∷ []
name_rank_of Mode = 3 ∷ []
name_rank_of (Setpoint type) = 4 ∷ type ∷ []
name_rank_of (Config parameter) = 5 ∷ parameter ∷ []
name_rank_of (Member group member) = 6 ∷ group ∷ member ∷ []
name_rank_of Interval = 7 ∷ []
name_rank_of Sensor = 8 ∷ []
name_rank_of Battery = 9 ∷ []

-- what decides between two properties: the first number that differs
abbrev pub rank_of : Property → List ℕ
rank_of property = property.end ∷ name_rank_of property.name

-- whether two properties are the same one
abbrev pub same_property : Property → Property → Bool
same_property first second = is_eq (slice_cmp nat_cmp (rank_of first) (rank_of second))
