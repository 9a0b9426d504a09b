-- The order of the keys is total, and keys that tie are one.
use Rattle.std.proofs.Common.{◌≡◌, ℕ, List, drop, sym, ap, ◌∙◌}
use Rattle.std.specs.declared.cmp.Ordering.TheVariants.{Equal}
use Rattle.std.specs.Cmp.{IsTotalOrder, IsEquivalence}
use Rattle.std.specs.Cmp.Lexicographic.{slice_cmp}
use Rattle.std.specs.Ordering.{nat_cmp}
use Rattle.std.specs.FinMap.{IsAntisymmetric, nat_cmp-IsAntisymmetric, slice_cmp-IsAntisymmetric}
use Rattle.std.proofs.lemmas.Cmp.{nat_list_cmp_total, on_total, eq_by_cmp_equiv}
use Rattle.zw_base.specs.PropertyOrder.{rank_of, same_property}
use Rattle.zw_base.specs.declared.property.Name.{Name}
use Rattle.zw_base.specs.declared.property.Property.{Property}
use Rattle.value_store.specs.Values.{Key, key_cmp, key_rank, name_from, name_from-rank, number_at}

pub key_total : IsTotalOrder key_cmp
unfolding key_cmp
key_total = on_total key_rank nat_list_cmp_total

-- the property that has this rank
property_from : List ℕ → Property
property_from numbers = record { end = number_at numbers 0; name = name_from (drop 1 numbers) }

property_from-rank : (property : Property) → property_from (rank_of property) ≡ property
unfolding property_from
property_from-rank property = ap (λ (name : Name). record { end = property.end; name = name }) (name_from-rank property.name)

-- the key that has this rank
key_from : List ℕ → Key
key_from numbers = (number_at numbers 0, property_from (drop 1 numbers))

key_from-rank : (key : Key) → key_from (key_rank key) ≡ key
unfolding key_from
key_from-rank key = ap (λ (property : Property). (key.0, property)) (property_from-rank key.1)

pub key_exact : IsAntisymmetric key_cmp
unfolding key_cmp
key_exact first second tie =
    sym (key_from-rank first)
    ∙ ap key_from (slice_cmp-IsAntisymmetric nat_cmp-IsAntisymmetric (key_rank first) (key_rank second) tie)
    ∙ key_from-rank second

pub same_property_laws : IsEquivalence same_property
same_property_laws = eq_by_cmp_equiv (on_total rank_of nat_list_cmp_total)

pub property_exact : (first second : Property) → slice_cmp nat_cmp (rank_of first) (rank_of second) ≡ Equal → first ≡ second
property_exact first second tie =
    sym (property_from-rank first)
    ∙ ap property_from (slice_cmp-IsAntisymmetric nat_cmp-IsAntisymmetric (rank_of first) (rank_of second) tie)
    ∙ property_from-rank second
