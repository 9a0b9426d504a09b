use Rattle.std.proofs.Common.{◌≡◌, ℕ, false, ◌∙◌, sym, ap, get_or}
use Rattle.std.proofs.lemmas.Bool.{both_ways as both}
use Rattle.route_table.specs.RouteTable.{nobody, hears}
use Rattle.route_table.specs.NodeSet.{has}
use Rattle.route_table.proofs.Tables.{blank_rows, links_of-blank, nodes_of-blank}
use Rattle.route_table.proofs.table.RouteTable.new.Goals as goal

blank : (c : goal.After-new-2) → (a b : ℕ) → hears c.repeat.result a b ≡ false
blank c = blank_rows c.repeat.result 233 c.repeat.ensures.items.long (λ i row q. let same : get_or c.repeat.result i nobody ≡ c.new.result = c.repeat.ensures.items.at i nobody row in ap (λ s. has s q) same ∙ c.new.ensures q)

pub invariant_of-result : goal.invariant_of-result
invariant_of-result c = record {
  both_ways = λ a b. blank c a b ∙ sym (blank c b a);
  not_itself = λ a. blank c a a;
  nodes = λ n is. absurd (both _ (c.new-2.ensures n) is);
}

pub returns : goal.returns
returns c =
    let links = links_of-blank _ (blank c) in
    let nodes = nodes_of-blank _ c.new-2.ensures in
    λ i. record { links = links i; repeaters = nodes i }
