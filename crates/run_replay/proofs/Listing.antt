-- The final table, node by node.
use Rattle.std.proofs.Common.{◌≡◌, ℕ, ◌+◌, true, List, [], ◌++◌, ap, sym, ◌∙◌}
use Rattle.std.specs.Prelude.{Bool, if◌then◌else◌}
use Rattle.zw_text.specs.declared.entry.Entry.{Entry}
use Rattle.zw_text.specs.declared.entry.Entry.TheVariants.{TableEnd}
use Rattle.host_model.specs.State.{node_of}
use Rattle.run_replay.specs.Machine.{Lone}
use Rattle.run_replay.specs.Replay.{node_entries, table_entries}
use Rattle.run_replay.specs.Listing.{listed}
use Rattle.world_model.proofs.Listing.{listing, listing_more, listing_whole}

-- the clock, and the first nodes
abbrev pub table_to : Lone → ℕ → List Entry
table_to m k = listing (TableEnd m.clock) (listed m) k

pub node_more : (m : Lone) (k node : ℕ) (before some all : List Entry) → node ≡ k + 1 → some ≡ before ++ table_to m k → all ≡ some ++ listed m node → all ≡ before ++ table_to m (k + 1)
node_more m = listing_more (TableEnd m.clock) (listed m)

pub whole_table : (m : Lone) (k : ℕ) (before all : List Entry) → k ≡ 232 → all ≡ before ++ table_to m k → all ≡ before ++ table_entries m
whole_table m = listing_whole (TableEnd m.clock) (node_entries m) (λ n. (node_of m.host.state n).joined)

pub listed_joined : (m : Lone) (node : ℕ) (before all : List Entry) → (node_of m.host.state node).joined ≡ true → all ≡ before ++ node_entries m node → all ≡ before ++ listed m node
listed_joined m node before all joined is = is ∙ ap (λ (b : Bool). before ++ (if b then node_entries m node else [])) (sym joined)
