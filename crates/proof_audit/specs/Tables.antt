-- What a transcript shows of confirmed values and of the table at its end, besides the laws of values, where it keeps the rules of both (this project's own rule).
use Rattle.law_transcript.specs.Nodes.{always}
use Rattle.std.specs.Prelude.{◌≡◌, ℕ, List, [], ◌∷◌, ◌++◌, drop, ⊤}
use Rattle.std.specs.List.{flat_map}
use Rattle.zw_text.specs.declared.entry.Ended.TheVariants.{Success}
use Rattle.zw_text.specs.declared.entry.Entry.{Entry}
use Rattle.zw_text.specs.declared.entry.Entry.TheVariants.{Out, Store, Device, TableEnd, TableNode, TableValue}
use Rattle.zw_text.specs.Transcript.{shown}
use Rattle.law_transcript.specs.Lists.{EachAfter}
use Rattle.law_transcript.specs.Stores.{node_at, stores_of}

-- ---- confirmed values

-- the values that are still to stand directly after an entry
abbrev pub to_store_step : (ℕ → List ℕ) → List Entry → List Entry → Entry → List Entry
to_store_step listing past due (Out command Success) = flat_map (stores_of (always listing) past command) (shown (node_at command) past)
to_store_step listing past due (Store node setting) = drop 1 due
to_store_step listing past due _ = []

abbrev pub to_store_from : (ℕ → List ℕ) → List Entry → List Entry → List Entry → List Entry
to_store_from listing due past [] = due
to_store_from listing due past (entry ∷ rest) = to_store_from listing (to_store_step listing past due entry) (past ++ (entry ∷ [])) rest

abbrev pub to_store : (ℕ → List ℕ) → List Entry → List Entry
to_store listing past = to_store_from listing [] [] past

-- the next of them stands, and where there is none no value is entered as confirmed
abbrev pub IsToStore : List Entry → Entry → Type 0
IsToStore (due ∷ more) entry = entry ≡ due
IsToStore [] (Store node setting) = ⊥
IsToStore [] entry = ⊤

-- directly after a success stand the values that its command asks for, all of them, and nowhere else does one
pub record StoresDirectly (listing : ℕ → List ℕ) (transcript : List Entry) : Type 0 where
  pub each : EachAfter (λ past entry. IsToStore (to_store listing past) entry) [] transcript
  pub in_the_end : to_store listing transcript ≡ []

-- ---- the table

-- a line of the table
abbrev pub IsOfTable : Entry → Type 0
IsOfTable (TableEnd ticks) = ⊤
IsOfTable (TableNode node sessions) = ⊤
IsOfTable (TableValue node property confirmed heard) = ⊤
IsOfTable (Device node setting) = ⊤
IsOfTable _ = ⊥

-- the table has not begun
abbrev pub IsNoEnd : Entry → Type 0
IsNoEnd (TableEnd ticks) = ⊥
IsNoEnd _ = ⊤
