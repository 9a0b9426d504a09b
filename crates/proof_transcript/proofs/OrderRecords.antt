-- The orders that the records give are those that the transcript shows to be accepted, in the same order.
use Rattle.std.proofs.Common.{◌≡◌, ℕ, zero, suc, ◌+◌, List, [], ◌∷◌, ◌++◌, length, map, Option, Some, None, refl, sym, ap, ap₂, ◌∙◌, append_assoc, length-append, arith}
use Rattle.std.specs.Prelude.{slice_get}
use Rattle.std.specs.List.{flat_map}
use Rattle.zw_base.specs.declared.order.Order.{Order}
use Rattle.zw_text.specs.declared.entry.Entry.{Entry}
use Rattle.zw_text.specs.declared.entry.Entry.TheVariants as entry
use Rattle.zw_text.specs.Transcript.{accepted_number, accepted_numbers, line_last}
use Rattle.zw_text.proofs.Views.{shown-append}
use Rattle.zw_text.specs.declared.line.Line.{Line}
use Rattle.law_host.specs.law_transcript.Lists.{EachAfter, shown_after}
use Rattle.law_host.specs.law_transcript.Records.{accepted_order, order_at, orders_accepted}
use Rattle.host_keep.specs.Kept.{Taken}
use Rattle.proof_air.specs.host_model.State.{Command}
use Rattle.proof_air.specs.host_model.Holding.{taken_as}
use Rattle.proof_air.specs.proof_host.Laws.{MayAccept}
use Rattle.proof_air.specs.proof_host.Tables.{taken_at, taken_by}
use Rattle.proof_spoken.specs.Said.{AreSaid, MayAnswer}

-- the order that was taken, where one was
abbrev order_taken : Option Taken → List Order
order_taken None = []
order_taken (Some taken) = taken.order ∷ []

abbrev orders_taken : List Command → List ℕ → List Order
orders_taken commands numbers = flat_map (λ number. order_taken (taken_at commands number)) numbers

-- so many numbers after this one
abbrev following : ℕ → ℕ → List ℕ
following number zero = []
following number (suc count) = suc number ∷ following (suc number) count

-- ---- what was said is what the table has

said_orders : (listing : List Entry → ℕ → List ℕ) (commands : List Command) (past rest : List Entry) → EachAfter (MayAnswer listing commands) past rest
    → shown_after accepted_order past rest ≡ orders_taken commands (accepted_numbers rest)
said_orders listing commands past [] said = refl
said_orders listing commands past (entry.Accepted command node ∷ rest) said =
    let asked : flat_map order_at (line_last past) ≡ said.0.order ∷ [] = ap (λ (l : List Line). flat_map order_at l) said.0.said in
    let taken : order_taken (taken_at commands command) ≡ said.0.order ∷ [] = ap (λ (o : Option Taken). order_taken o) said.0.taken in
    ap₂ (λ (a b : List Order). a ++ b) (asked ∙ sym taken) (said_orders listing commands (past ++ entry.Accepted command node ∷ []) rest said.1)
said_orders listing commands past (e ∷ rest) said = said_orders listing commands (past ++ e ∷ []) rest said.1

-- ---- commands are numbered from 1

one_more : (past : List Entry) (command node : ℕ) → length (accepted_numbers (past ++ entry.Accepted command node ∷ [])) ≡ suc (length (accepted_numbers past))
one_more past command node =
    let both : length (accepted_numbers (past ++ entry.Accepted command node ∷ [])) ≡ length (accepted_numbers past) + 1 =
    ap (λ (l : List ℕ). length l) (shown-append accepted_number past (entry.Accepted command node ∷ [])) ∙ length-append (accepted_numbers past) (command ∷ []) in
    omega (arith, both)

next_number : (command count : ℕ) → command ≡ count + 1 → command ≡ suc count
next_number command count is = omega (arith, is)

unnumbered : (past : List Entry) (e : Entry) → accepted_number e ≡ [] → length (accepted_numbers (past ++ e ∷ [])) ≡ length (accepted_numbers past)
unnumbered past e none =
    let both : length (accepted_numbers (past ++ e ∷ [])) ≡ length (accepted_numbers past) + length (accepted_numbers (e ∷ [])) =
    ap (λ (l : List ℕ). length l) (shown-append accepted_number past (e ∷ [])) ∙ length-append (accepted_numbers past) (accepted_numbers (e ∷ [])) in
    let nothing : length (accepted_numbers (e ∷ [])) ≡ 0 = ap (λ (l : List ℕ). length (l ++ [])) none in
    omega (arith, both, nothing)

numbered : (past rest : List Entry) → EachAfter MayAccept past rest → accepted_numbers rest ≡ following (length (accepted_numbers past)) (length (accepted_numbers rest))
numbered past [] all = refl
numbered past (entry.Accepted command node ∷ rest) all =
    ap₂ (λ (a : ℕ) (b : List ℕ). a ∷ b) (next_number command (length (accepted_numbers past)) all.0)
    (numbered (past ++ entry.Accepted command node ∷ []) rest all.1 ∙ ap (λ (n : ℕ). following n (length (accepted_numbers rest))) (one_more past command node))
numbered past (e ∷ rest) all =
    numbered (past ++ e ∷ []) rest all.1 ∙ ap (λ (n : ℕ). following n (length (accepted_numbers rest))) (unnumbered past e refl)

-- ---- and the table has them by their places

got_at : (before rest : List Command) (command : Command) → slice_get (before ++ command ∷ rest) (length before) ≡ Some command
got_at [] rest command = refl
got_at (first ∷ before) rest command = got_at before rest command

in_order : (commands before rest : List Command) → commands ≡ before ++ rest → orders_taken commands (following (length before) (length rest)) ≡ map (λ (taken : Taken). taken.order) (map taken_as rest)
in_order commands before [] are = refl
in_order commands before (command ∷ rest) are =
    let found : taken_at commands (suc (length before)) ≡ Some (taken_as command) =
    ap (λ (o : Option Command). taken_by o) (ap (λ (l : List Command). slice_get l (length before)) are ∙ got_at before rest command) in
    let longer : length (before ++ command ∷ []) ≡ suc (length before) = let l = length-append before (command ∷ []) in omega (arith, l) in
    ap₂ (λ (a b : List Order). a ++ b) (ap (λ (o : Option Taken). order_taken o) found)
    (ap (λ (n : ℕ). orders_taken commands (following n (length rest))) (sym longer)
    ∙ in_order commands (before ++ command ∷ []) rest (are ∙ sym (append_assoc before (command ∷ []) rest)))

pub orders_are : (listing : List Entry → ℕ → List ℕ) (commands : List Command) (past : List Entry) → AreSaid listing commands past → EachAfter MayAccept [] past
    → length (accepted_numbers past) ≡ length commands → map (λ (taken : Taken). taken.order) (map taken_as commands) ≡ orders_accepted past
orders_are listing commands past said numbers count =
    sym (said_orders listing commands [] past said
    ∙ (ap (λ (l : List ℕ). orders_taken commands l) (numbered [] past numbers ∙ ap (λ (n : ℕ). following 0 n) count) ∙ in_order commands [] commands refl))
