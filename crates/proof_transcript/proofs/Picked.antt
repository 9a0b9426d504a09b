-- Items picked of a list in order, and what entries show of what was sent and asked for.
use Rattle.std.proofs.Common.{◌≡◌, ◌≢◌, Bool, if◌then◌else◌, List, [], ◌∷◌, ◌++◌, refl, sym, ap, ap₂, subst, ◌∙◌, append_assoc, append-nil}
use Rattle.std.proofs.lemmas.Bool.{ne_eqb}
use Rattle.std.proofs.lemmas.Grind.{flat_map-append}
use Rattle.std.specs.List.{flat_map, AllByRecursion}
use Rattle.zw_words.specs.declared.side.Side.{Side}
use Rattle.zw_words.specs.declared.side.Side.TheVariants.{Host as by_host, Chip as by_chip}
use Rattle.zw_text.specs.declared.entry.Entry.{Entry}
use Rattle.zw_text.specs.declared.entry.Entry.TheVariants as entry
use Rattle.zw_text.specs.Transcript.{AirFrame, Unit_on, folded, frame_at, frames, unit_step, units}
use Rattle.zw_text.proofs.Views.{folded-append, shown-append}
use Rattle.law_host.specs.law_transcript.Lists.{EachAfter}
use Rattle.law_host.specs.law_transcript.Nodes.{controller}
use Rattle.law_host.specs.law_transcript.Units.{Carried, arrived_of}
use Rattle.law_host.specs.law_transcript.Carrying.{ArePicked, MaySend, asked, asked_by, asked_in, outward, sent_out}
use Rattle.proof_air.proofs.Picked.{picked_of, picked_both, picked_prefix, picked_same}

-- ---- items of a list, in order

-- ---- entries

abbrev IsOfChip : Side → Type 0
IsOfChip by_host = ⊥
IsOfChip by_chip = Unit {0}

-- no unit of the host, and nothing of what became of one
abbrev pub IsNoUnit : Entry → Type 0
IsNoUnit (entry.Written side unit) = IsOfChip side
IsNoUnit (entry.Dropped side) = IsOfChip side
IsNoUnit (entry.Garbled side unit) = IsOfChip side
IsNoUnit (entry.Overrun side) = IsOfChip side
IsNoUnit _ = Unit {0}

-- no frame of the controller
abbrev pub IsNoFrame : Entry → Type 0
IsNoFrame (entry.Air frame sender receiver repeaters payload) = sender ≢ controller
IsNoFrame _ = Unit {0}

-- neither
abbrev pub IsQuiet : Entry → Type 0
IsQuiet (entry.Air frame sender receiver repeaters payload) = sender ≢ controller
IsQuiet e = IsNoUnit e

abbrev pub AreQuiet : List Entry → Type 0
AreQuiet told = AllByRecursion IsQuiet told

pub quiet_no_unit : (e : Entry) → IsQuiet e → IsNoUnit e
quiet_no_unit (entry.Air frame sender receiver repeaters payload) quiet = tt
quiet_no_unit e quiet = quiet

pub quiet_no_frame : (e : Entry) → IsQuiet e → IsNoFrame e
quiet_no_frame (entry.Air frame sender receiver repeaters payload) quiet = quiet
quiet_no_frame e quiet = tt

-- ---- what they show of what was sent

pub sent-append : (past told : List Entry) → sent_out (past ++ told) ≡ sent_out past ++ sent_out told
sent-append past told = ap (λ (l : List AirFrame). flat_map outward l) (shown-append frame_at past told) ∙ flat_map-append outward (frames past) (frames told)

one_none : (e : Entry) → IsNoFrame e → sent_out (e ∷ []) ≡ []
one_none (entry.Air frame sender receiver repeaters payload) none =
    ap (λ (b : Bool). if◌then◌else◌ {A = List Carried} b (record { node = receiver; payload = payload } ∷ []) [] ++ []) (ne_eqb sender controller none)
one_none e none = refl

pub none_sent : (told : List Entry) → AllByRecursion IsNoFrame told → sent_out told ≡ []
none_sent [] none = refl
none_sent (e ∷ told) none = sent-append (e ∷ []) told ∙ ap₂ (λ (a b : List Carried). a ++ b) (one_none e none.0) (none_sent told none.1)

pub same_sent : (past told : List Entry) → AllByRecursion IsNoFrame told → sent_out (past ++ told) ≡ sent_out past
same_sent past told none = sent-append past told ∙ (ap (λ (l : List Carried). sent_out past ++ l) (none_sent told none) ∙ append-nil (sent_out past))

-- ---- and of what was asked for

pub asked-append : (us vs : List Unit_on) → asked_in (us ++ vs) ≡ asked_in us ++ asked_in vs
asked-append us vs = flat_map-append (λ (u : Unit_on). flat_map asked_by (arrived_of u.bytes u.way)) us vs

unit_same : (e : Entry) → IsNoUnit e → (us : List Unit_on) → unit_step by_host us e ≡ us
unit_same (entry.Written by_host unit) none us = absurd none
unit_same (entry.Written by_chip unit) none us = refl
unit_same (entry.Dropped by_host) none us = absurd none
unit_same (entry.Dropped by_chip) none us = refl
unit_same (entry.Garbled by_host unit) none us = absurd none
unit_same (entry.Garbled by_chip unit) none us = refl
unit_same (entry.Overrun by_host) none us = absurd none
unit_same (entry.Overrun by_chip) none us = refl
unit_same e none us = refl

units_same : (told : List Entry) → AllByRecursion IsNoUnit told → (us : List Unit_on) → folded (unit_step by_host) us told ≡ us
units_same [] none us = refl
units_same (e ∷ told) none us = ap (λ (l : List Unit_on). folded (unit_step by_host) l told) (unit_same e none.0 us) ∙ units_same told none.1 us

pub same_asked : (past told : List Entry) → AllByRecursion IsNoUnit told → asked (past ++ told) ≡ asked past
same_asked past told none =
    ap (λ (l : List Unit_on). asked_in l) (folded-append (unit_step by_host) [] past told ∙ units_same told none (units by_host past))

-- ---- what may stand

may_send : (past : List Entry) (e : Entry) → ArePicked (sent_out (past ++ e ∷ [])) (asked past) → MaySend past e
may_send past (entry.Air frame sender receiver repeaters payload) picked = picked
may_send past e picked = tt

each_may : (past told : List Entry) (after : List Carried) → AllByRecursion IsNoUnit told → ArePicked (sent_out past ++ (sent_out told ++ after)) (asked past) → EachAfter MaySend past told
each_may past [] after none picked = tt
each_may past (e ∷ told) after none picked =
    let rest : List Carried = sent_out told ++ after in
    let here : ArePicked (sent_out (past ++ e ∷ []) ++ rest) (asked past)
    = subst (λ (l : List Carried). ArePicked l (asked past))
    (ap (λ (l : List Carried). sent_out past ++ (l ++ after)) (sent-append (e ∷ []) told)
    ∙ (ap (λ (l : List Carried). sent_out past ++ l) (append_assoc (sent_out (e ∷ [])) (sent_out told) after)
    ∙ (sym (append_assoc (sent_out past) (sent_out (e ∷ [])) rest) ∙ ap (λ (l : List Carried). l ++ rest) (sym (sent-append past (e ∷ [])))))) picked in (
      may_send past e (picked_prefix (sent_out (past ++ e ∷ [])) rest (asked past) here),
      each_may (past ++ e ∷ []) told after none.1
          (subst (λ (l : List Carried). ArePicked (sent_out (past ++ e ∷ []) ++ rest) l) (sym (same_asked past (e ∷ []) (none.0, tt))) here),
    )

-- Entries without units of the host: what they send is picked of what was on its way before, and what is left of that follows it.
pub told_goes : (past told : List Entry) (before after : List Carried) → AllByRecursion IsNoUnit told → ArePicked (sent_out told ++ after) before → ArePicked (sent_out past ++ before) (asked past)
    → EachAfter MaySend past told × ArePicked (sent_out (past ++ told) ++ after) (asked (past ++ told))
told_goes past told before after none fits picked =
    let all : ArePicked (sent_out past ++ (sent_out told ++ after)) (asked past)
    = picked_of (sent_out past ++ (sent_out told ++ after)) (sent_out past ++ before) (asked past)
    (picked_both (sent_out past) (sent_out told ++ after) (sent_out past) before (picked_same (sent_out past)) fits) picked in (
      each_may past told after none all,
      subst (λ (l : List Carried). ArePicked (sent_out (past ++ told) ++ after) l) (sym (same_asked past told none))
          (subst (λ (l : List Carried). ArePicked l (asked past))
          (sym (append_assoc (sent_out past) (sent_out told) after) ∙ ap (λ (l : List Carried). l ++ after) (sym (sent-append past told))) all),
    )
