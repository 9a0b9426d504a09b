-- What a host puts out begins no tick, and what is entered of it reports what was noted.
use Rattle.std.proofs.Common.{◌≡◌, ℕ, Bool, false, Option, Some, None, List, [], ◌∷◌, ◌++◌, map, refl, sym, ap, ap₂, subst, ◌∙◌, append-nil, true≢false}
use Rattle.zw_base.proofs.Each.{all-append}
use Rattle.zw_base.specs.declared.property.Setting.{Setting}
use Rattle.zw_text.specs.declared.entry.Entry.{Entry}
use Rattle.zw_text.specs.declared.entry.Entry.TheVariants.{Report}
use Rattle.zw_text.specs.Transcript.{reported, reported_at}
use Rattle.zw_text.proofs.Views.{shown-append}
use Rattle.zw_words.specs.declared.side.Side.TheVariants.{Host as by_host}
use Rattle.serial_frame.specs.declared.unit.Unit.{Unit as LineUnit}
use Rattle.proof_air.specs.host_model.declared.out.HostOut.{HostOut}
use Rattle.proof_air.specs.host_model.declared.out.HostOut.TheVariants.{Write, Note}
use Rattle.proof_air.specs.proof_host.Entries.{notes_of}
use Rattle.proof_air.specs.outside_model.State.{Outside, OuterState}
use Rattle.proof_air.specs.outside_model.Events.{Host_writes, Host_notes, Host_begins, entries as entries_outside, happens as happens_outside, outcome, stamp, ticked_entry}
use Rattle.proof_air.specs.outside_model.Did.{entries_all as entries_all_outside, happens_all as happens_all_outside}
use Rattle.proof_air.proofs.outside_model_EventLists.{entries_all-append, happens_all-append}
use Rattle.proof_air.specs.world_model.State.{begun_in, noted_by, routed}
use Rattle.proof_transcript.proofs.Outer.{IsPlain, ArePlain, entered_clock, stamp_plain, ticked_plain, told_plain}

-- ---- what is reported

one_reports_none : (refusals : Bool) (node : ℕ) (entry : Entry) → IsPlain refusals false entry → reported_at node entry ≡ []
one_reports_none refusals node (Report of setting) plain = absurd (true≢false (sym plain))
one_reports_none refusals node entry plain = refl

pub reports_none : (refusals : Bool) (node : ℕ) (es : List Entry) → ArePlain refusals false es → reported node es ≡ []
reports_none refusals node [] plain = refl
reports_none refusals node (entry ∷ es) plain =
    ap₂ (λ (a b : List Setting). a ++ b) (one_reports_none refusals node entry plain.0) (reports_none refusals node es plain.1)

-- the number of a tick reports nothing
stamp_reports : (node : ℕ) (o : OuterState) (es : List Entry) → reported node (stamp o es) ≡ reported node es
stamp_reports node o [] = refl
stamp_reports node o (entry ∷ es) =
    shown-append (reported_at node) (ticked_entry o) (entry ∷ es)
    ∙ ap (λ (l : List Setting). l ++ reported node (entry ∷ es)) (reports_none false node (ticked_entry o) (ticked_plain false false o))

-- ---- one note

noted_reports : (node : ℕ) (w : Outside) (begun : Option (ℕ × ℕ)) (entry : Entry) → reported node (entries_all_outside w (noted_by begun entry)) ≡ reported node (entry ∷ [])
unfolding outcome
noted_reports node w None entry =
    ap (λ (l : List Entry). reported node l) (append-nil (stamp w.outer (entry ∷ []))) ∙ stamp_reports node w.outer (entry ∷ [])
noted_reports node w (Some begun) entry =
    let later = happens_outside w (Host_begins begun.0 begun.1) in
    ap (λ (l : List Entry). reported node l) (append-nil (stamp later.outer (entry ∷ []))) ∙ stamp_reports node later.outer (entry ∷ [])

noted_plain : (refusals reports : Bool) (w : Outside) (begun : Option (ℕ × ℕ)) (entry : Entry) → IsPlain refusals reports entry → ArePlain refusals reports (entries_all_outside w (noted_by begun entry))
unfolding outcome
noted_plain refusals reports w None entry plain =
    all-append (IsPlain refusals reports) (stamp w.outer (entry ∷ [])) [] (stamp_plain refusals reports w.outer (entry ∷ []) (plain, tt)) tt
noted_plain refusals reports w (Some begun) entry plain =
    let later = happens_outside w (Host_begins begun.0 begun.1) in
    all-append (IsPlain refusals reports) (stamp later.outer (entry ∷ [])) [] (stamp_plain refusals reports later.outer (entry ∷ []) (plain, tt)) tt

pub note_clock : (w : Outside) (entry : Entry) → (happens_outside w (Host_notes entry)).outer.clock ≡ w.outer.clock
unfolding outcome
note_clock w entry = refl

noted_clock : (w : Outside) (begun : Option (ℕ × ℕ)) (entry : Entry) → (happens_all_outside w (noted_by begun entry)).outer.clock ≡ w.outer.clock
unfolding outcome
noted_clock w None entry = refl
noted_clock w (Some begun) entry = refl

-- ---- a unit

write_reports : (node : ℕ) (w : Outside) (unit : LineUnit) → reported node (entries_outside w (Host_writes unit)) ≡ []
unfolding outcome
write_reports node w unit =
    let one = outcome w (Host_writes unit) in
    stamp_reports node one.outer one.entries ∙ reports_none false node one.entries (told_plain false false by_host w.outer.to_chip unit)

write_plain : (refusals reports : Bool) (w : Outside) (unit : LineUnit) → ArePlain refusals reports (entries_outside w (Host_writes unit))
unfolding outcome
write_plain refusals reports w unit =
    stamp_plain refusals reports (outcome w (Host_writes unit)).outer (outcome w (Host_writes unit)).entries (told_plain refusals reports by_host w.outer.to_chip unit)

write_clock : (w : Outside) (unit : LineUnit) → (happens_outside w (Host_writes unit)).outer.clock ≡ w.outer.clock
unfolding outcome
write_clock w unit = entered_clock (outcome w (Host_writes unit)).outer (outcome w (Host_writes unit)).entries

-- ---- all of it

pub routed_reports : (node : ℕ) (w : Outside) (puts : List HostOut) → reported node (entries_all_outside w (routed puts)) ≡ reported node (notes_of puts)
routed_reports node w [] = refl
routed_reports node w (Write unit ∷ puts) =
    let later = happens_outside w (Host_writes unit) in
    shown-append (reported_at node) (entries_outside w (Host_writes unit)) (entries_all_outside later (routed puts))
    ∙ ap₂ (λ (a b : List Setting). a ++ b) (write_reports node w unit) (routed_reports node later puts)
routed_reports node w (Note entry ∷ puts) =
    let first = noted_by (begun_in entry) entry in
    let later = happens_all_outside w first in
    ap (λ (l : List Entry). reported node l) (entries_all-append w first (routed puts))
    ∙ shown-append (reported_at node) (entries_all_outside w first) (entries_all_outside later (routed puts))
    ∙ ap₂ (λ (a b : List Setting). a ++ b) (noted_reports node w (begun_in entry) entry) (routed_reports node later puts)
    ∙ sym (shown-append (reported_at node) (entry ∷ []) (notes_of puts))

pub routed_plain : (refusals reports : Bool) (w : Outside) (puts : List HostOut) → ArePlain refusals reports (notes_of puts) → ArePlain refusals reports (entries_all_outside w (routed puts))
routed_plain refusals reports w [] plain = tt
routed_plain refusals reports w (Write unit ∷ puts) plain =
    all-append (IsPlain refusals reports) (entries_outside w (Host_writes unit)) (entries_all_outside (happens_outside w (Host_writes unit)) (routed puts)) (write_plain refusals reports w unit)
    (routed_plain refusals reports (happens_outside w (Host_writes unit)) puts plain)
routed_plain refusals reports w (Note entry ∷ puts) plain =
    let first = noted_by (begun_in entry) entry in
    subst (ArePlain refusals reports) (sym (entries_all-append w first (routed puts)))
    (all-append (IsPlain refusals reports) (entries_all_outside w first) (entries_all_outside (happens_all_outside w first) (routed puts)) (noted_plain refusals reports w (begun_in entry) entry plain.0)
    (routed_plain refusals reports (happens_all_outside w first) puts plain.1))

pub routed_clock : (w : Outside) (puts : List HostOut) → (happens_all_outside w (routed puts)).outer.clock ≡ w.outer.clock
routed_clock w [] = refl
routed_clock w (Write unit ∷ puts) = routed_clock (happens_outside w (Host_writes unit)) puts ∙ write_clock w unit
routed_clock w (Note entry ∷ puts) =
    ap (λ (x : Outside). x.outer.clock) (happens_all-append w (noted_by (begun_in entry) entry) (routed puts))
    ∙ (routed_clock (happens_all_outside w (noted_by (begun_in entry) entry)) puts ∙ noted_clock w (begun_in entry) entry)

-- ---- entries that stand for themselves

pub note_plain : (refusals reports : Bool) (w : Outside) (entry : Entry) → IsPlain refusals reports entry → ArePlain refusals reports (entries_outside w (Host_notes entry))
unfolding outcome
note_plain refusals reports w entry plain = stamp_plain refusals reports w.outer (entry ∷ []) (plain, tt)

pub notes_plain : (refusals reports : Bool) (w : Outside) (es : List Entry) → ArePlain refusals reports es → ArePlain refusals reports (entries_all_outside w (map Host_notes es))
notes_plain refusals reports w [] plain = tt
notes_plain refusals reports w (entry ∷ es) plain =
    all-append (IsPlain refusals reports) (entries_outside w (Host_notes entry)) (entries_all_outside (happens_outside w (Host_notes entry)) (map Host_notes es))
    (note_plain refusals reports w entry plain.0) (notes_plain refusals reports (happens_outside w (Host_notes entry)) es plain.1)

pub notes_clock : (w : Outside) (es : List Entry) → (happens_all_outside w (map Host_notes es)).outer.clock ≡ w.outer.clock
notes_clock w [] = refl
notes_clock w (entry ∷ es) = notes_clock (happens_outside w (Host_notes entry)) es ∙ note_clock w entry
