-- What is shown of a device depends on the settings of its changes alone, and a transcript shows these.
use Rattle.std.proofs.Common.{◌≡◌, ℕ, ◌==◌, ◌||◌, not, Bool, true, false, if◌then◌else◌, List, [], ◌∷◌, ◌++◌, map, refl, sym, ap, ap₂, ◌∙◌}
use Rattle.std.specs.Prelude.{Option, Some, None, option_map}
use Rattle.std.specs.List.{cons_option, filter_map, flat_map, range_with_len}
use Rattle.std.proofs.lemmas.List.{map-append}
use Rattle.zw_base.specs.PropertyOrder.{same_property}
use Rattle.zw_base.specs.declared.property.Property.{Property}
use Rattle.zw_base.specs.declared.property.Setting.{Setting}
use Rattle.device_kinds.specs.Kind.{main_property_of, property_at, property_count}
use Rattle.device_kinds.specs.Values.{value_after, value_by}
use Rattle.device_kinds.specs.declared.change.Change.{Change}
use Rattle.device_kinds.specs.declared.kind.Kind.{Kind}
use Rattle.device_kinds.proofs.CacheLemmas.{value_after-append}
use Rattle.device_stack.specs.Showing.{shown_at, shown_of}
use Rattle.device_sim.specs.State.{State, value_of}
use Rattle.zw_text.specs.declared.entry.Entry.{Entry}
use Rattle.zw_text.specs.declared.entry.Entry.TheVariants.{Device}
use Rattle.zw_text.specs.Transcript.{Made, made, made_at}
use Rattle.zw_text.proofs.Views.{shown-append}
use Rattle.law_host.specs.law_transcript.Devices.{made_by}
use Rattle.law_host.specs.law_transcript.Nodes.{device_of}
use Rattle.law_host.specs.law_transcript.Table.{device_lines}
use Rattle.law_host.specs.law_wire.Shown.{as_entered, change_of}
use Rattle.proof_air.specs.world_model.State.{Machine}
use Rattle.proof_air.specs.world_model.Did.{entries_all}
use Rattle.proof_air.proofs.EventLists.{entries_all-append}
use Rattle.proof_air.specs.world_lines.Spoken.{Spoken, after, entries_of, transcript_of}
use Rattle.proof_air.specs.world_lines.Done.{events_of}
use Rattle.proof_spoken.specs.proof_device.GoingOn.{AreSame, IsSame}
use Rattle.proof_spoken.specs.proof_device.Showing.{AllShow, Shows}

-- ---- values

-- a change with several settings, and as many with one each
one_each : (change : Change) (settings : List Setting) (p : Property) (before : ℕ)
    → value_after (map change_of (map (λ (setting : Setting). record { by = change.by; setting = setting }) settings)) p before ≡ value_by settings p before
one_each change [] p before = refl
one_each change (setting ∷ settings) p before = one_each change settings p (if same_property setting.property p then setting.value else before)

all_each : (changes : List Change) (p : Property) (before : ℕ) → value_after (map change_of (flat_map made_by changes)) p before ≡ value_after changes p before
all_each [] p before = refl
all_each (change ∷ changes) p before =
    ap (λ (l : List Change). value_after l p before) (map-append change_of (made_by change) (flat_map made_by changes))
    ∙ (value_after-append (map change_of (made_by change)) (map change_of (flat_map made_by changes)) p before
    ∙ (ap (value_after (map change_of (flat_map made_by changes)) p) (one_each change change.settings p before)
    ∙ all_each changes p (value_by change.settings p before)))

-- ---- a device

same_filtered : (f g : ℕ → Option Setting) (places : List ℕ) → ((at : ℕ) → f at ≡ g at) → filter_map f places ≡ filter_map g places
same_filtered f g [] same = refl
same_filtered f g (at ∷ places) same = ap₂ cons_option (same at) (same_filtered f g places same)

at_like : (a b : State) → a.kind ≡ b.kind → ((p : Property) → value_of a p ≡ value_of b p) → (p : Property) → shown_at a p ≡ shown_at b p
at_like a b kind values p =
    ap₂ (λ (k : Kind) (v : ℕ). if same_property p (main_property_of k) || not (v == 0) then Some (record { property = p; value = v }) else None) kind (values p)

-- devices of one kind with the same values
shown_like : (a b : State) → a.kind ≡ b.kind → ((p : Property) → value_of a p ≡ value_of b p) → shown_of a ≡ shown_of b
unfolding shown_of
shown_like a b kind values =
    same_filtered (λ at. shown_at a (property_at a.kind at)) (λ at. shown_at b (property_at a.kind at)) (range_with_len 0 (property_count a.kind)) (λ at. at_like a b kind values (property_at a.kind at))
    ∙ ap (λ (k : Kind). filter_map (λ at. shown_at b (property_at k at)) (range_with_len 0 (property_count k))) kind

entered_like : (told : List Entry) (old new : State) → IsSame old new → Shows told old new → shown_of (as_entered told old) ≡ shown_of new
entered_like told old new same shows = shown_like (as_entered told old) new (sym same.kind) values
  where
    values : (p : Property) → value_of (as_entered told old) p ≡ value_of new p
    values p =
        ap (λ (l : List Made). value_after (old.journal ++ map change_of l) p 0) shows.entered
        ∙ (value_after-append old.journal (map change_of (flat_map made_by shows.changes)) p 0
        ∙ (all_each shows.changes p (value_after old.journal p 0)
        ∙ (sym (value_after-append old.journal shows.changes p 0) ∙ ap (λ (l : List Change). value_after l p 0) (sym shows.changed))))

-- ---- the device of a node

pub found_like : (told : List Entry) (node : ℕ) (old new : List State) → AreSame old new → AllShow told old new
    → device_lines node (option_map (as_entered told) (device_of node old)) ≡ device_lines node (device_of node new)
found_like told node [] [] same shows = refl
found_like told node [] (device ∷ new) same shows = absurd same
found_like told node (device ∷ old) [] same shows = absurd same
found_like told node (device ∷ old) (later ∷ new) same shows =
    by (device.node == node) (found_like told node old new same.1 shows.1)
    ∙ ap (λ (n : ℕ). device_lines node (if n == node then Some later else device_of node new)) (sym same.0.node)
  where
    by : (b : Bool) → device_lines node (option_map (as_entered told) (device_of node old)) ≡ device_lines node (device_of node new)
        → device_lines node (option_map (as_entered told) (if b then Some device else device_of node old)) ≡ device_lines node (if b then Some later else device_of node new)
    by true more = ap (λ (l : List Setting). map (Device node) l) (entered_like told device later same.0 shows.0)
    by false more = more

-- ---- the words of lines show no change

show_as : (xs ys : List Entry) → ((n : ℕ) → made n xs ≡ made n ys) → (old new : List State) → AllShow xs old new → AllShow ys old new
show_as xs ys same [] [] shows = tt
show_as xs ys same [] (device ∷ new) shows = absurd shows
show_as xs ys same (device ∷ old) [] shows = absurd shows
show_as xs ys same (device ∷ old) (later ∷ new) shows = (
  record { changes = shows.0.changes; changed = shows.0.changed; entered = sym (same device.node) ∙ shows.0.entered },
  show_as xs ys same old new shows.1,
)

said_made : (n : ℕ) (m : Machine) (lines : List Spoken) → made n (entries_all m (events_of lines)) ≡ made n (transcript_of m lines)
said_made n m [] = refl
said_made n m (spoken ∷ more) =
    let told : List Entry = entries_all m spoken.events in
    ap (made n) (entries_all-append m spoken.events (events_of more))
    ∙ (shown-append (made_at n) told (entries_all (after m spoken) (events_of more))
    ∙ (ap (λ (l : List Made). made n told ++ l) (said_made n (after m spoken) more)
    ∙ sym (shown-append (made_at n) (entries_of m spoken) (transcript_of (after m spoken) more))))

pub lines_show : (m : Machine) (lines : List Spoken) (old new : List State) → AllShow (entries_all m (events_of lines)) old new → AllShow (transcript_of m lines) old new
lines_show m lines old new shows = show_as (entries_all m (events_of lines)) (transcript_of m lines) (λ n. said_made n m lines) old new shows
