-- What is entered of the line, the chip and the air speaks of no change of a device.
use Rattle.std.proofs.Common.{◌≡◌, ℕ, Option, List, [], ◌∷◌, ◌++◌, refl, ap, ◌∙◌}
use Rattle.std.specs.List.{AllByRecursion}
use Rattle.std.specs.Option.{option_map}
use Rattle.std.proofs.lemmas.Grind.{flat_map-append}
use Rattle.zw_base.proofs.Each.{all-weaker}
use Rattle.law_transcript.specs.zw_text.declared.entry.Entry.{Entry}
use Rattle.law_transcript.specs.zw_text.declared.entry.Entry.TheVariants as entry
use Rattle.law_transcript.specs.zw_text.Transcript.{Made, made, made_at}
use Rattle.route_table.specs.declared.route.Route.{Route}
use Rattle.world_model.specs.mesh_sim.Air.{is_joined}
use Rattle.world_model.specs.mesh_sim.Routes.{backwards}
use Rattle.world_model.specs.mesh_sim.Steps.{answers_if}
use Rattle.world_model.specs.mesh_sim.declared.event.AirEvent.{AirEvent}
use Rattle.world_model.specs.mesh_sim.declared.event.AirEvent.TheVariants as air_event
use Rattle.world_model.specs.outside_model.State.{OuterState, Outside}
use Rattle.world_model.specs.outside_model.Results.{frame_ends}
use Rattle.world_model.specs.outside_model.Air.{to_chip, sent_entries}
use Rattle.world_model.specs.outside_model.Devices.{sends}
use Rattle.world_model.specs.outside_model.Events.{OuterEvent, outcome, stamp, ticked_entry}
use Rattle.proof_device.proofs.Entering.{Acts, Enters, IsOfChip, IsOfEnd, NotesNone, chip_of_end, ends_of_end, flat_are, number_are, outcome_enters, payload_of_chip}

-- an entry that is no `dev`
abbrev pub IsOther : Entry → Type 0
IsOther (entry.Dev node by setting) = ⊥
IsOther _ = Unit {0}

abbrev pub Others : List Entry → Type 0
Others entries = AllByRecursion IsOther entries

-- ---- which entries are

end_other : (e : Entry) → IsOfEnd e → IsOther e
end_other (entry.Dev node by setting) of_end = absurd of_end
end_other e of_end = tt

pub chip_other : (e : Entry) → IsOfChip e → IsOther e
chip_other e of_chip = end_other e (chip_of_end e of_chip)

pub ends_other : (o : OuterState) (status : ℕ) (dead : Option (ℕ × ℕ)) → Others (frame_ends o status dead).entries
ends_other o status dead = all-weaker IsOfEnd IsOther end_other (frame_ends o status dead).entries (ends_of_end o status dead)

pub to_chip_other : (o : OuterState) (from : ℕ) (payload : List ℕ) → Others (to_chip o from payload).entries
to_chip_other o from payload = all-weaker IsOfChip IsOther chip_other (to_chip o from payload).entries (payload_of_chip o from payload)

pub sends_other : (o : OuterState) (node : ℕ) (route : Option Route) (replies : List (List ℕ)) → Others (sends o node route replies).entries
sends_other o node route replies = flat_are IsOther sent_entries one (answers_if (is_joined o.air node) o.air node (option_map backwards route) replies)
  where
    one : (event : AirEvent) → Others (sent_entries event)
    one (air_event.Sent frame from to route payload) = (tt, tt)
    one event = tt

-- an event at which no device acts
pub event_other : (event : OuterEvent) → (Acts event → ⊥) → (e : Entry) → Enters event e → IsOther e
event_other event none (entry.Dev node by setting) enters = absurd (none enters)
event_other event none e enters = tt

pub outcome_other : (w : Outside) (event : OuterEvent) → NotesNone event → (Acts event → ⊥) → Others (outcome w event).entries
outcome_other w event notes none = all-weaker (Enters event) IsOther (event_other event none) (outcome w event).entries (outcome_enters w event notes)

-- ---- what such entries show of changes

pub none_made : (n : ℕ) (entries : List Entry) → Others entries → made n entries ≡ []
none_made n [] others = refl
none_made n (e ∷ entries) others = ap (λ (l : List Made). l ++ made n entries) (one_none n e others.0) ∙ none_made n entries others.1
  where
    one_none : (n : ℕ) (e : Entry) → IsOther e → made_at n e ≡ []
    one_none n (entry.Dev node by setting) other = absurd other
    one_none n _ other = refl

pub made_both : (n : ℕ) (a b : List Entry) → made n (a ++ b) ≡ made n a ++ made n b
made_both n a b = flat_map-append (made_at n) a b

-- the number of a tick shows none
pub made_stamped : (n : ℕ) (o : OuterState) (told : List Entry) → made n (stamp o told) ≡ made n told
made_stamped n o [] = refl
made_stamped n o (e ∷ told) =
    made_both n (ticked_entry o) (e ∷ told) ∙ ap (λ (l : List Made). l ++ made n (e ∷ told)) (none_made n (ticked_entry o) (number_are IsOther (λ tick. tt) o))
