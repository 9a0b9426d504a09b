-- What a host puts out speaks of no change of a device either.
use Rattle.std.proofs.Common.{ℕ, Option, Some, None, List, [], ◌∷◌, sym, subst}
use Rattle.zw_base.proofs.Each.{all-append, all-weaker}
use Rattle.serial_frame.specs.declared.unit.Unit.{Unit as LineUnit}
use Rattle.world_model.specs.serial_pipes.Events.{told}
use Rattle.zw_words.specs.declared.side.Side.TheVariants.{Host as by_host}
use Rattle.law_transcript.specs.zw_text.declared.entry.Entry.{Entry}
use Rattle.world_model.specs.host_model.State.{HostState}
use Rattle.world_model.specs.host_model.Events.{HostEvent, Accepts}
use Rattle.world_model.specs.host_model.Did.{outs_all}
use Rattle.world_model.specs.host_model.declared.out.HostOut.{HostOut}
use Rattle.world_model.specs.host_model.declared.out.HostOut.TheVariants.{Write, Note}
use Rattle.world_model.specs.host_model.Outs.{answers}
use Rattle.world_model.specs.outside_model.State.{Outside}
use Rattle.world_model.specs.outside_model.Events.{Host_notes, Host_begins, Host_writes, happens, entries, outcome}
use Rattle.world_model.specs.outside_model.Did.{happens_all, entries_all}
use Rattle.world_model.proofs.outside_model_EventLists.{entries_all-append}
use Rattle.world_model.specs.State.{begun_in, noted_by, routed, routed_one}
use Rattle.world_model.specs.Events.{notes}
use Rattle.proof_device.proofs.Entering.{IsOfChip, stamp_are, told_of_chip}
use Rattle.proof_device.proofs.Others.{IsOther, Others, chip_other}
use Rattle.proof_device.proofs.HostOuts.{OutIs, OutsAre, OwnIs, SharedAre, all_outs_are, answers_are}

shared_other : SharedAre IsOther
shared_other = record {
  unanswered = λ command. tt;
  asleep = λ n. tt;
  done = λ n how. tt;
  uninterviewed = λ n. tt;
  neighbours = λ n nodes. tt;
  failed = λ n is_failed. tt;
  stored = λ n setting. tt;
  held = λ n. tt;
  full = λ n. tt;
}

own_other : (event : HostEvent) → OwnIs IsOther event
own_other (Accepts order carriage) = λ number. tt
own_other _ = tt

-- ---- where it is entered

pub note_other : (w : Outside) (e : Entry) → IsOther e → Others (entries w (Host_notes e))
unfolding outcome
note_other w e other = stamp_are IsOther (λ tick. tt) w.outer (e ∷ []) (other, tt)

write_other : (w : Outside) (unit : LineUnit) → Others (entries w (Host_writes unit))
unfolding outcome
write_other w unit =
    stamp_are IsOther (λ tick. tt) (outcome w (Host_writes unit)).outer (told by_host w.outer.to_chip unit)
    (all-weaker IsOfChip IsOther chip_other (told by_host w.outer.to_chip unit) (told_of_chip by_host w.outer.to_chip unit))

noted_other : (w : Outside) (begun : Option (ℕ × ℕ)) (e : Entry) → IsOther e → Others (entries_all w (noted_by begun e))
unfolding outcome
noted_other w None e other = all-append IsOther (entries w (Host_notes e)) [] (note_other w e other) tt
noted_other w (Some begun) e other =
    all-append IsOther (entries (happens w (Host_begins begun.0 begun.1)) (Host_notes e)) [] (note_other (happens w (Host_begins begun.0 begun.1)) e other) tt

one_other : (w : Outside) (put : HostOut) → OutIs IsOther put → Others (entries_all w (routed_one put))
one_other w (Write unit) other = all-append IsOther (entries w (Host_writes unit)) [] (write_other w unit) tt
one_other w (Note e) other = noted_other w (begun_in e) e other

routed_other : (w : Outside) (puts : List HostOut) → OutsAre IsOther puts → Others (entries_all w (routed puts))
routed_other w [] others = tt
routed_other w (put ∷ puts) others =
    subst (λ (l : List Entry). Others l) (sym (entries_all-append w (routed_one put) (routed puts)))
    (all-append IsOther (entries_all w (routed_one put)) (entries_all (happens_all w (routed_one put)) (routed puts))
    (one_other w put others.0) (routed_other (happens_all w (routed_one put)) puts others.1))

-- what the host does
pub host_other : (w : Outside) (h : HostState) (events : List HostEvent) → Others (entries_all w (routed (outs_all h events)))
host_other w h events = routed_other w (outs_all h events) (all_outs_are IsOther shared_other own_other h events)

notes_other : (w : Outside) (told : List Entry) → Others told → Others (entries_all w (notes told))
notes_other w [] others = tt
notes_other w (e ∷ told) others =
    all-append IsOther (entries w (Host_notes e)) (entries_all (happens w (Host_notes e)) (notes told)) (note_other w e others.0) (notes_other (happens w (Host_notes e)) told others.1)

-- what is answered to the line
pub answered_other : (w : Outside) (h : HostState) (event : HostEvent) → Others (entries_all w (notes (answers h event)))
answered_other w h event = notes_other w (answers h event) (answers_are IsOther h event (own_other event))
