-- What `replay` enters of the events of a host: units, and then what the host notes.
use Rattle.std.proofs.Common.{◌≡◌, ℕ, ◌⊎◌, inl, inr, List, [], ◌∷◌, ◌++◌, map, refl, sym, ap, subst, ◌∙◌, append_assoc, append-nil}
use Rattle.std.proofs.lemmas.List.{map-append}
use Rattle.serial_frame.specs.declared.unit.Unit.{Unit as LineUnit}
use Rattle.zw_text.specs.declared.entry.Entry.{Entry}
use Rattle.zw_text.specs.declared.entry.Entry.TheVariants.{Time}
use Rattle.host_model.specs.State.{HostState}
use Rattle.host_model.specs.Events.{HostEvent, Accepts, Cancels}
use Rattle.host_model.specs.After.{after}
use Rattle.host_model.specs.Outs.{outs, answers, Silent}
use Rattle.host_model.specs.May.{May as MayHost}
use Rattle.host_model.specs.Did.{MayAll as MayAllHost, after_all, outs_all}
use Rattle.host_model.specs.declared.out.HostOut.{HostOut}
use Rattle.host_model.specs.declared.out.HostOut.TheVariants.{Write, Note}
use Rattle.proof_host.specs.Entries.{IsAside, notes_of, entries_at}
use Rattle.proof_host.specs.Facts.{Facts}
use Rattle.proof_answers.proofs.FactsKept.{after_keeps}
use Rattle.proof_answers.proofs.Notes.{Puts, puts_at, Trailing, after_nothing}
use Rattle.run_all.specs.run_replay.Machine.{entry_of, entries_of, timed}

-- ---- units and notes

only_notes : (entries : List Entry) → entries_of (map Note entries) ≡ entries
only_notes [] = refl
only_notes (e ∷ entries) = ap (λ (l : List Entry). e ∷ l) (only_notes entries)

noted_so : (units : List LineUnit) (entries : List Entry) → notes_of (map Write units ++ map Note entries) ≡ entries
noted_so [] [] = refl
noted_so [] (e ∷ entries) = ap (λ (l : List Entry). e ∷ l) (noted_so [] entries)
noted_so (u ∷ units) entries = noted_so units entries

units_first : (units : List LineUnit) (entries : List Entry) → Trailing entries (entries_of (map Write units ++ map Note entries))
units_first [] entries = subst (λ (l : List Entry). Trailing entries l) (sym (only_notes entries)) (after_nothing entries)
units_first (u ∷ units) entries =
    let rest = units_first units entries in
    record { prefix = entry_of (Write u) ∷ rest.prefix; asides = (tt, rest.asides); are = ap (λ (l : List Entry). entry_of (Write u) ∷ l) rest.are }

puts_first : (puts : List HostOut) → Puts puts → Trailing (notes_of puts) (entries_of puts)
puts_first puts is =
    subst (λ (l : List HostOut). Trailing (notes_of l) (entries_of l)) (sym is.are)
    (subst (λ (l : List Entry). Trailing l (entries_of (map Write is.units ++ map Note is.entries))) (sym (noted_so is.units is.entries)) (units_first is.units is.entries))

-- ---- answers

-- an event answers nothing, or puts out nothing
one_of_both : (h : HostState) (event : HostEvent) → (answers h event ≡ []) ⊎ (outs h event ≡ [])
one_of_both h (Accepts order carriage) = inr refl
one_of_both h (Cancels command) = inr refl
one_of_both h _ = inl refl

silent_after : (h : HostState) (event : HostEvent) → answers h event ≡ [] → Trailing (entries_at h event) (entries_of (outs h event))
silent_after h event none =
    subst (λ (l : List Entry). Trailing (l ++ notes_of (outs h event)) (entries_of (outs h event))) (sym none) (puts_first (outs h event) (puts_at h event))

answered : (h : HostState) (event : HostEvent) → (answers h event ≡ []) ⊎ (outs h event ≡ []) → Trailing (entries_at h event) (entries_of (outs h event) ++ answers h event)
answered h event (inl none) =
    subst (λ (l : List Entry). Trailing (entries_at h event) (entries_of (outs h event) ++ l)) (sym none)
    (subst (λ (l : List Entry). Trailing (entries_at h event) l) (sym (append-nil (entries_of (outs h event)))) (silent_after h event none))
answered h event (inr none) =
    subst (λ (l : List HostOut). Trailing (answers h event ++ notes_of l) (entries_of l ++ answers h event)) (sym none)
    (subst (λ (l : List Entry). Trailing l (answers h event)) (sym (append-nil (answers h event))) (after_nothing (answers h event)))

pub asked_following : (h : HostState) (event : HostEvent) → Trailing (entries_at h event) (entries_of (outs_all h (event ∷ [])) ++ answers h event)
asked_following h event =
    subst (λ (l : List HostOut). Trailing (entries_at h event) (entries_of l ++ answers h event)) (sym (append-nil (outs h event))) (answered h event (one_of_both h event))

-- ---- facts

module _ (each : (past : List Entry) (h : HostState) (event : HostEvent) → Facts past h → MayHost h event → Facts (past ++ entries_at h event) (after h event))
    (aside : (past : List Entry) (h : HostState) (entry : Entry) → Facts past h → IsAside entry → Facts (past ++ entry ∷ []) h) where
  -- events that answer no line
  pub silent_keeps : (past : List Entry) (h : HostState) (es : List HostEvent) → Facts past h → MayAllHost h es → Silent es → Facts (past ++ entries_of (outs_all h es)) (after_all h es)
  silent_keeps past h [] facts may silent = subst (λ (l : List Entry). Facts l h) (sym (append-nil past)) facts
  silent_keeps past h (e ∷ es) facts may silent =
      subst (λ (l : List Entry). Facts l (after_all (after h e) es))
      (append_assoc past (entries_of (outs h e)) (entries_of (outs_all (after h e) es)) ∙ ap (λ (l : List Entry). past ++ l) (sym (map-append entry_of (outs h e) (outs_all (after h e) es))))
      (silent_keeps (past ++ entries_of (outs h e)) (after h e) es (after_keeps each aside past (entries_of (outs h e)) h e facts may.0 (silent_after h e (silent.0 h))) may.1 silent.1)

  timed_so : (past : List Entry) (h : HostState) (tick : ℕ) (es : List HostEvent) (puts : List HostOut) → puts ≡ outs_all h es → Facts past h → MayAllHost h es → Silent es
      → Facts (past ++ timed tick puts) (after_all h es)
  timed_so past h tick es [] are facts may silent =
      subst (λ (l : List HostOut). Facts (past ++ entries_of l) (after_all h es)) (sym are) (silent_keeps past h es facts may silent)
  timed_so past h tick es (one ∷ more) are facts may silent =
      subst (λ (l : List Entry). Facts l (after_all h es)) (append_assoc past (Time tick ∷ []) (entries_of (one ∷ more)))
      (subst (λ (l : List HostOut). Facts ((past ++ Time tick ∷ []) ++ entries_of l) (after_all h es)) (sym are)
      (silent_keeps (past ++ Time tick ∷ []) h es (aside past h (Time tick) facts tt) may silent))

  -- events of a tick
  pub timed_keeps : (past : List Entry) (h : HostState) (tick : ℕ) (es : List HostEvent) → Facts past h → MayAllHost h es → Silent es → Facts (past ++ timed tick (outs_all h es)) (after_all h es)
  timed_keeps past h tick es facts may silent = timed_so past h tick es (outs_all h es) refl facts may silent
