-- A story of legal records tells them, and its orders stand after their words.
use Rattle.std.proofs.Common.{◌≡◌, ℕ, ◌==◌, true, List, [], ◌∷◌, ◌++◌, map, length, Option, Some, None, refl, sym, ap, ◌∙◌, subst, append_assoc}
use Rattle.std.specs.List.{AllByRecursion}
use Rattle.std.proofs.lemmas.Bool.{eqb-true, and_parts}
use Rattle.zw_base.specs.declared.property.Setting.{Setting}
use Rattle.supervision.specs.Host.{command_at as command_of_session}
use Rattle.zw_text.specs.declared.entry.Entry.{Entry}
use Rattle.zw_text.specs.declared.entry.Entry.TheVariants as entry
use Rattle.zw_text.specs.Transcript.{line_after, line_last, line_of}
use Rattle.zw_text.proofs.Views.{folded-append}
use Rattle.host_keep.specs.Kept.{Kept, Session, Taken, after, command_of, is_open, node_of}
use Rattle.host_keep.specs.Legal.{first_illegal, is_legal}
use Rattle.host_keep.specs.declared.final_status.FinalStatus.{FinalStatus}
use Rattle.host_keep.specs.declared.final_status.FinalStatus.TheVariants as final
use Rattle.host_keep.specs.declared.record.Record.{Record}
use Rattle.host_keep.specs.declared.record.Record.TheVariants.{Accepted, Joined, Classes, Begun, Final, Cancelled, Given, Spent, Seen}
use Rattle.host_keep.proofs.RecordLists.{legal_cons}
use Rattle.law_host.specs.law_transcript.Lists.{EachAfter}
use Rattle.proof_line.specs.host_model.Holding.{commands_of}
use Rattle.proof_line.specs.host_model.Outs.{ended_of}
use Rattle.proof_line.specs.proof_host.Entries.{IsAside}
use Rattle.proof_line.specs.proof_host.RecordsTold.{TellRecords, end_told as ends_told, told_by, values_told as confirmed_told}
use Rattle.proof_line.proofs.Lists.{each-append}
use Rattle.proof_alone.specs.Answering.{AsOrdered}
use Rattle.law_host.specs.Story.{IsStory, TellsRecord, end_told, ended_by, interview_told, values_told}

last_said : (past : List Entry) (words : List ℕ) → line_last (past ++ entry.Said words ∷ []) ≡ line_of (entry.Said words)
last_said past words = folded-append line_after [] past (entry.Said words ∷ [])

-- ---- ends

same_end : (node : ℕ) (status : FinalStatus) (command : ℕ) (taken : Option Taken)
    → entry.Out command (ended_by status) ∷ values_told node status taken ≡ entry.Out command (ended_of status) ∷ confirmed_told node status taken
same_end node final.NoSupport command None = refl
same_end node final.NoSupport command (Some taken) = refl
same_end node final.Fail command None = refl
same_end node final.Fail command (Some taken) = refl
same_end node final.Success command None = refl
same_end node final.Success command (Some taken) = refl

-- the last session is that of the greatest number
last_ends : (kept : Kept) (node : ℕ) (status : FinalStatus) (sessions : List Session)
    → end_told kept node status sessions ≡ ends_told kept node status (command_of_session (commands_of sessions) (length sessions))
last_ends kept node status [] = refl
last_ends kept node status (session ∷ []) = same_end node status session.command (command_of kept.commands session.command)
last_ends kept node status (session ∷ next ∷ more) = last_ends kept node status (next ∷ more)

-- ---- what stands in order

stores_ordered : (past : List Entry) (node : ℕ) (settings : List Setting) → EachAfter AsOrdered past (map (entry.Store node) settings)
stores_ordered past node [] = tt
stores_ordered past node (setting ∷ more) = (tt, stores_ordered (past ++ entry.Store node setting ∷ []) node more)

values_ordered : (past : List Entry) (node : ℕ) (status : FinalStatus) (taken : Option Taken) → EachAfter AsOrdered past (values_told node status taken)
values_ordered past node final.NoSupport None = tt
values_ordered past node final.NoSupport (Some taken) = tt
values_ordered past node final.Fail None = tt
values_ordered past node final.Fail (Some taken) = tt
values_ordered past node final.Success None = tt
values_ordered past node final.Success (Some taken) = stores_ordered past node _

end_ordered : (past : List Entry) (kept : Kept) (node : ℕ) (status : FinalStatus) (sessions : List Session) → EachAfter AsOrdered past (end_told kept node status sessions)
end_ordered past kept node status [] = tt
end_ordered past kept node status (session ∷ []) =
    (tt, values_ordered (past ++ entry.Out session.command (ended_by status) ∷ []) node status (command_of kept.commands session.command))
end_ordered past kept node status (session ∷ next ∷ more) = end_ordered past kept node status (next ∷ more)

part_ordered : (past : List Entry) (kept : Kept) (one : Record) (told : List Entry) → TellsRecord kept one told → EachAfter AsOrdered past told
part_ordered past kept (Accepted command order) told (words, line, is) =
    subst (λ (l : List Entry). EachAfter AsOrdered past l) (sym is) (tt, ((order, last_said past words ∙ line, refl), tt))
part_ordered past kept (Joined node) told (words, line, is) = subst (λ (l : List Entry). EachAfter AsOrdered past l) (sym is) (tt, tt)
part_ordered past kept (Classes node listens classes) told (words, line, is) =
    subst (λ (l : List Entry). EachAfter AsOrdered past l) (sym is) (tt, (tt, (tt, (tt, (tt, (tt, (tt, (tt, (tt, (tt, (tt, (tt, tt))))))))))))
part_ordered past kept (Begun node session command) told is = subst (λ (l : List Entry). EachAfter AsOrdered past l) (sym is) (tt, tt)
part_ordered past kept (Final node session status) told is =
    subst (λ (l : List Entry). EachAfter AsOrdered past l) (sym is) (end_ordered past kept node status (node_of kept node).sessions)
part_ordered past kept (Cancelled command) told is = subst (λ (l : List Entry). EachAfter AsOrdered past l) (sym is) (tt, tt)
part_ordered past kept (Given node given nonce) told is = subst (λ (l : List Entry). EachAfter AsOrdered past l) (sym is) tt
part_ordered past kept (Spent node) told is = subst (λ (l : List Entry). EachAfter AsOrdered past l) (sym is) tt
part_ordered past kept (Seen node seen) told is = subst (λ (l : List Entry). EachAfter AsOrdered past l) (sym is) tt

pub story_ordered : (past : List Entry) (kept : Kept) (records : List Record) (story : List Entry) → IsStory kept records story → EachAfter AsOrdered past story
story_ordered past kept [] story is = subst (λ (l : List Entry). EachAfter AsOrdered past l) (sym is) tt
story_ordered past kept (one ∷ more) story (told, rest, tells, later, is) =
    subst (λ (l : List Entry). EachAfter AsOrdered past l) (sym is)
    (each-append AsOrdered past told rest (part_ordered past kept one told tells) (story_ordered (past ++ told) (after kept one) more rest later))

-- ---- what is told

record Part (kept : Kept) (one : Record) (told : List Entry) : Type 0 where
  aside : List Entry
  asides : AllByRecursion IsAside aside
  split : told ≡ aside ++ told_by kept one

part : (kept : Kept) (one : Record) (told : List Entry) → is_legal kept one ≡ true → TellsRecord kept one told → Part kept one told
part kept (Accepted command order) told legal (words, line, is) = record { aside = entry.Said words ∷ []; asides = (tt, tt); split = is }
part kept (Joined node) told legal (words, line, is) = record { aside = entry.Said words ∷ []; asides = (tt, tt); split = is }
part kept (Classes node listens classes) told legal (words, line, is) = record {
  aside = entry.Said words ∷ interview_told node listens classes;
  asides = (tt, (tt, (tt, (tt, (tt, (tt, (tt, (tt, (tt, (tt, (tt, (tt, tt))))))))))));
  split = is;
}
part kept (Begun node session command) told legal is = record { aside = []; asides = tt; split = is }
part kept (Final node session status) told legal is = record {
  aside = [];
  asides = tt;
  split =
      is ∙ last_ends kept node status (node_of kept node).sessions
      ∙ ap (λ (s : ℕ). ends_told kept node status (command_of_session (commands_of (node_of kept node).sessions) s))
      (sym (eqb-true session (length (node_of kept node).sessions) (and_parts (session == length (node_of kept node).sessions) (is_open (node_of kept node).sessions) legal).0));
}
part kept (Cancelled command) told legal is = record { aside = []; asides = tt; split = is }
part kept (Given node given nonce) told legal is = record { aside = []; asides = tt; split = is }
part kept (Spent node) told legal is = record { aside = []; asides = tt; split = is }
part kept (Seen node seen) told legal is = record { aside = []; asides = tt; split = is }

pub story_tells : (kept : Kept) (records : List Record) (story tail : List Entry) → first_illegal kept records ≡ None → IsStory kept records story → AllByRecursion IsAside tail
    → TellRecords kept records (story ++ tail)
story_tells kept [] story tail legal is asides = subst (λ (l : List Entry). AllByRecursion IsAside (l ++ tail)) (sym is) asides
story_tells kept (one ∷ more) story tail legal (told, rest, tells, later, is) asides =
    let both = legal_cons kept one more legal in
    let here = part kept one told both.0 tells in (
      here.aside,
      rest ++ tail,
      here.asides,
      story_tells (after kept one) more rest tail both.1 later asides,
      ap (λ (l : List Entry). l ++ tail) is ∙ append_assoc told rest tail ∙ ap (λ (l : List Entry). l ++ (rest ++ tail)) here.split
          ∙ append_assoc here.aside (told_by kept one) (rest ++ tail),
    )
