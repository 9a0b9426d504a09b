-- What is known of both links gives the laws of links and of what restarts lose, of a run that was cut short, and of a whole one.
use Rattle.std.proofs.Common.{◌≡◌, ℕ, Bool, true, false, List, [], ◌∷◌, ◌++◌, map, refl, sym, ap, ap₂, ◌∙◌, subst, append-nil, append_assoc}
use Rattle.std.specs.List.{AllByRecursion}
use Rattle.zw_base.proofs.Each.{all-append}
use Rattle.zw_words.specs.declared.side.Side.TheVariants.{Host, Chip}
use Rattle.zw_text.specs.declared.entry.Entry.{Entry}
use Rattle.zw_text.specs.declared.entry.Entry.TheVariants.{Said}
use Rattle.zw_text.specs.Transcript.{line_last}
use Rattle.law_wire.specs.law_transcript.Lists.{shown_after}
use Rattle.law_wire.specs.Clearing.{AreTold, Cleared_there, ClearsLine, IsTold, clears, lost_by, to_clear}
use Rattle.law_wire.specs.Links.{KeepsLink, joined, moments_of}
use Rattle.law_wire.specs.Asked.{course_of}
use Rattle.law_wire.specs.Serial.{serial_events}
use Rattle.serial_link.specs.Rules.{SideObeys, Step}
use Rattle.proof_walk.specs.outside_model.State.{OuterState}
use Rattle.proof_line.specs.Pipes.{ClearsNowhereElse}
use Rattle.proof_line.specs.Links.{AtLine, IsMute, KnowsLink, LinkNow, start_at}
use Rattle.proof_line.specs.Linked.{◌⊕◌, began, done_by, next_start, ArePartsOf, Cuts, Did, HostObeyed, IsTickLine}
use Rattle.proof_line.proofs.LinkKnown.{keeps_ever, keeps_link, keeps_lost, keeps_parts, keeps_starts, keeps_room}
use Rattle.proof_line.proofs.LinkCourse.{course_mute}
use Rattle.proof_line.proofs.LinkChip.{obeyed}

-- ---- a run that was cut short

pub cuts_of : (past : List Entry) (up down : LinkNow) → KnowsLink Chip past up → KnowsLink Host past down → AreTold (clears past) (to_clear up.lost down.lost) → Cuts (done_by up) past
cuts_of past up down chip host told =
    let of_chip : KeepsLink Chip past = keeps_link Chip past up chip in
    let of_host : KeepsLink Host past = keeps_link Host past down host in
    let chip_lost : up.lost ≡ lost_by Chip past (keeps_link Chip past up chip).parts = sym (keeps_lost Chip past up chip) in
    let host_lost : down.lost ≡ lost_by Host past (keeps_link Host past down host).parts = sym (keeps_lost Host past down host) in
    let life : up.life ≡ joined of_chip.parts ++ chip.steps = keeps_parts past up chip in
    record {
      links = record { chip = of_chip; host = of_host; up = keeps_room Chip past up chip; down = keeps_room Host past down host };
      ever = keeps_ever Host past down host;
      each = subst (λ (l : List ℕ). AreTold (clears past) (to_clear (lost_by Chip past of_chip.parts) l)) host_lost (subst (λ (l : List ℕ). AreTold (clears past) (to_clear l down.lost)) chip_lost told);
      course = sym (ap course_of life ∙ course_mute (joined of_chip.parts) chip.steps up.link (subst (λ (l : List Step). SideObeys l up.link) life (obeyed Chip (serial_events past) up chip)) chip.mute);
      later = [];
      starts = sym (append-nil (shown_after (start_at Chip) [] (moments_of (serial_events past) of_chip.parts)) ∙ keeps_starts Chip past up chip);
      next = λ says. record { since = chip.steps; is = life; mute = chip.mute };
    }

one_told : (over : Bool) (entries due : List Entry) → entries ≡ due → IsTold over entries due
one_told true entries due is = is
one_told false entries due is = ([], sym is ∙ sym (append-nil entries))

pub all_told : (there : List Cleared_there) (dues : List (List Entry)) → map (λ (one : Cleared_there). one.entries) there ≡ dues → AreTold there dues
all_told [] [] is = tt
all_told [] (due ∷ dues) is = absurd cc
all_told (one ∷ there) [] is = absurd cc
all_told (one ∷ there) (due ∷ dues) is =
    let first : one.entries ≡ due = cc in
    let rest : map (λ (one : Cleared_there). one.entries) there ≡ dues = cc in
    (one_told one.is_over one.entries due first, all_told there dues rest)

-- all is told
pub line_cuts : (past : List Entry) (o : OuterState) (up down : LinkNow) → AtLine past o up down → Cuts (done_by up) past
line_cuts past o up down line = cuts_of past up down line.chip line.host (all_told (clears past) (to_clear up.lost down.lost) line.clears)

-- this is what it did
pub did_is : (now : LinkNow) (did : Did) → now.life ≡ did.steps → now.starts ≡ did.starts → done_by now ≡ did
did_is now did life starts = ap₂ (λ (steps : List Step) (begun : List (List Step)). record { steps = steps; starts = begun }) life starts

pub cuts_as : (now : LinkNow) (did : Did) (past : List Entry) → now.life ≡ did.steps → now.starts ≡ did.starts → Cuts (done_by now) past → Cuts did past
cuts_as now did past life starts cuts = subst (λ (d : Did). Cuts d past) (did_is now did life starts) cuts

-- with steps that wrote nothing, and change nothing of the course
pub cuts_more : (did : Did) (more : List Step) (past : List Entry) → course_of did.steps ≡ course_of (did.steps ++ more) → AllByRecursion IsMute more → Cuts did past → Cuts (did ⊕ more) past
cuts_more did more past same mute cuts = record {
  links = cuts.links;
  ever = cuts.ever;
  each = cuts.each;
  course = cuts.course ∙ same;
  later = cuts.later;
  starts = cuts.starts;
  next = λ says. grown cuts.later (cuts.next says);
}
  where
    grown : (later : List (List Step)) → ArePartsOf (next_start later did.steps) cuts.links.chip.parts → ArePartsOf (next_start later (did.steps ++ more)) cuts.links.chip.parts
    grown [] are = record {
      since = are.since ++ more;
      is = ap (λ (l : List Step). l ++ more) are.is ∙ append_assoc (joined cuts.links.chip.parts) are.since more;
      mute = all-append IsMute are.since more are.mute mute;
    }
    grown (start ∷ later) are = are

-- with other steps that have the same course, where no `tick` was said last
pub cuts_other : (did now : Did) (past : List Entry) → course_of did.steps ≡ course_of now.steps → did.starts ≡ now.starts → (IsTickLine (line_last past) → ⊥) → Cuts did past → Cuts now past
cuts_other did now past same starts other cuts = record {
  links = cuts.links;
  ever = cuts.ever;
  each = cuts.each;
  course = cuts.course ∙ same;
  later = cuts.later;
  starts = sym starts ∙ cuts.starts;
  next = λ says. absurd (other says);
}

-- and where a line or tick begins
pub cuts_began : (did : Did) (past : List Entry) → Cuts did past → Cuts (began did) past
cuts_began did past cuts = record {
  links = cuts.links;
  ever = cuts.ever;
  each = cuts.each;
  course = cuts.course;
  later = cuts.later ++ did.steps ∷ [];
  starts =
      ap (λ (l : List (List Step)). l ++ did.steps ∷ []) cuts.starts
      ∙ append_assoc (shown_after (start_at Chip) [] (moments_of (serial_events past) cuts.links.chip.parts)) cuts.later (did.steps ∷ []);
  next = λ says. begun cuts.later (cuts.next says);
}
  where
    begun : (later : List (List Step)) → ArePartsOf (next_start later did.steps) cuts.links.chip.parts → ArePartsOf (next_start (later ++ did.steps ∷ []) did.steps) cuts.links.chip.parts
    begun [] are = are
    begun (start ∷ later) are = are

-- and of the last restart a prefix
pub some_told : (there : List Cleared_there) (dues : List (List Entry)) (told more : List Entry) → map (λ (one : Cleared_there). one.entries) there ≡ dues
    → AreTold (there ++ record { entries = told; is_over = false } ∷ []) (dues ++ (told ++ more) ∷ [])
some_told [] [] told more is = ((more, refl), tt)
some_told [] (due ∷ dues) told more is = absurd cc
some_told (one ∷ there) [] told more is = absurd cc
some_told (one ∷ there) (due ∷ dues) told more is =
    let first : one.entries ≡ due = cc in
    let rest : map (λ (one : Cleared_there). one.entries) there ≡ dues = cc in
    (one_told one.is_over one.entries due first, some_told there dues told more rest)

-- ---- of the host's link alone

pub host_obeyed : {did : Did} (past : List Entry) → Cuts did past → HostObeyed past
host_obeyed past cuts = record { link = cuts.links.host; ever = cuts.ever }

-- ---- with nothing else told

pub cut_clears : {did : Did} (past : List Entry) → Cuts did past → ClearsNowhereElse false past → ClearsLine false past
cut_clears past cuts only = record { links = cuts.links; each = cuts.each; only = only }

pub whole_clears : {did : Did} (past : List Entry) → Cuts did (past ++ Said [] ∷ []) → ClearsNowhereElse true past → ClearsLine true past
whole_clears past cuts only = record {
  links = record { chip = cuts.links.chip; host = cuts.links.host; up = cuts.links.up; down = cuts.links.down };
  each = cuts.each;
  only = only;
}
