-- The facts of earlier lives go through a story.
use Rattle.std.proofs.Common.{◌≡◌, ℕ, List, [], ◌∷◌, ◌++◌, Option, Some, None, sym, ap, subst, ◌∙◌, append-nil}
use Rattle.std.specs.Prelude.{IsSome}
use Rattle.s0_crypto.specs.declared.key_pair.Keys.{Keys}
use Rattle.zw_text.specs.declared.entry.Entry.{Entry}
use Rattle.run_lines.specs.declared.status.Status.{Status}
use Rattle.host_keep.specs.Keeping.{OptAdds}
use Rattle.host_keep.specs.declared.record.Record.{Record}
use Rattle.run_all.specs.host_core.Network.{keys_of}
use Rattle.run_all.specs.host_core.Opening.{Opens}
use Rattle.host_model.specs.State.{HostState, HostParts}
use Rattle.host_model.specs.Events.{HostEvent}
use Rattle.host_model.specs.Did.{MayAll, after_all, records_all, texts_of}
use Rattle.host_model.specs.declared.out.HostOut.{HostOut}
use Rattle.host_model.specs.Opening.{opened}
use Rattle.proof_host.specs.Entries.{entries_all}
use Rattle.proof_host.specs.Facts.{Facts}
use Rattle.host_model.specs.Recording.{AllOfJoined}
use Rattle.run_all.specs.port_run.declared.ending.Served.{Served}
use Rattle.run_all.specs.port_run.declared.ending.Served.TheVariants.{Ok, Undone, BadLine, Opening, ReadFault, WriteFault, InputTooLong, NoMemory}
use Rattle.run_all.specs.port_run.Schedule.{is_quiet}
use Rattle.run_all.specs.port_run.Ending.{Desk, Started}
use Rattle.proof_commands.specs.Lives.{AreLivesOf, GoesOn, entries_of, records_of}
use Rattle.proof_commands.specs.Port.{Story, Does, IsStory, Tells, first, last, transcript}
use Rattle.proof_commands.proofs.Living.{leaves_life}

-- what a story did: from the records on that the host opened from, with what the keeper told before and after
record Lived (keys : Keys) (number : ℕ) (before after : Option (List (List ℕ))) (story : Story) : Type 0 where
  host : HostParts
  opens : Opens keys number before host
  records : opens.records ≡ story.records
  told : Option (List (List ℕ))
  still : OptAdds before told []
  may : MayAll host.state story.events
  adds : OptAdds told after (texts_of (records_all host.state story.events))

lived_by : (keys : Keys) (number : ℕ) (texts : List (List ℕ)) (old new : Desk) (story : Story) (started : Started keys number texts old) (end : HostParts) (outs : List HostOut)
    → Does started end new.shelf outs story → Lived keys number old.shelf.records new.shelf.records story
lived_by keys number texts old new story started end outs does = record {
  host = started.host;
  opens = started.opens;
  records = does.records;
  told = started.shelf.records;
  still = started.records;
  may = does.did.may;
  adds = does.did.records;
}

lived : (end : Served) (keys : Keys) (number : ℕ) (texts : List (List ℕ)) (old new : Desk) (story : Story) → IsStory end is_quiet keys number texts old new story
    → Lived keys number old.shelf.records new.shelf.records story
lived Ok keys number texts old new story is = lived_by keys number texts old new story is.0.started is.0.host _ is.1
lived (Undone line) keys number texts old new story is = lived_by keys number texts old new story is.0.started is.0.host _ is.1
lived (BadLine line fault) keys number texts old new story is = absurd is
lived (Opening fault) keys number texts old new story is = absurd is
lived ReadFault keys number texts old new story is = lived_by keys number texts old new story is.0.started is.0.host _ is.1
lived WriteFault keys number texts old new story is = lived_by keys number texts old new story is.0.started is.0.host _ is.1
lived InputTooLong keys number texts old new story is = lived_by keys number texts old new story is.0.started is.0.host _ is.1
lived NoMemory keys number texts old new story is = lived_by keys number texts old new story is.0.started is.0.host _ is.1

-- the same from the host that is opened from the story's records
may_first : (keys : Keys) (number : ℕ) (before after : Option (List (List ℕ))) (story : Story) (l : Lived keys number before after story) → l.host.state ≡ opened keys story.records
may_first keys number before after story l = ap (λ (p : HostParts). p.state) l.opens.state ∙ ap (λ (r : List Record). opened keys r) l.records

adds_both : (before told after : Option (List (List ℕ))) (texts : List (List ℕ)) → OptAdds before told [] → OptAdds told after texts → OptAdds before after texts
adds_both None told after texts still adds = subst (λ (o : Option (List (List ℕ))). OptAdds o after texts) still adds
adds_both (Some kept) told after texts still adds = subst (λ (o : Option (List (List ℕ))). OptAdds o after texts) (still ∙ ap (λ (l : List (List ℕ)). Some l) (append-nil kept)) adds

-- the keeper holds what it held at first, and the records of the story
pub story_adds : (ended : Status) (key : List ℕ) (number : ℕ) (texts : List (List ℕ)) (old new : Desk) (story : Story) → Tells ended key number texts old new story
    → OptAdds old.shelf.records new.shelf.records (texts_of (records_all (first key story) story.events))
story_adds ended key number texts old new story tells =
    let l = lived tells.end (keys_of key) number texts old new story tells.is in
    adds_both old.shelf.records l.told new.shelf.records (texts_of (records_all (first key story) story.events)) l.still
    (subst (λ (h : HostState). OptAdds l.told new.shelf.records (texts_of (records_all h story.events))) (may_first (keys_of key) number old.shelf.records new.shelf.records story l) l.adds)

module _ (records_so : (keys : Keys) (number : ℕ) (told : Option (List (List ℕ))) (lives : List (List HostEvent)) (host : HostParts) → GoesOn keys number told lives
    → (opens : Opens keys number told host) → records_of keys lives ≡ opens.records) where
  -- the story goes on from the records of the lives
  from_lives : (keys : Keys) (number : ℕ) (before after : Option (List (List ℕ))) (story : Story) (lives : List (List HostEvent)) → Lived keys number before after story
      → GoesOn keys number before lives → records_of keys lives ≡ story.records
  from_lives keys number before after story lives l on = records_so keys number before lives l.host on l.opens ∙ l.records

  pub story_keeps : ((keys : Keys) (lives : List (List HostEvent)) → AreLivesOf keys lives → Facts (entries_of keys lives) (opened keys (records_of keys lives)))
      → ((past : List Entry) (h : HostState) (events : List HostEvent) → Facts past h → MayAll h events → Facts (past ++ entries_all h events) (after_all h events))
      → (ended : Status) (key : List ℕ) (number : ℕ) (texts : List (List ℕ)) (old new : Desk) (story : Story) (lives : List (List HostEvent))
      → Tells ended key number texts old new story → GoesOn (keys_of key) number old.shelf.records lives → Facts (transcript key lives story) (last key story)
  story_keeps goes_on keeps ended key number texts old new story lives tells on =
      let keys = keys_of key in
      let l = lived tells.end keys number texts old new story tells.is in
      keeps (entries_of keys lives) (first key story) story.events
      (subst (λ (r : List Record). Facts (entries_of keys lives) (opened keys r)) (from_lives keys number old.shelf.records new.shelf.records story lives l on) (goes_on keys lives on.are))
      (subst (λ (h : HostState). MayAll h story.events) (may_first keys number old.shelf.records new.shelf.records story l) l.may)

  pub story_leaves : (ended : Status) (key : List ℕ) (number : ℕ) (texts : List (List ℕ)) (old new : Desk) (story : Story) (lives : List (List HostEvent))
      → Tells ended key number texts old new story → GoesOn (keys_of key) number old.shelf.records lives → (many : ℕ) → IsSome new.shelf.records → AllOfJoined (first key story) story.events
      → GoesOn (keys_of key) many new.shelf.records (lives ++ story.events ∷ [])
  story_leaves ended key number texts old new story lives tells on many some well =
      let keys = keys_of key in
      let l = lived tells.end keys number texts old new story tells.is in
      let back : story.records ≡ records_of keys lives = sym (from_lives keys number old.shelf.records new.shelf.records story lives l on) in
      let here : l.host.state ≡ opened keys (records_of keys lives)
      = may_first keys number old.shelf.records new.shelf.records story l ∙ ap (λ (r : List Record). opened keys r) back in
      leaves_life keys number many old.shelf.records l.told new.shelf.records lives story.events on l.still
      (subst (λ (h : HostState). OptAdds l.told new.shelf.records (texts_of (records_all h story.events))) here l.adds) some
      (subst (λ (h : HostState). MayAll h story.events) here l.may) (subst (λ (r : List Record). AllOfJoined (opened keys r) story.events) back well)
