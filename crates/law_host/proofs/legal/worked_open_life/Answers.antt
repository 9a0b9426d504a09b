-- What is kept of a session that has not ended is what the life shows, of each node, and its message is due again.
use Rattle.std.proofs.Common.{◌≡◌, ℕ, ◌==◌, Bool, true, if◌then◌else◌, List, [], ◌∷◌, ◌++◌, inl, refl, sym, ap, subst, ◌∙◌}
use Rattle.std.specs.Prelude.{Some, None, Option, IfSome}
use Rattle.std.specs.List.{AllByRecursion, list_any}
use Rattle.zw_words.specs.declared.side.Side.TheVariants.{Host}
use Rattle.zw_text.specs.declared.entry.Entry.{Entry}
use Rattle.zw_text.specs.Transcript.{accepted, sessions}
use Rattle.host_keep.specs.Kept.{KeptNode, kept_of, node_of}
use Rattle.law_time.specs.law_transcript.Commands.{numbers_of}
use Rattle.law_time.specs.law_transcript.Lists.{Has, Rises}
use Rattle.law_time.specs.law_transcript.Once.{CarriesOnce}
use Rattle.law_time.specs.law_transcript.Records.{ShowsNode}
use Rattle.law_time.specs.law_wire.Links.{KeepsLink}
use Rattle.law_time.specs.law_wire.Serial.{ended}
use Rattle.law_time.specs.law_wire.WorkedRecords.{begun_records}
use Rattle.law_time.specs.Choice.{may_follow, may_number, may_send}
use Rattle.law_time.specs.Heeds.{Heeds}
use Rattle.law_time.specs.Queue.{may_queue}
use Rattle.law_time.specs.Rests.{may_rest}
use Rattle.law_time.specs.Unanswered.{may_give_up}
use Rattle.law_host.specs.Course.{blank_book}
use Rattle.law_host.specs.Heard.{heeds_alone, listing_heard}
use Rattle.law_host.specs.HostLegal.{IsHostLegal, IsLegalAlone}
use Rattle.law_host.specs.Nonces.{nonce_with}
use Rattle.law_host.specs.Starting.{KnowsNode, book_kept}
use Rattle.law_host.specs.Worked.{after_open_life, all_kept, open_life, session_resumed}
use Rattle.law_time.proofs.law_transcript_Computing.{computing_devices}
use Rattle.law_time.proofs.Deciding.{kept_after}
use Rattle.law_time.proofs.law_transcript_Entries.{stores_after}
use Rattle.law_time.proofs.Judging.{keeps_link}
use Rattle.law_time.proofs.Moves.{acts_of}
use Rattle.law_time.proofs.ShownRecords.{above, blank_at, every, gives_begun, none_asked, none_begun, others_are, shows_nodes}
use Rattle.law_time.proofs.Computing.{computing}
use Rattle.law_host.proofs.Noting.{noted}
use Rattle.law_host.proofs.legal.worked_open_life.Goals as goal

-- no payload comes
abbrev heeds : Heeds
heeds = heeds_alone (λ past carried. [])

-- ---- what the host starts with

shown : (node : ℕ) → ShowsNode open_life node (node_of (kept_of begun_records) node)
unfolding computing_devices
shown = shows_nodes open_life (kept_of begun_records) 3 (record { joined = refl; interviewed = refl; waits = refl; begun = refl; ended = refl }, (record { joined = refl; interviewed = refl; waits = refl; begun = refl; ended = refl }, (record { joined = refl; interviewed = refl; waits = refl; begun = refl; ended = refl }, tt))) (blank_at 230) refl refl refl

known : (node : ℕ) → KnowsNode open_life node (node_of (kept_of begun_records) node)
unfolding computing computing_devices
known = every 3 (λ node. KnowsNode open_life node (node_of (kept_of begun_records) node)) (record { lists = refl; listening = refl }, (record { lists = refl; listening = refl }, (record { lists = refl; listening = refl }, tt)))
    (λ more. subst (λ (one : KeptNode). KnowsNode open_life (above 3 more) one) (sym (blank_at 230 more)) (record {
      lists = ap (λ (asked : List Bool). if list_any (λ succeeded. succeeded) asked then Some (listing_heard open_life (above 3 more)) else
          (if above 3 more == 2 then Some (0x25 ∷ 0x85 ∷ 0x6C ∷ []) else None)) (none_asked 3 more open_life refl)
          ∙ ap (λ (is : Bool). if is then Some (0x25 ∷ 0x85 ∷ 0x6C ∷ []) else None) (others_are 3 more 2 refl);
      listening = others_are 3 more 2 refl;
    }))

booked : (node : ℕ) → blank_book node ≡ book_kept node (node_of (kept_of begun_records) node)
unfolding computing_devices
booked = every 3 (λ node. blank_book node ≡ book_kept node (node_of (kept_of begun_records) node)) (refl, (refl, (refl, tt)))
    (λ more. ap (λ (one : KeptNode). book_kept (above 3 more) one) (sym (blank_at 230 more)))

none_live : (node : ℕ) → (node_of (kept_of begun_records) node).live ≡ None
unfolding computing_devices
none_live = every 3 (λ node. (node_of (kept_of begun_records) node).live ≡ None) (refl, (refl, (refl, tt))) (λ more. ap (λ (one : KeptNode). one.live) (blank_at 230 more))

-- ---- what it does

abbrev all : List Entry
all = open_life ++ session_resumed

idle : (node : ℕ) → sessions node all ≡ [] → CarriesOnce node all
idle node none = record {
  commands_rise = subst (λ (numbers : List ℕ). Rises numbers) (sym none) tt;
  commands_accepted = subst (λ (numbers : List ℕ). AllByRecursion (Has (numbers_of (accepted node all))) numbers) (sym none) tt;
}

once : (node : ℕ) → CarriesOnce node all
unfolding computing
once = every 3 (λ node. CarriesOnce node all) (idle 0 refl, (idle 1 refl, (record { commands_rise = (tt, tt); commands_accepted = (inl refl, tt) }, tt)))
    (λ more. idle (above 3 more) (none_begun 3 more all refl))

linked : KeepsLink Host (ended true all)
unfolding computing
linked = keeps_link Host (ended true all) (acts_of Host (ended true all)) refl refl refl refl refl

legal : IsHostLegal [] heeds after_open_life true session_resumed None
unfolding computing
legal = record {
  answers = record { between = (tt, (tt, (tt, (tt, (tt, (tt, (tt, tt))))))); in_the_end = λ whole. tt };
  cancels = (tt, (tt, (tt, (tt, (tt, (tt, (tt, tt)))))));
  sessions = (tt, (tt, (tt, (tt, (tt, (tt, (tt, tt)))))));
  carries = once;
  link = linked;
  notes = noted [] heeds after_open_life session_resumed all_kept refl;
  stores = record { asked = ([], refl); all = λ whole. refl; following = stores_after all tt };
  values = (tt, (tt, (tt, (tt, (tt, (tt, (tt, (tt, tt))))))));
  sends = ((inl refl, tt), (tt, (tt, ((inl refl, tt), (tt, (tt, (tt, tt)))))));
  prompt = record {
    fits = kept_after (may_queue heeds) open_life session_resumed refl;
    turn = kept_after (may_send heeds) open_life session_resumed refl;
    one_by_one = kept_after may_follow open_life session_resumed refl;
    numbers = kept_after may_number open_life session_resumed refl;
    begins = (tt, (tt, (tt, (tt, (tt, (tt, (tt, (tt, tt))))))));
    gives_up = record { between = kept_after (may_give_up heeds) open_life session_resumed refl; in_the_end = λ whole. refl };
    rests = record { between = kept_after (may_rest heeds) open_life session_resumed refl; in_the_end = λ whole. refl };
  };
  records_kept = λ whole. tt;
}

none_of : (P : List ℕ → Type 0) (live : Option (List ℕ)) → live ≡ None → IfSome live P
none_of P None none = tt
none_of P (Some nonce) none = cc

alone : IsLegalAlone [] after_open_life true session_resumed None
unfolding computing
alone = record { taken = λ past carried. []; legal = legal; heeded = tt }

pub returns : goal.returns
unfolding computing_devices
returns c = record {
  start = after_open_life;
  starts = record {
    kept = kept_of begun_records;
    gives = gives_begun;
    shows = record { orders = refl; cancelled = refl; nodes = shown };
    anew = refl;
    knows = known;
    books = booked;
  };
  alone = alone;
  live = λ node. none_of (λ nonce. nonce ≡ nonce_with alone.legal.notes.drawn node (node_of (kept_of begun_records) node).given) (node_of (kept_of begun_records) node).live (none_live node);
}
