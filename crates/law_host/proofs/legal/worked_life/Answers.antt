-- What is kept is what the first life shows, of each node, and the next session is due.
use Rattle.std.proofs.Common.{◌≡◌, ℕ, ◌==◌, Bool, true, false, if◌then◌else◌, List, [], ◌∷◌, ◌++◌, inl, inr, refl, sym, ap, subst, ◌∙◌, arith}
use Rattle.std.specs.Prelude.{Some, None, Option, IfSome}
use Rattle.std.specs.List.{AllByRecursion, list_any}
use Rattle.zw_words.specs.declared.side.Side.TheVariants.{Host}
use Rattle.zw_text.specs.declared.entry.Entry.{Entry}
use Rattle.zw_text.specs.Transcript.{accepted, sessions}
use Rattle.host_keep.specs.Kept.{KeptNode, kept_of, node_of}
use Rattle.law_time.specs.law_transcript.Answers.{MayAnswer, refusals_by_host}
use Rattle.law_time.specs.law_transcript.Commands.{numbers_of}
use Rattle.law_time.specs.law_transcript.Lists.{EachAfter, Has, Rises, last_or}
use Rattle.law_time.specs.law_transcript.Once.{CarriesOnce}
use Rattle.law_time.specs.law_transcript.Records.{ShowsNode}
use Rattle.law_time.specs.law_wire.Links.{KeepsLink}
use Rattle.law_time.specs.law_wire.Serial.{ended}
use Rattle.law_time.specs.Choice.{may_follow, may_number, may_send}
use Rattle.law_time.specs.Heeds.{Heeds}
use Rattle.law_time.specs.Interviews.{listens}
use Rattle.law_time.specs.Queue.{may_queue}
use Rattle.law_time.specs.Rests.{may_rest}
use Rattle.law_time.specs.Unanswered.{may_give_up}
use Rattle.law_host.specs.Course.{blank_book}
use Rattle.law_host.specs.Heard.{heeds_alone, listing_heard}
use Rattle.law_host.specs.HostLegal.{IsHostLegal, IsLegalAlone}
use Rattle.law_host.specs.Nonces.{nonce_with}
use Rattle.law_host.specs.Starting.{KnowsNode, book_kept}
use Rattle.law_host.specs.Worked.{after_life, all_kept, first_life, life_records, next_session}
use Rattle.law_time.proofs.law_transcript_Computing.{computing_devices}
use Rattle.law_time.proofs.Deciding.{kept_after}
use Rattle.law_time.proofs.law_transcript_Entries.{stores_after}
use Rattle.law_time.proofs.Judging.{keeps_link}
use Rattle.law_time.proofs.Moves.{acts_of}
use Rattle.law_time.proofs.ShownRecords.{above, blank_at, every, is_other, none_asked, none_begun, others_are, shows_nodes}
use Rattle.law_time.proofs.Computing.{computing}
use Rattle.law_host.proofs.FirstLife.{gives_life}
use Rattle.law_host.proofs.Noting.{noted}
use Rattle.law_host.proofs.legal.worked_life.Goals as goal

-- no payload comes
abbrev heeds : Heeds
heeds = heeds_alone (λ past carried. [])

-- ---- what the host starts with

shown : (node : ℕ) → ShowsNode first_life node (node_of (kept_of life_records) node)
unfolding computing_devices
shown = shows_nodes first_life (kept_of life_records) 6 (record { joined = refl; interviewed = refl; waits = refl; begun = refl; ended = refl }, (record { joined = refl; interviewed = refl; waits = refl; begun = refl; ended = refl }, (record { joined = refl; interviewed = refl; waits = refl; begun = refl; ended = refl }, (record { joined = refl; interviewed = refl; waits = refl; begun = refl; ended = refl }, (record { joined = refl; interviewed = refl; waits = refl; begun = refl; ended = refl }, (record { joined = refl; interviewed = refl; waits = refl; begun = refl; ended = refl }, tt))))))
    (blank_at 227) refl refl refl

-- of later nodes nothing is known
deaf : (more : ℕ) → listens (above 6 more) first_life ≡ false
unfolding computing
deaf more =
    ap (λ (is : Bool). last_or (above 6 more == 2) ((if is then false ∷ [] else []) ++ [])) (is_other 6 more 5 refl) ∙ others_are 6 more 2 refl

known : (node : ℕ) → KnowsNode first_life node (node_of (kept_of life_records) node)
unfolding computing computing_devices
known = every 6 (λ node. KnowsNode first_life node (node_of (kept_of life_records) node)) (record { lists = refl; listening = refl }, (record { lists = refl; listening = refl }, (record { lists = refl; listening = refl }, (record { lists = refl; listening = refl }, (record { lists = refl; listening = refl }, (record { lists = refl; listening = refl }, tt))))))
    (λ more. subst (λ (one : KeptNode). KnowsNode first_life (above 6 more) one) (sym (blank_at 227 more)) (record {
      lists = ap (λ (asked : List Bool). if list_any (λ succeeded. succeeded) asked then Some (listing_heard first_life (above 6 more)) else
          (if above 6 more == 2 then Some (0x25 ∷ 0x85 ∷ 0x6C ∷ []) else None)) (none_asked 6 more first_life refl)
          ∙ ap (λ (is : Bool). if is then Some (0x25 ∷ 0x85 ∷ 0x6C ∷ []) else None) (others_are 6 more 2 refl);
      listening = deaf more;
    }))

booked : (node : ℕ) → blank_book node ≡ book_kept node (node_of (kept_of life_records) node)
unfolding computing_devices
booked = every 6 (λ node. blank_book node ≡ book_kept node (node_of (kept_of life_records) node)) (refl, (refl, (refl, (refl, (refl, (refl, tt))))))
    (λ more. ap (λ (one : KeptNode). book_kept (above 6 more) one) (sym (blank_at 227 more)))

none_live : (node : ℕ) → (node_of (kept_of life_records) node).live ≡ None
unfolding computing_devices
none_live = every 6 (λ node. (node_of (kept_of life_records) node).live ≡ None) (refl, (refl, (refl, (refl, (refl, (refl, tt)))))) (λ more. ap (λ (one : KeptNode). one.live) (blank_at 227 more))

-- ---- what it does

abbrev all : List Entry
all = first_life ++ next_session

-- each line has the answer that is due, and the restart none
answered : EachAfter (MayAnswer heeds.listing (refusals_by_host heeds.listing)) first_life next_session
unfolding computing
answered = (tt, (tt, (tt, (tt, (tt, tt)))))

idle : (node : ℕ) → sessions node all ≡ [] → CarriesOnce node all
idle node none = record {
  commands_rise = subst (λ (numbers : List ℕ). Rises numbers) (sym none) tt;
  commands_accepted = subst (λ (numbers : List ℕ). AllByRecursion (Has (numbers_of (accepted node all))) numbers) (sym none) tt;
}

once : (node : ℕ) → CarriesOnce node all
unfolding computing
once = every 6 (λ node. CarriesOnce node all) (
  idle 0 refl,
  (
    idle 1 refl,
    (
      record { commands_rise = ((omega arith, tt), (tt, tt)); commands_accepted = (inl refl, (inr (inl refl), tt)) },
      (idle 3 refl, (idle 4 refl, (idle 5 refl, tt))),
    ),
  ),
) (λ more. idle (above 6 more) (none_begun 6 more all refl))

linked : KeepsLink Host (ended true all)
unfolding computing
linked = keeps_link Host (ended true all) (acts_of Host (ended true all)) refl refl refl refl refl

legal : IsHostLegal [] heeds after_life true next_session None
unfolding computing
legal = record {
  answers = record { between = answered; in_the_end = λ whole. tt };
  cancels = (tt, (tt, (tt, (tt, (tt, tt)))));
  sessions = ((refl, (tt, tt)), (tt, (tt, (tt, (tt, tt)))));
  carries = once;
  link = linked;
  notes = noted [] heeds after_life next_session all_kept refl;
  stores = record { asked = ([], refl); all = λ whole. refl; following = stores_after all (tt, tt) };
  values = (tt, (tt, (tt, (tt, (tt, (tt, tt))))));
  sends = (tt, ((inl refl, tt), (tt, (tt, (tt, tt)))));
  prompt = record {
    fits = kept_after (may_queue heeds) first_life next_session refl;
    turn = kept_after (may_send heeds) first_life next_session refl;
    one_by_one = kept_after may_follow first_life next_session refl;
    numbers = kept_after may_number first_life next_session refl;
    begins = (tt, (refl, (tt, (tt, (tt, (tt, tt))))));
    gives_up = record { between = kept_after (may_give_up heeds) first_life next_session refl; in_the_end = λ whole. refl };
    rests = record { between = kept_after (may_rest heeds) first_life next_session refl; in_the_end = λ whole. refl };
  };
  records_kept = λ whole. tt;
}

none_of : (P : List ℕ → Type 0) (live : Option (List ℕ)) → live ≡ None → IfSome live P
none_of P None none = tt
none_of P (Some nonce) none = cc

alone : IsLegalAlone [] after_life true next_session None
unfolding computing
alone = record { taken = λ past carried. []; legal = legal; heeded = tt }

pub returns : goal.returns
unfolding computing_devices
returns c = record {
  start = after_life;
  starts = record {
    kept = kept_of life_records;
    gives = gives_life;
    shows = record { orders = refl; cancelled = refl; nodes = shown };
    anew = refl;
    knows = known;
    books = booked;
  };
  alone = alone;
  live = λ node. none_of (λ nonce. nonce ≡ nonce_with alone.legal.notes.drawn node (node_of (kept_of life_records) node).given) (node_of (kept_of life_records) node).live (none_live node);
}
