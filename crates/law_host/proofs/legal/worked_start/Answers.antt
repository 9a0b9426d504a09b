use Rattle.std.proofs.Common.{◌≡◌, ℕ, Bool, [], ◌∷◌, if◌then◌else◌, refl, sym, ap, subst}
use Rattle.std.specs.Prelude.{Some, None}
use Rattle.host_keep.specs.Kept.{KeptNode, kept_of, node_of}
use Rattle.host_keep.specs.Legal.{first_illegal}
use Rattle.law_time.specs.law_transcript.Records.{ShowsNode}
use Rattle.law_time.proofs.law_transcript_Computing.{computing_devices}
use Rattle.law_time.proofs.ShownRecords.{above, blank_at, every, gives, others_are, shows_nodes}
use Rattle.law_host.specs.Course.{blank_book}
use Rattle.law_host.specs.Starting.{KnowsNode, book_kept}
use Rattle.law_host.proofs.legal.worked_start.Goals as goal

shown : (node : ℕ) → ShowsNode [] node (node_of (kept_of []) node)
unfolding computing_devices
shown = shows_nodes [] (kept_of []) 3 (
  record { joined = refl; interviewed = refl; waits = refl; begun = refl; ended = refl },
  (
    record { joined = refl; interviewed = refl; waits = refl; begun = refl; ended = refl },
    (record { joined = refl; interviewed = refl; waits = refl; begun = refl; ended = refl }, tt),
  ),
) (blank_at 230) refl refl refl

-- of node 2 alone anything is known
known : (node : ℕ) → KnowsNode [] node (node_of (kept_of []) node)
unfolding computing_devices
known = every 3 (λ node. KnowsNode [] node (node_of (kept_of []) node))
    (record { lists = refl; listening = refl }, (record { lists = refl; listening = refl }, (record { lists = refl; listening = refl }, tt)))
    (λ more. subst (λ (one : KeptNode). KnowsNode [] (above 3 more) one) (sym (blank_at 230 more)) (record {
      lists = ap (λ (is : Bool). if is then Some (0x25 ∷ 0x85 ∷ 0x6C ∷ []) else None) (others_are 3 more 2 refl);
      listening = others_are 3 more 2 refl;
    }))

booked : (node : ℕ) → blank_book node ≡ book_kept node (node_of (kept_of []) node)
unfolding computing_devices
booked = every 3 (λ node. blank_book node ≡ book_kept node (node_of (kept_of []) node)) (refl, (refl, (refl, tt)))
    (λ more. ap (λ (one : KeptNode). book_kept (above 3 more) one) (sym (blank_at 230 more)))

pub returns : goal.returns
unfolding computing_devices first_illegal
returns c = record {
  kept = kept_of [];
  gives = gives [] tt refl;
  shows = record { orders = refl; cancelled = refl; nodes = shown };
  anew = refl;
  knows = known;
  books = booked;
}
