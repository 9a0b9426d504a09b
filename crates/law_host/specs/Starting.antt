-- A host that starts from records (this project's own rule): what stands before it shows what the records give, as to a host that starts anew there, and
-- its nonces go on from those that were kept.
use Rattle.std.specs.Prelude.{◌≡◌, ℕ, is_some, Bool, false, List, [], Option, Some, None, IfSome}
use Rattle.host_keep.specs.Kept.{Interview, Kept, KeptNode, classes_said, node_of}
use Rattle.host_keep.specs.Legal.{Give}
use Rattle.zw_text.specs.declared.entry.Entry.{Entry}
use Rattle.law_time.specs.law_transcript.Nodes.{known_classes}
use Rattle.law_time.specs.law_transcript.Records.{Shows}
use Rattle.law_time.specs.law_transcript.Restarts.{since_restart}
use Rattle.law_time.specs.Interviews.{listens}
use Rattle.law_host.specs.Course.{Book, book_of}
use Rattle.law_host.specs.Heard.{listing_heard}
use Rattle.law_host.specs.HostLegal.{IsLegalAlone}
use Rattle.law_host.specs.Nonces.{nonce_with}
use Rattle.law_host.specs.Notes.{Start}

-- whether the interview that is kept said that the node listens
abbrev pub listens_said : Option Interview → Bool
listens_said None = false
listens_said (Some interview) = interview.listens

-- what the host takes a node to list, and whether to listen, is what is kept of it
pub record KnowsNode (before : List Entry) (node : ℕ) (kept : KeptNode) : Type 0 where
  pub lists : known_classes listing_heard before node ≡ classes_said kept.interview
  pub listening : listens node before ≡ listens_said kept.interview

-- how many nonces were counted and given, and whether the last is live
abbrev pub book_kept : ℕ → KeptNode → Book
book_kept node kept = record {
  node = node;
  sealer = record { seen = kept.seen; pending = []; ready = [] };
  giver = record { given = kept.given; live = is_some kept.live; offers = [] };
}

-- a start from records
pub record StartsFrom (records : List (List ℕ)) (start : Start) : Type 0 where
  pub kept : Kept
  pub gives : Give records kept
  pub shows : Shows start.before kept
  pub anew : since_restart start.before ≡ []
  pub knows : (node : ℕ) → KnowsNode start.before node (node_of kept node)
  pub books : (node : ℕ) → book_of node start.books ≡ book_kept node (node_of kept node)

-- a host alone that is legal from a start from these records, and has the nonces that were live
pub record IsLegalFrom (key : List ℕ) (records : List (List ℕ)) (whole : Bool) (heard : List Entry) (told : Option (List (List ℕ))) : Type 0 where
  pub start : Start
  pub starts : StartsFrom records start
  pub alone : IsLegalAlone key start whole heard told
  pub live : (node : ℕ) → IfSome (node_of starts.kept node).live (λ nonce. nonce ≡ nonce_with alone.legal.notes.drawn node (node_of starts.kept node).given)
