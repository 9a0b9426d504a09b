-- What a host keeps true over all that it heard, whatever that was (this project's own rule).
use Rattle.std.specs.Prelude.{◌≡◌, ℕ, Bool, true, List, [], Option, Some, None}
use Rattle.zw_words.specs.declared.side.Side.TheVariants.{Host}
use Rattle.zw_text.specs.declared.line.ReplayLine.{ReplayLine}
use Rattle.zw_text.specs.declared.entry.Entry.{Entry}
use Rattle.s0_crypto.specs.declared.key_pair.Keys.{Keys}
use Rattle.port_run.specs.host_core.Network.{keys_of}
use Rattle.host_heard.specs.declared.told.Told.{Told}
use Rattle.host_keep.specs.Keeping.{OptAdds}
use Rattle.law_transcript.specs.Lists.{EachAfter}
use Rattle.law_transcript.specs.Payloads.{SendsWhatIsDue}
use Rattle.proof_asking.specs.proof_requests.law_host.Heard.{heeds_alone, listing_heard}
use Rattle.proof_asking.specs.proof_requests.law_host.HostLegal.{IsLegalAlone}
use Rattle.proof_asking.specs.proof_requests.law_host.Notes.{first_start}
use Rattle.law_transcript.specs.Units.{Carried}
use Rattle.law_time.specs.Prompt.{IsPrompt}
use Rattle.law_time.specs.Errands.{SaysHowDone}
use Rattle.law_wire.specs.Links.{KeepsLink}
use Rattle.law_wire.specs.Serial.{ended}
use Rattle.law_time.specs.Holds.{HoldsAsAsked}
use Rattle.law_time.specs.Interviews.{EndsInterviews}
use Rattle.law_time.specs.Questions.{AnswersQuestions}
use Rattle.law_time.specs.Waking.{FallsAsleep, WakesAsTold}
use Rattle.run_lines.specs.Lines.{TextLine}
use Rattle.run_replay.specs.Machine.{Lone}
use Rattle.proof_host.specs.Laws.{HostLaws}
use Rattle.proof_noting.specs.proof_choice.proof_ends.proof_notes.proof_attempts.proof_walk.Time.{MayCount}
use Rattle.proof_asking.specs.proof_requests.proof_alone.State.{HostMachine, first_alone}
use Rattle.proof_asking.specs.proof_requests.proof_alone.Phases.{Phase, Resting}
use Rattle.proof_asking.specs.proof_requests.proof_alone.Careful.{RunCarefully}
use Rattle.proof_asking.specs.proof_known.Known.{AreForHost, KeepsWhatIsSaid}
use Rattle.proof_asking.specs.proof_known.Noted.{NotesWhatOpens, NotesWhatWasTold}
use Rattle.proof_noting.specs.proof_choice.proof_ends.proof_notes.Full.{NotesInFull}
use Rattle.proof_noting.specs.proof_choice.proof_ends.Ends.{NotesOfEnds}
use Rattle.proof_noting.specs.proof_choice.proof_ends.proof_nonces.Giving.{CountsNonces}
use Rattle.proof_noting.specs.proof_choice.proof_ends.proof_nonces.Sealing.{SealsOnce}
use Rattle.proof_noting.specs.proof_choice.proof_ends.proof_notes.Unkept.{UnkeptWhereAsked}
use Rattle.proof_replay.specs.Heard.{AreReplayed, AreSaid, Replayed, heard_of, told_of}

-- By some messages of each payload, those that the host took up, it does what it is asked for as soon as it can, each thing in its turn.
abbrev pub IsPromptByMessages : Bool → List Entry → Type 0
IsPromptByMessages whole heard = (taken : List Entry → Carried → List Told) × IsPrompt whole (heeds_alone taken) heard

-- One field a law. Orders, sessions and outcomes keep their laws.
-- Each line has its answer; what is taken back, carried, stored and shown is so, and the records, where they are told, say what is shown.
-- A command ends, and values, old reports and what cannot be read are noted, only where a payload of the node was judged that tells it; what is sealed, in what it opens to.
-- After each payload that was judged stand exactly the notes of its messages, in order and before anything else is done; and that a record was not kept is said only where one was asked for.
-- A node is taken to be awake where it tells so, and wherever it does.
-- It falls asleep where its third attempt, or telling it that there is no more for it, has ended, and wherever one of these has.
-- It is held awake where the report that ends its session may ask so, and wherever it does.
-- The answers to questions stand where the first response to the last request was judged, and wherever it was.
-- An interview is said to have succeeded or failed where its request ended so, and wherever a frame ended it; and so it is said how a Set or Get that a line asked for ended.
-- What the end of a request, or a command that is given up, has noted stands together, once and in order, and nowhere else.
-- It is prompt: its queue is full just where it is said; requests are sent in their turn, one after another, and numbered; a session begins with its unit; a command is given up after three
-- attempts; and where it rests nothing is left undone.
-- The number of a tick is above those before it, and lines have asked for so many ticks.
-- Each payload that it asks its chip to send is a message of the last session of its node, by what the node listed, a nonce or a question for one, lets the node sleep, or was
-- asked for by a line; where its keys are those of a network key, by what nodes told openly or sealed with that key.
-- Each message that it seals is for a nonce that its node told since it was asked, each question serving once; and the nonces that it gives, and those for which it opens, have numbers in order.
-- Its link kept the rules of the serial line, a new one from each start on.
pub record HostsKeepLaws (keys : Keys) (whole : Bool) (heard : List Entry) (records : Option (List (List ℕ))) : Type 0 where
  pub orders : HostLaws heard
  pub said : KeepsWhatIsSaid whole heard records
  pub notes : NotesWhatWasTold heard
  pub opens : NotesWhatOpens keys heard
  pub in_full : NotesInFull keys whole heard
  pub unkept : UnkeptWhereAsked keys heard
  pub wakes : WakesAsTold heard
  pub sleeps : FallsAsleep whole heard
  pub holds : HoldsAsAsked heard
  pub questions : AnswersQuestions heard
  pub interviews : EndsInterviews heard
  pub says_done : (key : List ℕ) → keys ≡ keys_of key → SaysHowDone listing_heard heard
  pub ends : NotesOfEnds whole heard
  pub prompt : IsPromptByMessages whole heard
  pub ticks : EachAfter MayCount [] heard
  pub sends : (key : List ℕ) → keys ≡ keys_of key → SendsWhatIsDue listing_heard key heard
  pub seals_once : SealsOnce keys heard
  pub nonces : CountsNonces keys heard
  pub link : KeepsLink Host (ended whole heard)

-- where the keeper tells its records, they are those that a run holds
abbrev pub Agrees : Option (List (List ℕ)) → Option (List (List ℕ)) → Type 0
Agrees None held = Unit {0}
Agrees (Some texts) held = held ≡ Some texts

-- A careful run of a host alone that began without records tells this. Where all was run it ends at rest with no tick to come, and holds the records that the keeper tells.
-- No line that it refuses is for others, and the host's link kept the rules of the line.
pub record IsHeardAlone (keys : Keys) (whole : Bool) (heard : List Entry) (told : Option (List (List ℕ))) : Type 0 where
  pub here : Phase
  pub last : HostMachine
  pub run : RunCarefully (first_alone keys (Some [])) here heard last
  pub rests : whole ≡ true → (here ≡ Resting) × (last.left ≡ 0)
  pub agrees : whole ≡ true → Agrees told last.records
  pub for_host : AreForHost heard
  pub link : KeepsLink Host (ended whole heard)

-- Lines were run whole, and this transcript tells them. Over what the host heard of them, with what came, it keeps these laws; and the records are those that were added
-- to what the keeper had. Where its keys are those of a network key it is legal as a host alone is, over those records.
pub record HearsLines (keys : Keys) (lines : List (TextLine ReplayLine)) (old new : Lone) (transcript : List Entry) : Type 0 where
  pub story : List Replayed
  pub said : AreSaid lines story
  pub are : AreReplayed old story
  pub told : told_of old story ≡ transcript
  pub added : List (List ℕ)
  pub adds : OptAdds old.records new.records added
  pub keeps : HostsKeepLaws keys true (heard_of old story) (Some added)
  pub legal : (key : List ℕ) → keys ≡ keys_of key → IsLegalAlone key first_start true (heard_of old story) (Some added)
