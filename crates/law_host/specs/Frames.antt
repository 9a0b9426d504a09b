-- What a frame of the chip that the host judges has it note (Serial API; Security 0 Command Class): how a request ends, and what the messages of
-- a payload tell.
use Rattle.std.specs.Prelude.{ℕ, ◌-◌, ◌%◌, ◌==◌, ◌&&◌, nat_le, Bool, true, false, if◌then◌else◌, List, [], ◌∷◌, ◌++◌, length, drop, take, slice_index, Option, Some, None}
use Rattle.host_heard.specs.Telling.{heard_at}
use Rattle.host_heard.specs.declared.payload.Heard.{Heard}
use Rattle.host_heard.specs.declared.payload.Heard.TheVariants.{Messages, Sealed, Unread}
use Rattle.zw_text.specs.declared.entry.Entry.{Entry}
use Rattle.law_time.specs.law_transcript.Units.{Carried, bringing_in}
use Rattle.law_time.specs.Heeds.{Heeds}
use Rattle.law_time.specs.Judged.{acknowledged, frames_come}
use Rattle.law_host.specs.Course.{Course, Giver, each_in_turn, giver_of, if_kept, with_giver, with_heeded}
use Rattle.law_host.specs.Messages.{Hearing, hears, unread}
use Rattle.law_host.specs.Ends.{ends_by_frame}

-- ---- payloads

-- what each message of a text tells; one that is no message, or is sealed in a seal, cannot be read
abbrev pub hears_all : Hearing → Heard → Course → Course
hears_all hearing (Messages messages) course = each_in_turn (hears hearing) messages course
hears_all hearing Sealed course = unread hearing course
hears_all hearing Unread course = unread hearing course

-- the text that a sealed payload opened to, where it did
abbrev pub hears_text : Hearing → Option (List ℕ) → Course → Course
hears_text hearing None course = unread hearing course
hears_text hearing (Some text) course = hears_all (record hearing { was_sealed = true }) (heard_at text) course

abbrev pub text_next : List (Option (List ℕ)) → Option (List ℕ)
text_next [] = None
text_next (text ∷ more) = text

-- a message spends the nonce that it names, before it is opened
abbrev pub opens : Hearing → Course → Course
opens hearing course =
    let giver : Giver = giver_of hearing.node course in
    let text : Option (List ℕ) = text_next course.texts in
    hears_text hearing text (with_giver hearing.node (record giver { live = false }) (record course {
      texts = drop 1 course.texts;
      opened = course.opened ++ record { node = hearing.node; number = giver.given; payload = hearing.payload; text = text } ∷ [];
    }))

-- the live nonce is named: by the ninth byte from the end, of 20 at least
abbrev pub names_live : List ℕ → Giver → Bool
names_live payload giver =
    giver.live && nat_le 20 (length payload) && (slice_index payload (length payload - 9) == giver.given % 256)

abbrev pub hears_sealed : Hearing → Course → Course
hears_sealed hearing course =
    if names_live hearing.payload (giver_of hearing.node course) then if_kept hearing.node (opens hearing) course else unread hearing course

abbrev pub hears_payload : Hearing → Heard → Course → Course
hears_payload hearing Sealed course = hears_sealed hearing course
hears_payload hearing heard course = hears_all hearing heard course

-- ---- frames

-- the frame that the next acknowledgement is for, where there is one
abbrev pub frame_next : List Entry → List (List ℕ)
frame_next before = take 1 (drop (acknowledged before) (frames_come before))

-- what it brings of a node
abbrev pub hears_carried : Heeds → List Entry → List Entry → Carried → Course → Course
hears_carried heeds before past carried course =
    with_heeded past carried
    (hears_payload (record { heeds = heeds; before = before; past = past; node = carried.node; payload = carried.payload; was_sealed = false })
    (heard_at carried.payload) (record course { taken = [] }))

-- it is judged: where it ends the request under way that is noted, and then what its payload tells
abbrev pub judges : Heeds → List Entry → List Entry → List ℕ → Course → Course
judges heeds before past frame course =
    each_in_turn (hears_carried heeds before past) (bringing_in frame) (ends_by_frame heeds past (record course { put = 0 }))
