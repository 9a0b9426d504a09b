-- How an interview ends, and which nodes the host takes to listen (Serial API: GetNodeProtocolInfo and RequestNodeInfo; that an
-- interview is these two requests is this project's own rule).
use Rattle.std.specs.Prelude.{ℕ, ◌==◌, ◌&&◌, ◌||◌, not, nat_le, Bool, true, false, List, [], ◌∷◌, slice_index}
use Rattle.std.specs.List.{list_any}
use Rattle.chip_functions.specs.declared.request.Request.{Request}
use Rattle.chip_functions.specs.declared.request.Request.TheVariants.{GetNodeProtocolInfo, RequestNodeInfo}
use Rattle.chip_functions.specs.declared.notice.Notice.{Notice}
use Rattle.chip_functions.specs.declared.notice.Notice.TheVariants.{ApplicationUpdate}
use Rattle.chip_functions.specs.declared.notice.Update.TheVariants.{Received, RequestFailed}
use Rattle.zw_text.specs.declared.entry.Entry.{Entry}
use Rattle.zw_text.specs.declared.entry.Entry.TheVariants.{Interviewed, InterviewFailed, Unkept}
use Rattle.zw_text.specs.Transcript.{where_same}
use Rattle.law_wire.specs.law_transcript.Lists.{shown_after, last_or}
use Rattle.law_wire.specs.law_transcript.Nodes.{first_node}
use Rattle.law_wire.specs.law_transcript.Units.{body_in, request_in}
use Rattle.law_time.specs.Moments.{Keeps}
use Rattle.law_time.specs.Judged.{is_directly_after, is_mark, notices_here}
use Rattle.law_time.specs.Requests.{asked_before, request_last, are_none}
use Rattle.law_time.specs.Ends.{ending, is_ending_here, is_refused_here, is_silent, is_given_up}

-- whether the request asks for the node's information, or for what the chip knows of it
abbrev pub asks_information : ℕ → List Request → Bool
asks_information node (RequestNodeInfo asked ∷ more) = asked == node
asks_information node _ = false

abbrev pub asks_protocol : ℕ → List Request → Bool
asks_protocol node (GetNodeProtocolInfo asked ∷ more) = asked == node
asks_protocol node _ = false

-- whether the notice brings the node's information, or says that none came
abbrev pub informs : ℕ → List Notice → Bool
informs node (ApplicationUpdate (Received from basic generic specific classes) ∷ more) = from == node
informs node _ = false

abbrev pub says_none : List Notice → Bool
says_none (ApplicationUpdate RequestFailed ∷ more) = true
says_none _ = false

-- whether the first request of the interview was answered
abbrev pub is_known : ℕ → List Entry → Bool
is_known node past = asks_protocol node (request_in (asked_before past).frame) && not (are_none (ending (asked_before past)))

-- the interview succeeds here: the information comes, and the first request was answered
abbrev pub succeeds : ℕ → List Entry → Bool
succeeds node past = asks_information node (request_last past) && informs node (notices_here past) && is_ending_here past && is_known node past

-- the second request ends here without information: none comes, it is refused, ends in silence, or is given up
abbrev pub ends_uninformed : List Entry → Bool
ends_uninformed past =
    (says_none (notices_here past) && is_ending_here past) || is_refused_here past || is_silent past || is_given_up past

-- the information comes here, and the first request was not answered
abbrev pub ends_unknown : ℕ → List Entry → Bool
ends_unknown node past = informs node (notices_here past) && is_ending_here past && not (is_known node past)

-- it fails here in one of these ways
abbrev pub fails : ℕ → List Entry → Bool
fails node past = asks_information node (request_last past) && (ends_uninformed past || ends_unknown node past)

-- the nodes whose information the last request asks for
abbrev pub node_interviewed : List Request → List ℕ
node_interviewed (RequestNodeInfo node ∷ more) = node ∷ []
node_interviewed _ = []

-- whether an interview ends here by a notice
abbrev pub owes_end : List Entry → Bool
owes_end past =
    is_directly_after past && is_ending_here past && list_any (λ node. informs node (notices_here past) || says_none (notices_here past)) (node_interviewed (request_last past))

-- an interview is said to succeed or fail where it does, and its end by a notice is said, where the keeper does not fail
abbrev pub may_end : List Entry → Entry → Bool
may_end past (Interviewed node) = succeeds node past
may_end past (InterviewFailed node) = fails node past
may_end past (Unkept node) = true
may_end past entry = is_mark entry || not (owes_end past)

abbrev pub EndsInterviews : List Entry → Type 0
EndsInterviews transcript = Keeps may_end transcript

-- ---- which nodes listen

-- whether a capability says that a node listens: its bit 7
abbrev pub says_listening : List ℕ → Bool
says_listening unit = nat_le 128 (slice_index (body_in unit) 0)

-- what an interview of a node that succeeds says of it
abbrev pub listening_at : ℕ → List Entry → Entry → List Bool
listening_at node past (Interviewed interviewed) = where_same interviewed node (list_any (λ one. says_listening one.unit) (ending (asked_before past)))
listening_at node past _ = []

-- whether the host takes a node to listen: by its last interview, and the first node before one
abbrev pub listens : ℕ → List Entry → Bool
listens node past = last_or (node == first_node) (shown_after (listening_at node) [] past)
