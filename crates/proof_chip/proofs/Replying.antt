-- The frame that an answered request gives the chip for its host is just what the transcript says that it has for the host at that answer, where chip and transcript have the same of nodes,
-- links, failures and the SendData under way.
use Rattle.std.proofs.Common.{◌≡◌, ℕ, ◌-◌, ◌==◌, ◌&&◌, ◌||◌, max, take, codes, nat_eq, nat_le, nat_lt, Bool, true, false, if◌then◌else◌, List, [], ◌∷◌, ◌++◌, map, filter, length, refl, sym, ap, ap₂, ◌∙◌, append-nil, leb-true, ltb-true, arith}
use Rattle.std.specs.Prelude.{Option, Some, None, slice_get}
use Rattle.std.specs.List.{flat_map, range_with_len}
use Rattle.serial_frame.specs.Frame.{FrameParts}
use Rattle.route_table.specs.Network.{linked}
use Rattle.chip_functions.specs.declared.request.Request.{Request}
use Rattle.chip_functions.specs.declared.request.Request.TheVariants.{GetInitData, GetCapabilities, SendData, GetVersion, SendDataAbort, MemoryGetId, GetNodeProtocolInfo, AddNode, RequestNodeInfo, IsFailedNode, GetRoutingInfo}
use Rattle.chip_functions.specs.declared.response.Response.{Response}
use Rattle.chip_functions.specs.declared.response.Response.TheVariants as answers
use Rattle.chip_functions.specs.declared.notice.Notice.TheVariants.{SendData as SendDataCallback}
use Rattle.chip_functions.specs.declared.notice.TransmitStatus.TheVariants.{Fail}
use Rattle.chip_sim.specs.Nodes.{is_marked, nodes_where as nodes_marked}
use Rattle.chip_sim.specs.State.{ChipState}
use Rattle.chip_sim.specs.Answers.{takes as takes_of}
use Rattle.chip_sim.specs.Requests.{abort_frame, asked as asked_of, reply_if, reply_to}
use Rattle.chip_sim.specs.Rules.{listed as listed_of}
use Rattle.chip_sim.specs.declared.answers.TheConstants.{FUNCTIONS, VERSION_TEXT}
use Rattle.chip_sim.specs.declared.out.Sending.{Sending as SendingParts}
use Rattle.zw_text.specs.declared.line.Line.{Line}
use Rattle.zw_text.specs.declared.entry.Entry.{Entry}
use Rattle.zw_text.proofs.Views.{folded-append}
use Rattle.law_transcript.specs.Fates.{Flying, first_fate, first_fates, flying, flying_step}
use Rattle.law_transcript.specs.Lists.{listed}
use Rattle.law_transcript.specs.Nodes.{controller, is_joined}
use Rattle.law_transcript.specs.Restarts.{ticks_asked}
use Rattle.law_wire.specs.Asked.{Asked, Course, Sending, acks, asked, clock_of, requests_at, requests_of, takes, under_way}
use Rattle.law_wire.specs.Networks.{are_linked, chip_links, listens_at}
use Rattle.law_wire.specs.Results.{Called, aborted_by, came_due, ended_at, ended_by, has_failed, settled_clock}
use Rattle.law_wire.specs.Given.{Frame, Given, callback_of, function_mask, given_at, nodes_where, notice_frame, response_frame, response_to, responses_at, results_of}
use Rattle.outside_model.specs.Devices.{State}
use Rattle.proof_chip.specs.Serving.{as_given}
use Rattle.proof_chip.specs.Sending.{AreSending, TieJoined}
use Rattle.proof_air.proofs.Untimed.{IsUntimed, same_lines, same_time}
use Rattle.proof_chip.proofs.Airing.{answer, requests_are}
use Rattle.proof_chip.proofs.Picking.{shown_both}

-- ---- what chip and transcript have

pub record TieNodes (devices : List State) (course : Course) (past : List Entry) (s : ChipState) : Type 0 where
  pub joined : TieJoined past s
  pub listening : (node : ℕ) → is_marked s.listening node ≡ (listens_at devices node && is_joined past node)
  pub hears : (a b : ℕ) → linked s.table a b ≡ are_linked (chip_links past) a b
  pub failing : (node : ℕ) → is_marked s.failing node ≡ has_failed course past node

same_filter : (f g : ℕ → Bool) → ((node : ℕ) → f node ≡ g node) → (nodes : List ℕ) → filter f nodes ≡ filter g nodes
same_filter f g same [] = refl
same_filter f g same (node ∷ nodes) = ap₂ (λ (b : Bool) (l : List ℕ). if b then node ∷ l else l) (same node) (same_filter f g same nodes)

marked_same : (f g : ℕ → Bool) → ((node : ℕ) → f node ≡ g node) → nodes_marked f ≡ nodes_where g
unfolding nodes_marked
marked_same f g same = same_filter f g same (range_with_len 1 232)

mask_is : FUNCTIONS ≡ function_mask
mask_is = refl

version_is : VERSION_TEXT ≡ codes "Z-Wave 0.00" ++ 0 ∷ []
version_is = refl

-- ---- the clock at an answer

pub none_filtered : (from to : ℕ) → to ≡ from → (all : List Asked) → filter (λ (one : Asked). nat_le from (clock_of one.past) && nat_lt (clock_of one.past) to) all ≡ []
none_filtered from to is [] = refl
none_filtered from to is (one ∷ all) = by (nat_le from (clock_of one.past)) (nat_lt (clock_of one.past) to) refl refl (none_filtered from to is all)
  where
    by : (a b : Bool) → nat_le from (clock_of one.past) ≡ a → nat_lt (clock_of one.past) to ≡ b
        → filter (λ (other : Asked). nat_le from (clock_of other.past) && nat_lt (clock_of other.past) to) all ≡ []
        → (if a && b then one ∷ filter (λ (other : Asked). nat_le from (clock_of other.past) && nat_lt (clock_of other.past) to) all
        else filter (λ (other : Asked). nat_le from (clock_of other.past) && nat_lt (clock_of other.past) to) all) ≡ []
    by true true first second rest =
        absurd (let above = leb-true from (clock_of one.past) first in let below = ltb-true (clock_of one.past) to second in omega (arith, above, below, is))
    by true false first second rest = rest
    by false b first second rest = rest

-- an entry that is neither a line, the number of a tick nor a fate leaves it, and leaves what has had its fate
pub settled_same : (past : List Entry) (e : Entry) → IsUntimed e → first_fate past e ≡ [] → ((all : Flying) → (flying_step all e).due ≡ all.due) → settled_clock (past ++ e ∷ []) ≡ settled_clock past
settled_same past e untimed fateless due =
    ap₂ (λ (fated : List ℕ) (count : ℕ). if length fated == count then clock_of (past ++ e ∷ []) else clock_of (past ++ e ∷ []) - 1)
    (shown_both first_fate [] past (e ∷ []) ∙ ap (λ (l : List ℕ). first_fates past ++ (l ++ [])) fateless ∙ append-nil (first_fates past))
    (ap (λ (all : Flying). all.due) (folded-append flying_step (record { sent = 0; due = 0 }) past (e ∷ [])) ∙ due (flying past))
    ∙ ap (λ (n : ℕ). if length (first_fates past) == (flying past).due then n else n - 1)
    (ap₂ (λ (n : ℕ) (l : List Line). max n (ticks_asked (take (length l - 1) l))) (same_time past (e ∷ []) (untimed, tt)) (same_lines past (e ∷ []) (untimed, tt)))

both_are : (a b : Bool) → (a && (b && a)) ≡ (a && b)
both_are true true = refl
both_are true false = refl
both_are false b = refl

-- ---- what is given at an answer

module _ (devices : List State) (course : Course) (past : List Entry) where
  -- no results come there
  none_come : came_due course past answer ≡ []
  none_come = none_filtered (settled_clock past) (settled_clock (past ++ answer ∷ [])) (settled_same past answer tt refl (λ all. refl)) (asked course past)

  asked_alone : (f : FrameParts) → slice_get course.passed (acks past) ≡ Some f → requests_at course past answer ≡ listed_of (asked_of f)
  asked_alone f is = ap (λ (o : Option FrameParts). flat_map requests_of (listed o)) is ∙ append-nil (requests_of f) ∙ requests_are f

  abbrev given_by : List Request → List Given
  given_by requests = map (λ (response : Response). Frame (response_frame response)) (flat_map (response_to devices course past) requests) ++ map callback_of (flat_map (aborted_by course past) requests)

  given_is : (f : FrameParts) → slice_get course.passed (acks past) ≡ Some f → given_at devices course past answer ≡ given_by (listed_of (asked_of f))
  given_is f passed =
      ap (λ (l : List Asked). ((responses_at devices course past answer ++ []) ++ map callback_of (ended_at course past answer)) ++ flat_map (results_of course past answer) l) none_come
      ∙ append-nil ((responses_at devices course past answer ++ []) ++ map callback_of (ended_at course past answer))
      ∙ ap (λ (l : List Given). l ++ map callback_of (ended_at course past answer)) (append-nil (responses_at devices course past answer))
      ∙ ap given_by (asked_alone f passed)

  -- ---- how many

  many_aborted : (s : ChipState) (o : Option SendingParts) → s.sending ≡ o → AreSending o (under_way course past) → length (given_by (SendDataAbort ∷ [])) ≡ length (listed_of (reply_to s SendDataAbort))
  many_aborted s None is are =
      ap (λ (l : List Sending). length (map callback_of (ended_by Fail l ++ []))) are ∙ sym (ap (λ (o : Option SendingParts). length (listed_of (abort_frame o))) is)
  many_aborted s (Some parts) is (one, alone, node, id) =
      ap (λ (l : List Sending). length (map callback_of (ended_by Fail l ++ []))) alone ∙ sym (ap (λ (o : Option SendingParts). length (listed_of (abort_frame o))) is)

  many_given : (s : ChipState) → AreSending s.sending (under_way course past) → (request : Request) → length (given_by (request ∷ [])) ≡ length (listed_of (reply_to s request))
  many_given s under SendDataAbort = many_aborted s s.sending refl under
  many_given s under GetInitData = refl
  many_given s under GetCapabilities = refl
  many_given s under (SendData node payload options id) = refl
  many_given s under GetVersion = refl
  many_given s under MemoryGetId = refl
  many_given s under (GetNodeProtocolInfo node) = refl
  many_given s under (AddNode mode id) = refl
  many_given s under (RequestNodeInfo node) = refl
  many_given s under (IsFailedNode node) = refl
  many_given s under (GetRoutingInfo node x y z) = refl

  -- as many as the chip gives
  pub reply_many : (s : ChipState) → AreSending s.sending (under_way course past) → (f : FrameParts) → slice_get course.passed (acks past) ≡ Some f
      → length (given_at devices course past answer) ≡ length (listed_of (reply_if s (asked_of f)))
  reply_many s under f passed = ap (λ (l : List Given). length l) (given_is f passed) ∙ by (asked_of f)
    where
      by : (o : Option Request) → length (given_by (listed_of o)) ≡ length (listed_of (reply_if s o))
      by None = refl
      by (Some request) = many_given s under request

module _ (devices : List State) (course : Course) (past : List Entry) (s : ChipState) (ties : TieNodes devices course past s) (under : AreSending s.sending (under_way course past)) (f : FrameParts)
    (agree : (node : ℕ) (payload : List ℕ) (options id : ℕ) → asked_of f ≡ Some (SendData node payload options id) → takes_of s node payload ≡ takes past (under_way course past) node payload) where
  -- what the answer to a request gives, by the transcript
  abbrev replies : Request → List Given
  replies request = map (λ (response : Response). Frame (response_frame response)) (response_to devices course past request) ++ map callback_of (aborted_by course past request)

  capable : (node : ℕ) → (nat_eq node 1 || (is_marked s.joined node && is_marked s.listening node)) ≡ ((node == controller) || (is_joined past node && listens_at devices node))
  capable node =
      ap₂ (λ (a b : Bool). nat_eq node 1 || (a && b)) (ties.joined node) (ties.listening node)
      ∙ ap (λ (b : Bool). nat_eq node 1 || b) (swapped (is_joined past node) (listens_at devices node))
    where
      swapped : (a b : Bool) → (a && (b && a)) ≡ (a && b)
      swapped a b = both_are a b

  aborts : (o : Option SendingParts) → s.sending ≡ o → AreSending o (under_way course past) → as_given (listed_of (reply_to s SendDataAbort)) ≡ map callback_of (ended_by Fail (under_way course past))
  aborts None is are =
      ap (λ (o : Option SendingParts). as_given (listed_of (abort_frame o))) is ∙ ap (λ (l : List Sending). map callback_of (ended_by Fail l)) (sym are)
  aborts (Some parts) is (one, alone, node, id) =
      ap (λ (o : Option SendingParts). as_given (listed_of (abort_frame o))) is
      ∙ ap (λ (n : ℕ). Frame (notice_frame (SendDataCallback n Fail)) ∷ []) (sym id)
      ∙ ap (λ (l : List Sending). map callback_of (ended_by Fail l)) (sym alone)

  replies_same : (request : Request) → asked_of f ≡ Some request → as_given (listed_of (reply_to s request)) ≡ replies request
  replies_same GetInitData is =
      ap (λ (l : List ℕ). Frame (response_frame (answers.GetInitData 5 0 l 7 0)) ∷ [])
      (marked_same (λ (n : ℕ). nat_eq n 1 || is_marked s.joined n) (λ (n : ℕ). (n == controller) || is_joined past n) (λ n. ap (λ (b : Bool). nat_eq n 1 || b) (ties.joined n)))
  replies_same GetCapabilities is = ap (λ (l : List ℕ). Frame (response_frame (answers.GetCapabilities 1 0 0 0 0 l)) ∷ []) mask_is
  replies_same (SendData node payload options id) is = ap (λ (b : Bool). Frame (response_frame (answers.SendData (if b then 1 else 0))) ∷ []) (agree node payload options id is)
  replies_same GetVersion is = ap (λ (l : List ℕ). Frame (response_frame (answers.GetVersion l 1)) ∷ []) version_is
  replies_same SendDataAbort is = aborts s.sending refl under
  replies_same MemoryGetId is = refl
  replies_same (GetNodeProtocolInfo node) is = ap (λ (b : Bool). Frame (response_frame (answers.GetNodeProtocolInfo (if b then 128 else 0) 0 0 4 0 0)) ∷ []) (capable node)
  replies_same (AddNode mode id) is = refl
  replies_same (RequestNodeInfo node) is = refl
  replies_same (IsFailedNode node) is = ap (λ (b : Bool). Frame (response_frame (answers.IsFailedNode b)) ∷ []) (ties.failing node)
  replies_same (GetRoutingInfo node x y z) is =
      ap (λ (l : List ℕ). Frame (response_frame (answers.GetRoutingInfo l)) ∷ []) (marked_same (λ (n : ℕ). linked s.table node n) (are_linked (chip_links past) node) (λ n. ties.hears node n))

  -- ---- all that is given at the answer

  pub reply_given : slice_get course.passed (acks past) ≡ Some f → given_at devices course past answer ≡ as_given (listed_of (reply_if s (asked_of f)))
  reply_given passed = given_is devices course past f passed ∙ sym (by (asked_of f) refl)
    where
      by : (o : Option Request) → asked_of f ≡ o → as_given (listed_of (reply_if s o)) ≡ given_by devices course past (listed_of o)
      by None is = refl
      by (Some request) is =
          replies_same request is
          ∙ ap₂ (λ (a : List Response) (b : List Called). map (λ (response : Response). Frame (response_frame response)) a ++ map callback_of b)
          (sym (append-nil (response_to devices course past request))) (sym (append-nil (aborted_by course past request)))
