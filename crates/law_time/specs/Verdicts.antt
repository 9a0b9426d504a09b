-- Which final outcome a command of a stretch has (Supervision Command Class: status): what the kind of the node's device says of the message of its
-- session, on the values that the device had when it took it. In a stretch these are those that stood before the session began.
use Rattle.std.specs.Prelude.{ℕ, ◌+◌, ◌==◌, Bool, true, false, if◌then◌else◌, List, [], ◌∷◌, ◌++◌, length, map, Option, Some}
use Rattle.std.specs.List.{list_any}
use Rattle.zw_base.specs.declared.property.Setting.{Setting}
use Rattle.encap.specs.Opening.{Message, opened_at}
use Rattle.law_wire.specs.device_kinds.declared.verdict.Verdict.{Verdict}
use Rattle.law_wire.specs.device_kinds.declared.verdict.Verdict.TheVariants as verdicts
use Rattle.law_wire.specs.device_kinds.Effects.{end_of}
use Rattle.law_wire.specs.device_kinds.Judging.{judged_message}
use Rattle.law_wire.specs.device_stack.State.{State, value_of, last_level_of}
use Rattle.law_wire.specs.device_kinds.Values.{value_by, level_by}
use Rattle.zw_text.specs.declared.entry.Entry.{Entry}
use Rattle.zw_text.specs.declared.entry.Entry.TheVariants.{Begin}
use Rattle.zw_text.specs.declared.entry.Outcome.{Outcome}
use Rattle.zw_text.specs.declared.entry.Outcome.TheVariants as outcomes
use Rattle.zw_text.specs.Transcript.{made, outcome, sessions}
use Rattle.law_wire.specs.law_transcript.Commands.{message_for}
use Rattle.law_wire.specs.law_transcript.Nodes.{always, device_of, listing_of}

-- what stands in a stretch before the session of a command begins
abbrev pub before_session : ℕ → List Entry → List Entry
before_session command [] = []
before_session command (Begin node session number ∷ rest) = if number == command then [] else Begin node session number ∷ before_session command rest
before_session command (entry ∷ rest) = entry ∷ before_session command rest

-- the settings that the device of a node made in these entries
abbrev pub settings_made : ℕ → List Entry → List Setting
settings_made node entries = map (λ one. one.setting) (made node entries)

-- what the kind of a device says of a message, once the device has made these settings
abbrev pub verdict_on : State → List Setting → Message → Verdict
verdict_on device settings message =
    judged_message device.kind (λ property. value_by settings property (value_of device property)) (level_by settings (last_level_of device))
    (end_of message.plan.channel) message.plan.batch message.commands

-- the outcome that it comes to; what takes time succeeds
abbrev pub outcome_by : Verdict → Outcome
outcome_by verdicts.NoSupport = outcomes.NoSupport
outcome_by verdicts.Fails = outcomes.Fail
outcome_by (verdicts.Makes settings) = outcomes.Success
outcome_by (verdicts.Works settings) = outcomes.Success

abbrev pub outcome_said : List Setting → Option State → Option Message → List Outcome
outcome_said settings (Some device) (Some message) = outcome_by (verdict_on device settings message) ∷ []
outcome_said settings _ _ = []

-- the message of a command's session that begins in a stretch
abbrev pub message_in : List State → List Entry → List Entry → ℕ → ℕ → List ℕ
message_in devices before stretch node command =
    message_for (always (listing_of devices)) (before ++ stretch) node (length (sessions node (before ++ before_session command stretch)) + 1) command

-- the outcome that a command of a node is to have, with the devices as they are at the start
abbrev pub outcome_due : List State → List Entry → List Entry → ℕ → ℕ → List Outcome
outcome_due devices before stretch node command =
    outcome_said (settings_made node (before_session command stretch)) (device_of node devices)
    (opened_at (message_in devices before stretch node command))

-- whether two final outcomes are the same
abbrev pub same_final : Outcome → Outcome → Bool
same_final outcomes.Success outcomes.Success = true
same_final outcomes.Fail outcomes.Fail = true
same_final outcomes.NoSupport outcomes.NoSupport = true
same_final _ _ = false

-- a command has its outcome
abbrev pub is_answered : List State → List Entry → List Entry → ℕ → ℕ → Bool
is_answered devices before stretch node command =
    list_any (same_final (outcome command (before ++ stretch))) (outcome_due devices before stretch node command)
