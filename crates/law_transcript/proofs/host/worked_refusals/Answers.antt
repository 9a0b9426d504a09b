use Rattle.std.proofs.Common.{◌≡◌, ℕ, List, [], ◌∷◌, ◌++◌, map, refl, sym, subst, inl}
use Rattle.std.specs.Prelude.{codes, ◌/◌, ◌%◌}
use Rattle.std.specs.List.{range_with_len}
use Rattle.std.proofs.lemmas.List.{append-nil, append_assoc}
use Rattle.zw_base.specs.declared.property.Name.TheVariants as names
use Rattle.zw_base.specs.declared.property.Setting.{Setting}
use Rattle.host_orders.specs.Settings.{setting}
use Rattle.device_sim.specs.device_stack.State.{State}
use Rattle.zw_text.specs.declared.line.Line.{Line}
use Rattle.zw_text.specs.declared.entry.Refusal.TheVariants as refusals
use Rattle.zw_text.specs.declared.entry.Entry.{Entry}
use Rattle.zw_text.specs.declared.entry.Entry.TheVariants.{Report}
use Rattle.zw_text.specs.Transcript.{folded, line_of, line_after, line_last}
use Rattle.law_transcript.specs.Lists.{EachAfter}
use Rattle.law_transcript.specs.Answers.{Follows, before_last, refusals_to}
use Rattle.law_transcript.specs.Nodes.{listing_of, always}
use Rattle.law_transcript.specs.Worked.{the_switch, the_lock, the_plug}
use Rattle.law_transcript.specs.WorkedWrongLines.{refused_so, lets_in, when_known, the_relay, bulk_of}
use Rattle.law_transcript.proofs.Entries.{MayAnswerOf, answers}
use Rattle.law_transcript.proofs.Computing.{computing}
use Rattle.law_transcript.proofs.host.worked_refusals.Goals as goal

pub returns-clause-unsupported : goal.returns-clause-unsupported
unfolding computing
returns-clause-unsupported c = record {
  between = answers (the_switch ∷ []) (refused_so (codes "mode 2 1") (refusals.Unsupported 0x40)) (inl refl, tt);
  in_the_end = λ whole. tt;
}

pub returns-clause-unsupervised : goal.returns-clause-unsupervised
unfolding computing
returns-clause-unsupervised c = record {
  between = answers (the_relay ∷ []) (when_known (codes "join 3") 3 (refused_so (codes "set 3 on") refusals.Unsupervised)) (tt, (inl refl, tt));
  in_the_end = λ whole. tt;
}

pub returns-clause-long : goal.returns-clause-long
unfolding computing
returns-clause-long c = record {
  between = answers (the_plug ∷ []) (when_known (codes "join 8") 8 (refused_so (bulk_of 250) (refusals.TooLong 256))) (tt, (inl refl, tt));
  in_the_end = λ whole. tt;
}

pub returns-clause-longest : goal.returns-clause-longest
unfolding computing
returns-clause-longest c = record {
  between = answers (the_plug ∷ []) (when_known (codes "join 8") 8 (lets_in (bulk_of 249) 8)) (tt, (inl refl, tt));
  in_the_end = λ whole. tt;
}

-- the line that stands after a last entry is that of the entry
line_at_last : (before : List Line) (past : List Entry) (entry : Entry) → folded line_after before (past ++ entry ∷ []) ≡ line_of entry
line_at_last before [] entry = refl
line_at_last before (first ∷ past) entry = line_at_last (line_of first) past entry

-- values that are reported answer no line: what stands after them is judged alone
reports_pass : (devices : List State) (setting_at : ℕ → Setting) (places : List ℕ) (past rest : List Entry) → line_last past ≡ []
    → EachAfter (MayAnswerOf devices) (past ++ map (λ place. Report 2 (setting_at place)) places) rest
    → EachAfter (MayAnswerOf devices) past (map (λ place. Report 2 (setting_at place)) places ++ rest)
reports_pass devices setting_at [] past rest none following =
    subst (λ (before : List Entry). EachAfter (MayAnswerOf devices) before rest) (append-nil past) following
reports_pass devices setting_at (place ∷ places) past rest none following =
    let entry : Entry = Report 2 (setting_at place) in (
      subst (λ (said : List Line). Follows (always (listing_of devices)) (refusals_to devices) (before_last past) said entry) (sym none) tt,
      reports_pass devices setting_at places (past ++ entry ∷ []) rest (line_at_last [] past entry)
          (subst (λ (before : List Entry). EachAfter (MayAnswerOf devices) before rest)
          (sym (append_assoc past (entry ∷ []) (map (λ place. Report 2 (setting_at place)) places))) following),
    )

pub returns-clause-stored : goal.returns-clause-stored
unfolding computing
returns-clause-stored c = record {
  between = reports_pass (the_switch ∷ []) (λ place. setting (place / 256) (names.Config (place % 256)) 0) (range_with_len 0 511) [] (lets_in (codes "set 2 on") 2) refl (tt, (inl refl, tt));
  in_the_end = λ whole. tt;
}

pub returns-clause-send_secured : goal.returns-clause-send_secured
unfolding computing
returns-clause-send_secured c = record {
  between = answers (the_lock ∷ []) (when_known (codes "join 4") 4 (refused_so (codes "send 4 on") refusals.Secured)) (tt, (refl, tt));
  in_the_end = λ whole. tt;
}

pub returns-clause-get_secured : goal.returns-clause-get_secured
unfolding computing
returns-clause-get_secured c = record {
  between = answers (the_lock ∷ []) (when_known (codes "join 4") 4 (refused_so (codes "get 4") refusals.Secured)) (tt, (refl, tt));
  in_the_end = λ whole. tt;
}
