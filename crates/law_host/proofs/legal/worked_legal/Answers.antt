use Rattle.std.proofs.Common.{◌≡◌, ℕ, List, [], ◌∷◌, inl, refl, sym, subst}
use Rattle.std.specs.Prelude.{true, None}
use Rattle.std.specs.List.{AllByRecursion}
use Rattle.zw_words.specs.declared.side.Side.TheVariants.{Host}
use Rattle.zw_text.specs.declared.entry.Entry.{Entry}
use Rattle.zw_text.specs.Transcript.{accepted, sessions}
use Rattle.law_time.specs.law_transcript.Answers.{MayAnswer, refusals_by_host}
use Rattle.law_time.specs.law_transcript.Commands.{numbers_of}
use Rattle.law_time.specs.law_transcript.Lists.{EachAfter, Has, Rises}
use Rattle.law_time.specs.law_transcript.Once.{CarriesOnce}
use Rattle.law_time.specs.law_transcript.Worked.{refused_lines, the_switch}
use Rattle.law_time.specs.law_wire.Links.{KeepsLink}
use Rattle.law_time.specs.law_wire.Serial.{ended}
use Rattle.law_time.specs.Choice.{may_follow, may_number, may_send}
use Rattle.law_time.specs.Heeds.{Heeds, heeds_of}
use Rattle.law_time.specs.Queue.{may_queue}
use Rattle.law_time.specs.Rests.{may_rest}
use Rattle.law_time.specs.Unanswered.{may_give_up}
use Rattle.law_host.specs.Heard.{heard_by_host, heeds_alone}
use Rattle.law_host.specs.HostLegal.{IsHostLegal, IsLegalAlone}
use Rattle.law_host.specs.Notes.{first_start}
use Rattle.law_host.specs.Worked.{all_kept, plain_heard}
use Rattle.law_time.proofs.Deciding.{kept}
use Rattle.law_time.proofs.law_transcript_Entries.{stores_after}
use Rattle.law_time.proofs.Judging.{keeps_link}
use Rattle.law_time.proofs.Moves.{acts_of}
use Rattle.law_time.proofs.ShownRecords.{above, every, none_begun}
use Rattle.law_time.proofs.Computing.{computing}
use Rattle.law_host.proofs.Noting.{noted}
use Rattle.law_host.proofs.legal.worked_legal.Goals as goal

-- what the host hears of these lines
abbrev lines : List Entry
lines = heard_by_host refused_lines

abbrev heeds : Heeds
heeds = heeds_of (the_switch ∷ [])

-- each line has the answer that is due
answered : EachAfter (MayAnswer heeds.listing (refusals_by_host heeds.listing)) [] lines
unfolding computing
answered = (tt, (inl refl, (tt, (tt, (inl refl, (tt, (inl refl, (tt, (refl, (tt, (tt, (tt, (refl, (tt, (refl, tt)))))))))))))))

-- nothing came and nothing was written
silent : KeepsLink Host (ended true lines)
unfolding computing
silent = keeps_link Host (ended true lines) (acts_of Host (ended true lines)) refl refl refl refl refl

refuses : IsHostLegal [] heeds first_start true lines None
unfolding computing
refuses = record {
  answers = record { between = answered; in_the_end = λ whole. tt };
  cancels = (tt, (tt, (tt, (tt, (tt, (tt, (tt, (tt, (tt, (tt, (tt, (tt, (tt, (tt, (tt, tt)))))))))))))));
  sessions = (tt, (tt, (tt, (tt, (tt, (tt, (tt, (tt, (tt, (tt, (tt, (tt, (tt, (tt, (tt, tt)))))))))))))));
  carries = λ node. record { commands_rise = tt; commands_accepted = tt };
  link = silent;
  notes = noted [] heeds first_start lines all_kept refl;
  stores = record { asked = ([], refl); all = λ whole. refl; following = (tt, (tt, (tt, (tt, (tt, (tt, (tt, (tt, (tt, (tt, (tt, (tt, (tt, (tt, (tt, tt))))))))))))))) };
  values = (tt, (tt, (tt, (tt, (tt, (tt, (tt, (tt, (tt, (tt, (tt, (tt, (tt, (tt, (tt, (tt, tt))))))))))))))));
  sends = (tt, (tt, (tt, (tt, (tt, (tt, (tt, (tt, (tt, (tt, (tt, (tt, (tt, (tt, (tt, tt)))))))))))))));
  prompt = record {
    fits = kept (may_queue heeds) lines refl;
    turn = kept (may_send heeds) lines refl;
    one_by_one = kept may_follow lines refl;
    numbers = kept may_number lines refl;
    begins = (tt, (tt, (tt, (tt, (tt, (tt, (tt, (tt, (tt, (tt, (tt, (tt, (tt, (tt, (tt, (tt, tt))))))))))))))));
    gives_up = record { between = kept (may_give_up heeds) lines refl; in_the_end = λ whole. refl };
    rests = record { between = kept (may_rest heeds) lines refl; in_the_end = λ whole. refl };
  };
  records_kept = λ whole. tt;
}

-- ---- the plain exchange

-- its report asks for nothing
abbrev goes_by : Heeds
goes_by = heeds_alone (λ past carried. [])

answered_plain : EachAfter (MayAnswer goes_by.listing (refusals_by_host goes_by.listing)) [] plain_heard
unfolding computing
answered_plain = (tt, (inl refl, (tt, (tt, (tt, (tt, (tt, (tt, (tt, (tt, (tt, (tt, (tt, (tt, (tt, (tt, tt))))))))))))))))

idle : (node : ℕ) → sessions node plain_heard ≡ [] → CarriesOnce node plain_heard
idle node none = record {
  commands_rise = subst (λ (numbers : List ℕ). Rises numbers) (sym none) tt;
  commands_accepted = subst (λ (numbers : List ℕ). AllByRecursion (Has (numbers_of (accepted node plain_heard))) numbers) (sym none) tt;
}

-- one session has begun, of node 2
once : (node : ℕ) → CarriesOnce node plain_heard
unfolding computing
once = every 3 (λ node. CarriesOnce node plain_heard) (
  idle 0 refl,
  (idle 1 refl, (record { commands_rise = (tt, tt); commands_accepted = (inl refl, tt) }, tt)),
) (λ more. idle (above 3 more) (none_begun 3 more plain_heard refl))

linked : KeepsLink Host (ended true plain_heard)
unfolding computing
linked = keeps_link Host (ended true plain_heard) (acts_of Host (ended true plain_heard)) refl refl refl refl refl

unfoldable exchanges : IsHostLegal [] goes_by first_start true plain_heard None
unfolding computing
exchanges = record {
  answers = record { between = answered_plain; in_the_end = λ whole. tt };
  cancels = (tt, (tt, (tt, (tt, (tt, (tt, (tt, (tt, (tt, (tt, (tt, (tt, (tt, (tt, (tt, (tt, tt))))))))))))))));
  sessions = (tt, (tt, ((refl, tt), (tt, (tt, (tt, (tt, (tt, (tt, (tt, (tt, (tt, (tt, (tt, (tt, (tt, tt))))))))))))))));
  carries = once;
  link = linked;
  notes = noted [] goes_by first_start plain_heard all_kept refl;
  stores = record { asked = ([], refl); all = λ whole. refl; following = stores_after plain_heard (tt, tt) };
  values = (tt, (tt, (tt, (tt, (tt, (tt, (tt, (tt, (tt, (tt, (tt, (tt, (tt, (tt, (tt, (tt, (tt, tt)))))))))))))))));
  sends = (tt, (tt, (tt, ((inl refl, tt), (tt, (tt, (tt, (tt, (tt, (tt, (tt, (tt, (tt, (tt, (tt, (tt, tt))))))))))))))));
  prompt = record {
    fits = kept (may_queue goes_by) plain_heard refl;
    turn = kept (may_send goes_by) plain_heard refl;
    one_by_one = kept may_follow plain_heard refl;
    numbers = kept may_number plain_heard refl;
    begins = (tt, (tt, (tt, (refl, (tt, (tt, (tt, (tt, (tt, (tt, (tt, (tt, (tt, (tt, (tt, (tt, (tt, tt)))))))))))))))));
    gives_up = record { between = kept (may_give_up goes_by) plain_heard refl; in_the_end = λ whole. refl };
    rests = record { between = kept (may_rest goes_by) plain_heard refl; in_the_end = λ whole. refl };
  };
  records_kept = λ whole. tt;
}

alone : IsLegalAlone [] first_start true plain_heard None
unfolding computing exchanges noted
alone = record { taken = λ past carried. []; legal = exchanges; heeded = (refl, tt) }

pub returns : goal.returns
returns c = record { refused = refuses; plain = alone }
