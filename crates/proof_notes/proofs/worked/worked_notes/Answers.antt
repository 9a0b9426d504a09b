-- Nothing is judged before the payload, whose notes are written out.
use Rattle.std.proofs.Common.{[], ◌∷◌, inl, refl}
use Rattle.zw_base.specs.declared.property.Name.TheVariants as names
use Rattle.host_orders.specs.Settings.{setting}
use Rattle.zw_text.specs.declared.entry.Ended.TheVariants as endings
use Rattle.zw_text.specs.declared.entry.Entry.TheVariants.{Old, Out, Report, Unread}
use Rattle.proof_attempts.proofs.Computing.{computing}
use Rattle.proof_notes.proofs.worked.worked_notes.Goals as goal

pub returns-clause-failure : goal.returns-clause-failure
unfolding computing
returns-clause-failure c = λ keys. record {
  between = (tt, (tt, (tt, (tt, (tt, ((([], (Out 1 endings.Fail ∷ [], [], refl, (Out 1 endings.Fail ∷ [], [], refl, inl refl, refl), tt)), tt), tt))))));
  in_the_end = λ is. ((Out 1 endings.Fail ∷ [], [], refl, (Out 1 endings.Fail ∷ [], [], refl, inl refl, refl), tt), tt);
}

pub returns-clause-working : goal.returns-clause-working
unfolding computing
returns-clause-working c = λ keys. record {
  between = (tt, (tt, (tt, (tt, (tt, tt)))));
  in_the_end = λ is. (([], [], refl, ([], [], refl, refl, refl), tt), tt);
}

pub returns-clause-old : goal.returns-clause-old
unfolding computing
returns-clause-old c = λ keys. record {
  between = (tt, (tt, (tt, (tt, (tt, ((([], (Old 2 2 ∷ [], [], refl, (Old 2 2 ∷ [], [], refl, refl, refl), tt)), tt), tt))))));
  in_the_end = λ is. ((Old 2 2 ∷ [], [], refl, (Old 2 2 ∷ [], [], refl, refl, refl), tt), tt);
}

pub returns-clause-value : goal.returns-clause-value
unfolding computing
returns-clause-value c = λ keys. record {
  between = (tt, (tt, (tt, (tt, (tt, (tt, (tt, (tt, (tt, (tt, (tt, (tt, (tt, ((([], (Report 2 (setting 0 names.Switch 0) ∷ [], [], refl, (Report 2 (setting 0 names.Switch 0) ∷ [], [], refl, refl, refl), tt)), tt), tt))))))))))))));
  in_the_end = λ is. ((Report 2 (setting 0 names.Switch 0) ∷ [], [], refl, (Report 2 (setting 0 names.Switch 0) ∷ [], [], refl, refl, refl), tt), tt);
}

pub returns-clause-openly : goal.returns-clause-openly
unfolding computing
returns-clause-openly c = λ keys. record {
  between = (tt, (tt, (tt, (tt, (tt, (tt, (tt, (tt, (tt, (tt, ((([], (Unread 4 (0x6C ∷ 0x02 ∷ 0x01 ∷ 0xFF ∷ 0x00 ∷ []) ∷ [], [], refl, (Unread 4 (0x6C ∷ 0x02 ∷ 0x01 ∷ 0xFF ∷ 0x00 ∷ []) ∷ [], [], refl, refl, refl), tt)), tt), tt)))))))))));
  in_the_end = λ is. ((Unread 4 (0x6C ∷ 0x02 ∷ 0x01 ∷ 0xFF ∷ 0x00 ∷ []) ∷ [], [], refl, (Unread 4 (0x6C ∷ 0x02 ∷ 0x01 ∷ 0xFF ∷ 0x00 ∷ []) ∷ [], [], refl, refl, refl), tt), tt);
}
