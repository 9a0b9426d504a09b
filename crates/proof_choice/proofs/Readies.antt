-- For which nonce a message is ready stays so, by what an event makes of a node.
use Rattle.std.proofs.Common.{◌≡◌, ℕ, Bool, false, None, refl, sym, ◌∙◌, arith}
use Rattle.law_time.specs.Attempts.{Attempts, anew}
use Rattle.host_node.specs.Facts.{NodeFacts, SeriesFacts}
use Rattle.host_node.specs.declared.series.Series.{Series}
use Rattle.host_node.specs.declared.series.Series.TheVariants.{Idle, Due, Running}
use Rattle.host_node.specs.State.{NodeState}
use Rattle.proof_giving.specs.proof_queue.proof_attempts.Attempts.{AreAttempts, begun_of}
use Rattle.proof_choice.specs.Ready.{ReadySo}
use Rattle.proof_choice.proofs.Staying.{Stays, no_some, none_of}

-- ---- nodes

pub stays_ready : (told : Attempts) (s t : NodeState) → Stays false s t → ReadySo told s → ReadySo told t
stays_ready told s t stays so = record {
  seen = so.seen ∙ sym stays.seen;
  text = λ sealed is. so.text sealed (stays.text sealed is);
  none = λ runs none. so.none (stays.ran runs) (stays.kept refl runs none);
  pending = λ plain is. so.pending plain (stays.pending plain is);
}

-- ---- a series that begins anew

abbrev pub Bare : NodeState → Type 0
Bare s = (s.text ≡ None) × (s.pending ≡ None)

pub anew_ready : (told : Attempts) (s t : NodeState) → t.seen ≡ told.seen → Bare t → ReadySo (anew told) t
anew_ready told s t seen bare = record {
  seen = sym seen;
  text = λ sealed is. no_some _ t.text sealed bare.0 is;
  none = λ runs none. refl;
  pending = λ plain is. no_some _ t.pending plain bare.1 is;
}

pub bare_stays : (s t : NodeState) → Stays false s t → Bare s → Bare t
bare_stays s t stays bare = (
  none_of t.text (λ x is. no_some _ s.text x bare.0 (stays.text x is)),
  none_of t.pending (λ x is. no_some _ s.pending x bare.1 (stays.pending x is)),
)

-- one of which none has begun has no text
pub unbegun_bare : (told : Attempts) (s : NodeState) (time : ℕ) (badly : Bool) → NodeFacts s → AreAttempts (anew told) s time badly → Bare s
unbegun_bare told s time badly facts are = by s.series are.begun facts.series
  where
    by : (x : Series) → 0 ≡ begun_of x s.book.attempts → SeriesFacts x s.book s.attempt_wait s.again_wait s.next_segment s.segments s.text s.pending → Bare s
    by Idle begun f = (f.1.no_text, f.1.no_pending)
    by Due begun f = (f.2.no_text, f.2.no_pending)
    by Running begun f = absurd (omega (arith, begun))
