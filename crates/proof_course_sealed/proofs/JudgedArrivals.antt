-- The lock of the courses makes of its sessions what is asked of it, as it hears a frame of the courses, ticks, or is woken.
use Rattle.std.proofs.Common.{◌≡◌, ℕ, ◌<◌, ◌==◌, Bool, true, Some, None, List, [], ◌∷◌, refl, ap, sym, ◌∙◌, subst, arith}
use Rattle.std.proofs.lemmas.Bool.{eq-eqb}
use Rattle.air_frames.specs.declared.frame.Heading.{Heading}
use Rattle.air_frames.specs.declared.frame.Heading.TheVariants.{Outward}
use Rattle.air_frames.specs.Ages.{refusal_of}
use Rattle.air_frames.specs.Flown.{Flown}
use Rattle.air_frames.specs.Frames.{landing, next_of, remembered}
use Rattle.device_sim.specs.State.{State}
use Rattle.device_sim.specs.Event.{Hears, device_after}
use Rattle.mesh_sim.specs.Fates.{Mesh}
use Rattle.proof_course_plain.specs.Judged.{Judges, JudgesEach}
use Rattle.proof_course_plain.specs.Making.{Names}
use Rattle.proof_course_plain.proofs.ChangesOutside.{place_is}
use Rattle.proof_course_plain.proofs.JudgedMessages.{ticks_judge, wakes_judge}
use Rattle.proof_course_sealed.specs.Labels.{Held, as_session}
use Rattle.proof_course_sealed.specs.Courses.{Courses, CoursesFacts}
use Rattle.proof_course_sealed.specs.Meaning.{Past}
use Rattle.proof_course_sealed.specs.Lock.{AtLock}
use Rattle.proof_course_sealed.specs.Device.{NamesNonce}
use Rattle.proof_course_sealed.specs.Air.{MeansBy, OnAir, landed, Lands, WasThere}
use Rattle.proof_course_sealed.specs.Mesh.{InMesh}
use Rattle.proof_course_sealed.proofs.Arrivals.{Laws, names, names_nonce, names_again, nonces_again}
use Rattle.proof_course_sealed.proofs.Elsewhere.{lock_stays}

module _ (laws : Laws) (past : Past) (node : ℕ) (c : Courses) (m : Mesh) (within : node < 233) (facts : CoursesFacts c) (is : InMesh past node c m) where
  abbrev device : State
  device = is.device.device

  -- a frame of the courses, which are so without it
  heard : (before : Courses) (frame : Flown) (held : Held) (drawn : List ℕ) → AtLock past before device → MeansBy Outward (frame.node == node) past node frame.payload held → Names before.sessions.device (as_session held) → NamesNonce before held
      → frame.node ≡ node → Judges past.orders past.commands device (device_after device (Hears frame.payload drawn))
  heard before frame held drawn at means named nonce own =
      laws.judges past node before device held frame.payload drawn at (place_is node m.devices is.device.place device is.device.first is.device.stands)
      (subst (λ (b : Bool). MeansBy Outward b past node frame.payload held) (eq-eqb frame.node node own) means) named nonce

  arrives : (frame : Flown) (drawn : List ℕ) → next_of m.air.frames ≡ Some frame → frame.node ≡ node → frame.heading ≡ Outward → device.awake ≡ true → Judges past.orders past.commands device (device_after device (Hears frame.payload drawn))
  arrives frame drawn next own outward awake = by is.flights is.on_air
    where
      by : (flights : List Flown) → OnAir past node c is.log flights m.air.frames → Judges past.orders past.commands device (device_after device (Hears frame.payload drawn))
      by [] on_air = absurd (let bad : None ≡ Some frame = sym (laws.none is.log m.air.frames on_air.fly) ∙ next in grind (arith, bad))
      by (one ∷ later) on_air =
          let found : Some one ≡ Some frame = sym (laws.next is.log one later m.air.frames on_air.fly) ∙ next in
          let same : one ≡ frame = cc in
          let l : Lands past node c is.log one later (landing m.air.frames) = laws.lands past node c is.log one later m.air.frames on_air in
          let at : AtLock past (landed c l.rest) device =
          lock_stays past past c (landed c l.rest) device refl refl (record { device = refl; kept = refl; ends = refl; given = refl; is_live = refl; seen = refl; waits = refl }) is.device.at in
          subst (λ (f : Flown). Judges past.orders past.commands device (device_after device (Hears f.payload drawn))) same
          (heard (landed c l.rest) one l.aloft.held drawn at (subst (λ (heading : Heading). MeansBy heading (one.node == node) past node one.payload l.aloft.held) (ap (λ (f : Flown). f.heading) same ∙ outward) l.bears.1)
          (names laws past node c m one later is on_air facts within l.aloft.held refl) (names_nonce laws past node c m one later is on_air facts within l.aloft.held refl) (ap (λ (f : Flown). f.node) same ∙ own))

  repeats : (number : ℕ) (frame : Flown) (drawn : List ℕ) → refusal_of m.air.frames number ≡ None → remembered m.air.frames number ≡ Some frame → frame.node ≡ node → frame.heading ≡ Outward → device.awake ≡ true
      → Judges past.orders past.commands device (device_after device (Hears frame.payload drawn))
  repeats number frame drawn fresh known own outward awake =
      let was : WasThere past node c frame = laws.repeated past node c is.log is.flights m.air.frames number frame within is.on_air fresh known in
      heard c frame was.aloft.held drawn is.device.at (subst (λ (heading : Heading). MeansBy heading (frame.node == node) past node frame.payload was.aloft.held) outward was.bears.1)
      (names_again laws past node c m number frame facts is was within was.aloft.held refl) (nonces_again laws past node c m number frame facts is was within was.aloft.held refl was.recent) own

  pub judges_each : JudgesEach node past.orders past.commands m.air.frames device
  judges_each = record {
    arrives = arrives;
    repeats = repeats;
    ticks = ticks_judge past.orders past.commands c.sessions.ends device is.device.at.ended;
    wakes = wakes_judge past.orders past.commands c.sessions.ends device is.device.at.ended;
  }
