use Rattle.zones.specs.Safety.{starts_at}
use Rattle.zones.proofs.Certificates.{certificates_are_sound, sound_by_units}
use Rattle.zones.proofs.laws.certificates_are_sound.Goals as goal

pub returns-clause-sound : goal.returns-clause-sound
returns-clause-sound g c = λ net initial. certificates_are_sound g.B.Bound.kind net (starts_at initial)

pub returns-clause-by_units : goal.returns-clause-by_units
returns-clause-by_units g c = sound_by_units g.B.Bound.kind
