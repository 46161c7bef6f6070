-- An edit is refused for only one cause.
use Rattle.std.proofs.Common.{◌≡◌, ℕ, List, refl}
use Rattle.base_meaning.specs.declared.edits.EditError.{EditError}
use Rattle.base_meaning.specs.declared.edits.EditError.TheVariants.{Position, TooLong, NotOneBlock, TooMany, Memory}
use Rattle.base_meaning.specs.Edits.{Change, EditsHaveOneCause, IsRefusal, IsSoundEdit}

-- what is refused for another cause than out of memory is not sound
pub refused_unsound : (texts : List (List ℕ)) (change : Change) (cause : EditError) → (cause ≡ Memory → ⊥) → IsRefusal texts change cause
    → IsSoundEdit texts change → ⊥
refused_unsound texts change Position apart r sound = r sound.in_place
refused_unsound texts change TooLong apart r sound = r.1 sound.short
refused_unsound texts change NotOneBlock apart r sound = r.2 sound.block
refused_unsound texts change TooMany apart r sound = r.3 sound.room
refused_unsound texts change Memory apart r sound = apart refl

pub one_cause : EditsHaveOneCause
one_cause texts change Position Position r s = refl
one_cause texts change Position TooLong r s = absurd (r s.0)
one_cause texts change Position NotOneBlock r s = absurd (r s.0)
one_cause texts change Position TooMany r s = absurd (r s.0)
one_cause texts change Position Memory r s = absurd (r s.in_place)
one_cause texts change TooLong Position r s = absurd (s r.0)
one_cause texts change TooLong TooLong r s = refl
one_cause texts change TooLong NotOneBlock r s = absurd (r.1 s.1)
one_cause texts change TooLong TooMany r s = absurd (r.1 s.1)
one_cause texts change TooLong Memory r s = absurd (r.1 s.short)
one_cause texts change NotOneBlock Position r s = absurd (s r.0)
one_cause texts change NotOneBlock TooLong r s = absurd (s.1 r.1)
one_cause texts change NotOneBlock NotOneBlock r s = refl
one_cause texts change NotOneBlock TooMany r s = absurd (r.2 s.2)
one_cause texts change NotOneBlock Memory r s = absurd (r.2 s.block)
one_cause texts change TooMany Position r s = absurd (s r.0)
one_cause texts change TooMany TooLong r s = absurd (s.1 r.1)
one_cause texts change TooMany NotOneBlock r s = absurd (s.2 r.2)
one_cause texts change TooMany TooMany r s = refl
one_cause texts change TooMany Memory r s = absurd (r.3 s.room)
one_cause texts change Memory Position r s = absurd (s r.in_place)
one_cause texts change Memory TooLong r s = absurd (s.1 r.short)
one_cause texts change Memory NotOneBlock r s = absurd (s.2 r.block)
one_cause texts change Memory TooMany r s = absurd (s.3 r.room)
one_cause texts change Memory Memory r s = refl
