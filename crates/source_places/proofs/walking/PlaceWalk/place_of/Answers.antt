use Rattle.std.proofs.Common.{◌≡◌, subst, sym}
use Rattle.source_places.specs.Position.{position_of}
use Rattle.source_places.proofs.Onward.{place_first}
use Rattle.source_places.proofs.walking.PlaceWalk.place_of.Goals as goal
use Rattle.source_places.proofs.walking.PlaceWalk.place_of.Goals.{then-offset-self, else-offset-self}

pub place_from-self-inside-requires-clause-place : goal.place_from-self-inside-requires-clause-place
place_from-self-inside-requires-clause-place c = elim c.if-offset-self.branch [
  | then-offset-self w ↦
      subst (λ i. i.place ≡ position_of i.text.now i.at) (sym w.self-inside-is)
      (sym (place_first (record { line = 0; column = 0 }) c.self.inside.text.now))
  | else-offset-self w ↦ subst (λ i. i.place ≡ position_of i.text.now i.at) (sym w.self-inside-is) c.self.invariant.0
]
