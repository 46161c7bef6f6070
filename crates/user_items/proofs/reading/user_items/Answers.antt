use Rattle.std.proofs.Common.{◌≡◌, List, [], Option, Some, None, refl, subst, sym}
use Rattle.std.specs.Option.{option_map}
use Rattle.ti_source.specs.Folding.{PlacedByte}
use Rattle.ti_source.specs.Items.{ItemPiece}
use Rattle.ti_source.specs.Walking.{TakesNext}
use Rattle.user_items.specs.Reading.{UserBlock, user_reading_of}
use Rattle.user_items.specs.Parsing.{ReadsUserItems}
use Rattle.user_items.proofs.Readings.{all_read}
use Rattle.user_items.proofs.reading.user_items.Goals as goal

ended : {X : Type 0} (f : X → ItemPiece) (o : Option X) (old new : List (List PlacedByte)) → ((x : X) → o ≡ Some x → ⊥) → TakesNext old (option_map f o) new
    → old ≡ []
ended f None old new never taken = taken.0
ended f (Some x) old new never taken = absurd (never x refl)

pub returns-clause-computed : goal.returns-clause-computed
returns-clause-computed c =
    all_read c.args.block.now c.loop-read.ordinal c.loop-read.walk (user_reading_of c.loop-read.read) c.loop-read.invariant
    (ended _ c.in_ok-item.field-0 c.loop-read.walk c.take.new.self (λ x e. c.in_default.not-Some x e) c.in_ok-item.ensures)

pub returns-clause-reading : goal.returns-clause-reading
returns-clause-reading c =
    let P : UserBlock → Type 0 = λ r. ReadsUserItems c.args.block.now r in
    subst P (sym (returns-clause-computed c)) (c.one_user_reading.ensures.has c.args.block.now)
