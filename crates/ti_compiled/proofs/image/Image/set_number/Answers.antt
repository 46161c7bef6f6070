use Rattle.std.proofs.Common.{◌≡◌, ℕ, Option, Some, None, refl}
use Rattle.ti_caps.specs.declared.capability.Kind.TheVariants.{Number}
use Rattle.ti_layout.specs.Laws.{without_cancel}
use Rattle.ti_compiled.specs.inside.Changes.{number_content}
use Rattle.ti_compiled.proofs.ReadAgain.{after_giving}
use Rattle.ti_compiled.proofs.NumberChange.{number_agrees}
use Rattle.ti_compiled.proofs.image.Image.set_number.Goals as goal

number_present : (number : Option ℕ) → without_cancel (number_content number) ≡ number_content number
number_present (Some n) = refl
number_present None = refl

pub invariant_of-self : goal.invariant_of-self
invariant_of-self c =
    (after_giving c.set_number.result c.self.inside.bytes.items c.args.self.now c.set_number.new.bytes.items c.args.cap Number c.index.result
    (number_content c.args.number) c.self.view_is c.requires.kind c.index.ensures.value
    c.self.invariant (number_agrees c.index.result c.args.number c.requires.fits) (number_present c.args.number) c.set_number.ensures.ok
    c.set_number.ensures.within c.set_number.ensures.too_large c.set_number.ensures.memory c.set_number.ensures.names_fit c.set_number.ensures.err).is_image

pub returns : goal.returns
returns c =
    (after_giving c.set_number.result c.self.inside.bytes.items c.args.self.now c.set_number.new.bytes.items c.args.cap Number c.index.result
    (number_content c.args.number) c.self.view_is c.requires.kind c.index.ensures.value
    c.self.invariant (number_agrees c.index.result c.args.number c.requires.fits) (number_present c.args.number) c.set_number.ensures.ok
    c.set_number.ensures.within c.set_number.ensures.too_large c.set_number.ensures.memory c.set_number.ensures.names_fit c.set_number.ensures.err).sets
