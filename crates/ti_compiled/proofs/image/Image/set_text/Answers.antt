use Rattle.std.proofs.Common.{◌≡◌, ℕ, List, Option, Some, None, Bor, IfSome, refl}
use Rattle.ti_caps.specs.Tables.{capability}
use Rattle.ti_caps.specs.declared.capability.Kind.TheVariants.{Text}
use Rattle.ti_layout.specs.Laws.{without_cancel}
use Rattle.ti_layout.specs.Values.{AgreesIfSome, HasNoNul}
use Rattle.ti_compiled.specs.inside.Changes.{text_lent}
use Rattle.ti_compiled.proofs.ReadAgain.{after_giving}
use Rattle.ti_compiled.proofs.image.Image.set_text.Goals as goal

text_agrees : (i : ℕ) (t : Option (Bor (List ℕ))) → IfSome t (λ x. HasNoNul x.now) → AgreesIfSome (capability Text i) (text_lent t)
text_agrees i (Some t) h = (refl, h)
text_agrees i None h = tt

text_present : (t : Option (Bor (List ℕ))) → without_cancel (text_lent t) ≡ text_lent t
text_present (Some t) = refl
text_present None = refl

pub invariant_of-self : goal.invariant_of-self
invariant_of-self c =
    (after_giving c.set_text.result c.self.inside.bytes.items c.args.self.now c.set_text.new.bytes.items c.args.cap Text c.index.result
    (text_lent c.args.text) c.self.view_is c.requires.kind c.index.ensures.value
    c.self.invariant (text_agrees c.index.result c.args.text c.requires.no_nul) (text_present c.args.text) c.set_text.ensures.ok c.set_text.ensures.within
    c.set_text.ensures.too_large c.set_text.ensures.memory c.set_text.ensures.names_fit c.set_text.ensures.err).is_image

pub returns : goal.returns
returns c =
    (after_giving c.set_text.result c.self.inside.bytes.items c.args.self.now c.set_text.new.bytes.items c.args.cap Text c.index.result
    (text_lent c.args.text) c.self.view_is c.requires.kind c.index.ensures.value
    c.self.invariant (text_agrees c.index.result c.args.text c.requires.no_nul) (text_present c.args.text) c.set_text.ensures.ok c.set_text.ensures.within
    c.set_text.ensures.too_large c.set_text.ensures.memory c.set_text.ensures.names_fit c.set_text.ensures.err).sets
