use Rattle.std.proofs.Common.{◌≡◌, ℕ, Bool, true, false, refl}
use Rattle.ti_caps.specs.Tables.{capability}
use Rattle.ti_caps.specs.declared.capability.Kind.TheVariants.{Flag}
use Rattle.ti_layout.specs.Laws.{without_cancel}
use Rattle.ti_layout.specs.Values.{AgreesIfSome}
use Rattle.ti_compiled.specs.inside.Changes.{flag_content}
use Rattle.ti_compiled.proofs.ReadAgain.{after_giving}
use Rattle.ti_compiled.proofs.image.Image.set_flag.Goals as goal

flag_agrees : (i : ℕ) (on : Bool) → AgreesIfSome (capability Flag i) (flag_content on)
flag_agrees i true = refl
flag_agrees i false = tt

flag_present : (on : Bool) → without_cancel (flag_content on) ≡ flag_content on
flag_present true = refl
flag_present false = refl

pub invariant_of-self : goal.invariant_of-self
invariant_of-self c =
    (after_giving c.set_flag.result c.self.inside.bytes.items c.args.self.now c.set_flag.new.bytes.items c.args.cap Flag c.index.result
    (flag_content c.args.on) c.self.view_is c.requires.kind c.index.ensures.value
    c.self.invariant (flag_agrees c.index.result c.args.on) (flag_present c.args.on) c.set_flag.ensures.ok c.set_flag.ensures.within
    c.set_flag.ensures.too_large c.set_flag.ensures.memory c.set_flag.ensures.names_fit c.set_flag.ensures.err).is_image

pub returns : goal.returns
returns c =
    (after_giving c.set_flag.result c.self.inside.bytes.items c.args.self.now c.set_flag.new.bytes.items c.args.cap Flag c.index.result
    (flag_content c.args.on) c.self.view_is c.requires.kind c.index.ensures.value
    c.self.invariant (flag_agrees c.index.result c.args.on) (flag_present c.args.on) c.set_flag.ensures.ok c.set_flag.ensures.within
    c.set_flag.ensures.too_large c.set_flag.ensures.memory c.set_flag.ensures.names_fit c.set_flag.ensures.err).sets
