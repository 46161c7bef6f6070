use Rattle.std.proofs.Common.{◌≡◌, Option, option_map, subst, rules}
use Rattle.ti_layout.specs.Laws.{without_cancel}
use Rattle.ti_layout.specs.Values.{Content, content_of}
use Rattle.ti_compiled.specs.Changes.{SetsContent}
use Rattle.ti_compiled.specs.inside.Changes.{content_lent}
use Rattle.ti_compiled.proofs.image.Image.set.Goals as goal

pub returns : goal.returns
returns c =
    let same : content_lent c.as_ref.result ≡ option_map content_of c.args.value = search rules in
    subst (λ (v : Option Content). SetsContent c.args.self.now c.set_value.new.self c.args.cap (without_cancel v) c.set_value.result) same c.set_value.ensures
