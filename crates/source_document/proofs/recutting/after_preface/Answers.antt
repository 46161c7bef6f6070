use Rattle.std.proofs.Common.{◌-◌, List, ℕ, ap, arith, drop, length, ◌∙◌}
use Rattle.std.proofs.lemmas.List.{length-drop, take_all}
use Rattle.ti_source.specs.Cutting.{blocks_from_head}
use Rattle.source_document.proofs.LocalCuts.{without_preface}
use Rattle.source_document.proofs.recutting.after_preface.Goals as goal

pub returns : goal.returns
returns c =
    let text = c.args.text.now in
    let size = length c.preface.result.now in
    ap (blocks_from_head 10) (take_all (length text - size) (drop size text) (omega (arith, length-drop size text)))
    ∙ ap (λ (preface : List ℕ). blocks_from_head 10 (drop (length preface) text)) c.preface.ensures
    ∙ without_preface text c.blocks-2.result.preface c.blocks-2.result.blocks c.blocks-2.ensures.cut c.blocks-2.ensures.blocks
