use Rattle.std.proofs.Common.{Bor, List, ℕ, ap, sym, ◌++◌, ◌∙◌}
use Rattle.source_document.proofs.HeldTexts.{texts_of-ended}
use Rattle.source_document.proofs.LocalCuts.{joined}
use Rattle.source_document.proofs.recutting.texts_of.Goals as goal

pub returns : goal.returns
returns c =
    let cut = c.push_blocks.new.texts.items in
    joined c.in_ok-texts.texts.items c.push_first.new.texts.items cut c.extend_from_slice.new.self.items c.new-last.result.items
    c.push_last.new.texts.items c.reverse.new.self.items c.after_preface.result.now c.in_ok-rest.rest.now c.in_ok-middle.middle.now
    c.in_ok-texts.ensures.items c.new-last.ensures.items c.in_ok-rest.ensures c.in_ok-middle.ensures c.in_ok-push_blocks.ensures c.reverse.ensures.items
    (c.in_ok-extend_from_slice.ensures.items ∙ ap (λ (back : List (Bor (List ℕ))). cut ++ back) c.deref.ensures.value)
    ∙ c.after_preface.ensures ∙ sym (texts_of-ended c.args.ended.now c.requires.ended)
