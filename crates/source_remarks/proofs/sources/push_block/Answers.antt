use Rattle.std.proofs.Common.{◌≡◌, ◌∙◌, ◌++◌, ℕ, Bool, List, ap, map, subst, sym}
use Rattle.std.specs.Prelude.{OnOk}
use Rattle.source_hints.specs.Following.{says_after_use}
use Rattle.source_diagnostics.specs.Marking.{text_at}
use Rattle.source_remarks.specs.Hints.{block_marks, hint_seen, shown_after, source_marks}
use Rattle.source_remarks.specs.declared.marks.HintMark.{HintMark}
use Rattle.source_remarks.proofs.AfterUses.{text_alone, text_there}
use Rattle.source_remarks.proofs.sources.push_block.Goals as goal

pub returns-else-says_after_use : goal.returns-else-says_after_use
returns-else-says_after_use c =
    let texts = c.args.database.now in
    let at = c.args.at in
    let text = c.text-text.result.now in
    let here : text_at texts at ≡ text = text_there texts at text c.text-text.ensures in
    let kept = c.requires.kept text c.text-text.ensures in
    let silent = sym (ap (λ (p : Bool × List ℕ). says_after_use p.1) kept) ∙ sym c.says_after_use.ensures ∙ c.if-says_after_use.false in
    let marks : c.marks.result.now ≡ source_marks c.args.user_defined texts at =
    c.marks.ensures ∙ ap (λ (p : Bool × List ℕ). block_marks p.0 p.1) kept
    ∙ text_alone c.others_have_no_hint_after_uses.ensures c.args.user_defined texts at text c.text-text.ensures silent in
    let Added : List ℕ → List HintMark → Type 0 = λ t ms. OnOk c.push_marks-else-says_after_use.result
    (map hint_seen c.push_marks-else-says_after_use.new.all.items ≡ map hint_seen c.args.all.now.items ++ map (shown_after c.args.lines t) ms) in
    subst (λ (t : List ℕ). Added t (source_marks c.args.user_defined texts at)) (sym here)
    (subst (Added text) marks c.push_marks-else-says_after_use.ensures)
