-- The hints on the blocks of a source, block by block.
use Rattle.std.proofs.Common.{◌≡◌, ◌∙◌, ℕ, ◌+◌, ◌-◌, Bool, List, ◌++◌, map, ap, ap₂, add-one, sym}
use Rattle.base_meaning.specs.Report.{lines_before}
use Rattle.source_diagnostics.specs.Marking.{text_at}
use Rattle.source_remarks.specs.Hints.{SeenHint, hints_at, hints_before, shown_after, source_marks}

-- those on one more block
pub one_more_block : (user_defined : Bool) (texts : List (List ℕ)) (first at lines : ℕ) (text : List ℕ) (before all : List SeenHint)
    → lines ≡ first - 1 + lines_before texts at → text ≡ text_at texts at
    → before ≡ hints_before user_defined texts first at
    → all ≡ before ++ map (shown_after lines text) (source_marks user_defined texts at)
    → all ≡ hints_before user_defined texts first (at + 1)
one_more_block user_defined texts first at lines text before all line there so_far added =
    added
    ∙ ap₂ (λ (l : ℕ) (t : List ℕ). before ++ map (shown_after l t) (source_marks user_defined texts at)) line there
    ∙ ap (λ (b : List SeenHint). b ++ hints_at user_defined texts first at) so_far
    ∙ ap (hints_before user_defined texts first) (sym (add-one at))
