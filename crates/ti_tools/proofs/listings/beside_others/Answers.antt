use Rattle.std.proofs.Common.{◌≡◌, IfOk, List, ℕ, subst, sym, ◌∙◌}
use Rattle.ti_layout.specs.View.{entry_seen}
use Rattle.ti_list.specs.RelativeSource.{entries_shown}
use Rattle.ti_tools.proofs.Printing.{printed-compared, printed-related}
use Rattle.ti_tools.proofs.listings.beside_others.Goals as goal

pub returns-in-Some : goal.returns-in-Some
returns-in-Some c =
    let compared = printed-compared c.args.options.now.mode c.in-Some.mode (entry_seen c.args.first.now)
    (entries_shown c.args.others.now) c.args.options.now.layout (sym c.comparison_mode.ensures ∙ c.in-Some.is) in
    subst (λ (all : List ℕ). IfOk c.comparisons.result (λ text. text.items ≡ all)) (sym compared) c.comparisons.ensures

pub returns-in-None : goal.returns-in-None
returns-in-None c =
    let related = printed-related c.args.options.now.mode (entry_seen c.args.first.now)
    (entries_shown c.args.others.now) c.args.options.now.layout c.requires.mode (sym c.comparison_mode.ensures ∙ c.in-None.is) in
    subst (λ (all : List ℕ). IfOk c.relation.result (λ text. text.items ≡ all)) (sym related) c.relation.ensures
