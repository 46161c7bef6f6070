use Rattle.std.proofs.Common.{◌≡◌, ◌≢◌, [], ◌∷◌, Some, ap, rules, sym, ◌∙◌}
use Rattle.ti_list.specs.RelativeSource.{entries_shown}
use Rattle.tools_commands.specs.declared.jobs.InfocmpMode.TheVariants.{List}
use Rattle.ti_tools.specs.Listings.{infocmp_result}
use Rattle.ti_tools.proofs.Printing.{listing_printed, several_printed}
use Rattle.ti_tools.proofs.listings.infocmp.Goals as goal

pub returns-then-eq-clause-ok : goal.returns-then-eq-clause-ok
returns-then-eq-clause-ok c =
    let is : c.args.options.now.mode ≡ List = search rules in
    listing_printed (entries_shown c.args.views.now) c.args.options.now is ∙ ap Some (sym c.in_ok-listings_text.ensures)

pub returns-then-eq-clause-usage : goal.returns-then-eq-clause-usage
returns-then-eq-clause-usage c =
    let is : c.args.options.now.mode ≡ List = search rules in
    let printed = listing_printed (entries_shown c.args.views.now) c.args.options.now is in
    (search rules, λ none. absurd (cc))

pub returns-clause-ok : goal.returns-clause-ok
returns-clause-ok c =
    let several : c.in-Some.others.now ≢ [] = search rules in
    let views : c.args.views.now ≡ c.in-Some.first.now ∷ c.in-Some.others.now = c.in-Some.ensures.cases.0 in
    ap (λ views. infocmp_result (entries_shown views) c.args.options.now) views
    ∙ several_printed c.in-Some.first.now c.in-Some.others.now c.args.options.now several ∙ ap Some (sym c.in_ok-beside_others.ensures)
