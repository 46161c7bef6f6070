-- the capability at the last place of the code, or no place has it
use Rattle.std.proofs.Common.{None, sym, ap, ◌∙◌, option_map}
use Rattle.ti_caps.specs.Tables.{capability}
use Rattle.ti_names.specs.Names.{termcap_codes}
use Rattle.ti_names.proofs.Named.{at_place}
use Rattle.ti_names.proofs.ByCode.{is_of_code, if_found, if_last, if_none}
use Rattle.ti_names.proofs.CodeTables.{length-codes}
use Rattle.ti_names.proofs.codes.by_code.Goals as goal

pub returns-in_err-place_of-clause-none : goal.returns-in_err-place_of-clause-none
returns-in_err-place_of-clause-none c =
    rw c.from_residual.ensures (if_none c.args.code.now c.args.kind None
    (ap (λ p. option_map (capability c.args.kind) p) (sym c.in_err-place_of.was ∙ c.place_of.ensures)))

pub returns-in_err-place_of-clause-is : goal.returns-in_err-place_of-clause-is
returns-in_err-place_of-clause-is c =
    c.from_residual.ensures ∙ is_of_code c.args.code.now c.args.kind None
    (ap (λ p. option_map (capability c.args.kind) p) (sym c.in_err-place_of.was ∙ c.place_of.ensures))

pub returns-clause-found : goal.returns-clause-found
returns-clause-found c = if_found c.args.code.now c.args.kind c.at.result
    (at_place c.args.code.now c.args.kind (termcap_codes c.args.kind) (length-codes c.args.kind) _ _ (sym c.place_of.ensures ∙ c.in_ok-place_of.was)
    c.at.ensures.within c.at.ensures.value)

pub returns-clause-last : goal.returns-clause-last
returns-clause-last c = if_last c.args.code.now c.args.kind c.at.result
    (at_place c.args.code.now c.args.kind (termcap_codes c.args.kind) (length-codes c.args.kind) _ _ (sym c.place_of.ensures ∙ c.in_ok-place_of.was)
    c.at.ensures.within c.at.ensures.value)

pub returns-clause-none : goal.returns-clause-none
returns-clause-none c = if_none c.args.code.now c.args.kind c.at.result
    (at_place c.args.code.now c.args.kind (termcap_codes c.args.kind) (length-codes c.args.kind) _ _ (sym c.place_of.ensures ∙ c.in_ok-place_of.was)
    c.at.ensures.within c.at.ensures.value)

pub returns-clause-is : goal.returns-clause-is
returns-clause-is c = is_of_code c.args.code.now c.args.kind c.at.result
    (at_place c.args.code.now c.args.kind (termcap_codes c.args.kind) (length-codes c.args.kind) _ _ (sym c.place_of.ensures ∙ c.in_ok-place_of.was)
    c.at.ensures.within c.at.ensures.value)
