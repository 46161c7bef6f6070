use Rattle.std.proofs.Common.{◌≡◌, ◌∙◌, true, false, get_or, rules}
use Rattle.everyday_tput.specs.Numbers.{is_space}
use Rattle.everyday_tput.proofs.Digits.{space_ends, space_none, space_step}
use Rattle.everyday_tput.proofs.numbers.after_space.Goals as goal

pub loop-rest-preserved : goal.loop-rest-preserved
loop-rest-preserved c =
    let is : is_space (get_or c.loop-rest.rest.now 0 0) ≡ true = search rules in
    space_step c.loop-rest.rest.now c.in-len1-up.len_at_least is ∙ c.loop-rest.invariant

pub returns-in_default : goal.returns-in_default
returns-in_default c = space_none c.loop-rest.rest.now c.in_default.len_below ∙ c.loop-rest.invariant

pub returns-then-not-is_space : goal.returns-then-not-is_space
returns-then-not-is_space c =
    let is : is_space (get_or c.loop-rest.rest.now 0 0) ≡ false = search rules in
    space_ends c.loop-rest.rest.now is ∙ c.loop-rest.invariant
