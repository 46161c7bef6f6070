use Rattle.std.proofs.Common.{◌≡◌, ◌∙◌, ap, arith}
use Rattle.ti_caps.specs.inside.Keys.{key_up_to, key_of}
use Rattle.ti_caps.proofs.keys.key_of.Goals as goal

pub returns : goal.returns
unfolding key_of
returns c = let all : c.loop-place.place ≡ 8 = omega (arith, c.loop-place-test.false, c.loop-place.auto.place-end) in c.loop-place.invariant
    ∙ ap (λ n. key_up_to n c.args.name.now) all
