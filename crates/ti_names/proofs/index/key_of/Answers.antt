use Rattle.std.proofs.Common.{◌≡◌, ◌∙◌, ap, arith, length}
use Rattle.ti_names.specs.inside.Index.{key_up_to, key_of}
use Rattle.ti_names.proofs.index.key_of.Goals as goal

pub returns : goal.returns
unfolding key_of
returns c = let all : c.loop-place.place ≡ length c.args.word.now = omega (arith, c.loop-place-test.false, c.loop-place.auto.place-end) in c.loop-place.invariant
    ∙ ap (λ n. key_up_to n c.args.word.now) all
