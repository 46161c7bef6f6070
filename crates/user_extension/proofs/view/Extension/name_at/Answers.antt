use Rattle.std.proofs.Common.{arith}
use Rattle.user_extension.proofs.view.Extension.name_at.Goals as goal

pub overflow_mul-place : goal.overflow_mul-place
overflow_mul-place c = let e = c.args.self.now in omega (arith, c.requires, e.few)

pub word-requires : goal.word-requires
word-requires c = omega (arith, c.requires)

pub text-requires : goal.text-requires
text-requires c =
    let lead = c.args.self.now.lead c.args.place c.requires in
    omega (arith, lead, c.word.ensures.value)
