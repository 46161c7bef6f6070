use Rattle.std.proofs.Common.{inl, inr}
use Rattle.std.proofs.lemmas.Bool.{cases_lt, false≢true}
use Rattle.source_block_hints.proofs.Counting.{no_name}
use Rattle.source_block_hints.proofs.formats.string_name.Goals as goal

pub returns-in-None : goal.returns-in-None
returns-in-None c = elim (cases_lt c.args.index 414) [
  | inl within ↦ absurd (false≢true (c.in-None.ensures.within.1 within))
  | inr past ↦ no_name c.args.index past
]
