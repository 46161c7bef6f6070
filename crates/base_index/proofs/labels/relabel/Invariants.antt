use Rattle.std.proofs.Common.{◌≡◌, vec_len}
use Rattle.base_index.proofs.Labelling.{AreSpaced}
use Rattle.base_index.proofs.labels.relabel.Given as goal

abbrev pub invariant-loop-index : goal.invariant-loop-index
invariant-loop-index l = (vec_len l.labels ≡ vec_len l.fn.labels) × AreSpaced l.ids l.labels.items 4294967296 l.index
