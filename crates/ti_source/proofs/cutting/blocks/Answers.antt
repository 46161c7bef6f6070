use Rattle.std.proofs.Common.{ap, ◌∙◌}
use Rattle.ti_source.specs.Cutting.{front_of, blocks_from_head}
use Rattle.ti_source.proofs.CutLemmas.{each_has_cut, length-blocks_of}
use Rattle.ti_source.proofs.WalkLemmas.{takes_front}
use Rattle.ti_source.proofs.cutting.blocks.Goals as goal

pub split_at-requires : goal.split_at-requires
split_at-requires c = (takes_front _ _ c.preface_len.ensures).within

pub new-requires : goal.new-requires
new-requires c = ap (front_of 10) c.split_at.ensures.back ∙ (takes_front _ _ c.preface_len.ensures).front

pub returns-clause-preface : goal.returns-clause-preface
returns-clause-preface c = c.new.ensures.preface ∙ c.split_at.ensures.front ∙ (takes_front _ _ c.preface_len.ensures).preface

pub returns-clause-blocks : goal.returns-clause-blocks
returns-clause-blocks c =
    c.new.ensures.left ∙ ap (blocks_from_head 10) c.split_at.ensures.back ∙ (takes_front _ _ c.preface_len.ensures).left

pub returns-clause-cut : goal.returns-clause-cut
returns-clause-cut c = rw (returns-clause-preface c, returns-clause-blocks c) (each_has_cut c.args.source.now)

pub returns-clause-len : goal.returns-clause-len
returns-clause-len c = rw (returns-clause-blocks c) (length-blocks_of 10 c.args.source.now)
