use Rattle.std.proofs.Common.{ap, map, sym, ◌∙◌}
use Rattle.std.proofs.lemmas.Result.{IfOk-weaker}
use Rattle.std.proofs.lemmas.Simd.{map-map}
use Rattle.source_remarks.specs.Remarks.{remark_seen}
use Rattle.server_answers.specs.Shown.{remark_data}
use Rattle.server_answers.proofs.showing.hinted_values_of.Goals as goal

pub returns : goal.returns
returns c =
    let same = sym (map-map remark_data remark_seen c.deref.result.now)
    ∙ ap (map remark_data) (ap (map remark_seen) c.deref.ensures.value ∙ c.in_ok-remarks.ensures) in
    IfOk-weaker c.remark_values.result _ _ (λ values h. h ∙ same) c.remark_values.ensures
