use Rattle.std.proofs.Common.{Bor, List, [], ℕ, rules}
use Rattle.std.proofs.lemmas.Result.{err_from_is_err_and}
use Rattle.tools_devices.proofs.Written.{TakesAll-then, Wrote-over}
use Rattle.ti_tools.proofs.Parts.{parts-more, parts-whole}
use Rattle.ti_tools.proofs.stopping.write_parts.Goals as goal

-- what is past the end of the parts
no_part : Bor (List ℕ)
no_part = record { ref_ptr = (0, 0); now = [] }

pub returns-in_err-write_out : goal.returns-in_err-write_out
unfolding no_part
returns-in_err-write_out g c =
    let p = err_from_is_err_and c.from_residual.result c.from_residual.ensures.1 in
    rw (p.1, p.2) (Wrote-over _ _ _ _ _ _ _ _ c.loop-part.invariant c.in_err-write_out.ensures
    (parts-whole (λ (part : Bor (List ℕ)). part.now) c.args.parts.now c.loop-part.part-index no_part (search rules)))

pub loop-part-preserved : goal.loop-part-preserved
unfolding no_part
loop-part-preserved g c =
    rw (parts-more (λ (part : Bor (List ℕ)). part.now) c.args.parts.now c.loop-part.part-index no_part (search rules))
    (TakesAll-then _ _ _ _ _ c.loop-part.invariant c.in_ok-write_out.ensures)
