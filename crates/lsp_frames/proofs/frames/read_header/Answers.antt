use Rattle.std.proofs.Common.{◌≡◌, ◌≢◌, length, option_map, refl, arith}
use Rattle.std.proofs.lemmas.Grind.{common_steps}
use Rattle.std.proofs.lemmas.Result.{IfErr-weaker, IfOk-weaker, err_from_is_err_and}
use Rattle.lsp_frames.proofs.HeaderLines.{HeaderSoFar-more, HeaderSoFar-none, IsHeader-ended, ReadingStops-ended, ReadingStops-full, ReadingStops-in_line}
use Rattle.lsp_frames.proofs.HeaderLines.{ReadingStops-line}
use Rattle.lsp_frames.specs.declared.frames.FrameError.TheVariants.{Memory}
use Rattle.lsp_frames.proofs.frames.read_header.Goals as goal

pub loop-room-init : goal.loop-room-init
loop-room-init g c = HeaderSoFar-none (g.I.Input.seen c.args.input.now)

pub returns-in_err-line-clause-stops : goal.returns-in_err-line-clause-stops
returns-in_err-line-clause-stops g c =
    let e = err_from_is_err_and c.from_residual.result c.from_residual.ensures.1 in
    rw (e.1, e.2) (ReadingStops-in_line _ _ _ _ _ c.loop-room.invariant _ c.in_err-line.ensures.stops)

pub returns-then-is_empty-clause-read : goal.returns-then-is_empty-clause-read
returns-then-is_empty-clause-read g c =
    let empty : length c.in_ok-line.line.items ≡ 0 = grind (arith, common_steps) in
    IfOk-weaker c.announced.result _ _
    (λ len h.
    IsHeader-ended _ _ _ _ _ c.loop-room.invariant c.in_ok-line.line.items c.in_ok-line.ensures.read c.in_ok-line.ensures.line c.in_ok-line.ensures.short
    len empty h)
    c.announced.ensures.number

pub returns-then-is_empty-clause-stops : goal.returns-then-is_empty-clause-stops
returns-then-is_empty-clause-stops g c =
    let empty : length c.in_ok-line.line.items ≡ 0 = grind (arith, common_steps) in
    IfErr-weaker c.announced.result _ _
    (λ fault why.
    ReadingStops-ended _ _ _ _ _ c.loop-room.invariant c.in_ok-line.line.items c.in_ok-line.ensures.read c.in_ok-line.ensures.line c.in_ok-line.ensures.short
    fault empty why)
    c.announced.ensures.refused

pub returns-in_err-value-clause-stops : goal.returns-in_err-value-clause-stops
returns-in_err-value-clause-stops g c =
    let some : length c.in_ok-line.line.items ≢ 0 = grind (arith, common_steps) in
    let e = err_from_is_err_and c.from_residual-in_err-value.result c.from_residual-in_err-value.ensures.1 in
    rw (e.1, e.2) (ReadingStops-line _ _ _ _ _ c.loop-room.invariant c.in_ok-line.line.items c.in_ok-line.ensures.read c.in_ok-line.ensures.line
    c.in_ok-line.ensures.short Memory some refl)

pub loop-room-preserved : goal.loop-room-preserved
loop-room-preserved g c =
    let some : length c.in_ok-line.line.items ≢ 0 = grind (arith, common_steps) in
    HeaderSoFar-more _ _ _ _ _ c.loop-room.invariant c.in_ok-line.line.items c.in_ok-line.ensures.read c.in_ok-line.ensures.line c.in_ok-line.ensures.short
    (option_map (λ v. v.items) c.in_ok-value.value) c.deref.result.now c.len.result some c.deref.ensures.value
    (grind (arith, common_steps)) c.in_ok-value.ensures

pub returns-clause-stops : goal.returns-clause-stops
returns-clause-stops g c = ReadingStops-full _ _ _ _ c.loop-room.invariant (omega arith)
