use Rattle.std.proofs.Common.{arith}
use Rattle.std.proofs.lemmas.Result.{err_from_is_err_and}
use Rattle.lsp_frames.proofs.HeaderLines.{GivesBody-of, ReadingStops-in_body}
use Rattle.lsp_frames.proofs.frames.read_frame.Goals as goal

pub returns-then-len-gt-BODY_BYTES_MAX-clause-read : goal.returns-then-len-gt-BODY_BYTES_MAX-clause-read
returns-then-len-gt-BODY_BYTES_MAX-clause-read g c =
    let header = c.in_ok-len.ensures.read in
    let body = c.in_ok-skip_body.ensures.read in
    let all = GivesBody-of _ _ _ header.0 c.in_ok-len.len header.1 header.2 body.0 body.2 body.1 in
    (body.0, all, omega (arith, body.1, c.if-len-gt-BODY_BYTES_MAX.true))

pub returns-in_err-skip_body-clause-stops : goal.returns-in_err-skip_body-clause-stops
returns-in_err-skip_body-clause-stops g c =
    let header = c.in_ok-len.ensures.read in
    let e = err_from_is_err_and c.from_residual-in_err-skip_body.result c.from_residual-in_err-skip_body.ensures.1 in
    rw (e.1, e.2) (ReadingStops-in_body _ _ _ header.0 c.in_ok-len.len header.1 header.2 _ c.in_err-skip_body.ensures.stops)

pub returns-in_err-read_body-clause-stops : goal.returns-in_err-read_body-clause-stops
returns-in_err-read_body-clause-stops g c =
    let header = c.in_ok-len.ensures.read in
    let e = err_from_is_err_and c.from_residual-in_err-read_body.result c.from_residual-in_err-read_body.ensures.1 in
    rw (e.1, e.2) (ReadingStops-in_body _ _ _ header.0 c.in_ok-len.len header.1 header.2 _ c.in_err-read_body.ensures.stops)

pub returns-clause-read : goal.returns-clause-read
returns-clause-read g c =
    let header = c.in_ok-len.ensures.read in
    let all = GivesBody-of _ _ _ header.0 c.in_ok-len.len header.1 header.2 _ c.in_ok-read_body.ensures.read c.in_ok-read_body.ensures.len in
    (all, omega (arith, c.in_ok-read_body.ensures.len, c.if-len-gt-BODY_BYTES_MAX.false))
