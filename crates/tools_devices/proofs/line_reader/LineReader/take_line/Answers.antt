use Rattle.std.proofs.Common.{◌∷◌, ◌∙◌, [], length, sym, append_assoc, append-nil, arith}
use Rattle.std.proofs.lemmas.List.{drop_all}
use Rattle.std.proofs.lemmas.Result.{err_from_is_err_and}
use Rattle.tools_devices.proofs.line_reader.LineReader.take_line.Goals as goal

pub returns-in_err-extend-in-Some-clause-taken : goal.returns-in_err-extend-in-Some-clause-taken
returns-in_err-extend-in-Some-clause-taken c =
    let p = err_from_is_err_and c.from_residual.result c.from_residual.ensures.1 in
    let over = c.in_err-extend-in-Some.ensures.over in
    let found = c.in-Some.ensures in
    rw (p.1, p.2) (over.0, _, _, sym c.as_slice-ahead.ensures.bytes ∙ found.1 ∙ append_assoc _ (10 ∷ []) _, found.2, over.1)

pub returns-in_err-extend-in-None-clause-taken : goal.returns-in_err-extend-in-None-clause-taken
returns-in_err-extend-in-None-clause-taken c =
    let p = err_from_is_err_and c.from_residual-in_err-extend-in-None.result c.from_residual-in_err-extend-in-None.ensures.1 in
    let over = c.in_err-extend-in-None.ensures.over in
    rw (p.1, p.2) (over.0, _, [], sym c.as_slice-ahead.ensures.bytes ∙ sym (append-nil _), c.in-None.ensures, over.1)

pub returns-in_ok-extend-in-Some-clause-taken : goal.returns-in_ok-extend-in-Some-clause-taken
returns-in_ok-extend-in-Some-clause-taken c =
    let found = c.in-Some.ensures in
    (_, rw (c.skip.ensures, ← c.as_slice-ahead.ensures.bytes) found.1, found.2, c.in_ok-extend-in-Some.ensures.bytes, c.in_ok-extend-in-Some.ensures.within)

pub returns-in_ok-extend-in-None-clause-taken : goal.returns-in_ok-extend-in-None-clause-taken
returns-in_ok-extend-in-None-clause-taken c =
    let is = c.as_slice-ahead.ensures.bytes in (
      rw is at c.in-None.ensures,
      c.skip-in-None.ensures ∙ rw is
          (drop_all (length c.args.self.now.ahead) c.args.self.now.ahead (omega arith)),
      rw is at
          c.in_ok-extend-in-None.ensures.bytes,
      c.in_ok-extend-in-None.ensures.within,
    )
