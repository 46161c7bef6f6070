use Rattle.std.proofs.Common.{sym}
use Rattle.user_extension.specs.View.{parts_of}
use Rattle.user_extension.proofs.Rows.{rows_long}
use Rattle.user_extension.proofs.view.Extension.len.Goals as goal

pub returns : goal.returns
returns c = let e = c.args.self.now in sym (rows_long e.format (parts_of e))
