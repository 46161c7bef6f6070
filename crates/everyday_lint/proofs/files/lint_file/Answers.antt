-- what is in the file is told of
use Rattle.std.proofs.Common.{◌≡◌, List, Option, Some, ap, arith, subst, ℕ}
use Rattle.std.specs.Option.{option_map}
use Rattle.std.proofs.lemmas.Result.{IfOk-weaker}
use Rattle.tools_devices.specs.Tree.{FindsFile}
use Rattle.everyday_fmt.specs.Fates.{Holds, held, whole_size}
use Rattle.everyday_lint.proofs.FixedFiles.{lints_found}
use Rattle.everyday_lint.proofs.files.lint_file.Goals as goal

pub returns-in-Ok-Some-clause-done : goal.returns-in-Ok-Some-clause-done
returns-in-Ok-Some-clause-done g c =
    let path = c.args.path.now in
    let source = c.in-Ok-Some.source.items in
    let before = held g.T.Tree.files g.T.Tree.failures g.T.ReasonedTree.cause c.args.tree.now in
    let mid = held g.T.Tree.files g.T.Tree.failures g.T.ReasonedTree.cause c.read.new.self in
    let after = held g.T.Tree.files g.T.Tree.failures g.T.ReasonedTree.cause c.lint_source.new.tree in
    let read = c.in-Ok-Some.ensures in
    let found : option_map (λ bytes. bytes.items) c.in-Ok-Some.field-0 ≡ Some source = ap (option_map (λ bytes. bytes.items)) c.in-Ok-Some.field-0-is in
    let holds : Holds path before.files source = subst (λ (file : Option (List ℕ)). FindsFile path whole_size before.files file) found read.found in
    IfOk-weaker c.lint_source.result _ _
    (λ fate finds. lints_found c.args.options path source before mid after read.kept (omega (arith, read.counted)) fate holds finds) c.lint_source.ensures.done
