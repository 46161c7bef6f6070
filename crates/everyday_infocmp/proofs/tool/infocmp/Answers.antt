-- there are as many files as the mode takes
use Rattle.std.proofs.Common.{Bor, ◌≡◌, ◌≤◌, List, ℕ, Some, length, map, subst, sym}
use Rattle.std.specs.Prelude.{option_map}
use Rattle.std.specs.String.{string_bytes}
use Rattle.tools_directories.specs.declared.finding.Found.{Found}
use Rattle.everyday_infocmp.specs.Names.{all_names, least_names}
use Rattle.everyday_infocmp.proofs.Files.{enough-files}
use Rattle.everyday_infocmp.proofs.tool.infocmp.Goals as goal

pub print-requires : goal.print-requires
print-requires g c =
    let m = c.args.request.now.mode in
    let given = map string_bytes c.as_slice.result.now in
    let own = option_map (λ (name : Bor (List ℕ)). name.now) c.args.own in
    let named : all_names m given own ≡ Some (map (λ (name : Bor (List ℕ)). name.now) c.as_slice-2.result.now) =
    rw c.as_slice-2.ensures.value c.in_ok-names.ensures.ok in
    subst (λ (files : List Found). least_names m ≤ length files) (sym c.as_slice-in-Ok.ensures.value)
    (enough-files m given own _ _ _ _ _ _ _ _ named c.in-Ok.ensures.files)
