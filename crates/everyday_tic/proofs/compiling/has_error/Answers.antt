use Rattle.std.proofs.Common.{◌&&◌, ◌∙◌, rules, tests}
use Rattle.std.specs.Prelude.{nat_lt}
use Rattle.std.proofs.lemmas.Iterator.{YieldsList-from_slice}
use Rattle.std.proofs.lemmas.Iterator.Search.{any_from_yields_List}
use Rattle.user_compiling.specs.Faults.{ExtendedSourceFault, block_of, fault_seen, is_error_there}
use Rattle.user_compiling.specs.declared.fault.ExtendedFault.{ExtendedFault}
use Rattle.everyday_sources.proofs.Finding.{list_any-map}
use Rattle.everyday_tic.proofs.compiling.has_error.Goals as goal

pub returns : goal.returns
returns c =
    any_from_yields_List (λ (f : ExtendedFault). nat_lt (block_of (fault_seen f)) c.args.count && is_error_there (fault_seen f)) _ _ _ c.any.ensures.ran
    (YieldsList-from_slice c.args.faults.now cc) (λ x b q k. search (rules, tests))
    ∙ list_any-map (λ (f : ExtendedSourceFault). nat_lt (block_of f) c.args.count && is_error_there f) fault_seen c.args.faults.now
