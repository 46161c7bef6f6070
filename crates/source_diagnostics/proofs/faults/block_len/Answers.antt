use Rattle.std.proofs.Common.{◌≡◌, ap, subst, sym, ◌∙◌, arith}
use Rattle.std.proofs.lemmas.List.{get_or_read}
use Rattle.std.proofs.lemmas.List.Elements.{All-more}
use Rattle.user_compiling.specs.Faults.{block_of, fault_seen}
use Rattle.user_compiling.specs.declared.fault.ExtendedFault.{ExtendedFault}
use Rattle.source_diagnostics.proofs.BlockFaults.{all_of_block}
use Rattle.source_diagnostics.proofs.faults.block_len.Goals as goal

pub loop-at-preserved : goal.loop-at-preserved
loop-at-preserved c =
    All-more (λ (fault : ExtendedFault). block_of (fault_seen fault) ≡ c.args.block) c.args.faults.now c.loop-at.at c.index-faults-at.result (omega arith) c.loop-at.invariant
    (subst (λ (fault : ExtendedFault). block_of (fault_seen fault) ≡ c.args.block) c.index-faults-at.is (sym c.block.ensures ∙ c.if-block.false))

pub returns-then-block-clause-block : goal.returns-then-block-clause-block
returns-then-block-clause-block c = record {
  same = c.loop-at.invariant;
  other = λ d within is. c.if-block.true
      (c.block.ensures ∙ ap (λ (fault : ExtendedFault). block_of (fault_seen fault)) (get_or_read c.args.faults.now c.loop-at.at c.index-faults-at.result within c.index-faults-at.is d) ∙ is);
}

pub returns-clause-block : goal.returns-clause-block
returns-clause-block c = all_of_block c.args.block c.args.faults.now c.loop-at.at _ (omega arith) (omega arith) c.loop-at.invariant
