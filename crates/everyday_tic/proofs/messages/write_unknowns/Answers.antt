use Rattle.std.proofs.Common.{Bor, List, ℕ, [], get_or, arith}
use Rattle.std.proofs.lemmas.List.{get_or_default}
use Rattle.everyday_tic.specs.Messages.{unknown_if}
use Rattle.everyday_sources.proofs.Appending.{all_in_turn, in_turn}
use Rattle.everyday_tic.proofs.messages.write_unknowns.Goals as goal

-- what is past the end of the names
no_name : Bor (List ℕ)
no_name = record { ref_ptr = (0, 0); now = [] }

pub loop-name-preserved : goal.loop-name-preserved
unfolding no_name
loop-name-preserved c =
    let names = c.args.names.now in
    let at = c.loop-name.name-index in
    in_turn (λ (name : Bor (List ℕ)). name.now) (unknown_if c.args.database.now.texts c.args.count) names at (get_or names at no_name) c.loop-name.out.items
    c.write_if_unknown.new.out.items _ (omega arith) (get_or_default names at no_name (get_or names at no_name) (omega arith))
    c.in_ok-write_if_unknown.ensures c.loop-name.invariant

pub returns : goal.returns
returns c =
    all_in_turn (λ (name : Bor (List ℕ)). name.now) (unknown_if c.args.database.now.texts c.args.count) c.args.names.now c.loop-name.name-index
    c.loop-name.out.items _ (omega arith) c.loop-name.invariant
