use Rattle.std.proofs.Common.{ℕ, ◌<◌, subst, sym}
use Rattle.std.proofs.lemmas.List.{take_rest}
use Rattle.std.proofs.lemmas.List.Elements.{All-drop}
use Rattle.std.specs.Prelude.{All}
use Rattle.source_edits.proofs.narrowing.without_front.Goals as goal

pub returns-clause-offsets : goal.returns-clause-offsets
returns-clause-offsets c all =
    let old = c.args.e.now.old.now in
    let count = c.shared-count.result in
    subst (λ t. All (λ (x : ℕ × ℕ). x.1 < 9223372036854775808) t) (sym (take_rest old count)) (All-drop (λ (x : ℕ × ℕ). x.1 < 9223372036854775808) count old all)
