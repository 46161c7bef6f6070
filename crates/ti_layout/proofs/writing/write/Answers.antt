use Rattle.std.proofs.Common.{◌≡◌, ◌<◌, ◌≤◌, length, subst, sym, arith, rules, ℕ, Vec, Global, Result, Err}
use Rattle.std.specs.Result.{IsErrAnd}
use Rattle.ti_layout.specs.declared.writing.WriteError.{WriteError}
use Rattle.ti_layout.specs.declared.writing.WriteError.TheVariants.{TooLarge, Memory}
use Rattle.ti_layout.specs.Image.{image, image_limit}
use Rattle.ti_layout.specs.Values.{contents}
use Rattle.ti_layout.proofs.Assembling.{is_small, its_image, over_limit, own_sizes, within_limit}
use Rattle.ti_layout.proofs.writing.write.Goals as goal

memory_only : (r : Result (Vec ℕ Global) WriteError) → r ≡ Err TooLarge → IsErrAnd r (λ e. e ≡ Memory) → ⊥
memory_only r e f = let never : TooLarge ≡ Memory = subst (λ r. IsErrAnd r (λ e. e ≡ Memory)) e f in cc

pub returns-then-size-limit-clause-too_large : goal.returns-then-size-limit-clause-too_large
returns-then-size-limit-clause-too_large c =
    let names = c.args.names.now in
    let over = subst (λ t. image_limit (contents t) < length (image names (contents t))) c.entries-entries.ensures.entries
    (over_limit names _ _ c.own_header-header.ensures _ _ c.size.ensures c.limit.ensures c.if-size-limit.true) in
    ((λ e. (omega arith, over)), (λ p. search rules))

pub entry_bytes-requires-clause-small : goal.entry_bytes-requires-clause-small
entry_bytes-requires-clause-small c = is_small c.args.names.now _ _ c.own_header-header.ensures
    (within_limit c.args.names.now _ _ c.own_header-header.ensures _ _ c.size.ensures c.limit.ensures c.if-size-limit.false)

pub entry_bytes-requires-clause-sizes : goal.entry_bytes-requires-clause-sizes
entry_bytes-requires-clause-sizes c = own_sizes _ c.args.names.now _ _ c.own_header-header.ensures

pub returns-in_err-entry_bytes-clause-too_large : goal.returns-in_err-entry_bytes-clause-too_large
returns-in_err-entry_bytes-clause-too_large c =
    let names = c.args.names.now in
    let small = subst (λ t. length (image names (contents t)) ≤ image_limit (contents t)) c.entries-entries.ensures.entries
    (within_limit names _ _ c.own_header-header.ensures _ _ c.size.ensures c.limit.ensures c.if-size-limit.false) in
    ((λ e. absurd (memory_only _ e c.from_residual.ensures.1)), (λ p. absurd (omega (arith, p.1, small))))

pub returns-in_err-entry_bytes-clause-memory : goal.returns-in_err-entry_bytes-clause-memory
returns-in_err-entry_bytes-clause-memory c =
    let names = c.args.names.now in
    let small = subst (λ t. length (image names (contents t)) ≤ image_limit (contents t)) c.entries-entries.ensures.entries
    (within_limit names _ _ c.own_header-header.ensures _ _ c.size.ensures c.limit.ensures c.if-size-limit.false) in
    λ e. (omega arith, small)

pub returns-clause-ok : goal.returns-clause-ok
returns-clause-ok c =
    let names = c.args.names.now in
    let small = subst (λ t. length (image names (contents t)) ≤ image_limit (contents t)) c.entries-entries.ensures.entries
    (within_limit names _ _ c.own_header-header.ensures _ _ c.size.ensures c.limit.ensures c.if-size-limit.false) in
    let made = subst (λ t. c.in_ok-entry_bytes.field-0.items ≡ image names (contents t)) c.entries-entries.ensures.entries
    (its_image names _ _ c.own_header-header.ensures _ c.in_ok-entry_bytes.ensures) in
    (made, omega arith, subst (λ x. length x ≤ image_limit (contents c.args.table.now)) (sym made) small)

pub returns-clause-too_large : goal.returns-clause-too_large
returns-clause-too_large c =
    let names = c.args.names.now in
    let small = subst (λ t. length (image names (contents t)) ≤ image_limit (contents t)) c.entries-entries.ensures.entries
    (within_limit names _ _ c.own_header-header.ensures _ _ c.size.ensures c.limit.ensures c.if-size-limit.false) in
    ((λ e. absurd cc), (λ p. absurd (omega (arith, p.1, small))))
