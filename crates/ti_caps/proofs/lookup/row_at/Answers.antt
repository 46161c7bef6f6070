-- the whole name of the capability is compared
use Rattle.std.proofs.Common.{◌≡◌, ◌∙◌, sym, true, false, bytes_eq}
use Rattle.std.proofs.lemmas.Slice.Eq.{bytes_eq-Decides}
use Rattle.ti_caps.specs.Tables.{capability}
use Rattle.ti_caps.proofs.KeyTable.{numbers_as_long, is_there, row_here, other_here}
use Rattle.ti_caps.proofs.lookup.row_at.Goals as goal

pub number_at-requires : goal.number_at-requires
number_at-requires c = rw numbers_as_long c.requires

pub text_of-requires : goal.text_of-requires
text_of-requires c = is_there c.args.place _ (capability c.capability_numbered-kind.result.0 c.capability_numbered-kind.result.1) c.requires
    c.number_at.ensures c.capability_numbered-kind.ensures

pub returns-then-eq-clause-found : goal.returns-then-eq-clause-found
returns-then-eq-clause-found c =
    row_here c.args.place _ (capability c.capability_numbered-kind.result.0 c.capability_numbered-kind.result.1) c.requires c.number_at.ensures
    c.capability_numbered-kind.ensures c.args.name.now
    (sym c.text_of.ensures ∙ sym c.as_bytes.ensures.value ∙ (bytes_eq-Decides c.as_bytes.result.now c.args.name.now).0 (sym c.eq.ensures ∙ c.if-eq.true))

pub returns-else-eq-clause-none : goal.returns-else-eq-clause-none
returns-else-eq-clause-none c = other_here c.args.place _ (capability c.capability_numbered-kind.result.0 c.capability_numbered-kind.result.1) c.requires
    c.number_at.ensures c.capability_numbered-kind.ensures c.args.name.now (λ same.
    let is : bytes_eq c.as_bytes.result.now c.args.name.now ≡ true =
    (bytes_eq-Decides c.as_bytes.result.now c.args.name.now).1 (c.as_bytes.ensures.value ∙ c.text_of.ensures ∙ same) in
    let not : bytes_eq c.as_bytes.result.now c.args.name.now ≡ false = sym c.eq.ensures ∙ c.if-eq.false in
    cc)
