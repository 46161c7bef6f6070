-- The fixes that are certain (own; Language Server Protocol 3.17, "Code Action Request": those that
-- are preferred).
use Rattle.std.specs.Prelude.{ℕ, Bool, true, false, List, [], filter, flat_map, map, if◌then◌else◌}
use Rattle.std.specs.Borrow.{Bor}
use Rattle.ti_source.specs.declared.code.Code.{Code}
use Rattle.ti_source.specs.declared.code.Code.TheVariants as code
use Rattle.source_document.specs.Diagnostics.{Shown}
use Rattle.source_diagnostics.specs.declared.capabilities.Capabilities.{Capabilities}
use Rattle.source_diagnostics.specs.declared.diagnostics.Problem.{Problem}
use Rattle.source_diagnostics.specs.declared.diagnostics.Problem.TheVariants.{Fault}
use Rattle.source_edits.specs.Edits.{is_certain}
use Rattle.source_fixes.specs.Fixes.{FixSeen, fix_seen, fixes_of}
use Rattle.everyday_lint.specs.declared.offers.Offer.{Offer}

-- a fix, and what it is for, as plain data
pub record OfferSeen : Type 0 where
  pub problem : Problem
  pub fix : FixSeen

-- the same of one that holds its words in memory
abbrev pub offer_seen : Offer → OfferSeen
offer_seen offer = record { problem = offer.problem; fix = fix_seen offer.fix }

-- the same of one that is referred to
abbrev pub made_seen : Bor Offer → OfferSeen
made_seen offer = offer_seen offer.now

-- whether a problem can have a fix that is certain: the sign of another kind (W2), or a string that
-- cannot be read (E5)
abbrev pub is_fixable_code : Code → Bool
is_fixable_code code.WrongKind = true
is_fixable_code code.BadString = true
is_fixable_code _ = false

-- the same of a problem
abbrev pub is_fixable : Problem → Bool
is_fixable (Fault code) = is_fixable_code code
is_fixable _ = false

-- those of some fixes of a problem that are certain
abbrev pub certain : Problem → List FixSeen → List OfferSeen
certain problem fixes = map (λ (fix : FixSeen). record { problem = problem; fix = fix }) (filter (λ (fix : FixSeen). is_certain fix.advice) fixes)

-- those of the fixes of a diagnostic that are certain: of the fixes that the language server offers at
-- its range
abbrev pub offers_for : Capabilities → List ℕ → Shown → List OfferSeen
offers_for capabilities text shown =
    if is_fixable shown.problem then certain shown.problem (fixes_of capabilities text shown.range) else []

-- those of diagnostics
abbrev pub offers_of : Capabilities → List ℕ → List Shown → List OfferSeen
offers_of capabilities text all = flat_map (offers_for capabilities text) all
