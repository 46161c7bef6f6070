use Rattle.std.proofs.Common.{◌∙◌, ℕ, Global, List, String, ap, map, rules, tests}
use Rattle.std.proofs.lemmas.Iterator.{YieldsList-from_slice}
use Rattle.std.proofs.lemmas.Iterator.Search.{any_from_yields_List}
use Rattle.std.specs.Str.{bytes_eq}
use Rattle.std.specs.String.{string_bytes}
use Rattle.source_installed.proofs.Found.{any_seen}
use Rattle.source_installed.specs.Names.{is_among}
use Rattle.source_installed.proofs.names.Installed.has.Goals as goal

pub returns : goal.returns
returns c =
    let name = c.args.name.now in
    any_from_yields_List (λ (other : String Global). bytes_eq (string_bytes other) name) _ _ _ c.any.ensures.ran (YieldsList-from_slice c.deref.result.now cc)
    (λ x b q k. search (rules, tests))
    ∙ (any_seen (λ (other : List ℕ). bytes_eq other name) string_bytes c.deref.result.now
    ∙ ap (λ (names : List (List ℕ)). is_among names name) (ap (map string_bytes) c.deref.ensures.value ∙ c.self.view_is))
