use Rattle.std.proofs.Common.{◌≡◌, ℕ, List, ◌++◌, ap, map, sym, ◌∙◌}
use Rattle.std.proofs.lemmas.Result.{on_ok_weaker}
use Rattle.std.proofs.lemmas.Simd.{map-map}
use Rattle.source_descriptions.specs.UserDescriptions.{UserDescribed, user_description_seen}
use Rattle.source_edits.specs.Edits.{edit_seen, renames}
use Rattle.source_fixes.specs.UserNames.{user_names}
use Rattle.source_fixes.proofs.user_names.push_renames.Goals as goal

pub returns : goal.returns
returns c =
    let name : UserDescribed → List ℕ = λ said. said.name in
    let names_are : map (λ other. other.now) c.deref-2.result.now ≡ user_names =
    ap (map (λ other. other.now)) c.deref-2.ensures.value ∙ c.in_ok-names.ensures
    ∙ sym (map-map name user_description_seen c.deref.result.now)
    ∙ ap (map name) (ap (map user_description_seen) c.deref.ensures.value ∙ c.in_ok-all.ensures) in
    on_ok_weaker c.push_nearest.result
    (λ pushed. pushed ∙ ap (λ (others : List (List ℕ)). map edit_seen c.args.edits.now.items ++ renames c.args.name.now others) names_are)
    c.push_nearest.ensures
