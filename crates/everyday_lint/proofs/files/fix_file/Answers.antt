-- the source with the fixes made is what is written, and what is told of
use Rattle.std.proofs.Common.{◌≡◌, ◌∙◌, List, ap, arith, map, subst, ℕ}
use Rattle.tools_devices.specs.Tree.{Sets}
use Rattle.source_plain.specs.Reading.{without_mark}
use Rattle.source_plain.specs.Writing.{marked_like}
use Rattle.source_settings.specs.Settings.{settings_seen}
use Rattle.everyday_lint.specs.Checking.{IsLintedSource}
use Rattle.everyday_lint.specs.Fates.{fixed_source}
use Rattle.everyday_lint.specs.Fixing.{fix_lines, fixed_text}
use Rattle.everyday_lint.specs.Offers.{OfferSeen, made_seen}
use Rattle.everyday_lint.proofs.files.fix_file.Goals as goal

pub returns-in-Ok-clause-done : goal.returns-in-Ok-clause-done
returns-in-Ok-clause-done g c =
    let path = c.args.path.now in
    let source = c.args.source.now in
    let offers : List OfferSeen = map made_seen c.args.offers.now in
    let linted = c.in_ok-linted.linted in
    let fixes : c.in_ok-fixes.fixes.items ≡ fix_lines path (without_mark source) offers =
    c.in_ok-fixes.ensures ∙ ap (λ (text : List ℕ). fix_lines path text offers) c.without_mark-text.ensures in
    let made : c.in_ok-fixed_text-2.fixed_text.items ≡ fixed_source source offers =
    c.in_ok-fixed_text-2.ensures ∙ ap (marked_like source) (c.in_ok-fixed_text.ensures ∙ ap (λ (text : List ℕ). fixed_text text 0 offers) c.without_mark-text.ensures) in
    let settings = settings_seen c.args.settings.now in
    let told : IsLintedSource c.args.options settings path (fixed_source source offers) (fix_lines path (without_mark source) offers) linted =
    subst (λ (before : List ℕ). IsLintedSource c.args.options settings path (fixed_source source offers) before linted) fixes
    (subst (λ (all : List ℕ). IsLintedSource c.args.options settings path all c.in_ok-fixes.fixes.items linted) (c.deref-2.ensures.value ∙ made) c.in_ok-linted.ensures.linted) in
    let written : Sets (path, fixed_source source offers) (g.T.Tree.files c.args.tree.now) (g.T.Tree.files c.write.new.self) =
    subst (λ (bytes : List ℕ). Sets (path, bytes) (g.T.Tree.files c.args.tree.now) (g.T.Tree.files c.write.new.self)) (c.deref-3.ensures.value ∙ made)
    c.in-Ok.ensures.written in
    (told, written, omega (arith, c.in-Ok.ensures.counted))
