-- What becomes of a file, by the fixes that are made in it.
use Rattle.std.proofs.Common.{◌≡◌, ◌≢◌, ◌∙◌, ◌+◌, ◌==◌, ℕ, Bool, true, false, List, [], ◌∷◌, Option, Result, Ok, Err, String, Global, string_bytes, ap, inl, inr, length, map, refl, subst, sym}
use Rattle.std.proofs.lemmas.Bool.{false≢true}
use Rattle.std.specs.Prelude.{OnErr, if◌then◌else◌}
use Rattle.tools_devices.specs.Tree.{ChangesOnly, Files, Sets}
use Rattle.source_settings.specs.Finding.{IsReadFor, IsSettled}
use Rattle.source_settings.specs.Settings.{SeenSettings}
use Rattle.source_settings.specs.declared.finding.Settled.TheVariants.{Unread, Wrong}
use Rattle.everyday_fmt.specs.Fates.{Held, Holds, IsReason}
use Rattle.everyday_lint.specs.Checking.{made_in}
use Rattle.everyday_lint.specs.Fates.{Finds, LintsFile, LintsSource, MayChange, Fixes, FixesIfSome, SettlesFor, fixed_source}
use Rattle.everyday_lint.specs.Fixing.{made}
use Rattle.everyday_lint.specs.Offers.{OfferSeen}
use Rattle.everyday_lint.specs.declared.files.Fate.{Fate}
use Rattle.everyday_lint.specs.declared.files.Fate.TheVariants.{Absent, Checked, Failed, Unsettled}
use Rattle.everyday_lint.specs.declared.options.LintOptions.{LintOptions}

-- an error leaves what is weaker, too
pub on_err_weaker : {A E : Type 0} (r : Result A E) (P Q : Type 0) → (P → Q) → OnErr r P → OnErr r Q
on_err_weaker (Ok x) P Q f p = tt
on_err_weaker (Err e) P Q f p = f p

-- what is seen of some is something
pub some_made : {X : Type 0} (see : X → OfferSeen) (xs : List X) → (length xs == 0) ≡ false → map see xs ≢ []
some_made see [] some none = absurd (false≢true (sym some))
some_made see (x ∷ xs) some none = absurd cc

-- a file changes only if fixes are made
pub may_change : (fix : Bool) (text : List ℕ) (offers : List OfferSeen) (path : List ℕ) (before after : Option Files)
    → made text 0 (if fix then offers else []) ≢ [] → ChangesOnly path before after → MayChange fix path before after
may_change true text offers path before after some changes = changes
may_change false text offers path before after some changes = absurd (some refl)

-- if there are fixes, they are made
fixes_some : (options : LintOptions) (settings : SeenSettings) (path source : List ℕ) (offers : List OfferSeen) (before after : Held) (fate : Fate)
    → offers ≢ [] → Fixes options settings path source offers before after fate → FixesIfSome options settings path source offers before after fate
fixes_some options settings path source [] before after fate some fixes = absurd (some refl)
fixes_some options settings path source (offer ∷ offers) before after fate some fixes = fixes

-- what is found out about a source in which fixes are made
pub finds_some : (options : LintOptions) (settings : SeenSettings) (path source : List ℕ) (offers : List OfferSeen) (before after : Held) (fate : Fate)
    → offers ≡ made_in options source → offers ≢ [] → Fixes options settings path source offers before after fate
    → Finds options settings path source before after fate
finds_some options settings path source offers before after fate is some fixes =
    subst (λ (all : List OfferSeen). FixesIfSome options settings path source all before after fate) is
    (fixes_some options settings path source offers before after fate some fixes)

-- what is found out does not depend on why the tree failed before
module _ (options : LintOptions) (path source : List ℕ) (before mid after : Held) (files : mid.files ≡ before.files) (failures : mid.failures ≡ before.failures) where
  from_before : (settings : SeenSettings) (offers : List OfferSeen) (fate : Fate) → FixesIfSome options settings path source offers mid after fate
      → FixesIfSome options settings path source offers before after fate
  from_before settings [] (Checked linted) fixes = (fixes.0, fixes.1 ∙ files, fixes.2 ∙ failures)
  from_before settings [] Absent fixes = absurd fixes
  from_before settings [] (Failed reason) fixes = absurd fixes
  from_before settings [] (Unsettled text) fixes = absurd fixes
  from_before settings (offer ∷ offers) (Checked linted) fixes =
      (fixes.0, subst (λ (held : Option Files). Sets (path, fixed_source source (offer ∷ offers)) held after.files) files fixes.1, fixes.2 ∙ failures)
  from_before settings (offer ∷ offers) Absent fixes = absurd fixes
  from_before settings (offer ∷ offers) (Unsettled text) fixes = absurd fixes
  from_before settings (offer ∷ offers) (Failed reason) fixes =
      (fixes.0, fixes.1 ∙ ap (λ n. n + 1) failures, subst (λ (held : Option Files). ChangesOnly path held after.files) files fixes.2)

  settled_before : (settings : SeenSettings) → SettlesFor mid.files path settings → SettlesFor before.files path settings
  settled_before settings settled = subst (λ (held : Option Files). SettlesFor held path settings) files settled

  finds_before : (settings : SeenSettings) (fate : Fate) → Finds options settings path source mid after fate
      → Finds options settings path source before after fate
  finds_before settings fate finds = from_before settings (made_in options source) fate finds

  -- what is found out about a source for which this is settled
  found_by : (settings : SeenSettings) (offers : List OfferSeen) (fate : Fate) → SettlesFor before.files path settings → made_in options source ≡ offers
      → FixesIfSome options settings path source offers before after fate → LintsSource options path source before after fate
  found_by settings offers (Checked linted) settled is fixes =
      (settings, settled, subst (λ (all : List OfferSeen). FixesIfSome options settings path source all before after (Checked linted)) (sym is) fixes)
  found_by settings offers (Failed reason) settled is fixes =
      (settings, settled, subst (λ (all : List OfferSeen). FixesIfSome options settings path source all before after (Failed reason)) (sym is) fixes)
  found_by settings [] Absent settled is fixes = absurd fixes
  found_by settings (offer ∷ offers) Absent settled is fixes = absurd fixes
  found_by settings [] (Unsettled text) settled is fixes = absurd fixes
  found_by settings (offer ∷ offers) (Unsettled text) settled is fixes = absurd fixes

  pub found_settled : (settings : SeenSettings) (fate : Fate) → SettlesFor before.files path settings → Finds options settings path source mid after fate
      → LintsSource options path source before after fate
  found_settled settings fate settled finds =
      found_by settings (made_in options source) fate settled refl (finds_before settings fate finds)

  -- the same of what is found out from later on
  source_before : (fate : Fate) → LintsSource options path source mid after fate → LintsSource options path source before after fate
  source_before Absent lints = lints
  source_before (Checked linted) lints = (lints.0, settled_before lints.0 lints.1, finds_before lints.0 (Checked linted) lints.2)
  source_before (Failed reason) lints = (lints.0, settled_before lints.0 lints.1, finds_before lints.0 (Failed reason) lints.2)
  source_before (Unsettled text) lints = (
    lints.0 ∙ files,
    elim lints.1 [
      | inl wrong ↦ inl (subst (λ (held : Option Files). IsReadFor held path (Wrong text)) files wrong.0, wrong.1 ∙ failures)
      | inr unread ↦
          inr (
            unread.0,
            subst (λ (held : Option Files). IsSettled held path before.failures after.failures (Unread unread.0)) files
                (subst (λ (count : ℕ). IsSettled mid.files path count after.failures (Unread unread.0)) failures unread.1),
            unread.2,
          )
    ],
  )

  -- a failure is one of what is found out
  failed_by : (reason : String Global) (settings : SeenSettings) (offers : List OfferSeen) → FixesIfSome options settings path source offers before after (Failed reason)
      → IsReason after.cause (string_bytes reason) × (after.failures ≡ before.failures + 1)
  failed_by reason settings [] fixes = absurd fixes
  failed_by reason settings (offer ∷ offers) fixes = (fixes.0, fixes.1)

  lints_by : (fate : Fate) → Holds path before.files source → LintsSource options path source before after fate → LintsFile options path before after fate
  lints_by Absent holds lints = absurd lints
  lints_by (Checked linted) holds lints = (source, holds, lints)
  lints_by (Unsettled text) holds lints = (source, holds, lints)
  lints_by (Failed reason) holds lints =
      let failed = failed_by reason lints.0 (made_in options source) lints.2 in
      (failed.0, failed.1, inr (source, holds, lints))

  -- what becomes of a file, by what is found out about its source
  pub lints_found : (fate : Fate) → Holds path before.files source → LintsSource options path source mid after fate → LintsFile options path before after fate
  lints_found fate holds lints = lints_by fate holds (source_before fate lints)
