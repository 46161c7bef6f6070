-- What becomes of a source whose file of settings could not be read.
use Rattle.std.proofs.Common.{◌≡◌, ℕ, List, [], String, Global, inr, string_bytes}
use Rattle.source_settings.specs.Finding.{IsSettled}
use Rattle.source_settings.specs.declared.finding.Settled.TheVariants.{Unread}
use Rattle.everyday_fmt.specs.Fates.{Held}
use Rattle.everyday_lint.specs.Fates.{IsUnread, LintsSource}
use Rattle.everyday_lint.specs.Tool.{ChecksInput}
use Rattle.everyday_lint.specs.declared.files.Fate.{Fate}
use Rattle.everyday_lint.specs.declared.files.Fate.TheVariants.{Absent, Checked, Failed, Unsettled}
use Rattle.everyday_lint.specs.declared.options.LintOptions.{LintOptions}

-- of a file
pub unread_source : (options : LintOptions) (path source : List ℕ) (before after : Held) (unread : String Global) (fate : Fate)
    → after.files ≡ before.files → IsSettled before.files path before.failures after.failures (Unread unread)
    → IsUnread after.cause (string_bytes unread) fate → LintsSource options path source before after fate
unread_source options path source before after unread (Unsettled text) files settled says = (files, inr (unread, settled, says))
unread_source options path source before after unread Absent files settled says = absurd says
unread_source options path source before after unread (Checked linted) files settled says = absurd says
unread_source options path source before after unread (Failed reason) files settled says = absurd says

-- of standard input
pub unread_input : (options : LintOptions) (source : List ℕ) (before after : Held) (unread : String Global) (fate : Fate)
    → after.files ≡ before.files → IsSettled before.files [] before.failures after.failures (Unread unread)
    → IsUnread after.cause (string_bytes unread) fate → ChecksInput options source before after fate
unread_input options source before after unread (Unsettled text) files settled says = (files, inr (unread, settled, says))
unread_input options source before after unread Absent files settled says = absurd says
unread_input options source before after unread (Checked linted) files settled says = absurd says
unread_input options source before after unread (Failed reason) files settled says = absurd says
